-- In which phase an own request is unanswered.
use Rattle.std.proofs.Common.{◌≡◌, Bool, true, false, if◌then◌else◌, [], ◌∷◌, arith, refl}
use Rattle.std.proofs.lemmas.Bool.{and_parts}
use Rattle.osi_base.specs.declared.session_word.SessionWord.{SessionWord}
use Rattle.osi_base.specs.declared.session_word.SessionWord.TheVariants.{Connect, Accept, Refuse, Finish, Disconnect, Abort, AbortAccept, Resynchronize, ResynchronizeAck, ActivityInterrupt, ActivityInterruptAck, ActivityDiscard, ActivityDiscardAck}
use Rattle.session_subset.specs.declared.state.Awaited.{Awaited}
use Rattle.session_subset.specs.declared.state.Awaited.TheVariants.{Nothing, Restart, Interrupt, Discard}
use Rattle.session_subset.specs.declared.state.SessionPhase.{SessionPhase}
use Rattle.session_subset.specs.declared.state.SessionPhase.TheVariants.{Idle, Opening, Up, Broken, Recovering, Over}
use Rattle.session_subset.specs.declared.state.SessionRole.{SessionRole}
use Rattle.session_subset.specs.declared.state.SessionState.{SessionState}
use Rattle.session_subset.specs.Steps.{requested, took, passed, transport_asked, transport_refused, broke}
use Rattle.session_subset.specs.Reading.{state_of, asking, asked, asked_by, refused, broken, phase_requested, phase_taken, awaited_requested, awaited_taken}
use Rattle.session_subset.specs.Requests.{may_request, is_up}
use Rattle.session_subset.specs.Takings.{may_take}
use Rattle.session_subset.specs.Laws.{is_fitting, AwaitedInPhase}
use Rattle.session_subset.proofs.TurnLaws.{may_take-took}

asking-fits : (phase : SessionPhase) (awaited : Awaited) → is_fitting phase awaited ≡ true → is_fitting (asking phase) awaited ≡ true
asking-fits Idle awaited f = f
asking-fits Broken awaited f = f
asking-fits _ awaited f = f

asked-fits : (phase : SessionPhase) (awaited : Awaited) → is_fitting phase awaited ≡ true → is_fitting (asked phase) awaited ≡ true
asked-fits Idle awaited f = f
asked-fits _ awaited f = f

asked_by-fits : (initiator : Bool) (phase : SessionPhase) (awaited : Awaited) → is_fitting phase awaited ≡ true → is_fitting (asked_by initiator phase) awaited ≡ true
asked_by-fits true phase awaited f = asking-fits phase awaited f
asked_by-fits false phase awaited f = asked-fits phase awaited f

refused-fits : (phase : SessionPhase) (awaited : Awaited) → is_fitting phase awaited ≡ true → is_fitting (refused phase) awaited ≡ true
refused-fits Opening awaited f = refl
refused-fits Recovering awaited f = refl
refused-fits _ awaited f = f

choice-fits : (reliable : Bool) → is_fitting (if reliable then Broken else Over) Nothing ≡ true
choice-fits true = refl
choice-fits false = refl

broken-fits : (reliable : Bool) (phase : SessionPhase) → is_fitting (broken reliable phase) Nothing ≡ true
broken-fits reliable Idle = refl
broken-fits reliable Over = refl
broken-fits reliable Opening = refl
broken-fits reliable _ = choice-fits reliable

-- what fits while the association stands
up-fits : (phase : SessionPhase) (awaited : Awaited) → is_up phase ≡ true → is_fitting Up awaited ≡ true → is_fitting phase awaited ≡ true
up-fits Up awaited up f = f
up-fits _ awaited up f = grind arith

requested-fits : (role : SessionRole) (state : SessionState) (word : SessionWord) → may_request role state word ≡ true → is_fitting state.phase state.awaited ≡ true → is_fitting (phase_requested state.phase word) (awaited_requested state.awaited word) ≡ true
requested-fits role state (Connect connect) may f = asking-fits state.phase state.awaited f
requested-fits role state (Accept options version initial requirements user) may f = refl
requested-fits role state (Refuse transport reason user) may f = refused-fits state.phase state.awaited f
requested-fits role state (Finish transport user) may f = refl
requested-fits role state (Disconnect user) may f = refl
requested-fits role state (Abort transport user) may f = refl
requested-fits role state (Resynchronize number user) may f = up-fits state.phase (Restart number) (and_parts _ _ may).0 refl
requested-fits role state (ActivityInterrupt reason) may f = up-fits state.phase Interrupt may refl
requested-fits role state (ActivityDiscard reason) may f = up-fits state.phase Discard may refl
requested-fits role state _ may f = f

took-fits : (role : SessionRole) (state : SessionState) (word : SessionWord) → may_take role state word ≡ true → is_fitting state.phase state.awaited ≡ true → is_fitting (phase_taken state.phase word) (awaited_taken state.awaited word) ≡ true
took-fits role state (Connect connect) may f = asked-fits state.phase state.awaited f
took-fits role state (Accept options version initial requirements user) may f = refl
took-fits role state (Refuse transport reason user) may f = refused-fits state.phase state.awaited f
took-fits role state (Disconnect user) may f = refl
took-fits role state (Abort transport user) may f = refl
took-fits role state AbortAccept may f = refl
took-fits role state (Resynchronize number user) may f =
    up-fits state.phase Nothing (and_parts _ _ (and_parts _ _ (and_parts _ _ may).0).0).0 refl
took-fits role state (ResynchronizeAck number user) may f = up-fits state.phase Nothing (and_parts _ _ may).0 refl
took-fits role state ActivityInterruptAck may f = up-fits state.phase Nothing (and_parts _ _ may).0 refl
took-fits role state ActivityDiscardAck may f = up-fits state.phase Nothing (and_parts _ _ may).0 refl
took-fits role state _ may f = f

pub awaited_in_phase : AwaitedInPhase
awaited_in_phase role [] lawful = refl
awaited_in_phase role (requested word ∷ history) lawful =
    requested-fits role (state_of role history) word lawful.0.may_request (awaited_in_phase role history lawful.1)
awaited_in_phase role (took word ∷ history) lawful =
    took-fits role (state_of role history) word (may_take-took role (state_of role history) word lawful.0) (awaited_in_phase role history lawful.1)
awaited_in_phase role (passed word ∷ history) lawful = awaited_in_phase role history lawful.1
awaited_in_phase role (transport_asked ∷ history) lawful =
    asked_by-fits role.initiator (state_of role history).phase (state_of role history).awaited (awaited_in_phase role history lawful.1)
awaited_in_phase role (transport_refused ∷ history) lawful =
    refused-fits (state_of role history).phase (state_of role history).awaited (awaited_in_phase role history lawful.1)
awaited_in_phase role (broke ∷ history) lawful = broken-fits role.reliable (state_of role history).phase
