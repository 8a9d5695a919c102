-- The turn and the own giving, over lawful histories.
use Rattle.std.proofs.Common.{◌≡◌, ℕ, Bool, true, false, not, List, [], ◌∷◌, Option, Some, None, Ok, arith, refl, sym, ◌∙◌}
use Rattle.std.proofs.lemmas.Bool.{and_parts}
use Rattle.osi_base.specs.declared.session_word.SessionWord.{SessionWord}
use Rattle.osi_base.specs.declared.session_word.SessionWord.TheVariants.{Connect, Accept, Refuse, Finish, Disconnect, GiveTokens, GiveTokensConfirm, GiveTokensAck, Resynchronize, ResynchronizeAck, ActivityInterrupt, ActivityInterruptAck, ActivityDiscard, ActivityDiscardAck, ActivityEnd, ActivityEndAck}
use Rattle.session_subset.specs.declared.session.Taken.TheVariants.{Word}
use Rattle.session_subset.specs.declared.state.Awaited.{Awaited}
use Rattle.session_subset.specs.declared.state.Awaited.TheVariants as awaiting
use Rattle.session_subset.specs.declared.state.Owed.{Owed}
use Rattle.session_subset.specs.declared.state.Owed.TheVariants as owing
use Rattle.session_subset.specs.declared.state.SessionRole.{SessionRole}
use Rattle.session_subset.specs.declared.state.SessionState.{SessionState}
use Rattle.session_subset.specs.Steps.{History, requested, took, passed, transport_asked, transport_refused, broke}
use Rattle.session_subset.specs.Reading.{after, state_of, awaited_requested, awaited_taken, owed_requested, owed_taken}
use Rattle.session_subset.specs.Requests.{may_request, refusal_of, owes_restart}
use Rattle.session_subset.specs.Takings.{taking, may_take, awaits_restart}
use Rattle.session_subset.specs.Machine.{IsLawful}
use Rattle.session_subset.specs.Asked.{awaits_a_restart, owes_a_restart}
use Rattle.session_subset.specs.Laws.{TurnOrGiving, UnitsOfMode, AnswersOfMode}

-- ---- which units

abbrev pub IsOfMode : SessionRole → SessionState → Type 0
IsOfMode role state =
    (state.units.activity_management ≡ true → role.reliable ≡ true)
    × (state.units.resynchronize ≡ true → role.reliable ≡ false)

not-false : (b : Bool) → not b ≡ true → b ≡ false
not-false true h = sym h
not-false false h = refl

of_mode-requested : (role : SessionRole) (state : SessionState) (word : SessionWord) → IsOfMode role state → IsOfMode role (after role state (requested word))
of_mode-requested role state (Accept options version initial requirements user) m =
    ((λ h. (and_parts _ _ h).0), (λ h. not-false _ (and_parts _ _ h).0))
of_mode-requested role state _ m = m

of_mode-took : (role : SessionRole) (state : SessionState) (word : SessionWord) → IsOfMode role state → IsOfMode role (after role state (took word))
of_mode-took role state (Accept options version initial requirements user) m =
    ((λ h. (and_parts _ _ h).0), (λ h. not-false _ (and_parts _ _ h).0))
of_mode-took role state _ m = m

pub of_mode : UnitsOfMode
of_mode role [] = ((λ h. grind arith), (λ h. grind arith))
of_mode role (requested word ∷ history) = of_mode-requested role (state_of role history) word (of_mode role history)
of_mode role (took word ∷ history) = of_mode-took role (state_of role history) word (of_mode role history)
of_mode role (passed word ∷ history) = of_mode role history
of_mode role (transport_asked ∷ history) = of_mode role history
of_mode role (transport_refused ∷ history) = of_mode role history
of_mode role (broke ∷ history) = of_mode role history

-- ---- what a step that could be made asked for

-- a word that is taken may be taken
pub may_take-took : (role : SessionRole) (state : SessionState) (word : SessionWord) → taking role state word ≡ Ok (Word word) → may_take role state word ≡ true
may_take-took role state word h = grind arith

-- GTC isn't refused where activities are selected alone, nor RS where restarts are
activities-give : (role : SessionRole) (state : SessionState) → refusal_of role state GiveTokensConfirm ≡ None → state.units.activity_management ≡ true
activities-give role state h = grind arith

restarts-ask : (role : SessionRole) (state : SessionState) (number : ℕ) (user : Option (List ℕ)) → refusal_of role state (Resynchronize number user) ≡ None → state.units.resynchronize ≡ true
restarts-ask role state number user h = grind arith

-- ---- restarts that are unanswered

awaits-requested : (role : SessionRole) (state : SessionState) (word : SessionWord) → refusal_of role state word ≡ None → (state.units.resynchronize ≡ true → role.reliable ≡ false) → (awaits_a_restart state.awaited ≡ true → role.reliable ≡ false) → awaits_a_restart (awaited_requested state.awaited word) ≡ true → role.reliable ≡ false
awaits-requested role state (Accept options version initial requirements user) accepted m a = λ h. grind arith
awaits-requested role state (Finish transport user) accepted m a = λ h. grind arith
awaits-requested role state (Resynchronize number user) accepted m a = λ h. m (restarts-ask role state number user accepted)
awaits-requested role state (ActivityInterrupt reason) accepted m a = λ h. grind arith
awaits-requested role state (ActivityDiscard reason) accepted m a = λ h. grind arith
awaits-requested role state _ accepted m a = a

awaits-took : (role : SessionRole) (awaited : Awaited) (word : SessionWord) → (awaits_a_restart awaited ≡ true → role.reliable ≡ false) → awaits_a_restart (awaited_taken awaited word) ≡ true → role.reliable ≡ false
awaits-took role awaited (Accept options version initial requirements user) a = λ h. grind arith
awaits-took role awaited (Disconnect user) a = λ h. grind arith
awaits-took role awaited (Resynchronize number user) a = λ h. grind arith
awaits-took role awaited (ResynchronizeAck number user) a = λ h. grind arith
awaits-took role awaited ActivityInterruptAck a = λ h. grind arith
awaits-took role awaited ActivityDiscardAck a = λ h. grind arith
awaits-took role awaited _ a = a

owes-requested : (role : SessionRole) (owed : Owed) (word : SessionWord) → (owes_a_restart owed ≡ true → role.reliable ≡ false) → owes_a_restart (owed_requested owed word) ≡ true → role.reliable ≡ false
owes-requested role owed (Accept options version initial requirements user) a = λ h. grind arith
owes-requested role owed (Refuse transport reason user) a = λ h. grind arith
owes-requested role owed (Disconnect user) a = λ h. grind arith
owes-requested role owed GiveTokensAck a = λ h. grind arith
owes-requested role owed (ResynchronizeAck number user) a = λ h. grind arith
owes-requested role owed ActivityInterruptAck a = λ h. grind arith
owes-requested role owed ActivityDiscardAck a = λ h. grind arith
owes-requested role owed (ActivityEndAck number) a = λ h. grind arith
owes-requested role owed _ a = a

owes-took : (role : SessionRole) (state : SessionState) (word : SessionWord) → may_take role state word ≡ true → (state.units.resynchronize ≡ true → role.reliable ≡ false) → (owes_a_restart state.owed ≡ true → role.reliable ≡ false) → owes_a_restart (owed_taken state.owed word) ≡ true → role.reliable ≡ false
owes-took role state (Connect connect) may m a = λ h. grind arith
owes-took role state (Accept options version initial requirements user) may m a = λ h. grind arith
owes-took role state (Finish transport user) may m a = λ h. grind arith
owes-took role state GiveTokensConfirm may m a = λ h. grind arith
owes-took role state (Resynchronize number user) may m a =
    λ h. m (and_parts _ _ (and_parts _ _ (and_parts _ _ may).0).0).1
owes-took role state (ActivityInterrupt reason) may m a = λ h. grind arith
owes-took role state (ActivityDiscard reason) may m a = λ h. grind arith
owes-took role state (ActivityEnd number) may m a = λ h. grind arith
owes-took role state _ may m a = a

-- ---- the turn and the giving

-- a giving is a matter of reliable mode, and while it is on its way the turn isn't here
abbrev pub GivesAlone : SessionRole → SessionState → Type 0
GivesAlone role state = (state.giving ≡ true → role.reliable ≡ true) × (state.turn ≡ true → state.giving ≡ false)

-- in direct mode there is none
no-giving : (reliable giving : Bool) → (giving ≡ true → reliable ≡ true) → reliable ≡ false → giving ≡ false
no-giving reliable true g h = let same : true ≡ false = sym (g refl) ∙ h in same
no-giving reliable false g h = refl

is-a-restart-owed : (owed : Owed) (number : ℕ) → owes_restart owed number ≡ true → owes_a_restart owed ≡ true
is-a-restart-owed (owing.Restart asked) number h = refl
is-a-restart-owed _ number h = h

is-a-restart-awaited : (awaited : Awaited) (number : ℕ) → awaits_restart awaited number ≡ true → awaits_a_restart awaited ≡ true
is-a-restart-awaited (awaiting.Restart own) number h = refl
is-a-restart-awaited _ number h = h

gives-requested : (role : SessionRole) (state : SessionState) (word : SessionWord) → may_request role state word ≡ true → refusal_of role state word ≡ None → IsOfMode role state → (owes_a_restart state.owed ≡ true → role.reliable ≡ false) → GivesAlone role state → GivesAlone role (after role state (requested word))
gives-requested role state (Accept options version initial requirements user) may accepted m o g = ((λ h. grind arith), (λ h. refl))
gives-requested role state (ResynchronizeAck number user) may accepted m o g =
    (g.0, (λ h. no-giving role.reliable state.giving g.0 (o (is-a-restart-owed _ number (and_parts _ _ may).1))))
gives-requested role state (GiveTokens None) may accepted m o g = g
gives-requested role state (GiveTokens (Some tokens)) may accepted m o g = (g.0, (λ h. grind arith))
gives-requested role state GiveTokensConfirm may accepted m o g =
    ((λ h. m.0 (activities-give role state accepted)), (λ h. grind arith))
gives-requested role state _ may accepted m o g = g

gives-took : (role : SessionRole) (state : SessionState) (word : SessionWord) → may_take role state word ≡ true → (awaits_a_restart state.awaited ≡ true → role.reliable ≡ false) → GivesAlone role state → GivesAlone role (after role state (took word))
gives-took role state (Accept options version initial requirements user) may a g = ((λ h. grind arith), (λ h. refl))
gives-took role state (ResynchronizeAck number user) may a g =
    (g.0, (λ h. no-giving role.reliable state.giving g.0 (a (is-a-restart-awaited _ number (and_parts _ _ may).1))))
gives-took role state (GiveTokens None) may a g = g
gives-took role state (GiveTokens (Some tokens)) may a g =
    (g.0, (λ h. no-giving role.reliable state.giving g.0 (not-false _ (and_parts _ _ (and_parts _ _ may).1).0)))
gives-took role state GiveTokensConfirm may a g = ((λ h. grind arith), (λ h. refl))
gives-took role state GiveTokensAck may a g = ((λ h. grind arith), (λ h. refl))
gives-took role state _ may a g = g

-- ---- all of it

pub record IsInOrder (role : SessionRole) (state : SessionState) : Type 0 where
  pub awaits : awaits_a_restart state.awaited ≡ true → role.reliable ≡ false
  pub owes : owes_a_restart state.owed ≡ true → role.reliable ≡ false
  pub gives : GivesAlone role state

in_order-requested : (role : SessionRole) (state : SessionState) (word : SessionWord) → may_request role state word ≡ true → refusal_of role state word ≡ None → IsOfMode role state → IsInOrder role state → IsInOrder role (after role state (requested word))
in_order-requested role state word may accepted m i =
    record {
      awaits = awaits-requested role state word accepted m.1 i.awaits;
      owes = owes-requested role state.owed word i.owes;
      gives = gives-requested role state word may accepted m i.owes i.gives;
    }

in_order-took : (role : SessionRole) (state : SessionState) (word : SessionWord) → may_take role state word ≡ true → IsOfMode role state → IsInOrder role state → IsInOrder role (after role state (took word))
in_order-took role state word may m i =
    record {
      awaits = awaits-took role state.awaited word i.awaits;
      owes = owes-took role state word may m.1 i.owes;
      gives = gives-took role state word may i.awaits i.gives;
    }

in_order : (role : SessionRole) (history : History) → IsLawful role history → IsInOrder role (state_of role history)
in_order role [] lawful = record { awaits = λ h. grind arith; owes = λ h. grind arith; gives = ((λ h. grind arith), (λ h. refl)) }
in_order role (requested word ∷ history) lawful =
    in_order-requested role (state_of role history) word lawful.0.may_request lawful.0.is_accepted (of_mode role history) (in_order role history lawful.1)
in_order role (took word ∷ history) lawful =
    in_order-took role (state_of role history) word (may_take-took role (state_of role history) word lawful.0) (of_mode role history) (in_order role history lawful.1)
in_order role (passed word ∷ history) lawful =
    let i = in_order role history lawful.1 in record { awaits = i.awaits; owes = i.owes; gives = i.gives }
in_order role (transport_asked ∷ history) lawful =
    let i = in_order role history lawful.1 in record { awaits = i.awaits; owes = i.owes; gives = i.gives }
in_order role (transport_refused ∷ history) lawful =
    let i = in_order role history lawful.1 in record { awaits = i.awaits; owes = i.owes; gives = i.gives }
in_order role (broke ∷ history) lawful =
    record { awaits = λ h. grind arith; owes = λ h. grind arith; gives = ((λ h. grind arith), (λ h. refl)) }

pub turn_or_giving : TurnOrGiving
turn_or_giving role history lawful = (in_order role history lawful).gives.1

pub answers_of_mode : AnswersOfMode
answers_of_mode role history lawful =
    let i = in_order role history lawful in (i.gives.0, i.awaits, i.owes)
