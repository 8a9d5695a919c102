-- Laws of one machine, over all histories that it can stand for.
use Rattle.std.specs.Prelude.{◌≡◌, Bool, true, false, not, List, [], ◌∷◌}
use Rattle.osi_base.specs.declared.session_word.SessionWord.{SessionWord}
use Rattle.session_subset.specs.declared.state.Awaited.{Awaited}
use Rattle.session_subset.specs.declared.state.SessionPhase.{SessionPhase}
use Rattle.session_subset.specs.declared.state.SessionPhase.TheVariants.{Up, Releasing, Over}
use Rattle.session_subset.specs.declared.state.SessionRole.{SessionRole}
use Rattle.session_subset.specs.declared.state.SessionState.{SessionState}
use Rattle.session_subset.specs.Steps.{History}
use Rattle.session_subset.specs.Reading.{state_of}
use Rattle.spdu_codec.specs.Written.{Fits, AreWritable}
use Rattle.session_subset.specs.Requests.{is_waiting, may_request, units_sent}
use Rattle.session_subset.specs.Machine.{IsLawful}
use Rattle.session_subset.specs.Asked.{awaits_a_restart, awaits_release, owes_a_restart}

-- the turn is here, or on its way to the peer, or neither: never both
abbrev pub TurnOrGiving : Type 0
TurnOrGiving =
    (role : SessionRole) (history : History) → IsLawful role history → (state_of role history).turn ≡ true
    → (state_of role history).giving ≡ false

-- activities are a matter of reliable mode, and restarts one of direct mode
abbrev pub UnitsOfMode : Type 0
UnitsOfMode =
    (role : SessionRole) (history : History)
    → ((state_of role history).units.activity_management ≡ true → role.reliable ≡ true)
    × ((state_of role history).units.resynchronize ≡ true → role.reliable ≡ false)

-- so a giving is unanswered in reliable mode alone, and a restart in direct mode alone
abbrev pub AnswersOfMode : Type 0
AnswersOfMode =
    (role : SessionRole) (history : History) → IsLawful role history
    → ((state_of role history).giving ≡ true → role.reliable ≡ true)
    × (awaits_a_restart (state_of role history).awaited ≡ true → role.reliable ≡ false)
    × (owes_a_restart (state_of role history).owed ≡ true → role.reliable ≡ false)

-- what is sent for a word whose fields are ones that are read may be written as one TSDU,
-- but for an abort for which nothing is sent
abbrev pub IsNoneOrWritable : List SessionWord → Type 0
IsNoneOrWritable [] = Unit {0}
IsNoneOrWritable (word ∷ words) = AreWritable (word ∷ words)

abbrev pub SentIsWritable : Type 0
SentIsWritable =
    (role : SessionRole) (state : SessionState) (word : SessionWord) → Fits word → may_request role state word ≡ true
    → IsNoneOrWritable (units_sent state word)

-- an own release is unanswered exactly while the association is being released, and any other own
-- request only while it stands, unless the association is over
abbrev pub is_fitting : SessionPhase → Awaited → Bool
is_fitting Over awaited = true
is_fitting Releasing awaited = awaits_release awaited
is_fitting Up awaited = not (awaits_release awaited)
is_fitting _ awaited = not (is_waiting awaited)

abbrev pub AwaitedInPhase : Type 0
AwaitedInPhase =
    (role : SessionRole) (history : History) → IsLawful role history
    → is_fitting (state_of role history).phase (state_of role history).awaited ≡ true
