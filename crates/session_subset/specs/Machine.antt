-- What a contract sees of a machine, and the histories that it stands for.
use Rattle.std.specs.Prelude.{◌≡◌, true, [], ◌∷◌, None, Ok}
use Rattle.session_subset.specs.declared.session.Taken.TheVariants.{Passed, Word}
use Rattle.session_subset.specs.declared.state.SessionRole.{SessionRole}
use Rattle.session_subset.specs.declared.state.SessionState.{SessionState}
use Rattle.session_subset.specs.Steps.{Step, History, requested, took, passed}
use Rattle.session_subset.specs.Reading.{state_of}
use Rattle.session_subset.specs.Requests.{may_request, refusal_of}
use Rattle.session_subset.specs.Takings.{taking}

-- what it is made for, and what its history says
pub record SessionView : Type 0 where
  pub role : SessionRole
  pub state : SessionState

-- a step that a machine in this state makes: a word that may be requested and isn't refused, one that
-- is taken, one that is passed over
abbrev pub MayStep : SessionRole → SessionState → Step → Type 0
MayStep role state (requested word) =
    record { may_request : may_request role state word ≡ true; is_accepted : refusal_of role state word ≡ None }
MayStep role state (took word) = taking role state word ≡ Ok (Word word)
MayStep role state (passed word) = taking role state word ≡ Ok Passed
MayStep role state _ = Unit {0}

-- each step could be made when it was
abbrev pub IsLawful : SessionRole → History → Type 0
IsLawful role [] = Unit {0}
IsLawful role (step ∷ history) = MayStep role (state_of role history) step × IsLawful role history

-- the machine stands for a history: it knows what the history says, and each step could be made
abbrev pub StandsFor : SessionView → History → Type 0
StandsFor session history =
    record { reads : session.state ≡ state_of session.role history; is_lawful : IsLawful session.role history }
