-- What is asked of a machine, and the step that a taking makes.
use Rattle.std.specs.Prelude.{Bool, true, false, not, ◌&&◌, Result, Ok, Err}
use Rattle.osi_base.specs.declared.session_word.SessionWord.{SessionWord}
use Rattle.session_subset.specs.declared.fault.SessionFault.{SessionFault}
use Rattle.session_subset.specs.declared.session.Taken.{Taken}
use Rattle.session_subset.specs.declared.session.Taken.TheVariants.{Passed, Word}
use Rattle.session_subset.specs.declared.state.Awaited.{Awaited}
use Rattle.session_subset.specs.declared.state.Awaited.TheVariants.{Restart, Release}
use Rattle.session_subset.specs.declared.state.Owed.{Owed}
use Rattle.session_subset.specs.declared.state.Owed.TheVariants as owing
use Rattle.session_subset.specs.declared.state.SessionState.{SessionState}
use Rattle.session_subset.specs.Steps.{Step, took, passed}
use Rattle.session_subset.specs.Requests.{is_up}

abbrev pub awaits_a_restart : Awaited → Bool
awaits_a_restart (Restart number) = true
awaits_a_restart _ = false

abbrev pub awaits_release : Awaited → Bool
awaits_release Release = true
awaits_release _ = false

abbrev pub owes_a_restart : Owed → Bool
owes_a_restart (owing.Restart number) = true
owes_a_restart _ = false

-- this end holds the turn: it is here, the association stands, and no own restart is unanswered
abbrev pub holds_turn : SessionState → Bool
holds_turn state = (state.turn && is_up state.phase) && not (awaits_a_restart state.awaited)

-- a word that came was taken, or passed over
abbrev pub step_of : SessionWord → Result Taken SessionFault → Step
step_of word (Ok (Word taken)) = took word
step_of word (Ok Passed) = passed word
step_of word (Err fault) = passed word
