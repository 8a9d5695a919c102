-- Phases before an association stands.
use Rattle.std.proofs.Common.{◌≡◌, refl, true, false}
use Rattle.std.specs.Prelude.{Bool, if◌then◌else◌}
use Rattle.dialogue.specs.declared.config.Mode.{Mode}
use Rattle.dialogue.specs.declared.config.Mode.TheVariants.{Bare, Direct, Reliable}
use Rattle.dialogue.specs.declared.config.Phase.{Phase}
use Rattle.dialogue.specs.declared.config.Phase.TheVariants as phases
use Rattle.end_rules.specs.State.{is_up}
use Rattle.end_rules.specs.Calling.{is_idle}
use Rattle.end_rules.specs.TakesTransport.{is_waiting, phase_asked}
use Rattle.end_rules.specs.History.{broken_phase}
use Rattle.said_words.proofs.TransferEnds.{is_early}

pub up-late : (phase : Phase) → is_up phase ≡ true → is_early phase ≡ false
up-late phases.Up h = refl
up-late phase h = cc

pub idle-early : (phase : Phase) → is_idle phase ≡ true → is_early phase ≡ true
idle-early phases.Idle h = refl
idle-early phase h = cc

pub refused-late : (b : Bool) → is_early (if b then phases.Broken else phases.Over) ≡ false
refused-late true = refl
refused-late false = refl

-- an end that is asked for a connection is that early exactly where it was before
pub asked-early : (phase : Phase) → is_early phase ≡ true → is_early (phase_asked phase true) ≡ true
asked-early phases.Idle h = refl
asked-early phases.Opening h = refl
asked-early phase h = cc

pub was-early : (phase : Phase) (s : Bool) → is_waiting phase ≡ true → is_early (phase_asked phase s) ≡ true → is_early phase ≡ true
was-early phases.Idle s w h = refl
was-early phases.Broken s w h = cc
was-early phase s w h = cc

-- a break leaves an end that early where it was idle
pub broken-early : (mode : Mode) (phase : Phase) → is_early (broken_phase mode phase) ≡ true → is_early phase ≡ true
broken-early mode phases.Idle h = refl
broken-early mode phases.Opening h = refl
broken-early mode phases.Over h = cc
broken-early mode phases.Dead h = cc
broken-early Reliable phase h = cc
broken-early Direct phase h = cc
broken-early Bare phase h = cc
