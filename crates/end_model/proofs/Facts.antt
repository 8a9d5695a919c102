-- What tests of the rules say, as facts of the model.
use Rattle.std.proofs.Common.{◌≡◌, refl, true, ap, List, [], ◌∷◌}
use Rattle.dialogue.specs.declared.config.Phase.{Phase}
use Rattle.dialogue.specs.declared.config.Phase.TheVariants.{Idle, Opening, Up, Releasing, Broken}
use Rattle.dialogue.specs.declared.config.Phase.TheVariants.{Recovering, Over, Dead}
use Rattle.end_rules.specs.State.{Stage, Unused, Asked, Joined, Carrying, Awaited, NoAnswer}
use Rattle.end_rules.specs.State.{RestartOf, InterruptOf, DiscardOf, ReleaseOf, is_up, is_free}
use Rattle.end_rules.specs.State.{is_empty}
use Rattle.agreement.specs.State.Phase.{Up as model_up}
use Rattle.agreement.specs.State.Awaited.{NoAnswer as model_no_answer}
use Rattle.end_model.specs.Seen.{phase_seen, awaited_seen}

pub is-up : (phase : Phase) → is_up phase ≡ true → phase ≡ Up
is-up Idle h = cc
is-up Opening h = cc
is-up Up h = refl
is-up Releasing h = cc
is-up Broken h = cc
is-up Recovering h = cc
is-up Over h = cc
is-up Dead h = cc

pub up-seen : (stage : Stage) (phase : Phase) → is_up phase ≡ true → phase_seen stage phase ≡ model_up
up-seen stage phase h = ap (phase_seen stage) (is-up phase h)

pub is-free : (awaited : Awaited) → is_free awaited ≡ true → awaited ≡ NoAnswer
is-free NoAnswer h = refl
is-free (RestartOf n) h = cc
is-free InterruptOf h = cc
is-free DiscardOf h = cc
is-free ReleaseOf h = cc

pub free-seen : (awaited : Awaited) → is_free awaited ≡ true → awaited_seen awaited ≡ model_no_answer
free-seen awaited h = ap awaited_seen (is-free awaited h)

pub is-empty : {X : Type 0} (xs : List X) → is_empty xs ≡ true → xs ≡ []
is-empty [] h = refl
is-empty (x ∷ xs) h = cc

-- both ways from what the model says
pub up-there : (stage : Stage) (phase : Phase) → phase_seen stage phase ≡ model_up → phase ≡ Up
up-there stage Up h = refl
up-there stage Idle h = cc
up-there stage Releasing h = cc
up-there stage Broken h = cc
up-there stage Over h = cc
up-there stage Dead h = cc
up-there Unused Opening h = cc
up-there Asked Opening h = cc
up-there Joined Opening h = cc
up-there Carrying Opening h = cc
up-there Unused Recovering h = cc
up-there Asked Recovering h = cc
up-there Joined Recovering h = cc
up-there Carrying Recovering h = cc

pub free-there : (awaited : Awaited) → awaited_seen awaited ≡ model_no_answer → awaited ≡ NoAnswer
free-there NoAnswer h = refl
free-there (RestartOf n) h = cc
free-there InterruptOf h = cc
free-there DiscardOf h = cc
free-there ReleaseOf h = cc
