-- Two sets that agreed agree again.
use Rattle.std.proofs.Common.{ap, sym, ◌∙◌}
use Rattle.context_sets.specs.Sets.{ContextSet}
use Rattle.context_sets.specs.Alterations.{altered}
use Rattle.context_sets.specs.HeldSets.{oldest}
use Rattle.context_sets.specs.Laws.{AgreeAgain}

pub agree_again : AgreeAgain
agree_again rules used asking asking_after answering answering_after settles agree =
    settles.confirmed ∙ ap (λ (set : ContextSet). altered (oldest asking.own) settles.answers set) agree ∙ sym settles.answered
