use Rattle.std.proofs.Common.{◌<◌, sym, ap, subst, ◌∙◌}
use Rattle.std.specs.Option.{option_copied}
use Rattle.module_faults.specs.Known.{unknowns, AreLearned}
use Rattle.module_faults.proofs.AllLearned.{one_learned}
use Rattle.module_faults.proofs.learning.learn.Goals as goal

pub returns-clause-are : goal.returns-clause-are
returns-clause-are c a =
    subst (λ z. AreLearned c.args.names.now c.args.standings.now z) (sym c.note.ensures)
    (one_learned c.args.names.now c.args.standings.now c.args.known.now c.args.place c.in-Some.of.now c.in_ok-facts.facts a (sym c.in_ok-of.ensures ∙ ap option_copied c.in-Some.is) c.in_ok-facts.ensures.facts).are

pub returns-clause-fewer : goal.returns-clause-fewer
returns-clause-fewer c a s =
    subst (λ z. unknowns z < unknowns c.args.known.now) (sym c.note.ensures)
    (one_learned c.args.names.now c.args.standings.now c.args.known.now c.args.place c.in-Some.of.now c.in_ok-facts.facts a (sym c.in_ok-of.ensures ∙ ap option_copied c.in-Some.is) c.in_ok-facts.ensures.facts).fewer
