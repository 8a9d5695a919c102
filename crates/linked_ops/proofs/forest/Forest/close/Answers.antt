use Rattle.std.proofs.Common.{ap, sym, ◌∙◌}
use Rattle.std.specs.Prelude.{is_some}
use Rattle.linked_ops.specs.Entries.{is_open, closed}
use Rattle.linked_ops.proofs.Forests.{open_numbered, absent_entries, closed_entries, closed_kept}
use Rattle.linked_ops.proofs.forest.Forest.close.Goals as goal

pub invariant_of-self-in-Some : goal.invariant_of-self-in-Some
invariant_of-self-in-Some c =
    closed_kept c.self.inside.openings.entries c.self.inside.nodes c.self.inside.numbers c.self.inside.made c.self.invariant c.args.key c.take.new.self c.take.ensures.taken c.in-Some.number (sym c.in-Some.ensures.number) c.leave.new.openings.entries c.leave.new.nodes c.leave.ensures

pub returns-in-None-clause-answer : goal.returns-in-None-clause-answer
returns-in-None-clause-answer c =
    ap is_some c.in-None.ensures.number ∙ sym (open_numbered c.self.inside.openings.entries c.self.inside.nodes c.self.inside.numbers c.self.inside.made c.self.invariant c.args.key) ∙ ap (is_open c.args.key) c.self.view_is

pub returns-in-Some-clause-answer : goal.returns-in-Some-clause-answer
returns-in-Some-clause-answer c =
    ap is_some c.in-Some.ensures.number ∙ sym (open_numbered c.self.inside.openings.entries c.self.inside.nodes c.self.inside.numbers c.self.inside.made c.self.invariant c.args.key) ∙ ap (is_open c.args.key) c.self.view_is

pub returns-in-None-clause-after : goal.returns-in-None-clause-after
returns-in-None-clause-after c =
    absent_entries c.self.inside.openings.entries c.self.inside.nodes c.self.inside.numbers c.self.inside.made c.self.invariant c.args.key c.take.new.self c.take.ensures.taken (sym c.in-None.ensures.number) ∙ ap (closed c.args.key) c.self.view_is

pub returns-in-Some-clause-after : goal.returns-in-Some-clause-after
returns-in-Some-clause-after c =
    closed_entries c.self.inside.openings.entries c.self.inside.nodes c.self.inside.numbers c.self.inside.made c.self.invariant c.args.key c.take.new.self c.take.ensures.taken c.in-Some.number (sym c.in-Some.ensures.number) c.leave.new.openings.entries c.leave.new.nodes c.leave.ensures
    ∙ ap (closed c.args.key) c.self.view_is
