use Rattle.std.proofs.Common.{◌∙◌, sym, ap}
use Rattle.linked_ops.specs.Entries.{parent_of}
use Rattle.linked_ops.proofs.Forests.{parent_none, parent_some}
use Rattle.linked_ops.proofs.forest.Forest.parent.Goals as goal

pub returns-in-None : goal.returns-in-None
returns-in-None c =
    parent_none c.self.inside.openings.entries c.self.inside.nodes c.self.inside.numbers c.self.inside.made c.self.invariant c.args.key (sym c.get.ensures ∙ c.in-None.is)
    ∙ ap (parent_of c.args.key) c.self.view_is

pub returns-in-Some : goal.returns-in-Some
returns-in-Some c =
    c.above.ensures
    ∙ parent_some c.self.inside.openings.entries c.self.inside.nodes c.self.inside.numbers c.self.inside.made c.self.invariant c.args.key c.in-Some.number (sym c.get.ensures ∙ c.in-Some.is)
    ∙ ap (parent_of c.args.key) c.self.view_is
