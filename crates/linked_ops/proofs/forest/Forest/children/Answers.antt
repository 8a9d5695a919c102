use Rattle.std.proofs.Common.{◌≤◌, length, ◌∙◌, ap, arith}
use Rattle.slab.specs.Slab.{get}
use Rattle.linked_ops.specs.Entries.{children_of}
use Rattle.linked_ops.specs.Rows.{place_with}
use Rattle.linked_ops.specs.Links.{first_child_of}
use Rattle.linked_ops.specs.KeysAlong.{keys_along}
use Rattle.linked_ops.proofs.Forests.{children_are}
use Rattle.linked_ops.proofs.forest.Forest.children.Goals as goal

pub returns : goal.returns
returns c =
    let l : length c.self.inside.openings.entries ≤ c.len.result = omega (arith, c.len.ensures.len) in
    ap (keys_along (get c.self.inside.nodes) c.len.result) (c.first_child.ensures ∙ ap (first_child_of (get c.self.inside.nodes)) (c.place_with.ensures ∙ ap (λ n. place_with n c.self.inside.openings.entries) c.get.ensures))
    ∙ children_are c.self.inside.openings.entries c.self.inside.nodes c.self.inside.numbers c.self.inside.made c.self.invariant c.args.key c.len.result l
    ∙ ap (children_of c.args.key) c.self.view_is
