use Rattle.std.proofs.Common.{◌≡◌, ◌++◌, ◌∷◌, [], length, ap, ◌∙◌}
use Rattle.stub_tables.proofs.CodePlaces.{push_placed}
use Rattle.stub_tables.proofs.rows.Operations.push.Goals as goal

pub invariant_of-self-2 : goal.invariant_of-self-2
invariant_of-self-2 c =
    let kept = c.reserve.ensures.items in
    let ok = c.reserve.new.self.ok in
    let counted = c.len.ensures in
    let n : c.len.result ≡ length c.self.inside.rows.items = cc in
    push_placed (λ r. r.code) c.self.inside.rows.items c.push_reserved.new.self.items c.args.row c.len.result c.self.inside.places c.put.new.self
    (c.push_reserved.ensures.items ∙ ap (λ xs. xs ++ c.args.row ∷ []) kept) n c.self.invariant c.in_ok-put.ensures.ok
