use Rattle.std.proofs.Common.{◌≡◌, List, None, length, arith, ap, sym, ◌∙◌}
use Rattle.asn1_types.specs.declared.row.TypeRow.{TypeRow}
use Rattle.asn1_types.specs.Table.{refusal}
use Rattle.asn1_types.specs.Rows.{names_of, nesting, nesting_by}
use Rattle.asn1_types.proofs.Adding.{kept_names, kept_push}
use Rattle.asn1_types.proofs.Sound.{nested_few, taken}
use Rattle.asn1_types.proofs.table.TypeTable.push.Goals as goal

pub nesting-nesting-requires : goal.nesting-nesting-requires
nesting-nesting-requires c = kept_names (length c.args.self.now) (names_of c.args.row) (taken c.args.self.now c.args.row c.requires).names

pub overflow_cast-nesting : goal.overflow_cast-nesting
overflow_cast-nesting c = omega (arith, c.nesting-nesting.ensures, nested_few c.args.self.now c.args.row c.requires)

pub invariant_of-self-in-Ok-push : goal.invariant_of-self-in-Ok-push
invariant_of-self-in-Ok-push c =
    let rows = c.self.inside.rows.items in
    let free : refusal rows c.args.row ≡ None = ap (λ (rs : List TypeRow). refusal rs c.args.row) c.self.view_is ∙ c.requires in
    let nested : c.nesting-nesting.result ≡ nesting_by (nesting rows) c.args.row = c.nesting-nesting.ensures ∙ ap (λ (rs : List TypeRow). nesting_by (nesting rs) c.args.row) (sym c.self.view_is) in
    rw (c.in-Ok-push.ensures.items, c.in_ok-push.ensures.items) (kept_push rows c.self.inside.nestings.items c.args.row c.nesting-nesting.result c.self.invariant free c.read_tag_number.ensures nested)
