use Rattle.std.proofs.Common.{◌<◌, sym, ap, ◌∙◌, arith}
use Rattle.std.specs.List.{list_any}
use Rattle.std.proofs.lemmas.Option.{slice_get_within}
use Rattle.asn1_types.specs.Rows.{allows}
use Rattle.asn1_types.proofs.Sound.{each_part, choice_down, openings_at}
use Rattle.asn1_types.proofs.opening.+opening.Goals as goal

pub any_opens-opens-requires : goal.any_opens-opens-requires
any_opens-opens-requires t c =
    let lt : c.part-item.result.inner.0 < c.args.of.0 = each_part (λ m. m < c.args.of.0) c.args.parts.now c.loop-part.part-index c.part-item.result c.requires.below c.loop-part-test.true c.part-item.is in
    (omega arith, omega arith)

pub opens-returns : goal.opens-returns
opens-returns t c =
    c.opens_row.ensures ∙ ap (list_any (allows c.args.class c.args.number)) (sym (openings_at c.args.table.now c.row.ensures.sound c.args.of.0 c.row.result.now c.row.ensures.value))

pub opens_row-any_opens-requires : goal.opens_row-any_opens-requires
opens_row-any_opens-requires t c =
    let lt = slice_get_within c.args.table.now c.args.of.0 c.args.row.now c.requires.row.found in
    let down = choice_down c.args.table.now c.args.of.0 c.args.row.now c.in-Choice.parts c.requires.row.sound c.requires.row.found c.in-Choice.is in
    (omega arith, (rw c.as_slice.ensures down, omega arith))
