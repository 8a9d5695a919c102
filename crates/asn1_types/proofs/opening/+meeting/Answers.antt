use Rattle.std.proofs.Common.{◌<◌, sym, ap, ◌∙◌, arith}
use Rattle.std.specs.List.{list_any}
use Rattle.std.proofs.lemmas.Option.{slice_get_within}
use Rattle.asn1_types.specs.Rows.{meets, openings}
use Rattle.asn1_types.proofs.Sound.{each_part, choice_down, openings_at, opens_some}
use Rattle.asn1_types.proofs.opening.+meeting.Goals as goal

pub any_meets-meet-requires : goal.any_meets-meet-requires
any_meets-meet-requires t c =
    let lt : c.part-item.result.inner.0 < c.args.a.0 = each_part (λ m. m < c.args.a.0) c.args.parts.now c.loop-part.part-index c.part-item.result c.requires.below c.loop-part-test.true c.part-item.is in
    (omega arith, (omega arith, c.requires.b))

pub meet-returns : goal.meet-returns
meet-returns t c =
    c.meets_row.ensures ∙ ap (list_any (λ o. list_any (meets o) (openings c.args.table.now c.args.b.0))) (sym (openings_at c.args.table.now c.row.ensures.sound c.args.a.0 c.row.result.now c.row.ensures.value))

pub meets_row-any_meets-requires : goal.meets_row-any_meets-requires
meets_row-any_meets-requires t c =
    let lt = slice_get_within c.args.table.now c.args.a.0 c.args.row.now c.requires.row.found in
    let down = choice_down c.args.table.now c.args.a.0 c.args.row.now c.in-Choice.parts c.requires.row.sound c.requires.row.found c.in-Choice.is in
    (omega arith, (rw c.as_slice.ensures down, (omega arith, c.requires.b)))

pub meets_row-returns-in-Any : goal.meets_row-returns-in-Any
meets_row-returns-in-Any t c = rw c.in-Any.is (sym (opens_some c.args.table.now c.requires.row.sound c.args.b.0 c.requires.b))
