use Rattle.std.proofs.Common.{◌≡◌, ◌<◌, [], sym, ap, ◌∙◌, arith, Some}
use Rattle.std.specs.Prelude.{slice_get}
use Rattle.std.specs.Option.{option_copied}
use Rattle.asn1_types.specs.declared.row.TypeRow.TheVariants.{Choice, Tagged}
use Rattle.asn1_types.proofs.Sound.{down_as}
use Rattle.asn1_types.proofs.FitLaws.{each_slot}
use Rattle.ber_spelling.proofs.WriteLaws.{writes_at}
use Rattle.ber_writing.proofs.head.+heading.Goals as goal

pub head_of-returns-then-has : goal.head_of-returns-then-has
head_of-returns-then-has t c =
    rw (writes_at c.args.table.now c.row.ensures.sound c.args.of.0 c.row.result.now c.row.ensures.value) c.row_head.ensures

pub row_head-choice_head-requires : goal.row_head-choice_head-requires
row_head-choice_head-requires t c =
    let down = down_as c.args.table.now c.args.of.0 c.args.row.now (Choice c.in-Choice.alternatives) c.requires.row.sound c.requires.row.found c.in-Choice.is in
    (omega arith, down)

pub row_head-head_of-requires : goal.row_head-head_of-requires
row_head-head_of-requires t c =
    let down = down_as c.args.table.now c.args.of.0 c.args.row.now (Tagged c.in-Tagged.class c.in-Tagged.number c.in-Tagged.explicit c.in-Tagged.inner) c.requires.row.sound c.requires.row.found c.in-Tagged.is in
    let below : c.in-Tagged.inner.0 < c.args.of.0 = down.0 in
    (omega arith, tt)

pub alternative_head-head_of-requires : goal.alternative_head-head_of-requires
alternative_head-head_of-requires t c =
    let slot : slice_get c.args.alternatives.now c.in_ok-which.which ≡ Some c.in_ok-part.part.now = sym c.get.ensures ∙ ap option_copied c.in_ok-part.was in
    let lt : c.in_ok-part.part.now.inner.0 < c.args.of.0 = each_slot (λ m. m < c.args.of.0) c.args.alternatives.now c.in_ok-which.which c.in_ok-part.part.now c.requires slot in
    (omega arith, tt)

pub row_head-returns-in-Null : goal.row_head-returns-in-Null
row_head-returns-in-Null t c = rw c.in-Null.is (c.universal_head-in-Null.ensures [])
