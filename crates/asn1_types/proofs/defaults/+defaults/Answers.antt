use Rattle.std.proofs.Common.{◌<◌, sym, ap, ◌∙◌, arith, w64}
use Rattle.std.proofs.lemmas.Int.{to_z-of_z}
use Rattle.std.proofs.lemmas.Option.{slice_get_within}
use Rattle.asn1_types.specs.declared.row.TypeRow.TheVariants.{Tagged}
use Rattle.asn1_types.proofs.Sound.{down_as, takes_at}
use Rattle.asn1_types.proofs.defaults.+defaults.Goals as goal

pub takes_default-returns : goal.takes_default-returns
takes_default-returns t c =
    let taken = rw (to_z-of_z w64 c.args.default c.ranges.default) at c.row_takes_default.ensures in
    taken ∙ ap (λ f. f c.args.default) (sym (takes_at c.args.table.now c.row.ensures.sound c.args.of.0 c.row.result.now c.row.ensures.value))

pub row_takes_default-takes_default-requires : goal.row_takes_default-takes_default-requires
row_takes_default-takes_default-requires t c =
    let lt = slice_get_within c.args.table.now c.args.of.0 c.args.row.now c.requires.row.found in
    let down = down_as c.args.table.now c.args.of.0 c.args.row.now (Tagged c.in-Tagged.class c.in-Tagged.number c.in-Tagged.explicit c.in-Tagged.inner) c.requires.row.sound c.requires.row.found c.in-Tagged.is in
    let below : c.in-Tagged.inner.0 < c.args.of.0 = down.0 in
    (omega arith, omega arith)
