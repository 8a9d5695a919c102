use Rattle.std.proofs.Common.{◌≡◌, ◌<◌, ap, ◌∙◌, arith, rules}
use Rattle.std.specs.Prelude.{Bool, Some, None, false}
use Rattle.std.proofs.lemmas.Option.{slice_get_within}
use Rattle.asn1_types.specs.declared.row.TypeRow.TheVariants.{Sequence, Tagged}
use Rattle.asn1_types.proofs.Sound.{down_as}
use Rattle.asn1_types.specs.declared.row.Tag as tags
use Rattle.ber_spelling.specs.Rules.{Reader, plain, under}
use Rattle.ber_reading.proofs.Rows.{reads_at}
use Rattle.ber_reading.proofs.whole_values.sequence_of.Goals as goal

pub row-requires-in-Tagged : goal.row-requires-in-Tagged
row-requires-in-Tagged c =
    let lt = slice_get_within c.args.table.now c.args.of.0 c.row.result.now c.row.ensures.value in
    let down = down_as c.args.table.now c.args.of.0 c.row.result.now (Tagged c.in-Tagged.class c.in-Tagged.number c.in-Tagged.explicit c.in-Tagged.inner) c.row.ensures.sound c.row.ensures.value c.in-Tagged.is in
    let below : c.in-Tagged.inner.0 < c.args.of.0 = down.0 in
    omega arith

pub returns-in-Sequence-row-clause-row : goal.returns-in-Sequence-row-clause-row
returns-in-Sequence-row-clause-row c =
    let lt = slice_get_within c.args.table.now c.in-Tagged.inner.0 c.row-in-Tagged.result.now c.row-in-Tagged.ensures.value in
    omega (arith, lt)

pub returns-in-Sequence-row-clause-below : goal.returns-in-Sequence-row-clause-below
returns-in-Sequence-row-clause-below c =
    down_as c.args.table.now c.in-Tagged.inner.0 c.row-in-Tagged.result.now (Sequence c.in-Sequence-row.parts) c.row-in-Tagged.ensures.sound c.row-in-Tagged.ensures.value c.in-Sequence-row.is

pub returns-in-Sequence-row-clause-is : goal.returns-in-Sequence-row-clause-is
returns-in-Sequence-row-clause-is c =
    let tag : tags.Tag = record { class = c.in-Tagged.class; number = c.in-Tagged.number } in
    let implicit : c.in-Tagged.explicit ≡ false = search rules in
    let outer = reads_at c.args.table.now c.row.ensures.sound c.args.of.0 (Tagged c.in-Tagged.class c.in-Tagged.number false c.in-Tagged.inner) (c.row.ensures.value ∙ ap Some (c.in-Tagged.is ∙ ap (λ (b : Bool). Tagged c.in-Tagged.class c.in-Tagged.number b c.in-Tagged.inner) implicit)) in
    let inner = reads_at c.args.table.now c.row-in-Tagged.ensures.sound c.in-Tagged.inner.0 (Sequence c.in-Sequence-row.parts) (c.row-in-Tagged.ensures.value ∙ ap Some c.in-Sequence-row.is) in
    ap (λ (r : Reader). r plain) outer ∙ ap (λ (r : Reader). r (under (Some tag) None)) inner

pub returns-in-Sequence-clause-below : goal.returns-in-Sequence-clause-below
returns-in-Sequence-clause-below c =
    down_as c.args.table.now c.args.of.0 c.row.result.now (Sequence c.in-Sequence.parts) c.row.ensures.sound c.row.ensures.value c.in-Sequence.is

pub returns-in-Sequence-clause-is : goal.returns-in-Sequence-clause-is
returns-in-Sequence-clause-is c =
    ap (λ (r : Reader). r plain) (reads_at c.args.table.now c.row.ensures.sound c.args.of.0 (Sequence c.in-Sequence.parts) (c.row.ensures.value ∙ ap Some c.in-Sequence.is))
