use Rattle.std.proofs.Common.{◌≡◌, ◌<◌, sym, ap, ◌∙◌, arith, length, Some, None}
use Rattle.std.specs.Prelude.{slice_get}
use Rattle.std.specs.Option.{option_copied}
use Rattle.asn1_types.specs.Value.{chosen}
use Rattle.asn1_types.specs.ValueView.{value_of}
use Rattle.std.proofs.lemmas.Option.{slice_get_within}
use Rattle.asn1_types.specs.declared.row.TypeRow.TheVariants.{Sequence, Set, SequenceOf, SetOf, Choice, Tagged}
use Rattle.asn1_types.specs.Fits.{alternative_fits, choice_fits}
use Rattle.ber_writing.specs.Short.{has_short_form}
use Rattle.asn1_types.proofs.Sound.{each_part, down_as}
use Rattle.asn1_types.proofs.FitLaws.{not_within, false_not, parts_short, each_slot}
use Rattle.ber_writing.proofs.ShortForms.{short_at, short_past}
use Rattle.ber_writing.proofs.fitting.+fitting.Goals as goal

pub has_form-returns-then-has : goal.has_form-returns-then-has
has_form-returns-then-has t c =
    c.fits_row.ensures ∙ ap (λ f. f c.args.value.now) (sym (short_at c.args.table.now c.row.ensures.sound c.args.of.0 c.row.result.now c.row.ensures.value))

pub fits_row-sequence_fits-requires : goal.fits_row-sequence_fits-requires
fits_row-sequence_fits-requires t c =
    let lt = slice_get_within c.args.table.now c.args.of.0 c.args.row.now c.requires.row.found in
    let down = down_as c.args.table.now c.args.of.0 c.args.row.now (Sequence c.in-Sequence.parts) c.requires.row.sound c.requires.row.found c.in-Sequence.is in
    (omega arith, record { below = rw c.as_slice-in-Sequence.ensures down; within = omega arith })

pub fits_row-sequence_fits-requires-in-Set : goal.fits_row-sequence_fits-requires-in-Set
fits_row-sequence_fits-requires-in-Set t c =
    let lt = slice_get_within c.args.table.now c.args.of.0 c.args.row.now c.requires.row.found in
    let down = down_as c.args.table.now c.args.of.0 c.args.row.now (Set c.in-Set.parts) c.requires.row.sound c.requires.row.found c.in-Set.is in
    (omega arith, record { below = rw c.as_slice-in-Set.ensures down; within = omega arith })

pub fits_row-list_fits-requires : goal.fits_row-list_fits-requires
fits_row-list_fits-requires t c =
    let lt = slice_get_within c.args.table.now c.args.of.0 c.args.row.now c.requires.row.found in
    let down = down_as c.args.table.now c.args.of.0 c.args.row.now (SequenceOf c.in-SequenceOf.inner) c.requires.row.sound c.requires.row.found c.in-SequenceOf.is in
    let below : c.in-SequenceOf.inner.0 < c.args.of.0 = down.0 in
    (omega arith, record { below = below; within = omega arith })

pub fits_row-list_fits-requires-in-SetOf : goal.fits_row-list_fits-requires-in-SetOf
fits_row-list_fits-requires-in-SetOf t c =
    let lt = slice_get_within c.args.table.now c.args.of.0 c.args.row.now c.requires.row.found in
    let down = down_as c.args.table.now c.args.of.0 c.args.row.now (SetOf c.in-SetOf.inner) c.requires.row.sound c.requires.row.found c.in-SetOf.is in
    let below : c.in-SetOf.inner.0 < c.args.of.0 = down.0 in
    (omega arith, record { below = below; within = omega arith })

pub fits_row-choice_fits-requires : goal.fits_row-choice_fits-requires
fits_row-choice_fits-requires t c =
    let lt = slice_get_within c.args.table.now c.args.of.0 c.args.row.now c.requires.row.found in
    let down = down_as c.args.table.now c.args.of.0 c.args.row.now (Choice c.in-Choice.alternatives) c.requires.row.sound c.requires.row.found c.in-Choice.is in
    (omega arith, record { below = down; within = omega arith })

pub fits_row-has_form-requires : goal.fits_row-has_form-requires
fits_row-has_form-requires t c =
    let down = down_as c.args.table.now c.args.of.0 c.args.row.now (Tagged c.in-Tagged.class c.in-Tagged.number c.in-Tagged.explicit c.in-Tagged.inner) c.requires.row.sound c.requires.row.found c.in-Tagged.is in
    let below : c.in-Tagged.inner.0 < c.args.of.0 = down.0 in
    (omega arith, tt)

pub has_form-returns-else-has : goal.has_form-returns-else-has
has_form-returns-else-has t c = c.if-has.false ∙ short_past c.args.table.now c.args.of.0 c.args.value.now (not_within (length c.args.table.now) c.args.of.0 (λ lt. false_not (sym c.if-has.false ∙ c.has.ensures.1 lt)))

pub choice_fits-has_form-requires : goal.choice_fits-has_form-requires
choice_fits-has_form-requires t c =
    let slot : slice_get c.args.alternatives.now c.in-Chosen.which ≡ Some c.in-Some.part.now = sym c.get.ensures ∙ ap option_copied c.in-Some.is in
    let lt : c.in-Some.part.now.inner.0 < c.args.of.0 = each_slot (λ m. m < c.args.of.0) c.args.alternatives.now c.in-Chosen.which c.in-Some.part.now c.requires.parts.below slot in
    (omega arith, tt)

pub choice_fits-returns-in-Some : goal.choice_fits-returns-in-Some
choice_fits-returns-in-Some t c =
    let slot : slice_get c.args.alternatives.now c.in-Chosen.which ≡ Some c.in-Some.part.now = sym c.get.ensures ∙ ap option_copied c.in-Some.is in
    let same : chosen c.in-Chosen.which c.in-Chosen.value.value ≡ c.args.value.now = ap value_of (sym c.in-Chosen.is) ∙ c.value.view_is in
    c.has_form.ensures ∙ ap (λ v. has_short_form c.args.table.now c.in-Some.part.now.inner.0 v) c.deref.ensures
    ∙ ap (λ o. alternative_fits (has_short_form c.args.table.now) o c.in-Chosen.value.value) (sym slot)
    ∙ ap (choice_fits (λ which. alternative_fits (has_short_form c.args.table.now) (slice_get c.args.alternatives.now which))) same

pub choice_fits-returns-in-None : goal.choice_fits-returns-in-None
choice_fits-returns-in-None t c =
    let slot : slice_get c.args.alternatives.now c.in-Chosen.which ≡ None = sym c.get.ensures ∙ ap option_copied c.in-None.is in
    let same : chosen c.in-Chosen.which c.in-Chosen.value.value ≡ c.args.value.now = ap value_of (sym c.in-Chosen.is) ∙ c.value.view_is in
    ap (λ o. alternative_fits (has_short_form c.args.table.now) o c.in-Chosen.value.value) (sym slot)
    ∙ ap (choice_fits (λ which. alternative_fits (has_short_form c.args.table.now) (slice_get c.args.alternatives.now which))) same

pub parts_fit-part_fits-requires : goal.parts_fit-part_fits-requires
parts_fit-part_fits-requires t c =
    let lt : c.index-parts-index.result.inner.0 < c.args.of.0 = each_part (λ m. m < c.args.of.0) c.args.parts.now c.loop-index.index c.index-parts-index.result c.requires.parts.below c.loop-index-test.true c.index-parts-index.is in
    (omega arith, record { below = lt; within = c.requires.parts.within })

pub parts_fit-returns-then-parts-values : goal.parts_fit-returns-then-parts-values
parts_fit-returns-then-parts-values t c = parts_short (has_short_form c.args.table.now) c.args.parts.now c.args.values.now c.if-parts-values.true
