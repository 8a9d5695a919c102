use Rattle.std.proofs.Common.{◌≡◌, ◌+◌, ◌*◌, drop}
use Rattle.asn1_types.specs.ValueView.{parts_of, values_of}
use Rattle.asn1_types.specs.Fits.{parts_fit, values_fit}
use Rattle.ber_writing.specs.Short.{has_short_form}
use Rattle.ber_writing.proofs.fitting.+fitting.Given as goal

abbrev pub decreases-has_form : goal.decreases-has_form
decreases-has_form l = 5 * l.of.0 + 4

abbrev pub decreases-fits_row : goal.decreases-fits_row
decreases-fits_row l = 5 * l.of.0 + 3

abbrev pub decreases-sequence_fits : goal.decreases-sequence_fits
decreases-sequence_fits l = 5 * l.of.0 + 2

abbrev pub decreases-parts_fit : goal.decreases-parts_fit
decreases-parts_fit l = 5 * l.of.0 + 1

abbrev pub decreases-choice_fits : goal.decreases-choice_fits
decreases-choice_fits l = 5 * l.of.0

abbrev pub decreases-part_fits : goal.decreases-part_fits
decreases-part_fits l = 5 * l.of.0

abbrev pub invariant-parts_fit-loop-index : goal.invariant-parts_fit-loop-index
invariant-parts_fit-loop-index l =
    parts_fit (has_short_form l.table) (drop l.index l.parts) (parts_of (drop l.index l.values)) ≡ parts_fit (has_short_form l.table) l.parts (parts_of l.values)

abbrev pub decreases-list_fits : goal.decreases-list_fits
decreases-list_fits l = 5 * l.of.0 + 2

abbrev pub decreases-values_fit : goal.decreases-values_fit
decreases-values_fit l = 5 * l.of.0 + 1

abbrev pub invariant-values_fit-loop-value : goal.invariant-values_fit-loop-value
invariant-values_fit-loop-value l =
    values_fit (has_short_form l.table l.inner.0) (values_of (drop l.value-index l.values)) ≡ values_fit (has_short_form l.table l.inner.0) (values_of l.values)
