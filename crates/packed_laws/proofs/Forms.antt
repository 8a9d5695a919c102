-- A value that fits has the form of its row, and so a packed spelling.
use Rattle.std.proofs.Common.{◌∙◌}
use Rattle.asn1_types.proofs.FitLaws.{fits_has_form}
use Rattle.packed_codec.proofs.RowLaws.{fitting_packs}
use Rattle.packed_laws.specs.Laws.{FittingIsPacked}

pub fitting-packed : FittingIsPacked
fitting-packed rows n v none h = fitting_packs rows n v none ∙ fits_has_form rows n v h
