-- The types of the fields of a table file that have a spelling of their own in the packed syntax.
use Rattle.std.specs.Prelude.{List, [], ◌∷◌, pos, negsuc}
use Rattle.osi_base.specs.Limits.{most_signed}
use Rattle.asn1_types.specs.declared.row.TypeRow.{TypeRow}
use Rattle.asn1_types.specs.declared.row.TypeRow.TheVariants.{Integer, ObjectId}

-- INTEGER and OBJECT IDENTIFIER
abbrev pub field_types : List TypeRow
field_types = Integer (negsuc most_signed) (pos most_signed) ∷ ObjectId ∷ []
