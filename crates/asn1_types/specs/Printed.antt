-- What faults print as.
use Rattle.std.specs.Prelude.{ℕ, pos, List, Some, codes}
use Rattle.osi_base.specs.Printed.{no_memory_text, numbered_text}
use Rattle.asn1_types.specs.declared.refusal.RowRefusal.{RowRefusal}
use Rattle.asn1_types.specs.declared.refusal.RowRefusal.TheVariants as refusals

abbrev pub row_refusal_text : RowRefusal → List ℕ
row_refusal_text (refusals.NoSuchRow row) = numbered_text (codes "there is no row") (Some (pos row))
row_refusal_text refusals.BadRange = codes "a range, an ENUMERATED, a CHOICE or a tag that can't be"
row_refusal_text refusals.DoubleName = codes "two parts or items have one name, or two items one number"
row_refusal_text refusals.TooNested = codes "nested more than 32 deep"
row_refusal_text refusals.TagsNotDistinct = codes "a tag doesn't tell the parts apart"
row_refusal_text refusals.BadDefault = codes "a default that may not stand here, or doesn't fit its type"
row_refusal_text refusals.NoMemory = no_memory_text
