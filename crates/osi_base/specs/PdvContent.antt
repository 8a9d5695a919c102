-- The octets of a presentation data value.
use Rattle.std.specs.Prelude.{ℕ, List}
use Rattle.osi_base.specs.declared.presentation_word.PdvContent.{PdvContent}
use Rattle.osi_base.specs.declared.presentation_word.PdvContent.TheVariants.{SingleAsn1Type, OctetAligned, Arbitrary}

-- those of bits without how many are unused
abbrev pub octets_of : PdvContent → List ℕ
octets_of (SingleAsn1Type octets) = octets
octets_of (OctetAligned octets) = octets
octets_of (Arbitrary bits) = bits.octets
