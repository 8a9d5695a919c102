-- Presentation data values, and the values that they stand for (X.226 8.4.2).
use Rattle.std.specs.Prelude.{◌==◌, pos, [], ◌∷◌, Option, Some, None, option_map, if◌then◌else◌}
use Rattle.osi_base.specs.declared.bit_string.BitString as strings
use Rattle.osi_base.specs.declared.presentation_word.Pdv as pdvs
use Rattle.osi_base.specs.declared.presentation_word.PdvContent as contents
use Rattle.osi_base.specs.declared.presentation_word.PdvContent.TheVariants as content
use Rattle.asn1_types.specs.Value.{Value, integer, octets, bits, object_id, parts, chosen, any}
use Rattle.asn1_types.specs.ValueView.{parts_of}
use Rattle.fixed_tables.specs.Values.{part_in, small_or, octets_in, maybe_arcs, maybe_bits, alternative, inside}

-- ---- what a value says

abbrev pub bits_or_none : Option strings.BitString → strings.BitString
bits_or_none None = record { octets = []; unused = 0 }
bits_or_none (Some string) = string

-- a presentation data value in its form
abbrev pub content_in : Option Value → contents.PdvContent
content_in v =
    if alternative v == 0 then content.SingleAsn1Type (octets_in (inside v))
    else (if alternative v == 1 then content.OctetAligned (octets_in (inside v)) else content.Arbitrary (bits_or_none (maybe_bits (inside v))))

-- transfer syntax name, identifier, and the value
abbrev pub pdv_in : Value → pdvs.Pdv
pdv_in v = record { transfer = maybe_arcs (part_in 0 (Some v)); id = small_or (pos 0) (part_in 1 (Some v)); content = content_in (part_in 2 (Some v)) }

-- ---- the value that says it

abbrev pub content_value : contents.PdvContent → Value
content_value (content.SingleAsn1Type os) = chosen 0 (any os)
content_value (content.OctetAligned os) = chosen 1 (octets os)
content_value (content.Arbitrary string) = chosen 2 (bits string.octets string.unused)

abbrev pub pdv_value : pdvs.Pdv → Value
pdv_value p = parts (parts_of (option_map object_id p.transfer ∷ Some (integer (pos p.id)) ∷ Some (content_value p.content) ∷ []))
