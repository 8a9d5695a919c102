-- How many octets the pieces of heads of APDUs have, and which APDUs have too many. BER and DER have one spelling.
use Rattle.std.specs.Prelude.{ℕ, suc, ◌+◌, ℤ, Bool, ◌||◌, List, Option, Some, None, length, nat_lt}
use Rattle.std.specs.List.{flat_map}
use Rattle.osi_base.specs.declared.syntax.Syntax.{Syntax}
use Rattle.osi_base.specs.declared.syntax.Syntax.TheVariants.{Ber, Der, Packed}
use Rattle.osi_base.specs.Limits.{most_octets}
use Rattle.asn1_types.specs.Writing.{base_128, integer_octets, subidentifiers, length_octets}
use Rattle.packed_codec.specs.Numbers as packed_numbers
use Rattle.packed_codec.specs.ObjectIds as packed_ids
use Rattle.stub_tables.specs.declared.tables.Tables.{Tables}
use Rattle.stub_tables.specs.declared.apdu.Apdu.{Apdu}
use Rattle.stub_tables.specs.declared.operation.Code.{Code}
use Rattle.stub_tables.specs.declared.operation.Code.TheVariants.{Local, Global}
use Rattle.apdu_spelling.specs.Writing.{written_apdu}

-- identifier of one octet, length and contents
abbrev pub definite_size : ℕ → ℕ
definite_size n = suc (length (length_octets n) + n)

-- what holds others: in the packed syntax one octet stands before them
abbrev pub held_size : Syntax → ℕ → ℕ
held_size Ber n = definite_size n
held_size Der n = definite_size n
held_size Packed n = suc n

-- what is one of several, or may lack: in the packed syntax one octet says which
abbrev pub marked_size : Syntax → ℕ → ℕ
marked_size Ber n = n
marked_size Der n = n
marked_size Packed n = suc n

abbrev pub integer_size : Syntax → ℤ → ℕ
integer_size Ber z = definite_size (length (integer_octets z))
integer_size Der z = definite_size (length (integer_octets z))
integer_size Packed z = suc (length (packed_numbers.integer_octets z))

abbrev pub object_id_size : Syntax → List ℕ → ℕ
object_id_size Ber arcs = definite_size (length (flat_map base_128 (subidentifiers arcs)))
object_id_size Der arcs = definite_size (length (flat_map base_128 (subidentifiers arcs)))
object_id_size Packed arcs = 4 + length (packed_ids.arcs_octets arcs)

-- NULL
abbrev pub nothing_size : Syntax → ℕ
nothing_size Ber = 2
nothing_size Der = 2
nothing_size Packed = 0

abbrev pub code_size : Syntax → Code → ℕ
code_size syntax (Local number) = marked_size syntax (integer_size syntax number)
code_size syntax (Global arcs) = marked_size syntax (object_id_size syntax arcs)

abbrev pub linked_size : Syntax → Option ℤ → ℕ
linked_size syntax None = marked_size syntax 0
linked_size syntax (Some id) = marked_size syntax (integer_size syntax id)

abbrev pub rejected_size : Syntax → Option ℤ → ℕ
rejected_size syntax None = marked_size syntax (nothing_size syntax)
rejected_size syntax (Some id) = marked_size syntax (integer_size syntax id)

-- ---- APDUs with more octets than one may have

abbrev pub is_too_long_in : Tables → Syntax → Apdu → Bool
is_too_long_in tables syntax apdu = nat_lt most_octets (length (written_apdu tables syntax apdu))

-- in one of the three syntaxes
abbrev pub is_too_long : Tables → Apdu → Bool
is_too_long tables apdu = is_too_long_in tables Ber apdu || is_too_long_in tables Der apdu || is_too_long_in tables Packed apdu
