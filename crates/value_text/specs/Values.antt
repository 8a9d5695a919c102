-- Values as texts, by their form (the notation of X.680 for values).
use Rattle.std.specs.Prelude.{ℕ, ◌+◌, ◌-◌, ◌/◌, ◌%◌, ◌==◌, nat_lt, if◌then◌else◌, List, [], ◌∷◌, ◌++◌, take, Bool, true, false, codes, decimal, flat_map}
use Rattle.std.specs.Fmt.{signed_decimal}
use Rattle.asn1_types.specs.Value as tree
use Rattle.asn1_types.specs.Value.{Value}

abbrev pub hex_digit : ℕ → ℕ
hex_digit n = if nat_lt n 10 then 48 + n else 65 + (n - 10)

-- two upper-case digits
abbrev pub hex_octet : ℕ → List ℕ
hex_octet octet = hex_digit (octet / 16) ∷ hex_digit (octet % 16) ∷ []

abbrev pub after_space : ℕ → List ℕ
after_space n = codes " " ++ decimal n

-- numbers with a space between each two
abbrev pub spaced : List ℕ → List ℕ
spaced [] = []
spaced (n ∷ more) = decimal n ++ flat_map after_space more

-- an object identifier, as {2 999 1}
abbrev pub oid_text : List ℕ → List ℕ
oid_text arcs = codes "{" ++ spaced arcs ++ codes "}"

abbrev pub boolean_text : Bool → List ℕ
boolean_text true = codes "TRUE"
boolean_text false = codes "FALSE"

-- octets, as '0A'H
abbrev pub octets_text : List ℕ → List ℕ
octets_text octets = codes "'" ++ flat_map hex_octet octets ++ codes "'H"

-- the bits of an octet, the highest first
abbrev pub octet_bits : ℕ → List ℕ
octet_bits octet =
    (48 + octet / 128 % 2) ∷ (48 + octet / 64 % 2) ∷ (48 + octet / 32 % 2) ∷ (48 + octet / 16 % 2)
    ∷ (48 + octet / 8 % 2) ∷ (48 + octet / 4 % 2) ∷ (48 + octet / 2 % 2) ∷ (48 + octet % 2) ∷ []

-- the bits of all octets but those of the last one that are unused
abbrev pub bits_of : List ℕ → ℕ → List ℕ
bits_of [] unused = []
bits_of (octet ∷ []) unused = take (8 - unused) (octet_bits octet)
bits_of (octet ∷ next ∷ more) unused = octet_bits octet ++ bits_of (next ∷ more) unused

-- bits, as '0101'B
abbrev pub bits_text : List ℕ → ℕ → List ℕ
bits_text octets unused = codes "'" ++ bits_of octets unused ++ codes "'B"

-- a quote is doubled
abbrev pub doubled : ℕ → List ℕ
doubled octet = if octet == 34 then 34 ∷ 34 ∷ [] else octet ∷ []

-- characters, as "text"
abbrev pub characters_text : List ℕ → List ℕ
characters_text characters = 34 ∷ [] ++ flat_map doubled characters ++ 34 ∷ []

-- a value by its form, or `?` where it has none without its type
abbrev pub value_text : Value → List ℕ
value_text (tree.boolean b) = boolean_text b
value_text (tree.integer z) = signed_decimal z
value_text tree.null = codes "NULL"
value_text (tree.octets octets) = octets_text octets
value_text (tree.bits octets unused) = bits_text octets unused
value_text (tree.object_id arcs) = oid_text arcs
value_text (tree.text characters) = characters_text characters
value_text _ = codes "?"

-- a value that follows other fields, or nothing
