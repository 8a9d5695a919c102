-- Values that are read by their form (the notation of X.680 for values).
use Rattle.std.specs.Prelude.{ℕ, zero, suc, ◌+◌, ◌*◌, ◌-◌, ◌%◌, ◌==◌, true, false, if◌then◌else◌, List, [], ◌∷◌, ◌++◌, length, take, drop, Option, None, Some, option_map, slice_get, codes}
use Rattle.std.specs.Str.{bytes_eq}
use Rattle.osi_base.specs.Hexadecimal.{by_digits, octet_of}
use Rattle.osi_base.specs.Oid.{is_oid}
use Rattle.asn1_types.specs.Value as tree
use Rattle.asn1_types.specs.Value.{Value}
use Rattle.value_text.specs.Numbers.{number_of, integer_of}
use Rattle.value_reading.specs.Found.{Found, found_before}
use Rattle.value_reading.specs.Words.{len_to, word, behind_word}

-- ---- octets (X.680 23.12)

abbrev pub then_octet : (List ℕ → Option (List ℕ)) → List ℕ → Option ℕ → Option (List ℕ)
then_octet next octets None = None
then_octet next octets (Some octet) = next (octets ++ octet ∷ [])

-- octets of two digits each, behind those that were read
abbrev pub octets_of : List ℕ → List ℕ → Option (List ℕ)
octets_of octets [] = Some octets
octets_of octets (digit ∷ []) = None
octets_of octets (high ∷ low ∷ more) =
    then_octet (λ done. octets_of done more) octets (octet_of high low)

-- ---- bits (X.680 22.13)

-- a bit; behind the last they are 0
abbrev pub bit_of : Option ℕ → Option ℕ
bit_of None = Some 0
bit_of (Some digit) = if digit == 48 then Some 0 else if digit == 49 then Some 1 else None

abbrev pub of_bits : Option ℕ → Option ℕ → Option ℕ → Option ℕ → Option ℕ
of_bits (Some a) (Some b) (Some c) (Some d) = Some (8 * a + 4 * b + 2 * c + d)
of_bits a b c d = None

abbrev pub bit_at : List ℕ → ℕ → Option ℕ
bit_at digits place = bit_of (slice_get digits place)

-- the octet that up to eight bits begin, the highest first
abbrev pub octet_of_bits : List ℕ → Option ℕ
octet_of_bits digits =
    by_digits (of_bits (bit_at digits 0) (bit_at digits 1) (bit_at digits 2) (bit_at digits 3))
    (of_bits (bit_at digits 4) (bit_at digits 5) (bit_at digits 6) (bit_at digits 7))

-- octets of eight bits each, the last filled with zeros, behind those that were read
abbrev pub bit_octets : List ℕ → List ℕ → Option (List ℕ)
bit_octets octets [] = Some octets
bit_octets octets (a ∷ b ∷ c ∷ d ∷ e ∷ f ∷ g ∷ h ∷ more) =
    then_octet (λ done. bit_octets done more) octets (octet_of_bits (a ∷ b ∷ c ∷ d ∷ e ∷ f ∷ g ∷ h ∷ []))
bit_octets octets digits = then_octet (λ done. Some done) octets (octet_of_bits digits)

-- what stands between quotes, by the letter behind them
abbrev pub by_letter : List ℕ → ℕ → List ℕ → Option Found
by_letter inside letter rest =
    if letter == 72 then found_before rest (option_map (λ octets. tree.octets octets) (octets_of [] inside))
    else if letter == 66 then found_before rest (option_map (λ octets. tree.bits octets ((8 - length inside % 8) % 8)) (bit_octets [] inside))
    else None

abbrev pub quoted_form : List ℕ → List ℕ → Option Found
quoted_form inside (quote ∷ letter ∷ rest) = by_letter inside letter rest
quoted_form inside end = None

-- ---- characters (X.680 41)

abbrev pub text_before : List ℕ → List ℕ → Option Found
text_before characters rest = Some (record { value = tree.text characters; rest = rest })

-- behind those that were read, up to the quote that ends them; a quote among them stands twice
abbrev mutual
  pub characters_at : List ℕ → List ℕ → Option Found
  characters_at done [] = None
  characters_at done (c ∷ cs) = if c == 34 then behind_quote done cs else characters_at (done ++ c ∷ []) cs

  pub behind_quote : List ℕ → List ℕ → Option Found
  behind_quote done [] = text_before done []
  behind_quote done (c ∷ cs) = if c == 34 then characters_at (done ++ 34 ∷ []) cs else text_before done (c ∷ cs)

-- ---- object identifiers (X.680 32.3)

abbrev pub oid_before : List ℕ → List ℕ → Option Found
oid_before arcs rest = if is_oid arcs then Some (record { value = tree.object_id arcs; rest = rest }) else None

abbrev pub then_arc : (List ℕ → Option Found) → List ℕ → Option ℕ → Option Found
then_arc next arcs None = None
then_arc next arcs (Some arc) = next (arcs ++ arc ∷ [])

-- arcs with spaces around them, behind those that were read, up to the brace that ends them; of so many octets at most
abbrev pub arcs_at : ℕ → List ℕ → List ℕ → Option Found
arcs_at zero arcs text = None
arcs_at (suc left) arcs [] = None
arcs_at (suc left) arcs (c ∷ cs) =
    if c == 32 then arcs_at left arcs cs
    else if c == 125 then oid_before arcs cs
    else then_arc (λ done. arcs_at left done (behind_word (c ∷ cs))) arcs (number_of (word (c ∷ cs)))

-- ---- forms

abbrev pub word_form : List ℕ → Option Value
word_form text =
    if bytes_eq text (codes "TRUE") then Some (tree.boolean true)
    else if bytes_eq text (codes "FALSE") then Some (tree.boolean false)
    else if bytes_eq text (codes "NULL") then Some tree.null
    else option_map (λ number. tree.integer number) (integer_of text)

-- the value that stands first in a text by its form
abbrev pub form_at : List ℕ → Option Found
form_at [] = None
form_at (c ∷ cs) =
    if c == 39 then quoted_form (take (len_to 39 cs) cs) (drop (len_to 39 cs) cs)
    else if c == 34 then characters_at [] cs
    else if c == 123 then arcs_at (length cs) [] cs
    else found_before (behind_word (c ∷ cs)) (word_form (word (c ∷ cs)))
