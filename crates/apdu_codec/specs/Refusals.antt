-- Why octets are no head of an APDU (X.880 9.4.2, the general problems).
use Rattle.std.specs.Prelude.{ℕ, Bool, true, false, ◌&&◌, List, [], ◌∷◌, Option, Some, None, Result, Ok, Err, nat_le, nat_eq, if◌then◌else◌}
use Rattle.osi_base.specs.declared.syntax.Syntax.{Syntax}
use Rattle.osi_base.specs.declared.syntax.Syntax.TheVariants.{Ber, Der, Packed}
use Rattle.osi_base.specs.declared.layer_words.Kind.{Kind}
use Rattle.osi_base.specs.declared.layer_words.Kind.TheVariants.{Tag, Missing, Extra, Length, Content, Form}
use Rattle.osi_base.specs.Limits.{most_octets}
use Rattle.asn1_types.specs.Value.{Value}
use Rattle.ber_spelling.specs.declared.fault.ReadFault as bers
use Rattle.ber_spelling.specs.declared.fault.ReadFault.TheVariants as ber
use Rattle.ber_spelling.specs.Rules as ber_rules
use Rattle.packed_codec.specs.declared.fault.PackedFault as packeds
use Rattle.packed_codec.specs.declared.fault.PackedFault.TheVariants as packed
use Rattle.packed_codec.specs.Rules as packed_rules
use Rattle.apdu_spelling.specs.Rows.{head_rows, apdu_row, packed_apdu_row}
use Rattle.apdu_codec.specs.declared.fault.HeadFault.{HeadFault}
use Rattle.apdu_codec.specs.declared.fault.HeadFault.TheVariants.{General, BadReject}

-- ---- the number of the general problem: 1 mistyped APDU, 2 badly structured APDU

abbrev pub number_of_kind : Kind → ℕ
number_of_kind Length = 2
number_of_kind Form = 2
number_of_kind Tag = 1
number_of_kind Missing = 1
number_of_kind Extra = 1
number_of_kind Content = 1

-- by the first fault from the left; where there is none, octets follow the whole APDU
abbrev pub number_of_ber : Result (Value × ℕ) bers.ReadFault → ℕ
number_of_ber (Ok x) = 1
number_of_ber (Err (ber.NotSpelled place kind)) = number_of_kind kind
number_of_ber (Err ber.Short) = 2
number_of_ber (Err (ber.TooDeep place)) = 2
number_of_ber (Err (ber.TooLong place)) = 2
number_of_ber (Err ber.NoMemory) = 2

abbrev pub number_of_packed : Result (Value × ℕ) packeds.PackedFault → ℕ
number_of_packed (Ok x) = 1
number_of_packed (Err (packed.NotSpelled place kind)) = number_of_kind kind
number_of_packed (Err packed.Short) = 2
number_of_packed (Err (packed.TooLong place)) = 2
number_of_packed (Err packed.NoMemory) = 2

-- what a reader that gives a fault says of it, unless memory was refused
abbrev pub ber_told : bers.ReadFault → Option ℕ
ber_told ber.NoMemory = None
ber_told fault = Some (number_of_ber (Err fault))

abbrev pub packed_told : packeds.PackedFault → Option ℕ
packed_told packed.NoMemory = None
packed_told fault = Some (number_of_packed (Err fault))

abbrev pub problem_number : Syntax → List ℕ → ℕ
problem_number Ber text = number_of_ber (ber_rules.read_at head_rows apdu_row false most_octets text)
problem_number Der text = number_of_ber (ber_rules.read_at head_rows apdu_row true most_octets text)
problem_number Packed text = number_of_packed (packed_rules.read_at head_rows packed_apdu_row most_octets text)

-- ---- the first octet: 0 unrecognized APDU

-- it is that of an APDU: a tag of the context class, constructed, 1 to 4, or a kind 1 to 4
abbrev pub opens : Syntax → ℕ → Bool
opens Ber first = nat_le 161 first && nat_le first 164
opens Der first = nat_le 161 first && nat_le first 164
opens Packed first = nat_le 1 first && nat_le first 4

abbrev pub opens_reject : Syntax → ℕ → Bool
opens_reject Ber first = nat_eq first 164
opens_reject Der first = nat_eq first 164
opens_reject Packed first = nat_eq first 4

-- a faulty reject is never rejected
abbrev pub refusal_of : Syntax → List ℕ → HeadFault
refusal_of syntax [] = General 2
refusal_of syntax (first ∷ rest) =
    if opens syntax first then (if opens_reject syntax first then BadReject else General (problem_number syntax (first ∷ rest))) else General 0
