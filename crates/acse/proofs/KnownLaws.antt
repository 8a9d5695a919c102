-- APDUs of known fields alone are values of the table, and the other way round.
use Rattle.std.proofs.Common.{◌≡◌, ℕ, zero, suc, ◌<◌, Bool, true, false, List, [], refl, sym, subst, arith}
use Rattle.std.specs.Prelude.{codes}
use Rattle.osi_base.specs.declared.acse_word.Acse as apdus
use Rattle.asn1_types.specs.declared.row.Class.{Class}
use Rattle.asn1_types.specs.declared.row.Class.TheVariants.{Context}
use Rattle.asn1_types.specs.declared.row.Part.{Part}
use Rattle.asn1_types.specs.Value.{Value, chosen}
use Rattle.asn1_types.specs.FixedRows.{part}
use Rattle.ber_spelling.specs.Rules.{plain}
use Rattle.ber_spelling.specs.Spelling.{IsConstructed, SequenceIs, ChoiceIs, SpelledBy}
use Rattle.passed_fields.specs.declared.field.Field as known
use Rattle.passed_fields.specs.Known.{of_row}
use Rattle.passed_fields.specs.Spelling.{FieldsAre}
use Rattle.passed_fields.proofs.MoreTurns.{constructed_more}
use Rattle.passed_fields.proofs.FieldParts.{IsHeld, AreHeld, row_held, fields_sequence}
use Rattle.acse.specs.Rows.{acse_rows}
use Rattle.acse.specs.Known.{KnownOfNumber, KnownApdu}
use Rattle.acse.specs.Fields.{request_fields, response_fields, release_fields, abort_fields, apdu_tag, FieldsSpelled}
use Rattle.acse.specs.Laws.{KnownArePlain}
use Rattle.acse.proofs.Added.{acse_sound}
use Rattle.acse.proofs.PlainLaws.{request_parts, request_are, response_parts, response_are, release_parts, release_are, abort_parts, abort_are, apdu_parts, under_tag, row_is}

-- ---- fields as parts

held : (class : Class) (number row : ℕ) (may : Bool) (name : List ℕ) → row < 28 → IsHeld acse_rows acse_sound 28 (of_row class number row may) (part name row may)
held class number row may name l = row_held acse_rows acse_sound 28 3 refl (of_row class number row may) name row refl l

request_held : AreHeld acse_rows acse_sound 28 request_fields request_parts
request_held = (held Context 0 12 true (codes "version") (omega arith), (held Context 1 13 false (codes "context") (omega arith), (held Context 30 11 true (codes "user") (omega arith), tt)))

response_held : AreHeld acse_rows acse_sound 28 response_fields response_parts
response_held =
    (held Context 1 13 false (codes "context") (omega arith), (held Context 2 16 false (codes "result") (omega arith), (held Context 3 20 false (codes "diagnostic") (omega arith), (held Context 30 11 true (codes "user") (omega arith), tt))))

release_held : AreHeld acse_rows acse_sound 28 release_fields release_parts
release_held = (held Context 0 23 true (codes "reason") (omega arith), tt)

abort_held : AreHeld acse_rows acse_sound 28 abort_fields abort_parts
abort_held = (held Context 0 27 false (codes "source") (omega arith), (held Context 30 11 true (codes "user") (omega arith), tt))

-- an APDU under its tag
of_fields : (which : ℕ) (fields : List known.Field) (ps : List Part) → AreHeld acse_rows acse_sound 28 fields ps → (w : Value) (octets : List ℕ) → FieldsSpelled which fields [] false 32 w octets
    → IsConstructed (apdu_tag which) false 32 (λ l c. SequenceIs (SpelledBy acse_rows 28) false ps w l c) octets
of_fields which fields ps are w octets p =
    constructed_more (apdu_tag which) false 32 (λ l c. FieldsAre acse_rows fields [] false l w c) (λ l c. SequenceIs (SpelledBy acse_rows 28) false ps w l c) (λ l c q. fields_sequence acse_rows acse_sound 28 3 refl false fields ps are w l c q) octets p

choice_of : (which : ℕ) (w : Value) (octets : List ℕ) → KnownOfNumber which false 32 w octets → ChoiceIs (SpelledBy acse_rows 30) apdu_parts false 32 (chosen which w) octets
choice_of zero w octets p = (part (codes "AARQ") 15 false, refl, of_fields 0 request_fields request_parts request_held w octets p)
choice_of (suc zero) w octets p = (part (codes "AARE") 22 false, refl, of_fields 1 response_fields response_parts response_held w octets p)
choice_of (suc (suc zero)) w octets p = (part (codes "RLRQ") 25 false, refl, of_fields 2 release_fields release_parts release_held w octets p)
choice_of (suc (suc (suc zero))) w octets p = (part (codes "RLRE") 26 false, refl, of_fields 3 release_fields release_parts release_held w octets p)
choice_of (suc (suc (suc (suc zero)))) w octets p = (part (codes "ABRT") 29 false, refl, of_fields 4 abort_fields abort_parts abort_held w octets p)
choice_of (suc (suc (suc (suc (suc more))))) w octets p = absurd p

known_spelled : (which : ℕ) (w v : Value) (octets : List ℕ) → v ≡ chosen which w → KnownOfNumber which false 32 w octets → SpelledBy acse_rows 31 30 plain false 32 v octets
known_spelled which w v octets e p = subst (λ (x : Value). SpelledBy acse_rows 31 30 plain false 32 x octets) (sym e) (choice_of which w octets p)

-- ---- parts as fields

number_of : (which : ℕ) (w : Value) (octets : List ℕ) → ChoiceIs (SpelledBy acse_rows 30) apdu_parts false 32 (chosen which w) octets → KnownOfNumber which false 32 w octets
number_of zero w octets p = under_tag 0 request_fields [] request_parts request_are w octets (row_is p.0 (part (codes "AARQ") 15 false) w octets p.1 p.2)
number_of (suc zero) w octets p = under_tag 1 response_fields [] response_parts response_are w octets (row_is p.0 (part (codes "AARE") 22 false) w octets p.1 p.2)
number_of (suc (suc zero)) w octets p = under_tag 2 release_fields [] release_parts release_are w octets (row_is p.0 (part (codes "RLRQ") 25 false) w octets p.1 p.2)
number_of (suc (suc (suc zero))) w octets p = under_tag 3 release_fields [] release_parts release_are w octets (row_is p.0 (part (codes "RLRE") 26 false) w octets p.1 p.2)
number_of (suc (suc (suc (suc zero)))) w octets p = under_tag 4 abort_fields [] abort_parts abort_are w octets (row_is p.0 (part (codes "ABRT") 29 false) w octets p.1 p.2)
number_of (suc (suc (suc (suc (suc more))))) w octets p = absurd (let none = p.1 in cc)

known_of : (v : Value) (octets : List ℕ) → SpelledBy acse_rows 31 30 plain false 32 v octets → KnownApdu false 32 v octets
known_of (chosen which w) octets p = (which, w, refl, number_of which w octets p)
known_of v octets p = absurd p

pub known_are_plain : KnownArePlain
known_are_plain apdu octets = (
  λ k. record { value = k.value; spelled = record { by = known_spelled k.spelled.0 k.spelled.1 k.value octets k.spelled.2 k.spelled.3; within = k.within }; says = k.says },
  λ p. record { value = p.value; spelled = known_of p.value octets p.spelled.by; within = p.spelled.within; says = p.says },
)
