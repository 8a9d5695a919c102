-- Where no field is passed over, octets that spell a value of the table spell the APDU that it says, and what is written
-- is so spelled.
use Rattle.std.proofs.Common.{◌≡◌, ℕ, zero, suc, true, false, List, [], ◌∷◌, Some, refl, subst, arith}
use Rattle.std.specs.Prelude.{codes}
use Rattle.osi_base.specs.declared.acse_word.Acse as apdus
use Rattle.asn1_types.specs.declared.row.Class.TheVariants.{Context}
use Rattle.asn1_types.specs.declared.row.Part.{Part}
use Rattle.asn1_types.specs.Rows.{openings, tag}
use Rattle.asn1_types.specs.Value.{Value, chosen}
use Rattle.asn1_types.specs.FixedRows.{part}
use Rattle.ber_spelling.specs.Rules.{plain}
use Rattle.ber_spelling.specs.Spelling.{IsConstructed, SequenceIs, ChoiceIs, SpelledBy}
use Rattle.ber_spelling.proofs.Wholes.{whole_is}
use Rattle.ber_spelling.proofs.Written.{written_spelled}
use Rattle.passed_fields.specs.declared.field.Field as known
use Rattle.passed_fields.specs.declared.field.Passed as over
use Rattle.passed_fields.specs.Spelling.{FieldsAre}
use Rattle.passed_fields.proofs.MoreTurns.{constructed_more}
use Rattle.passed_fields.proofs.PlainFields.{AreParts, sequence_fields}
use Rattle.acse.specs.Rows.{acse_row, acse_rows}
use Rattle.acse.specs.Words.{value_of}
use Rattle.acse.specs.Plain.{SpellsPlain}
use Rattle.acse.specs.Fields.{request_fields, request_passed, response_fields, response_passed, release_fields, release_passed, abort_fields, abort_passed, apdu_tag, FieldsSpelled, OfNumber, AnyApdu}
use Rattle.acse.specs.Written.{written_acse}
use Rattle.acse.specs.Laws.{PlainIsSpelled, WrittenAcseIsRead}
use Rattle.acse.proofs.Added.{acse_sound}
use Rattle.acse.proofs.AcseLaws.{writable_fits, writable_says, spelled_acse_is_read}

abbrev pub request_parts : List Part
request_parts = part (codes "version") 12 true ∷ part (codes "context") 13 false ∷ part (codes "user") 11 true ∷ []

abbrev pub response_parts : List Part
response_parts = part (codes "context") 13 false ∷ part (codes "result") 16 false ∷ part (codes "diagnostic") 20 false ∷ part (codes "user") 11 true ∷ []

abbrev pub release_parts : List Part
release_parts = part (codes "reason") 23 true ∷ []

abbrev pub abort_parts : List Part
abort_parts = part (codes "source") 27 false ∷ part (codes "user") 11 true ∷ []

opens_11 : openings acse_rows 11 ≡ tag Context 30 ∷ []
unfolding openings
opens_11 = refl

opens_12 : openings acse_rows 12 ≡ tag Context 0 ∷ []
unfolding openings
opens_12 = refl

opens_13 : openings acse_rows 13 ≡ tag Context 1 ∷ []
unfolding openings
opens_13 = refl

opens_16 : openings acse_rows 16 ≡ tag Context 2 ∷ []
unfolding openings
opens_16 = refl

opens_20 : openings acse_rows 20 ≡ tag Context 3 ∷ []
unfolding openings
opens_20 = refl

opens_23 : openings acse_rows 23 ≡ tag Context 0 ∷ []
unfolding openings
opens_23 = refl

opens_27 : openings acse_rows 27 ≡ tag Context 0 ∷ []
unfolding openings
opens_27 = refl

pub request_are : AreParts acse_rows acse_sound request_fields request_parts
request_are =
    ((codes "version", 12, refl, refl, opens_12, omega arith), ((codes "context", 13, refl, refl, opens_13, omega arith), ((codes "user", 11, refl, refl, opens_11, omega arith), tt)))

pub response_are : AreParts acse_rows acse_sound response_fields response_parts
response_are =
    ((codes "context", 13, refl, refl, opens_13, omega arith), ((codes "result", 16, refl, refl, opens_16, omega arith), ((codes "diagnostic", 20, refl, refl, opens_20, omega arith), ((codes "user", 11, refl, refl, opens_11, omega arith), tt))))

pub release_are : AreParts acse_rows acse_sound release_fields release_parts
release_are = ((codes "reason", 23, refl, refl, opens_23, omega arith), tt)

pub abort_are : AreParts acse_rows acse_sound abort_fields abort_parts
abort_are = ((codes "source", 27, refl, refl, opens_27, omega arith), ((codes "user", 11, refl, refl, opens_11, omega arith), tt))

-- an APDU under its tag
pub under_tag : (which : ℕ) (fields : List known.Field) (passed : List over.Passed) (ps : List Part) → AreParts acse_rows acse_sound fields ps → (w : Value) (octets : List ℕ)
    → IsConstructed (apdu_tag which) false 32 (λ l c. SequenceIs (SpelledBy acse_rows 28) false ps w l c) octets → FieldsSpelled which fields passed false 32 w octets
under_tag which fields passed ps are w octets p =
    constructed_more (apdu_tag which) false 32 (λ l c. SequenceIs (SpelledBy acse_rows 28) false ps w l c) (λ l c. FieldsAre acse_rows fields passed false l w c) (λ l c q. sequence_fields acse_rows acse_sound 28 3 refl false fields passed ps are w l c q) octets p

abbrev pub apdu_parts : List Part
apdu_parts = part (codes "AARQ") 15 false ∷ part (codes "AARE") 22 false ∷ part (codes "RLRQ") 25 false ∷ part (codes "RLRE") 26 false ∷ part (codes "ABRT") 29 false ∷ []

-- that of an alternative, whose row is a tag over a SEQUENCE
pub row_is : (p q : Part) (w : Value) (octets : List ℕ) → Some q ≡ Some p → SpelledBy acse_rows 30 p.inner.0 plain false 32 w octets → SpelledBy acse_rows 30 q.inner.0 plain false 32 w octets
row_is p q w octets e h = let same : p ≡ q = cc in subst (λ (x : Part). SpelledBy acse_rows 30 x.inner.0 plain false 32 w octets) same h

of_which : (which : ℕ) (w : Value) (octets : List ℕ) → ChoiceIs (SpelledBy acse_rows 30) apdu_parts false 32 (chosen which w) octets → OfNumber which false 32 w octets
of_which zero w octets p = under_tag 0 request_fields request_passed request_parts request_are w octets (row_is p.0 (part (codes "AARQ") 15 false) w octets p.1 p.2)
of_which (suc zero) w octets p = under_tag 1 response_fields response_passed response_parts response_are w octets (row_is p.0 (part (codes "AARE") 22 false) w octets p.1 p.2)
of_which (suc (suc zero)) w octets p = under_tag 2 release_fields release_passed release_parts release_are w octets (row_is p.0 (part (codes "RLRQ") 25 false) w octets p.1 p.2)
of_which (suc (suc (suc zero))) w octets p = under_tag 3 release_fields release_passed release_parts release_are w octets (row_is p.0 (part (codes "RLRE") 26 false) w octets p.1 p.2)
of_which (suc (suc (suc (suc zero)))) w octets p = under_tag 4 abort_fields abort_passed abort_parts abort_are w octets (row_is p.0 (part (codes "ABRT") 29 false) w octets p.1 p.2)
of_which (suc (suc (suc (suc (suc more))))) w octets p = absurd (let none = p.1 in cc)

any_of : (v : Value) (octets : List ℕ) → SpelledBy acse_rows 31 30 plain false 32 v octets → AnyApdu false 32 v octets
any_of (chosen which w) octets p = (which, w, refl, of_which which w octets p)
any_of v octets p = absurd p

pub plain_is_spelled : PlainIsSpelled
plain_is_spelled a octets p = record { value = p.value; spelled = any_of p.value octets p.spelled.by; within = p.spelled.within; says = p.says }

pub written_acse_is_read : WrittenAcseIsRead
written_acse_is_read a w =
    let octets : List ℕ = written_acse a in
    let spells : SpellsPlain a octets = record {
      value = value_of a;
      spelled = written_spelled whole_is acse_rows acse_sound acse_row (value_of a) (writable_fits a w.can) false 262144 (omega arith) w.within;
      says = writable_says a w.can;
    } in
    (spells, spelled_acse_is_read a octets (plain_is_spelled a octets spells))
