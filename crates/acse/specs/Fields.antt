-- The fields of the APDUs of association control (X.227 9): those that are known, and those that are passed over.
use Rattle.std.specs.Prelude.{◌≡◌, ℕ, zero, suc, ◌≤◌, Bool, true, false, List, [], ◌∷◌, length, Result, Ok, nat_eq, if◌then◌else◌}
use Rattle.osi_base.specs.declared.layer_words.Kind.TheVariants.{Tag}
use Rattle.osi_base.specs.declared.acse_word.Acse as apdus
use Rattle.osi_base.specs.Limits.{most_levels, most_octets}
use Rattle.asn1_types.specs.declared.row.Class.TheVariants.{Application, Context}
use Rattle.asn1_types.specs.declared.row.TypeRow.{TypeRow}
use Rattle.asn1_types.specs.Rows.{same_class}
use Rattle.asn1_types.specs.Value.{Value, chosen}
use Rattle.ber_spelling.specs.declared.spot.Scope.{Scope}
use Rattle.asn1_types.specs.declared.row.Tag as tags
use Rattle.ber_spelling.specs.Reading.{Spot, Opened, Reading, ◌>>=◌, refuse}
use Rattle.fixed_tables.specs.declared.pdu.PduFault as units
use Rattle.passed_fields.specs.declared.field.Field as known
use Rattle.passed_fields.specs.declared.field.Passed as over
use Rattle.passed_fields.specs.Known.{of_row, anywhere}
use Rattle.passed_fields.specs.Reading.{fielded_at}
use Rattle.passed_fields.specs.Spelling.{FieldedIs}
use Rattle.passed_fields.specs.AllOctets.{all_at}
use Rattle.acse.specs.Rows.{acse_rows}
use Rattle.acse.specs.Words.{apdu_in}
use Rattle.acse.specs.Plain.{of_value}

-- AARQ: version, context name, user information
abbrev pub request_fields : List known.Field
request_fields = of_row Context 0 12 true ∷ of_row Context 1 13 false ∷ of_row Context 30 11 true ∷ []

abbrev pub request_passed : List over.Passed
request_passed = anywhere 2 29 ∷ []

-- AARE: context name, result, diagnostic, user information
abbrev pub response_fields : List known.Field
response_fields = of_row Context 1 13 false ∷ of_row Context 2 16 false ∷ of_row Context 3 20 false ∷ of_row Context 30 11 true ∷ []

abbrev pub response_passed : List over.Passed
response_passed = anywhere 0 0 ∷ anywhere 4 29 ∷ []

-- RLRQ and RLRE: reason
abbrev pub release_fields : List known.Field
release_fields = of_row Context 0 23 true ∷ []

abbrev pub release_passed : List over.Passed
release_passed = anywhere 1 30 ∷ []

-- ABRT: source, user information
abbrev pub abort_fields : List known.Field
abort_fields = of_row Context 0 27 false ∷ of_row Context 30 11 true ∷ []

abbrev pub abort_passed : List over.Passed
abort_passed = anywhere 1 29 ∷ []

-- the APDU's own tag
abbrev pub apdu_tag : ℕ → tags.Tag
apdu_tag which = record { class = Application; number = which }

-- ---- reading

abbrev pub apdu_at : List TypeRow → ℕ → List known.Field → List over.Passed → Scope → Opened → Spot → Reading (Value × Spot)
apdu_at rows which fields passed scope opened spot = do
  v ← fielded_at rows fields passed (apdu_tag which) scope opened spot
  Ok (chosen which v.0, v.1)

abbrev pub of_number : List TypeRow → Scope → Opened → Spot → Reading (Value × Spot)
of_number rows scope opened spot =
    if nat_eq opened.number 0 then apdu_at rows 0 request_fields request_passed scope opened spot
    else (if nat_eq opened.number 1 then apdu_at rows 1 response_fields response_passed scope opened spot
    else (if nat_eq opened.number 2 then apdu_at rows 2 release_fields release_passed scope opened spot
    else (if nat_eq opened.number 3 then apdu_at rows 3 release_fields release_passed scope opened spot
    else (if nat_eq opened.number 4 then apdu_at rows 4 abort_fields abort_passed scope opened spot
    else refuse opened.start.place Tag))))

-- any of the five
unfoldable pub any_apdu_at : List TypeRow → Scope → Opened → Spot → Reading (Value × Spot)
any_apdu_at rows scope opened spot = if same_class opened.class Application then of_number rows scope opened spot else refuse opened.start.place Tag

-- the APDU that all of these octets are, or their first fault
abbrev pub acse_at : List ℕ → Result apdus.Acse units.PduFault
acse_at octets = of_value (all_at (any_apdu_at acse_rows) most_octets octets)

-- ---- apart from reading: the fields of each APDU under its tag

abbrev pub FieldsSpelled : ℕ → List known.Field → List over.Passed → Bool → ℕ → Value → List ℕ → Type 0
FieldsSpelled which fields passed strict levels v octets = FieldedIs acse_rows fields passed (apdu_tag which) strict levels v octets

abbrev pub OfNumber : ℕ → Bool → ℕ → Value → List ℕ → Type 0
OfNumber zero = FieldsSpelled 0 request_fields request_passed
OfNumber (suc zero) = FieldsSpelled 1 response_fields response_passed
OfNumber (suc (suc zero)) = FieldsSpelled 2 release_fields release_passed
OfNumber (suc (suc (suc zero))) = FieldsSpelled 3 release_fields release_passed
OfNumber (suc (suc (suc (suc zero)))) = FieldsSpelled 4 abort_fields abort_passed
OfNumber (suc (suc (suc (suc (suc more))))) = λ strict levels v octets. ⊥

-- one of the five, as a value of its number
abbrev pub AnyApdu : Bool → ℕ → Value → List ℕ → Type 0
AnyApdu strict levels v octets = (which : ℕ) × (fields : Value) × (v ≡ chosen which fields) × OfNumber which strict levels fields octets

-- octets spell this APDU (BER, X.690 8), at most 262,144 of them
pub record SpellsAcse (apdu : apdus.Acse) (octets : List ℕ) : Type 0 where
  pub value : Value
  pub spelled : AnyApdu false most_levels value octets
  pub within : length octets ≤ most_octets
  pub says : apdu_in value ≡ apdu
