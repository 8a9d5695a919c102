-- APDUs of association control of known fields alone: none of their fields is passed over (X.227 9).
use Rattle.std.specs.Prelude.{◌≡◌, ℕ, zero, suc, ◌≤◌, Bool, false, List, [], length}
use Rattle.osi_base.specs.declared.acse_word.Acse as apdus
use Rattle.osi_base.specs.Limits.{most_levels, most_octets}
use Rattle.asn1_types.specs.Value.{Value, chosen}
use Rattle.acse.specs.Words.{apdu_in}
use Rattle.acse.specs.Fields.{request_fields, response_fields, release_fields, abort_fields, FieldsSpelled}

abbrev pub KnownOfNumber : ℕ → Bool → ℕ → Value → List ℕ → Type 0
KnownOfNumber zero = FieldsSpelled 0 request_fields []
KnownOfNumber (suc zero) = FieldsSpelled 1 response_fields []
KnownOfNumber (suc (suc zero)) = FieldsSpelled 2 release_fields []
KnownOfNumber (suc (suc (suc zero))) = FieldsSpelled 3 release_fields []
KnownOfNumber (suc (suc (suc (suc zero)))) = FieldsSpelled 4 abort_fields []
KnownOfNumber (suc (suc (suc (suc (suc more))))) = λ strict levels v octets. ⊥

abbrev pub KnownApdu : Bool → ℕ → Value → List ℕ → Type 0
KnownApdu strict levels v octets = (which : ℕ) × (fields : Value) × (v ≡ chosen which fields) × KnownOfNumber which strict levels fields octets

-- octets spell this APDU, and none of their fields is passed over
pub record SpellsKnown (apdu : apdus.Acse) (octets : List ℕ) : Type 0 where
  pub value : Value
  pub spelled : KnownApdu false most_levels value octets
  pub within : length octets ≤ most_octets
  pub says : apdu_in value ≡ apdu
