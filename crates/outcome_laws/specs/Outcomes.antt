-- Whose answers the outcomes are that an end is told: the other end wrote them (X.880 8, 9).
use Rattle.std.specs.Prelude.{◌≡◌, ℕ, ℤ, List, [], ◌∷◌, Bool, true, false, Option, Some, None}
use Rattle.asn1_types.specs.declared.value.Val.{Val}
use Rattle.end_model.specs.end_rules.Members.{IsIn}
use Rattle.stub_tables.specs.declared.tables.Tables.{Tables}
use Rattle.stub_tables.specs.declared.apdu.Apdu.{Apdu}
use Rattle.stub_tables.specs.declared.apdu.Apdu.TheVariants as apdus
use Rattle.stub_tables.specs.declared.apdu.Returned.{Returned}
use Rattle.stub_tables.specs.declared.operation.Operation.{Operation}
use Rattle.stub_tables.specs.Codes.{is_error_of}
use Rattle.stub_tables.specs.Lookup.{operation_at, error_with}
use Rattle.dialogue.specs.declared.indication.Indication.{Indication}
use Rattle.dialogue.specs.declared.indication.Indication.TheVariants as indications
use Rattle.end_model.specs.end_rules.Base.{is_reliable}
use Rattle.end_model.specs.end_rules.Hearing.{is_of_invocation}
use Rattle.agreement.specs.Sets.{Role, other}
use Rattle.end_model.specs.BothEnds.{Common, Two}
use Rattle.reliable_model.specs.Ledgers.{Ledger}
use Rattle.outcome_laws.specs.Exchanges.{outcome_in, outcomes_in, Asked, Exchanges, exchange_of, ReachedWithExchanges, EverExchanges, AreDistinct}

abbrev pub value_of : Option Returned → Option Val
value_of None = None
value_of (Some returned) = Some returned.value

-- this APDU tells this outcome
abbrev pub IsToldBy : Tables → Apdu → Indication → Type 0
IsToldBy tables (apdus.Result id returned) (indications.Result own value) = (own ≡ id) × (value ≡ value_of returned)
IsToldBy tables (apdus.Error id code parameter) (indications.Error own place value) =
    (own ≡ id) × (error_with tables code ≡ Some place) × (value ≡ parameter)
IsToldBy tables (apdus.Reject id problem) (indications.Rejected own told) = (id ≡ Some own) × (told ≡ problem)
IsToldBy tables apdu indication = ⊥

-- one of these APDUs tells it
pub record Answered (tables : Tables) (wrote : List Apdu) (indication : Indication) : Type 0 where
  pub apdu : Apdu
  pub written : IsIn apdu wrote
  pub tells : IsToldBy tables apdu indication

abbrev pub IfOutcome : List ℤ → Type 0 → Type 0
IfOutcome [] P = Unit {0}
IfOutcome (id ∷ ids) P = P

-- this holds of each outcome of what was shown
abbrev pub EachOutcome : (Indication → Type 0) → List Indication → Type 0
EachOutcome P [] = Unit {0}
EachOutcome P (indication ∷ shown) = IfOutcome (outcome_in indication) (P indication) × EachOutcome P shown

abbrev pub AreAnswers : Tables → List Apdu → List Indication → Type 0
AreAnswers tables wrote shown = EachOutcome (Answered tables wrote) shown

-- an operation may have this outcome: a result where it returns, an error of its own, a reject of an invocation
abbrev pub returns_at : Option Operation → Bool
returns_at None = false
returns_at (Some operation) = operation.returns

abbrev pub has_error : ℕ → Option Operation → Bool
has_error place None = false
has_error place (Some operation) = is_error_of operation place

abbrev pub allows : Option Operation → Indication → Bool
allows operation (indications.Result id value) = returns_at operation
allows operation (indications.Error id place value) = has_error place operation
allows operation (indications.Rejected id problem) = is_of_invocation problem.kind
allows operation indication = true

-- it is an outcome of an own invocation, which its operation allows
pub record Allowed (tables : Tables) (asked : List Asked) (indication : Indication) : Type 0 where
  pub invocation : Asked
  pub is_own : IsIn invocation asked
  pub is_its : outcome_in indication ≡ invocation.id ∷ []
  pub is_allowed : allows (operation_at tables invocation.operation) indication ≡ true

abbrev pub AreAllowed : Tables → List Asked → List Indication → Type 0
AreAllowed tables asked shown = EachOutcome (Allowed tables asked) shown

-- In every mode each outcome that an end is told is one of an own invocation, of a kind that its operation allows.
abbrev pub OutcomesAreAllowed : Type 0
OutcomesAreAllowed = EverExchanges (λ tables two ledger exchanges. (role : Role) → AreAllowed tables (exchange_of role exchanges).asked (exchange_of role exchanges).shown)

-- of no invocation an end is told two outcomes
abbrev pub OneOutcome : Type 0
OneOutcome = EverExchanges (λ tables two ledger exchanges. (role : Role) → AreDistinct (outcomes_in (exchange_of role exchanges).shown))

-- Outside reliable mode each outcome that an end is told is an APDU that the other end wrote.
abbrev pub OutcomesAreAnswers : Type 0
OutcomesAreAnswers =
    (common : Common) (two : Two) (ledger : Ledger) (exchanges : Exchanges) → is_reliable common.mode ≡ false → ReachedWithExchanges common two ledger exchanges →
    (role : Role) → AreAnswers common.tables (exchange_of (other role) exchanges).wrote (exchange_of role exchanges).shown
