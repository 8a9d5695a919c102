-- What holds of the open invocations of every end: identifiers are from 1 to the last one, those of own ones have been given
-- out, and no two invocations of one end have the same (X.880 8.2). APDUs as calls write them and as rejects are.
use Rattle.std.specs.Prelude.{◌≡◌, ℕ, ◌≤◌, ℤ, pos, negsuc, List, [], ◌∷◌, Bool, true, false, Option}
use Rattle.std.specs.Prelude.{Some, None, is_some}
use Rattle.osi_base.specs.declared.layer_words.ProblemKind.{ProblemKind}
use Rattle.osi_base.specs.declared.layer_words.ProblemKind.TheVariants as problems
use Rattle.asn1_types.specs.declared.value.Val.{Val}
use Rattle.stub_tables.specs.declared.operation.Operation.{Operation}
use Rattle.stub_tables.specs.declared.operation.ErrorRow.{ErrorRow}
use Rattle.stub_tables.specs.declared.apdu.Apdu.{Apdu}
use Rattle.stub_tables.specs.declared.apdu.Apdu.TheVariants as apdus
use Rattle.stub_tables.specs.declared.apdu.Returned.{Returned}
use Rattle.stub_tables.specs.Lookup.{operation_at, error_at, operation_with, error_with}
use Rattle.stub_tables.specs.Uses.{is_carried}
use Rattle.end_rules.specs.Base.{Base}
use Rattle.end_rules.specs.State.{OpenCall, Calls, opened_with}
use Rattle.end_rules.specs.Hearing.{head_of_apdu}
use Rattle.osi_base.specs.declared.syntax.Syntax.TheVariants.{Der}
use Rattle.osi_base.specs.Limits.{last_invocation}
use Rattle.end_model.specs.Seen.{number_seen}

abbrev pub IsNumber : ℤ → Type 0
IsNumber (pos n) = (1 ≤ n) × (n ≤ last_invocation)
IsNumber (negsuc n) = ⊥

-- with so many own ones made
pub record IsNumbered (made : ℕ) (o : OpenCall) : Type 0 where
  pub is_number : IsNumber o.id
  pub made_here : o.own ≡ true → number_seen o.id ≤ made

abbrev pub AreNumbered : ℕ → List OpenCall → Type 0
AreNumbered made [] = Unit {0}
AreNumbered made (o ∷ os) = IsNumbered made o × (is_some (opened_with o.own o.id os) ≡ false) × AreNumbered made os

abbrev pub AreNumberedCalls : Calls → Type 0
AreNumberedCalls calls = AreNumbered calls.made calls.opens

-- ---- APDUs

abbrev pub IsNamed : Option ℤ → Type 0
IsNamed None = Unit {0}
IsNamed (Some id) = IsNumber id

-- a problem has a number, and one of an invocation names it
abbrev pub IsProblem : Option ℤ → ProblemKind → ℤ → Type 0
IsProblem id kind (negsuc n) = ⊥
IsProblem None problems.General (pos n) = Unit {0}
IsProblem None problems.Invoke (pos n) = ⊥
IsProblem None problems.Result (pos n) = ⊥
IsProblem None problems.Error (pos n) = ⊥
IsProblem (Some id) kind (pos n) = Unit {0}

-- the argument, result or parameter is of the type in the tables
abbrev pub fits_argument : Base → Option Operation → Option Val → Bool
fits_argument base None argument = false
fits_argument base (Some operation) argument = is_carried base.tables.types operation.argument argument

abbrev pub fits_result : Base → Option Operation → Option Val → Bool
fits_result base None result = false
fits_result base (Some operation) result = is_carried base.tables.types operation.result result

abbrev pub fits_parameter : Base → Option ErrorRow → Option Val → Bool
fits_parameter base None parameter = false
fits_parameter base (Some error) parameter = is_carried base.tables.types error.parameter parameter

abbrev pub operation_of_code : Base → Option ℕ → Option Operation
operation_of_code base None = None
operation_of_code base (Some place) = operation_at base.tables place

abbrev pub error_of_code : Base → Option ℕ → Option ErrorRow
error_of_code base None = None
error_of_code base (Some place) = error_at base.tables place

abbrev pub FitsReturned : Base → Option Returned → Type 0
FitsReturned base None = Unit {0}
FitsReturned base (Some r) = fits_result base (operation_of_code base (operation_with base.tables r.code)) (Some r.value) ≡ true

-- an APDU that a call writes, or a reject
abbrev pub IsProper : Base → Apdu → Type 0
IsProper base (apdus.Invoke id linked code argument) =
    IsNumber id × IsNamed linked × (fits_argument base (operation_of_code base (operation_with base.tables code)) argument ≡ true)
IsProper base (apdus.Result id returned) = IsNumber id × FitsReturned base returned
IsProper base (apdus.Error id code parameter) =
    IsNumber id × (fits_parameter base (error_of_code base (error_with base.tables code)) parameter ≡ true)
IsProper base (apdus.Reject id problem) = IsNamed id × IsProblem id problem.kind problem.number

-- what is written in DER of a result or an error is read back as what it says
abbrev pub IsReadBack : Base → Apdu → Type 0
IsReadBack base (apdus.Invoke id linked code argument) = Unit {0}
IsReadBack base (apdus.Result id returned) =
    base.spellings.head Der (base.spellings.apdu Der (apdus.Result id returned)) ≡ head_of_apdu (apdus.Result id returned)
IsReadBack base (apdus.Error id code parameter) =
    base.spellings.head Der (base.spellings.apdu Der (apdus.Error id code parameter)) ≡ head_of_apdu (apdus.Error id code parameter)
IsReadBack base (apdus.Reject id problem) = Unit {0}
