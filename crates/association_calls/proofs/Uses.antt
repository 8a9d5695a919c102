-- The row at hand is the one that its code names, and says how the value of its APDU is used.
use Rattle.std.proofs.Common.{◌≡◌, ℕ, ℤ, Option, Some, None, refl, sym, ap, ◌∙◌, option_map}
use Rattle.asn1_types.specs.declared.value.Val.{Val}
use Rattle.stub_tables.specs.declared.operation.Operation.{Operation}
use Rattle.stub_tables.specs.declared.operation.ErrorRow.{ErrorRow}
use Rattle.stub_tables.specs.declared.tables.Tables.{Tables}
use Rattle.stub_tables.specs.Lookup.{operation_at, error_at}
use Rattle.stub_tables.specs.Apdus.{placed, result_of, operation_coded, error_coded, use_in}
use Rattle.stub_tables.proofs.OwnCodes.{own_codes}
use Rattle.end_rules.specs.Invoking.{result_apdu}

pub own_operation : (tables : Tables) (place : ℕ) (o : Operation) → operation_at tables place ≡ Some o → operation_coded tables o.code ≡ Some o
own_operation tables place o there = ap (placed (operation_at tables)) ((own_codes tables).operations place o there) ∙ there

pub own_error : (tables : Tables) (place : ℕ) (e : ErrorRow) → error_at tables place ≡ Some e → error_coded tables e.code ≡ Some e
own_error tables place e there = ap (placed (error_at tables)) ((own_codes tables).errors place e there) ∙ there

-- the value of a result is used as its operation says
pub result_used : (tables : Tables) (o : Operation) (id : ℤ) (value : Option Val) → operation_coded tables o.code ≡ Some o → option_map (λ (_ : Val). o.result) value ≡ use_in tables (result_apdu o id value)
result_used tables o id None own = refl
result_used tables o id (Some v) own = sym (ap (option_map result_of) own)
