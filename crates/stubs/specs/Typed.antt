-- What typing a value answers.
use Rattle.std.specs.Prelude.{◌≡◌, Bool, true, false, Option, Some, None, Result, Ok, Err}
use Rattle.asn1_types.specs.declared.value.Val.{Val}
use Rattle.asn1_types.specs.declared.table.TypeTable.{TypeTable}
use Rattle.stub_tables.specs.declared.operation.Use.{Use}
use Rattle.stub_tables.specs.Uses.{is_carried}
use Rattle.stubs.specs.declared.typed.TypedVal.{TypedVal}
use Rattle.stubs.specs.declared.typed.Unfit.{Unfit}

-- something carries the value, or its lack, and it fits
abbrev pub may_carry : TypeTable → Option Use → Option Val → Bool
may_carry types None value = false
may_carry types (Some carried) value = is_carried types carried value

-- the value where it fits, else the value given back
abbrev pub IsTyped : TypeTable → Option Use → Option Val → Result TypedVal Unfit → Type 0
IsTyped types carried value (Ok t) = (may_carry types carried value ≡ true) × (t.value ≡ value) × (Some t.carried ≡ carried) × (t.types.now ≡ types)
IsTyped types carried value (Err unfit) = (may_carry types carried value ≡ false) × (unfit.value ≡ value)
