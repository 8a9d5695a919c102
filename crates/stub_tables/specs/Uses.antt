-- What may be carried where a type is used (X.880 8.2.2, 8.2.3, 8.3.2).
use Rattle.std.specs.Prelude.{Bool, true, false, Option, Some, None}
use Rattle.asn1_types.specs.declared.value.Val.{Val}
use Rattle.asn1_types.specs.declared.table.TypeTable.{TypeTable}
use Rattle.asn1_types.specs.declared.row.TypeId.{TypeId}
use Rattle.asn1_types.specs.Fits.{fits}
use Rattle.stub_tables.specs.declared.operation.Use.{Use}

-- nothing may be carried
abbrev pub may_lack : Option TypeId → Bool → Bool
may_lack None optional = true
may_lack (Some of) optional = optional

abbrev pub fits_type : TypeTable → Option TypeId → Val → Bool
fits_type types None value = false
fits_type types (Some of) value = fits types of.0 value

-- the value, or its lack, is one that the use allows
abbrev pub is_carried : TypeTable → Use → Option Val → Bool
is_carried types use_ None = may_lack use_.inner use_.optional
is_carried types use_ (Some value) = fits_type types use_.inner value
