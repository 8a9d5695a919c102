-- The one spelling in which an APDU is written.
use Rattle.std.specs.Prelude.{◌≡◌, ℕ, ◌≤◌, ℤ, pos, negsuc, Bool, true, false, ◌&&◌, List, ◌++◌, length, Option, Some, None, nat_le}
use Rattle.std.specs.Option.{option_map}
use Rattle.osi_base.specs.declared.syntax.Syntax.{Syntax}
use Rattle.osi_base.specs.declared.syntax.Syntax.TheVariants as syntax
use Rattle.osi_base.specs.Limits.{last_invocation, most_items, most_octets}
use Rattle.asn1_types.specs.declared.value.Val.{Val}
use Rattle.asn1_types.specs.declared.table.TypeTable.{TypeTable}
use Rattle.asn1_types.specs.declared.row.TypeId.{TypeId}
use Rattle.asn1_types.specs.Fits.{is_number, fits}
use Rattle.asn1_types.specs.Writing.{written}
use Rattle.packed_codec.specs.Writing.{packed, items}
use Rattle.packed_codec.specs.Laws.{packs}
use Rattle.stub_tables.specs.declared.tables.Tables.{Tables}
use Rattle.stub_tables.specs.declared.operation.Use.{Use}
use Rattle.stub_tables.specs.declared.apdu.Apdu.{Apdu}
use Rattle.stub_tables.specs.declared.apdu.Apdu.TheVariants.{Invoke, Result, Error, Reject}
use Rattle.stub_tables.specs.declared.apdu.Returned.{Returned}
use Rattle.stub_tables.specs.Uses.{may_lack}
use Rattle.stub_tables.specs.Apdus.{argument_of, result_of, parameter_of, operation_coded, error_coded}
use Rattle.apdu_spelling.specs.Heads.{ReturnedOctets, Head, invoke, result, error, reject, or_none, carried}
use Rattle.apdu_spelling.specs.Rows.{head_rows, apdu_row, packed_apdu_row}
use Rattle.apdu_spelling.specs.Values.{ber_value, packed_value}

-- ---- values: in BER and in DER the one DER spelling

abbrev pub written_value : Syntax → TypeTable → ℕ → Val → List ℕ
written_value syntax.Ber types of value = written types of value
written_value syntax.Der types of value = written types of value
written_value syntax.Packed types of value = packed types of value

abbrev pub written_typed : Syntax → TypeTable → Option TypeId → Val → Option (List ℕ)
written_typed syntax types None value = None
written_typed syntax types (Some of) value = Some (written_value syntax types of.0 value)

abbrev pub written_carried : Syntax → TypeTable → Option Use → Option Val → Option (List ℕ)
written_carried syntax types None value = None
written_carried syntax types (Some use_) None = None
written_carried syntax types (Some use_) (Some value) = written_typed syntax types use_.inner value

-- ---- heads

abbrev pub written_head : Syntax → Head → List ℕ
written_head syntax.Ber h = written head_rows apdu_row (ber_value h)
written_head syntax.Der h = written head_rows apdu_row (ber_value h)
written_head syntax.Packed h = packed head_rows packed_apdu_row (packed_value h) ++ carried h

abbrev pub outcome_of : Tables → Syntax → Option Returned → Option ReturnedOctets
outcome_of tables syntax None = None
outcome_of tables syntax (Some r) =
    Some (record { code = r.code; octets = or_none (written_carried syntax tables.types (option_map result_of (operation_coded tables r.code)) (Some r.value)) })

abbrev pub head_of : Tables → Syntax → Apdu → Head
head_of tables syntax (Invoke id linked code argument) = invoke id linked code (written_carried syntax tables.types (option_map argument_of (operation_coded tables code)) argument)
head_of tables syntax (Result id returned) = result id (outcome_of tables syntax returned)
head_of tables syntax (Error id code parameter) = error id code (written_carried syntax tables.types (option_map parameter_of (error_coded tables code)) parameter)
head_of tables syntax (Reject id problem) = reject id problem

unfoldable pub written_apdu : Tables → Syntax → Apdu → List ℕ
written_apdu tables syntax apdu = written_head syntax (head_of tables syntax apdu)

-- ---- what is written so that it is read back

-- identifiers of invocations are of 32 bits
abbrev pub is_identifier : ℤ → Bool
is_identifier (pos n) = nat_le n last_invocation
is_identifier (negsuc n) = nat_le n last_invocation

abbrev pub is_identifier_or_none : Option ℤ → Bool
is_identifier_or_none None = true
is_identifier_or_none (Some id) = is_identifier id

-- the numbers of the APDU are ones that are read
abbrev pub has_numbers : Apdu → Bool
has_numbers (Invoke id linked code argument) = is_identifier id && is_identifier_or_none linked
has_numbers (Result id returned) = is_identifier id
has_numbers (Error id code parameter) = is_identifier id
has_numbers (Reject id problem) = is_identifier_or_none id && is_number problem.number

-- the value fits its type; in the packed syntax no `Any` stands in it, and its lists are short enough
abbrev pub is_writable : Syntax → TypeTable → ℕ → Val → Bool
is_writable syntax.Ber types of value = fits types of value
is_writable syntax.Der types of value = fits types of value
is_writable syntax.Packed types of value = packs types of value && nat_le (items value) most_items

abbrev pub is_typed : Syntax → TypeTable → Option TypeId → Val → Bool
is_typed syntax types None value = false
is_typed syntax types (Some of) value = is_writable syntax types of.0 value

abbrev pub may_carry : Syntax → TypeTable → Option Use → Option Val → Bool
may_carry syntax types None value = false
may_carry syntax types (Some use_) None = may_lack use_.inner use_.optional
may_carry syntax types (Some use_) (Some value) = is_typed syntax types use_.inner value

abbrev pub may_return : Tables → Syntax → Option Returned → Bool
may_return tables syntax None = true
may_return tables syntax (Some r) = may_carry syntax tables.types (option_map result_of (operation_coded tables r.code)) (Some r.value)

-- the value, or its lack, is one that its operation or error carries
abbrev pub has_values : Tables → Syntax → Apdu → Bool
has_values tables syntax (Invoke id linked code argument) = may_carry syntax tables.types (option_map argument_of (operation_coded tables code)) argument
has_values tables syntax (Result id returned) = may_return tables syntax returned
has_values tables syntax (Error id code parameter) = may_carry syntax tables.types (option_map parameter_of (error_coded tables code)) parameter
has_values tables syntax (Reject id problem) = true

pub record IsWritable (tables : Tables) (syntax : Syntax) (a : Apdu) : Type 0 where
  pub numbers : has_numbers a ≡ true
  pub values : has_values tables syntax a ≡ true
  pub short : length (written_apdu tables syntax a) ≤ most_octets
