-- Which octets spell which APDU in which syntax (X.882 9, X.690; the packed syntax is this project's own).
use Rattle.std.specs.Prelude.{◌≡◌, ℕ, ◌-◌, ℤ, true, false, List, ◌++◌, length, Option, Some, None}
use Rattle.std.specs.Option.{option_map}
use Rattle.osi_base.specs.declared.syntax.Syntax.{Syntax}
use Rattle.osi_base.specs.declared.syntax.Syntax.TheVariants as syntax
use Rattle.osi_base.specs.Limits.{most_octets}
use Rattle.asn1_types.specs.declared.value.Val.{Val}
use Rattle.asn1_types.specs.declared.table.TypeTable.{TypeTable}
use Rattle.asn1_types.specs.declared.row.TypeId.{TypeId}
use Rattle.ber_spelling.specs.Spelling as ber
use Rattle.packed_codec.specs.Laws.{Packed}
use Rattle.packed_codec.specs.Writing.{packed}
use Rattle.stub_tables.specs.declared.tables.Tables.{Tables}
use Rattle.stub_tables.specs.declared.operation.Code.{Code}
use Rattle.stub_tables.specs.declared.operation.Use.{Use}
use Rattle.stub_tables.specs.declared.apdu.Apdu.{Apdu}
use Rattle.stub_tables.specs.declared.apdu.Apdu.TheVariants.{Invoke, Result, Error, Reject}
use Rattle.stub_tables.specs.declared.apdu.Returned.{Returned}
use Rattle.stub_tables.specs.Uses.{may_lack}
use Rattle.stub_tables.specs.Apdus.{argument_of, result_of, parameter_of, operation_coded, error_coded}
use Rattle.apdu_spelling.specs.declared.head.ApduHead.{ApduHead}
use Rattle.apdu_spelling.specs.Heads.{ReturnedOctets, Head, invoke, result, error, reject, carried, fields_of}
use Rattle.apdu_spelling.specs.Rows.{head_rows, apdu_row, packed_apdu_row}
use Rattle.apdu_spelling.specs.Values.{ber_value, packed_value}

-- ---- heads

-- in the packed syntax the octets of the value follow
pub record PacksHead (h : Head) (text : List ℕ) : Type 0 where
  pub front : List ℕ
  pub packs : Packed head_rows packed_apdu_row most_octets (packed_value h) front
  pub are : text ≡ front ++ carried h

abbrev pub SpellsHead : Syntax → Head → List ℕ → Type 0
SpellsHead syntax.Ber h text = ber.Spells head_rows apdu_row false most_octets (ber_value h) text
SpellsHead syntax.Der h text = ber.Spells head_rows apdu_row true most_octets (ber_value h) text
SpellsHead syntax.Packed h text = PacksHead h text

-- ---- values: octets within a limit spell the value of a row

abbrev pub SpelledAs : Syntax → TypeTable → ℕ → ℕ → Val → List ℕ → Type 0
SpelledAs syntax.Ber types limit of value octets = ber.Spells types of false limit value octets
SpelledAs syntax.Der types limit of value octets = ber.Spells types of true limit value octets
SpelledAs syntax.Packed types limit of value octets = Packed types of limit value octets

-- how many octets of the APDU are left to what a head carries
abbrev pub room_behind : Syntax → Head → ℕ
room_behind syntax.Ber h = most_octets
room_behind syntax.Der h = most_octets
room_behind syntax.Packed h = most_octets - length (packed head_rows packed_apdu_row (packed_value h))

-- the fields of a head that was read
abbrev pub fields_in : Syntax → Head → ApduHead
fields_in syntax h = record (fields_of h) { room = room_behind syntax h }

abbrev pub TypedAs : Syntax → TypeTable → ℕ → Option TypeId → Val → List ℕ → Type 0
TypedAs syntax types limit None value octets = ⊥
TypedAs syntax types limit (Some of) value octets = SpelledAs syntax types limit of.0 value octets

-- The octets spell the value where there is one, and its lack is allowed where there is none.
abbrev pub CarriedAs : Syntax → TypeTable → ℕ → Option Use → Option Val → Option (List ℕ) → Type 0
CarriedAs syntax types limit None value octets = ⊥
CarriedAs syntax types limit (Some use_) None None = may_lack use_.inner use_.optional ≡ true
CarriedAs syntax types limit (Some use_) (Some value) (Some octets) = TypedAs syntax types limit use_.inner value octets
CarriedAs syntax types limit (Some use_) None (Some octets) = ⊥
CarriedAs syntax types limit (Some use_) (Some value) None = ⊥

-- ---- APDUs: what a head says of the tables

-- an argument is of its operation's type
pub record SaysInvoke (tables : Tables) (syntax : Syntax) (id : ℤ) (linked : Option ℤ) (code : Code) (argument : Option Val) (h : Head) : Type 0 where
  pub octets : Option (List ℕ)
  pub head_is : h ≡ invoke id linked code octets
  pub typed : CarriedAs syntax tables.types (room_behind syntax h) (option_map argument_of (operation_coded tables code)) argument octets

-- a result's type is found by the code beside it
abbrev pub ReturnedAs : Tables → Syntax → ℕ → Option Returned → Option ReturnedOctets → Type 0
ReturnedAs tables syntax limit None None = Unit {0}
ReturnedAs tables syntax limit None (Some outcome) = ⊥
ReturnedAs tables syntax limit (Some r) None = ⊥
ReturnedAs tables syntax limit (Some r) (Some outcome) =
    (outcome.code ≡ r.code) × CarriedAs syntax tables.types limit (option_map result_of (operation_coded tables r.code)) (Some r.value) (Some outcome.octets)

pub record SaysResult (tables : Tables) (syntax : Syntax) (id : ℤ) (returned : Option Returned) (h : Head) : Type 0 where
  pub outcome : Option ReturnedOctets
  pub head_is : h ≡ result id outcome
  pub typed : ReturnedAs tables syntax (room_behind syntax h) returned outcome

-- a parameter is of its error's type
pub record SaysError (tables : Tables) (syntax : Syntax) (id : ℤ) (code : Code) (parameter : Option Val) (h : Head) : Type 0 where
  pub octets : Option (List ℕ)
  pub head_is : h ≡ error id code octets
  pub typed : CarriedAs syntax tables.types (room_behind syntax h) (option_map parameter_of (error_coded tables code)) parameter octets

abbrev pub Says : Tables → Syntax → Apdu → Head → Type 0
Says tables syntax (Invoke id linked code argument) h = SaysInvoke tables syntax id linked code argument h
Says tables syntax (Result id returned) h = SaysResult tables syntax id returned h
Says tables syntax (Error id code parameter) h = SaysError tables syntax id code parameter h
Says tables syntax (Reject id problem) h = h ≡ reject id problem

-- The octets spell a head that says the APDU.
pub record Spells (tables : Tables) (syntax : Syntax) (apdu : Apdu) (text : List ℕ) : Type 0 where
  pub head : Head
  pub is_head : SpellsHead syntax head text
  pub says : Says tables syntax apdu head
