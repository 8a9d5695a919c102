-- What reading the octets behind a head gives is what they carry.
use Rattle.std.proofs.Common.{◌≡◌, ℕ, ◌<◌, ◌^◌, Bool, true, false, nat_eq, if◌then◌else◌, List, length, Option, Some, None, Result, Ok, Err, refl, sym, ◌∙◌, arith}
use Rattle.std.specs.Prelude.{IfSome}
use Rattle.osi_base.specs.declared.syntax.Syntax.{Syntax}
use Rattle.osi_base.specs.declared.syntax.Syntax.TheVariants.{Ber, Der, Packed}
use Rattle.asn1_types.specs.Value.{Value}
use Rattle.asn1_types.specs.Table.{AreSoundRows}
use Rattle.asn1_types.specs.declared.value.Val.{Val}
use Rattle.asn1_types.specs.declared.row.TypeId.{TypeId}
use Rattle.asn1_types.specs.declared.table.TypeTable.{TypeTable}
use Rattle.ber_spelling.specs.declared.fault.ReadFault.{ReadFault}
use Rattle.osi_base.specs.Octets.{AreOctets}
use Rattle.ber_spelling.specs.Rules as ber
use Rattle.packed_codec.specs.declared.fault.PackedFault.{PackedFault}
use Rattle.packed_codec.specs.Rules as packed
use Rattle.stub_tables.specs.declared.tables.Tables.{Tables}
use Rattle.stub_tables.specs.declared.operation.Use.{Use}
use Rattle.apdu_spelling.specs.declared.head.ApduHead.{ApduHead}
use Rattle.apdu_spelling.specs.Spellings.{CarriedAs}
use Rattle.end_wire.specs.end_rules.Base.{Carried, Absent, Spelled, Unspelled}
use Rattle.end_wire.specs.Heads.{whole_value, packed_value, value_at, typed_at, carried_at, room_in}
use Rattle.end_wire.proofs.ValueLaws.{carried_is, carried_spelled}
use Rattle.rose_roles.specs.Heads.{Carries, HeadCarries, use_by}
use Rattle.rose_roles.specs.Laws.{carried_by}

not_absent : (w : Val) (b : Bool) → (if b then Spelled w else Unspelled) ≡ Absent → ⊥
not_absent w true e = cc
not_absent w false e = cc

whole_there : (end : ℕ) (r : Result (Value × ℕ) ReadFault) → whole_value end r ≡ Absent → ⊥
whole_there end (Ok x) e = not_absent x.0 (nat_eq x.1 end) e
whole_there end (Err f) e = cc

packed_there : (end : ℕ) (r : Result (Value × ℕ) PackedFault) → packed_value end r ≡ Absent → ⊥
packed_there end (Ok x) e = not_absent x.0 (nat_eq x.1 end) e
packed_there end (Err f) e = cc

-- octets are never the lack of a value
value_there : (syntax : Syntax) (types : TypeTable) (limit of : ℕ) (os : List ℕ) → value_at syntax types limit of os ≡ Absent → ⊥
unfolding value_at
value_there Ber types limit of os e = whole_there (length os) (ber.read_at types of false limit os) e
value_there Der types limit of os e = whole_there (length os) (ber.read_at types of true limit os) e
value_there Packed types limit of os e = packed_there (length os) (packed.read_at types of limit os) e

typed_there : (syntax : Syntax) (types : TypeTable) (limit : ℕ) (of : Option TypeId) (os : List ℕ) → typed_at syntax types limit of os ≡ Absent → ⊥
typed_there syntax types limit None os e = cc
typed_there syntax types limit (Some of) os e = value_there syntax types limit of.0 os e

carried_there : (syntax : Syntax) (types : TypeTable) (limit : ℕ) (used : Option Use) (os : List ℕ) → carried_at syntax types limit used (Some os) ≡ Absent → ⊥
carried_there syntax types limit None os e = cc
carried_there syntax types limit (Some used) os e = typed_there syntax types limit used.inner os e

spelled_there : (syntax : Syntax) (types : TypeTable) (limit : ℕ) (used : Option Use) (os : List ℕ) (v : Val) → AreOctets os → carried_at syntax types limit used (Some os) ≡ Spelled v
    → CarriedAs syntax types limit used (Some v) (Some os)
spelled_there syntax types limit None os v are e = absurd cc
spelled_there syntax types limit (Some used) os v are e = carried_spelled syntax types limit (Some used) (Some v) (Some os) are (rw e refl)

some_room : (syntax : Syntax) (room : ℕ) → room_in syntax room < 2 ^ 32
some_room Ber room = omega arith
some_room Der room = omega arith
some_room Packed room = grind arith

octets_carry : (syntax : Syntax) (types : TypeTable) (room : ℕ) (used : Option Use) (os : List ℕ) → AreSoundRows types → AreOctets os
    → (c : Carried) → carried_at syntax types (room_in syntax room) used (Some os) ≡ c → Carries syntax types room used (Some os) c
octets_carry syntax types room used os sound are Absent e = carried_there syntax types (room_in syntax room) used os e
octets_carry syntax types room used os sound are (Spelled v) e = spelled_there syntax types (room_in syntax room) used os v are e
octets_carry syntax types room used os sound are Unspelled e =
    λ v p. let s : Spelled v ≡ Unspelled = sym (carried_is syntax types sound (room_in syntax room) (some_room syntax room) used v os p) ∙ e in cc

carries : (syntax : Syntax) (types : TypeTable) (room : ℕ) (used : Option Use) (rest : Option (List ℕ)) → AreSoundRows types → IfSome rest AreOctets
    → Carries syntax types room used rest (carried_at syntax types (room_in syntax room) used rest)
carries syntax types room used None sound are = tt
carries syntax types room used (Some os) sound are = octets_carry syntax types room used os sound are (carried_at syntax types (room_in syntax room) used (Some os)) refl

pub always_carries : (tables : Tables) (syntax : Syntax) (head : ApduHead) → AreSoundRows tables.types → IfSome head.rest AreOctets → HeadCarries tables syntax head (carried_by tables syntax head)
always_carries tables syntax head sound are = carries syntax tables.types head.room (use_by tables head.kind head.code) head.rest sound are
