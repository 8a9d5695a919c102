-- The laws of the two sides.
use Rattle.std.specs.Prelude.{ℕ, ◌≤◌, Bool, length, IfSome}
use Rattle.osi_base.specs.declared.syntax.Syntax.{Syntax}
use Rattle.osi_base.specs.Limits.{most_open}
use Rattle.asn1_types.specs.Table.{AreSoundRows}
use Rattle.osi_base.specs.Octets.{AreOctets}
use Rattle.stub_tables.specs.declared.tables.Tables.{Tables}
use Rattle.apdu_spelling.specs.declared.head.ApduHead.{ApduHead}
use Rattle.end_wire.specs.end_rules.Base.{Base, Carried, HeardHead}
use Rattle.end_wire.specs.end_rules.State.{Calls, opens_of}
use Rattle.end_wire.specs.end_rules.Hearing.{hear}
use Rattle.end_wire.specs.Heads.{carried_at, room_in}
use Rattle.rose_roles.specs.Heads.{HeadCarries, use_by}

-- what reading the octets behind a head gives
abbrev pub carried_by : Tables → Syntax → ApduHead → Carried
carried_by tables syntax head = carried_at syntax tables.types (room_in syntax head.room) (use_by tables head.kind head.code) head.rest

-- The octets behind a head always carry something: what reading them gives.
abbrev pub AlwaysCarries : Type 0
AlwaysCarries = (tables : Tables) (syntax : Syntax) (head : ApduHead) → AreSoundRows tables.types → IfSome head.rest AreOctets → HeadCarries tables syntax head (carried_by tables syntax head)

-- Whatever is heard, at most 4,096 invocations of an end stay open.
abbrev pub StaysWithin : Type 0
StaysWithin =
    (base : Base) (calls : Calls) (context : ℕ) (head : HeardHead) (own : Bool) → length (opens_of own calls.opens) ≤ most_open
    → length (opens_of own (hear base calls context head).calls.opens) ≤ most_open
