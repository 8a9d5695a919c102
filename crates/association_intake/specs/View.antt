-- The parts of what came, as one. No public clause cites this module.
use Rattle.std.specs.Prelude.{◌≡◌, List, Option, Some, None, IsSome}
use Rattle.tpkt.specs.declared.packet.TFault.{TFault}
use Rattle.tpkt.specs.declared.reader_state.ReaderState.{ReaderState}
use Rattle.association_reading.specs.Front as reading
use Rattle.association_intake.specs.declared.front.Front.{Front}
use Rattle.association_intake.specs.declared.intake.Parts.{Parts}
use Rattle.association_intake.specs.Seen.{seen_fronts, ArePlaced}

abbrev pub held_with : List Front → Option ReaderState → Option reading.Intake
held_with fronts None = None
held_with fronts (Some held) = Some (record { fronts = seen_fronts fronts; held = held })

abbrev pub view_of : Option Parts → Option reading.Intake
view_of None = None
view_of (Some parts) = held_with parts.fronts.items parts.reader

-- the fault is that of the stream
abbrev pub IsFaultOf : Option ReaderState → Option TFault → Type 0
IsFaultOf None fault = Unit {0}
IsFaultOf (Some held) fault = fault ≡ held.fault

abbrev pub KnowsFault : Option Parts → Type 0
KnowsFault None = Unit {0}
KnowsFault (Some parts) = IsFaultOf parts.reader parts.fault

abbrev pub HasPlaced : Option Parts → Type 0
HasPlaced None = Unit {0}
HasPlaced (Some parts) = ArePlaced parts.fronts.items

-- the reader wants no memory
abbrev pub IsReading : Option Parts → Type 0
IsReading None = Unit {0}
IsReading (Some parts) = IsSome parts.reader

pub record IsSoundIntake (parts : Option Parts) : Type 0 where
  pub fault : KnowsFault parts
  pub placed : HasPlaced parts
  pub reading : IsReading parts
