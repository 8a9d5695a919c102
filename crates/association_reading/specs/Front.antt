-- What stands first in what came, told without any set of contexts: a transport unit (X.224 13), or one unit of the
-- session (X.225 8.3) with its user data.
use Rattle.std.specs.Prelude.{ℕ, List, [], ◌∷◌, ◌++◌, Option, Some, None, unwrap_or, Result, Ok, Err}
use Rattle.osi_base.specs.declared.layer_words.Layer.{Layer}
use Rattle.osi_base.specs.declared.layer_words.Layer.TheVariants as layers
use Rattle.osi_base.specs.declared.session_word.SessionWord.{SessionWord}
use Rattle.osi_base.specs.declared.session_word.SessionWord.TheVariants as units
use Rattle.tpkt.specs.declared.packet.Packet.{Packet}
use Rattle.tpkt.specs.declared.packet.Packet.TheVariants as packets
use Rattle.tpkt.specs.declared.packet.TFault.{TFault}
use Rattle.tpkt.specs.declared.reader_state.ReaderState.{ReaderState}
use Rattle.tpkt.specs.Reader.{nothing, reading}
use Rattle.spdu_codec.specs.declared.places.UserPlaces.{UserPlaces}
use Rattle.spdu_codec.specs.Reading.{UnitFault, units_at}
use Rattle.spdu_codec.specs.Places.{user_places}
use Rattle.association_wire.specs.end_rules.Messages.{TransportUnit, ConnectionRequest, ConnectionConfirm, DisconnectRequest, TransportError}

pub data Front : Type 0 where
  -- less than a message
  Short : Front
  OfTransport : (unit : TransportUnit) → Front
  -- a unit of the session, and where its user data begin in the TSDU
  OfSession : (unit : SessionWord) → (start : ℕ) → Front
  -- octets that break the grammar of the transport or of the session: the place of the field
  Faulty : (layer : Layer) → (place : ℕ) → Front

-- ---- what one packet, or the packets of one TSDU, bring

-- An empty GT says nothing in front of another unit (X.225 6.3.7); a GT or PT that says something is a message of its own.
abbrev pub leading : SessionWord → ℕ → List Front
leading (units.GiveTokens None) start = []
leading unit start = OfSession unit start ∷ []

-- a unit without user data has no place of them
abbrev pub start_of : Option ℕ → ℕ
start_of place = unwrap_or place 0

abbrev pub fronts_of_units : UserPlaces → Result (List SessionWord) UnitFault → List Front
fronts_of_units at (Ok []) = []
fronts_of_units at (Ok (unit ∷ [])) = OfSession unit (start_of at.first) ∷ []
fronts_of_units at (Ok (first ∷ second ∷ more)) = leading first (start_of at.first) ++ OfSession second (start_of at.second) ∷ []
fronts_of_units at (Err fault) = Faulty layers.Session fault.place ∷ []

-- A DR names the reference of the end that it goes to, an initiator's, which is 1; it isn't compared.
abbrev pub fronts_of : Packet → List Front
fronts_of (packets.Connect ends) = OfTransport (ConnectionRequest ends.source ends.size ends.calling ends.called) ∷ []
fronts_of (packets.Confirm ends) = OfTransport (ConnectionConfirm ends.destination ends.size) ∷ []
fronts_of packets.Disconnect = OfTransport (DisconnectRequest 1) ∷ []
fronts_of packets.Problem = OfTransport TransportError ∷ []
fronts_of (packets.Tsdu octets) = fronts_of_units (user_places octets) (units_at octets)

abbrev pub all_fronts : List Packet → List Front
all_fronts [] = []
all_fronts (packet ∷ more) = fronts_of packet ++ all_fronts more

-- ---- what came and wasn't reacted to: whole units, and what the reader of packets holds

pub record Intake : Type 0 where
  pub fronts : List Front
  pub held : ReaderState

abbrev pub nothing_came : Intake
nothing_came = record { fronts = []; held = nothing }

abbrev pub with_octets : List ℕ → Intake → Intake
with_octets octets intake =
    let fed = reading intake.held octets in
    record { fronts = intake.fronts ++ all_fronts fed.packets; held = fed.held }

-- a fault of the transport stands behind what was whole before it
abbrev pub front_held : Option TFault → Front
front_held None = Short
front_held (Some fault) = Faulty layers.Transport fault.place

abbrev pub first_front : ReaderState → List Front → Front
first_front held [] = front_held held.fault
first_front held (front ∷ more) = front

abbrev pub first_in : Intake → Front
first_in intake = first_front intake.held intake.fronts

abbrev pub without_first : List Front → List Front
without_first [] = []
without_first (front ∷ more) = more

abbrev pub behind_first : Intake → Intake
behind_first intake = record intake { fronts = without_first intake.fronts }
