-- The one spelling in which a message of an association is written (RFC 1006 6, X.224 13, X.225 8.3, X.226 8.2).
use Rattle.std.specs.Prelude.{ℕ, List, [], ◌∷◌, ◌++◌, Option, None, unwrap_or, if◌then◌else◌}
use Rattle.osi_base.specs.declared.session_word.SessionConnect.{SessionConnect}
use Rattle.osi_base.specs.declared.session_word.SessionWord.{SessionWord}
use Rattle.osi_base.specs.declared.session_word.SessionWord.TheVariants as units
use Rattle.stub_tables.specs.declared.tables.Tables.{Tables}
use Rattle.spdu_codec.specs.Written.{units_written, stands_alone}
use Rattle.tpkt.specs.declared.packet.ConnectionFields.{ConnectionFields}
use Rattle.tpkt.specs.Wire.{two}
use Rattle.tpkt.specs.Written.{written_tsdu, control_packet, connection_fields}
use Rattle.end_rules.specs.Messages.{TransportUnit, ConnectionRequest, ConnectionConfirm, DisconnectRequest, TransportError, Word, unit_of, Message, Transport, Session}
use Rattle.association_wire.specs.Units.{user_octets}

-- ---- the session

-- a unit with its user data; where they must stand, none are no octets
abbrev pub connect_with : Option (List ℕ) → SessionConnect → SessionConnect
connect_with user c = record c { user = unwrap_or user [] }

abbrev pub with_user : Option (List ℕ) → SessionWord → SessionWord
with_user user (units.Connect c) = units.Connect (connect_with user c)
with_user user (units.Accept options version initial requirements before) = units.Accept options version initial requirements (unwrap_or user [])
with_user user (units.Refuse transport reason before) = units.Refuse transport reason user
with_user user (units.Finish transport before) = units.Finish transport (unwrap_or user [])
with_user user (units.Disconnect before) = units.Disconnect (unwrap_or user [])
with_user user (units.Abort transport before) = units.Abort transport user
with_user user (units.PleaseTokens tokens before) = units.PleaseTokens tokens user
with_user user (units.TypedData before) = units.TypedData (unwrap_or user [])
with_user user (units.Data before) = units.Data (unwrap_or user [])
with_user user (units.Resynchronize number before) = units.Resynchronize number user
with_user user (units.ResynchronizeAck number before) = units.ResynchronizeAck number user
with_user user word = word

-- a unit that can't stand alone stands behind an empty GT (X.225 6.3.7)
abbrev pub in_its_place : SessionWord → List SessionWord
in_its_place word = if stands_alone word then word ∷ [] else units.GiveTokens None ∷ word ∷ []

abbrev pub session_units : Tables → Word → List SessionWord
session_units tables word = in_its_place (with_user (user_octets tables word) (unit_of word))

-- the transport service data unit of a word
abbrev pub tsdu_of : Tables → Word → List ℕ
tsdu_of tables word = units_written (session_units tables word)

-- ---- the transport

-- a responder has the reference 2; class 0
abbrev pub request_ends : ℕ → Option ℕ → List ℕ → List ℕ → ConnectionFields
request_ends source size calling called = record { destination = 0; source = source; size = size; calling = calling; called = called }

abbrev pub confirm_ends : ℕ → Option ℕ → ConnectionFields
confirm_ends destination size = record { destination = destination; source = 2; size = size; calling = []; called = [] }

-- CR, CC, DR with the reason 0, and ER, which is never written
abbrev pub written_unit : TransportUnit → List ℕ
written_unit (ConnectionRequest source size calling called) = control_packet (connection_fields 224 (request_ends source size calling called))
written_unit (ConnectionConfirm destination size) = control_packet (connection_fields 208 (confirm_ends destination size))
written_unit (DisconnectRequest destination) = control_packet (128 ∷ two destination ++ two 0 ++ 0 ∷ [])
written_unit TransportError = []

-- a message, with so many octets in a DT at most
abbrev pub written : Tables → ℕ → Message → List ℕ
written tables size (Transport unit) = written_unit unit
written tables size (Session word) = written_tsdu size (tsdu_of tables word)
