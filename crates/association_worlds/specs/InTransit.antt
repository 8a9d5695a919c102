-- What is kept of the way to an end: what it has and what waits at the other are the octets of the messages on their way.
use Rattle.std.specs.Prelude.{◌≡◌, ℕ, List, [], ◌∷◌, ◌++◌, map, Bool, true, false, Option, Some, None}
use Rattle.osi_base.specs.declared.session_word.SessionWord.{SessionWord}
use Rattle.stub_tables.specs.declared.tables.Tables.{Tables}
use Rattle.spdu_codec.specs.declared.places.UserPlaces.{UserPlaces}
use Rattle.spdu_codec.specs.Places.{user_places}
use Rattle.spdu_codec.specs.Written.{stands_alone}
use Rattle.tpkt.specs.Reader.{reading, nothing}
use Rattle.tpkt.specs.Wire.{IsTwo}
use Rattle.tpkt.specs.Written.{HasRoom}
use Rattle.association_reading.specs.end_rules.Messages.{TransportUnit, ConnectionRequest, ConnectionConfirm, DisconnectRequest, TransportError, unit_of, Message, Transport, Session}
use Rattle.association_reading.specs.association_wire.Units.{user_octets}
use Rattle.association_reading.specs.association_wire.Written.{with_user, tsdu_of, request_ends, confirm_ends, written_unit, written}
use Rattle.association_reading.specs.Front.{Front, OfTransport, OfSession, Intake, start_of, all_fronts}
use Rattle.association_reading.specs.Laws.{IsSendable}
use Rattle.osi_base.specs.Limits.{IsUnitSize}
use Rattle.osi_base.specs.Octets.{AreOctets}

-- ---- messages that may be written

abbrev pub IsOfTransport : TransportUnit → Type 0
IsOfTransport (ConnectionRequest source size calling called) =
    IsTwo source × HasRoom (request_ends source size calling called) × AreOctets (written_unit (ConnectionRequest source size calling called))
IsOfTransport (ConnectionConfirm destination size) = IsTwo destination × HasRoom (confirm_ends destination size) × AreOctets (written_unit (ConnectionConfirm destination size))
IsOfTransport (DisconnectRequest destination) = destination ≡ 1
IsOfTransport TransportError = ⊥

abbrev pub IsCarried : Tables → Message → Type 0
IsCarried tables (Transport unit) = IsOfTransport unit
IsCarried tables (Session word) = IsSendable tables word

abbrev pub AreCarried : Tables → List Message → Type 0
AreCarried tables [] = Unit {0}
AreCarried tables (message ∷ messages) = IsCarried tables message × AreCarried tables messages

-- what stands first where a message does; a unit that can't stand alone is the second of its TSDU
abbrev pub start_in : Bool → UserPlaces → ℕ
start_in true at = start_of at.first
start_in false at = start_of at.second

abbrev pub session_front : UserPlaces → SessionWord → Front
session_front at unit = OfSession unit (start_in (stands_alone unit) at)

abbrev pub front_of : Tables → Message → Front
front_of tables (Transport unit) = OfTransport unit
front_of tables (Session word) = session_front (user_places (tsdu_of tables word)) (with_user (user_octets tables word) (unit_of word))

-- ---- messages as they were sent

pub record SentMessage : Type 0 where
  pub message : Message
  pub size : ℕ

abbrev pub text_of : Tables → SentMessage → List ℕ
text_of tables s = written tables s.size s.message

abbrev pub texts : Tables → List SentMessage → List ℕ
texts tables [] = []
texts tables (s ∷ sents) = text_of tables s ++ texts tables sents

abbrev pub messages_of : List SentMessage → List Message
messages_of sents = map (λ (s : SentMessage). s.message) sents

abbrev pub fronts_of_sent : Tables → List SentMessage → List Front
fronts_of_sent tables sents = map (λ (s : SentMessage). front_of tables s.message) sents

abbrev pub AreWritten : Tables → List SentMessage → Type 0
AreWritten tables [] = Unit {0}
AreWritten tables (s ∷ sents) = IsCarried tables s.message × IsUnitSize s.size × AreWritten tables sents

-- ---- the way to an end

-- Since the connection began, `done` were taken and `ahead` are on their way; `got` are all octets that came. With those that
-- wait at the other end they are the octets of all; what a reader makes of them are the fronts of `done` and what the end has.
pub record IsWay (tables : Tables) (intake : Intake) (waiting : List ℕ) (coming : List Message) : Type 0 where
  pub done : List SentMessage
  pub ahead : List SentMessage
  pub got : List ℕ
  pub are : messages_of ahead ≡ coming
  pub taken : AreWritten tables done
  pub sent : AreWritten tables ahead
  pub octets : got ++ waiting ≡ texts tables (done ++ ahead)
  pub held : intake.held ≡ (reading nothing got).held
  pub fronts : all_fronts (reading nothing got).packets ≡ fronts_of_sent tables done ++ intake.fronts

-- nothing is kept of the way to an end that takes nothing any more
abbrev pub Way : Tables → Option Intake → List ℕ → List Message → Type 0
Way tables None waiting coming = Unit {0}
Way tables (Some intake) waiting coming = IsWay tables intake waiting coming
