-- The octets of messages, cut anywhere (RFC 1006 6; X.224 13.7).
use Rattle.std.specs.Prelude.{◌≡◌, ℕ, ◌<◌, ◌≤◌, List, [], ◌∷◌, ◌++◌, length, None}
use Rattle.osi_base.specs.Limits.{tsdu_limit, unit_least, unit_most}
use Rattle.stub_tables.specs.declared.tables.Tables.{Tables}
use Rattle.tpkt.specs.declared.packet.Packet.{Packet}
use Rattle.tpkt.specs.declared.packet.Packet.TheVariants.{Tsdu}
use Rattle.tpkt.specs.Wire.{Tpdu, Splits, begun_after, begun_by, handed_for, handed}
use Rattle.tpkt.specs.Written.{written_tsdu}
use Rattle.tpkt.specs.Reader.{nothing, reading}
use Rattle.association_worlds.specs.association_reading.Front.{all_fronts}
use Rattle.association_worlds.specs.InTransit.{SentMessage, text_of, texts, fronts_of_sent, AreWritten}

-- A stream is whole units, of which the last hands up this packet and those before it nothing; no data of a TSDU are left behind it.
pub record HandsUpLast (begun stream : List ℕ) (packet : Packet) : Type 0 where
  pub before : List Tpdu
  pub last : Tpdu
  pub splits : Splits begun stream (before ++ last ∷ []) []
  pub none : handed begun before ≡ []
  pub up : handed_for (begun_by begun before) last ≡ packet ∷ []
  pub whole : begun_after (begun_by begun before) last ≡ []

-- so it is of what is written of a TSDU
abbrev pub OnlyTheLastPacketHandsUp : Type 0
OnlyTheLastPacketHandsUp = (size : ℕ) (tsdu : List ℕ) → unit_least ≤ size → size ≤ unit_most → length tsdu ≤ tsdu_limit → HandsUpLast [] (written_tsdu size tsdu) (Tsdu tsdu)

-- Behind whole messages, a proper beginning of the next brings nothing, and is right so far.
abbrev pub BeginningsBringNothing : Type 0
BeginningsBringNothing =
    (tables : Tables) (before : List SentMessage) (next : SentMessage) (front back : List ℕ) → AreWritten tables (before ++ next ∷ []) → text_of tables next ≡ front ++ back → 0 < length back →
    (all_fronts (reading nothing (texts tables before ++ front)).packets ≡ fronts_of_sent tables before) × ((reading nothing (texts tables before ++ front)).held.fault ≡ None)
