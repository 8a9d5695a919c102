-- The messages that two ends exchange, as they are meant (X.224 13, X.225 8.3, X.226 8.4, X.227 9, X.228 9, X.880 9).
use Rattle.std.specs.Prelude.{ℕ, ℤ, pos, negsuc, List, [], Option, None, Some}
use Rattle.osi_base.specs.declared.syntax.Pair.{Pair}
use Rattle.osi_base.specs.declared.layer_words.Proposal.{Proposal}
use Rattle.osi_base.specs.declared.layer_words.Answers.{Answers}
use Rattle.osi_base.specs.declared.layer_words.RestoredItem.{RestoredItem}
use Rattle.osi_base.specs.declared.session_word.SessionConnect.{SessionConnect}
use Rattle.osi_base.specs.declared.session_word.SessionWord.{SessionWord}
use Rattle.osi_base.specs.declared.session_word.SessionWord.TheVariants as units
use Rattle.osi_base.specs.declared.presentation_word.PresentationConnect.{PresentationConnect}
use Rattle.osi_base.specs.declared.presentation_word.PresentationAccept.{PresentationAccept}
use Rattle.osi_base.specs.declared.presentation_word.PresentationReject.{PresentationReject}
use Rattle.osi_base.specs.declared.acse_word.Acse.{Acse}
use Rattle.osi_base.specs.declared.rtse_word.Rtse.{Rtse}
use Rattle.stub_tables.specs.declared.apdu.Apdu.{Apdu}
use Rattle.end_rules.specs.Base.{Item}

-- ---- values

-- user information of an association APDU: an APDU of reliable transfer on a context of its own, or
-- octets that aren't read (X.227 9, X.228 9)
pub data Information : Type 0 where
  Transferring : (id : ℕ) → (apdu : Rtse) → Information
  Other : (id : ℕ) → (octets : List ℕ) → Information

-- what a presentation data value is: an APDU of remote operations; octets of the module's abstract
-- syntax that spell none; an APDU of association control, whose user information stands beside it; a
-- plea for the turn; a part of a transfer
pub data ValueContent : Type 0 where
  Remote : (apdu : Apdu) → ValueContent
  Unread : (octets : List ℕ) → ValueContent
  Association : (apdu : Acse) → (user : List Information) → ValueContent
  Plea : (priority : ℕ) → ValueContent
  Part : (octets : List ℕ) → ValueContent

-- a presentation data value: its context's identifier, the pair that the identifier stands for, and what
-- it is (X.226 8.4.2); a value on a context that isn't there has no pair
pub record DataValue : Type 0 where
  pub id : ℕ
  pub pair : Option Pair
  pub content : ValueContent

-- ---- messages, in which user data are what they mean: the octets of user data are left empty in the
-- words of the layers

-- transport units that carry no data (X.224 13.3 to 13.5, 13.12)
pub data TransportUnit : Type 0 where
  ConnectionRequest : (source : ℕ) → (size : Option ℕ) → (calling : List ℕ) → (called : List ℕ) → TransportUnit  -- CR
  ConnectionConfirm : (destination : ℕ) → (size : Option ℕ) → TransportUnit  -- CC
  DisconnectRequest : (destination : ℕ) → TransportUnit  -- DR
  TransportError : TransportUnit  -- ER

-- the parameters of an ACCEPT (X.225 8.3.4): options, version, initial number, requirements
pub record Accepting : Type 0 where
  pub options : Option ℕ
  pub version : Option ℕ
  pub initial : Option ℕ
  pub requirements : Option ℕ

-- what an ABORT carries (X.225 8.3.9, X.226 8.2.4, 8.2.5): nothing, a provider's reason, values
pub data AbortData : Type 0 where
  NoData : AbortData
  ProviderReason : (reason : Option ℕ) → AbortData
  UserValues : (values : List DataValue) → AbortData

-- a provider's reason as a natural number: one below 0 counts as 0
abbrev pub natural : ℤ → ℕ
natural (pos n) = n
natural (negsuc n) = 0

-- the association (X.225 8.3.1, 8.3.4 to 8.3.10)
pub data AssociationWord : Type 0 where
  Connect : (session : SessionConnect) → (presentation : PresentationConnect) → (values : List DataValue) → AssociationWord  -- CN with CP
  Accept : (session : Accepting) → (presentation : PresentationAccept) → (values : List DataValue) → AssociationWord  -- AC with CPA
  Refuse : (transport : Option ℕ) → (reason : Option ℕ) → (presentation : Option PresentationReject) → (values : List DataValue) → AssociationWord  -- RF with CPR
  Finish : (transport : Option ℕ) → (values : List DataValue) → AssociationWord  -- FN
  Disconnect : (values : List DataValue) → AssociationWord  -- DN
  Abort : (transport : Option ℕ) → (user : AbortData) → AssociationWord  -- AB with ARU, ARP or nothing
  AbortAccept : AssociationWord  -- AA

-- values, and alterations in typed data (X.225 8.3.11, 8.3.13; X.226 8.2, 8.4.2)
pub data DataWord : Type 0 where
  Values : (values : List DataValue) → DataWord  -- DT
  AlterContext : (add : List Proposal) → (delete : List ℕ) → DataWord  -- TD with AC
  AlterContextAck : (answers : Answers) → DataWord  -- TD with ACA

-- marks, restarts and tokens (X.225 8.3.16 to 8.3.25)
pub data MarkWord : Type 0 where
  Mark : (number : ℕ) → MarkWord  -- MIP
  MarkAck : (number : ℕ) → MarkWord  -- MIA
  Restart : (number : ℕ) → (list : Option (List RestoredItem)) → MarkWord  -- RS
  RestartAck : (number : ℕ) → (list : Option (List RestoredItem)) → MarkWord  -- RA
  Give : (tokens : Option ℕ) → MarkWord  -- GT
  Please : (tokens : Option ℕ) → (values : List DataValue) → MarkWord  -- PT
  GiveConfirm : MarkWord  -- GTC
  GiveAck : MarkWord  -- GTA

-- activities (X.225 8.3.29 to 8.3.36)
pub data ActivityWord : Type 0 where
  Start : (activity : ℕ) → ActivityWord  -- AS
  Resume : (activity : ℕ) → (mark : ℕ) → ActivityWord  -- AR
  End : (number : ℕ) → ActivityWord  -- AE
  EndAck : (number : ℕ) → ActivityWord  -- AEA
  Interrupt : (reason : Option ℕ) → ActivityWord  -- AI
  InterruptAck : ActivityWord  -- AIA
  Discard : (reason : Option ℕ) → ActivityWord  -- AD
  DiscardAck : ActivityWord  -- ADA

-- one unit of the session with what it carries
pub data Word : Type 0 where
  OfAssociation : AssociationWord → Word
  OfData : DataWord → Word
  OfMarks : MarkWord → Word
  OfActivities : ActivityWord → Word

-- A message: a transport unit, or one unit of the session, behind an empty GT where it can't stand alone (X.225
-- 6.3.7). A GT or PT that says something in front of another unit is a message of its own. In bare mode a message is
-- one value, as data.
pub data Message : Type 0 where
  Transport : TransportUnit → Message
  Session : Word → Message

-- ---- the unit of the session that carries a word, with its user data left out

abbrev pub unit_of_association : AssociationWord → SessionWord
unit_of_association (Connect session presentation values) = units.Connect session
unit_of_association (Accept session presentation values) =
    units.Accept session.options session.version session.initial session.requirements []
unit_of_association (Refuse transport reason presentation values) = units.Refuse transport reason None
unit_of_association (Finish transport values) = units.Finish transport []
unit_of_association (Disconnect values) = units.Disconnect []
unit_of_association (Abort transport user) = units.Abort transport None
unit_of_association AbortAccept = units.AbortAccept

abbrev pub unit_of_data : DataWord → SessionWord
unit_of_data (Values values) = units.Data []
unit_of_data (AlterContext add delete) = units.TypedData []
unit_of_data (AlterContextAck answers) = units.TypedData []

abbrev pub unit_of_marks : MarkWord → SessionWord
unit_of_marks (Mark number) = units.Mark number
unit_of_marks (MarkAck number) = units.MarkAck number
unit_of_marks (Restart number list) = units.Resynchronize number None
unit_of_marks (RestartAck number list) = units.ResynchronizeAck number None
unit_of_marks (Give tokens) = units.GiveTokens tokens
unit_of_marks (Please tokens values) = units.PleaseTokens tokens None
unit_of_marks GiveConfirm = units.GiveTokensConfirm
unit_of_marks GiveAck = units.GiveTokensAck

abbrev pub unit_of_activities : ActivityWord → SessionWord
unit_of_activities (Start activity) = units.ActivityStart activity
unit_of_activities (Resume activity mark) = units.ActivityResume activity mark
unit_of_activities (End number) = units.ActivityEnd number
unit_of_activities (EndAck number) = units.ActivityEndAck number
unit_of_activities (Interrupt reason) = units.ActivityInterrupt reason
unit_of_activities InterruptAck = units.ActivityInterruptAck
unit_of_activities (Discard reason) = units.ActivityDiscard reason
unit_of_activities DiscardAck = units.ActivityDiscardAck

abbrev pub unit_of : Word → SessionWord
unit_of (OfAssociation word) = unit_of_association word
unit_of (OfData word) = unit_of_data word
unit_of (OfMarks word) = unit_of_marks word
unit_of (OfActivities word) = unit_of_activities word

-- an item as a value of its context
abbrev pub value_of_item : Item → DataValue
value_of_item item = record { id = item.id; pair = Some item.pair; content = Remote item.apdu }
