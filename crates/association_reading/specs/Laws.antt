-- The laws of messages of an association in octets: what is written of a word stands first, whatever follows, and what is
-- meant under the sets of an end is read back as itself.
use Rattle.osi_base.specs.declared.acse_word.Acse.{Acse}
use Rattle.acse.specs.Written.{IsWritable as IsWritableAcse}
use Rattle.rtse_apdus.specs.Written.{IsWritable as IsWritableRtse}
use Rattle.osi_base.specs.declared.rtse_word.Rtse.TheVariants as rtse
use Rattle.tpkt.specs.Wire.{IsTwo}
use Rattle.tpkt.specs.Written.{HasRoom}
use Rattle.association_wire.specs.Written.{request_ends, confirm_ends, written_unit, with_user, session_units, tsdu_of, written}
use Rattle.association_wire.specs.end_rules.Messages.{Association, Plea, Part, TransportUnit, ConnectionRequest, ConnectionConfirm, DisconnectRequest, Remote, DataValue, NoData, Word, OfAssociation, Refuse, Finish, Disconnect, Abort, AbortAccept, OfData, Values, AlterContext, AlterContextAck, OfMarks, Mark, MarkAck, Restart, RestartAck, Give, Please, GiveConfirm, GiveAck, OfActivities, Session, unit_of}
use Rattle.association_reading.specs.Front.{Short, OfTransport, OfSession, first_in, with_octets, nothing_came}
use Rattle.association_reading.specs.Values.{without_user, content_under}
use Rattle.std.specs.Prelude.{◌≡◌, ℕ, ◌<◌, ◌≤◌, List, [], ◌∷◌, ◌++◌, length, true, Option, Some, None, Ok}
use Rattle.osi_base.specs.declared.syntax.Pair.{Pair}
use Rattle.osi_base.specs.declared.layer_words.SetItem.{SetItem}
use Rattle.osi_base.specs.declared.layer_words.Proposal.{Proposal}
use Rattle.osi_base.specs.declared.layer_words.Answers.{Answers}
use Rattle.osi_base.specs.declared.layer_words.RestoredItem.{RestoredItem}
use Rattle.osi_base.specs.declared.presentation_word.PresentationWord.{PresentationWord}
use Rattle.osi_base.specs.declared.presentation_word.PresentationWord.TheVariants as ppdus
use Rattle.osi_base.specs.Limits.{tsdu_limit, unit_least, unit_most}
use Rattle.stub_tables.specs.declared.tables.Tables.{Tables}
use Rattle.stub_tables.specs.declared.apdu.Apdu.{Apdu}
use Rattle.stub_tables.specs.Readable.{IsReadable}
use Rattle.apdu_spelling.specs.Writing.{IsWritable}
use Rattle.spdu_codec.specs.Written.{AreWritable}
use Rattle.presentation_pdus.specs.declared.place.PpduPlace.{PpduPlace}
use Rattle.presentation_pdus.specs.declared.place.PpduPlace.TheVariants as place
use Rattle.ppdu_laws.specs.Written.{IsWritable as IsWritablePpdu}
use Rattle.association_wire.specs.end_rules.Base.{Base}
use Rattle.association_wire.specs.end_rules.Sets.{same_name}
use Rattle.osi_base.specs.SetPlaces.{pair_of}
use Rattle.osi_base.specs.Octets.{AreOctets}
use Rattle.osi_base.specs.Syntax.{rtse_name}
use Rattle.association_wire.specs.end_rules.State.{Body}
use Rattle.association_wire.specs.Values.{content_octets, pdvs_of}
use Rattle.association_wire.specs.Units.{user_octets}
use Rattle.association_reading.specs.declared.layer_of_values.LayerOfValues.{LayerOfValues}
use Rattle.association_reading.specs.declared.layer_of_values.LayerOfValues.TheVariants as carriage
use Rattle.association_reading.specs.Contexts.{name_carried, is_carried}
use Rattle.association_reading.specs.Meaning.{meaning, carried_by_data}

-- ---- what stands first

-- the units of the session may be written, and their octets are those of one TSDU
pub record IsSendable (tables : Tables) (word : Word) : Type 0 where
  pub units : AreWritable (session_units tables word)
  pub octets : AreOctets (tsdu_of tables word)
  pub within : length (tsdu_of tables word) ≤ tsdu_limit

-- What is written of a word stands first on a line, whatever follows.
abbrev pub WrittenStandsFirst : Type 0
WrittenStandsFirst =
    (tables : Tables) (size : ℕ) (word : Word) (more : List ℕ) → unit_least ≤ size → size ≤ unit_most → IsSendable tables word →
    (start : ℕ) × (first_in (with_octets (written tables size (Session word) ++ more) nothing_came) ≡ OfSession (with_user (user_octets tables word) (unit_of word)) start)

-- ---- what it means

-- In these words the end has nothing to ask of a set of contexts, and nothing of the presentation.
abbrev pub IsOfSession : Word → Type 0
IsOfSession (OfAssociation (Refuse transport reason None [])) = Unit {0}
IsOfSession (OfAssociation (Abort transport NoData)) = Unit {0}
IsOfSession (OfAssociation AbortAccept) = Unit {0}
IsOfSession (OfMarks (Mark number)) = Unit {0}
IsOfSession (OfMarks (MarkAck number)) = Unit {0}
IsOfSession (OfMarks (Give tokens)) = Unit {0}
IsOfSession (OfMarks (Please tokens [])) = Unit {0}
IsOfSession (OfMarks GiveConfirm) = Unit {0}
IsOfSession (OfMarks GiveAck) = Unit {0}
IsOfSession (OfActivities word) = Unit {0}
IsOfSession word = ⊥

abbrev pub IsReadAs : Word → Type 0
IsReadAs word =
    (base : Base) (body : Body) (start : ℕ) → meaning base body (with_user (user_octets base.tables word) (unit_of word)) start ≡ Ok word

abbrev pub SessionWordsAreReadBack : Type 0
SessionWordsAreReadBack = (word : Word) → IsOfSession word → IsReadAs word

-- a unit of the presentation may be written in what carries it: its numbers have the sizes of their types, and its value
-- fits its row
abbrev pub IsWrittenIn : PpduPlace → PresentationWord → Type 0
IsWrittenIn carrier unit = IsWritablePpdu carrier unit

-- alterations, restarts and their answers, where their units of the presentation may be written
pub record AlterationsAreReadBack : Type 0 where
  pub alter : (add : List Proposal) (delete : List ℕ) → IsWrittenIn place.Td (ppdus.Alter add delete) → IsReadAs (OfData (AlterContext add delete))
  pub alter_ack : (answers : Answers) → IsWrittenIn place.Td (ppdus.AlterAck answers) → IsReadAs (OfData (AlterContextAck answers))
  pub restart : (number : ℕ) (list : Option (List RestoredItem)) → IsWrittenIn place.Rs (ppdus.Resynchronize list) → IsReadAs (OfMarks (Restart number list))
  pub restart_ack : (number : ℕ) (list : Option (List RestoredItem)) → IsWrittenIn place.Ra (ppdus.ResynchronizeAck list) → IsReadAs (OfMarks (RestartAck number list))

-- ---- values

-- a value is meant under a set in a message that carries these values: its pair is that of its context, and its content is
-- what its octets are under the pair
pub record IsMeant (tables : Tables) (set : List SetItem) (carried : LayerOfValues) (value : DataValue) : Type 0 where
  pub pair : Pair
  pub has_pair : value.pair ≡ Some pair
  pub in_set : pair_of set value.id ≡ Some pair
  pub carries : is_carried (name_carried tables carried) pair.abstract_name ≡ true
  pub content : content_under tables carried pair (content_octets tables pair.transfer value.content) ≡ Ok value.content

abbrev pub AreMeantIn : Tables → List SetItem → LayerOfValues → List DataValue → Type 0
AreMeantIn tables set carried [] = Unit {0}
AreMeantIn tables set carried (value ∷ values) = IsMeant tables set carried value × AreMeantIn tables set carried values

-- data, pleas, releases and their answers, where their units may be written and their values are meant under the held set
pub record DataAreReadBack : Type 0 where
  pub values : (base : Base) (body : Body) (start : ℕ) (value : DataValue) (values : List DataValue) →
      IsWrittenIn place.Dt (ppdus.Data (pdvs_of base.tables (value ∷ values))) → AreMeantIn base.tables body.sets.held (carried_by_data base) (value ∷ values) →
      meaning base body (with_user (user_octets base.tables (OfData (Values (value ∷ values)))) (unit_of (OfData (Values (value ∷ values))))) start ≡ Ok (OfData (Values (value ∷ values)))
  pub please : (base : Base) (body : Body) (start : ℕ) (tokens : ℕ) (value : DataValue) (values : List DataValue) →
      IsWrittenIn place.Pt (ppdus.Data (pdvs_of base.tables (value ∷ values))) → AreMeantIn base.tables body.sets.held carriage.Transfer (value ∷ values) →
      meaning base body (with_user (user_octets base.tables (OfMarks (Please (Some tokens) (value ∷ values))))
      (unit_of (OfMarks (Please (Some tokens) (value ∷ values))))) start ≡ Ok (OfMarks (Please (Some tokens) (value ∷ values)))
  pub finish : (base : Base) (body : Body) (start : ℕ) (transport : Option ℕ) (value : DataValue) (values : List DataValue) →
      IsWrittenIn place.Fn (ppdus.Data (pdvs_of base.tables (value ∷ values))) → AreMeantIn base.tables body.sets.held carriage.Association (value ∷ values) →
      meaning base body (with_user (user_octets base.tables (OfAssociation (Finish transport (value ∷ values))))
      (unit_of (OfAssociation (Finish transport (value ∷ values))))) start ≡ Ok (OfAssociation (Finish transport (value ∷ values)))
  pub disconnect : (base : Base) (body : Body) (start : ℕ) (value : DataValue) (values : List DataValue) →
      IsWrittenIn place.Dn (ppdus.Data (pdvs_of base.tables (value ∷ values))) → AreMeantIn base.tables body.sets.held carriage.Association (value ∷ values) →
      meaning base body (with_user (user_octets base.tables (OfAssociation (Disconnect (value ∷ values))))
      (unit_of (OfAssociation (Disconnect (value ∷ values))))) start ≡ Ok (OfAssociation (Disconnect (value ∷ values)))

-- An APDU of the module that may be written is what its octets are in data, on a context of the module.
abbrev pub RemoteIsReadBack : Type 0
RemoteIsReadBack =
    (tables : Tables) (pair : Pair) (apdu : Apdu) → IsReadable tables → IsWritable tables pair.transfer apdu →
    same_name pair.abstract_name tables.name_oid ≡ true →
    content_under tables carriage.Module pair (content_octets tables pair.transfer (Remote apdu)) ≡ Ok (Remote apdu)

-- An APDU of association control without user information that may be written is what its octets are in a message of
-- association control.
abbrev pub AssociationIsReadBack : Type 0
AssociationIsReadBack =
    (tables : Tables) (pair : Pair) (apdu : Acse) → IsWritableAcse (without_user apdu) →
    content_under tables carriage.Association pair (content_octets tables pair.transfer (Association (without_user apdu) [])) ≡ Ok (Association (without_user apdu) [])

-- So are a plea and a part of a transfer on a context of reliable transfer.
pub record TransferWordsAreReadBack : Type 0 where
  pub plea : (tables : Tables) (pair : Pair) (priority : ℕ) → IsWritableRtse (rtse.TurnPlease priority) →
      same_name pair.abstract_name rtse_name ≡ true →
      content_under tables carriage.Transfer pair (content_octets tables pair.transfer (Plea priority)) ≡ Ok (Plea priority)
  pub part : (tables : Tables) (pair : Pair) (octets : List ℕ) → IsWritableRtse (rtse.Transfer octets) →
      same_name pair.abstract_name rtse_name ≡ true →
      content_under tables carriage.Transfer pair (content_octets tables pair.transfer (Part octets)) ≡ Ok (Part octets)

-- ---- transport units: a CR, a CC and a DR to an initiator stand first, whatever follows

abbrev pub StandsFirst : TransportUnit → Type 0
StandsFirst unit = (more : List ℕ) → AreOctets (written_unit unit) → first_in (with_octets (written_unit unit ++ more) nothing_came) ≡ OfTransport unit

pub record TransportUnitsStandFirst : Type 0 where
  pub request : (source : ℕ) (size : Option ℕ) (calling called : List ℕ) → IsTwo source → HasRoom (request_ends source size calling called) →
      StandsFirst (ConnectionRequest source size calling called)
  pub confirm : (destination : ℕ) (size : Option ℕ) → IsTwo destination → HasRoom (confirm_ends destination size) → StandsFirst (ConnectionConfirm destination size)
  pub refuse : StandsFirst (DisconnectRequest 1)

-- ---- a proper beginning of what is written is less than a message

abbrev pub BeginningsOf : List ℕ → Type 0
BeginningsOf octets = (front back : List ℕ) → octets ≡ front ++ back → 0 < length back → first_in (with_octets front nothing_came) ≡ Short

pub record BeginningsAreShort : Type 0 where
  pub words : (tables : Tables) (size : ℕ) (word : Word) → unit_least ≤ size → size ≤ unit_most → IsSendable tables word → BeginningsOf (written tables size (Session word))
  pub request : (source : ℕ) (size : Option ℕ) (calling called : List ℕ) → IsTwo source → HasRoom (request_ends source size calling called) →
      AreOctets (written_unit (ConnectionRequest source size calling called)) → BeginningsOf (written_unit (ConnectionRequest source size calling called))
  pub confirm : (destination : ℕ) (size : Option ℕ) → IsTwo destination → HasRoom (confirm_ends destination size) →
      AreOctets (written_unit (ConnectionConfirm destination size)) → BeginningsOf (written_unit (ConnectionConfirm destination size))
  pub refuse : BeginningsOf (written_unit (DisconnectRequest 1))
