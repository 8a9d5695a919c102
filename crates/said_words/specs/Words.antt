-- The messages of two ends, as the rules of an end make them: what numbers, names and values stand in them.
use Rattle.std.specs.Prelude.{◌≡◌, ℕ, ◌+◌, pos, ◌≤◌, ◌<◌, ◌^◌, List, [], ◌∷◌, length, take, drop, Bool, Option, Some}
use Rattle.osi_base.specs.declared.syntax.Pair.{Pair}
use Rattle.osi_base.specs.declared.syntax.Syntax.TheVariants.{Ber}
use Rattle.osi_base.specs.declared.layer_words.RestoredItem.{RestoredItem}
use Rattle.osi_base.specs.declared.acse_word.Acse.TheVariants as acse
use Rattle.osi_base.specs.Limits.{most_marks, last_serial, most_contexts}
use Rattle.osi_base.specs.Syntax.{rtse_name}
use Rattle.dialogue.specs.declared.config.Mode.{Mode}
use Rattle.dialogue.specs.declared.config.Mode.TheVariants.{Bare, Direct, Reliable}
use Rattle.end_model.specs.end_rules.Base.{Base, Item}
use Rattle.end_model.specs.end_rules.Messages.{TransportUnit, ConnectionRequest, ConnectionConfirm, DisconnectRequest, TransportError, ValueContent, DataValue, Plea, Part, UserValues, Word, OfAssociation, OfData, OfMarks, OfActivities, AssociationWord, Connect, Accept, Refuse, Finish, Disconnect, Abort, AbortAccept, DataWord, Values, AlterContext, AlterContextAck, MarkWord, Mark, MarkAck, Restart, RestartAck, Give, Please, GiveConfirm, GiveAck, ActivityWord, Start, Resume, End, EndAck, Interrupt, InterruptAck, Discard, DiscardAck, Message, Transport, Session, value_of_item}
use Rattle.end_model.specs.end_rules.Writing.{acse_value, session_connect, presentation_connect, connect_values}
use Rattle.end_model.specs.end_rules.Connecting.{acceptance_message}
use Rattle.said_words.specs.Fields.{IsContext, IsAlteration, AreAnswers, AreRestored}
use Rattle.reliable_model.specs.Codecs.{IsTransferable, IsPlaced}

-- ---- restarts

-- with the list of the set that is restored
pub record IsRestart (number : ℕ) (list : Option (List RestoredItem)) : Type 0 where
  pub low : 1 ≤ number
  pub high : number ≤ most_marks + 1
  pub items : List RestoredItem
  pub is_list : list ≡ Some items
  pub are : AreRestored items
  pub count : length items ≤ most_contexts

-- ---- data: one APDU on a context

pub record IsData (base : Base) (values : List DataValue) : Type 0 where
  pub item : Item
  pub is_one : values ≡ value_of_item item ∷ []
  pub transferable : IsTransferable base item.apdu
  pub context : IsContext item.id

-- ---- values on the context of reliable transfer

abbrev pub rtse_pair : Pair
rtse_pair = record { abstract_name = rtse_name; transfer = Ber }

abbrev pub transfer_value : ValueContent → DataValue
transfer_value content = record { id = 3; pair = Some rtse_pair; content = content }

-- a part of the octets of the transfer of an item
pub record IsPart (base : Base) (values : List DataValue) : Type 0 where
  pub item : Item
  pub transferable : IsTransferable base item.apdu
  pub placed : IsPlaced base item
  pub from : ℕ
  pub size : ℕ
  pub is_one : values ≡ transfer_value (Part (take size (drop from (base.spellings.transfer item)))) ∷ []

-- a plea, whose priority has 32 bits
pub record IsPlea (values : List DataValue) : Type 0 where
  pub priority : ℕ
  pub is_one : values ≡ transfer_value (Plea priority) ∷ []
  pub few : priority < 2 ^ 32

-- ---- the association, between an end that opens it (a) and one that accepts it (b); in reliable mode it may be recovered

abbrev pub the_connect : Base → Bool → AssociationWord
the_connect a recovers = Connect (session_connect a) (presentation_connect a) (connect_values a recovers)

abbrev pub the_acceptance : Base → Base → Bool → Message
the_acceptance a b recovers = acceptance_message b (session_connect a) (presentation_connect a) (connect_values a recovers)

abbrev pub the_finish : AssociationWord
the_finish = Finish (Some 1) (acse_value [] (acse.ReleaseRequest (pos 0)) [] ∷ [])

abbrev pub the_disconnect : AssociationWord
the_disconnect = Disconnect (acse_value [] (acse.ReleaseResponse (pos 0)) [] ∷ [])

abbrev pub the_abort : AssociationWord
the_abort = Abort (Some 3) (UserValues (acse_value [] (acse.Abort 0 []) [] ∷ []))

abbrev pub IsOfAssociation : Base → Base → AssociationWord → Type 0
IsOfAssociation a b (Connect session presentation values) = (recovers : Bool) × (Connect session presentation values ≡ the_connect a recovers)
IsOfAssociation a b (Accept session presentation values) = (recovers : Bool) × (Session (OfAssociation (Accept session presentation values)) ≡ the_acceptance a b recovers)
IsOfAssociation a b (Refuse transport reason presentation values) = ⊥
IsOfAssociation a b (Finish transport values) = Finish transport values ≡ the_finish
IsOfAssociation a b (Disconnect values) = Disconnect values ≡ the_disconnect
IsOfAssociation a b (Abort transport user) = Abort transport user ≡ the_abort
IsOfAssociation a b AbortAccept = ⊥

-- ---- words of direct mode

abbrev pub IsOfData : Base → DataWord → Type 0
IsOfData a (Values values) = IsData a values
IsOfData a (AlterContext add delete) = IsAlteration add delete
IsOfData a (AlterContextAck answers) = AreAnswers answers

abbrev pub IsMarkNumber : ℕ → Type 0
IsMarkNumber number = (1 ≤ number) × (number ≤ most_marks)

abbrev pub IsOfMarks : MarkWord → Type 0
IsOfMarks (Mark number) = IsMarkNumber number
IsOfMarks (MarkAck number) = ⊥
IsOfMarks (Restart number list) = IsRestart number list
IsOfMarks (RestartAck number list) = IsRestart number list
IsOfMarks (Give tokens) = tokens ≡ Some 4
IsOfMarks (Please tokens values) = (tokens ≡ Some 4) × (values ≡ [])
IsOfMarks GiveConfirm = ⊥
IsOfMarks GiveAck = ⊥

abbrev pub IsWord : Base → Base → Word → Type 0
IsWord a b (OfAssociation word) = IsOfAssociation a b word
IsWord a b (OfData word) = IsOfData a word
IsWord a b (OfMarks word) = IsOfMarks word
IsWord a b (OfActivities word) = ⊥

-- ---- words of reliable mode: data are parts of transfers, marks are of a transfer, and the turn is of all tokens

abbrev pub IsPartOrAlteration : Base → DataWord → Type 0
IsPartOrAlteration a (Values values) = IsPart a values
IsPartOrAlteration a (AlterContext add delete) = IsAlteration add delete
IsPartOrAlteration a (AlterContextAck answers) = AreAnswers answers

abbrev pub IsOfTurn : MarkWord → Type 0
IsOfTurn (Mark number) = IsMarkNumber number
IsOfTurn (MarkAck number) = IsMarkNumber number
IsOfTurn (Restart number list) = ⊥
IsOfTurn (RestartAck number list) = ⊥
IsOfTurn (Give tokens) = ⊥
IsOfTurn (Please tokens values) = (tokens ≡ Some 21) × IsPlea values
IsOfTurn GiveConfirm = Unit {0}
IsOfTurn GiveAck = Unit {0}

abbrev pub IsActivityNumber : ℕ → Type 0
IsActivityNumber activity = (1 ≤ activity) × (activity ≤ last_serial)

-- the number of an end is one that the next mark would have
abbrev pub IsOfActivity : ActivityWord → Type 0
IsOfActivity (Start activity) = IsActivityNumber activity
IsOfActivity (Resume activity mark) = IsActivityNumber activity × (mark ≤ most_marks)
IsOfActivity (End number) = IsMarkNumber number
IsOfActivity (EndAck number) = IsMarkNumber number
IsOfActivity (Interrupt reason) = reason ≡ Some 0
IsOfActivity InterruptAck = Unit {0}
IsOfActivity (Discard reason) = reason ≡ Some 0
IsOfActivity DiscardAck = Unit {0}

abbrev pub IsReliableWord : Base → Base → Word → Type 0
IsReliableWord a b (OfAssociation word) = IsOfAssociation a b word
IsReliableWord a b (OfData word) = IsPartOrAlteration a word
IsReliableWord a b (OfMarks word) = IsOfTurn word
IsReliableWord a b (OfActivities word) = IsOfActivity word

-- ---- all messages

abbrev pub IsUnit : Base → TransportUnit → Type 0
IsUnit a (ConnectionRequest source size calling called) = ConnectionRequest source size calling called ≡ ConnectionRequest 1 (Some 10) a.config.calling a.config.called
IsUnit a (ConnectionConfirm destination size) = ConnectionConfirm destination size ≡ ConnectionConfirm 1 (Some 10)
IsUnit a (DisconnectRequest destination) = ⊥
IsUnit a TransportError = ⊥

abbrev pub IsWordIn : Mode → Base → Base → Word → Type 0
IsWordIn Direct a b word = IsWord a b word
IsWordIn Reliable a b word = IsReliableWord a b word
IsWordIn Bare a b word = ⊥

abbrev pub IsMessage : Base → Base → Message → Type 0
IsMessage a b (Transport unit) = IsUnit a unit
IsMessage a b (Session word) = IsWordIn a.mode a b word

abbrev pub AreMessages : Base → Base → List Message → Type 0
AreMessages a b [] = Unit {0}
AreMessages a b (message ∷ messages) = IsMessage a b message × AreMessages a b messages
