-- Which message of the model a message is: also of openings, values and alterations, where it depends on what they answer.
use Rattle.std.specs.Prelude.{◌≡◌, ℕ, List, [], ◌∷◌, ◌++◌, map, true, nat_eq, if◌then◌else◌, Option}
use Rattle.std.specs.Prelude.{Some, None}
use Rattle.osi_base.specs.declared.layer_words.Proposal.{Proposal}
use Rattle.osi_base.specs.declared.layer_words.AddAnswer.{AddAnswer}
use Rattle.osi_base.specs.declared.layer_words.Answers.{Answers}
use Rattle.osi_base.specs.declared.syntax.Pair.{Pair}
use Rattle.dialogue.specs.declared.config.Mode.{Mode}
use Rattle.dialogue.specs.declared.config.Mode.TheVariants.{Bare, Direct, Reliable}
use Rattle.end_rules.specs.Base.{Base, Item}
use Rattle.end_rules.specs.Sets.{Alteration, pair_accepted, accepted_set, fit_alteration}
use Rattle.end_rules.specs.Connecting.{recovers_in}
use Rattle.end_rules.specs.TakesData.{alteration}
use Rattle.end_rules.specs.Messages.{AssociationWord, DataWord, Message, Word, DataValue, Transport, value_of_item}
use Rattle.end_rules.specs.Messages.{Session, OfAssociation, OfData, OfMarks, OfActivities, Connect}
use Rattle.end_rules.specs.Messages.{Accept, Refuse, Finish, Disconnect, Abort, AbortAccept, Values}
use Rattle.end_rules.specs.Messages.{AlterContext, AlterContextAck, Remote, Part}
use Rattle.agreement.specs.Sets.{Result}
use Rattle.agreement.specs.Sets.Result.{Rejected, AcceptedAs, Accepted, Kept}
use Rattle.agreement.specs.Messages.{Message as ModelMessage}
use Rattle.agreement.specs.Messages.Message.{Connect as model_connect, Recover as model_recover}
use Rattle.agreement.specs.Messages.Message.{Accept as model_accept, Refuse as model_refuse}
use Rattle.agreement.specs.Messages.Message.{Release as model_release}
use Rattle.agreement.specs.Messages.Message.{ReleaseAnswer as model_release_answer}
use Rattle.agreement.specs.Messages.Message.{UserAbort as model_abort, Data as model_data}
use Rattle.agreement.specs.Messages.Message.{Chunk as model_chunk, Alter as model_alter}
use Rattle.agreement.specs.Messages.Message.{AlterAnswer as model_alter_answer}
use Rattle.end_model.specs.Seen.{pair_seen, set_seen, item_seen, items_seen}
use Rattle.end_model.specs.OpenInvocations.{IsProper, IsReadBack}
use Rattle.end_model.specs.Meant.{mark_meant, activity_meant}

-- ---- results

abbrev pub result_with : Option Pair → Result
result_with None = Rejected
result_with (Some pair) = AcceptedAs (pair_seen pair)

abbrev pub added_seen : List Proposal → List AddAnswer → List Result
added_seen [] answers = []
added_seen (p ∷ ps) [] = []
added_seen (p ∷ ps) (answer ∷ answers) = result_with (pair_accepted p answer) ∷ added_seen ps answers

abbrev pub deleted_seen : ℕ → Result
deleted_seen answer = if nat_eq answer 0 then Accepted else Kept

-- the results that the answers to an alteration are
abbrev pub results_seen : Alteration → Answers → List Result
results_seen a answers = added_seen a.add answers.added ++ map deleted_seen answers.deleted

-- ---- values

-- one APDU on a context; in reliable mode one part of a transfer
pub record IsData (base : Base) (values : List DataValue) (message : ModelMessage) : Type 0 where
  pub item : Item
  pub is_one : values ≡ record { id = item.id; pair = Some item.pair; content = Remote item.apdu } ∷ []
  pub is_its : message ≡ model_data (item_seen base item)

pub record IsChunk (values : List DataValue) (message : ModelMessage) : Type 0 where
  pub id : ℕ
  pub pair : Option Pair
  pub octets : List ℕ
  pub is_one : values ≡ record { id = id; pair = pair; content = Part octets } ∷ []
  pub is_its : message ≡ model_chunk octets

abbrev pub ValuesMean : Mode → Base → List DataValue → ModelMessage → Type 0
ValuesMean Bare base values message = IsData base values message
ValuesMean Direct base values message = IsData base values message
ValuesMean Reliable base values message = IsChunk values message

-- ---- messages, where the CN of the association proposed these contexts

abbrev pub DataMeans : Base → DataWord → ModelMessage → Type 0
DataMeans base (Values values) message = ValuesMean base.mode base values message
DataMeans base (AlterContext add delete) message = message ≡ model_alter (items_seen (alteration add delete))
DataMeans base (AlterContextAck answers) message =
    (asked : Alteration) × (fit_alteration asked answers ≡ true) × (message ≡ model_alter_answer (results_seen asked answers))

abbrev pub AssociationMeans : List Proposal → Base → AssociationWord → ModelMessage → Type 0
AssociationMeans proposed base (Connect session presentation values) message =
    message ≡ (if recovers_in base values then model_recover else model_connect)
AssociationMeans proposed base (Accept session presentation values) message =
    message ≡ model_accept (set_seen (accepted_set proposed presentation.results))
AssociationMeans proposed base (Refuse transport reason presentation values) message = message ≡ model_refuse
AssociationMeans proposed base (Finish transport values) message = message ≡ model_release
AssociationMeans proposed base (Disconnect values) message = message ≡ model_release_answer
AssociationMeans proposed base (Abort transport user) message = message ≡ model_abort
AssociationMeans proposed base AbortAccept message = ⊥

abbrev pub Means : List Proposal → Base → Word → ModelMessage → Type 0
Means proposed base (OfAssociation word) message = AssociationMeans proposed base word message
Means proposed base (OfData word) message = DataMeans base word message
Means proposed base (OfMarks word) message = message ≡ mark_meant word
Means proposed base (OfActivities word) message = message ≡ activity_meant word

-- The model knows no transport units.
abbrev pub AreMeant : List Proposal → Base → List Message → List ModelMessage → Type 0
AreMeant proposed base (Transport unit ∷ messages) meant = AreMeant proposed base messages meant
AreMeant proposed base [] [] = Unit {0}
AreMeant proposed base [] (m ∷ ms) = ⊥
AreMeant proposed base (Session word ∷ messages) [] = ⊥
AreMeant proposed base (Session word ∷ messages) (m ∷ ms) = Means proposed base word m × AreMeant proposed base messages ms

-- ---- data outside reliable mode

abbrev pub data_word : Item → Word
data_word item = OfData (Values (value_of_item item ∷ []))

-- data as an end of this product sends it: one APDU of the module, or a reject
pub record IsOurs (base : Base) (message : Message) (meant : ModelMessage) : Type 0 where
  pub item : Item
  pub is_data : message ≡ Session (data_word item)
  pub is_its : meant ≡ model_data (item_seen base item)
  pub is_proper : IsProper base item.apdu
  pub is_read_back : IsReadBack base item.apdu

abbrev pub AreOurs : Base → List Message → List ModelMessage → Type 0
AreOurs base [] [] = Unit {0}
AreOurs base [] (m ∷ ms) = ⊥
AreOurs base (message ∷ messages) [] = ⊥
AreOurs base (message ∷ messages) (m ∷ ms) = IsOurs base message m × AreOurs base messages ms
