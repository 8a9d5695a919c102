-- What the model may take, the end takes: the word has no fault, and its taking is the model's.
use Rattle.std.specs.Prelude.{◌≡◌, ℕ, List, [], ◌∷◌, true, false, Option, Some, None, Ok}
use Rattle.osi_base.specs.declared.syntax.Pair.{Pair}
use Rattle.osi_base.specs.declared.layer_words.Proposal.{Proposal}
use Rattle.osi_base.specs.declared.layer_words.Answers.{Answers}
use Rattle.osi_base.specs.declared.layer_words.RestoredItem.{RestoredItem}
use Rattle.dialogue.specs.declared.config.Mode.{Mode}
use Rattle.dialogue.specs.declared.config.Mode.TheVariants.{Direct, Reliable}
use Rattle.end_rules.specs.Base.{Base, Item, Whole}
use Rattle.end_rules.specs.State.{Body, Carrying, Transfer, joined}
use Rattle.end_rules.specs.Units.{proposed_units}
use Rattle.end_rules.specs.Sets.{Alteration, fit_alteration}
use Rattle.end_rules.specs.Policy.{policy}
use Rattle.end_rules.specs.Connecting.{the_one}
use Rattle.end_rules.specs.TakesAssociation.{is_release_request, is_release_response}
use Rattle.end_rules.specs.TakesData.{alteration}
use Rattle.end_rules.specs.TakesMarks.{priority_in}
use Rattle.end_rules.specs.Messages.{AbortData, Word, DataValue, OfAssociation, OfData, OfMarks}
use Rattle.end_rules.specs.Messages.{OfActivities, Finish, Disconnect, Abort, Values, AlterContext}
use Rattle.end_rules.specs.Messages.{AlterContextAck, Part, Mark, MarkAck, Restart, RestartAck}
use Rattle.end_rules.specs.Messages.{Give, Please, GiveConfirm, GiveAck, Start, Resume, End, EndAck}
use Rattle.end_rules.specs.Messages.{Interrupt, InterruptAck, Discard, DiscardAck}
use Rattle.agreement.specs.Messages.{Choice, Message as ModelMessage}
use Rattle.agreement.specs.Messages.Choice.{Nothing, Results}
use Rattle.agreement.specs.Messages.Message.{Mark as model_mark, MarkAnswer as model_mark_answer}
use Rattle.agreement.specs.Messages.Message.{Restart as model_restart}
use Rattle.agreement.specs.Messages.Message.{RestartAnswer as model_restart_answer}
use Rattle.agreement.specs.Messages.Message.{Give as model_give, GiveAnswer as model_give_answer}
use Rattle.agreement.specs.Messages.Message.{Please as model_please, Start as model_start}
use Rattle.agreement.specs.Messages.Message.{Resume as model_resume, End as model_end}
use Rattle.agreement.specs.Messages.Message.{EndAnswer as model_end_answer}
use Rattle.agreement.specs.Messages.Message.{Interrupt as model_interrupt}
use Rattle.agreement.specs.Messages.Message.{InterruptAnswer as model_interrupt_answer}
use Rattle.agreement.specs.Messages.Message.{Discard as model_discard}
use Rattle.agreement.specs.Messages.Message.{DiscardAnswer as model_discard_answer}
use Rattle.agreement.specs.Messages.Message.{Chunk as model_chunk, Alter as model_alter}
use Rattle.agreement.specs.Messages.Message.{AlterAnswer as model_alter_answer}
use Rattle.agreement.specs.Messages.Message.{Release as model_release}
use Rattle.agreement.specs.Messages.Message.{ReleaseAnswer as model_release_answer}
use Rattle.agreement.specs.Messages.Message.{UserAbort as model_abort}
use Rattle.agreement.specs.Takings.{MayTake}
use Rattle.end_model.specs.Seen.{Free, role_seen, set_seen, items_seen, item_seen, apdu_seen}
use Rattle.end_model.specs.Seen.{calls_seen, seen, setup_seen}
use Rattle.end_model.specs.Rows.{at}
use Rattle.end_model.specs.Meant.{list_meant}
use Rattle.end_model.specs.OpenInvocations.{IsProper, IsReadBack}
use Rattle.end_model.specs.Heard.{IsExpected}
use Rattle.end_model.specs.Words.{results_seen}
use Rattle.end_model.specs.Acting.{IsSoundBody, TakenAs}

-- what holds of an end of this product once its association stands with another of this product
pub record IsJoined (mode : Mode) (body : Body) : Type 0 where
  pub stage : body.link.stage ≡ Carrying
  pub selected : body.link.selected ≡ proposed_units mode
  pub manages : body.link.manages ≡ true

abbrev pub TakenWhere : Mode → Word → ModelMessage → (Base → Body → Choice) → Type 0
TakenWhere mode word message choice =
    (free : Free) (base : Base) (proposed : List Proposal) (body : Body) → IsSoundBody mode base body → IsJoined mode body →
    MayTake (setup_seen free mode base) (role_seen base.initiator) (seen (at mode base) body) message →
    TakenAs free mode base proposed body word message (choice base body)

abbrev pub nothing : Base → Body → Choice
nothing base body = Nothing

-- the answers to an alteration are those of the policy
abbrev pub by_policy : Mode → Alteration → Base → Body → Choice
by_policy mode a base body = Results (results_seen a (policy (at mode base) body a))

-- in direct mode
pub record DirectTaken : Type 0 where
  pub mark : (number : ℕ) → TakenWhere Direct (OfMarks (Mark number)) (model_mark number) nothing
  pub give : (tokens : ℕ) → TakenWhere Direct (OfMarks (Give (Some tokens))) model_give nothing
  pub please : (tokens : ℕ) → TakenWhere Direct (OfMarks (Please (Some tokens) [])) (model_please 0) nothing
  pub restart : (number : ℕ) (list : Option (List RestoredItem)) →
      TakenWhere Direct (OfMarks (Restart number list)) (model_restart number (list_meant list)) nothing
  pub restart_ack : (number : ℕ) (list : Option (List RestoredItem)) →
      TakenWhere Direct (OfMarks (RestartAck number list)) (model_restart_answer number (list_meant list)) nothing
  pub alter : (add : List Proposal) (delete : List ℕ) →
      TakenWhere Direct (OfData (AlterContext add delete)) (model_alter (items_seen (alteration add delete))) (by_policy Direct (alteration add delete))
  pub finish : (transport : Option ℕ) (values : List DataValue) → is_release_request (the_one values) ≡ true →
      TakenWhere Direct (OfAssociation (Finish transport values)) model_release nothing
  pub disconnect : (values : List DataValue) → is_release_response (the_one values) ≡ true →
      TakenWhere Direct (OfAssociation (Disconnect values)) model_release_answer nothing
  pub abort : (transport : Option ℕ) (user : AbortData) → TakenWhere Direct (OfAssociation (Abort transport user)) model_abort nothing

-- in reliable mode
pub record ReliableTaken : Type 0 where
  pub mark : (number : ℕ) → TakenWhere Reliable (OfMarks (Mark number)) (model_mark number) nothing
  pub give_all : TakenWhere Reliable (OfMarks GiveConfirm) model_give nothing
  pub give_ack : TakenWhere Reliable (OfMarks GiveAck) model_give_answer nothing
  pub please : (tokens priority : ℕ) (values : List DataValue) → priority_in values ≡ Some priority →
      TakenWhere Reliable (OfMarks (Please (Some tokens) values)) (model_please priority) nothing
  pub alter : (add : List Proposal) (delete : List ℕ) →
      TakenWhere Reliable (OfData (AlterContext add delete)) (model_alter (items_seen (alteration add delete))) (by_policy Reliable (alteration add delete))
  pub start : (activity : ℕ) → TakenWhere Reliable (OfActivities (Start activity)) (model_start activity) nothing
  pub interrupt : (reason : Option ℕ) → TakenWhere Reliable (OfActivities (Interrupt reason)) model_interrupt nothing
  pub discard : (reason : Option ℕ) → TakenWhere Reliable (OfActivities (Discard reason)) model_discard nothing
  pub interrupt_ack : TakenWhere Reliable (OfActivities InterruptAck) model_interrupt_answer nothing
  pub disconnect : (values : List DataValue) → is_release_response (the_one values) ≡ true →
      TakenWhere Reliable (OfAssociation (Disconnect values)) model_release_answer nothing
  pub abort : (transport : Option ℕ) (user : AbortData) → TakenWhere Reliable (OfAssociation (Abort transport user)) model_abort nothing

-- the own transfer, and the peer's, in reliable mode
pub record TransferWordsTaken : Type 0 where
  pub part : (id : ℕ) (pair : Option Pair) (octets : List ℕ) →
      TakenWhere Reliable (OfData (Values (record { id = id; pair = pair; content = Part octets } ∷ []))) (model_chunk octets) nothing
  pub mark_ack : (number : ℕ) → TakenWhere Reliable (OfMarks (MarkAck number)) (model_mark_answer number) nothing
  pub resume : (activity mark : ℕ) → TakenWhere Reliable (OfActivities (Resume activity mark)) (model_resume activity mark) nothing
  pub end_ack : (number : ℕ) → TakenWhere Reliable (OfActivities (EndAck number)) (model_end_answer number) nothing
  pub finish : (transport : Option ℕ) (values : List DataValue) → is_release_request (the_one values) ≡ true →
      TakenWhere Reliable (OfAssociation (Finish transport values)) model_release nothing

-- an invocation that is being transferred has a number
abbrev pub IsProperCurrent : Base → Option Transfer → Type 0
IsProperCurrent base None = Unit {0}
IsProperCurrent base (Some transfer) = IsProper base transfer.item.apdu

pub record DiscardsTaken : Type 0 where
  pub discard_ack : (free : Free) (base : Base) (proposed : List Proposal) (body : Body) → IsSoundBody Reliable base body → IsJoined Reliable body →
      IsProperCurrent (at Reliable base) body.sending.current →
      MayTake (setup_seen free Reliable base) (role_seen base.initiator) (seen (at Reliable base) body) model_discard_answer →
      TakenAs free Reliable base proposed body (OfActivities DiscardAck) model_discard_answer Nothing

-- The end of the peer's activity: what it brings is handed up once. What the end reads of its octets is what the codec reads.
pub record EndsTaken : Type 0 where
  pub again : (number : ℕ) (free : Free) (base : Base) (proposed : List Proposal) (body : Body) → body.receiving.was_handed ≡ true →
      MayTake (setup_seen free Reliable base) (role_seen base.initiator) (seen (at Reliable base) body) (model_end number) →
      TakenAs free Reliable base proposed body (OfActivities (End number)) (model_end number) Nothing
  pub whole : (number : ℕ) (item : Item) (free : Free) (base : Base) (proposed : List Proposal) (body : Body) → IsSoundBody Reliable base body →
      body.receiving.was_handed ≡ false → base.spellings.arrived body.sets.held (joined body.receiving.pieces) ≡ Ok (Whole item) →
      free.codec.read (set_seen body.sets.held) (joined body.receiving.pieces) ≡ Some (item_seen (at Reliable base) item) →
      IsProper (at Reliable base) item.apdu → IsReadBack (at Reliable base) item.apdu →
      IsExpected (setup_seen free Reliable base) (calls_seen body.calls) (apdu_seen (at Reliable base) item.apdu) →
      MayTake (setup_seen free Reliable base) (role_seen base.initiator) (seen (at Reliable base) body) (model_end number) →
      TakenAs free Reliable base proposed body (OfActivities (End number)) (model_end number) Nothing

-- The answer to the oldest own alteration, which it fits, settles it.
pub record AnswersTaken : Type 0 where
  pub alter_ack : (mode : Mode) (a : Alteration) (own : List Alteration) (answers : Answers) (free : Free) (base : Base) (proposed : List Proposal) (body : Body) →
      IsJoined mode body → body.sets.own ≡ a ∷ own → fit_alteration a answers ≡ true →
      MayTake (setup_seen free mode base) (role_seen base.initiator) (seen (at mode base) body) (model_alter_answer (results_seen a answers)) →
      TakenAs free mode base proposed body (OfData (AlterContextAck answers)) (model_alter_answer (results_seen a answers)) Nothing
