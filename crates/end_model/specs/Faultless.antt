-- What the end takes, the model may take: a word without a fault is one that may be taken.
use Rattle.std.specs.Prelude.{◌≡◌, ℕ, List, [], ◌∷◌, Option, Some, None}
use Rattle.osi_base.specs.declared.syntax.Pair.{Pair}
use Rattle.osi_base.specs.declared.layer_words.Proposal.{Proposal}
use Rattle.osi_base.specs.declared.layer_words.Answers.{Answers}
use Rattle.osi_base.specs.declared.layer_words.RestoredItem.{RestoredItem}
use Rattle.dialogue.specs.declared.config.Mode.{Mode}
use Rattle.dialogue.specs.declared.config.Mode.TheVariants.{Direct, Reliable}
use Rattle.dialogue.specs.declared.config.Phase.TheVariants.{Up}
use Rattle.end_rules.specs.Base.{Base}
use Rattle.end_rules.specs.State.{Body}
use Rattle.end_rules.specs.Sets.{Alteration}
use Rattle.end_rules.specs.TakesData.{alteration}
use Rattle.end_rules.specs.Messages.{Word, DataValue, OfAssociation, OfData, OfMarks, OfActivities}
use Rattle.end_rules.specs.Messages.{Finish, AlterContext, AlterContextAck, Values, Part, Mark}
use Rattle.end_rules.specs.Messages.{MarkAck, Restart, RestartAck, Give, Please, GiveConfirm}
use Rattle.end_rules.specs.Messages.{GiveAck, Start, Interrupt, Discard}
use Rattle.end_rules.specs.Reacting.{word_fault}
use Rattle.agreement.specs.Messages.{Message as ModelMessage}
use Rattle.agreement.specs.Messages.Message.{Mark as model_mark, MarkAnswer as model_mark_answer}
use Rattle.agreement.specs.Messages.Message.{Restart as model_restart}
use Rattle.agreement.specs.Messages.Message.{RestartAnswer as model_restart_answer}
use Rattle.agreement.specs.Messages.Message.{Give as model_give, GiveAnswer as model_give_answer}
use Rattle.agreement.specs.Messages.Message.{Please as model_please, Start as model_start}
use Rattle.agreement.specs.Messages.Message.{Interrupt as model_interrupt, Discard as model_discard}
use Rattle.agreement.specs.Messages.Message.{Chunk as model_chunk, Alter as model_alter}
use Rattle.agreement.specs.Messages.Message.{AlterAnswer as model_alter_answer}
use Rattle.agreement.specs.Messages.Message.{Release as model_release}
use Rattle.agreement.specs.Takings.{MayTake}
use Rattle.end_model.specs.Seen.{Free, role_seen, items_seen, listed_seen, seen, setup_seen}
use Rattle.end_model.specs.Rows.{at}
use Rattle.end_model.specs.Words.{results_seen}

abbrev pub Faultless : Mode → Word → ModelMessage → Type 0
Faultless mode word message =
    (free : Free) (base : Base) (body : Body) → word_fault (at mode base) body word ≡ None →
    MayTake (setup_seen free mode base) (role_seen base.initiator) (seen (at mode base) body) message

pub record DirectMayBeTaken : Type 0 where
  pub mark : (number : ℕ) → Faultless Direct (OfMarks (Mark number)) (model_mark number)
  pub give : (tokens : ℕ) → Faultless Direct (OfMarks (Give (Some tokens))) model_give
  pub please : (tokens priority : ℕ) (values : List DataValue) → Faultless Direct (OfMarks (Please (Some tokens) values)) (model_please priority)
  pub restart : (number : ℕ) (list : List RestoredItem) →
      Faultless Direct (OfMarks (Restart number (Some list))) (model_restart number (listed_seen list))
  -- only an end that is up waits for the answer to its restart
  pub restart_ack : (number : ℕ) (list : List RestoredItem) (free : Free) (base : Base) (body : Body) → body.link.phase ≡ Up →
      word_fault (at Direct base) body (OfMarks (RestartAck number (Some list))) ≡ None →
      MayTake (setup_seen free Direct base) (role_seen base.initiator) (seen (at Direct base) body) (model_restart_answer number (listed_seen list))
  pub alter : (add : List Proposal) (delete : List ℕ) → Faultless Direct (OfData (AlterContext add delete)) (model_alter (items_seen (alteration add delete)))
  pub finish : (transport : Option ℕ) (values : List DataValue) → Faultless Direct (OfAssociation (Finish transport values)) model_release

pub record ReliableMayBeTaken : Type 0 where
  pub mark : (number : ℕ) → Faultless Reliable (OfMarks (Mark number)) (model_mark number)
  pub mark_ack : (number : ℕ) → Faultless Reliable (OfMarks (MarkAck number)) (model_mark_answer number)
  pub give_all : Faultless Reliable (OfMarks GiveConfirm) model_give
  pub give_ack : Faultless Reliable (OfMarks GiveAck) model_give_answer
  pub please : (tokens priority : ℕ) (values : List DataValue) → Faultless Reliable (OfMarks (Please (Some tokens) values)) (model_please priority)
  pub alter : (add : List Proposal) (delete : List ℕ) → Faultless Reliable (OfData (AlterContext add delete)) (model_alter (items_seen (alteration add delete)))
  pub part : (id : ℕ) (pair : Option Pair) (octets : List ℕ) →
      Faultless Reliable (OfData (Values (record { id = id; pair = pair; content = Part octets } ∷ []))) (model_chunk octets)
  pub start : (activity : ℕ) → Faultless Reliable (OfActivities (Start activity)) (model_start activity)
  pub interrupt : (reason : Option ℕ) → Faultless Reliable (OfActivities (Interrupt reason)) model_interrupt
  pub discard : (reason : Option ℕ) → Faultless Reliable (OfActivities (Discard reason)) model_discard
  pub finish : (transport : Option ℕ) (values : List DataValue) → Faultless Reliable (OfAssociation (Finish transport values)) model_release

-- the answer to the oldest own alteration
pub record AnswersMayBeTaken : Type 0 where
  pub alter_ack : (mode : Mode) (a : Alteration) (own : List Alteration) (answers : Answers) (free : Free) (base : Base) (body : Body) →
      body.sets.own ≡ a ∷ own → word_fault (at mode base) body (OfData (AlterContextAck answers)) ≡ None →
      MayTake (setup_seen free mode base) (role_seen base.initiator) (seen (at mode base) body) (model_alter_answer (results_seen a answers))
