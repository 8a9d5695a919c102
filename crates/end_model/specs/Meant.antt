-- Which message of the model a word is, for the words that mean the same whatever the contexts are.
use Rattle.std.specs.Prelude.{◌≡◌, ℕ, suc, List, [], ◌∷◌, map, Option, Some, None, unwrap_or}
use Rattle.osi_base.specs.declared.layer_words.RestoredItem.{RestoredItem}
use Rattle.dialogue.specs.declared.config.Mode.{Mode}
use Rattle.dialogue.specs.declared.config.Mode.TheVariants.{Direct, Reliable}
use Rattle.end_rules.specs.Base.{Base}
use Rattle.end_rules.specs.State.{Body, highest, pieces_of, confirmed_of}
use Rattle.end_rules.specs.Sets.{next_number, listed}
use Rattle.end_rules.specs.Messages.{AssociationWord, MarkWord, ActivityWord, Message, Word, Session, DataValue, OfAssociation, OfMarks, OfActivities, Refuse, Finish, Disconnect, Abort, Mark, MarkAck, Restart, RestartAck, Give, Please, GiveConfirm, GiveAck, Start, Resume, End, EndAck, Interrupt, InterruptAck, Discard, DiscardAck}
use Rattle.end_rules.specs.TakesMarks.{priority_in, restored_set}
use Rattle.end_rules.specs.Reacting.{answers_to_word}
use Rattle.agreement.specs.Sets.{Listed}
use Rattle.agreement.specs.Messages.{Act, Message as ModelMessage}
use Rattle.agreement.specs.Messages.Act.{Marks, GivesTurn, Restarts, Starts, EndsActivity, Interrupts, Discards, Resumes, Releases}
use Rattle.agreement.specs.Acts.{sent_by}
use Rattle.agreement.specs.Messages.Choice.{Nothing}
use Rattle.agreement.specs.Messages.Message.{Mark as model_mark, MarkAnswer as model_mark_answer, Restart as model_restart, RestartAnswer as model_restart_answer, Give as model_give, Please as model_please, GiveAnswer as model_give_answer, Start as model_start, Resume as model_resume, End as model_end, EndAnswer as model_end_answer, Interrupt as model_interrupt, InterruptAnswer as model_interrupt_answer, Discard as model_discard, DiscardAnswer as model_discard_answer, Refuse as model_refuse, Release as model_release, ReleaseAnswer as model_release_answer, UserAbort as model_user_abort}
use Rattle.agreement.specs.Takings.{answer_to}
use Rattle.end_model.specs.Seen.{Free, listed_seen, seen, setup_seen}
use Rattle.end_model.specs.Rows.{at}

-- a restart without a list has an empty one in the model
abbrev pub list_meant : Option (List RestoredItem) → List Listed
list_meant None = []
list_meant (Some list) = listed_seen list

abbrev pub mark_meant : MarkWord → ModelMessage
mark_meant (Mark number) = model_mark number
mark_meant (MarkAck number) = model_mark_answer number
mark_meant (Restart number list) = model_restart number (list_meant list)
mark_meant (RestartAck number list) = model_restart_answer number (list_meant list)
mark_meant (Give tokens) = model_give
mark_meant (Please tokens values) = model_please (unwrap_or (priority_in values) 0)
mark_meant GiveConfirm = model_give
mark_meant GiveAck = model_give_answer

abbrev pub activity_meant : ActivityWord → ModelMessage
activity_meant (Start activity) = model_start activity
activity_meant (Resume activity mark) = model_resume activity mark
activity_meant (End number) = model_end number
activity_meant (EndAck number) = model_end_answer number
activity_meant (Interrupt reason) = model_interrupt
activity_meant InterruptAck = model_interrupt_answer
activity_meant (Discard reason) = model_discard
activity_meant DiscardAck = model_discard_answer

abbrev pub association_meant : AssociationWord → Option ModelMessage
association_meant (Refuse transport reason presentation values) = Some model_refuse
association_meant (Finish transport values) = Some model_release
association_meant (Disconnect values) = Some model_release_answer
association_meant (Abort transport user) = Some model_user_abort
association_meant word = None

-- none for openings, values and alterations, which depend on the contexts, and for transport units
abbrev pub message_meant : Message → Option ModelMessage
message_meant (Session (OfAssociation word)) = association_meant word
message_meant (Session (OfMarks word)) = Some (mark_meant word)
message_meant (Session (OfActivities word)) = Some (activity_meant word)
message_meant message = None

-- What the end answers to the word is what the model answers to the message.
abbrev pub AnswersAs : Mode → Word → ModelMessage → Type 0
AnswersAs mode word message =
    (free : Free) (base : Base) (body : Body) →
    map message_meant (answers_to_word (at mode base) body word) ≡
    map Some (answer_to (setup_seen free mode base) (seen (at mode base) body) message Nothing)

pub record Answered : Type 0 where
  pub mark : (number : ℕ) → AnswersAs Direct (OfMarks (Mark number)) (model_mark number)
  pub mark_in_activity : (number : ℕ) → AnswersAs Reliable (OfMarks (Mark number)) (model_mark number)
  pub give : (tokens : Option ℕ) → AnswersAs Direct (OfMarks (Give tokens)) model_give
  pub give_all : AnswersAs Reliable (OfMarks GiveConfirm) model_give
  pub give_ack : AnswersAs Reliable (OfMarks GiveAck) model_give_answer
  pub please : (mode : Mode) (tokens : Option ℕ) (values : List DataValue) (priority : ℕ) →
      AnswersAs mode (OfMarks (Please tokens values)) (model_please priority)
  pub mark_ack : (mode : Mode) (number : ℕ) → AnswersAs mode (OfMarks (MarkAck number)) (model_mark_answer number)
  pub start : (activity : ℕ) → AnswersAs Reliable (OfActivities (Start activity)) (model_start activity)
  pub resume : (activity : ℕ) (mark : ℕ) → AnswersAs Reliable (OfActivities (Resume activity mark)) (model_resume activity mark)
  pub end : (number : ℕ) → AnswersAs Reliable (OfActivities (End number)) (model_end number)
  pub end_ack : (number : ℕ) → AnswersAs Reliable (OfActivities (EndAck number)) (model_end_answer number)
  pub interrupt : (reason : Option ℕ) → AnswersAs Reliable (OfActivities (Interrupt reason)) model_interrupt
  pub interrupt_ack : AnswersAs Reliable (OfActivities InterruptAck) model_interrupt_answer
  pub discard : (reason : Option ℕ) → AnswersAs Reliable (OfActivities (Discard reason)) model_discard
  pub discard_ack : AnswersAs Reliable (OfActivities DiscardAck) model_discard_answer
  pub finish : (mode : Mode) (transport : Option ℕ) (values : List DataValue) →
      AnswersAs mode (OfAssociation (Finish transport values)) model_release

-- What is sent is what the model sends by the act.
abbrev pub MeansWhat : Mode → (Body → Message) → (Body → Act) → Type 0
MeansWhat mode message act =
    (free : Free) (base : Base) (body : Body) →
    message_meant (message body) ∷ [] ≡ map Some (sent_by (setup_seen free mode base) (seen (at mode base) body) (act body))

pub record SentIsMeant : Type 0 where
  pub mark : MeansWhat Direct (λ body. Session (OfMarks (Mark (next_number body.saved)))) (λ body. Marks)
  pub mark_in_activity : MeansWhat Reliable (λ body. Session (OfMarks (Mark (suc (highest (pieces_of body.sending.current)))))) (λ body. Marks)
  pub give : (mode : Mode) (tokens : Option ℕ) → MeansWhat mode (λ body. Session (OfMarks (Give tokens))) (λ body. GivesTurn)
  pub give_all : MeansWhat Reliable (λ body. Session (OfMarks GiveConfirm)) (λ body. GivesTurn)
  pub restart : (number : ℕ) → MeansWhat Direct (λ body. Session (OfMarks (Restart number (Some (listed (restored_set body number)))))) (λ body. Restarts number)
  pub start : MeansWhat Reliable (λ body. Session (OfActivities (Start (suc body.sending.started)))) (λ body. Starts)
  pub end : MeansWhat Reliable (λ body. Session (OfActivities (End (suc (highest (pieces_of body.sending.current)))))) (λ body. EndsActivity)
  pub interrupt : (reason : Option ℕ) → MeansWhat Reliable (λ body. Session (OfActivities (Interrupt reason))) (λ body. Interrupts)
  pub discard : (reason : Option ℕ) → MeansWhat Reliable (λ body. Session (OfActivities (Discard reason))) (λ body. Discards)
  pub resume : MeansWhat Reliable (λ body. Session (OfActivities (Resume body.sending.started (confirmed_of body.sending.current)))) (λ body. Resumes)
  pub release : (mode : Mode) (transport : Option ℕ) (values : List DataValue) →
      MeansWhat mode (λ body. Session (OfAssociation (Finish transport values))) (λ body. Releases)

-- The answer to a restart is the model's.
pub record RestartsAnswered : Type 0 where
  pub restart : (number : ℕ) (list : Option (List RestoredItem)) (theirs : List Listed) → AnswersAs Direct (OfMarks (Restart number list)) (model_restart number theirs)
