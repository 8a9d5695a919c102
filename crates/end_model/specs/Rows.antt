-- Each request that an end sends, and each message that it takes, is an act or a taking of the model.
use Rattle.std.specs.Prelude.{◌≡◌, ℕ, suc, List, [], ◌∷◌, Bool, Option, Some}
use Rattle.end_rules.specs.Messages.{Resume}
use Rattle.end_rules.specs.State.{confirmed_of}
use Rattle.end_rules.specs.TakesData.{part_in}
use Rattle.agreement.specs.Messages.Act.{Resumes}
use Rattle.agreement.specs.Messages.Message.{Resume as model_resume, Chunk as model_chunk}
use Rattle.agreement.specs.Messages.Message.{AlterAnswer as model_alter_answer, End as model_end}
use Rattle.agreement.specs.Messages.Message.{Connect as model_connect, Recover as model_recover}
use Rattle.agreement.specs.Messages.Message.{Accept as model_accept}
use Rattle.dialogue.specs.declared.config.Phase.TheVariants.{Opening, Recovering}
use Rattle.end_rules.specs.TakesTransport.{after_transport}
use Rattle.end_rules.specs.Faults.{over}
use Rattle.end_rules.specs.Messages.{ConnectionConfirm, DisconnectRequest}
use Rattle.agreement.specs.Messages.Act.{Connects, Recovers, TransportFails, Aborts, Withdraws}
use Rattle.osi_base.specs.declared.layer_words.RestoredItem.{RestoredItem}
use Rattle.osi_base.specs.declared.layer_words.Answers.{Answers}
use Rattle.osi_base.specs.declared.session_word.SessionConnect.{SessionConnect}
use Rattle.osi_base.specs.declared.presentation_word.PresentationConnect.{PresentationConnect}
use Rattle.osi_base.specs.declared.presentation_word.PresentationAccept.{PresentationAccept}
use Rattle.osi_base.specs.declared.presentation_word.PresentationReject.{PresentationReject}
use Rattle.dialogue.specs.declared.config.Mode.{Mode}
use Rattle.dialogue.specs.declared.config.Mode.TheVariants.{Direct, Reliable}
use Rattle.end_rules.specs.Sets.{next_number}
use Rattle.end_rules.specs.History.{after_broke, broken_phase}
use Rattle.end_rules.specs.State.{Unused}
use Rattle.agreement.specs.Takings.{broken, broken_phase as model_broken_phase}
use Rattle.end_model.specs.Seen.{mode_seen, phase_seen}
use Rattle.end_rules.specs.Base.{Base}
use Rattle.end_rules.specs.State.{Body}
use Rattle.end_rules.specs.Messages.{Message, Session, Word, OfAssociation, OfData, OfMarks}
use Rattle.end_rules.specs.Messages.{OfActivities, DataValue, Values, AlterContext, AlterContextAck}
use Rattle.end_rules.specs.Messages.{Accepting, Connect, Accept, MarkAck, RestartAck, End}
use Rattle.end_rules.specs.Messages.{InterruptAck, DiscardAck, unit_of, AbortData, Refuse, Finish}
use Rattle.end_rules.specs.Messages.{Disconnect, Abort, Mark, Restart, Give, Please, GiveConfirm}
use Rattle.end_rules.specs.Messages.{GiveAck, Start, EndAck, Interrupt, Discard}
use Rattle.end_rules.specs.Requesting.{after_sent}
use Rattle.end_rules.specs.Reacting.{after_word}
use Rattle.agreement.specs.Messages.{Act, Choice, Message as ModelMessage}
use Rattle.agreement.specs.Messages.Act.{Marks, GivesTurn, Pleads, Restarts, Interrupts, Releases}
use Rattle.agreement.specs.Messages.Act.{Sends, EndsActivity, Starts, Discards, Alters}
use Rattle.agreement.specs.Messages.Choice.{Nothing}
use Rattle.agreement.specs.Messages.Message.{Mark as model_mark, Give as model_give}
use Rattle.agreement.specs.Messages.Message.{GiveAnswer as model_give_answer}
use Rattle.agreement.specs.Messages.Message.{Please as model_please, Start as model_start}
use Rattle.agreement.specs.Messages.Message.{EndAnswer as model_end_answer}
use Rattle.agreement.specs.Messages.Message.{Interrupt as model_interrupt, Discard as model_discard}
use Rattle.agreement.specs.Messages.Message.{Refuse as model_refuse, Release as model_release}
use Rattle.agreement.specs.Messages.Message.{ReleaseAnswer as model_release_answer}
use Rattle.agreement.specs.Messages.Message.{UserAbort as model_abort}
use Rattle.agreement.specs.Messages.Message.{MarkAnswer as model_mark_answer}
use Rattle.agreement.specs.Messages.Message.{InterruptAnswer as model_interrupt_answer}
use Rattle.agreement.specs.Messages.Message.{DiscardAnswer as model_discard_answer}
use Rattle.agreement.specs.Messages.Message.{Data as model_data, Alter as model_alter}
use Rattle.agreement.specs.Messages.Message.{Restart as model_restart}
use Rattle.agreement.specs.Messages.Message.{RestartAnswer as model_restart_answer}
use Rattle.agreement.specs.Messages.{Value as ModelValue}
use Rattle.agreement.specs.Sets.{Item, Listed, ContextSet, Result}
use Rattle.agreement.specs.Takings.{is_purged as model_purged}
use Rattle.osi_base.specs.declared.layer_words.Proposal.{Proposal}
use Rattle.end_rules.specs.State.{Awaited, highest, pieces_of}
use Rattle.end_rules.specs.Purging.{is_purged}
use Rattle.end_rules.specs.TakesData.{parts_in, alteration}
use Rattle.agreement.specs.Acts.{acted}
use Rattle.agreement.specs.Takings.{taken}
use Rattle.end_model.specs.Seen.{Free, role_seen, awaited_seen, items_seen, seen, setup_seen}

-- what the rules stand on, in this mode
abbrev pub at : Mode → Base → Base
at mode base = record base { mode = mode }

-- In this mode the sending of the message is the act.
abbrev pub SendsAs : Mode → (Body → Message) → (Body → Act) → Type 0
SendsAs mode message act =
    (free : Free) (base : Base) (body : Body) →
    seen (at mode base) (after_sent mode body (message body)) ≡ acted (setup_seen free mode base) (seen (at mode base) body) (act body)

-- In this mode the taking of the word is the taking of the model's message with this choice.
abbrev pub TakesAs : Mode → Word → ModelMessage → Choice → Type 0
TakesAs mode word message choice =
    (free : Free) (base : Base) (body : Body) →
    seen (at mode base) (after_word (at mode base) body word) ≡
    taken (setup_seen free mode base) (role_seen base.initiator) (seen (at mode base) body) message choice

pub record MarksSent : Type 0 where
  pub mark : SendsAs Direct (λ body. Session (OfMarks (Mark (next_number body.saved)))) (λ body. Marks)
  pub give : SendsAs Direct (λ body. Session (OfMarks (Give (Some 4)))) (λ body. GivesTurn)
  pub give_all : SendsAs Reliable (λ body. Session (OfMarks GiveConfirm)) (λ body. GivesTurn)
  pub please : (mode : Mode) (tokens : Option ℕ) (values : List DataValue) (priority : ℕ) →
      SendsAs mode (λ body. Session (OfMarks (Please tokens values))) (λ body. Pleads priority)
  pub restart : (number : ℕ) (list : Option (List RestoredItem)) →
      SendsAs Direct (λ body. Session (OfMarks (Restart number list))) (λ body. Restarts number)

pub record MarksTaken : Type 0 where
  pub mark : (number : ℕ) → TakesAs Direct (OfMarks (Mark number)) (model_mark number) Nothing
  pub mark_in_activity : (number : ℕ) → TakesAs Reliable (OfMarks (Mark number)) (model_mark number) Nothing
  pub give_all : TakesAs Reliable (OfMarks GiveConfirm) model_give Nothing
  pub give_ack : TakesAs Reliable (OfMarks GiveAck) model_give_answer Nothing
  pub please : (mode : Mode) (tokens : Option ℕ) (values : List DataValue) (priority : ℕ) →
      TakesAs mode (OfMarks (Please tokens values)) (model_please priority) Nothing

pub record ActivitiesSent : Type 0 where
  pub interrupt : SendsAs Reliable (λ body. Session (OfActivities (Interrupt (Some 0)))) (λ body. Interrupts)
  pub release : (mode : Mode) (transport : Option ℕ) (values : List DataValue) →
      SendsAs mode (λ body. Session (OfAssociation (Finish transport values))) (λ body. Releases)

pub record ActivitiesTaken : Type 0 where
  pub start : (activity : ℕ) → TakesAs Reliable (OfActivities (Start activity)) (model_start activity) Nothing
  pub end_ack : (number : ℕ) → TakesAs Reliable (OfActivities (EndAck number)) (model_end_answer number) Nothing
  pub interrupt : (reason : Option ℕ) → TakesAs Reliable (OfActivities (Interrupt reason)) model_interrupt Nothing
  pub discard : (reason : Option ℕ) → TakesAs Reliable (OfActivities (Discard reason)) model_discard Nothing

pub record AssociationTaken : Type 0 where
  pub refuse : (mode : Mode) (transport : Option ℕ) (reason : Option ℕ) (presentation : Option PresentationReject) (values : List DataValue) →
      TakesAs mode (OfAssociation (Refuse transport reason presentation values)) model_refuse Nothing
  pub finish : (mode : Mode) (transport : Option ℕ) (values : List DataValue) →
      TakesAs mode (OfAssociation (Finish transport values)) model_release Nothing
  pub abort : (mode : Mode) (transport : Option ℕ) (user : AbortData) →
      TakesAs mode (OfAssociation (Abort transport user)) model_abort Nothing
  pub disconnect : (mode : Mode) (values : List DataValue) →
      TakesAs mode (OfAssociation (Disconnect values)) model_release_answer Nothing

-- parts, marks and the end of the own transfer, the start of the next, its discard
pub record TransfersSent : Type 0 where
  pub part : (values : List DataValue) → SendsAs Reliable (λ body. Session (OfData (Values values))) (λ body. Sends (parts_in values))
  pub mark : SendsAs Reliable (λ body. Session (OfMarks (Mark (suc (highest (pieces_of body.sending.current)))))) (λ body. Marks)
  pub end : SendsAs Reliable (λ body. Session (OfActivities (End (suc (highest (pieces_of body.sending.current)))))) (λ body. EndsActivity)
  pub start : SendsAs Reliable (λ body. Session (OfActivities (Start (suc body.sending.started)))) (λ body. Starts)
  pub discard : SendsAs Reliable (λ body. Session (OfActivities (Discard (Some 0)))) (λ body. Discards)

-- confirmations of the own transfer's marks, and of its interrupt
pub record TransfersTaken : Type 0 where
  pub mark_ack : (number : ℕ) → TakesAs Reliable (OfMarks (MarkAck number)) (model_mark_answer number) Nothing
  pub interrupt_ack : TakesAs Reliable (OfActivities InterruptAck) model_interrupt_answer Nothing

-- an alteration that is sent
pub record AlterationsSent : Type 0 where
  pub alter : (mode : Mode) (add : List Proposal) (delete : List ℕ) →
      SendsAs mode (λ body. Session (OfData (AlterContext add delete))) (λ body. Alters (items_seen (alteration add delete)))

-- What is passed over is what the model passes over.
abbrev pub PurgedAs : Word → ModelMessage → Type 0
PurgedAs word message =
    (initiator : Bool) (awaited : Awaited) →
    is_purged initiator awaited (unit_of word) ≡ model_purged (role_seen initiator) (awaited_seen awaited) message

pub record Purged : Type 0 where
  pub values : (values : List DataValue) (value : ModelValue) → PurgedAs (OfData (Values values)) (model_data value)
  pub alter : (add : List Proposal) (delete : List ℕ) (items : List Item) → PurgedAs (OfData (AlterContext add delete)) (model_alter items)
  pub mark : (number : ℕ) → PurgedAs (OfMarks (Mark number)) (model_mark number)
  pub restart : (number : ℕ) (list : Option (List RestoredItem)) (listed : List Listed) →
      PurgedAs (OfMarks (Restart number list)) (model_restart number listed)
  pub restart_ack : (number : ℕ) (list : Option (List RestoredItem)) (listed : List Listed) →
      PurgedAs (OfMarks (RestartAck number list)) (model_restart_answer number listed)
  pub finish : (transport : Option ℕ) (values : List DataValue) → PurgedAs (OfAssociation (Finish transport values)) model_release
  pub disconnect : (values : List DataValue) → PurgedAs (OfAssociation (Disconnect values)) model_release_answer
  pub abort : (transport : Option ℕ) (user : AbortData) → PurgedAs (OfAssociation (Abort transport user)) model_abort
  pub interrupt_ack : PurgedAs (OfActivities InterruptAck) model_interrupt_answer
  pub discard_ack : PurgedAs (OfActivities DiscardAck) model_discard_answer

-- the other words, which settle nothing
pub record PurgedOthers : Type 0 where
  pub part : (values : List DataValue) (octets : List ℕ) → PurgedAs (OfData (Values values)) (model_chunk octets)
  pub alter_ack : (answers : Answers) (results : List Result) → PurgedAs (OfData (AlterContextAck answers)) (model_alter_answer results)
  pub mark_ack : (number : ℕ) → PurgedAs (OfMarks (MarkAck number)) (model_mark_answer number)
  pub give : (tokens : Option ℕ) → PurgedAs (OfMarks (Give tokens)) model_give
  pub give_all : PurgedAs (OfMarks GiveConfirm) model_give
  pub give_ack : PurgedAs (OfMarks GiveAck) model_give_answer
  pub please : (tokens : Option ℕ) (values : List DataValue) (priority : ℕ) → PurgedAs (OfMarks (Please tokens values)) (model_please priority)
  pub start : (activity : ℕ) → PurgedAs (OfActivities (Start activity)) (model_start activity)
  pub resume : (activity : ℕ) (mark : ℕ) → PurgedAs (OfActivities (Resume activity mark)) (model_resume activity mark)
  pub end : (number : ℕ) → PurgedAs (OfActivities (End number)) (model_end number)
  pub end_ack : (number : ℕ) → PurgedAs (OfActivities (EndAck number)) (model_end_answer number)
  pub interrupt : (reason : Option ℕ) → PurgedAs (OfActivities (Interrupt reason)) model_interrupt
  pub discard : (reason : Option ℕ) → PurgedAs (OfActivities (Discard reason)) model_discard
  pub connect : (session : SessionConnect) (presentation : PresentationConnect) (values : List DataValue) →
      PurgedAs (OfAssociation (Connect session presentation values)) model_connect
  pub recover : (session : SessionConnect) (presentation : PresentationConnect) (values : List DataValue) →
      PurgedAs (OfAssociation (Connect session presentation values)) model_recover
  pub accept : (session : Accepting) (presentation : PresentationAccept) (values : List DataValue) (set : ContextSet) →
      PurgedAs (OfAssociation (Accept session presentation values)) (model_accept set)
  pub refuse : (transport : Option ℕ) (reason : Option ℕ) (presentation : Option PresentationReject) (values : List DataValue) →
      PurgedAs (OfAssociation (Refuse transport reason presentation values)) model_refuse

-- A giving in direct mode (only a GTC is confirmed, X.225 8.3.18).
pub record GivingsTaken : Type 0 where
  pub give : (tokens : ℕ) → TakesAs Direct (OfMarks (Give (Some tokens))) model_give Nothing

-- Restarts and their answers, as they are taken in direct mode, where nothing is queued.
pub record RestartsTaken : Type 0 where
  pub restart : (number : ℕ) (list : Option (List RestoredItem)) (listed : List Listed) (free : Free) (base : Base) (body : Body) → body.sending.queue ≡ [] →
      seen (at Direct base) (after_word (at Direct base) body (OfMarks (Restart number list))) ≡
      taken (setup_seen free Direct base) (role_seen base.initiator) (seen (at Direct base) body) (model_restart number listed) Nothing
  pub restart_ack : (number : ℕ) (list : Option (List RestoredItem)) (listed : List Listed) (free : Free) (base : Base) (body : Body) → body.sending.queue ≡ [] →
      seen (at Direct base) (after_word (at Direct base) body (OfMarks (RestartAck number list))) ≡
      taken (setup_seen free Direct base) (role_seen base.initiator) (seen (at Direct base) body) (model_restart_answer number listed) Nothing

-- With its CC an initiator sends the CN that opens or recovers; a DR ends what it asked for; an own abort ends all.
pub record Connections : Type 0 where
  pub connects : (mode : Mode) (destination : ℕ) (size : Option ℕ) (free : Free) (base : Base) (body : Body) → body.link.phase ≡ Opening →
      seen (at mode base) (after_transport (at mode base) body (ConnectionConfirm destination size)) ≡ acted (setup_seen free mode base) (seen (at mode base) body) Connects
  pub recovers : (mode : Mode) (destination : ℕ) (size : Option ℕ) (free : Free) (base : Base) (body : Body) → body.link.phase ≡ Recovering →
      seen (at mode base) (after_transport (at mode base) body (ConnectionConfirm destination size)) ≡ acted (setup_seen free mode base) (seen (at mode base) body) Recovers
  pub fails : (mode : Mode) (destination : ℕ) (free : Free) (base : Base) (body : Body) →
      seen (at mode base) (after_transport (at mode base) body (DisconnectRequest destination)) ≡ acted (setup_seen free mode base) (seen (at mode base) body) TransportFails
  pub aborts : (mode : Mode) (free : Free) (base : Base) (body : Body) →
      seen (at mode base) (over body) ≡ acted (setup_seen free mode base) (seen (at mode base) body) Aborts
  pub withdraws : (mode : Mode) (free : Free) (base : Base) (body : Body) →
      seen (at mode base) (over body) ≡ acted (setup_seen free mode base) (seen (at mode base) body) Withdraws

-- Resumptions: of the own transfer as it is sent, of the peer's activity as it is taken, and a part of it.
pub record Resumptions : Type 0 where
  pub sent : SendsAs Reliable (λ body. Session (OfActivities (Resume body.sending.started (confirmed_of body.sending.current)))) (λ body. Resumes)
  pub resumed : (activity : ℕ) (mark : ℕ) → TakesAs Reliable (OfActivities (Resume activity mark)) (model_resume activity mark) Nothing
  pub part : (value : DataValue) → TakesAs Reliable (OfData (Values (value ∷ []))) (model_chunk (part_in value.content)) Nothing

-- A break of the connection, where the phase after it is the model's: of an opening that breaks before its CN the model
-- knows nothing, and it is over here.
pub record Broke : Type 0 where
  pub breaks : (mode : Mode) (free : Free) (base : Base) (body : Body) →
      phase_seen Unused (broken_phase mode body.link.phase) ≡ model_broken_phase (mode_seen mode) (phase_seen body.link.stage body.link.phase) →
      seen (at mode base) (after_broke (at mode base) body) ≡ broken (setup_seen free mode base) (seen (at mode base) body)
