-- Words of an association that stands, as an end of this product sends them in reliable mode; what is passed over of them.
use Rattle.std.proofs.Common.{◌≡◌, true, ◌∙◌, sym, ap, ℕ, List, [], ◌∷◌, ◌++◌, ◌⊎◌}
use Rattle.std.specs.Prelude.{Bool, Some}
use Rattle.osi_base.specs.declared.layer_words.Proposal.{Proposal}
use Rattle.end_model.specs.dialogue.declared.config.Mode.TheVariants.{Reliable}
use Rattle.end_model.specs.dialogue.declared.config.Phase.TheVariants.{Up, Releasing, Over}
use Rattle.end_model.specs.end_rules.Base.{Base}
use Rattle.end_model.specs.end_rules.Messages.{DataValue, Word, AssociationWord, MarkWord, OfAssociation, OfData, OfMarks, OfActivities}
use Rattle.end_model.specs.end_rules.Messages.{Finish, Disconnect, Abort, Values, AlterContext, AlterContextAck, Mark, MarkAck, Please}
use Rattle.end_model.specs.end_rules.Messages.{GiveConfirm, GiveAck, Start, Resume, End, EndAck, Interrupt, InterruptAck, Discard}
use Rattle.end_model.specs.end_rules.Messages.{DiscardAck, Message, Transport, Session, unit_of}
use Rattle.end_model.specs.end_rules.State.{Body, Awaited}
use Rattle.end_model.specs.end_rules.Connecting.{the_one}
use Rattle.end_model.specs.end_rules.Purging.{is_purged}
use Rattle.end_model.specs.end_rules.TakesAssociation.{is_release_request, is_release_response}
use Rattle.end_model.specs.end_rules.TakesData.{alteration}
use Rattle.end_model.specs.end_rules.TakesMarks.{priority_in}
use Rattle.agreement.specs.Messages.{Message as ModelMessage}
use Rattle.agreement.specs.Takings.{is_purged as model_purged}
use Rattle.end_model.specs.Seen.{role_seen, awaited_seen, items_seen}
use Rattle.end_model.specs.Rows.{at}
use Rattle.end_model.specs.Words.{Means, results_seen}
use Rattle.end_model.specs.Takings.{IsJoined}
use Rattle.end_model.proofs.PurgedWords as words

-- a plea that says its priority
pub record IsPlea (values : List DataValue) : Type 0 where
  pub priority : ℕ
  pub is_it : priority_in values ≡ Some priority

abbrev pub OwnMark : MarkWord → Type 0
OwnMark (Mark number) = Unit {0}
OwnMark (MarkAck number) = Unit {0}
OwnMark (Please (Some tokens) values) = IsPlea values
OwnMark GiveConfirm = Unit {0}
OwnMark GiveAck = Unit {0}
OwnMark word = ⊥

abbrev pub OwnAssociation : AssociationWord → Type 0
OwnAssociation (Finish transport values) = is_release_request (the_one values) ≡ true
OwnAssociation (Disconnect values) = is_release_response (the_one values) ≡ true
OwnAssociation (Abort transport user) = Unit {0}
OwnAssociation word = ⊥

abbrev pub OwnWord : Word → Type 0
OwnWord (OfAssociation word) = OwnAssociation word
OwnWord (OfData word) = Unit {0}
OwnWord (OfMarks word) = OwnMark word
OwnWord (OfActivities word) = Unit {0}

abbrev pub AreOwn : List Message → Type 0
AreOwn [] = Unit {0}
AreOwn (Transport unit ∷ messages) = ⊥
AreOwn (Session word ∷ messages) = OwnWord word × AreOwn messages

pub own-append : (xs ys : List Message) → AreOwn xs → AreOwn ys → AreOwn (xs ++ ys)
own-append [] ys h k = k
own-append (Transport unit ∷ xs) ys h k = absurd h
own-append (Session word ∷ xs) ys h k = (h.0, own-append xs ys h.1 k)

-- ---- what is passed over is what the model passes over

pub purged-as : (base : Base) (proposed : List Proposal) (word : Word) (message : ModelMessage) → OwnWord word → Means proposed (at Reliable base) word message → (initiator : Bool) (awaited : Awaited) → is_purged initiator awaited (unit_of word) ≡ model_purged (role_seen initiator) (awaited_seen awaited) message
purged-as base proposed word message own means initiator awaited = go word own means
  where
    to : (m : ModelMessage) (b : Bool) → message ≡ m → b ≡ model_purged (role_seen initiator) (awaited_seen awaited) m → b ≡ model_purged (role_seen initiator) (awaited_seen awaited) message
    to m b e row = row ∙ ap (model_purged (role_seen initiator) (awaited_seen awaited)) (sym e)

    go : (word : Word) → OwnWord word → Means proposed (at Reliable base) word message → is_purged initiator awaited (unit_of word) ≡ model_purged (role_seen initiator) (awaited_seen awaited) message
    go (OfData (Values values)) own means = to _ _ means.is_its (words.chunk means.octets initiator awaited)
    go (OfData (AlterContext add delete)) own means = to _ _ means (words.alter (items_seen (alteration add delete)) initiator awaited)
    go (OfData (AlterContextAck answers)) own means = to _ _ means.2 (words.alter_ack (results_seen means.0 answers) initiator awaited)
    go (OfMarks (Mark number)) own means = to _ _ means (words.mark number initiator awaited)
    go (OfMarks (MarkAck number)) own means = to _ _ means (words.mark_ack number initiator awaited)
    go (OfMarks (Please (Some tokens) values)) own means = to _ _ means (words.please (Some tokens) _ initiator awaited)
    go (OfMarks GiveConfirm) own means = to _ _ means (words.give_all initiator awaited)
    go (OfMarks GiveAck) own means = to _ _ means (words.give_ack initiator awaited)
    go (OfAssociation (Finish transport values)) own means = to _ _ means (words.finish transport initiator awaited)
    go (OfAssociation (Disconnect values)) own means = to _ _ means (words.disconnect initiator awaited)
    go (OfAssociation (Abort transport user)) own means = to _ _ means (words.abort transport initiator awaited)
    go (OfActivities (Start activity)) own means = to _ _ means (words.start activity initiator awaited)
    go (OfActivities (Resume activity mark)) own means = to _ _ means (words.resume activity mark initiator awaited)
    go (OfActivities (End number)) own means = to _ _ means (words.end number initiator awaited)
    go (OfActivities (EndAck number)) own means = to _ _ means (words.end_ack number initiator awaited)
    go (OfActivities (Interrupt reason)) own means = to _ _ means (words.interrupt reason initiator awaited)
    go (OfActivities InterruptAck) own means = to _ _ means (words.interrupt_ack initiator awaited)
    go (OfActivities (Discard reason)) own means = to _ _ means (words.discard reason initiator awaited)
    go (OfActivities DiscardAck) own means = to _ _ means (words.discard_ack initiator awaited)
    go word own means = absurd own

-- ---- an end whose association stands

pub record Live (body : Body) : Type 0 where
  pub joined : IsJoined Reliable body
  pub phase : (body.link.phase ≡ Up) ⊎ (body.link.phase ≡ Releasing)

-- and what comes to it; one that is over passes over all
pub data Side (body : Body) (coming : List Message) : Type 0 where
  Stands : Live body → AreOwn coming → Side body coming
  IsOver : body.link.phase ≡ Over → Side body coming
