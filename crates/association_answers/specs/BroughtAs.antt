-- What a message leads to in code, as the rules of one end have it.
use Rattle.std.specs.Prelude.{◌≡◌, List, map}
use Rattle.osi_base.specs.declared.layer_words.SetItem.{SetItem}
use Rattle.dialogue.specs.declared.indication.Indication.{Indication}
use Rattle.end_rules.specs.Base as base
use Rattle.end_rules.specs.Messages as meant
use Rattle.end_rules.specs.State.{Body, is_carrying}
use Rattle.end_rules.specs.Faults.{abort_of, shown_at_fault}
use Rattle.end_rules.specs.Reacting as rules
use Rattle.association_sends.specs.association_words.declared.words.Message.{Message}
use Rattle.association_sends.specs.association_words.declared.faults.Fault.{Fault}
use Rattle.association_sends.specs.association_words.Seen.{seen_message}
use Rattle.association_answers.specs.declared.brought.Brought.{Brought}
use Rattle.association_answers.specs.declared.brought.Reaction.{Reaction}
use Rattle.association_answers.specs.declared.brought.Reaction.TheVariants.{Passes, Takes, Fails}

abbrev pub seen_messages : List Message → List meant.Message
seen_messages messages = map seen_message messages

-- what the taking answers and shows
pub record TakenAs (answers : List meant.Message) (shown : List Indication) (taken : Brought) : Type 0 where
  pub answers_are : seen_messages taken.answers ≡ answers
  pub shown_is : taken.shown ≡ shown

-- the layer, the place and the reason of a fault are these, and what is sent and shown is its own
pub record FailedAs (old : Body) (accepted : List SetItem) (fault : base.Fault) (came : Fault) (aborts : List Message) (shown : List Indication) : Type 0 where
  pub layer : came.layer ≡ fault.layer
  pub place : came.place ≡ fault.place
  pub reason : came.reason ≡ fault.reason
  pub aborts_are : seen_messages aborts ≡ abort_of (is_carrying old.link.stage) accepted fault.layer fault.reason
  pub shown_is : shown ≡ shown_at_fault old fault

abbrev pub FailsAs : Body → List SetItem → base.Fault → Reaction → Type 0
FailsAs old accepted fault Passes = ⊥
FailsAs old accepted fault (Takes taken) = ⊥
FailsAs old accepted fault (Fails came aborts shown) = FailedAs old accepted fault came aborts shown
