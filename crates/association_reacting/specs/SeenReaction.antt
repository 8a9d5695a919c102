-- What an end does with a message in code, as the rules have it.
use Rattle.std.specs.Prelude.{◌≡◌, List}
use Rattle.dialogue.specs.declared.indication.Indication.{Indication}
use Rattle.end_rules.specs.Base as base
use Rattle.end_rules.specs.State.{Body}
use Rattle.end_rules.specs.Reacting as rules
use Rattle.association_words.specs.declared.faults.Fault.{Fault}
use Rattle.association_words.specs.declared.words.Message.{Message}
use Rattle.association_connecting.specs.association_answers.declared.brought.Brought.{Brought}
use Rattle.association_connecting.specs.association_answers.declared.brought.Reaction.{Reaction}
use Rattle.association_connecting.specs.association_answers.declared.brought.Reaction.TheVariants.{Passes, Takes, Fails}
use Rattle.association_connecting.specs.association_answers.BroughtAs.{seen_messages}

-- the message is passed over, and nothing changes
pub record PassesSo (rule : rules.Reaction) (old new : Body) : Type 0 where
  pub is : rule ≡ rules.Passes
  pub body : new ≡ old

-- it is taken, with this body afterwards, these answers and these indications
pub record TakesSo (rule : rules.Reaction) (new : Body) (taken : Brought) : Type 0 where
  pub is : rule ≡ rules.Takes new (seen_messages taken.answers) taken.shown

-- it ends the association for a fault of this layer, place and reason, with this abort and these indications
pub record FailsSo (rule : rules.Reaction) (new : Body) (came : Fault) (aborts : List Message) (shown : List Indication) : Type 0 where
  pub fault : base.Fault
  pub layer : came.layer ≡ fault.layer
  pub place : came.place ≡ fault.place
  pub reason : came.reason ≡ fault.reason
  pub is : rule ≡ rules.Fails fault new (seen_messages aborts) shown

-- the reaction of the rules, with the body before and after, is that of the code
abbrev pub ReactsAs : rules.Reaction → Body → Body → Reaction → Type 0
ReactsAs rule old new Passes = PassesSo rule old new
ReactsAs rule old new (Takes taken) = TakesSo rule new taken
ReactsAs rule old new (Fails came aborts shown) = FailsSo rule new came aborts shown
