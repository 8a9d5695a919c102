-- The end of an activity, whose transfer is read as it comes.
use Rattle.std.specs.Prelude.{◌≡◌, map, Bool, false, Option, Some, None, Result, Ok, Err}
use Rattle.end_rules.specs.Base.{Base}
use Rattle.end_rules.specs.Messages.{Word, OfActivities, Message, Transport, Session}
use Rattle.end_rules.specs.State.{Body}
use Rattle.end_rules.specs.TakesActivities.{handed_up, end_fault}
use Rattle.association_words.specs.declared.faults.Fault.{Fault}
use Rattle.association_words.specs.declared.values.Value.{Value}
use Rattle.association_words.specs.Seen.{seen_fault, seen_value}
use Rattle.association_connecting.specs.association_sends.Due.{listed}
use Rattle.association_takes.specs.ActivityWords.{is_end}

abbrev pub is_end_word : Word → Bool
is_end_word (OfActivities word) = is_end word
is_end_word _ = false

abbrev pub is_end_message : Message → Bool
is_end_message (Session word) = is_end_word word
is_end_message (Transport unit) = false

-- the value that is to be handed up, and nothing is faulty
pub record Arrives (base : Base) (body : Body) (value : Option Value) : Type 0 where
  pub value_is : map seen_value (listed value) ≡ handed_up base body
  pub sound : end_fault base body ≡ None

-- what the transfer brings was read
abbrev pub ArrivesAs : Base → Body → Result (Option Value) Fault → Type 0
ArrivesAs base body (Ok value) = Arrives base body value
ArrivesAs base body (Err fault) = end_fault base body ≡ Some (seen_fault fault)
