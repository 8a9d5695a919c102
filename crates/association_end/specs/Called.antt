-- What a call does, and what is left where memory was refused in it.
use Rattle.std.specs.Prelude.{◌≡◌, List, [], ◌++◌}
use Rattle.dialogue.specs.declared.call.Call.{Call}
use Rattle.dialogue.specs.declared.call.CallRefusal.TheVariants as refusals
use Rattle.dialogue.specs.declared.config.Phase.TheVariants.{Dead}
use Rattle.end_rules.specs.Base.{Base}
use Rattle.end_rules.specs.Invoking.{Reply}
use Rattle.end_rules.specs.Calling.{can_call}
use Rattle.end_rules.specs.History.{Step, History, call_steps}
use Rattle.association_line.specs.Line.{End, after_all, going_on}
use Rattle.association_line.specs.Feeding.{Makes, BeginsByItself}
use Rattle.association_end.specs.View.{EndView, base, Stepped, StandsFor}

-- The call got the answer that can be given, and the steps were made that it makes.
pub record Answered (old new : EndView) (call : Call) (reply : Reply) : Type 0 where
  pub reply_is : reply ≡ can_call (base old) old.end.body call
  pub steps : List Step
  pub makes : Makes (base old) old.end call steps
  pub made : Stepped old new steps
  -- where it stood for a history, it stands for it with these steps
  pub stands : (h : History) → StandsFor old h → StandsFor new (going_on h steps)

-- the steps of a call and of what the end does by itself behind it, begun
pub data BeginsCall (base : Base) (end : End) (call : Call) : List Step → Type 0 where
  nothing_made : BeginsCall base end call []
  made : (own : List Step) → BeginsByItself base (after_all base end (call_steps base end.body call)).body own
      → BeginsCall base end call (call_steps base end.body call ++ own)

-- What the end did begins what the call makes it do, and what waits is what waited and the messages that are due for that, each
-- whole.
pub record BeganCall (old new : EndView) (call : Call) : Type 0 where
  pub tables : new.tables ≡ old.tables
  pub config : new.config ≡ old.config
  pub steps : List Step
  pub begins : BeginsCall (base old) old.end call steps
  pub due : new.end.line.waiting ≡ (after_all (base old) old.end steps).line.waiting

-- An allocation was refused in the call: the end is dead.
pub record DiedCalled (old new : EndView) (call : Call) : Type 0 where
  pub began : BeganCall old new call
  pub phase : new.end.body.link.phase ≡ Dead
