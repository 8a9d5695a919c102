-- What an end does, piece by piece. No public clause cites this module.
use Rattle.std.specs.Prelude.{◌≡◌, ℕ, ◌<◌, List, [], ◌∷◌, ◌++◌, length, Bool, true, false, Option, Some, None, MatchBool}
use Rattle.dialogue.specs.declared.call.Call.{Call}
use Rattle.dialogue.specs.declared.indication.Indication.{Indication}
use Rattle.end_rules.specs.Invoking.{Reply, is_memory}
use Rattle.end_rules.specs.ByItself.{OwnAct, next_own}
use Rattle.end_rules.specs.History.{Step, step_of, ByItself}
use Rattle.association_line.specs.association_reading.Front.{Intake}
use Rattle.association_line.specs.Line.{after_all}
use Rattle.association_line.specs.Feeding.{Reads, Begins, BeginsByItself}
use Rattle.association_end.specs.View.{EndView, base, Stepped}
use Rattle.association_end.specs.Called.{Answered, BeganCall}

-- what waits is as it was
pub record Keeps (old new : EndView) : Type 0 where
  pub tables : new.tables ≡ old.tables
  pub config : new.config ≡ old.config
  pub waiting : new.end.line.waiting ≡ old.end.line.waiting

-- ---- reading

-- how many messages came and weren't reacted to
abbrev pub count_in : Option Intake → ℕ
count_in None = 0
count_in (Some intake) = length intake.fronts

abbrev pub messages_left : EndView → ℕ
messages_left e = count_in e.end.line.came

-- Steps were made, from which reading goes on.
pub record ReadsOn (old new : EndView) (before after : List Indication) : Type 0 where
  pub steps : List Step
  pub told : List Indication
  pub made : Stepped old new steps
  pub shown_is : after ≡ before ++ told
  pub goes_on : (more : List Step) (later : List Indication) → Reads (base old) (after_all (base old) old.end steps) more later → Reads (base old) old.end (steps ++ more) (told ++ later)
  pub begins_on : (more : List Step) → Begins (base old) (after_all (base old) old.end steps) more → Begins (base old) old.end (steps ++ more)

-- one message was passed over or taken
pub record ReadOne (old new : EndView) (before after : List Indication) : Type 0 where
  pub on : ReadsOn old new before after
  pub fewer : messages_left new < messages_left old

-- what came was read to its end
pub record ReadAll (old new : EndView) (before after : List Indication) : Type 0 where
  pub steps : List Step
  pub told : List Indication
  pub made : Stepped old new steps
  pub shown_is : after ≡ before ++ told
  pub reads : Reads (base old) old.end steps told
  pub rests : Reads (base new) new.end [] []
  pub begins_on : (more : List Step) → Begins (base old) (after_all (base old) old.end steps) more → Begins (base old) old.end (steps ++ more)

-- one message was read and more may follow, or all was read
abbrev pub ReadOneOrAll : Bool → EndView → EndView → List Indication → List Indication → Type 0
ReadOneOrAll true old new before after = ReadOne old new before after
ReadOneOrAll false old new before after = ReadAll old new before after

-- reading was begun, and what waits is what waited and what is due for that
pub record BeganReading (old new : EndView) : Type 0 where
  pub tables : new.tables ≡ old.tables
  pub config : new.config ≡ old.config
  pub steps : List Step
  pub begins : Begins (base old) old.end steps
  pub due : new.end.line.waiting ≡ (after_all (base old) old.end steps).line.waiting

-- ---- what an end does by itself

-- one thing was done, or there is none
pub record DidOne (old new : EndView) : Type 0 where
  pub act : OwnAct
  pub is : next_own (base old) old.end.body ≡ Some act
  pub made : Stepped old new (step_of act ∷ [])

pub record RestsAt (old new : EndView) : Type 0 where
  pub none : next_own (base old) old.end.body ≡ None
  pub same : new ≡ old

abbrev pub DidOneOrRests : Bool → EndView → EndView → Type 0
DidOneOrRests true old new = DidOne old new
DidOneOrRests false old new = RestsAt old new

-- all was done
pub record DidOwn (old new : EndView) : Type 0 where
  pub own : List Step
  pub by_itself : ByItself (base old) old.end.body own
  pub made : Stepped old new own

pub record BeganOwn (old new : EndView) : Type 0 where
  pub tables : new.tables ≡ old.tables
  pub config : new.config ≡ old.config
  pub own : List Step
  pub begins : BeginsByItself (base old) old.end.body own
  pub due : new.end.line.waiting ≡ (after_all (base old) old.end own).line.waiting

-- ---- calls

abbrev pub AnswersCall : EndView → EndView → Call → Reply → Type 0
AnswersCall old new call reply = MatchBool (is_memory reply) (BeganCall old new call) (Answered old new call reply)
