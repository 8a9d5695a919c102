-- What a contract sees of an end of bare mode, and what its calls answer and change.
use Rattle.std.specs.Prelude.{◌≡◌, ℕ, List, ◌∷◌, ◌++◌, map, false, Option, Some, None, Err, MatchBool}
use Rattle.stub_tables.specs.declared.tables.Tables.{Tables}
use Rattle.dialogue.specs.declared.call.Call.{Call}
use Rattle.dialogue.specs.declared.call.CallRefusal.{CallRefusal}
use Rattle.dialogue.specs.declared.call.CallRefusal.TheVariants as refusals
use Rattle.dialogue.specs.declared.config.Config.{Config}
use Rattle.dialogue.specs.declared.config.Phase.{Phase}
use Rattle.dialogue.specs.declared.config.Phase.TheVariants.{Dead}
use Rattle.end_rules.specs.Base.{Base}
use Rattle.end_rules.specs.State.{Body, Calls, new_link, new_body}
use Rattle.end_rules.specs.Invoking.{Reply, is_memory}
use Rattle.end_rules.specs.Requesting.{due_of}
use Rattle.end_rules.specs.History.{Step, History, called, sent}
use Rattle.end_wire.specs.Bare.{bare_base}
use Rattle.end_wire.specs.Line.{End, after_all, end_of}

-- its tables, its configuration, its phase, its invocations, and its octets
pub record EndView : Type 0 where
  pub tables : Tables
  pub config : Config
  pub phase : Phase
  pub calls : Calls
  pub waiting : List ℕ
  pub rest : List ℕ

abbrev pub base : EndView → Base
base e = bare_base e.tables e.config

-- In bare mode an end has its phase and its invocations, and all else stays as it is at first.
abbrev pub bare_body : Base → Phase → Calls → Body
bare_body b phase invocations =
    record (new_body b) { link = record (new_link b) { phase = phase }; calls = invocations }

abbrev pub body : EndView → Body
body e = bare_body (base e) e.phase e.calls

-- as the rules see it
abbrev pub seen : EndView → End
seen e = record { body = body e; line = record { waiting = e.waiting; rest = e.rest } }

-- These steps were made, oldest first.
pub record Stepped (old new : EndView) (steps : List Step) : Type 0 where
  pub tables : new.tables ≡ old.tables
  pub config : new.config ≡ old.config
  pub end : seen new ≡ after_all (base old) (seen old) steps

-- the end stands for a history
abbrev pub StandsFor : EndView → History → Type 0
StandsFor e h = seen e ≡ end_of (base e) h

-- with other open invocations
abbrev pub with_calls : Calls → EndView → EndView
with_calls invocations e = record e { calls = invocations }

-- with more octets that wait
abbrev pub with_waiting : List ℕ → EndView → EndView
with_waiting octets e = record e { waiting = e.waiting ++ octets }

-- ---- calls

-- a refusal that isn't for want of memory
abbrev pub IsRefusal : Option CallRefusal → Type 0
IsRefusal None = Unit {0}
IsRefusal (Some refusal) = is_memory (Err refusal) ≡ false

-- The call got the answer that can be given, and its steps were made.
pub record Answered (can : Reply) (old new : EndView) (call : Call) (reply : Reply) : Type 0 where
  pub reply_is : reply ≡ can
  pub steps : Stepped old new (called call reply ∷ map sent (due_of (base old) (body old) call reply))

-- what waits is as it was
pub record Keeps (old new : EndView) : Type 0 where
  pub tables : new.tables ≡ old.tables
  pub config : new.config ≡ old.config
  pub waiting : new.waiting ≡ old.waiting

abbrev pub AnswersCall : Reply → EndView → EndView → Call → Reply → Type 0
AnswersCall can old new call reply = MatchBool (is_memory reply) (Keeps old new) (Answered can old new call reply)

-- An allocation was refused: the end is dead, and gives out no more than was due before.
pub record Died (old new : EndView) : Type 0 where
  pub tables : new.tables ≡ old.tables
  pub config : new.config ≡ old.config
  pub phase : new.phase ≡ Dead
  pub waiting : new.waiting ≡ old.waiting
