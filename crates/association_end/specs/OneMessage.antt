-- What an end does with one message: the reaction, what is sent and shown for it, and what is kept. No public clause cites this module.
use Rattle.std.specs.Prelude.{◌≡◌, ℕ, List, [], ◌∷◌, ◌++◌, Bool, true, false, Option, Some, None}
use Rattle.stub_tables.specs.declared.tables.Tables.{Tables}
use Rattle.dialogue.specs.declared.indication.Indication.{Indication}
use Rattle.end_rules.specs.Base as base
use Rattle.end_rules.specs.Base.{Base}
use Rattle.end_rules.specs.Messages as meant
use Rattle.end_rules.specs.State.{Body, passes_over}
use Rattle.end_rules.specs.Reacting as rules
use Rattle.association_writing.specs.association_wire.Written.{written}
use Rattle.association_writing.specs.Room.{MayStand}
use Rattle.association_line.specs.association_reading.Front.{Front, OfTransport, Intake, first_in, behind_first}
use Rattle.association_line.specs.association_reading.Reacting.{react_to}
use Rattle.association_line.specs.Line.{Line, first_size, size_of_unit}
use Rattle.association_meaning.specs.association_intake.declared.front.Front as fronts
use Rattle.association_meaning.specs.association_intake.Seen.{seen_front}
use Rattle.association_reacting.specs.association_answers.declared.brought.Reaction.{Reaction}
use Rattle.association_reacting.specs.association_answers.declared.brought.Reaction.TheVariants.{Passes, Takes, Fails}
use Rattle.association_reacting.specs.association_answers.BroughtAs.{seen_messages}
use Rattle.association_reacting.specs.SeenReaction.{ReactsAs}
use Rattle.association_end.specs.View.{EndView}
use Rattle.association_end.specs.View as view

-- ---- octets

-- these messages one behind the other
abbrev pub all_written : Tables → ℕ → List meant.Message → List ℕ
all_written tables size [] = []
all_written tables size (message ∷ messages) = written tables size message ++ all_written tables size messages

abbrev pub AllMayStand : List meant.Message → Type 0
AllMayStand [] = Unit {0}
AllMayStand (message ∷ messages) = MayStand message × AllMayStand messages

abbrev pub with_body : Body → EndView → EndView
with_body body e = record e { end = record e.end { body = body } }

abbrev pub with_line : Line → EndView → EndView
with_line line e = record e { end = record e.end { line = line } }

abbrev pub with_came : Option Intake → EndView → EndView
with_came came e = with_line (record e.end.line { came = came }) e

-- these messages wait behind the others
abbrev pub sending : List meant.Message → EndView → EndView
sending messages e = with_line (record e.end.line { waiting = e.end.line.waiting ++ all_written e.tables e.end.line.size messages }) e

-- ---- what stands first

-- the size that a message names, where it is taken
abbrev pub size_of_front : ℕ → ℕ → Front → ℕ
size_of_front first before (OfTransport unit) = size_of_unit first before unit
size_of_front first before _ = before

-- what stands first was taken off
pub record TookFirst (old new : EndView) (front : fronts.Front) : Type 0 where
  pub intake : Intake
  pub came : old.end.line.came ≡ Some intake
  pub first : seen_front front ≡ first_in intake
  pub new_is : new ≡ with_came (Some (behind_first intake)) old

-- ---- reactions

-- the reaction to what stands first
abbrev pub ReactsTo : Base → Body → Body → Front → Reaction → Type 0
ReactsTo b old new front reaction = (rule : rules.Reaction) × (react_to b old front ≡ Some rule) × ReactsAs rule old new reaction

pub record ReactedTo (old new : EndView) (front : Front) (reaction : Reaction) : Type 0 where
  pub rule : rules.Reaction
  pub is : react_to (view.base old) old.end.body front ≡ Some rule
  pub reacts : ReactsAs rule old.end.body new.end.body reaction
  pub new_is : new ≡ with_body new.end.body old

-- what is sent for it
abbrev pub sent_for : Reaction → List meant.Message
sent_for Passes = []
sent_for (Takes taken) = seen_messages taken.answers
sent_for (Fails came aborts shown) = seen_messages aborts

-- after a fault the end is over
abbrev pub IsOverFor : Reaction → EndView → Type 0
IsOverFor Passes e = Unit {0}
IsOverFor (Takes taken) e = Unit {0}
IsOverFor (Fails came aborts shown) e = passes_over e.end.body.link.phase ≡ true

-- ---- what is sent, shown and kept

pub record Settles (old new goal : EndView) (before after told : List Indication) : Type 0 where
  pub new_is : new ≡ goal
  pub shown_is : after ≡ before ++ told

-- Answers to a message that is taken go in the size that it names; after a fault nothing that comes is looked at any more.
abbrev pub SettlesFor : Reaction → ℕ → EndView → EndView → List Indication → List Indication → Bool → Type 0
SettlesFor Passes size old new before after more = (more ≡ true) × Settles old new old before after []
SettlesFor (Takes taken) size old new before after more =
    (more ≡ true) × Settles old new (sending (seen_messages taken.answers) (with_line (record old.end.line { size = size }) old)) before after taken.shown
SettlesFor (Fails came aborts shown) size old new before after more =
    (more ≡ false) × Settles old new (with_came None (sending (seen_messages aborts) old)) before after shown

-- what was taken off was reacted to
pub data ReactionDone (old new : EndView) (front : Front) (before after : List Indication) : Bool → Type 0 where
  passes : react_to (view.base old) old.end.body front ≡ Some rules.Passes → new ≡ old → after ≡ before → ReactionDone old new front before after true
  takes : (left : Body) (answers : List meant.Message) (told : List Indication) → react_to (view.base old) old.end.body front ≡ Some (rules.Takes left answers told)
      → new ≡ sending answers (with_line (record old.end.line { size = size_of_front (first_size old.config.initiator) old.end.line.size front }) (with_body left old))
      → after ≡ before ++ told → ReactionDone old new front before after true
  fails : (fault : base.Fault) (left : Body) (aborts : List meant.Message) (told : List Indication) → react_to (view.base old) old.end.body front ≡ Some (rules.Fails fault left aborts told)
      → new ≡ with_came None (sending aborts (with_body left old)) → after ≡ before ++ told → ReactionDone old new front before after false
