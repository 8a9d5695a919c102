-- What a feed does.
use Rattle.std.specs.Prelude.{◌≡◌, ℕ, ◌<◌, ◌≤◌, List, [], ◌++◌, length, drop, Bool, true, false}
use Rattle.osi_base.specs.Limits.{most_octets}
use Rattle.dialogue.specs.declared.config.Phase.TheVariants.{Dead}
use Rattle.dialogue.specs.declared.indication.Indication.{Indication}
use Rattle.osi_base.specs.declared.syntax.Syntax.TheVariants.{Ber}
use Rattle.end_rules.specs.Base.{Base}
use Rattle.end_rules.specs.State.{Body, bare_set, passes_over}
use Rattle.osi_base.specs.SetPlaces.{pair_of}
use Rattle.end_rules.specs.Hearing.{syntax_of}
use Rattle.end_rules.specs.Messages.{Message, ValueContent}
use Rattle.end_rules.specs.Reacting.{react, Takes}
use Rattle.end_rules.specs.History.{Step, History, fed}
use Rattle.end_wire.specs.Values.{IsContent}
use Rattle.end_wire.specs.Bare.{Whole, first_at, front, bare_message}
use Rattle.end_wire.specs.Line.{End, after, after_all, going_on}
use Rattle.end_wire.specs.Feeding.{Reads, Feeds, taking}
use Rattle.bare_end.specs.View.{EndView, base, body, seen, Stepped, StandsFor}

-- one message was taken
pub record TookOne (old new : EndView) (before after : List Indication) : Type 0 where
  pub used : ℕ
  pub content : ValueContent
  pub left : Body
  pub answers : List Message
  pub told : List Indication
  pub first : first_at old.rest ≡ Whole used
  pub is : IsContent old.tables Ber (front (Whole used) old.rest) content
  pub reacts : react (base old) (body old) (bare_message (bare_set old.tables) content) ≡ Takes left answers told
  pub steps : Stepped old new (taking (bare_message (bare_set old.tables) content) answers)
  pub phase_stays : new.phase ≡ old.phase
  pub some : 0 < used
  pub within : used ≤ length old.rest
  pub rest_is : new.rest ≡ drop used old.rest
  pub due : List ℕ
  pub waiting : new.waiting ≡ old.waiting ++ due
  pub shown_is : after ≡ before ++ told

-- what came was read to its end
pub record ReadAll (old new : EndView) (before after : List Indication) : Type 0 where
  pub steps : List Step
  pub told : List Indication
  pub reads : Reads (base old) (seen old) steps told
  pub made : Stepped old new steps
  pub shown_is : after ≡ before ++ told
  pub few : length new.rest ≤ most_octets

-- a message was taken and more may follow, or all was read
abbrev pub ReadOneOrAll : Bool → EndView → EndView → List Indication → List Indication → Type 0
ReadOneOrAll true old new before after = TookOne old new before after
ReadOneOrAll false old new before after = ReadAll old new before after

-- the octets were fed: the indications are those that are shown, and the steps were made
pub record Fed (old new : EndView) (octets : List ℕ) (shown : List Indication) : Type 0 where
  pub steps : List Step
  pub feeds : Feeds (base old) (seen old) octets steps shown
  pub made : Stepped old new steps
  -- of an APDU that isn't whole it keeps at most 262,144 octets
  pub few : length new.rest ≤ most_octets
  -- where it stood for a history, it stands for it with these steps
  pub stands : (h : History) → StandsFor old h → StandsFor new (going_on h steps)

-- From the end, reading what came begins with these steps, and shows these indications: so many whole messages are taken,
-- each with what is answered to it.
pub data Begins (base : Base) : End → List Step → List Indication → Type 0 where
  nothing_taken : {end : End} → Begins base end [] []
  one_taken : {end : End} {steps : List Step} {shown : List Indication} (used : ℕ) (content : ValueContent) (body : Body) (answers : List Message) (told : List Indication)
      → passes_over end.body.link.phase ≡ false → first_at end.line.rest ≡ Whole used
      → IsContent base.tables (syntax_of (pair_of end.body.sets.held 0)) (front (Whole used) end.line.rest) content
      → react base end.body (bare_message end.body.sets.held content) ≡ Takes body answers told
      → Begins base (after_all base end (taking (bare_message end.body.sets.held content) answers)) steps shown
      → Begins base end (taking (bare_message end.body.sets.held content) answers ++ steps) (told ++ shown)

-- Reading began from this end. What waits is what waited and the answers to the messages that were taken, each whole: a
-- beginning of what was due.
pub record KeepsDue (old new : EndView) (from : End) : Type 0 where
  pub tables : new.tables ≡ old.tables
  pub config : new.config ≡ old.config
  pub more : List ℕ
  pub waiting : new.waiting ≡ old.waiting ++ more
  pub steps : List Step
  pub told : List Indication
  pub begins : Begins (base old) from steps told
  pub due : new.waiting ≡ (after_all (base old) from steps).line.waiting

-- An allocation was refused as these octets were fed: the end is dead.
pub record DiedFed (old new : EndView) (octets : List ℕ) : Type 0 where
  pub kept : KeepsDue old new (after (base old) (seen old) (fed octets))
  pub phase : new.phase ≡ Dead
