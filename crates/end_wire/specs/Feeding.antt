-- What an end of bare mode does with octets that come, however they are cut.
use Rattle.std.specs.Prelude.{◌≡◌, ℕ, List, [], ◌∷◌, ◌++◌, map, true, false}
use Rattle.osi_base.specs.declared.layer_words.Layer.TheVariants.{Rose}
use Rattle.dialogue.specs.declared.indication.Indication.{Indication}
use Rattle.end_rules.specs.Base.{Base}
use Rattle.end_rules.specs.Messages.{Message, ValueContent}
use Rattle.end_rules.specs.State.{Body, passes_over}
use Rattle.end_rules.specs.Faults.{fault_at, shown_at_fault}
use Rattle.end_rules.specs.Hearing.{syntax_of}
use Rattle.osi_base.specs.SetPlaces.{pair_of}
use Rattle.end_rules.specs.Reacting.{react, Takes}
use Rattle.end_rules.specs.History.{Step, fed, took, answered, fault, feed_end}
use Rattle.end_wire.specs.Values.{IsContent}
use Rattle.end_wire.specs.Bare.{Short, Whole, Faulty, first_at, front, bare_message}
use Rattle.end_wire.specs.Line.{End, after, after_all}

-- the steps of a taking: the message, and the answers to it
abbrev pub taking : Message → List Message → List Step
taking message answers = took message ∷ map (answered message) answers

-- From the end, reading what came makes these steps, and shows these indications.
pub data Reads (base : Base) : End → List Step → List Indication → Type 0 where
  -- An end that is over passes over what comes.
  passes : {end : End} → passes_over end.body.link.phase ≡ true → Reads base end (feed_end ∷ []) []
  -- Less than a message waits for more.
  waits : {end : End} → passes_over end.body.link.phase ≡ false → first_at end.line.rest ≡ Short → Reads base end (feed_end ∷ []) []
  -- A whole message is taken, and what it brings is answered at once.
  takes : {end : End} {steps : List Step} {shown : List Indication} (used : ℕ) (content : ValueContent) (body : Body) (answers : List Message) (told : List Indication)
      → passes_over end.body.link.phase ≡ false → first_at end.line.rest ≡ Whole used
      → IsContent base.tables (syntax_of (pair_of end.body.sets.held 0)) (front (Whole used) end.line.rest) content
      → react base end.body (bare_message end.body.sets.held content) ≡ Takes body answers told
      → Reads base (after_all base end (taking (bare_message end.body.sets.held content) answers)) steps shown
      → Reads base end (taking (bare_message end.body.sets.held content) answers ++ steps) (told ++ shown)
  -- What is no value, however it goes on, ends the association.
  fails : {end : End} (place : ℕ) → passes_over end.body.link.phase ≡ false → first_at end.line.rest ≡ Faulty place
      → Reads base end (fault Rose place 0 ∷ feed_end ∷ []) (shown_at_fault end.body (fault_at Rose place 0))

-- Feeding these octets makes these steps, and shows these indications.
pub record Feeds (base : Base) (end : End) (octets : List ℕ) (steps : List Step) (shown : List Indication) : Type 0 where
  pub reading : List Step
  pub all : steps ≡ fed octets ∷ reading
  pub reads : Reads base (after base end (fed octets)) reading shown
