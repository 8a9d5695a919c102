-- Runs of two ends in bare mode: from a world, a schedule makes entries and leads to another world. What an end does is
-- what its own rules say of its own history; of the other end it sees octets alone.
use Rattle.std.specs.Prelude.{ℕ, List, [], ◌∷◌, length, Option}
use Rattle.osi_base.specs.declared.layer_words.Side.{Side}
use Rattle.osi_base.specs.declared.layer_words.Side.TheVariants.{A, B}
use Rattle.dialogue.specs.Sides.{other}
use Rattle.dialogue.specs.Carries.{first_octets}
use Rattle.stub_tables.specs.declared.tables.Tables.{Tables}
use Rattle.dialogue.specs.declared.config.Config.{Config}
use Rattle.dialogue.specs.declared.bare_setup.BareSetup.{BareSetup}
use Rattle.dialogue.specs.declared.event.Event.{Event}
use Rattle.dialogue.specs.declared.event.Event.TheVariants as events
use Rattle.dialogue.specs.declared.event.Entry.{Entry}
use Rattle.dialogue.specs.declared.event.Entry.TheVariants as entries
use Rattle.dialogue.specs.declared.indication.Indication.{Indication}
use Rattle.end_rules.specs.Calling.{can_call}
use Rattle.end_rules.specs.History.{Step, gave, broke, call_steps}
use Rattle.end_rules.specs.World.{World, Ends, base_at, history_of}
use Rattle.bare_end.specs.end_wire.Bare.{bare_base}
use Rattle.bare_end.specs.end_wire.Line.{End, end_of}
use Rattle.bare_end.specs.end_wire.Feeding.{Feeds}

abbrev pub config_at : BareSetup → Side → Config
config_at setup A = setup.a
config_at setup B = setup.b

-- two ends of bare mode with these tables and the configurations of a `BareSetup`
abbrev pub ends_of : BareSetup → Tables → Ends
ends_of setup tables = record { a = bare_base tables setup.a; b = bare_base tables setup.b }

-- what the moments say of one end
abbrev pub end_at : Ends → Side → World → End
end_at ends side w = end_of (base_at ends side) (history_of side w)

-- the world with these steps of one end, oldest first
abbrev pub stepping : Side → World → List Step → World
stepping side w [] = w
stepping side w (x ∷ xs) = stepping side (record { side = side; step = x } ∷ w) xs

-- From the world, these events make these entries, and lead to that world.
pub data Runs (ends : Ends) : World → List Event → List Entry → World → Type 0 where
  rests : {w : World} → Runs ends w [] [] w
  -- A call is answered, and its messages are sent.
  calls : {w v : World} {more : List Event} {told : List Entry} (side : Side) (call : _)
      → Runs ends (stepping side w (call_steps (base_at ends side) (end_at ends side w).body call)) more told v
      → Runs ends w (events.Call side call ∷ more) (entries.Call side call (can_call (base_at ends side) (end_at ends side w).body call) ∷ told) v
  -- The first octets that wait at one side are given out and fed to the other.
  carries : {w v : World} {more : List Event} {told : List Entry} (side : Side) (most : Option ℕ) (steps : List Step) (shown : List Indication)
      → Feeds (base_at ends (other side)) (end_at ends (other side) w) (first_octets most (end_at ends side w).line.waiting) steps shown
      → Runs ends (stepping (other side) (stepping side w (gave (length (first_octets most (end_at ends side w).line.waiting)) ∷ [])) steps) more told v
      → Runs ends w (events.Carry side most ∷ more) (entries.Carry side most (record { octets = first_octets most (end_at ends side w).line.waiting; shown = shown }) ∷ told) v
  -- The connection breaks at both ends.
  breaks : {w v : World} {more : List Event} {told : List Entry}
      → Runs ends (stepping B (stepping A w (broke ∷ [])) (broke ∷ [])) more told v
      → Runs ends w (events.Break ∷ more) (entries.Break ∷ told) v
