-- Nothing whole waits: an end that isn't over took each message whose last octet was given to it, and no other.
use Rattle.std.specs.Prelude.{◌≡◌, ℕ, suc, ◌+◌, ◌-◌, nat_le, List, [], ◌∷◌, ◌++◌, map, length, false, if◌then◌else◌, Some}
use Rattle.osi_base.specs.declared.layer_words.Side.{Side}
use Rattle.dialogue.specs.Sides.{other}
use Rattle.end_model.specs.end_rules.State.{passes_over}
use Rattle.end_model.specs.end_rules.History.{Step, gave, broke}
use Rattle.end_model.specs.end_rules.World.{World, Ends, base_at, is_side}
use Rattle.association_line.specs.association_wire.Written.{written}
use Rattle.association_line.specs.association_reading.Front.{Intake, Short, first_in}
use Rattle.run_laws.specs.Passing.{sent_in, on_connection, readings}
use Rattle.association_runs.specs.Worlds.{end_at}

-- ---- on this connection: what was written of each message of an end, the oldest first, and how many octets it gave out

abbrev pub texts : Ends → Side → World → List (List ℕ)
texts ends side [] = []
texts ends side (m ∷ w) =
    on_connection m.step
    (if is_side side m.side
    then texts ends side w ++ map (written (base_at ends side).tables (end_at ends side w).line.size) (sent_in m.step)
    else texts ends side w)

abbrev pub given_in : Step → ℕ
given_in (gave n) = n
given_in _ = 0

abbrev pub or_none : Step → ℕ → ℕ
or_none broke n = 0
or_none _ n = n

abbrev pub given : Side → World → ℕ
given side [] = 0
given side (m ∷ w) = or_none m.step (if is_side side m.side then given side w + given_in m.step else given side w)

-- of texts one behind the other, how many have their last octet among the first so many
abbrev pub whole_within : ℕ → List (List ℕ) → ℕ
whole_within octets [] = 0
whole_within octets (text ∷ more) = if nat_le (length text) octets then suc (whole_within (octets - length text) more) else 0

abbrev pub TakenWhenWhole : Ends → World → Type 0
TakenWhenWhole ends w =
    (side : Side) → passes_over (end_at ends (other side) w).body.link.phase ≡ false → length (readings (other side) w) ≡ whole_within (given side w) (texts ends side w)

-- so that less than a message is left
abbrev pub NothingWholeWaits : Ends → World → Type 0
NothingWholeWaits ends w =
    (side : Side) (intake : Intake) → passes_over (end_at ends side w).body.link.phase ≡ false → (end_at ends side w).line.came ≡ Some intake → first_in intake ≡ Short
