-- What a contract sees of the parts of an end. No public clause cites this module.
use Rattle.std.specs.Prelude.{ℕ, List, Option, Some, None}
use Rattle.association_line.specs.association_reading.Front.{Intake}
use Rattle.association_reacting.specs.association_state.declared.basis.Basis.{Basis}
use Rattle.association_reacting.specs.association_state.declared.body.Body.{Body}
use Rattle.association_reacting.specs.association_state.Seen.{seen}
use Rattle.association_end.specs.View.{EndView}

-- what came, where it is looked at
abbrev pub came_in : Option (Option Intake) → Option Intake
came_in None = None
came_in (Some intake) = intake

abbrev pub view_of : Basis → Body → List ℕ → Option (Option Intake) → ℕ → EndView
view_of basis body waiting intake size =
    record {
      tables = basis.tables.now;
      config = basis.config;
      end = record {
        body = seen body;
        line = record { waiting = waiting; came = came_in intake; size = size };
      };
    }
