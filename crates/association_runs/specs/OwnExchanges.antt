-- What each end handed in, what it invoked and what it was told, read off the moments; the last two since its association began
-- (X.880 8, 9).
use Rattle.std.specs.Prelude.{ℤ, List, [], ◌∷◌, ◌++◌, if◌then◌else◌, Option, Ok}
use Rattle.osi_base.specs.declared.layer_words.Side.{Side}
use Rattle.stub_tables.specs.declared.apdu.Apdu.{Apdu}
use Rattle.dialogue.specs.declared.call.Call.{Call}
use Rattle.dialogue.specs.declared.indication.Indication.{Indication}
use Rattle.end_model.specs.end_rules.Base.{Base}
use Rattle.end_model.specs.end_rules.Messages.{Message}
use Rattle.end_model.specs.end_rules.State.{Body}
use Rattle.end_model.specs.end_rules.Reacting.{react}
use Rattle.end_model.specs.end_rules.History.{Step, called, took}
use Rattle.end_model.specs.end_rules.World.{World, Ends, base_at, body_at, is_side}
use Rattle.end_model.specs.Acting.{apdus_of}
use Rattle.outcome_laws.specs.Exchanges.{Asked, asked_by, rejects_in, still_after}
use Rattle.run_laws.specs.Showing.{shown_in}

-- the APDUs that an end wrote, handed in by a call or rejects, the newest first; its own invocations, the newest first; what it was
-- told, the oldest first
pub record Own : Type 0 where
  pub wrote : List Apdu
  pub asked : List Asked
  pub shown : List Indication

abbrev pub nothing_yet : Own
nothing_yet = record { wrote = []; asked = []; shown = [] }

abbrev pub own_taking : Base → Body → Message → List Indication → Own → Own
own_taking base body message shown own =
    record {
      wrote = rejects_in shown ++ own.wrote;
      asked = still_after base body message own.asked;
      shown = still_after base body message own.shown ++ shown;
    }

abbrev pub own_calling : Base → Body → Call → Option ℤ → Own → Own
own_calling base body call answer own =
    record { wrote = apdus_of base body call answer ++ own.wrote; asked = asked_by call answer ++ own.asked; shown = own.shown }

abbrev pub own_after : Base → Body → Step → Own → Own
own_after base body (called call (Ok answer)) own = own_calling base body call answer own
own_after base body (took message) own = own_taking base body message (shown_in (react base body message)) own
own_after base body _ own = own

abbrev pub own_at : Ends → Side → World → Own
own_at ends side [] = nothing_yet
own_at ends side (m ∷ w) = if is_side side m.side then own_after (base_at ends side) (body_at ends side w) m.step (own_at ends side w) else own_at ends side w
