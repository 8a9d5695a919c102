-- A schedule that was read has ends.
use Rattle.std.proofs.Common.{◌≡◌, ℕ, None, List, Ok, subst}
use Rattle.stub_tables.specs.declared.tables.Tables.{Tables}
use Rattle.stub_tables.specs.Readable.{IsReadable}
use Rattle.dialogue.specs.declared.config.Mode.{Mode}
use Rattle.schedule_text.specs.end_config.Refusing.{config_refusal}
use Rattle.said_worlds.specs.said_spellings.Laws.{IsEndIn}
use Rattle.association_runs.specs.Laws.{AreEvents}
use Rattle.schedule_text.specs.declared.setting.Modes.{Modes}
use Rattle.schedule_text.specs.Schedules.{Said, schedule_of}
use Rattle.schedule_text.specs.Laws.{IsRun, SchedulesAreRun}
use Rattle.schedule_ends.specs.Ends.{HasEnds}

from_run : (modes : Modes) (tables : Tables) (s : Said) → IsRun modes s → IsReadable tables → (config_refusal s.a ≡ None → IsEndIn s.a.mode s.a)
    → (config_refusal s.b ≡ None → IsEndIn s.b.mode s.b) → AreEvents s.events → HasEnds modes tables s
from_run modes tables s run readable a b events =
    let meet = run.meet in
    let of_a = a meet.initiator_accepted in
    let of_b : IsEndIn s.a.mode s.b = subst (λ (mode : Mode). IsEndIn mode s.b) meet.mode (b meet.responder_accepted) in
    record {
      runs = run.runs;
      of_a = of_a;
      initiator = meet.initiator;
      of_b = of_b;
      responder = meet.responder;
      events = events;
      readable = readable;
      ends = λ no_any. record {
        module_s = record { readable = readable; typed = no_any };
        of_a = of_a;
        initiator = meet.initiator;
        of_b = of_b;
      };
    }

pub has_ends : (tables : Tables) (s : Said) → SchedulesAreRun → IsReadable tables → (config_refusal s.a ≡ None → IsEndIn s.a.mode s.a)
    → (config_refusal s.b ≡ None → IsEndIn s.b.mode s.b) → AreEvents s.events
    → (modes : Modes) (text : List ℕ) → schedule_of modes tables text ≡ Ok s → HasEnds modes tables s
has_ends tables s law readable a b events modes text e = from_run modes tables s (law modes tables text s e) readable a b events
