-- The two ends and the events of a schedule that was read.
use Rattle.std.specs.Prelude.{◌≡◌, true, false}
use Rattle.stub_tables.specs.declared.tables.Tables.{Tables}
use Rattle.stub_tables.specs.Readable.{IsReadable}
use Rattle.packed_codec.specs.Laws.{HasNoAny}
use Rattle.said_worlds.specs.said_spellings.Laws.{IsEndIn}
use Rattle.said_worlds.specs.Laws.{AreEndsIn}
use Rattle.association_runs.specs.Laws.{AreEvents}
use Rattle.schedule_text.specs.declared.setting.Modes.{Modes}
use Rattle.schedule_text.specs.Settings.{runs}
use Rattle.schedule_text.specs.Schedules.{Said}

-- The ends run its mode, and are an initiator and a responder of it with configurations that no end refuses; and each call is a call as its
-- type has it.
pub record HasEnds (modes : Modes) (tables : Tables) (s : Said) : Type 0 where
  pub runs : runs modes s.a.mode ≡ true
  pub of_a : IsEndIn s.a.mode s.a
  pub initiator : s.a.initiator ≡ true
  pub of_b : IsEndIn s.a.mode s.b
  pub responder : s.b.initiator ≡ false
  pub events : AreEvents s.events
  -- what every table of a module keeps
  pub readable : IsReadable tables
  -- what is presumed of two ends of one mode, where no type of the module is any type
  pub ends : HasNoAny tables.types → AreEndsIn s.a.mode tables s.a s.b
