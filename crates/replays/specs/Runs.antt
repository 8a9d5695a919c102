-- What a run of a schedule comes to, in each mode.
use Rattle.std.specs.Prelude.{◌≡◌, List, []}
use Rattle.osi_base.specs.declared.layer_words.Side.TheVariants.{A, B}
use Rattle.stub_tables.specs.declared.tables.Tables.{Tables}
use Rattle.stub_tables.specs.Readable.{IsReadable}
use Rattle.dialogue.specs.declared.config.Mode.{Mode}
use Rattle.dialogue.specs.declared.config.Mode.TheVariants.{Bare, Direct, Reliable}
use Rattle.dialogue.specs.declared.bare_setup.BareSetup.{BareSetup}
use Rattle.dialogue.specs.declared.event.Event.{Event}
use Rattle.dialogue.specs.declared.event.Transcript.{Transcript}
use Rattle.end_rules.specs.World.{World}
use Rattle.bare_duo.specs.Worlds as bare
use Rattle.bare_duo.specs.bare_end.View as bare_view
use Rattle.bare_duo.specs.Laws.{KeepsLaws}
use Rattle.bare_duo.specs.Ran.{RunsFromStart}
use Rattle.codec_runs.specs.said_spellings.Laws.{IsEndIn}
use Rattle.association_duo.specs.association_runs.Worlds.{ends_of, end_at, Runs}
use Rattle.association_duo.specs.association_runs.Laws.{AreEvents, RunKeepsLaws}
use Rattle.association_duo.specs.association_end.View.{EndView}
use Rattle.association_duo.specs.Ran.{RunsTold}
use Rattle.schedule_text.specs.Meeting.{Meet}
use Rattle.schedule_text.specs.Schedules.{Said}

-- What a schedule sets up, as it is read: an initiator and a responder of one mode with configurations that no end refuses, and
-- calls that are calls as their types have them.
pub record IsSetUp (s : Said) : Type 0 where
  pub meet : Meet s.a s.b
  pub of_a : IsEndIn s.a.mode s.a
  pub of_b : IsEndIn s.a.mode s.b
  pub events : AreEvents s.events

-- ---- bare mode

-- Two ends that had these views ran events, and this transcript tells it.
pub record BareRanOver (all : List Event) (a b : bare_view.EndView) (transcript : Transcript) : Type 0 where
  pub a_after : bare_view.EndView
  pub b_after : bare_view.EndView
  pub runs : RunsFromStart all transcript a b a_after b_after

-- Two ends of bare mode with the configurations of the schedule's setup, which had made no step, ran its events, and
-- this transcript tells it.
pub record RanBare (tables : Tables) (schedule : Said) (transcript : Transcript) : Type 0 where
  pub setup : BareSetup
  pub a_is : setup.a ≡ schedule.a
  pub b_is : setup.b ≡ schedule.b
  -- the moments of both ends at the end of the run
  pub world : World
  pub runs : bare.Runs (bare.ends_of setup tables) [] schedule.events transcript.entries world
  -- what every table of a module keeps
  pub readable : IsReadable tables
  -- Each message taken is the one sent in its place, read under its pair at the sending; no invocation has
  -- two outcomes, and each is allowed to it; nothing whole waits; no end aborts of itself, and nothing is rejected;
  -- and each carry shows what comes whole in it, and nothing else.
  pub laws : KeepsLaws tables (bare.ends_of setup tables) transcript.entries world
  pub mode : transcript.mode ≡ schedule.a.mode
  pub a_phase : transcript.a ≡ (bare.end_at (bare.ends_of setup tables) A world).body.link.phase
  pub b_phase : transcript.b ≡ (bare.end_at (bare.ends_of setup tables) B world).body.link.phase

-- ---- direct and reliable mode

-- Two ends that had these views ran events, and this transcript tells it.
pub record RanOver (all : List Event) (a b : EndView) (transcript : Transcript) : Type 0 where
  pub a_after : EndView
  pub b_after : EndView
  pub runs : RunsTold all transcript a b a_after b_after

-- Two ends of an association with the schedule's configurations, which had made no step, ran its events, and this transcript tells
-- it.
pub record RanAssociated (tables : Tables) (schedule : Said) (transcript : Transcript) : Type 0 where
  -- the moments of both ends at the end of the run
  pub world : World
  pub runs : Runs (ends_of tables schedule.a schedule.b) [] schedule.events transcript.entries world
  -- Each message taken is the one that the other end sent in its place, and its values, but those of openings, their answers and
  -- aborts, are read under the pair that the shared set gave their identifier at the sending;
  -- each invocation gets at most one outcome, allowed to it; each reliable transfer arrives whole, at most once; an end that isn't over
  -- took what came whole, and no more; no end aborts of itself.
  pub laws : RunKeepsLaws tables (ends_of tables schedule.a schedule.b) transcript.entries world
  pub mode : transcript.mode ≡ schedule.a.mode
  pub a_phase : transcript.a ≡ (end_at (ends_of tables schedule.a schedule.b) A world).body.link.phase
  pub b_phase : transcript.b ≡ (end_at (ends_of tables schedule.a schedule.b) B world).body.link.phase

-- ---- every mode

abbrev pub RanIn : Mode → Tables → Said → Transcript → Type 0
RanIn Bare tables schedule transcript = RanBare tables schedule transcript
RanIn Direct tables schedule transcript = RanAssociated tables schedule transcript
RanIn Reliable tables schedule transcript = RanAssociated tables schedule transcript

-- Two ends with the schedule's configurations, which had made no step, ran its events, and this transcript tells it.
abbrev pub RanSchedule : Tables → Said → Transcript → Type 0
RanSchedule tables schedule transcript = RanIn schedule.a.mode tables schedule transcript

-- A schedule has one transcript.
abbrev pub OneTranscript : Type 0
OneTranscript = (tables : Tables) (schedule : Said) (first second : Transcript) → RanSchedule tables schedule first → RanSchedule tables schedule second → first ≡ second
