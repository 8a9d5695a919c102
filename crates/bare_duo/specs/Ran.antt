-- What a run of two ends comes to.
use Rattle.std.specs.Prelude.{◌≡◌, List, []}
use Rattle.osi_base.specs.declared.layer_words.Side.{Side}
use Rattle.osi_base.specs.declared.layer_words.Side.TheVariants.{A, B}
use Rattle.stub_tables.specs.declared.tables.Tables.{Tables}
use Rattle.stub_tables.specs.Readable.{IsReadable}
use Rattle.dialogue.specs.declared.bare_setup.BareSetup.{BareSetup}
use Rattle.dialogue.specs.declared.event.Event.{Event}
use Rattle.dialogue.specs.declared.event.Entry.{Entry}
use Rattle.dialogue.specs.declared.event.Transcript.{Transcript}
use Rattle.end_rules.specs.World.{World, history_of}
use Rattle.bare_end.specs.View.{EndView, StandsFor}
use Rattle.bare_duo.specs.Worlds.{config_at, ends_of, end_at, Runs}
use Rattle.bare_duo.specs.Laws.{KeepsLaws}

-- The end of this side has these tables and its configuration of the `BareSetup`, and stands for its own history.
pub record StandsAt (setup : BareSetup) (tables : Tables) (side : Side) (w : World) (e : EndView) : Type 0 where
  pub tables_are : e.tables ≡ tables
  pub config_is : e.config ≡ config_at setup side
  pub stands : StandsFor e (history_of side w)

pub record Stand (setup : BareSetup) (tables : Tables) (w : World) (a b : EndView) : Type 0 where
  pub a_stands : StandsAt setup tables A w a
  pub b_stands : StandsAt setup tables B w b

-- From the world, the events made these entries, and the ends stand for the world that they lead to.
pub record Ran (setup : BareSetup) (tables : Tables) (w : World) (all : List Event) (told : List Entry) (a b : EndView) : Type 0 where
  pub world : World
  pub runs : Runs (ends_of setup tables) w all told world
  pub stand : Stand setup tables world a b

-- The transcript tells the run.
pub record Told (setup : BareSetup) (tables : Tables) (w : World) (all : List Event) (transcript : Transcript) (a b : EndView) : Type 0 where
  pub ran : Ran setup tables w all transcript.entries a b
  pub mode : transcript.mode ≡ setup.a.mode
  pub a_phase : transcript.a ≡ (end_at (ends_of setup tables) A ran.world).body.link.phase
  pub b_phase : transcript.b ≡ (end_at (ends_of setup tables) B ran.world).body.link.phase

-- From every world for which the ends stand, also where they made steps before.
abbrev pub RunsTold : List Event → Transcript → EndView → EndView → EndView → EndView → Type 0
RunsTold all transcript a b a_after b_after = (setup : BareSetup) (tables : Tables) (w : World) → Stand setup tables w a b → Told setup tables w all transcript a_after b_after

-- The run of two ends that had made no step keeps the laws, and the transcript tells it. The tables are readable, as
-- all tables are.
pub record RanFromStart (setup : BareSetup) (tables : Tables) (all : List Event) (transcript : Transcript) (a b : EndView) : Type 0 where
  pub readable : IsReadable tables
  pub told : Told setup tables [] all transcript a b
  pub laws : KeepsLaws tables (ends_of setup tables) transcript.entries told.ran.world

-- From every `BareSetup` for which the ends stand and had made no step.
abbrev pub RunsFromStart : List Event → Transcript → EndView → EndView → EndView → EndView → Type 0
RunsFromStart all transcript a b a_after b_after = (setup : BareSetup) → Stand setup a.tables [] a b → RanFromStart setup a.tables all transcript a_after b_after
