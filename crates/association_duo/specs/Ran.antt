-- What a run of two ends comes to.
use Rattle.std.specs.Prelude.{◌≡◌, List}
use Rattle.osi_base.specs.declared.layer_words.Side.{Side}
use Rattle.osi_base.specs.declared.layer_words.Side.TheVariants.{A, B}
use Rattle.dialogue.specs.declared.event.Event.{Event}
use Rattle.dialogue.specs.declared.event.Entry.{Entry}
use Rattle.dialogue.specs.declared.event.Transcript.{Transcript}
use Rattle.end_rules.specs.World.{World, Ends, base_at, history_of}
use Rattle.association_runs.specs.Worlds.{end_at, Runs}
use Rattle.association_end.specs.View.{EndView, base, StandsFor}

-- The end of this side stands on what these ends stand on, and for its own history.
pub record StandsAt (ends : Ends) (side : Side) (w : World) (e : EndView) : Type 0 where
  pub base_is : base e ≡ base_at ends side
  pub stands : StandsFor e (history_of side w)

pub record Stand (ends : Ends) (w : World) (a b : EndView) : Type 0 where
  pub a_stands : StandsAt ends A w a
  pub b_stands : StandsAt ends B w b

-- From the world, the events made these entries, and the ends stand for the world that they lead to.
pub record Ran (ends : Ends) (w : World) (all : List Event) (told : List Entry) (a b : EndView) : Type 0 where
  pub world : World
  pub runs : Runs ends w all told world
  pub stand : Stand ends world a b

-- The transcript tells the run.
pub record Told (ends : Ends) (w : World) (all : List Event) (transcript : Transcript) (a b : EndView) : Type 0 where
  pub ran : Ran ends w all transcript.entries a b
  pub mode : transcript.mode ≡ (base_at ends A).mode
  pub a_phase : transcript.a ≡ (end_at ends A ran.world).body.link.phase
  pub b_phase : transcript.b ≡ (end_at ends B ran.world).body.link.phase

-- From every world for which the ends stand.
abbrev pub RunsTold : List Event → Transcript → EndView → EndView → EndView → EndView → Type 0
RunsTold all transcript a b a_after b_after = (ends : Ends) (w : World) → Stand ends w a b → Told ends w all transcript a_after b_after
