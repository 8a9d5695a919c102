-- The run of a schedule of bare mode, from what the run of two new ends says.
use Rattle.std.proofs.Common.{◌≡◌, true, false, List, [], refl, sym, subst, ◌∙◌}
use Rattle.stub_tables.specs.declared.tables.Tables.{Tables}
use Rattle.dialogue.specs.declared.config.Config.{Config}
use Rattle.dialogue.specs.Config.{IsBare}
use Rattle.dialogue.specs.declared.bare_setup.BareSetup.{BareSetup}
use Rattle.dialogue.specs.declared.event.Event.{Event}
use Rattle.dialogue.specs.declared.event.Transcript.{Transcript}
use Rattle.bare_duo.specs.bare_end.View.{EndView, StandsFor}
use Rattle.bare_duo.specs.Ran.{RanFromStart, RunsFromStart}
use Rattle.schedule_text.specs.Schedules.{Said}
use Rattle.replays.specs.Runs.{BareRanOver, RanBare}

-- two configurations of bare mode
module _ (a b : Config) (a_is : IsBare true a) (b_is : IsBare false b) where
  module _ (tables : Tables) (events : List Event) (transcript : Transcript) where
    abbrev schedule : Said
    schedule = record { a = a; b = b; events = events }

    abbrev setup : BareSetup
    setup = record { a = a; b = b; initiator = ∣ a_is ∣₁; responder = ∣ b_is ∣₁ }

    from_run : (a_after b_after : EndView) → RanFromStart setup tables events transcript a_after b_after → RanBare tables schedule transcript
    from_run a_after b_after run = record {
      setup = setup;
      a_is = refl;
      b_is = refl;
      world = run.told.ran.world;
      runs = run.told.ran.runs;
      readable = run.readable;
      laws = run.laws;
      mode = run.told.mode;
      a_phase = run.told.a_phase;
      b_phase = run.told.b_phase;
    }

    pub runs : (x y x_after y_after : EndView) → x.tables ≡ tables → x.config ≡ a → StandsFor x [] → y.tables ≡ tables → y.config ≡ b → StandsFor y []
        → RunsFromStart events transcript x y x_after y_after → RanBare tables schedule transcript
    runs x y x_after y_after x_tables x_config x_new y_tables y_config y_new run =
        let P : Tables → Type 0 = λ t. RanFromStart setup t events transcript x_after y_after in
        let ran : RanFromStart setup x.tables events transcript x_after y_after =
        run setup (record {
          a_stands = record { tables_are = refl; config_is = x_config; stands = x_new };
          b_stands = record { tables_are = y_tables ∙ sym x_tables; config_is = y_config; stands = y_new };
        }) in
        from_run x_after y_after (subst P x_tables ran)

    -- the run of two new ends is one of the schedule
    pub scheduled : (x y : EndView) → x.tables ≡ tables → x.config ≡ a → StandsFor x [] → y.tables ≡ tables → y.config ≡ b → StandsFor y []
        → BareRanOver events x y transcript → RanBare tables schedule transcript
    scheduled x y x_tables x_config x_new y_tables y_config y_new over =
        runs x y over.a_after over.b_after x_tables x_config x_new y_tables y_config y_new over.runs
