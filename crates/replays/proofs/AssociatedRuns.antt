-- The run of a schedule of direct or of reliable mode, from what the run of two new ends says.
use Rattle.std.proofs.Common.{◌≡◌, true, false, List, [], ap}
use Rattle.stub_tables.specs.declared.tables.Tables.{Tables}
use Rattle.stub_tables.specs.Readable.{IsReadable}
use Rattle.packed_codec.specs.Laws.{HasNoAny}
use Rattle.dialogue.specs.declared.config.Config.{Config}
use Rattle.dialogue.specs.declared.config.Mode.{Mode}
use Rattle.dialogue.specs.declared.config.Mode.TheVariants.{Bare, Direct, Reliable}
use Rattle.dialogue.specs.declared.event.Entry.{Entry}
use Rattle.dialogue.specs.declared.event.Transcript.{Transcript}
use Rattle.end_rules.specs.Base.{base_of, is_bare}
use Rattle.end_rules.specs.World.{World}
use Rattle.codec_runs.specs.said_worlds.Laws.{AreEndsIn}
use Rattle.codec_runs.specs.association_reading.Transfers.{association_spellings}
use Rattle.association_duo.specs.association_line.Line.{new_end}
use Rattle.association_duo.specs.association_runs.Worlds.{ends_of, Runs}
use Rattle.association_duo.specs.association_runs.Laws.{RunKeepsLaws}
use Rattle.association_duo.specs.association_end.View.{EndView, base, StandsFor}
use Rattle.association_duo.specs.Ran.{Told}
use Rattle.codec_runs.specs.DirectLaws.{DirectRunsKeepLaws}
use Rattle.codec_runs.specs.ReliableLaws.{ReliableRunsKeepLaws}
use Rattle.schedule_text.specs.Schedules.{Said}
use Rattle.replays.specs.Runs.{IsSetUp, RanOver, RanAssociated}

-- an end that has made no step
abbrev pub made : Tables → Config → EndView
made tables config = record { tables = tables; config = config; end = new_end (base_of tables config (association_spellings tables)) }

module _ (direct : DirectRunsKeepLaws) (reliable : ReliableRunsKeepLaws) (tables : Tables) (readable : IsReadable tables) (typed : HasNoAny tables.types) where
  module _ (s : Said) (set_up : IsSetUp s) (associated : is_bare s.a.mode ≡ false) where
    laws_in : (m : Mode) → is_bare m ≡ false → AreEndsIn m tables s.a s.b → (told : List Entry) (w : World) → Runs (ends_of tables s.a s.b) [] s.events told w
        → RunKeepsLaws tables (ends_of tables s.a s.b) told w
    laws_in Bare not_bare ends told w runs = let k : true ≡ false = not_bare in cc
    laws_in Direct not_bare ends told w runs = direct tables s.a s.b (record { ends = ends; responder = set_up.meet.responder }) s.events told w set_up.events runs
    laws_in Reliable not_bare ends told w runs = reliable tables s.a s.b (record { ends = ends; responder = set_up.meet.responder }) s.events told w set_up.events runs

    laws_of : (told : List Entry) (w : World) → Runs (ends_of tables s.a s.b) [] s.events told w → RunKeepsLaws tables (ends_of tables s.a s.b) told w
    laws_of told w runs =
        laws_in s.a.mode associated
        (record {
          module_s = record { readable = readable; typed = typed };
          of_a = set_up.of_a;
          initiator = set_up.meet.initiator;
          of_b = set_up.of_b;
        }) told w runs

    -- the run of two new ends is one of the schedule
    pub scheduled : (transcript : Transcript) (x y : EndView) → x ≡ made tables s.a → StandsFor x [] → y ≡ made tables s.b → StandsFor y [] → RanOver s.events x y transcript
        → RanAssociated tables s transcript
    scheduled transcript x y x_made x_new y_made y_new over =
        let told : Told (ends_of tables s.a s.b) [] s.events transcript over.a_after over.b_after =
        over.runs (ends_of tables s.a s.b) [] (record {
          a_stands = record { base_is = ap base x_made; stands = x_new };
          b_stands = record { base_is = ap base y_made; stands = y_new };
        }) in
        record {
          world = told.ran.world;
          runs = told.ran.runs;
          laws = laws_of transcript.entries told.ran.world told.ran.runs;
          mode = told.mode;
          a_phase = told.a_phase;
          b_phase = told.b_phase;
        }
