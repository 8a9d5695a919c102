-- A schedule has one transcript, in each mode.
use Rattle.std.proofs.Common.{◌≡◌, List, [], sym, ap, subst, ◌∙◌}
use Rattle.osi_base.specs.declared.layer_words.Side.TheVariants.{A, B}
use Rattle.stub_tables.specs.declared.tables.Tables.{Tables}
use Rattle.dialogue.specs.declared.config.Config.{Config}
use Rattle.dialogue.specs.declared.config.Mode.{Mode}
use Rattle.dialogue.specs.declared.config.Mode.TheVariants.{Bare, Direct, Reliable}
use Rattle.dialogue.specs.declared.config.Phase.{Phase}
use Rattle.dialogue.specs.declared.bare_setup.BareSetup.{BareSetup}
use Rattle.dialogue.specs.declared.event.Entry.{Entry}
use Rattle.dialogue.specs.declared.event.Transcript.{Transcript}
use Rattle.end_rules.specs.World.{Ends}
use Rattle.bare_duo.specs.end_wire.Bare.{bare_base}
use Rattle.bare_duo.specs.Worlds as bare
use Rattle.bare_duo.specs.Laws.{OneRun}
use Rattle.association_duo.specs.association_line.OneFeed.{OneCall, OneFeed}
use Rattle.association_duo.specs.association_runs.Worlds as associated
use Rattle.schedule_text.specs.Schedules.{Said}
use Rattle.replays.specs.Runs.{RanBare, RanAssociated, RanIn, OneTranscript}
use Rattle.replays.proofs.Unique.{same_runs}

abbrev told_by : Mode → List Entry → Phase → Phase → Transcript
told_by mode entries a b = record { mode = mode; entries = entries; a = a; b = b }

-- transcripts are the same where all that they tell is
alike : (t u : Transcript) → t.mode ≡ u.mode → t.entries ≡ u.entries → t.a ≡ u.a → t.b ≡ u.b → t ≡ u
alike t u m e p q =
    ap (λ x. told_by x t.entries t.a t.b) m ∙ ap (λ x. told_by u.mode x t.a t.b) e ∙ ap (λ x. told_by u.mode u.entries x t.b) p ∙ ap (λ x. told_by u.mode u.entries u.a x) q

-- ---- bare mode

abbrev ends_with : Tables → Config → Config → Ends
ends_with tables a b = record { a = bare_base tables a; b = bare_base tables b }

-- setups with these configurations make the same ends
same_ends : (tables : Tables) (r s : BareSetup) → r.a ≡ s.a → r.b ≡ s.b → bare.ends_of r tables ≡ bare.ends_of s tables
same_ends tables r s a b =
    let first : ends_with tables r.a r.b ≡ ends_with tables s.a r.b = ap (λ x. ends_with tables x r.b) a in first ∙ ap (λ x. ends_with tables s.a x) b

one_bare : OneRun → (tables : Tables) (schedule : Said) (t u : Transcript) → RanBare tables schedule t → RanBare tables schedule u → t ≡ u
one_bare one tables schedule t u r s =
    let ends : bare.ends_of s.setup tables ≡ bare.ends_of r.setup tables = same_ends tables s.setup r.setup (s.a_is ∙ sym r.a_is) (s.b_is ∙ sym r.b_is) in
    let R : Ends → Type 0 = λ e. bare.Runs e [] schedule.events u.entries s.world in
    let runs = one tables r.setup [] r.world s.world schedule.events t.entries u.entries r.readable r.runs (subst R ends s.runs) in
    alike t u (r.mode ∙ sym s.mode) runs.0
    (r.a_phase ∙ ap (λ w. (bare.end_at (bare.ends_of r.setup tables) A w).body.link.phase) runs.1 ∙ ap (λ (e : Ends). (bare.end_at e A s.world).body.link.phase) (sym ends) ∙ sym s.a_phase)
    (r.b_phase ∙ ap (λ w. (bare.end_at (bare.ends_of r.setup tables) B w).body.link.phase) runs.1 ∙ ap (λ (e : Ends). (bare.end_at e B s.world).body.link.phase) (sym ends) ∙ sym s.b_phase)

-- ---- direct and reliable mode

one_associated : OneFeed → OneCall → (tables : Tables) (schedule : Said) (t u : Transcript) → RanAssociated tables schedule t → RanAssociated tables schedule u → t ≡ u
one_associated feed call tables schedule t u r s =
    let ends = associated.ends_of tables schedule.a schedule.b in
    let runs = same_runs feed call ends [] r.world s.world schedule.events t.entries u.entries r.runs s.runs in
    alike t u (r.mode ∙ sym s.mode) runs.0
    (r.a_phase ∙ ap (λ w. (associated.end_at ends A w).body.link.phase) runs.1 ∙ sym s.a_phase)
    (r.b_phase ∙ ap (λ w. (associated.end_at ends B w).body.link.phase) runs.1 ∙ sym s.b_phase)

-- ---- every mode

one_in : OneRun → OneFeed → OneCall → (mode : Mode) (tables : Tables) (schedule : Said) (t u : Transcript) → RanIn mode tables schedule t → RanIn mode tables schedule u → t ≡ u
one_in run feed call Bare tables schedule t u r s = one_bare run tables schedule t u r s
one_in run feed call Direct tables schedule t u r s = one_associated feed call tables schedule t u r s
one_in run feed call Reliable tables schedule t u r s = one_associated feed call tables schedule t u r s

pub one_transcript : OneRun → OneFeed → OneCall → OneTranscript
one_transcript run feed call tables schedule t u r s = one_in run feed call schedule.a.mode tables schedule t u r s
