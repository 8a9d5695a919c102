-- An end that isn't over took each message whose last octet was given to it, and no other.
use Rattle.std.proofs.Common.{◌≡◌, refl, sym, ap, subst, ◌∙◌, ℕ, List, [], ◌∷◌, ◌++◌, length, append_assoc, None}
use Rattle.std.specs.Prelude.{Option, Some}
use Rattle.std.proofs.lemmas.List.{append-nil}
use Rattle.osi_base.specs.declared.layer_words.Side.TheVariants.{A, B}
use Rattle.stub_tables.specs.declared.tables.Tables.{Tables}
use Rattle.tpkt.specs.Reader.{ReaderProgress, reading, nothing}
use Rattle.tpkt.proofs.StreamLaws.{any_cut}
use Rattle.agreement.specs.Sets.Role.{Initiator, Responder}
use Rattle.association_worlds.specs.association_reading.Front.{Front, Short, Intake, first_front, all_fronts}
use Rattle.association_worlds.specs.InTransit.{AreCarried, front_of, SentMessage, fronts_of_sent, AreWritten}
use Rattle.association_worlds.proofs.Streams.{reads-all}
use Rattle.association_worlds.proofs.Kept.{fronts-append, stands}
use Rattle.association_runs.specs.Worlds.{end_at}
use Rattle.association_runs.specs.Sides.{ends_for}
use Rattle.association_runs.specs.Octets.{given, whole_within, TakenWhenWhole}
use Rattle.association_runs.proofs.Waiting.{IsShort, ends-wait}
use Rattle.prefix_laws.specs.Laws.{BeginningsBringNothing}
use Rattle.run_laws.specs.Passing.{readings}
use Rattle.counted_runs.specs.Laws.{RunsTakeWhatIsWhole}
use Rattle.counted_runs.proofs.Counts.{texts_of, counted}
use Rattle.counted_runs.proofs.Sents.{sents_at, texts-are, messages-are, sizes-are, written-so}
use Rattle.counted_runs.proofs.Flows.{IsHeld, Flow}
use Rattle.counted_runs.proofs.Events.{tallied}

-- none of the fronts of messages is less than a message
in-row : (tables : Tables) (taken : List Front) (front : Front) (more : List Front) (sents : List SentMessage) → taken ++ front ∷ more ≡ fronts_of_sent tables sents → front ≡ Short → ⊥
in-row tables [] front more [] e h = absurd cc
in-row tables [] front more (s ∷ sents) e h = (let head : front ≡ front_of tables s.message = cc in stands tables s.message (sym head ∙ h))
in-row tables (t ∷ taken) front more [] e h = absurd cc
in-row tables (t ∷ taken) front more (s ∷ sents) e h = (let tails : taken ++ front ∷ more ≡ fronts_of_sent tables sents = cc in in-row tables taken front more sents tails h)

-- where less than a message is left, the octets that came say how many were read
pub so-many : BeginningsBringNothing → (tables : Tables) (sents : List SentMessage) (waiting : List ℕ) (so_far read : ℕ) (came : Option Intake) → AreWritten tables sents → Flow tables sents waiting so_far read came → IsShort came
    → read ≡ whole_within so_far (texts_of tables sents)
so-many law tables sents waiting so_far read None written f short = absurd short
so-many law tables sents waiting so_far read (Some intake) written f short =
    h.many
    ∙ ap (λ (fs : List Front). length fs) (sym (h.fronts ∙ ap (λ (fs : List Front). h.taken ++ fs) none ∙ append-nil h.taken))
    ∙ counted law tables sents f.got waiting written f.octets
    ∙ ap (λ (n : ℕ). whole_within n (texts_of tables sents)) (sym f.counts)
  where
    h : IsHeld f.got read intake
    h = f.holds

    later : List Front
    later = all_fronts (reading (reading nothing f.got).held waiting).packets

    all : (h.taken ++ intake.fronts) ++ all_fronts (reading (reading nothing f.got).held waiting).packets ≡ fronts_of_sent tables sents
    all =
        ap (λ (fs : List Front). fs ++ all_fronts (reading (reading nothing f.got).held waiting).packets) (sym h.fronts)
        ∙ sym (fronts-append (reading nothing f.got).packets (reading (reading nothing f.got).held waiting).packets)
        ∙ sym (ap (λ (x : ReaderProgress). all_fronts x.packets) (any_cut nothing f.got waiting))
        ∙ ap (λ (os : List ℕ). all_fronts (reading nothing os).packets) f.octets
        ∙ (reads-all tables sents written).fronts

    by-front : (fronts : List Front) → intake.fronts ≡ fronts → intake.fronts ≡ []
    by-front [] e = e
    by-front (front ∷ more) e =
        absurd
        (in-row tables h.taken front (more ++ all_fronts (reading (reading nothing f.got).held waiting).packets) sents
        (sym (append_assoc h.taken (front ∷ more) (all_fronts (reading (reading nothing f.got).held waiting).packets))
        ∙ ap (λ (fs : List Front). (h.taken ++ fs) ++ all_fronts (reading (reading nothing f.got).held waiting).packets) (sym e)
        ∙ all)
        (sym (ap (first_front intake.held) e) ∙ short))

    none : intake.fronts ≡ []
    none = by-front intake.fronts refl

pub take-when-whole : BeginningsBringNothing → RunsTakeWhatIsWhole
take-when-whole law common m all told w typed r = by-side
  where
    by-side : TakenWhenWhole (ends_for common) w
    by-side A up =
        let t = tallied common m w all told typed r in
        let written : AreWritten common.tables (sents_at (ends_for common) A w) =
        written-so common.tables (sents_at (ends_for common) A w) (sizes-are (ends_for common) A w) (subst (AreCarried common.tables) (sym (messages-are (ends_for common) A w)) (t.carried Initiator)) in
        so-many law common.tables (sents_at (ends_for common) A w) (end_at (ends_for common) A w).line.waiting (given A w) (length (readings B w)) (end_at (ends_for common) B w).line.came
        written t.flows.to_b (ends-wait (ends_for common) all told w r B up)
        ∙ ap (whole_within (given A w)) (sym (texts-are (ends_for common) A w))
    by-side B up =
        let t = tallied common m w all told typed r in
        let written : AreWritten common.tables (sents_at (ends_for common) B w) =
        written-so common.tables (sents_at (ends_for common) B w) (sizes-are (ends_for common) B w) (subst (AreCarried common.tables) (sym (messages-are (ends_for common) B w)) (t.carried Responder)) in
        so-many law common.tables (sents_at (ends_for common) B w) (end_at (ends_for common) B w).line.waiting (given B w) (length (readings A w)) (end_at (ends_for common) A w).line.came
        written t.flows.to_a (ends-wait (ends_for common) all told w r A up)
        ∙ ap (whole_within (given B w)) (sym (texts-are (ends_for common) B w))
