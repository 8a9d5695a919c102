-- What goes from one end to the other: what came of it, what waits, and how many messages of it were read; and what a step of each end
-- makes of that.
use Rattle.std.proofs.Common.{◌≡◌, refl, sym, ap, subst, ◌∙◌, ℕ, ◌+◌, true, false, List, [], ◌∷◌, ◌++◌, length, take, drop, arith, append_assoc, length-append, None}
use Rattle.std.specs.Prelude.{Bool, Option, Some, option_map, if◌then◌else◌}
use Rattle.std.proofs.lemmas.List.{append-nil, take-append-drop}
use Rattle.stub_tables.specs.declared.tables.Tables.{Tables}
use Rattle.tpkt.specs.declared.reader_state.ReaderState.{ReaderState}
use Rattle.tpkt.specs.Reader.{ReaderProgress, reading, nothing}
use Rattle.tpkt.proofs.StreamLaws.{any_cut, nothing_read}
use Rattle.end_rules.specs.Base.{Base}
use Rattle.end_rules.specs.Messages.{Message}
use Rattle.end_rules.specs.History.{Step, called, sent, encoded, fed, took, answered, passed, fault, aborted, feed_end, gave, broke}
use Rattle.association_worlds.specs.association_wire.Written.{written}
use Rattle.association_worlds.specs.association_reading.Front.{Front, Intake, nothing_came, all_fronts, with_octets, behind_first, without_first}
use Rattle.association_worlds.specs.InTransit.{SentMessage, texts}
use Rattle.association_worlds.proofs.Kept.{fronts-append, texts-append}
use Rattle.run_laws.specs.Passing.{PairedMessage, sent_in, as_read, on_connection, read_in}
use Rattle.association_runs.specs.association_line.Line.{End, after}
use Rattle.association_runs.specs.Octets.{given_in, or_none}
use Rattle.counted_runs.proofs.Sents.{sized}

-- ---- what is kept

-- of the octets that came so many messages were read, and the others stand behind them
pub record IsHeld (got : List ℕ) (read : ℕ) (intake : Intake) : Type 0 where
  pub held : intake.held ≡ (reading nothing got).held
  pub taken : List Front
  pub many : read ≡ length taken
  pub fronts : all_fronts (reading nothing got).packets ≡ taken ++ intake.fronts

abbrev pub Holds : List ℕ → ℕ → Option Intake → Type 0
Holds got read None = Unit {0}
Holds got read (Some intake) = IsHeld got read intake

-- what came and what waits are what was sent; so many octets were given out
pub record Flow (tables : Tables) (sents : List SentMessage) (waiting : List ℕ) (given read : ℕ) (came : Option Intake) : Type 0 where
  pub got : List ℕ
  pub octets : got ++ waiting ≡ texts tables sents
  pub counts : given ≡ length got
  pub holds : Holds got read came

pub no-flow : (tables : Tables) → Flow tables [] [] 0 0 (Some nothing_came)
no-flow tables =
    record {
      got = [];
      octets = refl;
      counts = refl;
      holds = record { held = sym (ap (λ (f : ReaderProgress). f.held) nothing_read); taken = []; many = refl; fronts = ap (λ (f : ReaderProgress). all_fronts f.packets) nothing_read };
    }

-- ---- a step of the end that sends

-- it isn't one that gives octets out, nor a break
abbrev pub IsOut : Step → Type 0
IsOut (gave n) = ⊥
IsOut broke = ⊥
IsOut _ = Unit {0}

module _ (tables : Tables) (sents : List SentMessage) (waiting : List ℕ) (given read : ℕ) (came : Option Intake) (f : Flow tables sents waiting given read came) where
  no-more : Flow tables (sents ++ []) waiting (given + 0) read came
  no-more = record { got = f.got; octets = f.octets ∙ ap (texts tables) (sym (append-nil sents)); counts = (let c : given ≡ length f.got = f.counts in omega (arith, c)); holds = f.holds }

  one-more : (size : ℕ) (m : Message) → Flow tables (sents ++ sized size (m ∷ [])) (waiting ++ written tables size m) (given + 0) read came
  one-more size m = record {
    got = f.got;
    octets =
        sym (append_assoc f.got waiting (written tables size m))
        ∙ ap (λ (os : List ℕ). os ++ written tables size m) f.octets
        ∙ ap (λ (os : List ℕ). texts tables sents ++ os) (sym (append-nil (written tables size m)))
        ∙ sym (texts-append tables sents (sized size (m ∷ [])));
    counts = (let c : given ≡ length f.got = f.counts in omega (arith, c));
    holds = f.holds;
  }

pub giver-step : (base : Base) (e : End) (x : Step) (sents : List SentMessage) (given : ℕ) (reads : List (Option PairedMessage)) (came : Option Intake) → IsOut x → Flow base.tables sents e.line.waiting given (length reads) came
    → Flow base.tables (on_connection x (sents ++ sized e.line.size (sent_in x))) (after base e x).line.waiting (or_none x (given + given_in x)) (length (on_connection x reads)) came
giver-step base e (called call reply) sents given reads came o f = no-more base.tables sents e.line.waiting given (length reads) came f
giver-step base e (sent message) sents given reads came o f = one-more base.tables sents e.line.waiting given (length reads) came f e.line.size message
giver-step base e (encoded context) sents given reads came o f = no-more base.tables sents e.line.waiting given (length reads) came f
giver-step base e (fed octets) sents given reads came o f = no-more base.tables sents e.line.waiting given (length reads) came f
giver-step base e (took message) sents given reads came o f = no-more base.tables sents e.line.waiting given (length reads) came f
giver-step base e (answered to answer) sents given reads came o f = one-more base.tables sents e.line.waiting given (length reads) came f e.line.size answer
giver-step base e passed sents given reads came o f = no-more base.tables sents e.line.waiting given (length reads) came f
giver-step base e (fault layer place reason) sents given reads came o f = no-more base.tables sents e.line.waiting given (length reads) came f
giver-step base e (aborted message) sents given reads came o f = one-more base.tables sents e.line.waiting given (length reads) came f e.line.size message
giver-step base e feed_end sents given reads came o f = no-more base.tables sents e.line.waiting given (length reads) came f
giver-step base e (gave n) sents given reads came o f = absurd o
giver-step base e broke sents given reads came o f = absurd o

-- ---- a step of the other end

-- it brings nothing, reads nothing and isn't a break
abbrev pub IsStill : Step → Type 0
IsStill (fed octets) = ⊥
IsStill (took message) = ⊥
IsStill passed = ⊥
IsStill broke = ⊥
IsStill _ = Unit {0}

module _ (tables : Tables) (sents : List SentMessage) (waiting : List ℕ) (given : ℕ) (reads : List (Option PairedMessage)) where
  none-read : (came : Option Intake) → Flow tables sents waiting given (length reads) came → Flow tables sents waiting given (length (reads ++ [])) came
  none-read came f = subst (λ (l : List (Option PairedMessage)). Flow tables sents waiting given (length l) came) (sym (append-nil reads)) f

  closed : (came : Option Intake) → Flow tables sents waiting given (length reads) came → Flow tables sents waiting given (length (reads ++ [])) None
  closed came f = record { got = f.got; octets = f.octets; counts = f.counts; holds = tt }

  -- what stands first is read
  first-read : (p : Option PairedMessage) (intake : Intake) (front : Front) (more : List Front) → intake.fronts ≡ front ∷ more → Flow tables sents waiting given (length reads) (Some intake)
      → Flow tables sents waiting given (length (reads ++ p ∷ [])) (Some (behind_first intake))
  first-read p intake front more e f =
      let h : IsHeld f.got (length reads) intake = f.holds in
      let many : length reads ≡ length h.taken = h.many in
      record {
        got = f.got;
        octets = f.octets;
        counts = f.counts;
        holds =
            record {
              held = h.held;
              taken = h.taken ++ front ∷ [];
              many = omega (arith, many, length-append reads (p ∷ []), length-append h.taken (front ∷ []));
              fronts =
                  h.fronts
                  ∙ ap (λ (fs : List Front). h.taken ++ fs) e
                  ∙ sym (append_assoc h.taken (front ∷ []) more)
                  ∙ ap (λ (fs : List Front). (h.taken ++ front ∷ []) ++ fs) (sym (ap without_first e));
            };
      }

pub taker-step : (base : Base) (e : End) (x : Step) (tables : Tables) (sents : List SentMessage) (waiting : List ℕ) (given : ℕ) (reads : List (Option PairedMessage)) → IsStill x → Flow tables sents waiting given (length reads) e.line.came
    → Flow tables (on_connection x sents) waiting (or_none x given) (length (on_connection x (reads ++ read_in x))) (after base e x).line.came
taker-step base e (called call reply) tables sents waiting given reads s f = none-read tables sents waiting given reads e.line.came f
taker-step base e (sent message) tables sents waiting given reads s f = none-read tables sents waiting given reads e.line.came f
taker-step base e (encoded context) tables sents waiting given reads s f = none-read tables sents waiting given reads e.line.came f
taker-step base e (fed octets) tables sents waiting given reads s f = absurd s
taker-step base e (took message) tables sents waiting given reads s f = absurd s
taker-step base e (answered to answer) tables sents waiting given reads s f = none-read tables sents waiting given reads e.line.came f
taker-step base e passed tables sents waiting given reads s f = absurd s
taker-step base e (fault layer place reason) tables sents waiting given reads s f = closed tables sents waiting given reads e.line.came f
taker-step base e (aborted message) tables sents waiting given reads s f = none-read tables sents waiting given reads e.line.came f
taker-step base e feed_end tables sents waiting given reads s f = none-read tables sents waiting given reads e.line.came f
taker-step base e (gave n) tables sents waiting given reads s f = none-read tables sents waiting given reads e.line.came f
taker-step base e broke tables sents waiting given reads s f = absurd s

-- it takes what stands first, or passes it over
abbrev pub IsReading : Step → Type 0
IsReading (took message) = Unit {0}
IsReading passed = Unit {0}
IsReading _ = ⊥

pub reading-step : (base : Base) (e : End) (x : Step) (tables : Tables) (sents : List SentMessage) (waiting : List ℕ) (given : ℕ) (reads : List (Option PairedMessage)) (intake : Intake) (front : Front) (more : List Front) → IsReading x
    → e.line.came ≡ Some intake → intake.fronts ≡ front ∷ more → Flow tables sents waiting given (length reads) e.line.came
    → Flow tables (on_connection x sents) waiting (or_none x given) (length (on_connection x (reads ++ read_in x))) (after base e x).line.came
reading-step base e (took message) tables sents waiting given reads intake front more r c k f =
    subst (λ (o : Option Intake). Flow tables sents waiting given (length (reads ++ Some (as_read message) ∷ [])) (option_map behind_first o)) (sym c)
    (first-read tables sents waiting given reads (Some (as_read message)) intake front more k (subst (λ (o : Option Intake). Flow tables sents waiting given (length reads) o) c f))
reading-step base e passed tables sents waiting given reads intake front more r c k f =
    subst (λ (o : Option Intake). Flow tables sents waiting given (length (reads ++ None ∷ [])) (option_map behind_first o)) (sym c)
    (first-read tables sents waiting given reads None intake front more k (subst (λ (o : Option Intake). Flow tables sents waiting given (length reads) o) c f))
reading-step base e _ tables sents waiting given reads intake front more r c k f = absurd r

-- ---- a carry

holds-fed : (got os : List ℕ) (read : ℕ) (over : Bool) (came : Option Intake) → Holds got read came → Holds (got ++ os) read (if over then None else option_map (with_octets os) came)
holds-fed got os read true came h = tt
holds-fed got os read false None h = tt
holds-fed got os read false (Some intake) h =
    let cut = any_cut nothing got os in
    record {
      held = ap (λ (held : ReaderState). (reading held os).held) h.held ∙ sym (ap (λ (f : ReaderProgress). f.held) cut);
      taken = h.taken;
      many = h.many;
      fronts =
          ap (λ (f : ReaderProgress). all_fronts f.packets) cut
          ∙ fronts-append (reading nothing got).packets (reading (reading nothing got).held os).packets
          ∙ ap (λ (fs : List Front). fs ++ all_fronts (reading (reading nothing got).held os).packets) h.fronts
          ∙ ap (λ (held : ReaderState). (h.taken ++ intake.fronts) ++ all_fronts (reading held os).packets) (sym h.held)
          ∙ append_assoc h.taken intake.fronts (all_fronts (reading intake.held os).packets);
    }

-- the first octets that wait are given out and fed to the other end
pub carry-step : (tables : Tables) (sents : List SentMessage) (waiting os : List ℕ) (given read : ℕ) (over : Bool) (came : Option Intake) → os ≡ take (length os) waiting → Flow tables sents waiting given read came
    → Flow tables (sents ++ []) (drop (length os) waiting) (given + length os) read (if over then None else option_map (with_octets os) came)
carry-step tables sents waiting os given read over came e f =
    let c : given ≡ length f.got = f.counts in
    let whole : os ++ drop (length os) waiting ≡ waiting = ap (λ (l : List ℕ). l ++ drop (length os) waiting) e ∙ take-append-drop (length os) waiting in
    record {
      got = f.got ++ os;
      octets = append_assoc f.got os (drop (length os) waiting) ∙ ap (λ (l : List ℕ). f.got ++ l) whole ∙ f.octets ∙ ap (texts tables) (sym (append-nil sents));
      counts = omega (arith, c, length-append f.got os);
      holds = holds-fed f.got os read over came f.holds;
    }
