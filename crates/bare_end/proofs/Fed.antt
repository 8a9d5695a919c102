-- What stood first was taken, or ended the reading.
use Rattle.std.proofs.Common.{◌≡◌, ℕ, ◌≤◌, Bool, true, false, if◌then◌else◌, List, [], ◌∷◌, ◌++◌, length, map, Result, Ok, Err, refl, sym, ap, subst, ◌∙◌, arith, append_assoc}
use Rattle.std.proofs.lemmas.List.{append-nil}
use Rattle.std.specs.Prelude.{OnErr}
use Rattle.osi_base.specs.declared.fault.NoMemory.{NoMemory}
use Rattle.osi_base.specs.declared.layer_words.Layer.TheVariants.{Rose}
use Rattle.dialogue.specs.declared.config.Phase.TheVariants.{Dead}
use Rattle.dialogue.specs.declared.indication.Indication.{Indication}
use Rattle.dialogue.specs.declared.indication.Indication.TheVariants as indications
use Rattle.end_rules.specs.Base.{Base}
use Rattle.end_rules.specs.State.{Calls, OpenCall, post_order, passes_over}
use Rattle.end_rules.specs.Faults.{cut_of, fault_at, shown_at_fault}
use Rattle.end_rules.specs.History.{Step, fed, fault, feed_end}
use Rattle.end_wire.specs.Bare.{Faulty, first_at, bare_message}
use Rattle.end_rules.specs.State.{bare_set}
use Rattle.end_wire.specs.Line.{End, after, after_all}
use Rattle.end_wire.specs.Feeding.{Reads, passes, waits, takes, fails, taking}
use Rattle.bare_end.specs.View.{EndView, base, body, seen, Stepped, Keeps, with_calls}
use Rattle.stream_front.specs.declared.first_value.FirstValue as fronts
use Rattle.stream_front.specs.declared.first_value.FirstValue.TheVariants as found
use Rattle.bare_end.specs.First.{IsShortFirst, IsWholeFirst, IsFirst}
use Rattle.bare_end.specs.Feed.{TookOne, ReadAll, Fed, Begins, nothing_taken, one_taken, KeepsDue, DiedFed}
use Rattle.bare_end.proofs.Histories.{same_base, stands_on, stepped_on}

pub nothing_made : (e : EndView) → Stepped e e (feed_end ∷ [])
nothing_made e = record { tables = refl; config = refl; end = refl }

pub waited : (old : EndView) (before : List Indication) → passes_over old.phase ≡ false → IsShortFirst old.rest → ReadAll old old before before
waited old before up short = record {
  steps = feed_end ∷ [];
  told = [];
  reads = waits up short.first;
  made = nothing_made old;
  shown_is = sym (append-nil before);
  few = short.few;
}

few_at : {rest : List ℕ} → rest ≡ [] → length rest ≤ 262144
few_at e = subst (λ (r : List ℕ). length r ≤ 262144) (sym e) (omega arith)

pub failed : (old new : EndView) (before after : List Indication) (place : ℕ) → passes_over old.phase ≡ false → first_at old.rest ≡ Faulty place
    → Stepped old new (fault Rose place 0 ∷ feed_end ∷ []) → after ≡ before ++ shown_at_fault (body old) (fault_at Rose place 0) → ReadAll old new before after
failed old new before after place up bad s f = record {
  steps = fault Rose place 0 ∷ feed_end ∷ [];
  told = shown_at_fault (body old) (fault_at Rose place 0);
  reads = fails place up bad;
  made = s;
  shown_is = f;
  few = few_at (ap (λ (e : End). e.line.rest) s.end);
}

-- as the code comes by them
pub read_short : (old : EndView) (before : List Indication) (front : fronts.FirstValue) → passes_over old.phase ≡ false → IsFirst old.rest front → front ≡ found.Short → ReadAll old old before before
read_short old before front up first is = waited old before up (subst (IsFirst old.rest) is first)

pub whole_first : (octets : List ℕ) (front : fronts.FirstValue) (used : ℕ) → IsFirst octets front → front ≡ found.Whole used → IsWholeFirst octets used
whole_first octets front used first is = subst (IsFirst octets) is first

pub read_faulty : (old new : EndView) (before after : List Indication) (front : fronts.FirstValue) (place : ℕ) → passes_over old.phase ≡ false → IsFirst old.rest front → front ≡ found.Faulty place
    → Stepped old new (fault Rose place 0 ∷ feed_end ∷ []) → after ≡ before ++ shown_at_fault (body old) (fault_at Rose place 0) → ReadAll old new before after
read_faulty old new before after front place up first is s f = failed old new before after place up (subst (IsFirst old.rest) is first) s f

-- ---- message after message

-- what reading went on from, and came to
pub record ReadsOn (old now : EndView) (before shown : List Indication) : Type 0 where
  pub steps : List Step
  pub told : List Indication
  pub made : Stepped old now steps
  pub shown_is : shown ≡ before ++ told
  pub up : passes_over now.phase ≡ false
  pub due : List ℕ
  pub waiting : now.waiting ≡ old.waiting ++ due
  pub goes_on : (more : List Step) (later : List Indication) → Reads (base now) (seen now) more later → Reads (base old) (seen old) (steps ++ more) (told ++ later)
  pub begins_on : (more : List Step) (later : List Indication) → Begins (base now) (seen now) more later → Begins (base old) (seen old) (steps ++ more) (told ++ later)

pub reads_on_start : (e : EndView) (before : List Indication) → passes_over e.phase ≡ false → ReadsOn e e before before
reads_on_start e before up = record {
  steps = [];
  told = [];
  made = record { tables = refl; config = refl; end = refl };
  shown_is = sym (append-nil before);
  up = up;
  due = [];
  waiting = sym (append-nil e.waiting);
  goes_on = λ more later r. r;
  begins_on = λ more later r. r;
}

-- what is so of the next end is so of the one before with its steps
moved_back : (now next : EndView) (steps : List Step) → Stepped now next steps → (P : Base → End → Type 0) → P (base next) (seen next) → P (base now) (after_all (base now) (seen now) steps)
moved_back now next steps s P p = subst (P (base now)) s.end (subst (λ (b : Base). P b (seen next)) (same_base now next steps s) p)

-- what is so of steps in two pieces is so of all
joined : (P : List Step → List Indication → Type 0) (xs ys zs : List Step) (ts us vs : List Indication) → P (xs ++ (ys ++ zs)) (ts ++ (us ++ vs)) → P ((xs ++ ys) ++ zs) ((ts ++ us) ++ vs)
joined P xs ys zs ts us vs p =
    subst (λ (l : List Step). P l ((ts ++ us) ++ vs)) (sym (append_assoc xs ys zs)) (subst (P (xs ++ (ys ++ zs))) (sym (append_assoc ts us vs)) p)

pub reads_on_more : (old now next : EndView) (before shown later_shown : List Indication) → ReadsOn old now before shown → TookOne now next shown later_shown → ReadsOn old next before later_shown
reads_on_more old now next before shown later_shown h one =
    let steps : List Step = taking (bare_message (bare_set now.tables) one.content) one.answers in
    record {
      steps = h.steps ++ steps;
      told = h.told ++ one.told;
      made = stepped_on old now next h.steps steps h.made one.steps;
      shown_is = one.shown_is ∙ ap (λ (s : List Indication). s ++ one.told) h.shown_is ∙ append_assoc before h.told one.told;
      up = ap passes_over one.phase_stays ∙ h.up;
      due = h.due ++ one.due;
      waiting = one.waiting ∙ ap (λ (s : List ℕ). s ++ one.due) h.waiting ∙ append_assoc old.waiting h.due one.due;
      goes_on = λ more later r.
          let next_steps : List Step = taking (bare_message (bare_set now.tables) one.content) one.answers in
          let here : Reads (base now) (after_all (base now) (seen now) next_steps) more later = moved_back now next next_steps one.steps (λ (b : Base) (e : End). Reads b e more later) r in
          let taken : Reads (base now) (seen now) (next_steps ++ more) (one.told ++ later) = takes one.used one.content one.left one.answers one.told h.up one.first one.is one.reacts here in
          joined (λ (xs : List Step) (ts : List Indication). Reads (base old) (seen old) xs ts) h.steps next_steps more h.told one.told later (h.goes_on (next_steps ++ more) (one.told ++ later) taken);
      begins_on = λ more later r.
          let next_steps : List Step = taking (bare_message (bare_set now.tables) one.content) one.answers in
          let here : Begins (base now) (after_all (base now) (seen now) next_steps) more later = moved_back now next next_steps one.steps (λ (b : Base) (e : End). Begins b e more later) r in
          let taken : Begins (base now) (seen now) (next_steps ++ more) (one.told ++ later) = one_taken one.used one.content one.left one.answers one.told h.up one.first one.is one.reacts here in
          joined (λ (xs : List Step) (ts : List Indication). Begins (base old) (seen old) xs ts) h.steps next_steps more h.told one.told later (h.begins_on (next_steps ++ more) (one.told ++ later) taken);
    }

pub reads_on_end : (old now next : EndView) (before shown later_shown : List Indication) → ReadsOn old now before shown → ReadAll now next shown later_shown → ReadAll old next before later_shown
reads_on_end old now next before shown later_shown h last = record {
  steps = h.steps ++ last.steps;
  told = h.told ++ last.told;
  reads = h.goes_on last.steps last.told last.reads;
  made = stepped_on old now next h.steps last.steps h.made last.made;
  shown_is = last.shown_is ∙ ap (λ (s : List Indication). s ++ last.told) h.shown_is ∙ append_assoc before h.told last.told;
  few = last.few;
}

-- what stands after reading that began, as it ends with nothing more
all_begun : (old now : EndView) (before shown : List Indication) (h : ReadsOn old now before shown) → Begins (base old) (seen old) h.steps h.told
all_begun old now before shown h =
    subst (λ (xs : List Step). Begins (base old) (seen old) xs h.told) (append-nil h.steps)
    (subst (Begins (base old) (seen old) (h.steps ++ [])) (append-nil h.told) (h.begins_on [] [] nothing_taken))

pub reads_on_kept : (old now next : EndView) (before shown : List Indication) → ReadsOn old now before shown → Keeps now next → KeepsDue old next (seen old)
reads_on_kept old now next before shown h k = record {
  tables = k.tables ∙ h.made.tables;
  config = k.config ∙ h.made.config;
  more = h.due;
  waiting = k.waiting ∙ h.waiting;
  steps = h.steps;
  told = h.told;
  begins = all_begun old now before shown h;
  due = k.waiting ∙ ap (λ (e : End). e.line.waiting) h.made.end;
}

-- ---- a feed

-- with what came
abbrev came : EndView → List ℕ → EndView
came e octets = record e { rest = e.rest ++ octets }

came_fed : (old : EndView) (octets : List ℕ) → passes_over old.phase ≡ false → seen (came old octets) ≡ after (base old) (seen old) (fed octets)
came_fed old octets up = ap (λ (b : Bool). record (seen old) { line = record (seen old).line { rest = if b then [] else old.rest ++ octets } }) (sym up)

-- what came while the end was up
pub fed_up : (old new : EndView) (octets : List ℕ) (shown : List Indication) → passes_over old.phase ≡ false
    → ReadAll (record old { rest = old.rest ++ octets }) new [] shown → Fed old new octets shown
fed_up old new octets shown up r =
    let state_is : seen (came old octets) ≡ after (base old) (seen old) (fed octets) = came_fed old octets up in
    let made : Stepped old new (fed octets ∷ r.steps)
    = record { tables = r.made.tables; config = r.made.config; end = r.made.end ∙ ap (λ (e : End). after_all (base old) e r.steps) state_is } in
    record {
      steps = fed octets ∷ r.steps;
      feeds = record {
        reading = r.steps;
        all = refl;
        reads = subst (λ (ts : List Indication). Reads (base old) (after (base old) (seen old) (fed octets)) r.steps ts) (sym r.shown_is)
            (subst (λ (e : End). Reads (base old) e r.steps r.told) state_is r.reads);
      };
      made = made;
      few = r.few;
      stands = stands_on old new (fed octets ∷ r.steps) made;
    }

-- what came when the end was over
pub fed_over : (old new : EndView) (octets : List ℕ) → passes_over old.phase ≡ true → new ≡ record old { rest = [] } → Fed old new octets []
fed_over old new octets over e =
    let state_is : seen (record old { rest = [] }) ≡ after (base old) (seen old) (fed octets)
    = ap (λ (b : Bool). record (seen old) { line = record (seen old).line { rest = if b then [] else old.rest ++ octets } }) (sym over) in
    let made : Stepped old new (fed octets ∷ feed_end ∷ [])
    = record { tables = ap (λ (v : EndView). v.tables) e; config = ap (λ (v : EndView). v.config) e; end = ap seen e ∙ state_is } in
    record {
      steps = fed octets ∷ feed_end ∷ [];
      feeds = record { reading = feed_end ∷ []; all = refl; reads = passes over };
      made = made;
      few = few_at (ap (λ (v : EndView). v.rest) e);
      stands = stands_on old new (fed octets ∷ feed_end ∷ []) made;
    }

-- ---- want of memory

pub kept_none : (old new : EndView) (octets : List ℕ) → Keeps old new → KeepsDue old new (after (base old) (seen old) (fed octets))
kept_none old new octets k = record {
  tables = k.tables;
  config = k.config;
  more = [];
  waiting = k.waiting ∙ sym (append-nil old.waiting);
  steps = [];
  told = [];
  begins = nothing_taken;
  due = k.waiting;
}

-- reading began with what came
pub kept_fed : (old middle new : EndView) (octets : List ℕ) → passes_over old.phase ≡ false → middle ≡ record old { rest = old.rest ++ octets }
    → KeepsDue middle new (seen middle) → KeepsDue old new (after (base old) (seen old) (fed octets))
kept_fed old middle new octets up is k =
    let from : KeepsDue (came old octets) new (seen (came old octets)) = subst (λ (m : EndView). KeepsDue m new (seen m)) is k in
    record {
      tables = from.tables;
      config = from.config;
      more = from.more;
      waiting = from.waiting;
      steps = from.steps;
      told = from.told;
      begins = subst (λ (e : End). Begins (base old) e from.steps from.told) (came_fed old octets up) from.begins;
      due = from.due ∙ ap (λ (e : End). (after_all (base old) e from.steps).line.waiting) (came_fed old octets up);
    }

pub died_fed : (old now new : EndView) (octets : List ℕ) → KeepsDue old now (after (base old) (seen old) (fed octets)) → new ≡ record now { phase = Dead } → DiedFed old new octets
died_fed old now new octets k is = record {
  kept = record {
    tables = ap (λ (e : EndView). e.tables) is ∙ k.tables;
    config = ap (λ (e : EndView). e.config) is ∙ k.config;
    more = k.more;
    waiting = ap (λ (e : EndView). e.waiting) is ∙ k.waiting;
    steps = k.steps;
    told = k.told;
    begins = k.begins;
    due = ap (λ (e : EndView). e.waiting) is ∙ k.due;
  };
  phase = ap (λ (e : EndView). e.phase) is;
}

pub kept_taken : (old heard skipped new : EndView) (calls : Calls) (rest : List ℕ) → heard ≡ with_calls calls old → skipped ≡ record heard { rest = rest } → new ≡ skipped → Keeps old new
kept_taken old heard skipped new calls rest h s n = record {
  tables = ap (λ (e : EndView). e.tables) n ∙ ap (λ (e : EndView). e.tables) s ∙ ap (λ (e : EndView). e.tables) h;
  config = ap (λ (e : EndView). e.config) n ∙ ap (λ (e : EndView). e.config) s ∙ ap (λ (e : EndView). e.config) h;
  waiting = ap (λ (e : EndView). e.waiting) n ∙ ap (λ (e : EndView). e.waiting) s ∙ ap (λ (e : EndView). e.waiting) h;
}

pub kept_same : (old new : EndView) → new ≡ old → Keeps old new
kept_same old new e = record { tables = ap (λ (x : EndView). x.tables) e; config = ap (λ (x : EndView). x.config) e; waiting = ap (λ (x : EndView). x.waiting) e }

-- what is told at a fault: the cuts, and the abort
pub abort_shown : (old : EndView) (place : ℕ) (before cut told : List Indication) (opens : List OpenCall) → opens ≡ old.calls.opens → cut ≡ before ++ map cut_of (post_order opens)
    → told ≡ cut ++ indications.Aborted true Rose place 0 ∷ [] → told ≡ before ++ shown_at_fault (body old) (fault_at Rose place 0)
abort_shown old place before cut told opens o c t =
    t ∙ ap (λ (s : List Indication). s ++ indications.Aborted true Rose place 0 ∷ []) c
    ∙ ap (λ (os : List OpenCall). (before ++ map cut_of (post_order os)) ++ indications.Aborted true Rose place 0 ∷ []) o
    ∙ append_assoc before (map cut_of (post_order old.calls.opens)) (indications.Aborted true Rose place 0 ∷ [])

-- what stands after a call stands after it where memory was refused
pub on_err : (r : Result (Unit {0}) NoMemory) (P : Type 0) → P → OnErr r P
on_err (Ok done) P p = tt
on_err (Err e) P p = p
