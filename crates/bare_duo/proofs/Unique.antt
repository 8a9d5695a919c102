-- Events have one run.
use Rattle.std.proofs.Common.{◌≡◌, refl, true, false, ◌∙◌, sym, ap, subst, ℕ, List, [], ◌∷◌, ◌++◌, length}
use Rattle.osi_base.specs.declared.layer_words.Side.{Side}
use Rattle.osi_base.specs.declared.layer_words.Side.TheVariants.{A, B}
use Rattle.osi_base.specs.declared.layer_words.Layer.TheVariants.{Rose}
use Rattle.stub_tables.specs.Readable.{IsReadable}
use Rattle.dialogue.specs.declared.event.Event.{Event}
use Rattle.dialogue.specs.declared.event.Entry.{Entry}
use Rattle.dialogue.specs.declared.event.Entry.TheVariants as entries
use Rattle.dialogue.specs.declared.indication.Indication.{Indication}
use Rattle.end_rules.specs.Base.{Base}
use Rattle.osi_base.specs.SetPlaces.{pair_of}
use Rattle.dialogue.specs.Sides.{other}
use Rattle.dialogue.specs.Carries.{first_octets}
use Rattle.end_rules.specs.Messages.{Message}
use Rattle.end_rules.specs.State.{Body, passes_over}
use Rattle.end_rules.specs.Faults.{fault_at, shown_at_fault}
use Rattle.end_rules.specs.Hearing.{syntax_of}
use Rattle.end_rules.specs.Reacting.{Takes, react}
use Rattle.end_rules.specs.Calling.{can_call}
use Rattle.end_rules.specs.History.{Step, fed, fault, feed_end, gave, broke, call_steps}
use Rattle.end_rules.specs.World.{World, Ends, base_at}
use Rattle.bare_end.specs.end_wire.Bare.{Short, Whole, Faulty, first_at, front, bare_message}
use Rattle.bare_end.specs.end_wire.Values.{IsContent}
use Rattle.bare_end.specs.end_wire.Line.{End, after, after_all}
use Rattle.bare_end.specs.end_wire.Feeding.{Reads, Feeds, passes, waits, takes, fails, taking}
use Rattle.bare_end.specs.end_wire.Laws.{OneContent}
use Rattle.bare_duo.specs.Laws.{OneRun}
use Rattle.bare_duo.specs.Worlds.{ends_of, end_at, stepping, Runs, rests, calls, carries, breaks}

pub record SameReads (steps steps' : List Step) (shown shown' : List Indication) : Type 0 where
  pub steps_are : steps ≡ steps'
  pub shown_are : shown ≡ shown'

record SameTakings (answers answers' : List Message) (told told' : List Indication) : Type 0 where
  answers_are : answers ≡ answers'
  told_are : told ≡ told'

same_takings : (b c : Body) (xs ys : List Message) (us vs : List Indication) → Takes b xs us ≡ Takes c ys vs → SameTakings xs ys us vs
same_takings b c xs ys us vs e =
    let q : xs ≡ ys = cc in
    let r : us ≡ vs = cc in record { answers_are = q; told_are = r }

same_whole : (m n : ℕ) → Whole m ≡ Whole n → m ≡ n
same_whole m n e = cc

same_faulty : (m n : ℕ) → Faulty m ≡ Faulty n → m ≡ n
same_faulty m n e = cc

module _ (base : Base) (readable : IsReadable base.tables) (one_content : OneContent) where
  pub same_reads : (e f : End) (steps steps' : List Step) (shown shown' : List Indication) → e ≡ f → Reads base e steps shown → Reads base f steps' shown' → SameReads steps steps' shown shown'
  same_reads e f steps steps' shown shown' is (passes o) (passes p) = record { steps_are = refl; shown_are = refl }
  same_reads e f steps steps' shown shown' is (passes o) (waits u first) = let k : true ≡ false = sym o ∙ ap (λ (x : End). passes_over x.body.link.phase) is ∙ u in cc
  same_reads e f steps steps' shown shown' is (passes o) (takes used content body answers told u first isc re next) = let k : true ≡ false = sym o ∙ ap (λ (x : End). passes_over x.body.link.phase) is ∙ u in cc
  same_reads e f steps steps' shown shown' is (passes o) (fails place u first) = let k : true ≡ false = sym o ∙ ap (λ (x : End). passes_over x.body.link.phase) is ∙ u in cc
  same_reads e f steps steps' shown shown' is (waits u first) (passes o) = let k : false ≡ true = sym u ∙ ap (λ (x : End). passes_over x.body.link.phase) is ∙ o in cc
  same_reads e f steps steps' shown shown' is (waits u first) (waits v second) = record { steps_are = refl; shown_are = refl }
  same_reads e f steps steps' shown shown' is (waits u first) (takes used content body answers told v second isc re next) = let k : Short ≡ Whole used = sym first ∙ ap (λ (x : End). first_at x.line.rest) is ∙ second in cc
  same_reads e f steps steps' shown shown' is (waits u first) (fails place v second) = let k : Short ≡ Faulty place = sym first ∙ ap (λ (x : End). first_at x.line.rest) is ∙ second in cc
  same_reads e f steps steps' shown shown' is (fails place u first) (passes o) = let k : false ≡ true = sym u ∙ ap (λ (x : End). passes_over x.body.link.phase) is ∙ o in cc
  same_reads e f steps steps' shown shown' is (fails place u first) (waits v second) = let k : Faulty place ≡ Short = sym first ∙ ap (λ (x : End). first_at x.line.rest) is ∙ second in cc
  same_reads e f steps steps' shown shown' is (fails place u first) (takes used content body answers told v second isc re next) = let k : Faulty place ≡ Whole used = sym first ∙ ap (λ (x : End). first_at x.line.rest) is ∙ second in cc
  same_reads e f steps steps' shown shown' is (fails place u first) (fails place' v second) =
      let k = same_faulty place place' (sym first ∙ ap (λ (x : End). first_at x.line.rest) is ∙ second) in
      record { steps_are = λ i. fault Rose (k i) 0 ∷ feed_end ∷ []; shown_are = λ i. shown_at_fault (is i).body (fault_at Rose (k i) 0) }
  same_reads e f steps steps' shown shown' is (takes used content body answers told u first isc re next) (passes o) = let k : false ≡ true = sym u ∙ ap (λ (x : End). passes_over x.body.link.phase) is ∙ o in cc
  same_reads e f steps steps' shown shown' is (takes used content body answers told u first isc re next) (waits v second) = let k : Whole used ≡ Short = sym first ∙ ap (λ (x : End). first_at x.line.rest) is ∙ second in cc
  same_reads e f steps steps' shown shown' is (takes used content body answers told u first isc re next) (fails place v second) = let k : Whole used ≡ Faulty place = sym first ∙ ap (λ (x : End). first_at x.line.rest) is ∙ second in cc
  same_reads e f steps steps' shown shown' is (takes {steps = more} {shown = later} used content body answers told u first isc re next) (takes {steps = more'} {shown = later'} used' content' body' answers' told' v second isc' re' next') =
      let n : used ≡ used' = same_whole used used' (sym first ∙ ap (λ (x : End). first_at x.line.rest) is ∙ second) in
      let mine : IsContent base.tables (syntax_of (pair_of f.body.sets.held 0)) (front (Whole used') f.line.rest) content =
      subst (λ (k : ℕ). IsContent base.tables (syntax_of (pair_of f.body.sets.held 0)) (front (Whole k) f.line.rest) content) n
      (subst (λ (x : End). IsContent base.tables (syntax_of (pair_of x.body.sets.held 0)) (front (Whole used) x.line.rest) content) is isc) in
      let c : content ≡ content' = one_content base.tables (syntax_of (pair_of f.body.sets.held 0)) (front (Whole used') f.line.rest) content content' readable mine isc' in
      let t = same_takings body body' answers answers' told told' (sym re ∙ (λ i. react base (is i).body (bare_message (is i).body.sets.held (c i))) ∙ re') in
      let there : after_all base e (taking (bare_message e.body.sets.held content) answers) ≡ after_all base f (taking (bare_message f.body.sets.held content') answers') = λ i. after_all base (is i) (taking (bare_message (is i).body.sets.held (c i)) (t.answers_are i)) in
      let r = same_reads (after_all base e (taking (bare_message e.body.sets.held content) answers)) (after_all base f (taking (bare_message f.body.sets.held content') answers')) more more' later later' there next next' in
      record {
        steps_are = λ i. taking (bare_message (is i).body.sets.held (c i)) (t.answers_are i) ++ r.steps_are i;
        shown_are = λ i. t.told_are i ++ r.shown_are i;
      }

module _ (ends : Ends) (readable_a : IsReadable ends.a.tables) (readable_b : IsReadable ends.b.tables) (one_content : OneContent) where
  same_feeds : (side : Side) (e : End) (octets : List ℕ) (steps steps' : List Step) (shown shown' : List Indication) → Feeds (base_at ends side) e octets steps shown → Feeds (base_at ends side) e octets steps' shown' → SameReads steps steps' shown shown'
  same_feeds A e octets steps steps' shown shown' x y =
      let r = same_reads ends.a readable_a one_content (after ends.a e (fed octets)) (after ends.a e (fed octets)) x.reading y.reading shown shown' refl x.reads y.reads in
      record { steps_are = x.all ∙ ap (λ (l : List Step). fed octets ∷ l) r.steps_are ∙ sym y.all; shown_are = r.shown_are }
  same_feeds B e octets steps steps' shown shown' x y =
      let r = same_reads ends.b readable_b one_content (after ends.b e (fed octets)) (after ends.b e (fed octets)) x.reading y.reading shown shown' refl x.reads y.reads in
      record { steps_are = x.all ∙ ap (λ (l : List Step). fed octets ∷ l) r.steps_are ∙ sym y.all; shown_are = r.shown_are }

  pub same_runs : (w v x : World) (all : List Event) (told later : List Entry) → Runs ends w all told v → Runs ends w all later x → (told ≡ later) × (v ≡ x)
  same_runs w v x all told later rests rests = (refl, refl)
  same_runs w v x all told later (calls {more = more} {told = rest} side call next) (calls {told = rest'} _ _ next') =
      let r = same_runs (stepping side w (call_steps (base_at ends side) (end_at ends side w).body call)) v x more rest rest' next next' in
      (ap (λ (l : List Entry). entries.Call side call (can_call (base_at ends side) (end_at ends side w).body call) ∷ l) r.0, r.1)
  same_runs w v x all told later (carries {more = more} {told = rest} side most steps shown fd next) (carries {told = rest'} _ _ steps' shown' fd' next') =
      let octets = first_octets most (end_at ends side w).line.waiting in
      let u = stepping side w (gave (length octets) ∷ []) in
      let e = same_feeds (other side) (end_at ends (other side) w) octets steps steps' shown shown' fd fd' in
      let here : Runs ends (stepping (other side) u steps) more rest' x = subst (λ (l : List Step). Runs ends (stepping (other side) u l) more rest' x) (sym e.steps_are) next' in
      let r = same_runs (stepping (other side) u steps) v x more rest rest' next here in
      ((λ i. entries.Carry side most (record { octets = octets; shown = e.shown_are i }) ∷ r.0 i), r.1)
  same_runs w v x all told later (breaks {more = more} {told = rest} next) (breaks {told = rest'} next') =
      let r = same_runs (stepping B (stepping A w (broke ∷ [])) (broke ∷ [])) v x more rest rest' next next' in
      (ap (λ (l : List Entry). entries.Break ∷ l) r.0, r.1)

pub one_run : OneContent → OneRun
one_run one_content tables setup w v x all told later readable f g = same_runs (ends_of setup tables) readable readable one_content w v x all told later f g
