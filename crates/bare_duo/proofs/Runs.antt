-- Runs that go on, and what each event does to two ends.
use Rattle.std.proofs.Common.{◌≡◌, ℕ, List, [], ◌∷◌, ◌++◌, length, map, Option, refl, sym, ap, subst, ◌∙◌}
use Rattle.osi_base.specs.declared.layer_words.Side.{Side}
use Rattle.osi_base.specs.declared.layer_words.Side.TheVariants.{A, B}
use Rattle.dialogue.specs.Sides.{other}
use Rattle.dialogue.specs.Carries.{first_octets}
use Rattle.stub_tables.specs.declared.tables.Tables.{Tables}
use Rattle.stub_tables.specs.Readable.{IsReadable}
use Rattle.dialogue.specs.declared.call.Call.{Call}
use Rattle.dialogue.specs.declared.config.Config.{Config}
use Rattle.dialogue.specs.declared.bare_setup.BareSetup.{BareSetup}
use Rattle.dialogue.specs.declared.event.Event.{Event}
use Rattle.dialogue.specs.declared.event.Event.TheVariants as events
use Rattle.dialogue.specs.declared.event.Entry.{Entry}
use Rattle.dialogue.specs.declared.event.Entry.TheVariants as entries
use Rattle.dialogue.specs.declared.event.Carried.{Carried}
use Rattle.dialogue.specs.declared.event.Transcript.{Transcript}
use Rattle.two_ends.specs.Conduct.{given_out}
use Rattle.two_ends.specs.Events.{AnsweredOne, AnsweredAt, CarriedOver, CarriedFrom, Happened, called as was_called, carried_over, both_broke, AllHappened, nothing_yet, one_more}
use Rattle.end_rules.specs.Base.{Base}
use Rattle.end_rules.specs.Invoking.{Reply}
use Rattle.end_rules.specs.Calling.{can_call}
use Rattle.end_rules.specs.Requesting.{due_of}
use Rattle.end_rules.specs.History.{Step, History, called, sent, gave, broke, call_steps}
use Rattle.end_rules.specs.World.{World, Ends, base_at, history_of}
use Rattle.bare_end.specs.end_wire.Bare.{bare_base}
use Rattle.bare_end.specs.end_wire.Line.{End, end_of, going_on}
use Rattle.bare_end.specs.end_wire.Feeding.{Feeds}
use Rattle.bare_end.specs.View.{EndView, base, body, seen, Stepped, StandsFor}
use Rattle.bare_end.proofs.Histories.{stands_on}
use Rattle.bare_duo.specs.Worlds.{ends_of, end_at, stepping, Runs, rests, calls, carries, breaks}
use Rattle.bare_duo.specs.Laws.{EveryRunKeepsLaws}
use Rattle.bare_duo.specs.Ran.{StandsAt, Stand, Told, RanFromStart}
use Rattle.bare_duo.specs.Steps.{conduct, RunsOn}

-- ---- one run after another

runs-append : (e : Ends) (u v w : World) (all more : List Event) (told later : List Entry) → Runs e u all told v → Runs e v more later w → Runs e u (all ++ more) (told ++ later) w
runs-append e u v w all more told later rests r = r
runs-append e u v w all more told later (calls {more = rest} {told = shown} side call next) r =
    calls side call (runs-append e (stepping side u (call_steps (base_at e side) (end_at e side u).body call)) v w rest more shown later next r)
runs-append e u v w all more told later (carries {more = rest} {told = shown} side most steps indications fd next) r =
    carries side most steps indications fd
    (runs-append e (stepping (other side) (stepping side u (gave (length (first_octets most (end_at e side u).line.waiting)) ∷ [])) steps) v w rest more shown later next r)
runs-append e u v w all more told later (breaks {more = rest} {told = shown} next) r =
    breaks (runs-append e (stepping B (stepping A u (broke ∷ [])) (broke ∷ [])) v w rest more shown later next r)

runs_none : (a b : EndView) → RunsOn [] [] a b a b
runs_none a b setup t w s = record { world = w; runs = rests; stand = s }

runs_more : (all more : List Event) (told later : List Entry) (a b a1 b1 a2 b2 : EndView) → RunsOn all told a b a1 b1 → RunsOn more later a1 b1 a2 b2 → RunsOn (all ++ more) (told ++ later) a b a2 b2
runs_more all more told later a b a1 b1 a2 b2 f g setup t w s =
    let one = f setup t w s in
    let two = g setup t one.world one.stand in
    record { world = two.world; runs = runs-append (ends_of setup t) w one.world two.world all more told later one.runs two.runs; stand = two.stand }

-- ---- one end's steps

stepped_history : (side : Side) (w : World) (steps : List Step) → history_of side (stepping side w steps) ≡ going_on (history_of side w) steps
stepped_history A w [] = refl
stepped_history A w (x ∷ xs) = stepped_history A (record { side = A; step = x } ∷ w) xs
stepped_history B w [] = refl
stepped_history B w (x ∷ xs) = stepped_history B (record { side = B; step = x } ∷ w) xs

left_alone : (side : Side) (w : World) (steps : List Step) → history_of side (stepping (other side) w steps) ≡ history_of side w
left_alone A w [] = refl
left_alone A w (x ∷ xs) = left_alone A (record { side = B; step = x } ∷ w) xs
left_alone B w [] = refl
left_alone B w (x ∷ xs) = left_alone B (record { side = A; step = x } ∷ w) xs

other_alone : (side : Side) (w : World) (steps : List Step) → history_of (other side) (stepping side w steps) ≡ history_of (other side) w
other_alone A w steps = left_alone B w steps
other_alone B w steps = left_alone A w steps

-- what was given out is a step
gave_so : (e f : EndView) (n : ℕ) → f ≡ given_out conduct n e → Stepped e f (gave n ∷ [])
gave_so e f n is = record { tables = ap (λ (x : EndView). x.tables) is; config = ap (λ (x : EndView). x.config) is; end = ap seen is }

module _ (setup : BareSetup) (t : Tables) where
  -- an end that made steps stands for its history with them
  made_steps : (side : Side) (w : World) (e f : EndView) (steps : List Step) → StandsAt setup t side w e → Stepped e f steps → StandsAt setup t side (stepping side w steps) f
  made_steps side w e f steps s m = record {
    tables_are = m.tables ∙ s.tables_are;
    config_is = m.config ∙ s.config_is;
    stands = subst (λ (h : History). StandsFor f h) (sym (stepped_history side w steps)) (stands_on e f steps m (history_of side w) s.stands);
  }

  -- one that made none stands for the same
  kept_still : (side : Side) (w v : World) (e f : EndView) → history_of side v ≡ history_of side w → f ≡ e → StandsAt setup t side w e → StandsAt setup t side v f
  kept_still side w v e f h is s =
      let same : StandsAt setup t side w f = subst (λ (x : EndView). StandsAt setup t side w x) (sym is) s in
      record { tables_are = same.tables_are; config_is = same.config_is; stands = subst (λ (x : History). StandsFor f x) (sym h) same.stands }

  -- what such an end is
  its_base : (side : Side) (w : World) (e : EndView) → StandsAt setup t side w e → base e ≡ base_at (ends_of setup t) side
  its_base A w e s = λ i. bare_base (s.tables_are i) (s.config_is i)
  its_base B w e s = λ i. bare_base (s.tables_are i) (s.config_is i)

  its_end : (side : Side) (w : World) (e : EndView) → StandsAt setup t side w e → seen e ≡ end_at (ends_of setup t) side w
  its_end side w e s = s.stands ∙ ap (λ (b : Base). end_of b (history_of side w)) (its_base side w e s)

  -- ---- a call

  abbrev after_call_at : Side → World → Call → World
  after_call_at side w call = stepping side w (call_steps (base_at (ends_of setup t) side) (end_at (ends_of setup t) side w).body call)

  can_same : (side : Side) (w : World) (call : Call) (e : EndView) → StandsAt setup t side w e → can_call (base e) (body e) call ≡ can_call (base_at (ends_of setup t) side) (end_at (ends_of setup t) side w).body call
  can_same side w call e s =
      ap (λ (b : Base). can_call b (body e) call) (its_base side w e s)
      ∙ ap (λ (x : End). can_call (base_at (ends_of setup t) side) x.body call) (its_end side w e s)

  steps_same : (side : Side) (w : World) (call : Call) (answer : Reply) (e : EndView) → StandsAt setup t side w e → answer ≡ can_call (base e) (body e) call
      → called call answer ∷ map sent (due_of (base e) (body e) call answer) ≡ call_steps (base_at (ends_of setup t) side) (end_at (ends_of setup t) side w).body call
  steps_same side w call answer e s a =
      ap (λ (r : Reply). called call r ∷ map sent (due_of (base e) (body e) call r)) a
      ∙ ap (λ (b : Base). call_steps b (body e) call) (its_base side w e s)
      ∙ ap (λ (x : End). call_steps (base_at (ends_of setup t) side) x.body call) (its_end side w e s)

  pub record CallRan (side : Side) (w : World) (call : Call) (answer : Reply) (end rest : EndView) : Type 0 where
    pub answer_is : answer ≡ can_call (base_at (ends_of setup t) side) (end_at (ends_of setup t) side w).body call
    pub end_stands : StandsAt setup t side (after_call_at side w call) end
    pub rest_stands : StandsAt setup t (other side) (after_call_at side w call) rest

  call_ran : (side : Side) (w : World) (call : Call) (answer : Reply) (e rest e1 rest1 : EndView) → StandsAt setup t side w e → StandsAt setup t (other side) w rest
      → AnsweredOne conduct call answer e rest e1 rest1 → CallRan side w call answer e1 rest1
  call_ran side w call answer e rest e1 rest1 s r h =
      let same = steps_same side w call answer e s h.answered.reply_is in
      record {
        answer_is = h.answered.reply_is ∙ can_same side w call e s;
        end_stands = made_steps side w e e1 (call_steps (base_at (ends_of setup t) side) (end_at (ends_of setup t) side w).body call) s (subst (λ (xs : List Step). Stepped e e1 xs) same h.answered.steps);
        rest_stands = kept_still (other side) w (after_call_at side w call) rest rest1 (other_alone side w (call_steps (base_at (ends_of setup t) side) (end_at (ends_of setup t) side w).body call)) h.kept r;
      }

  call_runs : (side : Side) (w : World) (call : Call) (answer : Reply) → answer ≡ can_call (base_at (ends_of setup t) side) (end_at (ends_of setup t) side w).body call
      → Runs (ends_of setup t) w (events.Call side call ∷ []) (entries.Call side call answer ∷ []) (after_call_at side w call)
  call_runs side w call answer e =
      subst (λ (r : Reply). Runs (ends_of setup t) w (events.Call side call ∷ []) (entries.Call side call r ∷ []) (after_call_at side w call)) (sym e) (calls side call rests)

  -- ---- a carry

  pub record CarryRan (side : Side) (w : World) (most : Option ℕ) (carried : Carried) (from to : EndView) : Type 0 where
    pub world : World
    pub runs : Runs (ends_of setup t) w (events.Carry side most ∷ []) (entries.Carry side most carried ∷ []) world
    pub from_stands : StandsAt setup t side world from
    pub to_stands : StandsAt setup t (other side) world to

  carry_ran : (side : Side) (w : World) (most : Option ℕ) (carried : Carried) (from to from1 to1 : EndView) → StandsAt setup t side w from → StandsAt setup t (other side) w to
      → CarriedOver conduct conduct most carried from to from1 to1 → CarryRan side w most carried from1 to1
  carry_ran side w most carried from to from1 to1 s r h =
      let octets = first_octets most (end_at (ends_of setup t) side w).line.waiting in
      let moved : carried.octets ≡ octets = h.octets_are ∙ ap (λ (x : End). first_octets most x.line.waiting) (its_end side w from s) in
      let give : List Step = gave (length octets) ∷ [] in
      let u = stepping side w give in
      let v = stepping (other side) u h.feeds.steps in
      let gives : Stepped from from1 give = subst (λ (bytes : List ℕ). Stepped from from1 (gave (length bytes) ∷ [])) moved (gave_so from from1 (length carried.octets) h.gives) in
      let fd : Feeds (base_at (ends_of setup t) (other side)) (end_at (ends_of setup t) (other side) w) octets h.feeds.steps carried.shown
      = subst (λ (b : Base). Feeds b (end_at (ends_of setup t) (other side) w) octets h.feeds.steps carried.shown) (its_base (other side) w to r)
      (subst (λ (x : End). Feeds (base to) x octets h.feeds.steps carried.shown) (its_end (other side) w to r)
      (subst (λ (bytes : List ℕ). Feeds (base to) (seen to) bytes h.feeds.steps carried.shown) moved h.feeds.feeds)) in
      let plain : Runs (ends_of setup t) w (events.Carry side most ∷ []) (entries.Carry side most (record { octets = octets; shown = carried.shown }) ∷ []) v
      = carries side most h.feeds.steps carried.shown fd rests in
      record {
        world = v;
        runs = subst (λ (bytes : List ℕ). Runs (ends_of setup t) w (events.Carry side most ∷ []) (entries.Carry side most (record { octets = bytes; shown = carried.shown }) ∷ []) v) (sym moved) plain;
        from_stands = kept_still side u v from1 from1 (left_alone side u h.feeds.steps) refl (made_steps side w from from1 give s gives);
        to_stands = made_steps (other side) u to to1 h.feeds.steps (kept_still (other side) w u to to (other_alone side w give) refl r) h.feeds.made;
      }

-- ---- the events

runs_call : (side : Side) (call : Call) (answer : Reply) (a b a1 b1 : EndView) → AnsweredAt conduct conduct side call answer a b a1 b1 → RunsOn (events.Call side call ∷ []) (entries.Call side call answer ∷ []) a b a1 b1
runs_call A call answer a b a1 b1 h setup t w s =
    let r = call_ran setup t A w call answer a b a1 b1 s.a_stands s.b_stands h in
    record { world = after_call_at setup t A w call; runs = call_runs setup t A w call answer r.answer_is; stand = record { a_stands = r.end_stands; b_stands = r.rest_stands } }
runs_call B call answer a b a1 b1 h setup t w s =
    let r = call_ran setup t B w call answer b a b1 a1 s.b_stands s.a_stands h in
    record { world = after_call_at setup t B w call; runs = call_runs setup t B w call answer r.answer_is; stand = record { a_stands = r.rest_stands; b_stands = r.end_stands } }

runs_carry : (side : Side) (most : Option ℕ) (carried : Carried) (a b a1 b1 : EndView) → CarriedFrom conduct conduct side most carried a b a1 b1 → RunsOn (events.Carry side most ∷ []) (entries.Carry side most carried ∷ []) a b a1 b1
runs_carry A most carried a b a1 b1 h setup t w s =
    let r = carry_ran setup t A w most carried a b a1 b1 s.a_stands s.b_stands h in
    record { world = r.world; runs = r.runs; stand = record { a_stands = r.from_stands; b_stands = r.to_stands } }
runs_carry B most carried a b a1 b1 h setup t w s =
    let r = carry_ran setup t B w most carried b a b1 a1 s.b_stands s.a_stands h in
    record { world = r.world; runs = r.runs; stand = record { a_stands = r.to_stands; b_stands = r.from_stands } }

runs_break : (a b a1 b1 : EndView) → Stepped a a1 (broke ∷ []) → Stepped b b1 (broke ∷ []) → RunsOn (events.Break ∷ []) (entries.Break ∷ []) a b a1 b1
runs_break a b a1 b1 e f setup t w s =
    let u = stepping A w (broke ∷ []) in
    let v = stepping B u (broke ∷ []) in
    record {
      world = v;
      runs = breaks rests;
      stand = record {
        a_stands = kept_still setup t A u v a1 a1 (left_alone A u (broke ∷ [])) refl (made_steps setup t A w a a1 (broke ∷ []) s.a_stands e);
        b_stands = made_steps setup t B u b b1 (broke ∷ []) (kept_still setup t B w u b b (left_alone B w (broke ∷ [])) refl s.b_stands) f;
      };
    }

-- ---- one event after another

runs_one : (event : Event) (entry : Entry) (a b a1 b1 : EndView) → Happened conduct conduct event entry a b a1 b1 → RunsOn (event ∷ []) (entry ∷ []) a b a1 b1
runs_one event entry a b a1 b1 (was_called side call answer h) = runs_call side call answer a b a1 b1 h
runs_one event entry a b a1 b1 (carried_over side most carried h) = runs_carry side most carried a b a1 b1 h
runs_one event entry a b a1 b1 (both_broke e f) = runs_break a b a1 b1 e f

pub runs_all : (a b : EndView) (all : List Event) (told : List Entry) (a1 b1 : EndView) → AllHappened conduct conduct a b all told a1 b1 → RunsOn all told a b a1 b1
runs_all a b all told a1 b1 nothing_yet = runs_none a b
runs_all a b all told a1 b1 (one_more {all = before} {told = shown} {a_then = a2} {b_then = b2} event entry passed h) =
    runs_more before (event ∷ []) shown (entry ∷ []) a b a2 b2 a1 b1 (runs_all a b before shown a2 b2 passed) (runs_one event entry a2 b2 a1 b1 h)

-- ---- the whole run, told

pub run_told : (all : List Event) (transcript : Transcript) (a b a1 b1 : EndView) → RunsOn all transcript.entries a b a1 b1 → transcript.mode ≡ a.config.mode → transcript.a ≡ a1.phase → transcript.b ≡ b1.phase
    → (setup : BareSetup) (t : Tables) (w : World) → Stand setup t w a b → Told setup t w all transcript a1 b1
run_told all transcript a b a1 b1 runs m p q setup t w s =
    let r = runs setup t w s in
    record {
      ran = r;
      mode = m ∙ ap (λ (c : Config). c.mode) s.a_stands.config_is;
      a_phase = p ∙ ap (λ (x : End). x.body.link.phase) (its_end setup t A r.world a1 r.stand.a_stands);
      b_phase = q ∙ ap (λ (x : End). x.body.link.phase) (its_end setup t B r.world b1 r.stand.b_stands);
    }

-- a run from the start is one of these
pub from_start : EveryRunKeepsLaws → (all : List Event) (transcript : Transcript) (a b a1 b1 : EndView) → IsReadable a.tables → RunsOn all transcript.entries a b a1 b1 → transcript.mode ≡ a.config.mode → transcript.a ≡ a1.phase → transcript.b ≡ b1.phase
    → (setup : BareSetup) → Stand setup a.tables [] a b → RanFromStart setup a.tables all transcript a1 b1
from_start keeps all transcript a b a1 b1 readable runs m p q setup s =
    let t : Told setup a.tables [] all transcript a1 b1 = run_told all transcript a b a1 b1 runs m p q setup a.tables [] s in
    record { readable = readable; told = t; laws = keeps a.tables setup all transcript.entries t.ran.world readable t.ran.runs }
