-- The laws of every run, from what two ends keep.
use Rattle.std.proofs.Common.{◌≡◌, refl, true, false, ◌∙◌, sym, ap, subst, List, [], ◌∷◌, ◌++◌, map, ◌⊎◌, inl, inr}
use Rattle.std.proofs.lemmas.List.{map-append}
use Rattle.std.specs.List.{AllByRecursion}
use Rattle.std.proofs.Math.Logic.{∥∥₁_elim}
use Rattle.std.proofs.Math.Bool.{Bool-set}
use Rattle.osi_base.specs.declared.layer_words.Side.{Side}
use Rattle.osi_base.specs.declared.layer_words.Side.TheVariants.{A, B}
use Rattle.osi_base.specs.declared.layer_words.SetItem.{SetItem}
use Rattle.stub_tables.specs.declared.tables.Tables.{Tables}
use Rattle.stub_tables.specs.Readable.{IsReadable}
use Rattle.apdu_spelling.specs.Laws.{WrittenIsSpelled}
use Rattle.dialogue.specs.declared.config.Config.{Config}
use Rattle.dialogue.specs.declared.config.Mode.TheVariants.{Bare}
use Rattle.dialogue.specs.declared.config.Phase.{Phase}
use Rattle.dialogue.specs.declared.config.Phase.TheVariants.{Up, Over}
use Rattle.end_rules.specs.Calling.{is_dead}
use Rattle.dialogue.specs.Config.{IsBare}
use Rattle.dialogue.specs.declared.bare_setup.BareSetup.{BareSetup}
use Rattle.dialogue.specs.declared.event.Event.{Event}
use Rattle.dialogue.specs.declared.event.Entry.{Entry}
use Rattle.end_rules.specs.Base.{Base}
use Rattle.osi_base.specs.SetPlaces.{pair_of}
use Rattle.dialogue.specs.Sides.{other}
use Rattle.end_rules.specs.Messages.{Message, DataValue, Remote}
use Rattle.end_rules.specs.State.{bare_set}
use Rattle.end_rules.specs.History.{Step, called, sent, encoded, fed, took, answered, passed, fault, aborted, feed_end, gave, broke}
use Rattle.end_rules.specs.World.{World, Ends, Shared, base_at as base_of, shared_at, shared_after}
use Rattle.bare_end.specs.end_wire.Bare.{bare_message}
use Rattle.bare_end.specs.end_wire.Values.{bare_spellings}
use Rattle.bare_end.specs.end_wire.Laws.{WrittenIsFirst, OneContent, ContentSays}
use Rattle.agreement.specs.Sets.Role.{Initiator, Responder}
use Rattle.end_model.specs.Seen.{Free}
use Rattle.end_model.specs.Acting.{ReadsBack}
use Rattle.end_model.specs.BothEnds.{base_at, bare_common, HasCodec, BareModelled, WritesAll}
use Rattle.bare_duo.specs.Worlds.{ends_of, end_at, Runs}
use Rattle.bare_duo.specs.Passing.{sent_in, sent_by, taken_by, as_read, at_sending, values_in, sendings, BeginsWith, TakenAsSent, ShownAsTaken}
use Rattle.run_laws.specs.Outcomes.{Invocation, ToldOutcome, invocations, answers, told_invocations, outcomes, IsAllowed, Differ}
use Rattle.bare_duo.specs.Outcomes.{invocations_in, outcomes_in, AreNumbered}
use Rattle.bare_duo.specs.Laws.{IsCalm, NothingWrong, NobodyIsDead, KeepsLaws, EveryRunKeepsLaws}
use Rattle.bare_duo.specs.Shows.{shown_all}
use Rattle.bare_duo.proofs.Flights.{IsSent, AllSent, parts}
use Rattle.bare_duo.proofs.Writable.{reads_back}
use Rattle.bare_duo.proofs.Kept.{phases, asked, answered_in, asked-append, answered-append}
use Rattle.bare_duo.proofs.AllRuns.{Added, first_kept, runs_keep}
use Rattle.bare_duo.proofs.Carries.{taken_whole, carries_show}

-- ---- the one shared set stays, so each value has its pair

module _ (t : Tables) (ends : Ends) (first : (shared_at ends []).set ≡ bare_set t) (a_bare : ends.a.mode ≡ Bare) (b_bare : ends.b.mode ≡ Bare) where
  -- what is sent changes nothing of it
  sent_still : (base : Base) (side : Side) (m : Message) (shared : Shared) → IsSent t m → shared_after base side (sent m) shared ≡ shared
  sent_still base side m shared s = ap (λ (k : Message). shared_after base side (sent k) shared) s.is_its

  step_still : (base : Base) (side : Side) (x : Step) (shared : Shared) → IsCalm x → AllSent t (sent_in x) → shared_after base side x shared ≡ shared
  step_still base side (sent m) shared c s = sent_still base side m shared s.0
  step_still base side (called call reply) shared c s = refl
  step_still base side (fed octets) shared c s = refl
  step_still base side (took m) shared c s = refl
  step_still base side feed_end shared c s = refl
  step_still base side (gave n) shared c s = refl
  step_still base side broke shared c s = refl
  step_still base side (answered to m) shared c s = absurd c
  step_still base side (aborted m) shared c s = absurd c
  step_still base side passed shared c s = absurd c
  step_still base side (fault layer place reason) shared c s = absurd c
  step_still base side (encoded context) shared c s = absurd c

  record Sends (w : World) : Type 0 where
    of_a : AllSent t (sent_by A w)
    of_b : AllSent t (sent_by B w)

  one_step : (w : World) (side : Side) (x : Step) → (shared_at ends w).set ≡ bare_set t → IsCalm x → AllSent t (sent_in x) → (shared_after (base_of ends side) side x (shared_at ends w)).set ≡ bare_set t
  one_step w side x h c s = ap (λ (k : Shared). k.set) (step_still (base_of ends side) side x (shared_at ends w) c s) ∙ h

  step_shared : (w : World) (side : Side) (x : Step) → (Sends w → (shared_at ends w).set ≡ bare_set t) → IsCalm x → Sends (record { side = side; step = x } ∷ w) → (shared_at ends (record { side = side; step = x } ∷ w)).set ≡ bare_set t
  step_shared w A x ih c s =
      let p = parts t (sent_by A w) (sent_in x) s.of_a in one_step w A x (ih (record { of_a = p.front; of_b = s.of_b })) c p.back
  step_shared w B x ih c s =
      let p = parts t (sent_by B w) (sent_in x) s.of_b in one_step w B x (ih (record { of_a = s.of_a; of_b = p.front })) c p.back

  shared_stays : (w : World) → NothingWrong w → Sends w → (shared_at ends w).set ≡ bare_set t
  shared_stays [] c s = first
  shared_stays (m ∷ w) c s = step_shared w m.side m.step (shared_stays w c.1) c.0 s

  -- each value has at its sending the pair under which it is read
  same_pair : (w : World) (m : Message) → (shared_at ends w).set ≡ bare_set t → IsSent t m → at_sending ends w m ≡ as_read m
  same_pair w m h s =
      ap (at_sending ends w) s.is_its
      ∙ ap (λ (set : List SetItem). record { message = bare_message (bare_set t) (Remote s.apdu); pairs = map (λ (v : DataValue). pair_of set v.id) (values_in (bare_message (bare_set t) (Remote s.apdu))) }) h
      ∙ ap as_read (sym s.is_its)

  same_pairs : (w : World) (ms : List Message) → (shared_at ends w).set ≡ bare_set t → AllSent t ms → map (at_sending ends w) ms ≡ map as_read ms
  same_pairs w [] h s = refl
  same_pairs w (m ∷ ms) h s = λ i. same_pair w m h s.0 i ∷ same_pairs w ms h s.1 i

  step_a : (w : World) (side : Side) (x : Step) → (Sends w → sendings ends A w ≡ map as_read (sent_by A w)) → NothingWrong w → Sends (record { side = side; step = x } ∷ w) → sendings ends A (record { side = side; step = x } ∷ w) ≡ map as_read (sent_by A (record { side = side; step = x } ∷ w))
  step_a w A x ih c s =
      let p = parts t (sent_by A w) (sent_in x) s.of_a in
      let k : Sends w = record { of_a = p.front; of_b = s.of_b } in
      (λ i. ih k i ++ same_pairs w (sent_in x) (shared_stays w c k) p.back i) ∙ sym (map-append as_read (sent_by A w) (sent_in x))
  step_a w B x ih c s =
      let p = parts t (sent_by B w) (sent_in x) s.of_b in ih (record { of_a = s.of_a; of_b = p.front })

  sendings_a : (w : World) → NothingWrong w → Sends w → sendings ends A w ≡ map as_read (sent_by A w)
  sendings_a [] c s = refl
  sendings_a (m ∷ w) c s = step_a w m.side m.step (sendings_a w c.1) c.1 s

  step_b : (w : World) (side : Side) (x : Step) → (Sends w → sendings ends B w ≡ map as_read (sent_by B w)) → NothingWrong w → Sends (record { side = side; step = x } ∷ w) → sendings ends B (record { side = side; step = x } ∷ w) ≡ map as_read (sent_by B (record { side = side; step = x } ∷ w))
  step_b w B x ih c s =
      let p = parts t (sent_by B w) (sent_in x) s.of_b in
      let k : Sends w = record { of_a = s.of_a; of_b = p.front } in
      (λ i. ih k i ++ same_pairs w (sent_in x) (shared_stays w c k) p.back i) ∙ sym (map-append as_read (sent_by B w) (sent_in x))
  step_b w A x ih c s =
      let p = parts t (sent_by A w) (sent_in x) s.of_a in ih (record { of_a = p.front; of_b = s.of_b })

  sendings_b : (w : World) → NothingWrong w → Sends w → sendings ends B w ≡ map as_read (sent_by B w)
  sendings_b [] c s = refl
  sendings_b (m ∷ w) c s = step_b w m.side m.step (sendings_b w c.1) c.1 s

-- ---- the laws of ends of the model

abbrev model_of : Tables → Config → Config → Ends
model_of t ca cb = record { a = base_at Initiator (bare_common t (bare_spellings t) ca cb); b = base_at Responder (bare_common t (bare_spellings t) ca cb) }

module _ (t : Tables) (ca cb : Config) (free : Free) (readable : IsReadable t) (writes : WritesAll free) (modelled : BareModelled) (first_law : WrittenIsFirst) (one_content : OneContent) (back : ReadsBack (base_at Initiator (bare_common t (bare_spellings t) ca cb))) where
  model_laws : (all : List Event) (told : List Entry) (w : World) → Runs (model_of t ca cb) [] all told w → KeepsLaws t (model_of t ca cb) told w
  model_laws all told w r =
      let x = runs_keep t ca cb free readable writes modelled first_law one_content back [] w all told r (first_kept t ca cb free readable writes modelled first_law one_content back) in
      let h = x.kept.holds in
      record {
        taken_as_sent = as_sent x;
        takes_allowed = x.kept.allowed;
        one_outcome = record { invoked = invoked x; numbered = numbered x; answered = answered_so x; once = once x; allowed = allowed x };
        nothing_wrong = x.kept.calm;
        nobody_is_dead = nobody x;
        nothing_whole_waits = x.kept.whole;
        taken_when_whole = taken_whole t ca cb free readable writes modelled first_law one_content back w x.kept;
        shown_as_taken = shown x;
        carries_show = carries_show t ca cb free readable writes modelled first_law one_content back all told w r;
      }
    where
      as_sent : Added t ca cb free readable writes modelled first_law one_content back [] w told → TakenAsSent (model_of t ca cb) w
      as_sent x A =
          let h = x.kept.holds in
          let s = sendings_a t (model_of t ca cb) refl refl refl w x.kept.calm (record { of_a = h.from.all; of_b = h.to.all }) in
          record { more = map as_read (h.from.gone ++ h.two.to_b); whole = s ∙ ap (λ (ms : List Message). map as_read ms) h.from.kept ∙ map-append as_read (taken_by B w) (h.from.gone ++ h.two.to_b) }
      as_sent x B =
          let h = x.kept.holds in
          let s = sendings_b t (model_of t ca cb) refl refl refl w x.kept.calm (record { of_a = h.from.all; of_b = h.to.all }) in
          record { more = map as_read (h.to.gone ++ h.two.to_a); whole = s ∙ ap (λ (ms : List Message). map as_read ms) h.to.kept ∙ map-append as_read (taken_by A w) (h.to.gone ++ h.two.to_a) }

      shown : Added t ca cb free readable writes modelled first_law one_content back [] w told → ShownAsTaken t told w
      shown x A = x.shown_a ∙ ap (shown_all t) (sym x.took_a)
      shown x B = x.shown_b ∙ ap (shown_all t) (sym x.took_b)

      not-dead : (p : Phase) → (p ≡ Up) ⊎ (p ≡ Over) → is_dead p ≡ false
      not-dead p (inl e) = ap is_dead e
      not-dead p (inr e) = ap is_dead e

      nobody : Added t ca cb free readable writes modelled first_law one_content back [] w told → NobodyIsDead (model_of t ca cb) w
      nobody x A =
          let h = x.kept.holds in
          not-dead (end_at (model_of t ca cb) A w).body.link.phase (phases t ca cb free readable writes modelled first_law one_content back Initiator h.two (end_at (model_of t ca cb) A w).body h.reached h.own_is)
      nobody x B =
          let h = x.kept.holds in
          not-dead (end_at (model_of t ca cb) B w).body.link.phase (phases t ca cb free readable writes modelled first_law one_content back Responder h.two (end_at (model_of t ca cb) B w).body h.reached h.peer_is)

      -- what an end was told of is the beginning of what the other said
      begins : {X : Type 0} (f : List Message → List X) → ((ms ns : List Message) → f (ms ++ ns) ≡ f ms ++ f ns) → (all front : List X) (sent_all taken rest : List Message) → all ≡ f sent_all → sent_all ≡ taken ++ rest
          → front ≡ f taken → BeginsWith all front
      begins f splits all front sent_all taken rest e k g = record { more = f rest; whole = e ∙ ap f k ∙ splits taken rest ∙ ap (λ xs. xs ++ f rest) (sym g) }

      invoked : Added t ca cb free readable writes modelled first_law one_content back [] w told → (side : Side) → BeginsWith (invocations side told) (told_invocations (other side) told)
      invoked x A =
          let h = x.kept.holds in
          begins (asked t) (asked-append t) (invocations A told) (told_invocations B told) (sent_by A w) (taken_by B w) (h.from.gone ++ h.two.to_b)
          (x.asks_a ∙ ap (asked t) (sym x.sent_a)) h.from.kept (ap invocations_in (shown x B))
      invoked x B =
          let h = x.kept.holds in
          begins (asked t) (asked-append t) (invocations B told) (told_invocations A told) (sent_by B w) (taken_by A w) (h.to.gone ++ h.two.to_a)
          (x.asks_b ∙ ap (asked t) (sym x.sent_b)) h.to.kept (ap invocations_in (shown x A))

      answered_so : Added t ca cb free readable writes modelled first_law one_content back [] w told → (side : Side) → BeginsWith (answers side told) (outcomes (other side) told)
      answered_so x A =
          let h = x.kept.holds in
          begins (answered_in t) (answered-append t) (answers A told) (outcomes B told) (sent_by A w) (taken_by B w) (h.from.gone ++ h.two.to_b)
          (x.gives_a ∙ ap (answered_in t) (sym x.sent_a)) h.from.kept (ap outcomes_in (shown x B))
      answered_so x B =
          let h = x.kept.holds in
          begins (answered_in t) (answered-append t) (answers B told) (outcomes A told) (sent_by B w) (taken_by A w) (h.to.gone ++ h.two.to_a)
          (x.gives_b ∙ ap (answered_in t) (sym x.sent_b)) h.to.kept (ap outcomes_in (shown x A))

      -- what an end invoked, as the transcript tells it
      made_is : Added t ca cb free readable writes modelled first_law one_content back [] w told → (side : Side) → asked t (sent_by side w) ≡ invocations side told
      made_is x A = ap (asked t) x.sent_a ∙ sym x.asks_a
      made_is x B = ap (asked t) x.sent_b ∙ sym x.asks_b

      told_is : Added t ca cb free readable writes modelled first_law one_content back [] w told → (side : Side) → answered_in t (taken_by side w) ≡ outcomes side told
      told_is x side = ap outcomes_in (sym (shown x side))

      numbered : Added t ca cb free readable writes modelled first_law one_content back [] w told → (side : Side) → AreNumbered 0 (invocations side told)
      numbered x A = subst (AreNumbered 0) (made_is x A) x.kept.holds.own_settled.numbered
      numbered x B = subst (AreNumbered 0) (made_is x B) x.kept.holds.peer_settled.numbered

      once : Added t ca cb free readable writes modelled first_law one_content back [] w told → (side : Side) → Differ (outcomes side told)
      once x A = subst Differ (told_is x A) x.kept.holds.own_settled.once
      once x B = subst Differ (told_is x B) x.kept.holds.peer_settled.once

      of_these : (made was : List Invocation) (now is_now : List ToldOutcome) → made ≡ was → now ≡ is_now → AllByRecursion (IsAllowed t made) now → AllByRecursion (IsAllowed t was) is_now
      of_these made was now is_now e f h = subst (λ (os : List ToldOutcome). AllByRecursion (IsAllowed t was) os) f (subst (λ (is : List Invocation). AllByRecursion (IsAllowed t is) now) e h)

      allowed : Added t ca cb free readable writes modelled first_law one_content back [] w told → (side : Side) → AllByRecursion (IsAllowed t (invocations side told)) (outcomes side told)
      allowed x A = of_these (asked t (sent_by A w)) (invocations A told) (answered_in t (taken_by A w)) (outcomes A told) (made_is x A) (told_is x A) x.kept.holds.own_settled.allowed
      allowed x B = of_these (asked t (sent_by B w)) (invocations B told) (answered_in t (taken_by B w)) (outcomes B told) (made_is x B) (told_is x B) x.kept.holds.peer_settled.allowed

-- ---- the laws of ends of a setup

initiator_is : (setup : BareSetup) → setup.a.initiator ≡ true
initiator_is setup = ∥∥₁_elim setup.initiator (Bool-set setup.a.initiator true) (λ (is : IsBare true setup.a). is.side)

responder_is : (setup : BareSetup) → setup.b.initiator ≡ false
responder_is setup = ∥∥₁_elim setup.responder (Bool-set setup.b.initiator false) (λ (is : IsBare false setup.b). is.side)

same_ends : (t : Tables) (setup : BareSetup) → model_of t setup.a setup.b ≡ ends_of setup t
same_ends t setup = λ i. record {
  a = record { tables = t; config = setup.a; initiator = sym (initiator_is setup) i; mode = Bare; spellings = bare_spellings t };
  b = record { tables = t; config = setup.b; initiator = sym (responder_is setup) i; mode = Bare; spellings = bare_spellings t };
}

pub every_run_keeps_laws : HasCodec → BareModelled → WrittenIsFirst → OneContent → ContentSays → WrittenIsSpelled → EveryRunKeepsLaws
every_run_keeps_laws codec modelled first_law one_content says spelled tables setup all told w readable =
    let pair = bare_common tables (bare_spellings tables) setup.a setup.b in
    let back : ReadsBack (base_at Initiator pair) = reads_back tables setup.a (base_at Initiator pair) readable refl refl spelled says in
    subst (λ (e : Ends). Runs e [] all told w → KeepsLaws tables e told w) (same_ends tables setup)
    (model_laws tables setup.a setup.b codec.0 readable codec.1 modelled first_law one_content back all told w)
