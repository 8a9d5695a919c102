-- Every run of two ends in bare mode keeps the laws.
use Rattle.std.proofs.Common.{◌≡◌, refl, false, ◌∙◌, sym, ap, subst, ℕ, zero, suc, ◌+◌, List, [], ◌∷◌, ◌++◌, length, drop, take, append_assoc}
use Rattle.std.proofs.lemmas.List.{append-nil}
use Rattle.std.specs.Prelude.{Option, Some, None, Ok, Err}
use Rattle.osi_base.specs.declared.layer_words.Side.{Side}
use Rattle.osi_base.specs.declared.layer_words.Side.TheVariants.{A, B}
use Rattle.dialogue.specs.Carries.{first_octets}
use Rattle.stub_tables.specs.declared.tables.Tables.{Tables}
use Rattle.stub_tables.specs.Readable.{IsReadable}
use Rattle.dialogue.specs.declared.config.Config.{Config}
use Rattle.dialogue.specs.declared.event.Event.{Event}
use Rattle.dialogue.specs.declared.event.Entry.{Entry}
use Rattle.dialogue.specs.declared.event.Entry.TheVariants as entries
use Rattle.dialogue.specs.declared.indication.Indication.{Indication}
use Rattle.dialogue.specs.declared.call.Call.{Call}
use Rattle.dialogue.specs.declared.call.Call.TheVariants as the_calls
use Rattle.dialogue.specs.declared.call.CallRefusal.{CallRefusal}
use Rattle.end_rules.specs.Base.{Base}
use Rattle.end_rules.specs.Messages.{Message}
use Rattle.end_rules.specs.State.{Body, passes_over}
use Rattle.end_rules.specs.Invoking.{Reply}
use Rattle.end_rules.specs.Calling.{can_call}
use Rattle.end_rules.specs.Requesting.{due_of}
use Rattle.end_rules.specs.History.{Step, called, fed, gave, broke, call_steps}
use Rattle.end_rules.specs.World.{World, Ends}
use Rattle.bare_end.specs.end_wire.Bare.{Short, first_at}
use Rattle.bare_end.specs.end_wire.Line.{End, after}
use Rattle.bare_end.specs.end_wire.Feeding.{Reads}
use Rattle.bare_end.specs.end_wire.Laws.{WrittenIsFirst, OneContent}
use Rattle.agreement.specs.Sets.{Role}
use Rattle.agreement.specs.Sets.Role.{Initiator, Responder}
use Rattle.end_model.specs.Seen.{Free}
use Rattle.end_model.specs.Acting.{ReadsBack}
use Rattle.end_model.specs.BothEnds.{base_at, two_new, begins, WritesAll, BareModelled}
use Rattle.bare_duo.specs.Shows.{shown_all}
use Rattle.bare_duo.specs.Worlds.{end_at, stepping, Runs, rests, calls, carries, breaks}
use Rattle.run_laws.specs.Showing.{indications_in, indications_at}
use Rattle.bare_duo.specs.Passing.{sent_by, taken_by}
use Rattle.run_laws.specs.Outcomes.{invoked_by, answered_by, called_at, all_called, invocations, answers}
use Rattle.bare_duo.specs.Allowed.{TakesAllowed}
use Rattle.bare_duo.specs.Carrying.{octets_given}
use Rattle.bare_duo.specs.Laws.{NothingWrong, NothingWholeWaits}
use Rattle.bare_duo.proofs.Settling.{settled-new}
use Rattle.bare_duo.proofs.Told.{called_so}
use Rattle.bare_duo.proofs.Fronts.{nothing_first}
use Rattle.bare_duo.proofs.Kept.{View, moved_all, AllCalm, pair, at_role, Holds, carried, both_lost, holds_called, call_took, call_rest, call_up, holds_carried, holds_broke, reads_so, peer_stays, peer_took_stays, calm_sent, AllMight, asked, answered_in, shown-append, asked-append, answered-append, bare_set_at, call_sent, sent_might, peer_sent_stays}

-- the first octets, and the others
pub first_some : (most : Option ℕ) (octets : List ℕ) → octets ≡ first_octets most octets ++ drop (length (first_octets most octets)) octets
first_some None octets = sym (ap (λ (l : List ℕ). octets ++ l) (drop_all octets) ∙ append-nil octets)
  where
    drop_all : (l : List ℕ) → drop (length l) l ≡ []
    drop_all [] = refl
    drop_all (x ∷ l) = drop_all l
first_some (Some n) octets = go n octets
  where
    go : (n : ℕ) (l : List ℕ) → l ≡ take n l ++ drop (length (take n l)) l
    go zero l = refl
    go (suc n) [] = refl
    go (suc n) (x ∷ l) = ap (λ (k : List ℕ). x ∷ k) (go n l)

indications-append : (side : Side) (one more : List Entry) → indications_at side (one ++ more) ≡ indications_at side one ++ indications_at side more
indications-append side [] more = refl
indications-append side (e ∷ es) more =
    ap (λ (l : List Indication). indications_in side e ++ l) (indications-append side es more) ∙ sym (append_assoc (indications_in side e) (indications_at side es) (indications_at side more))

called-append : {X : Type 0} (tells : Call → Reply → List X) (side : Side) (one more : List Entry) → all_called tells side (one ++ more) ≡ all_called tells side one ++ all_called tells side more
called-append tells side [] more = refl
called-append tells side (e ∷ es) more =
    ap (λ l. called_at tells side e ++ l) (called-append tells side es more) ∙ sym (append_assoc (called_at tells side e) (all_called tells side es) (all_called tells side more))

-- calm steps leave a world calm
calm_on : (side : Side) (w : World) (steps : List Step) → AllCalm steps → NothingWrong w → NothingWrong (stepping side w steps)
calm_on side w [] h k = k
calm_on side w (x ∷ xs) h k = calm_on side (record { side = side; step = x } ∷ w) xs h.1 (h.0, k)

module _ (t : Tables) (ca cb : Config) (free : Free) (readable : IsReadable t) (writes : WritesAll free) (modelled : BareModelled) (first_law : WrittenIsFirst) (one_content : OneContent) (back : ReadsBack (base_at Initiator (pair t ca cb free readable writes modelled first_law one_content))) where
  abbrev pub base : Role → Base
  base role = at_role t ca cb free readable writes modelled first_law one_content role

  abbrev pub ends : Ends
  ends = record { a = base Initiator; b = base Responder }

  abbrev HoldsAt : Role → View → Type 0
  HoldsAt role v = Holds t ca cb free readable writes modelled first_law one_content role v

  -- two ends as one of them sees it
  abbrev pub view_a : World → View
  view_a w = record { own = end_at ends A w; peer = end_at ends B w; own_sent = sent_by A w; own_took = taken_by A w; own_given = octets_given A w; peer_sent = sent_by B w; peer_took = taken_by B w; peer_given = octets_given B w }

  abbrev pub view_b : World → View
  view_b w = record { own = end_at ends B w; peer = end_at ends A w; own_sent = sent_by B w; own_took = taken_by B w; own_given = octets_given B w; peer_sent = sent_by A w; peer_took = taken_by A w; peer_given = octets_given A w }

  pub to_b : (w : World) → HoldsAt Initiator (view_a w) → HoldsAt Responder (view_b w)
  to_b w h = record { two = h.two; reached = h.reached; own_is = h.peer_is; peer_is = h.own_is; from = h.to; to = h.from; own_settled = h.peer_settled; peer_settled = h.own_settled }

  to_a : (w : World) → HoldsAt Responder (view_b w) → HoldsAt Initiator (view_a w)
  to_a w h = record { two = h.two; reached = h.reached; own_is = h.peer_is; peer_is = h.own_is; from = h.to; to = h.from; own_settled = h.peer_settled; peer_settled = h.own_settled }

  pub steps_a : (w : World) (steps : List Step) → view_a (stepping A w steps) ≡ moved_all (base Initiator) (view_a w) steps
  steps_a w [] = refl
  steps_a w (x ∷ xs) = steps_a (record { side = A; step = x } ∷ w) xs

  pub steps_b : (w : World) (steps : List Step) → view_b (stepping B w steps) ≡ moved_all (base Responder) (view_b w) steps
  steps_b w [] = refl
  steps_b w (x ∷ xs) = steps_b (record { side = B; step = x } ∷ w) xs

  -- ---- what is kept between events

  pub record Kept (w : World) : Type 0 where
    pub holds : HoldsAt Initiator (view_a w)
    pub allowed : TakesAllowed t ends w
    pub calm : NothingWrong w
    pub whole : NothingWholeWaits ends w

  -- what an event adds to what the ends sent and took, what it shows, asks for and answers
  pub record Added (w v : World) (told : List Entry) : Type 0 where
    pub kept : Kept v
    pub out_a : List Message
    pub out_b : List Message
    pub new_a : List Message
    pub new_b : List Message
    pub sent_a : sent_by A v ≡ sent_by A w ++ out_a
    pub sent_b : sent_by B v ≡ sent_by B w ++ out_b
    pub asks_a : invocations A told ≡ asked t out_a
    pub asks_b : invocations B told ≡ asked t out_b
    pub gives_a : answers A told ≡ answered_in t out_a
    pub gives_b : answers B told ≡ answered_in t out_b
    pub took_a : taken_by A v ≡ taken_by A w ++ new_a
    pub took_b : taken_by B v ≡ taken_by B w ++ new_b
    pub shown_a : indications_at A told ≡ shown_all t new_a
    pub shown_b : indications_at B told ≡ shown_all t new_b

  pub first_kept : Kept []
  first_kept = record {
    holds = record {
      two = two_new (pair t ca cb free readable writes modelled first_law one_content);
      reached = begins;
      own_is = refl;
      peer_is = refl;
      from = record { octets = λ up. refl; good = tt; all = tt; gone = []; kept = refl; none_gone = λ up. refl; counted = λ up. refl };
      to = record { octets = λ up. refl; good = tt; all = tt; gone = []; kept = refl; none_gone = λ up. refl; counted = λ up. refl };
      own_settled = settled-new t;
      peer_settled = settled-new t;
    };
    allowed = tt;
    calm = tt;
    whole = first_whole;
  }
    where
      first_whole : NothingWholeWaits ends []
      first_whole A n = nothing_first
      first_whole B n = nothing_first

  -- ---- steps that take what might be taken

  allowed_a : (w : World) (steps : List Step) → AllMight (base Initiator) (end_at ends A w) steps → TakesAllowed t ends w → TakesAllowed t ends (stepping A w steps)
  allowed_a w [] h k = k
  allowed_a w (x ∷ xs) h k = allowed_a (record { side = A; step = x } ∷ w) xs h.1 (h.0, k)

  allowed_b : (w : World) (steps : List Step) → AllMight (base Responder) (end_at ends B w) steps → TakesAllowed t ends w → TakesAllowed t ends (stepping B w steps)
  allowed_b w [] h k = k
  allowed_b w (x ∷ xs) h k = allowed_b (record { side = B; step = x } ∷ w) xs h.1 (h.0, k)

  -- ---- calls

  -- what a call asks for and answers
  record AsksAndAnswers (role : Role) (body : Body) (call : Call) : Type 0 where
    asks : asked t (due_of (base role) body call (can_call (base role) body call)) ≡ invoked_by call (can_call (base role) body call)
    gives : answered_in t (due_of (base role) body call (can_call (base role) body call)) ≡ answered_by call (can_call (base role) body call)

  none_invoked : (call : Call) (refusal : CallRefusal) → invoked_by call (Err refusal) ≡ []
  none_invoked (the_calls.Invoke context operation argument linked) refusal = refl
  none_invoked _ refusal = refl

  none_answered : (call : Call) (refusal : CallRefusal) → answered_by call (Err refusal) ≡ []
  none_answered (the_calls.Answer id value) refusal = refl
  none_answered (the_calls.Refuse id place parameter) refusal = refl
  none_answered _ refusal = refl

  says : (role : Role) (v : View) (call : Call) → HoldsAt role v → AsksAndAnswers role v.own.body call
  says role v call h = go (can_call (base role) v.own.body call) refl
    where
      go : (reply : Reply) → can_call (base role) v.own.body call ≡ reply → AsksAndAnswers role v.own.body call
      go (Ok answer) e =
          let so = called_so t ca cb role v.own.body call answer (bare_set_at t ca cb free readable writes modelled first_law one_content back role v h) e in
          record {
            asks = ap (λ (r : Reply). asked t (due_of (base role) v.own.body call r)) e ∙ so.asks ∙ sym (ap (invoked_by call) e);
            gives = ap (λ (r : Reply). answered_in t (due_of (base role) v.own.body call r)) e ∙ so.gives ∙ sym (ap (answered_by call) e);
          }
      go (Err refusal) e =
          record {
            asks = ap (λ (r : Reply). asked t (due_of (base role) v.own.body call r)) e ∙ sym (none_invoked call refusal) ∙ sym (ap (invoked_by call) e);
            gives = ap (λ (r : Reply). answered_in t (due_of (base role) v.own.body call r)) e ∙ sym (none_answered call refusal) ∙ sym (ap (answered_by call) e);
          }

  call_at_a : (w : World) (call : Call) → Kept w → Kept (stepping A w (call_steps (base Initiator) (end_at ends A w).body call))
  call_at_a w call k =
      let reply : Reply = can_call (base Initiator) (end_at ends A w).body call in
      let steps : List Step = call_steps (base Initiator) (end_at ends A w).body call in
      let is = steps_a w steps in
      record {
        holds = subst (λ (x : View). HoldsAt Initiator x) (sym is) (holds_called t ca cb free readable writes modelled first_law one_content back Initiator (view_a w) call reply k.holds refl);
        allowed = allowed_a w steps (tt, sent_might (base Initiator) (after (base Initiator) (end_at ends A w) (called call reply)) (due_of (base Initiator) (end_at ends A w).body call reply)) k.allowed;
        calm = calm_on A w steps (tt, calm_sent (due_of (base Initiator) (end_at ends A w).body call reply)) k.calm;
        whole = wholes;
      }
    where
      wholes : NothingWholeWaits ends (stepping A w (call_steps (base Initiator) (end_at ends A w).body call))
      wholes A n =
          let reply : Reply = can_call (base Initiator) (end_at ends A w).body call in
          let is = steps_a w (call_steps (base Initiator) (end_at ends A w).body call) in
          let up = call_up t ca cb free readable writes modelled first_law one_content Initiator (view_a w) call reply refl (sym (ap (λ (x : View). passes_over x.own.body.link.phase) is) ∙ n) in
          ap (λ (x : View). first_at x.own.line.rest) is ∙ ap first_at (call_rest t ca cb free readable writes modelled first_law one_content Initiator (view_a w) call reply) ∙ k.whole A up
      wholes B n =
          let is = ap (λ (x : View). x.peer) (steps_a w (call_steps (base Initiator) (end_at ends A w).body call)) ∙ peer_stays (base Initiator) (view_a w) (call_steps (base Initiator) (end_at ends A w).body call) in
          ap (λ (x : End). first_at x.line.rest) is ∙ k.whole B (sym (ap (λ (x : End). passes_over x.body.link.phase) is) ∙ n)

  call_at_b : (w : World) (call : Call) → Kept w → Kept (stepping B w (call_steps (base Responder) (end_at ends B w).body call))
  call_at_b w call k =
      let reply : Reply = can_call (base Responder) (end_at ends B w).body call in
      let steps : List Step = call_steps (base Responder) (end_at ends B w).body call in
      let is = steps_b w steps in
      record {
        holds = to_a (stepping B w steps) (subst (λ (x : View). HoldsAt Responder x) (sym is) (holds_called t ca cb free readable writes modelled first_law one_content back Responder (view_b w) call reply (to_b w k.holds) refl));
        allowed = allowed_b w steps (tt, sent_might (base Responder) (after (base Responder) (end_at ends B w) (called call reply)) (due_of (base Responder) (end_at ends B w).body call reply)) k.allowed;
        calm = calm_on B w steps (tt, calm_sent (due_of (base Responder) (end_at ends B w).body call reply)) k.calm;
        whole = wholes;
      }
    where
      wholes : NothingWholeWaits ends (stepping B w (call_steps (base Responder) (end_at ends B w).body call))
      wholes B n =
          let reply : Reply = can_call (base Responder) (end_at ends B w).body call in
          let is = steps_b w (call_steps (base Responder) (end_at ends B w).body call) in
          let up = call_up t ca cb free readable writes modelled first_law one_content Responder (view_b w) call reply refl (sym (ap (λ (x : View). passes_over x.own.body.link.phase) is) ∙ n) in
          ap (λ (x : View). first_at x.own.line.rest) is ∙ ap first_at (call_rest t ca cb free readable writes modelled first_law one_content Responder (view_b w) call reply) ∙ k.whole B up
      wholes A n =
          let is = ap (λ (x : View). x.peer) (steps_b w (call_steps (base Responder) (end_at ends B w).body call)) ∙ peer_stays (base Responder) (view_b w) (call_steps (base Responder) (end_at ends B w).body call) in
          ap (λ (x : End). first_at x.line.rest) is ∙ k.whole A (sym (ap (λ (x : End). passes_over x.body.link.phase) is) ∙ n)

  pub added_by_a : (w : World) (call : Call) → Kept w → Added w (stepping A w (call_steps (base Initiator) (end_at ends A w).body call)) (entries.Call A call (can_call (base Initiator) (end_at ends A w).body call) ∷ [])
  added_by_a w call k =
      let reply : Reply = can_call (base Initiator) (end_at ends A w).body call in
      let steps : List Step = call_steps (base Initiator) (end_at ends A w).body call in
      let is = steps_a w steps in
      record {
        kept = call_at_a w call k;
        out_a = due_of (base Initiator) (end_at ends A w).body call reply;
        out_b = [];
        new_a = [];
        new_b = [];
        sent_a = ap (λ (x : View). x.own_sent) is ∙ call_sent t ca cb free readable writes modelled first_law one_content Initiator (view_a w) call reply;
        sent_b = ap (λ (x : View). x.peer_sent) is ∙ peer_sent_stays (base Initiator) (view_a w) steps ∙ sym (append-nil (sent_by B w));
        asks_a = append-nil (invoked_by call reply) ∙ sym (says Initiator (view_a w) call k.holds).asks;
        asks_b = refl;
        gives_a = append-nil (answered_by call reply) ∙ sym (says Initiator (view_a w) call k.holds).gives;
        gives_b = refl;
        took_a = ap (λ (x : View). x.own_took) is ∙ call_took t ca cb free readable writes modelled first_law one_content Initiator (view_a w) call reply ∙ sym (append-nil (taken_by A w));
        took_b = ap (λ (x : View). x.peer_took) is ∙ peer_took_stays (base Initiator) (view_a w) steps ∙ sym (append-nil (taken_by B w));
        shown_a = refl;
        shown_b = refl;
      }

  pub added_by_b : (w : World) (call : Call) → Kept w → Added w (stepping B w (call_steps (base Responder) (end_at ends B w).body call)) (entries.Call B call (can_call (base Responder) (end_at ends B w).body call) ∷ [])
  added_by_b w call k =
      let reply : Reply = can_call (base Responder) (end_at ends B w).body call in
      let steps : List Step = call_steps (base Responder) (end_at ends B w).body call in
      let is = steps_b w steps in
      record {
        kept = call_at_b w call k;
        out_a = [];
        out_b = due_of (base Responder) (end_at ends B w).body call reply;
        new_a = [];
        new_b = [];
        sent_b = ap (λ (x : View). x.own_sent) is ∙ call_sent t ca cb free readable writes modelled first_law one_content Responder (view_b w) call reply;
        sent_a = ap (λ (x : View). x.peer_sent) is ∙ peer_sent_stays (base Responder) (view_b w) steps ∙ sym (append-nil (sent_by A w));
        asks_b = append-nil (invoked_by call reply) ∙ sym (says Responder (view_b w) call (to_b w k.holds)).asks;
        asks_a = refl;
        gives_b = append-nil (answered_by call reply) ∙ sym (says Responder (view_b w) call (to_b w k.holds)).gives;
        gives_a = refl;
        took_b = ap (λ (x : View). x.own_took) is ∙ call_took t ca cb free readable writes modelled first_law one_content Responder (view_b w) call reply ∙ sym (append-nil (taken_by B w));
        took_a = ap (λ (x : View). x.peer_took) is ∙ peer_took_stays (base Responder) (view_b w) steps ∙ sym (append-nil (taken_by A w));
        shown_a = refl;
        shown_b = refl;
      }

  -- ---- carries

  abbrev pub given_to_b : World → ℕ → List ℕ → World
  given_to_b w n octets = record { side = B; step = fed octets } ∷ record { side = A; step = gave n } ∷ w

  abbrev pub given_to_a : World → ℕ → List ℕ → World
  given_to_a w n octets = record { side = A; step = fed octets } ∷ record { side = B; step = gave n } ∷ w

  pub carry_to_b : (w : World) (octets : List ℕ) → Kept w → (end_at ends A w).line.waiting ≡ octets ++ drop (length octets) (end_at ends A w).line.waiting → HoldsAt Responder (view_b (given_to_b w (length octets) octets))
  carry_to_b w octets k e =
      let n : ℕ = length octets in
      let h = holds_carried t ca cb free readable writes modelled first_law one_content Initiator (view_a w) octets k.holds e in
      let is : view_a (given_to_b w n octets) ≡ carried t ca cb free readable writes modelled first_law one_content (base Initiator) (base Responder) (view_a w) octets = λ i. record {
        own = end_at ends A (given_to_b w n octets);
        peer = end_at ends B (given_to_b w n octets);
        own_sent = append-nil (sent_by A w) i;
        own_took = append-nil (taken_by A w) i;
        own_given = octets_given A w + n;
        peer_sent = append-nil (sent_by B w) i;
        peer_took = append-nil (taken_by B w) i;
        peer_given = octets_given B w;
      } in
      to_b (given_to_b w n octets) (subst (λ (x : View). HoldsAt Initiator x) (sym is) h)

  pub carry_to_a : (w : World) (octets : List ℕ) → Kept w → (end_at ends B w).line.waiting ≡ octets ++ drop (length octets) (end_at ends B w).line.waiting → HoldsAt Initiator (view_a (given_to_a w (length octets) octets))
  carry_to_a w octets k e =
      let n : ℕ = length octets in
      let h = holds_carried t ca cb free readable writes modelled first_law one_content Responder (view_b w) octets (to_b w k.holds) e in
      let is : view_b (given_to_a w n octets) ≡ carried t ca cb free readable writes modelled first_law one_content (base Responder) (base Initiator) (view_b w) octets = λ i. record {
        own = end_at ends B (given_to_a w n octets);
        peer = end_at ends A (given_to_a w n octets);
        own_sent = append-nil (sent_by B w) i;
        own_took = append-nil (taken_by B w) i;
        own_given = octets_given B w + n;
        peer_sent = append-nil (sent_by A w) i;
        peer_took = append-nil (taken_by A w) i;
        peer_given = octets_given A w;
      } in
      to_a (given_to_a w n octets) (subst (λ (x : View). HoldsAt Responder x) (sym is) h)

  pub added_to_b : (w : World) (most : Option ℕ) (octets : List ℕ) (reading : List Step) (shown : List Indication) → Kept w → (end_at ends A w).line.waiting ≡ octets ++ drop (length octets) (end_at ends A w).line.waiting
      → Reads (base Responder) (after (base Responder) (end_at ends B w) (fed octets)) reading shown
      → Added w (stepping B (given_to_b w (length octets) octets) reading) (entries.Carry A most (record { octets = octets; shown = shown }) ∷ [])
  added_to_b w most octets reading shown k e reads =
      let u : World = given_to_b w (length octets) octets in
      let r = reads_so t ca cb free readable writes modelled first_law one_content back Responder (view_b u) (after (base Responder) (end_at ends B w) (fed octets)) reading shown reads refl (carry_to_b w octets k e) in
      let is = steps_b u reading in
      record {
        kept = record {
          holds = to_a (stepping B u reading) (subst (λ (x : View). HoldsAt Responder x) (sym is) r.holds);
          allowed = allowed_b u reading r.allowed (tt, (tt, k.allowed));
          calm = calm_on B u reading r.calm (tt, (tt, k.calm));
          whole = wholes (stepping B u reading) (λ n. ap (λ (x : View). first_at x.own.line.rest) is ∙ r.whole (sym (ap (λ (x : View). passes_over x.own.body.link.phase) is) ∙ n)) (ap (λ (x : View). x.peer) is ∙ peer_stays (base Responder) (view_b u) reading);
        };
        out_a = [];
        out_b = [];
        new_b = r.new;
        new_a = [];
        sent_a = ap (λ (x : View). x.peer_sent) is ∙ peer_sent_stays (base Responder) (view_b u) reading;
        sent_b = ap (λ (x : View). x.own_sent) is ∙ r.sent_is;
        asks_a = refl;
        asks_b = refl;
        gives_a = refl;
        gives_b = refl;
        took_a = ap (λ (x : View). x.peer_took) is ∙ peer_took_stays (base Responder) (view_b u) reading;
        took_b = ap (λ (x : View). x.own_took) is ∙ r.took_is ∙ ap (λ (ms : List Message). ms ++ r.new) (append-nil (taken_by B w));
        shown_a = refl;
        shown_b = append-nil shown ∙ r.shown_is;
      }
    where
      wholes : (v : World) → (passes_over (end_at ends B v).body.link.phase ≡ false → first_at (end_at ends B v).line.rest ≡ Short) → end_at ends A v ≡ end_at ends A (given_to_b w (length octets) octets) → NothingWholeWaits ends v
      wholes v f same A n = ap (λ (x : End). first_at x.line.rest) same ∙ k.whole A (sym (ap (λ (x : End). passes_over x.body.link.phase) same) ∙ n)
      wholes v f same B n = f n

  pub added_to_a : (w : World) (most : Option ℕ) (octets : List ℕ) (reading : List Step) (shown : List Indication) → Kept w → (end_at ends B w).line.waiting ≡ octets ++ drop (length octets) (end_at ends B w).line.waiting
      → Reads (base Initiator) (after (base Initiator) (end_at ends A w) (fed octets)) reading shown
      → Added w (stepping A (given_to_a w (length octets) octets) reading) (entries.Carry B most (record { octets = octets; shown = shown }) ∷ [])
  added_to_a w most octets reading shown k e reads =
      let u : World = given_to_a w (length octets) octets in
      let r = reads_so t ca cb free readable writes modelled first_law one_content back Initiator (view_a u) (after (base Initiator) (end_at ends A w) (fed octets)) reading shown reads refl (carry_to_a w octets k e) in
      let is = steps_a u reading in
      record {
        kept = record {
          holds = subst (λ (x : View). HoldsAt Initiator x) (sym is) r.holds;
          allowed = allowed_a u reading r.allowed (tt, (tt, k.allowed));
          calm = calm_on A u reading r.calm (tt, (tt, k.calm));
          whole = wholes (stepping A u reading) (λ n. ap (λ (x : View). first_at x.own.line.rest) is ∙ r.whole (sym (ap (λ (x : View). passes_over x.own.body.link.phase) is) ∙ n)) (ap (λ (x : View). x.peer) is ∙ peer_stays (base Initiator) (view_a u) reading);
        };
        out_a = [];
        out_b = [];
        new_a = r.new;
        new_b = [];
        sent_b = ap (λ (x : View). x.peer_sent) is ∙ peer_sent_stays (base Initiator) (view_a u) reading;
        sent_a = ap (λ (x : View). x.own_sent) is ∙ r.sent_is;
        asks_a = refl;
        asks_b = refl;
        gives_a = refl;
        gives_b = refl;
        took_b = ap (λ (x : View). x.peer_took) is ∙ peer_took_stays (base Initiator) (view_a u) reading;
        took_a = ap (λ (x : View). x.own_took) is ∙ r.took_is ∙ ap (λ (ms : List Message). ms ++ r.new) (append-nil (taken_by A w));
        shown_b = refl;
        shown_a = append-nil shown ∙ r.shown_is;
      }
    where
      wholes : (v : World) → (passes_over (end_at ends A v).body.link.phase ≡ false → first_at (end_at ends A v).line.rest ≡ Short) → end_at ends B v ≡ end_at ends B (given_to_a w (length octets) octets) → NothingWholeWaits ends v
      wholes v f same B n = ap (λ (x : End). first_at x.line.rest) same ∙ k.whole B (sym (ap (λ (x : End). passes_over x.body.link.phase) same) ∙ n)
      wholes v f same A n = f n

  -- ---- breaks

  abbrev pub broken_world : World → World
  broken_world w = record { side = B; step = broke } ∷ record { side = A; step = broke } ∷ w

  pub added_by_break : (w : World) → Kept w → Added w (broken_world w) (entries.Break ∷ [])
  added_by_break w k =
      let h = holds_broke t ca cb free readable writes modelled first_law one_content back Initiator (view_a w) k.holds in
      let is : view_a (broken_world w) ≡ both_lost t ca cb free readable writes modelled first_law one_content (base Initiator) (base Responder) (view_a w) = λ i. record {
        own = end_at ends A (broken_world w);
        peer = end_at ends B (broken_world w);
        own_sent = append-nil (sent_by A w) i;
        own_took = append-nil (taken_by A w) i;
        own_given = octets_given A w;
        peer_sent = append-nil (sent_by B w) i;
        peer_took = append-nil (taken_by B w) i;
        peer_given = octets_given B w;
      } in
      record {
        kept = record { holds = subst (λ (x : View). HoldsAt Initiator x) (sym is) h; allowed = (tt, (tt, k.allowed)); calm = (tt, (tt, k.calm)); whole = wholes };
        out_a = [];
        out_b = [];
        new_a = [];
        new_b = [];
        sent_a = refl;
        sent_b = refl;
        asks_a = refl;
        asks_b = refl;
        gives_a = refl;
        gives_b = refl;
        took_a = refl;
        took_b = refl;
        shown_a = refl;
        shown_b = refl;
      }
    where
      wholes : NothingWholeWaits ends (broken_world w)
      wholes A n = nothing_first
      wholes B n = nothing_first

  -- ---- one event after another

  pub then_added : (w u v : World) (one more : List Entry) → Added w u one → Added u v more → Added w v (one ++ more)
  then_added w u v one more x y = record {
    kept = y.kept;
    out_a = x.out_a ++ y.out_a;
    out_b = x.out_b ++ y.out_b;
    new_a = x.new_a ++ y.new_a;
    new_b = x.new_b ++ y.new_b;
    sent_a = y.sent_a ∙ ap (λ (ms : List Message). ms ++ y.out_a) x.sent_a ∙ append_assoc (sent_by A w) x.out_a y.out_a;
    sent_b = y.sent_b ∙ ap (λ (ms : List Message). ms ++ y.out_b) x.sent_b ∙ append_assoc (sent_by B w) x.out_b y.out_b;
    asks_a = called-append invoked_by A one more ∙ (λ i. x.asks_a i ++ y.asks_a i) ∙ sym (asked-append t x.out_a y.out_a);
    asks_b = called-append invoked_by B one more ∙ (λ i. x.asks_b i ++ y.asks_b i) ∙ sym (asked-append t x.out_b y.out_b);
    gives_a = called-append answered_by A one more ∙ (λ i. x.gives_a i ++ y.gives_a i) ∙ sym (answered-append t x.out_a y.out_a);
    gives_b = called-append answered_by B one more ∙ (λ i. x.gives_b i ++ y.gives_b i) ∙ sym (answered-append t x.out_b y.out_b);
    took_a = y.took_a ∙ ap (λ (ms : List Message). ms ++ y.new_a) x.took_a ∙ append_assoc (taken_by A w) x.new_a y.new_a;
    took_b = y.took_b ∙ ap (λ (ms : List Message). ms ++ y.new_b) x.took_b ∙ append_assoc (taken_by B w) x.new_b y.new_b;
    shown_a = indications-append A one more ∙ (λ i. x.shown_a i ++ y.shown_a i) ∙ sym (shown-append t x.new_a y.new_a);
    shown_b = indications-append B one more ∙ (λ i. x.shown_b i ++ y.shown_b i) ∙ sym (shown-append t x.new_b y.new_b);
  }

  pub runs_keep : (w v : World) (all : List Event) (told : List Entry) → Runs ends w all told v → Kept w → Added w v told
  runs_keep w v all told rests k = record {
    kept = k;
    out_a = [];
    out_b = [];
    new_a = [];
    new_b = [];
    sent_a = sym (append-nil (sent_by A w));
    sent_b = sym (append-nil (sent_by B w));
    asks_a = refl;
    asks_b = refl;
    gives_a = refl;
    gives_b = refl;
    took_a = sym (append-nil (taken_by A w));
    took_b = sym (append-nil (taken_by B w));
    shown_a = refl;
    shown_b = refl;
  }
  runs_keep w v all told (calls {more = more} {told = later} A call next) k =
      let one = added_by_a w call k in
      then_added w (stepping A w (call_steps (base Initiator) (end_at ends A w).body call)) v (entries.Call A call (can_call (base Initiator) (end_at ends A w).body call) ∷ []) later one
      (runs_keep (stepping A w (call_steps (base Initiator) (end_at ends A w).body call)) v more later next one.kept)
  runs_keep w v all told (calls {more = more} {told = later} B call next) k =
      let one = added_by_b w call k in
      then_added w (stepping B w (call_steps (base Responder) (end_at ends B w).body call)) v (entries.Call B call (can_call (base Responder) (end_at ends B w).body call) ∷ []) later one
      (runs_keep (stepping B w (call_steps (base Responder) (end_at ends B w).body call)) v more later next one.kept)
  runs_keep w v all told (carries {more = more} {told = later} A most steps shown fd next) k =
      let octets : List ℕ = first_octets most (end_at ends A w).line.waiting in
      let one = added_to_b w most octets fd.reading shown k (first_some most (end_at ends A w).line.waiting) fd.reads in
      let u : World = stepping B (given_to_b w (length octets) octets) fd.reading in
      let same : stepping B (record { side = A; step = gave (length octets) } ∷ w) steps ≡ u = ap (λ (xs : List Step). stepping B (record { side = A; step = gave (length octets) } ∷ w) xs) fd.all in
      then_added w u v (entries.Carry A most (record { octets = octets; shown = shown }) ∷ []) later one
      (subst (λ (x : World). Added x v later) same (runs_keep (stepping B (record { side = A; step = gave (length octets) } ∷ w) steps) v more later next (subst Kept (sym same) one.kept)))
  runs_keep w v all told (carries {more = more} {told = later} B most steps shown fd next) k =
      let octets : List ℕ = first_octets most (end_at ends B w).line.waiting in
      let one = added_to_a w most octets fd.reading shown k (first_some most (end_at ends B w).line.waiting) fd.reads in
      let u : World = stepping A (given_to_a w (length octets) octets) fd.reading in
      let same : stepping A (record { side = B; step = gave (length octets) } ∷ w) steps ≡ u = ap (λ (xs : List Step). stepping A (record { side = B; step = gave (length octets) } ∷ w) xs) fd.all in
      then_added w u v (entries.Carry B most (record { octets = octets; shown = shown }) ∷ []) later one
      (subst (λ (x : World). Added x v later) same (runs_keep (stepping A (record { side = B; step = gave (length octets) } ∷ w) steps) v more later next (subst Kept (sym same) one.kept)))
  runs_keep w v all told (breaks {more = more} {told = later} next) k =
      let one = added_by_break w k in
      then_added w (broken_world w) v (entries.Break ∷ []) later one (runs_keep (broken_world w) v more later next one.kept)
