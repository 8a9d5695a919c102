-- Two ends with their octets, as one of them moves: the messages on their way between them are those of the rules, and their
-- octets are those that one has and the other still has.
use Rattle.std.proofs.Common.{◌≡◌, refl, true, false, ◌∙◌, sym, ap, subst, ℕ, ◌+◌, List, [], ◌∷◌, ◌++◌, map, drop, length, length-append, append_assoc, arith, ◌⊎◌, inl, inr, if◌then◌else◌}
use Rattle.std.proofs.lemmas.List.{append-nil}
use Rattle.std.proofs.lemmas.Grind.{flat_map-append}
use Rattle.std.specs.Prelude.{ℤ, Bool, not, ◌&&◌, Option, Some, Ok, Err}
use Rattle.stub_tables.specs.declared.tables.Tables.{Tables}
use Rattle.osi_base.specs.declared.layer_words.Problem.{Problem}
use Rattle.stub_tables.specs.declared.apdu.Apdu.{Apdu}
use Rattle.stub_tables.specs.declared.apdu.Apdu.TheVariants as apdus
use Rattle.stub_tables.specs.Readable.{IsReadable}
use Rattle.osi_base.specs.declared.syntax.Syntax.TheVariants.{Ber}
use Rattle.dialogue.specs.declared.config.Config.{Config}
use Rattle.dialogue.specs.declared.config.Mode.TheVariants.{Bare}
use Rattle.dialogue.specs.declared.config.Phase.{Phase}
use Rattle.dialogue.specs.declared.config.Phase.TheVariants.{Up, Over}
use Rattle.dialogue.specs.declared.call.Call.{Call}
use Rattle.dialogue.specs.declared.call.CallRefusal.{CallRefusal}
use Rattle.dialogue.specs.declared.indication.Indication.{Indication}
use Rattle.end_rules.specs.Base.{Base, is_bare}
use Rattle.osi_base.specs.SetPlaces.{pair_of}
use Rattle.end_rules.specs.Messages.{Message, Word, OfData, Values, ValueContent, Remote}
use Rattle.end_rules.specs.State.{Body, bare_set, passes_over}
use Rattle.dialogue.specs.declared.call.Call.TheVariants as the_calls
use Rattle.end_rules.specs.Invoking.{Reply}
use Rattle.end_rules.specs.Calling.{can_call, is_phase_for, is_of_bare_mode}
use Rattle.end_rules.specs.Requesting.{after_call, after_sent, after_refused, due_of}
use Rattle.end_rules.specs.Hearing.{Heard, hear, head_of_apdu, syntax_of}
use Rattle.osi_base.specs.declared.layer_words.SetItem.{SetItem}
use Rattle.end_rules.specs.Reacting.{Passes, Takes, react, after_word, answers_to_word, shown_of_word}
use Rattle.end_rules.specs.History.{Step, called, sent, fed, took, feed_end, gave, broke, after_broke, after_taken, broken_phase}
use Rattle.bare_end.specs.end_wire.Bare.{Short, Whole, first_at, front, behind, bare_message, written}
use Rattle.bare_end.specs.end_wire.Values.{IsContent, bare_spellings}
use Rattle.bare_end.specs.end_wire.Line.{End, after, after_all}
use Rattle.bare_end.specs.end_wire.Feeding.{Reads, passes, waits, takes, fails, taking}
use Rattle.bare_end.specs.end_wire.Laws.{WrittenIsFirst, OneContent}
use Rattle.agreement.specs.Sets.{Role, other}
use Rattle.agreement.specs.Sets.Role.{Initiator, Responder}
use Rattle.agreement.specs.Worlds.{Sending, flight_to}
use Rattle.end_model.specs.Seen.{Free}
use Rattle.end_model.specs.Acting.{ReadsBack, HasBareSet}
use Rattle.end_model.specs.Requests.{sent_all, after_called}
use Rattle.end_model.specs.BothEnds.{Common, base_at, Two, body_at, coming_to, stepped, both_broke, Reached, calls, takes as reached_takes, breaks, setup_of, AreComing, bare_common, WritesAll, BareModelled}
use Rattle.end_model.proofs.Ladder.{called as called_rungs}
use Rattle.end_model.proofs.Facts.{is-up}
use Rattle.bare_duo.proofs.Flights.{AllSent, sent-append, written_all, written-append, next_of, none_faulty}
use Rattle.bare_duo.specs.Shows.{shown_of, apdu_in, shown_by, shown_all}
use Rattle.bare_duo.specs.Passing.{sent_in, took_in}
use Rattle.run_laws.specs.Outcomes.{Invocation, ToldOutcome, invocation_in, outcome_in}
use Rattle.bare_duo.specs.Outcomes.{invocations_in, outcomes_in}
use Rattle.bare_duo.specs.Allowed.{may_take, MightTake}
use Rattle.bare_duo.specs.Carrying.{given_by}
use Rattle.bare_duo.specs.Laws.{IsCalm}
use Rattle.bare_duo.proofs.Counts.{length-written}
use Rattle.bare_duo.proofs.Settling.{Settled, settled-cut}
use Rattle.bare_duo.proofs.Told.{settled_heard, called_so}
use Rattle.bare_duo.proofs.Allowing.{quiet_allows}
use Rattle.bare_duo.proofs.Calm.{AtSide, at_side, calmly, quiet_shows}
use Rattle.bare_duo.proofs.Due.{AllPlain, due_plain, all_sent, refused_still}

-- ---- one way

-- What one end sent, what its peer took of it, what was lost in a break, and what is coming; the octets of that are in the
-- peer's rest and in what waits.
pub record Way (t : Tables) (over : Bool) (rest waiting : List ℕ) (given : ℕ) (sent_all took_all coming : List Message) : Type 0 where
  pub octets : over ≡ false → rest ++ waiting ≡ written_all t coming
  pub good : AllSent t coming
  pub all : AllSent t sent_all
  pub gone : List Message
  pub kept : sent_all ≡ took_all ++ (gone ++ coming)
  pub none_gone : over ≡ false → gone ≡ []
  -- what was given out and what waits is what was sent
  pub counted : over ≡ false → given + length waiting ≡ length (written_all t sent_all)

way_sent : (t : Tables) (over : Bool) (rest waiting : List ℕ) (given : ℕ) (s k c due : List Message) → Way t over rest waiting given s k c → AllSent t due → Way t over rest (waiting ++ written_all t due) given (s ++ due) k (c ++ due)
way_sent t over rest waiting given s k c due w good = record {
  octets = λ up. sym (append_assoc rest waiting (written_all t due)) ∙ ap (λ (os : List ℕ). os ++ written_all t due) (w.octets up) ∙ sym (written-append t c due);
  good = sent-append t c due w.good good;
  all = sent-append t s due w.all good;
  gone = w.gone;
  kept = ap (λ (ms : List Message). ms ++ due) w.kept ∙ append_assoc k (w.gone ++ c) due ∙ ap (λ (ms : List Message). k ++ ms) (append_assoc w.gone c due);
  none_gone = w.none_gone;
  counted = λ up.
      let before = w.counted up in
      let waits = length-append waiting (written_all t due) in
      let all = length-written t s due in omega arith;
}

-- octets moved, or their taker is over
way_moved : (t : Tables) (over : Bool) (rest waiting moved left later : List ℕ) (given : ℕ) (s k c : List Message) → waiting ≡ moved ++ left → (over ≡ false → later ≡ rest ++ moved) → Way t over rest waiting given s k c → Way t over later left (given + length moved) s k c
way_moved t over rest waiting moved left later given s k c e f w = record {
  all = w.all;
  octets = λ up. ap (λ (os : List ℕ). os ++ left) (f up) ∙ append_assoc rest moved left ∙ ap (λ (os : List ℕ). rest ++ os) (sym e) ∙ w.octets up;
  good = w.good;
  gone = w.gone;
  kept = w.kept;
  none_gone = w.none_gone;
  counted = λ up.
      let before = w.counted up in
      let parts : length waiting ≡ length moved + length left = ap length e ∙ length-append moved left in omega arith;
}

way_broke : (t : Tables) (over : Bool) (rest waiting : List ℕ) (given : ℕ) (s k c : List Message) → Way t over rest waiting given s k c → Way t true [] [] given s k []
way_broke t over rest waiting given s k c w = record {
  octets = λ up. cc;
  all = w.all;
  good = tt;
  gone = w.gone ++ c;
  kept = w.kept ∙ ap (λ (ms : List Message). k ++ ms) (sym (append-nil (w.gone ++ c)));
  none_gone = λ up. cc;
  counted = λ up. cc;
}

way_took : (t : Tables) (over : Bool) (rest waiting later : List ℕ) (given : ℕ) (s k c left : List Message) (m : Message) → over ≡ false → c ≡ m ∷ left → later ++ waiting ≡ written_all t left → AllSent t left → Way t over rest waiting given s k c → Way t over later waiting given s (k ++ m ∷ []) left
way_took t over rest waiting later given s k c left m up is behind good w =
    let none : w.gone ≡ [] = w.none_gone up in record {
      octets = λ u. behind;
      all = w.all;
      good = good;
      gone = [];
      kept = w.kept ∙ (λ i. k ++ (none i ++ is i)) ∙ sym (append_assoc k (m ∷ []) left);
      none_gone = λ u. refl;
      counted = w.counted;
    }

-- ---- what an end asked for and was told

abbrev pub asked : Tables → List Message → List Invocation
asked t ms = invocations_in (shown_all t ms)

abbrev pub answered_in : Tables → List Message → List ToldOutcome
answered_in t ms = outcomes_in (shown_all t ms)

pub shown-append : (t : Tables) (ms ns : List Message) → shown_all t (ms ++ ns) ≡ shown_all t ms ++ shown_all t ns
shown-append t [] ns = refl
shown-append t (m ∷ ms) ns = ap (λ (l : List Indication). shown_by t m ++ l) (shown-append t ms ns) ∙ sym (append_assoc (shown_by t m) (shown_all t ms) (shown_all t ns))

pub asked-append : (t : Tables) (ms ns : List Message) → asked t (ms ++ ns) ≡ asked t ms ++ asked t ns
asked-append t ms ns = ap invocations_in (shown-append t ms ns) ∙ flat_map-append invocation_in (shown_all t ms) (shown_all t ns)

pub answered-append : (t : Tables) (ms ns : List Message) → answered_in t (ms ++ ns) ≡ answered_in t ms ++ answered_in t ns
answered-append t ms ns = ap outcomes_in (shown-append t ms ns) ∙ flat_map-append outcome_in (shown_all t ms) (shown_all t ns)

-- what is sent at once changes nothing else
pub sent_still : (base : Base) (held : List SetItem) (body : Body) (due : List Message) → AllPlain base held due → sent_all Bare body due ≡ body
sent_still base held body [] h = refl
sent_still base held body (m ∷ due) h = ap (λ (b : Body). sent_all Bare b due) (ap (after_sent Bare body) h.0.is_its) ∙ sent_still base held body due h.1

-- ---- two ends, as one moves

pub record View : Type 0 where
  pub own : End
  pub peer : End
  pub own_sent : List Message
  pub own_took : List Message
  pub own_given : ℕ
  pub peer_sent : List Message
  pub peer_took : List Message
  pub peer_given : ℕ

abbrev pub moved : Base → View → Step → View
moved base v x = record v { own = after base v.own x; own_sent = v.own_sent ++ sent_in x; own_took = v.own_took ++ took_in x; own_given = given_by v.own_given x }

abbrev pub moved_all : Base → View → List Step → View
moved_all base v [] = v
moved_all base v (x ∷ xs) = moved_all base (moved base v x) xs

abbrev pub AllCalm : List Step → Type 0
AllCalm [] = Unit {0}
AllCalm (x ∷ xs) = IsCalm x × AllCalm xs

-- what these steps take might be taken then
abbrev pub AllMight : Base → End → List Step → Type 0
AllMight base e [] = Unit {0}
AllMight base e (x ∷ xs) = MightTake base.tables e.body.calls x × AllMight base (after base e x) xs

module _ (t : Tables) (ca cb : Config) (free : Free) (readable : IsReadable t) (writes : WritesAll free) (modelled : BareModelled) (first_law : WrittenIsFirst) (one_content : OneContent) where
  abbrev pub pair : Common
  pair = bare_common t (bare_spellings t) ca cb

  abbrev pub at_role : Role → Base
  at_role role = base_at role pair

  pub record Holds (role : Role) (v : View) : Type 0 where
    pub two : Two
    pub reached : Reached pair two
    pub own_is : v.own.body ≡ body_at role two
    pub peer_is : v.peer.body ≡ body_at (other role) two
    pub from : Way t (passes_over v.peer.body.link.phase) v.peer.line.rest v.own.line.waiting v.own_given v.own_sent v.peer_took (coming_to (other role) two)
    pub to : Way t (passes_over v.own.body.link.phase) v.own.line.rest v.peer.line.waiting v.peer_given v.peer_sent v.own_took (coming_to role two)
    pub own_settled : Settled t v.own.body.calls (asked t v.own_sent) (answered_in t v.own_took)
    pub peer_settled : Settled t v.peer.body.calls (asked t v.peer_sent) (answered_in t v.peer_took)

  -- ---- both ends, as one moves

  own_body : (role : Role) (body : Body) (left more : List Message) (two : Two) → body ≡ body_at role (stepped role body left more two)
  own_body Initiator body left more two = refl
  own_body Responder body left more two = refl

  peer_body : (role : Role) (body : Body) (left more : List Message) (two : Two) → body_at (other role) two ≡ body_at (other role) (stepped role body left more two)
  peer_body Initiator body left more two = refl
  peer_body Responder body left more two = refl

  own_coming : (role : Role) (body : Body) (left more : List Message) (two : Two) → left ≡ coming_to role (stepped role body left more two)
  own_coming Initiator body left more two = refl
  own_coming Responder body left more two = refl

  peer_coming : (role : Role) (body : Body) (left more : List Message) (two : Two) → coming_to (other role) two ++ more ≡ coming_to (other role) (stepped role body left more two)
  peer_coming Initiator body left more two = refl
  peer_coming Responder body left more two = refl

  -- ---- what the model says

  side : (back : ReadsBack (at_role Initiator)) (role : Role) (two : Two) → Reached pair two → AtSide free pair role (body_at role two) (coming_to role two)
  side back role two r = at_side free pair role two (modelled free t (bare_spellings t) ca cb writes back two r)

  held_at : (back : ReadsBack (at_role Initiator)) (role : Role) (two : Two) → Reached pair two → (body_at role two).sets.held ≡ bare_set t
  held_at back Initiator two r = (side back Initiator two r).side.sound.sets.held
  held_at back Responder two r = (side back Responder two r).side.sound.sets.held

  own_at : (back : ReadsBack (at_role Initiator)) (role : Role) (two : Two) → Reached pair two → (body_at role two).sets.own ≡ []
  own_at back Initiator two r = (side back Initiator two r).side.sound.sets.own
  own_at back Responder two r = (side back Responder two r).side.sound.sets.own

  for_role : (role : Role) (ms : List Message) (flight : List Sending) → AreComing (at_role Initiator) ms flight → AreComing (at_role role) ms flight
  for_role Initiator ms flight h = h
  for_role Responder [] [] h = h
  for_role Responder [] (s ∷ ss) h = absurd h
  for_role Responder (m ∷ ms) [] h = absurd h
  for_role Responder (m ∷ ms) (s ∷ ss) h =
      (record { item = h.0.item; is_data = h.0.is_data; is_its = h.0.is_its; is_proper = h.0.is_proper; is_read_back = h.0.is_read_back }, for_role Responder ms ss h.1)

  -- ---- an end that isn't over is up

  up_of : (call : Call) (phase : Phase) → is_phase_for call phase ≡ true → (is_bare Bare && not (is_of_bare_mode call)) ≡ false → passes_over phase ≡ false
  up_of (the_calls.Invoke context operation argument linked) phase h k = ap passes_over (is-up phase h)
  up_of (the_calls.Answer id result) phase h k = ap passes_over (is-up phase h)
  up_of (the_calls.Refuse id error parameter) phase h k = ap passes_over (is-up phase h)
  up_of _ phase h k = cc

  up_at : (back : ReadsBack (at_role Initiator)) (role : Role) (two : Two) → Reached pair two → passes_over (body_at role two).link.phase ≡ false → (body_at role two).link.phase ≡ Up
  up_at back role two r n = go (side back role two r).side.phase
    where
      go : ((body_at role two).link.phase ≡ Up) ⊎ ((body_at role two).link.phase ≡ Over) → (body_at role two).link.phase ≡ Up
      go (inl up) = up
      go (inr over) = let k : true ≡ false = sym (ap passes_over over) ∙ n in cc

  -- one way where the taker isn't over, whatever it becomes
  way_up : (over later : Bool) (rest waiting : List ℕ) (given : ℕ) (s k c : List Message) → over ≡ false → Way t over rest waiting given s k c → Way t later rest waiting given s k c
  way_up over later rest waiting given s k c up w =
      record { octets = λ u. w.octets up; good = w.good; all = w.all; gone = w.gone; kept = w.kept; none_gone = λ u. w.none_gone up; counted = λ u. w.counted up }

  -- ---- what an end sends

  abbrev pub sending : Base → View → List Message → View
  sending base v due =
      record v {
        own = record { body = sent_all base.mode v.own.body due; line = record v.own.line { waiting = v.own.line.waiting ++ written_all base.tables due } };
        own_sent = v.own_sent ++ due;
      }

  sent_view : (base : Base) (v : View) (due : List Message) → moved_all base v (map sent due) ≡ sending base v due
  sent_view base v [] = λ i. record v {
    own = record { body = v.own.body; line = record v.own.line { waiting = sym (append-nil v.own.line.waiting) i } };
    own_sent = sym (append-nil v.own_sent) i;
  }
  sent_view base v (m ∷ due) =
      sent_view base (moved base v (sent m)) due
      ∙ (λ i. record v {
        own = record {
          body = sent_all base.mode (after_sent base.mode v.own.body m) due;
          line = record v.own.line { waiting = append_assoc v.own.line.waiting (written base.tables m) (written_all base.tables due) i };
        };
        own_sent = append_assoc v.own_sent (m ∷ []) due i;
        own_took = append-nil v.own_took i;
      })

  -- a step that sends and takes nothing
  quiet : (base : Base) (v : View) (x : Step) → sent_in x ≡ [] → took_in x ≡ [] → given_by v.own_given x ≡ v.own_given → moved base v x ≡ record v { own = after base v.own x }
  quiet base v x s k g = λ i. record v {
    own = after base v.own x;
    own_sent = (ap (λ (ms : List Message). v.own_sent ++ ms) s ∙ append-nil v.own_sent) i;
    own_took = (ap (λ (ms : List Message). v.own_took ++ ms) k ∙ append-nil v.own_took) i;
    own_given = g i;
  }

  -- ---- a call

  abbrev pub call_moves : Base → View → Call → Reply → View
  call_moves base v call reply = moved_all base v (called call reply ∷ map sent (due_of base v.own.body call reply))

  pub holds_refused : (back : ReadsBack (at_role Initiator)) (role : Role) (v : View) (call : Call) (refusal : CallRefusal) → Holds role v → can_call (at_role role) v.own.body call ≡ Err refusal → Holds role (call_moves (at_role role) v call (Err refusal))
  holds_refused back role v call refusal h e =
      let base : Base = at_role role in
      let same : after_refused v.own.body refusal ≡ v.own.body = refused_still t ca cb role v.own.body call refusal e in
      let is : record v { own = after base v.own (called call (Err refusal)) } ≡ v = λ i. record v { own = record { body = same i; line = v.own.line } } in
      subst (λ (w : View). Holds role w) (sym (quiet base v (called call (Err refusal)) refl refl refl ∙ is)) h

  -- its one context is there
  pub bare_set_at : (back : ReadsBack (at_role Initiator)) (role : Role) (v : View) → Holds role v → HasBareSet (at_role role) v.own.body
  bare_set_at back role v h = record {
    held = ap (λ (x : Body). x.sets.held) h.own_is ∙ held_at back role h.two h.reached;
    own = ap (λ (x : Body). x.sets.own) h.own_is ∙ own_at back role h.two h.reached;
  }

  pub holds_accepted : (back : ReadsBack (at_role Initiator)) (role : Role) (v : View) (call : Call) (answer : Option ℤ) → Holds role v → can_call (at_role role) v.own.body call ≡ Ok answer → Holds role (call_moves (at_role role) v call (Ok answer))
  holds_accepted back role v call answer h e =
      let base : Base = at_role role in
      let b : Body = body_at role h.two in
      let at_b : can_call base b call ≡ Ok answer = ap (λ (x : Body). can_call base x call) (sym h.own_is) ∙ e in
      let due : List Message = due_of base v.own.body call (Ok answer) in
      let later : Body = after_called Bare base b call answer in
      let sends : List Message = due_of base b call (Ok answer) in
      let same : due ≡ sends = ap (λ (x : Body). due_of base x call (Ok answer)) h.own_is in
      let two : Two = stepped role later (coming_to role h.two) sends h.two in
      let reached : Reached pair two = calls h.two role call answer h.reached at_b in
      let c = called_rungs base v.own.body call answer e in
      let up : passes_over v.own.body.link.phase ≡ false = up_of call v.own.body.link.phase c.in_phase c.in_mode in
      let coming : coming_to (other role) h.two ++ due ≡ coming_to (other role) two = ap (λ (ms : List Message). coming_to (other role) h.two ++ ms) same ∙ peer_coming role later (coming_to role h.two) sends h.two in
      let peer = side back (other role) two reached in
      let flight : AreComing (at_role Initiator) (coming_to (other role) h.two ++ due) (flight_to (setup_of free pair) (other role) peer.world) =
      subst (λ (ms : List Message). AreComing (at_role Initiator) ms (flight_to (setup_of free pair) (other role) peer.world)) (sym coming) peer.side.flight in
      let held : v.own.body.sets.held ≡ bare_set t = ap (λ (x : Body). x.sets.held) h.own_is ∙ held_at back role h.two h.reached in
      let plain = due_plain t ca cb role v.own.body call answer e in
      let so = called_so t ca cb role v.own.body call answer (bare_set_at back role v h) e in
      let good : AllSent t due = all_sent t ca cb role v.own.body.sets.held (coming_to (other role) h.two) due (flight_to (setup_of free pair) (other role) peer.world) held plain
      (for_role role (coming_to (other role) h.two ++ due) (flight_to (setup_of free pair) (other role) peer.world) flight) in
      let first : View = record v { own = after base v.own (called call (Ok answer)) } in
      let is : call_moves base v call (Ok answer) ≡ sending base first due =
      ap (λ (w : View). moved_all base w (map sent due)) (quiet base v (called call (Ok answer)) refl refl refl) ∙ sent_view base first due in
      subst (λ (w : View). Holds role w) (sym is)
      (record {
        two = two;
        reached = reached;
        own_is = ap (λ (x : Body). after_called Bare base x call answer) h.own_is ∙ own_body role later (coming_to role h.two) sends h.two;
        peer_is = h.peer_is ∙ peer_body role later (coming_to role h.two) sends h.two;
        from = subst (λ (ms : List Message). Way t (passes_over v.peer.body.link.phase) v.peer.line.rest (v.own.line.waiting ++ written_all t due) v.own_given (v.own_sent ++ due) v.peer_took ms) coming
            (way_sent t (passes_over v.peer.body.link.phase) v.peer.line.rest v.own.line.waiting v.own_given v.own_sent v.peer_took (coming_to (other role) h.two) due h.from good);
        to = subst (λ (ms : List Message). Way t (passes_over (sent_all Bare (after_call base v.own.body call (Ok answer)) due).link.phase) v.own.line.rest v.peer.line.waiting v.peer_given v.peer_sent v.own_took ms) (own_coming role later (coming_to role h.two) sends h.two)
            (way_up (passes_over v.own.body.link.phase) (passes_over (sent_all Bare (after_call base v.own.body call (Ok answer)) due).link.phase) v.own.line.rest v.peer.line.waiting v.peer_given v.peer_sent v.own_took (coming_to role h.two) up h.to);
        own_settled = subst (λ (b : Body). Settled t b.calls (asked t (v.own_sent ++ due)) (answered_in t v.own_took)) (sym (sent_still (at_role role) v.own.body.sets.held (after_call base v.own.body call (Ok answer)) due plain))
            (subst (λ (made : List Invocation). Settled t (after_call base v.own.body call (Ok answer)).calls made (answered_in t v.own_took))
            (ap (λ (more : List Invocation). asked t v.own_sent ++ more) (sym so.asks) ∙ sym (asked-append t v.own_sent due))
            (so.settles (asked t v.own_sent) (answered_in t v.own_took) h.own_settled));
        peer_settled = h.peer_settled;
      })

  -- ---- octets that move from one to the other

  abbrev pub carried : Base → Base → View → List ℕ → View
  carried base there v octets =
      record v { own = after base v.own (gave (length octets)); own_given = v.own_given + length octets; peer = after there v.peer (fed octets) }

  pub holds_carried : (role : Role) (v : View) (octets : List ℕ) → Holds role v → v.own.line.waiting ≡ octets ++ drop (length octets) v.own.line.waiting → Holds role (carried (at_role role) (at_role (other role)) v octets)
  holds_carried role v octets h e = record {
    two = h.two;
    reached = h.reached;
    own_is = h.own_is;
    peer_is = h.peer_is;
    from = way_moved t (passes_over v.peer.body.link.phase) v.peer.line.rest v.own.line.waiting octets (drop (length octets) v.own.line.waiting) (if passes_over v.peer.body.link.phase then [] else v.peer.line.rest ++ octets) v.own_given v.own_sent v.peer_took (coming_to (other role) h.two) e
        (λ up. ap (λ (b : Bool). if b then [] else v.peer.line.rest ++ octets) up) h.from;
    to = h.to;
    own_settled = h.own_settled;
    peer_settled = h.peer_settled;
  }

  -- ---- a break

  abbrev pub both_lost : Base → Base → View → View
  both_lost base there v = record v { own = after base v.own broke; peer = after there v.peer broke }

  pub phases : (back : ReadsBack (at_role Initiator)) (role : Role) (two : Two) (body : Body) → Reached pair two → body ≡ body_at role two → (body.link.phase ≡ Up) ⊎ (body.link.phase ≡ Over)
  phases back role two body r e = go (side back role two r).side.phase
    where
      go : ((body_at role two).link.phase ≡ Up) ⊎ ((body_at role two).link.phase ≡ Over) → (body.link.phase ≡ Up) ⊎ (body.link.phase ≡ Over)
      go (inl p) = inl (ap (λ (x : Body). x.link.phase) e ∙ p)
      go (inr p) = inr (ap (λ (x : Body). x.link.phase) e ∙ p)

  over_after : (role : Role) (body : Body) → (body.link.phase ≡ Up) ⊎ (body.link.phase ≡ Over) → passes_over (after_broke (at_role role) body).link.phase ≡ true
  over_after role body (inl e) = ap (λ p. passes_over (broken_phase Bare p)) e
  over_after role body (inr e) = ap (λ p. passes_over (broken_phase Bare p)) e

  -- both are over then
  pub own_over : (back : ReadsBack (at_role Initiator)) (role : Role) (v : View) → Holds role v → passes_over (after_broke (at_role role) v.own.body).link.phase ≡ true
  own_over back role v h = over_after role v.own.body (phases back role h.two v.own.body h.reached h.own_is)

  pub peer_over : (back : ReadsBack (at_role Initiator)) (role : Role) (v : View) → Holds role v → passes_over (after_broke (at_role (other role)) v.peer.body).link.phase ≡ true
  peer_over back role v h = over_after (other role) v.peer.body (phases back (other role) h.two v.peer.body h.reached h.peer_is)

  lost : (over : Bool) (rest waiting : List ℕ) (given : ℕ) (s k c : List Message) → over ≡ true → (o : Bool) → Way t o rest waiting given s k c → Way t over [] [] given s k []
  lost over rest waiting given s k c e o w = subst (λ (b : Bool). Way t b [] [] given s k []) (sym e) (way_broke t o rest waiting given s k c w)

  pub holds_broke : (back : ReadsBack (at_role Initiator)) (role : Role) (v : View) → Holds role v → Holds role (both_lost (at_role role) (at_role (other role)) v)
  holds_broke back Initiator v h = record {
    two = both_broke pair h.two;
    reached = breaks h.two h.reached;
    own_is = ap (after_broke (at_role Initiator)) h.own_is;
    peer_is = ap (after_broke (at_role Responder)) h.peer_is;
    from = lost (passes_over (after_broke (at_role Responder) v.peer.body).link.phase) v.peer.line.rest v.own.line.waiting v.own_given v.own_sent v.peer_took h.two.to_b (peer_over back Initiator v h) (passes_over v.peer.body.link.phase) h.from;
    to = lost (passes_over (after_broke (at_role Initiator) v.own.body).link.phase) v.own.line.rest v.peer.line.waiting v.peer_given v.peer_sent v.own_took h.two.to_a (own_over back Initiator v h) (passes_over v.own.body.link.phase) h.to;
    own_settled = settled-cut t v.own.body.calls (asked t v.own_sent) (answered_in t v.own_took) h.own_settled;
    peer_settled = settled-cut t v.peer.body.calls (asked t v.peer_sent) (answered_in t v.peer_took) h.peer_settled;
  }
  holds_broke back Responder v h = record {
    two = both_broke pair h.two;
    reached = breaks h.two h.reached;
    own_is = ap (after_broke (at_role Responder)) h.own_is;
    peer_is = ap (after_broke (at_role Initiator)) h.peer_is;
    from = lost (passes_over (after_broke (at_role Initiator) v.peer.body).link.phase) v.peer.line.rest v.own.line.waiting v.own_given v.own_sent v.peer_took h.two.to_a (peer_over back Responder v h) (passes_over v.peer.body.link.phase) h.from;
    to = lost (passes_over (after_broke (at_role Responder) v.own.body).link.phase) v.own.line.rest v.peer.line.waiting v.peer_given v.peer_sent v.own_took h.two.to_b (own_over back Responder v h) (passes_over v.own.body.link.phase) h.to;
    own_settled = settled-cut t v.own.body.calls (asked t v.own_sent) (answered_in t v.own_took) h.own_settled;
    peer_settled = settled-cut t v.peer.body.calls (asked t v.peer_sent) (answered_in t v.peer_took) h.peer_settled;
  }

  -- ---- what an end reads

  takes_is : (b c : Body) (xs ys : List Message) (us vs : List Indication) → Takes b xs us ≡ Takes c ys vs → (b ≡ c) × (xs ≡ ys) × (us ≡ vs)
  takes_is b c xs ys us vs e =
      let p : b ≡ c = cc in
      let q : xs ≡ ys = cc in
      let r : us ≡ vs = cc in (p, q, r)

  some_apdu : (a b : Apdu) → Some a ≡ Some b → a ≡ b
  some_apdu a b e = cc

  took_body : (role : Role) (b later : Body) (apdu : Apdu) (xs : List Message) (us : List Indication) → passes_over b.link.phase ≡ false → react (at_role role) b (bare_message (bare_set t) (Remote apdu)) ≡ Takes later xs us → after_taken (at_role role) b (bare_message (bare_set t) (Remote apdu)) ≡ later
  took_body role b later apdu xs us n e =
      let base : Base = at_role role in
      let w : Word = OfData (Values (record { id = 0; pair = pair_of (bare_set t) 0; content = Remote apdu } ∷ [])) in
      let is = ap (λ (o : Bool). if o then Passes else Takes (after_word base b w) (answers_to_word base b w) (shown_of_word base b w)) n in
      (takes_is (after_word base b w) later (answers_to_word base b w) xs (shown_of_word base b w) us (sym is ∙ e)).0

  -- a message is taken
  record TookSo (role : Role) (v : View) (m : Message) (answers : List Message) (told : List Indication) : Type 0 where
    message : Message
    is_it : m ≡ message
    holds : Holds role (moved (at_role role) v (took m))
    none : [] ≡ answers
    shows : shown_by t message ≡ told
    allowed : may_take t v.own.body.calls (apdu_in m) ≡ true
    phase_is : (after_taken (at_role role) v.own.body m).link.phase ≡ v.own.body.link.phase

  took_one : (back : ReadsBack (at_role Initiator)) (role : Role) (v : View) (used : ℕ) (content : ValueContent) (body : Body) (answers : List Message) (told : List Indication) → Holds role v
      → passes_over v.own.body.link.phase ≡ false → first_at v.own.line.rest ≡ Whole used
      → IsContent t (syntax_of (pair_of v.own.body.sets.held 0)) (front (Whole used) v.own.line.rest) content
      → react (at_role role) v.own.body (bare_message v.own.body.sets.held content) ≡ Takes body answers told
      → TookSo role v (bare_message v.own.body.sets.held content) answers told
  took_one back role v used content body answers told h n first is re =
      let base : Base = at_role role in
      let b : Body = body_at role h.two in
      let m : Message = bare_message v.own.body.sets.held content in
      let nb : passes_over b.link.phase ≡ false = sym (ap (λ (x : Body). passes_over x.link.phase) h.own_is) ∙ n in
      let up = up_at back role h.two h.reached nb in
      let x = next_of t readable first_law v.own.line.rest v.peer.line.waiting (coming_to role h.two) used (h.to.octets n) h.to.good first in
      let held : v.own.body.sets.held ≡ bare_set t = ap (λ (x : Body). x.sets.held) h.own_is ∙ held_at back role h.two h.reached in
      let wire = (first_law t x.sent.apdu [] readable x.sent.writable).0 in
      let mine : IsContent t Ber (written t x.message) content =
      subst (λ (os : List ℕ). IsContent t Ber os content) x.front
      (subst (λ (k : List SetItem). IsContent t (syntax_of (pair_of k 0)) (front (Whole used) v.own.line.rest) content) held is) in
      let its : IsContent t Ber (written t x.message) wire.content = subst (λ (k : Message). IsContent t Ber (written t k) wire.content) (sym x.sent.is_its) wire.means in
      let same : content ≡ wire.content = one_content t Ber (written t x.message) content wire.content readable mine its in
      let is_it : m ≡ x.message = (λ i. bare_message (held i) (same i)) ∙ sym wire.message_is ∙ sym x.sent.is_its in
      let c = calmly free t (bare_spellings t) ca cb role h.two x.message x.left (modelled free t (bare_spellings t) ca cb writes back h.two h.reached) x.is_first up in
      let heard : Heard = hear base b.calls c.item.id (head_of_apdu c.item.apdu) in
      let later : Body = record b { calls = heard.calls } in
      let re_b : react base b x.message ≡ Takes body answers told = sym (λ i. react base (h.own_is i) (is_it i)) ∙ re in
      let both = takes_is later body [] answers heard.shown told (sym c.reacts ∙ re_b) in
      let two : Two = stepped role later x.left [] h.two in
      let reached : Reached pair two = reached_takes h.two role x.message x.left later [] heard.shown h.reached x.is_first c.reacts in
      let apdu : c.item.apdu ≡ x.sent.apdu = some_apdu c.item.apdu x.sent.apdu (sym (ap apdu_in c.is_its) ∙ ap apdu_in x.sent.is_its) in
      let shows : heard.shown ≡ shown_of t c.item.apdu = quiet_shows base b.calls c.item.id c.item.apdu (λ i q e. x.sent.no_reject i q (sym apdu ∙ e)) c.quiet in
      let its_body : after_taken base b x.message ≡ later =
      ap (after_taken base b) x.sent.is_its ∙ took_body role b later x.sent.apdu [] heard.shown nb (ap (react base b) (sym x.sent.is_its) ∙ c.reacts) in
      let left_so : after_taken base v.own.body m ≡ later = (λ i. after_taken base (h.own_is i) (is_it i)) ∙ its_body in
      let no_reject : (i : Option ℤ) (q : Problem) → c.item.apdu ≡ apdus.Reject i q → ⊥ = λ i q e. x.sent.no_reject i q (sym apdu ∙ e) in
      let settled : Settled t heard.calls (asked t v.own_sent) (answered_in t v.own_took ++ outcomes_in (shown_of t c.item.apdu)) =
      settled_heard base b.calls c.item.id c.item.apdu (asked t v.own_sent) (answered_in t v.own_took) no_reject c.quiet
      (subst (λ (k : Body). Settled t k.calls (asked t v.own_sent) (answered_in t v.own_took)) h.own_is h.own_settled) in
      let tells : answered_in t v.own_took ++ outcomes_in (shown_of t c.item.apdu) ≡ answered_in t (v.own_took ++ x.message ∷ []) =
      ap (λ (us : List Indication). answered_in t v.own_took ++ outcomes_in us) (sym (append-nil (shown_of t c.item.apdu)) ∙ ap (λ (k : Message). shown_by t k ++ []) (sym c.is_its))
      ∙ sym (answered-append t v.own_took (x.message ∷ [])) in
      let rest : List ℕ = v.own.line.rest in
      let normal : View = record v { own = record { body = after_taken base v.own.body m; line = record v.own.line { rest = drop used rest } }; own_took = v.own_took ++ x.message ∷ [] } in
      let to_normal : moved base v (took m) ≡ normal = λ i. record v {
        own = record { body = after_taken base v.own.body m; line = record v.own.line { rest = behind (first i) rest } };
        own_sent = append-nil v.own_sent i;
        own_took = v.own_took ++ is_it i ∷ [];
      } in
      record {
        message = x.message;
        is_it = is_it;
        none = both.1;
        shows = ap (λ (k : Message). shown_by t k) c.is_its ∙ sym shows ∙ both.2;
        allowed = (λ i. may_take t (h.own_is i).calls (apdu_in (is_it i))) ∙ ap (λ (k : Message). may_take t b.calls (apdu_in k)) c.is_its ∙ quiet_allows base b.calls c.item.id c.item.apdu no_reject c.quiet;
        phase_is = ap (λ (k : Body). k.link.phase) left_so ∙ sym (ap (λ (k : Body). k.link.phase) h.own_is);
        holds = subst (λ (k : View). Holds role k) (sym to_normal)
            (record {
              two = two;
              reached = reached;
              own_is = left_so ∙ own_body role later x.left [] h.two;
              peer_is = h.peer_is ∙ peer_body role later x.left [] h.two;
              from = subst (λ (ms : List Message). Way t (passes_over v.peer.body.link.phase) v.peer.line.rest v.own.line.waiting v.own_given v.own_sent v.peer_took ms)
                  (sym (append-nil (coming_to (other role) h.two)) ∙ peer_coming role later x.left [] h.two) h.from;
              to = subst (λ (ms : List Message). Way t (passes_over (after_taken base v.own.body m).link.phase) (drop used rest) v.peer.line.waiting v.peer_given v.peer_sent (v.own_took ++ x.message ∷ []) ms)
                  (own_coming role later x.left [] h.two)
                  (way_up (passes_over v.own.body.link.phase) (passes_over (after_taken base v.own.body m).link.phase) (drop used rest) v.peer.line.waiting v.peer_given v.peer_sent (v.own_took ++ x.message ∷ []) x.left n
                  (way_took t (passes_over v.own.body.link.phase) rest v.peer.line.waiting (drop used rest) v.peer_given v.peer_sent v.own_took (coming_to role h.two) x.left x.message n x.is_first x.behind x.others h.to));
              own_settled = subst (λ (k : Body). Settled t k.calls (asked t v.own_sent) (answered_in t (v.own_took ++ x.message ∷ []))) (sym left_so)
                  (subst (λ (os : List ToldOutcome). Settled t heard.calls (asked t v.own_sent) os) tells settled);
              peer_settled = h.peer_settled;
            });
      }

  -- what came is read: what is taken is shown, and nothing whole is left
  pub record ReadSo (role : Role) (v : View) (steps : List Step) (shown : List Indication) : Type 0 where
    pub holds : Holds role (moved_all (at_role role) v steps)
    pub calm : AllCalm steps
    pub allowed : AllMight (at_role role) v.own steps
    pub sent_is : (moved_all (at_role role) v steps).own_sent ≡ v.own_sent
    pub given_is : (moved_all (at_role role) v steps).own_given ≡ v.own_given
    pub phase_is : (moved_all (at_role role) v steps).own.body.link.phase ≡ v.own.body.link.phase
    pub new : List Message
    pub took_is : (moved_all (at_role role) v steps).own_took ≡ v.own_took ++ new
    pub shown_is : shown ≡ shown_all t new
    pub whole : passes_over (moved_all (at_role role) v steps).own.body.link.phase ≡ false → first_at (moved_all (at_role role) v steps).own.line.rest ≡ Short

  ends_reading : (role : Role) (v : View) → Holds role v → (passes_over v.own.body.link.phase ≡ false → first_at v.own.line.rest ≡ Short) → ReadSo role v (feed_end ∷ []) []
  ends_reading role v h w =
      let is : moved (at_role role) v feed_end ≡ v = quiet (at_role role) v feed_end refl refl refl in
      record {
        holds = subst (λ (k : View). Holds role k) (sym is) h;
        calm = (tt, tt);
        allowed = (tt, tt);
        sent_is = ap (λ (k : View). k.own_sent) is;
        given_is = refl;
        phase_is = refl;
        new = [];
        took_is = ap (λ (k : View). k.own_took) is ∙ sym (append-nil v.own_took);
        shown_is = refl;
        whole = λ n. ap (λ (k : View). first_at k.own.line.rest) is ∙ w (sym (ap (λ (k : View). passes_over k.own.body.link.phase) is) ∙ n);
      }

  pub reads_so : (back : ReadsBack (at_role Initiator)) (role : Role) (v : View) (e : End) (steps : List Step) (shown : List Indication) → Reads (at_role role) e steps shown → v.own ≡ e → Holds role v → ReadSo role v steps shown
  reads_so back role v e steps shown (passes over) is h =
      ends_reading role v h (λ n. let k : true ≡ false = sym over ∙ sym (ap (λ (x : End). passes_over x.body.link.phase) is) ∙ n in cc)
  reads_so back role v e steps shown (waits up first) is h = ends_reading role v h (λ n. ap (λ (x : End). first_at x.line.rest) is ∙ first)
  reads_so back role v e steps shown (fails place up first) is h =
      absurd (none_faulty t readable first_law v.own.line.rest v.peer.line.waiting (coming_to role h.two) place
      (h.to.octets (ap (λ (x : End). passes_over x.body.link.phase) is ∙ up)) h.to.good (ap (λ (x : End). first_at x.line.rest) is ∙ first))
  reads_so back role v e steps shown (takes {steps = more} {shown = later} used content body answers told up first isc re next) is h =
      let base : Base = at_role role in
      let m : Message = bare_message v.own.body.sets.held content in
      let k = took_one back role v used content body answers told h (ap (λ (x : End). passes_over x.body.link.phase) is ∙ up) (ap (λ (x : End). first_at x.line.rest) is ∙ first)
      (subst (λ (x : End). IsContent t (syntax_of (pair_of x.body.sets.held 0)) (front (Whole used) x.line.rest) content) (sym is) isc)
      (ap (λ (x : End). react base x.body (bare_message x.body.sets.held content)) is ∙ re) in
      let there : (moved base v (took m)).own ≡ after_all base e (taking (bare_message e.body.sets.held content) answers) = λ i. after_all base (is i) (taking (bare_message (is i).body.sets.held content) (k.none i)) in
      let r = reads_so back role (moved base v (took m)) (after_all base e (taking (bare_message e.body.sets.held content) answers)) more later next there k.holds in
      let plain : ReadSo role v (took m ∷ more) (shown_by t k.message ++ later) =
      record {
        holds = r.holds;
        calm = (tt, r.calm);
        allowed = (k.allowed, r.allowed);
        sent_is = r.sent_is ∙ append-nil v.own_sent;
        given_is = r.given_is;
        phase_is = r.phase_is ∙ k.phase_is;
        new = k.message ∷ r.new;
        took_is = r.took_is ∙ append_assoc v.own_took (m ∷ []) r.new ∙ ap (λ (x : Message). v.own_took ++ x ∷ r.new) k.is_it;
        shown_is = ap (λ (l : List Indication). shown_by t k.message ++ l) r.shown_is;
        whole = r.whole;
      } in
      subst (λ (xs : List Step). ReadSo role v (xs ++ more) (told ++ later)) (λ i. taking (bare_message (is i).body.sets.held content) (k.none i))
      (subst (λ (us : List Indication). ReadSo role v (took m ∷ more) (us ++ later)) k.shows plain)

  -- ---- what a call leaves alone

  call_view : (role : Role) (v : View) (call : Call) (reply : Reply) → call_moves (at_role role) v call reply ≡ sending (at_role role) (record v { own = after (at_role role) v.own (called call reply) }) (due_of (at_role role) v.own.body call reply)
  call_view role v call reply =
      ap (λ (w : View). moved_all (at_role role) w (map sent (due_of (at_role role) v.own.body call reply))) (quiet (at_role role) v (called call reply) refl refl refl)
      ∙ sent_view (at_role role) (record v { own = after (at_role role) v.own (called call reply) }) (due_of (at_role role) v.own.body call reply)

  pub call_took : (role : Role) (v : View) (call : Call) (reply : Reply) → (call_moves (at_role role) v call reply).own_took ≡ v.own_took
  call_took role v call reply = ap (λ (w : View). w.own_took) (call_view role v call reply)

  pub call_sent : (role : Role) (v : View) (call : Call) (reply : Reply) → (call_moves (at_role role) v call reply).own_sent ≡ v.own_sent ++ due_of (at_role role) v.own.body call reply
  call_sent role v call reply = ap (λ (w : View). w.own_sent) (call_view role v call reply)

  pub call_given : (role : Role) (v : View) (call : Call) (reply : Reply) → (call_moves (at_role role) v call reply).own_given ≡ v.own_given
  call_given role v call reply = ap (λ (w : View). w.own_given) (call_view role v call reply)

  -- a call leaves the phase
  pub call_phase : (back : ReadsBack (at_role Initiator)) (role : Role) (v : View) (call : Call) (reply : Reply) → Holds role v → can_call (at_role role) v.own.body call ≡ reply
      → (call_moves (at_role role) v call reply).own.body.link.phase ≡ v.own.body.link.phase
  call_phase back role v call (Ok answer) h e =
      let base : Base = at_role role in
      ap (λ (w : View). w.own.body.link.phase) (call_view role v call (Ok answer))
      ∙ ap (λ (b : Body). b.link.phase) (sent_still base v.own.body.sets.held (after_call base v.own.body call (Ok answer)) (due_of base v.own.body call (Ok answer)) (due_plain t ca cb role v.own.body call answer e))
      ∙ (called_so t ca cb role v.own.body call answer (bare_set_at back role v h) e).same_phase
  call_phase back role v call (Err refusal) h e =
      ap (λ (w : View). w.own.body.link.phase) (call_view role v call (Err refusal)) ∙ ap (λ (b : Body). b.link.phase) (refused_still t ca cb role v.own.body call refusal e)

  pub call_rest : (role : Role) (v : View) (call : Call) (reply : Reply) → (call_moves (at_role role) v call reply).own.line.rest ≡ v.own.line.rest
  call_rest role v call reply = ap (λ (w : View). w.own.line.rest) (call_view role v call reply)

  -- an end that a call leaves not over wasn't over
  pub call_up : (role : Role) (v : View) (call : Call) (reply : Reply) → can_call (at_role role) v.own.body call ≡ reply → passes_over (call_moves (at_role role) v call reply).own.body.link.phase ≡ false → passes_over v.own.body.link.phase ≡ false
  call_up role v call (Ok answer) e n = let c = called_rungs (at_role role) v.own.body call answer e in up_of call v.own.body.link.phase c.in_phase c.in_mode
  call_up role v call (Err refusal) e n =
      ap (λ (b : Body). passes_over b.link.phase) (sym (refused_still t ca cb role v.own.body call refusal e))
      ∙ sym (ap (λ (w : View). passes_over w.own.body.link.phase) (call_view role v call (Err refusal))) ∙ n

  pub holds_called : (back : ReadsBack (at_role Initiator)) (role : Role) (v : View) (call : Call) (reply : Reply) → Holds role v → can_call (at_role role) v.own.body call ≡ reply → Holds role (call_moves (at_role role) v call reply)
  holds_called back role v call (Ok answer) h e = holds_accepted back role v call answer h e
  holds_called back role v call (Err refusal) h e = holds_refused back role v call refusal h e

pub peer_stays : (base : Base) (v : View) (steps : List Step) → (moved_all base v steps).peer ≡ v.peer
peer_stays base v [] = refl
peer_stays base v (x ∷ xs) = peer_stays base (moved base v x) xs

pub peer_took_stays : (base : Base) (v : View) (steps : List Step) → (moved_all base v steps).peer_took ≡ v.peer_took
peer_took_stays base v [] = refl
peer_took_stays base v (x ∷ xs) = peer_took_stays base (moved base v x) xs

pub peer_sent_stays : (base : Base) (v : View) (steps : List Step) → (moved_all base v steps).peer_sent ≡ v.peer_sent
peer_sent_stays base v [] = refl
peer_sent_stays base v (x ∷ xs) = peer_sent_stays base (moved base v x) xs

pub peer_given_stays : (base : Base) (v : View) (steps : List Step) → (moved_all base v steps).peer_given ≡ v.peer_given
peer_given_stays base v [] = refl
peer_given_stays base v (x ∷ xs) = peer_given_stays base (moved base v x) xs

pub sent_might : (base : Base) (e : End) (due : List Message) → AllMight base e (map sent due)
sent_might base e [] = tt
sent_might base e (m ∷ due) = (tt, sent_might base (after base e (sent m)) due)

pub calm_sent : (due : List Message) → AllCalm (map sent due)
calm_sent [] = tt
calm_sent (m ∷ due) = (tt, calm_sent due)
