-- Every run of two ends whose lines are octets is one of the messages that these octets are.
use Rattle.std.proofs.Common.{◌≡◌, refl, ◌∙◌, sym, ap, subst, ℕ, List, [], ◌∷◌, ◌++◌, map, length, take, true, false, None, Ok, Err}
use Rattle.std.specs.Prelude.{Option, Some, ℤ}
use Rattle.std.proofs.lemmas.List.{append-nil, length-take, take_min}
use Rattle.std.proofs.Math.Seq.{take-length}
use Rattle.osi_base.specs.declared.layer_words.Side.{Side}
use Rattle.dialogue.specs.declared.call.Call.{Call}
use Rattle.dialogue.specs.declared.call.CallRefusal.{CallRefusal}
use Rattle.end_model.specs.end_rules.Base.{Base}
use Rattle.end_model.specs.end_rules.Messages.{Message}
use Rattle.end_model.specs.end_rules.State.{Body}
use Rattle.end_model.specs.end_rules.Invoking.{Reply}
use Rattle.end_model.specs.end_rules.Calling.{can_call}
use Rattle.end_model.specs.end_rules.Requesting.{due_of}
use Rattle.end_model.specs.end_rules.ByItself.{OwnAct, SendsNow, EncodesOn, next_own}
use Rattle.end_model.specs.end_rules.History.{Step, called, sent, encoded, answered, feed_end, after_step, step_of, call_steps, ByItself, rests, goes}
use Rattle.end_model.specs.end_rules.World.{World, Shared, shared_after, shared_at}
use Rattle.tpkt.specs.Reader.{ReaderProgress, nothing}
use Rattle.tpkt.proofs.StreamLaws.{nothing_read}
use Rattle.agreement.specs.Sets.{Role, other}
use Rattle.agreement.specs.Sets.Role.{Initiator, Responder}
use Rattle.end_model.specs.Requests.{after_called}
use Rattle.end_model.specs.Sharing.{side_of, shared_all_sent, shared_all_answered}
use Rattle.end_model.specs.Acting.{apdus_of}
use Rattle.end_model.specs.BothEnds.{Common, base_at, Two, two_new, body_at, coming_to, stepped}
use Rattle.outcome_laws.specs.reliable_model.Ledgers.{Ledger, first_ledger, after_sending, after_own, own_messages}
use Rattle.outcome_laws.specs.reliable_model.Ledgers as ledgers
use Rattle.outcome_laws.specs.Exchanges.{Exchanges, on_exchange, calls_so, asked_by, gets, stays, nothing_exchanged, ReachedWithExchanges}
use Rattle.outcome_laws.specs.Exchanges as exchanges_
use Rattle.association_line.specs.association_wire.Written.{written}
use Rattle.association_line.specs.association_reading.Front.{all_fronts}
use Rattle.association_worlds.specs.said_words.Calls.{IsCall, Speaks}
use Rattle.osi_base.specs.Limits.{IsUnitSize}
use Rattle.dialogue.specs.Carries.{first_octets}
use Rattle.association_worlds.specs.InTransit.{IsWay, Way}
use Rattle.association_worlds.specs.Laws.{IsMeant, IsHeard}
use Rattle.association_worlds.proofs.Heard.{meant-heard}
use Rattle.run_laws.specs.Passing.{sendings, readings}
use Rattle.association_line.specs.Line.{Line, End, after, after_all}
use Rattle.association_line.specs.Feeding.{OwnAfter, Makes}
use Rattle.association_runs.specs.Worlds.{stepping}
use Rattle.association_runs.specs.Sides.{ends_for}
use Rattle.association_runs.proofs.Histories.{end_for, own-end, peer-end, other-other, stepping-append, shared_on, shared-stepping}
use Rattle.association_runs.proofs.Refusals.{refused-unchanged}
use Rattle.association_runs.proofs.Lines.{writing, all-sent, first-fits}
use Rattle.association_runs.proofs.Moments.{AreOn, sents-on, all_read, all_sent_in, messages_in, own-readings, peer-readings, own-sendings, peer-sendings, sents-sent, sents-read, Follows}
use Rattle.association_runs.proofs.Keeps.{IsQuiet, Keeps}
use Rattle.association_runs.proofs.Joint.{both, WayTo, FollowsAt, Joint, moved}

-- ---- the shared set

shared-sents : (base : Base) (side : Side) (s : Shared) (ms : List Message) → shared_on base side s (map sent ms) ≡ shared_all_sent base.mode side ms s
shared-sents base side s [] = refl
shared-sents base side s (m ∷ ms) = shared-sents base side (shared_after base side (sent m) s) ms

pub shared-answers : (base : Base) (side : Side) (s : Shared) (to : Message) (ms : List Message) → shared_on base side s (map (answered to) ms) ≡ shared_all_answered base to ms s
shared-answers base side s to [] = refl
shared-answers base side s to (m ∷ ms) = shared-answers base side (shared_after base side (answered to m) s) to ms

-- ---- octets

pub front-is : (most : Option ℕ) (xs : List ℕ) → first_octets most xs ≡ take (length (first_octets most xs)) xs
front-is None xs = sym (take-length xs)
front-is (Some k) xs = sym (ap (λ (n : ℕ). take n xs) (length-take k xs) ∙ take_min k xs)

pub new-way : (common : Common) → IsWay common.tables (record { fronts = []; held = nothing }) [] []
new-way common = record {
  done = [];
  ahead = [];
  got = [];
  are = refl;
  taken = tt;
  sent = tt;
  octets = refl;
  held = sym (ap (λ (f : ReaderProgress). f.held) nothing_read);
  fronts = ap (λ (f : ReaderProgress). all_fronts f.packets) nothing_read;
}

pub record Joined (common : Common) (Extra : World → Two → Ledger → Exchanges → Type 0) (w : World) : Type 0 where
  pub two : Two
  pub ledger : Ledger
  pub exchanges : Exchanges
  pub joint : Joint common w two ledger exchanges
  pub extra : Extra w two ledger exchanges

module _ (common : Common) (m : IsMeant common) (Extra : World → Two → Ledger → Exchanges → Type 0) (k : Keeps common Extra) where
  abbrev base : Role → Base
  base role = base_at role common

  heard : IsHeard common
  heard = meant-heard common m

  -- ---- at first

  pub begun : Joined common Extra []
  begun = record {
    two = two_new common;
    ledger = first_ledger common;
    exchanges = record { a = nothing_exchanged; b = nothing_exchanged };
    joint =
        record {
          reached_exchanges = exchanges_.begins;
          speaks = record { goes = ledgers.begins; calls = tt };
          bodies = bodies-so;
          sizes = sizes-so;
          ways = ways-so;
          shared = refl;
          follows = follows-so;
        };
    extra = k.begins;
  }
    where
      bodies-so : (role : Role) → (end_for common role []).body ≡ body_at role (two_new common)
      bodies-so Initiator = refl
      bodies-so Responder = refl

      sizes-so : (role : Role) → IsUnitSize (end_for common role []).line.size
      sizes-so Initiator = first-fits true
      sizes-so Responder = first-fits false

      ways-so : (role : Role) → WayTo common [] role (coming_to role (two_new common))
      ways-so Initiator = new-way common
      ways-so Responder = new-way common

      follows-so : (role : Role) → FollowsAt common [] role (coming_to role (two_new common))
      follows-so Initiator = refl
      follows-so Responder = refl

  -- ---- a call

  read-nothing : (role : Role) (w : World) (xs : List Step) (left : List Message) → all_read xs ≡ [] → FollowsAt common w role left
      → Follows (readings (side_of role) w ++ all_read xs) (messages_in (sendings (ends_for common) (side_of (other role)) w)) left
  read-nothing role w xs left e h =
      subst (λ (l : List _). Follows l (messages_in (sendings (ends_for common) (side_of (other role)) w)) left)
      (sym (ap (λ (l : List _). readings (side_of role) w ++ l) e ∙ append-nil (readings (side_of role) w))) h

  call-exchange : (role : Role) (two : Two) (ledger : Ledger) (exchanges : Exchanges) (call : Call) (answer : Option ℤ) (b : Body) → b ≡ body_at role two → ReachedWithExchanges common two ledger exchanges → can_call (base role) b call ≡ Ok answer
      → ReachedWithExchanges common (stepped role (after_called common.mode (base role) b call answer) (coming_to role two) (due_of (base role) b call (Ok answer)) two) (after_sending common role (due_of (base role) b call (Ok answer)) ledger)
      (on_exchange role (calls_so (apdus_of (base role) b call answer) (asked_by call answer)) (gets (due_of (base role) b call (Ok answer))) exchanges)
  call-exchange role two ledger exchanges call answer b e d c =
      subst (λ (b : Body). can_call (base role) b call ≡ Ok answer → ReachedWithExchanges common (stepped role (after_called common.mode (base role) b call answer) (coming_to role two) (due_of (base role) b call (Ok answer)) two) (after_sending common role (due_of (base role) b call (Ok answer)) ledger)
      (on_exchange role (calls_so (apdus_of (base role) b call answer) (asked_by call answer)) (gets (due_of (base role) b call (Ok answer))) exchanges)) (sym e)
      (λ c. exchanges_.calls two ledger exchanges role call answer d c) c

  call-speaks : (role : Role) (two : Two) (ledger : Ledger) (call : Call) (answer : Option ℤ) (b : Body) → b ≡ body_at role two → Speaks common two ledger → IsCall call → can_call (base role) b call ≡ Ok answer
      → Speaks common (stepped role (after_called common.mode (base role) b call answer) (coming_to role two) (due_of (base role) b call (Ok answer)) two) (after_sending common role (due_of (base role) b call (Ok answer)) ledger)
  call-speaks role two ledger call answer b e g typed c =
      subst (λ (b : Body). can_call (base role) b call ≡ Ok answer → Speaks common (stepped role (after_called common.mode (base role) b call answer) (coming_to role two) (due_of (base role) b call (Ok answer)) two) (after_sending common role (due_of (base role) b call (Ok answer)) ledger)) (sym e)
      (λ c. record { goes = ledgers.calls two ledger role call answer g.goes c; calls = (typed, g.calls) }) c

  accepted : (role : Role) (w : World) (call : Call) (answer : Option ℤ) → IsCall call → can_call (base role) (end_for common role w).body call ≡ Ok answer → Joined common Extra w
      → Joined common Extra (stepping (side_of role) w (called call (Ok answer) ∷ map sent (due_of (base role) (end_for common role w).body call (Ok answer))))
  accepted role w call answer typed c s =
      let e = end_for common role w in
      let j = s.joint in
      let due : List Message = due_of (base role) e.body call (Ok answer) in
      let g = call-speaks role s.two s.ledger call answer e.body (j.bodies role) j.speaks typed c in
      let d = call-exchange role s.two s.ledger s.exchanges call answer e.body (j.bodies role) j.reached_exchanges c in
      record {
        two = _;
        ledger = _;
        exchanges = _;
        joint =
            moved common heard role w (called call (Ok answer) ∷ map sent due) s.two (after_sending common role due s.ledger) s.ledger
            (on_exchange role (calls_so (apdus_of (base role) e.body call answer) (asked_by call answer)) (gets due) s.exchanges) s.exchanges
            (after_called common.mode (base role) e.body call answer) e.line (coming_to role s.two) due j
            (record {
              on = (tt, sents-on due);
              sends = sents-sent due;
              end = all-sent (base role) (after (base role) e (called call (Ok answer))) due;
              waits = refl;
              size = j.sizes role;
              way = j.ways role;
              follows = read-nothing role w (called call (Ok answer) ∷ map sent due) (coming_to role s.two) (sents-read due) (j.follows role);
              shared = shared-sents (base role) (side_of role) (shared_at (ends_for common) w) due ∙ ap (shared_all_sent common.mode (side_of role) due) j.shared;
              reached_exchanges = d;
              speaks = g;
            });
        extra = k.calls role w s.two s.ledger s.exchanges call answer j c s.extra;
      }

  -- ---- steps that neither send nor take

  -- the line may have changed, but not what waits
  quiet : (role : Role) (w : World) (x : Step) (line : Line) → IsQuiet x → AreOn (x ∷ []) → all_sent_in (x ∷ []) ≡ [] → all_read (x ∷ []) ≡ []
      → after_all (base role) (end_for common role w) (x ∷ []) ≡ record { body = (end_for common role w).body; line = line } → line.waiting ≡ (end_for common role w).line.waiting → line.size ≡ (end_for common role w).line.size
      → shared_on (base role) (side_of role) (shared_at (ends_for common) w) (x ∷ []) ≡ shared_at (ends_for common) w
      → (s : Joined common Extra w) → Way common.tables line.came (end_for common (other role) w).line.waiting (coming_to role s.two) → Joined common Extra (stepping (side_of role) w (x ∷ []))
  quiet role w x line is_quiet on none unread end same size shared s way =
      let e = end_for common role w in
      let j = s.joint in
      let xs : List Step = x ∷ [] in
      let v = stepping (side_of role) w (x ∷ []) in
      let own : end_for common role v ≡ record { body = e.body; line = line } = own-end common role w xs ∙ end in
      let peer : end_for common (other role) v ≡ end_for common (other role) w = peer-end common role w xs in
      record {
        two = s.two;
        ledger = s.ledger;
        exchanges = s.exchanges;
        joint =
            record {
              reached_exchanges = j.reached_exchanges;
              speaks = j.speaks;
              bodies =
                  both role (λ (r : Role). (end_for common r v).body ≡ body_at r s.two) (ap (λ (e : End). e.body) own ∙ j.bodies role) (ap (λ (e : End). e.body) peer ∙ j.bodies (other role));
              sizes =
                  both role (λ (r : Role). IsUnitSize (end_for common r v).line.size)
                  (subst (λ (e : End). IsUnitSize e.line.size) (sym own) (subst IsUnitSize (sym size) (j.sizes role))) (subst (λ (e : End). IsUnitSize e.line.size) (sym peer) (j.sizes (other role)));
              ways =
                  both role (λ (r : Role). WayTo common v r (coming_to r s.two))
                  (subst (λ (e : End). Way common.tables e.line.came (end_for common (other role) v).line.waiting (coming_to role s.two)) (sym own)
                  (subst (λ (e : End). Way common.tables line.came e.line.waiting (coming_to role s.two)) (sym peer) way))
                  (subst (λ (r : Role). Way common.tables (end_for common (other role) v).line.came (end_for common r v).line.waiting (coming_to (other role) s.two)) (sym (other-other role))
                  (subst (λ (e : End). Way common.tables e.line.came (end_for common role v).line.waiting (coming_to (other role) s.two)) (sym peer)
                  (subst (λ (e : End). Way common.tables (end_for common (other role) w).line.came e.line.waiting (coming_to (other role) s.two)) (sym own)
                  (subst (λ (os : List ℕ). Way common.tables (end_for common (other role) w).line.came os (coming_to (other role) s.two)) (sym same)
                  (subst (λ (r : Role). Way common.tables (end_for common (other role) w).line.came (end_for common r w).line.waiting (coming_to (other role) s.two)) (other-other role) (j.ways (other role)))))));
              shared = shared-stepping common role w xs ∙ shared ∙ j.shared;
              follows =
                  both role (λ (r : Role). FollowsAt common v r (coming_to r s.two))
                  (subst (λ (rs : List _). Follows rs (messages_in (sendings (ends_for common) (side_of (other role)) v)) (coming_to role s.two))
                  (sym (own-readings role w xs on ∙ ap (λ (l : List _). readings (side_of role) w ++ l) unread ∙ append-nil (readings (side_of role) w)))
                  (subst (λ (ms : List Message). Follows (readings (side_of role) w) ms (coming_to role s.two)) (sym (peer-sendings (ends_for common) role w xs on)) (j.follows role)))
                  (subst (λ (r : Role). Follows (readings (side_of (other role)) v) (messages_in (sendings (ends_for common) (side_of r) v)) (coming_to (other role) s.two)) (sym (other-other role))
                  (subst (λ (rs : List _). Follows rs (messages_in (sendings (ends_for common) (side_of role) v)) (coming_to (other role) s.two)) (sym (peer-readings role w xs on))
                  (subst (λ (ms : List Message). Follows (readings (side_of (other role)) w) ms (coming_to (other role) s.two))
                  (sym (own-sendings (ends_for common) role w xs on ∙ ap (λ (l : List Message). messages_in (sendings (ends_for common) (side_of role) w) ++ l) none ∙ append-nil (messages_in (sendings (ends_for common) (side_of role) w))))
                  (subst (λ (r : Role). Follows (readings (side_of (other role)) w) (messages_in (sendings (ends_for common) (side_of r) w)) (coming_to (other role) s.two)) (other-other role) (j.follows (other role))))));
            };
        extra = k.quiet role w s.two s.ledger s.exchanges x is_quiet s.extra;
      }

  pub ended : (role : Role) (w : World) → Joined common Extra w → Joined common Extra (stepping (side_of role) w (feed_end ∷ []))
  ended role w s = quiet role w feed_end (end_for common role w).line tt (tt, tt) refl refl refl refl refl refl s (s.joint.ways role)

  refused : (role : Role) (w : World) (call : Call) (refusal : CallRefusal) → can_call (base role) (end_for common role w).body call ≡ Err refusal → Joined common Extra w → Joined common Extra (stepping (side_of role) w (called call (Err refusal) ∷ []))
  refused role w call refusal c s =
      let e = end_for common role w in
      quiet role w (called call (Err refusal)) e.line tt (tt, tt) refl refl
      (λ i. record { body = refused-unchanged (base role) e.body call refusal c i; line = e.line }) refl refl refl s (s.joint.ways role)

  -- ---- what an end does by itself

  own-exchange : (role : Role) (two : Two) (ledger : Ledger) (exchanges : Exchanges) (own : OwnAct) (b : Body) → b ≡ body_at role two → ReachedWithExchanges common two ledger exchanges → next_own (base role) b ≡ Some own
      → ReachedWithExchanges common (stepped role (after_step (base role) b (step_of own)) (coming_to role two) (own_messages own) two) (after_own common role (body_at role two) own ledger) (on_exchange role stays (gets (own_messages own)) exchanges)
  own-exchange role two ledger exchanges own b e d c =
      subst (λ (b : Body). next_own (base role) b ≡ Some own → ReachedWithExchanges common (stepped role (after_step (base role) b (step_of own)) (coming_to role two) (own_messages own) two) (after_own common role (body_at role two) own ledger) (on_exchange role stays (gets (own_messages own)) exchanges)) (sym e)
      (λ c. exchanges_.acts two ledger exchanges role own d c) c

  own-speaks : (role : Role) (two : Two) (ledger : Ledger) (own : OwnAct) (b : Body) → b ≡ body_at role two → Speaks common two ledger → next_own (base role) b ≡ Some own
      → Speaks common (stepped role (after_step (base role) b (step_of own)) (coming_to role two) (own_messages own) two) (after_own common role (body_at role two) own ledger)
  own-speaks role two ledger own b e g c =
      subst (λ (b : Body). next_own (base role) b ≡ Some own → Speaks common (stepped role (after_step (base role) b (step_of own)) (coming_to role two) (own_messages own) two) (after_own common role (body_at role two) own ledger)) (sym e)
      (λ c. record { goes = ledgers.acts two ledger role own g.goes c; calls = g.calls }) c

  own-on : (own : OwnAct) → AreOn (step_of own ∷ [])
  own-on (SendsNow message) = (tt, tt)
  own-on (EncodesOn context) = (tt, tt)

  own-sends : (own : OwnAct) → all_sent_in (step_of own ∷ []) ≡ own_messages own
  own-sends (SendsNow message) = refl
  own-sends (EncodesOn context) = refl

  own-reads : (own : OwnAct) → all_read (step_of own ∷ []) ≡ []
  own-reads (SendsNow message) = refl
  own-reads (EncodesOn context) = refl

  own-shared : (b : Base) (side : Side) (s : Shared) (own : OwnAct) → shared_on b side s (step_of own ∷ []) ≡ shared_all_sent b.mode side (own_messages own) s
  own-shared b side s (SendsNow message) = refl
  own-shared b side s (EncodesOn context) = refl

  own-line : (b : Base) (e : End) (own : OwnAct) → after_all b e (step_of own ∷ []) ≡ record { body = after_step b e.body (step_of own); line = writing b (own_messages own) e.line }
  own-line b e (SendsNow message) = λ i. record { body = after_step b e.body (sent message); line = record e.line { waiting = e.line.waiting ++ sym (append-nil (written b.tables e.line.size message)) i } }
  own-line b e (EncodesOn context) = λ i. record { body = after_step b e.body (encoded context); line = record e.line { waiting = sym (append-nil e.line.waiting) i } }

  acted : (role : Role) (w : World) (own : OwnAct) → next_own (base role) (end_for common role w).body ≡ Some own → Joined common Extra w → Joined common Extra (stepping (side_of role) w (step_of own ∷ []))
  acted role w own c s =
      let e = end_for common role w in
      let j = s.joint in
      record {
        two = _;
        ledger = _;
        exchanges = _;
        joint =
            moved common heard role w (step_of own ∷ []) s.two (after_own common role (body_at role s.two) own s.ledger) s.ledger
            (on_exchange role stays (gets (own_messages own)) s.exchanges) s.exchanges (after_step (base role) e.body (step_of own)) e.line (coming_to role s.two) (own_messages own) j
            (record {
              on = own-on own;
              sends = own-sends own;
              end = own-line (base role) e own;
              waits = refl;
              size = j.sizes role;
              way = j.ways role;
              follows = read-nothing role w (step_of own ∷ []) (coming_to role s.two) (own-reads own) (j.follows role);
              shared = own-shared (base role) (side_of role) (shared_at (ends_for common) w) own ∙ ap (shared_all_sent common.mode (side_of role) (own_messages own)) j.shared;
              reached_exchanges = own-exchange role s.two s.ledger s.exchanges own e.body (j.bodies role) j.reached_exchanges c;
              speaks = own-speaks role s.two s.ledger own e.body (j.bodies role) j.speaks c;
            });
        extra = k.acts role w s.two s.ledger s.exchanges own j c s.extra;
      }

  pub all-own : (role : Role) (w : World) (b : Body) (own : List Step) → b ≡ (end_for common role w).body → ByItself (base role) b own → Joined common Extra w → Joined common Extra (stepping (side_of role) w own)
  all-own role w b own e (rests c) s = s
  all-own role w b own e (goes {steps = more} act c next) s =
      let later = acted role w act (ap (next_own (base role)) (sym e) ∙ c) s in
      all-own role (stepping (side_of role) w (step_of act ∷ [])) (after_step (base role) b (step_of act)) more
      (ap (λ (x : Body). after_step (base role) x (step_of act)) e ∙ sym (ap (λ (e : End). e.body) (own-end common role w (step_of act ∷ [])))) next later

  pub all-called : (role : Role) (w : World) (call : Call) (steps : List Step) → IsCall call → Makes (base role) (end_for common role w) call steps → Joined common Extra w → Joined common Extra (stepping (side_of role) w steps)
  all-called role w call steps typed x s =
      subst (λ (l : List Step). Joined common Extra (stepping (side_of role) w l)) (sym x.all)
      (subst (Joined common Extra) (sym (stepping-append (side_of role) w (call_steps (base role) e.body call) x.own)) (go (can_call (base role) e.body call) refl x.by_itself))
    where
      e : End
      e = end_for common role w

      go : (reply : Reply) → can_call (base role) (end_for common role w).body call ≡ reply → OwnAfter (base role) (can_call (base role) (end_for common role w).body call) (after_all (base role) (end_for common role w) (call_steps (base role) (end_for common role w).body call)).body x.own
          → Joined common Extra (stepping (side_of role) (stepping (side_of role) w (call_steps (base role) (end_for common role w).body call)) x.own)
      go (Ok answer) c own =
          let made : Joined common Extra (stepping (side_of role) w (call_steps (base role) (end_for common role w).body call)) =
          subst (λ (r : Reply). Joined common Extra (stepping (side_of role) w (called call r ∷ map sent (due_of (base role) (end_for common role w).body call r)))) (sym c) (accepted role w call answer typed c s) in
          all-own role (stepping (side_of role) w (call_steps (base role) (end_for common role w).body call)) _ x.own
          (sym (ap (λ (e : End). e.body) (own-end common role w (call_steps (base role) (end_for common role w).body call))))
          (subst (λ (r : Reply). OwnAfter (base role) r (after_all (base role) (end_for common role w) (call_steps (base role) (end_for common role w).body call)).body x.own) c own) made
      go (Err refusal) c own =
          let made : Joined common Extra (stepping (side_of role) w (call_steps (base role) (end_for common role w).body call)) =
          subst (λ (r : Reply). Joined common Extra (stepping (side_of role) w (called call r ∷ map sent (due_of (base role) (end_for common role w).body call r)))) (sym c) (refused role w call refusal c s) in
          let none : x.own ≡ [] = subst (λ (r : Reply). OwnAfter (base role) r (after_all (base role) (end_for common role w) (call_steps (base role) (end_for common role w).body call)).body x.own) c own in
          subst (λ (l : List Step). Joined common Extra (stepping (side_of role) (stepping (side_of role) w (call_steps (base role) (end_for common role w).body call)) l)) (sym none) made
