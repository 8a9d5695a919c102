-- What stands first in the octets that came to an end is the message that comes next to it, and is taken or passed over as that;
-- no end fails.
use Rattle.std.proofs.Common.{◌≡◌, refl, ◌∙◌, sym, ap, subst, List, [], ◌∷◌, ◌++◌}
use Rattle.std.specs.Prelude.{Option, Some, option_map}
use Rattle.std.proofs.lemmas.List.{append-nil}
use Rattle.dialogue.specs.declared.indication.Indication.{Indication}
use Rattle.end_model.specs.end_rules.Base.{Base, Fault}
use Rattle.end_model.specs.end_rules.Messages.{Message, Session, Transport, unit_of}
use Rattle.end_model.specs.end_rules.State.{Body}
use Rattle.end_model.specs.end_rules.Reacting.{Reaction, Passes, Takes, Fails, react}
use Rattle.end_model.specs.end_rules.History.{Step, took, passed, after_taken}
use Rattle.end_model.specs.end_rules.World.{World, shared_at}
use Rattle.spdu_codec.specs.Places.{user_places}
use Rattle.spdu_codec.specs.Written.{stands_alone}
use Rattle.agreement.specs.Sets.{Role, other}
use Rattle.end_model.specs.Sharing.{side_of, shared_all_answered}
use Rattle.end_model.specs.BothEnds.{Common, base_at, Two, body_at, coming_to, stepped}
use Rattle.outcome_laws.specs.reliable_model.Ledgers.{Ledger, after_taking}
use Rattle.outcome_laws.specs.reliable_model.Ledgers as ledgers
use Rattle.outcome_laws.specs.Exchanges.{Exchanges, on_exchange, gets, stays, takes_so, meets}
use Rattle.outcome_laws.specs.Exchanges as exchanges_
use Rattle.association_line.specs.association_wire.Units.{user_octets}
use Rattle.association_line.specs.association_wire.Written.{with_user, tsdu_of}
use Rattle.association_line.specs.association_reading.Front.{Intake, first_in, behind_first}
use Rattle.association_line.specs.association_reading.Reacting.{react_to}
use Rattle.association_worlds.specs.said_words.Calls.{Speaks}
use Rattle.association_worlds.specs.InTransit.{Way, start_in, front_of}
use Rattle.association_worlds.specs.Laws.{IsMeant, IsHeard}
use Rattle.association_worlds.proofs.Kept.{FirstOf, first-of, heard-so}
use Rattle.association_worlds.proofs.Heard.{meant-heard}
use Rattle.run_laws.specs.Passing.{as_read, sendings, readings}
use Rattle.association_line.specs.Line.{Line, End, after, after_all, takes_first, size_after}
use Rattle.association_line.specs.Feeding.{word_in, message_in, taking, Reads, is_over, waits, passes, takes, fails}
use Rattle.association_runs.specs.Worlds.{stepping}
use Rattle.association_runs.specs.Sides.{ends_for}
use Rattle.association_runs.proofs.Histories.{end_for, own-end, stepping-append}
use Rattle.association_runs.proofs.Reactions.{taken-leaves}
use Rattle.association_runs.proofs.Lines.{writing, all-answered, size-fits}
use Rattle.association_runs.proofs.Moments.{answers-on, answers-sent, answers-read, Follows, follows-none, follows-some, messages_in}
use Rattle.association_runs.proofs.Keeps.{Keeps}
use Rattle.association_runs.proofs.Joint.{moved}
use Rattle.association_runs.proofs.Joined.{Joined, shared-answers}

module _ (common : Common) (m : IsMeant common) (Extra : World → Two → Ledger → Exchanges → Type 0) (k : Keeps common Extra) where
  abbrev base : Role → Base
  base role = base_at role common

  heard : IsHeard common
  heard = meant-heard common m

  abbrev Next : (role : Role) (w : World) (two : Two) (intake : Intake) → Type 0
  Next role w two intake = FirstOf common.tables intake (end_for common (other role) w).line.waiting (coming_to role two)

  pub next : (role : Role) (w : World) (s : Joined common Extra w) (intake : Intake) (r : Reaction) → (end_for common role w).line.came ≡ Some intake → react_to (base role) (end_for common role w).body (first_in intake) ≡ Some r → Next role w s.two intake
  next role w s intake r c t =
      first-of common.tables (base role) (end_for common role w).body intake (end_for common (other role) w).line.waiting (coming_to role s.two) r
      (subst (λ (o : Option Intake). Way common.tables o (end_for common (other role) w).line.waiting (coming_to role s.two)) c (s.joint.ways role)) t

  -- what the end does is what it does with that message
  pub reaction : (role : Role) (w : World) (s : Joined common Extra w) (intake : Intake) (r : Reaction) → (f : Next role w s.two intake) → react_to (base role) (end_for common role w).body (first_in intake) ≡ Some r → react (base role) (body_at role s.two) f.message ≡ r
  reaction role w s intake r f t =
      heard-so common heard s.two s.ledger role (end_for common role w).body intake (end_for common (other role) w).line.waiting r (s.joint.bodies role) s.joint.speaks f t

  -- and a word that is taken is the one that its octets mean
  pub meant-message : (role : Role) (two : Two) (ledger : Ledger) (message : Message) (left : List Message) (body : Body) (answers : List Message) (shown : List Indication) → Speaks common two ledger → coming_to role two ≡ message ∷ left
      → react (base role) (body_at role two) message ≡ Takes body answers shown → message_in (base role) (body_at role two) (front_of common.tables message) ≡ Some message
  meant-message role two ledger (Transport unit) left body answers shown g e r = refl
  meant-message role two ledger (Session word) left body answers shown g e r =
      ap word_in
      (m.meant two ledger g role word left body answers shown
      (start_in (stands_alone (with_user (user_octets common.tables word) (unit_of word))) (user_places (tsdu_of common.tables word))) e r)

  pub same-message : (x y : Message) → Some x ≡ Some y → x ≡ y
  same-message x y e = cc

  pub took-so : (role : Role) (w : World) (intake : Intake) (message : Message) (body : Body) (answers : List Message) (shown : List Indication) → (end_for common role w).line.came ≡ Some intake
      → message_in (base role) (end_for common role w).body (first_in intake) ≡ Some message → react_to (base role) (end_for common role w).body (first_in intake) ≡ Some (Takes body answers shown)
      → Joined common Extra w → Joined common Extra (stepping (side_of role) w (taking message answers))
  took-so role w intake message body answers shown c i t s =
      let e = end_for common role w in
      let j = s.joint in
      let f = next role w s intake (Takes body answers shown) c t in
      let r = reaction role w s intake (Takes body answers shown) f t in
      let same : message ≡ f.message =
      same-message message f.message
      (sym i ∙ (λ n. message_in (base role) (j.bodies role n) (f.front n)) ∙ meant-message role s.two s.ledger f.message f.left body answers shown j.speaks f.is r) in
      let leaves : after_taken (base role) e.body message ≡ body =
      (λ n. after_taken (base role) (j.bodies role n) (same n)) ∙ sym (taken-leaves (base role) (body_at role s.two) f.message body answers shown r) in
      let line : Line = record (takes_first e.line) { size = size_after (base role) e.line.size message } in
      record {
        two = _;
        ledger = _;
        exchanges = _;
        joint =
            moved common heard role w (taking message answers) s.two (after_taking common role (body_at role s.two) f.message answers s.ledger) s.ledger
            (on_exchange role (takes_so (base role) (body_at role s.two) f.message shown) (gets answers) s.exchanges) s.exchanges body line f.left answers j
            (record {
              on = (tt, answers-on message answers);
              sends = answers-sent message answers;
              end = all-answered (base role) (after (base role) e (took message)) message answers ∙ (λ n. record { body = leaves n; line = writing (base role) answers line });
              waits = refl;
              size = size-fits (base role) e.line.size message (j.sizes role);
              way = subst (λ (o : Option Intake). Way common.tables (option_map behind_first o) (end_for common (other role) w).line.waiting f.left) (sym c) f.way;
              follows =
                  subst (λ (l : List _). Follows l (messages_in (sendings (ends_for common) (side_of (other role)) w)) f.left)
                  (ap (λ (l : List _). readings (side_of role) w ++ (Some (as_read message) ∷ l)) (sym (answers-read message answers)))
                  (follows-some (readings (side_of role) w) (messages_in (sendings (ends_for common) (side_of (other role)) w)) (coming_to role s.two) f.left f.message (as_read message) f.is same (j.follows role));
              shared =
                  shared-answers (base role) (side_of role) (shared_at (ends_for common) w) message answers
                  ∙ (λ n. shared_all_answered (base role) (same n) answers (j.shared n));
              reached_exchanges = exchanges_.takes s.two s.ledger s.exchanges role f.message f.left body answers shown j.reached_exchanges f.is r;
              speaks = record { goes = ledgers.takes s.two s.ledger role f.message f.left body answers shown j.speaks.goes f.is r; calls = j.speaks.calls };
            });
        extra =
            subst (λ (x : Message). Extra (stepping (side_of role) w (taking x answers)) (stepped role body f.left answers s.two) (after_taking common role (body_at role s.two) f.message answers s.ledger)
            (on_exchange role (takes_so (base role) (body_at role s.two) f.message shown) (gets answers) s.exchanges)) (sym same)
            (k.takes role w s.two s.ledger s.exchanges f.message f.left body answers shown j f.is r s.extra);
      }

  pub passed-so : (role : Role) (w : World) (intake : Intake) → (end_for common role w).line.came ≡ Some intake → react_to (base role) (end_for common role w).body (first_in intake) ≡ Some Passes
      → Joined common Extra w → Joined common Extra (stepping (side_of role) w (passed ∷ []))
  passed-so role w intake c t s =
      let e = end_for common role w in
      let j = s.joint in
      let f = next role w s intake Passes c t in
      let r = reaction role w s intake Passes f t in
      record {
        two = _;
        ledger = _;
        exchanges = _;
        joint =
            moved common heard role w (passed ∷ []) s.two s.ledger s.ledger (on_exchange role (meets f.message) stays s.exchanges) s.exchanges (body_at role s.two) (takes_first e.line) f.left [] j
            (record {
              on = (tt, tt);
              sends = refl;
              end = λ n. record { body = j.bodies role n; line = record (takes_first e.line) { waiting = sym (append-nil e.line.waiting) n } };
              waits = refl;
              size = j.sizes role;
              way = subst (λ (o : Option Intake). Way common.tables (option_map behind_first o) (end_for common (other role) w).line.waiting f.left) (sym c) f.way;
              follows = follows-none (readings (side_of role) w) (messages_in (sendings (ends_for common) (side_of (other role)) w)) (coming_to role s.two) f.left f.message f.is (j.follows role);
              shared = j.shared;
              reached_exchanges = exchanges_.passes s.two s.ledger s.exchanges role f.message f.left j.reached_exchanges f.is r;
              speaks = record { goes = ledgers.passes s.two s.ledger role f.message f.left j.speaks.goes f.is r; calls = j.speaks.calls };
            });
        extra = k.passes role w s.two s.ledger s.exchanges f.message f.left j f.is r s.extra;
      }

  pub never-fails : (role : Role) (w : World) (intake : Intake) (fault : Fault) (body : Body) (aborts : List Message) (shown : List Indication) → (end_for common role w).line.came ≡ Some intake
      → react_to (base role) (end_for common role w).body (first_in intake) ≡ Some (Fails fault body aborts shown) → Joined common Extra w → ⊥
  never-fails role w intake fault body aborts shown c t s =
      let f = next role w s intake (Fails fault body aborts shown) c t in
      m.faultless s.two s.ledger s.joint.speaks.goes role f.message f.left fault body aborts shown f.is (reaction role w s intake (Fails fault body aborts shown) f t)

  pub all-reads : (role : Role) (w : World) (e : End) (steps : List Step) (shown : List Indication) → e ≡ end_for common role w → Reads (base role) e steps shown → Joined common Extra w → Joined common Extra (stepping (side_of role) w steps)
  all-reads role w e steps shown is (is_over o) s = s
  all-reads role w e steps shown is (waits intake u c short) s = s
  all-reads role w e steps shown is (passes {steps = more} {shown = later} intake u c t next) s =
      let came : (end_for common role w).line.came ≡ Some intake = ap (λ (x : End). x.line.came) (sym is) ∙ c in
      let r = passed-so role w intake came (ap (λ (x : End). react_to (base role) x.body (first_in intake)) (sym is) ∙ t) s in
      all-reads role (stepping (side_of role) w (passed ∷ [])) (after (base role) e passed) more later (ap (λ (x : End). after (base role) x passed) is ∙ sym (own-end common role w (passed ∷ []))) next r
  all-reads role w e steps shown is (takes {steps = more} {shown = later} intake message body answers told u c i t next) s =
      let came : (end_for common role w).line.came ≡ Some intake = ap (λ (x : End). x.line.came) (sym is) ∙ c in
      let r =
      took-so role w intake message body answers told came (ap (λ (x : End). message_in (base role) x.body (first_in intake)) (sym is) ∙ i)
      (ap (λ (x : End). react_to (base role) x.body (first_in intake)) (sym is) ∙ t) s in
      let there : after_all (base role) e (taking message answers) ≡ end_for common role (stepping (side_of role) w (taking message answers)) =
      ap (λ (x : End). after_all (base role) x (taking message answers)) is ∙ sym (own-end common role w (taking message answers)) in
      subst (Joined common Extra) (sym (stepping-append (side_of role) w (taking message answers) more))
      (all-reads role (stepping (side_of role) w (taking message answers)) (after_all (base role) e (taking message answers)) more later there next r)
  all-reads role w e steps shown is (fails intake fault body aborts told u c t) s =
      absurd (never-fails role w intake fault body aborts told (ap (λ (x : End). x.line.came) (sym is) ∙ c) (ap (λ (x : End). react_to (base role) x.body (first_in intake)) (sym is) ∙ t) s)
