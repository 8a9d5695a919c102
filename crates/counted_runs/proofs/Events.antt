-- Whole runs: what goes between two ends is counted after each event.
use Rattle.std.proofs.Common.{◌≡◌, refl, sym, ap, subst, ◌∙◌, ℕ, List, [], ◌∷◌, ◌++◌, ◌+◌, map, length, take, drop, false, None, Ok, Err}
use Rattle.std.specs.Prelude.{Option, Some, option_map, if◌then◌else◌}
use Rattle.std.proofs.lemmas.List.{append-nil}
use Rattle.osi_base.specs.declared.layer_words.Layer.TheVariants as layers
use Rattle.osi_base.specs.declared.layer_words.Side.TheVariants.{A, B}
use Rattle.dialogue.specs.Carries.{first_octets}
use Rattle.dialogue.specs.declared.call.Call.{Call}
use Rattle.dialogue.specs.declared.event.Event.{Event}
use Rattle.dialogue.specs.declared.event.Entry.{Entry}
use Rattle.dialogue.specs.declared.indication.Indication.{Indication}
use Rattle.tpkt.specs.declared.packet.TFault.{TFault}
use Rattle.end_rules.specs.Base.{Base}
use Rattle.end_rules.specs.Messages.{Message}
use Rattle.end_rules.specs.State.{Body, passes_over}
use Rattle.end_rules.specs.Invoking.{Reply}
use Rattle.end_rules.specs.Calling.{can_call}
use Rattle.end_rules.specs.Requesting.{due_of}
use Rattle.end_rules.specs.ByItself.{SendsNow, EncodesOn}
use Rattle.end_rules.specs.Reacting.{Reaction, Passes, Takes, Fails, fails}
use Rattle.end_rules.specs.History.{Step, sent, fed, took, answered, passed, aborted, feed_end, gave, broke, call_steps, ByItself, rests, goes}
use Rattle.end_rules.specs.World.{World}
use Rattle.agreement.specs.Sets.{Role, other}
use Rattle.agreement.specs.Sets.Role.{Initiator, Responder}
use Rattle.end_model.specs.Sharing.{side_of}
use Rattle.end_model.specs.BothEnds.{Common, base_at, Two, coming_to}
use Rattle.association_runs.specs.reliable_model.Ledgers.{Ledger}
use Rattle.association_runs.specs.outcome_laws.Exchanges.{Exchanges}
use Rattle.association_worlds.specs.said_words.Calls.{IsCall}
use Rattle.association_worlds.specs.association_reading.Front.{Front, Intake, first_front, front_held, first_in, with_octets}
use Rattle.association_worlds.specs.association_reading.Reacting.{react_to, grammar_fault}
use Rattle.association_worlds.specs.InTransit.{AreCarried}
use Rattle.association_worlds.specs.Laws.{IsMeant}
use Rattle.association_worlds.proofs.Kept.{carried-behind}
use Rattle.run_laws.specs.Passing.{PairedMessage, sendings, readings}
use Rattle.run_laws.specs.Laws.{NothingFails}
use Rattle.association_runs.specs.association_line.Line.{End, after, after_all}
use Rattle.association_runs.specs.association_line.Feeding.{taking, failing, Reads, is_over, waits, passes, takes, fails as failed, OwnAfter, Makes}
use Rattle.association_runs.specs.Worlds.{stepping, Runs}
use Rattle.association_runs.specs.Worlds as runs
use Rattle.association_runs.specs.Laws.{AreEvents}
use Rattle.association_runs.specs.Octets.{given}
use Rattle.association_runs.specs.Sides.{ends_for}
use Rattle.association_runs.proofs.Histories.{end_for, own-end, other-other, stepping-append}
use Rattle.association_runs.proofs.Moments.{AreOn, IsOn, all_sent_in, messages_in, on-append, answers-on, own-sendings, peer-sendings, peer-readings, Follows, follows-sent}
use Rattle.association_runs.proofs.Joint.{both, Joint}
use Rattle.association_runs.proofs.Joined.{Joined, begun, front-is, all-called}
use Rattle.association_runs.proofs.Carried.{carried-a, carried-b, broken, fed-so}
use Rattle.association_runs.proofs.Calm.{calm-keeps}
use Rattle.association_runs.proofs.Keeps.{Keeps}
use Rattle.counted_runs.proofs.Sents.{sents_at}
use Rattle.counted_runs.proofs.Flows.{Flow, no-flow, IsOut, giver-step, IsStill, taker-step, IsReading, reading-step, carry-step}

-- ---- what stands first where an end does something

abbrev NeverFails : Reaction → Type 0
NeverFails Passes = Unit {0}
NeverFails (Takes body answers shown) = Unit {0}
NeverFails (Fails f body aborts shown) = ⊥

record Standing (intake : Intake) : Type 0 where
  front : Front
  more : List Front
  is : intake.fronts ≡ front ∷ more

same-reaction : (x y : Reaction) → Some x ≡ Some y → x ≡ y
same-reaction x y e = cc

-- where nothing whole stands, an end waits or fails
standing : (base : Base) (body : Body) (intake : Intake) (r : Reaction) → passes_over body.link.phase ≡ false → react_to base body (first_in intake) ≡ Some r → NeverFails r → Standing intake
standing base body intake r up t n = go intake.fronts refl
  where
    by-fault : (o : Option TFault) → react_to base body (front_held o) ≡ Some r → ⊥
    by-fault None k = (let none : None ≡ Some r = k in cc)
    by-fault (Some f) k =
        let failing_so : Reaction = fails body body.link.accepted (grammar_fault body layers.Transport f.place) in
        let alike : failing_so ≡ r = same-reaction failing_so r ((λ i. Some (if sym up i then Passes else failing_so)) ∙ k) in
        subst NeverFails (sym alike) n

    go : (fronts : List Front) → intake.fronts ≡ fronts → Standing intake
    go [] e = absurd (by-fault intake.held.fault (sym (ap (λ (fs : List Front). react_to base body (first_front intake.held fs)) e) ∙ t))
    go (front ∷ more) e = record { front = front; more = more; is = e }

-- ---- steps that neither bring octets, nor read, nor give octets out

abbrev pub AreInner : List Step → Type 0
AreInner [] = Unit {0}
AreInner (x ∷ xs) = IsStill x × IsOut x × AreInner xs

inner-append : (xs ys : List Step) → AreInner xs → AreInner ys → AreInner (xs ++ ys)
inner-append [] ys h k = k
inner-append (x ∷ xs) ys h k = (h.0, h.1, inner-append xs ys h.2 k)

sents-inner : (ms : List Message) → AreInner (map sent ms)
sents-inner [] = tt
sents-inner (m ∷ ms) = (tt, tt, sents-inner ms)

answers-inner : (to : Message) (ms : List Message) → AreInner (map (answered to) ms)
answers-inner to [] = tt
answers-inner to (m ∷ ms) = (tt, tt, answers-inner to ms)

aborts-inner : (ms : List Message) → AreInner (map aborted ms)
aborts-inner [] = tt
aborts-inner (m ∷ ms) = (tt, tt, aborts-inner ms)

own-inner : (base : Base) (b : Body) (own : List Step) → ByItself base b own → AreInner own
own-inner base b own (rests h) = tt
own-inner base b own (goes {steps = more} (SendsNow message) h next) = (tt, tt, own-inner base _ more next)
own-inner base b own (goes {steps = more} (EncodesOn context) h next) = (tt, tt, own-inner base _ more next)

makes-inner : (base : Base) (e : End) (call : Call) (steps : List Step) → Makes base e call steps → AreInner steps
makes-inner base e call steps x =
    subst AreInner (sym x.all)
    (inner-append (call_steps base e.body call) x.own (tt, tt, sents-inner (due_of base e.body call (can_call base e.body call))) (go (can_call base e.body call) (after_all base e (call_steps base e.body call)).body x.by_itself))
  where
    go : (reply : Reply) (b : Body) → OwnAfter base reply b x.own → AreInner x.own
    go (Ok answer) b o = own-inner base b x.own o
    go (Err refusal) b o = subst AreInner (sym o) tt

inner-on : (xs : List Step) → AreInner xs → AreOn xs
inner-on [] h = tt
inner-on (x ∷ xs) h = (one x h.1, inner-on xs h.2)
  where
    one : (x : Step) → IsOut x → IsOn x
    one broke o = absurd o
    one _ o = tt

reads-on : (base : Base) (e : End) (steps : List Step) (shown : List Indication) → Reads base e steps shown → AreOn steps
reads-on base e steps shown (is_over o) = tt
reads-on base e steps shown (waits intake u c short) = tt
reads-on base e steps shown (passes {steps = more} {shown = later} intake u c t next) = (tt, reads-on base _ more later next)
reads-on base e steps shown (takes {steps = more} {shown = later} intake message body answers told u c i t next) =
    on-append (taking message answers) more (tt, answers-on message answers) (reads-on base _ more later next)
reads-on base e steps shown (failed intake f body aborts told u c t) = inner-on (failing f aborts) (tt, tt, aborts-inner aborts)

-- ---- both ways

module _ (common : Common) where
  abbrev base : Role → Base
  base role = base_at role common

  pub record Flows (w : World) : Type 0 where
    pub to_b : Flow common.tables (sents_at (ends_for common) A w) (end_for common Initiator w).line.waiting (given A w) (length (readings B w)) (end_for common Responder w).line.came
    pub to_a : Flow common.tables (sents_at (ends_for common) B w) (end_for common Responder w).line.waiting (given B w) (length (readings A w)) (end_for common Initiator w).line.came

  one-inner : (role : Role) (w : World) (x : Step) → IsStill x → IsOut x → Flows w → Flows (record { side = side_of role; step = x } ∷ w)
  one-inner Initiator w x s o f =
      record {
        to_b = giver-step (base Initiator) (end_for common Initiator w) x (sents_at (ends_for common) A w) (given A w) (readings B w) (end_for common Responder w).line.came o f.to_b;
        to_a = taker-step (base Initiator) (end_for common Initiator w) x common.tables (sents_at (ends_for common) B w) (end_for common Responder w).line.waiting (given B w) (readings A w) s f.to_a;
      }
  one-inner Responder w x s o f =
      record {
        to_b = taker-step (base Responder) (end_for common Responder w) x common.tables (sents_at (ends_for common) A w) (end_for common Initiator w).line.waiting (given A w) (readings B w) s f.to_b;
        to_a = giver-step (base Responder) (end_for common Responder w) x (sents_at (ends_for common) B w) (given B w) (readings A w) (end_for common Initiator w).line.came o f.to_a;
      }

  all-inner : (role : Role) (w : World) (xs : List Step) → AreInner xs → Flows w → Flows (stepping (side_of role) w xs)
  all-inner role w [] h f = f
  all-inner role w (x ∷ xs) h f = all-inner role (record { side = side_of role; step = x } ∷ w) xs h.2 (one-inner role w x h.0 h.1 f)

  -- what stands first is taken or passed over
  one-reading : (role : Role) (w : World) (x : Step) (intake : Intake) → IsReading x → IsOut x → (end_for common role w).line.came ≡ Some intake → Standing intake → Flows w → Flows (record { side = side_of role; step = x } ∷ w)
  one-reading Initiator w x intake r o c s f =
      record {
        to_b = giver-step (base Initiator) (end_for common Initiator w) x (sents_at (ends_for common) A w) (given A w) (readings B w) (end_for common Responder w).line.came o f.to_b;
        to_a =
            reading-step (base Initiator) (end_for common Initiator w) x common.tables (sents_at (ends_for common) B w) (end_for common Responder w).line.waiting (given B w) (readings A w)
            intake s.front s.more r c s.is f.to_a;
      }
  one-reading Responder w x intake r o c s f =
      record {
        to_b =
            reading-step (base Responder) (end_for common Responder w) x common.tables (sents_at (ends_for common) A w) (end_for common Initiator w).line.waiting (given A w) (readings B w)
            intake s.front s.more r c s.is f.to_b;
        to_a = giver-step (base Responder) (end_for common Responder w) x (sents_at (ends_for common) B w) (given B w) (readings A w) (end_for common Initiator w).line.came o f.to_a;
      }

  all-readings : (role : Role) (w : World) (e : End) (steps : List Step) (shown : List Indication) → e ≡ end_for common role w → Reads (base role) e steps shown → Flows w → Flows (stepping (side_of role) w steps)
  all-readings role w e steps shown is (is_over o) f = f
  all-readings role w e steps shown is (waits intake u c short) f = f
  all-readings role w e steps shown is (passes {steps = more} {shown = later} intake u c t next) f =
      let came : (end_for common role w).line.came ≡ Some intake = ap (λ (x : End). x.line.came) (sym is) ∙ c in
      let s = standing (base role) e.body intake Passes u t tt in
      let one = one-reading role w passed intake tt tt came s f in
      all-readings role (record { side = side_of role; step = passed } ∷ w) (after (base role) e passed) more later (ap (λ (x : End). after (base role) x passed) is ∙ sym (own-end common role w (passed ∷ []))) next one
  all-readings role w e steps shown is (takes {steps = more} {shown = later} intake message body answers told u c i t next) f =
      let came : (end_for common role w).line.came ≡ Some intake = ap (λ (x : End). x.line.came) (sym is) ∙ c in
      let s = standing (base role) e.body intake (Takes body answers told) u t tt in
      let one = one-reading role w (took message) intake tt tt came s f in
      let all : Flows (stepping (side_of role) w (taking message answers)) = all-inner role (record { side = side_of role; step = took message } ∷ w) (map (answered message) answers) (answers-inner message answers) one in
      let there : after_all (base role) e (taking message answers) ≡ end_for common role (stepping (side_of role) w (taking message answers)) =
      ap (λ (x : End). after_all (base role) x (taking message answers)) is ∙ sym (own-end common role w (taking message answers)) in
      subst Flows (sym (stepping-append (side_of role) w (taking message answers) more))
      (all-readings role (stepping (side_of role) w (taking message answers)) (after_all (base role) e (taking message answers)) more later there next all)
  all-readings role w e steps shown is (failed intake f_ body aborts told u c t) f = all-inner role w (failing f_ aborts) (tt, tt, aborts-inner aborts) f

  carried-to-b : (w : World) (os : List ℕ) → os ≡ take (length os) (end_for common Initiator w).line.waiting → Flows w → Flows (record { side = B; step = fed os } ∷ record { side = A; step = gave (length os) } ∷ w)
  carried-to-b w os e f = record {
    to_b =
        subst (λ (l : List (Option PairedMessage)). Flow common.tables (sents_at (ends_for common) A w ++ []) (drop (length os) (end_for common Initiator w).line.waiting) (given A w + length os) (length l)
        (if passes_over (end_for common Responder w).body.link.phase then None else option_map (with_octets os) (end_for common Responder w).line.came)) (sym (append-nil (readings B w)))
        (carry-step common.tables (sents_at (ends_for common) A w) (end_for common Initiator w).line.waiting os (given A w) (length (readings B w)) (passes_over (end_for common Responder w).body.link.phase)
        (end_for common Responder w).line.came e f.to_b);
    to_a =
        giver-step (base Responder) (end_for common Responder w) (fed os) (sents_at (ends_for common) B w) (given B w) (readings A w ++ []) (end_for common Initiator w).line.came tt
        (taker-step (base Initiator) (end_for common Initiator w) (gave (length os)) common.tables (sents_at (ends_for common) B w) (end_for common Responder w).line.waiting (given B w) (readings A w) tt f.to_a);
  }

  carried-to-a : (w : World) (os : List ℕ) → os ≡ take (length os) (end_for common Responder w).line.waiting → Flows w → Flows (record { side = A; step = fed os } ∷ record { side = B; step = gave (length os) } ∷ w)
  carried-to-a w os e f = record {
    to_a =
        subst (λ (l : List (Option PairedMessage)). Flow common.tables (sents_at (ends_for common) B w ++ []) (drop (length os) (end_for common Responder w).line.waiting) (given B w + length os) (length l)
        (if passes_over (end_for common Initiator w).body.link.phase then None else option_map (with_octets os) (end_for common Initiator w).line.came)) (sym (append-nil (readings A w)))
        (carry-step common.tables (sents_at (ends_for common) B w) (end_for common Responder w).line.waiting os (given B w) (length (readings A w)) (passes_over (end_for common Initiator w).body.link.phase)
        (end_for common Initiator w).line.came e f.to_a);
    to_b =
        giver-step (base Initiator) (end_for common Initiator w) (fed os) (sents_at (ends_for common) A w) (given A w) (readings B w ++ []) (end_for common Responder w).line.came tt
        (taker-step (base Responder) (end_for common Responder w) (gave (length os)) common.tables (sents_at (ends_for common) A w) (end_for common Initiator w).line.waiting (given A w) (readings B w) tt f.to_b);
  }

  -- ---- all that was sent on this connection may be written

  abbrev pub AllCarried : World → Type 0
  AllCarried w = (role : Role) → AreCarried common.tables (messages_in (sendings (ends_for common) (side_of role) w))

  carried-append : (xs ys : List Message) → AreCarried common.tables xs → AreCarried common.tables ys → AreCarried common.tables (xs ++ ys)
  carried-append [] ys h k = k
  carried-append (x ∷ xs) ys h k = (h.0, carried-append xs ys h.1 k)

  grown : (role : Role) (u : World) (xs : List Step) → AreOn xs → AreCarried common.tables (all_sent_in xs) → AllCarried u → AllCarried (stepping (side_of role) u xs)
  grown role u xs on new h =
      both role (λ (r : Role). AreCarried common.tables (messages_in (sendings (ends_for common) (side_of r) (stepping (side_of role) u xs))))
      (subst (AreCarried common.tables) (sym (own-sendings (ends_for common) role u xs on)) (carried-append (messages_in (sendings (ends_for common) (side_of role) u)) (all_sent_in xs) (h role) new))
      (subst (AreCarried common.tables) (sym (peer-sendings (ends_for common) role u xs on)) (h (other role)))

  follows-one : (rs : List (Option PairedMessage)) (all xs ys : List Message) → Follows rs all xs → Follows rs all ys → xs ≡ ys
  follows-one [] all xs ys h k = sym h ∙ k
  follows-one (r ∷ rs) [] xs ys h k = absurd h
  follows-one (None ∷ rs) (m ∷ ms) xs ys h k = follows-one rs ms xs ys h k
  follows-one (Some r ∷ rs) (m ∷ ms) xs ys h k = follows-one rs ms xs ys h.1 k.1

  module _ (m : IsMeant common) where
    -- what an end sent in its steps is on its way to the other, which read nothing meanwhile
    all-sent : (role : Role) (u : World) (xs : List Step) (two later : Two) (ledger ledger_later : Ledger) (exchanges exchanges_later : Exchanges) → AreOn xs
        → Joint common u two ledger exchanges → Joint common (stepping (side_of role) u xs) later ledger_later exchanges_later → AllCarried u → AllCarried (stepping (side_of role) u xs)
    all-sent role u xs two later ledger ledger_later exchanges exchanges_later on j k h =
        let peer : Role = other role in
        let v : World = stepping (side_of role) u xs in
        let rs : List (Option PairedMessage) = readings (side_of peer) u in
        let sent_so : List Message = messages_in (sendings (ends_for common) (side_of role) u) in
        let before : Follows rs (sent_so ++ all_sent_in xs) (coming_to peer two ++ all_sent_in xs) =
        follows-sent rs sent_so (coming_to peer two) (all_sent_in xs)
        (subst (λ (r : Role). Follows rs (messages_in (sendings (ends_for common) (side_of r) u)) (coming_to peer two)) (other-other role) (j.follows peer)) in
        let then_so : Follows (readings (side_of peer) v) (messages_in (sendings (ends_for common) (side_of role) v)) (coming_to peer later) =
        subst (λ (r : Role). Follows (readings (side_of peer) v) (messages_in (sendings (ends_for common) (side_of r) v)) (coming_to peer later)) (other-other role) (k.follows peer) in
        let afterwards : Follows rs (sent_so ++ all_sent_in xs) (coming_to peer later) =
        subst (λ (l : List Message). Follows rs l (coming_to peer later)) (own-sendings (ends_for common) role u xs on)
        (subst (λ (l : List (Option PairedMessage)). Follows l (messages_in (sendings (ends_for common) (side_of role) v)) (coming_to peer later)) (peer-readings role u xs on) then_so) in
        let same : coming_to peer later ≡ coming_to peer two ++ all_sent_in xs = follows-one rs (sent_so ++ all_sent_in xs) (coming_to peer later) (coming_to peer two ++ all_sent_in xs) afterwards before in
        let new : AreCarried common.tables (all_sent_in xs) = carried-behind common.tables (coming_to peer two) (all_sent_in xs) (subst (AreCarried common.tables) same (m.carried later ledger_later k.speaks peer)) in
        grown role u xs on new h

    -- ---- events

    abbrev Extra : World → Two → Ledger → Exchanges → Type 0
    Extra w two ledger exchanges = NothingFails w

    keeps : Keeps common Extra
    keeps = calm-keeps common

    pub record Tallied (w : World) : Type 0 where
      pub joined : Joined common Extra w
      pub flows : Flows w
      pub carried : AllCarried w

    called-so : (role : Role) (w : World) (call : Call) (steps : List Step) → IsCall call → Makes (base role) (end_for common role w) call steps → Tallied w → Tallied (stepping (side_of role) w steps)
    called-so role w call steps typed x t =
        let inner = makes-inner (base role) (end_for common role w) call steps x in
        let j = all-called common m Extra keeps role w call steps typed x t.joined in
        record {
          joined = j;
          flows = all-inner role w steps inner t.flows;
          carried = all-sent role w steps _ _ _ _ _ _ (inner-on steps inner) t.joined.joint j.joint t.carried;
        }

    -- an end to which octets came
    fed-tallied : (role : Role) (w : World) (e : End) (reads own : List Step) (shown : List Indication) → e ≡ end_for common role w → Reads (base role) e reads shown
        → ByItself (base role) (after_all (base role) e reads).body own → Tallied w → Tallied (stepping (side_of role) w (reads ++ feed_end ∷ own))
    fed-tallied role w e reads own shown is r o t =
        let j = fed-so common m Extra keeps role w e reads own shown is r o t.joined in
        let inner : AreInner (feed_end ∷ own) = (tt, tt, own-inner (base role) (after_all (base role) e reads).body own o) in
        record {
          joined = j;
          flows =
              subst Flows (sym (stepping-append (side_of role) w reads (feed_end ∷ own)))
              (all-inner role (stepping (side_of role) w reads) (feed_end ∷ own) inner (all-readings role w e reads shown is r t.flows));
          carried = all-sent role w (reads ++ feed_end ∷ own) _ _ _ _ _ _ (on-append reads (feed_end ∷ own) (reads-on (base role) e reads shown r) (inner-on (feed_end ∷ own) inner)) t.joined.joint j.joint t.carried;
        }

    tallied-to-b : (w : World) (os : List ℕ) → os ≡ take (length os) (end_for common Initiator w).line.waiting → Tallied w → Tallied (record { side = B; step = fed os } ∷ record { side = A; step = gave (length os) } ∷ w)
    tallied-to-b w os e t = record {
      joined = carried-a common Extra keeps w (length os) os e t.joined;
      flows = carried-to-b w os e t.flows;
      carried = grown Responder (record { side = A; step = gave (length os) } ∷ w) (fed os ∷ []) (tt, tt) tt (grown Initiator w (gave (length os) ∷ []) (tt, tt) tt t.carried);
    }

    tallied-to-a : (w : World) (os : List ℕ) → os ≡ take (length os) (end_for common Responder w).line.waiting → Tallied w → Tallied (record { side = A; step = fed os } ∷ record { side = B; step = gave (length os) } ∷ w)
    tallied-to-a w os e t = record {
      joined = carried-b common Extra keeps w (length os) os e t.joined;
      flows = carried-to-a w os e t.flows;
      carried = grown Initiator (record { side = B; step = gave (length os) } ∷ w) (fed os ∷ []) (tt, tt) tt (grown Responder w (gave (length os) ∷ []) (tt, tt) tt t.carried);
    }

    cut-off : (w : World) → Tallied w → Tallied (record { side = B; step = broke } ∷ record { side = A; step = broke } ∷ w)
    cut-off w t = record { joined = broken common Extra keeps w t.joined; flows = record { to_b = no-flow common.tables; to_a = no-flow common.tables }; carried = nothing-sent }
      where
        nothing-sent : AllCarried (record { side = B; step = broke } ∷ record { side = A; step = broke } ∷ w)
        nothing-sent Initiator = tt
        nothing-sent Responder = tt

    all-events : (w v : World) (all : List Event) (told : List Entry) → AreEvents all → Runs (ends_for common) w all told v → Tallied w → Tallied v
    all-events w v all told typed runs.rests t = t
    all-events w v all told typed (runs.calls {more = more} {told = later} A call steps makes next) t =
        all-events (stepping A w steps) v more later typed.1 next (called-so Initiator w call steps typed.0 makes t)
    all-events w v all told typed (runs.calls {more = more} {told = later} B call steps makes next) t =
        all-events (stepping B w steps) v more later typed.1 next (called-so Responder w call steps typed.0 makes t)
    all-events w v all told typed (runs.carries {more = more} {told = later} A most steps shown fd next) t =
        let os : List ℕ = first_octets most (end_for common Initiator w).line.waiting in
        let u = tallied-to-b w os (front-is most (end_for common Initiator w).line.waiting) t in
        let f = fed-tallied Responder (record { side = B; step = fed os } ∷ record { side = A; step = gave (length os) } ∷ w) (after (base Responder) (end_for common Responder w) (fed os)) fd.reading fd.own shown refl fd.reads fd.by_itself u in
        all-events (stepping B (record { side = A; step = gave (length os) } ∷ w) steps) v more later typed.1 next
        (subst (λ (l : List Step). Tallied (stepping B (record { side = A; step = gave (length os) } ∷ w) l)) (sym fd.all) f)
    all-events w v all told typed (runs.carries {more = more} {told = later} B most steps shown fd next) t =
        let os : List ℕ = first_octets most (end_for common Responder w).line.waiting in
        let u = tallied-to-a w os (front-is most (end_for common Responder w).line.waiting) t in
        let f = fed-tallied Initiator (record { side = A; step = fed os } ∷ record { side = B; step = gave (length os) } ∷ w) (after (base Initiator) (end_for common Initiator w) (fed os)) fd.reading fd.own shown refl fd.reads fd.by_itself u in
        all-events (stepping A (record { side = B; step = gave (length os) } ∷ w) steps) v more later typed.1 next
        (subst (λ (l : List Step). Tallied (stepping A (record { side = B; step = gave (length os) } ∷ w) l)) (sym fd.all) f)
    all-events w v all told typed (runs.breaks {more = more} {told = later} next) t =
        all-events (stepping B (stepping A w (broke ∷ [])) (broke ∷ [])) v more later typed.1 next (cut-off w t)

    at-first : Tallied []
    at-first = record { joined = begun common m Extra keeps; flows = record { to_b = no-flow common.tables; to_a = no-flow common.tables }; carried = nothing-sent }
      where
        nothing-sent : AllCarried []
        nothing-sent Initiator = tt
        nothing-sent Responder = tt

    pub tallied : (w : World) (all : List Event) (told : List Entry) → AreEvents all → Runs (ends_for common) [] all told w → Tallied w
    tallied w all told typed r = all-events [] w all told typed r at-first
