-- Two ends with octets reach what two ends with messages reach, and what is kept of the messages in transit between them.
use Rattle.std.proofs.Common.{◌≡◌, refl, sym, ap, subst, ◌∙◌, ℕ, ◌+◌, ◌≤◌, List, [], ◌∷◌, ◌++◌, map, length, take, drop, arith, append_assoc, length-append, inl, inr, None, Ok}
use Rattle.std.specs.Prelude.{ℤ, Option, Some}
use Rattle.std.proofs.lemmas.List.{append-nil, take-append-drop}
use Rattle.std.proofs.lemmas.Bool.{cases_lt}
use Rattle.stub_tables.specs.declared.tables.Tables.{Tables}
use Rattle.dialogue.specs.declared.call.Call.{Call}
use Rattle.tpkt.specs.declared.packet.Packet.{Packet}
use Rattle.tpkt.specs.declared.packet.TFault.{TFault}
use Rattle.tpkt.specs.declared.reader_state.ReaderState.{ReaderState}
use Rattle.tpkt.specs.Reader.{ReaderProgress, reading, nothing}
use Rattle.tpkt.proofs.ReaderLaws.{after_fault}
use Rattle.tpkt.proofs.StreamLaws.{fed, any_cut, nothing_read}
use Rattle.association_reading.specs.end_rules.Base.{Base}
use Rattle.association_reading.specs.end_rules.Messages.{Message, Transport, Session}
use Rattle.association_reading.specs.end_rules.State.{Body}
use Rattle.association_reading.specs.end_rules.Calling.{can_call}
use Rattle.association_reading.specs.end_rules.Requesting.{due_of}
use Rattle.association_reading.specs.end_rules.ByItself.{OwnAct, next_own}
use Rattle.association_reading.specs.end_rules.Reacting.{Reaction, react}
use Rattle.association_reading.specs.end_rules.History.{after_step, step_of, after_broke}
use Rattle.agreement.specs.Sets.{Role, other}
use Rattle.agreement.specs.Sets.Role.{Initiator, Responder}
use Rattle.said_words.specs.end_model.Requests.{after_called}
use Rattle.said_words.specs.end_model.BothEnds.{Common, base_at, Two, two_new, body_at, coming_to, stepped, both_broke}
use Rattle.said_words.specs.reliable_model.Ledgers.{Ledger, first_ledger, own_messages}
use Rattle.said_words.specs.reliable_model.Ledgers as ledgers
use Rattle.association_reading.specs.Front.{Front, Short, Intake, front_held, first_front, first_in, behind_first, without_first, all_fronts, fronts_of}
use Rattle.association_reading.specs.Reacting.{react_to}
use Rattle.said_words.specs.Calls.{IsCall, Speaks}
use Rattle.association_worlds.specs.Lines.{End, written_all, more_came}
use Rattle.osi_base.specs.Limits.{IsUnitSize}
use Rattle.association_worlds.specs.Worlds.{LineEnds, ends_new, end_at, with_end, sending, carried, both_cut, Spoken}
use Rattle.association_worlds.specs.Worlds as spoken
use Rattle.association_worlds.specs.InTransit.{AreCarried, front_of, SentMessage, text_of, texts, messages_of, fronts_of_sent, AreWritten, IsWay, Way}
use Rattle.association_worlds.specs.Laws.{IsHeard, IsSpelled, OctetsAreMessages, WholeWaitsForNothing}
use Rattle.association_worlds.proofs.Streams.{reads-all}

-- ---- lists

pub fronts-append : (ps qs : List Packet) → all_fronts (ps ++ qs) ≡ all_fronts ps ++ all_fronts qs
fronts-append [] qs = refl
fronts-append (p ∷ ps) qs = ap (λ (fs : List Front). fronts_of p ++ fs) (fronts-append ps qs) ∙ sym (append_assoc (fronts_of p) (all_fronts ps) (all_fronts qs))

pub map-append : {X Y : Type 0} (f : X → Y) (xs ys : List X) → map f (xs ++ ys) ≡ map f xs ++ map f ys
map-append f [] ys = refl
map-append f (x ∷ xs) ys = ap (λ (zs : List _). f x ∷ zs) (map-append f xs ys)

cancel : {X : Type 0} (xs ys zs : List X) → xs ++ ys ≡ xs ++ zs → ys ≡ zs
cancel [] ys zs e = e
cancel (x ∷ xs) ys zs e = let tails : xs ++ ys ≡ xs ++ zs = cc in cancel xs ys zs tails

pub texts-append : (tables : Tables) (xs ys : List SentMessage) → texts tables (xs ++ ys) ≡ texts tables xs ++ texts tables ys
texts-append tables [] ys = refl
texts-append tables (x ∷ xs) ys = ap (λ (os : List ℕ). text_of tables x ++ os) (texts-append tables xs ys) ∙ sym (append_assoc (text_of tables x) (texts tables xs) (texts tables ys))

pub written-append : (tables : Tables) (xs ys : List SentMessage) → AreWritten tables xs → AreWritten tables ys → AreWritten tables (xs ++ ys)
written-append tables [] ys h k = k
written-append tables (x ∷ xs) ys h k = (h.0, h.1, written-append tables xs ys h.2 k)

pub carried-behind : (tables : Tables) (xs ys : List Message) → AreCarried tables (xs ++ ys) → AreCarried tables ys
carried-behind tables [] ys h = h
carried-behind tables (x ∷ xs) ys h = carried-behind tables xs ys h.1

-- ---- messages with the size of their packets

abbrev sized : ℕ → List Message → List SentMessage
sized size [] = []
sized size (m ∷ ms) = record { message = m; size = size } ∷ sized size ms

texts-sized : (tables : Tables) (size : ℕ) (ms : List Message) → texts tables (sized size ms) ≡ written_all tables size ms
texts-sized tables size [] = refl
texts-sized tables size (m ∷ ms) = ap (λ (os : List ℕ). text_of tables (record { message = m; size = size }) ++ os) (texts-sized tables size ms)

messages-sized : (size : ℕ) (ms : List Message) → messages_of (sized size ms) ≡ ms
messages-sized size [] = refl
messages-sized size (m ∷ ms) = ap (λ (l : List Message). m ∷ l) (messages-sized size ms)

written-sized : (tables : Tables) (size : ℕ) (ms : List Message) → IsUnitSize size → AreCarried tables ms → AreWritten tables (sized size ms)
written-sized tables size [] z h = tt
written-sized tables size (m ∷ ms) z h = (h.0, z, written-sized tables size ms z h.1)

-- ---- one way

pub way-sent : (tables : Tables) (came : Option Intake) (waiting : List ℕ) (coming ms : List Message) (size : ℕ) → IsUnitSize size → AreCarried tables (coming ++ ms) → Way tables came waiting coming
    → Way tables came (waiting ++ written_all tables size ms) (coming ++ ms)
way-sent tables None waiting coming ms size z h w = tt
way-sent tables (Some intake) waiting coming ms size z h w = record {
  done = w.done;
  ahead = w.ahead ++ sized size ms;
  got = w.got;
  are = map-append (λ (s : SentMessage). s.message) w.ahead (sized size ms) ∙ (λ i. w.are i ++ messages-sized size ms i);
  taken = w.taken;
  sent = written-append tables w.ahead (sized size ms) w.sent (written-sized tables size ms z (carried-behind tables coming ms h));
  octets =
      sym (append_assoc w.got waiting (written_all tables size ms))
      ∙ ap (λ (os : List ℕ). os ++ written_all tables size ms) w.octets
      ∙ ap (λ (os : List ℕ). texts tables (w.done ++ w.ahead) ++ os) (sym (texts-sized tables size ms))
      ∙ sym (texts-append tables (w.done ++ w.ahead) (sized size ms))
      ∙ ap (texts tables) (append_assoc w.done w.ahead (sized size ms));
  held = w.held;
  fronts = w.fronts;
}

pub way-moved : (tables : Tables) (came : Option Intake) (waiting : List ℕ) (coming : List Message) (n : ℕ) → Way tables came waiting coming → Way tables (more_came (take n waiting) came) (drop n waiting) coming
way-moved tables None waiting coming n w = tt
way-moved tables (Some intake) waiting coming n w =
    let cut = any_cut nothing w.got (take n waiting) in record {
      done = w.done;
      ahead = w.ahead;
      got = w.got ++ take n waiting;
      are = w.are;
      taken = w.taken;
      sent = w.sent;
      octets = append_assoc w.got (take n waiting) (drop n waiting) ∙ ap (λ (os : List ℕ). w.got ++ os) (take-append-drop n waiting) ∙ w.octets;
      held = ap (λ (h : ReaderState). (reading h (take n waiting)).held) w.held ∙ sym (ap (λ (f : ReaderProgress). f.held) cut);
      fronts =
          ap (λ (f : ReaderProgress). all_fronts f.packets) cut
          ∙ fronts-append (reading nothing w.got).packets (reading (reading nothing w.got).held (take n waiting)).packets
          ∙ ap (λ (fs : List Front). fs ++ all_fronts (reading (reading nothing w.got).held (take n waiting)).packets) w.fronts
          ∙ ap (λ (h : ReaderState). (fronts_of_sent tables w.done ++ intake.fronts) ++ all_fronts (reading h (take n waiting)).packets) (sym w.held)
          ∙ append_assoc (fronts_of_sent tables w.done) intake.fronts (all_fronts (reading intake.held (take n waiting)).packets);
    }

-- ---- what stands first

none-fault : (held : ReaderState) (xs : List ℕ) → (reading held xs).held.fault ≡ None → held.fault ≡ None
none-fault held xs e = go held.fault refl
  where
    go : (o : Option TFault) → held.fault ≡ o → held.fault ≡ None
    go None k = k
    go (Some fault) k = let there : (reading held xs).held.fault ≡ held.fault = ap (λ (f : ReaderProgress). f.held.fault) (after_fault (fed [] held) fault xs k) in absurd cc

-- what the end has stands in front of what else is ahead, and no fault
record Ahead (tables : Tables) (intake : Intake) (ahead : List SentMessage) : Type 0 where
  more : List Front
  fronts : fronts_of_sent tables ahead ≡ intake.fronts ++ more
  faultless : intake.held.fault ≡ None

what-is-ahead : (tables : Tables) (intake : Intake) (waiting : List ℕ) (coming : List Message) → (w : IsWay tables intake waiting coming) → Ahead tables intake w.ahead
what-is-ahead tables intake waiting coming w =
    let r = reads-all tables (w.done ++ w.ahead) (written-append tables w.done w.ahead w.taken w.sent) in
    let cut = any_cut nothing w.got waiting in
    let x : List Front = all_fronts (reading (reading nothing w.got).held waiting).packets in
    let all : fronts_of_sent tables w.done ++ fronts_of_sent tables w.ahead ≡ fronts_of_sent tables w.done ++ (intake.fronts ++ x) =
    sym (map-append (λ (s : SentMessage). front_of tables s.message) w.done w.ahead)
    ∙ sym r.fronts
    ∙ ap (λ (os : List ℕ). all_fronts (reading nothing os).packets) (sym w.octets)
    ∙ ap (λ (f : ReaderProgress). all_fronts f.packets) cut
    ∙ fronts-append (reading nothing w.got).packets (reading (reading nothing w.got).held waiting).packets
    ∙ ap (λ (fs : List Front). fs ++ x) w.fronts
    ∙ append_assoc (fronts_of_sent tables w.done) intake.fronts x in
    let end : (reading (reading nothing w.got).held waiting).held.fault ≡ None =
    sym (ap (λ (f : ReaderProgress). f.held.fault) cut) ∙ ap (λ (os : List ℕ). (reading nothing os).held.fault) w.octets ∙ r.faultless in record {
      more = x;
      fronts = cancel (fronts_of_sent tables w.done) (fronts_of_sent tables w.ahead) (intake.fronts ++ x) all;
      faultless = ap (λ (h : ReaderState). h.fault) w.held ∙ none-fault (reading nothing w.got).held waiting end;
    }

pub record FirstOf (tables : Tables) (intake : Intake) (waiting : List ℕ) (coming : List Message) : Type 0 where
  pub message : Message
  pub left : List Message
  pub is : coming ≡ message ∷ left
  pub front : first_in intake ≡ front_of tables message
  pub way : IsWay tables (behind_first intake) waiting left

pub first-of : (tables : Tables) (base : Base) (body : Body) (intake : Intake) (waiting : List ℕ) (coming : List Message) (r : Reaction) → IsWay tables intake waiting coming → react_to base body (first_in intake) ≡ Some r → FirstOf tables intake waiting coming
first-of tables base body intake waiting coming r w h =
    let a = what-is-ahead tables intake waiting coming w in go a intake.fronts w.ahead refl refl
  where
    go : (a : Ahead tables intake w.ahead) (fronts : List Front) (ahead : List SentMessage) → intake.fronts ≡ fronts → w.ahead ≡ ahead → FirstOf tables intake waiting coming
    go a [] ahead e k =
        let short : first_in intake ≡ Short = ap (first_front intake.held) e ∙ ap front_held a.faultless in
        let none : None ≡ Some r = ap (react_to base body) (sym short) ∙ h in absurd cc
    go a (f ∷ more) [] e k =
        let none : [] ≡ f ∷ (more ++ a.more) = ap (fronts_of_sent tables) (sym k) ∙ a.fronts ∙ ap (λ (fs : List Front). fs ++ a.more) e in absurd cc
    go a (f ∷ more) (s ∷ later) e k =
        let heads : front_of tables s.message ∷ fronts_of_sent tables later ≡ f ∷ (more ++ a.more) = ap (fronts_of_sent tables) (sym k) ∙ a.fronts ∙ ap (λ (fs : List Front). fs ++ a.more) e in
        let head : front_of tables s.message ≡ f = cc in
        let sent : AreWritten tables (s ∷ later) = subst (AreWritten tables) k w.sent in record {
          message = s.message;
          left = messages_of later;
          is = sym w.are ∙ ap messages_of k;
          front = ap (first_front intake.held) e ∙ sym head;
          way =
              record {
                done = w.done ++ s ∷ [];
                ahead = later;
                got = w.got;
                are = refl;
                taken = written-append tables w.done (s ∷ []) w.taken (sent.0, sent.1, tt);
                sent = sent.2;
                octets = w.octets ∙ ap (λ (l : List SentMessage). texts tables (w.done ++ l)) k ∙ ap (texts tables) (sym (append_assoc w.done (s ∷ []) later));
                held = w.held;
                fronts =
                    w.fronts
                    ∙ (λ i. fronts_of_sent tables w.done ++ e i)
                    ∙ ap (λ (g : Front). fronts_of_sent tables w.done ++ (g ∷ more)) (sym head)
                    ∙ sym (append_assoc (fronts_of_sent tables w.done) (front_of tables s.message ∷ []) more)
                    ∙ ap (λ (fs : List Front). fs ++ more) (sym (map-append (λ (t : SentMessage). front_of tables t.message) w.done (s ∷ [])))
                    ∙ ap (λ (fs : List Front). fronts_of_sent tables (w.done ++ s ∷ []) ++ fs) (sym (ap without_first e));
              };
        }

-- ---- two ends

module _ (common : Common) (h : IsHeard common) where
  at_role : Role → Base
  at_role role = base_at role common

  abbrev WayTo : Role → LineEnds → List Message → Type 0
  WayTo role ends coming = Way common.tables (end_at role ends).line.came (end_at (other role) ends).line.waiting coming

  sends-carried : (role : Role) (two : Two) (body : Body) (left more : List Message) (ledger : Ledger) → Speaks common (stepped role body left more two) ledger → AreCarried common.tables (coming_to (other role) two ++ more)
  sends-carried Initiator two body left more ledger g = h.carried _ ledger g Responder
  sends-carried Responder two body left more ledger g = h.carried _ ledger g Initiator

  -- an end moved: what is left of what came to it, and what it sent
  moved-on : (role : Role) (ends : LineEnds) (two : Two) (ledger : Ledger) (end : End) (left more : List Message) → Speaks common (stepped role end.body left more two) ledger
      → ((r : Role) → (end_at r ends).body ≡ body_at r two) → Way common.tables end.line.came (end_at (other role) ends).line.waiting left
      → Way common.tables (end_at (other role) ends).line.came end.line.waiting (coming_to (other role) two ++ more) → IsSpelled common (with_end role end ends)
  moved-on role ends two ledger end left more g bodies own peer =
      record { two = stepped role end.body left more two; ledger = ledger; speaks = g; bodies = bodies-so role bodies; ways = ways-so role own peer }
    where
      bodies-so : (role : Role) → ((r : Role) → (end_at r ends).body ≡ body_at r two) → (r : Role) → (end_at r (with_end role end ends)).body ≡ body_at r (stepped role end.body left more two)
      bodies-so Initiator b Initiator = refl
      bodies-so Initiator b Responder = b Responder
      bodies-so Responder b Initiator = b Initiator
      bodies-so Responder b Responder = refl

      ways-so : (role : Role) → Way common.tables end.line.came (end_at (other role) ends).line.waiting left → Way common.tables (end_at (other role) ends).line.came end.line.waiting (coming_to (other role) two ++ more)
          → (r : Role) → WayTo r (with_end role end ends) (coming_to r (stepped role end.body left more two))
      ways-so Initiator own peer Initiator = own
      ways-so Initiator own peer Responder = peer
      ways-so Responder own peer Initiator = peer
      ways-so Responder own peer Responder = own

  way-other : (role : Role) (ends : LineEnds) (two : Two) → ((r : Role) → WayTo r ends (coming_to r two)) → Way common.tables (end_at (other role) ends).line.came (end_at role ends).line.waiting (coming_to (other role) two)
  way-other Initiator ends two w = w Responder
  way-other Responder ends two w = w Initiator

  abbrev Goes-on : Two → Type 0
  Goes-on two = (ledger : Ledger) × Speaks common two ledger

  called-so : (two : Two) (ledger : Ledger) (role : Role) (call : Call) (answer : Option ℤ) (b : Body) → b ≡ body_at role two → Speaks common two ledger → IsCall call → can_call (base_at role common) b call ≡ Ok answer
      → Goes-on (stepped role (after_called common.mode (base_at role common) b call answer) (coming_to role two) (due_of (base_at role common) b call (Ok answer)) two)
  called-so two ledger role call answer b e g typed c =
      subst (λ (b : Body). can_call (base_at role common) b call ≡ Ok answer → Goes-on (stepped role (after_called common.mode (base_at role common) b call answer) (coming_to role two) (due_of (base_at role common) b call (Ok answer)) two)) (sym e)
      (λ c. (_, record { goes = ledgers.calls two ledger role call answer g.goes c; calls = (typed, g.calls) })) c

  acted-so : (two : Two) (ledger : Ledger) (role : Role) (own : OwnAct) (b : Body) → b ≡ body_at role two → Speaks common two ledger → next_own (base_at role common) b ≡ Some own
      → Goes-on (stepped role (after_step (base_at role common) b (step_of own)) (coming_to role two) (own_messages own) two)
  acted-so two ledger role own b e g c =
      subst (λ (b : Body). next_own (base_at role common) b ≡ Some own → Goes-on (stepped role (after_step (base_at role common) b (step_of own)) (coming_to role two) (own_messages own) two)) (sym e)
      (λ c. (_, record { goes = ledgers.acts two ledger role own g.goes c; calls = g.calls })) c

  -- what stands first is the message that comes next, and is heard as itself
  pub heard-so : (two : Two) (ledger : Ledger) (role : Role) (b : Body) (intake : Intake) (waiting : List ℕ) (r : Reaction) → b ≡ body_at role two → Speaks common two ledger
      → (f : FirstOf common.tables intake waiting (coming_to role two)) → react_to (base_at role common) b (first_in intake) ≡ Some r → react (base_at role common) (body_at role two) f.message ≡ r
  heard-so two ledger role b intake waiting r e g f t =
      one _ _ (sym (h.heard two ledger g role f.message f.left f.is) ∙ ap (react_to (base_at role common) (body_at role two)) (sym f.front) ∙ ap (λ (b : Body). react_to (base_at role common) b (first_in intake)) (sym e) ∙ t)
    where
      one : (x y : Reaction) → Some x ≡ Some y → x ≡ y
      one x y e = cc

  some-way : (role : Role) (ends : LineEnds) (coming : List Message) (intake : Intake) → (end_at role ends).line.came ≡ Some intake → WayTo role ends coming → IsWay common.tables intake (end_at (other role) ends).line.waiting coming
  some-way role ends coming intake e w = subst (λ (c : Option Intake). Way common.tables c (end_at (other role) ends).line.waiting coming) e w

  abbrev pub next-at : (role : Role) (ends : LineEnds) (two : Two) (intake : Intake) → Type 0
  next-at role ends two intake = FirstOf common.tables intake (end_at (other role) ends).line.waiting (coming_to role two)

  pub next-so : (role : Role) (ends : LineEnds) (intake : Intake) (r : Reaction) → (s : IsSpelled common ends) → (end_at role ends).line.came ≡ Some intake
      → react_to (base_at role common) (end_at role ends).body (first_in intake) ≡ Some r → next-at role ends s.two intake
  next-so role ends intake r s e t =
      first-of common.tables (base_at role common) (end_at role ends).body intake (end_at (other role) ends).line.waiting (coming_to role s.two) r (some-way role ends (coming_to role s.two) intake e (s.ways role)) t

  -- the end of this role sent these messages in a step to which this is left
  sent-so : (role : Role) (ends : LineEnds) (size : ℕ) (body : Body) (left more : List Message) (came : Option Intake) (ledger : Ledger) (s : IsSpelled common ends) → IsUnitSize size
      → Speaks common (stepped role body left more s.two) ledger → Way common.tables came (end_at (other role) ends).line.waiting left
      → IsSpelled common (with_end role (sending common.tables size (end_at role ends) body more came) ends)
  sent-so role ends size body left more came ledger s z g own =
      moved-on role ends s.two ledger (sending common.tables size (end_at role ends) body more came) left more g s.bodies own
      (way-sent common.tables (end_at (other role) ends).line.came (end_at role ends).line.waiting (coming_to (other role) s.two) more size z (sends-carried role s.two body left more ledger g) (way-other role ends s.two s.ways))

  closed-so : (role : Role) (ends : LineEnds) → IsSpelled common ends → IsSpelled common (with_end role (sending common.tables 128 (end_at role ends) (end_at role ends).body [] None) ends)
  closed-so role ends s = record { two = s.two; ledger = s.ledger; speaks = s.speaks; bodies = bodies-so role; ways = ways-so role }
    where
      plus-none : (came : Option Intake) (waiting : List ℕ) (coming : List Message) → Way common.tables came waiting coming → Way common.tables came (waiting ++ []) coming
      plus-none came waiting coming w = subst (λ (os : List ℕ). Way common.tables came os coming) (sym (append-nil waiting)) w

      bodies-so : (role r : Role) → (end_at r (with_end role (sending common.tables 128 (end_at role ends) (end_at role ends).body [] None) ends)).body ≡ body_at r s.two
      bodies-so Initiator Initiator = s.bodies Initiator
      bodies-so Initiator Responder = s.bodies Responder
      bodies-so Responder Initiator = s.bodies Initiator
      bodies-so Responder Responder = s.bodies Responder

      ways-so : (role r : Role) → WayTo r (with_end role (sending common.tables 128 (end_at role ends) (end_at role ends).body [] None) ends) (coming_to r s.two)
      ways-so Initiator Initiator = tt
      ways-so Initiator Responder = plus-none _ _ _ (s.ways Responder)
      ways-so Responder Initiator = plus-none _ _ _ (s.ways Initiator)
      ways-so Responder Responder = tt

  carried-so : (role : Role) (n : ℕ) (ends : LineEnds) → IsSpelled common ends → IsSpelled common (carried role n ends)
  carried-so role n ends s = record { two = s.two; ledger = s.ledger; speaks = s.speaks; bodies = bodies-so role; ways = ways-so role }
    where
      bodies-so : (role r : Role) → (end_at r (carried role n ends)).body ≡ body_at r s.two
      bodies-so Initiator Initiator = s.bodies Initiator
      bodies-so Initiator Responder = s.bodies Responder
      bodies-so Responder Initiator = s.bodies Initiator
      bodies-so Responder Responder = s.bodies Responder

      ways-so : (role r : Role) → WayTo r (carried role n ends) (coming_to r s.two)
      ways-so Initiator Initiator = s.ways Initiator
      ways-so Initiator Responder = way-moved common.tables ends.b.line.came ends.a.line.waiting s.two.to_b n (s.ways Responder)
      ways-so Responder Initiator = way-moved common.tables ends.a.line.came ends.b.line.waiting s.two.to_a n (s.ways Initiator)
      ways-so Responder Responder = s.ways Responder

  new-way : IsWay common.tables (record { fronts = []; held = nothing }) [] []
  new-way = record {
    done = [];
    ahead = [];
    got = [];
    are = refl;
    taken = tt;
    sent = tt;
    octets = refl;
    held = sym (ap (λ (f : ReaderProgress). f.held) nothing_read);
    fronts = ap (λ (f : ReaderProgress). all_fronts f.packets) nothing_read;
  }

  begun-so : IsSpelled common (ends_new common)
  begun-so = record { two = two_new common; ledger = first_ledger common; speaks = record { goes = ledgers.begins; calls = tt }; bodies = b; ways = w }
    where
      b : (r : Role) → (end_at r (ends_new common)).body ≡ body_at r (two_new common)
      b Initiator = refl
      b Responder = refl

      w : (r : Role) → WayTo r (ends_new common) (coming_to r (two_new common))
      w Initiator = new-way
      w Responder = new-way

  broken-so : (ends : LineEnds) → IsSpelled common ends → IsSpelled common (both_cut common ends)
  broken-so ends s = record { two = both_broke common s.two; ledger = s.ledger; speaks = record { goes = ledgers.breaks s.two s.ledger s.speaks.goes; calls = s.speaks.calls }; bodies = b; ways = w }
    where
      b : (r : Role) → (end_at r (both_cut common ends)).body ≡ body_at r (both_broke common s.two)
      b Initiator = ap (after_broke (base_at Initiator common)) (s.bodies Initiator)
      b Responder = ap (after_broke (base_at Responder common)) (s.bodies Responder)

      w : (r : Role) → WayTo r (both_cut common ends) (coming_to r (both_broke common s.two))
      w Initiator = new-way
      w Responder = new-way

  pub spelled-so : (ends : LineEnds) → Spoken common ends → IsSpelled common ends
  spelled-so ends spoken.begins = begun-so
  spelled-so ends (spoken.calls before role call answer size z typed so c) =
      let s = spelled-so before so in
      let g = called-so s.two s.ledger role call answer (end_at role before).body (s.bodies role) s.speaks typed c in
      sent-so role before size _ (coming_to role s.two) _ (end_at role before).line.came g.0 s z g.1 (s.ways role)
  spelled-so ends (spoken.acts before role own size z so c) =
      let s = spelled-so before so in
      let g = acted-so s.two s.ledger role own (end_at role before).body (s.bodies role) s.speaks c in
      sent-so role before size _ (coming_to role s.two) _ (end_at role before).line.came g.0 s z g.1 (s.ways role)
  spelled-so ends (spoken.carries before role n so) = carried-so role n before (spelled-so before so)
  spelled-so ends (spoken.takes before role intake body answers shown size z so e t) =
      let s = spelled-so before so in
      let f = next-so role before intake _ s e t in
      let r = heard-so s.two s.ledger role (end_at role before).body intake _ _ (s.bodies role) s.speaks f t in
      sent-so role before size body f.left answers (Some (behind_first intake)) _ s z (record { goes = ledgers.takes s.two s.ledger role f.message f.left body answers shown s.speaks.goes f.is r; calls = s.speaks.calls }) f.way
  spelled-so ends (spoken.passes before role intake so e t) =
      let s = spelled-so before so in
      let f = next-so role before intake _ s e t in
      let r = heard-so s.two s.ledger role (end_at role before).body intake _ _ (s.bodies role) s.speaks f t in
      sent-so role before 128 (end_at role before).body f.left [] (Some (behind_first intake)) s.ledger s (record { least = omega arith; most = omega arith })
      (subst (λ (b : Body). Speaks common (stepped role b f.left [] s.two) s.ledger) (sym (s.bodies role)) (record { goes = ledgers.passes s.two s.ledger role f.message f.left s.speaks.goes f.is r; calls = s.speaks.calls })) f.way
  spelled-so ends (spoken.fails before role intake fault body aborts shown size z so e t) =
      let s = spelled-so before so in
      let f = next-so role before intake _ s e t in
      let r = heard-so s.two s.ledger role (end_at role before).body intake _ _ (s.bodies role) s.speaks f t in
      sent-so role before size body f.left aborts None _ s z (record { goes = ledgers.fails s.two s.ledger role f.message f.left fault body aborts shown s.speaks.goes f.is r; calls = s.speaks.calls }) tt
  spelled-so ends (spoken.closes before role so e) = closed-so role before (spelled-so before so)
  spelled-so ends (spoken.breaks before so) = broken-so before (spelled-so before so)

pub spelled : OctetsAreMessages
spelled common ends h s = spelled-so common h ends s

-- ---- whole messages wait for no octet

record Behind (a b c d : List ℕ) : Type 0 where
  more : List ℕ
  front : a ≡ c ++ more

behind : (a b c d : List ℕ) → a ++ b ≡ c ++ d → length c ≤ length a → Behind a b c d
behind a b [] d e l = record { more = a; front = refl }
behind [] b (y ∷ c) d e l = absurd (omega arith)
behind (x ∷ a) b (y ∷ c) d e l =
    let head : x ≡ y = cc in
    let tail : a ++ b ≡ c ++ d = cc in
    let k = behind a b c d tail (omega arith) in
    record { more = k.more; front = (λ i. head i ∷ k.front i) }

pub stands : (tables : Tables) (m : Message) → front_of tables m ≡ Short → ⊥
stands tables (Transport unit) e = cc
stands tables (Session word) e = cc

pub whole-waits : WholeWaitsForNothing
whole-waits common intake waiting coming way next later k short =
    elim (cases_lt (length (texts common.tables later)) (length waiting)) [
      | inl lt ↦ lt
      | inr ge ↦ absurd (none ge)
    ]
  where
    none : length waiting ≤ length (texts common.tables later) → ⊥
    none ge =
        let tables : Tables = common.tables in
        let upto : List SentMessage = way.done ++ next ∷ [] in
        let sent : AreWritten tables (next ∷ later) = subst (AreWritten tables) k way.sent in
        let octets : way.got ++ waiting ≡ texts tables upto ++ texts tables later =
        way.octets ∙ ap (λ (l : List SentMessage). texts tables (way.done ++ l)) k ∙ ap (texts tables) (sym (append_assoc way.done (next ∷ []) later)) ∙ texts-append tables upto later in
        let long : length way.got + length waiting ≡ length (texts tables upto) + length (texts tables later) =
        sym (length-append way.got waiting) ∙ ap length octets ∙ length-append (texts tables upto) (texts tables later) in
        let b = behind way.got waiting (texts tables upto) (texts tables later) octets (omega arith) in
        let r = reads-all tables upto (written-append tables way.done (next ∷ []) way.taken (sent.0, sent.1, tt)) in
        let cut = any_cut nothing (texts tables upto) b.more in
        let x : List Front = all_fronts (reading (reading nothing (texts tables upto)).held b.more).packets in
        let all : fronts_of_sent tables way.done ++ intake.fronts ≡ fronts_of_sent tables way.done ++ (front_of tables next.message ∷ x) =
        sym way.fronts
        ∙ ap (λ (os : List ℕ). all_fronts (reading nothing os).packets) b.front
        ∙ ap (λ (f : ReaderProgress). all_fronts f.packets) cut
        ∙ fronts-append (reading nothing (texts tables upto)).packets (reading (reading nothing (texts tables upto)).held b.more).packets
        ∙ ap (λ (fs : List Front). fs ++ x) (r.fronts ∙ map-append (λ (s : SentMessage). front_of tables s.message) way.done (next ∷ []))
        ∙ append_assoc (fronts_of_sent tables way.done) (front_of tables next.message ∷ []) x in
        let here : intake.fronts ≡ front_of tables next.message ∷ x = cancel (fronts_of_sent tables way.done) intake.fronts (front_of tables next.message ∷ x) all in
        stands tables next.message (sym (ap (first_front intake.held) here) ∙ short)
