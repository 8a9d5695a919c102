-- In reliable mode each message that an end took is the one that was sent in its place, each of its values read under the pair that the
-- shared set gave its context at its sending.
use Rattle.std.proofs.Common.{◌≡◌, refl, true, false, ◌∙◌, sym, ap, subst, List, [], ◌∷◌, ◌++◌, map, Ok, Err}
use Rattle.std.specs.Prelude.{ℤ, Bool, Option, Some, None, nat_eq, if◌then◌else◌}
use Rattle.osi_base.specs.declared.syntax.Pair.{Pair}
use Rattle.osi_base.specs.declared.layer_words.Side.{Side}
use Rattle.stub_tables.specs.declared.tables.Tables.{Tables}
use Rattle.dialogue.specs.declared.config.Config.{Config}
use Rattle.dialogue.specs.declared.config.Mode.TheVariants.{Reliable}
use Rattle.dialogue.specs.declared.call.Call.{Call}
use Rattle.dialogue.specs.declared.event.Event.{Event}
use Rattle.dialogue.specs.declared.event.Entry.{Entry}
use Rattle.dialogue.specs.declared.indication.Indication.{Indication}
use Rattle.end_rules.specs.Base.{Base, Spellings}
use Rattle.end_rules.specs.Messages.{Message}
use Rattle.end_rules.specs.State.{Body}
use Rattle.end_rules.specs.Writing.{proposals}
use Rattle.end_rules.specs.Calling.{can_call}
use Rattle.end_rules.specs.Requesting.{due_of}
use Rattle.end_rules.specs.ByItself.{OwnAct, SendsNow, EncodesOn, next_own}
use Rattle.end_rules.specs.Reacting.{Takes, react}
use Rattle.end_rules.specs.History.{Step, called, sent, fed, took, answered, passed, feed_end, gave, broke, after_step, step_of}
use Rattle.dialogue.specs.Sides.{other as other_side}
use Rattle.end_rules.specs.World.{World, Ends, Shared, is_side, shared_at}
use Rattle.agreement.specs.Sets.{Role, other}
use Rattle.agreement.specs.Sets.Role.{Initiator, Responder}
use Rattle.end_model.specs.Seen.{Free}
use Rattle.end_model.specs.Requests.{after_called}
use Rattle.end_model.specs.BothEnds.{Common, base_at, Two, body_at, coming_to, stepped}
use Rattle.end_model.specs.Sharing.{side_of, shared_all_sent, shared_all_answered}
use Rattle.reliable_model.specs.Ledgers.{Ledger, own_messages}
use Rattle.reliable_model.specs.ReliableEnds.{reliable_common}
use Rattle.reliable_model.proofs.Fixed.{AreIdentifiers}
use Rattle.reliable_model.proofs.Machine as machine
use Rattle.reliable_model.proofs.Placing.{all-kept}
use Rattle.outcome_laws.specs.Exchanges.{Exchanges}
use Rattle.said_words.specs.Calls.{Speaks}
use Rattle.said_words.specs.Words.{IsMessage, AreMessages}
use Rattle.said_words.proofs.TransferEnds as said_ends
use Rattle.said_words.proofs.TransferWorlds as said
use Rattle.association_worlds.specs.Laws.{IsMeant}
use Rattle.run_laws.specs.Passing.{sent_in, PairedMessage, at_sending, as_read, on_connection, sendings, read_in, readings, AreInPlace, TakenInPlace, AreAsSent, TakenAsSent}
use Rattle.run_laws.specs.Laws.{AtEachMoment}
use Rattle.association_runs.specs.Worlds.{stepping, Runs}
use Rattle.association_runs.specs.Laws.{AreEvents}
use Rattle.association_runs.specs.Sides.{ends_for}
use Rattle.association_runs.proofs.Histories.{end_for}
use Rattle.association_runs.proofs.Keeps.{IsQuiet, Keeps}
use Rattle.association_runs.proofs.Joint.{Joint}
use Rattle.association_runs.proofs.Carried.{from-start}
use Rattle.run_lemmas.proofs.Openings.{acceptance-first, acceptance-later, Few, nobody, one}
use Rattle.codec_runs.proofs.ReliableSaved.{IsRight, AllRight}
use Rattle.codec_runs.proofs.ReliableShared.{Fixed, call-does, own-does, took-does, fixed-step, fixed-passed, fixed-broke, fixed-first}

-- ---- each message is sent with the pairs that stand in it

abbrev pub AreSentRight : Ends → World → List Message → Type 0
AreSentRight ends w [] = Unit {0}
AreSentRight ends w (m ∷ ms) = (at_sending ends w m ≡ as_read m) × AreSentRight ends w ms

abbrev pub SendRight : Ends → World → Type 0
SendRight ends [] = Unit {0}
SendRight ends (m ∷ w) = AreSentRight ends w (sent_in m.step) × SendRight ends w

-- ---- so it is taken as it was sent

abbrev AllSentRight : List PairedMessage → Type 0
AllSentRight [] = Unit {0}
AllSentRight (p ∷ ps) = (p ≡ as_read p.message) × AllSentRight ps

abbrev AllReadRight : List (Option PairedMessage) → Type 0
AllReadRight [] = Unit {0}
AllReadRight (None ∷ rs) = AllReadRight rs
AllReadRight (Some r ∷ rs) = (r ≡ as_read r.message) × AllReadRight rs

sent-append : (xs ys : List PairedMessage) → AllSentRight xs → AllSentRight ys → AllSentRight (xs ++ ys)
sent-append [] ys h k = k
sent-append (x ∷ xs) ys h k = (h.0, sent-append xs ys h.1 k)

read-append : (xs ys : List (Option PairedMessage)) → AllReadRight xs → AllReadRight ys → AllReadRight (xs ++ ys)
read-append [] ys h k = k
read-append (None ∷ xs) ys h k = read-append xs ys h k
read-append (Some x ∷ xs) ys h k = (h.0, read-append xs ys h.1 k)

sent-so : (ends : Ends) (w : World) (ms : List Message) → AreSentRight ends w ms → AllSentRight (map (at_sending ends w) ms)
sent-so ends w [] h = tt
sent-so ends w (m ∷ ms) h = (h.0, sent-so ends w ms h.1)

sent-on : (x : Step) (ps : List PairedMessage) → AllSentRight ps → AllSentRight (on_connection x ps)
sent-on broke ps h = tt
sent-on _ ps h = h

read-on : (x : Step) (rs : List (Option PairedMessage)) → AllReadRight rs → AllReadRight (on_connection x rs)
read-on broke rs h = tt
read-on _ rs h = h

read-so : (x : Step) → AllReadRight (read_in x)
read-so (took message) = (refl, tt)
read-so passed = tt
read-so _ = tt

sendings-right : (ends : Ends) (side : Side) (w : World) → SendRight ends w → AllSentRight (sendings ends side w)
sendings-right ends side [] h = tt
sendings-right ends side (m ∷ w) h = sent-on m.step _ (go (is_side side m.side) (sendings-right ends side w h.1))
  where
    go : (b : Bool) → AllSentRight (sendings ends side w) → AllSentRight (if b then sendings ends side w ++ map (at_sending ends w) (sent_in m.step) else sendings ends side w)
    go true before = sent-append (sendings ends side w) (map (at_sending ends w) (sent_in m.step)) before (sent-so ends w (sent_in m.step) h.0)
    go false before = before

readings-right : (side : Side) (w : World) → AllReadRight (readings side w)
readings-right side [] = tt
readings-right side (m ∷ w) = read-on m.step _ (go (is_side side m.side) (readings-right side w))
  where
    go : (b : Bool) → AllReadRight (readings side w) → AllReadRight (if b then readings side w ++ read_in m.step else readings side w)
    go true before = read-append (readings side w) (read_in m.step) before (read-so m.step)
    go false before = before

as-sent : (rs : List (Option PairedMessage)) (all : List PairedMessage) → AreInPlace rs all → AllReadRight rs → AllSentRight all → AreAsSent rs all
as-sent [] all h r s = tt
as-sent (r ∷ rs) [] h t s = absurd h
as-sent (None ∷ rs) (p ∷ ps) h t s = as-sent rs ps h t s.1
as-sent (Some r ∷ rs) (p ∷ ps) h t s = (t.0 ∙ ap as_read h.0 ∙ sym s.0, as-sent rs ps h.1 t.1 s.1)

-- Messages that are taken in their places, and were sent with the pairs that stand in them, are taken as they were sent.
pub right-as_sent : (ends : Ends) (w : World) → AtEachMoment (TakenInPlace ends) w → SendRight ends w → AtEachMoment (TakenAsSent ends) w
right-as_sent ends [] h s = λ side. tt
right-as_sent ends (m ∷ w) h s = (
  λ side. as-sent (readings (other_side side) (m ∷ w)) (sendings ends side (m ∷ w)) (h.0 side) (readings-right (other_side side) (m ∷ w)) (sendings-right ends side (m ∷ w) s),
  right-as_sent ends w h.1 s.1,
)

-- ---- steps that send nothing

silent-right : (ends : Ends) (w : World) (x : Step) → sent_in x ≡ [] → AreSentRight ends w (sent_in x)
silent-right ends w x e = subst (AreSentRight ends w) (sym e) tt

quiet-sends : (x : Step) → IsQuiet x → sent_in x ≡ []
quiet-sends (called call (Err refusal)) q = refl
quiet-sends (fed octets) q = refl
quiet-sends feed_end q = refl
quiet-sends (gave n) q = refl
quiet-sends _ q = absurd q

module _ (free : Free) (tables : Tables) (spellings : Spellings) (a b : Config) where
  abbrev common : Common
  common = reliable_common tables spellings a b

  abbrev base : Role → Base
  base role = base_at role common

  abbrev ends : Ends
  ends = ends_for common

  one-right : (w : World) (shared : Shared) (m : Message) → shared_at ends w ≡ shared → IsRight shared.set m → at_sending ends w m ≡ as_read m
  one-right w shared m e r =
      let put : List (Option Pair) → PairedMessage = λ ps. record { message = m; pairs = ps } in
      ap put (subst (λ (s : Shared). IsRight s.set m) (sym e) r)

  sents-right : (role : Role) (w : World) (shared : Shared) (ms : List Message) → Few ms → shared_at ends w ≡ shared → AllRight shared.set ms → SendRight ends w → SendRight ends (stepping (side_of role) w (map sent ms))
  sents-right role w shared [] nobody e r h = h
  sents-right role w shared (m ∷ []) (one _) e r h = ((one-right w shared m e r.0, tt), h)
  sents-right role w shared (m ∷ (n ∷ ms)) f e r h = elim f [ ]

  answers-right : (role : Role) (w : World) (shared : Shared) (to : Message) (ms : List Message) → Few ms → shared_at ends w ≡ shared → AllRight shared.set ms → SendRight ends w → SendRight ends (stepping (side_of role) w (map (answered to) ms))
  answers-right role w shared to [] nobody e r h = h
  answers-right role w shared to (m ∷ []) (one _) e r h = ((one-right w shared m e r.0, tt), h)
  answers-right role w shared to (m ∷ (n ∷ ms)) f e r h = elim f [ ]

  called-shared : (role : Role) (w : World) (call : Call) (answer : Option ℤ) → shared_at ends (record { side = side_of role; step = called call (Ok answer) } ∷ w) ≡ shared_at ends w
  called-shared Initiator w call answer = refl
  called-shared Responder w call answer = refl

  took-shared : (role : Role) (w : World) (message : Message) → shared_at ends (record { side = side_of role; step = took message } ∷ w) ≡ shared_at ends w
  took-shared Initiator w message = refl
  took-shared Responder w message = refl

  -- what is presumed of them
  module _ (q : machine.Presumed free tables spellings a b) (ids : AreIdentifiers (proposals (base Initiator))) (window : nat_eq a.window 0 ≡ false) where
    rooted : (two : Two) (ledger : Ledger) → Speaks common two ledger → (role : Role) → said_ends.Rooted free tables spellings a b role (body_at role two)
    rooted two ledger s role = said.rooted-at free tables spellings a b q ids window role two (said.all-said free tables spellings a b q ids window two ledger s.goes s.calls)

    pub first-said : (two : Two) (ledger : Ledger) → Speaks common two ledger → (role : Role) (message : Message) (left : List Message) → coming_to role two ≡ message ∷ left → IsMessage (base Initiator) (base Responder) message
    first-said two ledger s role message left e =
        (subst (AreMessages (base Initiator) (base Responder)) e (said.coming-said free tables spellings a b q ids window role two (said.all-said free tables spellings a b q ids window two ledger s.goes s.calls))).0

    abbrev pub Sends : World → Two → Ledger → Exchanges → Type 0
    Sends w two ledger exchanges = Fixed free tables spellings a b two ledger.shared × SendRight ends w

    called-sends : (role : Role) (w : World) (two : Two) (ledger : Ledger) (exchanges : Exchanges) (call : Call) (answer : Option ℤ) (y : Body) → y ≡ body_at role two → Speaks common two ledger → shared_at ends w ≡ ledger.shared → can_call (base role) y call ≡ Ok answer → Fixed free tables spellings a b two ledger.shared → SendRight ends w →
        Fixed free tables spellings a b (stepped role (after_called Reliable (base role) y call answer) (coming_to role two) (due_of (base role) y call (Ok answer)) two) (shared_all_sent Reliable (side_of role) (due_of (base role) y call (Ok answer)) ledger.shared)
        × SendRight ends (stepping (side_of role) w (called call (Ok answer) ∷ map sent (due_of (base role) y call (Ok answer))))
    called-sends role w two ledger exchanges call answer y e s shared can x r =
        subst (λ (z : Body). can_call (base role) z call ≡ Ok answer →
        Fixed free tables spellings a b (stepped role (after_called Reliable (base role) z call answer) (coming_to role two) (due_of (base role) z call (Ok answer)) two) (shared_all_sent Reliable (side_of role) (due_of (base role) z call (Ok answer)) ledger.shared)
        × SendRight ends (stepping (side_of role) w (called call (Ok answer) ∷ map sent (due_of (base role) z call (Ok answer))))) (sym e) here can
      where
        here : can_call (base role) (body_at role two) call ≡ Ok answer →
            Fixed free tables spellings a b (stepped role (after_called Reliable (base role) (body_at role two) call answer) (coming_to role two) (due_of (base role) (body_at role two) call (Ok answer)) two) (shared_all_sent Reliable (side_of role) (due_of (base role) (body_at role two) call (Ok answer)) ledger.shared)
            × SendRight ends (stepping (side_of role) w (called call (Ok answer) ∷ map sent (due_of (base role) (body_at role two) call (Ok answer))))
        here can =
            let d = call-does free tables spellings a b q ids window role (body_at role two) (body_at (other role) two) ledger.shared call answer (rooted two ledger s role) (x.held role) can in
            let due : List Message = due_of (base role) (body_at role two) call (Ok answer) in (
              fixed-step free tables spellings a b q ids window role two (after_called Reliable (base role) (body_at role two) call answer) (coming_to role two) due ledger.shared _ x d (λ h. h),
              sents-right role (record { side = side_of role; step = called call (Ok answer) } ∷ w) ledger.shared due d.few (called-shared role w call answer ∙ shared) d.right (tt, r),
            )

    act-right : (role : Role) (w : World) (own : OwnAct) (shared : Shared) → shared_at ends w ≡ shared → AllRight shared.set (own_messages own) → SendRight ends w → SendRight ends (stepping (side_of role) w (step_of own ∷ []))
    act-right role w (SendsNow message) shared e r h = ((one-right w shared message e r.0, tt), h)
    act-right role w (EncodesOn context) shared e r h = (tt, h)

    acted-sends : (role : Role) (w : World) (two : Two) (ledger : Ledger) (own : OwnAct) (y : Body) → y ≡ body_at role two → Speaks common two ledger → shared_at ends w ≡ ledger.shared → next_own (base role) y ≡ Some own → Fixed free tables spellings a b two ledger.shared → SendRight ends w →
        Fixed free tables spellings a b (stepped role (after_step (base role) y (step_of own)) (coming_to role two) (own_messages own) two) (shared_all_sent Reliable (side_of role) (own_messages own) ledger.shared)
        × SendRight ends (stepping (side_of role) w (step_of own ∷ []))
    acted-sends role w two ledger own y e s shared next x r =
        subst (λ (z : Body). next_own (base role) z ≡ Some own →
        Fixed free tables spellings a b (stepped role (after_step (base role) z (step_of own)) (coming_to role two) (own_messages own) two) (shared_all_sent Reliable (side_of role) (own_messages own) ledger.shared)
        × SendRight ends (stepping (side_of role) w (step_of own ∷ []))) (sym e) here next
      where
        here : next_own (base role) (body_at role two) ≡ Some own →
            Fixed free tables spellings a b (stepped role (after_step (base role) (body_at role two) (step_of own)) (coming_to role two) (own_messages own) two) (shared_all_sent Reliable (side_of role) (own_messages own) ledger.shared)
            × SendRight ends (stepping (side_of role) w (step_of own ∷ []))
        here next =
            let d = own-does free tables spellings a b q ids window role (body_at role two) (body_at (other role) two) ledger.shared own (rooted two ledger s role) (x.held role) next in (
              fixed-step free tables spellings a b q ids window role two (after_step (base role) (body_at role two) (step_of own)) (coming_to role two) (own_messages own) ledger.shared _ x d (λ h. h),
              act-right role w own ledger.shared shared d.right r,
            )

    taken-sends : (role : Role) (w : World) (two : Two) (ledger : Ledger) (exchanges : Exchanges) (message : Message) (left : List Message) (body : Body) (answers : List Message) (shown : List Indication) → Joint common w two ledger exchanges → coming_to role two ≡ message ∷ left → react (base role) (body_at role two) message ≡ Takes body answers shown → Sends w two ledger exchanges →
        Fixed free tables spellings a b (stepped role body left answers two) (shared_all_answered (base role) message answers ledger.shared) × SendRight ends (stepping (side_of role) w (took message ∷ map (answered message) answers))
    taken-sends role w two ledger exchanges message left body answers shown j e h x =
        let k = all-kept free tables spellings a b q two ledger j.speaks.goes in
        let d =
        took-does free tables spellings a b q ids window role two ledger ledger.shared message left body answers shown k (first-said two ledger j.speaks role message left e) (rooted two ledger j.speaks role) (x.0.held role)
        (λ i. x.0.accepted role (acceptance-first message (coming_to role two) left e i)) e h in (
          fixed-step free tables spellings a b q ids window role two body left answers ledger.shared _ x.0 d (acceptance-later message (coming_to role two) left e),
          answers-right role (record { side = side_of role; step = took message } ∷ w) ledger.shared message answers d.few (took-shared role w message ∙ j.shared) d.right (tt, x.1),
        )

    pub sends-keep : Keeps common Sends
    sends-keep = record {
      begins = (fixed-first free tables spellings a b q ids window, tt);
      calls = λ role w two ledger exchanges call answer j c h. called-sends role w two ledger exchanges call answer (end_for common role w).body (j.bodies role) j.speaks j.shared c h.0 h.1;
      acts = λ role w two ledger exchanges own j c h. acted-sends role w two ledger own (end_for common role w).body (j.bodies role) j.speaks j.shared c h.0 h.1;
      takes = λ role w two ledger exchanges message left body answers shown j e r h. taken-sends role w two ledger exchanges message left body answers shown j e r h;
      passes = λ role w two ledger exchanges message left j e r h. (
        fixed-passed free tables spellings a b q ids window role two left ledger.shared h.0 (acceptance-later message (coming_to role two) left e),
        (tt, h.1),
      );
      quiet = λ role w two ledger exchanges x q h. (h.0, (silent-right ends w x (quiet-sends x q), h.1));
      breaks = λ w two ledger exchanges j h. (fixed-broke free tables spellings a b q ids window two ledger.shared h.0, (tt, (tt, h.1)));
    }

    pub taken-as-sent : IsMeant common → (w : World) (all : List Event) (told : List Entry) → AreEvents all → Runs ends [] all told w → AtEachMoment (TakenInPlace ends) w → AtEachMoment (TakenAsSent ends) w
    taken-as-sent m w all told typed r placed = right-as_sent ends w placed (from-start common m Sends sends-keep w all told typed r).extra.1
