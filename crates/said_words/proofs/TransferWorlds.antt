-- What two ends of reliable mode reach: all on its way is of the rules, and what is taken stands on the contexts of the association.
use Rattle.std.proofs.Common.{◌≡◌, refl, true, false, ◌∙◌, sym, ap, subst, arith, ℕ, ◌≤◌, List, [], ◌∷◌, ◌++◌, ◌⊎◌, inl, inr}
use Rattle.std.specs.Prelude.{Bool, Option, Some, None, Ok, Result, nat_eq, if◌then◌else◌}
use Rattle.std.proofs.lemmas.Bool.Decides.{nat_tests}
use Rattle.osi_base.specs.declared.layer_words.SetItem.{SetItem}
use Rattle.stub_tables.specs.declared.tables.Tables.{Tables}
use Rattle.dialogue.specs.declared.config.Config.{Config}
use Rattle.dialogue.specs.declared.config.Phase.TheVariants.{Broken, Over}
use Rattle.dialogue.specs.declared.indication.Indication.{Indication}
use Rattle.end_model.specs.end_rules.Base.{Base, Spellings, Fault, Item, Arrived, Whole}
use Rattle.osi_base.specs.SetPlaces.{pair_of}
use Rattle.end_model.specs.end_rules.State.{Body, Joined, Carrying, is_broken, passes_over}
use Rattle.end_model.specs.end_rules.Messages.{Message, Transport, Session, TransportUnit, Word, OfAssociation, OfData, OfMarks, OfActivities, Connect, Accept, Refuse, Finish, Disconnect, Abort, AbortAccept, Values, Please, Start, Resume, End, EndAck, Interrupt, InterruptAck, Discard, DiscardAck, unit_of}
use Rattle.end_model.specs.end_rules.Writing.{acse_pair, proposals}
use Rattle.end_model.specs.end_rules.Connecting.{recovers_in}
use Rattle.end_model.specs.end_rules.Requesting.{due_of}
use Rattle.end_model.specs.end_rules.Purging.{is_transport_purged}
use Rattle.end_model.specs.end_rules.TakesTransport.{transport_unit_fault, after_transport, answers_to_transport}
use Rattle.end_model.specs.end_rules.InPlace.{is_in_place}
use Rattle.end_model.specs.end_rules.Reacting.{Passes, Takes, react, on_transport, after_word, answers_to_word}
use Rattle.agreement.specs.Sets.{Role}
use Rattle.agreement.specs.Sets.Role.{Initiator, Responder}
use Rattle.end_model.specs.Seen.{Free}
use Rattle.end_model.specs.BothEnds.{Common, base_at, Two, body_at, coming_to, stepped}
use Rattle.end_model.proofs.DirectOpening.{At}
use Rattle.reliable_model.specs.Ledgers.{Ledger, ReachedWithLedger, begins, calls, acts, takes, passes, fails, breaks}
use Rattle.reliable_model.specs.Transfers.{TakesTransferEnd}
use Rattle.reliable_model.specs.Transferring.{IsSending}
use Rattle.reliable_model.specs.ReliableEnds.{reliable_common}
use Rattle.reliable_model.proofs.Fixed.{AreIdentifiers, listed-identifiers}
use Rattle.reliable_model.proofs.Firm.{Firm, IsLoose, module-loose, context_of}
use Rattle.reliable_model.proofs.FirmSteps.{in-place, ArrivesIn}
use Rattle.reliable_model.proofs.OnWay.{took-word}
use Rattle.reliable_model.proofs.Opening as opening
use Rattle.reliable_model.proofs.Opening.{Way, First, Again, joins}
use Rattle.reliable_model.proofs.Machine as machine
use Rattle.reliable_model.proofs.Machine.{Resting, Calling, Confirming, Connecting, Accepting, Refusing, Deaf, Gone, Standing, LeftIdle, LeftJoined, LeftBroken}
use Rattle.reliable_model.proofs.Phases.{OnlyAborts}
use Rattle.reliable_model.proofs.Placing.{all-kept}
use Rattle.reliable_model.proofs.Arriving as arriving
use Rattle.reliable_model.proofs.Words.{AreOwn, Stands, IsOver as EndedSide}
use Rattle.reliable_model.proofs.Words as words
use Rattle.said_words.specs.Calls.{AreCalls}
use Rattle.said_words.specs.Words.{rtse_pair, IsMessage, AreMessages}
use Rattle.said_words.specs.Laws.{ReliableSaysWords}
use Rattle.said_words.proofs.First.{first_accepted}
use Rattle.said_words.proofs.TransferEnds as ends
use Rattle.said_words.proofs.TransferEnds.{IsYoung}

clash : (x : Bool) → x ≡ true → x ≡ false → ⊥
clash x h i = cc

module _ (free : Free) (tables : Tables) (spellings : Spellings) (a b : Config) where
  abbrev common : Common
  common = reliable_common tables spellings a b

  abbrev base : Role → Base
  base role = base_at role common

  abbrev first : List SetItem
  first = first_accepted common

  abbrev AreSaid : List Message → Type 0
  AreSaid messages = AreMessages (base Initiator) (base Responder) messages

  abbrev Rooted : Role → Body → Type 0
  Rooted = ends.Rooted free tables spellings a b

  abbrev RootedAndSaid : Role → Body → List Message → Type 0
  RootedAndSaid = ends.RootedAndSaid free tables spellings a b

  abbrev Kept : Two → Ledger → Type 0
  Kept = machine.Kept free tables spellings a b

  -- ---- a CN that comes to a responder finds it as it asks for it

  -- a CN among the messages, or none
  abbrev BeginsRightly : Body → List Message → Type 0
  BeginsRightly body (Session (OfAssociation (Connect session presentation values)) ∷ left) = passes_over body.link.phase ≡ false → recovers_in (base Responder) values ≡ true → is_broken body.link.phase ≡ true
  BeginsRightly body messages = Unit {0}

  over-rightly : (body : Body) (messages : List Message) → body.link.phase ≡ Over → BeginsRightly body messages
  over-rightly body [] e = tt
  over-rightly body (Transport unit ∷ left) e = tt
  over-rightly body (Session (OfData word) ∷ left) e = tt
  over-rightly body (Session (OfMarks word) ∷ left) e = tt
  over-rightly body (Session (OfActivities word) ∷ left) e = tt
  over-rightly body (Session (OfAssociation (Connect session presentation values)) ∷ left) e = λ alive h. absurd (clash (passes_over body.link.phase) (ap passes_over e) alive)
  over-rightly body (Session (OfAssociation (Accept session presentation values)) ∷ left) e = tt
  over-rightly body (Session (OfAssociation (Refuse transport reason presentation values)) ∷ left) e = tt
  over-rightly body (Session (OfAssociation (Finish transport values)) ∷ left) e = tt
  over-rightly body (Session (OfAssociation (Disconnect values)) ∷ left) e = tt
  over-rightly body (Session (OfAssociation (Abort transport user)) ∷ left) e = tt
  over-rightly body (Session (OfAssociation AbortAccept) ∷ left) e = tt

  own-rightly : (body : Body) (messages : List Message) → AreOwn messages → BeginsRightly body messages
  own-rightly body [] own = tt
  own-rightly body (Transport unit ∷ left) own = absurd own
  own-rightly body (Session (OfData word) ∷ left) own = tt
  own-rightly body (Session (OfMarks word) ∷ left) own = tt
  own-rightly body (Session (OfActivities word) ∷ left) own = tt
  own-rightly body (Session (OfAssociation (Connect session presentation values)) ∷ left) own = absurd own.0
  own-rightly body (Session (OfAssociation (Accept session presentation values)) ∷ left) own = tt
  own-rightly body (Session (OfAssociation (Refuse transport reason presentation values)) ∷ left) own = tt
  own-rightly body (Session (OfAssociation (Finish transport values)) ∷ left) own = tt
  own-rightly body (Session (OfAssociation (Disconnect values)) ∷ left) own = tt
  own-rightly body (Session (OfAssociation (Abort transport user)) ∷ left) own = tt
  own-rightly body (Session (OfAssociation AbortAccept) ∷ left) own = tt

  only-rightly : (body : Body) (messages : List Message) → OnlyAborts messages → BeginsRightly body messages
  only-rightly body [] h = tt
  only-rightly body (Session (OfAssociation (Abort transport user)) ∷ left) h = tt
  only-rightly body messages h = absurd h

  connect-rightly : (way : Way) (body : Body) (left : List Message) → At (joins way) Joined body → BeginsRightly body (opening.cn free tables spellings a b way ∷ left)
  connect-rightly First body left at = λ alive h. absurd cc
  connect-rightly Again body left at = λ alive h. ap is_broken at.phase_is

  side-rightly : (body : Body) (messages : List Message) → words.Side body messages → BeginsRightly body messages
  side-rightly body messages (Stands live own) = own-rightly body messages own
  side-rightly body messages (EndedSide e) = over-rightly body messages e

  to-b_rightly : (two : Two) (ledger : Ledger) → Kept two ledger → BeginsRightly two.b two.to_b
  to-b_rightly two ledger k = go k.opened
    where
      is : (ms : List Message) → two.to_b ≡ ms → BeginsRightly two.b ms → BeginsRightly two.b two.to_b
      is ms e h = subst (BeginsRightly two.b) (sym e) h

      left : machine.Left free tables spellings a b two.b two.to_b → BeginsRightly two.b two.to_b
      left (LeftIdle way at (inl e)) = is [] e tt
      left (LeftIdle way at (inr e)) = is _ e tt
      left (LeftJoined way at (inl e)) = is [] e tt
      left (LeftJoined way at (inr w)) = is _ w.1 (connect-rightly way two.b w.0 at)
      left (LeftBroken at h) = only-rightly two.b two.to_b h

      refusing : (two.b.link.phase ≡ Over) ⊎ (At Broken Carrying two.b × (two.to_b ≡ [])) → BeginsRightly two.b two.to_b
      refusing (inl q) = over-rightly two.b two.to_b q
      refusing (inr q) = is [] q.1 tt

      go : machine.Opened free tables spellings a b two.a two.b two.to_a two.to_b → BeginsRightly two.b two.to_b
      go (Resting way x y e f) = is [] f tt
      go (Calling way x y e f) = is _ f tt
      go (Confirming way x y e f) = is [] f tt
      go (Connecting way x y e f) = is _ f (connect-rightly way two.b [] y)
      go (Accepting way x word accept more e own s) = side-rightly two.b two.to_b s
      go (Refusing way x y word refusal e) = refusing y
      go (Deaf way q d) = over-rightly two.b two.to_b q
      go (Gone q l) = left l
      go (Standing s t) = side-rightly two.b two.to_b t

  -- ---- two ends

  module _ (q : machine.Presumed free tables spellings a b) (ids : AreIdentifiers (proposals (base Initiator))) (window : nat_eq a.window 0 ≡ false) where
    abbrev Meets : Body → Word → Type 0
    Meets = ends.Meets free tables spellings a b q.fit.spells q.fit.proposes ids window

    meets : (role : Role) (two : Two) (ledger : Ledger) (word : Word) (left : List Message) → Kept two ledger → coming_to role two ≡ Session word ∷ left → passes_over (body_at role two).link.phase ≡ false → is_in_place (base role) (body_at role two) (unit_of word) ≡ true → Meets (body_at role two) word
    meets Responder two ledger word left k e alive p = go word (subst (BeginsRightly two.b) e (to-b_rightly two ledger k))
      where
        go : (w : Word) → BeginsRightly two.b (Session w ∷ left) → Meets two.b w
        go (OfAssociation (Connect session presentation values)) h = h alive
        go (OfAssociation (Accept session presentation values)) h = tt
        go (OfAssociation (Refuse transport reason presentation values)) h = tt
        go (OfAssociation (Finish transport values)) h = tt
        go (OfAssociation (Disconnect values)) h = tt
        go (OfAssociation (Abort transport user)) h = tt
        go (OfAssociation AbortAccept) h = tt
        go (OfData w) h = tt
        go (OfMarks w) h = tt
        go (OfActivities w) h = tt
    meets Initiator two ledger word left k e alive p = go word p
      where
        go : (w : Word) → is_in_place (base Initiator) two.a (unit_of w) ≡ true → Meets two.a w
        go (OfAssociation (Connect session presentation values)) p = absurd cc
        go (OfAssociation (Accept session presentation values)) p = tt
        go (OfAssociation (Refuse transport reason presentation values)) p = tt
        go (OfAssociation (Finish transport values)) p = tt
        go (OfAssociation (Disconnect values)) p = tt
        go (OfAssociation (Abort transport user)) p = tt
        go (OfAssociation AbortAccept) p = tt
        go (OfData w) p = tt
        go (OfMarks w) p = tt
        go (OfActivities w) p = tt

    -- what arrives at the end of a transfer is on a context of the module
    one-arrived : (item : Item) (arrived : Arrived) → ◌≡◌ {A = Result Arrived Fault} (Ok (Whole item)) (Ok arrived) → Whole item ≡ arrived
    one-arrived item arrived e = cc

    arrives : (role : Role) (two : Two) (ledger : Ledger) (word : Word) (left : List Message) (later : Body) (answers : List Message) (shown : List Indication) → Kept two ledger → coming_to role two ≡ Session word ∷ left → react (base role) (body_at role two) (Session word) ≡ Takes later answers shown → Firm tables.name_oid first (body_at role two) → ArrivesIn first (base role) (body_at role two) word
    arrives role two ledger word left later answers shown k comes taken f = go word comes taken
      where
        go : (word : Word) → coming_to role two ≡ Session word ∷ left → react (base role) (body_at role two) (Session word) ≡ Takes later answers shown → ArrivesIn first (base role) (body_at role two) word
        go (OfActivities (End number)) comes taken =
            λ new arrived e.
            let x : TakesTransferEnd common two role = record { number = number; left = left; body = later; answers = answers; shown = shown; comes = comes; taken = taken; is_new = new } in
            let w = arriving.whole-at free tables spellings a b two ledger role q.carries q.fit k x in
            let loose : IsLoose tables.name_oid first w.item.id = module-loose tables.name_oid first (body_at role two).sets.held w.item.id w.item.pair f.held w.there w.placed.named in
            subst (λ y. IsLoose tables.name_oid first (context_of y)) (one-arrived w.item arrived (sym w.arrived ∙ e)) loose
        go (OfActivities (Start activity)) comes taken = tt
        go (OfActivities (Resume activity mark)) comes taken = tt
        go (OfActivities (EndAck number)) comes taken = tt
        go (OfActivities (Interrupt reason)) comes taken = tt
        go (OfActivities InterruptAck) comes taken = tt
        go (OfActivities (Discard reason)) comes taken = tt
        go (OfActivities DiscardAck) comes taken = tt
        go (OfAssociation x) comes taken = tt
        go (OfData x) comes taken = tt
        go (OfMarks x) comes taken = tt

    pub record Said (two : Two) : Type 0 where
      pub of_a : Rooted Initiator two.a
      pub of_b : Rooted Responder two.b
      pub to_a : AreSaid two.to_a
      pub to_b : AreSaid two.to_b

    said-append : (xs ys : List Message) → AreSaid xs → AreSaid ys → AreSaid (xs ++ ys)
    said-append [] ys h k = k
    said-append (x ∷ xs) ys h k = (h.0, said-append xs ys h.1 k)

    pub rooted-at : (role : Role) (two : Two) → Said two → Rooted role (body_at role two)
    rooted-at Initiator two s = s.of_a
    rooted-at Responder two s = s.of_b

    pub coming-said : (role : Role) (two : Two) → Said two → AreSaid (coming_to role two)
    coming-said Initiator two s = s.to_a
    coming-said Responder two s = s.to_b

    stepped-said : (role : Role) (two : Two) (later : Body) (left sent : List Message) → Said two → RootedAndSaid role later sent → AreSaid left → Said (stepped role later left sent two)
    stepped-said Initiator two later left sent s x l = record { of_a = x.rooted; of_b = s.of_b; to_a = l; to_b = said-append two.to_b sent s.to_b x.said }
    stepped-said Responder two later left sent s x l = record { of_a = s.of_a; of_b = x.rooted; to_a = said-append two.to_a sent s.to_a x.said; to_b = l }

    sending-at : (role : Role) (two : Two) (ledger : Ledger) → Kept two ledger → IsSending (base role) (body_at role two).sending
    sending-at Initiator two ledger k = k.good_a.sending
    sending-at Responder two ledger k = k.good_b.sending

    abbrev kept : (two : Two) (ledger : Ledger) → ReachedWithLedger common two ledger → Kept two ledger
    kept two ledger g = all-kept free tables spellings a b q two ledger g

    unit-taken : (role : Role) (body : Body) (unit : TransportUnit) (later : Body) (answers : List Message) (shown : List Indication) → IsMessage (base Initiator) (base Responder) (Transport unit) → Rooted role body → react (base role) body (Transport unit) ≡ Takes later answers shown → RootedAndSaid role later answers
    unit-taken role body unit later answers shown i r h = go (passes_over body.link.phase) refl (is_transport_purged body.link.awaits) (transport_unit_fault (base role) body unit) refl h
      where
        go : (p : Bool) → passes_over body.link.phase ≡ p → (t : Bool) (f : Option Fault) → transport_unit_fault (base role) body unit ≡ f → (if p then Passes else (if t then Passes else on_transport (base role) body unit f)) ≡ Takes later answers shown → RootedAndSaid role later answers
        go true e t f g h = cc
        go false e true f g h = cc
        go false e false (Some fault) g h = cc
        go false e false None g h =
            let x : after_transport (base role) body unit ≡ later = cc in
            let y : answers_to_transport (base role) body unit ≡ answers = cc in
            subst (λ z. RootedAndSaid role z answers) x (subst (RootedAndSaid role (after_transport (base role) body unit)) y (ends.unit-says free tables spellings a b q.fit.spells q.fit.proposes ids window role body unit i g e r))

    taken-says : (role : Role) (two : Two) (ledger : Ledger) (message : Message) (left : List Message) (later : Body) (answers : List Message) (shown : List Indication) → Kept two ledger → IsMessage (base Initiator) (base Responder) message → Rooted role (body_at role two) → coming_to role two ≡ message ∷ left → react (base role) (body_at role two) message ≡ Takes later answers shown → RootedAndSaid role later answers
    taken-says role two ledger (Transport unit) left later answers shown k i r e h = unit-taken role (body_at role two) unit later answers shown i r h
    taken-says role two ledger (Session word) left later answers shown k i r e h =
        let body : Body = body_at role two in
        let t = took-word (base role) body word later answers shown h in
        let m = meets role two ledger word left k e t.alive (in-place (base role) body word t.fine) in
        let s : RootedAndSaid role (after_word (base role) body word) (answers_to_word (base role) body word) =
        ends.word-says free tables spellings a b q.fit.spells q.fit.proposes ids window role body word i m t.fine (arrives role two ledger word left later answers shown k e h) t.alive r in
        subst (λ (z : Body). RootedAndSaid role z answers) (sym t.later_is) (subst (RootedAndSaid role (after_word (base role) body word)) (sym t.answers_are) s)

    pub all-said : (two : Two) (ledger : Ledger) (g : ReachedWithLedger common two ledger) → AreCalls common two ledger g → Said two
    all-said two ledger begins c =
        record {
          of_a = IsYoung (record { phase = inl refl; accepted = refl; calm = refl; opens = refl; sending = refl; came = refl });
          of_b = IsYoung (record { phase = inl refl; accepted = refl; calm = refl; opens = refl; sending = refl; came = refl });
          to_a = tt;
          to_b = tt;
        }
    all-said two ledger (calls x l role call answer g h) c =
        let s = all-said x l g c.1 in
        let n = ends.called-says free tables spellings a b q.fit.spells q.fit.proposes ids window role (body_at role x) call answer (sending-at role x l (kept x l g)) c.0 (rooted-at role x s) h in
        stepped-said role x _ (coming_to role x) (due_of (base role) (body_at role x) call (Ok answer)) s n (coming-said role x s)
    all-said two ledger (acts x l role own g h) c =
        let s = all-said x l g c in
        let n = ends.own-says free tables spellings a b q.fit.spells q.fit.proposes ids window role (body_at role x) own (sending-at role x l (kept x l g)) (rooted-at role x s) h in
        stepped-said role x _ (coming_to role x) _ s n (coming-said role x s)
    all-said two ledger (takes x l role message left body answers shown g e h) c =
        let s = all-said x l g c in
        let n : AreSaid (message ∷ left) = subst AreSaid e (coming-said role x s) in
        stepped-said role x body left answers s (taken-says role x l message left body answers shown (kept x l g) n.0 (rooted-at role x s) e h) n.1
    all-said two ledger (passes x l role message left g e h) c =
        let s = all-said x l g c in
        let n : AreSaid (message ∷ left) = subst AreSaid e (coming-said role x s) in
        stepped-said role x (body_at role x) left [] s (record { rooted = rooted-at role x s; said = tt }) n.1
    all-said two ledger (fails x l role message left fault body aborts shown g e h) c =
        absurd (machine.never-fails free tables spellings a b x l role message left fault body aborts shown (machine.handles free tables spellings a b x l role message left q (kept x l g) e) h)
    all-said two ledger (breaks x l g) c =
        let s = all-said x l g c in
        record {
          of_a = ends.broke-rooted free tables spellings a b q.fit.spells q.fit.proposes ids window Initiator x.a s.of_a;
          of_b = ends.broke-rooted free tables spellings a b q.fit.spells q.fit.proposes ids window Responder x.b s.of_b;
          to_a = tt;
          to_b = tt;
        }

    -- ---- what is taken

    pub record OnContexts (body : Body) : Type 0 where
      pub acse : pair_of body.sets.held 1 ≡ Some acse_pair
      pub rtse : pair_of body.sets.held 3 ≡ Some rtse_pair

    -- an end that takes this word holds the contexts of the association
    abbrev pub NeedsContexts : Word → Type 0
    NeedsContexts (OfData (Values values)) = Unit {0}
    NeedsContexts (OfMarks (Please tokens values)) = Unit {0}
    NeedsContexts (OfAssociation (Finish transport values)) = Unit {0}
    NeedsContexts (OfAssociation (Disconnect values)) = Unit {0}
    NeedsContexts word = ⊥

    needs-later : (word : Word) → NeedsContexts word → ends.IsLater free tables spellings a b q.fit.spells q.fit.proposes ids window word
    needs-later (OfData (Values values)) h = tt
    needs-later (OfMarks (Please tokens values)) h = tt
    needs-later (OfAssociation (Finish transport values)) h = tt
    needs-later (OfAssociation (Disconnect values)) h = tt
    needs-later word h = absurd h

    needs-late : (word : Word) → NeedsContexts word → ends.IsEarly free tables spellings a b q.fit.spells q.fit.proposes ids window word → ⊥
    needs-late (OfData (Values values)) h e = e
    needs-late (OfMarks (Please tokens values)) h e = e
    needs-late (OfAssociation (Finish transport values)) h e = e
    needs-late (OfAssociation (Disconnect values)) h e = e
    needs-late word h e = absurd h

    pub taken-on : (two : Two) (ledger : Ledger) (g : ReachedWithLedger common two ledger) → AreCalls common two ledger g → (role : Role) (word : Word) (left : List Message) (body : Body) (answers : List Message) (shown : List Indication) → NeedsContexts word → coming_to role two ≡ Session word ∷ left → react (base role) (body_at role two) (Session word) ≡ Takes body answers shown → OnContexts (body_at role two)
    taken-on two ledger g c role word left body answers shown needs e h =
        let s = all-said two ledger g c in
        let t = took-word (base role) (body_at role two) word body answers shown h in
        let n : AreSaid (Session word ∷ left) = subst AreSaid e (coming-said role two s) in
        let x = ends.stands free tables spellings a b q.fit.spells q.fit.proposes ids window role (body_at role two) word n.0 (needs-later word needs) (needs-late word needs) (in-place (base role) (body_at role two) word t.fine) t.alive (rooted-at role two s) in
        record {
          acse = ends.held-acse free tables spellings a b q.fit.spells q.fit.proposes ids window role (body_at role two) x;
          rtse = ends.held-rtse free tables spellings a b q.fit.spells q.fit.proposes ids window role (body_at role two) x;
        }

-- a window that isn't 0
pub some-window : (n : ℕ) → 1 ≤ n → nat_eq n 0 ≡ false
some-window n h = grind (arith, nat_tests)

pub reliable-says : ReliableSaysWords
reliable-says free tables spellings a b carries fit window two ledger s role =
    let ids = listed-identifiers (proposals (base_at Initiator (reliable_common tables spellings a b))) fit.identifiers in
    let q : machine.Presumed free tables spellings a b = record { fit = fit; carries = carries } in
    coming-said free tables spellings a b q ids (some-window a.window window) role two (all-said free tables spellings a b q ids (some-window a.window window) two ledger s.goes s.calls)
