-- In direct mode what an end is told of invocations and outcomes is what the other end handed in, and once at most.
use Rattle.std.proofs.Common.{◌≡◌, refl, true, false, ◌∙◌, sym, ap, subst, ℕ, List, [], ◌∷◌, ◌++◌, map, append_assoc, ◌⊎◌, inl, inr, None, Ok, Err}
use Rattle.std.specs.Prelude.{Bool, Option, Some, ℤ, if◌then◌else◌, flat_map}
use Rattle.std.proofs.lemmas.List.{append-nil}
use Rattle.osi_base.specs.declared.layer_words.Side.{Side}
use Rattle.osi_base.specs.declared.layer_words.Side.TheVariants.{A, B}
use Rattle.stub_tables.specs.declared.tables.Tables.{Tables}
use Rattle.dialogue.specs.declared.config.Config.{Config}
use Rattle.dialogue.specs.declared.config.Mode.TheVariants.{Direct}
use Rattle.dialogue.specs.declared.call.Call.{Call}
use Rattle.dialogue.specs.declared.event.Event.{Event}
use Rattle.dialogue.specs.declared.event.Entry.{Entry}
use Rattle.dialogue.specs.declared.indication.Indication.{Indication}
use Rattle.end_rules.specs.Base.{Base, Spellings, Fault}
use Rattle.end_rules.specs.Messages.{Message, Transport, Session, TransportUnit, OfAssociation, OfData, OfMarks, OfActivities, Connect, Accept, Refuse, Finish, Disconnect, Abort, AbortAccept, Values, AlterContext, AlterContextAck}
use Rattle.end_rules.specs.State.{Body, passes_over}
use Rattle.end_rules.specs.Calling.{can_call}
use Rattle.end_rules.specs.Requesting.{due_of}
use Rattle.end_rules.specs.Purging.{is_transport_purged}
use Rattle.end_rules.specs.TakesTransport.{transport_unit_fault, after_transport, answers_to_transport}
use Rattle.end_rules.specs.Reacting.{Passes, Takes, react, on_transport, after_word}
use Rattle.end_rules.specs.History.{Step, called, sent, fed, took, answered, passed, feed_end, gave, broke, after_broke}
use Rattle.end_rules.specs.World as sides
use Rattle.end_rules.specs.World.{World, Ends}
use Rattle.agreement.specs.Sets.{Role, other}
use Rattle.agreement.specs.Sets.Role.{Initiator, Responder}
use Rattle.end_model.specs.Seen.{Free}
use Rattle.end_model.specs.Acting.{ReadsBack, apdus_of}
use Rattle.end_model.specs.Requests.{after_called}
use Rattle.end_model.specs.BothEnds as both_ends
use Rattle.end_model.specs.BothEnds.{Common, base_at, Two, coming_to, stepped, two_new, both_broke, WritesAll}
use Rattle.end_model.specs.DirectEnds.{direct_common, ProposesRightly}
use Rattle.end_model.specs.Sharing.{side_of}
use Rattle.end_model.proofs.DirectMachine as machine
use Rattle.end_model.proofs.DirectMachine.{Fresh, Calling, Confirming, Connecting, Accepting, Refusing, Deaf, Gone, Standing}
use Rattle.end_model.proofs.DirectWords.{AreOwn, Stands, IsOver}
use Rattle.dialogue.specs.declared.config.Phase.TheVariants.{Over}
use Rattle.reliable_model.specs.Ledgers.{Ledger}
use Rattle.reliable_model.proofs.FirmSteps.{in-place}
use Rattle.outcome_laws.specs.Exchanges.{Asked, asked_by, Exchanges, ReachedWithExchanges, exchange_of, on_exchange, calls_so, gets, stays, takes_so, meets, loses, nothing_exchanged, still_after}
use Rattle.outcome_laws.proofs.Once.{keeps, still-keeps, once}
use Rattle.outcome_laws.proofs.Links.{links-are-allowed}
use Rattle.outcome_laws.proofs.Transferred.{shown_of, shows-so}
use Rattle.said_words.specs.Calls.{Speaks}
use Rattle.said_words.specs.Words.{IsMessage}
use Rattle.said_words.specs.Laws.{ProposesContexts}
use Rattle.said_words.proofs.Sharing.{no-own, kept-in}
use Rattle.said_words.proofs.TransferEnds.{is_early}
use Rattle.run_laws.specs.Showing.{shown_in}
use Rattle.run_laws.specs.Outcomes.{Invocation, ToldOutcome, invoked_by, answered_by, invocation_in, outcome_in, OneOutcome}
use Rattle.association_worlds.specs.Laws.{IsMeant}
use Rattle.association_runs.specs.Worlds.{stepping, Runs}
use Rattle.association_runs.specs.Laws.{AreEvents}
use Rattle.association_runs.specs.Sides.{ends_for}
use Rattle.association_runs.proofs.Histories.{end_for, body-for}
use Rattle.association_runs.proofs.Keeps.{IsQuiet, Keeps}
use Rattle.association_runs.proofs.Joint.{Joint}
use Rattle.association_runs.proofs.Joined.{Joined}
use Rattle.association_runs.proofs.Carried.{from-start}
use Rattle.association_runs.proofs.Shown.{each-carry-shows}
use Rattle.association_runs.proofs.Transcribed.{calls_at, all_calls, peer-calls, answers-call, seen_at, TakesNone, TakeNone, sents-none, answers-none, own-same, peer-same}
use Rattle.association_runs.proofs.Noted.{AreMade, AreNoted, noted-append, heard_values, message-noted, HoldOurs}
use Rattle.association_runs.proofs.Telling.{notes_of, notes-append, plain-notes, invoked_ids, ids-append, TellsRightly, ToldRightly, tells-rightly, one-outcome}
use Rattle.run_lemmas.proofs.Numbers.{IsGood, good-skip, fresh-front}
use Rattle.run_lemmas.proofs.Handing.{noted-own, noted-peer}
use Rattle.run_lemmas.proofs.Openings.{IsConnect}
use Rattle.run_lemmas.proofs.Calling.{calls-more, calls-same, quiet-invokes, quiet-answers}
use Rattle.codec_runs.proofs.DirectHanded.{AllHold, all-on, hold-append, Holds, AllRejects, all-rejects_none, all-rejects_hold, message_invokes, all_invokes, invokes-append, CallHands, call-hands, TakeHands, word-hands, unit-hands, broke-early}
use Rattle.codec_runs.proofs.DirectSent.{took-word, first-said}

-- ---- what is kept of one end: what it made itself, what the other made and gave, all that it was shown, its body, how many invocations
-- the other made, what comes to it, and its exchanges since its association began

pub record Facts (tables : Tables) (own made : List Invocation) (given : List ToldOutcome) (seen : List Indication) (body : Body) (count : ℕ) (coming : List Message) (asked : List Asked) (shown : List Indication) : Type 0 where
  pub coming_so : AllHold tables made given coming
  pub noted : AreNoted tables own made given shown
  pub asked_so : AreMade tables own asked
  pub same : notes_of seen ≡ notes_of shown
  pub young : is_early body.link.phase ≡ true → (notes_of seen ≡ []) × (body.calls.made ≡ 0)
  pub good : IsGood count (invoked_ids shown ++ all_invokes coming)

module _ (tables : Tables) (own made : List Invocation) (given : List ToldOutcome) (seen : List Indication) (body : Body) (count : ℕ) (coming : List Message) (asked : List Asked) (shown : List Indication) (x : Facts tables own made given seen body count coming asked shown) where
  -- more comes
  more-comes : (later : ℕ) (more : List Message) → IsGood later ((invoked_ids shown ++ all_invokes coming) ++ all_invokes more) → IsGood later (invoked_ids shown ++ all_invokes (coming ++ more))
  more-comes later more g =
      subst (IsGood later) (append_assoc (invoked_ids shown) (all_invokes coming) (all_invokes more) ∙ ap (λ (l : List ℤ). invoked_ids shown ++ l) (sym (invokes-append coming more))) g

  own-called : (base : Base) (call : Call) (answer : Option ℤ) → base.tables ≡ tables → CallHands base body call answer → Facts tables (own ++ invoked_by call (Ok answer)) made given seen (after_called Direct base body call answer) count coming (asked_by call answer ++ asked) shown
  own-called base call answer t h = record {
    coming_so = x.coming_so;
    noted = noted-own tables own (invoked_by call (Ok answer)) made given shown x.noted;
    asked_so = subst (λ (t : Tables). AreMade t (own ++ invoked_by call (Ok answer)) (asked_by call answer ++ asked)) t (h.asks own asked (subst (λ (t : Tables). AreMade t own asked) (sym t) x.asked_so));
    same = x.same;
    young = λ e. let y = h.early e in let z = x.young y.0 in (z.0, y.1 ∙ z.1);
    good = x.good;
  }

  -- the other end, of this body, calls
  peer-called : (base : Base) (theirs : Body) (call : Call) (answer : Option ℤ) → base.tables ≡ tables → theirs.calls.made ≡ count → CallHands base theirs call answer
      → Facts tables own (made ++ invoked_by call (Ok answer)) (given ++ answered_by call (Ok answer)) seen body (after_called Direct base theirs call answer).calls.made (coming ++ due_of (record base { mode = Direct }) theirs call (Ok answer)) asked shown
  peer-called base theirs call answer t c h = record {
    coming_so =
        hold-append tables (made ++ invoked_by call (Ok answer)) (given ++ answered_by call (Ok answer)) coming (due_of (record base { mode = Direct }) theirs call (Ok answer))
        (all-on tables made (invoked_by call (Ok answer)) given (answered_by call (Ok answer)) coming x.coming_so)
        (subst (λ (t : Tables). AllHold t (made ++ invoked_by call (Ok answer)) (given ++ answered_by call (Ok answer)) (due_of (record base { mode = Direct }) theirs call (Ok answer))) t (h.holds made given));
    noted = noted-peer tables own made (invoked_by call (Ok answer)) given (answered_by call (Ok answer)) shown x.noted;
    asked_so = x.asked_so;
    same = x.same;
    young = x.young;
    good = more-comes _ (due_of (record base { mode = Direct }) theirs call (Ok answer)) (h.numbers (invoked_ids shown ++ all_invokes coming) (subst (λ (k : ℕ). IsGood k (invoked_ids shown ++ all_invokes coming)) (sym c) x.good));
  }

  first-holds : (message : Message) (left : List Message) → coming ≡ message ∷ left → AllHold tables made given (message ∷ left)
  first-holds message left e = subst (AllHold tables made given) e x.coming_so

  first-good : (message : Message) (left : List Message) → coming ≡ message ∷ left → IsGood count (invoked_ids shown ++ (message_invokes message ++ all_invokes left))
  first-good message left e = subst (λ (c : List Message). IsGood count (invoked_ids shown ++ all_invokes c)) e x.good

  own-passed : (message : Message) (left : List Message) → coming ≡ message ∷ left → Facts tables own made given seen body count left asked shown
  own-passed message left e = record {
    coming_so = (first-holds message left e).1;
    noted = x.noted;
    asked_so = x.asked_so;
    same = x.same;
    young = x.young;
    good = good-skip count (invoked_ids shown) (message_invokes message) (all_invokes left) (first-good message left e);
  }

  -- the other end took something
  peer-took : (later : ℕ) (more : List Message) → later ≡ count → AllRejects more → Facts tables own made given seen body later (coming ++ more) asked shown
  peer-took later more c r = record {
    coming_so = hold-append tables made given coming more x.coming_so (all-rejects_hold tables made given more r);
    noted = x.noted;
    asked_so = x.asked_so;
    same = x.same;
    young = x.young;
    good =
        more-comes later more
        (subst (λ (l : List ℤ). IsGood later ((invoked_ids shown ++ all_invokes coming) ++ l)) (sym (all-rejects_none more r))
        (subst (IsGood later) (sym (append-nil (invoked_ids shown ++ all_invokes coming))) (subst (λ (k : ℕ). IsGood k (invoked_ids shown ++ all_invokes coming)) (sym c) x.good)));
  }

  -- it took a message, and was shown this
  not-kept : (base : Base) (message : Message) → keeps base body message ≡ false → IsConnect message
  not-kept base (Transport unit) e = absurd cc
  not-kept base (Session (OfData word)) e = absurd cc
  not-kept base (Session (OfMarks word)) e = absurd cc
  not-kept base (Session (OfActivities word)) e = absurd cc
  not-kept base (Session (OfAssociation (Accept session presentation values))) e = absurd cc
  not-kept base (Session (OfAssociation (Refuse transport reason presentation values))) e = absurd cc
  not-kept base (Session (OfAssociation (Finish transport values))) e = absurd cc
  not-kept base (Session (OfAssociation (Disconnect values))) e = absurd cc
  not-kept base (Session (OfAssociation (Abort transport user))) e = absurd cc
  not-kept base (Session (OfAssociation AbortAccept)) e = absurd cc
  not-kept base (Session (OfAssociation (Connect session presentation values))) e = tt

  own-took : (base : Base) (message : Message) (left : List Message) (later : Body) (answers : List Message) (now : List Indication) → coming ≡ message ∷ left → (IsConnect message → is_early body.link.phase ≡ true) → AreNoted tables own made given now → TakeHands body later message answers now
      → Facts tables own made given (seen ++ now) later count left (still_after base body message asked) (still_after base body message shown ++ now)
  own-took base message left later answers now e opens noted_now h = record {
    coming_so = (first-holds message left e).1;
    noted = noted-append tables own made given (still_after base body message shown) now still-noted noted_now;
    asked_so = still-asked;
    same = notes-append seen now ∙ ap (λ (l : List Indication). l ++ notes_of now) still-same ∙ sym (notes-append (still_after base body message shown) now);
    young = λ y. let early = h.early y in let z = x.young early.0 in (notes-append seen now ∙ (λ i. z.0 i ++ plain-notes now early.1 i), h.counted (λ c. (x.young (opens c)).1) ∙ z.1);
    good = still-good;
  }
    where
      still-noted : AreNoted tables own made given (still_after base body message shown)
      still-noted = subst (AreNoted tables own made given) (sym (still-keeps base body message shown)) (go (keeps base body message))
        where
          go : (k : Bool) → AreNoted tables own made given (if k then shown else [])
          go true = x.noted
          go false = tt

      still-asked : AreMade tables own (still_after base body message asked)
      still-asked = subst (AreMade tables own) (sym (still-keeps base body message asked)) (go (keeps base body message))
        where
          go : (k : Bool) → AreMade tables own (if k then asked else [])
          go true = x.asked_so
          go false = tt

      still-same : notes_of seen ≡ notes_of (still_after base body message shown)
      still-same = go (keeps base body message) refl ∙ ap notes_of (sym (still-keeps base body message shown))
        where
          go : (k : Bool) → keeps base body message ≡ k → notes_of seen ≡ notes_of (if k then shown else [])
          go true f = x.same
          go false f = (x.young (opens (not-kept base message f))).0

      with-still : IsGood count (invoked_ids (still_after base body message shown) ++ (message_invokes message ++ all_invokes left))
      with-still = subst (λ (l : List Indication). IsGood count (invoked_ids l ++ (message_invokes message ++ all_invokes left))) (sym (still-keeps base body message shown)) (go (keeps base body message))
        where
          go : (k : Bool) → IsGood count (invoked_ids (if k then shown else []) ++ (message_invokes message ++ all_invokes left))
          go true = first-good message left e
          go false = good-skip count [] (invoked_ids shown) (message_invokes message ++ all_invokes left) (first-good message left e)

      still-good : IsGood count (invoked_ids (still_after base body message shown ++ now) ++ all_invokes left)
      still-good =
          subst (λ (l : List ℤ). IsGood count (l ++ all_invokes left)) (sym (ids-append (still_after base body message shown) now))
          (subst (IsGood count) (sym (append_assoc (invoked_ids (still_after base body message shown)) (invoked_ids now) (all_invokes left))) (go h.ids))
        where
          go : (invoked_ids now ≡ []) ⊎ (invoked_ids now ≡ message_invokes message) → IsGood count (invoked_ids (still_after base body message shown) ++ (invoked_ids now ++ all_invokes left))
          go (inl f) =
              subst (λ (l : List ℤ). IsGood count (invoked_ids (still_after base body message shown) ++ (l ++ all_invokes left))) (sym f)
              (good-skip count (invoked_ids (still_after base body message shown)) (message_invokes message) (all_invokes left) with-still)
          go (inr f) = subst (λ (l : List ℤ). IsGood count (invoked_ids (still_after base body message shown) ++ (l ++ all_invokes left))) (sym f) with-still

  -- a break loses what comes
  own-broke : (later : Body) (k : ℕ) → k ≡ count → (is_early later.link.phase ≡ true → (is_early body.link.phase ≡ true) × (later.calls.made ≡ body.calls.made)) → Facts tables own made given seen later k [] asked shown
  own-broke later k c f = record {
    coming_so = tt;
    noted = x.noted;
    asked_so = x.asked_so;
    same = x.same;
    young = λ e. let y = f e in let z = x.young y.0 in (z.0, y.1 ∙ z.1);
    good =
        subst (λ (n : ℕ). IsGood n (invoked_ids shown ++ [])) (sym c)
        (good-skip count (invoked_ids shown) (all_invokes coming) [] (subst (λ (l : List ℤ). IsGood count (invoked_ids shown ++ l)) (sym (append-nil (all_invokes coming))) x.good));
  }

-- what is made, given and seen is this
changed : (tables : Tables) (own own_now made made_now : List Invocation) (given given_now : List ToldOutcome) (seen seen_now : List Indication) (body : Body) (count : ℕ) (coming : List Message) (asked : List Asked) (shown : List Indication) → own_now ≡ own → made_now ≡ made → given_now ≡ given → seen_now ≡ seen → Facts tables own made given seen body count coming asked shown → Facts tables own_now made_now given_now seen_now body count coming asked shown
changed tables own own_now made made_now given given_now seen seen_now body count coming asked shown e f g h x =
    subst (λ (l : List Invocation). Facts tables l made_now given_now seen_now body count coming asked shown) (sym e)
    (subst (λ (l : List Invocation). Facts tables own l given_now seen_now body count coming asked shown) (sym f)
    (subst (λ (l : List ToldOutcome). Facts tables own made l seen_now body count coming asked shown) (sym g)
    (subst (λ (l : List Indication). Facts tables own made given l body count coming asked shown) (sym h) x)))

module _ (free : Free) (tables : Tables) (spellings : Spellings) (a b : Config) where
  abbrev common : Common
  common = direct_common tables spellings a b

  abbrev base : Role → Base
  base role = base_at role common

  abbrev ends : Ends
  ends = ends_for common

  abbrev pub made : Role → World → List Invocation
  made role w = calls_at invoked_by (side_of role) w

  abbrev pub given : Role → World → List ToldOutcome
  given role w = calls_at answered_by (side_of role) w

  abbrev pub Told : Role → World → Two → Exchanges → Type 0
  Told role w two exchanges =
      Facts tables (made role w) (made (other role) w) (given (other role) w) (seen_at ends (side_of role) w) (both_ends.body_at role two) (both_ends.body_at (other role) two).calls.made (coming_to role two) (exchange_of role exchanges).asked (exchange_of role exchanges).shown

  -- ---- what steps add to what was made and given

  call-none : (call : Call) (answer : Option ℤ) (due : List Message) → TakeNone (called call (Ok answer) ∷ map sent due)
  call-none call answer due = (tt, sents-none due)

  -- what a taking shows
  took-seen : (role : Role) (w : World) (message : Message) (answers : List Message) → seen_at ends (side_of role) (stepping (side_of role) w (took message ∷ map (answered message) answers)) ≡ seen_at ends (side_of role) w ++ shown_in (react (base role) (sides.body_at ends (side_of role) w) message)
  took-seen Initiator w message answers = own-same ends A (record { side = A; step = took message } ∷ w) (map (answered message) answers) (answers-none message answers)
  took-seen Responder w message answers = own-same ends B (record { side = B; step = took message } ∷ w) (map (answered message) answers) (answers-none message answers)

  module _ (writes : WritesAll free) (back : ReadsBack (base Initiator)) (right : ProposesRightly common) (contexts : ProposesContexts common) where
    -- an opening is taken before an association stands
    connect-early : (two : Two) (ledger : Ledger) → Speaks common two ledger → (role : Role) (message : Message) (left : List Message) (body : Body) (answers : List Message) (shown : List Indication) → coming_to role two ≡ message ∷ left → react (base role) (both_ends.body_at role two) message ≡ Takes body answers shown → IsConnect message → is_early (both_ends.body_at role two).link.phase ≡ true
    connect-early two ledger s role (Transport unit) left body answers shown e r c = absurd c
    connect-early two ledger s role (Session (OfData word)) left body answers shown e r c = absurd c
    connect-early two ledger s role (Session (OfMarks word)) left body answers shown e r c = absurd c
    connect-early two ledger s role (Session (OfActivities word)) left body answers shown e r c = absurd c
    connect-early two ledger s role (Session (OfAssociation (Accept session presentation values))) left body answers shown e r c = absurd c
    connect-early two ledger s role (Session (OfAssociation (Refuse transport reason presentation values))) left body answers shown e r c = absurd c
    connect-early two ledger s role (Session (OfAssociation (Finish transport values))) left body answers shown e r c = absurd c
    connect-early two ledger s role (Session (OfAssociation (Disconnect values))) left body answers shown e r c = absurd c
    connect-early two ledger s role (Session (OfAssociation (Abort transport user))) left body answers shown e r c = absurd c
    connect-early two ledger s role (Session (OfAssociation AbortAccept)) left body answers shown e r c = absurd c
    connect-early two ledger s Initiator (Session (OfAssociation (Connect session presentation values))) left body answers shown e r c =
        let t = took-word free tables spellings a b Initiator two.a (OfAssociation (Connect session presentation values)) body answers shown r in
        let p = in-place (base Initiator) two.a (OfAssociation (Connect session presentation values)) t.fine in
        absurd cc
    connect-early two ledger s Responder (Session (OfAssociation (Connect session presentation values))) left body answers shown e r c =
        go (kept-in free tables spellings a b writes back right two ledger s.goes).opened
      where
        none : two.to_b ≡ [] → ⊥
        none f = let same : [] ≡ Session (OfAssociation (Connect session presentation values)) ∷ left = sym f ∙ e in cc

        a_unit : (unit : TransportUnit) (more : List Message) → two.to_b ≡ Transport unit ∷ more → ⊥
        a_unit unit more f = let same : Transport unit ∷ more ≡ Session (OfAssociation (Connect session presentation values)) ∷ left = sym f ∙ e in cc

        over : two.b.link.phase ≡ Over → is_early two.b.link.phase ≡ true
        over q =
            let no_take : Passes ≡ Takes body answers shown = sym (machine.over-passes free tables spellings a b Responder two.b (Session (OfAssociation (Connect session presentation values))) q) ∙ r in absurd cc

        own-none : AreOwn (base Initiator) two.to_b → is_early two.b.link.phase ≡ true
        own-none o = absurd (subst (AreOwn (base Initiator)) e o).0

        go : machine.Opened free tables spellings a b two.a two.b two.to_a two.to_b → is_early two.b.link.phase ≡ true
        go (Fresh p q f g) = absurd (none g)
        go (Calling p q f g) = absurd (a_unit _ [] g)
        go (Confirming p q f g) = absurd (none g)
        go (Connecting p q f g) = ap is_early q.phase_is
        go (Accepting p word x more f own (Stands live o)) = own-none o
        go (Accepting p word x more f own (IsOver q)) = over q
        go (Refusing p q word x f) = over q
        go (Deaf q x) = over q
        go (Gone p (inl x)) = ap is_early x.0.phase_is
        go (Gone p (inr x)) = ap is_early x.0.phase_is
        go (Standing s (Stands live own)) = own-none own
        go (Standing s (IsOver q)) = over q

    -- ---- takings

    unit-fine : (role : Role) (body : Body) (unit : TransportUnit) (later : Body) (answers : List Message) (shown : List Indication) → react (base role) body (Transport unit) ≡ Takes later answers shown → (transport_unit_fault (base role) body unit ≡ None) × (after_transport (base role) body unit ≡ later) × (answers_to_transport (base role) body unit ≡ answers)
    unit-fine role body unit later answers shown h = go (passes_over body.link.phase) (is_transport_purged body.link.awaits) (transport_unit_fault (base role) body unit) refl h
      where
        go : (p q : Bool) (f : Option Fault) → transport_unit_fault (base role) body unit ≡ f → (if p then Passes else (if q then Passes else on_transport (base role) body unit f)) ≡ Takes later answers shown → (transport_unit_fault (base role) body unit ≡ None) × (after_transport (base role) body unit ≡ later) × (answers_to_transport (base role) body unit ≡ answers)
        go true q f g h = absurd cc
        go false true f g h = absurd cc
        go false false (Some fault) g h = absurd cc
        go false false None g h =
            let x : after_transport (base role) body unit ≡ later = cc in
            let y : answers_to_transport (base role) body unit ≡ answers = cc in
            (g, x, y)

    hands : (role : Role) (body : Body) (message : Message) (later : Body) (answers : List Message) (shown : List Indication) → IsMessage (base Initiator) (base Responder) message → react (base role) body message ≡ Takes later answers shown → TakeHands body later message answers shown
    hands role body (Transport unit) later answers shown i r =
        let t = unit-fine role body unit later answers shown r in
        subst (λ (l : List Indication). TakeHands body later (Transport unit) answers l) (sym (shows-so (base role) body (Transport unit) later answers shown r))
        (subst (λ (z : Body). TakeHands body z (Transport unit) answers (shown_of (base role) body (Transport unit))) t.1
        (subst (λ (ms : List Message). TakeHands body (after_transport (base role) body unit) (Transport unit) ms (shown_of (base role) body (Transport unit))) t.2 (unit-hands tables spellings a b role body unit i t.0)))
    hands role body (Session word) later answers shown i r =
        let t = took-word free tables spellings a b role body word later answers shown r in
        subst (λ (l : List Indication). TakeHands body later (Session word) answers l) (sym (shows-so (base role) body (Session word) later answers shown r))
        (subst (λ (z : Body). TakeHands body z (Session word) answers (shown_of (base role) body (Session word))) t.later_is
        (subst (λ (ms : List Message). TakeHands body (after_word (base role) body word) (Session word) ms (shown_of (base role) body (Session word))) t.answers_are (word-hands tables spellings a b role body word i (in-place (base role) body word t.fine))))

    heard-holds : (role : Role) (body : Body) (own : List Invocation) (outcomes : List ToldOutcome) (message : Message) → Holds tables own outcomes message → HoldOurs tables own outcomes (heard_values (base role) body message)
    heard-holds role body own outcomes (Transport unit) h = tt
    heard-holds role body own outcomes (Session (OfAssociation word)) h = tt
    heard-holds role body own outcomes (Session (OfData (Values values))) h = h
    heard-holds role body own outcomes (Session (OfData (AlterContext add delete))) h = tt
    heard-holds role body own outcomes (Session (OfData (AlterContextAck answers))) h = tt
    heard-holds role body own outcomes (Session (OfMarks word)) h = tt
    heard-holds role body own outcomes (Session (OfActivities word)) h = absurd h

    -- what is shown is what the other end handed in
    now-noted : (role : Role) (w : World) (two : Two) (ledger : Ledger) (exchanges : Exchanges) (message : Message) (left : List Message) (body : Body) (answers : List Message) (shown : List Indication) → Joint common w two ledger exchanges → coming_to role two ≡ message ∷ left → react (base role) (both_ends.body_at role two) message ≡ Takes body answers shown → Told role w two exchanges
        → AreNoted tables (made role w) (made (other role) w) (given (other role) w) shown
    now-noted role w two ledger exchanges message left body answers shown j e r x =
        let h = first-holds tables _ _ _ _ _ _ _ _ _ x message left e in
        subst (AreNoted tables (made role w) (made (other role) w) (given (other role) w)) (sym (shows-so (base role) (both_ends.body_at role two) message body answers shown r))
        (message-noted (base role) (made role w) (made (other role) w) (given (other role) w) (exchange_of role exchanges).asked (both_ends.body_at role two) message (exchange_of role exchanges).shown x.asked_so (once common two ledger exchanges j.reached_exchanges role) (heard-holds role (both_ends.body_at role two) (made (other role) w) (given (other role) w) message h.0))

    abbrev pub BothTold : World → Two → Ledger → Exchanges → Type 0
    BothTold w two ledger exchanges = (r : Role) → Told r w two exchanges

    -- ---- all steps

    called-told : (role : Role) (w : World) (two : Two) (ledger : Ledger) (exchanges : Exchanges) (call : Call) (answer : Option ℤ) (y : Body) → y ≡ both_ends.body_at role two → can_call (base role) y call ≡ Ok answer → BothTold w two ledger exchanges
        → (r : Role) → Told r (stepping (side_of role) w (called call (Ok answer) ∷ map sent (due_of (base role) y call (Ok answer)))) (stepped role (after_called Direct (base role) y call answer) (coming_to role two) (due_of (base role) y call (Ok answer)) two)
        (on_exchange role (calls_so (apdus_of (base role) y call answer) (asked_by call answer)) (gets (due_of (base role) y call (Ok answer))) exchanges)
    called-told role w two ledger exchanges call answer y e c x r =
        subst (λ (z : Body). can_call (base role) z call ≡ Ok answer → Told r (stepping (side_of role) w (called call (Ok answer) ∷ map sent (due_of (base role) z call (Ok answer)))) (stepped role (after_called Direct (base role) z call answer) (coming_to role two) (due_of (base role) z call (Ok answer)) two)
        (on_exchange role (calls_so (apdus_of (base role) z call answer) (asked_by call answer)) (gets (due_of (base role) z call (Ok answer))) exchanges)) (sym e) (here role r) c
      where
        here : (role r : Role) → can_call (base role) (both_ends.body_at role two) call ≡ Ok answer → Told r (stepping (side_of role) w (called call (Ok answer) ∷ map sent (due_of (base role) (both_ends.body_at role two) call (Ok answer)))) (stepped role (after_called Direct (base role) (both_ends.body_at role two) call answer) (coming_to role two) (due_of (base role) (both_ends.body_at role two) call (Ok answer)) two)
            (on_exchange role (calls_so (apdus_of (base role) (both_ends.body_at role two) call answer) (asked_by call answer)) (gets (due_of (base role) (both_ends.body_at role two) call (Ok answer))) exchanges)
        here Initiator Initiator c =
            let due : List Message = due_of (base Initiator) two.a call (Ok answer) in
            let xs : List Step = called call (Ok answer) ∷ map sent due in
            changed tables _ _ _ _ _ _ _ _ _ _ _ _ _ (calls-more invoked_by Initiator w call answer due) (peer-calls invoked_by A w xs) (peer-calls answered_by A w xs) (own-same ends A w xs (call-none call answer due))
            (own-called tables _ _ _ _ _ _ _ _ _ (x Initiator) (base Initiator) call answer refl (call-hands (base Initiator) two.a call answer c))
        here Initiator Responder c =
            let due : List Message = due_of (base Initiator) two.a call (Ok answer) in
            let xs : List Step = called call (Ok answer) ∷ map sent due in
            changed tables _ _ _ _ _ _ _ _ _ _ _ _ _ (peer-calls invoked_by A w xs) (calls-more invoked_by Initiator w call answer due) (calls-more answered_by Initiator w call answer due) (peer-same ends A w xs)
            (peer-called tables _ _ _ _ _ _ _ _ _ (x Responder) (base Initiator) two.a call answer refl refl (call-hands (base Initiator) two.a call answer c))
        here Responder Responder c =
            let due : List Message = due_of (base Responder) two.b call (Ok answer) in
            let xs : List Step = called call (Ok answer) ∷ map sent due in
            changed tables _ _ _ _ _ _ _ _ _ _ _ _ _ (calls-more invoked_by Responder w call answer due) (peer-calls invoked_by B w xs) (peer-calls answered_by B w xs) (own-same ends B w xs (call-none call answer due))
            (own-called tables _ _ _ _ _ _ _ _ _ (x Responder) (base Responder) call answer refl (call-hands (base Responder) two.b call answer c))
        here Responder Initiator c =
            let due : List Message = due_of (base Responder) two.b call (Ok answer) in
            let xs : List Step = called call (Ok answer) ∷ map sent due in
            changed tables _ _ _ _ _ _ _ _ _ _ _ _ _ (peer-calls invoked_by B w xs) (calls-more invoked_by Responder w call answer due) (calls-more answered_by Responder w call answer due) (peer-same ends B w xs)
            (peer-called tables _ _ _ _ _ _ _ _ _ (x Initiator) (base Responder) two.b call answer refl refl (call-hands (base Responder) two.b call answer c))

    shown-so : (role : Role) (w : World) (two : Two) (ledger : Ledger) (exchanges : Exchanges) (message : Message) (body : Body) (answers : List Message) (shown : List Indication) → Joint common w two ledger exchanges → react (base role) (both_ends.body_at role two) message ≡ Takes body answers shown → shown_in (react (base role) (sides.body_at ends (side_of role) w) message) ≡ shown
    shown-so role w two ledger exchanges message body answers shown j r =
        ap (λ (y : Body). shown_in (react (base role) y message)) (body-for common role w ∙ j.bodies role) ∙ ap shown_in r

    taken-told : (role : Role) (w : World) (two : Two) (ledger : Ledger) (exchanges : Exchanges) (message : Message) (left : List Message) (body : Body) (answers : List Message) (shown : List Indication) → Joint common w two ledger exchanges → coming_to role two ≡ message ∷ left → react (base role) (both_ends.body_at role two) message ≡ Takes body answers shown → BothTold w two ledger exchanges
        → (r : Role) → Told r (stepping (side_of role) w (took message ∷ map (answered message) answers)) (stepped role body left answers two) (on_exchange role (takes_so (base role) (both_ends.body_at role two) message shown) (gets answers) exchanges)
    taken-told Initiator w two ledger exchanges message left body answers shown j e r x Initiator =
        let i = first-said free tables spellings a b writes back right contexts two ledger j.speaks Initiator message left e in
        let h = hands Initiator two.a message body answers shown i r in
        let xs : List Step = took message ∷ map (answered message) answers in
        changed tables _ _ _ _ _ _ _ _ _ _ _ _ _ (calls-same invoked_by Initiator w xs (answers-call invoked_by message answers)) (peer-calls invoked_by A w xs) (peer-calls answered_by A w xs)
        (took-seen Initiator w message answers ∙ ap (λ (l : List Indication). seen_at ends A w ++ l) (shown-so Initiator w two ledger exchanges message body answers shown j r))
        (own-took tables _ _ _ _ _ _ _ _ _ (x Initiator) (base Initiator) message left body answers shown e (connect-early two ledger j.speaks Initiator message left body answers shown e r)
        (now-noted Initiator w two ledger exchanges message left body answers shown j e r (x Initiator)) h)
    taken-told Initiator w two ledger exchanges message left body answers shown j e r x Responder =
        let i = first-said free tables spellings a b writes back right contexts two ledger j.speaks Initiator message left e in
        let h = hands Initiator two.a message body answers shown i r in
        let xs : List Step = took message ∷ map (answered message) answers in
        changed tables _ _ _ _ _ _ _ _ _ _ _ _ _ (peer-calls invoked_by A w xs) (calls-same invoked_by Initiator w xs (answers-call invoked_by message answers)) (calls-same answered_by Initiator w xs (answers-call answered_by message answers)) (peer-same ends A w xs)
        (peer-took tables _ _ _ _ _ _ _ _ _ (x Responder) body.calls.made answers (h.counted (λ c. ((x Initiator).young (connect-early two ledger j.speaks Initiator message left body answers shown e r c)).1)) h.rejects)
    taken-told Responder w two ledger exchanges message left body answers shown j e r x Responder =
        let i = first-said free tables spellings a b writes back right contexts two ledger j.speaks Responder message left e in
        let h = hands Responder two.b message body answers shown i r in
        let xs : List Step = took message ∷ map (answered message) answers in
        changed tables _ _ _ _ _ _ _ _ _ _ _ _ _ (calls-same invoked_by Responder w xs (answers-call invoked_by message answers)) (peer-calls invoked_by B w xs) (peer-calls answered_by B w xs)
        (took-seen Responder w message answers ∙ ap (λ (l : List Indication). seen_at ends B w ++ l) (shown-so Responder w two ledger exchanges message body answers shown j r))
        (own-took tables _ _ _ _ _ _ _ _ _ (x Responder) (base Responder) message left body answers shown e (connect-early two ledger j.speaks Responder message left body answers shown e r)
        (now-noted Responder w two ledger exchanges message left body answers shown j e r (x Responder)) h)
    taken-told Responder w two ledger exchanges message left body answers shown j e r x Initiator =
        let i = first-said free tables spellings a b writes back right contexts two ledger j.speaks Responder message left e in
        let h = hands Responder two.b message body answers shown i r in
        let xs : List Step = took message ∷ map (answered message) answers in
        changed tables _ _ _ _ _ _ _ _ _ _ _ _ _ (peer-calls invoked_by B w xs) (calls-same invoked_by Responder w xs (answers-call invoked_by message answers)) (calls-same answered_by Responder w xs (answers-call answered_by message answers)) (peer-same ends B w xs)
        (peer-took tables _ _ _ _ _ _ _ _ _ (x Initiator) body.calls.made answers (h.counted (λ c. ((x Responder).young (connect-early two ledger j.speaks Responder message left body answers shown e r c)).1)) h.rejects)

    -- one step that neither calls nor takes
    step-told : (role : Role) (w : World) (two later : Two) (ledger : Ledger) (exchanges after : Exchanges) (x : Step) → TakesNone x → all_calls invoked_by (x ∷ []) ≡ [] → all_calls answered_by (x ∷ []) ≡ []
        → (r : Role) → Facts tables (made r w) (made (other r) w) (given (other r) w) (seen_at ends (side_of r) w) (both_ends.body_at r later) (both_ends.body_at (other r) later).calls.made (coming_to r later) (exchange_of r after).asked (exchange_of r after).shown
        → Told r (record { side = side_of role; step = x } ∷ w) later after
    step-told Initiator w two later ledger exchanges after x n e f Initiator h =
        changed tables _ _ _ _ _ _ _ _ _ _ _ _ _ (calls-same invoked_by Initiator w (x ∷ []) e) (peer-calls invoked_by A w (x ∷ [])) (peer-calls answered_by A w (x ∷ [])) (own-same ends A w (x ∷ []) (n, tt)) h
    step-told Initiator w two later ledger exchanges after x n e f Responder h =
        changed tables _ _ _ _ _ _ _ _ _ _ _ _ _ (peer-calls invoked_by A w (x ∷ [])) (calls-same invoked_by Initiator w (x ∷ []) e) (calls-same answered_by Initiator w (x ∷ []) f) (peer-same ends A w (x ∷ [])) h
    step-told Responder w two later ledger exchanges after x n e f Responder h =
        changed tables _ _ _ _ _ _ _ _ _ _ _ _ _ (calls-same invoked_by Responder w (x ∷ []) e) (peer-calls invoked_by B w (x ∷ [])) (peer-calls answered_by B w (x ∷ [])) (own-same ends B w (x ∷ []) (n, tt)) h
    step-told Responder w two later ledger exchanges after x n e f Initiator h =
        changed tables _ _ _ _ _ _ _ _ _ _ _ _ _ (peer-calls invoked_by B w (x ∷ [])) (calls-same invoked_by Responder w (x ∷ []) e) (calls-same answered_by Responder w (x ∷ []) f) (peer-same ends B w (x ∷ [])) h

    passed-told : (role : Role) (w : World) (two : Two) (ledger : Ledger) (exchanges : Exchanges) (message : Message) (left : List Message) → coming_to role two ≡ message ∷ left → BothTold w two ledger exchanges
        → (r : Role) → Told r (record { side = side_of role; step = passed } ∷ w) (stepped role (both_ends.body_at role two) left [] two) (on_exchange role (meets message) stays exchanges)
    passed-told Initiator w two ledger exchanges message left e x Initiator = step-told Initiator w two (stepped Initiator two.a left [] two) ledger exchanges (on_exchange Initiator (meets message) stays exchanges) passed tt refl refl Initiator (own-passed tables _ _ _ _ _ _ _ _ _ (x Initiator) message left e)
    passed-told Initiator w two ledger exchanges message left e x Responder = step-told Initiator w two (stepped Initiator two.a left [] two) ledger exchanges (on_exchange Initiator (meets message) stays exchanges) passed tt refl refl Responder (peer-took tables _ _ _ _ _ _ _ _ _ (x Responder) two.a.calls.made [] refl tt)
    passed-told Responder w two ledger exchanges message left e x Responder = step-told Responder w two (stepped Responder two.b left [] two) ledger exchanges (on_exchange Responder (meets message) stays exchanges) passed tt refl refl Responder (own-passed tables _ _ _ _ _ _ _ _ _ (x Responder) message left e)
    passed-told Responder w two ledger exchanges message left e x Initiator = step-told Responder w two (stepped Responder two.b left [] two) ledger exchanges (on_exchange Responder (meets message) stays exchanges) passed tt refl refl Initiator (peer-took tables _ _ _ _ _ _ _ _ _ (x Initiator) two.b.calls.made [] refl tt)

    quiet-takes : (x : Step) → IsQuiet x → TakesNone x
    quiet-takes (called call (Err refusal)) q = tt
    quiet-takes (fed octets) q = tt
    quiet-takes feed_end q = tt
    quiet-takes (gave n) q = tt
    quiet-takes _ q = absurd q

    broke-told : (w : World) (two : Two) (ledger : Ledger) (exchanges : Exchanges) → BothTold w two ledger exchanges → (r : Role) → Told r (record { side = B; step = broke } ∷ record { side = A; step = broke } ∷ w) (both_broke common two) (on_exchange Initiator loses loses exchanges)
    broke-told w two ledger exchanges x r =
        step-told Responder (record { side = A; step = broke } ∷ w) two (both_broke common two) ledger exchanges (on_exchange Initiator loses loses exchanges) broke tt refl refl r
        (step-told Initiator w two (both_broke common two) ledger exchanges (on_exchange Initiator loses loses exchanges) broke tt refl refl r (here r))
      where
        here : (r : Role) → Facts tables (made r w) (made (other r) w) (given (other r) w) (seen_at ends (side_of r) w) (both_ends.body_at r (both_broke common two)) (both_ends.body_at (other r) (both_broke common two)).calls.made (coming_to r (both_broke common two)) (exchange_of r (on_exchange Initiator loses loses exchanges)).asked (exchange_of r (on_exchange Initiator loses loses exchanges)).shown
        here Initiator = own-broke tables _ _ _ _ _ _ _ _ _ (x Initiator) (after_broke (base Initiator) two.a) (after_broke (base Responder) two.b).calls.made refl (broke-early tables spellings a b Initiator two.a)
        here Responder = own-broke tables _ _ _ _ _ _ _ _ _ (x Responder) (after_broke (base Responder) two.b) (after_broke (base Initiator) two.a).calls.made refl (broke-early tables spellings a b Responder two.b)

    first-told : (r : Role) → Told r [] (two_new common) (record { a = nothing_exchanged; b = nothing_exchanged })
    first-told Initiator = record { coming_so = tt; noted = tt; asked_so = tt; same = refl; young = λ e. (refl, refl); good = record { fresh = tt; given = tt } }
    first-told Responder = record { coming_so = tt; noted = tt; asked_so = tt; same = refl; young = λ e. (refl, refl); good = record { fresh = tt; given = tt } }

    pub told-keeps : Keeps common BothTold
    told-keeps = record {
      begins = first-told;
      calls = λ role w two ledger exchanges call answer j c h. called-told role w two ledger exchanges call answer (end_for common role w).body (j.bodies role) c h;
      acts = λ role w two ledger exchanges own j c h. let none : None ≡ Some own = sym (no-own free tables spellings a b role (end_for common role w).body) ∙ c in absurd cc;
      takes = λ role w two ledger exchanges message left body answers shown j e r h. taken-told role w two ledger exchanges message left body answers shown j e r h;
      passes = λ role w two ledger exchanges message left j e r h. passed-told role w two ledger exchanges message left e h;
      quiet = λ role w two ledger exchanges x q h r. step-told role w two two ledger exchanges exchanges x (quiet-takes x q) (quiet-invokes x q) (quiet-answers x q) r (h r);
      breaks = λ w two ledger exchanges j h. broke-told w two ledger exchanges h;
    }

    -- ---- whole runs

    module _ (m : IsMeant common) (w : World) (all : List Event) (told : List Entry) (typed : AreEvents all) (r : Runs ends [] all told w) where
      role-tells : (role : Role) (two : Two) (ledger : Ledger) (exchanges : Exchanges) → ReachedWithExchanges common two ledger exchanges → Told role w two exchanges
          → TellsRightly tables (made role w) (made (other role) w) (given (other role) w) (flat_map invocation_in (seen_at ends (side_of role) w)) (flat_map outcome_in (seen_at ends (side_of role) w))
      role-tells role two ledger exchanges d x =
          tells-rightly tables (made role w) (made (other role) w) (given (other role) w) (exchange_of role exchanges).asked (seen_at ends (side_of role) w) (exchange_of role exchanges).shown x.same x.asked_so x.noted
          (fresh-front (invoked_ids (exchange_of role exchanges).shown) (all_invokes (coming_to role two)) x.good.fresh) (once common two ledger exchanges d role).distinct (links-are-allowed common two ledger exchanges d role)

      by-side : Joined common BothTold w → (side : Side) → ToldRightly tables ends w side
      by-side s A = role-tells Initiator s.two s.ledger s.exchanges s.joint.reached_exchanges (s.extra Initiator)
      by-side s B = role-tells Responder s.two s.ledger s.exchanges s.joint.reached_exchanges (s.extra Responder)

      pub tell-rightly : OneOutcome tables told
      tell-rightly = one-outcome tables ends w all told r (each-carry-shows common m w all told typed r) (by-side (from-start common m BothTold told-keeps w all told typed r))
