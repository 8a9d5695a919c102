-- In reliable mode what an end is told of invocations and outcomes is what the other end handed in, and once at most.
use Rattle.std.proofs.Common.{◌≡◌, refl, true, false, ◌∙◌, sym, ap, subst, arith, ℕ, suc, ◌≤◌, ◌<◌, List, [], ◌∷◌, ◌++◌, map, length, ◌⊎◌, inl, inr, Ok}
use Rattle.std.specs.Prelude.{ℤ, Bool, ◌||◌, Option, Some, Result, nat_eq, if◌then◌else◌, flat_map}
use Rattle.std.proofs.lemmas.Bool.Decides.{nat_tests}
use Rattle.std.proofs.lemmas.List.{append-nil, append_assoc}
use Rattle.osi_base.specs.declared.layer_words.Side.{Side}
use Rattle.osi_base.specs.declared.layer_words.Side.TheVariants.{A, B}
use Rattle.osi_base.specs.declared.session_word.SessionConnect.{SessionConnect}
use Rattle.osi_base.specs.declared.presentation_word.PresentationConnect.{PresentationConnect}
use Rattle.end_rules.specs.Encodings.{next_queued, item_of, IsOf, Encoding, IsNewest}
use Rattle.stub_tables.specs.declared.tables.Tables.{Tables}
use Rattle.stub_tables.specs.declared.apdu.Apdu.{Apdu}
use Rattle.dialogue.specs.declared.config.Config.{Config}
use Rattle.dialogue.specs.declared.config.Mode.TheVariants.{Reliable}
use Rattle.dialogue.specs.declared.call.Call.{Call}
use Rattle.dialogue.specs.declared.event.Event.{Event}
use Rattle.dialogue.specs.declared.event.Entry.{Entry}
use Rattle.dialogue.specs.declared.indication.Indication.{Indication}
use Rattle.end_rules.specs.Base.{Base, Spellings, Fault, Item, Arrived, Whole}
use Rattle.end_rules.specs.Messages.{Message, Transport, Session, Word, DataValue, OfAssociation, OfData, OfMarks, OfActivities, Connect, Values, AlterContext, AlterContextAck, End}
use Rattle.end_rules.specs.State.{Body, Queued}
use Rattle.end_rules.specs.Connecting.{is_refused, recovers_in, set_for, agreed_for, begun_with, joined_with, refused_connect}
use Rattle.end_rules.specs.Units.{selected_with, manages_with}
use Rattle.end_rules.specs.Hearing.{hear, head_of_apdu, with_reject, take_values}
use Rattle.end_rules.specs.Calling.{can_call}
use Rattle.end_rules.specs.Requesting.{due_of, begun}
use Rattle.end_rules.specs.ByItself.{OwnAct, SendsNow, EncodesOn, next_own}
use Rattle.end_rules.specs.TakesActivities.{arrived_now, values_arrived, received}
use Rattle.end_rules.specs.Reacting.{Takes, react, after_word}
use Rattle.end_rules.specs.History.{Step, called, sent, took, answered, passed, broke, after_step, step_of, after_broke}
use Rattle.end_rules.specs.World.{World, Ends}
use Rattle.agreement.specs.Sets.{Role, other}
use Rattle.agreement.specs.Sets.Role.{Initiator, Responder}
use Rattle.agreement.specs.Laws.{AreFalling}
use Rattle.end_model.specs.Seen.{Free}
use Rattle.end_model.specs.Acting.{apdus_of}
use Rattle.end_model.specs.Requests.{after_called}
use Rattle.end_model.specs.BothEnds as both_ends
use Rattle.end_model.specs.BothEnds.{Common, base_at, Two, coming_to, stepped, two_new, both_broke}
use Rattle.end_model.specs.Sharing.{side_of}
use Rattle.end_model.proofs.OwnActs.{leading}
use Rattle.reliable_model.specs.Ledgers as ledgers
use Rattle.reliable_model.specs.Ledgers.{Ledger, TransferLog, TransferLogs, ReachedWithLedger, transfer_log_of, on_transfer_log, started_by, items_by, arrived_by, own_messages, after_own, after_sending, after_taking, first_ledger}
use Rattle.reliable_model.specs.Transfers as transfers
use Rattle.reliable_model.specs.Transfers.{ArrivesWhole}
use Rattle.reliable_model.specs.ReliableEnds.{reliable_common}
use Rattle.reliable_model.proofs.Machine as machine
use Rattle.reliable_model.proofs.OwnRows.{Kind, StartsNext, EncodesIt, MarksIt, EndsIt, GivesPart, kind}
use Rattle.reliable_model.proofs.OnWay.{took-word, took-unit}
use Rattle.outcome_laws.specs.Exchanges.{Asked, asked_by, Exchanges, ReachedWithExchanges, exchange_of, on_exchange, calls_so, gets, stays, takes_so, meets, loses, nothing_exchanged, still_after}
use Rattle.outcome_laws.proofs.Once.{keeps, still-keeps, once}
use Rattle.outcome_laws.proofs.Links.{links-are-allowed}
use Rattle.outcome_laws.proofs.Transferred.{shown_of, shows-so}
use Rattle.run_laws.specs.Outcomes.{Invocation, ToldOutcome, invoked_by, answered_by, invocation_in, outcome_in, OneOutcome}
use Rattle.association_worlds.specs.Laws.{IsMeant}
use Rattle.association_runs.specs.Worlds.{stepping, Runs}
use Rattle.association_runs.specs.Laws.{AreEvents}
use Rattle.association_runs.specs.Sides.{ends_for}
use Rattle.association_runs.proofs.Histories.{end_for}
use Rattle.association_runs.proofs.Keeps.{Keeps}
use Rattle.association_runs.proofs.Joint.{Joint}
use Rattle.association_runs.proofs.Joined.{Joined}
use Rattle.association_runs.proofs.Carried.{from-start}
use Rattle.association_runs.proofs.Shown.{each-carry-shows}
use Rattle.association_runs.proofs.Transcribed.{calls_at, all_calls, peer-calls, answers-call, seen_at}
use Rattle.association_runs.proofs.Noted.{AreMade, AreNoted, noted-append, heard_values, message-noted, HoldOurs, association-plain, settled-plain, marks-plain, transport-plain, activity-plain, reject-plain, ArePlain}
use Rattle.association_runs.proofs.Telling.{notes_of, invoked_ids, ids-append, plain-ids, AreFresh, TellsRightly, ToldRightly, tells-rightly, one-outcome}
use Rattle.run_lemmas.proofs.Numbers.{apdu_invokes, IsGood, fresh-front, fresh-snoc}
use Rattle.run_lemmas.proofs.Handing.{noted-own, noted-peer, IsOneOf, hear-ids}
use Rattle.run_lemmas.proofs.Calling.{calls-more, calls-same, quiet-invokes, quiet-answers}
use Rattle.codec_runs.proofs.ReliableEarly as early
use Rattle.codec_runs.proofs.ReliableWhole.{KeepsAll, anew-same, first-half, second-half}
use Rattle.codec_runs.proofs.ReliableTold as notes
use Rattle.codec_runs.proofs.ReliableQueued.{QueueOurs, queue-on, queue-append, queue_invokes, invokes-append, rejects-ours, rejects-invoke, CallQueues, call-queues, Queues, unit-queues, word-queues}
use Rattle.codec_runs.proofs.ReliableStarted.{started_invoke, begun-invoke, begun-ours, apdu-ours, Invokes, apdu-invokes, one-invoked, AllCome, come-later, come-more, come-append, others-come}

-- ---- what is kept of one end: what it made and gave, and what the other did; its body; the items that each started; its exchanges since its
-- association began, and the numbers of the transfers that arrived

abbrev pub newest_of : List ℕ → ℕ
newest_of [] = 0
newest_of (n ∷ ns) = n

pub record Facts (tables : Tables) (own made : List Invocation) (mine given : List ToldOutcome) (body : Body) (started theirs : List Queued) (asked : List Asked) (shown : List Indication) (arrived : List ℕ) : Type 0 where
  pub queue_so : QueueOurs tables own mine body.sending.queue
  pub started_so : QueueOurs tables own mine started
  pub numbers : IsGood body.calls.made (started_invoke started ++ queue_invokes body.sending.queue)
  pub asked_so : AreMade tables own asked
  pub noted : AreNoted tables own made given shown
  pub come : AllCome theirs (newest_of arrived) (invoked_ids shown)
  pub fresh : AreFresh (invoked_ids shown)

-- an invocation that is told, of a transfer that arrived
pub record OneTold (theirs : List Queued) (arrived later : List ℕ) (now : List Indication) : Type 0 where
  pub id : ℤ
  pub ids : invoked_ids now ≡ id ∷ []
  pub number : ℕ
  pub newer : newest_of arrived < number
  pub low : number ≤ newest_of later
  pub is_its : Invokes id (item_of number theirs)

-- what a taking makes of the queue: it adds rejects, or an association begins where nothing was started
abbrev pub QueueTook : Body → Body → List Queued → Type 0
QueueTook body later started = Queues body later ⊎ ((later.sending.queue ≡ []) × (later.calls.made ≡ 0) × (started ≡ []))

module _ (tables : Tables) (own made : List Invocation) (mine given : List ToldOutcome) (body : Body) (started theirs : List Queued) (asked : List Asked) (shown : List Indication) (arrived : List ℕ) (x : Facts tables own made mine given body started theirs asked shown arrived) where
  own-called : (base : Base) (call : Call) (answer : Option ℤ) → base.tables ≡ tables → CallQueues base body call answer →
      Facts tables (own ++ invoked_by call (Ok answer)) made (mine ++ answered_by call (Ok answer)) given (after_called Reliable base body call answer) started theirs (asked_by call answer ++ asked) shown arrived
  own-called base call answer t h =
      let inv : List Invocation = invoked_by call (Ok answer) in
      let ans : List ToldOutcome = answered_by call (Ok answer) in
      let count : ℕ = (after_called Reliable base body call answer).calls.made in
      record {
        queue_so =
            subst (QueueOurs tables (own ++ inv) (mine ++ ans)) (sym h.queue)
            (queue-append tables (own ++ inv) (mine ++ ans) body.sending.queue h.more (queue-on tables own inv mine ans body.sending.queue x.queue_so) (subst (λ (s : Tables). QueueOurs s (own ++ inv) (mine ++ ans) h.more) t (h.ours own mine)));
        started_so = queue-on tables own inv mine ans started x.started_so;
        numbers =
            subst (λ (l : List Queued). IsGood count (started_invoke started ++ queue_invokes l)) (sym h.queue)
            (subst (λ (l : List ℤ). IsGood count (started_invoke started ++ l)) (sym (invokes-append body.sending.queue h.more))
            (subst (IsGood count) (append_assoc (started_invoke started) (queue_invokes body.sending.queue) (queue_invokes h.more)) (h.numbers (started_invoke started ++ queue_invokes body.sending.queue) x.numbers)));
        asked_so = subst (λ (s : Tables). AreMade s (own ++ inv) (asked_by call answer ++ asked)) t (h.asks own asked (subst (λ (s : Tables). AreMade s own asked) (sym t) x.asked_so));
        noted = noted-own tables own inv made given shown x.noted;
        come = x.come;
        fresh = x.fresh;
      }

  peer-called : (inv : List Invocation) (ans : List ToldOutcome) → Facts tables own (made ++ inv) mine (given ++ ans) body started theirs asked shown arrived
  peer-called inv ans = record { queue_so = x.queue_so; started_so = x.started_so; numbers = x.numbers; asked_so = x.asked_so; noted = noted-peer tables own made inv given ans shown x.noted; come = x.come; fresh = x.fresh }

  own-same : (later : Body) → later.sending.queue ≡ body.sending.queue → later.calls.made ≡ body.calls.made → Facts tables own made mine given later started theirs asked shown arrived
  own-same later q m = record {
    queue_so = subst (QueueOurs tables own mine) (sym q) x.queue_so;
    started_so = x.started_so;
    numbers =
        subst (λ (l : List Queued). IsGood later.calls.made (started_invoke started ++ queue_invokes l)) (sym q)
        (subst (λ (k : ℕ). IsGood k (started_invoke started ++ queue_invokes body.sending.queue)) (sym m) x.numbers);
    asked_so = x.asked_so;
    noted = x.noted;
    come = x.come;
    fresh = x.fresh;
  }

  -- the next item is started
  own-started : (later : Body) → later.sending.queue ≡ (begun body.sending).queue → later.calls.made ≡ body.calls.made → Facts tables own made mine given later (next_queued body.sending.queue ++ started) theirs asked shown arrived
  own-started later q m =
      let s = begun-ours tables own mine body.sending started x.queue_so x.started_so in
      record {
        queue_so = subst (QueueOurs tables own mine) (sym q) s.0;
        started_so = s.1;
        numbers =
            subst (λ (l : List Queued). IsGood later.calls.made (started_invoke (next_queued body.sending.queue ++ started) ++ queue_invokes l)) (sym q)
            (subst (IsGood later.calls.made) (sym (begun-invoke body.sending started))
            (subst (λ (k : ℕ). IsGood k (started_invoke started ++ queue_invokes body.sending.queue)) (sym m) x.numbers));
        asked_so = x.asked_so;
        noted = x.noted;
        come = x.come;
        fresh = x.fresh;
      }

  peer-started : (more : List Queued) → Facts tables own made mine given body started (more ++ theirs) asked shown arrived
  peer-started more = record {
    queue_so = x.queue_so;
    started_so = x.started_so;
    numbers = x.numbers;
    asked_so = x.asked_so;
    noted = x.noted;
    come = come-more more theirs (newest_of arrived) (invoked_ids shown) x.come;
    fresh = x.fresh;
  }

  -- what the end does by itself
  own-acted : (base : Base) (own_act : OwnAct) → Kind body own_act → Facts tables own made mine given (after_step (record base { mode = Reliable }) body (step_of own_act)) (started_by body own_act ++ started) theirs asked shown arrived
  own-acted base own_act (StartsNext item items e q is) = subst (λ (o : OwnAct). Facts tables own made mine given (after_step (record base { mode = Reliable }) body (step_of o)) (started_by body o ++ started) theirs asked shown arrived) (sym is) (own-started _ refl refl)
  own-acted base own_act (EncodesIt t context e d is) = subst (λ (o : OwnAct). Facts tables own made mine given (after_step (record base { mode = Reliable }) body (step_of o)) (started_by body o ++ started) theirs asked shown arrived) (sym is) (own-same _ refl refl)
  own-acted base own_act (MarksIt t e s ends more is) = subst (λ (o : OwnAct). Facts tables own made mine given (after_step (record base { mode = Reliable }) body (step_of o)) (started_by body o ++ started) theirs asked shown arrived) (sym is) (own-same _ refl refl)
  own-acted base own_act (EndsIt t e s none is) = subst (λ (o : OwnAct). Facts tables own made mine given (after_step (record base { mode = Reliable }) body (step_of o)) (started_by body o ++ started) theirs asked shown arrived) (sym is) (own-same _ refl refl)
  own-acted base own_act (GivesPart t e s more is) = subst (λ (o : OwnAct). Facts tables own made mine given (after_step (record base { mode = Reliable }) body (step_of o)) (started_by body o ++ started) theirs asked shown arrived) (sym is) (own-same _ refl refl)

  -- it took a message, and was shown this
  still : {X : Type 0} (P : List X → Type 0) (base : Base) (message : Message) (xs : List X) → P xs → P [] → P (still_after base body message xs)
  still P base message xs h n = subst P (sym (still-keeps base body message xs)) (go (keeps base body message))
    where
      go : (k : Bool) → P (if k then xs else [])
      go true = h
      go false = n

  took-queue : (later : Body) → QueueTook body later started → QueueOurs tables own mine later.sending.queue
  took-queue later (inl q) = subst (QueueOurs tables own mine) (sym q.queue) (queue-append tables own mine body.sending.queue q.more x.queue_so (rejects-ours tables own mine q.more q.rejects))
  took-queue later (inr n) = subst (QueueOurs tables own mine) (sym n.0) tt

  took-numbers : (later : Body) → QueueTook body later started → IsGood later.calls.made (started_invoke started ++ queue_invokes later.sending.queue)
  took-numbers later (inl q) =
      subst (λ (k : ℕ). IsGood k (started_invoke started ++ queue_invokes later.sending.queue)) (sym q.made)
      (subst (λ (l : List Queued). IsGood body.calls.made (started_invoke started ++ queue_invokes l)) (sym q.queue)
      (subst (λ (l : List ℤ). IsGood body.calls.made (started_invoke started ++ l)) (sym (invokes-append body.sending.queue q.more ∙ ap (λ (l : List ℤ). queue_invokes body.sending.queue ++ l) (rejects-invoke q.more q.rejects) ∙ append-nil (queue_invokes body.sending.queue))) x.numbers))
  took-numbers later (inr n) =
      subst (λ (l : List Queued). IsGood later.calls.made (started_invoke l ++ queue_invokes later.sending.queue)) (sym n.2)
      (subst (λ (l : List Queued). IsGood later.calls.made (queue_invokes l)) (sym n.0) (record { fresh = tt; given = tt }))

  own-took : (base : Base) (message : Message) (later : Body) (now : List Indication) (numbers_now : List ℕ) → QueueTook body later started → AreNoted tables own made given now → newest_of arrived ≤ newest_of numbers_now → (invoked_ids now ≡ []) ⊎ OneTold theirs arrived numbers_now now → AreFresh (started_invoke theirs) →
      Facts tables own made mine given later started theirs (still_after base body message asked) (still_after base body message shown ++ now) numbers_now
  own-took base message later now numbers_now q noted_now more told f = record {
    queue_so = took-queue later q;
    started_so = x.started_so;
    numbers = took-numbers later q;
    asked_so = still (AreMade tables own) base message asked x.asked_so tt;
    noted = noted-append tables own made given (still_after base body message shown) now (still (AreNoted tables own made given) base message shown x.noted tt) noted_now;
    come = subst (AllCome theirs (newest_of numbers_now)) (sym (ids-append (still_after base body message shown) now)) (come-now told);
    fresh = subst AreFresh (sym (ids-append (still_after base body message shown) now)) (fresh-now told);
  }
    where
      was-come : AllCome theirs (newest_of arrived) (invoked_ids (still_after base body message shown))
      was-come = still (λ (l : List Indication). AllCome theirs (newest_of arrived) (invoked_ids l)) base message shown x.come tt

      was-fresh : AreFresh (invoked_ids (still_after base body message shown))
      was-fresh = still (λ (l : List Indication). AreFresh (invoked_ids l)) base message shown x.fresh tt

      later-come : AllCome theirs (newest_of numbers_now) (invoked_ids (still_after base body message shown))
      later-come = come-later theirs (newest_of arrived) (newest_of numbers_now) (invoked_ids (still_after base body message shown)) more was-come

      come-now : (invoked_ids now ≡ []) ⊎ OneTold theirs arrived numbers_now now → AllCome theirs (newest_of numbers_now) (invoked_ids (still_after base body message shown) ++ invoked_ids now)
      come-now (inl e) = come-append theirs (newest_of numbers_now) (invoked_ids (still_after base body message shown)) (invoked_ids now) later-come (subst (AllCome theirs (newest_of numbers_now)) (sym e) tt)
      come-now (inr o) =
          come-append theirs (newest_of numbers_now) (invoked_ids (still_after base body message shown)) (invoked_ids now) later-come
          (subst (AllCome theirs (newest_of numbers_now)) (sym o.ids) (record { number = o.number; low = o.low; is_its = o.is_its }, tt))

      fresh-now : (invoked_ids now ≡ []) ⊎ OneTold theirs arrived numbers_now now → AreFresh (invoked_ids (still_after base body message shown) ++ invoked_ids now)
      fresh-now (inl e) = subst (λ (l : List ℤ). AreFresh (invoked_ids (still_after base body message shown) ++ l)) (sym e) (subst AreFresh (sym (append-nil (invoked_ids (still_after base body message shown)))) was-fresh)
      fresh-now (inr o) =
          subst (λ (l : List ℤ). AreFresh (invoked_ids (still_after base body message shown) ++ l)) (sym o.ids)
          (fresh-snoc (invoked_ids (still_after base body message shown)) o.id was-fresh (others-come theirs (newest_of arrived) o.number o.id (invoked_ids (still_after base body message shown)) f was-come o.newer o.is_its))

-- what is made and given is this
changed : (tables : Tables) (own own_now made made_now : List Invocation) (mine mine_now given given_now : List ToldOutcome) (body : Body) (started theirs : List Queued) (asked : List Asked) (shown : List Indication) (arrived : List ℕ) → own_now ≡ own → made_now ≡ made → mine_now ≡ mine → given_now ≡ given → Facts tables own made mine given body started theirs asked shown arrived → Facts tables own_now made_now mine_now given_now body started theirs asked shown arrived
changed tables own own_now made made_now mine mine_now given given_now body started theirs asked shown arrived e f g h x =
    subst (λ (l : List Invocation). Facts tables l made_now mine_now given_now body started theirs asked shown arrived) (sym e)
    (subst (λ (l : List Invocation). Facts tables own l mine_now given_now body started theirs asked shown arrived) (sym f)
    (subst (λ (l : List ToldOutcome). Facts tables own made l given_now body started theirs asked shown arrived) (sym g)
    (subst (λ (l : List ToldOutcome). Facts tables own made mine l body started theirs asked shown arrived) (sym h) x)))

-- what holds of started items and arrivals holds of these
moved : (tables : Tables) (own made : List Invocation) (mine given : List ToldOutcome) (body : Body) (started started_now theirs theirs_now : List Queued) (asked : List Asked) (shown : List Indication) (arrived : List ℕ) → started_now ≡ started → theirs_now ≡ theirs → Facts tables own made mine given body started theirs asked shown arrived → Facts tables own made mine given body started_now theirs_now asked shown arrived
moved tables own made mine given body started started_now theirs theirs_now asked shown arrived e f x =
    subst (λ (l : List Queued). Facts tables own made mine given body l theirs_now asked shown arrived) (sym e) (subst (λ (l : List Queued). Facts tables own made mine given body started l asked shown arrived) (sym f) x)

-- ---- numbers that rise

-- no item has the number 0
from-one : (i : ℤ) (k : ℕ) (items : List Queued) → Invokes i (item_of k items) → 1 ≤ k
from-one i k [] h = absurd h
from-one i k (item ∷ items) h = go (nat_eq k (suc (length items))) refl (λ x. from-one i k items x) h
  where
    same : (m n : ℕ) → nat_eq m (suc n) ≡ true → 1 ≤ m
    same m n e = grind (arith, nat_tests)

    go : (b : Bool) → nat_eq k (suc (length items)) ≡ b → (Invokes i (item_of k items) → 1 ≤ k) → Invokes i (if b then Some item else item_of k items) → 1 ≤ k
    go true e low h = same k (length items) e
    go false e low h = low h

newer-so : (last : ℕ) (arrived : List ℕ) → AreFalling (last ∷ arrived) → 1 ≤ last → newest_of arrived < last
newer-so last [] h low = omega arith
newer-so last (n ∷ ns) h low = h.0

no-older : (last : ℕ) (arrived : List ℕ) → AreFalling (last ∷ arrived) → newest_of arrived ≤ last
no-older last [] h = omega arith
no-older last (n ∷ ns) h = let l : n < last = h.0 in omega arith

own-log : (role : Role) (f : TransferLog → TransferLog) (transfer_logs : TransferLogs) → transfer_log_of role (on_transfer_log role f transfer_logs) ≡ f (transfer_log_of role transfer_logs)
own-log Initiator f transfer_logs = refl
own-log Responder f transfer_logs = refl

-- ---- two ends

module _ (free : Free) (tables : Tables) (spellings : Spellings) (a b : Config) where
  abbrev common : Common
  common = reliable_common tables spellings a b

  abbrev base : Role → Base
  base role = base_at role common

  abbrev ends : Ends
  ends = ends_for common

  abbrev pub made : Role → World → List Invocation
  made role w = calls_at invoked_by (side_of role) w

  abbrev pub given : Role → World → List ToldOutcome
  given role w = calls_at answered_by (side_of role) w

  abbrev pub Told : Role → World → Two → Ledger → Exchanges → Type 0
  Told role w two ledger exchanges =
      Facts tables (made role w) (made (other role) w) (given role w) (given (other role) w) (both_ends.body_at role two) (transfer_log_of role ledger.transfer_logs).started (transfer_log_of (other role) ledger.transfer_logs).started (exchange_of role exchanges).asked (exchange_of role exchanges).shown (transfer_log_of role ledger.transfer_logs).arrived

  abbrev pub BothTold : World → Two → Ledger → Exchanges → Type 0
  BothTold w two ledger exchanges = (r : Role) → Told r w two ledger exchanges

  -- ---- what steps add to what was made and given

  act-call : {X : Type 0} (tells : _ → _ → List X) (own : OwnAct) → all_calls tells (step_of own ∷ []) ≡ []
  act-call tells (SendsNow message) = refl
  act-call tells (EncodesOn context) = refl

  -- ---- calls

  called-told : (role : Role) (w : World) (two : Two) (ledger : Ledger) (exchanges : Exchanges) (call : Call) (answer : Option ℤ) (y : Body) → y ≡ both_ends.body_at role two → can_call (base role) y call ≡ Ok answer → BothTold w two ledger exchanges
      → BothTold (stepping (side_of role) w (called call (Ok answer) ∷ map sent (due_of (base role) y call (Ok answer)))) (stepped role (after_called Reliable (base role) y call answer) (coming_to role two) (due_of (base role) y call (Ok answer)) two)
      (after_sending common role (due_of (base role) y call (Ok answer)) ledger)
      (on_exchange role (calls_so (apdus_of (base role) y call answer) (asked_by call answer)) (gets (due_of (base role) y call (Ok answer))) exchanges)
  called-told role w two ledger exchanges call answer y e c x =
      subst (λ (z : Body). can_call (base role) z call ≡ Ok answer → BothTold (stepping (side_of role) w (called call (Ok answer) ∷ map sent (due_of (base role) z call (Ok answer)))) (stepped role (after_called Reliable (base role) z call answer) (coming_to role two) (due_of (base role) z call (Ok answer)) two)
      (after_sending common role (due_of (base role) z call (Ok answer)) ledger)
      (on_exchange role (calls_so (apdus_of (base role) z call answer) (asked_by call answer)) (gets (due_of (base role) z call (Ok answer))) exchanges)) (sym e) (λ c r. here role r c) c
    where
      here : (role r : Role) → can_call (base role) (both_ends.body_at role two) call ≡ Ok answer → Told r (stepping (side_of role) w (called call (Ok answer) ∷ map sent (due_of (base role) (both_ends.body_at role two) call (Ok answer)))) (stepped role (after_called Reliable (base role) (both_ends.body_at role two) call answer) (coming_to role two) (due_of (base role) (both_ends.body_at role two) call (Ok answer)) two)
          (after_sending common role (due_of (base role) (both_ends.body_at role two) call (Ok answer)) ledger)
          (on_exchange role (calls_so (apdus_of (base role) (both_ends.body_at role two) call answer) (asked_by call answer)) (gets (due_of (base role) (both_ends.body_at role two) call (Ok answer))) exchanges)
      here Initiator Initiator c =
          let due : List Message = due_of (base Initiator) two.a call (Ok answer) in
          let xs : List Step = called call (Ok answer) ∷ map sent due in
          changed tables _ _ _ _ _ _ _ _ _ _ _ _ _ _ (calls-more invoked_by Initiator w call answer due) (peer-calls invoked_by A w xs) (calls-more answered_by Initiator w call answer due) (peer-calls answered_by A w xs)
          (own-called tables _ _ _ _ _ _ _ _ _ _ (x Initiator) (base Initiator) call answer refl (call-queues (base Initiator) two.a call answer c))
      here Initiator Responder c =
          let due : List Message = due_of (base Initiator) two.a call (Ok answer) in
          let xs : List Step = called call (Ok answer) ∷ map sent due in
          changed tables _ _ _ _ _ _ _ _ _ _ _ _ _ _ (peer-calls invoked_by A w xs) (calls-more invoked_by Initiator w call answer due) (peer-calls answered_by A w xs) (calls-more answered_by Initiator w call answer due)
          (peer-called tables _ _ _ _ _ _ _ _ _ _ (x Responder) (invoked_by call (Ok answer)) (answered_by call (Ok answer)))
      here Responder Responder c =
          let due : List Message = due_of (base Responder) two.b call (Ok answer) in
          let xs : List Step = called call (Ok answer) ∷ map sent due in
          changed tables _ _ _ _ _ _ _ _ _ _ _ _ _ _ (calls-more invoked_by Responder w call answer due) (peer-calls invoked_by B w xs) (calls-more answered_by Responder w call answer due) (peer-calls answered_by B w xs)
          (own-called tables _ _ _ _ _ _ _ _ _ _ (x Responder) (base Responder) call answer refl (call-queues (base Responder) two.b call answer c))
      here Responder Initiator c =
          let due : List Message = due_of (base Responder) two.b call (Ok answer) in
          let xs : List Step = called call (Ok answer) ∷ map sent due in
          changed tables _ _ _ _ _ _ _ _ _ _ _ _ _ _ (peer-calls invoked_by B w xs) (calls-more invoked_by Responder w call answer due) (peer-calls answered_by B w xs) (calls-more answered_by Responder w call answer due)
          (peer-called tables _ _ _ _ _ _ _ _ _ _ (x Initiator) (invoked_by call (Ok answer)) (answered_by call (Ok answer)))

  -- ---- what an end does by itself

  acted-told : (role : Role) (w : World) (two : Two) (ledger : Ledger) (exchanges : Exchanges) (own : OwnAct) (y : Body) → y ≡ both_ends.body_at role two → next_own (base role) y ≡ Some own → BothTold w two ledger exchanges
      → BothTold (stepping (side_of role) w (step_of own ∷ [])) (stepped role (after_step (base role) y (step_of own)) (coming_to role two) (own_messages own) two) (after_own common role (both_ends.body_at role two) own ledger) (on_exchange role stays (gets (own_messages own)) exchanges)
  acted-told role w two ledger exchanges own y e next x =
      subst (λ (z : Body). next_own (base role) z ≡ Some own → BothTold (stepping (side_of role) w (step_of own ∷ [])) (stepped role (after_step (base role) z (step_of own)) (coming_to role two) (own_messages own) two) (after_own common role (both_ends.body_at role two) own ledger) (on_exchange role stays (gets (own_messages own)) exchanges)) (sym e)
      (λ n r. here role r n) next
    where
      it : (role : Role) → next_own (base role) (both_ends.body_at role two) ≡ Some own → Kind (both_ends.body_at role two) own
      it role n = kind (base role) (both_ends.body_at role two) own (both_ends.body_at role two).sending.current refl (leading (base role) (both_ends.body_at role two) own n).next

      here : (role r : Role) → next_own (base role) (both_ends.body_at role two) ≡ Some own → Told r (stepping (side_of role) w (step_of own ∷ [])) (stepped role (after_step (base role) (both_ends.body_at role two) (step_of own)) (coming_to role two) (own_messages own) two) (after_own common role (both_ends.body_at role two) own ledger) (on_exchange role stays (gets (own_messages own)) exchanges)
      here Initiator Initiator n =
          changed tables _ _ _ _ _ _ _ _ _ _ _ _ _ _ (calls-same invoked_by Initiator w (step_of own ∷ []) (act-call invoked_by own)) (peer-calls invoked_by A w (step_of own ∷ [])) (calls-same answered_by Initiator w (step_of own ∷ []) (act-call answered_by own)) (peer-calls answered_by A w (step_of own ∷ []))
          (own-acted tables _ _ _ _ _ _ _ _ _ _ (x Initiator) (base Initiator) own (it Initiator n))
      here Initiator Responder n =
          changed tables _ _ _ _ _ _ _ _ _ _ _ _ _ _ (peer-calls invoked_by A w (step_of own ∷ [])) (calls-same invoked_by Initiator w (step_of own ∷ []) (act-call invoked_by own)) (peer-calls answered_by A w (step_of own ∷ [])) (calls-same answered_by Initiator w (step_of own ∷ []) (act-call answered_by own))
          (peer-started tables _ _ _ _ _ _ _ _ _ _ (x Responder) (started_by two.a own))
      here Responder Responder n =
          changed tables _ _ _ _ _ _ _ _ _ _ _ _ _ _ (calls-same invoked_by Responder w (step_of own ∷ []) (act-call invoked_by own)) (peer-calls invoked_by B w (step_of own ∷ [])) (calls-same answered_by Responder w (step_of own ∷ []) (act-call answered_by own)) (peer-calls answered_by B w (step_of own ∷ []))
          (own-acted tables _ _ _ _ _ _ _ _ _ _ (x Responder) (base Responder) own (it Responder n))
      here Responder Initiator n =
          changed tables _ _ _ _ _ _ _ _ _ _ _ _ _ _ (peer-calls invoked_by B w (step_of own ∷ [])) (calls-same invoked_by Responder w (step_of own ∷ []) (act-call invoked_by own)) (peer-calls answered_by B w (step_of own ∷ [])) (calls-same answered_by Responder w (step_of own ∷ []) (act-call answered_by own))
          (peer-started tables _ _ _ _ _ _ _ _ _ _ (x Initiator) (started_by two.b own))

  -- ---- takings

  -- what is presumed: neither aborts, both are kept, and transfers arrive whole, as the items that were started, and in rising numbers
  pub record Presumed : Type 0 where
    pub never : early.NeverFails free tables spellings a b
    pub kept : (two : Two) (ledger : Ledger) → ReachedWithLedger common two ledger → machine.Kept free tables spellings a b two ledger
    pub whole : (two : Two) (ledger : Ledger) → ReachedWithLedger common two ledger → (role : Role) → transfers.TakesTransferEnd common two role → ArrivesWhole common two ledger role
    pub items : (two : Two) (ledger : Ledger) → ReachedWithLedger common two ledger → (role : Role) (encoding : Encoding) → IsNewest encoding (transfer_log_of role ledger.transfer_logs).encoded → IsOf encoding.apdu (item_of encoding.activity (transfer_log_of role ledger.transfer_logs).started)
    pub falls : (two : Two) (ledger : Ledger) → ReachedWithLedger common two ledger → (role : Role) → AreFalling (transfer_log_of role ledger.transfer_logs).arrived

  module _ (p : Presumed) where
    -- an opening that is taken forgets nothing
    keeps-all : (role : Role) (two : Two) (ledger : Ledger) (left : List Message) (later : Body) (answers : List Message) (shown : List Indication) → ReachedWithLedger common two ledger → (message : Message) → coming_to role two ≡ message ∷ left → react (base role) (both_ends.body_at role two) message ≡ Takes later answers shown
        → KeepsAll (base role) (both_ends.body_at role two) (transfer_log_of role ledger.transfer_logs) (took message)
    keeps-all Initiator two ledger left later answers shown g (Session (OfAssociation (Connect session presentation values))) e r = absurd (early.no-opening free tables spellings a b two session presentation values later answers shown r)
    keeps-all Responder two ledger left later answers shown g (Session (OfAssociation (Connect session presentation values))) e r =
        go (early.opening-keeps free tables spellings a b two session presentation values left later answers shown (p.kept two ledger g) e r)
      where
        go : early.Opens free tables spellings a b two session presentation values → KeepsAll (base Responder) two.b ledger.transfer_logs.b (took (Session (OfAssociation (Connect session presentation values))))
        go (inl k) = inl k
        go (inr soon) = inr (early.nothing free tables spellings a b p.never two ledger g soon)
    keeps-all role two ledger left later answers shown g message e r = tt

    items-same : (role : Role) (body : Body) (transfer_log : TransferLog) (message : Message) → KeepsAll (base role) body transfer_log (took message) → items_by (base role) body message transfer_log.started ≡ transfer_log.started
    items-same role body transfer_log (Session (OfAssociation (Connect session presentation values))) k = anew-same (is_refused (base role) body session presentation values || recovers_in (base role) values) transfer_log.started (first-half k)
    items-same role body transfer_log message k = refl

    -- ---- the queue

    connect-queue : (body : Body) (session : SessionConnect) (presentation : PresentationConnect) (values : List DataValue) (started : List Queued) (c r : Bool) → ((c || r) ≡ true) ⊎ (started ≡ []) →
        QueueTook body (if c then refused_connect body else joined_with (base Responder) (set_for (base Responder) presentation) (selected_with Reliable session.requirements)
        (manages_with presentation.requirements (selected_with Reliable session.requirements)) (agreed_for (base Responder) values) (if r then body else begun_with (base Responder) session)) started
    connect-queue body session presentation values started true r h = inl (record { more = []; rejects = tt; queue = sym (append-nil body.sending.queue); made = refl })
    connect-queue body session presentation values started false true h = inl (record { more = []; rejects = tt; queue = sym (append-nil body.sending.queue); made = refl })
    connect-queue body session presentation values started false false (inl e) = absurd cc
    connect-queue body session presentation values started false false (inr n) = inr (refl, refl, n)

    word-queue : (role : Role) (two : Two) (ledger : Ledger) (left : List Message) (later : Body) (answers : List Message) (shown : List Indication) → (word : Word) → KeepsAll (base role) (both_ends.body_at role two) (transfer_log_of role ledger.transfer_logs) (took (Session word)) → react (base role) (both_ends.body_at role two) (Session word) ≡ Takes later answers shown
        → QueueTook (both_ends.body_at role two) (after_word (base role) (both_ends.body_at role two) word) (transfer_log_of role ledger.transfer_logs).started
    word-queue Initiator two ledger left later answers shown (OfAssociation (Connect session presentation values)) k r = absurd (early.no-opening free tables spellings a b two session presentation values later answers shown r)
    word-queue Responder two ledger left later answers shown (OfAssociation (Connect session presentation values)) k r =
        connect-queue two.b session presentation values ledger.transfer_logs.b.started (is_refused (base Responder) two.b session presentation values) (recovers_in (base Responder) values) (first-half k)
    word-queue role two ledger left later answers shown word k r = inl (word-queues (base role) (both_ends.body_at role two) word (λ c. c))

    took-so : (role : Role) (two : Two) (ledger : Ledger) (left : List Message) (later : Body) (answers : List Message) (shown : List Indication) → (message : Message) → KeepsAll (base role) (both_ends.body_at role two) (transfer_log_of role ledger.transfer_logs) (took message) → react (base role) (both_ends.body_at role two) message ≡ Takes later answers shown → QueueTook (both_ends.body_at role two) later (transfer_log_of role ledger.transfer_logs).started
    took-so role two ledger left later answers shown (Transport unit) k r =
        subst (λ (z : Body). QueueTook (both_ends.body_at role two) z (transfer_log_of role ledger.transfer_logs).started) (sym (took-unit (base role) (both_ends.body_at role two) unit later answers shown r).later_is) (inl (unit-queues (base role) (both_ends.body_at role two) unit))
    took-so role two ledger left later answers shown (Session word) k r =
        subst (λ (z : Body). QueueTook (both_ends.body_at role two) z (transfer_log_of role ledger.transfer_logs).started) (sym (took-word (base role) (both_ends.body_at role two) word later answers shown r).later_is) (word-queue role two ledger left later answers shown word k r)

    -- ---- what a transfer brings

    record Brings (role : Role) (two : Two) (ledger : Ledger) : Type 0 where
      item : Item
      arrived : arrived_now (base role) (both_ends.body_at role two) ≡ Ok (Whole item)
      is_of : IsOf item.apdu (item_of (both_ends.body_at role two).receiving.last (transfer_log_of (other role) ledger.transfer_logs).started)

    brings : (role : Role) (two : Two) (ledger : Ledger) (number : ℕ) (left : List Message) (later : Body) (answers : List Message) (shown : List Indication) → ReachedWithLedger common two ledger → coming_to role two ≡ Session (OfActivities (End number)) ∷ left → react (base role) (both_ends.body_at role two) (Session (OfActivities (End number))) ≡ Takes later answers shown → (both_ends.body_at role two).receiving.was_handed ≡ false → Brings role two ledger
    brings role two ledger number left later answers shown g e r new =
        let w = p.whole two ledger g role (record { number = number; left = left; body = later; answers = answers; shown = shown; comes = e; taken = r; is_new = new }) in
        record { item = w.item; arrived = w.arrived; is_of = p.items two ledger g (other role) _ w.encoded }

    -- what is heard is what the other end handed in
    heard-holds : (role : Role) (two : Two) (ledger : Ledger) (left : List Message) (later : Body) (answers : List Message) (shown : List Indication) (own : List Invocation) (outcomes : List ToldOutcome) → ReachedWithLedger common two ledger → QueueOurs tables own outcomes (transfer_log_of (other role) ledger.transfer_logs).started → (message : Message) → coming_to role two ≡ message ∷ left → react (base role) (both_ends.body_at role two) message ≡ Takes later answers shown
        → HoldOurs tables own outcomes (heard_values (base role) (both_ends.body_at role two) message)
    heard-holds role two ledger left later answers shown own outcomes g q (Session (OfActivities (End number))) e r = go (both_ends.body_at role two).receiving.was_handed refl
      where
        go : (h : Bool) → (both_ends.body_at role two).receiving.was_handed ≡ h → HoldOurs tables own outcomes (if h then [] else values_arrived (arrived_now (base role) (both_ends.body_at role two)))
        go true d = tt
        go false d =
            let x = brings role two ledger number left later answers shown g e r d in
            subst (λ (y : Result Arrived Fault). HoldOurs tables own outcomes (values_arrived y)) (sym x.arrived)
            (record { apdu = x.item.apdu; is_it = refl; is_ours = apdu-ours tables own outcomes (both_ends.body_at role two).receiving.last (transfer_log_of (other role) ledger.transfer_logs).started x.item.apdu q x.is_of }, tt)
    heard-holds role two ledger left later answers shown own outcomes g q (Transport unit) e r = tt
    heard-holds role two ledger left later answers shown own outcomes g q (Session (OfAssociation word)) e r = tt
    heard-holds role two ledger left later answers shown own outcomes g q (Session (OfData word)) e r = no-data word
      where
        no-data : (word : _) → HoldOurs tables own outcomes (heard_values (base role) (both_ends.body_at role two) (Session (OfData word)))
        no-data (Values values) = tt
        no-data (AlterContext add delete) = tt
        no-data (AlterContextAck answers) = tt
    heard-holds role two ledger left later answers shown own outcomes g q (Session (OfMarks word)) e r = tt
    heard-holds role two ledger left later answers shown own outcomes g q (Session (OfActivities word)) e r = tt

    -- ---- what is told of invocations

    record Hears (role : Role) (two : Two) (ledger : Ledger) (message : Message) : Type 0 where
      more : newest_of (transfer_log_of role ledger.transfer_logs).arrived ≤ newest_of (arrived_by (base role) (both_ends.body_at role two) message (transfer_log_of role ledger.transfer_logs).arrived)
      told : (invoked_ids (shown_of (base role) (both_ends.body_at role two) message) ≡ []) ⊎ OneTold (transfer_log_of (other role) ledger.transfer_logs).started (transfer_log_of role ledger.transfer_logs).arrived (arrived_by (base role) (both_ends.body_at role two) message (transfer_log_of role ledger.transfer_logs).arrived) (shown_of (base role) (both_ends.body_at role two) message)

    same-more : (n m : List ℕ) → n ≡ m → newest_of m ≤ newest_of n
    same-more n m e = subst (λ (l : List ℕ). newest_of m ≤ newest_of l) (sym e) (omega arith)

    plain-hears : (role : Role) (two : Two) (ledger : Ledger) (message : Message) → arrived_by (base role) (both_ends.body_at role two) message (transfer_log_of role ledger.transfer_logs).arrived ≡ (transfer_log_of role ledger.transfer_logs).arrived → ArePlain (shown_of (base role) (both_ends.body_at role two) message) → Hears role two ledger message
    plain-hears role two ledger message e s = record { more = same-more _ _ e; told = inl (plain-ids (shown_of (base role) (both_ends.body_at role two) message) s) }

    -- the identifiers that one value shows
    first-ids : (first second : List Indication) → ArePlain second → invoked_ids ((first ++ second) ++ []) ≡ invoked_ids first
    first-ids first second h =
        ids-append (first ++ second) [] ∙ append-nil (invoked_ids (first ++ second)) ∙ ids-append first second ∙ ap (λ (l : List ℤ). invoked_ids first ++ l) (plain-ids second h) ∙ append-nil (invoked_ids first)

    value-ids : (base : Base) (body : Body) (item : Item) → IsOneOf (invoked_ids (((hear base body.calls item.id (head_of_apdu item.apdu)).shown ++ (with_reject base (record body { calls = (hear base body.calls item.id (head_of_apdu item.apdu)).calls }) item.id (hear base body.calls item.id (head_of_apdu item.apdu)).reject).shown) ++ [])) (apdu_invokes item.apdu)
    value-ids base body item =
        let heard = hear base body.calls item.id (head_of_apdu item.apdu) in
        subst (λ (l : List ℤ). IsOneOf l (apdu_invokes item.apdu))
        (sym (first-ids heard.shown (with_reject base (record body { calls = heard.calls }) item.id heard.reject).shown (reject-plain base (record body { calls = heard.calls }) item.id heard.reject)))
        (hear-ids base body.calls item.id item.apdu)

    -- the end of a transfer, by whether its number was handed up
    abbrev Sees : List Queued → List ℕ → ℕ → Bool → List Indication → Type 0
    Sees theirs arrived last h now =
        (newest_of arrived ≤ newest_of ((if h then [] else last ∷ []) ++ arrived)) × ((invoked_ids now ≡ []) ⊎ OneTold theirs arrived ((if h then [] else last ∷ []) ++ arrived) now)

    itself : (n : ℕ) → n ≤ n
    itself n = omega arith

    one-sees : (theirs : List Queued) (arrived : List ℕ) (last : ℕ) (apdu : Apdu) (now : List Indication) → AreFalling (last ∷ arrived) → IsOf apdu (item_of last theirs) → IsOneOf (invoked_ids now) (apdu_invokes apdu) → Sees theirs arrived last false now
    one-sees theirs arrived last apdu now f i h = (no-older last arrived f, go h)
      where
        told : (invoked_ids now ≡ apdu_invokes apdu) → (apdu_invokes apdu ≡ []) ⊎ ((n : ℤ) × (apdu_invokes apdu ≡ n ∷ [])) → (invoked_ids now ≡ []) ⊎ OneTold theirs arrived (last ∷ arrived) now
        told e (inl n) = inl (e ∙ n)
        told e (inr x) =
            let its : Invokes x.0 (item_of last theirs) = apdu-invokes x.0 apdu (item_of last theirs) x.1 i in
            inr (record { id = x.0; ids = e ∙ x.1; number = last; newer = newer-so last arrived f (from-one x.0 last theirs its); low = itself last; is_its = its })

        go : IsOneOf (invoked_ids now) (apdu_invokes apdu) → (invoked_ids now ≡ []) ⊎ OneTold theirs arrived (last ∷ arrived) now
        go (inl e) = inl e
        go (inr e) = told e (one-invoked apdu)

    -- the numbers rise
    falls-so : (role : Role) (two : Two) (ledger : Ledger) (message : Message) (left : List Message) (later : Body) (answers : List Message) (shown : List Indication) → ReachedWithLedger common two ledger → coming_to role two ≡ message ∷ left → react (base role) (both_ends.body_at role two) message ≡ Takes later answers shown → AreFalling (arrived_by (base role) (both_ends.body_at role two) message (transfer_log_of role ledger.transfer_logs).arrived)
    falls-so role two ledger message left later answers shown g e r =
        subst AreFalling (ap (λ (x : TransferLog). x.arrived) (own-log role (ledgers.transfer_log_taken (base role) (both_ends.body_at role two) message) ledger.transfer_logs))
        (p.falls (stepped role later left answers two) (after_taking common role (both_ends.body_at role two) message answers ledger) (ledgers.takes two ledger role message left later answers shown g e r) role)

    end-hears : (role : Role) (two : Two) (ledger : Ledger) (number : ℕ) (left : List Message) (later : Body) (answers : List Message) (shown : List Indication) → ReachedWithLedger common two ledger → coming_to role two ≡ Session (OfActivities (End number)) ∷ left → react (base role) (both_ends.body_at role two) (Session (OfActivities (End number))) ≡ Takes later answers shown
        → Hears role two ledger (Session (OfActivities (End number)))
    end-hears role two ledger number left later answers shown g e r = let s = go (both_ends.body_at role two).receiving.was_handed refl in record { more = s.0; told = s.1 }
      where
        falls : (both_ends.body_at role two).receiving.was_handed ≡ false → AreFalling ((both_ends.body_at role two).receiving.last ∷ (transfer_log_of role ledger.transfer_logs).arrived)
        falls d = subst (λ (h : Bool). AreFalling ((if h then [] else (both_ends.body_at role two).receiving.last ∷ []) ++ (transfer_log_of role ledger.transfer_logs).arrived)) d (falls-so role two ledger (Session (OfActivities (End number))) left later answers shown g e r)

        go : (h : Bool) → (both_ends.body_at role two).receiving.was_handed ≡ h → Sees (transfer_log_of (other role) ledger.transfer_logs).started (transfer_log_of role ledger.transfer_logs).arrived (both_ends.body_at role two).receiving.last h (take_values (base role) (received (λ x. record x { was_handed = true; active = false }) (both_ends.body_at role two)) (if h then [] else values_arrived (arrived_now (base role) (both_ends.body_at role two)))).shown
        go true d = (itself (newest_of (transfer_log_of role ledger.transfer_logs).arrived), inl refl)
        go false d =
            let x = brings role two ledger number left later answers shown g e r d in
            subst (λ (y : Result Arrived Fault). Sees (transfer_log_of (other role) ledger.transfer_logs).started (transfer_log_of role ledger.transfer_logs).arrived (both_ends.body_at role two).receiving.last false (take_values (base role) (received (λ x. record x { was_handed = true; active = false }) (both_ends.body_at role two)) (values_arrived y)).shown) (sym x.arrived)
            (one-sees (transfer_log_of (other role) ledger.transfer_logs).started (transfer_log_of role ledger.transfer_logs).arrived (both_ends.body_at role two).receiving.last x.item.apdu _ (falls d) x.is_of
            (value-ids (base role) (received (λ x. record x { was_handed = true; active = false }) (both_ends.body_at role two)) x.item))

    arrived-same : (role : Role) (body : Body) (transfer_log : TransferLog) (session : SessionConnect) (presentation : PresentationConnect) (values : List DataValue) → KeepsAll (base role) body transfer_log (took (Session (OfAssociation (Connect session presentation values)))) → arrived_by (base role) body (Session (OfAssociation (Connect session presentation values))) transfer_log.arrived ≡ transfer_log.arrived
    arrived-same role body transfer_log session presentation values k = anew-same (is_refused (base role) body session presentation values || recovers_in (base role) values) transfer_log.arrived (second-half k)

    hears : (role : Role) (two : Two) (ledger : Ledger) (left : List Message) (later : Body) (answers : List Message) (shown : List Indication) → ReachedWithLedger common two ledger → (message : Message) → KeepsAll (base role) (both_ends.body_at role two) (transfer_log_of role ledger.transfer_logs) (took message) → coming_to role two ≡ message ∷ left → react (base role) (both_ends.body_at role two) message ≡ Takes later answers shown → Hears role two ledger message
    hears role two ledger left later answers shown g (Transport unit) k e r = plain-hears role two ledger (Transport unit) refl (transport-plain unit)
    hears role two ledger left later answers shown g (Session (OfAssociation (Connect session presentation values))) k e r =
        plain-hears role two ledger (Session (OfAssociation (Connect session presentation values))) (arrived-same role (both_ends.body_at role two) (transfer_log_of role ledger.transfer_logs) session presentation values k) (association-plain (base role) (both_ends.body_at role two) (Connect session presentation values))
    hears role two ledger left later answers shown g (Session (OfAssociation word)) k e r = plain-hears role two ledger (Session (OfAssociation word)) refl (association-plain (base role) (both_ends.body_at role two) word)
    hears role two ledger left later answers shown g (Session (OfData (Values values))) k e r = plain-hears role two ledger (Session (OfData (Values values))) refl tt
    hears role two ledger left later answers shown g (Session (OfData (AlterContext add delete))) k e r = plain-hears role two ledger (Session (OfData (AlterContext add delete))) refl (tt, tt)
    hears role two ledger left later answers shown g (Session (OfData (AlterContextAck results))) k e r = plain-hears role two ledger (Session (OfData (AlterContextAck results))) refl (settled-plain (both_ends.body_at role two).sets.own results)
    hears role two ledger left later answers shown g (Session (OfMarks word)) k e r = plain-hears role two ledger (Session (OfMarks word)) refl (marks-plain (base role) (both_ends.body_at role two) word)
    hears role two ledger left later answers shown g (Session (OfActivities (End number))) k e r = end-hears role two ledger number left later answers shown g e r
    hears role two ledger left later answers shown g (Session (OfActivities word)) k e r = plain-hears role two ledger (Session (OfActivities word)) refl (activity-plain (base role) (both_ends.body_at role two) word tt)

    -- ---- a taking, of the end that takes

    -- what is shown is what the other end handed in
    now-noted : (role : Role) (w : World) (two : Two) (ledger : Ledger) (exchanges : Exchanges) (message : Message) (left : List Message) (body : Body) (answers : List Message) (shown : List Indication) → Joint common w two ledger exchanges → coming_to role two ≡ message ∷ left → react (base role) (both_ends.body_at role two) message ≡ Takes body answers shown → BothTold w two ledger exchanges
        → AreNoted tables (made role w) (made (other role) w) (given (other role) w) shown
    now-noted role w two ledger exchanges message left body answers shown j e r x =
        subst (AreNoted tables (made role w) (made (other role) w) (given (other role) w)) (sym (shows-so (base role) (both_ends.body_at role two) message body answers shown r))
        (message-noted (base role) (made role w) (made (other role) w) (given (other role) w) (exchange_of role exchanges).asked (both_ends.body_at role two) message (exchange_of role exchanges).shown (x role).asked_so (once common two ledger exchanges j.reached_exchanges role)
        (heard-holds role two ledger left body answers shown (made (other role) w) (given (other role) w) j.speaks.goes (their-started role x) message e r))
      where
        their-started : (role : Role) → BothTold w two ledger exchanges → QueueOurs tables (made (other role) w) (given (other role) w) (transfer_log_of (other role) ledger.transfer_logs).started
        their-started Initiator x = (x Responder).started_so
        their-started Responder x = (x Initiator).started_so

    own-taken : (role : Role) (w : World) (two : Two) (ledger : Ledger) (exchanges : Exchanges) (message : Message) (left : List Message) (body : Body) (answers : List Message) (shown : List Indication) → Joint common w two ledger exchanges → coming_to role two ≡ message ∷ left → react (base role) (both_ends.body_at role two) message ≡ Takes body answers shown → BothTold w two ledger exchanges
        → Facts tables (made role w) (made (other role) w) (given role w) (given (other role) w) body (items_by (base role) (both_ends.body_at role two) message (transfer_log_of role ledger.transfer_logs).started) (transfer_log_of (other role) ledger.transfer_logs).started
        (still_after (base role) (both_ends.body_at role two) message (exchange_of role exchanges).asked) (still_after (base role) (both_ends.body_at role two) message (exchange_of role exchanges).shown ++ shown) (arrived_by (base role) (both_ends.body_at role two) message (transfer_log_of role ledger.transfer_logs).arrived)
    own-taken role w two ledger exchanges message left body answers shown j e r x =
        let k = keeps-all role two ledger left body answers shown j.speaks.goes message e r in
        let h = hears role two ledger left body answers shown j.speaks.goes message k e r in
        moved tables _ _ _ _ _ _ _ _ _ _ _ _ (items-same role (both_ends.body_at role two) (transfer_log_of role ledger.transfer_logs) message k) refl
        (own-took tables _ _ _ _ _ _ _ _ _ _ (x role) (base role) message body shown _ (took-so role two ledger left body answers shown message k r) (now-noted role w two ledger exchanges message left body answers shown j e r x) h.more
        (subst (λ (l : List Indication). (invoked_ids l ≡ []) ⊎ OneTold (transfer_log_of (other role) ledger.transfer_logs).started (transfer_log_of role ledger.transfer_logs).arrived (arrived_by (base role) (both_ends.body_at role two) message (transfer_log_of role ledger.transfer_logs).arrived) l) (sym (shows-so (base role) (both_ends.body_at role two) message body answers shown r)) h.told)
        (their-fresh role x))
      where
        their-fresh : (role : Role) → BothTold w two ledger exchanges → AreFresh (started_invoke (transfer_log_of (other role) ledger.transfer_logs).started)
        their-fresh Initiator x = fresh-front (started_invoke ledger.transfer_logs.b.started) (queue_invokes two.b.sending.queue) (x Responder).numbers.fresh
        their-fresh Responder x = fresh-front (started_invoke ledger.transfer_logs.a.started) (queue_invokes two.a.sending.queue) (x Initiator).numbers.fresh

    their-taken : (role : Role) (w : World) (two : Two) (ledger : Ledger) (exchanges : Exchanges) (message : Message) (left : List Message) (body : Body) (answers : List Message) (shown : List Indication) → Joint common w two ledger exchanges → coming_to role two ≡ message ∷ left → react (base role) (both_ends.body_at role two) message ≡ Takes body answers shown
        → items_by (base role) (both_ends.body_at role two) message (transfer_log_of role ledger.transfer_logs).started ≡ (transfer_log_of role ledger.transfer_logs).started
    their-taken role w two ledger exchanges message left body answers shown j e r = items-same role (both_ends.body_at role two) (transfer_log_of role ledger.transfer_logs) message (keeps-all role two ledger left body answers shown j.speaks.goes message e r)

    taken-told : (role : Role) (w : World) (two : Two) (ledger : Ledger) (exchanges : Exchanges) (message : Message) (left : List Message) (body : Body) (answers : List Message) (shown : List Indication) → Joint common w two ledger exchanges → coming_to role two ≡ message ∷ left → react (base role) (both_ends.body_at role two) message ≡ Takes body answers shown → BothTold w two ledger exchanges
        → BothTold (stepping (side_of role) w (took message ∷ map (answered message) answers)) (stepped role body left answers two) (after_taking common role (both_ends.body_at role two) message answers ledger) (on_exchange role (takes_so (base role) (both_ends.body_at role two) message shown) (gets answers) exchanges)
    taken-told Initiator w two ledger exchanges message left body answers shown j e r x Initiator =
        let xs : List Step = took message ∷ map (answered message) answers in
        changed tables _ _ _ _ _ _ _ _ _ _ _ _ _ _ (calls-same invoked_by Initiator w xs (answers-call invoked_by message answers)) (peer-calls invoked_by A w xs) (calls-same answered_by Initiator w xs (answers-call answered_by message answers)) (peer-calls answered_by A w xs)
        (own-taken Initiator w two ledger exchanges message left body answers shown j e r x)
    taken-told Initiator w two ledger exchanges message left body answers shown j e r x Responder =
        let xs : List Step = took message ∷ map (answered message) answers in
        changed tables _ _ _ _ _ _ _ _ _ _ _ _ _ _ (peer-calls invoked_by A w xs) (calls-same invoked_by Initiator w xs (answers-call invoked_by message answers)) (peer-calls answered_by A w xs) (calls-same answered_by Initiator w xs (answers-call answered_by message answers))
        (moved tables _ _ _ _ _ _ _ _ _ _ _ _ refl (their-taken Initiator w two ledger exchanges message left body answers shown j e r) (x Responder))
    taken-told Responder w two ledger exchanges message left body answers shown j e r x Responder =
        let xs : List Step = took message ∷ map (answered message) answers in
        changed tables _ _ _ _ _ _ _ _ _ _ _ _ _ _ (calls-same invoked_by Responder w xs (answers-call invoked_by message answers)) (peer-calls invoked_by B w xs) (calls-same answered_by Responder w xs (answers-call answered_by message answers)) (peer-calls answered_by B w xs)
        (own-taken Responder w two ledger exchanges message left body answers shown j e r x)
    taken-told Responder w two ledger exchanges message left body answers shown j e r x Initiator =
        let xs : List Step = took message ∷ map (answered message) answers in
        changed tables _ _ _ _ _ _ _ _ _ _ _ _ _ _ (peer-calls invoked_by B w xs) (calls-same invoked_by Responder w xs (answers-call invoked_by message answers)) (peer-calls answered_by B w xs) (calls-same answered_by Responder w xs (answers-call answered_by message answers))
        (moved tables _ _ _ _ _ _ _ _ _ _ _ _ refl (their-taken Responder w two ledger exchanges message left body answers shown j e r) (x Initiator))

    -- ---- steps that call nothing and take nothing

    step-told : (role : Role) (w : World) (two later : Two) (ledger : Ledger) (exchanges after : Exchanges) (x : Step) → all_calls invoked_by (x ∷ []) ≡ [] → all_calls answered_by (x ∷ []) ≡ []
        → (r : Role) → Facts tables (made r w) (made (other r) w) (given r w) (given (other r) w) (both_ends.body_at r later) (transfer_log_of r ledger.transfer_logs).started (transfer_log_of (other r) ledger.transfer_logs).started (exchange_of r after).asked (exchange_of r after).shown (transfer_log_of r ledger.transfer_logs).arrived
        → Told r (record { side = side_of role; step = x } ∷ w) later ledger after
    step-told Initiator w two later ledger exchanges after x e f Initiator h =
        changed tables _ _ _ _ _ _ _ _ _ _ _ _ _ _ (calls-same invoked_by Initiator w (x ∷ []) e) (peer-calls invoked_by A w (x ∷ [])) (calls-same answered_by Initiator w (x ∷ []) f) (peer-calls answered_by A w (x ∷ [])) h
    step-told Initiator w two later ledger exchanges after x e f Responder h =
        changed tables _ _ _ _ _ _ _ _ _ _ _ _ _ _ (peer-calls invoked_by A w (x ∷ [])) (calls-same invoked_by Initiator w (x ∷ []) e) (peer-calls answered_by A w (x ∷ [])) (calls-same answered_by Initiator w (x ∷ []) f) h
    step-told Responder w two later ledger exchanges after x e f Responder h =
        changed tables _ _ _ _ _ _ _ _ _ _ _ _ _ _ (calls-same invoked_by Responder w (x ∷ []) e) (peer-calls invoked_by B w (x ∷ [])) (calls-same answered_by Responder w (x ∷ []) f) (peer-calls answered_by B w (x ∷ [])) h
    step-told Responder w two later ledger exchanges after x e f Initiator h =
        changed tables _ _ _ _ _ _ _ _ _ _ _ _ _ _ (peer-calls invoked_by B w (x ∷ [])) (calls-same invoked_by Responder w (x ∷ []) e) (peer-calls answered_by B w (x ∷ [])) (calls-same answered_by Responder w (x ∷ []) f) h

    passed-told : (role : Role) (w : World) (two : Two) (ledger : Ledger) (exchanges : Exchanges) (message : Message) (left : List Message) → BothTold w two ledger exchanges
        → BothTold (record { side = side_of role; step = passed } ∷ w) (stepped role (both_ends.body_at role two) left [] two) ledger (on_exchange role (meets message) stays exchanges)
    passed-told Initiator w two ledger exchanges message left x Initiator = step-told Initiator w two (stepped Initiator two.a left [] two) ledger exchanges (on_exchange Initiator (meets message) stays exchanges) passed refl refl Initiator (x Initiator)
    passed-told Initiator w two ledger exchanges message left x Responder = step-told Initiator w two (stepped Initiator two.a left [] two) ledger exchanges (on_exchange Initiator (meets message) stays exchanges) passed refl refl Responder (x Responder)
    passed-told Responder w two ledger exchanges message left x Initiator = step-told Responder w two (stepped Responder two.b left [] two) ledger exchanges (on_exchange Responder (meets message) stays exchanges) passed refl refl Initiator (x Initiator)
    passed-told Responder w two ledger exchanges message left x Responder = step-told Responder w two (stepped Responder two.b left [] two) ledger exchanges (on_exchange Responder (meets message) stays exchanges) passed refl refl Responder (x Responder)

    broke-told : (w : World) (two : Two) (ledger : Ledger) (exchanges : Exchanges) → BothTold w two ledger exchanges → BothTold (record { side = B; step = broke } ∷ record { side = A; step = broke } ∷ w) (both_broke common two) ledger (on_exchange Initiator loses loses exchanges)
    broke-told w two ledger exchanges x r =
        step-told Responder (record { side = A; step = broke } ∷ w) two (both_broke common two) ledger exchanges (on_exchange Initiator loses loses exchanges) broke refl refl r
        (step-told Initiator w two (both_broke common two) ledger exchanges (on_exchange Initiator loses loses exchanges) broke refl refl r (here r))
      where
        here : (r : Role) → Facts tables (made r w) (made (other r) w) (given r w) (given (other r) w) (both_ends.body_at r (both_broke common two)) (transfer_log_of r ledger.transfer_logs).started (transfer_log_of (other r) ledger.transfer_logs).started (exchange_of r (on_exchange Initiator loses loses exchanges)).asked (exchange_of r (on_exchange Initiator loses loses exchanges)).shown (transfer_log_of r ledger.transfer_logs).arrived
        here Initiator = own-same tables _ _ _ _ _ _ _ _ _ _ (x Initiator) (after_broke (base Initiator) two.a) refl refl
        here Responder = own-same tables _ _ _ _ _ _ _ _ _ _ (x Responder) (after_broke (base Responder) two.b) refl refl

    first-told : BothTold [] (two_new common) (first_ledger common) (record { a = nothing_exchanged; b = nothing_exchanged })
    first-told Initiator = record { queue_so = tt; started_so = tt; numbers = record { fresh = tt; given = tt }; asked_so = tt; noted = tt; come = tt; fresh = tt }
    first-told Responder = record { queue_so = tt; started_so = tt; numbers = record { fresh = tt; given = tt }; asked_so = tt; noted = tt; come = tt; fresh = tt }

    told-keeps : Keeps common BothTold
    told-keeps = record {
      begins = first-told;
      calls = λ role w two ledger exchanges call answer j c h. called-told role w two ledger exchanges call answer (end_for common role w).body (j.bodies role) c h;
      acts = λ role w two ledger exchanges own j c h. acted-told role w two ledger exchanges own (end_for common role w).body (j.bodies role) c h;
      takes = λ role w two ledger exchanges message left body answers shown j e r h. taken-told role w two ledger exchanges message left body answers shown j e r h;
      passes = λ role w two ledger exchanges message left j e r h. passed-told role w two ledger exchanges message left h;
      quiet = λ role w two ledger exchanges x q h r. step-told role w two two ledger exchanges exchanges x (quiet-invokes x q) (quiet-answers x q) r (h r);
      breaks = λ w two ledger exchanges j h. broke-told w two ledger exchanges h;
    }

    -- with what of it was shown in the whole run
    abbrev Same : World → Exchanges → Type 0
    Same = notes.Same ends

    pub both-keep : Keeps common (λ w two ledger exchanges. Same w exchanges × BothTold w two ledger exchanges)
    both-keep =
        let s = notes.same-keeps free tables spellings a b p.never p.kept in
        record {
          begins = (s.begins, told-keeps.begins);
          calls = λ role w two ledger exchanges call answer j c h. (s.calls role w two ledger exchanges call answer j c h.0, told-keeps.calls role w two ledger exchanges call answer j c h.1);
          acts = λ role w two ledger exchanges own j c h. (s.acts role w two ledger exchanges own j c h.0, told-keeps.acts role w two ledger exchanges own j c h.1);
          takes = λ role w two ledger exchanges message left body answers shown j e r h. (s.takes role w two ledger exchanges message left body answers shown j e r h.0, told-keeps.takes role w two ledger exchanges message left body answers shown j e r h.1);
          passes = λ role w two ledger exchanges message left j e r h. (s.passes role w two ledger exchanges message left j e r h.0, told-keeps.passes role w two ledger exchanges message left j e r h.1);
          quiet = λ role w two ledger exchanges x q h. (s.quiet role w two ledger exchanges x q h.0, told-keeps.quiet role w two ledger exchanges x q h.1);
          breaks = λ w two ledger exchanges j h. (s.breaks w two ledger exchanges j h.0, told-keeps.breaks w two ledger exchanges j h.1);
        }

    -- ---- whole runs

    module _ (m : IsMeant common) (w : World) (all : List Event) (told : List Entry) (typed : AreEvents all) (r : Runs ends [] all told w) where
      role-tells : (role : Role) (two : Two) (ledger : Ledger) (exchanges : Exchanges) → ReachedWithExchanges common two ledger exchanges → notes_of (seen_at ends (side_of role) w) ≡ notes_of (exchange_of role exchanges).shown → Told role w two ledger exchanges
          → TellsRightly tables (made role w) (made (other role) w) (given (other role) w) (flat_map invocation_in (seen_at ends (side_of role) w)) (flat_map outcome_in (seen_at ends (side_of role) w))
      role-tells role two ledger exchanges d same x =
          tells-rightly tables (made role w) (made (other role) w) (given (other role) w) (exchange_of role exchanges).asked (seen_at ends (side_of role) w) (exchange_of role exchanges).shown same x.asked_so x.noted
          x.fresh (once common two ledger exchanges d role).distinct (links-are-allowed common two ledger exchanges d role)

      by-side : Joined common (λ w two ledger exchanges. Same w exchanges × BothTold w two ledger exchanges) w → (side : Side) → ToldRightly tables ends w side
      by-side s A = role-tells Initiator s.two s.ledger s.exchanges s.joint.reached_exchanges (s.extra.0 Initiator) (s.extra.1 Initiator)
      by-side s B = role-tells Responder s.two s.ledger s.exchanges s.joint.reached_exchanges (s.extra.0 Responder) (s.extra.1 Responder)

      pub tell-rightly : OneOutcome tables told
      tell-rightly = one-outcome tables ends w all told r (each-carry-shows common m w all told typed r) (by-side (from-start common m (λ w two ledger exchanges. Same w exchanges × BothTold w two ledger exchanges) both-keep w all told typed r))
