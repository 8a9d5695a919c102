-- Each invocation is taken at most once, in reliable mode too: an activity carries one item of the queue.
use Rattle.std.proofs.Common.{◌≡◌, ℕ, ◌<◌, ◌≤◌, Bool, true, false, if◌then◌else◌, List, [], ◌∷◌, ◌++◌, refl, sym, ap, ◌∙◌, arith, subst, subst₂}
use Rattle.std.specs.Prelude.{Option, Some, None}
use Rattle.agreement.specs.Sets.{Role, other, Item}
use Rattle.agreement.specs.Sets.Role.{Initiator, Responder}
use Rattle.agreement.specs.Messages.{Apdu, Value, ModelSetup, Message, Act, Choice, Calls}
use Rattle.agreement.specs.Messages.Act.{SaysValue, Queues, Drops, Marks, Starts, Encodes, Sends, EndsActivity, Discards, Resumes}
use Rattle.agreement.specs.Messages.Choice.{Nothing, Accepting, Refusing, Results}
use Rattle.agreement.specs.Messages.Message.{Connect, Recover, Data, Alter, MarkAnswer, Restart, RestartAnswer, End, EndAnswer, InterruptAnswer, DiscardAnswer}
use Rattle.agreement.specs.State.{Phase, Handed, Transfer, Outgoing, Incoming, State, new_end}
use Rattle.agreement.specs.State.Phase.{Idle, Up, Broken}
use Rattle.agreement.specs.Calls.{handed_in, rejects_of}
use Rattle.agreement.specs.Acts.{MayAct, acted, on_transfer, started}
use Rattle.agreement.specs.Takings.{MayTake, IsUnjoined, IsBack, taken, hears, handed_up, value_read, broken}
use Rattle.agreement.specs.Worlds.{Step, World, Sending, Shared, state_of, shared_at, flight_to, IsStep, IsRun, after}
use Rattle.agreement.specs.Worlds.Step.{Acts, Takes, Passes}
use Rattle.agreement.specs.Worlds.Moment.{By, Break}
use Rattle.agreement.specs.Laws.{Encoding, encodings, NoAbortOfItself, arrived_of, arrived_after, arrived, invocation_in, invoked_by, invoked_after, invoked, InvokedOnce}
use Rattle.agreement.proofs.Rising.{newest_of, Rises, rises-top, Once, once-skip, once-heard, once-handed, made-heard, numbers_of, numbers-of_append, rejects-none}
use Rattle.agreement.proofs.OnceAtOnce.{made-taken, nil-numbers, at-once_invoked}
use Rattle.agreement.proofs.Arrivals.{Under, Falls, record-kept}
use Rattle.agreement.proofs.Flow.{SpellsIn, value_in}
use Rattle.agreement.proofs.Runs.{at-role, reached}
use Rattle.agreement.proofs.Standing.{reliable, Sees, Standing, Flowing}
use Rattle.agreement.proofs.Standing.Sees.{Same, Joins, Leaves, Gone}
use Rattle.agreement.proofs.Standing.Flowing.{Leads, Follows, Gives_away, Is_given}
use Rattle.agreement.proofs.Views.{IsAbort}
use Rattle.agreement.proofs.ReliableWorlds.{ReliableRelation, reliable-keeps}
use Rattle.agreement.proofs.ReliableWorlds.Stage.{Fresh, Asked, Dropped, Refused, Lost, Dead, Stands, Apart, Recalling, Hanging, Denied, LeftB, LeftA, Deaf}
use Rattle.agreement.proofs.Encoded.{EncodedIn, Encoded, encoded-kept, source-at, handed-spelled}
use Rattle.agreement.proofs.Mail.{by-mode}
use Rattle.agreement.proofs.Views.{direct}
use Rattle.agreement.proofs.BareWorlds.{bare}

abbrev number_of : Option Transfer → List ℕ
number_of None = []
number_of (Some t) = invocation_in t.item.apdu

-- the newest of what arrived is of an earlier activity
abbrev IsBehind : List ℕ → ℕ → Type 0
IsBehind [] c = Unit {0}
IsBehind (n ∷ ns) c = n < c

-- what was invoked and arrived at the taker, against what the sender sends: the queue is to come, and the
-- current item, unless its activity arrived
record Turned (ns arrivals : List ℕ) (o : Outgoing) (made : ℕ) : Type 0 where
  pub later : Once ns (numbers_of o.queue) made
  pub now : IsBehind arrivals o.started → Once ns (number_of o.transfer ++ numbers_of o.queue) made

same-turned : (ns came : List ℕ) (o p : Outgoing) (made more : ℕ) → numbers_of p.queue ≡ numbers_of o.queue → number_of p.transfer ≡ number_of o.transfer → p.started ≡ o.started → more ≡ made → Turned ns came o made → Turned ns came p more
same-turned ns came o p made more q t s m k =
    record {
      later = subst₂ (λ xs n. Once ns xs n) (sym q) (sym m) k.later;
      now = λ b. subst₂ (λ xs n. Once ns xs n) (λ i. sym t i ++ sym q i) (sym m) (k.now (subst (λ n. IsBehind came n) s b));
    }

-- without a current item
none-turned : (ns came : List ℕ) (o p : Outgoing) (made more : ℕ) → numbers_of p.queue ≡ numbers_of o.queue → number_of p.transfer ≡ [] → more ≡ made → Turned ns came o made → Turned ns came p more
none-turned ns came o p made more q t m k =
    record {
      later = subst₂ (λ xs n. Once ns xs n) (sym q) (sym m) k.later;
      now = λ b. subst₂ (λ xs n. Once ns xs n) (λ i. sym t i ++ sym q i) (sym m) k.later;
    }

on-number : (change : Transfer → Transfer) → ((t : Transfer) → (change t).item ≡ t.item) → (o : Outgoing) → number_of (on_transfer change o).transfer ≡ number_of o.transfer
on-number change same o = go o.transfer
  where
    go : (t : Option Transfer) → number_of (on_transfer change (record o { transfer = t })).transfer ≡ number_of t
    go None = refl
    go (Some t) = ap (λ (i : Handed). invocation_in i.apdu) (same t)

queued : (ns came : List ℕ) (setup : ModelSetup) (o : Outgoing) (calls : Calls) (context : ℕ) (apdu : Apdu) (made : ℕ) → ((pending : List ℕ) → Once ns pending calls.made → Once ns (pending ++ invocation_in apdu) made) → Turned ns came o calls.made → Turned ns came (record o { queue = o.queue ++ (record { context = context; apdu = apdu } ∷ []) }) made
queued ns came setup o calls context apdu made h k =
    record {
      later = subst (λ xs. Once ns xs made) (sym same) (h (numbers_of o.queue) k.later);
      now = λ b. subst (λ xs. Once ns xs made) (assoc (number_of o.transfer) (numbers_of o.queue) (invocation_in apdu) ∙ ap (λ xs. number_of o.transfer ++ xs) (sym same)) (h (number_of o.transfer ++ numbers_of o.queue) (k.now b));
    }
  where
    assoc : (xs ys zs : List ℕ) → (xs ++ ys) ++ zs ≡ xs ++ (ys ++ zs)
    assoc [] ys zs = refl
    assoc (x ∷ xs) ys zs = ap (λ ws. x ∷ ws) (assoc xs ys zs)

    same : numbers_of (o.queue ++ (record { context = context; apdu = apdu } ∷ [])) ≡ numbers_of o.queue ++ invocation_in apdu
    same = numbers-of_append o.queue (record { context = context; apdu = apdu } ∷ []) ∙ ap (λ xs. numbers_of o.queue ++ xs) (nil-numbers (invocation_in apdu))

starts : (ns came : List ℕ) (o : Outgoing) (made : ℕ) → Turned ns came o made → Turned ns came (started o) made
starts ns came o made k = go o.queue k.later
  where
    go : (queue : List Handed) → Once ns (numbers_of queue) made → Turned ns came (started (record { started = o.started; transfer = o.transfer; queue = queue })) made
    go [] h = record { later = h; now = λ b. h }
    go (item ∷ queue) h = record { later = once-skip ns (invocation_in item.apdu) (numbers_of queue) made h; now = λ b. h }

-- the sender acts
acts-turned : (base : ModelSetup) (role : Role) (x : State) (act : Act) (ns came : List ℕ) → MayAct (reliable base) role x act → Turned ns came x.outgoing x.calls.made → Turned ns came (acted (reliable base) x act).outgoing (acted (reliable base) x act).calls.made
acts-turned base role x (SaysValue value) ns came h k = absurd (h.at_once refl)
acts-turned base role x (Queues context apdu) ns came h k =
    queued ns came (reliable base) x.outgoing x.calls context apdu (handed_in (reliable base) x.calls context apdu).made (λ pending o. once-handed (reliable base) x.calls [] context apdu ns pending h.may_hand_in o) k
acts-turned base role x Drops ns came h k = absurd (h.at_once refl)
acts-turned base role x Marks ns came h k = same-turned ns came x.outgoing (acted (reliable base) x Marks).outgoing x.calls.made x.calls.made refl (on-number _ (λ t. refl) x.outgoing) refl refl k
acts-turned base role x Starts ns came h k = starts ns came x.outgoing x.calls.made k
acts-turned base role x (Encodes context) ns came h k = same-turned ns came x.outgoing (acted (reliable base) x (Encodes context)).outgoing x.calls.made x.calls.made refl (on-number _ (λ t. refl) x.outgoing) refl refl k
acts-turned base role x (Sends octets) ns came h k = same-turned ns came x.outgoing (acted (reliable base) x (Sends octets)).outgoing x.calls.made x.calls.made refl (on-number _ (λ t. refl) x.outgoing) refl refl k
acts-turned base role x EndsActivity ns came h k = same-turned ns came x.outgoing (acted (reliable base) x EndsActivity).outgoing x.calls.made x.calls.made refl (on-number _ (λ t. refl) x.outgoing) refl refl k
acts-turned base role x Discards ns came h k = same-turned ns came x.outgoing (acted (reliable base) x Discards).outgoing x.calls.made x.calls.made refl (on-number _ (λ t. refl) x.outgoing) refl refl k
acts-turned base role x Resumes ns came h k = same-turned ns came x.outgoing (acted (reliable base) x Resumes).outgoing x.calls.made x.calls.made refl (on-number _ (λ t. refl) x.outgoing) refl refl k
acts-turned base role x act ns came h k = k

-- the sender takes
hears-turned : (setup : ModelSetup) (v : Option Value) (x : State) (ns came : List ℕ) → Turned ns came x.outgoing x.calls.made → Turned ns came (hears setup v x).outgoing (hears setup v x).calls.made
hears-turned setup None x ns came k = k
hears-turned setup (Some v) x ns came k =
    same-turned ns came x.outgoing (hears setup (Some v) x).outgoing x.calls.made (hears setup (Some v) x).calls.made
    (numbers-of_append x.outgoing.queue (rejects_of setup x.calls v.identifier v.apdu) ∙ ap (λ xs. numbers_of x.outgoing.queue ++ xs) (rejects-none setup x.calls v.identifier v.apdu) ∙ nil-numbers (numbers_of x.outgoing.queue))
    refl refl (made-heard setup x.calls v.identifier v.apdu) k

opens-turned : (base : ModelSetup) (role : Role) (x : State) (choice : Choice) (ns came : List ℕ) → x ≡ new_end (reliable base) Responder → Turned ns came x.outgoing x.calls.made → Turned ns came (taken (reliable base) role x Connect choice).outgoing (taken (reliable base) role x Connect choice).calls.made
opens-turned base role x (Accepting set) ns came e k = subst (λ (z : State). Turned ns came z.outgoing z.calls.made) e k
opens-turned base role x Refusing ns came e k = k
opens-turned base role x Nothing ns came e k = k
opens-turned base role x (Results results) ns came e k = k

recovers-turned : (base : ModelSetup) (role : Role) (x : State) (choice : Choice) (ns came : List ℕ) → Turned ns came x.outgoing x.calls.made → Turned ns came (taken (reliable base) role x Recover choice).outgoing (taken (reliable base) role x Recover choice).calls.made
recovers-turned base role x (Accepting set) ns came k = k
recovers-turned base role x Refusing ns came k = k
recovers-turned base role x Nothing ns came k = k
recovers-turned base role x (Results results) ns came k = k

alters-turned : (base : ModelSetup) (role : Role) (x : State) (items : List Item) (choice : Choice) (ns came : List ℕ) → Turned ns came x.outgoing x.calls.made → Turned ns came (taken (reliable base) role x (Alter items) choice).outgoing (taken (reliable base) role x (Alter items) choice).calls.made
alters-turned base role x items (Results results) ns came k = k
alters-turned base role x items (Accepting set) ns came k = k
alters-turned base role x items Refusing ns came k = k
alters-turned base role x items Nothing ns came k = k

takes-turned : (base : ModelSetup) (role : Role) (x : State) (m : Message) (choice : Choice) (ns came : List ℕ) → (m ≡ Connect → x ≡ new_end (reliable base) Responder) → MayTake (reliable base) role x m → Turned ns came x.outgoing x.calls.made → Turned ns came (taken (reliable base) role x m choice).outgoing (taken (reliable base) role x m choice).calls.made
takes-turned base role x Connect choice ns came z h k = opens-turned base role x choice ns came (z refl) k
takes-turned base role x Recover choice ns came z h k = recovers-turned base role x choice ns came k
takes-turned base role x (Data value) choice ns came z h k = absurd (h.at_once refl)
takes-turned base role x (Alter items) choice ns came z h k = alters-turned base role x items choice ns came k
takes-turned base role x (MarkAnswer n) choice ns came z h k = same-turned ns came x.outgoing (taken (reliable base) role x (MarkAnswer n) choice).outgoing x.calls.made x.calls.made refl (on-number _ (λ t. refl) x.outgoing) refl refl k
takes-turned base role x (Restart n list) choice ns came z h k = absurd (let e = h.is_direct in cc)
takes-turned base role x (RestartAnswer n list) choice ns came z h k = cleared k
  where
    cleared : Turned ns came x.outgoing x.calls.made → Turned ns came (record x.outgoing { queue = [] }) x.calls.made
    cleared k = record { later = clear (numbers_of x.outgoing.queue) k.later; now = λ b. only (number_of x.outgoing.transfer) (numbers_of x.outgoing.queue) (k.now b) }
      where
        clear : (xs : List ℕ) → Once ns xs x.calls.made → Once ns [] x.calls.made
        clear xs o = once-skip ns xs [] x.calls.made (subst (λ ys. Once ns ys x.calls.made) (sym (nil-numbers xs)) o)

        drop : (low : ℕ) (xs ys : List ℕ) → Rises low (xs ++ ys) x.calls.made → Rises low (xs ++ []) x.calls.made
        drop low [] ys r = rises-top low x.calls.made ys r
        drop low (n ∷ xs) ys r = (r.0, drop n xs ys r.1)

        only : (xs ys : List ℕ) → Once ns (xs ++ ys) x.calls.made → Once ns (xs ++ []) x.calls.made
        only xs ys o = record { falling = o.falling; rising = drop (newest_of ns) xs ys o.rising }
takes-turned base role x (End n) choice ns came z h k =
    hears-turned (reliable base) (handed_up (reliable base) x.sets.held x.incoming) (record x { incoming = record x.incoming { was_handed = true; active = false } }) ns came k
takes-turned base role x (EndAnswer n) choice ns came z h k = none-turned ns came x.outgoing (record x.outgoing { transfer = None }) x.calls.made x.calls.made refl refl refl k
takes-turned base role x InterruptAnswer choice ns came z h k = same-turned ns came x.outgoing (taken (reliable base) role x InterruptAnswer choice).outgoing x.calls.made x.calls.made refl (on-number _ (λ t. refl) x.outgoing) refl refl k
takes-turned base role x DiscardAnswer choice ns came z h k = none-turned ns came x.outgoing (record x.outgoing { transfer = None }) x.calls.made (taken (reliable base) role x DiscardAnswer choice).calls.made refl refl (made-taken (reliable base) role x DiscardAnswer choice (λ e. absurd (cc))) k
takes-turned base role x m choice ns came z h k = k

-- at an opening the responder is new, and the initiator sends nothing of transfers
pub record Opens (base : ModelSetup) (role : Role) (x y : State) : Type 0 where
  pub new : x ≡ new_end (reliable base) Responder
  pub at_start : y.outgoing ≡ (new_end (reliable base) Initiator).outgoing

flowing-up : (setup : ModelSetup) (role : Role) (x y : State) (down up : List Message) (shared : Shared) → Flowing setup role x y down up shared → y.phase ≡ Up
flowing-up setup role x y down up shared (Leads o p n) = p.up
flowing-up setup role x y down up shared (Follows o p n) = p.up
flowing-up setup role x y down up shared (Gives_away k) = k.taker.up
flowing-up setup role x y down up shared (Is_given k) = k.giver.up

back-joined : (p : Phase) → IsBack p → IsUnjoined p → ⊥
back-joined Idle b u = b
back-joined Broken b u = b
back-joined p b u = u

stands-joined : (base : ModelSetup) (a b : State) (f g : List Sending) (shared : Shared) → Standing (reliable base) Initiator a b f g shared → IsUnjoined b.phase → ⊥
stands-joined base a b f g shared j u = go j.sees_peer (flowing-up (reliable base) Initiator j.me j.peer j.down j.up shared j.flow)
  where
    go : Sees Responder b g f j.peer j.down → j.peer.phase ≡ Up → ⊥
    go (Same e c l) p = subst IsUnjoined (sym (ap (λ (z : State). z.phase) e) ∙ p) u
    go (Joins set answer rest r k w e c m d l) p = back-joined b.phase k u
    go (Leaves r k w n o i) p = subst IsUnjoined k u
    go (Gone k o) p = subst IsUnjoined k u

opens-at : (base : ModelSetup) (role : Role) (x y : State) (s : Sending) (f g : List Sending) (shared : Shared) → ReliableRelation base role x y (s ∷ f) g shared → s.message ≡ Connect → MayTake (reliable base) role x Connect → Opens base role x y
opens-at base Initiator x y s f g shared r e h = absurd (let c = h.responds in cc)
opens-at base Responder x y s f g shared (Stands j) e h = absurd (stands-joined base y x g (s ∷ f) shared j h.is_unjoined)
opens-at base Responder x y s f g shared (Fresh p q n d) e h = absurd (cc)
opens-at base Responder x y s f g shared (Asked t p q n d u) e h = record { new = q; at_start = ap (λ (z : State). z.outgoing) p }
opens-at base Responder x y s f g shared (Dropped t behind p q n d u l) e h = record { new = q; at_start = p.1 }
opens-at base Responder x y s f g shared (Refused t p k q n i) e h = absurd (subst IsUnjoined q h.is_unjoined)
opens-at base Responder x y s f g shared (Lost p q v n) e h = absurd (cc)
opens-at base Responder x y s f g shared (Dead p q) e h = absurd (subst IsUnjoined q h.is_unjoined)
opens-at base Responder x y s f g shared (Apart p q w v r n d) e h = absurd (cc)
opens-at base Responder x y s f g shared (Recalling t p q w v r n d i) e h = absurd (let first : s ≡ t = cc in let m : Connect ≡ Recover = sym e ∙ ap (λ (u : Sending). u.message) first ∙ i in cc)
opens-at base Responder x y s f g shared (Hanging t behind was p q v r n d i l) e h = absurd (let first : s ≡ t = cc in let m : Connect ≡ Recover = sym e ∙ ap (λ (u : Sending). u.message) first ∙ i in cc)
opens-at base Responder x y s f g shared (Denied t p q w v r n i d) e h = absurd (cc)
opens-at base Responder x y s f g shared (LeftB p q v l) e h = absurd (subst (λ m. IsAbort m) e l.0)
opens-at base Responder x y s f g shared (LeftA p w q n) e h = absurd (subst IsUnjoined q h.is_unjoined)
opens-at base Responder x y s f g shared (Deaf p w q n) e h = absurd (subst IsUnjoined q h.is_unjoined)

-- the taker takes the end of an activity
falls-under : (ns : List ℕ) (i : Incoming) (c : ℕ) → Falls ns i → i.was_handed ≡ false → i.last ≡ c → IsBehind ns c
falls-under [] i c f e l = tt
falls-under (n ∷ ns) i c f e l = subst (λ d. n < d) l (subst (λ b. Under b i.last (n ∷ ns)) e f.under)

ends-turned : (base : ModelSetup) (x : State) (came ns : List ℕ) (o : Outgoing) (made : ℕ) (es : List Encoding) → SpellsIn (value_in o.transfer) (reliable base) x.sets.held x.incoming → Encoded o.transfer o.started es → x.incoming.last ≡ o.started → Falls came x.incoming → Turned ns came o made → (up : Option Value) → handed_up (reliable base) x.sets.held x.incoming ≡ up → Turned (invoked_by (reliable base) x up ++ ns) (arrived_of up x.incoming.last ++ came) o made
ends-turned base x came ns o made es sp en l f k None e = k
ends-turned base x came ns o made es sp en l f k (Some value) e =
    let told = told-in o.transfer sp en (k.now (falls-under came x.incoming o.started f (fresh x.incoming.was_handed refl e) l)) in
    record { later = once-heard (reliable base) x.calls value.apdu ns (numbers_of o.queue) made told; now = λ b. absurd (over (subst (λ n. n < o.started) l b)) }
  where
    fresh : (b : Bool) → x.incoming.was_handed ≡ b → (if b then None else value_read (reliable base) x.sets.held x.incoming) ≡ Some value → x.incoming.was_handed ≡ false
    fresh true q e = absurd (cc)
    fresh false q e = q

    over : o.started < o.started → ⊥
    over b = omega arith

    told-in : (t : Option Transfer) → SpellsIn (value_in t) (reliable base) x.sets.held x.incoming → Encoded t o.started es → Once ns (number_of t ++ numbers_of o.queue) made → Once ns (invocation_in value.apdu ++ numbers_of o.queue) made
    told-in None sp en w = absurd sp
    told-in (Some t) sp en w = go t.value sp en
      where
        go : (v : Option Value) → SpellsIn v (reliable base) x.sets.held x.incoming → EncodedIn v t.item.apdu o.started es → Once ns (invocation_in value.apdu ++ numbers_of o.queue) made
        go None sp en = absurd sp
        go (Some u) sp en =
            subst (λ a. Once ns (invocation_in a ++ numbers_of o.queue) made) (sym en.1 ∙ ap (λ (z : Value). z.apdu) (handed-spelled base x u value sp e)) w

-- the taker, where it takes no opening and no end
abbrev Here : ModelSetup → Role → World → Type 0
Here base role world = Turned (invoked (reliable base) role world) (arrived (reliable base) role world) (state_of (reliable base) (other role) world).outgoing (state_of (reliable base) (other role) world).calls.made

reached-at : (base : ModelSetup) (world : World) (role : Role) → IsRun (reliable base) world → ReliableRelation base role (state_of (reliable base) role world) (state_of (reliable base) (other role) world) (flight_to (reliable base) role world) (flight_to (reliable base) (other role) world) (shared_at (reliable base) world)
reached-at base world role h = at-role (reliable base) (ReliableRelation base) (reliable-keeps base) role world (reached (reliable base) (ReliableRelation base) (reliable-keeps base) world h)

pub opens-in : (base : ModelSetup) → NoAbortOfItself (reliable base) → (world : World) (role : Role) (choice : Choice) → IsRun (reliable base) (By role (Takes Connect choice) ∷ world) → IsStep (reliable base) role (state_of (reliable base) role world) (flight_to (reliable base) role world) (Takes Connect choice) → IsRun (reliable base) world → Opens base role (state_of (reliable base) role world) (state_of (reliable base) (other role) world)
opens-in base n world role choice h k r = go (flight_to (reliable base) role world) k (reached-at base world role r)
  where
    go : (flight : List Sending) → IsStep (reliable base) role (state_of (reliable base) role world) flight (Takes Connect choice) → ReliableRelation base role (state_of (reliable base) role world) (state_of (reliable base) (other role) world) flight (flight_to (reliable base) (other role) world) (shared_at (reliable base) world) → Opens base role (state_of (reliable base) role world) (state_of (reliable base) (other role) world)
    go [] k q = absurd k.comes
    go (s ∷ flight) k q = opens-at base role (state_of (reliable base) role world) (state_of (reliable base) (other role) world) s flight (flight_to (reliable base) (other role) world) (shared_at (reliable base) world) q k.comes (n world role Connect choice h)

new-turned : (base : ModelSetup) (x : State) (choice : Choice) (ns came : List ℕ) (o : Outgoing) (made : ℕ) → o ≡ (new_end (reliable base) Initiator).outgoing → Turned ns came o made → Turned (invoked_after (reliable base) x (Takes Connect choice) ns) (arrived_after (reliable base) x (Takes Connect choice) came) o made
new-turned base x (Accepting set) ns came o made e k = subst (λ q. Turned [] [] q made) (sym e) (record { later = none; now = λ b. none })
  where
    least : 0 ≤ made
    least = omega arith

    none : Once [] [] made
    none = record { falling = tt; rising = least }
new-turned base x Refusing ns came o made e k = k
new-turned base x Nothing ns came o made e k = k
new-turned base x (Results results) ns came o made e k = k

takes-here : (base : ModelSetup) → NoAbortOfItself (reliable base) → (world : World) (role : Role) (m : Message) (choice : Choice) → IsRun (reliable base) (By role (Takes m choice) ∷ world) → IsStep (reliable base) role (state_of (reliable base) role world) (flight_to (reliable base) role world) (Takes m choice) → IsRun (reliable base) world → Here base role world → Turned (invoked_after (reliable base) (state_of (reliable base) role world) (Takes m choice) (invoked (reliable base) role world)) (arrived_after (reliable base) (state_of (reliable base) role world) (Takes m choice) (arrived (reliable base) role world)) (state_of (reliable base) (other role) world).outgoing (state_of (reliable base) (other role) world).calls.made
takes-here base n world role Connect choice h g r k =
    new-turned base (state_of (reliable base) role world) choice (invoked (reliable base) role world) (arrived (reliable base) role world) (state_of (reliable base) (other role) world).outgoing (state_of (reliable base) (other role) world).calls.made
    (opens-in base n world role choice h g r).at_start k
takes-here base n world role (Data value) choice h g r k = absurd ((n world role (Data value) choice h).at_once refl)
takes-here base n world role (End number) choice h g r k =
    let s = source-at base world role number choice h in
    ends-turned base (state_of (reliable base) role world) (arrived (reliable base) role world) (invoked (reliable base) role world) (state_of (reliable base) (other role) world).outgoing (state_of (reliable base) (other role) world).calls.made
    (encodings (reliable base) (other role) world) s.spelled (encoded-kept base world r (other role)) s.current (record-kept (reliable base) n world r role) k
    (handed_up (reliable base) (state_of (reliable base) role world).sets.held (state_of (reliable base) role world).incoming) refl
takes-here base n world role m choice h g r k = k

-- the sender's step
sends-here : (base : ModelSetup) → NoAbortOfItself (reliable base) → (world : World) (role : Role) (step : Step) (ns came : List ℕ) → IsRun (reliable base) (By role step ∷ world) → IsStep (reliable base) role (state_of (reliable base) role world) (flight_to (reliable base) role world) step → IsRun (reliable base) world → Turned ns came (state_of (reliable base) role world).outgoing (state_of (reliable base) role world).calls.made → Turned ns came (after (reliable base) role (state_of (reliable base) role world) step).outgoing (after (reliable base) role (state_of (reliable base) role world) step).calls.made
sends-here base n world role (Acts act) ns came h g r k = acts-turned base role (state_of (reliable base) role world) act ns came g k
sends-here base n world role (Takes m choice) ns came h g r k =
    takes-turned base role (state_of (reliable base) role world) m choice ns came
    (λ e. (opens-in base n world role choice (subst (λ q. IsRun (reliable base) (By role (Takes q choice) ∷ world)) e h) (subst (λ q. IsStep (reliable base) role (state_of (reliable base) role world) (flight_to (reliable base) role world) (Takes q choice)) e g) r).new)
    (n world role m choice h) k
sends-here base n world role (Passes m) ns came h g r k = k

here-step : (base : ModelSetup) → NoAbortOfItself (reliable base) → (world : World) (role : Role) (step : Step) → IsRun (reliable base) (By role step ∷ world) → IsStep (reliable base) role (state_of (reliable base) role world) (flight_to (reliable base) role world) step → IsRun (reliable base) world → Here base role world → Turned (invoked_after (reliable base) (state_of (reliable base) role world) step (invoked (reliable base) role world)) (arrived_after (reliable base) (state_of (reliable base) role world) step (arrived (reliable base) role world)) (state_of (reliable base) (other role) world).outgoing (state_of (reliable base) (other role) world).calls.made
here-step base n world role (Acts act) h g r k = k
here-step base n world role (Takes m choice) h g r k = takes-here base n world role m choice h g r k
here-step base n world role (Passes m) h g r k = k

turned-kept : (base : ModelSetup) → NoAbortOfItself (reliable base) → (world : World) → IsRun (reliable base) world → (role : Role) → Here base role world
turned-kept base n [] h Initiator = first
  where
    first : Here base Initiator []
    first = record { later = record { falling = tt; rising = omega arith }; now = λ b. record { falling = tt; rising = omega arith } }
turned-kept base n [] h Responder = first
  where
    first : Here base Responder []
    first = record { later = record { falling = tt; rising = omega arith }; now = λ b. record { falling = tt; rising = omega arith } }
turned-kept base n (Break ∷ world) h Initiator =
    same-turned (invoked (reliable base) Initiator world) (arrived (reliable base) Initiator world) (state_of (reliable base) Responder world).outgoing (broken (reliable base) (state_of (reliable base) Responder world)).outgoing (state_of (reliable base) Responder world).calls.made (state_of (reliable base) Responder world).calls.made
    refl (on-number _ (λ t. refl) (state_of (reliable base) Responder world).outgoing) refl refl (turned-kept base n world h.1 Initiator)
turned-kept base n (Break ∷ world) h Responder =
    same-turned (invoked (reliable base) Responder world) (arrived (reliable base) Responder world) (state_of (reliable base) Initiator world).outgoing (broken (reliable base) (state_of (reliable base) Initiator world)).outgoing (state_of (reliable base) Initiator world).calls.made (state_of (reliable base) Initiator world).calls.made
    refl (on-number _ (λ t. refl) (state_of (reliable base) Initiator world).outgoing) refl refl (turned-kept base n world h.1 Responder)
turned-kept base n (By Initiator step ∷ world) h Initiator = here-step base n world Initiator step h h.0 h.1 (turned-kept base n world h.1 Initiator)
turned-kept base n (By Responder step ∷ world) h Responder = here-step base n world Responder step h h.0 h.1 (turned-kept base n world h.1 Responder)
turned-kept base n (By Responder step ∷ world) h Initiator =
    sends-here base n world Responder step (invoked (reliable base) Initiator world) (arrived (reliable base) Initiator world) h h.0 h.1 (turned-kept base n world h.1 Initiator)
turned-kept base n (By Initiator step ∷ world) h Responder =
    sends-here base n world Initiator step (invoked (reliable base) Responder world) (arrived (reliable base) Responder world) h h.0 h.1 (turned-kept base n world h.1 Responder)

reliable-invoked : (base : ModelSetup) → NoAbortOfItself (reliable base) → InvokedOnce (reliable base)
reliable-invoked base n world h role = (turned-kept base n world h role).later.falling

pub all-invoked : ((setup : ModelSetup) → NoAbortOfItself setup) → (setup : ModelSetup) → InvokedOnce setup
all-invoked n =
    by-mode InvokedOnce
    (λ base. at-once_invoked (bare base) (n (bare base)) (λ e. cc))
    (λ base. at-once_invoked (direct base) (n (direct base)) (λ e. cc))
    (λ base. reliable-invoked base (n (reliable base)))
