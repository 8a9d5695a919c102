-- Each invocation is answered at most once: what one end keeps.
use Rattle.std.proofs.Common.{◌≡◌, ℕ, ◌<◌, ◌≤◌, Bool, true, false, ◌||◌, nat_eq, if◌then◌else◌, List, [], ◌∷◌, ◌++◌, refl, sym, ap, ◌∙◌, arith, true≢false, subst, eqb-true}
use Rattle.std.specs.Prelude.{Option, Some, None}
use Rattle.std.proofs.lemmas.Bool.Decides.{nat_tests}
use Rattle.agreement.specs.Sets.{Role, is_among, AreDistinct, Item}
use Rattle.agreement.specs.Sets.Role.{Initiator, Responder}
use Rattle.agreement.specs.Messages.{Apdu, Value, Mode, ModelSetup, Message, Act, Choice, Invocation, Calls}
use Rattle.agreement.specs.Messages.Mode.{Bare, Direct, Reliable}
use Rattle.agreement.specs.Messages.Apdu.{Invoke, Outcome, Reject}
use Rattle.agreement.specs.Messages.Act.{Connects, Recovers, SaysValue, Queues, Drops, Alters, Marks, GivesTurn, Pleads, Restarts, Starts, Encodes, Sends, EndsActivity, Interrupts, Discards, Resumes, Releases, Aborts, Withdraws, TransportFails}
use Rattle.agreement.specs.Messages.Choice.{Nothing, Accepting, Refusing, Results}
use Rattle.agreement.specs.Messages.Message.{Connect, Recover, Accept, Refuse, Data, Alter, AlterAnswer, Mark, MarkAnswer, Restart, RestartAnswer, Start, Resume, Chunk, End, EndAnswer, Interrupt, InterruptAnswer, Discard, DiscardAnswer, Give, GiveAnswer, Please, Release, ReleaseAnswer, UserAbort}
use Rattle.agreement.specs.State.{Handed, Transfer, State}
use Rattle.agreement.specs.Calls.{is_open, close, opened, may_answer, MayHandIn, handed_in, is_accepted, accepted, heard}
use Rattle.agreement.specs.Acts.{MayAct, acted, marked_in, gave_in}
use Rattle.agreement.specs.Takings.{taken, hears, handed_up, cut_item, marked_from, broken_calls}
use Rattle.agreement.specs.Worlds.{Step, World, Sending, state_of, IsStep, IsRun, after}
use Rattle.agreement.specs.Worlds.Step.{Acts, Takes, Passes}
use Rattle.agreement.specs.Worlds.Moment.{By, Break}
use Rattle.agreement.specs.Laws.{AreFalling, invocation_in, invoked_by, invoked_after, invoked, InvokedOnce, answer_in, answered_after, answered, AnsweredOnce}
use Rattle.agreement.proofs.Order.{by_test}
use Rattle.agreement.proofs.Outcomes.{close-closed, close-gone}

-- a number up to the newest of falling ones
abbrev UpTo : ℕ → List ℕ → Type 0
UpTo k [] = ⊥
UpTo k (n ∷ ns) = k ≤ n

abbrev AllUp : List Invocation → List ℕ → Type 0
AllUp [] ns = Unit {0}
AllUp (call ∷ calls) ns = UpTo call.number ns × AllUp calls ns

-- invocations that came and are closed
abbrev AllDone : List ℕ → List Invocation → List ℕ → Type 0
AllDone [] calls ns = Unit {0}
AllDone (k ∷ ks) calls ns = (is_open k calls ≡ false) × UpTo k ns × AllDone ks calls ns

-- what was answered, what is open from the peer, what was invoked by the peer
record Keeps_answers (ks : List ℕ) (calls : List Invocation) (ns : List ℕ) : Type 0 where
  pub distinct : AreDistinct ks
  pub done : AllDone ks calls ns
  pub up : AllUp calls ns

open-up : (n : ℕ) (calls : List Invocation) (ns : List ℕ) → AllUp calls ns → is_open n calls ≡ true → UpTo n ns
open-up n [] ns h o = absurd (true≢false (sym o))
open-up n (call ∷ calls) ns h o = go (open-up n calls ns h.1) (nat_eq call.number n) refl o
  where
    go : (is_open n calls ≡ true → UpTo n ns) → (b : Bool) → nat_eq call.number n ≡ b → (b || is_open n calls) ≡ true → UpTo n ns
    go ih true e o = subst (λ k. UpTo k ns) (eqb-true call.number n e) h.0
    go ih false e o = ih o

fresh : (ks : List ℕ) (n : ℕ) (calls : List Invocation) (ns : List ℕ) → AllDone ks calls ns → is_open n calls ≡ true → is_among n ks ≡ false
fresh [] n calls ns h o = refl
fresh (k ∷ ks) n calls ns h o = go (nat_eq n k) refl (fresh ks n calls ns h.2 o)
  where
    go : (b : Bool) → nat_eq n k ≡ b → is_among n ks ≡ false → (b || is_among n ks) ≡ false
    go true e i = absurd (true≢false (sym o ∙ ap (λ x. is_open x calls) (eqb-true n k e) ∙ h.0))
    go false e i = i

done-close : (ks : List ℕ) (n : ℕ) (calls : List Invocation) (ns : List ℕ) → AllDone ks calls ns → AllDone ks (close n calls) ns
done-close [] n calls ns h = tt
done-close (k ∷ ks) n calls ns h = (close-closed k n calls h.0, h.1, done-close ks n calls ns h.2)

up-close : (n : ℕ) (calls : List Invocation) (ns : List ℕ) → AllUp calls ns → AllUp (close n calls) ns
up-close n [] ns h = tt
up-close n (call ∷ calls) ns h = by_test (λ x. AllUp x ns) (nat_eq call.number n) _ _ (λ t. up-close n calls ns h.1) (λ t. (h.0, up-close n calls ns h.1))

-- an outcome is handed in
answers : (ks : List ℕ) (n : ℕ) (calls : List Invocation) (ns : List ℕ) → is_open n calls ≡ true → Keeps_answers ks calls ns → Keeps_answers (n ∷ ks) (close n calls) ns
answers ks n calls ns o k =
    record {
      distinct = (fresh ks n calls ns k.done o, k.distinct);
      done = (close-gone n calls, open-up n calls ns k.up o, done-close ks n calls ns k.done);
      up = up-close n calls ns k.up;
    }

-- an outcome that may be handed in is of an open invocation
pub answers-open : (setup : ModelSetup) (calls : List Invocation) (n : ℕ) (content : List ℕ) → may_answer setup calls n content ≡ true → is_open n calls ≡ true
answers-open setup [] n content h = absurd (true≢false (sym h))
answers-open setup (call ∷ calls) n content h = go (nat_eq call.number n) h (answers-open setup calls n content)
  where
    go : (b : Bool) → (if b then setup.allows call.operation content else may_answer setup calls n content) ≡ true → (may_answer setup calls n content ≡ true → is_open n calls ≡ true) → (b || is_open n calls) ≡ true
    go true e ih = refl
    go false e ih = ih e

hands-in : (setup : ModelSetup) (ks : List ℕ) (calls : Calls) (due : List Handed) (context : ℕ) (apdu : Apdu) (ns : List ℕ) → MayHandIn setup calls due apdu → Keeps_answers ks calls.peer_open ns → Keeps_answers (answer_in apdu ++ ks) (handed_in setup calls context apdu).peer_open ns
hands-in setup ks calls due context (Invoke number operation link argument) ns m k = k
hands-in setup ks calls due context (Outcome number content) ns m k = answers ks number calls.peer_open ns (answers-open setup calls.peer_open number content m) k
hands-in setup ks calls due context (Reject number b) ns m k = k

-- all is cut
cuts : (ks : List ℕ) (calls : List Invocation) (ns : List ℕ) → Keeps_answers ks calls ns → Keeps_answers ks [] ns
cuts ks calls ns k = record { distinct = k.distinct; done = all ks k.done; up = tt }
  where
    all : (xs : List ℕ) → AllDone xs calls ns → AllDone xs [] ns
    all [] h = tt
    all (x ∷ xs) h = (refl, h.1, all xs h.2)

-- an invocation comes
above : (n k : ℕ) (ns : List ℕ) → AreFalling (n ∷ ns) → UpTo k ns → k < n
above n k [] f u = absurd u
above n k (m ∷ ns) f u = let e = f.0 in omega arith

done-more : (ks : List ℕ) (n : ℕ) (calls : List Invocation) (ns : List ℕ) → AreFalling (n ∷ ns) → AllDone ks calls ns → AllDone ks calls (n ∷ ns)
done-more [] n calls ns f h = tt
done-more (k ∷ ks) n calls ns f h = (h.0, (let b = above n k ns f h.1 in omega arith), done-more ks n calls ns f h.2)

up-more : (n : ℕ) (calls : List Invocation) (ns : List ℕ) → AreFalling (n ∷ ns) → AllUp calls ns → AllUp calls (n ∷ ns)
up-more n [] ns f h = tt
up-more n (call ∷ calls) ns f h = ((let b = above n call.number ns f h.0 in omega arith), up-more n calls ns f h.1)

done-opened : (setup : ModelSetup) (ks : List ℕ) (n operation context : ℕ) (calls : List Invocation) (ns : List ℕ) → AreFalling (n ∷ ns) → AllDone ks calls ns → AllDone ks (opened setup n operation context calls) (n ∷ ns)
done-opened setup [] n operation context calls ns f h = tt
done-opened setup (k ∷ ks) n operation context calls ns f h =
    (by_test (λ x. is_open k x ≡ false) (setup.silent operation) _ _ (λ t. h.0) (λ t. other), (let b = above n k ns f h.1 in omega arith), done-opened setup ks n operation context calls ns f h.2)
  where
    other : (nat_eq n k || is_open k calls) ≡ false
    other = let b = above n k ns f h.1 in let o = h.0 in grind (arith, nat_tests)

up-opened : (setup : ModelSetup) (n operation context : ℕ) (calls : List Invocation) (ns : List ℕ) → AreFalling (n ∷ ns) → AllUp calls ns → AllUp (opened setup n operation context calls) (n ∷ ns)
up-opened setup n operation context calls ns f h =
    by_test (λ x. AllUp x (n ∷ ns)) (setup.silent operation) _ _ (λ t. up-more n calls ns f h) (λ t. (self, up-more n calls ns f h))
  where
    self : n ≤ n
    self = omega arith

hears-apdu : (setup : ModelSetup) (ks : List ℕ) (calls : Calls) (context : ℕ) (apdu : Apdu) (ns : List ℕ) → AreFalling ((if is_accepted setup calls apdu then invocation_in apdu else []) ++ ns) → Keeps_answers ks calls.peer_open ns → Keeps_answers ks (heard setup calls context apdu).peer_open ((if is_accepted setup calls apdu then invocation_in apdu else []) ++ ns)
hears-apdu setup ks calls context apdu ns f k = go (is_accepted setup calls apdu) f
  where
    takes : (a : Apdu) → AreFalling (invocation_in a ++ ns) → Keeps_answers ks (accepted setup calls context a).peer_open (invocation_in a ++ ns)
    takes (Invoke number operation link argument) f =
        record { distinct = k.distinct; done = done-opened setup ks number operation context calls.peer_open ns f k.done; up = up-opened setup number operation context calls.peer_open ns f k.up }
    takes (Outcome number content) f = k
    takes (Reject number b) f = k

    go : (b : Bool) → AreFalling ((if b then invocation_in apdu else []) ++ ns) → Keeps_answers ks (if b then accepted setup calls context apdu else calls).peer_open ((if b then invocation_in apdu else []) ++ ns)
    go true f = takes apdu f
    go false f = k

hears-value : (setup : ModelSetup) (ks : List ℕ) (x : State) (v : Option Value) (ns : List ℕ) → AreFalling (invoked_by setup x v ++ ns) → Keeps_answers ks x.calls.peer_open ns → Keeps_answers ks (hears setup v x).calls.peer_open (invoked_by setup x v ++ ns)
hears-value setup ks x None ns f k = k
hears-value setup ks x (Some v) ns f k = hears-apdu setup ks x.calls v.identifier v.apdu ns f k

acts-answers : (setup : ModelSetup) (role : Role) (ks : List ℕ) (x : State) (act : Act) (ns : List ℕ) → MayAct setup role x act → Keeps_answers ks x.calls.peer_open ns → Keeps_answers (answered_after (Acts act) ks) (acted setup x act).calls.peer_open ns
acts-answers setup role ks x Connects ns h k = k
acts-answers setup role ks x Recovers ns h k = k
acts-answers setup role ks x (SaysValue value) ns h k = hands-in setup ks x.calls x.outgoing.queue value.identifier value.apdu ns h.may_hand_in k
acts-answers setup role ks x (Queues context apdu) ns h k = hands-in setup ks x.calls [] context apdu ns h.may_hand_in k
acts-answers setup role ks x Drops ns h k = k
acts-answers setup role ks x (Alters items) ns h k = k
acts-answers setup role ks x Marks ns h k = go setup.mode
  where
    go : (m : Mode) → Keeps_answers ks (marked_in m x).calls.peer_open ns
    go Bare = k
    go Direct = k
    go Reliable = k
acts-answers setup role ks x GivesTurn ns h k = go setup.mode
  where
    go : (m : Mode) → Keeps_answers ks (gave_in m x).calls.peer_open ns
    go Bare = k
    go Direct = k
    go Reliable = k
acts-answers setup role ks x (Pleads priority) ns h k = k
acts-answers setup role ks x (Restarts number) ns h k = k
acts-answers setup role ks x Starts ns h k = k
acts-answers setup role ks x (Encodes context) ns h k = k
acts-answers setup role ks x (Sends octets) ns h k = k
acts-answers setup role ks x EndsActivity ns h k = k
acts-answers setup role ks x Interrupts ns h k = k
acts-answers setup role ks x Discards ns h k = k
acts-answers setup role ks x Resumes ns h k = k
acts-answers setup role ks x Releases ns h k = k
acts-answers setup role ks x Aborts ns h k = cuts ks x.calls.peer_open ns k
acts-answers setup role ks x Withdraws ns h k = cuts ks x.calls.peer_open ns k
acts-answers setup role ks x TransportFails ns h k = k

begins : Keeps_answers [] [] []
begins = record { distinct = tt; done = tt; up = tt }

opens-answers : (setup : ModelSetup) (role : Role) (ks : List ℕ) (x : State) (choice : Choice) (ns : List ℕ) → Keeps_answers ks x.calls.peer_open ns → Keeps_answers (answered_after (Takes Connect choice) ks) (taken setup role x Connect choice).calls.peer_open (invoked_after setup x (Takes Connect choice) ns)
opens-answers setup role ks x (Accepting set) ns k = begins
opens-answers setup role ks x Refusing ns k = k
opens-answers setup role ks x Nothing ns k = k
opens-answers setup role ks x (Results results) ns k = k

recovers-answers : (setup : ModelSetup) (role : Role) (ks : List ℕ) (x : State) (choice : Choice) (ns : List ℕ) → Keeps_answers ks x.calls.peer_open ns → Keeps_answers ks (taken setup role x Recover choice).calls.peer_open ns
recovers-answers setup role ks x (Accepting set) ns k = k
recovers-answers setup role ks x Refusing ns k = k
recovers-answers setup role ks x Nothing ns k = k
recovers-answers setup role ks x (Results results) ns k = k

alters-answers : (setup : ModelSetup) (role : Role) (ks : List ℕ) (x : State) (items : List Item) (choice : Choice) (ns : List ℕ) → Keeps_answers ks x.calls.peer_open ns → Keeps_answers ks (taken setup role x (Alter items) choice).calls.peer_open ns
alters-answers setup role ks x items (Results results) ns k = k
alters-answers setup role ks x items (Accepting set) ns k = k
alters-answers setup role ks x items Refusing ns k = k
alters-answers setup role ks x items Nothing ns k = k

cuts-item : (ks : List ℕ) (t : Option Transfer) (calls : Calls) (ns : List ℕ) → Keeps_answers ks calls.peer_open ns → Keeps_answers ks (cut_item t calls).peer_open ns
cuts-item ks None calls ns k = k
cuts-item ks (Some t) calls ns k = go t.item.apdu
  where
    go : (a : Apdu) → Keeps_answers ks (cut_item (Some (record t { item = record t.item { apdu = a } })) calls).peer_open ns
    go (Invoke number operation link argument) = k
    go (Outcome number content) = k
    go (Reject number b) = k

takes-answers : (setup : ModelSetup) (role : Role) (ks : List ℕ) (x : State) (m : Message) (choice : Choice) (ns : List ℕ) → AreFalling (invoked_after setup x (Takes m choice) ns) → Keeps_answers ks x.calls.peer_open ns → Keeps_answers (answered_after (Takes m choice) ks) (taken setup role x m choice).calls.peer_open (invoked_after setup x (Takes m choice) ns)
takes-answers setup role ks x Connect choice ns f k = opens-answers setup role ks x choice ns k
takes-answers setup role ks x Recover choice ns f k = recovers-answers setup role ks x choice ns k
takes-answers setup role ks x (Accept set) choice ns f k = k
takes-answers setup role ks x Refuse choice ns f k = k
takes-answers setup role ks x (Data value) choice ns f k = hears-apdu setup ks x.calls value.identifier value.apdu ns f k
takes-answers setup role ks x (Alter items) choice ns f k = alters-answers setup role ks x items choice ns k
takes-answers setup role ks x (AlterAnswer results) choice ns f k = k
takes-answers setup role ks x (Mark number) choice ns f k = go setup.mode
  where
    go : (m : Mode) → Keeps_answers ks (marked_from m number x).calls.peer_open ns
    go Bare = k
    go Direct = k
    go Reliable = k
takes-answers setup role ks x (MarkAnswer number) choice ns f k = k
takes-answers setup role ks x (Restart number list) choice ns f k = cuts ks x.calls.peer_open ns k
takes-answers setup role ks x (RestartAnswer number list) choice ns f k = cuts ks x.calls.peer_open ns k
takes-answers setup role ks x (Start activity) choice ns f k = k
takes-answers setup role ks x (Resume activity mark) choice ns f k = k
takes-answers setup role ks x (Chunk octets) choice ns f k = k
takes-answers setup role ks x (End number) choice ns f k =
    hears-value setup ks (record x { incoming = record x.incoming { was_handed = true; active = false } }) (handed_up setup x.sets.held x.incoming) ns f k
takes-answers setup role ks x (EndAnswer number) choice ns f k = k
takes-answers setup role ks x Interrupt choice ns f k = k
takes-answers setup role ks x InterruptAnswer choice ns f k = k
takes-answers setup role ks x Discard choice ns f k = k
takes-answers setup role ks x DiscardAnswer choice ns f k = cuts-item ks x.outgoing.transfer x.calls ns k
takes-answers setup role ks x Give choice ns f k = k
takes-answers setup role ks x GiveAnswer choice ns f k = k
takes-answers setup role ks x (Please priority) choice ns f k = k
takes-answers setup role ks x Release choice ns f k = cuts ks x.calls.peer_open ns k
takes-answers setup role ks x ReleaseAnswer choice ns f k = cuts ks x.calls.peer_open ns k
takes-answers setup role ks x UserAbort choice ns f k = cuts ks x.calls.peer_open ns k

step-answers : (setup : ModelSetup) (role : Role) (ks : List ℕ) (x : State) (flight : List Sending) (step : Step) (ns : List ℕ) → IsStep setup role x flight step → AreFalling (invoked_after setup x step ns) → Keeps_answers ks x.calls.peer_open ns → Keeps_answers (answered_after step ks) (after setup role x step).calls.peer_open (invoked_after setup x step ns)
step-answers setup role ks x flight (Acts act) ns h f k = acts-answers setup role ks x act ns h k
step-answers setup role ks x flight (Takes m choice) ns h f k = takes-answers setup role ks x m choice ns f k
step-answers setup role ks x flight (Passes m) ns h f k = k

answers-kept : (setup : ModelSetup) → InvokedOnce setup → (world : World) → IsRun setup world → (role : Role) → Keeps_answers (answered role world) (state_of setup role world).calls.peer_open (invoked setup role world)
answers-kept setup once [] h role = begins
answers-kept setup once (Break ∷ world) h role = go setup.mode (answers-kept setup once world h.1 role)
  where
    go : (m : Mode) → Keeps_answers (answered role world) (state_of setup role world).calls.peer_open (invoked setup role world) → Keeps_answers (answered role world) (broken_calls m (state_of setup role world).calls).peer_open (invoked setup role world)
    go Bare k = cuts (answered role world) (state_of setup role world).calls.peer_open (invoked setup role world) k
    go Direct k = cuts (answered role world) (state_of setup role world).calls.peer_open (invoked setup role world) k
    go Reliable k = k
answers-kept setup once (By Initiator step ∷ world) h Initiator =
    step-answers setup Initiator (answered Initiator world) (state_of setup Initiator world) _ step (invoked setup Initiator world) h.0 (once (By Initiator step ∷ world) h Initiator) (answers-kept setup once world h.1 Initiator)
answers-kept setup once (By Responder step ∷ world) h Responder =
    step-answers setup Responder (answered Responder world) (state_of setup Responder world) _ step (invoked setup Responder world) h.0 (once (By Responder step ∷ world) h Responder) (answers-kept setup once world h.1 Responder)
answers-kept setup once (By Initiator step ∷ world) h Responder = answers-kept setup once world h.1 Responder
answers-kept setup once (By Responder step ∷ world) h Initiator = answers-kept setup once world h.1 Initiator

pub answered-once : (setup : ModelSetup) → InvokedOnce setup → AnsweredOnce setup
answered-once setup once world h role = (answers-kept setup once world h role).distinct
