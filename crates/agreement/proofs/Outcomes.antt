-- One outcome for an invocation: what one end keeps.
use Rattle.std.proofs.Common.{◌&&◌, not, ◌≡◌, ℕ, suc, ◌≤◌, Bool, true, false, ◌||◌, nat_eq, if◌then◌else◌, List, [], ◌∷◌, ◌++◌, refl, sym, ap, ◌∙◌, arith, true≢false, subst, eqb-true, inl, inr}
use Rattle.std.specs.Prelude.{Option, Some, None}
use Rattle.std.proofs.lemmas.Bool.Decides.{nat_tests}
use Rattle.agreement.specs.Sets.{Role, is_among, AreDistinct, Item}
use Rattle.agreement.specs.Sets.Role.{Initiator, Responder}
use Rattle.agreement.specs.Messages.{Apdu, Value, Mode, ModelSetup, Message, Act, Choice, Invocation, Calls, is_of_invocation}
use Rattle.agreement.specs.Messages.Mode.{Bare, Direct, Reliable}
use Rattle.agreement.specs.Messages.Apdu.{Invoke, Outcome, Reject}
use Rattle.agreement.specs.Messages.Act.{Connects, Recovers, SaysValue, Queues, Drops, Alters, Marks, GivesTurn, Pleads, Restarts, Starts, Encodes, Sends, EndsActivity, Interrupts, Discards, Resumes, Releases, Aborts, Withdraws, TransportFails}
use Rattle.agreement.specs.Messages.Choice.{Nothing, Accepting, Refusing, Results}
use Rattle.agreement.specs.Messages.Message.{Connect, Recover, Accept, Refuse, Data, Alter, AlterAnswer, Mark, MarkAnswer, Restart, RestartAnswer, Start, Resume, Chunk, End, EndAnswer, Interrupt, InterruptAnswer, Discard, DiscardAnswer, Give, GiveAnswer, Please, Release, ReleaseAnswer, UserAbort}
use Rattle.agreement.specs.State.{Handed, Transfer, State, no_calls}
use Rattle.agreement.specs.Calls.{is_link_allowed, is_open, close, opened, MayHandIn, handed_in, has_room, is_accepted, accepted, heard}
use Rattle.agreement.specs.Acts.{MayAct, acted, marked_in, gave_in}
use Rattle.agreement.specs.Takings.{taken, hears, between, handed_up, cut_item, marked_from, broken_calls}
use Rattle.agreement.specs.Worlds.{Step, World, Sending, state_of, IsStep, IsRun, after}
use Rattle.agreement.specs.Worlds.Step.{Acts, Takes, Passes}
use Rattle.agreement.specs.Worlds.Moment.{By, Break}
use Rattle.agreement.specs.Laws.{HasParent, AcceptedNamesOpen, outcome_in, outcomes_told_by, outcomes_told_after, outcomes_told, OneOutcome}
use Rattle.agreement.proofs.Order.{by_test}

-- numbers of invocations that are no longer open, and below what was made
abbrev AllClosed : List ℕ → List Invocation → ℕ → Type 0
AllClosed [] calls made = Unit {0}
AllClosed (n ∷ ns) calls made = (is_open n calls ≡ false) × (n ≤ made) × AllClosed ns calls made

abbrev AllMade : List Invocation → ℕ → Type 0
AllMade [] made = Unit {0}
AllMade (call ∷ calls) made = (call.number ≤ made) × AllMade calls made

record Keeps_calls (ts : List ℕ) (calls : Calls) : Type 0 where
  pub distinct : AreDistinct ts
  pub closed : AllClosed ts calls.own_open calls.made
  pub made : AllMade calls.own_open calls.made

pub close-closed : (k n : ℕ) (calls : List Invocation) → is_open k calls ≡ false → is_open k (close n calls) ≡ false
close-closed k n [] h = refl
close-closed k n (call ∷ calls) h = let ih = close-closed k n calls in grind (arith, nat_tests)

pub close-gone : (n : ℕ) (calls : List Invocation) → is_open n (close n calls) ≡ false
close-gone n [] = refl
close-gone n (call ∷ calls) = let ih = close-gone n calls in grind (arith, nat_tests)

all-close : (ts : List ℕ) (n : ℕ) (calls : List Invocation) (made : ℕ) → AllClosed ts calls made → AllClosed ts (close n calls) made
all-close [] n calls made h = tt
all-close (k ∷ ts) n calls made h = (close-closed k n calls h.0, h.1, all-close ts n calls made h.2)

made-close : (n : ℕ) (calls : List Invocation) (made : ℕ) → AllMade calls made → AllMade (close n calls) made
made-close n [] made h = tt
made-close n (call ∷ calls) made h = by_test (λ x. AllMade x made) (nat_eq call.number n) _ _ (λ t. made-close n calls made h.1) (λ t. (h.0, made-close n calls made h.1))

open-made : (n : ℕ) (calls : List Invocation) (made : ℕ) → AllMade calls made → is_open n calls ≡ true → n ≤ made
open-made n [] made h o = absurd (true≢false (sym o))
open-made n (call ∷ calls) made h o = go (open-made n calls made h.1) (nat_eq call.number n) refl o
  where
    go : (is_open n calls ≡ true → n ≤ made) → (b : Bool) → nat_eq call.number n ≡ b → (b || is_open n calls) ≡ true → n ≤ made
    go ih true e o = let s = eqb-true call.number n e in let b = h.0 in omega arith
    go ih false e o = ih o

fresh : (ts : List ℕ) (n : ℕ) (calls : List Invocation) (made : ℕ) → AllClosed ts calls made → is_open n calls ≡ true → is_among n ts ≡ false
fresh [] n calls made h o = refl
fresh (k ∷ ts) n calls made h o = go (nat_eq n k) refl (fresh ts n calls made h.2 o)
  where
    go : (b : Bool) → nat_eq n k ≡ b → is_among n ts ≡ false → (b || is_among n ts) ≡ false
    go true e i = absurd (true≢false (sym o ∙ ap (λ x. is_open x calls) (eqb-true n k e) ∙ h.0))
    go false e i = i

-- a new invocation opens
closed-opened : (setup : ModelSetup) (ts : List ℕ) (operation context : ℕ) (calls : List Invocation) (made : ℕ) → AllClosed ts calls made → AllClosed ts (opened setup (suc made) operation context calls) (suc made)
closed-opened setup [] operation context calls made h = tt
closed-opened setup (k ∷ ts) operation context calls made h =
    (by_test (λ x. is_open k x ≡ false) (setup.silent operation) _ _ (λ t. h.0) (λ t. other), more, closed-opened setup ts operation context calls made h.2)
  where
    more : k ≤ suc made
    more = let b = h.1 in omega arith

    other : (nat_eq (suc made) k || is_open k calls) ≡ false
    other = let b = h.1 in let o = h.0 in grind (arith, nat_tests)

made-more : (calls : List Invocation) (made : ℕ) → AllMade calls made → AllMade calls (suc made)
made-more [] made h = tt
made-more (call ∷ calls) made h = (more, made-more calls made h.1)
  where
    more : call.number ≤ suc made
    more = let b = h.0 in omega arith

made-opened : (setup : ModelSetup) (operation context : ℕ) (calls : List Invocation) (made : ℕ) → AllMade calls made → AllMade (opened setup (suc made) operation context calls) (suc made)
made-opened setup operation context calls made h =
    by_test (λ x. AllMade x (suc made)) (setup.silent operation) _ _ (λ t. made-more calls made h) (λ t. (self, made-more calls made h))
  where
    self : suc made ≤ suc made
    self = omega arith

hands-in : (setup : ModelSetup) (ts : List ℕ) (calls : Calls) (due : List Handed) (context : ℕ) (apdu : Apdu) → MayHandIn setup calls due apdu → Keeps_calls ts calls → Keeps_calls ts (handed_in setup calls context apdu)
hands-in setup ts calls due context (Invoke number operation link argument) m k =
    subst (λ n. Keeps_calls ts (record calls { own_open = opened setup n operation context calls.own_open; made = suc calls.made })) (sym m.0)
    (record { distinct = k.distinct; closed = closed-opened setup ts operation context calls.own_open calls.made k.closed; made = made-opened setup operation context calls.own_open calls.made k.made })
hands-in setup ts calls due context (Outcome number content) m k = record { distinct = k.distinct; closed = k.closed; made = k.made }
hands-in setup ts calls due context (Reject number b) m k = k

-- the calls alone after a cut
cuts : (ts : List ℕ) (calls : Calls) → Keeps_calls ts calls → Keeps_calls ts (record calls { own_open = []; peer_open = [] })
cuts ts calls k = record { distinct = k.distinct; closed = all ts k.closed; made = tt }
  where
    all : (xs : List ℕ) → AllClosed xs calls.own_open calls.made → AllClosed xs [] calls.made
    all [] h = tt
    all (x ∷ xs) h = (refl, h.1, all xs h.2)

closes : (ts : List ℕ) (calls : Calls) (n : ℕ) → Keeps_calls ts calls → Keeps_calls ts (record calls { own_open = close n calls.own_open })
closes ts calls n k = record { distinct = k.distinct; closed = all-close ts n calls.own_open calls.made k.closed; made = made-close n calls.own_open calls.made k.made }

tells : (ts : List ℕ) (calls : Calls) (n : ℕ) → is_open n calls.own_open ≡ true → Keeps_calls ts calls → Keeps_calls (n ∷ ts) (record calls { own_open = close n calls.own_open })
tells ts calls n o k =
    record {
      distinct = (fresh ts n calls.own_open calls.made k.closed o, k.distinct);
      closed = (close-gone n calls.own_open, open-made n calls.own_open calls.made k.made o, all-close ts n calls.own_open calls.made k.closed);
      made = made-close n calls.own_open calls.made k.made;
    }

pub both-true : (b c : Bool) → (not b && c) ≡ true → (b ≡ false) × (c ≡ true)
both-true true c h = absurd (true≢false (sym h))
both-true false c h = (refl, h)

pub right-true : (b c : Bool) → (b && c) ≡ true → c ≡ true
right-true true c h = h
right-true false c h = absurd (true≢false (sym h))

pub left-true : (b c : Bool) → (b && c) ≡ true → b ≡ true
left-true true c h = refl
left-true false c h = h

-- an APDU is heard
hears-apdu : (setup : ModelSetup) (ts : List ℕ) (calls : Calls) (context : ℕ) (apdu : Apdu) → Keeps_calls ts calls → Keeps_calls ((if is_accepted setup calls apdu then outcome_in apdu else []) ++ ts) (heard setup calls context apdu)
hears-apdu setup ts calls context apdu k = go (is_accepted setup calls apdu) refl
  where
    takes : (a : Apdu) → is_accepted setup calls a ≡ true → Keeps_calls (outcome_in a ++ ts) (accepted setup calls context a)
    takes (Invoke number operation link argument) e = record { distinct = k.distinct; closed = k.closed; made = k.made }
    takes (Outcome number content) e = tells ts calls number e k
    takes (Reject number problem) e = tells ts calls number (right-true (is_of_invocation problem) (is_open number calls.own_open) e) k

    go : (b : Bool) → is_accepted setup calls apdu ≡ b → Keeps_calls ((if b then outcome_in apdu else []) ++ ts) (if b then accepted setup calls context apdu else calls)
    go true e = takes apdu e
    go false e = k

hears-value : (setup : ModelSetup) (ts : List ℕ) (x : State) (v : Option Value) → Keeps_calls ts x.calls → Keeps_calls (outcomes_told_by setup x v ++ ts) (hears setup v x).calls
hears-value setup ts x None k = k
hears-value setup ts x (Some v) k = hears-apdu setup ts x.calls v.identifier v.apdu k

acts-calls : (setup : ModelSetup) (role : Role) (ts : List ℕ) (x : State) (act : Act) → MayAct setup role x act → Keeps_calls ts x.calls → Keeps_calls ts (acted setup x act).calls
acts-calls setup role ts x Connects h k = k
acts-calls setup role ts x Recovers h k = k
acts-calls setup role ts x (SaysValue value) h k = hands-in setup ts x.calls x.outgoing.queue value.identifier value.apdu h.may_hand_in k
acts-calls setup role ts x (Queues context apdu) h k = hands-in setup ts x.calls [] context apdu h.may_hand_in k
acts-calls setup role ts x Drops h k = k
acts-calls setup role ts x (Alters items) h k = k
acts-calls setup role ts x Marks h k = go setup.mode
  where
    go : (m : Mode) → Keeps_calls ts (marked_in m x).calls
    go Bare = k
    go Direct = k
    go Reliable = k
acts-calls setup role ts x GivesTurn h k = go setup.mode
  where
    go : (m : Mode) → Keeps_calls ts (gave_in m x).calls
    go Bare = k
    go Direct = k
    go Reliable = k
acts-calls setup role ts x (Pleads priority) h k = k
acts-calls setup role ts x (Restarts number) h k = k
acts-calls setup role ts x Starts h k = k
acts-calls setup role ts x (Encodes context) h k = k
acts-calls setup role ts x (Sends octets) h k = k
acts-calls setup role ts x EndsActivity h k = k
acts-calls setup role ts x Interrupts h k = k
acts-calls setup role ts x Discards h k = k
acts-calls setup role ts x Resumes h k = k
acts-calls setup role ts x Releases h k = k
acts-calls setup role ts x Aborts h k = cuts ts x.calls k
acts-calls setup role ts x Withdraws h k = cuts ts x.calls k
acts-calls setup role ts x TransportFails h k = k

cuts-item : (ts : List ℕ) (t : Option Transfer) (calls : Calls) → Keeps_calls ts calls → Keeps_calls ts (cut_item t calls)
cuts-item ts None calls k = k
cuts-item ts (Some t) calls k = go t.item.apdu
  where
    go : (a : Apdu) → Keeps_calls ts (cut_item (Some (record t { item = record t.item { apdu = a } })) calls)
    go (Invoke number operation link argument) = closes ts calls number k
    go (Outcome number content) = k
    go (Reject number b) = k

begins-calls : Keeps_calls [] no_calls
begins-calls = record { distinct = tt; closed = tt; made = tt }

opens-calls : (setup : ModelSetup) (role : Role) (ts : List ℕ) (x : State) (choice : Choice) → Keeps_calls ts x.calls → Keeps_calls (outcomes_told_after setup x (Takes Connect choice) ts) (taken setup role x Connect choice).calls
opens-calls setup role ts x (Accepting set) k = begins-calls
opens-calls setup role ts x Refusing k = k
opens-calls setup role ts x Nothing k = k
opens-calls setup role ts x (Results results) k = k

recovers-calls : (setup : ModelSetup) (role : Role) (ts : List ℕ) (x : State) (choice : Choice) → Keeps_calls ts x.calls → Keeps_calls ts (taken setup role x Recover choice).calls
recovers-calls setup role ts x (Accepting set) k = k
recovers-calls setup role ts x Refusing k = k
recovers-calls setup role ts x Nothing k = k
recovers-calls setup role ts x (Results results) k = k

alters-calls : (setup : ModelSetup) (role : Role) (ts : List ℕ) (x : State) (items : List Item) (choice : Choice) → Keeps_calls ts x.calls → Keeps_calls ts (taken setup role x (Alter items) choice).calls
alters-calls setup role ts x items (Results results) k = k
alters-calls setup role ts x items (Accepting set) k = k
alters-calls setup role ts x items Refusing k = k
alters-calls setup role ts x items Nothing k = k

between-calls : (ts : List ℕ) (x : State) → Keeps_calls ts x.calls → Keeps_calls ts (between x).calls
between-calls ts x k = k

takes-calls : (setup : ModelSetup) (role : Role) (ts : List ℕ) (x : State) (m : Message) (choice : Choice) → Keeps_calls ts x.calls → Keeps_calls (outcomes_told_after setup x (Takes m choice) ts) (taken setup role x m choice).calls
takes-calls setup role ts x Connect choice k = opens-calls setup role ts x choice k
takes-calls setup role ts x Recover choice k = recovers-calls setup role ts x choice k
takes-calls setup role ts x (Accept set) choice k = k
takes-calls setup role ts x Refuse choice k = k
takes-calls setup role ts x (Data value) choice k = hears-apdu setup ts x.calls value.identifier value.apdu k
takes-calls setup role ts x (Alter items) choice k = alters-calls setup role ts x items choice k
takes-calls setup role ts x (AlterAnswer results) choice k = k
takes-calls setup role ts x (Mark number) choice k = go setup.mode
  where
    go : (m : Mode) → Keeps_calls ts (marked_from m number x).calls
    go Bare = k
    go Direct = k
    go Reliable = k
takes-calls setup role ts x (MarkAnswer number) choice k = k
takes-calls setup role ts x (Restart number list) choice k = cuts ts x.calls k
takes-calls setup role ts x (RestartAnswer number list) choice k = cuts ts x.calls k
takes-calls setup role ts x (Start activity) choice k = k
takes-calls setup role ts x (Resume activity mark) choice k = k
takes-calls setup role ts x (Chunk octets) choice k = k
takes-calls setup role ts x (End number) choice k =
    hears-value setup ts (record x { incoming = record x.incoming { was_handed = true; active = false } }) (handed_up setup x.sets.held x.incoming) k
takes-calls setup role ts x (EndAnswer number) choice k = k
takes-calls setup role ts x Interrupt choice k = k
takes-calls setup role ts x InterruptAnswer choice k = k
takes-calls setup role ts x Discard choice k = k
takes-calls setup role ts x DiscardAnswer choice k = cuts-item ts x.outgoing.transfer x.calls k
takes-calls setup role ts x Give choice k = k
takes-calls setup role ts x GiveAnswer choice k = k
takes-calls setup role ts x (Please priority) choice k = k
takes-calls setup role ts x Release choice k = cuts ts x.calls k
takes-calls setup role ts x ReleaseAnswer choice k = cuts ts x.calls k
takes-calls setup role ts x UserAbort choice k = cuts ts x.calls k

step-calls : (setup : ModelSetup) (role : Role) (ts : List ℕ) (x : State) (flight : List Sending) (step : Step) → IsStep setup role x flight step → Keeps_calls ts x.calls → Keeps_calls (outcomes_told_after setup x step ts) (after setup role x step).calls
step-calls setup role ts x flight (Acts act) h k = acts-calls setup role ts x act h k
step-calls setup role ts x flight (Takes m choice) h k = takes-calls setup role ts x m choice k
step-calls setup role ts x flight (Passes m) h k = k

calls-kept : (setup : ModelSetup) (world : World) → IsRun setup world → (role : Role) → Keeps_calls (outcomes_told setup role world) (state_of setup role world).calls
calls-kept setup [] h role = begins-calls
calls-kept setup (Break ∷ world) h role = go setup.mode (calls-kept setup world h.1 role)
  where
    go : (m : Mode) → Keeps_calls (outcomes_told setup role world) (state_of setup role world).calls → Keeps_calls (outcomes_told setup role world) (broken_calls m (state_of setup role world).calls)
    go Bare k = cuts (outcomes_told setup role world) (state_of setup role world).calls k
    go Direct k = cuts (outcomes_told setup role world) (state_of setup role world).calls k
    go Reliable k = k
calls-kept setup (By Initiator step ∷ world) h Initiator = step-calls setup Initiator (outcomes_told setup Initiator world) (state_of setup Initiator world) _ step h.0 (calls-kept setup world h.1 Initiator)
calls-kept setup (By Responder step ∷ world) h Responder = step-calls setup Responder (outcomes_told setup Responder world) (state_of setup Responder world) _ step h.0 (calls-kept setup world h.1 Responder)
calls-kept setup (By Initiator step ∷ world) h Responder = calls-kept setup world h.1 Responder
calls-kept setup (By Responder step ∷ world) h Initiator = calls-kept setup world h.1 Initiator

pub one-outcome : (setup : ModelSetup) → OneOutcome setup
one-outcome setup world h role = (calls-kept setup world h role).distinct

-- what is accepted names what is open
link-open : (setup : ModelSetup) (calls : List Invocation) (operation parent : ℕ) → is_link_allowed setup calls operation (Some parent) ≡ true → HasParent setup calls operation parent
link-open setup [] operation parent h = absurd (true≢false (sym h))
link-open setup (call ∷ calls) operation parent h = go (link-open setup calls operation parent) (nat_eq call.number parent) refl h
  where
    go : (is_link_allowed setup calls operation (Some parent) ≡ true → HasParent setup calls operation parent) → (b : Bool) → nat_eq call.number parent ≡ b → (if b then setup.links call.operation operation else is_link_allowed setup calls operation (Some parent)) ≡ true → HasParent setup (call ∷ calls) operation parent
    go ih true e h = inl (eqb-true call.number parent e, h)
    go ih false e h = inr (ih h)

pub accepted-names_open : (setup : ModelSetup) → AcceptedNamesOpen setup
accepted-names_open setup calls (Invoke number operation None argument) h =
    (both-true (is_open number calls.peer_open) (has_room setup operation calls.peer_open) (left-true _ true h)).0
accepted-names_open setup calls (Invoke number operation (Some parent) argument) h =
    let link = is_link_allowed setup calls.own_open operation (Some parent) in
    let both = not (is_open number calls.peer_open) && has_room setup operation calls.peer_open in (
      (both-true (is_open number calls.peer_open) (has_room setup operation calls.peer_open) (left-true both link h)).0,
      link-open setup calls.own_open operation parent (right-true both link h),
    )
accepted-names_open setup calls (Outcome number content) h = h
accepted-names_open setup calls (Reject number problem) h = right-true (is_of_invocation problem) (is_open number calls.own_open) h
