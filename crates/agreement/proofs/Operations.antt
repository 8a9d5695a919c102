-- One operation: the numbers of the invocations that an end makes rise, so both ends know one operation by each.
use Rattle.std.proofs.Common.{◌≡◌, ℕ, suc, ◌≤◌, Bool, true, false, nat_eq, if◌then◌else◌, ◌||◌, List, [], ◌∷◌, ◌++◌, refl, sym, ap, ◌∙◌, arith, true≢false, subst, inl, inr, ◌⊎◌, eqb-true}
use Rattle.std.specs.Prelude.{Option, Some, None}
use Rattle.agreement.specs.Sets.{Role, other, Item}
use Rattle.agreement.specs.Sets.Role.{Initiator, Responder}
use Rattle.agreement.specs.Messages.{Apdu, Invocation, Calls, Value, Mode, ModelSetup, Message, Act, Choice}
use Rattle.agreement.specs.Messages.Mode.{Bare, Direct, Reliable}
use Rattle.agreement.specs.Messages.Apdu.{Invoke, Outcome, Reject}
use Rattle.agreement.specs.Messages.Act.{Connects, Recovers, SaysValue, Queues, Drops, Alters, Marks, GivesTurn, Pleads, Restarts, Starts, Encodes, Sends, EndsActivity, Interrupts, Discards, Resumes, Releases, Aborts, Withdraws, TransportFails}
use Rattle.agreement.specs.Messages.Choice.{Nothing, Accepting, Refusing, Results}
use Rattle.agreement.specs.Messages.Message.{Connect, Recover, Accept, Refuse, Data, Alter, AlterAnswer, Mark, MarkAnswer, Restart, RestartAnswer, Start, Resume, Chunk, End, EndAnswer, Interrupt, InterruptAnswer, Discard, DiscardAnswer, Give, GiveAnswer, Please, Release, ReleaseAnswer, UserAbort}
use Rattle.agreement.specs.State.{Handed, Transfer, State}
use Rattle.agreement.specs.Calls.{is_open, close, opened, may_answer, MayHandIn, handed_in, is_accepted, accepted, heard}
use Rattle.agreement.specs.Acts.{MayAct, acted, marked_in, gave_in}
use Rattle.agreement.specs.Takings.{taken, hears, handed_up, cut_item, marked_from, broken_calls, value_of}
use Rattle.agreement.specs.Worlds.{Step, World, state_of, IsRun, after}
use Rattle.agreement.specs.Worlds.Step.{Acts, Takes, Passes}
use Rattle.agreement.specs.Worlds.Moment.{By, Break}
use Rattle.agreement.specs.Laws.{TheOthersOwn, handed_by, all_handed, IsAmong, IsHandedIn, operation_of, Answer, answer_with, answers_by, answers, IsAnAnswer, OneOperation, OneInvocation}
use Rattle.agreement.proofs.Order.{by_test}
use Rattle.agreement.proofs.Answered.{answers-open}

-- an invocation of this number and operation was handed in
abbrev IsInvoke : ℕ → ℕ → Apdu → Type 0
IsInvoke n o (Invoke number operation link argument) = (number ≡ n) × (operation ≡ o)
IsInvoke n o apdu = ⊥

abbrev HasInvoke : ℕ → ℕ → List Apdu → Type 0
HasInvoke n o [] = ⊥
HasInvoke n o (a ∷ hs) = IsInvoke n o a ⊎ HasInvoke n o hs

has-more : (n o : ℕ) (new hs : List Apdu) → HasInvoke n o hs → HasInvoke n o (new ++ hs)
has-more n o [] hs h = h
has-more n o (a ∷ new) hs h = inr (has-more n o new hs h)

has-among : (n o : ℕ) (link : Option ℕ) (argument : List ℕ) (hs : List Apdu) → IsAmong (Invoke n o link argument) hs → HasInvoke n o hs
has-among n o link argument [] h = h
has-among n o link argument (a ∷ hs) (inl e) = inl (subst (IsInvoke n o) (sym e) (refl, refl))
has-among n o link argument (a ∷ hs) (inr h) = inr (has-among n o link argument hs h)

-- the numbers of the invocations that were handed in fall, from what was made
abbrev Falls : List Apdu → ℕ → Type 0
Falls [] made = Unit {0}
Falls (Invoke number operation link argument ∷ hs) made = (k : ℕ) × (number ≡ suc k) × (suc k ≤ made) × Falls hs k
Falls (Outcome number content ∷ hs) made = Falls hs made
Falls (Reject number problem ∷ hs) made = Falls hs made

has-below : (n o : ℕ) (hs : List Apdu) (made : ℕ) → Falls hs made → HasInvoke n o hs → n ≤ made
has-below n o [] made f h = absurd h
has-below n o (Invoke number operation link argument ∷ hs) made f (inl h) = let a = f.1 in let b = f.2 in let c = h.0 in omega arith
has-below n o (Invoke number operation link argument ∷ hs) made f (inr h) = let i = has-below n o hs f.0 f.3 h in let b = f.2 in omega arith
has-below n o (Outcome number content ∷ hs) made f (inl h) = absurd h
has-below n o (Outcome number content ∷ hs) made f (inr h) = has-below n o hs made f h
has-below n o (Reject number problem ∷ hs) made f (inl h) = absurd h
has-below n o (Reject number problem ∷ hs) made f (inr h) = has-below n o hs made f h

-- so each number has one operation
one-operation_of : (n o p : ℕ) (hs : List Apdu) (made : ℕ) → Falls hs made → HasInvoke n o hs → HasInvoke n p hs → o ≡ p
one-operation_of n o p [] made f h k = absurd h
one-operation_of n o p (Invoke number operation link argument ∷ hs) made f (inl h) (inl k) = sym h.1 ∙ k.1
one-operation_of n o p (Invoke number operation link argument ∷ hs) made f (inl h) (inr k) = absurd (let i = has-below n p hs f.0 f.3 k in let a = f.1 in let c = h.0 in omega arith)
one-operation_of n o p (Invoke number operation link argument ∷ hs) made f (inr h) (inl k) = absurd (let i = has-below n o hs f.0 f.3 h in let a = f.1 in let c = k.0 in omega arith)
one-operation_of n o p (Invoke number operation link argument ∷ hs) made f (inr h) (inr k) = one-operation_of n o p hs f.0 f.3 h k
one-operation_of n o p (Outcome number content ∷ hs) made f (inl h) k = absurd h
one-operation_of n o p (Outcome number content ∷ hs) made f (inr h) (inl k) = absurd k
one-operation_of n o p (Outcome number content ∷ hs) made f (inr h) (inr k) = one-operation_of n o p hs made f h k
one-operation_of n o p (Reject number problem ∷ hs) made f (inl h) k = absurd h
one-operation_of n o p (Reject number problem ∷ hs) made f (inr h) (inl k) = absurd k
one-operation_of n o p (Reject number problem ∷ hs) made f (inr h) (inr k) = one-operation_of n o p hs made f h k

-- all open invocations were handed in with their operations
abbrev AllFrom : List Apdu → List Invocation → Type 0
AllFrom hs [] = Unit {0}
AllFrom hs (call ∷ calls) = HasInvoke call.number call.operation hs × AllFrom hs calls

from-more : (new hs : List Apdu) (calls : List Invocation) → AllFrom hs calls → AllFrom (new ++ hs) calls
from-more new hs [] h = tt
from-more new hs (call ∷ calls) h = (has-more call.number call.operation new hs h.0, from-more new hs calls h.1)

from-close : (hs : List Apdu) (n : ℕ) (calls : List Invocation) → AllFrom hs calls → AllFrom hs (close n calls)
from-close hs n [] h = tt
from-close hs n (call ∷ calls) h = by_test (AllFrom hs) (nat_eq call.number n) _ _ (λ t. from-close hs n calls h.1) (λ t. (h.0, from-close hs n calls h.1))

from-opened : (setup : ModelSetup) (hs : List Apdu) (n o context : ℕ) (calls : List Invocation) → HasInvoke n o hs → AllFrom hs calls → AllFrom hs (opened setup n o context calls)
from-opened setup hs n o context calls i h = by_test (AllFrom hs) (setup.silent o) _ _ (λ t. h) (λ t. (i, h))

-- what is looked up of an open invocation
from-operation : (hs : List Apdu) (n : ℕ) (calls : List Invocation) → AllFrom hs calls → is_open n calls ≡ true → (o : ℕ) × (operation_of n calls ≡ Some o) × HasInvoke n o hs
from-operation hs n [] h e = absurd (true≢false (sym e))
from-operation hs n (call ∷ calls) h e = go (nat_eq call.number n) refl e (from-operation hs n calls h.1)
  where
    go : (b : Bool) → nat_eq call.number n ≡ b → (b || is_open n calls) ≡ true → (is_open n calls ≡ true → (o : ℕ) × (operation_of n calls ≡ Some o) × HasInvoke n o hs) → (o : ℕ) × ((if b then Some call.operation else operation_of n calls) ≡ Some o) × HasInvoke n o hs
    go true t e ih = (call.operation, refl, subst (λ k. HasInvoke k call.operation hs) (eqb-true call.number n t) h.0)
    go false t e ih = ih e

-- an outcome that may be handed in is of an open invocation, whose operation has it
answer-allowed : (setup : ModelSetup) (calls : List Invocation) (n : ℕ) (content : List ℕ) (o : ℕ) → operation_of n calls ≡ Some o → may_answer setup calls n content ≡ setup.allows o content
answer-allowed setup [] n content o e = absurd (cc)
answer-allowed setup (call ∷ calls) n content o e = go (nat_eq call.number n) e (answer-allowed setup calls n content o)
  where
    go : (b : Bool) → (if b then Some call.operation else operation_of n calls) ≡ Some o → (operation_of n calls ≡ Some o → may_answer setup calls n content ≡ setup.allows o content) → (if b then setup.allows call.operation content else may_answer setup calls n content) ≡ setup.allows o content
    go true e ih = ap (λ k. setup.allows k content) (some-path e)
      where
        some-path : Some call.operation ≡ Some o → call.operation ≡ o
        some-path e = cc
    go false e ih = ih e

-- the calls of an end, against what was handed in at it and at the other
record CallsFrom (hs ks : List Apdu) (calls : Calls) : Type 0 where
  pub falls : Falls hs calls.made
  pub own : AllFrom hs calls.own_open
  pub peer : AllFrom ks calls.peer_open

hands-from : (setup : ModelSetup) (hs ks : List Apdu) (calls : Calls) (due : List Handed) (context : ℕ) (apdu : Apdu) → MayHandIn setup calls due apdu → CallsFrom hs ks calls → CallsFrom (apdu ∷ hs) ks (handed_in setup calls context apdu)
hands-from setup hs ks calls due context (Invoke number operation link argument) m c =
    record {
      falls = (calls.made, m.0, self, c.falls);
      own = from-opened setup (Invoke number operation link argument ∷ hs) number operation context calls.own_open (inl (refl, refl)) (from-more (Invoke number operation link argument ∷ []) hs calls.own_open c.own);
      peer = c.peer;
    }
  where
    self : suc calls.made ≤ suc calls.made
    self = omega arith
hands-from setup hs ks calls due context (Outcome number content) m c =
    record { falls = c.falls; own = from-more (Outcome number content ∷ []) hs calls.own_open c.own; peer = from-close ks number calls.peer_open c.peer }
hands-from setup hs ks calls due context (Reject number problem) m c =
    record { falls = c.falls; own = from-more (Reject number problem ∷ []) hs calls.own_open c.own; peer = c.peer }

hears-from_apdu : (setup : ModelSetup) (hs ks : List Apdu) (calls : Calls) (context : ℕ) (apdu : Apdu) → IsHandedIn ks apdu → CallsFrom hs ks calls → CallsFrom hs ks (heard setup calls context apdu)
hears-from_apdu setup hs ks calls context apdu i c = by_test (CallsFrom hs ks) (is_accepted setup calls apdu) (accepted setup calls context apdu) calls (λ t. go apdu i) (λ t. c)
  where
    go : (a : Apdu) → IsHandedIn ks a → CallsFrom hs ks (accepted setup calls context a)
    go (Invoke number operation link argument) i =
        record { falls = c.falls; own = c.own; peer = from-opened setup ks number operation context calls.peer_open (has-among number operation link argument ks i) c.peer }
    go (Outcome number content) i = record { falls = c.falls; own = from-close hs number calls.own_open c.own; peer = c.peer }
    go (Reject number problem) i = record { falls = c.falls; own = from-close hs number calls.own_open c.own; peer = c.peer }

hears-from : (setup : ModelSetup) (hs ks : List Apdu) (v : Option Value) (x : State) → ((value : Value) → v ≡ Some value → IsHandedIn ks value.apdu) → CallsFrom hs ks x.calls → CallsFrom hs ks (hears setup v x).calls
hears-from setup hs ks None x i c = c
hears-from setup hs ks (Some v) x i c = hears-from_apdu setup hs ks x.calls v.identifier v.apdu (i v refl) c

cuts-from : (hs ks : List Apdu) (calls : Calls) → CallsFrom hs ks calls → CallsFrom hs ks (record calls { own_open = []; peer_open = [] })
cuts-from hs ks calls c = record { falls = c.falls; own = tt; peer = tt }

acts-from : (setup : ModelSetup) (role : Role) (x : State) (act : Act) (hs ks : List Apdu) → MayAct setup role x act → CallsFrom hs ks x.calls → CallsFrom (handed_by (Acts act) ++ hs) ks (acted setup x act).calls
acts-from setup role x Connects hs ks h c = c
acts-from setup role x Recovers hs ks h c = c
acts-from setup role x (SaysValue value) hs ks h c = hands-from setup hs ks x.calls x.outgoing.queue value.identifier value.apdu h.may_hand_in c
acts-from setup role x (Queues context apdu) hs ks h c = hands-from setup hs ks x.calls [] context apdu h.may_hand_in c
acts-from setup role x Drops hs ks h c = c
acts-from setup role x (Alters items) hs ks h c = c
acts-from setup role x Marks hs ks h c = go setup.mode
  where
    go : (m : Mode) → CallsFrom hs ks (marked_in m x).calls
    go Bare = c
    go Direct = c
    go Reliable = c
acts-from setup role x GivesTurn hs ks h c = go setup.mode
  where
    go : (m : Mode) → CallsFrom hs ks (gave_in m x).calls
    go Bare = c
    go Direct = c
    go Reliable = c
acts-from setup role x (Pleads priority) hs ks h c = c
acts-from setup role x (Restarts number) hs ks h c = c
acts-from setup role x Starts hs ks h c = c
acts-from setup role x (Encodes context) hs ks h c = c
acts-from setup role x (Sends octets) hs ks h c = c
acts-from setup role x EndsActivity hs ks h c = c
acts-from setup role x Interrupts hs ks h c = c
acts-from setup role x Discards hs ks h c = c
acts-from setup role x Resumes hs ks h c = c
acts-from setup role x Releases hs ks h c = c
acts-from setup role x Aborts hs ks h c = cuts-from hs ks x.calls c
acts-from setup role x Withdraws hs ks h c = cuts-from hs ks x.calls c
acts-from setup role x TransportFails hs ks h c = c

opens-from : (setup : ModelSetup) (role : Role) (x : State) (choice : Choice) (hs ks : List Apdu) → x.calls.made ≡ 0 → CallsFrom hs ks x.calls → CallsFrom hs ks (taken setup role x Connect choice).calls
opens-from setup role x (Accepting set) hs ks z c = record { falls = subst (Falls hs) z c.falls; own = tt; peer = tt }
opens-from setup role x Refusing hs ks z c = c
opens-from setup role x Nothing hs ks z c = c
opens-from setup role x (Results results) hs ks z c = c

recovers-from : (setup : ModelSetup) (role : Role) (x : State) (choice : Choice) (hs ks : List Apdu) → CallsFrom hs ks x.calls → CallsFrom hs ks (taken setup role x Recover choice).calls
recovers-from setup role x (Accepting set) hs ks c = c
recovers-from setup role x Refusing hs ks c = c
recovers-from setup role x Nothing hs ks c = c
recovers-from setup role x (Results results) hs ks c = c

alters-from : (setup : ModelSetup) (role : Role) (x : State) (items : List Item) (choice : Choice) (hs ks : List Apdu) → CallsFrom hs ks x.calls → CallsFrom hs ks (taken setup role x (Alter items) choice).calls
alters-from setup role x items (Results results) hs ks c = c
alters-from setup role x items (Accepting set) hs ks c = c
alters-from setup role x items Refusing hs ks c = c
alters-from setup role x items Nothing hs ks c = c

item-from : (t : Option Transfer) (calls : Calls) (hs ks : List Apdu) → CallsFrom hs ks calls → CallsFrom hs ks (cut_item t calls)
item-from None calls hs ks c = c
item-from (Some t) calls hs ks c = go t.item.apdu
  where
    go : (a : Apdu) → CallsFrom hs ks (cut_item (Some (record t { item = record t.item { apdu = a } })) calls)
    go (Invoke number operation link argument) = record { falls = c.falls; own = from-close hs number calls.own_open c.own; peer = c.peer }
    go (Outcome number content) = c
    go (Reject number problem) = c

takes-from : (setup : ModelSetup) (role : Role) (x : State) (m : Message) (choice : Choice) (hs ks : List Apdu) → (m ≡ Connect → x.calls.made ≡ 0) → ((value : Value) → value_of setup x m ≡ Some value → IsHandedIn ks value.apdu) → CallsFrom hs ks x.calls → CallsFrom hs ks (taken setup role x m choice).calls
takes-from setup role x Connect choice hs ks z i c = opens-from setup role x choice hs ks (z refl) c
takes-from setup role x Recover choice hs ks z i c = recovers-from setup role x choice hs ks c
takes-from setup role x (Accept set) choice hs ks z i c = c
takes-from setup role x Refuse choice hs ks z i c = c
takes-from setup role x (Data value) choice hs ks z i c = hears-from setup hs ks (Some value) x i c
takes-from setup role x (Alter items) choice hs ks z i c = alters-from setup role x items choice hs ks c
takes-from setup role x (AlterAnswer results) choice hs ks z i c = c
takes-from setup role x (Mark number) choice hs ks z i c = go setup.mode
  where
    go : (m : Mode) → CallsFrom hs ks (marked_from m number x).calls
    go Bare = c
    go Direct = c
    go Reliable = c
takes-from setup role x (MarkAnswer number) choice hs ks z i c = c
takes-from setup role x (Restart number list) choice hs ks z i c = cuts-from hs ks x.calls c
takes-from setup role x (RestartAnswer number list) choice hs ks z i c = cuts-from hs ks x.calls c
takes-from setup role x (Start activity) choice hs ks z i c = c
takes-from setup role x (Resume activity mark) choice hs ks z i c = c
takes-from setup role x (Chunk octets) choice hs ks z i c = c
takes-from setup role x (End number) choice hs ks z i c =
    hears-from setup hs ks (handed_up setup x.sets.held x.incoming) (record x { incoming = record x.incoming { was_handed = true; active = false } }) i c
takes-from setup role x (EndAnswer number) choice hs ks z i c = c
takes-from setup role x Interrupt choice hs ks z i c = c
takes-from setup role x InterruptAnswer choice hs ks z i c = c
takes-from setup role x Discard choice hs ks z i c = c
takes-from setup role x DiscardAnswer choice hs ks z i c = item-from x.outgoing.transfer x.calls hs ks c
takes-from setup role x Give choice hs ks z i c = c
takes-from setup role x GiveAnswer choice hs ks z i c = c
takes-from setup role x (Please priority) choice hs ks z i c = c
takes-from setup role x Release choice hs ks z i c = cuts-from hs ks x.calls c
takes-from setup role x ReleaseAnswer choice hs ks z i c = cuts-from hs ks x.calls c
takes-from setup role x UserAbort choice hs ks z i c = cuts-from hs ks x.calls c

broken-from : (mode : Mode) (calls : Calls) (hs ks : List Apdu) → CallsFrom hs ks calls → CallsFrom hs ks (broken_calls mode calls)
broken-from Bare calls hs ks c = cuts-from hs ks calls c
broken-from Direct calls hs ks c = cuts-from hs ks calls c
broken-from Reliable calls hs ks c = c

-- an opening is accepted where no invocation was made
abbrev pub OpensUnmade : ModelSetup → Type 0
OpensUnmade setup = (world : World) (role : Role) (choice : Choice) → IsRun setup (By role (Takes Connect choice) ∷ world) → (state_of setup role world).calls.made ≡ 0

step-from : (setup : ModelSetup) → TheOthersOwn setup → OpensUnmade setup → (role : Role) (world : World) (step : Step) → IsRun setup (By role step ∷ world) → CallsFrom (all_handed role world) (all_handed (other role) world) (state_of setup role world).calls → CallsFrom (handed_by step ++ all_handed role world) (all_handed (other role) world) (after setup role (state_of setup role world) step).calls
step-from setup own opens role world (Acts act) h c = acts-from setup role (state_of setup role world) act (all_handed role world) (all_handed (other role) world) h.0 c
step-from setup own opens role world (Takes m choice) h c =
    takes-from setup role (state_of setup role world) m choice (all_handed role world) (all_handed (other role) world)
    (λ e. opens world role choice (subst (λ q. IsRun setup (By role (Takes q choice) ∷ world)) e h)) (λ value e. own world role m choice value h e) c
step-from setup own opens role world (Passes m) h c = c

peer-from : (hs new ks : List Apdu) (calls : Calls) → CallsFrom hs ks calls → CallsFrom hs (new ++ ks) calls
peer-from hs new ks calls c = record { falls = c.falls; own = c.own; peer = from-more new ks calls.peer_open c.peer }

calls-from : (setup : ModelSetup) → TheOthersOwn setup → OpensUnmade setup → (world : World) → IsRun setup world → (role : Role) → CallsFrom (all_handed role world) (all_handed (other role) world) (state_of setup role world).calls
calls-from setup own opens [] h role = record { falls = tt; own = tt; peer = tt }
calls-from setup own opens (Break ∷ world) h role = broken-from setup.mode (state_of setup role world).calls (all_handed role world) (all_handed (other role) world) (calls-from setup own opens world h.1 role)
calls-from setup own opens (By Initiator step ∷ world) h Initiator = step-from setup own opens Initiator world step h (calls-from setup own opens world h.1 Initiator)
calls-from setup own opens (By Responder step ∷ world) h Responder = step-from setup own opens Responder world step h (calls-from setup own opens world h.1 Responder)
calls-from setup own opens (By Initiator step ∷ world) h Responder =
    peer-from (all_handed Responder world) (handed_by step) (all_handed Initiator world) (state_of setup Responder world).calls (calls-from setup own opens world h.1 Responder)
calls-from setup own opens (By Responder step ∷ world) h Initiator =
    peer-from (all_handed Initiator world) (handed_by step) (all_handed Responder world) (state_of setup Initiator world).calls (calls-from setup own opens world h.1 Initiator)

-- each outcome that was handed in answers an invocation that the other end handed in, and its operation has it
abbrev IsFrom : ModelSetup → List Apdu → Answer → Type 0
IsFrom setup ks answer = (o : ℕ) × (answer.operation ≡ Some o) × HasInvoke answer.number o ks × (setup.allows o answer.content ≡ true)

abbrev AllAnswers : ModelSetup → List Apdu → List Answer → Type 0
AllAnswers setup ks [] = Unit {0}
AllAnswers setup ks (answer ∷ answers) = IsFrom setup ks answer × AllAnswers setup ks answers

answers-more : (setup : ModelSetup) (new ks : List Apdu) (ans : List Answer) → AllAnswers setup ks ans → AllAnswers setup (new ++ ks) ans
answers-more setup new ks [] h = tt
answers-more setup new ks (a ∷ ans) h = ((h.0.0, h.0.1, has-more a.number h.0.0 new ks h.0.2, h.0.3), answers-more setup new ks ans h.1)

answer-from : (setup : ModelSetup) (x : State) (due : List Handed) (apdu : Apdu) (ks : List Apdu) (ans : List Answer) → MayHandIn setup x.calls due apdu → AllFrom ks x.calls.peer_open → AllAnswers setup ks ans → AllAnswers setup ks (answer_with x apdu ++ ans)
answer-from setup x due (Invoke number operation link argument) ks ans m p h = h
answer-from setup x due (Outcome number content) ks ans m p h =
    let f = from-operation ks number x.calls.peer_open p (answers-open setup x.calls.peer_open number content m) in
    ((f.0, f.1, f.2, sym (answer-allowed setup x.calls.peer_open number content f.0 f.1) ∙ m), h)
answer-from setup x due (Reject number problem) ks ans m p h = h

act-answers : (setup : ModelSetup) (role : Role) (x : State) (act : Act) (ks : List Apdu) (ans : List Answer) → MayAct setup role x act → AllFrom ks x.calls.peer_open → AllAnswers setup ks ans → AllAnswers setup ks (answers_by x (Acts act) ++ ans)
act-answers setup role x (SaysValue value) ks ans h p a = answer-from setup x x.outgoing.queue value.apdu ks ans h.may_hand_in p a
act-answers setup role x (Queues context apdu) ks ans h p a = answer-from setup x [] apdu ks ans h.may_hand_in p a
act-answers setup role x act ks ans h p a = a

step-answers : (setup : ModelSetup) (role : Role) (world : World) (step : Step) (ans : List Answer) → IsRun setup (By role step ∷ world) → AllFrom (all_handed (other role) world) (state_of setup role world).calls.peer_open → AllAnswers setup (all_handed (other role) world) ans → AllAnswers setup (all_handed (other role) world) (answers_by (state_of setup role world) step ++ ans)
step-answers setup role world (Acts act) ans h p a = act-answers setup role (state_of setup role world) act (all_handed (other role) world) ans h.0 p a
step-answers setup role world (Takes m choice) ans h p a = a
step-answers setup role world (Passes m) ans h p a = a

answers-from : (setup : ModelSetup) → TheOthersOwn setup → OpensUnmade setup → (world : World) → IsRun setup world → (role : Role) → AllAnswers setup (all_handed (other role) world) (answers setup role world)
answers-from setup own opens [] h role = tt
answers-from setup own opens (Break ∷ world) h role = answers-from setup own opens world h.1 role
answers-from setup own opens (By Initiator step ∷ world) h Initiator =
    step-answers setup Initiator world step (answers setup Initiator world) h (calls-from setup own opens world h.1 Initiator).peer (answers-from setup own opens world h.1 Initiator)
answers-from setup own opens (By Responder step ∷ world) h Responder =
    step-answers setup Responder world step (answers setup Responder world) h (calls-from setup own opens world h.1 Responder).peer (answers-from setup own opens world h.1 Responder)
answers-from setup own opens (By Initiator step ∷ world) h Responder = answers-more setup (handed_by step) (all_handed Initiator world) (answers setup Responder world) (answers-from setup own opens world h.1 Responder)
answers-from setup own opens (By Responder step ∷ world) h Initiator = answers-more setup (handed_by step) (all_handed Responder world) (answers setup Initiator world) (answers-from setup own opens world h.1 Initiator)

-- an outcome that was handed in is among the answers
record Found (number : ℕ) (content : List ℕ) (ans : List Answer) : Type 0 where
  pub operation : Option ℕ
  pub among : IsAnAnswer (record { number = number; content = content; operation = operation }) ans

found-later : (number : ℕ) (content : List ℕ) (new ans : List Answer) → Found number content ans → Found number content (new ++ ans)
found-later number content [] ans f = f
found-later number content (a ∷ new) ans f = let g = found-later number content new ans f in record { operation = g.operation; among = inr g.among }

found-with : (x : State) (number : ℕ) (content : List ℕ) (apdu : Apdu) (ans : List Answer) → apdu ≡ Outcome number content → Found number content (answer_with x apdu ++ ans)
found-with x number content apdu ans e =
    subst (λ a. Found number content (answer_with x a ++ ans)) (sym e) (record { operation = operation_of number x.calls.peer_open; among = inl refl })

among-step : (x : State) (number : ℕ) (content : List ℕ) (step : Step) (hs : List Apdu) (ans : List Answer) → IsAmong (Outcome number content) (handed_by step ++ hs) → (IsAmong (Outcome number content) hs → Found number content ans) → Found number content (answers_by x step ++ ans)
among-step x number content (Acts (SaysValue value)) hs ans (inl e) ih = found-with x number content value.apdu ans e
among-step x number content (Acts (SaysValue value)) hs ans (inr h) ih = found-later number content (answer_with x value.apdu) ans (ih h)
among-step x number content (Acts (Queues context apdu)) hs ans (inl e) ih = found-with x number content apdu ans e
among-step x number content (Acts (Queues context apdu)) hs ans (inr h) ih = found-later number content (answer_with x apdu) ans (ih h)
among-step x number content (Acts act) hs ans h ih = ih h
among-step x number content (Takes m choice) hs ans h ih = ih h
among-step x number content (Passes m) hs ans h ih = ih h

among-answers : (setup : ModelSetup) (number : ℕ) (content : List ℕ) (world : World) (role : Role) → IsAmong (Outcome number content) (all_handed role world) → Found number content (answers setup role world)
among-answers setup number content [] role h = absurd h
among-answers setup number content (Break ∷ world) role h = among-answers setup number content world role h
among-answers setup number content (By Initiator step ∷ world) Initiator h =
    among-step (state_of setup Initiator world) number content step (all_handed Initiator world) (answers setup Initiator world) h (among-answers setup number content world Initiator)
among-answers setup number content (By Responder step ∷ world) Responder h =
    among-step (state_of setup Responder world) number content step (all_handed Responder world) (answers setup Responder world) h (among-answers setup number content world Responder)
among-answers setup number content (By Initiator step ∷ world) Responder h = among-answers setup number content world Responder h
among-answers setup number content (By Responder step ∷ world) Initiator h = among-answers setup number content world Initiator h

answer-is : (setup : ModelSetup) (ks : List Apdu) (answer : Answer) (ans : List Answer) → IsAnAnswer answer ans → AllAnswers setup ks ans → IsFrom setup ks answer
answer-is setup ks answer [] i h = absurd i
answer-is setup ks answer (a ∷ ans) (inl e) h = subst (IsFrom setup ks) e h.0
answer-is setup ks answer (a ∷ ans) (inr i) h = answer-is setup ks answer ans i h.1

twice : (role : Role) → other (other role) ≡ role
twice Initiator = refl
twice Responder = refl

pub one-operation : (setup : ModelSetup) → TheOthersOwn setup → OpensUnmade setup → OneOperation setup
one-operation setup own opens world role m choice value number content h e is o =
    let x = state_of setup role world in
    let handed : IsAmong (Outcome number content) (all_handed (other role) world) = subst (IsHandedIn (all_handed (other role) world)) is (own world role m choice value h e) in
    let found = among-answers setup number content world (other role) handed in
    let there = subst (λ r. IsFrom setup (all_handed r world) (record { number = number; content = content; operation = found.operation })) (twice role) (answer-is setup (all_handed (other (other role)) world) (record { number = number; content = content; operation = found.operation }) (answers setup (other role) world) found.among (answers-from setup own opens world h.1 (other role))) in
    let mine = calls-from setup own opens world h.1 role in
    let here = from-operation (all_handed role world) number x.calls.own_open mine.own o in
    let same : there.0 ≡ here.0 = one-operation_of number there.0 here.0 (all_handed role world) x.calls.made mine.falls there.2 here.2 in
    let known : found.operation ≡ operation_of number x.calls.own_open = there.1 ∙ ap (λ k. Some k) same ∙ sym here.1 in (
      subst (λ k. IsAnAnswer (record { number = number; content = content; operation = k }) (answers setup (other role) world)) known found.among,
      answer-allowed setup x.calls.own_open number content here.0 here.1 ∙ ap (λ k. setup.allows k content) (sym same) ∙ there.3,
    )

-- and each number one invocation
same-invoke : (n o p : ℕ) (l m : Option ℕ) (a b : List ℕ) (hs : List Apdu) (made : ℕ) → Falls hs made → IsAmong (Invoke n o l a) hs → IsAmong (Invoke n p m b) hs → Invoke n o l a ≡ Invoke n p m b
same-invoke n o p l m a b [] made f h k = absurd h
same-invoke n o p l m a b (Invoke number operation link argument ∷ hs) made f (inl h) (inl k) = sym h ∙ k
same-invoke n o p l m a b (Invoke number operation link argument ∷ hs) made f (inl h) (inr k) =
    absurd (let i = has-below n p hs f.0 f.3 (has-among n p m b hs k) in let e = f.1 in let c : number ≡ n = cc in omega arith)
same-invoke n o p l m a b (Invoke number operation link argument ∷ hs) made f (inr h) (inl k) =
    absurd (let i = has-below n o hs f.0 f.3 (has-among n o l a hs h) in let e = f.1 in let c : number ≡ n = cc in omega arith)
same-invoke n o p l m a b (Invoke number operation link argument ∷ hs) made f (inr h) (inr k) = same-invoke n o p l m a b hs f.0 f.3 h k
same-invoke n o p l m a b (Outcome number content ∷ hs) made f (inl h) k = absurd (cc)
same-invoke n o p l m a b (Outcome number content ∷ hs) made f (inr h) (inl k) = absurd (cc)
same-invoke n o p l m a b (Outcome number content ∷ hs) made f (inr h) (inr k) = same-invoke n o p l m a b hs made f h k
same-invoke n o p l m a b (Reject number problem ∷ hs) made f (inl h) k = absurd (cc)
same-invoke n o p l m a b (Reject number problem ∷ hs) made f (inr h) (inl k) = absurd (cc)
same-invoke n o p l m a b (Reject number problem ∷ hs) made f (inr h) (inr k) = same-invoke n o p l m a b hs made f h k

pub one-invocation : (setup : ModelSetup) → TheOthersOwn setup → OpensUnmade setup → OneInvocation setup
one-invocation setup own opens world role n o p l m a b run h k =
    same-invoke n o p l m a b (all_handed role world) (state_of setup role world).calls.made (calls-from setup own opens world run role).falls h k
