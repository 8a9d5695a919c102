-- What was last encoded for an activity is the item that was started as that activity; and which openings are accepted.
use Rattle.std.proofs.Common.{◌≡◌, ℕ, suc, ◌≤◌, Bool, true, false, nat_eq, if◌then◌else◌, length, List, [], ◌∷◌, ◌++◌, refl, sym, ap, ◌∙◌, arith, subst}
use Rattle.std.specs.Prelude.{Option, Some, None}
use Rattle.std.proofs.lemmas.Bool.Decides.{nat_tests}
use Rattle.agreement.specs.Sets.{Role, ContextSet, Item}
use Rattle.agreement.specs.Sets.Role.{Initiator, Responder}
use Rattle.agreement.specs.Messages.{Apdu, Value, Mode, ModelSetup, Message, Act, Choice}
use Rattle.agreement.specs.Messages.Mode.{Bare, Direct, Reliable}
use Rattle.agreement.specs.Messages.Act.{Connects, Recovers, SaysValue, Queues, Drops, Alters, Marks, GivesTurn, Pleads, Restarts, Starts, Encodes, Sends, EndsActivity, Interrupts, Discards, Resumes, Releases, Aborts, Withdraws, TransportFails}
use Rattle.agreement.specs.Messages.Choice.{Nothing, Accepting, Refusing, Results}
use Rattle.agreement.specs.Messages.Message.{Connect, Recover, Accept, Refuse, Data, Alter, AlterAnswer, Mark, MarkAnswer, Restart, RestartAnswer, Start, Resume, Chunk, End, EndAnswer, Interrupt, InterruptAnswer, Discard, DiscardAnswer, Give, GiveAnswer, Please, Release, ReleaseAnswer, UserAbort}
use Rattle.agreement.specs.State.{Handed, Transfer, State}
use Rattle.agreement.specs.Acts.{MayAct, acted, started, marked_in, gave_in}
use Rattle.agreement.specs.Takings.{taken, hears, handed_up, marked_from, broken}
use Rattle.agreement.specs.Worlds.{Step, World, state_of, shared_at, IsRun, after}
use Rattle.agreement.specs.Worlds.Step.{Acts, Takes, Passes}
use Rattle.agreement.specs.Worlds.Moment.{By, Break}
use Rattle.agreement.specs.Laws.{NoAbortOfItself, Encoding, encoding_of, encoded_by, encodings, IsNewest, next_queued, started_after, items_started, item_of, IsOf, ItemsOfActivities}
use Rattle.agreement.proofs.Mail.{by-mode}
use Rattle.agreement.proofs.BareWorlds.{bare}
use Rattle.agreement.proofs.Views.{direct}
use Rattle.agreement.proofs.Standing.{reliable}
use Rattle.agreement.proofs.OnceAtOnce.{unmade-kept}
use Rattle.agreement.proofs.OnceByTransfers.{opens-in}
use Rattle.agreement.proofs.Operations.{OpensUnmade}

-- an opening is accepted by a new end alone
pub opens-unmade : ((setup : ModelSetup) → NoAbortOfItself setup) → (setup : ModelSetup) → OpensUnmade setup
opens-unmade n =
    by-mode OpensUnmade
    (λ base world role choice h. unmade-kept (bare base) (n (bare base)) (λ e. cc) world h.1 role (n (bare base) world role Connect choice h).is_unjoined)
    (λ base world role choice h. unmade-kept (direct base) (n (direct base)) (λ e. cc) world h.1 role (n (direct base) world role Connect choice h).is_unjoined)
    (λ base world role choice h. ap (λ (x : State). x.calls.made) (opens-in base (n (reliable base)) world role choice h h.0 h.1).new)

-- items by their number
item-newest : (k : ℕ) (item : Handed) (items : List Handed) → k ≡ suc (length items) → item_of k (item ∷ items) ≡ Some item
item-newest k item items e = grind (arith, nat_tests)

item-none : (items : List Handed) (k : ℕ) → suc (length items) ≤ k → item_of k items ≡ None
item-none [] k h = refl
item-none (item ∷ items) k h = go (nat_eq k (suc (length items))) refl (item-none items k (let b : suc (suc (length items)) ≤ k = h in omega arith))
  where
    go : (b : Bool) → nat_eq k (suc (length items)) ≡ b → item_of k items ≡ None → (if b then Some item else item_of k items) ≡ None
    go true e ih = absurd (over (same k (suc (length items)) e) h)
      where
        same : (i j : ℕ) → nat_eq i j ≡ true → i ≡ j
        same i j e = grind (arith, nat_tests)

        over : k ≡ suc (length items) → suc (suc (length items)) ≤ k → ⊥
        over e h = omega arith
    go false e ih = ih

item-zero : (items : List Handed) → item_of 0 items ≡ None
item-zero [] = refl
item-zero (item ∷ items) = let ih = item-zero items in grind (arith, nat_tests)

of-more : (a : Apdu) (k : ℕ) (item : Handed) (items : List Handed) → IsOf a (item_of k items) → IsOf a (item_of k (item ∷ items))
of-more a k item items h = go (nat_eq k (suc (length items))) refl
  where
    self : (n : ℕ) → n ≤ n
    self n = omega arith

    same : (i j : ℕ) → nat_eq i j ≡ true → j ≡ i
    same i j e = grind (arith, nat_tests)

    go : (b : Bool) → nat_eq k (suc (length items)) ≡ b → IsOf a (if b then Some item else item_of k items)
    go true e = absurd (subst (IsOf a) (item-none items k (subst (λ n. suc (length items) ≤ n) (same k (suc (length items)) e) (self (suc (length items))))) h)
    go false e = h

abbrev OnCurrent : List Handed → ℕ → Option Transfer → Type 0
OnCurrent items c None = Unit {0}
OnCurrent items c (Some t) = item_of c items ≡ Some t.item

abbrev NewestIs : List Encoding → List Handed → Type 0
NewestIs [] items = Unit {0}
NewestIs (e ∷ es) items = IsOf e.apdu (item_of e.activity items)

-- what was encoded, the items that were started, how many, and the current transfer
record ItemsKept (es : List Encoding) (items : List Handed) (c : ℕ) (t : Option Transfer) : Type 0 where
  pub count : c ≡ length items
  pub current : OnCurrent items c t
  pub newest : NewestIs es items
  pub fresh : c ≡ 0 → es ≡ []

abbrev KeptOf : List Encoding → List Handed → State → Type 0
KeptOf es items x = ItemsKept es items x.outgoing.started x.outgoing.transfer

newest-more : (es : List Encoding) (item : Handed) (items : List Handed) → NewestIs es items → NewestIs es (item ∷ items)
newest-more [] item items h = tt
newest-more (e ∷ es) item items h = of-more e.apdu e.activity item items h

starts-kept : (es : List Encoding) (items queue : List Handed) (c : ℕ) (t : Option Transfer) → (queue ≡ [] → ⊥) → ItemsKept es items c t → ItemsKept es (next_queued queue ++ items) (suc c) (started (record { started = c; transfer = t; queue = queue })).transfer
starts-kept es items [] c t h k = absurd (h refl)
starts-kept es items (item ∷ queue) c t h k =
    record {
      count = ap suc k.count;
      current = item-newest (suc c) item items (ap suc k.count);
      newest = newest-more es item items k.newest;
      fresh = λ e. absurd (never e);
    }
  where
    never : suc c ≡ 0 → ⊥
    never e = omega arith

encodes-kept : (es : List Encoding) (items : List Handed) (c : ℕ) (t : Transfer) (context : ℕ) (shared : ContextSet) → ItemsKept es items c (Some t) → ItemsKept (encoding_of (Some t) c shared context ++ es) items c (Some t)
encodes-kept es items c t context shared k =
    record {
      count = k.count;
      current = k.current;
      newest = subst (IsOf t.item.apdu) (sym k.current) refl;
      fresh = λ e. absurd (never e);
    }
  where
    never : c ≡ 0 → ⊥
    never e = let z = item-zero items in let s : item_of 0 items ≡ Some t.item = ap (λ n. item_of n items) (sym e) ∙ k.current in cc

abbrev with_transfer : State → Option Transfer → State
with_transfer x t = record x { outgoing = record x.outgoing { transfer = t } }

none-kept : (es : List Encoding) (items : List Handed) (c : ℕ) (t : Option Transfer) → ItemsKept es items c t → ItemsKept es items c None
none-kept es items c t k = record { count = k.count; current = tt; newest = k.newest; fresh = k.fresh }

some-kept : (es : List Encoding) (items : List Handed) (c : ℕ) (t u : Transfer) → u.item ≡ t.item → ItemsKept es items c (Some t) → ItemsKept es items c (Some u)
some-kept es items c t u e k = record { count = k.count; current = k.current ∙ ap (λ (i : Handed). Some i) (sym e); newest = k.newest; fresh = k.fresh }

acts-kept : (setup : ModelSetup) (role : Role) (x : State) (shared : ContextSet) (t : Option Transfer) (act : Act) (es : List Encoding) (items : List Handed) → MayAct setup role (with_transfer x t) act → ItemsKept es items x.outgoing.started t → KeptOf (encoded_by (with_transfer x t) shared (Acts act) ++ es) (started_after (with_transfer x t) (Acts act) items) (acted setup (with_transfer x t) act)
acts-kept setup role x shared t Connects es items h k = k
acts-kept setup role x shared t Recovers es items h k = k
acts-kept setup role x shared t (SaysValue value) es items h k = k
acts-kept setup role x shared t (Queues context apdu) es items h k = k
acts-kept setup role x shared t Drops es items h k = k
acts-kept setup role x shared t (Alters alterations) es items h k = k
acts-kept setup role x shared t Marks es items h k = go setup.mode t k
  where
    go : (m : Mode) (t : Option Transfer) → ItemsKept es items x.outgoing.started t → KeptOf es items (marked_in m (with_transfer x t))
    go Bare t k = k
    go Direct t k = k
    go Reliable None k = k
    go Reliable (Some t) k = some-kept es items x.outgoing.started t _ refl k
acts-kept setup role x shared t GivesTurn es items h k = go setup.mode
  where
    go : (m : Mode) → KeptOf es items (gave_in m (with_transfer x t))
    go Bare = k
    go Direct = k
    go Reliable = k
acts-kept setup role x shared t (Pleads priority) es items h k = k
acts-kept setup role x shared t (Restarts number) es items h k = k
acts-kept setup role x shared t Starts es items h k = starts-kept es items x.outgoing.queue x.outgoing.started t h.has_item k
acts-kept setup role x shared None (Encodes context) es items h k = absurd h.is_due
acts-kept setup role x shared (Some t) (Encodes context) es items h k =
    some-kept (encoding_of (Some t) x.outgoing.started shared context ++ es) items x.outgoing.started t _ refl (encodes-kept es items x.outgoing.started t context shared k)
acts-kept setup role x shared None (Sends octets) es items h k = k
acts-kept setup role x shared (Some t) (Sends octets) es items h k = some-kept es items x.outgoing.started t _ refl k
acts-kept setup role x shared None EndsActivity es items h k = k
acts-kept setup role x shared (Some t) EndsActivity es items h k = some-kept es items x.outgoing.started t _ refl k
acts-kept setup role x shared t Interrupts es items h k = k
acts-kept setup role x shared None Discards es items h k = k
acts-kept setup role x shared (Some t) Discards es items h k = some-kept es items x.outgoing.started t _ refl k
acts-kept setup role x shared None Resumes es items h k = k
acts-kept setup role x shared (Some t) Resumes es items h k = some-kept es items x.outgoing.started t _ refl k
acts-kept setup role x shared t Releases es items h k = k
acts-kept setup role x shared t Aborts es items h k = k
acts-kept setup role x shared t Withdraws es items h k = k
acts-kept setup role x shared t TransportFails es items h k = k

hears-kept : (setup : ModelSetup) (v : Option Value) (x : State) (es : List Encoding) (items : List Handed) → KeptOf es items x → KeptOf es items (hears setup v x)
hears-kept setup None x es items k = k
hears-kept setup (Some v) x es items k = k

opens-kept : (setup : ModelSetup) (role : Role) (x : State) (choice : Choice) (es : List Encoding) (items : List Handed) → x.outgoing.started ≡ 0 → KeptOf es items x → KeptOf es (started_after x (Takes Connect choice) items) (taken setup role x Connect choice)
opens-kept setup role x (Accepting set) es items z k =
    record { count = refl; current = tt; newest = subst (λ ys. NewestIs ys []) (sym (k.fresh z)) tt; fresh = λ e. k.fresh z }
opens-kept setup role x Refusing es items z k = k
opens-kept setup role x Nothing es items z k = k
opens-kept setup role x (Results results) es items z k = k

recovers-kept : (setup : ModelSetup) (role : Role) (x : State) (choice : Choice) (es : List Encoding) (items : List Handed) → KeptOf es items x → KeptOf es items (taken setup role x Recover choice)
recovers-kept setup role x (Accepting set) es items k = k
recovers-kept setup role x Refusing es items k = k
recovers-kept setup role x Nothing es items k = k
recovers-kept setup role x (Results results) es items k = k

alters-kept : (setup : ModelSetup) (role : Role) (x : State) (alterations : List Item) (choice : Choice) (es : List Encoding) (items : List Handed) → KeptOf es items x → KeptOf es items (taken setup role x (Alter alterations) choice)
alters-kept setup role x alterations (Results results) es items k = k
alters-kept setup role x alterations (Accepting set) es items k = k
alters-kept setup role x alterations Refusing es items k = k
alters-kept setup role x alterations Nothing es items k = k

takes-kept : (setup : ModelSetup) (role : Role) (x : State) (t : Option Transfer) (m : Message) (choice : Choice) (es : List Encoding) (items : List Handed) → (m ≡ Connect → x.outgoing.started ≡ 0) → ItemsKept es items x.outgoing.started t → KeptOf es (started_after (with_transfer x t) (Takes m choice) items) (taken setup role (with_transfer x t) m choice)
takes-kept setup role x t Connect choice es items z k = opens-kept setup role (with_transfer x t) choice es items (z refl) k
takes-kept setup role x t Recover choice es items z k = recovers-kept setup role (with_transfer x t) choice es items k
takes-kept setup role x t (Accept set) choice es items z k = k
takes-kept setup role x t Refuse choice es items z k = k
takes-kept setup role x t (Data value) choice es items z k = hears-kept setup (Some value) (with_transfer x t) es items k
takes-kept setup role x t (Alter alterations) choice es items z k = alters-kept setup role (with_transfer x t) alterations choice es items k
takes-kept setup role x t (AlterAnswer results) choice es items z k = k
takes-kept setup role x t (Mark number) choice es items z k = go setup.mode
  where
    go : (m : Mode) → KeptOf es items (marked_from m number (with_transfer x t))
    go Bare = k
    go Direct = k
    go Reliable = k
takes-kept setup role x None (MarkAnswer number) choice es items z k = k
takes-kept setup role x (Some t) (MarkAnswer number) choice es items z k = some-kept es items x.outgoing.started t _ refl k
takes-kept setup role x t (Restart number list) choice es items z k = k
takes-kept setup role x t (RestartAnswer number list) choice es items z k = k
takes-kept setup role x t (Start activity) choice es items z k = k
takes-kept setup role x t (Resume activity mark) choice es items z k = k
takes-kept setup role x t (Chunk octets) choice es items z k = k
takes-kept setup role x t (End number) choice es items z k =
    hears-kept setup (handed_up setup x.sets.held x.incoming) (record (with_transfer x t) { incoming = record x.incoming { was_handed = true; active = false } }) es items k
takes-kept setup role x t (EndAnswer number) choice es items z k = none-kept es items x.outgoing.started t k
takes-kept setup role x t Interrupt choice es items z k = k
takes-kept setup role x None InterruptAnswer choice es items z k = k
takes-kept setup role x (Some t) InterruptAnswer choice es items z k = some-kept es items x.outgoing.started t _ refl k
takes-kept setup role x t Discard choice es items z k = k
takes-kept setup role x t DiscardAnswer choice es items z k = none-kept es items x.outgoing.started t k
takes-kept setup role x t Give choice es items z k = k
takes-kept setup role x t GiveAnswer choice es items z k = k
takes-kept setup role x t (Please priority) choice es items z k = k
takes-kept setup role x t Release choice es items z k = k
takes-kept setup role x t ReleaseAnswer choice es items z k = k
takes-kept setup role x t UserAbort choice es items z k = k

breaks-kept : (setup : ModelSetup) (x : State) (t : Option Transfer) (es : List Encoding) (items : List Handed) → ItemsKept es items x.outgoing.started t → KeptOf es items (broken setup (with_transfer x t))
breaks-kept setup x None es items k = k
breaks-kept setup x (Some t) es items k = some-kept es items x.outgoing.started t _ refl k

-- in a run in which an opening is accepted by a new end alone
OpensUnstarted : ModelSetup → Type 0
OpensUnstarted setup = (world : World) (role : Role) (choice : Choice) → IsRun setup (By role (Takes Connect choice) ∷ world) → (state_of setup role world).outgoing.started ≡ 0

step-kept : (setup : ModelSetup) → OpensUnstarted setup → (role : Role) (world : World) (step : Step) → IsRun setup (By role step ∷ world) → KeptOf (encodings setup role world) (items_started setup role world) (state_of setup role world) → KeptOf (encoded_by (state_of setup role world) (shared_at setup world).set step ++ encodings setup role world) (started_after (state_of setup role world) step (items_started setup role world)) (after setup role (state_of setup role world) step)
unfolding OpensUnstarted
step-kept setup opens role world (Acts act) h k =
    acts-kept setup role (state_of setup role world) (shared_at setup world).set (state_of setup role world).outgoing.transfer act (encodings setup role world) (items_started setup role world) h.0 k
step-kept setup opens role world (Takes m choice) h k =
    takes-kept setup role (state_of setup role world) (state_of setup role world).outgoing.transfer m choice (encodings setup role world) (items_started setup role world)
    (λ e. opens world role choice (subst (λ q. IsRun setup (By role (Takes q choice) ∷ world)) e h)) k
step-kept setup opens role world (Passes m) h k = k

items-kept : (setup : ModelSetup) → OpensUnstarted setup → (world : World) → IsRun setup world → (role : Role) → KeptOf (encodings setup role world) (items_started setup role world) (state_of setup role world)
items-kept setup opens [] h role = record { count = refl; current = tt; newest = tt; fresh = λ e. refl }
items-kept setup opens (Break ∷ world) h role =
    breaks-kept setup (state_of setup role world) (state_of setup role world).outgoing.transfer (encodings setup role world) (items_started setup role world) (items-kept setup opens world h.1 role)
items-kept setup opens (By Initiator step ∷ world) h Initiator = step-kept setup opens Initiator world step h (items-kept setup opens world h.1 Initiator)
items-kept setup opens (By Responder step ∷ world) h Responder = step-kept setup opens Responder world step h (items-kept setup opens world h.1 Responder)
items-kept setup opens (By Initiator step ∷ world) h Responder = items-kept setup opens world h.1 Responder
items-kept setup opens (By Responder step ∷ world) h Initiator = items-kept setup opens world h.1 Initiator

newest-of : (es : List Encoding) (items : List Handed) (e : Encoding) → IsNewest e es → NewestIs es items → IsOf e.apdu (item_of e.activity items)
newest-of [] items e i h = absurd i
newest-of (first ∷ es) items e i h = subst (λ (q : Encoding). IsOf q.apdu (item_of q.activity items)) i h

items-of : (setup : ModelSetup) → OpensUnstarted setup → ItemsOfActivities setup
items-of setup opens world role e h i = newest-of (encodings setup role world) (items_started setup role world) e i (items-kept setup opens world h role).newest

-- out of reliable mode nothing is encoded
unencoded : (setup : ModelSetup) → (setup.mode ≡ Reliable → ⊥) → (world : World) → IsRun setup world → (role : Role) → encodings setup role world ≡ []
unencoded setup a [] h role = refl
unencoded setup a (Break ∷ world) h role = unencoded setup a world h.1 role
unencoded setup a (By Initiator step ∷ world) h Responder = unencoded setup a world h.1 Responder
unencoded setup a (By Responder step ∷ world) h Initiator = unencoded setup a world h.1 Initiator
unencoded setup a (By Initiator (Acts (Encodes context)) ∷ world) h Initiator = absurd (a h.0.by_transfers)
unencoded setup a (By Initiator step ∷ world) h Initiator = unencoded setup a world h.1 Initiator
unencoded setup a (By Responder (Acts (Encodes context)) ∷ world) h Responder = absurd (a h.0.by_transfers)
unencoded setup a (By Responder step ∷ world) h Responder = unencoded setup a world h.1 Responder

no-items : (setup : ModelSetup) → (setup.mode ≡ Reliable → ⊥) → ItemsOfActivities setup
no-items setup a world role e h i = absurd (subst (IsNewest e) (unencoded setup a world h role) i)

pub all-items : ((setup : ModelSetup) → NoAbortOfItself setup) → (setup : ModelSetup) → ItemsOfActivities setup
unfolding OpensUnstarted
all-items n =
    by-mode ItemsOfActivities
    (λ base. no-items (bare base) (λ e. cc))
    (λ base. no-items (direct base) (λ e. cc))
    (λ base. items-of (reliable base) (λ world role choice h. ap (λ (x : State). x.outgoing.started) (opens-in base (n (reliable base)) world role choice h h.0 h.1).new))
