-- In bare mode whatever is taken is accepted.
use Rattle.std.proofs.Common.{◌≡◌, true, false, if◌then◌else◌, List, [], ◌∷◌, ◌++◌, refl, sym, ap, ◌∙◌, subst, true≢false, ◌⊎◌, inl, inr}
use Rattle.agreement.specs.Sets.{Role, other}
use Rattle.agreement.specs.Messages.{Apdu, Value, ModelSetup, Message, Act, Choice}
use Rattle.agreement.specs.Messages.Mode.{Bare}
use Rattle.agreement.specs.Messages.Apdu.{Invoke, Outcome, Reject}
use Rattle.agreement.specs.Messages.Message.{Data}
use Rattle.agreement.specs.Messages.Act.{Connects, Recovers, SaysValue, Queues, Drops, Alters, Marks, GivesTurn, Pleads, Restarts, Starts, Encodes, Sends, EndsActivity, Interrupts, Discards, Resumes, Releases, Aborts, Withdraws, TransportFails}
use Rattle.agreement.specs.State.{State}
use Rattle.agreement.specs.State.Phase.{Idle, Up, Broken, Over}
use Rattle.agreement.specs.Calls.{MayHandIn, due_after, accepted, is_accepted, reject_of}
use Rattle.agreement.specs.Acts.{MayAct, acted, sent_by}
use Rattle.agreement.specs.State.Awaited.{NoAnswer}
use Rattle.agreement.specs.Takings.{taken, answer_to, broken, broken_phase, is_purged}
use Rattle.agreement.specs.Worlds.{World, Sending, Shared, sendings, shared_at, state_of, flight_to, IsStep, IsRun}
use Rattle.agreement.specs.Worlds.Step.{Takes}
use Rattle.agreement.specs.Worlds.Moment.{By}
use Rattle.agreement.proofs.Runs.{Relation, Keeps, at-role, reached}
use Rattle.agreement.proofs.BareWorlds.{bare, BareRelation, bare-keeps}
use Rattle.bare_duo.proofs.Live.{Live, live-swapped, live-took, live-said}

-- the values on their way
abbrev value_in : Message → List Value
value_in (Data value) = value ∷ []
value_in message = []

abbrev values_in : List Sending → List Value
values_in [] = []
values_in (s ∷ flight) = value_in s.message ++ values_in flight

values-append : (f g : List Sending) → values_in (f ++ g) ≡ values_in f ++ values_in g
values-append [] g = refl
values-append (s ∷ f) g = ap (λ vs. value_in s.message ++ vs) (values-append f g) ∙ sym (append-assoc (value_in s.message) (values_in f) (values_in g))
  where
    append-assoc : (a b c : List Value) → (a ++ b) ++ c ≡ a ++ (b ++ c)
    append-assoc [] b c = refl
    append-assoc (v ∷ a) b c = ap (λ vs. v ∷ vs) (append-assoc a b c)

nil-append : {A : Type 0} (xs : List A) → xs ++ [] ≡ xs
nil-append [] = refl
nil-append (x ∷ xs) = ap (λ ys. x ∷ ys) (nil-append xs)

-- both ends are up and live, or both are over
data Together (setup : ModelSetup) (x y : State) (f g : List Sending) : Type 0 where
  Lives : x.phase ≡ Up → y.phase ≡ Up → x.outgoing.queue ≡ [] → y.outgoing.queue ≡ [] → Live setup x.calls y.calls (values_in f) (values_in g) → Together setup x y f g
  Ended : x.phase ≡ Over → y.phase ≡ Over → Together setup x y f g

record BothLive (base : ModelSetup) (role : Role) (x y : State) (f g : List Sending) (shared : Shared) : Type 0 where
  plain : BareRelation base role x y f g shared
  together : Together (bare base) x y f g

abbrev LiveRelation : ModelSetup → Relation
LiveRelation base role x y f g shared = BothLive base role x y f g shared

swapped : (setup : ModelSetup) (x y : State) (f g : List Sending) → Together setup x y f g → Together setup y x g f
swapped setup x y f g (Lives p q r s l) = Lives q p s r (live-swapped setup x.calls y.calls (values_in f) (values_in g) l)
swapped setup x y f g (Ended p q) = Ended q p

-- ---- acts

up-only : (setup : ModelSetup) (x y : State) (f g : List Sending) → Together setup x y f g → (x.phase ≡ Up) ⊎ (x.phase ≡ Over)
up-only setup x y f g (Lives p q r s l) = inl p
up-only setup x y f g (Ended p q) = inr p

not-idle : (x : State) → (x.phase ≡ Up) ⊎ (x.phase ≡ Over) → x.phase ≡ Idle → ⊥
not-idle x (inl p) e = cc
not-idle x (inr p) e = cc

not-broken : (x : State) → (x.phase ≡ Up) ⊎ (x.phase ≡ Over) → x.phase ≡ Broken → ⊥
not-broken x (inl p) e = cc
not-broken x (inr p) e = cc

none-due : (a : Apdu) → due_after a [] ≡ []
none-due (Invoke number operation link argument) = refl
none-due (Outcome number content) = refl
none-due (Reject number problem) = refl

said : (base : ModelSetup) (role : Role) (x y : State) (f g : List Sending) (shared : Shared) (value : Value) → MayAct (bare base) role x (SaysValue value) → Together (bare base) x y f g → Together (bare base) (acted (bare base) x (SaysValue value)) y f (g ++ sendings shared.set (sent_by (bare base) x (SaysValue value)))
said base role x y f g shared value h (Ended p q) = absurd (let e = h.is_free.is_up in cc)
said base role x y f g shared value h (Lives p q r s l) =
    let s0 : Sending = record { message = Data value; shared = shared.set } in
    let may : MayHandIn (bare base) x.calls [] value.apdu = subst (λ due. MayHandIn (bare base) x.calls due value.apdu) r h.may_hand_in in
    let k = live-said (bare base) x.calls y.calls value (values_in f) (values_in g) l may in
    Lives p q (ap (due_after value.apdu) r ∙ none-due value.apdu) s
    (subst (Live (bare base) (acted (bare base) x (SaysValue value)).calls y.calls (values_in f)) (sym (values-append g (s0 ∷ []))) k)

dropped : (base : ModelSetup) (role : Role) (x y : State) (f g : List Sending) (shared : Shared) → MayAct (bare base) role x Drops → Together (bare base) x y f g → Together (bare base) (acted (bare base) x Drops) y f (g ++ sendings shared.set (sent_by (bare base) x Drops))
dropped base role x y f g shared h (Ended p q) = absurd (let e = h.is_free.is_up in cc)
dropped base role x y f g shared h (Lives p q r s l) = absurd (h.has_due r)

acts-live : (base : ModelSetup) (role : Role) (x y : State) (f g : List Sending) (shared : Shared) (act : Act) → Together (bare base) x y f g → MayAct (bare base) role x act → Together (bare base) (acted (bare base) x act) y f (g ++ sendings shared.set (sent_by (bare base) x act))
acts-live base role x y f g shared Connects t h = absurd (not-idle x (up-only (bare base) x y f g t) h.is_idle)
acts-live base role x y f g shared Recovers t h = absurd (not-broken x (up-only (bare base) x y f g t) h.is_broken)
acts-live base role x y f g shared (SaysValue value) t h = said base role x y f g shared value h t
acts-live base role x y f g shared (Queues context apdu) t h = absurd (let e = h.by_transfers in cc)
acts-live base role x y f g shared Drops t h = dropped base role x y f g shared h t
acts-live base role x y f g shared (Alters items) t h = absurd h.in_mode
acts-live base role x y f g shared Marks t h = absurd h.in_mode
acts-live base role x y f g shared GivesTurn t h = absurd h.in_mode
acts-live base role x y f g shared (Pleads priority) t h = absurd h.in_mode
acts-live base role x y f g shared (Restarts number) t h = absurd (let e = h.is_direct in cc)
acts-live base role x y f g shared Starts t h = absurd (let e = h.by_transfers in cc)
acts-live base role x y f g shared (Encodes context) t h = absurd (let e = h.by_transfers in cc)
acts-live base role x y f g shared (Sends octets) t h = absurd (let e = h.by_transfers in cc)
acts-live base role x y f g shared EndsActivity t h = absurd (let e = h.by_transfers in cc)
acts-live base role x y f g shared Interrupts t h = absurd (let e = h.by_transfers in cc)
acts-live base role x y f g shared Discards t h = absurd (let e = h.by_transfers in cc)
acts-live base role x y f g shared Resumes t h = absurd (let e = h.by_transfers in cc)
acts-live base role x y f g shared Releases t h = absurd h.in_mode
acts-live base role x y f g shared Aborts t h = absurd h.in_mode
acts-live base role x y f g shared Withdraws t h = absurd h.in_mode
acts-live base role x y f g shared TransportFails t h = absurd h.in_mode

-- ---- takings

-- what comes next is a value that is accepted
record TookLive (base : ModelSetup) (role : Role) (x y : State) (f g : List Sending) (shared : Shared) (value : Value) (choice : Choice) : Type 0 where
  accepts : is_accepted (bare base) x.calls value.apdu ≡ true
  next : Together (bare base) (taken (bare base) role x (Data value) choice) y f (g ++ sendings shared.set (answer_to (bare base) x (Data value) choice))

took-value : (base : ModelSetup) (role : Role) (x y : State) (s : Sending) (f g : List Sending) (shared : Shared) (value : Value) (choice : Choice) → s.message ≡ Data value → Together (bare base) x y (s ∷ f) g → (x.phase ≡ Over → ⊥) → TookLive base role x y f g shared value choice
took-value base role x y s f g shared value choice is (Ended p q) alive = absurd (alive p)
took-value base role x y s f g shared value choice is (Lives p q r u l) alive =
    let first : values_in (s ∷ f) ≡ value ∷ values_in f = ap (λ m. value_in m ++ values_in f) is in
    let k = live-took (bare base) x.calls y.calls value (values_in f) (values_in g) (subst (λ vs. Live (bare base) x.calls y.calls vs (values_in g)) first l) in
    let calls : (taken (bare base) role x (Data value) choice).calls ≡ accepted (bare base) x.calls value.identifier value.apdu = ap (λ b. if b then accepted (bare base) x.calls value.identifier value.apdu else x.calls) k.0 in
    let due : (taken (bare base) role x (Data value) choice).outgoing.queue ≡ [] =
    ap (λ b. x.outgoing.queue ++ (if b then [] else reject_of (bare base) x.calls value.identifier value.apdu)) k.0 ∙ nil-append x.outgoing.queue ∙ r in
    record {
      accepts = k.0;
      next = Lives p q due u
          (subst (λ gs. Live (bare base) (taken (bare base) role x (Data value) choice).calls y.calls (values_in f) (values_in gs)) (sym (nil-append g))
          (subst (λ c. Live (bare base) c y.calls (values_in f) (values_in g)) (sym calls) k.1));
    }

abbrev After : ModelSetup → Role → State → State → List Sending → List Sending → Shared → Message → Choice → Type 0
After base role x y f g shared m choice = Together (bare base) (taken (bare base) role x m choice) y f (g ++ sendings shared.set (answer_to (bare base) x m choice))

takes-live : (base : ModelSetup) (role : Role) (x y : State) (s : Sending) (f g : List Sending) (shared : Shared) (m : Message) (choice : Choice) → BothLive base role x y (s ∷ f) g shared → s.message ≡ m → (x.phase ≡ Over → ⊥) → After base role x y f g shared m choice
takes-live base role x y s f g shared m choice n e alive =
    let first = n.plain.to_me.0 in
    subst (λ k. After base role x y f g shared k choice) (sym first.is ∙ e) (took-value base role x y s f g shared first.value choice first.is n.together alive).next

-- ---- passings over, and breaks

passed-live : (base : ModelSetup) (role : Role) (x y : State) (s : Sending) (f g : List Sending) (shared : Shared) → BothLive base role x y (s ∷ f) g shared → (x.phase ≡ Over) ⊎ (false ≡ true) → Together (bare base) x y f g
passed-live base role x y s f g shared n (inr e) = cc
passed-live base role x y s f g shared n (inl over) = go n.together
  where
    go : Together (bare base) x y (s ∷ f) g → Together (bare base) x y f g
    go (Ended p q) = Ended p q
    go (Lives p q r u l) = cc

broke-live : (base : ModelSetup) (x y : State) (f g : List Sending) → Together (bare base) x y f g → Together (bare base) (broken (bare base) x) (broken (bare base) y) [] []
broke-live base x y f g (Lives p q r s l) = Ended (ap (broken_phase Bare) p) (ap (broken_phase Bare) q)
broke-live base x y f g (Ended p q) = Ended (ap (broken_phase Bare) p) (ap (broken_phase Bare) q)

-- ---- all worlds

live-keeps : (base : ModelSetup) → Keeps (bare base) (LiveRelation base)
live-keeps base =
    let k = bare-keeps base in
    record {
      starts = record { plain = k.starts; together = Lives refl refl refl refl (record { here = tt; there = tt; of_y = refl; of_x = refl; made_x = tt; made_y = tt }) };
      swaps = λ role x y f g shared n. record { plain = k.swaps role x y f g shared n.plain; together = swapped (bare base) x y f g n.together };
      acts = λ role x y f g shared act n h. record { plain = k.acts role x y f g shared act n.plain h; together = acts-live base role x y f g shared act n.together h };
      takes = λ role x y s f g shared m choice n e alive kept c. record { plain = k.takes role x y s f g shared m choice n.plain e alive kept c; together = takes-live base role x y s f g shared m choice n e alive };
      passes = λ role x y s f g shared m n e h. record { plain = k.passes role x y s f g shared m n.plain e h; together = passed-by base role x y s f g shared m n e h };
      breaks = λ role x y f g shared n. record { plain = k.breaks role x y f g shared n.plain; together = broke-live base x y f g n.together };
    }
  where
    passed-by : (base : ModelSetup) (role : Role) (x y : State) (s : Sending) (f g : List Sending) (shared : Shared) (m : Message) → BothLive base role x y (s ∷ f) g shared → s.message ≡ m → (x.phase ≡ Over) ⊎ (is_purged role x.awaits m ≡ true) → Together (bare base) x y f g
    passed-by base role x y s f g shared m n e (inl over) = passed-live base role x y s f g shared n (inl over)
    passed-by base role x y s f g shared m n e (inr purged) =
        absurd (true≢false (sym purged ∙ ap (λ w. is_purged role w m) n.plain.me.calm ∙ ap (is_purged role NoAnswer) (sym e ∙ n.plain.to_me.0.is)))

accepts-next : (base : ModelSetup) (role : Role) (x y : State) (f g : List Sending) (shared : Shared) (value : Value) (choice : Choice) → BothLive base role x y f g shared → IsStep (bare base) role x f (Takes (Data value) choice) → is_accepted (bare base) x.calls value.apdu ≡ true
accepts-next base role x y [] g shared value choice n h = absurd h.comes
accepts-next base role x y (s ∷ f) g shared value choice n h = (took-value base role x y s f g shared value choice h.comes n.together h.is_alive).accepts

-- Each value that is taken is accepted: between two ends of bare mode nothing is ever rejected.
abbrev pub AcceptsAll : ModelSetup → Type 0
AcceptsAll setup =
    (world : World) (role : Role) (value : Value) (choice : Choice) → IsRun setup (By role (Takes (Data value) choice) ∷ world) →
    is_accepted setup (state_of setup role world).calls value.apdu ≡ true

pub accepts-all : (base : ModelSetup) → AcceptsAll (bare base)
accepts-all base world role value choice h =
    accepts-next base role (state_of (bare base) role world) (state_of (bare base) (other role) world) (flight_to (bare base) role world) (flight_to (bare base) (other role) world) (shared_at (bare base) world) value choice
    (at-role (bare base) (LiveRelation base) (live-keeps base) role world (reached (bare base) (LiveRelation base) (live-keeps base) world h.1)) h.0
