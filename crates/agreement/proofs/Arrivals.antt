-- Transfers arrive at most once: what one end keeps.
use Rattle.std.proofs.Common.{◌≡◌, ℕ, suc, ◌<◌, ◌≤◌, Bool, true, false, nat_eq, if◌then◌else◌, List, [], ◌∷◌, ◌++◌, refl, arith, subst, inl, inr}
use Rattle.std.specs.Prelude.{Option, Some, None}
use Rattle.std.proofs.lemmas.Bool.{eqb-false}
use Rattle.agreement.specs.Sets.{Role, Item}
use Rattle.agreement.specs.Sets.Role.{Initiator, Responder}
use Rattle.agreement.specs.Messages.{Value, Mode, ModelSetup, Message, Act, Choice}
use Rattle.agreement.specs.Messages.Mode.{Bare, Direct, Reliable}
use Rattle.agreement.specs.Messages.Act.{Marks, GivesTurn}
use Rattle.agreement.specs.Messages.Choice.{Nothing, Accepting, Refusing, Results}
use Rattle.agreement.specs.Messages.Message.{Connect, Recover, Accept, Refuse, Data, Alter, AlterAnswer, Mark, MarkAnswer, Restart, RestartAnswer, Start, Resume, Chunk, End, EndAnswer, Interrupt, InterruptAnswer, Discard, DiscardAnswer, Give, GiveAnswer, Please, Release, ReleaseAnswer, UserAbort}
use Rattle.agreement.specs.State.{Incoming, State, up_to}
use Rattle.agreement.specs.Acts.{acted, marked_in, gave_in}
use Rattle.agreement.specs.Takings.{MayTake, MayResumeAt, taken, hears, handed_up, value_read, marked_from, resumed_in}
use Rattle.agreement.specs.Worlds.{Step, World, state_of, IsRun, after}
use Rattle.agreement.specs.Worlds.Step.{Acts, Takes, Passes}
use Rattle.agreement.specs.Worlds.Moment.{By, Break}
use Rattle.agreement.specs.Laws.{arrived_of, arrived_after, arrived, AreFalling, ArriveOnce, NoAbortOfItself}

-- the newest that was handed up, against the record
abbrev pub Under : Bool → ℕ → List ℕ → Type 0
Under handed last [] = Unit {0}
Under true last (n ∷ rest) = n ≤ last
Under false last (n ∷ rest) = n < last

pub record Falls (ns : List ℕ) (incoming : Incoming) : Type 0 where
  pub falling : AreFalling ns
  pub under : Under incoming.was_handed incoming.last ns

same-record : (ns : List ℕ) (i j : Incoming) → i.last ≡ j.last → i.was_handed ≡ j.was_handed → Falls ns i → Falls ns j
same-record ns i j e f k =
    record { falling = k.falling; under = subst (λ h. Under h j.last ns) f (subst (λ l. Under i.was_handed l ns) e k.under) }

next-record : (ns : List ℕ) (i : Incoming) (n : ℕ) (active : Bool) → n ≡ suc i.last → Falls ns i → Falls ns (record { last = n; pieces = []; was_handed = false; active = active })
next-record ns i n active e k = record { falling = k.falling; under = go ns i.was_handed k.under }
  where
    go : (ns : List ℕ) (h : Bool) → Under h i.last ns → Under false n ns
    go [] h u = tt
    go (m ∷ ns) true u = omega arith
    go (m ∷ ns) false u = omega arith

resumed-record : (ns : List ℕ) (i : Incoming) (k j : ℕ) → MayResumeAt i k j → Falls ns i → Falls ns (resumed_in k j i)
resumed-record ns i k j m f = go (nat_eq k i.last) refl
  where
    next : nat_eq k i.last ≡ false → MayResumeAt i k j → k ≡ suc i.last
    next e (inl h) = absurd (eqb-false k i.last e h.0)
    next e (inr h) = h.0

    go : (b : Bool) → nat_eq k i.last ≡ b → Falls ns (if b then record i { pieces = up_to j i.pieces; active = true } else record { last = k; pieces = []; was_handed = false; active = true })
    go true e = same-record ns i (record i { pieces = up_to j i.pieces; active = true }) refl refl f
    go false e = next-record ns i k true (next e m) f

ended-record : (ns : List ℕ) (i : Incoming) (v : Option Value) → Falls ns i → Falls (arrived_of (if i.was_handed then None else v) i.last ++ ns) (record i { was_handed = true; active = false })
ended-record ns i v f = go i.was_handed v f.under
  where
    self : (n : ℕ) → n ≤ n
    self n = omega arith

    weaker : (ns : List ℕ) → Under false i.last ns → Under true i.last ns
    weaker [] u = tt
    weaker (n ∷ ns) u = omega arith

    more : (ns : List ℕ) → AreFalling ns → Under false i.last ns → AreFalling (i.last ∷ ns)
    more [] f u = tt
    more (n ∷ ns) f u = (u, f)

    go : (h : Bool) (v : Option Value) → Under h i.last ns → Falls (arrived_of (if h then None else v) i.last ++ ns) (record i { was_handed = true; active = false })
    go true v u = record { falling = f.falling; under = u }
    go false None u = record { falling = f.falling; under = weaker ns u }
    go false (Some v) u = record { falling = more ns f.falling u; under = self i.last }

hears-record : (setup : ModelSetup) (ns : List ℕ) (v : Option Value) (x : State) → Falls ns x.incoming → Falls ns (hears setup v x).incoming
hears-record setup ns None x f = f
hears-record setup ns (Some v) x f = f

acts-record : (setup : ModelSetup) (ns : List ℕ) (x : State) (act : Act) → Falls ns x.incoming → Falls ns (acted setup x act).incoming
acts-record setup ns x Marks f = go setup.mode
  where
    go : (m : Mode) → Falls ns (marked_in m x).incoming
    go Bare = f
    go Direct = f
    go Reliable = f
acts-record setup ns x GivesTurn f = go setup.mode
  where
    go : (m : Mode) → Falls ns (gave_in m x).incoming
    go Bare = f
    go Direct = f
    go Reliable = f
acts-record setup ns x act f = f

opens-record : (setup : ModelSetup) (role : Role) (ns : List ℕ) (x : State) (choice : Choice) → Falls ns x.incoming → Falls (arrived_after setup x (Takes Connect choice) ns) (taken setup role x Connect choice).incoming
opens-record setup role ns x (Accepting set) f = record { falling = tt; under = tt }
opens-record setup role ns x Refusing f = f
opens-record setup role ns x Nothing f = f
opens-record setup role ns x (Results results) f = f

recovers-record : (setup : ModelSetup) (role : Role) (ns : List ℕ) (x : State) (choice : Choice) → Falls ns x.incoming → Falls ns (taken setup role x Recover choice).incoming
recovers-record setup role ns x (Accepting set) f = f
recovers-record setup role ns x Refusing f = f
recovers-record setup role ns x Nothing f = f
recovers-record setup role ns x (Results results) f = f

alters-record : (setup : ModelSetup) (role : Role) (ns : List ℕ) (x : State) (items : List Item) (choice : Choice) → Falls ns x.incoming → Falls ns (taken setup role x (Alter items) choice).incoming
alters-record setup role ns x items (Results results) f = f
alters-record setup role ns x items (Accepting set) f = f
alters-record setup role ns x items Refusing f = f
alters-record setup role ns x items Nothing f = f

takes-record : (setup : ModelSetup) (role : Role) (ns : List ℕ) (x : State) (m : Message) (choice : Choice) → MayTake setup role x m → Falls ns x.incoming → Falls (arrived_after setup x (Takes m choice) ns) (taken setup role x m choice).incoming
takes-record setup role ns x Connect choice h f = opens-record setup role ns x choice f
takes-record setup role ns x Recover choice h f = recovers-record setup role ns x choice f
takes-record setup role ns x (Accept set) choice h f = f
takes-record setup role ns x Refuse choice h f = f
takes-record setup role ns x (Data value) choice h f = hears-record setup ns (Some value) x f
takes-record setup role ns x (Alter items) choice h f = alters-record setup role ns x items choice f
takes-record setup role ns x (AlterAnswer results) choice h f = f
takes-record setup role ns x (Mark number) choice h f = go setup.mode
  where
    go : (m : Mode) → Falls ns (marked_from m number x).incoming
    go Bare = f
    go Direct = f
    go Reliable = same-record ns x.incoming (marked_from Reliable number x).incoming refl refl f
takes-record setup role ns x (MarkAnswer number) choice h f = f
takes-record setup role ns x (Restart number list) choice h f = f
takes-record setup role ns x (RestartAnswer number list) choice h f = f
takes-record setup role ns x (Start activity) choice h f = next-record ns x.incoming activity true h.is_next f
takes-record setup role ns x (Resume activity mark) choice h f = resumed-record ns x.incoming activity mark h.at_mark f
takes-record setup role ns x (Chunk octets) choice h f = same-record ns x.incoming (taken setup role x (Chunk octets) choice).incoming refl refl f
takes-record setup role ns x (End number) choice h f =
    hears-record setup (arrived_of (handed_up setup x.sets.held x.incoming) x.incoming.last ++ ns) (handed_up setup x.sets.held x.incoming) (record x { incoming = record x.incoming { was_handed = true; active = false } }) (ended-record ns x.incoming (value_read setup x.sets.held x.incoming) f)
takes-record setup role ns x (EndAnswer number) choice h f = f
takes-record setup role ns x Interrupt choice h f = same-record ns x.incoming (record x.incoming { active = false }) refl refl f
takes-record setup role ns x InterruptAnswer choice h f = f
takes-record setup role ns x Discard choice h f = same-record ns x.incoming (record x.incoming { pieces = []; active = false }) refl refl f
takes-record setup role ns x DiscardAnswer choice h f = f
takes-record setup role ns x Give choice h f = f
takes-record setup role ns x GiveAnswer choice h f = f
takes-record setup role ns x (Please priority) choice h f = f
takes-record setup role ns x Release choice h f = f
takes-record setup role ns x ReleaseAnswer choice h f = f
takes-record setup role ns x UserAbort choice h f = f

step-record : (setup : ModelSetup) → NoAbortOfItself setup → (role : Role) (world : World) (step : Step) → IsRun setup (By role step ∷ world) → Falls (arrived setup role world) (state_of setup role world).incoming → Falls (arrived_after setup (state_of setup role world) step (arrived setup role world)) (after setup role (state_of setup role world) step).incoming
step-record setup n role world (Acts act) h f = acts-record setup (arrived setup role world) (state_of setup role world) act f
step-record setup n role world (Takes m choice) h f = takes-record setup role (arrived setup role world) (state_of setup role world) m choice (n world role m choice h) f
step-record setup n role world (Passes m) h f = f

pub record-kept : (setup : ModelSetup) → NoAbortOfItself setup → (world : World) → IsRun setup world → (role : Role) → Falls (arrived setup role world) (state_of setup role world).incoming
record-kept setup n [] h role = record { falling = tt; under = tt }
record-kept setup n (Break ∷ world) h role =
    same-record (arrived setup role world) (state_of setup role world).incoming (record (state_of setup role world).incoming { active = false }) refl refl (record-kept setup n world h.1 role)
record-kept setup n (By Initiator step ∷ world) h Initiator = step-record setup n Initiator world step h (record-kept setup n world h.1 Initiator)
record-kept setup n (By Responder step ∷ world) h Responder = step-record setup n Responder world step h (record-kept setup n world h.1 Responder)
record-kept setup n (By Initiator step ∷ world) h Responder = record-kept setup n world h.1 Responder
record-kept setup n (By Responder step ∷ world) h Initiator = record-kept setup n world h.1 Initiator

pub arrive-once : (setup : ModelSetup) → NoAbortOfItself setup → ArriveOnce setup
arrive-once setup n world h role = (record-kept setup n world h role).falling
