-- The laws of reliable mode, and with them those of every mode.
use Rattle.std.proofs.Common.{◌≡◌, true, false, List, [], ◌∷◌, ◌++◌, refl, sym, ap, ◌∙◌, true≢false}
use Rattle.std.specs.Prelude.{Option, Some, None}
use Rattle.agreement.specs.Sets.{Role, other, Item}
use Rattle.agreement.specs.Sets.Role.{Initiator, Responder}
use Rattle.agreement.specs.Messages.{Mode, ModelSetup, Message, Act, Choice, Value}
use Rattle.agreement.specs.Messages.Mode.{Bare, Direct, Reliable}
use Rattle.agreement.specs.Messages.Act.{Connects, Recovers, SaysValue, Queues, Drops, Alters, Marks, GivesTurn, Pleads, Restarts, Starts, Encodes, Sends, EndsActivity, Interrupts, Discards, Resumes, Releases, Aborts, Withdraws, TransportFails}
use Rattle.agreement.specs.Messages.Choice.{Nothing, Accepting, Refusing, Results}
use Rattle.agreement.specs.Messages.Message.{Connect, Recover, Accept, Refuse, Data, Alter, AlterAnswer, Mark, MarkAnswer, Restart, RestartAnswer, Start, Resume, Chunk, End, EndAnswer, Interrupt, InterruptAnswer, Discard, DiscardAnswer, Give, GiveAnswer, Please, Release, ReleaseAnswer, UserAbort}
use Rattle.agreement.specs.State.{Phase, State, new_end}
use Rattle.agreement.specs.State.Phase.{Idle, Opening, Up, Broken, Over}
use Rattle.agreement.specs.Acts.{acted, marked_in}
use Rattle.agreement.specs.Takings.{taken, broken_phase, hears, between, handed_up, refusing, marked_from}
use Rattle.agreement.specs.Worlds.{World, state_of, Shared, shared_at, Sending, flight_to, IsStep, IsRun}
use Rattle.agreement.specs.Worlds.Step.{Acts, Takes, Passes}
use Rattle.agreement.specs.Worlds.Moment.{By, Break}
use Rattle.agreement.specs.Laws.{TakenAsSent, NoAbortOfItself, HoldsTurn, OneHolder, InitiatorLeads, ArriveOnce, ArriveWhole, TheOthersOwn, InvokedOnce}
use Rattle.agreement.proofs.Carried.{WasSent, was-sent}
use Rattle.agreement.proofs.Handing.{all-own, all-whole}
use Rattle.agreement.proofs.Arrivals.{arrive-once}
use Rattle.agreement.proofs.OnceByTransfers.{all-invoked}
use Rattle.agreement.proofs.Runs.{at-role, reached}
use Rattle.agreement.proofs.Standing.{reliable, Flowing}
use Rattle.agreement.proofs.Standing.Flowing.{Leads, Follows, Gives_away, Is_given}
use Rattle.agreement.proofs.StandingActs.{is-seen}
use Rattle.agreement.proofs.ReliableWorlds.{ReliableRelation, Stage, reliable-takes, reliable-keeps}
use Rattle.agreement.proofs.ReliableWorlds.Stage.{Fresh, Asked, Dropped, Refused, Lost, Dead, Stands, Apart, Recalling, Hanging, Denied, LeftB, LeftA, Deaf}
use Rattle.agreement.proofs.Mail.{taken-as_sent, by-mode}
use Rattle.agreement.proofs.AtOnce.{bare-as_sent, direct-as_sent, bare-no_abort, direct-no_abort, bare-holder, direct-holder, Given}

reliable-given : (base : ModelSetup) (role : Role) (x y : State) (flight g : List Sending) (shared : Shared) (m : Message) (choice : Choice) → ReliableRelation base role x y flight g shared → IsStep (reliable base) role x flight (Takes m choice) → WasSent (reliable base) m → Given (reliable base) role x flight m
reliable-given base role x y [] g shared m choice i h w = absurd h.comes
reliable-given base role x y (s ∷ flight) g shared m choice i h w =
    let t = reliable-takes base role x y s flight g shared m choice i h.comes h.is_alive h.is_kept h.is_choice in
    record { may = t.may w; pair = t.pair }

pub reliable-at : (base : ModelSetup) (world : World) (role : Role) (m : Message) (choice : Choice) → IsRun (reliable base) (By role (Takes m choice) ∷ world) → Given (reliable base) role (state_of (reliable base) role world) (flight_to (reliable base) role world) m
reliable-at base world role m choice h =
    reliable-given base role (state_of (reliable base) role world) (state_of (reliable base) (other role) world) (flight_to (reliable base) role world) (flight_to (reliable base) (other role) world) (shared_at (reliable base) world) m choice
    (at-role (reliable base) (ReliableRelation base) (reliable-keeps base) role world (reached (reliable base) (ReliableRelation base) (reliable-keeps base) world h.1)) h.0 (was-sent (reliable base) world role m h.1 h.0.comes)

reliable-no_abort : (base : ModelSetup) → NoAbortOfItself (reliable base)
reliable-no_abort base world role m choice h = (reliable-at base world role m choice h).may

reliable-as_sent : (base : ModelSetup) → TakenAsSent (reliable base)
reliable-as_sent base = taken-as_sent (reliable base) (λ world role m choice h. (reliable-at base world role m choice h).pair)

both-lead : (setup : ModelSetup) (x y : State) (down up : List Message) (shared : Shared) → Flowing setup Initiator x y down up shared → x.turn ≡ true → y.turn ≡ true → ⊥
both-lead setup x y down up shared (Leads o p n) h k = true≢false (sym k ∙ p.turn)
both-lead setup x y down up shared (Follows o p n) h k = true≢false (sym h ∙ o.turn)
both-lead setup x y down up shared (Gives_away q) h k = true≢false (sym h ∙ q.giver.turn)
both-lead setup x y down up shared (Is_given q) h k = true≢false (sym h ∙ q.taker.turn)

phase-of : (x z : State) (p : Phase) → x ≡ z → z.phase ≡ p → x.phase ≡ p
phase-of x z p e h = ap (λ (q : State). q.phase) e ∙ h

stage-holder : (base : ModelSetup) (a b : State) (f g : List Sending) (shared : Shared) → Stage (reliable base) a b f g shared → HoldsTurn a → HoldsTurn b → ⊥
stage-holder base a b f g shared (Stands j) h k =
    let i = is-seen Initiator a f g j.me j.up h.1 j.sees_me in
    let q = is-seen Responder b g f j.peer j.down k.1 j.sees_peer in
    both-lead (reliable base) j.me j.peer j.down j.up shared j.flow (ap (λ (x : State). x.turn) i.same ∙ h.0) (ap (λ (x : State). x.turn) q.same ∙ k.0)
stage-holder base a b f g shared (Fresh p q n d) h k = let e = phase-of a (new_end (reliable base) Initiator) Idle p refl in let u = h.1 in cc
stage-holder base a b f g shared (Asked s p q n d u) h k = let e = phase-of b (new_end (reliable base) Responder) Idle q refl in let v = k.1 in cc
stage-holder base a b f g shared (Dropped s behind p q n d u l) h k = let e = h.1 in cc
stage-holder base a b f g shared (Refused s p w q n i) h k = let e = h.1 in cc
stage-holder base a b f g shared (Lost p q v n) h k = let e = h.1 in cc
stage-holder base a b f g shared (Dead p q) h k = let e = h.1 in cc
stage-holder base a b f g shared (Apart p q w v r n d) h k = let e = h.1 in cc
stage-holder base a b f g shared (Recalling s p q w v r n d i) h k = let e = h.1 in cc
stage-holder base a b f g shared (Hanging s behind was p q v r n d i l) h k = let e = h.1 in cc
stage-holder base a b f g shared (Denied s p q w v r n i d) h k = let e = h.1 in cc
stage-holder base a b f g shared (LeftB p q v l) h k = let e = h.1 in cc
stage-holder base a b f g shared (LeftA p w q n) h k = let e = k.1 in cc
stage-holder base a b f g shared (Deaf p w q n) h k = let e = k.1 in cc

reliable-holder : (base : ModelSetup) → OneHolder (reliable base)
reliable-holder base world h =
    stage-holder base (state_of (reliable base) Initiator world) (state_of (reliable base) Responder world) (flight_to (reliable base) Initiator world) (flight_to (reliable base) Responder world) (shared_at (reliable base) world)
    (reached (reliable base) (ReliableRelation base) (reliable-keeps base) world h)

pub all-no_abort : (setup : ModelSetup) → NoAbortOfItself setup
all-no_abort = by-mode NoAbortOfItself bare-no_abort direct-no_abort reliable-no_abort

pub all-as_sent : (setup : ModelSetup) → TakenAsSent setup
all-as_sent = by-mode TakenAsSent bare-as_sent direct-as_sent reliable-as_sent

pub all-holder : (setup : ModelSetup) → OneHolder setup
all-holder = by-mode OneHolder bare-holder direct-holder reliable-holder

-- the initiator has the turn whenever it is up
abbrev Leading : State → Type 0
Leading x = x.phase ≡ Up → x.turn ≡ true

hears-leading : (setup : ModelSetup) (v : Option Value) (x : State) → Leading x → Leading (hears setup v x)
hears-leading setup None x h = h
hears-leading setup (Some v) x h = h

between-leading : (setup : ModelSetup) (v : Option Value) (x : State) → Leading x → Leading (between (hears setup v x))
between-leading setup None x h = h
between-leading setup (Some v) x h = h

not-up : (p : Phase) (A : Type 0) → (p ≡ Up → ⊥) → p ≡ Up → A
not-up p A n e = absurd (n e)

acts-leading : (setup : ModelSetup) (x : State) (act : Act) → (act ≡ GivesTurn → ⊥) → Leading x → Leading (acted setup x act)
acts-leading setup x Connects n h = λ e. absurd (cc)
acts-leading setup x Recovers n h = λ e. absurd (cc)
acts-leading setup x (SaysValue value) n h = h
acts-leading setup x (Queues context apdu) n h = h
acts-leading setup x Drops n h = h
acts-leading setup x (Alters items) n h = h
acts-leading setup x Marks n h = go setup.mode
  where
    go : (m : Mode) → Leading (marked_in m x)
    go Bare = h
    go Direct = h
    go Reliable = h
acts-leading setup x GivesTurn n h = absurd (n refl)
acts-leading setup x (Pleads priority) n h = h
acts-leading setup x (Restarts number) n h = h
acts-leading setup x Starts n h = h
acts-leading setup x (Encodes context) n h = h
acts-leading setup x (Sends octets) n h = h
acts-leading setup x EndsActivity n h = h
acts-leading setup x Interrupts n h = h
acts-leading setup x Discards n h = h
acts-leading setup x Resumes n h = h
acts-leading setup x Releases n h = λ e. absurd (cc)
acts-leading setup x Aborts n h = λ e. absurd (cc)
acts-leading setup x Withdraws n h = λ e. absurd (cc)
acts-leading setup x TransportFails n h = λ e. absurd (cc)

refusing-up : (p : Phase) → refusing p ≡ Up → ⊥
refusing-up Broken e = cc
refusing-up p e = cc

opened-leading : (setup : ModelSetup) (x : State) (choice : Choice) → Leading x → Leading (taken setup Initiator x Connect choice)
opened-leading setup x (Accepting set) h = λ e. refl
opened-leading setup x Refusing h = λ e. absurd (refusing-up x.phase e)
opened-leading setup x Nothing h = h
opened-leading setup x (Results results) h = h

recovered-leading : (setup : ModelSetup) (x : State) (choice : Choice) → Leading x → Leading (taken setup Initiator x Recover choice)
recovered-leading setup x (Accepting set) h = λ e. refl
recovered-leading setup x Refusing h = λ e. absurd (refusing-up x.phase e)
recovered-leading setup x Nothing h = h
recovered-leading setup x (Results results) h = h

altered-leading : (setup : ModelSetup) (x : State) (items : List Item) (choice : Choice) → Leading x → Leading (taken setup Initiator x (Alter items) choice)
altered-leading setup x items (Results results) h = h
altered-leading setup x items (Accepting set) h = h
altered-leading setup x items Refusing h = h
altered-leading setup x items Nothing h = h

takes-leading : (setup : ModelSetup) (x : State) (m : Message) (choice : Choice) → Leading x → Leading (taken setup Initiator x m choice)
takes-leading setup x Connect choice h = opened-leading setup x choice h
takes-leading setup x Recover choice h = recovered-leading setup x choice h
takes-leading setup x (Accept set) choice h = λ e. refl
takes-leading setup x Refuse choice h = λ e. absurd (cc)
takes-leading setup x (Data value) choice h = h
takes-leading setup x (Alter items) choice h = altered-leading setup x items choice h
takes-leading setup x (AlterAnswer results) choice h = h
takes-leading setup x (Mark number) choice h = go setup.mode
  where
    go : (m : Mode) → Leading (marked_from m number x)
    go Bare = h
    go Direct = h
    go Reliable = h
takes-leading setup x (MarkAnswer number) choice h = h
takes-leading setup x (Restart number list) choice h = λ e. refl
takes-leading setup x (RestartAnswer number list) choice h = λ e. refl
takes-leading setup x (Start activity) choice h = h
takes-leading setup x (Resume activity mark) choice h = h
takes-leading setup x (Chunk octets) choice h = h
takes-leading setup x (End number) choice h =
    between-leading setup (handed_up setup x.sets.held x.incoming) (record x { incoming = record x.incoming { was_handed = true; active = false } }) h
takes-leading setup x (EndAnswer number) choice h = h
takes-leading setup x Interrupt choice h = h
takes-leading setup x InterruptAnswer choice h = h
takes-leading setup x Discard choice h = h
takes-leading setup x DiscardAnswer choice h = h
takes-leading setup x Give choice h = λ e. refl
takes-leading setup x GiveAnswer choice h = h
takes-leading setup x (Please priority) choice h = h
takes-leading setup x Release choice h = λ e. absurd (cc)
takes-leading setup x ReleaseAnswer choice h = λ e. absurd (cc)
takes-leading setup x UserAbort choice h = λ e. absurd (cc)

broken-up : (m : Mode) (p : Phase) → broken_phase m p ≡ Up → ⊥
broken-up m Idle e = cc
broken-up m Over e = cc
broken-up m Opening e = cc
broken-up Bare p e = cc
broken-up Direct p e = cc
broken-up Reliable p e = cc

pub initiator-leads : (setup : ModelSetup) → InitiatorLeads setup
initiator-leads setup [] earlier set choice n = λ e. refl
initiator-leads setup (Break ∷ later) earlier set choice n = λ e. absurd (broken-up setup.mode (state_of setup Initiator (later ++ (By Initiator (Takes (Accept set) choice) ∷ earlier))).phase e)
initiator-leads setup (By Initiator (Acts GivesTurn) ∷ later) earlier set choice n = absurd n
initiator-leads setup (By Initiator (Acts act) ∷ later) earlier set choice n =
    acts-leading setup (state_of setup Initiator (later ++ (By Initiator (Takes (Accept set) choice) ∷ earlier))) act (λ e. cc) (initiator-leads setup later earlier set choice n)
initiator-leads setup (By Initiator (Takes m c) ∷ later) earlier set choice n =
    takes-leading setup (state_of setup Initiator (later ++ (By Initiator (Takes (Accept set) choice) ∷ earlier))) m c (initiator-leads setup later earlier set choice n)
initiator-leads setup (By Initiator (Passes m) ∷ later) earlier set choice n = initiator-leads setup later earlier set choice n
initiator-leads setup (By Responder step ∷ later) earlier set choice n = initiator-leads setup later earlier set choice n

pub all-once : (setup : ModelSetup) → ArriveOnce setup
all-once setup = arrive-once setup (all-no_abort setup)

pub others-own : (setup : ModelSetup) → TheOthersOwn setup
others-own = all-own all-no_abort

pub arrive-whole : (setup : ModelSetup) → ArriveWhole setup
arrive-whole = all-whole all-no_abort

pub invoked-once : (setup : ModelSetup) → InvokedOnce setup
invoked-once = all-invoked all-no_abort
