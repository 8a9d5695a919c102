-- What is handed up at one end was handed in at the other.
use Rattle.std.proofs.Common.{◌≡◌, ℕ, Bool, true, false, if◌then◌else◌, List, [], ◌∷◌, ◌++◌, refl, sym, subst, inl, inr}
use Rattle.std.specs.Prelude.{Option, Some, None}
use Rattle.agreement.specs.Sets.{Role, other, Item, ContextSet}
use Rattle.agreement.specs.Sets.Role.{Initiator, Responder}
use Rattle.agreement.specs.Messages.{Apdu, Value, Mode, ModelSetup, Message, Act, Choice, Calls}
use Rattle.agreement.specs.Messages.Mode.{Bare, Direct, Reliable}
use Rattle.agreement.specs.Messages.Apdu.{Invoke, Outcome, Reject}
use Rattle.agreement.specs.Messages.Act.{Connects, Recovers, SaysValue, Queues, Drops, Alters, Marks, GivesTurn, Pleads, Restarts, Starts, Encodes, Sends, EndsActivity, Interrupts, Discards, Resumes, Releases, Aborts, Withdraws, TransportFails}
use Rattle.agreement.specs.Messages.Choice.{Nothing, Accepting, Refusing, Results}
use Rattle.agreement.specs.Messages.Message.{Connect, Recover, Accept, Refuse, Data, Alter, AlterAnswer, Mark, MarkAnswer, Restart, RestartAnswer, Start, Resume, Chunk, End, EndAnswer, Interrupt, InterruptAnswer, Discard, DiscardAnswer, Give, GiveAnswer, Please, Release, ReleaseAnswer, UserAbort}
use Rattle.agreement.specs.State.{Handed, Transfer, Outgoing, State}
use Rattle.agreement.specs.Calls.{after_due, due_after, reject_of, rejects_of, is_accepted}
use Rattle.agreement.specs.Acts.{acted, sent_by, marked_in, gave_in, started}
use Rattle.agreement.specs.Takings.{taken, hears, handed_up, marked_from, broken, answer_to, mark_answer, give_answer}
use Rattle.agreement.specs.Worlds.{Step, World, Sending, sendings, state_of, shared_at, flight_to, taken_off, sent_by_step, sent_in, ComesNext, IsRun, after}
use Rattle.agreement.specs.Worlds.Step.{Acts, Takes, Passes}
use Rattle.agreement.specs.Worlds.Moment.{By, Break}
use Rattle.agreement.specs.Laws.{Encoding, handed_by, all_handed, IsAmong, IsHandedIn, TheOthersOwn, ArriveWhole, NoAbortOfItself}
use Rattle.agreement.proofs.Views.{AllAre, all-append}
use Rattle.agreement.proofs.Flow.{SpellsIn, value_in}
use Rattle.agreement.proofs.Standing.{reliable}
use Rattle.agreement.proofs.Encoded.{EncodedIn, Encoded, encoded-kept, source-at, handed-spelled, reliable-whole}
use Rattle.agreement.proofs.Mail.{by-mode}
use Rattle.agreement.proofs.Views.{direct}
use Rattle.agreement.proofs.BareWorlds.{bare}

more-handed : (hs new : List Apdu) (a : Apdu) → IsHandedIn hs a → IsHandedIn (new ++ hs) a
more-handed hs new (Invoke number operation link argument) h = go new
  where
    go : (new : List Apdu) → IsAmong (Invoke number operation link argument) (new ++ hs)
    go [] = h
    go (x ∷ new) = inr (go new)
more-handed hs new (Outcome number content) h = go new
  where
    go : (new : List Apdu) → IsAmong (Outcome number content) (new ++ hs)
    go [] = h
    go (x ∷ new) = inr (go new)
more-handed hs new (Reject number b) h = tt

just-handed : (hs : List Apdu) (a : Apdu) → IsHandedIn (a ∷ hs) a
just-handed hs (Invoke number operation link argument) = inl refl
just-handed hs (Outcome number content) = inl refl
just-handed hs (Reject number b) = tt

abbrev AllItems : List Apdu → List Handed → Type 0
AllItems hs [] = Unit {0}
AllItems hs (item ∷ items) = IsHandedIn hs item.apdu × AllItems hs items

abbrev OnItem : List Apdu → Option Transfer → Type 0
OnItem hs None = Unit {0}
OnItem hs (Some t) = IsHandedIn hs t.item.apdu

record Items (hs : List Apdu) (out : Outgoing) : Type 0 where
  pub queued : AllItems hs out.queue
  pub current : OnItem hs out.transfer

all-more : (hs new : List Apdu) (items : List Handed) → AllItems hs items → AllItems (new ++ hs) items
all-more hs new [] h = tt
all-more hs new (item ∷ items) h = (more-handed hs new item.apdu h.0, all-more hs new items h.1)

on-more : (hs new : List Apdu) (t : Option Transfer) → OnItem hs t → OnItem (new ++ hs) t
on-more hs new None h = tt
on-more hs new (Some t) h = more-handed hs new t.item.apdu h

items-more : (hs new : List Apdu) (out : Outgoing) → Items hs out → Items (new ++ hs) out
items-more hs new out i = record { queued = all-more hs new out.queue i.queued; current = on-more hs new out.transfer i.current }

all-append_items : (hs : List Apdu) (xs ys : List Handed) → AllItems hs xs → AllItems hs ys → AllItems hs (xs ++ ys)
all-append_items hs [] ys h k = k
all-append_items hs (x ∷ xs) ys h k = (h.0, all-append_items hs xs ys h.1 k)

rejects-items : (hs : List Apdu) (setup : ModelSetup) (calls : Calls) (context : ℕ) (a : Apdu) → AllItems hs (rejects_of setup calls context a)
rejects-items hs setup calls context a = go (is_accepted setup calls a)
  where
    made : (a : Apdu) → AllItems hs (reject_of setup calls context a)
    made (Invoke number operation link argument) = (tt, tt)
    made (Outcome number content) = (tt, tt)
    made (Reject number b) = tt

    go : (b : Bool) → AllItems hs (if b then [] else reject_of setup calls context a)
    go true = tt
    go false = made a

abbrev with_transfer : State → Option Transfer → State
with_transfer x t = record x { outgoing = record x.outgoing { transfer = t } }

starts-items : (hs : List Apdu) (c : ℕ) (t : Option Transfer) (queue : List Handed) → AllItems hs queue → Items hs (started (record { started = c; transfer = t; queue = queue }))
starts-items hs c t [] h = record { queued = tt; current = tt }
starts-items hs c t (item ∷ queue) h = record { queued = h.1; current = h.0 }

after-items : (hs : List Apdu) (due : List Handed) → AllItems hs due → AllItems hs (after_due due)
after-items hs [] h = tt
after-items hs (item ∷ items) h = h.1

due-items : (hs : List Apdu) (a : Apdu) (due : List Handed) → AllItems hs due → AllItems hs (due_after a due)
due-items hs (Invoke number operation link argument) due h = h
due-items hs (Outcome number content) due h = h
due-items hs (Reject number problem) due h = after-items hs due h

acts-items : (setup : ModelSetup) (x : State) (t : Option Transfer) (act : Act) (hs : List Apdu) → Items hs (record x.outgoing { transfer = t }) → Items (handed_by (Acts act) ++ hs) (acted setup (with_transfer x t) act).outgoing
acts-items setup x t Connects hs i = i
acts-items setup x t Recovers hs i = i
acts-items setup x t (SaysValue value) hs i =
    let m = items-more hs (value.apdu ∷ []) (record x.outgoing { transfer = t }) i in
    record { queued = due-items (value.apdu ∷ hs) value.apdu x.outgoing.queue m.queued; current = m.current }
acts-items setup x t (Queues context apdu) hs i =
    let m = items-more hs (apdu ∷ []) (record x.outgoing { transfer = t }) i in
    record { queued = all-append_items (apdu ∷ hs) x.outgoing.queue (record { context = context; apdu = apdu } ∷ []) m.queued (just-handed hs apdu, tt); current = m.current }
acts-items setup x t Drops hs i = record { queued = after-items hs x.outgoing.queue i.queued; current = i.current }
acts-items setup x t (Alters items) hs i = i
acts-items setup x t Marks hs i = go setup.mode t i
  where
    go : (m : Mode) (t : Option Transfer) → Items hs (record x.outgoing { transfer = t }) → Items hs (marked_in m (with_transfer x t)).outgoing
    go Bare t i = i
    go Direct t i = i
    go Reliable None i = record { queued = i.queued; current = tt }
    go Reliable (Some t) i = record { queued = i.queued; current = i.current }
acts-items setup x t GivesTurn hs i = go setup.mode
  where
    go : (m : Mode) → Items hs (gave_in m (with_transfer x t)).outgoing
    go Bare = i
    go Direct = i
    go Reliable = i
acts-items setup x t (Pleads priority) hs i = i
acts-items setup x t (Restarts number) hs i = i
acts-items setup x t Starts hs i = starts-items hs x.outgoing.started t x.outgoing.queue i.queued
acts-items setup x None (Encodes context) hs i = record { queued = i.queued; current = tt }
acts-items setup x (Some t) (Encodes context) hs i = record { queued = i.queued; current = i.current }
acts-items setup x None (Sends octets) hs i = record { queued = i.queued; current = tt }
acts-items setup x (Some t) (Sends octets) hs i = record { queued = i.queued; current = i.current }
acts-items setup x None EndsActivity hs i = record { queued = i.queued; current = tt }
acts-items setup x (Some t) EndsActivity hs i = record { queued = i.queued; current = i.current }
acts-items setup x t Interrupts hs i = i
acts-items setup x None Discards hs i = record { queued = i.queued; current = tt }
acts-items setup x (Some t) Discards hs i = record { queued = i.queued; current = i.current }
acts-items setup x None Resumes hs i = record { queued = i.queued; current = tt }
acts-items setup x (Some t) Resumes hs i = record { queued = i.queued; current = i.current }
acts-items setup x t Releases hs i = i
acts-items setup x t Aborts hs i = i
acts-items setup x t Withdraws hs i = i
acts-items setup x t TransportFails hs i = i

hears-items : (setup : ModelSetup) (v : Option Value) (x : State) (hs : List Apdu) → Items hs x.outgoing → Items hs (hears setup v x).outgoing
hears-items setup None x hs i = i
hears-items setup (Some v) x hs i =
    record { queued = all-append_items hs x.outgoing.queue (rejects_of setup x.calls v.identifier v.apdu) i.queued (rejects-items hs setup x.calls v.identifier v.apdu); current = i.current }

opens-items : (setup : ModelSetup) (role : Role) (x : State) (choice : Choice) (hs : List Apdu) → Items hs x.outgoing → Items hs (taken setup role x Connect choice).outgoing
opens-items setup role x (Accepting set) hs i = record { queued = tt; current = tt }
opens-items setup role x Refusing hs i = i
opens-items setup role x Nothing hs i = i
opens-items setup role x (Results results) hs i = i

recovers-items : (setup : ModelSetup) (role : Role) (x : State) (choice : Choice) (hs : List Apdu) → Items hs x.outgoing → Items hs (taken setup role x Recover choice).outgoing
recovers-items setup role x (Accepting set) hs i = i
recovers-items setup role x Refusing hs i = i
recovers-items setup role x Nothing hs i = i
recovers-items setup role x (Results results) hs i = i

alters-items : (setup : ModelSetup) (role : Role) (x : State) (items : List Item) (choice : Choice) (hs : List Apdu) → Items hs x.outgoing → Items hs (taken setup role x (Alter items) choice).outgoing
alters-items setup role x items (Results results) hs i = i
alters-items setup role x items (Accepting set) hs i = i
alters-items setup role x items Refusing hs i = i
alters-items setup role x items Nothing hs i = i

takes-items : (setup : ModelSetup) (role : Role) (x : State) (t : Option Transfer) (m : Message) (choice : Choice) (hs : List Apdu) → Items hs (record x.outgoing { transfer = t }) → Items hs (taken setup role (with_transfer x t) m choice).outgoing
takes-items setup role x t Connect choice hs i = opens-items setup role (with_transfer x t) choice hs i
takes-items setup role x t Recover choice hs i = recovers-items setup role (with_transfer x t) choice hs i
takes-items setup role x t (Accept set) choice hs i = i
takes-items setup role x t Refuse choice hs i = i
takes-items setup role x t (Data value) choice hs i = hears-items setup (Some value) (with_transfer x t) hs i
takes-items setup role x t (Alter items) choice hs i = alters-items setup role (with_transfer x t) items choice hs i
takes-items setup role x t (AlterAnswer results) choice hs i = i
takes-items setup role x t (Mark number) choice hs i = go setup.mode
  where
    go : (m : Mode) → Items hs (marked_from m number (with_transfer x t)).outgoing
    go Bare = i
    go Direct = i
    go Reliable = i
takes-items setup role x None (MarkAnswer number) choice hs i = record { queued = i.queued; current = tt }
takes-items setup role x (Some t) (MarkAnswer number) choice hs i = record { queued = i.queued; current = i.current }
takes-items setup role x t (Restart number list) choice hs i = record { queued = tt; current = i.current }
takes-items setup role x t (RestartAnswer number list) choice hs i = record { queued = tt; current = i.current }
takes-items setup role x t (Start activity) choice hs i = i
takes-items setup role x t (Resume activity mark) choice hs i = i
takes-items setup role x t (Chunk octets) choice hs i = i
takes-items setup role x t (End number) choice hs i =
    hears-items setup (handed_up setup x.sets.held x.incoming) (record (with_transfer x t) { incoming = record x.incoming { was_handed = true; active = false } }) hs i
takes-items setup role x t (EndAnswer number) choice hs i = record { queued = i.queued; current = tt }
takes-items setup role x t Interrupt choice hs i = i
takes-items setup role x None InterruptAnswer choice hs i = record { queued = i.queued; current = tt }
takes-items setup role x (Some t) InterruptAnswer choice hs i = record { queued = i.queued; current = i.current }
takes-items setup role x t Discard choice hs i = i
takes-items setup role x t DiscardAnswer choice hs i = record { queued = i.queued; current = tt }
takes-items setup role x t Give choice hs i = i
takes-items setup role x t GiveAnswer choice hs i = i
takes-items setup role x t (Please priority) choice hs i = i
takes-items setup role x t Release choice hs i = i
takes-items setup role x t ReleaseAnswer choice hs i = i
takes-items setup role x t UserAbort choice hs i = i

broken-items : (setup : ModelSetup) (x : State) (t : Option Transfer) (hs : List Apdu) → Items hs (record x.outgoing { transfer = t }) → Items hs (broken setup (with_transfer x t)).outgoing
broken-items setup x None hs i = record { queued = i.queued; current = tt }
broken-items setup x (Some t) hs i = record { queued = i.queued; current = i.current }

step-items : (setup : ModelSetup) (role : Role) (x : State) (step : Step) (hs : List Apdu) → Items hs x.outgoing → Items (handed_by step ++ hs) (after setup role x step).outgoing
step-items setup role x (Acts act) hs i = acts-items setup x x.outgoing.transfer act hs i
step-items setup role x (Takes m choice) hs i = takes-items setup role x x.outgoing.transfer m choice hs i
step-items setup role x (Passes m) hs i = i

items-kept : (setup : ModelSetup) (role : Role) (world : World) → Items (all_handed role world) (state_of setup role world).outgoing
items-kept setup role [] = record { queued = tt; current = tt }
items-kept setup role (Break ∷ world) = broken-items setup (state_of setup role world) (state_of setup role world).outgoing.transfer (all_handed role world) (items-kept setup role world)
items-kept setup Initiator (By Initiator step ∷ world) = step-items setup Initiator (state_of setup Initiator world) step (all_handed Initiator world) (items-kept setup Initiator world)
items-kept setup Responder (By Responder step ∷ world) = step-items setup Responder (state_of setup Responder world) step (all_handed Responder world) (items-kept setup Responder world)
items-kept setup Initiator (By Responder step ∷ world) = items-kept setup Initiator world
items-kept setup Responder (By Initiator step ∷ world) = items-kept setup Responder world

-- data on its way was handed in
abbrev SaidIn : List Apdu → Message → Type 0
SaidIn hs (Data value) = IsHandedIn hs value.apdu
SaidIn hs message = Unit {0}

said-more : (hs new : List Apdu) (m : Message) → SaidIn hs m → SaidIn (new ++ hs) m
said-more hs new (Data value) h = more-handed hs new value.apdu h
said-more hs new m h = tt

all-said : (hs new : List Apdu) (flight : List Sending) → AllAre (SaidIn hs) flight → AllAre (SaidIn (new ++ hs)) flight
all-said hs new [] h = tt
all-said hs new (s ∷ flight) h = (said-more hs new s.message h.0, all-said hs new flight h.1)

acts-said : (setup : ModelSetup) (x : State) (act : Act) (hs : List Apdu) (at : ContextSet) → AllAre (SaidIn (handed_by (Acts act) ++ hs)) (sendings at (sent_by setup x act))
acts-said setup x Connects hs at = (tt, tt)
acts-said setup x Recovers hs at = (tt, tt)
acts-said setup x (SaysValue value) hs at = (just-handed hs value.apdu, tt)
acts-said setup x (Queues context apdu) hs at = tt
acts-said setup x Drops hs at = tt
acts-said setup x (Alters items) hs at = (tt, tt)
acts-said setup x Marks hs at = (tt, tt)
acts-said setup x GivesTurn hs at = (tt, tt)
acts-said setup x (Pleads priority) hs at = (tt, tt)
acts-said setup x (Restarts number) hs at = (tt, tt)
acts-said setup x Starts hs at = (tt, tt)
acts-said setup x (Encodes context) hs at = tt
acts-said setup x (Sends octets) hs at = (tt, tt)
acts-said setup x EndsActivity hs at = (tt, tt)
acts-said setup x Interrupts hs at = (tt, tt)
acts-said setup x Discards hs at = (tt, tt)
acts-said setup x Resumes hs at = (tt, tt)
acts-said setup x Releases hs at = (tt, tt)
acts-said setup x Aborts hs at = (tt, tt)
acts-said setup x Withdraws hs at = tt
acts-said setup x TransportFails hs at = tt

answer-said : (setup : ModelSetup) (x : State) (m : Message) (choice : Choice) (hs : List Apdu) (at : ContextSet) → AllAre (SaidIn hs) (sendings at (answer_to setup x m choice))
answer-said setup x Connect (Accepting set) hs at = (tt, tt)
answer-said setup x Connect Refusing hs at = (tt, tt)
answer-said setup x Connect Nothing hs at = tt
answer-said setup x Connect (Results results) hs at = tt
answer-said setup x Recover (Accepting set) hs at = (tt, tt)
answer-said setup x Recover Refusing hs at = (tt, tt)
answer-said setup x Recover Nothing hs at = tt
answer-said setup x Recover (Results results) hs at = tt
answer-said setup x (Alter items) (Results results) hs at = (tt, tt)
answer-said setup x (Alter items) (Accepting set) hs at = tt
answer-said setup x (Alter items) Refusing hs at = tt
answer-said setup x (Alter items) Nothing hs at = tt
answer-said setup x (Mark number) choice hs at = go setup.mode
  where
    go : (m : Mode) → AllAre (SaidIn hs) (sendings at (mark_answer m number))
    go Bare = tt
    go Direct = tt
    go Reliable = (tt, tt)
answer-said setup x (Restart number list) choice hs at = (tt, tt)
answer-said setup x (End number) choice hs at = (tt, tt)
answer-said setup x Interrupt choice hs at = (tt, tt)
answer-said setup x Discard choice hs at = (tt, tt)
answer-said setup x Give choice hs at = go setup.mode
  where
    go : (m : Mode) → AllAre (SaidIn hs) (sendings at (give_answer m))
    go Bare = tt
    go Direct = tt
    go Reliable = (tt, tt)
answer-said setup x Release choice hs at = (tt, tt)
answer-said setup x m choice hs at = tt

step-said : (setup : ModelSetup) (x : State) (step : Step) (hs : List Apdu) (at : ContextSet) → AllAre (SaidIn (handed_by step ++ hs)) (sendings at (sent_in setup x step))
step-said setup x (Acts act) hs at = acts-said setup x act hs at
step-said setup x (Takes m choice) hs at = answer-said setup x m choice hs at
step-said setup x (Passes m) hs at = tt

off-said : (hs : List Apdu) (step : Step) (flight : List Sending) → AllAre (SaidIn hs) flight → AllAre (SaidIn hs) (taken_off step flight)
off-said hs (Acts act) flight h = h
off-said hs (Takes m choice) [] h = tt
off-said hs (Takes m choice) (s ∷ flight) h = h.1
off-said hs (Passes m) [] h = tt
off-said hs (Passes m) (s ∷ flight) h = h.1

said-kept : (setup : ModelSetup) (role : Role) (world : World) → AllAre (SaidIn (all_handed (other role) world)) (flight_to setup role world)
said-kept setup role [] = tt
said-kept setup role (Break ∷ world) = tt
said-kept setup Initiator (By Initiator step ∷ world) = off-said (all_handed Responder world) step (flight_to setup Initiator world) (said-kept setup Initiator world)
said-kept setup Responder (By Responder step ∷ world) = off-said (all_handed Initiator world) step (flight_to setup Responder world) (said-kept setup Responder world)
said-kept setup Initiator (By Responder step ∷ world) =
    all-append (SaidIn (handed_by step ++ all_handed Responder world)) (flight_to setup Initiator world) (sent_by_step setup Responder world step)
    (all-said (all_handed Responder world) (handed_by step) (flight_to setup Initiator world) (said-kept setup Initiator world))
    (step-said setup (state_of setup Responder world) step (all_handed Responder world) (shared_at setup world).set)
said-kept setup Responder (By Initiator step ∷ world) =
    all-append (SaidIn (handed_by step ++ all_handed Initiator world)) (flight_to setup Responder world) (sent_by_step setup Initiator world step)
    (all-said (all_handed Initiator world) (handed_by step) (flight_to setup Responder world) (said-kept setup Responder world))
    (step-said setup (state_of setup Initiator world) step (all_handed Initiator world) (shared_at setup world).set)

data-said : (hs : List Apdu) (flight : List Sending) (value : Value) → ComesNext (Data value) flight → AllAre (SaidIn hs) flight → IsHandedIn hs value.apdu
data-said hs [] value c h = absurd c
data-said hs (s ∷ flight) value c h = subst (SaidIn hs) c h.0

end-own : (base : ModelSetup) (x y : State) (hs : List Apdu) (value : Value) (t : Option Transfer) (c : ℕ) (es : List Encoding) → SpellsIn (value_in t) (reliable base) x.sets.held x.incoming → Encoded t c es → OnItem hs t → handed_up (reliable base) x.sets.held x.incoming ≡ Some value → IsHandedIn hs value.apdu
end-own base x y hs value None c es s e i h = absurd s
end-own base x y hs value (Some t) c es s e i h = go t.value s e
  where
    go : (v : Option Value) → SpellsIn v (reliable base) x.sets.held x.incoming → EncodedIn v t.item.apdu c es → IsHandedIn hs value.apdu
    go None s e = absurd s
    go (Some w) s e = subst (λ (v : Value). IsHandedIn hs v.apdu) (handed-spelled base x w value s h) (subst (IsHandedIn hs) (sym e.1) i)

own-of : (setup : ModelSetup) → ((world : World) (role : Role) (number : ℕ) (choice : Choice) (value : Value) → IsRun setup (By role (Takes (End number) choice) ∷ world) → handed_up setup (state_of setup role world).sets.held (state_of setup role world).incoming ≡ Some value → IsHandedIn (all_handed (other role) world) value.apdu) → TheOthersOwn setup
own-of setup f world role (Data value) choice w h e =
    subst (λ (v : Value). IsHandedIn (all_handed (other role) world) v.apdu) same (data-said (all_handed (other role) world) (flight_to setup role world) value h.0.comes (said-kept setup role world))
  where
    same : value ≡ w
    same = cc
own-of setup f world role (End number) choice w h e = f world role number choice w h e
own-of setup f world role m choice w h e = absurd (cc)

reliable-own : (base : ModelSetup) → TheOthersOwn (reliable base)
reliable-own base =
    own-of (reliable base) (λ world role number choice value h e.
    let s = source-at base world role number choice h in
    end-own base (state_of (reliable base) role world) (state_of (reliable base) (other role) world) (all_handed (other role) world) value (state_of (reliable base) (other role) world).outgoing.transfer _ _
    s.spelled (encoded-kept base world h.1 (other role)) (items-kept (reliable base) (other role) world).current e)

pub all-own : ((setup : ModelSetup) → NoAbortOfItself setup) → (setup : ModelSetup) → TheOthersOwn setup
all-own n =
    by-mode TheOthersOwn
    (λ base. own-of (bare base) (λ world role number choice value h e. absurd (let m = (n (bare base) world role (End number) choice h).by_transfers in cc)))
    (λ base. own-of (direct base) (λ world role number choice value h e. absurd (let m = (n (direct base) world role (End number) choice h).by_transfers in cc)))
    reliable-own

pub all-whole : ((setup : ModelSetup) → NoAbortOfItself setup) → (setup : ModelSetup) → ArriveWhole setup
all-whole n =
    by-mode ArriveWhole
    (λ base world role number choice value h e. absurd (let m = (n (bare base) world role (End number) choice h).by_transfers in cc))
    (λ base world role number choice value h e. absurd (let m = (n (direct base) world role (End number) choice h).by_transfers in cc))
    reliable-whole
