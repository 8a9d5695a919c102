-- For the level of octets: the pieces that a transfer has sent begin what was written of its value.
use Rattle.std.proofs.Common.{◌≡◌, ℕ, zero, suc, Bool, true, false, nat_eq, if◌then◌else◌, List, [], ◌∷◌, ◌++◌, refl, sym, ap, ◌∙◌, subst, append_assoc}
use Rattle.std.specs.Prelude.{Option, Some, None}
use Rattle.agreement.specs.Sets.{Pair, Role, Item, lookup}
use Rattle.agreement.specs.Sets.Role.{Initiator, Responder}
use Rattle.agreement.specs.Messages.{Value, Mode, ModelSetup, Codec, Message, Act, Choice}
use Rattle.agreement.specs.Messages.Mode.{Bare, Direct, Reliable}
use Rattle.agreement.specs.Messages.Act.{Connects, Recovers, SaysValue, Queues, Drops, Alters, Marks, GivesTurn, Pleads, Restarts, Starts, Encodes, Sends, EndsActivity, Interrupts, Discards, Resumes, Releases, Aborts, Withdraws, TransportFails}
use Rattle.agreement.specs.Messages.Choice.{Nothing, Accepting, Refusing, Results}
use Rattle.agreement.specs.Messages.Message.{Connect, Recover, Accept, Refuse, Data, Alter, AlterAnswer, Mark, MarkAnswer, Restart, RestartAnswer, Start, Resume, Chunk, End, EndAnswer, Interrupt, InterruptAnswer, Discard, DiscardAnswer, Give, GiveAnswer, Please, Release, ReleaseAnswer, UserAbort}
use Rattle.agreement.specs.State.{Piece, Handed, Transfer, State, from_mark, up_to, joined}
use Rattle.agreement.specs.State.Piece.{Octets, Marked}
use Rattle.agreement.specs.Acts.{MayAct, MayMarkIn, OnEncoded, acted, value_on, resumed_value, started, marked_in, gave_in}
use Rattle.agreement.specs.Takings.{taken, hears, handed_up, marked_from, broken}
use Rattle.agreement.specs.Worlds.{Step, World, Sending, state_of, IsStep, IsRun, after}
use Rattle.agreement.specs.Worlds.Step.{Acts, Takes, Passes}
use Rattle.agreement.specs.Worlds.Moment.{By, Break}

-- some octets begin all of them
abbrev pub IsBegun : List ℕ → List ℕ → Type 0
IsBegun sent all = (rest : List ℕ) × (sent ++ rest ≡ all)

abbrev pub BeginsIn : Codec → Option Value → List Piece → Type 0
BeginsIn codec None pieces = pieces ≡ []
BeginsIn codec (Some value) pieces = IsBegun (joined pieces) (codec.written value)

-- what was sent of a transfer begins what was written of it; of one that isn't encoded nothing was sent
abbrev pub Begins : Codec → Option Transfer → Type 0
Begins codec None = Unit {0}
Begins codec (Some transfer) = BeginsIn codec transfer.value transfer.pieces

-- what stands up to a mark begins what stands up to the newest
from-begun : (n : ℕ) (pieces : List Piece) → IsBegun (joined (from_mark n pieces)) (joined pieces)
from-begun n [] = ([], refl)
from-begun n (Octets o ∷ pieces) = let b = from-begun n pieces in (b.0 ++ o, sym (append_assoc (joined (from_mark n pieces)) b.0 o) ∙ ap (λ xs. xs ++ o) b.1)
from-begun n (Marked m set ∷ pieces) = go (nat_eq m n) (from-begun n pieces)
  where
    none : (xs : List ℕ) → xs ++ [] ≡ xs
    none [] = refl
    none (x ∷ xs) = ap (λ ys. x ∷ ys) (none xs)

    go : (b : Bool) → IsBegun (joined (from_mark n pieces)) (joined pieces) → IsBegun (joined (if b then Marked m set ∷ pieces else from_mark n pieces)) (joined pieces)
    go true h = ([], none (joined pieces))
    go false h = h

begun-trans : (xs ys zs : List ℕ) → IsBegun xs ys → IsBegun ys zs → IsBegun xs zs
begun-trans xs ys zs a b = (a.0 ++ b.0, sym (append_assoc xs a.0 b.0) ∙ ap (λ ws. ws ++ b.0) a.1 ∙ b.1)

begins-resumed : (codec : Codec) (n : ℕ) (value : Option Value) (pieces : List Piece) → BeginsIn codec value pieces → BeginsIn codec (resumed_value n value) (up_to n pieces)
begins-resumed codec zero value pieces h = refl
begins-resumed codec (suc n) None pieces h = ap (from_mark (suc n)) h
begins-resumed codec (suc n) (Some v) pieces h = begun-trans (joined (from_mark (suc n) pieces)) (joined pieces) (codec.written v) (from-begun (suc n) pieces) h

abbrev with_transfer : State → Option Transfer → State
with_transfer x t = record x { outgoing = record x.outgoing { transfer = t } }

begins-marked : (codec : Codec) (value : Option Value) (pieces : List Piece) (P : List ℕ → List ℕ → Type 0) (piece : Piece) → joined (piece ∷ pieces) ≡ joined pieces → OnEncoded P codec pieces value → BeginsIn codec value pieces → BeginsIn codec value (piece ∷ pieces)
begins-marked codec None pieces P piece e o h = absurd o
begins-marked codec (Some v) pieces P piece e o h = subst (λ xs. IsBegun xs (codec.written v)) (sym e) h

begins-sent : (codec : Codec) (value : Option Value) (pieces : List Piece) (octets : List ℕ) → OnEncoded (λ sent all. (rest : List ℕ) × ((sent ++ octets) ++ rest ≡ all)) codec pieces value → BeginsIn codec value (Octets octets ∷ pieces)
begins-sent codec None pieces octets o = absurd o
begins-sent codec (Some v) pieces octets o = o

begins-encoded : (codec : Codec) (context : ℕ) (item : Handed) (found : Option Pair) (pieces : List Piece) → pieces ≡ [] → BeginsIn codec (value_on context item found) pieces
begins-encoded codec context item None pieces e = e
begins-encoded codec context item (Some pair) pieces e =
    let v : Value = record { identifier = context; pair = pair; apdu = item.apdu } in
    (codec.written v, ap (λ (p : List Piece). joined p ++ codec.written v) e)

begins-none : (codec : Codec) (value : Option Value) (pieces : List Piece) → value ≡ None → BeginsIn codec value pieces → pieces ≡ []
begins-none codec value pieces e h = subst (λ v. BeginsIn codec v pieces) e h

acts-begin : (setup : ModelSetup) (role : Role) (x : State) (t : Option Transfer) (act : Act) → MayAct setup role (with_transfer x t) act → Begins setup.codec t → Begins setup.codec (acted setup (with_transfer x t) act).outgoing.transfer
acts-begin setup role x t Connects h b = b
acts-begin setup role x t Recovers h b = b
acts-begin setup role x t (SaysValue value) h b = b
acts-begin setup role x t (Queues context apdu) h b = b
acts-begin setup role x t Drops h b = b
acts-begin setup role x t (Alters items) h b = b
acts-begin setup role x t Marks h b = go setup.mode t h.in_mode b
  where
    go : (m : Mode) (t : Option Transfer) → MayMarkIn setup m (with_transfer x t) → Begins setup.codec t → Begins setup.codec (marked_in m (with_transfer x t)).outgoing.transfer
    go Bare t h b = b
    go Direct t h b = b
    go Reliable None h b = b
    go Reliable (Some t) h b = begins-marked setup.codec t.value t.pieces (λ sent all. Unit {0}) _ refl h.0.1 b
acts-begin setup role x t GivesTurn h b = go setup.mode
  where
    go : (m : Mode) → Begins setup.codec (gave_in m (with_transfer x t)).outgoing.transfer
    go Bare = b
    go Direct = b
    go Reliable = b
acts-begin setup role x t (Pleads priority) h b = b
acts-begin setup role x t (Restarts number) h b = b
acts-begin setup role x t Starts h b = go x.outgoing.queue
  where
    go : (queue : List Handed) → Begins setup.codec (started (record { started = x.outgoing.started; transfer = t; queue = queue })).transfer
    go [] = tt
    go (item ∷ queue) = refl
acts-begin setup role x None (Encodes context) h b = b
acts-begin setup role x (Some t) (Encodes context) h b =
    begins-encoded setup.codec context t.item (lookup x.sets.held context) t.pieces (begins-none setup.codec t.value t.pieces h.is_due.1 b)
acts-begin setup role x None (Sends octets) h b = b
acts-begin setup role x (Some t) (Sends octets) h b = begins-sent setup.codec t.value t.pieces octets h.is_next.1
acts-begin setup role x None EndsActivity h b = b
acts-begin setup role x (Some t) EndsActivity h b = b
acts-begin setup role x t Interrupts h b = b
acts-begin setup role x None Discards h b = b
acts-begin setup role x (Some t) Discards h b = b
acts-begin setup role x None Resumes h b = b
acts-begin setup role x (Some t) Resumes h b = begins-resumed setup.codec t.confirmed t.value t.pieces b
acts-begin setup role x t Releases h b = b
acts-begin setup role x t Aborts h b = b
acts-begin setup role x t Withdraws h b = b
acts-begin setup role x t TransportFails h b = b

hears-begin : (setup : ModelSetup) (v : Option Value) (x : State) → Begins setup.codec x.outgoing.transfer → Begins setup.codec (hears setup v x).outgoing.transfer
hears-begin setup None x b = b
hears-begin setup (Some v) x b = b

opens-begin : (setup : ModelSetup) (role : Role) (x : State) (choice : Choice) → Begins setup.codec x.outgoing.transfer → Begins setup.codec (taken setup role x Connect choice).outgoing.transfer
opens-begin setup role x (Accepting set) b = tt
opens-begin setup role x Refusing b = b
opens-begin setup role x Nothing b = b
opens-begin setup role x (Results results) b = b

recovers-begin : (setup : ModelSetup) (role : Role) (x : State) (choice : Choice) → Begins setup.codec x.outgoing.transfer → Begins setup.codec (taken setup role x Recover choice).outgoing.transfer
recovers-begin setup role x (Accepting set) b = b
recovers-begin setup role x Refusing b = b
recovers-begin setup role x Nothing b = b
recovers-begin setup role x (Results results) b = b

alters-begin : (setup : ModelSetup) (role : Role) (x : State) (items : List Item) (choice : Choice) → Begins setup.codec x.outgoing.transfer → Begins setup.codec (taken setup role x (Alter items) choice).outgoing.transfer
alters-begin setup role x items (Results results) b = b
alters-begin setup role x items (Accepting set) b = b
alters-begin setup role x items Refusing b = b
alters-begin setup role x items Nothing b = b

takes-begin : (setup : ModelSetup) (role : Role) (x : State) (t : Option Transfer) (m : Message) (choice : Choice) → Begins setup.codec t → Begins setup.codec (taken setup role (with_transfer x t) m choice).outgoing.transfer
takes-begin setup role x t Connect choice b = opens-begin setup role (with_transfer x t) choice b
takes-begin setup role x t Recover choice b = recovers-begin setup role (with_transfer x t) choice b
takes-begin setup role x t (Accept set) choice b = b
takes-begin setup role x t Refuse choice b = b
takes-begin setup role x t (Data value) choice b = hears-begin setup (Some value) (with_transfer x t) b
takes-begin setup role x t (Alter items) choice b = alters-begin setup role (with_transfer x t) items choice b
takes-begin setup role x t (AlterAnswer results) choice b = b
takes-begin setup role x t (Mark number) choice b = go setup.mode
  where
    go : (m : Mode) → Begins setup.codec (marked_from m number (with_transfer x t)).outgoing.transfer
    go Bare = b
    go Direct = b
    go Reliable = b
takes-begin setup role x None (MarkAnswer number) choice b = b
takes-begin setup role x (Some t) (MarkAnswer number) choice b = b
takes-begin setup role x t (Restart number list) choice b = b
takes-begin setup role x t (RestartAnswer number list) choice b = b
takes-begin setup role x t (Start activity) choice b = b
takes-begin setup role x t (Resume activity mark) choice b = b
takes-begin setup role x t (Chunk octets) choice b = b
takes-begin setup role x t (End number) choice b =
    hears-begin setup (handed_up setup x.sets.held x.incoming) (record (with_transfer x t) { incoming = record x.incoming { was_handed = true; active = false } }) b
takes-begin setup role x t (EndAnswer number) choice b = tt
takes-begin setup role x t Interrupt choice b = b
takes-begin setup role x None InterruptAnswer choice b = b
takes-begin setup role x (Some t) InterruptAnswer choice b = b
takes-begin setup role x t Discard choice b = b
takes-begin setup role x t DiscardAnswer choice b = tt
takes-begin setup role x t Give choice b = b
takes-begin setup role x t GiveAnswer choice b = b
takes-begin setup role x t (Please priority) choice b = b
takes-begin setup role x t Release choice b = b
takes-begin setup role x t ReleaseAnswer choice b = b
takes-begin setup role x t UserAbort choice b = b

broken-begins : (setup : ModelSetup) (x : State) (t : Option Transfer) → Begins setup.codec t → Begins setup.codec (broken setup (with_transfer x t)).outgoing.transfer
broken-begins setup x None b = b
broken-begins setup x (Some t) b = b

step-begins : (setup : ModelSetup) (role : Role) (x : State) (flight : List Sending) (step : Step) → IsStep setup role x flight step → Begins setup.codec x.outgoing.transfer → Begins setup.codec (after setup role x step).outgoing.transfer
step-begins setup role x flight (Acts act) h b = acts-begin setup role x x.outgoing.transfer act h b
step-begins setup role x flight (Takes m choice) h b = takes-begin setup role x x.outgoing.transfer m choice b
step-begins setup role x flight (Passes m) h b = b

pub pieces-begin : (setup : ModelSetup) (world : World) → IsRun setup world → (role : Role) → Begins setup.codec (state_of setup role world).outgoing.transfer
pieces-begin setup [] h role = tt
pieces-begin setup (Break ∷ world) h role = broken-begins setup (state_of setup role world) (state_of setup role world).outgoing.transfer (pieces-begin setup world h.1 role)
pieces-begin setup (By Initiator step ∷ world) h Initiator = step-begins setup Initiator (state_of setup Initiator world) _ step h.0 (pieces-begin setup world h.1 Initiator)
pieces-begin setup (By Responder step ∷ world) h Responder = step-begins setup Responder (state_of setup Responder world) _ step h.0 (pieces-begin setup world h.1 Responder)
pieces-begin setup (By Initiator step ∷ world) h Responder = pieces-begin setup world h.1 Responder
pieces-begin setup (By Responder step ∷ world) h Initiator = pieces-begin setup world h.1 Initiator
