-- Each context that the ends hold has a transfer syntax that they know.
use Rattle.std.proofs.Common.{◌≡◌, ℕ, zero, suc, Bool, true, false, nat_eq, nat_lt, List, [], ◌∷◌}
use Rattle.std.specs.Prelude.{Option, Some, None}
use Rattle.agreement.specs.Sets.{Role, Pair, ContextSet, Item, Result, put, remove, changed, altered, IsKnown, AreKnown, IsKnownSet, Saved, below, newest}
use Rattle.agreement.specs.Sets.Role.{Initiator, Responder}
use Rattle.agreement.specs.Sets.Item.{Addition, Deletion}
use Rattle.agreement.specs.Sets.Result.{Rejected, AcceptedAs, Accepted, Kept}
use Rattle.agreement.specs.Messages.{Value, Mode, ModelSetup, Message, Act, Choice}
use Rattle.agreement.specs.Messages.Mode.{Bare, Direct, Reliable}
use Rattle.agreement.specs.Messages.Act.{Connects, Recovers, SaysValue, Queues, Drops, Alters, Marks, GivesTurn, Pleads, Restarts, Starts, Encodes, Sends, EndsActivity, Interrupts, Discards, Resumes, Releases, Aborts, Withdraws, TransportFails}
use Rattle.agreement.specs.Messages.Choice.{Nothing, Accepting, Refusing, Results}
use Rattle.agreement.specs.Messages.Message.{Connect, Recover, Accept, Refuse, Data, Alter, AlterAnswer, Mark, MarkAnswer, Restart, RestartAnswer, Start, Resume, Chunk, End, EndAnswer, Interrupt, InterruptAnswer, Discard, DiscardAnswer, Give, GiveAnswer, Please, Release, ReleaseAnswer, UserAbort}
use Rattle.agreement.specs.State.{Piece, Handed, Transfer, Outgoing, Incoming, State, joined_with, first_set, from_mark, up_to, newest_set, inter_with, saved_with}
use Rattle.agreement.specs.State.Piece.{Octets, Marked}
use Rattle.agreement.specs.Acts.{IsNotBare, acted, sent_by, marked_in, gave_in, on_transfer, started, pieces_of, resumed_set}
use Rattle.agreement.specs.Takings.{MayTake, IsChoice, taken, hears, handed_up, marked_from, restored, between, refusing, resumed_in, altered_first, broken}
use Rattle.agreement.specs.Worlds.{Step, World, state_of, IsRun, after, Shared, saved_of, saving, shared_marked, shared_resumed, shared_sent, shared_all, shared_answered, shared_after, shared_at}
use Rattle.agreement.specs.Worlds.Step.{Acts, Takes, Passes}
use Rattle.agreement.specs.Worlds.Moment.{By, Break}
use Rattle.agreement.specs.Laws.{NoAbortOfItself, ContextsAreKnown}
use Rattle.agreement.proofs.Order.{by_test}

known-put : (knows : List ℕ → Bool) (k : ℕ) (p : Pair) (set : ContextSet) → knows p.transfer_syntax ≡ true → IsKnownSet knows set → IsKnownSet knows (put k p set)
known-put knows k p [] e h = (e, tt)
known-put knows k p (c ∷ cs) e h =
    by_test (IsKnownSet knows) (nat_lt k c.identifier) _ _ (λ t. (e, h))
    (λ t. by_test (IsKnownSet knows) (nat_eq k c.identifier) _ _ (λ t. (e, h.1)) (λ t. (h.0, known-put knows k p cs e h.1)))

known-remove : (knows : List ℕ → Bool) (k : ℕ) (set : ContextSet) → IsKnownSet knows set → IsKnownSet knows (remove k set)
known-remove knows k [] h = tt
known-remove knows k (c ∷ cs) h = by_test (IsKnownSet knows) (nat_eq c.identifier k) _ _ (λ t. known-remove knows k cs h.1) (λ t. (h.0, known-remove knows k cs h.1))

known-altered : (knows : List ℕ → Bool) (items : List Item) (results : List Result) (set : ContextSet) → AreKnown knows results → IsKnownSet knows set → IsKnownSet knows (altered items results set)
known-altered knows [] results set r h = h
known-altered knows (item ∷ items) [] set r h = h
known-altered knows (item ∷ items) (result ∷ results) set r h = known-altered knows items results (changed item result set) r.1 (go item result r.0)
  where
    go : (i : Item) (q : Result) → IsKnown knows q → IsKnownSet knows (changed i q set)
    go (Addition k offers) (AcceptedAs p) e = known-put knows k p set e h
    go (Addition k offers) Rejected e = h
    go (Addition k offers) Accepted e = h
    go (Addition k offers) Kept e = h
    go (Deletion k) Accepted e = known-remove knows k set h
    go (Deletion k) Kept e = h
    go (Deletion k) Rejected e = h
    go (Deletion k) (AcceptedAs p) e = h

known-first : (knows : List ℕ → Bool) (own : List (List Item)) (results : List Result) (set : ContextSet) → AreKnown knows results → IsKnownSet knows set → IsKnownSet knows (altered_first own results set)
known-first knows [] results set r h = h
known-first knows (items ∷ own) results set r h = known-altered knows items results set r h

-- what marks saved, and the marks in a transfer
abbrev AllSaved : (List ℕ → Bool) → List Saved → Type 0
AllSaved knows [] = Unit {0}
AllSaved knows (mark ∷ marks) = IsKnownSet knows mark.set × AllSaved knows marks

saved-below : (knows : List ℕ → Bool) (n : ℕ) (marks : List Saved) → AllSaved knows marks → AllSaved knows (below n marks)
saved-below knows n [] h = tt
saved-below knows n (mark ∷ marks) h = by_test (AllSaved knows) (nat_lt mark.number n) _ _ (λ t. h) (λ t. saved-below knows n marks h.1)

saved-newest : (knows : List ℕ → Bool) (marks : List Saved) → AllSaved knows marks → IsKnownSet knows (newest marks)
saved-newest knows [] h = tt
saved-newest knows (mark ∷ marks) h = h.0

abbrev AllPieces : (List ℕ → Bool) → List Piece → Type 0
AllPieces knows [] = Unit {0}
AllPieces knows (Octets octets ∷ pieces) = AllPieces knows pieces
AllPieces knows (Marked m set ∷ pieces) = IsKnownSet knows set × AllPieces knows pieces

pieces-from : (knows : List ℕ → Bool) (n : ℕ) (pieces : List Piece) → AllPieces knows pieces → AllPieces knows (from_mark n pieces)
pieces-from knows n [] h = tt
pieces-from knows n (Octets octets ∷ pieces) h = pieces-from knows n pieces h
pieces-from knows n (Marked m set ∷ pieces) h = by_test (AllPieces knows) (nat_eq m n) _ _ (λ t. h) (λ t. pieces-from knows n pieces h.1)

pieces-up_to : (knows : List ℕ → Bool) (n : ℕ) (pieces : List Piece) → AllPieces knows pieces → AllPieces knows (up_to n pieces)
pieces-up_to knows zero pieces h = tt
pieces-up_to knows (suc n) pieces h = pieces-from knows (suc n) pieces h

pieces-newest : (knows : List ℕ → Bool) (pieces : List Piece) → AllPieces knows pieces → IsKnownSet knows (newest_set pieces)
pieces-newest knows [] h = tt
pieces-newest knows (Octets octets ∷ pieces) h = pieces-newest knows pieces h
pieces-newest knows (Marked m set ∷ pieces) h = h.0

pieces-resumed : (knows : List ℕ → Bool) (n : ℕ) (pieces : List Piece) (held : ContextSet) → AllPieces knows pieces → IsKnownSet knows held → IsKnownSet knows (resumed_set n pieces held)
pieces-resumed knows zero pieces held h k = k
pieces-resumed knows (suc n) pieces held h k = pieces-newest knows (up_to (suc n) pieces) (pieces-up_to knows (suc n) pieces h)

-- all sets of an end
record AllKnown (knows : List ℕ → Bool) (x : State) : Type 0 where
  pub held : IsKnownSet knows x.sets.held
  pub inter : IsKnownSet knows x.sets.inter
  pub saved : AllSaved knows x.saved
  pub sent : AllPieces knows (pieces_of x.outgoing.transfer)
  pub came : AllPieces knows x.incoming.pieces

on-known : (knows : List ℕ → Bool) (change : Transfer → Transfer) (o : Outgoing) → ((t : Transfer) → AllPieces knows t.pieces → AllPieces knows (change t).pieces) → AllPieces knows (pieces_of o.transfer) → AllPieces knows (pieces_of (on_transfer change o).transfer)
on-known knows change o f = go o.transfer
  where
    go : (t : Option Transfer) → AllPieces knows (pieces_of t) → AllPieces knows (pieces_of (on_transfer change (record o { transfer = t })).transfer)
    go None h = tt
    go (Some t) h = f t h

started-known : (knows : List ℕ → Bool) (o : Outgoing) → AllPieces knows (pieces_of (started o).transfer)
started-known knows o = go o.queue
  where
    go : (queue : List Handed) → AllPieces knows (pieces_of (started (record o { queue = queue })).transfer)
    go [] = tt
    go (item ∷ queue) = tt

acts-known : (setup : ModelSetup) (x : State) (act : Act) → AllKnown setup.knows x → AllKnown setup.knows (acted setup x act)
acts-known setup x Marks k = go setup.mode
  where
    go : (m : Mode) → AllKnown setup.knows (marked_in m x)
    go Bare = k
    go Direct = record { held = k.held; inter = k.inter; saved = (k.held, k.saved); sent = k.sent; came = k.came }
    go Reliable = record { held = k.held; inter = k.inter; saved = k.saved; sent = on-known setup.knows _ x.outgoing (λ t h. (k.held, h)) k.sent; came = k.came }
acts-known setup x GivesTurn k = go setup.mode
  where
    go : (m : Mode) → AllKnown setup.knows (gave_in m x)
    go Bare = k
    go Direct = record { held = k.held; inter = k.inter; saved = k.saved; sent = k.sent; came = k.came }
    go Reliable = record { held = k.held; inter = k.inter; saved = k.saved; sent = k.sent; came = k.came }
acts-known setup x Starts k = record { held = k.held; inter = k.held; saved = k.saved; sent = started-known setup.knows x.outgoing; came = k.came }
acts-known setup x (Encodes context) k = record { held = k.held; inter = k.inter; saved = k.saved; sent = on-known setup.knows _ x.outgoing (λ t h. h) k.sent; came = k.came }
acts-known setup x (Sends octets) k = record { held = k.held; inter = k.inter; saved = k.saved; sent = on-known setup.knows _ x.outgoing (λ t h. h) k.sent; came = k.came }
acts-known setup x EndsActivity k = record { held = k.held; inter = k.inter; saved = k.saved; sent = on-known setup.knows _ x.outgoing (λ t h. h) k.sent; came = k.came }
acts-known setup x Discards k = record { held = k.held; inter = k.inter; saved = k.saved; sent = on-known setup.knows _ x.outgoing (λ t h. h) k.sent; came = k.came }
acts-known setup x Resumes k =
    record {
      held = pieces-resumed setup.knows _ (pieces_of x.outgoing.transfer) x.sets.held k.sent k.held;
      inter = k.held;
      saved = k.saved;
      sent = on-known setup.knows _ x.outgoing (λ t h. pieces-up_to setup.knows t.confirmed t.pieces h) k.sent;
      came = k.came;
    }
acts-known setup x Connects k = record { held = k.held; inter = k.inter; saved = k.saved; sent = k.sent; came = k.came }
acts-known setup x Recovers k = record { held = k.held; inter = k.inter; saved = k.saved; sent = k.sent; came = k.came }
acts-known setup x (SaysValue value) k = record { held = k.held; inter = k.inter; saved = k.saved; sent = k.sent; came = k.came }
acts-known setup x (Queues context apdu) k = record { held = k.held; inter = k.inter; saved = k.saved; sent = k.sent; came = k.came }
acts-known setup x Drops k = record { held = k.held; inter = k.inter; saved = k.saved; sent = k.sent; came = k.came }
acts-known setup x (Alters items) k = record { held = k.held; inter = k.inter; saved = k.saved; sent = k.sent; came = k.came }
acts-known setup x (Pleads priority) k = k
acts-known setup x (Restarts number) k = record { held = k.held; inter = k.inter; saved = k.saved; sent = k.sent; came = k.came }
acts-known setup x Interrupts k = record { held = k.held; inter = k.inter; saved = k.saved; sent = k.sent; came = k.came }
acts-known setup x Releases k = record { held = k.held; inter = k.inter; saved = k.saved; sent = k.sent; came = k.came }
acts-known setup x Aborts k = record { held = k.held; inter = k.inter; saved = k.saved; sent = k.sent; came = k.came }
acts-known setup x Withdraws k = record { held = k.held; inter = k.inter; saved = k.saved; sent = k.sent; came = k.came }
acts-known setup x TransportFails k = record { held = k.held; inter = k.inter; saved = k.saved; sent = k.sent; came = k.came }

inter-known : (knows : List ℕ → Bool) (mode : Mode) (set inter : ContextSet) → IsKnownSet knows set → IsKnownSet knows inter → IsKnownSet knows (inter_with mode set inter)
inter-known knows Bare set inter h k = k
inter-known knows Direct set inter h k = k
inter-known knows Reliable set inter h k = h

saved-known : (knows : List ℕ → Bool) (mode : Mode) (set : ContextSet) (saved : List Saved) → IsKnownSet knows set → AllSaved knows saved → AllSaved knows (saved_with mode set saved)
saved-known knows Bare set saved h k = k
saved-known knows Direct set saved h k = (h, tt)
saved-known knows Reliable set saved h k = k

joins-known : (setup : ModelSetup) (role : Role) (set : ContextSet) (x : State) → IsKnownSet setup.knows set → AllKnown setup.knows x → AllKnown setup.knows (joined_with setup.mode role set x)
joins-known setup role set x h k =
    record { held = h; inter = inter-known setup.knows setup.mode set x.sets.inter h k.inter; saved = saved-known setup.knows setup.mode set x.saved h k.saved; sent = k.sent; came = k.came }

refuses-known : (knows : List ℕ → Bool) (x : State) → AllKnown knows x → AllKnown knows (record x { phase = refusing x.phase })
refuses-known knows x k = record { held = k.held; inter = k.inter; saved = k.saved; sent = k.sent; came = k.came }

opens-known : (setup : ModelSetup) (role : Role) (x : State) (choice : Choice) → IsChoice setup x Connect choice → AllKnown setup.knows x → AllKnown setup.knows (taken setup role x Connect choice)
opens-known setup role x (Accepting set) c k =
    record { held = c.is_known; inter = inter-known setup.knows setup.mode set [] c.is_known tt; saved = saved-known setup.knows setup.mode set [] c.is_known tt; sent = tt; came = tt }
opens-known setup role x Refusing c k = refuses-known setup.knows x k
opens-known setup role x Nothing c k = absurd c
opens-known setup role x (Results results) c k = absurd c

recovers-known : (setup : ModelSetup) (role : Role) (x : State) (choice : Choice) → IsChoice setup x Recover choice → AllKnown setup.knows x → AllKnown setup.knows (taken setup role x Recover choice)
recovers-known setup role x (Accepting set) c k = joins-known setup role set x c.is_known k
recovers-known setup role x Refusing c k = refuses-known setup.knows x k
recovers-known setup role x Nothing c k = absurd c
recovers-known setup role x (Results results) c k = absurd c

alters-known : (setup : ModelSetup) (role : Role) (x : State) (items : List Item) (choice : Choice) → IsChoice setup x (Alter items) choice → AllKnown setup.knows x → AllKnown setup.knows (taken setup role x (Alter items) choice)
alters-known setup role x items (Results results) c k =
    record { held = known-altered setup.knows items results x.sets.held c.is_known k.held; inter = k.inter; saved = k.saved; sent = k.sent; came = k.came }
alters-known setup role x items (Accepting set) c k = absurd c
alters-known setup role x items Refusing c k = absurd c
alters-known setup role x items Nothing c k = absurd c

hears-known : (setup : ModelSetup) (v : Option Value) (x : State) → AllKnown setup.knows x → AllKnown setup.knows (hears setup v x)
hears-known setup None x k = k
hears-known setup (Some v) x k = record { held = k.held; inter = k.inter; saved = k.saved; sent = k.sent; came = k.came }

between-known : (knows : List ℕ → Bool) (x : State) → AllKnown knows x → AllKnown knows (between x)
between-known knows x k = record { held = k.inter; inter = k.inter; saved = k.saved; sent = k.sent; came = k.came }

restores-known : (setup : ModelSetup) (role : Role) (number : ℕ) (x : State) → AllKnown setup.knows x → AllKnown setup.knows (restored role number x)
restores-known setup role number x k =
    let s = saved-below setup.knows number x.saved k.saved in
    record { held = saved-newest setup.knows (below number x.saved) s; inter = k.inter; saved = s; sent = k.sent; came = k.came }

resumed-known : (knows : List ℕ → Bool) (activity mark : ℕ) (i : Incoming) → AllPieces knows i.pieces → AllPieces knows (resumed_in activity mark i).pieces
resumed-known knows activity mark i h =
    by_test (λ (q : Incoming). AllPieces knows q.pieces) (nat_eq activity i.last) _ _ (λ t. pieces-up_to knows mark i.pieces h) (λ t. tt)

takes-known : (setup : ModelSetup) (role : Role) (x : State) (m : Message) (choice : Choice) → MayTake setup role x m → IsChoice setup x m choice → AllKnown setup.knows x → AllKnown setup.knows (taken setup role x m choice)
takes-known setup role x Connect choice h c k = opens-known setup role x choice c k
takes-known setup role x Recover choice h c k = recovers-known setup role x choice c k
takes-known setup role x (Accept set) choice h c k = joins-known setup role set x h.is_known k
takes-known setup role x Refuse choice h c k = record { held = k.held; inter = k.inter; saved = k.saved; sent = k.sent; came = k.came }
takes-known setup role x (Data value) choice h c k = hears-known setup (Some value) x k
takes-known setup role x (Alter items) choice h c k = alters-known setup role x items choice c k
takes-known setup role x (AlterAnswer results) choice h c k =
    record { held = known-first setup.knows x.sets.own results x.sets.held h.is_known k.held; inter = k.inter; saved = k.saved; sent = k.sent; came = k.came }
takes-known setup role x (Mark number) choice h c k = go setup.mode
  where
    go : (m : Mode) → AllKnown setup.knows (marked_from m number x)
    go Bare = k
    go Direct = record { held = k.held; inter = k.inter; saved = (k.held, k.saved); sent = k.sent; came = k.came }
    go Reliable = record { held = k.held; inter = k.inter; saved = k.saved; sent = k.sent; came = (k.held, k.came) }
takes-known setup role x (MarkAnswer number) choice h c k = record { held = k.held; inter = k.inter; saved = k.saved; sent = on-known setup.knows _ x.outgoing (λ t h. h) k.sent; came = k.came }
takes-known setup role x (Restart number list) choice h c k = restores-known setup role number x k
takes-known setup role x (RestartAnswer number list) choice h c k = restores-known setup role number x k
takes-known setup role x (Start activity) choice h c k = record { held = k.held; inter = k.held; saved = k.saved; sent = k.sent; came = tt }
takes-known setup role x (Resume activity mark) choice h c k =
    record {
      held = pieces-resumed setup.knows mark x.incoming.pieces x.sets.held k.came k.held;
      inter = k.held;
      saved = k.saved;
      sent = k.sent;
      came = resumed-known setup.knows activity mark x.incoming k.came;
    }
takes-known setup role x (Chunk octets) choice h c k = record { held = k.held; inter = k.inter; saved = k.saved; sent = k.sent; came = k.came }
takes-known setup role x (End number) choice h c k =
    between-known setup.knows _ (hears-known setup (handed_up setup x.sets.held x.incoming) (record x { incoming = record x.incoming { was_handed = true; active = false } })
    (record { held = k.held; inter = k.inter; saved = k.saved; sent = k.sent; came = k.came }))
takes-known setup role x (EndAnswer number) choice h c k = record { held = k.inter; inter = k.inter; saved = k.saved; sent = tt; came = k.came }
takes-known setup role x Interrupt choice h c k = record { held = k.inter; inter = k.inter; saved = k.saved; sent = k.sent; came = k.came }
takes-known setup role x InterruptAnswer choice h c k = record { held = k.inter; inter = k.inter; saved = k.saved; sent = on-known setup.knows _ x.outgoing (λ t h. h) k.sent; came = k.came }
takes-known setup role x Discard choice h c k = record { held = k.inter; inter = k.inter; saved = k.saved; sent = k.sent; came = tt }
takes-known setup role x DiscardAnswer choice h c k = record { held = k.inter; inter = k.inter; saved = k.saved; sent = tt; came = k.came }
takes-known setup role x Give choice h c k = record { held = k.held; inter = k.inter; saved = k.saved; sent = k.sent; came = k.came }
takes-known setup role x GiveAnswer choice h c k = record { held = k.held; inter = k.inter; saved = k.saved; sent = k.sent; came = k.came }
takes-known setup role x (Please priority) choice h c k = k
takes-known setup role x Release choice h c k = record { held = k.held; inter = k.inter; saved = k.saved; sent = k.sent; came = k.came }
takes-known setup role x ReleaseAnswer choice h c k = record { held = k.held; inter = k.inter; saved = k.saved; sent = k.sent; came = k.came }
takes-known setup role x UserAbort choice h c k = record { held = k.held; inter = k.inter; saved = k.saved; sent = k.sent; came = k.came }

-- all that is shared
record SharedKnown (knows : List ℕ → Bool) (s : Shared) : Type 0 where
  pub set : IsKnownSet knows s.set
  pub inter : IsKnownSet knows s.inter
  pub saved : AllSaved knows s.saved
  pub of_initiator : AllSaved knows s.of_initiator
  pub of_responder : AllSaved knows s.of_responder

saved-of_known : (knows : List ℕ → Bool) (role : Role) (s : Shared) → SharedKnown knows s → AllSaved knows (saved_of role s)
saved-of_known knows Initiator s k = k.of_initiator
saved-of_known knows Responder s k = k.of_responder

saving-known : (knows : List ℕ → Bool) (role : Role) (marks : List Saved) (s : Shared) → AllSaved knows marks → SharedKnown knows s → SharedKnown knows (saving role marks s)
saving-known knows Initiator marks s h k = record { set = k.set; inter = k.inter; saved = k.saved; of_initiator = h; of_responder = k.of_responder }
saving-known knows Responder marks s h k = record { set = k.set; inter = k.inter; saved = k.saved; of_initiator = k.of_initiator; of_responder = h }

marked-known : (knows : List ℕ → Bool) (mode : Mode) (role : Role) (number : ℕ) (s : Shared) → SharedKnown knows s → SharedKnown knows (shared_marked mode role number s)
marked-known knows Bare role number s k = k
marked-known knows Direct role number s k = record { set = k.set; inter = k.inter; saved = (k.set, k.saved); of_initiator = k.of_initiator; of_responder = k.of_responder }
marked-known knows Reliable role number s k = saving-known knows role _ s (k.set, saved-of_known knows role s k) k

resumes-known : (knows : List ℕ → Bool) (role : Role) (number : ℕ) (s : Shared) → SharedKnown knows s → SharedKnown knows (shared_resumed role number s)
resumes-known knows role zero s k =
    saving-known knows role [] (record s { inter = s.set }) tt (record { set = k.set; inter = k.set; saved = k.saved; of_initiator = k.of_initiator; of_responder = k.of_responder })
resumes-known knows role (suc n) s k =
    let b = saved-below knows (suc (suc n)) (saved_of role s) (saved-of_known knows role s k) in
    saving-known knows role (below (suc (suc n)) (saved_of role s)) (record s { inter = s.set; set = newest (below (suc (suc n)) (saved_of role s)) }) b
    (record { set = saved-newest knows (below (suc (suc n)) (saved_of role s)) b; inter = k.set; saved = k.saved; of_initiator = k.of_initiator; of_responder = k.of_responder })

sent-known : (knows : List ℕ → Bool) (mode : Mode) (role : Role) (m : Message) (s : Shared) → SharedKnown knows s → SharedKnown knows (shared_sent mode role m s)
sent-known knows mode role (Mark number) s k = marked-known knows mode role number s k
sent-known knows mode role (Start activity) s k =
    saving-known knows role [] (record s { inter = s.set }) tt (record { set = k.set; inter = k.set; saved = k.saved; of_initiator = k.of_initiator; of_responder = k.of_responder })
sent-known knows mode role (Resume activity mark) s k = resumes-known knows role mark s k
sent-known knows mode role m s k = k

all-sent_known : (knows : List ℕ → Bool) (mode : Mode) (role : Role) (ms : List Message) (s : Shared) → SharedKnown knows s → SharedKnown knows (shared_all mode role ms s)
all-sent_known knows mode role [] s k = k
all-sent_known knows mode role (m ∷ ms) s k = all-sent_known knows mode role ms (shared_sent mode role m s) (sent-known knows mode role m s k)

inter-shared : (knows : List ℕ → Bool) (s : Shared) → SharedKnown knows s → SharedKnown knows (record s { set = s.inter })
inter-shared knows s k = record { set = k.inter; inter = k.inter; saved = k.saved; of_initiator = k.of_initiator; of_responder = k.of_responder }

answered-known : (setup : ModelSetup) (x : State) (m : Message) (choice : Choice) (s : Shared) → IsChoice setup x m choice → SharedKnown setup.knows s → SharedKnown setup.knows (shared_answered m choice s)
answered-known setup x Connect (Accepting set) s c k = record { set = c.is_known; inter = c.is_known; saved = (c.is_known, tt); of_initiator = tt; of_responder = tt }
answered-known setup x Connect Refusing s c k = k
answered-known setup x Connect Nothing s c k = k
answered-known setup x Connect (Results results) s c k = k
answered-known setup x Recover (Accepting set) s c k = record { set = c.is_known; inter = c.is_known; saved = (c.is_known, tt); of_initiator = k.of_initiator; of_responder = k.of_responder }
answered-known setup x Recover Refusing s c k = k
answered-known setup x Recover Nothing s c k = k
answered-known setup x Recover (Results results) s c k = k
answered-known setup x (Alter items) (Results results) s c k =
    record { set = known-altered setup.knows items results s.set c.is_known k.set; inter = k.inter; saved = k.saved; of_initiator = k.of_initiator; of_responder = k.of_responder }
answered-known setup x (Alter items) (Accepting set) s c k = k
answered-known setup x (Alter items) Refusing s c k = k
answered-known setup x (Alter items) Nothing s c k = k
answered-known setup x (Restart number list) choice s c k =
    let b = saved-below setup.knows number s.saved k.saved in
    record { set = saved-newest setup.knows (below number s.saved) b; inter = k.inter; saved = b; of_initiator = k.of_initiator; of_responder = k.of_responder }
answered-known setup x (End number) choice s c k = inter-shared setup.knows s k
answered-known setup x Interrupt choice s c k = inter-shared setup.knows s k
answered-known setup x Discard choice s c k = inter-shared setup.knows s k
answered-known setup x m choice s c k = k

step-known : (setup : ModelSetup) → NoAbortOfItself setup → (role : Role) (world : World) (step : Step) → IsRun setup (By role step ∷ world) → AllKnown setup.knows (state_of setup role world) → AllKnown setup.knows (after setup role (state_of setup role world) step)
step-known setup n role world (Acts act) h k = acts-known setup (state_of setup role world) act k
step-known setup n role world (Takes m choice) h k = takes-known setup role (state_of setup role world) m choice (n world role m choice h) h.0.is_choice k
step-known setup n role world (Passes m) h k = k

first-known : (setup : ModelSetup) (mode : Mode) → IsNotBare mode → IsKnownSet setup.knows (first_set setup mode)
first-known setup Bare b = absurd b
first-known setup Direct b = tt
first-known setup Reliable b = tt

breaks-known : (setup : ModelSetup) (x : State) → AllKnown setup.knows x → AllKnown setup.knows (broken setup x)
breaks-known setup x k = record { held = k.held; inter = k.inter; saved = k.saved; sent = on-known setup.knows _ x.outgoing (λ t h. h) k.sent; came = k.came }

ends-known : (setup : ModelSetup) → NoAbortOfItself setup → IsNotBare setup.mode → (world : World) → IsRun setup world → (role : Role) → AllKnown setup.knows (state_of setup role world)
ends-known setup n b [] h role = record { held = first-known setup setup.mode b; inter = tt; saved = tt; sent = tt; came = tt }
ends-known setup n b (Break ∷ world) h role = breaks-known setup (state_of setup role world) (ends-known setup n b world h.1 role)
ends-known setup n b (By Initiator step ∷ world) h Initiator = step-known setup n Initiator world step h (ends-known setup n b world h.1 Initiator)
ends-known setup n b (By Responder step ∷ world) h Responder = step-known setup n Responder world step h (ends-known setup n b world h.1 Responder)
ends-known setup n b (By Initiator step ∷ world) h Responder = ends-known setup n b world h.1 Responder
ends-known setup n b (By Responder step ∷ world) h Initiator = ends-known setup n b world h.1 Initiator

shared-known_step : (setup : ModelSetup) (role : Role) (world : World) (step : Step) → IsRun setup (By role step ∷ world) → SharedKnown setup.knows (shared_at setup world) → SharedKnown setup.knows (shared_after setup role (state_of setup role world) step (shared_at setup world))
shared-known_step setup role world (Acts act) h k = all-sent_known setup.knows setup.mode role (sent_by setup (state_of setup role world) act) (shared_at setup world) k
shared-known_step setup role world (Takes m choice) h k = answered-known setup (state_of setup role world) m choice (shared_at setup world) h.0.is_choice k
shared-known_step setup role world (Passes m) h k = k

shared-known : (setup : ModelSetup) → IsNotBare setup.mode → (world : World) → IsRun setup world → SharedKnown setup.knows (shared_at setup world)
shared-known setup b [] h = record { set = first-known setup setup.mode b; inter = tt; saved = tt; of_initiator = tt; of_responder = tt }
shared-known setup b (Break ∷ world) h = shared-known setup b world h.1
shared-known setup b (By role step ∷ world) h = shared-known_step setup role world step h (shared-known setup b world h.1)

pub contexts-known : (setup : ModelSetup) → NoAbortOfItself setup → ContextsAreKnown setup
contexts-known setup n b world h =
    record { initiator = (ends-known setup n b world h Initiator).held; responder = (ends-known setup n b world h Responder).held; shared = (shared-known setup b world h).set }
