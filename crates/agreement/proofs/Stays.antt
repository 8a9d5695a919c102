-- A context that is left alone stays: what a step of one end keeps of it.
use Rattle.std.proofs.Common.{◌≡◌, ℕ, zero, suc, ◌≤◌, Bool, true, false, ◌||◌, nat_eq, nat_lt, List, [], ◌∷◌, ◌++◌, refl, sym, ◌∙◌, arith, true≢false, subst, inl, inr, ◌⊎◌}
use Rattle.std.specs.Prelude.{Option, Some, None}
use Rattle.std.proofs.lemmas.Bool.{eqb-false}
use Rattle.std.proofs.lemmas.Bool.Decides.{nat_tests}
use Rattle.agreement.specs.Sets.{Role, ContextSet, Item, Result, Saved, changed, altered, lookup, is_among, identifier_of, identifiers, below, newest}
use Rattle.agreement.specs.Sets.Item.{Addition, Deletion}
use Rattle.agreement.specs.Sets.Result.{Rejected, AcceptedAs, Accepted, Kept}
use Rattle.agreement.specs.Messages.{Value, Mode, ModelSetup, Message, Act, Choice}
use Rattle.agreement.specs.Messages.Mode.{Bare, Direct, Reliable}
use Rattle.agreement.specs.Messages.Act.{Connects, Recovers, SaysValue, Queues, Drops, Alters, Marks, GivesTurn, Pleads, Restarts, Starts, Encodes, Sends, EndsActivity, Interrupts, Discards, Resumes, Releases, Aborts, Withdraws, TransportFails}
use Rattle.agreement.specs.Messages.Choice.{Nothing, Accepting, Refusing, Results}
use Rattle.agreement.specs.Messages.Message.{Connect, Recover, Accept, Refuse, Data, Alter, AlterAnswer, Mark, MarkAnswer, Restart, RestartAnswer, Start, Resume, Chunk, End, EndAnswer, Interrupt, InterruptAnswer, Discard, DiscardAnswer, Give, GiveAnswer, Please, Release, ReleaseAnswer, UserAbort}
use Rattle.agreement.specs.State.{joined_with, inter_with, saved_with, Phase, Awaited, Sets, Piece, Handed, Transfer, Outgoing, Incoming, State, up_to, newest_set, highest}
use Rattle.agreement.specs.State.Phase.{Idle, Opening, Up, Broken, Over}
use Rattle.agreement.specs.State.Awaited.{NoAnswer, RestartOf}
use Rattle.agreement.specs.Acts.{MayAct, acted, marked_in, gave_in, on_transfer, started, pieces_of, confirmed_of, resumed, resumed_set}
use Rattle.agreement.specs.Takings.{MayTake, MayMarkFrom, MayResumeAt, IsChoice, taken, hears, handed_up, between, altered_first, later, marked_from, resumed_in, refusing, broken_phase, broken}
use Rattle.agreement.specs.Worlds.Step.{Acts, Takes}
use Rattle.agreement.specs.Laws.{LeavesAlone, IsJoined}
use Rattle.agreement.proofs.Order.{by_test, lookup-put_other, lookup-remove_other}
use Rattle.agreement.proofs.Pieces.{Numbered, Carries, carries-up_to, carries-newest, highest-up_to, numbered-up_to}

-- a set gives the value's context its pair
abbrev pub Gives_pair : Value → ContextSet → Type 0
Gives_pair v set = lookup set v.identifier ≡ Some v.pair

abbrev pub Saves : Value → List Saved → Type 0
Saves v [] = ⊥
Saves v (mark ∷ marks) = Gives_pair v mark.set × ((mark.number ≡ 0) ⊎ Saves v marks)

pub saves-below : (v : Value) (n : ℕ) (marks : List Saved) → 1 ≤ n → Saves v marks → Saves v (below n marks)
saves-below v n [] p h = absurd h
saves-below v n (mark ∷ marks) p h = by_test (Saves v) (nat_lt mark.number n) _ _ (λ t. h) (go (saves-below v n marks p) h.1)
  where
    low : mark.number ≡ 0 → nat_lt mark.number n ≡ false → ⊥
    low z f = grind (arith, nat_tests)

    go : (Saves v marks → Saves v (below n marks)) → (mark.number ≡ 0) ⊎ Saves v marks → nat_lt mark.number n ≡ false → Saves v (below n marks)
    go ih (inl z) f = absurd (low z f)
    go ih (inr s) f = ih s

pub saves-newest : (v : Value) (marks : List Saved) → Saves v marks → Gives_pair v (newest marks)
saves-newest v [] h = absurd h
saves-newest v (mark ∷ marks) h = h.0

-- items that don't name the context leave its pair
abbrev pub Unnamed : Value → List Item → Type 0
Unnamed v items = is_among v.identifier (identifiers items) ≡ false

abbrev pub AllUnnamed : Value → List (List Item) → Type 0
AllUnnamed v [] = Unit {0}
AllUnnamed v (items ∷ rest) = Unnamed v items × AllUnnamed v rest

left-false : (b c : Bool) → (b || c) ≡ false → b ≡ false
left-false true c e = absurd (true≢false e)
left-false false c e = refl

right-false : (b c : Bool) → (b || c) ≡ false → c ≡ false
right-false true c e = absurd (true≢false e)
right-false false c e = e

changed-other : (k : ℕ) (item : Item) (result : Result) (set : ContextSet) → (k ≡ identifier_of item → ⊥) → lookup (changed item result set) k ≡ lookup set k
changed-other k (Addition j offers) (AcceptedAs p) set n = lookup-put_other k j p set n
changed-other k (Addition j offers) Rejected set n = refl
changed-other k (Addition j offers) Accepted set n = refl
changed-other k (Addition j offers) Kept set n = refl
changed-other k (Deletion j) Accepted set n = lookup-remove_other k j set n
changed-other k (Deletion j) Kept set n = refl
changed-other k (Deletion j) Rejected set n = refl
changed-other k (Deletion j) (AcceptedAs p) set n = refl

altered-other : (k : ℕ) (items : List Item) (results : List Result) (set : ContextSet) → is_among k (identifiers items) ≡ false → lookup (altered items results set) k ≡ lookup set k
altered-other k [] results set h = refl
altered-other k (item ∷ items) [] set h = refl
altered-other k (item ∷ items) (result ∷ results) set h =
    altered-other k items results (changed item result set) (right-false (nat_eq k (identifier_of item)) (is_among k (identifiers items)) h) ∙
    changed-other k item result set (eqb-false k (identifier_of item) (left-false (nat_eq k (identifier_of item)) (is_among k (identifiers items)) h))

pub gives-altered : (v : Value) (items : List Item) (results : List Result) (set : ContextSet) → Unnamed v items → Gives_pair v set → Gives_pair v (altered items results set)
gives-altered v items results set u g = altered-other v.identifier items results set u ∙ g

gives-first : (v : Value) (own : List (List Item)) (results : List Result) (set : ContextSet) → AllUnnamed v own → Gives_pair v set → Gives_pair v (altered_first own results set)
gives-first v [] results set u g = g
gives-first v (items ∷ rest) results set u g = gives-altered v items results set u.0 g

unnamed-later : (v : Value) (own : List (List Item)) → AllUnnamed v own → AllUnnamed v (later own)
unnamed-later v [] u = tt
unnamed-later v (items ∷ rest) u = u.1

unnamed-append : (v : Value) (own : List (List Item)) (items : List Item) → AllUnnamed v own → Unnamed v items → AllUnnamed v (own ++ (items ∷ []))
unnamed-append v [] items u h = (h, tt)
unnamed-append v (first ∷ own) items u h = (u.0, unnamed-append v own items u.1 h)

-- a resumption brings back a set that gives the pair
pub gives-mark : (v : Value) (n : ℕ) (pieces : List Piece) → Numbered pieces → suc n ≤ highest pieces → Carries v pieces → Gives_pair v (newest_set (up_to (suc n) pieces))
gives-mark v n pieces d h c = carries-newest v (up_to (suc n) pieces) (carries-up_to v (suc n) pieces c) (subst (λ q. 1 ≤ q) (sym (highest-up_to (suc n) pieces d h)) least)
  where
    least : 1 ≤ suc n
    least = omega arith

-- the restart that is awaited is to a positive number
abbrev IsPositive : Awaited → Type 0
IsPositive (RestartOf n) = 1 ≤ n
IsPositive awaited = Unit {0}

pub record Stay (v : Value) (mode : Mode) (phase : Phase) (awaits : Awaited) (s : Sets) (saved : List Saved) (out into : List Piece) : Type 0 where
  pub sets : IsJoined phase → Gives_pair v s.held × (mode ≡ Reliable → Gives_pair v s.inter) × (mode ≡ Direct → Saves v saved)
  pub own : AllUnnamed v s.own
  pub asked : IsPositive awaits
  pub sent : Carries v out
  pub came : Numbered into × Carries v into

abbrev pub StayOf : Value → Mode → State → Type 0
StayOf v mode x = Stay v mode x.phase x.awaits x.sets x.saved (pieces_of x.outgoing.transfer) x.incoming.pieces

carries-on : (v : Value) (change : Transfer → Transfer) (o : Outgoing) → ((t : Transfer) → Carries v t.pieces → Carries v (change t).pieces) → Carries v (pieces_of o.transfer) → Carries v (pieces_of (on_transfer change o).transfer)
carries-on v change o f = go o.transfer
  where
    go : (t : Option Transfer) → Carries v (pieces_of t) → Carries v (pieces_of (on_transfer change (record o { transfer = t })).transfer)
    go None c = tt
    go (Some t) c = f t c

carries-started : (v : Value) (o : Outgoing) → Carries v (pieces_of (started o).transfer)
carries-started v o = go o.queue
  where
    go : (queue : List Handed) → Carries v (pieces_of (started (record o { queue = queue })).transfer)
    go [] = tt
    go (item ∷ queue) = tt

-- what a resumption from a mark asks of the transfer
abbrev pub HasItsMark : Option Transfer → Type 0
HasItsMark t = (n : ℕ) → confirmed_of t ≡ suc n → Numbered (pieces_of t) × (suc n ≤ highest (pieces_of t))

gives-resumed : (v : Value) (n : ℕ) (t : Option Transfer) (held : ContextSet) → confirmed_of t ≡ n → HasItsMark t → Carries v (pieces_of t) → Gives_pair v held → Gives_pair v (resumed_set n (pieces_of t) held)
gives-resumed v zero t held e m c g = g
gives-resumed v (suc n) t held e m c g = gives-mark v n (pieces_of t) (m n e).0 (m n e).1 c

is-joined : (p : Phase) → p ≡ Up → IsJoined p
is-joined p e = subst IsJoined (sym e) tt

-- an act of the end
pub acts-stay : (v : Value) (setup : ModelSetup) (role : Role) (x : State) (act : Act) → MayAct setup role x act → LeavesAlone v.identifier v.pair (Acts act) → (act ≡ Resumes → HasItsMark x.outgoing.transfer) → StayOf v setup.mode x → StayOf v setup.mode (acted setup x act)
acts-stay v setup role x Connects h l m k = record { sets = λ j. absurd j; own = k.own; asked = k.asked; sent = k.sent; came = k.came }
acts-stay v setup role x Recovers h l m k = record { sets = λ j. absurd j; own = k.own; asked = k.asked; sent = k.sent; came = k.came }
acts-stay v setup role x (SaysValue value) h l m k = k
acts-stay v setup role x (Queues context apdu) h l m k = k
acts-stay v setup role x Drops h l m k = k
acts-stay v setup role x (Alters items) h l m k = record { sets = k.sets; own = unnamed-append v x.sets.own items k.own l; asked = k.asked; sent = k.sent; came = k.came }
acts-stay v setup role x Marks h l m k = go setup.mode k
  where
    go : (q : Mode) → StayOf v q x → StayOf v q (marked_in q x)
    go Bare k = k
    go Direct k = let at = k.sets (is-joined x.phase h.leads.is_free.is_up) in record { sets = λ j. (at.0, at.1, λ e. (at.0, inr (at.2 e))); own = k.own; asked = k.asked; sent = k.sent; came = k.came }
    go Reliable k = let at = k.sets (is-joined x.phase h.leads.is_free.is_up) in record { sets = k.sets; own = k.own; asked = k.asked; sent = carries-on v _ x.outgoing (λ t c. (at.0, c)) k.sent; came = k.came }
acts-stay v setup role x GivesTurn h l m k = go setup.mode k
  where
    go : (q : Mode) → StayOf v q x → StayOf v q (gave_in q x)
    go Bare k = k
    go Direct k = record { sets = k.sets; own = k.own; asked = k.asked; sent = k.sent; came = k.came }
    go Reliable k = record { sets = k.sets; own = k.own; asked = k.asked; sent = k.sent; came = k.came }
acts-stay v setup role x (Pleads priority) h l m k = k
acts-stay v setup role x (Restarts number) h l m k = record { sets = k.sets; own = k.own; asked = h.is_positive; sent = k.sent; came = k.came }
acts-stay v setup role x Starts h l m k =
    record { sets = λ j. let a = k.sets j in (a.0, λ e. a.0, a.2); own = k.own; asked = k.asked; sent = carries-started v x.outgoing; came = k.came }
acts-stay v setup role x (Encodes context) h l m k = record { sets = k.sets; own = k.own; asked = k.asked; sent = carries-on v _ x.outgoing (λ t c. c) k.sent; came = k.came }
acts-stay v setup role x (Sends octets) h l m k = record { sets = k.sets; own = k.own; asked = k.asked; sent = carries-on v _ x.outgoing (λ t c. c) k.sent; came = k.came }
acts-stay v setup role x EndsActivity h l m k = record { sets = k.sets; own = k.own; asked = k.asked; sent = carries-on v _ x.outgoing (λ t c. c) k.sent; came = k.came }
acts-stay v setup role x Interrupts h l m k = record { sets = k.sets; own = k.own; asked = tt; sent = k.sent; came = k.came }
acts-stay v setup role x Discards h l m k = record { sets = k.sets; own = k.own; asked = tt; sent = carries-on v _ x.outgoing (λ t c. c) k.sent; came = k.came }
acts-stay v setup role x Resumes h l m k =
    record {
      sets = λ j. let a = k.sets j in (gives-resumed v (confirmed_of x.outgoing.transfer) x.outgoing.transfer x.sets.held refl (m refl) k.sent a.0, λ e. a.0, a.2);
      own = k.own;
      asked = k.asked;
      sent = carries-on v resumed x.outgoing (λ t c. carries-up_to v t.confirmed t.pieces c) k.sent;
      came = k.came;
    }
acts-stay v setup role x Releases h l m k = record { sets = λ j. k.sets (is-joined x.phase h.is_free.is_up); own = k.own; asked = tt; sent = k.sent; came = k.came }
acts-stay v setup role x Aborts h l m k = record { sets = λ j. absurd j; own = k.own; asked = k.asked; sent = k.sent; came = k.came }
acts-stay v setup role x Withdraws h l m k = record { sets = λ j. absurd j; own = k.own; asked = k.asked; sent = k.sent; came = k.came }
acts-stay v setup role x TransportFails h l m k = record { sets = λ j. absurd j; own = k.own; asked = k.asked; sent = k.sent; came = k.came }

-- what is on its way: an acceptance gives the pair, an alteration doesn't name the context
abbrev pub Sound : Value → Message → Type 0
Sound v (Accept set) = Gives_pair v set
Sound v (Alter items) = Unnamed v items
Sound v message = Unit {0}

refusing-apart : (p : Phase) → IsJoined (refusing p) → ⊥
refusing-apart Broken j = j
refusing-apart p j = j

joined-sets : (v : Value) (mode : Mode) (set inter : ContextSet) (saved : List Saved) → Gives_pair v set → Gives_pair v set × (mode ≡ Reliable → Gives_pair v (inter_with mode set inter)) × (mode ≡ Direct → Saves v (saved_with mode set saved))
joined-sets v Bare set inter saved g = (g, λ e. absurd (cc), λ e. absurd (cc))
joined-sets v Direct set inter saved g = (g, λ e. absurd (cc), λ e. (g, inl refl))
joined-sets v Reliable set inter saved g = (g, λ e. g, λ e. absurd (cc))

joins-stay : (v : Value) (mode : Mode) (role : Role) (set : ContextSet) (x : State) → Gives_pair v set → StayOf v mode x → StayOf v mode (joined_with mode role set x)
joins-stay v mode role set x g k = record { sets = λ j. joined-sets v mode set x.sets.inter x.saved g; own = tt; asked = tt; sent = k.sent; came = k.came }

opens-stay : (v : Value) (setup : ModelSetup) (role : Role) (x : State) (choice : Choice) → IsChoice setup x Connect choice → LeavesAlone v.identifier v.pair (Takes Connect choice) → StayOf v setup.mode x → StayOf v setup.mode (taken setup role x Connect choice)
opens-stay v setup role x (Accepting set) c l k = record { sets = λ j. joined-sets v setup.mode set [] [] l; own = tt; asked = tt; sent = tt; came = (tt, tt) }
opens-stay v setup role x Refusing c l k = record { sets = λ j. absurd (refusing-apart x.phase j); own = k.own; asked = k.asked; sent = k.sent; came = k.came }
opens-stay v setup role x Nothing c l k = absurd c
opens-stay v setup role x (Results results) c l k = absurd c

recovers-stay : (v : Value) (setup : ModelSetup) (role : Role) (x : State) (choice : Choice) → IsChoice setup x Recover choice → LeavesAlone v.identifier v.pair (Takes Recover choice) → StayOf v setup.mode x → StayOf v setup.mode (taken setup role x Recover choice)
recovers-stay v setup role x (Accepting set) c l k = joins-stay v setup.mode role set x l k
recovers-stay v setup role x Refusing c l k = record { sets = λ j. absurd (refusing-apart x.phase j); own = k.own; asked = k.asked; sent = k.sent; came = k.came }
recovers-stay v setup role x Nothing c l k = absurd c
recovers-stay v setup role x (Results results) c l k = absurd c

alters-stay : (v : Value) (setup : ModelSetup) (role : Role) (x : State) (items : List Item) (choice : Choice) → Unnamed v items → StayOf v setup.mode x → StayOf v setup.mode (taken setup role x (Alter items) choice)
alters-stay v setup role x items (Results results) u k =
    record { sets = λ j. let a = k.sets j in (gives-altered v items results x.sets.held u a.0, a.1, a.2); own = k.own; asked = k.asked; sent = k.sent; came = k.came }
alters-stay v setup role x items (Accepting set) u k = k
alters-stay v setup role x items Refusing u k = k
alters-stay v setup role x items Nothing u k = k

-- a restart to a positive number
restores-stay : (v : Value) (mode : Mode) (role : Role) (number : ℕ) (x : State) → mode ≡ Direct → 1 ≤ number → StayOf v mode x → Stay v mode x.phase NoAnswer (record x.sets { held = newest (below number x.saved); own = [] }) (below number x.saved) (pieces_of x.outgoing.transfer) x.incoming.pieces
restores-stay v mode role number x d p k =
    record {
      sets = λ j. let a = k.sets j in let s = saves-below v number x.saved p (a.2 d) in (saves-newest v (below number x.saved) s, a.1, λ e. s);
      own = tt;
      asked = tt;
      sent = k.sent;
      came = k.came;
    }

-- the record of a resumed activity
resumed-came : (v : Value) (activity mark : ℕ) (i : Incoming) → Numbered i.pieces × Carries v i.pieces → Numbered (resumed_in activity mark i).pieces × Carries v (resumed_in activity mark i).pieces
resumed-came v activity mark i c =
    by_test (λ (q : Incoming). Numbered q.pieces × Carries v q.pieces) (nat_eq activity i.last) _ _ (λ t. (numbered-up_to mark i.pieces c.0, carries-up_to v mark i.pieces c.1)) (λ t. (tt, tt))

gives-resumed_in : (v : Value) (activity mark : ℕ) (i : Incoming) (held : ContextSet) → MayResumeAt i activity mark → Numbered i.pieces × Carries v i.pieces → Gives_pair v held → Gives_pair v (resumed_set mark i.pieces held)
gives-resumed_in v activity zero i held h c g = g
gives-resumed_in v activity (suc n) i held (inl h) c g = gives-mark v n i.pieces c.0 h.1 c.1
gives-resumed_in v activity (suc n) i held (inr h) c g = absurd (none h.1)
  where
    none : suc n ≡ 0 → ⊥
    none e = omega arith

hears-stay : (v : Value) (setup : ModelSetup) (value : Option Value) (x : State) → StayOf v setup.mode x → StayOf v setup.mode (hears setup value x)
hears-stay v setup None x k = k
hears-stay v setup (Some value) x k = k

ends-stay : (v : Value) (setup : ModelSetup) (value : Option Value) (x : State) → setup.mode ≡ Reliable → StayOf v setup.mode x → StayOf v setup.mode (between (hears setup value x))
ends-stay v setup None x e k = record { sets = λ j. let a = k.sets j in (a.1 e, a.1, a.2); own = k.own; asked = k.asked; sent = k.sent; came = k.came }
ends-stay v setup (Some value) x e k = record { sets = λ j. let a = k.sets j in (a.1 e, a.1, a.2); own = k.own; asked = k.asked; sent = k.sent; came = k.came }

awaited-positive : (w : Awaited) (n : ℕ) → w ≡ RestartOf n → IsPositive w → 1 ≤ n
awaited-positive w n e p = subst IsPositive e p

-- a taking
pub takes-stay : (v : Value) (setup : ModelSetup) (role : Role) (x : State) (m : Message) (choice : Choice) → MayTake setup role x m → IsChoice setup x m choice → LeavesAlone v.identifier v.pair (Takes m choice) → Sound v m → StayOf v setup.mode x → StayOf v setup.mode (taken setup role x m choice)
takes-stay v setup role x Connect choice h c l s k = opens-stay v setup role x choice c l k
takes-stay v setup role x Recover choice h c l s k = recovers-stay v setup role x choice c l k
takes-stay v setup role x (Accept set) choice h c l s k = joins-stay v setup.mode role set x s k
takes-stay v setup role x Refuse choice h c l s k = record { sets = λ j. absurd j; own = k.own; asked = k.asked; sent = k.sent; came = k.came }
takes-stay v setup role x (Data value) choice h c l s k = hears-stay v setup (Some value) x k
takes-stay v setup role x (Alter items) choice h c l s k = alters-stay v setup role x items choice s k
takes-stay v setup role x (AlterAnswer results) choice h c l s k =
    record { sets = λ j. let a = k.sets j in (gives-first v x.sets.own results x.sets.held k.own a.0, a.1, a.2); own = unnamed-later v x.sets.own k.own; asked = k.asked; sent = k.sent; came = k.came }
takes-stay v setup role x (Mark number) choice h c l s k = go setup.mode h.in_mode k
  where
    go : (q : Mode) → MayMarkFrom setup q x number → StayOf v q x → StayOf v q (marked_from q number x)
    go Bare i k = k
    go Direct i k = let at = k.sets (is-joined x.phase h.is_up) in record { sets = λ j. (at.0, at.1, λ e. (at.0, inr (at.2 e))); own = k.own; asked = k.asked; sent = k.sent; came = k.came }
    go Reliable i k = let at = k.sets (is-joined x.phase h.is_up) in record { sets = k.sets; own = k.own; asked = k.asked; sent = k.sent; came = ((i.is_next, k.came.0), (at.0, k.came.1)) }
takes-stay v setup role x (MarkAnswer number) choice h c l s k = record { sets = k.sets; own = k.own; asked = k.asked; sent = carries-on v _ x.outgoing (λ t c. c) k.sent; came = k.came }
takes-stay v setup role x (Restart number list) choice h c l s k = restores-stay v setup.mode role number x h.is_direct h.is_positive k
takes-stay v setup role x (RestartAnswer number list) choice h c l s k = restores-stay v setup.mode role number x h.is_direct (awaited-positive x.awaits number h.asked k.asked) k
takes-stay v setup role x (Start activity) choice h c l s k = record { sets = λ j. let a = k.sets j in (a.0, λ e. a.0, a.2); own = k.own; asked = k.asked; sent = k.sent; came = (tt, tt) }
takes-stay v setup role x (Resume activity mark) choice h c l s k =
    record {
      sets = λ j. let a = k.sets j in (gives-resumed_in v activity mark x.incoming x.sets.held h.at_mark k.came a.0, λ e. a.0, a.2);
      own = k.own;
      asked = k.asked;
      sent = k.sent;
      came = resumed-came v activity mark x.incoming k.came;
    }
takes-stay v setup role x (Chunk octets) choice h c l s k = record { sets = k.sets; own = k.own; asked = k.asked; sent = k.sent; came = k.came }
takes-stay v setup role x (End number) choice h c l s k =
    ends-stay v setup (handed_up setup x.sets.held x.incoming) (record x { incoming = record x.incoming { was_handed = true; active = false } }) h.by_transfers k
takes-stay v setup role x (EndAnswer number) choice h c l s k = record { sets = λ j. let a = k.sets j in (a.1 h.by_transfers, a.1, a.2); own = k.own; asked = k.asked; sent = tt; came = k.came }
takes-stay v setup role x Interrupt choice h c l s k = record { sets = λ j. let a = k.sets j in (a.1 h.by_transfers, a.1, a.2); own = k.own; asked = k.asked; sent = k.sent; came = k.came }
takes-stay v setup role x InterruptAnswer choice h c l s k = record { sets = λ j. let a = k.sets j in (a.1 h.by_transfers, a.1, a.2); own = tt; asked = tt; sent = carries-on v _ x.outgoing (λ t c. c) k.sent; came = k.came }
takes-stay v setup role x Discard choice h c l s k = record { sets = λ j. let a = k.sets j in (a.1 h.by_transfers, a.1, a.2); own = k.own; asked = k.asked; sent = k.sent; came = (tt, tt) }
takes-stay v setup role x DiscardAnswer choice h c l s k = record { sets = λ j. let a = k.sets j in (a.1 h.by_transfers, a.1, a.2); own = tt; asked = tt; sent = tt; came = k.came }
takes-stay v setup role x Give choice h c l s k = k
takes-stay v setup role x GiveAnswer choice h c l s k = k
takes-stay v setup role x (Please priority) choice h c l s k = k
takes-stay v setup role x Release choice h c l s k = record { sets = λ j. absurd j; own = k.own; asked = k.asked; sent = k.sent; came = k.came }
takes-stay v setup role x ReleaseAnswer choice h c l s k = record { sets = λ j. absurd j; own = k.own; asked = tt; sent = k.sent; came = k.came }
takes-stay v setup role x UserAbort choice h c l s k = record { sets = λ j. absurd j; own = k.own; asked = k.asked; sent = k.sent; came = k.came }

broken-apart : (m : Mode) (p : Phase) → IsJoined (broken_phase m p) → ⊥
broken-apart m Idle j = j
broken-apart m Over j = j
broken-apart m Opening j = j
broken-apart Bare p j = j
broken-apart Direct p j = j
broken-apart Reliable p j = j

pub breaks-stay : (v : Value) (setup : ModelSetup) (x : State) → StayOf v setup.mode x → StayOf v setup.mode (broken setup x)
breaks-stay v setup x k =
    record { sets = λ j. absurd (broken-apart setup.mode x.phase j); own = k.own; asked = tt; sent = carries-on v _ x.outgoing (λ t c. c) k.sent; came = k.came }
