-- Reliable mode: an end that leads, one that follows, and what goes between them.
use Rattle.std.proofs.Common.{◌≡◌, ℕ, suc, ◌≤◌, Bool, true, false, List, [], ◌∷◌, ◌++◌, refl, ap, true≢false, ◌⊎◌}
use Rattle.std.specs.Prelude.{Option, Some, None}
use Rattle.agreement.specs.Sets.{Role, ContextSet, Item, AnswersEach, lookup, Saved}
use Rattle.agreement.specs.Messages.{Value, ModelSetup, Message}
use Rattle.agreement.specs.Messages.Message.{Alter, AlterAnswer, MarkAnswer, Start, Resume, EndAnswer, Interrupt, InterruptAnswer, Discard, DiscardAnswer, Please, UserAbort}
use Rattle.agreement.specs.State.{Awaited, Piece, Progress, Transfer, Incoming, Sets, highest, joined}
use Rattle.agreement.specs.State.Awaited.{NoAnswer, RestartOf, InterruptOf, DiscardOf, ReleaseOf}
use Rattle.agreement.specs.State.Progress.{Running, Ending, Suspended}
use Rattle.agreement.specs.Acts.{confirmed_of}
use Rattle.agreement.specs.Takings.{OnFirst, altered_first, later}
use Rattle.agreement.proofs.Names.{AllUntouched}
use Rattle.agreement.proofs.Pieces.{Agrees, Numbered, Carries, saved_in}
use Rattle.agreement.proofs.Down.{Follower, Goal, IsQuiet, AllQuiet, Down, IsFlat, AllFlat, at-rest}

-- the end that leads
pub record Leader : Type 0 where
  pub awaits : Awaited
  pub sets : Sets
  pub started : ℕ
  pub transfer : Option Transfer

pub data Doing : Type 0 where
  Resting : Doing
  Going : Doing
  Closing : Doing

abbrev pub IsReady : Doing → ℕ → ℕ → Type 0
IsReady Resting k h = Unit {0}
IsReady Going k h = k ≡ h
IsReady Closing k h = ⊥

abbrev pub IsMarking : Doing → Type 0
IsMarking Resting = ⊥
IsMarking Going = Unit {0}
IsMarking Closing = Unit {0}

abbrev pub IsClosing : Doing → Type 0
IsClosing Closing = Unit {0}
IsClosing stage = ⊥

-- What comes up answers the leader's requests, each once: its unconfirmed marks in order, its own
-- alteration, its end; the leader then holds what the follower holds.
abbrev pub Ups : Doing → ℕ → ℕ → List (List Item) → ContextSet → ContextSet → List Message → ContextSet → Type 0
Ups stage k h own held inter [] there = (own ≡ []) × (held ≡ there) × IsReady stage k h
Ups stage k h own held inter (Please priority ∷ up) there = Ups stage k h own held inter up there
Ups stage k h own held inter (UserAbort ∷ up) there = Ups stage k h own held inter up there
Ups stage k h own held inter (AlterAnswer results ∷ up) there =
    OnFirst (λ items. AnswersEach items results) own × Ups stage k h (later own) (altered_first own results held) inter up there
Ups stage k h own held inter (MarkAnswer n ∷ up) there =
    IsMarking stage × (n ≡ suc k) × (suc k ≤ h) × Ups stage (suc k) h own held inter up there
Ups stage k h own held inter (EndAnswer n ∷ up) there =
    IsClosing stage × (n ≡ suc h) × (own ≡ []) × Ups Resting 0 0 [] inter inter up there
Ups stage k h own held inter (message ∷ up) there = ⊥

-- of an end that awaits the answer to an interrupt or a discard: the rest is passed over
abbrev pub Purges : Bool → ContextSet → List Message → ContextSet → Type 0
Purges discards inter [] there = ⊥
Purges discards inter (InterruptAnswer ∷ up) there = (discards ≡ false) × Ups Resting 0 0 [] inter inter up there
Purges discards inter (DiscardAnswer ∷ up) there = (discards ≡ true) × Ups Resting 0 0 [] inter inter up there
Purges discards inter (AlterAnswer results ∷ up) there = Purges discards inter up there
Purges discards inter (MarkAnswer n ∷ up) there = Purges discards inter up there
Purges discards inter (Please priority ∷ up) there = Purges discards inter up there
Purges discards inter (UserAbort ∷ up) there = Purges discards inter up there
Purges discards inter (message ∷ up) there = ⊥

-- the record of the peer's last activity, against the sender's
abbrev pub PairedIn : Option Transfer → ℕ → Incoming → Type 0
PairedIn None c incoming = incoming.last ≡ c
PairedIn (Some t) c incoming =
    (incoming.last ≡ c) × Agrees t.confirmed t.pieces incoming.pieces ⊎ (suc incoming.last ≡ c) × (t.confirmed ≡ 0)

abbrev pub RestIn : Progress → Transfer → Leader → List Message → Follower → Type 0
RestIn Suspended t l up y =
    Ups Resting 0 0 l.sets.own l.sets.held l.sets.inter up y.held × (y.incoming.active ≡ false) × PairedIn (Some t) l.started y.incoming
RestIn Running t l up y =
    Ups Going t.confirmed (highest t.pieces) l.sets.own l.sets.held l.sets.inter up y.held × (y.incoming.active ≡ true) ×
    (y.incoming.last ≡ l.started) × (y.incoming.pieces ≡ t.pieces)
RestIn Ending t l up y =
    Ups Closing t.confirmed (highest t.pieces) l.sets.own l.sets.held l.sets.inter up y.held × (y.incoming.active ≡ false) ×
    (y.incoming.last ≡ l.started) × (y.incoming.pieces ≡ t.pieces)

abbrev pub RestBy : Awaited → Option Transfer → Leader → List Message → Follower → Type 0
RestBy NoAnswer None l up y =
    Ups Resting 0 0 l.sets.own l.sets.held l.sets.inter up y.held × (y.incoming.active ≡ false) × (y.incoming.last ≡ l.started)
RestBy NoAnswer (Some t) l up y = RestIn t.progress t l up y
RestBy InterruptOf (Some t) l up y =
    Purges false l.sets.inter up y.held × (y.incoming.active ≡ false) × (y.incoming.last ≡ l.started) × (y.incoming.pieces ≡ t.pieces)
RestBy DiscardOf (Some t) l up y = Purges true l.sets.inter up y.held × (y.incoming.active ≡ false) × (y.incoming.last ≡ l.started)
RestBy awaited transfer l up y = ⊥

-- all is taken: what came up answers all, and the follower has what the leader has
abbrev pub RestOf : Leader → List Message → Follower → Type 0
RestOf l up y = RestBy l.awaits l.transfer l up y × (y.inter ≡ l.sets.inter) × (y.gave ≡ false)

-- the octets that came are those of the value as it was encoded, whose context has its pair
abbrev pub SpellsIn : Option Value → ModelSetup → ContextSet → Incoming → Type 0
SpellsIn None setup held incoming = ⊥
SpellsIn (Some value) setup held incoming = (lookup held value.identifier ≡ Some value.pair) × (joined incoming.pieces ≡ setup.codec.written value) × (setup.codec.may_write value ≡ true)

abbrev pub value_in : Option Transfer → Option Value
value_in None = None
value_in (Some t) = t.value

abbrev pub Rest : Leader → Goal
Rest l = record { spells = SpellsIn (value_in l.transfer); rests = RestOf l }

-- each confirmation on its way up names a mark that the follower has
abbrev pub Acks : ℕ → List Piece → Incoming → List Message → Type 0
Acks c pieces incoming [] = Unit {0}
Acks c pieces incoming (MarkAnswer n ∷ up) = (incoming.last ≡ c) × Agrees n pieces incoming.pieces × Acks c pieces incoming up
Acks c pieces incoming (message ∷ up) = Acks c pieces incoming up

abbrev pub pieces_of_transfer : Option Transfer → List Piece
pieces_of_transfer None = []
pieces_of_transfer (Some t) = t.pieces

-- an activity that begins on its way down is the leader's, from its confirmed mark
abbrev pub Begins : ℕ → ℕ → List Message → Type 0
Begins c confirmed [] = Unit {0}
Begins c confirmed (Start k ∷ down) = (k ≡ c) × Begins c confirmed down
Begins c confirmed (Resume k n ∷ down) = (k ≡ c) × ((n ≡ confirmed) ⊎ (confirmed ≡ 0)) × Begins c confirmed down
Begins c confirmed (message ∷ down) = Begins c confirmed down

-- an interrupt or a discard on its way down is awaited
abbrev pub Waits : Awaited → ℕ → List Message → Type 0
Waits awaited confirmed [] = Unit {0}
Waits awaited confirmed (Interrupt ∷ down) = (awaited ≡ InterruptOf) × Waits awaited confirmed down
Waits awaited confirmed (Discard ∷ down) = (awaited ≡ DiscardOf) × (confirmed ≡ 0) × Waits awaited confirmed down
Waits awaited confirmed (message ∷ down) = Waits awaited confirmed down

abbrev pub has_final : List Message → Bool
has_final [] = false
has_final (EndAnswer n ∷ up) = true
has_final (InterruptAnswer ∷ up) = true
has_final (DiscardAnswer ∷ up) = true
has_final (message ∷ up) = has_final up

-- the leader runs no activity and awaits nothing
abbrev pub RestsNow : Awaited → Option Transfer → Type 0
RestsNow NoAnswer None = Unit {0}
RestsNow NoAnswer (Some t) = t.progress ≡ Suspended
RestsNow awaited transfer = ⊥

abbrev pub alters_in : List Message → List (List Item)
alters_in [] = []
alters_in (Alter items ∷ down) = items ∷ alters_in down
alters_in (message ∷ down) = alters_in down

abbrev pub unanswered_in : List Message → List (List Item) → List (List Item)
unanswered_in [] own = own
unanswered_in (AlterAnswer results ∷ up) own = unanswered_in up (later own)
unanswered_in (message ∷ up) own = unanswered_in up own

-- the leader's set once it took what is on its way up
abbrev pub held_after : List (List Item) → ContextSet → ContextSet → List Message → ContextSet
held_after own held inter [] = held
held_after own held inter (AlterAnswer results ∷ up) = held_after (later own) (altered_first own results held) inter up
held_after own held inter (EndAnswer n ∷ up) = held_after own inter inter up
held_after own held inter (message ∷ up) = held_after own held inter up

-- the shared set, against the leader
abbrev pub SharedBy : Awaited → Sets → List Message → ContextSet → Type 0
SharedBy NoAnswer sets up set = set ≡ held_after sets.own sets.held sets.inter up
SharedBy awaited sets up set = has_final up ≡ true → set ≡ sets.inter

-- a value may be written, and carries through the marks; what isn't encoded has no piece
abbrev pub CarriesIn : ModelSetup → Option Value → List Piece → Type 0
CarriesIn setup None pieces = pieces ≡ []
CarriesIn setup (Some value) pieces = (setup.codec.may_write value ≡ true) × Carries value pieces

-- a transfer against what the shared set saved of it
abbrev pub SavedIn : ModelSetup → Option Transfer → List Saved → Type 0
SavedIn setup None marks = Unit {0}
SavedIn setup (Some t) marks = Numbered t.pieces × (marks ≡ saved_in t.pieces) × (t.confirmed ≤ highest t.pieces) × CarriesIn setup t.value t.pieces

abbrev pub ValueHeld : Option Value → Sets → Type 0
ValueHeld None sets = Unit {0}
ValueHeld (Some v) sets = (lookup sets.held v.identifier ≡ Some v.pair) × AllUntouched v.identifier sets.own

abbrev pub ValueIn : Progress → Option Value → Sets → Type 0
ValueIn Running value sets = ValueHeld value sets
ValueIn progress value sets = Unit {0}

abbrev pub RunsValue : Awaited → Option Transfer → Sets → Type 0
RunsValue NoAnswer (Some t) sets = ValueIn t.progress t.value sets
RunsValue awaited transfer sets = Unit {0}

pub record Flow (setup : ModelSetup) (from : Role) (l : Leader) (lin : Incoming) (y : Follower) (yc : ℕ) (yt : Option Transfer) (down up : List Message) (set inter : ContextSet) (mine theirs : List Saved) : Type 0 where
  pub runs : Down setup from (Rest l) down y up
  pub asks : l.awaits ≡ NoAnswer → alters_in down ≡ unanswered_in up l.sets.own
  pub begins : Begins l.started (confirmed_of l.transfer) down
  pub waits : Waits l.awaits (confirmed_of l.transfer) down
  pub after : has_final up ≡ true → AllQuiet down
  pub idle : RestsNow l.awaits l.transfer → AllFlat down
  pub pairs : PairedIn l.transfer l.started y.incoming
  pub acks : l.awaits ≡ NoAnswer → Acks l.started (pieces_of_transfer l.transfer) y.incoming up
  pub others : PairedIn yt yc lin
  pub rests : lin.active ≡ false
  pub saved : SavedIn setup l.transfer mine
  pub theirs_saved : SavedIn setup yt theirs
  pub value : RunsValue l.awaits l.transfer l.sets
  pub inters : inter ≡ l.sets.inter
  pub sets : SharedBy l.awaits l.sets up set

-- facts about what comes up
pub ups-no_final : (k h : ℕ) (own : List (List Item)) (held inter : ContextSet) (up : List Message) (there : ContextSet) (stage : Doing) → (IsClosing stage → ⊥) → Ups stage k h own held inter up there → has_final up ≡ false
ups-no_final k h own held inter [] there d n u = refl
ups-no_final k h own held inter (Please p ∷ up) there d n u = ups-no_final k h own held inter up there d n u
ups-no_final k h own held inter (UserAbort ∷ up) there d n u = ups-no_final k h own held inter up there d n u
ups-no_final k h own held inter (AlterAnswer r ∷ up) there d n u = ups-no_final k h (later own) (altered_first own r held) inter up there d n u.1
ups-no_final k h own held inter (MarkAnswer m ∷ up) there d n u = ups-no_final (suc k) h own held inter up there d n u.3
ups-no_final k h own held inter (EndAnswer m ∷ up) there d n u = absurd (n u.0)
ups-no_final k h own held inter (m ∷ up) there d n u = absurd u

pub final-append : (up more : List Message) → has_final (up ++ more) ≡ false → has_final up ≡ false
final-append [] more h = refl
final-append (EndAnswer n ∷ up) more h = absurd (true≢false h)
final-append (InterruptAnswer ∷ up) more h = absurd (true≢false h)
final-append (DiscardAnswer ∷ up) more h = absurd (true≢false h)
final-append (m ∷ up) more h = final-append up more h

-- a leader that awaits nothing and doesn't end has no final answer on its way
abbrev pub IsOpen : Awaited → Option Transfer → Type 0
IsOpen NoAnswer None = Unit {0}
IsOpen NoAnswer (Some t) = (t.progress ≡ Ending) → ⊥
IsOpen awaited transfer = ⊥

rest-no_final : (w : Awaited) (t : Option Transfer) (l : Leader) (up : List Message) (y : Follower) → IsOpen w t → RestBy w t l up y → has_final up ≡ false
rest-no_final NoAnswer None l up y o r = ups-no_final 0 0 l.sets.own l.sets.held l.sets.inter up y.held Resting (λ x. x) r.0
rest-no_final NoAnswer (Some t) l up y o r = go t.progress refl r
  where
    go : (p : Progress) → t.progress ≡ p → RestIn p t l up y → has_final up ≡ false
    go Suspended e r = ups-no_final 0 0 l.sets.own l.sets.held l.sets.inter up y.held Resting (λ x. x) r.0
    go Running e r = ups-no_final t.confirmed (highest t.pieces) l.sets.own l.sets.held l.sets.inter up y.held Going (λ x. x) r.0
    go Ending e r = absurd (o e)
rest-no_final (RestartOf n) t l up y o r = absurd o
rest-no_final InterruptOf t l up y o r = absurd o
rest-no_final DiscardOf t l up y o r = absurd o
rest-no_final ReleaseOf t l up y o r = absurd o

pub open-no_final : (setup : ModelSetup) (from : Role) (l : Leader) (down : List Message) (y : Follower) (up : List Message) → IsOpen l.awaits l.transfer → Down setup from (Rest l) down y up → has_final up ≡ false
open-no_final setup from l down y up o d =
    let a = at-rest setup from (Rest l) down y up d in
    final-append up a.more (rest-no_final l.awaits l.transfer l (up ++ a.more) a.last o a.rests.0)

-- with no own alteration and nothing to confirm or to end, all that comes up is quiet
pub ups-quiet : (held inter : ContextSet) (up : List Message) (there : ContextSet) → Ups Resting 0 0 [] held inter up there → AllQuiet up × (held ≡ there)
ups-quiet held inter [] there u = (tt, u.1)
ups-quiet held inter (Please p ∷ up) there u = let q = ups-quiet held inter up there u in ((tt, q.0), q.1)
ups-quiet held inter (UserAbort ∷ up) there u = let q = ups-quiet held inter up there u in ((tt, q.0), q.1)
ups-quiet held inter (AlterAnswer r ∷ up) there u = absurd u.0
ups-quiet held inter (MarkAnswer m ∷ up) there u = absurd u.0
ups-quiet held inter (EndAnswer m ∷ up) there u = absurd u.0
ups-quiet held inter (m ∷ up) there u = absurd u

-- the leader without own alteration: what it holds
pub ups-held : (stage : Doing) (k h : ℕ) (held inter : ContextSet) (up : List Message) (there : ContextSet) → (IsClosing stage → ⊥) → Ups stage k h [] held inter up there → held ≡ there
ups-held stage k h held inter [] there n u = u.1
ups-held stage k h held inter (Please p ∷ up) there n u = ups-held stage k h held inter up there n u
ups-held stage k h held inter (UserAbort ∷ up) there n u = ups-held stage k h held inter up there n u
ups-held stage k h held inter (AlterAnswer r ∷ up) there n u = absurd u.0
ups-held stage k h held inter (MarkAnswer m ∷ up) there n u = ups-held stage (suc k) h held inter up there n u.3
ups-held stage k h held inter (EndAnswer m ∷ up) there n u = absurd (n u.0)
ups-held stage k h held inter (m ∷ up) there n u = absurd u

pub ups-after : (stage : Doing) (k h : ℕ) (held inter : ContextSet) (up : List Message) (there : ContextSet) → (IsClosing stage → ⊥) → Ups stage k h [] held inter up there → held_after [] held inter up ≡ held
ups-after stage k h held inter [] there n u = refl
ups-after stage k h held inter (Please p ∷ up) there n u = ups-after stage k h held inter up there n u
ups-after stage k h held inter (UserAbort ∷ up) there n u = ups-after stage k h held inter up there n u
ups-after stage k h held inter (AlterAnswer r ∷ up) there n u = absurd u.0
ups-after stage k h held inter (MarkAnswer m ∷ up) there n u = ups-after stage (suc k) h held inter up there n u.3
ups-after stage k h held inter (EndAnswer m ∷ up) there n u = absurd (n u.0)
ups-after stage k h held inter (m ∷ up) there n u = absurd u

-- the same of a part of it
pub after-part : (held inter : ContextSet) (up more : List Message) → has_final up ≡ false → unanswered_in up [] ≡ [] → held_after [] held inter up ≡ held
after-part held inter [] more f n = refl
after-part held inter (AlterAnswer r ∷ up) more f n = after-part held inter up more f n
after-part held inter (EndAnswer m ∷ up) more f n = absurd (true≢false f)
after-part held inter (InterruptAnswer ∷ up) more f n = absurd (true≢false f)
after-part held inter (DiscardAnswer ∷ up) more f n = absurd (true≢false f)
after-part held inter (m ∷ up) more f n = after-part held inter up more f n

pub unanswered-none : (up : List Message) → unanswered_in up [] ≡ []
unanswered-none [] = refl
unanswered-none (AlterAnswer r ∷ up) = unanswered-none up
unanswered-none (m ∷ up) = unanswered-none up

pub unanswered-append : (up more : List Message) (own : List (List Item)) → unanswered_in (up ++ more) own ≡ unanswered_in more (unanswered_in up own)
unanswered-append [] more own = refl
unanswered-append (AlterAnswer r ∷ up) more own = unanswered-append up more (later own)
unanswered-append (m ∷ up) more own = unanswered-append up more own

pub alters-append : (down more : List Message) → alters_in (down ++ more) ≡ alters_in down ++ alters_in more
alters-append [] more = refl
alters-append (Alter items ∷ down) more = ap (λ xs. items ∷ xs) (alters-append down more)
alters-append (m ∷ down) more = alters-append down more

pub begins-append : (c k : ℕ) (down more : List Message) → Begins c k down → Begins c k more → Begins c k (down ++ more)
begins-append c k [] more a b = b
begins-append c k (Start j ∷ down) more a b = (a.0, begins-append c k down more a.1 b)
begins-append c k (Resume j n ∷ down) more a b = (a.0, a.1, begins-append c k down more a.2 b)
begins-append c k (m ∷ down) more a b = begins-append c k down more a b

pub waits-append : (w : Awaited) (k : ℕ) (down more : List Message) → Waits w k down → Waits w k more → Waits w k (down ++ more)
waits-append w k [] more a b = b
waits-append w k (Interrupt ∷ down) more a b = (a.0, waits-append w k down more a.1 b)
waits-append w k (Discard ∷ down) more a b = (a.0, a.1, waits-append w k down more a.2 b)
waits-append w k (m ∷ down) more a b = waits-append w k down more a b

pub acks-append : (c : ℕ) (p : List Piece) (incoming : Incoming) (up more : List Message) → Acks c p incoming up → Acks c p incoming more → Acks c p incoming (up ++ more)
acks-append c p i [] more a b = b
acks-append c p i (MarkAnswer n ∷ up) more a b = (a.0, a.1, acks-append c p i up more a.2 b)
acks-append c p i (m ∷ up) more a b = acks-append c p i up more a b

pub quiet-acks : (c : ℕ) (p : List Piece) (incoming : Incoming) (up : List Message) → AllQuiet up → Acks c p incoming up
quiet-acks c p i [] q = tt
quiet-acks c p i (MarkAnswer n ∷ up) q = absurd q.0
quiet-acks c p i (m ∷ up) q = quiet-acks c p i up q.1

pub flat-begins : (c k : ℕ) (down : List Message) → AllFlat down → Begins c k down
flat-begins c k [] f = tt
flat-begins c k (Start j ∷ down) f = absurd f.0
flat-begins c k (Resume j n ∷ down) f = absurd f.0
flat-begins c k (m ∷ down) f = flat-begins c k down f.1

pub flat-waits : (w : Awaited) (k : ℕ) (down : List Message) → AllFlat down → Waits w k down
flat-waits w k [] f = tt
flat-waits w k (Interrupt ∷ down) f = absurd f.0
flat-waits w k (Discard ∷ down) f = absurd f.0
flat-waits w k (m ∷ down) f = flat-waits w k down f.1

pub quiet-flat : (down : List Message) → AllQuiet down → AllFlat down
quiet-flat [] q = tt
quiet-flat (m ∷ down) q = (go m q.0, quiet-flat down q.1)
  where
    go : (m : Message) → IsQuiet m → IsFlat m
    go (Please p) h = tt
    go UserAbort h = tt
    go m h = absurd h

pub flat-append : (down more : List Message) → AllFlat down → AllFlat more → AllFlat (down ++ more)
flat-append [] more a b = b
flat-append (m ∷ down) more a b = (a.0, flat-append down more a.1 b)

-- a leader that awaits nothing awaits no interrupt on its way down
pub calm-waits : (w : Awaited) (k j : ℕ) (down : List Message) → Waits NoAnswer k down → Waits w j down
calm-waits w k j [] h = tt
calm-waits w k j (Interrupt ∷ down) h = absurd (let e = h.0 in cc)
calm-waits w k j (Discard ∷ down) h = absurd (let e = h.0 in cc)
calm-waits w k j (m ∷ down) h = calm-waits w k j down h
