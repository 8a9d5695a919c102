-- The items that an end of reliable mode started, the newest first, the k-th in its activity k: each invocation stands in one of them alone;
-- so what is told of invocations, as transfers of rising numbers arrive, is told once.
use Rattle.std.proofs.Common.{◌≡◌, refl, true, false, ◌∙◌, sym, ap, subst, arith, ℕ, suc, ◌≤◌, ◌<◌, List, [], ◌∷◌, ◌++◌, length, inl, inr, ◌⊎◌}
use Rattle.std.specs.Prelude.{ℤ, Bool, Option, Some, None, nat_eq, if◌then◌else◌}
use Rattle.std.proofs.lemmas.Bool.Decides.{nat_tests}
use Rattle.std.proofs.lemmas.List.{append_assoc}
use Rattle.end_rules.specs.Encodings.{next_queued, item_of, IsOf}
use Rattle.stub_tables.specs.declared.tables.Tables.{Tables}
use Rattle.stub_tables.specs.declared.apdu.Apdu.{Apdu}
use Rattle.stub_tables.specs.declared.apdu.Apdu.TheVariants as apdus
use Rattle.end_rules.specs.State.{Queued, Sending}
use Rattle.end_rules.specs.Requesting.{begun}
use Rattle.run_laws.specs.Outcomes.{Invocation, ToldOutcome}
use Rattle.association_runs.proofs.Noted.{IsOurs}
use Rattle.association_runs.proofs.Telling.{IsFresh, AreFresh}
use Rattle.run_lemmas.proofs.Numbers.{apdu_invokes, IsOther, fresh-back, fresh-front}
use Rattle.codec_runs.proofs.ReliableQueued.{QueueOurs, queue_invokes}

-- ---- numbers of invocations among them, the oldest first

abbrev pub started_invoke : List Queued → List ℤ
started_invoke [] = []
started_invoke (item ∷ items) = started_invoke items ++ apdu_invokes item.apdu

-- the next item of the queue is started
pub begun-invoke : (sending : Sending) (started : List Queued) → started_invoke (next_queued sending.queue ++ started) ++ queue_invokes (begun sending).queue ≡ started_invoke started ++ queue_invokes sending.queue
begun-invoke sending started = go sending.queue
  where
    go : (queue : List Queued) → started_invoke (next_queued queue ++ started) ++ queue_invokes (begun (record sending { queue = queue })).queue ≡ started_invoke started ++ queue_invokes queue
    go [] = refl
    go (item ∷ items) = append_assoc (started_invoke started) (apdu_invokes item.apdu) (queue_invokes items)

pub begun-ours : (tables : Tables) (made : List Invocation) (given : List ToldOutcome) (sending : Sending) (started : List Queued) → QueueOurs tables made given sending.queue → QueueOurs tables made given started → QueueOurs tables made given (begun sending).queue × QueueOurs tables made given (next_queued sending.queue ++ started)
begun-ours tables made given sending started q s = go sending.queue q
  where
    go : (queue : List Queued) → QueueOurs tables made given queue → QueueOurs tables made given (begun (record sending { queue = queue })).queue × QueueOurs tables made given (next_queued queue ++ started)
    go [] q = (tt, s)
    go (item ∷ items) q = (q.1, (q.0, s))

-- ---- the item of a number

abbrev IsOursOf : Tables → List Invocation → List ToldOutcome → Option Queued → Type 0
IsOursOf tables made given None = Unit {0}
IsOursOf tables made given (Some item) = IsOurs tables made given item.apdu

item-ours : (tables : Tables) (made : List Invocation) (given : List ToldOutcome) (k : ℕ) (items : List Queued) → QueueOurs tables made given items → IsOursOf tables made given (item_of k items)
item-ours tables made given k [] h = tt
item-ours tables made given k (item ∷ items) h = go (item-ours tables made given k items h.1) (nat_eq k (suc (length items)))
  where
    go : IsOursOf tables made given (item_of k items) → (b : Bool) → IsOursOf tables made given (if b then Some item else item_of k items)
    go later true = h.0
    go later false = later

-- an APDU that is an item's is one that the end handed in
pub apdu-ours : (tables : Tables) (made : List Invocation) (given : List ToldOutcome) (k : ℕ) (items : List Queued) (apdu : Apdu) → QueueOurs tables made given items → IsOf apdu (item_of k items) → IsOurs tables made given apdu
apdu-ours tables made given k items apdu h i = go (item_of k items) (item-ours tables made given k items h) i
  where
    go : (o : Option Queued) → IsOursOf tables made given o → IsOf apdu o → IsOurs tables made given apdu
    go None x i = absurd i
    go (Some item) x i = subst (IsOurs tables made given) i x

-- it invokes this
abbrev pub Invokes : ℤ → Option Queued → Type 0
Invokes i None = ⊥
Invokes i (Some item) = apdu_invokes item.apdu ≡ i ∷ []

pub apdu-invokes : (i : ℤ) (apdu : Apdu) (o : Option Queued) → apdu_invokes apdu ≡ i ∷ [] → IsOf apdu o → Invokes i o
apdu-invokes i apdu None e h = absurd h
apdu-invokes i apdu (Some item) e h = ap apdu_invokes h ∙ e

-- what invokes nothing, or one
pub one-invoked : (apdu : Apdu) → (apdu_invokes apdu ≡ []) ⊎ ((i : ℤ) × (apdu_invokes apdu ≡ i ∷ []))
one-invoked (apdus.Invoke id linked code argument) = inr (id, refl)
one-invoked (apdus.Result id value) = inl refl
one-invoked (apdus.Error id code parameter) = inl refl
one-invoked (apdus.Reject id problem) = inl refl

eq-same : (m n : ℕ) → nat_eq m n ≡ true → m ≡ n
eq-same m n e = grind (arith, nat_tests)

-- no item has a number behind the newest
within : (i : ℤ) (k : ℕ) (items : List Queued) → Invokes i (item_of k items) → k ≤ length items
within i k [] h = absurd h
within i k (item ∷ items) h = go (nat_eq k (suc (length items))) refl (λ x. within i k items x) h
  where
    go : (b : Bool) → nat_eq k (suc (length items)) ≡ b → (Invokes i (item_of k items) → k ≤ length items) → Invokes i (if b then Some item else item_of k items) → k ≤ suc (length items)
    go true e low h = let same : k ≡ suc (length items) = eq-same k (suc (length items)) e in omega arith
    go false e low h = let small : k ≤ length items = low h in omega arith

-- more is started behind
more-started : (i : ℤ) (k : ℕ) (item : Queued) (items : List Queued) → Invokes i (item_of k items) → Invokes i (item_of k (item ∷ items))
more-started i k item items h = go (nat_eq k (suc (length items))) refl
  where
    above : (k n : ℕ) → nat_eq k (suc n) ≡ true → k ≤ n → ⊥
    above k n e l = let same : k ≡ suc n = eq-same k (suc n) e in omega arith

    go : (b : Bool) → nat_eq k (suc (length items)) ≡ b → Invokes i (if b then Some item else item_of k items)
    go true e = absurd (above k (length items) e (within i k items h))
    go false e = h

-- ---- one item alone

abbrev Member : ℤ → List ℤ → Type 0
Member i [] = ⊥
Member i (x ∷ xs) = (x ≡ i) ⊎ Member i xs

member-front : (i : ℤ) (xs ys : List ℤ) → Member i xs → Member i (xs ++ ys)
member-front i [] ys h = absurd h
member-front i (x ∷ xs) ys (inl e) = inl e
member-front i (x ∷ xs) ys (inr h) = inr (member-front i xs ys h)

member-behind : (i : ℤ) (xs ys : List ℤ) → Member i ys → Member i (xs ++ ys)
member-behind i [] ys h = h
member-behind i (x ∷ xs) ys h = inr (member-behind i xs ys h)

fresh-member : (i : ℤ) (xs : List ℤ) → IsFresh i xs → Member i xs → ⊥
fresh-member i [] h m = m
fresh-member i (x ∷ xs) h (inl e) = h.0 e
fresh-member i (x ∷ xs) h (inr m) = fresh-member i xs h.1 m

-- what is fresh isn't in both parts
fresh-apart : (i : ℤ) (xs ys : List ℤ) → AreFresh (xs ++ ys) → Member i xs → Member i ys → ⊥
fresh-apart i [] ys h m n = m
fresh-apart i (x ∷ xs) ys h (inl e) n = fresh-member x ys (fresh-back x xs ys h.0) (subst (λ (j : ℤ). Member j ys) (sym e) n)
fresh-apart i (x ∷ xs) ys h (inr m) n = fresh-apart i xs ys h.1 m n

among-started : (i : ℤ) (k : ℕ) (items : List Queued) → Invokes i (item_of k items) → Member i (started_invoke items)
among-started i k [] h = absurd h
among-started i k (item ∷ items) h = go (nat_eq k (suc (length items))) (λ x. among-started i k items x) h
  where
    go : (b : Bool) → (Invokes i (item_of k items) → Member i (started_invoke items)) → Invokes i (if b then Some item else item_of k items) → Member i (started_invoke items ++ apdu_invokes item.apdu)
    go true among h = member-behind i (started_invoke items) (apdu_invokes item.apdu) (subst (Member i) (sym h) (inl refl))
    go false among h = member-front i (started_invoke items) (apdu_invokes item.apdu) (among h)

pub one-item : (i : ℤ) (m n : ℕ) (items : List Queued) → AreFresh (started_invoke items) → Invokes i (item_of m items) → Invokes i (item_of n items) → m ≡ n
one-item i m n [] f h k = absurd h
one-item i m n (item ∷ items) f h k = go (nat_eq m (suc (length items))) refl (nat_eq n (suc (length items))) refl (λ x y. one-item i m n items (fresh-front (started_invoke items) (apdu_invokes item.apdu) f) x y) h k
  where
    here : Invokes i (Some item) → Member i (apdu_invokes item.apdu)
    here e = subst (Member i) (sym e) (inl refl)

    go : (x : Bool) → nat_eq m (suc (length items)) ≡ x → (y : Bool) → nat_eq n (suc (length items)) ≡ y → (Invokes i (item_of m items) → Invokes i (item_of n items) → m ≡ n) → Invokes i (if x then Some item else item_of m items) → Invokes i (if y then Some item else item_of n items) → m ≡ n
    go true e true d one h k = eq-same m (suc (length items)) e ∙ sym (eq-same n (suc (length items)) d)
    go true e false d one h k = absurd (fresh-apart i (started_invoke items) (apdu_invokes item.apdu) f (among-started i n items k) (here h))
    go false e true d one h k = absurd (fresh-apart i (started_invoke items) (apdu_invokes item.apdu) f (among-started i m items h) (here k))
    go false e false d one h k = one h k

-- ---- what was told comes from items up to a number

pub record ComesFrom (items : List Queued) (top : ℕ) (i : ℤ) : Type 0 where
  pub number : ℕ
  pub low : number ≤ top
  pub is_its : Invokes i (item_of number items)

abbrev pub AllCome : List Queued → ℕ → List ℤ → Type 0
AllCome items top [] = Unit {0}
AllCome items top (i ∷ is) = ComesFrom items top i × AllCome items top is

pub come-later : (items : List Queued) (top later : ℕ) (is : List ℤ) → top ≤ later → AllCome items top is → AllCome items later is
come-later items top later [] l h = tt
come-later items top later (i ∷ is) l h = (record { number = h.0.number; low = after h.0.number h.0.low; is_its = h.0.is_its }, come-later items top later is l h.1)
  where
    after : (n : ℕ) → n ≤ top → n ≤ later
    after n k = omega arith

come-one : (item : Queued) (items : List Queued) (top : ℕ) (is : List ℤ) → AllCome items top is → AllCome (item ∷ items) top is
come-one item items top [] h = tt
come-one item items top (i ∷ is) h = (record { number = h.0.number; low = h.0.low; is_its = more-started i h.0.number item items h.0.is_its }, come-one item items top is h.1)

pub come-more : (more items : List Queued) (top : ℕ) (is : List ℤ) → AllCome items top is → AllCome (more ++ items) top is
come-more [] items top is h = h
come-more (item ∷ more) items top is h = come-one item (more ++ items) top is (come-more more items top is h)

pub come-append : (items : List Queued) (top : ℕ) (xs ys : List ℤ) → AllCome items top xs → AllCome items top ys → AllCome items top (xs ++ ys)
come-append items top [] ys h k = k
come-append items top (x ∷ xs) ys h k = (h.0, come-append items top xs ys h.1 k)

-- an item with a greater number invokes another
pub others-come : (items : List Queued) (top number : ℕ) (i : ℤ) (is : List ℤ) → AreFresh (started_invoke items) → AllCome items top is → top < number → Invokes i (item_of number items) → IsOther i is
others-come items top number i [] f h l k = tt
others-come items top number i (x ∷ xs) f h l k = (differs h.0, others-come items top number i xs f h.1 l k)
  where
    apart : (m : ℕ) → m ≤ top → m ≡ number → ⊥
    apart m low e = omega arith

    differs : ComesFrom items top x → i ≡ x → ⊥
    differs c e = apart c.number c.low (one-item x c.number number items f c.is_its (subst (λ (j : ℤ). Invokes j (item_of number items)) e k))
