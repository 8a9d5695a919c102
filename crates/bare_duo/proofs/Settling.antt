-- One end's invocations and what it was told of them: what is open was made, nothing that was told is open, and of no
-- invocation two outcomes were told.
use Rattle.std.proofs.Common.{◌≡◌, refl, true, false, ◌∙◌, sym, ap, subst, arith, ℕ, suc, ◌+◌, ◌≤◌, List, [], ◌∷◌, ◌++◌, length, inl, inr, length-append}
use Rattle.std.specs.Prelude.{◌≢◌, ℤ, pos, Bool, ◌&&◌, ◌||◌, Some, is_some, if◌then◌else◌}
use Rattle.std.specs.Ordering.{int_eq}
use Rattle.std.specs.List.{AllByRecursion}
use Rattle.std.proofs.lemmas.Bool.Decides.{nat_tests, Decides-int_eq}
use Rattle.end_rules.specs.Members.{IsIn}
use Rattle.stub_tables.specs.declared.tables.Tables.{Tables}
use Rattle.stub_tables.specs.declared.operation.Operation.{Operation}
use Rattle.stub_tables.specs.Lookup.{operation_at}
use Rattle.end_rules.specs.Base.{Base}
use Rattle.end_rules.specs.State.{OpenCall, Calls, is_key, opened_with, closed, close, orphaned}
use Rattle.end_rules.specs.Hearing.{is_silent_at, with_opened}
use Rattle.end_model.proofs.Numbered.{opened-snoc, opened-closed, same-own, same-id, same-key}
use Rattle.run_laws.specs.Outcomes.{Invocation, ToldOutcome, id_of, has_outcome, IsAllowed, Differ}
use Rattle.bare_duo.specs.Outcomes.{AreNumbered}

-- ---- lists

pub push_all : {X : Type 0} (P : X → Type 0) (xs : List X) (x : X) → AllByRecursion P xs → P x → AllByRecursion P (xs ++ x ∷ [])
push_all P [] x h g = (g, tt)
push_all P (y ∷ ys) x h g = (h.0, push_all P ys x h.1 g)

all-on : {X : Type 0} (P Q : X → Type 0) (xs : List X) → ((x : X) → P x → Q x) → AllByRecursion P xs → AllByRecursion Q xs
all-on P Q [] f h = tt
all-on P Q (x ∷ xs) f h = (f x h.0, all-on P Q xs f h.1)

all-both : {X : Type 0} (P Q R : X → Type 0) (xs : List X) → ((x : X) → P x → Q x → R x) → AllByRecursion P xs → AllByRecursion Q xs → AllByRecursion R xs
all-both P Q R [] f h k = tt
all-both P Q R (x ∷ xs) f h k = (f x h.0 k.0, all-both P Q R xs f h.1 k.1)

in-more : {X : Type 0} (x : X) (xs ys : List X) → IsIn x xs → IsIn x (xs ++ ys)
in-more x [] ys h = absurd h
in-more x (z ∷ zs) ys (inl e) = inl e
in-more x (z ∷ zs) ys (inr h) = inr (in-more x zs ys h)

in-last : {X : Type 0} (x : X) (xs : List X) → IsIn x (xs ++ x ∷ [])
in-last x [] = inl refl
in-last x (z ∷ zs) = inr (in-last x zs)

-- ---- numbers

numbered-push : (n : ℕ) (is : List Invocation) (i : Invocation) → AreNumbered n is → i.id ≡ pos (n + length is + 1) → AreNumbered n (is ++ i ∷ [])
numbered-push n [] i h e = (e ∙ ap pos (omega arith), tt)
numbered-push n (x ∷ is) i h e = (h.0, numbered-push (n + 1) is i h.1 (e ∙ ap pos (omega arith)))

pub record Numbered (most : ℕ) (id : ℤ) : Type 0 where
  pub number : ℕ
  pub is_it : id ≡ pos number
  pub few : number ≤ most

numbered-in : (n : ℕ) (is : List Invocation) (i : Invocation) → AreNumbered n is → IsIn i is → Numbered (n + length is) i.id
numbered-in n [] i h k = absurd k
numbered-in n (x ∷ is) i h (inl e) = record { number = n + 1; is_it = ap (λ (j : Invocation). j.id) (sym e) ∙ h.0; few = omega arith }
numbered-in n (x ∷ is) i h (inr k) =
    let r = numbered-in (n + 1) is i h.1 k in
    let few = r.few in record { number = r.number; is_it = r.is_it; few = omega arith }

not-next : (most number : ℕ) → number ≤ most → int_eq (pos (suc most)) (pos number) ≡ false
not-next most number h = grind (arith, nat_tests)

-- ---- what is open was made

pub record IsMade (made : List Invocation) (o : OpenCall) : Type 0 where
  pub invocation : Invocation
  pub is_in : IsIn invocation made
  pub is_id : o.id ≡ invocation.id
  pub is_operation : o.operation ≡ invocation.operation

abbrev pub OwnMade : List Invocation → List OpenCall → Type 0
OwnMade made [] = Unit {0}
OwnMade made (o ∷ os) = (o.own ≡ true → IsMade made o) × OwnMade made os

made-more : (made more : List Invocation) (o : OpenCall) → IsMade made o → IsMade (made ++ more) o
made-more made more o h = record { invocation = h.invocation; is_in = in-more h.invocation made more h.is_in; is_id = h.is_id; is_operation = h.is_operation }

own-more : (made more : List Invocation) (os : List OpenCall) → OwnMade made os → OwnMade (made ++ more) os
own-more made more [] h = tt
own-more made more (o ∷ os) h = ((λ e. made-more made more o (h.0 e)), own-more made more os h.1)

own-push : (made : List Invocation) (os : List OpenCall) (o : OpenCall) → OwnMade made os → (o.own ≡ true → IsMade made o) → OwnMade made (os ++ o ∷ [])
own-push made [] o h k = (k, tt)
own-push made (x ∷ os) o h k = (h.0, own-push made os o h.1 k)

same-operation : (own : Bool) (i : ℤ) (o : OpenCall) → (orphaned own i o).operation ≡ o.operation
same-operation own i o = grind (arith)

made-orphaned : (made : List Invocation) (own : Bool) (i : ℤ) (o : OpenCall) → IsMade made o → IsMade made (orphaned own i o)
made-orphaned made own i o h = record { invocation = h.invocation; is_in = h.is_in; is_id = same-id own i o ∙ h.is_id; is_operation = same-operation own i o ∙ h.is_operation }

own-closed : (made : List Invocation) (own : Bool) (i : ℤ) (os : List OpenCall) → OwnMade made os → OwnMade made (closed own i os)
own-closed made own i [] h = tt
own-closed made own i (o ∷ os) h = go (own-closed made own i os h.1) (is_key own i o) refl
  where
    go : OwnMade made (closed own i os) → (b : Bool) → is_key own i o ≡ b → OwnMade made (closed own i (o ∷ os))
    go later true e = rw e later
    go later false e =
        let root : (orphaned own i o).own ≡ true → IsMade made (orphaned own i o) = λ w. made-orphaned made own i o (h.0 (sym (same-own own i o) ∙ w)) in
        rw e (root, later)

-- what is found open under an identifier
pub record Found (made : List Invocation) (i : ℤ) (o : OpenCall) : Type 0 where
  pub is_its : o.id ≡ i
  pub made_it : IsMade made o

same-some : (x o : OpenCall) → Some x ≡ Some o → x ≡ o
same-some x o e = cc

found-key : (made : List Invocation) (i : ℤ) (o : OpenCall) → (o.own ≡ true → IsMade made o) → is_key true i o ≡ true → Found made i o
found-key made i o h k = go o.own refl k
  where
    go : (w : Bool) → o.own ≡ w → (w && int_eq o.id i) ≡ true → Found made i o
    go true e k = record { is_its = (Decides-int_eq o.id i).0 k; made_it = h e }
    go false e k = absurd cc

found : (made : List Invocation) (i : ℤ) (os : List OpenCall) (o : OpenCall) → OwnMade made os → opened_with true i os ≡ Some o → Found made i o
found made i [] o h k = absurd cc
found made i (x ∷ os) o h k = go (is_key true i x) refl (found made i os o h.1) k
  where
    go : (b : Bool) → is_key true i x ≡ b → (opened_with true i os ≡ Some o → Found made i o) → (if b then Some x else opened_with true i os) ≡ Some o → Found made i o
    go true e later k = subst (λ (y : OpenCall). Found made i y) (same-some x o k) (found-key made i x h.0 e)
    go false e later k = later k

closed-none : (i : ℤ) (os : List OpenCall) → is_some (opened_with true i (closed true i os)) ≡ false
closed-none i [] = refl
closed-none i (o ∷ os) = go (closed-none i os) (is_key true i o) refl
  where
    go : is_some (opened_with true i (closed true i os)) ≡ false → (b : Bool) → is_key true i o ≡ b → is_some (opened_with true i (closed true i (o ∷ os))) ≡ false
    go later true e = rw e later
    go later false e =
        let k : is_key true i (orphaned true i o) ≡ false = same-key true true i i o ∙ e in
        rw (e, k) later

-- ---- nothing that was told is open

abbrev pub IsPast : List OpenCall → ToldOutcome → Type 0
IsPast os outcome = is_some (opened_with true (id_of outcome) os) ≡ false

abbrev pub AllPast : List OpenCall → List ToldOutcome → Type 0
AllPast os told = AllByRecursion (IsPast os) told

differ-push : (told : List ToldOutcome) (outcome : ToldOutcome) → Differ told → AllByRecursion (λ (o : ToldOutcome). id_of outcome ≢ id_of o) told → Differ (told ++ outcome ∷ [])
differ-push [] outcome h k = (tt, tt)
differ-push (o ∷ os) outcome h k = (push_all (λ (p : ToldOutcome). id_of p ≢ id_of o) os outcome h.0 k.0, differ-push os outcome h.1 k.1)

-- ---- what one end keeps

pub record Settled (t : Tables) (calls : Calls) (made : List Invocation) (told : List ToldOutcome) : Type 0 where
  pub counted : calls.made ≡ length made
  pub numbered : AreNumbered 0 made
  pub own : OwnMade made calls.opens
  pub past : AllPast calls.opens told
  pub once : Differ told
  pub allowed : AllByRecursion (IsAllowed t made) told

module _ (t : Tables) where
  pub settled-new : Settled t (record { opens = []; made = 0 }) [] []
  settled-new = record { counted = refl; numbered = tt; own = tt; past = tt; once = tt; allowed = tt }

  pub settled-cut : (calls : Calls) (made : List Invocation) (told : List ToldOutcome) → Settled t calls made told → Settled t (record calls { opens = [] }) made told
  settled-cut calls made told h =
      record { counted = h.counted; numbered = h.numbered; own = tt; past = all-on (IsPast calls.opens) (IsPast []) told (λ o p. refl) h.past; once = h.once; allowed = h.allowed }

  pub settled-close : (own : Bool) (i : ℤ) (calls : Calls) (made : List Invocation) (told : List ToldOutcome) → Settled t calls made told → Settled t (close own i calls) made told
  settled-close own i calls made told h =
      record {
        counted = h.counted;
        numbered = h.numbered;
        own = own-closed made own i calls.opens h.own;
        past = all-on (IsPast calls.opens) (IsPast (closed own i calls.opens)) told (λ o p. opened-closed own true i (id_of o) calls.opens p) h.past;
        once = h.once;
        allowed = h.allowed;
      }

  -- an invocation of the other end
  pub settled-peer : (base : Base) (o : OpenCall) (calls : Calls) (made : List Invocation) (told : List ToldOutcome) → o.own ≡ false → Settled t calls made told → Settled t (with_opened base o calls) made told
  settled-peer base o calls made told e h = go (is_silent_at base (Some o.operation))
    where
      not-own : o.own ≡ true → IsMade made o
      not-own w = absurd (let k : false ≡ true = sym e ∙ w in cc)

      later : (q : ToldOutcome) → IsPast calls.opens q → IsPast (calls.opens ++ o ∷ []) q
      later q p =
          let key : is_key true (id_of q) o ≡ false = ap (λ (w : Bool). w && int_eq o.id (id_of q)) e in
          opened-snoc true (id_of q) calls.opens o ∙ ap (λ (b : Bool). b || is_key true (id_of q) o) p ∙ key

      go : (b : Bool) → Settled t (if b then calls else record calls { opens = calls.opens ++ o ∷ [] }) made told
      go true = h
      go false =
          record {
            counted = h.counted;
            numbered = h.numbered;
            own = own-push made calls.opens o h.own not-own;
            past = all-on (IsPast calls.opens) (IsPast (calls.opens ++ o ∷ [])) told later h.past;
            once = h.once;
            allowed = h.allowed;
          }

  -- an own invocation, with the next identifier
  pub settled-own : (base : Base) (o : OpenCall) (i : Invocation) (calls : Calls) (made : List Invocation) (told : List ToldOutcome) → o.own ≡ true → o.id ≡ pos (suc calls.made) → o.id ≡ i.id → o.operation ≡ i.operation
      → Settled t calls made told → Settled t (with_opened base o (record calls { made = suc calls.made })) (made ++ i ∷ []) told
  settled-own base o i calls made told w e same its h = go (is_silent_at base (Some o.operation))
    where
      counted : suc calls.made ≡ length (made ++ i ∷ [])
      counted = let c = h.counted in let l = length-append made (i ∷ []) in omega arith

      numbered : AreNumbered 0 (made ++ i ∷ [])
      numbered = let c = h.counted in numbered-push 0 made i h.numbered (sym same ∙ e ∙ ap pos (omega arith))

      allowed : AllByRecursion (IsAllowed t (made ++ i ∷ [])) told
      allowed =
          all-on (IsAllowed t made) (IsAllowed t (made ++ i ∷ [])) told
          (λ q a. record { invocation = a.invocation; operation = a.operation; is_made = in-more a.invocation made (i ∷ []) a.is_made; is_its = a.is_its; is_there = a.is_there; has_it = a.has_it }) h.allowed

      later : (q : ToldOutcome) → IsPast calls.opens q → IsAllowed t made q → IsPast (calls.opens ++ o ∷ []) q
      later q p a =
          let n = numbered-in 0 made a.invocation h.numbered a.is_made in
          let few : n.number ≤ calls.made = (let f = n.few in let c = h.counted in omega arith) in
          let apart : int_eq o.id (id_of q) ≡ false = (λ j. int_eq (e j) ((a.is_its ∙ n.is_it) j)) ∙ not-next calls.made n.number few in
          let key : is_key true (id_of q) o ≡ false = ap (λ (x : Bool). x && int_eq o.id (id_of q)) w ∙ apart in
          opened-snoc true (id_of q) calls.opens o ∙ ap (λ (b : Bool). b || is_key true (id_of q) o) p ∙ key

      go : (b : Bool) → Settled t (if b then record calls { made = suc calls.made } else record { opens = calls.opens ++ o ∷ []; made = suc calls.made }) (made ++ i ∷ []) told
      go true = record { counted = counted; numbered = numbered; own = own-more made (i ∷ []) calls.opens h.own; past = h.past; once = h.once; allowed = allowed }
      go false =
          record {
            counted = counted;
            numbered = numbered;
            own = own-push (made ++ i ∷ []) calls.opens o (own-more made (i ∷ []) calls.opens h.own) (λ x. record { invocation = i; is_in = in-last i made; is_id = same; is_operation = its });
            past = all-both (IsPast calls.opens) (IsAllowed t made) (IsPast (calls.opens ++ o ∷ [])) told later h.past h.allowed;
            once = h.once;
            allowed = allowed;
          }

  -- an outcome closes its invocation
  pub settled-told : (outcome : ToldOutcome) (o : OpenCall) (operation : Operation) (calls : Calls) (made : List Invocation) (told : List ToldOutcome) → opened_with true (id_of outcome) calls.opens ≡ Some o
      → operation_at t o.operation ≡ Some operation → has_outcome t operation outcome ≡ true → Settled t calls made told → Settled t (close true (id_of outcome) calls) made (told ++ outcome ∷ [])
  settled-told outcome o operation calls made told opened there has h =
      record {
        counted = closed_so.counted;
        numbered = closed_so.numbered;
        own = closed_so.own;
        past = push_all (IsPast (closed true (id_of outcome) calls.opens)) told outcome closed_so.past (closed-none (id_of outcome) calls.opens);
        once = differ-push told outcome h.once (all-on (IsPast calls.opens) (λ (q : ToldOutcome). id_of outcome ≢ id_of q) told apart h.past);
        allowed = push_all (IsAllowed t made) told outcome h.allowed one;
      }
    where
      closed_so : Settled t (close true (id_of outcome) calls) made told
      closed_so = settled-close true (id_of outcome) calls made told h

      found_it : Found made (id_of outcome) o
      found_it = found made (id_of outcome) calls.opens o h.own opened

      one : IsAllowed t made outcome
      one =
          record {
            invocation = found_it.made_it.invocation;
            operation = operation;
            is_made = found_it.made_it.is_in;
            is_its = sym found_it.is_its ∙ found_it.made_it.is_id;
            is_there = ap (operation_at t) (sym found_it.made_it.is_operation) ∙ there;
            has_it = has;
          }

      apart : (q : ToldOutcome) → IsPast calls.opens q → id_of outcome ≢ id_of q
      apart q p e =
          let yes : is_some (opened_with true (id_of outcome) calls.opens) ≡ true = ap is_some opened in
          let no : is_some (opened_with true (id_of outcome) calls.opens) ≡ false = ap (λ (x : ℤ). is_some (opened_with true x calls.opens)) e ∙ p in
          let k : true ≡ false = sym yes ∙ no in cc
