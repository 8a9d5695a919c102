-- The open invocations of one end as the model sees them.
use Rattle.std.proofs.Common.{◌≡◌, refl, true, false, ◌∙◌, sym, ap, arith, ℕ, ◌+◌, List, [], ◌∷◌}
use Rattle.std.proofs.Common.{◌++◌, length}
use Rattle.std.specs.Prelude.{ℤ, pos, negsuc, Bool, not, ◌&&◌, ◌||◌, Option, Some, None, is_some}
use Rattle.std.specs.Prelude.{if◌then◌else◌, nat_eq}
use Rattle.std.specs.Ordering.{int_eq}
use Rattle.std.proofs.lemmas.Bool.Decides.{nat_tests}
use Rattle.end_rules.specs.State.{OpenCall, is_whose, is_key, opened_with, opens_of, closed}
use Rattle.end_rules.specs.State.{orphaned}
use Rattle.agreement.specs.Messages.{Invocation, ModelSetup}
use Rattle.agreement.specs.Calls.{is_open, close, is_link_allowed, may_answer}
use Rattle.end_model.specs.Seen.{number_seen, invocation_seen, opens_seen_on}
use Rattle.end_model.specs.OpenInvocations.{IsNumber, AreNumbered}

pub same-number : (i : ℤ) (n : ℕ) → IsNumber i → int_eq i (pos n) ≡ nat_eq (number_seen i) n
same-number (pos m) n h = grind (arith, nat_tests)
same-number (negsuc m) n h = absurd h

pub key-seen : (own : Bool) (n : ℕ) (o : OpenCall) → IsNumber o.id → is_key own (pos n) o ≡ (is_whose own o && nat_eq (number_seen o.id) n)
key-seen own n o h = ap (λ b. is_whose own o && b) (same-number o.id n h)

-- an invocation that joins
pub joined-seen : (own : Bool) (newer : List Invocation) (os : List OpenCall) (o : OpenCall) → opens_seen_on own newer (os ++ o ∷ []) ≡ (if is_whose own o then invocation_seen o ∷ opens_seen_on own newer os else opens_seen_on own newer os)
joined-seen own newer [] o = refl
joined-seen own newer (x ∷ os) o = joined-seen own (if is_whose own x then invocation_seen x ∷ newer else newer) os o

-- ---- which is open, and what holds of it

-- the newest with this number passes the test
abbrev pub found : (Invocation → Bool) → ℕ → List Invocation → Bool
found test n [] = false
found test n (c ∷ cs) = if nat_eq c.number n then test c else found test n cs

pub open-found : (n : ℕ) (cs : List Invocation) → is_open n cs ≡ found (λ c. true) n cs
open-found n [] = refl
open-found n (c ∷ cs) = or-if (nat_eq c.number n) ∙ ap (λ b. if nat_eq c.number n then true else b) (open-found n cs)
  where
    or-if : (b : Bool) → (b || is_open n cs) ≡ (if b then true else is_open n cs)
    or-if true = refl
    or-if false = refl

pub link-found : (setup : ModelSetup) (operation parent : ℕ) (cs : List Invocation) → is_link_allowed setup cs operation (Some parent) ≡ found (λ c. setup.links c.operation operation) parent cs
link-found setup operation parent [] = refl
link-found setup operation parent (c ∷ cs) = ap (λ b. if nat_eq c.number parent then setup.links c.operation operation else b) (link-found setup operation parent cs)

pub answer-found : (setup : ModelSetup) (number : ℕ) (content : List ℕ) (cs : List Invocation) → may_answer setup cs number content ≡ found (λ c. setup.allows c.operation content) number cs
answer-found setup number content [] = refl
answer-found setup number content (c ∷ cs) = ap (λ b. if nat_eq c.number number then setup.allows c.operation content else b) (answer-found setup number content cs)

abbrev pub on_opened : (Invocation → Bool) → Bool → Option OpenCall → Bool
on_opened test later None = later
on_opened test later (Some o) = test (invocation_seen o)

pub on-some : (test : Invocation → Bool) (later : Bool) (o : OpenCall) → on_opened test later (Some o) ≡ test (invocation_seen o)
on-some test later o = refl

whose-own : (own : Bool) (o : OpenCall) → is_whose own o ≡ true → o.own ≡ own
whose-own true o h = h
whose-own false o h = grind (arith)

its-number : (i : ℤ) (n : ℕ) → IsNumber i → nat_eq (number_seen i) n ≡ true → i ≡ pos n
its-number (pos m) n h e = ap pos (let k : m ≡ n = grind (arith, nat_tests) in k)
its-number (negsuc m) n h e = absurd h

none-later : (own : Bool) (n : ℕ) (o : OpenCall) (os : List OpenCall) → o.own ≡ own → o.id ≡ pos n → is_some (opened_with o.own o.id os) ≡ false → opened_with own (pos n) os ≡ None
none-later own n o os e f h = is-none (opened_with own (pos n) os) (ap (λ i. is_some (opened_with own i os)) (sym f) ∙ ap (λ w. is_some (opened_with w o.id os)) (sym e) ∙ h)
  where
    is-none : (x : Option OpenCall) → is_some x ≡ false → x ≡ None
    is-none None h = refl
    is-none (Some x) h = cc

pub found-seen : (test : Invocation → Bool) (n : ℕ) (own : Bool) (newer : List Invocation) (made : ℕ) (os : List OpenCall) → AreNumbered made os → found test n (opens_seen_on own newer os) ≡ on_opened test (found test n newer) (opened_with own (pos n) os)
found-seen test n own newer made [] h = refl
found-seen test n own newer made (o ∷ os) h =
    found-seen test n own (if is_whose own o then invocation_seen o ∷ newer else newer) made os h.2 ∙
    go (is_whose own o) refl (nat_eq (number_seen o.id) n) refl
  where
    key : (w m : Bool) → is_whose own o ≡ w → nat_eq (number_seen o.id) n ≡ m → is_key own (pos n) o ≡ (w && m)
    key w m e f = key-seen own n o h.0.is_number ∙ ap (λ b. b && nat_eq (number_seen o.id) n) e ∙ ap (λ b. w && b) f

    go : (w : Bool) → is_whose own o ≡ w → (m : Bool) → nat_eq (number_seen o.id) n ≡ m → on_opened test (found test n (if is_whose own o then invocation_seen o ∷ newer else newer)) (opened_with own (pos n) os) ≡ on_opened test (found test n newer) (opened_with own (pos n) (o ∷ os))
    go true e true f =
        let k : is_key own (pos n) o ≡ true = key true true e f in
        let none : opened_with own (pos n) os ≡ None = none-later own n o os (whose-own own o e) (its-number o.id n h.0.is_number f) h.1 in
        rw (none, k, e, f) refl
    go true e false f =
        let k : is_key own (pos n) o ≡ false = key true false e f in
        rw (k, e, f) refl
    go false e m f =
        rw e refl

-- ---- what closes

close-if : (n : ℕ) (w : Bool) (c : Invocation) (newer : List Invocation) → close n (if w then c ∷ newer else newer) ≡ (if w && not (nat_eq c.number n) then c ∷ close n newer else close n newer)
close-if n true c newer = by-number (nat_eq c.number n)
  where
    by-number : (b : Bool) → (if b then close n newer else c ∷ close n newer) ≡ (if not b then c ∷ close n newer else close n newer)
    by-number true = refl
    by-number false = refl
close-if n false c newer = refl

-- a child that becomes a root is seen as before
root-seen : (own : Bool) (i : ℤ) (o : OpenCall) → invocation_seen (orphaned own i o) ≡ invocation_seen o
root-seen own i o = grind (arith)

root-whose : (whose own : Bool) (i : ℤ) (o : OpenCall) → is_whose whose (orphaned own i o) ≡ is_whose whose o
root-whose whose own i o = grind (arith)

pub closed-seen : (own : Bool) (n : ℕ) (newer : List Invocation) (made : ℕ) (os : List OpenCall) → AreNumbered made os → close n (opens_seen_on own newer os) ≡ opens_seen_on own (close n newer) (closed own (pos n) os)
closed-seen own n newer made [] h = refl
closed-seen own n newer made (o ∷ os) h =
    closed-seen own n (if is_whose own o then invocation_seen o ∷ newer else newer) made os h.2 ∙
    ap (λ ns. opens_seen_on own ns (closed own (pos n) os)) (close-if n (is_whose own o) (invocation_seen o) newer) ∙
    go (is_whose own o) refl (nat_eq (number_seen o.id) n) refl
  where
    go : (w : Bool) → is_whose own o ≡ w → (m : Bool) → nat_eq (number_seen o.id) n ≡ m → opens_seen_on own (if is_whose own o && not (nat_eq (number_seen o.id) n) then invocation_seen o ∷ close n newer else close n newer) (closed own (pos n) os) ≡ opens_seen_on own (close n newer) (closed own (pos n) (o ∷ os))
    go true e true f =
        let k : is_key own (pos n) o ≡ true = key-seen own n o h.0.is_number ∙ ap (λ b. b && nat_eq (number_seen o.id) n) e ∙ f in
        rw (k, e, f) refl
    go true e false f =
        let k : is_key own (pos n) o ≡ false = key-seen own n o h.0.is_number ∙ ap (λ b. b && nat_eq (number_seen o.id) n) e ∙ f in
        let w : is_whose own (orphaned own (pos n) o) ≡ true = root-whose own own (pos n) o ∙ e in
        rw (k, w, root-seen own (pos n) o, e, f) refl
    go false e m f =
        let k : is_key own (pos n) o ≡ false = key-seen own n o h.0.is_number ∙ ap (λ b. b && nat_eq (number_seen o.id) n) e in
        let w : is_whose own (orphaned own (pos n) o) ≡ false = root-whose own own (pos n) o ∙ e in
        rw (k, w, e) refl

-- the other end's stay open
other-whose : (own : Bool) (o : OpenCall) → is_whose own o ≡ true → is_whose (not own) o ≡ false
other-whose true o h = ap not h
other-whose false o h = grind (arith)

pub others-seen : (own : Bool) (i : ℤ) (newer : List Invocation) (os : List OpenCall) → opens_seen_on (not own) newer (closed own i os) ≡ opens_seen_on (not own) newer os
others-seen own i newer [] = refl
others-seen own i newer (o ∷ os) = go (λ ns. others-seen own i ns os) (is_key own i o) refl
  where
    go : ((ns : List Invocation) → opens_seen_on (not own) ns (closed own i os) ≡ opens_seen_on (not own) ns os) → (k : Bool) → is_key own i o ≡ k → opens_seen_on (not own) newer (closed own i (o ∷ os)) ≡ opens_seen_on (not own) newer (o ∷ os)
    go later true e =
        let w : is_whose (not own) o ≡ false = other-whose own o (grind (arith)) in
        rw (e, w) (later newer)
    go later false e =
        rw (e, root-whose (not own) own i o, root-seen own i o) (later (if is_whose (not own) o then invocation_seen o ∷ newer else newer))

-- how many there are
pub length-seen : (own : Bool) (newer : List Invocation) (os : List OpenCall) → length (opens_seen_on own newer os) ≡ length newer + length (opens_of own os)
length-seen own newer [] = omega arith
length-seen own newer (o ∷ os) =
    length-seen own (if is_whose own o then invocation_seen o ∷ newer else newer) os ∙ go (is_whose own o) refl
  where
    go : (w : Bool) → is_whose own o ≡ w → length (if is_whose own o then invocation_seen o ∷ newer else newer) + length (opens_of own os) ≡ length newer + length (opens_of own (o ∷ os))
    go true e = rw e (omega arith)
    go false e = rw e refl
