-- Open invocations stay numbered, whatever opens and closes.
use Rattle.std.proofs.Common.{◌≡◌, refl, true, false, ◌∙◌, sym, ap, subst, arith, ℕ, suc, ◌≤◌, List, [], ◌∷◌, ◌++◌}
use Rattle.std.specs.Prelude.{ℤ, pos, negsuc, Bool, not, ◌&&◌, ◌||◌, Option, Some, None, is_some, if◌then◌else◌, nat_eq}
use Rattle.std.specs.Ordering.{int_eq}
use Rattle.std.proofs.lemmas.Bool.Decides.{nat_tests}
use Rattle.end_rules.specs.State.{OpenCall, Calls, is_whose, is_key, opened_with, closed, orphaned}
use Rattle.end_rules.specs.Base.{Base}
use Rattle.end_rules.specs.Hearing.{is_silent_at, with_opened}
use Rattle.end_model.specs.Seen.{number_seen}
use Rattle.end_model.specs.OpenInvocations.{IsNumber, IsNumbered, AreNumbered, AreNumberedCalls}
use Rattle.end_model.proofs.Held.{eq-sym}
use Rattle.end_model.proofs.OpenInvocations.{same-number, key-seen}

pub more-made : (made later : ℕ) (os : List OpenCall) → made ≤ later → AreNumbered made os → AreNumbered later os
more-made made later [] le h = tt
more-made made later (o ∷ os) le h =
    (record { is_number = h.0.is_number; made_here = λ e. let k : number_seen o.id ≤ made = h.0.made_here e in omega arith }, h.1, more-made made later os le h.2)

-- ---- a new own invocation has a number that none has

unlike : (n made : ℕ) → n ≤ made → nat_eq n (suc made) ≡ false
unlike n made h = grind (arith, nat_tests)

own-unlike : (made : ℕ) (o : OpenCall) → IsNumbered made o → is_key true (pos (suc made)) o ≡ false
own-unlike made o h = key-seen true (suc made) o h.is_number ∙ go o.own refl
  where
    go : (w : Bool) → o.own ≡ w → (o.own && nat_eq (number_seen o.id) (suc made)) ≡ false
    go true e = rw e (unlike (number_seen o.id) made (h.made_here e))
    go false e = rw e refl

pub own-fresh : (made : ℕ) (os : List OpenCall) → AreNumbered made os → is_some (opened_with true (pos (suc made)) os) ≡ false
own-fresh made [] h = refl
own-fresh made (o ∷ os) h = go (is_key true (pos (suc made)) o) (own-unlike made o h.0) (own-fresh made os h.2)
  where
    go : (b : Bool) → b ≡ false → is_some (opened_with true (pos (suc made)) os) ≡ false → is_some (if b then Some o else opened_with true (pos (suc made)) os) ≡ false
    go true e k = cc
    go false e k = k

-- ---- one that joins

some-if : (b : Bool) (o : OpenCall) (later : Option OpenCall) (more : Bool) → is_some (if b then Some o else later) ≡ (b || is_some later)
some-if true o later more = refl
some-if false o later more = refl

or-assoc : (a b c : Bool) → (a || (b || c)) ≡ ((a || b) || c)
or-assoc true b c = refl
or-assoc false b c = refl

pub or-none : (b : Bool) → (b || false) ≡ b
or-none true = refl
or-none false = refl

pub opened-snoc : (own : Bool) (i : ℤ) (os : List OpenCall) (o : OpenCall) → is_some (opened_with own i (os ++ o ∷ [])) ≡ (is_some (opened_with own i os) || is_key own i o)
opened-snoc own i [] o = some-if (is_key own i o) o None false ∙ or-none (is_key own i o)
opened-snoc own i (x ∷ os) o =
    some-if (is_key own i x) x (opened_with own i (os ++ o ∷ [])) false ∙
    ap (λ b. is_key own i x || b) (opened-snoc own i os o) ∙
    or-assoc (is_key own i x) (is_some (opened_with own i os)) (is_key own i o) ∙
    ap (λ b. b || is_key own i o) (sym (some-if (is_key own i x) x (opened_with own i os) false))

same-way : (i j : ℤ) → IsNumber i → IsNumber j → int_eq i j ≡ int_eq j i
same-way (pos a) (pos b) h k = same-number (pos a) b h ∙ eq-sym a b ∙ sym (same-number (pos b) a k)
same-way (negsuc a) j h k = absurd h
same-way (pos a) (negsuc b) h k = absurd k

whose-way : (v w : Bool) → (if v then w else not w) ≡ (if w then v else not v)
whose-way true true = refl
whose-way true false = refl
whose-way false true = refl
whose-way false false = refl

key-way : (x o : OpenCall) → IsNumber x.id → IsNumber o.id → is_key x.own x.id o ≡ is_key o.own o.id x
key-way x o h k = ap (λ b. b && int_eq o.id x.id) (whose-way x.own o.own) ∙ ap (λ b. is_whose o.own x && b) (same-way o.id x.id k h)

pub or-first : (a b : Bool) → (a || b) ≡ false → a ≡ false
or-first false b h = refl
or-first true b h = cc

pub or-second : (a b : Bool) → (a || b) ≡ false → b ≡ false
or-second false b h = h
or-second true b h = cc

pub numbered-snoc : (made : ℕ) (os : List OpenCall) (o : OpenCall) → AreNumbered made os → IsNumbered made o → is_some (opened_with o.own o.id os) ≡ false → AreNumbered made (os ++ o ∷ [])
numbered-snoc made [] o h i fresh = (i, refl, tt)
numbered-snoc made (x ∷ os) o h i fresh =
    let both : (is_key o.own o.id x || is_some (opened_with o.own o.id os)) ≡ false = sym (some-if (is_key o.own o.id x) x (opened_with o.own o.id os) false) ∙ fresh in
    let key : is_key x.own x.id o ≡ false = key-way x o h.0.is_number i.is_number ∙ or-first (is_key o.own o.id x) (is_some (opened_with o.own o.id os)) both in
    let none : is_some (opened_with x.own x.id (os ++ o ∷ [])) ≡ false = opened-snoc x.own x.id os o ∙ ap (λ b. b || is_key x.own x.id o) h.1 ∙ key in
    (h.0, none, numbered-snoc made os o h.2 i (or-second (is_key o.own o.id x) (is_some (opened_with o.own o.id os)) both))

-- ---- one that leaves

pub same-own : (own : Bool) (i : ℤ) (o : OpenCall) → (orphaned own i o).own ≡ o.own
same-own own i o = grind (arith)

pub same-id : (own : Bool) (i : ℤ) (o : OpenCall) → (orphaned own i o).id ≡ o.id
same-id own i o = grind (arith)

pub same-key : (own w : Bool) (i j : ℤ) (o : OpenCall) → is_key w j (orphaned own i o) ≡ is_key w j o
same-key own w i j o =
    ap (λ (x : Bool). (if w then x else not x) && int_eq (orphaned own i o).id j) (same-own own i o) ∙ ap (λ (x : ℤ). is_whose w o && int_eq x j) (same-id own i o)

pub opened-closed : (own w : Bool) (i j : ℤ) (os : List OpenCall) → is_some (opened_with w j os) ≡ false → is_some (opened_with w j (closed own i os)) ≡ false
opened-closed own w i j [] h = refl
opened-closed own w i j (o ∷ os) h =
    let both : (is_key w j o || is_some (opened_with w j os)) ≡ false = sym (some-if (is_key w j o) o (opened_with w j os) false) ∙ h in
    go (opened-closed own w i j os (or-second (is_key w j o) (is_some (opened_with w j os)) both)) (or-first (is_key w j o) (is_some (opened_with w j os)) both) (is_key own i o) refl
  where
    go : is_some (opened_with w j (closed own i os)) ≡ false → is_key w j o ≡ false → (b : Bool) → is_key own i o ≡ b → is_some (opened_with w j (closed own i (o ∷ os))) ≡ false
    go later key true e = rw e later
    go later key false e =
        let k : is_key w j (orphaned own i o) ≡ false = same-key own w i j o ∙ key in
        rw (e, k) later

numbered-root : (made : ℕ) (own : Bool) (i : ℤ) (o : OpenCall) → IsNumbered made o → IsNumbered made (orphaned own i o)
numbered-root made own i o h =
    record {
      is_number = subst IsNumber (sym (same-id own i o)) h.is_number;
      made_here = λ e. subst (λ j. number_seen j ≤ made) (sym (same-id own i o)) (h.made_here (sym (same-own own i o) ∙ e));
    }

pub numbered-closed : (made : ℕ) (own : Bool) (i : ℤ) (os : List OpenCall) → AreNumbered made os → AreNumbered made (closed own i os)
numbered-closed made own i [] h = tt
numbered-closed made own i (o ∷ os) h = go (numbered-closed made own i os h.2) (is_key own i o) refl
  where
    go : AreNumbered made (closed own i os) → (b : Bool) → is_key own i o ≡ b → AreNumbered made (closed own i (o ∷ os))
    go later true e = rw e later
    go later false e =
        let none : is_some (opened_with (orphaned own i o).own (orphaned own i o).id (closed own i os)) ≡ false =
        ap (λ w. is_some (opened_with w (orphaned own i o).id (closed own i os))) (same-own own i o) ∙
        ap (λ j. is_some (opened_with o.own j (closed own i os))) (same-id own i o) ∙
        opened-closed own o.own i o.id os h.1 in
        rw e (numbered-root made own i o h.0, none, later)

pub numbered-opening : (base : Base) (o : OpenCall) (calls : Calls) → AreNumbered calls.made calls.opens → IsNumbered calls.made o → is_some (opened_with o.own o.id calls.opens) ≡ false → AreNumberedCalls (with_opened base o calls)
numbered-opening base o calls h i fresh = go (is_silent_at base (Some o.operation))
  where
    go : (b : Bool) → AreNumberedCalls (if b then calls else record calls { opens = calls.opens ++ o ∷ [] })
    go true = h
    go false = numbered-snoc calls.made calls.opens o h i fresh
