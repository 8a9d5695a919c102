-- Opening and closing keep that keys are distinct and stand behind those above them.
use Rattle.std.proofs.Common.{◌≡◌, Bool, true, false, ◌||◌, cond, List, [], ◌∷◌, ◌++◌, map, Option, Some, None, refl, sym, ap, subst, ◌∙◌, append_assoc}
use Rattle.std.proofs.lemmas.Bool.{and_parts}
use Rattle.std.proofs.lemmas.Bool.Decides.{Decides-int_eq}
use Rattle.std.proofs.lemmas.List.{append-nil, map-append}
use Rattle.linked_ops.specs.declared.key.Key.{Key}
use Rattle.linked_ops.specs.Keys.{same_bool, same_key, is_under}
use Rattle.linked_ops.specs.Entries.{Entry, is_open, is_open_or_none, orphaned, without, closed, AreBehind}

bools_are : (a b : Bool) → same_bool a b ≡ true → a ≡ b
bools_are true true e = refl
bools_are false false e = refl
bools_are true false e = absurd cc
bools_are false true e = absurd cc

bool_is : (a : Bool) → same_bool a a ≡ true
bool_is true = refl
bool_is false = refl

keys_are : (a b : Key) → same_key a b ≡ true → a ≡ b
keys_are a b e =
    let t = and_parts (same_bool a.own b.own) _ e in
    let x = bools_are a.own b.own t.0 in
    let y = (Decides-int_eq a.id b.id).0 t.1 in
    λ i. record { own = x i; id = y i }

-- two keys that are one with a third are one
other : (a k l : Key) → same_key a l ≡ true → same_key k l ≡ false → same_key a k ≡ true → ⊥
other a k l e f g =
    let x = keys_are a k g in
    let y : same_key k l ≡ true = subst (λ (z : Key). same_key z l ≡ true) x e in
    let z : true ≡ false = sym y ∙ f in cc

both_true : (a b : Bool) → (a || b) ≡ true → a ≡ false → b ≡ true
both_true true b e f = absurd cc
both_true false b e f = e

none_first : (a b : Bool) → (a || b) ≡ false → (a ≡ false) × (b ≡ false)
none_first true b e = absurd cc
none_first false b e = (refl, e)

one_true : (a b : Bool) → b ≡ true → (a || b) ≡ true
one_true true b e = refl
one_true false b e = e

abbrev in_ : Key → List Entry → Bool
in_ k xs = is_open k xs

pub open-append : (k : Key) (xs ys : List Entry) → is_open k (xs ++ ys) ≡ (is_open k xs || is_open k ys)
open-append k [] ys = refl
open-append k (x ∷ xs) ys = ap (λ (b : Bool). same_key x.0 k || b) (open-append k xs ys) ∙ assoc (same_key x.0 k) (is_open k xs) (is_open k ys)
  where
    assoc : (a b c : Bool) → (a || (b || c)) ≡ ((a || b) || c)
    assoc true b c = refl
    assoc false b c = refl

-- ---- opening

pub opened : (front es : List Entry) (e : Entry) → AreBehind front es → is_open e.0 (front ++ es) ≡ false → is_open_or_none e.1 (front ++ es) ≡ true → AreBehind front (es ++ e ∷ [])
opened front [] e h a b =
    (ap (is_open e.0) (sym (append-nil front)) ∙ a, ap (is_open_or_none e.1) (sym (append-nil front)) ∙ b, tt)
opened front (x ∷ es) e h a b =
    (h.0, h.1, opened (front ++ x ∷ []) es e h.2 (ap (is_open e.0) (append_assoc front (x ∷ []) es) ∙ a) (ap (is_open_or_none e.1) (append_assoc front (x ∷ []) es) ∙ b))

-- ---- closing

module _ (key : Key) where
  abbrev roots : List Entry → List Entry
  roots xs = map (orphaned key) xs

  open_roots : (k : Key) (xs : List Entry) → is_open k (roots xs) ≡ is_open k xs
  open_roots k [] = refl
  open_roots k (x ∷ xs) = ap (λ (b : Bool). same_key x.0 k || b) (open_roots k xs)

  lacks_without : (k : Key) (xs : List Entry) → is_open k xs ≡ false → is_open k (without key xs) ≡ false
  lacks_without k [] e = refl
  lacks_without k (x ∷ xs) e = let n = none_first (same_key x.0 k) (is_open k xs) e in by_test (same_key x.0 key) n (lacks_without k xs n.1)
    where
      by_test : (b : Bool) → (same_key x.0 k ≡ false) × (is_open k xs ≡ false) → is_open k (without key xs) ≡ false → is_open k (cond b xs (x ∷ without key xs)) ≡ false
      by_test true n more = n.1
      by_test false n more = ap (λ (b : Bool). b || is_open k (without key xs)) n.0 ∙ more

  stays : (p : Key) (xs : List Entry) → same_key p key ≡ false → is_open p xs ≡ true → is_open p (without key xs) ≡ true
  stays p [] n e = absurd cc
  stays p (x ∷ xs) n e = by_both (same_key x.0 key) (same_key x.0 p) refl refl (λ o. stays p xs n o)
    where
      by_both : (a b : Bool) → same_key x.0 key ≡ a → same_key x.0 p ≡ b → (is_open p xs ≡ true → is_open p (without key xs) ≡ true) → is_open p (cond a xs (x ∷ without key xs)) ≡ true
      by_both true true t u more = absurd (other x.0 p key t n u)
      by_both true false t u more = both_true (same_key x.0 p) (is_open p xs) e u
      by_both false true t u more = ap (λ (b : Bool). b || is_open p (without key xs)) u
      by_both false false t u more = one_true (same_key x.0 p) (is_open p (without key xs)) (more (both_true (same_key x.0 p) (is_open p xs) e u))

  without-append : (xs ys : List Entry) → is_open key xs ≡ true → without key (xs ++ ys) ≡ without key xs ++ ys
  without-append [] ys e = absurd cc
  without-append (x ∷ xs) ys e = by_test (same_key x.0 key) refl (λ o. without-append xs ys o)
    where
      by_test : (b : Bool) → same_key x.0 key ≡ b → (is_open key xs ≡ true → without key (xs ++ ys) ≡ without key xs ++ ys) → cond b (xs ++ ys) (x ∷ without key (xs ++ ys)) ≡ cond b xs (x ∷ without key xs) ++ ys
      by_test true t more = refl
      by_test false t more = ap (λ (zs : List Entry). x ∷ zs) (more (both_true (same_key x.0 key) (is_open key xs) e t))

  without_last : (xs : List Entry) (e : Entry) → is_open key xs ≡ false → same_key e.0 key ≡ true → without key (xs ++ e ∷ []) ≡ xs
  without_last [] e n t = ap (λ (b : Bool). cond b [] (e ∷ [])) t
  without_last (x ∷ xs) e n t =
      let m = none_first (same_key x.0 key) (is_open key xs) n in
      ap (λ (b : Bool). cond b (xs ++ e ∷ []) (x ∷ without key (xs ++ e ∷ []))) m.0 ∙ ap (λ (zs : List Entry). x ∷ zs) (without_last xs e m.1 t)

  -- the key above stays open, or is no more
  above_is : (above : Option Key) (front back : List Entry) → is_open_or_none above front ≡ true → ((p : Key) → same_key p key ≡ false → is_open p front ≡ true → is_open p back ≡ true) → is_open_or_none (cond (is_under key above) None above) back ≡ true
  above_is None front back e keep = refl
  above_is (Some p) front back e keep = by_test (same_key p key) refl
    where
      by_test : (b : Bool) → same_key p key ≡ b → is_open_or_none (cond b None (Some p)) back ≡ true
      by_test true t = refl
      by_test false t = keep p t e

  kept : (front es : List Entry) → is_open key front ≡ true → AreBehind front es → AreBehind (roots (without key front)) (roots es)
  kept front [] i h = tt
  kept front (e ∷ es) i h = (
    open_roots e.0 (without key front) ∙ lacks_without e.0 front h.0,
    above_is e.1 front (roots (without key front)) h.1 (λ p n o. open_roots p (without key front) ∙ stays p front n o),
    subst (λ (zs : List Entry). AreBehind zs (roots es)) (ap roots (without-append front (e ∷ []) i) ∙ map-append (orphaned key) (without key front) (e ∷ []))
        (kept (front ++ e ∷ []) es (open-append key front (e ∷ []) ∙ ap (λ (b : Bool). b || is_open key (e ∷ [])) i) h.2),
  )

  pub closes : (front es : List Entry) → is_open key front ≡ false → AreBehind front es → AreBehind (roots front) (roots (without key es))
  closes front [] n h = tt
  closes front (e ∷ es) n h = by_test (same_key e.0 key) refl (λ o. closes (front ++ e ∷ []) es o h.2)
    where
      or_false : (b c : Bool) → c ≡ b → (c || false) ≡ b
      or_false b true f = f
      or_false b false f = f

      last : (b : Bool) → same_key e.0 key ≡ b → is_open key (front ++ e ∷ []) ≡ b
      last b t = open-append key front (e ∷ []) ∙ ap (λ (c : Bool). c || is_open key (e ∷ [])) n ∙ or_false b (same_key e.0 key) t

      by_test : (b : Bool) → same_key e.0 key ≡ b → (is_open key (front ++ e ∷ []) ≡ false → AreBehind (roots (front ++ e ∷ [])) (roots (without key es))) → AreBehind (roots front) (roots (cond b es (e ∷ without key es)))
      by_test true t more = subst (λ (zs : List Entry). AreBehind (roots zs) (roots es)) (without_last front e n t) (kept (front ++ e ∷ []) es (last true t) h.2)
      by_test false t more = (
        open_roots e.0 front ∙ h.0,
        above_is e.1 front (roots front) h.1 (λ p m o. open_roots p front ∙ o),
        subst (λ (zs : List Entry). AreBehind zs (roots (without key es))) (map-append (orphaned key) front (e ∷ [])) (more (last false t)),
      )

  pub closed_forest : (xs ys : List Entry) → ys ≡ closed key xs → AreBehind [] xs → AreBehind [] ys
  closed_forest xs ys e h = subst (AreBehind []) (sym e) (closes [] xs refl h)
