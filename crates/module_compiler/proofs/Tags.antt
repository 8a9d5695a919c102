-- The tags with which a row's values begin are among those of a type's facts; so parts that these tell apart are told apart by their rows.
use Rattle.std.proofs.Common.{◌≡◌, ℕ, Bool, true, false, List, [], ◌∷◌, ◌++◌, refl, sym, ap, subst, ◌∙◌}
use Rattle.std.specs.Prelude.{◌||◌, nat_eq, if◌then◌else◌}
use Rattle.std.specs.List.{list_any, AllByRecursion}
use Rattle.std.proofs.lemmas.Bool.{eqb-true, eq-eqb, and_parts}
use Rattle.asn1_types.specs.Rows.{Opening, tag, every, class_number, meets}
use Rattle.module_faults.specs.Facts.{same_tag, has_tag, with_tag, with_tags, clash}
use Rattle.module_compiler.proofs.OwnCodes.{any_end, either_false}

pub or_first : (a b : Bool) → a ≡ true → (a || b) ≡ true
or_first true b e = refl
or_first false b e = absurd cc

pub or_second : (a b : Bool) → b ≡ true → (a || b) ≡ true
or_second true b e = refl
or_second false b e = e

pub neither : (a b : Bool) → a ≡ false → b ≡ false → (a || b) ≡ false
neither true b e f = absurd cc
neither false b e f = f

-- ---- tags

same_is : (x : _) (y : _) → same_tag x y ≡ true → x ≡ y
same_is x y e =
    let t = and_parts (nat_eq x.class y.class) (nat_eq x.number y.number) e in
    let class : x.class ≡ y.class = eqb-true x.class y.class t.0 in
    let number : x.number ≡ y.number = eqb-true x.number y.number t.1 in
    λ i. record { class = class i; number = number i }

same_itself : (x : _) → same_tag x x ≡ true
same_itself x = rw (eq-eqb x.class x.class refl, eq-eqb x.number x.number refl) refl

pub tag_same : (c d n : ℕ) → c ≡ d → same_tag (record { class = c; number = n }) (record { class = d; number = n }) ≡ true
tag_same c d n e = rw (eq-eqb c d e, eq-eqb n n refl) refl

kept_tag : (tags : List _) (t : _) (x : _) → has_tag tags x ≡ true → has_tag (with_tag tags t) x ≡ true
kept_tag tags t x e = go (has_tag tags t) refl
  where
    go : (b : Bool) → has_tag tags t ≡ b → has_tag (with_tag tags t) x ≡ true
    go true h = ap (λ (c : Bool). has_tag (if c then tags else tags ++ t ∷ []) x) h ∙ e
    go false h = ap (λ (c : Bool). has_tag (if c then tags else tags ++ t ∷ []) x) h ∙ any_end (same_tag x) tags t ∙ or_second (same_tag x t) (has_tag tags x) e

new_tag : (tags : List _) (t : _) → has_tag (with_tag tags t) t ≡ true
new_tag tags t = go (has_tag tags t) refl
  where
    go : (b : Bool) → has_tag tags t ≡ b → has_tag (with_tag tags t) t ≡ true
    go true h = ap (λ (c : Bool). has_tag (if c then tags else tags ++ t ∷ []) t) h ∙ h
    go false h = ap (λ (c : Bool). has_tag (if c then tags else tags ++ t ∷ []) t) h ∙ any_end (same_tag t) tags t ∙ or_first (same_tag t t) (has_tag tags t) (same_itself t)

pub kept_tags : (before : List _) (tags : List _) (x : _) → has_tag before x ≡ true → has_tag (with_tags before tags) x ≡ true
kept_tags before [] x e = e
kept_tags before (t ∷ tags) x e = kept_tags (with_tag before t) tags x (kept_tag before t x e)

pub new_tags : (before : List _) (tags : List _) (x : _) → has_tag tags x ≡ true → has_tag (with_tags before tags) x ≡ true
new_tags before [] x e = absurd cc
new_tags before (t ∷ tags) x e = go (same_tag x t) refl (λ h. new_tags (with_tag before t) tags x h) e
  where
    go : (b : Bool) → same_tag x t ≡ b → (has_tag tags x ≡ true → has_tag (with_tags (with_tag before t) tags) x ≡ true) → (b || has_tag tags x) ≡ true → has_tag (with_tags (with_tag before t) tags) x ≡ true
    go true h more f = kept_tags (with_tag before t) tags x (subst (λ y. has_tag (with_tag before t) y ≡ true) (sym (same_is x t h)) (new_tag before t))
    go false h more f = more f

-- ---- openings

-- (the type of tags has no name outside of its crate: `has_tag` says which it is)
abbrev pub is_among : (tags : List _) → (let has = has_tag tags in Opening → Bool)
is_among tags (tag class number) = has_tag tags (record { class = class_number class; number = number })
is_among tags every = false

abbrev pub AreAmong : (tags : List _) → (let has = has_tag tags in List Opening → Type 0)
AreAmong tags os = AllByRecursion (λ o. is_among tags o ≡ true) os

pub among_more : (few : List _) (many : List _) → ((x : _) → has_tag few x ≡ true → has_tag many x ≡ true) → (os : List Opening) → AreAmong few os → AreAmong many os
among_more few many more [] h = tt
among_more few many more (tag class number ∷ os) h = (more (record { class = class_number class; number = number }) h.0, among_more few many more os h.1)
among_more few many more (every ∷ os) h = absurd (let no : false ≡ true = h.0 in cc)

pub among_kept : (before : List _) (tags : List _) (os : List Opening) → AreAmong before os → AreAmong (with_tags before tags) os
among_kept before tags os h = among_more before (with_tags before tags) (kept_tags before tags) os h

pub among_new : (before : List _) (tags : List _) (os : List Opening) → AreAmong tags os → AreAmong (with_tags before tags) os
among_new before tags os h = among_more tags (with_tags before tags) (new_tags before tags) os h

pub among_append : (tags : List _) (os more : List Opening) → AreAmong tags os → AreAmong tags more → AreAmong tags (os ++ more)
among_append tags [] more h k = k
among_append tags (o ∷ os) more h k = (h.0, among_append tags os more h.1 k)

-- a tag that is in both lists is a clash
no_common : (before : List _) (tags : List _) (x : _) → clash before tags ≡ false → has_tag before x ≡ true → has_tag tags x ≡ true → ⊥
no_common before [] x e f h = cc
no_common before (t ∷ tags) x e f h =
    let apart = either_false (has_tag before t) (clash before tags) e in
    go (same_tag x t) refl apart.0 (λ k. no_common before tags x apart.1 f k) h
  where
    go : (b : Bool) → same_tag x t ≡ b → has_tag before t ≡ false → (has_tag tags x ≡ true → ⊥) → (b || has_tag tags x) ≡ true → ⊥
    go true s none more k = let is : has_tag before t ≡ true = subst (λ y. has_tag before y ≡ true) (same_is x t s) f in cc
    go false s none more k = more k

-- openings among tags that don't clash don't meet
one_apart : (before : List _) (tags : List _) → clash before tags ≡ false → (o p : Opening) → is_among before o ≡ true → is_among tags p ≡ true → meets o p ≡ false
one_apart before tags e every p f h = absurd cc
one_apart before tags e (tag c n) every f h = absurd cc
one_apart before tags e (tag c n) (tag d m) f h = go (meets (tag c n) (tag d m)) refl
  where
    go : (b : Bool) → meets (tag c n) (tag d m) ≡ b → meets (tag c n) (tag d m) ≡ false
    go false s = s
    go true s = absurd (no_common before tags (record { class = class_number d; number = m }) e (subst (λ y. has_tag before y ≡ true) (same_is (record { class = class_number c; number = n }) (record { class = class_number d; number = m }) s) f) h)

any_apart : (before : List _) (tags : List _) → clash before tags ≡ false → (o : Opening) (ps : List Opening) → is_among before o ≡ true → AreAmong tags ps → list_any (meets o) ps ≡ false
any_apart before tags e o [] f h = refl
any_apart before tags e o (p ∷ ps) f h = neither (meets o p) (list_any (meets o) ps) (one_apart before tags e o p f h.0) (any_apart before tags e o ps f h.1)

pub all_apart : (before : List _) (tags : List _) → clash before tags ≡ false → (os ps : List Opening) → AreAmong before os → AreAmong tags ps → list_any (λ o. list_any (meets o) ps) os ≡ false
all_apart before tags e [] ps f h = refl
all_apart before tags e (o ∷ os) ps f h = neither (list_any (meets o) ps) (list_any (λ x. list_any (meets x) ps) os) (any_apart before tags e o ps f.0 h) (all_apart before tags e os ps f.1 h)
