-- Identifiers that are met one after the other.
use Rattle.std.proofs.Common.{◌≡◌, ℕ, Bool, true, false, ◌||◌, List, [], ◌∷◌, refl, ◌∙◌, sym, arith}
use Rattle.std.proofs.lemmas.Grind.{common_steps}
use Rattle.std.proofs.lemmas.Bool.Decides.{nat_tests}
use Rattle.std.specs.Ordering.{nat_cmp}
use Rattle.std.specs.BTreeSet.{BTreeSet, contains, Updates}
use Rattle.context_sets.specs.Alterations.{is_among}
use Rattle.context_sets.specs.Asking.{are_bad, is_no_identifier}
use Rattle.context_sets.specs.Met.{HasMet, GoesOn}

one_more : (old new : BTreeSet ℕ) (id : ℕ) (ids : List ℕ) → Updates nat_cmp old new id true → HasMet old ids → HasMet new (id ∷ ids)
one_more old new id ids u h = record { same = λ k. let a = u.0 k in let b = h.same k in grind (arith, common_steps, nat_tests, a, b) }

or-false_left : (a b : Bool) → (a || b) ≡ false → a ≡ false
or-false_left false b e = refl
or-false_left true b e = e

or-false_right : (a b : Bool) → (a || b) ≡ false → b ≡ false
or-false_right false b e = e
or-false_right true b e = cc

skip : (a b x y : Bool) → a ≡ false → b ≡ false → (a || (b || x)) ≡ y → x ≡ y
skip false false x y e f g = g
skip false true x y e f g = cc
skip true b x y e f g = cc

hit : (a b d x y : Bool) → d ≡ b → (a || d) ≡ true → (a || (b || x)) ≡ y → y ≡ true
hit true b d x y e f g = sym g
hit false true d x y e f g = sym g
hit false false d x y e f g = cc

pub goes_on : (old new : BTreeSet ℕ) (id : ℕ) (rest all : List ℕ) → GoesOn old (id ∷ rest) all → (is_no_identifier id || contains nat_cmp old id) ≡ false → Updates nat_cmp old new id true → GoesOn new rest all
goes_on old new id rest all g e u =
    record {
      before = id ∷ g.before;
      has_met = one_more old new id g.before u g.has_met;
      left =
          let a : is_no_identifier id ≡ false = or-false_left (is_no_identifier id) _ e in
          let b : is_among id g.before ≡ false = sym (g.has_met.same id) ∙ or-false_right (is_no_identifier id) _ e in
          skip (is_no_identifier id) (is_among id g.before) (are_bad (id ∷ g.before) rest) _ a b g.left;
    }

pub is_found : (met : BTreeSet ℕ) (id : ℕ) (rest all : List ℕ) → GoesOn met (id ∷ rest) all → (is_no_identifier id || contains nat_cmp met id) ≡ true → are_bad [] all ≡ true
is_found met id rest all g e =
    hit (is_no_identifier id) (is_among id g.before) (contains nat_cmp met id) (are_bad (id ∷ g.before) rest) _ (g.has_met.same id) e g.left
