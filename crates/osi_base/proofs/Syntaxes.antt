-- A name and the syntax that it names.
use Rattle.std.proofs.Common.{◌≡◌, ◌≢◌, ℕ, Bool, true, false, ◌&&◌, nat_eq, if◌then◌else◌, List, [], ◌∷◌, Some, None, refl, ap, ◌∙◌, arith}
use Rattle.std.proofs.lemmas.Bool.Decides.{nat_tests}
use Rattle.std.specs.Cmp.Lexicographic.{pointwise}
use Rattle.osi_base.specs.Syntax.{name_of, syntax_named}
use Rattle.osi_base.specs.declared.syntax.Syntax.{Syntax}
use Rattle.osi_base.specs.declared.syntax.Syntax.TheVariants.{Ber, Der, Packed}

one-name : (a b : List ℕ) → pointwise nat_eq a b ≡ true → a ≡ b
one-name [] [] h = refl
one-name [] (y ∷ b) h = cc
one-name (x ∷ a) [] h = cc
one-name (x ∷ a) (y ∷ b) h =
    let head : x ≡ y = its x y (left (nat_eq x y) (pointwise nat_eq a b) h) in
    let tail : a ≡ b = one-name a b (right (nat_eq x y) (pointwise nat_eq a b) h) in
    cc
  where
    its : (m n : ℕ) → nat_eq m n ≡ true → m ≡ n
    its m n e = grind (arith, nat_tests)

    left : (p q : Bool) → (p && q) ≡ true → p ≡ true
    left true q h = refl
    left false q h = cc

    right : (p q : Bool) → (p && q) ≡ true → q ≡ true
    right true q h = h
    right false q h = cc

-- a syntax that a name is has that name
pub named_back : (name : List ℕ) (syntax : Syntax) → syntax_named name ≡ Some syntax → name ≡ name_of syntax
named_back name syntax h = go (pointwise nat_eq name (name_of Ber)) refl (pointwise nat_eq name (name_of Der)) refl (pointwise nat_eq name (name_of Packed)) refl h
  where
    go : (p : Bool) → pointwise nat_eq name (name_of Ber) ≡ p → (q : Bool) → pointwise nat_eq name (name_of Der) ≡ q → (r : Bool) → pointwise nat_eq name (name_of Packed) ≡ r → (if p then Some Ber else (if q then Some Der else (if r then Some Packed else None))) ≡ Some syntax → name ≡ name_of syntax
    go true e q f r g h = let s : Ber ≡ syntax = cc in one-name name (name_of Ber) e ∙ ap name_of s
    go false e true f r g h = let s : Der ≡ syntax = cc in one-name name (name_of Der) f ∙ ap name_of s
    go false e false f true g h = let s : Packed ≡ syntax = cc in one-name name (name_of Packed) g ∙ ap name_of s
    go false e false f false g h = cc

known : (syntax : Syntax) → syntax_named (name_of syntax) ≡ Some syntax
known Ber = refl
known Der = refl
known Packed = refl

-- a name that is no syntax is the name of none
pub none_named : (name : List ℕ) → syntax_named name ≡ None → (syntax : Syntax) → name ≢ name_of syntax
none_named name h syntax e =
    let s : syntax_named name ≡ Some syntax = ap syntax_named e ∙ known syntax in
    cc
