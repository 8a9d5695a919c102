-- Reading from a spot: what comes of octets that are known, and where reading went.
use Rattle.std.proofs.Common.{◌≡◌, ℕ, ◌+◌, List, ◌++◌, Ok, Err, refl, sym, ap, subst, ◌∙◌, append_assoc, arith}
use Rattle.osi_base.specs.Octets.{AreOctets}
use Rattle.osi_base.proofs.OctetLaws.{octets_right}
use Rattle.packed_codec.specs.Reading.{Spot}
use Rattle.table_file.specs.Reading.{Reading, ◌>>=◌}

abbrev pub at : ℕ → List ℕ → ℕ → Spot
at place rest left = record { place = place; rest = rest; left = left }

-- reading gives this, and goes on in front of those octets, with that many items left
pub record Comes {X : Type 0} (r : Reading (X × Spot)) (x : X) (more : List ℕ) (left : ℕ) : Type 0 where
  pub place : ℕ
  pub is : r ≡ Ok (x, at place more left)

pub comes_here : {X : Type 0} (x : X) (p l : ℕ) (more : List ℕ) → Comes (Ok (x, at p more l)) x more l
comes_here x p l more = record { place = p; is = refl }

pub then_comes : {A B : Type 0} (r : Reading (A × Spot)) (f : A × Spot → Reading (B × Spot)) (a : A) (b : B) (mid more : List ℕ) (l k : ℕ)
    → Comes r a mid l → ((p : ℕ) → Comes (f (a, at p mid l)) b more k) → Comes (r >>= f) b more k
then_comes r f a b mid more l k c g = let d = g c.place in record { place = d.place; is = ap (λ q. q >>= f) c.is ∙ d.is }

pub comes_from : {X : Type 0} (read : Spot → Reading (X × Spot)) (x : X) (p : ℕ) (r q more : List ℕ) (l m k : ℕ)
    → r ≡ q → l ≡ m → Comes (read (at p q m)) x more k → Comes (read (at p r l)) x more k
comes_from read x p r q more l m k e f c =
    subst (λ (y : List ℕ). Comes (read (at p y l)) x more k) (sym e) (subst (λ (y : ℕ). Comes (read (at p q y)) x more k) (sym f) c)

-- octets in two parts
pub comes_apart : {X : Type 0} (read : Spot → Reading (X × Spot)) (x : X) (p : ℕ) (a b more : List ℕ) (l k : ℕ)
    → Comes (read (at p (a ++ (b ++ more)) l)) x more k → Comes (read (at p ((a ++ b) ++ more) l)) x more k
comes_apart read x p a b more l k c = comes_from read x p ((a ++ b) ++ more) (a ++ (b ++ more)) more l l k (append_assoc a b more) refl c

-- ---- where reading went

-- over these octets, counting so many items
pub record Went (text : List ℕ) (count : ℕ) (s t : Spot) : Type 0 where
  pub rest : s.rest ≡ text ++ t.rest
  pub left : s.left ≡ count + t.left

pub went_then : (a b : List ℕ) (c d : ℕ) (s m t : Spot) → Went a c s m → Went b d m t → Went (a ++ b) (c + d) s t
went_then a b c d s m t v w = record {
  rest = v.rest ∙ ap (λ (y : List ℕ). a ++ y) w.rest ∙ sym (append_assoc a b t.rest);
  left = omega (arith, v.left, w.left);
}

pub went_as : (a b : List ℕ) (c d : ℕ) (s t : Spot) → a ≡ b → c ≡ d → Went a c s t → Went b d s t
went_as a b c d s t e f w = subst (λ (y : List ℕ). Went y d s t) e (subst (λ (y : ℕ). Went a y s t) f w)

pub went_octets : (a : List ℕ) (c : ℕ) (s t : Spot) → Went a c s t → AreOctets s.rest → AreOctets t.rest
went_octets a c s t w h = octets_right a t.rest (subst AreOctets w.rest h)

pub bind_ok : {A B : Type 0} (r : Reading A) (f : A → Reading B) (y : B) → (r >>= f) ≡ Ok y → (x : A) × (r ≡ Ok x) × (f x ≡ Ok y)
bind_ok (Ok x) f y e = (x, refl, e)
bind_ok (Err d) f y e = absurd cc

abbrev pub done : {A : Type 0} → A → Reading A
done x = Ok x

pub ok_is : {A : Type 0} (x y : A) → done x ≡ done y → x ≡ y
ok_is x y e = cc
