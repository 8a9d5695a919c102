-- A field that breaks the grammar of a header is there.
use Rattle.std.proofs.Common.{◌≡◌, ℕ, zero, suc, ◌+◌, ◌-◌, ◌*◌, ◌<◌, ◌==◌, Bool, true, false, cond, ltb, List, [], ◌∷◌, length, Result, Ok, Err, refl, ap, arith}
use Rattle.std.specs.Prelude.{◌&&◌, ◌||◌, is_none, nat_le}
use Rattle.std.proofs.lemmas.List.{length-append}
use Rattle.osi_base.specs.declared.layer_words.Kind.{Kind}
use Rattle.osi_base.specs.declared.layer_words.Kind.TheVariants as kinds
use Rattle.osi_base.specs.Limits.{tsdu_limit}
use Rattle.tpkt.specs.declared.packet.Packet.{Packet}
use Rattle.tpkt.specs.declared.packet.Packet.TheVariants.{Disconnect, Problem}
use Rattle.tpkt.specs.declared.header.Header.{Header}
use Rattle.tpkt.specs.declared.parameters.Seen.{Seen}
use Rattle.tpkt.specs.declared.header_stops.Stop.{Stop}
use Rattle.tpkt.specs.declared.header_stops.Stop.TheVariants.{Short, At}
use Rattle.tpkt.specs.Wire.{parameter}
use Rattle.tpkt.specs.Header.{◌>>=◌, nothing_seen, with_size, with_parameter, value_at, parameter_at, parameters_at, ends_at, passed_at, mark_at, data_at, fills, code_at, indicator_at, length_at, header_at}
use Rattle.tpkt.proofs.ParameterLaws.{one_found}

-- a fault stands before this place
abbrev pub Below : {A : Type 0} → ℕ → Result A Stop → Type 0
Below n r = (o : ℕ) (k : Kind) → r ≡ Err (At o k) → o < n

abbrev failed : {A : Type 0} → Stop → Result A Stop
failed s = Err s

at_place : {A : Type 0} (p o : ℕ) (j k : Kind) → failed {A = A} (At p j) ≡ Err (At o k) → p ≡ o
at_place p o j k e = cc

below_ok : {A : Type 0} (n : ℕ) (x : A) → Below n (Ok x)
below_ok n x o k e = absurd cc

below_short : {A : Type 0} (n : ℕ) → Below {A = A} n (Err Short)
below_short n o k e = absurd cc

below_at : {A : Type 0} (n p : ℕ) (j : Kind) → p < n → Below {A = A} n (Err (At p j))
below_at n p j lt o k e =
    let same : p ≡ o = at_place p o j k e in
    omega (arith, same, lt)

below_cond : {A : Type 0} (n : ℕ) (b : Bool) (x y : Result A Stop) → Below n x → Below n y → Below n (cond b x y)
below_cond n true x y p q = p
below_cond n false x y p q = q

same_failure : {A B : Type 0} (s t : Stop) → failed {A = B} s ≡ Err t → failed {A = A} s ≡ Err t
same_failure s t e = let f : s ≡ t = cc in ap failed f

below_bind : {A B : Type 0} (n : ℕ) (r : Result A Stop) (f : A → Result B Stop) → Below n r → ((x : A) → r ≡ Ok x → Below n (f x)) → Below n (r >>= f)
below_bind n (Ok x) f p q = q x refl
below_bind n (Err s) f p q = λ o k e. p o k (same_failure s (At o k) e)

-- ---- parameters

value_below : (n left offset code : ℕ) (xs : List ℕ) → offset < n → Below n (value_at left offset code xs)
unfolding value_at
value_below n left offset code [] lt = below_short n
value_below n left offset code (len ∷ rest) lt =
    below_cond n (ltb left (len + 2)) _ _ (below_at n offset kinds.Content lt) (below_cond n (ltb (length rest) len) _ _ (below_short n) (below_ok n _))

parameter_below : (left offset : ℕ) (xs : List ℕ) → Below (offset + length xs) (parameter_at left offset xs)
unfolding parameter_at
parameter_below left offset [] = below_short _
parameter_below left offset (code ∷ rest) =
    below_cond (offset + length (code ∷ rest)) (left == 1) _ _ (below_at _ offset kinds.Content (omega arith)) (value_below (offset + length (code ∷ rest)) left offset code rest (omega arith))

size_below : (n offset : ℕ) (seen : Seen) (v : List ℕ) → offset < n → Below n (with_size offset seen v)
unfolding with_size
size_below n offset seen [] lt = below_at n offset kinds.Content lt
size_below n offset seen (x ∷ []) lt = below_cond n (is_none seen.size) _ _ (below_ok n _) (below_at n offset kinds.Content lt)
size_below n offset seen (x ∷ y ∷ v) lt = below_at n offset kinds.Content lt

with_below : (n offset : ℕ) (seen : Seen) (code : ℕ) (v : List ℕ) → offset < n → Below n (with_parameter offset seen code v)
unfolding with_parameter
with_below n offset seen code v lt =
    below_cond n (code == 192) _ _ (size_below n offset seen v lt)
    (below_cond n (code == 193) _ _ (below_cond n (is_none seen.calling) _ _ (below_ok n _) (below_at n offset kinds.Content lt))
    (below_cond n (code == 194) _ _ (below_cond n (is_none seen.called) _ _ (below_ok n _) (below_at n offset kinds.Content lt)) (below_ok n seen)))

parameters_below : (fuel left offset : ℕ) (seen : Seen) (xs : List ℕ) → Below (offset + length xs) (parameters_at fuel left offset seen xs)
unfolding parameters_at
parameters_below fuel zero offset seen xs = below_ok _ seen
parameters_below zero (suc left) offset seen xs = below_ok _ seen
parameters_below (suc fuel) (suc left) offset seen xs =
    below_bind (offset + length xs) (parameter_at (suc left) offset xs) _ (parameter_below (suc left) offset xs) (λ p e.
    let one = one_found (suc left) offset xs p e in
    let len : length xs ≡ length p.1 + 2 + length p.2 = omega (arith, ap length one.0, length-append (parameter (p.0, p.1)) p.2) in
    below_bind (offset + length xs) (with_parameter offset seen p.0 p.1) _ (with_below (offset + length xs) offset seen p.0 p.1 (omega (arith, len))) (λ next f.
    λ o k g. omega (arith, len, parameters_below fuel (suc left - (length p.1 + 2)) (offset + (length p.1 + 2)) next p.2 o k g)))

-- ---- units

ends_below : (li : ℕ) (xs : List ℕ) → Below (6 + length xs) (ends_at li xs)
unfolding ends_at
ends_below li [] = below_short _
ends_below li (a ∷ []) = below_short _
ends_below li (a ∷ b ∷ []) = below_short _
ends_below li (a ∷ b ∷ c ∷ []) = below_short _
ends_below li (a ∷ b ∷ c ∷ d ∷ []) = below_short _
ends_below li (a ∷ b ∷ c ∷ d ∷ class ∷ rest) =
    below_cond (6 + length (a ∷ b ∷ c ∷ d ∷ class ∷ rest)) (class == 0) _ _
    (below_bind (6 + length (a ∷ b ∷ c ∷ d ∷ class ∷ rest)) (parameters_at (li - 6) (li - 6) 11 nothing_seen rest) _
    (λ o k e. omega (arith, parameters_below (li - 6) (li - 6) 11 nothing_seen rest o k e)) (λ seen e. below_ok _ _))
    (below_at _ 10 kinds.Content (omega arith))

passed_below : (n count : ℕ) (p : Packet) (xs : List ℕ) → Below n (passed_at count p xs)
passed_below n count p xs = below_cond n (ltb (length xs) count) _ _ (below_short n) (below_ok n _)

mark_below : (left : ℕ) (xs : List ℕ) → Below (6 + length xs) (mark_at left xs)
mark_below left [] = below_short _
mark_below left (m ∷ xs) =
    below_cond (6 + length (m ∷ xs)) (m == 0) _ _ (below_ok _ _) (below_cond (6 + length (m ∷ xs)) (m == 128) _ _ (below_ok _ _) (below_at _ 6 kinds.Content (omega arith)))

data_below : (begun left : ℕ) (xs : List ℕ) → Below (6 + length xs) (data_at begun left xs)
unfolding data_at
data_below begun left xs = below_cond (6 + length xs) (ltb tsdu_limit (begun + left)) _ _ (below_at _ 5 kinds.Length (omega arith)) (mark_below left xs)

code_below : (begun room li : ℕ) (xs : List ℕ) → Below (5 + length xs) (code_at begun room li xs)
unfolding code_at
code_below begun room li [] = below_short _
code_below begun room li (code ∷ rest) =
    let n : ℕ = 5 + length (code ∷ rest) in
    let bad : Below {A = Header} (5 + length (code ∷ rest)) (Err (At 4 kinds.Length)) = below_at {A = Header} (5 + length (code ∷ rest)) 4 kinds.Length (omega arith) in
    below_cond n (code == 240) _ _ (below_cond n (li == 2) _ _ (λ o k e. omega (arith, data_below begun (room - 2) rest o k e)) bad)
    (below_cond n (code == 224) _ _ (below_cond n (fills room li 6) _ _ (below_bind n (ends_at li rest) _ (λ o k e. omega (arith, ends_below li rest o k e)) (λ ends e. below_ok n _)) bad)
    (below_cond n (code == 208) _ _ (below_cond n (fills room li 6) _ _ (below_bind n (ends_at li rest) _ (λ o k e. omega (arith, ends_below li rest o k e)) (λ ends e. below_ok n _)) bad)
    (below_cond n (code == 128) _ _ (below_cond n (fills room li 6) _ _ (passed_below n (li - 1) Disconnect rest) bad)
    (below_cond n (code == 112) _ _ (below_cond n (fills room li 1) _ _ (passed_below n (li - 1) Problem rest) bad)
    (below_at n 5 kinds.Tag (omega arith))))))

indicator_below : (begun room : ℕ) (xs : List ℕ) → Below (4 + length xs) (indicator_at begun room xs)
unfolding indicator_at
indicator_below begun room [] = below_short _
indicator_below begun room (li ∷ rest) =
    below_cond (4 + length (li ∷ rest)) (li == 0 || nat_le 255 li || ltb room li) _ _ (below_at _ 4 kinds.Length (omega arith)) (λ o k e. omega (arith, code_below begun room li rest o k e))

length_below : (begun : ℕ) (xs : List ℕ) → Below (2 + length xs) (length_at begun xs)
unfolding length_at
length_below begun [] = below_short _
length_below begun (h ∷ []) = below_short _
length_below begun (h ∷ l ∷ rest) =
    below_cond (2 + length (h ∷ l ∷ rest)) (ltb (256 * h + l) 7) _ _ (below_at _ 2 kinds.Length (omega arith)) (λ o k e. omega (arith, indicator_below begun (256 * h + l - 5) rest o k e))

pub header_below : (begun : ℕ) (xs : List ℕ) → Below (length xs) (header_at begun xs)
unfolding header_at
header_below begun [] = below_short _
header_below begun (v ∷ []) = below_short _
header_below begun (v ∷ r ∷ rest) =
    below_cond (length (v ∷ r ∷ rest)) (v == 3 && r == 0) _ _ (λ o k e. omega (arith, length_below begun rest o k e)) (below_at _ 0 kinds.Tag (omega arith))
