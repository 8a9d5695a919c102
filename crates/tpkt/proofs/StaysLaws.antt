-- What is read of a header, whole or faulty, stands whatever follows.
use Rattle.std.proofs.Common.{◌≡◌, ℕ, zero, suc, ◌+◌, ◌-◌, ◌*◌, ◌≤◌, ◌==◌, Bool, true, false, cond, ltb, List, [], ◌∷◌, ◌++◌, length, take, drop, Result, Ok, Err, refl, sym, ap, subst, ◌∙◌, append_assoc, inl, inr, arith}
use Rattle.std.specs.Prelude.{◌⊎◌, ◌&&◌, ◌||◌, nat_le}
use Rattle.std.proofs.lemmas.Bool.{ltb-false, le-ltb}
use Rattle.std.proofs.lemmas.List.{length-append}
use Rattle.osi_base.specs.declared.layer_words.Kind.{Kind}
use Rattle.osi_base.specs.declared.layer_words.Kind.TheVariants as kinds
use Rattle.osi_base.specs.Limits.{tsdu_limit}
use Rattle.tpkt.specs.declared.packet.Packet.{Packet}
use Rattle.tpkt.specs.declared.packet.Packet.TheVariants.{Disconnect, Problem}
use Rattle.tpkt.specs.declared.header.Header.{Header}
use Rattle.tpkt.specs.declared.header.Header.TheVariants.{Control}
use Rattle.tpkt.specs.declared.parameters.Seen.{Seen}
use Rattle.tpkt.specs.declared.header_stops.Stop.{Stop}
use Rattle.tpkt.specs.declared.header_stops.Stop.TheVariants.{Short, At}
use Rattle.tpkt.specs.Wire.{parameter}
use Rattle.tpkt.specs.Header.{◌>>=◌, nothing_seen, with_parameter, value_at, parameter_at, parameters_at, ends_at, passed_at, mark_at, data_at, fills, code_at, indicator_at, length_at, header_at}
use Rattle.tpkt.proofs.ParameterLaws.{one_found, one_again}

-- reading the front was short, or reading more gives the same
abbrev Same : {A : Type 0} → Result A Stop → Result A Stop → Type 0
Same front more = (front ≡ Err Short) ⊎ (more ≡ front)

same_cond : {A : Type 0} (b : Bool) (x y x' y' : Result A Stop) → Same x x' → Same y y' → Same (cond b x y) (cond b x' y')
same_cond true x y x' y' p q = p
same_cond false x y x' y' p q = q

same_bind : {A B : Type 0} (x x' : Result A Stop) (f : A → Result B Stop) → Same x x' → Same (x >>= f) (x' >>= f)
same_bind x x' f (inl e) = inl (ap (λ r. r >>= f) e)
same_bind x x' f (inr e) = inr (ap (λ r. r >>= f) e)

stands : {A : Type 0} (x y z : Result A Stop) → Same x y → x ≡ z → (z ≡ Err Short → ⊥) → y ≡ z
stands x y z (inl e) f ne = absurd (ne (sym f ∙ e))
stands x y z (inr e) f ne = e ∙ f

-- a parameter's fault
value_stays : (m o c : ℕ) (xs ys : List ℕ) (at : ℕ) (k : Kind) → value_at m o c xs ≡ Err (At at k) → value_at m o c (xs ++ ys) ≡ Err (At at k)
unfolding value_at
value_stays m o c [] ys at k e = absurd cc
value_stays m o c (len ∷ rest) ys at k e = go (ltb m (len + 2)) (ltb (length rest) len) e
  where
    found : List ℕ → Result (ℕ × List ℕ × List ℕ) Stop
    found t = Ok (c, take len t, drop len t)

    go : (b d : Bool) → cond b (Err (At o kinds.Content)) (cond d (Err Short) (found rest)) ≡ Err (At at k)
        → cond b (Err (At o kinds.Content)) (cond (ltb (length (rest ++ ys)) len) (Err Short) (found (rest ++ ys))) ≡ Err (At at k)
    go true d f = cc
    go false true f = absurd cc
    go false false f = absurd cc

parameter_stays : (m o : ℕ) (xs ys : List ℕ) (at : ℕ) (k : Kind) → parameter_at m o xs ≡ Err (At at k) → parameter_at m o (xs ++ ys) ≡ Err (At at k)
unfolding parameter_at
parameter_stays m o [] ys at k e = absurd cc
parameter_stays m o (code ∷ rest) ys at k e = go (m == 1) e
  where
    go : (b : Bool) → cond b (Err (At o kinds.Content)) (value_at m o code rest) ≡ Err (At at k) → cond b (Err (At o kinds.Content)) (value_at m o code (rest ++ ys)) ≡ Err (At at k)
    go true f = f
    go false f = value_stays m o code rest ys at k f

parameter_again : (m o : ℕ) (xs ys : List ℕ) (p : ℕ × List ℕ × List ℕ) → parameter_at m o xs ≡ Ok p → parameter_at m o (xs ++ ys) ≡ Ok (p.0, p.1, p.2 ++ ys)
parameter_again m o xs ys p e =
    let f = one_found m o xs p e in
    ap (λ (t : List ℕ). parameter_at m o (t ++ ys)) f.0 ∙ ap (parameter_at m o) (append_assoc (parameter (p.0, p.1)) p.2 ys) ∙ one_again m o p.0 p.1 (p.2 ++ ys) f.1

abbrev behind : ℕ → ℕ → ℕ → Seen → ℕ × List ℕ × List ℕ → Result Seen Stop
behind fuel left o seen p = with_parameter o seen p.0 p.1 >>= λ next. parameters_at fuel (left - (length p.1 + 2)) (o + (length p.1 + 2)) next p.2

next_same : (r : Result Seen Stop) (f g : Seen → Result Seen Stop) → ((next : Seen) → Same (f next) (g next)) → Same (r >>= f) (r >>= g)
next_same (Ok next) f g e = e next
next_same (Err s) f g e = inr refl

one_same : (fuel left o : ℕ) (seen : Seen) (xs ys : List ℕ) (r : Result (ℕ × List ℕ × List ℕ) Stop)
    → ((m at : ℕ) (next : Seen) (t : List ℕ) → Same (parameters_at fuel m at next t) (parameters_at fuel m at next (t ++ ys)))
    → parameter_at left o xs ≡ r → Same (r >>= behind fuel left o seen) (parameter_at left o (xs ++ ys) >>= behind fuel left o seen)
one_same fuel left o seen xs ys (Err Short) ih e = inl refl
one_same fuel left o seen xs ys (Err (At at k)) ih e = inr (ap (λ r. r >>= behind fuel left o seen) (parameter_stays left o xs ys at k e))
one_same fuel left o seen xs ys (Ok p) ih e =
    subst (λ r. Same (behind fuel left o seen p) (r >>= behind fuel left o seen)) (sym (parameter_again left o xs ys p e))
    (next_same (with_parameter o seen p.0 p.1) _ _ (λ next. ih (left - (length p.1 + 2)) (o + (length p.1 + 2)) next p.2))

parameters_same : (fuel left o : ℕ) (seen : Seen) (xs ys : List ℕ) → Same (parameters_at fuel left o seen xs) (parameters_at fuel left o seen (xs ++ ys))
unfolding parameters_at
parameters_same fuel zero o seen xs ys = inr refl
parameters_same zero (suc left) o seen xs ys = inr refl
parameters_same (suc fuel) (suc left) o seen xs ys = one_same fuel (suc left) o seen xs ys (parameter_at (suc left) o xs) (λ m at next t. parameters_same fuel m at next t ys) refl

ends_same : (li : ℕ) (xs ys : List ℕ) → Same (ends_at li xs) (ends_at li (xs ++ ys))
unfolding ends_at
ends_same li [] ys = inl refl
ends_same li (a ∷ []) ys = inl refl
ends_same li (a ∷ b ∷ []) ys = inl refl
ends_same li (a ∷ b ∷ c ∷ []) ys = inl refl
ends_same li (a ∷ b ∷ c ∷ d ∷ []) ys = inl refl
ends_same li (a ∷ b ∷ c ∷ d ∷ class ∷ rest) ys =
    same_cond (class == 0) _ (Err (At 10 kinds.Content)) _ (Err (At 10 kinds.Content)) (same_bind (parameters_at (li - 6) (li - 6) 11 nothing_seen rest) (parameters_at (li - 6) (li - 6) 11 nothing_seen (rest ++ ys)) _ (parameters_same (li - 6) (li - 6) 11 nothing_seen rest ys)) (inr refl)

passed_same : (count : ℕ) (p : Packet) (xs ys : List ℕ) → Same (passed_at count p xs) (passed_at count p (xs ++ ys))
passed_same count p xs ys = go (ltb (length xs) count) refl
  where
    go : (b : Bool) → ltb (length xs) count ≡ b → Same (cond b (Err Short) (Ok (Control p))) (passed_at count p (xs ++ ys))
    go true e = inl refl
    go false e = inr (let n : count ≤ length xs = ltb-false _ _ e in let f : ltb (length (xs ++ ys)) count ≡ false = le-ltb _ _ (omega (arith, length-append xs ys)) in rw f refl)

mark_same : (left : ℕ) (xs ys : List ℕ) → Same (mark_at left xs) (mark_at left (xs ++ ys))
mark_same left [] ys = inl refl
mark_same left (m ∷ xs) ys = inr refl

data_same : (begun left : ℕ) (xs ys : List ℕ) → Same (data_at begun left xs) (data_at begun left (xs ++ ys))
unfolding data_at
data_same begun left xs ys = same_cond (ltb tsdu_limit (begun + left)) (Err (At 5 kinds.Length)) _ (Err (At 5 kinds.Length)) _ (inr refl) (mark_same left xs ys)

code_same : (begun room li : ℕ) (xs ys : List ℕ) → Same (code_at begun room li xs) (code_at begun room li (xs ++ ys))
unfolding code_at
code_same begun room li [] ys = inl refl
code_same begun room li (code ∷ rest) ys =
    let bad : Result Header Stop = Err (At 4 kinds.Length) in
    same_cond (code == 240) _ _ _ _ (same_cond (li == 2) _ bad _ bad (data_same begun (room - 2) rest ys) (inr refl))
    (same_cond (code == 224) _ _ _ _ (same_cond (fills room li 6) _ bad _ bad (same_bind (ends_at li rest) (ends_at li (rest ++ ys)) _ (ends_same li rest ys)) (inr refl))
    (same_cond (code == 208) _ _ _ _ (same_cond (fills room li 6) _ bad _ bad (same_bind (ends_at li rest) (ends_at li (rest ++ ys)) _ (ends_same li rest ys)) (inr refl))
    (same_cond (code == 128) _ _ _ _ (same_cond (fills room li 6) _ bad _ bad (passed_same (li - 1) Disconnect rest ys) (inr refl))
    (same_cond (code == 112) _ _ _ _ (same_cond (fills room li 1) _ bad _ bad (passed_same (li - 1) Problem rest ys) (inr refl)) (inr refl)))))

indicator_same : (begun room : ℕ) (xs ys : List ℕ) → Same (indicator_at begun room xs) (indicator_at begun room (xs ++ ys))
unfolding indicator_at
indicator_same begun room [] ys = inl refl
indicator_same begun room (li ∷ rest) ys = same_cond (li == 0 || nat_le 255 li || ltb room li) (Err (At 4 kinds.Length)) _ (Err (At 4 kinds.Length)) _ (inr refl) (code_same begun room li rest ys)

length_same : (begun : ℕ) (xs ys : List ℕ) → Same (length_at begun xs) (length_at begun (xs ++ ys))
unfolding length_at
length_same begun [] ys = inl refl
length_same begun (h ∷ []) ys = inl refl
length_same begun (h ∷ l ∷ rest) ys = same_cond (ltb (256 * h + l) 7) (Err (At 2 kinds.Length)) _ (Err (At 2 kinds.Length)) _ (inr refl) (indicator_same begun (256 * h + l - 5) rest ys)

header_same : (begun : ℕ) (xs ys : List ℕ) → Same (header_at begun xs) (header_at begun (xs ++ ys))
unfolding header_at
header_same begun [] ys = inl refl
header_same begun (v ∷ []) ys = inl refl
header_same begun (v ∷ r ∷ rest) ys = same_cond (v == 3 && r == 0) _ (Err (At 0 kinds.Tag)) _ (Err (At 0 kinds.Tag)) (length_same begun rest ys) (inr refl)

pub fault_stays : (begun : ℕ) (xs ys : List ℕ) (o : ℕ) (k : Kind) → header_at begun xs ≡ Err (At o k) → header_at begun (xs ++ ys) ≡ Err (At o k)
fault_stays begun xs ys o k e = stands (header_at begun xs) (header_at begun (xs ++ ys)) (Err (At o k)) (header_same begun xs ys) e (λ f. cc)

pub header_stays : (begun : ℕ) (xs ys : List ℕ) (h : Header) → header_at begun xs ≡ Ok h → header_at begun (xs ++ ys) ≡ Ok h
header_stays begun xs ys h e = stands (header_at begun xs) (header_at begun (xs ++ ys)) (Ok h) (header_same begun xs ys) e (λ f. cc)
