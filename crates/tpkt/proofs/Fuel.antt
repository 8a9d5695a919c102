-- Reading parameters doesn't depend on the fuel, as long as there is enough.
use Rattle.std.proofs.Common.{◌≡◌, ℕ, zero, suc, ◌+◌, ◌-◌, ◌<◌, ◌≤◌, ◌==◌, List, [], ◌∷◌, length, take, drop, cond, ltb, Result, Ok, Err, refl, sym, ap, ◌∙◌, arith}
use Rattle.std.proofs.lemmas.Bool.{ltb-false}
use Rattle.std.proofs.lemmas.List.{length-take}
use Rattle.osi_base.specs.declared.layer_words.Kind.TheVariants as kinds
use Rattle.tpkt.specs.declared.header_stops.Stop.TheVariants.{Short, At}
use Rattle.tpkt.specs.declared.header_stops.Halt.{Halt}
use Rattle.tpkt.specs.declared.header_stops.Halt.TheVariants as halts
use Rattle.tpkt.proofs.Results.{ok_is, refused}
use Rattle.tpkt.specs.declared.parameters.Seen.{Seen}
use Rattle.tpkt.specs.declared.header_stops.Stop.{Stop}
use Rattle.tpkt.specs.Header.{◌>>=◌, FailsWith, with_parameter, value_at, parameter_at, parameters_at}

bind_same : {A B : Type 0} (r : Result A Stop) (f g : A → Result B Stop) → ((x : A) → f x ≡ g x) → (r >>= f) ≡ (r >>= g)
bind_same (Ok x) f g e = e x
bind_same (Err s) f g e = refl

pub any_fuel : (f g left offset : ℕ) (seen : Seen) (octets : List ℕ) → left ≤ f → left ≤ g → parameters_at f left offset seen octets ≡ parameters_at g left offset seen octets
unfolding parameters_at
any_fuel f g zero offset seen octets p q = refl
any_fuel zero g (suc left) offset seen octets p q = absurd (omega arith)
any_fuel (suc f) zero (suc left) offset seen octets p q = absurd (omega arith)
any_fuel (suc f) (suc g) (suc left) offset seen octets p q =
    bind_same (parameter_at (suc left) offset octets) _ _ (λ x.
    bind_same (with_parameter offset seen x.0 x.1) _ _ (λ next.
    any_fuel f g (suc left - (length x.1 + 2)) (offset + (length x.1 + 2)) next x.2 (omega arith) (omega arith)))

-- a value that is read lies within what is left of the header
pub in_room : (m o c : ℕ) (xs : List ℕ) (p : ℕ × List ℕ × List ℕ) → value_at m o c xs ≡ Ok p → length p.1 + 2 ≤ m
unfolding value_at
in_room m o c [] p e = absurd cc
in_room m o c (len ∷ rest) p e =
    let a = refused (ltb m (len + 2)) (At o kinds.Content) (cond (ltb (length rest) len) (Err Short) (Ok (c, take len rest, drop len rest))) p e in
    let b = refused (ltb (length rest) len) Short (Ok (c, take len rest, drop len rest)) p a.1 in
    let within : len + 2 ≤ m = ltb-false _ _ a.0 in
    let there : len ≤ length rest = ltb-false _ _ b.0 in
    let value : take len rest ≡ p.1 = ap (λ (q : ℕ × List ℕ × List ℕ). q.1) (ok_is _ _ b.1) in
    rw (← value) (omega (arith, length-take len rest))

pub takes_room : (m o : ℕ) (xs : List ℕ) (p : ℕ × List ℕ × List ℕ) → parameter_at m o xs ≡ Ok p → length p.1 + 2 ≤ m
unfolding parameter_at
takes_room m o [] p e = absurd cc
takes_room m o (code ∷ rest) p e = in_room m o code rest p (refused (m == 1) (At o kinds.Content) (value_at m o code rest) p e).1

pub goes_on : (m o : ℕ) (seen next : Seen) (xs : List ℕ) (p : ℕ × List ℕ × List ℕ) → 0 < m → parameter_at m o xs ≡ Ok p → with_parameter o seen p.0 p.1 ≡ Ok next
    → parameters_at m m o seen xs ≡ parameters_at (m - (length p.1 + 2)) (m - (length p.1 + 2)) (o + (length p.1 + 2)) next p.2
unfolding parameters_at
goes_on zero o seen next xs p lt e h = absurd (omega arith)
goes_on (suc m) o seen next xs p lt e h = rw (e, h) (any_fuel m (suc m - (length p.1 + 2)) (suc m - (length p.1 + 2)) (o + (length p.1 + 2)) next p.2 (omega arith) (omega arith))

pub stops_at : (m o : ℕ) (seen : Seen) (xs : List ℕ) (s : Stop) → 0 < m → parameter_at m o xs ≡ Err s → parameters_at m m o seen xs ≡ Err s
unfolding parameters_at
stops_at zero o seen xs s lt e = absurd (omega arith)
stops_at (suc m) o seen xs s lt e = rw e refl

pub stops_in : (m o : ℕ) (seen : Seen) (xs : List ℕ) (p : ℕ × List ℕ × List ℕ) (s : Stop) → 0 < m → parameter_at m o xs ≡ Ok p → with_parameter o seen p.0 p.1 ≡ Err s → parameters_at m m o seen xs ≡ Err s
unfolding parameters_at
stops_in zero o seen xs p s lt e h = absurd (omega arith)
stops_in (suc m) o seen xs p s lt e h = rw (e, h) refl

pub none_left : (m o : ℕ) (seen : Seen) (xs : List ℕ) → m ≡ 0 → parameters_at m m o seen xs ≡ Ok seen
unfolding parameters_at
none_left zero o seen xs e = refl
none_left (suc m) o seen xs e = absurd (omega arith)

-- a failing step of the loop fails the whole
pub fails_at : (e : Halt) (m o : ℕ) (seen : Seen) (xs : List ℕ) (total : Result Seen Stop) → 0 < m → FailsWith e (parameter_at m o xs) → parameters_at m m o seen xs ≡ total → FailsWith e total
fails_at halts.Memory m o seen xs total lt h so_far = tt
fails_at (halts.Stop s) m o seen xs total lt h so_far = sym so_far ∙ stops_at m o seen xs s lt h

pub fails_in : (e : Halt) (m o : ℕ) (seen : Seen) (xs : List ℕ) (p : ℕ × List ℕ × List ℕ) (total : Result Seen Stop) → 0 < m → parameter_at m o xs ≡ Ok p → FailsWith e (with_parameter o seen p.0 p.1)
    → parameters_at m m o seen xs ≡ total → FailsWith e total
fails_in halts.Memory m o seen xs p total lt g h so_far = tt
fails_in (halts.Stop s) m o seen xs p total lt g h so_far = sym so_far ∙ stops_in m o seen xs p s lt g h
