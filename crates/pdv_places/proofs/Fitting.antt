-- Lists of values with their places.
use Rattle.std.proofs.Common.{◌≡◌, ℕ, zero, suc, ◌+◌, ◌-◌, ◌<◌, ◌≤◌, Bool, true, false, List, [], ◌∷◌, ◌++◌, map, length, drop, get_or, Result, Ok, Err, nat_eq, if◌then◌else◌, refl, ap, ◌∙◌, sym, append_assoc, arith, add-one}
use Rattle.std.specs.Prelude.{slice_index, is_ok}
use Rattle.std.specs.List.{flat_map}
use Rattle.ber_spelling.specs.Reading as spots
use Rattle.association_reading.specs.Places as reading
use Rattle.pdv_places.specs.declared.spots.Spot.{Spot}
use Rattle.pdv_places.specs.Seen.{spot_of, is_done, HasSmallPlaces, HaveSmallPlaces, places_at}

-- the place of the last, or else this one
abbrev pub last_or : ℕ → List spots.Spot → ℕ
last_or n [] = n
last_or n (s ∷ ss) = last_or s.place ss

last_spot : (n : ℕ) (s : spots.Spot) (ss : List spots.Spot) → last_or n (s ∷ ss) ≡ reading.last_start (s ∷ ss)
last_spot n s [] = refl
last_spot n s (t ∷ ss) = last_spot s.place t ss

pub last_is : (ss : List spots.Spot) → last_or 0 ss ≡ reading.last_start ss
last_is [] = refl
last_is (s ∷ ss) = last_spot 0 s ss

pub fit_on : (xs : List Spot) (x : Spot) → HaveSmallPlaces xs → HasSmallPlaces x → HaveSmallPlaces (xs ++ x ∷ [])
fit_on [] x all one = (one, tt)
fit_on (y ∷ xs) x all one = (all.0, fit_on xs x all.1 one)

pub fit_first : (xs : List Spot) (i : ℕ) (d : Spot) → i < length xs → HaveSmallPlaces (drop i xs) → HasSmallPlaces (get_or xs i d)
fit_first [] i d lt all = absurd (omega arith)
fit_first (x ∷ xs) zero d lt all = all.0
fit_first (x ∷ xs) (suc i) d lt all = fit_first xs i d (omega (arith, lt)) all

fit_behind : (xs : List Spot) (i : ℕ) → HaveSmallPlaces (drop i xs) → HaveSmallPlaces (drop (suc i) xs)
fit_behind [] zero all = tt
fit_behind [] (suc i) all = tt
fit_behind (x ∷ xs) zero all = all.1
fit_behind (x ∷ xs) (suc i) all = fit_behind xs i all

pub fit_rest : (xs : List Spot) (i : ℕ) → HaveSmallPlaces (drop i xs) → HaveSmallPlaces (drop (i + 1) xs)
fit_rest xs i all = rw add-one (fit_behind xs i all)

pub fits_at : (xs : List Spot) (i : ℕ) (d : Spot) → i < length xs → HaveSmallPlaces xs → HasSmallPlaces (get_or xs i d)
fits_at [] i d lt all = absurd (omega arith)
fits_at (x ∷ xs) zero d lt all = all.0
fits_at (x ∷ xs) (suc i) d lt all = fits_at xs i d (omega (arith, lt)) all.1

pub at_there : (xs : List Spot) (i : ℕ) (d : Spot) → i < length xs → places_at i (map reading.places_of (map spot_of xs)) ≡ reading.places_of (spot_of (get_or xs i d))
at_there [] i d lt = absurd (omega arith)
at_there (x ∷ xs) zero d lt = refl
at_there (x ∷ xs) (suc i) d lt = at_there xs i d (omega (arith, lt))

pub at_gone : (xs : List Spot) (i : ℕ) → length xs ≤ i → places_at i (map reading.places_of (map spot_of xs)) ≡ record { name = 0; identifier = 0; form = 0 }
at_gone [] zero le = refl
at_gone [] (suc i) le = refl
at_gone (x ∷ xs) zero le = absurd (omega arith)
at_gone (x ∷ xs) (suc i) le = at_gone xs i (omega (arith, le))

pub until_done : (k left : ℕ) (s : spots.Spot) → is_done left s ≡ true → reading.values_until k left s ≡ []
until_done zero left s e = refl
until_done (suc k) left s e = rw e refl

pub until_more : (k left : ℕ) (s : spots.Spot) → 0 < k → is_done left s ≡ false → reading.values_until k left s ≡ s ∷ reading.values_until (k - 1) left (reading.behind_value s)
until_more zero left s some e = absurd (omega arith)
until_more (suc k) left s some e =
    let less : k ≡ suc k - 1 = omega arith in
    rw e (ap (λ (n : ℕ). s ∷ reading.values_until n left (reading.behind_value s)) less)

pub map_on : (xs : List Spot) (x : Spot) → map spot_of (xs ++ x ∷ []) ≡ map spot_of xs ++ spot_of x ∷ []
map_on [] x = refl
map_on (y ∷ xs) x = ap (λ (ss : List spots.Spot). spot_of y ∷ ss) (map_on xs x)

-- ---- steps of loops

pub taken : {X E : Type 0} (r : Result X E) (u : X) (new old : List Spot) (x : Spot) → r ≡ Ok u → new ≡ (if is_ok r then old ++ x ∷ [] else old) → new ≡ old ++ x ∷ []
taken (Ok v) u new old x was e = e
taken (Err f) u new old x was e = absurd cc

drop_at : (xs : List Spot) (i : ℕ) (d : Spot) → i < length xs → drop i xs ≡ get_or xs i d ∷ drop (suc i) xs
drop_at [] i d lt = absurd (omega arith)
drop_at (x ∷ xs) zero d lt = refl
drop_at (x ∷ xs) (suc i) d lt = drop_at xs i d (omega (arith, lt))

spots_at : (xs : List Spot) (i : ℕ) (d : Spot) → i < length xs → map spot_of (drop i xs) ≡ spot_of (get_or xs i d) ∷ map spot_of (drop (i + 1) xs)
spots_at xs i d lt = rw add-one (ap (map spot_of) (drop_at xs i d lt))

pub all_step : (xs : List Spot) (i : ℕ) (d : Spot) (old new : List Spot) (total : List spots.Spot) → i < length xs → new ≡ old ++ get_or xs i d ∷ [] → map spot_of old ++ map spot_of (drop i xs) ≡ total → map spot_of new ++ map spot_of (drop (i + 1) xs) ≡ total
all_step xs i d old new total lt e rest =
    ap (λ (ys : List Spot). map spot_of ys ++ map spot_of (drop (i + 1) xs)) e
    ∙ ap (λ (ss : List spots.Spot). ss ++ map spot_of (drop (i + 1) xs)) (map_on old (get_or xs i d))
    ∙ append_assoc (map spot_of old) (spot_of (get_or xs i d) ∷ []) (map spot_of (drop (i + 1) xs))
    ∙ ap (λ (ss : List spots.Spot). map spot_of old ++ ss) (sym (spots_at xs i d lt))
    ∙ rest

begin_cons : (first : ℕ) (s : spots.Spot) (ss : List spots.Spot) → reading.beginning_with first (s ∷ []) ++ reading.beginning_with first ss ≡ reading.beginning_with first (s ∷ ss)
begin_cons first s ss = by (nat_eq (slice_index s.rest 0) first) refl
  where
    by : (b : Bool) → nat_eq (slice_index s.rest 0) first ≡ b → reading.beginning_with first (s ∷ []) ++ reading.beginning_with first ss ≡ reading.beginning_with first (s ∷ ss)
    by true e = rw e refl
    by false e = rw e refl

pub begin_step : (first : ℕ) (xs : List Spot) (i : ℕ) (d : Spot) (old new : List Spot) (total : List spots.Spot) → i < length xs
    → map spot_of new ≡ map spot_of old ++ reading.beginning_with first (spot_of (get_or xs i d) ∷ []) → map spot_of old ++ reading.beginning_with first (map spot_of (drop i xs)) ≡ total
    → map spot_of new ++ reading.beginning_with first (map spot_of (drop (i + 1) xs)) ≡ total
begin_step first xs i d old new total lt e rest =
    ap (λ (ss : List spots.Spot). ss ++ reading.beginning_with first (map spot_of (drop (i + 1) xs))) e
    ∙ append_assoc (map spot_of old) (reading.beginning_with first (spot_of (get_or xs i d) ∷ [])) (reading.beginning_with first (map spot_of (drop (i + 1) xs)))
    ∙ ap (λ (ss : List spots.Spot). map spot_of old ++ ss) (begin_cons first (spot_of (get_or xs i d)) (map spot_of (drop (i + 1) xs)))
    ∙ ap (λ (ss : List spots.Spot). map spot_of old ++ reading.beginning_with first ss) (sym (spots_at xs i d lt))
    ∙ rest

pub flat_step : (f : spots.Spot → List spots.Spot) (xs : List Spot) (i : ℕ) (d : Spot) (old new : List Spot) (total : List spots.Spot) → i < length xs
    → map spot_of new ≡ map spot_of old ++ f (spot_of (get_or xs i d)) → map spot_of old ++ flat_map f (map spot_of (drop i xs)) ≡ total → map spot_of new ++ flat_map f (map spot_of (drop (i + 1) xs)) ≡ total
flat_step f xs i d old new total lt e rest =
    ap (λ (ss : List spots.Spot). ss ++ flat_map f (map spot_of (drop (i + 1) xs))) e
    ∙ append_assoc (map spot_of old) (f (spot_of (get_or xs i d))) (flat_map f (map spot_of (drop (i + 1) xs)))
    ∙ ap (λ (ss : List spots.Spot). map spot_of old ++ flat_map f ss) (sym (spots_at xs i d lt))
    ∙ rest
