-- How far a loop over a text has come before it stops.
use Rattle.std.proofs.Common.{◌≡◌, ℕ, ◌+◌, ◌<◌, ◌≤◌, Bool, true, false, List, ◌∷◌, length, drop, get_or, refl, arith, drop-cons, add-one}
use Rattle.std.proofs.Math.ListN.{drop_of_length-le}
use Rattle.value_reading.specs.Words.{len_until}

dropped : (text : List ℕ) (i : ℕ) → i < length text → drop i text ≡ get_or text i 0 ∷ drop (i + 1) text
dropped text i h = rw (add-one, drop-cons text i 0) refl

pub goes_on : (stops : ℕ → Bool) (text : List ℕ) (i : ℕ) → i < length text → stops (get_or text i 0) ≡ false
    → i + len_until stops (drop i text) ≡ (i + 1) + len_until stops (drop (i + 1) text)
goes_on stops text i h e = rw (dropped text i h, e) (omega arith)

pub stops_here : (stops : ℕ → Bool) (text : List ℕ) (i : ℕ) → i < length text → stops (get_or text i 0) ≡ true
    → i + len_until stops (drop i text) ≡ i
stops_here stops text i h e = rw (dropped text i h, e) (omega arith)

pub ends : (stops : ℕ → Bool) (text : List ℕ) (i : ℕ) → length text ≤ i → i + len_until stops (drop i text) ≡ i
ends stops text i h = rw (drop_of_length-le text h) (omega arith)
