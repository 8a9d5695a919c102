-- Digits that are read two by two.
use Rattle.std.proofs.Common.{◌≡◌, ℕ, ◌+◌, ◌-◌, ◌<◌, ◌≤◌, List, ◌∷◌, length, drop, get_or, None, Some, refl, arith, drop-cons, add-one}
use Rattle.std.proofs.Math.ListN.{drop_of_length-le}
use Rattle.osi_base.specs.Hexadecimal.{octet_of}
use Rattle.value_reading.specs.Forms.{then_octet, octets_of}

pub dropped : (text : List ℕ) (i : ℕ) → i < length text → drop i text ≡ get_or text i 0 ∷ drop (i + 1) text
dropped text i h = rw (add-one, drop-cons text i 0) refl

pub dropped_two : (text : List ℕ) (i : ℕ) → i + 1 < length text → drop i text ≡ get_or text i 0 ∷ get_or text (i + 1) 0 ∷ drop (i + 2) text
dropped_two text i h = let e : i + 2 ≡ i + 1 + 1 = omega arith in rw (e, dropped text i (omega arith), dropped text (i + 1) h) refl

pub octets_end : (done digits : List ℕ) (place : ℕ) → length digits ≤ place → octets_of done (drop place digits) ≡ Some done
octets_end done digits place h = rw (drop_of_length-le digits h) refl

pub octets_one : (done digits : List ℕ) (place : ℕ) → place < length digits → length digits - place < 2 → octets_of done (drop place digits) ≡ None
octets_one done digits place h few =
    let past : length digits ≤ place + 1 = omega arith in
    rw (dropped digits place h, drop_of_length-le digits past) refl

pub octets_more : (done digits : List ℕ) (place : ℕ) → 2 ≤ length digits - place
    → octets_of done (drop place digits)
    ≡ then_octet (λ read. octets_of read (drop (place + 2) digits)) done (octet_of (get_or digits place 0) (get_or digits (place + 1) 0))
octets_more done digits place h = rw (dropped_two digits place (omega arith)) refl
