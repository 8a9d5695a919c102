-- Lists that are printed one element after the other.
use Rattle.std.proofs.Common.{◌≡◌, ℕ, ◌+◌, ◌-◌, ◌<◌, ◌≤◌, List, [], ◌∷◌, ◌++◌, length, take, drop, length-drop, get_or, refl, sym, append-nil, add-one, drop-cons, arith}
use Rattle.std.proofs.Math.ListN.{drop_of_length-le}
use Rattle.value_text.specs.Values.{octet_bits, bits_of}

dropped : (octets : List ℕ) (i : ℕ) → i < length octets → drop i octets ≡ get_or octets i 0 ∷ drop (i + 1) octets
dropped octets i h = rw (add-one, drop-cons octets i 0) refl

pub bits_last : (octets : List ℕ) (unused i : ℕ) → i < length octets → length octets ≤ i + 1
    → bits_of (drop i octets) unused ≡ take (8 - unused) (octet_bits (get_or octets i 0)) ++ bits_of (drop (i + 1) octets) unused
bits_last octets unused i h last = rw (dropped octets i h) (rw (drop_of_length-le octets last) (sym (append-nil _)))

more_step : (octet unused : ℕ) (octets : List ℕ) → 0 < length octets → bits_of (octet ∷ octets) unused ≡ octet_bits octet ++ bits_of octets unused
more_step octet unused [] h = absurd (omega arith)
more_step octet unused (next ∷ more) h = refl

pub bits_more : (octets : List ℕ) (unused i : ℕ) → i + 1 < length octets
    → bits_of (drop i octets) unused ≡ octet_bits (get_or octets i 0) ++ bits_of (drop (i + 1) octets) unused
bits_more octets unused i h =
    let within : i < length octets = omega arith in
    rw (dropped octets i within) (more_step (get_or octets i 0) unused (drop (i + 1) octets) (rw (length-drop (i + 1) octets) (omega arith)))

pub bits_end : (octets : List ℕ) (unused i : ℕ) → length octets ≤ i → bits_of (drop i octets) unused ≡ []
bits_end octets unused i h = rw (drop_of_length-le octets h) refl
