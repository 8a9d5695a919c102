-- The last bits of a bit string.
use Rattle.std.proofs.Common.{◌≡◌, ℕ, ◌<◌, ◌≤◌, List, [], ◌∷◌, length, take, drop, Some, refl, arith, ◌+◌, ◌-◌, drop-drop}
use Rattle.std.proofs.Math.ListN.{drop_of_length-le, length-drop}
use Rattle.value_reading.specs.Forms.{then_octet, octet_of_bits, bit_octets}

-- fewer than eight bits are the last octet
pub bits_last : (octets rest : List ℕ) → 0 < length rest → length rest < 8 → bit_octets octets rest ≡ then_octet (λ done. Some done) octets (octet_of_bits rest)
bits_last octets [] some few = absurd (omega arith)
bits_last octets (a ∷ []) some few = refl
bits_last octets (a ∷ b ∷ []) some few = refl
bits_last octets (a ∷ b ∷ c ∷ []) some few = refl
bits_last octets (a ∷ b ∷ c ∷ d ∷ []) some few = refl
bits_last octets (a ∷ b ∷ c ∷ d ∷ e ∷ []) some few = refl
bits_last octets (a ∷ b ∷ c ∷ d ∷ e ∷ f ∷ []) some few = refl
bits_last octets (a ∷ b ∷ c ∷ d ∷ e ∷ f ∷ g ∷ []) some few = refl
bits_last octets (a ∷ b ∷ c ∷ d ∷ e ∷ f ∷ g ∷ h ∷ rest) some few = absurd (omega arith)

-- eight bits are an octet, and more may follow
pub bits_more : (octets rest : List ℕ) → 8 ≤ length rest
    → bit_octets octets rest ≡ then_octet (λ done. bit_octets done (drop 8 rest)) octets (octet_of_bits (take 8 rest))
bits_more octets [] many = absurd (omega arith)
bits_more octets (a ∷ []) many = absurd (omega arith)
bits_more octets (a ∷ b ∷ []) many = absurd (omega arith)
bits_more octets (a ∷ b ∷ c ∷ []) many = absurd (omega arith)
bits_more octets (a ∷ b ∷ c ∷ d ∷ []) many = absurd (omega arith)
bits_more octets (a ∷ b ∷ c ∷ d ∷ e ∷ []) many = absurd (omega arith)
bits_more octets (a ∷ b ∷ c ∷ d ∷ e ∷ f ∷ []) many = absurd (omega arith)
bits_more octets (a ∷ b ∷ c ∷ d ∷ e ∷ f ∷ g ∷ []) many = absurd (omega arith)
bits_more octets (a ∷ b ∷ c ∷ d ∷ e ∷ f ∷ g ∷ h ∷ rest) many = refl

pub bits_end : (octets digits : List ℕ) (place : ℕ) → length digits ≤ place → bit_octets octets (drop place digits) ≡ Some octets
bits_end octets digits place h = rw (drop_of_length-le digits h) refl

pub bits_last_at : (octets digits : List ℕ) (place : ℕ) → place < length digits → length digits - place < 8
    → bit_octets octets (drop place digits) ≡ then_octet (λ done. Some done) octets (octet_of_bits (drop place digits))
bits_last_at octets digits place some few =
    bits_last octets (drop place digits) (simp length-drop (omega arith)) (simp length-drop (omega arith))

pub bits_more_at : (octets digits : List ℕ) (place : ℕ) → 8 ≤ length digits - place
    → bit_octets octets (drop place digits) ≡ then_octet (λ done. bit_octets done (drop (place + 8) digits)) octets (octet_of_bits (take 8 (drop place digits)))
bits_more_at octets digits place many =
    rw (bits_more octets (drop place digits) (simp length-drop (omega arith))) (simp drop-drop)
