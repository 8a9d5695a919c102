-- Writing from the last octet to the first.
use Rattle.std.proofs.Common.{◌≡◌, ℕ, ◌+◌, ◌-◌, ◌/◌, ◌%◌, ◌<◌, ◌≤◌, List, [], ◌∷◌, ◌++◌, sym, ap, ◌∙◌, arith, append_assoc}
use Rattle.std.proofs.lemmas.List.{map-append}
use Rattle.asn1_types.specs.Writing.{high_digits, base_128, digits_256, base_256, natural_octets}
use Rattle.ber_spelling.proofs.Digits.{high_step, high_append, low_step, low_append, nat_step, nat_append, nat_last}
use Rattle.ber_spelling.proofs.WrittenFields.{turned}

pub high_begin : (n : ℕ) (old new : List ℕ) → new ≡ (n % 128) ∷ old → high_digits (n / 128) (n / 128) new ≡ base_128 n ++ old
unfolding base_128
high_begin n old new e = ap (high_digits (n / 128) (n / 128)) e ∙ high_append (n / 128) (n / 128) ((n % 128) ∷ []) old

pub high_put : (n : ℕ) (b new whole : List ℕ) → 0 < n → new ≡ (128 + n % 128) ∷ b → high_digits n n b ≡ whole → high_digits (n / 128) (n / 128) new ≡ whole
high_put n b new whole lt e h = ap (high_digits (n / 128) (n / 128)) e ∙ high_step n b lt ∙ h

pub low_begin : (n : ℕ) (old : List ℕ) → digits_256 n n old ≡ base_256 n ++ old
unfolding base_256
low_begin n old = low_append n n [] old

pub low_put : (n : ℕ) (b new whole : List ℕ) → 0 < n → new ≡ (n % 256) ∷ b → digits_256 n n b ≡ whole → digits_256 (n / 256) (n / 256) new ≡ whole
low_put n b new whole lt e h = ap (digits_256 (n / 256) (n / 256)) e ∙ low_step n b lt ∙ h

pub nat_begin : (n : ℕ) (old : List ℕ) → natural_octets n n old ≡ natural_octets n n [] ++ old
nat_begin n old = nat_append n n [] old (omega arith)

pub nat_put : (n : ℕ) (b new whole : List ℕ) → 128 ≤ n → new ≡ (n % 256) ∷ b → natural_octets n n b ≡ whole → natural_octets (n / 256) (n / 256) new ≡ whole
nat_put n b new whole le e h = ap (natural_octets (n / 256) (n / 256)) e ∙ nat_step n b le ∙ h

nat_parts : (n : ℕ) → 128 ≤ n → natural_octets n n [] ≡ natural_octets (n / 256) (n / 256) [] ++ (n % 256) ∷ []
nat_parts n le = sym (nat_step n [] le) ∙ nat_append (n / 256) (n / 256) [] ((n % 256) ∷ []) (omega arith)

pub turned_put : (n : ℕ) (b new whole : List ℕ) → 128 ≤ n → new ≡ (255 - n % 256) ∷ b → turned (natural_octets n n []) ++ b ≡ whole → turned (natural_octets (n / 256) (n / 256) []) ++ new ≡ whole
turned_put n b new whole le e h =
    let front : List ℕ = natural_octets (n / 256) (n / 256) [] in
    let both : turned (natural_octets n n []) ≡ turned front ++ (255 - n % 256) ∷ [] = ap turned (nat_parts n le) ∙ map-append (λ octet. 255 - octet) front ((n % 256) ∷ []) in
    ap (λ (x : List ℕ). turned front ++ x) e ∙ sym (append_assoc (turned front) ((255 - n % 256) ∷ []) b) ∙ ap (λ (x : List ℕ). x ++ b) (sym both) ∙ h

pub turned_end : (n : ℕ) (b new whole : List ℕ) → n < 128 → turned (natural_octets n n []) ++ b ≡ whole → new ≡ (255 - n) ∷ b → new ≡ whole
turned_end n b new whole lt h e = e ∙ ap (λ (x : List ℕ). turned x ++ b) (sym (nat_last n [] lt)) ∙ h
