-- The octets of identifier and length, and those behind them.
use Rattle.std.proofs.Common.{◌≡◌, ℕ, ◌+◌, ◌-◌, ◌<◌, ◌≤◌, Bool, true, false, cond, List, [], ◌∷◌, ◌++◌, length, drop, get_or, refl, sym, ap, ◌∙◌, append_assoc}
use Rattle.std.specs.Prelude.{nat_lt}
use Rattle.std.proofs.lemmas.List.{get_or_append_left, get_or-append_right}
use Rattle.asn1_types.specs.declared.row.Class.{Class}
use Rattle.asn1_types.specs.declared.row.Tag as tags
use Rattle.asn1_types.specs.Tags.{leading}
use Rattle.asn1_types.specs.Writing.{base_128, identifier, length_octets, definite}

pub same_length : (class : Class) (a b : Bool) (number : ℕ) → length (identifier class a number) ≡ length (identifier class b number)
same_length class a b number = by_test (nat_lt number 31)
  where
    by_test : (t : Bool) → length (cond t ((leading class a + number) ∷ []) ((leading class a + 31) ∷ base_128 number)) ≡ length (cond t ((leading class b + number) ∷ []) ((leading class b + 31) ∷ base_128 number))
    by_test true = refl
    by_test false = refl

abbrev pub head : Bool → tags.Tag → ℕ → List ℕ
head constructed tag count = identifier tag.class constructed tag.number ++ length_octets count

headed : (constructed : Bool) (tag : tags.Tag) (contents : List ℕ) (count : ℕ) → length contents ≡ count → definite constructed tag contents ≡ head constructed tag count ++ contents
headed constructed tag contents count e =
    ap (λ (n : ℕ). identifier tag.class constructed tag.number ++ (length_octets n ++ contents)) e ∙ sym (append_assoc (identifier tag.class constructed tag.number) (length_octets count) contents)

pub in_head : (constructed : Bool) (tag : tags.Tag) (contents room rest : List ℕ) (start at count : ℕ) → length contents ≡ count → drop start room ≡ head constructed tag count ++ rest → start ≡ 0 → at < length (head constructed tag count)
    → get_or (definite constructed tag contents) at 0 ≡ get_or room at 0
in_head constructed tag contents room rest start at count e put none lt =
    let whole : room ≡ head constructed tag count ++ rest = ap (λ (k : ℕ). drop k room) (sym none) ∙ put in
    ap (λ (l : List ℕ). get_or l at 0) (headed constructed tag contents count e) ∙ get_or_append_left (head constructed tag count) contents 0 at lt
    ∙ sym (get_or_append_left (head constructed tag count) rest 0 at lt) ∙ ap (λ (l : List ℕ). get_or l at 0) (sym whole)

pub past_head : (constructed : Bool) (tag : tags.Tag) (contents : List ℕ) (at count len : ℕ) → length contents ≡ count → length (head constructed tag count) ≡ len → len ≤ at
    → get_or (definite constructed tag contents) at 0 ≡ get_or contents (at - len) 0
past_head constructed tag contents at count len e f le =
    ap (λ (l : List ℕ). get_or l at 0) (headed constructed tag contents count e) ∙ get_or-append_right (head constructed tag count) contents len at 0 f le
