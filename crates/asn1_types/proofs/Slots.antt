-- A slot for each part, as a loop goes over the parts.
use Rattle.std.proofs.Common.{◌≡◌, ℕ, suc, ◌+◌, ◌<◌, ◌≤◌, List, [], ◌∷◌, ◌++◌, length, drop, get_or, Option, None, refl, sym, ap, arith, drop-cons, add-one, append-nil, append_assoc}
use Rattle.std.proofs.Math.ListN.{drop_of_length-le}
use Rattle.asn1_types.specs.declared.row.Part.{Part}
use Rattle.asn1_types.specs.Value.{Value}
use Rattle.asn1_types.specs.ValueView.{empty_slots}

each_empty : (parts : List Part) (i : ℕ) → i < length parts → empty_slots (drop i parts) ≡ None ∷ empty_slots (drop (i + 1) parts)
each_empty [] i h = absurd (omega arith)
each_empty (p ∷ parts) i h = ap empty_slots (dropped (p ∷ parts) i p h)
  where
    dropped : {X : Type 0} (xs : List X) (i : ℕ) (d : X) → i < length xs → drop i xs ≡ get_or xs i d ∷ drop (i + 1) xs
    dropped xs i d h = rw (add-one, drop-cons xs i d) refl

pub empty_more : (parts : List Part) (i : ℕ) (slots : List (Option Value)) → i < length parts
    → slots ++ empty_slots (drop i parts) ≡ (slots ++ None ∷ []) ++ empty_slots (drop (i + 1) parts)
empty_more parts i slots h = rw (each_empty parts i h) (sym (append_assoc slots (None ∷ []) (empty_slots (drop (i + 1) parts))))

pub empty_all : (parts : List Part) (i : ℕ) (slots : List (Option Value)) → length parts ≤ i → slots ++ empty_slots (drop i parts) ≡ slots
empty_all parts i slots h = rw (drop_of_length-le parts h) (append-nil slots)

pub empty_length : (parts : List Part) → length (empty_slots parts) ≡ length parts
empty_length [] = refl
empty_length (p ∷ parts) = ap suc (empty_length parts)
