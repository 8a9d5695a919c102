-- Lists at their newest end.
use Rattle.std.specs.Prelude.{ℕ, List, [], ◌∷◌, Bool, true, false, nat_eq, nat_lt, Option, Some, None}
use Rattle.association_sets.specs.end_rules.Sets.{Saved}
use Rattle.association_sets.specs.end_rules.State.{Piece, Octets, Marked}

abbrev pub top_of : {X : Type 0} → List X → Option X
top_of [] = None
top_of (x ∷ xs) = Some x

abbrev pub rest : {X : Type 0} → List X → List X
rest [] = []
rest (x ∷ xs) = xs

-- the newest mark has a number below this one, or there is none
abbrev pub starts_below : ℕ → List Saved → Bool
starts_below n [] = true
starts_below n (mark ∷ marks) = nat_lt mark.number n

-- the newest piece is the mark with this number, or there is none
abbrev pub starts_at : ℕ → List Piece → Bool
starts_at n [] = true
starts_at n (Octets octets ∷ pieces) = false
starts_at n (Marked m set ∷ pieces) = nat_eq m n

-- the octets of the newest piece
abbrev pub front_octets : List Piece → List ℕ
front_octets [] = []
front_octets (Octets octets ∷ pieces) = octets
front_octets (Marked m set ∷ pieces) = []
