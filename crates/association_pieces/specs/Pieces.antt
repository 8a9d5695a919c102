-- What one piece of a transfer is.
use Rattle.std.specs.Prelude.{ℕ, List, [], Bool, false, nat_eq}
use Rattle.osi_base.specs.declared.layer_words.SetItem.{SetItem}
use Rattle.association_sets.specs.end_rules.State.{Piece, Octets, Marked}

abbrev pub is_mark : ℕ → Piece → Bool
is_mark n (Octets octets) = false
is_mark n (Marked number set) = nat_eq number n

abbrev pub octets_in : Piece → List ℕ
octets_in (Octets octets) = octets
octets_in (Marked number set) = []

abbrev pub set_in : Piece → List SetItem
set_in (Octets octets) = []
set_in (Marked number set) = set

abbrev pub number_in : Piece → ℕ
number_in (Octets octets) = 0
number_in (Marked number set) = number
