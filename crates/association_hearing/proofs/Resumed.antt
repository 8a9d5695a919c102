-- The set of a resumption from a mark.
use Rattle.std.proofs.Common.{◌≡◌, ℕ, zero, suc, List, refl}
use Rattle.osi_base.specs.declared.layer_words.SetItem.{SetItem}
use Rattle.end_rules.specs.State.{Piece, from_mark, newest_set, resumed_set}

pub resumed_at : (n : ℕ) (pieces : List Piece) (held : List SetItem) → (n ≡ 0 → ⊥) → resumed_set n pieces held ≡ newest_set (from_mark n pieces)
resumed_at zero pieces held h = absurd (h refl)
resumed_at (suc n) pieces held h = refl
