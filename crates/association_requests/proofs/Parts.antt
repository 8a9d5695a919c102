-- Parts of transfers, and what comes next of them.
use Rattle.std.proofs.Common.{◌≡◌, ℕ, zero, suc, ◌*◌, refl}
use Rattle.end_rules.specs.ByItself.{part_size}

pub part_size_of : (checkpoint left : ℕ) → (checkpoint ≡ 0 → ⊥) → part_size checkpoint left ≡ checkpoint * 1024
part_size_of zero left h = absurd (h refl)
part_size_of (suc n) left h = refl
