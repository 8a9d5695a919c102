-- Object identifiers, as lists of arcs (X.660 7.6, X.690 8.19.4).
use Rattle.std.specs.Prelude.{ℕ, Bool, false, ◌&&◌, ◌||◌, List, [], ◌∷◌, length, nat_lt, nat_le, IsTrue}
use Rattle.osi_base.specs.Limits.{most_arcs}

-- Below the first two roots the second arc is at most 39 (X.690 8.19.4).
abbrev pub starts_well : List ℕ → Bool
starts_well [] = false
starts_well (root ∷ []) = false
starts_well (root ∷ second ∷ arcs) = nat_lt root 2 && nat_lt second 40 || nat_le root 2 && nat_le 2 root

-- 2 to 32 arcs that start well
abbrev pub is_oid : List ℕ → Bool
is_oid arcs = nat_le (length arcs) most_arcs && starts_well arcs

abbrev pub IsOid : List ℕ → Type 0
IsOid arcs = IsTrue (is_oid arcs)
