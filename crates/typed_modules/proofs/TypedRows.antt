-- Rows none of which is any type.
use Rattle.std.proofs.Common.{◌≡◌, ℕ, zero, suc, List, [], ◌∷◌, ◌++◌, Some}
use Rattle.std.specs.Prelude.{slice_get}
use Rattle.asn1_types.specs.declared.row.TypeRow.{TypeRow}
use Rattle.asn1_types.specs.declared.row.TypeRow.TheVariants as rows
use Rattle.packed_codec.specs.Laws.{HasNoAny}

abbrev pub IsTyped : TypeRow → Type 0
IsTyped rows.Any = ⊥
IsTyped row = Unit {0}

abbrev pub AreTyped : List TypeRow → Type 0
AreTyped [] = Unit {0}
AreTyped (row ∷ more) = IsTyped row × AreTyped more

pub one_more : (all : List TypeRow) (row : TypeRow) → AreTyped all → IsTyped row → AreTyped (all ++ row ∷ [])
one_more [] row h t = (t, tt)
one_more (first ∷ all) row h t = (h.0, one_more all row h.1 t)

is_none : (row : TypeRow) → IsTyped row → Some row ≡ Some rows.Any → ⊥
is_none rows.Any t e = t
is_none rows.Boolean t e = cc
is_none (rows.Integer low high) t e = cc
is_none (rows.Enumerated items) t e = cc
is_none rows.Null t e = cc
is_none (rows.OctetString most) t e = cc
is_none rows.BitString t e = cc
is_none rows.ObjectId t e = cc
is_none (rows.Text kind) t e = cc
is_none (rows.Sequence parts) t e = cc
is_none (rows.Set parts) t e = cc
is_none (rows.SequenceOf of) t e = cc
is_none (rows.SetOf of) t e = cc
is_none (rows.Choice parts) t e = cc
is_none (rows.Tagged class number explicit of) t e = cc

none_at : (all : List TypeRow) (n : ℕ) → AreTyped all → slice_get all n ≡ Some rows.Any → ⊥
none_at [] n h e = cc
none_at (row ∷ all) zero h e = is_none row h.0 e
none_at (row ∷ all) (suc n) h e = none_at all n h.1 e

pub no_any : (all : List TypeRow) → AreTyped all → HasNoAny all
no_any all h = record { each = λ n e. none_at all n h e }
