-- Values that stand open around a place: constructed values whose identifiers and lengths stand before it, and whose contents
-- go on there (X.690 8.1).
use Rattle.std.specs.Prelude.{◌≡◌, ℕ, zero, suc, ◌+◌, ◌≤◌, ◌<◌, ◌⊎◌, true, false, List, [], ◌∷◌, ◌++◌, length, Some, slice_get}
use Rattle.osi_base.specs.Limits.{most_levels}
use Rattle.asn1_types.specs.declared.row.Class.{Class}
use Rattle.asn1_types.specs.declared.row.TypeRow.{TypeRow}
use Rattle.asn1_types.specs.declared.row.TypeRow.TheVariants.{Any}
use Rattle.ber_spelling.specs.Spelling.{IsIdentifier, IsLength, AreAll}
use Rattle.ber_laws.specs.Values.{IsValue}

-- behind a length of either form so many octets of contents stand, and more are to come
abbrev pub HasMore : List ℕ → ℕ → Type 0
HasMore size there = (size ≡ 128 ∷ []) ⊎ ((n : ℕ) × IsLength false size n × (there < n))

-- The identifier and the length of a constructed value, whole values inside it, and then this: its contents go on.
pub record IsOpen (P : List ℕ → Type 0) (front : List ℕ) : Type 0 where
  pub class : Class
  pub number : ℕ
  pub head : List ℕ
  pub size : List ℕ
  pub values : List (List ℕ)
  pub before : List ℕ
  pub inner : List ℕ
  pub is_identifier : IsIdentifier class true number head
  pub has_more : HasMore size (length before + length inner)
  pub are_values : AreAll IsValue values before
  pub holds : P inner
  pub are : front ≡ head ++ (size ++ (before ++ inner))

-- octets behind which so many values stand open, one inside the other
abbrev pub AreOpen : ℕ → List ℕ → Type 0
AreOpen zero front = front ≡ []
AreOpen (suc depth) front = IsOpen (AreOpen depth) front

abbrev pub HasAny : List TypeRow → Type 0
HasAny rows = (n : ℕ) × (slice_get rows n ≡ Some Any)

-- As many values stand open as there may be, or more of them where an `Any` is, whose levels are its own.
abbrev pub AreMost : List TypeRow → ℕ → Type 0
AreMost rows depth = (depth ≡ most_levels) ⊎ (HasAny rows × (most_levels ≤ depth))

-- octets up to a place, at which one more value would begin, in as many as may stand open
pub record IsFull (rows : List TypeRow) (bytes : List ℕ) (place : ℕ) : Type 0 where
  pub front : List ℕ
  pub back : List ℕ
  pub depth : ℕ
  pub parts : bytes ≡ front ++ back
  pub place_is : place ≡ length front
  pub begins : 0 < length back
  pub open_values : AreOpen depth front
  pub most : AreMost rows depth
