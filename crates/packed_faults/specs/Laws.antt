-- The laws of first faults in the packed syntax. A limit has 32 bits.
use Rattle.std.specs.Prelude.{◌≡◌, ℕ, ◌^◌, ◌<◌, ◌⊎◌, ◌↔◌, List, Err}
use Rattle.asn1_types.specs.declared.row.TypeRow.{TypeRow}
use Rattle.packed_codec.specs.declared.fault.PackedFault.{PackedFault}
use Rattle.packed_codec.specs.declared.fault.PackedFault.TheVariants.{Short}
use Rattle.osi_base.specs.Octets.{AreOctets}
use Rattle.packed_codec.specs.Rules.{read_at}
use Rattle.packed_codec.specs.Laws.{IsAt, BeginsSpelled}
use Rattle.packed_faults.specs.FirstFault.{FirstFault}

-- a fault with a place that reading gives is a first fault
abbrev pub GivenIsFirst : Type 0
GivenIsFirst = (rows : List TypeRow) (n limit : ℕ) (bytes : List ℕ) (f : PackedFault) (place : ℕ) → AreOctets bytes
    → IsAt f place → read_at rows n limit bytes ≡ Err f → FirstFault rows n limit bytes f

-- a first fault is what reading gives
abbrev pub FirstIsGiven : Type 0
FirstIsGiven = (rows : List TypeRow) (n limit : ℕ) (bytes : List ℕ) (f : PackedFault) → limit < 2 ^ 32 → AreOctets bytes
    → FirstFault rows n limit bytes f → read_at rows n limit bytes ≡ Err f

-- octets have one first fault at most
abbrev pub OneFirst : Type 0
OneFirst = (rows : List TypeRow) (n limit : ℕ) (bytes : List ℕ) (f g : PackedFault) → limit < 2 ^ 32 → AreOctets bytes
    → FirstFault rows n limit bytes f → FirstFault rows n limit bytes g → f ≡ g

abbrev pub HasFirst : List TypeRow → ℕ → ℕ → List ℕ → Type 0
HasFirst rows n limit bytes = (f : PackedFault) × FirstFault rows n limit bytes f

-- octets that are no spelling with others behind, and have no first fault
abbrev pub AreShort : List TypeRow → ℕ → ℕ → List ℕ → Type 0
AreShort rows n limit bytes = (BeginsSpelled rows n limit bytes → ⊥) × (HasFirst rows n limit bytes → ⊥)

-- Octets that a spelling begins have no first fault; those that no spelling begins have one, or are too short as reading says.
abbrev pub ThreeCases : Type 0
ThreeCases = (rows : List TypeRow) (n limit : ℕ) (bytes : List ℕ) → limit < 2 ^ 32 → AreOctets bytes
    → (BeginsSpelled rows n limit bytes × (HasFirst rows n limit bytes → ⊥))
    ⊎ (((BeginsSpelled rows n limit bytes → ⊥) × HasFirst rows n limit bytes)
    ⊎ (AreShort rows n limit bytes × (read_at rows n limit bytes ≡ Err Short)))

-- Octets are too short exactly where no spelling begins them and they have no first fault.
abbrev pub ShortExactly : Type 0
ShortExactly = (rows : List TypeRow) (n limit : ℕ) (bytes : List ℕ) → limit < 2 ^ 32 → AreOctets bytes
    → (read_at rows n limit bytes ≡ Err Short) ↔ AreShort rows n limit bytes
