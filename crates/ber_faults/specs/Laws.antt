-- The laws of first faults.
use Rattle.std.specs.Prelude.{◌≡◌, ◌≢◌, ℕ, ◌⊎◌, ◌↔◌, Bool, List, Err}
use Rattle.asn1_types.specs.declared.row.TypeRow.{TypeRow}
use Rattle.asn1_types.specs.Table.{AreSoundRows}
use Rattle.ber_spelling.specs.declared.fault.ReadFault.{ReadFault}
use Rattle.ber_spelling.specs.declared.fault.ReadFault.TheVariants.{Short, TooDeep}
use Rattle.osi_base.specs.Octets.{AreOctets}
use Rattle.ber_spelling.specs.Rules.{read_at}
use Rattle.ber_spelling.specs.Laws.{BeginsSpelled}
use Rattle.ber_faults.specs.FirstFault.{FirstFault}
use Rattle.ber_faults.specs.Nesting.{IsFull}

-- a fault that reading gives is a first fault, unless it is that the octets are too short
abbrev pub GivenIsFirst : Type 0
GivenIsFirst = (rows : List TypeRow) (n : ℕ) (strict : Bool) (limit : ℕ) (bytes : List ℕ) (f : ReadFault) → AreOctets bytes
    → f ≢ Short → read_at rows n strict limit bytes ≡ Err f → FirstFault rows n strict limit bytes f

-- a first fault is what reading gives
abbrev pub FirstIsGiven : Type 0
FirstIsGiven = (rows : List TypeRow) (n : ℕ) (strict : Bool) (limit : ℕ) (bytes : List ℕ) (f : ReadFault) → AreSoundRows rows → AreOctets bytes
    → FirstFault rows n strict limit bytes f → read_at rows n strict limit bytes ≡ Err f

-- octets have one first fault at most
abbrev pub OneFirst : Type 0
OneFirst = (rows : List TypeRow) (n : ℕ) (strict : Bool) (limit : ℕ) (bytes : List ℕ) (f g : ReadFault) → AreSoundRows rows → AreOctets bytes
    → FirstFault rows n strict limit bytes f → FirstFault rows n strict limit bytes g → f ≡ g

abbrev pub HasFirst : List TypeRow → ℕ → Bool → ℕ → List ℕ → Type 0
HasFirst rows n strict limit bytes = (f : ReadFault) × FirstFault rows n strict limit bytes f

-- octets that are no spelling with others behind, and have no first fault
abbrev pub AreShort : List TypeRow → ℕ → Bool → ℕ → List ℕ → Type 0
AreShort rows n strict limit bytes = (BeginsSpelled rows n strict limit bytes → ⊥) × (HasFirst rows n strict limit bytes → ⊥)

-- Octets that a spelling begins have no first fault; those that no spelling begins have one, or are too short as reading says.
abbrev pub ThreeCases : Type 0
ThreeCases = (rows : List TypeRow) (n : ℕ) (strict : Bool) (limit : ℕ) (bytes : List ℕ) → AreSoundRows rows → AreOctets bytes
    → (BeginsSpelled rows n strict limit bytes × (HasFirst rows n strict limit bytes → ⊥))
    ⊎ (((BeginsSpelled rows n strict limit bytes → ⊥) × HasFirst rows n strict limit bytes)
    ⊎ (AreShort rows n strict limit bytes × (read_at rows n strict limit bytes ≡ Err Short)))

-- Octets are too short exactly where no spelling begins them and they have no first fault.
abbrev pub ShortExactly : Type 0
ShortExactly = (rows : List TypeRow) (n : ℕ) (strict : Bool) (limit : ℕ) (bytes : List ℕ) → AreSoundRows rows → AreOctets bytes
    → (read_at rows n strict limit bytes ≡ Err Short) ↔ AreShort rows n strict limit bytes

-- Octets are too deep only at an identifier around which as many values stand open as may be.
abbrev pub TooDeepIsFull : Type 0
TooDeepIsFull = (rows : List TypeRow) (n : ℕ) (strict : Bool) (limit : ℕ) (bytes : List ℕ) (place : ℕ) → AreSoundRows rows
    → FirstFault rows n strict limit bytes (TooDeep place) → IsFull rows bytes place
