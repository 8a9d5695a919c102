-- The laws of units of the presentation protocol.
use Rattle.std.specs.Prelude.{◌≡◌, ℕ, ◌<◌, ◌≤◌, List, length, take, Ok, Err}
use Rattle.osi_base.specs.declared.layer_words.Kind.{Kind}
use Rattle.osi_base.specs.declared.layer_words.Kind.TheVariants.{Missing}
use Rattle.osi_base.specs.declared.presentation_word.PresentationWord as units
use Rattle.osi_base.specs.Octets.{AreOctets}
use Rattle.presentation_pdus.specs.declared.place.PpduPlace.{PpduPlace}
use Rattle.presentation_pdus.specs.declared.place.PpduFault.TheVariants as fault
use Rattle.presentation_pdus.specs.Units.{SpellsPpdu, ppdu_at, reason_of}

-- what is read is spelled by the octets
abbrev pub PpduIsSpelled : Type 0
PpduIsSpelled = (carrier : PpduPlace) (word : units.PresentationWord) (octets : List ℕ) → AreOctets octets → ppdu_at carrier octets ≡ Ok word → SpellsPpdu carrier word octets

-- what octets spell is read, so they spell one unit at most
abbrev pub SpelledPpduIsRead : Type 0
SpelledPpduIsRead = (carrier : PpduPlace) (word : units.PresentationWord) (octets : List ℕ) → SpellsPpdu carrier word octets → ppdu_at carrier octets ≡ Ok word

-- A fault has a place inside the octets and the reason of its place and kind, and nothing to its left is at fault:
-- octets that end before it only lack what was to follow.
abbrev pub PpduFaultIsFirst : Type 0
PpduFaultIsFirst = (carrier : PpduPlace) (octets : List ℕ) (place : ℕ) (kind : Kind) (reason : ℕ) → ppdu_at carrier octets ≡ Err (fault.At place kind reason)
    → (place ≤ length octets) × (reason ≡ reason_of place kind) × ((k : ℕ) → k < place → ppdu_at carrier (take k octets) ≡ Err (fault.At k Missing 6))
