-- Values that all of the octets are, from their identifier on (X.690 8.1).
use Rattle.std.specs.Prelude.{◌≡◌, ℕ, ◌<◌, ◌≤◌, false, List, length, take, Result, Ok, Err}
use Rattle.osi_base.specs.declared.layer_words.Kind.TheVariants.{Missing}
use Rattle.asn1_types.specs.Value.{Value}
use Rattle.ber_spelling.specs.declared.spot.Scope.{Scope}
use Rattle.ber_spelling.specs.Reading.{Spot, Opened, Reading, ◌>>=◌}
use Rattle.ber_spelling.specs.Fields.{identifier_at}
use Rattle.ber_spelling.specs.Rules.{outermost}
use Rattle.fixed_tables.specs.declared.pdu.PduFault as units
use Rattle.fixed_tables.specs.declared.pdu.PduFault.TheVariants as unit
use Rattle.fixed_tables.specs.Whole.{of_whole}

-- a value and how many octets it has
abbrev pub front_at : (Scope → Opened → Spot → Reading (Value × Spot)) → ℕ → List ℕ → Reading (Value × ℕ)
front_at run limit octets = do
  x ← identifier_at (outermost limit false) 0 octets
  v ← run (outermost limit false) x.0 x.1
  Ok (v.0, v.1.place)

-- the value that all of these octets, within a limit, are read as, or their first fault
abbrev pub all_at : (Scope → Opened → Spot → Reading (Value × Spot)) → ℕ → List ℕ → Result Value units.PduFault
all_at run limit octets = of_whole (length octets) (front_at run limit octets)

-- Nothing to the left of this place is at fault: octets that end before it only lack what was to follow.
abbrev pub IsFirstOf : (Scope → Opened → Spot → Reading (Value × Spot)) → ℕ → List ℕ → ℕ → Type 0
IsFirstOf run limit octets place = (place ≤ length octets) × ((k : ℕ) → k < place → all_at run limit (take k octets) ≡ Err (unit.At k Missing))
