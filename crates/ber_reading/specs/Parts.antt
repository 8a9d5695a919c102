-- Parts of a SEQUENCE (X.690 8.9), read from where the next one may stand, and not from what was seen to stand there.
use Rattle.std.specs.Prelude.{ℕ, Bool, Option, None, List, ◌++◌, Ok, if◌then◌else◌}
use Rattle.osi_base.specs.declared.layer_words.Kind.TheVariants.{Missing}
use Rattle.asn1_types.specs.declared.row.Class.{Class}
use Rattle.asn1_types.specs.declared.row.Part.{Part}
use Rattle.asn1_types.specs.Value.{Value}
use Rattle.asn1_types.specs.Defaults.{may_be_absent, kept}
use Rattle.ber_spelling.specs.declared.spot.Scope.{Scope}
use Rattle.ber_spelling.specs.Reading.{Spot, Ahead, ended, begun, Reading, ◌>>=◌, refuse}
use Rattle.ber_spelling.specs.Fields.{look_at}
use Rattle.ber_spelling.specs.Rules.{Reader, is_part, place_of, parts_at, bare}

-- a part with its default's value is read as absent
abbrev pub taken_at : Reader → Part → Scope → Ahead → Reading (Option Value × Spot)
taken_at inner p scope (ended place after) = refuse place Missing
taken_at inner p scope (begun opened after) = do
  v ← inner (bare p.default) scope opened after
  Ok (kept p v.0, v.1)

-- a part that is not there leaves the spot as it is
abbrev pub absent_at : Bool → ℕ → Spot → Reading (Option Value × Spot)
absent_at may place spot = if may then Ok (None, spot) else refuse place Missing

abbrev pub found_at : (ℕ → Class → ℕ → Bool) → Reader → Part → Scope → Spot → Ahead → Reading (Option Value × Spot)
found_at begins inner p scope spot ahead = if is_part begins p ahead then taken_at inner p scope ahead else absent_at (may_be_absent p) (place_of ahead) spot

-- one part, if it is there, and where reading goes on
unfoldable pub part_from : (ℕ → Class → ℕ → Bool) → Reader → Part → Scope → Spot → Reading (Option Value × Spot)
part_from begins inner p scope spot = do
  a ← look_at scope spot.place spot.rest
  found_at begins inner p scope spot a

-- all parts, up to the end of the contents
unfoldable pub parts_from : (ℕ → Class → ℕ → Bool) → (ℕ → Reader) → Scope → Spot → List Part → Reading (List (Option Value) × Spot)
parts_from begins inner scope spot ps = do
  a ← look_at scope spot.place spot.rest
  parts_at begins inner scope a ps

-- what was found before, and what is still found
abbrev pub parts_behind : List (Option Value) → Reading (List (Option Value) × Spot) → Reading (List (Option Value) × Spot)
parts_behind front read = read >>= λ x. Ok (front ++ x.0, x.1)
