-- What a row is read as goes by its rule.
use Rattle.std.proofs.Common.{◌≡◌, ℕ, zero, suc, Ok, List, [], ◌∷◌, Option, Some, refl, ap}
use Rattle.std.specs.Prelude.{slice_get}
use Rattle.std.specs.List.{AllByRecursion}
use Rattle.asn1_types.specs.declared.row.Part.{Part}
use Rattle.asn1_types.specs.declared.row.TypeRow.{TypeRow}
use Rattle.asn1_types.specs.declared.row.TypeRow.TheVariants.{Boolean, Integer, Enumerated, Null, OctetString, BitString, ObjectId, Text, Sequence, Set, SequenceOf, SetOf, Choice, Tagged, Any}
use Rattle.asn1_types.specs.Rows.{names_of, rows_of_parts}
use Rattle.asn1_types.specs.Table.{AreSoundRows}
use Rattle.asn1_types.proofs.Along.{settled}
use Rattle.asn1_types.proofs.Sound.{is_down}
use Rattle.asn1_types.specs.Value.{Value, parts}
use Rattle.asn1_types.specs.ValueView.{parts_of}
use Rattle.packed_codec.specs.Reading.{Spot, Reading, ◌>>=◌}
use Rattle.packed_codec.specs.Fields.{octet_at}
use Rattle.packed_codec.specs.Rules.{Reader, part_at, parts_at, sequence_at, list_at, alternative_at, choice_at, dead, read_by, reads, set_of_at}
use Rattle.asn1_types.specs.Writing.{written}

module _ (f g : ℕ → Reader) where
  parts_cong : (ps : List Part) → AllByRecursion (λ m. f m ≡ g m) (rows_of_parts ps) → ◌≡◌ {A = ℕ → Spot → Reading (List (Option Value) × Spot)} (λ limit s. parts_at f limit s ps) (λ limit s. parts_at g limit s ps)
  unfolding parts_at
  parts_cong [] h = refl
  parts_cong (p ∷ ps) h = λ i limit s.
      part_at (h.0 i) p limit s >>= λ x. parts_cong ps h.1 i limit x.1 >>= λ more. Ok (x.0 ∷ more.0, more.1)

  sequence_cong : (ps : List Part) → AllByRecursion (λ m. f m ≡ g m) (rows_of_parts ps) → sequence_at f ps ≡ sequence_at g ps
  unfolding sequence_at
  sequence_cong ps h = λ i limit s. parts_cong ps h i limit s >>= λ found. Ok (parts (parts_of found.0), found.1)

  alternative_cong : (ps : List Part) → AllByRecursion (λ m. f m ≡ g m) (rows_of_parts ps) → (place which at : ℕ) → alternative_at f place which (slice_get ps at) ≡ alternative_at g place which (slice_get ps at)
  alternative_cong [] h place which at = refl
  alternative_cong (p ∷ ps) h place which zero = λ i. alternative_at (λ m. h.0 i) place which (Some p)
  alternative_cong (p ∷ ps) h place which (suc at) = alternative_cong ps h.1 place which at

  choice_cong : (ps : List Part) → AllByRecursion (λ m. f m ≡ g m) (rows_of_parts ps) → choice_at f ps ≡ choice_at g ps
  unfolding choice_at
  choice_cong ps h = λ i limit s. octet_at limit s >>= λ o. alternative_cong ps h s.place o.0 o.0 i limit o.1

  read_cong : (spell : ℕ → Value → List ℕ) (row : TypeRow) → AllByRecursion (λ m. f m ≡ g m) (names_of row) → read_by spell f row ≡ read_by spell g row
  read_cong spell Boolean h = refl
  read_cong spell (Integer low high) h = refl
  read_cong spell (Enumerated items) h = refl
  read_cong spell Null h = refl
  read_cong spell (OctetString most) h = refl
  read_cong spell BitString h = refl
  read_cong spell ObjectId h = refl
  read_cong spell (Text kind) h = refl
  read_cong spell (Sequence ps) h = sequence_cong ps h
  read_cong spell (Set ps) h = sequence_cong ps h
  read_cong spell (SequenceOf of) h = ap list_at h.0
  read_cong spell (SetOf of) h = ap (set_of_at (spell of.0)) h.0
  read_cong spell (Choice ps) h = choice_cong ps h
  read_cong spell (Tagged class number explicit of) h = h.0
  read_cong spell Any h = refl

-- what a row is read as, by its rule
pub reads_at : (rows : List TypeRow) → AreSoundRows rows → (n : ℕ) (row : TypeRow) → slice_get rows n ≡ Some row → reads rows n ≡ read_by (written rows) (reads rows) row
unfolding reads
reads_at rows sound n row e = settled dead (read_by (written rows)) (λ r f g h. read_cong f g (written rows) r h) rows (is_down rows sound) n row e
