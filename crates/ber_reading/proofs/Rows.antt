-- What a row is read as goes by its rule.
use Rattle.std.proofs.Common.{◌≡◌, ℕ, suc, Bool, true, false, cond, Ok, List, [], ◌∷◌, Option, Some, refl, ap}
use Rattle.std.specs.Prelude.{slice_get}
use Rattle.std.specs.List.{AllByRecursion}
use Rattle.asn1_types.specs.declared.row.Class.{Class}
use Rattle.asn1_types.specs.declared.row.Part.{Part}
use Rattle.asn1_types.specs.declared.row.TypeRow.{TypeRow}
use Rattle.asn1_types.specs.declared.row.TypeRow.TheVariants.{Boolean, Integer, Enumerated, Null, OctetString, BitString, ObjectId, Text, Sequence, Set, SequenceOf, SetOf, Choice, Tagged, Any}
use Rattle.asn1_types.specs.Rows.{names_of, rows_of_parts, begins}
use Rattle.asn1_types.specs.Table.{AreSoundRows}
use Rattle.asn1_types.proofs.Along.{settled}
use Rattle.asn1_types.proofs.Sound.{is_down}
use Rattle.ber_spelling.specs.declared.spot.Scope.{Scope}
use Rattle.ber_spelling.specs.Reading.{Spot, Ahead, Reading, ◌>>=◌}
use Rattle.ber_spelling.specs.Rules.{Reader, part_at, parts_at, sequence_at, choice_at, list_at, set_of_at, constructed_at, all_items_at, fill_at, slot_at, set_done, nothing_filled, or_explicit, tagged_at, expect_at, dead, read_by, reads, bare, plain}
use Rattle.ber_spelling.specs.Fields.{extent_at, look_at}
use Rattle.asn1_types.specs.Value.{Value, chosen, parts}
use Rattle.asn1_types.specs.ValueView.{parts_of}
use Rattle.asn1_types.specs.declared.row.Class.TheVariants.{Universal}
use Rattle.asn1_types.specs.Tags.{tag_or}
use Rattle.asn1_types.specs.Writing.{written}

module _ (begins : ℕ → Class → ℕ → Bool) (f g : ℕ → Reader) where
  parts_cong : (ps : List Part) → AllByRecursion (λ m. f m ≡ g m) (rows_of_parts ps) → ◌≡◌ {A = Scope → Ahead → Reading (List (Option Value) × Spot)} (λ scope ahead. parts_at begins f scope ahead ps) (λ scope ahead. parts_at begins g scope ahead ps)
  unfolding parts_at
  parts_cong [] h = refl
  parts_cong (p ∷ ps) h = λ i scope ahead.
      part_at begins (h.0 i) p scope ahead >>= λ x. parts_cong ps h.1 i scope x.1 >>= λ more. Ok (x.0 ∷ more.0, more.1)

  choice_cong : (which : ℕ) (ps : List Part) → AllByRecursion (λ m. f m ≡ g m) (rows_of_parts ps) → choice_at begins f which ps ≡ choice_at begins g which ps
  unfolding choice_at
  choice_cong which [] h = refl
  choice_cong which (p ∷ ps) h = λ i scope opened spot.
      cond (begins p.inner.0 opened.class opened.number) (h.0 i plain scope opened spot >>= λ v. Ok (chosen which v.0, v.1)) (choice_cong (suc which) ps h.1 i scope opened spot)

  slot_cong : (which : ℕ) (ps : List Part) → AllByRecursion (λ m. f m ≡ g m) (rows_of_parts ps) → slot_at begins f which ps ≡ slot_at begins g which ps
  unfolding slot_at
  slot_cong which [] h = refl
  slot_cong which (p ∷ ps) h = λ i before scope opened spot.
      cond (begins p.inner.0 opened.class opened.number) (fill_at (h.0 i (bare p.default)) which before scope opened spot) (slot_cong (suc which) ps h.1 i before scope opened spot)

  read_cong : (spell : ℕ → Value → List ℕ) (row : TypeRow) → AllByRecursion (λ m. f m ≡ g m) (names_of row) → read_by begins spell f row ≡ read_by begins spell g row
  unfolding sequence_at
  read_cong spell Boolean h = refl
  read_cong spell (Integer low high) h = refl
  read_cong spell (Enumerated items) h = refl
  read_cong spell Null h = refl
  read_cong spell (OctetString most) h = refl
  read_cong spell BitString h = refl
  read_cong spell ObjectId h = refl
  read_cong spell (Text kind) h = refl
  read_cong spell (Sequence ps) h = λ i guise scope opened spot.
      expect_at (tag_or guise.tag Universal 16) true opened >>= λ _. extent_at scope spot.place spot.rest >>= λ x. look_at x.0 x.1.place x.1.rest >>= λ a.
      parts_cong ps h i x.0 a >>= λ found. Ok (parts (parts_of found.0), found.1)
  read_cong spell (Set ps) h = λ i guise. constructed_at (all_items_at (slot_cong 0 ps h i) (set_done ps) (nothing_filled ps)) (tag_or guise.tag Universal 17)
  read_cong spell (SequenceOf of) h = λ i guise. list_at (h.0 i) (tag_or guise.tag Universal 16)
  read_cong spell (SetOf of) h = λ i guise. set_of_at (spell of.0) (h.0 i) (tag_or guise.tag Universal 17)
  read_cong spell (Choice ps) h = λ i guise. or_explicit (choice_cong 0 ps h i) guise.tag
  read_cong spell (Tagged class number true of) h = ap (λ r. tagged_at true r class number) h.0
  read_cong spell (Tagged class number false of) h = ap (λ r. tagged_at false r class number) h.0
  read_cong spell Any h = refl

-- what a row is read as, by its rule
pub reads_at : (rows : List TypeRow) → AreSoundRows rows → (n : ℕ) (row : TypeRow) → slice_get rows n ≡ Some row → reads rows n ≡ read_by (begins rows) (written rows) (reads rows) row
unfolding reads
reads_at rows sound n row e = settled dead (read_by (begins rows) (written rows)) (λ r f g h. read_cong (begins rows) f g (written rows) r h) rows (is_down rows sound) n row e
