-- The packed spelling of a value has as many octets as are told of it.
use Rattle.std.proofs.Common.{◌≡◌, refl, true, false, ap, ◌∙◌, arith, ℕ, zero, suc, ◌+◌, ◌*◌, ◌^◌, ◌≤◌, ◌<◌, ℤ, List, [], ◌∷◌, ◌++◌, length}
use Rattle.std.specs.Prelude.{Bool, not, ◌&&◌, Option, Some, None, nat_le, slice_get, slice_index, if◌then◌else◌}
use Rattle.std.specs.List.{list_all, flat_map}
use Rattle.std.specs.Int.{bytes_high_first}
use Rattle.std.proofs.lemmas.Bool.{and_parts, leb-true, ltb-true}
use Rattle.std.proofs.lemmas.Bool.Decides.{nat_tests}
use Rattle.std.proofs.lemmas.List.{length-append}
use Rattle.osi_base.specs.Oid.{starts_well, is_oid}
use Rattle.asn1_types.specs.declared.row.Part.{Part}
use Rattle.asn1_types.specs.declared.row.TypeRow.{TypeRow}
use Rattle.asn1_types.specs.declared.row.TypeRow.TheVariants as row
use Rattle.asn1_types.specs.Rows.{of_row, along}
use Rattle.asn1_types.specs.Defaults.{may_be_absent, is_default}
use Rattle.asn1_types.specs.Fits.{is_octet, has_32_bits, is_number, part_fits, parts_fit, sequence_fits, values_fit, list_fits, alternative_fits, choice_fits, nothing_fits}
use Rattle.asn1_types.specs.Rising.{set_rises}
use Rattle.asn1_types.specs.Value.{Value, boolean, integer, octets, bits, object_id, text, parts, list, chosen, MaybeValues, no_parts, absent, present, Values, no_values, value}
use Rattle.asn1_types.specs.Writing as der
use Rattle.asn1_types.specs.PackedSize as sizes
use Rattle.asn1_types.specs.Writing.{subidentifiers}
use Rattle.ber_spelling.proofs.UniqueDigits.{unique_128, unique_integer}
use Rattle.ber_spelling.specs.Primitives.{is_padded, signed_of, integer_of}
use Rattle.packed_codec.specs.Numbers.{is_size, integer_octets}
use Rattle.packed_codec.specs.ObjectIds.{base_128, arcs_octets}
use Rattle.packed_codec.specs.Writing.{Writer, counted, how_many, part_written, parts_written, values_written, list_written, sequence_written, alternative_written, choice_written, nothing_written, write_by, packed}
use Rattle.packed_codec.specs.Laws.{packs_by, packs}
use Rattle.packed_codec.proofs.Base128.{base_128_is}
use Rattle.packed_codec.proofs.Integers.{integer_complete}
use Rattle.packed_codec.proofs.Spelled.{some_if}
use Rattle.packed_laws.proofs.Octets.{Are, number-are}
use Rattle.packed_laws.specs.Laws.{PackedHasSize}

-- ---- numbers: the packed contents are those of DER

each-small : (os : List ℕ) → Are os → (i : ℕ) → slice_index os i < 256
each-small [] h i = omega arith
each-small (o ∷ os) h zero = ltb-true o 256 (and_parts (is_octet o) (list_all is_octet os) h).0
each-small (o ∷ os) h (suc i) = each-small os (and_parts (is_octet o) (list_all is_octet os) h).1 i

no-not : (b : Bool) → not b ≡ true → b ≡ false
no-not true e = cc
no-not false e = refl

integer-same : (z : ℤ) → is_number z ≡ true → integer_octets z ≡ der.integer_octets z
unfolding integer_of
integer-same z e =
    let os : List ℕ = integer_octets z in
    let r = integer_complete z e in
    let t = some_if (is_size (length os) && not (is_padded os)) (signed_of os) z r.reads in
    let u = and_parts (is_size (length os)) (not (is_padded os)) t.0 in
    let v = and_parts (nat_le 1 (length os)) (nat_le (length os) 8) u.0 in
    let are : Are os = (and_parts (is_octet (length os)) (list_all is_octet os) (number-are z)).1 in
    unique_integer os z (record { each = each-small os are })
    (record {
      some = leb-true 1 (length os) v.0;
      few = leb-true (length os) 8 v.1;
      shortest = no-not (is_padded os) u.1;
      number = t.1;
    })

-- ---- object identifiers

base-same : (n : ℕ) → n < 2 ^ 35 → base_128 n ≡ der.base_128 n
base-same n lt = unique_128 (base_128 n) n (base_128_is n lt)

each-same : (ns : List ℕ) → list_all has_32_bits ns ≡ true → flat_map base_128 ns ≡ flat_map der.base_128 ns
each-same [] h = refl
each-same (n ∷ ns) h =
    let a = and_parts (has_32_bits n) (list_all has_32_bits ns) h in
    let lt : n < 2 ^ 32 = ltb-true n (2 ^ 32) a.0 in
    λ i. base-same n (omega arith) i ++ each-same ns a.1 i

small-root : (root second : ℕ) → starts_well (root ∷ second ∷ []) ≡ true → root ≤ 2
small-root root second h = grind (arith, nat_tests)

arcs-same : (arcs : List ℕ) → (is_oid arcs && list_all has_32_bits arcs) ≡ true → arcs_octets arcs ≡ flat_map der.base_128 (der.subidentifiers arcs)
unfolding arcs_octets
arcs-same [] h = refl
arcs-same (root ∷ []) h = absurd (no (nat_le 1 32) true h)
  where
    no : (a b : Bool) → ((a && false) && b) ≡ true → ⊥
    no true b e = cc
    no false b e = cc
arcs-same (root ∷ second ∷ arcs) h =
    let a = and_parts (is_oid (root ∷ second ∷ arcs)) (list_all has_32_bits (root ∷ second ∷ arcs)) h in
    let b = and_parts (nat_le (length (root ∷ second ∷ arcs)) 32) (starts_well (root ∷ second ∷ arcs)) a.0 in
    let low : root ≤ 2 = small-root root second b.1 in
    let c = and_parts (has_32_bits root) (list_all has_32_bits (second ∷ arcs)) a.1 in
    let d = and_parts (has_32_bits second) (list_all has_32_bits arcs) c.1 in
    let lt : second < 2 ^ 32 = ltb-true second (2 ^ 32) d.0 in
    λ i. base-same (40 * root + second) (omega arith) i ++ each-same arcs d.1 i

-- ---- values

four : (n : ℕ) → length (bytes_high_first 4 n) ≡ 4
four n = refl

counted-size : (os : List ℕ) → length (counted os) ≡ sizes.count_size + length os
counted-size os = length-append (bytes_high_first 4 (length os)) os

abbrev Sized : (ℕ → Value → Bool) → (ℕ → Writer) → (ℕ → Value → ℕ) → Type 0
Sized f w s = (n : ℕ) (v : Value) → f n v ≡ true → length (w n v) ≡ s n v

module _ (f : ℕ → Value → Bool) (w : ℕ → Writer) (s : ℕ → Value → ℕ) (sized : Sized f w s) where
  part-sized : (p : Part) (v : Option Value) → part_fits f p v ≡ true → length (part_written w p v) ≡ sizes.part_size s p v
  part-sized p None h = go (may_be_absent p)
    where
      go : (b : Bool) → length {A = ℕ} (if b then 0 ∷ [] else []) ≡ (if b then 1 else 0)
      go true = refl
      go false = refl
  part-sized p (Some v) h = go (may_be_absent p)
    where
      own : length (w p.inner.0 v) ≡ s p.inner.0 v
      own = sized p.inner.0 v (and_parts (not (is_default p.default v)) (f p.inner.0 v) h).1

      go : (b : Bool) → length (if b then 1 ∷ w p.inner.0 v else w p.inner.0 v) ≡ (if b then 1 else 0) + s p.inner.0 v
      go true = omega (arith, own)
      go false = omega (arith, own)

  parts-sized : (ps : List Part) (vs : MaybeValues) → parts_fit f ps vs ≡ true → length (parts_written w ps vs) ≡ sizes.parts_size s ps vs
  parts-sized [] no_parts h = refl
  parts-sized [] (absent vs) h = absurd cc
  parts-sized [] (present v vs) h = absurd cc
  parts-sized (p ∷ ps) no_parts h = absurd cc
  parts-sized (p ∷ ps) (absent vs) h =
      let a = and_parts (part_fits f p None) (parts_fit f ps vs) h in
      length-append (part_written w p None) (parts_written w ps vs) ∙ (λ i. part-sized p None a.0 i + parts-sized ps vs a.1 i)
  parts-sized (p ∷ ps) (present v vs) h =
      let a = and_parts (part_fits f p (Some v)) (parts_fit f ps vs) h in
      length-append (part_written w p (Some v)) (parts_written w ps vs) ∙ (λ i. part-sized p (Some v) a.0 i + parts-sized ps vs a.1 i)

  sequence-sized : (ps : List Part) (v : Value) → sequence_fits (parts_fit f ps) v ≡ true → length (sequence_written w ps v) ≡ sizes.sequence_size (sizes.parts_size s ps) v
  sequence-sized ps (parts vs) h = parts-sized ps vs h
  sequence-sized ps v h = absurd cc

  values-sized : (n : ℕ) (vs : Values) → values_fit (f n) vs ≡ true → length (values_written (w n) vs) ≡ sizes.values_size (s n) vs
  values-sized n no_values h = refl
  values-sized n (value v vs) h =
      let a = and_parts (f n v) (values_fit (f n) vs) h in
      length-append (w n v) (values_written (w n) vs) ∙ (λ i. sized n v a.0 i + values-sized n vs a.1 i)

  list-sized : (n : ℕ) (v : Value) → list_fits (f n) v ≡ true → length (list_written (w n) v) ≡ sizes.list_size (s n) v
  list-sized n (list vs) h = length-append (bytes_high_first 4 (how_many vs)) (values_written (w n) vs) ∙ ap (λ (k : ℕ). 4 + k) (values-sized n vs h)
  list-sized n v h = absurd cc

  alternative-sized : (which : ℕ) (p : Option Part) (v : Value) → alternative_fits f p v ≡ true → length (alternative_written w which p v) ≡ sizes.alternative_size s p v
  alternative-sized which None v h = absurd cc
  alternative-sized which (Some p) v h = let e = sized p.inner.0 v h in omega (arith, e)

  choice-sized : (ps : List Part) (v : Value) → choice_fits (λ which. alternative_fits f (slice_get ps which)) v ≡ true → length (choice_written w ps v) ≡ sizes.choice_size (λ which. sizes.alternative_size s (slice_get ps which)) v
  choice-sized ps (chosen which v) h = alternative-sized which (slice_get ps which) v h
  choice-sized ps v h = absurd cc

  number-sized : (z : ℤ) → is_number z ≡ true → suc (length (integer_octets z)) ≡ sizes.number_size (integer z)
  number-sized z e = let same = ap length (integer-same z e) in omega (arith, same)

  row-sized : (spell : ℕ → Value → List ℕ) (r : TypeRow) (v : Value) → packs_by spell f r v ≡ true → length (write_by w r v) ≡ sizes.size_by s r v
  row-sized spell row.Boolean (boolean true) h = refl
  row-sized spell row.Boolean (boolean false) h = refl
  row-sized spell row.Boolean v h = absurd cc
  row-sized spell (row.Integer low high) (integer z) h = number-sized z (and_parts (is_number z) _ (and_parts (is_number z && _) _ h).0).0
  row-sized spell (row.Integer low high) v h = absurd cc
  row-sized spell (row.Enumerated named) (integer z) h = number-sized z (and_parts (is_number z) _ h).0
  row-sized spell (row.Enumerated named) v h = absurd cc
  row-sized spell row.Null v h = refl
  row-sized spell (row.OctetString most) (octets os) h = counted-size os
  row-sized spell (row.OctetString most) v h = absurd cc
  row-sized spell row.BitString (bits os u) h = let c = counted-size os in omega (arith, c)
  row-sized spell row.BitString v h = absurd cc
  row-sized spell row.ObjectId (object_id arcs) h = counted-size (arcs_octets arcs) ∙ ap (λ (l : List ℕ). 4 + length l) (arcs-same arcs h)
  row-sized spell row.ObjectId v h = absurd cc
  row-sized spell (row.Text kind) (text os) h = counted-size os
  row-sized spell (row.Text kind) v h = absurd cc
  row-sized spell (row.Sequence ps) v h = sequence-sized ps v h
  row-sized spell (row.Set ps) v h = sequence-sized ps v h
  row-sized spell (row.SequenceOf of) v h = list-sized of.0 v h
  row-sized spell (row.SetOf of) v h = list-sized of.0 v (and_parts (list_fits (f of.0) v) (set_rises (spell of.0) v) h).0
  row-sized spell (row.Choice ps) v h = choice-sized ps v h
  row-sized spell (row.Tagged class number explicit of) v h = sized of.0 v h
  row-sized spell row.Any v h = absurd cc

module _ (rows : List TypeRow) where
  of_row-sized : (f : ℕ → Value → Bool) (w : ℕ → Writer) (s : ℕ → Value → ℕ) → Sized f w s → (o : Option TypeRow) (v : Value) → of_row nothing_fits (packs_by (der.written rows) f) o v ≡ true → length (of_row nothing_written (write_by w) o v) ≡ of_row sizes.nothing_size (sizes.size_by s) o v
  of_row-sized f w s sized None v h = absurd cc
  of_row-sized f w s sized (Some r) v h = row-sized f w s sized (der.written rows) r v h

  along-sized : (turns : ℕ) → Sized (along nothing_fits (packs_by (der.written rows)) rows turns) (along nothing_written write_by rows turns) (along sizes.nothing_size sizes.size_by rows turns)
  along-sized zero n v h = absurd cc
  along-sized (suc turns) n v h =
      of_row-sized (along nothing_fits (packs_by (der.written rows)) rows turns) (along nothing_written write_by rows turns) (along sizes.nothing_size sizes.size_by rows turns) (along-sized turns) (slice_get rows n) v h

pub packed-sized : PackedHasSize
unfolding packs packed sizes.packed_size
packed-sized rows n v h = along-sized rows (length rows) n v h
