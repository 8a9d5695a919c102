-- The packed spelling of a value are octets.
use Rattle.std.proofs.Common.{◌≡◌, refl, true, false, ◌∙◌, ap, arith, ℕ, zero, suc, ◌+◌, ◌/◌, ◌%◌, ◌^◌, ◌≤◌, ◌<◌, ℤ, List, [], ◌∷◌, ◌++◌, length}
use Rattle.std.specs.Prelude.{Bool, not, ◌&&◌, ◌||◌, Option, Some, None, nat_eq, nat_lt, slice_get, if◌then◌else◌}
use Rattle.std.specs.List.{list_all, flat_map}
use Rattle.std.specs.Int.{w64, cast_unsigned, bytes_high_first, byte_at}
use Rattle.std.proofs.Math.Nat.{mod-lt}
use Rattle.std.proofs.lemmas.Bool.{and_parts, lt-ltb}
use Rattle.std.proofs.lemmas.Bool.Decides.{nat_tests}
use Rattle.asn1_types.specs.declared.row.Part.{Part}
use Rattle.asn1_types.specs.declared.row.TypeRow.{TypeRow}
use Rattle.asn1_types.specs.declared.row.TypeRow.TheVariants as row
use Rattle.asn1_types.specs.Rows.{of_row, along}
use Rattle.asn1_types.specs.Defaults.{may_be_absent, is_default}
use Rattle.asn1_types.specs.Fits.{is_octet, are_bits, part_fits, parts_fit, sequence_fits, values_fit, list_fits, alternative_fits, choice_fits, nothing_fits}
use Rattle.asn1_types.specs.Rising.{set_rises}
use Rattle.asn1_types.specs.Table.{is_bad_range, AreSoundRows}
use Rattle.asn1_types.specs.Value.{Value, boolean, integer, octets, bits, object_id, text, parts, list, chosen, MaybeValues, no_parts, absent, present, Values, no_values, value}
use Rattle.asn1_types.specs.Writing as der
use Rattle.asn1_types.proofs.Sound.{taken}
use Rattle.asn1_types.specs.Writing.{subidentifiers}
use Rattle.ber_spelling.specs.Primitives.{is_padded}
use Rattle.packed_codec.specs.Numbers.{unpadded, integer_octets}
use Rattle.packed_codec.specs.ObjectIds.{digits_128, without_zeros, base_128, arcs_octets}
use Rattle.packed_codec.specs.Writing.{Writer, counted, how_many, part_written, parts_written, values_written, list_written, sequence_written, alternative_written, choice_written, nothing_written, write_by, packed}
use Rattle.packed_codec.specs.Laws.{packs_by, packs}
use Rattle.packed_laws.specs.Laws.{PackedAreOctets}

abbrev pub Are : List ℕ → Type 0
Are xs = list_all is_octet xs ≡ true

pub append-are : (xs ys : List ℕ) → Are xs → Are ys → Are (xs ++ ys)
append-are [] ys h k = k
append-are (x ∷ xs) ys h k = let a = and_parts (is_octet x) (list_all is_octet xs) h in both (is_octet x) (list_all is_octet (xs ++ ys)) a.0 (append-are xs ys a.1 k)
  where
    both : (a b : Bool) → a ≡ true → b ≡ true → (a && b) ≡ true
    both true b e f = f
    both false b e f = cc

cons-are : (x : ℕ) (xs : List ℕ) → x < 256 → Are xs → Are (x ∷ xs)
cons-are x xs lt h = ap (λ b. b && list_all is_octet xs) (lt-ltb x 256 lt) ∙ h

-- ---- numbers

byte-small : (k x : ℕ) → byte_at k x < 256
byte-small zero x = mod-lt x (omega arith)
byte-small (suc k) x = mod-lt (x / 256 ^ suc k) (omega arith)

pub bytes-are : (n x : ℕ) → Are (bytes_high_first n x)
bytes-are zero x = refl
bytes-are (suc n) x = cons-are (byte_at n x) (bytes_high_first n x) (byte-small n x) (bytes-are n x)

unpadded-are : (xs : List ℕ) → Are xs → Are (unpadded xs)
unpadded-are [] h = refl
unpadded-are (x ∷ xs) h = go (unpadded-are xs (and_parts (is_octet x) (list_all is_octet xs) h).1) (is_padded (x ∷ xs))
  where
    go : Are (unpadded xs) → (b : Bool) → Are (if b then unpadded xs else x ∷ xs)
    go later true = later
    go later false = h

pub unpadded-short : (xs : List ℕ) → length (unpadded xs) ≤ length xs
unpadded-short [] = omega arith
unpadded-short (x ∷ xs) = go (unpadded-short xs) (is_padded (x ∷ xs))
  where
    go : length (unpadded xs) ≤ length xs → (b : Bool) → length (if b then unpadded xs else x ∷ xs) ≤ suc (length xs)
    go later true = omega arith
    go later false = omega arith

pub number-are : (z : ℤ) → Are (length (integer_octets z) ∷ integer_octets z)
unfolding integer_octets
number-are z =
    let xs = bytes_high_first 8 (cast_unsigned w64 z) in
    let short : length (unpadded xs) ≤ length xs = unpadded-short xs in
    let few : length xs ≡ 8 = refl in
    cons-are (length (unpadded xs)) (unpadded xs) (omega arith) (unpadded-are xs (bytes-are 8 (cast_unsigned w64 z)))

counted-are : (os : List ℕ) → Are os → Are (counted os)
counted-are os h = append-are (bytes_high_first 4 (length os)) os (bytes-are 4 (length os)) h

-- ---- object identifiers

high-small : (n : ℕ) → 128 + n % 128 < 256
high-small n = let l : n % 128 < 128 = mod-lt n (omega arith) in omega arith

digits-are : (n : ℕ) → Are (digits_128 n)
digits-are n =
    let e : List ℕ = (n % 128) ∷ [] in
    let d : List ℕ = (128 + n / 2 ^ 7 % 128) ∷ e in
    let c : List ℕ = (128 + n / 2 ^ 14 % 128) ∷ d in
    let b : List ℕ = (128 + n / 2 ^ 21 % 128) ∷ c in
    let last : n % 128 < 256 = let l : n % 128 < 128 = mod-lt n (omega arith) in omega arith in
    cons-are (128 + n / 2 ^ 28 % 128) b (high-small (n / 2 ^ 28)) (cons-are (128 + n / 2 ^ 21 % 128) c (high-small (n / 2 ^ 21))
    (cons-are (128 + n / 2 ^ 14 % 128) d (high-small (n / 2 ^ 14)) (cons-are (128 + n / 2 ^ 7 % 128) e (high-small (n / 2 ^ 7)) (cons-are (n % 128) [] last refl))))

zeros-are : (xs : List ℕ) → Are xs → Are (without_zeros xs)
zeros-are [] h = refl
zeros-are (x ∷ xs) h = go (zeros-are xs (and_parts (is_octet x) (list_all is_octet xs) h).1) (nat_eq x 128)
  where
    go : Are (without_zeros xs) → (b : Bool) → Are (if b then without_zeros xs else x ∷ xs)
    go later true = later
    go later false = h

base-are : (n : ℕ) → Are (base_128 n)
unfolding base_128
base-are n = zeros-are (digits_128 n) (digits-are n)

flat-are : (ns : List ℕ) → Are (flat_map base_128 ns)
flat-are [] = refl
flat-are (n ∷ ns) = append-are (base_128 n) (flat_map base_128 ns) (base-are n) (flat-are ns)

arcs-are : (arcs : List ℕ) → Are (arcs_octets arcs)
unfolding arcs_octets
arcs-are arcs = flat-are (subidentifiers arcs)

-- ---- values

abbrev Writes : (ℕ → Value → Bool) → (ℕ → Writer) → Type 0
Writes f w = (n : ℕ) (v : Value) → f n v ≡ true → Are (w n v)

within : (X : Type 0) (xs : List X) (i : ℕ) (x : X) → slice_get xs i ≡ Some x → i < length xs
within X [] i x e = absurd cc
within X (y ∷ xs) zero x e = omega arith
within X (y ∷ xs) (suc i) x e = let l = within X xs i x e in omega arith

module _ (f : ℕ → Value → Bool) (w : ℕ → Writer) (writes : Writes f w) where
  part-are : (p : Part) (v : Option Value) → part_fits f p v ≡ true → Are (part_written w p v)
  part-are p None h = go (may_be_absent p)
    where
      go : (b : Bool) → Are (if b then 0 ∷ [] else [])
      go true = refl
      go false = refl
  part-are p (Some v) h = go (may_be_absent p)
    where
      own : Are (w p.inner.0 v)
      own = writes p.inner.0 v (and_parts (not (is_default p.default v)) (f p.inner.0 v) h).1

      go : (b : Bool) → Are (if b then 1 ∷ w p.inner.0 v else w p.inner.0 v)
      go true = cons-are 1 (w p.inner.0 v) (omega arith) own
      go false = own

  parts-are : (ps : List Part) (vs : MaybeValues) → parts_fit f ps vs ≡ true → Are (parts_written w ps vs)
  parts-are [] no_parts h = refl
  parts-are [] (absent vs) h = absurd cc
  parts-are [] (present v vs) h = absurd cc
  parts-are (p ∷ ps) no_parts h = absurd cc
  parts-are (p ∷ ps) (absent vs) h = let a = and_parts (part_fits f p None) (parts_fit f ps vs) h in append-are (part_written w p None) (parts_written w ps vs) (part-are p None a.0) (parts-are ps vs a.1)
  parts-are (p ∷ ps) (present v vs) h = let a = and_parts (part_fits f p (Some v)) (parts_fit f ps vs) h in append-are (part_written w p (Some v)) (parts_written w ps vs) (part-are p (Some v) a.0) (parts-are ps vs a.1)

  sequence-are : (ps : List Part) (v : Value) → sequence_fits (parts_fit f ps) v ≡ true → Are (sequence_written w ps v)
  sequence-are ps (parts vs) h = parts-are ps vs h
  sequence-are ps v h = absurd cc

  values-are : (n : ℕ) (vs : Values) → values_fit (f n) vs ≡ true → Are (values_written (w n) vs)
  values-are n no_values h = refl
  values-are n (value v vs) h = let a = and_parts (f n v) (values_fit (f n) vs) h in append-are (w n v) (values_written (w n) vs) (writes n v a.0) (values-are n vs a.1)

  list-are : (n : ℕ) (v : Value) → list_fits (f n) v ≡ true → Are (list_written (w n) v)
  list-are n (list vs) h = append-are (bytes_high_first 4 (how_many vs)) (values_written (w n) vs) (bytes-are 4 (how_many vs)) (values-are n vs h)
  list-are n v h = absurd cc

  alternative-are : (which : ℕ) (p : Option Part) (v : Value) → which < 256 → alternative_fits f p v ≡ true → Are (alternative_written w which p v)
  alternative-are which None v lt h = refl
  alternative-are which (Some p) v lt h = cons-are which (w p.inner.0 v) lt (writes p.inner.0 v h)

  choice-are : (ps : List Part) (v : Value) → length ps ≤ 256 → choice_fits (λ which. alternative_fits f (slice_get ps which)) v ≡ true → Are (choice_written w ps v)
  choice-are ps (chosen which v) few h = go (slice_get ps which) refl h
    where
      go : (p : Option Part) → slice_get ps which ≡ p → alternative_fits f p v ≡ true → Are (alternative_written w which p v)
      go None e h = refl
      go (Some p) e h = let l = within Part ps which p e in alternative-are which (Some p) v (omega arith) h
  choice-are ps v few h = absurd cc

  octets-so : (os : List ℕ) (b : Bool) → (list_all is_octet os && b) ≡ true → Are os
  octets-so os b h = (and_parts (list_all is_octet os) b h).0

  row-are : (spell : ℕ → Value → List ℕ) (r : TypeRow) → is_bad_range r ≡ false → (v : Value) → packs_by spell f r v ≡ true → Are (write_by w r v)
  row-are spell row.Boolean s (boolean true) h = refl
  row-are spell row.Boolean s (boolean false) h = refl
  row-are spell row.Boolean s v h = absurd cc
  row-are spell (row.Integer low high) s (integer z) h = number-are z
  row-are spell (row.Integer low high) s v h = absurd cc
  row-are spell (row.Enumerated named) s (integer z) h = number-are z
  row-are spell (row.Enumerated named) s v h = absurd cc
  row-are spell row.Null s v h = refl
  row-are spell (row.OctetString most) s (octets os) h = counted-are os (octets-so os _ h)
  row-are spell (row.OctetString most) s v h = absurd cc
  row-are spell row.BitString s (bits os u) h =
      let a = and_parts (list_all is_octet os) (are_bits os u) h in
      cons-are u (counted os) (few u (and_parts (nat_lt u 8) _ a.1).0) (counted-are os a.0)
    where
      few : (u : ℕ) → nat_lt u 8 ≡ true → u < 256
      few u e = grind (arith, nat_tests)
  row-are spell row.BitString s v h = absurd cc
  row-are spell row.ObjectId s (object_id arcs) h = counted-are (arcs_octets arcs) (arcs-are arcs)
  row-are spell row.ObjectId s v h = absurd cc
  row-are spell (row.Text kind) s (text os) h = counted-are os (octets-so os _ h)
  row-are spell (row.Text kind) s v h = absurd cc
  row-are spell (row.Sequence ps) s v h = sequence-are ps v h
  row-are spell (row.Set ps) s v h = sequence-are ps v h
  row-are spell (row.SequenceOf of) s v h = list-are of.0 v h
  row-are spell (row.SetOf of) s v h = list-are of.0 v (and_parts (list_fits (f of.0) v) (set_rises (spell of.0) v) h).0
  row-are spell (row.Choice ps) s v h = choice-are ps v (few (nat_eq (length ps) 0) s) h
    where
      few : (b : Bool) → (b || nat_lt 256 (length ps)) ≡ false → length ps ≤ 256
      few true e = cc
      few false e = grind (arith, nat_tests)
  row-are spell (row.Tagged class number explicit of) s v h = writes of.0 v h
  row-are spell row.Any s v h = absurd cc

module _ (rows : List TypeRow) (sound : AreSoundRows rows) where
  of_row-are : (f : ℕ → Value → Bool) (w : ℕ → Writer) → Writes f w → (n : ℕ) (o : Option TypeRow) → slice_get rows n ≡ o → (v : Value) → of_row nothing_fits (packs_by (der.written rows) f) o v ≡ true → Are (of_row nothing_written (write_by w) o v)
  of_row-are f w writes n None e v h = refl
  of_row-are f w writes n (Some r) e v h = row-are f w writes (der.written rows) r (taken _ r (sound.each n r e)).range v h

  along-are : (turns : ℕ) → Writes (along nothing_fits (packs_by (der.written rows)) rows turns) (along nothing_written write_by rows turns)
  along-are zero n v h = refl
  along-are (suc turns) n v h = of_row-are (along nothing_fits (packs_by (der.written rows)) rows turns) (along nothing_written write_by rows turns) (along-are turns) n (slice_get rows n) refl v h

pub packed-octets : PackedAreOctets
unfolding packs packed
packed-octets rows n v sound h = along-are rows sound (length rows) n v h
