-- The DER spelling of a value are octets.
use Rattle.std.proofs.Common.{◌≡◌, refl, true, false, ◌∙◌, ap, subst, sym, arith, ℕ, zero, suc, ◌+◌, ◌-◌, ◌*◌, ◌/◌, ◌%◌, ◌^◌, ◌≤◌, ◌<◌, ℤ, pos, negsuc, List, [], ◌∷◌, ◌++◌, map, length}
use Rattle.std.specs.Prelude.{Bool, ◌&&◌, Option, Some, None, nat_eq, nat_lt, slice_get, if◌then◌else◌}
use Rattle.std.specs.List.{list_all, flat_map}
use Rattle.std.proofs.Math.Nat.{mod-lt}
use Rattle.std.proofs.lemmas.Bool.{and_parts, lt-ltb}
use Rattle.std.proofs.lemmas.Bool.Decides.{nat_tests}
use Rattle.std.proofs.lemmas.List.{length-append}
use Rattle.asn1_types.specs.declared.row.Class.{Class}
use Rattle.asn1_types.specs.declared.row.Class.TheVariants.{Universal, Application, Context, Private}
use Rattle.asn1_types.specs.declared.row.Part.{Part}
use Rattle.asn1_types.specs.declared.row.TypeRow.{TypeRow}
use Rattle.asn1_types.specs.declared.row.TypeRow.TheVariants as row
use Rattle.asn1_types.specs.declared.row.Tag as tags
use Rattle.asn1_types.specs.Rows.{of_row, along, text_number}
use Rattle.asn1_types.specs.Fits.{is_octet}
use Rattle.asn1_types.specs.Tags.{tag_or, leading, ranks, front_rank}
use Rattle.asn1_types.specs.Value.{Value, boolean, integer, octets, bits, object_id, text, parts, list, chosen, any, MaybeValues, no_parts, absent, present, Values, no_values, value}
use Rattle.asn1_types.specs.Writing.{Writer, high_digits, base_128, digits_256, base_256, natural_octets, integer_octets, identifier, length_octets, definite, subidentifiers, boolean_contents, integer_contents, octets_contents, text_contents, bits_contents, object_id_contents, any_written, parts_contents, sequence_contents, of_rank, risen_parts, set_parts, values_contents, list_contents, alternative_written, choice_written, under, nothing_written, write_by, writes, written}
use Rattle.asn1_types.proofs.OctetTests.{octets_by_test, octets_pass}
use Rattle.der_octets.specs.Laws.{LeavesAre, LeavesInParts, LeavesInValues, DerAreOctets}

abbrev Are : List ℕ → Type 0
Are xs = list_all is_octet xs ≡ true

both : (a b : Bool) → a ≡ true → b ≡ true → (a && b) ≡ true
both true b e f = f
both false b e f = cc

append-are : (xs ys : List ℕ) → Are xs → Are ys → Are (xs ++ ys)
append-are [] ys h k = k
append-are (x ∷ xs) ys h k = let a = and_parts (is_octet x) (list_all is_octet xs) h in both (is_octet x) (list_all is_octet (xs ++ ys)) a.0 (append-are xs ys a.1 k)

cons-are : (x : ℕ) (xs : List ℕ) → x < 256 → Are xs → Are (x ∷ xs)
cons-are x xs lt h = ap (λ b. b && list_all is_octet xs) (lt-ltb x 256 lt) ∙ h

-- ---- digits

digits-are : (turns n : ℕ) (behind : List ℕ) → Are behind → Are (digits_256 turns n behind)
digits-are zero n behind h = h
digits-are (suc turns) n behind h = go (digits-are turns (n / 256) ((n % 256) ∷ behind) (cons-are (n % 256) behind (mod-lt n (omega arith)) h)) (nat_eq n 0)
  where
    go : Are (digits_256 turns (n / 256) ((n % 256) ∷ behind)) → (b : Bool) → Are (if b then behind else digits_256 turns (n / 256) ((n % 256) ∷ behind))
    go later true = h
    go later false = later

high-small : (n : ℕ) → 128 + n % 128 < 256
high-small n = let l : n % 128 < 128 = mod-lt n (omega arith) in omega arith

high-are : (turns n : ℕ) (behind : List ℕ) → Are behind → Are (high_digits turns n behind)
high-are zero n behind h = h
high-are (suc turns) n behind h = go (high-are turns (n / 128) ((128 + n % 128) ∷ behind) (cons-are (128 + n % 128) behind (high-small n) h)) (nat_eq n 0)
  where
    go : Are (high_digits turns (n / 128) ((128 + n % 128) ∷ behind)) → (b : Bool) → Are (if b then behind else high_digits turns (n / 128) ((128 + n % 128) ∷ behind))
    go later true = h
    go later false = later

base_128-are : (n : ℕ) → Are (base_128 n)
unfolding base_128
base_128-are n = let l : n % 128 < 128 = mod-lt n (omega arith) in high-are (n / 128) (n / 128) ((n % 128) ∷ []) (cons-are (n % 128) [] (omega arith) refl)

base_256-are : (n : ℕ) → Are (base_256 n)
unfolding base_256
base_256-are n = digits-are n n [] refl

-- numbers below 2^24 have three digits at most
digits-few : (k turns n : ℕ) (behind : List ℕ) → n < 256 ^ k → length (digits_256 turns n behind) ≤ k + length behind
digits-few k zero n behind h = omega arith
digits-few zero (suc turns) n behind h =
    let none : n ≡ 0 = omega arith in
    let s : length (if nat_eq n 0 then behind else digits_256 turns (n / 256) ((n % 256) ∷ behind)) ≤ length behind =
    subst (λ (m : ℕ). length (if nat_eq m 0 then behind else digits_256 turns (m / 256) ((m % 256) ∷ behind)) ≤ length behind) (sym none) (omega arith) in
    omega arith
digits-few (suc k) (suc turns) n behind h = go (digits-few k turns (n / 256) ((n % 256) ∷ behind) (lower n (256 ^ k) (subst (λ m. n < m) (powers k) h))) (nat_eq n 0)
  where
    lower : (n m : ℕ) → n < 256 * m → n / 256 < m
    lower n m h = omega arith

    powers : (k : ℕ) → 256 ^ suc k ≡ 256 * 256 ^ k
    powers k = omega arith

    go : length (digits_256 turns (n / 256) ((n % 256) ∷ behind)) ≤ k + suc (length behind) → (b : Bool) → length (if b then behind else digits_256 turns (n / 256) ((n % 256) ∷ behind)) ≤ suc k + length behind
    go later true = omega arith
    go later false = omega arith

base-few : (n : ℕ) → n < 2 ^ 24 → length (base_256 n) ≤ 3
unfolding base_256
base-few n h = let l = digits-few 3 n n [] (omega arith) in omega arith

natural-are : (turns n : ℕ) (behind : List ℕ) → n ≤ turns → Are behind → Are (natural_octets turns n behind)
natural-are zero n behind le h = cons-are n behind (omega arith) h
natural-are (suc turns) n behind le h = go (λ more. natural-are turns (n / 256) ((n % 256) ∷ behind) more (cons-are (n % 256) behind (mod-lt n (omega arith)) h)) (nat_lt n 128) refl
  where
    less : (n : ℕ) → nat_lt n 128 ≡ false → n ≤ suc turns → n / 256 ≤ turns
    less n e l = let m : 128 ≤ n = large n e in omega arith
      where
        large : (n : ℕ) → nat_lt n 128 ≡ false → 128 ≤ n
        large n e = grind (arith, nat_tests)

    small : (n : ℕ) → nat_lt n 128 ≡ true → n < 256
    small n e = let m : n < 128 = low n e in omega arith
      where
        low : (n : ℕ) → nat_lt n 128 ≡ true → n < 128
        low n e = grind (arith, nat_tests)

    go : (n / 256 ≤ turns → Are (natural_octets turns (n / 256) ((n % 256) ∷ behind))) → (b : Bool) → nat_lt n 128 ≡ b → Are (if b then n ∷ behind else natural_octets turns (n / 256) ((n % 256) ∷ behind))
    go later true e = cons-are n behind (small n e) h
    go later false e = later (less n e le)

turned-are : (xs : List ℕ) → Are (map (λ octet. 255 - octet) xs)
turned-are [] = refl
turned-are (x ∷ xs) = cons-are (255 - x) (map (λ octet. 255 - octet) xs) (omega arith) (turned-are xs)

number-are : (z : ℤ) → Are (integer_octets z)
unfolding integer_octets
number-are (pos n) = natural-are n n [] (omega arith) refl
number-are (negsuc n) = turned-are (natural_octets n n [])

flat-are : (ns : List ℕ) → Are (flat_map base_128 ns)
flat-are [] = refl
flat-are (n ∷ ns) = append-are (base_128 n) (flat_map base_128 ns) (base_128-are n) (flat-are ns)

-- ---- fields

leading-small : (class : Class) (constructed : Bool) → leading class constructed ≤ 224
leading-small Universal true = omega arith
leading-small Universal false = omega arith
leading-small Application true = omega arith
leading-small Application false = omega arith
leading-small Context true = omega arith
leading-small Context false = omega arith
leading-small Private true = omega arith
leading-small Private false = omega arith

identifier-are : (class : Class) (constructed : Bool) (number : ℕ) → Are (identifier class constructed number)
identifier-are class constructed number = go (nat_lt number 31) refl
  where
    low : (n : ℕ) → nat_lt n 31 ≡ true → n < 31
    low n e = grind (arith, nat_tests)

    go : (b : Bool) → nat_lt number 31 ≡ b → Are (if b then (leading class constructed + number) ∷ [] else (leading class constructed + 31) ∷ base_128 number)
    go true e = let l = leading-small class constructed in let s = low number e in cons-are (leading class constructed + number) [] (omega arith) refl
    go false e = let l = leading-small class constructed in cons-are (leading class constructed + 31) (base_128 number) (omega arith) (base_128-are number)

length-are : (n : ℕ) → n < 2 ^ 24 → Are (length_octets n)
length-are n few = go (nat_lt n 128) refl
  where
    low : (n : ℕ) → nat_lt n 128 ≡ true → n < 256
    low n e = grind (arith, nat_tests)

    go : (b : Bool) → nat_lt n 128 ≡ b → Are (if b then n ∷ [] else (128 + length (base_256 n)) ∷ base_256 n)
    go true e = cons-are n [] (low n e) refl
    go false e = let l = base-few n few in cons-are (128 + length (base_256 n)) (base_256 n) (omega arith) (base_256-are n)

abbrev Few : List ℕ → Type 0
Few xs = length xs < 2 ^ 24

few-left : (xs ys : List ℕ) → Few (xs ++ ys) → Few xs
few-left xs ys h = let l = length-append xs ys in omega arith

few-right : (xs ys : List ℕ) → Few (xs ++ ys) → Few ys
few-right xs ys h = let l = length-append xs ys in omega arith

inside : (constructed : Bool) (tag : tags.Tag) (c : List ℕ) → Few (definite constructed tag c) → Few c
inside constructed tag c h =
    few-right (length_octets (length c)) c (few-right (identifier tag.class constructed tag.number) (length_octets (length c) ++ c) h)

pub definite-are : (constructed : Bool) (tag : tags.Tag) (c : List ℕ) → Few (definite constructed tag c) → Are c → Are (definite constructed tag c)
definite-are constructed tag c few h =
    append-are (identifier tag.class constructed tag.number) (length_octets (length c) ++ c) (identifier-are tag.class constructed tag.number)
    (append-are (length_octets (length c)) c (length-are (length c) (inside constructed tag c few)) h)

-- ---- values

abbrev Writes : (ℕ → Writer) → Type 0
Writes w = (n : ℕ) (tag : Option tags.Tag) (v : Value) → LeavesAre v → Few (w n tag v) → Are (w n tag v)

parts-are : (w : ℕ → Writer) → Writes w → (ps : List Part) (vs : MaybeValues) → LeavesInParts vs → Few (parts_contents w ps vs) → Are (parts_contents w ps vs)
parts-are w writes [] vs a few = refl
parts-are w writes (p ∷ ps) no_parts a few = refl
parts-are w writes (p ∷ ps) (absent vs) a few = parts-are w writes ps vs a few
parts-are w writes (p ∷ ps) (present v vs) a few =
    append-are (w p.inner.0 None v) (parts_contents w ps vs) (writes p.inner.0 None v a.0 (few-left (w p.inner.0 None v) (parts_contents w ps vs) few))
    (parts-are w writes ps vs a.1 (few-right (w p.inner.0 None v) (parts_contents w ps vs) few))

-- only what has a tag of this rank
of_rank-writes : (w : ℕ → Writer) → Writes w → (r : ℕ) → Writes (of_rank r w)
of_rank-writes w writes r n tag v a few = go (nat_eq (front_rank (w n tag v)) r) few
  where
    go : (b : Bool) → Few (if b then w n tag v else []) → Are (if b then w n tag v else [])
    go true few = writes n tag v a few
    go false few = refl

risen-are : (w : ℕ → Writer) → Writes w → (many least : ℕ) (ps : List Part) (vs : MaybeValues) → LeavesInParts vs → Few (risen_parts w many least ps vs) → Are (risen_parts w many least ps vs)
unfolding risen_parts
risen-are w writes zero least ps vs a few = refl
risen-are w writes (suc many) least ps vs a few =
    let one : List ℕ = parts_contents (of_rank least w) ps vs in
    let rest : List ℕ = risen_parts w many (suc least) ps vs in
    append-are one rest (parts-are (of_rank least w) (of_rank-writes w writes least) ps vs a (few-left one rest few)) (risen-are w writes many (suc least) ps vs a (few-right one rest few))

module _ (w : ℕ → Writer) (writes : Writes w) where
  sequence-are : (ps : List Part) (v : Value) → LeavesAre v → Few (sequence_contents (parts_contents w ps) v) → Are (sequence_contents (parts_contents w ps) v)
  sequence-are ps (parts vs) a few = parts-are w writes ps vs a few
  sequence-are ps v a few = refl

  set-are : (ps : List Part) (v : Value) → LeavesAre v → Few (sequence_contents (set_parts w ps) v) → Are (sequence_contents (set_parts w ps) v)
  unfolding set_parts
  set-are ps (parts vs) a few = risen-are w writes ranks 0 ps vs a few
  set-are ps v a few = refl

  values-are : (n : ℕ) (vs : Values) → LeavesInValues vs → Few (values_contents (w n) vs) → Are (values_contents (w n) vs)
  values-are n no_values a few = refl
  values-are n (value v vs) a few =
      append-are (w n None v) (values_contents (w n) vs) (writes n None v a.0 (few-left (w n None v) (values_contents (w n) vs) few)) (values-are n vs a.1 (few-right (w n None v) (values_contents (w n) vs) few))

  list-are : (n : ℕ) (v : Value) → LeavesAre v → Few (list_contents (w n) v) → Are (list_contents (w n) v)
  list-are n (list vs) a few = values-are n vs a few
  list-are n v a few = refl

  alternative-are : (p : Option Part) (v : Value) → LeavesAre v → Few (alternative_written w p v) → Are (alternative_written w p v)
  alternative-are None v a few = refl
  alternative-are (Some p) v a few = writes p.inner.0 None v a few

  choice-are : (ps : List Part) (v : Value) → LeavesAre v → Few (choice_written (λ which. alternative_written w (slice_get ps which)) v) → Are (choice_written (λ which. alternative_written w (slice_get ps which)) v)
  choice-are ps (chosen which v) a few = alternative-are (slice_get ps which) v a few
  choice-are ps v a few = refl

  -- a field, from its contents
  field-are : (constructed : Bool) (tag : tags.Tag) (c : List ℕ) → Few (definite constructed tag c) → (Few c → Are c) → Are (definite constructed tag c)
  field-are constructed tag c few h = definite-are constructed tag c few (h (inside constructed tag c few))

  under-are : (write : Value → List ℕ) (tag : Option tags.Tag) (v : Value) → (Few (write v) → Are (write v)) → Few (under write tag v) → Are (under write tag v)
  under-are write None v h few = h few
  under-are write (Some tag) v h few = field-are true tag (write v) few h

  boolean-are : (v : Value) → Are (boolean_contents v)
  boolean-are (boolean true) = refl
  boolean-are (boolean false) = refl
  boolean-are v = refl

  integer-are : (v : Value) → Are (integer_contents v)
  integer-are (integer z) = number-are z
  integer-are v = refl

  octets-are : (v : Value) → LeavesAre v → Are (octets_contents v)
  octets-are (octets os) a = octets_pass os a
  octets-are v a = refl

  text-are : (v : Value) → LeavesAre v → Are (text_contents v)
  text-are (text os) a = octets_pass os a
  text-are v a = refl

  bits-are : (v : Value) → LeavesAre v → Are (bits_contents v)
  bits-are (bits os unused) a = cons-are unused os a.0 (octets_pass os a.1)
  bits-are v a = refl

  object_id-are : (v : Value) → Are (object_id_contents v)
  object_id-are (object_id arcs) = flat-are (subidentifiers arcs)
  object_id-are v = refl

  any-are : (v : Value) → LeavesAre v → Few (any_written v) → Are (any_written v)
  any-are (any os) a few = octets_pass os (a few)
  any-are v a few = refl

  row-are : (r : TypeRow) (tag : Option tags.Tag) (v : Value) → LeavesAre v → Few (write_by w r tag v) → Are (write_by w r tag v)
  row-are row.Boolean tag v a few = field-are false (tag_or tag Universal 1) (boolean_contents v) few (λ x. boolean-are v)
  row-are (row.Integer low high) tag v a few = field-are false (tag_or tag Universal 2) (integer_contents v) few (λ x. integer-are v)
  row-are (row.Enumerated named) tag v a few = field-are false (tag_or tag Universal 10) (integer_contents v) few (λ x. integer-are v)
  row-are row.Null tag v a few = field-are false (tag_or tag Universal 5) [] few (λ x. refl)
  row-are (row.OctetString most) tag v a few = field-are false (tag_or tag Universal 4) (octets_contents v) few (λ x. octets-are v a)
  row-are row.BitString tag v a few = field-are false (tag_or tag Universal 3) (bits_contents v) few (λ x. bits-are v a)
  row-are row.ObjectId tag v a few = field-are false (tag_or tag Universal 6) (object_id_contents v) few (λ x. object_id-are v)
  row-are (row.Text kind) tag v a few = field-are false (tag_or tag Universal (text_number kind)) (text_contents v) few (λ x. text-are v a)
  row-are (row.Sequence ps) tag v a few = field-are true (tag_or tag Universal 16) (sequence_contents (parts_contents w ps) v) few (sequence-are ps v a)
  row-are (row.Set ps) tag v a few = field-are true (tag_or tag Universal 17) (sequence_contents (set_parts w ps) v) few (set-are ps v a)
  row-are (row.SequenceOf of) tag v a few = field-are true (tag_or tag Universal 16) (list_contents (w of.0) v) few (list-are of.0 v a)
  row-are (row.SetOf of) tag v a few = field-are true (tag_or tag Universal 17) (list_contents (w of.0) v) few (list-are of.0 v a)
  row-are (row.Choice ps) tag v a few = under-are (choice_written (λ which. alternative_written w (slice_get ps which))) tag v (choice-are ps v a) few
  row-are (row.Tagged class number true of) tag v a few = field-are true (tag_or tag class number) (w of.0 None v) few (λ x. writes of.0 None v a x)
  row-are (row.Tagged class number false of) tag v a few = writes of.0 (Some (tag_or tag class number)) v a few
  row-are row.Any tag v a few = under-are any_written tag v (any-are v a) few

of_row-are : (w : ℕ → Writer) → Writes w → (o : Option TypeRow) (tag : Option tags.Tag) (v : Value) → LeavesAre v → Few (of_row nothing_written (write_by w) o tag v) → Are (of_row nothing_written (write_by w) o tag v)
of_row-are w writes None tag v a few = refl
of_row-are w writes (Some r) tag v a few = row-are w writes r tag v a few

along-are : (rows : List TypeRow) (turns : ℕ) → Writes (along nothing_written write_by rows turns)
along-are rows zero n tag v a few = refl
along-are rows (suc turns) n tag v a few = of_row-are (along nothing_written write_by rows turns) (along-are rows turns) (slice_get rows n) tag v a few

pub der-octets : DerAreOctets
unfolding written writes
der-octets rows n v a few = octets_by_test (written rows n v) (along-are rows (length rows) n None v a few)
