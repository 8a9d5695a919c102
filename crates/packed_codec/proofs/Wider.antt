-- Under a larger limit all stays but what was too long.
use Rattle.std.proofs.Common.{◌++◌, ◌≡◌, ◌≢◌, sym, ap, ◌∙◌, ◌<◌, ℕ, zero, suc, ◌+◌, ◌≤◌, Bool, true, false, cond, List, [], ◌∷◌, length, Option, Some, None, Ok, Err, refl, arith}
use Rattle.std.specs.Prelude.{nat_lt, nat_eq, slice_get}
use Rattle.std.proofs.lemmas.Bool.{le-ltb, ltb-false}
use Rattle.asn1_types.specs.declared.row.Part.{Part}
use Rattle.asn1_types.specs.declared.row.TypeRow.{TypeRow}
use Rattle.asn1_types.specs.declared.row.TypeRow.TheVariants as row
use Rattle.asn1_types.specs.Rows.{of_row, along}
use Rattle.asn1_types.specs.Value.{Value}
use Rattle.asn1_types.specs.Defaults.{may_be_absent}
use Rattle.packed_codec.specs.declared.fault.PackedFault.TheVariants as faults
use Rattle.packed_codec.specs.Reading.{Spot, Reading, ◌>>=◌, within}
use Rattle.packed_codec.specs.Fields.{announced_at, field_at, octet_at, count_at}
use Rattle.packed_codec.specs.Numbers.{is_size}
use Rattle.packed_codec.specs.Laws.{WiderStays, WiderIsLong}
use Rattle.packed_codec.proofs.Reach.{used_within}
use Rattle.packed_codec.specs.Rules.{start, reads, read_at, Reader, boolean_at, null_at, sized_at, number_at, string_at, bits_at, bits_size, bits_rule, present_at, marked_at, part_at, parts_at, sequence_at, items_at, spent, list_at, alternative_at, choice_at, dead, read_by, set_item_at, set_items_at, set_of_at}
use Rattle.asn1_types.specs.Writing.{written}

-- what was read, and what is read under a larger limit
abbrev Wider : {A : Type 0} → Reading A → Reading A → Type 0
Wider (Ok x) read = read ≡ Ok x
Wider (Err (faults.NotSpelled place kind)) read = read ≡ Err (faults.NotSpelled place kind)
Wider (Err faults.Short) read = read ≡ Err faults.Short
Wider (Err (faults.TooLong place)) read = Unit {0}
Wider (Err faults.NoMemory) read = read ≡ Err faults.NoMemory

then_wider : {A B : Type 0} (r s : Reading A) (f g : A → Reading B) → Wider r s → ((x : A) → Wider (f x) (g x)) → Wider (r >>= f) (s >>= g)
then_wider (Ok x) s f g h k = rw h (k x)
then_wider (Err (faults.NotSpelled place kind)) s f g h k = rw h refl
then_wider (Err faults.Short) s f g h k = rw h refl
then_wider (Err (faults.TooLong place)) s f g h k = tt
then_wider (Err faults.NoMemory) s f g h k = rw h refl

still_wider : {A : Type 0} (r : Reading A) → Wider r r
still_wider (Ok x) = refl
still_wider (Err (faults.NotSpelled place kind)) = refl
still_wider (Err faults.Short) = refl
still_wider (Err (faults.TooLong place)) = tt
still_wider (Err faults.NoMemory) = refl

either_wider : {A : Type 0} (b : Bool) (r s x y : Reading A) → Wider r x → Wider s y → Wider (cond b r s) (cond b x y)
either_wider true r s x y h k = h
either_wider false r s x y h k = k

abbrev passed : Reading (Unit {0})
passed = Ok tt

test_wider : (more place until : ℕ) (t : Bool) → (t ≡ false → nat_lt more until ≡ false) → Wider {A = Unit {0}} (cond t (Err (faults.TooLong place)) passed) (cond (nat_lt more until) (Err (faults.TooLong place)) passed)
test_wider more place until true k = tt
test_wider more place until false k = rw (k refl) refl

low_wider : (limit more until : ℕ) → limit ≤ more → nat_lt limit until ≡ false → nat_lt more until ≡ false
low_wider limit more until le t = le-ltb more until (let low : until ≤ limit = ltb-false limit until t in omega arith)

within_wider : (limit more place until : ℕ) → limit ≤ more → Wider (within limit place until) (within more place until)
unfolding within
within_wider limit more place until le = test_wider more place until (nat_lt limit until) (low_wider limit more until le)

-- ---- fields

announced_wider : (limit more place : ℕ) (allowed : Bool) (size : ℕ) (s : Spot) → limit ≤ more → Wider (announced_at limit place allowed size s) (announced_at more place allowed size s)
unfolding announced_at
announced_wider limit more place allowed size s le = then_wider (within limit place (s.place + size)) (within more place (s.place + size)) _ _ (within_wider limit more place (s.place + size) le) (λ u. still_wider _)

field_wider : (limit more size : ℕ) (s : Spot) → limit ≤ more → Wider (field_at limit size s) (field_at more size s)
unfolding field_at
field_wider limit more size s le = either_wider (nat_eq (length s.rest) 0) _ _ _ _ refl (announced_wider limit more s.place true size s le)

octet_wider : (limit more : ℕ) (s : Spot) → limit ≤ more → Wider (octet_at limit s) (octet_at more s)
unfolding octet_at
octet_wider limit more s le = then_wider (field_at limit 1 s) (field_at more 1 s) _ _ (field_wider limit more 1 s le) (λ x. refl)

count_wider : (limit more : ℕ) (s : Spot) → limit ≤ more → Wider (count_at limit s) (count_at more s)
unfolding count_at
count_wider limit more s le = then_wider (field_at limit 4 s) (field_at more 4 s) _ _ (field_wider limit more 4 s le) (λ x. refl)

-- ---- rows of one field

record GoesWider (r : Reader) : Type 0 where
  each : (limit more : ℕ) (s : Spot) → limit ≤ more → Wider (r limit s) (r more s)

sized_wider : (limit more place : ℕ) (few : ℕ → Bool) (rule : List ℕ → Option Value) (n : ℕ × Spot) → limit ≤ more → Wider (sized_at limit place few rule n) (sized_at more place few rule n)
unfolding sized_at
sized_wider limit more place few rule n le = then_wider (announced_at limit place (few n.0) n.0 n.1) (announced_at more place (few n.0) n.0 n.1) _ _ (announced_wider limit more place (few n.0) n.0 n.1 le) (λ c. still_wider _)

number_wider : (rule : List ℕ → Option Value) → GoesWider (number_at rule)
unfolding number_at
number_wider rule = record {
  each = λ limit more s le.
      then_wider (octet_at limit s) (octet_at more s) _ _ (octet_wider limit more s le) (λ n. either_wider (is_size n.0) _ _ _ _ (sized_wider limit more s.place is_size rule n le) refl);
}

string_wider : (few : ℕ → Bool) (rule : List ℕ → Option Value) → GoesWider (string_at few rule)
unfolding string_at
string_wider few rule = record {
  each = λ limit more s le. then_wider (count_at limit s) (count_at more s) _ _ (count_wider limit more s le) (λ n. sized_wider limit more s.place few rule n le);
}

boolean_wider : GoesWider boolean_at
unfolding boolean_at
boolean_wider = record { each = λ limit more s le. then_wider (octet_at limit s) (octet_at more s) _ _ (octet_wider limit more s le) (λ o. still_wider _) }

null_wider : GoesWider null_at
unfolding null_at
null_wider = record { each = λ limit more s le. refl }

bits_wider : GoesWider bits_at
unfolding bits_at
bits_wider = record {
  each = λ limit more s le.
      then_wider (octet_at limit s) (octet_at more s) _ _ (octet_wider limit more s le) (λ u. either_wider (nat_lt u.0 8) _ _ _ _ ((string_wider (bits_size u.0) (bits_rule u.0)).each limit more u.1 le) refl);
}

-- ---- rows that hold values

present_wider : (r : Reader) → GoesWider r → (p : Part) (limit more : ℕ) (s : Spot) → limit ≤ more → Wider (present_at r p limit s) (present_at r p more s)
unfolding present_at
present_wider r h p limit more s le = then_wider (r limit s) (r more s) _ _ (h.each limit more s le) (λ v. still_wider _)

marked_wider : (r : Reader) → GoesWider r → (p : Part) (limit more place : ℕ) (m : ℕ × Spot) → limit ≤ more → Wider (marked_at r p limit place m) (marked_at r p more place m)
marked_wider r h p limit more place m le =
    either_wider (nat_eq m.0 0) _ _ _ _ refl (either_wider (nat_eq m.0 1) _ _ _ _ (present_wider r h p limit more m.1 le) refl)

part_wider : (r : Reader) → GoesWider r → (p : Part) (limit more : ℕ) (s : Spot) → limit ≤ more → Wider (part_at r p limit s) (part_at r p more s)
unfolding part_at
part_wider r h p limit more s le =
    either_wider (may_be_absent p) _ _ _ _ (then_wider (octet_at limit s) (octet_at more s) _ _ (octet_wider limit more s le) (λ m. marked_wider r h p limit more s.place m le)) (present_wider r h p limit more s le)

items_wider : (r : Reader) → GoesWider r → (n limit more : ℕ) (s : Spot) → limit ≤ more → Wider (items_at r n limit s) (items_at r n more s)
unfolding items_at
items_wider r h zero limit more s le = refl
items_wider r h (suc n) limit more s le =
    then_wider (r limit s) (r more s) _ _ (h.each limit more s le) (λ x. then_wider (items_at r n limit x.1) (items_at r n more x.1) _ _ (items_wider r h n limit more x.1 le) (λ y. refl))

list_wider : (r : Reader) → GoesWider r → GoesWider (list_at r)
unfolding list_at
list_wider r h = record {
  each = λ limit more s le.
      then_wider (count_at limit s) (count_at more s) _ _ (count_wider limit more s le) (λ n.
      either_wider (nat_lt n.1.left n.0) _ _ _ _ refl
      (then_wider (items_at r n.0 limit (spent n.0 n.1)) (items_at r n.0 more (spent n.0 n.1)) _ _ (items_wider r h n.0 limit more (spent n.0 n.1) le) (λ y. refl)));
}

set_item_wider : (spell : Value → List ℕ) (r : Reader) → GoesWider r → (before : List Value) → GoesWider (set_item_at spell r before)
unfolding set_item_at
set_item_wider spell r h before = record { each = λ limit more s le. then_wider (r limit s) (r more s) _ _ (h.each limit more s le) (λ v. still_wider _) }

set_items_wider : (step : List Value → Reader) → ((before : List Value) → GoesWider (step before)) → (before : List Value) (n limit more : ℕ) (s : Spot) → limit ≤ more → Wider (set_items_at step before n limit s) (set_items_at step before n more s)
unfolding set_items_at
set_items_wider step h before zero limit more s le = refl
set_items_wider step h before (suc n) limit more s le =
    then_wider (step before limit s) (step before more s) _ _ ((h before).each limit more s le) (λ x.
    then_wider (set_items_at step (before ++ x.0 ∷ []) n limit x.1) (set_items_at step (before ++ x.0 ∷ []) n more x.1) _ _ (set_items_wider step h (before ++ x.0 ∷ []) n limit more x.1 le) (λ y. refl))

set_of_wider : (spell : Value → List ℕ) (r : Reader) → GoesWider r → GoesWider (set_of_at spell r)
unfolding set_of_at
set_of_wider spell r h = record {
  each = λ limit more s le.
      then_wider (count_at limit s) (count_at more s) _ _ (count_wider limit more s le) (λ n.
      either_wider (nat_lt n.1.left n.0) _ _ _ _ refl
      (then_wider (set_items_at (set_item_at spell r) [] n.0 limit (spent n.0 n.1)) (set_items_at (set_item_at spell r) [] n.0 more (spent n.0 n.1)) _ _ (set_items_wider (set_item_at spell r) (set_item_wider spell r h) [] n.0 limit more (spent n.0 n.1) le) (λ y. refl)));
}

dead_wider : GoesWider dead
dead_wider = record { each = λ limit more s le. refl }

module _ (spell : ℕ → Value → List ℕ) (inner : ℕ → Reader) (h : (n : ℕ) → GoesWider (inner n)) where
  parts_wider : (ps : List Part) (limit more : ℕ) (s : Spot) → limit ≤ more → Wider (parts_at inner limit s ps) (parts_at inner more s ps)
  unfolding parts_at
  parts_wider [] limit more s le = refl
  parts_wider (p ∷ ps) limit more s le =
      then_wider (part_at (inner p.inner.0) p limit s) (part_at (inner p.inner.0) p more s) _ _ (part_wider (inner p.inner.0) (h p.inner.0) p limit more s le) (λ x.
      then_wider (parts_at inner limit x.1 ps) (parts_at inner more x.1 ps) _ _ (parts_wider ps limit more x.1 le) (λ y. refl))

  sequence_wider : (ps : List Part) → GoesWider (sequence_at inner ps)
  unfolding sequence_at
  sequence_wider ps = record { each = λ limit more s le. then_wider (parts_at inner limit s ps) (parts_at inner more s ps) _ _ (parts_wider ps limit more s le) (λ y. refl) }

  alternative_wider : (place which : ℕ) (o : Option Part) (limit more : ℕ) (s : Spot) → limit ≤ more → Wider (alternative_at inner place which o limit s) (alternative_at inner place which o more s)
  alternative_wider place which None limit more s le = refl
  alternative_wider place which (Some p) limit more s le = then_wider (inner p.inner.0 limit s) (inner p.inner.0 more s) _ _ ((h p.inner.0).each limit more s le) (λ v. refl)

  choice_wider : (ps : List Part) → GoesWider (choice_at inner ps)
  unfolding choice_at
  choice_wider ps = record {
    each = λ limit more s le. then_wider (octet_at limit s) (octet_at more s) _ _ (octet_wider limit more s le) (λ o. alternative_wider s.place o.0 (slice_get ps o.0) limit more o.1 le);
  }

  row_wider : (r : TypeRow) → GoesWider (read_by spell inner r)
  row_wider row.Boolean = boolean_wider
  row_wider (row.Integer low high) = number_wider _
  row_wider (row.Enumerated items) = number_wider _
  row_wider row.Null = null_wider
  row_wider (row.OctetString most) = string_wider _ _
  row_wider row.BitString = bits_wider
  row_wider row.ObjectId = string_wider _ _
  row_wider (row.Text kind) = string_wider _ _
  row_wider (row.Sequence ps) = sequence_wider ps
  row_wider (row.Set ps) = sequence_wider ps
  row_wider (row.SequenceOf of) = list_wider (inner of.0) (h of.0)
  row_wider (row.SetOf of) = set_of_wider (spell of.0) (inner of.0) (h of.0)
  row_wider (row.Choice ps) = choice_wider ps
  row_wider (row.Tagged class number explicit of) = h of.0
  row_wider row.Any = dead_wider

-- ---- down the table

of_row_wider : (rows : List TypeRow) (turns : ℕ) → ((m : ℕ) → GoesWider (along dead (read_by (written rows)) rows turns m)) → (o : Option TypeRow) → GoesWider (of_row dead (read_by (written rows) (along dead (read_by (written rows)) rows turns)) o)
of_row_wider rows turns h None = dead_wider
of_row_wider rows turns h (Some r) = row_wider (written rows) (along dead (read_by (written rows)) rows turns) h r

along_wider : (rows : List TypeRow) (turns n : ℕ) → GoesWider (along dead (read_by (written rows)) rows turns n)
along_wider rows zero n = dead_wider
along_wider rows (suc turns) n = of_row_wider rows turns (λ m. along_wider rows turns m) (slice_get rows n)

read_wider : (rows : List TypeRow) (n limit more : ℕ) (bytes : List ℕ) → limit ≤ more → Wider (read_at rows n limit bytes) (read_at rows n more bytes)
unfolding read_at reads
read_wider rows n limit more bytes le =
    then_wider (along dead (read_by (written rows)) rows (length rows) n limit (start bytes)) (along dead (read_by (written rows)) rows (length rows) n more (start bytes)) _ _ ((along_wider rows (length rows) n).each limit more (start bytes) le) (λ x. refl)

stays : (r s : Reading (Value × ℕ)) → ((place : ℕ) → r ≢ Err (faults.TooLong place)) → Wider r s → s ≡ r
stays (Ok x) s ne h = h
stays (Err (faults.NotSpelled place kind)) s ne h = h
stays (Err faults.Short) s ne h = h
stays (Err (faults.TooLong place)) s ne h = absurd (ne place refl)
stays (Err faults.NoMemory) s ne h = h

pub wider_stays : WiderStays
wider_stays rows n limit more bytes le ne = stays (read_at rows n limit bytes) (read_at rows n more bytes) ne (read_wider rows n limit more bytes le)

abbrev used_of : ℕ → Reading (Value × ℕ) → ℕ
used_of n (Ok x) = x.1
used_of n (Err e) = n

long : (limit more used : ℕ) (v : Value) (r s : Reading (Value × ℕ)) → Wider r s → s ≡ Ok (v, used) → limit < used → ((w : Value) (k : ℕ) → r ≡ Ok (w, k) → k ≤ limit) → (place : ℕ) × (r ≡ Err (faults.TooLong place))
long limit more used v (Ok x) s h e lt few =
    let same : ◌≡◌ {A = Reading (Value × ℕ)} (Ok x) (Ok (v, used)) = sym h ∙ e in
    let le : x.1 ≤ limit = few x.0 x.1 refl in
    absurd (let k : x.1 ≡ used = ap (used_of used) same in omega arith)
long limit more used v (Err (faults.NotSpelled place kind)) s h e lt few = absurd (let no : ◌≡◌ {A = Reading (Value × ℕ)} (Err (faults.NotSpelled place kind)) (Ok (v, used)) = sym h ∙ e in cc)
long limit more used v (Err faults.Short) s h e lt few = absurd (let no : ◌≡◌ {A = Reading (Value × ℕ)} (Err faults.Short) (Ok (v, used)) = sym h ∙ e in cc)
long limit more used v (Err (faults.TooLong place)) s h e lt few = (place, refl)
long limit more used v (Err faults.NoMemory) s h e lt few = absurd (let no : ◌≡◌ {A = Reading (Value × ℕ)} (Err faults.NoMemory) (Ok (v, used)) = sym h ∙ e in cc)

pub wider_is_long : WiderIsLong
wider_is_long rows n limit more bytes v used le e lt = long limit more used v (read_at rows n limit bytes) (read_at rows n more bytes) (read_wider rows n limit more bytes le) e lt (λ w k f. used_within rows n limit bytes w k f)
