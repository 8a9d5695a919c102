-- Reading stays inside the octets: what is left ends where they end, and a fault stands at one of their places or at their
-- end. The reading function has no want of memory.
use Rattle.std.proofs.Common.{◌≡◌, ℕ, zero, suc, ◌+◌, ◌≤◌, Bool, true, false, cond, List, [], ◌∷◌, ◌++◌, length, take, Option, Some, None, Ok, Err, arith, inl, inr}
use Rattle.std.specs.Prelude.{nat_lt, nat_eq, slice_get}
use Rattle.std.proofs.lemmas.Bool.{cases_lt, lt-ltb, le-ltb}
use Rattle.std.proofs.lemmas.List.{length-drop}
use Rattle.asn1_types.specs.declared.row.Part.{Part}
use Rattle.asn1_types.specs.declared.row.TypeRow.{TypeRow}
use Rattle.asn1_types.specs.declared.row.TypeRow.TheVariants as row
use Rattle.asn1_types.specs.Rows.{of_row, along}
use Rattle.asn1_types.specs.Value.{Value}
use Rattle.asn1_types.specs.Defaults.{may_be_absent, is_default}
use Rattle.packed_codec.specs.declared.fault.PackedFault.TheVariants as faults
use Rattle.packed_codec.specs.Reading.{Spot, Reading, ◌>>=◌, within}
use Rattle.packed_codec.specs.Fields.{moved, announced_at, field_at, octet_at, count_at}
use Rattle.packed_codec.specs.Numbers.{is_size}
use Rattle.packed_codec.specs.Rules.{Reader, some_or_refuse, boolean_rule, boolean_at, null_at, sized_at, number_at, string_at, bits_at, bits_size, bits_rule, present_at, part_at, parts_at, sequence_at, items_at, spent, list_at, alternative_at, choice_at, dead, read_by, set_item_at, set_items_at, set_of_at}
use Rattle.asn1_types.specs.Writing.{written}
use Rattle.asn1_types.specs.Rising.{behind_last}

-- where the octets end
abbrev pub end_of : Spot → ℕ
end_of s = s.place + length s.rest

abbrev pub Inside : {A : Type 0} → (A → Spot) → ℕ → Reading A → Type 0
Inside spot end (Ok x) = end_of (spot x) ≡ end
Inside spot end (Err (faults.NotSpelled place kind)) = place ≤ end
Inside spot end (Err faults.Short) = Unit {0}
Inside spot end (Err (faults.TooLong place)) = place ≤ end
Inside spot end (Err faults.NoMemory) = ⊥

then_inside : {A B : Type 0} (a : A → Spot) (b : B → Spot) (end : ℕ) (r : Reading A) (f : A → Reading B) → Inside a end r → ((x : A) → end_of (a x) ≡ end → Inside b end (f x)) → Inside b end (r >>= f)
then_inside a b end (Ok x) f h k = k x h
then_inside a b end (Err (faults.NotSpelled place kind)) f h k = h
then_inside a b end (Err faults.Short) f h k = tt
then_inside a b end (Err (faults.TooLong place)) f h k = h
then_inside a b end (Err faults.NoMemory) f h k = h

either_inside : {A : Type 0} (a : A → Spot) (end : ℕ) (b : Bool) (r s : Reading A) → Inside a end r → Inside a end s → Inside a end (cond b r s)
either_inside a end true r s h k = h
either_inside a end false r s h k = k

judged_inside : {B : Type 0} (b : B → Spot) (end place : ℕ) (o : Option Value) (f : Value → Reading B) → place ≤ end → ((v : Value) → Inside b end (f v)) → Inside b end (some_or_refuse place o >>= f)
judged_inside b end place None f le k = le
judged_inside b end place (Some v) f le k = k v

abbrev pub second : {A : Type 0} → A × Spot → Spot
second x = x.1

starts_inside : (s : Spot) (end : ℕ) → end_of s ≡ end → s.place ≤ end
starts_inside s end e = omega arith

-- ---- fields

within_inside : {B : Type 0} (b : B → Spot) (limit place until end : ℕ) (f : Unit {0} → Reading B) → place ≤ end → Inside b end (f tt) → Inside b end (within limit place until >>= f)
unfolding within
within_inside b limit place until end f le h = by_test (nat_lt limit until)
  where
    by_test : (t : Bool) → Inside b end (cond t (Err (faults.TooLong place)) (Ok tt) >>= f)
    by_test true = le
    by_test false = h

enough_inside : (size : ℕ) (s : Spot) (end : ℕ) → end_of s ≡ end → Inside second end (cond (nat_lt (length s.rest) size) (Err faults.Short) (Ok (take size s.rest, moved size s)))
enough_inside size s end e =
    elim (cases_lt (length s.rest) size) [
      | inl lt ↦ rw (lt-ltb (length s.rest) size lt) tt
      | inr le ↦ let d = length-drop size s.rest in rw (le-ltb (length s.rest) size le) (omega arith)
    ]

announced_inside : (limit place : ℕ) (allowed : Bool) (size : ℕ) (s : Spot) (end : ℕ) → end_of s ≡ end → place ≤ end → Inside second end (announced_at limit place allowed size s)
unfolding announced_at
announced_inside limit place allowed size s end e le =
    within_inside second limit place (s.place + size) end _ le (either_inside second end allowed _ _ (enough_inside size s end e) le)

field_inside : (limit size : ℕ) (s : Spot) (end : ℕ) → end_of s ≡ end → Inside second end (field_at limit size s)
unfolding field_at
field_inside limit size s end e = either_inside second end (nat_eq (length s.rest) 0) _ _ tt (announced_inside limit s.place true size s end e (starts_inside s end e))

octet_inside : (limit : ℕ) (s : Spot) (end : ℕ) → end_of s ≡ end → Inside second end (octet_at limit s)
unfolding octet_at
octet_inside limit s end e = then_inside second second end (field_at limit 1 s) _ (field_inside limit 1 s end e) (λ x d. d)

count_inside : (limit : ℕ) (s : Spot) (end : ℕ) → end_of s ≡ end → Inside second end (count_at limit s)
unfolding count_at
count_inside limit s end e = then_inside second second end (field_at limit 4 s) _ (field_inside limit 4 s end e) (λ x d. d)

-- ---- rows of one field

pub record StaysInside (r : Reader) : Type 0 where
  pub each : (limit : ℕ) (s : Spot) (end : ℕ) → end_of s ≡ end → Inside second end (r limit s)

sized_inside : (limit place : ℕ) (few : ℕ → Bool) (rule : List ℕ → Option Value) (n : ℕ) (s : Spot) (end : ℕ) → end_of s ≡ end → place ≤ end → Inside second end (sized_at limit place few rule (n, s))
unfolding sized_at
sized_inside limit place few rule n s end e le =
    then_inside second second end (announced_at limit place (few n) n s) _ (announced_inside limit place (few n) n s end e le) (λ c d.
    judged_inside second end s.place (rule c.0) _ (starts_inside s end e) (λ v. d))

number_inside : (rule : List ℕ → Option Value) → StaysInside (number_at rule)
unfolding number_at
number_inside rule = record {
  each = λ limit s end e.
      then_inside second second end (octet_at limit s) _ (octet_inside limit s end e) (λ n d.
      either_inside second end (is_size n.0) _ _ (sized_inside limit s.place is_size rule n.0 n.1 end d (starts_inside s end e)) (starts_inside s end e));
}

string_inside : (few : ℕ → Bool) (rule : List ℕ → Option Value) → StaysInside (string_at few rule)
unfolding string_at
string_inside few rule = record {
  each = λ limit s end e.
      then_inside second second end (count_at limit s) _ (count_inside limit s end e) (λ n d.
      sized_inside limit s.place few rule n.0 n.1 end d (starts_inside s end e));
}

boolean_inside : StaysInside boolean_at
unfolding boolean_at
boolean_inside = record {
  each = λ limit s end e.
      then_inside second second end (octet_at limit s) _ (octet_inside limit s end e) (λ o d.
      judged_inside second end s.place (boolean_rule o.0) _ (starts_inside s end e) (λ v. d));
}

null_inside : StaysInside null_at
unfolding null_at
null_inside = record { each = λ limit s end e. e }

bits_inside : StaysInside bits_at
unfolding bits_at
bits_inside = record {
  each = λ limit s end e.
      then_inside second second end (octet_at limit s) _ (octet_inside limit s end e) (λ u d.
      either_inside second end (nat_lt u.0 8) _ _ ((string_inside (bits_size u.0) (bits_rule u.0)).each limit u.1 end d) (starts_inside s end e));
}

-- ---- rows that hold values

present_inside : (r : Reader) → StaysInside r → (p : Part) (limit : ℕ) (s : Spot) (end : ℕ) → end_of s ≡ end → Inside second end (present_at r p limit s)
unfolding present_at
present_inside r h p limit s end e =
    then_inside second second end (r limit s) _ (h.each limit s end e) (λ v d.
    either_inside second end (is_default p.default v.0) _ _ (let le : v.1.place ≤ end = starts_inside v.1 end d in omega arith) d)

part_inside : (r : Reader) → StaysInside r → (p : Part) (limit : ℕ) (s : Spot) (end : ℕ) → end_of s ≡ end → Inside second end (part_at r p limit s)
unfolding part_at
part_inside r h p limit s end e =
    either_inside second end (may_be_absent p) _ _
    (then_inside second second end (octet_at limit s) _ (octet_inside limit s end e) (λ m d.
    either_inside second end (nat_eq m.0 0) _ _ d (either_inside second end (nat_eq m.0 1) _ _ (present_inside r h p limit m.1 end d) (starts_inside s end e))))
    (present_inside r h p limit s end e)

items_inside : (r : Reader) → StaysInside r → (n limit : ℕ) (s : Spot) (end : ℕ) → end_of s ≡ end → Inside second end (items_at r n limit s)
unfolding items_at
items_inside r h zero limit s end e = e
items_inside r h (suc n) limit s end e =
    then_inside second second end (r limit s) _ (h.each limit s end e) (λ x d.
    then_inside second second end (items_at r n limit x.1) _ (items_inside r h n limit x.1 end d) (λ y g. g))

list_inside : (r : Reader) → StaysInside r → StaysInside (list_at r)
unfolding list_at
list_inside r h = record {
  each = λ limit s end e.
      then_inside second second end (count_at limit s) _ (count_inside limit s end e) (λ n d.
      either_inside second end (nat_lt n.1.left n.0) _ _ (starts_inside s end e)
      (then_inside second second end (items_at r n.0 limit (spent n.0 n.1)) _ (items_inside r h n.0 limit (spent n.0 n.1) end d) (λ y g. g)));
}

set_item_inside : (spell : Value → List ℕ) (r : Reader) → StaysInside r → (before : List Value) → StaysInside (set_item_at spell r before)
unfolding set_item_at
set_item_inside spell r h before = record {
  each = λ limit s end e.
      then_inside second second end (r limit s) _ (h.each limit s end e) (λ v d.
      either_inside second end (behind_last spell before v.0) _ _ d (starts_inside s end e));
}

set_items_inside : (step : List Value → Reader) → ((before : List Value) → StaysInside (step before)) → (before : List Value) (n limit : ℕ) (s : Spot) (end : ℕ) → end_of s ≡ end → Inside second end (set_items_at step before n limit s)
unfolding set_items_at
set_items_inside step h before zero limit s end e = e
set_items_inside step h before (suc n) limit s end e =
    then_inside second second end (step before limit s) _ ((h before).each limit s end e) (λ x d.
    then_inside second second end (set_items_at step (before ++ x.0 ∷ []) n limit x.1) _ (set_items_inside step h (before ++ x.0 ∷ []) n limit x.1 end d) (λ y g. g))

set_of_inside : (spell : Value → List ℕ) (r : Reader) → StaysInside r → StaysInside (set_of_at spell r)
unfolding set_of_at
set_of_inside spell r h = record {
  each = λ limit s end e.
      then_inside second second end (count_at limit s) _ (count_inside limit s end e) (λ n d.
      either_inside second end (nat_lt n.1.left n.0) _ _ (starts_inside s end e)
      (then_inside second second end (set_items_at (set_item_at spell r) [] n.0 limit (spent n.0 n.1)) _ (set_items_inside (set_item_at spell r) (set_item_inside spell r h) [] n.0 limit (spent n.0 n.1) end d) (λ y g. g)));
}

-- nothing is read
dead_inside : StaysInside dead
dead_inside = record { each = λ limit s end e. starts_inside s end e }

module _ (spell : ℕ → Value → List ℕ) (inner : ℕ → Reader) (h : (n : ℕ) → StaysInside (inner n)) where
  parts_inside : (ps : List Part) (limit : ℕ) (s : Spot) (end : ℕ) → end_of s ≡ end → Inside second end (parts_at inner limit s ps)
  unfolding parts_at
  parts_inside [] limit s end e = e
  parts_inside (p ∷ ps) limit s end e =
      then_inside second second end (part_at (inner p.inner.0) p limit s) _ (part_inside (inner p.inner.0) (h p.inner.0) p limit s end e) (λ x d.
      then_inside second second end (parts_at inner limit x.1 ps) _ (parts_inside ps limit x.1 end d) (λ y g. g))

  sequence_inside : (ps : List Part) → StaysInside (sequence_at inner ps)
  unfolding sequence_at
  sequence_inside ps = record {
    each = λ limit s end e. then_inside second second end (parts_at inner limit s ps) _ (parts_inside ps limit s end e) (λ y g. g);
  }

  alternative_inside : (place which : ℕ) (o : Option Part) (limit : ℕ) (s : Spot) (end : ℕ) → end_of s ≡ end → place ≤ end → Inside second end (alternative_at inner place which o limit s)
  alternative_inside place which None limit s end e le = le
  alternative_inside place which (Some p) limit s end e le = then_inside second second end (inner p.inner.0 limit s) _ ((h p.inner.0).each limit s end e) (λ v d. d)

  choice_inside : (ps : List Part) → StaysInside (choice_at inner ps)
  unfolding choice_at
  choice_inside ps = record {
    each = λ limit s end e.
        then_inside second second end (octet_at limit s) _ (octet_inside limit s end e) (λ o d.
        alternative_inside s.place o.0 (slice_get ps o.0) limit o.1 end d (starts_inside s end e));
  }

  row_inside : (r : TypeRow) → StaysInside (read_by spell inner r)
  row_inside row.Boolean = boolean_inside
  row_inside (row.Integer low high) = number_inside _
  row_inside (row.Enumerated items) = number_inside _
  row_inside row.Null = null_inside
  row_inside (row.OctetString most) = string_inside _ _
  row_inside row.BitString = bits_inside
  row_inside row.ObjectId = string_inside _ _
  row_inside (row.Text kind) = string_inside _ _
  row_inside (row.Sequence ps) = sequence_inside ps
  row_inside (row.Set ps) = sequence_inside ps
  row_inside (row.SequenceOf of) = list_inside (inner of.0) (h of.0)
  row_inside (row.SetOf of) = set_of_inside (spell of.0) (inner of.0) (h of.0)
  row_inside (row.Choice ps) = choice_inside ps
  row_inside (row.Tagged class number explicit of) = h of.0
  row_inside row.Any = dead_inside

-- ---- down the table

of_row_inside : (rows : List TypeRow) (turns : ℕ) → ((m : ℕ) → StaysInside (along dead (read_by (written rows)) rows turns m)) → (o : Option TypeRow) → StaysInside (of_row dead (read_by (written rows) (along dead (read_by (written rows)) rows turns)) o)
of_row_inside rows turns h None = dead_inside
of_row_inside rows turns h (Some r) = row_inside (written rows) (along dead (read_by (written rows)) rows turns) h r

pub along_inside : (rows : List TypeRow) (turns n : ℕ) → StaysInside (along dead (read_by (written rows)) rows turns n)
along_inside rows zero n = dead_inside
along_inside rows (suc turns) n = of_row_inside rows turns (λ m. along_inside rows turns m) (slice_get rows n)
