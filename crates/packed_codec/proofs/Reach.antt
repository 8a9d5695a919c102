-- Values that end too early have no octet past the limit, and what is read is within it.
use Rattle.std.proofs.Common.{◌++◌, ◌≡◌, ℕ, zero, suc, ◌+◌, ◌≤◌, Bool, true, false, cond, List, [], ◌∷◌, length, take, Option, Some, None, Ok, Err, refl, subst, arith, inl, inr}
use Rattle.std.specs.Prelude.{nat_lt, nat_eq, slice_get}
use Rattle.std.proofs.lemmas.Bool.{cases_lt, lt-ltb, le-ltb, eqb-true, ltb-false}
use Rattle.std.proofs.lemmas.List.{length-drop}
use Rattle.asn1_types.specs.declared.row.Part.{Part}
use Rattle.asn1_types.specs.declared.row.TypeRow.{TypeRow}
use Rattle.asn1_types.specs.declared.row.TypeRow.TheVariants as row
use Rattle.asn1_types.specs.Rows.{of_row, along}
use Rattle.asn1_types.specs.Value.{Value}
use Rattle.asn1_types.specs.Defaults.{may_be_absent, is_default}
use Rattle.packed_codec.specs.declared.fault.PackedFault.TheVariants as faults
use Rattle.packed_codec.specs.Reading.{Spot, Reading, ◌>>=◌, within}
use Rattle.packed_codec.specs.Fields.{moved, announced_at, field_at, octet_at, count_at}
use Rattle.packed_codec.specs.Numbers.{is_size}
use Rattle.packed_codec.specs.Laws.{ShortIsWithin}
use Rattle.packed_codec.specs.Rules.{start, reads, read_at, Reader, some_or_refuse, boolean_rule, boolean_at, null_at, sized_at, number_at, string_at, bits_at, bits_size, bits_rule, present_at, part_at, parts_at, sequence_at, items_at, spent, list_at, alternative_at, choice_at, dead, read_by, set_item_at, set_items_at, set_of_at}
use Rattle.asn1_types.specs.Writing.{written}
use Rattle.asn1_types.specs.Rising.{behind_last}

-- where the octets end
abbrev end_of : Spot → ℕ
end_of s = s.place + length s.rest

-- a spot within the limit, in octets that end here
record Held (limit end : ℕ) (s : Spot) : Type 0 where
  ends : end_of s ≡ end
  short : s.place ≤ limit

abbrev Bounded : {A : Type 0} → (A → Spot) → ℕ → ℕ → Reading A → Type 0
Bounded spot limit end (Ok x) = Held limit end (spot x)
Bounded spot limit end (Err (faults.NotSpelled place kind)) = Unit {0}
Bounded spot limit end (Err faults.Short) = end ≤ limit
Bounded spot limit end (Err (faults.TooLong place)) = Unit {0}
Bounded spot limit end (Err faults.NoMemory) = Unit {0}

then_bounded : {A B : Type 0} (a : A → Spot) (b : B → Spot) (limit end : ℕ) (r : Reading A) (f : A → Reading B) → Bounded a limit end r → ((x : A) → Held limit end (a x) → Bounded b limit end (f x)) → Bounded b limit end (r >>= f)
then_bounded a b limit end (Ok x) f h k = k x h
then_bounded a b limit end (Err (faults.NotSpelled place kind)) f h k = tt
then_bounded a b limit end (Err faults.Short) f h k = h
then_bounded a b limit end (Err (faults.TooLong place)) f h k = tt
then_bounded a b limit end (Err faults.NoMemory) f h k = tt

either_bounded : {A : Type 0} (a : A → Spot) (limit end : ℕ) (b : Bool) (r s : Reading A) → Bounded a limit end r → Bounded a limit end s → Bounded a limit end (cond b r s)
either_bounded a limit end true r s h k = h
either_bounded a limit end false r s h k = k

judged_bounded : {B : Type 0} (b : B → Spot) (limit end place : ℕ) (o : Option Value) (f : Value → Reading B) → ((v : Value) → Bounded b limit end (f v)) → Bounded b limit end (some_or_refuse place o >>= f)
judged_bounded b limit end place None f k = tt
judged_bounded b limit end place (Some v) f k = k v

abbrev second : {A : Type 0} → A × Spot → Spot
second x = x.1

-- ---- fields

within_bounded : {B : Type 0} (b : B → Spot) (limit end place until : ℕ) (f : Unit {0} → Reading B) → (until ≤ limit → Bounded b limit end (f tt)) → Bounded b limit end (within limit place until >>= f)
unfolding within
within_bounded b limit end place until f h = by_test (nat_lt limit until) (λ t. h (ltb-false limit until t))
  where
    by_test : (t : Bool) → (t ≡ false → Bounded b limit end (f tt)) → Bounded b limit end (cond t (Err (faults.TooLong place)) (Ok tt) >>= f)
    by_test true k = tt
    by_test false k = k refl

enough_bounded : (limit size : ℕ) (s : Spot) (end : ℕ) → Held limit end s → s.place + size ≤ limit → Bounded second limit end (cond (nat_lt (length s.rest) size) (Err faults.Short) (Ok (take size s.rest, moved size s)))
enough_bounded limit size s end h within =
    let e : s.place + length s.rest ≡ end = h.ends in
    elim (cases_lt (length s.rest) size) [
      | inl lt ↦ rw (lt-ltb (length s.rest) size lt) (omega arith)
      | inr le ↦ let d = length-drop size s.rest in rw (le-ltb (length s.rest) size le) (record { ends = omega arith; short = within })
    ]

announced_bounded : (limit place : ℕ) (allowed : Bool) (size : ℕ) (s : Spot) (end : ℕ) → Held limit end s → Bounded second limit end (announced_at limit place allowed size s)
unfolding announced_at
announced_bounded limit place allowed size s end h =
    within_bounded second limit end place (s.place + size) _ (λ k. either_bounded second limit end allowed _ _ (enough_bounded limit size s end h k) tt)

field_bounded : (limit size : ℕ) (s : Spot) (end : ℕ) → Held limit end s → Bounded second limit end (field_at limit size s)
unfolding field_at
field_bounded limit size s end h = by_test (nat_eq (length s.rest) 0) (λ t. none (eqb-true (length s.rest) 0 t)) (announced_bounded limit s.place true size s end h)
  where
    none : length s.rest ≡ 0 → end ≤ limit
    none e = let a : s.place + length s.rest ≡ end = h.ends in let b : s.place ≤ limit = h.short in omega arith

    by_test : (t : Bool) → (t ≡ true → end ≤ limit) → Bounded second limit end (announced_at limit s.place true size s) → Bounded second limit end (cond t (Err faults.Short) (announced_at limit s.place true size s))
    by_test true k j = k refl
    by_test false k j = j

octet_bounded : (limit : ℕ) (s : Spot) (end : ℕ) → Held limit end s → Bounded second limit end (octet_at limit s)
unfolding octet_at
octet_bounded limit s end e = then_bounded second second limit end (field_at limit 1 s) _ (field_bounded limit 1 s end e) (λ x d. d)

count_bounded : (limit : ℕ) (s : Spot) (end : ℕ) → Held limit end s → Bounded second limit end (count_at limit s)
unfolding count_at
count_bounded limit s end e = then_bounded second second limit end (field_at limit 4 s) _ (field_bounded limit 4 s end e) (λ x d. d)

-- ---- rows of one field

record StaysBounded (r : Reader) : Type 0 where
  each : (limit : ℕ) (s : Spot) (end : ℕ) → Held limit end s → Bounded second limit end (r limit s)

sized_bounded : (limit place : ℕ) (few : ℕ → Bool) (rule : List ℕ → Option Value) (n : ℕ) (s : Spot) (end : ℕ) → Held limit end s → Bounded second limit end (sized_at limit place few rule (n, s))
unfolding sized_at
sized_bounded limit place few rule n s end e =
    then_bounded second second limit end (announced_at limit place (few n) n s) _ (announced_bounded limit place (few n) n s end e) (λ c d.
    judged_bounded second limit end s.place (rule c.0) _ (λ v. d))

number_bounded : (rule : List ℕ → Option Value) → StaysBounded (number_at rule)
unfolding number_at
number_bounded rule = record {
  each = λ limit s end e.
      then_bounded second second limit end (octet_at limit s) _ (octet_bounded limit s end e) (λ n d.
      either_bounded second limit end (is_size n.0) _ _ (sized_bounded limit s.place is_size rule n.0 n.1 end d) tt);
}

string_bounded : (few : ℕ → Bool) (rule : List ℕ → Option Value) → StaysBounded (string_at few rule)
unfolding string_at
string_bounded few rule = record {
  each = λ limit s end e.
      then_bounded second second limit end (count_at limit s) _ (count_bounded limit s end e) (λ n d.
      sized_bounded limit s.place few rule n.0 n.1 end d);
}

boolean_bounded : StaysBounded boolean_at
unfolding boolean_at
boolean_bounded = record {
  each = λ limit s end e.
      then_bounded second second limit end (octet_at limit s) _ (octet_bounded limit s end e) (λ o d.
      judged_bounded second limit end s.place (boolean_rule o.0) _ (λ v. d));
}

null_bounded : StaysBounded null_at
unfolding null_at
null_bounded = record { each = λ limit s end e. e }

bits_bounded : StaysBounded bits_at
unfolding bits_at
bits_bounded = record {
  each = λ limit s end e.
      then_bounded second second limit end (octet_at limit s) _ (octet_bounded limit s end e) (λ u d.
      either_bounded second limit end (nat_lt u.0 8) _ _ ((string_bounded (bits_size u.0) (bits_rule u.0)).each limit u.1 end d) tt);
}

-- ---- rows that hold values

present_bounded : (r : Reader) → StaysBounded r → (p : Part) (limit : ℕ) (s : Spot) (end : ℕ) → Held limit end s → Bounded second limit end (present_at r p limit s)
unfolding present_at
present_bounded r h p limit s end e =
    then_bounded second second limit end (r limit s) _ (h.each limit s end e) (λ v d.
    either_bounded second limit end (is_default p.default v.0) _ _ tt d)

part_bounded : (r : Reader) → StaysBounded r → (p : Part) (limit : ℕ) (s : Spot) (end : ℕ) → Held limit end s → Bounded second limit end (part_at r p limit s)
unfolding part_at
part_bounded r h p limit s end e =
    either_bounded second limit end (may_be_absent p) _ _
    (then_bounded second second limit end (octet_at limit s) _ (octet_bounded limit s end e) (λ m d.
    either_bounded second limit end (nat_eq m.0 0) _ _ d (either_bounded second limit end (nat_eq m.0 1) _ _ (present_bounded r h p limit m.1 end d) tt)))
    (present_bounded r h p limit s end e)

items_bounded : (r : Reader) → StaysBounded r → (n limit : ℕ) (s : Spot) (end : ℕ) → Held limit end s → Bounded second limit end (items_at r n limit s)
unfolding items_at
items_bounded r h zero limit s end e = e
items_bounded r h (suc n) limit s end e =
    then_bounded second second limit end (r limit s) _ (h.each limit s end e) (λ x d.
    then_bounded second second limit end (items_at r n limit x.1) _ (items_bounded r h n limit x.1 end d) (λ y g. g))

list_bounded : (r : Reader) → StaysBounded r → StaysBounded (list_at r)
unfolding list_at
list_bounded r h = record {
  each = λ limit s end e.
      then_bounded second second limit end (count_at limit s) _ (count_bounded limit s end e) (λ n d.
      either_bounded second limit end (nat_lt n.1.left n.0) _ _ tt
      (then_bounded second second limit end (items_at r n.0 limit (spent n.0 n.1)) _ (items_bounded r h n.0 limit (spent n.0 n.1) end (record { ends = d.ends; short = d.short })) (λ y g. g)));
}

set_item_bounded : (spell : Value → List ℕ) (r : Reader) → StaysBounded r → (before : List Value) → StaysBounded (set_item_at spell r before)
unfolding set_item_at
set_item_bounded spell r h before = record {
  each = λ limit s end e.
      then_bounded second second limit end (r limit s) _ (h.each limit s end e) (λ v d.
      either_bounded second limit end (behind_last spell before v.0) _ _ d tt);
}

set_items_bounded : (step : List Value → Reader) → ((before : List Value) → StaysBounded (step before)) → (before : List Value) (n limit : ℕ) (s : Spot) (end : ℕ) → Held limit end s → Bounded second limit end (set_items_at step before n limit s)
unfolding set_items_at
set_items_bounded step h before zero limit s end e = e
set_items_bounded step h before (suc n) limit s end e =
    then_bounded second second limit end (step before limit s) _ ((h before).each limit s end e) (λ x d.
    then_bounded second second limit end (set_items_at step (before ++ x.0 ∷ []) n limit x.1) _ (set_items_bounded step h (before ++ x.0 ∷ []) n limit x.1 end d) (λ y g. g))

set_of_bounded : (spell : Value → List ℕ) (r : Reader) → StaysBounded r → StaysBounded (set_of_at spell r)
unfolding set_of_at
set_of_bounded spell r h = record {
  each = λ limit s end e.
      then_bounded second second limit end (count_at limit s) _ (count_bounded limit s end e) (λ n d.
      either_bounded second limit end (nat_lt n.1.left n.0) _ _ tt
      (then_bounded second second limit end (set_items_at (set_item_at spell r) [] n.0 limit (spent n.0 n.1)) _ (set_items_bounded (set_item_at spell r) (set_item_bounded spell r h) [] n.0 limit (spent n.0 n.1) end (record { ends = d.ends; short = d.short })) (λ y g. g)));
}

-- nothing is read
dead_bounded : StaysBounded dead
dead_bounded = record { each = λ limit s end e. tt }

module _ (spell : ℕ → Value → List ℕ) (inner : ℕ → Reader) (h : (n : ℕ) → StaysBounded (inner n)) where
  parts_bounded : (ps : List Part) (limit : ℕ) (s : Spot) (end : ℕ) → Held limit end s → Bounded second limit end (parts_at inner limit s ps)
  unfolding parts_at
  parts_bounded [] limit s end e = e
  parts_bounded (p ∷ ps) limit s end e =
      then_bounded second second limit end (part_at (inner p.inner.0) p limit s) _ (part_bounded (inner p.inner.0) (h p.inner.0) p limit s end e) (λ x d.
      then_bounded second second limit end (parts_at inner limit x.1 ps) _ (parts_bounded ps limit x.1 end d) (λ y g. g))

  sequence_bounded : (ps : List Part) → StaysBounded (sequence_at inner ps)
  unfolding sequence_at
  sequence_bounded ps = record {
    each = λ limit s end e. then_bounded second second limit end (parts_at inner limit s ps) _ (parts_bounded ps limit s end e) (λ y g. g);
  }

  alternative_bounded : (place which : ℕ) (o : Option Part) (limit : ℕ) (s : Spot) (end : ℕ) → Held limit end s → Bounded second limit end (alternative_at inner place which o limit s)
  alternative_bounded place which None limit s end e = tt
  alternative_bounded place which (Some p) limit s end e = then_bounded second second limit end (inner p.inner.0 limit s) _ ((h p.inner.0).each limit s end e) (λ v d. d)

  choice_bounded : (ps : List Part) → StaysBounded (choice_at inner ps)
  unfolding choice_at
  choice_bounded ps = record {
    each = λ limit s end e.
        then_bounded second second limit end (octet_at limit s) _ (octet_bounded limit s end e) (λ o d.
        alternative_bounded s.place o.0 (slice_get ps o.0) limit o.1 end d);
  }

  row_bounded : (r : TypeRow) → StaysBounded (read_by spell inner r)
  row_bounded row.Boolean = boolean_bounded
  row_bounded (row.Integer low high) = number_bounded _
  row_bounded (row.Enumerated items) = number_bounded _
  row_bounded row.Null = null_bounded
  row_bounded (row.OctetString most) = string_bounded _ _
  row_bounded row.BitString = bits_bounded
  row_bounded row.ObjectId = string_bounded _ _
  row_bounded (row.Text kind) = string_bounded _ _
  row_bounded (row.Sequence ps) = sequence_bounded ps
  row_bounded (row.Set ps) = sequence_bounded ps
  row_bounded (row.SequenceOf of) = list_bounded (inner of.0) (h of.0)
  row_bounded (row.SetOf of) = set_of_bounded (spell of.0) (inner of.0) (h of.0)
  row_bounded (row.Choice ps) = choice_bounded ps
  row_bounded (row.Tagged class number explicit of) = h of.0
  row_bounded row.Any = dead_bounded

-- ---- down the table

of_row_bounded : (rows : List TypeRow) (turns : ℕ) → ((m : ℕ) → StaysBounded (along dead (read_by (written rows)) rows turns m)) → (o : Option TypeRow) → StaysBounded (of_row dead (read_by (written rows) (along dead (read_by (written rows)) rows turns)) o)
of_row_bounded rows turns h None = dead_bounded
of_row_bounded rows turns h (Some r) = row_bounded (written rows) (along dead (read_by (written rows)) rows turns) h r

along_bounded : (rows : List TypeRow) (turns n : ℕ) → StaysBounded (along dead (read_by (written rows)) rows turns n)
along_bounded rows zero n = dead_bounded
along_bounded rows (suc turns) n = of_row_bounded rows turns (λ m. along_bounded rows turns m) (slice_get rows n)

abbrev EndsWithin : ℕ → Reading (Value × ℕ) → Type 0
EndsWithin limit (Ok x) = x.1 ≤ limit
EndsWithin limit (Err e) = Unit {0}

ends_within : (limit end : ℕ) (r : Reading (Value × Spot)) → Bounded second limit end r → EndsWithin limit (r >>= λ x. Ok (x.0, x.1.place))
ends_within limit end (Ok x) h = h.short
ends_within limit end (Err e) h = tt

-- what is read ends within the limit
pub used_within : (rows : List TypeRow) (n limit : ℕ) (bytes : List ℕ) (v : Value) (used : ℕ) → read_at rows n limit bytes ≡ Ok (v, used) → used ≤ limit
unfolding read_at reads
used_within rows n limit bytes v used e =
    subst (λ (r : Reading (Value × ℕ)). EndsWithin limit r) e
    (ends_within limit (length bytes) (along dead (read_by (written rows)) rows (length rows) n limit (start bytes)) ((along_bounded rows (length rows) n).each limit (start bytes) (length bytes) (record { ends = omega arith; short = omega arith })))

abbrev Told : ℕ → ℕ → Reading (Value × ℕ) → Type 0
Told limit end (Ok x) = Unit {0}
Told limit end (Err (faults.NotSpelled place kind)) = Unit {0}
Told limit end (Err faults.Short) = end ≤ limit
Told limit end (Err (faults.TooLong place)) = Unit {0}
Told limit end (Err faults.NoMemory) = Unit {0}

told : (limit end : ℕ) (r : Reading (Value × Spot)) → Bounded second limit end r → Told limit end (r >>= λ x. Ok (x.0, x.1.place))
told limit end (Ok x) h = tt
told limit end (Err (faults.NotSpelled place kind)) h = tt
told limit end (Err faults.Short) h = h
told limit end (Err (faults.TooLong place)) h = tt
told limit end (Err faults.NoMemory) h = tt

pub short_is_within : ShortIsWithin
unfolding read_at reads
short_is_within rows n limit bytes e =
    subst (λ (r : Reading (Value × ℕ)). Told limit (length bytes) r) e
    (told limit (length bytes) (along dead (read_by (written rows)) rows (length rows) n limit (start bytes)) ((along_bounded rows (length rows) n).each limit (start bytes) (length bytes) (record { ends = omega arith; short = omega arith })))
