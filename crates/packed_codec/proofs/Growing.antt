-- What reading gives stays what it is, whatever octets follow, unless the octets were too few.
use Rattle.std.proofs.Common.{◌≡◌, ℕ, zero, suc, ◌+◌, ◌≤◌, Bool, true, false, cond, ltb, List, [], ◌∷◌, ◌++◌, length, Option, Some, None, Ok, Err, refl, arith, length-append, inl, inr}
use Rattle.std.specs.Prelude.{nat_lt, nat_eq, slice_get}
use Rattle.std.proofs.lemmas.Bool.{cases_lt, lt-ltb, le-ltb, ne_eqb}
use Rattle.std.proofs.lemmas.List.{take-append-le, drop-append-le}
use Rattle.asn1_types.specs.declared.row.Part.{Part}
use Rattle.asn1_types.specs.declared.row.TypeRow.{TypeRow}
use Rattle.asn1_types.specs.declared.row.TypeRow.TheVariants as row
use Rattle.asn1_types.specs.Rows.{of_row, along}
use Rattle.asn1_types.specs.Value.{Value}
use Rattle.asn1_types.specs.Defaults.{may_be_absent, is_default}
use Rattle.packed_codec.specs.declared.fault.PackedFault.TheVariants as faults
use Rattle.packed_codec.specs.Reading.{Spot, Reading, ◌>>=◌, within}
use Rattle.packed_codec.specs.Fields.{announced_at, field_at, octet_at, count_at}
use Rattle.packed_codec.specs.Numbers.{is_size}
use Rattle.packed_codec.specs.Rules.{Reader, some_or_refuse, boolean_rule, boolean_at, null_at, sized_at, number_at, string_at, bits_at, bits_size, bits_rule, present_at, marked_at, part_at, parts_at, sequence_at, items_at, spent, list_at, alternative_at, choice_at, dead, read_by, set_item_at, set_items_at, set_of_at}
use Rattle.asn1_types.specs.Writing.{written}
use Rattle.asn1_types.specs.Rising.{behind_last}

abbrev pub grown : List ℕ → Spot → Spot
grown more s = record { place = s.place; rest = s.rest ++ more; left = s.left }

-- what was read with fewer octets, and what is read with more
abbrev pub Grows : {A : Type 0} → (A → A) → Reading A → Reading A → Type 0
Grows g (Ok x) read = read ≡ Ok (g x)
Grows g (Err (faults.NotSpelled place kind)) read = read ≡ Err (faults.NotSpelled place kind)
Grows g (Err faults.Short) read = Unit {0}
Grows g (Err (faults.TooLong place)) read = read ≡ Err (faults.TooLong place)
Grows g (Err faults.NoMemory) read = read ≡ Err faults.NoMemory

pub Grows-bind : {A B : Type 0} (g : A → A) (h : B → B) (r s : Reading A) (f k : A → Reading B) → Grows g r s → ((x : A) → r ≡ Ok x → Grows h (f x) (k (g x))) → Grows h (r >>= f) (s >>= k)
Grows-bind g h (Ok x) s f k a b = rw a (b x refl)
Grows-bind g h (Err (faults.NotSpelled place kind)) s f k a b = rw a refl
Grows-bind g h (Err faults.Short) s f k a b = tt
Grows-bind g h (Err (faults.TooLong place)) s f k a b = rw a refl
Grows-bind g h (Err faults.NoMemory) s f k a b = rw a refl

-- a step that looks at no octets
Grows-same : {A B : Type 0} (h : B → B) (r : Reading A) (f k : A → Reading B) → ((x : A) → Grows h (f x) (k x)) → Grows h (r >>= f) (r >>= k)
Grows-same h (Ok x) f k b = b x
Grows-same h (Err (faults.NotSpelled place kind)) f k b = refl
Grows-same h (Err faults.Short) f k b = tt
Grows-same h (Err (faults.TooLong place)) f k b = refl
Grows-same h (Err faults.NoMemory) f k b = refl

Grows-cond : {B : Type 0} (h : B → B) (b : Bool) (r s x y : Reading B) → Grows h r x → Grows h s y → Grows h (cond b r s) (cond b x y)
Grows-cond h true r s x y p q = p
Grows-cond h false r s x y p q = q

-- enough octets now are enough later
Grows-enough : {B : Type 0} (h : B → B) (rest more : List ℕ) (n : ℕ) (s y : Reading B) → (n ≤ length rest → Grows h s y) → Grows h (cond (ltb (length rest) n) (Err faults.Short) s) (cond (ltb (length (rest ++ more)) n) (Err faults.Short) y)
Grows-enough h rest more n s y q =
    elim (cases_lt (length rest) n) [
      | inl lt ↦ rw (lt-ltb (length rest) n lt) tt
      | inr le ↦ let longer : n ≤ length (rest ++ more) = omega (arith, length-append rest more) in rw (le-ltb (length rest) n le, le-ltb (length (rest ++ more)) n longer) (q le)
    ]

abbrev pub with_spot : {A : Type 0} → List ℕ → A × Spot → A × Spot
with_spot more x = (x.0, grown more x.1)

-- ---- fields

announced_grows : (limit place : ℕ) (allowed : Bool) (size : ℕ) (s : Spot) (more : List ℕ) → Grows (with_spot more) (announced_at limit place allowed size s) (announced_at limit place allowed size (grown more s))
unfolding announced_at
announced_grows limit place allowed size s more =
    Grows-same (with_spot more) (within limit place (s.place + size)) _ _ (λ x.
    Grows-cond (with_spot more) allowed _ _ _ _
    (Grows-enough (with_spot more) s.rest more size _ _ (λ le. rw (take-append-le size s.rest more le, drop-append-le size s.rest more le) refl))
    refl)

some_not : (o : ℕ) (os : List ℕ) → nat_eq (length (o ∷ os)) 0 ≡ false
some_not o os = ne_eqb (length (o ∷ os)) 0 (λ e. omega arith)

field_grows_by : (limit size place : ℕ) (rest : List ℕ) (left : ℕ) (more : List ℕ) → Grows (with_spot more) (field_at limit size (record { place = place; rest = rest; left = left })) (field_at limit size (record { place = place; rest = rest ++ more; left = left }))
unfolding field_at
field_grows_by limit size place [] left more = tt
field_grows_by limit size place (o ∷ rest) left more =
    rw (some_not o rest, some_not o (rest ++ more)) (announced_grows limit place true size (record { place = place; rest = o ∷ rest; left = left }) more)

field_grows : (limit size : ℕ) (s : Spot) (more : List ℕ) → Grows (with_spot more) (field_at limit size s) (field_at limit size (grown more s))
field_grows limit size s more = field_grows_by limit size s.place s.rest s.left more

octet_grows : (limit : ℕ) (s : Spot) (more : List ℕ) → Grows (with_spot more) (octet_at limit s) (octet_at limit (grown more s))
unfolding octet_at
octet_grows limit s more =
    Grows-bind (with_spot more) (with_spot more) (field_at limit 1 s) (field_at limit 1 (grown more s)) _ _ (field_grows limit 1 s more) (λ x e. refl)

count_grows : (limit : ℕ) (s : Spot) (more : List ℕ) → Grows (with_spot more) (count_at limit s) (count_at limit (grown more s))
unfolding count_at
count_grows limit s more =
    Grows-bind (with_spot more) (with_spot more) (field_at limit 4 s) (field_at limit 4 (grown more s)) _ _ (field_grows limit 4 s more) (λ x e. refl)

-- ---- rows of one field

pub record GrowsRun (r : Reader) : Type 0 where
  pub grows : (limit : ℕ) (s : Spot) (more : List ℕ) → Grows (with_spot more) (r limit s) (r limit (grown more s))

sized_grows : (limit place : ℕ) (few : ℕ → Bool) (rule : List ℕ → Option Value) (n : ℕ) (s : Spot) (more : List ℕ) → Grows (with_spot more) (sized_at limit place few rule (n, s)) (sized_at limit place few rule (n, grown more s))
unfolding sized_at
sized_grows limit place few rule n s more =
    Grows-bind (with_spot more) (with_spot more) (announced_at limit place (few n) n s) (announced_at limit place (few n) n (grown more s)) _ _ (announced_grows limit place (few n) n s more) (λ c e.
    Grows-same (with_spot more) (some_or_refuse s.place (rule c.0)) _ _ (λ v. refl))

number_grows : (rule : List ℕ → Option Value) → GrowsRun (number_at rule)
unfolding number_at
number_grows rule = record {
  grows = λ limit s more.
      Grows-bind (with_spot more) (with_spot more) (octet_at limit s) (octet_at limit (grown more s)) _ _ (octet_grows limit s more) (λ n e.
      Grows-cond (with_spot more) (is_size n.0) _ _ _ _ (sized_grows limit s.place is_size rule n.0 n.1 more) refl);
}

string_grows : (few : ℕ → Bool) (rule : List ℕ → Option Value) → GrowsRun (string_at few rule)
unfolding string_at
string_grows few rule = record {
  grows = λ limit s more.
      Grows-bind (with_spot more) (with_spot more) (count_at limit s) (count_at limit (grown more s)) _ _ (count_grows limit s more) (λ n e.
      sized_grows limit s.place few rule n.0 n.1 more);
}

boolean_grows : GrowsRun boolean_at
unfolding boolean_at
boolean_grows = record {
  grows = λ limit s more.
      Grows-bind (with_spot more) (with_spot more) (octet_at limit s) (octet_at limit (grown more s)) _ _ (octet_grows limit s more) (λ o e.
      Grows-same (with_spot more) (some_or_refuse s.place (boolean_rule o.0)) _ _ (λ v. refl));
}

null_grows : GrowsRun null_at
unfolding null_at
null_grows = record { grows = λ limit s more. refl }

bits_grow : GrowsRun bits_at
unfolding bits_at
bits_grow = record {
  grows = λ limit s more.
      Grows-bind (with_spot more) (with_spot more) (octet_at limit s) (octet_at limit (grown more s)) _ _ (octet_grows limit s more) (λ u e.
      Grows-cond (with_spot more) (nat_lt u.0 8) _ _ _ _ ((string_grows (bits_size u.0) (bits_rule u.0)).grows limit u.1 more) refl);
}

-- ---- rows that hold values

present_grows : (r : Reader) → GrowsRun r → (p : Part) (limit : ℕ) (s : Spot) (more : List ℕ) → Grows (with_spot more) (present_at r p limit s) (present_at r p limit (grown more s))
unfolding present_at
present_grows r h p limit s more =
    Grows-bind (with_spot more) (with_spot more) (r limit s) (r limit (grown more s)) _ _ (h.grows limit s more) (λ v e.
    Grows-cond (with_spot more) (is_default p.default v.0) _ _ _ _ refl refl)

marked_grows : (r : Reader) → GrowsRun r → (p : Part) (limit place m : ℕ) (s : Spot) (more : List ℕ) → Grows (with_spot more) (marked_at r p limit place (m, s)) (marked_at r p limit place (m, grown more s))
marked_grows r h p limit place m s more =
    Grows-cond (with_spot more) (nat_eq m 0) _ _ _ _ refl (Grows-cond (with_spot more) (nat_eq m 1) _ _ _ _ (present_grows r h p limit s more) refl)

part_grows : (r : Reader) → GrowsRun r → (p : Part) (limit : ℕ) (s : Spot) (more : List ℕ) → Grows (with_spot more) (part_at r p limit s) (part_at r p limit (grown more s))
unfolding part_at
part_grows r h p limit s more =
    Grows-cond (with_spot more) (may_be_absent p) _ _ _ _
    (Grows-bind (with_spot more) (with_spot more) (octet_at limit s) (octet_at limit (grown more s)) _ _ (octet_grows limit s more) (λ m e. marked_grows r h p limit s.place m.0 m.1 more))
    (present_grows r h p limit s more)

items_grow : (r : Reader) → GrowsRun r → (n limit : ℕ) (s : Spot) (more : List ℕ) → Grows (with_spot more) (items_at r n limit s) (items_at r n limit (grown more s))
unfolding items_at
items_grow r h zero limit s more = refl
items_grow r h (suc n) limit s more =
    Grows-bind (with_spot more) (with_spot more) (r limit s) (r limit (grown more s)) _ _ (h.grows limit s more) (λ x e.
    Grows-bind (with_spot more) (with_spot more) (items_at r n limit x.1) (items_at r n limit (grown more x.1)) _ _ (items_grow r h n limit x.1 more) (λ y e. refl))

list_grows : (r : Reader) → GrowsRun r → GrowsRun (list_at r)
unfolding list_at
list_grows r h = record {
  grows = λ limit s more.
      Grows-bind (with_spot more) (with_spot more) (count_at limit s) (count_at limit (grown more s)) _ _ (count_grows limit s more) (λ n e.
      Grows-cond (with_spot more) (nat_lt n.1.left n.0) _ _ _ _ refl
      (Grows-bind (with_spot more) (with_spot more) (items_at r n.0 limit (spent n.0 n.1)) (items_at r n.0 limit (grown more (spent n.0 n.1))) _ _ (items_grow r h n.0 limit (spent n.0 n.1) more) (λ y e. refl)));
}

set_item_grows : (spell : Value → List ℕ) (r : Reader) → GrowsRun r → (before : List Value) → GrowsRun (set_item_at spell r before)
unfolding set_item_at
set_item_grows spell r h before = record {
  grows = λ limit s more.
      Grows-bind (with_spot more) (with_spot more) (r limit s) (r limit (grown more s)) _ _ (h.grows limit s more) (λ v e.
      Grows-cond (with_spot more) (behind_last spell before v.0) _ _ _ _ refl refl);
}

set_items_grow : (step : List Value → Reader) → ((before : List Value) → GrowsRun (step before)) → (before : List Value) (n limit : ℕ) (s : Spot) (more : List ℕ) → Grows (with_spot more) (set_items_at step before n limit s) (set_items_at step before n limit (grown more s))
unfolding set_items_at
set_items_grow step h before zero limit s more = refl
set_items_grow step h before (suc n) limit s more =
    Grows-bind (with_spot more) (with_spot more) (step before limit s) (step before limit (grown more s)) _ _ ((h before).grows limit s more) (λ x e.
    Grows-bind (with_spot more) (with_spot more) (set_items_at step (before ++ x.0 ∷ []) n limit x.1) (set_items_at step (before ++ x.0 ∷ []) n limit (grown more x.1)) _ _ (set_items_grow step h (before ++ x.0 ∷ []) n limit x.1 more) (λ y e. refl))

set_of_grows : (spell : Value → List ℕ) (r : Reader) → GrowsRun r → GrowsRun (set_of_at spell r)
unfolding set_of_at
set_of_grows spell r h = record {
  grows = λ limit s more.
      Grows-bind (with_spot more) (with_spot more) (count_at limit s) (count_at limit (grown more s)) _ _ (count_grows limit s more) (λ n e.
      Grows-cond (with_spot more) (nat_lt n.1.left n.0) _ _ _ _ refl
      (Grows-bind (with_spot more) (with_spot more) (set_items_at (set_item_at spell r) [] n.0 limit (spent n.0 n.1)) (set_items_at (set_item_at spell r) [] n.0 limit (grown more (spent n.0 n.1))) _ _
      (set_items_grow (set_item_at spell r) (set_item_grows spell r h) [] n.0 limit (spent n.0 n.1) more) (λ y e. refl)));
}

module _ (spell : ℕ → Value → List ℕ) (inner : ℕ → Reader) (h : (n : ℕ) → GrowsRun (inner n)) where
  parts_grow : (ps : List Part) (limit : ℕ) (s : Spot) (more : List ℕ) → Grows (with_spot more) (parts_at inner limit s ps) (parts_at inner limit (grown more s) ps)
  unfolding parts_at
  parts_grow [] limit s more = refl
  parts_grow (p ∷ ps) limit s more =
      Grows-bind (with_spot more) (with_spot more) (part_at (inner p.inner.0) p limit s) (part_at (inner p.inner.0) p limit (grown more s)) _ _ (part_grows (inner p.inner.0) (h p.inner.0) p limit s more) (λ x e.
      Grows-bind (with_spot more) (with_spot more) (parts_at inner limit x.1 ps) (parts_at inner limit (grown more x.1) ps) _ _ (parts_grow ps limit x.1 more) (λ y e. refl))

  sequence_grows : (ps : List Part) → GrowsRun (sequence_at inner ps)
  unfolding sequence_at
  sequence_grows ps = record {
    grows = λ limit s more.
        Grows-bind (with_spot more) (with_spot more) (parts_at inner limit s ps) (parts_at inner limit (grown more s) ps) _ _ (parts_grow ps limit s more) (λ y e. refl);
  }

  alternative_grows : (place which : ℕ) (o : Option Part) (limit : ℕ) (s : Spot) (more : List ℕ) → Grows (with_spot more) (alternative_at inner place which o limit s) (alternative_at inner place which o limit (grown more s))
  alternative_grows place which None limit s more = refl
  alternative_grows place which (Some p) limit s more =
      Grows-bind (with_spot more) (with_spot more) (inner p.inner.0 limit s) (inner p.inner.0 limit (grown more s)) _ _ ((h p.inner.0).grows limit s more) (λ v e. refl)

  choice_grows : (ps : List Part) → GrowsRun (choice_at inner ps)
  unfolding choice_at
  choice_grows ps = record {
    grows = λ limit s more.
        Grows-bind (with_spot more) (with_spot more) (octet_at limit s) (octet_at limit (grown more s)) _ _ (octet_grows limit s more) (λ o e.
        alternative_grows s.place o.0 (slice_get ps o.0) limit o.1 more);
  }

  row_grows : (r : TypeRow) → GrowsRun (read_by spell inner r)
  row_grows row.Boolean = boolean_grows
  row_grows (row.Integer low high) = number_grows _
  row_grows (row.Enumerated items) = number_grows _
  row_grows row.Null = null_grows
  row_grows (row.OctetString most) = string_grows _ _
  row_grows row.BitString = bits_grow
  row_grows row.ObjectId = string_grows _ _
  row_grows (row.Text kind) = string_grows _ _
  row_grows (row.Sequence ps) = sequence_grows ps
  row_grows (row.Set ps) = sequence_grows ps
  row_grows (row.SequenceOf of) = list_grows (inner of.0) (h of.0)
  row_grows (row.SetOf of) = set_of_grows (spell of.0) (inner of.0) (h of.0)
  row_grows (row.Choice ps) = choice_grows ps
  row_grows (row.Tagged class number explicit of) = h of.0
  row_grows row.Any = record { grows = λ limit s more. refl }

-- ---- down the table

of_row_grows : (rows : List TypeRow) (turns : ℕ) → ((m : ℕ) → GrowsRun (along dead (read_by (written rows)) rows turns m)) → (o : Option TypeRow) → GrowsRun (of_row dead (read_by (written rows) (along dead (read_by (written rows)) rows turns)) o)
of_row_grows rows turns h None = record { grows = λ limit s more. refl }
of_row_grows rows turns h (Some r) = row_grows (written rows) (along dead (read_by (written rows)) rows turns) h r

pub along_grows : (rows : List TypeRow) (turns n : ℕ) → GrowsRun (along dead (read_by (written rows)) rows turns n)
along_grows rows zero n = record { grows = λ limit s more. refl }
along_grows rows (suc turns) n = of_row_grows rows turns (λ m. along_grows rows turns m) (slice_get rows n)
