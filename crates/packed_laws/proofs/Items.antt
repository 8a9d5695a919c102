-- Each value has two octets at least in DER, and two more for each item of its lists.
use Rattle.std.proofs.Common.{◌≡◌, refl, true, false, ◌∙◌, sym, ap, subst, arith, ℕ, zero, suc, ◌+◌, ◌-◌, ◌*◌, ◌%◌, ◌^◌, ◌≤◌, ◌<◌, List, [], ◌∷◌, ◌++◌, length}
use Rattle.std.specs.Prelude.{Bool, not, ◌&&◌, Option, Some, None, min, nat_eq, nat_le, nat_lt, slice_get, if◌then◌else◌}
use Rattle.std.proofs.lemmas.Bool.{and_parts}
use Rattle.std.proofs.lemmas.Bool.Decides.{nat_tests}
use Rattle.std.proofs.lemmas.List.{length-append}
use Rattle.asn1_types.specs.declared.row.Class.{Class}
use Rattle.asn1_types.specs.declared.row.Class.TheVariants.{Universal, Application, Context, Private}
use Rattle.asn1_types.specs.declared.row.Part.{Part}
use Rattle.asn1_types.specs.declared.row.Tag as tags
use Rattle.asn1_types.specs.declared.row.TypeRow.{TypeRow}
use Rattle.asn1_types.specs.declared.row.TypeRow.TheVariants as row
use Rattle.asn1_types.specs.Rows.{of_row, along, class_number}
use Rattle.asn1_types.specs.Defaults.{is_default}
use Rattle.asn1_types.specs.Fits.{part_fits, parts_fit, sequence_fits, values_fit, list_fits, alternative_fits, choice_fits, form_by, nothing_fits, has_form}
use Rattle.asn1_types.specs.Rising.{set_rises}
use Rattle.asn1_types.specs.Tags.{tag_or, class_of, capped, rank, ranks, front_number, front_rank}
use Rattle.asn1_types.specs.Value.{Value, boolean, integer, null, octets, bits, object_id, text, parts, list, chosen, MaybeValues, no_parts, absent, present, Values, no_values, value}
use Rattle.asn1_types.specs.Writing.{Writer, identifier, length_octets, definite, base_128, base_256, boolean_octet, parts_contents, sequence_contents, of_rank, risen_parts, set_parts}
use Rattle.asn1_types.specs.Writing.{values_contents, list_contents, alternative_written, choice_written, under, tagged_written, nothing_written, write_by, writes, written}
use Rattle.asn1_types.proofs.FitLaws.{fits_has_form}
use Rattle.packed_codec.specs.Writing.{how_many, items, items_of_parts, items_of_values}
use Rattle.packed_codec.specs.Laws.{HasNoAny}
use Rattle.packed_laws.specs.Laws.{ItemsTakeOctets}

-- ---- an identifier, a length and contents

one-or_more : (b : Bool) (x y : ℕ) (ys : List ℕ) → 1 ≤ length (if b then x ∷ [] else y ∷ ys)
one-or_more true x y ys = omega arith
one-or_more false x y ys = omega arith

pub two-more : (constructed : Bool) (tag : tags.Tag) (c : List ℕ) → 2 + length c ≤ length (definite constructed tag c)
two-more constructed tag c =
    let a : 1 ≤ length (identifier tag.class constructed tag.number) = one-or_more (nat_lt tag.number 31) _ _ (base_128 tag.number) in
    let b : 1 ≤ length (length_octets (length c)) = one-or_more (nat_lt (length c) 128) _ _ (base_256 (length c)) in
    let d = length-append (identifier tag.class constructed tag.number) (length_octets (length c) ++ c) in
    let e = length-append (length_octets (length c)) c in
    omega arith

-- ---- ranks

number-capped : (n : ℕ) (digits : List ℕ) → n ≤ 2 ^ 32 → front_number n digits ≤ 2 ^ 32
number-capped n [] h = h
number-capped n (digit ∷ digits) h = go (number-capped (capped (128 * n + (digit - 128))) digits (few (128 * n + (digit - 128)))) (nat_lt digit 128)
  where
    few : (m : ℕ) → min m (2 ^ 32) ≤ 2 ^ 32
    few m = omega arith

    go : front_number (capped (128 * n + (digit - 128))) digits ≤ 2 ^ 32 → (b : Bool) → (if b then capped (128 * n + digit) else front_number (capped (128 * n + (digit - 128))) digits) ≤ 2 ^ 32
    go later true = few (128 * n + digit)
    go later false = later

class-small : (c : Class) → class_number c ≤ 3
class-small Universal = omega arith
class-small Application = omega arith
class-small Context = omega arith
class-small Private = omega arith

rank-small : (c : Class) (n : ℕ) → rank c n < ranks
rank-small c n =
    let few : class_number c ≤ 3 = class-small c in
    let low : min n (2 ^ 32) ≤ 2 ^ 32 = omega arith in
    omega arith

front-small : (s : List ℕ) → front_rank s < ranks
unfolding front_rank
front-small [] = omega arith
front-small (first ∷ rest) = go (nat_eq (first % 32) 31)
  where
    go : (b : Bool) → (if b then rank (class_of first) (front_number 0 rest) else rank (class_of first) (first % 32)) < ranks
    go true = rank-small (class_of first) (front_number 0 rest)
    go false = rank-small (class_of first) (first % 32)

-- ---- the parts of a SET, by rising rank, are all of them

-- how many octets those parts have whose ranks are so
abbrev weight : (ℕ → Bool) → List ℕ → ℕ
weight test s = if test (front_rank s) then length s else 0

abbrev summed : (ℕ → Bool) → (ℕ → Writer) → List Part → MaybeValues → ℕ
summed test inner [] vs = 0
summed test inner (p ∷ ps) no_parts = 0
summed test inner (p ∷ ps) (absent vs) = summed test inner ps vs
summed test inner (p ∷ ps) (present v vs) = weight test (inner p.inner.0 None v) + summed test inner ps vs

-- of the ranks from here on so many
abbrev within : ℕ → ℕ → ℕ → Bool
within least many r = nat_le least r && nat_lt r (least + many)

summed-split : (inner : ℕ → Writer) (least many : ℕ) (ps : List Part) (vs : MaybeValues) → summed (within least (suc many)) inner ps vs ≡ summed (λ r. nat_eq r least) inner ps vs + summed (within (suc least) many) inner ps vs
summed-split inner least many [] vs = refl
summed-split inner least many (p ∷ ps) no_parts = refl
summed-split inner least many (p ∷ ps) (absent vs) = summed-split inner least many ps vs
summed-split inner least many (p ∷ ps) (present v vs) =
    let s = inner p.inner.0 None v in
    let e = one (front_rank s) (length s) in
    let rest = summed-split inner least many ps vs in
    omega arith
  where
    one : (r n : ℕ) → (if within least (suc many) r then n else 0) ≡ (if nat_eq r least then n else 0) + (if within (suc least) many r then n else 0)
    one r n = grind (arith, nat_tests)

of-rank_length : (inner : ℕ → Writer) (r : ℕ) (ps : List Part) (vs : MaybeValues) → length (parts_contents (of_rank r inner) ps vs) ≡ summed (λ k. nat_eq k r) inner ps vs
of-rank_length inner r [] vs = refl
of-rank_length inner r (p ∷ ps) no_parts = refl
of-rank_length inner r (p ∷ ps) (absent vs) = of-rank_length inner r ps vs
of-rank_length inner r (p ∷ ps) (present v vs) = go (of-rank_length inner r ps vs) (inner p.inner.0 None v) (nat_eq (front_rank (inner p.inner.0 None v)) r)
  where
    go : length (parts_contents (of_rank r inner) ps vs) ≡ summed (λ k. nat_eq k r) inner ps vs → (s : List ℕ) (b : Bool) → length ((if b then s else []) ++ parts_contents (of_rank r inner) ps vs) ≡ (if b then length s else 0) + summed (λ k. nat_eq k r) inner ps vs
    go later s true = length-append s (parts_contents (of_rank r inner) ps vs) ∙ ap (λ (n : ℕ). length s + n) later
    go later s false = let l : length (parts_contents (of_rank r inner) ps vs) ≡ summed (λ k. nat_eq k r) inner ps vs = later in omega arith

risen-length : (inner : ℕ → Writer) (many least : ℕ) (ps : List Part) (vs : MaybeValues) → length (risen_parts inner many least ps vs) ≡ summed (within least many) inner ps vs
unfolding risen_parts
risen-length inner zero least ps vs = sym (none ps vs)
  where
    empty : (r n : ℕ) → (if within least 0 r then n else 0) ≡ 0
    empty r n = grind (arith, nat_tests)

    none : (ps : List Part) (vs : MaybeValues) → summed (within least 0) inner ps vs ≡ 0
    none [] vs = refl
    none (p ∷ ps) no_parts = refl
    none (p ∷ ps) (absent vs) = none ps vs
    none (p ∷ ps) (present v vs) = let e = empty (front_rank (inner p.inner.0 None v)) (length (inner p.inner.0 None v)) in let rest = none ps vs in omega arith
risen-length inner (suc many) least ps vs =
    length-append (parts_contents (of_rank least inner) ps vs) (risen_parts inner many (suc least) ps vs)
    ∙ ap (λ (n : ℕ). n + length (risen_parts inner many (suc least) ps vs)) (of-rank_length inner least ps vs)
    ∙ ap (λ (n : ℕ). summed (λ k. nat_eq k least) inner ps vs + n) (risen-length inner many (suc least) ps vs)
    ∙ sym (summed-split inner least many ps vs)

all-summed : (inner : ℕ → Writer) (ps : List Part) (vs : MaybeValues) → summed (within 0 ranks) inner ps vs ≡ length (parts_contents inner ps vs)
all-summed inner [] vs = refl
all-summed inner (p ∷ ps) no_parts = refl
all-summed inner (p ∷ ps) (absent vs) = all-summed inner ps vs
all-summed inner (p ∷ ps) (present v vs) =
    let s = inner p.inner.0 None v in
    let e = here (front_rank s) (length s) (front-small s) in
    let rest = all-summed inner ps vs in
    let d = length-append s (parts_contents inner ps vs) in
    omega arith
  where
    here : (r n : ℕ) → r < ranks → (if within 0 ranks r then n else 0) ≡ n
    here r n h = grind (arith, nat_tests)

pub set-length : (inner : ℕ → Writer) (ps : List Part) (vs : MaybeValues) → length (set_parts inner ps vs) ≡ length (parts_contents inner ps vs)
unfolding set_parts
set-length inner ps vs = risen-length inner ranks 0 ps vs ∙ all-summed inner ps vs

-- ---- values

abbrev Takes : (ℕ → Value → Bool) → (ℕ → Writer) → Type 0
Takes f w = (n : ℕ) (tag : Option tags.Tag) (v : Value) → f n v ≡ true → 2 + 2 * items v ≤ length (w n tag v)

module _ (f : ℕ → Value → Bool) (w : ℕ → Writer) (takes : Takes f w) where
  parts-take : (ps : List Part) (vs : MaybeValues) → parts_fit f ps vs ≡ true → 2 * items_of_parts vs ≤ length (parts_contents w ps vs)
  parts-take [] no_parts h = omega arith
  parts-take [] (absent vs) h = absurd cc
  parts-take [] (present v vs) h = absurd cc
  parts-take (p ∷ ps) no_parts h = absurd cc
  parts-take (p ∷ ps) (absent vs) h = parts-take ps vs (and_parts (part_fits f p None) (parts_fit f ps vs) h).1
  parts-take (p ∷ ps) (present v vs) h =
      let a = and_parts (part_fits f p (Some v)) (parts_fit f ps vs) h in
      let b = and_parts (not (is_default p.default v)) (f p.inner.0 v) a.0 in
      let here : 2 + 2 * items v ≤ length (w p.inner.0 None v) = takes p.inner.0 None v b.1 in
      let later : 2 * items_of_parts vs ≤ length (parts_contents w ps vs) = parts-take ps vs a.1 in
      let d = length-append (w p.inner.0 None v) (parts_contents w ps vs) in
      omega arith

  values-take : (n : ℕ) (vs : Values) → values_fit (f n) vs ≡ true → 2 * (how_many vs + items_of_values vs) ≤ length (values_contents (w n) vs)
  values-take n no_values h = omega arith
  values-take n (value v vs) h =
      let a = and_parts (f n v) (values_fit (f n) vs) h in
      let here : 2 + 2 * items v ≤ length (w n None v) = takes n None v a.0 in
      let later : 2 * (how_many vs + items_of_values vs) ≤ length (values_contents (w n) vs) = values-take n vs a.1 in
      let d = length-append (w n None v) (values_contents (w n) vs) in
      omega arith

  sequence-takes : (ps : List Part) (v : Value) → sequence_fits (parts_fit f ps) v ≡ true → 2 * items v ≤ length (sequence_contents (parts_contents w ps) v)
  sequence-takes ps (parts vs) h = parts-take ps vs h
  sequence-takes ps v h = absurd cc

  set-takes : (ps : List Part) (v : Value) → sequence_fits (parts_fit f ps) v ≡ true → 2 * items v ≤ length (sequence_contents (set_parts w ps) v)
  set-takes ps (parts vs) h = subst (λ (n : ℕ). 2 * items_of_parts vs ≤ n) (sym (set-length w ps vs)) (parts-take ps vs h)
  set-takes ps v h = absurd cc

  list-takes : (n : ℕ) (v : Value) → list_fits (f n) v ≡ true → 2 * items v ≤ length (list_contents (w n) v)
  list-takes n (list vs) h = values-take n vs h
  list-takes n v h = absurd cc

  alternative-takes : (p : Option Part) (v : Value) → alternative_fits f p v ≡ true → 2 + 2 * items v ≤ length (alternative_written w p v)
  alternative-takes None v h = absurd cc
  alternative-takes (Some p) v h = takes p.inner.0 None v h

  choice-takes : (ps : List Part) (v : Value) → choice_fits (λ which. alternative_fits f (slice_get ps which)) v ≡ true → 2 + 2 * items v ≤ length (choice_written (λ which. alternative_written w (slice_get ps which)) v)
  choice-takes ps (chosen which v) h = alternative-takes (slice_get ps which) v h
  choice-takes ps v h = absurd cc

  -- contents under their own tag
  contents-take : (constructed : Bool) (tag : tags.Tag) (c : List ℕ) (n : ℕ) → 2 * n ≤ length c → 2 + 2 * n ≤ length (definite constructed tag c)
  contents-take constructed tag c n h = let t = two-more constructed tag c in omega arith

  -- what has no items
  none-takes : (constructed : Bool) (tag : tags.Tag) (c : List ℕ) (v : Value) → items v ≡ 0 → 2 + 2 * items v ≤ length (definite constructed tag c)
  none-takes constructed tag c v e = let t = two-more constructed tag c in omega arith

  under-takes : (write : Value → List ℕ) (tag : Option tags.Tag) (v : Value) → 2 + 2 * items v ≤ length (write v) → 2 + 2 * items v ≤ length (under write tag v)
  under-takes write None v h = h
  under-takes write (Some tag) v h = let t = two-more true tag (write v) in omega arith

  tagged-takes : (explicit : Bool) (class : Class) (number n : ℕ) (tag : Option tags.Tag) (v : Value) → f n v ≡ true → 2 + 2 * items v ≤ length (tagged_written explicit (w n) class number tag v)
  tagged-takes true class number n tag v h = let t = two-more true (tag_or tag class number) (w n None v) in let i = takes n None v h in omega arith
  tagged-takes false class number n tag v h = takes n (Some (tag_or tag class number)) v h

  row-takes : (spell : ℕ → Value → List ℕ) (r : TypeRow) → (r ≡ row.Any → ⊥) → (tag : Option tags.Tag) (v : Value) → form_by spell f r v ≡ true → 2 + 2 * items v ≤ length (write_by w r tag v)
  row-takes spell row.Boolean n tag (boolean x) h = none-takes false (tag_or tag Universal 1) (boolean_octet x ∷ []) (boolean x) refl
  row-takes spell row.Boolean n tag v h = absurd cc
  row-takes spell (row.Integer low high) n tag (integer z) h = none-takes false _ _ (integer z) refl
  row-takes spell (row.Integer low high) n tag v h = absurd cc
  row-takes spell (row.Enumerated named) n tag (integer z) h = none-takes false _ _ (integer z) refl
  row-takes spell (row.Enumerated named) n tag v h = absurd cc
  row-takes spell row.Null n tag null h = none-takes false (tag_or tag Universal 5) [] null refl
  row-takes spell row.Null n tag v h = absurd cc
  row-takes spell (row.OctetString most) n tag (octets os) h = none-takes false _ _ (octets os) refl
  row-takes spell (row.OctetString most) n tag v h = absurd cc
  row-takes spell row.BitString n tag (bits os u) h = none-takes false (tag_or tag Universal 3) (u ∷ os) (bits os u) refl
  row-takes spell row.BitString n tag v h = absurd cc
  row-takes spell row.ObjectId n tag (object_id arcs) h = none-takes false _ _ (object_id arcs) refl
  row-takes spell row.ObjectId n tag v h = absurd cc
  row-takes spell (row.Text kind) n tag (text os) h = none-takes false _ _ (text os) refl
  row-takes spell (row.Text kind) n tag v h = absurd cc
  row-takes spell (row.Sequence ps) n tag v h = contents-take true _ _ (items v) (sequence-takes ps v h)
  row-takes spell (row.Set ps) n tag v h = contents-take true _ _ (items v) (set-takes ps v h)
  row-takes spell (row.SequenceOf of) n tag v h = contents-take true _ _ (items v) (list-takes of.0 v h)
  row-takes spell (row.SetOf of) n tag v h = contents-take true _ _ (items v) (list-takes of.0 v (and_parts (list_fits (f of.0) v) (set_rises (spell of.0) v) h).0)
  row-takes spell (row.Choice ps) n tag v h = under-takes (choice_written (λ which. alternative_written w (slice_get ps which))) tag v (choice-takes ps v h)
  row-takes spell (row.Tagged class number explicit of) n tag v h = tagged-takes explicit class number of.0 tag v h
  row-takes spell row.Any n tag v h = absurd (n refl)

module _ (rows : List TypeRow) (none : HasNoAny rows) where
  of_row-takes : (f : ℕ → Value → Bool) (w : ℕ → Writer) → Takes f w → (n : ℕ) (o : Option TypeRow) → slice_get rows n ≡ o → (tag : Option tags.Tag) (v : Value) → of_row nothing_fits (form_by (written rows) f) o v ≡ true → 2 + 2 * items v ≤ length (of_row nothing_written (write_by w) o tag v)
  of_row-takes f w takes n None e tag v h = absurd cc
  of_row-takes f w takes n (Some r) e tag v h = row-takes f w takes (written rows) r (λ a. none.each n (e ∙ ap (λ (x : TypeRow). Some x) a)) tag v h

  along-takes : (turns : ℕ) → Takes (along nothing_fits (form_by (written rows)) rows turns) (along nothing_written write_by rows turns)
  along-takes zero n tag v h = absurd cc
  along-takes (suc turns) n tag v h =
      of_row-takes (along nothing_fits (form_by (written rows)) rows turns) (along nothing_written write_by rows turns) (along-takes turns) n (slice_get rows n) refl tag v h

formed-take : (rows : List TypeRow) (n : ℕ) (v : Value) → HasNoAny rows → has_form rows n v ≡ true → 2 * items v ≤ length (written rows n v)
unfolding has_form written writes
formed-take rows n v none h =
    let t : 2 + 2 * items v ≤ length (along nothing_written write_by rows (length rows) n None v) = along-takes rows none (length rows) n None v h in
    omega arith

pub items-take : ItemsTakeOctets
items-take rows n v none h = formed-take rows n v none (fits_has_form rows n v h)
