-- Unused bits of a BIT STRING count as zeros in BER.
use Rattle.std.proofs.Common.{◌≡◌, ℕ, zero, suc, ◌+◌, ◌-◌, ◌*◌, ◌/◌, ◌%◌, ◌^◌, ◌<◌, ◌≤◌, Bool, true, false, ◌||◌, cond, List, [], ◌∷◌, ◌++◌, length, Option, Some, None, refl, sym, ap, ◌∙◌, subst, arith, length-append, inl, inr}
use Rattle.std.specs.Prelude.{slice_get, slice_index, slice_set, nat_eq, nat_le}
use Rattle.std.proofs.lemmas.Bool.{lt-ltb, lt-leb, leb-false, ne_eqb, or_parts}
use Rattle.std.proofs.lemmas.List.{get_or-set_same, length-set}
use Rattle.std.proofs.Math.Nat.{mul-mod_right, div-add-mod}
use Rattle.asn1_types.specs.declared.row.Class.TheVariants.{Universal}
use Rattle.asn1_types.specs.declared.row.Part.{Part}
use Rattle.asn1_types.specs.declared.row.TypeRow.{TypeRow}
use Rattle.asn1_types.specs.declared.row.TypeRow.TheVariants as row
use Rattle.asn1_types.specs.Rows.{text_number}
use Rattle.asn1_types.specs.Value.{Value, octets, text, parts, bits}
use Rattle.asn1_types.specs.ValueView.{parts_of}
use Rattle.asn1_types.specs.Fits.{are_bits, is_text}
use Rattle.asn1_types.specs.declared.row.Tag as tags
use Rattle.asn1_types.specs.Tags.{tag_or}
use Rattle.ber_spelling.specs.declared.spot.StringKind.TheVariants.{OfOctets, OfBits}
use Rattle.ber_spelling.specs.declared.spot.Gathered.{Gathered}
use Rattle.ber_spelling.specs.Order.{Filled}
use Rattle.ber_spelling.specs.Rules.{always, segment_tag, nothing, segment_rule, string_rule, and_whole, cleared, whole_octets, whole_text, whole_bits, has_zero_bits, is_filled, set_done, Guise, bare, plain, under, settled}
use Rattle.ber_spelling.specs.Spelling.{IsDefinite, IsPrimitive, IsConstructed, Spelled, StringIs, SequenceIs, SetIs, ListIs, ChoiceIs, RowIs, RowOr, SpelledBy, AnyIs, OrExplicit, SetOfIs}
use Rattle.ber_spelling.specs.Laws.{HoldsUnused, UnusedBitsAreZeros, UnusedBitsAreCleared}
use Rattle.ber_spelling.proofs.Around.{Before, before_of, around, around_one, around_are, primitive_as}
use Rattle.ber_spelling.proofs.LastOctets.{Outcome, Last, Holds, with_last, holds_outcome, segment_outcome}
use Rattle.ber_spelling.proofs.Wholes.{cond_some as else_some}
use Rattle.asn1_types.specs.Writing.{written}

-- ---- the last octet, cleared

less : (q r x : ℕ) → q + r ≡ x → x - r ≡ q
less q r x e = omega arith

-- a number less its rest is a multiple
multiple : (x m : ℕ) → (x - x % m) % m ≡ 0
multiple x m = ap (λ (y : ℕ). y % m) (less (m * (x / m)) (x % m) x (div-add-mod x m)) ∙ mul-mod_right m (x / m)

module _ (unused o : ℕ) (os : List ℕ) where
  abbrev last : ℕ
  last = slice_index (o ∷ os) (length (o ∷ os) - 1)

  abbrev zeroed : List ℕ
  zeroed = slice_set (o ∷ os) (length (o ∷ os) - 1) (last - last % 2 ^ unused)

  cleared_is : cleared unused (o ∷ os) ≡ zeroed
  cleared_is = rw (ne_eqb (length (o ∷ os)) 0 (λ f. omega arith)) refl

  zeroed_length : length zeroed ≡ length (o ∷ os)
  zeroed_length = length-set (o ∷ os) (length (o ∷ os) - 1) (last - last % 2 ^ unused)

  zeroed_last : slice_index zeroed (length zeroed - 1) ≡ last - last % 2 ^ unused
  zeroed_last =
      ap (λ (k : ℕ). slice_index zeroed (k - 1)) zeroed_length ∙ get_or-set_same (o ∷ os) (length (o ∷ os) - 1) (last - last % 2 ^ unused) 0 (omega arith)

  zeros : unused < 8 → are_bits (cleared unused (o ∷ os)) unused ≡ true
  zeros lt =
      let some : nat_eq (length zeroed) 0 ≡ false = ne_eqb (length zeroed) 0 (λ f. omega (arith, zeroed_length)) in
      rw (cleared_is, lt-ltb unused 8 lt, some, zeroed_last, multiple last (2 ^ unused)) refl

all_zeros : (unused : ℕ) (os : List ℕ) → unused < 8 → (os ≡ [] → unused ≡ 0) → are_bits (cleared unused os) unused ≡ true
all_zeros unused [] lt none = ap (are_bits []) (none refl)
all_zeros unused (o ∷ os) lt none = zeros unused o os lt

some_octet : (kept : List ℕ) (x : ℕ) → length (kept ++ (x ∷ [])) ≡ suc (length kept)
some_octet kept x = omega (arith, length-append kept (x ∷ []))

last_index : (kept : List ℕ) (x : ℕ) → length (kept ++ (x ∷ [])) - 1 ≡ length kept
last_index kept x = omega (arith, some_octet kept x)

last_added : (kept : List ℕ) (x : ℕ) → slice_index (kept ++ (x ∷ [])) (length kept) ≡ x
last_added [] x = refl
last_added (k ∷ kept) x = last_added kept x

set_last : (kept : List ℕ) (x y : ℕ) → slice_set (kept ++ (x ∷ [])) (length kept) y ≡ kept ++ (y ∷ [])
set_last [] x y = refl
set_last (k ∷ kept) x y = ap (λ (os : List ℕ). k ∷ os) (set_last kept x y)

pub last_is : (kept : List ℕ) (x : ℕ) → slice_index (kept ++ (x ∷ [])) (length (kept ++ (x ∷ [])) - 1) ≡ x
last_is kept x = ap (slice_index (kept ++ (x ∷ []))) (last_index kept x) ∙ last_added kept x

pub last_cleared : (unused : ℕ) (kept : List ℕ) (x : ℕ) → cleared unused (kept ++ (x ∷ [])) ≡ kept ++ ((x - x % 2 ^ unused) ∷ [])
last_cleared unused kept x =
    let some : nat_eq (length (kept ++ (x ∷ []))) 0 ≡ false = ne_eqb (length (kept ++ (x ∷ []))) 0 (λ f. omega (arith, some_octet kept x)) in
    rw (some, last_index kept x, last_added kept x) (set_last kept x (x - x % 2 ^ unused))

-- ---- BIT STRINGs

-- what holds of octets that spell a BIT STRING
abbrev AreZeros : List ℕ → ℕ → (List ℕ → Type 0) → List ℕ → Type 0
AreZeros os unused P s = (are_bits os unused ≡ true) × (0 < unused → HoldsUnused (slice_index os (length os - 1)) unused P s)

holds_as : (used unused : ℕ) (P Q : List ℕ → Type 0) (s : List ℕ) → ((x : List ℕ) → P x → Q x) → HoldsUnused used unused P s → HoldsUnused used unused Q s
holds_as used unused P Q s f h = record { front = h.front; octet = h.octet; back = h.back; are = h.are; has = h.has; any = λ y e. f (h.front ++ (y ∷ h.back)) (h.any y e) }

record Whole (g : Gathered) (os : List ℕ) (unused : ℕ) : Type 0 where
  good : g.spoiled ≡ false
  few : unused < 8
  is : cleared unused g.octets ≡ os
  count : g.unused ≡ unused

whole_is : (g : Gathered) (os : List ℕ) (unused : ℕ) → whole_bits g ≡ Some (bits os unused) → Whole g os unused
whole_is g os unused e =
    let t = else_some (g.spoiled || nat_le 8 g.unused) (Some (bits (cleared g.unused g.octets) g.unused)) (bits os unused) e in
    let o = or_parts g.spoiled (nat_le 8 g.unused) t.0 in
    let count : g.unused ≡ unused = let x = t.1 in cc in
    let is : cleared g.unused g.octets ≡ os = let x = t.1 in cc in
    record { good = o.0; few = omega (arith, leb-false 8 g.unused o.1); is = ap (λ (u : ℕ). cleared u g.octets) (sym count) ∙ is; count = count }

whole_of : (g : Gathered) (os : List ℕ) (unused : ℕ) → Whole g os unused → whole_bits g ≡ Some (bits os unused)
whole_of g os unused w = rw (w.good, w.count, lt-leb 8 unused w.few, w.is) refl

module _ (canonical : List ℕ → Bool) (tag : tags.Tag) (levels : ℕ) where
  abbrev Bits : Value → List ℕ → Type 0
  Bits v s = StringIs OfBits whole_bits canonical tag false levels v s

  abbrev Rule : Value → List ℕ → Type 0
  Rule v contents = (string_rule OfBits whole_bits contents ≡ Some v) × (false ≡ true → canonical contents ≡ true)

  record Raw (v : Value) (s : List ℕ) : Type 0 where
    all : Gathered
    whole : whole_bits all ≡ Some v
    holds : Holds tag 32 false levels nothing all s

  raw_of : (v : Value) (s : List ℕ) → Bits v s → Raw v s
  raw_of v s (inr p) = record { all = p.1; whole = p.2; holds = inr p.3 }
  raw_of v s (inl p) = by (segment_rule OfBits nothing b.contents) refl b.holds.0
    where
      b : Before tag false levels (Rule v) s
      b = before_of tag false levels (Rule v) s p

      by : (o : Option Gathered) → segment_rule OfBits nothing b.contents ≡ o → and_whole whole_bits o ≡ Some v → Raw v s
      by None is e = absurd cc
      by (Some g) is e = record {
        all = g;
        whole = e;
        holds = inl (subst (IsPrimitive tag false levels (λ c. segment_rule OfBits nothing c ≡ Some g)) (sym b.are) (b.again (λ c. segment_rule OfBits nothing c ≡ Some g) b.contents refl is));
      }

  of_raw : (v : Value) (s : List ℕ) → Raw v s → Bits v s
  of_raw v s r = by r.holds
    where
      by : Holds tag 32 false levels nothing r.all s → Bits v s
      by (inl p) = inl (primitive_as tag false levels (λ c. segment_rule OfBits nothing c ≡ Some r.all) (Rule v) s p (λ c e. (ap (and_whole whole_bits) e ∙ r.whole, λ f. absurd cc)))
      by (inr p) = inr (refl, r.all, r.whole, p)

  pub bits_zeros : (os : List ℕ) (unused : ℕ) (s : List ℕ) → Bits (bits os unused) s → AreZeros os unused (Bits (bits os unused)) s
  bits_zeros os unused s p = by (holds_outcome tag 32 false levels (λ l a b x q. segment_outcome 32 false l a b x q) nothing r.all s r.holds)
    where
      r : Raw (bits os unused) s
      r = raw_of (bits os unused) s p

      w : Whole r.all os unused
      w = whole_is r.all os unused r.whole

      zeros_if : (r.all.octets ≡ [] → unused ≡ 0) → are_bits os unused ≡ true
      zeros_if none = subst (λ (x : List ℕ). are_bits x unused ≡ true) w.is (all_zeros unused r.all.octets w.few none)

      by : Outcome (Holds tag 32 false levels) nothing r.all s → AreZeros os unused (Bits (bits os unused)) s
      by (inl same) =
          let zero : unused ≡ 0 = sym w.count ∙ ap (λ (g : Gathered). g.unused) (sym same.0) in
          (zeros_if (λ e. zero), λ lt. absurd (omega arith))
      by (inr (inl z)) =
          let zero : unused ≡ 0 = sym w.count ∙ z in
          (zeros_if (λ e. zero), λ lt. absurd (omega arith))
      by (inr (inr l)) =
          let is : kept_of l ≡ os = sym (last_cleared unused l.kept l.octet) ∙ ap (cleared unused) (sym l.last) ∙ w.is in
          let used : slice_index os (length os - 1) ≡ l.octet - l.octet % 2 ^ unused = subst (λ (x : List ℕ). slice_index x (length x - 1) ≡ l.octet - l.octet % 2 ^ unused) is (last_is l.kept (l.octet - l.octet % 2 ^ unused)) in
          let some : r.all.octets ≡ [] → unused ≡ 0 = λ e. absurd (let n : length (l.kept ++ (l.octet ∷ [])) ≡ 0 = ap length (sym l.last ∙ e) in omega (arith, some_octet l.kept l.octet)) in (
            zeros_if some,
            λ lt. record {
              front = l.front;
              octet = l.octet;
              back = l.back;
              are = l.are;
              has = sym used;
              any = λ y e.
                  let g : Gathered = with_last l.kept y r.all in
                  let again : cleared unused (l.kept ++ (y ∷ [])) ≡ os = last_cleared unused l.kept y ∙ ap (λ (x : ℕ). l.kept ++ (x ∷ [])) (e ∙ used) ∙ is in
                  let full : Whole g os unused = record { good = w.good; few = w.few; is = again; count = w.count } in
                  of_raw (bits os unused) (l.front ++ (y ∷ l.back)) (record { all = g; whole = whole_of g os unused full; holds = l.any y });
            },
          )
        where
          kept_of : Last (Holds tag 32 false levels) nothing r.all s → List ℕ
          kept_of x = x.kept ++ ((x.octet - x.octet % 2 ^ unused) ∷ [])

-- ---- rows

record HaveZeros (rel : Spelled) : Type 0 where
  is : (t : Guise) (levels : ℕ) (os : List ℕ) (unused : ℕ) (s : List ℕ) → rel t false levels (bits os unused) s → AreZeros os unused (rel t false levels (bits os unused)) s

-- no other row has such values
no_octets : (most : ℕ) (g : Gathered) (os : List ℕ) (unused : ℕ) → whole_octets most g ≡ Some (bits os unused) → zero ≡ suc zero
no_octets most g os unused e = by (nat_le (length g.octets) most) e
  where
    by : (b : Bool) → cond b (Some (octets g.octets)) None ≡ Some (bits os unused) → zero ≡ suc zero
    by true e = absurd cc
    by false e = absurd cc

no_text : (kind : _) (g : Gathered) (os : List ℕ) (unused : ℕ) → whole_text kind g ≡ Some (bits os unused) → zero ≡ suc zero
no_text kind g os unused e = by (is_text kind g.octets) e
  where
    by : (b : Bool) → cond b (Some (text g.octets)) None ≡ Some (bits os unused) → zero ≡ suc zero
    by true e = absurd cc
    by false e = absurd cc

no_set : (ps : List Part) (f : Filled) (os : List ℕ) (unused : ℕ) → set_done ps f ≡ Some (bits os unused) → zero ≡ suc zero
no_set ps f os unused e = by (is_filled ps f.found) e
  where
    by : (b : Bool) → cond b (Some (parts (parts_of (settled ps f.found)))) None ≡ Some (bits os unused) → zero ≡ suc zero
    by true e = absurd cc
    by false e = absurd cc

no_string : (whole : Gathered → Option Value) → ((g : Gathered) (os : List ℕ) (unused : ℕ) → whole g ≡ Some (bits os unused) → zero ≡ suc zero) → (tag : tags.Tag) (levels : ℕ) (os : List ℕ) (unused : ℕ) (s : List ℕ)
    → StringIs OfOctets whole always tag false levels (bits os unused) s → zero ≡ suc zero
no_string whole no_bits tag levels os unused s (inl p) = by (segment_rule OfOctets nothing p.form.contents) p.form.holds.0
  where
    by : (o : Option Gathered) → and_whole whole o ≡ Some (bits os unused) → zero ≡ suc zero
    by None e = absurd cc
    by (Some g) e = no_bits g os unused e
no_string whole no_bits tag levels os unused s (inr p) = no_bits p.1 os unused p.2

explicit_zeros : (P : ℕ → Value → List ℕ → Type 0) (tag : tags.Tag) (levels : ℕ) (os : List ℕ) (unused : ℕ) (s : List ℕ)
    → ((l : ℕ) (c : List ℕ) → P l (bits os unused) c → AreZeros os unused (P l (bits os unused)) c) → IsConstructed tag false levels (λ l c. P l (bits os unused) c) s
    → AreZeros os unused (IsConstructed tag false levels (λ l c. P l (bits os unused) c)) s
explicit_zeros P tag levels os unused s each p =
    let Q : ℕ → List ℕ → Type 0 = λ l c. P l (bits os unused) c in
    let a = around tag false levels Q s p in
    let z = each a.inner a.contents a.holds in (
      z.0,
      λ lt.
          let h = z.1 lt in
          record {
            front = a.before ++ h.front;
            octet = h.octet;
            back = h.back ++ a.behind;
            are = around_are tag false levels Q s a h.front h.back h.octet h.are;
            has = h.has;
            any = λ y e. around_one tag false levels Q s a h.front h.back h.octet y Q h.are (h.any y e);
          },
    )

module _ (spell : ℕ → Value → List ℕ) (rel : ℕ → Spelled) (h : (m : ℕ) → HaveZeros (rel m)) where
  choice_zeros : (ps : List Part) (t : Option tags.Tag) (levels : ℕ) (os : List ℕ) (unused : ℕ) (s : List ℕ) → OrExplicit (ChoiceIs rel ps) t false levels (bits os unused) s → AreZeros os unused (OrExplicit (ChoiceIs rel ps) t false levels (bits os unused)) s
  choice_zeros ps None levels os unused s p = absurd p
  choice_zeros ps (Some t) levels os unused s p = absurd (around t false levels (λ l c. ChoiceIs rel ps false l (bits os unused) c) s p).holds

  any_zeros : (t : Option tags.Tag) (levels : ℕ) (os : List ℕ) (unused : ℕ) (s : List ℕ) → OrExplicit (λ strict. AnyIs) t false levels (bits os unused) s → AreZeros os unused (OrExplicit (λ strict. AnyIs) t false levels (bits os unused)) s
  any_zeros None levels os unused s p = absurd p
  any_zeros (Some t) levels os unused s p = absurd (around t false levels (λ l c. AnyIs l (bits os unused) c) s p).holds

  row_zeros : (r : TypeRow) (t : Guise) (levels : ℕ) (os : List ℕ) (unused : ℕ) (s : List ℕ) → RowIs spell rel r t false levels (bits os unused) s → AreZeros os unused (RowIs spell rel r t false levels (bits os unused)) s
  row_zeros row.Boolean t levels os unused s p = absurd p.form.holds.0
  row_zeros (row.Integer low high) t levels os unused s p = absurd p.form.holds.0
  row_zeros (row.Enumerated items) t levels os unused s p = absurd p.form.holds.0
  row_zeros row.Null t levels os unused s p = absurd p.form.holds
  row_zeros (row.OctetString most) t levels os unused s p = absurd (let no = no_string (whole_octets most) (no_octets most) (tag_or t.tag Universal 4) levels os unused s p in cc)
  row_zeros row.BitString t levels os unused s p = bits_zeros has_zero_bits (tag_or t.tag Universal 3) levels os unused s p
  row_zeros row.ObjectId t levels os unused s p = absurd p.form.holds
  row_zeros (row.Text kind) t levels os unused s p = absurd (let no = no_string (whole_text kind) (no_text kind) (tag_or t.tag Universal (text_number kind)) levels os unused s p in cc)
  row_zeros (row.Sequence ps) t levels os unused s p = absurd (around (tag_or t.tag Universal 16) false levels (SequenceIs rel false ps (bits os unused)) s p).holds
  row_zeros (row.Set ps) t levels os unused s p =
      let x = (around (tag_or t.tag Universal 17) false levels (SetIs rel ps false (bits os unused)) s p).holds in
      absurd (let no = no_set ps x.0 os unused x.1 in cc)
  row_zeros (row.SequenceOf of) t levels os unused s p =
      let x = (around (tag_or t.tag Universal 16) false levels (ListIs (rel of.0) false (bits os unused)) s p).holds in
      absurd (let no = x.1 in cc)
  row_zeros (row.SetOf of) t levels os unused s p =
      let x = (around (tag_or t.tag Universal 17) false levels (SetOfIs (spell of.0) (rel of.0) false (bits os unused)) s p).holds in
      absurd (let no = x.1 in cc)
  row_zeros (row.Choice ps) t levels os unused s p = choice_zeros ps t.tag levels os unused s p
  row_zeros (row.Tagged class number true of) t levels os unused s p =
      explicit_zeros (λ l v c. rel of.0 (bare t.default) false l v c) (tag_or t.tag class number) levels os unused s (λ l c q. (h of.0).is (bare t.default) l os unused c q) p
  row_zeros (row.Tagged class number false of) t levels os unused s p = (h of.0).is (under (Some (tag_or t.tag class number)) t.default) levels os unused s p
  row_zeros row.Any t levels os unused s p = any_zeros t.tag levels os unused s p

  of_zeros : (o : Option TypeRow) (t : Guise) (levels : ℕ) (os : List ℕ) (unused : ℕ) (s : List ℕ) → RowOr (RowIs spell rel) o t false levels (bits os unused) s → AreZeros os unused (RowOr (RowIs spell rel) o t false levels (bits os unused)) s
  of_zeros None t levels os unused s p = absurd p
  of_zeros (Some r) t levels os unused s p = row_zeros r t levels os unused s p

along_zeros : (rows : List TypeRow) (turns n : ℕ) → HaveZeros (SpelledBy rows turns n)
along_zeros rows zero n = record { is = λ t levels os unused s p. absurd p }
along_zeros rows (suc turns) n = record { is = λ t levels os unused s p. of_zeros (written rows) (SpelledBy rows turns) (λ m. along_zeros rows turns m) (slice_get rows n) t levels os unused s p }

same_size : (front back : List ℕ) (x y limit : ℕ) (s : List ℕ) → s ≡ front ++ (x ∷ back) → length s ≤ limit → length (front ++ (y ∷ back)) ≤ limit
same_size front back x y limit s is le = omega (arith, ap length is, length-append front (x ∷ back), length-append front (y ∷ back))

pub unused_bits_are_zeros : UnusedBitsAreZeros
unused_bits_are_zeros rows n limit unused os spelled p =
    let z = (along_zeros rows (length rows) n).is plain 32 os unused spelled p.by in (
      z.0,
      λ lt.
          let h = z.1 lt in
          record {
            front = h.front;
            octet = h.octet;
            back = h.back;
            are = h.are;
            has = h.has;
            any = λ y e. record { by = h.any y e; within = same_size h.front h.back h.octet y limit spelled h.are p.within };
          },
    )

-- ---- one segment

ruled : (unused o : ℕ) (os : List ℕ) → unused < 8 → string_rule OfBits whole_bits (unused ∷ o ∷ os) ≡ Some (bits (cleared unused (o ∷ os)) unused)
ruled unused o os lt = rw (lt-ltb unused 8 lt, lt-leb 8 unused lt) refl

by_row : (rows : List TypeRow) (turns n unused o : ℕ) (os s : List ℕ) → slice_get rows n ≡ Some row.BitString → unused < 8
    → IsDefinite false false (segment_tag OfBits) (λ c. c ≡ unused ∷ o ∷ os) s → SpelledBy rows (suc turns) n plain false 32 (bits (cleared unused (o ∷ os)) unused) s
by_row rows turns n unused o os s at lt d =
    let P : List ℕ → Type 0 = λ contents. (string_rule OfBits whole_bits contents ≡ Some (bits (cleared unused (o ∷ os)) unused)) × (false ≡ true → has_zero_bits contents ≡ true) in
    let one : IsPrimitive (segment_tag OfBits) false 32 (λ c. c ≡ unused ∷ o ∷ os) s = record { level = omega arith; small = omega arith; form = d } in
    rw at (inl (primitive_as (segment_tag OfBits) false 32 (λ c. c ≡ unused ∷ o ∷ os) P s one (λ c is. (ap (string_rule OfBits whole_bits) is ∙ ruled unused o os lt, λ f. absurd cc))))

some_row : (rows : List TypeRow) (n : ℕ) (r : TypeRow) → slice_get rows n ≡ Some r → (k : ℕ) × (length rows ≡ suc k)
some_row [] n r e = absurd cc
some_row (x ∷ rows) n r e = (length rows, refl)

pub unused_bits_are_cleared : UnusedBitsAreCleared
unused_bits_are_cleared rows n limit unused [] spelled at some lt d short = absurd (omega arith)
unused_bits_are_cleared rows n limit unused (o ∷ os) spelled at some lt d short =
    let turns = some_row rows n row.BitString at in
    record { by = rw turns.1 (by_row rows turns.0 n unused o os spelled at lt d); within = short }
