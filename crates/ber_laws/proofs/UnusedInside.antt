-- Unused bits of a BIT STRING inside a value count as zeros in BER.
use Rattle.std.proofs.Common.{◌≡◌, ℕ, zero, suc, ◌+◌, ◌-◌, ◌<◌, ◌≤◌, Bool, true, false, ◌||◌, cond, List, [], ◌∷◌, ◌++◌, length, Option, Some, None, refl, sym, ap, ◌∙◌, subst, arith, append_assoc, length-append, ◌⊎◌, inl, inr}
use Rattle.std.specs.Prelude.{slice_get, slice_index, slice_set, nat_le}
use Rattle.std.proofs.lemmas.List.{append-nil}
use Rattle.asn1_types.specs.declared.row.Class.TheVariants.{Universal}
use Rattle.asn1_types.specs.declared.row.Part.{Part}
use Rattle.asn1_types.specs.declared.row.TypeRow.{TypeRow}
use Rattle.asn1_types.specs.declared.row.TypeRow.TheVariants as row
use Rattle.asn1_types.specs.declared.row.Tag as tags
use Rattle.asn1_types.specs.Rows.{text_number}
use Rattle.asn1_types.specs.Tags.{tag_or, front_rank}
use Rattle.asn1_types.specs.Defaults.{is_default, kept}
use Rattle.asn1_types.specs.Fits.{are_bits, is_text}
use Rattle.asn1_types.specs.Rising.{is_less, placed, sorted}
use Rattle.asn1_types.specs.Value.{Value, boolean, integer, null, octets, bits, object_id, text, parts, list, chosen, any, MaybeValues, no_parts, absent, present}
use Rattle.asn1_types.specs.ValueView.{parts_of, values_of, empty_slots}
use Rattle.asn1_types.specs.Writing.{written}
use Rattle.ber_spelling.specs.declared.spot.StringKind.TheVariants.{OfOctets, OfBits}
use Rattle.ber_spelling.specs.declared.spot.Gathered.{Gathered}
use Rattle.ber_spelling.specs.Order.{Filled}
use Rattle.ber_spelling.specs.Rules.{Guise, bare, plain, under, always, nothing, segment_rule, and_whole, whole_octets, whole_text, whole_bits, has_zero_bits, nothing_filled, is_filled, settled, set_done, cleared}
use Rattle.ber_spelling.specs.Spelling.{IsConstructed, Spelled, Steps, StringIs, PartIs, PartsAre, SequenceIs, ListStep, ListIs, SetItemStep, SetOfIs, SetStep, SetIs, ChoiceIs, OrExplicit, BooleanIs, IntegerIs, EnumeratedIs, NullIs, ObjectIdIs, AnyIs, RowIs, RowOr, SpelledBy}
use Rattle.ber_spelling.specs.Laws.{HoldsUnused}
use Rattle.ber_spelling.proofs.Around.{around, around_one, around_are}
use Rattle.ber_spelling.proofs.UnusedBits.{bits_zeros}
use Rattle.ber_laws.specs.Values.{HasBits, PartsHaveBits, ItemsHaveBits}
use Rattle.ber_laws.specs.Laws.{UnusedBitsMayBeAny}

-- what holds of octets that spell a value with such a BIT STRING in it
abbrev AreAny : List ℕ → ℕ → (List ℕ → Type 0) → List ℕ → Type 0
AreAny os unused P s = (are_bits os unused ≡ true) × (0 < unused → HoldsUnused (slice_index os (length os - 1)) unused P s)

module _ (os : List ℕ) (unused : ℕ) where
  -- ---- octets in others

  any_as : (P Q : List ℕ → Type 0) (s : List ℕ) → ((x : List ℕ) → P x → Q x) → AreAny os unused P s → AreAny os unused Q s
  any_as P Q s f z = (z.0, λ lt. let h = z.1 lt in record { front = h.front; octet = h.octet; back = h.back; are = h.are; has = h.has; any = λ y e. f (h.front ++ (y ∷ h.back)) (h.any y e) })

  amid : (before front back behind : List ℕ) (x : ℕ) → before ++ ((front ++ (x ∷ back)) ++ behind) ≡ (before ++ front) ++ (x ∷ (back ++ behind))
  amid before front back behind x = ap (λ (y : List ℕ). before ++ y) (append_assoc front (x ∷ back) behind) ∙ sym (append_assoc before front (x ∷ (back ++ behind)))

  any_amid : (before behind : List ℕ) (P Q : List ℕ → Type 0) (s : List ℕ) → ((x : List ℕ) → P x → Q (before ++ (x ++ behind))) → AreAny os unused P s → AreAny os unused Q (before ++ (s ++ behind))
  any_amid before behind P Q s f z = (
    z.0,
    λ lt.
        let h = z.1 lt in
        record {
          front = before ++ h.front;
          octet = h.octet;
          back = h.back ++ behind;
          are = ap (λ (x : List ℕ). before ++ (x ++ behind)) h.are ∙ amid before h.front h.back behind h.octet;
          has = h.has;
          any = λ y e. subst Q (amid before h.front h.back behind y) (f (h.front ++ (y ∷ h.back)) (h.any y e));
        },
  )

  any_first : (behind : List ℕ) (P Q : List ℕ → Type 0) (s : List ℕ) → ((x : List ℕ) → P x → Q (x ++ behind)) → AreAny os unused P s → AreAny os unused Q (s ++ behind)
  any_first behind P Q s f z = any_amid [] behind P Q s f z

  any_last : (before : List ℕ) (P Q : List ℕ → Type 0) (s : List ℕ) → ((x : List ℕ) → P x → Q (before ++ x)) → AreAny os unused P s → AreAny os unused Q (before ++ s)
  any_last before P Q s f z =
      subst (λ (x : List ℕ). AreAny os unused Q (before ++ x)) (append-nil s)
      (any_amid before [] P Q s (λ x p. subst (λ (y : List ℕ). Q (before ++ y)) (sym (append-nil x)) (f x p)) z)

  any_inside : (Q : ℕ → List ℕ → Type 0) (tag : tags.Tag) (levels : ℕ) (s : List ℕ) → ((l : ℕ) (c : List ℕ) → Q l c → AreAny os unused (Q l) c) → IsConstructed tag false levels Q s → AreAny os unused (IsConstructed tag false levels Q) s
  any_inside Q tag levels s each p =
      let a = around tag false levels Q s p in
      let z = each a.inner a.contents a.holds in (
        z.0,
        λ lt.
            let h = z.1 lt in
            record {
              front = a.before ++ h.front;
              octet = h.octet;
              back = h.back ++ a.behind;
              are = around_are tag false levels Q s a h.front h.back h.octet h.are;
              has = h.has;
              any = λ y e. around_one tag false levels Q s a h.front h.back h.octet y Q h.are (h.any y e);
            },
      )

  -- ---- rows that hold none

  no_boolean : (v : Value) (c : List ℕ) → BooleanIs false v c → HasBits os unused v → ⊥
  no_boolean (boolean x) c p h = h
  no_boolean (integer x) c p h = h
  no_boolean null c p h = h
  no_boolean (octets x) c p h = h
  no_boolean (bits x n) c p h = p
  no_boolean (object_id x) c p h = h
  no_boolean (text x) c p h = h
  no_boolean (parts x) c p h = p
  no_boolean (list x) c p h = p
  no_boolean (chosen n x) c p h = p
  no_boolean (any x) c p h = h

  no_integer : (low high : _) (v : Value) (c : List ℕ) → IntegerIs low high v c → HasBits os unused v → ⊥
  no_integer low high (boolean x) c p h = h
  no_integer low high (integer x) c p h = h
  no_integer low high null c p h = h
  no_integer low high (octets x) c p h = h
  no_integer low high (bits x n) c p h = p
  no_integer low high (object_id x) c p h = h
  no_integer low high (text x) c p h = h
  no_integer low high (parts x) c p h = p
  no_integer low high (list x) c p h = p
  no_integer low high (chosen n x) c p h = p
  no_integer low high (any x) c p h = h

  no_enumerated : (items : _) (v : Value) (c : List ℕ) → EnumeratedIs items v c → HasBits os unused v → ⊥
  no_enumerated items (boolean x) c p h = h
  no_enumerated items (integer x) c p h = h
  no_enumerated items null c p h = h
  no_enumerated items (octets x) c p h = h
  no_enumerated items (bits x n) c p h = p
  no_enumerated items (object_id x) c p h = h
  no_enumerated items (text x) c p h = h
  no_enumerated items (parts x) c p h = p
  no_enumerated items (list x) c p h = p
  no_enumerated items (chosen n x) c p h = p
  no_enumerated items (any x) c p h = h

  no_null : (v : Value) (c : List ℕ) → NullIs v c → HasBits os unused v → ⊥
  no_null (boolean x) c p h = h
  no_null (integer x) c p h = h
  no_null null c p h = h
  no_null (octets x) c p h = h
  no_null (bits x n) c p h = p
  no_null (object_id x) c p h = h
  no_null (text x) c p h = h
  no_null (parts x) c p h = p
  no_null (list x) c p h = p
  no_null (chosen n x) c p h = p
  no_null (any x) c p h = h

  no_object_id : (v : Value) (c : List ℕ) → ObjectIdIs v c → HasBits os unused v → ⊥
  no_object_id (boolean x) c p h = h
  no_object_id (integer x) c p h = h
  no_object_id null c p h = h
  no_object_id (octets x) c p h = h
  no_object_id (bits x n) c p h = p
  no_object_id (object_id x) c p h = h
  no_object_id (text x) c p h = h
  no_object_id (parts x) c p h = p
  no_object_id (list x) c p h = p
  no_object_id (chosen n x) c p h = p
  no_object_id (any x) c p h = h

  no_any : (levels : ℕ) (v : Value) (c : List ℕ) → AnyIs levels v c → HasBits os unused v → ⊥
  no_any levels (boolean x) c p h = h
  no_any levels (integer x) c p h = h
  no_any levels null c p h = h
  no_any levels (octets x) c p h = h
  no_any levels (bits x n) c p h = p
  no_any levels (object_id x) c p h = h
  no_any levels (text x) c p h = h
  no_any levels (parts x) c p h = p
  no_any levels (list x) c p h = p
  no_any levels (chosen n x) c p h = p
  no_any levels (any x) c p h = h

  -- a string that holds none, by what its segments are together
  no_octets : (most : ℕ) (g : Gathered) (v : Value) → whole_octets most g ≡ Some v → HasBits os unused v → ⊥
  no_octets most g v e h = by (nat_le (length g.octets) most) e
    where
      by : (b : Bool) → cond b (Some (octets g.octets)) None ≡ Some v → ⊥
      by true f = let is : v ≡ octets g.octets = cc in subst (HasBits os unused) is h
      by false f = absurd cc

  no_text : (kind : _) (g : Gathered) (v : Value) → whole_text kind g ≡ Some v → HasBits os unused v → ⊥
  no_text kind g v e h = by (is_text kind g.octets) e
    where
      by : (b : Bool) → cond b (Some (text g.octets)) None ≡ Some v → ⊥
      by true f = let is : v ≡ text g.octets = cc in subst (HasBits os unused) is h
      by false f = absurd cc

  no_string : (whole : Gathered → Option Value) → ((g : Gathered) (v : Value) → whole g ≡ Some v → HasBits os unused v → ⊥) → (tag : tags.Tag) (levels : ℕ) (v : Value) (s : List ℕ)
      → StringIs OfOctets whole always tag false levels v s → HasBits os unused v → ⊥
  no_string whole none tag levels v s (inl p) h = by (segment_rule OfOctets nothing p.form.contents) p.form.holds.0
    where
      by : (o : Option Gathered) → and_whole whole o ≡ Some v → ⊥
      by None e = absurd cc
      by (Some g) e = none g v e h
  no_string whole none tag levels v s (inr p) h = none p.1 v p.2 h

  -- ---- BIT STRINGs

  abbrev is_bits : Value → Bool
  is_bits (boolean x) = false
  is_bits (integer x) = false
  is_bits null = false
  is_bits (octets x) = false
  is_bits (bits x n) = true
  is_bits (object_id x) = false
  is_bits (text x) = false
  is_bits (parts x) = false
  is_bits (list x) = false
  is_bits (chosen n x) = false
  is_bits (any x) = false

  whole_is_bits : (g : Gathered) (v : Value) → whole_bits g ≡ Some v → is_bits v ≡ true
  whole_is_bits g v e = by (g.spoiled || nat_le 8 g.unused) e
    where
      by : (b : Bool) → cond b None (Some (bits (cleared g.unused g.octets) g.unused)) ≡ Some v → is_bits v ≡ true
      by true f = absurd cc
      by false f = let is : bits (cleared g.unused g.octets) g.unused ≡ v = cc in ap is_bits (sym is)

  string_is_bits : (canonical : List ℕ → Bool) (tag : tags.Tag) (levels : ℕ) (v : Value) (s : List ℕ) → StringIs OfBits whole_bits canonical tag false levels v s → is_bits v ≡ true
  string_is_bits canonical tag levels v s (inl p) = by (segment_rule OfBits nothing p.form.contents) p.form.holds.0
    where
      by : (o : Option Gathered) → and_whole whole_bits o ≡ Some v → is_bits v ≡ true
      by None e = absurd cc
      by (Some g) e = whole_is_bits g v e
  string_is_bits canonical tag levels v s (inr p) = whole_is_bits p.1 v p.2

  bits_any : (canonical : List ℕ → Bool) (tag : tags.Tag) (levels : ℕ) (v : Value) (s : List ℕ) → StringIs OfBits whole_bits canonical tag false levels v s → HasBits os unused v → AreAny os unused (StringIs OfBits whole_bits canonical tag false levels v) s
  bits_any canonical tag levels v s p h = by v (string_is_bits canonical tag levels v s p) p h
    where
      by : (w : Value) → is_bits w ≡ true → StringIs OfBits whole_bits canonical tag false levels w s → HasBits os unused w → AreAny os unused (StringIs OfBits whole_bits canonical tag false levels w) s
      by (bits held count) e q k =
          let same : bits held count ≡ bits os unused = ap (λ (x : List ℕ). bits x count) k.0 ∙ ap (bits os) k.1 in
          let z = bits_zeros canonical tag levels os unused s (subst (λ (w : Value). StringIs OfBits whole_bits canonical tag false levels w s) same q) in
          subst (λ (w : Value). AreAny os unused (StringIs OfBits whole_bits canonical tag false levels w) s) (sym same) z
      by (boolean x) e q k = absurd cc
      by (integer x) e q k = absurd cc
      by null e q k = absurd cc
      by (octets x) e q k = absurd cc
      by (object_id x) e q k = absurd cc
      by (text x) e q k = absurd cc
      by (parts x) e q k = absurd cc
      by (list x) e q k = absurd cc
      by (chosen n x) e q k = absurd cc
      by (any x) e q k = absurd cc

  -- ---- rows that hold values

  -- what holds of a row: where a BIT STRING stands in a value, its unused bits may be any
  record HaveAny (rel : Spelled) : Type 0 where
    is : (t : Guise) (levels : ℕ) (v : Value) (s : List ℕ) → rel t false levels v s → HasBits os unused v → AreAny os unused (rel t false levels v) s

  abbrev HoldBits : List Value → Type 0
  HoldBits vs = ItemsHaveBits os unused (values_of vs)

  -- the last of these, or one before it
  hold_last : (vs : List Value) (w : Value) → HoldBits (vs ++ w ∷ []) → HoldBits vs ⊎ HasBits os unused w
  hold_last [] w (inl h) = inr h
  hold_last [] w (inr h) = absurd h
  hold_last (v ∷ vs) w (inl h) = inl (inl h)
  hold_last (v ∷ vs) w (inr h) = elim (hold_last vs w h) [ inl x ↦ inl (inr x) | inr x ↦ inr x ]

  hold_placed : (spell : Value → List ℕ) (v : Value) (vs : List Value) → HoldBits (placed spell v vs) → HasBits os unused v ⊎ HoldBits vs
  hold_placed spell v [] (inl h) = inl h
  hold_placed spell v [] (inr h) = absurd h
  hold_placed spell v (w ∷ ws) h = by (is_less (spell w) (spell v)) (hold_placed spell v ws) h
    where
      by : (b : Bool) → (HoldBits (placed spell v ws) → HasBits os unused v ⊎ HoldBits ws) → HoldBits (cond b (w ∷ placed spell v ws) (v ∷ w ∷ ws)) → HasBits os unused v ⊎ HoldBits (w ∷ ws)
      by true later (inl x) = inr (inl x)
      by true later (inr x) = elim (later x) [ inl y ↦ inl y | inr y ↦ inr (inr y) ]
      by false later (inl x) = inl x
      by false later (inr x) = inr x

  hold_sorted : (spell : Value → List ℕ) (vs : List Value) → HoldBits (sorted spell vs) → HoldBits vs
  hold_sorted spell [] h = h
  hold_sorted spell (v ∷ vs) h = elim (hold_placed spell v (sorted spell vs) h) [ inl x ↦ inl x | inr x ↦ inr (hold_sorted spell vs x) ]

  -- ---- values one after the other

  abbrev Through : {S : Type 0} → (S → S → List ℕ → Type 0) → S → S → List ℕ → Type 0
  Through {S} step first last c = (steps : List (List ℕ × S)) × Steps step steps first last c

  step_first : {S : Type 0} (step : S → S → List ℕ → Type 0) (first next last : S) (s others : List ℕ) → step first next s → Through step next last others → Through step first last (s ++ others)
  step_first step first next last s others p later = ((s, next) ∷ later.0, (others, refl, p, later.1))

  -- items, each of which is added to those before it
  module _ (step : List Value → List Value → List ℕ → Type 0)
      (adds : (a b : List Value) (s : List ℕ) → step a b s → (w : Value) × (b ≡ a ++ w ∷ []) × (HasBits os unused w → AreAny os unused (step a b) s)) where
    items_any : (steps : List (List ℕ × List Value)) (first last : List Value) (c : List ℕ) → Steps step steps first last c → HoldBits last → HoldBits first ⊎ AreAny os unused (Through step first last) c
    items_any [] first last c p h = inl (subst HoldBits (sym p.0) h)
    items_any (s ∷ more) first last c p h =
        let later : Through step s.1 last p.0 = (more, p.3) in
        elim (items_any more s.1 last p.0 p.3 h) [
          | inr z ↦ inr (subst (AreAny os unused (Through step first last)) (sym p.1) (any_last s.0 (Through step s.1 last) (Through step first last) p.0 (λ x q. step_first step first s.1 last s.0 x p.2 q) z))
          | inl x ↦
              let a = adds first s.1 s.0 p.2 in
              elim (hold_last first a.0 (subst HoldBits a.1 x)) [
                | inl y ↦ inl y
                | inr y ↦ inr (subst (AreAny os unused (Through step first last)) (sym p.1) (any_first p.0 (step first s.1) (Through step first last) s.0 (λ t q. step_first step first s.1 last t p.0 q later) (a.2 y)))
              ]
        ]

  list_any : (rel : Spelled) → HaveAny rel → (v : Value) (levels : ℕ) (c : List ℕ) → ListIs rel false v levels c → HasBits os unused v → AreAny os unused (ListIs rel false v levels) c
  list_any rel each v levels c p h =
      let is : v ≡ list (values_of p.0) = let e = p.1 in cc in
      elim (items_any (λ a b s. ListStep rel a false levels b s) (λ a b s q. (q.0, q.1, λ k. any_as (rel plain false levels q.0) (ListStep rel a false levels b) s (λ x r. (q.0, q.1, r)) (each.is plain levels q.0 s q.2 k))) p.2 [] p.0 c p.3 (subst (HasBits os unused) is h)) [
        | inl x ↦ absurd x
        | inr z ↦ any_as (Through (λ a b s. ListStep rel a false levels b s) [] p.0) (ListIs rel false v levels) c (λ x q. (p.0, p.1, q.0, q.1)) z
      ]

  set_of_any : (spell : Value → List ℕ) (rel : Spelled) → HaveAny rel → (v : Value) (levels : ℕ) (c : List ℕ) → SetOfIs spell rel false v levels c → HasBits os unused v → AreAny os unused (SetOfIs spell rel false v levels) c
  set_of_any spell rel each v levels c p h =
      let is : v ≡ list (values_of (sorted spell p.0)) = let e = p.1 in cc in
      elim (items_any (λ a b s. SetItemStep spell rel a false levels b s) (λ a b s q. (q.0, q.1, λ k. any_as (rel plain false levels q.0) (SetItemStep spell rel a false levels b) s (λ x r. (q.0, q.1, r, q.3)) (each.is plain levels q.0 s q.2 k))) p.2 [] p.0 c p.3 (hold_sorted spell p.0 (subst (HasBits os unused) is h))) [
        | inl x ↦ absurd x
        | inr z ↦ any_as (Through (λ a b s. SetItemStep spell rel a false levels b s) [] p.0) (SetOfIs spell rel false v levels) c (λ x q. (p.0, p.1, q.0, q.1)) z
      ]

  -- ---- the parts of a SEQUENCE

  kept_is : (p : Part) (w v : Value) → kept p w ≡ Some v → w ≡ v
  kept_is p w v e = by (is_default p.default w) e
    where
      by : (b : Bool) → cond b None (Some w) ≡ Some v → w ≡ v
      by true f = absurd cc
      by false f = cc

  module _ (rel : ℕ → Spelled) (each : (m : ℕ) → HaveAny (rel m)) where
    part_any : (levels : ℕ) (p : Part) (v : Value) (s : List ℕ) → PartIs (rel p.inner.0) false levels p (Some v) s → HasBits os unused v → AreAny os unused (PartIs (rel p.inner.0) false levels p (Some v)) s
    part_any levels p v s (inl q) h = absurd (let e = q.1 in cc)
    part_any levels p v s (inr q) h =
        any_as (rel p.inner.0 (bare p.default) false levels q.0) (PartIs (rel p.inner.0) false levels p (Some v)) s (λ x r. inr (q.0, q.1, r)) ((each p.inner.0).is (bare p.default) levels q.0 s q.2 (subst (HasBits os unused) (sym (kept_is p q.0 v q.1)) h))

    parts_any : (levels : ℕ) (ps : List Part) (vs : MaybeValues) (c : List ℕ) → PartsAre rel false levels ps vs c → PartsHaveBits os unused vs → AreAny os unused (PartsAre rel false levels ps vs) c
    parts_any levels [] no_parts c p h = absurd h
    parts_any levels [] (absent vs) c p h = absurd p
    parts_any levels [] (present v vs) c p h = absurd p
    parts_any levels (q ∷ ps) no_parts c p h = absurd p
    parts_any levels (q ∷ ps) (absent vs) c p h =
        subst (AreAny os unused (PartsAre rel false levels (q ∷ ps) (absent vs))) (sym p.2)
        (any_last p.0 (PartsAre rel false levels ps vs) (PartsAre rel false levels (q ∷ ps) (absent vs)) p.1 (λ x r. (p.0, x, refl, p.3, r)) (parts_any levels ps vs p.1 p.4 h))
    parts_any levels (q ∷ ps) (present v vs) c p (inl h) =
        subst (AreAny os unused (PartsAre rel false levels (q ∷ ps) (present v vs))) (sym p.2)
        (any_first p.1 (PartIs (rel q.inner.0) false levels q (Some v)) (PartsAre rel false levels (q ∷ ps) (present v vs)) p.0 (λ x r. (x, p.1, refl, r, p.4)) (part_any levels q v p.0 p.3 h))
    parts_any levels (q ∷ ps) (present v vs) c p (inr h) =
        subst (AreAny os unused (PartsAre rel false levels (q ∷ ps) (present v vs))) (sym p.2)
        (any_last p.0 (PartsAre rel false levels ps vs) (PartsAre rel false levels (q ∷ ps) (present v vs)) p.1 (λ x r. (p.0, x, refl, p.3, r)) (parts_any levels ps vs p.1 p.4 h))

    sequence_any : (ps : List Part) (v : Value) (levels : ℕ) (c : List ℕ) → SequenceIs rel false ps v levels c → HasBits os unused v → AreAny os unused (SequenceIs rel false ps v levels) c
    sequence_any ps (parts vs) levels c p h = parts_any levels ps vs c p h
    sequence_any ps (boolean x) levels c p h = absurd p
    sequence_any ps (integer x) levels c p h = absurd p
    sequence_any ps null levels c p h = absurd p
    sequence_any ps (octets x) levels c p h = absurd p
    sequence_any ps (bits x n) levels c p h = absurd p
    sequence_any ps (object_id x) levels c p h = absurd p
    sequence_any ps (text x) levels c p h = absurd p
    sequence_any ps (list x) levels c p h = absurd p
    sequence_any ps (chosen n x) levels c p h = absurd p
    sequence_any ps (any x) levels c p h = absurd p

    chosen_any : (ps : List Part) (levels : ℕ) (v : Value) (s : List ℕ) → ChoiceIs rel ps false levels v s → HasBits os unused v → AreAny os unused (ChoiceIs rel ps false levels v) s
    chosen_any ps levels (chosen which v) s p h =
        any_as (rel p.0.inner.0 plain false levels v) (ChoiceIs rel ps false levels (chosen which v)) s (λ x r. (p.0, p.1, r)) ((each p.0.inner.0).is plain levels v s p.2 h)
    chosen_any ps levels (boolean x) s p h = absurd p
    chosen_any ps levels (integer x) s p h = absurd p
    chosen_any ps levels null s p h = absurd p
    chosen_any ps levels (octets x) s p h = absurd p
    chosen_any ps levels (bits x n) s p h = absurd p
    chosen_any ps levels (object_id x) s p h = absurd p
    chosen_any ps levels (text x) s p h = absurd p
    chosen_any ps levels (parts x) s p h = absurd p
    chosen_any ps levels (list x) s p h = absurd p
    chosen_any ps levels (any x) s p h = absurd p

    -- ---- the parts of a SET

    abbrev SlotsHold : List (Option Value) → Type 0
    SlotsHold found = PartsHaveBits os unused (parts_of found)

    hold_kept : (b : Bool) (v : Value) (found others : List (Option Value)) → (SlotsHold others → SlotsHold found) → SlotsHold (cond b None (Some v) ∷ others) → SlotsHold (Some v ∷ found)
    hold_kept true v found others later h = inr (later h)
    hold_kept false v found others later (inl h) = inl h
    hold_kept false v found others later (inr h) = inr (later h)

    hold_settled : (ps : List Part) (found : List (Option Value)) → SlotsHold (settled ps found) → SlotsHold found
    hold_settled [] found h = absurd h
    hold_settled (p ∷ ps) [] h = h
    hold_settled (p ∷ ps) (None ∷ found) h = hold_settled ps found h
    hold_settled (p ∷ ps) (Some v ∷ found) h = hold_kept (is_default p.default v) v found (settled ps found) (hold_settled ps found) h

    hold_set : (found : List (Option Value)) (which : ℕ) (v : Value) → SlotsHold (slice_set found which (Some v)) → HasBits os unused v ⊎ SlotsHold found
    hold_set [] which v h = inr h
    hold_set (o ∷ found) zero v (inl h) = inl h
    hold_set (None ∷ found) zero v (inr h) = inr h
    hold_set (Some w ∷ found) zero v (inr h) = inr (inr h)
    hold_set (None ∷ found) (suc which) v h = hold_set found which v h
    hold_set (Some w ∷ found) (suc which) v (inl h) = inr (inl h)
    hold_set (Some w ∷ found) (suc which) v (inr h) = elim (hold_set found which v h) [ inl x ↦ inl x | inr x ↦ inr (inr x) ]

    hold_nothing : (ps : List Part) → SlotsHold (empty_slots ps) → ⊥
    hold_nothing [] h = h
    hold_nothing (p ∷ ps) h = hold_nothing ps h

    module _ (ps : List Part) (levels : ℕ) where
      abbrev Slot : Filled → Filled → List ℕ → Type 0
      Slot a b s = SetStep rel ps a false levels b s

      -- from a state to one with these parts
      abbrev Fills : Filled → Filled → List ℕ → Type 0
      Fills first last c = (end : Filled) × (end.found ≡ last.found) × Through Slot first end c

      -- what the tag of a part before was doesn't matter in BER
      other_state : (steps : List (List ℕ × Filled)) (a b last : Filled) (c : List ℕ) → b.found ≡ a.found → Steps Slot steps a last c → Fills b last c
      other_state [] a b last c same p = (b, same ∙ ap (λ (x : Filled). x.found) p.0, ([], (refl, p.1)))
      other_state (s ∷ more) a b last c same p =
          let q = p.2 in
          let free : slice_get b.found q.0 ≡ Some None = ap (λ (x : List (Option Value)). slice_get x q.0) same ∙ q.4 in
          let next : s.1 ≡ record { found = slice_set b.found q.0 (Some q.2); least = front_rank s.0 + 1 } = q.7 ∙ ap (λ (x : List (Option Value)). record { found = slice_set x q.0 (Some q.2); least = front_rank s.0 + 1 }) (sym same) in
          (last, refl, (s ∷ more, (p.0, p.1, (q.0, q.1, q.2, q.3, free, q.5, λ e. absurd (let wrong : false ≡ true = e in cc), next), p.3)))

      slots_any : (steps : List (List ℕ × Filled)) (first last : Filled) (c : List ℕ) → Steps Slot steps first last c → SlotsHold last.found → SlotsHold first.found ⊎ AreAny os unused (Fills first last) c
      slots_any [] first last c p h = inl (subst (λ (x : Filled). SlotsHold x.found) (sym p.0) h)
      slots_any (s ∷ more) first last c p h =
          let q = p.2 in
          elim (slots_any more s.1 last p.0 p.3 h) [
            | inr z ↦ inr (subst (AreAny os unused (Fills first last)) (sym p.1) (any_last s.0 (Fills s.1 last) (Fills first last) p.0 (λ x r. (r.0, r.1, step_first Slot first s.1 r.0 s.0 x p.2 r.2)) z))
            | inl x ↦ elim (hold_set first.found q.0 q.2 (subst (λ (y : Filled). SlotsHold y.found) q.7 x)) [
              | inr y ↦ inl y
              | inl y ↦ inr (subst (AreAny os unused (Fills first last)) (sym p.1)
                  (any_first p.0 (rel q.1.inner.0 (bare q.1.default) false levels q.2) (Fills first last) s.0 (replaced first last s more p.0 q p.3) ((each q.1.inner.0).is (bare q.1.default) levels q.2 s.0 q.5 y)))
            ]
          ]
        where
          replaced : (first last : Filled) (s : List ℕ × Filled) (more : List (List ℕ × Filled)) (others : List ℕ) (q : Slot first s.1 s.0) → Steps Slot more s.1 last others
              → (t : List ℕ) → rel q.1.inner.0 (bare q.1.default) false levels q.2 t → Fills first last (t ++ others)
          replaced first last s more others q later t r =
              let next : Filled = record { found = slice_set first.found q.0 (Some q.2); least = front_rank t + 1 } in
              let same : next.found ≡ s.1.found = sym (ap (λ (x : Filled). x.found) q.7) in
              let rest = other_state more s.1 next last others same later in
              (rest.0, rest.1, step_first Slot first next rest.0 t others (q.0, q.1, q.2, q.3, q.4, r, λ e. absurd (let wrong : false ≡ true = e in cc), refl) rest.2)

      done_again : (end last : Filled) (v : Value) → end.found ≡ last.found → set_done ps last ≡ Some v → set_done ps end ≡ Some v
      done_again end last v same e = ap (λ (x : List (Option Value)). set_done ps (record { found = x; least = end.least })) same ∙ e

      done_is : (last : Filled) (v : Value) → set_done ps last ≡ Some v → v ≡ parts (parts_of (settled ps last.found))
      done_is last v e = by (is_filled ps last.found) e
        where
          by : (b : Bool) → cond b (Some (parts (parts_of (settled ps last.found)))) None ≡ Some v → v ≡ parts (parts_of (settled ps last.found))
          by true f = cc
          by false f = absurd cc

      set_any : (v : Value) (c : List ℕ) → SetIs rel ps false v levels c → HasBits os unused v → AreAny os unused (SetIs rel ps false v levels) c
      set_any v c p h =
          elim (slots_any p.2 (nothing_filled ps) p.0 c p.3 (hold_settled ps p.0.found (subst (HasBits os unused) (done_is p.0 v p.1) h))) [
            | inl x ↦ absurd (hold_nothing ps x)
            | inr z ↦ any_as (Fills (nothing_filled ps) p.0) (SetIs rel ps false v levels) c (λ x q. (q.0, done_again q.0 p.0 v q.1 p.1, q.2.0, q.2.1)) z
          ]

    -- ---- each row

    explicit_any : (P : Bool → ℕ → Value → List ℕ → Type 0) → ((levels : ℕ) (v : Value) (s : List ℕ) → P false levels v s → HasBits os unused v → AreAny os unused (P false levels v) s) → (t : tags.Tag) (levels : ℕ) (v : Value) (s : List ℕ)
        → IsConstructed t false levels (λ l c. P false l v c) s → HasBits os unused v → AreAny os unused (IsConstructed t false levels (λ l c. P false l v c)) s
    explicit_any P inside t levels v s p h = any_inside (λ l c. P false l v c) t levels s (λ l c q. inside l v c q h) p

    or_any : (P : Bool → ℕ → Value → List ℕ → Type 0) → ((levels : ℕ) (v : Value) (s : List ℕ) → P false levels v s → HasBits os unused v → AreAny os unused (P false levels v) s) → (t : Option tags.Tag) (levels : ℕ) (v : Value) (s : List ℕ)
        → OrExplicit P t false levels v s → HasBits os unused v → AreAny os unused (OrExplicit P t false levels v) s
    or_any P inside None levels v s p h = inside levels v s p h
    or_any P inside (Some t) levels v s p h = explicit_any P inside t levels v s p h

    module _ (spell : ℕ → Value → List ℕ) where
      row_any : (r : TypeRow) (t : Guise) (levels : ℕ) (v : Value) (s : List ℕ) → RowIs spell rel r t false levels v s → HasBits os unused v → AreAny os unused (RowIs spell rel r t false levels v) s
      row_any row.Boolean t levels v s p h = absurd (no_boolean v p.form.contents p.form.holds.0 h)
      row_any (row.Integer low high) t levels v s p h = absurd (no_integer low high v p.form.contents p.form.holds.0 h)
      row_any (row.Enumerated items) t levels v s p h = absurd (no_enumerated items v p.form.contents p.form.holds.0 h)
      row_any row.Null t levels v s p h = absurd (no_null v p.form.contents p.form.holds h)
      row_any (row.OctetString most) t levels v s p h = absurd (no_string (whole_octets most) (no_octets most) (tag_or t.tag Universal 4) levels v s p h)
      row_any row.BitString t levels v s p h = bits_any has_zero_bits (tag_or t.tag Universal 3) levels v s p h
      row_any row.ObjectId t levels v s p h = absurd (no_object_id v p.form.contents p.form.holds h)
      row_any (row.Text kind) t levels v s p h = absurd (no_string (whole_text kind) (no_text kind) (tag_or t.tag Universal (text_number kind)) levels v s p h)
      row_any (row.Sequence ps) t levels v s p h = any_inside (SequenceIs rel false ps v) (tag_or t.tag Universal 16) levels s (λ l c q. sequence_any ps v l c q h) p
      row_any (row.Set ps) t levels v s p h = any_inside (SetIs rel ps false v) (tag_or t.tag Universal 17) levels s (λ l c q. set_any ps l v c q h) p
      row_any (row.SequenceOf of) t levels v s p h = any_inside (ListIs (rel of.0) false v) (tag_or t.tag Universal 16) levels s (λ l c q. list_any (rel of.0) (each of.0) v l c q h) p
      row_any (row.SetOf of) t levels v s p h = any_inside (SetOfIs (spell of.0) (rel of.0) false v) (tag_or t.tag Universal 17) levels s (λ l c q. set_of_any (spell of.0) (rel of.0) (each of.0) v l c q h) p
      row_any (row.Choice ps) t levels v s p h = or_any (ChoiceIs rel ps) (chosen_any ps) t.tag levels v s p h
      row_any (row.Tagged class number true of) t levels v s p h = explicit_any (rel of.0 (bare t.default)) (λ l w u q k. (each of.0).is (bare t.default) l w u q k) (tag_or t.tag class number) levels v s p h
      row_any (row.Tagged class number false of) t levels v s p h = (each of.0).is (under (Some (tag_or t.tag class number)) t.default) levels v s p h
      row_any row.Any t levels v s p h = or_any (λ strict. AnyIs) (λ l w u q k. absurd (no_any l w u q k)) t.tag levels v s p h

      of_any : (o : Option TypeRow) (t : Guise) (levels : ℕ) (v : Value) (s : List ℕ) → RowOr (RowIs spell rel) o t false levels v s → HasBits os unused v → AreAny os unused (RowOr (RowIs spell rel) o t false levels v) s
      of_any None t levels v s p h = absurd p
      of_any (Some r) t levels v s p h = row_any r t levels v s p h

  along_any : (rows : List TypeRow) (turns n : ℕ) → HaveAny (SpelledBy rows turns n)
  along_any rows zero n = record { is = λ t levels v s p h. absurd p }
  along_any rows (suc turns) n = record { is = λ t levels v s p h. of_any (SpelledBy rows turns) (λ m. along_any rows turns m) (written rows) (slice_get rows n) t levels v s p h }

same_size : (front back : List ℕ) (x y limit : ℕ) (s : List ℕ) → s ≡ front ++ (x ∷ back) → length s ≤ limit → length (front ++ (y ∷ back)) ≤ limit
same_size front back x y limit s is le = omega (arith, ap length is, length-append front (x ∷ back), length-append front (y ∷ back))

pub unused_bits_may_be_any : UnusedBitsMayBeAny
unused_bits_may_be_any rows n limit v spelled os unused p h =
    let z = (along_any os unused rows (length rows) n).is plain 32 v spelled p.by h in (
      z.0,
      λ lt.
          let k = z.1 lt in
          record {
            front = k.front;
            octet = k.octet;
            back = k.back;
            are = k.are;
            has = k.has;
            any = λ y e. record { by = k.any y e; within = same_size k.front k.back k.octet y limit spelled k.are p.within };
          },
    )
