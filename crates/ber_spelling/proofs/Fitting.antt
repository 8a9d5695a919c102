-- What octets spell fits its row.
use Rattle.std.proofs.Common.{◌≡◌, ℕ, zero, suc, Bool, true, false, ◌&&◌, List, [], ◌∷◌, ◌++◌, length, Option, Some, None, refl, ap, ◌∙◌, subst, ℤ, ◌||◌, inl, inr}
use Rattle.std.specs.Prelude.{slice_get, slice_set, if◌then◌else◌}
use Rattle.std.specs.List.{list_all}
use Rattle.std.proofs.lemmas.Bool.{and_parts}
use Rattle.std.proofs.lemmas.Option.{cond_some}
use Rattle.std.proofs.lemmas.List.Folds.{list_all-append}
use Rattle.asn1_types.specs.declared.row.Class.TheVariants.{Universal}
use Rattle.asn1_types.specs.declared.row.Part.{Part}
use Rattle.asn1_types.specs.declared.row.TypeRow.{TypeRow}
use Rattle.asn1_types.specs.declared.row.TypeRow.TheVariants as row
use Rattle.asn1_types.specs.Defaults.{has_default, may_be_absent, is_default, kept}
use Rattle.asn1_types.specs.Rows.{of_row, along, text_number}
use Rattle.asn1_types.specs.Value.{Value, boolean, integer, null, octets, bits, object_id, text, parts, list, chosen, any, MaybeValues, no_parts, absent, present}
use Rattle.asn1_types.specs.ValueView.{parts_of, values_of, empty_slots}
use Rattle.asn1_types.specs.Fits.{any_fits, part_fits, parts_fit, sequence_fits, values_fit, list_fits, alternative_fits, choice_fits, form_by, nothing_fits, has_form}
use Rattle.osi_base.specs.Octets.{AreOctets}
use Rattle.osi_base.proofs.OctetLaws.{octets_left, octets_right}
use Rattle.ber_spelling.specs.Order.{Filled}
use Rattle.asn1_types.specs.declared.row.Tag as tags
use Rattle.asn1_types.specs.Tags.{tag_or}
use Rattle.ber_spelling.specs.Rules.{always, has_zero_bits, nothing_filled, is_filled, Guise, bare, plain, under, settled}
use Rattle.ber_spelling.specs.Spelling.{BooleanIs, IntegerIs, EnumeratedIs, NullIs, ObjectIdIs, AnyIs, Spelled, Steps, PartsAre, SequenceIs, ListStep, ListIs, SetStep, SetIs, ChoiceIs, OrExplicit, RowIs, RowOr, SpelledBy, Spells, IsOther, PartIs, SetItemStep, SetOfIs}
use Rattle.ber_spelling.specs.Laws.{SpelledFits}
use Rattle.ber_spelling.proofs.Around.{in_primitive, in_constructed}
use Rattle.ber_spelling.proofs.FittingContents.{boolean_fitting, null_fitting, integer_fitting, enumerated_fitting, object_id_fitting, any_fitting, octets_fitting, text_fitting, bits_fitting}
use Rattle.ber_spelling.proofs.Lax.{der_is_ber}
use Rattle.asn1_types.specs.Rising.{set_rises, sorted}
use Rattle.asn1_types.specs.Writing.{written}
use Rattle.ber_spelling.proofs.RisingLaws.{sorted_all, sorted_rises}

record Fitting (rel : Spelled) (fit : Value → Bool) : Type 0 where
  is : (t : Guise) (levels : ℕ) (v : Value) (s : List ℕ) → AreOctets s → rel t false levels v s → fit v ≡ true

-- a value of a part that is no default fits, and of one that is the absent part
kept_fits : (fit : ℕ → Value → Bool) (p : Part) (v : Value) → fit p.inner.0 v ≡ true → part_fits fit p (kept p v) ≡ true
kept_fits fit p v e = by_default p.default (is_default p.default v) refl refl
  where
    has : (d : Option ℤ) → is_default d v ≡ true → has_default d ≡ true
    has None e = absurd cc
    has (Some d) e = refl

    either : (a b : Bool) → b ≡ true → (a || b) ≡ true
    either true b e = refl
    either false b e = e

    by_default : (d : Option ℤ) (b : Bool) → p.default ≡ d → is_default p.default v ≡ b → part_fits fit p (if b then None else Some v) ≡ true
    by_default d true g t = either p.optional (has_default p.default) (has p.default t)
    by_default d false g t = rw (e, t) refl

module _ (spell : ℕ → Value → List ℕ) (rel : ℕ → Spelled) (fit : ℕ → Value → Bool) (h : (m : ℕ) → Fitting (rel m) (fit m)) where
  -- ---- SEQUENCE

  part_fitting : (levels : ℕ) (p : Part) (o : Option Value) (s : List ℕ) → AreOctets s → PartIs (rel p.inner.0) false levels p o s → part_fits fit p o ≡ true
  part_fitting levels p o s are (inl x) = rw x.1 x.0
  part_fitting levels p o s are (inr x) = subst (λ (y : Option Value). part_fits fit p y ≡ true) x.1 (kept_fits fit p x.0 ((h p.inner.0).is (bare p.default) levels x.0 s are x.2))

  parts_fitting : (levels : ℕ) (ps : List Part) (vs : MaybeValues) (c : List ℕ) → AreOctets c → PartsAre rel false levels ps vs c → parts_fit fit ps vs ≡ true
  parts_fitting levels [] no_parts c are p = refl
  parts_fitting levels [] (absent vs) c are p = absurd p
  parts_fitting levels [] (present v vs) c are p = absurd p
  parts_fitting levels (q ∷ qs) no_parts c are p = absurd p
  parts_fitting levels (q ∷ qs) (absent vs) c are p =
      let both : AreOctets (p.0 ++ p.1) = subst AreOctets p.2 are in
      rw (part_fitting levels q None p.0 (octets_left p.0 p.1 both) p.3) (parts_fitting levels qs vs p.1 (octets_right p.0 p.1 both) p.4)
  parts_fitting levels (q ∷ qs) (present v vs) c are p =
      let both : AreOctets (p.0 ++ p.1) = subst AreOctets p.2 are in
      rw (part_fitting levels q (Some v) p.0 (octets_left p.0 p.1 both) p.3) (parts_fitting levels qs vs p.1 (octets_right p.0 p.1 both) p.4)

  sequence_fitting : (ps : List Part) (levels : ℕ) (v : Value) (c : List ℕ) → AreOctets c → SequenceIs rel false ps v levels c → sequence_fits (parts_fit fit ps) v ≡ true
  sequence_fitting ps levels (parts vs) c are p = parts_fitting levels ps vs c are p
  sequence_fitting ps levels (boolean x) c are p = absurd p
  sequence_fitting ps levels (integer x) c are p = absurd p
  sequence_fitting ps levels null c are p = absurd p
  sequence_fitting ps levels (octets x) c are p = absurd p
  sequence_fitting ps levels (bits x n) c are p = absurd p
  sequence_fitting ps levels (object_id x) c are p = absurd p
  sequence_fitting ps levels (text x) c are p = absurd p
  sequence_fitting ps levels (list x) c are p = absurd p
  sequence_fitting ps levels (chosen n x) c are p = absurd p
  sequence_fitting ps levels (any x) c are p = absurd p

  -- ---- SET

  -- each part that stands fits
  abbrev slots_fit : List Part → List (Option Value) → Bool
  slots_fit [] [] = true
  slots_fit [] (o ∷ os) = false
  slots_fit (p ∷ ps) [] = false
  slots_fit (p ∷ ps) (None ∷ os) = slots_fit ps os
  slots_fit (p ∷ ps) (Some v ∷ os) = fit p.inner.0 v && slots_fit ps os

  none_fit : (ps : List Part) → slots_fit ps (empty_slots ps) ≡ true
  none_fit [] = refl
  none_fit (p ∷ ps) = none_fit ps

  one_more : (ps : List Part) (os : List (Option Value)) (which : ℕ) (p : Part) (v : Value) → slice_get ps which ≡ Some p → slice_get os which ≡ Some None → fit p.inner.0 v ≡ true → slots_fit ps os ≡ true
      → slots_fit ps (slice_set os which (Some v)) ≡ true
  one_more [] os which p v at free e all = absurd cc
  one_more (q ∷ qs) [] which p v at free e all = absurd cc
  one_more (q ∷ qs) (Some w ∷ os) zero p v at free e all = absurd cc
  one_more (q ∷ qs) (None ∷ os) zero p v at free e all =
      let same : q ≡ p = cc in
      rw (same, e) all
  one_more (q ∷ qs) (None ∷ os) (suc which) p v at free e all = one_more qs os which p v at free e all
  one_more (q ∷ qs) (Some w ∷ os) (suc which) p v at free e all =
      let t = and_parts (fit q.inner.0 w) (slots_fit qs os) all in
      rw t.0 (one_more qs os which p v at free e t.1)

  put_part : (o : Option Value) (p : Part) (ps : List Part) (os : List (Option Value)) → part_fits fit p o ≡ true → parts_fit fit ps (parts_of os) ≡ true → parts_fit fit (p ∷ ps) (parts_of (o ∷ os)) ≡ true
  put_part None p ps os e all = rw e all
  put_part (Some v) p ps os e all = rw e all

  filled_fit : (ps : List Part) (os : List (Option Value)) → is_filled ps os ≡ true → slots_fit ps os ≡ true → parts_fit fit ps (parts_of (settled ps os)) ≡ true
  filled_fit [] [] f all = refl
  filled_fit [] (o ∷ os) f all = absurd cc
  filled_fit (p ∷ ps) [] f all = absurd cc
  filled_fit (p ∷ ps) (None ∷ os) f all = let t = and_parts (may_be_absent p) (is_filled ps os) f in rw t.0 (filled_fit ps os t.1 all)
  filled_fit (p ∷ ps) (Some v ∷ os) f all =
      let t = and_parts (fit p.inner.0 v) (slots_fit ps os) all in
      put_part (kept p v) p ps (settled ps os) (kept_fits fit p v t.0) (filled_fit ps os f t.1)

  slots_fitting : (ps : List Part) (levels : ℕ) (steps : List (List ℕ × Filled)) (a b : Filled) (c : List ℕ) → AreOctets c → slots_fit ps a.found ≡ true
      → Steps (λ x y s. SetStep rel ps x false levels y s) steps a b c → slots_fit ps b.found ≡ true
  slots_fitting ps levels [] a b c are all p = subst (λ (x : Filled). slots_fit ps x.found ≡ true) p.0 all
  slots_fitting ps levels (s ∷ more) a b c are all p =
      let both : AreOctets (s.0 ++ p.0) = subst AreOctets p.1 are in
      let q = p.2 in
      let e : fit q.1.inner.0 q.2 ≡ true = (h q.1.inner.0).is (bare q.1.default) levels q.2 s.0 (octets_left s.0 p.0 both) q.5 in
      let next : slots_fit ps s.1.found ≡ true = ap (λ (x : Filled). slots_fit ps x.found) q.7 ∙ one_more ps a.found q.0 q.1 q.2 q.3 q.4 e all in
      slots_fitting ps levels more s.1 b p.0 (octets_right s.0 p.0 both) next p.3

  set_fitting : (ps : List Part) (levels : ℕ) (v : Value) (c : List ℕ) → AreOctets c → SetIs rel ps false v levels c → sequence_fits (parts_fit fit ps) v ≡ true
  set_fitting ps levels v c are p =
      let t = cond_some (is_filled ps p.0.found) (parts (parts_of (settled ps p.0.found))) v p.1 in
      subst (λ (x : Value). sequence_fits (parts_fit fit ps) x ≡ true) t.1 (filled_fit ps p.0.found t.0 (slots_fitting ps levels p.2 (nothing_filled ps) p.0 c are (none_fit ps) p.3))

  -- ---- SEQUENCE OF and CHOICE

  values_all : (f : Value → Bool) (vs : List Value) → values_fit f (values_of vs) ≡ list_all f vs
  values_all f [] = refl
  values_all f (v ∷ vs) = ap (λ (b : Bool). f v && b) (values_all f vs)

  items_fitting : (of levels : ℕ) (steps : List (List ℕ × List Value)) (a b : List Value) (c : List ℕ) → AreOctets c → list_all (fit of) a ≡ true
      → Steps (λ x y s. ListStep (rel of) x false levels y s) steps a b c → list_all (fit of) b ≡ true
  items_fitting of levels [] a b c are all p = subst (λ (x : List Value). list_all (fit of) x ≡ true) p.0 all
  items_fitting of levels (s ∷ more) a b c are all p =
      let both : AreOctets (s.0 ++ p.0) = subst AreOctets p.1 are in
      let q = p.2 in
      let e : fit of q.0 ≡ true = (h of).is plain levels q.0 s.0 (octets_left s.0 p.0 both) q.2 in
      let next : list_all (fit of) s.1 ≡ true = ap (list_all (fit of)) q.1 ∙ list_all-append (fit of) a (q.0 ∷ []) ∙ rw (all, e) refl in
      items_fitting of levels more s.1 b p.0 (octets_right s.0 p.0 both) next p.3

  list_fitting : (of levels : ℕ) (v : Value) (c : List ℕ) → AreOctets c → ListIs (rel of) false v levels c → list_fits (fit of) v ≡ true
  list_fitting of levels v c are p =
      let same : list (values_of p.0) ≡ v = let x = p.1 in cc in
      subst (λ (x : Value). list_fits (fit of) x ≡ true) same (values_all (fit of) p.0 ∙ items_fitting of levels p.2 [] p.0 c are refl p.3)

  set_items_fitting : (spelling : Value → List ℕ) (of levels : ℕ) (steps : List (List ℕ × List Value)) (a b : List Value) (c : List ℕ) → AreOctets c → list_all (fit of) a ≡ true
      → Steps (λ x y s. SetItemStep spelling (rel of) x false levels y s) steps a b c → list_all (fit of) b ≡ true
  set_items_fitting spelling of levels [] a b c are all p = subst (λ (x : List Value). list_all (fit of) x ≡ true) p.0 all
  set_items_fitting spelling of levels (s ∷ more) a b c are all p =
      let both : AreOctets (s.0 ++ p.0) = subst AreOctets p.1 are in
      let q = p.2 in
      let e : fit of q.0 ≡ true = (h of).is plain levels q.0 s.0 (octets_left s.0 p.0 both) q.2 in
      let next : list_all (fit of) s.1 ≡ true = ap (list_all (fit of)) q.1 ∙ list_all-append (fit of) a (q.0 ∷ []) ∙ rw (all, e) refl in
      set_items_fitting spelling of levels more s.1 b p.0 (octets_right s.0 p.0 both) next p.3

  set_of_fitting : (spelling : Value → List ℕ) (of levels : ℕ) (v : Value) (c : List ℕ) → AreOctets c → SetOfIs spelling (rel of) false v levels c → (list_fits (fit of) v && set_rises spelling v) ≡ true
  set_of_fitting spelling of levels v c are p =
      let same : list (values_of (sorted spelling p.0)) ≡ v = let x = p.1 in cc in
      let all : list_all (fit of) (sorted spelling p.0) ≡ true = sorted_all spelling (fit of) p.0 (set_items_fitting spelling of levels p.2 [] p.0 c are refl p.3) in
      subst (λ (x : Value). (list_fits (fit of) x && set_rises spelling x) ≡ true) same (rw (values_all (fit of) (sorted spelling p.0), all) (sorted_rises spelling p.0))

  choice_fitting : (ps : List Part) (levels : ℕ) (v : Value) (s : List ℕ) → AreOctets s → ChoiceIs rel ps false levels v s → choice_fits (λ which. alternative_fits fit (slice_get ps which)) v ≡ true
  choice_fitting ps levels (chosen which v) s are p = rw p.1 ((h p.0.inner.0).is plain levels v s are p.2)
  choice_fitting ps levels (boolean x) s are p = absurd p
  choice_fitting ps levels (integer x) s are p = absurd p
  choice_fitting ps levels null s are p = absurd p
  choice_fitting ps levels (octets x) s are p = absurd p
  choice_fitting ps levels (bits x n) s are p = absurd p
  choice_fitting ps levels (object_id x) s are p = absurd p
  choice_fitting ps levels (text x) s are p = absurd p
  choice_fitting ps levels (parts x) s are p = absurd p
  choice_fitting ps levels (list x) s are p = absurd p
  choice_fitting ps levels (any x) s are p = absurd p

  -- ---- rows

  explicit_fitting : (P : Bool → ℕ → Value → List ℕ → Type 0) (v : Value) (good : Bool) → ((l : ℕ) (s : List ℕ) → AreOctets s → P false l v s → good ≡ true) → (t : Option tags.Tag) (levels : ℕ) (s : List ℕ)
      → AreOctets s → OrExplicit P t false levels v s → good ≡ true
  explicit_fitting P v good each None levels s are p = each levels s are p
  explicit_fitting P v good each (Some t) levels s are p = in_constructed t false levels (λ l c. P false l v c) s are p each

  row_fitting : (r : TypeRow) (t : Guise) (levels : ℕ) (v : Value) (s : List ℕ)
      → AreOctets s → RowIs spell rel r t false levels v s → form_by spell fit r v ≡ true
  row_fitting row.Boolean t levels v s are p = in_primitive (tag_or t.tag Universal 1) false levels (λ c. BooleanIs false v c × IsOther t.default false v) s are p (λ c of q. boolean_fitting false v c q.0)
  row_fitting (row.Integer low high) t levels v s are p = in_primitive (tag_or t.tag Universal 2) false levels (λ c. IntegerIs low high v c × IsOther t.default false v) s are p (λ c of q. integer_fitting low high v c of q.0)
  row_fitting (row.Enumerated items) t levels v s are p = in_primitive (tag_or t.tag Universal 10) false levels (λ c. EnumeratedIs items v c × IsOther t.default false v) s are p (λ c of q. enumerated_fitting items v c of q.0)
  row_fitting row.Null t levels v s are p = in_primitive (tag_or t.tag Universal 5) false levels (NullIs v) s are p (λ c of q. null_fitting v c q)
  row_fitting (row.OctetString most) t levels v s are p = octets_fitting most always (tag_or t.tag Universal 4) levels v s are p
  row_fitting row.BitString t levels v s are p = bits_fitting has_zero_bits (tag_or t.tag Universal 3) levels v s are p
  row_fitting row.ObjectId t levels v s are p = in_primitive (tag_or t.tag Universal 6) false levels (ObjectIdIs v) s are p (λ c of q. object_id_fitting v c q)
  row_fitting (row.Text kind) t levels v s are p = text_fitting kind always (tag_or t.tag Universal (text_number kind)) levels v s are p
  row_fitting (row.Sequence ps) t levels v s are p = in_constructed (tag_or t.tag Universal 16) false levels (SequenceIs rel false ps v) s are p (λ l c of q. sequence_fitting ps l v c of q)
  row_fitting (row.Set ps) t levels v s are p = in_constructed (tag_or t.tag Universal 17) false levels (SetIs rel ps false v) s are p (λ l c of q. set_fitting ps l v c of q)
  row_fitting (row.SequenceOf item) t levels v s are p = in_constructed (tag_or t.tag Universal 16) false levels (ListIs (rel item.0) false v) s are p (λ l c of q. list_fitting item.0 l v c of q)
  row_fitting (row.SetOf item) t levels v s are p = in_constructed (tag_or t.tag Universal 17) false levels (SetOfIs (spell item.0) (rel item.0) false v) s are p (λ l c of q. set_of_fitting (spell item.0) item.0 l v c of q)
  row_fitting (row.Choice ps) t levels v s are p =
      explicit_fitting (ChoiceIs rel ps) v (choice_fits (λ which. alternative_fits fit (slice_get ps which)) v) (λ l c of q. choice_fitting ps l v c of q) t.tag levels s are p
  row_fitting (row.Tagged class number true inner) t levels v s are p =
      in_constructed (tag_or t.tag class number) false levels (λ l c. rel inner.0 (bare t.default) false l v c) s are p (λ l c of q. (h inner.0).is (bare t.default) l v c of q)
  row_fitting (row.Tagged class number false inner) t levels v s are p = (h inner.0).is (under (Some (tag_or t.tag class number)) t.default) levels v s are p
  row_fitting row.Any t levels v s are p = explicit_fitting (λ strict. AnyIs) v (any_fits v) (λ l c of q. any_fitting l v c q) t.tag levels s are p

module _ (rows : List TypeRow) where
  along_fitting : (turns n : ℕ) → Fitting (SpelledBy rows turns n) (along nothing_fits (form_by (written rows)) rows turns n)
  along_fitting zero n = record { is = λ t levels v s are p. absurd p }
  along_fitting (suc turns) n = record { is = by (slice_get rows n) (λ m. along_fitting turns m) }
    where
      by : (o : Option TypeRow) → ((m : ℕ) → Fitting (SpelledBy rows turns m) (along nothing_fits (form_by (written rows)) rows turns m)) → (t : Guise) (levels : ℕ) (v : Value) (s : List ℕ) → AreOctets s
          → RowOr (RowIs (written rows) (SpelledBy rows turns)) o t false levels v s → of_row nothing_fits (form_by (written rows) (along nothing_fits (form_by (written rows)) rows turns)) o v ≡ true
      by None h t levels v s are p = absurd p
      by (Some r) h t levels v s are p =
          row_fitting (written rows) (SpelledBy rows turns) (along nothing_fits (form_by (written rows)) rows turns) h r t levels v s are p

lax : (rows : List TypeRow) (n : ℕ) (strict : Bool) (limit : ℕ) (v : Value) (s : List ℕ) → Spells rows n strict limit v s → Spells rows n false limit v s
lax rows n true limit v s p = der_is_ber rows n limit v s p
lax rows n false limit v s p = p

pub spelled_fits : SpelledFits
unfolding has_form
spelled_fits rows n strict limit v s are p = (along_fitting rows (length rows) n).is plain 32 v s are (lax rows n strict limit v s p).by
