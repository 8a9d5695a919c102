-- Values that hold values: what is spelled so is read.
use Rattle.std.proofs.Common.{◌≡◌, ℕ, ◌+◌, ◌-◌, ◌^◌, ◌≤◌, ◌<◌, Bool, true, false, not, ◌&&◌, List, [], ◌∷◌, ◌++◌, length, Option, Some, None, Ok, refl, sym, ap, ◌∙◌, arith, length-append, append_assoc}
use Rattle.std.specs.Prelude.{slice_get}
use Rattle.std.proofs.lemmas.Bool.{le-ltb, and_parts}
use Rattle.osi_base.specs.Limits.{most_items}
use Rattle.byteorder.specs.Endian.{big_bytes}
use Rattle.asn1_types.specs.declared.row.Part.{Part}
use Rattle.asn1_types.specs.Defaults.{may_be_absent, is_default}
use Rattle.asn1_types.specs.Fits.{part_fits, parts_fit, sequence_fits, values_fit, list_fits, alternative_fits, choice_fits}
use Rattle.asn1_types.specs.Value.{Value, boolean, integer, null, octets, bits, object_id, text, parts, list, chosen, any, MaybeValues, no_parts, absent, present, Values, no_values, value}
use Rattle.packed_codec.specs.Reading.{Spot, Reading, ◌>>=◌}
use Rattle.packed_codec.specs.Rules.{Reader, present_at, part_at, parts_at, sequence_at, items_at, list_at, choice_at, set_item_at, set_items_at, set_of_at}
use Rattle.packed_codec.specs.Writing.{Writer, part_written, parts_written, sequence_written, how_many, values_written, list_written, alternative_written, choice_written, items, items_of_parts, items_of_values}
use Rattle.packed_codec.proofs.Taking.{octet_again, count_again}
use Rattle.packed_codec.proofs.Spelled.{at_spot, Only}
use Rattle.packed_codec.proofs.Parts.{items_of_part, list_of, parts_list, items_list, values_list}
use Rattle.asn1_types.specs.Rising.{rise, set_rises}
use Rattle.ber_spelling.proofs.RisingLaws.{GoOn, go_on, rising_goes}

-- a text with what follows it, cut in two
pub cut : (a b rest : List ℕ) → (a ++ b) ++ rest ≡ a ++ (b ++ rest)
cut a b rest = append_assoc a b rest

not_true : (b : Bool) → not b ≡ true → b ≡ false
not_true true e = absurd cc
not_true false e = refl

module _ (test : ℕ → Value → Bool) (write : ℕ → Writer) (inner : ℕ → Reader) (h : (n : ℕ) → Only (test n) (write n) (inner n)) (limit : ℕ) (lt : limit < 2 ^ 32) where
  present_back : (p : Part) (place left : ℕ) (v : Value) (rest : List ℕ) → (not (is_default p.default v) && test p.inner.0 v) ≡ true → place + length (write p.inner.0 v) ≤ limit → items v ≤ left → left ≤ most_items
      → present_at (inner p.inner.0) p limit (at_spot place (write p.inner.0 v ++ rest) left) ≡ Ok (Some v, at_spot (place + length (write p.inner.0 v)) rest (left - items v))
  unfolding present_at
  present_back p place left v rest f le few most =
      let t = and_parts (not (is_default p.default v)) (test p.inner.0 v) f in
      rw ((h p.inner.0).only limit place left v rest t.1 lt le few most, not_true (is_default p.default v) t.0) refl

  part_back : (p : Part) (place left : ℕ) (o : Option Value) (rest : List ℕ) → part_fits test p o ≡ true → place + length (part_written write p o) ≤ limit → items_of_part o ≤ left → left ≤ most_items
      → part_at (inner p.inner.0) p limit (at_spot place (part_written write p o ++ rest) left) ≡ Ok (o, at_spot (place + length (part_written write p o)) rest (left - items_of_part o))
  unfolding part_at
  part_back p place left None rest f le few most =
      let text : part_written write p None ≡ 0 ∷ [] = rw f refl in
      let len : length (part_written write p None) ≡ 1 = ap length text in
      let kept : left ≡ left - 0 = omega arith in
      let to : place + 1 ≡ place + length (part_written write p None) = omega arith in
      rw (text, f, octet_again limit place left 0 rest (omega arith)) (λ i. Ok (None, at_spot (place + 1) rest (kept i)))
  part_back p place left (Some v) rest f le few most = by_mark (may_be_absent p) refl
    where
      by_mark : (b : Bool) → may_be_absent p ≡ b → part_at (inner p.inner.0) p limit (at_spot place (part_written write p (Some v) ++ rest) left) ≡ Ok (Some v, at_spot (place + length (part_written write p (Some v))) rest (left - items v))
      by_mark false t =
          let text : part_written write p (Some v) ≡ write p.inner.0 v = rw t refl in
          let len = ap length text in
          rw (text, t) (present_back p place left v rest f (omega arith) few most)
      by_mark true t =
          let text : part_written write p (Some v) ≡ 1 ∷ write p.inner.0 v = rw t refl in
          let len = ap length text in
          let to : place + 1 + length (write p.inner.0 v) ≡ place + length (1 ∷ write p.inner.0 v) = omega arith in
          rw (text, t, octet_again limit place left 1 (write p.inner.0 v ++ rest) (omega arith))
          (present_back p (place + 1) left v rest f (omega arith) few most ∙ ap (λ (k : ℕ). Ok (Some v, at_spot k rest (left - items v))) to)

  -- one after the other
  step_back : {A : Type 0} (one : Spot → Reading (A × Spot)) (more : A × Spot → Reading (List A × Spot)) (place left m n : ℕ) (a b rest : List ℕ) (x : A) (xs : List A)
      → m + n ≤ left
      → one (at_spot place (a ++ (b ++ rest)) left) ≡ Ok (x, at_spot (place + length a) (b ++ rest) (left - m))
      → more (x, at_spot (place + length a) (b ++ rest) (left - m)) ≡ Ok (x ∷ xs, at_spot (place + length a + length b) rest (left - m - n))
      → (one (at_spot place ((a ++ b) ++ rest) left) >>= more) ≡ Ok (x ∷ xs, at_spot (place + length (a ++ b)) rest (left - (m + n)))
  step_back {A} one more place left m n a b rest x xs few e f =
      let to : place + length a + length b ≡ place + length (a ++ b) = omega (arith, length-append a b) in
      let kept : left - m - n ≡ left - (m + n) = omega arith in
      ap (λ (t : List ℕ). one (at_spot place t left) >>= more) (cut a b rest) ∙ ap (λ (r : Reading (A × Spot)). r >>= more) e ∙ f ∙ λ i. Ok (x ∷ xs, at_spot (to i) rest (kept i))

  parts_back : (ps : List Part) (place left : ℕ) (vs : MaybeValues) (rest : List ℕ) → parts_fit test ps vs ≡ true → place + length (parts_written write ps vs) ≤ limit → items_of_parts vs ≤ left → left ≤ most_items
      → parts_at inner limit (at_spot place (parts_written write ps vs ++ rest) left) ps ≡ Ok (list_of vs, at_spot (place + length (parts_written write ps vs)) rest (left - items_of_parts vs))
  unfolding parts_at
  parts_back [] place left no_parts rest f le few most =
      let to : place ≡ place + 0 = omega arith in
      let kept : left ≡ left - 0 = omega arith in
      λ i. Ok ([], at_spot (to i) rest (kept i))
  parts_back [] place left (absent vs) rest f le few most = absurd cc
  parts_back [] place left (present v vs) rest f le few most = absurd cc
  parts_back (p ∷ ps) place left no_parts rest f le few most = absurd cc
  parts_back (p ∷ ps) place left (absent vs) rest f le few most =
      let t = and_parts (may_be_absent p) (parts_fit test ps vs) f in
      let a : List ℕ = part_written write p None in
      let b : List ℕ = parts_written write ps vs in
      let len = length-append a b in
      let first = part_back p place left None (b ++ rest) t.0 (omega arith) (omega arith) most in
      let others = parts_back ps (place + length a) (left - 0) vs rest t.1 (omega arith) (omega arith) (omega arith) in
      let none : left - (0 + items_of_parts vs) ≡ left - items_of_parts vs = omega arith in
      step_back (part_at (inner p.inner.0) p limit) (λ x. parts_at inner limit x.1 ps >>= λ more. Ok (x.0 ∷ more.0, more.1)) place left 0 (items_of_parts vs) a b rest None (list_of vs) (omega arith) first (rw others refl)
      ∙ ap (λ (k : ℕ). Ok (None ∷ list_of vs, at_spot (place + length (a ++ b)) rest k)) none
  parts_back (p ∷ ps) place left (present v vs) rest f le few most =
      let t = and_parts (not (is_default p.default v) && test p.inner.0 v) (parts_fit test ps vs) f in
      let a : List ℕ = part_written write p (Some v) in
      let b : List ℕ = parts_written write ps vs in
      let len = length-append a b in
      let first = part_back p place left (Some v) (b ++ rest) t.0 (omega arith) (omega arith) most in
      let others = parts_back ps (place + length a) (left - items v) vs rest t.1 (omega arith) (omega arith) (omega arith) in
      step_back (part_at (inner p.inner.0) p limit) (λ x. parts_at inner limit x.1 ps >>= λ more. Ok (x.0 ∷ more.0, more.1)) place left (items v) (items_of_parts vs) a b rest (Some v) (list_of vs) few first (rw others refl)

  pub sequence_back : (ps : List Part) (place left : ℕ) (v : Value) (rest : List ℕ) → sequence_fits (parts_fit test ps) v ≡ true → place + length (sequence_written write ps v) ≤ limit → items v ≤ left → left ≤ most_items
      → sequence_at inner ps limit (at_spot place (sequence_written write ps v ++ rest) left) ≡ Ok (v, at_spot (place + length (sequence_written write ps v)) rest (left - items v))
  unfolding sequence_at
  sequence_back ps place left (parts vs) rest f le few most =
      rw (parts_back ps place left vs rest f le few most) (ap (λ (x : MaybeValues). Ok (parts x, at_spot (place + length (parts_written write ps vs)) rest (left - items_of_parts vs))) (parts_list vs))
  sequence_back ps place left null rest f le few most = absurd cc
  sequence_back ps place left (boolean b) rest f le few most = absurd cc
  sequence_back ps place left (integer z) rest f le few most = absurd cc
  sequence_back ps place left (octets os) rest f le few most = absurd cc
  sequence_back ps place left (bits os n) rest f le few most = absurd cc
  sequence_back ps place left (object_id os) rest f le few most = absurd cc
  sequence_back ps place left (text os) rest f le few most = absurd cc
  sequence_back ps place left (list vs) rest f le few most = absurd cc
  sequence_back ps place left (chosen n v) rest f le few most = absurd cc
  sequence_back ps place left (any os) rest f le few most = absurd cc

  items_back : (n place left : ℕ) (vs : Values) (rest : List ℕ) → values_fit (test n) vs ≡ true → place + length (values_written (write n) vs) ≤ limit → items_of_values vs ≤ left → left ≤ most_items
      → items_at (inner n) (how_many vs) limit (at_spot place (values_written (write n) vs ++ rest) left) ≡ Ok (items_list vs, at_spot (place + length (values_written (write n) vs)) rest (left - items_of_values vs))
  unfolding items_at
  items_back n place left no_values rest f le few most =
      let to : place ≡ place + 0 = omega arith in
      let kept : left ≡ left - 0 = omega arith in
      λ i. Ok ([], at_spot (to i) rest (kept i))
  items_back n place left (value v vs) rest f le few most =
      let t = and_parts (test n v) (values_fit (test n) vs) f in
      let a : List ℕ = write n v in
      let b : List ℕ = values_written (write n) vs in
      let len = length-append a b in
      let first = (h n).only limit place left v (b ++ rest) t.0 lt (omega arith) (omega arith) most in
      let others = items_back n (place + length a) (left - items v) vs rest t.1 (omega arith) (omega arith) (omega arith) in
      step_back (inner n limit) (λ x. items_at (inner n) (how_many vs) limit x.1 >>= λ more. Ok (x.0 ∷ more.0, more.1)) place left (items v) (items_of_values vs) a b rest v (items_list vs) few first (rw others refl)

  pub list_back : (n place left : ℕ) (v : Value) (rest : List ℕ) → list_fits (test n) v ≡ true → place + length (list_written (write n) v) ≤ limit → items v ≤ left → left ≤ most_items
      → list_at (inner n) limit (at_spot place (list_written (write n) v ++ rest) left) ≡ Ok (v, at_spot (place + length (list_written (write n) v)) rest (left - items v))
  unfolding list_at
  list_back n place left (list vs) rest f le few most =
      let k : ℕ = how_many vs in
      let b : List ℕ = values_written (write n) vs in
      let small : k < 2 ^ 32 = omega arith in
      let enough : k ≤ left = omega arith in
      let len = length-append (big_bytes 4 k) b in
      let others = items_back n (place + 4) (left - k) vs rest f (omega arith) (omega arith) (omega arith) in
      let to : place + 4 + length b ≡ place + length (big_bytes 4 k ++ b) = omega arith in
      let kept : left - k - items_of_values vs ≡ left - (k + items_of_values vs) = omega arith in
      rw (count_again limit place left k (b ++ rest) small (omega arith), le-ltb left k enough, others)
      (λ i. Ok (list (values_list vs i), at_spot (to i) rest (kept i)))
  list_back n place left null rest f le few most = absurd cc
  list_back n place left (boolean b) rest f le few most = absurd cc
  list_back n place left (integer z) rest f le few most = absurd cc
  list_back n place left (octets os) rest f le few most = absurd cc
  list_back n place left (bits os m) rest f le few most = absurd cc
  list_back n place left (object_id os) rest f le few most = absurd cc
  list_back n place left (text os) rest f le few most = absurd cc
  list_back n place left (parts ps) rest f le few most = absurd cc
  list_back n place left (chosen m v) rest f le few most = absurd cc
  list_back n place left (any os) rest f le few most = absurd cc

  set_items_back : (spell : Value → List ℕ) (n : ℕ) (before : List Value) (place left : ℕ) (vs : Values) (rest : List ℕ) → values_fit (test n) vs ≡ true → GoOn spell before vs → place + length (values_written (write n) vs) ≤ limit → items_of_values vs ≤ left → left ≤ most_items
      → set_items_at (set_item_at spell (inner n)) before (how_many vs) limit (at_spot place (values_written (write n) vs ++ rest) left) ≡ Ok (items_list vs, at_spot (place + length (values_written (write n) vs)) rest (left - items_of_values vs))
  unfolding set_items_at set_item_at
  set_items_back spell n before place left no_values rest f up le few most =
      let to : place ≡ place + 0 = omega arith in
      let kept : left ≡ left - 0 = omega arith in
      λ i. Ok ([], at_spot (to i) rest (kept i))
  set_items_back spell n before place left (value v vs) rest f up le few most =
      let t = and_parts (test n v) (values_fit (test n) vs) f in
      let a : List ℕ = write n v in
      let b : List ℕ = values_written (write n) vs in
      let len = length-append a b in
      let first = (h n).only limit place left v (b ++ rest) t.0 lt (omega arith) (omega arith) most in
      let step : set_item_at spell (inner n) before limit (at_spot place (a ++ (b ++ rest)) left) ≡ Ok (v, at_spot (place + length a) (b ++ rest) (left - items v)) = rw (first, up.0) refl in
      let others = set_items_back spell n (before ++ v ∷ []) (place + length a) (left - items v) vs rest t.1 (go_on spell before v vs up.1) (omega arith) (omega arith) (omega arith) in
      step_back (set_item_at spell (inner n) before limit) (λ x. set_items_at (set_item_at spell (inner n)) (before ++ x.0 ∷ []) (how_many vs) limit x.1 >>= λ more. Ok (x.0 ∷ more.0, more.1)) place left (items v) (items_of_values vs) a b rest v (items_list vs) few step (rw others refl)

  pub set_of_back : (spell : Value → List ℕ) (n place left : ℕ) (v : Value) (rest : List ℕ) → (list_fits (test n) v && set_rises spell v) ≡ true → place + length (list_written (write n) v) ≤ limit → items v ≤ left → left ≤ most_items
      → set_of_at spell (inner n) limit (at_spot place (list_written (write n) v ++ rest) left) ≡ Ok (v, at_spot (place + length (list_written (write n) v)) rest (left - items v))
  unfolding set_of_at
  set_of_back spell n place left (list vs) rest f le few most =
      let t = and_parts (values_fit (test n) vs) (rise spell vs) f in
      let k : ℕ = how_many vs in
      let b : List ℕ = values_written (write n) vs in
      let small : k < 2 ^ 32 = omega arith in
      let enough : k ≤ left = omega arith in
      let len = length-append (big_bytes 4 k) b in
      let others = set_items_back spell n [] (place + 4) (left - k) vs rest t.0 (rising_goes spell vs t.1) (omega arith) (omega arith) (omega arith) in
      let to : place + 4 + length b ≡ place + length (big_bytes 4 k ++ b) = omega arith in
      let kept : left - k - items_of_values vs ≡ left - (k + items_of_values vs) = omega arith in
      rw (count_again limit place left k (b ++ rest) small (omega arith), le-ltb left k enough, others)
      (λ i. Ok (list (values_list vs i), at_spot (to i) rest (kept i)))
  set_of_back spell n place left null rest f le few most = absurd cc
  set_of_back spell n place left (boolean b) rest f le few most = absurd cc
  set_of_back spell n place left (integer z) rest f le few most = absurd cc
  set_of_back spell n place left (octets os) rest f le few most = absurd cc
  set_of_back spell n place left (bits os m) rest f le few most = absurd cc
  set_of_back spell n place left (object_id os) rest f le few most = absurd cc
  set_of_back spell n place left (text os) rest f le few most = absurd cc
  set_of_back spell n place left (parts ps) rest f le few most = absurd cc
  set_of_back spell n place left (chosen m v) rest f le few most = absurd cc
  set_of_back spell n place left (any os) rest f le few most = absurd cc

  pub choice_back : (ps : List Part) (place left : ℕ) (v : Value) (rest : List ℕ) → choice_fits (λ m. alternative_fits test (slice_get ps m)) v ≡ true → place + length (choice_written write ps v) ≤ limit → items v ≤ left → left ≤ most_items
      → choice_at inner ps limit (at_spot place (choice_written write ps v ++ rest) left) ≡ Ok (v, at_spot (place + length (choice_written write ps v)) rest (left - items v))
  unfolding choice_at
  choice_back ps place left (chosen which v) rest f le few most = by_slot (slice_get ps which) refl
    where
      by_slot : (o : Option Part) → slice_get ps which ≡ o
          → choice_at inner ps limit (at_spot place (alternative_written write which (slice_get ps which) v ++ rest) left) ≡ Ok (chosen which v, at_spot (place + length (alternative_written write which (slice_get ps which) v)) rest (left - items v))
      by_slot None g = absurd (let no_way = sym (ap (λ (o : Option Part). alternative_fits test o v) g) ∙ f in cc)
      by_slot (Some p) g =
          let text : alternative_written write which (slice_get ps which) v ≡ which ∷ write p.inner.0 v = ap (λ (o : Option Part). alternative_written write which o v) g in
          let len = ap length text in
          let fit : test p.inner.0 v ≡ true = sym (ap (λ (o : Option Part). alternative_fits test o v) g) ∙ f in
          let to : place + 1 + length (write p.inner.0 v) ≡ place + length (which ∷ write p.inner.0 v) = omega arith in
          rw (text, octet_again limit place left which (write p.inner.0 v ++ rest) (omega arith), g, (h p.inner.0).only limit (place + 1) left v rest fit lt (omega arith) few most)
          (ap (λ (k : ℕ). Ok (chosen which v, at_spot k rest (left - items v))) to)
  choice_back ps place left null rest f le few most = absurd cc
  choice_back ps place left (boolean b) rest f le few most = absurd cc
  choice_back ps place left (integer z) rest f le few most = absurd cc
  choice_back ps place left (octets os) rest f le few most = absurd cc
  choice_back ps place left (bits os m) rest f le few most = absurd cc
  choice_back ps place left (object_id os) rest f le few most = absurd cc
  choice_back ps place left (text os) rest f le few most = absurd cc
  choice_back ps place left (parts qs) rest f le few most = absurd cc
  choice_back ps place left (list vs) rest f le few most = absurd cc
  choice_back ps place left (any os) rest f le few most = absurd cc
