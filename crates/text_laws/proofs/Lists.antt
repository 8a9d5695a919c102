-- Lists that are read back.
use Rattle.std.proofs.Common.{◌≡◌, ℕ, zero, suc, ◌+◌, ◌<◌, ◌≤◌, Bool, true, false, List, [], ◌∷◌, ◌++◌, length, Some, refl, ap, ◌∙◌, arith, append_assoc, length-append}
use Rattle.std.specs.Prelude.{option_map}
use Rattle.asn1_types.specs.Fits.{values_fit}
use Rattle.asn1_types.specs.Rising.{is_less, follows, rise_behind, rise, placed, sorted}
use Rattle.asn1_types.specs.Value.{Value, list, Values, no_values, value}
use Rattle.asn1_types.specs.ValueView.{values_of}
use Rattle.value_text.specs.Printed.{items_text, list_text}
use Rattle.value_reading.specs.Found.{Reader}
use Rattle.value_reading.specs.Words.{after_spaces, behind_sign, closed_by}
use Rattle.value_reading.specs.Typed.{with_item, items_at, first_item, braced_items, list_value, list_at}
use Rattle.text_laws.specs.Laws.{may_follow}
use Rattle.text_laws.proofs.Tests.{both_true, not_true}
use Rattle.text_laws.proofs.Starts.{spaces_kept, not_closed, Inner}

abbrev pub list_of : Values → List Value
list_of no_values = []
list_of (value v vs) = v ∷ list_of vs

pub listed_is : (vs : Values) → values_of (list_of vs) ≡ vs
listed_is no_values = refl
listed_is (value v vs) = ap (value v) (listed_is vs)

module _ (fit : Value → Bool) (text : Value → List ℕ) (read : Reader) (inner : Inner fit text read) where
  follows_items : (vs : Values) (rest : List ℕ) → may_follow (items_text text false vs ++ 125 ∷ rest) ≡ true
  follows_items no_values rest = refl
  follows_items (value v vs) rest = refl

  long_enough : (vs : Values) → length (list_of vs) ≤ length (items_text text false vs)
  long_enough no_values = omega arith
  long_enough (value v vs) =
      let l = length-append (text v) (items_text text false vs) in
      let more = long_enough vs in
      omega (arith, l, more)

  items_go : (left : ℕ) (done : List Value) (v : Value) (vs : Values) (rest : List ℕ) → fit v ≡ true → values_fit fit vs ≡ true → length (list_of vs) < left
      → items_at read left done (text v ++ (items_text text false vs ++ 125 ∷ rest)) ≡ Some (record { values = done ++ v ∷ list_of vs; rest = rest })
  items_go zero done v vs rest f fs few = absurd (omega arith)
  items_go (suc left) done v no_values rest f fs few =
      ap (with_item (items_at read left) done) (inner.back v (125 ∷ rest) f refl)
  items_go (suc left) done v (value w ws) rest f fs few =
      let p = both_true (fit w) (values_fit fit ws) fs in
      let tail = items_text text false ws ++ 125 ∷ rest in
      let same : (text w ++ items_text text false ws) ++ 125 ∷ rest ≡ text w ++ tail = append_assoc (text w) (items_text text false ws) (125 ∷ rest) in
      let kept : after_spaces ((text w ++ items_text text false ws) ++ 125 ∷ rest) ≡ text w ++ tail = ap after_spaces same ∙ spaces_kept (text w) tail (inner.start w p.0) in
      let read_one = inner.back v (items_text text false (value w ws) ++ 125 ∷ rest) f (follows_items (value w ws) rest) in
      let few2 : length (list_of ws) < left = omega arith in
      ap (with_item (items_at read left) done) read_one ∙ ap (items_at read left (done ++ v ∷ [])) kept
      ∙ items_go left (done ++ v ∷ []) w ws rest p.0 p.1 few2 ∙ ap (λ (xs : List Value). Some (record { values = xs; rest = rest })) (append_assoc done (v ∷ []) (w ∷ list_of ws))

  -- the items between braces
  pub braces_back : (vs : Values) (rest : List ℕ) → values_fit fit vs ≡ true
      → braced_items read (behind_sign 123 (list_text text (list vs) ++ rest)) ≡ Some (record { values = list_of vs; rest = rest })
  braces_back no_values rest fs = refl
  braces_back (value v vs) rest fs =
      let p = both_true (fit v) (values_fit fit vs) fs in
      let more = items_text text false vs in
      let tail = more ++ 125 ∷ rest in
      let same : ((text v ++ more) ++ 125 ∷ []) ++ rest ≡ text v ++ tail = append_assoc (text v ++ more) (125 ∷ []) rest ∙ append_assoc (text v) more (125 ∷ rest) in
      let start = inner.start v p.0 in
      let kept : after_spaces (((text v ++ more) ++ 125 ∷ []) ++ rest) ≡ text v ++ tail = ap after_spaces same ∙ spaces_kept (text v) tail start in
      let l = length-append (text v) tail in
      let m = length-append more (125 ∷ rest) in
      let enough : length (list_of vs) < length (text v ++ tail) = omega (arith, l, m, long_enough vs) in
      ap (λ x. first_item read x (closed_by x)) kept ∙ ap (first_item read (text v ++ tail)) (not_closed (text v) tail start)
      ∙ items_go (length (text v ++ tail)) [] v vs rest p.0 p.1 enough

  pub list_back : (order : List Value → List Value) (vs : Values) (rest : List ℕ) → values_fit fit vs ≡ true → order (list_of vs) ≡ list_of vs
      → list_at read order (list_text text (list vs) ++ rest) ≡ Some (record { value = list vs; rest = rest })
  list_back order vs rest fs same =
      ap (option_map (list_value order)) (braces_back vs rest fs)
      ∙ ap (λ (xs : List Value). Some (record { value = list (values_of xs); rest = rest })) same ∙ ap (λ (x : Values). Some (record { value = list x; rest = rest })) (listed_is vs)

-- ---- the items of a SET OF that fit stand in order

placed_first : (spell : Value → List ℕ) (v w : Value) (ws : List Value) → is_less (spell w) (spell v) ≡ false → placed spell v (w ∷ ws) ≡ v ∷ w ∷ ws
placed_first spell v w ws h = rw h refl

behind_sorted : (spell : Value → List ℕ) (v : Value) (vs : Values) → rise_behind spell v vs ≡ true → sorted spell (v ∷ list_of vs) ≡ v ∷ list_of vs
behind_sorted spell v no_values h = refl
behind_sorted spell v (value w ws) h =
    let p = both_true (follows spell v w) (rise_behind spell w ws) h in
    let less : is_less (spell w) (spell v) ≡ false = not_true (is_less (spell w) (spell v)) p.0 in
    ap (placed spell v) (behind_sorted spell w ws p.1) ∙ placed_first spell v w (list_of ws) less

pub stays_sorted : (spell : Value → List ℕ) (vs : Values) → rise spell vs ≡ true → sorted spell (list_of vs) ≡ list_of vs
stays_sorted spell no_values h = refl
stays_sorted spell (value v vs) h = behind_sorted spell v vs h
