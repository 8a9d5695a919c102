-- Values that are read back by their types.
use Rattle.std.proofs.Common.{◌≡◌, ◌==◌, ℕ, zero, suc, ◌+◌, ◌^◌, ◌<◌, ◌≤◌, ℤ, pos, negsuc, Bool, true, false, not, List, [], ◌∷◌, ◌++◌, length, Option, None, Some, refl, ap, sym, ◌∙◌, arith, nat_lt, slice_get, decimal, append-nil, take}
use Rattle.std.specs.Prelude.{◌&&◌, ◌||◌, int_lt}
use Rattle.std.specs.List.{list_all, AllByRecursion}
use Rattle.std.proofs.lemmas.Bool.Decides.{nat_tests}
use Rattle.asn1_types.specs.declared.row.Item.{Item}
use Rattle.asn1_types.specs.declared.row.Part.{Part}
use Rattle.asn1_types.specs.declared.row.TypeRow.{TypeRow}
use Rattle.asn1_types.specs.declared.row.TypeRow.TheVariants as row
use Rattle.asn1_types.specs.declared.row.TextKind.{TextKind}
use Rattle.asn1_types.specs.Defaults.{is_item}
use Rattle.asn1_types.specs.Fits.{is_number, is_octet, boolean_fits, integer_fits, enumerated_fits, null_fits, octets_fit, bits_fit, object_id_fits, text_fits, parts_fit, sequence_fits, list_fits, alternative_fits, choice_fits, form_by, has_form, fits}
use Rattle.asn1_types.specs.Rising.{set_rises, sorted}
use Rattle.asn1_types.specs.Rows.{names_of}
use Rattle.asn1_types.specs.Table.{AreSoundRows, is_double_name}
use Rattle.asn1_types.specs.Value as tree
use Rattle.asn1_types.specs.Value.{Value}
use Rattle.asn1_types.specs.Writing.{written}
use Rattle.asn1_types.proofs.FitLaws as fit_laws
use Rattle.asn1_types.proofs.FitLaws.{form_past, fits_has_form}
use Rattle.asn1_types.proofs.Sound.{taken, is_down}
use Rattle.value_text.specs.Numbers.{is_digit}
use Rattle.value_text.specs.Printed.{item_name, item_text, sequence_text, list_text, choice_text, text_by, printed}
use Rattle.value_text.specs.Values.{value_text}
use Rattle.value_text.proofs.PrintLaws.{printed_at}
use Rattle.value_reading.specs.Found.{Reader, found_before}
use Rattle.value_reading.specs.Forms.{form_at}
use Rattle.value_reading.specs.Words.{word}
use Rattle.value_reading.specs.Typed.{item_named, sequence_at, list_at, choice_at, as_read, read_by, read_as, if_fits, value_at}
use Rattle.value_reading.proofs.ReadLaws.{read_at}
use Rattle.text_laws.specs.Laws.{may_follow, has_own_form, has_notation}
use Rattle.text_laws.proofs.Tests.{both_true}
use Rattle.text_laws.proofs.Words.{word_is, behind_is}
use Rattle.text_laws.proofs.Numbers.{writes}
use Rattle.text_laws.proofs.Forms.{form_back}
use Rattle.text_laws.proofs.Starts.{starts, name_starts, name_plain, Inner}
use Rattle.text_laws.proofs.Items.{item_back, name_is_word}
use Rattle.text_laws.proofs.Lists.{list_back, stays_sorted}
use Rattle.text_laws.proofs.Parts.{sequence_back}
use Rattle.text_laws.proofs.Choices.{choice_back, choice_starts}

-- ---- rows whose values have a form of their own

digit_starts : (c : ℕ) → is_digit c ≡ true → not (c == 32 || c == 125) ≡ true
digit_starts c h = grind (arith, nat_tests)

number_starts : (n : ℕ) → nat_lt n (2 ^ 63) ≡ true → starts (decimal n) ≡ true
number_starts n h =
    let small : n < 2 ^ 63 = grind (arith, nat_tests) in
    let wide : n < 2 ^ 64 = omega arith in
    let w = writes n wide in
    let d : is_digit w.first ≡ true = (both_true (is_digit w.first) (list_all is_digit w.more) (rw w.some at w.digits)).0 in
    ap starts w.some ∙ digit_starts w.first d

own_starts : (v : Value) → has_own_form v ≡ true → starts (value_text v) ≡ true
own_starts (tree.boolean true) h = refl
own_starts (tree.boolean false) h = refl
own_starts (tree.integer (pos n)) h = number_starts n h
own_starts (tree.integer (negsuc n)) h = refl
own_starts tree.null h = refl
own_starts (tree.octets os) h = refl
own_starts (tree.bits os unused) h = refl
own_starts (tree.object_id arcs) h = refl
own_starts (tree.text cs) h = refl
own_starts (tree.parts vs) h = absurd (let no : ⊥ = cc in no)
own_starts (tree.list vs) h = absurd (let no : ⊥ = cc in no)
own_starts (tree.chosen which v) h = absurd (let no : ⊥ = cc in no)
own_starts (tree.any os) h = absurd (let no : ⊥ = cc in no)

boolean_own : (v : Value) → boolean_fits v ≡ true → has_own_form v ≡ true
boolean_own (tree.boolean b) h = refl
boolean_own v h = absurd (let no : ⊥ = cc in no)

integer_own : (low high : ℤ) (v : Value) → integer_fits low high v ≡ true → has_own_form v ≡ true
integer_own low high (tree.integer z) h = (both_true (is_number z) (not (int_lt z low)) (both_true (is_number z && not (int_lt z low)) (not (int_lt high z)) h).0).0
integer_own low high v h = absurd (let no : ⊥ = cc in no)

null_own : (v : Value) → null_fits v ≡ true → has_own_form v ≡ true
null_own tree.null h = refl
null_own v h = absurd (let no : ⊥ = cc in no)

octets_own : (most : ℕ) (v : Value) → octets_fit most v ≡ true → has_own_form v ≡ true
octets_own most (tree.octets os) h = (both_true (list_all is_octet os) _ h).0
octets_own most v h = absurd (let no : ⊥ = cc in no)

bits_own : (v : Value) → bits_fit v ≡ true → has_own_form v ≡ true
bits_own (tree.bits os unused) h = h
bits_own v h = absurd (let no : ⊥ = cc in no)

object_id_own : (v : Value) → object_id_fits v ≡ true → has_own_form v ≡ true
object_id_own (tree.object_id arcs) h = h
object_id_own v h = absurd (let no : ⊥ = cc in no)

text_own : (kind : TextKind) (v : Value) → text_fits kind v ≡ true → has_own_form v ≡ true
text_own kind (tree.text cs) h = refl
text_own kind v h = absurd (let no : ⊥ = cc in no)

-- ---- a row, from the rows that it names

module _ (spell : ℕ → Value → List ℕ) (fit : ℕ → Value → Bool) (text : ℕ → Value → List ℕ) (read : ℕ → Reader) where
  abbrev pub RowInner : TypeRow → Type 0
  RowInner r = Inner (form_by spell fit r) (text_by text r) (read_by spell read r)

  enumerated_back : (items : List Item) (v : Value) (rest : List ℕ) → enumerated_fits items v ≡ true → may_follow rest ≡ true → is_double_name (row.Enumerated items) ≡ false
      → has_notation (row.Enumerated items) ≡ true → read_by spell read (row.Enumerated items) (item_text items v ++ rest) ≡ Some (record { value = v; rest = rest })
  enumerated_back items (tree.integer z) rest f m apart n =
      let k = (both_true (is_number z) (is_item items z) f).1 in
      let name = item_name items z in
      let plain = name_plain name (name_is_word items z n k) in
      ap (λ r. found_before r (item_named items (word (name ++ rest)))) (behind_is name rest plain m)
      ∙ ap (λ w. found_before rest (item_named items w)) (word_is name rest plain m) ∙ ap (found_before rest) (item_back items z apart k)
  enumerated_back items v rest f m apart n = absurd (let no : ⊥ = cc in no)

  enumerated_starts : (items : List Item) (v : Value) → enumerated_fits items v ≡ true → has_notation (row.Enumerated items) ≡ true → starts (item_text items v) ≡ true
  enumerated_starts items (tree.integer z) f n =
      let k = (both_true (is_number z) (is_item items z) f).1 in
      ap starts (sym (append-nil (item_name items z))) ∙ name_starts (item_name items z) [] (name_is_word items z n k)
  enumerated_starts items v f n = absurd (let no : ⊥ = cc in no)

  abbrev pub Below : TypeRow → Type 0
  Below r = AllByRecursion (λ m. Inner (fit m) (text m) (read m)) (names_of r)

  sequence_row : (ordered : Bool) (ps : List Part) (v : Value) (rest : List ℕ) → sequence_fits (parts_fit fit ps) v ≡ true → is_double_name (row.Sequence ps) ≡ false → has_notation (row.Sequence ps) ≡ true
      → Below (row.Sequence ps) → sequence_at read ordered ps (sequence_text text ps v ++ rest) ≡ Some (record { value = v; rest = rest })
  sequence_row ordered ps (tree.parts vs) rest f apart n inner = sequence_back fit text read ordered ps vs rest f n apart inner
  sequence_row ordered ps v rest f apart n inner = absurd (let no : ⊥ = cc in no)

  sequence_starts : (ps : List Part) (v : Value) → sequence_fits (parts_fit fit ps) v ≡ true → starts (sequence_text text ps v) ≡ true
  sequence_starts ps (tree.parts vs) f = refl
  sequence_starts ps v f = absurd (let no : ⊥ = cc in no)

  list_row : (of : ℕ) (v : Value) (rest : List ℕ) → list_fits (fit of) v ≡ true → Inner (fit of) (text of) (read of)
      → list_at (read of) as_read (list_text (text of) v ++ rest) ≡ Some (record { value = v; rest = rest })
  list_row of (tree.list vs) rest f inner = list_back (fit of) (text of) (read of) inner as_read vs rest f refl
  list_row of v rest f inner = absurd (let no : ⊥ = cc in no)

  set_row : (of : ℕ) (v : Value) (rest : List ℕ) → list_fits (fit of) v ≡ true → set_rises (spell of) v ≡ true → Inner (fit of) (text of) (read of)
      → list_at (read of) (sorted (spell of)) (list_text (text of) v ++ rest) ≡ Some (record { value = v; rest = rest })
  set_row of (tree.list vs) rest f r inner = list_back (fit of) (text of) (read of) inner (sorted (spell of)) vs rest f (stays_sorted (spell of) vs r)
  set_row of v rest f r inner = absurd (let no : ⊥ = cc in no)

  list_starts : (of : ℕ) (v : Value) → list_fits (fit of) v ≡ true → starts (list_text (text of) v) ≡ true
  list_starts of (tree.list vs) f = refl
  list_starts of v f = absurd (let no : ⊥ = cc in no)

  choice_row : (ps : List Part) (v : Value) (rest : List ℕ) → choice_fits (λ which. alternative_fits fit (slice_get ps which)) v ≡ true → may_follow rest ≡ true
      → is_double_name (row.Choice ps) ≡ false → has_notation (row.Choice ps) ≡ true → Below (row.Choice ps) → choice_at read ps (choice_text text ps v ++ rest) ≡ Some (record { value = v; rest = rest })
  choice_row ps (tree.chosen which v) rest f m apart n inner = choice_back fit text read ps which v rest f m n apart inner
  choice_row ps v rest f m apart n inner = absurd (let no : ⊥ = cc in no)

  choice_row_starts : (ps : List Part) (v : Value) → choice_fits (λ which. alternative_fits fit (slice_get ps which)) v ≡ true → has_notation (row.Choice ps) ≡ true → starts (choice_text text ps v) ≡ true
  choice_row_starts ps (tree.chosen which v) f n = choice_starts fit text read ps which v f n
  choice_row_starts ps v f n = absurd (let no : ⊥ = cc in no)

  own : (r : TypeRow) → ((v : Value) → form_by spell fit r v ≡ true → has_own_form v ≡ true) → text_by text r ≡ value_text → read_by spell read r ≡ form_at → RowInner r
  own r form t f = record {
    back = λ v rest fits m. ap (λ (g : Reader). g (text_by text r v ++ rest)) f ∙ ap (λ (g : Value → List ℕ). form_at (g v ++ rest)) t ∙ form_back v rest (form v fits) m;
    start = λ v fits. ap (λ (g : Value → List ℕ). starts (g v)) t ∙ own_starts v (form v fits);
  }

  pub row_inner : (r : TypeRow) → is_double_name r ≡ false → has_notation r ≡ true → Below r → RowInner r
  row_inner row.Boolean apart n inner = own row.Boolean boolean_own refl refl
  row_inner (row.Integer low high) apart n inner = own (row.Integer low high) (integer_own low high) refl refl
  row_inner (row.Enumerated items) apart n inner = record { back = λ v rest f m. enumerated_back items v rest f m apart n; start = λ v f. enumerated_starts items v f n }
  row_inner row.Null apart n inner = own row.Null null_own refl refl
  row_inner (row.OctetString most) apart n inner = own (row.OctetString most) (octets_own most) refl refl
  row_inner row.BitString apart n inner = own row.BitString bits_own refl refl
  row_inner row.ObjectId apart n inner = own row.ObjectId object_id_own refl refl
  row_inner (row.Text kind) apart n inner = own (row.Text kind) (text_own kind) refl refl
  row_inner (row.Sequence ps) apart n inner = record { back = λ v rest f m. sequence_row true ps v rest f apart n inner; start = sequence_starts ps }
  row_inner (row.Set ps) apart n inner = record { back = λ v rest f m. sequence_row false ps v rest f apart n inner; start = sequence_starts ps }
  row_inner (row.SequenceOf of) apart n inner = record { back = λ v rest f m. list_row of.0 v rest f inner.0; start = list_starts of.0 }
  row_inner (row.SetOf of) apart n inner = record {
    back = λ v rest f m. let p = both_true (list_fits (fit of.0) v) (set_rises (spell of.0) v) f in set_row of.0 v rest p.0 p.1 inner.0;
    start = λ v f. list_starts of.0 v (both_true (list_fits (fit of.0) v) (set_rises (spell of.0) v) f).0;
  }
  row_inner (row.Choice ps) apart n inner = record { back = λ v rest f m. choice_row ps v rest f m apart n inner; start = λ v f. choice_row_starts ps v f n }
  row_inner (row.Tagged class number explicit of) apart n inner = record { back = inner.0.back; start = inner.0.start }
  row_inner row.Any apart n inner = absurd (let no : ⊥ = cc in no)

-- ---- down the table

row_at : (rows : List TypeRow) (n : ℕ) (r : TypeRow) → list_all has_notation rows ≡ true → slice_get rows n ≡ Some r → has_notation r ≡ true
row_at [] n r h e = absurd (let no : ⊥ = cc in no)
row_at (x ∷ xs) zero r h e = let same : x ≡ r = cc in ap has_notation (sym same) ∙ (both_true (has_notation x) (list_all has_notation xs) h).0
row_at (x ∷ xs) (suc n) r h e = row_at xs n r (both_true (has_notation x) (list_all has_notation xs) h).1 e

past_all : (rows : List TypeRow) (n : ℕ) → slice_get rows n ≡ None → length rows ≤ n
past_all [] n e = omega arith
past_all (x ∷ xs) zero e = absurd (let no : ⊥ = cc in no)
past_all (x ∷ xs) (suc n) e = let less = past_all xs n e in omega arith

module _ (rows : List TypeRow) (sound : AreSoundRows rows) (noted : list_all has_notation rows ≡ true) where
  abbrev pub At : ℕ → Type 0
  At n = Inner (has_form rows n) (printed rows n) (read_as rows n)

  each_below : (n : ℕ) (ns : List ℕ) → AllByRecursion (λ m. m < n) ns → ((m : ℕ) → m < n → At m) → AllByRecursion (λ m. At m) ns
  each_below n [] h more = tt
  each_below n (m ∷ ns) h more = (more m h.0, each_below n ns h.1 more)

  no_value : (n : ℕ) (v : Value) → slice_get rows n ≡ None → has_form rows n v ≡ true → ⊥
  no_value n v e f = let past = form_past rows n v (past_all rows n e) in let no : ⊥ = cc in no

  by_row : (n : ℕ) (o : Option TypeRow) → slice_get rows n ≡ o → ((m : ℕ) → m < n → At m) → At n
  by_row n None e more = record {
    back = λ v rest f m. absurd (no_value n v e f);
    start = λ v f. absurd (no_value n v e f);
  }
  by_row n (Some r) e more =
      let t = taken (take n rows) r (sound.each n r e) in
      let down = is_down rows sound in
      let inner = each_below n (names_of r) (down.lower n r e) more in
      let row = row_inner (written rows) (has_form rows) (printed rows) (read_as rows) r t.double (row_at rows n r noted e) inner in
      let fe = fit_laws.form_at rows sound n r e in
      let pe = printed_at rows sound n r e in
      let re = read_at rows sound n r e in
      record {
        back = λ v rest f m. ap (λ (g : Value → List ℕ). read_as rows n (g v ++ rest)) pe ∙ ap (λ (g : Reader). g (text_by (printed rows) r v ++ rest)) re
            ∙ row.back v rest (ap (λ (g : Value → Bool). g v) (sym fe) ∙ f) m;
        start = λ v f. ap (λ (g : Value → List ℕ). starts (g v)) pe ∙ row.start v (ap (λ (g : Value → Bool). g v) (sym fe) ∙ f);
      }

  down_to : (bound n : ℕ) → n < bound → At n
  down_to zero n h = absurd (omega arith)
  down_to (suc bound) n h = by_row n (slice_get rows n) refl (λ m lt. let less : m < bound = omega arith in down_to bound m less)

  pub typed_back : (n : ℕ) (v : Value) (rest : List ℕ) → fits rows n v ≡ true → may_follow rest ≡ true → value_at rows n (printed rows n v ++ rest) ≡ Some (record { value = v; rest = rest })
  typed_back n v rest f m =
      let less : n < suc n = omega arith in
      let at = down_to (suc n) n less in
      let read = at.back v rest (fits_has_form rows n v f) m in
      let kept : if_fits (fits rows n) (Some (record { value = v; rest = rest })) ≡ Some (record { value = v; rest = rest }) = rw f refl in
      ap (if_fits (fits rows n)) read ∙ kept
