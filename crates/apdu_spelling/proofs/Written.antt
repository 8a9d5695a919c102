-- What is written for an APDU spells it.
use Rattle.std.proofs.Common.{◌≡◌, ℕ, suc, ◌+◌, ◌<◌, ◌≤◌, ℤ, Bool, true, false, cond, List, [], ◌∷◌, length, Option, Some, None, refl, sym, ap, subst, ◌∙◌, option_map, arith, length-append, ◌⊎◌, inl, inr}
use Rattle.std.specs.Prelude.{nat_le, nat_eq, codes}
use Rattle.std.specs.Cmp.Lexicographic.{pointwise}
use Rattle.std.specs.List.{list_all, position_from}
use Rattle.std.proofs.lemmas.Bool.{eqb-true, and_parts}
use Rattle.std.proofs.lemmas.Bool.Decides.{Decides-int_eq, nat_tests}
use Rattle.osi_base.specs.declared.syntax.Syntax.{Syntax}
use Rattle.osi_base.specs.declared.syntax.Syntax.TheVariants as syntax
use Rattle.osi_base.specs.Limits.{most_items}
use Rattle.asn1_types.specs.declared.value.Val.{Val}
use Rattle.asn1_types.specs.declared.table.TypeTable.{TypeTable}
use Rattle.asn1_types.specs.declared.row.Class.TheVariants.{Universal, Context}
use Rattle.asn1_types.specs.declared.row.Part.{Part}
use Rattle.asn1_types.specs.declared.row.TypeId.{TypeId}
use Rattle.asn1_types.specs.Rows.{along}
use Rattle.asn1_types.specs.Table.{AreSoundRows}
use Rattle.asn1_types.specs.Value.{Value, integer, parts, any, MaybeValues, no_parts, absent, present}
use Rattle.asn1_types.specs.Whole.{is_whole}
use Rattle.asn1_types.specs.declared.row.Tag as tags
use Rattle.asn1_types.specs.Writing.{Writer, parts_contents, write_by, nothing_written, writes, written, definite}
use Rattle.asn1_types.specs.FixedRows.{part}
use Rattle.ber_spelling.proofs.WrittenFields.{contents_short}
use Rattle.ber_spelling.proofs.Written.{written_spelled as value_spelled}
use Rattle.ber_spelling.proofs.Wholes.{whole_is}
use Rattle.ber_spelling.proofs.WholeSpelled.{written_whole as value_whole}
use Rattle.asn1_types.proofs.FitLaws.{fits_has_form}
use Rattle.packed_codec.specs.Writing.{packed, items}
use Rattle.packed_codec.specs.Laws.{packs}
use Rattle.stub_tables.specs.declared.tables.Tables.{Tables}
use Rattle.stub_tables.specs.declared.operation.Code.{Code}
use Rattle.stub_tables.specs.declared.operation.Code.TheVariants.{Local, Global}
use Rattle.stub_tables.specs.declared.operation.Use.{Use}
use Rattle.stub_tables.specs.declared.operation.Operation.{Operation}
use Rattle.stub_tables.specs.declared.operation.ErrorRow.{ErrorRow}
use Rattle.stub_tables.specs.declared.apdu.Apdu.{Apdu}
use Rattle.stub_tables.specs.declared.apdu.Apdu.TheVariants as apdus
use Rattle.stub_tables.specs.declared.apdu.Returned.{Returned}
use Rattle.stub_tables.specs.Codes.{same_code, place_with}
use Rattle.stub_tables.specs.Lookup.{operation_at, error_at, operation_with, error_with}
use Rattle.stub_tables.specs.Readable.{code_fits, IsReadable}
use Rattle.stub_tables.specs.Apdus.{placed, argument_of, result_of, parameter_of, operation_coded, error_coded}
use Rattle.apdu_spelling.specs.Heads.{ReturnedOctets, Head, invoke, result, error, reject, or_none, carried}
use Rattle.apdu_spelling.specs.Rows.{head_rows, apdu_row, packed_apdu_row, any_row, returned_row, invoke_parts, result_parts, returned_parts, error_parts}
use Rattle.apdu_spelling.specs.Values.{code_value, ber_value, packed_value}
use Rattle.apdu_spelling.specs.Spellings.{SpellsHead, SpelledAs, TypedAs, CarriedAs, room_behind, Spells}
use Rattle.apdu_spelling.specs.Writing.{written_value, written_typed, written_carried, written_head, head_of, written_apdu, is_identifier, is_writable, is_typed, may_carry, has_numbers, has_values, IsWritable}
use Rattle.apdu_spelling.proofs.HeadsSound.{heads_sound}
use Rattle.apdu_spelling.proofs.HeadFits.{HasNumbers, HoldsWhole, head_fits, head_packs, head_items}

-- ---- the code of something in a list is one of the list's

same_arcs : (xs ys : List ℕ) → pointwise nat_eq xs ys ≡ true → xs ≡ ys
same_arcs [] [] e = refl
same_arcs [] (y ∷ ys) e = absurd cc
same_arcs (x ∷ xs) [] e = absurd cc
same_arcs (x ∷ xs) (y ∷ ys) e =
    let t = and_parts (nat_eq x y) (pointwise nat_eq xs ys) e in
    let head : x ≡ y = eqb-true x y t.0 in
    let tail : xs ≡ ys = same_arcs xs ys t.1 in
    cc

pub same_is : (c d : Code) → same_code c d ≡ true → c ≡ d
same_is (Local a) (Local b) e = ap Local ((Decides-int_eq a b).0 e)
same_is (Global a) (Global b) e = ap Global (same_arcs a b e)
same_is (Local a) (Global b) e = absurd cc
same_is (Global a) (Local b) e = absurd cc

module _ {X : Type 0} (code_of : X → Code) where
  found_fits : (xs : List X) (n : ℕ) (code : Code) (place : ℕ) → list_all (λ x. code_fits (code_of x)) xs ≡ true → position_from (λ x. same_code (code_of x) code) n xs ≡ Some place → code_fits code ≡ true
  found_fits [] n code place all e = absurd cc
  found_fits (x ∷ xs) n code place all e = by_test (same_code (code_of x) code) refl e (λ f. found_fits xs (n + 1) code place (and_parts (code_fits (code_of x)) (list_all (λ x. code_fits (code_of x)) xs) all).1 f)
    where
      by_test : (b : Bool) → same_code (code_of x) code ≡ b → cond b (Some n) (position_from (λ x. same_code (code_of x) code) (n + 1) xs) ≡ Some place → (position_from (λ x. same_code (code_of x) code) (n + 1) xs ≡ Some place → code_fits code ≡ true) → code_fits code ≡ true
      by_test true t e more = ap code_fits (sym (same_is (code_of x) code t)) ∙ (and_parts (code_fits (code_of x)) (list_all (λ x. code_fits (code_of x)) xs) all).0
      by_test false t e more = more e

  placed_fits : (xs : List X) (code : Code) (at : ℕ → Option X) (use_of : X → Use) (s : Syntax) (types : TypeTable) (value : Option Val) (o : Option ℕ) → list_all (λ x. code_fits (code_of x)) xs ≡ true
      → place_with code_of code xs ≡ o → may_carry s types (option_map use_of (placed at o)) value ≡ true → code_fits code ≡ true
  placed_fits xs code at use_of s types value None all e c = absurd cc
  placed_fits xs code at use_of s types value (Some place) all e c = found_fits xs 0 code place all e

-- ---- what stands within a head is no longer than the whole

abbrev Has : List Part → MaybeValues → Part → Value → Type 0
Has [] vs q w = ⊥
Has (p ∷ ps) no_parts q w = ⊥
Has (p ∷ ps) (absent vs) q w = Has ps vs q w
Has (p ∷ ps) (present v vs) q w = ((p ≡ q) × (v ≡ w)) ⊎ Has ps vs q w

part_short : (f : ℕ → Writer) (ps : List Part) (vs : MaybeValues) (q : Part) (w : Value) → Has ps vs q w → length (f q.inner.0 None w) ≤ length (parts_contents f ps vs)
part_short f [] vs q w h = absurd h
part_short f (p ∷ ps) no_parts q w h = absurd h
part_short f (p ∷ ps) (absent vs) q w h = part_short f ps vs q w h
part_short f (p ∷ ps) (present v vs) q w (inl h) =
    let same : length (f p.inner.0 None v) ≡ length (f q.inner.0 None w) = λ i. length (f (h.0 i).inner.0 None (h.1 i)) in
    let len = length-append (f p.inner.0 None v) (parts_contents f ps vs) in
    omega arith
part_short f (p ∷ ps) (present v vs) q w (inr h) =
    let more = part_short f ps vs q w h in
    let len = length-append (f p.inner.0 None v) (parts_contents f ps vs) in
    omega arith

-- what the rows of the heads are written as, with so many turns
abbrev inner : ℕ → ℕ → Writer
inner turns = along nothing_written write_by head_rows turns

abbrev context : ℕ → tags.Tag
context number = record { class = Context; number = number }

abbrev sequence : tags.Tag
sequence = record { class = Universal; number = 16 }

within : (tag : tags.Tag) (c : List ℕ) (m : ℕ) → length (definite true tag c) ≤ m → length c ≤ m
within tag c m le = let lt : length c < suc m = contents_short true tag c (suc m) (omega arith) in omega arith

before : (a b m : ℕ) → a ≤ b → b ≤ m → a ≤ m
before a b m p q = omega arith

invoke_short : (id : ℤ) (l : Option ℤ) (c : Code) (os : List ℕ) (m : ℕ) → length (written head_rows apdu_row (ber_value (invoke id l c (Some os)))) ≤ m → length os ≤ m
unfolding written writes
invoke_short id None c os m le =
    let vs : MaybeValues = present (integer id) (absent (present (code_value c) (present (any os) no_parts))) in
    before (length os) (length (parts_contents (inner 28) invoke_parts vs)) m
    (part_short (inner 28) invoke_parts vs (part (codes "argument") any_row true) (any os) (inr (inr (inl (refl, refl)))))
    (within (context 1) (parts_contents (inner 28) invoke_parts vs) m le)
invoke_short id (Some l) c os m le =
    let vs : MaybeValues = present (integer id) (present (integer l) (present (code_value c) (present (any os) no_parts))) in
    before (length os) (length (parts_contents (inner 28) invoke_parts vs)) m
    (part_short (inner 28) invoke_parts vs (part (codes "argument") any_row true) (any os) (inr (inr (inr (inl (refl, refl))))))
    (within (context 1) (parts_contents (inner 28) invoke_parts vs) m le)

error_short : (id : ℤ) (c : Code) (os : List ℕ) (m : ℕ) → length (written head_rows apdu_row (ber_value (error id c (Some os)))) ≤ m → length os ≤ m
unfolding written writes
error_short id c os m le =
    let vs : MaybeValues = present (integer id) (present (code_value c) (present (any os) no_parts)) in
    before (length os) (length (parts_contents (inner 28) error_parts vs)) m
    (part_short (inner 28) error_parts vs (part (codes "parameter") any_row true) (any os) (inr (inr (inl (refl, refl)))))
    (within (context 3) (parts_contents (inner 28) error_parts vs) m le)

result_short : (id : ℤ) (o : ReturnedOctets) (m : ℕ) → length (written head_rows apdu_row (ber_value (result id (Some o)))) ≤ m → length o.octets ≤ m
unfolding written writes
result_short id o m le =
    let ws : MaybeValues = present (code_value o.code) (present (any o.octets) no_parts) in
    let vs : MaybeValues = present (integer id) (present (parts ws) no_parts) in
    let whole : length (parts_contents (inner 28) result_parts vs) ≤ m = within (context 2) (parts_contents (inner 28) result_parts vs) m le in
    let returned : length (definite true sequence (parts_contents (inner 27) returned_parts ws)) ≤ length (parts_contents (inner 28) result_parts vs) =
    part_short (inner 28) result_parts vs (part (codes "result") returned_row true) (parts ws) (inr (inl (refl, refl))) in
    let contents : length (parts_contents (inner 27) returned_parts ws) ≤ m =
    within sequence (parts_contents (inner 27) returned_parts ws) m (before (length (definite true sequence (parts_contents (inner 27) returned_parts ws))) (length (parts_contents (inner 28) result_parts vs)) m returned whole) in
    before (length o.octets) (length (parts_contents (inner 27) returned_parts ws)) m (part_short (inner 27) returned_parts ws (part (codes "result") any_row false) (any o.octets) (inr (inl (refl, refl)))) contents

carried_short : (h : Head) (m : ℕ) → length (written head_rows apdu_row (ber_value h)) ≤ m → length (carried h) ≤ m
carried_short (invoke id l c (Some os)) m le = invoke_short id l c os m le
carried_short (invoke id l c None) m le = omega arith
carried_short (result id (Some o)) m le = result_short id o m le
carried_short (result id None) m le = omega arith
carried_short (error id c (Some os)) m le = error_short id c os m le
carried_short (error id c None) m le = omega arith
carried_short (reject id p) m le = omega arith

-- ---- each syntax

room_is : (s : Syntax) (h : Head) → length (written_head s h) ≤ 262144 → length (carried h) ≤ room_behind s h
room_is syntax.Ber h le = carried_short h 262144 le
room_is syntax.Der h le = carried_short h 262144 le
room_is syntax.Packed h le =
    let front : List ℕ = packed head_rows packed_apdu_row (packed_value h) in
    let len = length-append front (carried h) in
    omega arith

room_le : (s : Syntax) (h : Head) → room_behind s h ≤ 262144
room_le syntax.Ber h = omega arith
room_le syntax.Der h = omega arith
room_le syntax.Packed h = omega arith

-- in BER and DER what is carried is one whole value
abbrev WholeIn : Syntax → List ℕ → Type 0
WholeIn syntax.Ber os = is_whole os ≡ true
WholeIn syntax.Der os = is_whole os ≡ true
WholeIn syntax.Packed os = Unit {0}

le_of : (n m : ℕ) → nat_le n m ≡ true → n ≤ m
le_of n m e = grind (arith, nat_tests)

value_is : (s : Syntax) (types : TypeTable) (of : ℕ) (v : Val) (limit : ℕ) → AreSoundRows types → limit ≤ 262144 → is_writable s types of v ≡ true → length (written_value s types of v) ≤ limit → SpelledAs s types limit of v (written_value s types of v)
value_is syntax.Ber types of v limit sound most e le = value_spelled whole_is types sound of v (fits_has_form types of v e) false limit (omega arith) le
value_is syntax.Der types of v limit sound most e le = value_spelled whole_is types sound of v (fits_has_form types of v e) true limit (omega arith) le
value_is syntax.Packed types of v limit sound most e le =
    let t = and_parts (packs types of v) (nat_le (items v) most_items) e in
    record { fit = t.0; are = refl; within = le; few = le_of (items v) most_items t.1 }

value_wholly : (s : Syntax) (types : TypeTable) (of : ℕ) (v : Val) → AreSoundRows types → is_writable s types of v ≡ true → length (written_value s types of v) ≤ 262144 → WholeIn s (written_value s types of v)
value_wholly syntax.Ber types of v sound e le = value_whole types sound of v (fits_has_form types of v e) (omega arith)
value_wholly syntax.Der types of v sound e le = value_whole types sound of v (fits_has_form types of v e) (omega arith)
value_wholly syntax.Packed types of v sound e le = tt

abbrev HoldsIn : Syntax → Head → Type 0
HoldsIn syntax.Ber h = HoldsWhole h
HoldsIn syntax.Der h = HoldsWhole h
HoldsIn syntax.Packed h = Unit {0}

head_is : (s : Syntax) (h : Head) → HasNumbers h → HoldsIn s h → length (written_head s h) ≤ 262144 → SpellsHead s h (written_head s h)
head_is syntax.Ber h r w le = value_spelled whole_is head_rows heads_sound apdu_row (ber_value h) (head_fits h r w) false 262144 (omega arith) le
head_is syntax.Der h r w le = value_spelled whole_is head_rows heads_sound apdu_row (ber_value h) (head_fits h r w) true 262144 (omega arith) le
head_is syntax.Packed h r w le =
    let front : List ℕ = packed head_rows packed_apdu_row (packed_value h) in
    let len = length-append front (carried h) in
    let none = head_items h in
    record { front = front; packs = record { fit = head_packs h r; are = refl; within = omega arith; few = omega arith }; are = refl }

some_is : {X : Type 0} (a b : X) → Some a ≡ Some b → a ≡ b
some_is a b h = cc

abbrev AllWhole : Syntax → Option (List ℕ) → Type 0
AllWhole s None = Unit {0}
AllWhole s (Some os) = WholeIn s os

module _ (s : Syntax) (t : Tables) (r : IsReadable t) (limit : ℕ) (most : limit ≤ 262144) where
  not_untyped : (of : Option TypeId) (v : Val) → is_typed s t.types of v ≡ true → written_typed s t.types of v ≡ None → ⊥
  not_untyped None v e w = cc
  not_untyped (Some of) v e w = cc

  typed_is : (of : Option TypeId) (v : Val) (os : List ℕ) → is_typed s t.types of v ≡ true → written_typed s t.types of v ≡ Some os → length os ≤ limit → TypedAs s t.types limit of v os × WholeIn s os
  typed_is None v os e w le = absurd cc
  typed_is (Some of) v os e w le =
      let same : written_value s t.types of.0 v ≡ os = some_is (written_value s t.types of.0 v) os w in
      let short : length (written_value s t.types of.0 v) ≤ limit = subst (λ (x : List ℕ). length x ≤ limit) (sym same) le in (
        subst (λ (x : List ℕ). SpelledAs s t.types limit of.0 v x) same (value_is s t.types of.0 v limit r.types most e short),
        subst (λ (x : List ℕ). WholeIn s x) same (value_wholly s t.types of.0 v r.types e (omega arith)),
      )

  carried_as : (u : Option Use) (v : Option Val) (os : Option (List ℕ)) → may_carry s t.types u v ≡ true → written_carried s t.types u v ≡ os → length (or_none os) ≤ limit → CarriedAs s t.types limit u v os × AllWhole s os
  carried_as None v os e w le = absurd cc
  carried_as (Some u) None None e w le = (e, tt)
  carried_as (Some u) None (Some os) e w le = absurd cc
  carried_as (Some u) (Some v) None e w le = absurd (not_untyped u.inner v e w)
  carried_as (Some u) (Some v) (Some os) e w le = typed_is u.inner v os e w le

  untyped_none : (u : Option Use) (v : Val) → may_carry s t.types u (Some v) ≡ true → written_carried s t.types u (Some v) ≡ None → ⊥
  untyped_none None v e w = cc
  untyped_none (Some u) v e w = not_untyped u.inner v e w

holds_option : (s : Syntax) (id : ℤ) (l : Option ℤ) (c : Code) (os : Option (List ℕ)) → AllWhole s os → HoldsIn s (invoke id l c os)
holds_option syntax.Ber id l c None w = tt
holds_option syntax.Ber id l c (Some os) w = w
holds_option syntax.Der id l c None w = tt
holds_option syntax.Der id l c (Some os) w = w
holds_option syntax.Packed id l c os w = tt

holds_error : (s : Syntax) (id : ℤ) (c : Code) (os : Option (List ℕ)) → AllWhole s os → HoldsIn s (error id c os)
holds_error syntax.Ber id c None w = tt
holds_error syntax.Ber id c (Some os) w = w
holds_error syntax.Der id c None w = tt
holds_error syntax.Der id c (Some os) w = w
holds_error syntax.Packed id c os w = tt

holds_result : (s : Syntax) (id : ℤ) (o : ReturnedOctets) → WholeIn s o.octets → HoldsIn s (result id (Some o))
holds_result syntax.Ber id o w = w
holds_result syntax.Der id o w = w
holds_result syntax.Packed id o w = tt

holds_none : (s : Syntax) (id : ℤ) → HoldsIn s (result id None)
holds_none syntax.Ber id = tt
holds_none syntax.Der id = tt
holds_none syntax.Packed id = tt

holds_reject : (s : Syntax) (id : Option ℤ) (p : _) → HoldsIn s (reject id p)
holds_reject syntax.Ber id p = tt
holds_reject syntax.Der id p = tt
holds_reject syntax.Packed id p = tt

-- ---- APDUs

module _ (t : Tables) (r : IsReadable t) (s : Syntax) where
  invoke_written : (id : ℤ) (l : Option ℤ) (c : Code) (v : Option Val) (os : Option (List ℕ)) → written_carried s t.types (option_map argument_of (operation_coded t c)) v ≡ os
      → has_numbers (apdus.Invoke id l c v) ≡ true → may_carry s t.types (option_map argument_of (operation_coded t c)) v ≡ true → length (written_head s (invoke id l c os)) ≤ 262144
      → Spells t s (apdus.Invoke id l c v) (written_head s (invoke id l c os))
  invoke_written id l c v os w n m le =
      let h : Head = invoke id l c os in
      let k = carried_as s t r (room_behind s h) (room_le s h) (option_map argument_of (operation_coded t c)) v os m w (room_is s h le) in
      let f = placed_fits (λ (o : Operation). o.code) t.operations c (operation_at t) argument_of s t.types v (operation_with t c) r.operations refl m in
      let i = and_parts (is_identifier id) _ n in
      record { head = h; is_head = head_is s h (i.0, i.1, f) (holds_option s id l c os k.1) le; says = record { octets = os; head_is = refl; typed = k.0 } }

  error_written : (id : ℤ) (c : Code) (v : Option Val) (os : Option (List ℕ)) → written_carried s t.types (option_map parameter_of (error_coded t c)) v ≡ os
      → is_identifier id ≡ true → may_carry s t.types (option_map parameter_of (error_coded t c)) v ≡ true → length (written_head s (error id c os)) ≤ 262144
      → Spells t s (apdus.Error id c v) (written_head s (error id c os))
  error_written id c v os w n m le =
      let h : Head = error id c os in
      let k = carried_as s t r (room_behind s h) (room_le s h) (option_map parameter_of (error_coded t c)) v os m w (room_is s h le) in
      let f = placed_fits (λ (o : ErrorRow). o.code) t.errors c (error_at t) parameter_of s t.types v (error_with t c) r.errors refl m in
      record { head = h; is_head = head_is s h (n, f) (holds_error s id c os k.1) le; says = record { octets = os; head_is = refl; typed = k.0 } }

  none_written : (id : ℤ) → is_identifier id ≡ true → length (written_head s (result id None)) ≤ 262144 → Spells t s (apdus.Result id None) (written_head s (result id None))
  none_written id n le = record { head = result id None; is_head = head_is s (result id None) n (holds_none s id) le; says = record { outcome = None; head_is = refl; typed = tt } }

  abbrev returns : Code → List ℕ → ReturnedOctets
  returns c os = record { code = c; octets = os }

  result_written : (id : ℤ) (x : Returned) (os : Option (List ℕ)) → written_carried s t.types (option_map result_of (operation_coded t x.code)) (Some x.value) ≡ os
      → is_identifier id ≡ true → may_carry s t.types (option_map result_of (operation_coded t x.code)) (Some x.value) ≡ true → length (written_head s (result id (Some (returns x.code (or_none os))))) ≤ 262144
      → Spells t s (apdus.Result id (Some x)) (written_head s (result id (Some (returns x.code (or_none os)))))
  result_written id x None w n m le = absurd (untyped_none s t r 0 (omega arith) (option_map result_of (operation_coded t x.code)) x.value m w)
  result_written id x (Some os) w n m le =
      let o : ReturnedOctets = returns x.code os in
      let h : Head = result id (Some o) in
      let k = carried_as s t r (room_behind s h) (room_le s h) (option_map result_of (operation_coded t x.code)) (Some x.value) (Some os) m w (room_is s h le) in
      let f = placed_fits (λ (q : Operation). q.code) t.operations x.code (operation_at t) result_of s t.types (Some x.value) (operation_with t x.code) r.operations refl m in
      record { head = h; is_head = head_is s h (n, f) (holds_result s id o k.1) le; says = record { outcome = Some o; head_is = refl; typed = (refl, k.0) } }

  apdu_written : (a : Apdu) → has_numbers a ≡ true → has_values t s a ≡ true → length (written_head s (head_of t s a)) ≤ 262144 → Spells t s a (written_head s (head_of t s a))
  apdu_written (apdus.Invoke id l c v) n m le = invoke_written id l c v (written_carried s t.types (option_map argument_of (operation_coded t c)) v) refl n m le
  apdu_written (apdus.Result id None) n m le = none_written id n le
  apdu_written (apdus.Result id (Some x)) n m le = result_written id x (written_carried s t.types (option_map result_of (operation_coded t x.code)) (Some x.value)) refl n m le
  apdu_written (apdus.Error id c v) n m le = error_written id c v (written_carried s t.types (option_map parameter_of (error_coded t c)) v) refl n m le
  apdu_written (apdus.Reject id p) n m le =
      let i = and_parts _ _ n in
      record { head = reject id p; is_head = head_is s (reject id p) (i.0, i.1) (holds_reject s id p) le; says = refl }

  pub written_spelled : (a : Apdu) → IsWritable t s a → Spells t s a (written_apdu t s a)
  unfolding written_apdu
  written_spelled a w = apdu_written a w.numbers w.values w.short
