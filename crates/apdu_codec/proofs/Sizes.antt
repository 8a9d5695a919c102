-- Heads have as many octets as are told of them.
use Rattle.std.proofs.Common.{◌≡◌, ℕ, suc, ◌+◌, ◌^◌, ◌-◌, ◌≤◌, ◌<◌, ℤ, Bool, true, false, List, [], ◌∷◌, ◌++◌, length, Option, Some, None, refl, sym, ap, ◌∙◌, inl, inr, arith, length-append, slice_get}
use Rattle.std.specs.Prelude.{is_some, codes, nat_lt, ◌||◌}
use Rattle.std.proofs.lemmas.Bool.{cases_lt, lt-ltb, le-ltb}
use Rattle.std.specs.Option.{option_map}
use Rattle.std.specs.List.{flat_map}
use Rattle.std.specs.Int.{bytes_high_first}
use Rattle.osi_base.specs.declared.syntax.Syntax.{Syntax}
use Rattle.osi_base.specs.declared.syntax.Syntax.TheVariants as syntax
use Rattle.osi_base.specs.declared.layer_words.Problem.{Problem}
use Rattle.osi_base.specs.declared.layer_words.ProblemKind.{ProblemKind}
use Rattle.osi_base.specs.declared.layer_words.ProblemKind.TheVariants as kinds
use Rattle.osi_base.specs.Limits.{most_octets}
use Rattle.asn1_types.specs.declared.row.Tag as tags
use Rattle.asn1_types.specs.declared.row.Part.{Part}
use Rattle.asn1_types.specs.declared.row.TypeId.{TypeId}
use Rattle.asn1_types.specs.declared.row.TypeRow.{TypeRow}
use Rattle.asn1_types.specs.declared.row.TypeRow.TheVariants as row
use Rattle.asn1_types.specs.declared.table.TypeTable.{TypeTable}
use Rattle.asn1_types.specs.declared.value.Val.{Val}
use Rattle.asn1_types.specs.Value.{Value, boolean, integer, null, object_id, parts, chosen, any, MaybeValues, no_parts, absent, present}
use Rattle.asn1_types.specs.Writing.{Writer, saturated, base_128, integer_octets, subidentifiers, length_octets, parts_contents, write_by, writes, written}
use Rattle.asn1_types.specs.FixedRows.{part}
use Rattle.ber_spelling.proofs.WriteLaws.{writes_at}
use Rattle.packed_codec.specs.Writing as packs
use Rattle.packed_codec.specs.Writing.{packed, parts_written}
use Rattle.packed_codec.specs.Numbers as packed_numbers
use Rattle.packed_codec.specs.ObjectIds as packed_ids
use Rattle.packed_codec.proofs.WriteLaws.{packed_at}
use Rattle.stub_tables.specs.declared.tables.Tables.{Tables}
use Rattle.stub_tables.specs.declared.operation.Code.{Code}
use Rattle.stub_tables.specs.declared.operation.Code.TheVariants.{Local, Global}
use Rattle.stub_tables.specs.declared.operation.Use.{Use}
use Rattle.stub_tables.specs.declared.apdu.Apdu.{Apdu}
use Rattle.stub_tables.specs.declared.apdu.Apdu.TheVariants as apdus
use Rattle.stub_tables.specs.declared.apdu.Returned.{Returned}
use Rattle.stub_tables.specs.Apdus.{argument_of, result_of, parameter_of, operation_coded, error_coded}
use Rattle.apdu_spelling.specs.Heads.{ReturnedOctets, invoke, result, error, reject, or_none, carried}
use Rattle.apdu_spelling.specs.Rows.{any_row, linked_row, code_row, mark_row, returned_row, head_rows, apdu_row, packed_apdu_row, reject_parts, invoke_parts, returned_parts, result_parts, error_parts}
use Rattle.apdu_spelling.specs.Values.{code_value, linked_part, rejected_value, kind_place, problem_value, any_part, ber_value, mark_part, packed_value}
use Rattle.apdu_spelling.specs.Writing.{written_typed, written_carried, written_head, outcome_of, head_of, written_apdu}
use Rattle.apdu_spelling.proofs.HeadsSound.{heads_sound}
use Rattle.apdu_codec.specs.Lengths.{definite_size, held_size, marked_size, integer_size, object_id_size, code_size, linked_size, rejected_size, is_too_long_in, is_too_long}

-- ---- heads that carry so many octets

abbrev invoke_size : Syntax → ℤ → Option ℤ → Code → ℕ → ℕ
invoke_size syntax id linked code carried =
    held_size syntax ((integer_size syntax id + linked_size syntax linked) + (code_size syntax code + marked_size syntax carried))

abbrev error_size : Syntax → ℤ → Code → ℕ → ℕ
error_size syntax id code carried = held_size syntax (integer_size syntax id + (code_size syntax code + marked_size syntax carried))

abbrev none_size : Syntax → ℤ → ℕ
none_size syntax id = held_size syntax (integer_size syntax id + marked_size syntax 0)

abbrev result_size : Syntax → ℤ → Code → ℕ → ℕ
result_size syntax id code carried = held_size syntax (integer_size syntax id + held_size syntax (code_size syntax code + carried))

abbrev reject_size : Syntax → Option ℤ → ℤ → ℕ
reject_size syntax id number = held_size syntax (rejected_size syntax id + marked_size syntax (integer_size syntax number))

-- ---- lengths that stand still at the end of 64 bits

through : (f : ℕ → ℕ) → ((n : ℕ) → n ≤ f n) → (n : ℕ) → saturated (f (saturated n)) ≡ saturated (f n)
through f grows n =
    elim (cases_lt n (2 ^ 64)) [
      | inl lt ↦ let e : saturated n ≡ n = omega arith in ap (λ (k : ℕ). saturated (f k)) e
      | inr ge ↦ let a = grows (saturated n) in let b = grows n in omega arith
    ]

held_grows : (s : Syntax) (n : ℕ) → n ≤ held_size s n
held_grows syntax.Ber n = omega arith
held_grows syntax.Der n = omega arith
held_grows syntax.Packed n = omega arith

marked_grows : (s : Syntax) (n : ℕ) → n ≤ marked_size s n
marked_grows syntax.Ber n = omega arith
marked_grows syntax.Der n = omega arith
marked_grows syntax.Packed n = omega arith

-- what is measured by way of a length that may stand still
held_through : (s : Syntax) (count n len : ℕ) → count ≡ saturated n → len ≡ saturated (held_size s count) → len ≡ saturated (held_size s n)
held_through s count n len e is = is ∙ ap (λ (k : ℕ). saturated (held_size s k)) e ∙ through (held_size s) (held_grows s) n

marked_through : (s : Syntax) (count n len : ℕ) → count ≡ saturated n → len ≡ saturated (marked_size s count) → len ≡ saturated (marked_size s n)
marked_through s count n len e is = is ∙ ap (λ (k : ℕ). saturated (marked_size s k)) e ∙ through (marked_size s) (marked_grows s) n

-- a sum of two that may stand still
sum : (x y a b r : ℕ) → x ≡ saturated a → y ≡ saturated b → r ≡ saturated (x + y) → r ≡ saturated (a + b)
sum x y a b r e f g = omega arith

-- ---- BER and DER

abbrev W : ℕ → Writer
W = writes head_rows

row_is : (n : ℕ) (r : TypeRow) (tag : Option tags.Tag) (v : Value) → slice_get head_rows n ≡ Some r → W n tag v ≡ write_by W r tag v
row_is n r tag v e = ap (λ (f : Writer). f tag v) (writes_at head_rows heads_sound n r e)

-- behind an identifier of one octet
after : (os : List ℕ) → suc (length (length_octets (length os) ++ os)) ≡ definite_size (length os)
after os = ap suc (length-append (length_octets (length os)) os)

identifier_at : (z : ℤ) → length (W 0 None (integer z)) ≡ integer_size syntax.Ber z
identifier_at z = ap length (row_is 0 _ None (integer z) refl) ∙ after (integer_octets z)

number_at : (z : ℤ) → length (W 1 None (integer z)) ≡ integer_size syntax.Ber z
number_at z = ap length (row_is 1 _ None (integer z) refl) ∙ after (integer_octets z)

linked_at : (z : ℤ) → length (W 7 None (integer z)) ≡ integer_size syntax.Ber z
linked_at z = ap length (row_is 7 _ None (integer z) refl ∙ row_is 0 _ _ (integer z) refl) ∙ after (integer_octets z)

code_at : (c : Code) → length (W 3 None (code_value c)) ≡ code_size syntax.Ber c
code_at (Local n) = ap length (row_is 3 _ None (chosen 0 (integer n)) refl) ∙ number_at n
code_at (Global arcs) =
    ap length (row_is 3 _ None (chosen 1 (object_id arcs)) refl ∙ row_is 2 _ None (object_id arcs) refl) ∙ after (flat_map base_128 (subidentifiers arcs))

any_at : (os : List ℕ) → W 6 None (any os) ≡ os
any_at os = row_is 6 _ None (any os) refl

any_tail : (name : List ℕ) (o : Option (List ℕ)) → length (parts_contents W (part name any_row true ∷ []) (any_part o)) ≡ length (or_none o)
any_tail name None = refl
any_tail name (Some os) = let e = length-append (W 6 None (any os)) [] in let f = ap length (any_at os) in omega arith

linked_tail : (name : List ℕ) (l : Option ℤ) (ps : List Part) (more : MaybeValues) → length (parts_contents W (part name linked_row true ∷ ps) (linked_part l more)) ≡ linked_size syntax.Ber l + length (parts_contents W ps more)
linked_tail name None ps more = omega arith
linked_tail name (Some id) ps more = let e = length-append (W 7 None (integer id)) (parts_contents W ps more) in let f = linked_at id in omega arith

-- the code and what stands behind it
code_tail : (name : List ℕ) (c : Code) (ps : List Part) (more : MaybeValues) → length (parts_contents W (part name code_row false ∷ ps) (present (code_value c) more)) ≡ code_size syntax.Ber c + length (parts_contents W ps more)
code_tail name c ps more = let e = length-append (W 3 None (code_value c)) (parts_contents W ps more) in let f = code_at c in omega arith

id_tail : (name : List ℕ) (id : ℤ) (ps : List Part) (more : MaybeValues) → length (parts_contents W (part name 0 false ∷ ps) (present (integer id) more)) ≡ integer_size syntax.Ber id + length (parts_contents W ps more)
id_tail name id ps more = let e = length-append (W 0 None (integer id)) (parts_contents W ps more) in let f = identifier_at id in omega arith

abbrev behind_code : List ℕ → List Part
behind_code name = part name any_row true ∷ []

invoke_contents : (id : ℤ) (l : Option ℤ) (c : Code) (o : Option (List ℕ))
    → length (parts_contents W invoke_parts (present (integer id) (linked_part l (present (code_value c) (any_part o)))))
    ≡ (integer_size syntax.Ber id + linked_size syntax.Ber l) + (code_size syntax.Ber c + length (or_none o))
invoke_contents id l c o =
    let a = id_tail (codes "invokeId") id (part (codes "linkedId") linked_row true ∷ part (codes "opcode") code_row false ∷ behind_code (codes "argument")) (linked_part l (present (code_value c) (any_part o))) in
    let b = linked_tail (codes "linkedId") l (part (codes "opcode") code_row false ∷ behind_code (codes "argument")) (present (code_value c) (any_part o)) in
    let d = code_tail (codes "opcode") c (behind_code (codes "argument")) (any_part o) in
    let e = any_tail (codes "argument") o in omega arith

error_contents : (id : ℤ) (c : Code) (o : Option (List ℕ))
    → length (parts_contents W error_parts (present (integer id) (present (code_value c) (any_part o)))) ≡ integer_size syntax.Ber id + (code_size syntax.Ber c + length (or_none o))
error_contents id c o =
    let a = id_tail (codes "invokeId") id (part (codes "errcode") code_row false ∷ behind_code (codes "parameter")) (present (code_value c) (any_part o)) in
    let d = code_tail (codes "errcode") c (behind_code (codes "parameter")) (any_part o) in
    let e = any_tail (codes "parameter") o in omega arith

outcome_contents : (c : Code) (os : List ℕ) → length (parts_contents W returned_parts (present (code_value c) (present (any os) no_parts))) ≡ code_size syntax.Ber c + length os
outcome_contents c os =
    let a = code_tail (codes "opcode") c (part (codes "result") any_row false ∷ []) (present (any os) no_parts) in
    let e = length-append (W 6 None (any os)) [] in let f = ap length (any_at os) in omega arith

abbrev outcome_value : Code → List ℕ → Value
outcome_value c os = parts (present (code_value c) (present (any os) no_parts))

outcome_at : (c : Code) (os : List ℕ) → length (W 18 None (outcome_value c os)) ≡ definite_size (code_size syntax.Ber c + length os)
outcome_at c os =
    ap length (row_is 18 _ None (outcome_value c os) refl) ∙ after (parts_contents W returned_parts (present (code_value c) (present (any os) no_parts)))
    ∙ ap definite_size (outcome_contents c os)

result_contents : (id : ℤ) (c : Code) (os : List ℕ)
    → length (parts_contents W result_parts (present (integer id) (present (outcome_value c os) no_parts))) ≡ integer_size syntax.Ber id + definite_size (code_size syntax.Ber c + length os)
result_contents id c os =
    let a = id_tail (codes "invokeId") id (part (codes "result") returned_row true ∷ []) (present (outcome_value c os) no_parts) in
    let e = length-append (W 18 None (outcome_value c os)) [] in let f = outcome_at c os in omega arith

rejected_at : (id : Option ℤ) → length (W 13 None (rejected_value id)) ≡ rejected_size syntax.Ber id
rejected_at None = ap length (row_is 13 _ None (chosen 1 null) refl ∙ row_is 4 _ None null refl)
rejected_at (Some id) = ap length (row_is 13 _ None (chosen 0 (integer id)) refl) ∙ identifier_at id

problem_at : (k : ProblemKind) (z : ℤ) → length (W 12 None (chosen (kind_place k) (integer z))) ≡ integer_size syntax.Ber z
problem_at kinds.General z = ap length (row_is 12 _ None (chosen 0 (integer z)) refl ∙ row_is 8 _ None (integer z) refl ∙ row_is 1 _ _ (integer z) refl) ∙ after (integer_octets z)
problem_at kinds.Invoke z = ap length (row_is 12 _ None (chosen 1 (integer z)) refl ∙ row_is 9 _ None (integer z) refl ∙ row_is 1 _ _ (integer z) refl) ∙ after (integer_octets z)
problem_at kinds.Result z = ap length (row_is 12 _ None (chosen 2 (integer z)) refl ∙ row_is 10 _ None (integer z) refl ∙ row_is 1 _ _ (integer z) refl) ∙ after (integer_octets z)
problem_at kinds.Error z = ap length (row_is 12 _ None (chosen 3 (integer z)) refl ∙ row_is 11 _ None (integer z) refl ∙ row_is 1 _ _ (integer z) refl) ∙ after (integer_octets z)

reject_contents : (id : Option ℤ) (p : Problem)
    → length (parts_contents W reject_parts (present (rejected_value id) (present (problem_value p) no_parts))) ≡ rejected_size syntax.Ber id + integer_size syntax.Ber p.number
reject_contents id p =
    let a = length-append (W 13 None (rejected_value id)) (W 12 None (problem_value p) ++ []) in
    let b = length-append (W 12 None (problem_value p)) [] in
    let e = rejected_at id in let f = problem_at p.kind p.number in omega arith

ber_invoke : (id : ℤ) (l : Option ℤ) (c : Code) (o : Option (List ℕ)) → length (written head_rows apdu_row (ber_value (invoke id l c o))) ≡ invoke_size syntax.Ber id l c (length (or_none o))
unfolding written
ber_invoke id l c o =
    let vs : MaybeValues = present (integer id) (linked_part l (present (code_value c) (any_part o))) in
    ap length (row_is 23 _ None (chosen 0 (parts vs)) refl ∙ row_is 17 _ None (parts vs) refl ∙ row_is 16 _ _ (parts vs) refl)
    ∙ after (parts_contents W invoke_parts vs) ∙ ap definite_size (invoke_contents id l c o)

ber_error : (id : ℤ) (c : Code) (o : Option (List ℕ)) → length (written head_rows apdu_row (ber_value (error id c o))) ≡ error_size syntax.Ber id c (length (or_none o))
unfolding written
ber_error id c o =
    let vs : MaybeValues = present (integer id) (present (code_value c) (any_part o)) in
    ap length (row_is 23 _ None (chosen 2 (parts vs)) refl ∙ row_is 22 _ None (parts vs) refl ∙ row_is 21 _ _ (parts vs) refl)
    ∙ after (parts_contents W error_parts vs) ∙ ap definite_size (error_contents id c o)

none_contents : (id : ℤ) → length (parts_contents W result_parts (present (integer id) (absent no_parts))) ≡ integer_size syntax.Ber id + 0
none_contents id = let a = id_tail (codes "invokeId") id (part (codes "result") returned_row true ∷ []) (absent no_parts) in omega arith

ber_none : (id : ℤ) → length (written head_rows apdu_row (ber_value (result id None))) ≡ none_size syntax.Ber id
unfolding written
ber_none id =
    let vs : MaybeValues = present (integer id) (absent no_parts) in
    ap length (row_is 23 _ None (chosen 1 (parts vs)) refl ∙ row_is 20 _ None (parts vs) refl ∙ row_is 19 _ _ (parts vs) refl)
    ∙ after (parts_contents W result_parts vs) ∙ ap definite_size (none_contents id)

ber_result : (id : ℤ) (c : Code) (os : List ℕ) → length (written head_rows apdu_row (ber_value (result id (Some (record { code = c; octets = os }))))) ≡ result_size syntax.Ber id c (length os)
unfolding written
ber_result id c os =
    let vs : MaybeValues = present (integer id) (present (outcome_value c os) no_parts) in
    ap length (row_is 23 _ None (chosen 1 (parts vs)) refl ∙ row_is 20 _ None (parts vs) refl ∙ row_is 19 _ _ (parts vs) refl)
    ∙ after (parts_contents W result_parts vs) ∙ ap definite_size (result_contents id c os)

ber_reject : (id : Option ℤ) (p : Problem) → length (written head_rows apdu_row (ber_value (reject id p))) ≡ reject_size syntax.Ber id p.number
unfolding written
ber_reject id p =
    let vs : MaybeValues = present (rejected_value id) (present (problem_value p) no_parts) in
    ap length (row_is 23 _ None (chosen 3 (parts vs)) refl ∙ row_is 15 _ None (parts vs) refl ∙ row_is 14 _ _ (parts vs) refl)
    ∙ after (parts_contents W reject_parts vs) ∙ ap definite_size (reject_contents id p)

-- ---- the packed syntax

abbrev P : ℕ → packs.Writer
P = packed head_rows

packed_is : (n : ℕ) (r : TypeRow) (v : Value) → slice_get head_rows n ≡ Some r → P n v ≡ packs.write_by P r v
packed_is n r v e = ap (λ (f : packs.Writer). f v) (packed_at head_rows heads_sound n r e)

p_identifier : (z : ℤ) → length (P 0 (integer z)) ≡ integer_size syntax.Packed z
p_identifier z = ap length (packed_is 0 _ (integer z) refl)

p_number : (z : ℤ) → length (P 1 (integer z)) ≡ integer_size syntax.Packed z
p_number z = ap length (packed_is 1 _ (integer z) refl)

p_linked : (z : ℤ) → length (P 7 (integer z)) ≡ integer_size syntax.Packed z
p_linked z = ap length (packed_is 7 _ (integer z) refl) ∙ p_identifier z

p_object_id : (arcs : List ℕ) → length (P 2 (object_id arcs)) ≡ object_id_size syntax.Packed arcs
p_object_id arcs = ap length (packed_is 2 _ (object_id arcs) refl) ∙ length-append (bytes_high_first 4 (length (packed_ids.arcs_octets arcs))) (packed_ids.arcs_octets arcs)

p_code : (c : Code) → length (P 3 (code_value c)) ≡ code_size syntax.Packed c
p_code (Local n) = ap length (packed_is 3 _ (chosen 0 (integer n)) refl) ∙ ap suc (p_number n)
p_code (Global arcs) = ap length (packed_is 3 _ (chosen 1 (object_id arcs)) refl) ∙ ap suc (p_object_id arcs)

p_mark : (o : Option (List ℕ)) → length (P 5 (boolean (is_some o))) ≡ 1
p_mark None = ap length (packed_is 5 _ (boolean false) refl)
p_mark (Some os) = ap length (packed_is 5 _ (boolean true) refl)

p_mark_tail : (name : List ℕ) (o : Option (List ℕ)) → length (parts_written P (part name mark_row false ∷ []) (mark_part o)) ≡ 1
p_mark_tail name o = let e = length-append (P 5 (boolean (is_some o))) [] in let f = p_mark o in omega arith

p_linked_tail : (name : List ℕ) (l : Option ℤ) (ps : List Part) (more : MaybeValues) → length (parts_written P (part name linked_row true ∷ ps) (linked_part l more)) ≡ linked_size syntax.Packed l + length (parts_written P ps more)
p_linked_tail name None ps more = omega arith
p_linked_tail name (Some id) ps more = let e = length-append (P 7 (integer id)) (parts_written P ps more) in let f = p_linked id in omega arith

p_code_tail : (name : List ℕ) (c : Code) (ps : List Part) (more : MaybeValues) → length (parts_written P (part name code_row false ∷ ps) (present (code_value c) more)) ≡ code_size syntax.Packed c + length (parts_written P ps more)
p_code_tail name c ps more = let e = length-append (P 3 (code_value c)) (parts_written P ps more) in let f = p_code c in omega arith

p_id_tail : (name : List ℕ) (id : ℤ) (ps : List Part) (more : MaybeValues) → length (parts_written P (part name 0 false ∷ ps) (present (integer id) more)) ≡ integer_size syntax.Packed id + length (parts_written P ps more)
p_id_tail name id ps more = let e = length-append (P 0 (integer id)) (parts_written P ps more) in let f = p_identifier id in omega arith

packed_invoke : (id : ℤ) (l : Option ℤ) (c : Code) (o : Option (List ℕ)) → length (written_head syntax.Packed (invoke id l c o)) ≡ invoke_size syntax.Packed id l c (length (or_none o))
packed_invoke id l c o =
    let vs : MaybeValues = present (integer id) (linked_part l (present (code_value c) (mark_part o))) in
    let whole = length-append (packed head_rows packed_apdu_row (packed_value (invoke id l c o))) (or_none o) in
    let top = ap length (packed_is 30 _ (chosen 1 (parts vs)) refl) ∙ ap (λ (x : List ℕ). suc (length x)) (packed_is 25 _ (parts vs) refl ∙ packed_is 24 _ (parts vs) refl) in
    let a = p_id_tail (codes "invokeId") id (part (codes "linkedId") linked_row true ∷ part (codes "opcode") code_row false ∷ part (codes "argument") mark_row false ∷ []) (linked_part l (present (code_value c) (mark_part o))) in
    let b = p_linked_tail (codes "linkedId") l (part (codes "opcode") code_row false ∷ part (codes "argument") mark_row false ∷ []) (present (code_value c) (mark_part o)) in
    let d = p_code_tail (codes "opcode") c (part (codes "argument") mark_row false ∷ []) (mark_part o) in
    let e = p_mark_tail (codes "argument") o in omega arith

packed_error : (id : ℤ) (c : Code) (o : Option (List ℕ)) → length (written_head syntax.Packed (error id c o)) ≡ error_size syntax.Packed id c (length (or_none o))
packed_error id c o =
    let vs : MaybeValues = present (integer id) (present (code_value c) (mark_part o)) in
    let whole = length-append (packed head_rows packed_apdu_row (packed_value (error id c o))) (or_none o) in
    let top = ap length (packed_is 30 _ (chosen 3 (parts vs)) refl) ∙ ap (λ (x : List ℕ). suc (length x)) (packed_is 29 _ (parts vs) refl ∙ packed_is 28 _ (parts vs) refl) in
    let a = p_id_tail (codes "invokeId") id (part (codes "errcode") code_row false ∷ part (codes "parameter") mark_row false ∷ []) (present (code_value c) (mark_part o)) in
    let d = p_code_tail (codes "errcode") c (part (codes "parameter") mark_row false ∷ []) (mark_part o) in
    let e = p_mark_tail (codes "parameter") o in omega arith

packed_none : (id : ℤ) → length (written_head syntax.Packed (result id None)) ≡ none_size syntax.Packed id
packed_none id =
    let vs : MaybeValues = present (integer id) (absent no_parts) in
    let whole = length-append (packed head_rows packed_apdu_row (packed_value (result id None))) [] in
    let top = ap length (packed_is 30 _ (chosen 2 (parts vs)) refl) ∙ ap (λ (x : List ℕ). suc (length x)) (packed_is 27 _ (parts vs) refl ∙ packed_is 26 _ (parts vs) refl) in
    let a = p_id_tail (codes "invokeId") id (part (codes "opcode") code_row true ∷ []) (absent no_parts) in omega arith

packed_result : (id : ℤ) (c : Code) (os : List ℕ) → length (written_head syntax.Packed (result id (Some (record { code = c; octets = os })))) ≡ result_size syntax.Packed id c (length os)
packed_result id c os =
    let vs : MaybeValues = present (integer id) (present (code_value c) no_parts) in
    let whole = length-append (packed head_rows packed_apdu_row (packed_value (result id (Some (record { code = c; octets = os }))))) os in
    let top = ap length (packed_is 30 _ (chosen 2 (parts vs)) refl) ∙ ap (λ (x : List ℕ). suc (length x)) (packed_is 27 _ (parts vs) refl ∙ packed_is 26 _ (parts vs) refl) in
    let a = p_id_tail (codes "invokeId") id (part (codes "opcode") code_row true ∷ []) (present (code_value c) no_parts) in
    let b = length-append (P 3 (code_value c)) [] in
    let d = p_code c in omega arith

p_rejected : (id : Option ℤ) → length (P 13 (rejected_value id)) ≡ rejected_size syntax.Packed id
p_rejected None = ap length (packed_is 13 _ (chosen 1 null) refl) ∙ ap (λ (x : List ℕ). suc (length x)) (packed_is 4 _ null refl)
p_rejected (Some id) = ap length (packed_is 13 _ (chosen 0 (integer id)) refl) ∙ ap suc (p_identifier id)

p_problem : (k : ProblemKind) (z : ℤ) → length (P 12 (chosen (kind_place k) (integer z))) ≡ suc (integer_size syntax.Packed z)
p_problem kinds.General z = ap length (packed_is 12 _ (chosen 0 (integer z)) refl) ∙ ap suc (ap length (packed_is 8 _ (integer z) refl) ∙ p_number z)
p_problem kinds.Invoke z = ap length (packed_is 12 _ (chosen 1 (integer z)) refl) ∙ ap suc (ap length (packed_is 9 _ (integer z) refl) ∙ p_number z)
p_problem kinds.Result z = ap length (packed_is 12 _ (chosen 2 (integer z)) refl) ∙ ap suc (ap length (packed_is 10 _ (integer z) refl) ∙ p_number z)
p_problem kinds.Error z = ap length (packed_is 12 _ (chosen 3 (integer z)) refl) ∙ ap suc (ap length (packed_is 11 _ (integer z) refl) ∙ p_number z)

packed_reject : (id : Option ℤ) (p : Problem) → length (written_head syntax.Packed (reject id p)) ≡ reject_size syntax.Packed id p.number
packed_reject id p =
    let vs : MaybeValues = present (rejected_value id) (present (problem_value p) no_parts) in
    let whole = length-append (packed head_rows packed_apdu_row (packed_value (reject id p))) [] in
    let top = ap length (packed_is 30 _ (chosen 4 (parts vs)) refl) ∙ ap (λ (x : List ℕ). suc (length x)) (packed_is 15 _ (parts vs) refl ∙ packed_is 14 _ (parts vs) refl) in
    let a = length-append (P 13 (rejected_value id)) (P 12 (problem_value p) ++ []) in
    let b = length-append (P 12 (problem_value p)) [] in
    let d = p_rejected id in let e = p_problem p.kind p.number in omega arith

-- ---- heads in each syntax

invoke_length : (s : Syntax) (id : ℤ) (l : Option ℤ) (c : Code) (o : Option (List ℕ)) → length (written_head s (invoke id l c o)) ≡ invoke_size s id l c (length (or_none o))
invoke_length syntax.Ber id l c o = ber_invoke id l c o
invoke_length syntax.Der id l c o = ber_invoke id l c o
invoke_length syntax.Packed id l c o = packed_invoke id l c o

error_length : (s : Syntax) (id : ℤ) (c : Code) (o : Option (List ℕ)) → length (written_head s (error id c o)) ≡ error_size s id c (length (or_none o))
error_length syntax.Ber id c o = ber_error id c o
error_length syntax.Der id c o = ber_error id c o
error_length syntax.Packed id c o = packed_error id c o

none_length : (s : Syntax) (id : ℤ) → length (written_head s (result id None)) ≡ none_size s id
none_length syntax.Ber id = ber_none id
none_length syntax.Der id = ber_none id
none_length syntax.Packed id = packed_none id

result_length : (s : Syntax) (id : ℤ) (c : Code) (os : List ℕ) → length (written_head s (result id (Some (record { code = c; octets = os })))) ≡ result_size s id c (length os)
result_length syntax.Ber id c os = ber_result id c os
result_length syntax.Der id c os = ber_result id c os
result_length syntax.Packed id c os = packed_result id c os

reject_length : (s : Syntax) (id : Option ℤ) (p : Problem) → length (written_head s (reject id p)) ≡ reject_size s id p.number
reject_length syntax.Ber id p = ber_reject id p
reject_length syntax.Der id p = ber_reject id p
reject_length syntax.Packed id p = packed_reject id p

-- ---- what is measured of a head, piece by piece

pub invoke_told : (s : Syntax) (id : ℤ) (l : Option ℤ) (c : Code) (o : Option (List ℕ)) (i k front d carried m behind contents len : ℕ)
    → i ≡ saturated (integer_size s id) → k ≡ saturated (linked_size s l) → front ≡ saturated (i + k)
    → carried ≡ saturated (length (or_none o)) → d ≡ saturated (code_size s c) → m ≡ saturated (marked_size s carried) → behind ≡ saturated (d + m)
    → contents ≡ saturated (front + behind) → len ≡ saturated (held_size s contents) → len ≡ saturated (length (written_head s (invoke id l c o)))
invoke_told s id l c o i k front d carried m behind contents len ei ek ef ec ed em eb en el =
    let n : ℕ = length (or_none o) in
    let marked = marked_through s carried n m ec em in
    let first = sum i k (integer_size s id) (linked_size s l) front ei ek ef in
    let last = sum d m (code_size s c) (marked_size s n) behind ed marked eb in
    let whole = sum front behind (integer_size s id + linked_size s l) (code_size s c + marked_size s n) contents first last en in
    held_through s contents ((integer_size s id + linked_size s l) + (code_size s c + marked_size s n)) len whole el ∙ ap (λ (k : ℕ). saturated k) (sym (invoke_length s id l c o))

pub error_told : (s : Syntax) (id : ℤ) (c : Code) (o : Option (List ℕ)) (i d carried m behind contents len : ℕ)
    → i ≡ saturated (integer_size s id) → carried ≡ saturated (length (or_none o)) → d ≡ saturated (code_size s c) → m ≡ saturated (marked_size s carried) → behind ≡ saturated (d + m)
    → contents ≡ saturated (i + behind) → len ≡ saturated (held_size s contents) → len ≡ saturated (length (written_head s (error id c o)))
error_told s id c o i d carried m behind contents len ei ec ed em eb en el =
    let n : ℕ = length (or_none o) in
    let marked = marked_through s carried n m ec em in
    let last = sum d m (code_size s c) (marked_size s n) behind ed marked eb in
    let whole = sum i behind (integer_size s id) (code_size s c + marked_size s n) contents ei last en in
    held_through s contents (integer_size s id + (code_size s c + marked_size s n)) len whole el ∙ ap (λ (k : ℕ). saturated k) (sym (error_length s id c o))

pub none_told : (s : Syntax) (id : ℤ) (i m contents len : ℕ) → i ≡ saturated (integer_size s id) → m ≡ saturated (marked_size s 0) → contents ≡ saturated (i + m)
    → len ≡ saturated (held_size s contents) → len ≡ saturated (length (written_head s (result id None)))
none_told s id i m contents len ei em en el =
    let whole = sum i m (integer_size s id) (marked_size s 0) contents ei em en in
    held_through s contents (integer_size s id + marked_size s 0) len whole el ∙ ap (λ (k : ℕ). saturated k) (sym (none_length s id))

pub result_told : (s : Syntax) (id : ℤ) (c : Code) (os : List ℕ) (i d carried behind outcome contents len : ℕ)
    → i ≡ saturated (integer_size s id) → carried ≡ saturated (length os) → d ≡ saturated (code_size s c) → behind ≡ saturated (d + carried) → outcome ≡ saturated (held_size s behind)
    → contents ≡ saturated (i + outcome) → len ≡ saturated (held_size s contents) → len ≡ saturated (length (written_head s (result id (Some (record { code = c; octets = os })))))
result_told s id c os i d carried behind outcome contents len ei ec ed eb eo en el =
    let n : ℕ = code_size s c + length os in
    let last = sum d carried (code_size s c) (length os) behind ed ec eb in
    let inner = held_through s behind n outcome last eo in
    let whole = sum i outcome (integer_size s id) (held_size s n) contents ei inner en in
    held_through s contents (integer_size s id + held_size s n) len whole el ∙ ap (λ (k : ℕ). saturated k) (sym (result_length s id c os))

pub reject_told : (s : Syntax) (id : Option ℤ) (p : Problem) (r i m contents len : ℕ) → r ≡ saturated (rejected_size s id) → i ≡ saturated (integer_size s p.number) → m ≡ saturated (marked_size s i)
    → contents ≡ saturated (r + m) → len ≡ saturated (held_size s contents) → len ≡ saturated (length (written_head s (reject id p)))
reject_told s id p r i m contents len er ei em en el =
    let marked = marked_through s i (integer_size s p.number) m ei em in
    let whole = sum r m (rejected_size s id) (marked_size s (integer_size s p.number)) contents er marked en in
    held_through s contents (rejected_size s id + marked_size s (integer_size s p.number)) len whole el ∙ ap (λ (k : ℕ). saturated k) (sym (reject_length s id p))

-- ---- BER and DER have one spelling

same_typed : (types : TypeTable) (of : Option TypeId) (v : Val) → written_typed syntax.Der types of v ≡ written_typed syntax.Ber types of v
same_typed types None v = refl
same_typed types (Some of) v = refl

same_carried : (types : TypeTable) (used : Option Use) (v : Option Val) → written_carried syntax.Der types used v ≡ written_carried syntax.Ber types used v
same_carried types None v = refl
same_carried types (Some used) None = refl
same_carried types (Some used) (Some v) = same_typed types used.inner v

abbrev outcome_with : Code → List ℕ → ReturnedOctets
outcome_with code os = record { code = code; octets = os }

same_outcome : (tables : Tables) (returned : Option Returned) → outcome_of tables syntax.Der returned ≡ outcome_of tables syntax.Ber returned
same_outcome tables None = refl
same_outcome tables (Some r) =
    ap (λ (o : Option (List ℕ)). Some (outcome_with r.code (or_none o))) (same_carried tables.types (option_map result_of (operation_coded tables r.code)) (Some r.value))

same_head : (tables : Tables) (a : Apdu) → head_of tables syntax.Der a ≡ head_of tables syntax.Ber a
same_head tables (apdus.Invoke id linked code argument) = ap (invoke id linked code) (same_carried tables.types (option_map argument_of (operation_coded tables code)) argument)
same_head tables (apdus.Result id returned) = ap (result id) (same_outcome tables returned)
same_head tables (apdus.Error id code parameter) = ap (error id code) (same_carried tables.types (option_map parameter_of (error_coded tables code)) parameter)
same_head tables (apdus.Reject id problem) = refl

der_as_ber : (tables : Tables) (a : Apdu) → written_apdu tables syntax.Der a ≡ written_apdu tables syntax.Ber a
unfolding written_apdu
der_as_ber tables a = ap (written_head syntax.Ber) (same_head tables a)

-- ---- APDUs that are too long

pub is_past : (most n count : ℕ) → most < 2 ^ 64 - 1 → count ≡ saturated n → nat_lt most count ≡ nat_lt most n
is_past most n count few e =
    elim (cases_lt most n) [
      | inl lt ↦ lt-ltb most count (omega arith) ∙ sym (lt-ltb most n lt)
      | inr ge ↦ le-ltb most count (omega arith) ∙ sym (le-ltb most n ge)
    ]

either : (a b : Bool) → (a || b) ≡ (a || a || b)
either true b = refl
either false b = refl

pub too_long : (tables : Tables) (a : Apdu) → (is_too_long_in tables syntax.Ber a || is_too_long_in tables syntax.Packed a) ≡ is_too_long tables a
too_long tables a =
    either (is_too_long_in tables syntax.Ber a) (is_too_long_in tables syntax.Packed a)
    ∙ ap (λ (text : List ℕ). is_too_long_in tables syntax.Ber a || nat_lt most_octets (length text) || is_too_long_in tables syntax.Packed a) (sym (der_as_ber tables a))
