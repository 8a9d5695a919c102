-- The fixed table of heads, as rows of types. In BER and DER what is carried stands in a head as one whole value of
-- any type, the last of its SEQUENCE (X.882 9). In the packed syntax it stands behind the head, which ends with a mark
-- where it may lack.
use Rattle.std.specs.Prelude.{ℕ, ◌+◌, pos, negsuc, true, false, List, [], ◌∷◌, codes}
use Rattle.osi_base.specs.Limits.{last_invocation, most_signed}
use Rattle.asn1_types.specs.declared.row.Part.{Part}
use Rattle.asn1_types.specs.declared.row.TypeRow.{TypeRow}
use Rattle.asn1_types.specs.declared.row.TypeRow.TheVariants.{Integer, ObjectId, Null, Boolean, Sequence, Choice, Any}
use Rattle.asn1_types.specs.FixedRows.{part, implicit}

-- ---- which row is which: each stands behind the one named before it

abbrev pub identifier_row : ℕ
identifier_row = 0

abbrev pub number_row : ℕ
number_row = identifier_row + 1

abbrev pub object_id_row : ℕ
object_id_row = number_row + 1

abbrev pub code_row : ℕ
code_row = object_id_row + 1

abbrev pub nothing_row : ℕ
nothing_row = code_row + 1

abbrev pub mark_row : ℕ
mark_row = nothing_row + 1

abbrev pub any_row : ℕ
any_row = mark_row + 1

abbrev pub linked_row : ℕ
linked_row = any_row + 1

abbrev pub general_row : ℕ
general_row = linked_row + 1

abbrev pub of_invoke_row : ℕ
of_invoke_row = general_row + 1

abbrev pub of_result_row : ℕ
of_result_row = of_invoke_row + 1

abbrev pub of_error_row : ℕ
of_error_row = of_result_row + 1

abbrev pub problem_row : ℕ
problem_row = of_error_row + 1

abbrev pub rejected_row : ℕ
rejected_row = problem_row + 1

abbrev pub reject_parts_row : ℕ
reject_parts_row = rejected_row + 1

abbrev pub reject_row : ℕ
reject_row = reject_parts_row + 1

abbrev pub invoke_parts_row : ℕ
invoke_parts_row = reject_row + 1

abbrev pub invoke_row : ℕ
invoke_row = invoke_parts_row + 1

abbrev pub returned_row : ℕ
returned_row = invoke_row + 1

abbrev pub result_parts_row : ℕ
result_parts_row = returned_row + 1

abbrev pub result_row : ℕ
result_row = result_parts_row + 1

abbrev pub error_parts_row : ℕ
error_parts_row = result_row + 1

abbrev pub error_row : ℕ
error_row = error_parts_row + 1

abbrev pub apdu_row : ℕ
apdu_row = error_row + 1

abbrev pub packed_invoke_parts_row : ℕ
packed_invoke_parts_row = apdu_row + 1

abbrev pub packed_invoke_row : ℕ
packed_invoke_row = packed_invoke_parts_row + 1

abbrev pub packed_result_parts_row : ℕ
packed_result_parts_row = packed_invoke_row + 1

abbrev pub packed_result_row : ℕ
packed_result_row = packed_result_parts_row + 1

abbrev pub packed_error_parts_row : ℕ
packed_error_parts_row = packed_result_row + 1

abbrev pub packed_error_row : ℕ
packed_error_row = packed_error_parts_row + 1

abbrev pub packed_apdu_row : ℕ
packed_apdu_row = packed_error_row + 1

-- ---- their parts

abbrev pub code_kinds : List Part
code_kinds = part (codes "local") number_row false ∷ part (codes "global") object_id_row false ∷ []

-- what a problem speaks of
abbrev pub problem_kinds : List Part
problem_kinds =
    part (codes "general") general_row false ∷ part (codes "invoke") of_invoke_row false
    ∷ part (codes "returnResult") of_result_row false ∷ part (codes "returnError") of_error_row false ∷ []

abbrev pub rejected_kinds : List Part
rejected_kinds = part (codes "invokeId") identifier_row false ∷ part (codes "absent") nothing_row false ∷ []

abbrev pub reject_parts : List Part
reject_parts = part (codes "invokeId") rejected_row false ∷ part (codes "problem") problem_row false ∷ []

abbrev pub invoke_parts : List Part
invoke_parts = part (codes "invokeId") identifier_row false ∷ part (codes "linkedId") linked_row true ∷ part (codes "opcode") code_row false ∷ part (codes "argument") any_row true ∷ []

abbrev pub returned_parts : List Part
returned_parts = part (codes "opcode") code_row false ∷ part (codes "result") any_row false ∷ []

abbrev pub result_parts : List Part
result_parts = part (codes "invokeId") identifier_row false ∷ part (codes "result") returned_row true ∷ []

abbrev pub error_parts : List Part
error_parts = part (codes "invokeId") identifier_row false ∷ part (codes "errcode") code_row false ∷ part (codes "parameter") any_row true ∷ []

abbrev pub apdu_kinds : List Part
apdu_kinds = part (codes "invoke") invoke_row false ∷ part (codes "returnResult") result_row false ∷ part (codes "returnError") error_row false ∷ part (codes "reject") reject_row false ∷ []

abbrev pub packed_invoke_parts : List Part
packed_invoke_parts = part (codes "invokeId") identifier_row false ∷ part (codes "linkedId") linked_row true ∷ part (codes "opcode") code_row false ∷ part (codes "argument") mark_row false ∷ []

abbrev pub packed_result_parts : List Part
packed_result_parts = part (codes "invokeId") identifier_row false ∷ part (codes "opcode") code_row true ∷ []

abbrev pub packed_error_parts : List Part
packed_error_parts = part (codes "invokeId") identifier_row false ∷ part (codes "errcode") code_row false ∷ part (codes "parameter") mark_row false ∷ []

-- the kind octet is 1 to 4; the alternative 0 is no APDU
abbrev pub packed_apdu_kinds : List Part
packed_apdu_kinds =
    part (codes "none") nothing_row false ∷ part (codes "invoke") packed_invoke_row false
    ∷ part (codes "returnResult") packed_result_row false ∷ part (codes "returnError") packed_error_row false ∷ part (codes "reject") reject_row false ∷ []

-- ---- the table

abbrev pub head_rows : List TypeRow
head_rows =
    -- identifiers have 32 bits
    Integer (negsuc last_invocation) (pos last_invocation)
    ∷ Integer (negsuc most_signed) (pos most_signed)
    ∷ ObjectId
    ∷ Choice code_kinds
    ∷ Null
    ∷ Boolean
    ∷ Any
    ∷ implicit 0 identifier_row
    -- problems and rejects
    ∷ implicit 0 number_row
    ∷ implicit 1 number_row
    ∷ implicit 2 number_row
    ∷ implicit 3 number_row
    ∷ Choice problem_kinds
    ∷ Choice rejected_kinds
    ∷ Sequence reject_parts
    ∷ implicit 4 reject_parts_row
    -- BER and DER
    ∷ Sequence invoke_parts
    ∷ implicit 1 invoke_parts_row
    ∷ Sequence returned_parts
    ∷ Sequence result_parts
    ∷ implicit 2 result_parts_row
    ∷ Sequence error_parts
    ∷ implicit 3 error_parts_row
    ∷ Choice apdu_kinds
    -- the packed syntax
    ∷ Sequence packed_invoke_parts
    ∷ implicit 1 packed_invoke_parts_row
    ∷ Sequence packed_result_parts
    ∷ implicit 2 packed_result_parts_row
    ∷ Sequence packed_error_parts
    ∷ implicit 3 packed_error_parts_row
    ∷ Choice packed_apdu_kinds
    ∷ []
