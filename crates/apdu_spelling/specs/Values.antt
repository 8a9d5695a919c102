-- Heads as values of the rows of the fixed table.
use Rattle.std.specs.Prelude.{ℕ, ℤ, List, Option, Some, None, is_some}
use Rattle.osi_base.specs.declared.layer_words.Problem.{Problem}
use Rattle.osi_base.specs.declared.layer_words.ProblemKind.{ProblemKind}
use Rattle.osi_base.specs.declared.layer_words.ProblemKind.TheVariants.{General, Invoke, Result, Error}
use Rattle.asn1_types.specs.Value.{Value, boolean, integer, null, object_id, parts, chosen, any, MaybeValues, no_parts, absent, present}
use Rattle.stub_tables.specs.declared.operation.Code.{Code}
use Rattle.stub_tables.specs.declared.operation.Code.TheVariants.{Local, Global}
use Rattle.apdu_spelling.specs.Heads.{ReturnedOctets, Head, invoke, result, error, reject}

abbrev pub code_value : Code → Value
code_value (Local number) = chosen 0 (integer number)
code_value (Global arcs) = chosen 1 (object_id arcs)

abbrev pub linked_part : Option ℤ → MaybeValues → MaybeValues
linked_part None more = absent more
linked_part (Some id) more = present (integer id) more

-- the identifier of what is rejected, or NULL
abbrev pub rejected_value : Option ℤ → Value
rejected_value (Some id) = chosen 0 (integer id)
rejected_value None = chosen 1 null

abbrev pub kind_place : ProblemKind → ℕ
kind_place General = 0
kind_place Invoke = 1
kind_place Result = 2
kind_place Error = 3

abbrev pub problem_value : Problem → Value
problem_value problem = chosen (kind_place problem.kind) (integer problem.number)

abbrev pub reject_value : Option ℤ → Problem → Value
reject_value id problem = parts (present (rejected_value id) (present (problem_value problem) no_parts))

-- ---- BER and DER

abbrev pub any_part : Option (List ℕ) → MaybeValues
any_part None = absent no_parts
any_part (Some octets) = present (any octets) no_parts

abbrev pub returned_part : Option ReturnedOctets → MaybeValues
returned_part None = absent no_parts
returned_part (Some outcome) = present (parts (present (code_value outcome.code) (present (any outcome.octets) no_parts))) no_parts

abbrev pub ber_value : Head → Value
ber_value (invoke id linked code argument) = chosen 0 (parts (present (integer id) (linked_part linked (present (code_value code) (any_part argument)))))
ber_value (result id outcome) = chosen 1 (parts (present (integer id) (returned_part outcome)))
ber_value (error id code parameter) = chosen 2 (parts (present (integer id) (present (code_value code) (any_part parameter))))
ber_value (reject id problem) = chosen 3 (reject_value id problem)

-- ---- the packed syntax: what stands before the octets of the value

-- whether they follow
abbrev pub mark_part : Option (List ℕ) → MaybeValues
mark_part octets = present (boolean (is_some octets)) no_parts

abbrev pub code_part : Option ReturnedOctets → MaybeValues
code_part None = absent no_parts
code_part (Some outcome) = present (code_value outcome.code) no_parts

abbrev pub packed_value : Head → Value
packed_value (invoke id linked code argument) = chosen 1 (parts (present (integer id) (linked_part linked (present (code_value code) (mark_part argument)))))
packed_value (result id outcome) = chosen 2 (parts (present (integer id) (code_part outcome)))
packed_value (error id code parameter) = chosen 3 (parts (present (integer id) (present (code_value code) (mark_part parameter))))
packed_value (reject id problem) = chosen 4 (reject_value id problem)
