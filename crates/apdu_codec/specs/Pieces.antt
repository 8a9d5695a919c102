-- The pieces of a head, each where it is of its kind, and the heads that values are.
use Rattle.std.specs.Prelude.{ℕ, zero, suc, ℤ, true, false, List, [], ◌∷◌, Option, Some, None}
use Rattle.std.specs.Option.{option_map}
use Rattle.osi_base.specs.declared.layer_words.Problem.{Problem}
use Rattle.osi_base.specs.declared.layer_words.ProblemKind.{ProblemKind}
use Rattle.osi_base.specs.declared.layer_words.ProblemKind.TheVariants as kinds
use Rattle.asn1_types.specs.Value.{Value, boolean, integer, null, object_id, parts, chosen, any, MaybeValues, no_parts, absent, present}
use Rattle.stub_tables.specs.declared.operation.Code.{Code}
use Rattle.stub_tables.specs.declared.operation.Code.TheVariants.{Local, Global}
use Rattle.apdu_spelling.specs.Heads.{ReturnedOctets, Head, invoke, result, error, reject}

abbrev pub pieces_of : MaybeValues → List (Option Value)
pieces_of no_parts = []
pieces_of (absent more) = None ∷ pieces_of more
pieces_of (present v more) = Some v ∷ pieces_of more

abbrev pub integer_in : Option Value → Option ℤ
integer_in (Some (integer number)) = Some number
integer_in _ = None

-- an INTEGER, or that there is none
abbrev pub linked_in : Option Value → Option (Option ℤ)
linked_in None = Some None
linked_in (Some (integer number)) = Some (Some number)
linked_in _ = None

abbrev pub code_in : Option Value → Option Code
code_in (Some (chosen zero (integer number))) = Some (Local number)
code_in (Some (chosen (suc zero) (object_id arcs))) = Some (Global arcs)
code_in _ = None

-- the octets of one whole value, or that there is none
abbrev pub any_in : Option Value → Option (Option (List ℕ))
any_in None = Some None
any_in (Some (any octets)) = Some (Some octets)
any_in _ = None

abbrev pub octets_in : Option Value → Option (List ℕ)
octets_in (Some (any octets)) = Some octets
octets_in _ = None

-- a reject names an invocation, or none
abbrev pub rejected_in : Option Value → Option (Option ℤ)
rejected_in (Some (chosen zero (integer number))) = Some (Some number)
rejected_in (Some (chosen (suc zero) null)) = Some None
rejected_in _ = None

abbrev pub problem_by : ProblemKind → Value → Option Problem
problem_by kind (integer number) = Some (record { kind = kind; number = number })
problem_by kind _ = None

abbrev pub problem_in : Option Value → Option Problem
problem_in (Some (chosen zero v)) = problem_by kinds.General v
problem_in (Some (chosen (suc zero) v)) = problem_by kinds.Invoke v
problem_in (Some (chosen (suc (suc zero)) v)) = problem_by kinds.Result v
problem_in (Some (chosen (suc (suc (suc zero))) v)) = problem_by kinds.Error v
problem_in _ = None

abbrev pub outcome_by : Option Code → Option (List ℕ) → Option ReturnedOctets
outcome_by (Some code) (Some octets) = Some (record { code = code; octets = octets })
outcome_by _ _ = None

-- ---- heads by their pieces

abbrev pub invoke_by : Option ℤ → Option (Option ℤ) → Option Code → Option (Option (List ℕ)) → Option Head
invoke_by (Some id) (Some linked) (Some code) (Some argument) = Some (invoke id linked code argument)
invoke_by _ _ _ _ = None

abbrev pub result_by : Option ℤ → Option (Option ReturnedOctets) → Option Head
result_by (Some id) (Some outcome) = Some (result id outcome)
result_by _ _ = None

abbrev pub error_by : Option ℤ → Option Code → Option (Option (List ℕ)) → Option Head
error_by (Some id) (Some code) (Some parameter) = Some (error id code parameter)
error_by _ _ _ = None

abbrev pub reject_by : Option (Option ℤ) → Option Problem → Option Head
reject_by (Some id) (Some problem) = Some (reject id problem)
reject_by _ _ = None

-- ---- BER and DER

abbrev pub outcome_pieces : List (Option Value) → Option ReturnedOctets
outcome_pieces (code ∷ value ∷ []) = outcome_by (code_in code) (octets_in value)
outcome_pieces _ = None

abbrev pub returned_in : Option Value → Option (Option ReturnedOctets)
returned_in None = Some None
returned_in (Some (parts vs)) = option_map Some (outcome_pieces (pieces_of vs))
returned_in _ = None

abbrev pub invoke_pieces : List (Option Value) → Option Head
invoke_pieces (id ∷ linked ∷ code ∷ argument ∷ []) = invoke_by (integer_in id) (linked_in linked) (code_in code) (any_in argument)
invoke_pieces _ = None

abbrev pub result_pieces : List (Option Value) → Option Head
result_pieces (id ∷ returned ∷ []) = result_by (integer_in id) (returned_in returned)
result_pieces _ = None

abbrev pub error_pieces : List (Option Value) → Option Head
error_pieces (id ∷ code ∷ parameter ∷ []) = error_by (integer_in id) (code_in code) (any_in parameter)
error_pieces _ = None

abbrev pub reject_pieces : List (Option Value) → Option Head
reject_pieces (id ∷ problem ∷ []) = reject_by (rejected_in id) (problem_in problem)
reject_pieces _ = None

abbrev pub ber_pieces : ℕ → List (Option Value) → Option Head
ber_pieces zero ps = invoke_pieces ps
ber_pieces (suc zero) ps = result_pieces ps
ber_pieces (suc (suc zero)) ps = error_pieces ps
ber_pieces (suc (suc (suc zero))) ps = reject_pieces ps
ber_pieces (suc (suc (suc (suc n)))) ps = None

abbrev pub ber_head : Value → Option Head
ber_head (chosen which (parts vs)) = ber_pieces which (pieces_of vs)
ber_head _ = None

-- ---- the packed syntax: the octets behind the head are those of the value, if the head says that it follows

abbrev pub none_behind : {A : Type 0} → List ℕ → Option A → Option A
none_behind [] x = x
none_behind (o ∷ os) x = None

abbrev pub marked_in : Option Value → List ℕ → Option (Option (List ℕ))
marked_in (Some (boolean true)) rest = Some (Some rest)
marked_in (Some (boolean false)) rest = none_behind rest (Some None)
marked_in _ rest = None

abbrev pub outcome_in : Option Value → List ℕ → Option (Option ReturnedOctets)
outcome_in None rest = none_behind rest (Some None)
outcome_in (Some v) rest = option_map Some (outcome_by (code_in (Some v)) (Some rest))

abbrev pub packed_invoke_pieces : List (Option Value) → List ℕ → Option Head
packed_invoke_pieces (id ∷ linked ∷ code ∷ mark ∷ []) rest = invoke_by (integer_in id) (linked_in linked) (code_in code) (marked_in mark rest)
packed_invoke_pieces _ rest = None

abbrev pub packed_result_pieces : List (Option Value) → List ℕ → Option Head
packed_result_pieces (id ∷ code ∷ []) rest = result_by (integer_in id) (outcome_in code rest)
packed_result_pieces _ rest = None

abbrev pub packed_error_pieces : List (Option Value) → List ℕ → Option Head
packed_error_pieces (id ∷ code ∷ mark ∷ []) rest = error_by (integer_in id) (code_in code) (marked_in mark rest)
packed_error_pieces _ rest = None

abbrev pub packed_pieces : ℕ → List (Option Value) → List ℕ → Option Head
packed_pieces zero ps rest = None
packed_pieces (suc zero) ps rest = packed_invoke_pieces ps rest
packed_pieces (suc (suc zero)) ps rest = packed_result_pieces ps rest
packed_pieces (suc (suc (suc zero))) ps rest = packed_error_pieces ps rest
packed_pieces (suc (suc (suc (suc zero)))) ps rest = none_behind rest (reject_pieces ps)
packed_pieces (suc (suc (suc (suc (suc n))))) ps rest = None

abbrev pub packed_head : Value → List ℕ → Option Head
packed_head (chosen which (parts vs)) rest = packed_pieces which (pieces_of vs) rest
packed_head _ rest = None
