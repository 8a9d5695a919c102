-- What is told of the head of an APDU of remote operations, by the names of a module (X.880 9).
use Rattle.std.specs.Prelude.{◌≡◌, ℕ, ℤ, Bool, true, false, List, ◌++◌, Option, Some, None, option_map, option_and_then, codes}
use Rattle.osi_base.specs.declared.layer_words.Problem.{Problem}
use Rattle.stub_tables.specs.declared.operation.Code.{Code}
use Rattle.stub_tables.specs.declared.tables.Tables.{Tables}
use Rattle.stub_tables.specs.Lookup.{operation_at, error_at, operation_with, error_with}
use Rattle.apdu_spelling.specs.declared.head.ApduHead.{ApduHead}
use Rattle.apdu_spelling.specs.declared.head.ApduKind.{ApduKind}
use Rattle.apdu_spelling.specs.declared.head.ApduKind.TheVariants as kinds
use Rattle.osi_base.specs.Printed.{problem_text}
use Rattle.transcript_text.specs.Indications.{id_text}

-- the name of the operation with a code
abbrev pub operation_named : Tables → Code → Option (List ℕ)
operation_named tables code = option_and_then (λ place. option_map (λ o. o.name) (operation_at tables place)) (operation_with tables code)

-- the name of the error with a code
abbrev pub error_named : Tables → Code → Option (List ℕ)
error_named tables code = option_and_then (λ place. option_map (λ e. e.name) (error_at tables place)) (error_with tables code)

abbrev pub named_text : List ℕ → Option ℤ → List ℕ → List ℕ
named_text word id name = word ++ id_text id ++ codes " " ++ name

abbrev pub result_text : Option ℤ → List ℕ
result_text id = codes "result " ++ id_text id

-- an operation is invoked, if its code is known
abbrev pub invoke_told : Tables → Option ℤ → Option Code → Option (List ℕ)
invoke_told tables id None = None
invoke_told tables id (Some code) = option_map (named_text (codes "invoke ") id) (operation_named tables code)

-- a result, whose code lacks or is known
abbrev pub result_told : Tables → Option ℤ → Option Code → Option (List ℕ)
result_told tables id None = Some (result_text id)
result_told tables id (Some code) = option_map (λ name. result_text id) (operation_named tables code)

-- an error, if its code is known
abbrev pub error_told : Tables → Option ℤ → Option Code → Option (List ℕ)
error_told tables id None = None
error_told tables id (Some code) = option_map (named_text (codes "error ") id) (error_named tables code)

abbrev pub reject_told : Option ℤ → Option Problem → Option (List ℕ)
reject_told id None = None
reject_told id (Some problem) = Some (codes "reject " ++ id_text id ++ codes " " ++ problem_text problem)

abbrev pub told_by : ApduKind → Tables → ApduHead → Option (List ℕ)
told_by kinds.Invoke tables head = invoke_told tables head.id head.code
told_by kinds.Result tables head = result_told tables head.id head.code
told_by kinds.Error tables head = error_told tables head.id head.code
told_by kinds.Reject tables head = reject_told head.id head.problem

-- what is told of a head; nothing where its code isn't known
abbrev pub head_told : Tables → ApduHead → Option (List ℕ)
head_told tables head = told_by head.kind tables head

-- whether these words were put behind a text; where there are none, nothing was
abbrev pub WasTold : Bool → List ℕ → List ℕ → Option (List ℕ) → Type 0
WasTold true before after (Some words) = after ≡ before ++ words
WasTold false before after None = after ≡ before
WasTold true before after None = ⊥
WasTold false before after (Some words) = ⊥
