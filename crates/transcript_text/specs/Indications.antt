-- Indications as texts.
use Rattle.std.specs.Prelude.{ℕ, ℤ, List, [], ◌++◌, Bool, true, false, Option, None, Some, codes, decimal, flat_map, zip}
use Rattle.std.specs.Fmt.{signed_decimal}
use Rattle.osi_base.specs.declared.layer_words.AddAnswer.{AddAnswer}
use Rattle.osi_base.specs.declared.layer_words.Answers.{Answers}
use Rattle.osi_base.specs.declared.layer_words.Layer.{Layer}
use Rattle.stub_tables.specs.declared.tables.Tables.{Tables}
use Rattle.dialogue.specs.declared.indication.Indication.{Indication}
use Rattle.dialogue.specs.declared.indication.Indication.TheVariants as shown
use Rattle.osi_base.specs.Printed.{layer_word, problem_text}
use Rattle.script_lines.specs.Invoked.{result_type}
use Rattle.transcript_text.specs.Typed.{field_by, argument_type, parameter_type}
use Rattle.transcript_text.specs.Calls.{operation_name, error_name, linked_field, number_field}

-- an identifier, or `-` where it is absent
abbrev pub id_text : Option ℤ → List ℕ
id_text None = codes "-"
id_text (Some id) = signed_decimal id

-- an addition with its result
abbrev pub added_field : ℕ × AddAnswer → List ℕ
added_field p = codes " +" ++ decimal p.0 ++ codes " " ++ decimal p.1.result

-- a deletion with its result
abbrev pub deleted_field : ℕ × ℕ → List ℕ
deleted_field p = codes " -" ++ decimal p.0 ++ codes " " ++ decimal p.1

-- what is printed of an item with its answer, where it has one
abbrev pub answered : {X Y : Type 0} → (X × Y → List ℕ) → X → Option Y → List ℕ
answered print item None = []
answered print item (Some answer) = print (item, answer)

abbrev pub added_text : List ℕ → List AddAnswer → List ℕ
added_text ids answers = flat_map added_field (zip ids answers)

abbrev pub deleted_text : List ℕ → List ℕ → List ℕ
deleted_text ids answers = flat_map deleted_field (zip ids answers)

abbrev pub altered_text : List ℕ → List ℕ → Answers → List ℕ
altered_text add delete answers = added_text add answers.added ++ deleted_text delete answers.deleted

-- by whose invocation
abbrev pub own_text : Bool → List ℕ
own_text true = codes "own"
own_text false = codes "peer"

-- why an end aborted
abbrev pub cause_text : Layer → ℕ → ℕ → List ℕ
cause_text layer place reason = layer_word layer ++ number_field place ++ number_field reason

abbrev pub aborted_text : Bool → Layer → ℕ → ℕ → List ℕ
aborted_text false layer place reason = codes "aborted peer"
aborted_text true layer place reason =
    codes "aborted own " ++ cause_text layer place reason

-- Values print by their types; that of a result by the operation of this end's own invocation, of which these are all that
-- were accepted.
abbrev pub indication_text : Tables → List ℕ → Indication → List ℕ
indication_text tables own shown.Opened = codes "opened"
indication_text tables own shown.AssociationRefused = codes "association refused"
indication_text tables own shown.Recovered = codes "recovered"
indication_text tables own shown.GivenUp = codes "given up"
indication_text tables own (shown.Invoked id operation linked argument) =
    codes "invoked " ++ signed_decimal id ++ codes " " ++ operation_name tables operation ++ field_by tables.types (argument_type tables operation) argument ++ linked_field linked
indication_text tables own (shown.Result id value) = codes "result " ++ signed_decimal id ++ field_by tables.types (result_type tables own id) value
indication_text tables own (shown.Error id error parameter) =
    codes "error " ++ signed_decimal id ++ codes " " ++ error_name tables error ++ field_by tables.types (parameter_type tables error) parameter
indication_text tables own (shown.Rejected id problem) = codes "rejected " ++ signed_decimal id ++ codes " " ++ problem_text problem
indication_text tables own (shown.RejectTaken id problem) = codes "reject taken " ++ id_text id ++ codes " " ++ problem_text problem
indication_text tables own (shown.RejectSent id problem) = codes "reject sent " ++ id_text id ++ codes " " ++ problem_text problem
indication_text tables own shown.BadReject = codes "bad reject"
indication_text tables own (shown.Cut is_own id) = codes "cut " ++ own_text is_own ++ codes " " ++ signed_decimal id
indication_text tables own (shown.AlterTaken add delete answers) = codes "alter taken" ++ altered_text add delete answers
indication_text tables own (shown.Altered add delete answers) = codes "altered" ++ altered_text add delete answers
indication_text tables own shown.AlterLost = codes "alter lost"
indication_text tables own (shown.Marked n) = codes "mark " ++ decimal n
indication_text tables own (shown.Restarted n) = codes "restarted " ++ decimal n
indication_text tables own shown.Turn = codes "turn"
indication_text tables own (shown.Asked priority) = codes "please " ++ decimal priority
indication_text tables own (shown.Transferred number) = codes "transferred " ++ decimal number
indication_text tables own (shown.Interrupted number) = codes "interrupted " ++ decimal number
indication_text tables own (shown.Resumed number n) = codes "resumed " ++ decimal number ++ codes " " ++ decimal n
indication_text tables own (shown.Discarded number) = codes "discarded " ++ decimal number
indication_text tables own shown.Released = codes "released"
indication_text tables own (shown.Aborted is_own layer place reason) = aborted_text is_own layer place reason
indication_text tables own (shown.RestoredListDiffers kept came) = codes "lists differ"
