-- The reject that an APDU brings names the invocation of the APDU, and has a problem of X.880.
use Rattle.std.proofs.Common.{◌≡◌, refl, true, false, arith, ℕ, ◌≤◌}
use Rattle.std.specs.Prelude.{ℤ, Bool, not, ◌&&◌, Option, Some, None, is_some, nat_le, length, if◌then◌else◌}
use Rattle.osi_base.specs.declared.layer_words.Problem.{Problem}
use Rattle.osi_base.specs.declared.layer_words.ProblemKind.{ProblemKind}
use Rattle.osi_base.specs.declared.layer_words.ProblemKind.TheVariants as problems
use Rattle.osi_base.specs.Limits.{most_open}
use Rattle.stub_tables.specs.declared.operation.Code.{Code}
use Rattle.stub_tables.specs.declared.operation.Operation.{Operation}
use Rattle.stub_tables.specs.declared.operation.ErrorRow.{ErrorRow}
use Rattle.stub_tables.specs.declared.apdu.Apdu.{Apdu}
use Rattle.stub_tables.specs.declared.apdu.Apdu.TheVariants as apdus
use Rattle.stub_tables.specs.Codes.{is_error_of}
use Rattle.stub_tables.specs.Lookup.{operation_at, operation_with, error_at, error_with}
use Rattle.end_model.specs.end_rules.Base.{Base, Carried}
use Rattle.end_model.specs.end_rules.State.{Calls, OpenCall, opened_with, opens_of, is_empty, close}
use Rattle.end_model.specs.end_rules.Invoking.{is_linked_to, operation_of}
use Rattle.end_model.specs.end_rules.Hearing.{Heard, Rejecting, reject_apdu, rejected, showing, unless_problem, first_problem, problem_if, problem_with, is_silent_at, has_links, is_right, is_right_result, link_problem, argument_problem, operation_problem, invoke_problem, invoked, result_problem, known_error_problem, error_problem, showing_error, hear_result_of, hear_error_of, hear_reject, is_of_invocation, hear, head_of_apdu, value_in, carried_in, code_returned, value_returned}
use Rattle.dialogue.specs.declared.indication.Indication.TheVariants as indications
use Rattle.end_model.specs.OpenInvocations.{IsNumber, IsProper}
use Rattle.reliable_model.specs.Codecs.{IsTransferable}

abbrev pub IsRight : Base → Option Rejecting → Type 0
IsRight base None = Unit {0}
IsRight base (Some r) = IsTransferable base (reject_apdu r)

abbrev IsSmall : Option ℕ → Type 0
IsSmall None = Unit {0}
IsSmall (Some n) = n ≤ 7

if-small : (b : Bool) (n : ℕ) → n ≤ 7 → IsSmall (problem_if b n)
if-small true n h = h
if-small false n h = tt

first-small : (x y : Option ℕ) → IsSmall x → IsSmall y → IsSmall (first_problem x y)
first-small None y h k = k
first-small (Some n) y h k = h

module _ (base : Base) where
  right : (id : ℤ) (kind : ProblemKind) (n : ℕ) → IsNumber id → n ≤ 7 → IsTransferable base (apdus.Reject (Some id) (problem_with kind n))
  right id kind n i h = record { proper = (i, tt); short = h }

  unless-right : (p : Option ℕ) (calls : Calls) (id : ℤ) (kind : ProblemKind) (heard : Heard) → IsNumber id → IsSmall p → IsRight base heard.reject → IsRight base (unless_problem p (rejected calls (Some id) kind) heard).reject
  unless-right None calls id kind heard i s h = h
  unless-right (Some n) calls id kind heard i s h = right id kind n i s

  -- ---- invocations

  link-small : (calls : Calls) (place : ℕ) (linked : Option ℤ) → IsSmall (link_problem base calls place linked)
  link-small calls place None = tt
  link-small calls place (Some linked) =
      first-small (problem_if (not (is_some (opened_with true linked calls.opens))) 5) _ (if-small (not (is_some (opened_with true linked calls.opens))) 5 (omega arith))
      (first-small (problem_if (not (has_links (operation_of base (opened_with true linked calls.opens)))) 6) _ (if-small (not (has_links (operation_of base (opened_with true linked calls.opens)))) 6 (omega arith))
      (if-small (not (is_linked_to (operation_of base (opened_with true linked calls.opens)) place)) 7 (omega arith)))

  argument-small : (o : Option Operation) (argument : Carried) → IsSmall (argument_problem base o argument)
  argument-small None argument = omega arith
  argument-small (Some operation) argument = if-small (not (is_right base operation.argument argument)) 2 (omega arith)

  operation-small : (calls : Calls) (place : Option ℕ) (linked : Option ℤ) (argument : Carried) → IsSmall (operation_problem base calls place linked argument)
  operation-small calls None linked argument = omega arith
  operation-small calls (Some place) linked argument =
      first-small (link_problem base calls place linked) (argument_problem base (operation_at base.tables place) argument) (link-small calls place linked) (argument-small (operation_at base.tables place) argument)

  invoke-small : (calls : Calls) (id : ℤ) (linked : Option ℤ) (place : Option ℕ) (argument : Carried) → IsSmall (invoke_problem base calls id linked place argument)
  invoke-small calls id linked place argument =
      first-small (problem_if (is_some (opened_with false id calls.opens)) 0) _ (if-small (is_some (opened_with false id calls.opens)) 0 (omega arith))
      (first-small (problem_if (nat_le most_open (length (opens_of false calls.opens)) && not (is_silent_at base place)) 3) _ (if-small (nat_le most_open (length (opens_of false calls.opens)) && not (is_silent_at base place)) 3 (omega arith))
      (operation-small calls place linked argument))

  invoked-right : (calls : Calls) (context : ℕ) (id : ℤ) (linked : Option ℤ) (place : Option ℕ) (argument : Carried) → IsNumber id → IsRight base (invoked base calls context id linked place argument).reject
  invoked-right calls context id linked None argument i = right id problems.Invoke 1 i (omega arith)
  invoked-right calls context id linked (Some place) argument i = tt

  -- ---- outcomes

  result-small : (place : ℕ) (o : Option Operation) (code : Option Code) (value : Carried) → IsSmall (result_problem base place o code value)
  result-small place None code value = omega arith
  result-small place (Some operation) code value =
      first-small (problem_if (not operation.returns) 1) _ (if-small (not operation.returns) 1 (omega arith)) (if-small (not (is_right_result base place operation code value)) 2 (omega arith))

  result-right : (calls : Calls) (id : ℤ) (o : Option OpenCall) (code : Option Code) (value : Carried) → IsNumber id → IsRight base (hear_result_of base calls id o code value).reject
  result-right calls id None code value i = right id problems.Result 0 i (omega arith)
  result-right calls id (Some o) code value i =
      unless-right (result_problem base o.operation (operation_at base.tables o.operation) code value) (close true id calls) id problems.Result
      (showing (close true id calls) (indications.Result id (value_in value))) i (result-small o.operation (operation_at base.tables o.operation) code value) tt

  known-small : (operation : Operation) (place : Option ℕ) (parameter : Carried) → IsSmall (known_error_problem base operation place parameter)
  known-small operation None parameter = omega arith
  known-small operation (Some place) parameter = go (error_at base.tables place) refl
    where
      go : (e : Option ErrorRow) → error_at base.tables place ≡ e → IsSmall (known_error_problem base operation (Some place) parameter)
      go None q = rw q (first-small (problem_if (not (is_error_of operation place)) 3) (Some 4) (if-small (not (is_error_of operation place)) 3 (omega arith)) (omega arith))
      go (Some error) q =
          rw q (first-small (problem_if (not (is_error_of operation place)) 3) (problem_if (not (is_right base error.parameter parameter)) 4)
          (if-small (not (is_error_of operation place)) 3 (omega arith)) (if-small (not (is_right base error.parameter parameter)) 4 (omega arith)))

  error-small : (o : Option Operation) (place : Option ℕ) (parameter : Carried) → IsSmall (error_problem base o place parameter)
  error-small None place parameter = omega arith
  error-small (Some operation) place parameter =
      first-small (problem_if (is_empty operation.errors) 1) (known_error_problem base operation place parameter) (if-small (is_empty operation.errors) 1 (omega arith)) (known-small operation place parameter)

  told-right : (calls : Calls) (id : ℤ) (place : Option ℕ) (parameter : Carried) → IsNumber id → IsRight base (showing_error calls id place parameter).reject
  told-right calls id None parameter i = right id problems.Error 2 i (omega arith)
  told-right calls id (Some place) parameter i = tt

  error-right : (calls : Calls) (id : ℤ) (o : Option OpenCall) (place : Option ℕ) (parameter : Carried) → IsNumber id → IsRight base (hear_error_of base calls id o place parameter).reject
  error-right calls id None place parameter i = right id problems.Error 0 i (omega arith)
  error-right calls id (Some o) place parameter i =
      unless-right (error_problem base (operation_at base.tables o.operation) place parameter) (close true id calls) id problems.Error
      (showing_error (close true id calls) id place parameter) i (error-small (operation_at base.tables o.operation) place parameter) (told-right (close true id calls) id place parameter i)

  -- ---- rejects bring none

  reject-right : (calls : Calls) (id : Option ℤ) (problem : Problem) → IsRight base (hear_reject calls id problem).reject
  reject-right calls None problem = tt
  reject-right calls (Some id) problem = go (is_of_invocation problem.kind && is_some (opened_with true id calls.opens))
    where
      go : (b : Bool) → IsRight base (if b then showing (close true id calls) (indications.Rejected id problem) else showing calls (indications.RejectTaken (Some id) problem)).reject
      go true = tt
      go false = tt

  pub heard-right : (calls : Calls) (context : ℕ) (apdu : Apdu) → IsProper base apdu → IsRight base (hear base calls context (head_of_apdu apdu)).reject
  heard-right calls context (apdus.Invoke id linked code argument) h =
      unless-right (invoke_problem base calls id linked (operation_with base.tables code) (carried_in argument)) calls id problems.Invoke
      (invoked base calls context id linked (operation_with base.tables code) (carried_in argument)) h.0
      (invoke-small calls id linked (operation_with base.tables code) (carried_in argument)) (invoked-right calls context id linked (operation_with base.tables code) (carried_in argument) h.0)
  heard-right calls context (apdus.Result id returned) h = result-right calls id (opened_with true id calls.opens) (code_returned returned) (value_returned returned) h.0
  heard-right calls context (apdus.Error id code parameter) h = error-right calls id (opened_with true id calls.opens) (error_with base.tables code) (carried_in parameter) h.0
  heard-right calls context (apdus.Reject id problem) h = reject-right calls id problem
