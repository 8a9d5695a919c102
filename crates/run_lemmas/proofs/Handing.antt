-- What calls hand in: invocations that are numbered, results and errors; and what is heard of an APDU that comes: it keeps the count of own
-- invocations, and tells of an invocation at most.
use Rattle.std.proofs.Common.{◌≡◌, refl, true, false, sym, subst, ℕ, List, [], ◌∷◌, ◌++◌, inl, inr, ◌⊎◌}
use Rattle.std.specs.Prelude.{ℤ, Bool, ◌&&◌, Option, Some, None, is_some, if◌then◌else◌}
use Rattle.std.proofs.lemmas.List.{append-nil}
use Rattle.asn1_types.specs.declared.value.Val.{Val}
use Rattle.osi_base.specs.declared.layer_words.Problem.{Problem}
use Rattle.end_rules.specs.Members.{IsIn}
use Rattle.stub_tables.specs.declared.tables.Tables.{Tables}
use Rattle.stub_tables.specs.declared.operation.Code.{Code}
use Rattle.stub_tables.specs.declared.operation.Operation.{Operation}
use Rattle.stub_tables.specs.declared.operation.ErrorRow.{ErrorRow}
use Rattle.stub_tables.specs.declared.apdu.Apdu.{Apdu}
use Rattle.stub_tables.specs.declared.apdu.Apdu.TheVariants as apdus
use Rattle.stub_tables.specs.Lookup.{operation_at, error_at, operation_with, error_with}
use Rattle.stub_tables.proofs.OwnCodes.{own_codes}
use Rattle.dialogue.specs.declared.indication.Indication.{Indication}
use Rattle.dialogue.specs.declared.indication.Indication.TheVariants as indications
use Rattle.end_rules.specs.Base.{Base, HeardHead, General, BadReject, InvokeHead, ResultHead, ErrorHead, RejectHead, Carried}
use Rattle.end_rules.specs.State.{OpenCall, Calls, opened_with, close}
use Rattle.end_rules.specs.Invoking.{result_apdu, error_apdu, returned_with}
use Rattle.end_rules.specs.Hearing.{Heard, showing, unless_problem, invoke_problem, invoked, with_opened, is_silent_at, result_problem, hear_result_of, error_problem, showing_error, hear_error_of, is_of_invocation, hear_reject, hear, head_of_apdu, carried_in, code_returned, value_returned}
use Rattle.end_rules.specs.Requesting.{result_for, error_for}
use Rattle.outcome_laws.specs.Outcomes.{value_of}
use Rattle.run_laws.specs.Outcomes.{Invocation, ToldOutcome, returned, failed}
use Rattle.association_runs.proofs.Telling.{invoked_ids}
use Rattle.association_runs.proofs.Noted.{in-behind, IsOurs, AreNoted, all-noted_on}
use Rattle.run_lemmas.proofs.Numbers.{apdu_invokes}

-- ---- outcomes that are handed in

returned-is : (code : Code) (value : Option Val) → value_of (returned_with code value) ≡ value
returned-is code None = refl
returned-is code (Some v) = refl

pub result-kind : (id : ℤ) (value : Option Val) (p : Option Operation) (apdu : Apdu) → result_for id value p ≡ Some apdu → apdu_invokes apdu ≡ []
result-kind id value None apdu e = cc
result-kind id value (Some row) apdu e = let same : result_apdu row id value ≡ apdu = cc in subst (λ (x : Apdu). apdu_invokes x ≡ []) same refl

pub result-ours : (tables : Tables) (id : ℤ) (value : Option Val) (p : Option Operation) (made : List Invocation) (given : List ToldOutcome) (apdu : Apdu) → result_for id value p ≡ Some apdu → IsOurs tables made (given ++ returned id value ∷ []) apdu
result-ours tables id value None made given apdu e = absurd cc
result-ours tables id value (Some row) made given apdu e =
    let same : result_apdu row id value ≡ apdu = cc in
    subst (IsOurs tables made (given ++ returned id value ∷ [])) same
    (subst (λ (v : Option Val). IsIn (returned id v) (given ++ returned id value ∷ [])) (sym (returned-is row.code value)) (in-behind given (returned id value ∷ []) (returned id value) (inl refl)))

pub error-kind : (id : ℤ) (parameter : Option Val) (r : Option ErrorRow) (apdu : Apdu) → error_for id parameter r ≡ Some apdu → apdu_invokes apdu ≡ []
error-kind id parameter None apdu e = cc
error-kind id parameter (Some error) apdu e = let same : error_apdu error id parameter ≡ apdu = cc in subst (λ (x : Apdu). apdu_invokes x ≡ []) same refl

pub error-ours : (tables : Tables) (id : ℤ) (place : ℕ) (parameter : Option Val) (r : Option ErrorRow) (made : List Invocation) (given : List ToldOutcome) (apdu : Apdu) → error_at tables place ≡ r → error_for id parameter r ≡ Some apdu → IsOurs tables made (given ++ failed id place parameter ∷ []) apdu
error-ours tables id place parameter None made given apdu f e = absurd cc
error-ours tables id place parameter (Some error) made given apdu f e =
    let same : error_apdu error id parameter ≡ apdu = cc in
    subst (IsOurs tables made (given ++ failed id place parameter ∷ [])) same
    (record { place = place; is_its = (own_codes tables).errors place error f; is_given = in-behind given (failed id place parameter ∷ []) (failed id place parameter) (inl refl) })

-- ---- what was noted stays so, as more is handed in

pub noted-own : (tables : Tables) (own more made : List Invocation) (given : List ToldOutcome) (shown : List Indication) → AreNoted tables own made given shown → AreNoted tables (own ++ more) made given shown
noted-own tables own more made given shown h =
    subst (λ (l : List Invocation). AreNoted tables (own ++ more) l given shown) (append-nil made)
    (subst (λ (l : List ToldOutcome). AreNoted tables (own ++ more) (made ++ []) l shown) (append-nil given) (all-noted_on tables own more made [] given [] shown h))

pub noted-peer : (tables : Tables) (own made more : List Invocation) (given later : List ToldOutcome) (shown : List Indication) → AreNoted tables own made given shown → AreNoted tables own (made ++ more) (given ++ later) shown
noted-peer tables own made more given later shown h =
    subst (λ (l : List Invocation). AreNoted tables l (made ++ more) (given ++ later) shown) (append-nil own) (all-noted_on tables own [] made more given later shown h)

-- ---- what is heard

-- an invocation that opens counts
pub opened-made : (base : Base) (o : OpenCall) (calls : Calls) → (with_opened base o calls).made ≡ calls.made
opened-made base o calls = go (is_silent_at base (Some o.operation))
  where
    go : (b : Bool) → (if b then calls else record calls { opens = calls.opens ++ o ∷ [] }).made ≡ calls.made
    go true = refl
    go false = refl

unless-made : (calls : Calls) (p : Option ℕ) (refused : ℕ → Heard) (heard : Heard) → ((n : ℕ) → (refused n).calls.made ≡ calls.made) → heard.calls.made ≡ calls.made → (unless_problem p refused heard).calls.made ≡ calls.made
unless-made calls None refused heard f h = h
unless-made calls (Some n) refused heard f h = f n

invoked-made : (base : Base) (calls : Calls) (context : ℕ) (id : ℤ) (linked : Option ℤ) (place : Option ℕ) (argument : Carried) → (invoked base calls context id linked place argument).calls.made ≡ calls.made
invoked-made base calls context id linked None argument = refl
invoked-made base calls context id linked (Some place) argument = opened-made base (record { own = false; id = id; operation = place; context = context; parent = linked }) calls

result-made : (base : Base) (calls : Calls) (id : ℤ) (o : Option OpenCall) (code : Option Code) (value : Carried) → (hear_result_of base calls id o code value).calls.made ≡ calls.made
result-made base calls id None code value = refl
result-made base calls id (Some o) code value = unless-made calls (result_problem base o.operation (operation_at base.tables o.operation) code value) _ _ (λ n. refl) refl

told-made : (calls : Calls) (id : ℤ) (place : Option ℕ) (parameter : Carried) → (showing_error calls id place parameter).calls.made ≡ calls.made
told-made calls id None parameter = refl
told-made calls id (Some place) parameter = refl

error-made : (base : Base) (calls : Calls) (id : ℤ) (o : Option OpenCall) (place : Option ℕ) (parameter : Carried) → (hear_error_of base calls id o place parameter).calls.made ≡ calls.made
error-made base calls id None place parameter = refl
error-made base calls id (Some o) place parameter = unless-made calls (error_problem base (operation_at base.tables o.operation) place parameter) _ _ (λ n. refl) (told-made (close true id calls) id place parameter)

reject-made : (calls : Calls) (id : Option ℤ) (problem : Problem) → (hear_reject calls id problem).calls.made ≡ calls.made
reject-made calls None problem = refl
reject-made calls (Some id) problem = go (is_of_invocation problem.kind && is_some (opened_with true id calls.opens))
  where
    go : (b : Bool) → (if b then showing (close true id calls) (indications.Rejected id problem) else showing calls (indications.RejectTaken (Some id) problem)).calls.made ≡ calls.made
    go true = refl
    go false = refl

pub hear-made : (base : Base) (calls : Calls) (context : ℕ) (head : HeardHead) → (hear base calls context head).calls.made ≡ calls.made
hear-made base calls context (General number) = refl
hear-made base calls context BadReject = refl
hear-made base calls context (InvokeHead id linked code argument) =
    unless-made calls (invoke_problem base calls id linked (operation_with base.tables code) argument) _ _ (λ n. refl) (invoked-made base calls context id linked (operation_with base.tables code) argument)
hear-made base calls context (ResultHead id code value) = result-made base calls id (opened_with true id calls.opens) code value
hear-made base calls context (ErrorHead id code parameter) = error-made base calls id (opened_with true id calls.opens) (error_with base.tables code) parameter
hear-made base calls context (RejectHead id problem) = reject-made calls id problem

abbrev pub IsOneOf : List ℤ → List ℤ → Type 0
IsOneOf xs ys = (xs ≡ []) ⊎ (xs ≡ ys)

unless-ids : (ys : List ℤ) (p : Option ℕ) (refused : ℕ → Heard) (heard : Heard) → ((n : ℕ) → invoked_ids (refused n).shown ≡ []) → IsOneOf (invoked_ids heard.shown) ys → IsOneOf (invoked_ids (unless_problem p refused heard).shown) ys
unless-ids ys None refused heard f h = h
unless-ids ys (Some n) refused heard f h = inl (f n)

pub hear-ids : (base : Base) (calls : Calls) (context : ℕ) (apdu : Apdu) → IsOneOf (invoked_ids (hear base calls context (head_of_apdu apdu)).shown) (apdu_invokes apdu)
hear-ids base calls context (apdus.Invoke id linked code argument) =
    unless-ids (id ∷ []) (invoke_problem base calls id linked (operation_with base.tables code) (carried_in argument)) _ _ (λ n. refl) (go (operation_with base.tables code))
  where
    go : (place : Option ℕ) → IsOneOf (invoked_ids (invoked base calls context id linked place (carried_in argument)).shown) (id ∷ [])
    go None = inl refl
    go (Some place) = inr refl
hear-ids base calls context (apdus.Result id value) = go (opened_with true id calls.opens)
  where
    go : (o : Option OpenCall) → IsOneOf (invoked_ids (hear_result_of base calls id o (code_returned value) (value_returned value)).shown) []
    go None = inl refl
    go (Some o) = unless-ids [] (result_problem base o.operation (operation_at base.tables o.operation) (code_returned value) (value_returned value)) _ _ (λ n. refl) (inl refl)
hear-ids base calls context (apdus.Error id code parameter) = go (opened_with true id calls.opens)
  where
    by-place : (place : Option ℕ) → IsOneOf (invoked_ids (showing_error (close true id calls) id place (carried_in parameter)).shown) []
    by-place None = inl refl
    by-place (Some place) = inl refl

    go : (o : Option OpenCall) → IsOneOf (invoked_ids (hear_error_of base calls id o (error_with base.tables code) (carried_in parameter)).shown) []
    go None = inl refl
    go (Some o) = unless-ids [] (error_problem base (operation_at base.tables o.operation) (error_with base.tables code) (carried_in parameter)) _ _ (λ n. refl) (by-place (error_with base.tables code))
hear-ids base calls context (apdus.Reject None problem) = inl refl
hear-ids base calls context (apdus.Reject (Some id) problem) = go (is_of_invocation problem.kind && is_some (opened_with true id calls.opens))
  where
    go : (b : Bool) → IsOneOf (invoked_ids (if b then showing (close true id calls) (indications.Rejected id problem) else showing calls (indications.RejectTaken (Some id) problem)).shown) []
    go true = inl refl
    go false = inl refl
