-- At most 4,096 invocations of an end stay open, whatever is heard.
use Rattle.std.proofs.Common.{◌≡◌, ℕ, ℤ, ◌+◌, ◌≤◌, ◌<◌, Bool, true, false, not, ◌&&◌, cond, List, [], ◌∷◌, ◌++◌, length, map, Option, Some, None, is_some, refl, ap, ◌∙◌, arith, length-append}
use Rattle.std.specs.Prelude.{nat_le, filter}
use Rattle.std.proofs.lemmas.Bool.Decides.{nat_tests}
use Rattle.std.proofs.lemmas.List.Elements.{filter-append}
use Rattle.osi_base.specs.declared.layer_words.Problem.{Problem}
use Rattle.osi_base.specs.declared.layer_words.ProblemKind.TheVariants as problems
use Rattle.stub_tables.specs.declared.operation.Code.{Code}
use Rattle.stub_tables.specs.Lookup.{operation_with}
use Rattle.end_wire.specs.end_rules.Base.{Base, Carried, HeardHead, General, BadReject, InvokeHead, ResultHead, ErrorHead, RejectHead}
use Rattle.end_wire.specs.end_rules.State.{Calls, OpenCall, is_whose, is_key, opened_with, opens_of, orphaned, closed, close}
use Rattle.end_wire.specs.end_rules.Hearing.{Heard, first_problem, problem_if, unless_problem, rejected, is_silent_at, invoke_problem, invoked, hear_result_of, hear_error_of, showing_error, hear_reject, is_of_invocation, hear}

abbrev Within : Bool → Calls → Type 0
Within own calls = length (opens_of own calls.opens) ≤ 4096

-- ---- closing

same_side : (own which : Bool) (id : ℤ) (o : OpenCall) → is_whose own (orphaned which id o) ≡ is_whose own o
same_side own which id o = by_test _ o
  where
    by_test : (b : Bool) (o : OpenCall) → is_whose own (cond b (record o { parent = None }) o) ≡ is_whose own o
    by_test true o = refl
    by_test false o = refl

one_more : (b : Bool) (x y : OpenCall) (xs ys : List OpenCall) → length xs ≤ length ys → length (cond b (x ∷ xs) xs) ≤ length (cond b (y ∷ ys) ys)
one_more true x y xs ys le = omega arith
one_more false x y xs ys le = le

no_more : (b : Bool) (y : OpenCall) (xs ys : List OpenCall) → length xs ≤ length ys → length xs ≤ length (cond b (y ∷ ys) ys)
no_more true y xs ys le = omega arith
no_more false y xs ys le = le

fewer : (own which : Bool) (id : ℤ) (os : List OpenCall) → length (opens_of own (closed which id os)) ≤ length (opens_of own os)
fewer own which id [] = omega arith
fewer own which id (o ∷ os) = by_test (not (is_key which id o)) (fewer own which id os)
  where
    by_test : (b : Bool) → length (opens_of own (closed which id os)) ≤ length (opens_of own os)
        → length (filter (is_whose own) (map (orphaned which id) (cond b (o ∷ filter (λ (x : OpenCall). not (is_key which id x)) os) (filter (λ (x : OpenCall). not (is_key which id x)) os))))
        ≤ length (cond (is_whose own o) (o ∷ filter (is_whose own) os) (filter (is_whose own) os))
    by_test true le =
        rw (same_side own which id o) (one_more (is_whose own o) (orphaned which id o) o (opens_of own (closed which id os)) (opens_of own os) le)
    by_test false le = no_more (is_whose own o) o (opens_of own (closed which id os)) (opens_of own os) le

closed_within : (own which : Bool) (id : ℤ) (calls : Calls) → Within own calls → Within own (close which id calls)
closed_within own which id calls few = let le = fewer own which id calls.opens in omega arith

-- ---- opening

room_left : (dup full : Bool) (rest : Option ℕ) → first_problem (problem_if dup 0) (first_problem (problem_if full 3) rest) ≡ None → full ≡ false
room_left true full rest e = absurd (let wrong : Some 0 ≡ None = e in cc)
room_left false true rest e = absurd (let wrong : Some 3 ≡ None = e in cc)
room_left false false rest e = refl

appended : (own : Bool) (o : OpenCall) (os : List OpenCall) → o.own ≡ false → length (opens_of own os) ≤ 4096 → length (opens_of false os) < 4096 → length (opens_of own (os ++ o ∷ [])) ≤ 4096
appended true o os peer few room =
    rw (filter-append (is_whose true) os (o ∷ []), peer) (let i = length-append (opens_of true os) [] in omega arith)
appended false o os peer few room =
    let e : opens_of false (os ++ o ∷ []) ≡ opens_of false os ++ o ∷ [] = filter-append (is_whose false) os (o ∷ []) ∙ ap (λ (b : Bool). opens_of false os ++ cond (not b) (o ∷ []) []) peer in
    let i = length-append (opens_of false os) (o ∷ []) in rw e (omega arith)

not_full : (n : ℕ) (silent : Bool) → silent ≡ false → (nat_le 4096 n && not silent) ≡ false → n < 4096
not_full n true e f = absurd (let wrong : true ≡ false = e in cc)
not_full n false e f = by_test (nat_le 4096 n) refl f
  where
    by_test : (b : Bool) → nat_le 4096 n ≡ b → (b && true) ≡ false → n < 4096
    by_test true t f = absurd (let wrong : true ≡ false = f in cc)
    by_test false t f = grind (arith, nat_tests)

opening_within : (own : Bool) (base : Base) (calls : Calls) (o : OpenCall) (silent : Bool) → is_silent_at base (Some o.operation) ≡ silent → o.own ≡ false → Within own calls
    → (silent ≡ false → length (opens_of false calls.opens) < 4096) → Within own (cond silent calls (record calls { opens = calls.opens ++ o ∷ [] }))
opening_within own base calls o true s peer few room = few
opening_within own base calls o false s peer few room = appended own o calls.opens peer few (room refl)

unless_within : (own : Bool) (problem : Option ℕ) (refused : ℕ → Heard) (heard : Heard) → ((n : ℕ) → Within own (refused n).calls) → (problem ≡ None → Within own heard.calls) → Within own (unless_problem problem refused heard).calls
unless_within own None refused heard r h = h refl
unless_within own (Some n) refused heard r h = r n

module _ (own : Bool) (base : Base) (calls : Calls) (context : ℕ) (few : Within own calls) where
  invoked_within : (id : ℤ) (linked : Option ℤ) (place : Option ℕ) (argument : Carried) → invoke_problem base calls id linked place argument ≡ None → Within own (invoked base calls context id linked place argument).calls
  invoked_within id linked None argument e = few
  invoked_within id linked (Some place) argument e =
      let full = room_left (is_some (opened_with false id calls.opens)) (nat_le 4096 (length (opens_of false calls.opens)) && not (is_silent_at base (Some place))) _ e in
      opening_within own base calls (record { own = false; id = id; operation = place; context = context; parent = linked }) (is_silent_at base (Some place)) refl refl few
      (λ s. not_full (length (opens_of false calls.opens)) (is_silent_at base (Some place)) s full)

  result_within : (id : ℤ) (o : Option OpenCall) (code : Option Code) (value : Carried) → Within own (hear_result_of base calls id o code value).calls
  result_within id None code value = few
  result_within id (Some o) code value = unless_within own _ _ _ (λ n. closed_within own true id calls few) (λ e. closed_within own true id calls few)

  told_within : (id : ℤ) (place : Option ℕ) (parameter : Carried) → Within own (showing_error (close true id calls) id place parameter).calls
  told_within id None parameter = closed_within own true id calls few
  told_within id (Some place) parameter = closed_within own true id calls few

  error_within : (id : ℤ) (o : Option OpenCall) (place : Option ℕ) (parameter : Carried) → Within own (hear_error_of base calls id o place parameter).calls
  error_within id None place parameter = few
  error_within id (Some o) place parameter = unless_within own _ _ _ (λ n. closed_within own true id calls few) (λ e. told_within id place parameter)

  reject_within : (id : Option ℤ) (problem : Problem) → Within own (hear_reject calls id problem).calls
  reject_within None problem = few
  reject_within (Some id) problem = by_test (is_of_invocation problem.kind && is_some (opened_with true id calls.opens)) _ _ (closed_within own true id calls few) few
    where
      by_test : (b : Bool) (x y : Heard) → Within own x.calls → Within own y.calls → Within own (cond b x y).calls
      by_test true x y h k = h
      by_test false x y h k = k

  pub stays_within : (head : HeardHead) → Within own (hear base calls context head).calls
  stays_within (General number) = few
  stays_within BadReject = few
  stays_within (InvokeHead id linked code argument) =
      let place = operation_with base.tables code in
      unless_within own (invoke_problem base calls id linked place argument) (rejected calls (Some id) problems.Invoke) (invoked base calls context id linked place argument) (λ n. few) (λ e. invoked_within id linked place argument e)
  stays_within (ResultHead id code value) = result_within id _ code value
  stays_within (ErrorHead id code parameter) = error_within id _ _ parameter
  stays_within (RejectHead id problem) = reject_within id problem
