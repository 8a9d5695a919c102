-- What is heard without a problem might be taken: an invocation opens, and an outcome closes its own.
use Rattle.std.proofs.Common.{◌≡◌, refl, true, false, ◌∙◌, sym, ap, subst, arith, ℕ, length}
use Rattle.std.specs.Prelude.{ℤ, Bool, not, ◌&&◌, ◌||◌, nat_lt, nat_le, is_some, Option, Some, None}
use Rattle.std.proofs.lemmas.Bool.Decides.{nat_tests}
use Rattle.osi_base.specs.declared.layer_words.Problem.{Problem}
use Rattle.osi_base.specs.declared.layer_words.ProblemKind.{ProblemKind}
use Rattle.osi_base.specs.declared.layer_words.ProblemKind.TheVariants as problems
use Rattle.asn1_types.specs.declared.value.Val.{Val}
use Rattle.stub_tables.specs.declared.tables.Tables.{Tables}
use Rattle.stub_tables.specs.declared.operation.Use.{Use}
use Rattle.stub_tables.specs.declared.operation.Operation.{Operation}
use Rattle.stub_tables.specs.declared.operation.ErrorRow.{ErrorRow}
use Rattle.stub_tables.specs.declared.apdu.Apdu.{Apdu}
use Rattle.stub_tables.specs.declared.apdu.Apdu.TheVariants as apdus
use Rattle.stub_tables.specs.declared.apdu.Returned.{Returned}
use Rattle.stub_tables.specs.Codes.{is_silent, is_error_of}
use Rattle.stub_tables.specs.Lookup.{operation_at, error_at, operation_with, error_with}
use Rattle.stub_tables.specs.Uses.{is_carried}
use Rattle.dialogue.specs.declared.indication.Indication.TheVariants as indications
use Rattle.end_rules.specs.Base.{Base, Carried}
use Rattle.end_rules.specs.State.{OpenCall, Calls, is_empty, opened_with, opens_of, close}
use Rattle.end_rules.specs.Invoking.{is_linked_to, operation_of}
use Rattle.end_rules.specs.Hearing.{Heard, rejected, showing, unless_problem, first_problem, problem_if, is_right, value_in, carried_in, code_returned, value_returned, head_of_apdu, hear}
use Rattle.end_rules.specs.Hearing.{is_silent_at, has_links, link_problem, argument_problem, invoke_problem, with_opened, invoked, is_place, result_problem, hear_result_of, known_error_problem, error_problem, showing_error, hear_error_of}
use Rattle.run_laws.specs.Outcomes.{has_result, takes_parameter, has_error}
use Rattle.bare_duo.specs.Allowed.{operation_in, may_link, may_be_invoked, may_invoke, may_return, may_result, may_error, may_take_apdu}

-- ---- problems that there aren't

if-none : (b : Bool) (n : ℕ) → problem_if b n ≡ None → b ≡ false
if-none true n h = absurd cc
if-none false n h = refl

first-none : (x rest : Option ℕ) → first_problem x rest ≡ None → (x ≡ None) × (rest ≡ None)
first-none None rest h = (refl, h)
first-none (Some n) rest h = absurd cc

no-problem : (n : ℕ) → Some n ≡ None → ⊥
no-problem n e = cc

not-none : (b : Bool) (n : ℕ) → problem_if (not b) n ≡ None → b ≡ true
not-none true n h = refl
not-none false n h = absurd cc

-- what was heard without a problem was no reject
pub record Unless (p : Option ℕ) (heard all : Heard) : Type 0 where
  pub fine : p ≡ None
  pub is_it : all ≡ heard

unless : (p : Option ℕ) (calls : Calls) (id : Option ℤ) (kind : ProblemKind) (heard : Heard) → (unless_problem p (rejected calls id kind) heard).reject ≡ None → Unless p heard (unless_problem p (rejected calls id kind) heard)
unless None calls id kind heard h = record { fine = refl; is_it = refl }
unless (Some n) calls id kind heard h = absurd cc

right-is : (base : Base) (use_ : Use) (v : Option Val) → is_right base use_ (carried_in v) ≡ is_carried base.tables.types use_ v
right-is base use_ None = refl
right-is base use_ (Some v) = refl

two-true : (a b : Bool) → a ≡ true → b ≡ true → (a && b) ≡ true
two-true true b e f = f
two-true false b e f = absurd cc

and-first : (a b : Bool) → (a && b) ≡ true → a ≡ true
and-first true b e = refl
and-first false b e = absurd cc

and-second : (a b : Bool) → (a && b) ≡ true → b ≡ true
and-second true b e = e
and-second false b e = absurd cc

-- ---- an invocation

-- what opens
pub record Opens (base : Base) (calls : Calls) (context : ℕ) (id : ℤ) (linked : Option ℤ) (place : Option ℕ) (argument : Option Val) (heard : Heard) : Type 0 where
  pub at : ℕ
  pub is_at : place ≡ Some at
  pub allowed : may_invoke base.tables calls id linked place argument ≡ true
  pub calls_are : heard.calls ≡ with_opened base (record { own = false; id = id; operation = at; context = context; parent = linked }) calls

room : (silent : Bool) (n : ℕ) → (nat_le 4096 n && not silent) ≡ false → (silent || nat_lt n 4096) ≡ true
room true n h = refl
room false n h = few n (all (nat_le 4096 n) h)
  where
    all : (b : Bool) → (b && true) ≡ false → b ≡ false
    all true e = absurd cc
    all false e = refl

    few : (n : ℕ) → nat_le 4096 n ≡ false → nat_lt n 4096 ≡ true
    few n e = grind (arith, nat_tests)

silent-at : (base : Base) (place : ℕ) (operation : Operation) → operation_at base.tables place ≡ Some operation → is_silent_at base (Some place) ≡ is_silent operation
silent-at base place operation e = rw e refl

same-operation : (base : Base) (o : Option OpenCall) → operation_of base o ≡ operation_in base.tables o
same-operation base None = refl
same-operation base (Some o) = refl

linkable : (base : Base) (calls : Calls) (place : ℕ) (linked : Option ℤ) → link_problem base calls place linked ≡ None → may_link base.tables calls place linked ≡ true
linkable base calls place None h = refl
linkable base calls place (Some linked) h =
    let o : Option OpenCall = opened_with true linked calls.opens in
    let a = first-none (problem_if (not (is_some o)) 5) _ h in
    let b = first-none (problem_if (not (has_links (operation_of base o))) 6) (problem_if (not (is_linked_to (operation_of base o) place)) 7) a.1 in
    ap (λ (p : Option Operation). is_linked_to p place) (sym (same-operation base o)) ∙ not-none (is_linked_to (operation_of base o) place) 7 b.1

argument-fits : (base : Base) (calls : Calls) (place : ℕ) (o : Option Operation) (argument : Option Val) → operation_at base.tables place ≡ o → argument_problem base o (carried_in argument) ≡ None
    → (nat_le 4096 (length (opens_of false calls.opens)) && not (is_silent_at base (Some place))) ≡ false → may_be_invoked base.tables calls o argument ≡ true
argument-fits base calls place None argument e h r = absurd cc
argument-fits base calls place (Some operation) argument e h r =
    two-true (is_silent operation || nat_lt (length (opens_of false calls.opens)) 4096) (is_carried base.tables.types operation.argument argument)
    (room (is_silent operation) (length (opens_of false calls.opens)) (ap (λ (b : Bool). nat_le 4096 (length (opens_of false calls.opens)) && not b) (sym (silent-at base place operation e)) ∙ r))
    (sym (right-is base operation.argument argument) ∙ not-none (is_right base operation.argument (carried_in argument)) 2 h)

free : (b : Bool) → b ≡ false → not b ≡ true
free false e = refl
free true e = absurd cc

opens-at : (base : Base) (calls : Calls) (context : ℕ) (id : ℤ) (linked : Option ℤ) (place : ℕ) (argument : Option Val) → invoke_problem base calls id linked (Some place) (carried_in argument) ≡ None
    → Opens base calls context id linked (Some place) argument (invoked base calls context id linked (Some place) (carried_in argument))
opens-at base calls context id linked place argument h =
    let a = first-none (problem_if (is_some (opened_with false id calls.opens)) 0) _ h in
    let b = first-none (problem_if (nat_le 4096 (length (opens_of false calls.opens)) && not (is_silent_at base (Some place))) 3) _ a.1 in
    let c = first-none (link_problem base calls place linked) (argument_problem base (operation_at base.tables place) (carried_in argument)) b.1 in
    record {
      at = place;
      is_at = refl;
      allowed = two-true (not (is_some (opened_with false id calls.opens))) _ (free (is_some (opened_with false id calls.opens)) (if-none (is_some (opened_with false id calls.opens)) 0 a.0))
          (two-true (may_be_invoked base.tables calls (operation_at base.tables place) argument) (may_link base.tables calls place linked)
          (argument-fits base calls place (operation_at base.tables place) argument refl c.1 (if-none (nat_le 4096 (length (opens_of false calls.opens)) && not (is_silent_at base (Some place))) 3 b.0))
          (linkable base calls place linked c.0));
      calls_are = refl;
    }

opens-so : (base : Base) (calls : Calls) (context : ℕ) (id : ℤ) (linked : Option ℤ) (place : Option ℕ) (argument : Option Val) → invoke_problem base calls id linked place (carried_in argument) ≡ None
    → (invoked base calls context id linked place (carried_in argument)).reject ≡ None → Opens base calls context id linked place argument (invoked base calls context id linked place (carried_in argument))
opens-so base calls context id linked None argument h k = absurd cc
opens-so base calls context id linked (Some place) argument h k = opens-at base calls context id linked place argument h

-- ---- an outcome

-- what closes
pub record Closes (tables : Tables) (calls : Calls) (id : ℤ) (allows : Operation → Bool) (heard : Heard) : Type 0 where
  pub invocation : OpenCall
  pub operation : Operation
  pub is_open : opened_with true id calls.opens ≡ Some invocation
  pub is_there : operation_at tables invocation.operation ≡ Some operation
  pub has_it : allows operation ≡ true
  pub calls_are : heard.calls ≡ close true id calls

-- a result, of the operation at this place
pub record Returns (tables : Tables) (place : ℕ) (o : Option Operation) (returned : Option Returned) (value : Option Val) : Type 0 where
  pub operation : Operation
  pub is_there : o ≡ Some operation
  pub has_it : has_result tables operation value ≡ true
  pub allowed : may_return tables place o returned ≡ true

returns-so : (base : Base) (place : ℕ) (o : Option Operation) (returned : Option Returned) → result_problem base place o (code_returned returned) (value_returned returned) ≡ None
    → Returns base.tables place o returned (value_in (value_returned returned))
returns-so base place None returned h = absurd cc
returns-so base place (Some operation) None h =
    let a = first-none (problem_if (not operation.returns) 1) (problem_if (not (is_carried base.tables.types operation.result None)) 2) h in
    let has = two-true operation.returns (is_carried base.tables.types operation.result None) (not-none operation.returns 1 a.0) (not-none (is_carried base.tables.types operation.result None) 2 a.1) in
    record { operation = operation; is_there = refl; has_it = has; allowed = has }
returns-so base place (Some operation) (Some r) h =
    let a = first-none (problem_if (not operation.returns) 1) (problem_if (not (is_place (operation_with base.tables r.code) place && is_carried base.tables.types operation.result (Some r.value))) 2) h in
    let both = not-none (is_place (operation_with base.tables r.code) place && is_carried base.tables.types operation.result (Some r.value)) 2 a.1 in
    let has = two-true operation.returns (is_carried base.tables.types operation.result (Some r.value)) (not-none operation.returns 1 a.0) (and-second (is_place (operation_with base.tables r.code) place) (is_carried base.tables.types operation.result (Some r.value)) both) in
    record {
      operation = operation;
      is_there = refl;
      has_it = has;
      allowed = two-true (is_place (operation_with base.tables r.code) place) (has_result base.tables operation (Some r.value)) (and-first (is_place (operation_with base.tables r.code) place) (is_carried base.tables.types operation.result (Some r.value)) both) has;
    }

-- a result that was heard
pub record Resulted (base : Base) (calls : Calls) (id : ℤ) (returned : Option Returned) (heard : Heard) : Type 0 where
  pub allowed : may_result base.tables (opened_with true id calls.opens) returned ≡ true
  pub closes : Closes base.tables calls id (λ operation. has_result base.tables operation (value_in (value_returned returned))) heard

resulted : (base : Base) (calls : Calls) (id : ℤ) (o : Option OpenCall) (returned : Option Returned) → opened_with true id calls.opens ≡ o
    → (hear_result_of base calls id o (code_returned returned) (value_returned returned)).reject ≡ None
    → Resulted base calls id returned (hear_result_of base calls id o (code_returned returned) (value_returned returned))
resulted base calls id None returned e h = absurd cc
resulted base calls id (Some o) returned e h =
    let p : Option ℕ = result_problem base o.operation (operation_at base.tables o.operation) (code_returned returned) (value_returned returned) in
    let u = unless p (close true id calls) (Some id) problems.Result (showing (close true id calls) (indications.Result id (value_in (value_returned returned)))) h in
    let r = returns-so base o.operation (operation_at base.tables o.operation) returned u.fine in
    record {
      allowed = ap (λ (x : Option OpenCall). may_result base.tables x returned) e ∙ r.allowed;
      closes = record { invocation = o; operation = r.operation; is_open = e; is_there = r.is_there; has_it = r.has_it; calls_are = ap (λ (x : Heard). x.calls) u.is_it };
    }

-- an error of the operation
error-known : (base : Base) (operation : Operation) (place : ℕ) (parameter : Option Val) (row : Option ErrorRow) → error_at base.tables place ≡ row
    → known_error_problem base operation (Some place) (carried_in parameter) ≡ None → has_error base.tables operation place parameter ≡ true
error-known base operation place parameter None e h =
    let k : first_problem (problem_if (not (is_error_of operation place)) 3) (Some 4) ≡ None = rw e at h in
    let both = first-none (problem_if (not (is_error_of operation place)) 3) (Some 4) k in
    absurd (no-problem 4 both.1)
error-known base operation place parameter (Some row) e h =
    let k : first_problem (problem_if (not (is_error_of operation place)) 3) (problem_if (not (is_right base row.parameter (carried_in parameter))) 4) ≡ None = rw e at h in
    let both = first-none (problem_if (not (is_error_of operation place)) 3) (problem_if (not (is_right base row.parameter (carried_in parameter))) 4) k in
    two-true (is_error_of operation place) (takes_parameter base.tables (error_at base.tables place) parameter) (not-none (is_error_of operation place) 3 both.0)
    (ap (λ (x : Option ErrorRow). takes_parameter base.tables x parameter) e ∙ sym (right-is base row.parameter parameter) ∙ not-none (is_right base row.parameter (carried_in parameter)) 4 both.1)

pub record HasError (base : Base) (o : Option Operation) (place : Option ℕ) (parameter : Option Val) : Type 0 where
  pub operation : Operation
  pub at : ℕ
  pub is_there : o ≡ Some operation
  pub is_at : place ≡ Some at
  pub has_it : has_error base.tables operation at parameter ≡ true

fails-so : (base : Base) (o : Option Operation) (place : Option ℕ) (parameter : Option Val) → error_problem base o place (carried_in parameter) ≡ None → HasError base o place parameter
fails-so base None place parameter h = absurd cc
fails-so base (Some operation) None parameter h =
    let a = first-none (problem_if (is_empty operation.errors) 1) (Some 2) h in
    absurd (no-problem 2 a.1)
fails-so base (Some operation) (Some place) parameter h =
    let a = first-none (problem_if (is_empty operation.errors) 1) (known_error_problem base operation (Some place) (carried_in parameter)) h in
    record { operation = operation; at = place; is_there = refl; is_at = refl; has_it = error-known base operation place parameter (error_at base.tables place) refl a.1 }

pub record Failed (base : Base) (calls : Calls) (id : ℤ) (place : Option ℕ) (parameter : Option Val) (heard : Heard) : Type 0 where
  pub at : ℕ
  pub is_at : place ≡ Some at
  pub allowed : may_error base.tables (operation_in base.tables (opened_with true id calls.opens)) place parameter ≡ true
  pub closes : Closes base.tables calls id (λ operation. has_error base.tables operation at parameter) heard

told-calls : (calls : Calls) (id : ℤ) (place : Option ℕ) (carried : Carried) → (showing_error calls id place carried).calls ≡ calls
told-calls calls id None carried = refl
told-calls calls id (Some place) carried = refl

failed : (base : Base) (calls : Calls) (id : ℤ) (o : Option OpenCall) (place : Option ℕ) (parameter : Option Val) → opened_with true id calls.opens ≡ o
    → (hear_error_of base calls id o place (carried_in parameter)).reject ≡ None → Failed base calls id place parameter (hear_error_of base calls id o place (carried_in parameter))
failed base calls id None place parameter e h = absurd cc
failed base calls id (Some o) place parameter e h =
    let p : Option ℕ = error_problem base (operation_at base.tables o.operation) place (carried_in parameter) in
    let u = unless p (close true id calls) (Some id) problems.Error (showing_error (close true id calls) id place (carried_in parameter)) h in
    let f = fails-so base (operation_at base.tables o.operation) place parameter u.fine in
    record {
      at = f.at;
      is_at = f.is_at;
      allowed = ap (λ (x : Option OpenCall). may_error base.tables (operation_in base.tables x) place parameter) e
          ∙ (λ i. may_error base.tables (f.is_there i) (f.is_at i) parameter) ∙ f.has_it;
      closes = record { invocation = o; operation = f.operation; is_open = e; is_there = f.is_there; has_it = f.has_it; calls_are = ap (λ (x : Heard). x.calls) u.is_it ∙ told-calls (close true id calls) id place (carried_in parameter) };
    }

-- ---- an APDU

pub opens_of_invoke : (base : Base) (calls : Calls) (context : ℕ) (id : ℤ) (linked : Option ℤ) (place : Option ℕ) (argument : Option Val)
    → (unless_problem (invoke_problem base calls id linked place (carried_in argument)) (rejected calls (Some id) problems.Invoke) (invoked base calls context id linked place (carried_in argument))).reject ≡ None
    → Opens base calls context id linked place argument (unless_problem (invoke_problem base calls id linked place (carried_in argument)) (rejected calls (Some id) problems.Invoke) (invoked base calls context id linked place (carried_in argument)))
opens_of_invoke base calls context id linked place argument h =
    let u = unless (invoke_problem base calls id linked place (carried_in argument)) calls (Some id) problems.Invoke (invoked base calls context id linked place (carried_in argument)) h in
    subst (λ (x : Heard). Opens base calls context id linked place argument x) (sym u.is_it)
    (opens-so base calls context id linked place argument u.fine (ap (λ (x : Heard). x.reject) (sym u.is_it) ∙ h))

pub closes_of_result : (base : Base) (calls : Calls) (id : ℤ) (returned : Option Returned)
    → (hear_result_of base calls id (opened_with true id calls.opens) (code_returned returned) (value_returned returned)).reject ≡ None
    → Resulted base calls id returned (hear_result_of base calls id (opened_with true id calls.opens) (code_returned returned) (value_returned returned))
closes_of_result base calls id returned h = resulted base calls id (opened_with true id calls.opens) returned refl h

pub closes_of_error : (base : Base) (calls : Calls) (id : ℤ) (place : Option ℕ) (parameter : Option Val)
    → (hear_error_of base calls id (opened_with true id calls.opens) place (carried_in parameter)).reject ≡ None
    → Failed base calls id place parameter (hear_error_of base calls id (opened_with true id calls.opens) place (carried_in parameter))
closes_of_error base calls id place parameter h = failed base calls id (opened_with true id calls.opens) place parameter refl h

-- what is heard without a problem might be taken
pub quiet_allows : (base : Base) (calls : Calls) (context : ℕ) (apdu : Apdu) → ((id : Option ℤ) (problem : Problem) → apdu ≡ apdus.Reject id problem → ⊥)
    → (hear base calls context (head_of_apdu apdu)).reject ≡ None → may_take_apdu base.tables calls apdu ≡ true
quiet_allows base calls context (apdus.Invoke id linked code argument) n h = (opens_of_invoke base calls context id linked (operation_with base.tables code) argument h).allowed
quiet_allows base calls context (apdus.Result id returned) n h = (closes_of_result base calls id returned h).allowed
quiet_allows base calls context (apdus.Error id code parameter) n h = (closes_of_error base calls id (error_with base.tables code) parameter h).allowed
quiet_allows base calls context (apdus.Reject id problem) n h = absurd (n id problem refl)
