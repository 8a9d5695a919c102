-- What an end hears in outcomes and rejects, and heads by their fields.
use Rattle.std.proofs.Common.{◌≡◌, ℕ, ℤ, Bool, true, false, not, ◌&&◌, cond, List, Option, Some, None, is_some, refl, sym, ap, subst, ◌∙◌}
use Rattle.std.specs.Option.{option_map}
use Rattle.osi_base.specs.declared.syntax.Syntax.{Syntax}
use Rattle.osi_base.specs.declared.layer_words.Problem.{Problem}
use Rattle.osi_base.specs.declared.layer_words.ProblemKind.TheVariants as problems
use Rattle.asn1_types.specs.declared.value.Val.{Val}
use Rattle.stub_tables.specs.declared.tables.Tables.{Tables}
use Rattle.stub_tables.specs.declared.operation.Code.{Code}
use Rattle.stub_tables.specs.declared.operation.Use.{Use}
use Rattle.stub_tables.specs.declared.operation.Operation.{Operation}
use Rattle.stub_tables.specs.declared.operation.ErrorRow.{ErrorRow}
use Rattle.stub_tables.specs.Lookup.{operation_at, operation_with, error_at, error_with}
use Rattle.stub_tables.specs.Apdus.{placed, argument_of, parameter_of}
use Rattle.apdu_spelling.specs.declared.head.ApduHead.{ApduHead}
use Rattle.apdu_spelling.specs.declared.head.ApduKind.{ApduKind}
use Rattle.apdu_spelling.specs.declared.head.ApduKind.TheVariants as kinds
use Rattle.dialogue.specs.declared.indication.Indication.TheVariants as indications
use Rattle.linked_ops.specs.Entries.{Entry}
use Rattle.end_wire.specs.end_rules.Base.{Base, Carried, BadReject, InvokeHead, ResultHead, ErrorHead, RejectHead}
use Rattle.end_wire.specs.end_rules.State as ends
use Rattle.end_wire.specs.end_rules.Hearing as rules
use Rattle.rose_roles.specs.declared.invoked_with.InvokedWith.{InvokedWith}
use Rattle.rose_roles.specs.declared.apdu_problems.ValueOrProblem as values_or_problems
use Rattle.rose_roles.specs.declared.apdu_problems.ValueOrProblem.TheVariants as value_or_problem
use Rattle.rose_roles.specs.declared.apdu_taken.RoseTaken.TheVariants as taken
use Rattle.rose_roles.specs.Calls.{Kept, Invoking, called, AreOpen, calls_of}
use Rattle.rose_roles.specs.Heads.{Carries, use_by, parameter_placed, invoke_by, result_by, error_by, reject_by, head_by, said_by, is_invocation}
use Rattle.rose_roles.specs.ApduProblems as of_apdus
use Rattle.rose_roles.specs.Hearing.{heard_with, result_taken, error_taken}
use Rattle.rose_roles.proofs.Hearings.{Matches, matching, right_is}

-- ---- heads by their fields

module _ (head : ApduHead) (carried : Carried) where
  by_kind : (k : ApduKind) → head.kind ≡ k → said_by head carried ≡ head_by k head carried
  by_kind k e = ap (λ (x : ApduKind). head_by x head carried) e

  pub no_result : head.kind ≡ kinds.Result → head.id ≡ None → BadReject ≡ said_by head carried
  no_result e f = sym (by_kind kinds.Result e ∙ ap (λ (i : Option ℤ). result_by i head.code carried) f)

  pub said_result : (id : ℤ) → head.kind ≡ kinds.Result → head.id ≡ Some id → ResultHead id head.code carried ≡ said_by head carried
  said_result id e f = sym (by_kind kinds.Result e ∙ ap (λ (i : Option ℤ). result_by i head.code carried) f)

  pub no_error_id : head.kind ≡ kinds.Error → head.id ≡ None → BadReject ≡ said_by head carried
  no_error_id e f = sym (by_kind kinds.Error e ∙ ap (λ (i : Option ℤ). error_by i head.code carried) f)

  pub no_error_code : (id : ℤ) → head.kind ≡ kinds.Error → head.id ≡ Some id → head.code ≡ None → BadReject ≡ said_by head carried
  no_error_code id e f g = sym (by_kind kinds.Error e ∙ (λ k. error_by (f k) (g k) carried))

  pub said_error : (id : ℤ) (code : Code) → head.kind ≡ kinds.Error → head.id ≡ Some id → head.code ≡ Some code → ErrorHead id code carried ≡ said_by head carried
  said_error id code e f g = sym (by_kind kinds.Error e ∙ (λ k. error_by (f k) (g k) carried))

  pub said_reject : head.kind ≡ kinds.Reject → reject_by head.id head.problem ≡ said_by head carried
  said_reject e = sym (by_kind kinds.Reject e)

  pub no_invoke_id : head.kind ≡ kinds.Invoke → head.id ≡ None → BadReject ≡ said_by head carried
  no_invoke_id e f = sym (by_kind kinds.Invoke e ∙ ap (λ (i : Option ℤ). invoke_by i head.linked head.code carried) f)

  pub no_invoke_code : (id : ℤ) → head.kind ≡ kinds.Invoke → head.id ≡ Some id → head.code ≡ None → BadReject ≡ said_by head carried
  no_invoke_code id e f g = sym (by_kind kinds.Invoke e ∙ (λ k. invoke_by (f k) head.linked (g k) carried))

  pub said_invoke : (id : ℤ) (code : Code) → head.kind ≡ kinds.Invoke → head.id ≡ Some id → head.code ≡ Some code → InvokeHead id head.linked code carried ≡ said_by head carried
  said_invoke id code e f g = sym (by_kind kinds.Invoke e ∙ (λ k. invoke_by (f k) head.linked (g k) carried))

pub is_invoke : (k : ApduKind) → is_invocation k ≡ true → k ≡ kinds.Invoke
is_invoke kinds.Invoke e = refl
is_invoke kinds.Result e = absurd cc
is_invoke kinds.Error e = absurd cc
is_invoke kinds.Reject e = absurd cc

-- ---- what is carried

module _ (t : Tables) (s : Syntax) (room : ℕ) (os : Option (List ℕ)) (carried : Carried) where
  pub carries_of : (k l : ApduKind) (code : Option Code) → k ≡ l → Carries s t.types room (use_by t k code) os carried → Carries s t.types room (use_by t l code) os carried
  carries_of k l code e h = subst (λ (x : ApduKind). Carries s t.types room (use_by t x code) os carried) e h

  parameter_is : (o : Option ℕ) → option_map parameter_of (placed (error_at t) o) ≡ parameter_placed t o
  parameter_is None = refl
  parameter_is (Some place) = refl

  pub carries_parameter : (k : ApduKind) (co : Option Code) (code : Code) (error : Option ℕ) → k ≡ kinds.Error → co ≡ Some code → error ≡ error_with t code
      → Carries s t.types room (use_by t k co) os carried → Carries s t.types room (parameter_placed t error) os carried
  carries_parameter k co code error e f g h =
      let x : use_by t k co ≡ parameter_placed t error = (λ i. use_by t (e i) (f i)) ∙ parameter_is (error_with t code) ∙ ap (parameter_placed t) (sym g) in
      subst (λ (u : Option Use). Carries s t.types room u os carried) x h

  pub carries_argument : (k : ApduKind) (co : Option Code) (code : Code) (place : Option ℕ) → k ≡ kinds.Invoke → co ≡ Some code → place ≡ operation_with t code
      → Carries s t.types room (use_by t k co) os carried → Carries s t.types room (option_map argument_of (placed (operation_at t) place)) os carried
  carries_argument k co code place e f g h =
      let x : use_by t k co ≡ option_map argument_of (placed (operation_at t) place) =
      (λ i. use_by t (e i) (f i)) ∙ ap (λ (p : Option ℕ). option_map argument_of (placed (operation_at t) p)) (sym g) in
      subst (λ (u : Option Use). Carries s t.types room u os carried) x h

-- ---- outcomes

right_result_is : (base : Base) (place : ℕ) (o : Operation) (code : Option Code) (v : Carried) → rules.is_right_result base place o code v ≡ of_apdus.right_result base.tables place o code v
right_result_is base place o None v = refl
right_result_is base place o (Some code) v = ap (λ (b : Bool). rules.is_place (operation_with base.tables code) place && b) (right_is base o.result v)

result_is : (base : Base) (place : ℕ) (o : Option Operation) (code : Option Code) (v : Carried) → rules.result_problem base place o code v ≡ of_apdus.result_problem base.tables place o code v
result_is base place None code v = refl
result_is base place (Some o) code v =
    ap (λ (b : Bool). rules.first_problem (rules.problem_if (not o.returns) 1) (rules.problem_if (not b) 2)) (right_result_is base place o code v)

known_error_by : (base : Base) (o : Operation) (place : ℕ) (v : Carried) (row : Option ErrorRow) → error_at base.tables place ≡ row → rules.known_error_problem base o (Some place) v ≡ of_apdus.known_error_problem base.tables o (Some place) v
known_error_by base o place v None e = rw e refl
known_error_by base o place v (Some row) e = rw (e, right_is base row.parameter v) refl

known_error_is : (base : Base) (o : Operation) (place : Option ℕ) (v : Carried) → rules.known_error_problem base o place v ≡ of_apdus.known_error_problem base.tables o place v
known_error_is base o None v = refl
known_error_is base o (Some place) v = known_error_by base o place v (error_at base.tables place) refl

error_is : (base : Base) (o : Option Operation) (place : Option ℕ) (v : Carried) → rules.error_problem base o place v ≡ of_apdus.error_problem base.tables o place v
error_is base None place v = refl
error_is base (Some o) place v = ap (λ (p : Option ℕ). rules.first_problem (rules.problem_if (ends.is_empty o.errors) 1) p) (known_error_is base o place v)

module _ (base : Base) (es : List Entry) (own : Invoking) (performed : Kept) (mine : AreOpen true es own.kept) (context : ℕ) (id : ℤ) where
  abbrev calls : ends.Calls
  calls = calls_of es own performed

  abbrev the_open : Option ends.OpenCall
  the_open = ends.opened_with true id calls.opens

  none_open : (o : Option ends.OpenCall) → Matches o None → o ≡ None
  none_open None m = refl
  none_open (Some o) m = absurd m

  one_open : (o : Option ends.OpenCall) (c : InvokedWith) → Matches o (Some c) → (x : ends.OpenCall) × (o ≡ Some x) × (x.operation ≡ c.operation)
  one_open None c m = absurd m
  one_open (Some x) c m = (x, refl, m)

  matches : (c : Option InvokedWith) → called id own.kept ≡ c → Matches the_open c
  matches c e = subst (λ (x : Option InvokedWith). Matches the_open x) e (matching true id es own.kept performed mine)

  module _ (v : Carried) where
    pub shut_result : (code : Option Code) → called id own.kept ≡ None → heard_with calls (taken.Reject (Some id) (rules.problem_with problems.Result 0)) ≡ rules.hear base calls context (ResultHead id code v)
    shut_result code e = sym (ap (λ (o : Option ends.OpenCall). rules.hear_result_of base calls id o code v) (none_open the_open (matches None e)))

    pub shut_error : (code : Code) → called id own.kept ≡ None → heard_with calls (taken.Reject (Some id) (rules.problem_with problems.Error 0)) ≡ rules.hear base calls context (ErrorHead id code v)
    shut_error code e = sym (ap (λ (o : Option ends.OpenCall). rules.hear_error_of base calls id o (error_with base.tables code) v) (none_open the_open (matches None e)))

    result_by_found : (p : Option ℕ) (j : values_or_problems.ValueOrProblem) → of_apdus.IsValueOrProblem p (rules.value_in v) j
        → heard_with (ends.close true id calls) (result_taken id j) ≡ rules.unless_problem p (rules.rejected (ends.close true id calls) (Some id) problems.Result) (rules.showing (ends.close true id calls) (indications.Result id (rules.value_in v)))
    result_by_found p (value_or_problem.Right w) h =
        sym (ap (λ (x : Option ℕ). rules.unless_problem x (rules.rejected (ends.close true id calls) (Some id) problems.Result) (rules.showing (ends.close true id calls) (indications.Result id (rules.value_in v)))) h.0
        ∙ ap (λ (x : Option Val). rules.showing (ends.close true id calls) (indications.Result id x)) (sym h.1))
    result_by_found p (value_or_problem.Wrong n) h =
        sym (ap (λ (x : Option ℕ). rules.unless_problem x (rules.rejected (ends.close true id calls) (Some id) problems.Result) (rules.showing (ends.close true id calls) (indications.Result id (rules.value_in v)))) h)

    pub heard_result : (t : Tables) → base.tables ≡ t → (c : InvokedWith) → called id own.kept ≡ Some c → (code : Option Code) (j : values_or_problems.ValueOrProblem)
        → of_apdus.IsValueOrProblem (of_apdus.result_problem t c.operation (operation_at t c.operation) code v) (rules.value_in v) j
        → heard_with (ends.close true id calls) (result_taken id j) ≡ rules.hear base calls context (ResultHead id code v)
    heard_result t same c e code j h =
        let m = one_open the_open c (matches (Some c) e) in
        let h1 = subst (λ (x : Tables). of_apdus.IsValueOrProblem (of_apdus.result_problem x c.operation (operation_at x c.operation) code v) (rules.value_in v) j) (sym same) h in
        let h2 = subst (λ (p : ℕ). of_apdus.IsValueOrProblem (of_apdus.result_problem base.tables p (operation_at base.tables p) code v) (rules.value_in v) j) (sym m.2) h1 in
        let h3 = subst (λ (p : Option ℕ). of_apdus.IsValueOrProblem p (rules.value_in v) j) (sym (result_is base m.0.operation (operation_at base.tables m.0.operation) code v)) h2 in
        result_by_found _ j h3 ∙ sym (ap (λ (o : Option ends.OpenCall). rules.hear_result_of base calls id o code v) m.1)

    error_by_found : (error : Option ℕ) (p : Option ℕ) (j : values_or_problems.ValueOrProblem) → of_apdus.IsValueOrProblem p (rules.value_in v) j
        → heard_with (ends.close true id calls) (error_taken id error j) ≡ rules.unless_problem p (rules.rejected (ends.close true id calls) (Some id) problems.Error) (rules.showing_error (ends.close true id calls) id error v)
    error_by_found None p (value_or_problem.Right w) h =
        sym (ap (λ (x : Option ℕ). rules.unless_problem x (rules.rejected (ends.close true id calls) (Some id) problems.Error) (rules.showing_error (ends.close true id calls) id None v)) h.0)
    error_by_found (Some error) p (value_or_problem.Right w) h =
        sym (ap (λ (x : Option ℕ). rules.unless_problem x (rules.rejected (ends.close true id calls) (Some id) problems.Error) (rules.showing_error (ends.close true id calls) id (Some error) v)) h.0
        ∙ ap (λ (x : Option Val). rules.showing (ends.close true id calls) (indications.Error id error x)) (sym h.1))
    error_by_found error p (value_or_problem.Wrong n) h =
        sym (ap (λ (x : Option ℕ). rules.unless_problem x (rules.rejected (ends.close true id calls) (Some id) problems.Error) (rules.showing_error (ends.close true id calls) id error v)) h)

    pub heard_error : (t : Tables) → base.tables ≡ t → (c : InvokedWith) → called id own.kept ≡ Some c → (code : Code) (error : Option ℕ) → error ≡ error_with t code → (j : values_or_problems.ValueOrProblem)
        → of_apdus.IsValueOrProblem (of_apdus.error_problem t (operation_at t c.operation) error v) (rules.value_in v) j
        → heard_with (ends.close true id calls) (error_taken id error j) ≡ rules.hear base calls context (ErrorHead id code v)
    heard_error t same c e code error is j h =
        let m = one_open the_open c (matches (Some c) e) in
        let h1 = subst (λ (x : Tables). of_apdus.IsValueOrProblem (of_apdus.error_problem x (operation_at x c.operation) error v) (rules.value_in v) j) (sym same) h in
        let h2 = subst (λ (p : ℕ). of_apdus.IsValueOrProblem (of_apdus.error_problem base.tables (operation_at base.tables p) error v) (rules.value_in v) j) (sym m.2) h1 in
        let h3 = subst (λ (p : Option ℕ). of_apdus.IsValueOrProblem p (rules.value_in v) j) (sym (error_is base (operation_at base.tables m.0.operation) error v)) h2 in
        let x : error ≡ error_with base.tables code = is ∙ ap (λ (y : Tables). error_with y code) (sym same) in
        error_by_found error _ j h3 ∙ sym ((λ k. rules.hear_error_of base calls id (m.1 k) (sym x k) v))

  -- a reject of an own invocation
  pub heard_rejected : (problem : Problem) (c : InvokedWith) → rules.is_of_invocation problem.kind ≡ true → called id own.kept ≡ Some c
      → heard_with (ends.close true id calls) (taken.Rejected id problem) ≡ rules.hear base calls context (RejectHead (Some id) problem)
  heard_rejected problem c e f =
      let m = one_open the_open c (matches (Some c) f) in
      sym (λ k. cond (e k && is_some (m.1 k)) (rules.showing (ends.close true id calls) (indications.Rejected id problem)) (rules.showing calls (indications.RejectTaken (Some id) problem)))

  pub heard_of_other : (problem : Problem) → rules.is_of_invocation problem.kind ≡ false → heard_with calls (taken.RejectTaken (Some id) problem) ≡ rules.hear base calls context (RejectHead (Some id) problem)
  heard_of_other problem e =
      sym (ap (λ (b : Bool). cond (b && is_some the_open) (rules.showing (ends.close true id calls) (indications.Rejected id problem)) (rules.showing calls (indications.RejectTaken (Some id) problem))) e)

  pub heard_of_shut : (problem : Problem) → rules.is_of_invocation problem.kind ≡ true → called id own.kept ≡ None → heard_with calls (taken.RejectTaken (Some id) problem) ≡ rules.hear base calls context (RejectHead (Some id) problem)
  heard_of_shut problem e f =
      let n = none_open the_open (matches None f) in
      sym (λ k. cond (e k && is_some (n k)) (rules.showing (ends.close true id calls) (indications.Rejected id problem)) (rules.showing calls (indications.RejectTaken (Some id) problem)))

pub heard_other : (base : Base) (es : List Entry) (own : Invoking) (performed : Kept) (mine : AreOpen true es own.kept) (context : ℕ) (id : Option ℤ) (problem : Problem) → rules.is_of_invocation problem.kind ≡ false
    → heard_with (calls_of es own performed) (taken.RejectTaken id problem) ≡ rules.hear base (calls_of es own performed) context (RejectHead id problem)
heard_other base es own performed mine context None problem e = refl
heard_other base es own performed mine context (Some id) problem e = heard_of_other base es own performed mine context id problem e
