-- What is heard: an outcome is told of an open invocation, and closes it.
use Rattle.std.proofs.Common.{◌≡◌, refl, true, false, sym, subst, ℕ, List, [], ◌∷◌, ◌++◌}
use Rattle.std.proofs.lemmas.List.{append_assoc}
use Rattle.std.specs.Prelude.{ℤ, Bool, not, ◌&&◌, Option, Some, None, is_some, if◌then◌else◌}
use Rattle.osi_base.specs.declared.layer_words.Problem.{Problem}
use Rattle.osi_base.specs.declared.layer_words.ProblemKind.TheVariants as problems
use Rattle.stub_tables.specs.declared.operation.Code.{Code}
use Rattle.stub_tables.specs.declared.operation.Operation.{Operation}
use Rattle.stub_tables.specs.Codes.{is_error_of}
use Rattle.stub_tables.specs.Lookup.{operation_at, operation_with, error_with}
use Rattle.dialogue.specs.declared.indication.Indication.{Indication}
use Rattle.dialogue.specs.declared.indication.Indication.TheVariants as indications
use Rattle.end_model.specs.end_rules.Base.{Base, Carried, HeardHead, General, BadReject, InvokeHead, ResultHead, ErrorHead, RejectHead, is_reliable}
use Rattle.end_model.specs.end_rules.Messages.{DataValue}
use Rattle.end_model.specs.end_rules.State.{Body, OpenCall, Calls, is_empty, opened_with, close}
use Rattle.end_model.specs.end_rules.Invoking.{carrier_in}
use Rattle.end_model.specs.end_rules.Hearing.{Rejecting, Heard, rejected, showing, unless_problem, first_problem, problem_if, invoke_problem, invoked, is_right_result, result_problem, known_error_problem, hear_result_of, error_problem, showing_error, hear_error_of, is_of_invocation, hear_reject, hear, value_in, Taken, sent_on, queued, with_reject, on_heard, take_head, head_of, take_values}
use Rattle.outcome_laws.specs.Exchanges.{Asked}
use Rattle.outcome_laws.specs.Outcomes.{returns_at, has_error}
use Rattle.outcome_laws.proofs.Shown.{notes_in}
use Rattle.outcome_laws.proofs.Open.{Once, once-untold, once-still, once-close, once-told, once-peer}

-- ---- an APDU

abbrev Hears : Base → List Asked → List Indication → Heard → Type 0
Hears base asked before heard = Once base.tables asked heard.calls (before ++ heard.shown)

unless : (base : Base) (asked : List Asked) (before : List Indication) (o : Option ℕ) (refused : ℕ → Heard) (heard : Heard) → ((n : ℕ) → Hears base asked before (refused n)) → (o ≡ None → Hears base asked before heard) → Hears base asked before (unless_problem o refused heard)
unless base asked before None refused heard f h = h refl
unless base asked before (Some n) refused heard f h = f n

hears-invoked : (base : Base) (calls : Calls) (context : ℕ) (id : ℤ) (linked : Option ℤ) (place : Option ℕ) (argument : Carried) (asked : List Asked) (before : List Indication) → Once base.tables asked calls before → Hears base asked before (invoked base calls context id linked place argument)
hears-invoked base calls context id linked None argument asked before h = once-still base.tables asked calls before [] refl h
hears-invoked base calls context id linked (Some place) argument asked before h =
    once-untold base.tables asked _ before (indications.Invoked id place linked (value_in argument) ∷ []) refl
    (once-peer base.tables base (record { own = false; id = id; operation = place; context = context; parent = linked }) asked calls before refl h)

-- what no problem tells
pub no-first : (b : Bool) (n : ℕ) (rest : Option ℕ) → first_problem (problem_if (not b) n) rest ≡ None → b ≡ true
no-first true n rest h = refl
no-first false n rest h = cc

pub rest-none : (b : Bool) (n : ℕ) (rest : Option ℕ) → first_problem (problem_if b n) rest ≡ None → rest ≡ None
rest-none true n rest h = cc
rest-none false n rest h = h

result-allowed : (base : Base) (place : ℕ) (o : Option Operation) (code : Option Code) (value : Carried) → result_problem base place o code value ≡ None → returns_at o ≡ true
result-allowed base place None code value h = cc
result-allowed base place (Some operation) code value h = no-first operation.returns 1 (problem_if (not (is_right_result base place operation code value)) 2) h

error-allowed : (base : Base) (o : Option Operation) (place : ℕ) (value : Carried) → error_problem base o (Some place) value ≡ None → has_error place o ≡ true
error-allowed base None place value h = cc
error-allowed base (Some operation) place value h =
    no-first (is_error_of operation place) 3 _ (rest-none (is_empty operation.errors) 1 (known_error_problem base operation (Some place) value) h)

hears-result : (base : Base) (calls : Calls) (id : ℤ) (o : Option OpenCall) (code : Option Code) (value : Carried) (asked : List Asked) (before : List Indication) → Once base.tables asked calls before → opened_with true id calls.opens ≡ o → Hears base asked before (hear_result_of base calls id o code value)
hears-result base calls id None code value asked before h e = once-still base.tables asked calls before [] refl h
hears-result base calls id (Some o) code value asked before h e =
    unless base asked before (result_problem base o.operation (operation_at base.tables o.operation) code value)
    (rejected (close true id calls) (Some id) problems.Result)
    (showing (close true id calls) (indications.Result id (value_in value)))
    (λ n. once-still base.tables asked (close true id calls) before [] refl (once-close base.tables true id asked calls before h))
    (λ p. once-told base.tables id o asked calls before (indications.Result id (value_in value)) refl e (result-allowed base o.operation (operation_at base.tables o.operation) code value p) h)

hears-error-told : (base : Base) (calls : Calls) (id : ℤ) (o : OpenCall) (place : Option ℕ) (value : Carried) (asked : List Asked) (before : List Indication) → Once base.tables asked calls before → opened_with true id calls.opens ≡ Some o → error_problem base (operation_at base.tables o.operation) place value ≡ None → Hears base asked before (showing_error (close true id calls) id place value)
hears-error-told base calls id o None value asked before h e p = once-still base.tables asked (close true id calls) before [] refl (once-close base.tables true id asked calls before h)
hears-error-told base calls id o (Some place) value asked before h e p =
    once-told base.tables id o asked calls before (indications.Error id place (value_in value)) refl e (error-allowed base (operation_at base.tables o.operation) place value p) h

hears-error : (base : Base) (calls : Calls) (id : ℤ) (o : Option OpenCall) (place : Option ℕ) (value : Carried) (asked : List Asked) (before : List Indication) → Once base.tables asked calls before → opened_with true id calls.opens ≡ o → Hears base asked before (hear_error_of base calls id o place value)
hears-error base calls id None place value asked before h e = once-still base.tables asked calls before [] refl h
hears-error base calls id (Some o) place value asked before h e =
    unless base asked before (error_problem base (operation_at base.tables o.operation) place value)
    (rejected (close true id calls) (Some id) problems.Error)
    (showing_error (close true id calls) id place value)
    (λ n. once-still base.tables asked (close true id calls) before [] refl (once-close base.tables true id asked calls before h))
    (λ p. hears-error-told base calls id o place value asked before h e p)

hears-reject : (base : Base) (calls : Calls) (id : Option ℤ) (problem : Problem) (asked : List Asked) (before : List Indication) → Once base.tables asked calls before → Hears base asked before (hear_reject calls id problem)
hears-reject base calls None problem asked before h = once-still base.tables asked calls before (indications.RejectTaken None problem ∷ []) refl h
hears-reject base calls (Some id) problem asked before h = go (is_of_invocation problem.kind) (opened_with true id calls.opens) refl refl
  where
    go : (k : Bool) (o : Option OpenCall) → is_of_invocation problem.kind ≡ k → opened_with true id calls.opens ≡ o → Hears base asked before (if k && is_some o then showing (close true id calls) (indications.Rejected id problem) else showing calls (indications.RejectTaken (Some id) problem))
    go true (Some o) k e = once-told base.tables id o asked calls before (indications.Rejected id problem) refl e k h
    go true None k e = once-still base.tables asked calls before (indications.RejectTaken (Some id) problem ∷ []) refl h
    go false o k e = once-still base.tables asked calls before (indications.RejectTaken (Some id) problem ∷ []) refl h

hears : (base : Base) (calls : Calls) (context : ℕ) (head : HeardHead) (asked : List Asked) (before : List Indication) → Once base.tables asked calls before → Hears base asked before (hear base calls context head)
hears base calls context (General number) asked before h = once-still base.tables asked calls before [] refl h
hears base calls context BadReject asked before h = once-still base.tables asked calls before (indications.BadReject ∷ []) refl h
hears base calls context (InvokeHead id linked code argument) asked before h =
    unless base asked before (invoke_problem base calls id linked (operation_with base.tables code) argument)
    (rejected calls (Some id) problems.Invoke)
    (invoked base calls context id linked (operation_with base.tables code) argument)
    (λ n. once-still base.tables asked calls before [] refl h) (λ p. hears-invoked base calls context id linked (operation_with base.tables code) argument asked before h)
hears base calls context (ResultHead id code value) asked before h = hears-result base calls id (opened_with true id calls.opens) code value asked before h refl
hears base calls context (ErrorHead id code value) asked before h = hears-error base calls id (opened_with true id calls.opens) (error_with base.tables code) value asked before h refl
hears base calls context (RejectHead id problem) asked before h = hears-reject base calls id problem asked before h

-- ---- values

abbrev pub TakenOnce : Base → List Asked → List Indication → Taken → Type 0
TakenOnce base asked before taken = Once base.tables asked taken.body.calls (before ++ taken.shown)

-- the reject that is due is no outcome, and changes no open invocation
pub with-reject : (base : Base) (body : Body) (context : ℕ) (r : Option Rejecting) → ((with_reject base body context r).body.calls ≡ body.calls) × (notes_in (with_reject base body context r).shown ≡ [])
with-reject base body context None = (refl, refl)
with-reject base body context (Some r) = go (is_reliable base.mode) (carrier_in base body context)
  where
    go : (b : Bool) (c : Option ℕ) → ((if b then queued body context r else sent_on body r c).body.calls ≡ body.calls) × (notes_in (if b then queued body context r else sent_on body r c).shown ≡ [])
    go true c = (refl, refl)
    go false None = (refl, refl)
    go false (Some id) = (refl, refl)

on-heard : (base : Base) (body : Body) (context : ℕ) (heard : Heard) (asked : List Asked) (before : List Indication) → Hears base asked before heard → TakenOnce base asked before (on_heard base body context heard)
on-heard base body context heard asked before h =
    let with_it = with_reject base (record body { calls = heard.calls }) context heard.reject in
    let w = with-reject base (record body { calls = heard.calls }) context heard.reject in
    subst (λ (c : Calls). Once base.tables asked c (before ++ (heard.shown ++ with_it.shown))) (sym w.0)
    (subst (Once base.tables asked heard.calls) (append_assoc before heard.shown with_it.shown) (once-still base.tables asked heard.calls (before ++ heard.shown) with_it.shown w.1 h))

pub head-once : (base : Base) (body : Body) (value : DataValue) (asked : List Asked) (before : List Indication) → Once base.tables asked body.calls before → TakenOnce base asked before (take_head base body value.id (head_of base value))
head-once base body value asked before h = on-heard base body value.id (hear base body.calls value.id (head_of base value)) asked before (hears base body.calls value.id (head_of base value) asked before h)

pub values-once : (base : Base) (body : Body) (values : List DataValue) (asked : List Asked) (before : List Indication) → Once base.tables asked body.calls before → TakenOnce base asked before (take_values base body values)
values-once base body [] asked before h = once-still base.tables asked body.calls before [] refl h
values-once base body (value ∷ values) asked before h =
    let first = take_head base body value.id (head_of base value) in
    let one : TakenOnce base asked before first = head-once base body value asked before h in
    let more = take_values base first.body values in
    subst (Once base.tables asked more.body.calls) (append_assoc before first.shown more.shown) (values-once base first.body values asked (before ++ first.shown) one)
