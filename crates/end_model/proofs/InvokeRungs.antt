-- What an accepted Invoke, Answer or Refuse passed.
use Rattle.std.proofs.Common.{◌≡◌, refl, true, false, ℕ, length}
use Rattle.std.specs.Prelude.{ℤ, not, ◌&&◌, nat_le, Option, Some, None, Ok}
use Rattle.osi_base.specs.Limits.{last_invocation, most_open}
use Rattle.asn1_types.specs.declared.value.Val.{Val}
use Rattle.stub_tables.specs.declared.operation.Operation.{Operation}
use Rattle.stub_tables.specs.declared.operation.ErrorRow.{ErrorRow}
use Rattle.stub_tables.specs.declared.apdu.Apdu.{Apdu}
use Rattle.stub_tables.specs.Codes.{is_silent, is_error_of}
use Rattle.stub_tables.specs.Uses.{is_carried}
use Rattle.dialogue.specs.declared.call.CallRefusal.TheVariants as refusals
use Rattle.end_rules.specs.Base.{Base}
use Rattle.end_rules.specs.Sets.{is_deleted_in}
use Rattle.end_rules.specs.State.{Body, OpenCall, opens_of}
use Rattle.end_rules.specs.Invoking.{invoke_apdu, result_apdu, error_apdu, is_too_long}
use Rattle.end_rules.specs.Invoking.{is_queue_full, next_id, is_on_module, linking_refusal}
use Rattle.end_rules.specs.Invoking.{can_send_invoke, can_invoke_operation, lacks_carrier}
use Rattle.end_rules.specs.Invoking.{can_send_outcome, can_answer_open, can_refuse_open}
use Rattle.end_model.proofs.Ladder.{passed, unrefused, not-true}

-- ---- Invoke

pub record Sendable (base : Base) (body : Body) (operation : Operation) (argument : Option Val) (linked : Option ℤ) (answer : Option ℤ) : Type 0 where
  pub carried : is_carried base.tables.types operation.argument argument ≡ true
  pub short : is_too_long base (invoke_apdu operation (next_id body) linked argument) ≡ false
  pub room : (not (is_silent operation) && nat_le most_open (length (opens_of true body.calls.opens))) ≡ false
  pub numbers : nat_le last_invocation body.calls.made ≡ false
  pub next : answer ≡ Some (next_id body)

pub sendable : (base : Base) (body : Body) (operation : Operation) (argument : Option Val) (linked : Option ℤ) (answer : Option ℤ) → can_send_invoke base body operation argument linked ≡ Ok answer → Sendable base body operation argument linked answer
sendable base body operation argument linked answer h =
    let a = passed (not (is_carried base.tables.types operation.argument argument)) refusals.NotTyped _ answer h in
    let b = passed (is_too_long base (invoke_apdu operation (next_id body) linked argument)) refusals.TooLong _ answer a.later in
    let c = passed (not (is_silent operation) && nat_le most_open (length (opens_of true body.calls.opens))) refusals.TooManyOpen _ answer b.later in
    let d = passed (nat_le last_invocation body.calls.made) refusals.NumbersSpent _ answer c.later in
    let e = passed (is_queue_full base body) refusals.QueueFull (Ok (Some (next_id body))) answer d.later in
    record { carried = not-true (is_carried base.tables.types operation.argument argument) a.holds; short = b.holds; room = c.holds; numbers = d.holds; next = cc }

pub record Invokable (base : Base) (body : Body) (context place : ℕ) (o : Option Operation) (argument : Option Val) (linked : Option ℤ) (answer : Option ℤ) : Type 0 where
  pub operation : Operation
  pub is_it : o ≡ Some operation
  pub on_module : is_on_module base body context ≡ true
  pub kept : is_deleted_in body.sets.own context ≡ false
  pub linking : linking_refusal base body place linked ≡ None
  pub sends : Sendable base body operation argument linked answer

pub invokable : (base : Base) (body : Body) (context place : ℕ) (o : Option Operation) (argument : Option Val) (linked : Option ℤ) (answer : Option ℤ) → can_invoke_operation base body context place o argument linked ≡ Ok answer → Invokable base body context place o argument linked answer
invokable base body context place None argument linked answer h = cc
invokable base body context place (Some operation) argument linked answer h =
    let a = passed (not (is_on_module base body context)) (refusals.Absent context) _ answer h in
    let b = passed (is_deleted_in body.sets.own context) refusals.AlterPending _ answer a.later in
    let c = unrefused (linking_refusal base body place linked) (can_send_invoke base body operation argument linked) answer b.later in
    record { operation = operation; is_it = refl; on_module = not-true (is_on_module base body context) a.holds; kept = b.holds; linking = c.holds; sends = sendable base body operation argument linked answer c.later }

-- ---- Answer and Refuse

pub record Outgoing (base : Base) (body : Body) (o : OpenCall) (apdu : Apdu) (answer : Option ℤ) : Type 0 where
  pub carrier : lacks_carrier base body o.context ≡ false
  pub short : is_too_long base apdu ≡ false

pub outgoing : (base : Base) (body : Body) (o : OpenCall) (apdu : Apdu) (answer : Option ℤ) → can_send_outcome base body o apdu ≡ Ok answer → Outgoing base body o apdu answer
outgoing base body o apdu answer h =
    let a = passed (lacks_carrier base body o.context) refusals.NoContext _ answer h in
    let b = passed (is_too_long base apdu) refusals.TooLong _ answer a.later in
    record { carrier = a.holds; short = b.holds }

pub record Answerable (base : Base) (body : Body) (id : ℤ) (o : Option OpenCall) (p : Option Operation) (result : Option Val) (answer : Option ℤ) : Type 0 where
  pub invocation : OpenCall
  pub is_its : o ≡ Some invocation
  pub operation : Operation
  pub is_it : p ≡ Some operation
  pub returns : operation.returns ≡ true
  pub carried : is_carried base.tables.types operation.result result ≡ true
  pub sends : Outgoing base body invocation (result_apdu operation id result) answer

pub answerable : (base : Base) (body : Body) (id : ℤ) (o : Option OpenCall) (p : Option Operation) (result : Option Val) (answer : Option ℤ) → can_answer_open base body id o p result ≡ Ok answer → Answerable base body id o p result answer
answerable base body id None p result answer h = cc
answerable base body id (Some o) None result answer h = cc
answerable base body id (Some o) (Some operation) result answer h =
    let a = passed (not operation.returns) refusals.NotAllowed _ answer h in
    let b = passed (not (is_carried base.tables.types operation.result result)) refusals.NotTyped (can_send_outcome base body o (result_apdu operation id result)) answer a.later in
    record { invocation = o; is_its = refl; operation = operation; is_it = refl; returns = not-true operation.returns a.holds; carried = not-true (is_carried base.tables.types operation.result result) b.holds; sends = outgoing base body o (result_apdu operation id result) answer b.later }

pub record Refusable (base : Base) (body : Body) (id : ℤ) (o : Option OpenCall) (p : Option Operation) (place : ℕ) (e : Option ErrorRow) (parameter : Option Val) (answer : Option ℤ) : Type 0 where
  pub invocation : OpenCall
  pub is_its : o ≡ Some invocation
  pub operation : Operation
  pub is_it : p ≡ Some operation
  pub error : ErrorRow
  pub is_error : e ≡ Some error
  pub allowed : is_error_of operation place ≡ true
  pub carried : is_carried base.tables.types error.parameter parameter ≡ true
  pub sends : Outgoing base body invocation (error_apdu error id parameter) answer

pub refusable : (base : Base) (body : Body) (id : ℤ) (o : Option OpenCall) (p : Option Operation) (place : ℕ) (e : Option ErrorRow) (parameter : Option Val) (answer : Option ℤ) → can_refuse_open base body id o p place e parameter ≡ Ok answer → Refusable base body id o p place e parameter answer
refusable base body id None p place e parameter answer h = cc
refusable base body id (Some o) None place e parameter answer h = cc
refusable base body id (Some o) (Some operation) place None parameter answer h = cc
refusable base body id (Some o) (Some operation) place (Some error) parameter answer h =
    let a = passed (not (is_error_of operation place)) refusals.NotAllowed _ answer h in
    let b = passed (not (is_carried base.tables.types error.parameter parameter)) refusals.NotTyped (can_send_outcome base body o (error_apdu error id parameter)) answer a.later in
    record { invocation = o; is_its = refl; operation = operation; is_it = refl; error = error; is_error = refl; allowed = not-true (is_error_of operation place) a.holds; carried = not-true (is_carried base.tables.types error.parameter parameter) b.holds; sends = outgoing base body o (error_apdu error id parameter) answer b.later }
