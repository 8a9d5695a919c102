-- An outcome may be sent as what its invocation called says.
use Rattle.std.proofs.Common.{◌≡◌, ℕ, ℤ, Bool, true, false, not, Option, Some, None, Result, Err, refl, sym, ap, subst, ◌∙◌}
use Rattle.std.specs.Prelude.{if◌then◌else◌}
use Rattle.asn1_types.specs.declared.value.Val.{Val}
use Rattle.stub_tables.specs.declared.apdu.Apdu.{Apdu}
use Rattle.stub_tables.specs.declared.operation.Operation.{Operation}
use Rattle.stub_tables.specs.declared.operation.ErrorRow.{ErrorRow}
use Rattle.stub_tables.specs.Codes.{is_error_of}
use Rattle.stub_tables.specs.Lookup.{operation_at, error_at}
use Rattle.dialogue.specs.declared.call.CallRefusal.{CallRefusal}
use Rattle.dialogue.specs.declared.call.CallRefusal.TheVariants as refusals
use Rattle.end_rules.specs.Base.{Base}
use Rattle.end_rules.specs.State.{Body, OpenCall, opened_with}
use Rattle.end_rules.specs.Invoking.{is_stopped, operation_of, result_apdu, error_apdu, can_answer_open, can_answer, can_refuse_open, can_refuse, can_refuse_with}
use Rattle.end_rules.specs.Requesting.{result_for, error_for, operation_opened, result_in}
use Rattle.association_state.specs.rose_roles.declared.invoked_with.InvokedWith.{InvokedWith}
use Rattle.association_state.specs.open_invocations.Invocations.{called_in}
use Rattle.association_calls.specs.Replies.{IsChecked}

module _ (base : Base) (body : Body) (id : ℤ) where
  abbrev its : Option OpenCall
  its = opened_with false id body.calls.opens

  -- ---- results

  module _ (value : Option Val) (r : Result Apdu CallRefusal) where
    abbrev AnsweredBy : Bool → Option OpenCall → Option Operation → Type 0
    AnsweredBy stopped o operation =
        IsChecked (if stopped then Err refusals.Waiting else can_answer_open base body id o operation value) None (result_for id value operation) r

    answered_one : (o : OpenCall) (called : InvokedWith) (operation : Operation) → Some (record { operation = o.operation; context = o.context }) ≡ Some called → operation_at base.tables called.operation ≡ Some operation
        → its ≡ Some o → is_stopped base body ≡ false → ((o : OpenCall) → o.context ≡ called.context → IsChecked (can_answer_open base body id (Some o) (Some operation) value) None (Some (result_apdu operation id value)) r)
        → IsChecked (can_answer base body id value) None (result_in base body id value) r
    answered_one o called operation e there opened stopped h =
        let place : o.operation ≡ called.operation = cc in
        let context : o.context ≡ called.context = cc in
        let found : operation_at base.tables o.operation ≡ Some operation = ap (operation_at base.tables) place ∙ there in
        let last : AnsweredBy false (Some o) (Some operation) = h o context in
        let with_operation : AnsweredBy false (Some o) (operation_of base (Some o)) = subst (AnsweredBy false (Some o)) (sym found) last in
        let with_stop : AnsweredBy (is_stopped base body) (Some o) (operation_of base (Some o)) = subst (λ b. AnsweredBy b (Some o) (operation_of base (Some o))) (sym stopped) with_operation in
        subst (λ (x : Option OpenCall). IsChecked (if is_stopped base body then Err refusals.Waiting else can_answer_open base body id x (operation_of base x) value) None (result_for id value (operation_opened base x)) r) (sym opened) with_stop

    answered_by : (o : Option OpenCall) (called : InvokedWith) (operation : Operation) → called_in o ≡ Some called → operation_at base.tables called.operation ≡ Some operation
        → its ≡ o → is_stopped base body ≡ false → ((o : OpenCall) → o.context ≡ called.context → IsChecked (can_answer_open base body id (Some o) (Some operation) value) None (Some (result_apdu operation id value)) r)
        → IsChecked (can_answer base body id value) None (result_in base body id value) r
    answered_by None called operation e there opened stopped h = absurd cc
    answered_by (Some o) called operation e there opened stopped h = answered_one o called operation e there opened stopped h

    pub answered : (called : InvokedWith) (operation : Operation) → called_in its ≡ Some called → operation_at base.tables called.operation ≡ Some operation → is_stopped base body ≡ false
        → ((o : OpenCall) → o.context ≡ called.context → IsChecked (can_answer_open base body id (Some o) (Some operation) value) None (Some (result_apdu operation id value)) r)
        → IsChecked (can_answer base body id value) None (result_in base body id value) r
    answered called operation e there stopped h = answered_by its called operation e there refl stopped h

  -- ---- errors

  module _ (place : ℕ) (parameter : Option Val) (r : Result Apdu CallRefusal) where
    abbrev RefusedBy : Bool → Option OpenCall → Option Operation → Option ErrorRow → Type 0
    RefusedBy stopped o operation error =
        IsChecked (if stopped then Err refusals.Waiting else can_refuse_open base body id o operation place error parameter) None (error_for id parameter error) r

    refused_one : (o : OpenCall) (called : InvokedWith) (operation : Operation) (error : ErrorRow) → Some (record { operation = o.operation; context = o.context }) ≡ Some called → operation_at base.tables called.operation ≡ Some operation
        → error_at base.tables place ≡ Some error → is_error_of operation place ≡ true → its ≡ Some o → is_stopped base body ≡ false
        → ((o : OpenCall) → o.context ≡ called.context → IsChecked (can_refuse_with base body id o error parameter) None (Some (error_apdu error id parameter)) r)
        → IsChecked (can_refuse base body id place parameter) None (error_for id parameter (error_at base.tables place)) r
    refused_one o called operation error e there errs allowed opened stopped h =
        let at : o.operation ≡ called.operation = cc in
        let context : o.context ≡ called.context = cc in
        let found : operation_at base.tables o.operation ≡ Some operation = ap (operation_at base.tables) at ∙ there in
        let last : RefusedBy false (Some o) (Some operation) (Some error) =
        subst (λ b. IsChecked (if not b then Err refusals.NotAllowed else can_refuse_with base body id o error parameter) None (Some (error_apdu error id parameter)) r) (sym allowed) (h o context)
        in
        let with_error : RefusedBy false (Some o) (Some operation) (error_at base.tables place) = subst (RefusedBy false (Some o) (Some operation)) (sym errs) last in
        let with_operation : RefusedBy false (Some o) (operation_of base (Some o)) (error_at base.tables place) = subst (λ x. RefusedBy false (Some o) x (error_at base.tables place)) (sym found) with_error in
        let with_stop : RefusedBy (is_stopped base body) (Some o) (operation_of base (Some o)) (error_at base.tables place) = subst (λ b. RefusedBy b (Some o) (operation_of base (Some o)) (error_at base.tables place)) (sym stopped) with_operation in
        subst (λ (x : Option OpenCall). RefusedBy (is_stopped base body) x (operation_of base x) (error_at base.tables place)) (sym opened) with_stop

    refused_by : (o : Option OpenCall) (called : InvokedWith) (operation : Operation) (error : ErrorRow) → called_in o ≡ Some called → operation_at base.tables called.operation ≡ Some operation
        → error_at base.tables place ≡ Some error → is_error_of operation place ≡ true → its ≡ o → is_stopped base body ≡ false
        → ((o : OpenCall) → o.context ≡ called.context → IsChecked (can_refuse_with base body id o error parameter) None (Some (error_apdu error id parameter)) r)
        → IsChecked (can_refuse base body id place parameter) None (error_for id parameter (error_at base.tables place)) r
    refused_by None called operation error e there errs allowed opened stopped h = absurd cc
    refused_by (Some o) called operation error e there errs allowed opened stopped h = refused_one o called operation error e there errs allowed opened stopped h

    pub refused : (called : InvokedWith) (operation : Operation) (error : ErrorRow) → called_in its ≡ Some called → operation_at base.tables called.operation ≡ Some operation
        → error_at base.tables place ≡ Some error → is_error_of operation place ≡ true → is_stopped base body ≡ false
        → ((o : OpenCall) → o.context ≡ called.context → IsChecked (can_refuse_with base body id o error parameter) None (Some (error_apdu error id parameter)) r)
        → IsChecked (can_refuse base body id place parameter) None (error_for id parameter (error_at base.tables place)) r
    refused called operation error e there errs allowed stopped h = refused_by its called operation error e there errs allowed refl stopped h
