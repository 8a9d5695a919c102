-- What an accepted call and what is heard without a problem change of an end's invocations and outcomes.
use Rattle.std.proofs.Common.{◌≡◌, refl, true, false, ◌∙◌, sym, ap, subst, ℕ, suc, nat_eq, List, [], ◌∷◌, ◌++◌, if◌then◌else◌}
use Rattle.std.proofs.lemmas.List.{append-nil}
use Rattle.std.specs.Prelude.{ℤ, pos, Bool, ◌&&◌, Option, Some, None, Ok}
use Rattle.std.specs.Cmp.Lexicographic.{pointwise}
use Rattle.std.proofs.lemmas.Bool.{eq-eqb}
use Rattle.osi_base.specs.declared.layer_words.Problem.{Problem}
use Rattle.osi_base.specs.declared.layer_words.SetItem.{SetItem}
use Rattle.asn1_types.specs.declared.value.Val.{Val}
use Rattle.stub_tables.specs.declared.tables.Tables.{Tables}
use Rattle.stub_tables.specs.declared.operation.Operation.{Operation}
use Rattle.stub_tables.specs.declared.operation.ErrorRow.{ErrorRow}
use Rattle.stub_tables.specs.declared.apdu.Apdu.{Apdu}
use Rattle.stub_tables.specs.declared.apdu.Apdu.TheVariants as apdus
use Rattle.stub_tables.specs.declared.apdu.Returned.{Returned}
use Rattle.stub_tables.specs.Lookup.{operation_at, error_at, operation_with, error_with}
use Rattle.stub_tables.proofs.OwnCodes.{own_codes}
use Rattle.dialogue.specs.declared.config.Config.{Config}
use Rattle.dialogue.specs.declared.config.Mode.TheVariants.{Bare}
use Rattle.dialogue.specs.declared.call.Call.{Call}
use Rattle.dialogue.specs.declared.call.Call.TheVariants as the_calls
use Rattle.dialogue.specs.declared.call.CallRefusal.TheVariants as refusals
use Rattle.end_rules.specs.Base.{Base}
use Rattle.end_rules.specs.Sets.{Alteration, may_send, lowest_with, carrier}
use Rattle.end_rules.specs.Messages.{Message}
use Rattle.end_rules.specs.State.{Body, Calls, OpenCall, bare_set, opened_with, close}
use Rattle.end_rules.specs.Invoking.{Reply, next_id, is_stopped, can_invoke_operation, can_answer_open, can_refuse_open, operation_of, returned_with, result_apdu, error_apdu}
use Rattle.end_rules.specs.Calling.{can_call}
use Rattle.end_rules.specs.Hearing.{hear, head_of_apdu, value_in, value_returned, with_opened}
use Rattle.end_rules.specs.Requesting.{due_of, after_call, due_invoke, after_invoke, due_outcome, after_outcome, result_for, error_for, operation_opened, sent_at_once}
use Rattle.bare_end.specs.end_wire.Values.{bare_spellings}
use Rattle.agreement.specs.Sets.{Role}
use Rattle.end_model.specs.Acting.{HasBareSet}
use Rattle.end_model.specs.BothEnds.{base_at, bare_common}
use Rattle.end_model.proofs.Ladder.{passed, called}
use Rattle.end_model.proofs.InvokeRungs.{invokable, answerable, refusable}
use Rattle.end_model.proofs.HandingRows.{next-is}
use Rattle.bare_duo.specs.Shows.{value_of, shown_of, shown_invoke, shown_error, shown_all}
use Rattle.run_laws.specs.Outcomes.{Invocation, ToldOutcome, returned, failed, has_result, invoked_by, answered_by}
use Rattle.bare_duo.specs.Outcomes.{invocations_in, outcomes_in}
use Rattle.bare_duo.proofs.Allowing.{opens_of_invoke, closes_of_result, closes_of_error}
use Rattle.bare_duo.proofs.Settling.{Settled, settled-close, settled-peer, settled-own, settled-told}

-- ---- what is heard

value-back : (r : Option Returned) → value_in (value_returned r) ≡ value_of r
value-back None = refl
value-back (Some r) = refl

pub settled_heard : (base : Base) (calls : Calls) (context : ℕ) (apdu : Apdu) (made : List Invocation) (told : List ToldOutcome) → ((id : Option ℤ) (problem : Problem) → apdu ≡ apdus.Reject id problem → ⊥)
    → (hear base calls context (head_of_apdu apdu)).reject ≡ None → Settled base.tables calls made told
    → Settled base.tables (hear base calls context (head_of_apdu apdu)).calls made (told ++ outcomes_in (shown_of base.tables apdu))
settled_heard base calls context (apdus.Invoke id linked code argument) made told n h s =
    let o = opens_of_invoke base calls context id linked (operation_with base.tables code) argument h in
    let quiet : outcomes_in (shown_invoke (operation_with base.tables code) id linked argument) ≡ [] = ap (λ (p : Option ℕ). outcomes_in (shown_invoke p id linked argument)) o.is_at in
    let opened : Settled base.tables (with_opened base (record { own = false; id = id; operation = o.at; context = context; parent = linked }) calls) made told =
    settled-peer base.tables base (record { own = false; id = id; operation = o.at; context = context; parent = linked }) calls made told refl s in
    subst (λ (c : Calls). Settled base.tables c made (told ++ outcomes_in (shown_invoke (operation_with base.tables code) id linked argument))) (sym o.calls_are)
    (subst (λ (os : List ToldOutcome). Settled base.tables (with_opened base (record { own = false; id = id; operation = o.at; context = context; parent = linked }) calls) made os)
    (sym (ap (λ (os : List ToldOutcome). told ++ os) quiet ∙ append-nil told)) opened)
settled_heard base calls context (apdus.Result id r) made told n h s =
    let c = (closes_of_result base calls id r h).closes in
    let has : has_result base.tables c.operation (value_of r) ≡ true = ap (has_result base.tables c.operation) (sym (value-back r)) ∙ c.has_it in
    subst (λ (x : Calls). Settled base.tables x made (told ++ returned id (value_of r) ∷ [])) (sym c.calls_are)
    (settled-told base.tables (returned id (value_of r)) c.invocation c.operation calls made told c.is_open c.is_there has s)
settled_heard base calls context (apdus.Error id code parameter) made told n h s =
    let f = closes_of_error base calls id (error_with base.tables code) parameter h in
    let c = f.closes in
    let tells : outcomes_in (shown_error (error_with base.tables code) id parameter) ≡ failed id f.at parameter ∷ [] = ap (λ (p : Option ℕ). outcomes_in (shown_error p id parameter)) f.is_at in
    subst (λ (x : Calls). Settled base.tables x made (told ++ outcomes_in (shown_error (error_with base.tables code) id parameter))) (sym c.calls_are)
    (subst (λ (os : List ToldOutcome). Settled base.tables (close true id calls) made (told ++ os)) (sym tells)
    (settled-told base.tables (failed id f.at parameter) c.invocation c.operation calls made told c.is_open c.is_there c.has_it s))
settled_heard base calls context (apdus.Reject id problem) made told n h s = absurd (n id problem refl)

-- ---- an accepted call

-- what it changes, asks for and answers
pub record CalledSo (t : Tables) (body later : Body) (call : Call) (reply : Reply) (due : List Message) : Type 0 where
  pub settles : (made : List Invocation) (told : List ToldOutcome) → Settled t body.calls made told → Settled t later.calls (made ++ invoked_by call reply) told
  pub asks : invocations_in (shown_all t due) ≡ invoked_by call reply
  pub gives : outcomes_in (shown_all t due) ≡ answered_by call reply
  pub same_phase : later.link.phase ≡ body.link.phase

same-itself : (name : List ℕ) → pointwise nat_eq name name ≡ true
same-itself [] = refl
same-itself (x ∷ xs) = rw (eq-eqb x x refl) (same-itself xs)

record HasCarrier (t : Tables) (held : List SetItem) (own : List Alteration) (context : ℕ) : Type 0 where
  on : ℕ
  is_it : carrier t.name_oid held own context ≡ Some on

has-carrier : (t : Tables) (held : List SetItem) (own : List Alteration) (context : ℕ) → held ≡ bare_set t → own ≡ [] → HasCarrier t held own context
has-carrier t held own context e f =
    subst (λ (k : List SetItem). HasCarrier t k own context) (sym e) (subst (λ (k : List Alteration). HasCarrier t (bare_set t) k context) (sym f) (go (may_send (bare_set t) [] context) refl))
  where
    lowest : lowest_with t.name_oid [] (bare_set t) ≡ Some 0
    lowest = ap (λ (b : Bool). if b && true then Some 0 else None) (same-itself t.name_oid)

    go : (b : Bool) → may_send (bare_set t) [] context ≡ b → HasCarrier t (bare_set t) [] context
    go true e = record { on = context; is_it = ap (λ (b : Bool). if b then Some context else lowest_with t.name_oid [] (bare_set t)) e }
    go false e = record { on = 0; is_it = ap (λ (b : Bool). if b then Some context else lowest_with t.name_oid [] (bare_set t)) e ∙ lowest }

module _ (t : Tables) (ca cb : Config) where
  abbrev at_role : Role → Base
  at_role role = base_at role (bare_common t (bare_spellings t) ca cb)

  abbrev Called : Role → Body → Call → Reply → Type 0
  Called role body call reply = CalledSo t body (after_call (at_role role) body call reply) call reply (due_of (at_role role) body call reply)

  -- an invocation of this operation with this identifier
  abbrev InvokedSo : Role → Body → ℕ → ℕ → Option Val → Option ℤ → Option Operation → ℤ → Type 0
  InvokedSo role body context place argument linked o id =
      CalledSo t body (after_invoke (at_role role) body context place id linked o argument) (the_calls.Invoke context place argument linked) (Ok (Some id))
      (due_invoke (at_role role) body context id linked o argument)

  one_invoked : (role : Role) (body : Body) (context place : ℕ) (argument : Option Val) (linked : Option ℤ) (operation : Operation) → operation_at t place ≡ Some operation
      → next_id body ≡ pos (suc body.calls.made) → InvokedSo role body context place argument linked (Some operation) (next_id body)
  one_invoked role body context place argument linked operation e next =
      let i : Invocation = record { id = next_id body; operation = place; argument = argument; linked = linked } in
      let o : OpenCall = record { own = true; id = next_id body; operation = place; context = context; parent = linked } in
      let code : operation_with t operation.code ≡ Some place = (own_codes t).operations place operation e in
      record {
        settles = λ made told s. settled-own t (at_role role) o i body.calls made told refl next refl refl s;
        asks = ap (λ (p : Option ℕ). invocations_in (shown_invoke p (next_id body) linked argument ++ [])) code;
        gives = ap (λ (p : Option ℕ). outcomes_in (shown_invoke p (next_id body) linked argument ++ [])) code;
        same_phase = refl;
      }

  invoked : (role : Role) (body : Body) (context place : ℕ) (argument : Option Val) (linked : Option ℤ) (answer : Option ℤ) → can_call (at_role role) body (the_calls.Invoke context place argument linked) ≡ Ok answer
      → Called role body (the_calls.Invoke context place argument linked) (Ok answer)
  invoked role body context place argument linked answer h =
      let base : Base = at_role role in
      let c = called base body (the_calls.Invoke context place argument linked) answer h in
      let s = passed (is_stopped base body) refusals.Waiting (can_invoke_operation base body context place (operation_at t place) argument linked) answer c.rows in
      let i = invokable base body context place (operation_at t place) argument linked answer s.later in
      let one = one_invoked role body context place argument linked i.operation i.is_it (next-is body i.sends.numbers) in
      let known = subst (λ (o : Option Operation). InvokedSo role body context place argument linked o (next_id body)) (sym i.is_it) one in
      subst (λ (k : Option ℤ). Called role body (the_calls.Invoke context place argument linked) (Ok k)) (sym i.sends.next) known

  -- an outcome of an open invocation closes it
  abbrev AnsweredSo : Role → Body → ℤ → Call → Option ℤ → Option OpenCall → Option Apdu → Type 0
  AnsweredSo role body id call answer o apdu =
      CalledSo t body (after_outcome (at_role role) body id o apdu) call (Ok answer) (due_outcome (at_role role) body o apdu)

  one_answered : (role : Role) (body : Body) (id : ℤ) (call : Call) (answer : Option ℤ) (o : OpenCall) (apdu : Apdu) (outcome : ToldOutcome) → HasBareSet (at_role role) body
      → invoked_by call (Ok answer) ≡ [] → answered_by call (Ok answer) ≡ outcome ∷ [] → invocations_in (shown_of t apdu) ≡ [] → outcomes_in (shown_of t apdu) ≡ outcome ∷ []
      → AnsweredSo role body id call answer (Some o) (Some apdu)
  one_answered role body id call answer o apdu outcome bare none is shows tells =
      let c = has-carrier t body.sets.held body.sets.own o.context bare.held bare.own in
      let goes : due_outcome (at_role role) body (Some o) (Some apdu) ≡ sent_at_once Bare body (Some c.on) apdu = ap (λ (k : Option ℕ). sent_at_once Bare body k apdu) c.is_it in
      let one : shown_all t (sent_at_once Bare body (Some c.on) apdu) ≡ shown_of t apdu = append-nil (shown_of t apdu) in
      record {
        settles = λ made told s.
            subst (λ (more : List Invocation). Settled t (close false id body.calls) (made ++ more) told) (sym none)
            (subst (λ (all : List Invocation). Settled t (close false id body.calls) all told) (sym (append-nil made)) (settled-close t false id body.calls made told s));
        asks = ap (λ (ms : List Message). invocations_in (shown_all t ms)) goes ∙ ap invocations_in one ∙ shows ∙ sym none;
        gives = ap (λ (ms : List Message). outcomes_in (shown_all t ms)) goes ∙ ap outcomes_in one ∙ tells ∙ sym is;
        same_phase = refl;
      }

  back : (operation : Operation) (v : Option Val) → value_of (returned_with operation.code v) ≡ v
  back operation None = refl
  back operation (Some v) = refl

  answered : (role : Role) (body : Body) (id : ℤ) (value : Option Val) (answer : Option ℤ) → HasBareSet (at_role role) body → can_call (at_role role) body (the_calls.Answer id value) ≡ Ok answer
      → Called role body (the_calls.Answer id value) (Ok answer)
  answered role body id value answer bare h =
      let base : Base = at_role role in
      let c = called base body (the_calls.Answer id value) answer h in
      let open_ = opened_with false id body.calls.opens in
      let s = passed (is_stopped base body) refusals.Waiting (can_answer_open base body id open_ (operation_of base open_) value) answer c.rows in
      let x = answerable base body id open_ (operation_of base open_) value answer s.later in
      let known : operation_opened base (Some x.invocation) ≡ Some x.operation = sym (ap (operation_of base) x.is_its) ∙ x.is_it in
      let one = one_answered role body id (the_calls.Answer id value) answer x.invocation (result_apdu x.operation id value) (returned id value) bare refl refl refl
      (ap (λ (v : Option Val). returned id v ∷ []) (back x.operation value)) in
      let two = subst (λ (p : Option Operation). AnsweredSo role body id (the_calls.Answer id value) answer (Some x.invocation) (result_for id value p)) (sym known) one in
      subst (λ (o : Option OpenCall). AnsweredSo role body id (the_calls.Answer id value) answer o (result_for id value (operation_opened base o))) (sym x.is_its) two

  refused : (role : Role) (body : Body) (id : ℤ) (place : ℕ) (parameter : Option Val) (answer : Option ℤ) → HasBareSet (at_role role) body → can_call (at_role role) body (the_calls.Refuse id place parameter) ≡ Ok answer
      → Called role body (the_calls.Refuse id place parameter) (Ok answer)
  refused role body id place parameter answer bare h =
      let base : Base = at_role role in
      let c = called base body (the_calls.Refuse id place parameter) answer h in
      let open_ = opened_with false id body.calls.opens in
      let s = passed (is_stopped base body) refusals.Waiting (can_refuse_open base body id open_ (operation_of base open_) place (error_at t place) parameter) answer c.rows in
      let x = refusable base body id open_ (operation_of base open_) place (error_at t place) parameter answer s.later in
      let code : error_with t x.error.code ≡ Some place = (own_codes t).errors place x.error x.is_error in
      let one = one_answered role body id (the_calls.Refuse id place parameter) answer x.invocation (error_apdu x.error id parameter) (failed id place parameter) bare refl refl
      (ap (λ (p : Option ℕ). invocations_in (shown_error p id parameter)) code) (ap (λ (p : Option ℕ). outcomes_in (shown_error p id parameter)) code) in
      let two = subst (λ (e : Option ErrorRow). AnsweredSo role body id (the_calls.Refuse id place parameter) answer (Some x.invocation) (error_for id parameter e)) (sym x.is_error) one in
      subst (λ (o : Option OpenCall). AnsweredSo role body id (the_calls.Refuse id place parameter) answer o (error_for id parameter (error_at t place))) (sym x.is_its) two

  pub called_so : (role : Role) (body : Body) (call : Call) (answer : Option ℤ) → HasBareSet (at_role role) body → can_call (at_role role) body call ≡ Ok answer → Called role body call (Ok answer)
  called_so role body (the_calls.Invoke context place argument linked) answer bare h = invoked role body context place argument linked answer h
  called_so role body (the_calls.Answer id value) answer bare h = answered role body id value answer bare h
  called_so role body (the_calls.Refuse id place parameter) answer bare h = refused role body id place parameter answer bare h
  called_so role body the_calls.Open answer bare h = let c = called (at_role role) body the_calls.Open answer h in let e = c.in_mode in cc
  called_so role body (the_calls.Alter add delete) answer bare h = let c = called (at_role role) body (the_calls.Alter add delete) answer h in let e = c.in_mode in cc
  called_so role body the_calls.Mark answer bare h = let c = called (at_role role) body the_calls.Mark answer h in let e = c.in_mode in cc
  called_so role body the_calls.Give answer bare h = let c = called (at_role role) body the_calls.Give answer h in let e = c.in_mode in cc
  called_so role body (the_calls.Please priority) answer bare h = let c = called (at_role role) body (the_calls.Please priority) answer h in let e = c.in_mode in cc
  called_so role body (the_calls.Resync n) answer bare h = let c = called (at_role role) body (the_calls.Resync n) answer h in let e = c.in_mode in cc
  called_so role body the_calls.Interrupt answer bare h = let c = called (at_role role) body the_calls.Interrupt answer h in let e = c.in_mode in cc
  called_so role body the_calls.Resume answer bare h = let c = called (at_role role) body the_calls.Resume answer h in let e = c.in_mode in cc
  called_so role body the_calls.Discard answer bare h = let c = called (at_role role) body the_calls.Discard answer h in let e = c.in_mode in cc
  called_so role body the_calls.Recover answer bare h = let c = called (at_role role) body the_calls.Recover answer h in let e = c.in_mode in cc
  called_so role body the_calls.Release answer bare h = let c = called (at_role role) body the_calls.Release answer h in let e = c.in_mode in cc
  called_so role body the_calls.Abort answer bare h = let c = called (at_role role) body the_calls.Abort answer h in let e = c.in_mode in cc
