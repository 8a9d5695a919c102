-- An invocation that was checked has a number, room and an operation.
use Rattle.std.proofs.Common.{◌≡◌, ℕ, ℤ, suc, ◌+◌, ◌<◌, min, pos, Bool, true, false, List, [], ◌∷◌, ◌++◌, map, length, Option, Some, None, Ok, refl, sym, ap, subst, ◌∙◌, arith, option_map}
use Rattle.std.specs.Prelude.{is_some, IfSome, if◌then◌else◌}
use Rattle.asn1_types.specs.declared.value.Val.{Val}
use Rattle.stub_tables.specs.declared.apdu.Apdu.{Apdu}
use Rattle.stub_tables.specs.declared.operation.Operation.{Operation}
use Rattle.stub_tables.specs.Codes.{is_silent}
use Rattle.stub_tables.specs.Lookup.{operation_at}
use Rattle.dialogue.specs.declared.call.Call.{Call}
use Rattle.dialogue.specs.declared.call.Call.TheVariants as the_calls
use Rattle.end_rules.specs.Base.{Base}
use Rattle.end_rules.specs.Messages.{Message}
use Rattle.end_rules.specs.State.{Body, Calls, opens_of}
use Rattle.end_rules.specs.Invoking.{Reply, next_id, invoke_apdu}
use Rattle.end_rules.specs.Hearing.{is_silent_at}
use Rattle.end_rules.specs.Requesting.{sent_at_once, handed_in, invoking, after_invoke, due_invoke, due_of_accepted}
use Rattle.end_rules.specs.History.{sent, after_steps}
use Rattle.association_hearing.specs.association_calls.Rooms.{HasRoom}
use Rattle.association_requests.specs.declared.accepted_call.AcceptedCall.{AcceptedCall}
use Rattle.association_requests.specs.Called.{sent_by, after_made, MadeAs}
use Rattle.association_requests.proofs.Outcomes.{nothing_more, whatever_is_open}

-- ---- what a check says

pub there : {X Y : Type 0} (f : X → Y) (o : Option X) (y : Y) → option_map f o ≡ Some y → is_some o ≡ true
there f None y h = absurd cc
there f (Some x) y h = refl

pub numbered : (o : Option Operation) (b : Body) → IfSome o (HasRoom b) → is_some o ≡ true → b.calls.made < 2147483647
numbered None b h k = absurd cc
numbered (Some operation) b h k = h.numbers

roomy_at : (base : Base) (place : ℕ) (b : Body) (o : Option Operation) → operation_at base.tables place ≡ o → IfSome o (HasRoom b) → is_some o ≡ true → is_silent_at base (Some place) ≡ false
    → length (opens_of true b.calls.opens) < 4096
roomy_at base place b None e h k s = absurd cc
roomy_at base place b (Some operation) e h k s = let t : is_silent operation ≡ false = rw e at s in h.room t

pub roomy : (base : Base) (place : ℕ) (b : Body) → IfSome (operation_at base.tables place) (HasRoom b) → is_some (operation_at base.tables place) ≡ true → is_silent_at base (Some place) ≡ false
    → length (opens_of true b.calls.opens) < 4096
roomy base place b h k s = roomy_at base place b (operation_at base.tables place) refl h k s

-- ---- its number

pub next_is : (b : Body) → b.calls.made < 2147483647 → pos (b.calls.made + 1) ≡ next_id b
next_is b h = let e : b.calls.made + 1 ≡ min (suc b.calls.made) 2147483647 = omega arith in ap pos e

-- ---- it is open, unless it is silent

module _ (base : Base) (b : Body) (context place : ℕ) (linked : Option ℤ) (h : b.calls.made < 2147483647) where
  abbrev with_call : ℤ → ℕ → Bool → Body
  with_call id made silent =
      record b {
        calls =
            if silent then record b.calls { made = made }
            else record { opens = b.calls.opens ++ record { own = true; id = id; operation = place; context = context; parent = linked } ∷ []; made = made };
      }

  one_more : b.calls.made + 1 ≡ suc b.calls.made
  one_more = omega arith

  pub silent_invoked : (calls : Calls) → is_silent_at base (Some place) ≡ true → calls ≡ record b.calls { made = b.calls.made + 1 } → record b { calls = calls } ≡ invoking base context place (next_id b) linked b
  silent_invoked calls s e = ap (λ (c : Calls). record b { calls = c }) e ∙ (λ i. with_call (next_id b) (one_more i) (sym s i))

  pub open_invoked : (calls : Calls) → is_silent_at base (Some place) ≡ false
      → calls ≡ record { opens = b.calls.opens ++ record { own = true; id = pos (b.calls.made + 1); operation = place; context = context; parent = linked } ∷ []; made = b.calls.made + 1 }
      → record b { calls = calls } ≡ invoking base context place (next_id b) linked b
  open_invoked calls s e = ap (λ (c : Calls). record b { calls = c }) e ∙ (λ i. with_call (next_is b h i) (one_more i) (sym s i))

-- ---- an invocation

module _ (base : Base) (old : Body) (context place : ℕ) (linked : Option ℤ) (argument : Option Val) where
  abbrev own_id : ℤ
  own_id = next_id old

  abbrev opened : Body
  opened = invoking base context place own_id linked old

  abbrev the_call : Call
  the_call = the_calls.Invoke context place argument linked

  abbrev after_it : Option Operation → Body
  after_it o = after_steps base (after_invoke base old context place own_id linked o argument) (map sent (due_invoke base old context own_id linked o argument))

  body_by : (o : Option Operation) (apdu : Apdu) → option_map (λ x. invoke_apdu x own_id linked argument) o ≡ Some apdu → handed_in base.mode context apdu opened ≡ after_it o
  body_by None apdu e = absurd cc
  body_by (Some x) apdu e =
      let same : apdu ≡ invoke_apdu x own_id linked argument = cc in
      ap (λ (a : Apdu). handed_in base.mode context a opened) same
      ∙ sym (nothing_more base (handed_in base.mode context (invoke_apdu x own_id linked argument) opened) old (Some context) (invoke_apdu x own_id linked argument))

  due_by : (o : Option Operation) (apdu : Apdu) → option_map (λ x. invoke_apdu x own_id linked argument) o ≡ Some apdu → sent_at_once base.mode opened (Some context) apdu ≡ due_invoke base old context own_id linked o argument
  due_by None apdu e = absurd cc
  due_by (Some x) apdu e =
      let same : apdu ≡ invoke_apdu x own_id linked argument = cc in
      whatever_is_open base.mode opened.calls old (Some context) apdu ∙ ap (λ (a : Apdu). sent_at_once base.mode old (Some context) a) same

  abbrev due_answered : Option ℤ → List Message
  due_answered x = due_of_accepted base old the_call x

  abbrev after_answered : Option ℤ → Body
  after_answered x = after_made base old the_call x

  made_as : (can : Reply) (new : Body) (made : AcceptedCall) → can ≡ Ok (Some own_id) → made.answer ≡ Some own_id → sent_by made ≡ due_invoke base old context own_id linked (operation_at base.tables place) argument
      → new ≡ after_it (operation_at base.tables place) → MadeAs can base old new the_call made
  made_as can new made c a d b =
      let F : Option ℤ → Type 0 = λ (x : Option ℤ). (can ≡ Ok x) × (sent_by made ≡ due_answered x) × (new ≡ after_answered x) in
      let all : F made.answer = subst F (sym a) (c, d, b) in
      record { answer = all.0; due = all.1; body = all.2 }

  pub invoke_made : (can : Reply) (mid new : Body) (id : ℤ) (apdu : Apdu) (made : AcceptedCall)
      → (can ≡ Ok (Some own_id)) × (option_map (λ x. invoke_apdu x own_id linked argument) (operation_at base.tables place) ≡ Some apdu)
      → id ≡ own_id → mid ≡ opened → made.answer ≡ Some id → sent_by made ≡ sent_at_once base.mode mid (Some context) apdu → new ≡ handed_in base.mode context apdu mid
      → MadeAs can base old new the_call made
  invoke_made can mid new id apdu made checked i m a d b =
      made_as can new made checked.0 (a ∙ ap Some i)
      (d ∙ ap (λ (x : Body). sent_at_once base.mode x (Some context) apdu) m ∙ due_by (operation_at base.tables place) apdu checked.1)
      (b ∙ ap (handed_in base.mode context apdu) m ∙ body_by (operation_at base.tables place) apdu checked.1)
