-- Only a message that is sent or taken can bring the turn; a call sends one message or none.
use Rattle.std.proofs.Common.{◌≡◌, refl, ◌∙◌, sym, ap, ℕ, List, [], ◌∷◌, true, false, None, Ok, Err}
use Rattle.std.specs.Prelude.{Bool, not, ◌&&◌, Option, Some, ℤ, if◌then◌else◌}
use Rattle.asn1_types.specs.declared.value.Val.{Val}
use Rattle.stub_tables.specs.declared.operation.Operation.{Operation}
use Rattle.stub_tables.specs.declared.apdu.Apdu.{Apdu}
use Rattle.stub_tables.specs.Lookup.{operation_at, error_at}
use Rattle.dialogue.specs.declared.call.Call.{Call}
use Rattle.dialogue.specs.declared.call.Call.TheVariants as the_calls
use Rattle.dialogue.specs.declared.call.CallRefusal.{CallRefusal}
use Rattle.dialogue.specs.declared.call.CallRefusal.TheVariants as refusals
use Rattle.dialogue.specs.declared.config.Mode.{Mode}
use Rattle.dialogue.specs.declared.config.Mode.TheVariants.{Bare, Direct, Reliable}
use Rattle.dialogue.specs.declared.config.Phase.{Phase}
use Rattle.dialogue.specs.declared.config.Phase.TheVariants as phases
use Rattle.end_model.specs.end_rules.Base.{Base, is_reliable}
use Rattle.end_model.specs.end_rules.Messages.{Message}
use Rattle.end_model.specs.end_rules.State.{Body, Link, OpenCall, is_up, is_restarting, holds_turn, opened_with, is_carrying, cut_all}
use Rattle.end_model.specs.end_rules.Invoking.{Reply, carrier_in, invoke_apdu}
use Rattle.end_model.specs.end_rules.Writing.{user_abort}
use Rattle.end_model.specs.end_rules.Requesting.{handed_in, invoking, after_invoke, after_outcome, answering, result_in, error_for, after_accepted, after_refused, after_call, sent_at_once, due_invoke, due_outcome, due_of}
use Rattle.end_model.specs.end_rules.History.{Step, called, sent, encoded, fed, took, answered, passed, fault, aborted, feed_end, gave, broke, after_step, broken_phase, off_line, after_broke}

and-first : (a b : Bool) → (a && b) ≡ true → a ≡ true
and-first true b h = refl
and-first false b h = cc

and-second : (a b : Bool) → (a && b) ≡ true → b ≡ true
and-second true b h = h
and-second false b h = cc

-- what one must be to hold the turn
pub is-up-holding : (body : Body) → holds_turn body ≡ true → is_up body.link.phase ≡ true
is-up-holding body h = and-second body.link.turn (is_up body.link.phase) (and-first (body.link.turn && is_up body.link.phase) (not (is_restarting body.link.awaits)) h)

no : false ≡ true → ⊥
no e = cc

-- by the link alone
same-link : (body later : Body) → later.link ≡ body.link → holds_turn later ≡ true → holds_turn body ≡ true
same-link body later e h = ap (λ (l : Link). l.turn && is_up l.phase && not (is_restarting l.awaits)) (sym e) ∙ h

abbrev Gains : Body → Body → Type 0
Gains body later = holds_turn later ≡ true → holds_turn body ≡ true

-- ---- calls

handed-link : (mode : Mode) (context : ℕ) (apdu : Apdu) (body : Body) → (handed_in mode context apdu body).link ≡ body.link
handed-link Reliable context apdu body = refl
handed-link Direct context apdu body = refl
handed-link Bare context apdu body = refl

invoke-link : (base : Base) (body : Body) (context place : ℕ) (id : ℤ) (linked : Option ℤ) (o : Option Operation) (argument : Option Val) → (after_invoke base body context place id linked o argument).link ≡ body.link
invoke-link base body context place id linked None argument = refl
invoke-link base body context place id linked (Some operation) argument = handed-link base.mode context _ (invoking base context place id linked body)

outcome-link : (base : Base) (body : Body) (id : ℤ) (o : Option OpenCall) (apdu : Option Apdu) → (after_outcome base body id o apdu).link ≡ body.link
outcome-link base body id (Some o) (Some apdu) = handed-link base.mode o.context apdu (answering id body)
outcome-link base body id (Some o) None = refl
outcome-link base body id None apdu = refl

accepted-gains : (base : Base) (body : Body) (call : Call) (answer : Option ℤ) → Gains body (after_accepted base body call answer)
accepted-gains base body (the_calls.Invoke context operation argument linked) (Some id) h =
    same-link body (after_invoke base body context operation id linked (operation_at base.tables operation) argument) (invoke-link base body context operation id linked (operation_at base.tables operation) argument) h
accepted-gains base body (the_calls.Invoke context operation argument linked) None h = h
accepted-gains base body (the_calls.Answer id result) answer h =
    same-link body (after_outcome base body id (opened_with false id body.calls.opens) (result_in base body id result)) (outcome-link base body id (opened_with false id body.calls.opens) (result_in base body id result)) h
accepted-gains base body (the_calls.Refuse id error parameter) answer h =
    same-link body (after_outcome base body id (opened_with false id body.calls.opens) (error_for id parameter (error_at base.tables error)))
    (outcome-link base body id (opened_with false id body.calls.opens) (error_for id parameter (error_at base.tables error))) h
accepted-gains base body the_calls.Open answer h = absurd (no (is-up-holding (after_accepted base body the_calls.Open answer) h))
accepted-gains base body the_calls.Recover answer h = absurd (no (is-up-holding (after_accepted base body the_calls.Recover answer) h))
accepted-gains base body the_calls.Abort answer h = absurd (no (is-up-holding (after_accepted base body the_calls.Abort answer) h))
accepted-gains base body (the_calls.Alter add delete) answer h = h
accepted-gains base body the_calls.Mark answer h = h
accepted-gains base body the_calls.Give answer h = h
accepted-gains base body (the_calls.Please priority) answer h = h
accepted-gains base body (the_calls.Resync n) answer h = h
accepted-gains base body the_calls.Interrupt answer h = h
accepted-gains base body the_calls.Resume answer h = h
accepted-gains base body the_calls.Discard answer h = h
accepted-gains base body the_calls.Release answer h = h

refused-gains : (body : Body) (refusal : CallRefusal) → Gains body (after_refused body refusal)
refused-gains body refusals.NoMemory h = absurd (no (is-up-holding (after_refused body refusals.NoMemory) h))
refused-gains body _ h = h

called-gains : (base : Base) (body : Body) (call : Call) (reply : Reply) → Gains body (after_call base body call reply)
called-gains base body call (Ok answer) h = accepted-gains base body call answer h
called-gains base body call (Err refusal) h = refused-gains body refusal h

-- ---- a break

broken-down : (mode : Mode) (phase : Phase) → is_up (broken_phase mode phase) ≡ false
broken-down mode phases.Idle = refl
broken-down mode phases.Over = refl
broken-down mode phases.Dead = refl
broken-down mode phases.Opening = refl
broken-down Reliable phases.Up = refl
broken-down Direct phases.Up = refl
broken-down Bare phases.Up = refl
broken-down Reliable phases.Releasing = refl
broken-down Direct phases.Releasing = refl
broken-down Bare phases.Releasing = refl
broken-down Reliable phases.Broken = refl
broken-down Direct phases.Broken = refl
broken-down Bare phases.Broken = refl
broken-down Reliable phases.Recovering = refl
broken-down Direct phases.Recovering = refl
broken-down Bare phases.Recovering = refl

broke-phase : (base : Base) (body : Body) → (after_broke base body).link.phase ≡ broken_phase base.mode body.link.phase
broke-phase base body = go (is_reliable base.mode)
  where
    go : (b : Bool) → (if b then off_line base body else cut_all (off_line base body)).link.phase ≡ broken_phase base.mode body.link.phase
    go true = refl
    go false = refl

broke-gains : (base : Base) (body : Body) → Gains body (after_broke base body)
broke-gains base body h = absurd (no (sym (broken-down base.mode body.link.phase) ∙ ap is_up (sym (broke-phase base body)) ∙ is-up-holding (after_broke base body) h))

-- ---- steps that bring the turn to nobody

abbrev pub IsCalm : Step → Type 0
IsCalm (called call reply) = Unit {0}
IsCalm (fed octets) = Unit {0}
IsCalm (answered to answer) = Unit {0}
IsCalm passed = Unit {0}
IsCalm feed_end = Unit {0}
IsCalm (gave n) = Unit {0}
IsCalm broke = Unit {0}
IsCalm _ = ⊥

pub gains-not : (base : Base) (body : Body) (x : Step) → IsCalm x → holds_turn (after_step base body x) ≡ true → holds_turn body ≡ true
gains-not base body (called call reply) n h = called-gains base body call reply h
gains-not base body (sent message) n h = absurd n
gains-not base body (encoded context) n h = absurd n
gains-not base body (fed octets) n h = h
gains-not base body (took message) n h = absurd n
gains-not base body (answered to answer) n h = h
gains-not base body passed n h = h
gains-not base body (fault layer place reason) n h = absurd n
gains-not base body (aborted message) n h = absurd n
gains-not base body feed_end n h = h
gains-not base body (gave k) n h = h
gains-not base body broke n h = broke-gains base body h

-- ---- a call sends one message or none

abbrev pub AreFew : List Message → Type 0
AreFew [] = Unit {0}
AreFew (m ∷ []) = Unit {0}
AreFew (m ∷ n ∷ ms) = ⊥

at-once-few : (mode : Mode) (body : Body) (id : Option ℕ) (apdu : Apdu) → AreFew (sent_at_once mode body id apdu)
at-once-few Reliable body id apdu = tt
at-once-few Direct body None apdu = tt
at-once-few Bare body None apdu = tt
at-once-few Direct body (Some id) apdu = tt
at-once-few Bare body (Some id) apdu = tt

invoke-few : (base : Base) (body : Body) (context : ℕ) (id : ℤ) (linked : Option ℤ) (o : Option Operation) (argument : Option Val) → AreFew (due_invoke base body context id linked o argument)
invoke-few base body context id linked None argument = tt
invoke-few base body context id linked (Some operation) argument = at-once-few base.mode body (Some context) (invoke_apdu operation id linked argument)

outcome-few : (base : Base) (body : Body) (o : Option OpenCall) (apdu : Option Apdu) → AreFew (due_outcome base body o apdu)
outcome-few base body (Some o) (Some apdu) = at-once-few base.mode body (carrier_in base body o.context) apdu
outcome-few base body (Some o) None = tt
outcome-few base body None apdu = tt

abort-few : (b : Bool) (m : Message) → AreFew (if b then m ∷ [] else [])
abort-few true m = tt
abort-few false m = tt

pub due-few : (base : Base) (body : Body) (call : Call) (answer : Option ℤ) → AreFew (due_of base body call (Ok answer))
due-few base body the_calls.Open answer = tt
due-few base body (the_calls.Invoke context operation argument linked) (Some id) = invoke-few base body context id linked (operation_at base.tables operation) argument
due-few base body (the_calls.Invoke context operation argument linked) None = tt
due-few base body (the_calls.Answer id result) answer = outcome-few base body (opened_with false id body.calls.opens) (result_in base body id result)
due-few base body (the_calls.Refuse id error parameter) answer = outcome-few base body (opened_with false id body.calls.opens) (error_for id parameter (error_at base.tables error))
due-few base body (the_calls.Alter add delete) answer = tt
due-few base body the_calls.Mark answer = tt
due-few base body the_calls.Give answer = tt
due-few base body (the_calls.Please priority) answer = tt
due-few base body (the_calls.Resync n) answer = tt
due-few base body the_calls.Interrupt answer = tt
due-few base body the_calls.Resume answer = tt
due-few base body the_calls.Discard answer = tt
due-few base body the_calls.Recover answer = tt
due-few base body the_calls.Release answer = tt
due-few base body the_calls.Abort answer = abort-few (is_carrying body.link.stage) (user_abort body.link.accepted 0 [])
