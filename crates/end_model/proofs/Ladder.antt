-- A ladder of refusals that ends in an acceptance: no rung of it failed.
use Rattle.std.proofs.Common.{◌≡◌, refl, true, false}
use Rattle.std.specs.Prelude.{ℤ, Bool, not, ◌&&◌, Option, Some, None, Ok, Err, if◌then◌else◌}
use Rattle.dialogue.specs.declared.call.Call.{Call}
use Rattle.dialogue.specs.declared.call.CallRefusal.{CallRefusal}
use Rattle.dialogue.specs.declared.call.CallRefusal.TheVariants as refusals
use Rattle.end_rules.specs.Base.{Base, is_bare}
use Rattle.end_rules.specs.State.{Body}
use Rattle.end_rules.specs.Invoking.{Reply, unless_refused}
use Rattle.end_rules.specs.Calling.{can_call, can_by_rows, is_dead, is_initiators, is_phase_for}
use Rattle.end_rules.specs.Calling.{is_of_bare_mode}

pub record Passed (b : Bool) (r : Reply) (answer : Option ℤ) : Type 0 where
  pub holds : b ≡ false
  pub later : r ≡ Ok answer

pub passed : (b : Bool) (refusal : CallRefusal) (r : Reply) (answer : Option ℤ) → (if b then Err refusal else r) ≡ Ok answer → Passed b r answer
passed true refusal r answer h = cc
passed false refusal r answer h = record { holds = refl; later = h }

pub record Unrefused (o : Option CallRefusal) (r : Reply) (answer : Option ℤ) : Type 0 where
  pub holds : o ≡ None
  pub later : r ≡ Ok answer

pub unrefused : (o : Option CallRefusal) (r : Reply) (answer : Option ℤ) → unless_refused o r ≡ Ok answer → Unrefused o r answer
unrefused (Some refusal) r answer h = cc
unrefused None r answer h = record { holds = refl; later = h }

pub not-true : (b : Bool) → not b ≡ false → b ≡ true
not-true true h = refl
not-true false h = cc

-- the rungs of all calls
pub record Called (base : Base) (body : Body) (call : Call) (answer : Option ℤ) : Type 0 where
  pub initiates : (is_initiators call && not base.initiator) ≡ false
  pub in_phase : is_phase_for call body.link.phase ≡ true
  pub in_mode : (is_bare base.mode && not (is_of_bare_mode call)) ≡ false
  pub rows : can_by_rows base body call ≡ Ok answer

pub called : (base : Base) (body : Body) (call : Call) (answer : Option ℤ) → can_call base body call ≡ Ok answer → Called base body call answer
called base body call answer h =
    let a = passed (is_dead body.link.phase) refusals.Dead _ answer h in
    let b = passed (is_initiators call && not base.initiator) refusals.NotInitiator _ answer a.later in
    let c = passed (not (is_phase_for call body.link.phase)) (refusals.WrongPhase body.link.phase) _ answer b.later in
    let d = passed (is_bare base.mode && not (is_of_bare_mode call)) refusals.NotNegotiated (can_by_rows base body call) answer c.later in
    record { initiates = b.holds; in_phase = not-true (is_phase_for call body.link.phase) c.holds; in_mode = d.holds; rows = d.later }
