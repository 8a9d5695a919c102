-- What else is kept between moments and messages, whatever it is, where each kind of step keeps it.
use Rattle.std.proofs.Common.{◌≡◌, List, [], ◌∷◌, map, Ok, Err}
use Rattle.std.specs.Prelude.{Option, Some, ℤ}
use Rattle.osi_base.specs.declared.layer_words.Side.TheVariants.{A, B}
use Rattle.dialogue.specs.declared.call.Call.{Call}
use Rattle.dialogue.specs.declared.indication.Indication.{Indication}
use Rattle.end_model.specs.end_rules.Messages.{Message}
use Rattle.end_model.specs.end_rules.State.{Body}
use Rattle.end_model.specs.end_rules.Calling.{can_call}
use Rattle.end_model.specs.end_rules.Requesting.{due_of}
use Rattle.end_model.specs.end_rules.ByItself.{OwnAct, next_own}
use Rattle.end_model.specs.end_rules.Reacting.{Passes, Takes, react}
use Rattle.end_model.specs.end_rules.History.{Step, called, sent, fed, passed, feed_end, gave, broke, after_step, step_of}
use Rattle.end_model.specs.end_rules.World.{World}
use Rattle.agreement.specs.Sets.{Role}
use Rattle.agreement.specs.Sets.Role.{Initiator}
use Rattle.end_model.specs.Requests.{after_called}
use Rattle.end_model.specs.Sharing.{side_of}
use Rattle.end_model.specs.Acting.{apdus_of}
use Rattle.end_model.specs.BothEnds.{Common, base_at, Two, two_new, body_at, coming_to, stepped, both_broke}
use Rattle.outcome_laws.specs.reliable_model.Ledgers.{Ledger, first_ledger, after_sending, after_own, after_taking, own_messages}
use Rattle.outcome_laws.specs.Exchanges.{Exchanges, on_exchange, calls_so, asked_by, gets, stays, takes_so, meets, loses, nothing_exchanged}
use Rattle.association_line.specs.Feeding.{taking}
use Rattle.association_runs.specs.Worlds.{stepping}
use Rattle.association_runs.proofs.Histories.{end_for}
use Rattle.association_runs.proofs.Joint.{Joint}

-- a step that neither sends nor takes
abbrev pub IsQuiet : Step → Type 0
IsQuiet (called call (Err refusal)) = Unit {0}
IsQuiet (fed octets) = Unit {0}
IsQuiet feed_end = Unit {0}
IsQuiet (gave n) = Unit {0}
IsQuiet _ = ⊥

pub record Keeps (common : Common) (Extra : World → Two → Ledger → Exchanges → Type 0) : Type 0 where
  pub begins : Extra [] (two_new common) (first_ledger common) (record { a = nothing_exchanged; b = nothing_exchanged })
  pub calls : (role : Role) (w : World) (two : Two) (ledger : Ledger) (exchanges : Exchanges) (call : Call) (answer : Option ℤ) → Joint common w two ledger exchanges
      → can_call (base_at role common) (end_for common role w).body call ≡ Ok answer → Extra w two ledger exchanges
      → Extra (stepping (side_of role) w (called call (Ok answer) ∷ map sent (due_of (base_at role common) (end_for common role w).body call (Ok answer))))
      (stepped role (after_called common.mode (base_at role common) (end_for common role w).body call answer) (coming_to role two) (due_of (base_at role common) (end_for common role w).body call (Ok answer)) two)
      (after_sending common role (due_of (base_at role common) (end_for common role w).body call (Ok answer)) ledger)
      (on_exchange role (calls_so (apdus_of (base_at role common) (end_for common role w).body call answer) (asked_by call answer)) (gets (due_of (base_at role common) (end_for common role w).body call (Ok answer))) exchanges)
  pub acts : (role : Role) (w : World) (two : Two) (ledger : Ledger) (exchanges : Exchanges) (own : OwnAct) → Joint common w two ledger exchanges
      → next_own (base_at role common) (end_for common role w).body ≡ Some own → Extra w two ledger exchanges
      → Extra (stepping (side_of role) w (step_of own ∷ []))
      (stepped role (after_step (base_at role common) (end_for common role w).body (step_of own)) (coming_to role two) (own_messages own) two) (after_own common role (body_at role two) own ledger)
      (on_exchange role stays (gets (own_messages own)) exchanges)
  pub takes : (role : Role) (w : World) (two : Two) (ledger : Ledger) (exchanges : Exchanges) (message : Message) (left : List Message) (body : Body) (answers : List Message) (shown : List Indication) → Joint common w two ledger exchanges
      → coming_to role two ≡ message ∷ left → react (base_at role common) (body_at role two) message ≡ Takes body answers shown → Extra w two ledger exchanges
      → Extra (stepping (side_of role) w (taking message answers)) (stepped role body left answers two) (after_taking common role (body_at role two) message answers ledger)
      (on_exchange role (takes_so (base_at role common) (body_at role two) message shown) (gets answers) exchanges)
  pub passes : (role : Role) (w : World) (two : Two) (ledger : Ledger) (exchanges : Exchanges) (message : Message) (left : List Message) → Joint common w two ledger exchanges
      → coming_to role two ≡ message ∷ left → react (base_at role common) (body_at role two) message ≡ Passes → Extra w two ledger exchanges
      → Extra (stepping (side_of role) w (passed ∷ [])) (stepped role (body_at role two) left [] two) ledger (on_exchange role (meets message) stays exchanges)
  pub quiet : (role : Role) (w : World) (two : Two) (ledger : Ledger) (exchanges : Exchanges) (x : Step) → IsQuiet x → Extra w two ledger exchanges → Extra (record { side = side_of role; step = x } ∷ w) two ledger exchanges
  pub breaks : (w : World) (two : Two) (ledger : Ledger) (exchanges : Exchanges) → Joint common w two ledger exchanges → Extra w two ledger exchanges
      → Extra (record { side = B; step = broke } ∷ record { side = A; step = broke } ∷ w) (both_broke common two) ledger (on_exchange Initiator loses loses exchanges)
