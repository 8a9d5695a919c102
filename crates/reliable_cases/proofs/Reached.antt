-- What is played is reached.
use Rattle.std.proofs.Common.{◌≡◌, refl, subst, List, [], ◌∷◌}
use Rattle.std.specs.Prelude.{Option, Some, None, Ok, Err}
use Rattle.dialogue.specs.declared.call.Call.{Call}
use Rattle.end_rules.specs.Messages.{Message}
use Rattle.end_rules.specs.Invoking.{Reply}
use Rattle.end_rules.specs.Calling.{can_call}
use Rattle.end_rules.specs.ByItself.{OwnAct, next_own}
use Rattle.end_rules.specs.Reacting.{Reaction, Passes, Takes, Fails, react}
use Rattle.agreement.specs.Sets.{Role}
use Rattle.agreement.specs.Sets.Role.{Initiator, Responder}
use Rattle.end_model.specs.BothEnds.{Common, base_at, body_at, coming_to}
use Rattle.reliable_model.specs.Ledgers.{ReachedWithLedger, begins, calls, acts, takes, passes, breaks}
use Rattle.reliable_cases.specs.Played.{Event, Calls, Acts, Takes_, Breaks, Place, telling, after_call_at, after_own_at, after_reaction, after_coming, after_event, played_on, PlayedIsReached}

one-place : (p q : Place) → Some p ≡ Some q → p ≡ q
one-place p q h = cc

module _ (common : Common) where
  abbrev At : Place → Type 0
  At place = ReachedWithLedger common place.two place.ledger

  to : (p q : Place) → Some p ≡ Some q → At p → At q
  to p q h g = subst At (one-place p q h) g

  told : (role : Role) (place : Place) (shown : List _) → At place → At (telling role shown place)
  told Initiator place shown g = g
  told Responder place shown g = g

  calls-so : (role : Role) (call : Call) (place q : Place) (r : Reply) → can_call (base_at role common) (body_at role place.two) call ≡ r → At place → after_call_at common role call place r ≡ Some q → At q
  calls-so role call place q (Ok answer) e g h = to _ q h (calls place.two place.ledger role call answer g e)
  calls-so role call place q (Err refusal) e g h = cc

  acts-so : (role : Role) (place q : Place) (o : Option OwnAct) → next_own (base_at role common) (body_at role place.two) ≡ o → At place → after_own_at common role place o ≡ Some q → At q
  acts-so role place q (Some own) e g h = to _ q h (acts place.two place.ledger role own g e)
  acts-so role place q None e g h = cc

  reacts-so : (role : Role) (message : Message) (left : List Message) (place q : Place) (r : Reaction) → coming_to role place.two ≡ message ∷ left → react (base_at role common) (body_at role place.two) message ≡ r → At place → after_reaction common role message left place r ≡ Some q → At q
  reacts-so role message left place q (Takes body answers shown) c e g h =
      to _ q h (told role _ shown (takes place.two place.ledger role message left body answers shown g c e))
  reacts-so role message left place q Passes c e g h = to _ q h (passes place.two place.ledger role message left g c e)
  reacts-so role message left place q (Fails fault body aborts shown) c e g h = cc

  comes-so : (role : Role) (place q : Place) (ms : List Message) → coming_to role place.two ≡ ms → At place → after_coming common role place ms ≡ Some q → At q
  comes-so role place q [] c g h = cc
  comes-so role place q (message ∷ left) c g h = reacts-so role message left place q (react (base_at role common) (body_at role place.two) message) c refl g h

  event-so : (event : Event) (place q : Place) → At place → after_event common event place ≡ Some q → At q
  event-so (Calls role call) place q g h = calls-so role call place q (can_call (base_at role common) (body_at role place.two) call) refl g h
  event-so (Acts role) place q g h = acts-so role place q (next_own (base_at role common) (body_at role place.two)) refl g h
  event-so (Takes_ role) place q g h = comes-so role place q (coming_to role place.two) refl g h
  event-so Breaks place q g h = to _ q h (breaks place.two place.ledger g)

  -- of a place that may be there
  abbrev AtSome : Option Place → Type 0
  AtSome None = Unit {0}
  AtSome (Some place) = At place

  events-so : (events : List Event) (o : Option Place) (q : Place) → AtSome o → played_on common events o ≡ Some q → At q
  events-so events None q g h = cc
  events-so [] (Some place) q g h = to place q h g
  events-so (event ∷ events) (Some place) q g h = events-so events (after_event common event place) q (next (after_event common event place) refl) h
    where
      next : (o : Option Place) → after_event common event place ≡ o → AtSome o
      next None e = tt
      next (Some p) e = event-so event place p g e

pub played-reached : PlayedIsReached
played-reached common events place h = events-so common events (Some _) place begins h
