-- What two ends reach by a list of events, computed: nothing where an event can't happen.
use Rattle.std.specs.Prelude.{◌≡◌, List, [], ◌∷◌, ◌++◌, Option, Some, None, Ok, Err}
use Rattle.dialogue.specs.declared.call.Call.{Call}
use Rattle.dialogue.specs.declared.indication.Indication.{Indication}
use Rattle.end_rules.specs.Messages.{Message}
use Rattle.end_rules.specs.Invoking.{Reply}
use Rattle.end_rules.specs.Calling.{can_call}
use Rattle.end_rules.specs.Requesting.{due_of}
use Rattle.end_rules.specs.ByItself.{OwnAct, next_own}
use Rattle.end_rules.specs.Reacting.{Reaction, Passes, Takes, Fails, react}
use Rattle.end_rules.specs.History.{after_step, step_of}
use Rattle.agreement.specs.Sets.{Role}
use Rattle.agreement.specs.Sets.Role.{Initiator, Responder}
use Rattle.end_model.specs.Requests.{after_called}
use Rattle.end_model.specs.BothEnds.{Common, base_at, Two, two_new, body_at, coming_to, stepped, both_broke}
use Rattle.reliable_model.specs.Ledgers.{Ledger, first_ledger, own_messages, after_sending, after_own, after_taking, ReachedWithLedger}

-- a call of an end, a step that it makes by itself, the taking of what comes next to it, a break
pub data Event : Type 0 where
  Calls : Role → Call → Event
  Acts : Role → Event
  Takes_ : Role → Event
  Breaks : Event

-- where two ends are, and what each was told, the oldest first
pub record Place : Type 0 where
  pub two : Two
  pub ledger : Ledger
  pub told_a : List Indication
  pub told_b : List Indication

abbrev pub start_of : Common → Place
start_of common = record { two = two_new common; ledger = first_ledger common; told_a = []; told_b = [] }

abbrev pub telling : Role → List Indication → Place → Place
telling Initiator shown place = record place { told_a = place.told_a ++ shown }
telling Responder shown place = record place { told_b = place.told_b ++ shown }

abbrev pub after_call_at : Common → Role → Call → Place → Reply → Option Place
after_call_at common role call place (Ok answer) =
    Some (record place {
      two = stepped role (after_called common.mode (base_at role common) (body_at role place.two) call answer)
          (coming_to role place.two) (due_of (base_at role common) (body_at role place.two) call (Ok answer)) place.two;
      ledger = after_sending common role (due_of (base_at role common) (body_at role place.two) call (Ok answer)) place.ledger;
    })
after_call_at common role call place (Err refusal) = None

abbrev pub after_own_at : Common → Role → Place → Option OwnAct → Option Place
after_own_at common role place (Some own) =
    Some (record place {
      two = stepped role (after_step (base_at role common) (body_at role place.two) (step_of own)) (coming_to role place.two) (own_messages own) place.two;
      ledger = after_own common role (body_at role place.two) own place.ledger;
    })
after_own_at common role place None = None

abbrev pub after_reaction : Common → Role → Message → List Message → Place → Reaction → Option Place
after_reaction common role message left place (Takes body answers shown) =
    Some (telling role shown (record place {
      two = stepped role body left answers place.two;
      ledger = after_taking common role (body_at role place.two) message answers place.ledger;
    }))
after_reaction common role message left place Passes = Some (record place { two = stepped role (body_at role place.two) left [] place.two })
after_reaction common role message left place (Fails fault body aborts shown) = None

abbrev pub after_coming : Common → Role → Place → List Message → Option Place
after_coming common role place [] = None
after_coming common role place (message ∷ left) = after_reaction common role message left place (react (base_at role common) (body_at role place.two) message)

abbrev pub after_event : Common → Event → Place → Option Place
after_event common (Calls role call) place = after_call_at common role call place (can_call (base_at role common) (body_at role place.two) call)
after_event common (Acts role) place = after_own_at common role place (next_own (base_at role common) (body_at role place.two))
after_event common (Takes_ role) place = after_coming common role place (coming_to role place.two)
after_event common Breaks place = Some (record place { two = both_broke common place.two })

abbrev pub played_on : Common → List Event → Option Place → Option Place
played_on common events None = None
played_on common [] (Some place) = Some place
played_on common (event ∷ events) (Some place) = played_on common events (after_event common event place)

abbrev pub played : Common → List Event → Option Place
played common events = played_on common events (Some (start_of common))

-- What is played is reached.
abbrev pub PlayedIsReached : Type 0
PlayedIsReached = (common : Common) (events : List Event) (place : Place) → played common events ≡ Some place → ReachedWithLedger common place.two place.ledger

-- All events happen, and this holds of where they lead.
abbrev pub Leads : Common → List Event → (Place → Type 0) → Type 0
Leads common events Law = (place : Place) × (played common events ≡ Some place) × ReachedWithLedger common place.two place.ledger × Law place
