-- Activities (X.225 7.29 to 7.36, X.228 7; what is kept and restored is this project's own rule).
use Rattle.std.specs.Prelude.{ℕ, ℤ, List, [], ◌∷◌, ◌++◌, true, false, nat_eq, if◌then◌else◌, Option, Some, None, is_some, Result, Ok, Err}
use Rattle.stub_tables.specs.declared.apdu.Apdu.{Apdu}
use Rattle.stub_tables.specs.declared.apdu.Apdu.TheVariants as apdus
use Rattle.dialogue.specs.declared.indication.Indication.{Indication}
use Rattle.dialogue.specs.declared.indication.Indication.TheVariants as indications
use Rattle.end_rules.specs.Base.{Base, Fault, Arrived, Whole, Raw}
use Rattle.end_rules.specs.Messages.{DataValue, Remote, Unread, ActivityWord, Start, Resume, End, EndAck, Interrupt, InterruptAck, Discard, DiscardAck, OfActivities, Message, Session}
use Rattle.end_rules.specs.State.{Body, NoAnswer, Receiving, Transfer, Suspended, Calls, joined, up_to, resumed_set, between, on_transfer, opened_with, close}
use Rattle.end_rules.specs.Hearing.{Taken, take_values}
use Rattle.end_rules.specs.Faults.{losses}

-- ---- the value that a transfer brings: at its end, where its number wasn't handed up, read under the held set

abbrev pub arrived_now : Base → Body → Result Arrived Fault
arrived_now base body = base.spellings.arrived body.sets.held (joined body.receiving.pieces)

abbrev pub arrived_value : Arrived → DataValue
arrived_value (Whole item) = record { id = item.id; pair = Some item.pair; content = Remote item.apdu }
arrived_value (Raw id pair octets) = record { id = id; pair = Some pair; content = Unread octets }

abbrev pub values_arrived : Result Arrived Fault → List DataValue
values_arrived (Ok arrived) = arrived_value arrived ∷ []
values_arrived (Err fault) = []

abbrev pub handed_up : Base → Body → List DataValue
handed_up base body = if body.receiving.was_handed then [] else values_arrived (arrived_now base body)

abbrev pub fault_in : Result Arrived Fault → Option Fault
fault_in (Ok arrived) = None
fault_in (Err fault) = Some fault

abbrev pub end_fault : Base → Body → Option Fault
end_fault base body = if body.receiving.was_handed then None else fault_in (arrived_now base body)

-- ---- what changes

abbrev pub received : (Receiving → Receiving) → Body → Body
received change body = record body { receiving = change body.receiving }

-- both ends keep the held set as the inter-activity set
abbrev pub keeping : Body → Body
keeping body = record body { sets = record body.sets { inter = body.sets.held } }

abbrev pub started_record : ℕ → Receiving
started_record activity = record { last = activity; pieces = []; was_handed = false; active = true }

-- the record of a resumed activity goes back to the mark; a resumption of the next activity begins it
abbrev pub resumed_record : ℕ → ℕ → Receiving → Receiving
resumed_record activity mark receiving =
    if nat_eq activity receiving.last then record receiving { pieces = up_to mark receiving.pieces; active = true }
    else started_record activity

abbrev pub after_resume : ℕ → ℕ → Body → Body
after_resume activity mark body =
    record body {
      receiving = resumed_record activity mark body.receiving;
      sets = record body.sets { inter = body.sets.held; held = resumed_set mark body.receiving.pieces body.sets.held };
    }

-- what arrived is read before the inter-activity set comes back
abbrev pub taken_at_end : Base → Body → Taken
taken_at_end base body =
    take_values base (received (λ r. record r { was_handed = true; active = false }) body) (handed_up base body)

-- no own alteration is left, and nothing is waited for
abbrev pub calmed : Body → Body
calmed body = record body { link = record body.link { awaits = NoAnswer }; sets = record body.sets { own = [] } }

-- a discarded transfer is forgotten; an invocation in it is cut
abbrev pub invocation_in : Option Transfer → Option ℤ
invocation_in None = None
invocation_in (Some transfer) = id_in transfer.item.apdu
  where
    id_in : Apdu → Option ℤ
    id_in (apdus.Invoke id linked code argument) = Some id
    id_in _ = None

abbrev pub cut_invocation : Option ℤ → Calls → Calls
cut_invocation None calls = calls
cut_invocation (Some id) calls = close true id calls

abbrev pub shown_cut : Option ℤ → Calls → List Indication
shown_cut None calls = []
shown_cut (Some id) calls = if is_some (opened_with true id calls.opens) then indications.Cut true id ∷ [] else []

abbrev pub without_current : Body → Body
without_current body = record body { sending = record body.sending { current = None } }

abbrev pub after_discard : Body → Body
after_discard body =
    between (without_current (record (calmed body) { calls = cut_invocation (invocation_in body.sending.current) body.calls }))

-- ---- the four answers of a taking

abbrev pub activity_fault : Base → Body → ActivityWord → Option Fault
activity_fault base body (End number) = end_fault base body
activity_fault base body _ = None

abbrev pub after_activity : Base → Body → ActivityWord → Body
after_activity base body (Start activity) = keeping (received (λ r. started_record activity) body)
after_activity base body (Resume activity mark) = after_resume activity mark body
after_activity base body (End number) = between (taken_at_end base body).body
after_activity base body (EndAck number) = between (without_current body)
after_activity base body (Interrupt reason) = between (received (λ r. record r { active = false }) body)
after_activity base body InterruptAck = between (calmed (on_transfer (λ (t : Transfer). record t { progress = Suspended }) body))
after_activity base body (Discard reason) = between (received (λ r. record r { pieces = []; active = false }) body)
after_activity base body DiscardAck = after_discard body

abbrev pub answers_to_activity : Base → Body → ActivityWord → List Message
answers_to_activity base body (End number) = Session (OfActivities (EndAck number)) ∷ []
answers_to_activity base body (Interrupt reason) = Session (OfActivities InterruptAck) ∷ []
answers_to_activity base body (Discard reason) = Session (OfActivities DiscardAck) ∷ []
answers_to_activity base body _ = []

abbrev pub shown_of_activity : Base → Body → ActivityWord → List Indication
shown_of_activity base body (Start activity) = []
shown_of_activity base body (Resume activity mark) = indications.Resumed activity mark ∷ []
shown_of_activity base body (End number) = (taken_at_end base body).shown
shown_of_activity base body (EndAck number) = indications.Transferred body.sending.started ∷ []
shown_of_activity base body (Interrupt reason) = indications.Interrupted body.receiving.last ∷ []
shown_of_activity base body InterruptAck = losses body ++ indications.Interrupted body.sending.started ∷ []
shown_of_activity base body (Discard reason) = indications.Discarded body.receiving.last ∷ []
shown_of_activity base body DiscardAck =
    losses body ++ shown_cut (invocation_in body.sending.current) body.calls ++ indications.Discarded body.sending.started ∷ []
