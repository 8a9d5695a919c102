-- What a call that was accepted changes and sends, and what the sending of a request changes (X.225 7, X.226 6, X.228 7).
use Rattle.std.specs.Prelude.{ℕ, zero, suc, ℤ, List, [], ◌∷◌, ◌++◌, true, false, if◌then◌else◌, Option, Some, None, Ok, Err}
use Rattle.asn1_types.specs.declared.value.Val.{Val}
use Rattle.stub_tables.specs.declared.operation.Operation.{Operation}
use Rattle.stub_tables.specs.declared.operation.ErrorRow.{ErrorRow}
use Rattle.stub_tables.specs.declared.apdu.Apdu.{Apdu}
use Rattle.stub_tables.specs.Lookup.{operation_at, error_at}
use Rattle.dialogue.specs.declared.config.Mode.{Mode}
use Rattle.dialogue.specs.declared.config.Mode.TheVariants.{Bare, Direct, Reliable}
use Rattle.dialogue.specs.declared.config.Phase.TheVariants.{Opening, Releasing, Recovering, Dead}
use Rattle.dialogue.specs.declared.call.Call.{Call}
use Rattle.dialogue.specs.declared.call.Call.TheVariants as the_calls
use Rattle.dialogue.specs.declared.call.CallRefusal.{CallRefusal}
use Rattle.dialogue.specs.declared.call.CallRefusal.TheVariants.{NoMemory}
use Rattle.end_rules.specs.Base.{Base}
use Rattle.end_rules.specs.Sets.{listed, next_number}
use Rattle.end_rules.specs.Messages.{Message, Transport, Session, Word, OfAssociation, OfData, OfMarks, OfActivities, AssociationWord, Finish, DataWord, Values, AlterContext, MarkWord, Mark, Restart, Give, GiveConfirm, ActivityWord, Start, Resume, End, Interrupt, Discard, TransportUnit, ConnectionRequest, DataValue}
use Rattle.end_rules.specs.State.{Body, Asked, RestartOf, InterruptOf, DiscardOf, ReleaseOf, OpenCall, Queued, Octets, Marked, Running, Ending, Encoded, Transfer, Sending, on_transfer, in_phase, awaiting, opened_with, close, up_to, resumed_set, pieces_of, confirmed_of, is_carrying}
use Rattle.end_rules.specs.Invoking.{Reply, invoke_apdu, result_apdu, error_apdu, carrier_in}
use Rattle.end_rules.specs.Hearing.{with_opened, data_on}
use Rattle.end_rules.specs.Writing.{finish_message, user_abort, give_message, please_message, connection_request}
use Rattle.end_rules.specs.Faults.{over}
use Rattle.end_rules.specs.TakesData.{parts_in, alteration}
use Rattle.end_rules.specs.TakesMarks.{restored_set}

-- ---- invocations and outcomes

-- what is handed in goes as data at once; in reliable mode it joins the queue
abbrev pub queueing : ℕ → Apdu → Body → Body
queueing context apdu body =
    record body { sending = record body.sending { queue = body.sending.queue ++ record { context = context; apdu = apdu } ∷ [] } }

abbrev pub handed_in : Mode → ℕ → Apdu → Body → Body
handed_in Reliable context apdu body = queueing context apdu body
handed_in Direct context apdu body = body
handed_in Bare context apdu body = body

abbrev pub sent_at_once : Mode → Body → Option ℕ → Apdu → List Message
sent_at_once Reliable body id apdu = []
sent_at_once Direct body None apdu = []
sent_at_once Bare body None apdu = []
sent_at_once Direct body (Some id) apdu = data_on body id apdu ∷ []
sent_at_once Bare body (Some id) apdu = data_on body id apdu ∷ []

abbrev pub invoking : Base → ℕ → ℕ → ℤ → Option ℤ → Body → Body
invoking base context operation id linked body =
    record body {
      calls = with_opened base (record { own = true; id = id; operation = operation; context = context; parent = linked })
          (record body.calls { made = suc body.calls.made });
    }

abbrev pub after_invoke : Base → Body → ℕ → ℕ → ℤ → Option ℤ → Option Operation → Option Val → Body
after_invoke base body context place id linked None argument = body
after_invoke base body context place id linked (Some operation) argument =
    handed_in base.mode context (invoke_apdu operation id linked argument) (invoking base context place id linked body)

abbrev pub due_invoke : Base → Body → ℕ → ℤ → Option ℤ → Option Operation → Option Val → List Message
due_invoke base body context id linked None argument = []
due_invoke base body context id linked (Some operation) argument =
    sent_at_once base.mode body (Some context) (invoke_apdu operation id linked argument)

-- an outcome closes its invocation, and goes on the carrier of its context
abbrev pub answering : ℤ → Body → Body
answering id body = record body { calls = close false id body.calls }

abbrev pub after_outcome : Base → Body → ℤ → Option OpenCall → Option Apdu → Body
after_outcome base body id (Some o) (Some apdu) = handed_in base.mode o.context apdu (answering id body)
after_outcome base body id _ _ = body

abbrev pub due_outcome : Base → Body → Option OpenCall → Option Apdu → List Message
due_outcome base body (Some o) (Some apdu) = sent_at_once base.mode body (carrier_in base body o.context) apdu
due_outcome base body _ _ = []

abbrev pub result_for : ℤ → Option Val → Option Operation → Option Apdu
result_for id result None = None
result_for id result (Some operation) = Some (result_apdu operation id result)

abbrev pub error_for : ℤ → Option Val → Option ErrorRow → Option Apdu
error_for id parameter None = None
error_for id parameter (Some error) = Some (error_apdu error id parameter)

abbrev pub operation_opened : Base → Option OpenCall → Option Operation
operation_opened base None = None
operation_opened base (Some o) = operation_at base.tables o.operation

abbrev pub result_in : Base → Body → ℤ → Option Val → Option Apdu
result_in base body id result = result_for id result (operation_opened base (opened_with false id body.calls.opens))

-- ---- an accepted call

-- Open and Recover begin a connection and Abort ends the association; all other requests change the body as
-- they are sent
abbrev pub after_accepted : Base → Body → Call → Option ℤ → Body
after_accepted base body (the_calls.Invoke context operation argument linked) (Some id) =
    after_invoke base body context operation id linked (operation_at base.tables operation) argument
after_accepted base body (the_calls.Answer id result) answer =
    after_outcome base body id (opened_with false id body.calls.opens) (result_in base body id result)
after_accepted base body (the_calls.Refuse id error parameter) answer =
    after_outcome base body id (opened_with false id body.calls.opens) (error_for id parameter (error_at base.tables error))
after_accepted base body the_calls.Open answer = in_phase Opening body
after_accepted base body the_calls.Recover answer = in_phase Recovering body
after_accepted base body the_calls.Abort answer = over body
after_accepted base body _ answer = body

-- an end that wanted memory and got none is dead
abbrev pub after_refused : Body → CallRefusal → Body
after_refused body NoMemory = in_phase Dead body
after_refused body _ = body

abbrev pub after_call : Base → Body → Call → Reply → Body
after_call base body call (Ok answer) = after_accepted base body call answer
after_call base body call (Err refusal) = after_refused body refusal

-- the messages that it sends, from the body before it
abbrev pub due_of_accepted : Base → Body → Call → Option ℤ → List Message
due_of_accepted base body the_calls.Open answer = connection_request base ∷ []
due_of_accepted base body (the_calls.Invoke context operation argument linked) (Some id) =
    due_invoke base body context id linked (operation_at base.tables operation) argument
due_of_accepted base body (the_calls.Invoke context operation argument linked) None = []
due_of_accepted base body (the_calls.Answer id result) answer =
    due_outcome base body (opened_with false id body.calls.opens) (result_in base body id result)
due_of_accepted base body (the_calls.Refuse id error parameter) answer =
    due_outcome base body (opened_with false id body.calls.opens) (error_for id parameter (error_at base.tables error))
due_of_accepted base body (the_calls.Alter add delete) answer = Session (OfData (AlterContext add delete)) ∷ []
due_of_accepted base body the_calls.Mark answer = Session (OfMarks (Mark (next_number body.saved))) ∷ []
due_of_accepted base body the_calls.Give answer = give_message base.mode ∷ []
due_of_accepted base body (the_calls.Please priority) answer = please_message body base.mode priority ∷ []
due_of_accepted base body (the_calls.Resync n) answer = Session (OfMarks (Restart n (Some (listed (restored_set body n))))) ∷ []
due_of_accepted base body the_calls.Interrupt answer = Session (OfActivities (Interrupt (Some 0))) ∷ []
due_of_accepted base body the_calls.Resume answer = Session (OfActivities (Resume body.sending.started (confirmed_of body.sending.current))) ∷ []
due_of_accepted base body the_calls.Discard answer = Session (OfActivities (Discard (Some 0))) ∷ []
due_of_accepted base body the_calls.Recover answer = connection_request base ∷ []
due_of_accepted base body the_calls.Release answer = finish_message body ∷ []
due_of_accepted base body the_calls.Abort answer = if is_carrying body.link.stage then user_abort body.link.accepted 0 [] ∷ [] else []

abbrev pub due_of : Base → Body → Call → Reply → List Message
due_of base body call (Ok answer) = due_of_accepted base body call answer
due_of base body call (Err refusal) = []

-- ---- what the sending of a request changes

-- the next item becomes the current transfer
abbrev pub begun : Sending → Sending
begun sending = record { started = suc sending.started; current = first sending.queue; queue = rest sending.queue }
  where
    first : List Queued → Option Transfer
    first [] = None
    first (item ∷ items) = Some (record { item = item; encoded = None; pieces = []; confirmed = 0; progress = Running })

    rest : List Queued → List Queued
    rest [] = []
    rest (item ∷ items) = items

-- back to the confirmed mark; from nothing on the item is to be encoded anew
abbrev pub resumed : Transfer → Transfer
resumed transfer =
    record transfer { encoded = kept transfer.confirmed; pieces = up_to transfer.confirmed transfer.pieces; progress = Running }
  where
    kept : ℕ → Option Encoded
    kept zero = None
    kept (suc n) = transfer.encoded

-- a mark saves the set: in direct mode under its number, in reliable mode in the own activity
abbrev pub mark_sent : Mode → ℕ → Body → Body
mark_sent Reliable number body = on_transfer (λ (t : Transfer). record t { pieces = Marked number body.sets.held ∷ t.pieces }) body
mark_sent Direct number body = record body { saved = record { number = number; set = body.sets.held } ∷ body.saved }
mark_sent Bare number body = body

-- the turn is in flight until it is taken; a giving of all tokens is confirmed
abbrev pub given : Body → Body
given body = record body { link = record body.link { turn = false } }

abbrev pub given_all : Body → Body
given_all body = record body { link = record body.link { turn = false; gave = true } }

abbrev pub after_sent_association : Body → AssociationWord → Body
after_sent_association body (Finish transport values) = awaiting ReleaseOf (in_phase Releasing body)
after_sent_association body _ = body

abbrev pub values_sent : Mode → List DataValue → Body → Body
values_sent Reliable values body = on_transfer (λ (t : Transfer). record t { pieces = Octets (parts_in values) ∷ t.pieces }) body
values_sent Direct values body = body
values_sent Bare values body = body

abbrev pub after_sent_data : Mode → Body → DataWord → Body
after_sent_data mode body (Values values) = values_sent mode values body
after_sent_data mode body (AlterContext add delete) = record body { sets = record body.sets { own = body.sets.own ++ alteration add delete ∷ [] } }
after_sent_data mode body _ = body

abbrev pub after_sent_mark : Mode → Body → MarkWord → Body
after_sent_mark mode body (Mark number) = mark_sent mode number body
after_sent_mark mode body (Restart number list) = awaiting (RestartOf number) body
after_sent_mark mode body (Give tokens) = given body
after_sent_mark mode body GiveConfirm = given_all body
after_sent_mark mode body _ = body

abbrev pub after_sent_activity : Body → ActivityWord → Body
after_sent_activity body (Start activity) =
    record body { sending = begun body.sending; sets = record body.sets { inter = body.sets.held } }
after_sent_activity body (Resume activity mark) =
    record (on_transfer resumed body) {
      sets = record body.sets { inter = body.sets.held; held = resumed_set mark (pieces_of body.sending.current) body.sets.held };
    }
after_sent_activity body (End number) = on_transfer (λ (t : Transfer). record t { progress = Ending }) body
after_sent_activity body (Interrupt reason) = awaiting InterruptOf body
after_sent_activity body (Discard reason) = awaiting DiscardOf (on_transfer (λ (t : Transfer). record t { confirmed = 0 }) body)
after_sent_activity body _ = body

abbrev pub after_sent_word : Mode → Body → Word → Body
after_sent_word mode body (OfAssociation word) = after_sent_association body word
after_sent_word mode body (OfData word) = after_sent_data mode body word
after_sent_word mode body (OfMarks word) = after_sent_mark mode body word
after_sent_word mode body (OfActivities word) = after_sent_activity body word

abbrev pub after_sent_transport : Body → TransportUnit → Body
after_sent_transport body (ConnectionRequest source size calling called) = record body { link = record body.link { stage = Asked } }
after_sent_transport body _ = body

abbrev pub after_sent : Mode → Body → Message → Body
after_sent mode body (Transport unit) = after_sent_transport body unit
after_sent mode body (Session word) = after_sent_word mode body word
