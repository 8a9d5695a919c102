-- Whatever an end answers or aborts with is no CR.
use Rattle.std.proofs.Common.{ℕ, Bool, true, false, not, ◌||◌, List, [], ◌∷◌, ◌++◌, Option, Some, None, is_some, if◌then◌else◌}
use Rattle.osi_base.specs.declared.layer_words.Layer.{Layer}
use Rattle.osi_base.specs.declared.layer_words.Layer.TheVariants as layers
use Rattle.osi_base.specs.declared.layer_words.SetItem.{SetItem}
use Rattle.dialogue.specs.declared.config.Mode.{Mode}
use Rattle.dialogue.specs.declared.config.Mode.TheVariants.{Bare, Direct, Reliable}
use Rattle.association_reading.specs.end_rules.Base.{Base, is_reliable}
use Rattle.association_reading.specs.end_rules.Messages.{Message, TransportUnit, ConnectionRequest, ConnectionConfirm, DisconnectRequest, TransportError, Word, OfAssociation, OfData, OfMarks, OfActivities, AssociationWord, Connect, Accept, Refuse, Finish, Disconnect, Abort, AbortAccept, DataWord, Values, AlterContext, AlterContextAck, MarkWord, Mark, MarkAck, Restart, RestartAck, Give, Please, GiveConfirm, GiveAck, ActivityWord, Start, Resume, End, EndAck, Interrupt, InterruptAck, Discard, DiscardAck, DataValue}
use Rattle.association_reading.specs.end_rules.State.{Body}
use Rattle.association_reading.specs.end_rules.Invoking.{carrier_in}
use Rattle.association_reading.specs.end_rules.Hearing.{Taken, Rejecting, queued, sent_on, with_reject, take_head, take_values, head_of, hear}
use Rattle.association_reading.specs.end_rules.Faults.{abort_of}
use Rattle.association_reading.specs.end_rules.Connecting.{the_one, context_named, set_for, results_for, has_acse, lacks_request, rejecting_information, transfer_rejection, is_refused, refusal_message, acceptance_message}
use Rattle.association_reading.specs.end_rules.Writing.{refuse_message, provider_refusal}
use Rattle.association_reading.specs.end_rules.TakesTransport.{is_size, answer_to_request, answers_to_transport}
use Rattle.association_reading.specs.end_rules.TakesAssociation.{answers_to_association}
use Rattle.association_reading.specs.end_rules.TakesData.{with_parts, answers_to_data}
use Rattle.association_reading.specs.end_rules.TakesMarks.{mark_answer, answers_to_mark}
use Rattle.association_reading.specs.end_rules.TakesActivities.{answers_to_activity}
use Rattle.association_reading.specs.end_rules.Reacting.{answers_to_word}
use Rattle.association_line.specs.Reactions.{IsAnswer, AreAnswers}

pub both_answers : (xs ys : List Message) → AreAnswers xs → AreAnswers ys → AreAnswers (xs ++ ys)
both_answers [] ys a b = b
both_answers (x ∷ xs) ys a b = (a.0, both_answers xs ys a.1 b)

-- of a choice
pub either : {X : Type 0} (P : X → Type 0) (b : Bool) (x y : X) → P x → P y → P (if b then x else y)
either P true x y p q = p
either P false x y p q = q

-- ---- answers

confirmed : (source : ℕ) (size : Option ℕ) (b : Bool) → AreAnswers (answer_to_request source size b ∷ [])
confirmed source size true = (tt, tt)
confirmed source size false = (tt, tt)

pub of_transport : (base : Base) (body : Body) (unit : TransportUnit) → AreAnswers (answers_to_transport base body unit)
of_transport base body (ConnectionRequest source size calling called) = confirmed source size (is_size size)
of_transport base body (ConnectionConfirm destination size) = (tt, tt)
of_transport base body (DisconnectRequest destination) = tt
of_transport base body TransportError = tt

refusing : (b : Bool) (x y : Message) → IsAnswer x → IsAnswer y → AreAnswers ((if b then x else y) ∷ [])
refusing true x y p q = (p, tt)
refusing false x y p q = (q, tt)

of_association : (base : Base) (body : Body) (word : AssociationWord) → AreAnswers (answers_to_association base body word)
of_association base body (Connect session presentation values) =
    either AreAnswers (is_refused base body session presentation values)
    (refusal_message base body session presentation values ∷ []) (acceptance_message base session presentation values ∷ [])
    (refusing (is_some presentation.default_context || not (has_acse (set_for base presentation))) provider_refusal
    (refuse_message (set_for base presentation) (results_for base presentation) (context_named (the_one values))
    (if lacks_request base (set_for base presentation) values then []
    else rejecting_information base session (set_for base presentation) (transfer_rejection base body values)))
    tt tt) (tt, tt)
of_association base body (Accept session presentation values) = tt
of_association base body (Refuse transport reason presentation values) = tt
of_association base body (Finish transport values) = (tt, tt)
of_association base body (Disconnect values) = tt
of_association base body (Abort transport user) = tt
of_association base body AbortAccept = tt

rejected_on : (body : Body) (r : Rejecting) (context : Option ℕ) → AreAnswers (sent_on body r context).answers
rejected_on body r None = tt
rejected_on body r (Some id) = (tt, tt)

rejecting : (base : Base) (body : Body) (context : ℕ) (r : Option Rejecting) → AreAnswers (with_reject base body context r).answers
rejecting base body context None = tt
rejecting base body context (Some r) =
    either (λ (taken : Taken). AreAnswers taken.answers) (is_reliable base.mode) (queued body context r) (sent_on body r (carrier_in base body context)) tt (rejected_on body r (carrier_in base body context))

of_values : (base : Base) (body : Body) (values : List DataValue) → AreAnswers (take_values base body values).answers
of_values base body [] = tt
of_values base body (value ∷ values) =
    both_answers (take_head base body value.id (head_of base value)).answers
    (take_values base (take_head base body value.id (head_of base value)).body values).answers
    (rejecting base (record body { calls = (hear base body.calls value.id (head_of base value)).calls }) value.id (hear base body.calls value.id (head_of base value)).reject)
    (of_values base (take_head base body value.id (head_of base value)).body values)

of_data : (base : Base) (body : Body) (word : DataWord) → AreAnswers (answers_to_data base body word)
of_data base body (Values values) = either (λ (taken : Taken). AreAnswers taken.answers) (is_reliable base.mode) (record { body = with_parts values body; answers = []; shown = [] }) (take_values base body values) tt (of_values base body values)
of_data base body (AlterContext add delete) = (tt, tt)
of_data base body (AlterContextAck answers) = tt

marking : (mode : Mode) (number : ℕ) → AreAnswers (mark_answer mode number)
marking Reliable number = (tt, tt)
marking Direct number = tt
marking Bare number = tt

of_marks : (base : Base) (body : Body) (word : MarkWord) → AreAnswers (answers_to_mark base body word)
of_marks base body (Mark number) = marking base.mode number
of_marks base body (MarkAck number) = tt
of_marks base body (Restart number list) = (tt, tt)
of_marks base body (RestartAck number list) = tt
of_marks base body (Give tokens) = tt
of_marks base body (Please tokens values) = tt
of_marks base body GiveConfirm = (tt, tt)
of_marks base body GiveAck = tt

of_activities : (base : Base) (body : Body) (word : ActivityWord) → AreAnswers (answers_to_activity base body word)
of_activities base body (Start activity) = tt
of_activities base body (Resume activity mark) = tt
of_activities base body (End number) = (tt, tt)
of_activities base body (EndAck number) = tt
of_activities base body (Interrupt reason) = (tt, tt)
of_activities base body InterruptAck = tt
of_activities base body (Discard reason) = (tt, tt)
of_activities base body DiscardAck = tt

pub of_word : (base : Base) (body : Body) (word : Word) → AreAnswers (answers_to_word base body word)
of_word base body (OfAssociation word) = of_association base body word
of_word base body (OfData word) = of_data base body word
of_word base body (OfMarks word) = of_marks base body word
of_word base body (OfActivities word) = of_activities base body word

-- ---- aborts

pub of_aborts : (connected : Bool) (accepted : List SetItem) (layer : Layer) (reason : ℕ) → AreAnswers (abort_of connected accepted layer reason)
of_aborts true accepted layers.Transport reason = (tt, tt)
of_aborts false accepted layers.Transport reason = tt
of_aborts connected accepted layers.Session reason = (tt, tt)
of_aborts connected accepted layers.Presentation reason = (tt, tt)
of_aborts connected accepted layers.Acse reason = (tt, tt)
of_aborts connected accepted layers.Rtse reason = (tt, tt)
of_aborts connected accepted layers.Rose reason = tt
