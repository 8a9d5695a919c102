-- In reliable mode an outcome comes with a transfer, which brings what the other end encoded, and so wrote.
use Rattle.std.proofs.Common.{◌≡◌, refl, true, false, ◌∙◌, sym, ap, subst, ℕ, List, [], ◌∷◌, ◌++◌}
use Rattle.std.specs.Prelude.{Bool, not, ◌||◌, Option, Some, None, Result, Ok, Err, if◌then◌else◌}
use Rattle.end_model.specs.end_rules.Encodings.{Encoding, IsNewest}
use Rattle.end_model.specs.end_rules.Members.{IsIn}
use Rattle.stub_tables.specs.declared.tables.Tables.{Tables}
use Rattle.stub_tables.specs.declared.apdu.Apdu.{Apdu}
use Rattle.dialogue.specs.declared.config.Config.{Config}
use Rattle.dialogue.specs.declared.indication.Indication.{Indication}
use Rattle.end_model.specs.end_rules.Base.{Base, Spellings, Fault, Item, Arrived, Whole, is_bare, is_reliable}
use Rattle.end_model.specs.end_rules.Messages.{DataValue, Message, Transport, Session, Word, OfAssociation, OfData, OfMarks, OfActivities, TransportUnit, unit_of}
use Rattle.end_model.specs.end_rules.Messages.{DataWord, Values, AlterContext, AlterContextAck}
use Rattle.end_model.specs.end_rules.Messages.{ActivityWord, Start, Resume, End, EndAck, Interrupt, InterruptAck, Discard, DiscardAck}
use Rattle.end_model.specs.end_rules.State.{Body, is_carrying, is_joined, passes_over}
use Rattle.end_model.specs.end_rules.Purging.{is_purged, is_transport_purged}
use Rattle.end_model.specs.end_rules.Hearing.{take_values}
use Rattle.end_model.specs.end_rules.Faults.{transport_fault}
use Rattle.end_model.specs.end_rules.TakesTransport.{transport_unit_fault, shown_of_transport}
use Rattle.end_model.specs.end_rules.TakesAssociation.{shown_of_association}
use Rattle.end_model.specs.end_rules.TakesData.{values_taken, shown_of_data}
use Rattle.end_model.specs.end_rules.TakesMarks.{shown_of_mark}
use Rattle.end_model.specs.end_rules.TakesActivities.{received, arrived_now, arrived_value, values_arrived, taken_at_end, shown_of_activity}
use Rattle.end_model.specs.end_rules.Reacting.{Reaction, Passes, Takes, Fails, fails, shown_of_word, fault_above, word_fault, on_word, on_transport, react_to_session, react_alive, react}
use Rattle.agreement.specs.Sets.{Role, other}
use Rattle.agreement.specs.Sets.Role.{Initiator, Responder}
use Rattle.end_model.specs.Seen.{Free}
use Rattle.end_model.specs.Acting.{apdus_of}
use Rattle.end_model.specs.BothEnds.{Common, base_at, Two, body_at, coming_to}
use Rattle.reliable_model.specs.Codecs.{Carries}
use Rattle.reliable_model.specs.Ledgers.{transfer_log_of, Ledger}
use Rattle.reliable_model.specs.ReliableEnds.{reliable_common, IsFit}
use Rattle.reliable_model.specs.Transfers.{TakesTransferEnd, ArrivesWhole}
use Rattle.reliable_model.proofs.Laws.{reliable-whole}
use Rattle.outcome_laws.specs.Exchanges.{rejects_in, still_after, Exchanges, exchange_of, ReachedWithExchanges, begins, calls, acts, takes, passes, fails as aborts_of_itself, breaks}
use Rattle.outcome_laws.specs.Outcomes.{AreAnswers}
use Rattle.outcome_laws.specs.Transferred.{TransferredAnswers}
use Rattle.outcome_laws.proofs.Words.{association-none, settled-none, marks-none, transport-none, lost-more, discard-none}
use Rattle.outcome_laws.proofs.Writers.{within-more, answers-on, answers-append, quiet, values-show}
use Rattle.outcome_laws.proofs.Places.{exchanges-reached}
use Rattle.outcome_laws.proofs.Sources.{EncodedIn, Source, source}
use Rattle.outcome_laws.proofs.Answering.{still-answers}

-- ---- what is shown of a message that is taken

abbrev pub shown_of : Base → Body → Message → List Indication
shown_of base body (Transport unit) = shown_of_transport unit
shown_of base body (Session word) = shown_of_word base body word

abbrev ShowsSo : List Indication → Reaction → Type 0
ShowsSo all Passes = Unit {0}
ShowsSo all (Takes body answers shown) = shown ≡ all
ShowsSo all (Fails fault body aborts shown) = Unit {0}

either : (all : List Indication) (b : Bool) (x y : Reaction) → ShowsSo all x → ShowsSo all y → ShowsSo all (if b then x else y)
either all true x y h k = h
either all false x y h k = k

on-word : (base : Base) (body : Body) (word : Word) (fault : Option Fault) → ShowsSo (shown_of_word base body word) (on_word base body word fault)
on-word base body word (Some fault) = tt
on-word base body word None = refl

to-session : (b : Bool) (base : Base) (body : Body) (word : Word) → ShowsSo (shown_of_word base body word) (react_to_session b base body word)
to-session true base body word = on-word base body word (fault_above base body word)
to-session false base body word =
    either (shown_of_word base body word) (not (is_joined body.link.stage || is_carrying body.link.stage)) (fails body body.link.accepted transport_fault) _ tt
    (either (shown_of_word base body word) (is_purged base.initiator body.link.awaits (unit_of word)) Passes (on_word base body word (word_fault base body word)) tt (on-word base body word (word_fault base body word)))

on-transport : (base : Base) (body : Body) (unit : TransportUnit) (fault : Option Fault) → ShowsSo (shown_of_transport unit) (on_transport base body unit fault)
on-transport base body unit (Some fault) = tt
on-transport base body unit None = refl

alive : (base : Base) (body : Body) (message : Message) → ShowsSo (shown_of base body message) (react_alive base body message)
alive base body (Transport unit) =
    either (shown_of_transport unit) (is_transport_purged body.link.awaits) Passes (on_transport base body unit (transport_unit_fault base body unit)) tt (on-transport base body unit (transport_unit_fault base body unit))
alive base body (Session word) = to-session (is_bare base.mode) base body word

pub shows-so : (base : Base) (body : Body) (message : Message) (later : Body) (answers : List Message) (shown : List Indication) → react base body message ≡ Takes later answers shown → shown ≡ shown_of base body message
shows-so base body message later answers shown h =
    subst (ShowsSo (shown_of base body message)) h (either (shown_of base body message) (passes_over body.link.phase) Passes (react_alive base body message) tt (alive base body message))

-- ---- in reliable mode

-- what arrives at the end of a transfer is one of these
record Brings (base : Base) (body : Body) (peer : List Apdu) : Type 0 where
  item : Item
  arrived : arrived_now base body ≡ Ok (Whole item)
  written : IsIn item.apdu peer

end-answers : (base : Base) (body : Body) (peer : List Apdu) → (body.receiving.was_handed ≡ false → Brings base body peer) → AreAnswers base.tables peer (taken_at_end base body).shown
end-answers base body peer f = go body.receiving.was_handed refl
  where
    brought : (x : Result Arrived Fault) → (b : Brings base body peer) → arrived_now base body ≡ x → AreAnswers base.tables peer (take_values base (received (λ r. record r { was_handed = true; active = false }) body) (values_arrived x)).shown
    brought (Err fault) b e = tt
    brought (Ok arrived) b e =
        let same : arrived ≡ Whole b.item = cc in
        values-show base (received (λ r. record r { was_handed = true; active = false }) body) (values_arrived (Ok arrived)) peer
        (record { apdu = b.item.apdu; is_it = ap (λ (x : Arrived). (arrived_value x).content) same; within = b.written }, tt)

    go : (w : Bool) → body.receiving.was_handed ≡ w → AreAnswers base.tables peer (take_values base (received (λ r. record r { was_handed = true; active = false }) body) (if w then [] else values_arrived (arrived_now base body))).shown
    go true e = tt
    go false e = brought (arrived_now base body) (f e) refl

activity-answers : (base : Base) (body : Body) (word : ActivityWord) (peer : List Apdu) → ((number : ℕ) → word ≡ End number → body.receiving.was_handed ≡ false → Brings base body peer) → AreAnswers base.tables peer (shown_of_activity base body word)
activity-answers base body (Start activity) peer f = tt
activity-answers base body (Resume activity mark) peer f = (tt, tt)
activity-answers base body (End number) peer f = end-answers base body peer (f number refl)
activity-answers base body (EndAck number) peer f = (tt, tt)
activity-answers base body (Interrupt reason) peer f = (tt, tt)
activity-answers base body InterruptAck peer f = quiet base.tables peer (shown_of_activity base body InterruptAck) (lost-more body _ refl)
activity-answers base body (Discard reason) peer f = (tt, tt)
activity-answers base body DiscardAck peer f = quiet base.tables peer (shown_of_activity base body DiscardAck) (discard-none body)

values-none : (base : Base) (body : Body) (values : List DataValue) (peer : List Apdu) → is_reliable base.mode ≡ true → AreAnswers base.tables peer (values_taken base body values).shown
values-none base body values peer e = rw e tt

data-answers : (base : Base) (body : Body) (word : DataWord) (peer : List Apdu) → is_reliable base.mode ≡ true → AreAnswers base.tables peer (shown_of_data base body word)
data-answers base body (Values values) peer e = values-none base body values peer e
data-answers base body (AlterContext add delete) peer e = (tt, tt)
data-answers base body (AlterContextAck answers) peer e = quiet base.tables peer (shown_of_data base body (AlterContextAck answers)) (settled-none body.sets.own answers)

same-word : (word : ActivityWord) (number : ℕ) → word ≡ End number → ◌≡◌ {A = Message} (Session (OfActivities word)) (Session (OfActivities (End number)))
same-word word number e = ap (λ (w : ActivityWord). Session (OfActivities w)) e

message-answers : (base : Base) (body : Body) (message : Message) (peer : List Apdu) → is_reliable base.mode ≡ true → ((number : ℕ) → message ≡ Session (OfActivities (End number)) → body.receiving.was_handed ≡ false → Brings base body peer) → AreAnswers base.tables peer (shown_of base body message)
message-answers base body (Transport unit) peer e f = quiet base.tables peer (shown_of_transport unit) (transport-none unit)
message-answers base body (Session (OfAssociation word)) peer e f = quiet base.tables peer (shown_of_association base body word) (association-none base body word)
message-answers base body (Session (OfData word)) peer e f = data-answers base body word peer e
message-answers base body (Session (OfMarks word)) peer e f = quiet base.tables peer (shown_of_mark base body word) (marks-none base body word)
message-answers base body (Session (OfActivities word)) peer e f = activity-answers base body word peer (λ number w n. f number (same-word word number w) n)

newest-in : (wrote : List Apdu) (e : Encoding) (es : List Encoding) → IsNewest e es → EncodedIn wrote es → IsIn e.apdu wrote
newest-in wrote e [] h k = absurd h
newest-in wrote e (x ∷ es) h k = subst (λ (y : Encoding). IsIn y.apdu wrote) h k.0

-- ---- two ends

module _ (free : Free) (tables : Tables) (spellings : Spellings) (a b : Config) where
  abbrev common : Common
  common = reliable_common tables spellings a b

  abbrev base : Role → Base
  base role = base_at role common

  brings : (two : Two) (ledger : Ledger) (exchanges : Exchanges) (role : Role) (message : Message) (left : List Message) (later : Body) (answers : List Message) (shown : List Indication) → Carries free (base Initiator) → IsFit common → ReachedWithExchanges common two ledger exchanges → coming_to role two ≡ message ∷ left → react (base role) (body_at role two) message ≡ Takes later answers shown → (number : ℕ) → message ≡ Session (OfActivities (End number)) → (body_at role two).receiving.was_handed ≡ false → Brings (base role) (body_at role two) (exchange_of (other role) exchanges).wrote
  brings two ledger exchanges role message left later answers shown carries fit reached comes h number m new =
      let ends : TakesTransferEnd common two role =
      record {
        number = number;
        left = left;
        body = later;
        answers = answers;
        shown = shown;
        comes = comes ∙ ap (λ (x : Message). x ∷ left) m;
        taken = ap (react (base role) (body_at role two)) (sym m) ∙ h;
        is_new = new;
      } in
      let whole : ArrivesWhole common two ledger role = reliable-whole free tables spellings a b carries fit two ledger (exchanges-reached common two ledger exchanges reached) role ends in
      let from : Source (exchange_of (other role) exchanges).wrote (body_at (other role) two) (transfer_log_of (other role) ledger.transfer_logs).encoded = source common two ledger exchanges reached (other role) in
      record { item = whole.item; arrived = whole.arrived; written = newest-in (exchange_of (other role) exchanges).wrote _ (transfer_log_of (other role) ledger.transfer_logs).encoded whole.encoded from.encodes }

  taken-answers : (two : Two) (ledger : Ledger) (exchanges : Exchanges) (role : Role) (message : Message) (left : List Message) (later : Body) (answers : List Message) (shown : List Indication) → Carries free (base Initiator) → IsFit common → ReachedWithExchanges common two ledger exchanges → coming_to role two ≡ message ∷ left → react (base role) (body_at role two) message ≡ Takes later answers shown → AreAnswers tables (exchange_of (other role) exchanges).wrote (exchange_of role exchanges).shown → AreAnswers tables (exchange_of (other role) exchanges).wrote (still_after (base role) (body_at role two) message (exchange_of role exchanges).shown ++ shown)
  taken-answers two ledger exchanges role message left later answers shown carries fit reached comes h k =
      answers-append tables (exchange_of (other role) exchanges).wrote (still_after (base role) (body_at role two) message (exchange_of role exchanges).shown) shown
      (still-answers tables (exchange_of (other role) exchanges).wrote (base role) (body_at role two) message (exchange_of role exchanges).shown k)
      (subst (AreAnswers tables (exchange_of (other role) exchanges).wrote) (sym (shows-so (base role) (body_at role two) message later answers shown h))
      (message-answers (base role) (body_at role two) message (exchange_of (other role) exchanges).wrote refl (brings two ledger exchanges role message left later answers shown carries fit reached comes h)))

  more-wrote : (more wrote : List Apdu) (shown : List Indication) → AreAnswers tables wrote shown → AreAnswers tables (more ++ wrote) shown
  more-wrote more wrote shown h = answers-on tables wrote (more ++ wrote) shown (within-more more wrote) h

  all : (two : Two) (ledger : Ledger) (exchanges : Exchanges) → Carries free (base Initiator) → IsFit common → ReachedWithExchanges common two ledger exchanges → (role : Role) → AreAnswers tables (exchange_of (other role) exchanges).wrote (exchange_of role exchanges).shown
  all two ledger exchanges c f begins Initiator = tt
  all two ledger exchanges c f begins Responder = tt
  all two ledger exchanges c f (calls x l d Initiator call answer reached h) Initiator = all x l d c f reached Initiator
  all two ledger exchanges c f (calls x l d Responder call answer reached h) Initiator = more-wrote (apdus_of (base Responder) x.b call answer) d.b.wrote d.a.shown (all x l d c f reached Initiator)
  all two ledger exchanges c f (acts x l d Initiator own reached h) Initiator = all x l d c f reached Initiator
  all two ledger exchanges c f (acts x l d Responder own reached h) Initiator = all x l d c f reached Initiator
  all two ledger exchanges c f (takes x l d Initiator message left body answers shown reached comes h) Initiator = taken-answers x l d Initiator message left body answers shown c f reached comes h (all x l d c f reached Initiator)
  all two ledger exchanges c f (takes x l d Responder message left body answers shown reached comes h) Initiator = more-wrote (rejects_in shown) d.b.wrote d.a.shown (all x l d c f reached Initiator)
  all two ledger exchanges c f (passes x l d Initiator message left reached comes h) Initiator = all x l d c f reached Initiator
  all two ledger exchanges c f (aborts_of_itself x l d Initiator message left fault body aborts shown reached comes h) Initiator = all x l d c f reached Initiator
  all two ledger exchanges c f (passes x l d Responder message left reached comes h) Initiator = all x l d c f reached Initiator
  all two ledger exchanges c f (aborts_of_itself x l d Responder message left fault body aborts shown reached comes h) Initiator = all x l d c f reached Initiator
  all two ledger exchanges c f (breaks x l d reached) Initiator = all x l d c f reached Initiator
  all two ledger exchanges c f (calls x l d Responder call answer reached h) Responder = all x l d c f reached Responder
  all two ledger exchanges c f (calls x l d Initiator call answer reached h) Responder = more-wrote (apdus_of (base Initiator) x.a call answer) d.a.wrote d.b.shown (all x l d c f reached Responder)
  all two ledger exchanges c f (acts x l d Responder own reached h) Responder = all x l d c f reached Responder
  all two ledger exchanges c f (acts x l d Initiator own reached h) Responder = all x l d c f reached Responder
  all two ledger exchanges c f (takes x l d Responder message left body answers shown reached comes h) Responder = taken-answers x l d Responder message left body answers shown c f reached comes h (all x l d c f reached Responder)
  all two ledger exchanges c f (takes x l d Initiator message left body answers shown reached comes h) Responder = more-wrote (rejects_in shown) d.a.wrote d.b.shown (all x l d c f reached Responder)
  all two ledger exchanges c f (passes x l d Initiator message left reached comes h) Responder = all x l d c f reached Responder
  all two ledger exchanges c f (aborts_of_itself x l d Initiator message left fault body aborts shown reached comes h) Responder = all x l d c f reached Responder
  all two ledger exchanges c f (passes x l d Responder message left reached comes h) Responder = all x l d c f reached Responder
  all two ledger exchanges c f (aborts_of_itself x l d Responder message left fault body aborts shown reached comes h) Responder = all x l d c f reached Responder
  all two ledger exchanges c f (breaks x l d reached) Responder = all x l d c f reached Responder

pub transferred-answers : TransferredAnswers
transferred-answers free tables spellings a b carries fit two ledger exchanges reached role = all free tables spellings a b two ledger exchanges carries fit reached role
