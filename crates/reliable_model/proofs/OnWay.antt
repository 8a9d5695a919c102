-- What a taking is; what is on its way, and what is shared, between two ends of reliable mode.
use Rattle.std.proofs.Common.{◌≡◌, refl, true, false, sym, subst, ℕ, zero, suc, List, [], ◌∷◌, ◌++◌}
use Rattle.std.specs.Prelude.{ℤ, Bool, not, ◌||◌, Option, Some, None, Ok, is_some, nat_lt, if◌then◌else◌}
use Rattle.osi_base.specs.declared.syntax.Pair.{Pair}
use Rattle.osi_base.specs.declared.layer_words.SetItem.{SetItem}
use Rattle.end_model.specs.dialogue.declared.config.Mode.TheVariants.{Reliable}
use Rattle.end_model.specs.dialogue.declared.call.Call.{Call}
use Rattle.end_model.specs.dialogue.declared.call.Call.TheVariants as the_calls
use Rattle.end_model.specs.dialogue.declared.indication.Indication.{Indication}
use Rattle.end_model.specs.end_rules.Base.{Base, Fault}
use Rattle.end_model.specs.end_rules.Sets.{Saved, below, newest, altered, accepted_set}
use Rattle.end_model.specs.end_rules.Messages.{Message, Transport, Session, TransportUnit, ConnectionRequest, ConnectionConfirm, DisconnectRequest, TransportError}
use Rattle.end_model.specs.end_rules.Messages.{Word, OfAssociation, OfData, OfMarks, OfActivities, Connect, Accept, Refuse, Finish, Disconnect, Abort, AbortAccept}
use Rattle.end_model.specs.end_rules.Messages.{Values, AlterContext, AlterContextAck, Mark, MarkAck, Restart, RestartAck, Give, Please, GiveConfirm, GiveAck}
use Rattle.end_model.specs.end_rules.Messages.{Start, Resume, End, EndAck, Interrupt, InterruptAck, Discard, DiscardAck}
use Rattle.end_model.specs.end_rules.State.{Body, is_carrying, is_joined, passes_over, opened_with}
use Rattle.end_model.specs.end_rules.Writing.{provider_refusal, refuse_message, user_abort}
use Rattle.end_model.specs.end_rules.Connecting.{is_refused, recovers_in, has_acse, set_for, results_for, acceptance_message}
use Rattle.end_model.specs.end_rules.Calling.{can_by_rows, can_call}
use Rattle.end_model.specs.end_rules.Requesting.{due_of, due_invoke, due_outcome, result_in, error_for}
use Rattle.end_model.specs.end_rules.ByItself.{OwnAct, next_own}
use Rattle.end_model.specs.end_rules.TakesTransport.{is_size, after_transport, answers_to_transport, answer_to_request, transport_unit_fault}
use Rattle.end_model.specs.end_rules.TakesData.{alteration}
use Rattle.end_model.specs.end_rules.Purging.{is_purged, is_transport_purged}
use Rattle.end_model.specs.end_rules.Faults.{transport_fault}
use Rattle.end_model.specs.end_rules.Messages.{Information, unit_of}
use Rattle.end_model.specs.end_rules.Reacting.{Passes, Takes, react, fails as failing, on_word, on_transport, word_fault, after_word, answers_to_word}
use Rattle.end_model.specs.end_rules.World.{Shared, saved_of, saving, shared_sent, shared_resumed, shared_accepted, shared_answered}
use Rattle.stub_tables.specs.Lookup.{operation_at, error_at}
use Rattle.stub_tables.specs.declared.apdu.Apdu.{Apdu}
use Rattle.stub_tables.specs.declared.operation.Operation.{Operation}
use Rattle.end_model.specs.end_rules.State.{OpenCall}
use Rattle.osi_base.specs.declared.layer_words.Side.{Side}
use Rattle.osi_base.specs.declared.layer_words.Side.TheVariants.{A, B}
use Rattle.end_model.specs.Rows.{at}
use Rattle.end_model.specs.Sharing.{shared_all_sent, shared_all_answered}
use Rattle.end_model.proofs.Ladder.{called}
use Rattle.end_model.proofs.OwnActs.{leading}
use Rattle.reliable_model.specs.Ledgers.{own_messages}
use Rattle.reliable_model.proofs.Fixed.{AreIdentifiers, good-identifiers, AllContexts, none-contexts}
use Rattle.reliable_model.proofs.FirmSteps.{alterable}
use Rattle.reliable_model.proofs.OwnRows.{Kind, StartsNext, EncodesIt, MarksIt, EndsIt, GivesPart, kind}

-- ---- what a taking is

pub record TookWord (base : Base) (body : Body) (word : Word) (later : Body) (answers : List Message) : Type 0 where
  pub alive : passes_over body.link.phase ≡ false
  pub fine : word_fault base body word ≡ None
  pub later_is : later ≡ after_word base body word
  pub answers_are : answers ≡ answers_to_word base body word

pub took-word : (base : Base) (body : Body) (word : Word) (later : Body) (answers : List Message) (shown : List Indication) → react (at Reliable base) body (Session word) ≡ Takes later answers shown → TookWord (at Reliable base) body word later answers
took-word base body word later answers shown h =
    go (passes_over body.link.phase) refl (is_joined body.link.stage || is_carrying body.link.stage) (is_purged base.initiator body.link.awaits (unit_of word)) (word_fault (at Reliable base) body word) refl h
  where
    b : Base
    b = at Reliable base

    go : (p : Bool) → passes_over body.link.phase ≡ p → (q r : Bool) (f : Option Fault) → word_fault b body word ≡ f → (if p then Passes else (if not q then failing body body.link.accepted transport_fault else (if r then Passes else on_word b body word f))) ≡ Takes later answers shown → TookWord b body word later answers
    go true e q r f g h = cc
    go false e false r f g h = cc
    go false e true true f g h = cc
    go false e true false (Some fault) g h = cc
    go false e true false None g h =
        let x : after_word b body word ≡ later = cc in
        let y : answers_to_word b body word ≡ answers = cc in
        record { alive = e; fine = g; later_is = sym x; answers_are = sym y }

pub record TookUnit (base : Base) (body : Body) (unit : TransportUnit) (later : Body) (answers : List Message) : Type 0 where
  pub alive : passes_over body.link.phase ≡ false
  pub later_is : later ≡ after_transport base body unit
  pub answers_are : answers ≡ answers_to_transport base body unit

pub took-unit : (base : Base) (body : Body) (unit : TransportUnit) (later : Body) (answers : List Message) (shown : List Indication) → react base body (Transport unit) ≡ Takes later answers shown → TookUnit base body unit later answers
took-unit base body unit later answers shown h = go (passes_over body.link.phase) refl (is_transport_purged body.link.awaits) (transport_unit_fault base body unit) h
  where
    go : (p : Bool) → passes_over body.link.phase ≡ p → (r : Bool) (f : Option Fault) → (if p then Passes else (if r then Passes else on_transport base body unit f)) ≡ Takes later answers shown → TookUnit base body unit later answers
    go true e r f h = cc
    go false e true f h = cc
    go false e false (Some fault) h = cc
    go false e false None h =
        let x : after_transport base body unit ≡ later = cc in
        let y : answers_to_transport base body unit ≡ answers = cc in
        record { alive = e; later_is = sym x; answers_are = sym y }

-- ---- alterations on their way add identifiers of contexts

abbrev pub Ranged : Message → Type 0
Ranged (Session (OfData (AlterContext add delete))) = AreIdentifiers add
Ranged message = Unit {0}

abbrev pub AllRanged : List Message → Type 0
AllRanged [] = Unit {0}
AllRanged (message ∷ messages) = Ranged message × AllRanged messages

pub ranged-append : (xs ys : List Message) → AllRanged xs → AllRanged ys → AllRanged (xs ++ ys)
ranged-append [] ys h k = k
ranged-append (x ∷ xs) ys h k = (h.0, ranged-append xs ys h.1 k)

invoke-ranged : (base : Base) (body : Body) (context : ℕ) (id : ℤ) (link : Option ℤ) (o : Option Operation) (argument : Option _) → AllRanged (due_invoke (at Reliable base) body context id link o argument)
invoke-ranged base body context id link None argument = tt
invoke-ranged base body context id link (Some operation) argument = tt

outcome-ranged : (base : Base) (body : Body) (o : Option OpenCall) (apdu : Option Apdu) → AllRanged (due_outcome (at Reliable base) body o apdu)
outcome-ranged base body None None = tt
outcome-ranged base body None (Some apdu) = tt
outcome-ranged base body (Some o) None = tt
outcome-ranged base body (Some o) (Some apdu) = tt

pub called-ranged : (base : Base) (body : Body) (call : Call) (answer : Option ℤ) → can_call (at Reliable base) body call ≡ Ok answer → AllRanged (due_of (at Reliable base) body call (Ok answer))
called-ranged base body call answer can = go call answer (called (at Reliable base) body call answer can).rows
  where
    aborts : (c : Bool) → AllRanged (if c then user_abort body.link.accepted 0 [] ∷ [] else [])
    aborts true = (tt, tt)
    aborts false = tt

    go : (call : Call) (answer : Option ℤ) → can_by_rows (at Reliable base) body call ≡ Ok answer → AllRanged (due_of (at Reliable base) body call (Ok answer))
    go the_calls.Open answer e = (tt, tt)
    go (the_calls.Invoke context operation argument link) None e = tt
    go (the_calls.Invoke context operation argument link) (Some id) e = invoke-ranged base body context id link (operation_at base.tables operation) argument
    go (the_calls.Answer id result) answer e = outcome-ranged base body (opened_with false id body.calls.opens) (result_in (at Reliable base) body id result)
    go (the_calls.Refuse id error parameter) answer e = outcome-ranged base body (opened_with false id body.calls.opens) (error_for id parameter (error_at base.tables error))
    go (the_calls.Alter add delete) answer e = (good-identifiers (alteration add delete) (alterable base body (alteration add delete) answer e).good, tt)
    go the_calls.Mark answer e = (tt, tt)
    go the_calls.Give answer e = (tt, tt)
    go (the_calls.Please priority) answer e = (tt, tt)
    go (the_calls.Resync n) answer e = (tt, tt)
    go the_calls.Interrupt answer e = (tt, tt)
    go the_calls.Resume answer e = (tt, tt)
    go the_calls.Discard answer e = (tt, tt)
    go the_calls.Recover answer e = (tt, tt)
    go the_calls.Release answer e = (tt, tt)
    go the_calls.Abort answer e = aborts (is_carrying body.link.stage)

pub own-ranged : (base : Base) (body : Body) (own : OwnAct) → next_own (at Reliable base) body ≡ Some own → AllRanged (own_messages own)
own-ranged base body own next = go (kind base body own body.sending.current refl (leading base body own next).next)
  where
    go : Kind body own → AllRanged (own_messages own)
    go (StartsNext item items e q is) = subst (λ o. AllRanged (own_messages o)) (sym is) (tt, tt)
    go (EncodesIt t context e d is) = subst (λ o. AllRanged (own_messages o)) (sym is) tt
    go (MarksIt t e s ends more is) = subst (λ o. AllRanged (own_messages o)) (sym is) (tt, tt)
    go (EndsIt t e s none is) = subst (λ o. AllRanged (own_messages o)) (sym is) (tt, tt)
    go (GivesPart t e s more is) = subst (λ o. AllRanged (own_messages o)) (sym is) (tt, tt)

pub answered-ranged : (base : Base) (body : Body) (word : Word) → AllRanged (answers_to_word (at Reliable base) body word)
answered-ranged base body (OfAssociation (Connect session presentation values)) = go _ _ (is_refused (at Reliable base) body session presentation values) (is_some presentation.default_context || not (has_acse (set_for (at Reliable base) presentation)))
  where
    go : (context : List ℕ) (user : List Information) (r p : Bool) → AllRanged (if r then (if p then provider_refusal else refuse_message (set_for (at Reliable base) presentation) (results_for (at Reliable base) presentation) context user) ∷ [] else acceptance_message (at Reliable base) session presentation values ∷ [])
    go context user true true = (tt, tt)
    go context user true false = (tt, tt)
    go context user false p = (tt, tt)
answered-ranged base body (OfAssociation (Accept session presentation values)) = tt
answered-ranged base body (OfAssociation (Refuse transport reason presentation values)) = tt
answered-ranged base body (OfAssociation (Finish transport values)) = (tt, tt)
answered-ranged base body (OfAssociation (Disconnect values)) = tt
answered-ranged base body (OfAssociation (Abort transport user)) = tt
answered-ranged base body (OfAssociation AbortAccept) = tt
answered-ranged base body (OfData (Values values)) = tt
answered-ranged base body (OfData (AlterContext add delete)) = (tt, tt)
answered-ranged base body (OfData (AlterContextAck answers)) = tt
answered-ranged base body (OfMarks (Mark number)) = (tt, tt)
answered-ranged base body (OfMarks (MarkAck number)) = tt
answered-ranged base body (OfMarks (Restart number list)) = (tt, tt)
answered-ranged base body (OfMarks (RestartAck number list)) = tt
answered-ranged base body (OfMarks (Give tokens)) = tt
answered-ranged base body (OfMarks (Please tokens values)) = tt
answered-ranged base body (OfMarks GiveConfirm) = (tt, tt)
answered-ranged base body (OfMarks GiveAck) = tt
answered-ranged base body (OfActivities (Start activity)) = tt
answered-ranged base body (OfActivities (Resume activity mark)) = tt
answered-ranged base body (OfActivities (End number)) = (tt, tt)
answered-ranged base body (OfActivities (EndAck number)) = tt
answered-ranged base body (OfActivities (Interrupt reason)) = (tt, tt)
answered-ranged base body (OfActivities InterruptAck) = tt
answered-ranged base body (OfActivities (Discard reason)) = (tt, tt)
answered-ranged base body (OfActivities DiscardAck) = tt

pub unit-ranged : (base : Base) (body : Body) (unit : TransportUnit) → AllRanged (answers_to_transport base body unit)
unit-ranged base body (ConnectionRequest source size calling other_) = go (is_size size)
  where
    go : (s : Bool) → AllRanged (answer_to_request source size s ∷ [])
    go true = (tt, tt)
    go false = (tt, tt)
unit-ranged base body (ConnectionConfirm destination size) = (tt, tt)
unit-ranged base body (DisconnectRequest destination) = tt
unit-ranged base body TransportError = tt

-- ---- the shared set

abbrev pub MarksHave : (ℕ → Pair → Type 0) → List Saved → Type 0
MarksHave P [] = Unit {0}
MarksHave P (mark ∷ marks) = AllContexts P mark.set × MarksHave P marks

pub record SharedHas (P : ℕ → Pair → Type 0) (shared : Shared) : Type 0 where
  pub set : AllContexts P shared.set
  pub inter : AllContexts P shared.inter
  pub saved : MarksHave P shared.saved
  pub of_a : MarksHave P shared.of_a
  pub of_b : MarksHave P shared.of_b

module _ (P : ℕ → Pair → Type 0) where
  below-has : (n : ℕ) (marks : List Saved) → MarksHave P marks → MarksHave P (below n marks)
  below-has n [] h = tt
  below-has n (mark ∷ marks) h = go (below-has n marks h.1) (nat_lt mark.number n)
    where
      go : MarksHave P (below n marks) → (b : Bool) → MarksHave P (if b then mark ∷ marks else below n marks)
      go later true = h
      go later false = later

  newest-has : (marks : List Saved) → MarksHave P marks → AllContexts P (newest marks)
  newest-has [] h = none-contexts P
  newest-has (mark ∷ marks) h = h.0

  saving-has : (side : Side) (marks : List Saved) (shared : Shared) → MarksHave P marks → SharedHas P shared → SharedHas P (saving side marks shared)
  saving-has A marks shared m h = record { set = h.set; inter = h.inter; saved = h.saved; of_a = m; of_b = h.of_b }
  saving-has B marks shared m h = record { set = h.set; inter = h.inter; saved = h.saved; of_a = h.of_a; of_b = m }

  saved-has : (side : Side) (shared : Shared) → SharedHas P shared → MarksHave P (saved_of side shared)
  saved-has A shared h = h.of_a
  saved-has B shared h = h.of_b

  resumed-has : (side : Side) (mark : ℕ) (shared : Shared) → SharedHas P shared → SharedHas P (shared_resumed side mark shared)
  resumed-has side zero shared h = saving-has side [] (record shared { inter = shared.set }) tt (record { set = h.set; inter = h.set; saved = h.saved; of_a = h.of_a; of_b = h.of_b })
  resumed-has side (suc n) shared h =
      let marks = below-has (suc (suc n)) (saved_of side shared) (saved-has side shared h) in
      saving-has side (below (suc (suc n)) (saved_of side shared)) (record shared { inter = shared.set; set = newest (below (suc (suc n)) (saved_of side shared)) }) marks
      (record { set = newest-has (below (suc (suc n)) (saved_of side shared)) marks; inter = h.set; saved = h.saved; of_a = h.of_a; of_b = h.of_b })

  sent-has : (side : Side) (message : Message) (shared : Shared) → SharedHas P shared → SharedHas P (shared_sent Reliable side message shared)
  sent-has side (Transport unit) shared h = h
  sent-has side (Session (OfAssociation word)) shared h = h
  sent-has side (Session (OfData word)) shared h = h
  sent-has side (Session (OfMarks (Mark number))) shared h = saving-has side _ shared (h.set, saved-has side shared h) h
  sent-has side (Session (OfMarks (MarkAck number))) shared h = h
  sent-has side (Session (OfMarks (Restart number list))) shared h = h
  sent-has side (Session (OfMarks (RestartAck number list))) shared h = h
  sent-has side (Session (OfMarks (Give tokens))) shared h = h
  sent-has side (Session (OfMarks (Please tokens values))) shared h = h
  sent-has side (Session (OfMarks GiveConfirm)) shared h = h
  sent-has side (Session (OfMarks GiveAck)) shared h = h
  sent-has side (Session (OfActivities (Start activity))) shared h =
      saving-has side [] (record shared { inter = shared.set }) tt (record { set = h.set; inter = h.set; saved = h.saved; of_a = h.of_a; of_b = h.of_b })
  sent-has side (Session (OfActivities (Resume activity mark))) shared h = resumed-has side mark shared h
  sent-has side (Session (OfActivities (End number))) shared h = h
  sent-has side (Session (OfActivities (EndAck number))) shared h = h
  sent-has side (Session (OfActivities (Interrupt reason))) shared h = h
  sent-has side (Session (OfActivities InterruptAck)) shared h = h
  sent-has side (Session (OfActivities (Discard reason))) shared h = h
  sent-has side (Session (OfActivities DiscardAck)) shared h = h

  pub all-sent_has : (side : Side) (messages : List Message) (shared : Shared) → SharedHas P shared → SharedHas P (shared_all_sent Reliable side messages shared)
  all-sent_has side [] shared h = h
  all-sent_has side (message ∷ messages) shared h = all-sent_has side messages (shared_sent Reliable side message shared) (sent-has side message shared h)

  -- what an answer asks for
  abbrev pub AnswerHas : Message → Message → Type 0
  AnswerHas (Session (OfAssociation (Connect session asked values))) (Session (OfAssociation (Accept parameters given more))) =
      AllContexts P (accepted_set asked.definitions given.results)
  AnswerHas (Session (OfData (AlterContext add delete))) (Session (OfData (AlterContextAck answers))) =
      (set : List SetItem) → AllContexts P set → AllContexts P (altered (alteration add delete) answers set)
  AnswerHas to answer = Unit {0}

  set-has : (set : List SetItem) (shared : Shared) → AllContexts P set → SharedHas P shared → SharedHas P (record shared { set = set })
  set-has set shared s h = record { set = s; inter = h.inter; saved = h.saved; of_a = h.of_a; of_b = h.of_b }

  acceptance-has : (recovers : Bool) (set : List SetItem) (shared : Shared) → AllContexts P set → SharedHas P shared → SharedHas P (shared_accepted recovers set shared)
  acceptance-has true set shared s h = record { set = s; inter = s; saved = (s, tt); of_a = h.of_a; of_b = h.of_b }
  acceptance-has false set shared s h = record { set = s; inter = s; saved = (s, tt); of_a = tt; of_b = tt }

  answer-has : (base : Base) (to answer : Message) (shared : Shared) → AnswerHas to answer → SharedHas P shared → SharedHas P (shared_answered base to answer shared)
  answer-has base (Session (OfAssociation (Connect session asked values))) (Session (OfAssociation (Accept parameters given more))) shared f h =
      acceptance-has (recovers_in base values) (accepted_set asked.definitions given.results) shared f h
  answer-has base (Session (OfAssociation word)) (Session (OfAssociation answer)) shared f h = h
  answer-has base (Session (OfData (AlterContext add delete))) (Session (OfData (AlterContextAck answers))) shared f h = set-has _ shared (f shared.set h.set) h
  answer-has base (Session (OfData word)) (Session (OfData answer)) shared f h = h
  answer-has base to (Session (OfMarks (RestartAck number list))) shared f h =
      let marks = below-has number shared.saved h.saved in
      record { set = newest-has (below number shared.saved) marks; inter = h.inter; saved = marks; of_a = h.of_a; of_b = h.of_b }
  answer-has base to (Session (OfMarks answer)) shared f h = h
  answer-has base to (Session (OfActivities (EndAck number))) shared f h = set-has shared.inter shared h.inter h
  answer-has base to (Session (OfActivities InterruptAck)) shared f h = set-has shared.inter shared h.inter h
  answer-has base to (Session (OfActivities DiscardAck)) shared f h = set-has shared.inter shared h.inter h
  answer-has base to (Session (OfActivities answer)) shared f h = h
  answer-has base to answer shared f h = h

  abbrev pub AnswersHave : Message → List Message → Type 0
  AnswersHave to [] = Unit {0}
  AnswersHave to (answer ∷ answers) = AnswerHas to answer × AnswersHave to answers

  pub all-answered_has : (base : Base) (to : Message) (answers : List Message) (shared : Shared) → AnswersHave to answers → SharedHas P shared → SharedHas P (shared_all_answered base to answers shared)
  all-answered_has base to [] shared f h = h
  all-answered_has base to (answer ∷ answers) shared f h = all-answered_has base to answers (shared_answered base to answer shared) f.1 (answer-has base to answer shared f.0 h)
