-- What an end does with a message tells outcomes of its open invocations alone, and closes them.
use Rattle.std.proofs.Common.{◌≡◌, refl, true, false, ◌∙◌, sym, ap, subst, ℕ, List, [], ◌∷◌, ◌++◌, map}
use Rattle.std.specs.Prelude.{ℤ, Bool, not, ◌||◌, Option, Some, None, is_some, if◌then◌else◌}
use Rattle.osi_base.specs.declared.layer_words.Answers.{Answers}
use Rattle.osi_base.specs.declared.session_word.SessionConnect.{SessionConnect}
use Rattle.osi_base.specs.declared.presentation_word.PresentationConnect.{PresentationConnect}
use Rattle.dialogue.specs.declared.config.Mode.{Mode}
use Rattle.dialogue.specs.declared.config.Mode.TheVariants.{Bare, Direct, Reliable}
use Rattle.dialogue.specs.declared.indication.Indication.{Indication}
use Rattle.dialogue.specs.declared.indication.Indication.TheVariants as indications
use Rattle.end_model.specs.end_rules.Base.{Base, Fault, is_bare, is_reliable}
use Rattle.end_model.specs.end_rules.Sets.{Alteration}
use Rattle.end_model.specs.end_rules.Messages.{DataValue, Message, Transport, Session, Word, OfAssociation, OfData, OfMarks, OfActivities, TransportUnit, ConnectionRequest, ConnectionConfirm, DisconnectRequest, TransportError}
use Rattle.end_model.specs.end_rules.Messages.{AssociationWord, Connect, Accept, Refuse, Finish, Disconnect, Abort, AbortAccept, DataWord, Values, AlterContext, AlterContextAck}
use Rattle.end_model.specs.end_rules.Messages.{MarkWord, Mark, MarkAck, Restart, RestartAck, Give, Please, GiveConfirm, GiveAck, ActivityWord, Start, Resume, End, EndAck, Interrupt, InterruptAck, Discard, DiscardAck}
use Rattle.end_model.specs.end_rules.Messages.{unit_of}
use Rattle.end_model.specs.end_rules.State.{Body, OpenCall, Calls, is_broken, is_carrying, is_joined, opened_with, passes_over, post_order}
use Rattle.end_model.specs.end_rules.Faults.{cut_of, cuts, losses, transport_fault}
use Rattle.end_model.specs.end_rules.Writing.{is_recovering}
use Rattle.end_model.specs.end_rules.Purging.{is_purged, is_transport_purged}
use Rattle.end_model.specs.end_rules.Connecting.{is_refused, recovers_in, refused_connect, accepted_connect, begun_with, shown_opening}
use Rattle.end_model.specs.end_rules.TakesAssociation.{aborted_by_peer, shown_of_association}
use Rattle.end_model.specs.end_rules.TakesTransport.{transport_unit_fault, after_transport, shown_of_transport}
use Rattle.end_model.specs.end_rules.TakesData.{with_parts, values_taken, settled, shown_settled, shown_of_data}
use Rattle.end_model.specs.end_rules.TakesMarks.{marked_in, mark_shown, confirmed_in, with_turn, shown_turn, priority_in, shown_plea, shown_please, shown_of_mark}
use Rattle.end_model.specs.end_rules.TakesActivities.{invocation_in, cut_invocation, shown_cut, received, handed_up, shown_of_activity}
use Rattle.end_model.specs.end_rules.Reacting.{Reaction, Passes, Takes, Fails, fails, after_word, shown_of_word, fault_above, word_fault, on_word, react_to_word, on_transport, react_to_session, react_alive, react}
use Rattle.outcome_laws.specs.Exchanges.{Asked, kept_unless, still_after}
use Rattle.outcome_laws.proofs.Open.{Once, once-new, once-still, once-cut, once-close}
use Rattle.outcome_laws.proofs.Shown.{notes_in, notes-append}
use Rattle.outcome_laws.proofs.Hearing.{values-once}

-- ---- what is no outcome

cuts-none : (os : List OpenCall) → notes_in (map cut_of os) ≡ []
cuts-none [] = refl
cuts-none (o ∷ os) = cuts-none os

losses-none : (own : List Alteration) → notes_in (map (λ (a : Alteration). indications.AlterLost) own) ≡ []
losses-none [] = refl
losses-none (a ∷ own) = losses-none own

both-none : (xs ys : List Indication) → notes_in xs ≡ [] → notes_in ys ≡ [] → notes_in (xs ++ ys) ≡ []
both-none xs ys e f = notes-append xs ys ∙ ap (λ is. is ++ notes_in ys) e ∙ f

-- of what is cut, and of what isn't
cut-more : (body : Body) (shown : List Indication) → notes_in shown ≡ [] → notes_in (cuts body ++ shown) ≡ []
cut-more body shown e = both-none (cuts body) shown (cuts-none (post_order body.calls.opens)) e

pub lost-more : (body : Body) (shown : List Indication) → notes_in shown ≡ [] → notes_in (losses body ++ shown) ≡ []
lost-more body shown e = both-none (losses body) shown (losses-none body.sets.own) e

-- ---- words

abbrev WordOnce : Base → Body → Word → List Asked → List Indication → Type 0
WordOnce base body word asked told = Once base.tables (still_after base body (Session word) asked) (after_word base body word).calls (still_after base body (Session word) told ++ shown_of_word base body word)

opening-none : (body : Body) (recovers : Bool) → notes_in (shown_opening body recovers) ≡ []
opening-none body true = lost-more body (indications.Recovered ∷ []) refl
opening-none body false = go (is_broken body.link.phase)
  where
    go : (b : Bool) → notes_in (if b then cuts body ++ indications.GivenUp ∷ indications.Opened ∷ [] else indications.Opened ∷ []) ≡ []
    go true = cut-more body (indications.GivenUp ∷ indications.Opened ∷ []) refl
    go false = refl

connected : (base : Base) (body : Body) (session : SessionConnect) (presentation : PresentationConnect) (values : List DataValue) (asked : List Asked) (told : List Indication) → Once base.tables asked body.calls told → WordOnce base body (OfAssociation (Connect session presentation values)) asked told
connected base body session presentation values asked told h = go (is_refused base body session presentation values) (recovers_in base values) refl
  where
    go : (r v : Bool) → recovers_in base values ≡ v → Once base.tables (kept_unless r v asked) (if r then refused_connect body else accepted_connect base body session presentation values).calls (kept_unless r v told ++ (if r then [] else shown_opening body v))
    go true v e = once-still base.tables asked body.calls told [] refl h
    go false true e =
        let same : (accepted_connect base body session presentation values).calls ≡ body.calls = ap (λ (b : Bool). (if b then body else begun_with base session).calls) e in
        subst (λ (c : Calls). Once base.tables asked c (told ++ shown_opening body true)) (sym same) (once-still base.tables asked body.calls told (shown_opening body true) (opening-none body true) h)
    go false false e =
        let same : (accepted_connect base body session presentation values).calls ≡ (begun_with base session).calls = ap (λ (b : Bool). (if b then body else begun_with base session).calls) e in
        subst (λ (c : Calls). Once base.tables [] c ([] ++ shown_opening body false)) (sym same) (once-still base.tables [] (begun_with base session).calls [] (shown_opening body false) (opening-none body false) (once-new base.tables))

-- the same open invocations, and no outcome told
kept : (base : Base) (asked : List Asked) (calls later : Calls) (told more : List Indication) → later ≡ calls → notes_in more ≡ [] → Once base.tables asked calls told → Once base.tables asked later (told ++ more)
kept base asked calls later told more e f h = once-still base.tables asked later told more f (subst (λ (c : Calls). Once base.tables asked c told) (sym e) h)

-- all are cut, and no outcome told
all-cut : (base : Base) (asked : List Asked) (calls : Calls) (told more : List Indication) → notes_in more ≡ [] → Once base.tables asked calls told → Once base.tables asked (record calls { opens = [] }) (told ++ more)
all-cut base asked calls told more e h = once-still base.tables asked (record calls { opens = [] }) told more e (once-cut base.tables asked calls told h)

accept-none : (body : Body) → notes_in (if is_recovering body.link.phase then losses body ++ indications.Recovered ∷ [] else indications.Opened ∷ []) ≡ []
accept-none body = go (is_recovering body.link.phase)
  where
    go : (b : Bool) → notes_in (if b then losses body ++ indications.Recovered ∷ [] else indications.Opened ∷ []) ≡ []
    go true = lost-more body (indications.Recovered ∷ []) refl
    go false = refl

pub association-none : (base : Base) (body : Body) (word : AssociationWord) → notes_in (shown_of_association base body word) ≡ []
association-none base body (Connect session presentation values) = go (is_refused base body session presentation values)
  where
    go : (b : Bool) → notes_in (if b then [] else shown_opening body (recovers_in base values)) ≡ []
    go true = refl
    go false = opening-none body (recovers_in base values)
association-none base body (Accept session presentation values) = accept-none body
association-none base body (Refuse transport reason presentation values) = refl
association-none base body (Finish transport values) = cut-more body (indications.Released ∷ []) refl
association-none base body (Disconnect values) = cut-more body (indications.Released ∷ []) refl
association-none base body (Abort transport user) = cut-more body (aborted_by_peer ∷ []) refl
association-none base body AbortAccept = cut-more body (aborted_by_peer ∷ []) refl

association-once : (base : Base) (body : Body) (word : AssociationWord) (asked : List Asked) (told : List Indication) → Once base.tables asked body.calls told → WordOnce base body (OfAssociation word) asked told
association-once base body (Connect session presentation values) asked told h = connected base body session presentation values asked told h
association-once base body (Accept session presentation values) asked told h = kept base asked body.calls body.calls told (shown_of_association base body (Accept session presentation values)) refl (association-none base body (Accept session presentation values)) h
association-once base body (Refuse transport reason presentation values) asked told h = kept base asked body.calls body.calls told (indications.AssociationRefused ∷ []) refl refl h
association-once base body (Finish transport values) asked told h = all-cut base asked body.calls told (shown_of_association base body (Finish transport values)) (association-none base body (Finish transport values)) h
association-once base body (Disconnect values) asked told h = all-cut base asked body.calls told (shown_of_association base body (Disconnect values)) (association-none base body (Disconnect values)) h
association-once base body (Abort transport user) asked told h = all-cut base asked body.calls told (shown_of_association base body (Abort transport user)) (association-none base body (Abort transport user)) h
association-once base body AbortAccept asked told h = all-cut base asked body.calls told (shown_of_association base body AbortAccept) (association-none base body AbortAccept) h

parts-kept : (values : List DataValue) (body : Body) → (with_parts values body).calls ≡ body.calls
parts-kept [] body = refl
parts-kept (value ∷ values) body = parts-kept values _

values-taken : (base : Base) (body : Body) (values : List DataValue) (asked : List Asked) (told : List Indication) → Once base.tables asked body.calls told → Once base.tables asked (values_taken base body values).body.calls (told ++ (values_taken base body values).shown)
values-taken base body values asked told h = go (is_reliable base.mode) refl
  where
    go : (b : Bool) → is_reliable base.mode ≡ b → Once base.tables asked (values_taken base body values).body.calls (told ++ (values_taken base body values).shown)
    go true e = rw e (kept base asked body.calls (with_parts values body).calls told [] (parts-kept values body) refl h)
    go false e = rw e (values-once base body values asked told h)

settled-kept : (own : List Alteration) (answers : Answers) (body : Body) → (settled own answers body).calls ≡ body.calls
settled-kept [] answers body = refl
settled-kept (a ∷ own) answers body = refl

pub settled-none : (own : List Alteration) (answers : Answers) → notes_in (shown_settled own answers) ≡ []
settled-none [] answers = refl
settled-none (a ∷ own) answers = refl

data-once : (base : Base) (body : Body) (word : DataWord) (asked : List Asked) (told : List Indication) → Once base.tables asked body.calls told → WordOnce base body (OfData word) asked told
data-once base body (Values values) asked told h = values-taken base body values asked told h
data-once base body (AlterContext add delete) asked told h = kept base asked body.calls body.calls told (shown_of_data base body (AlterContext add delete)) refl refl h
data-once base body (AlterContextAck answers) asked told h =
    kept base asked body.calls (settled body.sets.own answers body).calls told (shown_settled body.sets.own answers) (settled-kept body.sets.own answers body) (settled-none body.sets.own answers) h

marked-kept : (mode : Mode) (n : ℕ) (body : Body) → (marked_in mode n body).calls ≡ body.calls
marked-kept Reliable n body = refl
marked-kept Direct n body = refl
marked-kept Bare n body = refl

marked-none : (mode : Mode) (n : ℕ) → notes_in (mark_shown mode n) ≡ []
marked-none Reliable n = refl
marked-none Direct n = refl
marked-none Bare n = refl

confirmed-kept : (mode : Mode) (n : ℕ) (body : Body) → (confirmed_in mode n body).calls ≡ body.calls
confirmed-kept Reliable n body = refl
confirmed-kept Direct n body = refl
confirmed-kept Bare n body = refl

turn-kept : (tokens : Option ℕ) (body : Body) → (with_turn tokens body).calls ≡ body.calls
turn-kept None body = refl
turn-kept (Some tokens) body = refl

turn-none : (tokens : Option ℕ) → notes_in (shown_turn tokens) ≡ []
turn-none None = refl
turn-none (Some tokens) = refl

plea-none : (priority : Option ℕ) → notes_in (shown_plea priority) ≡ []
plea-none None = refl
plea-none (Some priority) = refl

please-none : (tokens : Option ℕ) (values : List DataValue) → notes_in (shown_please tokens values) ≡ []
please-none None values = refl
please-none (Some tokens) values = plea-none (priority_in values)

restarted-none : (body : Body) (n : ℕ) → notes_in (losses body ++ cuts body ++ indications.Restarted n ∷ []) ≡ []
restarted-none body n = both-none (losses body ++ cuts body) (indications.Restarted n ∷ []) (lost-more body (cuts body) (cuts-none (post_order body.calls.opens))) refl

pub marks-none : (base : Base) (body : Body) (word : MarkWord) → notes_in (shown_of_mark base body word) ≡ []
marks-none base body (Mark number) = marked-none base.mode number
marks-none base body (MarkAck number) = refl
marks-none base body (Restart number list) = restarted-none body number
marks-none base body (RestartAck number list) = restarted-none body number
marks-none base body (Give tokens) = turn-none tokens
marks-none base body (Please tokens values) = please-none tokens values
marks-none base body GiveConfirm = refl
marks-none base body GiveAck = refl

mark-once : (base : Base) (body : Body) (word : MarkWord) (asked : List Asked) (told : List Indication) → Once base.tables asked body.calls told → WordOnce base body (OfMarks word) asked told
mark-once base body (Mark number) asked told h = kept base asked body.calls (marked_in base.mode number body).calls told (mark_shown base.mode number) (marked-kept base.mode number body) (marked-none base.mode number) h
mark-once base body (MarkAck number) asked told h = kept base asked body.calls (confirmed_in base.mode number body).calls told [] (confirmed-kept base.mode number body) refl h
mark-once base body (Restart number list) asked told h = all-cut base asked body.calls told (shown_of_mark base body (Restart number list)) (restarted-none body number) h
mark-once base body (RestartAck number list) asked told h = all-cut base asked body.calls told (shown_of_mark base body (RestartAck number list)) (restarted-none body number) h
mark-once base body (Give tokens) asked told h = kept base asked body.calls (with_turn tokens body).calls told (shown_turn tokens) (turn-kept tokens body) (turn-none tokens) h
mark-once base body (Please tokens values) asked told h = kept base asked body.calls body.calls told (shown_please tokens values) refl (please-none tokens values) h
mark-once base body GiveConfirm asked told h = kept base asked body.calls body.calls told (indications.Turn ∷ []) refl refl h
mark-once base body GiveAck asked told h = kept base asked body.calls body.calls told [] refl refl h

cut-once : (base : Base) (id : Option ℤ) (asked : List Asked) (calls : Calls) (told : List Indication) → Once base.tables asked calls told → Once base.tables asked (cut_invocation id calls) told
cut-once base None asked calls told h = h
cut-once base (Some id) asked calls told h = once-close base.tables true id asked calls told h

shown-cut-none : (id : Option ℤ) (calls : Calls) → notes_in (shown_cut id calls) ≡ []
shown-cut-none None calls = refl
shown-cut-none (Some id) calls = go (is_some (opened_with true id calls.opens))
  where
    go : (b : Bool) → notes_in (if b then indications.Cut true id ∷ [] else []) ≡ []
    go true = refl
    go false = refl

pub discard-none : (body : Body) → notes_in (losses body ++ shown_cut (invocation_in body.sending.current) body.calls ++ indications.Discarded body.sending.started ∷ []) ≡ []
discard-none body =
    both-none (losses body ++ shown_cut (invocation_in body.sending.current) body.calls) (indications.Discarded body.sending.started ∷ [])
    (lost-more body (shown_cut (invocation_in body.sending.current) body.calls) (shown-cut-none (invocation_in body.sending.current) body.calls)) refl

activity-once : (base : Base) (body : Body) (word : ActivityWord) (asked : List Asked) (told : List Indication) → Once base.tables asked body.calls told → WordOnce base body (OfActivities word) asked told
activity-once base body (Start activity) asked told h = kept base asked body.calls body.calls told [] refl refl h
activity-once base body (Resume activity mark) asked told h = kept base asked body.calls body.calls told (indications.Resumed activity mark ∷ []) refl refl h
activity-once base body (End number) asked told h = values-once base (received (λ r. record r { was_handed = true; active = false }) body) (handed_up base body) asked told h
activity-once base body (EndAck number) asked told h = kept base asked body.calls body.calls told (indications.Transferred body.sending.started ∷ []) refl refl h
activity-once base body (Interrupt reason) asked told h = kept base asked body.calls body.calls told (indications.Interrupted body.receiving.last ∷ []) refl refl h
activity-once base body InterruptAck asked told h = kept base asked body.calls body.calls told (losses body ++ indications.Interrupted body.sending.started ∷ []) refl (lost-more body (indications.Interrupted body.sending.started ∷ []) refl) h
activity-once base body (Discard reason) asked told h = kept base asked body.calls body.calls told (indications.Discarded body.receiving.last ∷ []) refl refl h
activity-once base body DiscardAck asked told h =
    once-still base.tables asked (cut_invocation (invocation_in body.sending.current) body.calls) told (shown_of_activity base body DiscardAck) (discard-none body)
    (cut-once base (invocation_in body.sending.current) asked body.calls told h)

word-once : (base : Base) (body : Body) (word : Word) (asked : List Asked) (told : List Indication) → Once base.tables asked body.calls told → WordOnce base body word asked told
word-once base body (OfAssociation word) asked told h = association-once base body word asked told h
word-once base body (OfData word) asked told h = data-once base body word asked told h
word-once base body (OfMarks word) asked told h = mark-once base body word asked told h
word-once base body (OfActivities word) asked told h = activity-once base body word asked told h

-- ---- what an end does with a message; where it isn't taken, what was shown stays

abbrev pub ReactsOnce : Base → Body → Message → List Asked → List Indication → Reaction → Type 0
ReactsOnce base first message asked told Passes = Unit {0}
ReactsOnce base first message asked told (Takes body answers shown) = Once base.tables (still_after base first message asked) body.calls (still_after base first message told ++ shown)
ReactsOnce base first message asked told (Fails fault body aborts shown) = Once base.tables asked body.calls told

either : (base : Base) (first : Body) (message : Message) (asked : List Asked) (told : List Indication) (b : Bool) (x y : Reaction) → ReactsOnce base first message asked told x → ReactsOnce base first message asked told y → ReactsOnce base first message asked told (if b then x else y)
either base first message asked told true x y h k = h
either base first message asked told false x y h k = k

on-word : (base : Base) (body : Body) (word : Word) (fault : Option Fault) (asked : List Asked) (told : List Indication) → Once base.tables asked body.calls told → ReactsOnce base body (Session word) asked told (on_word base body word fault)
on-word base body word (Some fault) asked told h = once-cut base.tables asked body.calls told h
on-word base body word None asked told h = word-once base body word asked told h

pub transport-none : (unit : TransportUnit) → notes_in (shown_of_transport unit) ≡ []
transport-none (ConnectionRequest source size calling called) = refl
transport-none (ConnectionConfirm destination size) = refl
transport-none (DisconnectRequest destination) = refl
transport-none TransportError = refl

transport-kept : (base : Base) (body : Body) (unit : TransportUnit) → (after_transport base body unit).calls ≡ body.calls
transport-kept base body (ConnectionRequest source size calling called) = refl
transport-kept base body (ConnectionConfirm destination size) = refl
transport-kept base body (DisconnectRequest destination) = refl
transport-kept base body TransportError = refl

on-transport : (base : Base) (body : Body) (unit : TransportUnit) (fault : Option Fault) (asked : List Asked) (told : List Indication) → Once base.tables asked body.calls told → ReactsOnce base body (Transport unit) asked told (on_transport base body unit fault)
on-transport base body unit (Some fault) asked told h = once-cut base.tables asked body.calls told h
on-transport base body unit None asked told h = kept base asked body.calls (after_transport base body unit).calls told (shown_of_transport unit) (transport-kept base body unit) (transport-none unit) h

to-word : (base : Base) (body : Body) (word : Word) (asked : List Asked) (told : List Indication) → Once base.tables asked body.calls told → ReactsOnce base body (Session word) asked told (react_to_word base body word)
to-word base body word asked told h =
    either base body (Session word) asked told (not (is_joined body.link.stage || is_carrying body.link.stage)) (fails body body.link.accepted transport_fault) _ (once-cut base.tables asked body.calls told h)
    (either base body (Session word) asked told (is_purged base.initiator body.link.awaits (unit_of word)) Passes (on_word base body word (word_fault base body word)) tt (on-word base body word (word_fault base body word) asked told h))

to-session : (b : Bool) (base : Base) (body : Body) (word : Word) (asked : List Asked) (told : List Indication) → Once base.tables asked body.calls told → ReactsOnce base body (Session word) asked told (react_to_session b base body word)
to-session true base body word asked told h = on-word base body word (fault_above base body word) asked told h
to-session false base body word asked told h = to-word base body word asked told h

alive : (base : Base) (body : Body) (message : Message) (asked : List Asked) (told : List Indication) → Once base.tables asked body.calls told → ReactsOnce base body message asked told (react_alive base body message)
alive base body (Transport unit) asked told h =
    either base body (Transport unit) asked told (is_transport_purged body.link.awaits) Passes (on_transport base body unit (transport_unit_fault base body unit)) tt (on-transport base body unit (transport_unit_fault base body unit) asked told h)
alive base body (Session word) asked told h = to-session (is_bare base.mode) base body word asked told h

pub reacts-once : (base : Base) (body : Body) (message : Message) (asked : List Asked) (told : List Indication) → Once base.tables asked body.calls told → ReactsOnce base body message asked told (react base body message)
reacts-once base body message asked told h =
    either base body message asked told (passes_over body.link.phase) Passes (react_alive base body message) tt (alive base body message asked told h)
