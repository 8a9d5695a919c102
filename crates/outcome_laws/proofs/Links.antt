-- A linked invocation that is shown names an own one, whose operation allows the link.
use Rattle.std.proofs.Common.{◌≡◌, refl, true, false, ◌∙◌, sym, ap, subst, ℕ, List, [], ◌∷◌, ◌++◌}
use Rattle.std.specs.Prelude.{ℤ, length, Bool, not, ◌&&◌, nat_le, Option, Some, None, is_some, if◌then◌else◌}
use Rattle.osi_base.specs.declared.layer_words.Problem.{Problem}
use Rattle.osi_base.specs.declared.layer_words.ProblemKind.TheVariants as problems
use Rattle.osi_base.specs.Limits.{most_open}
use Rattle.stub_tables.specs.declared.tables.Tables.{Tables}
use Rattle.stub_tables.specs.declared.operation.Code.{Code}
use Rattle.stub_tables.specs.Lookup.{operation_at, operation_with, error_with}
use Rattle.dialogue.specs.declared.indication.Indication.{Indication}
use Rattle.dialogue.specs.declared.indication.Indication.TheVariants as indications
use Rattle.end_model.specs.end_rules.Base.{Base, Carried, HeardHead, General, BadReject, InvokeHead, ResultHead, ErrorHead, RejectHead, is_reliable}
use Rattle.end_model.specs.end_rules.Messages.{DataValue, Message, Transport, Session, OfAssociation, OfData, OfMarks, OfActivities, DataWord, Values, AlterContext, AlterContextAck}
use Rattle.end_model.specs.end_rules.Messages.{ActivityWord, Start, Resume, End, EndAck, Interrupt, InterruptAck, Discard, DiscardAck}
use Rattle.end_model.specs.end_rules.State.{Body, OpenCall, Calls, opens_of, opened_with, close}
use Rattle.end_model.specs.end_rules.Invoking.{is_linked_to, operation_of}
use Rattle.end_model.specs.end_rules.Hearing.{Heard, rejected, showing, unless_problem, first_problem, problem_if, has_links, is_silent_at, link_problem, argument_problem, operation_problem, invoke_problem, invoked, result_problem, hear_result_of, error_problem, showing_error, hear_error_of, is_of_invocation, hear_reject, hear, value_in, with_reject, take_head, head_of, take_values}
use Rattle.end_model.specs.end_rules.TakesTransport.{shown_of_transport}
use Rattle.end_model.specs.end_rules.TakesAssociation.{shown_of_association}
use Rattle.end_model.specs.end_rules.TakesData.{values_taken, shown_of_data}
use Rattle.end_model.specs.end_rules.TakesMarks.{shown_of_mark}
use Rattle.end_model.specs.end_rules.TakesActivities.{received, handed_up, shown_of_activity}
use Rattle.end_model.specs.end_rules.Reacting.{Takes, react}
use Rattle.agreement.specs.Sets.{Role}
use Rattle.agreement.specs.Sets.Role.{Initiator, Responder}
use Rattle.end_model.specs.BothEnds.{Common, base_at, Two}
use Rattle.reliable_model.specs.Ledgers.{Ledger}
use Rattle.outcome_laws.specs.Exchanges.{Asked, asked_by, still_after, Exchanges, exchange_of, ReachedWithExchanges, begins, calls as asks, acts, takes, passes, fails as aborts_of_itself, breaks}
use Rattle.outcome_laws.specs.Links.{Link, links_in, IsAllowedLink, AreAllowedLinks, LinksAreAllowed}
use Rattle.outcome_laws.proofs.Shown.{in-later, notes_in, links-append, unnoted-links}
use Rattle.outcome_laws.proofs.Open.{asked_in, Once, Found, found}
use Rattle.outcome_laws.proofs.Hearing.{rest-none, with-reject, head-once}
use Rattle.outcome_laws.proofs.Words.{association-none, settled-none, marks-none, transport-none, lost-more, discard-none}
use Rattle.outcome_laws.proofs.Once.{keeps, still-keeps, once}
use Rattle.outcome_laws.proofs.Transferred.{shown_of, shows-so}

-- ---- links

fit-append : (tables : Tables) (asked : List Asked) (xs ys : List Link) → AreAllowedLinks tables asked xs → AreAllowedLinks tables asked ys → AreAllowedLinks tables asked (xs ++ ys)
fit-append tables asked [] ys h k = k
fit-append tables asked (x ∷ xs) ys h k = (h.0, fit-append tables asked xs ys h.1 k)

fit-on : (tables : Tables) (asked more : List Asked) (links : List Link) → AreAllowedLinks tables asked links → AreAllowedLinks tables (more ++ asked) links
fit-on tables asked more [] h = tt
fit-on tables asked more (link ∷ links) h =
    (record { invocation = h.0.invocation; is_own = in-later more asked h.0.invocation h.0.is_own; is_named = h.0.is_named; may_link = h.0.may_link }, fit-on tables asked more links h.1)

fit-quiet : (tables : Tables) (asked : List Asked) (shown : List Indication) → notes_in shown ≡ [] → AreAllowedLinks tables asked (links_in shown)
fit-quiet tables asked shown e = subst (AreAllowedLinks tables asked) (sym (unnoted-links shown e)) tt

fit-both : (tables : Tables) (asked : List Asked) (first second : List Indication) → AreAllowedLinks tables asked (links_in first) → AreAllowedLinks tables asked (links_in second) → AreAllowedLinks tables asked (links_in (first ++ second))
fit-both tables asked first second h k = subst (AreAllowedLinks tables asked) (sym (links-append first second)) (fit-append tables asked (links_in first) (links_in second) h k)

-- ---- an APDU

abbrev Links : Base → List Asked → Heard → Type 0
Links base asked heard = AreAllowedLinks base.tables asked (links_in heard.shown)

unless : (base : Base) (asked : List Asked) (o : Option ℕ) (refused : ℕ → Heard) (heard : Heard) → ((n : ℕ) → Links base asked (refused n)) → (o ≡ None → Links base asked heard) → Links base asked (unless_problem o refused heard)
unless base asked None refused heard f h = h refl
unless base asked (Some n) refused heard f h = f n

first-none : (x y : Option ℕ) → first_problem x y ≡ None → x ≡ None
first-none None y h = refl
first-none (Some n) y h = cc

last-none : (b : Bool) (n : ℕ) → problem_if (not b) n ≡ None → b ≡ true
last-none true n h = refl
last-none false n h = cc

link-of : (base : Base) (asked : List Asked) (calls : Calls) (shown : List Indication) (place : ℕ) (linked : ℤ) (o : Option OpenCall) → Once base.tables asked calls shown → opened_with true linked calls.opens ≡ o → is_linked_to (operation_of base o) place ≡ true → IsAllowedLink base.tables asked (record { linked = linked; place = place })
link-of base asked calls shown place linked None h e k = cc
link-of base asked calls shown place linked (Some o) h e k =
    let f : Found asked calls.made linked o = found asked calls.made linked calls.opens o h.own e in
    record { invocation = asked_in o; is_own = f.asked_it; is_named = f.is_its; may_link = k }

linked-so : (base : Base) (calls : Calls) (place : ℕ) (linked : ℤ) → link_problem base calls place (Some linked) ≡ None → is_linked_to (operation_of base (opened_with true linked calls.opens)) place ≡ true
linked-so base calls place linked h =
    last-none (is_linked_to (operation_of base (opened_with true linked calls.opens)) place) 7
    (rest-none (not (has_links (operation_of base (opened_with true linked calls.opens)))) 6 _
    (rest-none (not (is_some (opened_with true linked calls.opens))) 5 _ h))

invoked-links : (base : Base) (asked : List Asked) (calls : Calls) (shown : List Indication) (context : ℕ) (id : ℤ) (linked : Option ℤ) (place : Option ℕ) (argument : Carried) → Once base.tables asked calls shown → invoke_problem base calls id linked place argument ≡ None → Links base asked (invoked base calls context id linked place argument)
invoked-links base asked calls shown context id linked None argument h p = tt
invoked-links base asked calls shown context id None (Some place) argument h p = tt
invoked-links base asked calls shown context id (Some linked) (Some place) argument h p =
    let rest : operation_problem base calls (Some place) (Some linked) argument ≡ None =
    rest-none (nat_le most_open (length (opens_of false calls.opens)) && not (is_silent_at base (Some place))) 3 _
    (rest-none (is_some (opened_with false id calls.opens)) 0 _ p) in
    let link : link_problem base calls place (Some linked) ≡ None = first-none (link_problem base calls place (Some linked)) (argument_problem base (operation_at base.tables place) argument) rest in
    (link-of base asked calls shown place linked (opened_with true linked calls.opens) h refl (linked-so base calls place linked link), tt)

result-links : (base : Base) (asked : List Asked) (calls : Calls) (id : ℤ) (o : Option OpenCall) (code : Option Code) (value : Carried) → Links base asked (hear_result_of base calls id o code value)
result-links base asked calls id None code value = tt
result-links base asked calls id (Some o) code value =
    unless base asked (result_problem base o.operation (operation_at base.tables o.operation) code value)
    (rejected (close true id calls) (Some id) problems.Result)
    (showing (close true id calls) (indications.Result id (value_in value)))
    (λ n. tt) (λ p. tt)

told-links : (base : Base) (asked : List Asked) (calls : Calls) (id : ℤ) (place : Option ℕ) (value : Carried) → Links base asked (showing_error calls id place value)
told-links base asked calls id None value = tt
told-links base asked calls id (Some place) value = tt

error-links : (base : Base) (asked : List Asked) (calls : Calls) (id : ℤ) (o : Option OpenCall) (place : Option ℕ) (value : Carried) → Links base asked (hear_error_of base calls id o place value)
error-links base asked calls id None place value = tt
error-links base asked calls id (Some o) place value =
    unless base asked (error_problem base (operation_at base.tables o.operation) place value)
    (rejected (close true id calls) (Some id) problems.Error)
    (showing_error (close true id calls) id place value)
    (λ n. tt) (λ p. told-links base asked (close true id calls) id place value)

reject-links : (base : Base) (asked : List Asked) (calls : Calls) (id : Option ℤ) (problem : Problem) → Links base asked (hear_reject calls id problem)
reject-links base asked calls None problem = tt
reject-links base asked calls (Some id) problem = go (is_of_invocation problem.kind && is_some (opened_with true id calls.opens))
  where
    go : (b : Bool) → Links base asked (if b then showing (close true id calls) (indications.Rejected id problem) else showing calls (indications.RejectTaken (Some id) problem))
    go true = tt
    go false = tt

heard-links : (base : Base) (asked : List Asked) (calls : Calls) (shown : List Indication) (context : ℕ) (head : HeardHead) → Once base.tables asked calls shown → Links base asked (hear base calls context head)
heard-links base asked calls shown context (General number) h = tt
heard-links base asked calls shown context BadReject h = tt
heard-links base asked calls shown context (InvokeHead id linked code argument) h =
    unless base asked (invoke_problem base calls id linked (operation_with base.tables code) argument)
    (rejected calls (Some id) problems.Invoke)
    (invoked base calls context id linked (operation_with base.tables code) argument)
    (λ n. tt) (λ p. invoked-links base asked calls shown context id linked (operation_with base.tables code) argument h p)
heard-links base asked calls shown context (ResultHead id code value) h = result-links base asked calls id (opened_with true id calls.opens) code value
heard-links base asked calls shown context (ErrorHead id code value) h = error-links base asked calls id (opened_with true id calls.opens) (error_with base.tables code) value
heard-links base asked calls shown context (RejectHead id problem) h = reject-links base asked calls id problem

-- ---- values and words

values-links : (base : Base) (asked : List Asked) (body : Body) (values : List DataValue) (before : List Indication) → Once base.tables asked body.calls before → AreAllowedLinks base.tables asked (links_in (take_values base body values).shown)
values-links base asked body [] before h = tt
values-links base asked body (value ∷ values) before h =
    let heard = hear base body.calls value.id (head_of base value) in
    let with_it = with_reject base (record body { calls = heard.calls }) value.id heard.reject in
    let first = take_head base body value.id (head_of base value) in
    fit-both base.tables asked first.shown (take_values base first.body values).shown
    (fit-both base.tables asked heard.shown with_it.shown (heard-links base asked body.calls before value.id (head_of base value) h)
    (fit-quiet base.tables asked with_it.shown (with-reject base (record body { calls = heard.calls }) value.id heard.reject).1))
    (values-links base asked first.body values (before ++ first.shown) (head-once base body value asked before h))

taken-values-links : (base : Base) (asked : List Asked) (body : Body) (values : List DataValue) (before : List Indication) → Once base.tables asked body.calls before → AreAllowedLinks base.tables asked (links_in (values_taken base body values).shown)
taken-values-links base asked body values before h = go (is_reliable base.mode) refl
  where
    go : (b : Bool) → is_reliable base.mode ≡ b → AreAllowedLinks base.tables asked (links_in (values_taken base body values).shown)
    go true e = rw e tt
    go false e = rw e (values-links base asked body values before h)

data-links : (base : Base) (asked : List Asked) (body : Body) (word : DataWord) (before : List Indication) → Once base.tables asked body.calls before → AreAllowedLinks base.tables asked (links_in (shown_of_data base body word))
data-links base asked body (Values values) before h = taken-values-links base asked body values before h
data-links base asked body (AlterContext add delete) before h = tt
data-links base asked body (AlterContextAck answers) before h = fit-quiet base.tables asked (shown_of_data base body (AlterContextAck answers)) (settled-none body.sets.own answers)

activity-links : (base : Base) (asked : List Asked) (body : Body) (word : ActivityWord) (before : List Indication) → Once base.tables asked body.calls before → AreAllowedLinks base.tables asked (links_in (shown_of_activity base body word))
activity-links base asked body (Start activity) before h = tt
activity-links base asked body (Resume activity mark) before h = tt
activity-links base asked body (End number) before h = values-links base asked (received (λ r. record r { was_handed = true; active = false }) body) (handed_up base body) before h
activity-links base asked body (EndAck number) before h = tt
activity-links base asked body (Interrupt reason) before h = tt
activity-links base asked body InterruptAck before h = fit-quiet base.tables asked (shown_of_activity base body InterruptAck) (lost-more body (indications.Interrupted body.sending.started ∷ []) refl)
activity-links base asked body (Discard reason) before h = tt
activity-links base asked body DiscardAck before h = fit-quiet base.tables asked (shown_of_activity base body DiscardAck) (discard-none body)

message-links : (base : Base) (asked : List Asked) (body : Body) (message : Message) (before : List Indication) → Once base.tables asked body.calls before → AreAllowedLinks base.tables asked (links_in (shown_of base body message))
message-links base asked body (Transport unit) before h = fit-quiet base.tables asked (shown_of_transport unit) (transport-none unit)
message-links base asked body (Session (OfAssociation word)) before h = fit-quiet base.tables asked (shown_of_association base body word) (association-none base body word)
message-links base asked body (Session (OfData word)) before h = data-links base asked body word before h
message-links base asked body (Session (OfMarks word)) before h = fit-quiet base.tables asked (shown_of_mark base body word) (marks-none base body word)
message-links base asked body (Session (OfActivities word)) before h = activity-links base asked body word before h

-- ---- two ends

-- where the association begins anew, nothing of it was shown before, and the opening shows no invocation
taken-links : (base : Base) (asked : List Asked) (body : Body) (message : Message) (later : Body) (answers : List Message) (before shown : List Indication) → react base body message ≡ Takes later answers shown → Once base.tables asked body.calls before → AreAllowedLinks base.tables asked (links_in before) → AreAllowedLinks base.tables (still_after base body message asked) (links_in (still_after base body message before ++ shown))
taken-links base asked body message later answers before shown h o k =
    subst (λ (xs : List Asked). AreAllowedLinks base.tables xs (links_in (still_after base body message before ++ shown))) (sym (still-keeps base body message asked))
    (subst (λ (xs : List Indication). AreAllowedLinks base.tables (if keeps base body message then asked else []) (links_in (xs ++ shown))) (sym (still-keeps base body message before)) (go (keeps base body message) refl))
  where
    of_message : AreAllowedLinks base.tables asked (links_in shown)
    of_message = subst (λ (xs : List Indication). AreAllowedLinks base.tables asked (links_in xs)) (sym (shows-so base body message later answers shown h)) (message-links base asked body message before o)

    anew : (m : Message) → m ≡ message → keeps base body m ≡ false → links_in shown ≡ []
    anew (Session (OfAssociation word)) e f =
        ap links_in (shows-so base body message later answers shown h ∙ ap (shown_of base body) (sym e)) ∙ unnoted-links (shown_of_association base body word) (association-none base body word)
    anew (Transport unit) e f = cc
    anew (Session (OfData word)) e f = cc
    anew (Session (OfMarks word)) e f = cc
    anew (Session (OfActivities word)) e f = cc

    go : (b : Bool) → keeps base body message ≡ b → AreAllowedLinks base.tables (if b then asked else []) (links_in ((if b then before else []) ++ shown))
    go true e = fit-both base.tables asked before shown k of_message
    go false e = subst (AreAllowedLinks base.tables []) (sym (anew message refl e)) tt

links : (common : Common) (two : Two) (ledger : Ledger) (exchanges : Exchanges) → ReachedWithExchanges common two ledger exchanges → (role : Role) → AreAllowedLinks common.tables (exchange_of role exchanges).asked (links_in (exchange_of role exchanges).shown)
links common two ledger exchanges begins Initiator = tt
links common two ledger exchanges begins Responder = tt
links common two ledger exchanges (asks x l d Initiator call answer reached h) Initiator = fit-on common.tables d.a.asked (asked_by call answer) (links_in d.a.shown) (links common x l d reached Initiator)
links common two ledger exchanges (asks x l d Responder call answer reached h) Initiator = links common x l d reached Initiator
links common two ledger exchanges (takes x l d Initiator message left body answers shown reached comes h) Initiator =
    taken-links (base_at Initiator common) d.a.asked x.a message body answers d.a.shown shown h (once common x l d reached Initiator) (links common x l d reached Initiator)
links common two ledger exchanges (takes x l d Responder message left body answers shown reached comes h) Initiator = links common x l d reached Initiator
links common two ledger exchanges (acts x l d Initiator own reached h) Initiator = links common x l d reached Initiator
links common two ledger exchanges (passes x l d Initiator message left reached comes h) Initiator = links common x l d reached Initiator
links common two ledger exchanges (aborts_of_itself x l d Initiator message left fault body aborts shown reached comes h) Initiator = links common x l d reached Initiator
links common two ledger exchanges (acts x l d Responder own reached h) Initiator = links common x l d reached Initiator
links common two ledger exchanges (passes x l d Responder message left reached comes h) Initiator = links common x l d reached Initiator
links common two ledger exchanges (aborts_of_itself x l d Responder message left fault body aborts shown reached comes h) Initiator = links common x l d reached Initiator
links common two ledger exchanges (breaks x l d reached) Initiator = links common x l d reached Initiator
links common two ledger exchanges (asks x l d Responder call answer reached h) Responder = fit-on common.tables d.b.asked (asked_by call answer) (links_in d.b.shown) (links common x l d reached Responder)
links common two ledger exchanges (asks x l d Initiator call answer reached h) Responder = links common x l d reached Responder
links common two ledger exchanges (takes x l d Responder message left body answers shown reached comes h) Responder =
    taken-links (base_at Responder common) d.b.asked x.b message body answers d.b.shown shown h (once common x l d reached Responder) (links common x l d reached Responder)
links common two ledger exchanges (takes x l d Initiator message left body answers shown reached comes h) Responder = links common x l d reached Responder
links common two ledger exchanges (acts x l d Initiator own reached h) Responder = links common x l d reached Responder
links common two ledger exchanges (passes x l d Initiator message left reached comes h) Responder = links common x l d reached Responder
links common two ledger exchanges (aborts_of_itself x l d Initiator message left fault body aborts shown reached comes h) Responder = links common x l d reached Responder
links common two ledger exchanges (acts x l d Responder own reached h) Responder = links common x l d reached Responder
links common two ledger exchanges (passes x l d Responder message left reached comes h) Responder = links common x l d reached Responder
links common two ledger exchanges (aborts_of_itself x l d Responder message left fault body aborts shown reached comes h) Responder = links common x l d reached Responder
links common two ledger exchanges (breaks x l d reached) Responder = links common x l d reached Responder

pub links-are-allowed : LinksAreAllowed
links-are-allowed common two ledger exchanges reached role = links common two ledger exchanges reached role
