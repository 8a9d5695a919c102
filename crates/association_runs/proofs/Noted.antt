-- What an end is told of invocations and of outcomes is what the other end handed in, and what its own invocations allow.
use Rattle.std.proofs.Common.{◌≡◌, refl, true, false, ◌∙◌, sym, ap, subst, ℕ, List, [], ◌∷◌, ◌++◌, map, inl, inr}
use Rattle.std.specs.Prelude.{ℤ, Bool, not, ◌&&◌, Option, Some, None, is_some, if◌then◌else◌}
use Rattle.asn1_types.specs.declared.value.Val.{Val}
use Rattle.osi_base.specs.declared.layer_words.Answers.{Answers}
use Rattle.osi_base.specs.declared.layer_words.Problem.{Problem}
use Rattle.osi_base.specs.declared.layer_words.ProblemKind.TheVariants as problems
use Rattle.end_model.specs.end_rules.Members.{IsIn}
use Rattle.stub_tables.specs.declared.tables.Tables.{Tables}
use Rattle.stub_tables.specs.declared.operation.Code.{Code}
use Rattle.stub_tables.specs.declared.operation.Use.{Use}
use Rattle.stub_tables.specs.declared.operation.Operation.{Operation}
use Rattle.stub_tables.specs.declared.operation.ErrorRow.{ErrorRow}
use Rattle.stub_tables.specs.declared.apdu.Apdu.{Apdu}
use Rattle.stub_tables.specs.declared.apdu.Apdu.TheVariants as apdus
use Rattle.stub_tables.specs.declared.apdu.Returned.{Returned}
use Rattle.stub_tables.specs.Codes.{is_error_of}
use Rattle.stub_tables.specs.Lookup.{operation_at, error_at, operation_with, error_with}
use Rattle.stub_tables.specs.Uses.{is_carried}
use Rattle.dialogue.specs.declared.config.Mode.{Mode}
use Rattle.dialogue.specs.declared.config.Mode.TheVariants.{Bare, Direct, Reliable}
use Rattle.dialogue.specs.declared.indication.Indication.{Indication}
use Rattle.dialogue.specs.declared.indication.Indication.TheVariants as indications
use Rattle.end_model.specs.end_rules.Base.{Base, HeardHead, is_reliable}
use Rattle.end_model.specs.end_rules.Sets.{Alteration}
use Rattle.end_model.specs.end_rules.Messages.{ValueContent, Remote, DataValue, Message, Transport, Session, OfAssociation, OfData, OfMarks, OfActivities, TransportUnit, ConnectionRequest, ConnectionConfirm, DisconnectRequest, TransportError}
use Rattle.end_model.specs.end_rules.Messages.{AssociationWord, Connect, Accept, Refuse, Finish, Disconnect, Abort, AbortAccept, Values, AlterContext, AlterContextAck}
use Rattle.end_model.specs.end_rules.Messages.{MarkWord, Mark, MarkAck, Restart, RestartAck, Give, Please, GiveConfirm, GiveAck, ActivityWord, Start, Resume, End, EndAck, Interrupt, InterruptAck, Discard, DiscardAck}
use Rattle.end_model.specs.end_rules.State.{Body, OpenCall, Calls, is_empty, is_broken, opened_with, close, post_order}
use Rattle.end_model.specs.end_rules.Faults.{cut_of, cuts, losses}
use Rattle.end_model.specs.end_rules.Writing.{is_recovering}
use Rattle.end_model.specs.end_rules.Invoking.{carrier_in}
use Rattle.end_model.specs.end_rules.Hearing.{Rejecting, Heard, rejected, showing, unless_problem, first_problem, problem_if, is_right, invoke_problem, invoked, is_place, result_problem, hear_result_of, known_error_problem, error_problem, showing_error, hear_error_of, is_of_invocation, hear_reject, hear, carried_in, code_returned, value_returned, value_in, head_of_apdu, sent_on, queued, with_reject, take_head, head_of, take_values}
use Rattle.end_model.specs.end_rules.Connecting.{is_refused, recovers_in, shown_opening}
use Rattle.end_model.specs.end_rules.TakesAssociation.{aborted_by_peer, shown_of_association}
use Rattle.end_model.specs.end_rules.TakesTransport.{shown_of_transport}
use Rattle.end_model.specs.end_rules.TakesData.{with_parts, shown_settled}
use Rattle.end_model.specs.end_rules.TakesMarks.{mark_shown, priority_in, shown_plea, shown_of_mark}
use Rattle.end_model.specs.end_rules.TakesActivities.{invocation_in, shown_cut, received, handed_up, shown_of_activity}
use Rattle.outcome_laws.specs.Exchanges.{Asked}
use Rattle.outcome_laws.specs.Outcomes.{value_of}
use Rattle.outcome_laws.proofs.Open.{asked_in, Once, Found, found}
use Rattle.outcome_laws.proofs.Hearing.{no-first, rest-none, head-once}
use Rattle.outcome_laws.proofs.Transferred.{shown_of}
use Rattle.run_laws.specs.Outcomes.{Invocation, ToldOutcome, returned, failed, rejected as was_rejected, id_of, has_result, takes_parameter, has_error, has_outcome, IsAllowed}

-- ---- members

pub in-front : {X : Type 0} (xs ys : List X) (x : X) → IsIn x xs → IsIn x (xs ++ ys)
in-front [] ys x h = absurd h
in-front (y ∷ xs) ys x (inl e) = inl e
in-front (y ∷ xs) ys x (inr h) = inr (in-front xs ys x h)

pub in-behind : {X : Type 0} (xs ys : List X) (x : X) → IsIn x ys → IsIn x (xs ++ ys)
in-behind [] ys x h = h
in-behind (y ∷ xs) ys x h = inr (in-behind xs ys x h)

-- ---- what an end wrote: of an invocation that it made, of an outcome that it gave, or a reject of its own

pub record MadeAs (tables : Tables) (made : List Invocation) (id : ℤ) (linked : Option ℤ) (code : Code) (argument : Option Val) : Type 0 where
  pub place : ℕ
  pub is_its : operation_with tables code ≡ Some place
  pub is_made : IsIn (record { id = id; operation = place; argument = argument; linked = linked }) made

pub record FailedAs (tables : Tables) (given : List ToldOutcome) (id : ℤ) (code : Code) (parameter : Option Val) : Type 0 where
  pub place : ℕ
  pub is_its : error_with tables code ≡ Some place
  pub is_given : IsIn (failed id place parameter) given

abbrev pub IsOurs : Tables → List Invocation → List ToldOutcome → Apdu → Type 0
IsOurs tables made given (apdus.Invoke id linked code argument) = MadeAs tables made id linked code argument
IsOurs tables made given (apdus.Result id value) = IsIn (returned id (value_of value)) given
IsOurs tables made given (apdus.Error id code parameter) = FailedAs tables given id code parameter
IsOurs tables made given (apdus.Reject id problem) = Unit {0}

pub ours-on : (tables : Tables) (made more : List Invocation) (given later : List ToldOutcome) (apdu : Apdu) → IsOurs tables made given apdu → IsOurs tables (made ++ more) (given ++ later) apdu
ours-on tables made more given later (apdus.Invoke id linked code argument) h = record { place = h.place; is_its = h.is_its; is_made = in-front made more _ h.is_made }
ours-on tables made more given later (apdus.Result id value) h = in-front given later _ h
ours-on tables made more given later (apdus.Error id code parameter) h = record { place = h.place; is_its = h.is_its; is_given = in-front given later _ h.is_given }
ours-on tables made more given later (apdus.Reject id problem) h = tt

pub record HoldsOurs (tables : Tables) (made : List Invocation) (given : List ToldOutcome) (content : ValueContent) : Type 0 where
  pub apdu : Apdu
  pub is_it : content ≡ Remote apdu
  pub is_ours : IsOurs tables made given apdu

abbrev pub HoldOurs : Tables → List Invocation → List ToldOutcome → List DataValue → Type 0
HoldOurs tables made given [] = Unit {0}
HoldOurs tables made given (value ∷ values) = HoldsOurs tables made given value.content × HoldOurs tables made given values

pub hold-on : (tables : Tables) (made more : List Invocation) (given later : List ToldOutcome) (values : List DataValue) → HoldOurs tables made given values → HoldOurs tables (made ++ more) (given ++ later) values
hold-on tables made more given later [] h = tt
hold-on tables made more given later (value ∷ values) h =
    (record { apdu = h.0.apdu; is_it = h.0.is_it; is_ours = ours-on tables made more given later h.0.apdu h.0.is_ours }, hold-on tables made more given later values h.1)

-- ---- what was asked for is an invocation that was made, of an operation that is there

pub record IsMade (tables : Tables) (own : List Invocation) (x : Asked) : Type 0 where
  pub invocation : Invocation
  pub is_made : IsIn invocation own
  pub same_id : invocation.id ≡ x.id
  pub same_operation : invocation.operation ≡ x.operation
  pub row : Operation
  pub is_there : operation_at tables x.operation ≡ Some row

abbrev pub AreMade : Tables → List Invocation → List Asked → Type 0
AreMade tables own [] = Unit {0}
AreMade tables own (x ∷ xs) = IsMade tables own x × AreMade tables own xs

pub made-on : (tables : Tables) (own more : List Invocation) (xs : List Asked) → AreMade tables own xs → AreMade tables (own ++ more) xs
made-on tables own more [] h = tt
made-on tables own more (x ∷ xs) h =
    (record { invocation = h.0.invocation; is_made = in-front own more h.0.invocation h.0.is_made; same_id = h.0.same_id; same_operation = h.0.same_operation; row = h.0.row; is_there = h.0.is_there }, made-on tables own more xs h.1)

pub made-of : (tables : Tables) (own : List Invocation) (xs : List Asked) (x : Asked) → AreMade tables own xs → IsIn x xs → IsMade tables own x
made-of tables own [] x h k = absurd k
made-of tables own (y ∷ ys) x h (inl e) = subst (IsMade tables own) e h.0
made-of tables own (y ∷ ys) x h (inr k) = made-of tables own ys x h.1 k

-- ---- what is noted

abbrev pub IsNoted : Tables → List Invocation → List Invocation → List ToldOutcome → Indication → Type 0
IsNoted tables own made given (indications.Invoked id place linked argument) = IsIn (record { id = id; operation = place; argument = argument; linked = linked }) made
IsNoted tables own made given (indications.Result id value) = IsIn (returned id value) given × IsAllowed tables own (returned id value)
IsNoted tables own made given (indications.Error id place parameter) = IsIn (failed id place parameter) given × IsAllowed tables own (failed id place parameter)
IsNoted tables own made given (indications.Rejected id problem) = IsAllowed tables own (was_rejected id problem)
IsNoted tables own made given indication = Unit {0}

abbrev pub AreNoted : Tables → List Invocation → List Invocation → List ToldOutcome → List Indication → Type 0
AreNoted tables own made given [] = Unit {0}
AreNoted tables own made given (i ∷ shown) = IsNoted tables own made given i × AreNoted tables own made given shown

allowed-on : (tables : Tables) (own more : List Invocation) (outcome : ToldOutcome) → IsAllowed tables own outcome → IsAllowed tables (own ++ more) outcome
allowed-on tables own more outcome h = record { invocation = h.invocation; operation = h.operation; is_made = in-front own more h.invocation h.is_made; is_its = h.is_its; is_there = h.is_there; has_it = h.has_it }

noted-on : (tables : Tables) (own others made more : List Invocation) (given later : List ToldOutcome) (i : Indication) → IsNoted tables own made given i → IsNoted tables (own ++ others) (made ++ more) (given ++ later) i
noted-on tables own others made more given later (indications.Invoked id place linked argument) h = in-front made more _ h
noted-on tables own others made more given later (indications.Result id value) h = (in-front given later _ h.0, allowed-on tables own others (returned id value) h.1)
noted-on tables own others made more given later (indications.Error id place parameter) h = (in-front given later _ h.0, allowed-on tables own others (failed id place parameter) h.1)
noted-on tables own others made more given later (indications.Rejected id problem) h = allowed-on tables own others (was_rejected id problem) h
noted-on tables own others made more given later _ h = tt

pub all-noted_on : (tables : Tables) (own others made more : List Invocation) (given later : List ToldOutcome) (shown : List Indication) → AreNoted tables own made given shown → AreNoted tables (own ++ others) (made ++ more) (given ++ later) shown
all-noted_on tables own others made more given later [] h = tt
all-noted_on tables own others made more given later (i ∷ shown) h = (noted-on tables own others made more given later i h.0, all-noted_on tables own others made more given later shown h.1)

pub noted-append : (tables : Tables) (own made : List Invocation) (given : List ToldOutcome) (xs ys : List Indication) → AreNoted tables own made given xs → AreNoted tables own made given ys → AreNoted tables own made given (xs ++ ys)
noted-append tables own made given [] ys h k = k
noted-append tables own made given (x ∷ xs) ys h k = (h.0, noted-append tables own made given xs ys h.1 k)

-- ---- what is no note

abbrev pub IsPlain : Indication → Type 0
IsPlain (indications.Invoked id place linked argument) = ⊥
IsPlain (indications.Result id value) = ⊥
IsPlain (indications.Error id place parameter) = ⊥
IsPlain (indications.Rejected id problem) = ⊥
IsPlain indication = Unit {0}

abbrev pub ArePlain : List Indication → Type 0
ArePlain [] = Unit {0}
ArePlain (i ∷ shown) = IsPlain i × ArePlain shown

plain-append : (xs ys : List Indication) → ArePlain xs → ArePlain ys → ArePlain (xs ++ ys)
plain-append [] ys h k = k
plain-append (x ∷ xs) ys h k = (h.0, plain-append xs ys h.1 k)

plain-one : (tables : Tables) (own made : List Invocation) (given : List ToldOutcome) (i : Indication) → IsPlain i → IsNoted tables own made given i
plain-one tables own made given (indications.Invoked id place linked argument) h = absurd h
plain-one tables own made given (indications.Result id value) h = absurd h
plain-one tables own made given (indications.Error id place parameter) h = absurd h
plain-one tables own made given (indications.Rejected id problem) h = absurd h
plain-one tables own made given _ h = tt

plain-noted : (tables : Tables) (own made : List Invocation) (given : List ToldOutcome) (shown : List Indication) → ArePlain shown → AreNoted tables own made given shown
plain-noted tables own made given [] h = tt
plain-noted tables own made given (i ∷ shown) h = (plain-one tables own made given i h.0, plain-noted tables own made given shown h.1)

plain-cuts : (os : List OpenCall) → ArePlain (map cut_of os)
plain-cuts [] = tt
plain-cuts (o ∷ os) = (tt, plain-cuts os)

plain-losses : (own : List Alteration) → ArePlain (map (λ (a : Alteration). indications.AlterLost) own)
plain-losses [] = tt
plain-losses (a ∷ own) = (tt, plain-losses own)

cut-more : (body : Body) (shown : List Indication) → ArePlain shown → ArePlain (cuts body ++ shown)
cut-more body shown h = plain-append (cuts body) shown (plain-cuts (post_order body.calls.opens)) h

lost-more : (body : Body) (shown : List Indication) → ArePlain shown → ArePlain (losses body ++ shown)
lost-more body shown h = plain-append (losses body) shown (plain-losses body.sets.own) h

opening-plain : (body : Body) (recovers : Bool) → ArePlain (shown_opening body recovers)
opening-plain body true = lost-more body (indications.Recovered ∷ []) (tt, tt)
opening-plain body false = go (is_broken body.link.phase)
  where
    go : (b : Bool) → ArePlain (if b then cuts body ++ indications.GivenUp ∷ indications.Opened ∷ [] else indications.Opened ∷ [])
    go true = cut-more body (indications.GivenUp ∷ indications.Opened ∷ []) (tt, (tt, tt))
    go false = (tt, tt)

pub association-plain : (base : Base) (body : Body) (word : AssociationWord) → ArePlain (shown_of_association base body word)
association-plain base body (Connect session presentation values) = go (is_refused base body session presentation values)
  where
    go : (b : Bool) → ArePlain (if b then [] else shown_opening body (recovers_in base values))
    go true = tt
    go false = opening-plain body (recovers_in base values)
association-plain base body (Accept session presentation values) = go (is_recovering body.link.phase)
  where
    go : (b : Bool) → ArePlain (if b then losses body ++ indications.Recovered ∷ [] else indications.Opened ∷ [])
    go true = lost-more body (indications.Recovered ∷ []) (tt, tt)
    go false = (tt, tt)
association-plain base body (Refuse transport reason presentation values) = (tt, tt)
association-plain base body (Finish transport values) = cut-more body (indications.Released ∷ []) (tt, tt)
association-plain base body (Disconnect values) = cut-more body (indications.Released ∷ []) (tt, tt)
association-plain base body (Abort transport user) = cut-more body (aborted_by_peer ∷ []) (tt, tt)
association-plain base body AbortAccept = cut-more body (aborted_by_peer ∷ []) (tt, tt)

pub settled-plain : (own : List Alteration) (answers : Answers) → ArePlain (shown_settled own answers)
settled-plain [] answers = tt
settled-plain (a ∷ own) answers = (tt, tt)

pub marks-plain : (base : Base) (body : Body) (word : MarkWord) → ArePlain (shown_of_mark base body word)
marks-plain base body (Mark number) = go base.mode
  where
    go : (mode : Mode) → ArePlain (mark_shown mode number)
    go Reliable = tt
    go Direct = (tt, tt)
    go Bare = tt
marks-plain base body (MarkAck number) = tt
marks-plain base body (Restart number list) = plain-append (losses body ++ cuts body) (indications.Restarted number ∷ []) (lost-more body (cuts body) (plain-cuts (post_order body.calls.opens))) (tt, tt)
marks-plain base body (RestartAck number list) = plain-append (losses body ++ cuts body) (indications.Restarted number ∷ []) (lost-more body (cuts body) (plain-cuts (post_order body.calls.opens))) (tt, tt)
marks-plain base body (Give None) = tt
marks-plain base body (Give (Some tokens)) = (tt, tt)
marks-plain base body (Please None values) = tt
marks-plain base body (Please (Some tokens) values) = go (priority_in values)
  where
    go : (priority : Option ℕ) → ArePlain (shown_plea priority)
    go None = tt
    go (Some priority) = (tt, tt)
marks-plain base body GiveConfirm = (tt, tt)
marks-plain base body GiveAck = tt

pub transport-plain : (unit : TransportUnit) → ArePlain (shown_of_transport unit)
transport-plain (ConnectionRequest source size calling called) = tt
transport-plain (ConnectionConfirm destination size) = tt
transport-plain (DisconnectRequest destination) = (tt, tt)
transport-plain TransportError = tt

cut-plain : (id : Option ℤ) (calls : Calls) → ArePlain (shown_cut id calls)
cut-plain None calls = tt
cut-plain (Some id) calls = go (is_some (opened_with true id calls.opens))
  where
    go : (b : Bool) → ArePlain (if b then indications.Cut true id ∷ [] else [])
    go true = (tt, tt)
    go false = tt

-- ---- what is heard

pub reject-plain : (base : Base) (body : Body) (context : ℕ) (r : Option Rejecting) → ArePlain (with_reject base body context r).shown
reject-plain base body context None = tt
reject-plain base body context (Some r) = go (is_reliable base.mode) (carrier_in base body context)
  where
    go : (b : Bool) (c : Option ℕ) → ArePlain (if b then queued body context r else sent_on body r c).shown
    go true c = (tt, tt)
    go false None = tt
    go false (Some id) = (tt, tt)

last-none : (b : Bool) (n : ℕ) → problem_if (not b) n ≡ None → b ≡ true
last-none true n h = refl
last-none false n h = cc

two-true : (a b : Bool) → a ≡ true → b ≡ true → (a && b) ≡ true
two-true true b h k = k
two-true false b h k = cc

and-second : (a b : Bool) → (a && b) ≡ true → b ≡ true
and-second true b h = h
and-second false b h = cc

-- a result without a problem is one that the operation has
result-fits : (base : Base) (place : ℕ) (row : Operation) (value : Option Returned) → result_problem base place (Some row) (code_returned value) (value_returned value) ≡ None → has_result base.tables row (value_of value) ≡ true
result-fits base place row None h =
    two-true row.returns (is_carried base.tables.types row.result None) (no-first row.returns 1 (problem_if (not (is_carried base.tables.types row.result None)) 2) h)
    (last-none (is_carried base.tables.types row.result None) 2 (rest-none (not row.returns) 1 (problem_if (not (is_carried base.tables.types row.result None)) 2) h))
result-fits base place row (Some r) h =
    let fits : Bool = is_carried base.tables.types row.result (Some r.value) in
    let both : (is_place (operation_with base.tables r.code) place && is_carried base.tables.types row.result (Some r.value)) ≡ true =
    last-none (is_place (operation_with base.tables r.code) place && is_carried base.tables.types row.result (Some r.value)) 2
    (rest-none (not row.returns) 1 (problem_if (not (is_place (operation_with base.tables r.code) place && is_carried base.tables.types row.result (Some r.value))) 2) h) in
    two-true row.returns (is_carried base.tables.types row.result (Some r.value)) (no-first row.returns 1 (problem_if (not (is_place (operation_with base.tables r.code) place && is_carried base.tables.types row.result (Some r.value))) 2) h)
    (and-second (is_place (operation_with base.tables r.code) place) (is_carried base.tables.types row.result (Some r.value)) both)

right-is : (base : Base) (use_ : Use) (value : Option Val) → is_right base use_ (carried_in value) ≡ true → is_carried base.tables.types use_ value ≡ true
right-is base use_ None h = h
right-is base use_ (Some value) h = h

some-none : (n : ℕ) → Some n ≡ None → ⊥
some-none n h = cc

-- and so is an error
error-fits : (base : Base) (row : Operation) (place : ℕ) (parameter : Option Val) (e : Option ErrorRow) → error_at base.tables place ≡ e → known_error_problem base row (Some place) (carried_in parameter) ≡ None → has_error base.tables row place parameter ≡ true
error-fits base row place parameter None e h =
    let k : first_problem (problem_if (not (is_error_of row place)) 3) (Some 4) ≡ None = rw e at h in
    absurd (some-none 4 (rest-none (not (is_error_of row place)) 3 (Some 4) k))
error-fits base row place parameter (Some error) e h =
    let k : first_problem (problem_if (not (is_error_of row place)) 3) (problem_if (not (is_right base error.parameter (carried_in parameter))) 4) ≡ None = rw e at h in
    two-true (is_error_of row place) (takes_parameter base.tables (error_at base.tables place) parameter)
    (no-first (is_error_of row place) 3 (problem_if (not (is_right base error.parameter (carried_in parameter))) 4) k)
    (ap (λ (x : Option ErrorRow). takes_parameter base.tables x parameter) e
    ∙ right-is base error.parameter parameter (last-none (is_right base error.parameter (carried_in parameter)) 4 (rest-none (not (is_error_of row place)) 3 (problem_if (not (is_right base error.parameter (carried_in parameter))) 4) k)))

value-is : (value : Option Returned) → value_in (value_returned value) ≡ value_of value
value-is None = refl
value-is (Some r) = refl

carried-is : (value : Option Val) → value_in (carried_in value) ≡ value
carried-is None = refl
carried-is (Some value) = refl

-- only the end of an activity tells of what was transferred
abbrev pub IsNoEnd : ActivityWord → Type 0
IsNoEnd (End number) = ⊥
IsNoEnd word = Unit {0}

pub activity-plain : (base : Base) (body : Body) (word : ActivityWord) → IsNoEnd word → ArePlain (shown_of_activity base body word)
activity-plain base body (Start activity) n = tt
activity-plain base body (Resume activity mark) n = (tt, tt)
activity-plain base body (End number) n = absurd n
activity-plain base body (EndAck number) n = (tt, tt)
activity-plain base body (Interrupt reason) n = (tt, tt)
activity-plain base body InterruptAck n = lost-more body (indications.Interrupted body.sending.started ∷ []) (tt, tt)
activity-plain base body (Discard reason) n = (tt, tt)
activity-plain base body DiscardAck n =
    plain-append (losses body ++ shown_cut (invocation_in body.sending.current) body.calls) (indications.Discarded body.sending.started ∷ [])
    (lost-more body (shown_cut (invocation_in body.sending.current) body.calls) (cut-plain (invocation_in body.sending.current) body.calls)) (tt, tt)

-- the values that are heard when a message is taken
abbrev pub heard_values : Base → Body → Message → List DataValue
heard_values base body (Session (OfData (Values values))) = if is_reliable base.mode then [] else values
heard_values base body (Session (OfActivities (End number))) = handed_up base body
heard_values base body message = []

module _ (base : Base) (own made : List Invocation) (given : List ToldOutcome) where
  abbrev Notes : Heard → Type 0
  Notes heard = AreNoted base.tables own made given heard.shown

  unless : (p : Option ℕ) (refused : ℕ → Heard) (heard : Heard) → ((n : ℕ) → Notes (refused n)) → (p ≡ None → Notes heard) → Notes (unless_problem p refused heard)
  unless None refused heard f h = h refl
  unless (Some n) refused heard f h = f n

  -- an outcome of an open invocation
  allowed-so : (asked : List Asked) (calls : Calls) (id : ℤ) (o : OpenCall) (outcome : ToldOutcome) → AreMade base.tables own asked → Found asked calls.made id o → id_of outcome ≡ id → ((row : Operation) → operation_at base.tables o.operation ≡ Some row → has_outcome base.tables row outcome ≡ true) → IsAllowed base.tables own outcome
  allowed-so asked calls id o outcome m f e h =
      let x = made-of base.tables own asked (asked_in o) m f.asked_it in
      record {
        invocation = x.invocation;
        operation = x.row;
        is_made = x.is_made;
        is_its = e ∙ sym (x.same_id ∙ f.is_its);
        is_there = ap (operation_at base.tables) x.same_operation ∙ x.is_there;
        has_it = h x.row x.is_there;
      }

  invoke-noted : (calls : Calls) (context : ℕ) (id : ℤ) (linked : Option ℤ) (code : Code) (argument : Option Val) (place : Option ℕ) → operation_with base.tables code ≡ place → MadeAs base.tables made id linked code argument → Notes (invoked base calls context id linked place (carried_in argument))
  invoke-noted calls context id linked code argument None e h = tt
  invoke-noted calls context id linked code argument (Some place) e h =
      let one : Some place ≡ Some h.place = sym e ∙ h.is_its in
      let same : place ≡ h.place = cc in (
        subst (λ (p : ℕ). IsIn (record { id = id; operation = p; argument = value_in (carried_in argument); linked = linked }) made) (sym same)
            (subst (λ (v : Option Val). IsIn (record { id = id; operation = h.place; argument = v; linked = linked }) made) (sym (carried-is argument)) h.is_made),
        tt,
      )

  module _ (asked : List Asked) (m : AreMade base.tables own asked) (calls : Calls) (before : List Indication) (once : Once base.tables asked calls before) where
    result-noted : (id : ℤ) (o : Option OpenCall) (value : Option Returned) → opened_with true id calls.opens ≡ o → IsIn (returned id (value_of value)) given → Notes (hear_result_of base calls id o (code_returned value) (value_returned value))
    result-noted id None value e h = tt
    result-noted id (Some o) value e h =
        unless (result_problem base o.operation (operation_at base.tables o.operation) (code_returned value) (value_returned value))
        (rejected (close true id calls) (Some id) problems.Result)
        (showing (close true id calls) (indications.Result id (value_in (value_returned value))))
        (λ n. tt) (λ p. (
          subst (λ (v : Option Val). IsIn (returned id v) given × IsAllowed base.tables own (returned id v)) (sym (value-is value)) (
            h,
            allowed-so asked calls id o (returned id (value_of value)) m (found asked calls.made id calls.opens o once.own e) refl
                (λ row there. result-fits base o.operation row value (subst (λ (x : Option Operation). result_problem base o.operation x (code_returned value) (value_returned value) ≡ None) there p)),
          ),
          tt,
        ))

    error-noted : (id : ℤ) (o : Option OpenCall) (code : Code) (parameter : Option Val) → opened_with true id calls.opens ≡ o → FailedAs base.tables given id code parameter → Notes (hear_error_of base calls id o (error_with base.tables code) (carried_in parameter))
    error-noted id None code parameter e h = tt
    error-noted id (Some o) code parameter e h =
        unless (error_problem base (operation_at base.tables o.operation) (error_with base.tables code) (carried_in parameter))
        (rejected (close true id calls) (Some id) problems.Error)
        (showing_error (close true id calls) id (error_with base.tables code) (carried_in parameter))
        (λ n. tt) (λ p. go (error_with base.tables code) refl p)
      where
        go : (x : Option ℕ) → error_with base.tables code ≡ x → error_problem base (operation_at base.tables o.operation) x (carried_in parameter) ≡ None → Notes (showing_error (close true id calls) id x (carried_in parameter))
        go None f p = tt
        go (Some place) f p =
            let one : Some place ≡ Some h.place = sym f ∙ h.is_its in
            let same : place ≡ h.place = cc in (
              subst (λ (v : Option Val). IsIn (failed id place v) given × IsAllowed base.tables own (failed id place v)) (sym (carried-is parameter)) (
                subst (λ (q : ℕ). IsIn (failed id q parameter) given) (sym same) h.is_given,
                allowed-so asked calls id o (failed id place parameter) m (found asked calls.made id calls.opens o once.own e) refl
                    (λ row there. error-fits base row place parameter (error_at base.tables place) refl
                    (rest-none (is_empty row.errors) 1 (known_error_problem base row (Some place) (carried_in parameter)) (subst (λ (x : Option Operation). error_problem base x (Some place) (carried_in parameter) ≡ None) there p))),
              ),
              tt,
            )

    reject-noted : (id : Option ℤ) (problem : Problem) → Notes (hear_reject calls id problem)
    reject-noted None problem = (tt, tt)
    reject-noted (Some id) problem = go (is_of_invocation problem.kind) (opened_with true id calls.opens) refl refl
      where
        go : (k : Bool) (o : Option OpenCall) → is_of_invocation problem.kind ≡ k → opened_with true id calls.opens ≡ o → Notes (if k && is_some o then showing (close true id calls) (indications.Rejected id problem) else showing calls (indications.RejectTaken (Some id) problem))
        go true (Some o) k e = (allowed-so asked calls id o (was_rejected id problem) m (found asked calls.made id calls.opens o once.own e) refl (λ row there. k), tt)
        go true None k e = (tt, tt)
        go false o k e = (tt, tt)

    apdu-noted : (context : ℕ) (apdu : Apdu) → IsOurs base.tables made given apdu → Notes (hear base calls context (head_of_apdu apdu))
    apdu-noted context (apdus.Invoke id linked code argument) h =
        unless (invoke_problem base calls id linked (operation_with base.tables code) (carried_in argument))
        (rejected calls (Some id) problems.Invoke)
        (invoked base calls context id linked (operation_with base.tables code) (carried_in argument))
        (λ n. tt) (λ p. invoke-noted calls context id linked code argument (operation_with base.tables code) refl h)
    apdu-noted context (apdus.Result id value) h = result-noted id (opened_with true id calls.opens) value refl h
    apdu-noted context (apdus.Error id code parameter) h = error-noted id (opened_with true id calls.opens) code parameter refl h
    apdu-noted context (apdus.Reject id problem) h = reject-noted id problem

  value-noted : (asked : List Asked) (body : Body) (value : DataValue) (before : List Indication) → AreMade base.tables own asked → Once base.tables asked body.calls before → HoldsOurs base.tables made given value.content → AreNoted base.tables own made given (take_head base body value.id (head_of base value)).shown
  value-noted asked body value before m once h =
      let says_so : head_of base value ≡ head_of_apdu h.apdu = ap (λ (c : ValueContent). head_of base (record { id = value.id; pair = value.pair; content = c })) h.is_it in
      subst (λ (head : HeardHead). AreNoted base.tables own made given (take_head base body value.id head).shown) (sym says_so)
      (let heard = hear base body.calls value.id (head_of_apdu h.apdu) in
      let with_it = with_reject base (record body { calls = heard.calls }) value.id heard.reject in
      noted-append base.tables own made given heard.shown with_it.shown (apdu-noted asked m body.calls before once value.id h.apdu h.is_ours)
      (plain-noted base.tables own made given with_it.shown (reject-plain base (record body { calls = heard.calls }) value.id heard.reject)))

  values-noted : (asked : List Asked) (body : Body) (values : List DataValue) (before : List Indication) → AreMade base.tables own asked → Once base.tables asked body.calls before → HoldOurs base.tables made given values → AreNoted base.tables own made given (take_values base body values).shown
  values-noted asked body [] before m once h = tt
  values-noted asked body (value ∷ values) before m once h =
      let first = take_head base body value.id (head_of base value) in
      noted-append base.tables own made given first.shown (take_values base first.body values).shown (value-noted asked body value before m once h.0)
      (values-noted asked first.body values (before ++ first.shown) m (head-once base body value asked before once) h.1)

  pub message-noted : (asked : List Asked) (body : Body) (message : Message) (before : List Indication) → AreMade base.tables own asked → Once base.tables asked body.calls before → HoldOurs base.tables made given (heard_values base body message) → AreNoted base.tables own made given (shown_of base body message)
  message-noted asked body (Transport unit) before m once h = plain-noted base.tables own made given _ (transport-plain unit)
  message-noted asked body (Session (OfAssociation word)) before m once h = plain-noted base.tables own made given _ (association-plain base body word)
  message-noted asked body (Session (OfData (Values values))) before m once h = go (is_reliable base.mode) h
    where
      go : (b : Bool) → HoldOurs base.tables made given (if b then [] else values) → AreNoted base.tables own made given (if b then record { body = with_parts values body; answers = []; shown = [] } else take_values base body values).shown
      go true h = tt
      go false h = values-noted asked body values before m once h
  message-noted asked body (Session (OfData (AlterContext add delete))) before m once h = (tt, tt)
  message-noted asked body (Session (OfData (AlterContextAck answers))) before m once h = plain-noted base.tables own made given _ (settled-plain body.sets.own answers)
  message-noted asked body (Session (OfMarks word)) before m once h = plain-noted base.tables own made given _ (marks-plain base body word)
  message-noted asked body (Session (OfActivities (End number))) before m once h = values-noted asked (received (λ r. record r { was_handed = true; active = false }) body) (handed_up base body) before m once h
  message-noted asked body (Session (OfActivities word)) before m once h = plain-noted base.tables own made given (shown_of_activity base body word) (activity-plain base body word tt)
