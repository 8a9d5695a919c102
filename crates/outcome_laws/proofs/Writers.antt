-- What one end wrote and sent at once, and what the other is told of it.
use Rattle.std.proofs.Common.{◌≡◌, refl, true, false, inl, inr, ◌∙◌, sym, ap, subst, ℕ, List, [], ◌∷◌, ◌++◌}
use Rattle.std.proofs.lemmas.List.{append_assoc}
use Rattle.std.specs.Prelude.{ℤ, Bool, ◌&&◌, Option, Some, None, is_some, if◌then◌else◌, ◌⊎◌}
use Rattle.asn1_types.specs.declared.value.Val.{Val}
use Rattle.osi_base.specs.declared.layer_words.Problem.{Problem}
use Rattle.osi_base.specs.declared.layer_words.ProblemKind.TheVariants as problems
use Rattle.end_model.specs.end_rules.Members.{IsIn}
use Rattle.stub_tables.specs.declared.tables.Tables.{Tables}
use Rattle.stub_tables.specs.declared.operation.Code.{Code}
use Rattle.stub_tables.specs.declared.apdu.Apdu.{Apdu}
use Rattle.stub_tables.specs.declared.apdu.Apdu.TheVariants as apdus
use Rattle.stub_tables.specs.declared.apdu.Returned.{Returned}
use Rattle.stub_tables.specs.Lookup.{operation_at, operation_with, error_with}
use Rattle.dialogue.specs.declared.indication.Indication.{Indication}
use Rattle.dialogue.specs.declared.indication.Indication.TheVariants as indications
use Rattle.end_model.specs.end_rules.Base.{Base, Carried, HeardHead, is_reliable}
use Rattle.end_model.specs.end_rules.Messages.{ValueContent, Remote, DataValue, Message, Transport, Session, OfAssociation, OfData, OfMarks, OfActivities, Values, AlterContext, AlterContextAck}
use Rattle.end_model.specs.end_rules.State.{Body, OpenCall, Calls, opened_with, close}
use Rattle.end_model.specs.end_rules.Invoking.{carrier_in}
use Rattle.end_model.specs.end_rules.Hearing.{Rejecting, Heard, rejected, showing, unless_problem, invoke_problem, invoked, result_problem, hear_result_of, error_problem, showing_error, hear_error_of, is_of_invocation, hear_reject, hear, carried_in, code_returned, value_returned, value_in, head_of_apdu, sent_on, queued, with_reject, take_head, head_of, take_values}
use Rattle.outcome_laws.specs.Exchanges.{reject_in, rejects_in}
use Rattle.outcome_laws.specs.Outcomes.{value_of, Answered, AreAnswers}
use Rattle.outcome_laws.proofs.Shown.{in-later, each-on, each-append, each-quiet, notes_in, unnoted}
use Rattle.outcome_laws.proofs.Hearing.{with-reject}

-- ---- members

pub in-first : (xs ys : List Apdu) (x : Apdu) → IsIn x xs → IsIn x (xs ++ ys)
in-first [] ys x h = absurd h
in-first (y ∷ xs) ys x (inl e) = inl e
in-first (y ∷ xs) ys x (inr h) = inr (in-first xs ys x h)

pub in-either : (xs ys : List Apdu) (x : Apdu) → IsIn x (xs ++ ys) → IsIn x xs ⊎ IsIn x ys
in-either [] ys x h = inr h
in-either (y ∷ xs) ys x (inl e) = inl (inl e)
in-either (y ∷ xs) ys x (inr h) = go (in-either xs ys x h)
  where
    go : IsIn x xs ⊎ IsIn x ys → IsIn x (y ∷ xs) ⊎ IsIn x ys
    go (inl k) = inl (inr k)
    go (inr k) = inr k

abbrev pub Within : List Apdu → List Apdu → Type 0
Within xs ys = (x : Apdu) → IsIn x xs → IsIn x ys

pub within-more : (more xs : List Apdu) → Within xs (more ++ xs)
within-more more xs x h = in-later more xs x h

-- before and behind what stands in the middle
around : (xs middle ys : List Apdu) → Within (xs ++ ys) ((xs ++ middle) ++ ys)
around xs middle ys x h = go (in-either xs ys x h)
  where
    go : IsIn x xs ⊎ IsIn x ys → IsIn x ((xs ++ middle) ++ ys)
    go (inl k) = in-first (xs ++ middle) ys x (in-first xs middle x k)
    go (inr k) = in-later (xs ++ middle) ys x k

-- ---- messages that carry what was written

pub record Written (wrote : List Apdu) (content : ValueContent) : Type 0 where
  pub apdu : Apdu
  pub is_it : content ≡ Remote apdu
  pub within : IsIn apdu wrote

abbrev pub AreWritten : List Apdu → List DataValue → Type 0
AreWritten wrote [] = Unit {0}
AreWritten wrote (value ∷ values) = Written wrote value.content × AreWritten wrote values

-- no activity is there outside reliable mode
abbrev pub Carries : List Apdu → Message → Type 0
Carries wrote (Transport unit) = Unit {0}
Carries wrote (Session (OfAssociation word)) = Unit {0}
Carries wrote (Session (OfData (Values values))) = AreWritten wrote values
Carries wrote (Session (OfData (AlterContext add delete))) = Unit {0}
Carries wrote (Session (OfData (AlterContextAck answers))) = Unit {0}
Carries wrote (Session (OfMarks word)) = Unit {0}
Carries wrote (Session (OfActivities word)) = ⊥

abbrev pub AllCarry : List Apdu → List Message → Type 0
AllCarry wrote [] = Unit {0}
AllCarry wrote (message ∷ messages) = Carries wrote message × AllCarry wrote messages

written-on : (xs ys : List Apdu) (values : List DataValue) → Within xs ys → AreWritten xs values → AreWritten ys values
written-on xs ys [] w h = tt
written-on xs ys (value ∷ values) w h =
    (record { apdu = h.0.apdu; is_it = h.0.is_it; within = w h.0.apdu h.0.within }, written-on xs ys values w h.1)

carries-on : (xs ys : List Apdu) (message : Message) → Within xs ys → Carries xs message → Carries ys message
carries-on xs ys (Transport unit) w h = tt
carries-on xs ys (Session (OfAssociation word)) w h = tt
carries-on xs ys (Session (OfData (Values values))) w h = written-on xs ys values w h
carries-on xs ys (Session (OfData (AlterContext add delete))) w h = tt
carries-on xs ys (Session (OfData (AlterContextAck answers))) w h = tt
carries-on xs ys (Session (OfMarks word)) w h = tt
carries-on xs ys (Session (OfActivities word)) w h = absurd h

pub all-on : (xs ys : List Apdu) (messages : List Message) → Within xs ys → AllCarry xs messages → AllCarry ys messages
all-on xs ys [] w h = tt
all-on xs ys (message ∷ messages) w h = (carries-on xs ys message w h.0, all-on xs ys messages w h.1)

pub all-append : (wrote : List Apdu) (first second : List Message) → AllCarry wrote first → AllCarry wrote second → AllCarry wrote (first ++ second)
all-append wrote [] second h k = k
all-append wrote (message ∷ first) second h k = (h.0, all-append wrote first second h.1 k)

-- ---- outcomes that are answers

pub answers-on : (tables : Tables) (xs ys : List Apdu) (shown : List Indication) → Within xs ys → AreAnswers tables xs shown → AreAnswers tables ys shown
answers-on tables xs ys shown w h =
    each-on (Answered tables xs) (Answered tables ys) shown (λ i a. record { apdu = a.apdu; written = w a.apdu a.written; tells = a.tells }) h

pub answers-append : (tables : Tables) (wrote : List Apdu) (first second : List Indication) → AreAnswers tables wrote first → AreAnswers tables wrote second → AreAnswers tables wrote (first ++ second)
answers-append tables wrote first second h k = each-append (Answered tables wrote) first second h k

pub quiet : (tables : Tables) (wrote : List Apdu) (shown : List Indication) → notes_in shown ≡ [] → AreAnswers tables wrote shown
quiet tables wrote shown e = each-quiet (Answered tables wrote) shown (unnoted shown e)

-- ---- what is heard

abbrev HearsAnswers : Tables → List Apdu → Heard → Type 0
HearsAnswers tables wrote heard = AreAnswers tables wrote heard.shown

unless : (tables : Tables) (wrote : List Apdu) (o : Option ℕ) (refused : ℕ → Heard) (heard : Heard) → ((n : ℕ) → HearsAnswers tables wrote (refused n)) → HearsAnswers tables wrote heard → HearsAnswers tables wrote (unless_problem o refused heard)
unless tables wrote None refused heard f h = h
unless tables wrote (Some n) refused heard f h = f n

says-invoked : (base : Base) (calls : Calls) (context : ℕ) (id : ℤ) (linked : Option ℤ) (place : Option ℕ) (argument : Carried) (wrote : List Apdu) → HearsAnswers base.tables wrote (invoked base calls context id linked place argument)
says-invoked base calls context id linked None argument wrote = tt
says-invoked base calls context id linked (Some place) argument wrote = (tt, tt)

value-is : (returned : Option Returned) → value_in (value_returned returned) ≡ value_of returned
value-is None = refl
value-is (Some returned) = refl

says-result : (base : Base) (calls : Calls) (id : ℤ) (o : Option OpenCall) (returned : Option Returned) (wrote : List Apdu) → IsIn (apdus.Result id returned) wrote → HearsAnswers base.tables wrote (hear_result_of base calls id o (code_returned returned) (value_returned returned))
says-result base calls id None returned wrote h = tt
says-result base calls id (Some o) returned wrote h =
    unless base.tables wrote (result_problem base o.operation (operation_at base.tables o.operation) (code_returned returned) (value_returned returned))
    (rejected (close true id calls) (Some id) problems.Result)
    (showing (close true id calls) (indications.Result id (value_in (value_returned returned))))
    (λ n. tt) (record { apdu = apdus.Result id returned; written = h; tells = (refl, value-is returned) }, tt)

carried-is : (parameter : Option Val) → value_in (carried_in parameter) ≡ parameter
carried-is None = refl
carried-is (Some value) = refl

says-error-told : (tables : Tables) (calls : Calls) (id : ℤ) (code : Code) (parameter : Option Val) (place : Option ℕ) (wrote : List Apdu) → error_with tables code ≡ place → IsIn (apdus.Error id code parameter) wrote → HearsAnswers tables wrote (showing_error calls id place (carried_in parameter))
says-error-told tables calls id code parameter None wrote e h = tt
says-error-told tables calls id code parameter (Some place) wrote e h =
    (record { apdu = apdus.Error id code parameter; written = h; tells = (refl, e, carried-is parameter) }, tt)

says-error : (base : Base) (calls : Calls) (id : ℤ) (o : Option OpenCall) (code : Code) (parameter : Option Val) (wrote : List Apdu) → IsIn (apdus.Error id code parameter) wrote → HearsAnswers base.tables wrote (hear_error_of base calls id o (error_with base.tables code) (carried_in parameter))
says-error base calls id None code parameter wrote h = tt
says-error base calls id (Some o) code parameter wrote h =
    unless base.tables wrote (error_problem base (operation_at base.tables o.operation) (error_with base.tables code) (carried_in parameter))
    (rejected (close true id calls) (Some id) problems.Error)
    (showing_error (close true id calls) id (error_with base.tables code) (carried_in parameter))
    (λ n. tt) (says-error-told base.tables (close true id calls) id code parameter (error_with base.tables code) wrote refl h)

says-reject : (tables : Tables) (calls : Calls) (id : Option ℤ) (problem : Problem) (wrote : List Apdu) → IsIn (apdus.Reject id problem) wrote → HearsAnswers tables wrote (hear_reject calls id problem)
says-reject tables calls None problem wrote h = (tt, tt)
says-reject tables calls (Some id) problem wrote h = go (is_of_invocation problem.kind && is_some (opened_with true id calls.opens))
  where
    go : (b : Bool) → HearsAnswers tables wrote (if b then showing (close true id calls) (indications.Rejected id problem) else showing calls (indications.RejectTaken (Some id) problem))
    go true = (record { apdu = apdus.Reject (Some id) problem; written = h; tells = (refl, refl) }, tt)
    go false = (tt, tt)

says : (base : Base) (calls : Calls) (context : ℕ) (apdu : Apdu) (wrote : List Apdu) → IsIn apdu wrote → HearsAnswers base.tables wrote (hear base calls context (head_of_apdu apdu))
says base calls context (apdus.Invoke id linked code argument) wrote h =
    unless base.tables wrote (invoke_problem base calls id linked (operation_with base.tables code) (carried_in argument))
    (rejected calls (Some id) problems.Invoke)
    (invoked base calls context id linked (operation_with base.tables code) (carried_in argument))
    (λ n. tt) (says-invoked base calls context id linked (operation_with base.tables code) (carried_in argument) wrote)
says base calls context (apdus.Result id returned) wrote h = says-result base calls id (opened_with true id calls.opens) returned wrote h
says base calls context (apdus.Error id code parameter) wrote h = says-error base calls id (opened_with true id calls.opens) code parameter wrote h
says base calls context (apdus.Reject id problem) wrote h = says-reject base.tables calls id problem wrote h

-- ---- values that are taken

pub rejects-append : (xs ys : List Indication) → rejects_in (xs ++ ys) ≡ rejects_in xs ++ rejects_in ys
rejects-append [] ys = refl
rejects-append (x ∷ xs) ys = ap (λ is. reject_in x ++ is) (rejects-append xs ys) ∙ sym (append_assoc (reject_in x) (rejects_in xs) (rejects_in ys))

-- what is sent carries what this end wrote, and what is shown the other wrote
pub record TakenWell (tables : Tables) (own peer : List Apdu) (answers : List Message) (shown : List Indication) : Type 0 where
  pub sends : AllCarry (rejects_in shown ++ own) answers
  pub shows : AreAnswers tables peer shown

reject-carried : (base : Base) (body : Body) (context : ℕ) (r : Option Rejecting) (own : List Apdu) → is_reliable base.mode ≡ false → AllCarry (rejects_in (with_reject base body context r).shown ++ own) (with_reject base body context r).answers
reject-carried base body context None own e = tt
reject-carried base body context (Some r) own e = go (is_reliable base.mode) e (carrier_in base body context)
  where
    go : (b : Bool) → b ≡ false → (c : Option ℕ) → AllCarry (rejects_in (if b then queued body context r else sent_on body r c).shown ++ own) (if b then queued body context r else sent_on body r c).answers
    go true e c = cc
    go false e None = tt
    go false e (Some id) = ((record { apdu = apdus.Reject r.id r.problem; is_it = refl; within = inl refl }, tt), tt)

-- what is shown of it the other end wrote, in every mode
head-shows : (base : Base) (body : Body) (context : ℕ) (apdu : Apdu) (peer : List Apdu) → IsIn apdu peer → AreAnswers base.tables peer (take_head base body context (head_of_apdu apdu)).shown
head-shows base body context apdu peer h =
    let heard = hear base body.calls context (head_of_apdu apdu) in
    let with_it = with_reject base (record body { calls = heard.calls }) context heard.reject in
    answers-append base.tables peer heard.shown with_it.shown (says base body.calls context apdu peer h)
    (quiet base.tables peer with_it.shown (with-reject base (record body { calls = heard.calls }) context heard.reject).1)

one-shows : (base : Base) (body : Body) (value : DataValue) (peer : List Apdu) → Written peer value.content → AreAnswers base.tables peer (take_head base body value.id (head_of base value)).shown
one-shows base body value peer h =
    let says_so : head_of base value ≡ head_of_apdu h.apdu = ap (λ (c : ValueContent). head_of base (record { id = value.id; pair = value.pair; content = c })) h.is_it in
    subst (λ (head : HeardHead). AreAnswers base.tables peer (take_head base body value.id head).shown) (sym says_so) (head-shows base body value.id h.apdu peer h.within)

pub values-show : (base : Base) (body : Body) (values : List DataValue) (peer : List Apdu) → AreWritten peer values → AreAnswers base.tables peer (take_values base body values).shown
values-show base body [] peer h = tt
values-show base body (value ∷ values) peer h =
    let first = take_head base body value.id (head_of base value) in
    answers-append base.tables peer first.shown (take_values base first.body values).shown (one-shows base body value peer h.0) (values-show base first.body values peer h.1)

head-taken : (base : Base) (body : Body) (context : ℕ) (apdu : Apdu) (own peer : List Apdu) → is_reliable base.mode ≡ false → IsIn apdu peer → TakenWell base.tables own peer (take_head base body context (head_of_apdu apdu)).answers (take_head base body context (head_of_apdu apdu)).shown
head-taken base body context apdu own peer e h =
    let heard = hear base body.calls context (head_of_apdu apdu) in
    let with_it = with_reject base (record body { calls = heard.calls }) context heard.reject in
    let same : rejects_in heard.shown ++ (rejects_in with_it.shown ++ own) ≡ rejects_in (heard.shown ++ with_it.shown) ++ own =
    sym (append_assoc (rejects_in heard.shown) (rejects_in with_it.shown) own) ∙ ap (λ is. is ++ own) (sym (rejects-append heard.shown with_it.shown)) in
    record {
      sends =
          subst (λ (w : List Apdu). AllCarry w with_it.answers) same
          (all-on (rejects_in with_it.shown ++ own) (rejects_in heard.shown ++ (rejects_in with_it.shown ++ own)) with_it.answers (within-more (rejects_in heard.shown) (rejects_in with_it.shown ++ own))
          (reject-carried base (record body { calls = heard.calls }) context heard.reject own e));
      shows = head-shows base body context apdu peer h;
    }

one-taken : (base : Base) (body : Body) (value : DataValue) (own peer : List Apdu) → is_reliable base.mode ≡ false → Written peer value.content → TakenWell base.tables own peer (take_head base body value.id (head_of base value)).answers (take_head base body value.id (head_of base value)).shown
one-taken base body value own peer e h =
    let says_so : head_of base value ≡ head_of_apdu h.apdu = ap (λ (c : ValueContent). head_of base (record { id = value.id; pair = value.pair; content = c })) h.is_it in
    subst (λ (head : HeardHead). TakenWell base.tables own peer (take_head base body value.id head).answers (take_head base body value.id head).shown) (sym says_so)
    (head-taken base body value.id h.apdu own peer e h.within)

both-taken : (tables : Tables) (own peer : List Apdu) (answers more : List Message) (shown later : List Indication) → TakenWell tables own peer answers shown → TakenWell tables own peer more later → TakenWell tables own peer (answers ++ more) (shown ++ later)
both-taken tables own peer answers more shown later h k =
    let same : (rejects_in shown ++ rejects_in later) ++ own ≡ rejects_in (shown ++ later) ++ own = ap (λ is. is ++ own) (sym (rejects-append shown later)) in
    let first : AllCarry ((rejects_in shown ++ rejects_in later) ++ own) answers = all-on (rejects_in shown ++ own) ((rejects_in shown ++ rejects_in later) ++ own) answers (around (rejects_in shown) (rejects_in later) own) h.sends in
    let second : AllCarry ((rejects_in shown ++ rejects_in later) ++ own) more =
    subst (λ (w : List Apdu). AllCarry w more) (sym (append_assoc (rejects_in shown) (rejects_in later) own))
    (all-on (rejects_in later ++ own) (rejects_in shown ++ (rejects_in later ++ own)) more (within-more (rejects_in shown) (rejects_in later ++ own)) k.sends) in
    record {
      sends = subst (λ (w : List Apdu). AllCarry w (answers ++ more)) same (all-append ((rejects_in shown ++ rejects_in later) ++ own) answers more first second);
      shows = answers-append tables peer shown later h.shows k.shows;
    }

pub values-taken : (base : Base) (body : Body) (values : List DataValue) (own peer : List Apdu) → is_reliable base.mode ≡ false → AreWritten peer values → TakenWell base.tables own peer (take_values base body values).answers (take_values base body values).shown
values-taken base body [] own peer e h = record { sends = tt; shows = tt }
values-taken base body (value ∷ values) own peer e h =
    let first = take_head base body value.id (head_of base value) in
    both-taken base.tables own peer first.answers (take_values base first.body values).answers first.shown (take_values base first.body values).shown
    (one-taken base body value own peer e h.0) (values-taken base first.body values own peer e h.1)
