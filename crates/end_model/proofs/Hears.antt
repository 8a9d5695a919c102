-- An APDU that is heard: what opens, what closes, which reject is due.
use Rattle.std.proofs.Common.{◌≡◌, refl, true, false, ◌∙◌, sym, ap, subst, arith, ℕ, List, [], ◌∷◌}
use Rattle.std.proofs.Common.{◌++◌, length}
use Rattle.std.specs.Prelude.{ℤ, pos, negsuc, Bool, not, ◌&&◌, ◌||◌, Option, Some, None, is_some}
use Rattle.std.specs.Prelude.{option_map, unwrap_or, if◌then◌else◌, nat_eq, nat_lt, nat_le}
use Rattle.std.proofs.lemmas.Bool.Decides.{nat_tests}
use Rattle.osi_base.specs.declared.layer_words.Problem.{Problem}
use Rattle.osi_base.specs.declared.layer_words.ProblemKind.{ProblemKind}
use Rattle.osi_base.specs.declared.layer_words.ProblemKind.TheVariants as problems
use Rattle.osi_base.specs.declared.syntax.Syntax.TheVariants.{Der}
use Rattle.osi_base.specs.Limits.{most_open}
use Rattle.asn1_types.specs.declared.value.Val.{Val}
use Rattle.stub_tables.specs.declared.operation.Code.{Code}
use Rattle.stub_tables.specs.declared.operation.Operation.{Operation}
use Rattle.stub_tables.specs.declared.apdu.Apdu.{Apdu}
use Rattle.stub_tables.specs.declared.apdu.Apdu.TheVariants as apdus
use Rattle.stub_tables.specs.declared.apdu.Returned.{Returned}
use Rattle.stub_tables.specs.Lookup.{operation_at, operation_with, error_with}
use Rattle.dialogue.specs.declared.config.Mode.{Mode}
use Rattle.end_rules.specs.Base.{Base, Carried}
use Rattle.end_rules.specs.State.{OpenCall, Calls, opened_with, opens_of, is_none, is_empty}
use Rattle.end_rules.specs.Sets.{is_among}
use Rattle.end_rules.specs.Invoking.{is_linked_to, operation_of}
use Rattle.end_rules.specs.Hearing.{Heard, Rejecting, reject_apdu, hear, head_of_apdu, carried_in}
use Rattle.end_rules.specs.Hearing.{code_returned, value_returned, is_silent_at, has_links}
use Rattle.end_rules.specs.Hearing.{link_problem, argument_problem, invoke_problem, with_opened}
use Rattle.end_rules.specs.Hearing.{invoked, unless_problem, rejected, result_problem}
use Rattle.end_rules.specs.Hearing.{error_problem, first_problem, problem_if}
use Rattle.agreement.specs.Messages as model
use Rattle.agreement.specs.Messages.Apdu.{Invoke as model_invoke, Outcome as model_outcome}
use Rattle.agreement.specs.Messages.Problem.{OfInvocation as of_invocation}
use Rattle.agreement.specs.State.{Handed}
use Rattle.agreement.specs.Calls.{is_open, is_accepted, has_room, is_link_allowed, heard}
use Rattle.agreement.specs.Calls.{rejects_of}
use Rattle.end_model.specs.Seen.{Free, number_seen, opens_seen_on, calls_seen, apdu_seen}
use Rattle.end_model.specs.Seen.{setup_seen, is_outcome, allows_outcome, problem_due, link_due}
use Rattle.end_model.specs.Seen.{on_open}
use Rattle.end_model.specs.Rows.{at}
use Rattle.end_model.specs.OpenInvocations.{IsNumber, IsNamed, IsProblem, IsProper, AreNumbered, AreNumberedCalls}
use Rattle.end_model.specs.OpenInvocations.{fits_argument, operation_of_code}
use Rattle.end_model.specs.OpenInvocations.{IsReadBack}
use Rattle.end_model.specs.Heard.{IsExpected}
use Rattle.end_model.proofs.OpenInvocations.{open-found, link-found, answer-found, found, found-seen}
use Rattle.end_model.proofs.OpenInvocations.{on_opened, on-some, joined-seen, length-seen}
use Rattle.end_model.proofs.Numbered.{numbered-opening, numbered-closed}
use Rattle.end_model.proofs.Handing.{own-closed}
use Rattle.end_model.proofs.OutcomeRows.{right-carried}

-- the reject as what is due in the model
abbrev pub rejects_seen : Base → ℕ → Option Rejecting → List Handed
rejects_seen base context None = []
rejects_seen base context (Some r) = record { context = context; apdu = apdu_seen base (reject_apdu r) } ∷ []

-- a reject is one that the other end may take
abbrev pub IsProperReject : Base → Option Rejecting → Type 0
IsProperReject base None = Unit {0}
IsProperReject base (Some r) = IsProper base (reject_apdu r)

pub record Hears (free : Free) (mode : Mode) (base : Base) (calls : Calls) (context : ℕ) (apdu : Apdu) (h : Heard) : Type 0 where
  pub calls_are : calls_seen h.calls ≡ heard (setup_seen free mode base) (calls_seen calls) context (apdu_seen (at mode base) apdu)
  pub rejects_are : rejects_seen (at mode base) context h.reject ≡ rejects_of (setup_seen free mode base) (calls_seen calls) context (apdu_seen (at mode base) apdu)
  pub numbered : AreNumberedCalls h.calls
  pub proper : IsProperReject (at mode base) h.reject

-- ---- what is open

is-one : (x : Option OpenCall) → on_opened (λ c. true) false x ≡ is_some x
is-one None = refl
is-one (Some o) = refl

none-found : (test : model.Invocation → Bool) (n : ℕ) → found test n [] ≡ false
none-found test n = refl

pub open-seen : (own : Bool) (n : ℕ) (made : ℕ) (os : List OpenCall) → AreNumbered made os → is_open n (opens_seen_on own [] os) ≡ is_some (opened_with own (pos n) os)
open-seen own n made os h =
    open-found n (opens_seen_on own [] os) ∙ found-seen (λ c. true) n own [] made os h ∙
    ap (λ b. on_opened (λ c. true) b (opened_with own (pos n) os)) (none-found (λ c. true) n) ∙ is-one (opened_with own (pos n) os)

-- ---- an invocation of the peer opens

pub peer-opening : (base : Base) (place context : ℕ) (id : ℤ) (linked : Option ℤ) (calls : Calls) → calls_seen (with_opened base (record { own = false; id = id; operation = place; context = context; parent = linked }) calls) ≡ record (calls_seen calls) { peer_open = (if is_silent_at base (Some place) then (calls_seen calls).peer_open else record { number = number_seen id; operation = place; context = context } ∷ (calls_seen calls).peer_open) }
peer-opening base place context id linked calls = go (is_silent_at base (Some place))
  where
    go : (b : Bool) → calls_seen (if b then calls else record calls { opens = calls.opens ++ record { own = false; id = id; operation = place; context = context; parent = linked } ∷ [] }) ≡ record (calls_seen calls) { peer_open = (if b then (calls_seen calls).peer_open else record { number = number_seen id; operation = place; context = context } ∷ (calls_seen calls).peer_open) }
    go true = refl
    go false =
        let put : List model.Invocation → List model.Invocation → model.Calls = λ own peer. record { own_open = own; peer_open = peer; made = calls.made } in
        ap (λ own. put own (opens_seen_on false [] (calls.opens ++ record { own = false; id = id; operation = place; context = context; parent = linked } ∷ []))) (joined-seen true [] calls.opens (record { own = false; id = id; operation = place; context = context; parent = linked })) ∙
        ap (λ peer. put (opens_seen_on true [] calls.opens) peer) (joined-seen false [] calls.opens (record { own = false; id = id; operation = place; context = context; parent = linked }))

-- ---- links

on-open : (test : ℕ → Bool) (n : ℕ) (cs : List model.Invocation) → on_open test n cs ≡ found (λ c. test c.operation) n cs
on-open test n [] = refl
on-open test n (c ∷ cs) = ap (λ b. if nat_eq c.number n then test c.operation else b) (on-open test n cs)

seen-so : (test : ℕ → Bool) (n made : ℕ) (os : List OpenCall) → AreNumbered made os → found (λ c. test c.operation) n (opens_seen_on true [] os) ≡ on_opened (λ c. test c.operation) false (opened_with true (pos n) os)
seen-so test n made os h =
    found-seen (λ c. test c.operation) n true [] made os h ∙
    ap (λ b. on_opened (λ c. test c.operation) b (opened_with true (pos n) os)) (none-found (λ c. test c.operation) n)

pub record LinkSeen (free : Free) (mode : Mode) (base : Base) (calls : Calls) (place : ℕ) (linked : Option ℤ) : Type 0 where
  pub allowed : is_link_allowed (setup_seen free mode base) (calls_seen calls).own_open place (option_map number_seen linked) ≡ is_none (link_problem (at mode base) calls place linked)
  pub due : (m : ℕ) → link_problem (at mode base) calls place linked ≡ Some m → link_due base (calls_seen calls).own_open (option_map number_seen linked) ≡ m

no-links : (p : Option Operation) (place : ℕ) → has_links p ≡ false → is_linked_to p place ≡ false
no-links None place h = refl
no-links (Some operation) place h = go operation.linked h
  where
    go : (links : List ℕ) → not (is_empty links) ≡ false → is_among place links ≡ false
    go [] h = refl
    go (k ∷ links) h = cc

-- by what the linked one is
abbrev problem_of : Base → ℕ → Option OpenCall → Option ℕ
problem_of base place x =
    first_problem (problem_if (not (is_some x)) 5)
    (first_problem (problem_if (not (has_links (operation_of base x))) 6)
    (problem_if (not (is_linked_to (operation_of base x) place)) 7))

abbrev due_of : Bool → Bool → ℕ
due_of there links = if not there then 5 else (if links then 7 else 6)

record Linked (base : Base) (place : ℕ) (x : Option OpenCall) (there links allowed : Bool) : Type 0 where
  is_allowed : allowed ≡ is_none (problem_of base place x)
  is_due : (m : ℕ) → problem_of base place x ≡ Some m → due_of there links ≡ m

linked-by : (base : Base) (place : ℕ) (x : Option OpenCall) (there links allowed : Bool) → there ≡ is_some x → links ≡ on_opened (λ c. has_links (operation_at base.tables c.operation)) false x → allowed ≡ on_opened (λ c. is_linked_to (operation_at base.tables c.operation) place) false x → Linked base place x there links allowed
linked-by base place None there links allowed e f g = record { is_allowed = g; is_due = λ m h. rw e (cc) }
linked-by base place (Some o) there links allowed e f g =
    go (has_links (operation_at base.tables o.operation)) refl (is_linked_to (operation_at base.tables o.operation) place) refl
  where
    go : (hl : Bool) → has_links (operation_at base.tables o.operation) ≡ hl → (lk : Bool) → is_linked_to (operation_at base.tables o.operation) place ≡ lk → Linked base place (Some o) there links allowed
    go true eh true el = record { is_allowed = g ∙ el ∙ rw (eh, el) refl; is_due = λ m h. let k : None ≡ Some m = rw (eh, el) at h in cc }
    go true eh false el = record { is_allowed = g ∙ el ∙ rw (eh, el) refl; is_due = λ m h. let k : Some 7 ≡ Some m = rw (eh, el) at h in rw (e, f, eh) (cc) }
    go false eh true el = let k = no-links (operation_at base.tables o.operation) place eh in cc
    go false eh false el = record { is_allowed = g ∙ el ∙ rw eh refl; is_due = λ m h. let k : Some 6 ≡ Some m = rw eh at h in rw (e, f, eh) (cc) }

pub link-seen : (free : Free) (mode : Mode) (base : Base) (calls : Calls) (place : ℕ) (linked : Option ℤ) → AreNumbered calls.made calls.opens → IsNamed linked → LinkSeen free mode base calls place linked
link-seen free mode base calls place None h i = record { allowed = refl; due = λ m e. cc }
link-seen free mode base calls place (Some (negsuc n)) h i = absurd i
link-seen free mode base calls place (Some (pos n)) h i =
    let l = linked-by (at mode base) place (opened_with true (pos n) calls.opens) (is_open n (calls_seen calls).own_open) (on_open (λ p. has_links (operation_at base.tables p)) n (calls_seen calls).own_open) (is_link_allowed (setup_seen free mode base) (calls_seen calls).own_open place (Some n))
    (open-seen true n calls.made calls.opens h)
    (on-open (λ p. has_links (operation_at base.tables p)) n (opens_seen_on true [] calls.opens) ∙ seen-so (λ p. has_links (operation_at base.tables p)) n calls.made calls.opens h)
    (link-found (setup_seen free mode base) place n (opens_seen_on true [] calls.opens) ∙ seen-so (λ p. is_linked_to (operation_at base.tables p) place) n calls.made calls.opens h) in
    record { allowed = l.is_allowed; due = l.is_due }

-- ---- an invocation is accepted or rejected

data AcceptsOrRejects (problem : Option ℕ) (accepted : Bool) (due : model.Problem) : Type 0 where
  accepts : problem ≡ None → accepted ≡ true → AcceptsOrRejects problem accepted due
  rejects : (m : ℕ) → problem ≡ Some m → accepted ≡ false → due ≡ of_invocation m → AcceptsOrRejects problem accepted due

accepts-or-rejects : (a b s : Bool) (l : Option ℕ) (open_ room allowed full : Bool) (due : ℕ) → open_ ≡ a → full ≡ b → room ≡ (s || not b) → allowed ≡ is_none l → ((m : ℕ) → l ≡ Some m → due ≡ m) → AcceptsOrRejects (first_problem (problem_if a 0) (first_problem (problem_if (b && not s) 3) (first_problem l None))) (not open_ && room && allowed) (if open_ then of_invocation 0 else (if full && not s then of_invocation 3 else of_invocation due))
accepts-or-rejects true b s l open_ room allowed full due e f g k d = rw e (rejects 0 refl refl refl)
accepts-or-rejects false true false l open_ room allowed full due e f g k d = rw (e, f, g) (rejects 3 refl refl refl)
accepts-or-rejects false true true None open_ room allowed full due e f g k d = rw (e, f, g, k) (accepts refl refl)
accepts-or-rejects false true true (Some m) open_ room allowed full due e f g k d = rw (e, f, g, k, d m refl) (rejects m refl refl refl)
accepts-or-rejects false false true None open_ room allowed full due e f g k d = rw (e, f, g, k) (accepts refl refl)
accepts-or-rejects false false true (Some m) open_ room allowed full due e f g k d = rw (e, f, g, k, d m refl) (rejects m refl refl refl)
accepts-or-rejects false false false None open_ room allowed full due e f g k d = rw (e, f, g, k) (accepts refl refl)
accepts-or-rejects false false false (Some m) open_ room allowed full due e f g k d = rw (e, f, g, k, d m refl) (rejects m refl refl refl)

record IsAcceptedOrRejected (free : Free) (mode : Mode) (base : Base) (calls : Calls) (context place : ℕ) (n : ℕ) (linked : Option ℤ) (argument : Carried) (octets : List ℕ) : Type 0 where
  is_either : AcceptsOrRejects (invoke_problem (at mode base) calls (pos n) linked (Some place) argument)
      (is_accepted (setup_seen free mode base) (calls_seen calls) (model_invoke n place (option_map number_seen linked) octets))
      (problem_due base (calls_seen calls) (model_invoke n place (option_map number_seen linked) octets))

is-accepted-or-rejected : (free : Free) (mode : Mode) (base : Base) (calls : Calls) (context place : ℕ) (n : ℕ) (linked : Option ℤ) (argument : Carried) (octets : List ℕ) → AreNumbered calls.made calls.opens → IsNamed linked → argument_problem (at mode base) (operation_at base.tables place) argument ≡ None → IsAcceptedOrRejected free mode base calls context place n linked argument octets
is-accepted-or-rejected free mode base calls context place n linked argument octets h i fits =
    let l = link-seen free mode base calls place linked h i in
    let len : length (calls_seen calls).peer_open ≡ length (opens_of false calls.opens) = length-seen false [] calls.opens ∙ omega arith in
    let b : Bool = nat_le most_open (length (opens_of false calls.opens)) in
    let s : Bool = is_silent_at base (Some place) in
    let j = accepts-or-rejects (is_some (opened_with false (pos n) calls.opens)) b s (link_problem (at mode base) calls place linked) (is_open n (calls_seen calls).peer_open) (has_room (setup_seen free mode base) place (calls_seen calls).peer_open) (is_link_allowed (setup_seen free mode base) (calls_seen calls).own_open place (option_map number_seen linked)) (nat_le most_open (length (calls_seen calls).peer_open)) (link_due base (calls_seen calls).own_open (option_map number_seen linked))
    (open-seen false n calls.made calls.opens h)
    (ap (λ m. nat_le most_open m) len)
    (ap (λ m. s || nat_lt m most_open) len ∙ ap (λ x. s || x) (other-way (length (opens_of false calls.opens))))
    l.allowed l.due in
    record { is_either = subst (λ x. AcceptsOrRejects (first_problem (problem_if (is_some (opened_with false (pos n) calls.opens)) 0) (first_problem (problem_if (b && not s) 3) (first_problem (link_problem (at mode base) calls place linked) x))) (is_accepted (setup_seen free mode base) (calls_seen calls) (model_invoke n place (option_map number_seen linked) octets)) (problem_due base (calls_seen calls) (model_invoke n place (option_map number_seen linked) octets))) (sym fits) j }
  where
    other-way : (m : ℕ) → nat_lt m most_open ≡ not (nat_le most_open m)
    other-way m = grind (arith, nat_tests)

-- the invocation is known, and its argument fits
record InvokeAt (free : Free) (mode : Mode) (base : Base) (calls : Calls) (context : ℕ) (p : Option ℕ) (n : ℕ) (linked : Option ℤ) (octets : List ℕ) (h : Heard) : Type 0 where
  calls_are : calls_seen h.calls ≡ heard (setup_seen free mode base) (calls_seen calls) context (model_invoke n (unwrap_or p 0) (option_map number_seen linked) octets)
  rejects_are : rejects_seen (at mode base) context h.reject ≡ rejects_of (setup_seen free mode base) (calls_seen calls) context (model_invoke n (unwrap_or p 0) (option_map number_seen linked) octets)
  numbered : AreNumberedCalls h.calls
  proper : IsProperReject (at mode base) h.reject

not-so : false ≡ true → ⊥
not-so e = cc

first-none : (a : Bool) (later : Option ℕ) → first_problem (problem_if a 0) later ≡ None → a ≡ false
first-none true later h = cc
first-none false later h = refl

-- what is heard of it
abbrev heard_at : Base → Calls → ℕ → ℤ → Option ℤ → Carried → Option ℕ → Heard
heard_at base calls context id linked argument p =
    unless_problem (invoke_problem base calls id linked p argument) (rejected calls (Some id) problems.Invoke) (invoked base calls context id linked p argument)

invoke-at : (free : Free) (mode : Mode) (base : Base) (calls : Calls) (context place : ℕ) (n : ℕ) (linked : Option ℤ) (argument : Carried) (octets : List ℕ) → AreNumbered calls.made calls.opens → IsNumber (pos n) → IsAcceptedOrRejected free mode base calls context place n linked argument octets → InvokeAt free mode base calls context (Some place) n linked octets (heard_at (at mode base) calls context (pos n) linked argument (Some place))
invoke-at free mode base calls context place n linked argument octets h i j = go j.is_either
  where
    go : AcceptsOrRejects (invoke_problem (at mode base) calls (pos n) linked (Some place) argument) (is_accepted (setup_seen free mode base) (calls_seen calls) (model_invoke n place (option_map number_seen linked) octets)) (problem_due base (calls_seen calls) (model_invoke n place (option_map number_seen linked) octets)) → InvokeAt free mode base calls context (Some place) n linked octets (heard_at (at mode base) calls context (pos n) linked argument (Some place))
    go (accepts p a) =
        let fresh : is_some (opened_with false (pos n) calls.opens) ≡ false = first-none (is_some (opened_with false (pos n) calls.opens)) _ p in
        record {
          calls_are = rw (p, a) (peer-opening (at mode base) place context (pos n) linked calls);
          rejects_are = rw (p, a) refl;
          numbered = rw p (numbered-opening (at mode base) (record { own = false; id = pos n; operation = place; context = context; parent = linked }) calls h (record { is_number = i; made_here = λ e. absurd (not-so e) }) fresh);
          proper = rw p tt;
        }
    go (rejects m p a d) =
        record {
          calls_are = rw (p, a) refl;
          rejects_are = rw (p, a, d) refl;
          numbered = rw p h;
          proper = rw p (i, tt);
        }

-- ---- outcomes

record IsKnown (base : Base) (code : Code) (argument : Carried) : Type 0 where
  place : ℕ
  is_it : operation_with base.tables code ≡ Some place
  fits : argument_problem base (operation_at base.tables place) argument ≡ None

right-argument : (base : Base) (argument : Option Val) (o : Option Operation) → fits_argument base o argument ≡ true → argument_problem base o (carried_in argument) ≡ None
right-argument base argument None h = cc
right-argument base argument (Some operation) h = rw (right-carried base operation.argument argument, h) refl

is-known : (base : Base) (code : Code) (argument : Option Val) → fits_argument base (operation_of_code base (operation_with base.tables code)) argument ≡ true → IsKnown base code (carried_in argument)
is-known base code argument h = go (operation_with base.tables code) refl h
  where
    go : (p : Option ℕ) → operation_with base.tables code ≡ p → fits_argument base (operation_of_code base p) argument ≡ true → IsKnown base code (carried_in argument)
    go None e h = cc
    go (Some place) e h = record { place = place; is_it = e; fits = right-argument base argument (operation_at base.tables place) h }

pub invoke-hears : (free : Free) (mode : Mode) (base : Base) (calls : Calls) (context : ℕ) (id : ℤ) (linked : Option ℤ) (code : Code) (argument : Option Val) → AreNumbered calls.made calls.opens → IsProper (at mode base) (apdus.Invoke id linked code argument) → Hears free mode base calls context (apdus.Invoke id linked code argument) (hear (at mode base) calls context (head_of_apdu (apdus.Invoke id linked code argument)))
invoke-hears free mode base calls context (negsuc n) linked code argument h i = absurd i.0
invoke-hears free mode base calls context (pos n) linked code argument h i =
    let k = is-known (at mode base) code argument i.2 in
    let octets : List ℕ = base.spellings.apdu Der (apdus.Invoke (pos n) linked code argument) in
    let one = invoke-at free mode base calls context k.place n linked (carried_in argument) octets h i.0 (is-accepted-or-rejected free mode base calls context k.place n linked (carried_in argument) octets h i.1 k.fits) in
    let at_code = subst (λ p. InvokeAt free mode base calls context p n linked octets (heard_at (at mode base) calls context (pos n) linked (carried_in argument) p)) (sym k.is_it) one in
    record { calls_are = at_code.calls_are; rejects_are = at_code.rejects_are; numbered = at_code.numbered; proper = at_code.proper }

-- ---- outcomes: of an open invocation one that is allowed, of another a rejected one

-- the outcome is allowed where its invocation is open
allowed-here : (free : Free) (mode : Mode) (base : Base) (calls : Calls) (n : ℕ) (apdu : Apdu) (o : OpenCall) → AreNumbered calls.made calls.opens → base.spellings.head Der (base.spellings.apdu Der apdu) ≡ head_of_apdu apdu → IsExpected (setup_seen free mode base) (calls_seen calls) (model_outcome n (base.spellings.apdu Der apdu)) → opened_with true (pos n) calls.opens ≡ Some o → is_outcome base o.operation (head_of_apdu apdu) ≡ true
allowed-here free mode base calls n apdu o h back expected e =
    let test : ℕ → Bool = λ p. allows_outcome base p (base.spellings.apdu Der apdu) in
    let there : is_open n (calls_seen calls).own_open ≡ true = open-seen true n calls.made calls.opens h ∙ ap is_some e in
    sym (ap (is_outcome base o.operation) back) ∙
    sym (on-some (λ c. test c.operation) false o) ∙
    sym (ap (on_opened (λ c. test c.operation) false) e) ∙
    sym (seen-so test n calls.made calls.opens h) ∙
    sym (answer-found (setup_seen free mode base) n (base.spellings.apdu Der apdu) (opens_seen_on true [] calls.opens)) ∙
    expected there

no-problem : (p : Option ℕ) → is_none p ≡ true → p ≡ None
no-problem None h = refl
no-problem (Some m) h = cc

pub result-hears : (free : Free) (mode : Mode) (base : Base) (calls : Calls) (context : ℕ) (id : ℤ) (returned : Option Returned) → AreNumbered calls.made calls.opens → IsNumber id → base.spellings.head Der (base.spellings.apdu Der (apdus.Result id returned)) ≡ head_of_apdu (apdus.Result id returned) → IsExpected (setup_seen free mode base) (calls_seen calls) (apdu_seen (at mode base) (apdus.Result id returned)) → Hears free mode base calls context (apdus.Result id returned) (hear (at mode base) calls context (head_of_apdu (apdus.Result id returned)))
result-hears free mode base calls context (negsuc n) returned h i back expected = absurd i
result-hears free mode base calls context (pos n) returned h i back expected = go (opened_with true (pos n) calls.opens) refl
  where
    go : (x : Option OpenCall) → opened_with true (pos n) calls.opens ≡ x → Hears free mode base calls context (apdus.Result (pos n) returned) (hear (at mode base) calls context (head_of_apdu (apdus.Result (pos n) returned)))
    go None e =
        let there : is_open n (calls_seen calls).own_open ≡ false = open-seen true n calls.made calls.opens h ∙ ap is_some e in
        record { calls_are = rw (e, there) refl; rejects_are = rw (e, there, back) refl; numbered = rw e h; proper = rw e (i, tt) }
    go (Some o) e =
        let there : is_open n (calls_seen calls).own_open ≡ true = open-seen true n calls.made calls.opens h ∙ ap is_some e in
        let fine : result_problem (at mode base) o.operation (operation_at base.tables o.operation) (code_returned returned) (value_returned returned) ≡ None = no-problem (result_problem (at mode base) o.operation (operation_at base.tables o.operation) (code_returned returned) (value_returned returned)) (allowed-here free mode base calls n (apdus.Result (pos n) returned) o h back expected e) in
        record { calls_are = rw (e, fine, there) (own-closed n calls h); rejects_are = rw (e, fine, there) refl; numbered = rw (e, fine) (numbered-closed calls.made true (pos n) calls.opens h); proper = rw (e, fine) tt }

error-known : (base : Base) (p : Option Operation) (place : Option ℕ) (parameter : Carried) → error_problem base p place parameter ≡ None → (at_error : ℕ) × (place ≡ Some at_error)
error-known base None place parameter h = cc
error-known base (Some operation) (Some place) parameter h = (place, refl)
error-known base (Some operation) None parameter h = go (is_empty operation.errors) h
  where
    go : (b : Bool) → first_problem (problem_if b 1) (Some 2) ≡ None → (at_error : ℕ) × (None ≡ Some at_error)
    go true h = cc
    go false h = cc

pub error-hears : (free : Free) (mode : Mode) (base : Base) (calls : Calls) (context : ℕ) (id : ℤ) (code : Code) (parameter : Option Val) → AreNumbered calls.made calls.opens → IsNumber id → base.spellings.head Der (base.spellings.apdu Der (apdus.Error id code parameter)) ≡ head_of_apdu (apdus.Error id code parameter) → IsExpected (setup_seen free mode base) (calls_seen calls) (apdu_seen (at mode base) (apdus.Error id code parameter)) → Hears free mode base calls context (apdus.Error id code parameter) (hear (at mode base) calls context (head_of_apdu (apdus.Error id code parameter)))
error-hears free mode base calls context (negsuc n) code parameter h i back expected = absurd i
error-hears free mode base calls context (pos n) code parameter h i back expected = go (opened_with true (pos n) calls.opens) refl
  where
    go : (x : Option OpenCall) → opened_with true (pos n) calls.opens ≡ x → Hears free mode base calls context (apdus.Error (pos n) code parameter) (hear (at mode base) calls context (head_of_apdu (apdus.Error (pos n) code parameter)))
    go None e =
        let there : is_open n (calls_seen calls).own_open ≡ false = open-seen true n calls.made calls.opens h ∙ ap is_some e in
        record { calls_are = rw (e, there) refl; rejects_are = rw (e, there, back) refl; numbered = rw e h; proper = rw e (i, tt) }
    go (Some o) e =
        let there : is_open n (calls_seen calls).own_open ≡ true = open-seen true n calls.made calls.opens h ∙ ap is_some e in
        let fine : error_problem (at mode base) (operation_at base.tables o.operation) (error_with base.tables code) (carried_in parameter) ≡ None = no-problem (error_problem (at mode base) (operation_at base.tables o.operation) (error_with base.tables code) (carried_in parameter)) (allowed-here free mode base calls n (apdus.Error (pos n) code parameter) o h back expected e) in
        let known = error-known (at mode base) (operation_at base.tables o.operation) (error_with base.tables code) (carried_in parameter) fine in
        record { calls_are = rw (e, fine, known.1, there) (own-closed n calls h); rejects_are = rw (e, fine, known.1, there) refl; numbered = rw (e, fine, known.1) (numbered-closed calls.made true (pos n) calls.opens h); proper = rw (e, fine, known.1) tt }

-- ---- rejects

pub reject-hears : (free : Free) (mode : Mode) (base : Base) (calls : Calls) (context : ℕ) (id : Option ℤ) (problem : Problem) → AreNumbered calls.made calls.opens → IsProper (at mode base) (apdus.Reject id problem) → Hears free mode base calls context (apdus.Reject id problem) (hear (at mode base) calls context (head_of_apdu (apdus.Reject id problem)))
reject-hears free mode base calls context None problem h i = by-kind problem.kind problem.number i.1
  where
    by-kind : (kind : ProblemKind) (number : ℤ) → IsProblem None kind number → Hears free mode base calls context (apdus.Reject None (record { kind = kind; number = number })) (hear (at mode base) calls context (head_of_apdu (apdus.Reject None (record { kind = kind; number = number }))))
    by-kind problems.General (pos m) i = record { calls_are = refl; rejects_are = refl; numbered = h; proper = tt }
    by-kind problems.General (negsuc m) i = absurd i
    by-kind problems.Invoke (pos m) i = absurd i
    by-kind problems.Invoke (negsuc m) i = absurd i
    by-kind problems.Result (pos m) i = absurd i
    by-kind problems.Result (negsuc m) i = absurd i
    by-kind problems.Error (pos m) i = absurd i
    by-kind problems.Error (negsuc m) i = absurd i
reject-hears free mode base calls context (Some (negsuc n)) problem h i = absurd i.0
reject-hears free mode base calls context (Some (pos n)) problem h i = by-kind problem.kind problem.number (is_some (opened_with true (pos n) calls.opens)) refl
  where
    by-kind : (kind : ProblemKind) (number : ℤ) (b : Bool) → is_some (opened_with true (pos n) calls.opens) ≡ b → Hears free mode base calls context (apdus.Reject (Some (pos n)) (record { kind = kind; number = number })) (hear (at mode base) calls context (head_of_apdu (apdus.Reject (Some (pos n)) (record { kind = kind; number = number }))))
    by-kind problems.General number b e = record { calls_are = refl; rejects_are = refl; numbered = h; proper = tt }
    by-kind problems.Result number b e = record { calls_are = refl; rejects_are = refl; numbered = h; proper = tt }
    by-kind problems.Error number b e = record { calls_are = refl; rejects_are = refl; numbered = h; proper = tt }
    by-kind problems.Invoke number true e =
        let there : is_open n (calls_seen calls).own_open ≡ true = open-seen true n calls.made calls.opens h ∙ e in
        record { calls_are = rw (e, there) (own-closed n calls h); rejects_are = rw (e, there) refl; numbered = rw e (numbered-closed calls.made true (pos n) calls.opens h); proper = rw e tt }
    by-kind problems.Invoke number false e =
        let there : is_open n (calls_seen calls).own_open ≡ false = open-seen true n calls.made calls.opens h ∙ e in
        record { calls_are = rw (e, there) refl; rejects_are = rw (e, there) refl; numbered = rw e h; proper = rw e tt }

-- ---- every APDU that this product writes

pub hears : (free : Free) (mode : Mode) (base : Base) (calls : Calls) (context : ℕ) (apdu : Apdu) → AreNumbered calls.made calls.opens → IsProper (at mode base) apdu → IsReadBack (at mode base) apdu → IsExpected (setup_seen free mode base) (calls_seen calls) (apdu_seen (at mode base) apdu) → Hears free mode base calls context apdu (hear (at mode base) calls context (head_of_apdu apdu))
hears free mode base calls context (apdus.Invoke id linked code argument) h i back expected = invoke-hears free mode base calls context id linked code argument h i
hears free mode base calls context (apdus.Result id returned) h i back expected = result-hears free mode base calls context id returned h i.0 back expected
hears free mode base calls context (apdus.Error id code parameter) h i back expected = error-hears free mode base calls context id code parameter h i.0 back expected
hears free mode base calls context (apdus.Reject id problem) h i back expected = reject-hears free mode base calls context id problem h i
