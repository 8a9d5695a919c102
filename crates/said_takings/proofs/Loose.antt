-- The contexts of the association stay in the sets of an end of direct mode, and its invocations and their outcomes go on others.
use Rattle.std.proofs.Common.{◌≡◌, refl, true, false, ◌∙◌, sym, ap, subst, arith, ℕ, ◌≤◌, List, [], ◌∷◌, ◌++◌}
use Rattle.std.specs.Prelude.{ℤ, Bool, not, ◌&&◌, Option, Some, None, Ok, is_some, nat_eq, nat_le, nat_lt, length, if◌then◌else◌}
use Rattle.std.proofs.lemmas.Bool.Decides.{nat_tests}
use Rattle.osi_base.specs.declared.syntax.Pair.{Pair}
use Rattle.osi_base.specs.declared.layer_words.SetItem.{SetItem}
use Rattle.osi_base.specs.declared.layer_words.Proposal.{Proposal}
use Rattle.osi_base.specs.declared.layer_words.AddAnswer.{AddAnswer}
use Rattle.osi_base.specs.declared.layer_words.Answers.{Answers}
use Rattle.osi_base.specs.declared.layer_words.Problem.{Problem}
use Rattle.osi_base.specs.Limits.{most_alterations}
use Rattle.stub_tables.specs.declared.operation.Code.{Code}
use Rattle.stub_tables.specs.declared.apdu.Apdu.{Apdu}
use Rattle.stub_tables.specs.declared.apdu.Apdu.TheVariants as apdus
use Rattle.stub_tables.specs.Lookup.{operation_at, operation_with, error_with}
use Rattle.dialogue.specs.declared.indication.Indication.TheVariants as indications
use Rattle.dialogue.specs.declared.config.Mode.TheVariants.{Direct}
use Rattle.dialogue.specs.declared.call.CallRefusal.{CallRefusal}
use Rattle.dialogue.specs.declared.call.CallRefusal.TheVariants as refusals
use Rattle.end_rules.specs.Base.{Base, Carried}
use Rattle.end_rules.specs.Altering.{additions_refusal, deletions_refusal, or_else, is_bad, is_set_full, alteration_refusal, can_alter}
use Rattle.end_rules.specs.Sets.{Alteration, Saved, carrier, may_send, lowest_with, has_abstract, is_among, named_ids, proposed_ids, is_fixed, put, put_accepted, pair_accepted, with_added, with_deleted, altered, below, newest}
use Rattle.osi_base.specs.SetPlaces.{pair_of, without_context}
use Rattle.end_rules.specs.State.{Body, Calls, OpenCall, opened_with, close, is_free, is_current, is_ending}
use Rattle.end_rules.specs.Policy.{policy, is_faulty_proposal}
use Rattle.end_rules.specs.Hearing.{Heard, showing, unless_problem, invoked, invoke_problem, hear, hear_result_of, result_problem, hear_error_of, error_problem, showing_error, hear_reject, is_of_invocation, head_of_apdu, carried_in, code_returned, value_returned}
use Rattle.agreement.specs.Sets.{IsRising}
use Rattle.agreement.proofs.Order.{rising-put, rising-remove}
use Rattle.end_model.specs.Seen.{pair_seen, set_seen}
use Rattle.end_model.proofs.Altered.{put-seen, without-seen}
use Rattle.end_model.specs.Rows.{at}
use Rattle.end_model.proofs.Ladder.{passed, unrefused}
use Rattle.end_model.proofs.Fitting.{one-name}
use Rattle.end_model.proofs.Handing.{has-pair}
use Rattle.reliable_model.proofs.Contexts.{lowest-found}
use Rattle.reliable_model.proofs.Fixed.{fixed-there, others-altered, unnamed-unharmed, fixed-unharmed, unproposed, unadded, undeleted, among-append, among-first, among-second}
use Rattle.reliable_model.proofs.Firm.{Keeps, IsLoose, OwnSpares, OpensLoose, module-loose, opened-loose, closed-loose}

-- ---- rising sets

put-rising : (k : ℕ) (p : Pair) (set : List SetItem) → IsRising (set_seen set) → IsRising (set_seen (put k p set))
put-rising k p set r = subst IsRising (sym (put-seen k p set)) (rising-put k (pair_seen p) (set_seen set) r)

accepted-rising : (k : ℕ) (p : Option Pair) (set : List SetItem) → IsRising (set_seen set) → IsRising (set_seen (put_accepted k p set))
accepted-rising k None set r = r
accepted-rising k (Some p) set r = put-rising k p set r

added-rising : (ps : List Proposal) (answers : List AddAnswer) (set : List SetItem) → IsRising (set_seen set) → IsRising (set_seen (with_added ps answers set))
added-rising [] answers set r = r
added-rising (p ∷ ps) [] set r = r
added-rising (p ∷ ps) (answer ∷ answers) set r = added-rising ps answers (put_accepted p.id (pair_accepted p answer) set) (accepted-rising p.id (pair_accepted p answer) set r)

deleted-rising : (js answers : List ℕ) (set : List SetItem) → IsRising (set_seen set) → IsRising (set_seen (with_deleted js answers set))
deleted-rising [] answers set r = r
deleted-rising (j ∷ js) [] set r = r
deleted-rising (j ∷ js) (answer ∷ answers) set r = deleted-rising js answers (if nat_eq answer 0 then without_context j set else set) (go (nat_eq answer 0))
  where
    go : (b : Bool) → IsRising (set_seen (if b then without_context j set else set))
    go true = subst IsRising (sym (without-seen j set)) (rising-remove j (set_seen set) r)
    go false = r

altered-rising : (a : Alteration) (answers : Answers) (set : List SetItem) → IsRising (set_seen set) → IsRising (set_seen (altered a answers set))
altered-rising a answers set r = deleted-rising a.delete answers.deleted (with_added a.add answers.added set) (added-rising a.add answers.added set r)

pub opened-rising : (ps : List Proposal) (answers : List AddAnswer) → IsRising (set_seen (with_added ps answers []))
opened-rising ps answers = added-rising ps answers [] tt

-- ---- a set that keeps the contexts of the association

pub record IsKept (first set : List SetItem) : Type 0 where
  pub keeps : Keeps first set
  pub rising : IsRising (set_seen set)

-- what marks saved, the oldest under number 0
abbrev pub MarksKept : List SetItem → List Saved → Type 0
MarksKept first [] = ⊥
MarksKept first (mark ∷ []) = (mark.number ≡ 0) × IsKept first mark.set
MarksKept first (mark ∷ more ∷ marks) = IsKept first mark.set × MarksKept first (more ∷ marks)

pub newest-kept : (first : List SetItem) (marks : List Saved) → MarksKept first marks → IsKept first (newest marks)
newest-kept first [] h = absurd h
newest-kept first (mark ∷ []) h = h.1
newest-kept first (mark ∷ more ∷ marks) h = h.0

pub marks-more : (first : List SetItem) (mark : Saved) (marks : List Saved) → IsKept first mark.set → MarksKept first marks → MarksKept first (mark ∷ marks)
marks-more first mark [] s h = absurd h
marks-more first mark (more ∷ marks) s h = (s, h)

pub below-kept : (first : List SetItem) (n : ℕ) (marks : List Saved) → 1 ≤ n → MarksKept first marks → MarksKept first (below n marks)
below-kept first n [] low h = absurd h
below-kept first n (mark ∷ []) low h = go (nat_lt mark.number n) (least mark.number n h.0 low)
  where
    least : (m n : ℕ) → m ≡ 0 → 1 ≤ n → nat_lt m n ≡ true
    least m n e l = grind (arith, nat_tests)

    go : (b : Bool) → b ≡ true → MarksKept first (if b then mark ∷ [] else [])
    go true e = h
    go false e = cc
below-kept first n (mark ∷ more ∷ marks) low h = go (below-kept first n (more ∷ marks) low h.1) (nat_lt mark.number n)
  where
    go : MarksKept first (below n (more ∷ marks)) → (b : Bool) → MarksKept first (if b then mark ∷ more ∷ marks else below n (more ∷ marks))
    go later true = h
    go later false = later

fixed-held : (first held : List SetItem) → Keeps first held → (k : ℕ) → is_fixed (pair_of first k) ≡ true → is_fixed (pair_of held k) ≡ true
fixed-held first held keeps k e = ap is_fixed (keeps k e) ∙ e

-- a peer's alteration as it is answered
pub answered-kept : (base : Base) (first : List SetItem) (body : Body) (a : Alteration) → is_faulty_proposal (not base.initiator) body.sets.held a.add ≡ false → IsKept first body.sets.held → IsKept first (altered a (policy base body a) body.sets.held)
answered-kept base first body a proposes h =
    record {
      keeps =
          λ k e.
          let fixed = fixed-held first body.sets.held h.keeps k e in
          others-altered a (policy base body a) body.sets.held k (unproposed (not base.initiator) body.sets.held k a.add proposes (fixed-there (pair_of body.sets.held k) fixed)) (fixed-unharmed body k a.delete fixed) ∙ h.keeps k e;
      rising = altered-rising a (policy base body a) body.sets.held h.rising;
    }

-- the oldest own alteration as it is answered
pub settled-kept : (first : List SetItem) (a : Alteration) (own : List Alteration) (answers : Answers) (set : List SetItem) → OwnSpares first (a ∷ own) → IsKept first set → IsKept first (altered a answers set)
settled-kept first a own answers set o h =
    record {
      keeps =
          λ k e.
          others-altered a answers set k (among-first k (proposed_ids a.add) a.delete (o.0 k e)) (unnamed-unharmed k a.delete answers.deleted (among-second k (proposed_ids a.add) a.delete (o.0 k e))) ∙ h.keeps k e;
      rising = altered-rising a answers set h.rising;
    }

-- ---- an accepted Alter spares what is fixed

none-first : (x y : Option CallRefusal) → or_else x y ≡ None → x ≡ None
none-first None y h = refl
none-first (Some refusal) y h = cc

none-second : (x y : Option CallRefusal) → or_else x y ≡ None → y ≡ None
none-second None y h = h
none-second (Some refusal) y h = cc

pub spared : (base : Base) (first : List SetItem) (body : Body) (a : Alteration) (answer : Option ℤ) → can_alter (at Direct base) body a ≡ Ok answer → Keeps first body.sets.held → (k : ℕ) → is_fixed (pair_of first k) ≡ true → is_among k (named_ids a) ≡ false
spared base first body a answer h keeps k e =
    let x = passed (not body.link.manages) refusals.NotNegotiated _ answer h in
    let y = passed (not (is_free body.link.awaits)) refusals.Waiting _ answer x.later in
    let u = passed (is_current is_ending body.sending.current) (refusals.Ending body.sending.started) _ answer y.later in
    let v = passed (nat_le most_alterations (length body.sets.own)) refusals.AlterPending _ answer u.later in
    let w = passed (is_bad a) refusals.BadProposal _ answer v.later in
    let none = (unrefused (alteration_refusal (at Direct base) body a) (Ok None) answer w.later).holds in
    let more = or_else (deletions_refusal body a.delete) (if is_set_full body a then Some refusals.SetFull else None) in
    let adds = none-first (additions_refusal (at Direct base) body a.add) more none in
    let deletes = none-first (deletions_refusal body a.delete) (if is_set_full body a then Some refusals.SetFull else None) (none-second (additions_refusal (at Direct base) body a.add) more none) in
    let fixed = fixed-held first body.sets.held keeps k e in
    among-append k (proposed_ids a.add) a.delete (unadded (at Direct base) body k a.add adds (fixed-there (pair_of body.sets.held k) fixed)) (undeleted body k a.delete deletes fixed)

pub spares-append : (first : List SetItem) (own : List Alteration) (a : Alteration) → OwnSpares first own → ((k : ℕ) → is_fixed (pair_of first k) ≡ true → is_among k (named_ids a) ≡ false) → OwnSpares first (own ++ a ∷ [])
spares-append first [] a h n = (n, tt)
spares-append first (x ∷ own) a h n = (h.0, spares-append first own a h.1 n)

-- ---- the carrier of a loose context

pub carrier-loose : (name : List ℕ) (first held : List SetItem) (own : List Alteration) (c k : ℕ) → IsKept first held → IsLoose name first c → carrier name held own c ≡ Some k → IsLoose name first k
carrier-loose name first held own c k h loose e = go (may_send held own c) e
  where
    go : (b : Bool) → (if b then Some c else lowest_with name own held) ≡ Some k → IsLoose name first k
    go true e = let same : c ≡ k = cc in subst (IsLoose name first) same loose
    go false e =
        let has = lowest-found name own k held h.rising e in
        let p = has-pair name held k has in
        module-loose name first held k p.0 h.keeps p.1 (one-name p.0.abstract_name name (ap (has_abstract name) (sym p.1) ∙ has))

-- ---- what is heard

abbrev HeardLoose : List ℕ → List SetItem → Heard → Type 0
HeardLoose name first heard = OpensLoose name first heard.calls.opens

module _ (name : List ℕ) (first : List SetItem) (base : Base) (calls : Calls) (loose : OpensLoose name first calls.opens) where
  unless-loose : (p : Option ℕ) (refused : ℕ → Heard) (heard : Heard) → ((n : ℕ) → HeardLoose name first (refused n)) → HeardLoose name first heard → HeardLoose name first (unless_problem p refused heard)
  unless-loose None refused heard f h = h
  unless-loose (Some n) refused heard f h = f n

  close-loose : (own : Bool) (id : ℤ) → OpensLoose name first (close own id calls).opens
  close-loose own id = closed-loose name first own id calls.opens loose

  invoked-loose : (context : ℕ) (id : ℤ) (linked : Option ℤ) (place : Option ℕ) (argument : Carried) → IsLoose name first context → HeardLoose name first (invoked base calls context id linked place argument)
  invoked-loose context id linked None argument l = loose
  invoked-loose context id linked (Some place) argument l = opened-loose name first base _ calls loose l

  result-loose : (id : ℤ) (o : Option OpenCall) (code : Option Code) (value : Carried) → HeardLoose name first (hear_result_of base calls id o code value)
  result-loose id None code value = loose
  result-loose id (Some o) code value = unless-loose (result_problem base o.operation (operation_at base.tables o.operation) code value) _ _ (λ n. close-loose true id) (close-loose true id)

  told-loose : (id : ℤ) (place : Option ℕ) (parameter : Carried) → HeardLoose name first (showing_error (close true id calls) id place parameter)
  told-loose id None parameter = close-loose true id
  told-loose id (Some place) parameter = close-loose true id

  error-loose : (id : ℤ) (o : Option OpenCall) (place : Option ℕ) (parameter : Carried) → HeardLoose name first (hear_error_of base calls id o place parameter)
  error-loose id None place parameter = loose
  error-loose id (Some o) place parameter = unless-loose (error_problem base (operation_at base.tables o.operation) place parameter) _ _ (λ n. close-loose true id) (told-loose id place parameter)

  reject-loose : (id : Option ℤ) (problem : Problem) → HeardLoose name first (hear_reject calls id problem)
  reject-loose None problem = loose
  reject-loose (Some id) problem = go (is_of_invocation problem.kind && is_some (opened_with true id calls.opens))
    where
      go : (b : Bool) → HeardLoose name first (if b then showing (close true id calls) (indications.Rejected id problem) else showing calls (indications.RejectTaken (Some id) problem))
      go true = close-loose true id
      go false = loose

  pub apdu-loose : (context : ℕ) (apdu : Apdu) → IsLoose name first context → OpensLoose name first (hear base calls context (head_of_apdu apdu)).calls.opens
  apdu-loose context (apdus.Invoke id linked code argument) l =
      unless-loose (invoke_problem base calls id linked (operation_with base.tables code) (carried_in argument)) _ _ (λ n. loose) (invoked-loose context id linked (operation_with base.tables code) (carried_in argument) l)
  apdu-loose context (apdus.Result id returned) l = result-loose id (opened_with true id calls.opens) (code_returned returned) (value_returned returned)
  apdu-loose context (apdus.Error id code parameter) l = error-loose id (opened_with true id calls.opens) (error_with base.tables code) (carried_in parameter)
  apdu-loose context (apdus.Reject id problem) l = reject-loose id problem
