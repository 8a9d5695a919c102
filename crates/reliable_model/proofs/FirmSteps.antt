-- Calls, acts, takings and breaks of an end of reliable mode leave the contexts of the association in each of its sets.
use Rattle.std.proofs.Common.{◌≡◌, refl, true, false, ◌∙◌, sym, ap, subst, arith, ℕ, suc, ◌≤◌, List, [], ◌∷◌, ◌++◌, length}
use Rattle.std.specs.Prelude.{ℤ, Bool, not, ◌&&◌, ◌||◌, Option, Some, None, Ok, nat_eq, nat_le, if◌then◌else◌}
use Rattle.std.proofs.lemmas.Bool.Decides.{nat_tests}
use Rattle.osi_base.specs.declared.layer_words.SetItem.{SetItem}
use Rattle.osi_base.specs.declared.layer_words.Answers.{Answers}
use Rattle.osi_base.specs.Limits.{most_marks, most_alterations}
use Rattle.asn1_types.specs.declared.value.Val.{Val}
use Rattle.stub_tables.specs.declared.apdu.Apdu.{Apdu}
use Rattle.stub_tables.specs.declared.operation.Operation.{Operation}
use Rattle.stub_tables.specs.Lookup.{operation_at, error_at}
use Rattle.end_model.specs.dialogue.declared.config.Mode.TheVariants.{Reliable}
use Rattle.end_model.specs.dialogue.declared.call.Call.{Call}
use Rattle.end_model.specs.dialogue.declared.call.Call.TheVariants as the_calls
use Rattle.end_model.specs.dialogue.declared.call.CallRefusal.{CallRefusal}
use Rattle.end_model.specs.dialogue.declared.call.CallRefusal.TheVariants as refusals
use Rattle.end_model.specs.end_rules.Base.{Base, Fault, Arrived}
use Rattle.end_model.specs.end_rules.Sets.{Alteration, is_among, named_ids, proposed_ids, is_fixed, altered}
use Rattle.osi_base.specs.SetPlaces.{pair_of}
use Rattle.end_model.specs.end_rules.Messages.{DataValue, Word, OfAssociation, OfData, OfMarks, OfActivities, Finish, Disconnect}
use Rattle.end_model.specs.end_rules.Messages.{Abort, Values, AlterContext, AlterContextAck, Mark, MarkAck, Please, GiveConfirm, GiveAck, Start, Resume}
use Rattle.end_model.specs.end_rules.Messages.{End, EndAck, Interrupt, InterruptAck, Discard, DiscardAck, Session, unit_of}
use Rattle.end_model.specs.end_rules.State.{Body, Link, Sets, Calls, Sending, OpenCall, Octets, Marked, Suspended, Ending, Transfer, Receiving, opened_with}
use Rattle.end_model.specs.end_rules.State.{highest, pieces_of, confirmed_of, up_to, is_free, is_current, is_ending, is_carrying, on_transfer, is_suspended, between}
use Rattle.end_model.specs.end_rules.Invoking.{is_stopped, can_invoke}
use Rattle.end_model.specs.end_rules.Altering.{additions_refusal, deletions_refusal, alteration_refusal, is_bad, is_set_full, or_else, can_alter}
use Rattle.end_model.specs.end_rules.Calling.{can_mark, can_by_rows, can_call}
use Rattle.end_model.specs.end_rules.Writing.{user_abort}
use Rattle.end_model.specs.end_rules.Requesting.{after_invoke, due_invoke, after_outcome, due_outcome, result_in, error_for, resumed}
use Rattle.end_model.specs.end_rules.ByItself.{OwnAct, next_own, item_on, encoded_as}
use Rattle.end_model.specs.end_rules.InPlace.{is_in_place, is_next_confirmed, may_resume_at}
use Rattle.end_model.specs.end_rules.Policy.{policy, is_faulty_proposal}
use Rattle.end_model.specs.end_rules.Faults.{fault_if, or_fault, session_fault, over, unexpected_ppdu, invalid_ppdu}
use Rattle.end_model.specs.end_rules.TakesData.{with_parts, alteration, alter_fault, settled, part_in}
use Rattle.end_model.specs.end_rules.TakesActivities.{arrived_now, values_arrived, invocation_in, cut_invocation, resumed_record, started_record, received}
use Rattle.end_model.specs.end_rules.Hearing.{take_values}
use Rattle.end_model.specs.end_rules.Reacting.{word_fault, fault_above, after_word}
use Rattle.end_model.specs.end_rules.History.{after_step, step_of, after_broke}
use Rattle.end_model.specs.Rows.{at}
use Rattle.end_model.specs.Requests.{sent_all, after_called}
use Rattle.end_model.proofs.Ladder.{passed, unrefused, called}
use Rattle.end_model.proofs.InvokeRungs.{invokable}
use Rattle.end_model.proofs.OwnActs.{leading}
use Rattle.reliable_model.proofs.Words.{OwnWord}
use Rattle.reliable_model.proofs.Fixed.{fixed-there, others-altered, unnamed-unharmed, fixed-unharmed, unproposed, unadded, undeleted}
use Rattle.reliable_model.proofs.Fixed.{among-append, among-first, among-second}
use Rattle.reliable_model.proofs.Firm.{Keeps, IsLoose, PiecesKeep, OwnSpares, OpensLoose, QueueLoose, CurrentKeeps, Firm}
use Rattle.reliable_model.proofs.Firm.{on-module_loose, queue-append, opened-loose, closed-loose, found-loose, changed-firm, back-keeps, back-set}
use Rattle.reliable_model.proofs.Firm.{resumed-keeps, current-pieces, begun-current, context_of, arrived-firm}
use Rattle.reliable_model.proofs.OwnRows.{Kind, StartsNext, EncodesIt, MarksIt, EndsIt, GivesPart, kind}

none-first : (x y : Option Fault) → or_fault x y ≡ None → x ≡ None
none-first None y h = refl
none-first (Some fault) y h = cc

none-second : (x y : Option Fault) → or_fault x y ≡ None → y ≡ None
none-second None y h = h
none-second (Some fault) y h = cc

no-fault : (b : Bool) (fault : Fault) → fault_if b fault ≡ None → b ≡ false
no-fault true fault h = cc
no-fault false fault h = refl

no-fault_not : (b : Bool) (fault : Fault) → fault_if (not b) fault ≡ None → b ≡ true
no-fault_not true fault h = refl
no-fault_not false fault h = cc

pub in-place : (base : Base) (body : Body) (word : Word) → word_fault base body word ≡ None → is_in_place base body (unit_of word) ≡ true
in-place base body word h =
    no-fault_not (is_in_place base body (unit_of word)) session_fault (none-first (fault_if (not (is_in_place base body (unit_of word))) session_fault) (fault_above base body word) h)

pub nothing-above : (base : Base) (body : Body) (word : Word) → word_fault base body word ≡ None → fault_above base body word ≡ None
nothing-above base body word h = none-second (fault_if (not (is_in_place base body (unit_of word))) session_fault) (fault_above base body word) h

and-left : (a b : Bool) → (a && b) ≡ true → a ≡ true
and-left true b h = refl
and-left false b h = cc

and-right : (a b : Bool) → (a && b) ≡ true → b ≡ true
and-right true b h = h
and-right false b h = cc

eq-same : (a b : ℕ) → nat_eq a b ≡ true → a ≡ b
eq-same a b h = grind (arith, nat_tests)

le-so : (a b : ℕ) → nat_le a b ≡ true → a ≤ b
le-so a b h = grind (arith, nat_tests)

-- an accepted Alter is of identifiers of contexts, and spares what is fixed
pub record Alterable (base : Base) (body : Body) (a : Alteration) : Type 0 where
  pub good : is_bad a ≡ false
  pub unrefused : alteration_refusal (at Reliable base) body a ≡ None

pub alterable : (base : Base) (body : Body) (a : Alteration) (answer : Option ℤ) → can_alter (at Reliable base) body a ≡ Ok answer → Alterable base body a
alterable base body a answer h =
    let x = passed (not body.link.manages) refusals.NotNegotiated _ answer h in
    let y = passed (not (is_free body.link.awaits)) refusals.Waiting _ answer x.later in
    let z = passed (not body.link.turn) refusals.NoTurn _ answer y.later in
    let u = passed (is_current is_ending body.sending.current) (refusals.Ending body.sending.started) _ answer z.later in
    let v = passed (nat_le most_alterations (length body.sets.own)) refusals.AlterPending _ answer u.later in
    let w = passed (is_bad a) refusals.BadProposal _ answer v.later in
    record { good = w.holds; unrefused = (unrefused (alteration_refusal (at Reliable base) body a) (Ok None) answer w.later).holds }

module _ (first : List SetItem) (base : Base) where
  abbrev name : List ℕ
  name = base.tables.name_oid

  abbrev b : Base
  b = at Reliable base

  fixed-held : (body : Body) → Firm name first body → (k : ℕ) → is_fixed (pair_of first k) ≡ true → is_fixed (pair_of body.sets.held k) ≡ true
  fixed-held body h k e = ap is_fixed (h.held k e) ∙ e

  -- the same but for what is said of it anew
  pub linked : (body later : Body) → later.sets ≡ body.sets → later.calls ≡ body.calls → later.sending ≡ body.sending → later.receiving.pieces ≡ body.receiving.pieces → Firm name first body → Firm name first later
  linked body later s c o r h =
      record {
        held = subst (λ (x : Sets). Keeps first x.held) (sym s) h.held;
        inter = subst (λ (x : Sets). Keeps first x.inter) (sym s) h.inter;
        own = subst (λ (x : Sets). OwnSpares first x.own) (sym s) h.own;
        opens = subst (λ (x : Calls). OpensLoose name first x.opens) (sym c) h.opens;
        queue = subst (λ (x : Sending). QueueLoose name first x.queue) (sym o) h.queue;
        current = subst (λ (x : Sending). CurrentKeeps name first x.current) (sym o) h.current;
        came = subst (PiecesKeep first) (sym r) h.came;
      }

  -- ---- calls

  queued-firm : (body : Body) (opens : List OpenCall) (made context : ℕ) (apdu : Apdu) → OpensLoose name first opens → IsLoose name first context → Firm name first body → Firm name first (record body { calls = record { opens = opens; made = made }; sending = record body.sending { queue = body.sending.queue ++ record { context = context; apdu = apdu } ∷ [] } })
  queued-firm body opens made context apdu o l h =
      record { held = h.held; inter = h.inter; own = h.own; opens = o; queue = queue-append name first body.sending.queue (_ ∷ []) h.queue (l, tt); current = h.current; came = h.came }

  invoke-firm : (body : Body) (context place : ℕ) (id : ℤ) (linked_to : Option ℤ) (o : Option Operation) (argument : Option Val) → IsLoose name first context → Firm name first body → Firm name first (sent_all Reliable (after_invoke b body context place id linked_to o argument) (due_invoke b body context id linked_to o argument))
  invoke-firm body context place id linked_to None argument l h = h
  invoke-firm body context place id linked_to (Some operation) argument l h =
      queued-firm body _ _ context _ (opened-loose name first b _ (record body.calls { made = suc body.calls.made }) h.opens l) l h

  outcome-firm : (body : Body) (id : ℤ) (o : Option OpenCall) (apdu : Option Apdu) → opened_with false id body.calls.opens ≡ o → Firm name first body → Firm name first (sent_all Reliable (after_outcome b body id o apdu) (due_outcome b body o apdu))
  outcome-firm body id None None e h = h
  outcome-firm body id None (Some apdu) e h = h
  outcome-firm body id (Some o) None e h = h
  outcome-firm body id (Some o) (Some apdu) e h =
      queued-firm body _ _ o.context apdu (closed-loose name first false id body.calls.opens h.opens) (found-loose name first false id body.calls.opens o h.opens e) h

  abort-firm : (body : Body) (c : Bool) → Firm name first body → Firm name first (sent_all Reliable (over body) (if c then user_abort body.link.accepted 0 [] ∷ [] else []))
  abort-firm body true h = record { held = h.held; inter = h.inter; own = h.own; opens = tt; queue = h.queue; current = h.current; came = h.came }
  abort-firm body false h = record { held = h.held; inter = h.inter; own = h.own; opens = tt; queue = h.queue; current = h.current; came = h.came }

  own-append : (own : List Alteration) (a : Alteration) → OwnSpares first own → ((k : ℕ) → is_fixed (pair_of first k) ≡ true → is_among k (named_ids a) ≡ false) → OwnSpares first (own ++ a ∷ [])
  own-append [] a h n = (n, tt)
  own-append (x ∷ own) a h n = (h.0, own-append own a h.1 n)

  or-first : (x y : Option CallRefusal) → or_else x y ≡ None → x ≡ None
  or-first None y h = refl
  or-first (Some refusal) y h = cc

  or-second : (x y : Option CallRefusal) → or_else x y ≡ None → y ≡ None
  or-second None y h = h
  or-second (Some refusal) y h = cc

  spared : (body : Body) (a : Alteration) → alteration_refusal b body a ≡ None → Firm name first body → (k : ℕ) → is_fixed (pair_of first k) ≡ true → is_among k (named_ids a) ≡ false
  spared body a h f k e =
      let more = or_else (deletions_refusal body a.delete) (if is_set_full body a then Some refusals.SetFull else None) in
      let adds = or-first (additions_refusal b body a.add) more h in
      let deletes = or-first (deletions_refusal body a.delete) (if is_set_full body a then Some refusals.SetFull else None) (or-second (additions_refusal b body a.add) more h) in
      let fixed = fixed-held body f k e in
      among-append k (proposed_ids a.add) a.delete (unadded b body k a.add adds (fixed-there (pair_of body.sets.held k) fixed)) (undeleted body k a.delete deletes fixed)

  no-mark : (body : Body) (answer : Option ℤ) → can_mark b body ≡ Ok answer → ⊥
  no-mark body answer h = cc

  resume-firm : (body : Body) → Firm name first body → Firm name first (sent_all Reliable body (Session (OfActivities (Resume body.sending.started (confirmed_of body.sending.current))) ∷ []))
  resume-firm body h =
      let c = current-pieces name first body.sending.current h.current in
      let r = changed-firm name first resumed body (λ t e k. resumed-keeps name first t k) h in
      record {
        held = back-set first (confirmed_of body.sending.current) (pieces_of body.sending.current) body.sets.held c.0 c.1 h.held;
        inter = h.held;
        own = h.own;
        opens = h.opens;
        queue = r.queue;
        current = r.current;
        came = h.came;
      }

  discard-firm : (body : Body) → Firm name first body → Firm name first (on_transfer (λ (t : Transfer). record t { confirmed = 0 }) body)
  discard-firm body h = changed-firm name first (λ (t : Transfer). record t { confirmed = 0 }) body (λ t e k. record { loose = k.loose; pieces = k.pieces; confirmed = omega arith }) h

  pub called-firm : (body : Body) (call : Call) (answer : Option ℤ) → Firm name first body → can_call b body call ≡ Ok answer → Firm name first (after_called Reliable base body call answer)
  called-firm body call answer h can = go call (called b body call answer can).rows
    where
      rest : (later : Body) → later.sets ≡ body.sets → later.calls ≡ body.calls → later.sending ≡ body.sending → later.receiving.pieces ≡ body.receiving.pieces → Firm name first later
      rest later s c o r = linked body later s c o r h

      invokes : (context operation : ℕ) (argument : Option Val) (link : Option ℤ) (answer : Option ℤ) → can_invoke b body context operation argument link ≡ Ok answer → Firm name first (after_called Reliable base body (the_calls.Invoke context operation argument link) answer)
      invokes context operation argument link None e = h
      invokes context operation argument link (Some id) e =
          let p = passed (is_stopped b body) refusals.Waiting _ (Some id) e in
          let i = invokable b body context operation (operation_at base.tables operation) argument link (Some id) p.later in
          invoke-firm body context operation id link (operation_at base.tables operation) argument (on-module_loose b first body context h.held i.on_module) h

      go : (call : Call) → can_by_rows b body call ≡ Ok answer → Firm name first (after_called Reliable base body call answer)
      go the_calls.Open e = rest _ refl refl refl refl
      go (the_calls.Invoke context operation argument link) e = invokes context operation argument link answer e
      go (the_calls.Answer id result) e = outcome-firm body id (opened_with false id body.calls.opens) (result_in b body id result) refl h
      go (the_calls.Refuse id error parameter) e = outcome-firm body id (opened_with false id body.calls.opens) (error_for id parameter (error_at base.tables error)) refl h
      go (the_calls.Alter add delete) e =
          record {
            held = h.held;
            inter = h.inter;
            own = own-append body.sets.own (alteration add delete) h.own (spared body (alteration add delete) (alterable base body (alteration add delete) answer e).unrefused h);
            opens = h.opens;
            queue = h.queue;
            current = h.current;
            came = h.came;
          }
      go the_calls.Mark e = absurd (no-mark body answer e)
      go the_calls.Give e = rest _ refl refl refl refl
      go (the_calls.Please priority) e = rest _ refl refl refl refl
      go (the_calls.Resync n) e = rest _ refl refl refl refl
      go the_calls.Interrupt e = rest _ refl refl refl refl
      go the_calls.Resume e = resume-firm body h
      go the_calls.Discard e =
          linked (on_transfer (λ (t : Transfer). record t { confirmed = 0 }) body) _ refl refl refl refl (discard-firm body h)
      go the_calls.Recover e = rest _ refl refl refl refl
      go the_calls.Release e = rest _ refl refl refl refl
      go the_calls.Abort e = abort-firm body (is_carrying body.link.stage) h

  -- ---- what an end does by itself

  one-transfer : (s t : Transfer) → Some s ≡ Some t → s ≡ t
  one-transfer s t h = cc

  pub own-firm : (body : Body) (own : OwnAct) → Firm name first body → next_own b body ≡ Some own → Firm name first (after_step b body (step_of own))
  own-firm body own h next = go (kind base body own body.sending.current refl (leading base body own next).next)
    where
      go : Kind body own → Firm name first (after_step b body (step_of own))
      go (StartsNext item items e q is) =
          subst (λ o. Firm name first (after_step b body (step_of o))) (sym is)
          (let x = begun-current name first body.sending.queue body.sending.started body.sending.current h.queue in
          record { held = h.held; inter = h.held; own = h.own; opens = h.opens; queue = x.0; current = x.1; came = h.came })
      go (EncodesIt t context e d is) =
          subst (λ o. Firm name first (after_step b body (step_of o))) (sym is)
          (changed-firm name first (λ u. record u { encoded = encoded_as b body (item_on context u.item (pair_of body.sets.held context)) }) body (λ u e k. record { loose = k.loose; pieces = k.pieces; confirmed = k.confirmed }) h)
      go (MarksIt t e s ends more is) =
          subst (λ o. Firm name first (after_step b body (step_of o))) (sym is)
          (changed-firm name first (λ (u : Transfer). record u { pieces = Marked (suc (highest t.pieces)) body.sets.held ∷ u.pieces }) body
          (λ u d k.
          let same : t ≡ u = one-transfer t u (sym s.is_it ∙ d) in
          let number : suc (highest t.pieces) ≡ suc (highest u.pieces) = ap (λ (v : Transfer). suc (highest v.pieces)) same in
          let low : u.confirmed ≤ suc (highest t.pieces) = let c : u.confirmed ≤ highest u.pieces = k.confirmed in omega arith in
          record { loose = k.loose; pieces = (h.held, number, k.pieces); confirmed = low }) h)
      go (EndsIt t e s none is) =
          subst (λ o. Firm name first (after_step b body (step_of o))) (sym is)
          (changed-firm name first (λ (u : Transfer). record u { progress = Ending }) body (λ u d k. record { loose = k.loose; pieces = k.pieces; confirmed = k.confirmed }) h)
      go (GivesPart t e s more is) =
          subst (λ o. Firm name first (after_step b body (step_of o))) (sym is)
          (changed-firm name first (λ (u : Transfer). record u { pieces = Octets _ ∷ u.pieces }) body (λ u d k. record { loose = k.loose; pieces = k.pieces; confirmed = k.confirmed }) h)

  -- ---- takings, where the association stands

  parts-firm : (values : List DataValue) (body : Body) → Firm name first body → Firm name first (with_parts values body)
  parts-firm [] body h = h
  parts-firm (value ∷ values) body h =
      parts-firm values (record body { receiving = record body.receiving { pieces = Octets (part_in value.content) ∷ body.receiving.pieces } })
      (record { held = h.held; inter = h.inter; own = h.own; opens = h.opens; queue = h.queue; current = h.current; came = h.came })

  alter-firm : (body : Body) (a : Alteration) → alter_fault b body a.add ≡ None → Firm name first body → Firm name first (record body { sets = record body.sets { held = altered a (policy b body a) body.sets.held } })
  alter-firm body a fine h =
      record {
        held =
            λ k e.
            let fixed = fixed-held body h k e in
            others-altered a (policy b body a) body.sets.held k (unproposed (not base.initiator) body.sets.held k a.add proposes (fixed-there (pair_of body.sets.held k) fixed)) (fixed-unharmed body k a.delete fixed) ∙ h.held k e;
        inter = h.inter;
        own = h.own;
        opens = h.opens;
        queue = h.queue;
        current = h.current;
        came = h.came;
      }
    where
      proposes : is_faulty_proposal (not base.initiator) body.sets.held a.add ≡ false
      proposes =
          no-fault (is_faulty_proposal (not base.initiator) body.sets.held a.add) invalid_ppdu
          (none-second (fault_if (not body.link.manages || true && body.link.turn) unexpected_ppdu) (fault_if (is_faulty_proposal (not base.initiator) body.sets.held a.add) invalid_ppdu) fine)

  settled-firm : (body : Body) (own : List Alteration) (answers : Answers) → OwnSpares first own → Firm name first body → Firm name first (settled own answers body)
  settled-firm body [] answers o h = h
  settled-firm body (a ∷ own) answers o h =
      record {
        held =
            λ k e.
            others-altered a answers body.sets.held k (among-first k (proposed_ids a.add) a.delete (o.0 k e)) (unnamed-unharmed k a.delete answers.deleted (among-second k (proposed_ids a.add) a.delete (o.0 k e))) ∙ h.held k e;
        inter = h.inter;
        own = o.1;
        opens = h.opens;
        queue = h.queue;
        current = h.current;
        came = h.came;
      }

  -- the receiving is as an interrupt, a discard or a start leaves it
  between-firm : (body : Body) (receiving : Receiving) → PiecesKeep first receiving.pieces → Firm name first body → Firm name first (record body { sets = record body.sets { held = body.sets.inter }; receiving = receiving })
  between-firm body receiving p h = record { held = h.inter; inter = h.inter; own = h.own; opens = h.opens; queue = h.queue; current = h.current; came = p }

  cut-loose : (id : Option ℤ) (body : Body) → Firm name first body → OpensLoose name first (cut_invocation id body.calls).opens
  cut-loose None body h = h.opens
  cut-loose (Some id) body h = closed-loose name first true id body.calls.opens h.opens

  record Confirms (body : Body) (number : ℕ) : Type 0 where
    high : (t : Transfer) → body.sending.current ≡ Some t → number ≤ highest t.pieces

  confirms : (body : Body) (number : ℕ) (c : Option Transfer) → body.sending.current ≡ c → is_next_confirmed c number ≡ true → Confirms body number
  confirms body number None e h = cc
  confirms body number (Some u) e h =
      let low : number ≤ highest u.pieces = le-so number (highest u.pieces) (and-right (not (is_suspended u.progress) && nat_eq number (suc u.confirmed)) (nat_le number (highest u.pieces)) h) in
      record { high = λ t d. subst (λ (v : Transfer). number ≤ highest v.pieces) (one-transfer u t (sym e ∙ d)) low }

  at-mark : (r : Receiving) (activity mark : ℕ) → may_resume_at r activity mark ≡ true → mark ≤ highest r.pieces
  at-mark r activity mark h = go (nat_eq activity r.last) (nat_le mark (highest r.pieces)) refl h
    where
      none : (m : ℕ) → nat_eq m 0 ≡ true → m ≤ highest r.pieces
      none m e = grind (arith, nat_tests)

      go : (x y : Bool) → nat_le mark (highest r.pieces) ≡ y → (x && y || nat_eq activity (suc r.last) && nat_eq mark 0) ≡ true → mark ≤ highest r.pieces
      go true true e h = le-so mark (highest r.pieces) e
      go true false e h = none mark (and-right (nat_eq activity (suc r.last)) (nat_eq mark 0) h)
      go false y e h = none mark (and-right (nat_eq activity (suc r.last)) (nat_eq mark 0) h)

  resumed-came : (r : Receiving) (activity mark : ℕ) → PiecesKeep first r.pieces → PiecesKeep first (resumed_record activity mark r).pieces
  resumed-came r activity mark h = go (nat_eq activity r.last)
    where
      go : (c : Bool) → PiecesKeep first (if c then record r { pieces = up_to mark r.pieces; active = true } else started_record activity).pieces
      go true = back-keeps first mark r.pieces h
      go false = tt

  -- what arrives is on loose contexts
  abbrev pub ArrivesLoose : Body → Type 0
  ArrivesLoose body = body.receiving.was_handed ≡ false → (arrived : Arrived) → arrived_now base body ≡ Ok arrived → IsLoose name first (context_of arrived)

  abbrev pub ArrivesIn : Body → Word → Type 0
  ArrivesIn body (OfActivities (End number)) = ArrivesLoose body
  ArrivesIn body word = Unit {0}

  end-firm : (body : Body) (number : ℕ) → ArrivesLoose body → Firm name first body → Firm name first (after_word b body (OfActivities (End number)))
  end-firm body number f h = go body.receiving.was_handed refl
    where
      ended : Body
      ended = received (λ r. record r { was_handed = true; active = false }) body

      ended-so : Firm name first ended
      ended-so = record { held = h.held; inter = h.inter; own = h.own; opens = h.opens; queue = h.queue; current = h.current; came = h.came }

      later : (x : Body) → Firm name first x → Firm name first (between x)
      later x k = record { held = k.inter; inter = k.inter; own = k.own; opens = k.opens; queue = k.queue; current = k.current; came = k.came }

      go : (w : Bool) → body.receiving.was_handed ≡ w → Firm name first (between (take_values b ended (if w then [] else values_arrived (arrived_now b body))).body)
      go true e = later ended ended-so
      go false e = later _ (arrived-firm name first base ended (arrived_now b body) (f e) ended-so)

  pub word-firm : (body : Body) (word : Word) → OwnWord word → word_fault b body word ≡ None → ArrivesIn body word → Firm name first body → Firm name first (after_word b body word)
  word-firm body word own fine f h = go word own (in-place b body word fine) (nothing-above b body word fine) f
    where
      rest : (later : Body) → later.sets ≡ body.sets → later.calls ≡ body.calls → later.sending ≡ body.sending → later.receiving.pieces ≡ body.receiving.pieces → Firm name first later
      rest later s c o r = linked body later s c o r h

      gone : (link : Link) → Firm name first (record body { link = link; calls = record body.calls { opens = [] } })
      gone link = record { held = h.held; inter = h.inter; own = h.own; opens = tt; queue = h.queue; current = h.current; came = h.came }

      go : (word : Word) → OwnWord word → is_in_place b body (unit_of word) ≡ true → fault_above b body word ≡ None → ArrivesIn body word → Firm name first (after_word b body word)
      go (OfAssociation (Finish transport values)) own in_place above f = gone _
      go (OfAssociation (Disconnect values)) own in_place above f = gone _
      go (OfAssociation (Abort transport user)) own in_place above f = gone _
      go (OfData (Values values)) own in_place above f = parts-firm values body h
      go (OfData (AlterContext add delete)) own in_place above f = alter-firm body (alteration add delete) above h
      go (OfData (AlterContextAck answers)) own in_place above f = settled-firm body body.sets.own answers h.own h
      go (OfMarks (Mark number)) own in_place above f =
          record {
            held = h.held;
            inter = h.inter;
            own = h.own;
            opens = h.opens;
            queue = h.queue;
            current = h.current;
            came = (h.held, marked number in_place, h.came);
          }
        where
          marked : (number : ℕ) → is_in_place b body (unit_of (OfMarks (Mark number))) ≡ true → number ≡ suc (highest body.receiving.pieces)
          marked number e = eq-same number (suc (highest body.receiving.pieces)) (and-right _ (nat_eq number (suc (highest body.receiving.pieces))) (and-left _ (nat_le number most_marks) e))
      go (OfMarks (MarkAck number)) own in_place above f =
          let c = confirms body number body.sending.current refl (and-right _ (is_next_confirmed body.sending.current number) in_place) in
          changed-firm name first (λ (t : Transfer). record t { confirmed = number }) body (λ t e k. record { loose = k.loose; pieces = k.pieces; confirmed = c.high t e }) h
      go (OfMarks (Please (Some tokens) values)) own in_place above f = h
      go (OfMarks GiveConfirm) own in_place above f = rest _ refl refl refl refl
      go (OfMarks GiveAck) own in_place above f = rest _ refl refl refl refl
      go (OfActivities (Start activity)) own in_place above f =
          record { held = h.held; inter = h.held; own = h.own; opens = h.opens; queue = h.queue; current = h.current; came = tt }
      go (OfActivities (Resume activity mark)) own in_place above f =
          record {
            held = back-set first mark body.receiving.pieces body.sets.held h.came (at-mark body.receiving activity mark (and-right _ (may_resume_at body.receiving activity mark) in_place)) h.held;
            inter = h.held;
            own = h.own;
            opens = h.opens;
            queue = h.queue;
            current = h.current;
            came = resumed-came body.receiving activity mark h.came;
          }
      go (OfActivities (End number)) own in_place above f = end-firm body number f h
      go (OfActivities (EndAck number)) own in_place above f = record { held = h.inter; inter = h.inter; own = h.own; opens = h.opens; queue = h.queue; current = tt; came = h.came }
      go (OfActivities (Interrupt reason)) own in_place above f = between-firm body _ h.came h
      go (OfActivities InterruptAck) own in_place above f =
          let s = changed-firm name first (λ (t : Transfer). record t { progress = Suspended }) body (λ t e k. record { loose = k.loose; pieces = k.pieces; confirmed = k.confirmed }) h in
          record { held = h.inter; inter = h.inter; own = tt; opens = h.opens; queue = s.queue; current = s.current; came = h.came }
      go (OfActivities (Discard reason)) own in_place above f = between-firm body _ tt h
      go (OfActivities DiscardAck) own in_place above f =
          record { held = h.inter; inter = h.inter; own = tt; opens = cut-loose (invocation_in body.sending.current) body h; queue = h.queue; current = tt; came = h.came }
      go word own in_place above f = absurd own

  -- ---- breaks

  pub broke-firm : (body : Body) → Firm name first body → Firm name first (after_broke b body)
  broke-firm body h =
      let s = changed-firm name first (λ (t : Transfer). record t { progress = Suspended }) body (λ t e k. record { loose = k.loose; pieces = k.pieces; confirmed = k.confirmed }) h in
      record { held = h.held; inter = h.inter; own = h.own; opens = h.opens; queue = s.queue; current = s.current; came = h.came }
