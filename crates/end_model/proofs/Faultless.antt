-- A word without a fault may be taken.
use Rattle.std.proofs.Common.{◌≡◌, refl, true, false, ◌∙◌, sym, ap, subst, arith, ℕ, suc, ◌≤◌, ◌%◌}
use Rattle.std.proofs.Common.{List, [], ◌∷◌, ◌++◌, map, length}
use Rattle.std.specs.Prelude.{Bool, not, ◌&&◌, ◌||◌, Option, Some, None, is_some, option_map}
use Rattle.std.specs.Prelude.{if◌then◌else◌, nat_eq, nat_le, nat_lt}
use Rattle.std.specs.List.{list_any}
use Rattle.std.proofs.lemmas.Bool.Decides.{nat_tests}
use Rattle.osi_base.specs.declared.syntax.Pair.{Pair}
use Rattle.osi_base.specs.declared.layer_words.SetItem.{SetItem}
use Rattle.osi_base.specs.declared.layer_words.Proposal.{Proposal}
use Rattle.osi_base.specs.declared.layer_words.Answers.{Answers}
use Rattle.osi_base.specs.declared.layer_words.RestoredItem.{RestoredItem}
use Rattle.osi_base.specs.declared.layer_words.Layer.TheVariants.{Presentation}
use Rattle.osi_base.specs.Limits.{most_marks, most_transferred}
use Rattle.dialogue.specs.declared.indication.Indication.TheVariants.{RestoredListDiffers}
use Rattle.dialogue.specs.declared.config.Mode.{Mode}
use Rattle.dialogue.specs.declared.config.Mode.TheVariants.{Direct, Reliable}
use Rattle.dialogue.specs.declared.config.Phase.TheVariants.{Up}
use Rattle.end_rules.specs.Base.{Base, Fault}
use Rattle.end_rules.specs.State.{Body, Awaited, NoAnswer, RestartOf, InterruptOf, DiscardOf}
use Rattle.end_rules.specs.State.{ReleaseOf, Transfer, Progress, Running, Ending, Suspended, is_up}
use Rattle.end_rules.specs.State.{highest, joined, is_suspended}
use Rattle.end_rules.specs.Sets.{Alteration, is_among, same_name, same_lists, listed}
use Rattle.osi_base.specs.SetPlaces.{pair_of}
use Rattle.end_rules.specs.Sets.{has_parity, proposed_ids, next_number, fit_alteration}
use Rattle.end_rules.specs.Altering.{has_double}
use Rattle.end_rules.specs.Policy.{is_faulty_proposal}
use Rattle.end_rules.specs.Units.{has_marks, has_restarts, has_typed_data, has_activities}
use Rattle.end_rules.specs.Units.{has_token}
use Rattle.end_rules.specs.Faults.{or_fault, fault_if, session_fault, unexpected_ppdu, invalid_ppdu}
use Rattle.end_rules.specs.Faults.{rtse_fault}
use Rattle.end_rules.specs.InPlace.{is_peers, is_in_place, is_next_confirmed, awaits_restart}
use Rattle.end_rules.specs.TakesData.{alteration, answered_fault}
use Rattle.end_rules.specs.TakesMarks.{restored_set, list_fault}
use Rattle.end_rules.specs.Reacting.{fault_above, word_fault}
use Rattle.end_rules.specs.Messages.{Word, DataValue, unit_of, OfAssociation, OfData, OfMarks}
use Rattle.end_rules.specs.Messages.{OfActivities, Finish, AlterContext, AlterContextAck, Values}
use Rattle.end_rules.specs.Messages.{Part, Mark, MarkAck, Restart, RestartAck, Give, Please}
use Rattle.end_rules.specs.Messages.{GiveConfirm, GiveAck, Start, Interrupt, Discard}
use Rattle.agreement.specs.Sets as sets
use Rattle.agreement.specs.Sets.Role.{Responder}
use Rattle.agreement.specs.Sets.Item.{Deletion}
use Rattle.agreement.specs.Messages.Mode.{Reliable as model_reliable}
use Rattle.agreement.specs.State.Phase.{Up as model_up}
use Rattle.agreement.specs.State.Progress.{Suspended as model_suspended}
use Rattle.agreement.specs.State.Awaited.{RestartOf as model_restart_of}
use Rattle.agreement.specs.Messages.Message.{Mark as model_mark, MarkAnswer as model_mark_answer}
use Rattle.agreement.specs.Messages.Message.{Restart as model_restart}
use Rattle.agreement.specs.Messages.Message.{RestartAnswer as model_restart_answer}
use Rattle.agreement.specs.Messages.Message.{Give as model_give, GiveAnswer as model_give_answer}
use Rattle.agreement.specs.Messages.Message.{Please as model_please, Start as model_start}
use Rattle.agreement.specs.Messages.Message.{Interrupt as model_interrupt, Discard as model_discard}
use Rattle.agreement.specs.Messages.Message.{Chunk as model_chunk, Alter as model_alter}
use Rattle.agreement.specs.Messages.Message.{AlterAnswer as model_alter_answer}
use Rattle.agreement.specs.Messages.Message.{Release as model_release}
use Rattle.agreement.specs.Takings.{MayTake, IsNextConfirmed, OnFirst, additions}
use Rattle.end_model.specs.Seen.{Free, mode_seen, role_seen, pair_seen, set_seen, addition_seen}
use Rattle.end_model.specs.Seen.{items_seen, listed_seen, awaited_seen, progress_seen}
use Rattle.end_model.specs.Seen.{transfer_seen, saved_seen, phase_seen, seen, setup_seen}
use Rattle.end_model.specs.Rows.{at}
use Rattle.end_model.specs.Words.{results_seen}
use Rattle.end_model.specs.Faultless.{Faultless, DirectMayBeTaken, ReliableMayBeTaken}
use Rattle.end_model.specs.Faultless.{AnswersMayBeTaken}
use Rattle.end_model.proofs.Facts.{up-seen}
use Rattle.end_model.proofs.Marks.{next-seen}
use Rattle.end_model.proofs.Held.{lookup-seen}
use Rattle.end_model.proofs.Sendings.{restored-seen}
use Rattle.end_model.proofs.Transfers.{highest-seen}
use Rattle.end_model.proofs.Fitting.{one-name, all-fit}
use Rattle.end_model.proofs.Takes.{among-seen, ids-seen}
use Rattle.end_model.proofs.TransferRows.{joined-seen}

-- ---- tests

pub record Both (a b : Bool) : Type 0 where
  pub left : a ≡ true
  pub right : b ≡ true

pub both : (a b : Bool) → (a && b) ≡ true → Both a b
both true true h = record { left = refl; right = refl }
both true false h = cc
both false b h = cc

pub record Neither (a b : Bool) : Type 0 where
  pub left : a ≡ false
  pub right : b ≡ false

pub neither : (a b : Bool) → (a || b) ≡ false → Neither a b
neither false false h = record { left = refl; right = refl }
neither false true h = cc
neither true b h = cc

pub is-false : (b : Bool) → not b ≡ true → b ≡ false
is-false false h = refl
is-false true h = cc

pub is-true : (b : Bool) → not b ≡ false → b ≡ true
is-true true h = refl
is-true false h = cc

pub equal : (m n : ℕ) → nat_eq m n ≡ true → m ≡ n
equal m n h = grind (arith, nat_tests)

pub at-most : (m n : ℕ) → nat_le m n ≡ true → m ≤ n
at-most m n h = grind (arith, nat_tests)

not-more : (m n : ℕ) → nat_lt m n ≡ false → n ≤ m
not-more m n h = grind (arith, nat_tests)

-- in place, and nothing wrong above
pub record Fine (base : Base) (body : Body) (word : Word) : Type 0 where
  pub in_place : is_in_place base body (unit_of word) ≡ true
  pub above : fault_above base body word ≡ None

pub fine : (base : Base) (body : Body) (word : Word) → word_fault base body word ≡ None → Fine base body word
fine base body word h = go (is_in_place base body (unit_of word)) refl (fault_above base body word) refl h
  where
    go : (b : Bool) → is_in_place base body (unit_of word) ≡ b → (x : Option Fault) → fault_above base body word ≡ x → or_fault (fault_if (not b) session_fault) x ≡ None → Fine base body word
    go true e None f h = record { in_place = e; above = f }
    go true e (Some fault) f h = cc
    go false e x f h = cc

pub no-fault_if : (b : Bool) (fault : Fault) (x : Option Fault) → or_fault (fault_if b fault) x ≡ None → (b ≡ false) × (x ≡ None)
no-fault_if true fault x h = cc
no-fault_if false fault x h = (refl, h)

pub no-fault : (b : Bool) (fault : Fault) → fault_if b fault ≡ None → b ≡ false
no-fault true fault h = cc
no-fault false fault h = refl

pub up-at : (base : Base) (body : Body) → is_up body.link.phase ≡ true → (seen base body).phase ≡ model_up
up-at base body h = up-seen body.link.stage body.link.phase h

pub record Peers (body : Body) : Type 0 where
  pub up : is_up body.link.phase ≡ true
  pub turn : body.link.turn ≡ false

pub peers : (body : Body) → is_peers body ≡ true → Peers body
peers body h =
    let b = both (is_up body.link.phase) (not body.link.turn) h in
    record { up = b.left; turn = is-false body.link.turn b.right }

-- ---- marks

mark-direct : (number : ℕ) → Faultless Direct (OfMarks (Mark number)) (model_mark number)
mark-direct number free base body h =
    let f = fine (at Direct base) body (OfMarks (Mark number)) h in
    let a = both (is_peers body && has_marks body.link.selected && true && nat_eq number (next_number body.saved)) (nat_le number most_marks) f.in_place in
    let b = both (is_peers body && has_marks body.link.selected && true) (nat_eq number (next_number body.saved)) a.left in
    let c = both (is_peers body && has_marks body.link.selected) true b.left in
    let d = both (is_peers body) (has_marks body.link.selected) c.left in
    let p = peers body d.left in
    record {
      is_up = up-at (at Direct base) body p.up;
      in_mode = record { lacks_turn = p.turn; is_next = equal number (next_number body.saved) b.right ∙ next-seen body.saved; is_within = at-most number most_marks a.right };
    }

mark-reliable : (number : ℕ) → Faultless Reliable (OfMarks (Mark number)) (model_mark number)
mark-reliable number free base body h =
    let f = fine (at Reliable base) body (OfMarks (Mark number)) h in
    let a = both (is_peers body && has_marks body.link.selected && body.receiving.active && nat_eq number (suc (highest body.receiving.pieces))) (nat_le number most_marks) f.in_place in
    let b = both (is_peers body && has_marks body.link.selected && body.receiving.active) (nat_eq number (suc (highest body.receiving.pieces))) a.left in
    let c = both (is_peers body && has_marks body.link.selected) body.receiving.active b.left in
    let d = both (is_peers body) (has_marks body.link.selected) c.left in
    let p = peers body d.left in
    record {
      is_up = up-at (at Reliable base) body p.up;
      in_mode = record { lacks_turn = p.turn; is_active = c.right; is_next = equal number (suc (highest body.receiving.pieces)) b.right ∙ ap suc (highest-seen body.receiving.pieces); is_within = at-most number most_marks a.right };
    }

confirmed : (base : Base) (t : Option Transfer) (number : ℕ) → is_next_confirmed t number ≡ true → IsNextConfirmed (transfer_seen base t) number
confirmed base None number h = cc
confirmed base (Some t) number h =
    let a = both (not (is_suspended t.progress) && nat_eq number (suc t.confirmed)) (nat_le number (highest t.pieces)) h in
    let b = both (not (is_suspended t.progress)) (nat_eq number (suc t.confirmed)) a.left in
    record {
      is_in_progress = runs t.progress (is-false (is_suspended t.progress) b.left);
      is_lowest = equal number (suc t.confirmed) b.right;
      was_sent = subst (λ n. number ≤ n) (highest-seen t.pieces) (at-most number (highest t.pieces) a.right);
    }
  where
    runs : (p : Progress) → is_suspended p ≡ false → (progress_seen p ≡ model_suspended) → ⊥
    runs Running h e = cc
    runs Ending h e = cc
    runs Suspended h e = cc

mark_ack-reliable : (number : ℕ) → Faultless Reliable (OfMarks (MarkAck number)) (model_mark_answer number)
mark_ack-reliable number free base body h =
    let f = fine (at Reliable base) body (OfMarks (MarkAck number)) h in
    let a = both (is_up body.link.phase && has_marks body.link.selected) (is_next_confirmed body.sending.current number) f.in_place in
    let b = both (is_up body.link.phase) (has_marks body.link.selected) a.left in
    record { by_transfers = refl; is_up = up-at (at Reliable base) body b.left; is_next = confirmed (at Reliable base) body.sending.current number a.right }

-- ---- the turn

give-direct : (tokens : ℕ) → Faultless Direct (OfMarks (Give (Some tokens))) model_give
give-direct tokens free base body h =
    let f = fine (at Direct base) body (OfMarks (Give (Some tokens))) h in
    let a = both (has_marks body.link.selected) (is_peers body) f.in_place in
    let p = peers body a.right in
    record { is_up = up-at (at Direct base) body p.up; in_mode = p.turn }

give-reliable : Faultless Reliable (OfMarks GiveConfirm) model_give
give-reliable free base body h =
    let f = fine (at Reliable base) body (OfMarks GiveConfirm) h in
    let a = both (is_peers body) (not body.receiving.active) f.in_place in
    let p = peers body a.left in
    record { is_up = up-at (at Reliable base) body p.up; in_mode = record { lacks_turn = p.turn; rests = is-false body.receiving.active a.right } }

give_ack-reliable : Faultless Reliable (OfMarks GiveAck) model_give_answer
give_ack-reliable free base body h =
    let f = fine (at Reliable base) body (OfMarks GiveAck) h in
    let a = both (is_up body.link.phase) body.link.gave f.in_place in
    record { by_transfers = refl; is_up = up-at (at Reliable base) body a.left; asked = a.right }

please-direct : (tokens priority : ℕ) (values : List DataValue) → Faultless Direct (OfMarks (Please (Some tokens) values)) (model_please priority)
please-direct tokens priority values free base body h =
    let f = fine (at Direct base) body (OfMarks (Please (Some tokens) values)) h in
    let a = both (is_up body.link.phase) (has_token (at Direct base) body) f.in_place in
    record { is_up = up-at (at Direct base) body a.left; in_mode = tt }

please-reliable : (tokens priority : ℕ) (values : List DataValue) → Faultless Reliable (OfMarks (Please (Some tokens) values)) (model_please priority)
please-reliable tokens priority values free base body h =
    let f = fine (at Reliable base) body (OfMarks (Please (Some tokens) values)) h in
    let a = both (is_up body.link.phase) (has_token (at Reliable base) body) f.in_place in
    record { is_up = up-at (at Reliable base) body a.left; in_mode = tt }

-- ---- restarts

list-same : (xs ys : List RestoredItem) → same_lists xs ys ≡ true → listed_seen xs ≡ listed_seen ys
list-same [] [] h = refl
list-same [] (y ∷ ys) h = cc
list-same (x ∷ xs) [] h = cc
list-same (x ∷ xs) (y ∷ ys) h =
    let a = both (nat_eq x.id y.id && same_name x.transfer y.transfer) (same_lists xs ys) h in
    let b = both (nat_eq x.id y.id) (same_name x.transfer y.transfer) a.left in
    let put : ℕ → List ℕ → List sets.Listed → List sets.Listed = λ id name rest. record { identifier = id; transfer_syntax = name } ∷ rest in
    ap (λ id. put id x.transfer (listed_seen xs)) (equal x.id y.id b.left) ∙
    ap (λ name. put y.id name (listed_seen xs)) (one-name x.transfer y.transfer b.right) ∙
    ap (λ rest. put y.id y.transfer rest) (list-same xs ys a.right)

same-or : (b : Bool) (fault : Fault) → (if b then None else Some fault) ≡ None → b ≡ true
same-or true fault h = refl
same-or false fault h = cc

list-restored : (body : Body) (number : ℕ) (list : List RestoredItem) → list_fault body number (Some list) ≡ None → listed_seen list ≡ sets.listed (sets.newest (sets.below number (saved_seen body.saved)))
list-restored body number list h =
    list-same list (listed (restored_set body number)) (same-or (same_lists list (listed (restored_set body number))) (record { layer = Presentation; place = 0; reason = 6; shown_before = RestoredListDiffers (restored_set body number) list ∷ [] }) h) ∙
    restored-seen number body.saved

restart-direct : (number : ℕ) (list : List RestoredItem) → Faultless Direct (OfMarks (Restart number (Some list))) (model_restart number (listed_seen list))
restart-direct number list free base body h =
    let f = fine (at Direct base) body (OfMarks (Restart number (Some list))) h in
    let a = both (is_up body.link.phase && has_restarts body.link.selected && nat_le 1 number) (nat_le number (next_number body.saved)) f.in_place in
    let b = both (is_up body.link.phase && has_restarts body.link.selected) (nat_le 1 number) a.left in
    let c = both (is_up body.link.phase) (has_restarts body.link.selected) b.left in
    record {
      is_direct = refl;
      is_up = up-at (at Direct base) body c.left;
      is_positive = at-most 1 number b.right;
      is_known = subst (λ n. number ≤ n) (next-seen body.saved) (at-most number (next_number body.saved) a.right);
      is_same = list-restored body number list f.above;
    }

awaits-so : (awaited : Awaited) (number : ℕ) → awaits_restart awaited number ≡ true → awaited_seen awaited ≡ model_restart_of number
awaits-so NoAnswer number h = cc
awaits-so (RestartOf own) number h = ap (λ n. model_restart_of n) (equal own number h)
awaits-so InterruptOf number h = cc
awaits-so DiscardOf number h = cc
awaits-so ReleaseOf number h = cc

restart_ack-direct : (number : ℕ) (list : List RestoredItem) (free : Free) (base : Base) (body : Body) → body.link.phase ≡ Up → word_fault (at Direct base) body (OfMarks (RestartAck number (Some list))) ≡ None → MayTake (setup_seen free Direct base) (role_seen base.initiator) (seen (at Direct base) body) (model_restart_answer number (listed_seen list))
restart_ack-direct number list free base body up h =
    let f = fine (at Direct base) body (OfMarks (RestartAck number (Some list))) h in
    record { is_direct = refl; is_up = ap (phase_seen body.link.stage) up; asked = awaits-so body.link.awaits number f.in_place; is_same = list-restored body number list f.above }

-- ---- alterations

distinct : (ks : List ℕ) → has_double ks ≡ false → sets.AreDistinct ks
distinct [] h = tt
distinct (k ∷ ks) h = let n = neither (is_among k ks) (has_double ks) h in (among-seen k ks ∙ n.left, distinct ks n.right)

its-parity : (initiator : Bool) (k : ℕ) → has_parity (not initiator) k ≡ true → k % 2 ≡ sets.parity (sets.other (role_seen initiator))
its-parity true k h = equal (k % 2) 0 h
its-parity false k h = equal (k % 2) 1 h

absent : (p : Option Pair) → is_some p ≡ false → option_map pair_seen p ≡ None
absent None h = refl
absent (Some pair) h = cc

may-delete : (initiator : Bool) (held : List SetItem) (delete : List ℕ) → sets.AllMayBeAsked (sets.other (role_seen initiator)) (set_seen held) (map Deletion delete)
may-delete initiator held [] = tt
may-delete initiator held (k ∷ delete) = (tt, may-delete initiator held delete)

may-add : (initiator : Bool) (held : List SetItem) (add : List Proposal) (delete : List ℕ) → list_any (λ k. is_some (pair_of held k) || not (has_parity (not initiator) k)) (proposed_ids add) ≡ false → sets.AllMayBeAsked (sets.other (role_seen initiator)) (set_seen held) (map addition_seen add ++ map Deletion delete)
may-add initiator held [] delete h = may-delete initiator held delete
may-add initiator held (p ∷ add) delete h =
    let n = neither (is_some (pair_of held p.id) || not (has_parity (not initiator) p.id)) (list_any (λ k. is_some (pair_of held k) || not (has_parity (not initiator) k)) (proposed_ids add)) h in
    let m = neither (is_some (pair_of held p.id)) (not (has_parity (not initiator) p.id)) n.left in
    ((its-parity initiator p.id (is-true (has_parity (not initiator) p.id) m.right), lookup-seen held p.id ∙ absent (pair_of held p.id) m.left), may-add initiator held add delete n.right)

record Asked (initiator : Bool) (held : List SetItem) (a : Alteration) : Type 0 where
  once : sets.AreDistinct (sets.identifiers (additions (items_seen a)))
  may : sets.AllMayBeAsked (sets.other (role_seen initiator)) (set_seen held) (items_seen a)

asked : (initiator : Bool) (held : List SetItem) (a : Alteration) → is_faulty_proposal (not initiator) held a.add ≡ false → Asked initiator held a
asked initiator held a h =
    let n = neither (has_double (proposed_ids a.add)) (list_any (λ k. is_some (pair_of held k) || not (has_parity (not initiator) k)) (proposed_ids a.add)) h in
    record {
      once = subst sets.AreDistinct (sym (ids-seen a.add a.delete)) (distinct (proposed_ids a.add) n.left);
      may = may-add initiator held a.add a.delete n.right;
    }

alter-direct : (add : List Proposal) (delete : List ℕ) → Faultless Direct (OfData (AlterContext add delete)) (model_alter (items_seen (alteration add delete)))
alter-direct add delete free base body h =
    let f = fine (at Direct base) body (OfData (AlterContext add delete)) h in
    let a = both (is_up body.link.phase) (has_typed_data body.link.selected) f.in_place in
    let b = no-fault_if (not body.link.manages || false) unexpected_ppdu (fault_if (is_faulty_proposal (not base.initiator) body.sets.held add) invalid_ppdu) f.above in
    let c = asked base.initiator body.sets.held (alteration add delete) (no-fault (is_faulty_proposal (not base.initiator) body.sets.held add) invalid_ppdu b.1) in
    record { is_up = up-at (at Direct base) body a.left; in_mode = tt; once = c.once; may_be_asked = c.may }

alter-reliable : (add : List Proposal) (delete : List ℕ) → Faultless Reliable (OfData (AlterContext add delete)) (model_alter (items_seen (alteration add delete)))
alter-reliable add delete free base body h =
    let f = fine (at Reliable base) body (OfData (AlterContext add delete)) h in
    let a = both (is_up body.link.phase) (has_typed_data body.link.selected) f.in_place in
    let b = no-fault_if (not body.link.manages || body.link.turn) unexpected_ppdu (fault_if (is_faulty_proposal (not base.initiator) body.sets.held add) invalid_ppdu) f.above in
    let c = asked base.initiator body.sets.held (alteration add delete) (no-fault (is_faulty_proposal (not base.initiator) body.sets.held add) invalid_ppdu b.1) in
    record { is_up = up-at (at Reliable base) body a.left; in_mode = (neither (not body.link.manages) body.link.turn b.0).right; once = c.once; may_be_asked = c.may }

alter_ack-fits : (mode : Mode) (a : Alteration) (own : List Alteration) (answers : Answers) (free : Free) (base : Base) (body : Body) → body.sets.own ≡ a ∷ own → word_fault (at mode base) body (OfData (AlterContextAck answers)) ≡ None → MayTake (setup_seen free mode base) (role_seen base.initiator) (seen (at mode base) body) (model_alter_answer (results_seen a answers))
alter_ack-fits mode a own answers free base body first h =
    let f = fine (at mode base) body (OfData (AlterContextAck answers)) h in
    let b = both (is_up body.link.phase) (has_typed_data body.link.selected) f.in_place in
    let none : answered_fault (a ∷ own) answers ≡ None = ap (λ os. answered_fault os answers) (sym first) ∙ f.above in
    let fits : fit_alteration a answers ≡ true = is-true (fit_alteration a answers) (no-fault (not (fit_alteration a answers)) invalid_ppdu none) in
    let all = all-fit a answers fits in
    record {
      is_up = up-at (at mode base) body b.left;
      fits = subst (λ os. OnFirst (λ items. sets.AnswersEach items (results_seen a answers)) (map items_seen os)) (sym first) all.fits;
      is_known = all.known;
    }

-- ---- transfers and activities

append-nil : (xs : List ℕ) → xs ++ [] ≡ xs
append-nil [] = refl
append-nil (x ∷ xs) = ap (λ (ys : List ℕ). x ∷ ys) (append-nil xs)

part-reliable : (id : ℕ) (pair : Option Pair) (octets : List ℕ) → Faultless Reliable (OfData (Values (record { id = id; pair = pair; content = Part octets } ∷ []))) (model_chunk octets)
part-reliable id pair octets free base body h =
    let f = fine (at Reliable base) body (OfData (Values (record { id = id; pair = pair; content = Part octets } ∷ []))) h in
    let a = both (is_up body.link.phase) (not body.link.turn && body.receiving.active) f.in_place in
    let b = both (not body.link.turn) body.receiving.active a.right in
    let c = no-fault (nat_lt most_transferred (length (joined body.receiving.pieces ++ (octets ++ [])))) rtse_fault f.above in
    let short : length (joined body.receiving.pieces ++ (octets ++ [])) ≤ most_transferred = not-more most_transferred (length (joined body.receiving.pieces ++ (octets ++ []))) c in
    record {
      by_transfers = refl;
      is_up = up-at (at Reliable base) body a.left;
      lacks_turn = is-false body.link.turn b.left;
      is_active = b.right;
      is_within = subst (λ (xs : List ℕ). length (xs ++ octets) ≤ most_transferred) (sym (joined-seen body.receiving.pieces)) (subst (λ (xs : List ℕ). length (joined body.receiving.pieces ++ xs) ≤ most_transferred) (append-nil octets) short);
    }

start-reliable : (activity : ℕ) → Faultless Reliable (OfActivities (Start activity)) (model_start activity)
start-reliable activity free base body h =
    let f = fine (at Reliable base) body (OfActivities (Start activity)) h in
    let a = both (is_peers body && has_activities body.link.selected && not body.receiving.active) (nat_eq activity (suc body.receiving.last)) f.in_place in
    let b = both (is_peers body && has_activities body.link.selected) (not body.receiving.active) a.left in
    let c = both (is_peers body) (has_activities body.link.selected) b.left in
    let p = peers body c.left in
    record { by_transfers = refl; is_up = up-at (at Reliable base) body p.up; lacks_turn = p.turn; rests = is-false body.receiving.active b.right; is_next = equal activity (suc body.receiving.last) a.right }

interrupt-reliable : (reason : Option ℕ) → Faultless Reliable (OfActivities (Interrupt reason)) model_interrupt
interrupt-reliable reason free base body h =
    let f = fine (at Reliable base) body (OfActivities (Interrupt reason)) h in
    let a = both (is_up body.link.phase) body.receiving.active f.in_place in
    record { by_transfers = refl; is_up = up-at (at Reliable base) body a.left; is_active = a.right }

discard-reliable : (reason : Option ℕ) → Faultless Reliable (OfActivities (Discard reason)) model_discard
discard-reliable reason free base body h =
    let f = fine (at Reliable base) body (OfActivities (Discard reason)) h in
    let a = both (is_up body.link.phase) body.receiving.active f.in_place in
    record { by_transfers = refl; is_up = up-at (at Reliable base) body a.left; is_active = a.right }

-- ---- release

pub responds : (initiator : Bool) → not initiator ≡ true → role_seen initiator ≡ Responder
responds true h = cc
responds false h = refl

pub not-reliable : mode_seen Direct ≡ model_reliable → ⊥
not-reliable e = cc

finish-direct : (transport : Option ℕ) (values : List DataValue) → Faultless Direct (OfAssociation (Finish transport values)) model_release
finish-direct transport values free base body h =
    let f = fine (at Direct base) body (OfAssociation (Finish transport values)) h in
    let a = both (not base.initiator && is_up body.link.phase) true f.in_place in
    let b = both (not base.initiator) (is_up body.link.phase) a.left in
    record { responds = responds base.initiator b.left; is_up = up-at (at Direct base) body b.right; rests = λ e. absurd (not-reliable e) }

finish-reliable : (transport : Option ℕ) (values : List DataValue) → Faultless Reliable (OfAssociation (Finish transport values)) model_release
finish-reliable transport values free base body h =
    let f = fine (at Reliable base) body (OfAssociation (Finish transport values)) h in
    let a = both (not base.initiator && is_up body.link.phase) (not body.link.turn && not body.receiving.active) f.in_place in
    let b = both (not base.initiator) (is_up body.link.phase) a.left in
    let c = both (not body.link.turn) (not body.receiving.active) a.right in
    record { responds = responds base.initiator b.left; is_up = up-at (at Reliable base) body b.right; rests = λ e. (is-false body.link.turn c.left, is-false body.receiving.active c.right) }

pub direct-may_be_taken : DirectMayBeTaken
direct-may_be_taken =
    record { mark = mark-direct; give = give-direct; please = please-direct; restart = restart-direct; restart_ack = restart_ack-direct; alter = alter-direct; finish = finish-direct }

pub reliable-may_be_taken : ReliableMayBeTaken
reliable-may_be_taken =
    record {
      mark = mark-reliable;
      mark_ack = mark_ack-reliable;
      give_all = give-reliable;
      give_ack = give_ack-reliable;
      please = please-reliable;
      alter = alter-reliable;
      part = part-reliable;
      start = start-reliable;
      interrupt = interrupt-reliable;
      discard = discard-reliable;
      finish = finish-reliable;
    }

pub answers-may_be_taken : AnswersMayBeTaken
answers-may_be_taken = record { alter_ack = alter_ack-fits }
