-- Alter is an act.
use Rattle.std.proofs.Common.{◌≡◌, refl, true, false, ◌∙◌, sym, ap, subst, arith, ℕ, suc, ◌<◌, ◌%◌}
use Rattle.std.proofs.Common.{List, [], ◌∷◌, ◌++◌, length, map}
use Rattle.std.specs.Prelude.{ℤ, Bool, not, ◌&&◌, ◌||◌, Option, Some, None, Ok, is_some, option_map}
use Rattle.std.specs.Prelude.{if◌then◌else◌, nat_eq, nat_le}
use Rattle.std.specs.List.{list_any}
use Rattle.std.proofs.lemmas.Bool.Decides.{nat_tests}
use Rattle.osi_base.specs.declared.layer_words.Proposal.{Proposal}
use Rattle.osi_base.specs.declared.syntax.Pair.{Pair}
use Rattle.osi_base.specs.Limits.{most_alterations}
use Rattle.dialogue.specs.declared.config.Mode.{Mode}
use Rattle.dialogue.specs.declared.config.Mode.TheVariants.{Direct, Reliable}
use Rattle.dialogue.specs.declared.call.Call.TheVariants as the_calls
use Rattle.dialogue.specs.declared.call.CallRefusal.{CallRefusal}
use Rattle.dialogue.specs.declared.call.CallRefusal.TheVariants as refusals
use Rattle.end_rules.specs.Base.{Base, is_reliable}
use Rattle.end_rules.specs.State.{Body, OpenCall, Queued, Transfer, Encoded, Progress, Running}
use Rattle.end_rules.specs.State.{Ending, Suspended, is_free, is_empty, is_current, is_ending}
use Rattle.end_rules.specs.State.{is_suspended}
use Rattle.end_rules.specs.Sets.{Alteration, is_among, named_ids, proposed_ids}
use Rattle.osi_base.specs.SetPlaces.{pair_of}
use Rattle.osi_base.specs.Proposals.{has_bad_transfers}
use Rattle.end_rules.specs.Sets.{is_named_in, is_fixed, has_parity}
use Rattle.end_rules.specs.Altering.{can_alter, used, context_of_encoding, context_of_current}
use Rattle.end_rules.specs.Altering.{has_double, is_bad, is_no_context}
use Rattle.end_rules.specs.Altering.{addition_refusal, deletion_refusal, or_else, additions_refusal}
use Rattle.end_rules.specs.Altering.{deletions_refusal, is_set_full, alteration_refusal}
use Rattle.end_rules.specs.TakesData.{alteration}
use Rattle.agreement.specs.Sets as sets
use Rattle.agreement.specs.Sets.Item.{Deletion}
use Rattle.agreement.specs.Messages as model
use Rattle.agreement.specs.Acts as acts
use Rattle.agreement.specs.State.Progress.{Ending as model_ending}
use Rattle.agreement.specs.Calls.{contexts_of_calls, contexts_of_items}
use Rattle.end_model.specs.Seen.{mode_seen, role_seen, pair_seen, set_seen, addition_seen}
use Rattle.end_model.specs.Seen.{items_seen, invocation_seen, opens_seen_on, queued_seen}
use Rattle.end_model.specs.Seen.{progress_seen, encoded_seen, transfer_seen, seen}
use Rattle.end_model.specs.Rows.{at}
use Rattle.end_model.specs.Requests.{AlterActs}
use Rattle.end_model.proofs.Marks.{alter-sent}
use Rattle.end_model.proofs.Ladder.{passed, unrefused as not-refused, not-true, called}
use Rattle.end_model.proofs.Requests.{is-free_there}
use Rattle.end_model.proofs.Takes.{among-seen}
use Rattle.end_model.proofs.Held.{eq-sym, lookup-seen}

-- ---- names

or-left : (a b : Bool) → (a || b) ≡ false → a ≡ false
or-left false b h = refl
or-left true b h = cc

or-right : (a b : Bool) → (a || b) ≡ false → b ≡ false
or-right false b h = h
or-right true b h = cc

or-assoc : (a b c : Bool) → ((a || b) || c) ≡ (a || (b || c))
or-assoc true b c = refl
or-assoc false b c = refl

among-append : (k : ℕ) (xs ys : List ℕ) → sets.is_among k (xs ++ ys) ≡ (sets.is_among k xs || sets.is_among k ys)
among-append k [] ys = refl
among-append k (x ∷ xs) ys = ap (λ b. nat_eq k x || b) (among-append k xs ys) ∙ sym (or-assoc (nat_eq k x) (sets.is_among k xs) (sets.is_among k ys))

ids-deletions : (delete : List ℕ) → sets.identifiers (map Deletion delete) ≡ delete
ids-deletions [] = refl
ids-deletions (k ∷ delete) = ap (λ (ks : List ℕ). k ∷ ks) (ids-deletions delete)

ids-append : (add : List Proposal) (rest : List sets.Item) → sets.identifiers (map addition_seen add ++ rest) ≡ proposed_ids add ++ sets.identifiers rest
ids-append [] rest = refl
ids-append (p ∷ add) rest = ap (λ (ks : List ℕ). p.id ∷ ks) (ids-append add rest)

pub ids-named : (a : Alteration) → sets.identifiers (items_seen a) ≡ named_ids a
ids-named a = ids-append a.add (map Deletion a.delete) ∙ ap (λ ks. proposed_ids a.add ++ ks) (ids-deletions a.delete)

named-in : (k : ℕ) (own : List Alteration) → sets.is_among k (sets.named (map items_seen own)) ≡ is_named_in own k
named-in k [] = refl
named-in k (a ∷ own) =
    among-append k (sets.identifiers (items_seen a)) (sets.named (map items_seen own)) ∙
    ap (λ ks. sets.is_among k ks || sets.is_among k (sets.named (map items_seen own))) (ids-named a) ∙
    ap (λ b. b || sets.is_among k (sets.named (map items_seen own))) (among-seen k (named_ids a)) ∙
    ap (λ b. is_among k (named_ids a) || b) (named-in k own)

named-snoc : (own : List (List sets.Item)) (items : List sets.Item) → sets.named (own ++ items ∷ []) ≡ sets.named own ++ sets.identifiers items
named-snoc [] items = nil (sets.identifiers items)
  where
    nil : (xs : List ℕ) → xs ++ [] ≡ xs
    nil [] = refl
    nil (x ∷ xs) = ap (λ (ys : List ℕ). x ∷ ys) (nil xs)
named-snoc (first ∷ own) items = ap (λ ks. sets.identifiers first ++ ks) (named-snoc own items) ∙ sym (assoc (sets.identifiers first) (sets.named own) (sets.identifiers items))
  where
    assoc : (xs ys zs : List ℕ) → (xs ++ ys) ++ zs ≡ xs ++ (ys ++ zs)
    assoc [] ys zs = refl
    assoc (x ∷ xs) ys zs = ap (λ (rest : List ℕ). x ∷ rest) (assoc xs ys zs)

-- none of the second is in the first
abbrev AllNew : List ℕ → List ℕ → Type 0
AllNew xs [] = Unit {0}
AllNew xs (y ∷ ys) = (sets.is_among y xs ≡ false) × AllNew xs ys

fewer-new : (x : ℕ) (xs ys : List ℕ) → AllNew (x ∷ xs) ys → AllNew xs ys
fewer-new x xs [] h = tt
fewer-new x xs (y ∷ ys) h = (or-right (nat_eq y x) (sets.is_among y xs) h.0, fewer-new x xs ys h.1)

not-among : (x : ℕ) (xs ys : List ℕ) → AllNew (x ∷ xs) ys → sets.is_among x ys ≡ false
not-among x xs [] h = refl
not-among x xs (y ∷ ys) h = rw (eq-sym x y, or-left (nat_eq y x) (sets.is_among y xs) h.0) (not-among x xs ys h.1)

distinct-append : (xs ys : List ℕ) → sets.AreDistinct xs → sets.AreDistinct ys → AllNew xs ys → sets.AreDistinct (xs ++ ys)
distinct-append [] ys h k new = k
distinct-append (x ∷ xs) ys h k new =
    (among-append x xs ys ∙ ap (λ b. b || sets.is_among x ys) h.0 ∙ not-among x xs ys new, distinct-append xs ys h.1 k (fewer-new x xs ys new))

no-double : (ks : List ℕ) → has_double ks ≡ false → sets.AreDistinct ks
no-double [] h = tt
no-double (k ∷ ks) h = (among-seen k ks ∙ or-left (is_among k ks) (has_double ks) h, no-double ks (or-right (is_among k ks) (has_double ks) h))

-- ---- refusals

record Unrefused (a b : Option CallRefusal) : Type 0 where
  first : a ≡ None
  later : b ≡ None

unrefused : (a b : Option CallRefusal) → or_else a b ≡ None → Unrefused a b
unrefused None b h = record { first = refl; later = h }
unrefused (Some refusal) b h = cc

record Unless (b : Bool) (r : Option CallRefusal) : Type 0 where
  holds : b ≡ false
  later : r ≡ None

unless : (b : Bool) (refusal : CallRefusal) (r : Option CallRefusal) → (if b then Some refusal else r) ≡ None → Unless b r
unless true refusal r h = cc
unless false refusal r h = record { holds = refl; later = h }

not-not : (b : Bool) → not b ≡ false → b ≡ true
not-not true h = refl
not-not false h = cc

its-parity : (initiator : Bool) (k : ℕ) → has_parity initiator k ≡ true → k % 2 ≡ sets.parity (role_seen initiator)
its-parity true k h = grind (arith, nat_tests)
its-parity false k h = grind (arith, nat_tests)

absent : (p : Option Pair) → is_some p ≡ false → option_map pair_seen p ≡ None
absent None h = refl
absent (Some pair) h = cc

present : (p : Option Pair) → is_some p ≡ true → is_some (option_map pair_seen p) ≡ true
present None h = cc
present (Some pair) h = refl

pub record AddsAsked (base : Base) (body : Body) (add : List Proposal) : Type 0 where
  pub may : (rest : List sets.Item) (used_ids : List ℕ) → sets.AllMayAsk (role_seen base.initiator) (set_seen body.sets.held) used_ids rest → sets.AllMayAsk (role_seen base.initiator) (set_seen body.sets.held) used_ids (map addition_seen add ++ rest)
  pub new : AllNew (sets.named (map items_seen body.sets.own)) (proposed_ids add)

adds-asked : (base : Base) (body : Body) (add : List Proposal) → additions_refusal base body add ≡ None → AddsAsked base body add
adds-asked base body [] h = record { may = λ rest used_ids k. k; new = tt }
adds-asked base body (p ∷ add) h =
    let u = unrefused (addition_refusal base body p.id) (additions_refusal base body add) h in
    let a = unless (not (has_parity base.initiator p.id)) (refusals.WrongParity p.id) (if is_named_in body.sets.own p.id then Some (refusals.Named p.id) else (if is_some (pair_of body.sets.held p.id) then Some (refusals.Present p.id) else None)) u.first in
    let b = unless (is_named_in body.sets.own p.id) (refusals.Named p.id) (if is_some (pair_of body.sets.held p.id) then Some (refusals.Present p.id) else None) a.later in
    let c = unless (is_some (pair_of body.sets.held p.id)) (refusals.Present p.id) None b.later in
    let more = adds-asked base body add u.later in
    record {
      may = λ rest used_ids k.
          ((its-parity base.initiator p.id (not-not (has_parity base.initiator p.id) a.holds), lookup-seen body.sets.held p.id ∙ absent (pair_of body.sets.held p.id) c.holds), more.may rest used_ids k);
      new = (named-in p.id body.sets.own ∙ b.holds, more.new);
    }

pub record DeletesAsked (base : Base) (body : Body) (delete : List ℕ) : Type 0 where
  pub may : (used_ids : List ℕ) → ((k : ℕ) → sets.is_among k used_ids ≡ is_among k (used body)) → sets.AllMayAsk (role_seen base.initiator) (set_seen body.sets.held) used_ids (map Deletion delete)
  pub new : AllNew (sets.named (map items_seen body.sets.own)) delete

deletes-asked : (base : Base) (body : Body) (delete : List ℕ) → deletions_refusal body delete ≡ None → DeletesAsked base body delete
deletes-asked base body [] h = record { may = λ used_ids e. tt; new = tt }
deletes-asked base body (k ∷ delete) h =
    let u = unrefused (deletion_refusal body k) (deletions_refusal body delete) h in
    let a = unless (is_named_in body.sets.own k) (refusals.Named k) (if not (is_some (pair_of body.sets.held k)) then Some (refusals.Absent k) else (if is_fixed (pair_of body.sets.held k) then Some (refusals.Fixed k) else (if is_among k (used body) then Some (refusals.InUse k) else None))) u.first in
    let b = unless (not (is_some (pair_of body.sets.held k))) (refusals.Absent k) (if is_fixed (pair_of body.sets.held k) then Some (refusals.Fixed k) else (if is_among k (used body) then Some (refusals.InUse k) else None)) a.later in
    let c = unless (is_fixed (pair_of body.sets.held k)) (refusals.Fixed k) (if is_among k (used body) then Some (refusals.InUse k) else None) b.later in
    let d = unless (is_among k (used body)) (refusals.InUse k) None c.later in
    let more = deletes-asked base body delete u.later in
    record {
      may = λ used_ids e.
          ((ap is_some (lookup-seen body.sets.held k) ∙ present (pair_of body.sets.held k) (not-not (is_some (pair_of body.sets.held k)) b.holds), e k ∙ d.holds), more.may used_ids e);
      new = (named-in k body.sets.own ∙ a.holds, more.new);
    }

new-append : (xs ys zs : List ℕ) → AllNew xs ys → AllNew xs zs → AllNew xs (ys ++ zs)
new-append xs [] zs h k = k
new-append xs (y ∷ ys) zs h k = (h.0, new-append xs ys zs h.1 k)

-- ---- contexts in use

or-true : (b : Bool) → (b || true) ≡ true
or-true true = refl
or-true false = refl

to-own : (e a b c : Bool) → (((e || a) || b) || c) ≡ ((a || b) || (e || c))
to-own true a b c = sym (or-true (a || b))
to-own false a b c = refl

to-peer : (e a b c : Bool) → ((a || (e || b)) || c) ≡ ((a || b) || (e || c))
to-peer true true b c = refl
to-peer true false b c = sym (or-true b)
to-peer false a b c = refl

opens-among : (k : ℕ) (own peer : List model.Invocation) (os : List OpenCall) → (sets.is_among k (contexts_of_calls (opens_seen_on true own os)) || sets.is_among k (contexts_of_calls (opens_seen_on false peer os))) ≡ ((sets.is_among k (contexts_of_calls own) || sets.is_among k (contexts_of_calls peer)) || is_among k (map (λ (o : OpenCall). o.context) os))
opens-among k own peer [] = sym (or-false (sets.is_among k (contexts_of_calls own) || sets.is_among k (contexts_of_calls peer)))
  where
    or-false : (b : Bool) → (b || false) ≡ b
    or-false true = refl
    or-false false = refl
opens-among k own peer (o ∷ os) = go o.own refl (λ xs ys. opens-among k xs ys os)
  where
    go : (w : Bool) → o.own ≡ w → ((xs ys : List model.Invocation) → (sets.is_among k (contexts_of_calls (opens_seen_on true xs os)) || sets.is_among k (contexts_of_calls (opens_seen_on false ys os))) ≡ ((sets.is_among k (contexts_of_calls xs) || sets.is_among k (contexts_of_calls ys)) || is_among k (map (λ (c : OpenCall). c.context) os))) → (sets.is_among k (contexts_of_calls (opens_seen_on true own (o ∷ os))) || sets.is_among k (contexts_of_calls (opens_seen_on false peer (o ∷ os)))) ≡ ((sets.is_among k (contexts_of_calls own) || sets.is_among k (contexts_of_calls peer)) || is_among k (map (λ (c : OpenCall). c.context) (o ∷ os)))
    go true e later = rw e (later (invocation_seen o ∷ own) peer ∙ to-own (nat_eq k o.context) (sets.is_among k (contexts_of_calls own)) (sets.is_among k (contexts_of_calls peer)) (is_among k (map (λ (c : OpenCall). c.context) os)))
    go false e later = rw e (later own (invocation_seen o ∷ peer) ∙ to-peer (nat_eq k o.context) (sets.is_among k (contexts_of_calls own)) (sets.is_among k (contexts_of_calls peer)) (is_among k (map (λ (c : OpenCall). c.context) os)))

transfer-context : (base : Base) (t : Option Transfer) → acts.context_of_transfer (transfer_seen base t) ≡ context_of_current t
transfer-context base None = refl
transfer-context base (Some t) = go t.progress t.encoded
  where
    go : (p : Progress) (e : Option Encoded) → acts.context_in_progress (progress_seen p) (encoded_seen base e) ≡ (if is_suspended p then [] else context_of_encoding e)
    go Running None = refl
    go Running (Some e) = refl
    go Ending None = refl
    go Ending (Some e) = refl
    go Suspended e = refl

queue-contexts : (base : Base) (queue : List Queued) → contexts_of_items (map (queued_seen base) queue) ≡ map (λ (item : Queued). item.context) queue
queue-contexts base [] = refl
queue-contexts base (item ∷ queue) = ap (λ (ks : List ℕ). item.context ∷ ks) (queue-contexts base queue)

among-both : (k : ℕ) (xs ys : List ℕ) → is_among k (xs ++ ys) ≡ (is_among k xs || is_among k ys)
among-both k [] ys = refl
among-both k (x ∷ xs) ys = ap (λ b. nat_eq k x || b) (among-both k xs ys) ∙ sym (or-assoc (nat_eq k x) (is_among k xs) (is_among k ys))

pub used-among : (mode : Mode) (base : Base) (body : Body) (k : ℕ) → acts.contexts_of_queue (mode_seen mode) (seen base body).outgoing.queue ≡ map (λ (item : Queued). item.context) body.sending.queue → sets.is_among k (acts.used (mode_seen mode) (seen base body)) ≡ is_among k (used body)
used-among mode base body k e =
    let t : List ℕ = acts.context_of_transfer (seen base body).outgoing.transfer in
    let own : List ℕ = contexts_of_calls (seen base body).calls.own_open in
    let peer : List ℕ = contexts_of_calls (seen base body).calls.peer_open in
    let queue : List ℕ = acts.contexts_of_queue (mode_seen mode) (seen base body).outgoing.queue in
    let opens : List ℕ = map (λ (o : OpenCall). o.context) body.calls.opens in
    let queued : List ℕ = map (λ (item : Queued). item.context) body.sending.queue in
    let in_ : List ℕ → Bool = λ ks. sets.is_among k ks in
    among-append k ((t ++ own) ++ peer) queue ∙
    ap (λ b. b || in_ queue) (among-append k (t ++ own) peer) ∙
    ap (λ b. (b || in_ peer) || in_ queue) (among-append k t own) ∙
    ap (λ b. b || in_ queue) (or-assoc (in_ t) (in_ own) (in_ peer)) ∙
    ap (λ b. (in_ t || b) || in_ queue) (opens-among k [] [] body.calls.opens) ∙
    ap (λ ks. (sets.is_among k ks || is_among k opens) || in_ queue) (transfer-context base body.sending.current) ∙
    ap (λ ks. (sets.is_among k (context_of_current body.sending.current) || is_among k opens) || sets.is_among k ks) e ∙
    ap (λ b. (b || is_among k opens) || sets.is_among k queued) (among-seen k (context_of_current body.sending.current)) ∙
    ap (λ b. (is_among k (context_of_current body.sending.current) || is_among k opens) || b) (among-seen k queued) ∙
    sym (among-both k (context_of_current body.sending.current ++ opens) queued ∙ ap (λ b. b || is_among k queued) (among-both k (context_of_current body.sending.current) opens))

-- ---- the call

record Alterable (base : Base) (body : Body) (a : Alteration) (answer : Option ℤ) : Type 0 where
  calm : is_free body.link.awaits ≡ true
  turn : (is_reliable base.mode && not body.link.turn) ≡ false
  ending : is_current is_ending body.sending.current ≡ false
  count : nat_le most_alterations (length body.sets.own) ≡ false
  good : is_bad a ≡ false
  refused : alteration_refusal base body a ≡ None

alterable : (base : Base) (body : Body) (a : Alteration) (answer : Option ℤ) → can_alter base body a ≡ Ok answer → Alterable base body a answer
alterable base body a answer h =
    let p = passed (not body.link.manages) refusals.NotNegotiated _ answer h in
    let q = passed (not (is_free body.link.awaits)) refusals.Waiting _ answer p.later in
    let r = passed (is_reliable base.mode && not body.link.turn) refusals.NoTurn _ answer q.later in
    let s = passed (is_current is_ending body.sending.current) (refusals.Ending body.sending.started) _ answer r.later in
    let t = passed (nat_le most_alterations (length body.sets.own)) refusals.AlterPending _ answer s.later in
    let u = passed (is_bad a) refusals.BadProposal _ answer t.later in
    let v = not-refused (alteration_refusal base body a) (Ok None) answer u.later in
    record { calm = not-true (is_free body.link.awaits) q.holds; turn = r.holds; ending = s.holds; count = t.holds; good = u.holds; refused = v.holds }

not-ending : (base : Base) (t : Option Transfer) → is_current is_ending t ≡ false → acts.IsNotEnding (transfer_seen base t)
not-ending base None h = tt
not-ending base (Some t) h = go t.progress h
  where
    go : (p : Progress) → is_ending p ≡ false → (progress_seen p ≡ model_ending) → ⊥
    go Running h e = cc
    go Ending h e = cc
    go Suspended h e = cc

length-map : (own : List Alteration) → length (map items_seen own) ≡ length own
length-map [] = refl
length-map (a ∷ own) = ap suc (length-map own)

record MayAlter (mode : Mode) (base : Base) (body : Body) (a : Alteration) : Type 0 where
  has_place : length (seen base body).sets.own < most_alterations
  once : sets.AreDistinct (sets.named ((seen base body).sets.own ++ items_seen a ∷ []))
  may_ask : sets.AllMayAsk (role_seen base.initiator) (set_seen body.sets.held) (acts.used (mode_seen mode) (seen base body)) (items_seen a)

may-alter : (mode : Mode) (base : Base) (body : Body) (a : Alteration) (answer : Option ℤ) → sets.AreDistinct (sets.named (seen base body).sets.own) → acts.contexts_of_queue (mode_seen mode) (seen base body).outgoing.queue ≡ map (λ (item : Queued). item.context) body.sending.queue → Alterable base body a answer → MayAlter mode base body a
may-alter mode base body a answer distinct queue h =
    let u = unrefused (additions_refusal base body a.add) (or_else (deletions_refusal body a.delete) (if is_set_full body a then Some refusals.SetFull else None)) h.refused in
    let v = unrefused (deletions_refusal body a.delete) (if is_set_full body a then Some refusals.SetFull else None) u.later in
    let adds = adds-asked base body a.add u.first in
    let deletes = deletes-asked base body a.delete v.first in
    let doubles : has_double (named_ids a) ≡ false = or-right (is_empty (named_ids a)) (has_double (named_ids a)) (or-left (is_empty (named_ids a) || has_double (named_ids a)) (list_any is_no_context (named_ids a)) (or-left (is_empty (named_ids a) || has_double (named_ids a) || list_any is_no_context (named_ids a)) (list_any has_bad_transfers a.add) h.good)) in
    let names : sets.named (map items_seen body.sets.own ++ items_seen a ∷ []) ≡ sets.named (map items_seen body.sets.own) ++ named_ids a = named-snoc (map items_seen body.sets.own) (items_seen a) ∙ ap (λ ks. sets.named (map items_seen body.sets.own) ++ ks) (ids-named a) in
    record {
      has_place = subst (λ n. n < most_alterations) (sym (length-map body.sets.own)) (grind (arith, nat_tests, h.count));
      once = subst sets.AreDistinct (sym names) (distinct-append (sets.named (map items_seen body.sets.own)) (named_ids a) distinct (no-double (named_ids a) doubles) (new-append (sets.named (map items_seen body.sets.own)) (proposed_ids a.add) a.delete adds.new deletes.new));
      may_ask = adds.may (map Deletion a.delete) (acts.used (mode_seen mode) (seen base body)) (deletes.may (acts.used (mode_seen mode) (seen base body)) (λ k. used-among mode base body k queue));
    }

pub alter-direct_acts : (add : List Proposal) (delete : List ℕ) → AlterActs Direct add delete
alter-direct_acts add delete free base proposed body answer sound distinct h =
    let a : Alteration = alteration add delete in
    let c = called (at Direct base) body (the_calls.Alter add delete) answer h in
    let x = alterable (at Direct base) body a answer c.rows in
    let m = may-alter Direct (at Direct base) body a answer distinct (sym (ap (map (λ (item : Queued). item.context)) sound.queues)) x in
    record {
      may = record { is_free = is-free_there (at Direct base) body c.in_phase x.calm; has_place = m.has_place; in_mode = tt; once = m.once; may_ask = m.may_ask };
      after = alter-sent Direct add delete free base body;
      means = (refl, tt);
    }

pub alter-reliable_acts : (add : List Proposal) (delete : List ℕ) → AlterActs Reliable add delete
alter-reliable_acts add delete free base proposed body answer sound distinct h =
    let a : Alteration = alteration add delete in
    let c = called (at Reliable base) body (the_calls.Alter add delete) answer h in
    let x = alterable (at Reliable base) body a answer c.rows in
    let m = may-alter Reliable (at Reliable base) body a answer distinct (queue-contexts (at Reliable base) body.sending.queue) x in
    record {
      may = record { is_free = is-free_there (at Reliable base) body c.in_phase x.calm; has_place = m.has_place; in_mode = (not-true body.link.turn x.turn, not-ending (at Reliable base) body.sending.current x.ending); once = m.once; may_ask = m.may_ask };
      after = alter-sent Reliable add delete free base body;
      means = (refl, tt);
    }
