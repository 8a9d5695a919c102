-- Invocations and outcomes that are handed in.
use Rattle.std.proofs.Common.{◌≡◌, refl, true, false, ◌∙◌, sym, ap, subst, arith, ℕ, suc, ◌+◌, List}
use Rattle.std.proofs.Common.{[], ◌∷◌, ◌++◌, length}
use Rattle.std.specs.Prelude.{ℤ, pos, negsuc, Bool, not, ◌&&◌, ◌||◌, Option, Some, None, is_some}
use Rattle.std.specs.Prelude.{option_map, if◌then◌else◌, nat_eq, nat_lt, nat_le}
use Rattle.std.specs.Ordering.{int_eq}
use Rattle.std.proofs.lemmas.Bool.Decides.{nat_tests, Decides-int_eq}
use Rattle.osi_base.specs.declared.syntax.Pair.{Pair}
use Rattle.osi_base.specs.declared.layer_words.SetItem.{SetItem}
use Rattle.osi_base.specs.Limits.{last_invocation, most_open}
use Rattle.stub_tables.specs.declared.operation.Operation.{Operation}
use Rattle.stub_tables.specs.Codes.{is_silent}
use Rattle.stub_tables.specs.Lookup.{operation_at}
use Rattle.dialogue.specs.declared.call.CallRefusal.{CallRefusal}
use Rattle.dialogue.specs.declared.call.CallRefusal.TheVariants as refusals
use Rattle.end_rules.specs.Base.{Base}
use Rattle.end_rules.specs.Sets.{has_abstract, may_send, carrier, lowest_with, same_name}
use Rattle.osi_base.specs.SetPlaces.{pair_of}
use Rattle.end_rules.specs.Sets.{is_deleted_in, Alteration}
use Rattle.end_rules.specs.State.{Body, OpenCall, Calls, is_whose, is_key, opened_with, opens_of}
use Rattle.end_rules.specs.State.{closed, close}
use Rattle.end_rules.specs.Invoking.{next_id, is_linked_to, link_refusal, linking_refusal}
use Rattle.end_rules.specs.Hearing.{is_silent_at, with_opened}
use Rattle.agreement.specs.Messages as model
use Rattle.agreement.specs.Calls.{is_link_allowed, has_room, close as model_close}
use Rattle.end_model.specs.Seen.{Free, number_seen, opens_seen_on, calls_seen, setup_seen}
use Rattle.end_model.specs.OpenInvocations.{IsNumber, IsNamed, IsNumbered, AreNumbered}
use Rattle.dialogue.specs.declared.config.Mode.{Mode}
use Rattle.end_model.proofs.Held.{MaySend, may-send}
use Rattle.end_model.proofs.OpenInvocations.{joined-seen, found, link-found, found-seen, on_opened, on-some}
use Rattle.end_model.proofs.OpenInvocations.{closed-seen, others-seen, length-seen}

-- ---- numbers

pub number-next : (body : Body) → nat_le last_invocation body.calls.made ≡ false → number_seen (next_id body) ≡ suc body.calls.made
number-next body h = grind (arith, nat_tests)

pub next-is_number : (body : Body) → IsNumber (next_id body)
next-is_number body = (grind (arith, nat_tests), grind (arith, nat_tests))

-- an open invocation has a number, and it is the one that was asked for
pub record Opened (i : ℤ) (made : ℕ) (own : Bool) (o : OpenCall) : Type 0 where
  pub same : o.id ≡ i
  pub numbered : IsNumbered made o
  pub whose : is_whose own o ≡ true

and-left : (a b : Bool) → (a && b) ≡ true → a ≡ true
and-left true b h = refl
and-left false b h = cc

and-right : (a b : Bool) → (a && b) ≡ true → b ≡ true
and-right true b h = h
and-right false b h = cc

pub opened : (own : Bool) (i : ℤ) (made : ℕ) (os : List OpenCall) (o : OpenCall) → AreNumbered made os → opened_with own i os ≡ Some o → Opened i made own o
opened own i made [] o h e = cc
opened own i made (x ∷ os) o h e = go (opened own i made os o h.2) (is_key own i x) refl e
  where
    go : (opened_with own i os ≡ Some o → Opened i made own o) → (k : Bool) → is_key own i x ≡ k → (if k then Some x else opened_with own i os) ≡ Some o → Opened i made own o
    go later true k e =
        let s : x ≡ o = cc in
        let same : x.id ≡ i = (Decides-int_eq x.id i).0 (and-right (is_whose own x) (int_eq x.id i) k) in
        subst (Opened i made own) s (record { same = same; numbered = h.0; whose = and-left (is_whose own x) (int_eq x.id i) k })
    go later false k e = later e

pub id-is_number : (own : Bool) (i : ℤ) (made : ℕ) (os : List OpenCall) (o : OpenCall) → AreNumbered made os → opened_with own i os ≡ Some o → IsNumber i
id-is_number own i made os o h e = let x = opened own i made os o h e in subst IsNumber x.same x.numbered.is_number

-- ---- contexts

pub has-pair : (name : List ℕ) (held : List SetItem) (k : ℕ) → has_abstract name (pair_of held k) ≡ true → (pair : Pair) × (pair_of held k ≡ Some pair)
has-pair name held k h = go (pair_of held k) refl h
  where
    go : (p : Option Pair) → pair_of held k ≡ p → has_abstract name p ≡ true → (pair : Pair) × (pair_of held k ≡ Some pair)
    go None e h = cc
    go (Some pair) e h = (pair, e)

eq-refl : (n : ℕ) → nat_eq n n ≡ true
eq-refl n = grind (arith, nat_tests)

-- the lowest that may be sent is there
is-there : (item : SetItem) (items : List SetItem) (k : ℕ) → is_some (pair_of items k) ≡ true → is_some (pair_of (item ∷ items) k) ≡ true
is-there item items k h = go (nat_eq item.id k)
  where
    go : (b : Bool) → is_some (if b then Some item.pair else pair_of items k) ≡ true
    go true = refl
    go false = h

lowest-sends : (name : List ℕ) (own : List Alteration) (held : List SetItem) (k : ℕ) → lowest_with name own held ≡ Some k → may_send held own k ≡ true
lowest-sends name own [] k h = cc
lowest-sends name own (item ∷ items) k h = go (lowest-sends name own items k) (same_name item.pair.abstract_name name && not (is_deleted_in own item.id)) refl h
  where
    go : (lowest_with name own items ≡ Some k → may_send items own k ≡ true) → (b : Bool) → (same_name item.pair.abstract_name name && not (is_deleted_in own item.id)) ≡ b → (if b then Some item.id else lowest_with name own items) ≡ Some k → may_send (item ∷ items) own k ≡ true
    go later true e h =
        let s : item.id ≡ k = cc in
        let kept : not (is_deleted_in own item.id) ≡ true = and-right (same_name item.pair.abstract_name name) (not (is_deleted_in own item.id)) e in
        subst (λ j. may_send (item ∷ items) own j ≡ true) s (rw (eq-refl item.id, kept) refl)
    go later false e h =
        let m = later h in
        let there = and-left (is_some (pair_of items k)) (not (is_deleted_in own k)) m in
        let kept = and-right (is_some (pair_of items k)) (not (is_deleted_in own k)) m in
        rw (is-there item items k there, kept) refl

pub carrier-sends : (name : List ℕ) (held : List SetItem) (own : List Alteration) (c k : ℕ) → carrier name held own c ≡ Some k → MaySend held own k
carrier-sends name held own c k h = may-send held own k (go (may_send held own c) refl h)
  where
    go : (b : Bool) → may_send held own c ≡ b → (if b then Some c else lowest_with name own held) ≡ Some k → may_send held own k ≡ true
    go true e h = let s : c ≡ k = cc in subst (λ j. may_send held own j ≡ true) s e
    go false e h = lowest-sends name own held k h

-- ---- links and room

record LinkTo (base : Base) (place : ℕ) (x : Option OpenCall) : Type 0 where
  open_call : OpenCall
  is_it : x ≡ Some open_call
  allowed : is_linked_to (operation_at base.tables open_call.operation) place ≡ true

if-none : (b : Bool) (refusal : CallRefusal) → (if b then None else Some refusal) ≡ None → b ≡ true
if-none true refusal h = refl
if-none false refusal h = cc

link-to : (base : Base) (place : ℕ) (link : ℤ) (x : Option OpenCall) → link_refusal base place link x ≡ None → LinkTo base place x
link-to base place link None h = cc
link-to base place link (Some o) h =
    record { open_call = o; is_it = refl; allowed = if-none (is_linked_to (operation_at base.tables o.operation) place) (refusals.LinkNotAllowed link) h }

link-at : (free : Free) (mode : Mode) (base : Base) (place made : ℕ) (os : List OpenCall) (i : ℤ) (o : OpenCall) → AreNumbered made os → IsNumber i → opened_with false i os ≡ Some o → is_linked_to (operation_at base.tables o.operation) place ≡ true → is_link_allowed (setup_seen free mode base) (opens_seen_on false [] os) place (Some (number_seen i)) ≡ true
link-at free mode base place made os (negsuc n) o h i e l = absurd i
link-at free mode base place made os (pos n) o h i e l =
    link-found (setup_seen free mode base) place n (opens_seen_on false [] os) ∙
    found-seen (λ c. is_linked_to (operation_at base.tables c.operation) place) n false [] made os h ∙
    ap (on_opened (λ c. is_linked_to (operation_at base.tables c.operation) place) (found (λ c. is_linked_to (operation_at base.tables c.operation) place) n [])) e ∙
    on-some (λ c. is_linked_to (operation_at base.tables c.operation) place) (found (λ c. is_linked_to (operation_at base.tables c.operation) place) n []) o ∙ l

pub record Linking (free : Free) (mode : Mode) (base : Base) (body : Body) (place : ℕ) (linked : Option ℤ) : Type 0 where
  pub named : IsNamed linked
  pub allowed : is_link_allowed (setup_seen free mode base) (calls_seen body.calls).peer_open place (option_map number_seen linked) ≡ true

pub linking : (free : Free) (mode : Mode) (base : Base) (body : Body) (place : ℕ) (linked : Option ℤ) → AreNumbered body.calls.made body.calls.opens → linking_refusal base body place linked ≡ None → Linking free mode base body place linked
linking free mode base body place None h r = record { named = tt; allowed = refl }
linking free mode base body place (Some link) h r =
    let l = link-to base place link (opened_with false link body.calls.opens) r in
    let n : IsNumber link = id-is_number false link body.calls.made body.calls.opens l.open_call h l.is_it in
    record { named = n; allowed = link-at free mode base place body.calls.made body.calls.opens link l.open_call h n l.is_it l.allowed }

silent-at : (base : Base) (place : ℕ) (operation : Operation) → operation_at base.tables place ≡ Some operation → is_silent_at base (Some place) ≡ is_silent operation
silent-at base place operation e = rw e refl

pub room : (free : Free) (mode : Mode) (base : Base) (body : Body) (place : ℕ) (operation : Operation) → operation_at base.tables place ≡ Some operation → (not (is_silent operation) && nat_le most_open (length (opens_of true body.calls.opens))) ≡ false → has_room (setup_seen free mode base) place (calls_seen body.calls).own_open ≡ true
room free mode base body place operation e h =
    ap (λ b. b || nat_lt (length (opens_seen_on true [] body.calls.opens)) most_open) (silent-at base place operation e) ∙
    ap (λ n. is_silent operation || nat_lt n most_open) (length-seen true [] body.calls.opens) ∙
    within (is_silent operation) (length (opens_of true body.calls.opens)) h
  where
    within : (b : Bool) (n : ℕ) → (not b && nat_le most_open n) ≡ false → (b || nat_lt (0 + n) most_open) ≡ true
    within true n h = refl
    within false n h = grind (arith, nat_tests)

-- ---- what opens and what closes

pub own-opening : (base : Base) (place context : ℕ) (id : ℤ) (linked : Option ℤ) (calls : Calls) → calls_seen (with_opened base (record { own = true; id = id; operation = place; context = context; parent = linked }) (record calls { made = suc calls.made })) ≡ record (calls_seen calls) { own_open = (if is_silent_at base (Some place) then (calls_seen calls).own_open else record { number = number_seen id; operation = place; context = context } ∷ (calls_seen calls).own_open); made = suc calls.made }
own-opening base place context id linked calls = go (is_silent_at base (Some place))
  where
    go : (b : Bool) → calls_seen (if b then record calls { made = suc calls.made } else record (record calls { made = suc calls.made }) { opens = calls.opens ++ record { own = true; id = id; operation = place; context = context; parent = linked } ∷ [] }) ≡ record (calls_seen calls) { own_open = (if b then (calls_seen calls).own_open else record { number = number_seen id; operation = place; context = context } ∷ (calls_seen calls).own_open); made = suc calls.made }
    go true = refl
    go false =
        let put : List model.Invocation → List model.Invocation → model.Calls = λ own peer. record { own_open = own; peer_open = peer; made = suc calls.made } in
        ap (λ own. put own (opens_seen_on false [] (calls.opens ++ record { own = true; id = id; operation = place; context = context; parent = linked } ∷ []))) (joined-seen true [] calls.opens (record { own = true; id = id; operation = place; context = context; parent = linked })) ∙
        ap (λ peer. put (record { number = number_seen id; operation = place; context = context } ∷ opens_seen_on true [] calls.opens) peer) (joined-seen false [] calls.opens (record { own = true; id = id; operation = place; context = context; parent = linked }))

-- an invocation of this end, or of its peer, is closed
pub own-closed : (n : ℕ) (calls : Calls) → AreNumbered calls.made calls.opens → calls_seen (close true (pos n) calls) ≡ record (calls_seen calls) { own_open = model_close n (calls_seen calls).own_open }
own-closed n calls h =
    let put : List model.Invocation → List model.Invocation → model.Calls = λ own peer. record { own_open = own; peer_open = peer; made = calls.made } in
    ap (λ own. put own (opens_seen_on false [] (closed true (pos n) calls.opens))) (sym (closed-seen true n [] calls.made calls.opens h)) ∙
    ap (λ peer. put (model_close n (opens_seen_on true [] calls.opens)) peer) (others-seen true (pos n) [] calls.opens)

pub peers-closed : (n : ℕ) (calls : Calls) → AreNumbered calls.made calls.opens → calls_seen (close false (pos n) calls) ≡ record (calls_seen calls) { peer_open = model_close n (calls_seen calls).peer_open }
peers-closed n calls h =
    let put : List model.Invocation → List model.Invocation → model.Calls = λ own peer. record { own_open = own; peer_open = peer; made = calls.made } in
    ap (λ own. put own (opens_seen_on false [] (closed false (pos n) calls.opens))) (others-seen false (pos n) [] calls.opens) ∙
    ap (λ peer. put (opens_seen_on true [] calls.opens) peer) (sym (closed-seen false n [] calls.made calls.opens h))
