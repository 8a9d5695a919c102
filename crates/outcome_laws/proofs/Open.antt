-- What was told and what is open: no invocation is in both, whatever opens and closes.
use Rattle.std.proofs.Common.{inl, ◌≡◌, refl, true, false, ◌∙◌, sym, ap, subst, arith, ℕ, suc, List, [], ◌∷◌, ◌++◌}
use Rattle.std.specs.Prelude.{ℤ, pos, negsuc, Bool, ◌&&◌, ◌||◌, Some, is_some, if◌then◌else◌, nat_le}
use Rattle.std.specs.Ordering.{int_eq}
use Rattle.std.specs.List.{list_any}
use Rattle.std.proofs.lemmas.Bool.Decides.{nat_tests, Decides-int_eq}
use Rattle.std.proofs.lemmas.List.Folds.{list_any-append}
use Rattle.std.proofs.lemmas.List.{append-nil}
use Rattle.end_model.specs.end_rules.Members.{IsIn}
use Rattle.stub_tables.specs.declared.tables.Tables.{Tables}
use Rattle.stub_tables.specs.Lookup.{operation_at}
use Rattle.dialogue.specs.declared.indication.Indication.{Indication}
use Rattle.end_model.specs.end_rules.Base.{Base}
use Rattle.end_model.specs.end_rules.State.{OpenCall, Calls, is_key, opened_with, closed, close, orphaned}
use Rattle.end_model.specs.end_rules.Hearing.{is_silent_at, with_opened}
use Rattle.end_model.proofs.Numbered.{opened-snoc, opened-closed, same-own, same-id, same-key, or-first, or-second}
use Rattle.outcome_laws.specs.Exchanges.{AreDistinct, Asked, outcome_in, outcomes_in}
use Rattle.outcome_laws.specs.Outcomes.{IfOutcome, allows, Allowed, AreAllowed}
use Rattle.outcome_laws.proofs.Shown.{in-later, outcomes-append, each-on, each-append, each-quiet, notes_in, unnoted}

-- a number that this end gave
abbrev pub is_made : ℕ → ℤ → Bool
is_made made (pos n) = nat_le n made
is_made made (negsuc n) = false

abbrev pub asked_in : OpenCall → Asked
asked_in o = record { id = o.id; operation = o.operation }

-- each own one that is open was made, and asked for
abbrev pub OwnMade : List Asked → ℕ → List OpenCall → Type 0
OwnMade asked made [] = Unit {0}
OwnMade asked made (o ∷ os) = (o.own ≡ true → (is_made made o.id ≡ true) × IsIn (asked_in o) asked) × OwnMade asked made os

-- each was made, and none is open
abbrev pub AllTold : Calls → List ℤ → Type 0
AllTold calls [] = Unit {0}
AllTold calls (i ∷ is) = ((is_made calls.made i ≡ true) × (is_some (opened_with true i calls.opens) ≡ false)) × AllTold calls is

pub record Once (tables : Tables) (asked : List Asked) (calls : Calls) (shown : List Indication) : Type 0 where
  pub distinct : AreDistinct (outcomes_in shown)
  pub settled : AllTold calls (outcomes_in shown)
  pub own : OwnMade asked calls.made calls.opens
  pub allowed : AreAllowed tables asked shown

-- ---- identifiers

pub same-int : (i j : ℤ) → int_eq i j ≡ true → i ≡ j
same-int i j h = (Decides-int_eq i j).0 h

int-itself : (i : ℤ) → int_eq i i ≡ true
int-itself i = (Decides-int_eq i i).1 refl

int-way : (i j : ℤ) → int_eq i j ≡ false → int_eq j i ≡ false
int-way i j h = go (int_eq j i) refl
  where
    go : (b : Bool) → int_eq j i ≡ b → b ≡ false
    go false e = refl
    go true e = sym (int-itself i) ∙ ap (int_eq i) (sym (same-int j i e)) ∙ h

more-made : (made : ℕ) (i : ℤ) → is_made made i ≡ true → is_made (suc made) i ≡ true
more-made made (pos n) h = grind (arith, nat_tests, h)
more-made made (negsuc n) h = cc

not-next : (made : ℕ) (i : ℤ) → is_made made i ≡ true → int_eq (pos (suc made)) i ≡ false
not-next made (pos n) h = grind (arith, nat_tests, h)
not-next made (negsuc n) h = cc

is-next : (made : ℕ) → is_made (suc made) (pos (suc made)) ≡ true
is-next made = grind (arith, nat_tests)

-- ---- open invocations of this end

own-on : (asked more : List Asked) (made : ℕ) (os : List OpenCall) → OwnMade asked made os → OwnMade (more ++ asked) made os
own-on asked more made [] h = tt
own-on asked more made (o ∷ os) h = (λ e. ((h.0 e).0, in-later more asked (asked_in o) (h.0 e).1), own-on asked more made os h.1)

own-more : (asked : List Asked) (made : ℕ) (os : List OpenCall) → OwnMade asked made os → OwnMade asked (suc made) os
own-more asked made [] h = tt
own-more asked made (o ∷ os) h = (λ e. (more-made made o.id (h.0 e).0, (h.0 e).1), own-more asked made os h.1)

own-snoc : (asked : List Asked) (made : ℕ) (os : List OpenCall) (o : OpenCall) → OwnMade asked made os → (o.own ≡ true → (is_made made o.id ≡ true) × IsIn (asked_in o) asked) → OwnMade asked made (os ++ o ∷ [])
own-snoc asked made [] o h k = (k, tt)
own-snoc asked made (x ∷ os) o h k = (h.0, own-snoc asked made os o h.1 k)

same-asked : (own : Bool) (i : ℤ) (o : OpenCall) → asked_in (orphaned own i o) ≡ asked_in o
same-asked own i o = grind (arith)

own-closed : (asked : List Asked) (made : ℕ) (own : Bool) (i : ℤ) (os : List OpenCall) → OwnMade asked made os → OwnMade asked made (closed own i os)
own-closed asked made own i [] h = tt
own-closed asked made own i (o ∷ os) h = go (own-closed asked made own i os h.1) (is_key own i o) refl
  where
    go : OwnMade asked made (closed own i os) → (b : Bool) → is_key own i o ≡ b → OwnMade asked made (closed own i (o ∷ os))
    go later true e = rw e later
    go later false e =
        let root : (orphaned own i o).own ≡ true → (is_made made (orphaned own i o).id ≡ true) × IsIn (asked_in (orphaned own i o)) asked =
        λ w. (ap (is_made made) (same-id own i o) ∙ (h.0 (sym (same-own own i o) ∙ w)).0, subst (λ (x : Asked). IsIn x asked) (sym (same-asked own i o)) (h.0 (sym (same-own own i o) ∙ w)).1) in
        rw e (root, later)

-- what is found open under an identifier
pub record Found (asked : List Asked) (made : ℕ) (i : ℤ) (o : OpenCall) : Type 0 where
  pub is_its : o.id ≡ i
  pub made_it : is_made made i ≡ true
  pub asked_it : IsIn (asked_in o) asked

own-key : (asked : List Asked) (made : ℕ) (i : ℤ) (o : OpenCall) → (o.own ≡ true → (is_made made o.id ≡ true) × IsIn (asked_in o) asked) → is_key true i o ≡ true → Found asked made i o
own-key asked made i o h k = go o.own refl k
  where
    go : (w : Bool) → o.own ≡ w → (w && int_eq o.id i) ≡ true → Found asked made i o
    go true e k = record { is_its = same-int o.id i k; made_it = subst (λ (j : ℤ). is_made made j ≡ true) (same-int o.id i k) (h e).0; asked_it = (h e).1 }
    go false e k = cc

same-some : (x o : OpenCall) → Some x ≡ Some o → x ≡ o
same-some x o e = cc

pub found : (asked : List Asked) (made : ℕ) (i : ℤ) (os : List OpenCall) (o : OpenCall) → OwnMade asked made os → opened_with true i os ≡ Some o → Found asked made i o
found asked made i [] o h k = cc
found asked made i (x ∷ os) o h k = go (is_key true i x) refl (found asked made i os o h.1) k
  where
    go : (b : Bool) → is_key true i x ≡ b → (opened_with true i os ≡ Some o → Found asked made i o) → (if b then Some x else opened_with true i os) ≡ Some o → Found asked made i o
    go true e later k = subst (λ (y : OpenCall). Found asked made i y) (same-some x o k) (own-key asked made i x h.0 e)
    go false e later k = later k

closed-none : (i : ℤ) (os : List OpenCall) → is_some (opened_with true i (closed true i os)) ≡ false
closed-none i [] = refl
closed-none i (o ∷ os) = go (closed-none i os) (is_key true i o) refl
  where
    go : is_some (opened_with true i (closed true i os)) ≡ false → (b : Bool) → is_key true i o ≡ b → is_some (opened_with true i (closed true i (o ∷ os))) ≡ false
    go later true e = rw e later
    go later false e =
        let k : is_key true i (orphaned true i o) ≡ false = same-key true true i i o ∙ e in
        rw (e, k) later

-- ---- what was told

told-on : (calls later : Calls) (told : List ℤ) → ((i : ℤ) → is_made calls.made i ≡ true → is_some (opened_with true i calls.opens) ≡ false → (is_made later.made i ≡ true) × (is_some (opened_with true i later.opens) ≡ false)) → AllTold calls told → AllTold later told
told-on calls later [] f h = tt
told-on calls later (i ∷ is) f h = (f i h.0.0 h.0.1, told-on calls later is f h.1)

told-snoc : (calls : Calls) (told : List ℤ) (i : ℤ) → AllTold calls told → is_made calls.made i ≡ true → is_some (opened_with true i calls.opens) ≡ false → AllTold calls (told ++ i ∷ [])
told-snoc calls [] i h m n = ((m, n), tt)
told-snoc calls (j ∷ js) i h m n = (h.0, told-snoc calls js i h.1 m n)

-- an open one wasn't told of
open-untold : (calls : Calls) (told : List ℤ) (i : ℤ) → AllTold calls told → is_some (opened_with true i calls.opens) ≡ true → list_any (int_eq i) told ≡ false
open-untold calls [] i h k = refl
open-untold calls (j ∷ js) i h k = go (open-untold calls js i h.1 k) (int_eq i j) refl
  where
    go : list_any (int_eq i) js ≡ false → (b : Bool) → int_eq i j ≡ b → (b || list_any (int_eq i) js) ≡ false
    go later false e = later
    go later true e =
        let n : is_some (opened_with true i calls.opens) ≡ false = ap (λ (x : ℤ). is_some (opened_with true x calls.opens)) (same-int i j e) ∙ h.0.1 in
        cc

distinct-snoc : (told : List ℤ) (i : ℤ) → AreDistinct told → list_any (int_eq i) told ≡ false → AreDistinct (told ++ i ∷ [])
distinct-snoc [] i h n = (refl, tt)
distinct-snoc (j ∷ js) i h n =
    let apart : int_eq j i ≡ false = int-way i j (or-first (int_eq i j) (list_any (int_eq i) js) n) in
    let head : list_any (int_eq j) (js ++ i ∷ []) ≡ false = list_any-append (int_eq j) js (i ∷ []) ∙ ap (λ b. b || (int_eq j i || false)) h.0 ∙ ap (λ b. b || false) apart in
    (head, distinct-snoc js i h.1 (or-second (int_eq i j) (list_any (int_eq i) js) n))

-- ---- how they change

module _ (tables : Tables) where
  pub once-new : Once tables [] (record { opens = []; made = 0 }) []
  once-new = record { distinct = tt; settled = tt; own = tt; allowed = tt }

  pub once-untold : (asked : List Asked) (calls : Calls) (shown more : List Indication) → outcomes_in more ≡ [] → Once tables asked calls shown → Once tables asked calls (shown ++ more)
  once-untold asked calls shown more e h =
      let same : outcomes_in (shown ++ more) ≡ outcomes_in shown = outcomes-append shown more ∙ ap (λ xs. outcomes_in shown ++ xs) e ∙ append-nil (outcomes_in shown) in
      record {
        distinct = subst AreDistinct (sym same) h.distinct;
        settled = subst (AllTold calls) (sym same) h.settled;
        own = h.own;
        allowed = each-append (Allowed tables asked) shown more h.allowed (each-quiet (Allowed tables asked) more e);
      }

  pub once-still : (asked : List Asked) (calls : Calls) (shown more : List Indication) → notes_in more ≡ [] → Once tables asked calls shown → Once tables asked calls (shown ++ more)
  once-still asked calls shown more e h = once-untold asked calls shown more (unnoted more e) h

  pub once-cut : (asked : List Asked) (calls : Calls) (shown : List Indication) → Once tables asked calls shown → Once tables asked (record calls { opens = [] }) shown
  once-cut asked calls shown h =
      record { distinct = h.distinct; settled = told-on calls (record calls { opens = [] }) (outcomes_in shown) (λ i m n. (m, refl)) h.settled; own = tt; allowed = h.allowed }

  pub once-close : (own : Bool) (i : ℤ) (asked : List Asked) (calls : Calls) (shown : List Indication) → Once tables asked calls shown → Once tables asked (close own i calls) shown
  once-close own i asked calls shown h =
      record {
        distinct = h.distinct;
        settled = told-on calls (close own i calls) (outcomes_in shown) (λ j m n. (m, opened-closed own true i j calls.opens n)) h.settled;
        own = own-closed asked calls.made own i calls.opens h.own;
        allowed = h.allowed;
      }

  -- an outcome closes its invocation
  pub once-told : (i : ℤ) (o : OpenCall) (asked : List Asked) (calls : Calls) (shown : List Indication) (indication : Indication) → outcome_in indication ≡ i ∷ [] → opened_with true i calls.opens ≡ Some o → allows (operation_at tables o.operation) indication ≡ true → Once tables asked calls shown → Once tables asked (close true i calls) (shown ++ indication ∷ [])
  once-told i o asked calls shown indication e k a h =
      let after : Once tables asked (close true i calls) shown = once-close true i asked calls shown h in
      let f : Found asked calls.made i o = found asked calls.made i calls.opens o h.own k in
      let same : outcomes_in (shown ++ indication ∷ []) ≡ outcomes_in shown ++ i ∷ [] = outcomes-append shown (indication ∷ []) ∙ ap (λ xs. outcomes_in shown ++ xs) (ap (λ xs. xs ++ []) e) in
      let one : Allowed tables asked indication = record { invocation = asked_in o; is_own = f.asked_it; is_its = e ∙ ap (λ (x : ℤ). x ∷ []) (sym f.is_its); is_allowed = a } in
      record {
        distinct = subst AreDistinct (sym same) (distinct-snoc (outcomes_in shown) i h.distinct (open-untold calls (outcomes_in shown) i h.settled (ap is_some k)));
        settled = subst (AllTold (close true i calls)) (sym same) (told-snoc (close true i calls) (outcomes_in shown) i after.settled f.made_it (closed-none i calls.opens));
        own = after.own;
        allowed = each-append (Allowed tables asked) shown (indication ∷ []) h.allowed (subst (λ (ids : List ℤ). IfOutcome ids (Allowed tables asked indication)) (sym e) one, tt);
      }

  -- an invocation of the other end
  peer-key : (o : OpenCall) (i : ℤ) → o.own ≡ false → is_key true i o ≡ false
  peer-key o i e = ap (λ (w : Bool). w && int_eq o.id i) e

  with-peer : (asked : List Asked) (calls : Calls) (o : OpenCall) (shown : List Indication) → o.own ≡ false → Once tables asked calls shown → Once tables asked (record calls { opens = calls.opens ++ o ∷ [] }) shown
  with-peer asked calls o shown e h =
      record {
        distinct = h.distinct;
        settled = told-on calls (record calls { opens = calls.opens ++ o ∷ [] }) (outcomes_in shown) (λ i m n. (m, opened-snoc true i calls.opens o ∙ ap (λ b. b || is_key true i o) n ∙ peer-key o i e)) h.settled;
        own = own-snoc asked calls.made calls.opens o h.own (λ w. not-own e w);
        allowed = h.allowed;
      }
    where
      not-own : o.own ≡ false → o.own ≡ true → (is_made calls.made o.id ≡ true) × IsIn (asked_in o) asked
      not-own e w = cc

  pub once-peer : (base : Base) (o : OpenCall) (asked : List Asked) (calls : Calls) (shown : List Indication) → o.own ≡ false → Once tables asked calls shown → Once tables asked (with_opened base o calls) shown
  once-peer base o asked calls shown e h = go (is_silent_at base (Some o.operation))
    where
      go : (b : Bool) → Once tables asked (if b then calls else record calls { opens = calls.opens ++ o ∷ [] }) shown
      go true = h
      go false = with-peer asked calls o shown e h

  -- more was asked for
  pub once-asked : (asked more : List Asked) (calls : Calls) (shown : List Indication) → Once tables asked calls shown → Once tables (more ++ asked) calls shown
  once-asked asked more calls shown h =
      record {
        distinct = h.distinct;
        settled = h.settled;
        own = own-on asked more calls.made calls.opens h.own;
        allowed = each-on (Allowed tables asked) (Allowed tables (more ++ asked)) shown (λ i a. record { invocation = a.invocation; is_own = in-later more asked a.invocation a.is_own; is_its = a.is_its; is_allowed = a.is_allowed }) h.allowed;
      }

  -- an own invocation has the next number
  own-key-of : (made : ℕ) (o : OpenCall) (i : ℤ) → o.own ≡ true → o.id ≡ pos (suc made) → is_made made i ≡ true → is_key true i o ≡ false
  own-key-of made o i w e m = ap (λ (x : Bool). x && int_eq o.id i) w ∙ ap (λ (x : ℤ). int_eq x i) e ∙ not-next made i m

  counted : (asked : List Asked) (calls : Calls) (shown : List Indication) → Once tables asked calls shown → Once tables asked (record calls { made = suc calls.made }) shown
  counted asked calls shown h =
      record {
        distinct = h.distinct;
        settled = told-on calls (record calls { made = suc calls.made }) (outcomes_in shown) (λ i m n. (more-made calls.made i m, n)) h.settled;
        own = own-more asked calls.made calls.opens h.own;
        allowed = h.allowed;
      }

  pub once-own : (base : Base) (o : OpenCall) (asked : List Asked) (calls : Calls) (shown : List Indication) → o.own ≡ true → o.id ≡ pos (suc calls.made) → Once tables asked calls shown → Once tables (asked_in o ∷ asked) (with_opened base o (record calls { made = suc calls.made })) shown
  once-own base o asked calls shown w e h = go (is_silent_at base (Some o.operation))
    where
      later : Once tables (asked_in o ∷ asked) (record calls { made = suc calls.made }) shown
      later = once-asked asked (asked_in o ∷ []) (record calls { made = suc calls.made }) shown (counted asked calls shown h)

      opened : Once tables (asked_in o ∷ asked) (record { opens = calls.opens ++ o ∷ []; made = suc calls.made }) shown
      opened =
          record {
            distinct = h.distinct;
            settled = told-on calls (record { opens = calls.opens ++ o ∷ []; made = suc calls.made }) (outcomes_in shown) (λ i m n. (more-made calls.made i m, opened-snoc true i calls.opens o ∙ ap (λ b. b || is_key true i o) n ∙ own-key-of calls.made o i w e m)) h.settled;
            own = own-snoc (asked_in o ∷ asked) (suc calls.made) calls.opens o later.own (λ x. (subst (λ (j : ℤ). is_made (suc calls.made) j ≡ true) (sym e) (is-next calls.made), inl refl));
            allowed = later.allowed;
          }

      go : (b : Bool) → Once tables (asked_in o ∷ asked) (if b then record calls { made = suc calls.made } else record calls { opens = calls.opens ++ o ∷ []; made = suc calls.made }) shown
      go true = later
      go false = opened
