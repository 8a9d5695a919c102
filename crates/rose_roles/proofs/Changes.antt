-- Opening and closing an invocation, in the forest and among those of its end.
use Rattle.std.proofs.Common.{◌≡◌, ℤ, Bool, true, false, not, ◌||◌, ◌&&◌, cond, List, [], ◌∷◌, ◌++◌, Option, Some, None, Err, is_some, refl, sym, ap, subst, ◌∙◌}
use Rattle.std.specs.Option.{option_map}
use Rattle.std.specs.declared.cmp.Ordering.{Ordering}
use Rattle.std.specs.declared.cmp.Ordering.TheVariants.{Less, Equal, Greater}
use Rattle.std.specs.Ordering.{is_eq, int_eq, int_cmp, match_ordering}
use Rattle.std.specs.Map.{remove_entry}
use Rattle.std.specs.BTreeMap.{is_at, insert_entry}
use Rattle.linked_ops.specs.declared.key.Key.{Key}
use Rattle.linked_ops.specs.declared.key.ForestRefusal.{ForestRefusal}
use Rattle.linked_ops.specs.declared.key.ForestRefusal.TheVariants as refusals
use Rattle.linked_ops.specs.Opening.{IsOpened}
use Rattle.linked_ops.specs.Keys.{same_bool, same_key}
use Rattle.linked_ops.specs.Entries.{Entry, is_open, closed}
use Rattle.end_wire.specs.end_rules.State as ends
use Rattle.rose_roles.specs.declared.invoked_with.InvokedWith.{InvokedWith}
use Rattle.rose_roles.specs.Calls.{Kept, called, key_of, side, operation_or_none, context_or_none, parent_in, AreOpen, open_calls_in}
use Rattle.rose_roles.proofs.Keys.{id_is, ids_are, key_is, keys_are, bool_cases, or_true, AreApart, open_closed, shut_closed}
use Rattle.rose_roles.proofs.Opens.{same_opens, snoc, closing}

-- ---- taking a key away again

module _ (id : ℤ) (v : InvokedWith) where
  by_order : (e : ℤ × InvokedWith) (es : Kept) → called id (e ∷ es) ≡ None → (called id es ≡ None → remove_entry (is_at (int_cmp id)) (insert_entry int_cmp es id v) ≡ es) → (o : Ordering) → int_cmp id e.0 ≡ o
      → remove_entry (is_at (int_cmp id)) (match_ordering o ((id, v) ∷ e ∷ es) ((e.0, v) ∷ es) (e ∷ insert_entry int_cmp es id v)) ≡ e ∷ es
  by_order e es h again Less o = ap (λ (b : Bool). cond b (e ∷ es) ((id, v) ∷ remove_entry (is_at (int_cmp id)) (e ∷ es))) (id_is id)
  by_order e es h again Equal o =
      let t : is_at (int_cmp id) e.0 ≡ true = ap (λ (x : Ordering). is_eq x) o in
      let x : called id (e ∷ es) ≡ Some e.1 = ap (λ (b : Bool). cond b (Some e.1) (called id es)) t in
      let y : None ≡ Some e.1 = sym h ∙ x in cc
  by_order e es h again Greater o =
      let f : is_at (int_cmp id) e.0 ≡ false = ap (λ (x : Ordering). is_eq x) o in
      let n : called id es ≡ None = sym (ap (λ (b : Bool). cond b (Some e.1) (called id es)) f) ∙ h in
      ap (λ (b : Bool). cond b (insert_entry int_cmp es id v) (e ∷ remove_entry (is_at (int_cmp id)) (insert_entry int_cmp es id v))) f ∙ ap (λ (x : Kept). e ∷ x) (again n)

  pub again : (es : Kept) → called id es ≡ None → remove_entry (is_at (int_cmp id)) (insert_entry int_cmp es id v) ≡ es
  again [] h = ap (λ (b : Bool). cond b [] ((id, v) ∷ [])) (id_is id)
  again (e ∷ es) h = by_order e es h (again es) (int_cmp id e.0) refl

-- ---- tests of keys

apart_sym : (a b : Key) → same_key a b ≡ false → same_key b a ≡ false
apart_sym a b n =
    bool_cases (same_key b a) (λ t. let x : same_key a b ≡ true = subst (λ (z : Key). same_key a z ≡ true) (sym (keys_are b a t)) (key_is a) in let y : true ≡ false = sym x ∙ n in absurd cc) (λ f. f)

pub ids_apart : (a b : ℤ) → int_eq a b ≡ false → int_eq b a ≡ false
ids_apart a b n =
    bool_cases (int_eq b a) (λ t. let x : int_eq a b ≡ true = subst (λ (z : ℤ). int_eq a z ≡ true) (sym (ids_are b a t)) (id_is a) in let y : true ≡ false = sym x ∙ n in absurd cc) (λ f. f)

one_end : (own : Bool) (a b : ℤ) → same_key (key_of own a) (key_of own b) ≡ int_eq a b
one_end true a b = refl
one_end false a b = refl

other_end : (own b : Bool) (p q : ℤ) → same_bool own b ≡ false → same_key (key_of own p) (key_of b q) ≡ false
other_end own b p q n = ap (λ (x : Bool). x && int_eq p q) n

none_more : (a : Bool) → (a || false) ≡ a
none_more true = refl
none_more false = refl

open_snoc : (k : Key) (es : List Entry) (e : Entry) → is_open k (es ++ e ∷ []) ≡ (is_open k es || same_key e.0 k)
open_snoc k [] e = none_more (same_key e.0 k)
open_snoc k (x ∷ es) e = ap (λ (b : Bool). same_key x.0 k || b) (open_snoc k es e) ∙ assoc (same_key x.0 k) (is_open k es) (same_key e.0 k)
  where
    assoc : (a b c : Bool) → (a || (b || c)) ≡ ((a || b) || c)
    assoc true b c = refl
    assoc false b c = refl

-- ---- an invocation is opened

module _ (own : Bool) (id : ℤ) (call : InvokedWith) (kept more : Kept) (updated : (q : ℤ) → called q more ≡ cond (int_eq id q) (Some call) (called q kept)) where
  pub new : called id more ≡ Some call
  new = updated id ∙ ap (λ (b : Bool). cond b (Some call) (called id kept)) (id_is id)

  pub kept_more : (q : ℤ) → int_eq id q ≡ false → called q more ≡ called q kept
  kept_more q n = updated q ∙ ap (λ (b : Bool). cond b (Some call) (called q kept)) n

  pub open_entered : (es : List Entry) (above : Option Key) → AreOpen own es kept → AreOpen own (es ++ (key_of own id, above) ∷ []) more
  open_entered es above h =
      record {
        each = λ q.
            bool_cases (int_eq id q)
            (λ t.
            open_snoc (key_of own q) es (key_of own id, above) ∙ or_true (is_open (key_of own q) es) _ (one_end own id q ∙ t)
            ∙ sym (ap is_some (updated q ∙ ap (λ (b : Bool). cond b (Some call) (called q kept)) t)))
            (λ n.
            open_snoc (key_of own q) es (key_of own id, above) ∙ ap (λ (b : Bool). is_open (key_of own q) es || b) (one_end own id q ∙ n)
            ∙ none_more (is_open (key_of own q) es) ∙ h.each q ∙ sym (ap is_some (kept_more q n)));
      }

pub open_beside : (own b : Bool) (id : ℤ) (kept : Kept) (es : List Entry) (above : Option Key) → same_bool own b ≡ false → AreOpen b es kept → AreOpen b (es ++ (key_of own id, above) ∷ []) kept
open_beside own b id kept es above n h =
    record {
      each = λ q.
          open_snoc (key_of b q) es (key_of own id, above) ∙ ap (λ (x : Bool). is_open (key_of b q) es || x) (other_end own b id q n) ∙ none_more (is_open (key_of b q) es) ∙ h.each q;
    }

parent_is : (own : Bool) (linked : Option ℤ) → parent_in own (option_map (key_of (not own)) linked) ≡ linked
parent_is own None = refl
parent_is true (Some l) = refl
parent_is false (Some l) = refl

module _ (own : Bool) (id : ℤ) (call : InvokedWith) (linked : Option ℤ) (i p j r : Kept) where
  abbrev entry : Entry
  entry = (key_of own id, option_map (key_of (not own)) linked)

  pub entering : (es : List Entry) → is_open (key_of own id) es ≡ false → called id (side own j r) ≡ Some call
      → ((b : Bool) (q : ℤ) → same_key (key_of b q) (key_of own id) ≡ false → called q (side b j r) ≡ called q (side b i p))
      → open_calls_in (es ++ entry ∷ []) j r ≡ open_calls_in es i p ++ record { own = own; id = id; operation = call.operation; context = call.context; parent = linked } ∷ []
  entering es n new old =
      let x = same_opens es i p j r (λ b q o. old b q (bool_cases (same_key (key_of b q) (key_of own id)) (λ t. let y : is_open (key_of own id) es ≡ true = subst (λ (z : Key). is_open z es ≡ true) (keys_are (key_of b q) (key_of own id) t) o in let z : true ≡ false = sym y ∙ n in absurd cc) (λ f. f))) in
      let y = parent_is own linked in
      snoc j r es entry ∙ (λ k. x k ++ record { own = own; id = id; operation = operation_or_none (new k); context = context_or_none (new k); parent = y k } ∷ [])

-- the sides of a change at one end
pub own_side : (id : ℤ) (call : InvokedWith) (kept more p : Kept) → ((q : ℤ) → int_eq id q ≡ false → called q more ≡ called q kept) → (b : Bool) (q : ℤ) → same_key (key_of b q) (key_of true id) ≡ false → called q (side b more p) ≡ called q (side b kept p)
own_side id call kept more p h true q n = h q (ids_apart q id n)
own_side id call kept more p h false q n = refl

pub peer_side : (id : ℤ) (call : InvokedWith) (i kept more : Kept) → ((q : ℤ) → int_eq id q ≡ false → called q more ≡ called q kept) → (b : Bool) (q : ℤ) → same_key (key_of b q) (key_of false id) ≡ false → called q (side b i more) ≡ called q (side b i kept)
peer_side id call i kept more h true q n = refl
peer_side id call i kept more h false q n = h q (ids_apart q id n)

-- ---- an invocation is closed

module _ (own : Bool) (id : ℤ) (kept less : Kept) (updated : (q : ℤ) → called q less ≡ cond (int_eq id q) None (called q kept)) where
  pub kept_less : (q : ℤ) → int_eq id q ≡ false → called q less ≡ called q kept
  kept_less q n = updated q ∙ ap (λ (b : Bool). cond b None (called q kept)) n

  pub open_left : (es : List Entry) → AreApart es → AreOpen own es kept → AreOpen own (closed (key_of own id) es) less
  open_left es a h =
      record {
        each = λ q.
            bool_cases (int_eq id q)
            (λ t.
            subst (λ (z : ℤ). is_open (key_of own z) (closed (key_of own id) es) ≡ false) (ids_are id q t) (shut_closed (key_of own id) es a)
            ∙ sym (ap is_some (updated q ∙ ap (λ (b : Bool). cond b None (called q kept)) t)))
            (λ n. open_closed (key_of own id) (key_of own q) es (one_end own id q ∙ n) ∙ h.each q ∙ sym (ap is_some (kept_less q n)));
      }

pub open_still : (own b : Bool) (id : ℤ) (kept : Kept) (es : List Entry) → same_bool own b ≡ false → AreOpen b es kept → AreOpen b (closed (key_of own id) es) kept
open_still own b id kept es n h =
    record { each = λ q. open_closed (key_of own id) (key_of b q) es (other_end own b id q n) ∙ h.each q }

pub leaving : (own : Bool) (id : ℤ) (i p j r : Kept) (es : List Entry) → AreApart es
    → ((b : Bool) (q : ℤ) → same_key (key_of b q) (key_of own id) ≡ false → called q (side b j r) ≡ called q (side b i p))
    → open_calls_in (closed (key_of own id) es) j r ≡ ends.closed own id (open_calls_in es i p)
leaving own id i p j r es a old = closing i p j r own id es a (λ b q o n. old b q n)

-- ---- as the calls say it

pub refused_same : (k : Key) (above : Option Key) (old new : List Entry) (e : ForestRefusal) → IsOpened k above old new (Err e) → new ≡ old
refused_same k above old new (refusals.Present x) h = h.2
refused_same k above old new (refusals.ParentAbsent x) h = h.3
refused_same k above old new refusals.NoMemory h = h

pub shut_by : (own : Bool) (id : ℤ) (es : List Entry) (kept : Kept) → AreOpen own es kept → is_open (key_of own id) es ≡ false → called id kept ≡ None
shut_by own id es kept h n = none (called id kept) (sym (h.each id) ∙ n)
  where
    none : (c : Option InvokedWith) → is_some c ≡ false → c ≡ None
    none None e = refl
    none (Some c) e = absurd cc

module _ (id : ℤ) (call : InvokedWith) (linked : Option ℤ) (kept more : Kept) (updated : (q : ℤ) → called q more ≡ cond (int_eq id q) (Some call) (called q kept)) (es fs : List Entry) where
  module _ (placed : fs ≡ es ++ (key_of true id, option_map (key_of false) linked) ∷ []) where
    pub opens_own : (performed : Kept) (z : ℤ) → id ≡ z → is_open (key_of true z) es ≡ false
        → open_calls_in fs more performed ≡ open_calls_in es kept performed ++ record { own = true; id = z; operation = call.operation; context = call.context; parent = linked } ∷ []
    opens_own performed z e n =
        ap (λ (f : List Entry). open_calls_in f more performed) placed
        ∙ entering true id call linked kept performed more performed es (subst (λ (y : ℤ). is_open (key_of true y) es ≡ false) (sym e) n) (new true id call kept more updated) (own_side id call kept more performed (kept_more true id call kept more updated))
        ∙ ap (λ (y : ℤ). open_calls_in es kept performed ++ record { own = true; id = y; operation = call.operation; context = call.context; parent = linked } ∷ []) e

    pub own_after : AreOpen true es kept → AreOpen true fs more
    own_after h = subst (λ (f : List Entry). AreOpen true f more) (sym placed) (open_entered true id call kept more updated es _ h)

    pub peer_after : (performed : Kept) → AreOpen false es performed → AreOpen false fs performed
    peer_after performed h = subst (λ (f : List Entry). AreOpen false f performed) (sym placed) (open_beside true false id performed es _ refl h)

  module _ (placed : fs ≡ es ++ (key_of false id, option_map (key_of true) linked) ∷ []) where
    pub opens_peer : (invoked : Kept) → is_open (key_of false id) es ≡ false
        → open_calls_in fs invoked more ≡ open_calls_in es invoked kept ++ record { own = false; id = id; operation = call.operation; context = call.context; parent = linked } ∷ []
    opens_peer invoked n =
        ap (λ (f : List Entry). open_calls_in f invoked more) placed
        ∙ entering false id call linked invoked kept invoked more es n (new false id call kept more updated) (peer_side id call invoked kept more (kept_more false id call kept more updated))

    pub their_after : AreOpen false es kept → AreOpen false fs more
    their_after h = subst (λ (f : List Entry). AreOpen false f more) (sym placed) (open_entered false id call kept more updated es _ h)

    pub ours_after : (invoked : Kept) → AreOpen true es invoked → AreOpen true fs invoked
    ours_after invoked h = subst (λ (f : List Entry). AreOpen true f invoked) (sym placed) (open_beside false true id invoked es _ refl h)

pub not_open : (own : Bool) (id : ℤ) (es : List Entry) (kept : Kept) → AreOpen own es kept → called id kept ≡ None → is_open (key_of own id) es ≡ false
not_open own id es kept h e = h.each id ∙ ap is_some e

module _ (id : ℤ) (kept less : Kept) (updated : (q : ℤ) → called q less ≡ cond (int_eq id q) None (called q kept)) (es fs : List Entry) where
  pub leaves_own : (performed : Kept) → AreApart es → fs ≡ closed (key_of true id) es → open_calls_in fs less performed ≡ ends.closed true id (open_calls_in es kept performed)
  leaves_own performed a e =
      ap (λ (f : List Entry). open_calls_in f less performed) e ∙ leaving true id kept performed less performed es a (own_side_less performed)
    where
      own_side_less : (performed : Kept) (b : Bool) (q : ℤ) → same_key (key_of b q) (key_of true id) ≡ false → called q (side b less performed) ≡ called q (side b kept performed)
      own_side_less performed true q n = kept_less true id kept less updated q (ids_apart q id n)
      own_side_less performed false q n = refl

  pub leaves_peer : (invoked : Kept) → AreApart es → fs ≡ closed (key_of false id) es → open_calls_in fs invoked less ≡ ends.closed false id (open_calls_in es invoked kept)
  leaves_peer invoked a e =
      ap (λ (f : List Entry). open_calls_in f invoked less) e ∙ leaving false id invoked kept invoked less es a (peer_side_less invoked)
    where
      peer_side_less : (invoked : Kept) (b : Bool) (q : ℤ) → same_key (key_of b q) (key_of false id) ≡ false → called q (side b invoked less) ≡ called q (side b invoked kept)
      peer_side_less invoked true q n = refl
      peer_side_less invoked false q n = kept_less false id kept less updated q (ids_apart q id n)

  pub left_after : (own : Bool) → AreApart es → fs ≡ closed (key_of own id) es → AreOpen own es kept → AreOpen own fs less
  left_after own a e h = subst (λ (f : List Entry). AreOpen own f less) (sym e) (open_left own id kept less updated es a h)

pub beside_after : (own b : Bool) (id : ℤ) (es fs : List Entry) → same_bool own b ≡ false → fs ≡ closed (key_of own id) es → (other : Kept) → AreOpen b es other → AreOpen b fs other
beside_after own b id es fs n e other h = subst (λ (f : List Entry). AreOpen b f other) (sym e) (open_still own b id other es n h)
