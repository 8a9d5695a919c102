-- The list of open invocations as keys are opened and closed.
use Rattle.std.proofs.Common.{◌≡◌, ℤ, Bool, true, false, not, ◌&&◌, cond, List, [], ◌∷◌, ◌++◌, map, filter, Option, Some, None, refl, sym, ap, subst, ◌∙◌}
use Rattle.std.specs.Ordering.{int_eq}
use Rattle.linked_ops.specs.declared.key.Key.{Key}
use Rattle.linked_ops.specs.Keys.{same_bool, same_key}
use Rattle.linked_ops.specs.Entries.{Entry, is_open, orphaned, without, closed}
use Rattle.end_wire.specs.end_rules.State as ends
use Rattle.rose_roles.specs.declared.invoked_with.InvokedWith.{InvokedWith}
use Rattle.rose_roles.specs.Calls.{Kept, called, key_of, side, operation_or_none, context_or_none, parent_in, open_call, open_calls_in}
use Rattle.rose_roles.proofs.Keys.{key_is, keys_are, bool_cases, or_true, or_first, or_none, or_rest, AreApart}

abbrev pub call_with : Entry → Option InvokedWith → ends.OpenCall
call_with e c = record { own = e.0.own; id = e.0.id; operation = operation_or_none c; context = context_or_none c; parent = parent_in e.0.own e.1 }

whose : (b o : Bool) → cond b o (not o) ≡ same_bool o b
whose true true = refl
whose true false = refl
whose false true = refl
whose false false = refl

-- ---- what is kept of open keys alone counts

pub same_opens : (es : List Entry) (i p j q : Kept) → ((own : Bool) (id : ℤ) → is_open (key_of own id) es ≡ true → called id (side own j q) ≡ called id (side own i p)) → open_calls_in es j q ≡ open_calls_in es i p
same_opens [] i p j q h = refl
same_opens (e ∷ es) i p j q h =
    let x = h e.0.own e.0.id (or_first (same_key e.0 e.0) _ (key_is e.0)) in
    let more = same_opens es i p j q (λ own id o. h own id (or_true (same_key e.0 (key_of own id)) _ o)) in
    λ k. call_with e (x k) ∷ more k

module _ (i p : Kept) where
  pub snoc : (es : List Entry) (e : Entry) → open_calls_in (es ++ e ∷ []) i p ≡ open_calls_in es i p ++ open_call i p e ∷ []
  snoc [] e = refl
  snoc (x ∷ es) e = ap (λ (os : List ends.OpenCall). open_call i p x ∷ os) (snoc es e)

  module _ (b : Bool) (id : ℤ) where
    key_test : (e : Entry) → ends.is_key b id (open_call i p e) ≡ same_key e.0 (key_of b id)
    key_test e = ap (λ (x : Bool). x && int_eq e.0.id id) (whose b e.0.own)

    pub found : (es : List Entry) → is_open (key_of b id) es ≡ true
        → (o : ends.OpenCall) × (ends.opened_with b id (open_calls_in es i p) ≡ Some o) × (o.operation ≡ operation_or_none (called id (side b i p)))
    found [] h = absurd cc
    found (e ∷ es) h =
        bool_cases (same_key e.0 (key_of b id))
        (λ t. (
          open_call i p e,
          ap (λ (c : Bool). cond c (Some (open_call i p e)) (ends.opened_with b id (open_calls_in es i p))) (key_test e ∙ t),
          ap (λ (z : Key). operation_or_none (called z.id (side z.own i p))) (keys_are e.0 (key_of b id) t),
        ))
        (λ f.
        let r = found es (sym (or_rest (same_key e.0 (key_of b id)) _ f) ∙ h) in
        (r.0, ap (λ (c : Bool). cond c (Some (open_call i p e)) (ends.opened_with b id (open_calls_in es i p))) (key_test e ∙ f) ∙ r.1, r.2))

    pub not_found : (es : List Entry) → is_open (key_of b id) es ≡ false → ends.opened_with b id (open_calls_in es i p) ≡ None
    not_found [] h = refl
    not_found (e ∷ es) h =
        let n = or_none (same_key e.0 (key_of b id)) _ h in
        ap (λ (c : Bool). cond c (Some (open_call i p e)) (ends.opened_with b id (open_calls_in es i p))) (key_test e ∙ n.0) ∙ not_found es n.1

-- ---- a key that is closed

abbrev K : Bool → ℤ → Key
K own id = record { own = own; id = id }

abbrev child : Option ℤ → Bool → Bool
child None t = false
child (Some parent) t = t

abbrev rooted : ends.OpenCall → Bool → Bool → ends.OpenCall
rooted o b t = cond (child o.parent t && not (cond b o.own (not o.own))) (record o { parent = None }) o

orphan_by : (own above b t : Bool) (id to : ℤ) (c : Option InvokedWith) → call_with (K own id, cond (same_bool above b && t) None (Some (K above to))) c ≡ rooted (call_with (K own id, Some (K above to)) c) b t
orphan_by true true true true id to c = refl
orphan_by true true true false id to c = refl
orphan_by true true false true id to c = refl
orphan_by true true false false id to c = refl
orphan_by true false true true id to c = refl
orphan_by true false true false id to c = refl
orphan_by true false false true id to c = refl
orphan_by true false false false id to c = refl
orphan_by false true true true id to c = refl
orphan_by false true true false id to c = refl
orphan_by false true false true id to c = refl
orphan_by false true false false id to c = refl
orphan_by false false true true id to c = refl
orphan_by false false true false id to c = refl
orphan_by false false false true id to c = refl
orphan_by false false false false id to c = refl

orphan_under : (own above b : Bool) (id to key : ℤ) (c : Option InvokedWith) → call_with (orphaned (K b key) (K own id, Some (K above to))) c ≡ ends.orphaned b key (call_with (K own id, Some (K above to)) c)
orphan_under true true true id to key c = orphan_by true true true (int_eq to key) id to c
orphan_under true true false id to key c = orphan_by true true false (int_eq to key) id to c
orphan_under true false true id to key c = orphan_by true false true (int_eq to key) id to c
orphan_under true false false id to key c = orphan_by true false false (int_eq to key) id to c
orphan_under false true true id to key c = orphan_by false true true (int_eq to key) id to c
orphan_under false true false id to key c = orphan_by false true false (int_eq to key) id to c
orphan_under false false true id to key c = orphan_by false false true (int_eq to key) id to c
orphan_under false false false id to key c = orphan_by false false false (int_eq to key) id to c

orphan : (k : Key) (above : Option Key) (b : Bool) (key : ℤ) (c : Option InvokedWith) → call_with (orphaned (K b key) (k, above)) c ≡ ends.orphaned b key (call_with (k, above) c)
orphan k None b key c = refl
orphan k (Some above) b key c = orphan_under k.own above.own b k.id above.id key c

module _ (i p j q : Kept) (b : Bool) (id : ℤ) where
  abbrev Kept_ : List Entry → Type 0
  Kept_ es = (own : Bool) (k : ℤ) → is_open (key_of own k) es ≡ true → same_key (key_of own k) (key_of b id) ≡ false → called k (side own j q) ≡ called k (side own i p)

  abbrev stays : ends.OpenCall → Bool
  stays o = not (ends.is_key b id o)

  abbrev left : List ends.OpenCall → List ends.OpenCall
  left os = map (ends.orphaned b id) (filter stays os)

  stays_in : (e : Entry) (os : List ends.OpenCall) → same_key e.0 (key_of b id) ≡ false → left (open_call i p e ∷ os) ≡ ends.orphaned b id (open_call i p e) ∷ left os
  stays_in e os f = ap (λ (t : Bool). map (ends.orphaned b id) (cond (not t) (open_call i p e ∷ filter stays os) (filter stays os))) (key_test i p b id e ∙ f)

  drops_out : (e : Entry) (os : List ends.OpenCall) → same_key e.0 (key_of b id) ≡ true → left (open_call i p e ∷ os) ≡ left os
  drops_out e os t = ap (λ (t : Bool). map (ends.orphaned b id) (cond (not t) (open_call i p e ∷ filter stays os) (filter stays os))) (key_test i p b id e ∙ t)

  one : (e : Entry) (es : List Entry) → Kept_ (e ∷ es) → same_key e.0 (key_of b id) ≡ false → open_call j q (orphaned (key_of b id) e) ≡ ends.orphaned b id (open_call i p e)
  one e es h f =
      let x = h e.0.own e.0.id (or_first (same_key e.0 e.0) _ (key_is e.0)) f in
      ap (call_with (orphaned (key_of b id) e)) x ∙ orphan e.0 e.1 b id (called e.0.id (side e.0.own i p))

  more : (e : Entry) (es : List Entry) → Kept_ (e ∷ es) → Kept_ es
  more e es h own k o n = h own k (or_true (same_key e.0 (key_of own k)) _ o) n

  roots : (es : List Entry) → Kept_ es → is_open (key_of b id) es ≡ false → open_calls_in (map (orphaned (key_of b id)) es) j q ≡ left (open_calls_in es i p)
  roots [] h n = refl
  roots (e ∷ es) h n =
      let s = or_none (same_key e.0 (key_of b id)) _ n in
      let x = one e es h s.0 in
      let y = roots es (more e es h) s.1 in
      (λ k. x k ∷ y k) ∙ sym (stays_in e (open_calls_in es i p) s.0)

  pub closing : (es : List Entry) → AreApart es → Kept_ es → open_calls_in (closed (key_of b id) es) j q ≡ ends.closed b id (open_calls_in es i p)
  closing [] a h = refl
  closing (e ∷ es) a h =
      bool_cases (same_key e.0 (key_of b id))
      (λ t.
      let w : closed (key_of b id) (e ∷ es) ≡ map (orphaned (key_of b id)) es = ap (λ (c : Bool). map (orphaned (key_of b id)) (cond c es (e ∷ without (key_of b id) es))) t in
      let n = subst (λ (z : Key). is_open z es ≡ false) (keys_are e.0 (key_of b id) t) a.0 in
      ap (λ (xs : List Entry). open_calls_in xs j q) w ∙ roots es (more e es h) n ∙ sym (drops_out e (open_calls_in es i p) t))
      (λ f.
      let w : closed (key_of b id) (e ∷ es) ≡ orphaned (key_of b id) e ∷ closed (key_of b id) es = ap (λ (c : Bool). map (orphaned (key_of b id)) (cond c es (e ∷ without (key_of b id) es))) f in
      let x = one e es h f in
      let y = closing es a.1 (more e es h) in
      ap (λ (xs : List Entry). open_calls_in xs j q) w ∙ (λ k. x k ∷ y k) ∙ sym (stays_in e (open_calls_in es i p) f))
