-- As many keys of one end stand in the forest as it keeps invocations.
use Rattle.std.proofs.Common.{◌≡◌, suc, ℤ, Bool, true, false, not, ◌||◌, ◌&&◌, cond, List, [], ◌∷◌, length, Option, Some, None, is_some, refl, sym, ap, subst, ◌∙◌}
use Rattle.std.specs.Ordering.{is_eq, int_eq, int_cmp}
use Rattle.std.specs.declared.cmp.Ordering.TheVariants.{Less}
use Rattle.std.specs.List.{AllByRecursion}
use Rattle.std.specs.List.Sorted.{IsStrictlySortedBy}
use Rattle.std.proofs.lemmas.Map.Keys.{sorted_head, sorted_tail}
use Rattle.std.specs.Map.{remove_entry, keys_of}
use Rattle.std.specs.BTreeMap.{is_at}
use Rattle.linked_ops.specs.Keys.{same_bool, same_key}
use Rattle.linked_ops.specs.Entries.{Entry, is_open}
use Rattle.end_wire.specs.end_rules.State as ends
use Rattle.rose_roles.specs.declared.invoked_with.InvokedWith.{InvokedWith}
use Rattle.rose_roles.specs.Calls.{Kept, called, key_of, AreOpen, open_call, open_calls_in}
use Rattle.rose_roles.proofs.Keys.{id_is, ids_are, bool_cases, or_rest, AreApart, bools_are}

-- each identifier stands once
abbrev pub Once : Kept → Type 0
Once [] = Unit {0}
Once (c ∷ cs) = (called c.0 cs ≡ None) × Once cs

abbrev without : ℤ → Kept → Kept
without id kept = remove_entry (is_at (int_cmp id)) kept

-- ---- without an identifier

at_head : (id : ℤ) (c : ℤ × InvokedWith) (cs : Kept) → is_at (int_cmp id) c.0 ≡ true → without id (c ∷ cs) ≡ cs
at_head id c cs t = ap (λ (b : Bool). cond b cs (c ∷ without id cs)) t

past_head : (id : ℤ) (c : ℤ × InvokedWith) (cs : Kept) → is_at (int_cmp id) c.0 ≡ false → without id (c ∷ cs) ≡ c ∷ without id cs
past_head id c cs f = ap (λ (b : Bool). cond b cs (c ∷ without id cs)) f

called_head : (id : ℤ) (c : ℤ × InvokedWith) (cs : Kept) → is_at (int_cmp id) c.0 ≡ true → called id (c ∷ cs) ≡ Some c.1
called_head id c cs t = ap (λ (b : Bool). cond b (Some c.1) (called id cs)) t

called_past : (id : ℤ) (c : ℤ × InvokedWith) (cs : Kept) → is_at (int_cmp id) c.0 ≡ false → called id (c ∷ cs) ≡ called id cs
called_past id c cs f = ap (λ (b : Bool). cond b (Some c.1) (called id cs)) f

gone : (id : ℤ) (kept : Kept) → Once kept → called id (without id kept) ≡ None
gone id [] o = refl
gone id (c ∷ cs) o =
    bool_cases (is_at (int_cmp id) c.0)
    (λ t. ap (called id) (at_head id c cs t) ∙ subst (λ (z : ℤ). called z cs ≡ None) (sym (ids_are id c.0 t)) o.0)
    (λ f. ap (called id) (past_head id c cs f) ∙ called_past id c (without id cs) f ∙ gone id cs o.1)

others : (id q : ℤ) (kept : Kept) → int_eq q id ≡ false → called q (without id kept) ≡ called q kept
others id q [] n = refl
others id q (c ∷ cs) n =
    bool_cases (is_at (int_cmp id) c.0)
    (λ t.
    let d : is_at (int_cmp q) c.0 ≡ false = subst (λ (z : ℤ). int_eq q z ≡ false) (ids_are id c.0 t) n in
    ap (called q) (at_head id c cs t) ∙ sym (called_past q c cs d))
    (λ f. ap (called q) (past_head id c cs f) ∙ ap (λ (x : Option InvokedWith). cond (is_at (int_cmp q) c.0) (Some c.1) x) (others id q cs n))

fewer : (id : ℤ) (kept : Kept) (v : InvokedWith) → called id kept ≡ Some v → suc (length (without id kept)) ≡ length kept
fewer id [] v e = absurd cc
fewer id (c ∷ cs) v e =
    bool_cases (is_at (int_cmp id) c.0)
    (λ t. ap (λ (x : Kept). suc (length x)) (at_head id c cs t))
    (λ f. ap (λ (x : Kept). suc (length x)) (past_head id c cs f) ∙ ap suc (fewer id cs v (sym (called_past id c cs f) ∙ e)))

still_once : (id : ℤ) (kept : Kept) → Once kept → Once (without id kept)
still_once id [] o = tt
still_once id (c ∷ cs) o =
    bool_cases (is_at (int_cmp id) c.0)
    (λ t. subst Once (sym (at_head id c cs t)) o.1)
    (λ f.
    let n : int_eq c.0 id ≡ false =
    bool_cases (int_eq c.0 id) (λ t. let x : int_eq id c.0 ≡ true = subst (λ (z : ℤ). int_eq id z ≡ true) (sym (ids_are c.0 id t)) (id_is id) in let y : true ≡ false = sym x ∙ f in absurd cc) (λ d. d) in
    subst Once (sym (past_head id c cs f)) (others id c.0 cs n ∙ o.0, still_once id cs o.1))

-- ---- counting

none_kept : (kept : Kept) → ((id : ℤ) → false ≡ is_some (called id kept)) → length kept ≡ 0
none_kept [] h = refl
none_kept (c ∷ cs) h =
    let x : false ≡ true = h c.0 ∙ ap is_some (called_head c.0 c cs (id_is c.0)) in absurd cc

is_some_of : (o : Option InvokedWith) → is_some o ≡ true → (v : InvokedWith) × (o ≡ Some v)
is_some_of None e = absurd cc
is_some_of (Some v) e = (v, refl)

whose : (b o : Bool) → cond b o (not o) ≡ same_bool o b
whose true true = refl
whose true false = refl
whose false true = refl
whose false false = refl

module _ (own : Bool) where
  opened : (e : Entry) (es : List Entry) (kept : Kept) → AreApart (e ∷ es) → Once kept → AreOpen own (e ∷ es) kept → same_bool e.0.own own ≡ true → AreOpen own es (without e.0.id kept)
  opened e es kept a o h t =
      record {
        each = λ id.
            bool_cases (int_eq id e.0.id)
            (λ s.
            let x : is_open (key_of own id) es ≡ false =
            subst (λ (z : ℤ). is_open (key_of own z) es ≡ false) (sym (ids_are id e.0.id s)) (subst (λ (z : Bool). is_open (key_of z e.0.id) es ≡ false) (bools_are e.0.own own t) a.0) in
            let y : called id (without e.0.id kept) ≡ None = subst (λ (z : ℤ). called z (without e.0.id kept) ≡ None) (sym (ids_are id e.0.id s)) (gone e.0.id kept o) in
            x ∙ sym (ap is_some y))
            (λ n.
            let d : same_key e.0 (key_of own id) ≡ false = apart_ids (same_bool e.0.own own) e.0.id id n in
            sym (or_rest (same_key e.0 (key_of own id)) _ d) ∙ h.each id ∙ ap is_some (sym (others e.0.id id kept n)));
      }
    where
      apart_ids : (s : Bool) (a b : ℤ) → int_eq b a ≡ false → (s && int_eq a b) ≡ false
      apart_ids false a b n = refl
      apart_ids true a b n = bool_cases (int_eq a b) (λ t. let x : int_eq b a ≡ true = subst (λ (z : ℤ). int_eq b z ≡ true) (sym (ids_are a b t)) (id_is b) in let y : true ≡ false = sym x ∙ n in absurd cc) (λ f. f)

  skipped : (e : Entry) (es : List Entry) (kept : Kept) → AreOpen own (e ∷ es) kept → same_bool e.0.own own ≡ false → AreOpen own es kept
  skipped e es kept h f =
      record { each = λ id. sym (or_rest (same_key e.0 (key_of own id)) _ (ap (λ (s : Bool). s && int_eq e.0.id id) f)) ∙ h.each id }

  pub counts : (i p : Kept) (es : List Entry) (kept : Kept) → AreApart es → Once kept → AreOpen own es kept → length (ends.opens_of own (open_calls_in es i p)) ≡ length kept
  counts i p [] kept a o h = sym (none_kept kept h.each)
  counts i p (e ∷ es) kept a o h =
      bool_cases (same_bool e.0.own own)
      (λ t.
      let w : length (ends.opens_of own (open_calls_in (e ∷ es) i p)) ≡ suc (length (ends.opens_of own (open_calls_in es i p))) =
      ap (λ (c : Bool). length (cond c (open_call i p e ∷ ends.opens_of own (open_calls_in es i p)) (ends.opens_of own (open_calls_in es i p)))) (whose own e.0.own ∙ t) in
      let k : same_key e.0 (key_of own e.0.id) ≡ true = ap (λ (s : Bool). s && int_eq e.0.id e.0.id) t ∙ id_is e.0.id in
      let s : is_some (called e.0.id kept) ≡ true = sym (h.each e.0.id) ∙ ap (λ (x : Bool). x || is_open (key_of own e.0.id) es) k in
      let v = is_some_of (called e.0.id kept) s in
      w ∙ ap suc (counts i p es (without e.0.id kept) a.1 (still_once e.0.id kept o) (opened e es kept a o h t)) ∙ fewer e.0.id kept v.0 v.1)
      (λ f.
      let w : length (ends.opens_of own (open_calls_in (e ∷ es) i p)) ≡ length (ends.opens_of own (open_calls_in es i p)) =
      ap (λ (c : Bool). length (cond c (open_call i p e ∷ ends.opens_of own (open_calls_in es i p)) (ends.opens_of own (open_calls_in es i p)))) (whose own e.0.own ∙ f) in
      w ∙ counts i p es kept a.1 o (skipped e es kept h f))

-- ---- a map's keys rise

past : (k : ℤ) (cs : Kept) → AllByRecursion (λ (y : ℤ). int_cmp k y ≡ Less) (keys_of cs) → called k cs ≡ None
past k [] h = refl
past k (c ∷ cs) h = called_past k c cs (ap is_eq h.0) ∙ past k cs h.1

pub once_sorted : (kept : Kept) → IsStrictlySortedBy int_cmp (keys_of kept) → Once kept
once_sorted [] h = tt
once_sorted (c ∷ cs) h = (past c.0 cs (sorted_head int_cmp c.0 (keys_of cs) h), once_sorted cs (sorted_tail int_cmp c.0 (keys_of cs) h))
