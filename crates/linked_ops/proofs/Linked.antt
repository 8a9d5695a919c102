-- Linking a node follows the rows.
use Rattle.std.proofs.Common.{◌≡◌, ℕ, Bool, true, false, cond, List, [], ◌∷◌, ◌++◌, Option, Some, None, refl, sym, ap, subst, ◌∙◌}
use Rattle.std.specs.Prelude.{nat_eq}
use Rattle.std.specs.Option.{option_map}
use Rattle.std.proofs.lemmas.List.{append-nil}
use Rattle.linked_ops.specs.declared.key.Key.{Key}
use Rattle.linked_ops.specs.declared.node.Node.{Node}
use Rattle.linked_ops.specs.Rows.{Row, same_number, is_number, has_number, has_place, is_child, found, place_with, places_under, siblings, first_listed, last_of, behind, before, node_of, node_at, AreApart, same_place, with_one_number, AreBelow}
use Rattle.linked_ops.specs.Links.{Nodes, is_place, with_next, or_place, with_child, last_child_at, last_child_of, linked_in}
use Rattle.linked_ops.proofs.Places.{cases, not_true, both_ways, turned, nat_is, nats_are, taken, left_out, has, AreOnce, last_snoc, first_snoc, last_is_there, behind_snoc, before_snoc, before_new, behind_new}
use Rattle.linked_ops.proofs.Found.{numbers_are, number_is, numbers_turned, or_row, some_is, no_some, found_snoc, passes, under_snoc, own, place_itself, place_either, number_itself, number_either, under_once, under_is, under_none, none_made, no_children}

-- under the same number
abbrev pub akin : Option ℕ → Option ℕ → Bool
akin None v = false
akin (Some n) v = is_number n v

pub akin_turned : (w v : Option ℕ) → akin w v ≡ akin v w
akin_turned None None = refl
akin_turned None (Some n) = refl
akin_turned (Some m) None = refl
akin_turned (Some m) (Some n) = numbers_turned m n

pub akin_are : (w v : Option ℕ) → akin w v ≡ true → w ≡ v
akin_are None v e = absurd cc
akin_are (Some m) None e = absurd cc
akin_are (Some m) (Some n) e = ap Some (numbers_are m n e)

module _ (rows : List Row) (places : AreApart same_place rows) (numbers : AreApart with_one_number rows) where
  abbrev g : Nodes
  g p = node_at p rows

  pub own_place : (t : Row → Bool) (x : Row) → found t rows ≡ Some x → found (has_place x.1.place) rows ≡ Some x
  own_place t x e = own same_place place_itself place_either t rows x places e

  pub own_number : (t : Row → Bool) (x : Row) → found t rows ≡ Some x → found (has_number x.0) rows ≡ Some x
  own_number t x e = own with_one_number number_itself number_either t rows x numbers e

  same_found : (t : Row → Bool) (x y : Row) → found t rows ≡ Some x → found t rows ≡ Some y → x ≡ y
  same_found t x y e f = some_is x y (sym e ∙ f)

  -- the row at a place is the parent where its number is
  pub parent_is : (p : ℕ) (e : Row) (u : Option ℕ) → found (has_place p) rows ≡ Some e → is_place p (place_with u rows) ≡ is_number e.0 u
  parent_is p e None f = refl
  parent_is p e (Some s) f = by_found (found (has_number s) rows) refl
    where
      here : same_number e.0 s ≡ true → found (has_number s) rows ≡ Some e
      here t = subst (λ (z : ℕ). found (has_number z) rows ≡ Some e) (numbers_are e.0 s t) (own_number (has_place p) e f)

      by_found : (o : Option Row) → found (has_number s) rows ≡ o → is_place p (option_map (λ (r : Row). r.1.place) o) ≡ same_number e.0 s
      by_found None h = sym (not_true (same_number e.0 s) (λ t. no_some e (sym (here t) ∙ h)))
      by_found (Some y) h =
          both_ways (nat_eq p y.1.place) (same_number e.0 s)
          (λ t.
          let i : e ≡ y = same_found (has_place y.1.place) e y (subst (λ (z : ℕ). found (has_place z) rows ≡ Some e) (nats_are p y.1.place t) f) (own_place (has_number s) y h) in
          numbers_turned e.0 s ∙ subst (λ (z : Row). same_number s z.0 ≡ true) (sym i) (passes (has_number s) rows y h))
          (λ t.
          let i : e ≡ y = same_found (has_number s) e y (here t) h in
          turned p y.1.place ∙ subst (λ (z : Row). nat_eq z.1.place p ≡ true) i (passes (has_place p) rows e f))

  pub siblings_are : (w : Option ℕ) (p : ℕ) (e : Row) → found (has_place p) rows ≡ Some e → has p (siblings w rows) ≡ akin w e.1.parent
  siblings_are None p e f = refl
  siblings_are (Some m) p e f = under_is m p rows e places f

  pub siblings_once : (w : Option ℕ) → AreOnce (siblings w rows)
  siblings_once None = tt
  siblings_once (Some m) = under_once m rows places

  -- ---- a row at the end

  abbrev pub IsPlaced : Option ℕ → Type 0
  IsPlaced None = Unit {0}
  IsPlaced (Some s) = (y : Row) × (found (has_number s) rows ≡ Some y)

  siblings_snoc : (w : Option ℕ) (x : Row) → siblings w (rows ++ x ∷ []) ≡ siblings w rows ++ cond (akin w x.1.parent) (x.1.place ∷ []) []
  siblings_snoc None x = refl
  siblings_snoc (Some m) x = under_snoc m rows x

  last_is : (u : Option ℕ) → IsPlaced u → last_child_of g (place_with u rows) ≡ last_of (siblings u rows)
  last_is None h = refl
  last_is (Some s) h =
      ap (λ (o : Option Row). last_child_of g (option_map (λ (r : Row). r.1.place) o)) h.1
      ∙ ap (λ (o : Option Row). last_child_at (option_map (node_of rows) o)) (own_place (has_number s) h.0 h.1)
      ∙ ap (λ (n : ℕ). last_of (places_under n rows)) (sym (numbers_are s h.0.0 (passes (has_number s) rows h.0 h.1)))

  grown : (q : ℕ) (a b : Bool) (n m : Node) → m.key ≡ n.key → m.previous ≡ n.previous → m.next ≡ cond b (Some q) n.next → m.first_child ≡ cond a (or_place n.first_child (Some q)) n.first_child → m.last_child ≡ cond a (Some q) n.last_child → cond a (option_map (with_child q) (cond b (option_map (with_next (Some q)) (Some n)) (Some n))) (cond b (option_map (with_next (Some q)) (Some n)) (Some n)) ≡ Some m
  grown q true true n m k p x f l = λ i. Some (record { key = sym k i; previous = sym p i; next = sym x i; first_child = sym f i; last_child = sym l i })
  grown q true false n m k p x f l = λ i. Some (record { key = sym k i; previous = sym p i; next = sym x i; first_child = sym f i; last_child = sym l i })
  grown q false true n m k p x f l = λ i. Some (record { key = sym k i; previous = sym p i; next = sym x i; first_child = sym f i; last_child = sym l i })
  grown q false false n m k p x f l = λ i. Some (record { key = sym k i; previous = sym p i; next = sym x i; first_child = sym f i; last_child = sym l i })

  module _ (key : Key) (made q : ℕ) (u : Option ℕ) (below : AreBelow made rows) (placed : IsPlaced u) (vacant : found (has_place q) rows ≡ None) where
    abbrev x : Row
    x = (made, record { key = key; parent = u; place = q })

    abbrev longer : List Row
    longer = rows ++ x ∷ []

    abbrev above : Option ℕ
    above = place_with u rows

    abbrev last : Option ℕ
    last = last_child_of g above

    abbrev fresh : Node
    fresh = record { key = key; previous = last; next = None; first_child = None; last_child = None }

    lacks : (w : Option ℕ) → has q (siblings w rows) ≡ false
    lacks None = refl
    lacks (Some m) = under_none m q rows vacant

    is_akin : (m : ℕ) → Some m ≡ u → is_child m x ≡ true
    is_akin m e = subst (λ (v : Option ℕ). is_number m v ≡ true) e (number_is m)

    new_previous : (w : Option ℕ) → w ≡ u → before q (siblings w longer) ≡ last_of (siblings w rows)
    new_previous None e = refl
    new_previous (Some m) e =
        ap (before q) (under_snoc m rows x ∙ ap (λ ps. places_under m rows ++ ps) (taken (is_child m x) (q ∷ []) [] (is_akin m e)))
        ∙ before_new q (places_under m rows) (lacks (Some m))

    new_next : (w : Option ℕ) → w ≡ u → behind q (siblings w longer) ≡ None
    new_next None e = refl
    new_next (Some m) e =
        ap (behind q) (under_snoc m rows x ∙ ap (λ ps. places_under m rows ++ ps) (taken (is_child m x) (q ∷ []) [] (is_akin m e)))
        ∙ behind_new q (places_under m rows) (lacks (Some m))

    not_under_itself : (v : Option ℕ) → IsPlaced v → is_number made v ≡ false
    not_under_itself None h = refl
    not_under_itself (Some s) h =
        not_true (same_number made s)
        (λ t. no_some h.0 (sym h.1 ∙ subst (λ (z : ℕ). found (has_number z) rows ≡ None) (numbers_are made s t) (none_made made rows below)))

    childless : places_under made longer ≡ []
    childless =
        under_snoc made rows x ∙ ap (λ ps. places_under made rows ++ ps) (left_out (is_child made x) (q ∷ []) [] (not_under_itself u placed))
        ∙ append-nil (places_under made rows) ∙ no_children made rows below

    fresh_is : node_of longer x ≡ fresh
    fresh_is = λ i. record { key = key; previous = (new_previous u refl ∙ sym (last_is u placed)) i; next = new_next u refl i; first_child = first_listed (childless i); last_child = last_of (childless i) }

    not_above : is_place q above ≡ false
    not_above = by_parent u placed
      where
        by_parent : (v : Option ℕ) → IsPlaced v → is_place q (place_with v rows) ≡ false
        by_parent None h = refl
        by_parent (Some s) h =
            ap (λ (o : Option Row). is_place q (option_map (λ (r : Row). r.1.place) o)) h.1
            ∙ not_true (nat_eq q h.0.1.place)
            (λ t. no_some h.0 (sym (own_place (has_number s) h.0 h.1) ∙ subst (λ (z : ℕ). found (has_place z) rows ≡ None) (nats_are q h.0.1.place t) vacant))

    not_last : is_place q last ≡ false
    not_last =
        not_true (is_place q last)
        (λ t. sym (lacks u) ∙ last_is_there q q (siblings u rows) (ap (is_place q) (sym (last_is u placed)) ∙ t))

    abbrev both : Bool → Bool → Option Node → Option Node
    both a b z = cond a (option_map (with_child q) (cond b (option_map (with_next (Some q)) z) z)) (cond b (option_map (with_next (Some q)) z) z)

    both_none : (a b : Bool) → both a b None ≡ None
    both_none true true = refl
    both_none true false = refl
    both_none false true = refl
    both_none false false = refl

    new_node : linked_in g q key above q ≡ node_at q longer
    new_node =
        left_out (is_place q above) _ _ not_above ∙ left_out (is_place q last) _ _ not_last ∙ taken (nat_eq q q) (Some fresh) (g q) (nat_is q)
        ∙ ap Some (sym fresh_is)
        ∙ sym
        (ap (option_map (node_of longer)) (found_snoc (has_place q) rows x ∙ ap (λ o. or_row o (cond (nat_eq q q) (Some x) None)) vacant ∙ taken (nat_eq q q) (Some x) None (nat_is q)))

    module _ (e : Row) (f : found (has_place e.1.place) rows ≡ Some e) (d : nat_eq e.1.place q ≡ false) where
      abbrev p : ℕ
      p = e.1.place

      abbrev among : List ℕ
      among = siblings e.1.parent rows

      joined : (b : Bool) → akin e.1.parent u ≡ b → siblings e.1.parent longer ≡ among ++ cond b (q ∷ []) []
      joined b h = siblings_snoc e.1.parent x ∙ ap (λ (c : Bool). among ++ cond c (q ∷ []) []) h

      previous_is : (b : Bool) → akin e.1.parent u ≡ b → before p (siblings e.1.parent longer) ≡ before p among
      previous_is true h = ap (before p) (joined true h) ∙ before_snoc q p among (turned q p ∙ d)
      previous_is false h = ap (before p) (joined false h ∙ append-nil among)

      next_is : (b : Bool) → akin e.1.parent u ≡ b → behind p (siblings e.1.parent longer) ≡ cond (is_place p last) (Some q) (behind p among)
      next_is true h =
          let same : e.1.parent ≡ u = akin_are e.1.parent u h in
          let there : has p among ≡ true = siblings_are e.1.parent p e f ∙ subst (λ (v : Option ℕ). akin e.1.parent v ≡ true) (sym same) h in
          let l : last_of among ≡ last = ap (λ (v : Option ℕ). last_of (siblings v rows)) same ∙ sym (last_is u placed) in
          ap (behind p) (joined true h) ∙ behind_snoc q p among (siblings_once e.1.parent) there ∙ ap (λ (o : Option ℕ). cond (is_place p o) (Some q) (behind p among)) l
      next_is false h =
          let other : is_place p last ≡ false = not_true (is_place p last) (λ t. sym h ∙ akin_turned e.1.parent u ∙ sym (siblings_are u p e f) ∙ last_is_there q p (siblings u rows) (ap (is_place p) (sym (last_is u placed)) ∙ t)) in
          ap (behind p) (joined false h ∙ append-nil among) ∙ sym (left_out (is_place p last) (Some q) (behind p among) other)

      children : (b : Bool) → is_number e.0 u ≡ b → places_under e.0 longer ≡ places_under e.0 rows ++ cond b (q ∷ []) []
      children b h = under_snoc e.0 rows x ∙ ap (λ (c : Bool). places_under e.0 rows ++ cond c (q ∷ []) []) h

      first_is : (b : Bool) → is_number e.0 u ≡ b → first_listed (places_under e.0 longer) ≡ cond (is_place p above) (or_place (first_listed (places_under e.0 rows)) (Some q)) (first_listed (places_under e.0 rows))
      first_is true h = ap first_listed (children true h) ∙ first_snoc q (places_under e.0 rows) ∙ sym (taken (is_place p above) _ _ (parent_is p e u f ∙ h))
      first_is false h = ap first_listed (children false h ∙ append-nil (places_under e.0 rows)) ∙ sym (left_out (is_place p above) _ _ (parent_is p e u f ∙ h))

      last_child_is : (b : Bool) → is_number e.0 u ≡ b → last_of (places_under e.0 longer) ≡ cond (is_place p above) (Some q) (last_of (places_under e.0 rows))
      last_child_is true h = ap last_of (children true h) ∙ last_snoc q (places_under e.0 rows) ∙ sym (taken (is_place p above) _ _ (parent_is p e u f ∙ h))
      last_child_is false h = ap last_of (children false h ∙ append-nil (places_under e.0 rows)) ∙ sym (left_out (is_place p above) _ _ (parent_is p e u f ∙ h))

      old_node : linked_in g q key above e.1.place ≡ Some (node_of longer e)
      old_node =
          ap (both (is_place e.1.place above) (is_place e.1.place last)) (left_out (nat_eq e.1.place q) (Some fresh) (g e.1.place) d ∙ ap (option_map (node_of rows)) f)
          ∙ grown q (is_place e.1.place above) (is_place e.1.place last) (node_of rows e) (node_of longer e) refl (previous_is (akin e.1.parent u) refl) (next_is (akin e.1.parent u) refl) (first_is (is_number e.0 u) refl) (last_child_is (is_number e.0 u) refl)

    or_nothing : (o : Option Row) → or_row o None ≡ o
    or_nothing None = refl
    or_nothing (Some r) = refl

    pub linked_is : (p : ℕ) → linked_in g q key above p ≡ node_at p longer
    linked_is p =
        cases (nat_eq p q)
        (λ t. subst (λ (z : ℕ). linked_in g q key above z ≡ node_at z longer) (sym (nats_are p q t)) new_node)
        (λ d. by_found d (found (has_place p) rows) refl)
      where
        same : nat_eq p q ≡ false → found (has_place p) longer ≡ found (has_place p) rows
        same d = found_snoc (has_place p) rows x ∙ ap (or_row (found (has_place p) rows)) (left_out (nat_eq q p) (Some x) None (turned q p ∙ d)) ∙ or_nothing (found (has_place p) rows)

        by_found : nat_eq p q ≡ false → (o : Option Row) → found (has_place p) rows ≡ o → linked_in g q key above p ≡ node_at p longer
        by_found d None f =
            ap (both (is_place p above) (is_place p last)) (left_out (nat_eq p q) (Some fresh) (g p) d ∙ ap (option_map (node_of rows)) f)
            ∙ both_none (is_place p above) (is_place p last) ∙ sym (ap (option_map (node_of longer)) (same d ∙ f))
        by_found d (Some e) f =
            let i : e.1.place ≡ p = nats_are e.1.place p (passes (has_place p) rows e f) in
            let h : nat_eq e.1.place q ≡ false = subst (λ (z : ℕ). nat_eq z q ≡ false) (sym i) d in
            subst (λ (z : ℕ). linked_in g q key above z ≡ Some (node_of longer e)) i (old_node e (own_place (has_place p) e f) h)
            ∙ sym (ap (option_map (node_of longer)) (same d ∙ f))
