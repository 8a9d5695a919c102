-- Taking a node out follows the rows.
use Rattle.std.proofs.Common.{◌≡◌, ℕ, Bool, true, false, cond, List, Option, Some, None, refl, sym, ap, subst, ◌∙◌}
use Rattle.std.specs.Prelude.{nat_eq}
use Rattle.std.specs.Option.{option_map}
use Rattle.linked_ops.specs.declared.node.Node.{Node}
use Rattle.linked_ops.specs.Rows.{Row, is_number, has_place, is_child, found, first_gone, place_with, places_under, siblings, first_listed, last_of, behind, before, node_of, node_at, AreApart, same_place, with_one_number}
use Rattle.linked_ops.specs.Links.{Nodes, is_place, with_next, with_previous, moved, without_child, taken_out, unlinked_in}
use Rattle.linked_ops.proofs.Places.{cases, not_true, turned, nats_are, taken, left_out, has, AreOnce, gone, behind_is_there, before_is_there, behind_gone, before_gone, first_gone_is, last_gone_is}
use Rattle.linked_ops.proofs.Found.{passes, found_gone, found_kept, place_itself, place_either, under_once, under_is, under_gone}
use Rattle.linked_ops.proofs.Linked as shared
use Rattle.linked_ops.proofs.Linked.{akin, akin_turned, akin_are}

module _ (rows : List Row) (places : AreApart same_place rows) (numbers : AreApart with_one_number rows) where
  abbrev g : Nodes
  g p = node_at p rows

  own_place : (t : Row → Bool) (x : Row) → found t rows ≡ Some x → found (has_place x.1.place) rows ≡ Some x
  own_place = shared.own_place rows places numbers

  parent_is : (p : ℕ) (e : Row) (u : Option ℕ) → found (has_place p) rows ≡ Some e → is_place p (place_with u rows) ≡ is_number e.0 u
  parent_is = shared.parent_is rows places numbers

  siblings_are : (w : Option ℕ) (p : ℕ) (e : Row) → found (has_place p) rows ≡ Some e → has p (siblings w rows) ≡ akin w e.1.parent
  siblings_are = shared.siblings_are rows places numbers

  siblings_once : (w : Option ℕ) → AreOnce (siblings w rows)
  siblings_once = shared.siblings_once rows places numbers

  -- ---- a row taken out

  shrunk : (y : Node) (a b c : Bool) (n m : Node) → m.key ≡ n.key → m.previous ≡ cond b y.previous n.previous → m.next ≡ cond c y.next n.next → m.first_child ≡ cond a (moved y.previous y.next n.first_child) n.first_child → m.last_child ≡ cond a (moved y.next y.previous n.last_child) n.last_child → let z : Option Node = cond c (option_map (with_next y.next) (Some n)) (Some n) in let w : Option Node = cond b (option_map (with_previous y.previous) z) z in cond a (option_map (without_child y) w) w ≡ Some m
  shrunk y true true true n m k p x f l = λ i. Some (record { key = sym k i; previous = sym p i; next = sym x i; first_child = sym f i; last_child = sym l i })
  shrunk y true true false n m k p x f l = λ i. Some (record { key = sym k i; previous = sym p i; next = sym x i; first_child = sym f i; last_child = sym l i })
  shrunk y true false true n m k p x f l = λ i. Some (record { key = sym k i; previous = sym p i; next = sym x i; first_child = sym f i; last_child = sym l i })
  shrunk y true false false n m k p x f l = λ i. Some (record { key = sym k i; previous = sym p i; next = sym x i; first_child = sym f i; last_child = sym l i })
  shrunk y false true true n m k p x f l = λ i. Some (record { key = sym k i; previous = sym p i; next = sym x i; first_child = sym f i; last_child = sym l i })
  shrunk y false true false n m k p x f l = λ i. Some (record { key = sym k i; previous = sym p i; next = sym x i; first_child = sym f i; last_child = sym l i })
  shrunk y false false true n m k p x f l = λ i. Some (record { key = sym k i; previous = sym p i; next = sym x i; first_child = sym f i; last_child = sym l i })
  shrunk y false false false n m k p x f l = λ i. Some (record { key = sym k i; previous = sym p i; next = sym x i; first_child = sym f i; last_child = sym l i })

  module _ (t : Row → Bool) (x : Row) (there : found t rows ≡ Some x) where
    abbrev z : ℕ
    z = x.1.place

    abbrev rest : List Row
    rest = first_gone t rows

    abbrev over : Option ℕ
    over = place_with x.1.parent rows

    abbrev out : Node
    out = node_of rows x

    abbrev beside : List ℕ
    beside = siblings x.1.parent rows

    siblings_gone : (w : Option ℕ) → siblings w rest ≡ cond (akin w x.1.parent) (gone z (siblings w rows)) (siblings w rows)
    siblings_gone None = refl
    siblings_gone (Some m) = under_gone m t rows x places there

    abbrev all_three : Bool → Bool → Bool → Option Node → Option Node
    all_three a b c o =
        let v : Option Node = cond c (option_map (with_next out.next) o) o in
        let w : Option Node = cond b (option_map (with_previous out.previous) v) v in
        cond a (option_map (without_child out) w) w

    three_none : (a b c : Bool) → all_three a b c None ≡ None
    three_none true true true = refl
    three_none true true false = refl
    three_none true false true = refl
    three_none true false false = refl
    three_none false true true = refl
    three_none false true false = refl
    three_none false false true = refl
    three_none false false false = refl

    at_out : (p : ℕ) → unlinked_in g z over p ≡ all_three (is_place p over) (is_place p out.next) (is_place p out.previous) (cond (nat_eq p z) None (g p))
    at_out p = ap (λ (o : Option Node). taken_out o z over g p) (ap (option_map (node_of rows)) (own_place t x there))

    module _ (e : Row) (f : found (has_place e.1.place) rows ≡ Some e) (d : nat_eq e.1.place z ≡ false) where
      abbrev p : ℕ
      p = e.1.place

      abbrev among : List ℕ
      among = siblings e.1.parent rows

      parted : (b : Bool) → akin e.1.parent x.1.parent ≡ b → siblings e.1.parent rest ≡ cond b (gone z among) among
      parted b h = siblings_gone e.1.parent ∙ ap (λ (c : Bool). cond c (gone z among) among) h

      as_one : akin e.1.parent x.1.parent ≡ true → among ≡ beside
      as_one h = ap (λ (w : Option ℕ). siblings w rows) (akin_are e.1.parent x.1.parent h)

      not_beside : akin e.1.parent x.1.parent ≡ false → has p beside ≡ false
      not_beside h = siblings_are x.1.parent p e f ∙ akin_turned x.1.parent e.1.parent ∙ h

      previous_is : (b : Bool) → akin e.1.parent x.1.parent ≡ b → before p (siblings e.1.parent rest) ≡ cond (is_place p (behind z beside)) (before z beside) (before p among)
      previous_is true h =
          ap (before p) (parted true h) ∙ before_gone z p (turned z p ∙ d) among (siblings_once e.1.parent)
          ∙ ap (λ (l : List ℕ). cond (is_place p (behind z l)) (before z l) (before p among)) (as_one h)
      previous_is false h =
          ap (before p) (parted false h)
          ∙ sym (left_out (is_place p (behind z beside)) (before z beside) (before p among) (not_true (is_place p (behind z beside)) (λ b. sym (not_beside h) ∙ behind_is_there p z beside b)))

      next_is : (b : Bool) → akin e.1.parent x.1.parent ≡ b → behind p (siblings e.1.parent rest) ≡ cond (is_place p (before z beside)) (behind z beside) (behind p among)
      next_is true h =
          ap (behind p) (parted true h) ∙ behind_gone z p (turned z p ∙ d) among (siblings_once e.1.parent)
          ∙ ap (λ (l : List ℕ). cond (is_place p (before z l)) (behind z l) (behind p among)) (as_one h)
      next_is false h =
          ap (behind p) (parted false h)
          ∙ sym (left_out (is_place p (before z beside)) (behind z beside) (behind p among) (not_true (is_place p (before z beside)) (λ b. sym (not_beside h) ∙ before_is_there p z beside b)))

      abbrev kids : List ℕ
      kids = places_under e.0 rows

      cut : (b : Bool) → is_child e.0 x ≡ b → places_under e.0 rest ≡ cond b (gone z kids) kids
      cut b h = under_gone e.0 t rows x places there ∙ ap (λ (c : Bool). cond c (gone z kids) kids) h

      has_it : is_child e.0 x ≡ true → has z kids ≡ true
      has_it h = under_is e.0 z rows x places (own_place t x there) ∙ h

      are_beside : is_child e.0 x ≡ true → kids ≡ beside
      are_beside h = ap (λ (w : Option ℕ). siblings w rows) (akin_are (Some e.0) x.1.parent h)

      first_is : (b : Bool) → is_child e.0 x ≡ b → first_listed (places_under e.0 rest) ≡ cond (is_place p over) (moved (before z beside) (behind z beside) (first_listed kids)) (first_listed kids)
      first_is true h =
          ap first_listed (cut true h) ∙ first_gone_is z kids (under_once e.0 rows places) (has_it h)
          ∙ ap (λ (l : List ℕ). moved (before z l) (behind z l) (first_listed kids)) (are_beside h) ∙ sym (taken (is_place p over) _ _ (parent_is p e x.1.parent f ∙ h))
      first_is false h = ap first_listed (cut false h) ∙ sym (left_out (is_place p over) _ _ (parent_is p e x.1.parent f ∙ h))

      last_child_is : (b : Bool) → is_child e.0 x ≡ b → last_of (places_under e.0 rest) ≡ cond (is_place p over) (moved (behind z beside) (before z beside) (last_of kids)) (last_of kids)
      last_child_is true h =
          ap last_of (cut true h) ∙ last_gone_is z kids (under_once e.0 rows places) (has_it h)
          ∙ ap (λ (l : List ℕ). moved (behind z l) (before z l) (last_of kids)) (are_beside h) ∙ sym (taken (is_place p over) _ _ (parent_is p e x.1.parent f ∙ h))
      last_child_is false h = ap last_of (cut false h) ∙ sym (left_out (is_place p over) _ _ (parent_is p e x.1.parent f ∙ h))

      left_node : all_three (is_place e.1.place over) (is_place e.1.place out.next) (is_place e.1.place out.previous) (Some (node_of rows e)) ≡ Some (node_of rest e)
      left_node =
          shrunk out (is_place p over) (is_place p out.next) (is_place p out.previous) (node_of rows e) (node_of rest e) refl (previous_is (akin e.1.parent x.1.parent) refl) (next_is (akin e.1.parent x.1.parent) refl) (first_is (is_child e.0 x) refl) (last_child_is (is_child e.0 x) refl)

    pub unlinked_is : (p : ℕ) → unlinked_in g z over p ≡ node_at p rest
    unlinked_is p =
        at_out p
        ∙ cases (nat_eq p z)
        (λ b.
        ap (all_three (is_place p over) (is_place p out.next) (is_place p out.previous)) (taken (nat_eq p z) None (g p) b)
        ∙ three_none (is_place p over) (is_place p out.next) (is_place p out.previous)
        ∙ sym (ap (option_map (node_of rest)) (subst (λ (w : ℕ). found (has_place w) rest ≡ None) (sym (nats_are p z b)) (found_gone same_place place_itself place_either t rows x places there))))
        (λ d. ap (all_three (is_place p over) (is_place p out.next) (is_place p out.previous)) (left_out (nat_eq p z) None (g p) d) ∙ by_found d (found (has_place p) rows) refl)
      where
        same : nat_eq p z ≡ false → found (has_place p) rest ≡ found (has_place p) rows
        same d = found_kept (has_place p) t rows x there (turned z p ∙ d)

        by_found : nat_eq p z ≡ false → (o : Option Row) → found (has_place p) rows ≡ o → all_three (is_place p over) (is_place p out.next) (is_place p out.previous) (g p) ≡ node_at p rest
        by_found d None f =
            ap (λ (o : Option Row). all_three (is_place p over) (is_place p out.next) (is_place p out.previous) (option_map (node_of rows) o)) f
            ∙ three_none (is_place p over) (is_place p out.next) (is_place p out.previous) ∙ sym (ap (option_map (node_of rest)) (same d ∙ f))
        by_found d (Some e) f =
            let i : e.1.place ≡ p = nats_are e.1.place p (passes (has_place p) rows e f) in
            let h : nat_eq e.1.place z ≡ false = subst (λ (w : ℕ). nat_eq w z ≡ false) (sym i) d in
            ap (λ (o : Option Row). all_three (is_place p over) (is_place p out.next) (is_place p out.previous) (option_map (node_of rows) o)) f
            ∙ subst (λ (w : ℕ). all_three (is_place w over) (is_place w out.next) (is_place w out.previous) (Some (node_of rows e)) ≡ Some (node_of rest e)) i (left_node e (own_place (has_place p) e f) h)
            ∙ sym (ap (option_map (node_of rest)) (same d ∙ f))
