-- The keys of all trees, each behind those under it, by the links and by the entries.
use Rattle.std.proofs.Common.{◌≡◌, ℕ, zero, suc, ◌-◌, ◌<◌, ◌≤◌, Bool, true, false, cond, List, [], ◌∷◌, ◌++◌, length, Option, Some, None, refl, sym, ap, subst, ◌∙◌, arith, append_assoc}
use Rattle.std.specs.Option.{option_map}
use Rattle.std.specs.List.{list_any}
use Rattle.std.specs.Map.{values_of}
use Rattle.std.proofs.lemmas.List.{map-append}
use Rattle.linked_ops.specs.declared.key.Key.{Key}
use Rattle.linked_ops.specs.declared.node.Node.{Node}
use Rattle.linked_ops.specs.Keys.{is_under}
use Rattle.linked_ops.specs.Entries.{Entry, is_open, is_open_or_none, under, is_root, post_order_of, AreBehind}
use Rattle.linked_ops.specs.Rows.{Row, is_number, has_key, has_number, has_place, is_child, found, key_with, entries_among, entries, places_under, siblings, first_listed, behind, node_of, node_at, AreApart, same_place, with_one_number, with_one_key}
use Rattle.linked_ops.specs.Links.{Nodes, first_child_at, first_child_of}
use Rattle.linked_ops.specs.KeysAlong.{reached, next_of, tree_before, trees_along, roots_keys}
use Rattle.linked_ops.proofs.Behind.{open-append}
use Rattle.linked_ops.proofs.Places.{cases, clash, not_true, taken, left_out, or_parts, AreOnce, behind_split}
use Rattle.linked_ops.proofs.Found.{numbers_are, place_itself, place_either, number_itself, number_either, key_itself, key_either, under_once}
use Rattle.linked_ops.proofs.Listed.{under_key}

-- a row of a list in which rows differ is what its own test finds
module _ (same : Row → Row → Bool) (itself : (r : Row) → same r r ≡ true) (either : (r s : Row) → same r s ≡ same s r) where
  not_among : (x : Row) (xs : List Row) (r : Row) (rs : List Row) → list_any (same x) (xs ++ r ∷ rs) ≡ false → same x r ≡ false
  not_among x [] r rs e = (or_parts (same x r) (list_any (same x) rs) e).0
  not_among x (y ∷ ys) r rs e = not_among x ys r rs (or_parts (same x y) (list_any (same x) (ys ++ r ∷ rs)) e).1

  pub found_there : (front : List Row) (r : Row) (rs : List Row) → AreApart same (front ++ r ∷ rs) → found (same r) (front ++ r ∷ rs) ≡ Some r
  found_there [] r rs a = taken (same r r) (Some r) (found (same r) rs) (itself r)
  found_there (x ∷ xs) r rs a =
      left_out (same r x) (Some x) (found (same r) (xs ++ r ∷ rs)) (either r x ∙ not_among x xs r rs a.0) ∙ found_there xs r rs a.1

under_append : (n : ℕ) (xs ys : List Row) → places_under n (xs ++ ys) ≡ places_under n xs ++ places_under n ys
under_append n [] ys = refl
under_append n (x ∷ xs) ys = by_test (is_child n x) (under_append n xs ys)
  where
    by_test : (b : Bool) → places_under n (xs ++ ys) ≡ places_under n xs ++ places_under n ys → cond b (x.1.place ∷ places_under n (xs ++ ys)) (places_under n (xs ++ ys)) ≡ cond b (x.1.place ∷ places_under n xs) (places_under n xs) ++ places_under n ys
    by_test true more = ap (λ (ps : List ℕ). x.1.place ∷ ps) more
    by_test false more = more

-- a key is not open in front of its entry
absent : (front es : List Entry) (e : Entry) (rs : List Entry) → AreBehind front (es ++ e ∷ rs) → is_open e.0 front ≡ false
absent front [] e rs h = h.0
absent front (x ∷ xs) e rs h =
    (or_parts (is_open e.0 front) (is_open e.0 (x ∷ [])) (sym (open-append e.0 front (x ∷ [])) ∙ absent (front ++ x ∷ []) xs e rs h.2)).0

-- ---- one node after the other

tree_is : (nodes : Nodes) (left : ℕ) (at : Option ℕ) (node : Node) → 0 < left → reached nodes at ≡ Some node → trees_along nodes left at ≡ trees_along nodes (left - 1) node.first_child ++ (node.key ∷ trees_along nodes (left - 1) node.next)
unfolding trees_along
tree_is nodes zero at node l e = absurd (omega arith)
tree_is nodes (suc less) at node l e =
    ap (λ (o : Option Node). tree_before o (trees_along nodes less (first_child_at o)) (trees_along nodes less (next_of o))) e
    ∙ λ i. trees_along nodes (same i) node.first_child ++ (node.key ∷ trees_along nodes (same i) node.next)
  where
    same : less ≡ suc less - 1
    same = omega arith

pub tells_more : (nodes : Nodes) (left : ℕ) (at : Option ℕ) (node : Node) (told more pushed all : List Key) → 0 < left → reached nodes at ≡ Some node → more ≡ told ++ trees_along nodes (left - 1) node.first_child → pushed ≡ more ++ node.key ∷ [] → told ++ trees_along nodes left at ≡ all → pushed ++ trees_along nodes (left - 1) node.next ≡ all
tells_more nodes left at node told more pushed all l e f h a =
    ap (λ ks. ks ++ trees_along nodes (left - 1) node.next) (h ∙ ap (λ ks. ks ++ node.key ∷ []) f)
    ∙ append_assoc (told ++ trees_along nodes (left - 1) node.first_child) (node.key ∷ []) (trees_along nodes (left - 1) node.next)
    ∙ append_assoc told (trees_along nodes (left - 1) node.first_child) (node.key ∷ trees_along nodes (left - 1) node.next)
    ∙ ap (λ ks. told ++ ks) (sym (tree_is nodes left at node l e)) ∙ a

module _ (rows : List Row) (places : AreApart same_place rows) (numbers : AreApart with_one_number rows) (keys : AreApart with_one_key rows) (forest : AreBehind [] (entries rows)) where
  abbrev g : Nodes
  g p = node_at p rows

  abbrev E : List Row → List Entry
  E some = entries_among rows some

  by_place : (front : List Row) (r : Row) (rs : List Row) → rows ≡ front ++ r ∷ rs → found (has_place r.1.place) rows ≡ Some r
  by_place front r rs e =
      ap (found (has_place r.1.place)) e ∙ found_there same_place place_itself place_either front r rs (subst (AreApart same_place) e places)

  by_number : (front : List Row) (r : Row) (rs : List Row) → rows ≡ front ++ r ∷ rs → found (has_number r.0) rows ≡ Some r
  by_number front r rs e =
      ap (found (has_number r.0)) e ∙ found_there with_one_number number_itself number_either front r rs (subst (AreApart with_one_number) e numbers)

  by_key : (front : List Row) (r : Row) (rs : List Row) → rows ≡ front ++ r ∷ rs → found (has_key r.1.key) rows ≡ Some r
  by_key front r rs e =
      ap (found (has_key r.1.key)) e ∙ found_there with_one_key key_itself key_either front r rs (subst (AreApart with_one_key) e keys)

  -- the key above a child is that of the row with the number
  above_child : (r : Row) (u : Option ℕ) → found (has_number r.0) rows ≡ Some r → is_number r.0 u ≡ true → key_with u rows ≡ Some r.1.key
  above_child r None f t = absurd cc
  above_child r (Some m) f t =
      let i : r.0 ≡ m = numbers_are r.0 m t in
      ap (option_map (λ (q : Row). q.1.key)) (subst (λ (z : ℕ). found (has_number z) rows ≡ Some r) i f)

  -- no child of a row stands in front of it, nor is it its own
  none_under : (done some rs : List Row) (r : Row) → found (has_number r.0) rows ≡ Some r → AreBehind (E done) (E (some ++ r ∷ rs)) → places_under r.0 (some ++ r ∷ rs) ≡ places_under r.0 rs
  none_under done [] rs r f h =
      left_out (is_child r.0 r) (r.1.place ∷ places_under r.0 rs) (places_under r.0 rs)
      (not_true (is_child r.0 r)
      (λ t. clash (is_open r.1.key (E done)) (sym (ap (λ (k : Option Key). is_open_or_none k (E done)) (above_child r r.1.parent f t)) ∙ h.1) h.0))
  none_under done (x ∷ xs) rs r f h =
      left_out (is_child r.0 x) (x.1.place ∷ places_under r.0 (xs ++ r ∷ rs)) (places_under r.0 (xs ++ r ∷ rs))
      (not_true (is_child r.0 x)
      (λ t.
      let inside : AreBehind (E done) (E (x ∷ xs) ++ (r.1.key, key_with r.1.parent rows) ∷ E rs) = subst (AreBehind (E done)) (map-append (λ (q : Row). (q.1.key, key_with q.1.parent rows)) (x ∷ xs) (r ∷ rs)) h in
      clash (is_open r.1.key (E done)) (sym (ap (λ (k : Option Key). is_open_or_none k (E done)) (above_child r x.1.parent f t)) ∙ h.1) (absent (E done) (E (x ∷ xs)) (r.1.key, key_with r.1.parent rows) (E rs) inside)))
      ∙ none_under (done ++ x ∷ []) xs rs r f
      (subst (λ (zs : List Entry). AreBehind zs (E (xs ++ r ∷ rs))) (sym (map-append (λ (q : Row). (q.1.key, key_with q.1.parent rows)) done (x ∷ []))) h.2)

  children_behind : (front : List Row) (r : Row) (rs : List Row) → rows ≡ front ++ r ∷ rs → places_under r.0 rows ≡ places_under r.0 rs
  children_behind front r rs e =
      ap (places_under r.0) e
      ∙ none_under [] front rs r (by_number front r rs e) (subst (λ (zs : List Row). AreBehind [] (E zs)) e forest)

  siblings_are : (n : ℕ) (u : Option ℕ) → is_number n u ≡ true → siblings u rows ≡ places_under n rows
  siblings_are n None t = absurd cc
  siblings_are n (Some m) t = ap (λ (z : ℕ). places_under z rows) (sym (numbers_are n m t))

  next_is : (n : ℕ) (front : List Row) (r : Row) (rs : List Row) → rows ≡ front ++ r ∷ rs → is_child n r ≡ true → behind r.1.place (siblings r.1.parent rows) ≡ first_listed (places_under n rs)
  next_is n front r rs e t =
      let split : places_under n rows ≡ places_under n front ++ r.1.place ∷ places_under n rs = ap (places_under n) e ∙ under_append n front (r ∷ rs) ∙ ap (λ ps. places_under n front ++ ps) (taken (is_child n r) (r.1.place ∷ places_under n rs) (places_under n rs) t) in
      ap (behind r.1.place) (siblings_are n r.1.parent t ∙ split)
      ∙ behind_split r.1.place (places_under n front) (places_under n rs) (subst AreOnce split (under_once n rows places))

  nothing : (left : ℕ) → trees_along g left None ≡ []
  unfolding trees_along
  nothing zero = refl
  nothing (suc left) = refl

  at_node : (left p : ℕ) (r : Row) → found (has_place p) rows ≡ Some r → trees_along g (suc left) (Some p) ≡ trees_along g left (first_listed (places_under r.0 rows)) ++ (r.1.key ∷ trees_along g left (behind r.1.place (siblings r.1.parent rows)))
  unfolding trees_along
  at_node left p r f =
      ap (λ (o : Option Row). tree_before (option_map (node_of rows) o) (trees_along g left (first_child_at (option_map (node_of rows) o))) (trees_along g left (next_of (option_map (node_of rows) o)))) f

  -- the keys under a row, of whose children these are left
  abbrev IsTree : List Row → Row → Type 0
  IsTree rest y = (left : ℕ) → length rest ≤ left → trees_along g left (first_listed (places_under y.0 rest)) ≡ under y.1.key (E rest)

  child : (front : List Row) (r : Row) (rs : List Row) (y : Row) → rows ≡ front ++ r ∷ rs → found (has_key y.1.key) rows ≡ Some y → is_child y.0 r ≡ true → IsTree rs r → IsTree rs y → IsTree (r ∷ rs) y
  child front r rs y e f t first others zero l = absurd (omega arith)
  child front r rs y e f t first others (suc less) l =
      ap (λ ps. trees_along g (suc less) (first_listed ps)) (taken (is_child y.0 r) (r.1.place ∷ places_under y.0 rs) (places_under y.0 rs) t)
      ∙ at_node less r.1.place r (by_place front r rs e)
      ∙ (λ i. trees_along g less (first_listed (children_behind front r rs e i)) ++ (r.1.key ∷ trees_along g less (next_is y.0 front r rs e t i)))
      ∙ (λ i. first less (omega arith) i ++ (r.1.key ∷ others less (omega arith) i))
      ∙ sym (taken (is_under y.1.key (key_with r.1.parent rows)) _ _ (under_key rows places numbers keys y.1.key y f r.1.parent ∙ t))

  other : (r : Row) (rs : List Row) (y : Row) → found (has_key y.1.key) rows ≡ Some y → is_child y.0 r ≡ false → IsTree rs y → IsTree (r ∷ rs) y
  other r rs y f t others left l =
      ap (λ ps. trees_along g left (first_listed ps)) (left_out (is_child y.0 r) (r.1.place ∷ places_under y.0 rs) (places_under y.0 rs) t)
      ∙ others left (omega arith)
      ∙ sym (left_out (is_under y.1.key (key_with r.1.parent rows)) _ _ (under_key rows places numbers keys y.1.key y f r.1.parent ∙ t))

  abbrev longer : (front : List Row) (r : Row) (rs : List Row) → rows ≡ front ++ r ∷ rs → rows ≡ (front ++ r ∷ []) ++ rs
  longer front r rs e = e ∙ sym (append_assoc front (r ∷ []) rs)

  tree : (rest front : List Row) (y : Row) → rows ≡ front ++ rest → found (has_key y.1.key) rows ≡ Some y → IsTree rest y
  tree [] front y e f left l = nothing left
  tree (r ∷ rs) front y e f left l =
      cases (is_child y.0 r)
      (λ t. child front r rs y e f t (tree rs (front ++ r ∷ []) r (longer front r rs e) (by_key front r rs e)) (tree rs (front ++ r ∷ []) y (longer front r rs e) f) left l)
      (λ t. other r rs y f t (tree rs (front ++ r ∷ []) y (longer front r rs e) f) left l)

  pub roots : (rest front : List Row) (left : ℕ) → rows ≡ front ++ rest → length rows ≤ left → roots_keys g rows left (values_of rest) ≡ post_order_of (E rest)
  roots [] front left e l = refl
  roots (r ∷ rs) front left e l = by_test (is_root (key_with r.1.parent rows)) (roots rs (front ++ r ∷ []) left (longer front r rs e) l)
    where
      fewer : (xs : List Row) → length rs ≤ length (xs ++ r ∷ rs)
      fewer [] = omega arith
      fewer (x ∷ xs) = let more = fewer xs in omega arith

      enough : length rs ≤ left
      enough = let a = fewer front in let b : length rows ≡ length (front ++ r ∷ rs) = ap length e in omega arith

      its_tree : trees_along g left (first_child_of g (Some r.1.place)) ≡ under r.1.key (E rs)
      its_tree =
          ap (λ (o : Option Row). trees_along g left (first_child_at (option_map (node_of rows) o))) (by_place front r rs e)
          ∙ ap (λ ps. trees_along g left (first_listed ps)) (children_behind front r rs e)
          ∙ tree rs (front ++ r ∷ []) r (longer front r rs e) (by_key front r rs e) left enough

      by_test : (b : Bool) → roots_keys g rows left (values_of rs) ≡ post_order_of (E rs) → cond b (trees_along g left (first_child_of g (Some r.1.place)) ++ (r.1.key ∷ [])) [] ++ roots_keys g rows left (values_of rs) ≡ cond b (under r.1.key (E rs) ++ (r.1.key ∷ post_order_of (E rs))) (post_order_of (E rs))
      by_test true more =
          (λ i. (its_tree i ++ (r.1.key ∷ [])) ++ more i) ∙ append_assoc (under r.1.key (E rs)) (r.1.key ∷ []) (post_order_of (E rs))
      by_test false more = more
