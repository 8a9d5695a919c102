-- What a forest keeps stays, as a key is opened and as one is closed.
use Rattle.std.proofs.Common.{◌≡◌, ℕ, zero, suc, ◌+◌, ◌≤◌, length, true, false, cond, List, [], ◌∷◌, ◌++◌, Option, Some, None, refl, sym, ap, subst, ◌∙◌, arith}
use Rattle.std.specs.Prelude.{is_some}
use Rattle.std.specs.Option.{option_map}
use Rattle.std.specs.Map.{values_of}
use Rattle.slab.specs.Slab.{Slab, get}
use Rattle.linked_ops.specs.declared.key.Key.{Key}
use Rattle.linked_ops.specs.declared.node.Node.{Node}
use Rattle.linked_ops.specs.declared.node.Opening.{Opening}
use Rattle.linked_ops.specs.declared.numbers.Numbers.{Numbers}
use Rattle.linked_ops.specs.Keys.{same_key}
use Rattle.linked_ops.specs.Entries.{is_open, is_open_or_none, parent_of, children_of, closed, post_order_of, AreBehind}
use Rattle.linked_ops.specs.Rows.{Row, has_key, has_number, has_place, found, first_gone, number_of, key_with, place_with, opening_with, above_in, entries, node_of, node_at, same_place, with_one_number, with_one_key, IsBelow, AreRows}
use Rattle.linked_ops.specs.Numbers.{number_in}
use Rattle.linked_ops.specs.Links.{Nodes, first_child_at, first_child_of, linked_in, unlinked_in}
use Rattle.linked_ops.specs.KeysAlong.{keys_along, roots_keys}
use Rattle.linked_ops.specs.Kept.{IsKept, IsSame, IsEntered, AreGone, IsUnder}
use Rattle.linked_ops.proofs.Behind.{opened, closed_forest}
use Rattle.linked_ops.proofs.Places.{cases, taken, left_out}
use Rattle.linked_ops.proofs.Found.{keys_are, no_some, passes, apart_snoc, apart_gone, none_made, place_itself, place_either, number_itself, number_either, key_itself, key_either}
use Rattle.linked_ops.proofs.Linked.{IsPlaced, own_place, linked_is}
use Rattle.linked_ops.proofs.Unlinked.{unlinked_is}
use Rattle.linked_ops.proofs.TreeKeys.{roots}
use Rattle.linked_ops.proofs.Listed.{open_is, inserted, numbered, unnumbered, key_numbered, parent_is_above, no_parent, childless, children_along, unchanged, entries_gone, numbers_gone, entries_snoc, numbers_snoc, below_snoc, below_gone, found_below}

module _ (rows : List Row) (nodes : Slab Node) (numbers : Numbers) (made : ℕ) (kept : IsKept rows nodes numbers made) where
  abbrev apart : AreRows made rows
  apart = kept.sound

  abbrev held : Nodes
  held p = get nodes p

  abbrev wanted : Nodes
  wanted p = node_at p rows

  nodes_are : held ≡ wanted
  nodes_are = λ i p. kept.linked p i

  -- ---- where a key is to stand

  number_is : (k : Key) (n : ℕ) → number_in k numbers ≡ Some n → number_of k rows ≡ Some n
  number_is k n e = sym (kept.numbered k) ∙ e

  placed : (above : Option Key) (u : Option ℕ) → IsUnder numbers above u → IsPlaced rows apart.places apart.numbers u
  placed None None h = tt
  placed None (Some n) h = absurd h
  placed (Some k) None h = absurd h
  placed (Some k) (Some n) h = let y = numbered rows apart.places apart.numbers apart.keys k n (number_is k n h) in (y.0, y.2)

  below : (above : Option Key) (u : Option ℕ) → IsUnder numbers above u → IsBelow made u
  below None None h = tt
  below None (Some n) h = absurd h
  below (Some k) None h = absurd h
  below (Some k) (Some n) h =
      let y = numbered rows apart.places apart.numbers apart.keys k n (number_is k n h) in
      subst (λ (m : ℕ). IsBelow made (Some m)) y.3 (found_below made (has_number n) rows y.0 apart.below y.2)

  key_is : (above : Option Key) (u : Option ℕ) → IsUnder numbers above u → key_with u rows ≡ above
  key_is None None h = refl
  key_is None (Some n) h = absurd h
  key_is (Some k) None h = absurd h
  key_is (Some k) (Some n) h = key_numbered rows apart.places apart.numbers apart.keys k n (number_is k n h)

  -- ---- opening

  module _ (key : Key) (above : Option Key) (u : Option ℕ) (under : IsUnder numbers above u) (absent : number_in key numbers ≡ None) (new_rows : List Row) (new_nodes : Slab Node) (new_numbers : Numbers) (entered : IsEntered made key u rows new_rows nodes new_nodes numbers new_numbers) where
    abbrev opening : Opening
    opening = record { key = key; parent = u; place = entered.place }

    abbrev longer : List Row
    longer = rows ++ (made, opening) ∷ []

    rows_are : new_rows ≡ longer
    rows_are = entered.opened ∙ inserted made opening rows apart.below

    no_key : found (has_key key) rows ≡ None
    no_key = unnumbered rows apart.places apart.numbers apart.keys key (sym (kept.numbered key) ∙ absent)

    no_place : found (has_place entered.place) rows ≡ None
    no_place = by_found (found (has_place entered.place) rows) refl
      where
        by_found : (o : Option Row) → found (has_place entered.place) rows ≡ o → o ≡ None
        by_found None h = refl
        by_found (Some y) h = no_some (node_of rows y) (sym (kept.linked entered.place ∙ ap (λ (o : Option Row). node_or o) h) ∙ entered.vacant)
          where
            node_or : Option Row → Option Node
            node_or None = None
            node_or (Some r) = Some (node_of rows r)

    rows_sound : AreRows (made + 1) longer
    rows_sound = record {
      places = apart_snoc same_place place_itself place_either rows (made, opening) apart.places no_place;
      numbers = apart_snoc with_one_number number_itself number_either rows (made, opening) apart.numbers (none_made made rows apart.below);
      keys = apart_snoc with_one_key key_itself key_either rows (made, opening) apart.keys no_key;
      below = below_snoc made rows opening apart.below (below above u under);
    }

    listed : entries longer ≡ entries rows ++ (key, above) ∷ []
    listed =
        entries_snoc rows apart.places apart.numbers apart.keys key made entered.place u apart.below (below above u under) no_key
        ∙ ap (λ (k : Option Key). entries rows ++ (key, k) ∷ []) (key_is above u under)

    open_above : (a : Option Key) (v : Option ℕ) → IsUnder numbers a v → is_open_or_none a (entries rows) ≡ true
    open_above None v h = refl
    open_above (Some k) None h = absurd h
    open_above (Some k) (Some n) h =
        let y = numbered rows apart.places apart.numbers apart.keys k n (number_is k n h) in
        open_is k rows rows ∙ ap is_some y.1

    not_open : is_open key (entries rows) ≡ false
    not_open = open_is key rows rows ∙ ap is_some no_key

    linked_all : (p : ℕ) → get new_nodes p ≡ node_at p longer
    linked_all p =
        entered.linked p
        ∙ ap (λ (f : Nodes). linked_in f entered.place key (place_with u rows) p) nodes_are
        ∙ linked_is rows apart.places apart.numbers key made entered.place u apart.below (placed above u under) no_place p

    pub opened_entries : entries new_rows ≡ entries rows ++ (key, above) ∷ []
    opened_entries = ap entries rows_are ∙ listed

    pub opened_kept : IsKept new_rows new_nodes new_numbers (made + 1)
    opened_kept =
        subst (λ (rs : List Row). IsKept rs new_nodes new_numbers (made + 1)) (sym rows_are)
        (record {
          sound = rows_sound;
          forest = subst (AreBehind []) (sym listed) (opened [] (entries rows) (key, above) kept.forest not_open (open_above above u under));
          linked = linked_all;
          numbered = λ k. entered.numbered k ∙ ap (cond (same_key key k) (Some made)) (kept.numbered k) ∙ sym (numbers_snoc rows apart.places apart.numbers apart.keys key made entered.place u apart.below (below above u under) no_key k);
        })

  -- ---- nothing changed

  pub same_kept : (new_rows : List Row) (new_nodes : Slab Node) (new_numbers : Numbers) → IsSame rows new_rows nodes new_nodes numbers new_numbers → IsKept new_rows new_nodes new_numbers made
  same_kept new_rows new_nodes new_numbers s =
      subst (λ (rs : List Row). IsKept rs new_nodes new_numbers made) (sym s.opened)
      (record { sound = kept.sound; forest = kept.forest; linked = λ p. s.linked p ∙ kept.linked p; numbered = λ k. s.numbered k ∙ kept.numbered k })

  -- ---- closing

  module _ (key : Key) (new_numbers : Numbers) (gone : (k : Key) → number_in k new_numbers ≡ cond (same_key key k) None (number_in k numbers)) where
    pub absent_kept : number_in key numbers ≡ None → IsKept rows nodes new_numbers made
    absent_kept e = record {
      sound = kept.sound;
      forest = kept.forest;
      linked = kept.linked;
      numbered = λ k.
          gone k
          ∙ cases (same_key key k)
          (λ b. taken (same_key key k) None (number_in k numbers) b ∙ sym (sym (kept.numbered k) ∙ subst (λ (z : Key). number_in z numbers ≡ None) (keys_are key k b) e))
          (λ b. left_out (same_key key k) None (number_in k numbers) b ∙ kept.numbered k);
    }

    pub absent_entries : number_in key numbers ≡ None → entries rows ≡ closed key (entries rows)
    absent_entries e = unchanged rows apart.places apart.numbers apart.keys key (unnumbered rows apart.places apart.numbers apart.keys key (sym (kept.numbered key) ∙ e))

    module _ (n : ℕ) (there : number_in key numbers ≡ Some n) (new_rows : List Row) (new_nodes : Slab Node) (left : AreGone n rows new_rows nodes new_nodes) where
      abbrev rest : List Row
      rest = first_gone (has_number n) rows

      row : (y : Row) × (found (has_key key) rows ≡ Some y) × (found (has_number n) rows ≡ Some y) × (y.0 ≡ n)
      row = numbered rows apart.places apart.numbers apart.keys key n (number_is key n there)

      its_key : row.0.1.key ≡ key
      its_key = keys_are row.0.1.key key (passes (has_key key) rows row.0 row.1)

      listed_rest : entries rest ≡ closed key (entries rows)
      listed_rest = entries_gone rows apart.places apart.numbers apart.keys n row.0 row.2 ∙ ap (λ (k : Key). closed k (entries rows)) its_key

      linked_rest : (p : ℕ) → get new_nodes p ≡ node_at p rest
      linked_rest p =
          left.1 row.0 row.2 p
          ∙ ap (λ (f : Nodes). unlinked_in f row.0.1.place (place_with row.0.1.parent rows) p) nodes_are
          ∙ unlinked_is rows apart.places apart.numbers (has_number n) row.0 row.2 p

      pub closed_entries : entries new_rows ≡ closed key (entries rows)
      closed_entries = ap entries left.0 ∙ listed_rest

      pub closed_kept : IsKept new_rows new_nodes new_numbers made
      closed_kept =
          subst (λ (rs : List Row). IsKept rs new_nodes new_numbers made) (sym left.0)
          (record {
            sound = record {
              places = apart_gone same_place place_itself place_either (has_number n) rows apart.places;
              numbers = apart_gone with_one_number number_itself number_either (has_number n) rows apart.numbers;
              keys = apart_gone with_one_key key_itself key_either (has_number n) rows apart.keys;
              below = below_gone made (has_number n) rows apart.below;
            };
            forest = closed_forest key (entries rows) (entries rest) listed_rest kept.forest;
            linked = linked_rest;
            numbered = λ k.
                gone k ∙ ap (cond (same_key key k) None) (kept.numbered k)
                ∙ sym (numbers_gone rows apart.places apart.numbers apart.keys n row.0 row.2 k ∙ ap (λ (z : Key). cond (same_key z k) None (number_of k rows)) its_key);
          })

  -- ---- what the calls answer

  some_number : (o : Option Row) → is_some (option_map (λ (r : Row). r.0) o) ≡ is_some o
  some_number None = refl
  some_number (Some r) = refl

  pub open_numbered : (key : Key) → is_open key (entries rows) ≡ is_some (number_in key numbers)
  open_numbered key = open_is key rows rows ∙ sym (some_number (found (has_key key) rows)) ∙ sym (ap is_some (kept.numbered key))

  pub parent_none : (key : Key) → number_in key numbers ≡ None → None ≡ parent_of key (entries rows)
  parent_none key e = no_parent rows apart.places apart.numbers apart.keys key (sym (kept.numbered key) ∙ e)

  pub parent_some : (key : Key) (n : ℕ) → number_in key numbers ≡ Some n → above_in rows (opening_with n rows) ≡ parent_of key (entries rows)
  parent_some key n e = parent_is_above rows apart.places apart.numbers apart.keys key n (number_is key n e)

  pub children_are : (key : Key) (left : ℕ) → length rows ≤ left → keys_along (get nodes) left (first_child_of (get nodes) (place_with (number_in key numbers) rows)) ≡ children_of key (entries rows)
  children_are key left l = ap (λ (f : Nodes). keys_along f left (first_child_of f (place_with (number_in key numbers) rows))) nodes_are ∙ by_number (number_in key numbers) refl
    where
      nowhere : (f : Nodes) (m : ℕ) → keys_along f m None ≡ []
      nowhere f zero = refl
      nowhere f (suc m) = refl

      by_number : (o : Option ℕ) → number_in key numbers ≡ o → keys_along wanted left (first_child_of wanted (place_with o rows)) ≡ children_of key (entries rows)
      by_number None e = nowhere wanted left ∙ childless rows apart.places apart.numbers apart.keys key (unnumbered rows apart.places apart.numbers apart.keys key (sym (kept.numbered key) ∙ e)) rows
      by_number (Some n) e =
          let y = numbered rows apart.places apart.numbers apart.keys key n (number_is key n e) in
          ap (λ (o : Option Row). keys_along wanted left (first_child_of wanted (option_map (λ (r : Row). r.1.place) o))) y.2
          ∙ ap (λ (o : Option Row). keys_along wanted left (first_child_at (option_map (node_of rows) o))) (own_place rows apart.places apart.numbers (has_number n) y.0 y.2)
          ∙ children_along rows apart.places apart.numbers apart.keys key y.0 y.1 left l

  pub trees_are : (told : List Key) → told ≡ roots_keys (get nodes) rows (length rows) (values_of rows) → told ≡ post_order_of (entries rows)
  trees_are told e =
      e ∙ ap (λ (f : Nodes). roots_keys f rows (length rows) (values_of rows)) nodes_are
      ∙ roots rows apart.places apart.numbers apart.keys kept.forest rows [] (length rows) refl (omega arith)

  pub above_open : (above : Option Key) (u : Option ℕ) → IsUnder numbers above u → is_open_or_none above (entries rows) ≡ true
  above_open None u h = refl
  above_open (Some k) None h = absurd h
  above_open (Some k) (Some n) h = open_numbered k ∙ ap is_some h

pub none_numbered : (o : Option ℕ) → is_some o ≡ false → o ≡ None
none_numbered None e = refl
none_numbered (Some n) e = absurd cc
