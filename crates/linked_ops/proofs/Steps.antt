-- The steps of taking a node out.
use Rattle.std.proofs.Common.{◌≡◌, ℕ, true, cond, List, Option, Some, None, sym, ap, subst, ◌∙◌}
use Rattle.std.specs.Prelude.{nat_eq}
use Rattle.std.specs.Option.{option_map}
use Rattle.slab.specs.Slab.{Slab, get, Updates}
use Rattle.linked_ops.specs.declared.node.Node.{Node}
use Rattle.linked_ops.specs.declared.node.Opening.{Opening}
use Rattle.linked_ops.specs.declared.key.Key.{Key}
use Rattle.linked_ops.specs.declared.numbers.Numbers.{Numbers}
use Rattle.linked_ops.specs.Keys.{same_key}
use Rattle.linked_ops.specs.Numbers.{number_in}
use Rattle.linked_ops.specs.Rows.{Row, has_number, found, opening_with, above_place, place_with}
use Rattle.linked_ops.specs.Links.{Nodes, with_next, with_previous, without_child, changed, put_node, taken_out, unlinked_in}
use Rattle.linked_ops.proofs.Places.{cases, clash, nats_are, nat_is, taken, left_out}
use Rattle.linked_ops.proofs.Found.{keys_are, no_some}

pub updated : (old new : Slab Node) (key : ℕ) (slot : Option Node) → Updates old new key slot → (p : ℕ) → get new p ≡ put_node key slot (get old) p
updated old new key slot u p =
    cases (nat_eq p key)
    (λ t. subst (λ (z : ℕ). get new z ≡ slot) (sym (nats_are p key t)) u.changed ∙ sym (taken (nat_eq p key) slot (get old p) t))
    (λ f. u.others p (λ e. clash (nat_eq p key) (subst (λ (z : ℕ). nat_eq p z ≡ true) e (nat_is p)) f) ∙ sym (left_out (nat_eq p key) slot (get old p) f))

pub unlinked_by : (place : ℕ) (parent : Option ℕ) (n : Node) (nodes a b c d : Nodes) → Some n ≡ nodes place → ((p : ℕ) → a p ≡ put_node place None nodes p) → ((p : ℕ) → b p ≡ changed n.previous (with_next n.next) a p) → ((p : ℕ) → c p ≡ changed n.next (with_previous n.previous) b p) → ((p : ℕ) → d p ≡ changed parent (without_child n) c p) → (p : ℕ) → d p ≡ unlinked_in nodes place parent p
unlinked_by place parent n nodes a b c d there f g h k p =
    k p
    ∙ ap (λ (x : Nodes). changed parent (without_child n) x p) c_is
    ∙ ap (λ (x : Nodes). changed parent (without_child n) (changed n.next (with_previous n.previous) x) p) b_is
    ∙ ap (λ (x : Nodes). changed parent (without_child n) (changed n.next (with_previous n.previous) (changed n.previous (with_next n.next) x)) p) a_is
    ∙ ap (λ (o : Option Node). taken_out o place parent nodes p) there
  where
    a_is : a ≡ put_node place None nodes
    a_is = λ i q. f q i

    b_is : b ≡ changed n.previous (with_next n.next) a
    b_is = λ i q. g q i

    c_is : c ≡ changed n.next (with_previous n.previous) b
    c_is = λ i q. h q i

pub put_back : (key : Key) (made : ℕ) (old put back : Numbers) → number_in key old ≡ None → ((k : Key) → number_in k put ≡ cond (same_key key k) (Some made) (number_in k old)) → ((k : Key) → number_in k back ≡ cond (same_key key k) None (number_in k put)) → (k : Key) → number_in k back ≡ number_in k old
put_back key made old put back n f g k =
    g k
    ∙ cases (same_key key k)
    (λ t. taken (same_key key k) None (number_in k put) t ∙ sym (subst (λ (z : Key). number_in z old ≡ None) (keys_are key k t) n))
    (λ u. left_out (same_key key k) None (number_in k put) u ∙ f k ∙ left_out (same_key key k) (Some made) (number_in k old) u)

-- the place of the key above, by the row with the number
pub above_found : (rows : List Row) (n : ℕ) (r : Row) → found (has_number n) rows ≡ Some r → above_place rows (opening_with n rows) ≡ place_with r.1.parent rows
above_found rows n r e = ap (λ (o : Option Row). above_place rows (option_map (λ (q : Row). q.1) o)) e

pub opening_found : (rows : List Row) (n : ℕ) (r : Row) (o : Opening) → found (has_number n) rows ≡ Some r → Some o ≡ opening_with n rows → o ≡ r.1
opening_found rows n r o e f = some_opening o r.1 (f ∙ ap (λ (q : Option Row). option_map (λ (r : Row). r.1) q) e)
  where
    some_opening : (a b : Opening) → Some a ≡ Some b → a ≡ b
    some_opening a b e = cc

pub none_found : (rows : List Row) (n : ℕ) (r : Row) {X : Type 0} → found (has_number n) rows ≡ Some r → None ≡ opening_with n rows → X
none_found rows n r e f = absurd (no_some r.1 (sym (f ∙ ap (λ (q : Option Row). option_map (λ (r : Row). r.1) q) e)))
