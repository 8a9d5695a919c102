-- Arcs, as they are read one after the other.
use Rattle.std.proofs.Common.{◌≡◌, ◌≢◌, ℕ, ◌+◌, ◌-◌, ◌*◌, ◌%◌, ◌<◌, ◌≤◌, min, Bool, true, false, not, ◌&&◌, cond, drop, get_or, add-one, drop-cons, List, [], ◌∷◌, ◌++◌, length, Option, Some, None, refl, sym, ap, ◌∙◌, append_assoc, append-nil, arith, length-append, inl, inr}
use Rattle.std.specs.Prelude.{nat_eq, nat_lt, ◌↔◌, IsTrue, IsSome, IfSome}
use Rattle.std.specs.Bool.{MatchBool}
use Rattle.std.specs.List.{list_all}
use Rattle.std.proofs.lemmas.List.{drop_all}
use Rattle.std.proofs.lemmas.List.Folds.{list_all-append}
use Rattle.std.proofs.lemmas.Bool.{lt-leb, le-ltb, lt-ltb, ne_eqb}
use Rattle.osi_base.specs.Oid.{is_oid, IsOid}
use Rattle.asn1_types.specs.Fits.{has_32_bits}
use Rattle.ber_spelling.specs.Primitives.{sized, push_front, subidentifiers_of, arcs_from, judged_arcs}
use Rattle.packed_codec.specs.ObjectIds.{judged, joined, IsNoEnd}

-- what was found before, and what is still found
abbrev pub arcs_behind : List ℕ → Option (List ℕ) → Option (List ℕ)
arcs_behind [] o = judged_arcs o
arcs_behind (arc ∷ arcs) None = None
arcs_behind (arc ∷ arcs) (Some ns) = judged ((arc ∷ arcs) ++ ns)

-- the first subidentifier stands for two arcs, the others for one
abbrev first_arc : ℕ → ℕ
first_arc n = cond (nat_lt n 40) 0 (cond (nat_lt n 80) 1 2)

from_is : (n : ℕ) (ns : List ℕ) → arcs_from (n ∷ ns) ≡ first_arc n ∷ (n - 40 * first_arc n) ∷ ns
from_is n ns = by (nat_lt n 40) (nat_lt n 80)
  where
    by : (b c : Bool) → cond b (0 ∷ n ∷ ns) (cond c (1 ∷ (n - 40) ∷ ns) (2 ∷ (n - 80) ∷ ns)) ≡ cond b 0 (cond c 1 2) ∷ (n - 40 * cond b 0 (cond c 1 2)) ∷ ns
    by true c = let same : n ≡ n - 40 * 0 = omega arith in ap (λ (k : ℕ). 0 ∷ k ∷ ns) same
    by false true = let same : n - 40 ≡ n - 40 * 1 = omega arith in ap (λ (k : ℕ). 1 ∷ k ∷ ns) same
    by false false = let same : n - 80 ≡ n - 40 * 2 = omega arith in ap (λ (k : ℕ). 2 ∷ k ∷ ns) same

-- what stands behind the first two arcs goes on as it does
from_more : (n : ℕ) (ns : List ℕ) → arcs_from (n ∷ ns) ≡ arcs_from (n ∷ []) ++ ns
from_more n ns = from_is n ns ∙ sym (ap (λ (l : List ℕ). l ++ ns) (from_is n []))

pub joins : (arcs : List ℕ) (n : ℕ) (o : Option (List ℕ)) → arcs_behind arcs (push_front n o) ≡ arcs_behind (joined arcs n) o
joins [] n None = sym (ap (λ (l : List ℕ). arcs_behind l None) (from_is n []))
joins [] n (Some ns) = ap judged (from_is n ns) ∙ sym (ap (λ (l : List ℕ). arcs_behind l (Some ns)) (from_is n []))
joins (a ∷ arcs) n None = refl
joins (a ∷ arcs) n (Some ns) = ap judged (sym (append_assoc (a ∷ arcs) (n ∷ []) ns))

and_false : (b : Bool) → (b && false) ≡ false
and_false true = refl
and_false false = refl

judged_none : (xs ns : List ℕ) → IsNoEnd xs → judged (xs ++ ns) ≡ None
judged_none xs ns (inl e) = rw (list_all-append has_32_bits xs ns, e) refl
judged_none xs ns (inr lt) =
    let long : 32 < length (xs ++ ns) = omega (arith, length-append xs ns) in
    rw (lt-leb (length (xs ++ ns)) 32 long, and_false (list_all has_32_bits (xs ++ ns))) refl

pub ends : (arcs : List ℕ) (n : ℕ) (o : Option (List ℕ)) → IsNoEnd (joined arcs n) → arcs_behind arcs (push_front n o) ≡ None
ends [] n None h = refl
ends [] n (Some ns) h = ap judged (from_more n ns) ∙ judged_none (joined [] n) ns h
ends (a ∷ arcs) n None h = refl
ends (a ∷ arcs) n (Some ns) h = joins (a ∷ arcs) n (Some ns) ∙ judged_none (joined (a ∷ arcs) n) ns h

-- ---- one digit after the other

sub_last : (number d : ℕ) (begun : Bool) (ds : List ℕ) → d < 128 → subidentifiers_of number begun (d ∷ ds) ≡ push_front (sized (128 * number + d)) (subidentifiers_of 0 false ds)
sub_last number d begun ds lt =
    let ne : d ≢ 128 = λ e. omega arith in
    rw (ne_eqb d 128 ne, lt-ltb d 128 lt) refl

sub_more : (number d : ℕ) (begun : Bool) (ds : List ℕ) → 128 ≤ d → (nat_eq d 128 && not begun) ≡ false → subidentifiers_of number begun (d ∷ ds) ≡ subidentifiers_of (sized (128 * number + (d - 128))) true ds
sub_more number d begun ds le e = rw (e, le-ltb d 128 le) refl

cell : (os : List ℕ) (i : ℕ) → i < length os → drop i os ≡ get_or os i 0 ∷ drop (i + 1) os
cell os i lt = rw (add-one, drop-cons os i 0 lt) refl

last_is : (os : List ℕ) (i number m : ℕ) (begun : Bool) → i < length os → get_or os i 0 < 128 → m ≡ min (128 * number + get_or os i 0 % 128) 1099511627776 → subidentifiers_of number begun (drop i os) ≡ push_front m (subidentifiers_of 0 false (drop (i + 1) os))
last_is os i number m begun lt low e =
    let same : sized (128 * number + get_or os i 0) ≡ m = omega arith in
    ap (subidentifiers_of number begun) (cell os i lt) ∙ sub_last number (get_or os i 0) begun (drop (i + 1) os) low ∙ ap (λ (k : ℕ). push_front k (subidentifiers_of 0 false (drop (i + 1) os))) same

put_is : (b : Bool) (after arcs : List ℕ) (m : ℕ) → not b ≡ false → MatchBool b (after ≡ joined arcs m) (IsNoEnd (joined arcs m)) → after ≡ joined arcs m
put_is true after arcs m e h = h
put_is false after arcs m e h = absurd cc

put_none : (b : Bool) (after arcs : List ℕ) (m : ℕ) → not b ≡ true → MatchBool b (after ≡ joined arcs m) (IsNoEnd (joined arcs m)) → IsNoEnd (joined arcs m)
put_none true after arcs m e h = absurd cc
put_none false after arcs m e h = h

-- a subidentifier ends, and its arcs are put
pub reads_last : (os : List ℕ) (i number m : ℕ) (begun b : Bool) (arcs after : List ℕ) (total : Option (List ℕ)) → i < length os → get_or os i 0 < 128 → m ≡ min (128 * number + get_or os i 0 % 128) 1099511627776
    → not b ≡ false → MatchBool b (after ≡ joined arcs m) (IsNoEnd (joined arcs m))
    → arcs_behind arcs (subidentifiers_of number begun (drop i os)) ≡ total → arcs_behind after (subidentifiers_of 0 false (drop (i + 1) os)) ≡ total
reads_last os i number m begun b arcs after total lt low e t put so_far =
    ap (λ (x : List ℕ). arcs_behind x (subidentifiers_of 0 false (drop (i + 1) os))) (put_is b after arcs m t put)
    ∙ sym (joins arcs m (subidentifiers_of 0 false (drop (i + 1) os))) ∙ sym (ap (arcs_behind arcs) (last_is os i number m begun lt low e)) ∙ so_far

-- a subidentifier ends, and its arcs are too many or too large
pub reads_none : (os : List ℕ) (i number m : ℕ) (begun b : Bool) (arcs after : List ℕ) (total : Option (List ℕ)) → i < length os → get_or os i 0 < 128 → m ≡ min (128 * number + get_or os i 0 % 128) 1099511627776
    → not b ≡ true → MatchBool b (after ≡ joined arcs m) (IsNoEnd (joined arcs m))
    → arcs_behind arcs (subidentifiers_of number begun (drop i os)) ≡ total → None ≡ total
reads_none os i number m begun b arcs after total lt low e t put so_far =
    sym (ends arcs m (subidentifiers_of 0 false (drop (i + 1) os)) (put_none b after arcs m t put)) ∙ sym (ap (arcs_behind arcs) (last_is os i number m begun lt low e)) ∙ so_far

-- a subidentifier goes on
pub reads_more : (os : List ℕ) (i number m : ℕ) (begun : Bool) (arcs : List ℕ) (total : Option (List ℕ)) → i < length os → get_or os i 0 < 256 → 128 ≤ get_or os i 0 → m ≡ min (128 * number + get_or os i 0 % 128) 1099511627776
    → (nat_eq (get_or os i 0) 128 && not begun) ≡ false
    → arcs_behind arcs (subidentifiers_of number begun (drop i os)) ≡ total → arcs_behind arcs (subidentifiers_of m true (drop (i + 1) os)) ≡ total
reads_more os i number m begun arcs total lt byte high e free so_far =
    let same : sized (128 * number + (get_or os i 0 - 128)) ≡ m = omega arith in
    ap (arcs_behind arcs) (sym (ap (subidentifiers_of number begun) (cell os i lt) ∙ sub_more number (get_or os i 0) begun (drop (i + 1) os) high free ∙ ap (λ (k : ℕ). subidentifiers_of k true (drop (i + 1) os)) same)) ∙ so_far

and_test : (a b : Bool) → a ≡ true → (a && b) ≡ b
and_test true b e = refl
and_test false b e = absurd cc

from_judged : (r : Option (List ℕ)) (arcs : List ℕ) (b : Bool) → is_oid arcs ≡ b → (IsSome r ↔ IsTrue b) → IfSome r (λ oid. oid ≡ arcs) → r ≡ cond b (Some arcs) None
from_judged (Some x) arcs true e h v = ap (λ (y : List ℕ). Some y) v
from_judged (Some x) arcs false e h v = absurd (let no_way = h.0 refl in cc)
from_judged None arcs true e h v = absurd (let no_way = h.1 refl in cc)
from_judged None arcs false e h v = refl

pub arcs_judged : (r : Option (List ℕ)) (arcs : List ℕ) → list_all has_32_bits arcs ≡ true → (IsSome r ↔ IsOid arcs) → IfSome r (λ oid. oid ≡ arcs) → r ≡ judged arcs
arcs_judged r arcs small one value =
    from_judged r arcs (is_oid arcs) refl one value
    ∙ ap (λ (b : Bool). cond b (Some arcs) None) (sym (and_test (list_all has_32_bits arcs) (is_oid arcs) small))

-- all is read
pub reads_end : (os : List ℕ) (i number : ℕ) (arcs : List ℕ) (r total : Option (List ℕ)) → length os ≤ i → r ≡ judged arcs
    → arcs_behind arcs (subidentifiers_of number false (drop i os)) ≡ total → r ≡ total
reads_end os i number arcs r total le some_or_refuse so_far =
    some_or_refuse ∙ sym (finished arcs) ∙ sym (ap (λ (x : List ℕ). arcs_behind arcs (subidentifiers_of number false x)) (drop_all i os le)) ∙ so_far
  where
    finished : (arcs : List ℕ) → arcs_behind arcs (Some []) ≡ judged arcs
    finished [] = refl
    finished (a ∷ arcs) = ap judged (append-nil (a ∷ arcs))

pub not_true : (b : Bool) → b ≡ true → not b ≡ false
not_true b e = ap not e

pub not_false : (b : Bool) → b ≡ false → not b ≡ true
not_false b e = ap not e
