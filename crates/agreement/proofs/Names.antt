-- Which identifiers alterations name: what is named once, what is touched, what stays of a list.
use Rattle.std.proofs.Common.{◌≡◌, ℕ, Bool, true, false, ◌||◌, nat_eq, List, [], ◌∷◌, ◌++◌, refl, sym, ap, ◌∙◌, true≢false, subst}
use Rattle.std.proofs.lemmas.Bool.Decides.{nat_tests}
use Rattle.std.proofs.Common.{arith}
use Rattle.agreement.specs.Sets.{ContextSet, Item, Result, changed, altered, lookup, AreDistinct, is_among, identifier_of, identifiers, named}
use Rattle.agreement.specs.Sets.Item.{Addition, Deletion}
use Rattle.agreement.specs.Sets.Result.{Rejected, AcceptedAs, Accepted, Kept}
use Rattle.agreement.specs.Takings.{later}
use Rattle.agreement.proofs.Order.{lookup-put_other, lookup-remove_other}

-- a context that no item names
abbrev pub IsUntouched : ℕ → List Item → Type 0
IsUntouched k [] = Unit {0}
IsUntouched k (item ∷ items) = (identifier_of item ≡ k → ⊥) × IsUntouched k items

abbrev pub AllUntouched : ℕ → List (List Item) → Type 0
AllUntouched k [] = Unit {0}
AllUntouched k (items ∷ rest) = IsUntouched k items × AllUntouched k rest

-- items that name nothing that these alterations name
abbrev pub AreUntouched : List Item → List (List Item) → Type 0
AreUntouched [] own = Unit {0}
AreUntouched (item ∷ items) own = AllUntouched (identifier_of item) own × AreUntouched items own

pub later-untouched : (k : ℕ) (own : List (List Item)) → AllUntouched k own → AllUntouched k (later own)
later-untouched k [] u = tt
later-untouched k (items ∷ own) u = u.1

pub later-all_untouched : (items : List Item) (own : List (List Item)) → AreUntouched items own → AreUntouched items (later own)
later-all_untouched [] own u = tt
later-all_untouched (i ∷ is) own u = (later-untouched (identifier_of i) own u.0, later-all_untouched is own u.1)

-- lists of names
among-right : (k : ℕ) (xs ys : List ℕ) → is_among k ys ≡ true → is_among k (xs ++ ys) ≡ true
among-right k [] ys e = e
among-right k (x ∷ xs) ys e = let ih = among-right k xs ys e in go (nat_eq k x) ih
  where
    go : (b : Bool) → is_among k (xs ++ ys) ≡ true → (b || is_among k (xs ++ ys)) ≡ true
    go true i = refl
    go false i = i

among-left : (k : ℕ) (xs ys : List ℕ) → is_among k xs ≡ true → is_among k (xs ++ ys) ≡ true
among-left k [] ys e = absurd (true≢false (sym e))
among-left k (x ∷ xs) ys e = go (nat_eq k x) e (among-left k xs ys)
  where
    go : (b : Bool) → (b || is_among k xs) ≡ true → (is_among k xs ≡ true → is_among k (xs ++ ys) ≡ true) → (b || is_among k (xs ++ ys)) ≡ true
    go true e f = refl
    go false e f = f e

distinct-right : (xs ys : List ℕ) → AreDistinct (xs ++ ys) → AreDistinct ys
distinct-right [] ys d = d
distinct-right (x ∷ xs) ys d = distinct-right xs ys d.1

distinct-left : (xs ys : List ℕ) → AreDistinct (xs ++ ys) → AreDistinct xs
distinct-left [] ys d = tt
distinct-left (x ∷ xs) ys d = (go (is_among x xs) refl, distinct-left xs ys d.1)
  where
    go : (b : Bool) → is_among x xs ≡ b → is_among x xs ≡ false
    go false e = e
    go true e = absurd (true≢false (sym (among-left x xs ys e) ∙ d.0))

among-first : (k : ℕ) (xs : List ℕ) → is_among k (k ∷ xs) ≡ true
among-first k xs = grind (arith, nat_tests)

-- what stands behind in a list of names that are distinct is untouched by what stands before
behind-untouched : (before : List Item) (names : List ℕ) (k : ℕ) → AreDistinct (identifiers before ++ names) → is_among k names ≡ true → IsUntouched k before
behind-untouched [] names k d e = tt
behind-untouched (i ∷ is) names k d e =
    (λ same. true≢false (sym (ap (λ j. is_among j (identifiers is ++ names)) same ∙ among-right k (identifiers is) names e) ∙ d.0), behind-untouched is names k d.1 e)

named-append : (own : List (List Item)) (items : List Item) → named (own ++ (items ∷ [])) ≡ named own ++ identifiers items
named-append [] items = nil (identifiers items)
  where
    nil : (xs : List ℕ) → xs ++ [] ≡ xs
    nil [] = refl
    nil (x ∷ xs) = ap (λ ys. x ∷ ys) (nil xs)
named-append (o ∷ own) items = ap (λ xs. identifiers o ++ xs) (named-append own items) ∙ sym (assoc (identifiers o) (named own) (identifiers items))
  where
    assoc : (xs ys zs : List ℕ) → (xs ++ ys) ++ zs ≡ xs ++ (ys ++ zs)
    assoc [] ys zs = refl
    assoc (x ∷ xs) ys zs = ap (λ ws. x ∷ ws) (assoc xs ys zs)

one-untouched : (own : List (List Item)) (names : List ℕ) (k : ℕ) → AreDistinct (named own ++ names) → is_among k names ≡ true → AllUntouched k own
one-untouched [] names k d e = tt
one-untouched (o ∷ own) names k d e =
    let h : AreDistinct (identifiers o ++ (named own ++ names)) = subst AreDistinct (assoc (identifiers o) (named own) names) d in
    (behind-untouched o (named own ++ names) k h (among-right k (named own) names e), one-untouched own names k (distinct-right (identifiers o) (named own ++ names) h) e)
  where
    assoc : (xs ys zs : List ℕ) → (xs ++ ys) ++ zs ≡ xs ++ (ys ++ zs)
    assoc [] ys zs = refl
    assoc (x ∷ xs) ys zs = ap (λ ws. x ∷ ws) (assoc xs ys zs)

-- an alteration that names nothing that the others name
pub once-distinct : (own : List (List Item)) (items : List Item) → AreDistinct (named (own ++ (items ∷ []))) → AreDistinct (identifiers items)
once-distinct own items d = distinct-right (named own) (identifiers items) (subst AreDistinct (named-append own items) d)

pub once-untouched : (own : List (List Item)) (items : List Item) → AreDistinct (named (own ++ (items ∷ []))) → AreUntouched items own
once-untouched own items d = go items (λ k e. one-untouched own (identifiers items) k (subst AreDistinct (named-append own items) d) e)
  where
    go : (is : List Item) → ((k : ℕ) → is_among k (identifiers is) ≡ true → AllUntouched k own) → AreUntouched is own
    go [] f = tt
    go (i ∷ is) f = (f (identifier_of i) (among-first (identifier_of i) (identifiers is)), go is (λ k e. f k (among-right k (identifier_of i ∷ []) (identifiers is) e)))

-- what the first alteration names, no later one does
pub first-untouched : (items : List Item) (own : List (List Item)) → AreDistinct (named (items ∷ own)) → (k : ℕ) → is_among k (named own) ≡ true → IsUntouched k items
first-untouched items own d k e = behind-untouched items (named own) k d e

pub later-distinct : (own : List (List Item)) → AreDistinct (named own) → AreDistinct (named (later own))
later-distinct [] d = d
later-distinct (items ∷ own) d = distinct-right (identifiers items) (named own) d

pub among-named : (items : List Item) (own : List (List Item)) (k : ℕ) → is_among k (identifiers items) ≡ true → is_among k (named (items ∷ own)) ≡ true
among-named items own k e = among-left k (identifiers items) (named own) e

pub among-later : (items : List Item) (own : List (List Item)) (k : ℕ) → is_among k (named own) ≡ true → is_among k (named (items ∷ own)) ≡ true
among-later items own k e = among-right k (identifiers items) (named own) e

pub among-item : (i : Item) (is : List Item) → is_among (identifier_of i) (identifiers (i ∷ is)) ≡ true
among-item i is = among-first (identifier_of i) (identifiers is)

pub among-items : (i : Item) (is : List Item) (k : ℕ) → is_among k (identifiers is) ≡ true → is_among k (identifiers (i ∷ is)) ≡ true
among-items i is k e = among-right k (identifier_of i ∷ []) (identifiers is) e

-- what is untouched is looked up as before
lookup-changed : (i : Item) (r : Result) (k : ℕ) (set : ContextSet) → (identifier_of i ≡ k → ⊥) → lookup (changed i r set) k ≡ lookup set k
lookup-changed (Addition j o) (AcceptedAs p) k set n = lookup-put_other k j p set (λ e. n (sym e))
lookup-changed (Addition j o) Rejected k set n = refl
lookup-changed (Addition j o) Accepted k set n = refl
lookup-changed (Addition j o) Kept k set n = refl
lookup-changed (Deletion j) Accepted k set n = lookup-remove_other k j set (λ e. n (sym e))
lookup-changed (Deletion j) Kept k set n = refl
lookup-changed (Deletion j) Rejected k set n = refl
lookup-changed (Deletion j) (AcceptedAs p) k set n = refl

pub lookup-altered : (items : List Item) (results : List Result) (k : ℕ) (set : ContextSet) → IsUntouched k items → lookup (altered items results set) k ≡ lookup set k
lookup-altered [] rs k set n = refl
lookup-altered (i ∷ is) [] k set n = refl
lookup-altered (i ∷ is) (r ∷ rs) k set n = lookup-altered is rs k (changed i r set) n.1 ∙ lookup-changed i r k set n.0

pub untouched-append : (k : ℕ) (own : List (List Item)) (items : List Item) → AllUntouched k own → IsUntouched k items → AllUntouched k (own ++ (items ∷ []))
untouched-append k [] items u n = (n, tt)
untouched-append k (o ∷ own) items u n = (u.0, untouched-append k own items u.1 n)
