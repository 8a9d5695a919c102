-- Outcomes among what is shown.
use Rattle.std.proofs.Common.{inr, ◌≡◌, refl, ◌∙◌, sym, ap, subst, List, [], ◌∷◌, ◌++◌}
use Rattle.std.proofs.lemmas.List.{append_assoc}
use Rattle.std.specs.Prelude.{ℤ}
use Rattle.end_model.specs.end_rules.Members.{IsIn}
use Rattle.dialogue.specs.declared.indication.Indication.{Indication}
use Rattle.outcome_laws.specs.Exchanges.{outcome_in, outcomes_in}
use Rattle.outcome_laws.specs.Outcomes.{IfOutcome, EachOutcome}
use Rattle.outcome_laws.specs.Links.{Link, link_in, links_in}

pub outcomes-append : (xs ys : List Indication) → outcomes_in (xs ++ ys) ≡ outcomes_in xs ++ outcomes_in ys
outcomes-append [] ys = refl
outcomes-append (x ∷ xs) ys = ap (λ is. outcome_in x ++ is) (outcomes-append xs ys) ∙ sym (append_assoc (outcome_in x) (outcomes_in xs) (outcomes_in ys))

pub in-later : {X : Type 0} (xs ys : List X) (x : X) → IsIn x ys → IsIn x (xs ++ ys)
in-later [] ys x h = h
in-later (y ∷ xs) ys x h = inr (in-later xs ys x h)

if-on : {P Q : Type 0} (ids : List ℤ) → (P → Q) → IfOutcome ids P → IfOutcome ids Q
if-on [] f h = tt
if-on (id ∷ ids) f h = f h

pub each-on : (P Q : Indication → Type 0) (shown : List Indication) → ((i : Indication) → P i → Q i) → EachOutcome P shown → EachOutcome Q shown
each-on P Q [] f h = tt
each-on P Q (i ∷ shown) f h = (if-on (outcome_in i) (f i) h.0, each-on P Q shown f h.1)

pub each-append : (P : Indication → Type 0) (first second : List Indication) → EachOutcome P first → EachOutcome P second → EachOutcome P (first ++ second)
each-append P [] second h k = k
each-append P (i ∷ first) second h k = (h.0, each-append P first second h.1 k)

nil-first : (xs ys : List ℤ) → xs ++ ys ≡ [] → xs ≡ []
nil-first [] ys e = refl
nil-first (x ∷ xs) ys e = cc

nil-second : (xs ys : List ℤ) → xs ++ ys ≡ [] → ys ≡ []
nil-second [] ys e = e
nil-second (x ∷ xs) ys e = cc

-- where no outcome is shown
pub each-quiet : (P : Indication → Type 0) (shown : List Indication) → outcomes_in shown ≡ [] → EachOutcome P shown
each-quiet P [] e = tt
each-quiet P (i ∷ shown) e = (
  subst (λ (ids : List ℤ). IfOutcome ids (P i)) (sym (nil-first (outcome_in i) (outcomes_in shown) e)) tt,
  each-quiet P shown (nil-second (outcome_in i) (outcomes_in shown) e),
)

-- ---- what is noted: outcomes, and links of invocations

abbrev linked_in : List Link → List ℤ
linked_in [] = []
linked_in (link ∷ links) = link.linked ∷ linked_in links

abbrev note_in : Indication → List ℤ
note_in i = outcome_in i ++ linked_in (link_in i)

abbrev pub notes_in : List Indication → List ℤ
notes_in [] = []
notes_in (i ∷ shown) = note_in i ++ notes_in shown

pub notes-append : (xs ys : List Indication) → notes_in (xs ++ ys) ≡ notes_in xs ++ notes_in ys
notes-append [] ys = refl
notes-append (x ∷ xs) ys = ap (λ is. note_in x ++ is) (notes-append xs ys) ∙ sym (append_assoc (note_in x) (notes_in xs) (notes_in ys))

pub links-append : (xs ys : List Indication) → links_in (xs ++ ys) ≡ links_in xs ++ links_in ys
links-append [] ys = refl
links-append (x ∷ xs) ys = ap (λ is. link_in x ++ is) (links-append xs ys) ∙ sym (append_assoc (link_in x) (links_in xs) (links_in ys))

none-linked : (links : List Link) → linked_in links ≡ [] → links ≡ []
none-linked [] e = refl
none-linked (link ∷ links) e = cc

pub unnoted : (shown : List Indication) → notes_in shown ≡ [] → outcomes_in shown ≡ []
unnoted [] e = refl
unnoted (i ∷ shown) e =
    ap (λ is. is ++ outcomes_in shown) (nil-first (outcome_in i) (linked_in (link_in i)) (nil-first (note_in i) (notes_in shown) e)) ∙
    unnoted shown (nil-second (note_in i) (notes_in shown) e)

pub unnoted-links : (shown : List Indication) → notes_in shown ≡ [] → links_in shown ≡ []
unnoted-links [] e = refl
unnoted-links (i ∷ shown) e =
    ap (λ is. is ++ links_in shown) (none-linked (link_in i) (nil-second (outcome_in i) (linked_in (link_in i)) (nil-first (note_in i) (notes_in shown) e))) ∙
    unnoted-links shown (nil-second (note_in i) (notes_in shown) e)
