-- Alterations that are apart commute.
use Rattle.std.proofs.Common.{◌≡◌, ℕ, Bool, true, false, ◌||◌, nat_eq, if◌then◌else◌, List, [], ◌∷◌, ◌++◌, Option, Some, None, refl, sym, ap, ◌∙◌}
use Rattle.std.proofs.lemmas.Bool.{eqb-false}
use Rattle.osi_base.specs.declared.syntax.Syntax.{Syntax}
use Rattle.osi_base.specs.declared.layer_words.Proposal.{Proposal}
use Rattle.osi_base.specs.declared.layer_words.AddAnswer.{AddAnswer}
use Rattle.osi_base.specs.declared.layer_words.Answers.{Answers}
use Rattle.context_sets.specs.declared.alteration.Alteration.{Alteration}
use Rattle.context_sets.specs.Sets.{ContextSet, IsRising}
use Rattle.osi_base.specs.SetPlaces.{without_context}
use Rattle.context_sets.specs.Alterations.{accepted_as, with_syntax, with_additions, without, without_deletions, altered, identifiers, is_among}
use Rattle.context_sets.specs.Laws.{IsApartFrom, AreApart}
use Rattle.context_sets.proofs.Rising.{rising-with_syntax, rising-with_additions, rising-without}
use Rattle.context_sets.proofs.Order.{put-put, put-remove, remove-remove}

or-left : (a b : Bool) → (a || b) ≡ false → a ≡ false
or-left false b e = refl
or-left true b e = e

or-right : (a b : Bool) → (a || b) ≡ false → b ≡ false
or-right false b e = e
or-right true b e = cc

among-left : (k : ℕ) (xs ys : List ℕ) → is_among k (xs ++ ys) ≡ false → is_among k xs ≡ false
among-left k [] ys e = refl
among-left k (x ∷ xs) ys e = go (nat_eq x k) (or-left (nat_eq x k) _ e) (among-left k xs ys (or-right (nat_eq x k) _ e))
  where
    go : (b : Bool) → b ≡ false → is_among k xs ≡ false → (b || is_among k xs) ≡ false
    go false f h = h
    go true f h = f

among-right : (k : ℕ) (xs ys : List ℕ) → is_among k (xs ++ ys) ≡ false → is_among k ys ≡ false
among-right k [] ys e = e
among-right k (x ∷ xs) ys e = among-right k xs ys (or-right (nat_eq x k) _ e)

apart-left : (ids xs ys : List ℕ) → IsApartFrom ids (xs ++ ys) → IsApartFrom ids xs
apart-left [] xs ys a = tt
apart-left (id ∷ ids) xs ys a = (among-left id xs ys a.0, apart-left ids xs ys a.1)

apart-right : (ids xs ys : List ℕ) → IsApartFrom ids (xs ++ ys) → IsApartFrom ids ys
apart-right [] xs ys a = tt
apart-right (id ∷ ids) xs ys a = (among-right id xs ys a.0, apart-right ids xs ys a.1)

away : (k other : ℕ) (keys : List ℕ) → is_among k (other ∷ keys) ≡ false → k ≡ other → ⊥
away k other keys e same = eqb-false other k (or-left (nat_eq other k) _ e) (sym same)

syntax-syntax : (p q : Proposal) (s t : Option Syntax) (set : ContextSet) → (p.id ≡ q.id → ⊥) → IsRising set → with_syntax p s (with_syntax q t set) ≡ with_syntax q t (with_syntax p s set)
syntax-syntax p q None None set n r = refl
syntax-syntax p q None (Some t) set n r = refl
syntax-syntax p q (Some s) None set n r = refl
syntax-syntax p q (Some s) (Some t) set n r = put-put _ _ set n r

syntax-choice : (p : Proposal) (s : Option Syntax) (id : ℕ) (b : Bool) (set : ContextSet) → (p.id ≡ id → ⊥) → IsRising set → with_syntax p s (if b then without_context id set else set) ≡ (if b then without_context id (with_syntax p s set) else with_syntax p s set)
syntax-choice p None id true set n r = refl
syntax-choice p None id false set n r = refl
syntax-choice p (Some s) id true set n r = put-remove _ id set n r
syntax-choice p (Some s) id false set n r = refl

choice-choice : (j k : ℕ) (a b : Bool) (set : ContextSet) → IsRising set → (if a then without_context j (if b then without_context k set else set) else (if b then without_context k set else set)) ≡ (if b then without_context k (if a then without_context j set else set) else (if a then without_context j set else set))
choice-choice j k true true set r = remove-remove j k set r
choice-choice j k true false set r = refl
choice-choice j k false true set r = refl
choice-choice j k false false set r = refl

syntax-additions : (p : Proposal) (s : Option Syntax) (qs : List Proposal) (answers : List AddAnswer) (set : ContextSet) → is_among p.id (identifiers qs) ≡ false → IsRising set → with_syntax p s (with_additions qs answers set) ≡ with_additions qs answers (with_syntax p s set)
syntax-additions p s [] answers set a r = refl
syntax-additions p s (q ∷ qs) [] set a r = refl
syntax-additions p s (q ∷ qs) (answer ∷ answers) set a r =
    syntax-additions p s qs answers (with_syntax q (accepted_as answer) set) (or-right (nat_eq q.id p.id) _ a) (rising-with_syntax q (accepted_as answer) set r)
    ∙ ap (with_additions qs answers) (syntax-syntax p q s (accepted_as answer) set (away p.id q.id (identifiers qs) a) r)

syntax-deletions : (p : Proposal) (s : Option Syntax) (ids results : List ℕ) (set : ContextSet) → is_among p.id ids ≡ false → IsRising set → with_syntax p s (without_deletions ids results set) ≡ without_deletions ids results (with_syntax p s set)
syntax-deletions p s [] results set a r = refl
syntax-deletions p s (id ∷ ids) [] set a r = refl
syntax-deletions p s (id ∷ ids) (result ∷ results) set a r =
    syntax-deletions p s ids results (without id result set) (or-right (nat_eq id p.id) _ a) (rising-without id result set r)
    ∙ ap (without_deletions ids results) (syntax-choice p s id (nat_eq result 0) set (away p.id id ids a) r)

without-deletions : (j q : ℕ) (ids results : List ℕ) (set : ContextSet) → IsRising set → without j q (without_deletions ids results set) ≡ without_deletions ids results (without j q set)
without-deletions j q [] results set r = refl
without-deletions j q (id ∷ ids) [] set r = refl
without-deletions j q (id ∷ ids) (result ∷ results) set r =
    without-deletions j q ids results (without id result set) (rising-without id result set r)
    ∙ ap (without_deletions ids results) (choice-choice j id (nat_eq q 0) (nat_eq result 0) set r)

additions-additions : (ps : List Proposal) (as₁ : List AddAnswer) (qs : List Proposal) (as₂ : List AddAnswer) (set : ContextSet) → IsApartFrom (identifiers ps) (identifiers qs) → IsRising set → with_additions ps as₁ (with_additions qs as₂ set) ≡ with_additions qs as₂ (with_additions ps as₁ set)
additions-additions [] as₁ qs as₂ set a r = refl
additions-additions (p ∷ ps) [] qs as₂ set a r = refl
additions-additions (p ∷ ps) (answer ∷ answers) qs as₂ set a r =
    ap (with_additions ps answers) (syntax-additions p (accepted_as answer) qs as₂ set a.0 r)
    ∙ additions-additions ps answers qs as₂ (with_syntax p (accepted_as answer) set) a.1 (rising-with_syntax p (accepted_as answer) set r)

additions-deletions : (ps : List Proposal) (answers : List AddAnswer) (ids results : List ℕ) (set : ContextSet) → IsApartFrom (identifiers ps) ids → IsRising set → with_additions ps answers (without_deletions ids results set) ≡ without_deletions ids results (with_additions ps answers set)
additions-deletions [] answers ids results set a r = refl
additions-deletions (p ∷ ps) [] ids results set a r = refl
additions-deletions (p ∷ ps) (answer ∷ answers) ids results set a r =
    ap (with_additions ps answers) (syntax-deletions p (accepted_as answer) ids results set a.0 r)
    ∙ additions-deletions ps answers ids results (with_syntax p (accepted_as answer) set) a.1 (rising-with_syntax p (accepted_as answer) set r)

deletions-deletions : (ids results others results₂ : List ℕ) (set : ContextSet) → IsRising set → without_deletions ids results (without_deletions others results₂ set) ≡ without_deletions others results₂ (without_deletions ids results set)
deletions-deletions [] results others results₂ set r = refl
deletions-deletions (id ∷ ids) [] others results₂ set r = refl
deletions-deletions (id ∷ ids) (result ∷ results) others results₂ set r =
    ap (without_deletions ids results) (without-deletions id result others results₂ set r)
    ∙ deletions-deletions ids results others results₂ (without id result set) (rising-without id result set r)

pub altered-altered : (a b : Alteration) (p q : Answers) (set : ContextSet) → IsRising set → AreApart a b → altered a p (altered b q set) ≡ altered b q (altered a p set)
altered-altered a b p q set r h =
    ap (without_deletions a.deleted p.deleted)
    (additions-deletions a.added p.added b.deleted q.deleted (with_additions b.added q.added set) (apart-right (identifiers a.added) (identifiers b.added) b.deleted h.mine) (rising-with_additions b.added q.added set r)
    ∙ ap (without_deletions b.deleted q.deleted) (additions-additions a.added p.added b.added q.added set (apart-left (identifiers a.added) (identifiers b.added) b.deleted h.mine) r))
    ∙ deletions-deletions a.deleted p.deleted b.deleted q.deleted (with_additions b.added q.added (with_additions a.added p.added set)) (rising-with_additions b.added q.added _ (rising-with_additions a.added p.added set r))
    ∙ ap (without_deletions b.deleted q.deleted)
    (sym (additions-deletions b.added q.added a.deleted p.deleted (with_additions a.added p.added set) (apart-right (identifiers b.added) (identifiers a.added) a.deleted h.theirs) (rising-with_additions a.added p.added set r)))
