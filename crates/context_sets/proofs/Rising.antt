-- Sets stay sets by rising identifier.
use Rattle.std.proofs.Common.{◌≡◌, ℕ, ◌<◌, Bool, true, false, nat_eq, nat_lt, if◌then◌else◌, List, [], ◌∷◌, Option, Some, None, refl, sym, arith, subst, lt_trans, eqb-true}
use Rattle.std.proofs.lemmas.Bool.Decides.{nat_tests}
use Rattle.osi_base.specs.declared.syntax.Syntax.{Syntax}
use Rattle.osi_base.specs.declared.layer_words.SetItem.{SetItem}
use Rattle.osi_base.specs.declared.layer_words.Proposal.{Proposal}
use Rattle.osi_base.specs.declared.layer_words.AddAnswer.{AddAnswer}
use Rattle.osi_base.specs.declared.layer_words.Answers.{Answers}
use Rattle.context_sets.specs.declared.alteration.Alteration.{Alteration}
use Rattle.context_sets.specs.Sets.{ContextSet, AllAbove, IsRising, put}
use Rattle.osi_base.specs.SetPlaces.{without_context}
use Rattle.context_sets.specs.Alterations.{accepted_as, with_syntax, with_additions, without, without_deletions, altered}

-- what holds of both branches holds of a choice
pub by_test : {A : Type 0} (P : A → Type 0) (b : Bool) (x y : A) → (b ≡ true → P x) → (b ≡ false → P y) → P (if b then x else y)
by_test P true x y h g = h refl
by_test P false x y h g = g refl

pub above-put : (j : ℕ) (new : SetItem) (set : ContextSet) → j < new.id → AllAbove j set → AllAbove j (put new set)
above-put j new [] h a = (h, tt)
above-put j new (item ∷ items) h a =
    by_test (AllAbove j) (nat_lt new.id item.id) _ _
    (λ t. (h, a))
    (λ f. by_test (AllAbove j) (nat_eq new.id item.id) _ _ (λ t. (h, a.1)) (λ g. (a.0, above-put j new items h a.1)))

pub above-weaker : (j k : ℕ) (set : ContextSet) → j < k → AllAbove k set → AllAbove j set
above-weaker j k [] h a = tt
above-weaker j k (item ∷ items) h a = (lt_trans h a.0, above-weaker j k items h a.1)

pub rising-put : (new : SetItem) (set : ContextSet) → IsRising set → IsRising (put new set)
rising-put new [] r = (tt, tt)
rising-put new (item ∷ items) r =
    by_test IsRising (nat_lt new.id item.id) _ _
    (λ t. ((less t, above-weaker new.id item.id items (less t) r.0), r))
    (λ f. by_test IsRising (nat_eq new.id item.id) _ _
    (λ t. (subst (λ i. AllAbove i items) (sym (eqb-true new.id item.id t)) r.0, r.1))
    (λ g. (above-put item.id new items (more f g) r.0, rising-put new items r.1)))
  where
    less : nat_lt new.id item.id ≡ true → new.id < item.id
    less t = grind (arith, nat_tests)

    more : nat_lt new.id item.id ≡ false → nat_eq new.id item.id ≡ false → item.id < new.id
    more f g = grind (arith, nat_tests)

above-remove : (j id : ℕ) (set : ContextSet) → AllAbove j set → AllAbove j (without_context id set)
above-remove j id [] a = tt
above-remove j id (item ∷ items) a =
    by_test (AllAbove j) (nat_eq item.id id) _ _ (λ t. above-remove j id items a.1) (λ g. (a.0, above-remove j id items a.1))

pub rising-remove : (id : ℕ) (set : ContextSet) → IsRising set → IsRising (without_context id set)
rising-remove id [] r = tt
rising-remove id (item ∷ items) r =
    by_test IsRising (nat_eq item.id id) _ _
    (λ t. rising-remove id items r.1)
    (λ g. (above-remove item.id id items r.0, rising-remove id items r.1))

pub rising-with_syntax : (proposal : Proposal) (syntax : Option Syntax) (set : ContextSet) → IsRising set → IsRising (with_syntax proposal syntax set)
rising-with_syntax proposal None set r = r
rising-with_syntax proposal (Some s) set r = rising-put _ set r

pub rising-with_additions : (proposals : List Proposal) (answers : List AddAnswer) (set : ContextSet) → IsRising set → IsRising (with_additions proposals answers set)
rising-with_additions [] answers set r = r
rising-with_additions (proposal ∷ proposals) [] set r = r
rising-with_additions (proposal ∷ proposals) (answer ∷ answers) set r =
    rising-with_additions proposals answers _ (rising-with_syntax proposal (accepted_as answer) set r)

pub rising-without : (id result : ℕ) (set : ContextSet) → IsRising set → IsRising (without id result set)
rising-without id result set r = by_test IsRising (nat_eq result 0) _ _ (λ t. rising-remove id set r) (λ f. r)

pub rising-without_deletions : (ids results : List ℕ) (set : ContextSet) → IsRising set → IsRising (without_deletions ids results set)
rising-without_deletions [] results set r = r
rising-without_deletions (id ∷ ids) [] set r = r
rising-without_deletions (id ∷ ids) (result ∷ results) set r =
    rising-without_deletions ids results _ (rising-without id result set r)

pub rising-altered : (alteration : Alteration) (answers : Answers) (set : ContextSet) → IsRising set → IsRising (altered alteration answers set)
rising-altered alteration answers set r =
    rising-without_deletions alteration.deleted answers.deleted _ (rising-with_additions alteration.added answers.added set r)
