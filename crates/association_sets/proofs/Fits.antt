-- Lists that are gone through side by side, where one of them ends.
use Rattle.std.proofs.Common.{◌≡◌, ℕ, zero, suc, true, false, nat_le, List, [], ◌∷◌, length, drop, refl, ◌∙◌, arith}
use Rattle.std.proofs.lemmas.Bool.Decides.{nat_tests}
use Rattle.osi_base.specs.declared.layer_words.AddAnswer.{AddAnswer}
use Rattle.osi_base.specs.declared.layer_words.Proposal.{Proposal}
use Rattle.osi_base.specs.declared.layer_words.SetItem.{SetItem}
use Rattle.osi_base.specs.declared.layer_words.RestoredItem.{RestoredItem}
use Rattle.association_ground.specs.end_rules.Sets.{fit_proposals, same_lists, with_added, with_deleted}

none_within : (n : ℕ) → false ≡ nat_le (suc n) 0
none_within n = grind (arith, nat_tests)

enough : (n : ℕ) → true ≡ nat_le 0 (suc n)
enough n = grind (arith, nat_tests)

one_more : (a b : ℕ) → nat_le a b ≡ nat_le (suc a) (suc b)
one_more a b = grind (arith, nat_tests)

-- no proposal is left, and so no answer may be
pub all_fit : (n : ℕ) (answers : List AddAnswer) → fit_proposals [] (drop n answers) ≡ nat_le (length answers) n
all_fit zero [] = refl
all_fit zero (answer ∷ answers) = none_within (length answers)
all_fit (suc n) [] = enough n
all_fit (suc n) (answer ∷ answers) = all_fit n answers ∙ one_more (length answers) n

pub all_same : (n : ℕ) (ys : List RestoredItem) → same_lists [] (drop n ys) ≡ nat_le (length ys) n
all_same zero [] = refl
all_same zero (y ∷ ys) = none_within (length ys)
all_same (suc n) [] = enough n
all_same (suc n) (y ∷ ys) = all_same n ys ∙ one_more (length ys) n

-- without answers nothing changes
pub none_added : (proposals : List Proposal) (set : List SetItem) → with_added proposals [] set ≡ set
none_added [] set = refl
none_added (p ∷ ps) set = refl

pub none_deleted : (ids : List ℕ) (set : List SetItem) → with_deleted ids [] set ≡ set
none_deleted [] set = refl
none_deleted (k ∷ ks) set = refl
