-- Sets after alterations are those of the model.
use Rattle.std.proofs.Common.{◌≡◌, refl, true, false, ◌∙◌, sym, ap, ℕ, List, [], ◌∷◌, ◌++◌, map}
use Rattle.std.specs.Prelude.{Bool, ◌&&◌, Option, Some, None, if◌then◌else◌, nat_eq, nat_lt}
use Rattle.osi_base.specs.declared.syntax.Pair.{Pair}
use Rattle.osi_base.specs.declared.layer_words.SetItem.{SetItem}
use Rattle.osi_base.specs.declared.layer_words.Proposal.{Proposal}
use Rattle.osi_base.specs.declared.layer_words.AddAnswer.{AddAnswer}
use Rattle.osi_base.specs.declared.layer_words.Answers.{Answers}
use Rattle.end_rules.specs.Sets.{Alteration, put, pair_accepted, put_accepted}
use Rattle.osi_base.specs.SetPlaces.{without_context}
use Rattle.end_rules.specs.Sets.{with_added, with_deleted, altered, fits_proposal, fit_proposals}
use Rattle.agreement.specs.Sets.{Item, Result, ContextSet, put as model_put, remove, changed}
use Rattle.agreement.specs.Sets.{altered as model_altered}
use Rattle.agreement.specs.Sets.Item.{Deletion}
use Rattle.agreement.specs.Sets.Result.{Accepted, Kept}
use Rattle.end_model.specs.Seen.{pair_seen, context_seen, set_seen, addition_seen, items_seen}
use Rattle.end_model.specs.Words.{result_with, added_seen, deleted_seen, results_seen}

pub put-seen : (k : ℕ) (pair : Pair) (set : List SetItem) → set_seen (put k pair set) ≡ model_put k (pair_seen pair) (set_seen set)
put-seen k pair [] = refl
put-seen k pair (item ∷ items) = go (nat_lt k item.id) (nat_eq k item.id) (put-seen k pair items)
  where
    go : (b c : Bool) → set_seen (put k pair items) ≡ model_put k (pair_seen pair) (set_seen items) → set_seen (if b then record { id = k; pair = pair } ∷ item ∷ items else if c then record { id = k; pair = pair } ∷ items else item ∷ put k pair items) ≡ (if b then context_seen (record { id = k; pair = pair }) ∷ context_seen item ∷ set_seen items else if c then context_seen (record { id = k; pair = pair }) ∷ set_seen items else context_seen item ∷ model_put k (pair_seen pair) (set_seen items))
    go true c h = refl
    go false true h = refl
    go false false h = ap (λ (rest : ContextSet). context_seen item ∷ rest) h

pub without-seen : (k : ℕ) (set : List SetItem) → set_seen (without_context k set) ≡ remove k (set_seen set)
without-seen k [] = refl
without-seen k (item ∷ items) = go (nat_eq item.id k) (without-seen k items)
  where
    go : (b : Bool) → set_seen (without_context k items) ≡ remove k (set_seen items) → set_seen (if b then without_context k items else item ∷ without_context k items) ≡ (if b then remove k (set_seen items) else context_seen item ∷ remove k (set_seen items))
    go true h = h
    go false h = ap (λ (rest : ContextSet). context_seen item ∷ rest) h

-- ---- additions, one answer for each

pub accepted-seen : (p : Proposal) (pair : Option Pair) (set : List SetItem) → set_seen (put_accepted p.id pair set) ≡ changed (addition_seen p) (result_with pair) (set_seen set)
accepted-seen p None set = refl
accepted-seen p (Some pair) set = put-seen p.id pair set

pub added-altered : (add : List Proposal) (answers : List AddAnswer) (rest : List Item) (more : List Result) (set : List SetItem) → fit_proposals add answers ≡ true → model_altered (map addition_seen add ++ rest) (added_seen add answers ++ more) (set_seen set) ≡ model_altered rest more (set_seen (with_added add answers set))
added-altered [] [] rest more set h = refl
added-altered [] (answer ∷ answers) rest more set h = cc
added-altered (p ∷ ps) [] rest more set h = cc
added-altered (p ∷ ps) (answer ∷ answers) rest more set h =
    ap (λ s. model_altered (map addition_seen ps ++ rest) (added_seen ps answers ++ more) s) (sym (accepted-seen p (pair_accepted p answer) set)) ∙
    added-altered ps answers rest more (put_accepted p.id (pair_accepted p answer) set) (second (fits_proposal p answer) (fit_proposals ps answers) h)
  where
    second : (a b : Bool) → (a && b) ≡ true → b ≡ true
    second true b h = h
    second false b h = cc

-- ---- deletions

deleted-changed : (k answer : ℕ) (set : List SetItem) → changed (Deletion k) (deleted_seen answer) (set_seen set) ≡ set_seen (if nat_eq answer 0 then without_context k set else set)
deleted-changed k answer set = go (nat_eq answer 0)
  where
    go : (b : Bool) → changed (Deletion k) (if b then Accepted else Kept) (set_seen set) ≡ set_seen (if b then without_context k set else set)
    go true = sym (without-seen k set)
    go false = refl

pub deleted-altered : (delete answers : List ℕ) (set : List SetItem) → model_altered (map Deletion delete) (map deleted_seen answers) (set_seen set) ≡ set_seen (with_deleted delete answers set)
deleted-altered [] answers set = refl
deleted-altered (k ∷ delete) [] set = refl
deleted-altered (k ∷ delete) (answer ∷ answers) set =
    ap (λ s. model_altered (map Deletion delete) (map deleted_seen answers) s) (deleted-changed k answer set) ∙
    deleted-altered delete answers (if nat_eq answer 0 then without_context k set else set)

-- ---- the whole

pub altered-seen : (a : Alteration) (answers : Answers) (set : List SetItem) → fit_proposals a.add answers.added ≡ true → set_seen (altered a answers set) ≡ model_altered (items_seen a) (results_seen a answers) (set_seen set)
altered-seen a answers set h =
    sym (added-altered a.add answers.added (map Deletion a.delete) (map deleted_seen answers.deleted) set h ∙
    deleted-altered a.delete answers.deleted (with_added a.add answers.added set))
