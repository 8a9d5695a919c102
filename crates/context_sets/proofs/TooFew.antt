-- A set after answers, of which there may be too few.
use Rattle.std.proofs.Common.{◌≡◌, ℕ, List, [], ◌∷◌, refl}
use Rattle.osi_base.specs.declared.layer_words.Proposal.{Proposal}
use Rattle.context_sets.specs.Sets.{ContextSet}
use Rattle.context_sets.specs.Alterations.{with_additions, without_deletions}

pub none_left : (ids : List ℕ) (set : ContextSet) → without_deletions ids [] set ≡ set
none_left [] set = refl
none_left (id ∷ ids) set = refl

pub none_added : (proposals : List Proposal) (set : ContextSet) → with_additions proposals [] set ≡ set
none_added [] set = refl
none_added (proposal ∷ proposals) set = refl
