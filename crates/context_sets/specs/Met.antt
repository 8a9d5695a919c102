-- Sets of the identifiers that came so far in a list. No public clause cites this module.
use Rattle.std.specs.Prelude.{◌≡◌, ℕ, Bool, List, []}
use Rattle.std.specs.Ordering.{nat_cmp}
use Rattle.std.specs.BTreeSet.{BTreeSet, contains}
use Rattle.osi_base.specs.declared.layer_words.Proposal.{Proposal}
use Rattle.context_sets.specs.Sets.{ContextSet}
use Rattle.context_sets.specs.Alterations.{is_among}
use Rattle.context_sets.specs.Asking.{are_bad}
use Rattle.context_sets.specs.Policy.{peer_fault}

-- the set has these identifiers and no others
pub record HasMet (met : BTreeSet ℕ) (ids : List ℕ) : Type 0 where
  pub same : (id : ℕ) → contains nat_cmp met id ≡ is_among id ids

-- what came before the rest is met, and no bad identifier is among it
pub record GoesOn (met : BTreeSet ℕ) (rest all : List ℕ) : Type 0 where
  pub before : List ℕ
  pub has_met : HasMet met before
  pub left : are_bad before rest ≡ are_bad [] all

-- what came before the rest is met, and no faulty addition is among it
pub record MayGoOn (met : BTreeSet ℕ) (peer : Bool) (set : ContextSet) (rest all : List Proposal) : Type 0 where
  pub before : List ℕ
  pub has_met : HasMet met before
  pub left : peer_fault peer set before rest ≡ peer_fault peer set [] all
