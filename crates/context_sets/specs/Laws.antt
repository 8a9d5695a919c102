-- The laws of alterations, in the words of the standard.
use Rattle.std.specs.Prelude.{◌≡◌, ℕ, false, List, [], ◌∷◌, None}
use Rattle.osi_base.specs.declared.layer_words.Answers.{Answers}
use Rattle.context_sets.specs.declared.alteration.Alteration.{Alteration}
use Rattle.context_sets.specs.declared.rules.Rules.{Rules}
use Rattle.context_sets.specs.Sets.{ContextSet, IsRising}
use Rattle.context_sets.specs.Alterations.{altered, identifiers, named_by, is_among}
use Rattle.context_sets.specs.Policy.{policy}
use Rattle.context_sets.specs.Results.{mismatch}
use Rattle.context_sets.specs.HeldSets.{Held, oldest}

-- none of these identifiers is among the others
abbrev pub IsApartFrom : List ℕ → List ℕ → Type 0
IsApartFrom [] others = Unit {0}
IsApartFrom (id ∷ ids) others = (is_among id others ≡ false) × IsApartFrom ids others

-- neither alteration adds what the other names, as with two ends' own additions of their own parities
pub record AreApart (a b : Alteration) : Type 0 where
  pub mine : IsApartFrom (identifiers a.added) (named_by b)
  pub theirs : IsApartFrom (identifiers b.added) (named_by a)

-- Two alterations that cross lead to one set, whichever is settled first.
abbrev pub CrossingAgrees : Type 0
CrossingAgrees =
    (a b : Alteration) (p q : Answers) (set : ContextSet) → IsRising set → AreApart a b
    → altered a p (altered b q set) ≡ altered b q (altered a p set)

-- What the policy answers fits what was asked, so the end that asked finds no fault in it.
abbrev pub AnswersFit : Type 0
AnswersFit =
    (rules : Rules) (set : ContextSet) (own : List Alteration) (used : List ℕ) (asked : Alteration)
    → mismatch asked (policy rules set own used asked) ≡ None

-- An end answered what the other asked for longest, and the other took its answers. Both were so before, and are
-- so after.
pub record Settles (rules : Rules) (used : List ℕ) (asking asking_after answering answering_after : Held) : Type 0 where
  pub answers : Answers
  pub by_policy : answers ≡ policy rules answering.set answering.own used (oldest asking.own)
  pub answered : answering_after.set ≡ altered (oldest asking.own) answers answering.set
  pub confirmed : asking_after.set ≡ altered (oldest asking.own) answers asking.set

-- Two sets that agreed agree again after an answer and its confirmation.
abbrev pub AgreeAgain : Type 0
AgreeAgain =
    (rules : Rules) (used : List ℕ) (asking asking_after answering answering_after : Held)
    → Settles rules used asking asking_after answering answering_after
    → asking.set ≡ answering.set → asking_after.set ≡ answering_after.set
