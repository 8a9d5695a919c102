-- What stands in the messages of two ends: identifiers of contexts, names, results, and how many of them (X.226 8.2 to 8.4).
use Rattle.std.specs.Prelude.{◌≡◌, ℕ, ◌≤◌, List, [], ◌∷◌, length, Option, Some, None}
use Rattle.osi_base.specs.Syntax.{name_of}
use Rattle.osi_base.specs.declared.syntax.Syntax.{Syntax}
use Rattle.osi_base.specs.declared.layer_words.Proposal.{Proposal}
use Rattle.osi_base.specs.declared.layer_words.AddAnswer.{AddAnswer}
use Rattle.osi_base.specs.declared.layer_words.Answers.{Answers}
use Rattle.osi_base.specs.declared.layer_words.RestoredItem.{RestoredItem}
use Rattle.osi_base.specs.Limits.{highest_context, most_contexts, most_transfers}
use Rattle.said_words.specs.Calls.{AreNamed}

abbrev pub IsContext : ℕ → Type 0
IsContext k = (1 ≤ k) × (k ≤ highest_context)

abbrev pub AreContexts : List ℕ → Type 0
AreContexts [] = Unit {0}
AreContexts (k ∷ ks) = IsContext k × AreContexts ks

-- ---- alterations and their answers

abbrev pub AreFew : List Proposal → Type 0
AreFew [] = Unit {0}
AreFew (p ∷ ps) = IsContext p.id × (length p.transfers ≤ most_transfers) × AreFew ps

pub record IsAlteration (add : List Proposal) (delete : List ℕ) : Type 0 where
  pub named : AreNamed add
  pub added : AreFew add
  pub count : length add ≤ most_contexts
  pub deleted : AreContexts delete
  pub deletions : length delete ≤ most_contexts

-- the name of one of the three transfer syntaxes
abbrev pub IsSyntaxName : List ℕ → Type 0
IsSyntaxName name = (syntax : Syntax) × (name ≡ name_of syntax)

abbrev pub IsSyntaxOrNone : Option (List ℕ) → Type 0
IsSyntaxOrNone None = Unit {0}
IsSyntaxOrNone (Some name) = IsSyntaxName name

abbrev pub IsReason : Option ℕ → Type 0
IsReason None = Unit {0}
IsReason (Some reason) = reason ≤ 3

pub record IsResult (answer : AddAnswer) : Type 0 where
  pub result : answer.result ≤ 2
  pub transfer : IsSyntaxOrNone answer.transfer
  pub reason : IsReason answer.reason

abbrev pub AreResults : List AddAnswer → Type 0
AreResults [] = Unit {0}
AreResults (answer ∷ answers) = IsResult answer × AreResults answers

abbrev pub AreVerdicts : List ℕ → Type 0
AreVerdicts [] = Unit {0}
AreVerdicts (answer ∷ answers) = (answer ≤ 1) × AreVerdicts answers

pub record AreAnswers (answers : Answers) : Type 0 where
  pub added : AreResults answers.added
  pub count : length answers.added ≤ most_contexts
  pub deleted : AreVerdicts answers.deleted
  pub deletions : length answers.deleted ≤ most_contexts

-- ---- restarts

abbrev pub AreRestored : List RestoredItem → Type 0
AreRestored [] = Unit {0}
AreRestored (item ∷ items) = IsContext item.id × IsSyntaxName item.transfer × AreRestored items
