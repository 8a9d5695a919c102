-- Alterations of a set, their answers, and the set afterwards (X.226 8.2).
use Rattle.std.specs.Prelude.{ℕ, ◌+◌, Bool, ◌||◌, nat_eq, if◌then◌else◌, List, [], ◌∷◌, ◌++◌, length, map, Option, Some, None}
use Rattle.std.specs.List.{list_any}
use Rattle.osi_base.specs.declared.syntax.Syntax.{Syntax}
use Rattle.osi_base.specs.declared.layer_words.Proposal.{Proposal}
use Rattle.osi_base.specs.declared.layer_words.AddAnswer.{AddAnswer}
use Rattle.osi_base.specs.declared.layer_words.Answers.{Answers}
use Rattle.context_sets.specs.declared.alteration.Alteration.{Alteration}
use Rattle.context_sets.specs.Sets.{ContextSet, put}
use Rattle.osi_base.specs.SetPlaces.{without_context}
use Rattle.osi_base.specs.Syntax.{syntax_named}

-- the transfer syntax with which an addition is accepted: result 0 with a syntax that is known
abbrev pub syntax_known : Option (List ℕ) → Option Syntax
syntax_known None = None
syntax_known (Some name) = syntax_named name

abbrev pub accepted_as : AddAnswer → Option Syntax
accepted_as answer = if nat_eq answer.result 0 then syntax_known answer.transfer else None

-- a set with what the answer accepts of one proposed context
abbrev pub with_syntax : Proposal → Option Syntax → ContextSet → ContextSet
with_syntax proposal None set = set
with_syntax proposal (Some syntax) set =
    put (record { id = proposal.id; pair = record { abstract_name = proposal.abstract_name; transfer = syntax } }) set

-- a set with the accepted additions, in their order
abbrev pub with_additions : List Proposal → List AddAnswer → ContextSet → ContextSet
with_additions [] answers set = set
with_additions (proposal ∷ proposals) [] set = set
with_additions (proposal ∷ proposals) (answer ∷ answers) set =
    with_additions proposals answers (with_syntax proposal (accepted_as answer) set)

-- a set less one deletion, which result 0 accepts
abbrev pub without : ℕ → ℕ → ContextSet → ContextSet
without id result set = if nat_eq result 0 then without_context id set else set

-- a set less the accepted deletions, in their order
abbrev pub without_deletions : List ℕ → List ℕ → ContextSet → ContextSet
without_deletions [] results set = set
without_deletions (id ∷ ids) [] set = set
without_deletions (id ∷ ids) (result ∷ results) set = without_deletions ids results (without id result set)

-- a set after an alteration, whose additions come before its deletions
abbrev pub altered : Alteration → Answers → ContextSet → ContextSet
altered alteration answers set =
    without_deletions alteration.deleted answers.deleted (with_additions alteration.added answers.added set)

-- how many contexts these alterations would add
abbrev pub additions : List Alteration → ℕ
additions [] = 0
additions (alteration ∷ alterations) = length alteration.added + additions alterations

-- the identifiers of proposed contexts
abbrev pub identifiers : List Proposal → List ℕ
identifiers proposals = map (λ proposal. proposal.id) proposals

-- what an alteration names
abbrev pub named_by : Alteration → List ℕ
named_by alteration = identifiers alteration.added ++ alteration.deleted

abbrev pub is_among : ℕ → List ℕ → Bool
is_among id ids = list_any (λ other. nat_eq other id) ids

-- the alteration names the identifier
abbrev pub names : ℕ → Alteration → Bool
names id alteration = list_any (λ proposal. nat_eq proposal.id id) alteration.added || is_among id alteration.deleted

-- some of these alterations names the identifier
abbrev pub is_named : List Alteration → ℕ → Bool
is_named alterations id = list_any (names id) alterations

-- some of these alterations deletes the identifier
abbrev pub is_deleted : List Alteration → ℕ → Bool
is_deleted alterations id = list_any (λ alteration. is_among id alteration.deleted) alterations
