-- Whether answers fit what was asked (X.226 8.2).
use Rattle.std.specs.Prelude.{ℕ, ◌+◌, min, Bool, true, false, not, ◌&&◌, nat_eq, if◌then◌else◌, List, [], ◌∷◌, length, Option, Some, None, is_some}
use Rattle.osi_base.specs.declared.layer_words.Proposal.{Proposal}
use Rattle.osi_base.specs.declared.layer_words.AddAnswer.{AddAnswer}
use Rattle.osi_base.specs.declared.layer_words.Answers.{Answers}
use Rattle.osi_base.specs.Limits.{most_32}
use Rattle.osi_base.specs.Syntax.{syntax_named, is_listed}
use Rattle.context_sets.specs.declared.alteration.Alteration.{Alteration}
use Rattle.context_sets.specs.declared.fault.SetFault.{SetFault}
use Rattle.context_sets.specs.declared.fault.SetFault.TheVariants.{Mismatch}
use Rattle.context_sets.specs.Alterations.{accepted_as}

-- the syntax of an accepted addition is there, was proposed and is known
abbrev pub is_offered : List (List ℕ) → Option (List ℕ) → Bool
is_offered transfers None = false
is_offered transfers (Some name) = is_listed name transfers && is_some (syntax_named name)

abbrev pub fits : Proposal → AddAnswer → Bool
fits proposal answer = if nat_eq answer.result 0 then is_offered proposal.transfers answer.transfer else true

abbrev pub all_fit : List Proposal → List AddAnswer → Bool
all_fit [] answers = true
all_fit (proposal ∷ proposals) [] = true
all_fit (proposal ∷ proposals) (answer ∷ answers) = fits proposal answer && all_fit proposals answers

-- a count of 32 bits, which stands still at its last value
abbrev pub counted : ℕ → ℕ
counted n = min n most_32

abbrev pub mismatch_of : ℕ → ℕ → SetFault
mismatch_of sent answered = Mismatch (counted sent) (counted answered)

-- how answers don't fit: the numbers are those of the deletions where of the counts only these differ, else
-- those of the additions
abbrev pub mismatch : Alteration → Answers → Option SetFault
mismatch asked answers =
    if not (nat_eq (length asked.added) (length answers.added)) then Some (mismatch_of (length asked.added) (length answers.added))
    else if not (nat_eq (length asked.deleted) (length answers.deleted)) then Some (mismatch_of (length asked.deleted) (length answers.deleted))
    else if all_fit asked.added answers.added then None
    else Some (mismatch_of (length asked.added) (length answers.added))

-- how many additions are accepted
abbrev pub acceptances : List AddAnswer → ℕ
acceptances [] = 0
acceptances (answer ∷ answers) = (if is_some (accepted_as answer) then 1 else 0) + acceptances answers
