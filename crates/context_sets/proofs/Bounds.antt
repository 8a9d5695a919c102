-- Sets and own additions stay within their limits.
use Rattle.std.proofs.Common.{◌≡◌, ℕ, ◌+◌, ◌<◌, ◌≤◌, Bool, true, false, ◌||◌, nat_eq, nat_le, if◌then◌else◌, List, [], ◌∷◌, ◌++◌, length, Option, Some, None, is_some, Result, Ok, Err, refl, arith}
use Rattle.std.specs.Option.{option_or}
use Rattle.std.proofs.lemmas.Bool.Decides.{nat_tests}
use Rattle.osi_base.specs.declared.syntax.Syntax.{Syntax}
use Rattle.osi_base.specs.declared.syntax.Syntax.TheVariants.{Ber, Der, Packed}
use Rattle.osi_base.specs.declared.layer_words.Proposal.{Proposal}
use Rattle.osi_base.specs.declared.layer_words.AddAnswer.{AddAnswer}
use Rattle.osi_base.specs.declared.layer_words.Answers.{Answers}
use Rattle.context_sets.specs.declared.alteration.Alteration.{Alteration}
use Rattle.context_sets.specs.declared.fault.SetRefusal.{SetRefusal}
use Rattle.context_sets.specs.declared.rules.Rules.{Rules}
use Rattle.context_sets.specs.declared.rules.Rejection.{Rejection}
use Rattle.context_sets.specs.Sets.{ContextSet}
use Rattle.context_sets.specs.Syntaxes.{is_same}
use Rattle.context_sets.specs.Alterations.{additions, accepted_as}
use Rattle.context_sets.specs.Asking.{is_bad, is_over, refusal}
use Rattle.context_sets.specs.Policy.{is_service, chosen, within_limit, judged, add_answer, taken_after, added_answers}
use Rattle.context_sets.specs.Results.{mismatch, acceptances}

pub additions-push : (own : List Alteration) (asked : Alteration) → additions (own ++ asked ∷ []) ≡ additions own + length asked.added
additions-push [] asked = omega arith
additions-push (alteration ∷ own) asked = let ih = additions-push own asked in omega arith

-- what is asked for is within the limits
pub record IsAllowed (set : ContextSet) (own : List Alteration) (asked : Alteration) : Type 0 where
  pub few : length own < 4
  pub within : length set + additions own + length asked.added ≤ 64

none_or : (a b : Option SetRefusal) → option_or a b ≡ None → b ≡ None
none_or None b e = e
none_or (Some x) b e = cc

not_over : (b : Bool) (r : SetRefusal) → (if b then Some r else None) ≡ None → b ≡ false
not_over true r e = cc
not_over false r e = refl

allowed : (set : ContextSet) (own : List Alteration) (asked : Alteration) (a b : Bool) (r q s : SetRefusal) (first second : Option SetRefusal) → nat_le 4 (length own) ≡ a → (if a then Some r else if b then Some q else option_or first (option_or second (if is_over set own asked.added then Some s else None))) ≡ None → IsAllowed set own asked
allowed set own asked true b r q s first second f e = cc
allowed set own asked false true r q s first second f e = cc
allowed set own asked false false r q s first second f e =
    let over = not_over (is_over set own asked.added) s (none_or second _ (none_or first _ e)) in
    record { few = grind (arith, nat_tests); within = grind (arith, nat_tests) }

pub is_allowed : (initiator : Bool) (set : ContextSet) (own : List Alteration) (used : List ℕ) (asked : Alteration) → refusal initiator set own used asked ≡ None → IsAllowed set own asked
is_allowed initiator set own used asked e = allowed set own asked (nat_le 4 (length own)) (is_bad asked) _ _ _ _ _ refl e

-- an end takes no more than its limit
accepts_one : (taken : ℕ) (outcome : Result Syntax Rejection) (rest : List AddAnswer) (limit : ℕ) → taken_after taken outcome + acceptances rest ≤ limit → taken + acceptances (add_answer outcome ∷ rest) ≤ limit
accepts_one taken (Ok Ber) rest limit h = let e : acceptances (add_answer (Ok Ber) ∷ rest) ≡ 1 + acceptances rest = refl in omega arith
accepts_one taken (Ok Der) rest limit h = let e : acceptances (add_answer (Ok Der) ∷ rest) ≡ 1 + acceptances rest = refl in omega arith
accepts_one taken (Ok Packed) rest limit h = let e : acceptances (add_answer (Ok Packed) ∷ rest) ≡ 1 + acceptances rest = refl in omega arith
accepts_one taken (Err rejection) rest limit h =
    let e : acceptances (add_answer (Err rejection) ∷ rest) ≡ 0 + acceptances rest = refl in let k : taken + acceptances rest ≤ limit = h in omega arith

within_after : (taken : ℕ) (syntax : Option Syntax) → taken ≤ 64 → taken_after taken (within_limit taken syntax) ≤ 64
within_after taken None h = h
within_after taken (Some syntax) h = go (nat_le 64 taken) refl
  where
    go : (b : Bool) → nat_le 64 taken ≡ b → taken_after taken (within_limit taken (Some syntax)) ≤ 64
    go true e = rw e h
    go false e = rw e (grind (arith, nat_tests))

judged_after : (rules : Rules) (taken : ℕ) (proposal : Proposal) → taken ≤ 64 → taken_after taken (judged rules taken proposal) ≤ 64
judged_after rules taken proposal h = go (is_same proposal.abstract_name rules.module || is_service rules proposal.abstract_name) refl
  where
    go : (b : Bool) → (is_same proposal.abstract_name rules.module || is_service rules proposal.abstract_name) ≡ b → taken_after taken (judged rules taken proposal) ≤ 64
    go true e = rw e (within_after taken (chosen rules proposal.abstract_name proposal.transfers) h)
    go false e = rw e h

pub accepts_few : (rules : Rules) (taken : ℕ) (proposals : List Proposal) → taken ≤ 64 → taken + acceptances (added_answers rules taken proposals) ≤ 64
accepts_few rules taken [] h = omega arith
accepts_few rules taken (proposal ∷ proposals) h =
    accepts_one taken (judged rules taken proposal) (added_answers rules (taken_after taken (judged rules taken proposal)) proposals) 64
    (accepts_few rules (taken_after taken (judged rules taken proposal)) proposals (judged_after rules taken proposal h))

-- answers that fit are as many as what was asked
pub as_many : (asked : Alteration) (answers : Answers) → mismatch asked answers ≡ None → length answers.added ≡ length asked.added
as_many asked answers e = go (nat_eq (length asked.added) (length answers.added)) refl
  where
    go : (b : Bool) → nat_eq (length asked.added) (length answers.added) ≡ b → length answers.added ≡ length asked.added
    go true f = grind (arith, nat_tests)
    go false f = let g = rw f at e in cc

pub as_many_deleted : (asked : Alteration) (answers : Answers) → mismatch asked answers ≡ None → length asked.deleted ≡ length answers.deleted
as_many_deleted asked answers e = go (nat_eq (length asked.added) (length answers.added)) (nat_eq (length asked.deleted) (length answers.deleted)) refl refl
  where
    go : (a b : Bool) → nat_eq (length asked.added) (length answers.added) ≡ a → nat_eq (length asked.deleted) (length answers.deleted) ≡ b → length asked.deleted ≡ length answers.deleted
    go true true f g = grind (arith, nat_tests)
    go true false f g = let h = rw (f, g) at e in cc
    go false b f g = let h = rw f at e in cc

pub acceptances_few : (answers : List AddAnswer) → acceptances answers ≤ length answers
acceptances_few [] = omega arith
acceptances_few (answer ∷ answers) = go (is_some (accepted_as answer)) (acceptances_few answers)
  where
    go : (b : Bool) → acceptances answers ≤ length answers → (if b then 1 else 0) + acceptances answers ≤ length (answer ∷ answers)
    go true h = omega arith
    go false h = omega arith
