-- How an end answers proposed contexts (X.226 6.2.3, 6.3.3; the policy is this project's own).
use Rattle.std.specs.Prelude.{ℕ, suc, ◌+◌, List, [], ◌∷◌, map, length, Bool, true, false, not, ◌&&◌, ◌||◌, nat_eq, nat_lt, if◌then◌else◌, Option, Some, None, is_some, find}
use Rattle.std.specs.List.{list_any}
use Rattle.osi_base.specs.declared.layer_words.Proposal.{Proposal}
use Rattle.osi_base.specs.declared.layer_words.AddAnswer.{AddAnswer}
use Rattle.osi_base.specs.declared.layer_words.Answers.{Answers}
use Rattle.osi_base.specs.declared.layer_words.SetItem.{SetItem}
use Rattle.end_rules.specs.Base.{Base, is_reliable, ber_name}
use Rattle.end_rules.specs.Sets.{Alteration, same_name, is_among, is_fixed, has_parity, count_added, proposed_ids}
use Rattle.osi_base.specs.SetPlaces.{pair_of}
use Rattle.osi_base.specs.Limits.{most_contexts}
use Rattle.osi_base.specs.Syntax.{syntax_named, acse_name, rtse_name}
use Rattle.end_rules.specs.State.{Body}
use Rattle.end_rules.specs.Altering.{used, has_double}

-- ---- the answer to one addition

-- the abstract syntaxes that are taken: the module's, and at an opening those of the association
abbrev pub is_association : Base → List ℕ → Bool
is_association base name = same_name name acse_name || is_reliable base.mode && same_name name rtse_name

abbrev pub is_taken : Base → Bool → List ℕ → Bool
is_taken base connecting name = same_name name base.tables.name_oid || connecting && is_association base name

-- association control and reliable transfer take BER alone, the module what the configuration accepts
abbrev pub takes_syntax : Base → Bool → List ℕ → List ℕ → Bool
takes_syntax base connecting name syntax =
    if connecting && is_association base name then same_name syntax ber_name
    else is_some (syntax_named syntax) && list_any (same_name syntax) base.config.accepts

-- accepted with the first of its transfer syntaxes that is taken
abbrev pub acceptance : List ℕ → AddAnswer
acceptance syntax = record { result = 0; transfer = Some syntax; reason = None }

-- rejected by the provider: 1 abstract syntax, 2 transfer syntaxes, 3 local limit (X.226 8.2.3)
abbrev pub rejection : ℕ → AddAnswer
rejection reason = record { result = 2; transfer = None; reason = Some reason }

abbrev pub answer_within : ℕ → Option (List ℕ) → AddAnswer
answer_within count None = rejection 2
answer_within count (Some syntax) = if nat_lt count most_contexts then acceptance syntax else rejection 3

-- the answer where so many contexts are there or on their way
abbrev pub answer_to_addition : Base → Bool → ℕ → Proposal → AddAnswer
answer_to_addition base connecting count p =
    if not (is_taken base connecting p.abstract_name) then rejection 1
    else answer_within count (find (takes_syntax base connecting p.abstract_name) p.transfers)

abbrev pub counted_with : ℕ → AddAnswer → ℕ
counted_with count answer = if nat_eq answer.result 0 then suc count else count

abbrev pub answers_to_additions : Base → Bool → ℕ → List Proposal → List AddAnswer
answers_to_additions base connecting count [] = []
answers_to_additions base connecting count (p ∷ ps) =
    answer_to_addition base connecting count p ∷
    answers_to_additions base connecting (counted_with count (answer_to_addition base connecting count p)) ps

-- ---- the answer to one deletion: rejected by the user where the context is in use or fixed

abbrev pub answer_to_deletion : Body → ℕ → ℕ
answer_to_deletion body k = if is_among k (used body) || is_fixed (pair_of body.sets.held k) then 1 else 0

-- the answers to a peer's alteration; the own additions that aren't answered count too
abbrev pub policy : Base → Body → Alteration → Answers
policy base body a =
    record {
      added = answers_to_additions base false (length body.sets.held + count_added body.sets.own) a.add;
      deleted = map (answer_to_deletion body) a.delete;
    }

-- the answers to the list of an opening
abbrev pub opening_policy : Base → List Proposal → List AddAnswer
opening_policy base proposals = answers_to_additions base true 0 proposals

-- ---- what may not be proposed: an identifier that is there or comes twice, or has the wrong parity (X.226 8.2)

abbrev pub is_faulty_proposal : Bool → List SetItem → List Proposal → Bool
is_faulty_proposal proposer_initiates held add =
    has_double (proposed_ids add) || list_any (λ k. is_some (pair_of held k) || not (has_parity proposer_initiates k)) (proposed_ids add)
