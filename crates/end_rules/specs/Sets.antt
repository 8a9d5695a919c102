-- Sets of presentation contexts, and what alters them (X.216 7.2, X.226 6.2, 6.3).
use Rattle.std.specs.Prelude.{ℕ, suc, ◌+◌, ◌%◌, List, [], ◌∷◌, ◌++◌, length, map, Bool, true, false, not, ◌&&◌, ◌||◌, nat_eq, nat_lt, if◌then◌else◌, Option, Some, None, is_some}
use Rattle.std.specs.Cmp.Lexicographic.{pointwise}
use Rattle.std.specs.List.{list_any}
use Rattle.osi_base.specs.SetPlaces.{pair_of, without_context}
use Rattle.osi_base.specs.Syntax.{name_of, syntax_named, acse_name, rtse_name}
use Rattle.osi_base.specs.declared.syntax.Pair.{Pair}
use Rattle.osi_base.specs.declared.syntax.Syntax.{Syntax}
use Rattle.osi_base.specs.declared.layer_words.SetItem.{SetItem}
use Rattle.osi_base.specs.declared.layer_words.Proposal.{Proposal}
use Rattle.osi_base.specs.declared.layer_words.AddAnswer.{AddAnswer}
use Rattle.osi_base.specs.declared.layer_words.Answers.{Answers}
use Rattle.osi_base.specs.declared.layer_words.RestoredItem.{RestoredItem}

-- two object identifiers are one
abbrev pub same_name : List ℕ → List ℕ → Bool
same_name a b = pointwise nat_eq a b

abbrev pub is_among : ℕ → List ℕ → Bool
is_among k ks = list_any (nat_eq k) ks

-- a context that is added, by rising identifier
abbrev pub put : ℕ → Pair → List SetItem → List SetItem
put k pair [] = record { id = k; pair = pair } ∷ []
put k pair (item ∷ items) =
    if nat_lt k item.id
    then record { id = k; pair = pair } ∷ item ∷ items
    else if nat_eq k item.id
    then record { id = k; pair = pair } ∷ items
    else item ∷ put k pair items

-- ---- alterations

-- what an end asked for: contexts to be added, and to be deleted (X.226 8.2)
pub record Alteration : Type 0 where
  pub add : List Proposal
  pub delete : List ℕ

abbrev pub proposed_ids : List Proposal → List ℕ
proposed_ids add = map (λ (p : Proposal). p.id) add

-- the identifiers that an alteration names
abbrev pub named_ids : Alteration → List ℕ
named_ids alteration = proposed_ids alteration.add ++ alteration.delete

-- the pair of a proposal with a transfer syntax of this name
abbrev pub accepted_pair : Proposal → Option Syntax → Option Pair
accepted_pair p None = None
accepted_pair p (Some syntax) = Some (record { abstract_name = p.abstract_name; transfer = syntax })

abbrev pub named_syntax : Option (List ℕ) → Option Syntax
named_syntax None = None
named_syntax (Some name) = syntax_named name

-- the pair that an answer accepts: result 0, with the transfer syntax that it names (X.226 8.2.3)
abbrev pub pair_accepted : Proposal → AddAnswer → Option Pair
pair_accepted p answer = if nat_eq answer.result 0 then accepted_pair p (named_syntax answer.transfer) else None

abbrev pub put_accepted : ℕ → Option Pair → List SetItem → List SetItem
put_accepted k None set = set
put_accepted k (Some pair) set = put k pair set

-- a set after these additions with their answers
abbrev pub with_added : List Proposal → List AddAnswer → List SetItem → List SetItem
with_added [] answers set = set
with_added (p ∷ ps) [] set = set
with_added (p ∷ ps) (answer ∷ answers) set = with_added ps answers (put_accepted p.id (pair_accepted p answer) set)

-- a set after these deletions with their answers, 0 where one is accepted
abbrev pub with_deleted : List ℕ → List ℕ → List SetItem → List SetItem
with_deleted [] answers set = set
with_deleted (k ∷ ks) [] set = set
with_deleted (k ∷ ks) (answer ∷ answers) set = with_deleted ks answers (if nat_eq answer 0 then without_context k set else set)

-- a set after an alteration: additions first
abbrev pub altered : Alteration → Answers → List SetItem → List SetItem
altered alteration answers set = with_deleted alteration.delete answers.deleted (with_added alteration.add answers.added set)

-- the accepted contexts of an association: what was proposed, with its answers
abbrev pub accepted_set : List Proposal → List AddAnswer → List SetItem
accepted_set proposals answers = with_added proposals answers []

-- the syntax that an answer names is one of the three, and was offered
abbrev pub is_offered : List (List ℕ) → Option (List ℕ) → Bool
is_offered offers None = false
is_offered offers (Some name) = list_any (same_name name) offers && is_some (syntax_named name)

-- an answer fits its proposal
abbrev pub fits_proposal : Proposal → AddAnswer → Bool
fits_proposal p answer = not (nat_eq answer.result 0) || is_offered p.transfers answer.transfer

-- the answers fit the proposals, one for one (X.226 8.2)
abbrev pub fit_proposals : List Proposal → List AddAnswer → Bool
fit_proposals [] [] = true
fit_proposals [] (answer ∷ answers) = false
fit_proposals (p ∷ ps) [] = false
fit_proposals (p ∷ ps) (answer ∷ answers) = fits_proposal p answer && fit_proposals ps answers

abbrev pub fit_alteration : Alteration → Answers → Bool
fit_alteration alteration answers =
    fit_proposals alteration.add answers.added && nat_eq (length alteration.delete) (length answers.deleted)

-- ---- own alterations that aren't answered, oldest first

-- one of them names the identifier
abbrev pub is_named_in : List Alteration → ℕ → Bool
is_named_in own k = list_any (λ (a : Alteration). is_among k (named_ids a)) own

-- one of them deletes it
abbrev pub is_deleted_in : List Alteration → ℕ → Bool
is_deleted_in own k = list_any (λ (a : Alteration). is_among k a.delete) own

-- how many contexts they add
abbrev pub count_added : List Alteration → ℕ
count_added [] = 0
count_added (a ∷ own) = length a.add + count_added own

-- ---- what may be sent, and on which context

-- the identifier may be sent: it is in the set, and no own alteration deletes it
abbrev pub may_send : List SetItem → List Alteration → ℕ → Bool
may_send held own k = is_some (pair_of held k) && not (is_deleted_in own k)

abbrev pub has_abstract : List ℕ → Option Pair → Bool
has_abstract name None = false
has_abstract name (Some pair) = same_name pair.abstract_name name

-- the lowest identifier of the set with this abstract syntax that may be sent
abbrev pub lowest_with : List ℕ → List Alteration → List SetItem → Option ℕ
lowest_with name own [] = None
lowest_with name own (item ∷ items) =
    if same_name item.pair.abstract_name name && not (is_deleted_in own item.id) then Some item.id else lowest_with name own items

-- The carrier of an identifier: itself where it may be sent, else the lowest of the module's abstract
-- syntax that may be (this project's own rule).
abbrev pub carrier : List ℕ → List SetItem → List Alteration → ℕ → Option ℕ
carrier name held own k = if may_send held own k then Some k else lowest_with name own held

-- ---- restarts

-- a set as a restart carries it: identifiers with their transfer syntaxes (this project's own rule)
abbrev pub listed : List SetItem → List RestoredItem
listed set = map (λ (item : SetItem). record { id = item.id; transfer = name_of item.pair.transfer }) set

-- two such lists are one
abbrev pub same_lists : List RestoredItem → List RestoredItem → Bool
same_lists xs ys = pointwise (λ (a : RestoredItem) (b : RestoredItem). nat_eq a.id b.id && same_name a.transfer b.transfer) xs ys

-- a set that a mark saved under its number; lists of them have the newest first
pub record Saved : Type 0 where
  pub number : ℕ
  pub set : List SetItem

-- what is saved under the numbers below n
abbrev pub below : ℕ → List Saved → List Saved
below n [] = []
below n (mark ∷ marks) = if nat_lt mark.number n then mark ∷ marks else below n marks

-- the set of the newest mark
abbrev pub newest : List Saved → List SetItem
newest [] = []
newest (mark ∷ marks) = mark.set

-- the number of the next mark
abbrev pub next_number : List Saved → ℕ
next_number [] = 0
next_number (mark ∷ marks) = suc mark.number

-- ---- whose an identifier is

-- an initiator's are odd, a responder's even (X.226 8.2)
abbrev pub has_parity : Bool → ℕ → Bool
has_parity initiator k = if initiator then nat_eq (k % 2) 1 else nat_eq (k % 2) 0

-- contexts of association control and of reliable transfer stay
abbrev pub is_fixed : Option Pair → Bool
is_fixed pair = has_abstract acse_name pair || has_abstract rtse_name pair
