-- What an end may ask for over its set; the first refusal that holds decides.
use Rattle.std.specs.Prelude.{◌≡◌, ◌≢◌, ℕ, ◌+◌, ◌%◌, Bool, false, ◌||◌, not, nat_eq, nat_lt, nat_le, if◌then◌else◌, List, [], ◌∷◌, length, Option, Some, None, is_some}
use Rattle.std.specs.List.{list_any}
use Rattle.std.specs.Option.{option_or}
use Rattle.osi_base.specs.declared.syntax.Pair.{Pair}
use Rattle.osi_base.specs.declared.layer_words.Proposal.{Proposal}
use Rattle.osi_base.specs.Limits.{highest_context, most_contexts, most_alterations}
use Rattle.osi_base.specs.Proposals.{has_bad_transfers}
use Rattle.context_sets.specs.declared.alteration.Alteration.{Alteration}
use Rattle.context_sets.specs.declared.fault.SetRefusal.{SetRefusal}
use Rattle.context_sets.specs.declared.fault.SetRefusal.TheVariants.{AlterPending, BadProposal, WrongParity, Named, Present, Absent, Fixed, InUse, SetFull, NoMemory}
use Rattle.context_sets.specs.Sets.{ContextSet}
use Rattle.osi_base.specs.SetPlaces.{pair_of}
use Rattle.context_sets.specs.Syntaxes.{is_fixed}
use Rattle.context_sets.specs.Alterations.{additions, named_by, is_among, is_named}

-- an initiator's identifiers are odd, a responder's even (X.226 8.2)
abbrev pub is_of : Bool → ℕ → Bool
is_of initiator id = nat_eq (id % 2) (if initiator then 1 else 0)

-- an identifier is a number from 1 on, within its limit
abbrev pub is_no_identifier : ℕ → Bool
is_no_identifier id = nat_eq id 0 || nat_lt highest_context id

-- one of these, which stand behind those before, is no identifier or stood there already
abbrev pub are_bad : List ℕ → List ℕ → Bool
are_bad before [] = false
are_bad before (id ∷ ids) = is_no_identifier id || (is_among id before || are_bad (id ∷ before) ids)

-- nothing is asked, an identifier is none or stands twice, or an addition offers none or too many
abbrev pub is_bad : Alteration → Bool
is_bad asked =
    nat_eq (length (named_by asked)) 0 || (are_bad [] (named_by asked) || list_any has_bad_transfers asked.added)

-- the first refusal in a list
abbrev pub first_refusal : {X : Type 0} → (X → Option SetRefusal) → List X → Option SetRefusal
first_refusal refuse [] = None
first_refusal refuse (x ∷ xs) = option_or (refuse x) (first_refusal refuse xs)

abbrev pub addition_refusal : Bool → ContextSet → List Alteration → Proposal → Option SetRefusal
addition_refusal initiator set own proposal =
    if not (is_of initiator proposal.id) then Some (WrongParity proposal.id)
    else if is_named own proposal.id then Some (Named proposal.id)
    else if is_some (pair_of set proposal.id) then Some (Present proposal.id)
    else None

-- the same for a deletion, with the pair that the set gives the identifier
abbrev pub pair_refusal : List ℕ → ℕ → Option Pair → Option SetRefusal
pair_refusal used id None = Some (Absent id)
pair_refusal used id (Some pair) =
    if is_fixed pair.abstract_name then Some (Fixed id)
    else if is_among id used then Some (InUse id)
    else None

abbrev pub deletion_refusal : ContextSet → List Alteration → List ℕ → ℕ → Option SetRefusal
deletion_refusal set own used id =
    if is_named own id then Some (Named id) else pair_refusal used id (pair_of set id)

-- set, own additions and these would pass 64; deletions aren't taken off
abbrev pub is_over : ContextSet → List Alteration → List Proposal → Bool
is_over set own added = nat_lt most_contexts (length set + additions own + length added)

-- why an end doesn't ask for an alteration
abbrev pub refusal : Bool → ContextSet → List Alteration → List ℕ → Alteration → Option SetRefusal
refusal initiator set own used asked =
    if nat_le most_alterations (length own) then Some AlterPending
    else if is_bad asked then Some BadProposal
    else option_or (first_refusal (addition_refusal initiator set own) asked.added)
    (option_or (first_refusal (deletion_refusal set own used) asked.deleted)
    (if is_over set own asked.added then Some SetFull else None))

-- what is refused is the first refusal; want of memory may come always
abbrev pub IsRefused : Option SetRefusal → SetRefusal → Type 0
IsRefused first answer = answer ≢ NoMemory → first ≡ Some answer
