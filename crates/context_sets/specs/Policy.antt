-- What an end answers to an alteration that the other asks for, and which it doesn't take (X.226 8.2).
use Rattle.std.specs.Prelude.{◌≡◌, ◌≢◌, ℕ, ◌+◌, Bool, false, not, ◌&&◌, ◌||◌, nat_le, if◌then◌else◌, List, [], ◌∷◌, length, map, Option, Some, None, is_some, Result, Ok, Err}
use Rattle.std.specs.Option.{option_or}
use Rattle.osi_base.specs.Syntax.{name_of, syntax_named, is_listed, acse_name, rtse_name}
use Rattle.osi_base.specs.declared.syntax.Pair.{Pair}
use Rattle.osi_base.specs.declared.syntax.Syntax.{Syntax}
use Rattle.osi_base.specs.declared.syntax.Syntax.TheVariants.{Ber}
use Rattle.osi_base.specs.declared.layer_words.Proposal.{Proposal}
use Rattle.osi_base.specs.declared.layer_words.AddAnswer.{AddAnswer}
use Rattle.osi_base.specs.declared.layer_words.Answers.{Answers}
use Rattle.osi_base.specs.Limits.{most_contexts}
use Rattle.context_sets.specs.declared.alteration.Alteration.{Alteration}
use Rattle.context_sets.specs.declared.fault.SetFault.{SetFault}
use Rattle.context_sets.specs.declared.fault.SetFault.TheVariants.{PeerPresent, PeerParity, NoMemory}
use Rattle.context_sets.specs.declared.rules.Rules.{Rules}
use Rattle.context_sets.specs.declared.rules.Rejection.{Rejection}
use Rattle.context_sets.specs.declared.rules.Rejection.TheVariants.{AbstractSyntax, TransferSyntaxes, LocalLimit}
use Rattle.context_sets.specs.Sets.{ContextSet}
use Rattle.osi_base.specs.SetPlaces.{pair_of}
use Rattle.context_sets.specs.Syntaxes.{is_same, is_fixed}
use Rattle.context_sets.specs.Alterations.{additions, is_among}
use Rattle.context_sets.specs.Asking.{is_of}

-- in the list of a CP also ACSE and, in reliable mode, RTSE are accepted
abbrev pub is_service : Rules → List ℕ → Bool
is_service rules name = rules.connect && (is_same name acse_name || (rules.reliable && is_same name rtse_name))

-- those two in BER alone, the module in the transfer syntaxes that the end accepts
abbrev pub accepts : Rules → List ℕ → List ℕ → Bool
accepts rules name transfer =
    if is_service rules name then is_same transfer (name_of Ber) else is_listed transfer rules.accepts

abbrev pub acceptable : Rules → List ℕ → List ℕ → Option Syntax
acceptable rules name transfer = if accepts rules name transfer then syntax_named transfer else None

-- the first transfer syntax that is known and accepted
abbrev pub chosen : Rules → List ℕ → List (List ℕ) → Option Syntax
chosen rules name [] = None
chosen rules name (transfer ∷ transfers) = option_or (acceptable rules name transfer) (chosen rules name transfers)

-- an end that has so many contexts takes one more, up to 64 (this project's own limit)
abbrev pub within_limit : ℕ → Option Syntax → Result Syntax Rejection
within_limit taken None = Err TransferSyntaxes
within_limit taken (Some syntax) = if nat_le most_contexts taken then Err LocalLimit else Ok syntax

-- what becomes of an addition
abbrev pub judged : Rules → ℕ → Proposal → Result Syntax Rejection
judged rules taken proposal =
    if is_same proposal.abstract_name rules.module || is_service rules proposal.abstract_name
    then within_limit taken (chosen rules proposal.abstract_name proposal.transfers)
    else Err AbstractSyntax

-- the reasons of a provider rejection (X.226 8.2)
abbrev pub reason_of : Rejection → ℕ
reason_of AbstractSyntax = 1
reason_of TransferSyntaxes = 2
reason_of LocalLimit = 3

abbrev pub add_answer : Result Syntax Rejection → AddAnswer
add_answer (Ok syntax) = record { result = 0; transfer = Some (name_of syntax); reason = None }
add_answer (Err rejection) = record { result = 2; transfer = None; reason = Some (reason_of rejection) }

abbrev pub taken_after : ℕ → Result Syntax Rejection → ℕ
taken_after taken (Ok syntax) = taken + 1
taken_after taken (Err rejection) = taken

-- the answers to additions, in their order
abbrev pub added_answers : Rules → ℕ → List Proposal → List AddAnswer
added_answers rules taken [] = []
added_answers rules taken (proposal ∷ proposals) =
    add_answer (judged rules taken proposal) ∷ added_answers rules (taken_after taken (judged rules taken proposal)) proposals

-- the set gives the identifier a context of ACSE or RTSE
abbrev pub is_fixed_pair : Option Pair → Bool
is_fixed_pair None = false
is_fixed_pair (Some pair) = is_fixed pair.abstract_name

-- a deletion is rejected (1) where the context is in use, or is one of ACSE or RTSE; else accepted (0)
abbrev pub deletion_answer : ContextSet → List ℕ → ℕ → ℕ
deletion_answer set used id = if is_among id used || is_fixed_pair (pair_of set id) then 1 else 0

-- the answers to an alteration, over the set and the additions that the end itself waits for
abbrev pub policy : Rules → ContextSet → List Alteration → List ℕ → Alteration → Answers
policy rules set own used asked =
    record {
      added = added_answers rules (length set + additions own) asked.added;
      deleted = map (deletion_answer set used) asked.deleted;
    }

-- why an end of this role may not ask for an addition: its identifier is there or came before, or isn't one
-- of that end's
abbrev pub next_fault : Bool → ContextSet → Bool → ℕ → Option SetFault
next_fault peer set came_before id =
    if is_some (pair_of set id) || came_before then Some (PeerPresent id)
    else if not (is_of peer id) then Some (PeerParity id)
    else None

-- the first of these additions, which stand behind those before, that it may not ask for
abbrev pub peer_fault : Bool → ContextSet → List ℕ → List Proposal → Option SetFault
peer_fault peer set before [] = None
peer_fault peer set before (proposal ∷ proposals) =
    option_or (next_fault peer set (is_among proposal.id before) proposal.id) (peer_fault peer set (proposal.id ∷ before) proposals)

-- what is found is the first fault; want of memory may come always
abbrev pub IsFault : Option SetFault → SetFault → Type 0
IsFault first answer = answer ≢ NoMemory → first ≡ Some answer
