-- What may be called of alterations (X.226 6.2; the rows and their order are this project's own).
use Rattle.std.specs.Prelude.{ℕ, ◌+◌, List, [], ◌∷◌, ◌++◌, map, length, Bool, false, not, ◌&&◌, ◌||◌, nat_eq, nat_lt, nat_le, Option, Some, None, is_some, Ok, Err, if◌then◌else◌}
use Rattle.std.specs.List.{list_any}
use Rattle.osi_base.specs.declared.layer_words.Proposal.{Proposal}
use Rattle.osi_base.specs.Limits.{highest_context, most_contexts, most_alterations}
use Rattle.osi_base.specs.Proposals.{has_bad_transfers}
use Rattle.dialogue.specs.declared.call.CallRefusal.{CallRefusal}
use Rattle.dialogue.specs.declared.call.CallRefusal.TheVariants as refusals
use Rattle.end_rules.specs.Base.{Base, is_reliable}
use Rattle.end_rules.specs.Sets.{Alteration, named_ids, is_among, is_named_in, count_added, is_fixed, has_parity}
use Rattle.osi_base.specs.SetPlaces.{pair_of}
use Rattle.end_rules.specs.State.{Body, OpenCall, Queued, Encoded, Transfer, is_free, is_empty, is_current, is_ending, is_suspended}
use Rattle.end_rules.specs.Invoking.{Reply, unless_refused}

-- ---- the contexts in use (this project's own rule)

abbrev pub context_of_encoding : Option Encoded → List ℕ
context_of_encoding None = []
context_of_encoding (Some encoded) = encoded.item.id ∷ []

-- the context on which the transfer in progress is encoded
abbrev pub context_of_current : Option Transfer → List ℕ
context_of_current None = []
context_of_current (Some transfer) = if is_suspended transfer.progress then [] else context_of_encoding transfer.encoded

-- with those of open invocations and of queued items
abbrev pub used : Body → List ℕ
used body =
    context_of_current body.sending.current ++ map (λ (o : OpenCall). o.context) body.calls.opens ++
    map (λ (item : Queued). item.context) body.sending.queue

-- ---- Alter

-- some identifier comes twice
abbrev pub has_double : List ℕ → Bool
has_double [] = false
has_double (k ∷ ks) = is_among k ks || has_double ks

abbrev pub is_no_context : ℕ → Bool
is_no_context k = nat_eq k 0 || nat_lt highest_context k

-- nothing is asked for, an identifier comes twice or is none, or an addition has no or too many syntaxes
abbrev pub is_bad : Alteration → Bool
is_bad a = is_empty (named_ids a) || has_double (named_ids a) || list_any is_no_context (named_ids a) || list_any has_bad_transfers a.add

-- why one addition is refused
abbrev pub addition_refusal : Base → Body → ℕ → Option CallRefusal
addition_refusal base body k =
    if not (has_parity base.initiator k) then Some (refusals.WrongParity k)
    else (if is_named_in body.sets.own k then Some (refusals.Named k)
    else (if is_some (pair_of body.sets.held k) then Some (refusals.Present k)
    else None))

-- why one deletion is refused
abbrev pub deletion_refusal : Body → ℕ → Option CallRefusal
deletion_refusal body k =
    if is_named_in body.sets.own k then Some (refusals.Named k)
    else (if not (is_some (pair_of body.sets.held k)) then Some (refusals.Absent k)
    else (if is_fixed (pair_of body.sets.held k) then Some (refusals.Fixed k)
    else (if is_among k (used body) then Some (refusals.InUse k)
    else None)))

-- the first refusal of these
abbrev pub or_else : Option CallRefusal → Option CallRefusal → Option CallRefusal
or_else None later = later
or_else (Some refusal) later = Some refusal

abbrev pub additions_refusal : Base → Body → List Proposal → Option CallRefusal
additions_refusal base body [] = None
additions_refusal base body (p ∷ ps) = or_else (addition_refusal base body p.id) (additions_refusal base body ps)

abbrev pub deletions_refusal : Body → List ℕ → Option CallRefusal
deletions_refusal body [] = None
deletions_refusal body (k ∷ ks) = or_else (deletion_refusal body k) (deletions_refusal body ks)

-- the set, all own additions and these would be too many; deletions aren't taken off
abbrev pub is_set_full : Body → Alteration → Bool
is_set_full body a = nat_lt most_contexts (length body.sets.held + count_added body.sets.own + length a.add)

abbrev pub alteration_refusal : Base → Body → Alteration → Option CallRefusal
alteration_refusal base body a =
    or_else (additions_refusal base body a.add)
    (or_else (deletions_refusal body a.delete)
    (if is_set_full body a then Some refusals.SetFull else None))

abbrev pub can_alter : Base → Body → Alteration → Reply
can_alter base body a =
    if not body.link.manages then Err refusals.NotNegotiated
    else (if not (is_free body.link.awaits) then Err refusals.Waiting
    else (if is_reliable base.mode && not body.link.turn then Err refusals.NoTurn
    else (if is_current is_ending body.sending.current then Err (refusals.Ending body.sending.started)
    else (if nat_le most_alterations (length body.sets.own) then Err refusals.AlterPending
    else (if is_bad a then Err refusals.BadProposal
    else unless_refused (alteration_refusal base body a) (Ok None))))))
