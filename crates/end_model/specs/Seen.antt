-- What the model of agreement sees of one end: its state as a function of the end's body.
use Rattle.std.specs.Prelude.{ℕ, ℤ, pos, negsuc, List, [], ◌∷◌, ◌++◌, map, length, Bool, true, false, not, ◌&&◌, nat_eq, nat_le, if◌then◌else◌, Option, Some, None, option_map, unwrap_or, is_some}
use Rattle.osi_base.specs.Syntax.{name_of, syntax_named}
use Rattle.osi_base.specs.declared.syntax.Pair.{Pair}
use Rattle.osi_base.specs.declared.syntax.Syntax.TheVariants.{Der}
use Rattle.osi_base.specs.declared.layer_words.SetItem.{SetItem}
use Rattle.osi_base.specs.declared.layer_words.Proposal.{Proposal}
use Rattle.osi_base.specs.declared.layer_words.RestoredItem.{RestoredItem}
use Rattle.osi_base.specs.declared.layer_words.Problem.{Problem}
use Rattle.osi_base.specs.declared.layer_words.ProblemKind.{ProblemKind}
use Rattle.osi_base.specs.declared.layer_words.ProblemKind.TheVariants as problems
use Rattle.osi_base.specs.Limits.{most_marks, most_transferred, most_open}
use Rattle.stub_tables.specs.declared.apdu.Apdu.{Apdu}
use Rattle.stub_tables.specs.declared.apdu.Apdu.TheVariants as apdus
use Rattle.stub_tables.specs.Lookup.{operation_at, operation_with, error_with}
use Rattle.dialogue.specs.declared.config.Mode.{Mode}
use Rattle.dialogue.specs.declared.config.Mode.TheVariants.{Bare, Direct, Reliable}
use Rattle.dialogue.specs.declared.config.Phase.{Phase}
use Rattle.dialogue.specs.declared.config.Phase.TheVariants as phases
use Rattle.end_rules.specs.Base.{Base, HeardHead, ResultHead, ErrorHead, Item}
use Rattle.end_rules.specs.Sets.{Alteration, Saved}
use Rattle.end_rules.specs.State.{Stage, Unused, Asked, Joined, Carrying, Awaited, NoAnswer, RestartOf, InterruptOf, DiscardOf, ReleaseOf, OpenCall, is_whose, is_none, Calls, Queued, Piece, Octets, Marked, Progress, Running, Ending, Suspended, Encoded, Transfer, Sending, Receiving, Body}
use Rattle.end_rules.specs.Invoking.{is_linked_to}
use Rattle.end_rules.specs.Hearing.{is_silent_at, has_links, result_problem, error_problem}
use Rattle.agreement.specs.Sets as model_sets
use Rattle.agreement.specs.Sets.Role.{Initiator, Responder}
use Rattle.agreement.specs.Sets.Item.{Addition, Deletion}
use Rattle.agreement.specs.Messages as model
use Rattle.agreement.specs.Calls.{is_open}
use Rattle.agreement.specs.Messages.Mode.{Bare as model_bare, Direct as model_direct, Reliable as model_reliable}
use Rattle.agreement.specs.Messages.Apdu.{Invoke as model_invoke, Outcome as model_outcome, Reject as model_reject}
use Rattle.agreement.specs.Messages.Problem.{General as of_general, OfInvocation as of_invocation, OfResult as of_result, OfError as of_error}
use Rattle.agreement.specs.State as model_state
use Rattle.agreement.specs.State.Phase.{Idle as model_idle, Opening as model_opening, Up as model_up, Releasing as model_releasing, Broken as model_broken, Recovering as model_recovering, Over as model_over}
use Rattle.agreement.specs.State.Awaited.{NoAnswer as model_no_answer, RestartOf as model_restart, InterruptOf as model_interrupt, DiscardOf as model_discard, ReleaseOf as model_release}
use Rattle.agreement.specs.State.Piece.{Octets as model_octets, Marked as model_marked}
use Rattle.agreement.specs.State.Progress.{Running as model_running, Ending as model_ending, Suspended as model_suspended}

abbrev pub role_seen : Bool → model_sets.Role
role_seen true = Initiator
role_seen false = Responder

abbrev pub mode_seen : Mode → model.Mode
mode_seen Bare = model_bare
mode_seen Direct = model_direct
mode_seen Reliable = model_reliable

-- ---- sets

abbrev pub pair_seen : Pair → model_sets.Pair
pair_seen pair = record { abstract_syntax = pair.abstract_name; transfer_syntax = name_of pair.transfer }

abbrev pub context_seen : SetItem → model_sets.Context
context_seen item = record { identifier = item.id; pair = pair_seen item.pair }

abbrev pub set_seen : List SetItem → model_sets.ContextSet
set_seen set = map context_seen set

abbrev pub saved_seen : List Saved → List model_sets.Saved
saved_seen saved = map (λ (mark : Saved). record { number = mark.number; set = set_seen mark.set }) saved

-- an addition offers its pairs; additions stand before deletions
abbrev pub offers_seen : Proposal → List model_sets.Pair
offers_seen p = map (λ name. record { abstract_syntax = p.abstract_name; transfer_syntax = name }) p.transfers

abbrev pub addition_seen : Proposal → model_sets.Item
addition_seen p = Addition p.id (offers_seen p)

abbrev pub items_seen : Alteration → List model_sets.Item
items_seen a = map addition_seen a.add ++ map Deletion a.delete

abbrev pub listed_seen : List RestoredItem → List model_sets.Listed
listed_seen list = map (λ (item : RestoredItem). record { identifier = item.id; transfer_syntax = item.transfer }) list

-- ---- APDUs: a number that is negative is none of this product's

abbrev pub number_seen : ℤ → ℕ
number_seen (pos n) = n
number_seen (negsuc n) = 0

abbrev pub problem_in : ProblemKind → ℕ → model.Problem
problem_in problems.General code = of_general code
problem_in problems.Invoke code = of_invocation code
problem_in problems.Result code = of_result code
problem_in problems.Error code = of_error code

abbrev pub problem_seen : Problem → model.Problem
problem_seen problem = problem_in problem.kind (number_seen problem.number)

abbrev pub rejected_seen : Option ℤ → ℕ
rejected_seen None = 0
rejected_seen (Some id) = number_seen id

-- what an APDU carries is its one spelling in DER
abbrev pub apdu_seen : Base → Apdu → model.Apdu
apdu_seen base (apdus.Invoke id linked code argument) =
    model_invoke (number_seen id) (unwrap_or (operation_with base.tables code) 0) (option_map number_seen linked)
    (base.spellings.apdu Der (apdus.Invoke id linked code argument))
apdu_seen base (apdus.Result id returned) = model_outcome (number_seen id) (base.spellings.apdu Der (apdus.Result id returned))
apdu_seen base (apdus.Error id code parameter) = model_outcome (number_seen id) (base.spellings.apdu Der (apdus.Error id code parameter))
apdu_seen base (apdus.Reject id problem) = model_reject (rejected_seen id) (problem_seen problem)

abbrev pub item_seen : Base → Item → model.Value
item_seen base item = record { identifier = item.id; pair = pair_seen item.pair; apdu = apdu_seen base item.apdu }

-- ---- the association

-- the association of the model begins with the CN, and a recovery too
abbrev pub at_stage : model_state.Phase → model_state.Phase → Stage → model_state.Phase
at_stage before since Unused = before
at_stage before since Asked = before
at_stage before since Joined = before
at_stage before since Carrying = since

abbrev pub phase_seen : Stage → Phase → model_state.Phase
phase_seen stage phases.Idle = model_idle
phase_seen stage phases.Opening = at_stage model_idle model_opening stage
phase_seen stage phases.Up = model_up
phase_seen stage phases.Releasing = model_releasing
phase_seen stage phases.Broken = model_broken
phase_seen stage phases.Recovering = at_stage model_broken model_recovering stage
phase_seen stage phases.Over = model_over
phase_seen stage phases.Dead = model_over

abbrev pub awaited_seen : Awaited → model_state.Awaited
awaited_seen NoAnswer = model_no_answer
awaited_seen (RestartOf number) = model_restart number
awaited_seen InterruptOf = model_interrupt
awaited_seen DiscardOf = model_discard
awaited_seen ReleaseOf = model_release

-- ---- invocations: the model has the newest first

abbrev pub invocation_seen : OpenCall → model.Invocation
invocation_seen o = record { number = number_seen o.id; operation = o.operation; context = o.context }

-- the open invocations of this end (own), or of its peer, put before those
abbrev pub opens_seen_on : Bool → List model.Invocation → List OpenCall → List model.Invocation
opens_seen_on own newer [] = newer
opens_seen_on own newer (o ∷ os) = opens_seen_on own (if is_whose own o then invocation_seen o ∷ newer else newer) os

abbrev pub calls_seen : Calls → model.Calls
calls_seen calls =
    record { own_open = opens_seen_on true [] calls.opens; peer_open = opens_seen_on false [] calls.opens; made = calls.made }

-- ---- transfers

abbrev pub piece_seen : Piece → model_state.Piece
piece_seen (Octets octets) = model_octets octets
piece_seen (Marked number set) = model_marked number (set_seen set)

abbrev pub progress_seen : Progress → model_state.Progress
progress_seen Running = model_running
progress_seen Ending = model_ending
progress_seen Suspended = model_suspended

abbrev pub queued_seen : Base → Queued → model_state.Handed
queued_seen base item = record { context = item.context; apdu = apdu_seen base item.apdu }

abbrev pub encoded_seen : Base → Option Encoded → Option model.Value
encoded_seen base None = None
encoded_seen base (Some encoded) = Some (item_seen base encoded.item)

abbrev pub current_seen : Base → Transfer → model_state.Transfer
current_seen base t =
    record {
      item = queued_seen base t.item;
      value = encoded_seen base t.encoded;
      pieces = map piece_seen t.pieces;
      confirmed = t.confirmed;
      progress = progress_seen t.progress;
    }

abbrev pub transfer_seen : Base → Option Transfer → Option model_state.Transfer
transfer_seen base None = None
transfer_seen base (Some t) = Some (current_seen base t)

abbrev pub outgoing_seen : Base → Sending → model_state.Outgoing
outgoing_seen base sending =
    record { started = sending.started; transfer = transfer_seen base sending.current; queue = map (queued_seen base) sending.queue }

abbrev pub incoming_seen : Receiving → model_state.Incoming
incoming_seen r = record { last = r.last; pieces = map piece_seen r.pieces; was_handed = r.was_handed; active = r.active }

-- ---- the whole

abbrev pub seen : Base → Body → model_state.State
seen base body =
    record {
      phase = phase_seen body.link.stage body.link.phase;
      turn = body.link.turn;
      gave = body.link.gave;
      awaits = awaited_seen body.link.awaits;
      sets = record { held = set_seen body.sets.held; inter = set_seen body.sets.inter; own = map items_seen body.sets.own };
      saved = saved_seen body.saved;
      outgoing = outgoing_seen base body.sending;
      incoming = incoming_seen body.receiving;
      calls = calls_seen body.calls;
    }

-- ---- what two ends have in common

-- How values stand in octets is left free: it is a codec of the model.
pub record Free : Type 0 where
  pub codec : model.Codec

-- what the octets say is an outcome that the operation at this place has, with a value of its type (X.880 8)
abbrev pub is_outcome : Base → ℕ → HeardHead → Bool
is_outcome base place (ResultHead id code value) = is_none (result_problem base place (operation_at base.tables place) code value)
is_outcome base place (ErrorHead id code parameter) =
    is_none (error_problem base (operation_at base.tables place) (error_with base.tables code) parameter)
is_outcome base place head = false

abbrev pub allows_outcome : Base → ℕ → List ℕ → Bool
allows_outcome base place content = is_outcome base place (base.spellings.head Der content)

-- Why an invocation isn't accepted: its number is open (0), there is no room (3), the linked invocation isn't open (5), its
-- operation has no links (6), or not this one (7). An outcome isn't where its invocation isn't open (0) (X.880 9).
abbrev pub on_open : (ℕ → Bool) → ℕ → List model.Invocation → Bool
on_open test number [] = false
on_open test number (c ∷ cs) = if nat_eq c.number number then test c.operation else on_open test number cs

abbrev pub link_due : Base → List model.Invocation → Option ℕ → ℕ
link_due base opens None = 1
link_due base opens (Some parent) =
    if not (is_open parent opens) then 5
    else (if on_open (λ place. has_links (operation_at base.tables place)) parent opens then 7 else 6)

abbrev pub outcome_due : HeardHead → model.Problem
outcome_due (ErrorHead id code parameter) = of_error 0
outcome_due head = of_result 0

abbrev pub problem_due : Base → model.Calls → model.Apdu → model.Problem
problem_due base calls (model_invoke number operation link argument) =
    if is_open number calls.peer_open then of_invocation 0
    else (if nat_le most_open (length calls.peer_open) && not (is_silent_at base (Some operation)) then of_invocation 3
    else of_invocation (link_due base calls.own_open link))
problem_due base calls (model_outcome number content) = outcome_due (base.spellings.head Der content)
problem_due base calls (model_reject number problem) = problem

abbrev pub setup_seen : Free → Mode → Base → model.ModelSetup
setup_seen free mode base =
    record {
      mode = mode_seen mode;
      codec = free.codec;
      knows = λ name. is_some (syntax_named name);
      silent = λ operation. is_silent_at base (Some operation);
      links = λ parent child. is_linked_to (operation_at base.tables parent) child;
      allows = allows_outcome base;
      problem = problem_due base;
      bare_context = record { identifier = 0; pair = record { abstract_syntax = base.tables.name_oid; transfer_syntax = 2 ∷ 1 ∷ 1 ∷ [] } };
      most_marks = most_marks;
      most_transferred = most_transferred;
      most_open = most_open;
    }
