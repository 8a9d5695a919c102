-- Invocations and their outcomes at one end (X.880 8, 9).
use Rattle.std.specs.Prelude.{◌≡◌, ℕ, suc, Bool, true, false, not, ◌&&◌, ◌||◌, nat_eq, nat_lt, length, if◌then◌else◌, List, [], ◌∷◌, Option, Some, None}
use Rattle.agreement.specs.Messages.{Apdu, is_of_invocation, Invocation, Calls, ModelSetup}
use Rattle.agreement.specs.Messages.Apdu.{Invoke, Outcome, Reject}
use Rattle.agreement.specs.State.{Handed}

abbrev pub is_open : ℕ → List Invocation → Bool
is_open k [] = false
is_open k (call ∷ calls) = nat_eq call.number k || is_open k calls

abbrev pub close : ℕ → List Invocation → List Invocation
close k [] = []
close k (call ∷ calls) = if nat_eq call.number k then close k calls else call ∷ close k calls

-- the linked invocation is open, and its operation may have this one as a child (X.880 8.2.6)
abbrev pub is_link_allowed : ModelSetup → List Invocation → ℕ → Option ℕ → Bool
is_link_allowed setup calls operation None = true
is_link_allowed setup [] operation (Some parent) = false
is_link_allowed setup (call ∷ calls) operation (Some parent) =
    if nat_eq call.number parent
    then setup.links call.operation operation
    else is_link_allowed setup calls operation (Some parent)

-- an invocation joins the open ones, unless its operation has no outcome
abbrev pub opened : ModelSetup → ℕ → ℕ → ℕ → List Invocation → List Invocation
opened setup number operation context calls =
    if setup.silent operation then calls else record { number = number; operation = operation; context = context } ∷ calls

-- there is room for one more invocation; one without an outcome never opens (this project's own limit)
abbrev pub has_room : ModelSetup → ℕ → List Invocation → Bool
has_room setup operation calls = setup.silent operation || nat_lt (length calls) setup.most_open

-- the invocation is open, and its operation has this outcome (X.880 8)
abbrev pub may_answer : ModelSetup → List Invocation → ℕ → List ℕ → Bool
may_answer setup [] number content = false
may_answer setup (call ∷ calls) number content =
    if nat_eq call.number number then setup.allows call.operation content else may_answer setup calls number content

-- the reject is the first that is due
abbrev pub IsDue : Apdu → List Handed → Type 0
IsDue reject [] = ⊥
IsDue reject (item ∷ items) = item.apdu ≡ reject

-- what an end may hand in: its next invocation, for which there is room, and whose link names an open one
-- of the peer; an outcome that an open invocation of the peer may have; the reject that is due
abbrev pub MayHandIn : ModelSetup → Calls → List Handed → Apdu → Type 0
MayHandIn setup calls due (Invoke number operation link argument) =
    (number ≡ suc calls.made) × (is_link_allowed setup calls.peer_open operation link ≡ true) ×
    (has_room setup operation calls.own_open ≡ true)
MayHandIn setup calls due (Outcome number content) = may_answer setup calls.peer_open number content ≡ true
MayHandIn setup calls due (Reject number problem) = IsDue (Reject number problem) due

abbrev pub handed_in : ModelSetup → Calls → ℕ → Apdu → Calls
handed_in setup calls context (Invoke number operation link argument) =
    record calls { own_open = opened setup number operation context calls.own_open; made = suc calls.made }
handed_in setup calls context (Outcome number content) = record calls { peer_open = close number calls.peer_open }
handed_in setup calls context (Reject number problem) = calls

-- what is due without its first
abbrev pub after_due : List Handed → List Handed
after_due [] = []
after_due (item ∷ items) = items

-- a reject that is said is due no longer
abbrev pub due_after : Apdu → List Handed → List Handed
due_after (Reject number problem) due = after_due due
due_after apdu due = due

-- an APDU that is taken is accepted: an invocation whose number isn't open, for which there is room
-- and whose link is allowed, an outcome or a reject of an own open invocation (X.880 9)
abbrev pub is_accepted : ModelSetup → Calls → Apdu → Bool
is_accepted setup calls (Invoke number operation link argument) =
    not (is_open number calls.peer_open) && has_room setup operation calls.peer_open && is_link_allowed setup calls.own_open operation link
is_accepted setup calls (Outcome number content) = is_open number calls.own_open
is_accepted setup calls (Reject number problem) = is_of_invocation problem && is_open number calls.own_open

abbrev pub accepted : ModelSetup → Calls → ℕ → Apdu → Calls
accepted setup calls context (Invoke number operation link argument) =
    record calls { peer_open = opened setup number operation context calls.peer_open }
accepted setup calls context (Outcome number content) = record calls { own_open = close number calls.own_open }
accepted setup calls context (Reject number problem) = record calls { own_open = close number calls.own_open }

-- what isn't accepted changes nothing
abbrev pub heard : ModelSetup → Calls → ℕ → Apdu → Calls
heard setup calls context apdu = if is_accepted setup calls apdu then accepted setup calls context apdu else calls

-- and brings a reject with its problem, which joins what is due; a reject brings none
abbrev pub reject_of : ModelSetup → Calls → ℕ → Apdu → List Handed
reject_of setup calls context (Invoke number operation link argument) =
    record { context = context; apdu = Reject number (setup.problem calls (Invoke number operation link argument)) } ∷ []
reject_of setup calls context (Outcome number content) =
    record { context = context; apdu = Reject number (setup.problem calls (Outcome number content)) } ∷ []
reject_of setup calls context (Reject number problem) = []

abbrev pub rejects_of : ModelSetup → Calls → ℕ → Apdu → List Handed
rejects_of setup calls context apdu = if is_accepted setup calls apdu then [] else reject_of setup calls context apdu

abbrev pub contexts_of_calls : List Invocation → List ℕ
contexts_of_calls [] = []
contexts_of_calls (call ∷ calls) = call.context ∷ contexts_of_calls calls

abbrev pub contexts_of_items : List Handed → List ℕ
contexts_of_items [] = []
contexts_of_items (item ∷ items) = item.context ∷ contexts_of_items items
