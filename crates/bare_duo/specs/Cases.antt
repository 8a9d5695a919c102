-- Worked rows: what the definitions compute of a transcript, of what comes, and of messages one behind the other.
use Rattle.std.specs.Prelude.{ℕ, ℤ, pos, List, [], ◌∷◌, true, false, Option, Some, None, Ok}
use Rattle.osi_base.specs.declared.layer_words.Side.TheVariants.{A, B}
use Rattle.osi_base.specs.declared.layer_words.ProblemKind.TheVariants as problems
use Rattle.stub_tables.specs.declared.apdu.Apdu.{Apdu}
use Rattle.stub_tables.specs.declared.apdu.Apdu.TheVariants as apdus
use Rattle.stub_tables.specs.declared.operation.Code.TheVariants.{Local}
use Rattle.dialogue.specs.declared.call.Call.TheVariants as the_calls
use Rattle.dialogue.specs.declared.event.Entry.{Entry}
use Rattle.dialogue.specs.declared.event.Entry.TheVariants as entries
use Rattle.dialogue.specs.declared.indication.Indication.TheVariants as indications
use Rattle.end_rules.specs.Cases.{calc}
use Rattle.end_rules.specs.Messages.{Message, Unread}
use Rattle.end_rules.specs.State.{Calls, bare_set}
use Rattle.bare_end.specs.end_wire.Bare.{bare_message}
use Rattle.run_laws.specs.Outcomes.{Invocation}

-- add is invoked at A, with its octets in one carry; B answers it, and its outcome comes in the next
abbrev pub one_answered : List Entry
one_answered =
    entries.Call A (the_calls.Invoke 0 0 None None) (Ok (Some (pos 1)))
    ∷ entries.Carry A None (record { octets = 1 ∷ 2 ∷ []; shown = indications.Invoked (pos 1) 0 None None ∷ [] })
    ∷ entries.Call B (the_calls.Answer (pos 1) None) (Ok None)
    ∷ entries.Carry B None (record { octets = 3 ∷ []; shown = indications.Result (pos 1) None ∷ [] }) ∷ []

abbrev pub the_first : Invocation
the_first = record { id = pos 1; operation = 0; argument = None; linked = None }

-- nothing is open; add is open of this end's own; add is open of the peer's
abbrev pub nothing_open : Calls
nothing_open = record { opens = []; made = 0 }

abbrev pub own_add : Calls
own_add = record { opens = record { own = true; id = pos 1; operation = 0; context = 0; parent = None } ∷ []; made = 1 }

abbrev pub peer_add : Calls
peer_add = record { opens = record { own = false; id = pos 1; operation = 0; context = 0; parent = None } ∷ []; made = 0 }

abbrev pub a_result : Option Apdu
a_result = Some (apdus.Result (pos 1) None)

-- an invocation with this link and code
abbrev pub invoking : Option ℤ → ℕ → Option Apdu
invoking linked code = Some (apdus.Invoke (pos 1) linked (Local (pos code)) None)

abbrev pub a_reject : Option Apdu
a_reject = Some (apdus.Reject (Some (pos 1)) (record { kind = problems.Invoke; number = pos 1 }))

-- a message of two octets, and one of three
abbrev pub of_two : Message
of_two = bare_message (bare_set calc) (Unread (5 ∷ 0 ∷ []))

abbrev pub of_three : Message
of_three = bare_message (bare_set calc) (Unread (1 ∷ 1 ∷ 0 ∷ []))
