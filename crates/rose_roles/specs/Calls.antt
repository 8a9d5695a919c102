-- What an end keeps of open invocations: the forest of their keys, and for each end the operation and the context of
-- each. Together they are the list of open invocations in order of opening.
use Rattle.std.specs.Prelude.{◌≡◌, ℕ, ℤ, Bool, true, false, not, List, [], ◌∷◌, Option, Some, None, is_some, Result, OnErr, if◌then◌else◌}
use Rattle.std.specs.Ordering.{int_cmp}
use Rattle.std.specs.Map.{lookup}
use Rattle.std.specs.BTreeMap.{is_at}
use Rattle.linked_ops.specs.declared.key.Key.{Key}
use Rattle.linked_ops.specs.Entries.{Entry, is_open}
use Rattle.end_wire.specs.end_rules.State as ends
use Rattle.rose_roles.specs.declared.invoked_with.InvokedWith.{InvokedWith}

-- by rising identifier, each once
abbrev pub Kept : Type 0
Kept = List (ℤ × InvokedWith)

-- what is called under an identifier
abbrev pub called : ℤ → Kept → Option InvokedWith
called id kept = lookup (is_at (int_cmp id)) kept

-- the own invocations, and how many were made
pub record Invoking : Type 0 where
  pub kept : Kept
  pub made : ℕ

-- the peer's invocations, and the context on which the next APDU comes
pub record Performing : Type 0 where
  pub kept : Kept
  pub context : ℕ

abbrev pub key_of : Bool → ℤ → Key
key_of own id = record { own = own; id = id }

-- The keys of one end in the forest are its open invocations.
pub record AreOpen (own : Bool) (forest : List Entry) (kept : Kept) : Type 0 where
  pub each : (id : ℤ) → is_open (key_of own id) forest ≡ is_some (called id kept)

-- The keys of one end in the forest are its open invocations afterwards, and those of the other end are its open
-- invocations where they were before.
pub record KeepsOpen (own : Bool) (before after : List Entry) (kept : Kept) : Type 0 where
  pub these : AreOpen own after kept
  pub others : (others : Kept) → AreOpen (not own) before others → AreOpen (not own) after others

-- What a step of the end that invokes keeps: its keys, and both as they were where the step fails.
pub record InvokerKeeps {T E : Type 0} (before after : List Entry) (old new : Invoking) (answer : Result T E) : Type 0 where
  pub keys : KeepsOpen true before after new.kept
  pub err : OnErr answer ((new ≡ old) × (after ≡ before))

-- What a step of the end that performs keeps: the context of the next APDU, and its keys.
pub record PerformerKeeps (before after : List Entry) (old new : Performing) : Type 0 where
  pub context : new.context ≡ old.context
  pub keys : KeepsOpen false before after new.kept

-- ---- the open invocations of both ends, in order of opening

abbrev pub side : Bool → Kept → Kept → Kept
side own invoked performed = if own then invoked else performed

abbrev pub operation_or_none : Option InvokedWith → ℕ
operation_or_none None = 0
operation_or_none (Some c) = c.operation

abbrev pub context_or_none : Option InvokedWith → ℕ
context_or_none None = 0
context_or_none (Some c) = c.context

abbrev pub differ : Bool → Bool → Bool
differ own other = if own then not other else other

-- a parent is of the other end
abbrev pub parent_in : Bool → Option Key → Option ℤ
parent_in own None = None
parent_in own (Some above) = if differ own above.own then Some above.id else None

abbrev pub open_call : Kept → Kept → Entry → ends.OpenCall
open_call invoked performed e =
    let c = called e.0.id (side e.0.own invoked performed) in
    record { own = e.0.own; id = e.0.id; operation = operation_or_none c; context = context_or_none c; parent = parent_in e.0.own e.1 }

abbrev pub open_calls_in : List Entry → Kept → Kept → List ends.OpenCall
open_calls_in [] invoked performed = []
open_calls_in (e ∷ es) invoked performed = open_call invoked performed e ∷ open_calls_in es invoked performed

-- as the rules of one end see them
abbrev pub calls_of : List Entry → Invoking → Kept → ends.Calls
calls_of forest invoking performed = record { opens = open_calls_in forest invoking.kept performed; made = invoking.made }
