-- Invocations and outcomes as a transcript tells them: what each end invoked and answered, and what it was told of the other
-- (X.880 8.2 to 8.4).
use Rattle.std.specs.Prelude.{◌≡◌, ◌≢◌, ℕ, ℤ, List, [], ◌∷◌, ◌++◌, flat_map, Bool, true, false, ◌&&◌, if◌then◌else◌, Option, Some, None, Ok}
use Rattle.std.specs.List.{AllByRecursion}
use Rattle.osi_base.specs.declared.layer_words.Side.{Side}
use Rattle.osi_base.specs.declared.layer_words.Problem.{Problem}
use Rattle.asn1_types.specs.declared.value.Val.{Val}
use Rattle.end_rules.specs.Members.{IsIn}
use Rattle.dialogue.specs.Sides.{other}
use Rattle.stub_tables.specs.declared.tables.Tables.{Tables}
use Rattle.stub_tables.specs.declared.operation.Operation.{Operation}
use Rattle.stub_tables.specs.declared.operation.ErrorRow.{ErrorRow}
use Rattle.stub_tables.specs.Codes.{is_error_of}
use Rattle.stub_tables.specs.Lookup.{operation_at, error_at}
use Rattle.stub_tables.specs.Uses.{is_carried}
use Rattle.dialogue.specs.declared.call.Call.{Call}
use Rattle.dialogue.specs.declared.call.Call.TheVariants as the_calls
use Rattle.dialogue.specs.declared.event.Entry.{Entry}
use Rattle.dialogue.specs.declared.event.Entry.TheVariants as entries
use Rattle.dialogue.specs.declared.indication.Indication.{Indication}
use Rattle.dialogue.specs.declared.indication.Indication.TheVariants as indications
use Rattle.end_rules.specs.Invoking.{Reply, is_linked_to}
use Rattle.end_rules.specs.Hearing.{is_of_invocation}
use Rattle.end_rules.specs.World.{is_side}
use Rattle.run_laws.specs.Showing.{indications_at}

-- an invocation: its identifier, its operation and argument, and the invocation to which it is linked
pub record Invocation : Type 0 where
  pub id : ℤ
  pub operation : ℕ
  pub argument : Option Val
  pub linked : Option ℤ

-- an outcome: a result, an error with its place, or a reject of the invocation
pub data ToldOutcome : Type 0 where
  returned : ℤ → Option Val → ToldOutcome
  failed : ℤ → ℕ → Option Val → ToldOutcome
  rejected : ℤ → Problem → ToldOutcome

abbrev pub id_of : ToldOutcome → ℤ
id_of (returned id value) = id
id_of (failed id place parameter) = id
id_of (rejected id problem) = id

-- ---- what an end invoked and answered: the calls that it accepted

abbrev pub invoked_by : Call → Reply → List Invocation
invoked_by (the_calls.Invoke context operation argument linked) (Ok (Some id)) = record { id = id; operation = operation; argument = argument; linked = linked } ∷ []
invoked_by _ _ = []

abbrev pub answered_by : Call → Reply → List ToldOutcome
answered_by (the_calls.Answer id value) (Ok answer) = returned id value ∷ []
answered_by (the_calls.Refuse id place parameter) (Ok answer) = failed id place parameter ∷ []
answered_by _ _ = []

abbrev pub called_at : {X : Type 0} → (Call → Reply → List X) → Side → Entry → List X
called_at tells side (entries.Call from call answer) = if is_side side from then tells call answer else []
called_at tells side (entries.Carry from most carried) = []
called_at tells side entries.Break = []

abbrev pub all_called : {X : Type 0} → (Call → Reply → List X) → Side → List Entry → List X
all_called tells side [] = []
all_called tells side (e ∷ es) = called_at tells side e ++ all_called tells side es

abbrev pub invocations : Side → List Entry → List Invocation
invocations side told = all_called invoked_by side told

abbrev pub answers : Side → List Entry → List ToldOutcome
answers side told = all_called answered_by side told

-- ---- what an end was told

abbrev pub invocation_in : Indication → List Invocation
invocation_in (indications.Invoked id place linked argument) = record { id = id; operation = place; argument = argument; linked = linked } ∷ []
invocation_in _ = []

abbrev pub outcome_in : Indication → List ToldOutcome
outcome_in (indications.Result id value) = returned id value ∷ []
outcome_in (indications.Error id place parameter) = failed id place parameter ∷ []
outcome_in (indications.Rejected id problem) = rejected id problem ∷ []
outcome_in _ = []

abbrev pub told_invocations : Side → List Entry → List Invocation
told_invocations side told = flat_map invocation_in (indications_at side told)

abbrev pub outcomes : Side → List Entry → List ToldOutcome
outcomes side told = flat_map outcome_in (indications_at side told)

-- ---- which outcomes an operation has

-- a result where it returns one, with a value of its result type (X.880 8.2.3)
abbrev pub has_result : Tables → Operation → Option Val → Bool
has_result tables operation value = operation.returns && is_carried tables.types operation.result value

-- an error of its own, with a parameter of the error's type (X.880 8.2.5)
abbrev pub takes_parameter : Tables → Option ErrorRow → Option Val → Bool
takes_parameter tables None parameter = false
takes_parameter tables (Some error) parameter = is_carried tables.types error.parameter parameter

abbrev pub has_error : Tables → Operation → ℕ → Option Val → Bool
has_error tables operation place parameter = is_error_of operation place && takes_parameter tables (error_at tables place) parameter

-- and a reject of the invocation itself
abbrev pub has_outcome : Tables → Operation → ToldOutcome → Bool
has_outcome tables operation (returned id value) = has_result tables operation value
has_outcome tables operation (failed id place parameter) = has_error tables operation place parameter
has_outcome tables operation (rejected id problem) = is_of_invocation problem.kind

-- ---- one outcome

-- it is the outcome of one of these invocations, and one that its operation has
pub record IsAllowed (tables : Tables) (made : List Invocation) (outcome : ToldOutcome) : Type 0 where
  pub invocation : Invocation
  pub operation : Operation
  pub is_made : IsIn invocation made
  pub is_its : id_of outcome ≡ invocation.id
  pub is_there : operation_at tables invocation.operation ≡ Some operation
  pub has_it : has_outcome tables operation outcome ≡ true

-- a result or an error is one of these answers; a reject is made by the end itself
abbrev pub IsAnswer : List ToldOutcome → ToldOutcome → Type 0
IsAnswer given (returned id value) = IsIn (returned id value) given
IsAnswer given (failed id place parameter) = IsIn (failed id place parameter) given
IsAnswer given (rejected id problem) = Unit {0}

-- no two are of one invocation
abbrev pub Differ : List ToldOutcome → Type 0
Differ [] = Unit {0}
Differ (o ∷ os) = AllByRecursion (λ (p : ToldOutcome). id_of p ≢ id_of o) os × Differ os

abbrev pub AreOnce : List Invocation → Type 0
AreOnce [] = Unit {0}
AreOnce (i ∷ is) = AllByRecursion (λ (j : Invocation). j.id ≢ i.id) is × AreOnce is

-- a linked invocation is linked to one of these, whose operation may have it linked (X.880 8.2.6)
pub record IsLinked (tables : Tables) (made : List Invocation) (linked : ℤ) (place : ℕ) : Type 0 where
  pub parent : Invocation
  pub is_made : IsIn parent made
  pub is_its : parent.id ≡ linked
  pub may_link : is_linked_to (operation_at tables parent.operation) place ≡ true

abbrev pub IsLinkAllowed : Tables → List Invocation → Invocation → Type 0
IsLinkAllowed tables made invocation = on_link invocation.linked
  where
    on_link : Option ℤ → Type 0
    on_link None = Unit {0}
    on_link (Some linked) = IsLinked tables made linked invocation.operation

pub record OneOutcome (tables : Tables) (told : List Entry) : Type 0 where
  -- each invocation that an end is told of is one of the other end's, and comes once
  pub invoked : (side : Side) → AllByRecursion (λ (i : Invocation). IsIn i (invocations (other side) told)) (told_invocations side told)
  pub invoked_once : (side : Side) → AreOnce (told_invocations side told)
  pub linked : (side : Side) → AllByRecursion (IsLinkAllowed tables (invocations side told)) (told_invocations side told)
  -- no invocation has two outcomes
  pub once : (side : Side) → Differ (outcomes side told)
  -- each is one of an own invocation, whose operation has it, and the other end's answer
  pub allowed : (side : Side) → AllByRecursion (IsAllowed tables (invocations side told)) (outcomes side told)
  pub answered : (side : Side) → AllByRecursion (IsAnswer (answers (other side) told)) (outcomes side told)
