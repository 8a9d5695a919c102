-- Invocations and outcomes as a transcript tells them (X.880 8.2 to 8.4): in bare mode each end is told of a beginning of
-- what the other end invoked and answered.
use Rattle.std.specs.Prelude.{◌≡◌, ℕ, ◌+◌, pos, List, [], ◌∷◌, flat_map}
use Rattle.std.specs.List.{AllByRecursion}
use Rattle.osi_base.specs.declared.layer_words.Side.{Side}
use Rattle.dialogue.specs.Sides.{other}
use Rattle.stub_tables.specs.declared.tables.Tables.{Tables}
use Rattle.dialogue.specs.declared.event.Entry.{Entry}
use Rattle.dialogue.specs.declared.indication.Indication.{Indication}
use Rattle.run_laws.specs.Outcomes.{Invocation, ToldOutcome, invocations, answers, invocation_in, outcome_in, told_invocations, outcomes, IsAllowed, Differ}
use Rattle.bare_duo.specs.Passing.{BeginsWith}

abbrev pub invocations_in : List Indication → List Invocation
invocations_in shown = flat_map invocation_in shown

abbrev pub outcomes_in : List Indication → List ToldOutcome
outcomes_in shown = flat_map outcome_in shown

-- the k-th invocation has the identifier k
abbrev pub AreNumbered : ℕ → List Invocation → Type 0
AreNumbered n [] = Unit {0}
AreNumbered n (i ∷ is) = (i.id ≡ pos (n + 1)) × AreNumbered (n + 1) is

pub record OneOutcome (tables : Tables) (told : List Entry) : Type 0 where
  -- each invocation that an end is told of is the other end's in its order, and comes once
  pub invoked : (side : Side) → BeginsWith (invocations side told) (told_invocations (other side) told)
  pub numbered : (side : Side) → AreNumbered 0 (invocations side told)
  -- each outcome that an end is told of is the other end's answer in its order
  pub answered : (side : Side) → BeginsWith (answers side told) (outcomes (other side) told)
  -- no invocation has two
  pub once : (side : Side) → Differ (outcomes side told)
  -- each is one of an own invocation, whose operation has it
  pub allowed : (side : Side) → AllByRecursion (IsAllowed tables (invocations side told)) (outcomes side told)
