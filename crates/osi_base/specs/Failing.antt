-- Calls of an object in memory, of which some are to fail.
use Rattle.std.specs.Prelude.{◌≡◌, ◌+◌, min, Contains}
use Rattle.osi_base.specs.declared.failing_calls.FailingCalls.{FailingCalls}
use Rattle.osi_base.specs.Limits.{last_count}

-- the next call is one that is to fail
abbrev pub IsDue : FailingCalls → Type 0
IsDue calls = Contains calls.numbers.items calls.made

-- a call was made that wasn't to fail
pub record CallPasses (old new : FailingCalls) : Type 0 where
  pub is_spared : ¬ (IsDue old)
  pub same_numbers : new.numbers.items ≡ old.numbers.items
  pub one_more : new.made ≡ min (old.made + 1) last_count
  pub no_fault : new.faults ≡ old.faults

-- a call was made that was to fail, and was counted as a fault
pub record CallFails (old new : FailingCalls) : Type 0 where
  pub is_due : IsDue old
  pub same_numbers : new.numbers.items ≡ old.numbers.items
  pub one_more : new.made ≡ min (old.made + 1) last_count
  pub one_fault : new.faults ≡ min (old.faults + 1) last_count
