-- How an end acts in a run of two ends.
use Rattle.std.specs.Prelude.{◌≡◌, ℤ, ℕ, List, drop, Option, Result}
use Rattle.dialogue.specs.declared.call.Call.{Call}
use Rattle.dialogue.specs.declared.call.CallRefusal.{CallRefusal}
use Rattle.dialogue.specs.declared.indication.Indication.{Indication}

-- what a call is answered: an identifier, nothing, or why it is refused
abbrev pub CallAnswer : Type 0
CallAnswer = Result (Option ℤ) CallRefusal

-- What waits in the end, the end with other octets in place of those, and what a call, octets that come and a break make of it.
pub record Conduct (E : Type 0) : Type 1 where
  pub waiting : E → List ℕ
  pub with_waiting : List ℕ → E → E
  pub answered : E → E → Call → CallAnswer → Type 0
  pub fed : E → E → List ℕ → List Indication → Type 0
  pub broke : E → E → Type 0

-- the end is this other one, but for what waits
abbrev pub IsBut : {E : Type 0} → Conduct E → E → E → Type 0
IsBut acts e other = e ≡ acts.with_waiting (acts.waiting e) other

-- so many octets less wait
abbrev pub given_out : {E : Type 0} → Conduct E → ℕ → E → E
given_out acts n e = acts.with_waiting (drop n (acts.waiting e)) e
