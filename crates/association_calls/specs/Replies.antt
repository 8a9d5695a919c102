-- Answers to calls where memory may be refused.
use Rattle.std.specs.Prelude.{◌≡◌, ℕ, ℤ, Option, Some, None, Result, Ok, Err}
use Rattle.stub_tables.specs.declared.apdu.Apdu.{Apdu}
use Rattle.dialogue.specs.declared.call.CallRefusal.{CallRefusal}
use Rattle.dialogue.specs.declared.call.CallRefusal.TheVariants.{NoMemory}
use Rattle.end_rules.specs.Invoking.{Reply}

-- the reply is this one, or memory was refused
abbrev pub Replies : Reply → Reply → Type 0
Replies can (Err NoMemory) = Unit {0}
Replies can (Err refusal) = can ≡ Err refusal
Replies can (Ok answer) = can ≡ Ok answer

-- a refusal that tells a count, or memory was refused
abbrev pub IsCounted : ℕ → (ℕ → CallRefusal) → CallRefusal → Type 0
IsCounted count refusal NoMemory = Unit {0}
IsCounted count refusal other = other ≡ refusal count

-- the APDU that goes, where the call may be made and is answered so; or the refusal
abbrev pub IsChecked : Reply → Option ℤ → Option Apdu → Result Apdu CallRefusal → Type 0
IsChecked can answer apdu (Ok checked) = (can ≡ Ok answer) × (apdu ≡ Some checked)
IsChecked can answer apdu (Err NoMemory) = Unit {0}
IsChecked can answer apdu (Err refusal) = can ≡ Err refusal

-- why a call is refused, or where it isn't what else is asked
abbrev pub IsRefusal : Reply → Reply → Option CallRefusal → Type 0
IsRefusal can go None = can ≡ go
IsRefusal can go (Some refusal) = can ≡ Err refusal
