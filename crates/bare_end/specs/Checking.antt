-- What a call that may be made sends, and why one that may not is refused.
use Rattle.std.specs.Prelude.{◌≡◌, ℕ, ◌<◌, ℤ, true, false, List, length, Option, Some, None, Ok, Err}
use Rattle.osi_base.specs.declared.syntax.Syntax.TheVariants.{Ber}
use Rattle.osi_base.specs.Limits.{last_invocation, most_open}
use Rattle.stub_tables.specs.declared.apdu.Apdu.{Apdu}
use Rattle.stub_tables.specs.declared.operation.Operation.{Operation}
use Rattle.stub_tables.specs.Codes.{is_silent}
use Rattle.dialogue.specs.declared.call.CallRefusal.{CallRefusal}
use Rattle.dialogue.specs.declared.call.CallRefusal.TheVariants as refusals
use Rattle.end_rules.specs.Base.{Base}
use Rattle.end_rules.specs.State.{Calls, opens_of}
use Rattle.end_rules.specs.Invoking.{Reply, is_too_long, is_memory}
use Rattle.bare_end.specs.declared.sending.Checked as checkeds
use Rattle.bare_end.specs.declared.sending.Checked.TheVariants as checked

-- the octets of an APDU that is short in each of the three syntaxes
abbrev pub IsShortText : Base → Apdu → Option (List ℕ) → Type 0
IsShortText base apdu None = is_too_long base apdu ≡ true
IsShortText base apdu (Some text) = (is_too_long base apdu ≡ false) × (text ≡ base.spellings.apdu Ber apdu)

-- A call that can be made gets this answer and sends this text; one that can't is refused.
abbrev pub IsChecked : Reply → Option ℤ → List ℕ → checkeds.Checked → Type 0
IsChecked can answer text (checked.Refused refusal) = (can ≡ Err refusal) × (is_memory (Err refusal) ≡ false)
IsChecked can answer text (checked.Sends octets) = (can ≡ Ok answer) × (octets ≡ text)

-- the end has a number for one more invocation of the operation, and room where it isn't silent
pub record HasRoom (calls : Calls) (operation : Operation) : Type 0 where
  pub number : calls.made < last_invocation
  pub room : is_silent operation ≡ false → length (opens_of true calls.opens) < most_open

abbrev pub IsFree : Calls → Operation → checkeds.Checked → Type 0
IsFree calls operation (checked.Refused refusal) = Unit {0}
IsFree calls operation (checked.Sends octets) = HasRoom calls operation

-- no number, or no room
abbrev pub IsNumbered : Calls → Operation → Option CallRefusal → Reply → Reply → Type 0
IsNumbered calls operation None can go = HasRoom calls operation × (can ≡ go)
IsNumbered calls operation (Some refusal) can go = (can ≡ Err refusal) × (is_memory (Err refusal) ≡ false)
