-- What a text is as tokens, or its first fault.
use Rattle.std.specs.Prelude.{◌≡◌, List, length, nat_lt, Option, Some, None, Result, Ok, Err, ℕ, if◌then◌else◌}
use Rattle.osi_base.specs.Limits.{most_module_octets}
use Rattle.notation_tokens.specs.Lexing.{lexed_of}
use Rattle.notation_tokens.specs.declared.token.Place.{Place}
use Rattle.notation_tokens.specs.declared.faults.NotationFault.{NotationFault}
use Rattle.notation_tokens.specs.declared.faults.NotationFault.TheVariants as faults
use Rattle.notation_tokens.specs.declared.faults.NotationKind.{NotationKind}
use Rattle.notation_tokens.specs.declared.faults.NotationKind.TheVariants.{TextTooLong}
use Rattle.notation_tokens.specs.declared.token.Token.{Token}

-- a function's answer is the one that is defined, unless memory ran out
abbrev pub Answers : {A : Type 0} → Result A NotationFault → Result A NotationFault → Type 0
Answers (Ok a) answer = answer ≡ Ok a
Answers (Err faults.NoMemory) answer = Unit {0}
Answers (Err (faults.At line column kind)) answer = answer ≡ Err (faults.At line column kind)

abbrev pub fault_at : Place → NotationKind → NotationFault
fault_at p kind = faults.At p.line p.column kind

-- a value, where cutting came to the text's end
abbrev pub unless_stopped : {A : Type 0} → Option NotationKind → Place → A → Result A NotationFault
unless_stopped None p a = Ok a
unless_stopped (Some kind) p a = Err (fault_at p kind)

-- more octets than a text may have
abbrev pub too_long : {A : Type 0} → Result A NotationFault
too_long = Err (faults.At 1 1 TextTooLong)

-- the tokens of a text, or its first fault
unfoldable pub tokens_of : List ℕ → Result (List Token) NotationFault
tokens_of text = if nat_lt most_module_octets (length text) then too_long else unless_stopped (lexed_of text).stop (lexed_of text).place (lexed_of text).tokens
