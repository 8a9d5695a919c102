-- What a text is as a module, or its first fault.
use Rattle.std.specs.Prelude.{◌≡◌, ◌≤◌, ℕ, List, [], ◌∷◌, length, nat_lt, None, unwrap_or, Result, Ok, Err, if◌then◌else◌}
use Rattle.osi_base.specs.Limits.{most_module_octets}
use Rattle.notation_tokens.specs.Lexeme.{Lexeme, lexemes}
use Rattle.notation_tokens.specs.Words.{place}
use Rattle.notation_tokens.specs.Lexing.{lexed_of}
use Rattle.notation_tokens.specs.Texts.{fault_at, unless_stopped, too_long}
use Rattle.operation_notation.specs.Reading.{Read}
use Rattle.operation_notation.specs.GrammarTypes.{narrow}
use Rattle.operation_notation.specs.GrammarModules.{Module}
use Rattle.operation_notation.specs.ReadingModules.{whole_at}
use Rattle.notation_tokens.specs.declared.faults.NotationFault.{NotationFault}
use Rattle.notation_tokens.specs.declared.faults.NotationKind.{NotationKind}
use Rattle.notation_tokens.specs.declared.token_cutting.Lexed.{Lexed}
use Rattle.operation_notation.specs.declared.module.ModuleText.{ModuleText}

-- A text reads as a module: within the limits it is cut to its end, and the grammar derives its tokens.
pub record ReadsAsModule (text : List ℕ) (m : ModuleText) : Type 0 where
  pub fits : length text ≤ most_module_octets
  pub ends : (lexed_of text).stop ≡ None
  pub spelled : Module narrow (lexemes text (lexed_of text).tokens) m

-- where reading stops at a token, that is the fault; where it comes to the tokens' end, it is what cutting stopped for, or the text's end
abbrev pub refused : Lexed → List Lexeme → NotationKind → Result ModuleText NotationFault
refused l [] kind = Err (fault_at l.place (unwrap_or l.stop kind))
refused l (t ∷ ts) kind = Err (fault_at (place t) kind)

abbrev pub verdict : Lexed → Read ModuleText → Result ModuleText NotationFault
verdict l (Ok x) = unless_stopped l.stop l.place x.0
verdict l (Err e) = refused l e.rest e.kind

-- the module of a text, or the text's first fault
unfoldable pub module_of : List ℕ → Result ModuleText NotationFault
module_of text = if nat_lt most_module_octets (length text) then too_long else verdict (lexed_of text) (whole_at narrow (lexemes text (lexed_of text).tokens))
