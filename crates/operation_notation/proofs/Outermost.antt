-- The grammar of modules in which types stand in one another at most 256 levels deep.
use Rattle.std.proofs.Common.{ℕ, List}
use Rattle.notation_tokens.specs.Lexeme.{Lexeme}
use Rattle.operation_notation.specs.Tree.{TypeTree}
use Rattle.operation_notation.specs.GrammarTypes.{narrow}
use Rattle.operation_notation.specs.GrammarTypes as types
use Rattle.operation_notation.specs.GrammarModules as grammar
use Rattle.operation_notation.specs.declared.module.UseText.{UseText}
use Rattle.operation_notation.specs.declared.module.OpText.{OpText}
use Rattle.operation_notation.specs.declared.module.ErrText.{ErrText}
use Rattle.operation_notation.specs.declared.bodies.Signature.{Signature}
use Rattle.operation_notation.specs.declared.module.Assigned.{Assigned}
use Rattle.operation_notation.specs.declared.module.Assignment.{Assignment}
use Rattle.operation_notation.specs.declared.module.ModuleText.{ModuleText}

abbrev pub OuterType : List Lexeme → TypeTree → Type 0
OuterType = types.OuterType narrow

abbrev pub Use : List ℕ → List Lexeme → UseText → Type 0
Use = grammar.Use narrow

abbrev pub SignatureSpelled : List Lexeme → Signature → Type 0
SignatureSpelled = grammar.SignatureSpelled narrow

abbrev pub Operation : List Lexeme → OpText → Type 0
Operation = grammar.Operation narrow

abbrev pub Error : List Lexeme → ErrText → Type 0
Error = grammar.Error narrow

abbrev pub Typed : List Lexeme → Assignment → Type 0
Typed = grammar.Typed narrow

abbrev pub OperationBody : List Lexeme → Assigned → Type 0
OperationBody = grammar.OperationBody narrow

abbrev pub ErrorBody : List Lexeme → Assigned → Type 0
ErrorBody = grammar.ErrorBody narrow

abbrev pub Valued : List Lexeme → Assignment → Type 0
Valued = grammar.Valued narrow

abbrev pub Assign : List Lexeme → Assignment → Type 0
Assign = grammar.Assign narrow

abbrev pub Module : List Lexeme → ModuleText → Type 0
Module = grammar.Module narrow
