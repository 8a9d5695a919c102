-- A module to begin with: one operation, which adds to a number and gives the sum.
use Rattle.std.specs.Prelude.{ℕ, pos, true, false, [], ◌∷◌, None, Some, codes}
use Rattle.operation_notation.specs.Tree.{type_tree, integer}
use Rattle.operation_notation.specs.declared.module.Assigned.TheVariants as bodies
use Rattle.operation_notation.specs.declared.module.ModuleText.{ModuleText}
use Rattle.operation_notation.specs.declared.module.OpText.{OpText}
use Rattle.operation_notation.specs.declared.module.UseText.{UseText}

-- `INTEGER` behind a word at a column of the second line
abbrev pub integer_at : ℕ → ℕ → UseText
integer_at column behind = record { line = 2; column = column; of = type_tree 2 behind None (integer None); optional = false }

abbrev pub add : OpText
add = record {
  argument = Some (integer_at 20 29);
  result = Some (integer_at 37 44);
  returns = true;
  always = true;
  errors = [];
  linked = [];
  code = Some (record { line = 2; column = 57; local = Some (pos 1); global = None });
}

-- One {2 999 7 4} DEFINITIONS ::= BEGIN
-- add OPERATION ::= {ARGUMENT INTEGER RESULT INTEGER CODE local:1}
-- END
abbrev pub one : ModuleText
one = record {
  name = record { line = 1; column = 1; text = codes "One" };
  name_oid = 2 ∷ 999 ∷ 7 ∷ 4 ∷ [];
  implicit = false;
  assignments = record { name = record { line = 2; column = 1; text = codes "add" }; body = bodies.Operation add } ∷ [];
}
