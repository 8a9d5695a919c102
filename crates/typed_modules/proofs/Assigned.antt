-- The rows of a module's assignments are typed.
use Rattle.std.proofs.Common.{◌≡◌, ℕ, ◌+◌, List, [], ◌∷◌, Option, None, Some, subst}
use Rattle.notation_tokens.specs.declared.token.Located.{Located}
use Rattle.operation_notation.specs.declared.module.Assignment.{Assignment}
use Rattle.operation_notation.specs.declared.module.Assigned.{Assigned}
use Rattle.operation_notation.specs.declared.module.Assigned.TheVariants as bodies
use Rattle.operation_notation.specs.declared.module.ErrText.{ErrText}
use Rattle.operation_notation.specs.declared.module.ModuleText.{ModuleText}
use Rattle.operation_notation.specs.declared.module.OpText.{OpText}
use Rattle.stub_tables.specs.declared.tables.Tables.{Tables}
use Rattle.module_compiler.specs.Scope.{Ground, behind}
use Rattle.module_compiler.specs.Numbering.{◌>>=◌, give, row_behind, type_row, use_of}
use Rattle.module_compiler.specs.ModuleTables.{code_of, known_or_none, operation_of, error_of, with_operation, with_error, body_of, assignment_of, walk_all, ground_of, start, whole, whole_of}
use Rattle.module_compiler.specs.Tables.{AreTablesOf}
use Rattle.typed_modules.proofs.TypedRows.{AreTyped}
use Rattle.typed_modules.proofs.Numbers.{Typed, Keeps, keeps_then, keeps_give, keeps_none, keeps_behind, keeps_type, keeps_use}

keeps_known : {A : Type 0} (o : Option A) → Keeps (known_or_none o)
keeps_known {A = A} None = keeps_none A
keeps_known {A = A} (Some a) = keeps_give a

-- the numbers of the errors and of the linked operations add no row
keeps_numbers : {A : Type 0} (errors linked : Option (List ℕ)) (row : List ℕ → List ℕ → A) → Keeps (known_or_none errors >>= λ es. known_or_none linked >>= λ ls. give (row es ls))
keeps_numbers errors linked row =
    keeps_then (known_or_none errors) _ (keeps_known errors) (λ es. keeps_then (known_or_none linked) _ (keeps_known linked) (λ ls. keeps_give (row es ls)))

keeps_operation : (scope : Ground) (name : Located) (o : OpText) → Keeps (operation_of scope name o)
unfolding operation_of
keeps_operation scope name o =
    keeps_then (use_of scope o.argument) _ (keeps_use scope o.argument) (λ argument.
    keeps_then (use_of scope o.result) _ (keeps_use scope o.result) (λ result.
    keeps_then (known_or_none (code_of o.code)) _ (keeps_known (code_of o.code)) (λ code.
    keeps_numbers _ _ (λ errors linked. record { name = name.text; code = code; argument = argument; result = result; returns = o.returns; always = o.always; errors = errors; linked = linked }))))

keeps_error : (scope : Ground) (name : Located) (e : ErrText) → Keeps (error_of scope name e)
unfolding error_of
keeps_error scope name e =
    keeps_then (use_of scope e.parameter) _ (keeps_use scope e.parameter) (λ parameter.
    keeps_then (known_or_none (code_of e.code)) _ (keeps_known (code_of e.code)) (λ code.
    keeps_give _))

keeps_body : (scope : Ground) (place : ℕ) (made : _) (name : Located) (body : Assigned) → Keeps (body_of scope place made name body)
keeps_body scope place made name (bodies.Typed of) =
    keeps_then (row_behind scope (type_row scope) (behind scope.assignments place)) (λ id. give made) (keeps_behind (type_row scope) (keeps_type scope) scope (behind scope.assignments place)) (λ id. keeps_give made)
keeps_body scope place made name (bodies.Operation o) =
    keeps_then (operation_of scope name o) (λ row. give (with_operation made row)) (keeps_operation scope name o) (λ row. keeps_give (with_operation made row))
keeps_body scope place made name (bodies.Error e) =
    keeps_then (error_of scope name e) (λ row. give (with_error made row)) (keeps_error scope name e) (λ row. keeps_give (with_error made row))

keeps_assignment : (scope : Ground) (place : ℕ) (made : _) (a : Assignment) → Keeps (assignment_of scope place made a)
unfolding assignment_of
keeps_assignment scope place made a = keeps_body scope place made a.name a.body

keeps_all : (scope : Ground) (place : ℕ) (made : _) (all : List Assignment) → Keeps (walk_all scope place made all)
unfolding walk_all
keeps_all scope place made [] = keeps_give made
keeps_all scope place made (a ∷ more) =
    keeps_then (assignment_of scope place made a) (λ now. walk_all scope (place + 1) now more) (keeps_assignment scope place made a) (λ now. keeps_all scope (place + 1) now more)

-- what there is has this
abbrev Holds : {W : Type 0} → (W → Type 0) → Option W → Type 0
Holds P None = Unit {0}
Holds P (Some w) = P w

by_option : {X : Type 0} (Q : Option X → Type 0) → Q None → ((x : X) → Q (Some x)) → (o : Option X) → Q o
by_option Q n s None = n
by_option Q n s (Some x) = s x

held : {W : Type 0} (P : W → Type 0) (o : Option W) (w : W) → Holds P o → o ≡ Some w → P w
held P None w h e = absurd (let no : ⊥ = cc in no)
held P (Some v) w h e = let same : v ≡ w = cc in subst P same h

typed_whole : (o : _) → Typed o → Holds (λ w. AreTyped w.types) (whole o)
typed_whole None t = tt
typed_whole (Some p) t = t

typed_ground : (scope : Ground) (w : _) → whole_of scope ≡ Some w → AreTyped w.types
unfolding whole_of
typed_ground scope w e =
    let walked = walk_all scope 0 (record { operations = []; errors = [] }) scope.assignments (start scope.assignments) in
    held (λ v. AreTyped v.types) (whole walked) w (typed_whole walked ((keeps_all scope 0 (record { operations = []; errors = [] }) scope.assignments).each (start scope.assignments) tt)) e

pub typed_text : (m : ModuleText) (tables : Tables) → AreTablesOf m tables → AreTyped tables.types
typed_text m tables are = typed_ground (ground_of m) _ are.rows
