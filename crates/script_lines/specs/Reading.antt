-- Reading a line from the left: a value and what follows it, or how the first faulty field breaks the grammar.
use Rattle.std.specs.Prelude.{◌≡◌, Option, None, Some, Result, Ok, Err}
use Rattle.script_lines.specs.declared.fault.ScriptKind.{ScriptKind}
use Rattle.script_lines.specs.declared.line_fault.ScriptLineFault.{ScriptLineFault}
use Rattle.script_lines.specs.declared.line_fault.ScriptLineFault.TheVariants as faults

abbrev pub Reading : Type 0 → Type 0
Reading A = Result A ScriptKind

infixl 10 ◌>>=◌
abbrev pub ◌>>=◌ : {A B : Type 0} → Reading A → (A → Reading B) → Reading B
(Ok x) >>= f = f x
(Err e) >>= f = Err e

-- the value, or this kind of fault where there is none
abbrev pub or_kind : {A : Type 0} → ScriptKind → Option A → Reading A
or_kind kind None = Err kind
or_kind kind (Some x) = Ok x

-- What a function returned, seen by view, is what reading gives, unless memory ran out.
abbrev pub FailsWith : {Y : Type 0} → ScriptLineFault → Reading Y → Type 0
FailsWith (faults.Kind kind) read = read ≡ Err kind
FailsWith faults.NoMemory read = Unit {0}

abbrev pub Gives : {X Y : Type 0} → (X → Y) → Result X ScriptLineFault → Reading Y → Type 0
Gives view (Ok x) read = read ≡ Ok (view x)
Gives view (Err e) read = FailsWith e read
