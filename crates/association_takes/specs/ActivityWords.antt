-- Words of activities, and what an item invokes.
use Rattle.std.specs.Prelude.{ℤ, Bool, true, false, Option, Some, None}
use Rattle.stub_tables.specs.declared.apdu.Apdu.{Apdu}
use Rattle.stub_tables.specs.declared.apdu.Apdu.TheVariants as apdus
use Rattle.end_rules.specs.Messages.{ActivityWord, End}

abbrev pub is_end : ActivityWord → Bool
is_end (End number) = true
is_end _ = false

-- the identifier of an invocation
abbrev pub invocation_of : Apdu → Option ℤ
invocation_of (apdus.Invoke id linked code argument) = Some id
invocation_of _ = None
