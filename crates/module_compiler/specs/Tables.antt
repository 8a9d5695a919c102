-- The tables of a module.
use Rattle.std.specs.Prelude.{◌≡◌, Some}
use Rattle.operation_notation.specs.declared.module.ModuleText.{ModuleText}
use Rattle.stub_tables.specs.declared.tables.Tables.{Tables}
use Rattle.module_compiler.specs.ModuleTables.{ground_of, whole_of}
use Rattle.module_compiler.specs.Refusals.{HasNoFault}

-- A module that has no fault has these tables: its name, its object identifier, and the rows, operations and errors of its assignments.
pub record AreTablesOf (m : ModuleText) (t : Tables) : Type 0 where
  pub no_fault : HasNoFault m
  pub name : t.name ≡ m.name.text
  pub name_oid : t.name_oid ≡ m.name_oid
  pub rows : whole_of (ground_of m) ≡ Some (record { types = t.types; operations = t.operations; errors = t.errors })
