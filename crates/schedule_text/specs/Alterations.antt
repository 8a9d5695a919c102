-- Alterations of the set of contexts, as fields: [add ID [as Oid] SYNTAX..].. [delete ID..]
use Rattle.std.specs.Prelude.{ℕ, zero, suc, if◌then◌else◌, List, [], ◌∷◌, ◌++◌, length, Ok, Err, codes}
use Rattle.osi_base.specs.declared.layer_words.Proposal.{Proposal}
use Rattle.stub_tables.specs.declared.tables.Tables.{Tables}
use Rattle.dialogue.specs.declared.call.Call.{Call}
use Rattle.dialogue.specs.declared.call.Call.TheVariants.{Alter}
use Rattle.script_lines.specs.declared.fault.ScriptKind.TheVariants.{BadField}
use Rattle.script_lines.specs.declared.syntax.EndsBefore.TheVariants.{AddOrDelete}
use Rattle.script_lines.specs.Reading.{Reading, ◌>>=◌}
use Rattle.script_lines.specs.Fields.{is_over, is_next, skip, number_at, if_over}
use Rattle.script_lines.specs.Syntaxes.{object_identifier_at, syntaxes_at}

-- the abstract syntax of an addition: the one behind `as`, or the module's
abbrev pub abstract_at : Tables → List ℕ → Reading (List ℕ × List ℕ)
abstract_at tables text = if is_next (codes "as") text then object_identifier_at BadField (skip text) else Ok (tables.name_oid, text)

-- behind the word `add`
unfoldable pub addition_at : Tables → List ℕ → Reading (Proposal × List ℕ)
addition_at tables text = do
  id ← number_at text
  name ← abstract_at tables id.1
  transfers ← syntaxes_at AddOrDelete name.1
  Ok (record { id = id.0; abstract_name = name.0; transfers = transfers.0 }, transfers.1)

abbrev pub then_addition : (List Proposal → List ℕ → Reading (List Proposal × List ℕ)) → List Proposal → Reading (Proposal × List ℕ) → Reading (List Proposal × List ℕ)
then_addition next ps read = read >>= λ p. next (ps ++ p.0 ∷ []) p.1

-- so many additions at most, behind those that were read
abbrev pub more_additions : Tables → ℕ → List Proposal → List ℕ → Reading (List Proposal × List ℕ)
more_additions tables zero ps text = Ok (ps, text)
more_additions tables (suc left) ps text =
    if is_next (codes "add") text then then_addition (more_additions tables left) ps (addition_at tables (skip text)) else Ok (ps, text)

abbrev pub additions_at : Tables → List ℕ → Reading (List Proposal × List ℕ)
additions_at tables text = more_additions tables (length text) [] text

abbrev pub then_number : (List ℕ → List ℕ → Reading (List ℕ × List ℕ)) → List ℕ → Reading (ℕ × List ℕ) → Reading (List ℕ × List ℕ)
then_number next ns read = read >>= λ n. next (ns ++ n.0 ∷ []) n.1

-- so many numbers at most, behind those that were read
abbrev pub more_numbers : ℕ → List ℕ → List ℕ → Reading (List ℕ × List ℕ)
more_numbers zero ns text = Ok (ns, text)
more_numbers (suc left) ns text = if is_over text then Ok (ns, text) else then_number (more_numbers left) ns (number_at text)

-- one or more
abbrev pub numbers_at : List ℕ → Reading (List ℕ × List ℕ)
numbers_at text = if is_over text then Err BadField else more_numbers (length text) [] text

abbrev pub deletions_at : List ℕ → Reading (List ℕ × List ℕ)
deletions_at text = if is_next (codes "delete") text then numbers_at (skip text) else Ok ([], text)

-- behind the word `alter`
unfoldable pub alter_at : Tables → List ℕ → Reading Call
alter_at tables text = do
  add ← additions_at tables text
  delete ← deletions_at add.1
  if_over (Alter add.0 delete.0) delete.1
