-- Each row, and down the table: a fault of reading is one by the grammar, and the other way round.
use Rattle.std.proofs.Common.{ℕ, zero, suc, Bool, List, Option, Some, None}
use Rattle.std.specs.Prelude.{slice_get}
use Rattle.asn1_types.specs.declared.row.TypeRow.{TypeRow}
use Rattle.asn1_types.specs.declared.row.TypeRow.TheVariants as row
use Rattle.asn1_types.specs.Fits.{integer_fits, enumerated_fits, octets_fit, text_fits, object_id_fits, nothing_fits}
use Rattle.asn1_types.specs.Rows.{of_row, along}
use Rattle.asn1_types.specs.Defaults.{is_item}
use Rattle.asn1_types.specs.Value.{Value}
use Rattle.asn1_types.specs.Writing.{written}
use Rattle.ber_spelling.specs.Rules.{in_range}
use Rattle.packed_codec.specs.Laws.{packs_by}
use Rattle.packed_codec.specs.Numbers.{is_size}
use Rattle.packed_codec.specs.Reading.{Spot}
use Rattle.ber_spelling.specs.Rules.{object_id_rule}
use Rattle.packed_codec.specs.Rules.{Reader, dead, read_by, number_rule, any_size, at_most, octets_rule, text_rule}
use Rattle.packed_codec.specs.Writing.{Writer, counted, with_size, number_written, octets_written, text_written, object_id_written, nothing_written, write_by}
use Rattle.packed_codec.proofs.Contents.{integer_sized, enumerated_sized, octets_sized, text_sized, object_id_sized}
use Rattle.packed_codec.proofs.RowLaws.{along_found, along_only}
use Rattle.packed_codec.proofs.Spelled.{Found, Only}
use Rattle.packed_faults.specs.FirstFault.{RowFaultOr, FaultBy}
use Rattle.packed_faults.specs.Values.{Wrong, DeadFault, SpellWith, RowFault}
use Rattle.packed_faults.proofs.Several.{sequence_finds, sequence_tells, choice_finds, choice_tells, list_finds, list_tells, set_of_finds, set_of_tells}
use Rattle.packed_faults.proofs.Singles.{boolean_finds, boolean_tells, null_finds, null_tells, number_finds, number_tells, string_finds, string_tells, bits_finds, bits_tells, spell_right, spell_wrong, sized_same, counted_same}
use Rattle.packed_faults.proofs.Steps.{refused, refusal_is, Finds, Tells}

dead_finds : Finds dead DeadFault
dead_finds = record { finds = λ limit s f ne are here e. refusal_is {A = Value × Spot} s.place f e }

dead_tells : Tells dead DeadFault
dead_tells = record { tells = λ limit s f are lt most w. refused {A = Value × Spot} s.place f w }

module _ (spell : ℕ → Value → List ℕ) (test : ℕ → Value → Bool) (write : ℕ → Writer) (inner : ℕ → Reader) (W : ℕ → Wrong) where
  row_finds : ((n : ℕ) → Found (test n) (write n) (inner n)) → ((n : ℕ) → Finds (inner n) (W n)) → (r : TypeRow) → Finds (read_by spell inner r) (RowFault spell test write W r)
  row_finds found finds row.Boolean = boolean_finds
  row_finds found finds (row.Integer low high) =
      number_finds (number_rule (in_range low high)) (SpellWith with_size (integer_fits low high) number_written)
      (spell_right (integer_fits low high) number_written with_size is_size (number_rule (in_range low high)) (integer_sized low high) sized_same) (spell_wrong (integer_fits low high) number_written with_size is_size (number_rule (in_range low high)) (integer_sized low high) sized_same)
  row_finds found finds (row.Enumerated named) =
      number_finds (number_rule (is_item named)) (SpellWith with_size (enumerated_fits named) number_written)
      (spell_right (enumerated_fits named) number_written with_size is_size (number_rule (is_item named)) (enumerated_sized named) sized_same) (spell_wrong (enumerated_fits named) number_written with_size is_size (number_rule (is_item named)) (enumerated_sized named) sized_same)
  row_finds found finds row.Null = null_finds
  row_finds found finds (row.OctetString most) =
      string_finds (at_most most) octets_rule (SpellWith counted (octets_fit most) octets_written)
      (spell_right (octets_fit most) octets_written counted (at_most most) octets_rule (octets_sized most) counted_same) (spell_wrong (octets_fit most) octets_written counted (at_most most) octets_rule (octets_sized most) counted_same)
  row_finds found finds row.BitString = bits_finds
  row_finds found finds row.ObjectId =
      string_finds any_size object_id_rule (SpellWith counted object_id_fits object_id_written)
      (spell_right object_id_fits object_id_written counted any_size object_id_rule object_id_sized counted_same) (spell_wrong object_id_fits object_id_written counted any_size object_id_rule object_id_sized counted_same)
  row_finds found finds (row.Text kind) =
      string_finds any_size (text_rule kind) (SpellWith counted (text_fits kind) text_written)
      (spell_right (text_fits kind) text_written counted any_size (text_rule kind) (text_sized kind) counted_same) (spell_wrong (text_fits kind) text_written counted any_size (text_rule kind) (text_sized kind) counted_same)
  row_finds found finds (row.Sequence ps) = sequence_finds test write inner W found finds ps
  row_finds found finds (row.Set ps) = sequence_finds test write inner W found finds ps
  row_finds found finds (row.SequenceOf of) = list_finds (test of.0) (write of.0) (inner of.0) (W of.0) (found of.0) (finds of.0)
  row_finds found finds (row.SetOf of) = set_of_finds (test of.0) (write of.0) (inner of.0) (W of.0) (spell of.0) (found of.0) (finds of.0)
  row_finds found finds (row.Choice ps) = choice_finds test write inner W finds ps
  row_finds found finds (row.Tagged class number explicit of) = finds of.0
  row_finds found finds row.Any = dead_finds

  row_tells : ((n : ℕ) → Only (test n) (write n) (inner n)) → ((n : ℕ) → Tells (inner n) (W n)) → (r : TypeRow) → Tells (read_by spell inner r) (RowFault spell test write W r)
  row_tells only tells row.Boolean = boolean_tells
  row_tells only tells (row.Integer low high) =
      number_tells (number_rule (in_range low high)) (SpellWith with_size (integer_fits low high) number_written)
      (spell_right (integer_fits low high) number_written with_size is_size (number_rule (in_range low high)) (integer_sized low high) sized_same) (spell_wrong (integer_fits low high) number_written with_size is_size (number_rule (in_range low high)) (integer_sized low high) sized_same)
  row_tells only tells (row.Enumerated named) =
      number_tells (number_rule (is_item named)) (SpellWith with_size (enumerated_fits named) number_written)
      (spell_right (enumerated_fits named) number_written with_size is_size (number_rule (is_item named)) (enumerated_sized named) sized_same) (spell_wrong (enumerated_fits named) number_written with_size is_size (number_rule (is_item named)) (enumerated_sized named) sized_same)
  row_tells only tells row.Null = null_tells
  row_tells only tells (row.OctetString most) =
      string_tells (at_most most) octets_rule (SpellWith counted (octets_fit most) octets_written)
      (spell_right (octets_fit most) octets_written counted (at_most most) octets_rule (octets_sized most) counted_same) (spell_wrong (octets_fit most) octets_written counted (at_most most) octets_rule (octets_sized most) counted_same)
  row_tells only tells row.BitString = bits_tells
  row_tells only tells row.ObjectId =
      string_tells any_size object_id_rule (SpellWith counted object_id_fits object_id_written)
      (spell_right object_id_fits object_id_written counted any_size object_id_rule object_id_sized counted_same) (spell_wrong object_id_fits object_id_written counted any_size object_id_rule object_id_sized counted_same)
  row_tells only tells (row.Text kind) =
      string_tells any_size (text_rule kind) (SpellWith counted (text_fits kind) text_written)
      (spell_right (text_fits kind) text_written counted any_size (text_rule kind) (text_sized kind) counted_same) (spell_wrong (text_fits kind) text_written counted any_size (text_rule kind) (text_sized kind) counted_same)
  row_tells only tells (row.Sequence ps) = sequence_tells test write inner W only tells ps
  row_tells only tells (row.Set ps) = sequence_tells test write inner W only tells ps
  row_tells only tells (row.SequenceOf of) = list_tells (test of.0) (write of.0) (inner of.0) (W of.0) (only of.0) (tells of.0)
  row_tells only tells (row.SetOf of) = set_of_tells (test of.0) (write of.0) (inner of.0) (W of.0) (spell of.0) (only of.0) (tells of.0)
  row_tells only tells (row.Choice ps) = choice_tells test write inner W tells ps
  row_tells only tells (row.Tagged class number explicit of) = tells of.0
  row_tells only tells row.Any = dead_tells

module _ (rows : List TypeRow) where
  abbrev test_by : ℕ → ℕ → Value → Bool
  test_by turns = along nothing_fits (packs_by (written rows)) rows turns

  abbrev write_down : ℕ → ℕ → Writer
  write_down turns = along nothing_written write_by rows turns

  abbrev read_down : ℕ → ℕ → Reader
  read_down turns = along dead (read_by (written rows)) rows turns

  of_finds : (turns : ℕ) → ((m : ℕ) → Finds (read_down turns m) (FaultBy rows turns m)) → (o : Option TypeRow) → Finds (of_row dead (read_by (written rows) (read_down turns)) o) (RowFaultOr (RowFault (written rows) (test_by turns) (write_down turns) (FaultBy rows turns)) o)
  of_finds turns h None = dead_finds
  of_finds turns h (Some r) = row_finds (written rows) (test_by turns) (write_down turns) (read_down turns) (FaultBy rows turns) (λ m. along_found rows turns m) h r

  pub along_finds : (turns n : ℕ) → Finds (along dead (read_by (written rows)) rows turns n) (FaultBy rows turns n)
  along_finds zero n = dead_finds
  along_finds (suc turns) n = of_finds turns (λ m. along_finds turns m) (slice_get rows n)

  of_tells : (turns : ℕ) → ((m : ℕ) → Tells (read_down turns m) (FaultBy rows turns m)) → (o : Option TypeRow) → Tells (of_row dead (read_by (written rows) (read_down turns)) o) (RowFaultOr (RowFault (written rows) (test_by turns) (write_down turns) (FaultBy rows turns)) o)
  of_tells turns h None = dead_tells
  of_tells turns h (Some r) = row_tells (written rows) (test_by turns) (write_down turns) (read_down turns) (FaultBy rows turns) (λ m. along_only rows turns m) h r

  pub along_tells : (turns n : ℕ) → Tells (along dead (read_by (written rows)) rows turns n) (FaultBy rows turns n)
  along_tells zero n = dead_tells
  along_tells (suc turns) n = of_tells turns (λ m. along_tells turns m) (slice_get rows n)
