-- Each row: what is read is spelled so, and what is spelled so is read; and so down the table.
use Rattle.std.proofs.Common.{◌≡◌, ◌≢◌, ℕ, zero, suc, Bool, List, length, Option, Some, None, refl, ap, ◌∙◌}
use Rattle.std.specs.Prelude.{slice_get}
use Rattle.asn1_types.specs.declared.row.TypeRow.{TypeRow}
use Rattle.asn1_types.specs.declared.row.TypeRow.TheVariants as row
use Rattle.asn1_types.specs.Rows.{of_row, along}
use Rattle.asn1_types.specs.Fits.{integer_fits, enumerated_fits, octets_fit, text_fits, object_id_fits, form_by, nothing_fits, has_form}
use Rattle.asn1_types.specs.Value.{Value}
use Rattle.packed_codec.specs.Rules.{Reader, dead, read_by}
use Rattle.packed_codec.specs.Writing.{Writer, number_written, octets_written, text_written, object_id_written, nothing_written, write_by}
use Rattle.packed_codec.specs.Laws.{packs_by, packs, HasNoAny, FittingPacks}
use Rattle.packed_codec.proofs.Spelled.{Found, Only, boolean_found, boolean_only, null_found, null_only, string_found, string_only, number_found, number_only, bits_found, bits_only}
use Rattle.packed_codec.proofs.Contents.{integer_sized, enumerated_sized, octets_sized, text_sized, object_id_sized}
use Rattle.packed_codec.proofs.Parts.{sequence_found, list_found, set_of_found, choice_found}
use Rattle.packed_codec.proofs.PartsBack.{sequence_back, list_back, set_of_back, choice_back}
use Rattle.asn1_types.specs.Writing.{written}

dead_found : (test : Value → Bool) (write : Writer) → Found test write dead
dead_found test write = record { found = λ limit s v to are here e. absurd cc }

module _ (spell : ℕ → Value → List ℕ) (test : ℕ → Value → Bool) (write : ℕ → Writer) (inner : ℕ → Reader) where
  row_found : ((n : ℕ) → Found (test n) (write n) (inner n)) → (r : TypeRow) → Found (packs_by spell test r) (write_by write r) (read_by spell inner r)
  row_found h row.Boolean = boolean_found
  row_found h (row.Integer low high) = number_found (integer_fits low high) number_written _ (integer_sized low high)
  row_found h (row.Enumerated named) = number_found (enumerated_fits named) number_written _ (enumerated_sized named)
  row_found h row.Null = null_found
  row_found h (row.OctetString most) = string_found (octets_fit most) octets_written _ _ (octets_sized most)
  row_found h row.BitString = bits_found
  row_found h row.ObjectId = string_found object_id_fits object_id_written _ _ object_id_sized
  row_found h (row.Text kind) = string_found (text_fits kind) text_written _ _ (text_sized kind)
  row_found h (row.Sequence ps) = sequence_found test write inner h ps
  row_found h (row.Set ps) = sequence_found test write inner h ps
  row_found h (row.SequenceOf of) = list_found test write inner h of.0
  row_found h (row.SetOf of) = set_of_found test write inner h (spell of.0) of.0
  row_found h (row.Choice ps) = choice_found test write inner h ps
  row_found h (row.Tagged class number explicit of) = h of.0
  row_found h row.Any = dead_found _ _

  row_only : ((n : ℕ) → Only (test n) (write n) (inner n)) → (r : TypeRow) → Only (packs_by spell test r) (write_by write r) (read_by spell inner r)
  row_only k row.Boolean = boolean_only
  row_only k (row.Integer low high) = number_only (integer_fits low high) number_written _ (integer_sized low high)
  row_only k (row.Enumerated named) = number_only (enumerated_fits named) number_written _ (enumerated_sized named)
  row_only k row.Null = null_only
  row_only k (row.OctetString most) = string_only (octets_fit most) octets_written _ _ (octets_sized most)
  row_only k row.BitString = bits_only
  row_only k row.ObjectId = string_only object_id_fits object_id_written _ _ object_id_sized
  row_only k (row.Text kind) = string_only (text_fits kind) text_written _ _ (text_sized kind)
  row_only k (row.Sequence ps) = record { only = λ limit place left v rest f lt le few most. sequence_back test write inner k limit lt ps place left v rest f le few most }
  row_only k (row.Set ps) = record { only = λ limit place left v rest f lt le few most. sequence_back test write inner k limit lt ps place left v rest f le few most }
  row_only k (row.SequenceOf of) = record { only = λ limit place left v rest f lt le few most. list_back test write inner k limit lt of.0 place left v rest f le few most }
  row_only k (row.SetOf of) = record { only = λ limit place left v rest f lt le few most. set_of_back test write inner k limit lt (spell of.0) of.0 place left v rest f le few most }
  row_only k (row.Choice ps) = record { only = λ limit place left v rest f lt le few most. choice_back test write inner k limit lt ps place left v rest f le few most }
  row_only k (row.Tagged class number explicit of) = k of.0
  row_only k row.Any = record { only = λ limit place left v rest f lt le few most. absurd cc }

-- ---- down the table

module _ (rows : List TypeRow) where
  of_row_found : (turns : ℕ) → ((m : ℕ) → Found (along nothing_fits (packs_by (written rows)) rows turns m) (along nothing_written write_by rows turns m) (along dead (read_by (written rows)) rows turns m)) → (o : Option TypeRow)
      → Found (of_row nothing_fits (packs_by (written rows) (along nothing_fits (packs_by (written rows)) rows turns)) o) (of_row nothing_written (write_by (along nothing_written write_by rows turns)) o) (of_row dead (read_by (written rows) (along dead (read_by (written rows)) rows turns)) o)
  of_row_found turns h None = dead_found nothing_fits nothing_written
  of_row_found turns h (Some r) = row_found (written rows) (along nothing_fits (packs_by (written rows)) rows turns) (along nothing_written write_by rows turns) (along dead (read_by (written rows)) rows turns) h r

  pub along_found : (turns n : ℕ) → Found (along nothing_fits (packs_by (written rows)) rows turns n) (along nothing_written write_by rows turns n) (along dead (read_by (written rows)) rows turns n)
  along_found zero n = dead_found nothing_fits nothing_written
  along_found (suc turns) n = of_row_found turns (λ m. along_found turns m) (slice_get rows n)

  of_row_only : (turns : ℕ) → ((m : ℕ) → Only (along nothing_fits (packs_by (written rows)) rows turns m) (along nothing_written write_by rows turns m) (along dead (read_by (written rows)) rows turns m)) → (o : Option TypeRow)
      → Only (of_row nothing_fits (packs_by (written rows) (along nothing_fits (packs_by (written rows)) rows turns)) o) (of_row nothing_written (write_by (along nothing_written write_by rows turns)) o) (of_row dead (read_by (written rows) (along dead (read_by (written rows)) rows turns)) o)
  of_row_only turns k None = record { only = λ limit place left v rest f lt le few most. absurd cc }
  of_row_only turns k (Some r) = row_only (written rows) (along nothing_fits (packs_by (written rows)) rows turns) (along nothing_written write_by rows turns) (along dead (read_by (written rows)) rows turns) k r

  pub along_only : (turns n : ℕ) → Only (along nothing_fits (packs_by (written rows)) rows turns n) (along nothing_written write_by rows turns n) (along dead (read_by (written rows)) rows turns n)
  along_only zero n = record { only = λ limit place left v rest f lt le few most. absurd cc }
  along_only (suc turns) n = of_row_only turns (λ m. along_only turns m) (slice_get rows n)

-- ---- tables without `Any`

packs_is : (spell : ℕ → Value → List ℕ) (f : ℕ → Value → Bool) (r : TypeRow) → r ≢ row.Any → packs_by spell f r ≡ form_by spell f r
packs_is spell f row.Boolean ne = refl
packs_is spell f (row.Integer low high) ne = refl
packs_is spell f (row.Enumerated named) ne = refl
packs_is spell f row.Null ne = refl
packs_is spell f (row.OctetString most) ne = refl
packs_is spell f row.BitString ne = refl
packs_is spell f row.ObjectId ne = refl
packs_is spell f (row.Text kind) ne = refl
packs_is spell f (row.Sequence ps) ne = refl
packs_is spell f (row.Set ps) ne = refl
packs_is spell f (row.SequenceOf of) ne = refl
packs_is spell f (row.SetOf of) ne = refl
packs_is spell f (row.Choice ps) ne = refl
packs_is spell f (row.Tagged class number explicit of) ne = refl
packs_is spell f row.Any ne = absurd (ne refl)

module _ (rows : List TypeRow) (none : HasNoAny rows) where
  row_packs : (turns n : ℕ) → along nothing_fits (packs_by (written rows)) rows turns ≡ along nothing_fits (form_by (written rows)) rows turns → (o : Option TypeRow) → slice_get rows n ≡ o
      → of_row nothing_fits (packs_by (written rows) (along nothing_fits (packs_by (written rows)) rows turns)) o ≡ of_row nothing_fits (form_by (written rows) (along nothing_fits (form_by (written rows)) rows turns)) o
  row_packs turns n h None g = refl
  row_packs turns n h (Some r) g =
      packs_is (written rows) (along nothing_fits (packs_by (written rows)) rows turns) r (λ e. none.each n (g ∙ ap (λ (x : TypeRow). Some x) e)) ∙ ap (λ (f : ℕ → Value → Bool). form_by (written rows) f r) h

  along_packs : (turns n : ℕ) → along nothing_fits (packs_by (written rows)) rows turns n ≡ along nothing_fits (form_by (written rows)) rows turns n
  along_packs zero n = refl
  along_packs (suc turns) n = row_packs turns n (λ i m. along_packs turns m i) (slice_get rows n) refl

pub fitting_packs : FittingPacks
unfolding packs has_form
fitting_packs rows n v none = ap (λ (f : Value → Bool). f v) (along_packs rows none (length rows) n)
