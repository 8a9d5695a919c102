-- The rank of the tag that a value is written with.
use Rattle.std.proofs.Common.{◌≡◌, ℕ, zero, suc, ◌<◌, Bool, true, false, List, [], ◌∷◌, length, Some, None, refl, sym, ap, ◌∙◌, subst, arith}
use Rattle.std.specs.Prelude.{slice_get}
use Rattle.std.specs.List.{AllByRecursion}
use Rattle.std.proofs.lemmas.Option.{slice_get_within}
use Rattle.asn1_types.specs.declared.row.TypeId.{TypeId}
use Rattle.asn1_types.specs.declared.row.Class.{Class}
use Rattle.asn1_types.specs.declared.row.TypeRow.{TypeRow}
use Rattle.asn1_types.specs.declared.row.TypeRow.TheVariants.{Boolean, Integer, Enumerated, Null, OctetString, BitString, ObjectId, Text, Sequence, Set, SequenceOf, SetOf, Choice, Tagged, Any}
use Rattle.asn1_types.specs.Rows.{names_of}
use Rattle.asn1_types.specs.Table.{AreSoundRows}
use Rattle.asn1_types.specs.Value.{Value}
use Rattle.asn1_types.proofs.Sound.{down_as, sound_row}
use Rattle.asn1_types.specs.declared.row.Tag as tags
use Rattle.asn1_types.specs.Writing.{Writer, boolean_contents, integer_contents, octets_contents, bits_contents, object_id_contents, text_contents, sequence_contents, parts_contents, set_parts, list_contents, choice_written, alternative_written, any_written, write_by, writes}
use Rattle.asn1_types.specs.Tags.{rank, front_rank}
use Rattle.ber_spelling.proofs.Orders.{definite_rank}
use Rattle.ber_spelling.proofs.WriteLaws.{writes_at}

-- what is written under another tag has that tag
record UnderTag (w : Writer) : Type 0 where
  is : (t : tags.Tag) (v : Value) → front_rank (w (Some t) v) ≡ rank t.class t.number

row_under : (f : ℕ → Writer) (row : TypeRow) → AllByRecursion (λ m. UnderTag (f m)) (names_of row) → UnderTag (write_by f row)
row_under f Boolean h = record { is = λ t v. definite_rank false t (boolean_contents v) }
row_under f (Integer low high) h = record { is = λ t v. definite_rank false t (integer_contents v) }
row_under f (Enumerated items) h = record { is = λ t v. definite_rank false t (integer_contents v) }
row_under f Null h = record { is = λ t v. definite_rank false t [] }
row_under f (OctetString most) h = record { is = λ t v. definite_rank false t (octets_contents v) }
row_under f BitString h = record { is = λ t v. definite_rank false t (bits_contents v) }
row_under f ObjectId h = record { is = λ t v. definite_rank false t (object_id_contents v) }
row_under f (Text kind) h = record { is = λ t v. definite_rank false t (text_contents v) }
row_under f (Sequence ps) h = record { is = λ t v. definite_rank true t (sequence_contents (parts_contents f ps) v) }
row_under f (Set ps) h = record { is = λ t v. definite_rank true t (sequence_contents (set_parts f ps) v) }
row_under f (SequenceOf of) h = record { is = λ t v. definite_rank true t (list_contents (f of.0) v) }
row_under f (SetOf of) h = record { is = λ t v. definite_rank true t (list_contents (f of.0) v) }
row_under f (Choice ps) h = record { is = λ t v. definite_rank true t (choice_written (λ which. alternative_written f (slice_get ps which)) v) }
row_under f (Tagged class number true of) h = record { is = λ t v. definite_rank true t (f of.0 None v) }
row_under f (Tagged class number false of) h = record { is = λ t v. h.0.is t v }
row_under f Any h = record { is = λ t v. definite_rank true t (any_written v) }

each_lower : (P : ℕ → Type 0) (ns : List ℕ) (n : ℕ) → AllByRecursion (λ m. m < n) ns → ((m : ℕ) → m < n → P m) → AllByRecursion P ns
each_lower P [] n h p = tt
each_lower P (m ∷ ns) n h p = (p m h.0, each_lower P ns n h.1 p)

row_at : (rows : List TypeRow) (n : ℕ) → n < length rows → (row : TypeRow) × (slice_get rows n ≡ Some row)
row_at [] n lt = absurd (omega arith)
row_at (row ∷ rows) zero lt = (row, refl)
row_at (row ∷ rows) (suc n) lt = row_at rows n (omega arith)

under_by : (rows : List TypeRow) → AreSoundRows rows → (bound n : ℕ) → n < bound → n < length rows → UnderTag (writes rows n)
under_by rows sound zero n lt le = absurd (omega arith)
under_by rows sound (suc bound) n lt le =
    let r = row_at rows n le in
    let s = sound_row rows sound n r.0 r.1 in
    subst UnderTag (sym (writes_at rows sound n r.0 r.1)) (row_under (writes rows) r.0 (each_lower (λ m. UnderTag (writes rows m)) (names_of r.0) n s.down (λ m l. under_by rows sound bound m (omega arith) (omega arith))))

pub tagged_rank : (rows : List TypeRow) → AreSoundRows rows → (n : ℕ) (row : TypeRow) (class : Class) (number : ℕ) (explicit : Bool) (of : TypeId) (v : Value) → slice_get rows n ≡ Some row → row ≡ Tagged class number explicit of
    → front_rank (write_by (writes rows) row None v) ≡ rank class number
tagged_rank rows sound n row class number explicit of v e is =
    let lt = slice_get_within rows n row e in
    let down = down_as rows n row (Tagged class number explicit of) sound e is in
    let below : of.0 < n = down.0 in
    ap (λ (r : TypeRow). front_rank (write_by (writes rows) r None v)) is ∙ by_form explicit (under_by rows sound (suc of.0) of.0 (omega arith) (omega arith))
  where
    by_form : (b : Bool) → UnderTag (writes rows of.0) → front_rank (write_by (writes rows) (Tagged class number b of) None v) ≡ rank class number
    by_form true h = definite_rank true (record { class = class; number = number }) (writes rows of.0 None v)
    by_form false h = h.is (record { class = class; number = number }) v

pub ranked_as : (f : ℕ → Writer) (row form : TypeRow) (v : Value) (result n : ℕ) → row ≡ form → result ≡ n → front_rank (write_by f form None v) ≡ n → result ≡ front_rank (write_by f row None v)
ranked_as f row form v result n is e h = e ∙ sym (ap (λ (r : TypeRow). front_rank (write_by f r None v)) is ∙ h)
