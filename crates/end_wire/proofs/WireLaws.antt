-- Messages of bare mode in octets.
use Rattle.std.proofs.Common.{◌≡◌, ℕ, ◌≤◌, true, false, List, ◌++◌, length, Option, Some, None, option_map, refl, sym, ap, subst, ◌∙◌, arith}
use Rattle.std.proofs.lemmas.List.{append-nil}
use Rattle.osi_base.specs.declared.syntax.Syntax.TheVariants.{Ber, Der}
use Rattle.osi_base.specs.declared.layer_words.SetItem.{SetItem}
use Rattle.asn1_types.specs.Value.{any}
use Rattle.asn1_types.specs.Whole.{is_whole}
use Rattle.asn1_types.specs.Fits.{has_form}
use Rattle.ber_spelling.specs.Spelling as spelling
use Rattle.asn1_types.specs.Writing.{written as written_value}
use Rattle.ber_spelling.proofs.WholeSpelled.{der_is_whole}
use Rattle.stub_tables.specs.declared.tables.Tables.{Tables}
use Rattle.stub_tables.specs.declared.apdu.Apdu.{Apdu}
use Rattle.stub_tables.specs.declared.apdu.Apdu.TheVariants as apdus
use Rattle.stub_tables.specs.declared.operation.Use.{Use}
use Rattle.asn1_types.specs.declared.value.Val.{Val}
use Rattle.asn1_types.specs.declared.row.TypeId.{TypeId}
use Rattle.asn1_types.specs.declared.table.TypeTable.{TypeTable}
use Rattle.stub_tables.specs.Apdus.{argument_of, result_of, parameter_of, operation_coded, error_coded}
use Rattle.stub_tables.specs.Readable.{IsReadable}
use Rattle.stub_tables.specs.Apdus.{IsWhole}
use Rattle.stub_tables.specs.AnyValue as values
use Rattle.stub_tables.proofs.Readings as values_sound
use Rattle.asn1_types.specs.Writing.{writes}
use Rattle.ber_spelling.proofs.Written.{written_spelled as value_spelled}
use Rattle.ber_spelling.proofs.Wholes.{whole_is}
use Rattle.apdu_spelling.specs.Heads as heads
use Rattle.apdu_spelling.specs.Rows.{head_rows, apdu_row}
use Rattle.apdu_spelling.specs.Values.{ber_value}
use Rattle.apdu_spelling.proofs.HeadsSound.{heads_sound}
use Rattle.apdu_spelling.specs.Spellings.{Spells}
use Rattle.apdu_spelling.specs.Writing.{written_apdu, IsWritable, has_values, is_typed, may_carry, written_typed, written_carried, written_head, head_of}
use Rattle.apdu_spelling.proofs.Written.{written_spelled}
use Rattle.osi_base.specs.SetPlaces.{pair_of}
use Rattle.end_rules.specs.State.{bare_set}
use Rattle.end_rules.specs.Messages.{Remote, Message}
use Rattle.end_rules.specs.Hearing.{syntax_of}
use Rattle.end_wire.specs.Bare.{IsWire, bare_message, written, first_at, Whole}
use Rattle.end_wire.proofs.FirstLaws.{whole_first}
use Rattle.end_wire.proofs.ContentLaws.{one_content}

any_is : (text : List ℕ) → is_whole text ≡ true → length text ≤ 262144 → IsWhole text
unfolding IsWhole written_value writes has_form
any_is text e le = value_spelled whole_is values.any_value_rows values_sound.any_value_sound values.any_value_row (any text) e false 262144 (omega arith) le

-- ---- what is written in BER is what is written in DER

module _ (types : TypeTable) where
  typed_same : (of : Option TypeId) (v : Val) → is_typed Ber types of v ≡ is_typed Der types of v
  typed_same None v = refl
  typed_same (Some of) v = refl

  may_same : (u : Option Use) (v : Option Val) → may_carry Ber types u v ≡ may_carry Der types u v
  may_same None v = refl
  may_same (Some u) None = refl
  may_same (Some u) (Some v) = typed_same u.inner v

  texts_same : (of : Option TypeId) (v : Val) → written_typed Ber types of v ≡ written_typed Der types of v
  texts_same None v = refl
  texts_same (Some of) v = refl

  carried_same : (u : Option Use) (v : Option Val) → written_carried Ber types u v ≡ written_carried Der types u v
  carried_same None v = refl
  carried_same (Some u) None = refl
  carried_same (Some u) (Some v) = texts_same u.inner v

module _ (t : Tables) where
  values_same : (a : Apdu) → has_values t Ber a ≡ has_values t Der a
  values_same (apdus.Invoke id linked code v) = may_same t.types (option_map argument_of (operation_coded t code)) v
  values_same (apdus.Result id None) = refl
  values_same (apdus.Result id (Some r)) = may_same t.types (option_map result_of (operation_coded t r.code)) (Some r.value)
  values_same (apdus.Error id code v) = may_same t.types (option_map parameter_of (error_coded t code)) v
  values_same (apdus.Reject id problem) = refl

  heads_same : (a : Apdu) → head_of t Ber a ≡ head_of t Der a
  heads_same (apdus.Invoke id linked code v) = ap (λ (x : Option (List ℕ)). heads.invoke id linked code x) (carried_same t.types (option_map argument_of (operation_coded t code)) v)
  heads_same (apdus.Result id None) = refl
  heads_same (apdus.Result id (Some r)) =
      ap (λ (x : Option (List ℕ)). heads.result id (Some (record { code = r.code; octets = heads.or_none x }))) (carried_same t.types (option_map result_of (operation_coded t r.code)) (Some r.value))
  heads_same (apdus.Error id code v) = ap (λ (x : Option (List ℕ)). heads.error id code x) (carried_same t.types (option_map parameter_of (error_coded t code)) v)
  heads_same (apdus.Reject id problem) = refl

  written_same : (a : Apdu) → written_apdu t Ber a ≡ written_apdu t Der a
  unfolding written_apdu
  written_same a = ap (λ (h : heads.Head). written_head Ber h) (heads_same a)

  writable_same : (a : Apdu) → IsWritable t Ber a → IsWritable t Der a
  writable_same a w =
      record { numbers = w.numbers; values = sym (values_same a) ∙ w.values; short = subst (λ (x : List ℕ). length x ≤ 262144) (written_same a) w.short }

  module _ (readable : IsReadable t) (a : Apdu) (w : IsWritable t Ber a) where
    abbrev text : List ℕ
    text = written_apdu t Ber a

    -- what is written of an APDU is one whole value
    pub apdu_whole : IsWhole text
    apdu_whole =
        let s : Spells t Der a (written_apdu t Der a) = written_spelled t readable Der a (writable_same a w) in
        let whole : is_whole (written_apdu t Der a) ≡ true = der_is_whole head_rows heads_sound apdu_row 262144 (ber_value s.head) (written_apdu t Der a) s.is_head in
        any_is text (subst (λ (x : List ℕ). is_whole x ≡ true) (sym (written_same a)) whole) w.short

    alone : written t (bare_message (bare_set t) (Remote a)) ≡ text
    alone = append-nil text

    wire : IsWire t (bare_set t) (bare_message (bare_set t) (Remote a)) text
    wire = record { content = Remote a; message_is = refl; whole = apdu_whole; means = written_spelled t readable Ber a w }

    pub written_first : (more : List ℕ) → IsWire t (bare_set t) (bare_message (bare_set t) (Remote a)) (written t (bare_message (bare_set t) (Remote a)))
        × (first_at (written t (bare_message (bare_set t) (Remote a)) ++ more) ≡ Whole (length (written t (bare_message (bare_set t) (Remote a)))))
    written_first more =
        let whole : IsWhole (written t (bare_message (bare_set t) (Remote a))) = subst IsWhole (sym alone) apdu_whole in (
          subst (IsWire t (bare_set t) (bare_message (bare_set t) (Remote a))) (sym alone) wire,
          whole_first (written t (bare_message (bare_set t) (Remote a))) more whole,
        )

-- ---- messages

pub one_message : (t : Tables) (held : List SetItem) (a b : Message) (octets : List ℕ) → IsReadable t → IsWire t held a octets → IsWire t held b octets → a ≡ b
one_message t held a b octets readable p q =
    p.message_is ∙ ap (bare_message held) (one_content t (syntax_of (pair_of held 0)) octets readable p.content q.content p.means q.means) ∙ sym q.message_is
