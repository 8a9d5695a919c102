-- The text of a value as two pieces, which are put one behind the other.
use Rattle.std.proofs.Common.{◌≡◌, ℕ, ◌+◌, ◌-◌, ◌*◌, ◌≤◌, ℤ, true, false, List, [], ◌∷◌, ◌++◌, length, take, drop, get_or, Option, Some, refl, sym, ap, ◌∙◌, arith}
use Rattle.std.specs.Prelude.{slice_get}
use Rattle.std.specs.Int.{w64, cast_unsigned, bytes_high_first}
use Rattle.std.specs.List.{flat_map}
use Rattle.std.proofs.lemmas.List.{take_rest}
use Rattle.byteorder.specs.Endian.{big_bytes}
use Rattle.asn1_types.specs.declared.row.Part.{Part}
use Rattle.asn1_types.specs.Value.{Value, bits, list, chosen}
use Rattle.asn1_types.specs.ValueView.{values_of}
use Rattle.asn1_types.specs.Defaults.{may_be_absent}
use Rattle.packed_codec.specs.Numbers.{unpadded, integer_octets}
use Rattle.packed_codec.specs.ObjectIds.{base_128, arcs_octets}
use Rattle.packed_codec.specs.Writing.{Writer, counted, with_size, bits_written, part_written, values_written, list_written, alternative_written, choice_written}
use Rattle.packed_codec.proofs.WriteLaws.{many_is}

-- the code reads the number's bits as a number first
pub number_text : (z again : ℤ) (octets rest : List ℕ) → again ≡ z → octets ≡ bytes_high_first 8 (cast_unsigned w64 again) → rest ≡ unpadded octets → with_size (integer_octets z) ≡ (length rest ∷ []) ++ rest
unfolding integer_octets
number_text z again octets rest same e d =
    ap (λ (y : ℤ). with_size (unpadded (bytes_high_first 8 (cast_unsigned w64 y)))) (sym same) ∙ ap with_size (sym (d ∙ ap unpadded e))

pub arcs_text : (arcs : List ℕ) → 2 ≤ length arcs → arcs_octets arcs ≡ base_128 (40 * get_or arcs 0 0 + get_or arcs 1 0) ++ flat_map base_128 (take (length arcs - 2) (drop 2 arcs))
unfolding arcs_octets
arcs_text [] le = absurd (omega arith)
arcs_text (root ∷ []) le = absurd (omega arith)
arcs_text (root ∷ second ∷ more) le =
    ap (λ (x : List ℕ). base_128 (40 * root + second) ++ flat_map base_128 x) (sym (take_rest (root ∷ second ∷ more) 2))

pub bits_text : (octets slice : List ℕ) (unused : ℕ) (v : Value) → bits octets unused ≡ v → slice ≡ octets → bits_written v ≡ (unused ∷ []) ++ counted slice
bits_text octets slice unused v e d = ap bits_written (sym e) ∙ ap (λ (os : List ℕ). unused ∷ counted os) (sym d)

pub choice_text : (f : ℕ → Writer) (ps : List Part) (which : ℕ) (p : Part) (v w whole : Value) → chosen which v ≡ whole → slice_get ps which ≡ Some p → w ≡ v → choice_written f ps whole ≡ (which ∷ []) ++ f p.inner.0 w
choice_text f ps which p v w whole e s d =
    ap (choice_written f ps) (sym e) ∙ ap (λ (o : Option Part). alternative_written f which o v) s ∙ ap (λ (x : Value). which ∷ f p.inner.0 x) (sym d)

pub list_text : (f : Writer) (vs items : List Value) (n : ℕ) (whole : Value) → list (values_of vs) ≡ whole → items ≡ vs → n ≡ length vs → list_written f whole ≡ big_bytes 4 n ++ values_written f (values_of items)
list_text f vs items n whole e d m =
    ap (list_written f) (sym e)
    ∙ ap (λ (k : ℕ). big_bytes 4 k ++ values_written f (values_of vs)) (many_is vs ∙ sym m)
    ∙ ap (λ (x : List Value). big_bytes 4 n ++ values_written f (values_of x)) (sym d)

pub plain_text : (f : ℕ → Writer) (p : Part) (o : Option Value) (v : Value) → may_be_absent p ≡ false → o ≡ Some v → part_written f p o ≡ f p.inner.0 v
plain_text f p o v bare e = rw (e, bare) refl

pub marked_text : (f : ℕ → Writer) (p : Part) (o : Option Value) (v : Value) → may_be_absent p ≡ true → o ≡ Some v → part_written f p o ≡ (1 ∷ []) ++ f p.inner.0 v
marked_text f p o v marked e = rw (e, marked) refl
