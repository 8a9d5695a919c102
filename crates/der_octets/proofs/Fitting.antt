-- In a value that has the form of a row of a table without `Any` the strings are octets.
use Rattle.std.proofs.Common.{◌≡◌, refl, ◌∙◌, true, arith, ℕ, zero, suc, ◌<◌, List, [], ◌∷◌, length}
use Rattle.std.specs.Prelude.{◌≢◌, Bool, not, Option, Some, None, nat_le, nat_lt, slice_get}
use Rattle.std.specs.List.{list_all}
use Rattle.std.proofs.lemmas.Bool.Decides.{nat_tests}
use Rattle.std.proofs.lemmas.Bool.{and_parts}
use Rattle.asn1_types.specs.declared.row.Part.{Part}
use Rattle.asn1_types.specs.declared.row.TypeRow.{TypeRow}
use Rattle.asn1_types.specs.declared.row.TypeRow.TheVariants as row
use Rattle.asn1_types.specs.Rows.{of_row, along}
use Rattle.asn1_types.specs.Defaults.{is_default}
use Rattle.asn1_types.specs.Fits.{is_octet, are_bits, is_text, part_fits, parts_fit, sequence_fits, values_fit, list_fits, alternative_fits, choice_fits, form_by, nothing_fits, has_form}
use Rattle.asn1_types.specs.Rising.{set_rises}
use Rattle.asn1_types.specs.Value.{Value, boolean, integer, null, octets, bits, object_id, text, parts, list, chosen, MaybeValues, no_parts, absent, present, Values, no_values, value}
use Rattle.asn1_types.specs.Writing.{written}
use Rattle.asn1_types.proofs.OctetTests.{octets_by_test}
use Rattle.der_octets.specs.Laws.{LeavesAre, LeavesInParts, LeavesInValues, FittingLeavesAre}

abbrev Lacks : (ℕ → Value → Bool) → Type 0
Lacks f = (n : ℕ) (v : Value) → f n v ≡ true → LeavesAre v

module _ (f : ℕ → Value → Bool) (lacks : Lacks f) where
  in-parts : (ps : List Part) (vs : MaybeValues) → parts_fit f ps vs ≡ true → LeavesInParts vs
  in-parts [] no_parts h = tt
  in-parts [] (absent vs) h = absurd cc
  in-parts [] (present v vs) h = absurd cc
  in-parts (p ∷ ps) no_parts h = absurd cc
  in-parts (p ∷ ps) (absent vs) h = in-parts ps vs (and_parts (part_fits f p None) (parts_fit f ps vs) h).1
  in-parts (p ∷ ps) (present v vs) h =
      let k = and_parts (part_fits f p (Some v)) (parts_fit f ps vs) h in
      (lacks p.inner.0 v (and_parts (not (is_default p.default v)) (f p.inner.0 v) k.0).1, in-parts ps vs k.1)

  in-sequence : (ps : List Part) (v : Value) → sequence_fits (parts_fit f ps) v ≡ true → LeavesAre v
  in-sequence ps (parts vs) h = in-parts ps vs h
  in-sequence ps v h = absurd cc

  in-values : (n : ℕ) (vs : Values) → values_fit (f n) vs ≡ true → LeavesInValues vs
  in-values n no_values h = tt
  in-values n (value v vs) h = let k = and_parts (f n v) (values_fit (f n) vs) h in (lacks n v k.0, in-values n vs k.1)

  in-list : (n : ℕ) (v : Value) → list_fits (f n) v ≡ true → LeavesAre v
  in-list n (list vs) h = in-values n vs h
  in-list n v h = absurd cc

  in-alternative : (p : Option Part) (v : Value) → alternative_fits f p v ≡ true → LeavesAre v
  in-alternative None v h = absurd cc
  in-alternative (Some p) v h = lacks p.inner.0 v h

  in-choice : (ps : List Part) (v : Value) → choice_fits (λ which. alternative_fits f (slice_get ps which)) v ≡ true → LeavesAre v
  in-choice ps (chosen which v) h = in-alternative (slice_get ps which) v h
  in-choice ps v h = absurd cc

  in-row : (spell : ℕ → Value → List ℕ) (r : TypeRow) (v : Value) → (r ≡ row.Any → ⊥) → form_by spell f r v ≡ true → LeavesAre v
  in-row spell row.Boolean (boolean b) x h = tt
  in-row spell row.Boolean v x h = absurd cc
  in-row spell (row.Integer low high) (integer z) x h = tt
  in-row spell (row.Integer low high) v x h = absurd cc
  in-row spell (row.Enumerated named) (integer z) x h = tt
  in-row spell (row.Enumerated named) v x h = absurd cc
  in-row spell row.Null null x h = tt
  in-row spell row.Null v x h = absurd cc
  in-row spell (row.OctetString most) (octets os) x h = octets_by_test os (and_parts (list_all is_octet os) (nat_le (length os) most) h).0
  in-row spell (row.OctetString most) v x h = absurd cc
  in-row spell row.BitString (bits os u) x h =
      let k = and_parts (list_all is_octet os) (are_bits os u) h in
      (small u (and_parts (nat_lt u 8) _ k.1).0, octets_by_test os k.0)
    where
      small : (u : ℕ) → nat_lt u 8 ≡ true → u < 256
      small u e = grind (arith, nat_tests)
  in-row spell row.BitString v x h = absurd cc
  in-row spell row.ObjectId (object_id arcs) x h = tt
  in-row spell row.ObjectId v x h = absurd cc
  in-row spell (row.Text kind) (text os) x h = octets_by_test os (and_parts (list_all is_octet os) (is_text kind os) h).0
  in-row spell (row.Text kind) v x h = absurd cc
  in-row spell (row.Sequence ps) v x h = in-sequence ps v h
  in-row spell (row.Set ps) v x h = in-sequence ps v h
  in-row spell (row.SequenceOf of) v x h = in-list of.0 v h
  in-row spell (row.SetOf of) v x h = in-list of.0 v (and_parts (list_fits (f of.0) v) (set_rises (spell of.0) v) h).0
  in-row spell (row.Choice ps) v x h = in-choice ps v h
  in-row spell (row.Tagged class number explicit of) v x h = lacks of.0 v h
  in-row spell row.Any v x h = absurd (x refl)

module _ (rows : List TypeRow) (none : (k : ℕ) → slice_get rows k ≢ Some row.Any) (spell : ℕ → Value → List ℕ) where
  some : (r s : TypeRow) → r ≡ s → ◌≡◌ {A = Option TypeRow} (Some r) (Some s)
  some r s e = cc

  of_row-lacks : (f : ℕ → Value → Bool) → Lacks f → (n : ℕ) (o : Option TypeRow) → slice_get rows n ≡ o → (v : Value) → of_row nothing_fits (form_by spell f) o v ≡ true → LeavesAre v
  of_row-lacks f lacks n None e v h = absurd cc
  of_row-lacks f lacks n (Some r) e v h = in-row f lacks spell r v (λ is. none n (e ∙ some r row.Any is)) h

  along-lacks : (turns : ℕ) → Lacks (along nothing_fits (form_by spell) rows turns)
  along-lacks zero n v h = absurd cc
  along-lacks (suc turns) n v h = of_row-lacks (along nothing_fits (form_by spell) rows turns) (along-lacks turns) n (slice_get rows n) refl v h

pub fitting-leaves : FittingLeavesAre
unfolding has_form
fitting-leaves rows n v none h = along-lacks rows none (written rows) (length rows) n v h
