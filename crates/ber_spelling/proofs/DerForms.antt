-- Octets are read in DER as in BER, or a form is at fault.
use Rattle.std.proofs.Common.{◌≡◌, ◌⊎◌, ℕ, true, false, List, length, Ok, Err, refl, sym, ap, inl, inr}
use Rattle.osi_base.specs.declared.layer_words.Kind.TheVariants.{Form}
use Rattle.asn1_types.specs.declared.row.TypeRow.{TypeRow}
use Rattle.asn1_types.specs.Value.{Value}
use Rattle.ber_spelling.specs.declared.fault.ReadFault.TheVariants as faults
use Rattle.ber_spelling.specs.Reading.{Reading}
use Rattle.ber_spelling.specs.Fields.{identifier_at}
use Rattle.ber_spelling.specs.Rules.{reads, value_at, read_at, outermost, plain}
use Rattle.ber_spelling.specs.Laws.{DerIsBerInForm}
use Rattle.ber_spelling.proofs.Strict.{Formal, same, Formal-bind, identifier_lax}
use Rattle.ber_spelling.proofs.StrictRules.{along_strict}

read_formal : (rows : List TypeRow) (n limit : ℕ) (bytes : List ℕ) → Formal same (read_at rows n true limit bytes) (read_at rows n false limit bytes)
unfolding read_at value_at reads
read_formal rows n limit bytes =
    let der = outermost limit true in
    let ber = outermost limit false in
    Formal-bind same same (value_at rows n der 0 bytes) (value_at rows n ber 0 bytes) _ _
    (Formal-bind same same (identifier_at der 0 bytes) (identifier_at ber 0 bytes) _ _ (identifier_lax der 0 bytes) (λ x.
    ((along_strict rows (length rows) n).formal plain).each der x.0 x.1)) (λ x. refl)

told : (der ber : Reading (Value × ℕ)) → Formal same der ber → (der ≡ ber) ⊎ ((place : ℕ) × (der ≡ Err (faults.NotSpelled place Form)))
told (Ok x) ber h = inl (sym h)
told (Err (faults.NotSpelled place kind)) ber (inl form) = inr (place, ap (λ k. Err (faults.NotSpelled place k)) form)
told (Err (faults.NotSpelled place kind)) ber (inr e) = inl (sym e)
told (Err faults.Short) ber h = inl (sym h)
told (Err (faults.TooDeep place)) ber h = inl (sym h)
told (Err (faults.TooLong place)) ber h = inl (sym h)
told (Err faults.NoMemory) ber h = inl (sym h)

pub der_is_ber_in_form : DerIsBerInForm
der_is_ber_in_form rows n limit bytes = told (read_at rows n true limit bytes) (read_at rows n false limit bytes) (read_formal rows n limit bytes)
