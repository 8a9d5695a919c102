-- What the calls of the readers give, from what reading gives.
use Rattle.std.proofs.Common.{◌≡◌, ℕ, ◌≤◌, Bool, List, length, take, drop, Result, Ok, Err, refl, sym, ap, ◌∙◌, subst, arith, IfOk}
use Rattle.std.proofs.lemmas.List.{take-append-drop, length-take}
use Rattle.asn1_types.specs.declared.row.TypeRow.{TypeRow}
use Rattle.asn1_types.specs.Table.{AreSoundRows}
use Rattle.asn1_types.specs.Value.{Value}
use Rattle.ber_spelling.specs.declared.fault.ReadFault.{ReadFault}
use Rattle.ber_spelling.specs.declared.fault.ReadFault.TheVariants as faults
use Rattle.ber_reading.specs.declared.whole_values.Read.{Read}
use Rattle.ber_reading.specs.Calls.{IsRead}
use Rattle.osi_base.specs.Octets.{AreOctets}
use Rattle.ber_spelling.specs.Reading.{Reading, Gives}
use Rattle.ber_spelling.specs.Rules.{read_at}
use Rattle.ber_spelling.specs.Spelling.{Spells}
use Rattle.ber_spelling.proofs.Identifiers.{ok_is}
use Rattle.ber_spelling.proofs.WholeValues.{read_is_spelled, spelled_is_read}

abbrev done : Value × ℕ → Reading (Value × ℕ)
done x = Ok x

pub is_found : (rows : List TypeRow) (n : ℕ) (strict : Bool) (limit : ℕ) (bytes : List ℕ) (result : Result Read ReadFault) → AreOctets bytes
    → Gives (λ r. (r.value, r.used)) result (read_at rows n strict limit bytes) → IfOk result (λ r. (r.used ≤ length bytes) × Spells rows n strict limit r.value (take r.used bytes))
is_found rows n strict limit bytes (Ok r) are e = read_is_spelled rows n strict limit bytes r.value r.used are e
is_found rows n strict limit bytes (Err f) are e = tt

is_read : (v : Value) (used : ℕ) (result : Result Read ReadFault) → Gives (λ r. (r.value, r.used)) result (done (v, used)) → IsRead result v used
is_read v used (Ok r) e = let same = ok_is {A = Value × ℕ} (v, used) (r.value, r.used) e in (ap (λ (x : Value × ℕ). x.0) (sym same), ap (λ (x : Value × ℕ). x.1) (sym same))
is_read v used (Err (faults.NotSpelled place kind)) e = absurd cc
is_read v used (Err faults.Short) e = absurd cc
is_read v used (Err (faults.TooDeep place)) e = absurd cc
is_read v used (Err (faults.TooLong place)) e = absurd cc
is_read v used (Err faults.NoMemory) e = refl

pub is_only : (rows : List TypeRow) (n : ℕ) (strict : Bool) (limit : ℕ) (bytes : List ℕ) (result : Result Read ReadFault) → AreSoundRows rows
    → Gives (λ r. (r.value, r.used)) result (read_at rows n strict limit bytes) → (v : Value) (k : ℕ) → k ≤ length bytes → Spells rows n strict limit v (take k bytes) → IsRead result v k
is_only rows n strict limit bytes result sound e v k le p =
    let read = spelled_is_read rows n strict limit v (take k bytes) (drop k bytes) sound p in
    let len : length (take k bytes) ≡ k = omega (arith, length-take k bytes) in
    let same : read_at rows n strict limit bytes ≡ Ok (v, k) = ap (read_at rows n strict limit) (sym (take-append-drop k bytes)) ∙ read ∙ ap (λ (j : ℕ). Ok (v, j)) len in
    is_read v k result (subst (λ (r : Reading (Value × ℕ)). Gives (λ x. (x.value, x.used)) result r) same e)
