-- A fault is the first from the left.
use Rattle.std.proofs.Common.{◌≡◌, ◌≢◌, ℕ, ◌≤◌, ◌<◌, Bool, List, ◌++◌, length, take, drop, Ok, Err, refl, sym, ap, ◌∙◌, subst, arith}
use Rattle.std.proofs.lemmas.List.{take-append-drop, length-take}
use Rattle.asn1_types.specs.declared.row.TypeRow.{TypeRow}
use Rattle.asn1_types.specs.Value.{Value}
use Rattle.ber_spelling.specs.declared.fault.ReadFault.{ReadFault}
use Rattle.ber_spelling.specs.declared.fault.ReadFault.TheVariants as faults
use Rattle.ber_spelling.specs.Reading.{Reading}
use Rattle.ber_spelling.specs.Fields.{identifier_at}
use Rattle.ber_spelling.specs.Rules.{reads, value_at, read_at, outermost, plain}
use Rattle.ber_spelling.proofs.WholeValues.{read_stays, fault_stays}
use Rattle.ber_spelling.specs.Laws.{IsAt, FaultIsFirst}
use Rattle.ber_spelling.proofs.Inside.{Inside, Inside-bind, second, Begun, identifier_inside}
use Rattle.ber_spelling.proofs.InsideRules.{along_inside}

abbrev anything : Value × ℕ → Type 0
anything x = Unit {0}

read_inside : (rows : List TypeRow) (n : ℕ) (strict : Bool) (limit : ℕ) (bytes : List ℕ) → Inside anything (length bytes) (read_at rows n strict limit bytes)
unfolding read_at value_at reads
read_inside rows n strict limit bytes =
    let scope = outermost limit strict in
    let end : ℕ = length bytes in
    Inside-bind (second end) anything end (value_at rows n scope 0 bytes) _
    (Inside-bind (Begun end) (second end) end (identifier_at scope 0 bytes) _ (identifier_inside scope 0 bytes end (omega arith)) (λ x k.
    (along_inside rows (length rows) n plain).each end scope x.0 x.1 k.0 k.1)) (λ x k. tt)

-- where a fault stands
abbrev Placed : ℕ → ReadFault → Type 0
Placed end fault = (place : ℕ) × IsAt fault place × (place ≤ end)

placed : (end : ℕ) (fault : ReadFault) → fault ≢ faults.Short → Inside anything end (Err fault) → Placed end fault
placed end (faults.NotSpelled place kind) ne h = (place, refl, h)
placed end faults.Short ne h = absurd (ne refl)
placed end (faults.TooDeep place) ne h = (place, refl, h)
placed end (faults.TooLong place) ne h = (place, refl, h)
placed end faults.NoMemory ne h = absurd h

at_fault : (rows : List TypeRow) (n : ℕ) (strict : Bool) (limit : ℕ) (bytes : List ℕ) (fault : ReadFault) → fault ≢ faults.Short → read_at rows n strict limit bytes ≡ Err fault → Placed (length bytes) fault
at_fault rows n strict limit bytes fault ne e = placed (length bytes) fault ne (subst (λ (r : Reading (Value × ℕ)). Inside anything (length bytes) r) e (read_inside rows n strict limit bytes))

one_place : (fault : ReadFault) (p q : ℕ) → IsAt fault p → IsAt fault q → p ≡ q
one_place (faults.NotSpelled place kind) p q a b = sym a ∙ b
one_place faults.Short p q a b = absurd a
one_place (faults.TooDeep place) p q a b = sym a ∙ b
one_place (faults.TooLong place) p q a b = sym a ∙ b
one_place faults.NoMemory p q a b = absurd a

abbrev done : Value × ℕ → Reading (Value × ℕ)
done x = Ok x

abbrev err_of : ReadFault → Reading (Value × ℕ) → ReadFault
err_of f (Ok x) = f
err_of f (Err g) = g

err_is : (f g : ReadFault) → ◌≡◌ {A = Reading (Value × ℕ)} (Err f) (Err g) → f ≡ g
err_is f g e = ap (err_of f) e

pub fault_is_first : FaultIsFirst
fault_is_first rows n strict limit bytes fault ne e =
    let p = at_fault rows n strict limit bytes fault ne e in
    (p.0, p.1, p.2, λ k lt. before k p.0 p.1 lt (read_at rows n strict limit (take k bytes)) refl)
  where
    whole : (k : ℕ) → read_at rows n strict limit (take k bytes ++ drop k bytes) ≡ Err fault
    whole k = ap (read_at rows n strict limit) (take-append-drop k bytes) ∙ e

    wrong : (k place : ℕ) → IsAt fault place → k < place → (f : ReadFault) → f ≢ faults.Short → read_at rows n strict limit (take k bytes) ≡ Err f → ⊥
    wrong k place at lt f other d =
        let stays = fault_stays rows n strict limit (take k bytes) (drop k bytes) f other d in
        let same : f ≡ fault = err_is f fault (sym stays ∙ whole k) in
        let q = at_fault rows n strict limit (take k bytes) f other d in
        let one : q.0 ≡ place = one_place fault q.0 place (subst (λ (g : ReadFault). IsAt g q.0) same q.1) at in
        omega (arith, q.2, length-take k bytes)

    before : (k place : ℕ) → IsAt fault place → k < place → (r : Reading (Value × ℕ)) → read_at rows n strict limit (take k bytes) ≡ r → r ≡ Err faults.Short
    before k place at lt (Ok x) d = let stays = read_stays rows n strict limit (take k bytes) (drop k bytes) x.0 x.1 d in let no_way : done x ≡ Err fault = sym stays ∙ whole k in absurd cc
    before k place at lt (Err faults.Short) d = refl
    before k place at lt (Err (faults.NotSpelled p kind)) d = absurd (wrong k place at lt (faults.NotSpelled p kind) (λ q. cc) d)
    before k place at lt (Err (faults.TooDeep p)) d = absurd (wrong k place at lt (faults.TooDeep p) (λ q. cc) d)
    before k place at lt (Err (faults.TooLong p)) d = absurd (wrong k place at lt (faults.TooLong p) (λ q. cc) d)
    before k place at lt (Err faults.NoMemory) d = absurd (wrong k place at lt faults.NoMemory (λ q. cc) d)
