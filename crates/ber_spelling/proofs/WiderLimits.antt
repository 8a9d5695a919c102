-- Under a larger limit every answer but `TooLong` stays.
use Rattle.std.proofs.Common.{◌≡◌, ◌≢◌, ℕ, ◌≤◌, ◌<◌, Bool, List, length, Ok, Err, refl, sym, ap, ◌∙◌, arith}
use Rattle.asn1_types.specs.declared.row.TypeRow.{TypeRow}
use Rattle.asn1_types.specs.Value.{Value}
use Rattle.ber_spelling.specs.declared.fault.ReadFault.TheVariants as faults
use Rattle.ber_spelling.specs.Reading.{Reading}
use Rattle.ber_spelling.specs.Fields.{identifier_at}
use Rattle.ber_spelling.specs.Rules.{reads, value_at, read_at, outermost, plain}
use Rattle.ber_spelling.specs.Laws.{WiderStays, WiderIsLong}
use Rattle.ber_spelling.proofs.Reach.{Bounded}
use Rattle.ber_spelling.proofs.Limits.{ends_within, read_bounded}
use Rattle.ber_spelling.proofs.Wider.{Wider, same, Wider-bind, identifier_wide}
use Rattle.ber_spelling.proofs.WiderRules.{along_wide}

read_wider : (rows : List TypeRow) (n : ℕ) (strict : Bool) (limit more : ℕ) (bytes : List ℕ) → limit ≤ more → Wider same (read_at rows n strict limit bytes) (read_at rows n strict more bytes)
unfolding read_at value_at reads
read_wider rows n strict limit more bytes le =
    Wider-bind same same (value_at rows n (outermost limit strict) 0 bytes) (value_at rows n (outermost more strict) 0 bytes) _ _
    (Wider-bind same same (identifier_at (outermost limit strict) 0 bytes) (identifier_at (outermost more strict) 0 bytes) _ _ (identifier_wide more (outermost limit strict) 0 bytes le) (λ x e.
    (along_wide more rows (length rows) n plain).each (outermost limit strict) x.0 x.1 le)) (λ x e. refl)

stays : (r s : Reading (Value × ℕ)) → ((place : ℕ) → r ≢ Err (faults.TooLong place)) → Wider same r s → s ≡ r
stays (Ok x) s ne h = h
stays (Err (faults.NotSpelled place kind)) s ne h = h
stays (Err faults.Short) s ne h = h
stays (Err (faults.TooDeep place)) s ne h = h
stays (Err (faults.TooLong place)) s ne h = absurd (ne place refl)
stays (Err faults.NoMemory) s ne h = h

pub wider_stays : WiderStays
wider_stays rows n strict limit more bytes le ne = stays (read_at rows n strict limit bytes) (read_at rows n strict more bytes) ne (read_wider rows n strict limit more bytes le)

abbrev done : Value × ℕ → Reading (Value × ℕ)
done x = Ok x

abbrev used_of : ℕ → Reading (Value × ℕ) → ℕ
used_of n (Ok x) = x.1
used_of n (Err e) = n

long : (limit end used : ℕ) (v : Value) (r s : Reading (Value × ℕ)) → Wider same r s → s ≡ Ok (v, used) → limit < used → Bounded (ends_within limit) limit end r → (place : ℕ) × (r ≡ Err (faults.TooLong place))
long limit end used v (Ok x) s h e lt few =
    let one : done x ≡ done (v, used) = sym h ∙ e in
    let k : x.1 ≡ used = ap (used_of used) one in
    let le : x.1 ≤ limit = few in
    absurd (omega arith)
long limit end used v (Err (faults.NotSpelled place kind)) s h e lt few = absurd (let no : Err (faults.NotSpelled place kind) ≡ done (v, used) = sym h ∙ e in cc)
long limit end used v (Err faults.Short) s h e lt few = absurd (let no : Err faults.Short ≡ done (v, used) = sym h ∙ e in cc)
long limit end used v (Err (faults.TooDeep place)) s h e lt few = absurd (let no : Err (faults.TooDeep place) ≡ done (v, used) = sym h ∙ e in cc)
long limit end used v (Err (faults.TooLong place)) s h e lt few = (place, refl)
long limit end used v (Err faults.NoMemory) s h e lt few = absurd (let no : Err faults.NoMemory ≡ done (v, used) = sym h ∙ e in cc)

pub wider_is_long : WiderIsLong
wider_is_long rows n strict limit more bytes v used le e lt =
    long limit (length bytes) used v (read_at rows n strict limit bytes) (read_at rows n strict more bytes) (read_wider rows n strict limit more bytes le) e lt (read_bounded rows n strict limit bytes)
