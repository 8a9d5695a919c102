-- The limit on octets.
use Rattle.std.proofs.Common.{ℕ, ◌≤◌, Bool, List, length, Ok, Err, refl, subst, arith}
use Rattle.asn1_types.specs.declared.row.TypeRow.{TypeRow}
use Rattle.asn1_types.specs.Value.{Value}
use Rattle.ber_spelling.specs.declared.fault.ReadFault.TheVariants as faults
use Rattle.ber_spelling.specs.Reading.{Spot, Reading}
use Rattle.ber_spelling.specs.Fields.{identifier_at}
use Rattle.ber_spelling.specs.Rules.{reads, value_at, read_at, outermost, plain}
use Rattle.ber_spelling.specs.Laws.{ShortIsWithin}
use Rattle.ber_spelling.proofs.Reach.{Bounded, Bounded-bind, Stands, second, identifier_bounded}
use Rattle.ber_spelling.proofs.ReachRules.{along_bounded}

-- what is read ends within the limit
abbrev pub ends_within : ℕ → Value × ℕ → Type 0
ends_within limit x = x.1 ≤ limit

pub read_bounded : (rows : List TypeRow) (n : ℕ) (strict : Bool) (limit : ℕ) (bytes : List ℕ) → Bounded (ends_within limit) limit (length bytes) (read_at rows n strict limit bytes)
unfolding read_at value_at reads
read_bounded rows n strict limit bytes =
    let scope = outermost limit strict in
    let end : ℕ = length bytes in
    Bounded-bind (second limit end 1) (ends_within limit) limit end (value_at rows n scope 0 bytes) _
    (Bounded-bind (second limit end 1) (second limit end 1) limit end (identifier_at scope 0 bytes) _ (identifier_bounded limit end scope 0 bytes refl (omega arith) (omega arith)) (λ x k.
    behind x.1 _ k ((along_bounded rows (length rows) n plain).each limit end scope x.0 x.1 refl (record { ends = k.ends; onward = omega arith; short = k.short })))) (λ x k. k.short)
  where
    behind : (s : Spot) (r : Reading (Value × Spot)) → Stands limit (length bytes) 1 s → Bounded (second limit (length bytes) s.place) limit (length bytes) r → Bounded (second limit (length bytes) 1) limit (length bytes) r
    behind s (Ok x) k h = record { ends = h.ends; onward = let a : 1 ≤ s.place = k.onward in let b : s.place ≤ x.1.place = h.onward in omega arith; short = h.short }
    behind s (Err (faults.NotSpelled place kind)) k h = tt
    behind s (Err faults.Short) k h = h
    behind s (Err (faults.TooDeep place)) k h = tt
    behind s (Err (faults.TooLong place)) k h = tt
    behind s (Err faults.NoMemory) k h = tt

pub short_is_within : ShortIsWithin
short_is_within rows n strict limit bytes e = subst (λ (r : Reading (Value × ℕ)). Bounded (ends_within limit) limit (length bytes) r) e (read_bounded rows n strict limit bytes)
