-- Octets spell no value in BER of a row that isn't there.
use Rattle.std.proofs.Common.{◌≡◌, ℕ, zero, suc, Bool, List, length, Option, None, Ok, Err, refl, ap, ◌∙◌}
use Rattle.std.specs.List.{slice_get}
use Rattle.asn1_types.specs.declared.row.TypeRow.{TypeRow}
use Rattle.asn1_types.specs.Rows.{along, of_row, begins}
use Rattle.asn1_types.specs.Writing.{written}
use Rattle.ber_spelling.specs.Reading.{Spot, Opened, Reading, ◌>>=◌}
use Rattle.ber_spelling.specs.Fields.{identifier_at}
use Rattle.ber_spelling.specs.Rules.{Reader, plain, dead, read_by, reads, outermost, value_at as at, read_at}
use Rattle.end_rules.specs.Base.{Unspelled}
use Rattle.end_wire.specs.Heads.{whole_value}

no_rule : (rows : List TypeRow) (turns n : ℕ) → slice_get rows n ≡ None → along dead (read_by (begins rows) (written rows)) rows turns n ≡ dead
no_rule rows zero n e = refl
no_rule rows (suc turns) n e =
    ap (λ (r : Option TypeRow). of_row dead (read_by (begins rows) (written rows) (along dead (read_by (begins rows) (written rows)) rows turns)) r) e

no_reader : (rows : List TypeRow) (n : ℕ) → slice_get rows n ≡ None → reads rows n ≡ dead
unfolding reads
no_reader rows n e = no_rule rows (length rows) n e

refused : (end limit : ℕ) (strict : Bool) (r : Reading (Opened × Spot)) → whole_value end ((r >>= (λ x. dead plain (outermost limit strict) x.0 x.1)) >>= (λ x. Ok (x.0, x.1.place))) ≡ Unspelled
refused end limit strict (Ok x) = refl
refused end limit strict (Err f) = refl

pub none_read : (rows : List TypeRow) (n : ℕ) (strict : Bool) (limit : ℕ) (octets : List ℕ) → slice_get rows n ≡ None → whole_value (length octets) (read_at rows n strict limit octets) ≡ Unspelled
unfolding read_at at
none_read rows n strict limit octets e =
    ap (λ (f : Reader). whole_value (length octets) ((identifier_at (outermost limit strict) 0 octets >>= (λ x. f plain (outermost limit strict) x.0 x.1)) >>= (λ x. Ok (x.0, x.1.place)))) (no_reader rows n e)
    ∙ refused (length octets) limit strict (identifier_at (outermost limit strict) 0 octets)
