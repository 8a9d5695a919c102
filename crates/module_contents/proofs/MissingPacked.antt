-- Octets spell no value in the packed syntax of a row that isn't there.
use Rattle.std.proofs.Common.{◌≡◌, ℕ, zero, suc, List, length, Option, None, Ok, refl, ap}
use Rattle.std.specs.List.{slice_get}
use Rattle.asn1_types.specs.declared.row.TypeRow.{TypeRow}
use Rattle.asn1_types.specs.Rows.{along, of_row}
use Rattle.asn1_types.specs.Writing.{written}
use Rattle.packed_codec.specs.Reading.{◌>>=◌}
use Rattle.packed_codec.specs.Rules.{Reader, dead, read_by, reads, start, read_at}
use Rattle.end_rules.specs.Base.{Unspelled}
use Rattle.end_wire.specs.Heads.{packed_value}

no_rule : (rows : List TypeRow) (turns n : ℕ) → slice_get rows n ≡ None → along dead (read_by (written rows)) rows turns n ≡ dead
no_rule rows zero n e = refl
no_rule rows (suc turns) n e =
    ap (λ (r : Option TypeRow). of_row dead (read_by (written rows) (along dead (read_by (written rows)) rows turns)) r) e

no_reader : (rows : List TypeRow) (n : ℕ) → slice_get rows n ≡ None → reads rows n ≡ dead
unfolding reads
no_reader rows n e = no_rule rows (length rows) n e

pub none_read : (rows : List TypeRow) (n limit : ℕ) (octets : List ℕ) → slice_get rows n ≡ None → packed_value (length octets) (read_at rows n limit octets) ≡ Unspelled
unfolding read_at
none_read rows n limit octets e =
    ap (λ (f : Reader). packed_value (length octets) (f limit (start octets) >>= (λ x. Ok (x.0, x.1.place)))) (no_reader rows n e)
