-- Octets past the limit of a table file.
use Rattle.std.proofs.Common.{◌≡◌, ℕ, ◌<◌, true, List, length, take, sym, ap, arith}
use Rattle.std.specs.Prelude.{nat_lt}
use Rattle.std.proofs.lemmas.List.{length-take-le}
use Rattle.std.proofs.lemmas.Bool.Decides.{nat_tests}
use Rattle.table_file.specs.Loading.{file_at, ended, load_of}

pub front : (bytes : List ℕ) → 16777216 < length bytes → length (take 16777216 bytes) ≡ 16777216
front bytes lt = length-take-le 16777216 bytes (omega arith)

pub long_load : (bytes : List ℕ) → 16777216 < length bytes → load_of bytes ≡ ended true (length (take 16777216 bytes)) (file_at (take 16777216 bytes))
unfolding load_of
long_load bytes lt =
    let t : nat_lt 16777216 (length bytes) ≡ true = grind (arith, nat_tests) in
    rw t (ap (λ (k : ℕ). ended true k (file_at (take 16777216 bytes))) (sym (front bytes lt)))
