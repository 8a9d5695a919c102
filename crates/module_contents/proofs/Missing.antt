-- Octets spell no value of a row that isn't there.
use Rattle.std.proofs.Common.{◌≡◌, ℕ, ◌<◌, ◌≤◌, Bool, true, false, IsTrue, ◌↔◌, List, length, sym}
use Rattle.std.proofs.lemmas.Option.{slice_get_past}
use Rattle.osi_base.specs.declared.syntax.Syntax.{Syntax}
use Rattle.osi_base.specs.declared.syntax.Syntax.TheVariants.{Ber, Der, Packed}
use Rattle.asn1_types.specs.declared.table.TypeTable.{TypeTable}
use Rattle.asn1_types.proofs.FitLaws.{not_within}
use Rattle.end_rules.specs.Base.{Unspelled}
use Rattle.end_wire.specs.Heads.{value_at}
use Rattle.module_contents.proofs.MissingBer as ber
use Rattle.module_contents.proofs.MissingPacked as packed

pub no_row : (s : Syntax) (types : TypeTable) (limit n : ℕ) (octets : List ℕ) → length types ≤ n → Unspelled ≡ value_at s types limit n octets
unfolding value_at
no_row Ber types limit n octets le = sym (ber.none_read types n false limit octets (slice_get_past types n le))
no_row Der types limit n octets le = sym (ber.none_read types n true limit octets (slice_get_past types n le))
no_row Packed types limit n octets le = sym (packed.none_read types n limit octets (slice_get_past types n le))

pub not_there : (b : Bool) (n len : ℕ) → IsTrue b ↔ (n < len) → b ≡ false → len ≤ n
not_there true n len h e = absurd cc
not_there false n len h e = not_within len n (λ lt. let x : false ≡ true = h.1 lt in absurd cc)
