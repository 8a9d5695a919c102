-- The test of octets, and what it tells.
use Rattle.std.proofs.Common.{◌≡◌, ℕ, true, ◌<◌, List, [], ◌∷◌, sym, arith}
use Rattle.std.specs.List.{list_all}
use Rattle.std.proofs.lemmas.Bool.{and_parts}
use Rattle.std.proofs.lemmas.Bool.Decides.{nat_tests}
use Rattle.osi_base.specs.Octets.{AreOctets}
use Rattle.osi_base.proofs.OctetLaws.{no_octets, octets_more}
use Rattle.asn1_types.specs.Fits.{is_octet}
use Rattle.asn1_types.proofs.FitLaws.{all_octets}

octet_small : (o : ℕ) → is_octet o ≡ true → o < 256
octet_small o e = grind (arith, nat_tests)

pub octets_by_test : (os : List ℕ) → list_all is_octet os ≡ true → AreOctets os
octets_by_test [] e = no_octets
octets_by_test (o ∷ os) e =
    let h = and_parts (is_octet o) (list_all is_octet os) e in
    octets_more o os (octet_small o h.0) (octets_by_test os h.1)

pub octets_pass : (os : List ℕ) → AreOctets os → list_all is_octet os ≡ true
octets_pass os h = sym (all_octets os h.each)
