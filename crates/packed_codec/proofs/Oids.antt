-- Contents of OBJECT IDENTIFIER: what is read is what is written, and what is written is read.
use Rattle.std.proofs.Common.{◌≡◌, ℕ, ◌+◌, ◌^◌, ◌≤◌, ◌<◌, true, List, [], ◌∷◌, ◌++◌, length, Some, refl, sym, ◌∙◌, arith, ◌⊎◌}
use Rattle.std.specs.Prelude.{nat_le}
use Rattle.std.specs.List.{list_all, flat_map, AllByRecursion}
use Rattle.std.proofs.lemmas.Bool.{and_parts}
use Rattle.osi_base.specs.Oid.{is_oid}
use Rattle.asn1_types.specs.Fits.{has_32_bits}
use Rattle.asn1_types.specs.Writing.{subidentifiers}
use Rattle.osi_base.specs.Octets.{AreOctets}
use Rattle.ber_spelling.specs.Primitives.{arcs_of}
use Rattle.ber_spelling.specs.Spelling.{AreSubidentifiers}
use Rattle.ber_spelling.proofs.Oids.{arcs_small, small_arcs, second_low, well_begun, root_small}
use Rattle.ber_spelling.proofs.Oids as oids
use Rattle.packed_codec.specs.ObjectIds.{base_128, arcs_octets}
use Rattle.packed_codec.proofs.Base128.{base_unique, base_128_is}

-- ---- arcs

-- subidentifiers have at most 35 bits
abbrev AllLow : List ℕ → Type 0
AllLow ns = AllByRecursion (λ n. n < 2 ^ 35) ns

low_more : (ns : List ℕ) → AllByRecursion (λ n. n < 2 ^ 32) ns → AllLow ns
low_more [] h = tt
low_more (n ∷ ns) h = (let lt = h.0 in omega arith, low_more ns h.1)

roots : (root second : ℕ) (arcs : List ℕ) → is_oid (root ∷ second ∷ arcs) ≡ true → ((root < 2) × (second < 40)) ⊎ (root ≡ 2)
roots root second arcs h = second_low root second (and_parts (nat_le (length (root ∷ second ∷ arcs)) 32) _ h).1

subs_low : (arcs : List ℕ) → is_oid arcs ≡ true → AllByRecursion (λ n. n < 2 ^ 32) arcs → AllLow (subidentifiers arcs)
subs_low [] h s = tt
subs_low (root ∷ []) h s = (let lt = s.0 in omega arith, tt)
subs_low (root ∷ second ∷ arcs) h s =
    let le : root ≤ 2 = root_small root second (roots root second arcs h) in
    (let lt = s.1.0 in omega arith, low_more arcs s.1.1)

-- ---- subidentifiers are spelled in one way

subs_written : (ns : List ℕ) → AllLow ns → AreSubidentifiers ns (flat_map base_128 ns)
subs_written [] h = refl
subs_written (n ∷ ns) h = (base_128 n, flat_map base_128 ns, refl, base_128_is n h.0, subs_written ns h.1)

subs_unique : (ns contents : List ℕ) → AllLow ns → AreSubidentifiers ns contents → flat_map base_128 ns ≡ contents
subs_unique [] contents h s = sym s
subs_unique (n ∷ ns) contents h s =
    let first : base_128 n ≡ s.0 = base_unique (base_128 n) s.0 n (base_128_is n h.0) s.3 in
    let others : flat_map base_128 ns ≡ s.1 = subs_unique ns s.1 h.1 s.4 in
    (λ i. first i ++ others i) ∙ sym s.2

-- ---- the rule of contents

pub record IsObjectId (c arcs : List ℕ) : Type 0 where
  pub oid : is_oid arcs ≡ true
  pub small : list_all has_32_bits arcs ≡ true
  pub octets : arcs_octets arcs ≡ c

pub arcs_sound : (c arcs : List ℕ) → AreOctets c → arcs_of c ≡ Some arcs → IsObjectId c arcs
unfolding arcs_octets
arcs_sound c arcs are e =
    let said = oids.arcs_sound c arcs are e in
    let oid = well_begun arcs said.is_oid in
    record {
      oid = oid;
      small = small_arcs arcs said.small;
      octets = subs_unique (subidentifiers arcs) c (subs_low arcs oid said.small) said.are;
    }

pub arcs_complete : (arcs : List ℕ) → is_oid arcs ≡ true → list_all has_32_bits arcs ≡ true → arcs_of (arcs_octets arcs) ≡ Some arcs
unfolding arcs_octets
arcs_complete arcs h s =
    let small = arcs_small arcs s in
    oids.arcs_complete (arcs_octets arcs) arcs (record {
      is_oid = h;
      small = small;
      are = subs_written (subidentifiers arcs) (subs_low arcs h small);
    })
