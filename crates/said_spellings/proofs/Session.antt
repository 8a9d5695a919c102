-- Units of the session that may be written: their octets, and how many.
use Rattle.std.proofs.Common.{◌≡◌, refl, true, false, arith, ℕ, ◌+◌, ◌/◌, ◌%◌, ◌≤◌, ◌<◌, List, [], ◌∷◌, ◌++◌, map, length}
use Rattle.std.specs.Prelude.{Bool, None, nat_lt, if◌then◌else◌}
use Rattle.std.specs.Int.Digits.{digits_of, AllBelowBase}
use Rattle.std.proofs.lemmas.Int.Digits.{all_below_base_digits_of}
use Rattle.std.proofs.Math.Nat.{mod-lt}
use Rattle.std.proofs.lemmas.Bool.Decides.{nat_tests}
use Rattle.std.proofs.lemmas.List.{length-append}
use Rattle.osi_base.specs.declared.session_word.SessionWord.{SessionWord}
use Rattle.osi_base.specs.declared.session_word.SessionWord.TheVariants as units
use Rattle.osi_base.specs.Octets.{AreOctets}
use Rattle.osi_base.proofs.OctetLaws.{octets_join, octets_more, no_octets}
use Rattle.asn1_types.proofs.OctetTests.{octets_by_test}
use Rattle.spdu_codec.specs.Written.{written_length, coded, spelled, numeral, parameters_written, code_written, information_written, unit_written, units_written, AreFields, Fits, stands_alone, stands_second, AreWritable, octets_in}
use Rattle.spdu_codec.proofs.SizeLaws.{word_size}

-- a parameter of a low code
abbrev pub IsParameter : ℕ × List ℕ → Type 0
IsParameter p = (p.0 < 256) × AreOctets p.1

abbrev pub AreParameters : List (ℕ × List ℕ) → Type 0
AreParameters [] = Unit {0}
AreParameters (p ∷ ps) = IsParameter p × AreParameters ps

length-are : (n : ℕ) → AreOctets (written_length n)
length-are n = go (nat_lt n 255) refl
  where
    low : (n : ℕ) → nat_lt n 255 ≡ true → n < 256
    low n e = grind (arith, nat_tests)

    go : (b : Bool) → nat_lt n 255 ≡ b → AreOctets (if b then n ∷ [] else 255 ∷ n / 256 % 256 ∷ n % 256 ∷ [])
    go true e = octets_more n [] (low n e) no_octets
    go false e =
        octets_more 255 (n / 256 % 256 ∷ n % 256 ∷ []) (omega arith)
        (octets_more (n / 256 % 256) (n % 256 ∷ []) (mod-lt (n / 256) (omega arith)) (octets_more (n % 256) [] (mod-lt n (omega arith)) no_octets))

coded-are : (code : ℕ) (value : List ℕ) → code < 256 → AreOctets value → AreOctets (coded code value)
coded-are code value low h = octets_more code (written_length (length value) ++ value) low (octets_join (written_length (length value)) value (length-are (length value)) h)

pub spelled-are : (ps : List (ℕ × List ℕ)) → AreParameters ps → AreOctets (spelled ps)
spelled-are [] h = no_octets
spelled-are (p ∷ ps) h = octets_join (coded p.0 p.1) (spelled ps) (coded-are p.0 p.1 h.0.0 h.0.1) (spelled-are ps h.1)

pub parameters-append : (ps qs : List (ℕ × List ℕ)) → AreParameters ps → AreParameters qs → AreParameters (ps ++ qs)
parameters-append [] qs h k = k
parameters-append (p ∷ ps) qs h k = (h.0, parameters-append ps qs h.1 k)

digits-are : (ds : List ℕ) → AllBelowBase 10 ds → AreOctets (map (λ d. d + 48) ds)
digits-are [] h = no_octets
digits-are (d ∷ ds) h = octets_more (d + 48) (map (λ d. d + 48) ds) (let l : d < 10 = h.0 in omega arith) (digits-are ds h.1)

pub numeral-are : (n : ℕ) → AreOctets (numeral n)
numeral-are n = digits-are (digits_of 10 n) (all_below_base_digits_of 10 n (omega arith))

-- ---- one unit

length-short : (n : ℕ) → length (written_length n) ≤ 3
length-short n = go (nat_lt n 255)
  where
    go : (b : Bool) → length (if b then n ∷ [] else 255 ∷ n / 256 % 256 ∷ n % 256 ∷ []) ≤ 3
    go true = omega arith
    go false = omega arith

pub record Sayable (word : SessionWord) : Type 0 where
  pub fields : AreFields word
  pub few : octets_in word ≤ 60000
  pub code : code_written word < 256
  pub parameters : AreParameters (parameters_written word)
  pub information : AreOctets (information_written word)
  pub within : length (information_written word) ≤ 400000

unit-are : (word : SessionWord) → Sayable word → AreOctets (unit_written word)
unit-are word s =
    octets_join (coded (code_written word) (spelled (parameters_written word))) (information_written word)
    (coded-are (code_written word) (spelled (parameters_written word)) s.code (spelled-are (parameters_written word) s.parameters)) s.information

parameters-few : (word : SessionWord) → Sayable word → length (spelled (parameters_written word)) < 65536
parameters-few word s = let a = word_size word s.fields in let b : octets_in word ≤ 60000 = s.few in omega arith

unit-few : (word : SessionWord) → Sayable word → length (unit_written word) ≤ 500000
unit-few word s =
    let ps : List ℕ = spelled (parameters_written word) in
    let a = parameters-few word s in
    let b = length-short (length ps) in
    let c = length-append (written_length (length ps)) ps in
    let d = length-append (coded (code_written word) ps) (information_written word) in
    let e : length (information_written word) ≤ 400000 = s.within in
    omega arith

pub fits-so : (word : SessionWord) → Sayable word → Fits word
fits-so word s = record { fields = s.fields; size = parameters-few word s }

-- units in their place
pub record Written (words : List SessionWord) : Type 0 where
  pub writable : AreWritable words
  pub octets : AreOctets (units_written words)
  pub few : length (units_written words) ≤ 600000

pub alone : (word : SessionWord) → stands_alone word ≡ true → Sayable word → Written (word ∷ [])
alone word first s =
    record {
      writable = (first, fits-so word s);
      octets = octets_join (unit_written word) [] (unit-are word s) no_octets;
      few = let a = unit-few word s in let b = length-append (unit_written word) [] in omega arith;
    }

-- behind an empty GT
pub behind : (word : SessionWord) → stands_second word ≡ true → Sayable word → Written (units.GiveTokens None ∷ word ∷ [])
behind word second s =
    record {
      writable = (refl, record { fields = tt; size = omega arith }, second, fits-so word s);
      octets = octets_join (1 ∷ 0 ∷ []) (unit_written word ++ []) (octets_by_test (1 ∷ 0 ∷ []) refl) (octets_join (unit_written word) [] (unit-are word s) no_octets);
      few = let a = unit-few word s in let b = length-append (unit_written word) [] in let c = length-append (1 ∷ 0 ∷ []) (unit_written word ++ []) in omega arith;
    }
