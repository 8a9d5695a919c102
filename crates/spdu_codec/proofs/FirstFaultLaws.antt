-- The fault of a transport unit: it is given where it is the first one, and no other.
use Rattle.std.proofs.Common.{◌≡◌, ℕ, ◌+◌, ◌<◌, ◌≤◌, ◌==◌, Bool, true, false, List, [], ◌∷◌, length, Option, Some, None, Result, Ok, Err, refl, sym, ap, subst, ◌∙◌, inl, inr, arith}
use Rattle.std.specs.Prelude.{◌⊎◌, ◌&&◌, ◌||◌, not, IfErr}
use Rattle.std.proofs.lemmas.Bool.{cases_Bool, and_parts, or_parts}
use Rattle.std.proofs.lemmas.List.{length-append}
use Rattle.osi_base.specs.declared.layer_words.Kind.TheVariants as why
use Rattle.osi_base.specs.declared.session_word.SessionWord.{SessionWord}
use Rattle.osi_base.proofs.OctetLaws.{octets_right}
use Rattle.osi_base.specs.Octets.{AreOctets}
use Rattle.spdu_codec.specs.declared.fault.SFault.{SFault}
use Rattle.spdu_codec.specs.declared.fault.SFault.TheVariants as faults
use Rattle.spdu_codec.specs.declared.kind.SpduKind.{SpduKind}
use Rattle.spdu_codec.specs.declared.kind.SpduKind.TheVariants as kinds
use Rattle.spdu_codec.specs.declared.parameters.Parameters.{Parameters}
use Rattle.spdu_codec.specs.Tables.{first_units, second_units}
use Rattle.spdu_codec.specs.Words.{word_of, has_information, leads}
use Rattle.spdu_codec.specs.Reading.{Gives, UnitFault, at, ◌>>=◌, front, unit_at, worded, last_word, is_first, second_at, behind_first, units_at}
use Rattle.spdu_codec.specs.Wire.{AreUnits}
use Rattle.spdu_codec.specs.Faults.{HasUnitFault, EndFault, LastFault, SecondFault, FirstFault, IsFirstFault}
use Rattle.spdu_codec.proofs.Results.{chosen}
use Rattle.spdu_codec.proofs.WireLaws.{unit_found, unit_again, worded_found, other, all_found, all_again}
use Rattle.spdu_codec.proofs.FaultLaws.{bad, err_is, failed, outcome, unit_fault, unit_wrong}

-- ---- the unit that stands last

worded_fault : (place : ℕ) (o : Option SessionWord) (f : UnitFault) → worded place o ≡ Err f → (o ≡ None) × (f ≡ at place why.Missing)
worded_fault place None f e = (refl, sym (err_is SessionWord (at place why.Missing) f e))
worded_fault place (Some word) f e = absurd cc

some_are : (xs : List ℕ) → (length xs == 0) ≡ false → 0 < length xs
some_are [] e = absurd cc
some_are (x ∷ xs) e = omega arith

are_some : (xs : List ℕ) → 0 < length xs → (length xs == 0) ≡ false
are_some [] e = absurd (omega arith)
are_some (x ∷ xs) e = other (length (x ∷ xs)) 0 (λ h. omega arith)

last_fault : (end : ℕ) (kind : SpduKind) (p : Parameters) (behind : List ℕ) (f : UnitFault) → last_word end kind p behind ≡ Err f → EndFault kind p (front end behind) behind f
last_fault end kind p behind f e =
    elim (failed (worded (front end behind) (word_of kind true p behind)) _ f e) [
      | inl h ↦ inl (worded_fault (front end behind) (word_of kind true p behind) f h)
      | inr h ↦ (
          elim (chosen (has_information kind || length behind == 0) (Ok h.0) (Err (at (front end behind) why.Extra)) (Err f) h.2) [
            | inl g ↦ absurd (let i = g.1 in cc)
            | inr g ↦ (
                let n = or_parts (has_information kind) (length behind == 0) g.0 in
                inr (h.0, worded_found (front end behind) (word_of kind true p behind) h.0 h.1, n.0, some_are behind n.1, sym (err_is SessionWord (at (front end behind) why.Extra) f g.1)))
          ])
    ]

last_wrong : (end : ℕ) (kind : SpduKind) (p : Parameters) (behind : List ℕ) (f : UnitFault) → EndFault kind p (front end behind) behind f → last_word end kind p behind ≡ Err f
last_wrong end kind p behind f (inl h) = rw h.0 (ap (bad SessionWord) (sym h.1))
last_wrong end kind p behind f (inr h) =
    let some = are_some behind h.3 in
    let closed : (has_information kind || length behind == 0) ≡ false = (rw (h.2, some) refl) in
    rw (h.1, closed) (ap (bad SessionWord) (sym h.4))

-- ---- the unit that stands second

second_fault : (end : ℕ) (xs : List ℕ) (f : UnitFault) → AreOctets xs → length xs ≤ end → second_at end xs ≡ Err f → LastFault second_units (front end xs) xs f
second_fault end xs f fits le e =
    elim (failed (unit_at second_units end xs) (λ u. last_word end u.0 u.1 u.2) f e) [
      | inl h ↦ inl (unit_fault second_units end xs f fits le h)
      | inr h ↦ (
          let u = h.0 in
          let g = unit_found second_units end xs u fits h.1 in
          let place : front end u.2 ≡ front end xs + length g.0 = omega (arith, ap length g.2, length-append g.0 u.2) in
          inr (record {
            kind = u.0;
            found = u.1;
            unit = g.0;
            behind = u.2;
            is = g.1;
            parts = g.2;
            wrong = subst (λ (n : ℕ). EndFault u.0 u.1 n u.2 f) place (last_fault end u.0 u.1 u.2 f h.2);
          }))
    ]

second_wrong : (end : ℕ) (xs : List ℕ) (f : UnitFault) → AreOctets xs → length xs ≤ end → LastFault second_units (front end xs) xs f → second_at end xs ≡ Err f
second_wrong end xs f fits le (inl w) = ap (λ r. r >>= λ u. last_word end u.0 u.1 u.2) (unit_wrong second_units end xs f fits le w)
second_wrong end xs f fits le (inr w) =
    let place : front end xs + length w.unit ≡ front end w.behind = omega (arith, ap length w.parts, length-append w.unit w.behind) in
    ap (λ t. unit_at second_units end t >>= λ u. last_word end u.0 u.1 u.2) w.parts
    ∙ ap (λ r. r >>= λ u. last_word end u.0 u.1 u.2) (unit_again second_units end w.kind w.found w.unit w.behind w.is)
    ∙ last_wrong end w.kind w.found w.behind f (subst (λ (n : ℕ). EndFault w.kind w.found n w.behind f) place w.wrong)

-- ---- all units

-- a unit in front of another has a word whatever its parameters
front_word : (kind : SpduKind) (p : Parameters) → leads kind ≡ true → (word : SessionWord) × (word_of kind false p [] ≡ Some word)
front_word kinds.GiveTokens p e = (_, refl)
front_word kinds.PleaseTokens p e = (_, refl)
front_word _ p e = absurd cc

first_false : (b : Bool) (behind : List ℕ) → (b && not (length behind == 0)) ≡ false → (b ≡ false) ⊎ (behind ≡ [])
first_false false behind e = inl refl
first_false true [] e = inr refl
first_false true (x ∷ behind) e = absurd (let s = are_some (x ∷ behind) (omega arith) in let g : not (length (x ∷ behind) == 0) ≡ true = ap not s in cc)

not_lead : (b : Bool) (behind : List ℕ) → (b ≡ false) ⊎ (behind ≡ []) → (b && not (length behind == 0)) ≡ false
not_lead false behind e = refl
not_lead true behind (inl e) = absurd cc
not_lead true behind (inr e) = ap (λ (l : List ℕ). not (length l == 0)) e

first_true : (b : Bool) (behind : List ℕ) → (b && not (length behind == 0)) ≡ true → (b ≡ true) × (0 < length behind)
first_true b behind e = (let g = and_parts b (not (length behind == 0)) e in (g.0, some_are behind (let i = g.1 in elim (cases_Bool (length behind == 0)) [ inl h ↦ absurd (let j : not true ≡ true = ap not (sym h) ∙ i in cc) | inr h ↦ h ])))

abbrev failing : UnitFault → Result (List SessionWord) UnitFault
failing f = Err f

behind_fault : (end : ℕ) (kind : SpduKind) (p : Parameters) (behind : List ℕ) (f : UnitFault) → AreOctets behind → length behind ≤ end → behind_first end (kind, p, behind) ≡ Err f
    → SecondFault kind p (front end behind) behind f
behind_fault end kind p behind f fits le e =
    elim (chosen (is_first kind behind) _ _ (Err f) e) [
      | inl h ↦ (
          let b = first_true (leads kind) behind h.0 in
          let word = front_word kind p b.0 in
          elim (failed (worded (front end behind) (word_of kind false p [])) _ f h.1) [
            | inl g ↦ absurd (let i = sym (worded_fault (front end behind) (word_of kind false p []) f g).0 ∙ word.1 in cc)
            | inr g ↦ (
                elim (failed (second_at end behind) _ f g.2) [
                  | inl i ↦ inl (b.0, b.1, second_fault end behind f fits le i)
                  | inr i ↦ absurd (let j = i.2 in cc)
                ])
          ])
      | inr h ↦ (
          let b = first_false (leads kind) behind h.0 in
          elim (failed (last_word end kind p behind) _ f h.1) [
            | inl g ↦ inr (b, last_fault end kind p behind f g)
            | inr g ↦ absurd (let i = g.2 in cc)
          ])
    ]

behind_wrong : (end : ℕ) (kind : SpduKind) (p : Parameters) (behind : List ℕ) (f : UnitFault) → AreOctets behind → length behind ≤ end → SecondFault kind p (front end behind) behind f
    → behind_first end (kind, p, behind) ≡ Err f
behind_wrong end kind p behind f fits le (inl w) =
    let some = are_some behind w.1 in
    let leading : is_first kind behind ≡ true = (let l = w.0 in rw (l, some) refl) in
    let word = front_word kind p w.0 in
    rw (leading, word.1, second_wrong end behind f fits le w.2) refl
behind_wrong end kind p behind f fits le (inr w) =
    let alone : is_first kind behind ≡ false = not_lead (leads kind) behind w.0 in
    rw (alone, last_wrong end kind p behind f w.1) refl

pub is_first_fault : (xs : List ℕ) (f : UnitFault) → AreOctets xs → units_at xs ≡ Err f → FirstFault xs f
unfolding units_at
is_first_fault xs f fits e =
    let end = length xs in
    let start : front end xs ≡ 0 = omega arith in
    elim (failed (unit_at first_units end xs) (behind_first end) f e) [
      | inl h ↦ inl (subst (λ (n : ℕ). HasUnitFault first_units n xs f) start (unit_fault first_units end xs f fits (omega arith) h))
      | inr h ↦ (
          let u = h.0 in
          let g = unit_found first_units end xs u fits h.1 in
          let n = ap length g.2 in
          let m = length-append g.0 u.2 in
          let place : front end u.2 ≡ 0 + length g.0 = omega (arith, n, m) in
          inr (record {
            kind = u.0;
            found = u.1;
            unit = g.0;
            behind = u.2;
            is = g.1;
            parts = g.2;
            wrong = subst (λ (k : ℕ). SecondFault u.0 u.1 k u.2 f) place (behind_fault end u.0 u.1 u.2 f (octets_right g.0 u.2 (subst AreOctets g.2 fits)) (omega (arith, n, m)) h.2);
          }))
    ]

pub first_is_given : (xs : List ℕ) (f : UnitFault) → AreOctets xs → FirstFault xs f → units_at xs ≡ Err f
unfolding units_at
first_is_given xs f fits (inl w) =
    let end = length xs in
    let start : 0 ≡ front end xs = omega arith in
    ap (λ r. r >>= behind_first end) (unit_wrong first_units end xs f fits (omega arith) (subst (λ (n : ℕ). HasUnitFault first_units n xs f) start w))
first_is_given xs f fits (inr w) =
    let end = length xs in
    let n = ap length w.parts in
    let m = length-append w.unit w.behind in
    let place : 0 + length w.unit ≡ front end w.behind = omega (arith, n, m) in
    ap (λ t. unit_at first_units end t >>= behind_first end) w.parts
    ∙ ap (λ r. r >>= behind_first end) (unit_again first_units end w.kind w.found w.unit w.behind w.is)
    ∙ behind_wrong end w.kind w.found w.behind f (octets_right w.unit w.behind (subst AreOctets w.parts fits)) (omega (arith, n, m)) (subst (λ (k : ℕ). SecondFault w.kind w.found k w.behind f) place w.wrong)

-- ---- what the laws say

pub either : (xs : List ℕ) → AreOctets xs → ((words : List SessionWord) × AreUnits words xs) ⊎ ((f : UnitFault) × FirstFault xs f)
either xs fits = elim (outcome (units_at xs)) [ inl h ↦ inl (h.0, all_found xs h.0 fits h.1) | inr h ↦ inr (h.0, is_first_fault xs h.0 fits h.1) ]

abbrev read : List SessionWord → Result (List SessionWord) UnitFault
read words = Ok words

pub never_both : (xs : List ℕ) (words : List SessionWord) (f : UnitFault) → AreOctets xs → AreUnits words xs → FirstFault xs f → ⊥
never_both xs words f fits are is = (let e : read words ≡ failing f = sym (all_again xs words are) ∙ first_is_given xs f fits is in cc)

pub one_first : (xs : List ℕ) (f g : UnitFault) → AreOctets xs → FirstFault xs f → FirstFault xs g → f ≡ g
one_first xs f g fits a b = err_is (List SessionWord) f g (sym (first_is_given xs f fits a) ∙ first_is_given xs g fits b)

-- what a reader found, seen through its result
pub fault_of : (r : Result (List SessionWord) SFault) (xs : List ℕ) → AreOctets xs → Gives r (units_at xs) → IfErr r (IsFirstFault xs)
fault_of (Ok words) xs fits e = tt
fault_of (Err faults.NoMemory) xs fits e = tt
fault_of (Err (faults.At place kind)) xs fits e = is_first_fault xs (at place kind) fits e
