-- A SET of the mode selector and the fields, as the table has it, is one of both in any order.
use Rattle.std.proofs.Common.{◌≡◌, ℕ, zero, suc, false, List, [], ◌∷◌, ◌++◌, Option, Some, None, ◌⊎◌, inl, inr, refl, sym, ap, ◌∙◌, subst}
use Rattle.std.specs.Prelude.{codes, slice_get, slice_set}
use Rattle.asn1_types.specs.declared.row.Part.{Part}
use Rattle.asn1_types.specs.Value.{Value, parts}
use Rattle.asn1_types.specs.ValueView.{parts_of}
use Rattle.asn1_types.specs.FixedRows.{part}
use Rattle.ber_spelling.specs.Order.{Filled}
use Rattle.ber_spelling.specs.Rules.{plain, set_done, nothing_filled}
use Rattle.ber_spelling.specs.Spelling.{IsConstructed, Steps, SetStep, SetIs, SpelledBy}
use Rattle.passed_fields.proofs.MoreTurns.{constructed_more, turns_more}
use Rattle.presentation_pdus.specs.Rows.{ppdu_rows}
use Rattle.presentation_pdus.specs.Fields.{set_tag}
use Rattle.presentation_pdus.specs.Selected.{Relation, Halves, HalfStep, HalvesAre, SelectedIs}
use Rattle.presentation_pdus.specs.Units.{ModeIs}

-- a list of two slots keeps two
record IsPair (found : List (Option Value)) : Type 0 where
  first : Option Value
  second : Option Value
  are : found ≡ first ∷ second ∷ []

module _ (r : ℕ) where
  abbrev set_parts : List Part
  set_parts = part (codes "mode") 31 false ∷ part (codes "fields") r false ∷ []

  abbrev Step : ℕ → Filled → Filled → List ℕ → Type 0
  Step levels a b s = SetStep (SpelledBy ppdu_rows 63) set_parts a false levels b s

  set_pair : (a b : Option Value) (which : ℕ) (p : Part) (o : Option Value) → slice_get set_parts which ≡ Some p → IsPair (slice_set (a ∷ b ∷ []) which o)
  set_pair a b zero p o e = record { first = o; second = b; are = refl }
  set_pair a b (suc zero) p o e = record { first = a; second = o; are = refl }
  set_pair a b (suc (suc n)) p o e = absurd cc

  pair_kept : (levels : ℕ) (steps : List (List ℕ × Filled)) (before last : Filled) (c : List ℕ) → IsPair before.found → Steps (Step levels) steps before last c → IsPair last.found
  pair_kept levels [] before last c two p = subst (λ (f : Filled). IsPair f.found) p.0 two
  pair_kept levels (s ∷ more) before last c two p =
      let q = p.2 in
      let after : s.1.found ≡ slice_set (two.first ∷ two.second ∷ []) q.0 (Some q.2) = ap (λ (f : Filled). f.found) q.7 ∙ ap (λ (x : List (Option Value)). slice_set x q.0 (Some q.2)) two.are in
      pair_kept levels more s.1 last p.0 (subst IsPair (sym after) (set_pair two.first two.second q.0 q.1 (Some q.2) q.3)) p.3

  both_are : (last : Filled) (m f : Value) → IsPair last.found → set_done set_parts last ≡ Some (parts (parts_of (Some m ∷ Some f ∷ []))) → last.found ≡ Some m ∷ Some f ∷ []
  both_are last m f two d = by_slots two.first two.second two.are
    where
      told : (x y : Option Value) → last.found ≡ x ∷ y ∷ [] → set_done set_parts (record { found = x ∷ y ∷ []; least = last.least }) ≡ Some (parts (parts_of (Some m ∷ Some f ∷ [])))
      told x y e = ap (λ (l : List (Option Value)). set_done set_parts (record { found = l; least = last.least })) (sym e) ∙ d

      by_slots : (x y : Option Value) → last.found ≡ x ∷ y ∷ [] → last.found ≡ Some m ∷ Some f ∷ []
      by_slots None y e = absurd (let wrong = told None y e in cc)
      by_slots (Some x) None e = absurd (let wrong = told (Some x) None e in cc)
      by_slots (Some x) (Some y) e =
          let t = told (Some x) (Some y) e in
          let first : x ≡ m = cc in
          let second : y ≡ f = cc in
          e ∙ ap (λ (w : Value). Some w ∷ Some y ∷ []) first ∙ ap (λ (w : Value). Some m ∷ Some w ∷ []) second

  module _ (m f g : Value) (F : Relation) (levels : ℕ) (as_fields : (s : List ℕ) → SpelledBy ppdu_rows 64 r plain false levels f s → F false levels g s) where
    abbrev swap : Option Value → Option Value
    swap None = None
    swap (Some w) = Some g

    record Back (a b : Option Value) (c : List ℕ) : Type 0 where
      first : (a ≡ None) ⊎ (a ≡ Some m)
      second : (b ≡ None) ⊎ (b ≡ Some f)
      steps : List (List ℕ × Halves)
      are : Steps (λ x y s. HalfStep ModeIs F x false levels y s) steps (a, swap b) (Some m, Some g) c

    is_some : (v w : Value) → ((Some v ≡ None) ⊎ (Some v ≡ Some w)) → v ≡ w
    is_some v w (inl e) = absurd cc
    is_some v w (inr e) = cc

    -- the mode
    mode_step : (b : Option Value) (v : Value) (s others c : List ℕ) → SpelledBy ppdu_rows 63 31 plain false levels v s → c ≡ s ++ others → Back (Some v) b others → Back None b c
    mode_step b v s others c h e k =
        let same : v ≡ m = is_some v m k.first in
        let spelled : ModeIs false levels m s = subst (λ (x : Value). SpelledBy ppdu_rows 64 31 plain false levels x s) same (turns_more ppdu_rows 1 63 31 plain false levels v s h) in
        record {
          first = inl refl;
          second = k.second;
          steps = (s, (Some v, swap b)) ∷ k.steps;
          are = (others, e, inl (m, refl, ap (λ (x : Value). (Some x, swap b)) same, spelled), k.are);
        }

    -- the fields
    fields_step : (a : Option Value) (v : Value) (s others c : List ℕ) → SpelledBy ppdu_rows 63 r plain false levels v s → c ≡ s ++ others → Back a (Some v) others → Back a None c
    fields_step a v s others c h e k =
        let same : v ≡ f = is_some v f k.second in
        let spelled : F false levels g s = as_fields s (subst (λ (x : Value). SpelledBy ppdu_rows 64 r plain false levels x s) same (turns_more ppdu_rows 1 63 r plain false levels v s h)) in
        record {
          first = k.first;
          second = inl refl;
          steps = (s, (a, Some g)) ∷ k.steps;
          are = (others, e, inr (g, refl, refl, spelled), k.are);
        }

    none_is : (o : Option Value) → Some o ≡ Some None → o ≡ None
    none_is o e = cc

    back : (steps : List (List ℕ × Filled)) (before last : Filled) (a b : Option Value) (c : List ℕ) → before.found ≡ a ∷ b ∷ [] → last.found ≡ Some m ∷ Some f ∷ [] → Steps (Step levels) steps before last c → Back a b c
    back [] before last a b c start end p =
        let same : a ∷ b ∷ [] ≡ Some m ∷ Some f ∷ [] = sym start ∙ ap (λ (x : Filled). x.found) p.0 ∙ end in
        let first : a ≡ Some m = cc in
        let second : b ≡ Some f = cc in
        record {
          first = inr first;
          second = inr second;
          steps = [];
          are = (ap (λ (x : Option Value). (x, swap b)) first ∙ ap (λ (x : Option Value). (Some m, swap x)) second, p.1);
        }
    back (s ∷ more) before last a b c start end p =
        let q = p.2 in
        by_slot q.0 q.1 q.2 q.3 (ap (λ (x : List (Option Value)). slice_get x q.0) (sym start) ∙ q.4) q.5 (ap (λ (x : Filled). x.found) q.7 ∙ ap (λ (x : List (Option Value)). slice_set x q.0 (Some q.2)) start) (λ x y h. back more s.1 last x y p.0 h end p.3)
      where
        by_slot : (which : ℕ) (t : Part) (v : Value) → slice_get set_parts which ≡ Some t → slice_get (a ∷ b ∷ []) which ≡ Some None → SpelledBy ppdu_rows 63 t.inner.0 (record { tag = None; default = t.default }) false levels v s.0 → s.1.found ≡ slice_set (a ∷ b ∷ []) which (Some v)
            → ((x y : Option Value) → s.1.found ≡ x ∷ y ∷ [] → Back x y p.0) → Back a b c
        by_slot zero t v e free h after ih =
            let same : t ≡ part (codes "mode") 31 false = cc in
            let spelled = subst (λ (x : Part). SpelledBy ppdu_rows 63 x.inner.0 (record { tag = None; default = x.default }) false levels v s.0) same h in
            let none : a ≡ None = none_is a free in
            subst (λ (x : Option Value). Back x b c) (sym none) (mode_step b v s.0 p.0 c spelled p.1 (ih (Some v) b after))
        by_slot (suc zero) t v e free h after ih =
            let same : t ≡ part (codes "fields") r false = cc in
            let spelled = subst (λ (x : Part). SpelledBy ppdu_rows 63 x.inner.0 (record { tag = None; default = x.default }) false levels v s.0) same h in
            let none : b ≡ None = none_is b free in
            subst (λ (x : Option Value). Back a x c) (sym none) (fields_step a v s.0 p.0 c spelled p.1 (ih a (Some v) after))
        by_slot (suc (suc n)) t v e free h after ih = absurd cc

    halves_are : (c : List ℕ) → SetIs (SpelledBy ppdu_rows 63) set_parts false (parts (parts_of (Some m ∷ Some f ∷ []))) levels c → HalvesAre ModeIs F false levels (parts (parts_of (Some m ∷ Some g ∷ []))) c
    halves_are c p =
        let two = pair_kept levels p.2 (nothing_filled set_parts) p.0 c (record { first = None; second = None; are = refl }) p.3 in
        let end = both_are p.0 m f two p.1 in
        let k = back p.2 (nothing_filled set_parts) p.0 None None c refl end p.3 in
        ((Some m, Some g), refl, k.steps, k.are)

  pub set_selected : (m f g : Value) (F : Relation) → ((levels : ℕ) (s : List ℕ) → SpelledBy ppdu_rows 64 r plain false levels f s → F false levels g s) → (levels : ℕ) (octets : List ℕ)
      → IsConstructed set_tag false levels (λ l c. SetIs (SpelledBy ppdu_rows 63) set_parts false (parts (parts_of (Some m ∷ Some f ∷ []))) l c) octets → SelectedIs ModeIs F false levels (parts (parts_of (Some m ∷ Some g ∷ []))) octets
  set_selected m f g F conv levels octets p =
      constructed_more set_tag false levels (λ l c. SetIs (SpelledBy ppdu_rows 63) set_parts false (parts (parts_of (Some m ∷ Some f ∷ []))) l c) (λ l c. HalvesAre ModeIs F false l (parts (parts_of (Some m ∷ Some g ∷ []))) c)
      (λ l c q. halves_are m f g F l (conv l) c q) octets p
