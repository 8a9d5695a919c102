-- Where a first fault stands, and when it stays.
use Rattle.std.proofs.Common.{◌≡◌, ◌≢◌, ℕ, ◌+◌, ◌<◌, ◌≤◌, Bool, true, false, List, [], ◌∷◌, ◌++◌, length, Option, Some, None, refl, ap, ◌∙◌, append_assoc, inl, inr, arith}
use Rattle.std.proofs.lemmas.List.{length-append}
use Rattle.osi_base.specs.declared.layer_words.Kind.{Kind}
use Rattle.osi_base.specs.declared.layer_words.Kind.TheVariants as why
use Rattle.spdu_codec.specs.declared.kind.SpduKind.{SpduKind}
use Rattle.spdu_codec.specs.declared.kind.SpduKind.TheVariants as kinds
use Rattle.spdu_codec.specs.declared.parameters.Slot.{Slot}
use Rattle.spdu_codec.specs.declared.parameters.Parameters.{Parameters}
use Rattle.spdu_codec.specs.Tables.{first_units, second_units, parameters_of, items_of}
use Rattle.spdu_codec.specs.Parameters.{none_yet}
use Rattle.spdu_codec.specs.Words.{word_of, has_information}
use Rattle.spdu_codec.specs.Reading.{UnitFault, at}
use Rattle.spdu_codec.specs.Wire.{ItemPut, ParameterPut}
use Rattle.spdu_codec.specs.Faults.{ValueFault, ParametersFault, ItemFault, InsideFault, GroupFault, ParameterFault, HasUnitFault, EndFault, BehindFault, SecondFault, FirstFault}

-- ---- a fault stands within the octets, or right behind them

place_is : (f : UnitFault) (place : ℕ) (kind : Kind) → f ≡ at place kind → f.place ≡ place
place_is f place kind e = ap (λ (g : UnitFault). g.place) e

value_within : (Inside : ℕ → List ℕ → UnitFault → Type 0) → ((place : ℕ) (v : List ℕ) (f : UnitFault) → Inside place v f → f.place ≤ place + length v)
    → (place : ℕ) (xs : List ℕ) (f : UnitFault) → ValueFault Inside place xs f → f.place ≤ place + length xs
value_within Inside within place xs f (inl h) = omega (arith, place_is f place why.Length h.1)
value_within Inside within place xs f (inr h) =
    omega (arith, within (place + length h.0) h.1 f h.5, ap length h.4, length-append h.0 (h.1 ++ h.2), length-append h.1 h.2)

parameters_within : (Inside : Option Slot → Parameters → ℕ → List ℕ → UnitFault → Type 0) (One : Option Slot → List ℕ → Parameters → Parameters → Type 0)
    → ((slot : Option Slot) (p : Parameters) (place : ℕ) (v : List ℕ) (f : UnitFault) → Inside slot p place v f → f.place ≤ place + length v)
    → (table : List (ℕ × Slot)) (p : Parameters) (place : ℕ) (xs : List ℕ) (f : UnitFault) → ParametersFault Inside One table p place xs f → f.place ≤ place + length xs
parameters_within Inside One within table p place xs f w =
    let n = ap length w.parts in
    let m = length-append w.before (w.code ∷ w.rest) in
    elim w.wrong [
      | inl h ↦ omega (arith, n, m, place_is f (place + length w.before) why.Extra h.1)
      | inr h ↦ omega (arith, n, m, value_within _ (within _ w.made) (place + length w.before + 1) w.rest f h.1)
    ]

item_within : (slot : Option Slot) (p : Parameters) (place : ℕ) (v : List ℕ) (f : UnitFault) → ItemFault slot p place v f → f.place ≤ place + length v
item_within None p place v f w = absurd w
item_within (Some slot) p place v f w = omega (arith, place_is f place why.Content w.1)

inside_within : (o : Option (List (ℕ × Slot))) (p : Parameters) (place : ℕ) (v : List ℕ) (f : UnitFault) → InsideFault o p place v f → f.place ≤ place + length v
inside_within None p place v f w = absurd w
inside_within (Some table) p place v f w = parameters_within ItemFault ItemPut item_within table p place v f w

group_within : (slot : Option Slot) (p : Parameters) (place : ℕ) (v : List ℕ) (f : UnitFault) → GroupFault slot p place v f → f.place ≤ place + length v
group_within None p place v f w = absurd w
group_within (Some slot) p place v f w = inside_within (items_of slot) p place v f w

parameter_within : (slot : Option Slot) (p : Parameters) (place : ℕ) (v : List ℕ) (f : UnitFault) → ParameterFault slot p place v f → f.place ≤ place + length v
parameter_within slot p place v f (inl w) = item_within slot p place v f w
parameter_within slot p place v f (inr w) = group_within slot w.0 place v f w.2

unit_within : (table : List (ℕ × SpduKind)) (place : ℕ) (xs : List ℕ) (f : UnitFault) → HasUnitFault table place xs f → f.place ≤ place + length xs
unit_within table place [] f w = omega (arith, place_is f place why.Missing w)
unit_within table place (x ∷ xs) f (inl w) = omega (arith, place_is f place why.Tag w.1)
unit_within table place (x ∷ xs) f (inr w) =
    omega (arith, value_within _ (parameters_within ParameterFault ParameterPut parameter_within (parameters_of w.0) none_yet) (place + 1) xs f w.2)

end_within : (kind : SpduKind) (p : Parameters) (place : ℕ) (behind : List ℕ) (f : UnitFault) → EndFault kind p place behind f → f.place ≤ place + length behind
end_within kind p place behind f (inl w) = omega (arith, place_is f place why.Missing w.1)
end_within kind p place behind f (inr w) = omega (arith, place_is f place why.Extra w.4)

behind_within : (Behind : SpduKind → Parameters → ℕ → List ℕ → UnitFault → Type 0)
    → ((kind : SpduKind) (p : Parameters) (place : ℕ) (behind : List ℕ) (f : UnitFault) → Behind kind p place behind f → f.place ≤ place + length behind)
    → (table : List (ℕ × SpduKind)) (place : ℕ) (xs : List ℕ) (f : UnitFault) → BehindFault Behind table place xs f → f.place ≤ place + length xs
behind_within Behind within table place xs f w =
    omega (arith, within w.kind w.found (place + length w.unit) w.behind f w.wrong, ap length w.parts, length-append w.unit w.behind)

second_within : (kind : SpduKind) (p : Parameters) (place : ℕ) (behind : List ℕ) (f : UnitFault) → SecondFault kind p place behind f → f.place ≤ place + length behind
second_within kind p place behind f (inl w) =
    elim w.2 [ inl h ↦ unit_within second_units place behind f h | inr h ↦ behind_within EndFault end_within second_units place behind f h ]
second_within kind p place behind f (inr w) = end_within kind p place behind f w.1

pub first_within : (xs : List ℕ) (f : UnitFault) → FirstFault xs f → f.place ≤ length xs
first_within xs f (inl w) = omega (arith, unit_within first_units 0 xs f w)
first_within xs f (inr w) = omega (arith, behind_within SecondFault second_within first_units 0 xs f w)

-- ---- a fault other than of a length or of what lacks stands whatever follows

kind_is : (f : UnitFault) (place : ℕ) (kind : Kind) → f ≡ at place kind → f.kind ≡ kind
kind_is f place kind e = ap (λ (g : UnitFault). g.kind) e

value_stays : (Inside : ℕ → List ℕ → UnitFault → Type 0) (place : ℕ) (xs ys : List ℕ) (f : UnitFault) → f.kind ≢ why.Length → ValueFault Inside place xs f → ValueFault Inside place (xs ++ ys) f
value_stays Inside place xs ys f ne (inl h) = absurd (ne (kind_is f place why.Length h.1))
value_stays Inside place xs ys f ne (inr h) =
    inr (h.0, h.1, h.2 ++ ys, h.3, ap (λ (l : List ℕ). l ++ ys) h.4 ∙ append_assoc h.0 (h.1 ++ h.2) ys ∙ ap (λ (l : List ℕ). h.0 ++ l) (append_assoc h.1 h.2 ys), h.5)

unit_stays : (table : List (ℕ × SpduKind)) (place : ℕ) (xs ys : List ℕ) (f : UnitFault) → f.kind ≢ why.Length → f.kind ≢ why.Missing → HasUnitFault table place xs f → HasUnitFault table place (xs ++ ys) f
unit_stays table place [] ys f ne nm w = absurd (nm (kind_is f place why.Missing w))
unit_stays table place (x ∷ xs) ys f ne nm (inl w) = inl w
unit_stays table place (x ∷ xs) ys f ne nm (inr w) = inr (w.0, w.1, value_stays (ParametersFault ParameterFault ParameterPut (parameters_of w.0) none_yet) (place + 1) xs ys f ne w.2)

-- only DT and TD have octets of what follows in their words
same_word : (kind : SpduKind) (alone : Bool) (p : Parameters) (xs ys : List ℕ) → has_information kind ≡ false → word_of kind alone p xs ≡ word_of kind alone p ys
same_word kinds.TypedData alone p xs ys e = absurd cc
same_word kinds.Data alone p xs ys e = absurd cc
same_word _ alone p xs ys e = refl

some_more : (xs ys : List ℕ) → 0 < length xs → 0 < length (xs ++ ys)
some_more xs ys h = omega (arith, length-append xs ys)

end_stays : (kind : SpduKind) (p : Parameters) (place : ℕ) (behind ys : List ℕ) (f : UnitFault) → f.kind ≢ why.Missing → EndFault kind p place behind f → EndFault kind p place (behind ++ ys) f
end_stays kind p place behind ys f nm (inl w) = absurd (nm (kind_is f place why.Missing w.1))
end_stays kind p place behind ys f nm (inr w) = inr (w.0, same_word kind true p (behind ++ ys) behind w.2 ∙ w.1, w.2, some_more behind ys w.3, w.4)

behind_stays : (Behind : SpduKind → Parameters → ℕ → List ℕ → UnitFault → Type 0) (table : List (ℕ × SpduKind)) (place : ℕ) (xs ys : List ℕ) (f : UnitFault)
    → ((kind : SpduKind) (p : Parameters) (at : ℕ) (behind : List ℕ) → Behind kind p at behind f → Behind kind p at (behind ++ ys) f)
    → BehindFault Behind table place xs f → BehindFault Behind table place (xs ++ ys) f
behind_stays Behind table place xs ys f stays w = record {
  kind = w.kind;
  found = w.found;
  unit = w.unit;
  behind = w.behind ++ ys;
  is = w.is;
  parts = ap (λ (l : List ℕ). l ++ ys) w.parts ∙ append_assoc w.unit w.behind ys;
  wrong = stays w.kind w.found (place + length w.unit) w.behind w.wrong;
}

second_stays : (kind : SpduKind) (p : Parameters) (place : ℕ) (behind ys : List ℕ) (f : UnitFault) → f.kind ≢ why.Length → f.kind ≢ why.Missing → SecondFault kind p place behind f
    → SecondFault kind p place (behind ++ ys) f
second_stays kind p place behind ys f ne nm (inl w) =
    inl (
      w.0,
      some_more behind ys w.1,
      elim w.2 [
        | inl h ↦ inl (unit_stays second_units place behind ys f ne nm h)
        | inr h ↦ inr (behind_stays EndFault second_units place behind ys f (λ k q n b. end_stays k q n b ys f nm) h)
      ],
    )
second_stays kind p place behind ys f ne nm (inr w) = elim w.0 [
  | inl h ↦ inr (inl h, end_stays kind p place behind ys f nm w.1)
  | inr h ↦ absurd (elim w.1 [
    | inl g ↦ nm (kind_is f place why.Missing g.1)
    | inr g ↦ (let n = ap length h in let m = g.3 in omega arith)
  ])
]

pub first_stays : (xs ys : List ℕ) (f : UnitFault) → f.kind ≢ why.Length → f.kind ≢ why.Missing → FirstFault xs f → FirstFault (xs ++ ys) f
first_stays xs ys f ne nm (inl w) = inl (unit_stays first_units 0 xs ys f ne nm w)
first_stays xs ys f ne nm (inr w) = inr (behind_stays SecondFault first_units 0 xs ys f (λ k q n b. second_stays k q n b ys f ne nm) w)
