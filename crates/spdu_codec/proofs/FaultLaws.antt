-- The fault that reading gives is the first fault, and the first fault is given.
use Rattle.std.proofs.Common.{◌≡◌, ℕ, zero, suc, ◌+◌, ◌*◌, ◌≤◌, ◌==◌, ltb, List, [], ◌∷◌, ◌++◌, length, Option, Some, None, Result, Ok, Err, refl, sym, ap, subst, ◌∙◌, append_assoc, inl, inr, arith}
use Rattle.std.specs.Prelude.{◌⊎◌}
use Rattle.std.proofs.lemmas.Bool.{ltb-true}
use Rattle.std.proofs.lemmas.List.{length-append}
use Rattle.osi_base.specs.declared.layer_words.Kind.TheVariants as why
use Rattle.osi_base.proofs.OctetLaws.{octets_right, octets_left, octets_tail}
use Rattle.osi_base.specs.Octets.{AreOctets}
use Rattle.spdu_codec.specs.declared.kind.SpduKind.{SpduKind}
use Rattle.spdu_codec.specs.declared.parameters.Slot.{Slot}
use Rattle.spdu_codec.specs.declared.parameters.Parameters.{Parameters}
use Rattle.spdu_codec.specs.Tables.{row_of, parameters_of, items_of}
use Rattle.spdu_codec.specs.Parameters.{none_yet, is_free, put}
use Rattle.spdu_codec.specs.Reading.{UnitFault, at, ◌>>=◌, front, length_at, value_at, checked_free, filled, item_taken, inside, group_inside, parameter_taken, parameters_at, scan, known, unit_at}
use Rattle.spdu_codec.specs.Wire.{IsLength, AreParameters, IsFree, AllPut, ItemPut, ParameterPut}
use Rattle.spdu_codec.specs.Faults.{LacksValue, ValueFault, IsRepeated, CodeFault, ParametersFault, ItemFault, InsideFault, GroupFault, ParameterFault, HasUnitFault}
use Rattle.spdu_codec.proofs.Results.{ok_is, chosen}
use Rattle.spdu_codec.proofs.ScanLoop.{Taker, value_less}
use Rattle.spdu_codec.proofs.WireLaws.{length_again, value_found, value_again, free_found, free_again, item_found, item_again, parameter_found, parameter_again, known_found}

-- ---- steps that fail

abbrev pub bad : (A : Type 0) → UnitFault → Result A UnitFault
bad A f = Err f

pub err_is : (A : Type 0) (f g : UnitFault) → bad A f ≡ bad A g → f ≡ g
err_is A f g e = cc

-- the first step or the second one failed
pub failed : {A B : Type 0} (r : Result A UnitFault) (k : A → Result B UnitFault) (f : UnitFault) → (r >>= k) ≡ Err f → (r ≡ Err f) ⊎ ((x : A) × (r ≡ Ok x) × (k x ≡ Err f))
failed {A} {B} (Ok x) k f e = inr (x, refl, e)
failed {A} {B} (Err g) k f e = inl (ap (bad A) (err_is B g f e))

pub outcome : {A : Type 0} (r : Result A UnitFault) → ((x : A) × (r ≡ Ok x)) ⊎ ((f : UnitFault) × (r ≡ Err f))
outcome (Ok x) = inl (x, refl)
outcome (Err f) = inr (f, refl)

-- ---- lengths and values

abbrev gave : ℕ → List ℕ → Result (ℕ × List ℕ) UnitFault
gave n rest = Ok (n, rest)

length_fault : (place : ℕ) (xs : List ℕ) (f : UnitFault) → length_at place xs ≡ Err f → f ≡ at place why.Length
unfolding length_at
length_fault place [] f e = sym (err_is (ℕ × List ℕ) (at place why.Length) f e)
length_fault place (a ∷ []) f e =
    elim (chosen (a == 255) (Err (at place why.Length)) (gave a []) (Err f) e) [ inl h ↦ sym (err_is (ℕ × List ℕ) (at place why.Length) f h.1) | inr h ↦ absurd (let g = h.1 in cc) ]
length_fault place (a ∷ b ∷ []) f e =
    elim (chosen (a == 255) (Err (at place why.Length)) (gave a (b ∷ [])) (Err f) e) [ inl h ↦ sym (err_is (ℕ × List ℕ) (at place why.Length) f h.1) | inr h ↦ absurd (let g = h.1 in cc) ]
length_fault place (a ∷ b ∷ c ∷ xs) f e =
    elim (chosen (a == 255) (gave (256 * b + c) xs) (gave a (b ∷ c ∷ xs)) (Err f) e) [ inl h ↦ absurd (let g = h.1 in cc) | inr h ↦ absurd (let g = h.1 in cc) ]

length_is : (place : ℕ) (xs : List ℕ) (n : ℕ) (len more : List ℕ) → IsLength n len → xs ≡ len ++ more → length_at place xs ≡ Ok (n, more)
length_is place xs n len more is parts = ap (length_at place) parts ∙ length_again place n len more is

value_fault : (end : ℕ) (xs : List ℕ) (f : UnitFault) → value_at end xs ≡ Err f → LacksValue xs × (f ≡ at (front end xs) why.Length)
unfolding value_at
value_fault end xs f e =
    elim (failed (length_at (front end xs) xs) _ f e) [
      | inl h ↦ (
        (λ n len more is parts. absurd (let g : gave n more ≡ bad (ℕ × List ℕ) f = sym (length_is (front end xs) xs n len more is parts) ∙ h in cc)),
        length_fault (front end xs) xs f h,
      )
      | inr h ↦ (
          elim (chosen (ltb (length h.0.1) h.0.0) (Err (at (front end xs) why.Length)) _ (Err f) h.2) [
            | inl p ↦ (
              (λ n len more is parts.
                  let same = ok_is (n, more) h.0 (sym (length_is (front end xs) xs n len more is parts) ∙ h.1) in
                  let a : n ≡ h.0.0 = ap (λ (q : ℕ × List ℕ). q.0) same in
                  let b : more ≡ h.0.1 = ap (λ (q : ℕ × List ℕ). q.1) same in
                  omega (arith, ltb-true _ _ p.0, a, ap length b)),
              sym (err_is (List ℕ × List ℕ) (at (front end xs) why.Length) f p.1),
            )
            | inr p ↦ absurd (let g = p.1 in cc)
          ])
    ]

value_lacks : (end : ℕ) (xs : List ℕ) → AreOctets xs → LacksValue xs → value_at end xs ≡ Err (at (front end xs) why.Length)
value_lacks end xs fits lacks =
    elim (outcome (value_at end xs)) [
      | inl h ↦ absurd (
          let w = value_found end xs h.0 fits h.1 in
          let less = lacks (length h.0.0) w.0 (h.0.0 ++ h.0.1) w.1 w.2 in
          omega (arith, less, length-append h.0.0 h.0.1))
      | inr h ↦ h.1 ∙ ap (bad (List ℕ × List ℕ)) (value_fault end xs h.0 h.1).1
    ]

value_inside : (Inside : ℕ → List ℕ → UnitFault → Type 0) (end : ℕ) (xs : List ℕ) (v : List ℕ × List ℕ) (f : UnitFault) → AreOctets xs → length xs ≤ end → value_at end xs ≡ Ok v
    → Inside (front (front end v.1) v.0) v.0 f → ValueFault Inside (front end xs) xs f
value_inside Inside end xs v f fits le e there =
    let w = value_found end xs v fits e in
    let place : front (front end v.1) v.0 ≡ front end xs + length w.0 = omega (arith, ap length w.2, length-append w.0 (v.0 ++ v.1), length-append v.0 v.1) in
    inr (w.0, v.0, v.1, w.1, w.2, subst (λ (n : ℕ). Inside n v.0 f) place there)

value_wrong : {X : Type 0} (Inside : ℕ → List ℕ → UnitFault → Type 0) (end : ℕ) (xs : List ℕ) (f : UnitFault) (k : List ℕ × List ℕ → Result X UnitFault) → AreOctets xs → length xs ≤ end
    → ((v : List ℕ × List ℕ) → AreOctets v.0 → length v.0 ≤ front end v.1 → Inside (front (front end v.1) v.0) v.0 f → k v ≡ Err f) → ValueFault Inside (front end xs) xs f → (value_at end xs >>= k) ≡ Err f
value_wrong {X} Inside end xs f k fits le fails (inl h) = ap (λ r. r >>= k) (value_lacks end xs fits h.0) ∙ ap (bad X) (sym h.1)
value_wrong {X} Inside end xs f k fits le fails (inr h) =
    let len = h.0 in let value = h.1 in let more = h.2 in
    let behind = octets_right len (value ++ more) (subst AreOctets h.4 fits) in
    let read : value_at end xs ≡ Ok (value, more) = ap (value_at end) h.4 ∙ value_again end len value more h.3 in
    let place : front end xs + length len ≡ front (front end more) value = omega (arith, ap length h.4, length-append len (value ++ more), length-append value more) in
    let within : length value ≤ front end more = omega (arith, ap length h.4, length-append len (value ++ more), length-append value more) in
    ap (λ r. r >>= k) read ∙ fails (value, more) (octets_left value more behind) within (subst (λ (n : ℕ). Inside n value f) place h.5)

-- ---- parameters

free_fault : (place : ℕ) (o : Option Slot) (p : Parameters) (f : UnitFault) → checked_free place o p ≡ Err f → IsRepeated o p × (f ≡ at place why.Extra)
free_fault place None p f e = absurd cc
free_fault place (Some slot) p f e =
    elim (chosen (is_free slot p) (Ok (Some slot)) (Err (at place why.Extra)) (Err f) e) [
      | inl h ↦ absurd (let g = h.1 in cc)
      | inr h ↦ (h.0, sym (err_is (Option Slot) (at place why.Extra) f h.1))
    ]

free_wrong : (place : ℕ) (o : Option Slot) (p : Parameters) → IsRepeated o p → checked_free place o p ≡ Err (at place why.Extra)
free_wrong place None p h = absurd h
free_wrong place (Some slot) p h = rw h refl

abbrev Wrong : Type 1
Wrong = Option Slot → Parameters → ℕ → List ℕ → UnitFault → Type 0

abbrev Right : Type 1
Right = Option Slot → List ℕ → Parameters → Parameters → Type 0

here : (Inside : Wrong) (One : Right) (table : List (ℕ × Slot)) (p : Parameters) (place x : ℕ) (xs : List ℕ) (f : UnitFault) → CodeFault Inside table p place x xs f
    → ParametersFault Inside One table p place (x ∷ xs) f
here Inside One table p place x xs f w = record {
  right = [];
  before = [];
  made = p;
  code = x;
  rest = xs;
  spelled = refl;
  puts = refl;
  parts = refl;
  wrong = (let z : place ≡ place + 0 = omega arith in subst (λ (n : ℕ). CodeFault Inside table p n x xs f) z w);
}

further : (Inside : Wrong) (One : Right) (table : List (ℕ × Slot)) (p r : Parameters) (place x : ℕ) (len v more : List ℕ) (f : UnitFault) → IsFree (row_of x table) p → IsLength (length v) len
    → One (row_of x table) v p r → ParametersFault Inside One table r (place + length (x ∷ len ++ v)) more f → ParametersFault Inside One table p place ((x ∷ len ++ v) ++ more) f
further Inside One table p r place x len v more f free is one g =
    let first = x ∷ len ++ v in
    let there : place + length first + length g.before ≡ place + length (first ++ g.before) = omega (arith, length-append first g.before) in record {
      right = (x, v) ∷ g.right;
      before = first ++ g.before;
      made = g.made;
      code = g.code;
      rest = g.rest;
      spelled = (first, g.before, (len, is, refl), g.spelled, refl);
      puts = (free, (r, one, g.puts));
      parts = ap (λ (l : List ℕ). first ++ l) g.parts ∙ sym (append_assoc first g.before (g.code ∷ g.rest));
      wrong = subst (λ (n : ℕ). CodeFault Inside table g.made n g.code g.rest f) there g.wrong;
    }

scan_fault : (t : Taker) (Inside : Wrong) (One : Right)
    → ((end : ℕ) (slot : Option Slot) (v : List ℕ) (p q : Parameters) → AreOctets v → t end slot v p ≡ Ok q → One slot v p q)
    → ((end : ℕ) (slot : Option Slot) (v : List ℕ) (p : Parameters) (f : UnitFault) → AreOctets v → length v ≤ end → t end slot v p ≡ Err f → Inside slot p (front end v) v f)
    → (table : List (ℕ × Slot)) (fuel end : ℕ) (p : Parameters) (xs : List ℕ) (f : UnitFault) → length xs ≤ fuel → length xs ≤ end → AreOctets xs → scan t table fuel end p xs ≡ Err f
    → ParametersFault Inside One table p (front end xs) xs f
unfolding scan
scan_fault t Inside One takes fails table fuel end p [] f le me fits e = absurd cc
scan_fault t Inside One takes fails table zero end p (x ∷ xs) f le me fits e = absurd (omega arith)
scan_fault t Inside One takes fails table (suc fuel) end p (x ∷ xs) f le me fits e =
    let on : front end xs ≡ front end (x ∷ xs) + 1 = omega arith in
    let ys = octets_tail x xs fits in
    let ne : length xs ≤ end = omega arith in
    elim (failed (checked_free (front end (x ∷ xs)) (row_of x table) p) _ f e) [
      | inl h ↦ here Inside One table p (front end (x ∷ xs)) x xs f (inl (free_fault (front end (x ∷ xs)) (row_of x table) p f h))
      | inr a ↦ (
          let free = free_found (front end (x ∷ xs)) (row_of x table) a.0 p a.1 in
          elim (failed (value_at end xs) _ f a.2) [
            | inl h ↦ (
                let w = value_fault end xs f h in
                here Inside One table p (front end (x ∷ xs)) x xs f (inr (free.0, inl (w.0, subst (λ (n : ℕ). f ≡ at n why.Length) on w.1))))
            | inr b ↦ (
                let v = b.0 in
                let w = value_found end xs v ys b.1 in
                let behind = octets_right w.0 (v.0 ++ v.1) (subst AreOctets w.2 ys) in
                let inner = octets_left v.0 v.1 behind in
                let less = value_less end xs v b.1 in
                elim (failed (t (front end v.1) a.0 v.0 p) _ f b.2) [
                  | inl h ↦ (
                      let within : length v.0 ≤ front end v.1 = omega (arith, less) in
                      let there = fails (front end v.1) a.0 v.0 p f inner within h in
                      let same = subst (λ (o : Option Slot). Inside o p (front (front end v.1) v.0) v.0 f) (sym free.1) there in
                      let whole = value_inside (Inside (row_of x table) p) end xs v f ys ne b.1 same in
                      here Inside One table p (front end (x ∷ xs)) x xs f (inr (free.0, subst (λ (n : ℕ). ValueFault (Inside (row_of x table) p) n xs f) on whole)))
                  | inr c ↦ (
                      let one = takes (front end v.1) a.0 v.0 p c.0 inner c.1 in
                      let same = subst (λ (o : Option Slot). One o v.0 p c.0) (sym free.1) one in
                      let rest = scan_fault t Inside One takes fails table fuel end c.0 v.1 f (omega (arith, less)) (omega (arith, less)) (octets_right v.0 v.1 behind) c.2 in
                      let whole : x ∷ xs ≡ (x ∷ w.0 ++ v.0) ++ v.1 = ap (λ (l : List ℕ). x ∷ l) (w.2 ∙ sym (append_assoc w.0 v.0 v.1)) in
                      let place : front end v.1 ≡ front end (x ∷ xs) + length (x ∷ w.0 ++ v.0) = omega (arith, ap length whole, length-append (x ∷ w.0 ++ v.0) v.1) in
                      let moved = subst (λ (n : ℕ). ParametersFault Inside One table c.0 n v.1 f) place rest in
                      subst (λ (l : List ℕ). ParametersFault Inside One table p (front end (x ∷ xs)) l f) (sym whole)
                      (further Inside One table p c.0 (front end (x ∷ xs)) x w.0 v.0 v.1 f free.0 w.1 same moved))
                ])
          ])
    ]

abbrev failing : UnitFault → Result Parameters UnitFault
failing f = Err f

scan_here : (t : Taker) (Inside : Wrong)
    → ((end : ℕ) (slot : Option Slot) (v : List ℕ) (p : Parameters) (f : UnitFault) → AreOctets v → length v ≤ end → Inside slot p (front end v) v f → t end slot v p ≡ Err f)
    → (table : List (ℕ × Slot)) (fuel end : ℕ) (p : Parameters) (x : ℕ) (xs : List ℕ) (f : UnitFault) → length (x ∷ xs) ≤ fuel → length (x ∷ xs) ≤ end → AreOctets (x ∷ xs)
    → CodeFault Inside table p (front end (x ∷ xs)) x xs f → scan t table fuel end p (x ∷ xs) ≡ Err f
unfolding scan
scan_here t Inside fails table zero end p x xs f le me fits w = absurd (omega arith)
scan_here t Inside fails table (suc fuel) end p x xs f le me fits (inl h) = rw (free_wrong (front end (x ∷ xs)) (row_of x table) p h.0) (ap failing (sym h.1))
scan_here t Inside fails table (suc fuel) end p x xs f le me fits (inr h) =
    let on : front end (x ∷ xs) + 1 ≡ front end xs = omega arith in
    let slot = row_of x table in
    rw (free_again (front end (x ∷ xs)) slot p h.0)
    (value_wrong (Inside slot p) end xs f (λ v. t (front end v.1) slot v.0 p >>= λ next. scan t table fuel end next v.1) (octets_tail x xs fits) (omega arith)
    (λ v octets within there. ap (λ r. r >>= λ next. scan t table fuel end next v.1) (fails (front end v.1) slot v.0 p f octets within there))
    (subst (λ (n : ℕ). ValueFault (Inside slot p) n xs f) on h.1))

scan_wrong : (t : Taker) (Inside : Wrong) (One : Right)
    → ((end : ℕ) (slot : Option Slot) (v : List ℕ) (p q : Parameters) → One slot v p q → t end slot v p ≡ Ok q)
    → ((end : ℕ) (slot : Option Slot) (v : List ℕ) (p : Parameters) (f : UnitFault) → AreOctets v → length v ≤ end → Inside slot p (front end v) v f → t end slot v p ≡ Err f)
    → (table : List (ℕ × Slot)) (fuel end : ℕ) (p made : Parameters) (xs : List ℕ) (f : UnitFault) (ps : List (ℕ × List ℕ)) (before : List ℕ) (code : ℕ) (rest : List ℕ)
    → length xs ≤ fuel → length xs ≤ end → AreOctets xs → AreParameters ps before → AllPut One table ps p made → xs ≡ before ++ code ∷ rest
    → CodeFault Inside table made (front end xs + length before) code rest f → scan t table fuel end p xs ≡ Err f
unfolding scan
scan_wrong t Inside One takes fails table fuel end p made xs f [] before code rest le me fits a b parts w =
    let whole : xs ≡ code ∷ rest = parts ∙ ap (λ (l : List ℕ). l ++ code ∷ rest) a in
    let n = ap length whole in
    let place : front end xs + length before ≡ front end (code ∷ rest) = omega (arith, n, ap length a) in
    let moved = subst (λ (k : ℕ). CodeFault Inside table made k code rest f) place w in
    let same = subst (λ (q : Parameters). CodeFault Inside table q (front end (code ∷ rest)) code rest f) (sym b) moved in
    ap (scan t table fuel end p) whole ∙ scan_here t Inside fails table fuel end p code rest f (omega (arith, n)) (omega (arith, n)) (subst AreOctets whole fits) same
scan_wrong t Inside One takes fails table zero end p made xs f (x ∷ ps) before code rest le me fits a b parts w = absurd (omega (arith, ap length parts, length-append before (code ∷ rest)))
scan_wrong t Inside One takes fails table (suc fuel) end p made xs f (x ∷ ps) before code rest le me fits a b parts w =
    let len = a.2.0 in
    let tail = a.1 ++ code ∷ rest in
    let first : a.0 ≡ x.0 ∷ len ++ x.1 = a.2.2 in
    let whole : xs ≡ x.0 ∷ (len ++ (x.1 ++ tail)) =
    parts ∙ ap (λ (l : List ℕ). l ++ code ∷ rest) a.4 ∙ append_assoc a.0 a.1 (code ∷ rest) ∙ ap (λ (l : List ℕ). l ++ tail) first ∙ ap (λ (l : List ℕ). x.0 ∷ l) (append_assoc len x.1 tail) in
    let size = ap length whole in
    let l1 = length-append len (x.1 ++ tail) in
    let l2 = length-append x.1 tail in
    let l3 = length-append len x.1 in
    let l4 = length-append a.0 a.1 in
    let n0 = ap length first in
    let nb = ap length a.4 in
    let place : front end xs + length before ≡ front end tail + length a.1 = omega (arith, size, l1, l2, l3, l4, n0, nb) in
    let behind = octets_right x.1 tail (octets_right len (x.1 ++ tail) (octets_tail x.0 (len ++ (x.1 ++ tail)) (subst AreOctets whole fits))) in
    let rest_is = scan_wrong t Inside One takes fails table fuel end b.1.0 made tail f ps a.1 code rest (omega (arith, size, l1, l2)) (omega (arith, size, l1, l2)) behind a.3 b.1.2 refl
    (subst (λ (k : ℕ). CodeFault Inside table made k code rest f) place w) in
    ap (λ (l : List ℕ). scan t table (suc fuel) end p l) whole
    ∙ rw (free_again (front end (x.0 ∷ (len ++ (x.1 ++ tail)))) (row_of x.0 table) p b.0, value_again end len x.1 tail a.2.1, takes (front end tail) (row_of x.0 table) x.1 p b.1.0 b.1.1) rest_is

-- ---- what stands in a value

filled_fault : (place : ℕ) (o : Option Parameters) (f : UnitFault) → filled place o ≡ Err f → (o ≡ None) × (f ≡ at place why.Content)
filled_fault place None f e = (refl, sym (err_is Parameters (at place why.Content) f e))
filled_fault place (Some p) f e = absurd cc

item_fault : (end : ℕ) (slot : Option Slot) (v : List ℕ) (p : Parameters) (f : UnitFault) → AreOctets v → length v ≤ end → item_taken end slot v p ≡ Err f → ItemFault slot p (front end v) v f
item_fault end None v p f fits le e = absurd cc
item_fault end (Some slot) v p f fits le e = filled_fault (front end v) (put slot v p) f e

item_wrong : (end : ℕ) (slot : Option Slot) (v : List ℕ) (p : Parameters) (f : UnitFault) → AreOctets v → length v ≤ end → ItemFault slot p (front end v) v f → item_taken end slot v p ≡ Err f
item_wrong end None v p f fits le w = absurd w
item_wrong end (Some slot) v p f fits le w = ap (filled (front end v)) w.0 ∙ ap failing (sym w.1)

inside_fault : (o : Option (List (ℕ × Slot))) (end : ℕ) (v : List ℕ) (p : Parameters) (f : UnitFault) → AreOctets v → length v ≤ end → inside o end v p ≡ Err f → InsideFault o p (front end v) v f
inside_fault None end v p f fits le e = absurd cc
inside_fault (Some table) end v p f fits le e = scan_fault item_taken ItemFault ItemPut item_found item_fault table (length v) end p v f (omega arith) le fits e

inside_wrong : (o : Option (List (ℕ × Slot))) (end : ℕ) (v : List ℕ) (p : Parameters) (f : UnitFault) → AreOctets v → length v ≤ end → InsideFault o p (front end v) v f → inside o end v p ≡ Err f
inside_wrong None end v p f fits le w = absurd w
inside_wrong (Some table) end v p f fits le w =
    scan_wrong item_taken ItemFault ItemPut item_again item_wrong table (length v) end p w.made v f w.right w.before w.code w.rest (omega arith) le fits w.spelled w.puts w.parts w.wrong

group_fault : (end : ℕ) (slot : Option Slot) (v : List ℕ) (p : Parameters) (f : UnitFault) → AreOctets v → length v ≤ end → group_inside end slot v p ≡ Err f → GroupFault slot p (front end v) v f
group_fault end None v p f fits le e = absurd cc
group_fault end (Some slot) v p f fits le e = inside_fault (items_of slot) end v p f fits le e

group_wrong : (end : ℕ) (slot : Option Slot) (v : List ℕ) (p : Parameters) (f : UnitFault) → AreOctets v → length v ≤ end → GroupFault slot p (front end v) v f → group_inside end slot v p ≡ Err f
group_wrong end None v p f fits le w = absurd w
group_wrong end (Some slot) v p f fits le w = inside_wrong (items_of slot) end v p f fits le w

parameter_fault : (end : ℕ) (slot : Option Slot) (v : List ℕ) (p : Parameters) (f : UnitFault) → AreOctets v → length v ≤ end → parameter_taken end slot v p ≡ Err f → ParameterFault slot p (front end v) v f
parameter_fault end slot v p f fits le e =
    elim (failed (item_taken end slot v p) (group_inside end slot v) f e) [
      | inl h ↦ inl (item_fault end slot v p f fits le h)
      | inr h ↦ inr (h.0, item_found end slot v p h.0 fits h.1, group_fault end slot v h.0 f fits le h.2)
    ]

parameter_wrong : (end : ℕ) (slot : Option Slot) (v : List ℕ) (p : Parameters) (f : UnitFault) → AreOctets v → length v ≤ end → ParameterFault slot p (front end v) v f → parameter_taken end slot v p ≡ Err f
parameter_wrong end slot v p f fits le (inl w) = ap (λ r. r >>= group_inside end slot v) (item_wrong end slot v p f fits le w)
parameter_wrong end slot v p f fits le (inr w) = ap (λ r. r >>= group_inside end slot v) (item_again end slot v p w.0 w.1) ∙ group_wrong end slot v w.0 f fits le w.2

-- ---- one unit

known_fault : (place : ℕ) (o : Option SpduKind) (f : UnitFault) → known place o ≡ Err f → (o ≡ None) × (f ≡ at place why.Tag)
known_fault place None f e = (refl, sym (err_is SpduKind (at place why.Tag) f e))
known_fault place (Some kind) f e = absurd cc

abbrev Body : SpduKind → ℕ → List ℕ → UnitFault → Type 0
Body kind = ParametersFault ParameterFault ParameterPut (parameters_of kind) none_yet

pub unit_fault : (table : List (ℕ × SpduKind)) (end : ℕ) (xs : List ℕ) (f : UnitFault) → AreOctets xs → length xs ≤ end → unit_at table end xs ≡ Err f → HasUnitFault table (front end xs) xs f
unfolding unit_at
unit_fault table end [] f fits le e = (let z : end ≡ front end [] = omega arith in sym (err_is (SpduKind × Parameters × List ℕ) (at end why.Missing) f e) ∙ ap (λ (n : ℕ). at n why.Missing) z)
unit_fault table end (x ∷ xs) f fits le e =
    let on : front end xs ≡ front end (x ∷ xs) + 1 = omega arith in
    let ys = octets_tail x xs fits in
    elim (failed (known (front end (x ∷ xs)) (row_of x table)) _ f e) [
      | inl h ↦ inl (known_fault (front end (x ∷ xs)) (row_of x table) f h)
      | inr a ↦ (
          let stands = known_found (front end (x ∷ xs)) (row_of x table) a.0 a.1 in
          elim (failed (value_at end xs) _ f a.2) [
            | inl h ↦ (let w = value_fault end xs f h in inr (a.0, stands, inl (w.0, subst (λ (n : ℕ). f ≡ at n why.Length) on w.1)))
            | inr b ↦ (
                let v = b.0 in
                elim (failed (parameters_at a.0 (front end v.1) v.0) _ f b.2) [
                  | inl h ↦ (
                      let w = value_found end xs v ys b.1 in
                      let behind = octets_right w.0 (v.0 ++ v.1) (subst AreOctets w.2 ys) in
                      let less = value_less end xs v b.1 in
                      let there = scan_fault parameter_taken ParameterFault ParameterPut parameter_found parameter_fault (parameters_of a.0) (length v.0) (front end v.1) none_yet v.0 f (omega arith) (omega (arith, less)) (octets_left v.0 v.1 behind) h in
                      let whole = value_inside (Body a.0) end xs v f ys (omega arith) b.1 there in
                      inr (a.0, stands, subst (λ (n : ℕ). ValueFault (Body a.0) n xs f) on whole))
                  | inr c ↦ absurd (let g = c.2 in cc)
                ])
          ])
    ]

pub unit_wrong : (table : List (ℕ × SpduKind)) (end : ℕ) (xs : List ℕ) (f : UnitFault) → AreOctets xs → length xs ≤ end → HasUnitFault table (front end xs) xs f → unit_at table end xs ≡ Err f
unfolding unit_at
unit_wrong table end [] f fits le w = (let z : end ≡ front end [] = omega arith in ap (λ (n : ℕ). bad (SpduKind × Parameters × List ℕ) (at n why.Missing)) z ∙ ap (bad (SpduKind × Parameters × List ℕ)) (sym w))
unit_wrong table end (x ∷ xs) f fits le (inl w) = rw w.0 (ap (bad (SpduKind × Parameters × List ℕ)) (sym w.1))
unit_wrong table end (x ∷ xs) f fits le (inr w) =
    let on : front end (x ∷ xs) + 1 ≡ front end xs = omega arith in
    rw w.1
    (value_wrong (Body w.0) end xs f (λ v. parameters_at w.0 (front end v.1) v.0 >>= λ p. Ok (w.0, p, v.1)) (octets_tail x xs fits) (omega arith)
    (λ v octets within g. ap (λ r. r >>= λ p. Ok (w.0, p, v.1))
    (scan_wrong parameter_taken ParameterFault ParameterPut parameter_again parameter_wrong (parameters_of w.0) (length v.0) (front end v.1) none_yet g.made v.0 f g.right g.before g.code g.rest (omega arith) within octets g.spelled g.puts g.parts g.wrong))
    (subst (λ (n : ℕ). ValueFault (Body w.0) n xs f) on w.2))
