-- A header that isn't whole has fewer octets than the longest header.
use Rattle.std.proofs.Common.{◌≡◌, ℕ, zero, suc, ◌+◌, ◌-◌, ◌*◌, ◌<◌, ◌≤◌, ◌==◌, Bool, true, false, cond, ltb, List, [], ◌∷◌, length, take, drop, Some, Result, Ok, Err, refl, ap, inl, inr, arith}
use Rattle.std.specs.Prelude.{◌⊎◌, ◌&&◌, ◌||◌, is_none, nat_le}
use Rattle.std.proofs.lemmas.Bool.{ltb-false, ltb-true, leb-false, or_parts}
use Rattle.std.proofs.lemmas.List.{length-append}
use Rattle.osi_base.specs.declared.layer_words.Kind.{Kind}
use Rattle.osi_base.specs.declared.layer_words.Kind.TheVariants as kinds
use Rattle.osi_base.specs.Limits.{tsdu_limit}
use Rattle.tpkt.specs.declared.packet.ConnectionFields.{ConnectionFields}
use Rattle.tpkt.specs.declared.packet.Packet.{Packet}
use Rattle.tpkt.specs.declared.packet.Packet.TheVariants.{Connect, Confirm, Disconnect, Problem}
use Rattle.tpkt.specs.declared.header.Header.{Header}
use Rattle.tpkt.specs.declared.header.Header.TheVariants.{Control, Data}
use Rattle.tpkt.specs.declared.parameters.Seen.{Seen}
use Rattle.tpkt.specs.declared.header_stops.Stop.{Stop}
use Rattle.tpkt.specs.declared.header_stops.Stop.TheVariants.{Short, At}
use Rattle.tpkt.specs.Wire.{parameter}
use Rattle.tpkt.specs.Header.{◌>>=◌, nothing_seen, with_size, with_parameter, value_at, parameter_at, parameters_at, ends_at, passed_at, mark_at, data_at, fills, code_at, indicator_at, length_at, header_at}
use Rattle.tpkt.proofs.Results.{chosen}
use Rattle.tpkt.proofs.ParameterLaws.{one_found}

past : {A : Type 0} (b : Bool) (o : ℕ) (k : Kind) (r : Result A Stop) → cond b (Err (At o k)) r ≡ Err Short → (b ≡ false) × (r ≡ Err Short)
past true o k r e = absurd cc
past false o k r e = (refl, e)

within : {A : Type 0} (b : Bool) (o : ℕ) (k : Kind) (r : Result A Stop) → cond b r (Err (At o k)) ≡ Err Short → (b ≡ true) × (r ≡ Err Short)
within true o k r e = (refl, e)
within false o k r e = absurd cc

abbrev failed : {A : Type 0} → Stop → Result A Stop
failed s = Err s

bound_short : {A B : Type 0} (r : Result A Stop) (f : A → Result B Stop) → (r >>= f) ≡ Err Short → (r ≡ Err Short) ⊎ ((x : A) × (r ≡ Ok x) × (f x ≡ Err Short))
bound_short (Ok x) f e = inr (x, refl, e)
bound_short (Err s) f e = inl (let f : s ≡ Short = cc in ap failed f)

value_short : (m o c : ℕ) (xs : List ℕ) → 2 ≤ m → value_at m o c xs ≡ Err Short → length xs + 1 < m
unfolding value_at
value_short m o c [] two e = omega arith
value_short m o c (len ∷ rest) two e =
    let a = past (ltb m (len + 2)) o kinds.Content _ e in
    let fits : len + 2 ≤ m = ltb-false _ _ a.0 in
    elim (chosen (ltb (length rest) len) (Err Short) (Ok (c, take len rest, drop len rest)) (Err Short) a.1) [
      | inl p ↦ (let less : length rest < len = ltb-true _ _ p.0 in omega arith)
      | inr p ↦ absurd (let f = p.1 in cc)
    ]

one_short : (m o : ℕ) (xs : List ℕ) → 0 < m → parameter_at m o xs ≡ Err Short → length xs < m
unfolding parameter_at
one_short m o [] some e = some
one_short m o (code ∷ rest) some e =
    let a = past (m == 1) o kinds.Content (value_at m o code rest) e in
    let two : 2 ≤ m = (let f : (m == 1) ≡ false = a.0 in grind arith) in
    omega (arith, value_short m o code rest two a.1)

either : {A : Type 0} (b : Bool) (x : A) (o : ℕ) (k : Kind) → cond b (Ok x) (Err (At o k)) ≡ Err Short → ⊥
either true x o k e = cc
either false x o k e = cc

size_not_short : (o : ℕ) (seen : Seen) (v : List ℕ) → with_size o seen v ≡ Err Short → ⊥
unfolding with_size
size_not_short o seen [] e = cc
size_not_short o seen (n ∷ []) e = either (is_none seen.size) (record seen { size = Some n }) o kinds.Content e
size_not_short o seen (n ∷ m ∷ v) e = cc

never_short : (o : ℕ) (seen : Seen) (code : ℕ) (v : List ℕ) → with_parameter o seen code v ≡ Err Short → ⊥
unfolding with_parameter
never_short o seen code v e =
    elim (chosen (code == 192) (with_size o seen v) _ (Err Short) e) [
      | inl p ↦ size_not_short o seen v p.1
      | inr p ↦ elim (chosen (code == 193) (cond (is_none seen.calling) (Ok (record seen { calling = Some v })) (Err (At o kinds.Content))) _ (Err Short) p.1) [
        | inl q ↦ either (is_none seen.calling) (record seen { calling = Some v }) o kinds.Content q.1
        | inr q ↦ elim (chosen (code == 194) (cond (is_none seen.called) (Ok (record seen { called = Some v })) (Err (At o kinds.Content))) (Ok seen) (Err Short) q.1) [
          | inl r ↦ either (is_none seen.called) (record seen { called = Some v }) o kinds.Content r.1
          | inr r ↦ (let f = r.1 in cc)
        ]
      ]
    ]

all_short : (fuel left o : ℕ) (seen : Seen) (xs : List ℕ) → left ≤ fuel → parameters_at fuel left o seen xs ≡ Err Short → length xs < left
unfolding parameters_at
all_short fuel zero o seen xs le e = absurd cc
all_short zero (suc left) o seen xs le e = absurd (omega arith)
all_short (suc fuel) (suc left) o seen xs le e =
    elim (bound_short (parameter_at (suc left) o xs) _ e) [
      | inl s ↦ one_short (suc left) o xs (omega arith) s
      | inr p ↦ (
          let one = one_found (suc left) o xs p.0 p.1 in
          elim (bound_short (with_parameter o seen p.0.0 p.0.1) _ p.2) [
            | inl s ↦ absurd (never_short o seen p.0.0 p.0.1 s)
            | inr q ↦ (
                let rest = all_short fuel (suc left - (length p.0.1 + 2)) (o + (length p.0.1 + 2)) q.0 p.0.2 (omega arith) q.2 in
                omega (arith, rest, one.1, ap length one.0, length-append (parameter (p.0.0, p.0.1)) p.0.2))
          ])
    ]

ends_short : (li : ℕ) (xs : List ℕ) → ends_at li xs ≡ Err Short → length xs < 5 + (li - 6)
unfolding ends_at
ends_short li [] e = omega arith
ends_short li (a ∷ []) e = omega arith
ends_short li (a ∷ b ∷ []) e = omega arith
ends_short li (a ∷ b ∷ c ∷ []) e = omega arith
ends_short li (a ∷ b ∷ c ∷ d ∷ []) e = omega arith
ends_short li (a ∷ b ∷ c ∷ d ∷ class ∷ rest) e =
    let p = within (class == 0) 10 kinds.Content _ e in
    elim (bound_short (parameters_at (li - 6) (li - 6) 11 nothing_seen rest) _ p.1) [
      | inl s ↦ omega (arith, all_short (li - 6) (li - 6) 11 nothing_seen rest (omega arith) s)
      | inr q ↦ absurd (let f = q.2 in cc)
    ]

passed_short : (count : ℕ) (p : Packet) (xs : List ℕ) → passed_at count p xs ≡ Err Short → length xs < count
passed_short count p xs e =
    elim (chosen (ltb (length xs) count) (Err Short) (Ok (Control p)) (Err Short) e) [
      | inl q ↦ ltb-true _ _ q.0
      | inr q ↦ absurd (let f = q.1 in cc)
    ]

data_short : (begun left : ℕ) (xs : List ℕ) → data_at begun left xs ≡ Err Short → length xs ≡ 0
unfolding data_at
data_short begun left xs e = mark_short left xs (past (ltb tsdu_limit (begun + left)) 5 kinds.Length (mark_at left xs) e).1
  where
    mark_short : (left : ℕ) (xs : List ℕ) → mark_at left xs ≡ Err Short → length xs ≡ 0
    mark_short left [] e = refl
    mark_short left (m ∷ xs) e =
        elim (chosen (m == 0) (Ok (Data left false)) (cond (m == 128) (Ok (Data left true)) (Err (At 6 kinds.Content))) (Err Short) e) [
          | inl p ↦ absurd (let f = p.1 in cc)
          | inr p ↦ absurd (let f = (within (m == 128) 6 kinds.Content (Ok (Data left true)) p.1).1 in cc)
        ]

ends_case : (li : ℕ) (xs : List ℕ) (f : ConnectionFields → Header) → (ends_at li xs >>= λ ends. Ok (f ends)) ≡ Err Short → length xs < 6 + li
ends_case li xs f e =
    elim (bound_short (ends_at li xs) (λ ends. Ok (f ends)) e) [
      | inl s ↦ omega (arith, ends_short li xs s)
      | inr q ↦ absurd (let g = q.2 in cc)
    ]

code_short : (begun room li : ℕ) (xs : List ℕ) → code_at begun room li xs ≡ Err Short → length xs < 7 + li
unfolding code_at
code_short begun room li [] e = omega arith
code_short begun room li (code ∷ rest) e =
    elim (chosen (code == 240) _ _ (Err Short) e) [
      | inl p ↦ omega (arith, data_short begun (room - 2) rest (within (li == 2) 4 kinds.Length (data_at begun (room - 2) rest) p.1).1)
      | inr p ↦ elim (chosen (code == 224) _ _ (Err Short) p.1) [
        | inl q ↦ omega (arith, ends_case li rest (λ ends. Control (Connect ends)) (within (fills room li 6) 4 kinds.Length _ q.1).1)
        | inr q ↦ elim (chosen (code == 208) _ _ (Err Short) q.1) [
          | inl r ↦ omega (arith, ends_case li rest (λ ends. Control (Confirm ends)) (within (fills room li 6) 4 kinds.Length _ r.1).1)
          | inr r ↦ elim (chosen (code == 128) _ _ (Err Short) r.1) [
            | inl s ↦ omega (arith, passed_short (li - 1) Disconnect rest (within (fills room li 6) 4 kinds.Length _ s.1).1)
            | inr s ↦ omega (arith, passed_short (li - 1) Problem rest (within (fills room li 1) 4 kinds.Length _ (within (code == 112) 5 kinds.Tag _ s.1).1).1)
          ]
        ]
      ]
    ]

-- at most a packet
pub header_short : (begun : ℕ) (xs : List ℕ) → header_at begun xs ≡ Err Short → length xs ≤ 65535
unfolding header_at length_at indicator_at
header_short begun [] e = omega arith
header_short begun (v ∷ []) e = omega arith
header_short begun (v ∷ r ∷ []) e = omega arith
header_short begun (v ∷ r ∷ h ∷ []) e = omega arith
header_short begun (v ∷ r ∷ h ∷ l ∷ []) e = omega arith
header_short begun (v ∷ r ∷ h ∷ l ∷ li ∷ rest) e =
    let a = within (v == 3 && r == 0) 0 kinds.Tag _ e in
    let b = past (ltb (256 * h + l) 7) 2 kinds.Length _ a.1 in
    let c = past (li == 0 || nat_le 255 li || ltb (256 * h + l - 5) li) 4 kinds.Length _ b.1 in
    let d = or_parts (li == 0) (nat_le 255 li) (or_parts (li == 0 || nat_le 255 li) (ltb (256 * h + l - 5) li) c.0).0 in
    omega (arith, code_short begun (256 * h + l - 5) li rest c.1, leb-false 255 li d.1)
