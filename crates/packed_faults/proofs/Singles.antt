-- Single octets, numbers and strings: a fault of reading is one by the grammar, and the other way round.
use Rattle.std.proofs.Common.{◌≡◌, ℕ, zero, suc, ◌≤◌, Bool, true, false, cond, List, [], ◌∷◌, length, drop, Option, Some, None, Ok, Err, refl, sym, ap, ◌∙◌, subst, arith, inl, inr}
use Rattle.std.specs.Prelude.{nat_lt}
use Rattle.std.proofs.lemmas.Bool.{lt-ltb, le-ltb, ltb-false, ltb-true}
use Rattle.asn1_types.specs.Fits.{are_bits}
use Rattle.asn1_types.specs.Value.{Value, bits}
use Rattle.packed_codec.specs.declared.fault.PackedFault.{PackedFault}
use Rattle.packed_codec.specs.declared.fault.PackedFault.TheVariants.{Short}
use Rattle.osi_base.specs.Octets.{AreOctets}
use Rattle.packed_codec.specs.Reading.{Spot, Reading, ◌>>=◌, refuse}
use Rattle.packed_codec.specs.Fields.{announced_at, octet_at, count_at}
use Rattle.packed_codec.specs.Numbers.{is_size}
use Rattle.packed_codec.specs.Rules.{some_or_refuse, boolean_rule, boolean_at, null_at, sized_at, number_at, string_at, bits_size, bits_rule, bits_at}
use Rattle.packed_codec.specs.Writing.{Writer, counted, with_size}
use Rattle.packed_codec.proofs.Taking.{done, announced_found}
use Rattle.packed_codec.proofs.Spelled.{Sized}
use Rattle.packed_faults.specs.Values.{IsAt, OctetFault, SizedFault, NumberFault, StringFault, SpellWith, AreBits, BitsFault}
use Rattle.packed_faults.proofs.Steps.{failed, not_err, bind_err, bind_fails, bind_goes, cond_err, cond_yes, cond_no, option_cases, refused, refusal_is, Finds, Tells}
use Rattle.packed_faults.proofs.Fields.{announced_err, announced_fails, announced_takes, takes_of, takes_octets, text_octets, octet_err, octet_fails, octet_takes, octet_takes_of, count_err, count_fails, count_takes, count_found}

-- ---- an octet that is 0 or 1

pub large : (o : ℕ) → boolean_rule o ≡ None → 2 ≤ o
large zero e = absurd cc
large (suc zero) e = absurd cc
large (suc (suc n)) e = omega arith

pub no_rule : (o : ℕ) → 2 ≤ o → boolean_rule o ≡ None
no_rule zero le = absurd (omega arith)
no_rule (suc zero) le = absurd (omega arith)
no_rule (suc (suc n)) le = refl

abbrev judged : ℕ → ℕ × Spot → Reading (Value × Spot)
judged place o = some_or_refuse place (boolean_rule o.0) >>= λ v. done {A = Value × Spot} (v, o.1)

abbrev judged_so : ℕ → Spot → Option Value → Reading (Value × Spot)
judged_so place to o = some_or_refuse place o >>= λ v. done {A = Value × Spot} (v, to)

pub judge_err : (place : ℕ) (to : Spot) (o : Option Value) (f : PackedFault) → judged_so place to o ≡ Err f → (o ≡ None) × IsAt place f
judge_err place to None f e = (refl, refusal_is {A = Value × Spot} place f e)
judge_err place to (Some v) f e = absurd (not_err {A = Value × Spot} (v, to) f e)

pub judge_fails : (place : ℕ) (to : Spot) (o : Option Value) (f : PackedFault) → o ≡ None → IsAt place f → judged_so place to o ≡ Err f
judge_fails place to o f none is = ap (judged_so place to) none ∙ refused {A = Value × Spot} place f is

pub boolean_finds : Finds boolean_at OctetFault
unfolding boolean_at
boolean_finds = record {
  finds = λ limit s f ne are here e.
      elim (bind_err (octet_at limit s) (judged s.place) f e) [
        | inl t ↦ inl (octet_err limit s f ne t)
        | inr t ↦ let j = judge_err s.place t.0.1 (boolean_rule t.0.0) f t.2 in inr (t.0.0, t.0.1, octet_takes_of limit s t.0.1 t.0.0 t.1, large t.0.0 j.0, j.1)
      ];
}

pub boolean_tells : Tells boolean_at OctetFault
unfolding boolean_at
boolean_tells = record {
  tells = λ limit s f are lt most w.
      elim w [
        | inl c ↦ bind_fails (octet_at limit s) (judged s.place) f (octet_fails limit s f c)
        | inr c ↦ bind_goes (octet_at limit s) (judged s.place) (c.0, c.1) (failed f) (octet_takes limit s c.1 c.0 c.2) (judge_fails s.place c.1 (boolean_rule c.0) f (no_rule c.0 c.3) c.4)
      ];
}

pub null_finds : Finds null_at (λ limit s f. ⊥)
unfolding null_at
null_finds = record { finds = λ limit s f ne are here e. absurd cc }

pub null_tells : Tells null_at (λ limit s f. ⊥)
null_tells = record { tells = λ limit s f are lt most w. absurd w }

-- ---- octets behind their size

module _ (few : ℕ → Bool) (rule : List ℕ → Option Value) (Right : List ℕ → Type 0)
    (right : (c : List ℕ) (v : Value) → AreOctets c → few (length c) ≡ true → rule c ≡ Some v → Right c)
    (wrong : (c : List ℕ) → rule c ≡ None → Right c → ⊥) where
  abbrev behind : ℕ → List ℕ × Spot → Reading (Value × Spot)
  behind at c = some_or_refuse at (rule c.0) >>= λ v. done {A = Value × Spot} (v, c.1)

  sized_err : (limit place n : ℕ) (to : Spot) (f : PackedFault) → (f ≡ Short → ⊥) → AreOctets to.rest → sized_at limit place few rule (n, to) ≡ Err f → SizedFault few Right place n limit to f
  unfolding sized_at
  sized_err limit place n to f ne are e =
      elim (bind_err (announced_at limit place (few n) n to) (behind to.place) f e) [
        | inl t ↦ elim (announced_err limit place (few n) n to f ne t) [
          | inl c ↦ inl c
          | inr c ↦ inr (inl c)
        ]
        | inr t ↦
            let a = announced_found limit place (few n) n to t.0.1 t.0.0 t.1 in
            let takes = takes_of limit to t.0.1 t.0.0 a.took in
            let j = judge_err to.place t.0.1 (rule t.0.0) f t.2 in
            inr (inr (a.allow, t.0.0, t.0.1, takes, a.len, wrong t.0.0 j.0, j.1))
      ]

  sized_fails : (limit place n : ℕ) (to : Spot) (f : PackedFault) → AreOctets to.rest → SizedFault few Right place n limit to f → sized_at limit place few rule (n, to) ≡ Err f
  unfolding sized_at
  sized_fails limit place n to f are (inl c) = bind_fails (announced_at limit place (few n) n to) (behind to.place) f (announced_fails limit place (few n) n to f (inl c))
  sized_fails limit place n to f are (inr (inl c)) = bind_fails (announced_at limit place (few n) n to) (behind to.place) f (announced_fails limit place (few n) n to f (inr c))
  sized_fails limit place n to f are (inr (inr h)) =
      let c = h.1 in
      let b = h.2 in
      let read : announced_at limit place (few n) n to ≡ Ok (c, b) =
      subst (λ (a : Bool). announced_at limit place a n to ≡ Ok (c, b)) (sym h.0) (subst (λ (k : ℕ). announced_at limit place true k to ≡ Ok (c, b)) h.4 (announced_takes limit place to b c h.3)) in
      let allowed : few (length c) ≡ true = ap few h.4 ∙ h.0 in
      elim (option_cases (rule c)) [
        | inl t ↦ bind_goes (announced_at limit place (few n) n to) (behind to.place) (c, b) (failed f) read (judge_fails to.place b (rule c) f t h.6)
        | inr t ↦ absurd (h.5 (right c t.0 (text_octets limit to b c h.3 are) allowed t.1))
      ]

  pub string_finds : Finds (string_at few rule) (StringFault few Right)
  unfolding string_at
  string_finds = record {
    finds = λ limit s f ne are here e.
        elim (bind_err (count_at limit s) (sized_at limit s.place few rule) f e) [
          | inl t ↦ inl (count_err limit s f ne t)
          | inr t ↦
              let c = count_found limit s t.0.1 t.0.0 t.1 in
              inr (t.0.0, t.0.1, c, sized_err limit s.place t.0.0 t.0.1 f ne (takes_octets limit s t.0.1 c.text c.takes are) t.2)
        ];
  }

  pub string_tells : Tells (string_at few rule) (StringFault few Right)
  unfolding string_at
  string_tells = record {
    tells = λ limit s f are lt most w.
        elim w [
          | inl c ↦ bind_fails (count_at limit s) (sized_at limit s.place few rule) f (count_fails limit s f c)
          | inr c ↦
              let k = c.2 in
              bind_goes (count_at limit s) (sized_at limit s.place few rule) (c.0, c.1) (failed f) (count_takes limit s c.1 c.0 c.2) (sized_fails limit s.place c.0 c.1 f (takes_octets limit s c.1 k.text k.takes are) c.3)
        ];
  }

module _ (rule : List ℕ → Option Value) (Right : List ℕ → Type 0)
    (right : (c : List ℕ) (v : Value) → AreOctets c → is_size (length c) ≡ true → rule c ≡ Some v → Right c)
    (wrong : (c : List ℕ) → rule c ≡ None → Right c → ⊥) where
  abbrev behind_size : ℕ → ℕ → ℕ × Spot → Reading (Value × Spot)
  behind_size limit place n = cond (is_size n.0) (sized_at limit place is_size rule n) (refuse place)

  pub number_finds : Finds (number_at rule) (NumberFault Right)
  unfolding number_at
  number_finds = record {
    finds = λ limit s f ne are here e.
        elim (bind_err (octet_at limit s) (behind_size limit s.place) f e) [
          | inl t ↦ inl (octet_err limit s f ne t)
          | inr t ↦
              let takes = octet_takes_of limit s t.0.1 t.0.0 t.1 in
              inr (
                t.0.0,
                t.0.1,
                takes,
                elim (cond_err (is_size t.0.0) (sized_at limit s.place is_size rule t.0) (refuse s.place) f t.2) [
                  | inl u ↦ inr (u.0, sized_err is_size rule Right right wrong limit s.place t.0.0 t.0.1 f ne (takes_octets limit s t.0.1 (t.0.0 ∷ []) takes are) u.1)
                  | inr u ↦ inl (u.0, refusal_is {A = Value × Spot} s.place f u.1)
                ],
              )
        ];
  }

  pub number_tells : Tells (number_at rule) (NumberFault Right)
  unfolding number_at
  number_tells = record {
    tells = λ limit s f are lt most w.
        elim w [
          | inl c ↦ bind_fails (octet_at limit s) (behind_size limit s.place) f (octet_fails limit s f c)
          | inr c ↦ bind_goes (octet_at limit s) (behind_size limit s.place) (c.0, c.1) (failed f) (octet_takes limit s c.1 c.0 c.2) (elim c.3 [
            | inl u ↦ cond_no (is_size c.0) _ _ _ u.0 (refused {A = Value × Spot} s.place f u.1)
            | inr u ↦ cond_yes (is_size c.0) _ _ _ u.0 (sized_fails is_size rule Right right wrong limit s.place c.0 c.1 f (takes_octets limit s c.1 (c.0 ∷ []) c.2 are) u.1)
          ])
        ];
  }

-- ---- contents that spell a value with their size in front

same_sized : (c d : List ℕ) → with_size c ≡ with_size d → c ≡ d
same_sized c d e = ap (drop 1) e

same_counted : (c d : List ℕ) → counted c ≡ counted d → c ≡ d
same_counted c d e = ap (drop 4) e

module _ (test : Value → Bool) (write : Writer) (wrap : List ℕ → List ℕ) (few : ℕ → Bool) (rule : List ℕ → Option Value) (sized : Sized test write wrap few rule) (same : (c d : List ℕ) → wrap c ≡ wrap d → c ≡ d) where
  pub spell_right : (c : List ℕ) (v : Value) → AreOctets c → few (length c) ≡ true → rule c ≡ Some v → SpellWith wrap test write c
  spell_right c v are enough e = let x = sized.sound c v are enough e in (v, x.1, x.0)

  pub spell_wrong : (c : List ℕ) → rule c ≡ None → SpellWith wrap test write c → ⊥
  spell_wrong c e p =
      let x = sized.complete p.0 p.1 in
      let is : c ≡ x.0 = same c x.0 (sym p.2 ∙ x.1) in
      let clash : ◌≡◌ {A = Option Value} None (Some p.0) = sym e ∙ ap rule is ∙ x.3 in
      cc

pub sized_same : (c d : List ℕ) → with_size c ≡ with_size d → c ≡ d
sized_same c d e = same_sized c d e

pub counted_same : (c d : List ℕ) → counted c ≡ counted d → c ≡ d
counted_same c d e = same_counted c d e

-- ---- bits

bits_right : (unused : ℕ) (c : List ℕ) (v : Value) → AreOctets c → bits_size unused (length c) ≡ true → bits_rule unused c ≡ Some v → AreBits unused c
bits_right unused c v are few e = by_bool (are_bits c unused) refl e
  where
    by_bool : (b : Bool) → are_bits c unused ≡ b → cond b (Some (bits c unused)) None ≡ Some v → are_bits c unused ≡ true
    by_bool true h k = h
    by_bool false h k = absurd (let clash : ◌≡◌ {A = Option Value} None (Some v) = k in cc)

bits_wrong : (unused : ℕ) (c : List ℕ) → bits_rule unused c ≡ None → AreBits unused c → ⊥
bits_wrong unused c e p =
    let clash : ◌≡◌ {A = Option Value} (Some (bits c unused)) None = sym (ap (λ (b : Bool). cond b (Some (bits c unused)) None) p) ∙ e in cc

abbrev behind_unused : ℕ → ℕ → ℕ × Spot → Reading (Value × Spot)
behind_unused limit place u = cond (nat_lt u.0 8) (string_at (bits_size u.0) (bits_rule u.0) limit u.1) (refuse place)

pub bits_finds : Finds bits_at BitsFault
unfolding bits_at
bits_finds = record {
  finds = λ limit s f ne are here e.
      elim (bind_err (octet_at limit s) (behind_unused limit s.place) f e) [
        | inl t ↦ inl (octet_err limit s f ne t)
        | inr t ↦
            let takes = octet_takes_of limit s t.0.1 t.0.0 t.1 in
            inr (
              t.0.0,
              t.0.1,
              takes,
              elim (cond_err (nat_lt t.0.0 8) (string_at (bits_size t.0.0) (bits_rule t.0.0) limit t.0.1) (refuse s.place) f t.2) [
                | inl u ↦ inr (ltb-true t.0.0 8 u.0, (string_finds (bits_size t.0.0) (bits_rule t.0.0) (AreBits t.0.0) (bits_right t.0.0) (bits_wrong t.0.0)).finds limit t.0.1 f ne (takes_octets limit s t.0.1 (t.0.0 ∷ []) takes are) takes.within u.1)
                | inr u ↦ inl (ltb-false t.0.0 8 u.0, refusal_is {A = Value × Spot} s.place f u.1)
              ],
            )
      ];
}

pub bits_tells : Tells bits_at BitsFault
unfolding bits_at
bits_tells = record {
  tells = λ limit s f are lt most w.
      elim w [
        | inl c ↦ bind_fails (octet_at limit s) (behind_unused limit s.place) f (octet_fails limit s f c)
        | inr c ↦
            let takes = c.2 in
            let left : c.1.left ≤ 131072 = let same = takes.same_left in omega arith in
            bind_goes (octet_at limit s) (behind_unused limit s.place) (c.0, c.1) (failed f) (octet_takes limit s c.1 c.0 c.2) (elim c.3 [
              | inl u ↦ cond_no (nat_lt c.0 8) _ _ _ (le-ltb c.0 8 u.0) (refused {A = Value × Spot} s.place f u.1)
              | inr u ↦ cond_yes (nat_lt c.0 8) _ _ _ (lt-ltb c.0 8 u.0) ((string_tells (bits_size c.0) (bits_rule c.0) (AreBits c.0) (bits_right c.0) (bits_wrong c.0)).tells limit c.1 f (takes_octets limit s c.1 (c.0 ∷ []) c.2 are) lt left u.1)
            ])
      ];
}
