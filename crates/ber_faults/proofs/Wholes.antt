-- One whole value of any type: a fault of reading is one by the grammar, and the other way round (X.690 8.1).
use Rattle.std.proofs.Common.{◌≡◌, ℕ, zero, suc, Bool, true, false, ◌&&◌, List, length, take, refl, ◌-◌, inl, inr}
use Rattle.std.proofs.lemmas.Bool.{and_parts}
use Rattle.osi_base.specs.declared.layer_words.Kind.TheVariants.{Tag}
use Rattle.asn1_types.specs.Rows.{is_no_tag}
use Rattle.asn1_types.specs.Value.{Value, any}
use Rattle.asn1_types.specs.Whole.{is_marked}
use Rattle.ber_spelling.specs.Reading.{Spot, Opened, Reading}
use Rattle.ber_spelling.specs.Fields.{contents_at}
use Rattle.ber_spelling.specs.Rules.{all_items_at, anew, whole_at, any_at}
use Rattle.ber_spelling.proofs.Identifiers.{done}
use Rattle.ber_spelling.proofs.WholeReads.{IsTagged, WholeIs, whole_found, whole_only}
use Rattle.ber_faults.specs.Values.{WrongIn, ItemsFault, WholeStep, WholeFault, every_state}
use Rattle.ber_faults.proofs.Steps.{bind_err, bind_fails, cond_err, cond_yes, cond_no, not_err}
use Rattle.ber_faults.proofs.Lengths.{contents_err, contents_fails}
use Rattle.ber_faults.proofs.Readers.{Finds, Tells, step_finds, step_tells, refused, refusal_is, body_err, body_fails}
use Rattle.ber_faults.proofs.Items.{all_finds, all_tells}

abbrev WholesIn : ℕ → WrongIn
WholesIn depth x b f = ItemsFault (WholeStep depth) every_state (λ u. WholeFault depth) x tt b f

abbrev behind_contents : ℕ × List ℕ × Spot → Reading (Unit {0} × Spot)
behind_contents c = done {A = Unit {0} × Spot} (tt, c.2)

marked_not : (a b : Bool) → (a && b) ≡ false → a ≡ true → b ≡ false
marked_not true b e k = e
marked_not false b e k = absurd cc

not_marked : (a b : Bool) → (a ≡ true → b ≡ false) → (a && b) ≡ false
not_marked true b h = h refl
not_marked false b h = refl

marked_so : (a b : Bool) → a ≡ true → b ≡ true → (a && b) ≡ true
marked_so true b e k = k
marked_so false b e k = absurd cc

pub whole_finds : (depth : ℕ) (before : Unit {0}) → Finds (whole_at depth before) (WholeFault depth)
unfolding whole_at
whole_finds zero before = record { finds = λ scope o s f ne are here e. refusal_is {A = Unit {0} × Spot} o.start.place Tag f e }
whole_finds (suc depth) before = record {
  finds = λ scope o s f ne are here e.
      elim (cond_err (is_no_tag o.class o.number) _ _ f e) [
        | inl t ↦ inl (t.0, refusal_is {A = Unit {0} × Spot} o.start.place Tag f t.1)
        | inr t ↦ inr (
          t.0,
          elim (cond_err (is_marked s.rest && o.constructed) _ _ f t.1) [
            | inl u ↦
                let b = and_parts (is_marked s.rest) o.constructed u.0 in
                inl (
                  b.0,
                  b.1,
                  body_err (all_items_at (whole_at depth) every_state tt) (WholesIn depth)
                      (all_finds (whole_at depth) every_state (WholeIs depth) (λ v. WholeFault depth) (whole_found depth) (λ v. step_finds (whole_at depth v) (WholeFault depth) (whole_finds depth v)) tt)
                      (anew (suc depth) scope) s f ne are u.1,
                )
            | inr u ↦ inr (
              marked_not (is_marked s.rest) o.constructed u.0,
              elim (bind_err (contents_at (anew (suc depth) scope) s.place s.rest) behind_contents f u.1) [
                | inl w ↦ contents_err (anew (suc depth) scope) s.place s.rest f ne w
                | inr w ↦ absurd (not_err {A = Unit {0} × Spot} (tt, w.0.2) f w.2)
              ],
            )
          ],
        )
      ];
}

pub whole_tells : (depth : ℕ) (before : Unit {0}) → Tells (whole_at depth before) (WholeFault depth)
unfolding whole_at
whole_tells zero before = record { tells = λ scope o s f are here w. refused {A = Unit {0} × Spot} o.start.place Tag f w }
whole_tells (suc depth) before = record {
  tells = λ scope o s f are here w.
      elim w [
        | inl t ↦ cond_yes (is_no_tag o.class o.number) _ _ _ t.0 (refused {A = Unit {0} × Spot} o.start.place Tag f t.1)
        | inr t ↦ cond_no (is_no_tag o.class o.number) _ _ _ t.0 (elim t.1 [
          | inl u ↦ cond_yes (is_marked s.rest && o.constructed) _ _ _ (marked_so (is_marked s.rest) o.constructed u.0 u.1)
              (body_fails (all_items_at (whole_at depth) every_state tt) (WholesIn depth)
              (all_tells (whole_at depth) every_state (WholeIs depth) (λ v. WholeFault depth) IsTagged (whole_only depth) (λ v. step_tells (whole_at depth v) (WholeFault depth) (whole_tells depth v)) tt)
              (anew (suc depth) scope) s f are u.2)
          | inr u ↦ cond_no (is_marked s.rest && o.constructed) _ _ _ (not_marked (is_marked s.rest) o.constructed u.0)
              (bind_fails (contents_at (anew (suc depth) scope) s.place s.rest) behind_contents f (contents_fails (anew (suc depth) scope) s.place s.rest f u.1))
        ])
      ];
}

abbrev as_any : Opened → Unit {0} × Spot → Reading (Value × Spot)
as_any o w = done {A = Value × Spot} (any (take (length o.start.rest - length w.1.rest) o.start.rest), w.1)

pub any_finds : Finds any_at (WholeFault 32)
unfolding any_at
any_finds = record {
  finds = λ scope o s f ne are here e.
      elim (bind_err (whole_at 32 tt scope o s) (as_any o) f e) [
        | inl t ↦ (whole_finds 32 tt).finds scope o s f ne are here t
        | inr t ↦ absurd (not_err {A = Value × Spot} (any (take (length o.start.rest - length t.0.1.rest) o.start.rest), t.0.1) f t.2)
      ];
}

pub any_tells : Tells any_at (WholeFault 32)
unfolding any_at
any_tells = record { tells = λ scope o s f are here w. bind_fails (whole_at 32 tt scope o s) (as_any o) f ((whole_tells 32 tt).tells scope o s f are here w) }
