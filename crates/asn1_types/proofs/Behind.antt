-- What stands behind whole values, step by step.
use Rattle.std.proofs.Common.{◌≡◌, ℕ, zero, suc, ◌-◌, ◌<◌, Bool, true, false, ◌&&◌, List, length, drop, Option, Some, None, refl, sym, ap, ◌∙◌, arith}
use Rattle.std.specs.Prelude.{option_and_then}
use Rattle.asn1_types.specs.Whole.{behind_identifier, behind_sized, is_constructed, is_marked, is_ended, behind_length, behind_values, behind_whole}

module _ (behind : List ℕ → Option (List ℕ)) where
  -- all together, where they are what is left of this turn on
  pub values_end : (turns : ℕ) (octets : List ℕ) (total : Option (List ℕ)) → 0 < turns → is_ended octets ≡ true → behind_values behind turns octets ≡ total → Some (drop 2 octets) ≡ total
  unfolding behind_values
  values_end zero octets total lt e h = absurd (omega arith)
  values_end (suc turns) octets total lt e h = (rw e refl) ∙ h

  pub values_step : (turns : ℕ) (octets : List ℕ) (o total : Option (List ℕ)) → 0 < turns → is_ended octets ≡ false → behind octets ≡ o → behind_values behind turns octets ≡ total → option_and_then (behind_values behind (turns - 1)) o ≡ total
  unfolding behind_values
  values_step zero octets o total lt e g h = absurd (omega arith)
  values_step (suc turns) octets o total lt e g h =
      let less : suc turns - 1 ≡ turns = omega arith in
      ap (λ (k : ℕ). option_and_then (behind_values behind k) o) less ∙ ap (option_and_then (behind_values behind turns)) (sym g) ∙ (rw e refl) ∙ h

  pub values_out : (turns : ℕ) (octets : List ℕ) (total : Option (List ℕ)) → turns ≡ 0 → behind_values behind turns octets ≡ total → None ≡ total
  unfolding behind_values
  values_out zero octets total e h = h
  values_out (suc turns) octets total e h = absurd (omega arith)

pub whole_none : (levels : ℕ) (octets : List ℕ) → levels ≡ 0 → None ≡ behind_whole levels octets
unfolding behind_whole
whole_none zero octets e = refl
whole_none (suc levels) octets e = absurd (omega arith)

pub whole_some : (levels : ℕ) (octets : List ℕ) (o : Option (List ℕ)) → 0 < levels → behind_identifier octets ≡ o → option_and_then (behind_length (behind_whole (levels - 1)) (is_constructed octets)) o ≡ behind_whole levels octets
unfolding behind_whole
whole_some zero octets o lt e = absurd (omega arith)
whole_some (suc levels) octets o lt e =
    let less : suc levels - 1 ≡ levels = omega arith in
    ap (λ (k : ℕ). option_and_then (behind_length (behind_whole k) (is_constructed octets)) o) less ∙ ap (option_and_then (behind_length (behind_whole levels) (is_constructed octets))) (sym e)

pub length_marked : (behind : List ℕ → Option (List ℕ)) (constructed : Bool) (rest : List ℕ) → is_marked rest ≡ true → constructed ≡ true → behind_values behind (length (drop 1 rest)) (drop 1 rest) ≡ behind_length behind constructed rest
length_marked behind constructed rest e f = rw (e, f) refl

pub length_sized : (behind : List ℕ → Option (List ℕ)) (constructed : Bool) (rest : List ℕ) → (is_marked rest && constructed) ≡ false → behind_sized rest ≡ behind_length behind constructed rest
length_sized behind constructed rest e = rw e refl
