-- What configurations that aren't refused have: identifiers of contexts, and a window.
use Rattle.std.proofs.Common.{◌≡◌, refl, true, false, ◌∙◌, ap, arith, ℕ, ◌≤◌, ◌%◌, List, [], ◌∷◌, ◌++◌, length}
use Rattle.std.specs.Prelude.{Bool, ◌&&◌, ◌||◌, Option, Some, None, nat_eq, nat_lt, if◌then◌else◌}
use Rattle.std.specs.List.{list_any}
use Rattle.std.proofs.lemmas.Bool.Decides.{nat_tests}
use Rattle.osi_base.specs.declared.layer_words.Proposal.{Proposal}
use Rattle.dialogue.specs.declared.config.Config.{Config}
use Rattle.dialogue.specs.declared.config.Mode.{Mode}
use Rattle.dialogue.specs.declared.config.ConfigRefusal.{ConfigRefusal}
use Rattle.dialogue.specs.Config as values
use Rattle.dialogue.specs.Config.{is_bad_selector, is_bad_reference, is_bad_window}
use Rattle.end_rules.specs.Base.{is_reliable}
use Rattle.end_rules.specs.Sets.{proposed_ids}
use Rattle.end_rules.specs.State.{is_empty}
use Rattle.end_rules.specs.Altering.{is_no_context}
use Rattle.end_config.specs.Refusing.{is_taken, is_bad_context, bad_context, or_refusal, context_refusal, early_refusal, late_refusal, config_refusal}

or-left : (p q : Bool) → (p || q) ≡ false → p ≡ false
or-left true q h = cc
or-left false q h = refl

or-right : (p q : Bool) → (p || q) ≡ false → q ≡ false
or-right true q h = cc
or-right false q h = h

none-first : (x y : Option ConfigRefusal) → or_refusal x y ≡ None → x ≡ None
none-first None y h = refl
none-first (Some refusal) y h = cc

none-second : (x y : Option ConfigRefusal) → or_refusal x y ≡ None → y ≡ None
none-second None y h = h
none-second (Some refusal) y h = cc

early : (config : Config) → config_refusal config ≡ None → early_refusal config ≡ None
early config h = none-first (early_refusal config) (late_refusal config) h

-- ---- identifiers

right-id : (mode : Mode) (before : List Proposal) (p : Proposal) → is_bad_context mode before p ≡ false → is_no_context p.id ≡ false
right-id mode before p h =
    let a = or-left (nat_eq (p.id % 2) 0 || nat_eq p.id 1 || (is_reliable mode && nat_eq p.id 3) || nat_lt 32767 p.id || is_taken p.id before) (is_empty p.transfers) h in
    let b = or-left (nat_eq (p.id % 2) 0 || nat_eq p.id 1 || (is_reliable mode && nat_eq p.id 3) || nat_lt 32767 p.id) (is_taken p.id before) a in
    let high = or-right (nat_eq (p.id % 2) 0 || nat_eq p.id 1 || (is_reliable mode && nat_eq p.id 3)) (nat_lt 32767 p.id) b in
    let c = or-left (nat_eq (p.id % 2) 0 || nat_eq p.id 1) (is_reliable mode && nat_eq p.id 3) (or-left (nat_eq (p.id % 2) 0 || nat_eq p.id 1 || (is_reliable mode && nat_eq p.id 3)) (nat_lt 32767 p.id) b) in
    both p.id (or-left (nat_eq (p.id % 2) 0) (nat_eq p.id 1) c) high
  where
    both : (k : ℕ) → nat_eq (k % 2) 0 ≡ false → nat_lt 32767 k ≡ false → (nat_eq k 0 || nat_lt 32767 k) ≡ false
    both k h i = grind (arith, nat_tests)

right-ids : (mode : Mode) (before ps : List Proposal) → bad_context mode before ps ≡ None → list_any is_no_context (proposed_ids ps) ≡ false
right-ids mode before [] h = refl
right-ids mode before (p ∷ ps) h = go (right-ids mode (before ++ p ∷ []) ps) (is_bad_context mode before p) refl h
  where
    go : (bad_context mode (before ++ p ∷ []) ps ≡ None → list_any is_no_context (proposed_ids ps) ≡ false) → (b : Bool) → is_bad_context mode before p ≡ b → (if b then Some p.id else bad_context mode (before ++ p ∷ []) ps) ≡ None → list_any is_no_context (p.id ∷ proposed_ids ps) ≡ false
    go later true e h = cc
    go later false e h = ap (λ b. b || list_any is_no_context (proposed_ids ps)) (right-id mode before p e) ∙ later h

none-bad : (o : Option ℕ) (count : ℕ) → context_refusal o count ≡ None → o ≡ None
none-bad None count h = refl
none-bad (Some id) count h = cc

pub identifiers-right : (config : Config) → config_refusal config ≡ None → list_any is_no_context (1 ∷ 3 ∷ proposed_ids config.contexts) ≡ false
identifiers-right config h =
    right-ids config.mode [] config.contexts
    (none-bad (bad_context config.mode [] config.contexts) (length config.contexts) (none-first (context_refusal (bad_context config.mode [] config.contexts) (length config.contexts)) (values.bare_config_refusal config) (early config h)))

-- ---- the window

ladder : (a b c : Bool) (x y z : ConfigRefusal) → (if a then Some x else (if b then Some y else (if c then Some z else None))) ≡ None → c ≡ false
ladder true b c x y z h = cc
ladder false true c x y z h = cc
ladder false false true x y z h = cc
ladder false false false x y z h = refl

pub has-window : (config : Config) → config_refusal config ≡ None → 1 ≤ config.window
has-window config h =
    let v = none-second (context_refusal (bad_context config.mode [] config.contexts) (length config.contexts)) (values.bare_config_refusal config) (early config h) in
    let w = ladder (is_bad_selector config.calling || is_bad_selector config.called) (is_bad_reference config.reference config.common) (is_bad_window config.checkpoint config.window) _ _ _ v in
    some config.window (or-right (nat_lt 255 config.checkpoint) (nat_eq config.window 0) (or-left (nat_lt 255 config.checkpoint || nat_eq config.window 0) (nat_lt 255 config.window) w))
  where
    some : (n : ℕ) → nat_eq n 0 ≡ false → 1 ≤ n
    some n e = grind (arith, nat_tests)
