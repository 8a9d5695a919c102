-- The contexts of a configuration that isn't refused come once each and are odd.
use Rattle.std.proofs.Common.{◌≡◌, ℕ, ◌%◌, Bool, true, false, List, [], ◌∷◌, ◌++◌, length, Some, None, refl, ap, subst, arith}
use Rattle.std.specs.Prelude.{Option, not, ◌&&◌, ◌||◌, nat_eq, nat_lt, if◌then◌else◌}
use Rattle.std.specs.List.{list_any}
use Rattle.std.proofs.lemmas.Bool.Decides.{nat_tests}
use Rattle.osi_base.specs.declared.layer_words.Proposal.{Proposal}
use Rattle.dialogue.specs.declared.config.Config.{Config}
use Rattle.dialogue.specs.declared.config.Mode.{Mode}
use Rattle.dialogue.specs.declared.config.Mode.TheVariants.{Bare, Direct, Reliable}
use Rattle.dialogue.specs.declared.config.ConfigRefusal.{ConfigRefusal}
use Rattle.dialogue.specs.Config as values
use Rattle.association_ground.specs.end_rules.Base.{is_reliable}
use Rattle.association_ground.specs.end_rules.Sets.{is_among, has_parity, proposed_ids}
use Rattle.association_ground.specs.end_rules.State.{is_empty}
use Rattle.association_ground.specs.end_rules.Altering.{has_double}
use Rattle.association_ground.specs.end_rules.Policy.{is_faulty_proposal}
use Rattle.association_ground.specs.end_rules.Writing.{own_proposals}
use Rattle.end_config.specs.Refusing.{is_taken, is_bad_context, bad_context, or_refusal, context_refusal, early_refusal, late_refusal, config_refusal}
use Rattle.end_config.specs.Proposing.{InitiatorsProposeRightly}

or-left : (p q : Bool) → (p || q) ≡ false → p ≡ false
or-left true q h = cc
or-left false q h = refl

or-right : (p q : Bool) → (p || q) ≡ false → q ≡ false
or-right true q h = cc
or-right false q h = h

taken-more : (k : ℕ) (before more : List Proposal) → is_taken k before ≡ true → is_taken k (before ++ more) ≡ true
taken-more k [] more h = cc
taken-more k (p ∷ ps) more h = go (taken-more k ps more) (nat_eq p.id k) h
  where
    go : (is_taken k ps ≡ true → is_taken k (ps ++ more) ≡ true) → (b : Bool) → (b || is_taken k ps) ≡ true → (b || is_taken k (ps ++ more)) ≡ true
    go later true e = refl
    go later false e = later e

taken-last : (before : List Proposal) (p : Proposal) → is_taken p.id (before ++ p ∷ []) ≡ true
taken-last [] p = ap (λ b. b || false) (itself p.id)
  where
    itself : (n : ℕ) → nat_eq n n ≡ true
    itself n = grind (arith, nat_tests)
taken-last (q ∷ qs) p = go (taken-last qs p) (nat_eq q.id p.id)
  where
    go : is_taken p.id (qs ++ p ∷ []) ≡ true → (b : Bool) → (b || is_taken p.id (qs ++ p ∷ [])) ≡ true
    go later true = refl
    go later false = later

-- an identifier that isn't even is odd
abbrev is_even_id : ℕ → Bool
is_even_id k = not (has_parity true k)

odd : (k : ℕ) → nat_eq (k % 2) 0 ≡ false → is_even_id k ≡ false
odd k h = grind (arith, nat_tests)

-- what is right of the contexts behind these
record Right (mode : Mode) (before ps : List Proposal) : Type 0 where
  fresh : (k : ℕ) → is_taken k before ≡ true → is_among k (proposed_ids ps) ≡ false
  once : has_double (proposed_ids ps) ≡ false
  odds : list_any is_even_id (proposed_ids ps) ≡ false
  not_first : is_among 1 (proposed_ids ps) ≡ false
  not_third : is_reliable mode ≡ true → is_among 3 (proposed_ids ps) ≡ false

record Fine (mode : Mode) (before : List Proposal) (p : Proposal) : Type 0 where
  is_odd : nat_eq (p.id % 2) 0 ≡ false
  other_one : nat_eq p.id 1 ≡ false
  other_three : (is_reliable mode && nat_eq p.id 3) ≡ false
  new : is_taken p.id before ≡ false

fine : (mode : Mode) (before : List Proposal) (p : Proposal) → is_bad_context mode before p ≡ false → Fine mode before p
fine mode before p h =
    let e = or-left (nat_eq (p.id % 2) 0 || nat_eq p.id 1 || (is_reliable mode && nat_eq p.id 3) || nat_lt 32767 p.id || is_taken p.id before) (is_empty p.transfers) h in
    let d = or-left (nat_eq (p.id % 2) 0 || nat_eq p.id 1 || (is_reliable mode && nat_eq p.id 3) || nat_lt 32767 p.id) (is_taken p.id before) e in
    let c = or-left (nat_eq (p.id % 2) 0 || nat_eq p.id 1 || (is_reliable mode && nat_eq p.id 3)) (nat_lt 32767 p.id) d in
    let b = or-left (nat_eq (p.id % 2) 0 || nat_eq p.id 1) (is_reliable mode && nat_eq p.id 3) c in
    record {
      is_odd = or-left (nat_eq (p.id % 2) 0) (nat_eq p.id 1) b;
      other_one = or-right (nat_eq (p.id % 2) 0) (nat_eq p.id 1) b;
      other_three = or-right (nat_eq (p.id % 2) 0 || nat_eq p.id 1) (is_reliable mode && nat_eq p.id 3) c;
      new = or-right (nat_eq (p.id % 2) 0 || nat_eq p.id 1 || (is_reliable mode && nat_eq p.id 3) || nat_lt 32767 p.id) (is_taken p.id before) e;
    }

swap : (m n : ℕ) → nat_eq m n ≡ false → nat_eq n m ≡ false
swap m n h = grind (arith, nat_tests)

third : (b c : Bool) → (b && c) ≡ false → b ≡ true → c ≡ false
third true c h e = h
third false c h e = cc

right : (mode : Mode) (before ps : List Proposal) → bad_context mode before ps ≡ None → Right mode before ps
right mode before [] h = record { fresh = λ k t. refl; once = refl; odds = refl; not_first = refl; not_third = λ e. refl }
right mode before (p ∷ ps) h = go (right mode (before ++ p ∷ []) ps) (is_bad_context mode before p) refl h
  where
    go : (bad_context mode (before ++ p ∷ []) ps ≡ None → Right mode (before ++ p ∷ []) ps) → (bad : Bool) → is_bad_context mode before p ≡ bad → (if bad then Some p.id else bad_context mode (before ++ p ∷ []) ps) ≡ None → Right mode before (p ∷ ps)
    go later true e k = cc
    go later false e k =
        let f = fine mode before p e in
        let r = later k in
        record {
          fresh = λ i t. rw (other_id i t f.new, r.fresh i (taken-more i before (p ∷ []) t)) refl;
          once = rw (r.fresh p.id (taken-last before p), r.once) refl;
          odds = rw (odd p.id f.is_odd, r.odds) refl;
          not_first = rw (swap p.id 1 f.other_one, r.not_first) refl;
          not_third = λ t. rw (swap p.id 3 (third (is_reliable mode) (nat_eq p.id 3) f.other_three t), r.not_third t) refl;
        }
      where
        other_id : (i : ℕ) → is_taken i before ≡ true → is_taken p.id before ≡ false → nat_eq i p.id ≡ false
        other_id i t n = by (nat_eq i p.id) refl
          where
            same : nat_eq i p.id ≡ true → i ≡ p.id
            same e = grind (arith, nat_tests)

            by : (b : Bool) → nat_eq i p.id ≡ b → nat_eq i p.id ≡ false
            by false e = e
            by true e = let d : is_taken p.id before ≡ true = subst (λ m. is_taken m before ≡ true) (same e) t in cc

-- ---- the rows before

no-early : (config : Config) → config_refusal config ≡ None → bad_context config.mode [] config.contexts ≡ None
no-early config h = contexts (bad_context config.mode [] config.contexts) (length config.contexts) (first (context_refusal (bad_context config.mode [] config.contexts) (length config.contexts)) (values.bare_config_refusal config) (first (early_refusal config) (late_refusal config) h))
  where
    first : (x y : Option ConfigRefusal) → or_refusal x y ≡ None → x ≡ None
    first None y h = refl
    first (Some refusal) y h = cc

    contexts : (bad : Option ℕ) (count : ℕ) → context_refusal bad count ≡ None → bad ≡ None
    contexts None count h = refl
    contexts (Some id) count h = cc

with-own : (mode : Mode) (ps : List Proposal) → Right mode [] ps → is_faulty_proposal true [] (own_proposals mode ++ ps) ≡ false
with-own Bare ps r = rw (r.not_first, r.once, r.odds) refl
with-own Direct ps r = rw (r.not_first, r.once, r.odds) refl
with-own Reliable ps r = rw (r.not_first, r.not_third refl, r.once, r.odds) refl

pub proposes-rightly : InitiatorsProposeRightly
proposes-rightly config h = with-own config.mode config.contexts (right config.mode [] config.contexts (no-early config h))
