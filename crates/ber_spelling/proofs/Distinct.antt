-- Tags that tell parts apart: an identifier that one part allows, no other of its run does.
use Rattle.std.proofs.Common.{◌≡◌, ℕ, Bool, true, false, not, ◌&&◌, ◌||◌, List, [], ◌∷◌, refl, sym, ◌∙◌, ◌⊎◌, inl, inr}
use Rattle.std.specs.Prelude.{nat_eq}
use Rattle.std.specs.List.{list_any}
use Rattle.std.proofs.lemmas.Bool.{eqb-true, and_parts, or_cases, or_parts}
use Rattle.asn1_types.specs.declared.row.Class.{Class}
use Rattle.asn1_types.specs.declared.row.Part.{Part}
use Rattle.asn1_types.specs.Defaults.{may_be_absent}
use Rattle.asn1_types.specs.Rows.{Opening, tag, every, is_no_tag, same_class, allows, meets}
use Rattle.asn1_types.specs.Table.{clash, clashes_in_run, clashes_in_sequence}
use Rattle.ber_spelling.proofs.Steady.{same_classes, class_itself, eqb_itself}

or_right : (a b : Bool) → b ≡ true → (a || b) ≡ true
or_right true b e = refl
or_right false b e = e

meet : (c : Class) (k : ℕ) (o u : Opening) → allows c k o ≡ true → allows c k u ≡ true → meets o u ≡ true
meet c k every u a b = refl
meet c k (tag d n) every a b = refl
meet c k (tag d n) (tag f m) a b =
    let x = and_parts (same_class c d) (nat_eq k n) a in
    let y = and_parts (same_class c f) (nat_eq k m) b in
    let classes : d ≡ f = sym (same_classes c d x.0) ∙ same_classes c f y.0 in
    let numbers : n ≡ m = sym (eqb-true k n x.1) ∙ eqb-true k m y.1 in
    rw (classes, numbers, class_itself f, eqb_itself m) refl

meet_some : (c : Class) (k : ℕ) (o : Opening) (us : List Opening) → allows c k o ≡ true → list_any (allows c k) us ≡ true → list_any (meets o) us ≡ true
meet_some c k o [] a b = absurd cc
meet_some c k o (u ∷ us) a b =
    elim (or_cases (allows c k u) (list_any (allows c k) us) b) [
      | inl t ↦ rw (meet c k o u a t) refl
      | inr t ↦ or_right (meets o u) _ (meet_some c k o us a t)
    ]

meet_lists : (c : Class) (k : ℕ) (os us : List Opening) → list_any (allows c k) os ≡ true → list_any (allows c k) us ≡ true → list_any (λ o. list_any (meets o) us) os ≡ true
meet_lists c k [] us a b = absurd cc
meet_lists c k (o ∷ os) us a b =
    elim (or_cases (allows c k o) (list_any (allows c k) os) a) [
      | inl t ↦ rw (meet_some c k o us t b) refl
      | inr t ↦ or_right (list_any (meets o) us) _ (meet_lists c k os us t b)
    ]

abbrev pub begins_by : (ℕ → List Opening) → ℕ → Class → ℕ → Bool
begins_by openings n class number = not (is_no_tag class number) && list_any (allows class number) (openings n)

-- some part allows the identifier
abbrev pub AnyAllows : (ℕ → List Opening) → List Part → Class → ℕ → Type 0
AnyAllows openings [] c k = ⊥
AnyAllows openings (p ∷ ps) c k = (begins_by openings p.inner.0 c k ≡ true) ⊎ AnyAllows openings ps c k

module _ (openings : ℕ → List Opening) (c : Class) (k : ℕ) where
  no_both : (a b d : Bool) → (a && b) ≡ true → (b ≡ true → d ≡ false) → (a && d) ≡ false
  no_both true b d e f = f e
  no_both false b d e f = refl

  not_first : (x : Bool) (p q : Part) → list_any (allows c k) (openings p.inner.0) ≡ x → clash openings p q ≡ false → list_any (allows c k) (openings q.inner.0) ≡ true → x ≡ false
  not_first true p q is e b = let m : clash openings p q ≡ true = meet_lists c k (openings p.inner.0) (openings q.inner.0) is b in absurd cc
  not_first false p q is e b = refl

  -- what the later part begins with, the earlier doesn't
  pub apart : (p q : Part) → clash openings p q ≡ false → begins_by openings q.inner.0 c k ≡ true → begins_by openings p.inner.0 c k ≡ false
  apart p q e b =
      no_both (not (is_no_tag c k)) (list_any (allows c k) (openings q.inner.0)) (list_any (allows c k) (openings p.inner.0)) b
      (λ t. not_first (list_any (allows c k) (openings p.inner.0)) p q refl e t)

  -- a part allows the identifier, and those before it may be left out
  abbrev pub RunAllows : List Part → Type 0
  RunAllows [] = ⊥
  RunAllows (p ∷ ps) = (begins_by openings p.inner.0 c k ≡ true) ⊎ ((may_be_absent p ≡ true) × RunAllows ps)

  pub apart_in_run : (p : Part) (ps : List Part) → clashes_in_run (clash openings) p ps ≡ false → RunAllows ps → begins_by openings p.inner.0 c k ≡ false
  apart_in_run p [] e h = absurd h
  apart_in_run p (q ∷ qs) e (inl h) = apart p q (or_parts (clash openings p q) _ e).0 h
  apart_in_run p (q ∷ qs) e (inr h) =
      let t : (may_be_absent q && clashes_in_run (clash openings) p qs) ≡ false = (or_parts (clash openings p q) _ e).1 in
      apart_in_run p qs (without (may_be_absent q) _ h.0 t) h.1
    where
      without : (a b : Bool) → a ≡ true → (a && b) ≡ false → b ≡ false
      without true b x y = y
      without false b x y = absurd cc

  pub run_apart : (p : Part) (ps : List Part) → may_be_absent p ≡ true → clashes_in_sequence (clash openings) (p ∷ ps) ≡ false → RunAllows ps → begins_by openings p.inner.0 c k ≡ false
  run_apart p ps o e h = apart_in_run p ps (with_optional (may_be_absent p) _ o (or_parts _ (clashes_in_sequence (clash openings) ps) e).0) h
    where
      with_optional : (a b : Bool) → a ≡ true → (a && b) ≡ false → b ≡ false
      with_optional true b x y = y
      with_optional false b x y = absurd cc
