-- What lies between tokens.
use Rattle.std.proofs.Common.{codes, ◌≡◌, ℕ, suc, ◌+◌, ◌-◌, ◌≤◌, Bool, true, false, List, [], ◌∷◌, ◌++◌, take, drop, refl, sym, ap, subst, ◌∙◌, arith}
use Rattle.std.specs.Prelude.{◌==◌, ◌&&◌, nat_eq, if◌then◌else◌, slice_range}
use Rattle.std.proofs.lemmas.Bool.{eqb-true, and_parts}
use Rattle.std.proofs.lemmas.List.{append-nil, drop-drop, take-append-drop, take-take, drop-take}
use Rattle.notation_tokens.specs.Forms.{is_blank}
use Rattle.notation_tokens.specs.Lexing.{starts, comment_length}
use Rattle.notation_tokens.specs.Tokens.{Gap, outside, opening, inside, closing, elsewhere, behind_one, behind_all, may_end}

-- where cutting may stand in front of the rest: a comment goes on no further than to its line's end
abbrev pub Fit : Gap → List ℕ → Type 0
Fit outside rest = Unit {0}
Fit opening rest = ⊥
Fit inside [] = Unit {0}
Fit inside (c ∷ cs) = c ≡ 10
Fit closing [] = Unit {0}
Fit closing (c ∷ cs) = c ≡ 10
Fit elsewhere rest = ⊥

pub end_fits : (g : Gap) → Fit g [] → may_end g ≡ true
end_fits outside f = refl
end_fits opening f = absurd f
end_fits inside f = refl
end_fits closing f = refl
end_fits elsewhere f = absurd f

-- what is passed leads from where cutting stands to where it may stand
abbrev pub Passes : List ℕ → ℕ → Type 0
Passes rest n = (g : Gap) → Fit g rest → Fit (behind_all g (take n rest)) (drop n rest)

pub blank_passes : (c : ℕ) (cs : List ℕ) → is_blank c ≡ true → Passes (c ∷ cs) 1
blank_passes c cs b outside f = rw b tt
blank_passes c cs b opening f = absurd f
blank_passes c cs b inside f = subst (λ (k : ℕ). Fit (behind_one inside k) cs) (sym f) tt
blank_passes c cs b closing f = subst (λ (k : ℕ). Fit (behind_one closing k) cs) (sym f) tt
blank_passes c cs b elsewhere f = absurd f

line_is_blank : is_blank 10 ≡ false → ⊥
line_is_blank e = absurd cc

-- a token or a comment begins outside of comments
pub begins_outside : (c : ℕ) (cs : List ℕ) → is_blank c ≡ false → (g : Gap) → Fit g (c ∷ cs) → g ≡ outside
begins_outside c cs b outside f = refl
begins_outside c cs b opening f = absurd f
begins_outside c cs b inside f = absurd (line_is_blank (ap is_blank (sym f) ∙ b))
begins_outside c cs b closing f = absurd (line_is_blank (ap is_blank (sym f) ∙ b))
begins_outside c cs b elsewhere f = absurd f

-- ---- comments

differs : (c : ℕ) → nat_eq 45 c ≡ false → (c == 45) ≡ false
differs c e = go (c == 45) refl
  where
    hyphen : nat_eq 45 45 ≡ false → ⊥
    hyphen h = absurd cc

    go : (b : Bool) → (c == 45) ≡ b → b ≡ false
    go true is = absurd (hyphen (ap (nat_eq 45) (sym (eqb-true c 45 is)) ∙ e))
    go false is = refl

record TwoHyphens (c : ℕ) (cs : List ℕ) : Type 0 where
  first : c ≡ 45
  behind : List ℕ
  second : cs ≡ 45 ∷ behind

two_hyphens : (c : ℕ) (cs : List ℕ) → starts (codes "--") (c ∷ cs) ≡ true → TwoHyphens c cs
two_hyphens c [] e = absurd (no (nat_eq 45 c) e)
  where
    no : (b : Bool) → b && false ≡ true → ⊥
    no true h = absurd cc
    no false h = absurd cc
two_hyphens c (d ∷ ds) e =
    let p = and_parts (nat_eq 45 c) _ e in
    let q = and_parts (nat_eq 45 d) _ p.1 in
    record { first = sym (eqb-true 45 c p.0); behind = ds; second = ap (λ (k : ℕ). k ∷ ds) (sym (eqb-true 45 d q.0)) }

abbrev Stops : Gap → List ℕ → ℕ → Type 0
Stops g cs n = Fit (behind_all g (take n cs)) (drop n cs)

closes_at_two : (c : ℕ) (cs : List ℕ) → TwoHyphens c cs → Stops inside (c ∷ cs) 2
closes_at_two c cs t =
    subst (λ (k : ℕ). Stops inside (k ∷ cs) 2) (sym t.first) (subst (λ (z : List ℕ). Stops inside (45 ∷ z) 2) (sym t.second) tt)

not_behind_hyphen : (c : ℕ) (cs : List ℕ) → (c == 45) ≡ true → starts (codes "--") (c ∷ cs) ≡ false → starts (codes "-") cs ≡ false
not_behind_hyphen c [] is e = refl
not_behind_hyphen c (d ∷ ds) is e = subst (λ (k : ℕ). starts (codes "--") (k ∷ d ∷ ds) ≡ false) (eqb-true c 45 is) e

hyphen_alone : (b c : Bool) → b && true ≡ false → b && c ≡ true → ⊥
hyphen_alone true c e f = absurd cc
hyphen_alone false c e f = absurd cc

no_hyphen : (c : ℕ) (cs : List ℕ) → starts (codes "-") (c ∷ cs) ≡ false → nat_eq 45 c ≡ false
no_hyphen c cs e = go (nat_eq 45 c) e
  where
    go : (b : Bool) → b && true ≡ false → b ≡ false
    go true h = absurd cc
    go false h = refl

in_comment_at : (c : ℕ) (cs : List ℕ) → Stops inside cs (comment_length cs) → (starts (codes "-") cs ≡ false → Stops closing cs (comment_length cs))
    → (a : Bool) → (c == 10) ≡ a → (b : Bool) → starts (codes "--") (c ∷ cs) ≡ b → (h : Bool) → (c == 45) ≡ h → Stops inside (c ∷ cs) (if a then 0 else if b then 2 else suc (comment_length cs))
in_comment_at c cs more closed true is b st h hy = eqb-true c 10 is
in_comment_at c cs more closed false is true st h hy = closes_at_two c cs (two_hyphens c cs st)
in_comment_at c cs more closed false is false st true hy =
    let one : behind_one inside c ≡ closing = rw (is, hy) refl in
    subst (λ (g : Gap). Stops g cs (comment_length cs)) (sym one) (closed (not_behind_hyphen c cs hy st))
in_comment_at c cs more closed false is false st false hy =
    let one : behind_one inside c ≡ inside = rw (is, hy) refl in
    subst (λ (g : Gap). Stops g cs (comment_length cs)) (sym one) more

in_closing_at : (c : ℕ) (cs : List ℕ) → Stops inside cs (comment_length cs) → starts (codes "-") (c ∷ cs) ≡ false → (a : Bool) → (c == 10) ≡ a → (b : Bool) → starts (codes "--") (c ∷ cs) ≡ b
    → Stops closing (c ∷ cs) (if a then 0 else if b then 2 else suc (comment_length cs))
in_closing_at c cs more e true is b st = eqb-true c 10 is
in_closing_at c cs more e false is true st = absurd (hyphen_alone (nat_eq 45 c) _ e st)
in_closing_at c cs more e false is false st =
    let one : behind_one closing c ≡ inside = rw (is, differs c (no_hyphen c cs e)) refl in
    subst (λ (g : Gap). Stops g cs (comment_length cs)) (sym one) more

mutual
  in_comment : (cs : List ℕ) → Stops inside cs (comment_length cs)
  in_comment [] = tt
  in_comment (c ∷ cs) = in_comment_at c cs (in_comment cs) (in_closing cs) (c == 10) refl (starts (codes "--") (c ∷ cs)) refl (c == 45) refl

  in_closing : (cs : List ℕ) → starts (codes "-") cs ≡ false → Stops closing cs (comment_length cs)
  in_closing [] e = tt
  in_closing (c ∷ cs) e = in_closing_at c cs (in_comment cs) e (c == 10) refl (starts (codes "--") (c ∷ cs)) refl

comment_from : (c : ℕ) (cs : List ℕ) → TwoHyphens c cs → Stops outside (c ∷ cs) (2 + comment_length (drop 2 (c ∷ cs)))
comment_from c cs t =
    subst (λ (k : ℕ). Stops outside (k ∷ cs) (2 + comment_length (drop 2 (k ∷ cs)))) (sym t.first)
    (subst (λ (z : List ℕ). Stops outside (45 ∷ z) (2 + comment_length (drop 2 (45 ∷ z)))) (sym t.second)
    (let two : 2 + comment_length t.behind ≡ suc (suc (comment_length t.behind)) = omega arith in
    subst (Stops outside (45 ∷ 45 ∷ t.behind)) (sym two) (in_comment t.behind)))

pub comment_passes : (c : ℕ) (cs : List ℕ) → is_blank c ≡ false → starts (codes "--") (c ∷ cs) ≡ true → Passes (c ∷ cs) (2 + comment_length (drop 2 (c ∷ cs)))
comment_passes c cs b st g f =
    subst (λ (k : Gap). Stops k (c ∷ cs) (2 + comment_length (drop 2 (c ∷ cs)))) (sym (begins_outside c cs b g f)) (comment_from c cs (two_hyphens c cs st))

-- ---- slices

behind_append : (g : Gap) (x y : List ℕ) → behind_all g (x ++ y) ≡ behind_all (behind_all g x) y
behind_append g [] y = refl
behind_append g (c ∷ x) y = behind_append (behind_one g c) x y

take_add : (n m : ℕ) (xs : List ℕ) → take (n + m) xs ≡ take n xs ++ take m (drop n xs)
take_add n m xs =
    sym (take-append-drop n (take (n + m) xs)) ∙ ap (λ (z : List ℕ). z ++ drop n (take (n + m) xs)) (take-take n (n + m) xs (omega arith)) ∙ ap (λ (z : List ℕ). take n xs ++ z) (drop-take n m xs)

behind_slice : (source : List ℕ) (least from : ℕ) → least ≤ from → drop (from - least) (drop least source) ≡ drop from source
behind_slice source least from le = drop-drop (from - least) least source ∙ ap (λ (k : ℕ). drop k source) (omega arith)

-- a slice with what is passed behind it
slice_grows : (source : List ℕ) (least from n : ℕ) → least ≤ from → slice_range source least (from + n) ≡ slice_range source least from ++ take n (drop from source)
slice_grows source least from n le =
    let more : (from + n) - least ≡ (from - least) + n = omega arith in
    ap (λ (k : ℕ). take k (drop least source)) more ∙ take_add (from - least) n (drop least source) ∙ ap (λ (z : List ℕ). take (from - least) (drop least source) ++ take n z) (behind_slice source least from le)

-- what was passed since an offset leaves cutting where it may stand
abbrev pub Passed_since : List ℕ → ℕ → ℕ → Type 0
Passed_since source least from = Fit (behind_all outside (slice_range source least from)) (drop from source)

pub nothing_passed : (source : List ℕ) (from : ℕ) → Passed_since source from from
nothing_passed source from =
    let none : from - from ≡ 0 = omega arith in
    subst (λ (k : ℕ). Fit (behind_all outside (take k (drop from source))) (drop from source)) (sym none) tt

pub more_passed : (source : List ℕ) (least from n : ℕ) → least ≤ from → Passes (drop from source) n → Passed_since source least from → Passed_since source least (from + n)
more_passed source least from n le p f =
    let g = behind_all outside (slice_range source least from) in
    let is : behind_all outside (slice_range source least (from + n)) ≡ behind_all g (take n (drop from source)) =
    ap (behind_all outside) (slice_grows source least from n le) ∙ behind_append outside (slice_range source least from) (take n (drop from source)) in
    subst (λ (k : Gap). Fit k (drop (from + n) source)) (sym is)
    (subst (λ (z : List ℕ). Fit (behind_all g (take n (drop from source))) z) (drop-drop n from source) (p g f))

-- at the text's end
pub all_passed : (source : List ℕ) (least from : ℕ) → least ≤ from → drop from source ≡ [] → Passed_since source least from → may_end (behind_all outside (drop least source)) ≡ true
all_passed source least from le e f =
    let whole : drop least source ≡ slice_range source least from =
    sym (take-append-drop (from - least) (drop least source)) ∙ ap (λ (z : List ℕ). take (from - least) (drop least source) ++ z) (behind_slice source least from le ∙ e) ∙ append-nil (take (from - least) (drop least source)) in
    ap (λ (z : List ℕ). may_end (behind_all outside z)) whole ∙ end_fits (behind_all outside (slice_range source least from)) (subst (λ (z : List ℕ). Fit (behind_all outside (slice_range source least from)) z) e f)
