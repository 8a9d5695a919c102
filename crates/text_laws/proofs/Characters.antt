-- Texts that are read back.
use Rattle.std.proofs.Common.{◌≡◌, ◌==◌, ℕ, Bool, true, false, List, [], ◌∷◌, ◌++◌, Some, refl, ap, sym, ◌∙◌, subst, arith, append_assoc, append-nil}
use Rattle.std.specs.List.{flat_map}
use Rattle.std.proofs.lemmas.Bool.Decides.{nat_tests}
use Rattle.asn1_types.specs.Value as tree
use Rattle.value_text.specs.Values.{doubled}
use Rattle.value_reading.specs.Forms.{text_before, characters_at, behind_quote}
use Rattle.text_laws.specs.Laws.{may_follow}

no_quote : (c : ℕ) (cs : List ℕ) → may_follow (c ∷ cs) ≡ true → (c == 34) ≡ false
no_quote c cs h = grind (arith, nat_tests)

quote_ends : (done rest : List ℕ) → may_follow rest ≡ true → behind_quote done rest ≡ text_before done rest
quote_ends done [] h = refl
quote_ends done (c ∷ cs) h = rw (no_quote c cs h) refl

is_quote : (c : ℕ) → (c == 34) ≡ true → c ≡ 34
is_quote c h = grind (arith, nat_tests)

-- a quote, which stands twice
quote_taken : (done cs rest : List ℕ) → characters_at done ((flat_map doubled (34 ∷ cs) ++ 34 ∷ []) ++ rest) ≡ characters_at (done ++ 34 ∷ []) ((flat_map doubled cs ++ 34 ∷ []) ++ rest)
quote_taken done cs rest = refl

doubled_other : (c : ℕ) → (c == 34) ≡ false → doubled c ≡ c ∷ []
doubled_other c e = rw e refl

-- another character
other_taken : (done : List ℕ) (c : ℕ) (text : List ℕ) → (c == 34) ≡ false → characters_at done (c ∷ text) ≡ characters_at (done ++ c ∷ []) text
other_taken done c text e = rw e refl

-- one character more
one_more : (done : List ℕ) (c : ℕ) (cs rest : List ℕ) (b : Bool) → (c == 34) ≡ b
    → characters_at (done ++ c ∷ []) ((flat_map doubled cs ++ 34 ∷ []) ++ rest) ≡ Some (record { value = tree.text ((done ++ c ∷ []) ++ cs); rest = rest })
    → characters_at done ((flat_map doubled (c ∷ cs) ++ 34 ∷ []) ++ rest) ≡ Some (record { value = tree.text (done ++ c ∷ cs); rest = rest })
one_more done c cs rest true e more =
    let q : c ≡ 34 = is_quote c e in
    let same : (done ++ c ∷ []) ++ cs ≡ done ++ c ∷ cs = append_assoc done (c ∷ []) cs in
    let took : characters_at done ((flat_map doubled (c ∷ cs) ++ 34 ∷ []) ++ rest) ≡ characters_at (done ++ c ∷ []) ((flat_map doubled cs ++ 34 ∷ []) ++ rest) =
    subst (λ n. characters_at done ((flat_map doubled (n ∷ cs) ++ 34 ∷ []) ++ rest) ≡ characters_at (done ++ n ∷ []) ((flat_map doubled cs ++ 34 ∷ []) ++ rest)) (sym q) (quote_taken done cs rest) in
    took ∙ more ∙ ap (λ x. text_before x rest) same
one_more done c cs rest false e more =
    let same : (done ++ c ∷ []) ++ cs ≡ done ++ c ∷ cs = append_assoc done (c ∷ []) cs in
    let text : (flat_map doubled (c ∷ cs) ++ 34 ∷ []) ++ rest ≡ c ∷ ((flat_map doubled cs ++ 34 ∷ []) ++ rest) = ap (λ x. ((x ++ flat_map doubled cs) ++ 34 ∷ []) ++ rest) (doubled_other c e) in
    ap (characters_at done) text ∙ other_taken done c ((flat_map doubled cs ++ 34 ∷ []) ++ rest) e ∙ more ∙ ap (λ x. text_before x rest) same

pub characters_back : (done cs rest : List ℕ) → may_follow rest ≡ true → characters_at done ((flat_map doubled cs ++ 34 ∷ []) ++ rest) ≡ Some (record { value = tree.text (done ++ cs); rest = rest })
characters_back done [] rest h = quote_ends done rest h ∙ ap (λ x. text_before x rest) (sym (append-nil done))
characters_back done (c ∷ cs) rest h = one_more done c cs rest (c == 34) refl (characters_back (done ++ c ∷ []) cs rest h)
