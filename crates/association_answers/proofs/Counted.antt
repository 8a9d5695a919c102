-- Past the limit of a set no addition is accepted, whatever the count.
use Rattle.std.proofs.Common.{◌≡◌, ℕ, ◌≤◌, min, nat_lt, not, Bool, true, false, List, [], ◌∷◌, Option, Some, None, refl, ap, sym, ◌∙◌, arith}
use Rattle.std.specs.Prelude.{find, if◌then◌else◌}
use Rattle.std.proofs.lemmas.Bool.Decides.{nat_tests}
use Rattle.osi_base.specs.declared.layer_words.Proposal.{Proposal}
use Rattle.osi_base.specs.declared.layer_words.AddAnswer.{AddAnswer}
use Rattle.end_rules.specs.Base.{Base}
use Rattle.end_rules.specs.Policy.{is_taken, takes_syntax, acceptance, rejection, answer_within, answer_to_addition, counted_with, answers_to_additions}

past : (n : ℕ) → 64 ≤ n → nat_lt n 64 ≡ false
past n h = grind (arith, nat_tests)

-- an answer past the limit
abbrev late : Option (List ℕ) → AddAnswer
late None = rejection 2
late (Some syntax) = rejection 3

late_within : (n : ℕ) (o : Option (List ℕ)) → 64 ≤ n → answer_within n o ≡ late o
late_within n None h = refl
late_within n (Some syntax) h = ap (λ (b : Bool). if b then acceptance syntax else rejection 3) (past n h)

late_counted : (n : ℕ) (o : Option (List ℕ)) → counted_with n (late o) ≡ n
late_counted n None = refl
late_counted n (Some syntax) = refl

module _ (base : Base) (connecting : Bool) where
  abbrev chosen : Proposal → Option (List ℕ)
  chosen p = find (takes_syntax base connecting p.abstract_name) p.transfers

  abbrev last : Proposal → AddAnswer
  last p = if not (is_taken base connecting p.abstract_name) then rejection 1 else late (chosen p)

  last_to : (n : ℕ) (p : Proposal) → 64 ≤ n → answer_to_addition base connecting n p ≡ last p
  last_to n p h = ap (λ (a : AddAnswer). if not (is_taken base connecting p.abstract_name) then rejection 1 else a) (late_within n (chosen p) h)

  last_by : (n : ℕ) (p : Proposal) (b : Bool) → counted_with n (if not b then rejection 1 else late (chosen p)) ≡ n
  last_by n p true = late_counted n (chosen p)
  last_by n p false = refl

  last_counted : (n : ℕ) (p : Proposal) → counted_with n (last p) ≡ n
  last_counted n p = last_by n p (is_taken base connecting p.abstract_name)

  after : (n : ℕ) (p : Proposal) → 64 ≤ n → counted_with n (answer_to_addition base connecting n p) ≡ n
  after n p h = ap (counted_with n) (last_to n p h) ∙ last_counted n p

  same : (n m : ℕ) (ps : List Proposal) → 64 ≤ n → 64 ≤ m → answers_to_additions base connecting n ps ≡ answers_to_additions base connecting m ps
  same n m [] h k = refl
  same n m (p ∷ ps) h k =
      let x = last_to n p h ∙ sym (last_to m p k) in
      let y = ap (λ (c : ℕ). answers_to_additions base connecting c ps) (after n p h) ∙ same n m ps h k ∙ ap (λ (c : ℕ). answers_to_additions base connecting c ps) (sym (after m p k)) in
      λ i. x i ∷ y i

  capped_by : (n : ℕ) (ps : List Proposal) (b : Bool) → nat_lt n 64 ≡ b → answers_to_additions base connecting (min 64 n) ps ≡ answers_to_additions base connecting n ps
  capped_by n ps true e = let h : min 64 n ≡ n = grind (arith, nat_tests) in ap (λ (c : ℕ). answers_to_additions base connecting c ps) h
  capped_by n ps false e = let h : 64 ≤ n = grind (arith, nat_tests) in let k : 64 ≤ min 64 n = omega arith in same (min 64 n) n ps k h

pub capped : (base : Base) (connecting : Bool) (n : ℕ) (ps : List Proposal) → answers_to_additions base connecting (min 64 n) ps ≡ answers_to_additions base connecting n ps
capped base connecting n ps = capped_by base connecting n ps (nat_lt n 64) refl
