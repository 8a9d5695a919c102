-- Octets that were given out, piece by piece.
use Rattle.std.proofs.Common.{◌≡◌, ℕ, List, ◌++◌, drop, sym, ap, ◌∙◌}
use Rattle.two_ends.specs.Conduct.{Conduct, IsBut, given_out}

-- these octets were given out so far
pub record Given {E : Type 0} (acts : Conduct E) (old now : E) (octets : List ℕ) : Type 0 where
  pub whole : octets ++ acts.waiting now ≡ acts.waiting old
  pub rest_is : IsBut acts now old

module _ {E : Type 0} (acts : Conduct E)
    (waits : (octets : List ℕ) (e : E) → acts.waiting (acts.with_waiting octets e) ≡ octets)
    (again : (octets more : List ℕ) (e : E) → acts.with_waiting more (acts.with_waiting octets e) ≡ acts.with_waiting more e) where
  -- so many less wait
  pub fewer_wait : (old new : E) (n : ℕ) → new ≡ given_out acts n old → acts.waiting new ≡ drop n (acts.waiting old)
  fewer_wait old new n is = ap acts.waiting is ∙ waits (drop n (acts.waiting old)) old

  -- all else is as it was
  pub still_but : (old new e : E) (n : ℕ) → new ≡ given_out acts n old → IsBut acts old e → IsBut acts new e
  still_but old new e n is but =
      is ∙ ap (λ (x : E). acts.with_waiting (drop n (acts.waiting old)) x) but ∙ again (acts.waiting old) (drop n (acts.waiting old)) e
      ∙ ap (λ (xs : List ℕ). acts.with_waiting xs e) (sym (fewer_wait old new n is))
