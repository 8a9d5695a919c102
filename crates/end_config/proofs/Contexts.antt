-- The contexts one after the other.
use Rattle.std.proofs.Common.{◌≡◌, ℕ, suc, ◌+◌, ◌<◌, ◌≤◌, Bool, true, false, if◌then◌else◌, List, [], ◌∷◌, ◌++◌, length, take, drop, Some, None, sym, ap, ◌∙◌, add-one, slice_index_or}
use Rattle.std.proofs.Math.Seq.{take-suc, drop-cons}
use Rattle.std.proofs.Math.ListN.{drop_of_length-le}
use Rattle.osi_base.specs.declared.layer_words.Proposal.{Proposal}
use Rattle.dialogue.specs.declared.config.Mode.{Mode}
use Rattle.end_config.specs.Refusing.{is_bad_context, bad_context}

module _ (mode : Mode) (xs : List Proposal) (k : ℕ) where
  -- the first k were right
  abbrev pub Passed : Type 0
  Passed = bad_context mode [] xs ≡ bad_context mode (take k xs) (drop k xs)

  module _ (x : Proposal) (lt : k < length xs) (e : x ≡ slice_index_or xs k x) where
    behind : drop k xs ≡ x ∷ drop (k + 1) xs
    behind = rw add-one (drop-cons xs k x lt ∙ ap (λ (y : Proposal). y ∷ drop (suc k) xs) (sym e))

    before : take k xs ++ x ∷ [] ≡ take (k + 1) xs
    before = rw add-one (ap (λ (y : Proposal). take k xs ++ y ∷ []) e ∙ sym (take-suc xs k x lt))

    pub bad_here : is_bad_context mode (take k xs) x ≡ true → Passed → Some x.id ≡ bad_context mode [] xs
    bad_here bad h =
        sym (h ∙ ap (bad_context mode (take k xs)) behind ∙ ap (λ (b : Bool). if b then Some x.id else bad_context mode (take k xs ++ x ∷ []) (drop (k + 1) xs)) bad)

    pub bad_later : is_bad_context mode (take k xs) x ≡ false → Passed → bad_context mode [] xs ≡ bad_context mode (take (k + 1) xs) (drop (k + 1) xs)
    bad_later right h =
        h ∙ ap (bad_context mode (take k xs)) behind
        ∙ ap (λ (b : Bool). if b then Some x.id else bad_context mode (take k xs ++ x ∷ []) (drop (k + 1) xs)) right
        ∙ ap (λ (ps : List Proposal). bad_context mode ps (drop (k + 1) xs)) before

  pub bad_absent : length xs ≤ k → Passed → None ≡ bad_context mode [] xs
  bad_absent end h = sym (h ∙ ap (bad_context mode (take k xs)) (drop_of_length-le xs end))
