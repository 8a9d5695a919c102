-- Parameters spelled one after the other.
use Rattle.std.proofs.Common.{◌≡◌, ℕ, List, [], ◌∷◌, ◌++◌, refl, sym, ap, ◌∙◌, append_assoc}
use Rattle.std.proofs.lemmas.List.{append-nil}
use Rattle.spdu_codec.specs.Written.{coded, coded_parameter, spelled, group, group_of}

pub spelled-append : (a b : List (ℕ × List ℕ)) → spelled (a ++ b) ≡ spelled a ++ spelled b
spelled-append [] b = refl
spelled-append (x ∷ a) b = ap (λ (l : List ℕ). coded_parameter x ++ l) (spelled-append a b) ∙ sym (append_assoc (coded_parameter x) (spelled a) (spelled b))

pub group_spelled : (code : ℕ) (items : List (ℕ × List ℕ)) → group_of code (spelled items) ≡ spelled (group code items)
group_spelled code [] = refl
group_spelled code (x ∷ xs) = sym (append-nil (coded code (spelled (x ∷ xs))))

pub ruleset pieces = (spelled-append, group_spelled)
