use Rattle.std.proofs.Common.{◌≡◌, ℕ, List, ◌++◌, Result, Ok, Err, OnOk, ap, ◌∙◌, append_assoc}
use Rattle.table_listing.specs.Listing.{count_line}
use Rattle.table_listing.proofs.lines.put_counts.Goals as goal

four_puts : {X Y : Type 0} (r : Result X Y) (first one two three last a b c d : List ℕ) → one ≡ first ++ a → two ≡ one ++ b → three ≡ two ++ c
    → OnOk r (last ≡ three ++ d) → OnOk r (last ≡ first ++ (((a ++ b) ++ c) ++ d))
four_puts (Ok x) first one two three last a b c d e f g h =
    h
    ∙ ap (λ (l : List ℕ). l ++ d) (g ∙ ap (λ (l : List ℕ). l ++ c) (f ∙ ap (λ (l : List ℕ). l ++ b) e ∙ append_assoc first a b) ∙ append_assoc first (a ++ b) c)
    ∙ append_assoc first ((a ++ b) ++ c) d
four_puts (Err x) first one two three last a b c d e f g h = tt

pub returns : goal.returns
unfolding count_line
returns c = four_puts c.end_line.result _ _ _ _ _ _ _ _ _ c.in_ok-put.ensures c.in_ok-put_count.ensures c.in_ok-put_count-2.ensures c.end_line.ensures
