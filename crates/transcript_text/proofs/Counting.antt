-- Entries that are counted one after the other.
use Rattle.std.proofs.Common.{◌≡◌, ℕ, ◌+◌, ◌<◌, ◌≤◌, List, ◌∷◌, length, drop, get_or, refl, add-one, drop-cons}
use Rattle.std.proofs.Math.ListN.{drop_of_length-le}
use Rattle.dialogue.specs.declared.event.Entry.{Entry}
use Rattle.transcript_text.specs.declared.counts.Counts.{Counts}
use Rattle.dialogue.specs.declared.indication.Indication.{Indication}
use Rattle.transcript_text.specs.Counts.{with_one, with_shown, counted, counted_all}

pub one_more : (counts : Counts) (i : ℕ) (entries : List Entry) (d : Entry) → i < length entries
    → counted_all counts (drop i entries) ≡ counted_all (counted counts (get_or entries i d)) (drop (i + 1) entries)
one_more counts i entries d h =
    let next : drop i entries ≡ get_or entries i d ∷ drop (i + 1) entries = rw (add-one, drop-cons entries i d) refl in
    rw next refl

pub all_counted : (counts : Counts) (i : ℕ) (entries : List Entry) → length entries ≤ i → counted_all counts (drop i entries) ≡ counts
all_counted counts i entries h = rw (drop_of_length-le entries h) refl

pub one_shown : (counts : Counts) (i : ℕ) (shown : List Indication) (d : Indication) → i < length shown
    → with_shown counts (drop i shown) ≡ with_shown (with_one counts (get_or shown i d)) (drop (i + 1) shown)
one_shown counts i shown d h =
    let next : drop i shown ≡ get_or shown i d ∷ drop (i + 1) shown = rw (add-one, drop-cons shown i d) refl in
    rw next refl

pub all_shown : (counts : Counts) (i : ℕ) (shown : List Indication) → length shown ≤ i → with_shown counts (drop i shown) ≡ counts
all_shown counts i shown h = rw (drop_of_length-le shown h) refl
