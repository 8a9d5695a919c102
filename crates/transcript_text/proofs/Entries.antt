-- Entries that are printed one after the other.
use Rattle.std.proofs.Common.{◌≡◌, ℕ, ◌+◌, ◌<◌, ◌≤◌, List, [], ◌∷◌, ◌++◌, length, drop, get_or, refl, add-one, drop-cons}
use Rattle.std.proofs.Math.ListN.{drop_of_length-le}
use Rattle.stub_tables.specs.declared.tables.Tables.{Tables}
use Rattle.dialogue.specs.declared.event.Entry.{Entry}
use Rattle.transcript_text.specs.declared.transcript.SoFar.{SoFar}
use Rattle.transcript_text.specs.Texts.{behind, entry_text, entries_text}

pub entries_more : (tables : Tables) (s : SoFar) (number i : ℕ) (entries : List Entry) (d : Entry) → i < length entries
    → entries_text tables s number (drop i entries) ≡ entry_text tables s number (get_or entries i d) ++ entries_text tables (behind s (get_or entries i d)) (number + 1) (drop (i + 1) entries)
entries_more tables s number i entries d h =
    let next : drop i entries ≡ get_or entries i d ∷ drop (i + 1) entries = rw (add-one, drop-cons entries i d) refl in
    rw next refl

pub entries_over : (tables : Tables) (s : SoFar) (number i : ℕ) (entries : List Entry) → length entries ≤ i → entries_text tables s number (drop i entries) ≡ []
entries_over tables s number i entries h = rw (drop_of_length-le entries h) refl
