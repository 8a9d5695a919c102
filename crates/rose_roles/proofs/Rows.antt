-- Octets spell no value of a row that isn't there.
use Rattle.std.proofs.Common.{◌≡◌, ℕ, ◌<◌, ◌≤◌, zero, suc, take, length, Bool, true, false, IsTrue, ◌↔◌, List, Option, None, refl, sym, ap, subst, ◌∙◌}
use Rattle.std.proofs.lemmas.Option.{slice_get_past}
use Rattle.std.proofs.Math.Seq.{take-length}
use Rattle.std.specs.List.{slice_get}
use Rattle.osi_base.specs.declared.syntax.Syntax.{Syntax}
use Rattle.osi_base.specs.declared.syntax.Syntax.TheVariants as syntax
use Rattle.asn1_types.specs.declared.row.TypeRow.{TypeRow}
use Rattle.asn1_types.specs.Rows.{along, of_row}
use Rattle.asn1_types.specs.Fits.{nothing_fits}
use Rattle.asn1_types.specs.Writing.{written}
use Rattle.asn1_types.proofs.FitLaws.{not_within}
use Rattle.asn1_types.specs.Value.{Value}
use Rattle.ber_spelling.specs.Spelling as ber
use Rattle.packed_codec.specs.Laws.{packs, packs_by}
use Rattle.apdu_spelling.specs.Spellings.{SpelledAs}

no_ber : (rows : List TypeRow) (turns n levels : ℕ) (guise : _) (strict : Bool) (v : Value) (text : List ℕ) → slice_get rows n ≡ None → ber.SpelledBy rows turns n guise strict levels v text → ⊥
no_ber rows zero n levels guise strict v text e h = h
no_ber rows (suc turns) n levels guise strict v text e h =
    subst (λ (r : Option TypeRow). ber.RowOr (ber.RowIs (written rows) (ber.SpelledBy rows turns)) r guise strict levels v text) e h

no_packs : (rows : List TypeRow) (turns n : ℕ) (v : Value) → slice_get rows n ≡ None → along nothing_fits (packs_by (written rows)) rows turns n v ≡ false
no_packs rows zero n v e = refl
no_packs rows (suc turns) n v e = ap (λ (r : Option TypeRow). of_row nothing_fits (packs_by (written rows) (along nothing_fits (packs_by (written rows)) rows turns)) r v) e

packs_none : (rows : List TypeRow) (n : ℕ) (v : Value) → slice_get rows n ≡ None → packs rows n v ≡ false
unfolding packs
packs_none rows n v e = no_packs rows (length rows) n v e

pub no_row : (s : Syntax) (rows : List TypeRow) (limit n : ℕ) (v : Value) (text : List ℕ) → length rows ≤ n → SpelledAs s rows limit n v text → ⊥
no_row syntax.Ber rows limit n v text le p = no_ber rows (length rows) n _ _ false v text (slice_get_past rows n le) p.by
no_row syntax.Der rows limit n v text le p = no_ber rows (length rows) n _ _ true v text (slice_get_past rows n le) p.by
no_row syntax.Packed rows limit n v text le p =
    let x : true ≡ false = sym p.fit ∙ packs_none rows n v (slice_get_past rows n le) in cc

-- ---- as the readers of the program say it

take_all : (n : ℕ) (text : List ℕ) → n ≡ length text → take n text ≡ text
take_all n text e = ap (λ (k : ℕ). take k text) e ∙ take-length text

pub all_spelled : (rows : List TypeRow) (strict : Bool) (n used : ℕ) (v : Value) (text : List ℕ) → used ≡ length text → (used ≤ length text) × ber.Spells rows n strict 262144 v (take used text) → ber.Spells rows n strict 262144 v text
all_spelled rows strict n used v text e p = subst (λ (x : List ℕ). ber.Spells rows n strict 262144 v x) (take_all used text e) p.1

pub not_there : (b : Bool) (n len : ℕ) → IsTrue b ↔ (n < len) → b ≡ false → len ≤ n
not_there true n len h e = absurd cc
not_there false n len h e = not_within len n (λ lt. let x : false ≡ true = h.1 lt in absurd cc)
