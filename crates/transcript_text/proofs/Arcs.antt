-- Object identifiers that differ.
use Rattle.std.proofs.Common.{◌≡◌, ◌≢◌, ℕ, Bool, true, false, List, ◌++◌, codes, refl, nat_eq}
use Rattle.std.specs.Bool.{Decides}
use Rattle.std.specs.Cmp.Lexicographic.{pointwise}
use Rattle.std.proofs.lemmas.Slice.Eq.{slice_eq-Decides}
use Rattle.std.proofs.lemmas.Bool.Decides.{Decides-eqb}
use Rattle.osi_base.specs.Syntax.{name_of}
use Rattle.osi_base.specs.declared.syntax.Syntax.{Syntax}
use Rattle.osi_base.specs.declared.syntax.Syntax.TheVariants.{Ber, Der, Packed}
use Rattle.stub_tables.specs.declared.tables.Tables.{Tables}
use Rattle.value_text.specs.Values.{oid_text}
use Rattle.transcript_text.specs.Calls.{syntax_text, as_field}

false_of : {P : Type 0} (b : Bool) → Decides b P → (P → ⊥) → b ≡ false
false_of true decides differs = absurd (differs (decides.0 refl))
false_of false decides differs = refl

other_arcs : (xs ys : List ℕ) → xs ≢ ys → pointwise nat_eq xs ys ≡ false
other_arcs xs ys differ = false_of (pointwise nat_eq xs ys) (slice_eq-Decides Decides-eqb xs ys (pointwise nat_eq xs ys) refl) differ

-- an object identifier that isn't a known syntax's prints as one
pub other_syntax : (arcs : List ℕ) → ((syntax : Syntax) → arcs ≢ name_of syntax) → syntax_text arcs ≡ oid_text arcs
other_syntax arcs differ =
    rw (other_arcs arcs (name_of Ber) (differ Ber), other_arcs arcs (name_of Der) (differ Der), other_arcs arcs (name_of Packed) (differ Packed)) refl

-- an abstract syntax that isn't the module's is printed
pub other_abstract : (tables : Tables) (arcs : List ℕ) → arcs ≢ tables.name_oid → as_field tables arcs ≡ codes " as " ++ oid_text arcs
other_abstract tables arcs differ = rw (other_arcs arcs tables.name_oid differ) refl
