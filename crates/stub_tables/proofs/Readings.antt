-- Whole values, read from the left.
use Rattle.std.proofs.Common.{◌≡◌, ◌≢◌, ℕ, zero, suc, false, List, [], ◌++◌, length, take, Some, None, Result, Ok, Err, refl, sym, ap, subst, ◌∙◌, slice_get}
use Rattle.asn1_types.specs.declared.row.TypeRow.{TypeRow}
use Rattle.asn1_types.specs.declared.row.TypeRow.TheVariants.{Any}
use Rattle.asn1_types.specs.Rows.{nesting, openings}
use Rattle.asn1_types.specs.Table.{HasShortTag, AreSoundRows, refusal}
use Rattle.asn1_types.specs.Value.{Value, any}
use Rattle.ber_spelling.specs.declared.fault.ReadFault.{ReadFault}
use Rattle.ber_spelling.specs.declared.fault.ReadFault.TheVariants.{Short}
use Rattle.ber_spelling.specs.Rules.{read_at, value_at}
use Rattle.ber_spelling.specs.Fields.{identifier_at}
use Rattle.ber_spelling.proofs.WholeValues.{spelled_is_read, none_begins, fault_stays}
use Rattle.stub_tables.specs.AnyValue.{any_value_rows, any_value_row}
use Rattle.stub_tables.specs.Apdus.{IsWhole, IsShort, IsFaulty, place_of}

-- ---- the table of any value

some_is : {X : Type 0} (a b : X) → Some a ≡ Some b → a ≡ b
some_is a b h = cc

any_added : refusal [] Any ≡ None
unfolding refusal nesting openings
any_added = refl

any_each : (n : ℕ) (row : TypeRow) → slice_get any_value_rows n ≡ Some row → refusal (take n any_value_rows) row ≡ None
any_each zero row e = subst (λ (x : TypeRow). refusal [] x ≡ None) (some_is Any row e) any_added
any_each (suc n) row e = absurd cc

any_short : (n : ℕ) (row : TypeRow) → slice_get any_value_rows n ≡ Some row → HasShortTag row
any_short zero row e = subst HasShortTag (some_is Any row e) tt
any_short (suc n) row e = absurd cc

pub any_value_sound : AreSoundRows any_value_rows
any_value_sound = record { each = any_each; short = any_short }

-- ---- whole values

abbrev read_any : List ℕ → Result (Value × ℕ) ReadFault
read_any text = read_at any_value_rows any_value_row false 262144 text

abbrev done : Value × ℕ → Result (Value × ℕ) ReadFault
done x = Ok x

abbrev failed : ReadFault → Result (Value × ℕ) ReadFault
failed f = Err f

pub whole_read : (whole more : List ℕ) → IsWhole whole → read_any (whole ++ more) ≡ done (any whole, length whole)
unfolding IsWhole
whole_read whole more w = spelled_is_read any_value_rows any_value_row false 262144 (any whole) whole more any_value_sound w

pub one_whole : (a b x y : List ℕ) → IsWhole a → IsWhole b → a ++ x ≡ b ++ y → a ≡ b
unfolding IsWhole
one_whole a b x y p q e = (none_begins any_value_rows any_value_row false 262144 (any a) (any b) a b x y any_value_sound p q e).0

not_both : (x : Value × ℕ) (f : ReadFault) → done x ≡ failed f → ⊥
not_both x f e = cc

not_none : (f : ReadFault) (place : ℕ) → place_of f ≡ Some place → f ≢ Short
not_none f place e s = let no : place_of Short ≡ Some place = ap place_of (sym s) ∙ e in cc

pub no_fault : (front x whole y : List ℕ) (place : ℕ) → IsFaulty front place → IsWhole whole → front ++ x ≡ whole ++ y → ⊥
unfolding IsFaulty
no_fault front x whole y place f w e =
    let stays : read_any (front ++ x) ≡ failed f.0 = fault_stays any_value_rows any_value_row false 262144 front x f.0 (not_none f.0 place f.2) f.1 in
    not_both (any whole, length whole) f.0 (sym (whole_read whole y w) ∙ ap read_any (sym e) ∙ stays)

pub not_short : (text whole y : List ℕ) → IsShort text → IsWhole whole → text ≡ whole ++ y → ⊥
unfolding IsShort
not_short text whole y s w e = not_both (any whole, length whole) Short (sym (whole_read whole y w) ∙ ap read_any (sym e) ∙ s)

read_nothing : read_any [] ≡ failed Short
unfolding read_at value_at identifier_at
read_nothing = refl

pub nothing_short : IsShort []
unfolding IsShort
nothing_short = read_nothing

pub nothing_whole : IsWhole [] → ⊥
nothing_whole w = not_both (any [], 0) Short (sym (whole_read [] [] w) ∙ read_nothing)

pub nothing_faulty : (place : ℕ) → IsFaulty [] place → ⊥
unfolding IsFaulty
nothing_faulty place f =
    let same : failed Short ≡ failed f.0 = sym read_nothing ∙ f.1 in
    not_none f.0 place f.2 (of_failed f.0 same)
  where
    of_failed : (f : ReadFault) → failed Short ≡ failed f → f ≡ Short
    of_failed f e = cc
