-- Units of the presentation protocol of known fields alone (X.226 8.2 to 8.4): none of their fields is passed over, and no
-- default context stands.
use Rattle.std.specs.Prelude.{◌≡◌, ℕ, zero, suc, ◌≤◌, true, false, List, [], ◌∷◌, length}
use Rattle.osi_base.specs.declared.presentation_word.PresentationWord as units
use Rattle.osi_base.specs.declared.presentation_word.PresentationWord.TheVariants as unit
use Rattle.osi_base.specs.Limits.{most_levels, most_spelled}
use Rattle.asn1_types.specs.declared.row.Class.TheVariants.{Context}
use Rattle.asn1_types.specs.Value.{Value, parts, chosen, MaybeValues, no_parts, absent, present}
use Rattle.passed_fields.specs.declared.field.Field as known
use Rattle.passed_fields.specs.Known.{of_row}
use Rattle.presentation_pdus.specs.declared.place.PpduPlace.{PpduPlace}
use Rattle.presentation_pdus.specs.Fields.{context_tag, sequence_tag, user_field, accept_fields, reject_fields, user_abort_fields, provider_abort_fields}
use Rattle.presentation_pdus.specs.Selected.{Relation, SelectedIs}
use Rattle.presentation_pdus.specs.Units.{ModeIs, Fielded, DataIs}
use Rattle.presentation_pdus.specs.Words.{unit_in}
use Rattle.ppdu_laws.specs.Written.{carries}

abbrev pub known_connect_fields : List known.Field
known_connect_fields = of_row Context 0 32 true ∷ of_row Context 1 33 true ∷ of_row Context 2 34 true ∷ of_row Context 4 36 true ∷ of_row Context 8 39 true ∷ of_row Context 9 40 true ∷ user_field ∷ []

abbrev pub known_alter_fields : List known.Field
known_alter_fields = of_row Context 0 49 true ∷ of_row Context 1 50 true ∷ []

abbrev pub known_alter_ack_fields : List known.Field
known_alter_ack_fields = of_row Context 0 53 true ∷ of_row Context 1 54 true ∷ []

abbrev pub known_restart_fields : List known.Field
known_restart_fields = of_row Context 0 57 true ∷ []

-- how the values of units of this kind are spelled
abbrev pub KnownIs : units.PresentationWord → Relation
KnownIs (unit.Connect c) = SelectedIs ModeIs (Fielded known_connect_fields [] (context_tag 2))
KnownIs (unit.Accept a) = SelectedIs ModeIs (Fielded accept_fields [] (context_tag 2))
KnownIs (unit.Reject r) = Fielded reject_fields [] sequence_tag
KnownIs (unit.Alter add delete) = Fielded known_alter_fields [] (context_tag 0)
KnownIs (unit.AlterAck answers) = Fielded known_alter_ack_fields [] (context_tag 1)
KnownIs (unit.Resynchronize restored) = Fielded known_restart_fields [] sequence_tag
KnownIs (unit.ResynchronizeAck restored) = Fielded known_restart_fields [] sequence_tag
KnownIs (unit.UserAbort contexts user) = Fielded user_abort_fields [] (context_tag 0)
KnownIs (unit.ProviderAbort reason event) = Fielded provider_abort_fields [] sequence_tag
KnownIs (unit.Data user) = DataIs

-- ---- what such a value says: the fields that can't stand in it lack

abbrev pub none_at : ℕ → MaybeValues → MaybeValues
none_at zero vs = absent vs
none_at (suc n) no_parts = no_parts
none_at (suc n) (absent vs) = absent (none_at n vs)
none_at (suc n) (present v vs) = present v (none_at n vs)

abbrev pub lacking : ℕ → Value → Value
lacking n (parts vs) = parts (none_at n vs)
lacking n v = v

-- in the fields behind the mode selector
abbrev pub in_second : (Value → Value) → MaybeValues → MaybeValues
in_second f (present mode (present fields vs)) = present mode (present (f fields) vs)
in_second f vs = vs

abbrev pub in_fields : (Value → Value) → Value → Value
in_fields f (parts vs) = parts (in_second f vs)
in_fields f v = v

abbrev pub read_as : units.PresentationWord → Value → Value
read_as (unit.Connect c) v = chosen 0 (in_fields (lacking 4) v)
read_as (unit.Accept a) v = chosen 1 v
read_as (unit.Reject r) v = chosen 2 v
read_as (unit.Alter add delete) v = chosen 3 (lacking 2 v)
read_as (unit.AlterAck answers) v = chosen 4 (lacking 2 v)
read_as (unit.Resynchronize restored) v = chosen 5 (lacking 1 v)
read_as (unit.ResynchronizeAck restored) v = chosen 6 (lacking 1 v)
read_as (unit.UserAbort contexts user) v = chosen 7 v
read_as (unit.ProviderAbort reason event) v = chosen 8 v
read_as (unit.Data user) v = chosen 9 v

-- octets spell this unit, where it is carried, in known fields alone
pub record SpellsKnown (carrier : PpduPlace) (word : units.PresentationWord) (octets : List ℕ) : Type 0 where
  pub value : Value
  pub carried : carries carrier word ≡ true
  pub spelled : KnownIs word false most_levels value octets
  pub within : length octets ≤ most_spelled
  pub says : unit_in (read_as word value) ≡ word
