-- The units of the presentation protocol as octets (X.226 8.2 to 8.4), by the kind of session unit that carries them.
use Rattle.std.specs.Prelude.{◌≡◌, ℕ, ◌≤◌, ◌⊎◌, Bool, true, false, ◌&&◌, List, [], length, Result, Ok, Err, nat_eq, if◌then◌else◌}
use Rattle.osi_base.specs.declared.layer_words.Kind.{Kind}
use Rattle.osi_base.specs.declared.layer_words.Kind.TheVariants as why
use Rattle.osi_base.specs.declared.presentation_word.PresentationWord as units
use Rattle.osi_base.specs.Limits.{most_levels, most_spelled}
use Rattle.asn1_types.specs.declared.row.Class.TheVariants.{Context}
use Rattle.asn1_types.specs.declared.row.TypeRow.{TypeRow}
use Rattle.asn1_types.specs.Rows.{same_class}
use Rattle.asn1_types.specs.Value.{Value, chosen}
use Rattle.asn1_types.specs.declared.row.Tag as tags
use Rattle.ber_spelling.specs.Reading.{◌>>=◌}
use Rattle.ber_spelling.specs.Rules.{plain, reads}
use Rattle.ber_spelling.specs.Spelling.{SpelledBy, IsConstructed}
use Rattle.fixed_tables.specs.declared.pdu.PduFault as plain_faults
use Rattle.fixed_tables.specs.declared.pdu.PduFault.TheVariants as plain_fault
use Rattle.passed_fields.specs.declared.field.Field as known
use Rattle.passed_fields.specs.declared.field.Passed as over
use Rattle.passed_fields.specs.Reading.{some_at, fielded_at}
use Rattle.passed_fields.specs.Spelling.{SomeItems, FieldedIs}
use Rattle.passed_fields.specs.AllOctets.{all_at}
use Rattle.presentation_pdus.specs.declared.place.PpduPlace.{PpduPlace}
use Rattle.presentation_pdus.specs.declared.place.PpduPlace.TheVariants as place
use Rattle.presentation_pdus.specs.declared.place.PpduFault as faults
use Rattle.presentation_pdus.specs.declared.place.PpduFault.TheVariants as fault
use Rattle.presentation_pdus.specs.Rows.{ppdu_rows}
use Rattle.presentation_pdus.specs.Fields.{context_tag, sequence_tag, user_tag, pdv_row, mode_row, connect_fields, connect_passed, accept_fields, accept_passed, reject_fields, alter_fields, alter_ack_fields, restart_fields, user_abort_fields, provider_abort_fields}
use Rattle.presentation_pdus.specs.Selected.{Run, Relation, selected_at, SelectedIs}
use Rattle.presentation_pdus.specs.Words.{unit_in}

-- ---- reading

-- a unit of this number among all of them
abbrev pub unit_at : ℕ → Run → Run
unit_at which run scope opened spot = do
  v ← run scope opened spot
  Ok (chosen which v.0, v.1)

abbrev pub connect_at : List TypeRow → Run
connect_at rows = selected_at (reads rows mode_row plain) (fielded_at rows connect_fields connect_passed (context_tag 2))

abbrev pub accept_at : List TypeRow → Run
accept_at rows = selected_at (reads rows mode_row plain) (fielded_at rows accept_fields accept_passed (context_tag 2))

abbrev pub alteration_at : List TypeRow → Run
alteration_at rows scope opened spot =
    if nat_eq opened.number 0 then unit_at 3 (fielded_at rows alter_fields [] (context_tag 0)) scope opened spot
    else unit_at 4 (fielded_at rows alter_ack_fields [] (context_tag 1)) scope opened spot

abbrev pub abort_at : List TypeRow → Run
abort_at rows scope opened spot =
    if same_class opened.class Context then unit_at 7 (fielded_at rows user_abort_fields [] (context_tag 0)) scope opened spot
    else unit_at 8 (fielded_at rows provider_abort_fields [] sequence_tag) scope opened spot

abbrev pub data_at : List TypeRow → Run
data_at rows = unit_at 9 (some_at (reads rows pdv_row) user_tag)

-- the unit that a kind of session unit carries
unfoldable pub ppdu_run : List TypeRow → PpduPlace → Run
ppdu_run rows place.Cn = unit_at 0 (connect_at rows)
ppdu_run rows place.Ac = unit_at 1 (accept_at rows)
ppdu_run rows place.Rf = unit_at 2 (fielded_at rows reject_fields [] sequence_tag)
ppdu_run rows place.Fn = data_at rows
ppdu_run rows place.Dn = data_at rows
ppdu_run rows place.Ab = abort_at rows
ppdu_run rows place.Pt = data_at rows
ppdu_run rows place.Td = alteration_at rows
ppdu_run rows place.Dt = data_at rows
ppdu_run rows place.Rs = unit_at 5 (fielded_at rows restart_fields [] sequence_tag)
ppdu_run rows place.Ra = unit_at 6 (fielded_at rows restart_fields [] sequence_tag)

abbrev pub is_tag : Kind → Bool
is_tag why.Tag = true
is_tag why.Missing = false
is_tag why.Extra = false
is_tag why.Length = false
is_tag why.Content = false
is_tag why.Form = false

-- the provider's reason (X.226 8.2): 1 for a unit that isn't one of those carried, 6 for another fault
abbrev pub reason_of : ℕ → Kind → ℕ
reason_of at kind = if nat_eq at 0 && is_tag kind then 1 else 6

abbrev pub of_fault : plain_faults.PduFault → faults.PpduFault
of_fault (plain_fault.At at kind) = fault.At at kind (reason_of at kind)
of_fault plain_fault.NoMemory = fault.NoMemory

abbrev pub of_value : Result Value plain_faults.PduFault → Result units.PresentationWord faults.PpduFault
of_value (Ok v) = Ok (unit_in v)
of_value (Err e) = Err (of_fault e)

-- the unit that all of these octets are, or their first fault
abbrev pub ppdu_at : PpduPlace → List ℕ → Result units.PresentationWord faults.PpduFault
ppdu_at carrier octets = of_value (all_at (ppdu_run ppdu_rows carrier) most_spelled octets)

abbrev pub FailsPpdu : faults.PpduFault → Result units.PresentationWord faults.PpduFault → Type 0
FailsPpdu fault.NoMemory read = Unit {0}
FailsPpdu (fault.At at kind reason) read = read ≡ Err (fault.At at kind reason)

-- what a function returned is what reading gives, unless memory ran out
abbrev pub GivesPpdu : Result units.PresentationWord faults.PpduFault → Result units.PresentationWord faults.PpduFault → Type 0
GivesPpdu (Ok word) read = read ≡ Ok word
GivesPpdu (Err e) read = FailsPpdu e read

-- ---- apart from reading

abbrev pub UnitIs : ℕ → Relation → Relation
UnitIs which P strict levels v spelled = (w : Value) × (v ≡ chosen which w) × P strict levels w spelled

abbrev pub ModeIs : Relation
ModeIs strict levels v spelled = SpelledBy ppdu_rows (length ppdu_rows) mode_row plain strict levels v spelled

abbrev pub Fielded : List known.Field → List over.Passed → tags.Tag → Relation
Fielded fields passed tag strict levels v spelled = FieldedIs ppdu_rows fields passed tag strict levels v spelled

-- presentation data values, at least one
abbrev pub DataIs : Relation
DataIs strict levels v spelled = IsConstructed user_tag strict levels (λ inner contents. SomeItems ppdu_rows pdv_row strict inner v contents) spelled

-- CP, CPA, CPR, user data, ARU or ARP, AC or ACA, RS, RSA
abbrev pub PpduIs : PpduPlace → Relation
PpduIs place.Cn = UnitIs 0 (SelectedIs ModeIs (Fielded connect_fields connect_passed (context_tag 2)))
PpduIs place.Ac = UnitIs 1 (SelectedIs ModeIs (Fielded accept_fields accept_passed (context_tag 2)))
PpduIs place.Rf = UnitIs 2 (Fielded reject_fields [] sequence_tag)
PpduIs place.Fn = UnitIs 9 DataIs
PpduIs place.Dn = UnitIs 9 DataIs
PpduIs place.Ab =
    λ strict levels v spelled. UnitIs 7 (Fielded user_abort_fields [] (context_tag 0)) strict levels v spelled
    ⊎ UnitIs 8 (Fielded provider_abort_fields [] sequence_tag) strict levels v spelled
PpduIs place.Pt = UnitIs 9 DataIs
PpduIs place.Td = λ strict levels v spelled. UnitIs 3 (Fielded alter_fields [] (context_tag 0)) strict levels v spelled ⊎ UnitIs 4 (Fielded alter_ack_fields [] (context_tag 1)) strict levels v spelled
PpduIs place.Dt = UnitIs 9 DataIs
PpduIs place.Rs = UnitIs 5 (Fielded restart_fields [] sequence_tag)
PpduIs place.Ra = UnitIs 6 (Fielded restart_fields [] sequence_tag)

-- octets spell this unit in such a session unit (BER, X.690 8)
pub record SpellsPpdu (carrier : PpduPlace) (word : units.PresentationWord) (octets : List ℕ) : Type 0 where
  pub value : Value
  pub spelled : PpduIs carrier false most_levels value octets
  pub within : length octets ≤ most_spelled
  pub says : unit_in value ≡ word
