-- Units that are written are spelled as the fields that they are read as.
use Rattle.std.proofs.Common.{◌≡◌, ℕ, Bool, true, false, List, [], ◌∷◌, Option, Some, None, inl, inr, refl, sym, arith}
use Rattle.std.specs.Prelude.{codes, map, option_map}
use Rattle.osi_base.specs.declared.presentation_word.Pdv as pdvs
use Rattle.osi_base.specs.declared.presentation_word.PresentationConnect as connects
use Rattle.osi_base.specs.declared.presentation_word.PresentationAccept as accepts
use Rattle.osi_base.specs.declared.presentation_word.PresentationWord as units
use Rattle.osi_base.specs.declared.presentation_word.PresentationWord.TheVariants as unit
use Rattle.asn1_types.specs.declared.row.Class.TheVariants.{Context}
use Rattle.asn1_types.specs.declared.row.Part.{Part}
use Rattle.asn1_types.specs.Rows.{openings, tag}
use Rattle.asn1_types.specs.Value.{Value, integer, octets, parts}
use Rattle.asn1_types.specs.ValueView.{parts_of}
use Rattle.asn1_types.specs.FixedRows.{part}
use Rattle.ber_spelling.specs.Rules.{plain}
use Rattle.ber_spelling.specs.Spelling.{IsConstructed, SequenceIs, SpelledBy}
use Rattle.ber_spelling.proofs.Wholes.{whole_is}
use Rattle.ber_spelling.proofs.Written.{written_spelled}
use Rattle.passed_fields.specs.declared.field.Field as known
use Rattle.passed_fields.specs.declared.field.Passed as over
use Rattle.passed_fields.specs.declared.field.Holds.TheVariants as holds
use Rattle.passed_fields.specs.Spelling.{FieldsAre}
use Rattle.passed_fields.proofs.MoreTurns.{constructed_more}
use Rattle.presentation_pdus.specs.declared.place.PpduPlace.{PpduPlace}
use Rattle.presentation_pdus.specs.declared.place.PpduPlace.TheVariants as place
use Rattle.presentation_pdus.specs.Rows.{ppdu_rows}
use Rattle.fixed_tables.specs.Pdvs.{pdv_value}
use Rattle.fixed_tables.specs.Values.{bits_value}
use Rattle.presentation_pdus.specs.Items.{number_value, list_value, some_list, definition_value, answer_value, restored_value}
use Rattle.presentation_pdus.specs.Words.{normal_mode, with_mode, row_of, value_of, written_ppdu}
use Rattle.presentation_pdus.specs.Fields.{context_tag, sequence_tag, connect_fields, connect_passed, accept_fields, accept_passed, reject_fields, alter_fields, alter_ack_fields, restart_fields, user_abort_fields, provider_abort_fields}
use Rattle.presentation_pdus.specs.Units.{Fielded, DataIs, PpduIs, SpellsPpdu}
use Rattle.ppdu_laws.specs.Written.{carries, is_written_whole}
use Rattle.ppdu_laws.specs.Laws.{WrittenPpduIsRead, PlainPpduIsSpelled}
use Rattle.presentation_pdus.proofs.Added.{ppdu_sound}
use Rattle.ppdu_laws.proofs.Aligned.{CanHold, AreParts, CanHoldAll, inserted, aligned, row_part, user_held, user_part}
use Rattle.ppdu_laws.proofs.SetBack.{set_selected}
use Rattle.ppdu_laws.proofs.BackValues.{connect_read, accept_read, reject_read, read_value}
use Rattle.ppdu_laws.proofs.SaidBack.{said_back}
use Rattle.presentation_pdus.proofs.UnitLaws.{spelled_ppdu_is_read}

opens_32 : openings ppdu_rows 32 ≡ tag Context 0 ∷ []
unfolding openings
opens_32 = refl

opens_33 : openings ppdu_rows 33 ≡ tag Context 1 ∷ []
unfolding openings
opens_33 = refl

opens_34 : openings ppdu_rows 34 ≡ tag Context 2 ∷ []
unfolding openings
opens_34 = refl

opens_35 : openings ppdu_rows 35 ≡ tag Context 3 ∷ []
unfolding openings
opens_35 = refl

opens_36 : openings ppdu_rows 36 ≡ tag Context 4 ∷ []
unfolding openings
opens_36 = refl

opens_37 : openings ppdu_rows 37 ≡ tag Context 5 ∷ []
unfolding openings
opens_37 = refl

opens_38 : openings ppdu_rows 38 ≡ tag Context 7 ∷ []
unfolding openings
opens_38 = refl

opens_39 : openings ppdu_rows 39 ≡ tag Context 8 ∷ []
unfolding openings
opens_39 = refl

opens_40 : openings ppdu_rows 40 ≡ tag Context 9 ∷ []
unfolding openings
opens_40 = refl

opens_41 : openings ppdu_rows 41 ≡ tag Context 10 ∷ []
unfolding openings
opens_41 = refl

opens_49 : openings ppdu_rows 49 ≡ tag Context 0 ∷ []
unfolding openings
opens_49 = refl

opens_50 : openings ppdu_rows 50 ≡ tag Context 1 ∷ []
unfolding openings
opens_50 = refl

opens_53 : openings ppdu_rows 53 ≡ tag Context 0 ∷ []
unfolding openings
opens_53 = refl

opens_54 : openings ppdu_rows 54 ≡ tag Context 1 ∷ []
unfolding openings
opens_54 = refl

opens_57 : openings ppdu_rows 57 ≡ tag Context 0 ∷ []
unfolding openings
opens_57 = refl

opens_61 : openings ppdu_rows 61 ≡ tag Context 0 ∷ []
unfolding openings
opens_61 = refl

opens_62 : openings ppdu_rows 62 ≡ tag Context 1 ∷ []
unfolding openings
opens_62 = refl

-- ---- the parts of each row

abbrev pub connect_parts : List Part
connect_parts = part (codes "version") 32 true ∷ part (codes "calling") 33 true ∷ part (codes "called") 34 true ∷ part (codes "definitions") 36 true ∷ part (codes "requirements") 39 true ∷ part (codes "session") 40 true ∷ part (codes "user") 16 true ∷ []

abbrev connect_marks : List Bool
connect_marks = true ∷ true ∷ true ∷ true ∷ false ∷ true ∷ true ∷ true ∷ []

connect_are : AreParts connect_marks connect_fields connect_parts
connect_are = (row_part (codes "version") Context 0 32 true opens_32 (omega arith), (row_part (codes "calling") Context 1 33 true opens_33 (omega arith), (row_part (codes "called") Context 2 34 true opens_34 (omega arith), (row_part (codes "definitions") Context 4 36 true opens_36 (omega arith), (refl, (row_part (codes "requirements") Context 8 39 true opens_39 (omega arith), (row_part (codes "session") Context 9 40 true opens_40 (omega arith), (user_part, tt))))))))

abbrev pub accept_parts : List Part
accept_parts = part (codes "version") 32 true ∷ part (codes "responding") 35 true ∷ part (codes "results") 37 true ∷ part (codes "requirements") 39 true ∷ part (codes "session") 40 true ∷ part (codes "user") 16 true ∷ []

abbrev accept_marks : List Bool
accept_marks = true ∷ true ∷ true ∷ true ∷ true ∷ true ∷ []

accept_are : AreParts accept_marks accept_fields accept_parts
accept_are = (row_part (codes "version") Context 0 32 true opens_32 (omega arith), (row_part (codes "responding") Context 3 35 true opens_35 (omega arith), (row_part (codes "results") Context 5 37 true opens_37 (omega arith), (row_part (codes "requirements") Context 8 39 true opens_39 (omega arith), (row_part (codes "session") Context 9 40 true opens_40 (omega arith), (user_part, tt))))))

abbrev pub reject_parts : List Part
reject_parts = part (codes "version") 32 true ∷ part (codes "responding") 35 true ∷ part (codes "results") 37 true ∷ part (codes "default") 38 true ∷ part (codes "reason") 41 true ∷ part (codes "user") 16 true ∷ []

abbrev reject_marks : List Bool
reject_marks = true ∷ true ∷ true ∷ true ∷ true ∷ true ∷ []

reject_are : AreParts reject_marks reject_fields reject_parts
reject_are = (row_part (codes "version") Context 0 32 true opens_32 (omega arith), (row_part (codes "responding") Context 3 35 true opens_35 (omega arith), (row_part (codes "results") Context 5 37 true opens_37 (omega arith), (row_part (codes "default") Context 7 38 true opens_38 (omega arith), (row_part (codes "reason") Context 10 41 true opens_41 (omega arith), (user_part, tt))))))

abbrev pub alter_parts : List Part
alter_parts = part (codes "additions") 49 true ∷ part (codes "deletions") 50 true ∷ []

abbrev alter_marks : List Bool
alter_marks = true ∷ true ∷ false ∷ []

alter_are : AreParts alter_marks alter_fields alter_parts
alter_are = (row_part (codes "additions") Context 0 49 true opens_49 (omega arith), (row_part (codes "deletions") Context 1 50 true opens_50 (omega arith), (refl, tt)))

abbrev pub alter_ack_parts : List Part
alter_ack_parts = part (codes "additions") 53 true ∷ part (codes "deletions") 54 true ∷ []

abbrev alter_ack_marks : List Bool
alter_ack_marks = true ∷ true ∷ false ∷ []

alter_ack_are : AreParts alter_ack_marks alter_ack_fields alter_ack_parts
alter_ack_are = (row_part (codes "additions") Context 0 53 true opens_53 (omega arith), (row_part (codes "deletions") Context 1 54 true opens_54 (omega arith), (refl, tt)))

abbrev pub restart_parts : List Part
restart_parts = part (codes "contexts") 57 true ∷ []

abbrev restart_marks : List Bool
restart_marks = true ∷ false ∷ []

restart_are : AreParts restart_marks restart_fields restart_parts
restart_are = (row_part (codes "contexts") Context 0 57 true opens_57 (omega arith), (refl, tt))

abbrev pub user_abort_parts : List Part
user_abort_parts = part (codes "contexts") 57 true ∷ part (codes "user") 16 true ∷ []

abbrev user_abort_marks : List Bool
user_abort_marks = true ∷ true ∷ []

user_abort_are : AreParts user_abort_marks user_abort_fields user_abort_parts
user_abort_are = (row_part (codes "contexts") Context 0 57 true opens_57 (omega arith), (user_part, tt))

abbrev pub provider_abort_parts : List Part
provider_abort_parts = part (codes "reason") 61 false ∷ part (codes "event") 62 true ∷ []

abbrev provider_abort_marks : List Bool
provider_abort_marks = true ∷ true ∷ []

provider_abort_are : AreParts provider_abort_marks provider_abort_fields provider_abort_parts
provider_abort_are = (row_part (codes "reason") Context 0 61 false opens_61 (omega arith), (row_part (codes "event") Context 1 62 true opens_62 (omega arith), tt))

-- a list of data values that stands has one
has_user : (xs : List pdvs.Pdv) (v : Value) → some_list pdv_value xs ≡ Some v → CanHold (holds.Some (record { 0 = 14 })) v
has_user [] v e = absurd cc
has_user (x ∷ xs) v e = (pdv_value x, map pdv_value xs, (let same : list_value pdv_value (x ∷ xs) ≡ v = cc in sym same))

-- fields under a context tag, which the table has in the place of a SEQUENCE's own
under_context : (n : ℕ) (passed : List over.Passed) (ms : List Bool) (fs : List known.Field) (ps : List Part) (os : List (Option Value)) (levels : ℕ) (s : List ℕ) → AreParts ms fs ps → CanHoldAll ms fs os
    → IsConstructed (context_tag n) false levels (λ l c. SequenceIs (SpelledBy ppdu_rows 62) false ps (parts (parts_of os)) l c) s → Fielded fs passed (context_tag n) false levels (parts (parts_of (inserted ms os))) s
under_context n passed ms fs ps os levels s are h p =
    constructed_more (context_tag n) false levels (λ l c. SequenceIs (SpelledBy ppdu_rows 62) false ps (parts (parts_of os)) l c) (λ l c. FieldsAre ppdu_rows fs passed false l (parts (parts_of (inserted ms os))) c)
    (λ l c q. aligned 62 2 refl l passed ms fs ps os c are h q) s p

-- fields of a SEQUENCE
of_sequence : (ms : List Bool) (fs : List known.Field) (ps : List Part) (os : List (Option Value)) (levels : ℕ) (s : List ℕ) → AreParts ms fs ps → CanHoldAll ms fs os
    → IsConstructed sequence_tag false levels (λ l c. SequenceIs (SpelledBy ppdu_rows 63) false ps (parts (parts_of os)) l c) s → Fielded fs [] sequence_tag false levels (parts (parts_of (inserted ms os))) s
of_sequence ms fs ps os levels s are h p =
    constructed_more sequence_tag false levels (λ l c. SequenceIs (SpelledBy ppdu_rows 63) false ps (parts (parts_of os)) l c) (λ l c. FieldsAre ppdu_rows fs [] false l (parts (parts_of (inserted ms os))) c)
    (λ l c q. aligned 63 1 refl l [] ms fs ps os c are h q) s p

data_is : (user : List pdvs.Pdv) (s : List ℕ) → is_written_whole (unit.Data user) ≡ true → SpelledBy ppdu_rows 64 16 plain false 32 (list_value pdv_value user) s → DataIs false 32 (list_value pdv_value user) s
data_is [] s w p = absurd cc
data_is (x ∷ xs) s w p = user_held 32 (list_value pdv_value (x ∷ xs)) s (pdv_value x, map pdv_value xs, refl) p

abbrev connect_os : connects.PresentationConnect → List (Option Value)
connect_os c = option_map bits_value c.version ∷ option_map octets c.calling ∷ option_map octets c.called ∷ some_list definition_value c.definitions ∷ option_map bits_value c.requirements ∷ option_map bits_value c.session_requirements ∷ some_list pdv_value c.user ∷ []

abbrev accept_os : accepts.PresentationAccept → List (Option Value)
accept_os a = option_map bits_value a.version ∷ option_map octets a.responding ∷ some_list answer_value a.results ∷ option_map bits_value a.requirements ∷ option_map bits_value a.session_requirements ∷ some_list pdv_value a.user ∷ []

connect_fields_are : (c : connects.PresentationConnect) (levels : ℕ) (s : List ℕ) → SpelledBy ppdu_rows 64 43 plain false levels (parts (parts_of (connect_os c))) s → Fielded connect_fields connect_passed (context_tag 2) false levels (parts (parts_of (connect_read c))) s
connect_fields_are c levels s p = under_context 2 connect_passed connect_marks connect_fields connect_parts (connect_os c) levels s connect_are (λ v e. tt, (λ v e. tt, (λ v e. tt, (λ v e. tt, (λ v e. tt, (λ v e. tt, (has_user c.user, tt))))))) p

accept_fields_are : (a : accepts.PresentationAccept) (levels : ℕ) (s : List ℕ) → SpelledBy ppdu_rows 64 46 plain false levels (parts (parts_of (accept_os a))) s → Fielded accept_fields accept_passed (context_tag 2) false levels (parts (parts_of (accept_read a))) s
accept_fields_are a levels s p = under_context 2 accept_passed accept_marks accept_fields accept_parts (accept_os a) levels s accept_are (λ v e. tt, (λ v e. tt, (λ v e. tt, (λ v e. tt, (λ v e. tt, (has_user a.user, tt)))))) p

-- each unit in what carries it
spelled : (carrier : PpduPlace) (word : units.PresentationWord) (s : List ℕ) → carries carrier word ≡ true → is_written_whole word ≡ true → SpelledBy ppdu_rows 64 (row_of word) plain false 32 (value_of word) s → PpduIs carrier false 32 (read_value word) s
spelled place.Cn (unit.Connect c) s k w p = (with_mode (parts (parts_of (connect_read c))), refl, set_selected 43 normal_mode (parts (parts_of (connect_os c))) (parts (parts_of (connect_read c))) (Fielded connect_fields connect_passed (context_tag 2)) (connect_fields_are c) 32 s p)
spelled place.Ac (unit.Accept a) s k w p = (with_mode (parts (parts_of (accept_read a))), refl, set_selected 46 normal_mode (parts (parts_of (accept_os a))) (parts (parts_of (accept_read a))) (Fielded accept_fields accept_passed (context_tag 2)) (accept_fields_are a) 32 s p)
spelled place.Rf (unit.Reject r) s k w p = (parts (parts_of (reject_read r)), refl, of_sequence reject_marks reject_fields reject_parts (reject_read r) 32 s reject_are (λ v e. tt, (λ v e. tt, (λ v e. tt, (λ v e. tt, (λ v e. tt, (has_user r.user, tt)))))) p)
spelled place.Td (unit.Alter add delete) s k w p = inl (parts (parts_of (some_list definition_value add ∷ some_list number_value delete ∷ None ∷ [])), refl, under_context 0 [] alter_marks alter_fields alter_parts (some_list definition_value add ∷ some_list number_value delete ∷ []) 32 s alter_are (λ v e. tt, (λ v e. tt, tt)) p)
spelled place.Td (unit.AlterAck answers) s k w p = inr (parts (parts_of (some_list answer_value answers.added ∷ some_list number_value answers.deleted ∷ None ∷ [])), refl, under_context 1 [] alter_ack_marks alter_ack_fields alter_ack_parts (some_list answer_value answers.added ∷ some_list number_value answers.deleted ∷ []) 32 s alter_ack_are (λ v e. tt, (λ v e. tt, tt)) p)
spelled place.Rs (unit.Resynchronize restored) s k w p = (parts (parts_of (option_map (list_value restored_value) restored ∷ None ∷ [])), refl, of_sequence restart_marks restart_fields restart_parts (option_map (list_value restored_value) restored ∷ []) 32 s restart_are (λ v e. tt, tt) p)
spelled place.Ra (unit.ResynchronizeAck restored) s k w p = (parts (parts_of (option_map (list_value restored_value) restored ∷ None ∷ [])), refl, of_sequence restart_marks restart_fields restart_parts (option_map (list_value restored_value) restored ∷ []) 32 s restart_are (λ v e. tt, tt) p)
spelled place.Ab (unit.UserAbort contexts user) s k w p = inl (parts (parts_of (option_map (list_value restored_value) contexts ∷ some_list pdv_value user ∷ [])), refl, under_context 0 [] user_abort_marks user_abort_fields user_abort_parts (option_map (list_value restored_value) contexts ∷ some_list pdv_value user ∷ []) 32 s user_abort_are (λ v e. tt, (has_user user, tt)) p)
spelled place.Ab (unit.ProviderAbort reason event) s k w p = inr (parts (parts_of (option_map integer reason ∷ option_map integer event ∷ [])), refl, of_sequence provider_abort_marks provider_abort_fields provider_abort_parts (option_map integer reason ∷ option_map integer event ∷ []) 32 s provider_abort_are (λ v e. tt, (λ v e. tt, tt)) p)
spelled place.Fn (unit.Data user) s k w p = (list_value pdv_value user, refl, data_is user s w p)
spelled place.Dn (unit.Data user) s k w p = (list_value pdv_value user, refl, data_is user s w p)
spelled place.Pt (unit.Data user) s k w p = (list_value pdv_value user, refl, data_is user s w p)
spelled place.Dt (unit.Data user) s k w p = (list_value pdv_value user, refl, data_is user s w p)
spelled carrier word s k w p = absurd cc

pub plain_ppdu_is_spelled : PlainPpduIsSpelled
plain_ppdu_is_spelled carrier word os k w p = record { value = read_value word; spelled = spelled carrier word os k w p.by; within = p.within; says = said_back word w }

pub written_ppdu_is_read : WrittenPpduIsRead
written_ppdu_is_read carrier word w =
    let os : List ℕ = written_ppdu word in
    let by = written_spelled whole_is ppdu_rows ppdu_sound (row_of word) (value_of word) w.fitting false 4294967295 (omega arith) w.within in
    let spells : SpellsPpdu carrier word os = plain_ppdu_is_spelled carrier word os w.carried w.whole by in
    (spells, spelled_ppdu_is_read carrier word os spells)
