-- Units of the presentation protocol: what is read is spelled so, what is spelled so is read, and a fault is the first.
use Rattle.std.proofs.Common.{◌≡◌, ℕ, ◌+◌, Bool, true, false, not, ◌&&◌, ◌||◌, List, [], ◌∷◌, length, Result, Ok, Err, None, ◌⊎◌, refl, sym, ap, ◌∙◌, subst, inl, inr}
use Rattle.std.specs.Prelude.{nat_eq, if◌then◌else◌}
use Rattle.std.specs.List.{list_any}
use Rattle.std.proofs.lemmas.Bool.{and_parts, eqb-true}
use Rattle.osi_base.specs.declared.layer_words.Kind.{Kind}
use Rattle.osi_base.specs.declared.layer_words.Kind.TheVariants as why
use Rattle.osi_base.specs.declared.presentation_word.PresentationWord as units
use Rattle.asn1_types.specs.declared.row.Class.{Class}
use Rattle.asn1_types.specs.declared.row.Class.TheVariants.{Context}
use Rattle.asn1_types.specs.Rows.{same_class, is_no_tag, openings, allows, tag}
use Rattle.asn1_types.specs.Value.{Value, chosen}
use Rattle.ber_spelling.specs.declared.spot.Scope.{Scope}
use Rattle.asn1_types.specs.declared.row.Tag as tags
use Rattle.ber_spelling.specs.Reading.{Spot, Opened}
use Rattle.ber_spelling.specs.Rules.{plain, reads}
use Rattle.ber_spelling.proofs.Identifiers.{IsIn, bind_ok, chosen_ok, ok_is}
use Rattle.ber_spelling.proofs.Steady.{ReadAs, Found, ReadBack, Only, only_wider, OfTag, same_classes}
use Rattle.ber_spelling.proofs.Growing.{grown, grown_opened, Grows-bind, Grows-cond, with_spot}
use Rattle.ber_spelling.proofs.GrowingRules.{along_grows}
use Rattle.ber_spelling.proofs.Items.{GrowsRun}
use Rattle.ber_spelling.proofs.Inside.{Inside-bind, Inside-cond, second}
use Rattle.ber_spelling.proofs.InsideRules.{InsideRun, along_inside}
use Rattle.ber_spelling.proofs.RowLaws.{Allowed, along_found, along_only}
use Rattle.fixed_tables.specs.declared.pdu.PduFault as plain_faults
use Rattle.fixed_tables.specs.declared.pdu.PduFault.TheVariants as plain_fault
use Rattle.passed_fields.specs.declared.field.Field as known
use Rattle.passed_fields.specs.declared.field.Passed as over
use Rattle.passed_fields.specs.Known.{are_apart}
use Rattle.passed_fields.specs.Reading.{some_at, fielded_at}
use Rattle.passed_fields.specs.AllOctets.{all_at}
use Rattle.passed_fields.proofs.FieldsFound.{some_found, fields_found}
use Rattle.passed_fields.proofs.FieldsOnly.{some_only, fields_only}
use Rattle.passed_fields.proofs.FieldsGrow.{some_grows, fields_grow}
use Rattle.passed_fields.proofs.FieldsInside.{some_inside, fields_inside}
use Rattle.passed_fields.proofs.Fronts.{all_found, all_only, all_first}
use Rattle.presentation_pdus.specs.declared.place.PpduPlace.{PpduPlace}
use Rattle.presentation_pdus.specs.declared.place.PpduPlace.TheVariants as place
use Rattle.presentation_pdus.specs.declared.place.PpduFault as faults
use Rattle.presentation_pdus.specs.declared.place.PpduFault.TheVariants as fault
use Rattle.presentation_pdus.specs.Rows.{ppdu_rows}
use Rattle.presentation_pdus.specs.Fields.{context_tag, sequence_tag, set_tag, user_tag, pdv_row, mode_row, connect_fields, connect_passed, accept_fields, accept_passed, reject_fields, alter_fields, alter_ack_fields, restart_fields, user_abort_fields, provider_abort_fields}
use Rattle.presentation_pdus.specs.Selected.{Run, Relation, selected_at, SelectedIs}
use Rattle.presentation_pdus.specs.Words.{unit_in}
use Rattle.presentation_pdus.specs.Units.{unit_at, data_at, ppdu_run, reason_of, of_value, UnitIs, ModeIs, Fielded, DataIs, PpduIs}
use Rattle.presentation_pdus.specs.Laws.{PpduIsSpelled, SpelledPpduIsRead, PpduFaultIsFirst}
use Rattle.presentation_pdus.proofs.Added.{ppdu_sound}
use Rattle.presentation_pdus.proofs.SelectedLaws.{selected_found, selected_only, selected_grows, selected_inside}

abbrev Whatever : Class → ℕ → Type 0
Whatever class number = Unit {0}

-- ---- a unit of a number

unit_found : (which : ℕ) (run : Run) (P : Relation) → Found run P → Found (unit_at which run) (UnitIs which P)
unit_found which run P h = record {
  found = λ scope place rest o s v to are opens e.
      let b = bind_ok (run scope o s) (λ w. Ok (chosen which w.0, w.1)) (v, to) e in
      let same = ok_is {A = Value × Spot} (chosen which b.0.0, b.0.1) (v, to) b.2 in
      let r = h.found scope place rest o s b.0.0 b.0.1 are opens b.1 in
      subst (λ (y : Value × Spot). ReadAs (UnitIs which P) scope place rest y.0 y.1) same (record { text = r.text; taken = r.taken; spelled = (b.0.0, refl, r.spelled); is_in = r.is_in });
}

unit_only : (which : ℕ) (B : Class → ℕ → Type 0) (run : Run) (P : Relation) → Only B run P → Only B (unit_at which run) (UnitIs which P)
unit_only which B run P h = record {
  only = λ scope place v text rest p here.
      let r = h.only scope place p.0 text rest p.2 here in
      record {
        opened = r.opened;
        spot = r.spot;
        first = r.first;
        others = r.others;
        begins = r.begins;
        some = r.some;
        opens = r.opens;
        allowed = r.allowed;
        reads = rw r.reads (ap (λ (y : Value). Ok (y, record { place = place + length text; rest = rest })) (sym p.1));
      };
}

unit_grows : (which : ℕ) (run : Run) → GrowsRun run → GrowsRun (unit_at which run)
unit_grows which run h = record {
  grows = λ scope o s more. Grows-bind (with_spot more) (with_spot more) (run scope o s) (run scope (grown_opened more o) (grown more s)) _ _ (h.grows scope o s more) (λ v e. refl);
}

unit_inside : (which : ℕ) (run : Run) → InsideRun run → InsideRun (unit_at which run)
unit_inside which run h = record { each = λ end scope o s le e. Inside-bind (second end) (second end) end (run scope o s) _ (h.each end scope o s le e) (λ v k. k) }

-- ---- the mode selector

mode_found : Found (reads ppdu_rows mode_row plain) ModeIs
unfolding reads
mode_found = along_found ppdu_rows (length ppdu_rows) mode_row plain

mode_opens : openings ppdu_rows mode_row ≡ tag Context 0 ∷ []
unfolding openings
mode_opens = refl

mode_allowed : (class : Class) (number : ℕ) → Allowed ppdu_rows mode_row None class number → OfTag (context_tag 0) class number
mode_allowed class number h =
    let some : (not (is_no_tag class number) && list_any (allows class number) (tag Context 0 ∷ [])) ≡ true = rw mode_opens at h in
    let a = and_parts (not (is_no_tag class number)) (list_any (allows class number) (tag Context 0 ∷ [])) some in
    one (same_class class Context) (nat_eq number 0) refl refl a.1
  where
    one : (x y : Bool) → same_class class Context ≡ x → nat_eq number 0 ≡ y → ((x && y) || false) ≡ true → OfTag (context_tag 0) class number
    one true true c n e = (same_classes class Context c, eqb-true number 0 n)
    one true false c n e = absurd cc
    one false y c n e = absurd cc

mode_only : Only (OfTag (context_tag 0)) (reads ppdu_rows mode_row plain) ModeIs
unfolding reads
mode_only = only_wider (Allowed ppdu_rows mode_row None) (OfTag (context_tag 0)) (reads ppdu_rows mode_row plain) ModeIs mode_allowed (along_only ppdu_rows ppdu_sound (length ppdu_rows) mode_row plain tt)

mode_grows : GrowsRun (reads ppdu_rows mode_row plain)
unfolding reads
mode_grows = along_grows ppdu_rows (length ppdu_rows) mode_row plain

mode_inside : InsideRun (reads ppdu_rows mode_row plain)
unfolding reads
mode_inside = along_inside ppdu_rows (length ppdu_rows) mode_row plain

-- ---- units of fields, with the mode selector or without

abbrev with_mode : List known.Field → List over.Passed → Run
with_mode fields passed = selected_at (reads ppdu_rows mode_row plain) (fielded_at ppdu_rows fields passed (context_tag 2))

abbrev WithMode : List known.Field → List over.Passed → Relation
WithMode fields passed strict levels v octets = SelectedIs ModeIs (Fielded fields passed (context_tag 2)) strict levels v octets

with_mode_found : (which : ℕ) (fields : List known.Field) (passed : List over.Passed) → Found (unit_at which (with_mode fields passed)) (UnitIs which (WithMode fields passed))
with_mode_found which fields passed =
    unit_found which (with_mode fields passed) (WithMode fields passed)
    (selected_found (reads ppdu_rows mode_row plain) (fielded_at ppdu_rows fields passed (context_tag 2)) ModeIs (Fielded fields passed (context_tag 2)) mode_found (fields_found ppdu_rows fields passed (context_tag 2)))

with_mode_only : (which : ℕ) (fields : List known.Field) (passed : List over.Passed) → are_apart fields passed ≡ true → Only Whatever (unit_at which (with_mode fields passed)) (UnitIs which (WithMode fields passed))
with_mode_only which fields passed apart =
    only_wider (OfTag set_tag) Whatever (unit_at which (with_mode fields passed)) (UnitIs which (WithMode fields passed)) (λ c k b. tt)
    (unit_only which (OfTag set_tag) (with_mode fields passed) (WithMode fields passed)
    (selected_only (reads ppdu_rows mode_row plain) (fielded_at ppdu_rows fields passed (context_tag 2)) ModeIs (Fielded fields passed (context_tag 2)) mode_only (fields_only ppdu_rows ppdu_sound fields passed apart (context_tag 2) refl)))

with_mode_grows : (which : ℕ) (fields : List known.Field) (passed : List over.Passed) → GrowsRun (unit_at which (with_mode fields passed))
with_mode_grows which fields passed =
    unit_grows which (with_mode fields passed) (selected_grows (reads ppdu_rows mode_row plain) (fielded_at ppdu_rows fields passed (context_tag 2)) mode_grows (fields_grow ppdu_rows fields passed (context_tag 2)))

with_mode_inside : (which : ℕ) (fields : List known.Field) (passed : List over.Passed) → InsideRun (unit_at which (with_mode fields passed))
with_mode_inside which fields passed =
    unit_inside which (with_mode fields passed) (selected_inside (reads ppdu_rows mode_row plain) (fielded_at ppdu_rows fields passed (context_tag 2)) mode_inside (fields_inside ppdu_rows fields passed (context_tag 2)))

module _ (which : ℕ) (fields : List known.Field) (t : tags.Tag) where
  fielded_found : Found (unit_at which (fielded_at ppdu_rows fields [] t)) (UnitIs which (Fielded fields [] t))
  fielded_found = unit_found which (fielded_at ppdu_rows fields [] t) (Fielded fields [] t) (fields_found ppdu_rows fields [] t)

  fielded_only : are_apart fields [] ≡ true → is_no_tag t.class t.number ≡ false → Only (OfTag t) (unit_at which (fielded_at ppdu_rows fields [] t)) (UnitIs which (Fielded fields [] t))
  fielded_only apart tagged = unit_only which (OfTag t) (fielded_at ppdu_rows fields [] t) (Fielded fields [] t) (fields_only ppdu_rows ppdu_sound fields [] apart t tagged)

  fielded_any : are_apart fields [] ≡ true → is_no_tag t.class t.number ≡ false → Only Whatever (unit_at which (fielded_at ppdu_rows fields [] t)) (UnitIs which (Fielded fields [] t))
  fielded_any apart tagged = only_wider (OfTag t) Whatever (unit_at which (fielded_at ppdu_rows fields [] t)) (UnitIs which (Fielded fields [] t)) (λ c k b. tt) (fielded_only apart tagged)

  fielded_grows : GrowsRun (unit_at which (fielded_at ppdu_rows fields [] t))
  fielded_grows = unit_grows which (fielded_at ppdu_rows fields [] t) (fields_grow ppdu_rows fields [] t)

  fielded_inside : InsideRun (unit_at which (fielded_at ppdu_rows fields [] t))
  fielded_inside = unit_inside which (fielded_at ppdu_rows fields [] t) (fields_inside ppdu_rows fields [] t)

-- ---- user data

data_found : Found (data_at ppdu_rows) (UnitIs 9 DataIs)
data_found = unit_found 9 (some_at (reads ppdu_rows pdv_row) user_tag) DataIs (some_found ppdu_rows pdv_row user_tag)

data_only : Only Whatever (data_at ppdu_rows) (UnitIs 9 DataIs)
data_only =
    only_wider (OfTag user_tag) Whatever (data_at ppdu_rows) (UnitIs 9 DataIs) (λ c k b. tt)
    (unit_only 9 (OfTag user_tag) (some_at (reads ppdu_rows pdv_row) user_tag) DataIs (some_only ppdu_rows ppdu_sound pdv_row user_tag refl))

data_grows : GrowsRun (data_at ppdu_rows)
data_grows = unit_grows 9 (some_at (reads ppdu_rows pdv_row) user_tag) (some_grows ppdu_rows pdv_row user_tag)

data_inside : InsideRun (data_at ppdu_rows)
data_inside = unit_inside 9 (some_at (reads ppdu_rows pdv_row) user_tag) (some_inside ppdu_rows pdv_row user_tag)

-- ---- one of two units

one_found : (test : Opened → Bool) (a b : Run) (P Q : Relation) → Found a P → Found b Q → Found (λ scope o s. if test o then a scope o s else b scope o s) (λ strict levels v octets. P strict levels v octets ⊎ Q strict levels v octets)
one_found test a b P Q f g = record {
  found = λ scope place rest o s v to are opens e.
      elim (chosen_ok (test o) _ _ (v, to) e) [
        | inl t ↦ let r = f.found scope place rest o s v to are opens t.1 in record { text = r.text; taken = r.taken; spelled = inl r.spelled; is_in = r.is_in }
        | inr t ↦ let r = g.found scope place rest o s v to are opens t.1 in record { text = r.text; taken = r.taken; spelled = inr r.spelled; is_in = r.is_in }
      ];
}

module _ (test : Opened → Bool) (a b : Run) (P Q : Relation) (s t : tags.Tag) (f : Only (OfTag s) a P) (g : Only (OfTag t) b Q)
    (yes : (o : Opened) → OfTag s o.class o.number → test o ≡ true) (no : (o : Opened) → OfTag t o.class o.number → test o ≡ false) where
  abbrev either : Run
  either scope o x = if test o then a scope o x else b scope o x

  one_back : (scope : Scope) (place : ℕ) (v : Value) (text rest : List ℕ) → P scope.strict scope.levels v text ⊎ Q scope.strict scope.levels v text → IsIn scope (place + length text) → ReadBack Whatever either scope place text rest v
  one_back scope place v text rest (inl p) here =
      let r = f.only scope place v text rest p here in
      record { opened = r.opened; spot = r.spot; first = r.first; others = r.others; begins = r.begins; some = r.some; opens = r.opens; allowed = tt; reads = rw (yes r.opened r.allowed) r.reads }
  one_back scope place v text rest (inr p) here =
      let r = g.only scope place v text rest p here in
      record { opened = r.opened; spot = r.spot; first = r.first; others = r.others; begins = r.begins; some = r.some; opens = r.opens; allowed = tt; reads = rw (no r.opened r.allowed) r.reads }

  one_only : Only Whatever either (λ strict levels v octets. P strict levels v octets ⊎ Q strict levels v octets)
  one_only = record { only = λ scope place v text rest p here. one_back scope place v text rest p here }

one_grows : (test : Opened → Bool) (a b : Run) → ((o : Opened) (more : List ℕ) → test (grown_opened more o) ≡ test o) → GrowsRun a → GrowsRun b → GrowsRun (λ scope o s. if test o then a scope o s else b scope o s)
one_grows test a b same f g = record {
  grows = λ scope o s more. rw (same o more) (Grows-cond (with_spot more) (test o) _ _ _ _ (λ t. f.grows scope o s more) (λ t. g.grows scope o s more));
}

one_inside : (test : Opened → Bool) (a b : Run) → InsideRun a → InsideRun b → InsideRun (λ scope o s. if test o then a scope o s else b scope o s)
one_inside test a b f g = record { each = λ end scope o s le e. Inside-cond (second end) end (test o) _ _ (λ t. f.each end scope o s le e) (λ t. g.each end scope o s le e) }

-- ---- by what carries them

ppdu_found : (carrier : PpduPlace) → Found (ppdu_run ppdu_rows carrier) (PpduIs carrier)
unfolding ppdu_run
ppdu_found place.Cn = with_mode_found 0 connect_fields connect_passed
ppdu_found place.Ac = with_mode_found 1 accept_fields accept_passed
ppdu_found place.Rf = fielded_found 2 reject_fields sequence_tag
ppdu_found place.Fn = data_found
ppdu_found place.Dn = data_found
ppdu_found place.Ab = one_found (λ o. same_class o.class Context) _ _ _ _ (fielded_found 7 user_abort_fields (context_tag 0)) (fielded_found 8 provider_abort_fields sequence_tag)
ppdu_found place.Pt = data_found
ppdu_found place.Td = one_found (λ o. nat_eq o.number 0) _ _ _ _ (fielded_found 3 alter_fields (context_tag 0)) (fielded_found 4 alter_ack_fields (context_tag 1))
ppdu_found place.Dt = data_found
ppdu_found place.Rs = fielded_found 5 restart_fields sequence_tag
ppdu_found place.Ra = fielded_found 6 restart_fields sequence_tag

ppdu_only : (carrier : PpduPlace) → Only Whatever (ppdu_run ppdu_rows carrier) (PpduIs carrier)
unfolding ppdu_run
ppdu_only place.Cn = with_mode_only 0 connect_fields connect_passed refl
ppdu_only place.Ac = with_mode_only 1 accept_fields accept_passed refl
ppdu_only place.Rf = fielded_any 2 reject_fields sequence_tag refl refl
ppdu_only place.Fn = data_only
ppdu_only place.Dn = data_only
ppdu_only place.Ab = one_only (λ o. same_class o.class Context) _ _ _ _ (context_tag 0) sequence_tag (fielded_only 7 user_abort_fields (context_tag 0) refl refl) (fielded_only 8 provider_abort_fields sequence_tag refl refl) (λ o h. rw h.0 refl) (λ o h. rw h.0 refl)
ppdu_only place.Pt = data_only
ppdu_only place.Td = one_only (λ o. nat_eq o.number 0) _ _ _ _ (context_tag 0) (context_tag 1) (fielded_only 3 alter_fields (context_tag 0) refl refl) (fielded_only 4 alter_ack_fields (context_tag 1) refl refl) (λ o h. rw h.1 refl) (λ o h. rw h.1 refl)
ppdu_only place.Dt = data_only
ppdu_only place.Rs = fielded_any 5 restart_fields sequence_tag refl refl
ppdu_only place.Ra = fielded_any 6 restart_fields sequence_tag refl refl

ppdu_grows : (carrier : PpduPlace) → GrowsRun (ppdu_run ppdu_rows carrier)
unfolding ppdu_run
ppdu_grows place.Cn = with_mode_grows 0 connect_fields connect_passed
ppdu_grows place.Ac = with_mode_grows 1 accept_fields accept_passed
ppdu_grows place.Rf = fielded_grows 2 reject_fields sequence_tag
ppdu_grows place.Fn = data_grows
ppdu_grows place.Dn = data_grows
ppdu_grows place.Ab = one_grows (λ o. same_class o.class Context) _ _ (λ o more. refl) (fielded_grows 7 user_abort_fields (context_tag 0)) (fielded_grows 8 provider_abort_fields sequence_tag)
ppdu_grows place.Pt = data_grows
ppdu_grows place.Td = one_grows (λ o. nat_eq o.number 0) _ _ (λ o more. refl) (fielded_grows 3 alter_fields (context_tag 0)) (fielded_grows 4 alter_ack_fields (context_tag 1))
ppdu_grows place.Dt = data_grows
ppdu_grows place.Rs = fielded_grows 5 restart_fields sequence_tag
ppdu_grows place.Ra = fielded_grows 6 restart_fields sequence_tag

ppdu_inside : (carrier : PpduPlace) → InsideRun (ppdu_run ppdu_rows carrier)
unfolding ppdu_run
ppdu_inside place.Cn = with_mode_inside 0 connect_fields connect_passed
ppdu_inside place.Ac = with_mode_inside 1 accept_fields accept_passed
ppdu_inside place.Rf = fielded_inside 2 reject_fields sequence_tag
ppdu_inside place.Fn = data_inside
ppdu_inside place.Dn = data_inside
ppdu_inside place.Ab = one_inside (λ o. same_class o.class Context) _ _ (fielded_inside 7 user_abort_fields (context_tag 0)) (fielded_inside 8 provider_abort_fields sequence_tag)
ppdu_inside place.Pt = data_inside
ppdu_inside place.Td = one_inside (λ o. nat_eq o.number 0) _ _ (fielded_inside 3 alter_fields (context_tag 0)) (fielded_inside 4 alter_ack_fields (context_tag 1))
ppdu_inside place.Dt = data_inside
ppdu_inside place.Rs = fielded_inside 5 restart_fields sequence_tag
ppdu_inside place.Ra = fielded_inside 6 restart_fields sequence_tag

-- ---- the laws

said_of : (r : Result Value plain_faults.PduFault) (word : units.PresentationWord) → of_value r ≡ Ok word → (v : Value) × (r ≡ Ok v) × (unit_in v ≡ word)
said_of (Ok v) word e = (v, refl, (let same : unit_in v ≡ word = cc in same))
said_of (Err f) word e = absurd cc

pub ppdu_is_spelled : PpduIsSpelled
ppdu_is_spelled carrier word octets are e =
    let r = said_of (all_at (ppdu_run ppdu_rows carrier) 4294967295 octets) word e in
    let p = all_found (ppdu_run ppdu_rows carrier) (PpduIs carrier) (ppdu_found carrier) 4294967295 octets r.0 are r.1 in
    record { value = r.0; spelled = p.0; within = p.1; says = r.2 }

pub spelled_ppdu_is_read : SpelledPpduIsRead
spelled_ppdu_is_read carrier word octets p =
    ap of_value (all_only (ppdu_run ppdu_rows carrier) Whatever (PpduIs carrier) (ppdu_only carrier) 4294967295 octets p.value p.spelled p.within) ∙ ap (λ (x : units.PresentationWord). Ok x) p.says

abbrev err : faults.PpduFault → Result units.PresentationWord faults.PpduFault
err f = Err f

-- where a fault of a unit came from
record CameFrom (r : Result Value plain_faults.PduFault) (at : ℕ) (kind : Kind) (reason : ℕ) : Type 0 where
  is : r ≡ Err (plain_fault.At at kind)
  why : reason ≡ reason_of at kind

came_from : (r : Result Value plain_faults.PduFault) (at : ℕ) (kind : Kind) (reason : ℕ) → of_value r ≡ Err (fault.At at kind reason) → CameFrom r at kind reason
came_from (Ok v) at kind reason e = absurd cc
came_from (Err (plain_fault.At p k)) at kind reason e =
    let place : p ≡ at = cc in
    let kinds : k ≡ kind = cc in
    let reasons : reason_of p k ≡ reason = cc in
    record {
      is = ap (λ (n : ℕ). Err (plain_fault.At n k)) place ∙ ap (λ (x : Kind). Err (plain_fault.At at x)) kinds;
      why = sym reasons ∙ ap (λ (n : ℕ). reason_of n k) place ∙ ap (reason_of at) kinds;
    }
came_from (Err plain_fault.NoMemory) at kind reason e = absurd (let wrong : err fault.NoMemory ≡ err (fault.At at kind reason) = e in cc)

pub ppdu_fault_is_first : PpduFaultIsFirst
ppdu_fault_is_first carrier octets at kind reason e =
    let f = came_from (all_at (ppdu_run ppdu_rows carrier) 4294967295 octets) at kind reason e in
    let first = all_first (ppdu_run ppdu_rows carrier) (ppdu_grows carrier) (ppdu_inside carrier) 4294967295 octets at kind f.is in
    (first.0, f.why, λ k lt. ap of_value (first.1 k lt) ∙ ap (λ (n : ℕ). Err (fault.At k why.Missing n)) (six k (nat_eq k 0)))
  where
    six : (k : ℕ) (b : Bool) → ◌≡◌ {A = ℕ} (if (b && false) then 1 else 6) 6
    six k true = refl
    six k false = refl
