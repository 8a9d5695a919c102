-- The fields of the five APDUs: their rows are in the table, their tags are apart, and they are read as they are spelled.
use Rattle.std.proofs.Common.{◌≡◌, ℕ, zero, suc, ◌+◌, Bool, true, List, length, Ok, Err, refl, sym, ◌∙◌, subst, arith, inl, inr}
use Rattle.std.specs.Prelude.{nat_eq}
use Rattle.osi_base.specs.declared.layer_words.Kind.TheVariants.{Tag}
use Rattle.asn1_types.specs.declared.row.Class.{Class}
use Rattle.asn1_types.specs.declared.row.Class.TheVariants.{Application}
use Rattle.asn1_types.specs.declared.row.TypeRow.{TypeRow}
use Rattle.asn1_types.specs.Rows.{same_class}
use Rattle.asn1_types.specs.Value.{Value, chosen}
use Rattle.ber_spelling.specs.declared.fault.ReadFault.TheVariants as faults
use Rattle.ber_spelling.specs.declared.spot.Scope.{Scope}
use Rattle.ber_spelling.specs.Reading.{Spot, Opened}
use Rattle.ber_spelling.proofs.Identifiers.{IsIn, bind_ok, chosen_ok, ok_is, done}
use Rattle.ber_spelling.proofs.Steady.{ReadAs, Found, ReadBack, Only}
use Rattle.ber_spelling.proofs.Growing.{grown, grown_opened, Grows-bind, Grows-cond, with_spot}
use Rattle.ber_spelling.proofs.Items.{GrowsRun}
use Rattle.ber_spelling.proofs.Inside.{Inside-bind, Inside-cond, second}
use Rattle.ber_spelling.proofs.InsideRules.{InsideRun}
use Rattle.passed_fields.specs.declared.field.Field as known
use Rattle.passed_fields.specs.declared.field.Passed as over
use Rattle.passed_fields.specs.Known.{HaveRows, are_apart}
use Rattle.passed_fields.specs.Reading.{fielded_at}
use Rattle.passed_fields.proofs.FieldsFound.{fields_found}
use Rattle.passed_fields.proofs.FieldsOnly.{fields_only}
use Rattle.passed_fields.proofs.FieldsGrow.{fields_grow}
use Rattle.passed_fields.proofs.FieldsInside.{fields_inside}
use Rattle.acse.specs.Rows.{acse_rows}
use Rattle.acse.specs.Fields.{request_fields, request_passed, response_fields, response_passed, release_fields, release_passed, abort_fields, abort_passed, apdu_tag, apdu_at, of_number, any_apdu_at, FieldsSpelled, OfNumber, AnyApdu}
use Rattle.acse.proofs.Added.{acse_sound}

pub request_rows : (rows : List TypeRow) → length rows ≡ 31 → HaveRows rows request_fields
request_rows rows e = (omega (arith, e), (omega (arith, e), (omega (arith, e), tt)))

pub response_rows : (rows : List TypeRow) → length rows ≡ 31 → HaveRows rows response_fields
response_rows rows e = (omega (arith, e), (omega (arith, e), (omega (arith, e), (omega (arith, e), tt))))

pub release_rows : (rows : List TypeRow) → length rows ≡ 31 → HaveRows rows release_fields
release_rows rows e = (omega (arith, e), tt)

pub abort_rows : (rows : List TypeRow) → length rows ≡ 31 → HaveRows rows abort_fields
abort_rows rows e = (omega (arith, e), (omega (arith, e), tt))

-- ---- what is read is spelled so

apdu_found : (which : ℕ) (fields : List known.Field) (passed : List over.Passed) → ((strict : Bool) (levels : ℕ) (v : Value) (octets : List ℕ) → FieldsSpelled which fields passed strict levels v octets → OfNumber which strict levels v octets)
    → Found (apdu_at acse_rows which fields passed) AnyApdu
apdu_found which fields passed is = record {
  found = λ scope place rest o s v to are opens e.
      let b = bind_ok (fielded_at acse_rows fields passed (apdu_tag which) scope o s) (λ w. Ok (chosen which w.0, w.1)) (v, to) e in
      let same = ok_is {A = Value × Spot} (chosen which b.0.0, b.0.1) (v, to) b.2 in
      let r = (fields_found acse_rows fields passed (apdu_tag which)).found scope place rest o s b.0.0 b.0.1 are opens b.1 in
      subst (λ (y : Value × Spot). ReadAs AnyApdu scope place rest y.0 y.1) same (record { text = r.text; taken = r.taken; spelled = (which, b.0.0, refl, is scope.strict scope.levels b.0.0 r.text r.spelled); is_in = r.is_in });
}

number_found : Found (of_number acse_rows) AnyApdu
number_found = record {
  found = λ scope place rest o s v to are opens e.
      elim (chosen_ok (nat_eq o.number 0) _ _ (v, to) e) [
        | inl t ↦ (apdu_found 0 request_fields request_passed (λ x l w c h. h)).found scope place rest o s v to are opens t.1
        | inr a ↦ elim (chosen_ok (nat_eq o.number 1) _ _ (v, to) a.1) [
          | inl t ↦ (apdu_found 1 response_fields response_passed (λ x l w c h. h)).found scope place rest o s v to are opens t.1
          | inr b ↦ elim (chosen_ok (nat_eq o.number 2) _ _ (v, to) b.1) [
            | inl t ↦ (apdu_found 2 release_fields release_passed (λ x l w c h. h)).found scope place rest o s v to are opens t.1
            | inr c ↦ elim (chosen_ok (nat_eq o.number 3) _ _ (v, to) c.1) [
              | inl t ↦ (apdu_found 3 release_fields release_passed (λ x l w c h. h)).found scope place rest o s v to are opens t.1
              | inr d ↦ elim (chosen_ok (nat_eq o.number 4) _ _ (v, to) d.1) [
                | inl t ↦ (apdu_found 4 abort_fields abort_passed (λ x l w c h. h)).found scope place rest o s v to are opens t.1
                | inr f ↦ absurd (let wrong : Err (faults.NotSpelled o.start.place Tag) ≡ done {A = Value × Spot} (v, to) = f.1 in cc)
              ]
            ]
          ]
        ]
      ];
}

pub any_apdu_found : Found (any_apdu_at acse_rows) AnyApdu
unfolding any_apdu_at
any_apdu_found = record {
  found = λ scope place rest o s v to are opens e.
      elim (chosen_ok (same_class o.class Application) _ _ (v, to) e) [
        | inl t ↦ number_found.found scope place rest o s v to are opens t.1
        | inr t ↦ absurd (let wrong : Err (faults.NotSpelled o.start.place Tag) ≡ done {A = Value × Spot} (v, to) = t.1 in cc)
      ];
}

-- ---- what is spelled so is read

abbrev pub Whatever : Class → ℕ → Type 0
Whatever class number = Unit {0}

-- an identifier of this number is read so
abbrev ReadsNumber : ℕ → List known.Field → List over.Passed → Type 0
ReadsNumber which fields passed = (o : Opened) → o.class ≡ Application → o.number ≡ which → (scope : Scope) (s : Spot) → any_apdu_at acse_rows scope o s ≡ apdu_at acse_rows which fields passed scope o s

apdu_back : (which : ℕ) (fields : List known.Field) (passed : List over.Passed) → are_apart fields passed ≡ true → ReadsNumber which fields passed → (scope : Scope) (place : ℕ) (v : Value) (text rest : List ℕ) → FieldsSpelled which fields passed scope.strict scope.levels v text
    → IsIn scope (place + length text) → ReadBack Whatever (any_apdu_at acse_rows) scope place text rest (chosen which v)
apdu_back which fields passed apart reads scope place v text rest p here =
    let r = (fields_only acse_rows acse_sound fields passed apart (apdu_tag which) refl).only scope place v text rest p here in
    let way = reads r.opened r.allowed.0 r.allowed.1 scope r.spot in
    record { opened = r.opened; spot = r.spot; first = r.first; others = r.others; begins = r.begins; some = r.some; opens = r.opens; allowed = tt; reads = way ∙ rw (r.reads) refl }

reads_0 : ReadsNumber 0 request_fields request_passed
unfolding any_apdu_at
reads_0 o c n scope s = rw (c, n) refl

reads_1 : ReadsNumber 1 response_fields response_passed
unfolding any_apdu_at
reads_1 o c n scope s = rw (c, n) refl

reads_2 : ReadsNumber 2 release_fields release_passed
unfolding any_apdu_at
reads_2 o c n scope s = rw (c, n) refl

reads_3 : ReadsNumber 3 release_fields release_passed
unfolding any_apdu_at
reads_3 o c n scope s = rw (c, n) refl

reads_4 : ReadsNumber 4 abort_fields abort_passed
unfolding any_apdu_at
reads_4 o c n scope s = rw (c, n) refl

number_back : (which : ℕ) (scope : Scope) (place : ℕ) (v : Value) (text rest : List ℕ) → OfNumber which scope.strict scope.levels v text → IsIn scope (place + length text) → ReadBack Whatever (any_apdu_at acse_rows) scope place text rest (chosen which v)
number_back zero scope place v text rest p here = apdu_back 0 request_fields request_passed refl reads_0 scope place v text rest p here
number_back (suc zero) scope place v text rest p here = apdu_back 1 response_fields response_passed refl reads_1 scope place v text rest p here
number_back (suc (suc zero)) scope place v text rest p here = apdu_back 2 release_fields release_passed refl reads_2 scope place v text rest p here
number_back (suc (suc (suc zero))) scope place v text rest p here = apdu_back 3 release_fields release_passed refl reads_3 scope place v text rest p here
number_back (suc (suc (suc (suc zero)))) scope place v text rest p here = apdu_back 4 abort_fields abort_passed refl reads_4 scope place v text rest p here
number_back (suc (suc (suc (suc (suc more))))) scope place v text rest p here = absurd p

pub any_apdu_only : Only Whatever (any_apdu_at acse_rows) AnyApdu
any_apdu_only = record {
  only = λ scope place v text rest p here.
      subst (λ (w : Value). ReadBack Whatever (any_apdu_at acse_rows) scope place text rest w) (sym p.2) (number_back p.0 scope place p.1 text rest p.3 here);
}

-- ---- it stays so, inside the octets

apdu_grows : (which : ℕ) (fields : List known.Field) (passed : List over.Passed) → GrowsRun (apdu_at acse_rows which fields passed)
apdu_grows which fields passed = record {
  grows = λ scope o s more.
      Grows-bind (with_spot more) (with_spot more) (fielded_at acse_rows fields passed (apdu_tag which) scope o s) (fielded_at acse_rows fields passed (apdu_tag which) scope (grown_opened more o) (grown more s)) _ _ ((fields_grow acse_rows fields passed (apdu_tag which)).grows scope o s more) (λ v e. refl);
}

pub any_apdu_grows : GrowsRun (any_apdu_at acse_rows)
unfolding any_apdu_at
any_apdu_grows = record {
  grows = λ scope o s more.
      Grows-cond (with_spot more) (same_class o.class Application) _ _ _ _
      (λ t. Grows-cond (with_spot more) (nat_eq o.number 0) _ _ _ _ (λ u. (apdu_grows 0 request_fields request_passed).grows scope o s more) (λ u.
      Grows-cond (with_spot more) (nat_eq o.number 1) _ _ _ _ (λ u. (apdu_grows 1 response_fields response_passed).grows scope o s more) (λ u.
      Grows-cond (with_spot more) (nat_eq o.number 2) _ _ _ _ (λ u. (apdu_grows 2 release_fields release_passed).grows scope o s more) (λ u.
      Grows-cond (with_spot more) (nat_eq o.number 3) _ _ _ _ (λ u. (apdu_grows 3 release_fields release_passed).grows scope o s more) (λ u.
      Grows-cond (with_spot more) (nat_eq o.number 4) _ _ _ _ (λ u. (apdu_grows 4 abort_fields abort_passed).grows scope o s more) (λ u. refl))))))
      (λ t. refl);
}

apdu_inside : (which : ℕ) (fields : List known.Field) (passed : List over.Passed) → InsideRun (apdu_at acse_rows which fields passed)
apdu_inside which fields passed = record {
  each = λ end scope o s le e. Inside-bind (second end) (second end) end (fielded_at acse_rows fields passed (apdu_tag which) scope o s) _ ((fields_inside acse_rows fields passed (apdu_tag which)).each end scope o s le e) (λ v k. k);
}

pub any_apdu_inside : InsideRun (any_apdu_at acse_rows)
unfolding any_apdu_at
any_apdu_inside = record {
  each = λ end scope o s le e.
      Inside-cond (second end) end (same_class o.class Application) _ _
      (λ t. Inside-cond (second end) end (nat_eq o.number 0) _ _ (λ u. (apdu_inside 0 request_fields request_passed).each end scope o s le e) (λ u.
      Inside-cond (second end) end (nat_eq o.number 1) _ _ (λ u. (apdu_inside 1 response_fields response_passed).each end scope o s le e) (λ u.
      Inside-cond (second end) end (nat_eq o.number 2) _ _ (λ u. (apdu_inside 2 release_fields release_passed).each end scope o s le e) (λ u.
      Inside-cond (second end) end (nat_eq o.number 3) _ _ (λ u. (apdu_inside 3 release_fields release_passed).each end scope o s le e) (λ u.
      Inside-cond (second end) end (nat_eq o.number 4) _ _ (λ u. (apdu_inside 4 abort_fields abort_passed).each end scope o s le e) (λ u. le))))))
      (λ t. le);
}
