-- What is written is spelled so; so it is read back.
use Rattle.std.proofs.Common.{◌≡◌, ℕ, ◌+◌, ◌*◌, ◌/◌, ◌%◌, ◌<◌, ◌≤◌, ◌==◌, Bool, true, false, cond, List, [], ◌∷◌, ◌++◌, length, Option, Some, None, refl, sym, ap, subst, ◌∙◌, append_assoc, inl, inr, arith}
use Rattle.std.specs.Prelude.{◌⊎◌, IfSome, nat_le}
use Rattle.std.specs.Option.{option_map}
use Rattle.std.proofs.lemmas.Bool.{le-leb, lt-leb, cases_lt}
use Rattle.std.proofs.lemmas.List.{append-nil, length-append}
use Rattle.osi_base.specs.declared.session_word.SessionConnect.{SessionConnect}
use Rattle.osi_base.specs.declared.session_word.SessionWord.{SessionWord}
use Rattle.osi_base.specs.declared.session_word.SessionWord.TheVariants as words
use Rattle.osi_base.specs.Limits.{last_serial}
use Rattle.spdu_codec.specs.declared.kind.SpduKind.{SpduKind}
use Rattle.spdu_codec.specs.declared.kind.SpduKind.TheVariants as kinds
use Rattle.spdu_codec.specs.declared.parameters.Slot.{Slot}
use Rattle.spdu_codec.specs.declared.parameters.Slot.TheVariants.{Identifier, ConnectItem, AcceptItem, Linking, CallingReference, CommonReference, Options, Version, Initial, TokenSetting, Requirements, CallingSelector, CalledSelector, ConnectData, ExtendedData, UserData, Transport, RefuseReason, ActivityReason, Tokens, ResyncType, Number, Activity, OldActivity, OldMark}
use Rattle.spdu_codec.specs.declared.parameters.Parameters.{Parameters}
use Rattle.spdu_codec.specs.Tables.{row_of, first_units, second_units, parameters_of}
use Rattle.spdu_codec.specs.Values.{number_of}
use Rattle.spdu_codec.specs.Parameters.{none_yet, is_free, put, put_number, with_value, refusal}
use Rattle.spdu_codec.specs.Words.{word_of, has_information, leads}
use Rattle.spdu_codec.specs.Wire.{AllPut, ItemPut, ParameterPut, IsUnit, IsLast, IsFront, AreUnits}
use Rattle.spdu_codec.specs.Written.{written_length, coded, spelled, optional, group, octet, pair, numeral, mark_numeral, connect_data, identifier_items, connect_items, accept_items, reason_value, connection_parameters, parameters_written, code_written, information_written, unit_written, units_written, IsNumber, IsRefusal, Fits, stands_alone, stands_first, stands_second, AreWritable}
use Rattle.spdu_codec.proofs.NumeralLaws.{number_again, mark_again}
use Rattle.spdu_codec.proofs.SpellingLaws.{spelled-append}
use Rattle.spdu_codec.proofs.PutLaws.{puts-append, one_puts, value_puts, octets_puts, leaf, nonempty, group_puts, no_value, no_octets, coded_is, spelled_are}

-- what the parameters of a kind of unit make
abbrev Made : SpduKind → List (ℕ × List ℕ) → Parameters → Type 0
Made kind ps q = AllPut ParameterPut (parameters_of kind) ps none_yet q

-- a number in digits is put in
number_put : (slot : Slot) (n : ℕ) (p q : Parameters) → ((v : List ℕ) → put slot v p ≡ with_value (number_of v) (λ m. put_number slot m p)) → IsNumber n → put_number slot n p ≡ Some q → put slot (numeral n) p ≡ Some q
number_put slot n p q is h e = is (numeral n) ∙ ap (λ o. with_value o (λ m. put_number slot m p)) (number_again n h.0 h.1) ∙ e

pair_back : (n : ℕ) → 256 * (n / 256) + n % 256 ≡ n
pair_back n = omega arith

abbrev some : Parameters → Option Parameters
some p = Some p

-- ---- units with a number, or with one octet, or with user data

number_made : (kind : SpduKind) (n : ℕ) (p : Parameters) → row_of 42 (parameters_of kind) ≡ Some Number → is_free Number p ≡ true → IsNumber n
    → AllPut ParameterPut (parameters_of kind) ((42, numeral n) ∷ []) p (record p { number = Some n })
number_made kind n p row free_now h =
    one_puts ParameterPut (parameters_of kind) 42 Number (numeral n) p (record p { number = Some n }) row free_now
    (leaf Number (numeral n) p (record p { number = Some n }) refl (number_put Number n p (record p { number = Some n }) (λ v. refl) h refl))

user_made : (kind : SpduKind) (o : Option (List ℕ)) (p : Parameters) → row_of 193 (parameters_of kind) ≡ Some UserData → is_free UserData p ≡ true → p ≡ record p { user = None }
    → AllPut ParameterPut (parameters_of kind) (optional 193 o) p (record p { user = o })
user_made kind o p row free_now same =
    octets_puts ParameterPut (parameters_of kind) 193 UserData o p (λ u. record p { user = u }) row free_now same (λ v _. leaf UserData v p (record p { user = Some v }) refl refl)

transport_made : (kind : SpduKind) (o : Option ℕ) (p : Parameters) → row_of 17 (parameters_of kind) ≡ Some Transport → is_free Transport p ≡ true → p ≡ record p { transport = None }
    → AllPut ParameterPut (parameters_of kind) (optional 17 (option_map octet o)) p (record p { transport = o })
transport_made kind o p row free_now same =
    value_puts octet ParameterPut (parameters_of kind) 17 Transport o p (λ t. record p { transport = t }) row free_now same (λ x _. leaf Transport (octet x) p (record p { transport = Some x }) refl refl)

tokens_made : (kind : SpduKind) (o : Option ℕ) (p : Parameters) → row_of 16 (parameters_of kind) ≡ Some Tokens → is_free Tokens p ≡ true → p ≡ record p { tokens = None }
    → AllPut ParameterPut (parameters_of kind) (optional 16 (option_map octet o)) p (record p { tokens = o })
tokens_made kind o p row free_now same =
    value_puts octet ParameterPut (parameters_of kind) 16 Tokens o p (λ t. record p { tokens = t }) row free_now same (λ x _. leaf Tokens (octet x) p (record p { tokens = Some x }) refl refl)

reason_made : (kind : SpduKind) (o : Option ℕ) (p : Parameters) → row_of 50 (parameters_of kind) ≡ Some ActivityReason → is_free ActivityReason p ≡ true → p ≡ record p { reason = None }
    → AllPut ParameterPut (parameters_of kind) (optional 50 (option_map octet o)) p (record p { reason = o })
reason_made kind o p row free_now same =
    value_puts octet ParameterPut (parameters_of kind) 50 ActivityReason o p (λ t. record p { reason = t }) row free_now same (λ x _. leaf ActivityReason (octet x) p (record p { reason = Some x }) refl refl)

requirements_made : (kind : SpduKind) (o : Option ℕ) (p : Parameters) → row_of 20 (parameters_of kind) ≡ Some Requirements → is_free Requirements p ≡ true → p ≡ record p { requirements = None }
    → AllPut ParameterPut (parameters_of kind) (optional 20 (option_map pair o)) p (record p { requirements = o })
requirements_made kind o p row free_now same =
    value_puts pair ParameterPut (parameters_of kind) 20 Requirements o p (λ t. record p { requirements = t }) row free_now same
    (λ x _. leaf Requirements (pair x) p (record p { requirements = Some x }) refl (ap (λ n. some (record p { requirements = Some n })) (pair_back x)))

-- user data that must stand
data_made : (kind : SpduKind) (v : List ℕ) (p : Parameters) → row_of 193 (parameters_of kind) ≡ Some UserData → is_free UserData p ≡ true
    → AllPut ParameterPut (parameters_of kind) ((193, v) ∷ []) p (record p { user = Some v })
data_made kind v p row free_now = one_puts ParameterPut (parameters_of kind) 193 UserData v p (record p { user = Some v }) row free_now (leaf UserData v p (record p { user = Some v }) refl refl)

-- one after the other
then : (kind : SpduKind) (a b : List (ℕ × List ℕ)) (p r q : Parameters) → AllPut ParameterPut (parameters_of kind) a p r → AllPut ParameterPut (parameters_of kind) b r q → AllPut ParameterPut (parameters_of kind) (a ++ b) p q
then kind a b p r q x y = puts-append ParameterPut (parameters_of kind) a b p r q x y

-- ---- CN and AC

-- an item of one octet
octet_item : (table : List (ℕ × Slot)) (code : ℕ) (slot : Slot) (o : Option ℕ) (p : Parameters) (f : Option ℕ → Parameters) → row_of code table ≡ Some slot → is_free slot p ≡ true → p ≡ f None
    → ((x : ℕ) → put slot (octet x) p ≡ Some (f (Some x))) → AllPut ItemPut table (optional code (option_map octet o)) p (f o)
octet_item table code slot o p f row free_now same puts = value_puts octet ItemPut table code slot o p f row free_now same (λ x _. puts x)

initial_item : (table : List (ℕ × Slot)) (o : Option ℕ) (p : Parameters) → row_of 23 table ≡ Some Initial → is_free Initial p ≡ true → p ≡ record p { initial = None } → IfSome o IsNumber
    → AllPut ItemPut table (optional 23 (option_map numeral o)) p (record p { initial = o })
initial_item table o p row free_now same h =
    value_puts numeral ItemPut table 23 Initial o p (λ n. record p { initial = n }) row free_now same
    (λ x e. number_put Initial x p (record p { initial = Some x }) (λ v. refl) (subst (λ (n : Option ℕ). IfSome n IsNumber) e h) refl)

abbrev identifier_table : List (ℕ × Slot)
identifier_table = (10, CallingReference) ∷ (11, CommonReference) ∷ []

abbrev identified : SessionConnect → Bool → Parameters
identified c b = record none_yet { identifier = b; calling_reference = c.calling_reference; common_reference = c.common_reference }

identifier_inside : (c : SessionConnect) → AllPut ItemPut identifier_table (identifier_items c) (record none_yet { identifier = true }) (identified c true)
identifier_inside c =
    let p : Parameters = record none_yet { identifier = true } in
    let r : Parameters = record p { calling_reference = c.calling_reference } in
    puts-append ItemPut identifier_table (optional 10 c.calling_reference) (optional 11 c.common_reference) p r (identified c true)
    (octets_puts ItemPut identifier_table 10 CallingReference c.calling_reference p (λ v. record p { calling_reference = v }) refl refl refl (λ v _. refl))
    (octets_puts ItemPut identifier_table 11 CommonReference c.common_reference r (λ v. record r { common_reference = v }) refl refl refl (λ v _. refl))

abbrev references : Option (List ℕ) → Option (List ℕ) → Parameters
references a b = record none_yet { calling_reference = a; common_reference = b }

identifier_none : (c : SessionConnect) → identifier_items c ≡ [] → none_yet ≡ identified c false
identifier_none c e =
    let a = no_octets 10 c.calling_reference (optional 11 c.common_reference) e in
    let b = no_octets 11 c.common_reference [] (append-nil (optional 11 c.common_reference) ∙ a.1) in
    ap (λ (o : Option (List ℕ)). references o None) (sym a.0) ∙ ap (λ (o : Option (List ℕ)). references c.calling_reference o) (sym b.0)

identifier_made : (c : SessionConnect) → length (spelled (identifier_items c)) < 65536 → AllPut ParameterPut (parameters_of kinds.Connect) (group 1 (identifier_items c)) none_yet (identified c (nonempty (identifier_items c)))
identifier_made c lt =
    group_puts (parameters_of kinds.Connect) identifier_table 1 Identifier (identifier_items c) none_yet (record none_yet { identifier = true }) (identified c) refl refl refl (λ v. refl) lt (identifier_inside c) (identifier_none c)

abbrev connect_table : List (ℕ × Slot)
connect_table = (19, Options) ∷ (22, Version) ∷ (23, Initial) ∷ (26, TokenSetting) ∷ []

abbrev accept_table : List (ℕ × Slot)
accept_table = (19, Options) ∷ (22, Version) ∷ (23, Initial) ∷ []

-- what the connect/accept item adds
abbrev item_of : Parameters → Bool → Option ℕ → Option ℕ → Option ℕ → Option ℕ → Parameters
item_of p b options version initial setting = record p { connect_item = b; options = options; version = version; initial = initial; token_setting = setting }

abbrev connected : SessionConnect → Bool → Bool → Parameters
connected c a b = item_of (identified c a) b c.options c.version c.initial c.token_setting

connect_inside : (c : SessionConnect) (a : Bool) → IfSome c.initial IsNumber → AllPut ItemPut connect_table (connect_items c) (record (identified c a) { connect_item = true }) (connected c a true)
connect_inside c a h =
    let p : Parameters = record (identified c a) { connect_item = true } in
    let q : Parameters = record p { options = c.options } in
    let r : Parameters = record q { version = c.version } in
    let s : Parameters = record r { initial = c.initial } in
    puts-append ItemPut connect_table (optional 19 (option_map octet c.options) ++ optional 22 (option_map octet c.version) ++ optional 23 (option_map numeral c.initial)) (optional 26 (option_map octet c.token_setting)) p s (connected c a true)
    (puts-append ItemPut connect_table (optional 19 (option_map octet c.options) ++ optional 22 (option_map octet c.version)) (optional 23 (option_map numeral c.initial)) p r s
    (puts-append ItemPut connect_table (optional 19 (option_map octet c.options)) (optional 22 (option_map octet c.version)) p q r
    (octet_item connect_table 19 Options c.options p (λ x. record p { options = x }) refl refl refl (λ x. refl))
    (octet_item connect_table 22 Version c.version q (λ x. record q { version = x }) refl refl refl (λ x. refl)))
    (initial_item connect_table c.initial r refl refl refl h))
    (octet_item connect_table 26 TokenSetting c.token_setting s (λ x. record s { token_setting = x }) refl refl refl (λ x. refl))

item_none : (p : Parameters) (options version initial setting : Option ℕ) → optional 19 (option_map octet options) ++ (optional 22 (option_map octet version) ++ (optional 23 (option_map numeral initial) ++ optional 26 (option_map octet setting))) ≡ []
    → item_of p false None None None None ≡ item_of p false options version initial setting
item_none p options version initial setting e =
    let a = no_value octet 19 options (optional 22 (option_map octet version) ++ (optional 23 (option_map numeral initial) ++ optional 26 (option_map octet setting))) e in
    let b = no_value octet 22 version (optional 23 (option_map numeral initial) ++ optional 26 (option_map octet setting)) a.1 in
    let c = no_value numeral 23 initial (optional 26 (option_map octet setting)) b.1 in
    let d = no_value octet 26 setting [] (append-nil (optional 26 (option_map octet setting)) ∙ c.1) in
    ap (λ o. item_of p false o None None None) (sym a.0) ∙ ap (λ o. item_of p false options o None None) (sym b.0)
    ∙ ap (λ o. item_of p false options version o None) (sym c.0) ∙ ap (λ o. item_of p false options version initial o) (sym d.0)

connect_none : (c : SessionConnect) (a : Bool) → connect_items c ≡ [] → identified c a ≡ connected c a false
connect_none c a e =
    let x = optional 19 (option_map octet c.options) in
    let y = optional 22 (option_map octet c.version) in
    let z = optional 23 (option_map numeral c.initial) in
    let w = optional 26 (option_map octet c.token_setting) in
    item_none (identified c a) c.options c.version c.initial c.token_setting (sym (append_assoc (x ++ y) z w ∙ append_assoc x y (z ++ w)) ∙ e)

connect_item_made : (c : SessionConnect) (a : Bool) → IfSome c.initial IsNumber → length (spelled (connect_items c)) < 65536
    → AllPut ParameterPut (parameters_of kinds.Connect) (group 5 (connect_items c)) (identified c a) (connected c a (nonempty (connect_items c)))
connect_item_made c a h lt =
    group_puts (parameters_of kinds.Connect) connect_table 5 ConnectItem (connect_items c) (identified c a) (record (identified c a) { connect_item = true }) (connected c a) refl refl refl (λ v. refl) lt (connect_inside c a h) (connect_none c a)

connect_data_made : (v : List ℕ) (p : Parameters) → is_free ConnectData p ≡ true → is_free ExtendedData p ≡ true → length v ≤ 10240
    → AllPut ParameterPut (parameters_of kinds.Connect) (connect_data v) p (record p { user = Some v })
connect_data_made v p free_now free_too lt =
    elim (cases_lt 512 (length v)) [
      | inl long ↦ (
          let e : nat_le (length v) 512 ≡ false = lt-leb _ _ long in
          let most : nat_le (length v) 10240 ≡ true = le-leb _ _ lt in
          subst (λ (ps : List (ℕ × List ℕ)). AllPut ParameterPut (parameters_of kinds.Connect) ps p (record p { user = Some v })) (ap (λ b. cond b ((193, v) ∷ []) ((194, v) ∷ [])) (sym e))
          (one_puts ParameterPut (parameters_of kinds.Connect) 194 ExtendedData v p (record p { user = Some v }) refl free_too (leaf ExtendedData v p (record p { user = Some v }) refl (ap (λ b. cond b (some (record p { user = Some v })) None) most))))
      | inr short ↦ (
          let e : nat_le (length v) 512 ≡ true = le-leb _ _ short in
          subst (λ (ps : List (ℕ × List ℕ)). AllPut ParameterPut (parameters_of kinds.Connect) ps p (record p { user = Some v })) (ap (λ b. cond b ((193, v) ∷ []) ((194, v) ∷ [])) (sym e))
          (one_puts ParameterPut (parameters_of kinds.Connect) 193 ConnectData v p (record p { user = Some v }) refl free_now (leaf ConnectData v p (record p { user = Some v }) refl (ap (λ b. cond b (some (record p { user = Some v })) None) e))))
    ]

-- ---- each word

-- a kind of unit that means this word, with the parameters that are written
pub record Means (table : List (ℕ × SpduKind)) (alone : Bool) (word : SessionWord) : Type 0 where
  pub kind : SpduKind
  pub found : Parameters
  pub stands : row_of (code_written word) table ≡ Some kind
  pub puts : Made kind (parameters_written word) found
  pub is : word_of kind alone found (information_written word) ≡ Some word
  pub information : (has_information kind ≡ true) ⊎ (information_written word ≡ [])

-- the parts of what a length can tell
front_fits : (a b : List (ℕ × List ℕ)) → length (spelled (a ++ b)) < 65536 → length (spelled a) < 65536
front_fits a b lt = omega (arith, lt, ap length (spelled-append a b), length-append (spelled a) (spelled b))

back_fits : (a b : List (ℕ × List ℕ)) → length (spelled (a ++ b)) < 65536 → length (spelled b) < 65536
back_fits a b lt = omega (arith, lt, ap length (spelled-append a b), length-append (spelled a) (spelled b))

group_fits : (code : ℕ) (items : List (ℕ × List ℕ)) → length (spelled (group code items)) < 65536 → length (spelled items) < 65536
group_fits code [] lt = omega arith
group_fits code (x ∷ xs) lt =
    let v = spelled (x ∷ xs) in
    omega (arith, lt, ap length (append-nil (coded code v)), length-append (code ∷ written_length (length v)) v)

connect_made : (c : SessionConnect) → Fits (words.Connect c) → (q : Parameters) × Made kinds.Connect (connection_parameters (words.Connect c)) q × (word_of kinds.Connect true q [] ≡ Some (words.Connect c))
connect_made c fits =
    let a = nonempty (identifier_items c) in
    let b = nonempty (connect_items c) in
    let all = front_fits (connection_parameters (words.Connect c)) [] fits.size in
    let g1 = group 1 (identifier_items c) in
    let g5 = group 5 (connect_items c) in
    let r = optional 20 (option_map pair c.requirements) in
    let x = optional 51 c.calling in
    let y = optional 52 c.called in
    let u = connect_data c.user in
    let upto_y = front_fits (g1 ++ g5 ++ r ++ x ++ y) u all in
    let upto_x = front_fits (g1 ++ g5 ++ r ++ x) y upto_y in
    let upto_r = front_fits (g1 ++ g5 ++ r) x upto_x in
    let groups = front_fits (g1 ++ g5) r upto_r in
    let p1 : Parameters = identified c a in
    let p2 : Parameters = connected c a b in
    let p3 : Parameters = record p2 { requirements = c.requirements } in
    let p4 : Parameters = record p3 { calling = c.calling } in
    let p5 : Parameters = record p4 { called = c.called } in
    let p6 : Parameters = record p5 { user = Some c.user } in
    let k = kinds.Connect in (
      p6,
      then k (g1 ++ g5 ++ r ++ x ++ y) u none_yet p5 p6
          (then k (g1 ++ g5 ++ r ++ x) y none_yet p4 p5
          (then k (g1 ++ g5 ++ r) x none_yet p3 p4
          (then k (g1 ++ g5) r none_yet p2 p3
          (then k g1 g5 none_yet p1 p2 (identifier_made c (group_fits 1 (identifier_items c) (front_fits g1 g5 groups))) (connect_item_made c a fits.fields.0 (group_fits 5 (connect_items c) (back_fits g1 g5 groups))))
          (requirements_made k c.requirements p2 refl refl refl))
          (octets_puts ParameterPut (parameters_of k) 51 CallingSelector c.calling p3 (λ v. record p3 { calling = v }) refl refl refl (λ v _. leaf CallingSelector v p3 (record p3 { calling = Some v }) refl refl)))
          (octets_puts ParameterPut (parameters_of k) 52 CalledSelector c.called p4 (λ v. record p4 { called = v }) refl refl refl (λ v _. leaf CalledSelector v p4 (record p4 { called = Some v }) refl refl)))
          (connect_data_made c.user p5 refl refl fits.fields.1),
      refl,
    )

accept_inside : (options version initial : Option ℕ) → IfSome initial IsNumber → AllPut ItemPut accept_table (accept_items options version initial) (record none_yet { connect_item = true }) (item_of none_yet true options version initial None)
accept_inside options version initial h =
    let p : Parameters = record none_yet { connect_item = true } in
    let q : Parameters = record p { options = options } in
    let r : Parameters = record q { version = version } in
    puts-append ItemPut accept_table (optional 19 (option_map octet options) ++ optional 22 (option_map octet version)) (optional 23 (option_map numeral initial)) p r (item_of none_yet true options version initial None)
    (puts-append ItemPut accept_table (optional 19 (option_map octet options)) (optional 22 (option_map octet version)) p q r
    (octet_item accept_table 19 Options options p (λ x. record p { options = x }) refl refl refl (λ x. refl))
    (octet_item accept_table 22 Version version q (λ x. record q { version = x }) refl refl refl (λ x. refl)))
    (initial_item accept_table initial r refl refl refl h)

accept_none : (options version initial : Option ℕ) → accept_items options version initial ≡ [] → none_yet ≡ item_of none_yet false options version initial None
accept_none options version initial e =
    let x = optional 19 (option_map octet options) in
    let y = optional 22 (option_map octet version) in
    let z = optional 23 (option_map numeral initial) in
    item_none none_yet options version initial None (ap (λ (l : List (ℕ × List ℕ)). x ++ (y ++ l)) (append-nil z) ∙ sym (append_assoc x y z) ∙ e)

accept_made : (options version initial requirements : Option ℕ) (user : List ℕ) → Fits (words.Accept options version initial requirements user)
    → (q : Parameters) × Made kinds.Accept (connection_parameters (words.Accept options version initial requirements user)) q × (word_of kinds.Accept true q [] ≡ Some (words.Accept options version initial requirements user))
accept_made options version initial requirements user fits =
    let k = kinds.Accept in
    let items = accept_items options version initial in
    let g5 = group 5 items in
    let r = optional 20 (option_map pair requirements) in
    let u : List (ℕ × List ℕ) = (193, user) ∷ [] in
    let all = front_fits (g5 ++ r ++ u) [] fits.size in
    let groups = front_fits g5 r (front_fits (g5 ++ r) u all) in
    let p1 : Parameters = item_of none_yet (nonempty items) options version initial None in
    let p2 : Parameters = record p1 { requirements = requirements } in
    let p3 : Parameters = record p2 { user = Some user } in (
      p3,
      then k (g5 ++ r) u none_yet p2 p3
          (then k g5 r none_yet p1 p2
          (group_puts (parameters_of k) accept_table 5 AcceptItem items none_yet (record none_yet { connect_item = true }) (λ b. item_of none_yet b options version initial None) refl refl refl (λ v. refl)
          (group_fits 5 items groups) (accept_inside options version initial fits.fields) (accept_none options version initial))
          (requirements_made k requirements p1 refl refl refl))
          (data_made k user p2 refl refl),
      refl,
    )

-- a reason for refusing, behind the other parameter
refuse_reason : (reason : Option ℕ) (user : Option (List ℕ)) (p : Parameters) → is_free RefuseReason p ≡ true → p ≡ record p { reason = None; user = None } → IsRefusal reason user
    → AllPut ParameterPut (parameters_of kinds.Refuse) (optional 50 (option_map (reason_value user) reason)) p (record p { reason = reason; user = user })
refuse_reason None None p free_now same h = same
refuse_reason None (Some user) p free_now same h = absurd h
refuse_reason (Some code) None p free_now same h =
    one_puts ParameterPut (parameters_of kinds.Refuse) 50 RefuseReason (code ∷ []) p (record p { reason = Some code; user = None }) refl free_now (leaf RefuseReason (code ∷ []) p (record p { reason = Some code; user = None }) refl refl)
refuse_reason (Some code) (Some []) p free_now same h = absurd (let lt = h.1 in omega arith)
refuse_reason (Some code) (Some (x ∷ xs)) p free_now same h =
    one_puts ParameterPut (parameters_of kinds.Refuse) 50 RefuseReason (code ∷ x ∷ xs) p (record p { reason = Some code; user = Some (x ∷ xs) }) refl free_now
    (leaf RefuseReason (code ∷ x ∷ xs) p (record p { reason = Some code; user = Some (x ∷ xs) }) refl
    (ap (λ u. some (record p { reason = Some code; user = u })) (subst (λ (c : ℕ). refusal c (x ∷ xs) ≡ Some (x ∷ xs)) (sym h.0) refl)))

-- parameters with nothing behind them
whole : (kind : SpduKind) (ps : List (ℕ × List ℕ)) (q : Parameters) → Made kind ps q → Made kind (ps ++ []) q
whole kind ps q m = subst (λ (l : List (ℕ × List ℕ)). Made kind l q) (sym (append-nil ps)) m

alone_means : (w : SessionWord) → stands_alone w ≡ true → Fits w → Means first_units true w
alone_means (words.Connect c) e fits =
    let m = connect_made c fits in
    record { kind = kinds.Connect; found = m.0; stands = refl; puts = whole kinds.Connect (connection_parameters (words.Connect c)) m.0 m.1; is = m.2; information = inr refl }
alone_means (words.Accept options version initial requirements user) e fits =
    let m = accept_made options version initial requirements user fits in
    record { kind = kinds.Accept; found = m.0; stands = refl; puts = whole kinds.Accept (connection_parameters (words.Accept options version initial requirements user)) m.0 m.1; is = m.2; information = inr refl }
alone_means (words.Refuse transport reason user) e fits =
    let k = kinds.Refuse in
    let p : Parameters = record none_yet { transport = transport } in
    let q : Parameters = record p { reason = reason; user = user } in
    record {
      kind = k;
      found = q;
      stands = refl;
      puts = whole k (connection_parameters (words.Refuse transport reason user)) q
          (then k (optional 17 (option_map octet transport)) (optional 50 (option_map (reason_value user) reason)) none_yet p q (transport_made k transport none_yet refl refl refl) (refuse_reason reason user p refl refl fits.fields));
      is = refl;
      information = inr refl;
    }
alone_means (words.Finish transport user) e fits =
    let k = kinds.Finish in
    let p : Parameters = record none_yet { transport = transport } in
    let q : Parameters = record p { user = Some user } in
    record {
      kind = k;
      found = q;
      stands = refl;
      puts = whole k (connection_parameters (words.Finish transport user)) q (then k (optional 17 (option_map octet transport)) ((193, user) ∷ []) none_yet p q (transport_made k transport none_yet refl refl refl) (data_made k user p refl refl));
      is = refl;
      information = inr refl;
    }
alone_means (words.Disconnect user) e fits =
    record { kind = kinds.Disconnect; found = record none_yet { user = Some user }; stands = refl; puts = data_made kinds.Disconnect user none_yet refl refl; is = refl; information = inr refl }
alone_means (words.Abort transport user) e fits =
    let k = kinds.Abort in
    let p : Parameters = record none_yet { transport = transport } in
    let q : Parameters = record p { user = user } in
    record {
      kind = k;
      found = q;
      stands = refl;
      puts = whole k (connection_parameters (words.Abort transport user)) q (then k (optional 17 (option_map octet transport)) (optional 193 user) none_yet p q (transport_made k transport none_yet refl refl refl) (user_made k user p refl refl refl));
      is = refl;
      information = inr refl;
    }
alone_means words.AbortAccept e fits = record { kind = kinds.AbortAccept; found = none_yet; stands = refl; puts = refl; is = refl; information = inr refl }
alone_means (words.GiveTokens None) e fits = absurd cc
alone_means (words.GiveTokens (Some x)) e fits =
    record { kind = kinds.GiveTokens; found = record none_yet { tokens = Some x }; stands = refl; puts = tokens_made kinds.GiveTokens (Some x) none_yet refl refl refl; is = refl; information = inr refl }
alone_means (words.PleaseTokens None user) e fits = absurd cc
alone_means (words.PleaseTokens (Some x) user) e fits =
    let k = kinds.PleaseTokens in
    let p : Parameters = record none_yet { tokens = Some x } in
    let q : Parameters = record p { user = user } in
    record {
      kind = k;
      found = q;
      stands = refl;
      puts = whole k (connection_parameters (words.PleaseTokens (Some x) user)) q (then k (optional 16 (option_map octet (Some x))) (optional 193 user) none_yet p q (tokens_made k (Some x) none_yet refl refl refl) (user_made k user p refl refl refl));
      is = refl;
      information = inr refl;
    }
alone_means words.GiveTokensConfirm e fits = record { kind = kinds.GiveTokensConfirm; found = none_yet; stands = refl; puts = refl; is = refl; information = inr refl }
alone_means words.GiveTokensAck e fits = record { kind = kinds.GiveTokensAck; found = none_yet; stands = refl; puts = refl; is = refl; information = inr refl }
alone_means (words.TypedData user) e fits = record { kind = kinds.TypedData; found = none_yet; stands = refl; puts = refl; is = refl; information = inl refl }
alone_means _ e fits = absurd cc

first_means : (w : SessionWord) → stands_first w ≡ true → Fits w → (m : Means first_units false w) × (leads m.kind ≡ true) × (information_written w ≡ [])
first_means (words.GiveTokens tokens) e fits = (
  record {
    kind = kinds.GiveTokens;
    found = record none_yet { tokens = tokens };
    stands = refl;
    puts = whole kinds.GiveTokens (connection_parameters (words.GiveTokens tokens)) (record none_yet { tokens = tokens }) (tokens_made kinds.GiveTokens tokens none_yet refl refl refl);
    is = refl;
    information = inr refl;
  },
  refl,
  refl,
)
first_means (words.PleaseTokens tokens user) e fits =
    let k = kinds.PleaseTokens in
    let p : Parameters = record none_yet { tokens = tokens } in
    let q : Parameters = record p { user = user } in (
      record {
        kind = k;
        found = q;
        stands = refl;
        puts = whole k (connection_parameters (words.PleaseTokens tokens user)) q (then k (optional 16 (option_map octet tokens)) (optional 193 user) none_yet p q (tokens_made k tokens none_yet refl refl refl) (user_made k user p refl refl refl));
        is = refl;
        information = inr refl;
      },
      refl,
      refl,
    )
first_means _ e fits = absurd cc

abbrev linking_table : List (ℕ × Slot)
linking_table = (41, OldActivity) ∷ (42, OldMark) ∷ []

same_number : (n : ℕ) → (n == n) ≡ true
same_number n = grind arith

abbrev linked : ℕ → ℕ → Parameters
linked activity mark = record none_yet { linking = true; old_activity = Some activity; old_mark = Some mark }

linking_inside : (activity mark : ℕ) → IsNumber activity → mark ≤ last_serial → AllPut ItemPut linking_table ((41, numeral activity) ∷ (42, mark_numeral mark) ∷ []) (record none_yet { linking = true }) (linked activity mark)
linking_inside activity mark h le =
    let p : Parameters = record none_yet { linking = true } in
    let q : Parameters = record p { old_activity = Some activity } in
    puts-append ItemPut linking_table ((41, numeral activity) ∷ []) ((42, mark_numeral mark) ∷ []) p q (linked activity mark)
    (one_puts ItemPut linking_table 41 OldActivity (numeral activity) p q refl refl (number_put OldActivity activity p q (λ v. refl) h refl))
    (one_puts ItemPut linking_table 42 OldMark (mark_numeral mark) q (linked activity mark) refl refl (ap (λ o. with_value o (λ n. Some (record q { old_mark = Some n }))) (mark_again mark le)))

resume_made : (activity mark : ℕ) → Fits (words.ActivityResume activity mark) → Made kinds.ActivityResume (parameters_written (words.ActivityResume activity mark)) (record (linked activity mark) { activity = Some activity })
resume_made activity mark fits =
    let k = kinds.ActivityResume in
    let items : List (ℕ × List ℕ) = (41, numeral activity) ∷ (42, mark_numeral mark) ∷ [] in
    let p = linked activity mark in
    let m : Parameters = record none_yet { linking = true } in
    let last : List (ℕ × List ℕ) = (41, numeral activity) ∷ [] in
    let size = group_fits 33 items (front_fits (group 33 items) last fits.size) in
    then k (group 33 items) last none_yet p (record p { activity = Some activity })
    (one_puts ParameterPut (parameters_of k) 33 Linking (spelled items) none_yet p refl refl (m, refl, (items, spelled_are items size, linking_inside activity mark fits.fields.0 fits.fields.1)))
    (one_puts ParameterPut (parameters_of k) 41 Activity (numeral activity) p (record p { activity = Some activity }) refl refl
    (leaf Activity (numeral activity) p (record p { activity = Some activity }) refl
    (number_put Activity activity p (record p { activity = Some activity }) (λ v. refl) fits.fields.0 (ap (λ b. cond b (some (record p { activity = Some activity })) None) (same_number activity)))))

second_means : (w : SessionWord) → stands_second w ≡ true → Fits w → Means second_units true w
second_means (words.TypedData user) e fits = record { kind = kinds.TypedData; found = none_yet; stands = refl; puts = refl; is = refl; information = inl refl }
second_means (words.Data user) e fits = record { kind = kinds.Data; found = none_yet; stands = refl; puts = refl; is = refl; information = inl refl }
second_means (words.Mark n) e fits =
    record { kind = kinds.Mark; found = record none_yet { number = Some n }; stands = refl; puts = number_made kinds.Mark n none_yet refl refl fits.fields; is = refl; information = inr refl }
second_means (words.MarkAck n) e fits =
    record { kind = kinds.MarkAck; found = record none_yet { number = Some n }; stands = refl; puts = number_made kinds.MarkAck n none_yet refl refl fits.fields; is = refl; information = inr refl }
second_means (words.Resynchronize n user) e fits =
    let k = kinds.Resynchronize in
    let p : Parameters = record none_yet { resync = true } in
    let q : Parameters = record p { number = Some n } in
    let r : Parameters = record q { user = user } in
    record {
      kind = k;
      found = r;
      stands = refl;
      puts = then k ((27, 0 ∷ []) ∷ []) ((42, numeral n) ∷ optional 193 user) none_yet p r
          (one_puts ParameterPut (parameters_of k) 27 ResyncType (0 ∷ []) none_yet p refl refl (leaf ResyncType (0 ∷ []) none_yet p refl refl))
          (then k ((42, numeral n) ∷ []) (optional 193 user) p q r (number_made k n p refl refl fits.fields) (user_made k user q refl refl refl));
      is = refl;
      information = inr refl;
    }
second_means (words.ResynchronizeAck n user) e fits =
    let k = kinds.ResynchronizeAck in
    let q : Parameters = record none_yet { number = Some n } in
    let r : Parameters = record q { user = user } in
    record {
      kind = k;
      found = r;
      stands = refl;
      puts = then k ((42, numeral n) ∷ []) (optional 193 user) none_yet q r (number_made k n none_yet refl refl fits.fields) (user_made k user q refl refl refl);
      is = refl;
      information = inr refl;
    }
second_means (words.ActivityStart n) e fits =
    let q : Parameters = record none_yet { activity = Some n } in
    record {
      kind = kinds.ActivityStart;
      found = q;
      stands = refl;
      puts = one_puts ParameterPut (parameters_of kinds.ActivityStart) 41 Activity (numeral n) none_yet q refl refl (leaf Activity (numeral n) none_yet q refl (number_put Activity n none_yet q (λ v. refl) fits.fields refl));
      is = refl;
      information = inr refl;
    }
second_means (words.ActivityResume activity mark) e fits =
    record { kind = kinds.ActivityResume; found = record (linked activity mark) { activity = Some activity }; stands = refl; puts = resume_made activity mark fits; is = refl; information = inr refl }
second_means (words.ActivityInterrupt reason) e fits =
    record { kind = kinds.ActivityInterrupt; found = record none_yet { reason = reason }; stands = refl; puts = reason_made kinds.ActivityInterrupt reason none_yet refl refl refl; is = refl; information = inr refl }
second_means words.ActivityInterruptAck e fits = record { kind = kinds.ActivityInterruptAck; found = none_yet; stands = refl; puts = refl; is = refl; information = inr refl }
second_means (words.ActivityDiscard reason) e fits =
    record { kind = kinds.ActivityDiscard; found = record none_yet { reason = reason }; stands = refl; puts = reason_made kinds.ActivityDiscard reason none_yet refl refl refl; is = refl; information = inr refl }
second_means words.ActivityDiscardAck e fits = record { kind = kinds.ActivityDiscardAck; found = none_yet; stands = refl; puts = refl; is = refl; information = inr refl }
second_means (words.ActivityEnd n) e fits =
    record { kind = kinds.ActivityEnd; found = record none_yet { number = Some n }; stands = refl; puts = number_made kinds.ActivityEnd n none_yet refl refl fits.fields; is = refl; information = inr refl }
second_means (words.ActivityEndAck n) e fits =
    record { kind = kinds.ActivityEndAck; found = record none_yet { number = Some n }; stands = refl; puts = number_made kinds.ActivityEndAck n none_yet refl refl fits.fields; is = refl; information = inr refl }
second_means _ e fits = absurd cc

-- ---- whole transport units

unit_is : (table : List (ℕ × SpduKind)) (alone : Bool) (w : SessionWord) → Fits w → (m : Means table alone w) → IsUnit table m.kind m.found (coded (code_written w) (spelled (parameters_written w)))
unit_is table alone w fits m = record {
  code = code_written w;
  value = spelled (parameters_written w);
  parameters = parameters_written w;
  stands = m.stands;
  coded = coded_is (code_written w) (spelled (parameters_written w)) fits.size;
  spelled = spelled_are (parameters_written w) fits.size;
  puts = m.puts;
}

last_is : (table : List (ℕ × SpduKind)) (w : SessionWord) → Fits w → Means table true w → IsLast table w (unit_written w)
last_is table w fits m = record {
  kind = m.kind;
  found = m.found;
  unit = coded (code_written w) (spelled (parameters_written w));
  behind = information_written w;
  is = unit_is table true w fits m;
  parts = refl;
  information = m.information;
  means = m.is;
}

-- what is written is spelled so
pub written_are : (ws : List SessionWord) → AreWritable ws → AreUnits ws (units_written ws)
written_are [] h = absurd h
written_are (w ∷ []) h = subst (λ (l : List ℕ). IsLast first_units w l) (sym (append-nil (unit_written w))) (last_is first_units w h.1 (alone_means w h.0 h.1))
written_are (w ∷ v ∷ []) h =
    let f = first_means w h.0 h.1 in
    let m = f.0 in
    let unit = coded (code_written w) (spelled (parameters_written w)) in
    let front : IsFront w unit = record { kind = m.kind; found = m.found; is = unit_is first_units false w h.1 m; leading = f.1; means = ap (word_of m.kind false m.found) (sym f.2) ∙ m.is } in
    let same : unit_written w ≡ unit = ap (λ (l : List ℕ). unit ++ l) f.2 ∙ append-nil unit in
    (unit, unit_written v, front, last_is second_units v h.3 (second_means v h.2 h.3), ap (λ (l : List ℕ). l ++ (unit_written v ++ [])) same ∙ ap (λ (l : List ℕ). unit ++ l) (append-nil (unit_written v)))
written_are (w ∷ v ∷ u ∷ ws) h = absurd h
