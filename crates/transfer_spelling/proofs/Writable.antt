-- What is transferred may be written in each syntax.
use Rattle.std.proofs.Common.{◌≡◌, refl, true, false, ◌∙◌, sym, ap, subst, arith, ℕ, ◌*◌, ◌≤◌, ◌<◌, List, [], ◌∷◌, ◌++◌, length}
use Rattle.std.specs.Prelude.{Bool, ◌&&◌, ◌||◌, ℤ, pos, negsuc, Option, Some, None, option_map, nat_le, nat_lt}
use Rattle.std.proofs.lemmas.Bool.{le-leb, lt-ltb}
use Rattle.std.proofs.lemmas.Bool.Decides.{nat_tests}
use Rattle.std.proofs.lemmas.List.{length-append}
use Rattle.osi_base.specs.declared.syntax.Syntax.{Syntax}
use Rattle.osi_base.specs.declared.syntax.Syntax.TheVariants.{Ber, Der, Packed}
use Rattle.osi_base.specs.declared.layer_words.Problem.{Problem}
use Rattle.osi_base.specs.declared.layer_words.ProblemKind.{ProblemKind}
use Rattle.osi_base.specs.declared.layer_words.ProblemKind.TheVariants as problems
use Rattle.osi_base.specs.Limits.{most_items, most_octets}
use Rattle.asn1_types.specs.declared.row.TypeId.{TypeId}
use Rattle.asn1_types.specs.declared.row.Class.{Class}
use Rattle.asn1_types.specs.declared.row.Class.TheVariants.{Universal, Context}
use Rattle.asn1_types.specs.declared.table.TypeTable.{TypeTable}
use Rattle.asn1_types.specs.declared.value.Val.{Val}
use Rattle.asn1_types.specs.Fits.{is_number}
use Rattle.asn1_types.specs.Writing.{written, writes, integer_octets, definite, base_128, subidentifiers}
use Rattle.std.specs.List.{flat_map}
use Rattle.packed_codec.specs.Numbers as packed_numbers
use Rattle.std.specs.Int.{w64, cast_unsigned, bytes_high_first}
use Rattle.packed_codec.specs.Writing.{with_size, packed, items}
use Rattle.packed_codec.specs.Laws.{HasNoAny}
use Rattle.packed_laws.proofs.Forms.{fitting-packed}
use Rattle.packed_laws.proofs.Items.{two-more, items-take}
use Rattle.packed_laws.proofs.Octets.{unpadded-short}
use Rattle.stub_tables.specs.declared.tables.Tables.{Tables}
use Rattle.stub_tables.specs.declared.operation.Operation.{Operation}
use Rattle.stub_tables.specs.declared.operation.ErrorRow.{ErrorRow}
use Rattle.stub_tables.specs.declared.operation.Use.{Use}
use Rattle.stub_tables.specs.declared.apdu.Apdu.{Apdu}
use Rattle.stub_tables.specs.declared.apdu.Apdu.TheVariants as apdus
use Rattle.stub_tables.specs.declared.apdu.Returned.{Returned}
use Rattle.stub_tables.specs.Uses.{fits_type, is_carried}
use Rattle.stub_tables.specs.Lookup.{operation_at, error_at, operation_with, error_with}
use Rattle.stub_tables.specs.Apdus.{placed, argument_of, result_of, parameter_of}
use Rattle.stub_tables.specs.declared.operation.Code.{Code}
use Rattle.stub_tables.specs.declared.operation.Code.TheVariants.{Local, Global}
use Rattle.apdu_spelling.specs.Heads as heads
use Rattle.apdu_spelling.specs.Rows.{head_rows, apdu_row, packed_apdu_row}
use Rattle.apdu_spelling.specs.Values.{ber_value, packed_value}
use Rattle.apdu_spelling.specs.Writing.{written_apdu, written_typed, written_carried, outcome_of, is_identifier, is_identifier_or_none, may_carry, may_return, is_typed, IsWritable}
use Rattle.reliable_model.specs.end_rules.Base.{Base}
use Rattle.reliable_model.specs.end_rules.Invoking.{is_too_long, is_too_long_in}
use Rattle.reliable_model.specs.end_model.Seen.{number_seen}
use Rattle.reliable_model.specs.end_model.OpenInvocations.{IsNumber, IsNamed, IsProblem, FitsReturned, fits_argument, fits_result, fits_parameter, operation_of_code, error_of_code}
use Rattle.reliable_model.specs.Codecs.{IsTransferable}
use Rattle.transfer_spelling.specs.Laws.{IsModule, TransferablesAreWritable}
use Rattle.transfer_spelling.proofs.Lengths.{integer-length, definite-length}

-- ---- numbers

number-fits : (id : ℤ) → IsNumber id → is_identifier id ≡ true
number-fits (pos n) h = le-leb n 2147483647 h.1
number-fits (negsuc n) h = absurd h

named-fits : (id : Option ℤ) → IsNamed id → is_identifier_or_none id ≡ true
named-fits None h = refl
named-fits (Some id) h = number-fits id h

both : (a b : Bool) → a ≡ true → b ≡ true → (a && b) ≡ true
both true b e f = f
both false b e f = cc

-- ---- values, where their DER spelling is short

-- the octets of what is carried, in DER
abbrev Short : TypeTable → Option TypeId → Val → Type 0
Short types None value = Unit {0}
Short types (Some of) value = length (written types of.0 value) ≤ 262144

pub typed-so : (types : TypeTable) → HasNoAny types → (syntax : Syntax) (inner : Option TypeId) (v : Val) → Short types inner v → fits_type types inner v ≡ true → is_typed syntax types inner v ≡ true
typed-so types none syntax None v s h = cc
typed-so types none Ber (Some of) v s h = h
typed-so types none Der (Some of) v s h = h
typed-so types none Packed (Some of) v s h =
    let few : 2 * items v ≤ length (written types of.0 v) = items-take types of.0 v none h in
    let low : items v ≤ 131072 = omega arith in
    both _ (nat_le (items v) most_items) (fitting-packed types of.0 v none h) (le-leb (items v) 131072 low)

-- ---- a head holds what is carried

three-hold : (a c os : List ℕ) → length os ≤ length (a ++ (c ++ (os ++ [])))
three-hold a c os =
    let x = length-append a (c ++ (os ++ [])) in
    let y = length-append c (os ++ []) in
    let z = length-append os [] in
    omega arith

four-hold : (a l c os : List ℕ) → length os ≤ length (a ++ (l ++ (c ++ (os ++ []))))
four-hold a l c os = let x = length-append a (l ++ (c ++ (os ++ []))) in let y = three-hold l c os in omega arith

field-holds : (class : Class) (number : ℕ) (c os : List ℕ) → length os ≤ length c → length os ≤ length (definite true (record { class = class; number = number }) c)
field-holds class number c os h = let t = two-more true (record { class = class; number = number }) c in omega arith

abbrev number_text : ℤ → List ℕ
number_text z = definite false (record { class = Universal; number = 2 }) (integer_octets z)

abbrev linked_text : ℤ → List ℕ
linked_text z = definite false (record { class = Context; number = 0 }) (integer_octets z)

abbrev global_text : List ℕ → List ℕ
global_text arcs = definite false (record { class = Universal; number = 6 }) (flat_map base_128 (subidentifiers arcs))

invoke-holds : (id : ℤ) (linked : Option ℤ) (code : Code) (os : List ℕ) → length os ≤ length (written head_rows apdu_row (ber_value (heads.invoke id linked code (Some os))))
unfolding written writes
invoke-holds id None (Local n) os = field-holds Context 1 (number_text id ++ (number_text n ++ (os ++ []))) os (three-hold (number_text id) (number_text n) os)
invoke-holds id None (Global arcs) os = field-holds Context 1 (number_text id ++ (global_text arcs ++ (os ++ []))) os (three-hold (number_text id) (global_text arcs) os)
invoke-holds id (Some l) (Local n) os = field-holds Context 1 (number_text id ++ (linked_text l ++ (number_text n ++ (os ++ [])))) os (four-hold (number_text id) (linked_text l) (number_text n) os)
invoke-holds id (Some l) (Global arcs) os = field-holds Context 1 (number_text id ++ (linked_text l ++ (global_text arcs ++ (os ++ [])))) os (four-hold (number_text id) (linked_text l) (global_text arcs) os)

error-holds : (id : ℤ) (code : Code) (os : List ℕ) → length os ≤ length (written head_rows apdu_row (ber_value (heads.error id code (Some os))))
unfolding written writes
error-holds id (Local n) os = field-holds Context 3 (number_text id ++ (number_text n ++ (os ++ []))) os (three-hold (number_text id) (number_text n) os)
error-holds id (Global arcs) os = field-holds Context 3 (number_text id ++ (global_text arcs ++ (os ++ []))) os (three-hold (number_text id) (global_text arcs) os)

returned-hold : (a c os : List ℕ) → length os ≤ length (a ++ (definite true (record { class = Universal; number = 16 }) (c ++ (os ++ [])) ++ []))
returned-hold a c os =
    let d = definite true (record { class = Universal; number = 16 }) (c ++ (os ++ [])) in
    let x = length-append a (d ++ []) in
    let y = length-append d [] in
    let z = field-holds Universal 16 (c ++ (os ++ [])) os (let u = length-append c (os ++ []) in let v = length-append os [] in omega arith) in
    omega arith

result-holds : (id : ℤ) (code : Code) (os : List ℕ) → length os ≤ length (written head_rows apdu_row (ber_value (heads.result id (Some (record { code = code; octets = os })))))
unfolding written writes
result-holds id (Local n) os = field-holds Context 2 (number_text id ++ (definite true (record { class = Universal; number = 16 }) (number_text n ++ (os ++ [])) ++ [])) os (returned-hold (number_text id) (number_text n) os)
result-holds id (Global arcs) os = field-holds Context 2 (number_text id ++ (definite true (record { class = Universal; number = 16 }) (global_text arcs ++ (os ++ [])) ++ [])) os (returned-hold (number_text id) (global_text arcs) os)

-- ---- rejects are short

small-field : (class : Class) (number : ℕ) (c : List ℕ) → number < 31 → length c ≤ 4 → length (definite false (record { class = class; number = number }) c) ≤ 9
small-field class number c low few = let l = definite-length false (record { class = class; number = number }) c low (omega arith) in omega arith

reject-short : (a p : List ℕ) → length a ≤ 9 → length p ≤ 9 → length (definite true (record { class = Context; number = 4 }) (a ++ (p ++ []))) ≤ 262144
reject-short a p h k =
    let x = length-append a (p ++ []) in
    let y = length-append p [] in
    let l = definite-length true (record { class = Context; number = 4 }) (a ++ (p ++ [])) (omega arith) (omega arith) in
    omega arith

id-small : (k : ℕ) → k ≤ 2147483647 → length (integer_octets (pos k)) ≤ 4
id-small k h = integer-length 3 k (omega arith)

code-small : (n : ℕ) → n ≤ 7 → length (integer_octets (pos n)) ≤ 4
code-small n h = let l = integer-length 0 n (omega arith) in omega arith

abbrev null_text : List ℕ
null_text = definite false (record { class = Universal; number = 5 }) []

abbrev problem_text : ℕ → ℕ → List ℕ
problem_text place n = definite false (record { class = Context; number = place }) (integer_octets (pos n))

ber-reject : (id : Option ℤ) (kind : ProblemKind) (n : ℕ) → IsNamed id → n ≤ 7 → length (written head_rows apdu_row (ber_value (heads.reject id (record { kind = kind; number = pos n })))) ≤ 262144
unfolding written writes
ber-reject None problems.General n named few = reject-short null_text (problem_text 0 n) (small-field Universal 5 [] (omega arith) (omega arith)) (small-field Context 0 (integer_octets (pos n)) (omega arith) (code-small n few))
ber-reject None problems.Invoke n named few = reject-short null_text (problem_text 1 n) (small-field Universal 5 [] (omega arith) (omega arith)) (small-field Context 1 (integer_octets (pos n)) (omega arith) (code-small n few))
ber-reject None problems.Result n named few = reject-short null_text (problem_text 2 n) (small-field Universal 5 [] (omega arith) (omega arith)) (small-field Context 2 (integer_octets (pos n)) (omega arith) (code-small n few))
ber-reject None problems.Error n named few = reject-short null_text (problem_text 3 n) (small-field Universal 5 [] (omega arith) (omega arith)) (small-field Context 3 (integer_octets (pos n)) (omega arith) (code-small n few))
ber-reject (Some (pos k)) problems.General n named few = reject-short (number_text (pos k)) (problem_text 0 n) (small-field Universal 2 (integer_octets (pos k)) (omega arith) (id-small k named.1)) (small-field Context 0 (integer_octets (pos n)) (omega arith) (code-small n few))
ber-reject (Some (pos k)) problems.Invoke n named few = reject-short (number_text (pos k)) (problem_text 1 n) (small-field Universal 2 (integer_octets (pos k)) (omega arith) (id-small k named.1)) (small-field Context 1 (integer_octets (pos n)) (omega arith) (code-small n few))
ber-reject (Some (pos k)) problems.Result n named few = reject-short (number_text (pos k)) (problem_text 2 n) (small-field Universal 2 (integer_octets (pos k)) (omega arith) (id-small k named.1)) (small-field Context 2 (integer_octets (pos n)) (omega arith) (code-small n few))
ber-reject (Some (pos k)) problems.Error n named few = reject-short (number_text (pos k)) (problem_text 3 n) (small-field Universal 2 (integer_octets (pos k)) (omega arith) (id-small k named.1)) (small-field Context 3 (integer_octets (pos n)) (omega arith) (code-small n few))
ber-reject (Some (negsuc k)) kind n named few = absurd named

packed-number : (which : ℕ) (z : ℤ) → length (which ∷ with_size (packed_numbers.integer_octets z)) ≤ 10
unfolding packed_numbers.integer_octets
packed-number which z =
    let xs = bytes_high_first 8 (cast_unsigned w64 z) in
    let short : length (packed_numbers.unpadded xs) ≤ length xs = unpadded-short xs in
    let few : length xs ≡ 8 = refl in
    omega arith

packed-short : (a p : List ℕ) → length a ≤ 10 → length p ≤ 10 → length ((4 ∷ (a ++ (p ++ []))) ++ []) ≤ 262144
packed-short a p h k =
    let x = length-append a (p ++ []) in
    let y = length-append p [] in
    let z = length-append (4 ∷ (a ++ (p ++ []))) [] in
    omega arith

packed-reject : (id : Option ℤ) (kind : ProblemKind) (n : ℕ) → length (packed head_rows packed_apdu_row (packed_value (heads.reject id (record { kind = kind; number = pos n }))) ++ []) ≤ 262144
unfolding packed
packed-reject None problems.General n = packed-short (1 ∷ []) (0 ∷ with_size (packed_numbers.integer_octets (pos n))) (omega arith) (packed-number 0 (pos n))
packed-reject None problems.Invoke n = packed-short (1 ∷ []) (1 ∷ with_size (packed_numbers.integer_octets (pos n))) (omega arith) (packed-number 1 (pos n))
packed-reject None problems.Result n = packed-short (1 ∷ []) (2 ∷ with_size (packed_numbers.integer_octets (pos n))) (omega arith) (packed-number 2 (pos n))
packed-reject None problems.Error n = packed-short (1 ∷ []) (3 ∷ with_size (packed_numbers.integer_octets (pos n))) (omega arith) (packed-number 3 (pos n))
packed-reject (Some id) problems.General n = packed-short (0 ∷ with_size (packed_numbers.integer_octets id)) (0 ∷ with_size (packed_numbers.integer_octets (pos n))) (packed-number 0 id) (packed-number 0 (pos n))
packed-reject (Some id) problems.Invoke n = packed-short (0 ∷ with_size (packed_numbers.integer_octets id)) (1 ∷ with_size (packed_numbers.integer_octets (pos n))) (packed-number 0 id) (packed-number 1 (pos n))
packed-reject (Some id) problems.Result n = packed-short (0 ∷ with_size (packed_numbers.integer_octets id)) (2 ∷ with_size (packed_numbers.integer_octets (pos n))) (packed-number 0 id) (packed-number 2 (pos n))
packed-reject (Some id) problems.Error n = packed-short (0 ∷ with_size (packed_numbers.integer_octets id)) (3 ∷ with_size (packed_numbers.integer_octets (pos n))) (packed-number 0 id) (packed-number 3 (pos n))

reject-within : (tables : Tables) (syntax : Syntax) (id : Option ℤ) (kind : ProblemKind) (n : ℕ) → IsNamed id → n ≤ 7 → length (written_apdu tables syntax (apdus.Reject id (record { kind = kind; number = pos n }))) ≤ 262144
unfolding written_apdu
reject-within tables Ber id kind n named few = ber-reject id kind n named few
reject-within tables Der id kind n named few = ber-reject id kind n named few
reject-within tables Packed id kind n named few = packed-reject id kind n

-- ---- what is carried

module _ (base : Base) (module_s : IsModule base.tables) where
  abbrev types : TypeTable
  types = base.tables.types

  typed-in : (syntax : Syntax) (i : Option TypeId) (v : Val) (within : Option (List ℕ) → ℕ) → ((os : List ℕ) → length os ≤ within (Some os)) → fits_type types i v ≡ true → within (written_typed Der types i v) ≤ 262144 → is_typed syntax types i v ≡ true
  typed-in syntax None v within holds h short = cc
  typed-in syntax (Some of) v within holds h short =
      let all : length (written types of.0 v) ≤ within (Some (written types of.0 v)) = holds (written types of.0 v) in
      let few : within (Some (written types of.0 v)) ≤ 262144 = short in
      typed-so types module_s.typed syntax (Some of) v (omega arith) h

  use-in : (syntax : Syntax) (u : Use) (v : Option Val) (within : Option (List ℕ) → ℕ) → ((os : List ℕ) → length os ≤ within (Some os)) → is_carried types u v ≡ true → within (written_carried Der types (Some u) v) ≤ 262144 → may_carry syntax types (Some u) v ≡ true
  use-in syntax u None within holds h short = h
  use-in syntax u (Some v) within holds h short = typed-in syntax u.inner v within holds h short

  argument-in : (syntax : Syntax) (o : Option Operation) (v : Option Val) (within : Option (List ℕ) → ℕ) → ((os : List ℕ) → length os ≤ within (Some os)) → fits_argument base o v ≡ true → within (written_carried Der types (option_map argument_of o) v) ≤ 262144 → may_carry syntax types (option_map argument_of o) v ≡ true
  argument-in syntax None v within holds h short = cc
  argument-in syntax (Some operation) v within holds h short = use-in syntax operation.argument v within holds h short

  parameter-in : (syntax : Syntax) (e : Option ErrorRow) (v : Option Val) (within : Option (List ℕ) → ℕ) → ((os : List ℕ) → length os ≤ within (Some os)) → fits_parameter base e v ≡ true → within (written_carried Der types (option_map parameter_of e) v) ≤ 262144 → may_carry syntax types (option_map parameter_of e) v ≡ true
  parameter-in syntax None v within holds h short = cc
  parameter-in syntax (Some error) v within holds h short = use-in syntax error.parameter v within holds h short

  result-in : (syntax : Syntax) (o : Option Operation) (v : Val) (within : Option (List ℕ) → ℕ) → ((os : List ℕ) → length os ≤ within (Some os)) → fits_result base o (Some v) ≡ true → within (written_carried Der types (option_map result_of o) (Some v)) ≤ 262144 → may_carry syntax types (option_map result_of o) (Some v) ≡ true
  result-in syntax None v within holds h short = cc
  result-in syntax (Some operation) v within holds h short = use-in syntax operation.result (Some v) within holds h short

  argument-at : (syntax : Syntax) (x : Option ℕ) (v : Option Val) (within : Option (List ℕ) → ℕ) → ((os : List ℕ) → length os ≤ within (Some os)) → fits_argument base (operation_of_code base x) v ≡ true → within (written_carried Der types (option_map argument_of (placed (operation_at base.tables) x)) v) ≤ 262144 → may_carry syntax types (option_map argument_of (placed (operation_at base.tables) x)) v ≡ true
  argument-at syntax None v within holds h short = cc
  argument-at syntax (Some place) v within holds h short = argument-in syntax (operation_at base.tables place) v within holds h short

  parameter-at : (syntax : Syntax) (x : Option ℕ) (v : Option Val) (within : Option (List ℕ) → ℕ) → ((os : List ℕ) → length os ≤ within (Some os)) → fits_parameter base (error_of_code base x) v ≡ true → within (written_carried Der types (option_map parameter_of (placed (error_at base.tables) x)) v) ≤ 262144 → may_carry syntax types (option_map parameter_of (placed (error_at base.tables) x)) v ≡ true
  parameter-at syntax None v within holds h short = cc
  parameter-at syntax (Some place) v within holds h short = parameter-in syntax (error_at base.tables place) v within holds h short

  result-at : (syntax : Syntax) (x : Option ℕ) (v : Val) (within : Option (List ℕ) → ℕ) → ((os : List ℕ) → length os ≤ within (Some os)) → fits_result base (operation_of_code base x) (Some v) ≡ true → within (written_carried Der types (option_map result_of (placed (operation_at base.tables) x)) (Some v)) ≤ 262144 → may_carry syntax types (option_map result_of (placed (operation_at base.tables) x)) (Some v) ≡ true
  result-at syntax None v within holds h short = cc
  result-at syntax (Some place) v within holds h short = result-in syntax (operation_at base.tables place) v within holds h short

  returned-in : (syntax : Syntax) (id : ℤ) (r : Option Returned) → FitsReturned base r → length (written head_rows apdu_row (ber_value (heads.result id (outcome_of base.tables Der r)))) ≤ 262144 → may_return base.tables syntax r ≡ true
  returned-in syntax id None h short = refl
  returned-in syntax id (Some r) h short =
      result-at syntax (operation_with base.tables r.code) r.value (λ os. length (written head_rows apdu_row (ber_value (heads.result id (Some (record { code = r.code; octets = heads.or_none os }))))))
      (result-holds id r.code) h short

  -- ---- in each syntax

  few : (n : ℕ) → nat_lt most_octets n ≡ false → n ≤ 262144
  few n h = grind (arith, nat_tests)

  or-left : (a b : Bool) → (a || b) ≡ false → a ≡ false
  or-left true b h = cc
  or-left false b h = refl

  or-right : (a b : Bool) → (a || b) ≡ false → b ≡ false
  or-right true b h = cc
  or-right false b h = h

  short-in : base.spellings.apdu ≡ written_apdu base.tables → (syntax : Syntax) (apdu : Apdu) → is_too_long base apdu ≡ false → length (written_apdu base.tables syntax apdu) ≤ 262144
  short-in its syntax apdu h = subst (λ (w : Syntax → Apdu → List ℕ). length (w syntax apdu) ≤ 262144) its (few (length (base.spellings.apdu syntax apdu)) (each syntax))
    where
      each : (s : Syntax) → is_too_long_in base s apdu ≡ false
      each Ber = or-left (is_too_long_in base Ber apdu) (is_too_long_in base Der apdu) (or-left (is_too_long_in base Ber apdu || is_too_long_in base Der apdu) (is_too_long_in base Packed apdu) h)
      each Der = or-right (is_too_long_in base Ber apdu) (is_too_long_in base Der apdu) (or-left (is_too_long_in base Ber apdu || is_too_long_in base Der apdu) (is_too_long_in base Packed apdu) h)
      each Packed = or-right (is_too_long_in base Ber apdu || is_too_long_in base Der apdu) (is_too_long_in base Packed apdu) h

  problem-number : (id : Option ℤ) (kind : ProblemKind) (z : ℤ) → IsProblem id kind z → number_seen z ≤ 7 → (n : ℕ) × (z ≡ pos n) × (n ≤ 7)
  problem-number id kind (pos n) h k = (n, refl, k)
  problem-number id kind (negsuc n) h k = absurd h

  reject-writable : (syntax : Syntax) (id : Option ℤ) (problem : Problem) → IsNamed id → IsProblem id problem.kind problem.number → number_seen problem.number ≤ 7 → IsWritable base.tables syntax (apdus.Reject id problem)
  reject-writable syntax id problem named proper short =
      let n = problem-number id problem.kind problem.number proper short in
      record {
        numbers = both (is_identifier_or_none id) (is_number problem.number) (named-fits id named) (ap is_number n.1 ∙ small n.0 n.2);
        values = refl;
        short = subst (λ z. length (written_apdu base.tables syntax (apdus.Reject id (record { kind = problem.kind; number = z }))) ≤ 262144) (sym n.1) (reject-within base.tables syntax id problem.kind n.0 named n.2);
      }
    where
      small : (n : ℕ) → n ≤ 7 → nat_lt n 9223372036854775808 ≡ true
      small n h = lt-ltb n 9223372036854775808 (omega arith)

  writable : base.spellings.apdu ≡ written_apdu base.tables → (syntax : Syntax) (apdu : Apdu) → IsTransferable base apdu → IsWritable base.tables syntax apdu
  unfolding written_apdu
  writable its syntax (apdus.Invoke id linked code argument) t =
      let short : length (written_apdu base.tables Der (apdus.Invoke id linked code argument)) ≤ 262144 = short-in its Der (apdus.Invoke id linked code argument) t.short in
      record {
        numbers = both (is_identifier id) (is_identifier_or_none linked) (number-fits id t.proper.0) (named-fits linked t.proper.1);
        values = argument-at syntax (operation_with base.tables code) argument (λ os. length (written head_rows apdu_row (ber_value (heads.invoke id linked code os)))) (invoke-holds id linked code) t.proper.2 short;
        short = short-in its syntax (apdus.Invoke id linked code argument) t.short;
      }
  writable its syntax (apdus.Result id returned) t =
      let short : length (written_apdu base.tables Der (apdus.Result id returned)) ≤ 262144 = short-in its Der (apdus.Result id returned) t.short in
      record { numbers = number-fits id t.proper.0; values = returned-in syntax id returned t.proper.1 short; short = short-in its syntax (apdus.Result id returned) t.short }
  writable its syntax (apdus.Error id code parameter) t =
      let short : length (written_apdu base.tables Der (apdus.Error id code parameter)) ≤ 262144 = short-in its Der (apdus.Error id code parameter) t.short in
      record {
        numbers = number-fits id t.proper.0;
        values = parameter-at syntax (error_with base.tables code) parameter (λ os. length (written head_rows apdu_row (ber_value (heads.error id code os)))) (error-holds id code) t.proper.1 short;
        short = short-in its syntax (apdus.Error id code parameter) t.short;
      }
  writable its syntax (apdus.Reject id problem) t = reject-writable syntax id problem t.proper.0 t.proper.1 t.short

pub transferables-writable : TransferablesAreWritable
transferables-writable base syntax apdu its module_s t = writable base module_s its syntax apdu t
