-- What is derived is well formed, where each token has the form of its kind.
use Rattle.std.proofs.Common.{codes, ◌≡◌, ℕ, zero, suc, ◌<◌, ◌≤◌, Bool, true, false, List, [], ◌∷◌, ◌++◌, length, Option, Some, None, Result, Ok, Err, refl, subst, arith, inl, inr}
use Rattle.std.specs.Prelude.{IfOk, ◌&&◌, not, if◌then◌else◌, IsTrue, IfSome}
use Rattle.std.specs.List.{AllByRecursion}
use Rattle.std.proofs.lemmas.Bool.{not-true, and_parts}
use Rattle.osi_base.specs.Limits.{most_32}
use Rattle.notation_tokens.specs.Forms.{has_form}
use Rattle.notation_tokens.specs.Lexeme.{Lexeme, same, IsSpan, lexemes}
use Rattle.notation_tokens.specs.Words.{is_type_name, is_value_name, is_kind_word, is_quoted, is_unsupported, begins_upper, begins_lower, type_name_of, value_name_of, text_kind_of, text_kind_word, located, number_of}
use Rattle.operation_notation.specs.Grammar.{One, Then, Nothing, Either, Maybe, Many, Behind, Listed, Placed}
use Rattle.operation_notation.specs.GrammarTypes.{Item, Items, Class, Tag, dflt_value, dflt_text, dflt_of, Absent, Part, Parts, Alternatives, narrow, Leaf, Plain, TypeBehind, Type_of}
use Rattle.operation_notation.specs.GrammarModules.{NamedList, Code, HeadingSpelled}
use Rattle.operation_notation.proofs.Outermost.{Use, SignatureSpelled, Operation, Error, OperationBody, ErrorBody, Assign, Module, OuterType}
use Rattle.operation_notation.specs.Tree.{TypeTree}
use Rattle.operation_notation.specs.TreeView.{parts_of}
use Rattle.operation_notation.specs.WellFormed.{IsTypeName, IsValueName, IsTag, IsWellType, IsWellPlain, AreWellParts, HasPart, IsWellUse, IsWellCode, IsWellOperation, IsWellError, IsWellBody, IsWellAssignment, IsWellFormed}
use Rattle.notation_tokens.specs.declared.token.Place.{Place}
use Rattle.notation_tokens.specs.declared.token.Token.{Token}
use Rattle.notation_tokens.specs.declared.token.TokenKind.{TokenKind}
use Rattle.notation_tokens.specs.declared.token.Located.{Located}
use Rattle.operation_notation.specs.declared.module.PartText.{PartText}
use Rattle.operation_notation.specs.declared.module.ModuleText.{ModuleText}
use Rattle.operation_notation.specs.declared.bodies.Signature.{Signature}
use Rattle.operation_notation.specs.Modules.{ReadsAsModule}
use Rattle.notation_tokens.specs.Lexing.{lexed_of}
use Rattle.operation_notation.proofs.OidLaws.{number_is}
use Rattle.notation_tokens.proofs.Spans.{lexed_spans}
use Rattle.operation_notation.proofs.Rises.{module_rises}
use Rattle.notation_tokens.specs.declared.faults.NotationFault.{NotationFault}
use Rattle.notation_tokens.proofs.Names.{lower_is_word, upper_is_word}
use Rattle.std.specs.Prelude.{option_map, ℤ}
use Rattle.std.specs.Option.{option_or}
use Rattle.operation_notation.specs.declared.module.DfltText.{DfltText}
use Rattle.operation_notation.specs.declared.module.DfltValue.{DfltValue}
use Rattle.operation_notation.specs.declared.module.DfltValue.TheVariants as values
use Rattle.operation_notation.specs.declared.structured_types.Absence.{Absence}
use Rattle.notation_tokens.specs.Words.{bool_of, int_of}
use Rattle.operation_notation.specs.GrammarTypes.{item_value}
use Rattle.operation_notation.specs.WellFormed.{IsWellValue, MayLack}

abbrev pub Good : Lexeme → Type 0
Good t = IsTrue (has_form t.kind t.text)

abbrev pub Fine : List Lexeme → Type 0
Fine ts = AllByRecursion Good ts

fine_front : (x y : List Lexeme) → Fine (x ++ y) → Fine x
fine_front [] y f = tt
fine_front (t ∷ x) y f = (f.0, fine_front x y f.1)

pub fine_back : (x y : List Lexeme) → Fine (x ++ y) → Fine y
fine_back [] y f = f
fine_back (t ∷ x) y f = fine_back x y f.1

-- of fine tokens the rule gives only such values
abbrev Well : {A : Type 0} → (List Lexeme → A → Type 0) → (A → Type 0) → Type 0
Well r W = (ts : List Lexeme) (a : _) → Fine ts → r ts a → W a

abbrev Any : {A : Type 0} → A → Type 0
Any a = Unit {0}

well_any : {A : Type 0} (r : List Lexeme → A → Type 0) → Well r Any
well_any r ts a f d = tt

well_then : {A B : Type 0} (r : List Lexeme → A → Type 0) (g : A → List Lexeme → B → Type 0) (V : A → Type 0) (W : B → Type 0) → Well r V → ((a : A) → V a → Well (g a) W) → Well (Then r g) W
well_then r g V W v w ts b f d =
    let all : Fine (d.front ++ d.back) = subst Fine d.whole f in
    w d.value (v d.front d.value (fine_front d.front d.back all) d.first) d.back b (fine_back d.front d.back all) d.second

-- behind what doesn't matter
well_skip : {A B : Type 0} {r : List Lexeme → A → Type 0} {g : A → List Lexeme → B → Type 0} {W : B → Type 0} → ((a : A) → Well (g a) W) → Well (Then r g) W
well_skip {r = r} {g = g} {W = W} w = well_then r g Any W (well_any r) (λ a v. w a)

well_bind : {A B : Type 0} {r : List Lexeme → A → Type 0} {g : A → List Lexeme → B → Type 0} {W : B → Type 0} (V : A → Type 0) → Well r V → ((a : A) → V a → Well (g a) W) → Well (Then r g) W
well_bind {r = r} {g = g} {W = W} V v w = well_then r g V W v w

well_nothing : {A : Type 0} {a : A} (W : A → Type 0) → W a → Well (Nothing a) W
well_nothing W w ts b f d = subst W d.same_value w

well_one : {A : Type 0} (test : Lexeme → Option A) (W : A → Type 0) → ((t : Lexeme) (a : A) → Good t → test t ≡ Some a → W a) → Well (One test) W
well_one test W w ts a f d = w d.token a (subst Fine d.alone f).0 d.passes

well_either : {A : Type 0} {r s : List Lexeme → A → Type 0} {W : A → Type 0} → Well r W → Well s W → Well (Either r s) W
well_either v w ts a f (inl d) = v ts a f d
well_either v w ts a f (inr d) = w ts a f d

well_maybe : {A : Type 0} {r : List Lexeme → A → Type 0} {W : A → Type 0} → Well r W → Well (Maybe r) (λ o. IfSome o W)
well_maybe w ts None f d = tt
well_maybe w ts (Some a) f d = w ts a f d

well_many : {A : Type 0} (r : List Lexeme → A → Type 0) (W : A → Type 0) → Well r W → Well (Many r) (AllByRecursion W)
well_many r W w ts [] f d = tt
well_many r W w ts (a ∷ l) f d =
    let all : Fine (d.front ++ d.back) = subst Fine d.whole f in
    (w d.front a (fine_front d.front d.back all) d.first, well_many r W w d.back l (fine_back d.front d.back all) d.second)

abbrev SomeAll : {A : Type 0} → (A → Type 0) → List A → Type 0
SomeAll W l = (0 < length l) × AllByRecursion W l

well_listed : {A : Type 0} (word : List ℕ) (r : List Lexeme → A → Type 0) (W : A → Type 0) → Well r W → Well (Listed word r) (SomeAll W)
well_listed word r W w = well_bind W w (λ first v. well_bind (AllByRecursion W) (well_many (Behind word r) W (well_skip (λ p. w))) (λ others vs. well_nothing (SomeAll W) (omega arith, (v, vs))))

well_placed : {A : Type 0} {r : Place → List Lexeme → A → Type 0} {W : A → Type 0} → ((at : Place) → Well (r at) W) → Well (Placed r) W
well_placed w ts a f d = w d.at ts a f d.spelled

-- ---- names

value_lower : (kind : TokenKind) (text : List ℕ) → is_value_name kind text ≡ true → begins_lower text ≡ true
unfolding is_value_name
value_lower kind text e = (and_parts (is_kind_word kind) (begins_lower text) e).1

type_parts : (kind : TokenKind) (text : List ℕ) → is_type_name kind text ≡ true → (begins_upper text ≡ true) × (is_quoted text ≡ false) × (is_unsupported text ≡ false)
unfolding is_type_name
type_parts kind text e =
    let h = and_parts (is_kind_word kind && begins_upper text) (not (is_quoted text) && not (is_unsupported text)) e in
    let k = and_parts (not (is_quoted text)) (not (is_unsupported text)) h.1 in
    ((and_parts (is_kind_word kind) (begins_upper text) h.0).1, not-true (is_quoted text) k.0, not-true (is_unsupported text) k.1)

value_step : (t : Lexeme) (a : Located) (b : Bool) → Good t → is_value_name t.kind t.text ≡ b → (if b then Some (located t) else None) ≡ Some a → IsValueName a
value_step t a true g is e =
    let same_name : located t ≡ a = cc in
    subst IsValueName same_name (record { word = lower_is_word t.kind t.text is g; lower = value_lower t.kind t.text is })
value_step t a false g is e = absurd cc

well_value_name : Well (One value_name_of) IsValueName
unfolding value_name_of
well_value_name = well_one value_name_of IsValueName (λ t a g e. value_step t a (is_value_name t.kind t.text) g refl e)

type_step : (t : Lexeme) (a : Located) (b : Bool) → Good t → is_type_name t.kind t.text ≡ b → (if b then Some (located t) else None) ≡ Some a → IsTypeName a
type_step t a true g is e =
    let same_name : located t ≡ a = cc in
    let p = type_parts t.kind t.text is in
    subst IsTypeName same_name (record { word = upper_is_word t.kind t.text is g; upper = p.0; unquoted = p.1; supported = p.2 })
type_step t a false g is e = absurd cc

pub well_type_name : Well (One type_name_of) IsTypeName
unfolding type_name_of
well_type_name = well_one type_name_of IsTypeName (λ t a g e. type_step t a (is_type_name t.kind t.text) g refl e)

-- ---- types

well_item : Well Item (λ i. IsValueName i.name)
well_item = well_bind IsValueName well_value_name (λ name v. well_skip (λ _. well_skip (λ number. well_skip (λ _. well_nothing (λ i. IsValueName i.name) v))))

well_items : Well Items (SomeAll (λ i. IsValueName i.name))
well_items = well_skip (λ _. well_bind (SomeAll (λ i. IsValueName i.name)) (well_listed (codes ",") Item (λ i. IsValueName i.name) well_item) (λ items v. well_skip (λ _. well_nothing (SomeAll (λ i. IsValueName i.name)) v)))

well_class : Well Class (λ c. c ≤ 3)
well_class = well_either (well_skip (λ _. well_nothing (λ c. c ≤ 3) (omega arith))) (well_either (well_skip (λ _. well_nothing (λ c. c ≤ 3) (omega arith))) (well_either (well_skip (λ _. well_nothing (λ c. c ≤ 3) (omega arith))) (well_nothing (λ c. c ≤ 3) (omega arith))))

well_number : Well (One (number_of most_32)) (λ n. n ≤ 4294967295)
well_number = well_one (number_of most_32) (λ n. n ≤ 4294967295) (λ t n g e. (number_is most_32 t.text n e).1)

well_tag : Well Tag IsTag
well_tag = well_skip (λ _. well_bind (λ c. c ≤ 3) well_class (λ class c. well_bind (λ n. n ≤ 4294967295) well_number (λ number n. well_skip (λ _. well_skip (λ explicit. well_nothing IsTag (record { class = c; number = n }))))))

value_well : (t : Lexeme) (v : DfltValue) → Good t → dflt_value t ≡ Some v → IsWellValue v
unfolding value_name_of
value_well t v g e = go (bool_of t) (int_of t) (is_value_name t.kind t.text) refl e
  where
    go : (b : Option Bool) (n : Option ℤ) (is : Bool) → is_value_name t.kind t.text ≡ is → option_or (option_map values.Truth b) (option_or (option_map values.Number n) (option_map item_value (if is then Some (located t) else None))) ≡ Some v → IsWellValue v
    go (Some x) n is i h = let same_value : values.Truth x ≡ v = cc in subst IsWellValue same_value tt
    go None (Some x) is i h = let same_value : values.Number x ≡ v = cc in subst IsWellValue same_value tt
    go None None true i h = let same_value : values.Item t.text ≡ v = cc in subst IsWellValue same_value (lower_is_word t.kind t.text i g, value_lower t.kind t.text i)
    go None None false i h = absurd cc

dflt_well : (t : Lexeme) (d : DfltText) → Good t → dflt_of t ≡ Some d → IsWellValue d.value
unfolding dflt_of
dflt_well t d g e = go (dflt_value t) refl e
  where
    go : (o : Option DfltValue) → dflt_value t ≡ o → option_map (dflt_text t) o ≡ Some d → IsWellValue d.value
    go (Some v) i h = let same_text : dflt_text t v ≡ d = cc in subst (λ (z : DfltText). IsWellValue z.value) same_text (value_well t v g i)
    go None i h = absurd cc

well_dflt : Well (One dflt_of) (λ d. IsWellValue d.value)
well_dflt = well_one dflt_of (λ d. IsWellValue d.value) dflt_well

abbrev WellAbsence : Bool → Absence → Type 0
WellAbsence may a = MayLack may a.optional a.dflt

well_absent : (may : Bool) → Well (Absent may) (WellAbsence may)
well_absent true = well_either (well_skip (λ _. well_nothing (WellAbsence true) refl)) (well_either (well_skip (λ _. well_bind (λ d. IsWellValue d.value) well_dflt (λ d v. well_nothing (WellAbsence true) (refl, refl, v)))) (well_nothing (WellAbsence true) refl))
well_absent false = well_nothing (WellAbsence false) refl

abbrev WellPart : Bool → PartText → Type 0
WellPart may p = IsValueName p.name × IsWellType p.of × MayLack may p.optional p.dflt

parts_well : (may : Bool) (ps : List PartText) → AllByRecursion (WellPart may) ps → AreWellParts may (parts_of ps)
parts_well may [] all = tt
parts_well may (p ∷ ps) all = (all.0.0, all.0.1, all.0.2, parts_well may ps all.1)

has_part : (ps : List PartText) → 0 < length ps → HasPart (parts_of ps)
has_part [] lt = absurd (omega arith)
has_part (p ∷ ps) lt = tt

kind_low : (text : List ℕ) (k : ℕ) → text_kind_word text ≡ Some k → k ≤ 4
unfolding text_kind_word
kind_low text k e = go (same text (codes "UTF8String")) (same text (codes "IA5String")) (same text (codes "VisibleString")) (same text (codes "PrintableString")) (same text (codes "NumericString")) e
  where
    go : (a b c d n : Bool) → (if a then Some 0 else if b then Some 1 else if c then Some 2 else if d then Some 3 else if n then Some 4 else None) ≡ Some k → k ≤ 4
    go true b c d n h = let i : 0 ≡ k = cc in omega arith
    go false true c d n h = let i : 1 ≡ k = cc in omega arith
    go false false true d n h = let i : 2 ≡ k = cc in omega arith
    go false false false true n h = let i : 3 ≡ k = cc in omega arith
    go false false false false true h = let i : 4 ≡ k = cc in omega arith
    go false false false false false h = absurd cc

well_leaf : Well (Leaf narrow) IsWellPlain
well_leaf =
    well_either (well_skip (λ _. well_nothing IsWellPlain tt))
    (well_either (well_skip (λ _. well_nothing IsWellPlain tt))
    (well_either (well_skip (λ _. well_skip (λ r. well_nothing IsWellPlain tt)))
    (well_either (well_skip (λ _. well_bind (SomeAll (λ i. IsValueName i.name)) well_items (λ items v. well_nothing IsWellPlain v)))
    (well_either (well_skip (λ _. well_skip (λ _. well_skip (λ s. well_nothing IsWellPlain tt))))
    (well_either (well_skip (λ _. well_skip (λ _. well_nothing IsWellPlain tt)))
    (well_either (well_skip (λ _. well_skip (λ _. well_nothing IsWellPlain tt)))
    (well_either (well_bind (λ k. k ≤ 4) (well_one text_kind_of (λ k. k ≤ 4) (λ t k g e. kind_low t.text k e)) (λ kind k. well_nothing IsWellPlain k))
    (well_bind IsTypeName well_type_name (λ name n. well_either (λ ts a f d. absurd d) (well_nothing IsWellPlain n))))))))))

module _ (Inner : List Lexeme → TypeTree → Type 0) (inner : Well Inner IsWellType) where
  well_part : (may : Bool) → Well (Part may Inner) (WellPart may)
  well_part may = well_bind IsValueName well_value_name (λ name n. well_bind IsWellType inner (λ of t. well_bind (WellAbsence may) (well_absent may) (λ absence o. well_nothing (WellPart may) (n, t, o))))

  well_parts : Well (Parts Inner) (AllByRecursion (WellPart true))
  well_parts = well_skip (λ _. well_bind (AllByRecursion (WellPart true))
      (well_either (well_nothing (AllByRecursion (WellPart true)) tt) (λ ts a f d. (well_listed (codes ",") (Part true Inner) (WellPart true) (well_part true) ts a f d).1))
      (λ parts p. well_skip (λ _. well_nothing (AllByRecursion (WellPart true)) p)))

  well_alternatives : Well (Alternatives Inner) (SomeAll (WellPart false))
  well_alternatives = well_skip (λ _. well_bind (SomeAll (WellPart false)) (well_listed (codes ",") (Part false Inner) (WellPart false) (well_part false)) (λ parts p. well_skip (λ _. well_nothing (SomeAll (WellPart false)) p)))

  well_plain : Well (Plain narrow Inner) IsWellPlain
  well_plain =
      well_either (well_skip (λ _. well_either (well_skip (λ _. well_bind IsWellType inner (λ item t. well_nothing IsWellPlain t))) (well_bind (AllByRecursion (WellPart true)) well_parts (λ parts p. well_nothing IsWellPlain (parts_well true parts p)))))
      (well_either (well_skip (λ _. well_either (well_skip (λ _. well_bind IsWellType inner (λ item t. well_nothing IsWellPlain t))) (well_bind (AllByRecursion (WellPart true)) well_parts (λ parts p. well_nothing IsWellPlain (parts_well true parts p)))))
      (well_either (well_skip (λ _. well_bind (SomeAll (WellPart false)) well_alternatives (λ parts p. well_nothing IsWellPlain (has_part parts p.0, parts_well false parts p.1)))) well_leaf))

  well_type_behind : (at : Place) → Well (TypeBehind narrow Inner at) IsWellType
  well_type_behind at = well_bind (λ o. IfSome o IsTag) (well_maybe well_tag) (λ tag g. well_bind IsWellPlain well_plain (λ plain p. well_nothing IsWellType (g, p)))

well_type : (levels : ℕ) → Well (Type_of narrow levels) IsWellType
unfolding Type_of
well_type zero ts t f d = absurd d
well_type (suc n) ts t f d = well_placed (well_type_behind (Type_of narrow n) (well_type n)) ts t f d

well_outer_type : Well OuterType IsWellType
well_outer_type = well_type 256

-- ---- bodies

well_use : (w : List ℕ) → Well (Use w) IsWellUse
well_use w = well_skip (λ at. well_bind IsWellType well_outer_type (λ of t. well_skip (λ o. well_nothing IsWellUse t)))

well_named_list : (w : List ℕ) → Well (NamedList w) (AllByRecursion IsValueName)
well_named_list w = well_either (well_skip (λ _. well_skip (λ _. well_bind (SomeAll IsValueName) (well_listed (codes "|") (One value_name_of) IsValueName well_value_name) (λ names n. well_skip (λ _. well_nothing (AllByRecursion IsValueName) n.1)))))
    (well_nothing (AllByRecursion IsValueName) tt)

well_code : Well Code IsWellCode
well_code = well_skip (λ _. well_either (well_skip (λ at. well_skip (λ _. well_skip (λ n. well_nothing IsWellCode refl)))) (well_skip (λ at. well_skip (λ _. well_skip (λ o. well_nothing IsWellCode refl)))))

record WellSignature (s : Signature) : Type 0 where
  argument : IfSome s.argument IsWellUse
  result : IfSome s.result IsWellUse

well_signature : Well SignatureSpelled WellSignature
well_signature = well_bind (λ o. IfSome o IsWellUse) (well_maybe (well_use (codes "ARGUMENT"))) (λ argument a. well_bind (λ o. IfSome o IsWellUse) (well_maybe (well_use (codes "RESULT"))) (λ result r. well_skip (λ returns. well_nothing WellSignature (record { argument = a; result = r }))))

well_operation : Well Operation IsWellOperation
well_operation = well_bind WellSignature well_signature (λ signature s. well_bind (AllByRecursion IsValueName) (well_named_list (codes "ERRORS")) (λ errors e. well_bind (AllByRecursion IsValueName) (well_named_list (codes "LINKED")) (λ linked l.
    well_skip (λ always. well_bind (λ o. IfSome o IsWellCode) (well_maybe well_code) (λ code c. well_nothing IsWellOperation (record { argument = s.argument; result = s.result; errors = e; linked = l; code = c }))))))

well_error : Well Error IsWellError
well_error = well_bind (λ o. IfSome o IsWellUse) (well_maybe (well_use (codes "PARAMETER"))) (λ parameter p. well_skip (λ _. well_bind (λ o. IfSome o IsWellCode) (well_maybe well_code) (λ code c. well_nothing IsWellError (record { parameter = p; code = c }))))

-- ---- assignments and modules

well_body : (name : Located) → IsValueName name → Well (Either OperationBody ErrorBody) (IsWellBody name)
well_body name n = well_either (well_skip (λ _. well_bind IsWellOperation well_operation (λ operation o. well_skip (λ _. well_nothing (IsWellBody name) (n, o)))))
    (well_skip (λ _. well_bind IsWellError well_error (λ error e. well_skip (λ _. well_nothing (IsWellBody name) (n, e)))))

well_assign : Well Assign IsWellAssignment
well_assign = well_either (well_bind IsValueName well_value_name (λ name n. well_bind (IsWellBody name) (well_body name n) (λ body b. well_nothing IsWellAssignment b)))
    (well_bind IsTypeName well_type_name (λ name n. well_skip (λ _. well_bind IsWellType well_outer_type (λ of t. well_nothing IsWellAssignment (n, t)))))

well_heading : Well HeadingSpelled (λ h. IsTypeName h.name)
well_heading = well_bind IsTypeName well_type_name (λ name n. well_skip (λ oid. well_skip (λ _. well_skip (λ implicit. well_skip (λ _. well_nothing (λ h. IsTypeName h.name) n)))))

record WellParts (m : ModuleText) : Type 0 where
  name : IsTypeName m.name
  assignments : AllByRecursion IsWellAssignment m.assignments

well_module : Well Module WellParts
well_module = well_bind (λ h. IsTypeName h.name) well_heading (λ heading h. well_skip (λ _. well_skip (λ imports. well_bind (AllByRecursion IsWellAssignment) (well_many Assign IsWellAssignment well_assign) (λ assignments a. well_skip (λ _. well_nothing WellParts (record { name = h; assignments = a }))))))

-- the tokens of a text have the forms of their kinds
pub fine_lexemes : (source : List ℕ) (len : ℕ) (ts : List Token) → AllByRecursion (IsSpan source len) ts → Fine (lexemes source ts)
fine_lexemes source len [] all = tt
fine_lexemes source len (t ∷ ts) all = (all.0.form, fine_lexemes source len ts all.1)

pub reads_well : (text : List ℕ) (m : ModuleText) → ReadsAsModule text m → IsWellFormed m
reads_well text m d =
    let w = well_module (lexemes text (lexed_of text).tokens) m (fine_lexemes text (length text) (lexed_of text).tokens (lexed_spans text)) d.spelled in
    record { name = w.name; assignments = w.assignments; places = module_rises text m d }

pub well_answer : (r : Result ModuleText NotationFault) (text : List ℕ) → IfOk r (λ m. ReadsAsModule text m) → IfOk r IsWellFormed
well_answer (Ok m) text d = reads_well text m d
well_answer (Err e) text d = tt
