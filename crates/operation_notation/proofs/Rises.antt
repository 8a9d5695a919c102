-- The places of what is derived are those of its tokens, in their order.
use Rattle.std.proofs.Common.{codes, ◌≡◌, ℕ, zero, suc, Bool, true, false, List, [], ◌∷◌, ◌++◌, Option, Some, None, refl, sym, ap, subst, ◌∙◌, append_assoc, inl, inr}
use Rattle.std.specs.Prelude.{if◌then◌else◌}
use Rattle.std.proofs.lemmas.List.{append-nil, map-append}
use Rattle.notation_tokens.specs.Lexeme.{Lexeme, lexemes}
use Rattle.notation_tokens.specs.Lexing.{first_place, lexed_of}
use Rattle.operation_notation.specs.Modules.{ReadsAsModule}
use Rattle.notation_tokens.specs.Words.{place, word_of, type_name_of, value_name_of, is_type_name, is_value_name, located}
use Rattle.operation_notation.specs.Grammar.{One, Then, Nothing, Either, Maybe, Many, The, Behind, Listed, Placed, StartsAt}
use Rattle.operation_notation.specs.GrammarTypes.{Range, RangeBehind, Size, SizeBehind, Item, Items, dflt_value, dflt_text, dflt_of, Absent, Part, Parts, Alternatives, narrow, Leaf, Plain, TypeBehind, Type_of}
use Rattle.operation_notation.specs.GrammarModules.{NamedList, Code, HeadingSpelled}
use Rattle.operation_notation.proofs.Outermost.{Use, SignatureSpelled, Operation, Error, OperationBody, ErrorBody, Assign, Module, OuterType}
use Rattle.operation_notation.specs.Tree.{TypeTree, type_tree}
use Rattle.operation_notation.specs.TreeView.{parts_of}
use Rattle.operation_notation.specs.WellFormed.{name_place, name_places, item_places, range_places, type_places, plain_places, part_places, use_places, code_places, body_places, assignment_places, module_places}
use Rattle.notation_tokens.specs.Places.{NotAfter, Rising, NeverFall}
use Rattle.notation_tokens.proofs.Climbing.{after_refl, after_trans, lower, places_of, lexed_rises}
use Rattle.notation_tokens.specs.declared.token.Place.{Place}
use Rattle.notation_tokens.specs.declared.token.Located.{Located}
use Rattle.operation_notation.specs.declared.module.RangeText.{RangeText}
use Rattle.operation_notation.specs.declared.module.ItemText.{ItemText}
use Rattle.operation_notation.specs.declared.module.PartText.{PartText}
use Rattle.operation_notation.specs.declared.module.Assignment.{Assignment}
use Rattle.operation_notation.specs.declared.module.ModuleText.{ModuleText}
use Rattle.operation_notation.specs.declared.module.Assigned.TheVariants as bodies
use Rattle.operation_notation.specs.declared.assignments.Heading.{Heading}
use Rattle.operation_notation.specs.declared.bodies.Signature.{Signature}
use Rattle.std.specs.Prelude.{option_map}
use Rattle.operation_notation.specs.declared.module.DfltText.{DfltText}
use Rattle.operation_notation.specs.declared.module.DfltValue.{DfltValue}
use Rattle.operation_notation.specs.declared.structured_types.Absence.{Absence}
use Rattle.operation_notation.specs.WellFormed.{dflt_places}

-- ---- the order of places

-- what is left out falls no more
rising_ends : (low high : Place) (ps : List Place) → Rising low high ps → NotAfter low high
rising_ends low high [] h = h
rising_ends low high (p ∷ ps) h = after_trans low p high h.0 (rising_ends p high ps h.1)

record Split (low high : Place) (x y : List Place) : Type 0 where
  mid : Place
  left : Rising low mid x
  right : Rising mid high y

split : (low high : Place) (x y : List Place) → Rising low high (x ++ y) → Split low high x y
split low high [] y h = record { mid = low; left = after_refl low; right = h }
split low high (p ∷ x) y h = let s = split p high x y h.1 in record { mid = s.mid; left = (h.0, s.left); right = s.right }

join : (low mid high : Place) (x y : List Place) → Rising low mid x → Rising mid high y → Rising low high (x ++ y)
join low mid high [] y h k = lower low mid high y h k
join low mid high (p ∷ x) y h k = (h.0, join p mid high x y h.1 k)

-- ---- places among those of tokens

-- wherever the tokens' places rise, these do
pub record Covers (ts : List Lexeme) (ps : List Place) : Type 0 where
  pub rises : (low high : Place) → Rising low high (places_of ts) → Rising low high ps

covers_none : (ts : List Lexeme) → Covers ts []
covers_none ts = record { rises = λ low high h. rising_ends low high (places_of ts) h }

covers_append : (x y : List Lexeme) (ps qs : List Place) → Covers x ps → Covers y qs → Covers (x ++ y) (ps ++ qs)
covers_append x y ps qs c d = record {
  rises = λ low high h.
      let s = split low high (places_of x) (places_of y) (subst (Rising low high) (map-append place x y) h) in
      join low s.mid high ps qs (c.rises low s.mid s.left) (d.rises s.mid high s.right);
}

abbrev pub Cov : {A : Type 0} → (List Lexeme → A → Type 0) → (A → List Place) → Type 0
Cov r P = (ts : List Lexeme) (a : _) → r ts a → Covers ts (P a)

-- the places of a value, of which some come from before
record Rest {B : Type 0} (pre : List Place) (P : B → List Place) (ts : List Lexeme) (b : B) : Type 0 where
  own : List Place
  covered : Covers ts own
  all : P b ≡ pre ++ own

abbrev CovR : {B : Type 0} → List Place → (List Lexeme → B → Type 0) → (B → List Place) → Type 0
CovR pre g P = (ts : List Lexeme) (b : _) → g ts b → Rest pre P ts b

cov_bind : {A B : Type 0} {r : List Lexeme → A → Type 0} {g : A → List Lexeme → B → Type 0} {P : B → List Place} (pre : List Place) (V : A → List Place) → Cov r V → ((a : A) → CovR (pre ++ V a) (g a) P) → CovR pre (Then r g) P
cov_bind {P = P} pre V v w ts b d =
    let k = w d.value d.back b d.second in
    subst (λ (z : List Lexeme). Rest pre P z b) (sym d.whole) (record {
      own = V d.value ++ k.own;
      covered = covers_append d.front d.back (V d.value) k.own (v d.front d.value d.first) k.covered;
      all = k.all ∙ append_assoc pre (V d.value) k.own;
    })

cov_skip : {A B : Type 0} {r : List Lexeme → A → Type 0} {g : A → List Lexeme → B → Type 0} {P : B → List Place} (pre : List Place) → ((a : A) → CovR pre (g a) P) → CovR pre (Then r g) P
cov_skip {P = P} pre w ts b d =
    let k = w d.value d.back b d.second in
    subst (λ (z : List Lexeme). Rest pre P z b) (sym d.whole) (record {
      own = k.own;
      covered = covers_append d.front d.back [] k.own (covers_none d.front) k.covered;
      all = k.all;
    })

cov_nothing : {A : Type 0} {a : A} (pre : List Place) (P : A → List Place) → P a ≡ pre → CovR pre (Nothing a) P
cov_nothing pre P e ts b d = record { own = []; covered = covers_none ts; all = ap P (sym d.same_value) ∙ e ∙ sym (append-nil pre) }

-- behind a rule that nothing spells
cov_right : {A : Type 0} {r : List Lexeme → A → Type 0} {pre : List Place} {P : A → List Place} → CovR pre r P → CovR pre (Either (λ ts a. ⊥) r) P
cov_right c ts a (inl d) = absurd d
cov_right c ts a (inr d) = c ts a d

-- the whole of a rule
whole : {A : Type 0} {r : List Lexeme → A → Type 0} {P : A → List Place} → CovR [] r P → Cov r P
whole c ts a d = let k = c ts a d in subst (Covers ts) (sym k.all) k.covered

-- a last rule whose places close the value's
cov_last : {A : Type 0} {r : List Lexeme → A → Type 0} {P : A → List Place} (pre : List Place) (V : A → List Place) → Cov r V → ((a : A) → P a ≡ pre ++ V a) → CovR pre r P
cov_last pre V v e ts a d = record { own = V a; covered = v ts a d; all = e a }

cov_either : {A : Type 0} {r s : List Lexeme → A → Type 0} {P : A → List Place} → Cov r P → Cov s P → Cov (Either r s) P
cov_either v w ts a (inl d) = v ts a d
cov_either v w ts a (inr d) = w ts a d

cov_maybe : {A : Type 0} {r : List Lexeme → A → Type 0} (P : Option A → List Place) → P None ≡ [] → Cov r (λ a. P (Some a)) → Cov (Maybe r) P
cov_maybe P e w ts None d = subst (Covers ts) (sym e) (covers_none ts)
cov_maybe P e w ts (Some a) d = w ts a d

abbrev concat : {A : Type 0} → (A → List Place) → List A → List Place
concat P [] = []
concat P (a ∷ l) = P a ++ concat P l

cov_many : {A : Type 0} (r : List Lexeme → A → Type 0) (P : A → List Place) → Cov r P → Cov (Many r) (concat P)
cov_many r P w ts [] d = covers_none ts
cov_many r P w ts (a ∷ l) d = subst (λ (z : List Lexeme). Covers z (P a ++ concat P l)) (sym d.whole) (covers_append d.front d.back (P a) (concat P l) (w d.front a d.first) (cov_many r P w d.back l d.second))

cov_behind : {A : Type 0} {r : List Lexeme → A → Type 0} {P : A → List Place} (w : List ℕ) → Cov r P → Cov (Behind w r) P
cov_behind {P = P} w c = whole (cov_skip [] (λ _. cov_last [] P c (λ a. refl)))

cov_listed : {A : Type 0} (word : List ℕ) (r : List Lexeme → A → Type 0) (P : A → List Place) → Cov r P → Cov (Listed word r) (concat P)
cov_listed word r P w = whole (cov_bind [] P w (λ first. cov_bind (P first) (concat P) (cov_many (Behind word r) P (cov_behind word w)) (λ others. cov_nothing _ (concat P) refl)))

-- the place of a token that was taken
one_covers : {A : Type 0} (test : Lexeme → Option A) (P : A → List Place) → ((t : Lexeme) (a : A) → test t ≡ Some a → P a ≡ place t ∷ []) → Cov (One test) P
one_covers test P e ts a d = subst (λ (z : List Lexeme). Covers z (P a)) (sym d.alone) (subst (Covers (d.token ∷ [])) (sym (e d.token a d.passes)) (record { rises = λ low high h. h }))

-- the first token's place, and then those of what it begins
placed_step : {A : Type 0} (P : A → List Place) (a : A) (p : Place) (ts : List Lexeme) → StartsAt ts p → Covers ts (P a) → Covers ts (p ∷ P a)
placed_step P a p [] s c = absurd s
placed_step P a p (t ∷ ts) s c = record {
  rises = λ low high h.
      let k : NotAfter low p = subst (NotAfter low) s h.0 in
      let here : Rising p high (place t ∷ places_of ts) = (subst (λ (q : Place). NotAfter p q) (sym s) (after_refl p), h.1) in
      (k, c.rises p high here);
}

pub cov_placed : {A : Type 0} {r : Place → List Lexeme → A → Type 0} (P Q : A → List Place) → ((at : Place) → Cov (r at) Q) → ((at : Place) (ts : List Lexeme) (a : A) → r at ts a → P a ≡ at ∷ Q a) → Cov (Placed r) P
cov_placed P Q c e ts a d = subst (Covers ts) (sym (e d.at ts a d.spelled)) (placed_step Q a d.at ts d.starts (c d.at ts a d.spelled))

cov_as : {A : Type 0} {r : List Lexeme → A → Type 0} (P Q : A → List Place) → ((a : A) → P a ≡ Q a) → Cov r P → Cov r Q
cov_as P Q e c ts a d = subst (Covers ts) (e a) (c ts a d)

-- ---- names and words

value_place : (t : Lexeme) (a : Located) (b : Bool) → (if b then Some (located t) else None) ≡ Some a → name_place a ≡ place t
value_place t a true e = let n : located t ≡ a = cc in ap name_place (sym n)
value_place t a false e = absurd cc

abbrev one_name : Located → List Place
one_name n = name_place n ∷ []

cov_value_name : Cov (One value_name_of) one_name
unfolding value_name_of
cov_value_name = one_covers value_name_of one_name (λ t a e. ap (λ (p : Place). p ∷ []) (value_place t a (is_value_name t.kind t.text) e))

cov_type_name : Cov (One type_name_of) one_name
unfolding type_name_of
cov_type_name = one_covers type_name_of one_name (λ t a e. ap (λ (p : Place). p ∷ []) (value_place t a (is_type_name t.kind t.text) e))

word_place : (t : Lexeme) (a : Place) (b : Bool) → (if b then Some (place t) else None) ≡ Some a → a ≡ place t
word_place t a true e = let n : place t ≡ a = cc in sym n
word_place t a false e = absurd cc

abbrev one_place : Place → List Place
one_place p = p ∷ []

cov_word : (w : List ℕ) → Cov (The w) one_place
unfolding word_of
cov_word w = one_covers (word_of w) one_place (λ t a e. ap (λ (p : Place). p ∷ []) (word_place t a _ e))

concat_names : (ns : List Located) → concat one_name ns ≡ name_places ns
concat_names [] = refl
concat_names (n ∷ ns) = ap (λ (l : List Place). name_place n ∷ l) (concat_names ns)

abbrev one_item : ItemText → List Place
one_item i = name_place i.name ∷ []

concat_items : (is : List ItemText) → concat one_item is ≡ item_places is
concat_items [] = refl
concat_items (i ∷ is) = ap (λ (l : List Place). name_place i.name ∷ l) (concat_items is)

abbrev one_part : PartText → List Place
one_part p = (name_place p.name ∷ type_places p.of) ++ dflt_places p.dflt

concat_parts : (ps : List PartText) → concat one_part ps ≡ part_places (parts_of ps)
concat_parts [] = refl
concat_parts (p ∷ ps) = ap (λ (l : List Place). one_part p ++ l) (concat_parts ps)

abbrev one_assignment : Assignment → List Place
one_assignment a = name_place a.name ∷ body_places a.body

concat_assignments : (l : List Assignment) → concat one_assignment l ≡ assignment_places l
concat_assignments [] = refl
concat_assignments (a ∷ l) = ap (λ (z : List Place). one_assignment a ++ z) (concat_assignments l)

-- ---- types

abbrev one_range : RangeText → List Place
one_range r = record { line = r.line; column = r.column } ∷ []

abbrev nowhere : {A : Type 0} → A → List Place
nowhere a = []

cov_nowhere : {A : Type 0} (r : List Lexeme → A → Type 0) → Cov r nowhere
cov_nowhere r ts a d = covers_none ts

range_at_place : (at : Place) (ts : List Lexeme) (r : RangeText) → RangeBehind at ts r → one_range r ≡ at ∷ []
range_at_place at ts r d = ap one_range (sym d.second.second.second.second.same_value)

cov_range : Cov Range one_range
cov_range = cov_behind (codes "(") (cov_placed one_range nowhere (λ at. cov_nowhere (RangeBehind at)) range_at_place)

size_at_place : (at : Place) (ts : List Lexeme) (r : RangeText) → SizeBehind at ts r → one_range r ≡ at ∷ []
size_at_place at ts r d = ap one_range (sym d.second.second.second.second.second.same_value)

cov_size : Cov Size one_range
cov_size = cov_behind (codes "(") (cov_behind (codes "SIZE") (cov_behind (codes "(") (cov_placed one_range nowhere (λ at. cov_nowhere (SizeBehind at)) size_at_place)))

cov_item : Cov Item one_item
cov_item = whole (cov_bind [] one_name cov_value_name (λ name. cov_skip _ (λ _. cov_skip _ (λ number. cov_skip _ (λ _. cov_nothing _ one_item refl)))))

cov_items : Cov Items item_places
cov_items = whole (cov_skip [] (λ _. cov_bind [] item_places (cov_as (concat one_item) item_places concat_items (cov_listed (codes ",") Item one_item cov_item)) (λ items. cov_skip _ (λ _. cov_nothing _ item_places refl))))

cov_leaf : Cov (Leaf narrow) plain_places
cov_leaf =
    cov_either (whole (cov_skip [] (λ _. cov_nothing [] plain_places refl)))
    (cov_either (whole (cov_skip [] (λ _. cov_nothing [] plain_places refl)))
    (cov_either (whole (cov_skip [] (λ _. cov_bind [] range_places (cov_maybe range_places refl cov_range) (λ r. cov_nothing _ plain_places refl))))
    (cov_either (whole (cov_skip [] (λ _. cov_bind [] item_places cov_items (λ items. cov_nothing _ plain_places refl))))
    (cov_either (whole (cov_skip [] (λ _. cov_skip [] (λ _. cov_bind [] range_places (cov_maybe range_places refl cov_size) (λ r. cov_nothing _ plain_places refl)))))
    (cov_either (whole (cov_skip [] (λ _. cov_skip [] (λ _. cov_nothing [] plain_places refl))))
    (cov_either (whole (cov_skip [] (λ _. cov_skip [] (λ _. cov_nothing [] plain_places refl))))
    (cov_either (whole (cov_skip [] (λ kind. cov_nothing [] plain_places refl)))
    (whole (cov_bind [] one_name cov_type_name (λ name. cov_right (cov_nothing _ plain_places refl)))))))))))

abbrev absence_places : Absence → List Place
absence_places a = dflt_places a.dflt

dflt_place : (t : Lexeme) (d : DfltText) → dflt_of t ≡ Some d → dflt_places (Some d) ≡ place t ∷ []
unfolding dflt_of
dflt_place t d e = go (dflt_value t) e
  where
    go : (o : Option DfltValue) → option_map (dflt_text t) o ≡ Some d → dflt_places (Some d) ≡ place t ∷ []
    go (Some v) h = let same_text : dflt_text t v ≡ d = cc in subst (λ (z : DfltText). dflt_places (Some z) ≡ place t ∷ []) same_text refl
    go None h = absurd cc

cov_absent : (may : Bool) → Cov (Absent may) absence_places
cov_absent true = cov_either (whole (cov_skip [] (λ _. cov_nothing [] absence_places refl)))
    (cov_either (whole (cov_skip [] (λ _. cov_bind [] (λ d. dflt_places (Some d)) (one_covers dflt_of (λ d. dflt_places (Some d)) dflt_place) (λ d. cov_nothing _ absence_places refl)))) (whole (cov_nothing [] absence_places refl)))
cov_absent false = whole (cov_nothing [] absence_places refl)

module _ (Inner : List Lexeme → TypeTree → Type 0) (inner : Cov Inner type_places) where
  cov_part : (may : Bool) → Cov (Part may Inner) one_part
  cov_part may = whole (cov_bind [] one_name cov_value_name (λ name. cov_bind _ type_places inner (λ of. cov_bind _ absence_places (cov_absent may) (λ o. cov_nothing _ one_part refl))))

  cov_parts : Cov (Parts Inner) (concat one_part)
  cov_parts = whole (cov_skip [] (λ _. cov_bind [] (concat one_part) (cov_either (whole (cov_nothing [] (concat one_part) refl)) (cov_listed (codes ",") (Part true Inner) one_part (cov_part true))) (λ parts. cov_skip _ (λ _. cov_nothing _ (concat one_part) refl))))

  cov_alternatives : Cov (Alternatives Inner) (concat one_part)
  cov_alternatives = whole (cov_skip [] (λ _. cov_bind [] (concat one_part) (cov_listed (codes ",") (Part false Inner) one_part (cov_part false)) (λ parts. cov_skip _ (λ _. cov_nothing _ (concat one_part) refl))))

  cov_plain : Cov (Plain narrow Inner) plain_places
  cov_plain =
      cov_either (cov_behind (codes "SEQUENCE") (cov_either (cov_behind (codes "OF") (whole (cov_bind [] type_places inner (λ item. cov_nothing _ plain_places refl)))) (whole (cov_bind [] (concat one_part) cov_parts (λ ps. cov_nothing _ plain_places (sym (concat_parts ps)))))))
      (cov_either (cov_behind (codes "SET") (cov_either (cov_behind (codes "OF") (whole (cov_bind [] type_places inner (λ item. cov_nothing _ plain_places refl)))) (whole (cov_bind [] (concat one_part) cov_parts (λ ps. cov_nothing _ plain_places (sym (concat_parts ps)))))))
      (cov_either (cov_behind (codes "CHOICE") (whole (cov_bind [] (concat one_part) cov_alternatives (λ ps. cov_nothing _ plain_places (sym (concat_parts ps)))))) cov_leaf))

  abbrev inside_places : TypeTree → List Place
  inside_places (type_tree line column tag plain) = plain_places plain

  cov_type_behind : (at : Place) → Cov (TypeBehind narrow Inner at) inside_places
  cov_type_behind at = whole (cov_skip [] (λ tag. cov_bind [] plain_places cov_plain (λ plain. cov_nothing _ inside_places refl)))

  type_at_place : (at : Place) (ts : List Lexeme) (t : TypeTree) → TypeBehind narrow Inner at ts t → type_places t ≡ at ∷ inside_places t
  type_at_place at ts t d = subst (λ (z : TypeTree). type_places z ≡ at ∷ inside_places z) d.second.second.same_value refl

  cov_placed_type : Cov (Placed (TypeBehind narrow Inner)) type_places
  cov_placed_type = cov_placed type_places inside_places cov_type_behind type_at_place

cov_type : (levels : ℕ) → Cov (Type_of narrow levels) type_places
unfolding Type_of
cov_type zero ts t d = absurd d
cov_type (suc n) ts t d = cov_placed_type (Type_of narrow n) (cov_type n) ts t d

cov_outer_type : Cov OuterType type_places
cov_outer_type = cov_type 256

-- ---- bodies

cov_use : (w : List ℕ) → Cov (Use w) (λ u. use_places (Some u))
cov_use w = whole (cov_bind [] one_place (cov_word w) (λ at. cov_bind _ type_places cov_outer_type (λ of. cov_skip _ (λ o. cov_nothing _ (λ u. use_places (Some u)) refl))))

cov_maybe_use : (w : List ℕ) → Cov (Maybe (Use w)) use_places
cov_maybe_use w = cov_maybe use_places refl (cov_use w)

cov_named_list : (w : List ℕ) → Cov (NamedList w) name_places
cov_named_list w = cov_either (cov_behind w (whole (cov_skip [] (λ _. cov_bind [] name_places (cov_as (concat one_name) name_places concat_names (cov_listed (codes "|") (One value_name_of) one_name cov_value_name)) (λ names. cov_skip _ (λ _. cov_nothing _ name_places refl))))))
    (whole (cov_nothing [] name_places refl))

cov_code : Cov (Maybe Code) code_places
cov_code = cov_maybe code_places refl (cov_behind (codes "CODE") (cov_either
    (whole (cov_bind [] one_place (cov_word (codes "local")) (λ at. cov_skip _ (λ _. cov_skip _ (λ n. cov_nothing _ (λ c. code_places (Some c)) refl)))))
    (whole (cov_bind [] one_place (cov_word (codes "global")) (λ at. cov_skip _ (λ _. cov_skip _ (λ o. cov_nothing _ (λ c. code_places (Some c)) refl)))))))

abbrev signature_places : Signature → List Place
signature_places s = use_places s.argument ++ use_places s.result

cov_signature : Cov SignatureSpelled signature_places
cov_signature = whole (cov_bind [] use_places (cov_maybe_use (codes "ARGUMENT")) (λ argument. cov_bind _ use_places (cov_maybe_use (codes "RESULT")) (λ result. cov_skip _ (λ returns. cov_nothing _ signature_places refl))))

cov_operation : Cov Operation (λ o. body_places (bodies.Operation o))
cov_operation = whole (cov_bind [] signature_places cov_signature (λ s. cov_bind _ name_places (cov_named_list (codes "ERRORS")) (λ errors. cov_bind _ name_places (cov_named_list (codes "LINKED")) (λ linked. cov_skip _ (λ always. cov_bind _ code_places cov_code (λ code. cov_nothing _ (λ o. body_places (bodies.Operation o)) refl))))))

cov_error : Cov Error (λ e. body_places (bodies.Error e))
cov_error = whole (cov_bind [] use_places (cov_maybe_use (codes "PARAMETER")) (λ parameter. cov_skip _ (λ _. cov_bind _ code_places cov_code (λ code. cov_nothing _ (λ e. body_places (bodies.Error e)) refl))))

cov_body : Cov (Either OperationBody ErrorBody) body_places
cov_body = cov_either (whole (cov_skip [] (λ _. cov_bind [] (λ o. body_places (bodies.Operation o)) cov_operation (λ o. cov_skip _ (λ _. cov_nothing _ body_places refl)))))
    (whole (cov_skip [] (λ _. cov_bind [] (λ e. body_places (bodies.Error e)) cov_error (λ e. cov_skip _ (λ _. cov_nothing _ body_places refl)))))

cov_assign : Cov Assign one_assignment
cov_assign = cov_either (whole (cov_bind [] one_name cov_value_name (λ name. cov_bind _ body_places cov_body (λ body. cov_nothing _ one_assignment refl))))
    (whole (cov_bind [] one_name cov_type_name (λ name. cov_skip _ (λ _. cov_bind _ type_places cov_outer_type (λ of. cov_nothing _ one_assignment refl)))))

abbrev heading_places : Heading → List Place
heading_places h = one_name h.name

cov_heading : Cov HeadingSpelled heading_places
cov_heading = whole (cov_bind [] one_name cov_type_name (λ name. cov_skip _ (λ oid. cov_skip _ (λ _. cov_skip _ (λ implicit. cov_skip _ (λ _. cov_nothing _ heading_places refl))))))

pub cov_module : Cov Module module_places
cov_module = whole (cov_bind [] heading_places cov_heading (λ h. cov_skip _ (λ _. cov_skip _ (λ imports. cov_bind _ assignment_places (cov_as (concat one_assignment) assignment_places concat_assignments (cov_many Assign one_assignment cov_assign)) (λ l. cov_skip _ (λ _. cov_nothing _ module_places refl))))))

-- the places of a module never fall
pub module_rises : (text : List ℕ) (m : ModuleText) → ReadsAsModule text m → NeverFall (module_places m)
module_rises text m d =
    let c = cov_module (lexemes text (lexed_of text).tokens) m d.spelled in
    let all = c.rises first_place (lexed_of text).place (lexed_rises text) in
    ((lexed_of text).place, all.1)
