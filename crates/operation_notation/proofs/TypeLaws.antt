-- Reading types against their grammar.
use Rattle.std.proofs.Common.{codes, ◌≡◌, ℕ, zero, suc, Bool, true, false, List, [], ◌∷◌, ◌++◌, Option, Some, None, Ok, refl, ap, ◌∙◌}
use Rattle.std.specs.Prelude.{◌&&◌, is_some, if◌then◌else◌}
use Rattle.std.specs.List.{list_any}
use Rattle.std.specs.Str.{bytes_eq}
use Rattle.std.proofs.lemmas.Bool.{not-false, or_parts}
use Rattle.osi_base.specs.Limits.{most_32, most_signed}
use Rattle.notation_tokens.specs.Lexeme.{Lexeme, same, begins}
use Rattle.notation_tokens.specs.Words.{number, number_of, end_of, int_of, type_name_of, value_name_of, text_kind_of, text_kind_word, located}
use Rattle.operation_notation.specs.Reading.{◌>>=◌, give, Read, refuse_as, token_at, word_at, number_at, number_64_at, int_at, end_at, type_name_at, value_name_at, maybe_at, listed_at}
use Rattle.operation_notation.specs.ReadingTypes.{range_at, size_at, item_at, items_at, class_at, explicit_at, tag_at, dflt_at, absence_at, absent_at, part_at, parts_at, alternatives_at, integer_at, octets_at, text_kind, text_kind_at, text_or_name_at, named_at, leaf_at, sequence_at, set_at, choice_at, plain_at, type_text_at, deep_kind, starts_mark, type_at, outer_type_at}
use Rattle.operation_notation.specs.Grammar.{One, Then, Nothing, Either, Where, The, Listed, Placed}
use Rattle.operation_notation.specs.GrammarTypes.{Range, Number64, Size, Item, Items, Class, Explicit, Tag, dflt_of, standing, optional, by_default, Absent, Part, Parts, Alternatives, Integer, OctetString, Text, Named, Leaf, Sequence, Set, Choice, Plain, TypeBehind, Type_of, OuterType, Extent, is_empty, mark_of}
use Rattle.operation_notation.specs.Tree.{TypeTree, type_tree, null, named, text}
use Rattle.notation_tokens.specs.declared.faults.NotationKind.TheVariants.{Unsupported}
use Rattle.notation_tokens.specs.declared.token.Place.{Place}
use Rattle.notation_tokens.specs.declared.token.Located.{Located}
use Rattle.operation_notation.specs.declared.structured_types.Absence.{Absence}
use Rattle.operation_notation.proofs.Means.{Front, Law, never, law_one, law_word, law_nothing, law_choice}
use Rattle.operation_notation.proofs.Starts.{Headed, Starts, starts_then, starts_one, starts_either, among, Excludes, excludes_among, excludes_type_name, excludes_value_name, type_named, value_named, begins_any, headed_not, fewer, fewer_one, starts_the, starts_word}
use Rattle.operation_notation.proofs.Chains.{map_law, closes, closes_under, closed_by, excludes_text, MayStart, Picked, picks, weaker_headed, word_or_named, more_or_named, starts_maybe, or_left, or_right, or_named, excludes_or_named, next, law_any, law_behind, starts_behind, may_starts, may_then, may_nothing, may_either, behind_may, behind_starts, behind_word, same_excludes, law_placed, pick, pick_may, maybe_word, law_listed}

-- ---- tokens

pub law_number : (most : ℕ) → Law (One (number_of most)) (number_at most) never
unfolding number_at
law_number most = law_one (number_of most)

pub law_int : Law (One int_of) int_at never
unfolding int_at
law_int = law_one int_of

law_end : Law (One end_of) end_at never
unfolding end_at
law_end = law_one end_of

pub law_type_name : Law (One type_name_of) type_name_at never
unfolding type_name_at
law_type_name = law_one type_name_of

pub law_value_name : Law (One value_name_of) value_name_at never
unfolding value_name_at
law_value_name = law_one value_name_of

pub law_number_64 : Law Number64 number_64_at never
unfolding number_64_at
law_number_64 = next (law_number most_signed) (λ n. law_nothing _ never)

-- the first token of a one-token rule passes whatever test is passed by all that it takes
pub any_token : Lexeme → Bool
any_token t = true

pub starts_any : {A : Type 0} (test : Lexeme → Option A) → Starts (One test) any_token
unfolding any_token
starts_any test = starts_one test any_token (λ t a e. refl)

pub value_name_is : (t : Lexeme) (a : Located) → value_name_of t ≡ Some a → value_named t ≡ true
unfolding value_name_of
value_name_is t a e = go (value_named t) refl e
  where
    go : (b : Bool) → value_named t ≡ b → (if b then Some (located t) else None) ≡ Some a → b ≡ true
    go true is h = refl
    go false is h = absurd cc

pub starts_value_name : Starts (One value_name_of) value_named
starts_value_name = starts_one value_name_of value_named value_name_is

pub type_name_is : (t : Lexeme) (a : Located) → type_name_of t ≡ Some a → type_named t ≡ true
unfolding type_name_of
type_name_is t a e = go (type_named t) refl e
  where
    go : (b : Bool) → type_named t ≡ b → (if b then Some (located t) else None) ≡ Some a → b ≡ true
    go true is h = refl
    go false is h = absurd cc

pub starts_type_name : Starts (One type_name_of) type_named
starts_type_name = starts_one type_name_of type_named type_name_is

-- ---- ranges and items

law_range : Law Range range_at never
unfolding range_at
law_range = next (law_word (codes "(")) (λ _. law_placed any_token (λ at. starts_then _ _ any_token (starts_any end_of))
    (λ at. next law_end (λ low. next (law_word (codes "..")) (λ _. next law_end (λ high. next (law_word (codes ")")) (λ _. law_nothing _ never))))))

law_size : Law Size size_at never
unfolding size_at
law_size = next (law_word (codes "(")) (λ _. next (law_word (codes "SIZE")) (λ _. next (law_word (codes "(")) (λ _.
    law_placed any_token (λ at. starts_then _ _ any_token (starts_then _ _ any_token (starts_any (number_of most_signed))))
    (λ at. next law_number_64 (λ low. next (law_word (codes "..")) (λ _. next law_number_64 (λ high. next (law_word (codes ")")) (λ _. next (law_word (codes ")")) (λ _. law_nothing _ never)))))))))

law_item : Law Item item_at never
unfolding item_at
law_item = next law_value_name (λ name. next (law_word (codes "(")) (λ _. next law_int (λ number. next (law_word (codes ")")) (λ _. law_nothing _ never))))

-- one or more, parted by a word and closed by another
law_items : Law Items items_at never
unfolding items_at
law_items = next (law_word (codes "{")) (λ _. behind_word (codes "," ∷ []) (codes "}") (law_listed [] (codes "," ∷ []) (codes ",") (law_any [] law_item) refl refl refl) (λ items _. law_nothing items never) refl)

-- ---- tags

abbrev classes : List (List ℕ)
classes = codes "UNIVERSAL" ∷ codes "APPLICATION" ∷ codes "PRIVATE" ∷ []

-- a word that stands for a value
pub law_stands : {A : Type 0} (w : List ℕ) (a : A) → Law (Then (The w) (λ _. Nothing a)) (word_at w >>= λ _. give a) never
law_stands w a = next (law_word w) (λ _. law_nothing a never)

pub starts_stands : {A : Type 0} (w : List ℕ) (a : A) → Starts (Then (The w) (λ _. Nothing a)) (λ t. same t.text w)
starts_stands w a = starts_then (The w) _ (λ t. same t.text w) (starts_the w)

pub may_stands : {A : Type 0} (w : List ℕ) (a : A) (ws : List (List ℕ)) → list_any (bytes_eq w) ws ≡ true → MayStart (Then (The w) (λ _. Nothing a)) (among ws)
may_stands w a ws e = may_starts (starts_then (The w) _ (among ws) (starts_word w ws e))

law_class : Law Class class_at (begins_any classes)
unfolding class_at
law_class =
    pick_may (begins_any classes) (codes "UNIVERSAL") (among (codes "APPLICATION" ∷ codes "PRIVATE" ∷ [])) (law_stands (codes "UNIVERSAL") 0)
    (pick_may (begins_any classes) (codes "APPLICATION") (among (codes "PRIVATE" ∷ [])) (law_stands (codes "APPLICATION") 1)
    (pick_may (begins_any classes) (codes "PRIVATE") (among []) (law_stands (codes "PRIVATE") 3) (law_nothing 2 (begins_any classes)) (starts_stands (codes "PRIVATE") 3) (may_nothing 2 (among []))
    (excludes_among [] (codes "PRIVATE" ∷ []) refl) (fewer_one (codes "PRIVATE") classes refl) (λ rest st. refl) (λ rest st. st))
    (starts_stands (codes "APPLICATION") 1) (may_either (may_stands (codes "PRIVATE") 3 (codes "PRIVATE" ∷ []) refl) (may_nothing 2 (among (codes "PRIVATE" ∷ []))))
    (excludes_among (codes "PRIVATE" ∷ []) (codes "APPLICATION" ∷ []) refl) (fewer_one (codes "APPLICATION") classes refl) (λ rest st. refl) (λ rest st. st))
    (starts_stands (codes "UNIVERSAL") 0) (may_either (may_stands (codes "APPLICATION") 1 (codes "APPLICATION" ∷ codes "PRIVATE" ∷ []) refl) (may_either (may_stands (codes "PRIVATE") 3 (codes "APPLICATION" ∷ codes "PRIVATE" ∷ []) refl) (may_nothing 2 (among (codes "APPLICATION" ∷ codes "PRIVATE" ∷ [])))))
    (excludes_among (codes "APPLICATION" ∷ codes "PRIVATE" ∷ []) (codes "UNIVERSAL" ∷ []) refl) (fewer_one (codes "UNIVERSAL") classes refl) (λ rest st. refl) (λ rest st. st)

abbrev manners : List (List ℕ)
manners = codes "IMPLICIT" ∷ codes "EXPLICIT" ∷ []

law_explicit : Law Explicit explicit_at (begins_any manners)
unfolding explicit_at
law_explicit =
    pick_may (begins_any manners) (codes "IMPLICIT") (among (codes "EXPLICIT" ∷ [])) (law_stands (codes "IMPLICIT") (Some false))
    (pick_may (begins_any manners) (codes "EXPLICIT") (among []) (law_stands (codes "EXPLICIT") (Some true)) (law_nothing None (begins_any manners)) (starts_stands (codes "EXPLICIT") (Some true)) (may_nothing None (among []))
    (excludes_among [] (codes "EXPLICIT" ∷ []) refl) (fewer_one (codes "EXPLICIT") manners refl) (λ rest st. refl) (λ rest st. st))
    (starts_stands (codes "IMPLICIT") (Some false)) (may_either (may_stands (codes "EXPLICIT") (Some true) (codes "EXPLICIT" ∷ []) refl) (may_nothing None (among (codes "EXPLICIT" ∷ []))))
    (excludes_among (codes "EXPLICIT" ∷ []) (codes "IMPLICIT" ∷ []) refl) (fewer_one (codes "IMPLICIT") manners refl) (λ rest st. refl) (λ rest st. st)

-- a number is none of these words
abbrev numbered : ℕ → Lexeme → Bool
numbered most t = is_some (number_of most t)

starts_number : (most : ℕ) → Starts (One (number_of most)) (numbered most)
starts_number most = starts_one (number_of most) (numbered most) (λ t a e. ap is_some e)

excludes_classes : Excludes (numbered most_32) classes
unfolding number
excludes_classes = excludes_text (λ x. is_some (number most_32 x)) classes refl

law_tag : Law Tag tag_at (begins_any manners)
unfolding tag_at
law_tag = next (law_word (codes "[")) (λ _. behind_starts classes (numbered most_32) law_class
    (λ class. next (law_number most_32) (λ number. next (law_word (codes "]")) (λ _. map_law _ law_explicit)))
    (λ class. starts_then _ _ (numbered most_32) (starts_number most_32)) excludes_classes)

-- ---- parts

-- with which a type may go on, and a part
abbrev pub type_stops : List (List ℕ)
type_stops = codes "(" ∷ codes "{" ∷ []

abbrev pub part_stops : List (List ℕ)
part_stops = codes "OPTIONAL" ∷ codes "DEFAULT" ∷ codes "(" ∷ codes "{" ∷ []

abbrev Defaulted : List Lexeme → Absence → Type 0
Defaulted = Then (The (codes "DEFAULT")) (λ _. Then (One dflt_of) (λ d. Nothing (by_default d)))

law_defaulted : Law Defaulted (word_at (codes "DEFAULT") >>= λ _. dflt_at >>= λ d. give (by_default d)) never
unfolding dflt_at
law_defaulted = next (law_word (codes "DEFAULT")) (λ _. map_law _ (law_one dflt_of))

law_absence : Law (Absent true) absence_at (begins_any part_stops)
unfolding absence_at
law_absence =
    pick_may (begins_any part_stops) (codes "OPTIONAL") (among (codes "DEFAULT" ∷ [])) (law_stands (codes "OPTIONAL") optional)
    (pick_may (begins_any part_stops) (codes "DEFAULT") (among []) law_defaulted (law_nothing standing (begins_any part_stops)) (starts_then _ _ _ (starts_the (codes "DEFAULT"))) (may_nothing standing (among []))
    (excludes_among [] (codes "DEFAULT" ∷ []) refl) (fewer_one (codes "DEFAULT") part_stops refl) (λ rest st. refl) (λ rest st. st))
    (starts_stands (codes "OPTIONAL") optional) (may_either (may_starts (starts_then _ _ _ (starts_word (codes "DEFAULT") (codes "DEFAULT" ∷ []) refl))) (may_nothing standing (among (codes "DEFAULT" ∷ []))))
    (excludes_among (codes "DEFAULT" ∷ []) (codes "OPTIONAL" ∷ []) refl) (fewer_one (codes "OPTIONAL") part_stops refl) (λ rest st. refl) (λ rest st. st)

law_absent : (may : Bool) → Law (Absent may) (absent_at may) (begins_any part_stops)
unfolding absent_at
law_absent false = law_nothing standing (begins_any part_stops)
law_absent true = law_absence

abbrev absences : List (List ℕ)
absences = codes "OPTIONAL" ∷ codes "DEFAULT" ∷ []

may_absent : (may : Bool) → MayStart (Absent may) (among absences)
may_absent false = may_nothing standing (among absences)
may_absent true = may_either (may_stands (codes "OPTIONAL") optional absences refl) (may_either (may_starts (starts_then _ _ _ (starts_word (codes "DEFAULT") absences refl))) (may_nothing standing (among absences)))

module _ (Inner : List Lexeme → TypeTree → Type 0) (inner : List Lexeme → Read TypeTree) (law : Law Inner inner (begins_any type_stops)) where
  law_part : (may : Bool) → Law (Part may Inner) (part_at may inner) (begins_any part_stops)
  unfolding part_at
  law_part may = next law_value_name (λ name. behind_may type_stops part_stops (among absences) law
      (λ of. map_law _ (law_absent may))
      (λ of. may_then (may_absent may) (λ o. may_nothing _ (among absences)))
      (excludes_among absences type_stops refl) refl)

  law_listed_parts : (may : Bool) → Law (Listed (codes ",") (Part may Inner)) (listed_at (codes ",") (part_at may inner)) (begins_any (codes "," ∷ part_stops))
  law_listed_parts may = law_listed part_stops (codes "," ∷ part_stops) (codes ",") (law_part may) refl refl refl

  starts_part : (may : Bool) → Starts (Part may Inner) value_named
  starts_part may = starts_then _ _ value_named (starts_value_name)

  law_parts : Law (Parts Inner) (parts_at inner) never
  unfolding parts_at
  law_parts = next (law_word (codes "{")) (λ _. closed_by (codes "}") (law_choice (begins (codes "}")) _ _ _ _ never _ (closes (codes "}")) (law_nothing [] never) (law_listed_parts true)
      (record { tells = λ text a rest d st. ap (λ (z : List Lexeme). begins (codes "}") (z ++ rest)) d.none ∙ not-false _ st; own_stops = λ rest st. refl })
      (record { tells = λ text a rest d st. headed_not value_named (codes "}") text rest (starts_then _ _ value_named (starts_part true) text a d) (excludes_value_name (codes "}" ∷ []) refl); own_stops = closes_under (codes "}") (codes "," ∷ part_stops) refl }))
      (λ parts _. law_nothing parts never))

  law_alternatives : Law (Alternatives Inner) (alternatives_at inner) never
  unfolding alternatives_at
  law_alternatives = next (law_word (codes "{")) (λ _. behind_word (codes "," ∷ part_stops) (codes "}") (law_listed_parts false) (λ parts _. law_nothing parts never) refl)

-- ---- types that hold no others

law_integer : Law Integer integer_at (begins_any type_stops)
unfolding integer_at
law_integer = next (law_word (codes "INTEGER")) (λ _. map_law _ (maybe_word (begins_any type_stops) (codes "(") law_range (starts_behind (codes "(") _) (fewer_one (codes "(") type_stops refl) (λ rest st. refl)))

law_octets : Law OctetString octets_at (begins_any type_stops)
unfolding octets_at
law_octets = next (law_word (codes "OCTET")) (λ _. next (law_word (codes "STRING")) (λ _. map_law _ (maybe_word (begins_any type_stops) (codes "(") law_size (starts_behind (codes "(") _) (fewer_one (codes "(") type_stops refl) (λ rest st. refl))))

abbrev kinds : List (List ℕ)
kinds = codes "UTF8String" ∷ codes "IA5String" ∷ codes "VisibleString" ∷ codes "PrintableString" ∷ codes "NumericString" ∷ []

pub kinds_none : (t : Lexeme) → among kinds t ≡ false → text_kind_word t.text ≡ None
unfolding text_kind_word
kinds_none t e =
    let s : List ℕ → Bool = same t.text in
    let p1 = or_parts (s (codes "UTF8String")) _ e in
    let p2 = or_parts (s (codes "IA5String")) _ p1.1 in
    let p3 = or_parts (s (codes "VisibleString")) _ p2.1 in
    let p4 = or_parts (s (codes "PrintableString")) _ p3.1 in
    let p5 = or_parts (s (codes "NumericString")) _ p4.1 in
    rw (p1.0, p2.0, p3.0, p4.0, p5.0) refl

kind_among : (t : Lexeme) (k : ℕ) → text_kind_of t ≡ Some k → among kinds t ≡ true
kind_among t k e = go (among kinds t) refl
  where
    go : (b : Bool) → among kinds t ≡ b → b ≡ true
    go true m = refl
    go false m = let none : text_kind_word t.text ≡ None = kinds_none t m in absurd cc

law_text : Law Text (text_kind_at >>= λ kind. give (text kind)) never
unfolding text_kind_at
law_text = map_law _ (law_one text_kind_of)

brace_law : (wide : Bool) (name : Located) → Law (Where wide (Then (The (codes "{")) (λ _. Nothing (named name)))) (λ ts. if wide then (word_at (codes "{") >>= λ _. give (named name)) ts else refuse_as Unsupported ts) never
brace_law true name = law_stands (codes "{") (named name)
brace_law false name = record { found = λ ts a rest e. absurd cc; only = λ text a rest d st. absurd d }

starts_brace : (wide : Bool) (name : Located) → Starts (Where wide (Then (The (codes "{")) (λ _. Nothing (named name)))) (λ t. same t.text (codes "{"))
starts_brace true name = starts_stands (codes "{") (named name)
starts_brace false name = λ text a d. absurd d

law_named_end : (ext : Extent) (name : Located) → Law (Either (Where ext.wide (Then (The (codes "{")) (λ _. Nothing (named name)))) (Nothing (named name))) (named_at ext name) (begins_any type_stops)
law_named_end ext name = pick_may (begins_any type_stops) (codes "{") (among []) (brace_law ext.wide name) (law_nothing (named name) (begins_any type_stops)) (starts_brace ext.wide name) (may_nothing (named name) (among []))
    (excludes_among [] (codes "{" ∷ []) refl) (fewer_one (codes "{") type_stops refl) (λ rest st. refl) (λ rest st. st)

law_named : (ext : Extent) → Law (Named ext) (type_name_at >>= named_at ext) (begins_any type_stops)
law_named ext = next law_type_name (law_named_end ext)

starts_text : Starts Text (among kinds)
starts_text = starts_then _ _ (among kinds) (starts_one text_kind_of (among kinds) kind_among)

starts_named : (ext : Extent) → Starts (Named ext) type_named
starts_named ext = starts_then _ _ type_named starts_type_name

some_kind : (t : Lexeme) (k : ℕ) → text_kind_of t ≡ Some k → is_some (text_kind_of t) ≡ true
some_kind t k e = ap is_some e

starts_kind : Starts Text (λ t. is_some (text_kind_of t))
starts_kind = starts_then _ _ (λ t. is_some (text_kind_of t)) (starts_one text_kind_of (λ t. is_some (text_kind_of t)) some_kind)

kind_of_headed : (y rest : List Lexeme) → Headed (λ t. is_some (text_kind_of t)) y → is_some (text_kind (y ++ rest)) ≡ true
kind_of_headed y rest h = ap (λ (z : List Lexeme). is_some (text_kind (z ++ rest))) h.is ∙ h.passes

no_kind_of_headed : (y rest : List Lexeme) → Headed type_named y → is_some (text_kind (y ++ rest)) ≡ false
no_kind_of_headed y rest h =
    ap (λ (z : List Lexeme). is_some (text_kind (z ++ rest))) h.is
    ∙ ap is_some (kinds_none h.token (excludes_type_name kinds refl h.token h.passes))

law_text_or_name : (ext : Extent) → Picked (Either Text (Named ext)) (text_or_name_at ext) kinds (begins_any type_stops)
unfolding text_or_name_at
law_text_or_name ext = record {
  law = law_choice (λ ts. is_some (text_kind ts)) _ _ _ _ never (begins_any type_stops) (begins_any type_stops) law_text (law_named ext)
      (record { tells = λ text a rest d st. kind_of_headed text rest (starts_kind text a d); own_stops = λ rest st. refl })
      (record { tells = λ text a rest d st. no_kind_of_headed text rest (starts_named ext text a d); own_stops = λ rest st. st });
  starts = starts_either _ _ (or_named kinds) (λ text a d. weaker_headed (among kinds) (or_named kinds) text (λ t e. or_left _ (type_named t) e) (starts_text text a d))
      (λ text a d. weaker_headed type_named (or_named kinds) text (λ t e. or_right (among kinds t) _ e) (starts_named ext text a d));
}

abbrev leaf_words : List (List ℕ)
leaf_words = codes "BOOLEAN" ∷ codes "NULL" ∷ codes "INTEGER" ∷ codes "ENUMERATED" ∷ codes "OCTET" ∷ codes "BIT" ∷ codes "OBJECT" ∷ kinds

law_leaf : (ext : Extent) → Picked (Leaf ext) (leaf_at ext) leaf_words (begins_any type_stops)
unfolding leaf_at
law_leaf ext =
    picks (codes "BOOLEAN") (law_stands (codes "BOOLEAN") _) (starts_stands (codes "BOOLEAN") _) (λ rest st. refl) refl refl
    (picks (codes "NULL") (law_stands (codes "NULL") _) (starts_stands (codes "NULL") _) (λ rest st. refl) refl refl
    (picks (codes "INTEGER") law_integer (starts_then _ _ _ (starts_the (codes "INTEGER"))) (λ rest st. st) refl refl
    (picks (codes "ENUMERATED") (next (law_word (codes "ENUMERATED")) (λ _. map_law _ law_items)) (starts_then _ _ _ (starts_the (codes "ENUMERATED"))) (λ rest st. refl) refl refl
    (picks (codes "OCTET") law_octets (starts_then _ _ _ (starts_the (codes "OCTET"))) (λ rest st. st) refl refl
    (picks (codes "BIT") (next (law_word (codes "BIT")) (λ _. law_stands (codes "STRING") _)) (starts_then _ _ _ (starts_the (codes "BIT"))) (λ rest st. refl) refl refl
    (picks (codes "OBJECT") (next (law_word (codes "OBJECT")) (λ _. law_stands (codes "IDENTIFIER") _)) (starts_then _ _ _ (starts_the (codes "OBJECT"))) (λ rest st. refl) refl refl
    (law_text_or_name ext)))))))

-- ---- types that hold types

abbrev pub plain_words : List (List ℕ)
plain_words = codes "SEQUENCE" ∷ codes "SET" ∷ codes "CHOICE" ∷ leaf_words

module _ (ext : Extent) (Inner : List Lexeme → TypeTree → Type 0) (inner : List Lexeme → Read TypeTree) (law : Law Inner inner (begins_any type_stops)) where
  law_sequence : Law (Sequence Inner) (sequence_at inner) (begins_any type_stops)
  unfolding sequence_at
  law_sequence = next (law_word (codes "SEQUENCE")) (λ _. pick (begins_any type_stops) (codes "OF") (λ t. same t.text (codes "{"))
      (law_behind (codes "OF") (map_law _ law)) (map_law _ (law_parts Inner inner law))
      (starts_behind (codes "OF") _) (starts_then _ _ _ (starts_then _ _ _ (starts_the (codes "{")))) (same_excludes (codes "{") (codes "OF" ∷ []) refl) (λ rest st. st) (λ rest st. refl))

  law_choice_type : Law (Choice Inner) (choice_at inner) (begins_any type_stops)
  unfolding choice_at
  law_choice_type = next (law_word (codes "CHOICE")) (λ _. law_any type_stops (map_law _ (law_alternatives Inner inner law)))

  law_set : Law (Set Inner) (set_at inner) (begins_any type_stops)
  unfolding set_at
  law_set = next (law_word (codes "SET")) (λ _. pick (begins_any type_stops) (codes "OF") (λ t. same t.text (codes "{"))
      (law_behind (codes "OF") (map_law _ law)) (map_law _ (law_parts Inner inner law))
      (starts_behind (codes "OF") _) (starts_then _ _ _ (starts_then _ _ _ (starts_the (codes "{")))) (same_excludes (codes "{") (codes "OF" ∷ []) refl) (λ rest st. st) (λ rest st. refl))

  law_plain : Picked (Plain ext Inner) (plain_at ext inner) plain_words (begins_any type_stops)
  unfolding plain_at
  law_plain =
      picks (codes "SEQUENCE") law_sequence (starts_behind (codes "SEQUENCE") _) (λ rest st. st) refl refl
      (picks (codes "SET") law_set (starts_behind (codes "SET") _) (λ rest st. st) refl refl
      (picks (codes "CHOICE") law_choice_type (starts_behind (codes "CHOICE") _) (λ rest st. st) refl refl (law_leaf ext)))

  -- a tag, or none, in front of words and names
  law_type_behind : (at : Place) → Law (TypeBehind ext Inner at) (maybe_at (codes "[") tag_at >>= λ tag. plain_at ext inner >>= λ plain. give (type_tree at.line at.column tag plain)) (begins_any type_stops)
  law_type_behind at = behind_starts (codes "[" ∷ manners) (or_named plain_words)
      (maybe_word (begins_any (codes "[" ∷ manners)) (codes "[") law_tag (starts_then _ _ _ (starts_the (codes "["))) (fewer_one (codes "[") (codes "[" ∷ manners) refl) (fewer manners (codes "[" ∷ manners) refl))
      (λ tag. map_law _ law_plain.law)
      (λ tag. starts_then _ _ (or_named plain_words) law_plain.starts) (excludes_or_named plain_words (codes "[" ∷ manners) refl refl)

  pub starts_type_behind : (at : Place) → Starts (TypeBehind ext Inner at) (or_named (codes "[" ∷ plain_words))
  starts_type_behind at x a d = starts_maybe (or_named (codes "[" ∷ plain_words))
      (λ y b e. weaker_headed _ (or_named (codes "[" ∷ plain_words)) y (word_or_named (codes "[") plain_words) (starts_then _ _ _ (starts_the (codes "[")) y b e))
      (λ o y b e. weaker_headed _ (or_named (codes "[" ∷ plain_words)) y (more_or_named (codes "[") plain_words) (starts_then _ _ (or_named plain_words) law_plain.starts y b e))
      x a d

  law_type_text : Law (Placed (TypeBehind ext Inner)) (type_text_at ext inner) (begins_any type_stops)
  unfolding type_text_at
  law_type_text = law_placed (or_named (codes "[" ∷ plain_words)) starts_type_behind law_type_behind

-- a mark, where one may stand
pub mark_is : (t : Lexeme) (a : TypeTree) → mark_of t ≡ Some a → is_empty t.text ≡ true
mark_is t a e = go (is_empty t.text) refl e
  where
    go : (b : Bool) → is_empty t.text ≡ b → (if b then Some (type_tree t.line t.column None null) else None) ≡ Some a → b ≡ true
    go true is h = refl
    go false is h = absurd cc

mark_found : (b : Bool) (ts : List Lexeme) (a : TypeTree) (rest : List Lexeme) → (if b then token_at mark_of ts else refuse_as (deep_kind ts) ts) ≡ Ok (a, rest) → Front (One mark_of) ts a rest
mark_found true ts a rest e = (law_one mark_of).found ts a rest e
mark_found false ts a rest e = absurd cc

law_mark : (marks : Bool) → Law (Where marks (One mark_of)) (λ ts. if marks && starts_mark ts then token_at mark_of ts else refuse_as (deep_kind ts) ts) (begins_any type_stops)
law_mark true = record {
  found = λ ts a rest e. mark_found (starts_mark ts) ts a rest e;
  only = λ text a rest d st.
      ap (λ (b : Bool). if b then token_at mark_of (text ++ rest) else refuse_as (deep_kind (text ++ rest)) (text ++ rest)) (ap (λ (z : List Lexeme). starts_mark (z ++ rest)) d.alone ∙ mark_is d.token a d.passes)
      ∙ (law_one mark_of).only text a rest d refl;
}
law_mark false = record { found = λ ts a rest e. absurd cc; only = λ text a rest d st. absurd d }

law_no_type : (ext : Extent) → Law (Type_of ext 0) (type_at ext 0) (begins_any type_stops)
unfolding Type_of type_at
law_no_type ext = law_mark ext.marked

pub law_type : (ext : Extent) (levels : ℕ) → Law (Type_of ext levels) (type_at ext levels) (begins_any type_stops)
unfolding Type_of type_at
law_type ext zero = (law_no_type ext)
law_type ext (suc n) = law_type_text ext (Type_of ext n) (type_at ext n) (law_type ext n)

pub law_outer_type : (ext : Extent) → Law (OuterType ext) (outer_type_at ext) (begins_any type_stops)
unfolding outer_type_at
law_outer_type ext = law_type ext ext.levels
