-- Types one level too deep: each token with which a type begins goes on in the wide grammar, and no other does.
use Rattle.std.proofs.Common.{codes, ◌≡◌, ℕ, zero, suc, Bool, true, false, List, [], ◌∷◌, Some, None, Ok, refl, sym, subst, ◌∙◌, append-nil, inl, inr}
use Rattle.std.proofs.lemmas.Bool.{or_cases}
use Rattle.std.specs.Prelude.{if◌then◌else◌}
use Rattle.std.specs.List.{AllByRecursion}
use Rattle.notation_tokens.specs.Lexeme.{Lexeme, same}
use Rattle.notation_tokens.specs.Words.{place, located, word_of, number, int, is_value_name, type_name_of, value_name_of, text_kind_word}
use Rattle.notation_tokens.specs.Lexing.{first_place}
use Rattle.operation_notation.specs.Reading.{Read, refuse_as, kind_at, word_at, number_at, int_at, value_name_at, many_at}
use Rattle.operation_notation.specs.ReadingTypes.{item_at, items_at, class_at, explicit_at, tag_at, absence_at, absent_at, part_at, parts_at, alternatives_at, integer_at, octets_at, text_kind_at, text_or_name_at, leaf_at, sequence_at, set_at, choice_at, plain_at, type_text_at, type_words, starts_type, deep_kind, type_at, outer_type_at}
use Rattle.operation_notation.specs.Grammar.{Placed}
use Rattle.operation_notation.specs.GrammarTypes.{Extent, narrow, marked, wide, Null, TypeBehind, Type_of, OuterType}
use Rattle.operation_notation.specs.GrammarModules.{Module}
use Rattle.operation_notation.specs.ReadingModules.{whole_at}
use Rattle.operation_notation.specs.Tree.{TypeTree, type_tree, null, named}
use Rattle.notation_tokens.specs.declared.token.TokenKind.{TokenKind}
use Rattle.notation_tokens.specs.declared.token.TokenKind.TheVariants.{Word, Number, Sign}
use Rattle.notation_tokens.specs.declared.faults.NotationKind.TheVariants.{Unsupported}
use Rattle.operation_notation.proofs.Starts.{among, among_all, type_named}
use Rattle.operation_notation.proofs.TypeLaws.{law_type, starts_type_behind}
use Rattle.operation_notation.proofs.Begun.{AreFillers, Filled, Goes, KindOf, Begun, begun_refuse, word_passes}
use Rattle.operation_notation.proofs.BegunRules.{b_type_text}
use Rattle.operation_notation.proofs.BegunModules.{b_whole}

-- ---- a text for each token with which a type begins

abbrev tok : TokenKind → List ℕ → Lexeme
tok kind text = record { kind = kind; text = text; line = 1; column = 1 }

-- a type of two levels at most that begins with the token
record Sample (t : Lexeme) : Type 0 where
  back : List Lexeme
  value : TypeTree
  filler : AreFillers back
  spelled : Type_of wide 2 (t ∷ back) value

-- what is read so is spelled so
read_so : (t : Lexeme) (back : List Lexeme) (value : TypeTree) → AreFillers back → type_at wide 2 (t ∷ back) ≡ Ok (value, []) → Sample t
read_so t back value filler e =
    let x = (law_type wide 2).found (t ∷ back) value [] e in
    record { back = back; value = value; filler = filler; spelled = subst (λ (z : List Lexeme). Type_of wide 2 z value) (sym (x.parts ∙ append-nil x.text)) x.spelled }

sample_tagged : (kind : TokenKind) (line column : ℕ) → Sample (record { kind = kind; text = codes "["; line = line; column = column })
unfolding same type_at type_text_at plain_at sequence_at set_at choice_at alternatives_at parts_at part_at absence_at absent_at leaf_at text_or_name_at integer_at octets_at items_at item_at tag_at class_at explicit_at word_at word_of number_at number int_at int value_name_at value_name_of is_value_name text_kind_at text_kind_word many_at
sample_tagged kind line column = read_so _ (tok Number (codes "0") ∷ tok Sign (codes "]") ∷ tok Word (codes "NULL") ∷ []) _ (record { form = inl refl; at = refl }, (record { form = inl refl; at = refl }, (record { form = inl refl; at = refl }, tt))) refl

sample_sequence : (kind : TokenKind) (line column : ℕ) → Sample (record { kind = kind; text = codes "SEQUENCE"; line = line; column = column })
unfolding same type_at type_text_at plain_at sequence_at set_at choice_at alternatives_at parts_at part_at absence_at absent_at leaf_at text_or_name_at integer_at octets_at items_at item_at tag_at class_at explicit_at word_at word_of number_at number int_at int value_name_at value_name_of is_value_name text_kind_at text_kind_word many_at
sample_sequence kind line column = read_so _ (tok Sign (codes "{") ∷ tok Sign (codes "}") ∷ []) _ (record { form = inl refl; at = refl }, (record { form = inl refl; at = refl }, tt)) refl

sample_set : (kind : TokenKind) (line column : ℕ) → Sample (record { kind = kind; text = codes "SET"; line = line; column = column })
unfolding same type_at type_text_at plain_at sequence_at set_at choice_at alternatives_at parts_at part_at absence_at absent_at leaf_at text_or_name_at integer_at octets_at items_at item_at tag_at class_at explicit_at word_at word_of number_at number int_at int value_name_at value_name_of is_value_name text_kind_at text_kind_word many_at
sample_set kind line column = read_so _ (tok Sign (codes "{") ∷ tok Sign (codes "}") ∷ []) _ (record { form = inl refl; at = refl }, (record { form = inl refl; at = refl }, tt)) refl

sample_choice : (kind : TokenKind) (line column : ℕ) → Sample (record { kind = kind; text = codes "CHOICE"; line = line; column = column })
unfolding same type_at type_text_at plain_at sequence_at set_at choice_at alternatives_at parts_at part_at absence_at absent_at leaf_at text_or_name_at integer_at octets_at items_at item_at tag_at class_at explicit_at word_at word_of number_at number int_at int value_name_at value_name_of is_value_name text_kind_at text_kind_word many_at
sample_choice kind line column = read_so _ (tok Sign (codes "{") ∷ tok Word (codes "a") ∷ tok Word (codes "NULL") ∷ tok Sign (codes "}") ∷ []) _ (record { form = inl refl; at = refl }, (record { form = inl refl; at = refl }, (record { form = inl refl; at = refl }, (record { form = inl refl; at = refl }, tt)))) refl

sample_boolean : (kind : TokenKind) (line column : ℕ) → Sample (record { kind = kind; text = codes "BOOLEAN"; line = line; column = column })
unfolding same type_at type_text_at plain_at sequence_at set_at choice_at alternatives_at parts_at part_at absence_at absent_at leaf_at text_or_name_at integer_at octets_at items_at item_at tag_at class_at explicit_at word_at word_of number_at number int_at int value_name_at value_name_of is_value_name text_kind_at text_kind_word many_at
sample_boolean kind line column = read_so _ ([]) _ tt refl

sample_null : (kind : TokenKind) (line column : ℕ) → Sample (record { kind = kind; text = codes "NULL"; line = line; column = column })
unfolding same type_at type_text_at plain_at sequence_at set_at choice_at alternatives_at parts_at part_at absence_at absent_at leaf_at text_or_name_at integer_at octets_at items_at item_at tag_at class_at explicit_at word_at word_of number_at number int_at int value_name_at value_name_of is_value_name text_kind_at text_kind_word many_at
sample_null kind line column = read_so _ ([]) _ tt refl

sample_integer : (kind : TokenKind) (line column : ℕ) → Sample (record { kind = kind; text = codes "INTEGER"; line = line; column = column })
unfolding same type_at type_text_at plain_at sequence_at set_at choice_at alternatives_at parts_at part_at absence_at absent_at leaf_at text_or_name_at integer_at octets_at items_at item_at tag_at class_at explicit_at word_at word_of number_at number int_at int value_name_at value_name_of is_value_name text_kind_at text_kind_word many_at
sample_integer kind line column = read_so _ ([]) _ tt refl

sample_enumerated : (kind : TokenKind) (line column : ℕ) → Sample (record { kind = kind; text = codes "ENUMERATED"; line = line; column = column })
unfolding same type_at type_text_at plain_at sequence_at set_at choice_at alternatives_at parts_at part_at absence_at absent_at leaf_at text_or_name_at integer_at octets_at items_at item_at tag_at class_at explicit_at word_at word_of number_at number int_at int value_name_at value_name_of is_value_name text_kind_at text_kind_word many_at
sample_enumerated kind line column = read_so _ (tok Sign (codes "{") ∷ tok Word (codes "a") ∷ tok Sign (codes "(") ∷ tok Number (codes "0") ∷ tok Sign (codes ")") ∷ tok Sign (codes "}") ∷ []) _ (record { form = inl refl; at = refl }, (record { form = inl refl; at = refl }, (record { form = inl refl; at = refl }, (record { form = inl refl; at = refl }, (record { form = inl refl; at = refl }, (record { form = inl refl; at = refl }, tt)))))) refl

sample_octets : (kind : TokenKind) (line column : ℕ) → Sample (record { kind = kind; text = codes "OCTET"; line = line; column = column })
unfolding same type_at type_text_at plain_at sequence_at set_at choice_at alternatives_at parts_at part_at absence_at absent_at leaf_at text_or_name_at integer_at octets_at items_at item_at tag_at class_at explicit_at word_at word_of number_at number int_at int value_name_at value_name_of is_value_name text_kind_at text_kind_word many_at
sample_octets kind line column = read_so _ (tok Word (codes "STRING") ∷ []) _ (record { form = inl refl; at = refl }, tt) refl

sample_bits : (kind : TokenKind) (line column : ℕ) → Sample (record { kind = kind; text = codes "BIT"; line = line; column = column })
unfolding same type_at type_text_at plain_at sequence_at set_at choice_at alternatives_at parts_at part_at absence_at absent_at leaf_at text_or_name_at integer_at octets_at items_at item_at tag_at class_at explicit_at word_at word_of number_at number int_at int value_name_at value_name_of is_value_name text_kind_at text_kind_word many_at
sample_bits kind line column = read_so _ (tok Word (codes "STRING") ∷ []) _ (record { form = inl refl; at = refl }, tt) refl

sample_object : (kind : TokenKind) (line column : ℕ) → Sample (record { kind = kind; text = codes "OBJECT"; line = line; column = column })
unfolding same type_at type_text_at plain_at sequence_at set_at choice_at alternatives_at parts_at part_at absence_at absent_at leaf_at text_or_name_at integer_at octets_at items_at item_at tag_at class_at explicit_at word_at word_of number_at number int_at int value_name_at value_name_of is_value_name text_kind_at text_kind_word many_at
sample_object kind line column = read_so _ (tok Word (codes "IDENTIFIER") ∷ []) _ (record { form = inl refl; at = refl }, tt) refl

sample_text_0 : (kind : TokenKind) (line column : ℕ) → Sample (record { kind = kind; text = codes "UTF8String"; line = line; column = column })
unfolding same type_at type_text_at plain_at sequence_at set_at choice_at alternatives_at parts_at part_at absence_at absent_at leaf_at text_or_name_at integer_at octets_at items_at item_at tag_at class_at explicit_at word_at word_of number_at number int_at int value_name_at value_name_of is_value_name text_kind_at text_kind_word many_at
sample_text_0 kind line column = read_so _ ([]) _ tt refl

sample_text_1 : (kind : TokenKind) (line column : ℕ) → Sample (record { kind = kind; text = codes "IA5String"; line = line; column = column })
unfolding same type_at type_text_at plain_at sequence_at set_at choice_at alternatives_at parts_at part_at absence_at absent_at leaf_at text_or_name_at integer_at octets_at items_at item_at tag_at class_at explicit_at word_at word_of number_at number int_at int value_name_at value_name_of is_value_name text_kind_at text_kind_word many_at
sample_text_1 kind line column = read_so _ ([]) _ tt refl

sample_text_2 : (kind : TokenKind) (line column : ℕ) → Sample (record { kind = kind; text = codes "VisibleString"; line = line; column = column })
unfolding same type_at type_text_at plain_at sequence_at set_at choice_at alternatives_at parts_at part_at absence_at absent_at leaf_at text_or_name_at integer_at octets_at items_at item_at tag_at class_at explicit_at word_at word_of number_at number int_at int value_name_at value_name_of is_value_name text_kind_at text_kind_word many_at
sample_text_2 kind line column = read_so _ ([]) _ tt refl

sample_text_3 : (kind : TokenKind) (line column : ℕ) → Sample (record { kind = kind; text = codes "PrintableString"; line = line; column = column })
unfolding same type_at type_text_at plain_at sequence_at set_at choice_at alternatives_at parts_at part_at absence_at absent_at leaf_at text_or_name_at integer_at octets_at items_at item_at tag_at class_at explicit_at word_at word_of number_at number int_at int value_name_at value_name_of is_value_name text_kind_at text_kind_word many_at
sample_text_3 kind line column = read_so _ ([]) _ tt refl

sample_text_4 : (kind : TokenKind) (line column : ℕ) → Sample (record { kind = kind; text = codes "NumericString"; line = line; column = column })
unfolding same type_at type_text_at plain_at sequence_at set_at choice_at alternatives_at parts_at part_at absence_at absent_at leaf_at text_or_name_at integer_at octets_at items_at item_at tag_at class_at explicit_at word_at word_of number_at number int_at int value_name_at value_name_of is_value_name text_kind_at text_kind_word many_at
sample_text_4 kind line column = read_so _ ([]) _ tt refl

abbrev Sampled : List ℕ → Type 0
Sampled w = (kind : TokenKind) (line column : ℕ) → Sample (record { kind = kind; text = w; line = line; column = column })

samples : AllByRecursion Sampled type_words
samples = (sample_tagged, (sample_sequence, (sample_set, (sample_choice, (sample_boolean, (sample_null, (sample_integer, (sample_enumerated, (sample_octets, (sample_bits, (sample_object, (sample_text_0, (sample_text_1, (sample_text_2, (sample_text_3, (sample_text_4, tt))))))))))))))))

name_is : (t : Lexeme) → type_named t ≡ true → type_name_of t ≡ Some (located t)
unfolding type_name_of
name_is t e = rw e refl

sample_name : (t : Lexeme) → type_named t ≡ true → Sample t
unfolding Type_of
sample_name t e = record {
  back = [];
  value = type_tree t.line t.column None (named (located t));
  filler = tt;
  spelled = record {
    at = place t;
    starts = refl;
    spelled = record {
      front = [];
      back = t ∷ [];
      value = None;
      whole = refl;
      first = refl;
      second = record {
        front = t ∷ [];
        back = [];
        value = named (located t);
        whole = refl;
        first = inr (inr (inr (inr (inr (inr (inr (inr (inr (inr (inr (record { front = t ∷ []; back = []; value = located t; whole = refl; first = record { token = t; alone = refl; passes = name_is t e }; second = inr (record { none = refl; same_value = refl }) })))))))))));
        second = record { none = refl; same_value = refl };
      };
    };
  };
}

sample : (t : Lexeme) (u : List Lexeme) → starts_type (t ∷ u) ≡ true → Sample t
sample t u e =
    elim (or_cases (among type_words t) (type_named t) e) [
      | inl h ↦ among_all Sampled type_words t samples h t.kind t.line t.column
      | inr h ↦ sample_name t h
    ]

deep_goes : (t : Lexeme) (u : List Lexeme) → starts_type (t ∷ u) ≡ true → Goes (Type_of wide 2) [] t
deep_goes t u e = let x = sample t u e in record { back = x.back; value = x.value; filler = x.filler; spelled = x.spelled }

-- ---- kinds

wide_step : (t : Lexeme) (u : List Lexeme) (b : Bool) → starts_type (t ∷ u) ≡ b → KindOf true (Type_of wide 2) [] (t ∷ u) (if b then Unsupported else kind_at (t ∷ u))
wide_step t u true e = inr (refl, λ st. deep_goes t u e)
wide_step t u false e = inl refl

wide_deep : (ts : List Lexeme) → KindOf true (Type_of wide 2) [] ts (deep_kind ts)
unfolding deep_kind kind_at
wide_deep [] = refl
wide_deep (t ∷ u) = wide_step t u (starts_type (t ∷ u)) refl

weak_step : {A : Type 0} (r : List Lexeme → A → Type 0) (t : Lexeme) (u : List Lexeme) (b : Bool) → KindOf false r [] (t ∷ u) (if b then Unsupported else kind_at (t ∷ u))
weak_step r t u true = inr (refl, λ st. absurd cc)
weak_step r t u false = inl refl

weak_deep : {A : Type 0} (r : List Lexeme → A → Type 0) (ts : List Lexeme) → KindOf false r [] ts (deep_kind ts)
unfolding deep_kind kind_at
weak_deep r [] = refl
weak_deep r (t ∷ u) = weak_step r t u (starts_type (t ∷ u))

-- ---- types

abbrev null_token : Lexeme
null_token = tok Word (codes "NULL")

null_spelled : Null (null_token ∷ []) null
null_spelled = record { front = null_token ∷ []; back = []; value = first_place; whole = refl; first = record { token = null_token; alone = refl; passes = word_passes Word (codes "NULL") }; second = record { none = refl; same_value = refl } }

-- a type one level deep
one_level : (ext : Extent) (Inner : List Lexeme → TypeTree → Type 0) → Filled (Placed (TypeBehind ext Inner))
one_level ext Inner = record {
  text = null_token ∷ [];
  value = type_tree 1 1 None null;
  filler = (record { form = inl refl; at = refl }, tt);
  spelled = record {
    at = first_place;
    starts = refl;
    spelled = record {
      front = [];
      back = null_token ∷ [];
      value = None;
      whole = refl;
      first = refl;
      second = record { front = null_token ∷ []; back = []; value = null; whole = refl; first = inr (inr (inr (inr (inl null_spelled)))); second = record { none = refl; same_value = refl } };
    };
  };
}

abbrev deep_refused : List Lexeme → Read TypeTree
deep_refused ts = refuse_as (deep_kind ts) ts

abbrev mark : Lexeme
mark = tok Word []

mark_filled : Filled (Type_of marked 0)
unfolding Type_of
mark_filled = record { text = mark ∷ []; value = type_tree 1 1 None null; filler = (record { form = inr refl; at = refl }, tt); spelled = record { token = mark; alone = refl; passes = refl } }

mark_base : Begun false (Type_of marked 0) deep_refused
mark_base = begun_refuse deep_kind mark_filled (weak_deep (Type_of marked 0))

wide_filled : Filled (Type_of wide 2)
unfolding Type_of
wide_filled = one_level wide (Type_of wide 1)

wide_base : Begun true (Type_of wide 2) deep_refused
wide_base = begun_refuse deep_kind wide_filled wide_deep

-- so many levels more
abbrev up : ℕ → ℕ → ℕ
up zero base = base
up (suc n) base = suc (up n base)

-- reading so many levels, against the grammar of some levels more
b_type : (ext : Extent) (base : ℕ) → Begun ext.wide (Type_of ext base) deep_refused → (levels : ℕ) → Begun ext.wide (Type_of ext (up levels base)) (type_at narrow levels)
unfolding Type_of type_at
b_type ext base b zero = b
b_type ext base b (suc n) = b_type_text ext (Type_of ext (up n base)) (type_at narrow n) (b_type ext base b n) (starts_type_behind ext (Type_of ext (up n base)) (type_at ext (up n base)) (law_type ext (up n base)))

b_marked : Begun false (OuterType marked) (outer_type_at narrow)
unfolding outer_type_at
b_marked = b_type marked 0 mark_base 256

b_wide : Begun true (OuterType wide) (outer_type_at narrow)
unfolding outer_type_at
b_wide = b_type wide 2 wide_base 256

-- ---- modules

pub marked_module : Begun false (Module marked) (whole_at narrow)
marked_module = b_whole marked b_marked

pub wide_module : Begun true (Module wide) (whole_at narrow)
wide_module = b_whole wide b_wide
