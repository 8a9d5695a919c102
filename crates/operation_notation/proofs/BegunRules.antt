-- Where reading stops, what it passed begins a module: the rules that are the same however far the grammar goes, and types.
use Rattle.std.proofs.Common.{codes, ◌≡◌, ℕ, Bool, true, false, List, [], ◌∷◌, ◌++◌, Option, Some, None, Ok, Err, refl, sym, ap, ◌∙◌, arith, inl, inr}
use Rattle.std.specs.Prelude.{pos, is_some, nat_le, if◌then◌else◌}
use Rattle.std.proofs.lemmas.Bool.{le-leb}
use Rattle.osi_base.specs.Limits.{most_32, most_signed}
use Rattle.notation_tokens.specs.Forms.{has_form}
use Rattle.notation_tokens.specs.Lexeme.{Lexeme, same, begins, goes_on}
use Rattle.notation_tokens.specs.Words.{place, word_of, number, number_of, int, int_of, end_word, end_of, bool_word, bool_of, is_quoted, is_unsupported, is_type_name, is_value_name, type_name_of, value_name_of, arc_name_of, text_kind_word, text_kind_of, root_name}
use Rattle.operation_notation.specs.Reading.{◌>>=◌, give, Read, refuse_as, kind_at, word_at, type_name_at, value_name_at, number_at, number_64_at, int_at, end_at, bool_at, maybe_at, many_at, behind, listed_at}
use Rattle.operation_notation.specs.ReadingTypes.{starts_name, arc_name_at, bracketed_at, arc_at, alone_at, named_root_at, root_at, most_second, oid_at, range_at, size_at, item_at, items_at, class_at, explicit_at, tag_at, dflt_at, absence_at, absent_at, part_at, parts_at, alternatives_at, text_kind, text_kind_at, named_at, text_or_name_at, integer_at, octets_at, leaf_at, sequence_at, set_at, choice_at, plain_at, type_text_at}
use Rattle.operation_notation.specs.ReadingModules.{flag_at, flag_2_at, flag_or_at, passed_flag_at, names_at, named_list_at, priority_at, passed_priority_at, invoke_priority_at, local_at, global_at, code_value_at, code_at, maybe_code_at, manner_at, opens_at, maybe_oid_at, tagging_at, heading_at, ended_at}
use Rattle.operation_notation.specs.Grammar.{One, Then, Nothing, Either, Where, Maybe, The, Behind, Listed, Placed}
use Rattle.operation_notation.specs.GrammarTypes.{Extent, narrow, OidSpelled, Range, Number64, Size, Item, Items, Class, Explicit, Tag, dflt_of, standing, optional, by_default, Absent, Part, Parts, Alternatives, Integer, OctetString, Text, Named, Leaf, Sequence, Set, Choice, Plain, TypeBehind}
use Rattle.operation_notation.specs.GrammarModules.{Flag, FlagOr, Names, NamedList, Priority, Local, Global, Code, Manner, Opens, Tagging, HeadingSpelled}
use Rattle.operation_notation.specs.Tree.{TypeTree, type_tree, PlainTree, named, text}
use Rattle.notation_tokens.specs.declared.token.TokenKind.TheVariants.{Word, Number, Sign}
use Rattle.notation_tokens.specs.declared.faults.NotationKind.{NotationKind}
use Rattle.notation_tokens.specs.declared.faults.NotationKind.TheVariants.{Unsupported}
use Rattle.notation_tokens.specs.declared.token.Place.{Place}
use Rattle.notation_tokens.specs.declared.token.Located.{Located}
use Rattle.operation_notation.specs.declared.module.ModuleText.{ModuleText}
use Rattle.operation_notation.specs.declared.module.DfltValue.TheVariants as values
use Rattle.operation_notation.proofs.Means.{Front}
use Rattle.operation_notation.proofs.Starts.{Starts, starts_then}
use Rattle.operation_notation.proofs.Local.{fault}
use Rattle.operation_notation.proofs.TypeLaws.{any_token, starts_any, plain_words}
use Rattle.operation_notation.proofs.Chains.{or_named}
use Rattle.operation_notation.proofs.OidLaws.{Bracketed, ArcUpTo, NamedRoot, RootUpTo, FewArcs, ArcsUpTo, arcs_to, alone_found, root_found, root_step, root_plain, root_none, named_root_spelled}
use Rattle.operation_notation.proofs.Begun.{Goes, KindOf, Halts, Begun, now, kind_map, kind_is, refused_at, begun_one, begun_word, begun_give, bthen, bbehind, bwiden, bsame, bpick, bmaybe, begun_counted, blisted, bplaced}

-- ---- words and tokens

pub word : {s : Bool} (w : List ℕ) → has_form Word w ≡ true → Begun s (The w) (word_at w)
word w form = begun_word Word w form

pub sign : {s : Bool} (w : List ℕ) → has_form Sign w ≡ true → Begun s (The w) (word_at w)
sign w form = begun_word Sign w form

zero_number : (most : ℕ) → number most (codes "0") ≡ Some 0
unfolding number
zero_number most = let fits : nat_le 0 most ≡ true = le-leb 0 most (omega arith) in rw fits refl

b_number : {s : Bool} (most : ℕ) → Begun s (One (number_of most)) (number_at most)
unfolding number_at
b_number most = begun_one (number_of most) Number (codes "0") 0 refl (zero_number most)

b_number_64 : {s : Bool} → Begun s Number64 number_64_at
unfolding number_64_at
b_number_64 = bthen (b_number most_signed) (λ n. begun_give (pos n))

zero_int : int (codes "0") ≡ Some (pos 0)
unfolding int number
zero_int = refl

b_int : {s : Bool} → Begun s (One int_of) int_at
unfolding int_at
b_int = begun_one int_of Number (codes "0") (pos 0) refl zero_int

zero_end : end_word (codes "0") ≡ Some (pos 0)
unfolding end_word same
zero_end = zero_int

b_end : {s : Bool} → Begun s (One end_of) end_at
unfolding end_at
b_end = begun_one end_of Number (codes "0") (pos 0) refl zero_end

true_bool : bool_word (codes "TRUE") ≡ Some true
unfolding bool_word same
true_bool = refl

b_bool : {s : Bool} → Begun s (One bool_of) bool_at
unfolding bool_at
b_bool = begun_one bool_of Word (codes "TRUE") true refl true_bool

abbrev t_token : Lexeme
t_token = record { kind = Word; text = codes "T"; line = 1; column = 1 }

abbrev a_token : Lexeme
a_token = record { kind = Word; text = codes "a"; line = 1; column = 1 }

t_name : type_name_of t_token ≡ Some (record { text = codes "T"; line = 1; column = 1 })
unfolding type_name_of is_type_name is_quoted is_unsupported same
t_name = refl

a_name : value_name_of a_token ≡ Some (record { text = codes "a"; line = 1; column = 1 })
unfolding value_name_of is_value_name
a_name = refl

a_arc_name : arc_name_of a_token ≡ Some (record { line = 1; column = 1 })
unfolding arc_name_of is_value_name
a_arc_name = refl

null_kind : text_kind_word (codes "IA5String") ≡ Some 1
unfolding text_kind_word same
null_kind = refl

pub b_type_name : {s : Bool} → Begun s (One type_name_of) type_name_at
unfolding type_name_at
b_type_name = begun_one type_name_of Word (codes "T") (record { text = codes "T"; line = 1; column = 1 }) refl t_name

pub b_value_name : {s : Bool} → Begun s (One value_name_of) value_name_at
unfolding value_name_at
b_value_name = begun_one value_name_of Word (codes "a") (record { text = codes "a"; line = 1; column = 1 }) refl a_name

b_arc_name : {s : Bool} → Begun s (One arc_name_of) arc_name_at
unfolding arc_name_at
b_arc_name = begun_one arc_name_of Word (codes "a") (record { line = 1; column = 1 }) refl a_arc_name

-- ---- object identifiers

b_bracketed : {s : Bool} (most : ℕ) → Begun s (Bracketed most) (bracketed_at most)
unfolding bracketed_at
b_bracketed most = bthen (sign (codes "(") refl) (λ _. bthen (b_number most) (λ arc. bthen (sign (codes ")") refl) (λ _. begun_give arc)))

b_arc : {s : Bool} (most : ℕ) → Begun s (ArcUpTo most) (arc_at most)
unfolding arc_at
b_arc most = bsame starts_name (bwiden (bthen b_arc_name (λ _. b_bracketed most)) (λ ts a d. inr d)) (bwiden (b_number most) (λ ts a d. inl d))

alone_halts : (s : Bool) (o : Option ℕ) (ts rest : List Lexeme) (k : NotationKind) → alone_at o ts ≡ Err (fault rest k) → Halts s (NamedRoot o) ts rest k
alone_halts s (Some r) ts rest k e = absurd cc
alone_halts s None ts rest k e = refused_at ts rest (kind_at ts) k (bwiden (b_bracketed {s = s} 2) (λ ys a d. inl d)).filled (kind_is s (NamedRoot None) ts) e

b_alone : {s : Bool} (o : Option ℕ) → Begun s (NamedRoot o) (alone_at o)
b_alone {s = s} o = record {
  found = λ ts a rest e. let x = alone_found o ts a rest e in record { text = x.text; parts = x.parts; spelled = inr x.spelled };
  halts = alone_halts s o;
  filled = (bwiden (b_bracketed {s = s} 2) (λ ts a d. inl d)).filled;
}

b_named_root : {s : Bool} (o : Option ℕ) → Begun s (NamedRoot o) (named_root_at o)
unfolding named_root_at
b_named_root o = bsame (begins (codes "(")) (bwiden (b_bracketed 2) (λ ts a d. inl d)) (b_alone o)

b_root_number : {s : Bool} → Begun s RootUpTo (number_at 2)
b_root_number = bwiden (b_number 2) (λ ts a d. inl (inl d))

root_halts_at : (s : Bool) (t : Lexeme) (ts rest : List Lexeme) (k : NotationKind) (b : Bool) → is_value_name t.kind t.text ≡ b → root_at (t ∷ ts) ≡ Err (fault rest k) → Halts s RootUpTo (t ∷ ts) rest k
root_halts_at s t ts rest k true is e =
    let x = (b_named_root (root_name t.text)).halts ts rest k (sym (root_step t ts is) ∙ e) in
    record {
      front = t ∷ x.front;
      back = x.back;
      value = x.value;
      filler = x.filler;
      whole = ap (λ (z : List Lexeme). t ∷ z) x.whole;
      spelled = named_root_spelled t (x.front ++ x.back) x.value is x.spelled;
      kind = kind_map s (NamedRoot (root_name t.text)) RootUpTo x.front (t ∷ x.front) (λ more a d. now RootUpTo ((t ∷ x.front) ++ more) a (named_root_spelled t (x.front ++ more) a is d)) rest k x.kind;
    }
root_halts_at s t ts rest k false is e = b_root_number.halts (t ∷ ts) rest k (sym (root_plain t ts is) ∙ e)

root_halts : (s : Bool) (ts rest : List Lexeme) (k : NotationKind) → root_at ts ≡ Err (fault rest k) → Halts s RootUpTo ts rest k
root_halts s [] rest k e = b_root_number.halts [] rest k (sym root_none ∙ e)
root_halts s (t ∷ ts) rest k e = root_halts_at s t ts rest k (is_value_name t.kind t.text) refl e

b_root : {s : Bool} → Begun s RootUpTo root_at
b_root {s = s} = record { found = root_found; halts = root_halts s; filled = (b_root_number {s = s}).filled }

b_few : {s : Bool} → Begun s FewArcs (many_at (goes_on (codes "}")) (arc_at most_32) 30)
b_few = bwiden (begun_counted (goes_on (codes "}")) (ArcUpTo most_32) (arc_at most_32) (b_arc most_32) 30) (λ ts l d. record { spelled = d.spelled; few = d.few })

b_arcs : {s : Bool} → Begun s ArcsUpTo oid_at
unfolding oid_at
b_arcs = bthen (sign (codes "{") refl) (λ _. bthen b_root (λ root. bthen (b_arc (most_second root)) (λ second. bthen b_few (λ others. bthen (sign (codes "}") refl) (λ _. begun_give (root ∷ second ∷ others))))))

b_oid : {s : Bool} → Begun s OidSpelled oid_at
b_oid = bwiden b_arcs arcs_to

-- ---- types that hold no others

b_range : {s : Bool} → Begun s Range range_at
unfolding range_at
b_range = bthen (sign (codes "(") refl) (λ _. bplaced any_token (λ at. starts_then _ _ any_token (starts_any end_of))
    (λ at. bthen b_end (λ low. bthen (sign (codes "..") refl) (λ _. bthen b_end (λ high. bthen (sign (codes ")") refl) (λ _. begun_give _))))))

b_size : {s : Bool} → Begun s Size size_at
unfolding size_at
b_size = bthen (sign (codes "(") refl) (λ _. bthen (word (codes "SIZE") refl) (λ _. bthen (sign (codes "(") refl) (λ _.
    bplaced any_token (λ at. starts_then _ _ any_token (starts_then _ _ any_token (starts_any (number_of most_signed))))
    (λ at. bthen b_number_64 (λ low. bthen (sign (codes "..") refl) (λ _. bthen b_number_64 (λ high. bthen (sign (codes ")") refl) (λ _. bthen (sign (codes ")") refl) (λ _. begun_give _)))))))))

b_item : {s : Bool} → Begun s Item item_at
unfolding item_at
b_item = bthen b_value_name (λ name. bthen (sign (codes "(") refl) (λ _. bthen b_int (λ number. bthen (sign (codes ")") refl) (λ _. begun_give _))))

b_items : {s : Bool} → Begun s Items items_at
unfolding items_at
b_items = bthen (sign (codes "{") refl) (λ _. bthen (blisted Sign (codes ",") refl b_item) (λ items. bthen (sign (codes "}") refl) (λ _. begun_give items)))

stands : {s : Bool} {A : Type 0} (w : List ℕ) (a : A) → has_form Word w ≡ true → Begun s (Then (The w) (λ _. Nothing a)) (word_at w >>= λ _. give a)
stands w a form = bthen (word w form) (λ _. begun_give a)

b_class : {s : Bool} → Begun s Class class_at
unfolding class_at
b_class = bpick (begins (codes "UNIVERSAL")) (stands (codes "UNIVERSAL") 0 refl) (bpick (begins (codes "APPLICATION")) (stands (codes "APPLICATION") 1 refl) (bpick (begins (codes "PRIVATE")) (stands (codes "PRIVATE") 3 refl) (begun_give 2)))

b_explicit : {s : Bool} → Begun s Explicit explicit_at
unfolding explicit_at
b_explicit = bpick (begins (codes "IMPLICIT")) (stands (codes "IMPLICIT") (Some false) refl) (bpick (begins (codes "EXPLICIT")) (stands (codes "EXPLICIT") (Some true) refl) (begun_give None))

b_tag : {s : Bool} → Begun s Tag tag_at
unfolding tag_at
b_tag = bthen (sign (codes "[") refl) (λ _. bthen b_class (λ class. bthen (b_number most_32) (λ number. bthen (sign (codes "]") refl) (λ _. bthen b_explicit (λ explicit. begun_give _)))))

b_integer : {s : Bool} → Begun s Integer integer_at
unfolding integer_at
b_integer = bthen (word (codes "INTEGER") refl) (λ _. bthen (bmaybe (begins (codes "(")) b_range) (λ range. begun_give _))

b_octets : {s : Bool} → Begun s OctetString octets_at
unfolding octets_at
b_octets = bthen (word (codes "OCTET") refl) (λ _. bthen (word (codes "STRING") refl) (λ _. bthen (bmaybe (begins (codes "(")) b_size) (λ size. begun_give _)))

b_text : {s : Bool} → Begun s Text (text_kind_at >>= λ kind. give (text kind))
unfolding text_kind_at
b_text = bthen (begun_one text_kind_of Word (codes "IA5String") 1 refl null_kind) (λ kind. begun_give (text kind))

word_is : (w : List ℕ) (t : Lexeme) → same t.text w ≡ true → word_of w t ≡ Some (place t)
unfolding word_of
word_is w t e = rw e refl

-- what may stand behind a Name
abbrev NameEnd : Bool → Located → List Lexeme → PlainTree → Type 0
NameEnd wide name = Either (Where wide (Then (The (codes "{")) (λ _. Nothing (named name)))) (Nothing (named name))

brace_goes : (wide : Bool) (name : Located) (t : Lexeme) (u : List Lexeme) → same t.text (codes "{") ≡ true → wide ≡ true → Goes (NameEnd wide name) [] t
brace_goes true name t u e st = record {
  back = [];
  value = named name;
  filler = tt;
  spelled = inl (record { front = t ∷ []; back = []; value = place t; whole = refl; first = record { token = t; alone = refl; passes = word_is (codes "{") t e }; second = record { none = refl; same_value = refl } });
}
brace_goes false name t u e st = absurd cc

brace_kind : (wide : Bool) (name : Located) (ts : List Lexeme) → begins (codes "{") ts ≡ true → KindOf wide (NameEnd wide name) [] ts Unsupported
brace_kind wide name [] e = absurd cc
brace_kind wide name (t ∷ ts) e = inr (refl, λ st. brace_goes wide name t ts e st)

name_alone : (s wide : Bool) (name : Located) → Begun s (NameEnd wide name) (give (named name))
name_alone s wide name = bwiden (begun_give (named name)) (λ ts a d. inr d)

named_found : (wide : Bool) (name : Located) (b : Bool) (ts : List Lexeme) (a : PlainTree) (rest : List Lexeme) → (if b then refuse_as Unsupported ts else Ok (named name, ts)) ≡ Ok (a, rest) → Front (NameEnd wide name) ts a rest
named_found wide name true ts a rest e = absurd cc
named_found wide name false ts a rest e = (name_alone wide wide name).found ts a rest e

named_halts : (wide : Bool) (name : Located) (b : Bool) (ts rest : List Lexeme) (k : NotationKind) → begins (codes "{") ts ≡ b → (if b then refuse_as Unsupported ts else Ok (named name, ts)) ≡ Err (fault rest k) → Halts wide (NameEnd wide name) ts rest k
named_halts wide name true ts rest k is e = refused_at ts rest Unsupported k (name_alone wide wide name).filled (brace_kind wide name ts is) e
named_halts wide name false ts rest k is e = absurd cc

b_named_end : (ext : Extent) (name : Located) → Begun ext.wide (NameEnd ext.wide name) (named_at narrow name)
b_named_end ext name = record {
  found = λ ts a rest e. named_found ext.wide name (begins (codes "{") ts) ts a rest e;
  halts = λ ts rest k e. named_halts ext.wide name (begins (codes "{") ts) ts rest k refl e;
  filled = (name_alone ext.wide ext.wide name).filled;
}

b_text_or_name : (ext : Extent) → Begun ext.wide (Either Text (Named ext)) (text_or_name_at narrow)
unfolding text_or_name_at
b_text_or_name ext = bpick (λ ts. is_some (text_kind ts)) b_text (bthen b_type_name (b_named_end ext))

b_leaf : (ext : Extent) → Begun ext.wide (Leaf ext) (leaf_at narrow)
unfolding leaf_at
b_leaf ext = bpick (begins (codes "BOOLEAN")) (stands (codes "BOOLEAN") _ refl)
    (bpick (begins (codes "NULL")) (stands (codes "NULL") _ refl)
    (bpick (begins (codes "INTEGER")) b_integer
    (bpick (begins (codes "ENUMERATED")) (bthen (word (codes "ENUMERATED") refl) (λ _. bthen b_items (λ items. begun_give _)))
    (bpick (begins (codes "OCTET")) b_octets
    (bpick (begins (codes "BIT")) (bthen (word (codes "BIT") refl) (λ _. stands (codes "STRING") _ refl))
    (bpick (begins (codes "OBJECT")) (bthen (word (codes "OBJECT") refl) (λ _. stands (codes "IDENTIFIER") _ refl))
    (b_text_or_name ext)))))))

-- ---- types that hold types

true_dflt : dflt_of (record { kind = Word; text = codes "TRUE"; line = 1; column = 1 }) ≡ Some (record { line = 1; column = 1; value = values.Truth true })
unfolding dflt_of bool_word same
true_dflt = refl

b_dflt : {s : Bool} → Begun s (One dflt_of) dflt_at
unfolding dflt_at
b_dflt = begun_one dflt_of Word (codes "TRUE") (record { line = 1; column = 1; value = values.Truth true }) refl true_dflt

b_absent : {s : Bool} (may : Bool) → Begun s (Absent may) (absent_at may)
unfolding absent_at absence_at
b_absent false = begun_give standing
b_absent true = bpick (begins (codes "OPTIONAL")) (stands (codes "OPTIONAL") optional refl) (bpick (begins (codes "DEFAULT")) (bthen (word (codes "DEFAULT") refl) (λ _. bthen b_dflt (λ d. begun_give (by_default d)))) (begun_give standing))

module _ {s : Bool} (Inner : List Lexeme → TypeTree → Type 0) (inner : List Lexeme → Read TypeTree) (b : Begun s Inner inner) where
  b_part : (may : Bool) → Begun s (Part may Inner) (part_at may inner)
  unfolding part_at
  b_part may = bthen b_value_name (λ name. bthen b (λ of. bthen (b_absent may) (λ absence. begun_give _)))

  b_listed_parts : (may : Bool) → Begun s (Listed (codes ",") (Part may Inner)) (listed_at (codes ",") (part_at may inner))
  b_listed_parts may = blisted Sign (codes ",") refl (b_part may)

  b_parts : Begun s (Parts Inner) (parts_at inner)
  unfolding parts_at
  b_parts = bthen (sign (codes "{") refl) (λ _. bthen (bpick (begins (codes "}")) (begun_give []) (b_listed_parts true)) (λ parts. bthen (sign (codes "}") refl) (λ _. begun_give parts)))

  b_alternatives : Begun s (Alternatives Inner) (alternatives_at inner)
  unfolding alternatives_at
  b_alternatives = bthen (sign (codes "{") refl) (λ _. bthen (b_listed_parts false) (λ parts. bthen (sign (codes "}") refl) (λ _. begun_give parts)))

  b_sequence : Begun s (Sequence Inner) (sequence_at inner)
  unfolding sequence_at
  b_sequence = bthen (word (codes "SEQUENCE") refl) (λ _. bpick (begins (codes "OF")) (bbehind Word (codes "OF") refl (bthen b (λ item. begun_give _))) (bthen b_parts (λ parts. begun_give _)))

  b_set : Begun s (Set Inner) (set_at inner)
  unfolding set_at
  b_set = bthen (word (codes "SET") refl) (λ _. bpick (begins (codes "OF")) (bbehind Word (codes "OF") refl (bthen b (λ item. begun_give _))) (bthen b_parts (λ parts. begun_give _)))

  b_choice : Begun s (Choice Inner) (choice_at inner)
  unfolding choice_at
  b_choice = bthen (word (codes "CHOICE") refl) (λ _. bthen b_alternatives (λ parts. begun_give _))

module _ (ext : Extent) (Inner : List Lexeme → TypeTree → Type 0) (inner : List Lexeme → Read TypeTree) (b : Begun ext.wide Inner inner) where
  b_plain : Begun ext.wide (Plain ext Inner) (plain_at narrow inner)
  unfolding plain_at
  b_plain = bpick (begins (codes "SEQUENCE")) (b_sequence Inner inner b) (bpick (begins (codes "SET")) (b_set Inner inner b) (bpick (begins (codes "CHOICE")) (b_choice Inner inner b) (b_leaf ext)))

  b_type_behind : (at : Place) → Begun ext.wide (TypeBehind ext Inner at) (maybe_at (codes "[") tag_at >>= λ tag. plain_at narrow inner >>= λ plain. give (type_tree at.line at.column tag plain))
  b_type_behind at = bthen (bmaybe (begins (codes "[")) b_tag) (λ tag. bthen b_plain (λ plain. begun_give _))

  pub b_type_text : ((at : Place) → Starts (TypeBehind ext Inner at) (or_named (codes "[" ∷ plain_words))) → Begun ext.wide (Placed (TypeBehind ext Inner)) (type_text_at narrow inner)
  unfolding type_text_at
  b_type_text starts = bplaced (or_named (codes "[" ∷ plain_words)) starts b_type_behind

-- ---- parts of operations and errors

pub b_flag : {s : Bool} (w : List ℕ) → has_form Word w ≡ true → Begun s (Flag w) (flag_at w)
unfolding flag_at
b_flag w form = bbehind Word w form b_bool

b_flag_2 : {s : Bool} (w n : List ℕ) → has_form Word w ≡ true → has_form Word n ≡ true → Begun s (Behind w (Flag n)) (flag_2_at w n)
unfolding flag_2_at
b_flag_2 w n form next = bbehind Word w form (bbehind Word n next b_bool)

pub b_flag_or : {s : Bool} (w n : List ℕ) → has_form Word w ≡ true → has_form Word n ≡ true → Begun s (FlagOr w n) (flag_or_at w n)
unfolding flag_or_at
b_flag_or w n form next = bthen (bmaybe (begins w) (b_flag_2 w n form next)) (λ flag. begun_give _)

b_passed_flag : {s : Bool} (w : List ℕ) → has_form Word w ≡ true → Begun s (Maybe (Flag w)) (passed_flag_at w)
unfolding passed_flag_at
b_passed_flag w form = bmaybe (begins w) (b_flag w form)

b_names : {s : Bool} → Begun s Names names_at
unfolding names_at
b_names = bthen (sign (codes "{") refl) (λ _. bthen (blisted Sign (codes "|") refl b_value_name) (λ names. bthen (sign (codes "}") refl) (λ _. begun_give names)))

pub b_named_list : {s : Bool} (w : List ℕ) → has_form Word w ≡ true → Begun s (NamedList w) (named_list_at w)
unfolding named_list_at
b_named_list w form = bpick (begins w) (bbehind Word w form b_names) (begun_give [])

b_priority : {s : Bool} → Begun s Priority priority_at
unfolding priority_at
b_priority = bthen (sign (codes "{") refl) (λ _. bthen b_number_64 (λ n. sign (codes "}") refl))

pub b_passed_priority : {s : Bool} (w : List ℕ) → has_form Word w ≡ true → Begun s (Maybe (Behind w Priority)) (passed_priority_at w)
unfolding passed_priority_at
b_passed_priority w form = bmaybe (begins w) (bbehind Word w form b_priority)

b_invoke_priority : {s : Bool} → Begun s (Maybe (Behind (codes "INVOKE") (Behind (codes "PRIORITY") Priority))) invoke_priority_at
unfolding invoke_priority_at
b_invoke_priority = bmaybe (begins (codes "INVOKE")) (bbehind Word (codes "INVOKE") refl (bbehind Word (codes "PRIORITY") refl b_priority))

b_local : {s : Bool} → Begun s Local local_at
unfolding local_at
b_local = bthen (word (codes "local") refl) (λ at. bthen (sign (codes ":") refl) (λ _. bthen b_int (λ n. begun_give _)))

b_global : {s : Bool} → Begun s Global global_at
unfolding global_at
b_global = bthen (word (codes "global") refl) (λ at. bthen (sign (codes ":") refl) (λ _. bthen b_oid (λ o. begun_give _)))

b_code_value : {s : Bool} → Begun s (Either Local Global) code_value_at
unfolding code_value_at
b_code_value = bpick (begins (codes "local")) b_local b_global

b_code : {s : Bool} → Begun s Code code_at
unfolding code_at
b_code = bbehind Word (codes "CODE") refl b_code_value

pub b_maybe_code : {s : Bool} → Begun s (Maybe Code) maybe_code_at
unfolding maybe_code_at
b_maybe_code = bmaybe (begins (codes "CODE")) b_code

-- ---- bodies

pub b_manner : {s : Bool} → Begun s Manner manner_at
unfolding manner_at
b_manner = bthen (b_passed_flag (codes "SYNCHRONOUS") refl) (λ _. bthen (b_passed_flag (codes "IDEMPOTENT") refl) (λ _. bthen (b_flag_or (codes "ALWAYS") (codes "RESPONDS") refl refl) (λ always.
    bthen b_invoke_priority (λ _. bthen (b_passed_priority (codes "RESULT-PRIORITY") refl) (λ _. begun_give always)))))

-- ---- assignments

pub b_opens : {s : Bool} (w : List ℕ) → has_form Word w ≡ true → Begun s (Opens w) (opens_at w)
unfolding opens_at
b_opens w form = bbehind Word w form (bbehind Sign (codes "::=") refl (sign (codes "{") refl))

-- ---- modules

pub b_maybe_oid : {s : Bool} → Begun s (Maybe OidSpelled) maybe_oid_at
unfolding maybe_oid_at
b_maybe_oid = bmaybe (begins (codes "{")) b_oid

b_tags : {s : Bool} (w : List ℕ) (b : Bool) → has_form Word w ≡ true → Begun s (Then (Behind w (The (codes "TAGS"))) (λ _. Nothing b)) (behind w (word_at (codes "TAGS")) >>= λ _. give b)
b_tags w b form = bthen (bbehind Word w form (word (codes "TAGS") refl)) (λ _. begun_give b)

b_tagging : {s : Bool} → Begun s Tagging tagging_at
unfolding tagging_at
b_tagging = bpick (begins (codes "EXPLICIT")) (b_tags (codes "EXPLICIT") false refl) (bpick (begins (codes "IMPLICIT")) (b_tags (codes "IMPLICIT") true refl) (begun_give false))

pub b_heading : {s : Bool} → Begun s HeadingSpelled heading_at
unfolding heading_at
b_heading = bthen b_type_name (λ name. bthen b_oid (λ oid. bthen (word (codes "DEFINITIONS") refl) (λ _. bthen b_tagging (λ implicit. bthen (sign (codes "::=") refl) (λ _. begun_give _)))))

ended_found : (m : ModuleText) (ts : List Lexeme) (a : ModuleText) (rest : List Lexeme) → ended_at m ts ≡ Ok (a, rest) → Front (Nothing m) ts a rest
ended_found m [] a rest e = (begun_give {s = false} m).found [] a rest e
ended_found m (t ∷ ts) a rest e = absurd cc

ended_halts : (s : Bool) (m : ModuleText) (ts rest : List Lexeme) (k : NotationKind) → ended_at m ts ≡ Err (fault rest k) → Halts s (Nothing m) ts rest k
ended_halts s m [] rest k e = absurd cc
ended_halts s m (t ∷ ts) rest k e = refused_at (t ∷ ts) rest (kind_at (t ∷ ts)) k (begun_give {s = s} m).filled (kind_is s (Nothing m) (t ∷ ts)) e

pub b_ended : {s : Bool} (m : ModuleText) → Begun s (Nothing m) (ended_at m)
b_ended {s = s} m = record { found = ended_found m; halts = ended_halts s m; filled = (begun_give {s = s} m).filled }
