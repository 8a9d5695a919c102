-- The code by which proofs tell trees apart.
use Rattle.std.specs.Prelude.{◌≡◌, ℕ, zero, suc, ℤ, pos, negsuc, Bool, true, false, List, [], ◌∷◌, Option, Some, None, refl}
use Rattle.std.proofs.Common.{sym, ap, ◌∙◌}
use base.Stored.{Gv, gnil, gnum, gcons, Coded, num}
use Rattle.notation_tokens.specs.declared.token.Located.{Located}
use Rattle.operation_notation.specs.declared.module.TagText.{TagText}
use Rattle.operation_notation.specs.declared.module.RangeText.{RangeText}
use Rattle.operation_notation.specs.declared.module.ItemText.{ItemText}
use Rattle.operation_notation.specs.declared.module.DfltText.{DfltText}
use Rattle.operation_notation.specs.declared.module.DfltValue.{DfltValue}
use Rattle.operation_notation.specs.declared.module.DfltValue.TheVariants as values
use Rattle.operation_notation.specs.Tree.{TypeTree, type_tree, PlainTree, boolean, null, integer, enumerated, octets, bits, object_id, text, sequence_of, set_of, sequence, set, choice, named, PartTrees, no_parts, part}

abbrev pub left : Gv → Gv
left gnil = gnil
left (gnum n) = gnil
left (gcons a b) = a

abbrev pub right : Gv → Gv
right gnil = gnil
right (gnum n) = gnil
right (gcons a b) = b

abbrev pub code_bool : Bool → Gv
code_bool true = gnum 1
code_bool false = gnum 0

abbrev pub bool_of : ℕ → Bool
bool_of zero = false
bool_of (suc n) = true

pub bool_back : (b : Bool) → bool_of (num (code_bool b)) ≡ b
bool_back true = refl
bool_back false = refl

abbrev pub code_int : ℤ → Gv
code_int (pos n) = gcons (gnum 0) (gnum n)
code_int (negsuc n) = gcons (gnum 1) (gnum n)

abbrev pub int_of : ℕ → ℕ → ℤ
int_of zero n = pos n
int_of (suc k) n = negsuc n

abbrev pub int_from : Gv → ℤ
int_from g = int_of (num (left g)) (num (right g))

pub int_back : (z : ℤ) → int_from (code_int z) ≡ z
int_back (pos n) = refl
int_back (negsuc n) = refl

abbrev pub code_numbers : List ℕ → Gv
code_numbers [] = gnil
code_numbers (n ∷ ns) = gcons (gnum n) (code_numbers ns)

abbrev pub numbers_of : Gv → List ℕ
numbers_of gnil = []
numbers_of (gnum n) = []
numbers_of (gcons a b) = num a ∷ numbers_of b

pub numbers_back : (ns : List ℕ) → numbers_of (code_numbers ns) ≡ ns
numbers_back [] = refl
numbers_back (n ∷ ns) = ap (λ (rest : List ℕ). n ∷ rest) (numbers_back ns)

abbrev pub code_located : Located → Gv
code_located x = gcons (gcons (gnum x.line) (gnum x.column)) (code_numbers x.text)

abbrev pub located_of : Gv → Located
located_of g = record { text = numbers_of (right g); line = num (left (left g)); column = num (right (left g)) }

pub located_back : (x : Located) → located_of (code_located x) ≡ x
located_back x = λ i. record { text = numbers_back x.text i; line = x.line; column = x.column }

abbrev pub code_flag : Option Bool → Gv
code_flag None = gnum 2
code_flag (Some b) = code_bool b

abbrev pub flag_of : ℕ → Option Bool
flag_of zero = Some false
flag_of (suc zero) = Some true
flag_of (suc (suc n)) = None

pub flag_back : (b : Option Bool) → flag_of (num (code_flag b)) ≡ b
flag_back None = refl
flag_back (Some true) = refl
flag_back (Some false) = refl

abbrev pub code_tag : Option TagText → Gv
code_tag None = gnil
code_tag (Some t) = gcons (gcons (gnum t.class) (gnum t.number)) (code_flag t.explicit)

abbrev pub tag_of : Gv → Option TagText
tag_of gnil = None
tag_of (gnum n) = None
tag_of (gcons a b) = Some (record { class = num (left a); number = num (right a); explicit = flag_of (num b) })

pub tag_back : (t : Option TagText) → tag_of (code_tag t) ≡ t
tag_back None = refl
tag_back (Some t) = λ i. Some (record { class = t.class; number = t.number; explicit = flag_back t.explicit i })

abbrev pub code_range : Option RangeText → Gv
code_range None = gnil
code_range (Some r) = gcons (gcons (gnum r.line) (gnum r.column)) (gcons (code_int r.low) (code_int r.high))

abbrev pub range_of : Gv → Option RangeText
range_of gnil = None
range_of (gnum n) = None
range_of (gcons a b) = Some (record { line = num (left a); column = num (right a); low = int_from (left b); high = int_from (right b) })

pub range_back : (r : Option RangeText) → range_of (code_range r) ≡ r
range_back None = refl
range_back (Some r) = λ i. Some (record { line = r.line; column = r.column; low = int_back r.low i; high = int_back r.high i })

abbrev pub code_items : List ItemText → Gv
code_items [] = gnil
code_items (x ∷ xs) = gcons (gcons (code_located x.name) (code_int x.number)) (code_items xs)

abbrev pub items_of : Gv → List ItemText
items_of gnil = []
items_of (gnum n) = []
items_of (gcons a b) = record { name = located_of (left a); number = int_from (right a) } ∷ items_of b

pub items_back : (xs : List ItemText) → items_of (code_items xs) ≡ xs
items_back [] = refl
items_back (x ∷ xs) = λ i. record { name = located_back x.name i; number = int_back x.number i } ∷ items_back xs i

abbrev pub code_value : DfltValue → Gv
code_value (values.Truth b) = gcons (gnum 0) (code_bool b)
code_value (values.Number n) = gcons (gnum 1) (code_int n)
code_value (values.Item name) = gcons (gnum 2) (code_numbers name)

abbrev pub value_by : ℕ → Gv → DfltValue
value_by zero g = values.Truth (bool_of (num g))
value_by (suc zero) g = values.Number (int_from g)
value_by (suc (suc n)) g = values.Item (numbers_of g)

abbrev pub value_of : Gv → DfltValue
value_of g = value_by (num (left g)) (right g)

pub value_back : (v : DfltValue) → value_of (code_value v) ≡ v
value_back (values.Truth b) = ap values.Truth (bool_back b)
value_back (values.Number n) = ap values.Number (int_back n)
value_back (values.Item name) = ap values.Item (numbers_back name)

abbrev pub code_dflt : Option DfltText → Gv
code_dflt None = gnil
code_dflt (Some d) = gcons (gcons (gnum d.line) (gnum d.column)) (code_value d.value)

abbrev pub dflt_of : Gv → Option DfltText
dflt_of gnil = None
dflt_of (gnum n) = None
dflt_of (gcons a b) = Some (record { line = num (left a); column = num (right a); value = value_of b })

pub dflt_back : (d : Option DfltText) → dflt_of (code_dflt d) ≡ d
dflt_back None = refl
dflt_back (Some d) = λ i. Some (record { line = d.line; column = d.column; value = value_back d.value i })

abbrev mutual
  pub code_of_type : TypeTree → Gv
  code_of_type (type_tree line column tag plain) = gcons (gcons (gcons (gnum line) (gnum column)) (code_tag tag)) (code_of_plain plain)

  pub code_of_plain : PlainTree → Gv
  code_of_plain boolean = gcons (gnum 0) gnil
  code_of_plain null = gcons (gnum 1) gnil
  code_of_plain (integer range) = gcons (gnum 2) (code_range range)
  code_of_plain (enumerated items) = gcons (gnum 3) (code_items items)
  code_of_plain (octets range) = gcons (gnum 4) (code_range range)
  code_of_plain bits = gcons (gnum 5) gnil
  code_of_plain object_id = gcons (gnum 6) gnil
  code_of_plain (text kind) = gcons (gnum 7) (gnum kind)
  code_of_plain (sequence_of item) = gcons (gnum 8) (code_of_type item)
  code_of_plain (sequence ps) = gcons (gnum 9) (code_of_parts ps)
  code_of_plain (set ps) = gcons (gnum 10) (code_of_parts ps)
  code_of_plain (choice ps) = gcons (gnum 11) (code_of_parts ps)
  code_of_plain (named name) = gcons (gnum 12) (code_located name)
  code_of_plain (set_of item) = gcons (gnum 13) (code_of_type item)

  pub code_of_parts : PartTrees → Gv
  code_of_parts no_parts = gnil
  code_of_parts (part name of optional dflt ps) = gcons (gcons (gcons (code_located name) (gcons (code_bool optional) (code_dflt dflt))) (code_of_type of)) (code_of_parts ps)

-- what a code is read as
pub record Back : Type 0 where
  pub type_back : TypeTree
  pub plain_back : PlainTree
  pub parts_back : PartTrees
  -- the type that stands behind a part's name
  pub inner_back : TypeTree

abbrev pub by_number : ℕ → Gv → Back → PlainTree
by_number zero g r = boolean
by_number (suc zero) g r = null
by_number (suc (suc zero)) g r = integer (range_of g)
by_number (suc (suc (suc zero))) g r = enumerated (items_of g)
by_number (suc (suc (suc (suc zero)))) g r = octets (range_of g)
by_number (suc (suc (suc (suc (suc zero))))) g r = bits
by_number (suc (suc (suc (suc (suc (suc zero)))))) g r = object_id
by_number (suc (suc (suc (suc (suc (suc (suc zero))))))) g r = text (num g)
by_number (suc (suc (suc (suc (suc (suc (suc (suc zero)))))))) g r = sequence_of r.type_back
by_number (suc (suc (suc (suc (suc (suc (suc (suc (suc zero))))))))) g r = sequence r.parts_back
by_number (suc (suc (suc (suc (suc (suc (suc (suc (suc (suc zero)))))))))) g r = set r.parts_back
by_number (suc (suc (suc (suc (suc (suc (suc (suc (suc (suc (suc zero))))))))))) g r = choice r.parts_back
by_number (suc (suc (suc (suc (suc (suc (suc (suc (suc (suc (suc (suc zero)))))))))))) g r = named (located_of g)
by_number (suc (suc (suc (suc (suc (suc (suc (suc (suc (suc (suc (suc (suc n))))))))))))) g r = set_of r.type_back

abbrev pub nothing : Back
nothing = record { type_back = type_tree 0 0 None boolean; plain_back = boolean; parts_back = no_parts; inner_back = type_tree 0 0 None boolean }

abbrev pub back : Gv → Back
back gnil = nothing
back (gnum n) = nothing
back (gcons a b) = record {
  type_back = type_tree (num (left (left a))) (num (right (left a))) (tag_of (right a)) (back b).plain_back;
  plain_back = by_number (num a) b (back b);
  parts_back = part (located_of (left (left a))) (back a).inner_back (bool_of (num (left (right (left a))))) (dflt_of (right (right (left a)))) (back b).parts_back;
  inner_back = (back b).type_back;
}

mutual
  pub type_is_back : (t : TypeTree) → (back (code_of_type t)).type_back ≡ t
  type_is_back (type_tree line column tag plain) = λ i. type_tree line column (tag_back tag i) (plain_is_back plain i)

  pub plain_is_back : (p : PlainTree) → (back (code_of_plain p)).plain_back ≡ p
  plain_is_back boolean = refl
  plain_is_back null = refl
  plain_is_back (integer range) = ap integer (range_back range)
  plain_is_back (enumerated items) = ap enumerated (items_back items)
  plain_is_back (octets range) = ap octets (range_back range)
  plain_is_back bits = refl
  plain_is_back object_id = refl
  plain_is_back (text kind) = refl
  plain_is_back (sequence_of item) = ap sequence_of (type_is_back item)
  plain_is_back (set_of item) = ap set_of (type_is_back item)
  plain_is_back (sequence ps) = ap sequence (parts_are_back ps)
  plain_is_back (set ps) = ap set (parts_are_back ps)
  plain_is_back (choice ps) = ap choice (parts_are_back ps)
  plain_is_back (named name) = ap named (located_back name)

  pub parts_are_back : (ps : PartTrees) → (back (code_of_parts ps)).parts_back ≡ ps
  parts_are_back no_parts = refl
  parts_are_back (part name of optional dflt ps) = λ i. part (located_back name i) (type_is_back of i) (bool_back optional i) (dflt_back dflt i) (parts_are_back ps i)

abbrev pub coded_type : Coded TypeTree
coded_type = record {
  code = code_of_type;
  inj = λ x y e. sym (type_is_back x) ∙ ap (λ g. (back g).type_back) e ∙ type_is_back y;
}
