-- In a module without a fault each type has a row: walking it ends with one, at most 65 types deep.
use Rattle.std.proofs.Common.{◌≡◌, ℕ, zero, suc, pos, negsuc, ◌+◌, ◌*◌, ◌≤◌, ◌<◌, Bool, true, false, List, [], ◌∷◌, ◌++◌, length, Option, None, Some, refl, sym, ap, subst, ◌∙◌, arith, ℤ, length-append}
use Rattle.std.specs.Prelude.{◌||◌, not, nat_le, max, map, slice_get, option_map, is_some, IfSome, if◌then◌else◌}
use Rattle.std.specs.List.{AllByRecursion}
use Rattle.std.specs.Str.{bytes_eq}
use Rattle.std.proofs.lemmas.Bool.{leb-false, eq-eqb}
use Rattle.std.proofs.lemmas.Option.{slice_get_within}
use Rattle.std.proofs.lemmas.Bool.Decides.{nat_tests}
use Rattle.notation_tokens.specs.declared.token.Located.{Located}
use Rattle.asn1_types.specs.declared.row.Class.{Class}
use Rattle.asn1_types.specs.declared.row.Item.{Item}
use Rattle.asn1_types.specs.declared.row.Part.{Part}
use Rattle.asn1_types.specs.declared.row.TextKind.{TextKind}
use Rattle.asn1_types.specs.declared.row.TypeId.{TypeId}
use Rattle.asn1_types.specs.declared.row.TypeRow.{TypeRow}
use Rattle.asn1_types.specs.declared.row.TypeRow.TheVariants as rows
use Rattle.asn1_types.specs.Rows.{names_of, nesting_by, nesting, openings_by, openings, class_number, text_number}
use Rattle.asn1_types.specs.Defaults.{same_number, is_item, has_default, default_by, takes_default}
use Rattle.asn1_types.specs.Table.{refusal, HasShortTag, AreSoundRows}
use Rattle.asn1_types.proofs.Along.{SameTo, agree}
use Rattle.asn1_types.proofs.Sound.{is_down, nesting_cong, nesting_at, openings_cong, openings_at, takes_at, taken}
use Rattle.asn1_types.proofs.Adding.{kept_names, sound_push}
use Rattle.operation_notation.specs.Tree.{TypeTree, type_tree, boolean, null, integer, enumerated, octets, bits, object_id, text, sequence_of, set_of, sequence, set, choice, named, PartTrees, no_parts, part}
use Rattle.operation_notation.specs.declared.module.DfltText.{DfltText}
use Rattle.operation_notation.specs.declared.module.DfltValue.{DfltValue}
use Rattle.operation_notation.specs.declared.module.DfltValue.TheVariants as values
use Rattle.operation_notation.specs.declared.module.ItemText.{ItemText}
use Rattle.module_faults.specs.declared.kind.TableKind.TheVariants as kinds
use Rattle.module_faults.specs.Least.{fault, if_so}
use Rattle.module_faults.specs.Names.{or_none}
use Rattle.module_faults.specs.Facts.{DefaultKind, truth, numbers, items, other, unknown, Facts, deeper, has_item, takes, default_faults, text_tag, parts_nesting, plain_facts, type_facts}
use Rattle.asn1_types.specs.Numbered.{kind_numbered, class_numbered}
use Rattle.module_compiler.specs.Numbering.{NumberedRows, item_of, under, base_in, base, truth_number, item_number, number_in, default_number, with_default, part_of}
use Rattle.module_compiler.proofs.Faultless.{alias_slack}
use Rattle.module_compiler.proofs.Tags.{or_first, or_second, AreAmong}

-- ---- lists of faults

pub nothing_first : {X : Type 0} (a b : List X) → a ++ b ≡ [] → a ≡ []
nothing_first [] b e = refl
nothing_first (x ∷ a) b e = absurd cc

pub nothing_behind : {X : Type 0} (a b : List X) → a ++ b ≡ [] → b ≡ []
nothing_behind [] b e = e
nothing_behind (x ∷ a) b e = absurd cc

-- ---- numbers of rows

abbrev pub Extends : List TypeRow → List TypeRow → Type 0
Extends old new = (n : ℕ) (row : TypeRow) → slice_get old n ≡ Some row → slice_get new n ≡ Some row

pub extends_push : (all : List TypeRow) (one : TypeRow) → Extends all (all ++ one ∷ [])
extends_push [] one n row e = absurd cc
extends_push (x ∷ all) one zero row e = e
extends_push (x ∷ all) one (suc n) row e = extends_push all one n row e

pub last_row : (all : List TypeRow) (one : TypeRow) → slice_get (all ++ one ∷ []) (length all) ≡ Some one
last_row [] one = refl
last_row (x ∷ all) one = last_row all one

row_at : (all : List TypeRow) (n : ℕ) → n < length all → (row : TypeRow) × (slice_get all n ≡ Some row)
row_at [] n lt = absurd (omega arith)
row_at (row ∷ all) zero lt = (row, refl)
row_at (row ∷ all) (suc n) lt = row_at all n (omega arith)

module _ (old new : List TypeRow) (more : Extends old new) where
  below_more : (n : ℕ) → n < length old → n < length new
  below_more n lt = let r = row_at old n lt in slice_get_within new n r.0 (more n r.0 r.1)

  same_to : (n : ℕ) → n < length old → SameTo old new n
  same_to n lt = record { same = λ m le. let r = row_at old m (omega arith) in r.1 ∙ sym (more m r.0 r.1) }

  nesting_more : AreSoundRows old → (n : ℕ) → n < length old → nesting old n ≡ nesting new n
  unfolding nesting
  nesting_more sound n lt = agree 0 nesting_by nesting_cong old new (is_down old sound) n (length old) (length new) lt (below_more n lt) (same_to n lt)

  openings_more : AreSoundRows old → (n : ℕ) → n < length old → openings old n ≡ openings new n
  unfolding openings
  openings_more sound n lt = agree [] openings_by openings_cong old new (is_down old sound) n (length old) (length new) lt (below_more n lt) (same_to n lt)

  each_nesting : AreSoundRows old → (ns : List ℕ) → AllByRecursion (λ m. m < length old) ns → AllByRecursion (λ m. nesting new m ≡ nesting old m) ns
  each_nesting sound [] h = tt
  each_nesting sound (n ∷ ns) h = (sym (nesting_more sound n h.0), each_nesting sound ns h.1)

  each_opening : AreSoundRows old → (ns : List ℕ) → AllByRecursion (λ m. m < length old) ns → AllByRecursion (λ m. openings new m ≡ openings old m) ns
  each_opening sound [] h = tt
  each_opening sound (n ∷ ns) h = (sym (openings_more sound n h.0), each_opening sound ns h.1)

-- ---- how deep rows nest, and with which tags their values begin, as a type's facts say

pub record Nests (all : List TypeRow) (n : ℕ) (facts : Facts) : Type 0 where
  pub below : n < length all
  pub deep : nesting all n ≤ facts.nesting
  pub opens : AreAmong facts.tags (openings all n)

pub nests_more : (old new : List TypeRow) (n : ℕ) (facts : Facts) → AreSoundRows old → Extends old new → Nests old n facts → Nests new n facts
nests_more old new n facts sound more h =
    let lt : n < length old = h.below in
    let same : nesting old n ≡ nesting new n = nesting_more old new more sound n lt in
    let deep : nesting old n ≤ facts.nesting = h.deep in
    record {
      below = below_more old new more n lt;
      deep = omega arith;
      opens = subst (AreAmong facts.tags) (openings_more old new more sound n lt) h.opens;
    }

-- this row may stand behind these, and is as a type's facts say
pub record Suits (all : List TypeRow) (row : TypeRow) (facts : Facts) : Type 0 where
  pub free : refusal all row ≡ None
  pub short : HasShortTag row
  pub deep : nesting_by (nesting all) row ≤ facts.nesting
  pub opens : AreAmong facts.tags (openings_by (openings all) row)

pub still_sound : (all : List TypeRow) (row : TypeRow) (facts : Facts) → AreSoundRows all → Suits all row facts → AreSoundRows (all ++ row ∷ [])
still_sound all row facts sound s = sound_push all row sound s.free s.short

last_nests : (all : List TypeRow) (row : TypeRow) (facts : Facts) → AreSoundRows all → Suits all row facts → Nests (all ++ row ∷ []) (length all) facts
last_nests all row facts sound s =
    let new : List TypeRow = all ++ row ∷ [] in
    let now : AreSoundRows new = still_sound all row facts sound s in
    let names = kept_names (length all) (names_of row) (taken all row s.free).names in
    let nested : nesting new (length all) ≡ nesting_by (nesting all) row =
    nesting_at new now (length all) row (last_row all row) ∙ nesting_cong row (nesting new) (nesting all) (each_nesting all new (extends_push all row) sound (names_of row) names) in
    let opened : openings new (length all) ≡ openings_by (openings all) row =
    openings_at new now (length all) row (last_row all row) ∙ openings_cong row (openings new) (openings all) (each_opening all new (extends_push all row) sound (names_of row) names) in
    let deep : nesting_by (nesting all) row ≤ facts.nesting = s.deep in
    record {
      below = omega (arith, length-append all (row ∷ []));
      deep = subst (λ (n : ℕ). n ≤ facts.nesting) (sym nested) deep;
      opens = subst (AreAmong facts.tags) (sym opened) s.opens;
    }

-- ---- rows under tags

-- what is found under tags is found in more rows, and under more tags
under_more : (f g : ℕ → Option TypeRow) (row : TypeRow) → ((n : ℕ) → f n ≡ Some row → g n ≡ Some row) → (o : Option TypeRow) → under f o ≡ Some row → under g o ≡ Some row
under_more f g row more None e = absurd cc
under_more f g row more (Some (rows.Tagged class number explicit inner)) e = more inner.0 e
under_more f g row more (Some one) e = e

under_some : (f : ℕ → Option TypeRow) (row : TypeRow) (o : Option TypeRow) → under f o ≡ Some row → (one : TypeRow) × (o ≡ Some one)
under_some f row None e = absurd cc
under_some f row (Some one) e = (one, refl)

base_extended : (old new : List TypeRow) → Extends old new → (turns n : ℕ) (row : TypeRow) → base_in turns old n ≡ Some row → base_in turns new n ≡ Some row
unfolding base_in
base_extended old new more zero n row e = absurd cc
base_extended old new more (suc turns) n row e =
    let one = under_some (base_in turns old) row (slice_get old n) e in
    let here : under (base_in turns old) (Some one.0) ≡ Some row = sym (ap (under (base_in turns old)) one.1) ∙ e in
    ap (under (base_in turns new)) (more n one.0 one.1)
    ∙ under_more (base_in turns old) (base_in turns new) row (λ m h. base_extended old new more turns m row h) (Some one.0) here

base_deeper : (all : List TypeRow) (turns deep n : ℕ) (row : TypeRow) → turns ≤ deep → base_in turns all n ≡ Some row → base_in deep all n ≡ Some row
unfolding base_in
base_deeper all zero deep n row le e = absurd cc
base_deeper all (suc turns) zero n row le e = absurd (omega arith)
base_deeper all (suc turns) (suc deep) n row le e =
    under_more (base_in turns all) (base_in deep all) row (λ m h. base_deeper all turns deep m row (omega arith) h) (slice_get all n) e

-- ---- what a row is under its tags, as a type's facts say

abbrev pub Fits : TypeRow → DefaultKind → Type 0
Fits row truth = row ≡ rows.Boolean
Fits row (numbers low high) = row ≡ rows.Integer low high
Fits row (items all) = row ≡ rows.Enumerated (map item_of all)
Fits row other = Unit {0}
Fits row unknown = ⊥

pub record HasRow (all : List TypeRow) (n : ℕ) (facts : Facts) : Type 0 where
  pub turns : ℕ
  pub small : turns ≤ facts.nesting
  pub row : TypeRow
  pub at : base_in turns all n ≡ Some row
  pub fits : Fits row facts.base
  pub nests : Nests all n facts

pub has_more : (old new : List TypeRow) (n : ℕ) (facts : Facts) → AreSoundRows old → Extends old new → HasRow old n facts → HasRow new n facts
has_more old new n facts sound more h = record { turns = h.turns; small = h.small; row = h.row; at = base_extended old new more h.turns n h.row h.at; fits = h.fits; nests = nests_more old new n facts sound more h.nests }

-- a row that isn't a tag's
abbrev pub Untagged : TypeRow → Type 0
Untagged row = (f : ℕ → Option TypeRow) → under f (Some row) ≡ Some row

plain_found : (k : ℕ) (all : List TypeRow) (row : TypeRow) → Untagged row → base_in (suc k) (all ++ row ∷ []) (length all) ≡ Some row
unfolding base_in
plain_found k all row untagged = ap (under (base_in k (all ++ row ∷ []))) (last_row all row) ∙ untagged (base_in k (all ++ row ∷ []))

pub plain_has : (all : List TypeRow) (row : TypeRow) (facts : Facts) → AreSoundRows all → Suits all row facts → Untagged row → 1 ≤ facts.nesting → Fits row facts.base → HasRow (all ++ row ∷ []) (length all) facts
plain_has all row facts sound suits untagged deep fits = record { turns = 1; small = deep; row = row; at = plain_found 0 all row untagged; fits = fits; nests = last_nests all row facts sound suits }

tag_found : (k : ℕ) (all : List TypeRow) (class : Class) (number : ℕ) (explicit : Bool) (inner : TypeId) (row : TypeRow) → base_in k all inner.0 ≡ Some row
    → base_in (suc k) (all ++ rows.Tagged class number explicit inner ∷ []) (length all) ≡ Some row
unfolding base_in
tag_found k all class number explicit inner row e =
    ap (under (base_in k (all ++ rows.Tagged class number explicit inner ∷ []))) (last_row all (rows.Tagged class number explicit inner))
    ∙ base_extended all (all ++ rows.Tagged class number explicit inner ∷ []) (extends_push all (rows.Tagged class number explicit inner)) k inner.0 row e

pub tag_has : (all : List TypeRow) (class : Class) (number : ℕ) (explicit : Bool) (inner : TypeId) (below facts : Facts) → AreSoundRows all → Suits all (rows.Tagged class number explicit inner) facts → HasRow all inner.0 below
    → suc below.nesting ≤ facts.nesting → facts.base ≡ below.base → HasRow (all ++ rows.Tagged class number explicit inner ∷ []) (length all) facts
tag_has all class number explicit inner below facts sound suits h deep same =
    let row : TypeRow = rows.Tagged class number explicit inner in
    let small : h.turns ≤ below.nesting = h.small in
    record {
      turns = suc h.turns;
      small = omega arith;
      row = h.row;
      at = tag_found h.turns all class number explicit inner h.row h.at;
      fits = subst (λ (b : DefaultKind). Fits h.row b) (sym same) h.fits;
      nests = last_nests all row facts sound suits;
    }

-- ---- defaults

item_found : (all : List ItemText) (name : List ℕ) → has_item all name ≡ true → (n : ℤ) × (item_number (map item_of all) name ≡ Some n)
item_found [] name e = absurd cc
item_found (item ∷ all) name e = go (bytes_eq item.name.text name) refl (λ h. item_found all name h) e
  where
    go : (b : Bool) → bytes_eq item.name.text name ≡ b → (has_item all name ≡ true → (n : ℤ) × (item_number (map item_of all) name ≡ Some n)) → (b || has_item all name) ≡ true → (n : ℤ) × (item_number (map item_of (item ∷ all)) name ≡ Some n)
    go true s more h = (item.number, ap (λ (c : Bool). if c then Some item.number else item_number (map item_of all) name) s)
    go false s more h =
        let r = more h in
        (r.0, ap (λ (c : Bool). if c then Some item.number else item_number (map item_of all) name) s ∙ r.1)

-- this number is a default of each row that is as these facts say
abbrev pub SuitsBase : DefaultKind → ℤ → Type 0
SuitsBase base z = (row : TypeRow) → Fits row base → (f : ℕ → ℤ → Bool) → default_by f row z ≡ true

-- the number that is written, which is a default of such rows
record NumberMade (row : TypeRow) (base : DefaultKind) (value : DfltValue) : Type 0 where
  number : ℤ
  is : number_in row value ≡ Some number
  suits : SuitsBase base number

same_itself : (z : ℤ) → same_number z z ≡ true
same_itself (pos n) = eq-eqb n n refl
same_itself (negsuc n) = eq-eqb n n refl

item_is : (all : List Item) (name : List ℕ) (z : ℤ) → item_number all name ≡ Some z → is_item all z ≡ true
item_is [] name z e = absurd cc
item_is (item ∷ all) name z e = go (bytes_eq item.name name) (λ h. item_is all name z h) e
  where
    go : (b : Bool) → (item_number all name ≡ Some z → is_item all z ≡ true) → (if b then Some item.number else item_number all name) ≡ Some z → is_item (item ∷ all) z ≡ true
    go true more h =
        let same : item.number ≡ z = cc in
        or_first (same_number item.number z) (is_item all z) (ap (λ (x : ℤ). same_number x z) same ∙ same_itself z)
    go false more h = or_second (same_number item.number z) (is_item all z) (more h)

truth_suits : (t : Bool) → (same_number (truth_number t) (pos 0) || same_number (truth_number t) (pos 1)) ≡ true
truth_suits true = refl
truth_suits false = refl

takes_number : (row : TypeRow) (b : DefaultKind) (value : DfltValue) → Fits row b → takes b value ≡ true → NumberMade row b value
takes_number row truth (values.Truth t) fits e = record {
  number = truth_number t;
  is = ap (λ (r : TypeRow). number_in r (values.Truth t)) fits;
  suits = λ one like f. ap (λ (r : TypeRow). default_by f r (truth_number t)) like ∙ truth_suits t;
}
takes_number row truth (values.Number n) fits e = absurd cc
takes_number row truth (values.Item name) fits e = absurd cc
takes_number row (numbers low high) (values.Truth t) fits e = absurd cc
takes_number row (numbers low high) (values.Number n) fits e = record {
  number = n;
  is = ap (λ (r : TypeRow). number_in r (values.Number n)) fits;
  suits = λ one like f. ap (λ (r : TypeRow). default_by f r n) like ∙ e;
}
takes_number row (numbers low high) (values.Item name) fits e = absurd cc
takes_number row (items all) (values.Truth t) fits e = absurd cc
takes_number row (items all) (values.Number n) fits e = absurd cc
takes_number row (items all) (values.Item name) fits e =
    let r = item_found all name e in
    record {
      number = r.0;
      is = ap (λ (r : TypeRow). number_in r (values.Item name)) fits ∙ r.1;
      suits = λ one like f. ap (λ (x : TypeRow). default_by f x r.0) like ∙ item_is (map item_of all) name r.0 r.1;
    }
takes_number row other (values.Truth t) fits e = absurd cc
takes_number row other (values.Number n) fits e = absurd cc
takes_number row other (values.Item name) fits e = absurd cc
takes_number row unknown value fits e = absurd fits

-- a default without a fault has a number
record DefaultMade (all : List TypeRow) (of : TypeId) (base : DefaultKind) (dflt : Option DfltText) : Type 0 where
  number : Option ℤ
  is : default_number all of dflt ≡ Some number
  written : has_default number ≡ is_some dflt
  suits : IfSome number (SuitsBase base)

default_made : (all : List TypeRow) (of : TypeId) (facts : Facts) (dflt : Option DfltText) → HasRow all of.0 facts → facts.nesting ≤ 32 → default_faults facts.base dflt ≡ [] → DefaultMade all of facts.base dflt
unfolding default_number base
default_made all of facts None h deep e = record { number = None; is = refl; written = refl; suits = tt }
default_made all of facts (Some dflt) h deep e =
    let small : h.turns ≤ facts.nesting = h.small in
    let at : base_in 32 all of.0 ≡ Some h.row = base_deeper all h.turns 32 of.0 h.row (omega arith) h.at in
    let n = takes_number h.row facts.base dflt.value h.fits (allowed (takes facts.base dflt.value) e) in
    record {
      number = Some n.number;
      is = ap (λ (o : Option TypeRow). option_map Some (or_none o (λ row. number_in row dflt.value))) at ∙ ap (option_map Some) n.is;
      written = refl;
      suits = n.suits;
    }
  where
    allowed : (b : Bool) → if_so (not b) (fault dflt.line dflt.column kinds.BadDefault) ≡ [] → b ≡ true
    allowed true f = refl
    allowed false f = absurd cc

-- a part is as its text says
pub record IsMade (all : List TypeRow) (name : Located) (optional : Bool) (dflt : Option DfltText) (facts : Facts) (p : Part) : Type 0 where
  pub named : p.name ≡ name.text
  pub lacking : p.optional ≡ optional
  pub written : has_default p.default ≡ is_some dflt
  pub suits : IfSome p.default (SuitsBase facts.base)
  pub row : HasRow all p.inner.0 facts

pub part_made : (name : Located) (optional : Bool) (dflt : Option DfltText) (of : TypeId) (s : NumberedRows) (facts : Facts) → HasRow s.rows of.0 facts → facts.nesting ≤ 32 → default_faults facts.base dflt ≡ []
    → (p : Part) × ((part_of name optional dflt of s ≡ Some (p, s)) × IsMade s.rows name optional dflt facts p)
unfolding part_of
part_made name optional dflt of s facts h deep e =
    let d = default_made s.rows of facts dflt h deep e in (
      record { name = name.text; inner = of; optional = optional; default = d.number },
      (
        ap (with_default name.text optional of s) d.is,
        record { named = refl; lacking = refl; written = d.written; suits = d.suits; row = h },
      ),
    )

-- a row under tags takes the defaults that are its own
takes_base : (all : List TypeRow) → AreSoundRows all → (turns n : ℕ) (row : TypeRow) (z : ℤ) → base_in turns all n ≡ Some row → takes_default all n z ≡ default_by (takes_default all) row z
unfolding base_in
takes_base all sound zero n row z e = absurd cc
takes_base all sound (suc turns) n row z e = go (slice_get all n) refl (λ m h. takes_base all sound turns m row z h) e
  where
    go : (o : Option TypeRow) → slice_get all n ≡ o → ((m : ℕ) → base_in turns all m ≡ Some row → takes_default all m z ≡ default_by (takes_default all) row z) → under (base_in turns all) o ≡ Some row → takes_default all n z ≡ default_by (takes_default all) row z
    go None s more h = absurd cc
    go (Some (rows.Tagged class number explicit inner)) s more h = ap (λ (f : ℤ → Bool). f z) (takes_at all sound n (rows.Tagged class number explicit inner) s) ∙ more inner.0 h
    go (Some one) s more h =
        let same : one ≡ row = cc in
        ap (λ (f : ℤ → Bool). f z) (takes_at all sound n one s) ∙ ap (λ (r : TypeRow). default_by (takes_default all) r z) same

pub takes_suited : (all : List TypeRow) (n : ℕ) (facts : Facts) (z : ℤ) → AreSoundRows all → HasRow all n facts → SuitsBase facts.base z → takes_default all n z ≡ true
takes_suited all n facts z sound h suits = takes_base all sound h.turns n h.row z h.at ∙ suits h.row h.fits (takes_default all)

-- ---- depths

pub deeper_pos : (n : ℕ) → 1 ≤ deeper n
deeper_pos n = grind (arith, nat_tests)

-- a row that isn't too deep is one level deeper than those in it
pub deeper_is : (n : ℕ) → deeper n ≤ 32 → suc n ≤ deeper n
deeper_is n h = go (nat_le n 32) refl
  where
    go : (b : Bool) → nat_le n 32 ≡ b → suc n ≤ deeper n
    go true e = let is : deeper n ≡ n + 1 = ap (λ (c : Bool). if c then n + 1 else n) e in omega arith
    go false e =
        let is : deeper n ≡ n = ap (λ (c : Bool). if c then n + 1 else n) e in
        let lt : 32 < n = leb-false n 32 e in absurd (omega arith)

module _ (facts : TypeTree → Facts) where
  pub nesting_from : (n : ℕ) (ps : PartTrees) → n ≤ parts_nesting facts n ps
  nesting_from n no_parts = omega arith
  nesting_from n (part name of optional dflt more) =
      let r : max n (facts of).nesting ≤ parts_nesting facts (max n (facts of).nesting) more = nesting_from (max n (facts of).nesting) more in
      omega arith

  pub nesting_part : (n : ℕ) (name : Located) (of : TypeTree) (optional : Bool) (dflt : Option DfltText) (more : PartTrees) → (facts of).nesting ≤ parts_nesting facts n (part name of optional dflt more)
  nesting_part n name of optional dflt more =
      let r : max n (facts of).nesting ≤ parts_nesting facts (max n (facts of).nesting) more = nesting_from (max n (facts of).nesting) more in
      omega arith

-- each type has a row at least
pub measure_pos : (env : List ℕ → Facts) (levels : ℕ) (of : TypeTree) → 1 ≤ 2 * (type_facts env levels of).nesting + alias_slack of
unfolding type_facts
measure_pos env zero of = omega arith
measure_pos env (suc levels) (type_tree line column (Some tag) plain) = let d = deeper_pos (plain_facts env (type_facts env levels) plain).nesting in omega arith
measure_pos env (suc levels) (type_tree line column None boolean) = omega arith
measure_pos env (suc levels) (type_tree line column None null) = omega arith
measure_pos env (suc levels) (type_tree line column None (integer range)) = omega arith
measure_pos env (suc levels) (type_tree line column None (enumerated all)) = omega arith
measure_pos env (suc levels) (type_tree line column None (octets size)) = omega arith
measure_pos env (suc levels) (type_tree line column None bits) = omega arith
measure_pos env (suc levels) (type_tree line column None object_id) = omega arith
measure_pos env (suc levels) (type_tree line column None (text kind)) = omega arith
measure_pos env (suc levels) (type_tree line column None (sequence_of item)) = let d = deeper_pos (type_facts env levels item).nesting in omega arith
measure_pos env (suc levels) (type_tree line column None (set_of item)) = let d = deeper_pos (type_facts env levels item).nesting in omega arith
measure_pos env (suc levels) (type_tree line column None (sequence ps)) = let d = deeper_pos (parts_nesting (type_facts env levels) 0 ps) in omega arith
measure_pos env (suc levels) (type_tree line column None (set ps)) = let d = deeper_pos (parts_nesting (type_facts env levels) 0 ps) in omega arith
measure_pos env (suc levels) (type_tree line column None (choice ps)) = let d = deeper_pos (parts_nesting (type_facts env levels) 0 ps) in omega arith
measure_pos env (suc levels) (type_tree line column None (named name)) = omega arith

-- ---- rows by numbers that there are

pub class_made : (n : ℕ) → n ≤ 3 → (c : Class) × ((class_numbered (pos n) ≡ Some c) × (class_number c ≡ n))
class_made zero le = (_, (refl, refl))
class_made (suc zero) le = (_, (refl, refl))
class_made (suc (suc zero)) le = (_, (refl, refl))
class_made (suc (suc (suc zero))) le = (_, (refl, refl))
class_made (suc (suc (suc (suc n)))) le = absurd (omega arith)

pub kind_made : (n : ℕ) → n ≤ 4 → (k : TextKind) × ((kind_numbered (pos n) ≡ Some k) × (text_number k ≡ text_tag n))
kind_made zero le = (_, (refl, refl))
kind_made (suc zero) le = (_, (refl, refl))
kind_made (suc (suc zero)) le = (_, (refl, refl))
kind_made (suc (suc (suc zero))) le = (_, (refl, refl))
kind_made (suc (suc (suc (suc zero)))) le = (_, (refl, refl))
kind_made (suc (suc (suc (suc (suc n))))) le = absurd (omega arith)
