-- The parts that are made of a type's parts, and its items: their names, numbers, tags and defaults, as its faults say.
use Rattle.std.proofs.Common.{◌≡◌, ℕ, zero, suc, ◌+◌, ◌≤◌, ◌<◌, Bool, true, false, List, [], ◌∷◌, ◌++◌, length, Option, None, Some, refl, sym, ap, ◌∙◌, arith, ℤ, pos, negsuc}
use Rattle.std.specs.Prelude.{◌||◌, ◌&&◌, not, nat_eq, max, map, is_some, IfSome, if◌then◌else◌}
use Rattle.std.specs.List.{list_any, flat_map, AllByRecursion}
use Rattle.std.specs.Ordering.{int_eq}
use Rattle.std.specs.Cmp.Lexicographic.{pointwise}
use Rattle.std.proofs.lemmas.Bool.{lt-ltb, eqb-true, ne_eqb}
use Rattle.std.proofs.lemmas.Bool.Decides.{Decides-int_eq}
use Rattle.std.proofs.lemmas.Slice.Eq.{bytes_eq-Decides}
use Rattle.notation_tokens.specs.declared.token.Located.{Located}
use Rattle.asn1_types.specs.declared.row.Item.{Item}
use Rattle.asn1_types.specs.declared.row.Part.{Part}
use Rattle.asn1_types.specs.declared.row.TypeRow.{TypeRow}
use Rattle.asn1_types.specs.declared.row.TypeRow.TheVariants as rows
use Rattle.asn1_types.specs.Rows.{rows_of_parts, greatest, nesting, openings}
use Rattle.asn1_types.specs.Defaults.{same_number, has_default, may_be_absent, takes_default, is_bad, is_bad_part, is_bad_alternative}
use Rattle.asn1_types.specs.Table.{first_from, same_name, items_agree, parts_agree, agrees_later, clash, clashes_in_run, clashes_in_sequence, AreSoundRows}
use Rattle.asn1_types.proofs.Names.{same_name_is}
use Rattle.operation_notation.specs.Tree.{TypeTree, PartTrees, no_parts, part}
use Rattle.operation_notation.specs.WellFormed.{MayLack, AreWellParts, HasPart}
use Rattle.operation_notation.specs.declared.module.DfltText.{DfltText}
use Rattle.operation_notation.specs.declared.module.ItemText.{ItemText}
use Rattle.module_faults.specs.declared.kind.TableKind.TheVariants as kinds
use Rattle.module_faults.specs.declared.least.Found.{Found}
use Rattle.module_faults.specs.Least.{at_name, if_so}
use Rattle.module_faults.specs.Met.{has_list, with_list, has_number, with_number}
use Rattle.module_faults.specs.Locals.{end_faults, item_faults, part_faults}
use Rattle.module_faults.specs.Facts.{Facts, has_tag, with_tags, clash as clash_of, tags_behind, default_faults, parts_nesting, parts_tags, parts_show}
use Rattle.module_compiler.specs.Numbering.{item_of}
use Rattle.module_compiler.proofs.Tags.{neither, AreAmong, among_more, among_kept, among_new, among_append, kept_tags, all_apart}
use Rattle.module_compiler.proofs.OwnCodes.{either_false}
use Rattle.module_compiler.proofs.Codes.{number_more, list_more}
use Rattle.module_compiler.proofs.Rows.{nothing_first, nothing_behind, HasRow, SuitsBase, IsMade, takes_suited, nesting_from}

pub no_fault_if : (b : Bool) (f : Found) → if_so b f ≡ [] → b ≡ false
no_fault_if true f e = absurd cc
no_fault_if false f e = refl

none_of : {X : Type 0} (test : X → Bool) (xs : List X) → AllByRecursion (λ x. test x ≡ false) xs → list_any test xs ≡ false
none_of test [] h = refl
none_of test (x ∷ xs) h = neither (test x) (list_any test xs) h.0 (none_of test xs h.1)

-- ---- names and numbers that differ

not_true : (b c : Bool) → (b ≡ true → c ≡ true) → c ≡ false → b ≡ false
not_true true c f e = let h : c ≡ true = f refl in absurd cc
not_true false c f e = refl

name_differs : (a b : List ℕ) → pointwise nat_eq a b ≡ false → same_name a b ≡ false
name_differs a b e = sym (same_name_is a b (pointwise nat_eq a b) (bytes_eq-Decides a b)) ∙ e

number_is : (a b : ℤ) → same_number a b ≡ true → a ≡ b
number_is (pos a) (pos b) e = ap pos (eqb-true a b e)
number_is (pos a) (negsuc b) e = absurd cc
number_is (negsuc a) (pos b) e = absurd cc
number_is (negsuc a) (negsuc b) e = ap negsuc (eqb-true a b e)

number_differs : (a b : ℤ) → int_eq a b ≡ false → same_number a b ≡ false
number_differs a b e = not_true (same_number a b) (int_eq a b) (λ h. (Decides-int_eq a b).1 (number_is a b h)) e

-- ---- items

-- an item's name and number aren't among these
abbrev Unmet : List (List ℕ) → List ℤ → Item → Type 0
Unmet names numbers item = (has_list names item.name ≡ false) × (has_number numbers item.number ≡ false)

-- items that aren't met with one more weren't met before, and differ from that one
others_apart : (names : List (List ℕ)) (numbers : List ℤ) (one : Item) (xs : List Item) → has_list names one.name ≡ false → has_number numbers one.number ≡ false → AllByRecursion (Unmet (with_list names one.name) (with_number numbers one.number)) xs
    → AllByRecursion (Unmet names numbers) xs × AllByRecursion (λ x. items_agree one x ≡ false) xs
others_apart names numbers one [] f g h = (tt, tt)
others_apart names numbers one (x ∷ xs) f g h =
    let name = list_more names one.name x.name f h.0.0 in
    let number = number_more numbers one.number x.number g h.0.1 in
    let rest = others_apart names numbers one xs f g h.1 in (
      ((name.0, number.0), rest.0),
      (neither (same_name one.name x.name) (same_number one.number x.number) (name_differs one.name x.name name.1) (number_differs one.number x.number number.1), rest.1),
    )

items_unmet : (names : List (List ℕ)) (numbers : List ℤ) (all : List ItemText) → item_faults names numbers all ≡ [] → AllByRecursion (Unmet names numbers) (map item_of all) × (agrees_later items_agree (map item_of all) ≡ false)
items_unmet names numbers [] e = (tt, refl)
items_unmet names numbers (item ∷ all) e =
    let met : Bool = has_list names item.name.text || has_number numbers item.number in
    let here : List Found = if_so met (at_name item.name kinds.DoubleName) in
    let more : List Found = item_faults (with_list names item.name.text) (with_number numbers item.number) all in
    let free = either_false (has_list names item.name.text) (has_number numbers item.number) (no_fault_if met (at_name item.name kinds.DoubleName) (nothing_first here more e)) in
    let rest = items_unmet (with_list names item.name.text) (with_number numbers item.number) all (nothing_behind here more e) in
    let behind = others_apart names numbers (item_of item) (map item_of all) free.0 free.1 rest.0 in
    ((free, behind.0), neither (list_any (items_agree (item_of item)) (map item_of all)) (agrees_later items_agree (map item_of all)) (none_of (items_agree (item_of item)) (map item_of all) behind.1) rest.1)

pub items_apart : (all : List ItemText) → item_faults [] [] all ≡ [] → agrees_later items_agree (map item_of all) ≡ false
items_apart all e = (items_unmet [] [] all e).1

pub has_items : (all : List ItemText) → 0 < length all → nat_eq (length (map item_of all)) 0 ≡ false
has_items [] lt = absurd (omega arith)
has_items (item ∷ all) lt = ne_eqb (length (map item_of (item ∷ all))) 0 (λ e. omega arith)

-- ---- parts

-- parts are as their texts say
abbrev pub AreMade : (TypeTree → Facts) → List TypeRow → PartTrees → List Part → Type 0
AreMade facts all no_parts [] = Unit {0}
AreMade facts all no_parts (p ∷ ps) = ⊥
AreMade facts all (part name of optional dflt more) [] = ⊥
AreMade facts all (part name of optional dflt more) (p ∷ ps) = IsMade all name optional dflt (facts of) p × AreMade facts all more ps

module _ (facts : TypeTree → Facts) where
  module _ (all : List TypeRow) where
    -- the rows that parts name are there
    pub rows_there : (texts : PartTrees) (ps : List Part) → AreMade facts all texts ps → first_from (length all) (rows_of_parts ps) ≡ None
    rows_there no_parts [] h = refl
    rows_there no_parts (p ∷ ps) h = absurd h
    rows_there (part name of optional dflt texts) [] h = absurd h
    rows_there (part name of optional dflt texts) (p ∷ ps) h =
        ap (λ (b : Bool). if b then first_from (length all) (rows_of_parts ps) else Some p.inner.0) (lt-ltb p.inner.0 (length all) h.0.row.nests.below)
        ∙ rows_there texts ps h.1

    -- they nest at most so deep
    pub rows_nest : (texts : PartTrees) (ps : List Part) → AreMade facts all texts ps → (n : ℕ) → greatest (nesting all) (rows_of_parts ps) ≤ parts_nesting facts n texts
    rows_nest no_parts [] h n = omega arith
    rows_nest no_parts (p ∷ ps) h n = absurd h
    rows_nest (part name of optional dflt texts) [] h n = absurd h
    rows_nest (part name of optional dflt texts) (p ∷ ps) h n =
        let here : nesting all p.inner.0 ≤ (facts of).nesting = h.0.row.nests.deep in
        let up : max n (facts of).nesting ≤ parts_nesting facts (max n (facts of).nesting) texts = nesting_from facts (max n (facts of).nesting) texts in
        let rest : greatest (nesting all) (rows_of_parts ps) ≤ parts_nesting facts (max n (facts of).nesting) texts = rows_nest texts ps h.1 (max n (facts of).nesting) in
        omega arith

    -- ---- names of parts

    others_named : (names : List (List ℕ)) (one : Part) (xs : List Part) → has_list names one.name ≡ false → AllByRecursion (λ (x : Part). has_list (with_list names one.name) x.name ≡ false) xs
        → AllByRecursion (λ (x : Part). has_list names x.name ≡ false) xs × AllByRecursion (λ x. parts_agree one x ≡ false) xs
    others_named names one [] f h = (tt, tt)
    others_named names one (x ∷ xs) f h =
        let name = list_more names one.name x.name f h.0 in
        let rest = others_named names one xs f h.1 in
        ((name.0, rest.0), (name_differs one.name x.name name.1, rest.1))

    names_unmet : (names : List (List ℕ)) (texts : PartTrees) (ps : List Part) → AreMade facts all texts ps → part_faults names texts ≡ [] → AllByRecursion (λ (p : Part). has_list names p.name ≡ false) ps × (agrees_later parts_agree ps ≡ false)
    names_unmet names no_parts [] h e = (tt, refl)
    names_unmet names no_parts (p ∷ ps) h e = absurd h
    names_unmet names (part name of optional dflt texts) [] h e = absurd h
    names_unmet names (part name of optional dflt texts) (p ∷ ps) h e =
        let here : List Found = if_so (has_list names name.text) (at_name name kinds.DoubleName) in
        let more : List Found = part_faults (with_list names name.text) texts in
        let is : p.name ≡ name.text = h.0.named in
        let free : has_list names p.name ≡ false = ap (has_list names) is ∙ no_fault_if (has_list names name.text) (at_name name kinds.DoubleName) (nothing_first here more e) in
        let rest = names_unmet (with_list names p.name) texts ps h.1 (ap (λ (t : List ℕ). part_faults (with_list names t) texts) is ∙ nothing_behind here more e) in
        let behind = others_named names p ps free rest.0 in
        ((free, behind.0), neither (list_any (parts_agree p) ps) (agrees_later parts_agree ps) (none_of (parts_agree p) ps behind.1) rest.1)

    pub names_apart : (texts : PartTrees) (ps : List Part) → AreMade facts all texts ps → part_faults [] texts ≡ [] → agrees_later parts_agree ps ≡ false
    names_apart texts ps h e = (names_unmet [] texts ps h e).1

    -- ---- how many alternatives

    pub few_parts : (n : ℕ) (texts : PartTrees) (ps : List Part) → AreMade facts all texts ps → end_faults n texts ≡ [] → length ps ≤ n
    few_parts n no_parts [] h e = omega arith
    few_parts n no_parts (p ∷ ps) h e = absurd h
    few_parts n (part name of optional dflt texts) [] h e = absurd h
    few_parts zero (part name of optional dflt texts) (p ∷ ps) h e = absurd cc
    few_parts (suc n) (part name of optional dflt texts) (p ∷ ps) h e = let r : length ps ≤ n = few_parts n texts ps h.1 e in omega arith

    pub some_part : (texts : PartTrees) (ps : List Part) → AreMade facts all texts ps → HasPart texts → 0 < length ps
    some_part no_parts [] h one = absurd one
    some_part no_parts (p ∷ ps) h one = absurd h
    some_part (part name of optional dflt texts) [] h one = absurd h
    some_part (part name of optional dflt texts) (p ∷ ps) h one = omega arith

    -- ---- defaults

    default_good : (p : Part) (optional : Bool) (dflt : Option DfltText) (of : Facts) → AreSoundRows all → HasRow all p.inner.0 of → p.optional ≡ optional → MayLack true optional dflt → (d : Option ℤ) → p.default ≡ d → has_default d ≡ is_some dflt → IfSome d (SuitsBase of.base)
        → is_bad_part (takes_default all) p ≡ false
    default_good p optional dflt of sound row lacking may None is written suits = ap (is_bad (takes_default all) p) is
    default_good p optional None of sound row lacking may (Some z) is written suits = absurd cc
    default_good p optional (Some d) of sound row lacking may (Some z) is written suits =
        ap (is_bad (takes_default all) p) is
        ∙ neither p.optional (not (takes_default all p.inner.0 z)) (lacking ∙ may.1) (ap not (takes_suited all p.inner.0 of z sound row suits))

    pub defaults_good : AreSoundRows all → (texts : PartTrees) (ps : List Part) → AreMade facts all texts ps → AreWellParts true texts → list_any (is_bad_part (takes_default all)) ps ≡ false
    defaults_good sound no_parts [] h well = refl
    defaults_good sound no_parts (p ∷ ps) h well = absurd h
    defaults_good sound (part name of optional dflt texts) [] h well = absurd h
    defaults_good sound (part name of optional dflt texts) (p ∷ ps) h well =
        let m = h.0 in
        neither (is_bad_part (takes_default all) p) (list_any (is_bad_part (takes_default all)) ps) (default_good p optional dflt (facts of) sound m.row m.lacking well.2 p.default refl m.written m.suits) (defaults_good sound texts ps h.1 well.3)

    none_written : (optional : Bool) (dflt : Option DfltText) (d : Option ℤ) → has_default d ≡ is_some dflt → MayLack false optional dflt → has_default d ≡ false
    none_written optional None d e may = e
    none_written optional (Some x) d e may = absurd (let no : false ≡ true = may.0 in cc)

    pub no_defaults : (texts : PartTrees) (ps : List Part) → AreMade facts all texts ps → AreWellParts false texts → list_any is_bad_alternative ps ≡ false
    no_defaults no_parts [] h well = refl
    no_defaults no_parts (p ∷ ps) h well = absurd h
    no_defaults (part name of optional dflt texts) [] h well = absurd h
    no_defaults (part name of optional dflt texts) (p ∷ ps) h well =
        neither (is_bad_alternative p) (list_any is_bad_alternative ps) (none_written optional dflt p.default h.0.written well.2) (no_defaults texts ps h.1 well.3)

    -- ---- tags

    tags_keep : (before : List _) (texts : PartTrees) (x : _) → has_tag before x ≡ true → has_tag (parts_tags facts false before texts) x ≡ true
    tags_keep before no_parts x e = e
    tags_keep before (part name of optional dflt texts) x e = tags_keep (with_tags before (facts of).tags) texts x (kept_tags before (facts of).tags x e)

    -- the tags of alternatives are among those of their CHOICE
    pub choice_among : (before : List _) (texts : PartTrees) (ps : List Part) → AreMade facts all texts ps → AreAmong (parts_tags facts false before texts) (flat_map (λ (p : Part). openings all p.inner.0) ps)
    choice_among before no_parts [] h = tt
    choice_among before no_parts (p ∷ ps) h = absurd h
    choice_among before (part name of optional dflt texts) [] h = absurd h
    choice_among before (part name of optional dflt texts) (p ∷ ps) h =
        let now = with_tags before (facts of).tags in
        let here : AreAmong now (openings all p.inner.0) = among_new before (facts of).tags (openings all p.inner.0) h.0.row.nests.opens in
        among_append (parts_tags facts false now texts) (openings all p.inner.0) (flat_map (λ (q : Part). openings all q.inner.0) ps) (among_more now (parts_tags facts false now texts) (tags_keep now texts) (openings all p.inner.0) here) (choice_among now texts ps h.1)

    module _ (shows : TypeTree → List Found) where
      -- what is seen of the first part and of the others
      record FirstShown (runs : Bool) (before : List _) (of : TypeTree) (optional : Bool) (dflt : Option DfltText) (texts : PartTrees) : Type 0 where
        apart : clash_of before (facts of).tags ≡ false
        rest : parts_show facts shows runs (tags_behind runs optional dflt (with_tags before (facts of).tags)) texts ≡ []

      first_shown : (runs : Bool) (before : List _) (name : Located) (of : TypeTree) (optional : Bool) (dflt : Option DfltText) (texts : PartTrees) → parts_show facts shows runs before (part name of optional dflt texts) ≡ [] → FirstShown runs before of optional dflt texts
      first_shown runs before name of optional dflt texts e =
          let met : List Found = if_so (clash_of before (facts of).tags) (at_name name kinds.TagsNotDistinct) in
          let own : List Found = met ++ default_faults (facts of).base dflt in
          let more : List Found = parts_show facts shows runs (tags_behind runs optional dflt (with_tags before (facts of).tags)) texts in
          let here : shows of ++ own ≡ [] = nothing_first (shows of ++ own) more e in
          record {
            apart = no_fault_if (clash_of before (facts of).tags) (at_name name kinds.TagsNotDistinct) (nothing_first met (default_faults (facts of).base dflt) (nothing_behind (shows of) own here));
            rest = nothing_behind (shows of ++ own) more e;
          }

      -- a part whose tags stand before is told from all that follow
      told_apart : (one : Part) (before : List _) (texts : PartTrees) (ps : List Part) → AreMade facts all texts ps → AreAmong before (openings all one.inner.0) → parts_show facts shows false before texts ≡ [] → list_any (clash (openings all) one) ps ≡ false
      told_apart one before no_parts [] h among e = refl
      told_apart one before no_parts (p ∷ ps) h among e = absurd h
      told_apart one before (part name of optional dflt texts) [] h among e = absurd h
      told_apart one before (part name of optional dflt texts) (p ∷ ps) h among e =
          let f = first_shown false before name of optional dflt texts e in
          neither (clash (openings all) one p) (list_any (clash (openings all) one) ps)
          (all_apart before (facts of).tags f.apart (openings all one.inner.0) (openings all p.inner.0) among h.0.row.nests.opens)
          (told_apart one (with_tags before (facts of).tags) texts ps h.1 (among_kept before (facts of).tags (openings all one.inner.0) among) f.rest)

      pub tags_apart : (before : List _) (texts : PartTrees) (ps : List Part) → AreMade facts all texts ps → parts_show facts shows false before texts ≡ [] → agrees_later (clash (openings all)) ps ≡ false
      tags_apart before no_parts [] h e = refl
      tags_apart before no_parts (p ∷ ps) h e = absurd h
      tags_apart before (part name of optional dflt texts) [] h e = absurd h
      tags_apart before (part name of optional dflt texts) (p ∷ ps) h e =
          let f = first_shown false before name of optional dflt texts e in
          let now = with_tags before (facts of).tags in
          neither (list_any (clash (openings all) p) ps) (agrees_later (clash (openings all)) ps)
          (told_apart p now texts ps h.1 (among_new before (facts of).tags (openings all p.inner.0) h.0.row.nests.opens) f.rest)
          (tags_apart now texts ps h.1 f.rest)

      -- behind a part that may be absent the tags that stand before stay
      stay_behind : (optional : Bool) (dflt : Option DfltText) (tags : List _) → (optional || is_some dflt) ≡ true → tags_behind true optional dflt tags ≡ tags
      stay_behind true dflt tags e = refl
      stay_behind false None tags e = absurd cc
      stay_behind false (Some d) tags e = refl

      absent_as : (p : Part) (optional : Bool) (dflt : Option DfltText) → p.optional ≡ optional → has_default p.default ≡ is_some dflt → may_be_absent p ≡ (optional || is_some dflt)
      absent_as p optional dflt e f = ap (λ (b : Bool). b || has_default p.default) e ∙ ap (λ (b : Bool). optional || b) f

      only_if : (a b : Bool) → (a ≡ true → b ≡ false) → (a && b) ≡ false
      only_if true b h = h refl
      only_if false b h = refl

      -- the rest of what is shown, where a part may be absent
      still_shown : (p : Part) (before : List _) (of : TypeTree) (optional : Bool) (dflt : Option DfltText) (texts : PartTrees) → p.optional ≡ optional → has_default p.default ≡ is_some dflt → FirstShown true before of optional dflt texts → may_be_absent p ≡ true
          → parts_show facts shows true (with_tags before (facts of).tags) texts ≡ []
      still_shown p before of optional dflt texts lacking written f absent =
          sym (ap (λ t. parts_show facts shows true t texts) (stay_behind optional dflt (with_tags before (facts of).tags) (sym (absent_as p optional dflt lacking written) ∙ absent)))
          ∙ f.rest

      -- a part whose tags stand before is told from the run that follows
      told_in_run : (one : Part) (before : List _) (texts : PartTrees) (ps : List Part) → AreMade facts all texts ps → AreAmong before (openings all one.inner.0) → parts_show facts shows true before texts ≡ [] → clashes_in_run (clash (openings all)) one ps ≡ false
      told_in_run one before no_parts [] h among e = refl
      told_in_run one before no_parts (p ∷ ps) h among e = absurd h
      told_in_run one before (part name of optional dflt texts) [] h among e = absurd h
      told_in_run one before (part name of optional dflt texts) (p ∷ ps) h among e =
          let f = first_shown true before name of optional dflt texts e in
          neither (clash (openings all) one p) (may_be_absent p && clashes_in_run (clash (openings all)) one ps)
          (all_apart before (facts of).tags f.apart (openings all one.inner.0) (openings all p.inner.0) among h.0.row.nests.opens)
          (only_if (may_be_absent p) (clashes_in_run (clash (openings all)) one ps)
          (λ absent. told_in_run one (with_tags before (facts of).tags) texts ps h.1 (among_kept before (facts of).tags (openings all one.inner.0) among) (still_shown p before of optional dflt texts h.0.lacking h.0.written f absent)))

      pub runs_apart : (before : List _) (texts : PartTrees) (ps : List Part) → AreMade facts all texts ps → parts_show facts shows true before texts ≡ [] → clashes_in_sequence (clash (openings all)) ps ≡ false
      runs_apart before no_parts [] h e = refl
      runs_apart before no_parts (p ∷ ps) h e = absurd h
      runs_apart before (part name of optional dflt texts) [] h e = absurd h
      runs_apart before (part name of optional dflt texts) (p ∷ ps) h e =
          let f = first_shown true before name of optional dflt texts e in
          neither (may_be_absent p && clashes_in_run (clash (openings all)) p ps) (clashes_in_sequence (clash (openings all)) ps)
          (only_if (may_be_absent p) (clashes_in_run (clash (openings all)) p ps)
          (λ absent. told_in_run p (with_tags before (facts of).tags) texts ps h.1 (among_new before (facts of).tags (openings all p.inner.0) h.0.row.nests.opens) (still_shown p before of optional dflt texts h.0.lacking h.0.written f absent)))
          (runs_apart (tags_behind true optional dflt (with_tags before (facts of).tags)) texts ps h.1 f.rest)
