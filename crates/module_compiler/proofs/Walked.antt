-- In a module without a fault the walk of each type ends with its row.
use Rattle.std.proofs.Common.{◌≡◌, ℕ, zero, suc, ◌+◌, ◌*◌, ◌≤◌, Bool, true, false, List, [], ◌∷◌, ◌++◌, length, Option, None, Some, refl, sym, ap, subst, ◌∙◌, arith, inl, inr, ℤ, pos, negsuc, ltb}
use Rattle.std.specs.Prelude.{◌⊎◌, ◌||◌, not, nat_le, max, map, IfSome, slice_get, slice_set, int_lt, if◌then◌else◌}
use Rattle.std.specs.Ordering.{int_eq}
use Rattle.std.proofs.lemmas.Bool.{ltb-false, le-leb}
use Rattle.std.proofs.lemmas.List.{append_assoc, append-nil}
use Rattle.notation_tokens.specs.declared.token.Located.{Located}
use Rattle.asn1_types.specs.declared.row.Class.{Class}
use Rattle.asn1_types.specs.declared.row.Part.{Part}
use Rattle.asn1_types.specs.declared.row.TypeId.{TypeId}
use Rattle.asn1_types.specs.declared.row.TypeRow.{TypeRow}
use Rattle.asn1_types.specs.declared.row.TypeRow.TheVariants as rows
use Rattle.asn1_types.specs.Table.{AreSoundRows}
use Rattle.operation_notation.specs.Tree.{TypeTree, type_tree, PlainTree, boolean, null, integer, enumerated, octets, bits, object_id, text, sequence_of, set_of, sequence, set, choice, named, PartTrees, no_parts, part}
use Rattle.operation_notation.specs.WellFormed.{IsTag, IsWellType, IsWellPlain, AreWellParts}
use Rattle.operation_notation.specs.declared.module.Assignment.{Assignment}
use Rattle.operation_notation.specs.declared.module.RangeText.{RangeText}
use Rattle.operation_notation.specs.declared.module.TagText.{TagText}
use Rattle.module_faults.specs.declared.kind.TableKind.TheVariants as kinds
use Rattle.module_faults.specs.declared.least.Found.{Found}
use Rattle.module_faults.specs.Least.{fault, at_name, if_so}
use Rattle.module_faults.specs.Names.{or_none, find, type_at}
use Rattle.module_faults.specs.Places.{is_bad_size, is_bad_tag}
use Rattle.module_faults.specs.Locals.{tag_faults, size_faults, in_parts, part_faults, end_faults, plain_faults, type_faults}
use Rattle.module_faults.specs.Facts.{truth, items, other, Facts, simple, range_base, deeper, with_tags, clash, tags_behind, default_faults, parts_nesting, plain_facts, tagged as tagged_facts, type_facts, parts_show, plain_shows, type_shows, env_of}
use Rattle.module_compiler.specs.Scope.{Ground, behind}
use Rattle.asn1_types.specs.Numbered.{kind_numbered}
use Rattle.module_compiler.specs.Numbering.{NumberedRows, Walk, after, add, add_if, range_row, most, size_of, item_of, is_explicit, tag_row, tagged, part_of, parts_of, note, known, walk_if_new, row_of, row_behind, named_row, plain_row, walk}
use Rattle.module_compiler.proofs.Faultless.{IsFine, AreFine, slack, alias_slack, no_slack, slack_small, alias_slack_small, name_known, StandsBehind, stands, behind_is, name_stands}
use Rattle.module_compiler.proofs.Trails.{place_typed}
use Rattle.module_compiler.proofs.Parts.{no_fault_if, AreMade}
use Rattle.module_compiler.proofs.Rows.{nothing_first, nothing_behind, Extends, extends_push, Fits, Nests, Suits, still_sound, HasRow, has_more, Untagged, plain_has, tag_has, IsMade, part_made, deeper_pos, deeper_is, nesting_part, measure_pos, class_made, kind_made}
use Rattle.module_compiler.proofs.Suited as suited

-- ---- an OCTET STRING has a most number of octets

or_second : (a b : Bool) → (a || b) ≡ false → b ≡ false
or_second true b e = absurd cc
or_second false b e = e

most_made : (high : ℤ) → (int_lt high (pos 0) || int_lt (pos 4294967295) high) ≡ false → (n : ℕ) × (most high ≡ Some n)
most_made (negsuc n) e = absurd cc
most_made (pos n) e =
    let le : n ≤ 4294967295 = ltb-false 4294967295 n (or_second (ltb n 0) (ltb 4294967295 n) e) in
    let small : nat_le n 4294967295 ≡ true = le-leb n 4294967295 le in
    (n, ap (λ (b : Bool). if b then Some n else None) small)

size_made : (size : Option RangeText) → size_faults size ≡ [] → (n : ℕ) × (size_of size ≡ Some n)
size_made None e = (262144, refl)
size_made (Some r) e =
    most_made r.high (or_second (not (int_eq r.low (pos 0))) (int_lt r.high (pos 0) || int_lt (pos 4294967295) r.high) (no_fault_if (is_bad_size r) (fault r.line r.column kinds.BadRange) e))

-- ---- states

module _ (all : List Assignment) (recursive : ℕ → Bool) (implicit : Bool) (fine : AreFine all recursive) where
  abbrev env : List ℕ → Facts
  env = env_of all recursive

  abbrev ground : Ground
  ground = record { assignments = all; implicit = implicit }

  -- the rows are sound, and each type that has a row by now has one as its facts say
  pub record Good (s : NumberedRows) : Type 0 where
    pub sound : AreSoundRows s.rows
    pub so : (q : ℕ) (id : TypeId) (of : TypeTree) → slice_get s.given q ≡ Some (Some id) → type_at all q ≡ Some of → HasRow s.rows id.0 (type_facts env 256 of)

  good_more : (old new : NumberedRows) → Extends old.rows new.rows → new.given ≡ old.given → AreSoundRows new.rows → Good old → Good new
  good_more old new more same sound g = record {
    sound = sound;
    so = λ q id of e t. has_more old.rows new.rows id.0 (type_facts env 256 of) g.sound more (g.so q id of (sym (ap (λ (l : List (Option TypeId)). slice_get l q) same) ∙ e) t);
  }

  -- walking ended with a row as the facts say, and each type that has a row has such a one
  pub record Walked (facts : Facts) (s : NumberedRows) (r : Option (TypeId × NumberedRows)) : Type 0 where
    pub id : TypeId
    pub now : NumberedRows
    pub is : r ≡ Some (id, now)
    pub more : Extends s.rows now.rows
    pub good : Good now
    pub has : HasRow now.rows id.0 facts

  -- walking ended with something, and each type that has a row has one as its facts say
  pub record Ended (A : Type 0) (s : NumberedRows) (r : Option (A × NumberedRows)) : Type 0 where
    pub value : A
    pub now : NumberedRows
    pub is : r ≡ Some (value, now)
    pub more : Extends s.rows now.rows
    pub good : Good now

  as_facts : (f g : Facts) (s : NumberedRows) (r : Option (TypeId × NumberedRows)) → f ≡ g → Walked f s r → Walked g s r
  as_facts f g s r e w = record { id = w.id; now = w.now; is = w.is; more = w.more; good = w.good; has = subst (λ (x : Facts). HasRow w.now.rows w.id.0 x) e w.has }

  as_result : (f : Facts) (s : NumberedRows) (r t : Option (TypeId × NumberedRows)) → t ≡ r → Walked f s r → Walked f s t
  as_result f s r t e w = record { id = w.id; now = w.now; is = e ∙ w.is; more = w.more; good = w.good; has = w.has }

  pub all_more : (a b c : List TypeRow) → Extends a b → Extends b c → Extends a c
  all_more a b c f g n row e = g n row (f n row e)

  -- one more row
  added : (row : TypeRow) (facts : Facts) (s : NumberedRows) → Good s → Suits s.rows row facts → HasRow (s.rows ++ row ∷ []) (length s.rows) facts → Walked facts s (add row s)
  unfolding add
  added row facts s good suits has =
      let now : NumberedRows = record { rows = s.rows ++ row ∷ []; given = s.given } in
      record {
        id = record { 0 = length s.rows };
        now = now;
        is = refl;
        more = extends_push s.rows row;
        good = good_more s now (extends_push s.rows row) refl (still_sound s.rows row facts good.sound suits) good;
        has = has;
      }

  added_plain : (row : TypeRow) (facts : Facts) (s : NumberedRows) → Good s → Suits s.rows row facts → Untagged row → 1 ≤ facts.nesting → Fits row facts.base → Walked facts s (add row s)
  added_plain row facts s good suits untagged deep fits = added row facts s good suits (plain_has s.rows row facts good.sound suits untagged deep fits)

  -- a row over one that was walked
  then_add : (inner facts : Facts) (row : TypeId → TypeRow) (s : NumberedRows) (r : Option (TypeId × NumberedRows)) → ((id : TypeId) → Untagged (row id)) → 1 ≤ facts.nesting → ((id : TypeId) → Fits (row id) facts.base)
      → ((all : List TypeRow) (id : TypeId) → Nests all id.0 inner → Suits all (row id) facts) → Walked inner s r → Walked facts s (after r (λ id. add (row id)))
  then_add inner facts row s r untagged deep fits suits w =
      let v = added_plain (row w.id) facts w.now w.good (suits w.now.rows w.id w.has.nests) (untagged w.id) deep (fits w.id) in
      record {
        id = v.id;
        now = v.now;
        is = ap (λ (p : Option (TypeId × NumberedRows)). after p (λ id. add (row id))) w.is ∙ v.is;
        more = all_more s.rows w.now.rows v.now.rows w.more v.more;
        good = v.good;
        has = v.has;
      }

  -- ---- tags

  tag_walked : (line column : ℕ) (tag : Option TagText) (facts : Facts) (s : NumberedRows) (r : Option (TypeId × NumberedRows)) → tag_faults line column tag ≡ [] → IfSome tag IsTag → (tagged_facts tag facts).nesting ≤ 32 → Walked facts s r
      → Walked (tagged_facts tag facts) s (after r (tagged ground tag))
  unfolding tagged
  tag_walked line column None facts s r f well deep w = record { id = w.id; now = w.now; is = ap (λ (p : Option (TypeId × NumberedRows)). after p (tagged ground None)) w.is; more = w.more; good = w.good; has = w.has }
  tag_walked line column (Some tag) facts s r f well deep w =
      let class = class_made tag.class well.class in
      let good_tag : is_bad_tag tag ≡ false = no_fault_if (is_bad_tag tag) (fault line column kinds.BadRange) f in
      let explicit : Bool = is_explicit ground tag w.id w.now in
      let row : TypeRow = tag_row explicit tag w.id class.0 in
      let over : Facts = tagged_facts (Some tag) facts in
      let suits : Suits w.now.rows row over = suited.suits_tagged w.now.rows class.0 tag explicit w.id facts class.1.1 good_tag well.number w.has.nests deep in
      let v = added row over w.now w.good suits (tag_has w.now.rows class.0 tag.number explicit w.id facts over w.good.sound suits w.has (deeper_is facts.nesting deep) refl) in
      record {
        id = v.id;
        now = v.now;
        is =
            ap (λ (p : Option (TypeId × NumberedRows)). after p (tagged ground (Some tag))) w.is
            ∙ ap (λ (c : Option Class). add_if c (tag_row explicit tag w.id) w.now) class.1.0
            ∙ v.is;
        more = all_more s.rows w.now.rows v.now.rows w.more v.more;
        good = v.good;
        has = v.has;
      }

  -- ---- parts

  -- walking ended with parts that are as their texts say, behind those so far
  pub record PartsWalked (facts : TypeTree → Facts) (texts : PartTrees) (before : List Part) (s : NumberedRows) (r : Option (List Part × NumberedRows)) : Type 0 where
    pub own : List Part
    pub now : NumberedRows
    pub is : r ≡ Some (before ++ own, now)
    pub more : Extends s.rows now.rows
    pub good : Good now
    pub made : AreMade facts now.rows texts own

  module _ (inner : TypeTree → Walk TypeId) (facts : TypeTree → Facts) (faults shows : TypeTree → List Found) (deep : ℕ) (few : deep ≤ 32)
      (each : (of : TypeTree) → faults of ≡ [] → shows of ≡ [] → IsWellType of → (facts of).nesting ≤ deep → (s : NumberedRows) → Good s → Walked (facts of) s (inner of s)) where
    parts_walked : (may runs : Bool) (before : _) (n : ℕ) (parts : List Part) (ps : PartTrees) → in_parts faults ps ≡ [] → parts_show facts shows runs before ps ≡ [] → AreWellParts may ps → parts_nesting facts n ps ≤ deep
        → (s : NumberedRows) → Good s → PartsWalked facts ps parts s (parts_of inner parts ps s)
    unfolding parts_of
    parts_walked may runs before n parts no_parts f h well le s good = record { own = []; now = s; is = ap (λ (l : List Part). Some (l, s)) (sym (append-nil parts)); more = λ k row e. e; good = good; made = tt }
    parts_walked may runs before n parts (part name of optional dflt more) f h well le s good =
        let first : List Found = shows of ++ (if_so (clash before (facts of).tags) (at_name name kinds.TagsNotDistinct) ++ default_faults (facts of).base dflt) in
        let rest : PartTrees → List Found = parts_show facts shows runs (tags_behind runs optional dflt (with_tags before (facts of).tags)) in
        let here : first ≡ [] = nothing_first first (rest more) h in
        let clashes : List Found = if_so (clash before (facts of).tags) (at_name name kinds.TagsNotDistinct) in
        let behind : clashes ++ default_faults (facts of).base dflt ≡ [] = nothing_behind (shows of) (clashes ++ default_faults (facts of).base dflt) here in
        let small : (facts of).nesting ≤ parts_nesting facts n (part name of optional dflt more) = nesting_part facts n name of optional dflt more in
        let w = each of (nothing_first (faults of) (in_parts faults more) f) (nothing_first (shows of) (clashes ++ default_faults (facts of).base dflt) here) well.1 (omega arith) s good in
        let p = part_made name optional dflt w.id w.now (facts of) w.has (omega arith) (nothing_behind clashes (default_faults (facts of).base dflt) behind) in
        let v = parts_walked may runs (tags_behind runs optional dflt (with_tags before (facts of).tags)) (max n (facts of).nesting) (parts ++ p.0 ∷ []) more (nothing_behind (faults of) (in_parts faults more) f) (nothing_behind first (rest more) h) well.3 le w.now w.good in
        let one : IsMade w.now.rows name optional dflt (facts of) p.0 = p.1.1 in
        record {
          own = p.0 ∷ v.own;
          now = v.now;
          is =
              ap (λ (q : Option (TypeId × NumberedRows)). after (after q (part_of name optional dflt)) (λ (x : Part). parts_of inner (parts ++ x ∷ []) more)) w.is
              ∙ ap (λ (q : Option (Part × NumberedRows)). after q (λ (x : Part). parts_of inner (parts ++ x ∷ []) more)) p.1.0
              ∙ v.is
              ∙ ap (λ (l : List Part). Some (l, v.now)) (append_assoc parts (p.0 ∷ []) v.own);
          more = all_more s.rows w.now.rows v.now.rows w.more v.more;
          good = v.good;
          made = (
            record { named = one.named; lacking = one.lacking; written = one.written; suits = one.suits; row = has_more w.now.rows v.now.rows p.0.inner.0 (facts of) w.good.sound v.more one.row },
            v.made,
          );
        }

  parts_add : (facts : Facts) (inner : TypeTree → Facts) (texts : PartTrees) (row : List Part → TypeRow) (s : NumberedRows) (r : Option (List Part × NumberedRows)) → ((parts : List Part) → Untagged (row parts)) → 1 ≤ facts.nesting
      → ((parts : List Part) → Fits (row parts) facts.base) → ((all : List TypeRow) (parts : List Part) → AreSoundRows all → AreMade inner all texts parts → Suits all (row parts) facts) → PartsWalked inner texts [] s r
      → Walked facts s (after r (λ parts. add (row parts)))
  parts_add facts inner texts row s r untagged deep fits suits w =
      let v = added_plain (row w.own) facts w.now w.good (suits w.now.rows w.own w.good.sound w.made) (untagged w.own) deep (fits w.own) in
      record {
        id = v.id;
        now = v.now;
        is = ap (λ (p : Option (List Part × NumberedRows)). after p (λ parts. add (row parts))) w.is ∙ v.is;
        more = all_more s.rows w.now.rows v.now.rows w.more v.more;
        good = v.good;
        has = v.has;
      }

  -- ---- names

  set_slot : {X : Type 0} (xs : List X) (i : ℕ) (v : X) (k : ℕ) (x : X) → slice_get (slice_set xs i v) k ≡ Some x → ((k ≡ i) × (v ≡ x)) ⊎ (slice_get xs k ≡ Some x)
  set_slot [] i v k x e = inr e
  set_slot (y ∷ xs) zero v zero x e = inl (refl, cc)
  set_slot (y ∷ xs) zero v (suc k) x e = inr e
  set_slot (y ∷ xs) (suc i) v zero x e = inr e
  set_slot {X = X} (y ∷ xs) (suc i) v (suc k) x e = elim (set_slot xs i v k x e) as (λ (z : ((k ≡ i) × (v ≡ x)) ⊎ (slice_get xs k ≡ Some x)). ((suc k ≡ suc i) × (v ≡ x)) ⊎ (slice_get xs k ≡ Some x)) [ inl p ↦ inl (ap suc p.0, p.1) | inr q ↦ inr q ]

  noted : (place : ℕ) (id : TypeId) (of : TypeTree) (s : NumberedRows) → type_at all place ≡ Some of → HasRow s.rows id.0 (type_facts env 256 of) → Good s → Good (record { rows = s.rows; given = slice_set s.given place (Some id) })
  noted place id of s at has good = record { sound = good.sound; so = λ q one t e here. by_slot q one t here (set_slot s.given place (Some id) q (Some one) e) }
    where
      by_slot : (q : ℕ) (one : TypeId) (t : TypeTree) → type_at all q ≡ Some t → ((q ≡ place) × (Some id ≡ Some one)) ⊎ (slice_get s.given q ≡ Some (Some one)) → HasRow s.rows one.0 (type_facts env 256 t)
      by_slot q one t here (inl p) =
          let same : id ≡ one = let e = p.1 in cc in
          let there : Some of ≡ Some t = sym at ∙ ap (type_at all) (sym p.0) ∙ here in
          let types : of ≡ t = cc in
          subst (λ (x : TypeId). HasRow s.rows x.0 (type_facts env 256 t)) same (subst (λ (x : TypeTree). HasRow s.rows id.0 (type_facts env 256 x)) types has)
      by_slot q one t here (inr e) = good.so q one t e here

  module _ (turns : ℕ) (ih : (levels : ℕ) (of : TypeTree) → IsFine all env levels of → 2 * (type_facts env levels of).nesting + alias_slack of ≤ turns → (s : NumberedRows) → Good s → Walked (type_facts env levels of) s (walk ground turns of s)) where
    -- the type at a place that is no alias
    place_walked : (place : ℕ) (of : TypeTree) → type_at all place ≡ Some of → 2 * (type_facts env 256 of).nesting + alias_slack of ≤ turns → (s : NumberedRows) → Good s → Walked (type_facts env 256 of) s (row_of ground (walk ground turns) place s)
    unfolding row_of
    place_walked place of at room s good =
        as_result (type_facts env 256 of) s (walk_if_new (walk ground turns) place (Some of) (known (slice_get s.given place)) s) (row_of ground (walk ground turns) place s)
        (ap (λ (o : Option TypeTree). walk_if_new (walk ground turns) place o (known (slice_get s.given place)) s) at)
        (by_given (slice_get s.given place) refl)
      where
        new : Walked (type_facts env 256 of) s (walk_if_new (walk ground turns) place (Some of) None s)
        new =
            let w = ih 256 of (fine.fine place of at) room s good in
            record {
              id = w.id;
              now = record { rows = w.now.rows; given = slice_set w.now.given place (Some w.id) };
              is = ap (λ (p : Option (TypeId × NumberedRows)). after p (note place)) w.is;
              more = w.more;
              good = noted place w.id of w.now at w.has w.good;
              has = w.has;
            }

        by_given : (o : Option (Option TypeId)) → slice_get s.given place ≡ o → Walked (type_facts env 256 of) s (walk_if_new (walk ground turns) place (Some of) (known o) s)
        by_given None e = new
        by_given (Some None) e = new
        by_given (Some (Some id)) e = record { id = id; now = s; is = refl; more = λ n row h. h; good = good; has = good.so place id of e at }

    -- what stands behind a place
    pub behind_walked : (p : ℕ) (facts : Facts) → StandsBehind all env (length all) p facts → 2 * facts.nesting ≤ turns → (s : NumberedRows) → Good s → Walked facts s (row_behind ground (walk ground turns) (behind all p) s)
    behind_walked p facts b room s good =
        let none : alias_slack b.of ≡ 0 = no_slack b.of b.plain in
        let same : (type_facts env 256 b.of).nesting ≡ facts.nesting = ap (λ (f : Facts). f.nesting) b.same in
        as_facts (type_facts env 256 b.of) facts s (row_behind ground (walk ground turns) (behind all p) s) b.same
        (as_result (type_facts env 256 b.of) s (row_of ground (walk ground turns) b.place s) (row_behind ground (walk ground turns) (behind all p) s)
        (ap (λ (o : Option ℕ). row_behind ground (walk ground turns) o s) (behind_is all recursive fine p facts b))
        (place_walked b.place b.of b.at (omega arith) s good))

    name_walked : (name : Located) (q : ℕ) → find all name.text ≡ Some q → StandsBehind all env (length all) q (env name.text) → 2 * (env name.text).nesting ≤ turns → (s : NumberedRows) → Good s
        → Walked (env name.text) s (named_row ground (walk ground turns) name.text s)
    unfolding named_row
    name_walked name q found b room s good =
        as_result (env name.text) s (row_behind ground (walk ground turns) (behind all q) s) (named_row ground (walk ground turns) name.text s)
        (ap (λ (o : Option ℕ). row_behind ground (walk ground turns) (or_none o (behind all)) s) found)
        (behind_walked q (env name.text) b room s good)

    -- types in a type
    module _ (levels : ℕ) where
      abbrev facts : TypeTree → Facts
      facts = type_facts env levels

      abbrev faults : TypeTree → List Found
      faults = type_faults all levels

      abbrev shows : TypeTree → List Found
      shows = type_shows env levels

      inner_walked : (deep : ℕ) → 2 * deep + 1 ≤ turns → deep ≤ 32 → (of : TypeTree) → faults of ≡ [] → shows of ≡ [] → IsWellType of → (facts of).nesting ≤ deep → (s : NumberedRows) → Good s → Walked (facts of) s (walk ground turns of s)
      inner_walked deep room few of f h well le s good =
          let slack : alias_slack of ≤ 1 = alias_slack_small of in
          ih levels of (record { faults = f; shows = h; well = well; nests = omega arith }) (omega arith) s good

      item_walked : (item : TypeTree) (over : Facts) (row : TypeId → TypeRow) → over.nesting ≡ deeper (facts item).nesting → over.base ≡ other → ((id : TypeId) → Untagged (row id)) → ((all : List TypeRow) (id : TypeId) → Nests all id.0 (facts item) → Suits all (row id) over) → faults item ≡ [] → shows item ≡ []
          → IsWellType item → over.nesting ≤ 32 → 2 * over.nesting ≤ suc turns → (s : NumberedRows) → Good s → Walked over s (after (walk ground turns item s) (λ of. add (row of)))
      item_walked item over row nests is untagged suits f h well few room s good =
          let pos : 1 ≤ deeper (facts item).nesting = deeper_pos (facts item).nesting in
          let small : deeper (facts item).nesting ≤ 32 = omega arith in
          let over_is : suc (facts item).nesting ≤ deeper (facts item).nesting = deeper_is (facts item).nesting small in
          then_add (facts item) over row s (walk ground turns item s) untagged (omega arith) (λ id. subst (Fits (row id)) (sym is) tt) suits
          (inner_walked (facts item).nesting (omega arith) (omega arith) item f h well (omega arith) s good)

      row_walked : (may runs : Bool) (ps : PartTrees) (over : Facts) (row : List Part → TypeRow) → over.nesting ≡ deeper (parts_nesting facts 0 ps) → over.base ≡ other → ((parts : List Part) → Untagged (row parts))
          → ((all : List TypeRow) (parts : List Part) → AreSoundRows all → AreMade facts all ps parts → Suits all (row parts) over) → in_parts faults ps ≡ [] → parts_show facts shows runs [] ps ≡ [] → AreWellParts may ps → over.nesting ≤ 32 → 2 * over.nesting ≤ suc turns → (s : NumberedRows) → Good s
          → Walked over s (after (parts_of (walk ground turns) [] ps s) (λ parts. add (row parts)))
      row_walked may runs ps over row nests is untagged suits f h well few room s good =
          let deep : ℕ = parts_nesting facts 0 ps in
          let pos : 1 ≤ deeper deep = deeper_pos deep in
          let small : deeper deep ≤ 32 = omega arith in
          let over_is : suc deep ≤ deeper deep = deeper_is deep small in
          parts_add over facts ps row s (parts_of (walk ground turns) [] ps s) untagged (omega arith) (λ parts. subst (Fits (row parts)) (sym is) tt) suits
          (parts_walked (walk ground turns) facts faults shows deep (omega arith) (inner_walked deep (omega arith) (omega arith)) may runs [] 0 [] ps f h well (omega arith) s good)

      plain_walked : (plain : PlainTree) → plain_faults all faults plain ≡ [] → plain_shows facts shows plain ≡ [] → IsWellPlain plain → (plain_facts env facts plain).nesting ≤ 32 → 2 * (plain_facts env facts plain).nesting + slack plain ≤ suc turns
          → (s : NumberedRows) → Good s → Walked (plain_facts env facts plain) s (plain_row ground (walk ground turns) plain s)
      unfolding plain_row
      plain_walked boolean f h well few room s good = added_plain rows.Boolean (plain_facts env facts boolean) s good (suited.suits_boolean s.rows truth) (λ g. refl) (omega arith) refl
      plain_walked null f h well few room s good = added_plain rows.Null (plain_facts env facts null) s good (suited.suits_null s.rows other) (λ g. refl) (omega arith) tt
      plain_walked (integer None) f h well few room s good =
          added_plain (range_row None) (plain_facts env facts (integer None)) s good (suited.suits_integer s.rows None (range_base None) f) (λ g. refl) (omega arith) refl
      plain_walked (integer (Some r)) f h well few room s good =
          added_plain (range_row (Some r)) (plain_facts env facts (integer (Some r))) s good (suited.suits_integer s.rows (Some r) (range_base (Some r)) f) (λ g. refl) (omega arith) refl
      plain_walked (enumerated all_items) f h well few room s good =
          added_plain (rows.Enumerated (map item_of all_items)) (plain_facts env facts (enumerated all_items)) s good (suited.suits_enumerated s.rows all_items (items all_items) f well.0) (λ g. refl) (omega arith) refl
      plain_walked (octets size) f h well few room s good =
          let n = size_made size f in
          as_result (plain_facts env facts (octets size)) s (add (rows.OctetString n.0) s) (add_if (size_of size) rows.OctetString s) (ap (λ (o : Option ℕ). add_if o rows.OctetString s) n.1)
          (added_plain (rows.OctetString n.0) (plain_facts env facts (octets size)) s good (suited.suits_octets s.rows n.0 other) (λ g. refl) (omega arith) tt)
      plain_walked bits f h well few room s good = added_plain rows.BitString (plain_facts env facts bits) s good (suited.suits_bits s.rows other) (λ g. refl) (omega arith) tt
      plain_walked object_id f h well few room s good = added_plain rows.ObjectId (plain_facts env facts object_id) s good (suited.suits_object_id s.rows other) (λ g. refl) (omega arith) tt
      plain_walked (text kind) f h well few room s good =
          let k = kind_made kind well in
          let suits : Suits s.rows (rows.Text k.0) (plain_facts env facts (text kind)) = subst (λ (n : ℕ). Suits s.rows (rows.Text k.0) (simple n 1 other)) k.1.1 (suited.suits_text s.rows k.0 other) in
          as_result (plain_facts env facts (text kind)) s (add (rows.Text k.0) s) (add_if (kind_numbered (pos kind)) rows.Text s) (ap (λ o. add_if o rows.Text s) k.1.0)
          (added_plain (rows.Text k.0) (plain_facts env facts (text kind)) s good suits (λ g. refl) (omega arith) tt)
      plain_walked (sequence_of item) f h well few room s good =
          item_walked item (plain_facts env facts (sequence_of item)) rows.SequenceOf refl refl (λ id g. refl) (λ rs id nests. suited.suits_sequence_of rs id (facts item) other nests few) f h well few (omega arith) s good
      plain_walked (set_of item) f h well few room s good =
          item_walked item (plain_facts env facts (set_of item)) rows.SetOf refl refl (λ id g. refl) (λ rs id nests. suited.suits_set_of rs id (facts item) other nests few) f h well few (omega arith) s good
      plain_walked (sequence ps) f h well few room s good =
          row_walked true true ps (plain_facts env facts (sequence ps)) rows.Sequence refl refl (λ parts g. refl)
          (λ rs parts sound made. suited.suits_sequence rs facts shows ps parts made few other sound (nothing_first (part_faults [] ps) (in_parts faults ps) f) h well)
          (nothing_behind (part_faults [] ps) (in_parts faults ps) f) h well few (omega arith) s good
      plain_walked (set ps) f h well few room s good =
          row_walked true false ps (plain_facts env facts (set ps)) rows.Set refl refl (λ parts g. refl)
          (λ rs parts sound made. suited.suits_set rs facts shows ps parts made few other sound (nothing_first (part_faults [] ps) (in_parts faults ps) f) h well)
          (nothing_behind (part_faults [] ps) (in_parts faults ps) f) h well few (omega arith) s good
      plain_walked (choice ps) f h well few room s good =
          let end : end_faults 256 ps ≡ [] = nothing_first (end_faults 256 ps) (part_faults [] ps ++ in_parts faults ps) f in
          let both : part_faults [] ps ++ in_parts faults ps ≡ [] = nothing_behind (end_faults 256 ps) (part_faults [] ps ++ in_parts faults ps) f in
          row_walked false false ps (plain_facts env facts (choice ps)) rows.Choice refl refl (λ parts g. refl)
          (λ rs parts sound made. suited.suits_choice rs facts shows ps parts made few other end (nothing_first (part_faults [] ps) (in_parts faults ps) both) h well.0 well.1)
          (nothing_behind (part_faults [] ps) (in_parts faults ps) both) h well.1 few (omega arith) s good
      plain_walked (named name) f h well few room s good =
          let k = name_known all name f in
          let n = place_typed all name.text k.0 k.1 in
          name_walked name k.0 n.found (name_stands all recursive fine name k.0 n k.1) (omega arith) s good

  -- what is fine of a type is so of what it is without its tag
  record IsOpen (levels line column : ℕ) (tag : Option TagText) (plain : PlainTree) : Type 0 where
    tagging : tag_faults line column tag ≡ []
    faults : plain_faults all (type_faults all levels) plain ≡ []
    shows : plain_shows (type_facts env levels) (type_shows env levels) plain ≡ []
    tag_well : IfSome tag IsTag
    well : IsWellPlain plain
    nests : (tagged_facts tag (plain_facts env (type_facts env levels) plain)).nesting ≤ 32

  opened : (levels line column : ℕ) (tag : Option TagText) (plain : PlainTree) → IsFine all env (suc levels) (type_tree line column tag plain) → IsOpen levels line column tag plain
  unfolding type_faults type_shows type_facts
  opened levels line column tag plain h = record {
    tagging = nothing_first (tag_faults line column tag) (plain_faults all (type_faults all levels) plain) h.faults;
    faults = nothing_behind (tag_faults line column tag) (plain_faults all (type_faults all levels) plain) h.faults;
    shows = h.shows;
    tag_well = h.well.0;
    well = h.well.1;
    nests = h.nests;
  }

  -- under a tag there is one level less
  without_tag : (tag : Option TagText) (plain : PlainTree) (f : Facts) (line column turns : ℕ) → (tagged_facts tag f).nesting ≤ 32 → 2 * (tagged_facts tag f).nesting + alias_slack (type_tree line column tag plain) ≤ suc turns
      → (f.nesting ≤ 32) × (2 * f.nesting + slack plain ≤ suc turns)
  without_tag None plain f line column turns few room = (few, room)
  without_tag (Some tag) plain f line column turns few room =
      let d : suc f.nesting ≤ deeper f.nesting = deeper_is f.nesting few in
      let small : slack plain ≤ 1 = slack_small plain in
      (omega arith, omega arith)

  no_levels : (of : TypeTree) → (type_facts env zero of).nesting ≤ 32 → ⊥
  unfolding type_facts
  no_levels of h = omega arith

  step_facts : (levels line column : ℕ) (tag : Option TagText) (plain : PlainTree) → type_facts env (suc levels) (type_tree line column tag plain) ≡ tagged_facts tag (plain_facts env (type_facts env levels) plain)
  unfolding type_facts
  step_facts levels line column tag plain = refl

  step_walk : (turns line column : ℕ) (tag : Option TagText) (plain : PlainTree) (s : NumberedRows) → walk ground (suc turns) (type_tree line column tag plain) s ≡ after (plain_row ground (walk ground turns) plain s) (tagged ground tag)
  unfolding walk
  step_walk turns line column tag plain s = refl

  pub type_walked : (turns levels : ℕ) (of : TypeTree) → IsFine all env levels of → 2 * (type_facts env levels of).nesting + alias_slack of ≤ turns → (s : NumberedRows) → Good s → Walked (type_facts env levels of) s (walk ground turns of s)
  type_walked zero levels of h room s good = let p = measure_pos env levels of in absurd (omega arith)
  type_walked (suc turns) zero of h room s good = absurd (no_levels of h.nests)
  type_walked (suc turns) (suc levels) (type_tree line column tag plain) h room s good =
      let o = opened levels line column tag plain h in
      let inner : Facts = plain_facts env (type_facts env levels) plain in
      let e = step_facts levels line column tag plain in
      let nests : (type_facts env (suc levels) (type_tree line column tag plain)).nesting ≡ (tagged_facts tag inner).nesting = ap (λ (f : Facts). f.nesting) e in
      let n = without_tag tag plain inner line column turns o.nests (omega arith) in
      as_facts (tagged_facts tag inner) (type_facts env (suc levels) (type_tree line column tag plain)) s (walk ground (suc turns) (type_tree line column tag plain) s) (sym e)
      (as_result (tagged_facts tag inner) s (after (plain_row ground (walk ground turns) plain s) (tagged ground tag)) (walk ground (suc turns) (type_tree line column tag plain) s) (step_walk turns line column tag plain s)
      (tag_walked line column tag inner s (plain_row ground (walk ground turns) plain s) o.tagging o.tag_well o.nests (plain_walked turns (type_walked turns) levels plain o.faults o.shows o.well n.0 n.1 s good)))

  -- 65 are enough
  pub fine_walked : (of : TypeTree) → IsFine all env 256 of → (s : NumberedRows) → Good s → Walked (type_facts env 256 of) s (walk ground 65 of s)
  fine_walked of h s good = let nests : (type_facts env 256 of).nesting ≤ 32 = h.nests in let small : alias_slack of ≤ 1 = alias_slack_small of in type_walked 65 256 of h (omega arith) s good

  pub behind_fine : (p : ℕ) (of : TypeTree) → type_at all p ≡ Some of → (s : NumberedRows) → Good s → Walked (type_facts env 256 of) s (row_behind ground (walk ground 65) (behind all p) s)
  behind_fine p of at s good =
      let nests : (type_facts env 256 of).nesting ≤ 32 = (fine.fine p of at).nests in
      behind_walked 65 (type_walked 65) p (type_facts env 256 of) (stands all recursive fine p of at) (omega arith) s good
