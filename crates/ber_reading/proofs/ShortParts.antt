-- Fields that are read at once are read so by the rules.
use Rattle.std.proofs.Common.{◌≡◌, ℕ, suc, ◌+◌, ◌≤◌, ◌<◌, ◌%◌, ℤ, Bool, true, false, not, cond, ◌||◌, ◌&&◌, List, [], ◌∷◌, length, take, drop, Option, Some, None, Ok, refl, sym, ap, ◌∙◌, subst, get_or, arith}
use Rattle.std.specs.Prelude.{slice_get, slice_index_or, nat_eq, IfSome}
use Rattle.std.specs.List.{AllByRecursion, list_any, flat_map}
use Rattle.std.proofs.lemmas.List.Folds.{list_any-append}
use Rattle.std.proofs.lemmas.Bool.{ltb-false, le-ltb, lt-ltb, lt-leb, ne_eqb, and_parts}
use Rattle.asn1_types.specs.declared.row.Class.{Class}
use Rattle.asn1_types.specs.declared.row.Class.TheVariants.{Universal}
use Rattle.asn1_types.specs.declared.row.Part.{Part}
use Rattle.asn1_types.specs.declared.row.TypeRow.{TypeRow}
use Rattle.asn1_types.specs.declared.row.TypeRow.TheVariants.{Integer, Choice}
use Rattle.asn1_types.specs.Rows.{rows_of_parts, begins, Opening, openings, openings_by, allows, tag, is_no_tag}
use Rattle.asn1_types.specs.Table.{AreSoundRows}
use Rattle.asn1_types.specs.Value.{Value, integer, chosen}
use Rattle.asn1_types.proofs.Sound.{openings_at}
use Rattle.asn1_types.specs.Defaults.{may_be_absent, is_default, kept}
use Rattle.asn1_types.specs.declared.row.Tag as tags
use Rattle.ber_spelling.proofs.Identifiers.{bind_ok, ok_is}
use Rattle.ber_spelling.proofs.Steady.{judge_is, form_passes}
use Rattle.ber_spelling.specs.declared.spot.Scope.{Scope}
use Rattle.ber_spelling.specs.declared.spot.Spot as codes
use Rattle.ber_spelling.specs.Reading.{spot_of, Spot, Opened, begun, ◌>>=◌, is_past, within, Reading}
use Rattle.ber_spelling.specs.Fields.{is_end, opened_at, identifier_at, announced_at, definite_at, contents_at, look_at}
use Rattle.ber_spelling.specs.Rules.{Reader, always, integer_rule, primitive_at, choice_at, reads, bare, plain, is_other, expect_at, some_or_refuse, form_at}
use Rattle.ber_spelling.proofs.Growing.{within_is}
use Rattle.ber_reading.specs.ShortParts.{IsReach, integer_tag, integer_opened, behind}
use Rattle.ber_reading.specs.Parts.{part_from}
use Rattle.ber_reading.proofs.Rows.{reads_at}

-- what values of a row begin with, by its rule
pub begins_by : (rows : List TypeRow) → AreSoundRows rows → (n : ℕ) (row : TypeRow) → slice_get rows n ≡ Some row → (class : Class) (number : ℕ)
    → begins rows n class number ≡ (not (is_no_tag class number) && list_any (allows class number) (openings_by (openings rows) row))
begins_by rows sound n row at class number = ap (λ os. not (is_no_tag class number) && list_any (allows class number) os) (openings_at rows sound n row at)

past_less : (end : Option ℕ) (a b : ℕ) → a ≤ b → is_past end b ≡ false → is_past end a ≡ false
past_less None a b le e = refl
past_less (Some end) a b le e = let ge : b ≤ end = ltb-false end b e in le-ltb end a (omega arith)

before_end : (end : Option ℕ) (place r : ℕ) → place < r → is_past end r ≡ false → is_end end place ≡ false
before_end None place r lt e = refl
before_end (Some end) place r lt e = let ge : r ≤ end = ltb-false end r e in lt-leb end place (omega arith)

never : (b : Bool) → (b && false) ≡ false
never true = refl
never false = refl

module _ (scope : Scope) (u r : ℕ) (h : IsReach scope u r) where
  pub reached : (place until : ℕ) → until ≤ r → within scope place until ≡ Ok tt
  reached place until le = within_is scope place until (omega (arith, h.limit)) (past_less scope.end until r le h.contents)

  has_levels : 0 < r → nat_eq scope.levels 0 ≡ false
  has_levels lt = ne_eqb scope.levels 0 (λ e. let some : 0 < scope.levels = h.levels lt in omega arith)

  looks_over : (place first : ℕ) (rest : List ℕ) → place < r → nat_eq (first % 32) 31 ≡ false
      → look_at scope place (first ∷ rest) ≡ Ok (begun (opened_at place (first ∷ rest) first (first % 32)) (record { place = place + 1; rest = rest }))
  unfolding look_at identifier_at within
  looks_over place first rest lt low = rw (h.plain (omega arith), before_end scope.end place r lt h.contents, has_levels (omega arith), reached place (place + 1) (omega arith), low) refl

  -- a field with an identifier of one octet begins
  pub looks : (place : ℕ) (rest : List ℕ) → place < r → 1 ≤ length rest → nat_eq (slice_index_or rest 0 0 % 32) 31 ≡ false
      → look_at scope place rest ≡ Ok (begun (opened_at place rest (slice_index_or rest 0 0) (slice_index_or rest 0 0 % 32)) (record { place = place + 1; rest = drop 1 rest }))
  looks place [] lt some low = absurd (omega arith)
  looks place (first ∷ rest) lt some low = looks_over place first rest lt low

  -- the identifier of an INTEGER
  pub integer_looks : (place : ℕ) (rest : List ℕ) → place < r → 1 ≤ length rest → slice_index_or rest 0 0 ≡ 2
      → look_at scope place rest ≡ Ok (begun (integer_opened (record { place = place; rest = rest })) (behind (record { place = place; rest = rest })))
  integer_looks place [] lt some two = absurd (omega arith)
  integer_looks place (first ∷ rest) lt some two =
      subst (λ (f : ℕ). look_at scope place (f ∷ rest) ≡ Ok (begun (integer_opened (record { place = place; rest = f ∷ rest })) (behind (record { place = place; rest = f ∷ rest })))) (sym two) (looks_over place 2 rest lt refl)

  has_contents : (place count : ℕ) (more : List ℕ) → place + 1 + count ≤ r → count < 128 → count ≤ length more
      → contents_at scope place (count ∷ more) ≡ Ok (place + 1, take count more, record { place = place + 1 + count; rest = drop count more })
  unfolding contents_at definite_at announced_at
  has_contents place count more le few there = rw (reached place (place + 1) (omega arith), lt-ltb count 128 few, reached place (place + 1 + count) le, never scope.strict, le-ltb (length more) count there) refl

  integer_over : (low high z : ℤ) (place count : ℕ) (more : List ℕ) → place + 2 + count ≤ r → count < 128 → count ≤ length more → integer_rule low high (take count more) ≡ Some (integer z)
      → primitive_at (integer_rule low high) always integer_tag scope (integer_opened (record { place = place; rest = 2 ∷ count ∷ more })) (record { place = place + 1; rest = count ∷ more }) ≡ Ok (integer z, record { place = place + 2 + count; rest = drop count more })
  unfolding primitive_at
  integer_over low high z place count more le few there is =
      let same : place + 1 + 1 + count ≡ place + 2 + count = omega arith in
      rw (has_contents (place + 1) count more (omega arith) few there, is, never scope.strict, same) refl

  -- the INTEGER of a field with an identifier and a length of one octet each
  pub integer_is : (low high z : ℤ) (place : ℕ) (rest : List ℕ) → 2 ≤ length rest → slice_index_or rest 0 0 ≡ 2 → place + 2 + slice_index_or rest 1 0 ≤ r → slice_index_or rest 1 0 < 128 → 2 + slice_index_or rest 1 0 ≤ length rest
      → integer_rule low high (take (slice_index_or rest 1 0) (drop 2 rest)) ≡ Some (integer z)
      → primitive_at (integer_rule low high) always integer_tag scope (integer_opened (record { place = place; rest = rest })) (behind (record { place = place; rest = rest })) ≡ Ok (integer z, record { place = place + 2 + slice_index_or rest 1 0; rest = drop (slice_index_or rest 1 0) (drop 2 rest) })
  integer_is low high z place [] len two le few there is = absurd (omega arith)
  integer_is low high z place (first ∷ []) len two le few there is = absurd (omega arith)
  integer_is low high z place (first ∷ count ∷ more) len two le few there is =
      subst (λ (f : ℕ). primitive_at (integer_rule low high) always integer_tag scope (integer_opened (record { place = place; rest = f ∷ count ∷ more })) (record { place = place + 1; rest = count ∷ more }) ≡ Ok (integer z, record { place = place + 2 + count; rest = drop count more })) (sym two) (integer_over low high z place count more le few (omega arith) is)

-- contents that no default names are read as those of no part with a default
prim_other : (rule : List ℕ → Option Value) (other : Option Value → Bool) (t : tags.Tag) (scope : Scope) (o : Opened) (s : Spot) (v : Value) (to : Spot)
    → primitive_at rule always t scope o s ≡ Ok (v, to) → other (Some v) ≡ true → primitive_at rule (λ c. other (rule c)) t scope o s ≡ Ok (v, to)
unfolding primitive_at
prim_other rule other t scope o s v to e named =
    let b1 = bind_ok (expect_at t false o) _ (v, to) e in
    let b2 = bind_ok (contents_at scope s.place s.rest) _ (v, to) b1.2 in
    let b3 = bind_ok (some_or_refuse b2.0.0 (λ (x : Value). x) (rule b2.0.1)) _ (v, to) b2.2 in
    let b4 = bind_ok (form_at scope b2.0.0 (always b2.0.1)) _ (v, to) b3.2 in
    let same = ok_is {A = Value × Spot} (b3.0, b2.0.2) (v, to) b4.2 in
    let ruled : rule b2.0.1 ≡ Some v = judge_is b2.0.0 (rule b2.0.1) b3.0 b3.1 ∙ ap (λ (x : Value × Spot). Some x.0) same in
    let passed : form_at scope b2.0.0 (other (rule b2.0.1)) ≡ Ok tt = form_passes scope b2.0.0 (other (rule b2.0.1)) (λ k. ap other ruled ∙ named) in
    rw (b1.1, b2.1, b3.1, passed) (ap (λ (x : Value × Spot). Ok x) same)

other_is : (b : Bool) → not b ≡ true → b ≡ false
other_is true e = absurd cc
other_is false e = refl

kept_other : (p : Part) (v : Value) (next : Spot) → is_other p.default (Some v) ≡ true → ◌≡◌ {A = Reading (Option Value × Spot)} (Ok (kept p v, next)) (Ok (Some v, next))
kept_other p v next e = rw (other_is (is_default p.default v) e) refl

-- the value of a CHOICE is no default
pub no_choice : (default : Option ℤ) (which : ℕ) (v : Value) → is_default default (chosen which v) ≡ false
no_choice None which v = refl
no_choice (Some d) which v = refl

module _ (rows : List TypeRow) (sound : AreSoundRows rows) (n : ℕ) (low high z : ℤ) (at : slice_get rows n ≡ Some (Integer low high)) (scope : Scope) (s next : Spot)
    (looked : look_at scope s.place s.rest ≡ Ok (begun (integer_opened s) (behind s))) (gives : primitive_at (integer_rule low high) always integer_tag scope (integer_opened s) (behind s) ≡ Ok (integer z, next)) where
  opens : openings rows n ≡ tag Universal 2 ∷ []
  opens = openings_at rows sound n (Integer low high) at

  begins_it : begins rows n Universal 2 ≡ true
  begins_it = ap (list_any (allows Universal 2)) opens

  -- an INTEGER is read by its rule
  pub reads_other : (default : Option ℤ) → is_other default (Some (integer z)) ≡ true → reads rows n (bare default) scope (integer_opened s) (behind s) ≡ Ok (integer z, next)
  reads_other default other = ap (λ (r : Reader). r (bare default) scope (integer_opened s) (behind s)) (reads_at rows sound n (Integer low high) at)
      ∙ prim_other (integer_rule low high) (is_other default) integer_tag scope (integer_opened s) (behind s) (integer z) next gives other

  pub reads_it : reads rows n plain scope (integer_opened s) (behind s) ≡ Ok (integer z, next)
  reads_it = reads_other None refl

  pub part_is : (p : Part) → p.inner.0 ≡ n → is_other p.default (Some (integer z)) ≡ true → part_from (begins rows) (reads rows n) p scope s ≡ Ok (Some (integer z), next)
  unfolding part_from
  part_is p e other = rw (looked, e, begins_it, reads_other p.default other) (kept_other p (integer z) next other)

  pub choice_is : (p : Part) (ps : List Part) → p.inner.0 ≡ n → choice_at (begins rows) (reads rows) 0 (p ∷ ps) scope (integer_opened s) (behind s) ≡ Ok (chosen 0 (integer z), next)
  unfolding choice_at
  choice_is p ps e = rw (e, begins_it, reads_it) refl

-- a part that may be absent, where another field begins
pub absent_is : (rows : List TypeRow) (p : Part) (scope : Scope) (s : Spot) (o : Opened) (after : Spot) → look_at scope s.place s.rest ≡ Ok (begun o after) → may_be_absent p ≡ true → begins rows p.inner.0 o.class o.number ≡ false
    → part_from (begins rows) (reads rows p.inner.0) p scope s ≡ Ok (None, s)
unfolding part_from
absent_is rows p scope s o after looked may other = rw (looked, other, may) refl

pub lower : (ps : List Part) (n k : ℕ) → n ≤ k → AllByRecursion (λ m. m < n) (rows_of_parts ps) → AllByRecursion (λ m. m < k) (rows_of_parts ps)
lower [] n k le h = tt
lower (p ∷ ps) n k le h = let lt : p.inner.0 < n = h.0 in (omega arith, lower ps n k le h.1)

module _ (rows : List TypeRow) (sound : AreSoundRows rows) (low high : ℤ) (alternatives : List Part) (first : Part) (some : 1 ≤ length alternatives) (is_first : first ≡ get_or alternatives 0 first)
    (at : slice_get rows first.inner.0 ≡ Some (Integer low high)) (scope : Scope) (s : Spot) where
  chosen_by : (ps : List Part) → 1 ≤ length ps → first ≡ get_or ps 0 first → (z : ℤ) (next : Spot) → look_at scope s.place s.rest ≡ Ok (begun (integer_opened s) (behind s))
      → primitive_at (integer_rule low high) always integer_tag scope (integer_opened s) (behind s) ≡ Ok (integer z, next)
      → choice_at (begins rows) (reads rows) 0 ps scope (integer_opened s) (behind s) ≡ Ok (chosen 0 (integer z), next)
  chosen_by [] some is z next looked gives = absurd (omega arith)
  chosen_by (p ∷ ps) some is z next looked gives = choice_is rows sound first.inner.0 low high z at scope s next looked gives p ps (ap (λ (q : Part). q.inner.0) (sym is))

  -- a CHOICE whose first alternative is an INTEGER that stands here
  pub choice_ahead : (result : Option (ℤ × codes.Spot)) → IfSome result (λ x. look_at scope s.place s.rest ≡ Ok (begun (integer_opened s) (behind s)))
      → IfSome result (λ x. primitive_at (integer_rule low high) always integer_tag scope (integer_opened s) (behind s) ≡ Ok (integer x.0, spot_of x.1))
      → IfSome result (λ x. choice_at (begins rows) (reads rows) 0 alternatives scope (integer_opened s) (behind s) ≡ Ok (chosen 0 (integer x.0), spot_of x.1))
  choice_ahead (Some x) looked gives = chosen_by alternatives some is_first x.0 (spot_of x.1) looked gives
  choice_ahead None looked gives = tt

or_always : (b : Bool) → (b || true) ≡ true
or_always true = refl
or_always false = refl

first_allows : (rows : List TypeRow) (ps : List Part) (scope : Scope) (o : Opened) (s : Spot) (v : Value) (next : Spot) (which : ℕ) → choice_at (begins rows) (reads rows) which ps scope o s ≡ Ok (v, next)
    → list_any (allows o.class o.number) (flat_map (λ (p : Part). openings rows p.inner.0) ps) ≡ true
unfolding choice_at
first_allows rows [] scope o s v next which e = absurd cc
first_allows rows (p ∷ ps) scope o s v next which e = by_test (begins rows p.inner.0 o.class o.number) refl (λ later. first_allows rows ps scope o s v next (suc which) later) e where
  allowed : Opening → Bool
  allowed = allows o.class o.number

  by_test : (b : Bool) → begins rows p.inner.0 o.class o.number ≡ b → (choice_at (begins rows) (reads rows) (suc which) ps scope o s ≡ Ok (v, next) → list_any allowed (flat_map (λ (p : Part). openings rows p.inner.0) ps) ≡ true)
      → cond b (reads rows p.inner.0 plain scope o s >>= λ v. Ok (chosen which v.0, v.1)) (choice_at (begins rows) (reads rows) (suc which) ps scope o s) ≡ Ok (v, next)
      → list_any allowed (flat_map (λ (p : Part). openings rows p.inner.0) (p ∷ ps)) ≡ true
  by_test true is more e = list_any-append allowed (openings rows p.inner.0) (flat_map (λ (p : Part). openings rows p.inner.0) ps) ∙ rw (and_parts (not (is_no_tag o.class o.number)) (list_any allowed (openings rows p.inner.0)) is).1 refl
  by_test false is more e = list_any-append allowed (openings rows p.inner.0) (flat_map (λ (p : Part). openings rows p.inner.0) ps) ∙ rw (more e) (or_always (list_any allowed (openings rows p.inner.0)))

-- a part that is a CHOICE
pub choice_part : (rows : List TypeRow) → AreSoundRows rows → (p : Part) (ps : List Part) → slice_get rows p.inner.0 ≡ Some (Choice ps) → (scope : Scope) (s : Spot) (v : Value) (next : Spot)
    → look_at scope s.place s.rest ≡ Ok (begun (integer_opened s) (behind s)) → choice_at (begins rows) (reads rows) 0 ps scope (integer_opened s) (behind s) ≡ Ok (v, next)
    → is_default p.default v ≡ false → part_from (begins rows) (reads rows p.inner.0) p scope s ≡ Ok (Some v, next)
unfolding part_from
choice_part rows sound p ps at scope s v next looked read_so other =
    let it : begins rows p.inner.0 Universal 2 ≡ true = ap (list_any (allows Universal 2)) (openings_at rows sound p.inner.0 (Choice ps) at) ∙ first_allows rows ps scope (integer_opened s) (behind s) v next 0 read_so in
    let read : reads rows p.inner.0 (bare p.default) scope (integer_opened s) (behind s) ≡ Ok (v, next) = ap (λ (r : Reader). r (bare p.default) scope (integer_opened s) (behind s)) (reads_at rows sound p.inner.0 (Choice ps) at) ∙ read_so in
    rw (looked, it, read, other) refl
