-- Parts of a SEQUENCE or SET that are read back.
use Rattle.std.proofs.Common.{◌≡◌, ℕ, zero, suc, ◌+◌, ◌^◌, ◌<◌, ◌≤◌, Bool, true, false, not, List, [], ◌∷◌, ◌++◌, length, Option, None, Some, refl, ap, sym, ◌∙◌, subst, arith, if◌then◌else◌, append_assoc, codes, nat_lt, slice_get, slice_set}
use Rattle.std.specs.Prelude.{option_and_then}
use Rattle.std.specs.List.{list_all, AllByRecursion}
use Rattle.std.proofs.lemmas.Bool.Decides.{nat_tests}
use Rattle.asn1_types.specs.declared.row.Part.{Part}
use Rattle.asn1_types.specs.Defaults.{is_default, kept}
use Rattle.asn1_types.specs.Fits.{part_fits, parts_fit}
use Rattle.asn1_types.specs.Rows.{rows_of_parts}
use Rattle.asn1_types.specs.Table.{parts_agree, agrees_later}
use Rattle.asn1_types.specs.Value.{Value, parts, MaybeValues, no_parts, absent, present}
use Rattle.asn1_types.specs.ValueView.{parts_of, empty_slots}
use Rattle.value_text.specs.Numbers.{kept_below}
use Rattle.value_text.specs.Printed.{parts_text, sequence_text}
use Rattle.value_reading.specs.Found.{Reader}
use Rattle.value_reading.specs.Words.{word, behind_word, after_spaces, after_comma, closed_by, after_brace}
use Rattle.value_reading.specs.Typed.{Slots, place_of, is_free, may_stand, part_at, kept_slots, closed_parts, behind_part, with_part, named_part, parts_at, first_part, sequence_at}
use Rattle.text_laws.specs.Laws.{may_follow, is_name, are_named}
use Rattle.text_laws.proofs.Tests.{both_true, not_true}
use Rattle.text_laws.proofs.Words.{word_is, behind_is}
use Rattle.text_laws.proofs.Starts.{starts, spaces_kept, not_closed, name_starts, name_plain, Inner, place_is}

abbrev pub slots_of : MaybeValues → Slots
slots_of no_parts = []
slots_of (absent vs) = None ∷ slots_of vs
slots_of (present v vs) = Some v ∷ slots_of vs

abbrev pub has_some : MaybeValues → Bool
has_some no_parts = false
has_some (absent vs) = has_some vs
has_some (present v vs) = true

abbrev pub how_many : MaybeValues → ℕ
how_many no_parts = 0
how_many (absent vs) = how_many vs
how_many (present v vs) = suc (how_many vs)

-- ---- slots

free_at : (done more : Slots) → slice_get (done ++ None ∷ more) (length done) ≡ Some None
free_at [] more = refl
free_at (d ∷ done) more = free_at done more

set_at : (done more : Slots) (v : Value) → slice_set (done ++ None ∷ more) (length done) (Some v) ≡ done ++ Some v ∷ more
set_at [] more v = refl
set_at (d ∷ done) more v = ap (λ (xs : Slots). d ∷ xs) (set_at done more v)

stands : (ordered : Bool) (least : ℕ) (done more : Slots) → least ≤ length done → may_stand ordered least (done ++ None ∷ more) (length done) ≡ true
stands true least done more h = grind (arith, nat_tests)
stands false least done more h = ap is_free (free_at done more)

longer : (done : Slots) (o : Option Value) → length (done ++ o ∷ []) ≡ suc (length done)
longer [] o = refl
longer (d ∷ done) o = ap (λ n. suc n) (longer done o)

-- these parts stand in all from a place on
pub record Behind (all : List Part) (place : ℕ) (ps : List Part) : Type 0 where
  pub each : (j : ℕ) → slice_get all (place + j) ≡ slice_get ps j

next_behind : (all : List Part) (place : ℕ) (p : Part) (ps : List Part) → Behind all place (p ∷ ps) → Behind all (suc place) ps
next_behind all place p ps b = record { each = λ j. let same : suc place + j ≡ place + suc j = omega arith in ap (slice_get all) same ∙ b.each (suc j) }

kept_so : (limit n : ℕ) → n < limit → kept_below limit n ≡ Some n
kept_so limit n h = let e : nat_lt n limit ≡ true = grind (arith, nat_tests) in rw e refl

within : {X : Type 0} (xs : List X) (i : ℕ) (x : X) → slice_get xs i ≡ Some x → i < length xs
within [] i x e = absurd (let no : ⊥ = cc in no)
within (y ∷ ys) zero x e = omega arith
within (y ∷ ys) (suc i) x e = let less = within ys i x e in omega arith

pub found_place : (all : List Part) (place : ℕ) (p : Part) → agrees_later parts_agree all ≡ false → length all < 2 ^ 32 → slice_get all place ≡ Some p → place_of all p.name ≡ Some place
found_place all place p apart few e =
    let less = within all place p e in
    let small : place < 2 ^ 32 = omega arith in
    let zero_more : 0 + place ≡ place = omega arith in
    ap (option_and_then (kept_below (2 ^ 32))) (place_is 0 all place p apart e ∙ ap (λ n. Some n) zero_more) ∙ kept_so (2 ^ 32) place small

module _ (fit : ℕ → Value → Bool) (text : ℕ → Value → List ℕ) (read : ℕ → Reader) where
  abbrev pub Inners : List Part → Type 0
  Inners ps = AllByRecursion (λ m. Inner (fit m) (text m) (read m)) (rows_of_parts ps)

  -- what stands behind a part may follow a value
  follows_parts : (ps : List Part) (vs : MaybeValues) (rest : List ℕ) → may_follow (parts_text text false ps vs ++ 125 ∷ rest) ≡ true
  follows_parts [] vs rest = refl
  follows_parts (p ∷ ps) no_parts rest = refl
  follows_parts (p ∷ ps) (absent vs) rest = follows_parts ps vs rest
  follows_parts (p ∷ ps) (present v vs) rest = refl

  -- behind others the first has a comma before it
  with_comma : (ps : List Part) (vs : MaybeValues) → parts_fit fit ps vs ≡ true → has_some vs ≡ true → parts_text text false ps vs ≡ 44 ∷ 32 ∷ parts_text text true ps vs
  with_comma [] no_parts f s = absurd (let no : ⊥ = cc in no)
  with_comma [] (absent vs) f s = absurd (let no : ⊥ = cc in no)
  with_comma [] (present v vs) f s = absurd (let no : ⊥ = cc in no)
  with_comma (p ∷ ps) no_parts f s = absurd (let no : ⊥ = cc in no)
  with_comma (p ∷ ps) (absent vs) f s = with_comma ps vs (both_true (part_fits fit p None) (parts_fit fit ps vs) f).1 s
  with_comma (p ∷ ps) (present v vs) f s = refl

  none_text : (first : Bool) (ps : List Part) (vs : MaybeValues) → has_some vs ≡ false → parts_text text first ps vs ≡ []
  none_text first [] vs s = refl
  none_text first (p ∷ ps) no_parts s = refl
  none_text first (p ∷ ps) (absent vs) s = none_text first ps vs s
  none_text first (p ∷ ps) (present v vs) s = absurd (let no : ⊥ = cc in no)

  none_slots : (ps : List Part) (vs : MaybeValues) → parts_fit fit ps vs ≡ true → has_some vs ≡ false → slots_of vs ≡ empty_slots ps
  none_slots [] no_parts f s = refl
  none_slots [] (absent vs) f s = absurd (let no : ⊥ = cc in no)
  none_slots [] (present v vs) f s = absurd (let no : ⊥ = cc in no)
  none_slots (p ∷ ps) no_parts f s = absurd (let no : ⊥ = cc in no)
  none_slots (p ∷ ps) (absent vs) f s = ap (λ (xs : Slots). None ∷ xs) (none_slots ps vs (both_true (part_fits fit p None) (parts_fit fit ps vs) f).1 s)
  none_slots (p ∷ ps) (present v vs) f s = absurd (let no : ⊥ = cc in no)

  starts_parts : (ps : List Part) (vs : MaybeValues) (rest : List ℕ) → parts_fit fit ps vs ≡ true → has_some vs ≡ true → list_all (λ (p : Part). is_name p.name) ps ≡ true
      → starts (parts_text text true ps vs) ≡ true
  starts_parts [] no_parts rest f s n = absurd (let no : ⊥ = cc in no)
  starts_parts [] (absent vs) rest f s n = absurd (let no : ⊥ = cc in no)
  starts_parts [] (present v vs) rest f s n = absurd (let no : ⊥ = cc in no)
  starts_parts (p ∷ ps) no_parts rest f s n = absurd (let no : ⊥ = cc in no)
  starts_parts (p ∷ ps) (absent vs) rest f s n =
      starts_parts ps vs rest (both_true (part_fits fit p None) (parts_fit fit ps vs) f).1 s (both_true (is_name p.name) (list_all (λ (p : Part). is_name p.name) ps) n).1
  starts_parts (p ∷ ps) (present v vs) rest f s n =
      name_starts p.name (codes " " ++ (text p.inner.0 v ++ parts_text text false ps vs)) (both_true (is_name p.name) (list_all (λ (p : Part). is_name p.name) ps) n).0

  -- what is read behind a part's name
  part_back : (p : Part) (v : Value) (behind : List ℕ) → Inner (fit p.inner.0) (text p.inner.0) (read p.inner.0) → fit p.inner.0 v ≡ true → may_follow behind ≡ true
      → part_at read (Some p) (32 ∷ (text p.inner.0 v ++ behind)) ≡ Some (record { value = v; rest = behind })
  part_back p v behind inner f m =
      ap (read p.inner.0) (spaces_kept (text p.inner.0 v) behind (inner.start v f)) ∙ inner.back v behind f m

  -- the part that stands first: what comes then goes by what stands behind it
  one_part : (ordered : Bool) (all : List Part) (left : ℕ) (done more : Slots) (least : ℕ) (p : Part) (v : Value) (behind : List ℕ)
      → least ≤ length done → slice_get all (length done) ≡ Some p → place_of all p.name ≡ Some (length done) → is_name p.name ≡ true
      → Inner (fit p.inner.0) (text p.inner.0) (read p.inner.0) → fit p.inner.0 v ≡ true → may_follow behind ≡ true
      → parts_at read ordered all (suc left) (done ++ None ∷ more) least (p.name ++ (32 ∷ (text p.inner.0 v ++ behind)))
      ≡ behind_part all (parts_at read ordered all left) (done ++ Some v ∷ more) (length done + 1) (after_comma behind) (after_brace behind)
  one_part ordered all left done more least p v behind low at named name inner f m =
      let next = parts_at read ordered all left in
      let slots = done ++ None ∷ more in
      let tail = 32 ∷ (text p.inner.0 v ++ behind) in
      let w : word (p.name ++ tail) ≡ p.name = word_is p.name tail (name_plain p.name name) refl in
      let b : behind_word (p.name ++ tail) ≡ tail = behind_is p.name tail (name_plain p.name name) refl in
      let place : place_of all (word (p.name ++ tail)) ≡ Some (length done) = ap (place_of all) w ∙ named in
      let got : part_at read (slice_get all (length done)) tail ≡ Some (record { value = v; rest = behind }) = ap (λ o. part_at read o tail) at ∙ part_back p v behind inner f m in
      ap (λ o. named_part read ordered all next slots least o (behind_word (p.name ++ tail))) place
      ∙ ap (named_part read ordered all next slots least (Some (length done))) b
      ∙ ap (λ c. if c then with_part all next slots (length done) (part_at read (slice_get all (length done)) tail) else None) (stands ordered least done more low)
      ∙ ap (with_part all next slots (length done)) got
      ∙ ap (λ (xs : Slots). behind_part all next xs (length done + 1) (after_comma behind) (after_brace behind)) (set_at done more v)

  -- behind a part: another one, or the brace
  go_on : (t : Bool) (ordered : Bool) (ps : List Part) (vs : MaybeValues) (all : List Part) (done : Slots) (left : ℕ) (v : Value) (rest : List ℕ) → has_some vs ≡ t
      → parts_fit fit ps vs ≡ true → list_all (λ (p : Part). is_name p.name) ps ≡ true
      → (has_some vs ≡ true → parts_at read ordered all left ((done ++ Some v ∷ []) ++ empty_slots ps) (length done + 1) (parts_text text true ps vs ++ 125 ∷ rest) ≡ closed_parts all ((done ++ Some v ∷ []) ++ slots_of vs) rest)
      → (let behind = parts_text text false ps vs ++ 125 ∷ rest in
      behind_part all (parts_at read ordered all left) (done ++ Some v ∷ empty_slots ps) (length done + 1) (after_comma behind) (after_brace behind)) ≡ closed_parts all (done ++ Some v ∷ slots_of vs) rest
  go_on true ordered ps vs all done left v rest t f n more =
      let next = parts_at read ordered all left in
      let goes = parts_text text true ps vs ++ 125 ∷ rest in
      let text_is : parts_text text false ps vs ++ 125 ∷ rest ≡ 44 ∷ 32 ∷ goes = ap (λ x. x ++ 125 ∷ rest) (with_comma ps vs f t) in
      let kept : after_spaces goes ≡ goes = spaces_kept (parts_text text true ps vs) (125 ∷ rest) (starts_parts ps vs rest f t n) in
      ap (λ x. behind_part all next (done ++ Some v ∷ empty_slots ps) (length done + 1) (after_comma x) (after_brace x)) text_is
      ∙ ap (next (done ++ Some v ∷ empty_slots ps) (length done + 1)) kept
      ∙ ap (λ (xs : Slots). next xs (length done + 1) goes) (sym (append_assoc done (Some v ∷ []) (empty_slots ps)))
      ∙ more t ∙ ap (λ (xs : Slots). closed_parts all xs rest) (append_assoc done (Some v ∷ []) (slots_of vs))
  go_on false ordered ps vs all done left v rest t f n more =
      let next = parts_at read ordered all left in
      let text_is : parts_text text false ps vs ++ 125 ∷ rest ≡ 125 ∷ rest = ap (λ x. x ++ 125 ∷ rest) (none_text false ps vs t) in
      ap (λ x. behind_part all next (done ++ Some v ∷ empty_slots ps) (length done + 1) (after_comma x) (after_brace x)) text_is
      ∙ ap (λ (xs : Slots). closed_parts all (done ++ Some v ∷ xs) rest) (sym (none_slots ps vs f t))

  -- the parts from here on, of which one at least is there
  parts_go : (ordered : Bool) (ps : List Part) (vs : MaybeValues) (all : List Part) (done : Slots) (left least : ℕ) (rest : List ℕ)
      → Behind all (length done) ps → least ≤ length done → how_many vs ≤ left → has_some vs ≡ true → parts_fit fit ps vs ≡ true
      → list_all (λ (p : Part). is_name p.name) ps ≡ true → Inners ps → agrees_later parts_agree all ≡ false → length all < 2 ^ 32
      → parts_at read ordered all left (done ++ empty_slots ps) least (parts_text text true ps vs ++ 125 ∷ rest) ≡ closed_parts all (done ++ slots_of vs) rest
  parts_go ordered [] no_parts all done left least rest b low few s f n inner apart short = absurd (let no : ⊥ = cc in no)
  parts_go ordered [] (absent vs) all done left least rest b low few s f n inner apart short = absurd (let no : ⊥ = cc in no)
  parts_go ordered [] (present v vs) all done left least rest b low few s f n inner apart short = absurd (let no : ⊥ = cc in no)
  parts_go ordered (p ∷ ps) no_parts all done left least rest b low few s f n inner apart short = absurd (let no : ⊥ = cc in no)
  parts_go ordered (p ∷ ps) (absent vs) all done left least rest b low few s f n inner apart short =
      let fs = (both_true (part_fits fit p None) (parts_fit fit ps vs) f).1 in
      let ns = (both_true (is_name p.name) (list_all (λ (p : Part). is_name p.name) ps) n).1 in
      let l = longer done None in
      let behind : Behind all (length (done ++ None ∷ [])) ps = subst (λ k. Behind all k ps) (sym l) (next_behind all (length done) p ps b) in
      let low2 : least ≤ length (done ++ None ∷ []) = omega (arith, l) in
      ap (λ (xs : Slots). parts_at read ordered all left xs least (parts_text text true ps vs ++ 125 ∷ rest)) (sym (append_assoc done (None ∷ []) (empty_slots ps)))
      ∙ parts_go ordered ps vs all (done ++ None ∷ []) left least rest behind low2 few s fs ns inner.1 apart short
      ∙ ap (λ (xs : Slots). closed_parts all xs rest) (append_assoc done (None ∷ []) (slots_of vs))
  parts_go ordered (p ∷ ps) (present v vs) all done zero least rest b low few s f n inner apart short = absurd (omega arith)
  parts_go ordered (p ∷ ps) (present v vs) all done (suc left) least rest b low few s f n inner apart short =
      let pf = both_true (part_fits fit p (Some v)) (parts_fit fit ps vs) f in
      let vf = (both_true (not (is_default p.default v)) (fit p.inner.0 v) pf.0).1 in
      let ns = both_true (is_name p.name) (list_all (λ (p : Part). is_name p.name) ps) n in
      let tail = parts_text text false ps vs in
      let behind = tail ++ 125 ∷ rest in
      let here : length done + 0 ≡ length done = omega arith in
      let at : slice_get all (length done) ≡ Some p = ap (slice_get all) (sym here) ∙ b.each 0 in
      let same : (p.name ++ (32 ∷ (text p.inner.0 v ++ tail))) ++ 125 ∷ rest ≡ p.name ++ (32 ∷ (text p.inner.0 v ++ behind)) =
      append_assoc p.name (32 ∷ (text p.inner.0 v ++ tail)) (125 ∷ rest) ∙ ap (λ x. p.name ++ (32 ∷ x)) (append_assoc (text p.inner.0 v) tail (125 ∷ rest)) in
      let l = longer done (Some v) in
      let next : Behind all (length (done ++ Some v ∷ [])) ps = subst (λ k. Behind all k ps) (sym l) (next_behind all (length done) p ps b) in
      let low2 : length done + 1 ≤ length (done ++ Some v ∷ []) = omega (arith, l) in
      let few2 : how_many vs ≤ left = omega arith in
      ap (parts_at read ordered all (suc left) (done ++ None ∷ empty_slots ps) least) same
      ∙ one_part ordered all left done (empty_slots ps) least p v behind low at (found_place all (length done) p apart short at) ns.0 inner.0 vf (follows_parts ps vs rest)
      ∙ go_on (has_some vs) ordered ps vs all done left v rest refl pf.1 ns.1
      (λ t. parts_go ordered ps vs all (done ++ Some v ∷ []) left (length done + 1) rest next low2 few2 t pf.1 ns.1 inner.1 apart short)

  few_parts : (ps : List Part) (vs : MaybeValues) → parts_fit fit ps vs ≡ true → how_many vs ≤ length ps
  few_parts [] no_parts f = omega arith
  few_parts [] (absent vs) f = absurd (let no : ⊥ = cc in no)
  few_parts [] (present v vs) f = absurd (let no : ⊥ = cc in no)
  few_parts (p ∷ ps) no_parts f = absurd (let no : ⊥ = cc in no)
  few_parts (p ∷ ps) (absent vs) f = let more = few_parts ps vs (both_true (part_fits fit p None) (parts_fit fit ps vs) f).1 in omega arith
  few_parts (p ∷ ps) (present v vs) f = let more = few_parts ps vs (both_true (part_fits fit p (Some v)) (parts_fit fit ps vs) f).1 in omega arith

  -- no part that fits has its default's value
  kept_all : (ps : List Part) (vs : MaybeValues) → parts_fit fit ps vs ≡ true → parts_of (kept_slots ps (slots_of vs)) ≡ vs
  kept_all [] no_parts f = refl
  kept_all [] (absent vs) f = absurd (let no : ⊥ = cc in no)
  kept_all [] (present v vs) f = absurd (let no : ⊥ = cc in no)
  kept_all (p ∷ ps) no_parts f = absurd (let no : ⊥ = cc in no)
  kept_all (p ∷ ps) (absent vs) f = ap absent (kept_all ps vs (both_true (part_fits fit p None) (parts_fit fit ps vs) f).1)
  kept_all (p ∷ ps) (present v vs) f =
      let pf = both_true (part_fits fit p (Some v)) (parts_fit fit ps vs) f in
      let other : is_default p.default v ≡ false = not_true (is_default p.default v) (both_true (not (is_default p.default v)) (fit p.inner.0 v) pf.0).0 in
      let kept_one : kept p v ≡ Some v = rw other refl in
      ap (λ o. parts_of (o ∷ kept_slots ps (slots_of vs))) kept_one ∙ ap (present v) (kept_all ps vs pf.1)

  closed_so : (ps : List Part) (vs : MaybeValues) (rest : List ℕ) → parts_fit fit ps vs ≡ true → closed_parts ps (slots_of vs) rest ≡ Some (record { value = parts vs; rest = rest })
  closed_so ps vs rest f = ap (λ (x : MaybeValues). Some (record { value = parts x; rest = rest })) (kept_all ps vs f)

  by_some : (t : Bool) (ordered : Bool) (ps : List Part) (vs : MaybeValues) (rest : List ℕ) → has_some vs ≡ t → parts_fit fit ps vs ≡ true → are_named ps ≡ true
      → agrees_later parts_agree ps ≡ false → Inners ps
      → (let inside = after_spaces (parts_text text true ps vs ++ 125 ∷ rest) in first_part read ordered ps inside (closed_by inside)) ≡ Some (record { value = parts vs; rest = rest })
  by_some true ordered ps vs rest t f n apart inner =
      let ns = both_true (list_all (λ (p : Part). is_name p.name) ps) (nat_lt (length ps) (2 ^ 32)) n in
      let short : length ps < 2 ^ 32 = grind (arith, nat_tests, ns.1) in
      let goes = parts_text text true ps vs in
      let start = starts_parts ps vs rest f t ns.0 in
      let kept : after_spaces (goes ++ 125 ∷ rest) ≡ goes ++ 125 ∷ rest = spaces_kept goes (125 ∷ rest) start in
      let whole : Behind ps 0 ps = record { each = λ j. let same : 0 + j ≡ j = omega arith in ap (slice_get ps) same } in
      ap (λ x. first_part read ordered ps x (closed_by x)) kept ∙ ap (first_part read ordered ps (goes ++ 125 ∷ rest)) (not_closed goes (125 ∷ rest) start)
      ∙ parts_go ordered ps vs ps [] (length ps) 0 rest whole (omega arith) (few_parts ps vs f) t f ns.0 inner apart short ∙ closed_so ps vs rest f
  by_some false ordered ps vs rest t f n apart inner =
      let text_is : parts_text text true ps vs ++ 125 ∷ rest ≡ 125 ∷ rest = ap (λ x. x ++ 125 ∷ rest) (none_text true ps vs t) in
      ap (λ x. first_part read ordered ps (after_spaces x) (closed_by (after_spaces x))) text_is
      ∙ ap (λ (xs : Slots). closed_parts ps xs rest) (sym (none_slots ps vs f t)) ∙ closed_so ps vs rest f

  pub sequence_back : (ordered : Bool) (ps : List Part) (vs : MaybeValues) (rest : List ℕ) → parts_fit fit ps vs ≡ true → are_named ps ≡ true
      → agrees_later parts_agree ps ≡ false → Inners ps → sequence_at read ordered ps (sequence_text text ps (parts vs) ++ rest) ≡ Some (record { value = parts vs; rest = rest })
  sequence_back ordered ps vs rest f n apart inner =
      let goes = parts_text text true ps vs in
      let same : (goes ++ 125 ∷ []) ++ rest ≡ goes ++ 125 ∷ rest = append_assoc goes (125 ∷ []) rest in
      ap (λ x. first_part read ordered ps (after_spaces x) (closed_by (after_spaces x))) same ∙ by_some (has_some vs) ordered ps vs rest refl f n apart inner
