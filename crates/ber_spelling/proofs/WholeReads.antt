-- Whole values of any type: what is read is spelled so, what is spelled so is read, and it stays so.
use Rattle.std.proofs.Common.{◌≡◌, ◌≢◌, ℕ, zero, suc, ◌+◌, ◌-◌, ◌<◌, Bool, true, false, ◌&&◌, cond, List, [], ◌∷◌, ◌++◌, length, Option, Some, Ok, Err, refl, sym, ap, ◌∙◌, subst, arith, length-append, inl, inr}
use Rattle.std.specs.Prelude.{nat_eq}
use Rattle.std.proofs.lemmas.Bool.{ne_eqb, eqb-true, and_parts}
use Rattle.osi_base.specs.declared.layer_words.Kind.TheVariants.{Tag}
use Rattle.asn1_types.specs.declared.row.Class.{Class}
use Rattle.asn1_types.specs.declared.row.Class.TheVariants.{Universal}
use Rattle.asn1_types.specs.Rows.{is_no_tag, same_class}
use Rattle.asn1_types.specs.Whole.{is_marked}
use Rattle.asn1_types.specs.Tags.{capped}
use Rattle.ber_spelling.specs.declared.fault.ReadFault.TheVariants as faults
use Rattle.ber_spelling.specs.declared.spot.Scope.{Scope}
use Rattle.osi_base.specs.Octets.{AreOctets}
use Rattle.ber_spelling.specs.Reading.{Spot, Opened, Reading, ◌>>=◌}
use Rattle.ber_spelling.specs.Fields.{identifier_at, inside, is_end, cut_off, lacking, definite_at, extent_at, contents_at}
use Rattle.ber_spelling.specs.Rules.{all_items_at, anew, sized_at, marked_at, whole_at}
use Rattle.ber_spelling.specs.Spelling.{IsLength, IsIdentifier, Steps, ItemsAre, IsSized, AreAll, IsMarked, IsWhole}
use Rattle.ber_spelling.proofs.Identifiers.{IsIn, in_before, bind_ok, chosen_ok, unless_ok, ok_is, IdentifierFound, identifier_found, identifier_again}
use Rattle.ber_spelling.proofs.Lengths.{Marked, contents_found, contents_again, extent_found, extent_marked, length_first}
use Rattle.ber_spelling.proofs.Steady.{ReadAs, Found, ReadBack, Only, taken_octets, taken_then, head_some, regroup, regroup_marked}
use Rattle.ber_spelling.proofs.Constructed.{BodyFound, BodyOnly}
use Rattle.ber_spelling.proofs.Growing.{grown, Grows, Grows-bind, Grows-cond, with_spot, with_contents, extent_grows, contents_grow}
use Rattle.ber_spelling.proofs.Items.{GrowsRun, GrowsBody, all_found, all_only, all_grow}

-- UNIVERSAL 0 is so however large numbers are kept
pub no_tag_capped : (class : Class) (n : ℕ) → is_no_tag class (capped n) ≡ is_no_tag class n
no_tag_capped class n = ap (λ (b : Bool). same_class class Universal && b) (by_zero n)
  where
    by_zero : (n : ℕ) → nat_eq (capped n) 0 ≡ nat_eq n 0
    by_zero zero = refl
    by_zero (suc n) =
        let ne : capped (suc n) ≢ 0 = omega arith in
        let some : suc n ≢ 0 = omega arith in
        ne_eqb (capped (suc n)) 0 ne ∙ sym (ne_eqb (suc n) 0 some)

-- an identifier that isn't UNIVERSAL 0
abbrev pub IsTagged : Class → ℕ → Type 0
IsTagged class number = is_no_tag class number ≡ false

abbrev some_unit : Unit {0} → Option (Unit {0})
some_unit u = Some u

-- one whole value, as a step of contents
abbrev pub WholeIs : ℕ → Unit {0} → Bool → ℕ → Unit {0} → List ℕ → Type 0
WholeIs depth before strict levels after text = (0 < levels) × IsWhole depth text

abbrev WholesAre : ℕ → Bool → ℕ → Unit {0} → List ℕ → Type 0
WholesAre depth = ItemsAre some_unit (WholeIs depth) tt

all_of : (depth : ℕ) (strict : Bool) (levels : ℕ) (steps : List (List ℕ × Unit {0})) (first last : Unit {0}) (contents : List ℕ) → Steps (λ a b text. WholeIs depth a strict levels b text) steps first last contents
    → (values : List (List ℕ)) × AreAll (IsWhole depth) values contents
all_of depth strict levels [] first last contents h = ([], h.1)
all_of depth strict levels (s ∷ more) first last contents h =
    let r = all_of depth strict levels more s.1 last h.0 h.3 in
    (s.0 ∷ r.0, (h.0, h.1, h.2.1, r.1))

some_depth : (depth : ℕ) (text : List ℕ) → IsWhole depth text → 0 < depth
some_depth zero text h = absurd h
some_depth (suc depth) text h = omega arith

all_as : (depth : ℕ) (strict : Bool) (values : List (List ℕ)) (contents : List ℕ) → AreAll (IsWhole depth) values contents
    → (steps : List (List ℕ × Unit {0})) × Steps (λ a b text. WholeIs depth a strict depth b text) steps tt tt contents
all_as depth strict [] contents h = ([], (refl, h))
all_as depth strict (s ∷ more) contents h =
    let r = all_as depth strict more h.0 h.3 in
    ((s, tt) ∷ r.0, (h.0, h.1, (some_depth depth s h.2, h.2), r.1))

marked_first : (rest : List ℕ) → is_marked rest ≡ true → (more : List ℕ) × (rest ≡ 128 ∷ more)
marked_first [] e = absurd cc
marked_first (first ∷ more) e = (more, ap (λ (o : ℕ). o ∷ more) (eqb-true first 128 e))

no_length : (size rest more : List ℕ) (n : ℕ) → IsLength false size n → 128 ∷ more ≡ size ++ rest → ⊥
no_length [] rest more n h e = h
no_length (first ∷ digits) rest more n h e =
    let same : 128 ≡ first = cc in
    let ne : nat_eq first 128 ≡ false = length_first false first digits n h in
    let wrong : nat_eq 128 128 ≡ false = ap (λ (k : ℕ). nat_eq k 128) same ∙ ne in
    absurd cc

-- ---- what is read is spelled so

module _ (inner : ℕ) (scope : Scope) (place : ℕ) (rest : List ℕ) (o : Opened) (s to : Spot) (octets : AreOctets rest) (i : IdentifierFound scope place rest o s) (t : is_no_tag o.class o.number ≡ false) where
  abbrev own : Scope
  own = anew (suc inner) scope

  tagged : is_no_tag o.class i.number ≡ false
  tagged = sym (no_tag_capped o.class i.number) ∙ ap (is_no_tag o.class) (sym i.capped_number) ∙ t

  sized_found : (v : Unit {0}) → sized_at own s ≡ Ok (v, to) → ReadAs (WholeIs (suc inner) tt) scope place rest v to
  sized_found v e =
      let b = bind_ok (contents_at own s.place s.rest) (λ c. Ok (tt, c.2)) (v, to) e in
      let c = contents_found own s.place s.rest b.0.0 b.0.1 b.0.2 b.1 in
      let same = ok_is {A = Unit {0} × Spot} (tt, b.0.2) (v, to) b.2 in
      let text : List ℕ = i.head ++ (c.size ++ b.0.1) in
      let sized : IsSized text = record { class = o.class; constructed = o.constructed; number = i.number; is_tag = tagged; head = i.head; size = c.size; contents = b.0.1; is_identifier = i.is_identifier; is_length = c.is_length; are = refl } in
      subst (λ (y : Unit {0} × Spot). ReadAs (WholeIs (suc inner) tt) scope place rest y.0 y.1) same (record {
        text = text;
        taken = taken_then place rest i.head (c.size ++ b.0.1) s b.0.2 i.taken c.taken;
        spelled = (i.level, inl sized);
        is_in = record { limit = c.is_in.limit; end = c.is_in.end };
      })

  marked_found : (v : Unit {0}) → BodyFound (all_items_at (whole_at inner) some_unit tt) (WholesAre inner) → is_marked s.rest ≡ true → o.constructed ≡ true → marked_at (all_items_at (whole_at inner) some_unit tt) own s ≡ Ok (v, to)
      → ReadAs (WholeIs (suc inner) tt) scope place rest v to
  marked_found v h m formed e =
      let b = bind_ok (extent_at own s.place s.rest) (λ x. all_items_at (whole_at inner) some_unit tt x.0 x.1) (v, to) e in
      let first = marked_first s.rest m in
      elim (extent_found own s.place s.rest b.0.0 b.0.1 b.1) [
        | inl u ↦ absurd (no_length u.size b.0.1.rest first.0 u.count u.is_length (sym first.1 ∙ u.taken.parts))
        | inr u ↦ by_marks v h formed b.0.0 b.0.1 u b.2
      ]
    where
      by_marks : (v : Unit {0}) → BodyFound (all_items_at (whole_at inner) some_unit tt) (WholesAre inner) → o.constructed ≡ true → (x : Scope) (mid : Spot) → Marked own s.place s.rest x mid → all_items_at (whole_at inner) some_unit tt x mid ≡ Ok (v, to)
          → ReadAs (WholeIs (suc inner) tt) scope place rest v to
      by_marks v h formed x mid u e =
          let behind : AreOctets mid.rest = taken_octets s.place s.rest (128 ∷ []) mid u.taken (taken_octets place rest i.head s i.taken octets) in
          let read : all_items_at (whole_at inner) some_unit tt (inside own) mid ≡ Ok (v, to) = ap (λ (y : Scope). all_items_at (whole_at inner) some_unit tt y mid) (sym u.are) ∙ e in
          let c = h.found (inside own) mid v to behind (record { limit = u.is_in.limit; end = u.is_in.end }) read in
          let all = all_of inner false (inside own).levels c.spelled.2 tt c.spelled.0 c.contents c.spelled.3 in
          let tail : List ℕ = c.contents ++ (0 ∷ 0 ∷ []) in
          let text : List ℕ = i.head ++ ((128 ∷ []) ++ tail) in
          let identifier : IsIdentifier o.class true i.number i.head = subst (λ (f : Bool). IsIdentifier o.class f i.number i.head) formed i.is_identifier in
          let marked : IsMarked (IsWhole inner) text = record { class = o.class; number = i.number; is_tag = tagged; head = i.head; values = all.0; contents = c.contents; is_identifier = identifier; holds = all.1; are = refl } in
          record {
            text = text;
            taken = taken_then place rest i.head ((128 ∷ []) ++ tail) s to i.taken (taken_then s.place s.rest (128 ∷ []) tail mid to u.taken c.taken);
            spelled = (i.level, inr marked);
            is_in = record { limit = c.is_in.limit; end = c.is_in.end };
          }

pub whole_found : (depth : ℕ) (before : Unit {0}) → Found (whole_at depth before) (WholeIs depth before)
unfolding whole_at
whole_found zero before = record { found = λ scope place rest o s v to are opens e. absurd cc }
whole_found (suc inner) before = record {
  found = λ scope place rest o s v to are opens e.
      let i = identifier_found scope place rest o s are opens in
      let u = unless_ok (is_no_tag o.class o.number) (faults.NotSpelled o.start.place Tag) _ (v, to) e in
      elim (chosen_ok (is_marked s.rest && o.constructed) _ _ (v, to) u.1) [
        | inl t ↦
            let both = and_parts (is_marked s.rest) o.constructed t.0 in
            marked_found inner scope place rest o s to are i u.0 v (all_found (whole_at inner) some_unit (WholeIs inner) tt (λ a. whole_found inner a)) both.0 both.1 t.1
        | inr t ↦ sized_found inner scope place rest o s to are i u.0 v t.1
      ];
}

-- ---- what is spelled so is read

pub unmarked : (size behind : List ℕ) (n : ℕ) → IsLength false size n → is_marked (size ++ behind) ≡ false
unmarked [] behind n h = absurd h
unmarked (first ∷ digits) behind n h = length_first false first digits n h

module _ (inner : ℕ) (scope : Scope) (place : ℕ) (v : Unit {0}) (text rest : List ℕ) (level : 0 < scope.levels) (here : IsIn scope (place + length text)) where
  abbrev fresh : Scope
  fresh = anew (suc inner) scope

  sized_only : IsSized text → ReadBack IsTagged (whole_at (suc inner) tt) scope place text rest v
  unfolding whole_at
  sized_only w =
      let hd = head_some w.class w.constructed w.number w.head w.is_tag w.is_identifier in
      let len : length text ≡ length w.head + (length w.size + length w.contents) = ap length w.are ∙ length-append w.head (w.size ++ w.contents) ∙ ap (λ (n : ℕ). length w.head + n) (length-append w.size w.contents) in
      let whole : text ++ rest ≡ w.head ++ (w.size ++ (w.contents ++ rest)) = ap (λ (x : List ℕ). x ++ rest) w.are ∙ regroup w.head w.size w.contents rest in
      let start : Spot = record { place = place; rest = w.head ++ (w.size ++ (w.contents ++ rest)) } in
      let o : Opened = record { start = start; class = w.class; constructed = w.constructed; number = capped w.number } in
      let at : ℕ = place + length w.head in
      let to-is : place + length text ≡ at + length w.size + length w.contents = omega arith in
      let there : IsIn scope (at + length w.size + length w.contents) = subst (IsIn scope) to-is here in
      let opens = identifier_again scope place w.class w.constructed w.number w.head (w.size ++ (w.contents ++ rest)) w.is_identifier level (in_before scope at (place + length text) (omega arith) here) in
      let contents = contents_again fresh at w.size w.contents rest w.is_length (record { limit = there.limit; end = there.end }) in
      let tag : is_no_tag w.class (capped w.number) ≡ false = no_tag_capped w.class w.number ∙ w.is_tag in
      record {
        opened = o;
        spot = record { place = at; rest = w.size ++ (w.contents ++ rest) };
        first = hd.first;
        others = hd.others ++ (w.size ++ w.contents);
        begins = w.are ∙ ap (λ (x : List ℕ). x ++ (w.size ++ w.contents)) hd.are;
        some = hd.some;
        opens = ap (identifier_at scope place) whole ∙ opens;
        allowed = tag;
        reads = rw (tag, unmarked w.size (w.contents ++ rest) (length w.contents) w.is_length, contents) (ap (λ (n : ℕ). Ok (v, record { place = n; rest = rest })) (sym to-is));
      }

  marked_only : BodyOnly (all_items_at (whole_at inner) some_unit tt) (WholesAre inner) → IsMarked (IsWhole inner) text → ReadBack IsTagged (whole_at (suc inner) tt) scope place text rest v
  unfolding whole_at
  marked_only h w =
      let hd = head_some w.class true w.number w.head w.is_tag w.is_identifier in
      let len : length text ≡ length w.head + (1 + (length w.contents + 2)) = ap length w.are ∙ length-append w.head (128 ∷ (w.contents ++ (0 ∷ 0 ∷ []))) ∙ ap (λ (n : ℕ). length w.head + suc n) (length-append w.contents (0 ∷ 0 ∷ [])) ∙ omega arith in
      let behind : List ℕ = w.contents ++ ((0 ∷ 0 ∷ []) ++ rest) in
      let whole : text ++ rest ≡ w.head ++ (128 ∷ behind) = ap (λ (x : List ℕ). x ++ rest) w.are ∙ regroup_marked w.head w.contents rest in
      let start : Spot = record { place = place; rest = w.head ++ (128 ∷ behind) } in
      let o : Opened = record { start = start; class = w.class; constructed = true; number = capped w.number } in
      let at : ℕ = place + length w.head in
      let end : ℕ = at + 1 + length w.contents in
      let to-is : place + length text ≡ end + 2 = omega arith in
      let there : IsIn scope (end + 2) = subst (IsIn scope) to-is here in
      let opens = identifier_again scope place w.class true w.number w.head (128 ∷ behind) w.is_identifier level (in_before scope at (end + 2) (omega arith) there) in
      let one : IsIn scope (at + 1) = in_before scope (at + 1) (end + 2) (omega arith) there in
      let last : IsIn scope end = in_before scope end (end + 2) (omega arith) there in
      let extent = extent_marked fresh at behind refl (record { limit = one.limit; end = one.end }) in
      let less : suc inner - 1 ≡ inner = omega arith in
      let all = all_as inner false w.values w.contents w.holds in
      let spelled : WholesAre inner false (suc inner - 1) v w.contents = subst (λ (n : ℕ). WholesAre inner false n v w.contents) (sym less) (tt, refl, all.0, all.1) in
      let read = h.only (inside fresh) (at + 1) v w.contents rest spelled (record { limit = last.limit; end = last.end }) (record { by = record { limit = there.limit; end = there.end } }) in
      let tag : is_no_tag w.class (capped w.number) ≡ false = no_tag_capped w.class w.number ∙ w.is_tag in
      record {
        opened = o;
        spot = record { place = at; rest = 128 ∷ behind };
        first = hd.first;
        others = hd.others ++ (128 ∷ (w.contents ++ (0 ∷ 0 ∷ [])));
        begins = w.are ∙ ap (λ (x : List ℕ). x ++ (128 ∷ (w.contents ++ (0 ∷ 0 ∷ [])))) hd.are;
        some = hd.some;
        opens = ap (identifier_at scope place) whole ∙ opens;
        allowed = tag;
        reads = rw (tag, extent) (read ∙ ap (λ (n : ℕ). Ok (v, record { place = n; rest = rest })) (omega arith));
      }

pub whole_only : (depth : ℕ) (before : Unit {0}) → Only IsTagged (whole_at depth before) (WholeIs depth before)
whole_only zero before = record { only = λ scope place v text rest p here. absurd p.1 }
whole_only (suc inner) before = record {
  only = λ scope place v text rest p here.
      elim p.1 [
        | inl w ↦ sized_only inner scope place v text rest p.0 here w
        | inr w ↦ marked_only inner scope place v text rest p.0 here (all_only IsTagged (whole_at inner) some_unit (WholeIs inner) tt (λ a. whole_only inner a)) w
      ];
}

-- ---- it stays so

short_then : {A B C : Type 0} (r : Reading A) (k : B → Reading C) → ((r >>= λ _. Err faults.Short) >>= k) ≡ (r >>= λ _. Err faults.Short)
short_then (Ok x) k = refl
short_then (Err e) k = refl

-- what lacks an octet lacks it whatever was to follow
lacking_then : {B C : Type 0} (scope : Scope) (place : ℕ) (k : B → Reading C) → (lacking scope place >>= k) ≡ lacking scope place
lacking_then {B} {C} scope place k = by_end (is_end scope.end place)
  where
    by_end : (b : Bool) → (cond b (cut_off scope place (place + 1)) (Err faults.Short) >>= k) ≡ cond b (cut_off scope place (place + 1)) (Err faults.Short)
    by_end true = short_then _ k
    by_end false = refl

sized_grows : (scope : Scope) (s : Spot) (more : List ℕ) → Grows (with_spot more) (sized_at scope s) (sized_at scope (grown more s))
sized_grows scope s more =
    Grows-bind (with_contents more) (with_spot more) (contents_at scope s.place s.rest) (contents_at scope s.place (s.rest ++ more)) _ _ (contents_grow scope s.place s.rest more) (λ c e. refl)

module _ (body : Scope → Spot → Reading (Unit {0} × Spot)) (h : GrowsBody body) (scope : Scope) where
  marked_grows : (s : Spot) (more : List ℕ) → Grows (with_spot more) (marked_at body scope s) (marked_at body scope (grown more s))
  marked_grows s more = Grows-bind (with_spot more) (with_spot more) (extent_at scope s.place s.rest) (extent_at scope s.place (s.rest ++ more)) _ _ (extent_grows scope s.place s.rest more) (λ x e. h.grows x.0 x.1 more)

  -- with no octet there is no telling which length it is
  none_grows : (place : ℕ) (more : List ℕ) → Grows (with_spot more) (sized_at scope (record { place = place; rest = [] })) (marked_at body scope (record { place = place; rest = more }))
  unfolding contents_at definite_at extent_at
  none_grows place more =
      let none : sized_at scope (record { place = place; rest = [] }) ≡ marked_at body scope (record { place = place; rest = [] }) =
      ap (λ (r : Reading (ℕ × List ℕ × Spot)). r >>= λ c. Ok (tt, c.2)) (lacking_then {B = ℕ × Spot} {C = ℕ × List ℕ × Spot} scope place _)
      ∙ lacking_then {B = ℕ × List ℕ × Spot} {C = Unit {0} × Spot} scope place _ ∙ sym (lacking_then {B = Scope × Spot} {C = Unit {0} × Spot} scope place (λ x. body x.0 x.1)) in
      subst (λ (r : Reading (Unit {0} × Spot)). Grows (with_spot more) r (marked_at body scope (record { place = place; rest = more }))) (sym none) (marked_grows (record { place = place; rest = [] }) more)

  length_grows : (constructed : Bool) (place : ℕ) (rest more : List ℕ) → Grows (with_spot more) (cond (is_marked rest && constructed) (marked_at body scope (record { place = place; rest = rest })) (sized_at scope (record { place = place; rest = rest })))
      (cond (is_marked (rest ++ more) && constructed) (marked_at body scope (record { place = place; rest = rest ++ more })) (sized_at scope (record { place = place; rest = rest ++ more })))
  length_grows constructed place [] more = by_test (is_marked more && constructed)
    where
      by_test : (b : Bool) → Grows (with_spot more) (sized_at scope (record { place = place; rest = [] })) (cond b (marked_at body scope (record { place = place; rest = more })) (sized_at scope (record { place = place; rest = more })))
      by_test true = none_grows place more
      by_test false = sized_grows scope (record { place = place; rest = [] }) more
  length_grows constructed place (first ∷ rest) more =
      Grows-cond (with_spot more) (nat_eq first 128 && constructed) _ _ _ _ (λ t. marked_grows (record { place = place; rest = first ∷ rest }) more) (λ t. sized_grows scope (record { place = place; rest = first ∷ rest }) more)

pub whole_grows : (depth : ℕ) (before : Unit {0}) → GrowsRun (whole_at depth before)
unfolding whole_at
whole_grows zero before = record { grows = λ scope o s more. refl }
whole_grows (suc inner) before = record {
  grows = λ scope o s more.
      Grows-cond (with_spot more) (is_no_tag o.class o.number) _ _ _ _ (λ t. refl) (λ t.
      length_grows (all_items_at (whole_at inner) some_unit tt) (all_grow (whole_at inner) some_unit (λ a. whole_grows inner a) tt) (anew (suc inner) scope) o.constructed s.place s.rest more);
}
