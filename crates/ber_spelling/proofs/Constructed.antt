-- Constructed values: what is read is spelled so, and what is spelled so is read.
use Rattle.std.proofs.Common.{◌≡◌, ℕ, suc, ◌+◌, ◌-◌, ◌^◌, ◌≤◌, ◌<◌, true, false, List, [], ◌∷◌, ◌++◌, length, Some, Ok, Err, refl, sym, ap, ◌∙◌, subst, arith, length-append, inl, inr}
use Rattle.std.proofs.lemmas.Bool.{le-ltb, ltb-false}
use Rattle.std.proofs.lemmas.List.{append-nil}
use Rattle.asn1_types.specs.declared.row.Class.{Class}
use Rattle.asn1_types.specs.Rows.{is_no_tag}
use Rattle.asn1_types.specs.Value.{Value}
use Rattle.ber_spelling.specs.declared.spot.Scope.{Scope}
use Rattle.asn1_types.specs.declared.row.Tag as tags
use Rattle.osi_base.specs.Octets.{AreOctets}
use Rattle.ber_spelling.specs.Reading.{Spot, Opened, Ahead, ended, begun, Reading, ◌>>=◌}
use Rattle.ber_spelling.specs.Fields.{identifier_at, inside, inside_until, extent_at, look_at}
use Rattle.ber_spelling.specs.Rules.{expect_at, constructed_at, value_ahead, end_ahead, open_at, close_at, explicit_at}
use Rattle.ber_spelling.specs.Spelling.{IsIdentifier, IsDefinite, IsIndefinite, IsConstructed}
use Rattle.ber_spelling.proofs.Identifiers.{IsIn, in_before, Taken, bind_ok, ok_is, identifier_found}
use Rattle.ber_spelling.proofs.Lengths.{Until, Marked, extent_found, extent_until, extent_marked}
use Rattle.ber_spelling.proofs.Ends.{closing, Closes, EndFound, BeginFound, AheadFound, look_found, look_closed, look_begun}
use Rattle.ber_spelling.proofs.Steady.{RunOf, Run, RelationOf, Relation, ReadAs, Found, ReadBack, Only, OfTag, opened_as, expected, tag_is, tag_again, taken_octets, taken_then, head_some, regroup, regroup_marked}

-- reads contents up to and with what closes them
abbrev pub BodyOf : Type 0 → Type 0
BodyOf A = Scope → Spot → Reading (A × Spot)

abbrev pub Body : Type 0
Body = BodyOf Value

pub record ContentsAs {A : Type 0} (Q : RelationOf A) (scope : Scope) (place : ℕ) (rest : List ℕ) (v : A) (to : Spot) : Type 0 where
  pub contents : List ℕ
  pub taken : Taken place rest (contents ++ closing scope.marked) to
  pub spelled : Q scope.strict scope.levels v contents
  pub closes : Closes scope (place + length contents)
  pub is_in : IsIn scope to.place

pub record BodyFound {A : Type 0} (b : BodyOf A) (Q : RelationOf A) : Type 0 where
  pub found : (scope : Scope) (s : Spot) (v : A) (to : Spot) → AreOctets s.rest → IsIn scope s.place → b scope s ≡ Ok (v, to) → ContentsAs Q scope s.place s.rest v to

pub record BodyOnly {A : Type 0} (b : BodyOf A) (Q : RelationOf A) : Type 0 where
  pub only : (scope : Scope) (place : ℕ) (v : A) (contents rest : List ℕ) → Q scope.strict scope.levels v contents → IsIn scope (place + length contents) → Closes scope (place + length contents)
      → b scope (record { place = place; rest = contents ++ (closing scope.marked ++ rest) }) ≡ Ok (v, record { place = place + length contents + length (closing scope.marked); rest = rest })

abbrev pub ConstructedBy : {A : Type 0} → tags.Tag → RelationOf A → RelationOf A
ConstructedBy tag Q strict levels v text = IsConstructed tag strict levels (λ l c. Q strict l v c) text

levels_down : (n : ℕ) → 0 < n → n ≡ suc (n - 1)
levels_down n lt = omega arith

-- a scope that ends at a place holds that place
in_until : (scope : Scope) (end : ℕ) → IsIn scope end → (q : ℕ) → q ≤ end → IsIn (inside_until scope end) q
in_until scope end here q le = record { limit = omega (arith, here.limit); end = le-ltb end q le }

in_outer : (scope : Scope) (end q : ℕ) → IsIn scope end → IsIn (inside_until scope end) q → IsIn scope q
in_outer scope end q here h = in_before scope q end (ltb-false end q h.end) here

in_marked : (scope : Scope) (q : ℕ) → IsIn scope q → IsIn (inside scope) q
in_marked scope q h = record { limit = h.limit; end = h.end }

in_unmarked : (scope : Scope) (q : ℕ) → IsIn (inside scope) q → IsIn scope q
in_unmarked scope q h = record { limit = h.limit; end = h.end }

until_found : {A : Type 0} (body : BodyOf A) (tag : tags.Tag) (Q : RelationOf A) → BodyFound body Q → (scope : Scope) (place : ℕ) (rest : List ℕ) (v : A) (to : Spot) (x : Scope) (s m : Spot) (head : List ℕ)
    → AreOctets rest → Taken place rest head s → 0 < scope.levels → tag.number < 2 ^ 32 → IsIdentifier tag.class true tag.number head → Until scope s.place s.rest x m → body x m ≡ Ok (v, to)
    → ReadAs (ConstructedBy tag Q) scope place rest v to
until_found body tag Q h scope place rest v to x s m head octets taken level small identifier u e =
    let behind : AreOctets m.rest = taken_octets s.place s.rest u.size m u.taken (taken_octets place rest head s taken octets) in
    let end : ℕ = m.place + u.count in
    let read : body (inside_until scope end) m ≡ Ok (v, to) = ap (λ (y : Scope). body y m) (sym u.are) ∙ e in
    let c = h.found (inside_until scope end) m v to behind (in_until scope end u.is_in m.place (omega arith)) read in
    let closed : m.place + length c.contents ≡ end = let same : Some end ≡ Some (m.place + length c.contents) = c.closes.by in cc in
    let len : length c.contents ≡ u.count = omega arith in
    let inner : Taken m.place m.rest c.contents to = subst (λ (y : List ℕ). Taken m.place m.rest y to) (append-nil c.contents) c.taken in
    record {
      text = head ++ (u.size ++ c.contents);
      taken = taken_then place rest head (u.size ++ c.contents) s to taken (taken_then s.place s.rest u.size c.contents m to u.taken inner);
      spelled = record {
        inner = scope.levels - 1;
        level = levels_down scope.levels level;
        small = small;
        form = inl (record { head = head; size = u.size; contents = c.contents; is_identifier = identifier; is_length = rw len u.is_length; holds = c.spelled; are = refl });
      };
      is_in = in_outer scope end to.place u.is_in c.is_in;
    }

marked_found : {A : Type 0} (body : BodyOf A) (tag : tags.Tag) (Q : RelationOf A) → BodyFound body Q → (scope : Scope) (place : ℕ) (rest : List ℕ) (v : A) (to : Spot) (x : Scope) (s m : Spot) (head : List ℕ)
    → AreOctets rest → Taken place rest head s → 0 < scope.levels → tag.number < 2 ^ 32 → IsIdentifier tag.class true tag.number head → Marked scope s.place s.rest x m → IsIn scope m.place → body x m ≡ Ok (v, to)
    → ReadAs (ConstructedBy tag Q) scope place rest v to
marked_found body tag Q h scope place rest v to x s m head octets taken level small identifier u here e =
    let behind : AreOctets m.rest = taken_octets s.place s.rest (128 ∷ []) m u.taken (taken_octets place rest head s taken octets) in
    let read : body (inside scope) m ≡ Ok (v, to) = ap (λ (y : Scope). body y m) (sym u.are) ∙ e in
    let c = h.found (inside scope) m v to behind (in_marked scope m.place here) read in
    record {
      text = head ++ ((128 ∷ []) ++ (c.contents ++ (0 ∷ 0 ∷ [])));
      taken = taken_then place rest head ((128 ∷ []) ++ (c.contents ++ (0 ∷ 0 ∷ []))) s to taken (taken_then s.place s.rest (128 ∷ []) (c.contents ++ (0 ∷ 0 ∷ [])) m to u.taken c.taken);
      spelled = record {
        inner = scope.levels - 1;
        level = levels_down scope.levels level;
        small = small;
        form = inr (u.lax, record { head = head; contents = c.contents; is_identifier = identifier; holds = c.spelled; are = refl });
      };
      is_in = in_unmarked scope to.place c.is_in;
    }

pub constructed_found : {A : Type 0} (body : BodyOf A) (tag : tags.Tag) (Q : RelationOf A) → BodyFound body Q → Found (constructed_at body tag) (ConstructedBy tag Q)
constructed_found body tag Q h = record {
  found = λ scope place rest o s v to octets opens e.
      let i = identifier_found scope place rest o s octets opens in
      let b1 = bind_ok (expect_at tag true o) _ (v, to) e in
      let is = opened_as tag true o b1.0 b1.1 in
      let b2 = bind_ok (extent_at scope s.place s.rest) (λ x. body x.0 x.1) (v, to) b1.2 in
      let x : Scope = b2.0.0 in
      let m : Spot = b2.0.1 in
      let identifier = tag_is tag true o i.number i.head is i.capped_number i.is_identifier in
      elim (extent_found scope s.place s.rest x m b2.1) [
        | inl u ↦ until_found body tag Q h scope place rest v to x s m i.head octets i.taken i.level is.small identifier u b2.2
        | inr u ↦ marked_found body tag Q h scope place rest v to x s m i.head octets i.taken i.level is.small identifier u u.is_in b2.2
      ];
}

module _ {A : Type 0} (body : BodyOf A) (tag : tags.Tag) (Q : RelationOf A) (h : BodyOnly body Q) (tagged : is_no_tag tag.class tag.number ≡ false) (scope : Scope) (place : ℕ) (v : A) (text rest : List ℕ)
    (inner : ℕ) (level : scope.levels ≡ suc inner) (small : tag.number < 2 ^ 32) (here : IsIn scope (place + length text)) where
  one_less : scope.levels - 1 ≡ inner
  one_less = omega (arith, level)

  until_only : IsDefinite scope.strict true tag (λ c. Q scope.strict inner v c) text → ReadBack (OfTag tag) (constructed_at body tag) scope place text rest v
  until_only f =
      let hd = head_some tag.class true tag.number f.head tagged f.is_identifier in
      let len : length text ≡ length f.head + (length f.size + length f.contents) = ap length f.are ∙ length-append f.head (f.size ++ f.contents) ∙ ap (λ (n : ℕ). length f.head + n) (length-append f.size f.contents) in
      let whole : text ++ rest ≡ f.head ++ (f.size ++ (f.contents ++ rest)) = ap (λ (x : List ℕ). x ++ rest) f.are ∙ regroup f.head f.size f.contents rest in
      let start : Spot = record { place = place; rest = f.head ++ (f.size ++ (f.contents ++ rest)) } in
      let o : Opened = record { start = start; class = tag.class; constructed = true; number = tag.number } in
      let at : ℕ = place + length f.head in
      let end : ℕ = at + length f.size + length f.contents in
      let to-is : place + length text ≡ end = omega arith in
      let there : IsIn scope end = subst (IsIn scope) to-is here in
      let opens = tag_again scope place tag true f.head (f.size ++ (f.contents ++ rest)) f.is_identifier small (omega arith) (in_before scope at end (omega arith) there) in
      let extent = extent_until scope at f.size (f.contents ++ rest) (length f.contents) f.is_length there in
      let spelled : Q scope.strict (scope.levels - 1) v f.contents = subst (λ (n : ℕ). Q scope.strict n v f.contents) (sym one_less) f.holds in
      let read = h.only (inside_until scope end) (at + length f.size) v f.contents rest spelled (in_until scope end there end (omega arith)) (record { by = refl }) in
      record {
        opened = o;
        spot = record { place = at; rest = f.size ++ (f.contents ++ rest) };
        first = hd.first;
        others = hd.others ++ (f.size ++ f.contents);
        begins = f.are ∙ ap (λ (x : List ℕ). x ++ (f.size ++ f.contents)) hd.are;
        some = hd.some;
        opens = ap (identifier_at scope place) whole ∙ opens;
        allowed = (refl, refl);
        reads = rw (expected tag true start small, extent) (read ∙ ap (λ (n : ℕ). Ok (v, record { place = n; rest = rest })) (omega arith));
      }

  marked_only : scope.strict ≡ false → IsIndefinite tag (λ c. Q scope.strict inner v c) text → ReadBack (OfTag tag) (constructed_at body tag) scope place text rest v
  marked_only lax f =
      let hd = head_some tag.class true tag.number f.head tagged f.is_identifier in
      let len : length text ≡ length f.head + (1 + (length f.contents + 2)) = ap length f.are ∙ length-append f.head (128 ∷ (f.contents ++ (0 ∷ 0 ∷ []))) ∙ ap (λ (n : ℕ). length f.head + suc n) (length-append f.contents (0 ∷ 0 ∷ [])) ∙ omega arith in
      let behind : List ℕ = f.contents ++ ((0 ∷ 0 ∷ []) ++ rest) in
      let whole : text ++ rest ≡ f.head ++ (128 ∷ behind) = ap (λ (x : List ℕ). x ++ rest) f.are ∙ regroup_marked f.head f.contents rest in
      let start : Spot = record { place = place; rest = f.head ++ (128 ∷ behind) } in
      let o : Opened = record { start = start; class = tag.class; constructed = true; number = tag.number } in
      let at : ℕ = place + length f.head in
      let end : ℕ = at + 1 + length f.contents in
      let to-is : place + length text ≡ end + 2 = omega arith in
      let there : IsIn scope (end + 2) = subst (IsIn scope) to-is here in
      let opens = tag_again scope place tag true f.head (128 ∷ behind) f.is_identifier small (omega arith) (in_before scope at (end + 2) (omega arith) there) in
      let extent = extent_marked scope at behind lax (in_before scope (at + 1) (end + 2) (omega arith) there) in
      let spelled : Q scope.strict (scope.levels - 1) v f.contents = subst (λ (n : ℕ). Q scope.strict n v f.contents) (sym one_less) f.holds in
      let read = h.only (inside scope) (at + 1) v f.contents rest spelled (in_marked scope end (in_before scope end (end + 2) (omega arith) there)) (record { by = in_marked scope (end + 2) there }) in
      record {
        opened = o;
        spot = record { place = at; rest = 128 ∷ behind };
        first = hd.first;
        others = hd.others ++ (128 ∷ (f.contents ++ (0 ∷ 0 ∷ [])));
        begins = f.are ∙ ap (λ (x : List ℕ). x ++ (128 ∷ (f.contents ++ (0 ∷ 0 ∷ [])))) hd.are;
        some = hd.some;
        opens = ap (identifier_at scope place) whole ∙ opens;
        allowed = (refl, refl);
        reads = rw (expected tag true start small, extent) (read ∙ ap (λ (n : ℕ). Ok (v, record { place = n; rest = rest })) (omega arith));
      }

pub constructed_only : {A : Type 0} (body : BodyOf A) (tag : tags.Tag) (Q : RelationOf A) → is_no_tag tag.class tag.number ≡ false → BodyOnly body Q → Only (OfTag tag) (constructed_at body tag) (ConstructedBy tag Q)
constructed_only body tag Q tagged h = record {
  only = λ scope place v text rest p here.
      elim p.form [
        | inl f ↦ until_only body tag Q h tagged scope place v text rest p.inner p.level p.small here f
        | inr f ↦ marked_only body tag Q h tagged scope place v text rest p.inner p.level p.small here f.0 f.1
      ];
}

-- ---- one value in constructed contents

abbrev pub explicit_body : Run → Body
explicit_body run scope s =
    look_at scope s.place s.rest >>= λ a. value_ahead a >>= λ f. run scope f.0 f.1 >>= λ v. close_at scope v.1 >>= λ after. Ok (v.0, after)

abbrev opening : Scope × Spot → Ahead → Reading (Scope × Opened × Spot)
opening x a = value_ahead a >>= λ f. Ok (x.0, f.0, f.1)

abbrev holding : Run → Scope × Opened × Spot → Reading (Value × Spot)
holding run o = run o.0 o.1 o.2 >>= λ v. close_at o.0 v.1 >>= λ after. Ok (v.0, after)

abbrev looking : Scope × Spot → Reading (Scope × Opened × Spot)
looking x = look_at x.0 x.1.place x.1.rest >>= opening x

by_look : (run : Run) (x : Scope × Spot) (a : Reading Ahead) → ((a >>= opening x) >>= holding run) ≡ (a >>= λ a. value_ahead a >>= λ f. run x.0 f.0 f.1 >>= λ v. close_at x.0 v.1 >>= λ after. Ok (v.0, after))
by_look run x (Ok (ended place after)) = refl
by_look run x (Ok (begun opened after)) = refl
by_look run x (Err e) = refl

by_extent : (run : Run) (r : Reading (Scope × Spot)) → ((r >>= looking) >>= holding run) ≡ (r >>= λ x. explicit_body run x.0 x.1)
by_extent run (Ok x) = by_look run x (look_at x.0 x.1.place x.1.rest)
by_extent run (Err e) = refl

by_expect : (run : Run) (scope : Scope) (s : Spot) (r : Reading (Unit {0})) → ((r >>= λ _. extent_at scope s.place s.rest >>= looking) >>= holding run) ≡ (r >>= λ _. extent_at scope s.place s.rest >>= λ x. explicit_body run x.0 x.1)
by_expect run scope s (Ok u) = by_extent run (extent_at scope s.place s.rest)
by_expect run scope s (Err e) = refl

pub explicit_is : (run : Run) (tag : tags.Tag) (scope : Scope) (o : Opened) (s : Spot) → explicit_at run tag scope o s ≡ constructed_at (explicit_body run) tag scope o s
unfolding explicit_at open_at
explicit_is run tag scope o s = by_expect run scope s (expect_at tag true o)

pub explicit_same : (run : Run) (tag : tags.Tag) → ◌≡◌ {A = Run} (constructed_at (explicit_body run) tag) (explicit_at run tag)
explicit_same run tag = λ i scope o s. sym (explicit_is run tag scope o s) i

pub first_begun : (a : Ahead) (f : Opened × Spot) → value_ahead a ≡ Ok f → a ≡ begun f.0 f.1
first_begun (ended place after) f e = absurd cc
first_begun (begun o s) f e = ap (λ (x : Opened × Spot). begun x.0 x.1) (ok_is (o, s) f e)

pub last_ended : (a : Ahead) (t : Spot) → end_ahead a ≡ Ok t → (place : ℕ) × (a ≡ ended place t)
last_ended (ended place after) t e = (place, ap (ended place) (ok_is after t e))
last_ended (begun o s) t e = absurd cc

pub close_found : (scope : Scope) (s to : Spot) → IsIn scope s.place → close_at scope s ≡ Ok to → EndFound scope s.place s.rest s.place to
unfolding close_at
close_found scope s to here e =
    let b = bind_ok (look_at scope s.place s.rest) end_ahead to e in
    let l = last_ended b.0 to b.2 in
    let f = look_found scope s.place s.rest b.0 here b.1 in
    let g : EndFound scope s.place s.rest l.0 to = subst (AheadFound scope s.place s.rest) l.1 f in
    record { place_is = refl; taken = g.taken; closes = g.closes; is_in = g.is_in }

pub explicit_found : (run : Run) (P : Relation) → Found run P → BodyFound (explicit_body run) P
explicit_found run P h = record {
  found = λ scope s v to octets here e.
      let b1 = bind_ok (look_at scope s.place s.rest) _ (v, to) e in
      let b2 = bind_ok (value_ahead b1.0) _ (v, to) b1.2 in
      let a-is = first_begun b1.0 b2.0 b2.1 in
      let f : BeginFound scope s.place s.rest b2.0.0 b2.0.1 = subst (AheadFound scope s.place s.rest) a-is (look_found scope s.place s.rest b1.0 here b1.1) in
      let b3 = bind_ok (run scope b2.0.0 b2.0.1) _ (v, to) b2.2 in
      let r = h.found scope s.place s.rest b2.0.0 b2.0.1 b3.0.0 b3.0.1 octets f.opens b3.1 in
      let b4 = bind_ok (close_at scope b3.0.1) _ (v, to) b3.2 in
      let c = close_found scope b3.0.1 b4.0 r.is_in b4.1 in
      let same = ok_is {A = Value × Spot} (b3.0.0, b4.0) (v, to) b4.2 in
      subst (λ (y : Value × Spot). ContentsAs P scope s.place s.rest y.0 y.1) same (record {
        contents = r.text;
        taken = taken_then s.place s.rest r.text (closing scope.marked) b3.0.1 b4.0 r.taken c.taken;
        spelled = r.spelled;
        closes = subst (Closes scope) r.taken.onward c.closes;
        is_in = c.is_in;
      });
}

pub close_again : (scope : Scope) (place : ℕ) (rest : List ℕ) → Closes scope place → close_at scope (record { place = place; rest = closing scope.marked ++ rest }) ≡ Ok (record { place = place + length (closing scope.marked); rest = rest })
unfolding close_at
close_again scope place rest h = rw (look_closed scope place rest h) refl

pub begun_again : {A : Type 0} (B : Class → ℕ → Type 0) (run : RunOf A) (scope : Scope) (place : ℕ) (text rest : List ℕ) (v : A) (r : ReadBack B run scope place text rest v) → IsIn scope (place + length text)
    → look_at scope place (text ++ rest) ≡ Ok (begun r.opened r.spot)
begun_again B run scope place text rest v r here =
    let shape : text ++ rest ≡ r.first ∷ (r.others ++ rest) = ap (λ (x : List ℕ). x ++ rest) r.begins in
    let some : place < place + length text = omega (arith, ap length r.begins) in
    ap (look_at scope place) shape ∙ look_begun scope place (place + length text) r.first (r.others ++ rest) r.opened r.spot r.some some here (ap (identifier_at scope place) (sym shape) ∙ r.opens)

pub explicit_only : (B : Class → ℕ → Type 0) (run : Run) (P : Relation) → Only B run P → BodyOnly (explicit_body run) P
explicit_only B run P h = record {
  only = λ scope place v contents rest p here closes.
      let r = h.only scope place v contents (closing scope.marked ++ rest) p here in
      rw (begun_again B run scope place contents (closing scope.marked ++ rest) v r here, r.reads, close_again scope (place + length contents) rest closes) refl;
}
