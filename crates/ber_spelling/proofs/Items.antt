-- Values one after the other: what is read is spelled so, what is spelled so is read, and it stays so.
use Rattle.std.proofs.Common.{◌≡◌, ℕ, zero, suc, ◌+◌, ◌≤◌, ◌<◌, Bool, true, List, [], ◌∷◌, ◌++◌, length, Option, Some, None, Ok, refl, sym, ap, ◌∙◌, subst, arith, append_assoc, length-append}
use Rattle.asn1_types.specs.declared.row.Class.{Class}
use Rattle.ber_spelling.specs.declared.spot.Scope.{Scope}
use Rattle.asn1_types.specs.declared.row.Tag as tags
use Rattle.osi_base.specs.Octets.{AreOctets}
use Rattle.ber_spelling.specs.Reading.{Spot, Opened, Ahead, ended, begun, Reading}
use Rattle.ber_spelling.specs.Fields.{extent_at, look_at}
use Rattle.ber_spelling.specs.Rules.{expect_at, constructed_at, finish, item_at, items_at, all_items_at}
use Rattle.ber_spelling.specs.Spelling.{Steps, ItemsAre}
use Rattle.ber_spelling.proofs.Identifiers.{IsIn, in_before, Taken, bind_ok, ok_is, done}
use Rattle.ber_spelling.proofs.Ends.{closing, Closes, EndFound, BeginFound, look_found, look_closed}
use Rattle.ber_spelling.proofs.Steady.{RunOf, Found, Only, taken_octets, taken_then}
use Rattle.ber_spelling.proofs.Constructed.{BodyOf, ContentsAs, BodyFound, BodyOnly, begun_again}
use Rattle.ber_spelling.proofs.Growing.{grown, grown_opened, grown_ahead, Grows, Grows-bind, Grows-same, with_spot, extent_grows, look_grows}

finish_is : {T : Type 0} (place : ℕ) (o : Option T) (x : T) → finish place o ≡ Ok x → o ≡ Some x
finish_is place None x e = absurd cc
finish_is place (Some y) x e = ap (λ z. Some z) (ok_is y x e)

finish_again : {T : Type 0} (place : ℕ) (o : Option T) (x : T) → o ≡ Some x → finish place o ≡ Ok x
finish_again place o x e = ap (finish place) e

abbrev Step : Type 0 → Type 0
Step S = S → Scope → Opened → Spot → Reading (S × Spot)

abbrev Goes : Type 0 → Type 1
Goes S = S → Bool → ℕ → S → List ℕ → Type 0

-- ---- what is read is spelled so

abbrev Later : {S T : Type 0} → Step S → (S → Option T) → Goes S → ℕ → Scope → T → Spot → Type 0
Later {S} step done R turns scope v to =
    (next : S) (m : Spot) → AreOctets m.rest → IsIn scope m.place → items_at step done turns next scope m ≡ Ok (v, to) → ContentsAs (ItemsAre done R next) scope m.place m.rest v to

item_found : {S T : Type 0} (step : Step S) (done : S → Option T) (R : Goes S) → ((a : S) → Found (step a) (R a)) → (turns : ℕ) (first : S) (scope : Scope) (s : Spot) (v : T) (to : Spot) → AreOctets s.rest → IsIn scope s.place
    → Later step done R turns scope v to → (a : Ahead) → look_at scope s.place s.rest ≡ Ok a → item_at step done (λ next after. items_at step done turns next scope after) first scope a ≡ Ok (v, to)
    → ContentsAs (ItemsAre done R first) scope s.place s.rest v to
item_found {S} {T} step done R h turns first scope s v to are here later (ended at after) look e =
    let f : EndFound scope s.place s.rest at after = look_found scope s.place s.rest (ended at after) here look in
    let b = bind_ok (finish at (done first)) (λ x. Ok (x, after)) (v, to) e in
    let same = ok_is {A = T × Spot} (b.0, after) (v, to) b.2 in
    let full : done first ≡ Some v = finish_is at (done first) b.0 b.1 ∙ ap (λ (x : T × Spot). Some x.0) same in
    subst (λ (y : Spot). ContentsAs (ItemsAre done R first) scope s.place s.rest v y) (ap (λ (x : T × Spot). x.1) same) (record {
      contents = [];
      taken = f.taken;
      spelled = (first, full, [], (refl, refl));
      closes = subst (Closes scope) (omega arith) f.closes;
      is_in = f.is_in;
    })
item_found {S} {T} step done R h turns first scope s v to are here later (begun o t) look e =
    let f : BeginFound scope s.place s.rest o t = look_found scope s.place s.rest (begun o t) here look in
    let b = bind_ok (step first scope o t) (λ x. items_at step done turns x.0 scope x.1) (v, to) e in
    let next : S = b.0.0 in
    let mid : Spot = b.0.1 in
    let r = (h first).found scope s.place s.rest o t next mid are f.opens b.1 in
    let c = later next mid (taken_octets s.place s.rest r.text mid r.taken are) r.is_in b.2 in
    record {
      contents = r.text ++ c.contents;
      taken = subst (λ (y : List ℕ). Taken s.place s.rest y to) (sym (append_assoc r.text c.contents (closing scope.marked))) (taken_then s.place s.rest r.text (c.contents ++ closing scope.marked) mid to r.taken c.taken);
      spelled = (c.spelled.0, c.spelled.1, (r.text, next) ∷ c.spelled.2, (c.contents, refl, r.spelled, c.spelled.3));
      closes = subst (Closes scope) (omega (arith, r.taken.onward, length-append r.text c.contents)) c.closes;
      is_in = c.is_in;
    }

pub items_found : {S T : Type 0} (step : Step S) (done : S → Option T) (R : Goes S) → ((a : S) → Found (step a) (R a)) → (turns : ℕ) (first : S) (scope : Scope) (s : Spot) (v : T) (to : Spot) → AreOctets s.rest → IsIn scope s.place
    → items_at step done turns first scope s ≡ Ok (v, to) → ContentsAs (ItemsAre done R first) scope s.place s.rest v to
unfolding items_at
items_found step done R h zero first scope s v to are here e = absurd cc
items_found step done R h (suc turns) first scope s v to are here e =
    let b = bind_ok (look_at scope s.place s.rest) (λ a. item_at step done (λ next after. items_at step done turns next scope after) first scope a) (v, to) e in
    item_found step done R h turns first scope s v to are here (λ next m o i g. items_found step done R h turns next scope m v to o i g) b.0 b.1 b.2

pub all_found : {S T : Type 0} (step : Step S) (done : S → Option T) (R : Goes S) (first : S) → ((a : S) → Found (step a) (R a)) → BodyFound (all_items_at step done first) (ItemsAre done R first)
all_found step done R first h = record { found = λ scope s v to are here e. items_found step done R h (suc (length s.rest)) first scope s v to are here e }

-- ---- what is spelled so is read

pub items_only : {S T : Type 0} (B : Class → ℕ → Type 0) (step : Step S) (done : S → Option T) (R : Goes S) → ((a : S) → Only B (step a) (R a)) → (turns : ℕ) (steps : List (List ℕ × S)) (first last : S) (scope : Scope) (place : ℕ) (v : T) (contents rest : List ℕ)
    → done last ≡ Some v → Steps (λ a b text. R a scope.strict scope.levels b text) steps first last contents → IsIn scope (place + length contents) → Closes scope (place + length contents) → length contents < turns
    → items_at step done turns first scope (record { place = place; rest = contents ++ (closing scope.marked ++ rest) }) ≡ Ok (v, record { place = place + length contents + length (closing scope.marked); rest = rest })
unfolding items_at
items_only B step done R h zero steps first last scope place v contents rest d p here closes lt = absurd (omega arith)
items_only {S} {T} B step done R h (suc turns) [] first last scope place v contents rest d p here closes lt =
    let none : (place + length contents ≡ place) = omega (arith, ap length p.1) in
    let closed = look_closed scope place rest (subst (Closes scope) none closes) in
    let looks : look_at scope place (contents ++ (closing scope.marked ++ rest)) ≡ Ok (ended place (record { place = place + length (closing scope.marked); rest = rest })) = ap (λ (c : List ℕ). look_at scope place (c ++ (closing scope.marked ++ rest))) p.1 ∙ closed in
    let full : done first ≡ Some v = ap done p.0 ∙ d in
    rw (looks, full) (ap (λ (n : ℕ). Ok (v, record { place = n + length (closing scope.marked); rest = rest })) (sym none))
items_only {S} {T} B step done R h (suc turns) (s ∷ more) first last scope place v contents rest d p here closes lt =
    let others : List ℕ = p.0 in
    let len : length contents ≡ length s.0 + length others = ap length p.1 ∙ length-append s.0 others in
    let mid : ℕ = place + length s.0 in
    let there : place + length contents ≡ mid + length others = omega arith in
    let r = (h first).only scope place s.1 s.0 (others ++ (closing scope.marked ++ rest)) p.2 (in_before scope mid (place + length contents) (omega arith) here) in
    let some : length s.0 ≡ suc (length r.others) = ap length r.begins in
    let ih = items_only B step done R h turns more s.1 last scope mid v others rest d p.3 (subst (IsIn scope) there here) (subst (Closes scope) there closes) (omega arith) in
    let looked = begun_again B (step first) scope place s.0 (others ++ (closing scope.marked ++ rest)) s.1 r (in_before scope mid (place + length contents) (omega arith) here) in
    let whole : contents ++ (closing scope.marked ++ rest) ≡ s.0 ++ (others ++ (closing scope.marked ++ rest)) = ap (λ (c : List ℕ). c ++ (closing scope.marked ++ rest)) p.1 ∙ append_assoc s.0 others (closing scope.marked ++ rest) in
    let looks : look_at scope place (contents ++ (closing scope.marked ++ rest)) ≡ Ok (begun r.opened r.spot) = ap (look_at scope place) whole ∙ looked in
    rw (looks, r.reads) (ih ∙ ap (λ (n : ℕ). Ok (v, record { place = n + length (closing scope.marked); rest = rest })) (sym there))

pub all_only : {S T : Type 0} (B : Class → ℕ → Type 0) (step : Step S) (done : S → Option T) (R : Goes S) (first : S) → ((a : S) → Only B (step a) (R a)) → BodyOnly (all_items_at step done first) (ItemsAre done R first)
all_only B step done R first h = record {
  only = λ scope place v contents rest p here closes.
      items_only B step done R h (suc (length (contents ++ (closing scope.marked ++ rest)))) p.2 first p.0 scope place v contents rest p.1 p.3 here closes (omega (arith, length-append contents (closing scope.marked ++ rest)));
}

-- ---- it stays so

pub record GrowsRun {A : Type 0} (r : RunOf A) : Type 0 where
  pub grows : (scope : Scope) (o : Opened) (s : Spot) (more : List ℕ) → Grows (with_spot more) (r scope o s) (r scope (grown_opened more o) (grown more s))

pub record GrowsBody {A : Type 0} (b : BodyOf A) : Type 0 where
  pub grows : (scope : Scope) (s : Spot) (more : List ℕ) → Grows (with_spot more) (b scope s) (b scope (grown more s))

pub constructed_grows : {A : Type 0} (body : BodyOf A) (tag : tags.Tag) → GrowsBody body → GrowsRun (constructed_at body tag)
constructed_grows body tag h = record {
  grows = λ scope o s more.
      Grows-same (with_spot more) (expect_at tag true o) _ _ (λ u e.
      Grows-bind (with_spot more) (with_spot more) (extent_at scope s.place s.rest) (extent_at scope s.place (s.rest ++ more)) _ _ (extent_grows scope s.place s.rest more) (λ x e. h.grows x.0 x.1 more));
}

module _ {S T : Type 0} (step : Step S) (done : S → Option T) (h : (a : S) → GrowsRun (step a)) where
  item_grows : (k l : ℕ) (first : S) (scope : Scope) (more : List ℕ)
      → ((next : S) (s : Spot) → Grows (with_spot more) (items_at step done k next scope s) (items_at step done l next scope (grown more s))) → (a : Ahead)
      → Grows (with_spot more) (item_at step done (λ next after. items_at step done k next scope after) first scope a) (item_at step done (λ next after. items_at step done l next scope after) first scope (grown_ahead more a))
  item_grows k l first scope more ih (ended place after) = Grows-same (with_spot more) (finish place (done first)) _ _ (λ x e. refl)
  item_grows k l first scope more ih (begun o t) =
      Grows-bind (with_spot more) (with_spot more) (step first scope o t) (step first scope (grown_opened more o) (grown more t)) _ _ ((h first).grows scope o t more) (λ x e. ih x.0 x.1)

  pub items_grow : (k l : ℕ) → k ≤ l → (first : S) (scope : Scope) (s : Spot) (more : List ℕ) → Grows (with_spot more) (items_at step done k first scope s) (items_at step done l first scope (grown more s))
  unfolding items_at
  items_grow zero l le first scope s more = tt
  items_grow (suc k) zero le first scope s more = absurd (omega arith)
  items_grow (suc k) (suc l) le first scope s more =
      Grows-bind (grown_ahead more) (with_spot more) (look_at scope s.place s.rest) (look_at scope s.place (s.rest ++ more)) _ _ (look_grows scope s.place s.rest more) (λ a e.
      item_grows k l first scope more (λ next m. items_grow k l (omega arith) next scope m more) a)

  pub all_grow : (first : S) → GrowsBody (all_items_at step done first)
  all_grow first = record { grows = λ scope s more. items_grow (suc (length s.rest)) (suc (length (s.rest ++ more))) (omega (arith, length-append s.rest more)) first scope s more }
