-- SEQUENCE and CHOICE: what is spelled so is read.
use Rattle.std.proofs.Common.{◌≡◌, ℕ, zero, suc, ◌+◌, true, false, List, [], ◌∷◌, ◌++◌, length, Option, Some, None, Ok, refl, sym, ap, ◌∙◌, subst, arith, append_assoc, length-append, inl, inr, ℤ}
use Rattle.std.proofs.lemmas.Bool.{or_parts}
use Rattle.std.specs.Prelude.{slice_get}
use Rattle.std.specs.List.{list_any}
use Rattle.asn1_types.specs.declared.row.Class.{Class}
use Rattle.asn1_types.specs.declared.row.Part.{Part}
use Rattle.asn1_types.specs.Defaults.{may_be_absent}
use Rattle.asn1_types.specs.Rows.{Opening}
use Rattle.asn1_types.specs.Table.{clash, clashes_in_sequence, agrees_later}
use Rattle.asn1_types.specs.Value.{Value, boolean, integer, null, octets, bits, object_id, text, parts, list, chosen, any, MaybeValues, no_parts, absent, present}
use Rattle.asn1_types.specs.ValueView.{parts_of}
use Rattle.ber_spelling.specs.declared.spot.Scope.{Scope}
use Rattle.ber_spelling.specs.Reading.{Spot, Opened, Ahead, ended, begun}
use Rattle.ber_spelling.specs.Fields.{look_at}
use Rattle.ber_spelling.specs.Rules.{Reader, is_part, part_at, parts_at, choice_at, bare, plain}
use Rattle.ber_spelling.specs.Spelling.{Spelled, PartIs, PartsAre, SequenceIs, ChoiceIs}
use Rattle.ber_spelling.proofs.Identifiers.{IsIn, in_before}
use Rattle.ber_spelling.proofs.Ends.{closing, Closes, look_closed}
use Rattle.ber_spelling.proofs.Steady.{ReadBack, Only}
use Rattle.ber_spelling.proofs.Constructed.{BodyOnly, begun_again}
use Rattle.ber_spelling.proofs.Sequences.{sequence_body}
use Rattle.ber_spelling.proofs.Distinct.{begins_by, RunAllows, AnyAllows, run_apart, apart}

abbrev pub list_of : MaybeValues → List (Option Value)
list_of no_parts = []
list_of (absent vs) = None ∷ list_of vs
list_of (present v vs) = Some v ∷ list_of vs

abbrev put_first : Option Value → MaybeValues → MaybeValues
put_first None vs = absent vs
put_first (Some v) vs = present v vs

pub parts_list : (vs : MaybeValues) → parts_of (list_of vs) ≡ vs
parts_list no_parts = refl
parts_list (absent vs) = ap absent (parts_list vs)
parts_list (present v vs) = ap (present v) (parts_list vs)

module _ (openings : ℕ → List Opening) (inner : ℕ → Reader) (rel : ℕ → Spelled) (h : (n : ℕ) (d : Option ℤ) → Only (λ c k. begins_by openings n c k ≡ true) (inner n (bare d)) (rel n (bare d))) where
  -- what stands ahead begins a part of the run
  abbrev pub Starts : List Part → Ahead → Type 0
  Starts ps (ended place after) = Unit {0}
  Starts ps (begun o s) = RunAllows openings o.class o.number ps

  pub record PartsBack (ps : List Part) (scope : Scope) (place : ℕ) (vs : MaybeValues) (contents rest : List ℕ) : Type 0 where
    pub ahead : Ahead
    pub looks : look_at scope place (contents ++ (closing scope.marked ++ rest)) ≡ Ok ahead
    pub starts : Starts ps ahead
    pub reads : parts_at (begins_by openings) inner scope ahead ps ≡ Ok (list_of vs, record { place = place + length contents + length (closing scope.marked); rest = rest })

  later : (p : Part) (ps : List Part) (a : Ahead) → may_be_absent p ≡ true → Starts ps a → Starts (p ∷ ps) a
  later p ps (ended place after) o s = tt
  later p ps (begun opened after) o s = inr (o, s)

  not_this : (p : Part) (ps : List Part) (a : Ahead) → may_be_absent p ≡ true → clashes_in_sequence (clash openings) (p ∷ ps) ≡ false → Starts ps a → is_part (begins_by openings) p a ≡ false
  not_this p ps (ended place after) o d s = refl
  not_this p ps (begun opened after) o d s = run_apart openings opened.class opened.number p ps o d s

  absent_reads : (q : Part) (qs : List Part) (scope : Scope) (a : Ahead) (vs : List (Option Value)) (to : Spot) → is_part (begins_by openings) q a ≡ false → may_be_absent q ≡ true
      → parts_at (begins_by openings) inner scope a qs ≡ Ok (vs, to) → parts_at (begins_by openings) inner scope a (q ∷ qs) ≡ Ok (None ∷ vs, to)
  unfolding parts_at part_at
  absent_reads q qs scope a vs to n o e = rw (n, o, e) refl

  -- what stands ahead of one part, and of those behind it
  pub record FirstBack (q : Part) (qs : List Part) (scope : Scope) (place : ℕ) (o : Option Value) (vs : MaybeValues) (contents rest : List ℕ) : Type 0 where
    pub ahead : Ahead
    pub looks : look_at scope place (contents ++ (closing scope.marked ++ rest)) ≡ Ok ahead
    pub starts : Starts (q ∷ qs) ahead
    pub reads : parts_at (begins_by openings) inner scope ahead (q ∷ qs) ≡ Ok (o ∷ list_of vs, record { place = place + length contents + length (closing scope.marked); rest = rest })

  first_back : (q : Part) (qs : List Part) → clashes_in_sequence (clash openings) (q ∷ qs) ≡ false → (scope : Scope) (place : ℕ) (o : Option Value) (vs : MaybeValues) (first others contents rest : List ℕ) → contents ≡ first ++ others
      → PartIs (rel q.inner.0) scope.strict scope.levels q o first → IsIn scope (place + length contents) → Closes scope (place + length contents)
      → ((mid : ℕ) → IsIn scope (mid + length others) → Closes scope (mid + length others) → PartsBack qs scope mid vs others rest) → FirstBack q qs scope place o vs contents rest
  unfolding parts_at part_at
  first_back q qs d scope place o vs first others contents rest are (inl x) here closes behind =
      let same : contents ≡ others = are ∙ ap (λ (c : List ℕ). c ++ others) x.2 in
      let there : place + length contents ≡ place + length others = ap (λ (c : List ℕ). place + length c) same in
      let ih = behind place (subst (IsIn scope) there here) (subst (Closes scope) there closes) in
      record {
        ahead = ih.ahead;
        looks = ap (λ (c : List ℕ). look_at scope place (c ++ (closing scope.marked ++ rest))) same ∙ ih.looks;
        starts = later q qs ih.ahead x.0 ih.starts;
        reads = absent_reads q qs scope ih.ahead (list_of vs) _ (not_this q qs ih.ahead x.0 d ih.starts) x.0 ih.reads
            ∙ (λ i. Ok (sym x.1 i ∷ list_of vs, record { place = sym there i + length (closing scope.marked); rest = rest }));
      }
  first_back q qs d scope place o vs first others contents rest are (inr x) here closes behind =
      let v : Value = x.0 in
      let len : length contents ≡ length first + length others = ap length are ∙ length-append first others in
      let mid : ℕ = place + length first in
      let there : place + length contents ≡ mid + length others = omega arith in
      let ih = behind mid (subst (IsIn scope) there here) (subst (Closes scope) there closes) in
      let r = (h q.inner.0 q.default).only scope place v first (others ++ (closing scope.marked ++ rest)) x.2 (in_before scope mid (place + length contents) (omega arith) here) in
      let looked = begun_again (λ c k. begins_by openings q.inner.0 c k ≡ true) (inner q.inner.0 (bare q.default)) scope place first (others ++ (closing scope.marked ++ rest)) v r (in_before scope mid (place + length contents) (omega arith) here) in
      let whole : contents ++ (closing scope.marked ++ rest) ≡ first ++ (others ++ (closing scope.marked ++ rest)) = ap (λ (c : List ℕ). c ++ (closing scope.marked ++ rest)) are ∙ append_assoc first others (closing scope.marked ++ rest) in
      record {
        ahead = begun r.opened r.spot;
        looks = ap (look_at scope place) whole ∙ looked;
        starts = inl r.allowed;
        reads = rw (r.allowed, r.reads, ih.looks, ih.reads) (λ i. Ok (x.1 i ∷ list_of vs, record { place = sym there i + length (closing scope.marked); rest = rest }));
      }

  -- a part, in its place in the list
  first_only : (q : Part) (qs : List Part) → clashes_in_sequence (clash openings) (q ∷ qs) ≡ false → (scope : Scope) (place : ℕ) (o : Option Value) (vs : MaybeValues) (first others contents rest : List ℕ) → contents ≡ first ++ others
      → PartIs (rel q.inner.0) scope.strict scope.levels q o first → IsIn scope (place + length contents) → Closes scope (place + length contents)
      → ((mid : ℕ) → IsIn scope (mid + length others) → Closes scope (mid + length others) → PartsBack qs scope mid vs others rest) → PartsBack (q ∷ qs) scope place (put_first o vs) contents rest
  first_only q qs d scope place None vs first others contents rest are x here closes behind =
      let f = first_back q qs d scope place None vs first others contents rest are x here closes behind in
      record { ahead = f.ahead; looks = f.looks; starts = f.starts; reads = f.reads }
  first_only q qs d scope place (Some v) vs first others contents rest are x here closes behind =
      let f = first_back q qs d scope place (Some v) vs first others contents rest are x here closes behind in
      record { ahead = f.ahead; looks = f.looks; starts = f.starts; reads = f.reads }

  pub parts_only : (ps : List Part) → clashes_in_sequence (clash openings) ps ≡ false → (scope : Scope) (place : ℕ) (vs : MaybeValues) (contents rest : List ℕ)
      → PartsAre rel scope.strict scope.levels ps vs contents → IsIn scope (place + length contents) → Closes scope (place + length contents) → PartsBack ps scope place vs contents rest
  unfolding parts_at part_at
  parts_only [] d scope place no_parts contents rest p here closes =
      let none : (place + length contents ≡ place) = omega (arith, ap length p) in
      let closed = look_closed scope place rest (subst (Closes scope) none closes) in
      record {
        ahead = ended place (record { place = place + length (closing scope.marked); rest = rest });
        looks = ap (λ (c : List ℕ). look_at scope place (c ++ (closing scope.marked ++ rest))) p ∙ closed;
        starts = tt;
        reads = ap (λ (n : ℕ). Ok ([], record { place = n + length (closing scope.marked); rest = rest })) (sym none);
      }
  parts_only [] d scope place (absent vs) contents rest p here closes = absurd p
  parts_only [] d scope place (present v vs) contents rest p here closes = absurd p
  parts_only (q ∷ qs) d scope place no_parts contents rest p here closes = absurd p
  parts_only (q ∷ qs) d scope place (absent vs) contents rest p here closes =
      let t = or_parts _ (clashes_in_sequence (clash openings) qs) d in
      first_only q qs d scope place None vs p.0 p.1 contents rest p.2 p.3 here closes (λ mid i c. parts_only qs t.1 scope mid vs p.1 rest p.4 i c)
  parts_only (q ∷ qs) d scope place (present v vs) contents rest p here closes =
      let t = or_parts _ (clashes_in_sequence (clash openings) qs) d in
      first_only q qs d scope place (Some v) vs p.0 p.1 contents rest p.2 p.3 here closes (λ mid i c. parts_only qs t.1 scope mid vs p.1 rest p.4 i c)

  pub sequence_only : (ps : List Part) → clashes_in_sequence (clash openings) ps ≡ false → BodyOnly (sequence_body (begins_by openings) inner ps) (λ strict levels v c. SequenceIs rel strict ps v levels c)
  sequence_only ps d = record { only = λ scope place v contents rest p here closes. by_value ps d scope place v contents rest p here closes }
    where
      by_value : (ps : List Part) → clashes_in_sequence (clash openings) ps ≡ false → (scope : Scope) (place : ℕ) (v : Value) (contents rest : List ℕ) → SequenceIs rel scope.strict ps v scope.levels contents → IsIn scope (place + length contents) → Closes scope (place + length contents)
          → sequence_body (begins_by openings) inner ps scope (record { place = place; rest = contents ++ (closing scope.marked ++ rest) }) ≡ Ok (v, record { place = place + length contents + length (closing scope.marked); rest = rest })
      by_value ps d scope place (parts vs) contents rest p here closes =
          let b = parts_only ps d scope place vs contents rest p here closes in
          rw (b.looks, b.reads) (ap (λ (x : MaybeValues). Ok (parts x, record { place = place + length contents + length (closing scope.marked); rest = rest })) (parts_list vs))
      by_value ps d scope place (boolean x) contents rest p here closes = absurd p
      by_value ps d scope place (integer x) contents rest p here closes = absurd p
      by_value ps d scope place null contents rest p here closes = absurd p
      by_value ps d scope place (octets x) contents rest p here closes = absurd p
      by_value ps d scope place (bits x n) contents rest p here closes = absurd p
      by_value ps d scope place (object_id x) contents rest p here closes = absurd p
      by_value ps d scope place (text x) contents rest p here closes = absurd p
      by_value ps d scope place (list x) contents rest p here closes = absurd p
      by_value ps d scope place (chosen n x) contents rest p here closes = absurd p
      by_value ps d scope place (any x) contents rest p here closes = absurd p

  -- ---- CHOICE

  pub not_before : (c : Class) (k : ℕ) (p : Part) (ps : List Part) (i : ℕ) (q : Part) → list_any (clash openings p) ps ≡ false → slice_get ps i ≡ Some q → begins_by openings q.inner.0 c k ≡ true → begins_by openings p.inner.0 c k ≡ false
  not_before c k p [] i q d g b = absurd cc
  not_before c k p (r ∷ ps) zero q d g b =
      let same : r ≡ q = cc in
      apart openings c k p r (or_parts (clash openings p r) _ d).0 (subst (λ (x : Part). begins_by openings x.inner.0 c k ≡ true) (sym same) b)
  not_before c k p (r ∷ ps) (suc i) q d g b = not_before c k p ps i q (or_parts (clash openings p r) _ d).1 g b

  pub any_allows : (c : Class) (k : ℕ) (ps : List Part) (i : ℕ) (q : Part) → slice_get ps i ≡ Some q → begins_by openings q.inner.0 c k ≡ true → AnyAllows openings ps c k
  any_allows c k [] i q g b = absurd cc
  any_allows c k (r ∷ ps) zero q g b = let same : r ≡ q = cc in inl (subst (λ (x : Part). begins_by openings x.inner.0 c k ≡ true) (sym same) b)
  any_allows c k (r ∷ ps) (suc i) q g b = inr (any_allows c k ps i q g b)

  chosen_reads : (ps : List Part) → agrees_later (clash openings) ps ≡ false → (which i : ℕ) (q : Part) → slice_get ps i ≡ Some q → (scope : Scope) (o : Opened) (s : Spot) (v : Value) (to : Spot)
      → begins_by openings q.inner.0 o.class o.number ≡ true → inner q.inner.0 plain scope o s ≡ Ok (v, to) → choice_at (begins_by openings) inner which ps scope o s ≡ Ok (chosen (which + i) v, to)
  unfolding choice_at
  chosen_reads [] d which i q g scope o s v to b e = absurd cc
  chosen_reads (r ∷ ps) d which zero q g scope o s v to b e =
      let same : q ≡ r = cc in
      let b' : begins_by openings r.inner.0 o.class o.number ≡ true = subst (λ (x : Part). begins_by openings x.inner.0 o.class o.number ≡ true) same b in
      let e' : inner r.inner.0 plain scope o s ≡ Ok (v, to) = subst (λ (x : Part). inner x.inner.0 plain scope o s ≡ Ok (v, to)) same e in
      rw (b', e') (let here : which ≡ which + 0 = omega arith in ap (λ (n : ℕ). Ok (chosen n v, to)) here)
  chosen_reads (r ∷ ps) d which (suc i) q g scope o s v to b e =
      let t = or_parts (list_any (clash openings r) ps) (agrees_later (clash openings) ps) d in
      rw (not_before o.class o.number r ps i q t.0 g b)
      (chosen_reads ps t.1 (suc which) i q g scope o s v to b e ∙ (let next : suc which + i ≡ which + suc i = omega arith in ap (λ (n : ℕ). Ok (chosen n v, to)) next))

  pub choice_only : (ps : List Part) → agrees_later (clash openings) ps ≡ false → Only (AnyAllows openings ps) (choice_at (begins_by openings) inner 0 ps) (ChoiceIs rel ps)
  choice_only ps d = record { only = λ scope place v text rest p here. by_value ps d scope place v text rest p here }
    where
      by_value : (ps : List Part) → agrees_later (clash openings) ps ≡ false → (scope : Scope) (place : ℕ) (v : Value) (spelled rest : List ℕ) → ChoiceIs rel ps scope.strict scope.levels v spelled → IsIn scope (place + length spelled)
          → ReadBack (AnyAllows openings ps) (choice_at (begins_by openings) inner 0 ps) scope place spelled rest v
      by_value ps d scope place (chosen which v) spelled rest p here =
          let q : Part = p.0 in
          let r = (h q.inner.0 None).only scope place v spelled rest p.2 here in
          record {
            opened = r.opened;
            spot = r.spot;
            first = r.first;
            others = r.others;
            begins = r.begins;
            some = r.some;
            opens = r.opens;
            allowed = any_allows r.opened.class r.opened.number ps which q p.1 r.allowed;
            reads = chosen_reads ps d 0 which q p.1 scope r.opened r.spot v (record { place = place + length spelled; rest = rest }) r.allowed r.reads ∙ (let none : 0 + which ≡ which = omega arith in ap (λ (n : ℕ). Ok (chosen n v, record { place = place + length spelled; rest = rest })) none);
          }
      by_value ps d scope place (boolean x) spelled rest p here = absurd p
      by_value ps d scope place (integer x) spelled rest p here = absurd p
      by_value ps d scope place null spelled rest p here = absurd p
      by_value ps d scope place (octets x) spelled rest p here = absurd p
      by_value ps d scope place (bits x n) spelled rest p here = absurd p
      by_value ps d scope place (object_id x) spelled rest p here = absurd p
      by_value ps d scope place (text x) spelled rest p here = absurd p
      by_value ps d scope place (parts x) spelled rest p here = absurd p
      by_value ps d scope place (list x) spelled rest p here = absurd p
      by_value ps d scope place (any x) spelled rest p here = absurd p
