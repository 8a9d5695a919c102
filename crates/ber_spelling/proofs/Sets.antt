-- SET: what is read is spelled so, what is spelled so is read, and it stays so.
use Rattle.std.proofs.Common.{◌≡◌, ℕ, zero, suc, ◌+◌, ◌≤◌, Bool, true, false, ◌&&◌, List, [], ◌∷◌, ◌++◌, length, Option, Some, None, Ok, Err, refl, sym, ap, ◌∙◌, subst, arith, inl, inr, ℤ}
use Rattle.std.specs.Prelude.{slice_get, slice_set, nat_lt}
use Rattle.std.specs.List.{list_any}
use Rattle.std.proofs.lemmas.Bool.{ltb-false, le-ltb, or_parts}
use Rattle.osi_base.specs.declared.layer_words.Kind.TheVariants.{Extra, Form}
use Rattle.asn1_types.specs.declared.row.Part.{Part}
use Rattle.asn1_types.specs.Rows.{Opening}
use Rattle.asn1_types.specs.Table.{clash, agrees_later}
use Rattle.asn1_types.specs.Value.{Value}
use Rattle.asn1_types.specs.Tags.{rank, front_rank}
use Rattle.ber_spelling.specs.declared.fault.ReadFault.TheVariants as faults
use Rattle.ber_spelling.specs.declared.spot.Scope.{Scope}
use Rattle.ber_spelling.specs.Reading.{Spot, Opened}
use Rattle.ber_spelling.specs.Fields.{identifier_at}
use Rattle.ber_spelling.specs.Order.{Filled}
use Rattle.ber_spelling.specs.Rules.{Reader, all_items_at, alone, cut_behind, late_kind, ordered_at, is_free, filled_by, fill_at, slot_at, set_done, nothing_filled, Guise, bare}
use Rattle.ber_spelling.specs.Spelling.{Spelled, SetStep, ItemsAre}
use Rattle.ber_spelling.proofs.Identifiers.{bind_ok, chosen_ok, unless_ok, ok_is, done}
use Rattle.ber_spelling.proofs.Steady.{Run, ReadAs, Found, Only}
use Rattle.ber_spelling.proofs.Constructed.{BodyFound, BodyOnly}
use Rattle.ber_spelling.proofs.Sequences.{Begins}
use Rattle.ber_spelling.proofs.SequencesBack.{not_before, any_allows}
use Rattle.ber_spelling.proofs.Distinct.{begins_by, AnyAllows}
use Rattle.ber_spelling.proofs.Items.{all_found, all_only, all_grow, GrowsRun, GrowsBody}
use Rattle.ber_spelling.proofs.Growing.{grown, grown_opened, Grows-bind, Grows-cond, with_spot}
use Rattle.ber_spelling.proofs.Orders.{front_read}
use Rattle.ber_spelling.proofs.Heads.{Headed, AreHeaded, headed_rank}

free_is : (o : Option (Option Value)) → is_free o ≡ true → o ≡ Some None
free_is None e = absurd cc
free_is (Some None) e = refl
free_is (Some (Some v)) e = absurd cc

risen : (strict : Bool) (r least : ℕ) → (strict && nat_lt r least) ≡ false → strict ≡ true → least ≤ r
risen true r least e s = ltb-false r least e
risen false r least e s = absurd cc

in_order : (strict : Bool) (r least : ℕ) → (strict ≡ true → least ≤ r) → (strict && nat_lt r least) ≡ false
in_order true r least h = le-ltb r least (h refl)
in_order false r least h = refl

-- the rank of a text that was read at an identifier
read_rank : (scope : Scope) (place : ℕ) (whole text rest : List ℕ) (o : Opened) (s : Spot) → identifier_at scope place whole ≡ Ok (o, s) → whole ≡ text ++ rest → Headed text → front_rank text ≡ rank o.class o.number
read_rank scope place whole text rest o s opens parts h = sym (headed_rank text rest h) ∙ ap front_rank (sym parts) ∙ front_read scope place whole o s opens

-- ---- what is read is spelled so

module _ (begins : Begins) (inner : ℕ → Reader) (rel : ℕ → Spelled) (h : (n : ℕ) (t : Guise) → Found (inner n t) (rel n t)) (heads : (n : ℕ) → AreHeaded (rel n)) where
  fill_found : (all : List Part) (p : Part) (which : ℕ) (before : Filled) → slice_get all which ≡ Some p → Found (fill_at (inner p.inner.0 (bare p.default)) which before) (SetStep rel all before)
  fill_found all p which before there = record {
    found = λ scope place rest o s w to are opens e.
        elim (chosen_ok (is_free (slice_get before.found which)) _ _ (w, to) e) [
          | inl t ↦
              let b = bind_ok (ordered_at (inner p.inner.0 (bare p.default)) before.least scope o s) (λ v. Ok (filled_by which o before v.0, v.1)) (w, to) t.1 in
              let same = ok_is {A = Filled × Spot} (filled_by which o before b.0.0, b.0.1) (w, to) b.2 in
              let u = unless_ok (scope.strict && nat_lt (rank o.class o.number) before.least) (faults.NotSpelled o.start.place (late_kind Form (inner p.inner.0 (bare p.default) scope (alone o s) (cut_behind s)))) (inner p.inner.0 (bare p.default) scope o s) b.0 b.1 in
              let r = (h p.inner.0 (bare p.default)).found scope place rest o s b.0.0 b.0.1 are opens u.1 in
              let ranked : front_rank r.text ≡ rank o.class o.number = read_rank scope place rest r.text b.0.1.rest o s opens r.taken.parts ((heads p.inner.0).is (bare p.default) scope.strict scope.levels b.0.0 r.text r.spelled) in
              let order : scope.strict ≡ true → before.least ≤ front_rank r.text = λ strict. (let le = risen scope.strict (rank o.class o.number) before.least u.0 strict in rw ranked le) in
              subst (λ (y : Filled × Spot). ReadAs (SetStep rel all before) scope place rest y.0 y.1) same (record {
                text = r.text;
                taken = r.taken;
                spelled = (which, p, b.0.0, there, free_is (slice_get before.found which) t.0, r.spelled, order, ap (λ (n : ℕ). record { found = slice_set before.found which (Some b.0.0); least = n + 1 }) (sym ranked));
                is_in = r.is_in;
              })
          | inr t ↦ absurd (let wrong : Err (faults.NotSpelled o.start.place (late_kind Extra (inner p.inner.0 (bare p.default) scope (alone o s) (cut_behind s)))) ≡ done {A = Filled × Spot} (w, to) = t.1 in cc)
        ];
  }

  pub slot_found : (all ps : List Part) (which : ℕ) (before : Filled) → ((i : ℕ) (p : Part) → slice_get ps i ≡ Some p → slice_get all (which + i) ≡ Some p)
      → Found (slot_at begins inner which ps before) (SetStep rel all before)
  unfolding slot_at
  slot_found all [] which before there = record { found = λ scope place rest o s w to are opens e. absurd (let wrong : Err (faults.NotSpelled o.start.place Extra) ≡ done {A = Filled × Spot} (w, to) = e in cc) }
  slot_found all (p ∷ ps) which before there = record {
    found = λ scope place rest o s w to are opens e.
        elim (chosen_ok (begins p.inner.0 o.class o.number) _ _ (w, to) e) [
          | inl t ↦ (fill_found all p which before (let zero_is : which ≡ which + 0 = omega arith in ap (slice_get all) zero_is ∙ there 0 p refl)).found scope place rest o s w to are opens t.1
          | inr t ↦ (slot_found all ps (suc which) before (λ i q g. let next_is : suc which + i ≡ which + suc i = omega arith in ap (slice_get all) next_is ∙ there (suc i) q g)).found scope place rest o s w to are opens t.1
        ];
  }

  pub set_found : (ps : List Part) → BodyFound (all_items_at (slot_at begins inner 0 ps) (set_done ps) (nothing_filled ps)) (ItemsAre (set_done ps) (SetStep rel ps) (nothing_filled ps))
  set_found ps = all_found (slot_at begins inner 0 ps) (set_done ps) (SetStep rel ps) (nothing_filled ps) (λ before. slot_found ps ps 0 before (λ i p e. let none : 0 + i ≡ i = omega arith in ap (slice_get ps) none ∙ e))

-- ---- what is spelled so is read

fill_reads : (reader : Run) (which : ℕ) (before : Filled) (scope : Scope) (o : Opened) (s : Spot) (v : Value) (to : Spot) → slice_get before.found which ≡ Some None → (scope.strict ≡ true → before.least ≤ rank o.class o.number)
    → reader scope o s ≡ Ok (v, to) → fill_at reader which before scope o s ≡ Ok (filled_by which o before v, to)
fill_reads reader which before scope o s v to free order read =
    let late = in_order scope.strict (rank o.class o.number) before.least order in
    rw (free, late, read) refl

module _ (openings : ℕ → List Opening) (inner : ℕ → Reader) (rel : ℕ → Spelled) (h : (n : ℕ) (d : Option ℤ) → Only (λ c k. begins_by openings n c k ≡ true) (inner n (bare d)) (rel n (bare d))) (heads : (n : ℕ) → AreHeaded (rel n)) where
  slot_reads : (ps : List Part) → agrees_later (clash openings) ps ≡ false → (which i : ℕ) (q : Part) → slice_get ps i ≡ Some q → (before : Filled) (scope : Scope) (o : Opened) (s : Spot) (v : Value) (to : Spot)
      → begins_by openings q.inner.0 o.class o.number ≡ true → slice_get before.found (which + i) ≡ Some None → (scope.strict ≡ true → before.least ≤ rank o.class o.number) → inner q.inner.0 (bare q.default) scope o s ≡ Ok (v, to)
      → slot_at (begins_by openings) inner which ps before scope o s ≡ Ok (filled_by (which + i) o before v, to)
  unfolding slot_at
  slot_reads [] d which i q g before scope o s v to b free order e = absurd cc
  slot_reads (r ∷ ps) d which zero q g before scope o s v to b free order e =
      let same : q ≡ r = cc in
      let b' : begins_by openings r.inner.0 o.class o.number ≡ true = subst (λ (x : Part). begins_by openings x.inner.0 o.class o.number ≡ true) same b in
      let e' : inner r.inner.0 (bare r.default) scope o s ≡ Ok (v, to) = subst (λ (x : Part). inner x.inner.0 (bare x.default) scope o s ≡ Ok (v, to)) same e in
      let here : which + 0 ≡ which = omega arith in
      let free' : slice_get before.found which ≡ Some None = ap (slice_get before.found) (sym here) ∙ free in
      rw b' (fill_reads (inner r.inner.0 (bare r.default)) which before scope o s v to free' order e' ∙ ap (λ (n : ℕ). Ok (filled_by n o before v, to)) (sym here))
  slot_reads (r ∷ ps) d which (suc i) q g before scope o s v to b free order e =
      let t = or_parts (list_any (clash openings r) ps) (agrees_later (clash openings) ps) d in
      let next : suc which + i ≡ which + suc i = omega arith in
      rw (not_before openings inner rel h o.class o.number r ps i q t.0 g b)
      (slot_reads ps t.1 (suc which) i q g before scope o s v to b (ap (slice_get before.found) next ∙ free) order e ∙ ap (λ (n : ℕ). Ok (filled_by n o before v, to)) next)

  pub slot_only : (ps : List Part) → agrees_later (clash openings) ps ≡ false → (before : Filled) → Only (AnyAllows openings ps) (slot_at (begins_by openings) inner 0 ps before) (SetStep rel ps before)
  slot_only ps d before = record {
    only = λ scope place after text rest p here.
        let which : ℕ = p.0 in
        let q : Part = p.1 in
        let v : Value = p.2 in
        let r = (h q.inner.0 q.default).only scope place v text rest p.5 here in
        let ranked : front_rank text ≡ rank r.opened.class r.opened.number = read_rank scope place (text ++ rest) text rest r.opened r.spot r.opens refl ((heads q.inner.0).is (bare q.default) scope.strict scope.levels v text p.5) in
        let order : scope.strict ≡ true → before.least ≤ rank r.opened.class r.opened.number = λ strict. (let le = p.6 strict in rw (← ranked) le) in
        let after-is : filled_by which r.opened before v ≡ after = ap (λ (n : ℕ). record { found = slice_set before.found which (Some v); least = n + 1 }) (sym ranked) ∙ sym p.7 in
        record {
          opened = r.opened;
          spot = r.spot;
          first = r.first;
          others = r.others;
          begins = r.begins;
          some = r.some;
          opens = r.opens;
          allowed = any_allows openings inner rel h r.opened.class r.opened.number ps which q p.3 r.allowed;
          reads = slot_reads ps d 0 which q p.3 before scope r.opened r.spot v (record { place = place + length text; rest = rest }) r.allowed (let none : 0 + which ≡ which = omega arith in ap (slice_get before.found) none ∙ p.4) order r.reads
              ∙ (let none : 0 + which ≡ which = omega arith in ap (λ (n : ℕ). Ok (filled_by n r.opened before v, record { place = place + length text; rest = rest })) none)
              ∙ ap (λ (w : Filled). Ok (w, record { place = place + length text; rest = rest })) after-is;
        };
  }

  pub set_only : (ps : List Part) → agrees_later (clash openings) ps ≡ false
      → BodyOnly (all_items_at (slot_at (begins_by openings) inner 0 ps) (set_done ps) (nothing_filled ps)) (ItemsAre (set_done ps) (SetStep rel ps) (nothing_filled ps))
  set_only ps d = all_only (AnyAllows openings ps) (slot_at (begins_by openings) inner 0 ps) (set_done ps) (SetStep rel ps) (nothing_filled ps) (λ before. slot_only ps d before)

-- ---- it stays so

module _ (begins : Begins) (inner : ℕ → Reader) (h : (n : ℕ) (t : Guise) → GrowsRun (inner n t)) where
  fill_grows : (n : ℕ) (g : Guise) (which : ℕ) (before : Filled) → GrowsRun (fill_at (inner n g) which before)
  fill_grows n g which before = record {
    grows = λ scope o s more.
        Grows-cond (with_spot more) (is_free (slice_get before.found which)) _ _ _ _
        (λ t. Grows-bind (with_spot more) (with_spot more) (ordered_at (inner n g) before.least scope o s) (ordered_at (inner n g) before.least scope (grown_opened more o) (grown more s)) _ _
        (Grows-cond (with_spot more) (scope.strict && nat_lt (rank o.class o.number) before.least) _ _ _ _ (λ u. refl) (λ u. (h n g).grows scope o s more))
        (λ v e. refl))
        (λ t. refl);
  }

  pub slot_grows : (which : ℕ) (ps : List Part) (before : Filled) → GrowsRun (slot_at begins inner which ps before)
  unfolding slot_at
  slot_grows which [] before = record { grows = λ scope o s more. refl }
  slot_grows which (p ∷ ps) before = record {
    grows = λ scope o s more.
        Grows-cond (with_spot more) (begins p.inner.0 o.class o.number) _ _ _ _
        (λ t. (fill_grows p.inner.0 (bare p.default) which before).grows scope o s more)
        (λ t. (slot_grows (suc which) ps before).grows scope o s more);
  }

  pub set_grows : (ps : List Part) → GrowsBody (all_items_at (slot_at begins inner 0 ps) (set_done ps) (nothing_filled ps))
  set_grows ps = all_grow (slot_at begins inner 0 ps) (set_done ps) (λ before. slot_grows 0 ps before) (nothing_filled ps)
