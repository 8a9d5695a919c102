-- What is written of a SET whose parts are spelled is spelled so.
use Rattle.std.proofs.Common.{◌≡◌, ◌≢◌, ℕ, zero, suc, ◌+◌, ◌^◌, ◌<◌, ◌≤◌, Bool, true, false, cond, List, [], ◌∷◌, ◌++◌, length, Option, Some, None, refl, sym, ap, ◌∙◌, subst, arith, length-append, ◌⊎◌, inl, inr, ℤ}
use Rattle.std.specs.Prelude.{slice_get, slice_set, nat_lt, nat_eq}
use Rattle.std.specs.List.{list_any}
use Rattle.std.proofs.lemmas.Bool.{cases_lt, lt-ltb, le-ltb, eqb-true, eqb-false, ne_eqb, or_parts}
use Rattle.std.proofs.lemmas.List.{append-nil}
use Rattle.asn1_types.specs.declared.row.Class.{Class}
use Rattle.asn1_types.specs.declared.row.Part.{Part}
use Rattle.asn1_types.specs.Defaults.{may_be_absent, is_default}
use Rattle.asn1_types.specs.Rows.{Opening}
use Rattle.asn1_types.specs.Table.{clash, agrees_later}
use Rattle.asn1_types.specs.Value.{Value, parts, MaybeValues, no_parts, absent, present}
use Rattle.asn1_types.specs.ValueView.{parts_of, empty_slots}
use Rattle.ber_spelling.specs.Order.{Filled}
use Rattle.ber_spelling.specs.Rules.{nothing_filled, is_filled, bare, settled}
use Rattle.ber_spelling.specs.Spelling.{Spelled, Steps, SetStep, SetIs}
use Rattle.asn1_types.specs.Writing.{Writer, parts_contents, of_rank, risen_parts, set_parts}
use Rattle.asn1_types.specs.Tags.{rank, ranks, front_rank}
use Rattle.ber_spelling.proofs.Steady.{eqb_itself}
use Rattle.ber_spelling.proofs.SequencesBack.{list_of, parts_list}
use Rattle.ber_spelling.proofs.Distinct.{begins_by, apart}
use Rattle.ber_spelling.proofs.Orders.{front_below, rank_is}

-- a text begins with a tag that a row allows
pub record Told (openings : ℕ → List Opening) (m : ℕ) (s : List ℕ) : Type 0 where
  pub class : Class
  pub number : ℕ
  pub allowed : begins_by openings m class number ≡ true
  pub small : number ≤ 2 ^ 32
  pub rank_is : front_rank s ≡ rank class number

module _ (write : ℕ → Writer) (rel : ℕ → Spelled) (strict : Bool) (levels : ℕ) where
  -- each part that stands is spelled as it is written
  abbrev pub AllSpelled : List Part → MaybeValues → Type 0
  AllSpelled [] no_parts = Unit {0}
  AllSpelled (p ∷ ps) (absent vs) = (may_be_absent p ≡ true) × AllSpelled ps vs
  AllSpelled (p ∷ ps) (present v vs) = rel p.inner.0 (bare p.default) strict levels v (write p.inner.0 None v) × AllSpelled ps vs × (is_default p.default v ≡ false)
  AllSpelled ps vs = ⊥

module _ (openings : ℕ → List Opening) (write : ℕ → Writer) (rel : ℕ → Spelled) (strict : Bool) (levels : ℕ)
    (told : (m : ℕ) (d : Option ℤ) (v : Value) (s : List ℕ) → rel m (bare d) strict levels v s → Told openings m s)
  where
    -- the parts whose tag has a rank below k
    abbrev below : ℕ → List Part → MaybeValues → List (Option Value)
    below k [] vs = []
    below k (p ∷ ps) no_parts = []
    below k (p ∷ ps) (absent vs) = None ∷ below k ps vs
    below k (p ∷ ps) (present v vs) = cond (nat_lt (front_rank (write p.inner.0 None v)) k) (Some v) None ∷ below k ps vs

    record Adds (k : ℕ) (ps : List Part) (vs : MaybeValues) : Type 0 where
      which : ℕ
      part : Part
      v : Value
      there : slice_get ps which ≡ Some part
      free : slice_get (below k ps vs) which ≡ Some None
      spelled : rel part.inner.0 (bare part.default) strict levels v (parts_contents (of_rank k write) ps vs)
      ranked : front_rank (parts_contents (of_rank k write) ps vs) ≡ k
      after : below (suc k) ps vs ≡ slice_set (below k ps vs) which (Some v)

    record Stays (k : ℕ) (ps : List Part) (vs : MaybeValues) : Type 0 where
      nothing : parts_contents (of_rank k write) ps vs ≡ []
      same : below (suc k) ps vs ≡ below k ps vs

    -- two parts have two tags
    no_two : (p q : Part) (ps : List Part) (i : ℕ) (v w : Value) (a b : List ℕ) → list_any (clash openings p) ps ≡ false → slice_get ps i ≡ Some q → rel p.inner.0 (bare p.default) strict levels v a → rel q.inner.0 (bare q.default) strict levels w b → front_rank a ≡ front_rank b → ⊥
    no_two p q [] i v w a b d g x y e = absurd cc
    no_two p q (r ∷ ps) zero v w a b d g x y e =
        let same : r ≡ q = cc in
        let s = told p.inner.0 p.default v a x in
        let t = told q.inner.0 q.default w b y in
        let one = rank_is s.class t.class s.number t.number s.small t.small (sym s.rank_is ∙ e ∙ t.rank_is) in
        let both : begins_by openings r.inner.0 s.class s.number ≡ true = subst (λ (z : Part × (Class × ℕ)). begins_by openings z.0.inner.0 z.1.0 z.1.1 ≡ true) (λ i. (sym same i, (sym one.0 i, sym one.1 i))) t.allowed in
        let free : begins_by openings p.inner.0 s.class s.number ≡ false = apart openings s.class s.number p r (or_parts (clash openings p r) _ d).0 both in
        let wrong : true ≡ false = sym s.allowed ∙ free in
        absurd cc
    no_two p q (r ∷ ps) (suc i) v w a b d g x y e = no_two p q ps i v w a b (or_parts (clash openings p r) _ d).1 g x y e

    here_adds : (k : ℕ) (p : Part) (ps : List Part) (v : Value) (vs : MaybeValues) → front_rank (write p.inner.0 None v) ≡ k → rel p.inner.0 (bare p.default) strict levels v (write p.inner.0 None v) → Stays k ps vs → Adds k (p ∷ ps) (present v vs)
    here_adds k p ps v vs e x s =
        let w : List ℕ = write p.inner.0 None v in
        let own : nat_eq (front_rank w) k ≡ true = ap (λ (n : ℕ). nat_eq n k) e ∙ eqb_itself k in
        let text : parts_contents (of_rank k write) (p ∷ ps) (present v vs) ≡ w = ap (λ (b : Bool). cond b w [] ++ parts_contents (of_rank k write) ps vs) own ∙ ap (λ (z : List ℕ). w ++ z) s.nothing ∙ append-nil w in
        let not_yet : nat_lt (front_rank w) k ≡ false = le-ltb (front_rank w) k (omega arith) in
        let now : nat_lt (front_rank w) (suc k) ≡ true = lt-ltb (front_rank w) (suc k) (omega arith) in
        record {
          which = 0;
          part = p;
          v = v;
          there = refl;
          free = ap (λ (b : Bool). slice_get (cond b (Some v) None ∷ below k ps vs) 0) not_yet;
          spelled = subst (λ (z : List ℕ). rel p.inner.0 (bare p.default) strict levels v z) (sym text) x;
          ranked = ap front_rank text ∙ e;
          after = ap (λ (b : Bool). cond b (Some v) None ∷ below (suc k) ps vs) now ∙ ap (λ (l : List (Option Value)). Some v ∷ l) s.same ∙ ap (λ (b : Bool). slice_set (cond b (Some v) None ∷ below k ps vs) 0 (Some v)) (sym not_yet);
        }

    -- a part of another rank in front
    other_first : (k : ℕ) (p : Part) (v : Value) → front_rank (write p.inner.0 None v) ≢ k
        → (nat_eq (front_rank (write p.inner.0 None v)) k ≡ false) × (nat_lt (front_rank (write p.inner.0 None v)) (suc k) ≡ nat_lt (front_rank (write p.inner.0 None v)) k)
    other_first k p v ne =
        let r : ℕ = front_rank (write p.inner.0 None v) in (
          ne_eq r k ne,
          elim (cases_lt r k) [
            | inl lt ↦ lt-ltb r (suc k) (omega arith) ∙ sym (lt-ltb r k lt)
            | inr ge ↦ le-ltb r (suc k) (omega arith) ∙ sym (le-ltb r k ge)
          ],
        )
      where
        ne_eq : (r k : ℕ) → r ≢ k → nat_eq r k ≡ false
        ne_eq r k ne = ne_eqb r k ne

    one_more : (k : ℕ) (ps : List Part) (vs : MaybeValues) → AllSpelled write rel strict levels ps vs → agrees_later (clash openings) ps ≡ false → Stays k ps vs ⊎ Adds k ps vs
    one_more k [] no_parts h d = inl (record { nothing = refl; same = refl })
    one_more k [] (absent vs) h d = absurd h
    one_more k [] (present v vs) h d = absurd h
    one_more k (p ∷ ps) no_parts h d = absurd h
    one_more k (p ∷ ps) (absent vs) h d =
        elim (one_more k ps vs h.1 (or_parts (list_any (clash openings p) ps) (agrees_later (clash openings) ps) d).1) [
          | inl s ↦ inl (record { nothing = s.nothing; same = ap (λ (l : List (Option Value)). None ∷ l) s.same })
          | inr a ↦ inr (record { which = suc a.which; part = a.part; v = a.v; there = a.there; free = a.free; spelled = a.spelled; ranked = a.ranked; after = ap (λ (l : List (Option Value)). None ∷ l) a.after })
        ]
    one_more k (p ∷ ps) (present v vs) h d = by_rank (nat_eq (front_rank (write p.inner.0 None v)) k) refl (one_more k ps vs h.1 t.1)
      where
        t : (list_any (clash openings p) ps ≡ false) × (agrees_later (clash openings) ps ≡ false)
        t = or_parts (list_any (clash openings p) ps) (agrees_later (clash openings) ps) d

        by_rank : (b : Bool) → nat_eq (front_rank (write p.inner.0 None v)) k ≡ b → Stays k ps vs ⊎ Adds k ps vs → Stays k (p ∷ ps) (present v vs) ⊎ Adds k (p ∷ ps) (present v vs)
        by_rank true e (inl s) = inr (here_adds k p ps v vs (eqb-true (front_rank (write p.inner.0 None v)) k e) h.0 s)
        by_rank true e (inr a) = absurd (no_two p a.part ps a.which v a.v (write p.inner.0 None v) (parts_contents (of_rank k write) ps vs) t.0 a.there h.0 a.spelled (eqb-true (front_rank (write p.inner.0 None v)) k e ∙ sym a.ranked))
        by_rank false e (inl s) =
            let f = other_first k p v (eqb-false (front_rank (write p.inner.0 None v)) k e) in
            inl (record {
              nothing = ap (λ (b : Bool). cond b (write p.inner.0 None v) [] ++ parts_contents (of_rank k write) ps vs) f.0 ∙ s.nothing;
              same = ap (λ (b : Bool). cond b (Some v) None ∷ below (suc k) ps vs) f.1 ∙ ap (λ (l : List (Option Value)). cond (nat_lt (front_rank (write p.inner.0 None v)) k) (Some v) None ∷ l) s.same;
            })
        by_rank false e (inr a) =
            let f = other_first k p v (eqb-false (front_rank (write p.inner.0 None v)) k e) in
            let text : parts_contents (of_rank k write) (p ∷ ps) (present v vs) ≡ parts_contents (of_rank k write) ps vs = ap (λ (b : Bool). cond b (write p.inner.0 None v) [] ++ parts_contents (of_rank k write) ps vs) f.0 in
            inr (record {
              which = suc a.which;
              part = a.part;
              v = a.v;
              there = a.there;
              free = a.free;
              spelled = subst (λ (z : List ℕ). rel a.part.inner.0 (bare a.part.default) strict levels a.v z) (sym text) a.spelled;
              ranked = ap front_rank text ∙ a.ranked;
              after = ap (λ (b : Bool). cond b (Some v) None ∷ below (suc k) ps vs) f.1 ∙ ap (λ (l : List (Option Value)). cond (nat_lt (front_rank (write p.inner.0 None v)) k) (Some v) None ∷ l) a.after;
            })

    abbrev filled : ℕ → ℕ → List Part → MaybeValues → Filled
    filled least k ps vs = record { found = below k ps vs; least = least }

    abbrev Go : List Part → List (List ℕ × Filled) → Filled → Filled → List ℕ → Type 0
    Go ps steps a b text = Steps (λ x y spelled. SetStep rel ps x strict levels y spelled) steps a b text

    risen_steps : (many k least : ℕ) (ps : List Part) (vs : MaybeValues) → AllSpelled write rel strict levels ps vs → agrees_later (clash openings) ps ≡ false → least ≤ k
        → (steps : List (List ℕ × Filled)) × (last : ℕ) × Go ps steps (filled least k ps vs) (filled last (k + many) ps vs) (risen_parts write many k ps vs)
    unfolding risen_parts
    risen_steps zero k least ps vs h d le = let same : k ≡ k + 0 = omega arith in ([], least, (ap (λ (n : ℕ). filled least n ps vs) same, refl))
    risen_steps (suc many) k least ps vs h d le =
        let up : suc k + many ≡ k + suc many = omega arith in
        elim (one_more k ps vs h d) [
          | inl s ↦
              let more = risen_steps many (suc k) least ps vs h d (omega arith) in
              let begin : filled least (suc k) ps vs ≡ filled least k ps vs = ap (λ (l : List (Option Value)). record { found = l; least = least }) s.same in
              let text : risen_parts write many (suc k) ps vs ≡ parts_contents (of_rank k write) ps vs ++ risen_parts write many (suc k) ps vs = ap (λ (z : List ℕ). z ++ risen_parts write many (suc k) ps vs) (sym s.nothing) in
              (more.0, more.1, subst (λ (z : Filled × (Filled × List ℕ)). Go ps more.0 z.0 z.1.0 z.1.1) (λ i. (begin i, (filled more.1 (up i) ps vs, text i))) more.2)
          | inr a ↦
              let more = risen_steps many (suc k) (suc k) ps vs h d (omega arith) in
              let w : List ℕ = parts_contents (of_rank k write) ps vs in
              let order : strict ≡ true → least ≤ front_rank w = λ s. (let e = a.ranked in omega arith) in
              let after : filled (suc k) (suc k) ps vs ≡ record { found = slice_set (below k ps vs) a.which (Some a.v); least = front_rank w + 1 } =
              (let e : suc k ≡ front_rank w + 1 = let r = a.ranked in omega arith in λ i. record { found = a.after i; least = e i }) in (
                (w, filled (suc k) (suc k) ps vs) ∷ more.0,
                more.1,
                (
                  risen_parts write many (suc k) ps vs,
                  refl,
                  (a.which, a.part, a.v, a.there, a.free, a.spelled, order, after),
                  subst (λ (n : ℕ). Go ps more.0 (filled (suc k) (suc k) ps vs) (filled more.1 n ps vs) (risen_parts write many (suc k) ps vs)) up more.2,
                ),
              )
        ]

    none_below : (ps : List Part) (vs : MaybeValues) → AllSpelled write rel strict levels ps vs → below 0 ps vs ≡ empty_slots ps
    none_below [] no_parts h = refl
    none_below [] (absent vs) h = absurd h
    none_below [] (present v vs) h = absurd h
    none_below (p ∷ ps) no_parts h = absurd h
    none_below (p ∷ ps) (absent vs) h = ap (λ (l : List (Option Value)). None ∷ l) (none_below ps vs h.1)
    none_below (p ∷ ps) (present v vs) h =
        ap (λ (b : Bool). cond b (Some v) None ∷ below 0 ps vs) (le-ltb (front_rank (write p.inner.0 None v)) 0 (omega arith)) ∙ ap (λ (l : List (Option Value)). None ∷ l) (none_below ps vs h.1)

    all_below : (total : ℕ) → ((s : List ℕ) → front_rank s < total) → (ps : List Part) (vs : MaybeValues) → AllSpelled write rel strict levels ps vs → below total ps vs ≡ list_of vs
    all_below total lt [] no_parts h = refl
    all_below total lt [] (absent vs) h = absurd h
    all_below total lt [] (present v vs) h = absurd h
    all_below total lt (p ∷ ps) no_parts h = absurd h
    all_below total lt (p ∷ ps) (absent vs) h = ap (λ (l : List (Option Value)). None ∷ l) (all_below total lt ps vs h.1)
    all_below total lt (p ∷ ps) (present v vs) h =
        ap (λ (b : Bool). cond b (Some v) None ∷ below total ps vs) (lt-ltb (front_rank (write p.inner.0 None v)) total (lt (write p.inner.0 None v))) ∙ ap (λ (l : List (Option Value)). Some v ∷ l) (all_below total lt ps vs h.1)

    all_filled : (ps : List Part) (vs : MaybeValues) → AllSpelled write rel strict levels ps vs → is_filled ps (list_of vs) ≡ true
    all_filled [] no_parts h = refl
    all_filled [] (absent vs) h = absurd h
    all_filled [] (present v vs) h = absurd h
    all_filled (p ∷ ps) no_parts h = absurd h
    all_filled (p ∷ ps) (absent vs) h = rw (h.0, all_filled ps vs h.1) refl
    all_filled (p ∷ ps) (present v vs) h = all_filled ps vs h.1

    -- no part has its default's value
    all_settled : (ps : List Part) (vs : MaybeValues) → AllSpelled write rel strict levels ps vs → settled ps (list_of vs) ≡ list_of vs
    all_settled [] no_parts h = refl
    all_settled [] (absent vs) h = absurd h
    all_settled [] (present v vs) h = absurd h
    all_settled (p ∷ ps) no_parts h = absurd h
    all_settled (p ∷ ps) (absent vs) h = ap (λ (l : List (Option Value)). None ∷ l) (all_settled ps vs h.1)
    all_settled (p ∷ ps) (present v vs) h = rw h.2 (ap (λ (l : List (Option Value)). Some v ∷ l) (all_settled ps vs h.1))

    risen_is : (total : ℕ) → ((s : List ℕ) → front_rank s < total) → (ps : List Part) (vs : MaybeValues) → AllSpelled write rel strict levels ps vs → agrees_later (clash openings) ps ≡ false → SetIs rel ps strict (parts vs) levels (risen_parts write total 0 ps vs)
    risen_is total lt ps vs h d =
        let s = risen_steps total 0 0 ps vs h d (omega arith) in
        let up : 0 + total ≡ total = omega arith in
        let begin : filled 0 0 ps vs ≡ nothing_filled ps = ap (λ (l : List (Option Value)). record { found = l; least = 0 }) (none_below ps vs h) in
        let all : below (0 + total) ps vs ≡ list_of vs = ap (λ (n : ℕ). below n ps vs) up ∙ all_below total lt ps vs h in
        let full : is_filled ps (below (0 + total) ps vs) ≡ true = ap (is_filled ps) all ∙ all_filled ps vs h in
        let value : parts_of (settled ps (below (0 + total) ps vs)) ≡ vs = ap (λ (l : List (Option Value)). parts_of (settled ps l)) all ∙ ap parts_of (all_settled ps vs h) ∙ parts_list vs in
        (filled s.1 (0 + total) ps vs, rw full (ap (λ (x : MaybeValues). Some (parts x)) value), s.0, subst (λ (z : Filled). Go ps s.0 z (filled s.1 (0 + total) ps vs) (risen_parts write total 0 ps vs)) begin s.2)

    pub set_is : (ps : List Part) (vs : MaybeValues) → AllSpelled write rel strict levels ps vs → agrees_later (clash openings) ps ≡ false → SetIs rel ps strict (parts vs) levels (set_parts write ps vs)
    unfolding set_parts
    set_is ps vs h d = risen_is ranks front_below ps vs h d

-- ---- each part is no longer than all are

module _ (write : ℕ → Writer) where
  ranked_short : (k most many least : ℕ) (ps : List Part) (vs : MaybeValues) → least ≤ k → k < least + many → length (risen_parts write many least ps vs) < most → length (parts_contents (of_rank k write) ps vs) < most
  unfolding risen_parts
  ranked_short k most zero least ps vs ge lt short = absurd (omega arith)
  ranked_short k most (suc many) least ps vs ge lt short =
      let len = length-append (parts_contents (of_rank least write) ps vs) (risen_parts write many (suc least) ps vs) in
      elim (cases_lt least k) [
        | inl l ↦ ranked_short k most many (suc least) ps vs (omega arith) (omega arith) (omega arith)
        | inr g ↦ let same : least ≡ k = omega arith in subst (λ (n : ℕ). length (parts_contents (of_rank n write) ps vs) < most) same (omega arith)
      ]

  pub set_short : (k most : ℕ) (ps : List Part) (vs : MaybeValues) → k < 2 ^ 35 → length (set_parts write ps vs) < most → length (parts_contents (of_rank k write) ps vs) < most
  unfolding set_parts
  set_short k most ps vs lt short = ranked_short k most ranks 0 ps vs (omega arith) (omega arith) short

  abbrev pub AllShort : ℕ → List Part → MaybeValues → Type 0
  AllShort most ps vs = (k : ℕ) → k < 2 ^ 35 → length (parts_contents (of_rank k write) ps vs) < most

  pub first_short : (most : ℕ) (p : Part) (ps : List Part) (v : Value) (vs : MaybeValues) → AllShort most (p ∷ ps) (present v vs) → length (write p.inner.0 None v) < most
  first_short most p ps v vs h =
      let w : List ℕ = write p.inner.0 None v in
      let k : ℕ = front_rank w in
      let short : length (parts_contents (of_rank k write) (p ∷ ps) (present v vs)) < most = h k (front_below w) in
      let text : length (parts_contents (of_rank k write) (p ∷ ps) (present v vs)) ≡ length w + length (parts_contents (of_rank k write) ps vs) =
      ap (λ (b : Bool). length (cond b w [] ++ parts_contents (of_rank k write) ps vs)) (eqb_itself k) ∙ length-append w (parts_contents (of_rank k write) ps vs) in
      omega arith

  pub rest_short : (most : ℕ) (p : Part) (ps : List Part) (v : Value) (vs : MaybeValues) → AllShort most (p ∷ ps) (present v vs) → AllShort most ps vs
  rest_short most p ps v vs h k lt =
      let front : List ℕ = cond (nat_eq (front_rank (write p.inner.0 None v)) k) (write p.inner.0 None v) [] in
      let short : length (front ++ parts_contents (of_rank k write) ps vs) < most = h k lt in
      omega (arith, length-append front (parts_contents (of_rank k write) ps vs))
