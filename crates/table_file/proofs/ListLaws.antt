-- Lists: what is written comes back item by item, and what is read was written so.
use Rattle.std.proofs.Common.{◌≡◌, ℕ, zero, suc, ◌+◌, ◌^◌, ◌≤◌, ◌<◌, List, [], ◌∷◌, ◌++◌, length, Option, Some, None, Ok, refl, sym, ap, ◌∙◌, subst, append_assoc, arith}
use Rattle.std.specs.List.{flat_map}
use Rattle.std.proofs.lemmas.List.{append-nil}
use Rattle.byteorder.specs.Endian.{big_bytes}
use Rattle.osi_base.specs.Octets.{AreOctets}
use Rattle.packed_codec.specs.Reading.{Spot}
use Rattle.table_file.specs.Reading.{Reading, fold_at}
use Rattle.table_file.specs.Fields.{counted_at, many_at}
use Rattle.table_file.specs.RowParts.{joined, joins, list_at}
use Rattle.table_file.specs.Files.{list_file}
use Rattle.table_file.specs.Sound.{Along, Each, sum_of, counted_in}
use Rattle.table_file.proofs.Spots.{at, Comes, comes_here, then_comes, comes_from, Went, went_then, went_as, went_octets, bind_ok, ok_is}
use Rattle.table_file.proofs.FieldLaws.{counted_back, counted_found}

module _ {A X : Type 0} (step : A → Spot → Reading (A × Spot)) (inj : List X → A) (W : X → List ℕ) (C : X → ℕ) (V : List X → X → Type 0) where
  abbrev pub StepBack : Type 0
  StepBack = (before : List X) (x : X) (p l : ℕ) (more : List ℕ) → V before x → C x + l ≤ 131072 → Comes (step (inj before) (at p (W x ++ more) (C x + l))) (inj (before ++ x ∷ [])) more l

  pub fold_back : StepBack → (xs before : List X) (p l : ℕ) (more : List ℕ) → Along V before xs → sum_of C xs + l ≤ 131072
      → Comes (fold_at step (length xs) (inj before) (at p (flat_map W xs ++ more) (sum_of C xs + l))) (inj (before ++ xs)) more l
  unfolding fold_at
  fold_back h [] before p l more v few =
      let zero_and : 0 + l ≡ l = omega arith in
      record { place = p; is = ap (λ (k : ℕ). Ok (inj before, at p more k)) zero_and ∙ ap (λ (y : List X). Ok (inj y, at p more l)) (sym (append-nil before)) }
  fold_back h (x ∷ xs) before p l more v few =
      let next : (before ++ x ∷ []) ++ xs ≡ before ++ (x ∷ xs) = append_assoc before (x ∷ []) xs in
      let few_x : C x + (sum_of C xs + l) ≤ 131072 = omega (arith, few) in
      let few_xs : sum_of C xs + l ≤ 131072 = omega (arith, few) in
      let sums : C x + sum_of C xs + l ≡ C x + (sum_of C xs + l) = omega arith in
      subst (λ (y : List X). Comes (fold_at step (length (x ∷ xs)) (inj before) (at p (flat_map W (x ∷ xs) ++ more) (C x + sum_of C xs + l))) (inj y) more l) next
      (comes_from (fold_at step (length (x ∷ xs)) (inj before)) (inj ((before ++ x ∷ []) ++ xs)) p ((W x ++ flat_map W xs) ++ more) (W x ++ (flat_map W xs ++ more)) more
      (C x + sum_of C xs + l) (C x + (sum_of C xs + l)) l (append_assoc (W x) (flat_map W xs) more) sums
      (then_comes (step (inj before) (at p (W x ++ (flat_map W xs ++ more)) (C x + (sum_of C xs + l)))) (λ y. fold_at step (length xs) y.0 y.1)
      (inj (before ++ x ∷ [])) (inj ((before ++ x ∷ []) ++ xs)) (flat_map W xs ++ more) more (sum_of C xs + l) l
      (h before x p (sum_of C xs + l) (flat_map W xs ++ more) v.0 few_x)
      (λ q. fold_back h xs (before ++ x ∷ []) q l more v.1 few_xs)))

  -- one more, and so many more
  pub record OneMore (before ys : List X) (s t : Spot) : Type 0 where
    pub one : X
    pub joined_to : ys ≡ before ++ one ∷ []
    pub stands : V before one
    pub went : Went (W one) (C one) s t

  pub record ManyMore (n : ℕ) (before ys : List X) (s t : Spot) : Type 0 where
    pub many : List X
    pub joined_to : ys ≡ before ++ many
    pub count : length many ≡ n
    pub stand : Along V before many
    pub went : Went (flat_map W many) (sum_of C many) s t

  abbrev pub StepFound : Type 0
  StepFound = (before ys : List X) (s t : Spot) → AreOctets s.rest → step (inj before) s ≡ Ok (inj ys, t) → OneMore before ys s t

  -- what is no list stays none
  abbrev pub IsAlive : Type 0
  IsAlive = (a : A) (n : ℕ) (ys : List X) (s t : Spot) → fold_at step n a s ≡ Ok (inj ys, t) → (zs : List X) × (a ≡ inj zs)

  abbrev pub IsOne : Type 0
  IsOne = (a b : List X) → inj a ≡ inj b → a ≡ b

  pub fold_found : StepFound → IsAlive → IsOne → (n : ℕ) (before ys : List X) (s t : Spot) → AreOctets s.rest → fold_at step n (inj before) s ≡ Ok (inj ys, t) → ManyMore n before ys s t
  unfolding fold_at
  fold_found h alive one zero before ys s t are e =
      let same = ok_is {A = A × Spot} (inj before, s) (inj ys, t) e in
      let is : before ≡ ys = one before ys (ap (λ (y : A × Spot). y.0) same) in
      record {
        many = [];
        joined_to = sym (append-nil before ∙ is);
        count = refl;
        stand = tt;
        went = subst (λ (y : Spot). Went [] 0 s y) (ap (λ (y : A × Spot). y.1) same) (record { rest = refl; left = omega arith });
      }
  fold_found h alive one (suc n) before ys s t are e =
      let b = bind_ok (step (inj before) s) (λ x. fold_at step n x.0 x.1) (inj ys, t) e in
      let z = alive b.0.0 n ys b.0.1 t b.2 in
      let stepped : step (inj before) s ≡ Ok (inj z.0, b.0.1) = b.1 ∙ ap (λ (y : A). Ok (y, b.0.1)) z.1 in
      let o = h before z.0 s b.0.1 are stepped in
      let rest_is : fold_at step n (inj z.0) b.0.1 ≡ Ok (inj ys, t) = ap (λ (y : A). fold_at step n y b.0.1) (sym z.1) ∙ b.2 in
      let m = fold_found h alive one n z.0 ys b.0.1 t (went_octets (W o.one) (C o.one) s b.0.1 o.went are) rest_is in
      record {
        many = o.one ∷ m.many;
        joined_to = m.joined_to ∙ ap (λ (y : List X). y ++ m.many) o.joined_to ∙ append_assoc before (o.one ∷ []) m.many;
        count = ap suc m.count;
        stand = (o.stands, subst (λ (y : List X). Along V y m.many) o.joined_to m.stand);
        went = went_then (W o.one) (flat_map W m.many) (C o.one) (sum_of C m.many) s b.0.1 t o.went m.went;
      }

-- ---- counted

module _ {A X : Type 0} (step : ℕ → A → Spot → Reading (A × Spot)) (inj : List X → A) (W : X → List ℕ) (C : X → ℕ) (V : ℕ → List X → X → Type 0) where
  pub many_back : (xs : List X) → StepBack (step (length xs)) inj W C (V (length xs)) → (p l : ℕ) (more : List ℕ) → Along (V (length xs)) [] xs → counted_in C xs + l ≤ 131072
      → Comes (many_at step (inj []) (at p (list_file W xs ++ more) (counted_in C xs + l))) (inj xs) more l
  unfolding many_at
  many_back xs h p l more v few =
      let short : length xs < 2 ^ 32 = omega (arith, few) in
      let sums : length xs + sum_of C xs + l ≡ length xs + (sum_of C xs + l) = omega arith in
      comes_from (many_at step (inj [])) (inj xs) p ((big_bytes 4 (length xs) ++ flat_map W xs) ++ more) (big_bytes 4 (length xs) ++ (flat_map W xs ++ more)) more
      (length xs + sum_of C xs + l) (length xs + (sum_of C xs + l)) l (append_assoc (big_bytes 4 (length xs)) (flat_map W xs) more) sums
      (then_comes (counted_at (at p (big_bytes 4 (length xs) ++ (flat_map W xs ++ more)) (length xs + (sum_of C xs + l)))) (λ n. fold_at (step n.0) n.0 (inj []) n.1)
      (length xs) (inj xs) (flat_map W xs ++ more) more (sum_of C xs + l) l (counted_back (length xs) (flat_map W xs ++ more) p (sum_of C xs + l) short)
      (λ q. fold_back (step (length xs)) inj W C (V (length xs)) h xs [] q l more v (omega (arith, few))))

  pub record Listed (xs : List X) (s t : Spot) : Type 0 where
    pub stand : Along (V (length xs)) [] xs
    pub went : Went (list_file W xs) (counted_in C xs) s t

  pub many_found : ((n : ℕ) → StepFound (step n) inj W C (V n)) → ((n : ℕ) → IsAlive (step n) inj W C (V n)) → ((a b : List X) → inj a ≡ inj b → a ≡ b)
      → (xs : List X) (s t : Spot) → AreOctets s.rest → many_at step (inj []) s ≡ Ok (inj xs, t) → Listed xs s t
  unfolding many_at
  many_found h alive one xs s t are e =
      let b = bind_ok (counted_at s) (λ n. fold_at (step n.0) n.0 (inj []) n.1) (inj xs, t) e in
      let w = counted_found s b.0.1 b.0.0 are b.1 in
      let n : ℕ = b.0.0 in
      let m = fold_found (step n) inj W C (V n) (h n) (alive n) one n [] xs b.0.1 t (went_octets (big_bytes 4 n) n s b.0.1 w are) b.2 in
      let is : m.many ≡ xs = sym m.joined_to in
      let whole = went_then (big_bytes 4 n) (flat_map W m.many) n (sum_of C m.many) s b.0.1 t w m.went in
      let made : Listed m.many s t = record {
        stand = subst (λ (k : ℕ). Along (V k) [] m.many) (sym m.count) m.stand;
        went = went_as (big_bytes 4 n ++ flat_map W m.many) (list_file W m.many) (n + sum_of C m.many) (counted_in C m.many) s t
            (ap (λ (k : ℕ). big_bytes 4 k ++ flat_map W m.many) (sym m.count)) (ap (λ (k : ℕ). k + sum_of C m.many) (sym m.count)) whole;
      } in
      subst (λ (y : List X). Listed y s t) is made

-- ---- lists whose items may be unsound, which count nothing themselves

module _ {X : Type 0} (item : Spot → Reading (Option X × Spot)) (W : X → List ℕ) (V : X → Type 0) where
  abbrev nothing_in : X → ℕ
  nothing_in x = 0

  abbrev pub ItemBack : Type 0
  ItemBack = (x : X) (p l : ℕ) (more : List ℕ) → V x → Comes (item (at p (W x ++ more) l)) (Some x) more l

  abbrev pub ItemFound : Type 0
  ItemFound = (x : X) (s t : Spot) → AreOctets s.rest → item s ≡ Ok (Some x, t) → V x × Went (W x) 0 s t

  joins_back : ItemBack → StepBack (joins item) Some W nothing_in (λ before. V)
  unfolding joins
  joins_back h before x p l more v few =
      comes_from (joins item (Some before)) (Some (before ++ x ∷ [])) p (W x ++ more) (W x ++ more) more (0 + l) l l refl (omega arith)
      (then_comes (item (at p (W x ++ more) l)) (λ y. Ok (joined (Some before) y.0, y.1)) (Some x) (Some (before ++ x ∷ [])) more more l l (h x p l more v) (λ q. comes_here (Some (before ++ x ∷ [])) q l more))

  joined_some : (before ys : List X) (o : Option X) → joined (Some before) o ≡ Some ys → (x : X) × (o ≡ Some x) × (before ++ x ∷ [] ≡ ys)
  joined_some before ys None e = absurd cc
  joined_some before ys (Some x) e = (x, refl, some_is (before ++ x ∷ []) ys e)
    where
      some_is : {Y : Type 0} (a b : Y) → Some a ≡ Some b → a ≡ b
      some_is a b e = cc

  joins_found : ItemFound → StepFound (joins item) Some W nothing_in (λ before. V)
  unfolding joins
  joins_found h before ys s t are e =
      let b = bind_ok (item s) (λ y. Ok (joined (Some before) y.0, y.1)) (Some ys, t) e in
      let same = ok_is {A = Option (List X) × Spot} (joined (Some before) b.0.0, b.0.1) (Some ys, t) b.2 in
      let j = joined_some before ys b.0.0 (ap (λ (y : Option (List X) × Spot). y.0) same) in
      let f = h j.0 s b.0.1 are (b.1 ∙ ap (λ (y : Option X). Ok (y, b.0.1)) j.1) in
      record {
        one = j.0;
        joined_to = sym j.2;
        stands = f.0;
        went = subst (λ (y : Spot). Went (W j.0) 0 s y) (ap (λ (y : Option (List X) × Spot). y.1) same) f.1;
      }

  none_some : (ys : List X) → None ≡ Some ys → ⊥
  none_some ys e = absurd cc

  none_stays : (n : ℕ) (ys : List X) (s t : Spot) → fold_at (joins item) n None s ≡ Ok (Some ys, t) → ⊥
  unfolding fold_at joins
  none_stays zero ys s t e =
      let same = ok_is {A = Option (List X) × Spot} (None, s) (Some ys, t) e in
      none_some ys (ap (λ (y : Option (List X) × Spot). y.0) same)
  none_stays (suc n) ys s t e =
      let b = bind_ok (joins item None s) (λ x. fold_at (joins item) n x.0 x.1) (Some ys, t) e in
      let d = bind_ok (item s) (λ y. Ok (joined None y.0, y.1)) b.0 b.1 in
      let same = ok_is {A = Option (List X) × Spot} (None, d.0.1) b.0 d.2 in
      none_stays n ys b.0.1 t (ap (λ (y : Option (List X)). fold_at (joins item) n y b.0.1) (ap (λ (y : Option (List X) × Spot). y.0) same) ∙ b.2)

  joins_alive : IsAlive (joins item) Some W nothing_in (λ before. V)
  joins_alive None n ys s t e = absurd (none_stays n ys s t e)
  joins_alive (Some zs) n ys s t e = (zs, refl)

  some_one : (a b : List X) → Some a ≡ Some b → a ≡ b
  some_one a b e = cc

  none_in : (xs : List X) → sum_of nothing_in xs ≡ 0
  none_in [] = refl
  none_in (x ∷ xs) = omega (arith, none_in xs)

  pub list_back : ItemBack → (xs : List X) (p l : ℕ) (more : List ℕ) → Each V xs → length xs + l ≤ 131072
      → Comes (list_at item (at p (list_file W xs ++ more) (length xs + l))) (Some xs) more l
  list_back h xs p l more v few =
      let none = none_in xs in
      comes_from (list_at item) (Some xs) p (list_file W xs ++ more) (list_file W xs ++ more) more (length xs + l) (counted_in nothing_in xs + l) l refl (omega (arith, none))
      (many_back (λ n. joins item) Some W nothing_in (λ n before. V) xs (joins_back h) p l more v (omega (arith, none, few)))

  pub list_found : ItemFound → (xs : List X) (s t : Spot) → AreOctets s.rest → list_at item s ≡ Ok (Some xs, t) → Each V xs × Went (list_file W xs) (length xs) s t
  list_found h xs s t are e =
      let f = many_found (λ n. joins item) Some W nothing_in (λ n before. V) (λ n. joins_found h) (λ n. joins_alive) some_one xs s t are e in
      let none = none_in xs in
      (f.stand, went_as (list_file W xs) (list_file W xs) (counted_in nothing_in xs) (length xs) s t refl (omega (arith, none)) f.went)
