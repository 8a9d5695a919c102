-- The entries of rows, and what opening and closing a key makes of them.
use Rattle.std.proofs.Common.{◌≡◌, ℕ, zero, suc, ◌+◌, ◌<◌, ◌≤◌, Bool, true, false, ◌||◌, cond, List, [], ◌∷◌, ◌++◌, map, length, Option, Some, None, refl, sym, ap, subst, ◌∙◌, arith, append_assoc}
use Rattle.std.specs.Prelude.{nat_eq, is_some}
use Rattle.std.specs.Ordering.{nat_cmp, match_ordering}
use Rattle.std.specs.Option.{option_map}
use Rattle.std.specs.List.{list_any}
use Rattle.std.specs.Map.{lookup, remove_entry, values_of}
use Rattle.std.specs.BTreeMap.{is_at, insert_entry}
use Rattle.std.specs.Cmp.{nat_cmp_is}
use Rattle.std.specs.declared.cmp.Ordering.{Ordering}
use Rattle.std.specs.declared.cmp.Ordering.TheVariants.{Greater}
use Rattle.std.proofs.lemmas.List.{map-append}
use Rattle.linked_ops.specs.declared.key.Key.{Key}
use Rattle.linked_ops.specs.declared.node.Opening.{Opening}
use Rattle.linked_ops.specs.Keys.{same_key, is_under}
use Rattle.linked_ops.specs.Entries.{Entry, is_open, parent_of, children_of, orphaned, without, closed}
use Rattle.linked_ops.specs.Rows.{Row, same_number, is_number, has_key, has_number, has_place, is_child, found, first_gone, number_of, key_with, opening_with, above_in, entries_among, entries, places_under, siblings, first_listed, behind, node_of, node_at, AreApart, same_place, with_one_number, with_one_key, IsBelow, AreBelow}
use Rattle.linked_ops.specs.Links.{Nodes}
use Rattle.linked_ops.specs.KeysAlong.{keys_along, next_of, key_before}
use Rattle.linked_ops.proofs.Places.{cases, clash, not_true, both_ways, turned, nat_is, nats_are, or_now, or_true, taken, left_out, has, AreOnce, behind_split}
use Rattle.linked_ops.proofs.Found.{numbers_are, numbers_turned, keys_are, key_is, keys_turned, or_row, some_is, no_some, found_snoc, passes, own, none_passes, found_gone, found_kept, found_none, number_itself, number_either, key_itself, key_either, under_once, under_is, under_none}

abbrev key_of_row : Row → Key
key_of_row r = r.1.key

-- ---- maps

pub looked_up : (n : ℕ) (rows : List Row) → lookup (is_at (nat_cmp n)) rows ≡ opening_with n rows
looked_up n [] = refl
looked_up n (r ∷ rs) = by_test (has_number n r) (looked_up n rs)
  where
    by_test : (b : Bool) → lookup (is_at (nat_cmp n)) rs ≡ opening_with n rs → cond b (Some r.1) (lookup (is_at (nat_cmp n)) rs) ≡ option_map (λ (q : Row). q.1) (cond b (Some r) (found (has_number n) rs))
    by_test true more = refl
    by_test false more = more

pub removed : (n : ℕ) (rows : List Row) → remove_entry (is_at (nat_cmp n)) rows ≡ first_gone (has_number n) rows
removed n [] = refl
removed n (r ∷ rs) = ap (λ (es : List Row). cond (has_number n r) rs (r ∷ es)) (removed n rs)

pub inserted : (made : ℕ) (o : Opening) (rows : List Row) → AreBelow made rows → insert_entry nat_cmp rows made o ≡ rows ++ (made, o) ∷ []
inserted made o [] a = refl
inserted made o (r ∷ rs) a =
    ap (λ (c : Ordering). match_ordering c ((made, o) ∷ r ∷ rs) ((r.0, o) ∷ rs) (r ∷ insert_entry nat_cmp rs made o)) (sym (nat_cmp_is made r.0 Greater a.0))
    ∙ ap (λ (es : List Row). r ∷ es) (inserted made o rs a.2)

mapped : (all rows : List Row) → map (λ (o : Opening). (o.key, key_with o.parent all)) (values_of rows) ≡ entries_among all rows
mapped all [] = refl
mapped all (r ∷ rs) = ap (λ (es : List Entry). (r.1.key, key_with r.1.parent all) ∷ es) (mapped all rs)

pub values_listed : (all rows : List Row) (items : List Entry) (os : List Opening) → items ≡ [] → os ≡ values_of rows → items ++ map (λ (o : Opening). (o.key, key_with o.parent all)) os ≡ entries_among all rows
values_listed all rows items os e f = (λ i. e i ++ map (λ (o : Opening). (o.key, key_with o.parent all)) (f i)) ∙ mapped all rows

-- ---- what entries tell

pub open_is : (k : Key) (all rows : List Row) → is_open k (entries_among all rows) ≡ is_some (found (has_key k) rows)
open_is k all [] = refl
open_is k all (r ∷ rs) = by_test (has_key k r) (open_is k all rs)
  where
    by_test : (b : Bool) → is_open k (entries_among all rs) ≡ is_some (found (has_key k) rs) → (b || is_open k (entries_among all rs)) ≡ is_some (cond b (Some r) (found (has_key k) rs))
    by_test true more = refl
    by_test false more = more

abbrev above_row : List Row → Option Row → Option Key
above_row all None = None
above_row all (Some r) = key_with r.1.parent all

parent_at : (k : Key) (all rows : List Row) → parent_of k (entries_among all rows) ≡ above_row all (found (has_key k) rows)
parent_at k all [] = refl
parent_at k all (r ∷ rs) = by_test (has_key k r) (parent_at k all rs)
  where
    by_test : (b : Bool) → parent_of k (entries_among all rs) ≡ above_row all (found (has_key k) rs) → cond b (key_with r.1.parent all) (parent_of k (entries_among all rs)) ≡ above_row all (cond b (Some r) (found (has_key k) rs))
    by_test true more = refl
    by_test false more = more

module _ (rows : List Row) (places : AreApart same_place rows) (numbers : AreApart with_one_number rows) (keys : AreApart with_one_key rows) where
  by_number : (t : Row → Bool) (x : Row) → found t rows ≡ Some x → found (has_number x.0) rows ≡ Some x
  by_number t x e = own with_one_number number_itself number_either t rows x numbers e

  by_key : (t : Row → Bool) (x : Row) → found t rows ≡ Some x → found (has_key x.1.key) rows ≡ Some x
  by_key t x e = own with_one_key key_itself key_either t rows x keys e

  one : (t : Row → Bool) (x y : Row) → found t rows ≡ Some x → found t rows ≡ Some y → x ≡ y
  one t x y e f = some_is x y (sym e ∙ f)

  -- the row with a key, by the number of that key
  pub numbered : (k : Key) (n : ℕ) → number_of k rows ≡ Some n → (y : Row) × (found (has_key k) rows ≡ Some y) × (found (has_number n) rows ≡ Some y) × (y.0 ≡ n)
  numbered k n e = by_found (found (has_key k) rows) refl
    where
      by_found : (o : Option Row) → found (has_key k) rows ≡ o → (y : Row) × (found (has_key k) rows ≡ Some y) × (found (has_number n) rows ≡ Some y) × (y.0 ≡ n)
      by_found None h = no_some n (sym e ∙ ap (option_map (λ (r : Row). r.0)) h)
      by_found (Some y) h =
          let i : y.0 ≡ n = nat_some y.0 n (sym (ap (option_map (λ (r : Row). r.0)) h) ∙ e) in
          (y, h, subst (λ (m : ℕ). found (has_number m) rows ≡ Some y) i (by_number (has_key k) y h), i)
        where
          nat_some : (a b : ℕ) → Some a ≡ Some b → a ≡ b
          nat_some a b e = cc

  pub unnumbered : (k : Key) → number_of k rows ≡ None → found (has_key k) rows ≡ None
  unnumbered k e = by_found (found (has_key k) rows) refl
    where
      by_found : (o : Option Row) → found (has_key k) rows ≡ o → o ≡ None
      by_found None h = refl
      by_found (Some y) h = no_some y.0 (sym (ap (option_map (λ (r : Row). r.0)) h) ∙ e)

  pub parent_is_above : (k : Key) (n : ℕ) → number_of k rows ≡ Some n → above_in rows (opening_with n rows) ≡ parent_of k (entries rows)
  parent_is_above k n e =
      let y = numbered k n e in
      ap (λ (o : Option Row). above_in rows (option_map (λ (r : Row). r.1) o)) y.2 ∙ sym (parent_at k rows rows ∙ ap (above_row rows) y.1)

  pub no_parent : (k : Key) → number_of k rows ≡ None → None ≡ parent_of k (entries rows)
  no_parent k e = sym (parent_at k rows rows ∙ ap (above_row rows) (unnumbered k e))

  pub key_numbered : (k : Key) (n : ℕ) → number_of k rows ≡ Some n → key_with (Some n) rows ≡ Some k
  key_numbered k n e =
      let y = numbered k n e in
      ap (option_map key_of_row) y.2 ∙ ap Some (keys_are y.0.1.key k (passes (has_key k) rows y.0 y.1))

  -- ---- the children of a key

  -- nothing is under a key that isn't open
  not_under : (k : Key) (u : Option ℕ) → found (has_key k) rows ≡ None → is_under k (key_with u rows) ≡ false
  not_under k None e = refl
  not_under k (Some m) e = by_found (found (has_number m) rows) refl
    where
      by_found : (o : Option Row) → found (has_number m) rows ≡ o → is_under k (option_map key_of_row o) ≡ false
      by_found None h = refl
      by_found (Some w) h =
          not_true (same_key w.1.key k)
          (λ t. no_some w (sym (by_key (has_number m) w h) ∙ subst (λ (z : Key). found (has_key z) rows ≡ None) (sym (keys_are w.1.key k t)) e))

  pub childless : (k : Key) → found (has_key k) rows ≡ None → (rest : List Row) → [] ≡ children_of k (entries_among rows rest)
  childless k e [] = refl
  childless k e (r ∷ rs) = childless k e rs ∙ sym (left_out (is_under k (key_with r.1.parent rows)) _ _ (not_under k r.1.parent e))

  pub unchanged : (k : Key) → found (has_key k) rows ≡ None → entries rows ≡ closed k (entries rows)
  unchanged k e = sym (ap (map (orphaned k)) (with_all rows (open_is k rows rows ∙ ap is_some e)) ∙ with_parents rows)
    where
      with_all : (rest : List Row) → is_open k (entries_among rows rest) ≡ false → without k (entries_among rows rest) ≡ entries_among rows rest
      with_all [] n = refl
      with_all (r ∷ rs) n = by_test (same_key r.1.key k) n (with_all rs)
        where
          by_test : (b : Bool) → (b || is_open k (entries_among rows rs)) ≡ false → (is_open k (entries_among rows rs) ≡ false → without k (entries_among rows rs) ≡ entries_among rows rs) → cond b (entries_among rows rs) ((r.1.key, key_with r.1.parent rows) ∷ without k (entries_among rows rs)) ≡ entries_among rows (r ∷ rs)
          by_test true m more = absurd cc
          by_test false m more = ap (λ es. (r.1.key, key_with r.1.parent rows) ∷ es) (more m)

      with_parents : (rest : List Row) → map (orphaned k) (entries_among rows rest) ≡ entries_among rows rest
      with_parents [] = refl
      with_parents (r ∷ rs) =
          λ i. (r.1.key, left_out (is_under k (key_with r.1.parent rows)) None (key_with r.1.parent rows) (not_under k r.1.parent e) i) ∷ with_parents rs i

  module _ (k : Key) (y : Row) (there : found (has_key k) rows ≡ Some y) where
    abbrev g : Nodes
    g p = node_at p rows

    abbrev K : List ℕ
    K = places_under y.0 rows

    abbrev told_all : List ℕ → List Key
    told_all [] = []
    told_all (p ∷ ps) = key_before (g p) (told_all ps)

    child_at : (b : ℕ) → has b K ≡ true → (e : Row) × (found (has_place b) rows ≡ Some e) × (siblings e.1.parent rows ≡ K) × (e.1.place ≡ b)
    child_at b h = by_found (found (has_place b) rows) refl
      where
        among : (n : ℕ) (u : Option ℕ) → is_number n u ≡ true → siblings u rows ≡ places_under n rows
        among n None t = absurd cc
        among n (Some m) t = ap (λ (z : ℕ). places_under z rows) (sym (numbers_are n m t))

        by_found : (o : Option Row) → found (has_place b) rows ≡ o → (e : Row) × (found (has_place b) rows ≡ Some e) × (siblings e.1.parent rows ≡ K) × (e.1.place ≡ b)
        by_found None f = clash (has b K) h (under_none y.0 b rows f)
        by_found (Some e) f = (e, f, among y.0 e.1.parent (sym (under_is y.0 b rows e places f) ∙ h), nats_are e.1.place b (passes (has_place b) rows e f))

    has_mid : (front bs : List ℕ) (b : ℕ) → has b (front ++ b ∷ bs) ≡ true
    has_mid [] bs b = or_now (nat_eq b b) _ (nat_is b)
    has_mid (x ∷ xs) bs b = or_true (nat_eq x b) _ (has_mid xs bs b)

    along : (left : ℕ) (front bs : List ℕ) → K ≡ front ++ bs → length bs ≤ left → keys_along g left (first_listed bs) ≡ told_all bs
    along zero front [] e l = refl
    along zero front (b ∷ bs) e l = absurd (omega arith)
    along (suc left) front [] e l = refl
    along (suc left) front (b ∷ bs) e l =
        let c = child_at b (subst (λ (z : List ℕ). has b z ≡ true) (sym e) (has_mid front bs b)) in
        let o : AreOnce (front ++ b ∷ bs) = subst AreOnce e (under_once y.0 rows places) in
        let n : next_of (g b) ≡ first_listed bs =
        ap (λ (r : Option Row). next_of (option_map (node_of rows) r)) c.1 ∙ (λ i. behind (c.3 i) (c.2 i)) ∙ ap (behind b) e ∙ behind_split b front bs o in
        let a : K ≡ (front ++ b ∷ []) ++ bs = e ∙ sym (append_assoc front (b ∷ []) bs) in
        ap (key_before (g b)) (ap (keys_along g left) n ∙ along left (front ++ b ∷ []) bs a (omega arith))

    pub under_key : (u : Option ℕ) → is_under k (key_with u rows) ≡ is_number y.0 u
    under_key None = refl
    under_key (Some m) = by_found (found (has_number m) rows) refl
      where
        here : same_number y.0 m ≡ true → found (has_number m) rows ≡ Some y
        here t = subst (λ (z : ℕ). found (has_number z) rows ≡ Some y) (numbers_are y.0 m t) (by_number (has_key k) y there)

        by_found : (o : Option Row) → found (has_number m) rows ≡ o → is_under k (option_map key_of_row o) ≡ same_number y.0 m
        by_found None h = sym (not_true (same_number y.0 m) (λ t. no_some y (sym (here t) ∙ h)))
        by_found (Some w) h =
            both_ways (same_key w.1.key k) (same_number y.0 m)
            (λ t.
            let i : w ≡ y = one (has_key k) w y (subst (λ (z : Key). found (has_key z) rows ≡ Some w) (keys_are w.1.key k t) (by_key (has_number m) w h)) there in
            numbers_turned y.0 m ∙ subst (λ (z : Row). same_number m z.0 ≡ true) i (passes (has_number m) rows w h))
            (λ t. subst (λ (z : Row). same_key z.1.key k ≡ true) (one (has_number m) y w (here t) h) (passes (has_key k) rows y there))

    abbrev AllFound : List Row → List Row → Type 0
    AllFound all [] = Unit {0}
    AllFound all (r ∷ rs) = (found (has_place r.1.place) all ≡ Some r) × AllFound all rs

    more_found : (all rest : List Row) (e : Row) → list_any (same_place e) rest ≡ false → AllFound all rest → AllFound (e ∷ all) rest
    more_found all [] e n a = tt
    more_found all (r ∷ rs) e n a = by_test (same_place e r) refl n (λ m. more_found all rs e m a.1)
      where
        by_test : (b : Bool) → same_place e r ≡ b → (b || list_any (same_place e) rs) ≡ false → (list_any (same_place e) rs ≡ false → AllFound (e ∷ all) rs) → AllFound (e ∷ all) (r ∷ rs)
        by_test true t m more = absurd cc
        by_test false t m more = (left_out (has_place r.1.place e) (Some e) (found (has_place r.1.place) all) (turned e.1.place r.1.place ∙ t) ∙ a.0, more m)

    all_found : (rest : List Row) → AreApart same_place rest → AllFound rest rest
    all_found [] a = tt
    all_found (r ∷ rs) a = (taken (has_place r.1.place r) (Some r) (found (has_place r.1.place) rs) (nat_is r.1.place), more_found rs rs r a.0 (all_found rs a.1))

    told_is : (rest : List Row) → AllFound rows rest → told_all (places_under y.0 rest) ≡ children_of k (entries_among rows rest)
    told_is [] a = refl
    told_is (r ∷ rs) a = by_test (is_child y.0 r) refl (told_is rs a.1)
      where
        by_test : (b : Bool) → is_child y.0 r ≡ b → told_all (places_under y.0 rs) ≡ children_of k (entries_among rows rs) → told_all (cond (is_child y.0 r) (r.1.place ∷ places_under y.0 rs) (places_under y.0 rs)) ≡ cond (is_under k (key_with r.1.parent rows)) (r.1.key ∷ children_of k (entries_among rows rs)) (children_of k (entries_among rows rs))
        by_test true t more =
            ap told_all (taken (is_child y.0 r) (r.1.place ∷ places_under y.0 rs) (places_under y.0 rs) t)
            ∙ ap (λ (o : Option Row). key_before (option_map (node_of rows) o) (told_all (places_under y.0 rs))) a.0 ∙ ap (λ ks. r.1.key ∷ ks) more
            ∙ sym (taken (is_under k (key_with r.1.parent rows)) _ _ (under_key r.1.parent ∙ t))
        by_test false t more =
            ap told_all (left_out (is_child y.0 r) (r.1.place ∷ places_under y.0 rs) (places_under y.0 rs) t) ∙ more
            ∙ sym (left_out (is_under k (key_with r.1.parent rows)) _ _ (under_key r.1.parent ∙ t))

    few : (n : ℕ) (rest : List Row) → length (places_under n rest) ≤ length rest
    few n [] = omega arith
    few n (r ∷ rs) = by_test (is_child n r) (few n rs)
      where
        by_test : (b : Bool) → length (places_under n rs) ≤ length rs → length (cond b (r.1.place ∷ places_under n rs) (places_under n rs)) ≤ suc (length rs)
        by_test true more = omega arith
        by_test false more = omega arith

    pub children_along : (left : ℕ) → length rows ≤ left → keys_along g left (first_listed K) ≡ children_of k (entries rows)
    children_along left l = let f = few y.0 rows in along left [] K refl (omega arith) ∙ told_is rows (all_found rows places)

  -- ---- a key taken out

  module _ (n : ℕ) (x : Row) (there : found (has_number n) rows ≡ Some x) where
    abbrev t : Row → Bool
    t = has_number n

    abbrev rest : List Row
    rest = first_gone t rows

    without_is : (all some : List Row) → AreApart with_one_key some → found t some ≡ Some x → without x.1.key (entries_among all some) ≡ entries_among all (first_gone t some)
    without_is all [] a e = absurd cc
    without_is all (r ∷ rs) a e =
        cases (t r)
        (λ b.
        let i : r ≡ x = some_is r x (sym (taken (t r) _ _ b) ∙ e) in
        let s : same_key r.1.key x.1.key ≡ true = subst (λ (z : Row). same_key r.1.key z.1.key ≡ true) i (key_is r.1.key) in
        taken (same_key r.1.key x.1.key) _ _ s ∙ sym (ap (entries_among all) (taken (t r) rs (r ∷ first_gone t rs) b)))
        (λ b.
        let f : found t rs ≡ Some x = sym (left_out (t r) _ _ b) ∙ e in
        let d : same_key r.1.key x.1.key ≡ false = keys_turned r.1.key x.1.key ∙ none_passes with_one_key key_itself key_either r x t rs a.0 f in
        left_out (same_key r.1.key x.1.key) _ _ d ∙ ap (λ es. (r.1.key, key_with r.1.parent all) ∷ es) (without_is all rs a.1 f)
        ∙ sym (ap (entries_among all) (left_out (t r) rs (r ∷ first_gone t rs) b)))

    key_gone : (u : Option ℕ) → cond (is_under x.1.key (key_with u rows)) None (key_with u rows) ≡ key_with u rest
    key_gone None = refl
    key_gone (Some m) = by_found (found (has_number m) rows) refl
      where
        by_found : (o : Option Row) → found (has_number m) rows ≡ o → cond (is_under x.1.key (option_map key_of_row o)) None (option_map key_of_row o) ≡ option_map key_of_row (found (has_number m) rest)
        by_found None h = sym (ap (option_map key_of_row) (found_none (has_number m) t rows h))
        by_found (Some w) h =
            cases (has_number m x)
            (λ b.
            let j : m ≡ x.0 = numbers_are m x.0 b in
            let i : x ≡ w = one (has_number m) x w (subst (λ (z : ℕ). found (has_number z) rows ≡ Some x) (sym j) (by_number t x there)) h in
            let s : same_key w.1.key x.1.key ≡ true = subst (λ (z : Row). same_key z.1.key x.1.key ≡ true) i (key_is x.1.key) in
            taken (same_key w.1.key x.1.key) None (Some w.1.key) s
            ∙ sym (ap (option_map key_of_row) (subst (λ (z : ℕ). found (has_number z) rest ≡ None) (sym j) (found_gone with_one_number number_itself number_either t rows x numbers there))))
            (λ b.
            let d : same_key w.1.key x.1.key ≡ false =
            not_true (same_key w.1.key x.1.key)
            (λ s.
            let i : w ≡ x = one (has_key x.1.key) w x (subst (λ (z : Key). found (has_key z) rows ≡ Some w) (keys_are w.1.key x.1.key s) (by_key (has_number m) w h)) (by_key t x there) in
            sym b ∙ subst (λ (z : Row). has_number m z ≡ true) i (passes (has_number m) rows w h)) in
            left_out (same_key w.1.key x.1.key) None (Some w.1.key) d ∙ sym (ap (option_map key_of_row) (found_kept (has_number m) t rows x there b ∙ h)))

    orphans : (some : List Row) → map (orphaned x.1.key) (entries_among rows some) ≡ entries_among rest some
    orphans [] = refl
    orphans (r ∷ rs) = λ i. (r.1.key, key_gone r.1.parent i) ∷ orphans rs i

    pub entries_gone : entries rest ≡ closed x.1.key (entries rows)
    entries_gone = sym (ap (map (orphaned x.1.key)) (without_is rows rows keys there) ∙ orphans rest)

    pub numbers_gone : (k : Key) → number_of k rest ≡ cond (same_key x.1.key k) None (number_of k rows)
    numbers_gone k =
        cases (same_key x.1.key k)
        (λ b.
        ap (option_map (λ (r : Row). r.0)) (subst (λ (z : Key). found (has_key z) rest ≡ None) (keys_are x.1.key k b) (found_gone with_one_key key_itself key_either t rows x keys there))
        ∙ sym (taken (same_key x.1.key k) None (number_of k rows) b))
        (λ b. ap (option_map (λ (r : Row). r.0)) (found_kept (has_key k) t rows x there b) ∙ sym (left_out (same_key x.1.key k) None (number_of k rows) b))

  -- ---- a key put at the end

  module _ (key : Key) (made q : ℕ) (u : Option ℕ) (below : AreBelow made rows) (under : IsBelow made u) (absent : found (has_key key) rows ≡ None) where
    abbrev last : Row
    last = (made, record { key = key; parent = u; place = q })

    or_nothing : (o : Option Row) → or_row o None ≡ o
    or_nothing None = refl
    or_nothing (Some r) = refl

    key_kept : (v : Option ℕ) → IsBelow made v → key_with v (rows ++ last ∷ []) ≡ key_with v rows
    key_kept None b = refl
    key_kept (Some m) b =
        let d : same_number m made ≡ false = not_true (same_number m made) (λ t. let z : m ≡ made = numbers_are m made t in absurd (omega arith)) in
        ap (option_map key_of_row)
        (found_snoc (has_number m) rows last ∙ ap (or_row (found (has_number m) rows)) (left_out (same_number m made) (Some last) None d) ∙ or_nothing (found (has_number m) rows))

    below_both : (a b : ℕ) (v : Option ℕ) → a < b → IsBelow a v → IsBelow b v
    below_both a b None l h = tt
    below_both a b (Some m) l h = omega arith

    kept_among : (some : List Row) → AreBelow made some → entries_among (rows ++ last ∷ []) some ≡ entries_among rows some
    kept_among [] a = refl
    kept_among (r ∷ rs) a = λ i. (r.1.key, key_kept r.1.parent (below_both r.0 made r.1.parent a.0 a.1) i) ∷ kept_among rs a.2 i

    pub entries_snoc : entries (rows ++ last ∷ []) ≡ entries rows ++ (key, key_with u rows) ∷ []
    entries_snoc =
        map-append (λ (r : Row). (r.1.key, key_with r.1.parent (rows ++ last ∷ []))) rows (last ∷ [])
        ∙ λ i. kept_among rows below i ++ (key, key_kept u under i) ∷ []

    pub numbers_snoc : (k : Key) → number_of k (rows ++ last ∷ []) ≡ cond (same_key key k) (Some made) (number_of k rows)
    numbers_snoc k =
        ap (option_map (λ (r : Row). r.0)) (found_snoc (has_key k) rows last)
        ∙ cases (same_key key k)
        (λ b.
        let n : found (has_key k) rows ≡ None = subst (λ (z : Key). found (has_key z) rows ≡ None) (keys_are key k b) absent in
        ap (λ (o : Option Row). option_map (λ (r : Row). r.0) (or_row o (cond (same_key key k) (Some last) None))) n
        ∙ ap (option_map (λ (r : Row). r.0)) (taken (same_key key k) (Some last) None b) ∙ sym (taken (same_key key k) (Some made) (number_of k rows) b))
        (λ b.
        ap (λ (o : Option Row). option_map (λ (r : Row). r.0) (or_row (found (has_key k) rows) o)) (left_out (same_key key k) (Some last) None b)
        ∙ ap (option_map (λ (r : Row). r.0)) (or_nothing (found (has_key k) rows)) ∙ sym (left_out (same_key key k) (Some made) (number_of k rows) b))

-- ---- numbers below the next one

pub below_snoc : (made : ℕ) (rows : List Row) (o : Opening) → AreBelow made rows → IsBelow made o.parent → AreBelow (made + 1) (rows ++ (made, o) ∷ [])
below_snoc made [] o a b = (omega arith, b, tt)
below_snoc made (r ∷ rs) o a b = let l : r.0 < made = a.0 in (omega arith, a.1, below_snoc made rs o a.2 b)

pub below_gone : (made : ℕ) (t : Row → Bool) (rows : List Row) → AreBelow made rows → AreBelow made (first_gone t rows)
below_gone made t [] a = tt
below_gone made t (r ∷ rs) a =
    cases (t r)
    (λ b. subst (AreBelow made) (sym (taken (t r) rs (r ∷ first_gone t rs) b)) a.2)
    (λ b. subst (AreBelow made) (sym (left_out (t r) rs (r ∷ first_gone t rs) b)) (a.0, a.1, below_gone made t rs a.2))

pub found_below : (made : ℕ) (t : Row → Bool) (rows : List Row) (y : Row) → AreBelow made rows → found t rows ≡ Some y → y.0 < made
found_below made t [] y a e = absurd cc
found_below made t (r ∷ rs) y a e =
    cases (t r)
    (λ b. subst (λ (z : Row). z.0 < made) (some_is r y (sym (taken (t r) _ _ b) ∙ e)) a.0)
    (λ b. found_below made t rs y a.2 (sym (left_out (t r) _ _ b) ∙ e))
