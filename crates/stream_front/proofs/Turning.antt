-- Values one after the other inside indefinite lengths, one at a time.
use Rattle.std.proofs.Common.{◌≡◌, ℕ, suc, ◌+◌, ◌-◌, ◌<◌, ◌⊎◌, inl, inr, Bool, true, false, ◌&&◌, List, [], ◌∷◌, length, drop, Some, None, Ok, Err, refl, sym, ap, ◌∙◌, arith}
use Rattle.asn1_types.specs.Rows.{is_no_tag}
use Rattle.asn1_types.specs.Whole.{is_marked}
use Rattle.ber_spelling.specs.declared.fault.ReadFault.TheVariants as faults
use Rattle.ber_spelling.specs.declared.spot.Scope.{Scope}
use Rattle.ber_spelling.specs.Reading.{Spot, Opened, Ahead, ended, begun, Reading, ◌>>=◌, within}
use Rattle.ber_spelling.specs.Fields.{extent_at, contents_at, look_at, inside}
use Rattle.ber_spelling.specs.Rules.{item_at, items_at, all_items_at, sized_at, marked_at, whole_at}
use Rattle.ber_spelling.proofs.Turns.{whole_marked, whole_sized}
use Rattle.stream_front.specs.Resuming.{End, spot, scope_in, goes_on, next_at, length_at}
use Rattle.stream_front.proofs.Shrinking.{bind_same, look_shrink, whole_shrink, turns_same}

pub bool_is : (b : Bool) → (b ≡ true) ⊎ (b ≡ false)
bool_is true = inl refl
bool_is false = inr refl

pub bind_bind : {A B C : Type 0} (r : Reading A) (f : A → Reading B) (g : B → Reading C) → ((r >>= f) >>= g) ≡ (r >>= λ x. (f x >>= g))
bind_bind (Ok x) f g = refl
bind_bind (Err e) f g = refl

-- what stands next inside so many
abbrev pub after_look : ℕ → Ahead → Reading End
after_look depth (ended place t) = goes_on depth t
after_look depth (begun o t) = whole_at (32 - suc depth) tt (scope_in (suc depth)) o t >>= λ x. goes_on (suc depth) x.1

-- one more value, and as many turns as there are octets behind it
after_turn : (depth : ℕ) (s : Spot) (a : Ahead) → look_at (scope_in (suc depth)) s.place s.rest ≡ Ok a
    → (item_at (whole_at (32 - suc depth)) (λ (u : Unit {0}). Some u) (λ next after. items_at (whole_at (32 - suc depth)) (λ (u : Unit {0}). Some u) (length s.rest) next (scope_in (suc depth)) after) tt (scope_in (suc depth)) a >>= λ x. goes_on depth x.1)
    ≡ after_look depth a
after_turn depth s (ended place t) e = refl
after_turn depth s (begun o t) e =
    bind_bind (whole_at (32 - suc depth) tt (scope_in (suc depth)) o t) _ _
    ∙ bind_same (whole_at (32 - suc depth) tt (scope_in (suc depth)) o t) _ _
    (λ x h.
    let i = look_shrink (scope_in (suc depth)) s.place s.rest o t e in
    let j = whole_shrink (32 - suc depth) (scope_in (suc depth)) o t x h in
    ap (λ (r : Reading End). r >>= λ (y : End). goes_on depth y.1) (turns_same (32 - suc depth) (scope_in (suc depth)) (length s.rest) (suc (length x.1.rest)) x.1 (omega arith) (omega arith)))

pub next_in : (depth : ℕ) (s : Spot) → next_at (suc depth) s ≡ (look_at (scope_in (suc depth)) s.place s.rest >>= after_look depth)
unfolding items_at
next_in depth s =
    bind_bind (look_at (scope_in (suc depth)) s.place s.rest) _ _
    ∙ bind_same (look_at (scope_in (suc depth)) s.place s.rest) _ _ (λ a e. after_turn depth s a e)

-- ---- behind an identifier

inside_is : (depth : ℕ) → inside (scope_in depth) ≡ scope_in (suc depth)
inside_is depth =
    let less : 32 - depth - 1 ≡ 32 - suc depth = omega arith in
    ap (λ (n : ℕ). let s : Scope = record { levels = n; limit = 262144; end = None; marked = true; strict = false } in s) less

marked_by : (depth place : ℕ) (rest : List ℕ) → is_marked rest ≡ true
    → (marked_at (all_items_at (whole_at (32 - depth - 1)) (λ (u : Unit {0}). Some u) tt) (scope_in depth) (spot place rest) >>= λ x. goes_on depth x.1)
    ≡ (within (scope_in depth) place (place + 1) >>= λ _. next_at (suc depth) (spot (place + 1) (drop 1 rest)))
unfolding extent_at
marked_by depth place [] m = absurd (let wrong : false ≡ true = m in cc)
marked_by depth place (first ∷ rest) m =
    let less : 32 - depth - 1 ≡ 32 - suc depth = omega arith in
    rw m (bind_bind (within (scope_in depth) place (place + 1) >>= λ _. (Ok (inside (scope_in depth), spot (place + 1) rest))) _ _
    ∙ bind_bind (within (scope_in depth) place (place + 1)) _ _
    ∙ bind_same (within (scope_in depth) place (place + 1)) _ _ (λ u h. rw (inside_is depth, less) refl))

sized_then : (depth : ℕ) (s : Spot) → (sized_at (scope_in depth) s >>= λ x. goes_on depth x.1) ≡ (contents_at (scope_in depth) s.place s.rest >>= λ c. goes_on depth c.2)
sized_then depth s = bind_bind (contents_at (scope_in depth) s.place s.rest) _ _

pub whole_then : (depth : ℕ) (o : Opened) (t : Spot) → depth < 32 → is_no_tag o.class o.number ≡ false
    → (whole_at (32 - depth) tt (scope_in depth) o t >>= λ x. goes_on depth x.1) ≡ length_at depth o.constructed t
whole_then depth o t lt tagged =
    elim (bool_is (is_marked t.rest && o.constructed)) [
      | inl h ↦
          let m = both_true (is_marked t.rest) o.constructed h in
          ap (λ (r : Reading End). r >>= λ (x : End). goes_on depth x.1) (sym (whole_marked (32 - depth) (scope_in depth) o t (omega arith) tagged m.0 m.1)) ∙ marked_by depth t.place t.rest m.0 ∙ rw h refl
      | inr h ↦ ap (λ (r : Reading End). r >>= λ (x : End). goes_on depth x.1) (sym (whole_sized (32 - depth) (scope_in depth) o t (omega arith) tagged h)) ∙ sized_then depth t ∙ rw h refl
    ] where
      both_true : (a b : Bool) → (a && b) ≡ true → (a ≡ true) × (b ≡ true)
      both_true true true h = (refl, refl)
      both_true true false h = absurd (let wrong : false ≡ true = h in cc)
      both_true false b h = absurd (let wrong : false ≡ true = h in cc)
