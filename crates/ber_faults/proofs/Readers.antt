-- What it means that a reader gives the faults of a relation; primitive and constructed values.
use Rattle.std.proofs.Common.{◌≡◌, ℕ, ◌+◌, ◌≤◌, Bool, true, false, not, ◌&&◌, List, [], ◌∷◌, ◌++◌, length, Option, Some, None, Ok, Err, refl, sym, ap, ◌∙◌, subst, arith, ◌⊎◌, inl, inr}
use Rattle.std.proofs.lemmas.Bool.{le-ltb, and_parts}
use Rattle.osi_base.specs.declared.layer_words.Kind.{Kind}
use Rattle.osi_base.specs.declared.layer_words.Kind.TheVariants.{Tag, Content, Form}
use Rattle.asn1_types.specs.declared.row.Tag as tags
use Rattle.ber_spelling.specs.declared.fault.ReadFault.{ReadFault}
use Rattle.ber_spelling.specs.declared.fault.ReadFault.TheVariants.{NotSpelled, Short}
use Rattle.ber_spelling.specs.declared.spot.Scope.{Scope}
use Rattle.osi_base.specs.Octets.{AreOctets}
use Rattle.osi_base.proofs.OctetLaws.{octets_left, octets_right}
use Rattle.ber_spelling.specs.Reading.{Spot, Opened, Reading, ◌>>=◌, refuse}
use Rattle.ber_spelling.specs.Fields.{extent_at, contents_at}
use Rattle.ber_spelling.specs.Rules.{is_opened, expect_at, some_or_refuse, form_at, primitive_at, constructed_at}
use Rattle.ber_spelling.proofs.Identifiers.{IsIn, done}
use Rattle.ber_spelling.proofs.Steady.{RunOf, opened_as, expected}
use Rattle.ber_spelling.proofs.Constructed.{BodyOf}
use Rattle.ber_faults.specs.Fields.{Begins, Extends, Holds}
use Rattle.ber_faults.specs.Values.{Wrong, WrongIn, IsAt, IsOf, RuleFault, PrimitiveFault, BodyFault, ConstructedFault}
use Rattle.ber_faults.proofs.Steps.{bind_err, bind_fails, bind_goes, cond_err, cond_yes, cond_no, failed, err_is, not_err, in_within}
use Rattle.ber_faults.proofs.Lengths.{extent_err, extent_fails, extends_found, extends_read, contents_err, contents_fails, holds_found, holds_read}

-- a reader gives no fault but these
pub record Finds {A : Type 0} (r : RunOf A) (W : Wrong) : Type 0 where
  pub finds : (scope : Scope) (o : Opened) (s : Spot) (f : ReadFault) → (f ≡ Short → ⊥) → AreOctets s.rest → IsIn scope s.place → r scope o s ≡ Err f → W scope o s f

-- and it gives these
pub record Tells {A : Type 0} (r : RunOf A) (W : Wrong) : Type 0 where
  pub tells : (scope : Scope) (o : Opened) (s : Spot) (f : ReadFault) → AreOctets s.rest → IsIn scope s.place → W scope o s f → r scope o s ≡ Err f

-- the same of a value in contents, of which its identifier is known to begin there
pub record StepFinds {A : Type 0} (r : RunOf A) (W : Wrong) : Type 0 where
  pub finds : (scope : Scope) (at : Spot) (o : Opened) (s : Spot) (f : ReadFault) → (f ≡ Short → ⊥) → AreOctets at.rest → Begins scope at o s → r scope o s ≡ Err f → W scope o s f

pub record StepTells {A : Type 0} (r : RunOf A) (W : Wrong) : Type 0 where
  pub tells : (scope : Scope) (at : Spot) (o : Opened) (s : Spot) (f : ReadFault) → AreOctets at.rest → Begins scope at o s → W scope o s f → r scope o s ≡ Err f

-- the same of contents
pub record BodyFinds {A : Type 0} (b : BodyOf A) (W : WrongIn) : Type 0 where
  pub finds : (x : Scope) (s : Spot) (f : ReadFault) → (f ≡ Short → ⊥) → AreOctets s.rest → IsIn x s.place → b x s ≡ Err f → W x s f

pub record BodyTells {A : Type 0} (b : BodyOf A) (W : WrongIn) : Type 0 where
  pub tells : (x : Scope) (s : Spot) (f : ReadFault) → AreOctets s.rest → W x s f → b x s ≡ Err f

pub octets_behind : (scope : Scope) (at : Spot) (o : Opened) (s : Spot) → Begins scope at o s → AreOctets at.rest → AreOctets s.rest
octets_behind scope at o s h are = octets_right h.opens.head s.rest (subst AreOctets h.opens.parts are)

pub step_finds : {A : Type 0} (r : RunOf A) (W : Wrong) → Finds r W → StepFinds r W
step_finds r W h = record { finds = λ scope at o s f ne are begins e. h.finds scope o s f ne (octets_behind scope at o s begins are) (in_within scope s.place begins.opens.within) e }

pub step_tells : {A : Type 0} (r : RunOf A) (W : Wrong) → Tells r W → StepTells r W
step_tells r W h = record { tells = λ scope at o s f are begins w. h.tells scope o s f (octets_behind scope at o s begins are) (in_within scope s.place begins.opens.within) w }

pub bool_cases : (b : Bool) → (b ≡ true) ⊎ (b ≡ false)
bool_cases true = inl refl
bool_cases false = inr refl

pub option_cases : {A : Type 0} (o : Option A) → (o ≡ None) ⊎ ((x : A) × (o ≡ Some x))
option_cases None = inl refl
option_cases (Some x) = inr (x, refl)

pub refused : {A : Type 0} (place : ℕ) (kind : Kind) (f : ReadFault) → IsAt place kind f → refuse {A = A} place kind ≡ failed f
refused {A} place kind f e = ap (λ (g : ReadFault). failed {A = A} g) (sym e)

pub refusal_is : {A : Type 0} (place : ℕ) (kind : Kind) (f : ReadFault) → refuse {A = A} place kind ≡ failed f → IsAt place kind f
refusal_is {A} place kind f e = sym (err_is {A = A} (NotSpelled place kind) f e)

-- ---- tags

opened_so : (tag : tags.Tag) (constructed : Bool) (o : Opened) → IsOf tag constructed o → expect_at tag constructed o ≡ Ok tt
opened_so tag constructed o h =
    let class = h.class in
    let form = h.form in
    let number = h.number in
    let same : ◌≡◌ {A = Opened} o (record { start = o.start; class = tag.class; constructed = constructed; number = tag.number }) = λ i. record { start = o.start; class = class i; constructed = form i; number = number i } in
    ap (expect_at tag constructed) same ∙ expected tag constructed o.start h.small

-- the identifier is of the tag, or reading refuses it
pub expect_cases : (tag : tags.Tag) (constructed : Bool) (o : Opened)
    → (IsOf tag constructed o × (expect_at tag constructed o ≡ Ok tt)) ⊎ ((IsOf tag constructed o → ⊥) × (expect_at tag constructed o ≡ refuse o.start.place Tag))
expect_cases tag constructed o =
    elim (bool_cases (is_opened tag constructed o)) [
      | inl t ↦
          let e : expect_at tag constructed o ≡ Ok tt = cond_yes (is_opened tag constructed o) (Ok tt) (refuse o.start.place Tag) (Ok tt) t refl in
          let is = opened_as tag constructed o tt e in
          inl (record { class = is.class; number = is.number; small = is.small; form = is.form }, e)
      | inr t ↦
          let e : expect_at tag constructed o ≡ refuse o.start.place Tag = cond_no (is_opened tag constructed o) (Ok tt) (refuse o.start.place Tag) (refuse o.start.place Tag) t refl in
          inr (λ is. not_err tt (NotSpelled o.start.place Tag) (sym (opened_so tag constructed o is) ∙ e), e)
    ]

-- the tag is wrong, or what is behind it
pub tag_err : {A : Type 0} (tag : tags.Tag) (constructed : Bool) (o : Opened) (g : Unit {0} → Reading A) (f : ReadFault) → (expect_at tag constructed o >>= g) ≡ Err f
    → ((IsOf tag constructed o → ⊥) × IsAt o.start.place Tag f) ⊎ (IsOf tag constructed o × (g tt ≡ Err f))
tag_err {A} tag constructed o g f e =
    elim (expect_cases tag constructed o) [
      | inl t ↦ inr (t.0, sym (bind_goes (expect_at tag constructed o) g tt (g tt) t.1 refl) ∙ e)
      | inr t ↦ inl (t.0, refusal_is {A = A} o.start.place Tag f (sym (bind_fails (expect_at tag constructed o) g (NotSpelled o.start.place Tag) t.1) ∙ e))
    ]

pub tag_fails : {A : Type 0} (tag : tags.Tag) (constructed : Bool) (o : Opened) (g : Unit {0} → Reading A) (f : ReadFault)
    → ((IsOf tag constructed o → ⊥) × IsAt o.start.place Tag f) ⊎ (IsOf tag constructed o × (g tt ≡ Err f)) → (expect_at tag constructed o >>= g) ≡ Err f
tag_fails {A} tag constructed o g f (inl h) =
    elim (expect_cases tag constructed o) [
      | inl t ↦ absurd (h.0 t.0)
      | inr t ↦ bind_fails (expect_at tag constructed o) g (NotSpelled o.start.place Tag) t.1 ∙ refused {A = A} o.start.place Tag f h.1
    ]
tag_fails {A} tag constructed o g f (inr h) = bind_goes (expect_at tag constructed o) g tt (Err f) (opened_so tag constructed o h.0) h.1

-- ---- primitive values

not_true : (b : Bool) → not b ≡ true → b ≡ false
not_true true e = absurd cc
not_true false e = refl

strict_and_not : (s m : Bool) → s ≡ true → m ≡ false → (s && not m) ≡ true
strict_and_not true true e h = absurd cc
strict_and_not true false e h = refl
strict_and_not false m e h = absurd cc

clash : {C : Type 0} (b : Bool) → b ≡ true → b ≡ false → C
clash true e h = absurd cc
clash false e h = absurd cc

abbrev behind_rule : {A : Type 0} → Scope → ℕ → Bool → Spot → Option A → Reading (A × Spot)
behind_rule scope at canonical to o = some_or_refuse at (λ x. x) o >>= λ found. form_at scope at canonical >>= λ _. Ok (found, to)

module _ {A : Type 0} (rule : List ℕ → Option A) (canonical : List ℕ → Bool) (P : Bool → List ℕ → Type 0)
    (right : (strict : Bool) (c : List ℕ) (v : A) → AreOctets c → rule c ≡ Some v → (strict ≡ true → canonical c ≡ true) → P strict c)
    (back : (strict : Bool) (c : List ℕ) → P strict c → (v : A) × (rule c ≡ Some v) × (strict ≡ true → canonical c ≡ true)) where
  in_ber : (c : List ℕ) (v : A) → AreOctets c → rule c ≡ Some v → P false c
  in_ber c v are e = right false c v are e (λ k. absurd (let wrong : false ≡ true = k in cc))

  none_in_ber : (c : List ℕ) → rule c ≡ None → P false c → ⊥
  none_in_ber c e p = let b = back false c p in let wrong : ◌≡◌ {A = Option A} None (Some b.0) = sym e ∙ b.1 in cc

  rule_err : (scope : Scope) (at : ℕ) (c : List ℕ) (to : Spot) (f : ReadFault) → AreOctets c → behind_rule scope at (canonical c) to (rule c) ≡ Err f → RuleFault P scope.strict at c f
  rule_err scope at c to f are e =
      elim (option_cases (rule c)) [
        | inl t ↦ inl (none_in_ber c t, refusal_is {A = A × Spot} at Content f (sym (ap (behind_rule scope at (canonical c) to) t) ∙ e))
        | inr t ↦
            let read : (form_at scope at (canonical c) >>= λ _. done {A = A × Spot} (t.0, to)) ≡ Err f = sym (ap (behind_rule scope at (canonical c) to) t.1) ∙ e in
            elim (bind_err (form_at scope at (canonical c)) (λ _. done {A = A × Spot} (t.0, to)) f read) [
              | inl u ↦ elim (cond_err (scope.strict && not (canonical c)) (refuse at Form) (Ok tt) f u) [
                | inl w ↦
                    let b = and_parts scope.strict (not (canonical c)) w.0 in
                    inr (in_ber c t.0 are t.1, b.0, λ p. clash (canonical c) ((back true c p).2 refl) (not_true (canonical c) b.1), refusal_is {A = Unit {0}} at Form f w.1)
                | inr w ↦ absurd (not_err tt f w.1)
              ]
              | inr u ↦ absurd (not_err {A = A × Spot} (t.0, to) f u.2)
            ]
      ]

  rule_fails : (scope : Scope) (at : ℕ) (c : List ℕ) (to : Spot) (f : ReadFault) → AreOctets c → RuleFault P scope.strict at c f → behind_rule scope at (canonical c) to (rule c) ≡ Err f
  rule_fails scope at c to f are (inl h) =
      elim (option_cases (rule c)) [
        | inl t ↦ ap (behind_rule scope at (canonical c) to) t ∙ refused {A = A × Spot} at Content f h.1
        | inr t ↦ absurd (h.0 (in_ber c t.0 are t.1))
      ]
  rule_fails scope at c to f are (inr h) =
      let b = back false c h.0 in
      elim (bool_cases (canonical c)) [
        | inl t ↦ absurd (h.2 (right true c b.0 are b.1 (λ k. t)))
        | inr t ↦ ap (behind_rule scope at (canonical c) to) b.1
            ∙ bind_fails (form_at scope at (canonical c)) (λ _. done {A = A × Spot} (b.0, to)) f (cond_yes (scope.strict && not (canonical c)) _ _ _ (strict_and_not scope.strict (canonical c) h.1 t) (refused {A = Unit {0}} at Form f h.3))
      ]

  abbrev behind_tag : Scope → Spot → Unit {0} → Reading (A × Spot)
  behind_tag scope s u = contents_at scope s.place s.rest >>= λ c. behind_rule scope c.0 (canonical c.1) c.2 (rule c.1)

  contents_in : (scope : Scope) (s : Spot) (at : ℕ) (c : List ℕ) → AreOctets s.rest → Holds scope s at c → AreOctets c
  contents_in scope s at c are h = octets_left c h.more (octets_right h.size (c ++ h.more) (subst AreOctets h.parts are))

  pub primitive_finds : (tag : tags.Tag) → Finds (primitive_at rule canonical tag) (PrimitiveFault tag P)
  unfolding primitive_at
  primitive_finds tag = record {
    finds = λ scope o s f ne are here e.
        elim (tag_err tag false o (behind_tag scope s) f e) [
          | inl t ↦ inl t
          | inr t ↦ inr (
            t.0,
            elim (bind_err (contents_at scope s.place s.rest) (λ c. behind_rule scope c.0 (canonical c.1) c.2 (rule c.1)) f t.1) [
              | inl u ↦ inl (contents_err scope s.place s.rest f ne u)
              | inr u ↦
                  let holds = holds_found scope s u.0.0 u.0.1 u.0.2 u.1 in
                  inr (u.0.0, u.0.1, holds, rule_err scope u.0.0 u.0.1 u.0.2 f (contents_in scope s u.0.0 u.0.1 are holds) u.2)
            ],
          )
        ];
  }

  pub primitive_tells : (tag : tags.Tag) → Tells (primitive_at rule canonical tag) (PrimitiveFault tag P)
  unfolding primitive_at
  primitive_tells tag = record {
    tells = λ scope o s f are here w.
        tag_fails tag false o (behind_tag scope s) f (elim w [
          | inl h ↦ inl h
          | inr h ↦ inr (
            h.0,
            elim h.1 [
              | inl c ↦ bind_fails (contents_at scope s.place s.rest) (λ c. behind_rule scope c.0 (canonical c.1) c.2 (rule c.1)) f (contents_fails scope s.place s.rest f c)
              | inr c ↦ bind_goes (contents_at scope s.place s.rest) (λ c. behind_rule scope c.0 (canonical c.1) c.2 (rule c.1)) (c.0, c.1, record { place = c.0 + length c.1; rest = c.2.more }) (Err f) (holds_read scope s c.0 c.1 c.2)
                  (rule_fails scope c.0 c.1 (record { place = c.0 + length c.1; rest = c.2.more }) f (contents_in scope s c.0 c.1 are c.2) c.3)
            ],
          )
        ]);
  }

-- ---- constructed values

pub in_extent : (scope : Scope) (s : Spot) (x : Scope) (b : Spot) → Extends scope s x b → IsIn x b.place
in_extent scope s x b (inl h) =
    let end : ℕ = b.place + h.1 in
    let within = h.5 in
    let limit : b.place ≤ scope.limit = omega (arith, within.limit) in
    let there : b.place ≤ end = omega arith in
    rw (h.6) (record { limit = limit; end = le-ltb end b.place there })
in_extent scope s x b (inr h) =
    let within = h.3 in
    rw (h.4) (record { limit = within.limit; end = within.end })

pub octets_extent : (scope : Scope) (s : Spot) (x : Scope) (b : Spot) → Extends scope s x b → AreOctets s.rest → AreOctets b.rest
octets_extent scope s x b (inl h) are = octets_right h.0 b.rest (subst AreOctets h.3 are)
octets_extent scope s x b (inr h) are = octets_right (128 ∷ []) b.rest (subst AreOctets h.1 are)

pub body_err : {A : Type 0} (body : BodyOf A) (Inside : WrongIn) → BodyFinds body Inside → (scope : Scope) (s : Spot) (f : ReadFault) → (f ≡ Short → ⊥) → AreOctets s.rest
    → (extent_at scope s.place s.rest >>= λ x. body x.0 x.1) ≡ Err f → BodyFault Inside scope s f
body_err body Inside h scope s f ne are e =
    elim (bind_err (extent_at scope s.place s.rest) (λ x. body x.0 x.1) f e) [
      | inl t ↦ inl (extent_err scope s.place s.rest f ne t)
      | inr t ↦
          let x = extends_found scope s t.0.0 t.0.1 t.1 in
          inr (t.0.0, t.0.1, x, h.finds t.0.0 t.0.1 f ne (octets_extent scope s t.0.0 t.0.1 x are) (in_extent scope s t.0.0 t.0.1 x) t.2)
    ]

pub body_fails : {A : Type 0} (body : BodyOf A) (Inside : WrongIn) → BodyTells body Inside → (scope : Scope) (s : Spot) (f : ReadFault) → AreOctets s.rest → BodyFault Inside scope s f
    → (extent_at scope s.place s.rest >>= λ x. body x.0 x.1) ≡ Err f
body_fails body Inside h scope s f are (inl w) = bind_fails (extent_at scope s.place s.rest) (λ x. body x.0 x.1) f (extent_fails scope s.place s.rest f w)
body_fails body Inside h scope s f are (inr w) =
    bind_goes (extent_at scope s.place s.rest) (λ x. body x.0 x.1) (w.0, w.1) (Err f) (extends_read scope s w.0 w.1 w.2) (h.tells w.0 w.1 f (octets_extent scope s w.0 w.1 w.2 are) w.3)

pub constructed_finds : {A : Type 0} (body : BodyOf A) (tag : tags.Tag) (Inside : WrongIn) → BodyFinds body Inside → Finds (constructed_at body tag) (ConstructedFault tag Inside)
constructed_finds body tag Inside h = record {
  finds = λ scope o s f ne are here e.
      elim (tag_err tag true o (λ _. extent_at scope s.place s.rest >>= λ x. body x.0 x.1) f e) [
        | inl t ↦ inl t
        | inr t ↦ inr (t.0, body_err body Inside h scope s f ne are t.1)
      ];
}

pub constructed_tells : {A : Type 0} (body : BodyOf A) (tag : tags.Tag) (Inside : WrongIn) → BodyTells body Inside → Tells (constructed_at body tag) (ConstructedFault tag Inside)
constructed_tells body tag Inside h = record {
  tells = λ scope o s f are here w.
      tag_fails tag true o (λ _. extent_at scope s.place s.rest >>= λ x. body x.0 x.1) f (elim w [
        | inl k ↦ inl k
        | inr k ↦ inr (k.0, body_fails body Inside h scope s f are k.1)
      ]);
}
