-- What it means that a reader reads what a relation spells, and the laws of primitive and constructed values.
use Rattle.std.proofs.Common.{◌≡◌, ◌≢◌, ℕ, ◌+◌, ◌^◌, ◌<◌, Bool, true, false, not, ◌&&◌, cond, List, [], ◌∷◌, ◌++◌, length, Option, Some, None, Ok, Err, refl, sym, ap, ◌∙◌, subst, arith, append_assoc, length-append, inl, inr}
use Rattle.std.specs.Prelude.{nat_lt, nat_eq}
use Rattle.std.proofs.lemmas.Bool.{lt-ltb, ltb-true, eqb-true, eqb-false, and_parts}
use Rattle.osi_base.specs.declared.layer_words.Kind.TheVariants.{Tag, Form}
use Rattle.asn1_types.specs.declared.row.Class.{Class}
use Rattle.asn1_types.specs.declared.row.Class.TheVariants.{Universal, Application, Context, Private}
use Rattle.asn1_types.specs.Rows.{same_class, is_no_tag}
use Rattle.asn1_types.specs.Value.{Value}
use Rattle.ber_spelling.specs.declared.fault.ReadFault.{ReadFault}
use Rattle.ber_spelling.specs.declared.fault.ReadFault.TheVariants as faults
use Rattle.ber_spelling.specs.declared.spot.Scope.{Scope}
use Rattle.asn1_types.specs.declared.row.Tag as tags
use Rattle.asn1_types.specs.Tags.{capped, leading}
use Rattle.osi_base.specs.Octets.{AreOctets}
use Rattle.osi_base.proofs.OctetLaws.{octets_left, octets_right}
use Rattle.ber_spelling.specs.Reading.{Spot, Opened, Reading, refuse}
use Rattle.ber_spelling.specs.Fields.{identifier_at, contents_at}
use Rattle.ber_spelling.specs.Rules.{is_opened, expect_at, some_or_refuse, form_at, primitive_at}
use Rattle.ber_spelling.specs.Spelling.{IsIdentifier, IsPrimitive}
use Rattle.ber_spelling.proofs.Identifiers.{IsIn, in_before, Taken, bind_ok, chosen_ok, ok_is, done, identifier_found, identifier_again}
use Rattle.ber_spelling.proofs.Lengths.{contents_found, contents_again}

abbrev pub RunOf : Type 0 → Type 0
RunOf A = Scope → Opened → Spot → Reading (A × Spot)

abbrev pub Run : Type 0
Run = RunOf Value

abbrev pub RelationOf : Type 0 → Type 1
RelationOf A = Bool → ℕ → A → List ℕ → Type 0

abbrev pub Relation : Type 1
Relation = RelationOf Value

-- octets at a place were read as a value, and spell it
pub record ReadAs {A : Type 0} (P : RelationOf A) (scope : Scope) (place : ℕ) (rest : List ℕ) (v : A) (to : Spot) : Type 0 where
  pub text : List ℕ
  pub taken : Taken place rest text to
  pub spelled : P scope.strict scope.levels v text
  pub is_in : IsIn scope to.place

-- what is read is spelled so
pub record Found {A : Type 0} (r : RunOf A) (P : RelationOf A) : Type 0 where
  pub found : (scope : Scope) (place : ℕ) (rest : List ℕ) (o : Opened) (s : Spot) (v : A) (to : Spot)
      → AreOctets rest → identifier_at scope place rest ≡ Ok (o, s) → r scope o s ≡ Ok (v, to) → ReadAs P scope place rest v to

-- a spelling is read as its value, whatever follows, and begins with an identifier that is allowed
pub record ReadBack {A : Type 0} (B : Class → ℕ → Type 0) (r : RunOf A) (scope : Scope) (place : ℕ) (text rest : List ℕ) (v : A) : Type 0 where
  pub opened : Opened
  pub spot : Spot
  pub first : ℕ
  pub others : List ℕ
  pub begins : text ≡ first ∷ others
  pub some : first ≢ 0
  pub opens : identifier_at scope place (text ++ rest) ≡ Ok (opened, spot)
  pub allowed : B opened.class opened.number
  pub reads : r scope opened spot ≡ Ok (v, record { place = place + length text; rest = rest })

pub record Only {A : Type 0} (B : Class → ℕ → Type 0) (r : RunOf A) (P : RelationOf A) : Type 0 where
  pub only : (scope : Scope) (place : ℕ) (v : A) (text rest : List ℕ)
      → P scope.strict scope.levels v text → IsIn scope (place + length text) → ReadBack B r scope place text rest v

pub only_wider : {A : Type 0} (B D : Class → ℕ → Type 0) (r : RunOf A) (P : RelationOf A) → ((c : Class) (k : ℕ) → B c k → D c k) → Only B r P → Only D r P
only_wider B D r P w h = record {
  only = λ scope place v text rest p here.
      let x = h.only scope place v text rest p here in
      record { opened = x.opened; spot = x.spot; first = x.first; others = x.others; begins = x.begins; some = x.some; opens = x.opens; allowed = w x.opened.class x.opened.number x.allowed; reads = x.reads };
}

-- ---- octets in parts

pub taken_octets : (place : ℕ) (rest text : List ℕ) (to : Spot) → Taken place rest text to → AreOctets rest → AreOctets to.rest
taken_octets place rest text to t h = octets_right text to.rest (subst AreOctets t.parts h)

pub taken_then : (place : ℕ) (rest a b : List ℕ) (mid to : Spot) → Taken place rest a mid → Taken mid.place mid.rest b to → Taken place rest (a ++ b) to
taken_then place rest a b mid to s t = record {
  parts = s.parts ∙ ap (λ (x : List ℕ). a ++ x) t.parts ∙ sym (append_assoc a b to.rest);
  onward = omega (arith, s.onward, t.onward, length-append a b);
}

-- ---- tags

pub same_classes : (a b : Class) → same_class a b ≡ true → a ≡ b
same_classes Universal Universal e = refl
same_classes Universal Application e = absurd cc
same_classes Universal Context e = absurd cc
same_classes Universal Private e = absurd cc
same_classes Application Universal e = absurd cc
same_classes Application Application e = refl
same_classes Application Context e = absurd cc
same_classes Application Private e = absurd cc
same_classes Context Universal e = absurd cc
same_classes Context Application e = absurd cc
same_classes Context Context e = refl
same_classes Context Private e = absurd cc
same_classes Private Universal e = absurd cc
same_classes Private Application e = absurd cc
same_classes Private Context e = absurd cc
same_classes Private Private e = refl

pub class_itself : (a : Class) → same_class a a ≡ true
class_itself Universal = refl
class_itself Application = refl
class_itself Context = refl
class_itself Private = refl

pub eqb_itself : (n : ℕ) → nat_eq n n ≡ true
eqb_itself n = grind arith

form_is : (a b : Bool) → cond a b (not b) ≡ true → b ≡ a
form_is true b e = e
form_is false true e = absurd cc
form_is false false e = refl

pub record IsOf (tag : tags.Tag) (constructed : Bool) (o : Opened) : Type 0 where
  pub class : o.class ≡ tag.class
  pub number : o.number ≡ tag.number
  pub small : tag.number < 2 ^ 32
  pub form : o.constructed ≡ constructed

pub opened_as : (tag : tags.Tag) (constructed : Bool) (o : Opened) (x : Unit {0}) → expect_at tag constructed o ≡ Ok x → IsOf tag constructed o
opened_as tag constructed o x e =
    elim (chosen_ok (is_opened tag constructed o) (Ok tt) (refuse o.start.place Tag) x e) [
      | inl t ↦
          let a = and_parts _ (cond constructed o.constructed (not o.constructed)) t.0 in
          let b = and_parts _ (nat_lt tag.number (2 ^ 32)) a.0 in
          let c = and_parts (same_class o.class tag.class) (nat_eq o.number tag.number) b.0 in
          record { class = same_classes o.class tag.class c.0; number = eqb-true o.number tag.number c.1; small = ltb-true tag.number (2 ^ 32) b.1; form = form_is constructed o.constructed a.1 }
      | inr t ↦ absurd (let wrong : Err (faults.NotSpelled o.start.place Tag) ≡ done x = t.1 in cc)
    ]

form_same : (a : Bool) → cond a a (not a) ≡ true
form_same true = refl
form_same false = refl

pub expected : (tag : tags.Tag) (constructed : Bool) (start : Spot) → tag.number < 2 ^ 32 → expect_at tag constructed (record { start = start; class = tag.class; constructed = constructed; number = tag.number }) ≡ Ok tt
expected tag constructed start small = rw (class_itself tag.class, eqb_itself tag.number, lt-ltb tag.number (2 ^ 32) small, form_same constructed) refl

-- the first octet of an identifier that is no end-of-contents
leading_some : (class : Class) (constructed : Bool) (number : ℕ) → is_no_tag class number ≡ false → leading class constructed + number ≢ 0
leading_some Universal true number tagged e = absurd (omega arith)
leading_some Universal false number tagged e = eqb-false number 0 tagged (omega arith)
leading_some Application constructed number tagged e = absurd (omega arith)
leading_some Context constructed number tagged e = absurd (omega arith)
leading_some Private constructed number tagged e = absurd (omega arith)

pub record Head (head : List ℕ) : Type 0 where
  pub first : ℕ
  pub others : List ℕ
  pub are : head ≡ first ∷ others
  pub some : first ≢ 0

pub head_some : (class : Class) (constructed : Bool) (number : ℕ) (head : List ℕ) → is_no_tag class number ≡ false → IsIdentifier class constructed number head → Head head
head_some class constructed number [] tagged h = absurd h
head_some class constructed number (first ∷ others) tagged (inl h) = record { first = first; others = others; are = refl; some = λ e. leading_some class constructed number tagged (sym h.1 ∙ e) }
head_some class constructed number (first ∷ others) tagged (inr h) = record { first = first; others = others; are = refl; some = λ e. let big : first ≡ leading class constructed + 31 = h.1 in absurd (omega arith) }

-- ---- primitive values

pub judge_is : {B : Type 0} (place : ℕ) (o : Option B) (v : B) → some_or_refuse place (λ (x : B). x) o ≡ Ok v → o ≡ Some v
judge_is place None v e = absurd cc
judge_is place (Some x) v e = ap (λ y. Some y) (ok_is x v e)

form_by : (s c : Bool) (f : ReadFault) (x : Unit {0}) → s ≡ true → cond (s && not c) (Err f) (Ok tt) ≡ Ok x → c ≡ true
form_by true true f x h e = refl
form_by true false f x h e = absurd cc
form_by false c f x h e = absurd cc

-- what DER refuses was not refused
pub form_ok : (scope : Scope) (place : ℕ) (canonical : Bool) (x : Unit {0}) → form_at scope place canonical ≡ Ok x → scope.strict ≡ true → canonical ≡ true
form_ok scope place canonical x e h = form_by scope.strict canonical (faults.NotSpelled place Form) x h e

lax_by : (s : Bool) (f : ReadFault) (x : Unit {0}) → cond (s && not false) (Err f) (Ok tt) ≡ Ok x → s ≡ false
lax_by true f x e = absurd cc
lax_by false f x e = refl

pub form_lax : (scope : Scope) (place : ℕ) (x : Unit {0}) → form_at scope place false ≡ Ok x → scope.strict ≡ false
form_lax scope place x e = lax_by scope.strict (faults.NotSpelled place Form) x e

passes_by : (s c : Bool) (f : ReadFault) → (s ≡ true → c ≡ true) → cond {A = Reading (Unit {0})} (s && not c) (Err f) (Ok tt) ≡ Ok tt
passes_by true true f h = refl
passes_by true false f h = absurd (let wrong : false ≡ true = h refl in cc)
passes_by false c f h = refl

pub form_passes : (scope : Scope) (place : ℕ) (canonical : Bool) → (scope.strict ≡ true → canonical ≡ true) → form_at scope place canonical ≡ Ok tt
form_passes scope place canonical h = passes_by scope.strict canonical (faults.NotSpelled place Form) h

capped_small : (n m : ℕ) → m ≡ capped n → m < 2 ^ 32 → n ≡ m
capped_small n m e lt = omega arith

-- an identifier that was read is the tag's
pub tag_is : (tag : tags.Tag) (constructed : Bool) (o : Opened) (number : ℕ) (head : List ℕ) → IsOf tag constructed o → o.number ≡ capped number → IsIdentifier o.class o.constructed number head → IsIdentifier tag.class constructed tag.number head
tag_is tag constructed o number head is e h =
    let small : o.number < 2 ^ 32 = let lt = is.small in let same = is.number in omega arith in
    let n : number ≡ tag.number = capped_small number o.number e small ∙ is.number in
    let C : Class × Bool × ℕ → Type 0 = λ x. IsIdentifier x.0 x.1 x.2 head in
    subst C (λ i. (is.class i, is.form i, n i)) h

pub prim_found : {A : Type 0} (rule : List ℕ → Option A) (canonical : List ℕ → Bool) (tag : tags.Tag) (P : Bool → A → List ℕ → Type 0)
    → ((strict : Bool) (c : List ℕ) (v : A) → AreOctets c → rule c ≡ Some v → (strict ≡ true → canonical c ≡ true) → P strict v c)
    → Found (primitive_at rule canonical tag) (λ strict levels v text. IsPrimitive tag strict levels (P strict v) text)
unfolding primitive_at
prim_found {A} rule canonical tag P sound = record {
  found = λ scope place rest o s v to octets opens e.
      let i = identifier_found scope place rest o s octets opens in
      let b1 = bind_ok (expect_at tag false o) _ (v, to) e in
      let is = opened_as tag false o b1.0 b1.1 in
      let b2 = bind_ok (contents_at scope s.place s.rest) _ (v, to) b1.2 in
      let c = contents_found scope s.place s.rest b2.0.0 b2.0.1 b2.0.2 b2.1 in
      let b3 = bind_ok (some_or_refuse b2.0.0 (λ (x : A). x) (rule b2.0.1)) _ (v, to) b2.2 in
      let b4 = bind_ok (form_at scope b2.0.0 (canonical b2.0.1)) _ (v, to) b3.2 in
      let same = ok_is {A = A × Spot} (b3.0, b2.0.2) (v, to) b4.2 in
      let v-is : b3.0 ≡ v = ap (λ (x : A × Spot). x.0) same in
      let to-is : b2.0.2 ≡ to = ap (λ (x : A × Spot). x.1) same in
      let ruled : rule b2.0.1 ≡ Some v = judge_is b2.0.0 (rule b2.0.1) b3.0 b3.1 ∙ ap (λ (y : A). Some y) v-is in
      let behind : AreOctets s.rest = taken_octets place rest i.head s i.taken octets in
      let inner : AreOctets b2.0.1 = octets_right c.size b2.0.1 (octets_left (c.size ++ b2.0.1) b2.0.2.rest (subst AreOctets c.taken.parts behind)) in
      subst (λ (y : Spot). ReadAs (λ strict levels v text. IsPrimitive tag strict levels (P strict v) text) scope place rest v y) to-is (record {
        text = i.head ++ (c.size ++ b2.0.1);
        taken = taken_then place rest i.head (c.size ++ b2.0.1) s b2.0.2 i.taken c.taken;
        spelled = record {
          level = i.level;
          small = is.small;
          form = record { head = i.head; size = c.size; contents = b2.0.1; is_identifier = tag_is tag false o i.number i.head is i.capped_number i.is_identifier; is_length = c.is_length; holds = sound scope.strict b2.0.1 v inner ruled (form_ok scope b2.0.0 (canonical b2.0.1) b4.0 b4.1); are = refl };
        };
        is_in = c.is_in;
      });
}

abbrev pub OfTag : tags.Tag → Class → ℕ → Type 0
OfTag tag class number = (class ≡ tag.class) × (number ≡ tag.number)

pub regroup : (head size contents rest : List ℕ) → (head ++ (size ++ contents)) ++ rest ≡ head ++ (size ++ (contents ++ rest))
regroup head size contents rest = simp append_assoc

pub regroup_marked : (head contents rest : List ℕ) → (head ++ (128 ∷ (contents ++ (0 ∷ 0 ∷ [])))) ++ rest ≡ head ++ (128 ∷ (contents ++ (0 ∷ 0 ∷ rest)))
regroup_marked head contents rest = simp append_assoc

pub capped_is : (n : ℕ) → n < 2 ^ 32 → capped n ≡ n
capped_is n lt = omega arith

-- the identifier of a tag is read so
pub tag_again : (scope : Scope) (place : ℕ) (tag : tags.Tag) (constructed : Bool) (head rest : List ℕ) → IsIdentifier tag.class constructed tag.number head → tag.number < 2 ^ 32 → 0 < scope.levels → IsIn scope (place + length head)
    → identifier_at scope place (head ++ rest) ≡ Ok (record { start = record { place = place; rest = head ++ rest }; class = tag.class; constructed = constructed; number = tag.number }, record { place = place + length head; rest = rest })
tag_again scope place tag constructed head rest h small level here =
    identifier_again scope place tag.class constructed tag.number head rest h level here
    ∙ ap (λ (k : ℕ). Ok (record { start = record { place = place; rest = head ++ rest }; class = tag.class; constructed = constructed; number = k }, record { place = place + length head; rest = rest })) (capped_is tag.number small)

pub prim_only : {A : Type 0} (rule : List ℕ → Option A) (canonical : List ℕ → Bool) (tag : tags.Tag) (P : Bool → A → List ℕ → Type 0) → is_no_tag tag.class tag.number ≡ false
    → ((strict : Bool) (c : List ℕ) (v : A) → P strict v c → (rule c ≡ Some v) × (strict ≡ true → canonical c ≡ true))
    → Only (OfTag tag) (primitive_at rule canonical tag) (λ strict levels v text. IsPrimitive tag strict levels (P strict v) text)
unfolding primitive_at
prim_only {A} rule canonical tag P tagged complete = record {
  only = λ scope place v text rest p here.
      let f = p.form in
      let h = head_some tag.class false tag.number f.head tagged f.is_identifier in
      let len : length text ≡ length f.head + (length f.size + length f.contents) = ap length f.are ∙ length-append f.head (f.size ++ f.contents) ∙ ap (λ (n : ℕ). length f.head + n) (length-append f.size f.contents) in
      let whole : text ++ rest ≡ f.head ++ (f.size ++ (f.contents ++ rest)) = ap (λ (x : List ℕ). x ++ rest) f.are ∙ regroup f.head f.size f.contents rest in
      let start : Spot = record { place = place; rest = f.head ++ (f.size ++ (f.contents ++ rest)) } in
      let o : Opened = record { start = start; class = tag.class; constructed = false; number = tag.number } in
      let at : ℕ = place + length f.head in
      let to-is : place + length text ≡ at + length f.size + length f.contents = omega arith in
      let opens = tag_again scope place tag false f.head (f.size ++ (f.contents ++ rest)) f.is_identifier p.small p.level (in_before scope at (place + length text) (omega arith) here) in
      let contents = contents_again scope at f.size f.contents rest f.is_length (subst (IsIn scope) to-is here) in
      let ruled = complete scope.strict f.contents v f.holds in
      record {
        opened = o;
        spot = record { place = at; rest = f.size ++ (f.contents ++ rest) };
        first = h.first;
        others = h.others ++ (f.size ++ f.contents);
        begins = f.are ∙ ap (λ (x : List ℕ). x ++ (f.size ++ f.contents)) h.are;
        some = h.some;
        opens = ap (identifier_at scope place) whole ∙ opens;
        allowed = (refl, refl);
        reads = rw (expected tag false start p.small, contents, ruled.0, form_passes scope (at + length f.size) (canonical f.contents) ruled.1)
            (ap (λ (n : ℕ). Ok (v, record { place = n; rest = rest })) (sym to-is));
      };
}
