-- Fields that spell octets, by the grammar and as they are read.
use Rattle.std.proofs.Common.{◌≡◌, ℕ, ◌+◌, ◌-◌, ◌*◌, Bool, true, false, cond, List, [], ◌∷◌, ◌++◌, Option, Some, None, refl, sym, ap, subst, ◌∙◌, append_assoc, inl, inr, arith}
use Rattle.std.specs.Prelude.{◌⊎◌, ◌&&◌, nat_le, filter}
use Rattle.std.proofs.lemmas.Bool.Decides.{nat_tests}
use Rattle.std.proofs.lemmas.List.{append-nil}
use Rattle.osi_base.specs.Hexadecimal.{digit_of, by_digits, octet_of}
use Rattle.osi_base.specs.declared.layer_words.Side.{Side}
use Rattle.trace_file.specs.declared.reading.Recorded.{Recorded}
use Rattle.trace_file.specs.Lines.{pieces_of, has_any, fields_of, sender_of}
use Rattle.trace_file.specs.Grammar.{Digit, Spells, AllSpell, TellsFrom, Tells, IsFaultyField, IsFaultyLine}
use Rattle.trace_file.specs.Reading.{then_octet, more_octets, LineRead, other, tells, faulty, begun, gone_on, line_at, line_of}

abbrev number : ℕ → Option ℕ
number n = Some n

abbrev some : List ℕ → Option (List ℕ)
some xs = Some xs

abbrev nothing : Option (List ℕ)
nothing = None

-- ---- digits

picked : (b : Bool) (x n : ℕ) (r : Option ℕ) → cond b (number x) r ≡ Some n → ((b ≡ true) × (x ≡ n)) ⊎ ((b ≡ false) × (r ≡ Some n))
picked true x n r e = inl (refl, cc)
picked false x n r e = inr (refl, e)

digit_found : (d n : ℕ) → digit_of d ≡ Some n → Digit d n
digit_found d n e =
    elim (picked (nat_le 48 d && nat_le d 57) (d - 48) n _ e) [
      | inl f ↦ inl (grind (arith, nat_tests), grind (arith, nat_tests))
      | inr f ↦ elim (picked (nat_le 65 d && nat_le d 70) (d - 65 + 10) n _ f.1) [
        | inl g ↦ inr (grind (arith, nat_tests), grind (arith, nat_tests), inl (grind (arith, nat_tests)))
        | inr g ↦ elim (picked (nat_le 97 d && nat_le d 102) (d - 97 + 10) n _ g.1) [
          | inl h ↦ inr (grind (arith, nat_tests), grind (arith, nat_tests), inr (grind (arith, nat_tests)))
          | inr h ↦ absurd (let e : number n ≡ None = sym h.1 in cc)
        ]
      ]
    ]

digit_again : (d n : ℕ) → Digit d n → digit_of d ≡ Some n
digit_again d n (inl e) = grind (arith, nat_tests)
digit_again d n (inr (a, b, inl e)) = grind (arith, nat_tests)
digit_again d n (inr (a, b, inr e)) = grind (arith, nat_tests)

pair_found : (a b : Option ℕ) (octet : ℕ) → by_digits a b ≡ Some octet → (m n : ℕ) × (a ≡ Some m) × (b ≡ Some n) × (octet ≡ 16 * m + n)
pair_found None b octet e = absurd cc
pair_found (Some m) None octet e = absurd cc
pair_found (Some m) (Some n) octet e = (m, n, refl, refl, cc)

-- ---- a field

then_found : (o : Option ℕ) (f : ℕ → Option (List ℕ)) (all : List ℕ) → then_octet o f ≡ Some all → (octet : ℕ) × (o ≡ Some octet) × (f octet ≡ Some all)
then_found None f all e = absurd cc
then_found (Some octet) f all e = (octet, refl, e)

more_found : (octets field all : List ℕ) → more_octets octets field ≡ Some all → (os : List ℕ) × Spells field os × (all ≡ octets ++ os)
unfolding more_octets
more_found octets [] all e = ([], refl, (let h : octets ≡ all = cc in sym h ∙ sym (append-nil octets)))
more_found octets (high ∷ []) all e = absurd cc
more_found octets (high ∷ low ∷ rest) all e =
    let t = then_found (octet_of high low) _ all e in
    let p = pair_found (digit_of high) (digit_of low) t.0 t.1 in
    let r = more_found (octets ++ t.0 ∷ []) rest all t.2 in
    (t.0 ∷ r.0, (p.0, p.1, r.0, digit_found high p.0 p.2, digit_found low p.1 p.3, r.1, ap (λ (o : ℕ). o ∷ r.0) p.4), r.2 ∙ append_assoc octets (t.0 ∷ []) r.0)

pub more_again : (octets field os : List ℕ) → Spells field os → more_octets octets field ≡ Some (octets ++ os)
unfolding more_octets
more_again octets [] os e = ap some (sym (append-nil octets) ∙ ap (λ (l : List ℕ). octets ++ l) (sym e))
more_again octets (high ∷ []) os e = absurd e
more_again octets (high ∷ low ∷ rest) os e =
    let octet = 16 * e.0 + e.1 in
    let is : octet_of high low ≡ Some octet = rw (digit_again high e.0 e.3, digit_again low e.1 e.4) refl in
    ap (λ (o : Option ℕ). then_octet o (λ octet. more_octets (octets ++ octet ∷ []) rest)) is ∙ more_again (octets ++ octet ∷ []) rest e.2 e.5
    ∙ ap some (append_assoc octets (octet ∷ []) e.2 ∙ ap (λ (l : List ℕ). octets ++ l) (sym e.6))

pub spells_one : (field a b : List ℕ) → Spells field a → Spells field b → a ≡ b
spells_one field a b p q =
    let e : some ([] ++ a) ≡ some ([] ++ b) = sym (more_again [] field a p) ∙ more_again [] field b q in cc

-- ---- fields together

pub all_one : (fields : List (List ℕ)) (a b : List ℕ) → AllSpell fields a → AllSpell fields b → a ≡ b
all_one [] a b p q = p ∙ sym q
all_one (field ∷ fields) a b p q =
    p.4 ∙ ap (λ (l : List ℕ). l ++ p.1) (spells_one field p.0 q.0 p.2 q.2) ∙ ap (λ (l : List ℕ). q.0 ++ l) (all_one fields p.1 q.1 p.3 q.3) ∙ sym q.4

none_spells : (right : List (List ℕ)) (field : List ℕ) (others : List (List ℕ)) (all : List ℕ) → ((octets : List ℕ) → Spells field octets → ⊥) → AllSpell (right ++ field ∷ others) all → ⊥
none_spells [] field others all wrong a = wrong a.0 a.2
none_spells (first ∷ right) field others all wrong a = none_spells right field others a.1 wrong a.3

pub faulty_spells : (fields : List (List ℕ)) (all : List ℕ) → IsFaultyField fields → AllSpell fields all → ⊥
faulty_spells fields all f a = none_spells f.right f.field f.others all f.wrong (subst (λ (l : List (List ℕ)). AllSpell l all) f.parts a)

-- ---- a line

-- what a line with these fields is, of whose octets these were read
abbrev SomeMeans : Side → List ℕ → List (List ℕ) → LineRead → Type 0
SomeMeans from octets fields other = ⊥
SomeMeans from octets fields (tells one) = (os : List ℕ) × AllSpell fields os × (one ≡ record { from = from; octets = octets ++ os })
SomeMeans from octets fields faulty = IsFaultyField fields

abbrev told_from : Side → List ℕ → Recorded
told_from from octets = record { from = from; octets = octets }

one_more : (from : Side) (octets field first next : List ℕ) (fields : List (List ℕ)) (r : LineRead) → Spells field first → next ≡ octets ++ first → SomeMeans from next fields r → SomeMeans from octets (field ∷ fields) r
one_more from octets field first next fields other s e h = h
one_more from octets field first next fields (tells one) s e h =
    (first ++ h.0, (first, h.0, s, h.1, refl), h.2 ∙ ap (told_from from) (ap (λ (l : List ℕ). l ++ h.0) e ∙ append_assoc octets first h.0))
one_more from octets field first next fields faulty s e h = record {
  right = field ∷ h.right;
  field = h.field;
  others = h.others;
  octets = first ++ h.octets;
  parts = ap (λ (l : List (List ℕ)). field ∷ l) h.parts;
  spell = (first, h.octets, s, h.spell, refl);
  wrong = h.wrong;
}

gone_means : (from : Side) (octets field : List ℕ) (fields : List (List ℕ)) (next : List ℕ → LineRead) (o : Option (List ℕ)) → more_octets octets field ≡ o
    → ((os : List ℕ) → SomeMeans from os fields (next os)) → SomeMeans from octets (field ∷ fields) (gone_on o next)
gone_means from octets field fields next None e h = record {
  right = [];
  field = field;
  others = fields;
  octets = [];
  parts = refl;
  spell = refl;
  wrong = λ os s. (let f : nothing ≡ some (octets ++ os) = sym e ∙ more_again octets field os s in cc);
}
gone_means from octets field fields next (Some os) e h =
    let f = more_found octets field os e in
    one_more from octets field f.0 os fields (next os) f.1 f.2 (h os)

some_means : (from : Side) (octets : List ℕ) (pieces : List (List ℕ)) → SomeMeans from octets (filter has_any pieces) (line_at (Some from) octets pieces)
unfolding line_at
some_means from octets [] = ([], refl, ap (told_from from) (sym (append-nil octets)))
some_means from octets ([] ∷ pieces) = some_means from octets pieces
some_means from octets ((d ∷ ds) ∷ pieces) =
    gone_means from octets (d ∷ ds) (filter has_any pieces) (λ next. line_at (Some from) next pieces) (more_octets octets (d ∷ ds)) refl (λ os. some_means from os pieces)

-- what a line with these fields is
abbrev pub Means : List (List ℕ) → LineRead → Type 0
Means fields other = Tells fields None
Means fields (tells one) = Tells fields (Some one)
Means fields faulty = IsFaultyLine fields

known_means : (word : List ℕ) (fields : List (List ℕ)) (from : Side) (r : LineRead) → sender_of word ≡ Some from → SomeMeans from [] fields r → Means (word ∷ fields) r
known_means word fields from other e h = absurd h
known_means word fields from (tells one) e h =
    subst (λ (s : Option Side). TellsFrom s fields (Some one)) (sym e) (h.0, h.1, (let same = h.2 in cc))
known_means word fields from faulty e h = (from, e, h)

begun_means : (word : List ℕ) (fields : List (List ℕ)) (next : Side → LineRead) (s : Option Side) → sender_of word ≡ s → ((from : Side) → SomeMeans from [] fields (next from)) → Means (word ∷ fields) (begun s next)
begun_means word fields next None e h = subst (λ (s : Option Side). TellsFrom s fields None) (sym e) refl
begun_means word fields next (Some from) e h = known_means word fields from (next from) e (h from)

none_means : (pieces : List (List ℕ)) → Means (filter has_any pieces) (line_at None [] pieces)
unfolding line_at
none_means [] = refl
none_means ([] ∷ pieces) = none_means pieces
none_means ((d ∷ ds) ∷ pieces) =
    begun_means (d ∷ ds) (filter has_any pieces) (λ from. line_at (Some from) [] pieces) (sender_of (d ∷ ds)) refl (λ from. some_means from [] pieces)

pub line_means : (line : List ℕ) → Means (fields_of line) (line_of line)
line_means line = none_means (pieces_of line)

-- ---- a line tells one thing

from_one : (s : Option Side) (fields : List (List ℕ)) (a b : Option Recorded) → TellsFrom s fields a → TellsFrom s fields b → a ≡ b
from_one None fields a b p q = p ∙ sym q
from_one (Some from) fields a b p q = p.2 ∙ ap (λ (l : List ℕ). Some (told_from from l)) (all_one fields p.0 q.0 p.1 q.1) ∙ sym q.2

tells_one : (fields : List (List ℕ)) (a b : Option Recorded) → Tells fields a → Tells fields b → a ≡ b
tells_one [] a b p q = p ∙ sym q
tells_one (word ∷ fields) a b p q = from_one (sender_of word) fields a b p q

faulty_from : (s : Option Side) (from : Side) (fields : List (List ℕ)) (a : Option Recorded) → s ≡ Some from → IsFaultyField fields → TellsFrom s fields a → ⊥
faulty_from None from fields a e f t = cc
faulty_from (Some side) from fields a e f t = faulty_spells fields t.0 f t.1

faulty_tells : (fields : List (List ℕ)) (a : Option Recorded) → IsFaultyLine fields → Tells fields a → ⊥
faulty_tells [] a f t = f
faulty_tells (word ∷ fields) a f t = faulty_from (sender_of word) f.0 fields a f.1 f.2 t

-- what is read of a line that tells this
abbrev pub read_as : Option Recorded → LineRead
read_as None = other
read_as (Some one) = tells one

abbrev recorded : Recorded → Option Recorded
recorded one = Some one

abbrev no_record : Option Recorded
no_record = None

read_tells : (fields : List (List ℕ)) (r : LineRead) (a : Option Recorded) → Means fields r → Tells fields a → r ≡ read_as a
read_tells fields other a m t = ap read_as (tells_one fields no_record a m t)
read_tells fields (tells one) a m t = ap read_as (tells_one fields (recorded one) a m t)
read_tells fields faulty a m t = absurd (faulty_tells fields a m t)

pub line_again : (line : List ℕ) (a : Option Recorded) → Tells (fields_of line) a → line_of line ≡ read_as a
line_again line a t = read_tells (fields_of line) (line_of line) a (line_means line) t

read_faulty : (fields : List (List ℕ)) (r : LineRead) → Means fields r → IsFaultyLine fields → r ≡ faulty
read_faulty fields other m f = absurd (faulty_tells fields no_record f m)
read_faulty fields (tells one) m f = absurd (faulty_tells fields (recorded one) f m)
read_faulty fields faulty m f = refl

pub faulty_again : (line : List ℕ) → IsFaultyLine (fields_of line) → line_of line ≡ faulty
faulty_again line f = read_faulty (fields_of line) (line_of line) (line_means line) f
