-- What is read is spelled so, and what is spelled so is read.
use Rattle.std.proofs.Common.{◌≡◌, ℕ, zero, suc, ◌+◌, ◌*◌, ◌/◌, ◌%◌, ◌<◌, ◌≤◌, ◌==◌, Bool, true, false, ltb, List, [], ◌∷◌, ◌++◌, length, take, drop, Option, Some, None, Result, Ok, Err, refl, sym, ap, subst, ◌∙◌, append_assoc, inl, inr, arith}
use Rattle.std.specs.Prelude.{◌⊎◌, ◌&&◌, ◌||◌, not}
use Rattle.std.proofs.lemmas.Bool.{ltb-false, le-ltb, cases_Bool, and_parts, or_cases}
use Rattle.std.proofs.lemmas.List.{take-append-drop, length-append, length-take, take_at, drop_at}
use Rattle.osi_base.specs.declared.layer_words.Kind.TheVariants as why
use Rattle.osi_base.specs.declared.session_word.SessionWord.{SessionWord}
use Rattle.osi_base.proofs.OctetLaws.{octets_right, octets_left, octets_tail}
use Rattle.osi_base.specs.Octets.{AreOctets}
use Rattle.spdu_codec.specs.declared.kind.SpduKind.{SpduKind}
use Rattle.spdu_codec.specs.declared.kind.SpduKind.TheVariants as kinds
use Rattle.spdu_codec.specs.declared.parameters.Slot.{Slot}
use Rattle.spdu_codec.specs.declared.parameters.Parameters.{Parameters}
use Rattle.spdu_codec.specs.Tables.{row_of, first_units, second_units, parameters_of, items_of}
use Rattle.spdu_codec.specs.Parameters.{none_yet, is_free, put}
use Rattle.spdu_codec.specs.Words.{word_of, has_information, leads}
use Rattle.std.specs.Prelude.{IfOk}
use Rattle.spdu_codec.specs.declared.fault.SFault.{SFault}
use Rattle.spdu_codec.specs.Reading.{Gives, UnitFault, at, ◌>>=◌, front, length_at, value_at, checked_free, filled, item_taken, inside, group_inside, parameter_taken, parameters_at, scan, known, unit_at, worded, last_word, is_first, second_at, behind_first, units_at}
use Rattle.spdu_codec.specs.Wire.{IsLength, AreParameters, IsFree, AllPut, ItemPut, IsInside, GroupPut, ParameterPut, IsUnit, IsLast, IsFront, AreUnits}
use Rattle.spdu_codec.proofs.Results.{ok_is, refused, passed, chosen, bound}
use Rattle.spdu_codec.proofs.ScanLoop.{Taker, value_less}

-- ---- octets

-- ---- lengths and values

pub eq_is : (a b : ℕ) → (a == b) ≡ true → a ≡ b
eq_is a b e = grind arith

eq_not : (a b : ℕ) → (a == b) ≡ false → a ≡ b → ⊥
eq_not a b e f = grind arith

pub record LengthFound (xs : List ℕ) (n : ℕ) (rest : List ℕ) : Type 0 where
  pub len : List ℕ
  pub is : IsLength n len
  pub parts : xs ≡ len ++ rest

short_found : (a : ℕ) (rest : List ℕ) (n : ℕ × List ℕ) → a < 256 → (a == 255) ≡ false → (a, rest) ≡ n → LengthFound (a ∷ rest) n.0 n.1
short_found a rest n fits e f =
    subst (λ (m : ℕ × List ℕ). LengthFound (a ∷ rest) m.0 m.1) f (record { len = a ∷ []; is = inl ((let ne = eq_not a 255 e in grind arith), refl); parts = refl })

length_found : (place : ℕ) (xs : List ℕ) (n : ℕ × List ℕ) → AreOctets xs → length_at place xs ≡ Ok n → LengthFound xs n.0 n.1
unfolding length_at
length_found place [] n fits e = absurd cc
length_found place (a ∷ []) n fits e = (let f = refused (a == 255) (at place why.Length) (Ok (a, [])) n e in short_found a [] n (fits.each 0) f.0 (ok_is (a, []) n f.1))
length_found place (a ∷ b ∷ []) n fits e = (let f = refused (a == 255) (at place why.Length) (Ok (a, b ∷ [])) n e in short_found a (b ∷ []) n (fits.each 0) f.0 (ok_is (a, b ∷ []) n f.1))
length_found place (a ∷ b ∷ c ∷ xs) n fits e =
    elim (chosen (a == 255) (Ok (256 * b + c, xs)) (Ok (a, b ∷ c ∷ xs)) (Ok n) e) [
      | inl f ↦ subst (λ (m : ℕ × List ℕ). LengthFound (a ∷ b ∷ c ∷ xs) m.0 m.1) (ok_is (256 * b + c, xs) n f.1)
          (record {
            len = 255 ∷ (256 * b + c) / 256 ∷ (256 * b + c) % 256 ∷ [];
            is = inr (omega (arith, fits.each 1, fits.each 2), refl);
            parts = (let h : (256 * b + c) / 256 ≡ b = omega (arith, fits.each 2) in let l : (256 * b + c) % 256 ≡ c = omega (arith, fits.each 2) in rw (h, l, eq_is a 255 f.0) refl);
          })
      | inr f ↦ short_found a (b ∷ c ∷ xs) n (fits.each 0) f.0 (ok_is (a, b ∷ c ∷ xs) n f.1)
    ]

pub other : (a b : ℕ) → (a ≡ b → ⊥) → (a == b) ≡ false
other a b ne = elim (cases_Bool (a == b)) [ inl e ↦ absurd (ne (eq_is a b e)) | inr e ↦ e ]

short_again : (place n : ℕ) (rest : List ℕ) → (n == 255) ≡ false → length_at place (n ∷ rest) ≡ Ok (n, rest)
unfolding length_at
short_again place n [] e = rw e refl
short_again place n (a ∷ []) e = rw e refl
short_again place n (a ∷ b ∷ rest) e = rw e refl

abbrev gives : ℕ → List ℕ → Result (ℕ × List ℕ) UnitFault
gives n rest = Ok (n, rest)

long_again : (place n : ℕ) (rest : List ℕ) → length_at place (255 ∷ n / 256 ∷ n % 256 ∷ rest) ≡ Ok (n, rest)
unfolding length_at
long_again place n rest = (let e : 256 * (n / 256) + n % 256 ≡ n = omega arith in ap (λ k. gives k rest) e)

pub length_again : (place n : ℕ) (len rest : List ℕ) → IsLength n len → length_at place (len ++ rest) ≡ Ok (n, rest)
length_again place n len rest (inl p) = ap (λ (t : List ℕ). length_at place (t ++ rest)) p.1 ∙ short_again place n rest (other n 255 (λ e. (let lt : n < 255 = p.0 in omega arith)))
length_again place n len rest (inr p) = ap (λ (t : List ℕ). length_at place (t ++ rest)) p.1 ∙ long_again place n rest

pub value_found : (end : ℕ) (xs : List ℕ) (v : List ℕ × List ℕ) → AreOctets xs → value_at end xs ≡ Ok v → (len : List ℕ) × IsLength (length v.0) len × (xs ≡ len ++ (v.0 ++ v.1))
unfolding value_at
value_found end xs v fits e =
    let b = bound (length_at (front end xs) xs) _ v e in
    let n = b.0 in
    let f = length_found (front end xs) xs n fits b.1 in
    let a = refused (ltb (length n.1) n.0) (at (front end xs) why.Length) (Ok (take n.0 n.1, drop n.0 n.1)) v b.2 in
    let there : n.0 ≤ length n.1 = ltb-false _ _ a.0 in
    let len : length (take n.0 n.1) ≡ n.0 = omega (arith, length-take n.0 n.1) in
    subst (λ (w : List ℕ × List ℕ). (l : List ℕ) × IsLength (length w.0) l × (xs ≡ l ++ (w.0 ++ w.1))) (ok_is (take n.0 n.1, drop n.0 n.1) v a.1)
    (f.len, subst (λ (k : ℕ). IsLength k f.len) (sym len) f.is, f.parts ∙ ap (λ (t : List ℕ). f.len ++ t) (sym (take-append-drop n.0 n.1)))

pub value_again : (end : ℕ) (len value rest : List ℕ) → IsLength (length value) len → value_at end (len ++ (value ++ rest)) ≡ Ok (value, rest)
unfolding value_at
value_again end len value rest is =
    let there : ltb (length (value ++ rest)) (length value) ≡ false = le-ltb _ _ (omega (arith, length-append value rest)) in
    rw (length_again (front end (len ++ (value ++ rest))) (length value) len (value ++ rest) is, there, take_at value rest (length value) refl, drop_at value rest (length value) refl) refl

-- ---- parameters

pub free_found : (place : ℕ) (o s : Option Slot) (p : Parameters) → checked_free place o p ≡ Ok s → IsFree o p × (o ≡ s)
free_found place None s p e = (tt, ok_is None s e)
free_found place (Some slot) s p e = (let f = passed (is_free slot p) (at place why.Extra) (Ok (Some slot)) s e in (f.0, ok_is (Some slot) s f.1))

pub free_again : (place : ℕ) (o : Option Slot) (p : Parameters) → IsFree o p → checked_free place o p ≡ Ok o
free_again place None p e = refl
free_again place (Some slot) p e = rw e refl

abbrev fine : Parameters → Result Parameters UnitFault
fine p = Ok p

pub scan_found : (t : Taker) (One : Option Slot → List ℕ → Parameters → Parameters → Type 0)
    → ((end : ℕ) (slot : Option Slot) (v : List ℕ) (p q : Parameters) → AreOctets v → t end slot v p ≡ Ok q → One slot v p q)
    → (table : List (ℕ × Slot)) (fuel end : ℕ) (p q : Parameters) (xs : List ℕ) → length xs ≤ fuel → AreOctets xs → scan t table fuel end p xs ≡ Ok q
    → (ps : List (ℕ × List ℕ)) × AreParameters ps xs × AllPut One table ps p q
unfolding scan
scan_found t One takes table fuel end p q [] le fits e = ([], refl, ok_is p q e)
scan_found t One takes table zero end p q (x ∷ xs) le fits e = absurd (omega arith)
scan_found t One takes table (suc fuel) end p q (x ∷ xs) le fits e =
    let a = bound (checked_free (front end (x ∷ xs)) (row_of x table) p) _ q e in
    let b = bound (value_at end xs) _ q a.2 in
    let v = b.0 in
    let c = bound (t (front end v.1) a.0 v.0 p) _ q b.2 in
    let free = free_found (front end (x ∷ xs)) (row_of x table) a.0 p a.1 in
    let less = value_less end xs v b.1 in
    let w = value_found end xs v (octets_tail x xs fits) b.1 in
    let behind = octets_right w.0 (v.0 ++ v.1) (subst AreOctets w.2 (octets_tail x xs fits)) in
    let one = takes (front end v.1) a.0 v.0 p c.0 (octets_left v.0 v.1 behind) c.1 in
    let rest = scan_found t One takes table fuel end c.0 q v.1 (omega (arith, less)) (octets_right v.0 v.1 behind) c.2 in
    let whole : x ∷ xs ≡ (x ∷ w.0 ++ v.0) ++ v.1 = ap (λ (l : List ℕ). x ∷ l) (w.2 ∙ sym (append_assoc w.0 v.0 v.1)) in (
      (x, v.0) ∷ rest.0,
      (x ∷ w.0 ++ v.0, v.1, (w.0, w.1, refl), rest.1, whole),
      (free.0, (c.0, subst (λ (o : Option Slot). One o v.0 p c.0) (sym free.1) one, rest.2)),
    )

pub scan_again : (t : Taker) (One : Option Slot → List ℕ → Parameters → Parameters → Type 0)
    → ((end : ℕ) (slot : Option Slot) (v : List ℕ) (p q : Parameters) → One slot v p q → t end slot v p ≡ Ok q)
    → (table : List (ℕ × Slot)) (fuel end : ℕ) (p q : Parameters) (xs : List ℕ) (ps : List (ℕ × List ℕ)) → length xs ≤ fuel → AreParameters ps xs → AllPut One table ps p q → scan t table fuel end p xs ≡ Ok q
unfolding scan
scan_again t One takes table fuel end p q xs [] le a b = ap (λ (l : List ℕ). scan t table fuel end p l) a ∙ ap fine b
scan_again t One takes table zero end p q xs (x ∷ ps) le a b = absurd (let n = ap length (a.4 ∙ ap (λ (l : List ℕ). l ++ a.1) a.2.2) in omega arith)
scan_again t One takes table (suc fuel) end p q xs (x ∷ ps) le a b =
    let len = a.2.0 in
    let whole : xs ≡ x.0 ∷ (len ++ (x.1 ++ a.1)) = a.4 ∙ ap (λ (l : List ℕ). l ++ a.1) a.2.2 ∙ ap (λ (l : List ℕ). x.0 ∷ l) (append_assoc len x.1 a.1) in
    let size = ap length whole in
    let more : length a.1 ≤ fuel = omega (arith, size, le, length-append len (x.1 ++ a.1), length-append x.1 a.1) in
    let rest = scan_again t One takes table fuel end b.1.0 q a.1 ps more a.3 b.1.2 in
    ap (λ (l : List ℕ). scan t table (suc fuel) end p l) whole
    ∙ rw (free_again (front end (x.0 ∷ (len ++ (x.1 ++ a.1)))) (row_of x.0 table) p b.0, value_again end len x.1 a.1 a.2.1, takes (front end a.1) (row_of x.0 table) x.1 p b.1.0 b.1.1) rest

abbrev some : Parameters → Option Parameters
some p = Some p

abbrev is_kind : SpduKind → Option SpduKind
is_kind k = Some k

abbrev is_word : SessionWord → Option SessionWord
is_word w = Some w

abbrev read_word : SessionWord → Result SessionWord UnitFault
read_word w = Ok w

word_is : (v w : SessionWord) → read_word v ≡ Ok w → v ≡ w
word_is v w e = ok_is v w e

abbrev read_words : List SessionWord → Result (List SessionWord) UnitFault
read_words ws = Ok ws

pub words_are : (v w : List SessionWord) → read_words v ≡ Ok w → v ≡ w
words_are v w e = ok_is v w e

filled_found : (place : ℕ) (o : Option Parameters) (q : Parameters) → filled place o ≡ Ok q → o ≡ Some q
filled_found place None q e = absurd cc
filled_found place (Some p) q e = ap some (ok_is p q e)

pub item_found : (end : ℕ) (slot : Option Slot) (v : List ℕ) (p q : Parameters) → AreOctets v → item_taken end slot v p ≡ Ok q → ItemPut slot v p q
item_found end None v p q fits e = ok_is p q e
item_found end (Some slot) v p q fits e = filled_found (front end v) (put slot v p) q e

pub item_again : (end : ℕ) (slot : Option Slot) (v : List ℕ) (p q : Parameters) → ItemPut slot v p q → item_taken end slot v p ≡ Ok q
item_again end None v p q e = ap fine e
item_again end (Some slot) v p q e = ap (filled (front end v)) e

inside_found : (o : Option (List (ℕ × Slot))) (end : ℕ) (v : List ℕ) (p q : Parameters) → AreOctets v → inside o end v p ≡ Ok q → IsInside o v p q
inside_found None end v p q fits e = ok_is p q e
inside_found (Some table) end v p q fits e = scan_found item_taken ItemPut item_found table (length v) end p q v (omega arith) fits e

inside_again : (o : Option (List (ℕ × Slot))) (end : ℕ) (v : List ℕ) (p q : Parameters) → IsInside o v p q → inside o end v p ≡ Ok q
inside_again None end v p q e = ap fine e
inside_again (Some table) end v p q e = scan_again item_taken ItemPut item_again table (length v) end p q v e.0 (omega arith) e.1 e.2

group_found : (end : ℕ) (slot : Option Slot) (v : List ℕ) (p q : Parameters) → AreOctets v → group_inside end slot v p ≡ Ok q → GroupPut slot v p q
group_found end None v p q fits e = ok_is p q e
group_found end (Some slot) v p q fits e = inside_found (items_of slot) end v p q fits e

group_again : (end : ℕ) (slot : Option Slot) (v : List ℕ) (p q : Parameters) → GroupPut slot v p q → group_inside end slot v p ≡ Ok q
group_again end None v p q e = ap fine e
group_again end (Some slot) v p q e = inside_again (items_of slot) end v p q e

pub parameter_found : (end : ℕ) (slot : Option Slot) (v : List ℕ) (p q : Parameters) → AreOctets v → parameter_taken end slot v p ≡ Ok q → ParameterPut slot v p q
parameter_found end slot v p q fits e =
    let b = bound (item_taken end slot v p) (group_inside end slot v) q e in
    (b.0, item_found end slot v p b.0 fits b.1, group_found end slot v b.0 q fits b.2)

pub parameter_again : (end : ℕ) (slot : Option Slot) (v : List ℕ) (p q : Parameters) → ParameterPut slot v p q → parameter_taken end slot v p ≡ Ok q
parameter_again end slot v p q e = ap (λ r. r >>= group_inside end slot v) (item_again end slot v p e.0 e.1) ∙ group_again end slot v e.0 q e.2

-- ---- one unit

pub known_found : (place : ℕ) (o : Option SpduKind) (kind : SpduKind) → known place o ≡ Ok kind → o ≡ Some kind
known_found place None kind e = absurd cc
known_found place (Some k) kind e = ap is_kind (ok_is k kind e)

pub unit_found : (table : List (ℕ × SpduKind)) (end : ℕ) (xs : List ℕ) (u : SpduKind × Parameters × List ℕ) → AreOctets xs → unit_at table end xs ≡ Ok u
    → (unit : List ℕ) × IsUnit table u.0 u.1 unit × (xs ≡ unit ++ u.2)
unfolding unit_at
unit_found table end [] u fits e = absurd cc
unit_found table end (x ∷ xs) u fits e =
    let a = bound (known (front end (x ∷ xs)) (row_of x table)) _ u e in
    let b = bound (value_at end xs) _ u a.2 in
    let v = b.0 in
    let c = bound (parameters_at a.0 (front end v.1) v.0) _ u b.2 in
    let w = value_found end xs v (octets_tail x xs fits) b.1 in
    let behind = octets_right w.0 (v.0 ++ v.1) (subst AreOctets w.2 (octets_tail x xs fits)) in
    let f = scan_found parameter_taken ParameterPut parameter_found (parameters_of a.0) (length v.0) (front end v.1) none_yet c.0 v.0 (omega arith) (octets_left v.0 v.1 behind) c.1 in
    let is : IsUnit table a.0 c.0 (x ∷ w.0 ++ v.0) = record {
      code = x;
      value = v.0;
      parameters = f.0;
      stands = known_found (front end (x ∷ xs)) (row_of x table) a.0 a.1;
      coded = (w.0, w.1, refl);
      spelled = f.1;
      puts = f.2;
    } in
    subst (λ (q : SpduKind × Parameters × List ℕ). (unit : List ℕ) × IsUnit table q.0 q.1 unit × (x ∷ xs ≡ unit ++ q.2)) (ok_is (a.0, c.0, v.1) u c.2)
    (x ∷ w.0 ++ v.0, is, ap (λ (l : List ℕ). x ∷ l) (w.2 ∙ sym (append_assoc w.0 v.0 v.1)))

pub unit_again : (table : List (ℕ × SpduKind)) (end : ℕ) (kind : SpduKind) (q : Parameters) (unit rest : List ℕ) → IsUnit table kind q unit → unit_at table end (unit ++ rest) ≡ Ok (kind, q, rest)
unfolding unit_at
unit_again table end kind q unit rest u =
    let len = u.coded.0 in
    let whole : unit ++ rest ≡ u.code ∷ (len ++ (u.value ++ rest)) = ap (λ (l : List ℕ). l ++ rest) u.coded.2 ∙ ap (λ (l : List ℕ). u.code ∷ l) (append_assoc len u.value rest) in
    let all = scan_again parameter_taken ParameterPut parameter_again (parameters_of kind) (length u.value) (front end rest) none_yet q u.value u.parameters (omega arith) u.spelled u.puts in
    ap (unit_at table end) whole ∙ rw (u.stands, value_again end len u.value rest u.coded.1, all) refl

-- ---- the units of a transport unit

pub worded_found : (place : ℕ) (o : Option SessionWord) (word : SessionWord) → worded place o ≡ Ok word → o ≡ Some word
worded_found place None word e = absurd cc
worded_found place (Some w) word e = ap is_word (word_is w word e)

pub length_none : (xs : List ℕ) → (length xs == 0) ≡ true → xs ≡ []
length_none [] e = refl
length_none (x ∷ xs) e = absurd (let f = eq_is (length (x ∷ xs)) 0 e in omega arith)

last_found : (table : List (ℕ × SpduKind)) (end : ℕ) (kind : SpduKind) (p : Parameters) (unit behind : List ℕ) (word : SessionWord) → IsUnit table kind p unit → last_word end kind p behind ≡ Ok word
    → IsLast table word (unit ++ behind)
last_found table end kind p unit behind word u e =
    let a = bound (worded (front end behind) (word_of kind true p behind)) _ word e in
    let b = passed (has_information kind || length behind == 0) (at (front end behind) why.Extra) (Ok a.0) word a.2 in
    let same = word_is a.0 word b.1 in
    record {
      kind = kind;
      found = p;
      unit = unit;
      behind = behind;
      is = u;
      parts = refl;
      information = elim (or_cases (has_information kind) (length behind == 0) b.0) [ inl f ↦ inl f | inr f ↦ inr (length_none behind f) ];
      means = worded_found (front end behind) (word_of kind true p behind) a.0 a.1 ∙ ap is_word same;
    }

allows : (b : Bool) (behind : List ℕ) → (b ≡ true) ⊎ (behind ≡ []) → (b || length behind == 0) ≡ true
allows true behind e = refl
allows false behind (inl e) = absurd cc
allows false behind (inr e) = ap (λ (l : List ℕ). length l == 0) e

pub last_again : (table : List (ℕ × SpduKind)) (end : ℕ) (word : SessionWord) (octets : List ℕ) → (l : IsLast table word octets) → last_word end l.kind l.found l.behind ≡ Ok word
last_again table end word octets l =
    let allowed : (has_information l.kind || length l.behind == 0) ≡ true = allows (has_information l.kind) l.behind l.information in
    rw (l.means, allowed) refl

second_found : (end : ℕ) (xs : List ℕ) (word : SessionWord) → AreOctets xs → second_at end xs ≡ Ok word → IsLast second_units word xs
second_found end xs word fits e =
    let b = bound (unit_at second_units end xs) (λ u. last_word end u.0 u.1 u.2) word e in
    let f = unit_found second_units end xs b.0 fits b.1 in
    subst (λ (l : List ℕ). IsLast second_units word l) (sym f.2) (last_found second_units end b.0.0 b.0.1 f.0 b.0.2 word f.1 b.2)

pub second_again : (end : ℕ) (xs : List ℕ) (word : SessionWord) → IsLast second_units word xs → second_at end xs ≡ Ok word
second_again end xs word l =
    ap (λ t. unit_at second_units end t >>= λ u. last_word end u.0 u.1 u.2) l.parts ∙ ap (λ r. r >>= λ u. last_word end u.0 u.1 u.2) (unit_again second_units end l.kind l.found l.unit l.behind l.is) ∙ last_again second_units end word xs l

pub all_found : (xs : List ℕ) (ws : List SessionWord) → AreOctets xs → units_at xs ≡ Ok ws → AreUnits ws xs
unfolding units_at
all_found xs ws fits e =
    let b = bound (unit_at first_units (length xs) xs) (behind_first (length xs)) ws e in
    let u = b.0 in
    let f = unit_found first_units (length xs) xs u fits b.1 in
    let behind = octets_right f.0 u.2 (subst AreOctets f.2 fits) in
    elim (chosen (is_first u.0 u.2) _ _ (Ok ws) b.2) [
      | inl p ↦ (
          let c = bound (worded (front (length xs) u.2) (word_of u.0 false u.1 [])) _ ws p.1 in
          let d = bound (second_at (length xs) u.2) _ ws c.2 in
          let l = and_parts (leads u.0) (not (length u.2 == 0)) p.0 in
          let first : IsFront c.0 f.0 = record { kind = u.0; found = u.1; is = f.1; leading = l.0; means = worded_found (front (length xs) u.2) (word_of u.0 false u.1 []) c.0 c.1 } in
          subst (λ (w : List SessionWord). AreUnits w xs) (words_are (c.0 ∷ d.0 ∷ []) ws d.2) (f.0, u.2, first, second_found (length xs) u.2 d.0 behind d.1, f.2))
      | inr p ↦ (
          let c = bound (last_word (length xs) u.0 u.1 u.2) _ ws p.1 in
          subst (λ (w : List SessionWord). AreUnits w xs) (words_are (c.0 ∷ []) ws c.2) (subst (λ (l : List ℕ). IsLast first_units c.0 l) (sym f.2) (last_found first_units (length xs) u.0 u.1 f.0 u.2 c.0 f.1 c.1)))
    ]

and_false : (b : Bool) → (b && false) ≡ false
and_false true = refl
and_false false = refl

no_lead : (kind : SpduKind) → has_information kind ≡ true → leads kind ≡ false
no_lead kinds.GiveTokens e = absurd cc
no_lead kinds.PleaseTokens e = absurd cc
no_lead _ e = refl

pub last_some : (word : SessionWord) (xs : List ℕ) → IsLast second_units word xs → (length xs == 0) ≡ false
last_some word xs l =
    let n = ap length l.parts in
    let m = ap length l.is.coded.2 in
    other (length xs) 0 (λ e. omega (arith, n, m, length-append l.unit l.behind))

-- nothing leads where nothing is behind, and no unit with user information leads
pub not_first : (kind : SpduKind) (behind : List ℕ) → (has_information kind ≡ true) ⊎ (behind ≡ []) → is_first kind behind ≡ false
not_first kind behind (inr e) = ap (is_first kind) e ∙ and_false (leads kind)
not_first kind behind (inl e) = ap (λ b. b && not (length behind == 0)) (no_lead kind e)

pub all_again : (xs : List ℕ) (ws : List SessionWord) → AreUnits ws xs → units_at xs ≡ Ok ws
unfolding units_at
all_again xs [] a = absurd a
all_again xs (w ∷ []) l =
    let end = length xs in
    ap (λ t. unit_at first_units end t >>= behind_first end) l.parts ∙ ap (λ r. r >>= behind_first end) (unit_again first_units end l.kind l.found l.unit l.behind l.is)
    ∙ rw (not_first l.kind l.behind l.information, last_again first_units end w xs l) refl
all_again xs (w ∷ v ∷ []) a =
    let end = length xs in
    let f = a.2 in
    let follows : is_first f.kind a.1 ≡ true = (let some = last_some v a.1 a.3 in rw (f.leading, some) refl) in
    ap (λ t. unit_at first_units end t >>= behind_first end) a.4 ∙ ap (λ r. r >>= behind_first end) (unit_again first_units end f.kind f.found a.0 a.1 f.is)
    ∙ rw (follows, f.means, second_again end a.1 v a.3) refl
all_again xs (w ∷ v ∷ u ∷ ws) a = absurd a

-- what a reader found, seen through its result
pub found_of : (r : Result (List SessionWord) SFault) (xs : List ℕ) → AreOctets xs → Gives r (units_at xs) → IfOk r (λ words. AreUnits words xs)
found_of (Ok words) xs fits e = all_found xs words fits e
found_of (Err f) xs fits e = tt
