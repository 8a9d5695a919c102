-- Fields: what is read is spelled so, and what is spelled so is read.
use Rattle.std.proofs.Common.{◌≡◌, ℕ, ◌+◌, ◌*◌, ◌/◌, ◌%◌, ◌^◌, ◌≤◌, ◌<◌, Bool, true, false, cond, List, [], ◌∷◌, ◌++◌, length, take, Ok, Err, refl, sym, ap, ◌∙◌, subst, arith, length-append, ◌⊎◌, inl, inr}
use Rattle.std.specs.Prelude.{nat_lt, nat_eq, slice_index}
use Rattle.std.proofs.lemmas.Bool.{le-ltb, ltb-false, ne_eqb}
use Rattle.std.proofs.lemmas.List.{take_at, drop_at, take-append-drop, length-take}
use Rattle.byteorder.specs.Endian.{big_number, big_bytes}
use Rattle.byteorder.specs.Numbers.{big_number-reads_back}
use Rattle.packed_codec.specs.declared.fault.PackedFault.{PackedFault}
use Rattle.packed_codec.specs.declared.fault.PackedFault.TheVariants as faults
use Rattle.osi_base.specs.Octets.{AreOctets}
use Rattle.osi_base.proofs.OctetLaws.{octets_left, octets_right}
use Rattle.packed_codec.specs.Reading.{Spot, Reading, ◌>>=◌, within}
use Rattle.packed_codec.specs.Fields.{moved, announced_at, field_at, octet_at, count_at}

-- the value of a step that did not fail
pub bind_ok : {A B : Type 0} (r : Reading A) (f : A → Reading B) (y : B) → (r >>= f) ≡ Ok y → (x : A) × (r ≡ Ok x) × (f x ≡ Ok y)
bind_ok (Ok x) f y e = (x, refl, e)
bind_ok (Err d) f y e = absurd cc

pub unless_ok : {A : Type 0} (b : Bool) (f : PackedFault) (s : Reading A) (y : A) → cond b (Err f) s ≡ Ok y → (b ≡ false) × (s ≡ Ok y)
unless_ok true f s y e = absurd cc
unless_ok false f s y e = (refl, e)

pub if_ok : {A : Type 0} (b : Bool) (f : PackedFault) (s : Reading A) (y : A) → cond b s (Err f) ≡ Ok y → (b ≡ true) × (s ≡ Ok y)
if_ok true f s y e = (refl, e)
if_ok false f s y e = absurd cc

pub chosen_ok : {A : Type 0} (b : Bool) (r s : Reading A) (y : A) → cond b r s ≡ Ok y → ((b ≡ true) × (r ≡ Ok y)) ⊎ ((b ≡ false) × (s ≡ Ok y))
chosen_ok true r s y e = inl (refl, e)
chosen_ok false r s y e = inr (refl, e)

abbrev pub done : {A : Type 0} → A → Reading A
done x = Ok x

pub ok_is : {A : Type 0} (x y : A) → done x ≡ done y → x ≡ y
ok_is x y e = cc

-- ---- octets in parts

-- ---- octets that are taken at a spot, within the limit

pub record Took (limit : ℕ) (s : Spot) (text : List ℕ) (to : Spot) : Type 0 where
  pub parts : s.rest ≡ text ++ to.rest
  pub onward : to.place ≡ s.place + length text
  pub inside : to.place ≤ limit
  pub left : to.left ≡ s.left

pub took_octets : (limit : ℕ) (s to : Spot) (text : List ℕ) → Took limit s text to → AreOctets s.rest → AreOctets to.rest
took_octets limit s to text t h = octets_right text to.rest (subst AreOctets t.parts h)

pub took_text : (limit : ℕ) (s to : Spot) (text : List ℕ) → Took limit s text to → AreOctets s.rest → AreOctets text
took_text limit s to text t h = octets_left text to.rest (subst AreOctets t.parts h)

within_ok : (limit place until : ℕ) (x : Unit {0}) → within limit place until ≡ Ok x → until ≤ limit
unfolding within
within_ok limit place until x e =
    let t = unless_ok (nat_lt limit until) (faults.TooLong place) (Ok tt) x e in
    ltb-false limit until t.0

within_is : (limit place until : ℕ) → until ≤ limit → within limit place until ≡ Ok tt
unfolding within
within_is limit place until le = rw (le-ltb limit until le) refl

pub record Announced (limit : ℕ) (allowed : Bool) (size : ℕ) (s : Spot) (c : List ℕ) (to : Spot) : Type 0 where
  pub allow : allowed ≡ true
  pub len : length c ≡ size
  pub took : Took limit s c to

pub announced_found : (limit place : ℕ) (allowed : Bool) (size : ℕ) (s to : Spot) (c : List ℕ) → announced_at limit place allowed size s ≡ Ok (c, to) → Announced limit allowed size s c to
unfolding announced_at
announced_found limit place allowed size s to c e =
    let b = bind_ok (within limit place (s.place + size)) _ (c, to) e in
    let le = within_ok limit place (s.place + size) b.0 b.1 in
    let t = if_ok allowed (faults.NotSpelled place _) (cond (nat_lt (length s.rest) size) (Err faults.Short) (Ok (take size s.rest, moved size s))) (c, to) b.2 in
    let u = unless_ok (nat_lt (length s.rest) size) faults.Short (Ok (take size s.rest, moved size s)) (c, to) t.1 in
    let enough : size ≤ length s.rest = ltb-false (length s.rest) size u.0 in
    let len : length (take size s.rest) ≡ size = omega (arith, length-take size s.rest) in
    let same = ok_is {A = List ℕ × Spot} (take size s.rest, moved size s) (c, to) u.1 in
    subst (λ (y : List ℕ × Spot). Announced limit allowed size s y.0 y.1) same (record {
      allow = t.0;
      len = len;
      took = record { parts = sym (take-append-drop size s.rest); onward = ap (λ (n : ℕ). s.place + n) (sym len); inside = le; left = refl };
    })

pub announced_again : (limit place at left : ℕ) (c rest : List ℕ) → at + length c ≤ limit
    → announced_at limit place true (length c) (record { place = at; rest = c ++ rest; left = left }) ≡ Ok (c, record { place = at + length c; rest = rest; left = left })
unfolding announced_at
announced_again limit place at left c rest le =
    let enough : length c ≤ length (c ++ rest) = omega (arith, length-append c rest) in
    rw (within_is limit place (at + length c) le, le-ltb (length (c ++ rest)) (length c) enough, take_at c rest (length c) refl, drop_at c rest (length c) refl) refl

field_found : (limit size : ℕ) (s to : Spot) (c : List ℕ) → field_at limit size s ≡ Ok (c, to) → Announced limit true size s c to
unfolding field_at
field_found limit size s to c e =
    let t = unless_ok (nat_eq (length s.rest) 0) faults.Short (announced_at limit s.place true size s) (c, to) e in
    announced_found limit s.place true size s to c t.1

field_again : (limit at left : ℕ) (c rest : List ℕ) → 0 < length c → at + length c ≤ limit
    → field_at limit (length c) (record { place = at; rest = c ++ rest; left = left }) ≡ Ok (c, record { place = at + length c; rest = rest; left = left })
unfolding field_at
field_again limit at left c rest some le =
    let ne : nat_eq (length (c ++ rest)) 0 ≡ false = ne_eqb (length (c ++ rest)) 0 (λ e. omega (arith, length-append c rest)) in
    rw ne (announced_again limit at at left c rest le)

one_back : (c : List ℕ) → length c ≡ 1 → c ≡ slice_index c 0 ∷ []
one_back [] e = absurd (omega arith)
one_back (o ∷ []) e = refl
one_back (o ∷ p ∷ c) e = absurd (omega arith)

pub octet_found : (limit : ℕ) (s to : Spot) (o : ℕ) → octet_at limit s ≡ Ok (o, to) → Took limit s (o ∷ []) to
unfolding octet_at
octet_found limit s to o e =
    let b = bind_ok (field_at limit 1 s) (λ f. Ok (slice_index f.0 0, f.1)) (o, to) e in
    let f = field_found limit 1 s b.0.1 b.0.0 b.1 in
    let same = ok_is {A = ℕ × Spot} (slice_index b.0.0 0, b.0.1) (o, to) b.2 in
    subst (λ (y : ℕ × Spot). Took limit s (y.0 ∷ []) y.1) same (subst (λ (x : List ℕ). Took limit s x b.0.1) (one_back b.0.0 f.len) f.took)

pub octet_again : (limit at left o : ℕ) (rest : List ℕ) → at + 1 ≤ limit
    → octet_at limit (record { place = at; rest = o ∷ rest; left = left }) ≡ Ok (o, record { place = at + 1; rest = rest; left = left })
unfolding octet_at
octet_again limit at left o rest le = ap (λ r. r >>= λ f. Ok (slice_index f.0 0, f.1)) (field_again limit at left (o ∷ []) rest (omega arith) le)

four_back : (c : List ℕ) → AreOctets c → length c ≡ 4 → c ≡ big_bytes 4 (big_number 4 c)
four_back [] h e = absurd (omega arith)
four_back (a ∷ []) h e = absurd (omega arith)
four_back (a ∷ b ∷ []) h e = absurd (omega arith)
four_back (a ∷ b ∷ c ∷ []) h e = absurd (omega arith)
four_back (a ∷ b ∷ c ∷ d ∷ []) h e =
    let p : a < 256 = h.each 0 in
    let q : b < 256 = h.each 1 in
    let r : c < 256 = h.each 2 in
    let s : d < 256 = h.each 3 in
    let n : ℕ = a * 16777216 + (b * 65536 + (c * 256 + (d * 1 + 0))) in
    let first : a ≡ n / 16777216 % 256 = omega arith in
    let second : b ≡ n / 65536 % 256 = omega arith in
    let third : c ≡ n / 256 % 256 = omega arith in
    let fourth : d ≡ n % 256 = omega arith in
    λ i. first i ∷ second i ∷ third i ∷ fourth i ∷ []
four_back (a ∷ b ∷ c ∷ d ∷ x ∷ xs) h e = absurd (omega arith)

pub count_found : (limit : ℕ) (s to : Spot) (n : ℕ) → AreOctets s.rest → count_at limit s ≡ Ok (n, to) → Took limit s (big_bytes 4 n) to
unfolding count_at
count_found limit s to n are e =
    let b = bind_ok (field_at limit 4 s) (λ f. Ok (big_number 4 f.0, f.1)) (n, to) e in
    let f = field_found limit 4 s b.0.1 b.0.0 b.1 in
    let same = ok_is {A = ℕ × Spot} (big_number 4 b.0.0, b.0.1) (n, to) b.2 in
    subst (λ (y : ℕ × Spot). Took limit s (big_bytes 4 y.0) y.1) same
    (subst (λ (x : List ℕ). Took limit s x b.0.1) (four_back b.0.0 (took_text limit s b.0.1 b.0.0 f.took are) f.len) f.took)

pub count_again : (limit at left n : ℕ) (rest : List ℕ) → n < 2 ^ 32 → at + 4 ≤ limit
    → count_at limit (record { place = at; rest = big_bytes 4 n ++ rest; left = left }) ≡ Ok (n, record { place = at + 4; rest = rest; left = left })
unfolding count_at
count_again limit at left n rest lt le =
    ap (λ r. r >>= λ f. Ok (big_number 4 f.0, f.1)) (field_again limit at left (big_bytes 4 n) rest (omega arith) le)
    ∙ ap (λ (k : ℕ). Ok (k, record { place = at + 4; rest = rest; left = left })) (big_number-reads_back 4 n [] lt)
