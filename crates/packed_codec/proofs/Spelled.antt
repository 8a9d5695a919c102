-- Values of one field, and values behind a size: what is read is spelled so, and what is spelled so is read.
use Rattle.std.proofs.Common.{◌≡◌, ℕ, zero, suc, ◌+◌, ◌-◌, ◌^◌, ◌≤◌, ◌<◌, Bool, true, false, ◌&&◌, cond, List, [], ◌∷◌, ◌++◌, length, Option, Some, None, Ok, refl, sym, ap, ◌∙◌, subst, arith, length-append, append_assoc}
use Rattle.std.specs.Prelude.{nat_lt, nat_eq}
use Rattle.std.specs.List.{list_all}
use Rattle.std.proofs.lemmas.Bool.{ne_eqb, eqb-true, and_parts}
use Rattle.osi_base.specs.Limits.{most_items}
use Rattle.byteorder.specs.Endian.{big_bytes}
use Rattle.asn1_types.specs.Fits.{is_octet, are_bits, boolean_fits, null_fits, bits_fit}
use Rattle.asn1_types.proofs.FitLaws.{all_octets}
use Rattle.asn1_types.specs.Value.{Value, boolean, integer, null, octets, bits, object_id, text, parts, list, chosen, any}
use Rattle.packed_codec.specs.declared.fault.PackedFault.TheVariants as faults
use Rattle.osi_base.specs.Octets.{AreOctets}
use Rattle.packed_codec.specs.Reading.{Spot}
use Rattle.packed_codec.specs.Fields.{announced_at, octet_at, count_at}
use Rattle.packed_codec.specs.Numbers.{is_size}
use Rattle.packed_codec.specs.Rules.{Reader, some_or_refuse, boolean_rule, boolean_at, null_at, sized_at, number_at, string_at, bits_at, bits_size, bits_rule}
use Rattle.packed_codec.specs.Writing.{Writer, counted, with_size, boolean_written, nothing_written, bits_written, items}
use Rattle.packed_codec.proofs.Taking.{bind_ok, if_ok, ok_is, Took, took_octets, took_text, announced_found, announced_again, octet_found, octet_again, count_found, count_again}

abbrev pub at_spot : ℕ → List ℕ → ℕ → Spot
at_spot place rest left = record { place = place; rest = rest; left = left }

-- what stands at a spot was read as a value, and is what is written of it
pub record ReadAs (test : Value → Bool) (write : Writer) (limit : ℕ) (s : Spot) (v : Value) (to : Spot) : Type 0 where
  pub parts : s.rest ≡ write v ++ to.rest
  pub onward : to.place ≡ s.place + length (write v)
  pub inside : to.place ≤ limit
  pub spent : s.left ≡ items v + to.left
  pub fit : test v ≡ true

-- what is read is spelled so
pub record Found (test : Value → Bool) (write : Writer) (r : Reader) : Type 0 where
  pub found : (limit : ℕ) (s : Spot) (v : Value) (to : Spot) → AreOctets s.rest → s.place ≤ limit → r limit s ≡ Ok (v, to) → ReadAs test write limit s v to

-- what is spelled so is read
pub record Only (test : Value → Bool) (write : Writer) (r : Reader) : Type 0 where
  pub only : (limit place left : ℕ) (v : Value) (rest : List ℕ) → test v ≡ true → limit < 2 ^ 32 → place + length (write v) ≤ limit → items v ≤ left → left ≤ most_items
      → r limit (at_spot place (write v ++ rest) left) ≡ Ok (v, at_spot (place + length (write v)) rest (left - items v))

-- ---- what one field is read as

pub took_then : (limit : ℕ) (s mid to : Spot) (a b : List ℕ) → Took limit s a mid → Took limit mid b to → Took limit s (a ++ b) to
took_then limit s mid to a b t u = record {
  parts = t.parts ∙ ap (λ (x : List ℕ). a ++ x) u.parts ∙ sym (append_assoc a b to.rest);
  onward = omega (arith, t.onward, u.onward, length-append a b);
  inside = u.inside;
  left = u.left ∙ t.left;
}

took_as : (test : Value → Bool) (write : Writer) (limit : ℕ) (s : Spot) (v : Value) (to : Spot) (c : List ℕ) → write v ≡ c → test v ≡ true → items v ≡ 0 → Took limit s c to → ReadAs test write limit s v to
took_as test write limit s v to c w f none t = record {
  parts = t.parts ∙ ap (λ (x : List ℕ). x ++ to.rest) (sym w);
  onward = t.onward ∙ ap (λ (x : List ℕ). s.place + length x) (sym w);
  inside = t.inside;
  spent = omega (arith, t.left, none);
  fit = f;
}

judge_is : (place : ℕ) (o : Option Value) (v : Value) → some_or_refuse place o ≡ Ok v → o ≡ Some v
judge_is place None v e = absurd cc
judge_is place (Some x) v e = ap (λ (y : Value). Some y) (ok_is x v e)

boolean_is : (o : ℕ) (v : Value) → boolean_rule o ≡ Some v → (boolean_written v ≡ o ∷ []) × (boolean_fits v ≡ true) × (items v ≡ 0)
boolean_is zero v e =
    let same : boolean false ≡ v = cc in
    subst (λ (x : Value). (boolean_written x ≡ 0 ∷ []) × (boolean_fits x ≡ true) × (items x ≡ 0)) same (refl, refl, refl)
boolean_is (suc zero) v e =
    let same : boolean true ≡ v = cc in
    subst (λ (x : Value). (boolean_written x ≡ 1 ∷ []) × (boolean_fits x ≡ true) × (items x ≡ 0)) same (refl, refl, refl)
boolean_is (suc (suc n)) v e = absurd cc

pub boolean_found : Found boolean_fits boolean_written boolean_at
unfolding boolean_at
boolean_found = record {
  found = λ limit s v to are here e.
      let b = bind_ok (octet_at limit s) _ (v, to) e in
      let c = bind_ok (some_or_refuse s.place (boolean_rule b.0.0)) _ (v, to) b.2 in
      let same = ok_is {A = Value × Spot} (c.0, b.0.1) (v, to) c.2 in
      let x = boolean_is b.0.0 c.0 (judge_is s.place (boolean_rule b.0.0) c.0 c.1) in
      subst (λ (y : Value × Spot). ReadAs boolean_fits boolean_written limit s y.0 y.1) same
      (took_as boolean_fits boolean_written limit s c.0 b.0.1 (b.0.0 ∷ []) x.0 x.1 x.2 (octet_found limit s b.0.1 b.0.0 b.1));
}

less_none : (left : ℕ) → left - 0 ≡ left
less_none left = omega arith

boolean_back : (limit place left : ℕ) (v : Value) (rest : List ℕ) → boolean_fits v ≡ true → place + length (boolean_written v) ≤ limit
    → boolean_at limit (at_spot place (boolean_written v ++ rest) left) ≡ Ok (v, at_spot (place + length (boolean_written v)) rest (left - items v))
unfolding boolean_at
boolean_back limit place left (boolean true) rest f le = rw (octet_again limit place left 1 rest le, less_none left) refl
boolean_back limit place left (boolean false) rest f le = rw (octet_again limit place left 0 rest le, less_none left) refl
boolean_back limit place left null rest f le = absurd cc
boolean_back limit place left (integer z) rest f le = absurd cc
boolean_back limit place left (octets os) rest f le = absurd cc
boolean_back limit place left (bits os n) rest f le = absurd cc
boolean_back limit place left (object_id os) rest f le = absurd cc
boolean_back limit place left (text os) rest f le = absurd cc
boolean_back limit place left (parts ps) rest f le = absurd cc
boolean_back limit place left (list vs) rest f le = absurd cc
boolean_back limit place left (chosen n v) rest f le = absurd cc
boolean_back limit place left (any os) rest f le = absurd cc

pub boolean_only : Only boolean_fits boolean_written boolean_at
boolean_only = record { only = λ limit place left v rest f lt le few most. boolean_back limit place left v rest f le }

pub null_found : Found null_fits nothing_written null_at
unfolding null_at
null_found = record {
  found = λ limit s v to are here e.
      let same = ok_is {A = Value × Spot} (null, s) (v, to) e in
      subst (λ (y : Value × Spot). ReadAs null_fits nothing_written limit s y.0 y.1) same
      (record { parts = refl; onward = omega arith; inside = here; spent = omega arith; fit = refl });
}

null_back : (limit place left : ℕ) (v : Value) (rest : List ℕ) → null_fits v ≡ true → null_at limit (at_spot place rest left) ≡ Ok (v, at_spot (place + 0) rest (left - items v))
unfolding null_at
null_back limit place left null rest f = let e : place + 0 ≡ place = omega arith in rw (e, less_none left) refl
null_back limit place left (boolean b) rest f = absurd cc
null_back limit place left (integer z) rest f = absurd cc
null_back limit place left (octets os) rest f = absurd cc
null_back limit place left (bits os n) rest f = absurd cc
null_back limit place left (object_id os) rest f = absurd cc
null_back limit place left (text os) rest f = absurd cc
null_back limit place left (parts ps) rest f = absurd cc
null_back limit place left (list vs) rest f = absurd cc
null_back limit place left (chosen n v) rest f = absurd cc
null_back limit place left (any os) rest f = absurd cc

pub null_only : Only null_fits nothing_written null_at
null_only = record { only = λ limit place left v rest f lt le few most. null_back limit place left v rest f }

-- ---- octets behind a size

-- contents and values are one another's
pub record Sized (test : Value → Bool) (write : Writer) (wrap : List ℕ → List ℕ) (few : ℕ → Bool) (rule : List ℕ → Option Value) : Type 0 where
  pub sound : (c : List ℕ) (v : Value) → AreOctets c → few (length c) ≡ true → rule c ≡ Some v → (write v ≡ wrap c) × (test v ≡ true) × (items v ≡ 0)
  pub complete : (v : Value) → test v ≡ true → (c : List ℕ) × (write v ≡ wrap c) × (few (length c) ≡ true) × (rule c ≡ Some v) × (items v ≡ 0)

-- octets behind a size were read as a value
record SizedAs (test : Value → Bool) (write : Writer) (wrap : List ℕ → List ℕ) (limit n : ℕ) (s : Spot) (v : Value) (to : Spot) : Type 0 where
  c : List ℕ
  len : length c ≡ n
  took : Took limit s c to
  written : write v ≡ wrap c
  fit : test v ≡ true
  none : items v ≡ 0

sized_found : (test : Value → Bool) (write : Writer) (wrap : List ℕ → List ℕ) (few : ℕ → Bool) (rule : List ℕ → Option Value) → Sized test write wrap few rule
    → (limit place n : ℕ) (s : Spot) (v : Value) (to : Spot) → AreOctets s.rest → sized_at limit place few rule (n, s) ≡ Ok (v, to) → SizedAs test write wrap limit n s v to
unfolding sized_at
sized_found test write wrap few rule h limit place n s v to are e =
    let b = bind_ok (announced_at limit place (few n) n s) _ (v, to) e in
    let c = bind_ok (some_or_refuse s.place (rule b.0.0)) _ (v, to) b.2 in
    let same = ok_is {A = Value × Spot} (c.0, b.0.1) (v, to) c.2 in
    let f = announced_found limit place (few n) n s b.0.1 b.0.0 b.1 in
    let x = h.sound b.0.0 c.0 (took_text limit s b.0.1 b.0.0 f.took are) (ap few f.len ∙ f.allow) (judge_is s.place (rule b.0.0) c.0 c.1) in
    subst (λ (y : Value × Spot). SizedAs test write wrap limit n s y.0 y.1) same
    (record { c = b.0.0; len = f.len; took = f.took; written = x.0; fit = x.1; none = x.2 })

sized_again : (few : ℕ → Bool) (rule : List ℕ → Option Value) (limit place at left : ℕ) (c : List ℕ) (v : Value) (rest : List ℕ)
    → few (length c) ≡ true → rule c ≡ Some v → at + length c ≤ limit
    → sized_at limit place few rule (length c, at_spot at (c ++ rest) left) ≡ Ok (v, at_spot (at + length c) rest left)
unfolding sized_at
sized_again few rule limit place at left c v rest f r le =
    rw (f, announced_again limit place at left c rest le, r) refl

-- what was read with a size of its own, and how long it is
fitted : (write : Writer) (wrap : List ℕ → List ℕ) (r : Reader) (limit place left end : ℕ) (c : List ℕ) (v : Value) (rest : List ℕ) → write v ≡ wrap c → items v ≡ 0 → end ≡ place + length (wrap c)
    → r limit (at_spot place (wrap c ++ rest) left) ≡ Ok (v, at_spot end rest left)
    → r limit (at_spot place (write v ++ rest) left) ≡ Ok (v, at_spot (place + length (write v)) rest (left - items v))
fitted write wrap r limit place left end c v rest w none e read =
    let to : end ≡ place + length (write v) = e ∙ ap (λ (x : List ℕ). place + length x) (sym w) in
    let kept : left ≡ left - items v = omega (arith, none) in
    ap (λ (x : List ℕ). r limit (at_spot place (x ++ rest) left)) w ∙ read ∙ λ i. Ok (v, at_spot (to i) rest (kept i))

pub string_found : (test : Value → Bool) (write : Writer) (few : ℕ → Bool) (rule : List ℕ → Option Value) → Sized test write counted few rule → Found test write (string_at few rule)
unfolding string_at
string_found test write few rule h = record {
  found = λ limit s v to are here e.
      let b = bind_ok (count_at limit s) _ (v, to) e in
      let t = count_found limit s b.0.1 b.0.0 are b.1 in
      let z = sized_found test write counted few rule h limit s.place b.0.0 b.0.1 v to (took_octets limit s b.0.1 (big_bytes 4 b.0.0) t are) b.2 in
      let whole = took_then limit s b.0.1 to (big_bytes 4 b.0.0) z.c t z.took in
      took_as test write limit s v to (counted z.c) z.written z.fit z.none (subst (λ (k : ℕ). Took limit s (big_bytes 4 k ++ z.c) to) (sym z.len) whole);
}

pub string_only : (test : Value → Bool) (write : Writer) (few : ℕ → Bool) (rule : List ℕ → Option Value) → Sized test write counted few rule → Only test write (string_at few rule)
unfolding string_at
string_only test write few rule h = record {
  only = λ limit place left v rest f lt le few_items most.
      let x = h.complete v f in
      let c : List ℕ = x.0 in
      let len : length (write v) ≡ 4 + length c = ap length x.1 ∙ (let e = length-append (big_bytes 4 (length c)) c in omega arith) in
      let small : length c < 2 ^ 32 = omega arith in
      let to : place + 4 + length c ≡ place + length (counted c) = (let e = length-append (big_bytes 4 (length c)) c in omega arith) in
      fitted write counted (string_at few rule) limit place left (place + 4 + length c) c v rest x.1 x.4 to
      (rw (count_again limit place left (length c) (c ++ rest) small (omega arith)) (sized_again few rule limit place (place + 4) left c v rest x.2 x.3 (omega arith)));
}

pub number_found : (test : Value → Bool) (write : Writer) (rule : List ℕ → Option Value) → Sized test write with_size is_size rule → Found test write (number_at rule)
unfolding number_at
number_found test write rule h = record {
  found = λ limit s v to are here e.
      let b = bind_ok (octet_at limit s) _ (v, to) e in
      let t = octet_found limit s b.0.1 b.0.0 b.1 in
      let w = if_ok (is_size b.0.0) (faults.NotSpelled s.place _) (sized_at limit s.place is_size rule b.0) (v, to) b.2 in
      let z = sized_found test write with_size is_size rule h limit s.place b.0.0 b.0.1 v to (took_octets limit s b.0.1 (b.0.0 ∷ []) t are) w.1 in
      let whole = took_then limit s b.0.1 to (b.0.0 ∷ []) z.c t z.took in
      took_as test write limit s v to (with_size z.c) z.written z.fit z.none (subst (λ (k : ℕ). Took limit s (k ∷ z.c) to) (sym z.len) whole);
}

pub number_only : (test : Value → Bool) (write : Writer) (rule : List ℕ → Option Value) → Sized test write with_size is_size rule → Only test write (number_at rule)
unfolding number_at
number_only test write rule h = record {
  only = λ limit place left v rest f lt le few_items most.
      let x = h.complete v f in
      let c : List ℕ = x.0 in
      let len : length (write v) ≡ 1 + length c = ap length x.1 ∙ omega arith in
      let to : place + 1 + length c ≡ place + length (with_size c) = omega arith in
      fitted write with_size (number_at rule) limit place left (place + 1 + length c) c v rest x.1 x.4 to
      (rw (octet_again limit place left (length c) (c ++ rest) (omega arith), x.2) (sized_again is_size rule limit place (place + 1) left c v rest x.2 x.3 (omega arith)));
}

-- ---- BIT STRING: behind the number of unused bits a string

eqb-same : (n : ℕ) → nat_eq n n ≡ true
eqb-same n = grind arith

abbrev unused_is : ℕ → Value → Bool
unused_is u (bits os n) = bits_fit (bits os n) && nat_eq n u
unused_is u v = false

abbrev bits_body : Writer
bits_body (bits os n) = counted os
bits_body v = []

pub some_if : {A : Type 0} (b : Bool) (x y : A) → ◌≡◌ {A = Option A} (cond b (Some x) None) (Some y) → (b ≡ true) × (x ≡ y)
some_if true x y e = (refl, cc)
some_if false x y e = absurd cc

pub octets_all : (os : List ℕ) → AreOctets os → list_all is_octet os ≡ true
octets_all os h = sym (all_octets os h.each)

some_bits : (os : List ℕ) (u : ℕ) → are_bits os u ≡ true → bits_size u (length os) ≡ true
some_bits [] u e = (and_parts (nat_lt u 8) (nat_eq u 0) e).1
some_bits (o ∷ os) u e = let some : nat_eq (length (o ∷ os)) 0 ≡ false = ne_eqb (length (o ∷ os)) 0 (λ e. omega arith) in rw some refl

bits_sized : (u : ℕ) → Sized (unused_is u) bits_body counted (bits_size u) (bits_rule u)
bits_sized u = record { sound = bits_sound; complete = bits_complete }
  where
    bits_sound : (c : List ℕ) (v : Value) → AreOctets c → bits_size u (length c) ≡ true → bits_rule u c ≡ Some v → (bits_body v ≡ counted c) × (unused_is u v ≡ true) × (items v ≡ 0)
    bits_sound c v are few e =
        let t = some_if (are_bits c u) (bits c u) v e in
        let itself : nat_eq u u ≡ true = eqb-same u in
        subst (λ (x : Value). (bits_body x ≡ counted c) × (unused_is u x ≡ true) × (items x ≡ 0)) t.1
        (refl, rw (octets_all c are, t.0, itself) refl, refl)

    bits_complete : (v : Value) → unused_is u v ≡ true → (c : List ℕ) × (bits_body v ≡ counted c) × (bits_size u (length c) ≡ true) × (bits_rule u c ≡ Some v) × (items v ≡ 0)
    bits_complete (bits os n) e =
        let t = and_parts (bits_fit (bits os n)) (nat_eq n u) e in
        let same : n ≡ u = eqb-true n u t.1 in
        let ok : are_bits os u ≡ true = ap (are_bits os) (sym same) ∙ (and_parts (list_all is_octet os) (are_bits os n) t.0).1 in
        (os, refl, some_bits os u ok, rw ok (ap (λ (k : ℕ). Some (bits os k)) (sym same)), refl)
    bits_complete null e = absurd cc
    bits_complete (boolean b) e = absurd cc
    bits_complete (integer z) e = absurd cc
    bits_complete (octets os) e = absurd cc
    bits_complete (object_id os) e = absurd cc
    bits_complete (text os) e = absurd cc
    bits_complete (parts ps) e = absurd cc
    bits_complete (list vs) e = absurd cc
    bits_complete (chosen n v) e = absurd cc
    bits_complete (any os) e = absurd cc

bits_join : (u limit : ℕ) (s mid : Spot) (v : Value) (to : Spot) → Took limit s (u ∷ []) mid → ReadAs (unused_is u) bits_body limit mid v to → ReadAs bits_fit bits_written limit s v to
bits_join u limit s mid (bits os n) to t r =
    let f = and_parts (bits_fit (bits os n)) (nat_eq n u) r.fit in
    let same : u ≡ n = sym (eqb-true n u f.1) in
    record {
      parts = t.parts ∙ λ i. same i ∷ r.parts i;
      onward = omega (arith, t.onward, r.onward);
      inside = r.inside;
      spent = omega (arith, t.left, r.spent);
      fit = f.0;
    }
bits_join u limit s mid null to t r = absurd (let f = r.fit in cc)
bits_join u limit s mid (boolean b) to t r = absurd (let f = r.fit in cc)
bits_join u limit s mid (integer z) to t r = absurd (let f = r.fit in cc)
bits_join u limit s mid (octets os) to t r = absurd (let f = r.fit in cc)
bits_join u limit s mid (object_id os) to t r = absurd (let f = r.fit in cc)
bits_join u limit s mid (text os) to t r = absurd (let f = r.fit in cc)
bits_join u limit s mid (parts ps) to t r = absurd (let f = r.fit in cc)
bits_join u limit s mid (list vs) to t r = absurd (let f = r.fit in cc)
bits_join u limit s mid (chosen n v) to t r = absurd (let f = r.fit in cc)
bits_join u limit s mid (any os) to t r = absurd (let f = r.fit in cc)

pub bits_found : Found bits_fit bits_written bits_at
unfolding bits_at
bits_found = record {
  found = λ limit s v to are here e.
      let b = bind_ok (octet_at limit s) _ (v, to) e in
      let u : ℕ = b.0.0 in
      let mid : Spot = b.0.1 in
      let t = octet_found limit s mid u b.1 in
      let c = if_ok (nat_lt u 8) (faults.NotSpelled s.place _) (string_at (bits_size u) (bits_rule u) limit mid) (v, to) b.2 in
      bits_join u limit s mid v to t ((string_found (unused_is u) bits_body (bits_size u) (bits_rule u) (bits_sized u)).found limit mid v to (took_octets limit s mid (u ∷ []) t are) t.inside c.1);
}

bits_back : (limit place left : ℕ) (v : Value) (rest : List ℕ) → bits_fit v ≡ true → limit < 2 ^ 32 → place + length (bits_written v) ≤ limit → left ≤ most_items
    → bits_at limit (at_spot place (bits_written v ++ rest) left) ≡ Ok (v, at_spot (place + length (bits_written v)) rest (left - items v))
unfolding bits_at
bits_back limit place left (bits os n) rest f lt le most =
    let small : nat_lt n 8 ≡ true = (and_parts (nat_lt n 8) _ (and_parts (list_all is_octet os) (are_bits os n) f).1).0 in
    let itself : nat_eq n n ≡ true = eqb-same n in
    let g : unused_is n (bits os n) ≡ true = rw (f, itself) refl in
    let to : place + 1 + length (counted os) ≡ place + length (bits_written (bits os n)) = omega arith in
    rw (octet_again limit place left n (counted os ++ rest) (omega arith), small)
    ((string_only (unused_is n) bits_body (bits_size n) (bits_rule n) (bits_sized n)).only limit (place + 1) left (bits os n) rest g lt (omega arith) (omega arith) most
    ∙ ap (λ (k : ℕ). Ok (bits os n, at_spot k rest (left - 0))) to)
bits_back limit place left null rest f lt le most = absurd cc
bits_back limit place left (boolean b) rest f lt le most = absurd cc
bits_back limit place left (integer z) rest f lt le most = absurd cc
bits_back limit place left (octets os) rest f lt le most = absurd cc
bits_back limit place left (object_id os) rest f lt le most = absurd cc
bits_back limit place left (text os) rest f lt le most = absurd cc
bits_back limit place left (parts ps) rest f lt le most = absurd cc
bits_back limit place left (list vs) rest f lt le most = absurd cc
bits_back limit place left (chosen n v) rest f lt le most = absurd cc
bits_back limit place left (any os) rest f lt le most = absurd cc

pub bits_only : Only bits_fit bits_written bits_at
bits_only = record { only = λ limit place left v rest f lt le few most. bits_back limit place left v rest f lt le most }
