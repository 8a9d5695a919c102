-- How long names, numbers and lists of the presentation protocol are at most.
use Rattle.std.proofs.Common.{◌≡◌, refl, true, false, sym, subst, arith, ℕ, zero, suc, ◌+◌, ◌*◌, ◌/◌, ◌%◌, ◌^◌, ◌≤◌, ◌<◌, List, [], ◌∷◌, map, length}
use Rattle.std.specs.Prelude.{Bool, None, nat_eq, nat_le, if◌then◌else◌}
use Rattle.std.specs.List.{list_all, flat_map}
use Rattle.std.proofs.lemmas.Bool.{and_parts}
use Rattle.std.proofs.lemmas.Bool.Decides.{nat_tests}
use Rattle.std.proofs.lemmas.List.{length-append}
use Rattle.osi_base.specs.Oid.{is_oid, starts_well}
use Rattle.asn1_types.specs.declared.row.Part.{Part}
use Rattle.asn1_types.specs.declared.row.Tag as tags
use Rattle.asn1_types.specs.Fits.{has_32_bits}
use Rattle.asn1_types.specs.Tags.{ranks, front_rank}
use Rattle.asn1_types.specs.Value.{Value, MaybeValues, no_parts, absent, present}
use Rattle.asn1_types.specs.ValueView.{values_of}
use Rattle.asn1_types.specs.Writing.{Writer, high_digits, base_128, subidentifiers, definite, parts_contents, of_rank, risen_parts, set_parts, values_contents}
use Rattle.said_words.specs.Calls.{IsName}
use Rattle.transfer_spelling.proofs.Lengths.{definite-length}

-- ---- names

high-few : (k turns n : ℕ) (behind : List ℕ) → n < 128 ^ k → length (high_digits turns n behind) ≤ k + length behind
high-few k zero n behind h = omega arith
high-few zero (suc turns) n behind h =
    let none : n ≡ 0 = omega arith in
    let s : length (if nat_eq n 0 then behind else high_digits turns (n / 128) ((128 + n % 128) ∷ behind)) ≤ length behind =
    subst (λ (m : ℕ). length (if nat_eq m 0 then behind else high_digits turns (m / 128) ((128 + m % 128) ∷ behind)) ≤ length behind) (sym none) (omega arith) in
    omega arith
high-few (suc k) (suc turns) n behind h = go (high-few k turns (n / 128) ((128 + n % 128) ∷ behind) (lower n (128 ^ k) (subst (λ m. n < m) (powers k) h))) (nat_eq n 0)
  where
    lower : (n m : ℕ) → n < 128 * m → n / 128 < m
    lower n m h = omega arith

    powers : (k : ℕ) → 128 ^ suc k ≡ 128 * 128 ^ k
    powers k = omega arith

    go : length (high_digits turns (n / 128) ((128 + n % 128) ∷ behind)) ≤ k + suc (length behind) → (b : Bool) → length (if b then behind else high_digits turns (n / 128) ((128 + n % 128) ∷ behind)) ≤ suc k + length behind
    go later true = omega arith
    go later false = omega arith

-- an arc of 32 bits, and the first two of a name together
arc-few : (n : ℕ) → n < 2 ^ 40 → length (base_128 n) ≤ 6
unfolding base_128
arc-few n h = let l = high-few 5 (n / 128) (n / 128) ((n % 128) ∷ []) (omega arith) in omega arith

abbrev Small : List ℕ → Type 0
Small [] = Unit {0}
Small (n ∷ ns) = (n < 2 ^ 40) × Small ns

arcs-few : (ns : List ℕ) → Small ns → length (flat_map base_128 ns) ≤ 6 * length ns
arcs-few [] h = omega arith
arcs-few (n ∷ ns) h =
    let a = arc-few n h.0 in
    let b = arcs-few ns h.1 in
    let c = length-append (base_128 n) (flat_map base_128 ns) in
    omega arith

small-so : (n : ℕ) → has_32_bits n ≡ true → n < 2 ^ 32
small-so n h = grind (arith, nat_tests)

all-small : (ns : List ℕ) → list_all has_32_bits ns ≡ true → Small ns
all-small [] h = tt
all-small (n ∷ ns) h =
    let a = and_parts (has_32_bits n) (list_all has_32_bits ns) h in
    let s = small-so n a.0 in
    (omega arith, all-small ns a.1)

few-so : (n m : ℕ) → nat_le n m ≡ true → n ≤ m
few-so n m h = grind (arith, nat_tests)

subs-few : (arcs : List ℕ) → IsName arcs → length (flat_map base_128 (subidentifiers arcs)) ≤ 192
subs-few arcs h = go arcs (few-so (length arcs) 32 (and_parts (nat_le (length arcs) 32) (starts_well arcs) o.0).0) (and_parts (is_oid arcs) (list_all has_32_bits arcs) h).1
  where
    o : (is_oid arcs ≡ true) × (list_all has_32_bits arcs ≡ true)
    o = and_parts (is_oid arcs) (list_all has_32_bits arcs) h

    go : (arcs : List ℕ) → length arcs ≤ 32 → list_all has_32_bits arcs ≡ true → length (flat_map base_128 (subidentifiers arcs)) ≤ 192
    go [] few small = omega arith
    go (root ∷ []) few small = let s = all-small (root ∷ []) small in let a = arcs-few (root ∷ []) s in omega arith
    go (root ∷ second ∷ more) few small =
        let a = and_parts (has_32_bits root) (list_all has_32_bits (second ∷ more)) small in
        let b = and_parts (has_32_bits second) (list_all has_32_bits more) a.1 in
        let r = small-so root a.0 in
        let s = small-so second b.0 in
        let first : 40 * root + second < 2 ^ 40 = omega arith in
        let f = arcs-few ((40 * root + second) ∷ more) (first, all-small more b.1) in
        omega arith

-- the octets of a name, under a low tag
pub name-few : (tag : tags.Tag) (arcs : List ℕ) → tag.number < 31 → IsName arcs → length (definite false tag (flat_map base_128 (subidentifiers arcs))) ≤ 200
name-few tag arcs low h =
    let a = subs-few arcs h in
    let b = definite-length false tag (flat_map base_128 (subidentifiers arcs)) low (omega arith) in
    omega arith

-- ---- lists

abbrev pub times : ℕ → ℕ → ℕ
times m zero = 0
times m (suc n) = m + times m n

pub times-up : (m n k : ℕ) → n ≤ k → times m n ≤ times m k
times-up m zero k h = omega arith
times-up m (suc n) zero h = absurd (omega arith)
times-up m (suc n) (suc k) h = let l = times-up m n k (omega arith) in omega arith

abbrev pub Each : {X : Type 0} → (X → Type 0) → List X → Type 0
Each P [] = Unit {0}
Each P (x ∷ xs) = P x × Each P xs

pub list-few : {X : Type 0} (W : Writer) (g : X → Value) (P : X → Type 0) (m : ℕ) → ((x : X) → P x → length (W None (g x)) ≤ m) → (xs : List X) → Each P xs → length (values_contents W (values_of (map g xs))) ≤ times m (length xs)
list-few W g P m f [] h = omega arith
list-few W g P m f (x ∷ xs) h =
    let a = f x h.0 in
    let b = list-few W g P m f xs h.1 in
    let c = length-append (W None (g x)) (values_contents W (values_of (map g xs))) in
    omega arith

-- ---- parts of a SET, in the order of their tags, are as long as in that of the notation

abbrev from_rank : ℕ → (ℕ → Writer) → ℕ → Writer
from_rank least w n tag v = if nat_le least (front_rank (w n tag v)) then w n tag v else []

one-rank : (r least : ℕ) (x : List ℕ) → length (if nat_eq r least then x else []) + length (if nat_le (suc least) r then x else []) ≤ length (if nat_le least r then x else [])
one-rank r least x = go (nat_eq r least) refl (nat_le (suc least) r) refl (nat_le least r) refl
  where
    apart : (r l : ℕ) → nat_eq r l ≡ true → nat_le (suc l) r ≡ true → ⊥
    apart r l e f = grind (arith, nat_tests)

    same : (r l : ℕ) → nat_eq r l ≡ true → nat_le l r ≡ false → ⊥
    same r l e f = grind (arith, nat_tests)

    above : (r l : ℕ) → nat_le (suc l) r ≡ true → nat_le l r ≡ false → ⊥
    above r l e f = grind (arith, nat_tests)

    go : (a : Bool) → nat_eq r least ≡ a → (b : Bool) → nat_le (suc least) r ≡ b → (c : Bool) → nat_le least r ≡ c → length (if a then x else []) + length (if b then x else []) ≤ length (if c then x else [])
    go true e true f c g = absurd (apart r least e f)
    go true e false f true g = omega arith
    go true e false f false g = absurd (same r least e g)
    go false e true f true g = omega arith
    go false e true f false g = absurd (above r least f g)
    go false e false f true g = omega arith
    go false e false f false g = omega arith

module _ (w : ℕ → Writer) where
  ranked : (least : ℕ) (ps : List Part) (vs : MaybeValues) → length (parts_contents (of_rank least w) ps vs) + length (parts_contents (from_rank (suc least) w) ps vs) ≤ length (parts_contents (from_rank least w) ps vs)
  ranked least [] vs = omega arith
  ranked least (p ∷ ps) no_parts = omega arith
  ranked least (p ∷ ps) (absent vs) = ranked least ps vs
  ranked least (p ∷ ps) (present v vs) =
      let a = one-rank (front_rank (w p.inner.0 None v)) least (w p.inner.0 None v) in
      let b = ranked least ps vs in
      let c = length-append (of_rank least w p.inner.0 None v) (parts_contents (of_rank least w) ps vs) in
      let d = length-append (from_rank (suc least) w p.inner.0 None v) (parts_contents (from_rank (suc least) w) ps vs) in
      let e = length-append (from_rank least w p.inner.0 None v) (parts_contents (from_rank least w) ps vs) in
      omega arith

  risen-few : (many least : ℕ) (ps : List Part) (vs : MaybeValues) → length (risen_parts w many least ps vs) ≤ length (parts_contents (from_rank least w) ps vs)
  unfolding risen_parts
  risen-few zero least ps vs = omega arith
  risen-few (suc many) least ps vs =
      let a = risen-few many (suc least) ps vs in
      let b = ranked least ps vs in
      let c = length-append (parts_contents (of_rank least w) ps vs) (risen_parts w many (suc least) ps vs) in
      omega arith

  all-ranks : (least : ℕ) (ps : List Part) (vs : MaybeValues) → length (parts_contents (from_rank least w) ps vs) ≤ length (parts_contents w ps vs)
  all-ranks least [] vs = omega arith
  all-ranks least (p ∷ ps) no_parts = omega arith
  all-ranks least (p ∷ ps) (absent vs) = all-ranks least ps vs
  all-ranks least (p ∷ ps) (present v vs) =
      let a = some (nat_le least (front_rank (w p.inner.0 None v))) in
      let b = all-ranks least ps vs in
      let d = length-append (from_rank least w p.inner.0 None v) (parts_contents (from_rank least w) ps vs) in
      let e = length-append (w p.inner.0 None v) (parts_contents w ps vs) in
      omega arith
    where
      some : (b : Bool) → length (if b then w p.inner.0 None v else []) ≤ length (w p.inner.0 None v)
      some true = omega arith
      some false = omega arith

  pub set-few : (ps : List Part) (vs : MaybeValues) → length (set_parts w ps vs) ≤ length (parts_contents w ps vs)
  unfolding set_parts
  set-few ps vs = let a = risen-few ranks 0 ps vs in let b = all-ranks 0 ps vs in omega arith
