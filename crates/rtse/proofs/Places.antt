-- Places in a transfer: what was given up to there, as its receiver has it. A place is a number of chunks, and whether what stands behind the last of them is still due.
use Rattle.std.proofs.Common.{◌≡◌, ℕ, suc, zero, ◌+◌, ◌-◌, ◌*◌, ◌<◌, ◌≤◌, nat_le, Bool, true, false, List, [], ◌∷◌, ◌++◌, length, take, drop, slice_index, if◌then◌else◌, Ok, refl, sym, ◌∙◌, ap, subst, ◌⊎◌, inl, inr, eq-eqb, eqb, le_of_lt, add-one, arith}
use Rattle.std.proofs.lemmas.List.{length-append, length-take, length-take-le, take-append-le, get_or_append_left}
use Rattle.std.proofs.lemmas.Bool.{le-leb, lt-leb}
use Rattle.std.proofs.Math.Dec.{eqb-suc-zero}
use Rattle.std.proofs.lemmas.Bool.Decides.{leb_tells}
use Rattle.std.proofs.lemmas.Grind.{common_steps}
use Rattle.std.proofs.Math.Seq.{take-add, take-length, get_or-append_seam}
use Rattle.std.proofs.Math.Nat.{eq-or-lt_of_le, zero-mul, mul-le-mul_right}
use Rattle.osi_base.specs.Limits.{most_transferred}
use Rattle.rtse.specs.Receiving as received
use Rattle.rtse.specs.Receiving.{Receiving, highest}
use Rattle.rtse.specs.declared.incoming.Ended.TheVariants.{Whole, Again}
use Rattle.rtse.specs.Exchange.{Word, came, record_behind}
use Rattle.rtse.specs.Exchange.Word.{Start, Part, Point, Finish, Resume}

-- the octets at each mark up to this one
abbrev pub points : ℕ → ℕ → List ℕ
points size zero = []
points size (suc m) = points size m ++ suc m * size ∷ []

pub length-points : (size m : ℕ) → length (points size m) ≡ m
length-points size zero = refl
length-points size (suc m) = grind (arith, common_steps, length-points size m)

take_all : (size m : ℕ) → take m (points size m) ≡ points size m
take_all size m =
    subst (λ x. take x (points size m) ≡ points size m) (length-points size m) (take-length (points size m))

pub take-points : (size c m : ℕ) → c ≤ m → take c (points size m) ≡ points size c
take-points size c zero h = grind (arith, common_steps)
take-points size c (suc m) h =
    elim (eq-or-lt_of_le h) [
      | inl e ↦ subst (λ x. take c (points size x) ≡ points size c) e (take_all size c)
      | inr l ↦
          let within : c ≤ m = omega arith in
          let short : c ≤ length (points size m) = omega (arith, length-points size m) in
          take-append-le c (points size m) (suc m * size ∷ []) short ∙ take-points size c m within
    ]

pub index-points : (size c m : ℕ) → c < m → slice_index (points size m) c ≡ suc c * size
index-points size c zero h = absurd (omega arith)
index-points size c (suc m) h =
    elim (eq-or-lt_of_le h) [
      | inl e ↦
          let same : c ≡ m = omega arith in
          subst (λ x. slice_index (points size m ++ suc m * size ∷ []) x ≡ suc x * size) (sym same)
          (subst (λ x. slice_index (points size m ++ suc m * size ∷ []) x ≡ suc m * size) (length-points size m)
          (get_or-append_seam (points size m) (suc m * size) [] 0))
      | inr l ↦
          let within : c < m = omega arith in
          let short : c < length (points size m) = omega (arith, length-points size m) in
          get_or_append_left (points size m) (suc m * size ∷ []) 0 c short ∙ index-points size c m within
    ]

-- how many chunks have their mark or their end behind them
abbrev pub closed : ℕ → Bool → ℕ
closed k d = if d then k - 1 else k

-- the place after one more step
abbrev pub chunks_on : ℕ → Bool → ℕ
chunks_on k d = if d then k else k + 1

abbrev pub due_on : Bool → Bool
due_on d = if d then false else true

-- the highest mark up to a place
abbrev pub marks_at : List ℕ → ℕ → ℕ → Bool → ℕ
marks_at os size k d = if nat_le (length os) (closed k d * size) then closed k d - 1 else closed k d

-- the word behind a place
abbrev pub word_at : List ℕ → ℕ → ℕ → Bool → Word
word_at os size k d =
    if d
    then (if nat_le (length os) (k * size) then Finish k else Point k)
    else Part (take size (drop (k * size) os))

-- the transfer goes on from here
abbrev pub IsOpen : List ℕ → ℕ → ℕ → Bool → Type 0
IsOpen os size k d = (closed k d * size < length os) × (chunks_on k d ≡ closed k d + 1)

-- the receiver has what was given up to here
pub record IsAt (number : ℕ) (os : List ℕ) (size k : ℕ) (d : Bool) (r : Receiving) : Type 0 where
  pub numbered : r.number ≡ number
  pub came_so_far : r.octets ≡ take (k * size) os
  pub marked_so_far : r.marks ≡ points size (marks_at os size k d)

-- The word behind a place is taken, and leads to the place after one more step.
pub record Taken (number : ℕ) (os : List ℕ) (size k : ℕ) (d : Bool) (r : Receiving) (word : Word) : Type 0 where
  pub record_after : Receiving
  pub is_taken : came word r ≡ Ok record_after
  pub is_there : IsAt number os size k d record_after

next-octets : (os : List ℕ) (size k : ℕ) (had : List ℕ) → had ≡ take (k * size) os → had ++ take size (drop (k * size) os) ≡ take ((k + 1) * size) os
next-octets os size k had h =
    let e : (k + 1) * size ≡ k * size + size = grind arith in
    rw (h, e) (sym (take-add (k * size) size os))

few-octets : (os : List ℕ) (size k : ℕ) (had : List ℕ) → length os ≤ most_transferred → had ≡ take (k * size) os → length had + length (take size (drop (k * size) os)) ≤ most_transferred
few-octets os size k had few h =
    let joined : had ++ take size (drop (k * size) os) ≡ take ((k + 1) * size) os = next-octets os size k had h in
    omega (arith, length-append had (take size (drop (k * size) os)), ap length joined, length-take ((k + 1) * size) os)

pub part-taken : (number : ℕ) (os : List ℕ) (size k : ℕ) (r : Receiving) → length os ≤ most_transferred → IsAt number os size k false r → Taken number os size (k + 1) true r (word_at os size k false)
part-taken number os size k r few at =
    record {
      record_after = record r { octets = r.octets ++ take size (drop (k * size) os) };
      is_taken = rw (le-leb (length r.octets + length (take size (drop (k * size) os))) most_transferred (few-octets os size k r.octets few at.came_so_far)) refl;
      is_there = record {
        numbered = at.numbered;
        came_so_far = next-octets os size k r.octets at.came_so_far;
        marked_so_far = let e : k + 1 - 1 ≡ k = omega arith in rw e at.marked_so_far;
      };
    }

-- A place behind a chunk has as many marks as chunks before that one.
pub marks-due : (os : List ℕ) (size k : ℕ) → (k - 1) * size < length os → marks_at os size k true ≡ k - 1
marks-due os size k h = rw (lt-leb (length os) ((k - 1) * size) h) refl

pub marks-closed : (os : List ℕ) (size k : ℕ) → k * size < length os → marks_at os size k false ≡ k
marks-closed os size k h = rw (lt-leb (length os) (k * size) h) refl

pub marks-ended : (os : List ℕ) (size k : ℕ) → length os ≤ k * size → marks_at os size k false ≡ k - 1
marks-ended os size k h = rw (le-leb (length os) (k * size) h) refl

points-more : (size m : ℕ) → points size m ++ (m + 1) * size ∷ [] ≡ points size (m + 1)
points-more size m = rw add-one refl

pub next-mark : (number : ℕ) (os : List ℕ) (size k : ℕ) (r : Receiving) → IsOpen os size k true → IsAt number os size k true r → k ≡ highest r + 1
next-mark number os size k r free at =
    free.1 ∙ ap (λ n. n + 1) (sym (ap length at.marked_so_far ∙ length-points size (marks_at os size k true) ∙ marks-due os size k free.0))

-- the record once the transfer was handed up
abbrev handed : Bool → Receiving → Receiving
handed b r = if b then r else record r { handed_up = true }

behind-handed : (b : Bool) (r : Receiving) → record_behind (Ok (if b then (Again, r) else (Whole r.octets, record r { handed_up = true }))) ≡ Ok (handed b r)
behind-handed true r = refl
behind-handed false r = refl

at-end : (number : ℕ) (os : List ℕ) (size k : ℕ) (b : Bool) (r : Receiving) → IsOpen os size k true → length os ≤ k * size → IsAt number os size k true r → IsAt number os size k false (handed b r)
at-end number os size k true r free past at =
    record { numbered = at.numbered; came_so_far = at.came_so_far; marked_so_far = at.marked_so_far ∙ ap (points size) (marks-due os size k free.0 ∙ sym (marks-ended os size k past)) }
at-end number os size k false r free past at =
    record { numbered = at.numbered; came_so_far = at.came_so_far; marked_so_far = at.marked_so_far ∙ ap (points size) (marks-due os size k free.0 ∙ sym (marks-ended os size k past)) }

pub finish-taken : (number : ℕ) (os : List ℕ) (size k : ℕ) (r : Receiving) → IsOpen os size k true → length os ≤ k * size → IsAt number os size k true r → Taken number os size k false r (Finish k)
finish-taken number os size k r free past at =
    record {
      record_after = handed r.handed_up r;
      is_taken = rw (eq-eqb k (highest r + 1) (next-mark number os size k r free at)) (behind-handed r.handed_up r);
      is_there = at-end number os size k r.handed_up r free past at;
    }

pub mark-taken : (number : ℕ) (os : List ℕ) (size k : ℕ) (r : Receiving) → IsOpen os size k true → k * size < length os → IsAt number os size k true r → Taken number os size k false r (Point k)
mark-taken number os size k r free before at =
    record {
      record_after = record r { marks = r.marks ++ length r.octets ∷ [] };
      is_taken = rw (eq-eqb k (highest r + 1) (next-mark number os size k r free at)) refl;
      is_there = record {
        numbered = at.numbered;
        came_so_far = at.came_so_far;
        marked_so_far =
            let reached : length r.octets ≡ k * size = ap length at.came_so_far ∙ length-take-le (k * size) os (le_of_lt before) in
            let had : r.marks ≡ points size (k - 1) = at.marked_so_far ∙ ap (points size) (marks-due os size k free.0) in
            let this : points size (k - 1) ++ k * size ∷ [] ≡ points size k =
            subst (λ n. points size (k - 1) ++ n * size ∷ [] ≡ points size n) (sym free.1) (points-more size (k - 1)) in
            ap (λ ms. ms ++ length r.octets ∷ []) had ∙ ap (λ n. points size (k - 1) ++ n ∷ []) reached ∙ this ∙ sym (ap (points size) (marks-closed os size k before));
      };
    }

pub point-taken : (number : ℕ) (os : List ℕ) (size k : ℕ) (r : Receiving) → IsOpen os size k true → IsAt number os size k true r → Taken number os size k false r (word_at os size k true)
point-taken number os size k r free at =
    elim (leb_tells (length os) (k * size)) [
      | inl t ↦ rw t.0 (finish-taken number os size k r free t.1 at)
      | inr t ↦ rw t.0 (mark-taken number os size k r free t.1 at)
    ]

-- how many octets there were at a mark
octets-at : (size m c : ℕ) (r : Receiving) → r.marks ≡ points size m → c ≤ m → received.octets_at r c ≡ c * size
octets-at size m zero r h within = sym (zero-mul size)
octets-at size m (suc c) r h within =
    let e : suc c - 1 ≡ c = omega arith in
    let below : c < m = omega arith in
    let at_mark : slice_index r.marks c ≡ suc c * size = ap (λ xs. slice_index xs c) h ∙ index-points size c m below in
    rw (eqb-suc-zero c, e) at_mark

take-take : (i j : ℕ) (xs : List ℕ) → i ≤ j → take i (take j xs) ≡ take i xs
take-take zero j xs h = refl
take-take (suc i) zero xs h = absurd (omega arith)
take-take (suc i) (suc j) [] h = refl
take-take (suc i) (suc j) (x ∷ xs) h = ap (λ ys. x ∷ ys) (take-take i j xs (omega arith))

resumed-so : (number c : ℕ) (r : Receiving) → r.number ≡ number → 1 ≤ number → c ≤ highest r → received.resumption_taken number c r ≡ Ok (received.back_to c r)
resumed-so number c r same some within =
    rw (eq-eqb number r.number (sym same), le-leb 1 number some, le-leb c (highest r) within) refl

-- a transfer that is resumed from a mark that its receiver has, or from nothing
pub back-taken : (number : ℕ) (os : List ℕ) (size k : ℕ) (d : Bool) (r : Receiving) (c : ℕ) → 1 ≤ number → c ≤ marks_at os size k d → c ≤ k → c * size < length os → IsAt number os size k d r → Taken number os size c false r (Resume number c)
back-taken number os size k d r c some marked within before at =
    let had : c ≤ highest r = omega (arith, ap length at.marked_so_far, length-points size (marks_at os size k d)) in
    record {
      record_after = received.back_to c r;
      is_taken = resumed-so number c r at.numbered some had;
      is_there = record {
        numbered = at.numbered;
        came_so_far =
            ap (λ n. take n r.octets) (octets-at size (marks_at os size k d) c r at.marked_so_far marked)
            ∙ ap (λ xs. take (c * size) xs) at.came_so_far
            ∙ take-take (c * size) (k * size) os (mul-le-mul_right size within);
        marked_so_far =
            ap (λ xs. take c xs) at.marked_so_far ∙ take-points size c (marks_at os size k d) marked
            ∙ sym (ap (points size) (marks-closed os size c before));
      };
    }

-- a transfer at its first octet
pub at-start : (number : ℕ) (os : List ℕ) (size : ℕ) → 1 ≤ length os → IsAt number os size 0 false (received.fresh number)
at-start number os size some =
    record {
      numbered = refl;
      came_so_far = rw (zero-mul size) refl;
      marked_so_far = sym (ap (points size) (marks-closed os size 0 (rw (zero-mul size) some)));
    }

-- the transfer starts, with the number behind the one before
pub start-taken : (number : ℕ) (os : List ℕ) (size : ℕ) (r : Receiving) → 1 ≤ length os → number ≡ r.number + 1 → Taken number os size 0 false r (Start number)
start-taken number os size r some behind =
    record {
      record_after = received.fresh number;
      is_taken = rw (eq-eqb number (r.number + 1) behind) refl;
      is_there = at-start number os size some;
    }

other-number : (n m : ℕ) → n ≡ m + 1 → eqb n m ≡ false
other-number n m h = grind (arith, common_steps)

-- it is resumed from nothing, where no start of it came
pub anew-taken : (number : ℕ) (os : List ℕ) (size : ℕ) (r : Receiving) → 1 ≤ length os → number ≡ r.number + 1 → Taken number os size 0 false r (Resume number 0)
anew-taken number os size r some behind =
    let other : eqb number r.number ≡ false = other-number number r.number behind in
    record {
      record_after = received.fresh number;
      is_taken = rw (other, eq-eqb number (r.number + 1) behind) refl;
      is_there = at-start number os size some;
    }

-- the last activity is resumed from nothing
zero-taken : (number : ℕ) (os : List ℕ) (size : ℕ) (r : Receiving) → 1 ≤ number → 1 ≤ length os → r.number ≡ number → Taken number os size 0 false r (Resume number 0)
zero-taken number os size r some some_octets same =
    record {
      record_after = received.back_to 0 r;
      is_taken = resumed-so number 0 r same some (omega arith);
      is_there = record {
        numbered = same;
        came_so_far = (at-start number os size some_octets).came_so_far;
        marked_so_far = (at-start number os size some_octets).marked_so_far;
      };
    }

-- the last activity or the next one is resumed from nothing
pub renewed-taken : (number : ℕ) (os : List ℕ) (size : ℕ) (r : Receiving) → 1 ≤ number → 1 ≤ length os → (r.number ≡ number) ⊎ (number ≡ r.number + 1) → Taken number os size 0 false r (Resume number 0)
renewed-taken number os size r some some_octets (inl same) = zero-taken number os size r some some_octets same
renewed-taken number os size r some some_octets (inr behind) = anew-taken number os size r some_octets behind

-- a mark stands before the end
pub marks-before : (os : List ℕ) (size k : ℕ) (d : Bool) → (k - 1) * size < length os → marks_at os size k d * size < length os
marks-before os size k true valid = rw (marks-due os size k valid) valid
marks-before os size k false valid =
    elim (leb_tells (length os) (k * size)) [
      | inl t ↦ rw t.0 valid
      | inr t ↦ rw t.0 t.1
    ]

pub marks-le : (os : List ℕ) (size k : ℕ) (d : Bool) → marks_at os size k d ≤ k
marks-le os size k true =
    elim (leb_tells (length os) ((k - 1) * size)) [ inl t ↦ rw t.0 (omega arith) | inr t ↦ rw t.0 (omega arith) ]
marks-le os size k false =
    elim (leb_tells (length os) (k * size)) [ inl t ↦ rw t.0 (omega arith) | inr t ↦ rw t.0 (omega arith) ]
