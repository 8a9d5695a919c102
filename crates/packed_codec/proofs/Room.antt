-- Texts that are put into a room one behind the other.
use Rattle.std.proofs.Common.{◌≡◌, ℕ, zero, suc, ◌+◌, ◌≤◌, List, [], ◌∷◌, ◌++◌, length, take, drop, refl, sym, ap, ◌∙◌, subst, arith, length-append, append_assoc}
use Rattle.std.proofs.Math.Seq.{drop-nil}
use Rattle.std.proofs.lemmas.List.{take_at, drop_at, take-append-drop, length-take, length-drop, append-nil}
use Rattle.packed_codec.specs.Writing.{IsPut}

drop_drop : (m n : ℕ) (xs : List ℕ) → drop n (drop m xs) ≡ drop (m + n) xs
drop_drop zero n xs = ap (λ (k : ℕ). drop k xs) (omega arith)
drop_drop (suc m) n [] = drop-nil n ∙ sym (drop-nil (suc m + n))
drop_drop (suc m) n (x ∷ xs) =
    let e : suc m + n ≡ suc (m + n) = omega arith in
    drop_drop m n xs ∙ ap (λ (k : ℕ). drop k (x ∷ xs)) (sym e)

-- the room keeps its length
pub kept : (text : List ℕ) (at : ℕ) (old new : List ℕ) (next : ℕ) → IsPut text at old new next → at + length text ≤ length old → length new ≡ length old
kept text at old new next p le =
    let a = ap length p.holds in
    let b = length-append (take at old) (text ++ drop (at + length text) old) in
    let c = length-append text (drop (at + length text) old) in
    let d = length-take at old in
    let e = length-drop (at + length text) old in
    omega arith

-- nothing is put
pub nothing : (at : ℕ) (room : List ℕ) → IsPut [] at room room at
nothing at room =
    let z : at + 0 ≡ at = omega arith in
    record { ends = sym z; holds = sym (take-append-drop at room) ∙ ap (λ (k : ℕ). take at room ++ drop k room) (sym z) }

-- what stands behind a text is as it was
behind_is : (text : List ℕ) (at : ℕ) (old new : List ℕ) (next : ℕ) → IsPut text at old new next → at + length text ≤ length old → drop next new ≡ drop next old
behind_is text at old new next p le =
    let front : List ℕ = take at old ++ text in
    let cells : new ≡ front ++ drop (at + length text) old = p.holds ∙ sym (append_assoc (take at old) text (drop (at + length text) old)) in
    let len : length front ≡ next = (let a = length-append (take at old) text in let b = length-take at old in let c = p.ends in omega arith) in
    ap (drop next) cells ∙ drop_at front (drop (at + length text) old) next len ∙ ap (λ (k : ℕ). drop k old) (sym p.ends)

front_is : (text : List ℕ) (at : ℕ) (old new : List ℕ) (next : ℕ) → IsPut text at old new next → at + length text ≤ length old → take next new ≡ take at old ++ text
front_is text at old new next p le =
    let front : List ℕ = take at old ++ text in
    let cells : new ≡ front ++ drop (at + length text) old = p.holds ∙ sym (append_assoc (take at old) text (drop (at + length text) old)) in
    let len : length front ≡ next = (let a = length-append (take at old) text in let b = length-take at old in let c = p.ends in omega arith) in
    ap (take next) cells ∙ take_at front (drop (at + length text) old) next len

-- one text behind the other
pub both : (a b : List ℕ) (at mid end : ℕ) (old half new : List ℕ) → at + length (a ++ b) ≤ length old → IsPut a at old half mid → IsPut b mid half new end → IsPut (a ++ b) at old new end
both a b at mid end old half new le p q =
    let len = length-append a b in
    let pn = p.ends in
    let qn = q.ends in
    let la : at + length a ≤ length old = omega arith in
    let back : drop (mid + length b) half ≡ drop (at + length (a ++ b)) old =
    sym (drop_drop mid (length b) half) ∙ ap (drop (length b)) (behind_is a at old half mid p la) ∙ drop_drop mid (length b) old ∙ ap (λ (k : ℕ). drop k old) (omega arith) in
    record {
      ends = omega arith;
      holds = q.holds ∙ (λ i. front_is a at old half mid p la i ++ (b ++ back i)) ∙ append_assoc (take at old) a (b ++ drop (at + length (a ++ b)) old) ∙ ap (λ (x : List ℕ). take at old ++ x) (sym (append_assoc a b (drop (at + length (a ++ b)) old)));
    }

pub as_text : (a b : List ℕ) (at next : ℕ) (old new : List ℕ) → a ≡ b → IsPut a at old new next → IsPut b at old new next
as_text a b at next old new e p = subst (λ (x : List ℕ). IsPut x at old new next) e p

pub both_as : (text a b : List ℕ) (at mid end : ℕ) (old half new : List ℕ) → text ≡ a ++ b → at + length text ≤ length old → IsPut a at old half mid → IsPut b mid half new end → IsPut text at old new end
both_as text a b at mid end old half new e le p q =
    let len = ap length e in
    as_text (a ++ b) text at end old new (sym e) (both a b at mid end old half new (omega arith) p q)

-- room for what comes behind
pub room_behind : (text a b : List ℕ) (at mid : ℕ) (old half : List ℕ) → text ≡ a ++ b → at + length text ≤ length old → IsPut a at old half mid → mid + length b ≤ length half
room_behind text a b at mid old half e le p =
    let d = ap length e in
    let len = length-append a b in
    let n = p.ends in
    let k = kept a at old half mid p (omega arith) in
    omega arith

-- ---- loops

-- so much of a whole text was put, and this is still to come
pub record Filled (whole rest : List ℕ) (at : ℕ) (old new : List ℕ) (next : ℕ) : Type 0 where
  pub front : List ℕ
  pub parts : front ++ rest ≡ whole
  pub put : IsPut front at old new next

pub unfilled : (whole : List ℕ) (at : ℕ) (old : List ℕ) → Filled whole whole at old old at
unfilled whole at old = record { front = []; parts = refl; put = nothing at old }

-- room for what is still to come
pub room_left : (whole rest : List ℕ) (at next : ℕ) (old new : List ℕ) → Filled whole rest at old new next → at + length whole ≤ length old → next + length rest ≤ length new
room_left whole rest at next old new f le =
    let e = ap length f.parts in
    let a = length-append f.front rest in
    let n = f.put.ends in
    let k = kept f.front at old new next f.put (omega arith) in
    omega arith

pub room_next : (whole text x rest : List ℕ) (at next : ℕ) (old new : List ℕ) → text ≡ x ++ rest → Filled whole text at old new next → at + length whole ≤ length old → next + length x ≤ length new
room_next whole text x rest at next old new e f le =
    let r = room_left whole text at next old new f le in
    let a = ap length e in
    let b = length-append x rest in
    omega arith

pub fill : (whole text x rest : List ℕ) (at mid end : ℕ) (old half new : List ℕ) → text ≡ x ++ rest → at + length whole ≤ length old → Filled whole text at old half mid → IsPut x mid half new end → Filled whole rest at old new end
fill whole text x rest at mid end old half new e le f p =
    let cells : (f.front ++ x) ++ rest ≡ whole = append_assoc f.front x rest ∙ ap (λ (y : List ℕ). f.front ++ y) (sym e) ∙ f.parts in
    let len : length whole ≡ length (f.front ++ x) + length rest = sym (ap length cells) ∙ length-append (f.front ++ x) rest in
    record { front = f.front ++ x; parts = cells; put = both f.front x at mid end old half new (omega arith) f.put p }

pub filled : (whole rest : List ℕ) (at next : ℕ) (old new : List ℕ) → rest ≡ [] → Filled whole rest at old new next → IsPut whole at old new next
filled whole rest at next old new e f =
    as_text f.front whole at next old new (sym (append-nil f.front) ∙ ap (λ (x : List ℕ). f.front ++ x) (sym e) ∙ f.parts) f.put

-- a count that is put before what stands there
pub before : (c text : List ℕ) (at mid end next : ℕ) (old half new : List ℕ) → at + length (c ++ text) ≤ length old → mid ≡ at + length c → IsPut text mid old half end → IsPut c at half new next → IsPut (c ++ text) at old new end
before c text at mid end next old half new le m p q =
    let len = length-append c text in
    let lt : mid + length text ≤ length old = omega arith in
    let pn = p.ends in
    let back : drop (at + length c) half ≡ text ++ drop (at + length (c ++ text)) old =
    ap (λ (k : ℕ). drop k half) (sym m) ∙ ap (drop mid) p.holds ∙ drop_at (take mid old) (text ++ drop (mid + length text) old) mid (let d = length-take mid old in omega arith) ∙ ap (λ (k : ℕ). text ++ drop k old) (omega arith) in
    let front : take at half ≡ take at old = ap (take at) p.holds ∙ take_front at mid old (text ++ drop (mid + length text) old) (omega arith) (omega arith) in
    record {
      ends = omega arith;
      holds = q.holds ∙ (λ i. front i ++ (c ++ back i)) ∙ ap (λ (x : List ℕ). take at old ++ x) (sym (append_assoc c text (drop (at + length (c ++ text)) old)));
    }
  where
    take_front : (at mid : ℕ) (xs ys : List ℕ) → at ≤ mid → mid ≤ length xs → take at (take mid xs ++ ys) ≡ take at xs
    take_front zero mid xs ys le lx = refl
    take_front (suc at) zero xs ys le lx = absurd (omega arith)
    take_front (suc at) (suc mid) [] ys le lx = absurd (omega arith)
    take_front (suc at) (suc mid) (x ∷ xs) ys le lx = ap (λ (l : List ℕ). x ∷ l) (take_front at mid xs ys (omega arith) (omega arith))
