-- The last octet that BIT STRING segments hold: where it stands, and that another may stand there.
use Rattle.std.proofs.Common.{◌≡◌, ℕ, zero, suc, Bool, true, not, ◌||◌, List, [], ◌∷◌, ◌++◌, length, Some, refl, sym, ap, ◌∙◌, subst, append_assoc, ◌⊎◌, inl, inr}
use Rattle.std.specs.Prelude.{nat_eq, nat_lt}
use Rattle.std.proofs.lemmas.Bool.{eqb-true}
use Rattle.std.proofs.lemmas.Option.{cond_some}
use Rattle.asn1_types.specs.declared.row.Tag as tags
use Rattle.ber_spelling.specs.declared.spot.StringKind.TheVariants.{OfBits}
use Rattle.ber_spelling.specs.declared.spot.Gathered.{Gathered}
use Rattle.ber_spelling.specs.Rules.{segment_tag, gathered, segment_rule}
use Rattle.ber_spelling.specs.Spelling.{IsPrimitive, IsConstructed, Steps, ItemsAre, SegmentIs}
use Rattle.ber_spelling.proofs.Around.{Before, Around, before_of, around, around_one, around_are, one_other}
use Rattle.ber_spelling.proofs.Segments.{some_gathered}

-- what octets gather behind what was gathered
abbrev pub Gathers : Type 1
Gathers = Gathered → Gathered → List ℕ → Type 0

abbrev pub with_last : List ℕ → ℕ → Gathered → Gathered
with_last kept y g = record { octets = kept ++ (y ∷ []); unused = g.unused; spoiled = g.spoiled }

-- The last octet that is gathered stands here, and whatever it is the others stay.
pub record Last (R : Gathers) (before after : Gathered) (spelled : List ℕ) : Type 0 where
  pub kept : List ℕ
  pub octet : ℕ
  pub last : after.octets ≡ kept ++ (octet ∷ [])
  pub front : List ℕ
  pub back : List ℕ
  pub are : spelled ≡ front ++ (octet ∷ back)
  pub any : (y : ℕ) → R before (with_last kept y after) (front ++ (y ∷ back))

-- Nothing is added, or no bit is unused, or the last octet stands here.
abbrev pub Outcome : Gathers → Gathers
Outcome R before after spelled = ((before ≡ after) × ((g : Gathered) → R g g spelled)) ⊎ ((after.unused ≡ 0) ⊎ Last R before after spelled)

last_as : (R S : Gathers) (before after : Gathered) (s : List ℕ) → ((b c : Gathered) (x : List ℕ) → R b c x → S b c x) → Last R before after s → Last S before after s
last_as R S before after s f l = record {
  kept = l.kept;
  octet = l.octet;
  last = l.last;
  front = l.front;
  back = l.back;
  are = l.are;
  any = λ y. f before (with_last l.kept y after) (l.front ++ (y ∷ l.back)) (l.any y);
}

outcome_as : (R S : Gathers) (before after : Gathered) (s : List ℕ) → ((b c : Gathered) (x : List ℕ) → R b c x → S b c x) → Outcome R before after s → Outcome S before after s
outcome_as R S before after s f (inl same) = inl (same.0, λ g. f g g s (same.1 g))
outcome_as R S before after s f (inr (inl z)) = inr (inl z)
outcome_as R S before after s f (inr (inr l)) = inr (inr (last_as R S before after s f l))

-- ---- one after the other

abbrev Many : Gathers → Gathers
Many R before after contents = (steps : List (List ℕ × Gathered)) × Steps R steps before after contents

many_outcome : (R : Gathers) → ((b c : Gathered) (x : List ℕ) → R b c x → Outcome R b c x) → (steps : List (List ℕ × Gathered)) (a b : Gathered) (c : List ℕ) → Steps R steps a b c → Outcome (Many R) a b c
many_outcome R each [] a b c p = inl (p.0, λ g. ([], (refl, p.1)))
many_outcome R each (s ∷ more) a b c p = by (each a s.1 s.0 p.2) (many_outcome R each more s.1 b p.0 p.3)
  where
    by : Outcome R a s.1 s.0 → Outcome (Many R) s.1 b p.0 → Outcome (Many R) a b c
    by first (inr (inl z)) = inr (inl z)
    by first (inr (inr l)) = inr (inr (record {
      kept = l.kept;
      octet = l.octet;
      last = l.last;
      front = s.0 ++ l.front;
      back = l.back;
      are = p.1 ∙ ap (λ (x : List ℕ). s.0 ++ x) l.are ∙ sym (append_assoc s.0 l.front (l.octet ∷ l.back));
      any = λ y. let m = l.any y in (s ∷ m.0, (l.front ++ (y ∷ l.back), append_assoc s.0 l.front (y ∷ l.back), p.2, m.1));
    }))
    by (inl same) (inl rest) = inl (same.0 ∙ rest.0, λ g. let m = rest.1 g in ((s.0, g) ∷ m.0, (p.0, p.1, same.1 g, m.1)))
    by (inr (inl z)) (inl rest) = inr (inl (subst (λ (x : Gathered). x.unused ≡ 0) rest.0 z))
    by (inr (inr l)) (inl rest) =
        let q : Last R a b s.0 = subst (λ (x : Gathered). Last R a x s.0) rest.0 l in
        inr (inr (record {
          kept = q.kept;
          octet = q.octet;
          last = q.last;
          front = q.front;
          back = q.back ++ p.0;
          are = p.1 ∙ ap (λ (x : List ℕ). x ++ p.0) q.are ∙ append_assoc q.front (q.octet ∷ q.back) p.0;
          any = λ y.
              let g : Gathered = with_last q.kept y b in
              let m = rest.1 g in
              ((q.front ++ (y ∷ q.back), g) ∷ m.0, (p.0, sym (append_assoc q.front (y ∷ q.back) p.0), q.any y, m.1));
        }))

-- ---- one segment

pub snoc : (o : ℕ) (os : List ℕ) → (init : List ℕ) × (last : ℕ) × ((o ∷ os) ≡ init ++ (last ∷ []))
snoc o [] = ([], o, refl)
snoc o (p ∷ ps) = let r = snoc p ps in (o ∷ r.0, r.1, ap (λ (x : List ℕ). o ∷ x) r.2)

abbrev more_of : Gathered → List ℕ → ℕ → Gathered
more_of before os unused = record { octets = before.octets ++ os; unused = unused; spoiled = before.spoiled || not (nat_eq before.unused 0) }

segment_more : (before : Gathered) (unused : ℕ) (init : List ℕ) (y : ℕ) → nat_lt unused 8 ≡ true → segment_rule OfBits before (unused ∷ (init ++ (y ∷ []))) ≡ Some (more_of before (init ++ (y ∷ [])) unused)
segment_more before unused [] y lt = rw lt refl
segment_more before unused (i ∷ is) y lt = rw lt refl

module _ (tag : tags.Tag) (strict : Bool) (levels : ℕ) where
  abbrev pub InOne : Gathers
  InOne a b s = IsPrimitive tag strict levels (λ c. segment_rule OfBits a c ≡ Some b) s

  pub one_outcome : (before after : Gathered) (s : List ℕ) → InOne before after s → Outcome InOne before after s
  one_outcome before after s p = by_contents b.contents refl b.holds
    where
      b : Before tag strict levels (λ c. segment_rule OfBits before c ≡ Some after) s
      b = before_of tag strict levels (λ c. segment_rule OfBits before c ≡ Some after) s p

      by_octets : (unused o : ℕ) (os : List ℕ) → b.contents ≡ unused ∷ o ∷ os → nat_lt unused 8 ≡ true → more_of before (o ∷ os) unused ≡ after → Outcome InOne before after s
      by_octets unused o os is lt same =
          let n = snoc o os in
          let full : b.contents ≡ (unused ∷ n.0) ++ (n.1 ∷ []) = is ∙ ap (λ (x : List ℕ). unused ∷ x) n.2 in
          let l : Last InOne before (more_of before (o ∷ os) unused) s = record {
            kept = before.octets ++ n.0;
            octet = n.1;
            last = ap (λ (x : List ℕ). before.octets ++ x) n.2 ∙ sym (append_assoc before.octets n.0 (n.1 ∷ []));
            front = b.before ++ (unused ∷ n.0);
            back = [];
            are = b.are ∙ ap (λ (x : List ℕ). b.before ++ x) full ∙ sym (append_assoc b.before (unused ∷ n.0) (n.1 ∷ []));
            any = λ y.
                let c : List ℕ = unused ∷ (n.0 ++ (y ∷ [])) in
                let g : Gathered = with_last (before.octets ++ n.0) y (more_of before (o ∷ os) unused) in
                let is_more : more_of before (n.0 ++ (y ∷ [])) unused ≡ g = ap (λ (x : List ℕ). record { octets = x; unused = unused; spoiled = before.spoiled || not (nat_eq before.unused 0) }) (sym (append_assoc before.octets n.0 (y ∷ []))) in
                subst (InOne before g) (sym (append_assoc b.before (unused ∷ n.0) (y ∷ [])))
                (b.again (λ x. segment_rule OfBits before x ≡ Some g) c (one_other (unused ∷ n.0) [] n.1 y ∙ sym (ap length full)) (segment_more before unused n.0 y lt ∙ ap (λ (x : Gathered). Some x) is_more));
          } in
          inr (inr (subst (λ (x : Gathered). Last InOne before x s) same l))

      by_contents : (c : List ℕ) → b.contents ≡ c → segment_rule OfBits before c ≡ Some after → Outcome InOne before after s
      by_contents [] is e = absurd cc
      by_contents (unused ∷ []) is e =
          let t = cond_some (nat_eq unused 0) (gathered OfBits before (unused ∷ [])) after e in
          inr (inl (ap (λ (g : Gathered). g.unused) (sym t.1) ∙ eqb-true unused 0 t.0))
      by_contents (unused ∷ o ∷ os) is e =
          let t = cond_some (nat_lt unused 8) (gathered OfBits before (unused ∷ o ∷ os)) after e in
          by_octets unused o os is t.0 t.1

-- ---- segments inside

-- one segment under a tag, or segments inside
abbrev pub Holds : tags.Tag → ℕ → Bool → ℕ → Gathers
Holds tag depth strict levels before after s =
    IsPrimitive tag strict levels (λ c. segment_rule OfBits before c ≡ Some after) s
    ⊎ IsConstructed tag strict levels (λ inner c. ItemsAre some_gathered (SegmentIs OfBits depth) before strict inner after c) s

abbrev Segment : ℕ → Bool → ℕ → Gathers
Segment depth strict levels before after s = SegmentIs OfBits depth before strict levels after s

module _ (tag : tags.Tag) (depth : ℕ) (strict : Bool) (levels : ℕ) (each : (l : ℕ) (a b : Gathered) (s : List ℕ) → Segment depth strict l a b s → Outcome (Segment depth strict l) a b s) where
  abbrev Inside : Gathered → Gathered → ℕ → List ℕ → Type 0
  Inside before after l c = ItemsAre some_gathered (SegmentIs OfBits depth) before strict l after c

  items_outcome : (l : ℕ) (before after : Gathered) (c : List ℕ) → Inside before after l c → Outcome (Many (Segment depth strict l)) before after c
  items_outcome l before after c p =
      let same : p.0 ≡ after = let x = p.1 in cc in
      subst (λ (g : Gathered). Outcome (Many (Segment depth strict l)) before g c) same (many_outcome (Segment depth strict l) (each l) p.2 before p.0 c p.3)

  inside : (l : ℕ) (before after : Gathered) (c : List ℕ) → Many (Segment depth strict l) before after c → Inside before after l c
  inside l before after c m = (after, refl, m.0, m.1)

  many_inside : (before after : Gathered) (s : List ℕ) → IsConstructed tag strict levels (Inside before after) s → Outcome (Holds tag depth strict levels) before after s
  many_inside before after s p = by (items_outcome a.inner before after a.contents a.holds)
    where
      a : Around tag strict levels (Inside before after) s
      a = around tag strict levels (Inside before after) s p

      by : Outcome (Many (Segment depth strict a.inner)) before after a.contents → Outcome (Holds tag depth strict levels) before after s
      by (inl same) =
          inl (same.0, λ g. inr (subst (IsConstructed tag strict levels (Inside g g)) (sym a.are) (a.again (Inside g g) a.contents refl (inside a.inner g g a.contents (same.1 g)))))
      by (inr (inl z)) = inr (inl z)
      by (inr (inr l)) = inr (inr (record {
        kept = l.kept;
        octet = l.octet;
        last = l.last;
        front = a.before ++ l.front;
        back = l.back ++ a.behind;
        are = around_are tag strict levels (Inside before after) s a l.front l.back l.octet l.are;
        any = λ y.
            let g : Gathered = with_last l.kept y after in
            inr (around_one tag strict levels (Inside before after) s a l.front l.back l.octet y (Inside before g) l.are (inside a.inner before g (l.front ++ (y ∷ l.back)) (l.any y)));
      }))

  pub holds_outcome : (before after : Gathered) (s : List ℕ) → Holds tag depth strict levels before after s → Outcome (Holds tag depth strict levels) before after s
  holds_outcome before after s (inl p) = outcome_as (InOne tag strict levels) (Holds tag depth strict levels) before after s (λ b c x q. inl q) (one_outcome tag strict levels before after s p)
  holds_outcome before after s (inr p) = many_inside before after s p

pub segment_outcome : (depth : ℕ) (strict : Bool) (levels : ℕ) (before after : Gathered) (s : List ℕ) → Segment depth strict levels before after s → Outcome (Segment depth strict levels) before after s
segment_outcome zero strict levels before after s p = absurd p
segment_outcome (suc depth) strict levels before after s p =
    outcome_as (Holds (segment_tag OfBits) depth strict levels) (Segment (suc depth) strict levels) before after s (λ b c x q. q)
    (holds_outcome (segment_tag OfBits) depth strict levels (λ l b c x q. segment_outcome depth strict l b c x q) before after s p)
