-- Of octets that came of messages, as many fronts are made as messages have their last octet among them.
use Rattle.std.proofs.Common.{◌≡◌, refl, sym, ap, subst, ◌∙◌, ℕ, suc, ◌+◌, ◌-◌, true, false, List, [], ◌∷◌, ◌++◌, map, length, arith, inl, inr, append_assoc, length-append}
use Rattle.std.specs.Prelude.{nat_le}
use Rattle.std.proofs.lemmas.Bool.{cases_lt, lt-leb, le-leb}
use Rattle.std.proofs.lemmas.List.{append-nil}
use Rattle.stub_tables.specs.declared.tables.Tables.{Tables}
use Rattle.tpkt.specs.Reader.{reading, nothing}
use Rattle.association_worlds.specs.association_reading.Front.{Front, all_fronts}
use Rattle.association_worlds.specs.InTransit.{SentMessage, front_of, text_of, texts, AreWritten}
use Rattle.association_worlds.proofs.Streams.{reads-all}
use Rattle.association_worlds.proofs.Kept.{texts-append}
use Rattle.association_runs.specs.Octets.{whole_within}
use Rattle.prefix_laws.specs.Laws.{BeginningsBringNothing}
use Rattle.prefix_laws.proofs.Lists.{cut}

abbrev pub texts_of : Tables → List SentMessage → List (List ℕ)
texts_of tables sents = map (text_of tables) sents

how-many : {X Y : Type 0} (f : X → Y) (xs : List X) → length (map f xs) ≡ length xs
how-many f [] = refl
how-many f (x ∷ xs) = ap suc (how-many f xs)

no-more : (xs ys : List ℕ) → xs ++ ys ≡ [] → xs ≡ []
no-more [] ys e = refl
no-more (x ∷ xs) ys e = absurd cc

module _ (law : BeginningsBringNothing) (tables : Tables) where
  -- how many fronts a reader makes of these octets
  abbrev fronts_in : List ℕ → ℕ
  fronts_in octets = length (all_fronts (reading nothing octets).packets)

  front-written : (xs : List SentMessage) (y : SentMessage) (zs : List SentMessage) → AreWritten tables (xs ++ y ∷ zs) → AreWritten tables (xs ++ y ∷ [])
  front-written [] y zs h = (h.0, h.1, tt)
  front-written (x ∷ xs) y zs h = (h.0, h.1, front-written xs y zs h.2)

  -- behind whole messages
  go : (before sents : List SentMessage) (front waiting : List ℕ) → AreWritten tables (before ++ sents) → front ++ waiting ≡ texts tables sents
      → fronts_in (texts tables before ++ front) ≡ length before + whole_within (length front) (texts_of tables sents)
  go before [] front waiting h e =
      let none : front ≡ [] = no-more front waiting e in
      let written : AreWritten tables before = subst (AreWritten tables) (append-nil before) h in
      let all : fronts_in (texts tables before) ≡ length before = ap (λ (fs : List Front). length fs) (reads-all tables before written).fronts ∙ how-many (λ (s : SentMessage). front_of tables s.message) before in
      let same : texts tables before ++ front ≡ texts tables before = ap (λ (os : List ℕ). texts tables before ++ os) none ∙ append-nil (texts tables before) in
      omega (arith, ap fronts_in same, all)
  go before (s ∷ sents) front waiting h e =
      let upto : AreWritten tables (before ++ s ∷ []) = front-written before s sents h in
      elim (cases_lt (length front) (length (text_of tables s))) [
        | inl less ↦ (
            let c = cut (text_of tables s) (texts tables sents) front waiting (sym e) (omega arith) in
            let lengths : length (text_of tables s) ≡ length front + length c.more = ap length c.front ∙ length-append front c.more in
            let brought = law tables before s front c.more upto c.front (omega (arith, lengths)) in
            let all : fronts_in (texts tables before ++ front) ≡ length before = ap (λ (fs : List Front). length fs) brought.0 ∙ how-many (λ (s : SentMessage). front_of tables s.message) before in
            let none : nat_le (length (text_of tables s)) (length front) ≡ false = lt-leb _ _ less in
            let here : whole_within (length front) (texts_of tables (s ∷ sents)) ≡ 0 = rw none refl in
            omega (arith, all, here))
        | inr longer ↦ (
            let c = cut front waiting (text_of tables s) (texts tables sents) e longer in
            let lengths : length front ≡ length (text_of tables s) + length c.more = ap length c.front ∙ length-append (text_of tables s) c.more in
            let some : nat_le (length (text_of tables s)) (length front) ≡ true = le-leb _ _ longer in
            let left : length front - length (text_of tables s) ≡ length c.more = omega (arith, lengths) in
            let here : whole_within (length front) (texts_of tables (s ∷ sents)) ≡ suc (whole_within (length c.more) (texts_of tables sents)) =
            rw some (ap (λ (n : ℕ). suc (whole_within n (texts_of tables sents))) left) in
            let last : texts tables (before ++ s ∷ []) ≡ texts tables before ++ text_of tables s =
            texts-append tables before (s ∷ []) ∙ ap (λ (os : List ℕ). texts tables before ++ os) (append-nil (text_of tables s)) in
            let joined : texts tables before ++ front ≡ texts tables (before ++ s ∷ []) ++ c.more =
            ap (λ (os : List ℕ). texts tables before ++ os) c.front
            ∙ sym (append_assoc (texts tables before) (text_of tables s) c.more)
            ∙ ap (λ (os : List ℕ). os ++ c.more) (sym last) in
            let rest : fronts_in (texts tables (before ++ s ∷ []) ++ c.more) ≡ length (before ++ s ∷ []) + whole_within (length c.more) (texts_of tables sents) =
            go (before ++ s ∷ []) sents c.more waiting (subst (AreWritten tables) (sym (append_assoc before (s ∷ []) sents)) h) (sym c.back) in
            let one : length (before ++ s ∷ []) ≡ length before + 1 = length-append before (s ∷ []) in
            omega (arith, ap fronts_in joined, rest, one, here))
      ]

  pub counted : (sents : List SentMessage) (got waiting : List ℕ) → AreWritten tables sents → got ++ waiting ≡ texts tables sents → fronts_in got ≡ whole_within (length got) (texts_of tables sents)
  counted sents got waiting h e = let all : fronts_in got ≡ 0 + whole_within (length got) (texts_of tables sents) = go [] sents got waiting h e in omega (arith, all)
