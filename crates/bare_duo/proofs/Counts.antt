-- Octets that were given out, counted: the messages that an end took are those whose last octet came.
use Rattle.std.proofs.Common.{◌≡◌, ℕ, ◌+◌, ◌-◌, ◌≤◌, ◌<◌, Bool, true, false, List, [], ◌∷◌, ◌++◌, length, refl, sym, ap, subst, ◌∙◌, arith, append_assoc, length-append}
use Rattle.std.specs.Prelude.{nat_lt}
use Rattle.std.proofs.lemmas.Bool.{ltb-true, ltb-false, lt-leb, le-leb}
use Rattle.stub_tables.specs.declared.tables.Tables.{Tables}
use Rattle.stub_tables.specs.Readable.{IsReadable}
use Rattle.end_rules.specs.Messages.{Message}
use Rattle.bare_end.specs.end_wire.Bare.{Short, Whole, first_at, written}
use Rattle.bare_end.specs.end_wire.Laws.{WrittenIsFirst}
use Rattle.bare_duo.specs.Carrying.{whole_within}
use Rattle.bare_duo.proofs.Fronts.{nothing_first}
use Rattle.bare_duo.proofs.Flights.{IsSent, AllSent, written_all, written-append, cut}

module _ (t : Tables) where
  pub length-written : (ms ns : List Message) → length (written_all t (ms ++ ns)) ≡ length (written_all t ms) + length (written_all t ns)
  length-written ms ns = ap length (written-append t ms ns) ∙ length-append (written_all t ms) (written_all t ns)

  -- the next message has more octets than these
  abbrev pub NextIsLonger : List Message → ℕ → Type 0
  NextIsLonger [] n = Unit {0}
  NextIsLonger (m ∷ ms) n = n < length (written t m)

  pub whole_ones : (ms more : List Message) (all left : ℕ) → all ≡ length (written_all t ms) + left → NextIsLonger more left → whole_within t all (ms ++ more) ≡ ms
  whole_ones [] [] all left e h = refl
  whole_ones [] (m ∷ more) all left e h = let less : all < length (written t m) = omega arith in rw (lt-leb (length (written t m)) all less) refl
  whole_ones (m ∷ ms) more all left e h =
      let parts = length-append (written t m) (written_all t ms) in
      let within : length (written t m) ≤ all = omega arith in
      rw (le-leb (length (written t m)) all within) (ap (λ (l : List Message). m ∷ l) (whole_ones ms more (all - length (written t m)) left (omega arith) h))

  module _ (readable : IsReadable t) (law : WrittenIsFirst) where
    stands_first : (m : Message) (more : List ℕ) → IsSent t m → first_at (written t m ++ more) ≡ Whole (length (written t m))
    stands_first m more s =
        subst (λ (k : Message). first_at (written t k ++ more) ≡ Whole (length (written t k))) (sym s.is_its) (law t s.apdu more readable s.writable).1

    not_short : (n : ℕ) → Whole n ≡ Short → ⊥
    not_short n e = cc

    pub next_longer : (rest waiting : List ℕ) (coming : List Message) → first_at rest ≡ Short → AllSent t coming → rest ++ waiting ≡ written_all t coming → NextIsLonger coming (length rest)
    next_longer rest waiting [] short s e = tt
    next_longer rest waiting (m ∷ ms) short s e = by_test (nat_lt (length rest) (length (written t m))) refl
      where
        by_test : (b : Bool) → nat_lt (length rest) (length (written t m)) ≡ b → length rest < length (written t m)
        by_test true q = ltb-true (length rest) (length (written t m)) q
        by_test false q =
            let c = cut rest waiting (written t m) (written_all t ms) e (ltb-false (length rest) (length (written t m)) q) in
            absurd (not_short (length (written t m)) (sym (stands_first m c.more s.0) ∙ ap first_at (sym c.front) ∙ short))

    -- no message has no octets
    pub next_some : (coming : List Message) → AllSent t coming → NextIsLonger coming 0
    next_some [] s = tt
    next_some (m ∷ ms) s = next_longer [] (written_all t (m ∷ ms)) (m ∷ ms) nothing_first s refl

    longer_on : (coming later : List Message) (n : ℕ) → AllSent t later → NextIsLonger coming n → n ≤ length (written_all t coming) → NextIsLonger (coming ++ later) n
    longer_on [] later n s h few = subst (NextIsLonger later) (let zero : 0 ≡ n = omega arith in zero) (next_some later s)
    longer_on (m ∷ coming) later n s h few = h

    -- Of what one end sent its peer took what came whole, whatever is sent later.
    pub taken_among : (rest waiting : List ℕ) (given : ℕ) (took coming later : List Message) → first_at rest ≡ Short → AllSent t coming → AllSent t later → rest ++ waiting ≡ written_all t coming
        → given + length waiting ≡ length (written_all t (took ++ coming)) → whole_within t given ((took ++ coming) ++ later) ≡ took
    taken_among rest waiting given took coming later short s more e counted =
        let both = length-written took coming in
        let parts : length rest + length waiting ≡ length (written_all t coming) = sym (length-append rest waiting) ∙ ap length e in
        ap (whole_within t given) (append_assoc took coming later)
        ∙ whole_ones took (coming ++ later) given (length rest) (omega arith) (longer_on coming later (length rest) more (next_longer rest waiting coming short s e) (omega arith))
