-- Octets between two ends: what the taker has and what the sender still has are the octets of the messages on their way.
use Rattle.std.proofs.Common.{◌≡◌, ℕ, ◌+◌, ◌≤◌, List, [], ◌∷◌, ◌++◌, length, take, drop, refl, sym, ap, subst, ◌∙◌, arith, append_assoc, length-append}
use Rattle.stub_tables.specs.declared.tables.Tables.{Tables}
use Rattle.std.specs.Prelude.{ℤ, Option}
use Rattle.osi_base.specs.declared.layer_words.Problem.{Problem}
use Rattle.stub_tables.specs.declared.apdu.Apdu.{Apdu}
use Rattle.stub_tables.specs.declared.apdu.Apdu.TheVariants as apdus
use Rattle.stub_tables.specs.Apdus.{IsWhole}
use Rattle.osi_base.specs.declared.syntax.Syntax.TheVariants.{Ber}
use Rattle.apdu_spelling.specs.Writing.{IsWritable}
use Rattle.end_rules.specs.Messages.{Message, Remote}
use Rattle.end_rules.specs.State.{bare_set}
use Rattle.bare_end.specs.end_wire.Bare.{Short, Whole, Faulty, first_at, bare_message, written}
use Rattle.bare_end.specs.end_wire.Laws.{WrittenIsFirst}
use Rattle.stub_tables.specs.Readable.{IsReadable}
use Rattle.bare_duo.proofs.Fronts.{nothing_first, whole_came, whole_faultless}

-- an APDU of the module on the one context, as it is sent
pub record IsSent (t : Tables) (m : Message) : Type 0 where
  pub apdu : Apdu
  pub is_its : m ≡ bare_message (bare_set t) (Remote apdu)
  pub writable : IsWritable t Ber apdu
  pub no_reject : (id : Option ℤ) (problem : Problem) → apdu ≡ apdus.Reject id problem → ⊥

abbrev pub AllSent : Tables → List Message → Type 0
AllSent t [] = Unit {0}
AllSent t (m ∷ ms) = IsSent t m × AllSent t ms

pub sent-append : (t : Tables) (ms ns : List Message) → AllSent t ms → AllSent t ns → AllSent t (ms ++ ns)
sent-append t [] ns h k = k
sent-append t (m ∷ ms) ns h k = (h.0, sent-append t ms ns h.1 k)

pub record Parts (t : Tables) (ms ns : List Message) : Type 0 where
  pub front : AllSent t ms
  pub back : AllSent t ns

pub parts : (t : Tables) (ms ns : List Message) → AllSent t (ms ++ ns) → Parts t ms ns
parts t [] ns h = record { front = tt; back = h }
parts t (m ∷ ms) ns h = let k = parts t ms ns h.1 in record { front = (h.0, k.front); back = k.back }

-- what is written of messages, one behind the other
abbrev pub written_all : Tables → List Message → List ℕ
written_all t [] = []
written_all t (m ∷ ms) = written t m ++ written_all t ms

pub written-append : (t : Tables) (ms ns : List Message) → written_all t (ms ++ ns) ≡ written_all t ms ++ written_all t ns
written-append t [] ns = refl
written-append t (m ∷ ms) ns = ap (λ (os : List ℕ). written t m ++ os) (written-append t ms ns) ∙ sym (append_assoc (written t m) (written_all t ms) (written_all t ns))

-- ---- lists

drop-front : (a b : List ℕ) → drop (length a) (a ++ b) ≡ b
drop-front [] b = refl
drop-front (x ∷ a) b = drop-front a b

take-front : (a b : List ℕ) → take (length a) (a ++ b) ≡ a
take-front [] b = refl
take-front (x ∷ a) b = ap (λ (l : List ℕ). x ∷ l) (take-front a b)

-- one list in two ways: the shorter front begins the longer
pub record Cut (a b c d : List ℕ) : Type 0 where
  pub more : List ℕ
  pub front : a ≡ c ++ more
  pub back : d ≡ more ++ b

pub cut : (a b c d : List ℕ) → a ++ b ≡ c ++ d → length c ≤ length a → Cut a b c d
cut a b [] d e l = record { more = a; front = refl; back = sym e }
cut [] b (y ∷ c) d e l = absurd (omega arith)
cut (x ∷ a) b (y ∷ c) d e l =
    let head : x ≡ y = cc in
    let tail : a ++ b ≡ c ++ d = cc in
    let k = cut a b c d tail (omega arith) in
    record { more = k.more; front = (λ i. head i ∷ k.front i); back = k.back }

-- ---- the taking of what stands first

module _ (t : Tables) (readable : IsReadable t) (law : WrittenIsFirst) where
  whole_of : (m : Message) → IsSent t m → IsWhole (written t m)
  whole_of m s =
      let w = law t s.apdu [] readable s.writable in
      subst (λ (k : Message). IsWhole (written t k)) (sym s.is_its) w.0.whole

  -- the message that stands first in what came
  pub record NextOf (rest waiting : List ℕ) (coming : List Message) (used : ℕ) : Type 0 where
    pub message : Message
    pub left : List Message
    pub is_first : coming ≡ message ∷ left
    pub sent : IsSent t message
    pub others : AllSent t left
    pub front : take used rest ≡ written t message
    pub behind : drop used rest ++ waiting ≡ written_all t left
    pub longer : length rest ≡ length (drop used rest) + length (written t message)

  pub next_of : (rest waiting : List ℕ) (coming : List Message) (used : ℕ) → rest ++ waiting ≡ written_all t coming → AllSent t coming → first_at rest ≡ Whole used → NextOf rest waiting coming used
  next_of rest waiting [] used e h first = absurd (none rest e first)
    where
      none : (rest : List ℕ) → rest ++ waiting ≡ [] → first_at rest ≡ Whole used → ⊥
      none [] e first = let k : Short ≡ Whole used = sym nothing_first ∙ first in cc
      none (x ∷ rest) e first = cc
  next_of rest waiting (m ∷ left) used e h first =
      let a = whole_came rest waiting (written t m) (written_all t left) used e (whole_of m h.0) first in
      let c = cut rest waiting (written t m) (written_all t left) e a.came in
      let behind : drop used rest ≡ c.more = (λ i. drop (a.used_is i) (c.front i)) ∙ drop-front (written t m) c.more in
      let front : take used rest ≡ written t m = (λ i. take (a.used_is i) (c.front i)) ∙ take-front (written t m) c.more in
      record {
        message = m;
        left = left;
        is_first = refl;
        sent = h.0;
        others = h.1;
        front = front;
        behind = ap (λ (l : List ℕ). l ++ waiting) behind ∙ sym c.back;
        longer = ap length c.front ∙ length-append (written t m) c.more ∙ sum (length (written t m)) (length c.more) (length (drop used rest)) (ap length behind);
      }
    where
      sum : (a b c : ℕ) → c ≡ b → a + b ≡ c + a
      sum a b c e = omega arith

  -- nothing faulty stands first
  pub none_faulty : (rest waiting : List ℕ) (coming : List Message) (place : ℕ) → rest ++ waiting ≡ written_all t coming → AllSent t coming → first_at rest ≡ Faulty place → ⊥
  none_faulty rest waiting [] place e h first = none rest e first
    where
      none : (rest : List ℕ) → rest ++ waiting ≡ [] → first_at rest ≡ Faulty place → ⊥
      none [] e first = let k : Short ≡ Faulty place = sym nothing_first ∙ first in cc
      none (x ∷ rest) e first = cc
  none_faulty rest waiting (m ∷ left) place e h first = whole_faultless rest waiting (written t m) (written_all t left) place e (whole_of m h.0) first
