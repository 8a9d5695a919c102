-- What stands first in octets that came: it is the first message that is on its way, and all of it came.
use Rattle.std.proofs.Common.{◌≡◌, ℕ, zero, suc, ◌+◌, ◌-◌, ◌≤◌, ◌%◌, nat_eq, false, List, [], ◌∷◌, ◌++◌, length, take, Result, Ok, Err, refl, sym, ap, subst, ◌∙◌, arith, inl, inr}
use Rattle.osi_base.specs.declared.layer_words.Kind.TheVariants.{Tag}
use Rattle.asn1_types.specs.Value.{Value, any}
use Rattle.ber_spelling.specs.declared.fault.ReadFault.{ReadFault}
use Rattle.ber_spelling.specs.declared.fault.ReadFault.TheVariants as faults
use Rattle.ber_spelling.specs.declared.spot.Scope.{Scope}
use Rattle.ber_spelling.specs.Reading.{Spot, Opened, within}
use Rattle.ber_spelling.specs.Fields.{identifier_at, high_at, digits_at, is_lax, opened_at}
use Rattle.ber_spelling.specs.Rules.{read_at, value_at, reads, any_at, whole_at, outermost}
use Rattle.ber_spelling.proofs.Identifiers.{bind_ok, chosen_ok, unless_ok, ok_is}
use Rattle.ber_spelling.proofs.WholeValues.{read_stays, fault_stays}
use Rattle.stub_tables.specs.AnyValue.{any_value_rows, any_value_row}
use Rattle.stub_tables.specs.Apdus.{IsWhole, IsShort}
use Rattle.stub_tables.proofs.Readings.{whole_read, nothing_short}
use Rattle.bare_end.specs.end_wire.Bare.{Short, Whole, Faulty, beginning_of, first_at}

abbrev read_any : List ℕ → Result (Value × ℕ) ReadFault
read_any text = read_at any_value_rows any_value_row false 262144 text

abbrev done : Value × ℕ → Result (Value × ℕ) ReadFault
done x = Ok x

-- ---- what stays, whatever follows

pub record IsRead (text : List ℕ) (used : ℕ) : Type 0 where
  pub value : Value
  pub read : read_any text ≡ done (value, used)

pub read_of : (text : List ℕ) (used : ℕ) → first_at text ≡ Whole used → IsRead text used
unfolding first_at
read_of text used e = go (read_any text) refl e
  where
    go : (r : Result (Value × ℕ) ReadFault) → read_any text ≡ r → beginning_of r ≡ Whole used → IsRead text used
    go (Ok x) is e =
        let n : x.1 ≡ used = cc in
        record { value = x.0; read = is ∙ ap (λ (k : ℕ). done (x.0, k)) n }
    go (Err faults.Short) is e = absurd cc
    go (Err (faults.NotSpelled place kind)) is e = absurd cc
    go (Err (faults.TooDeep place)) is e = absurd cc
    go (Err (faults.TooLong place)) is e = absurd cc
    go (Err faults.NoMemory) is e = absurd cc

pub faulty_stays : (text more : List ℕ) (place : ℕ) → first_at text ≡ Faulty place → first_at (text ++ more) ≡ Faulty place
unfolding first_at
faulty_stays text more place e = go (read_any text) refl e
  where
    go : (r : Result (Value × ℕ) ReadFault) → read_any text ≡ r → beginning_of r ≡ Faulty place → beginning_of (read_any (text ++ more)) ≡ Faulty place
    go (Ok x) is e = absurd cc
    go (Err faults.Short) is e = absurd cc
    go (Err (faults.NotSpelled at kind)) is e = ap beginning_of (fault_stays any_value_rows any_value_row false 262144 text more (faults.NotSpelled at kind) (λ s. cc) is) ∙ e
    go (Err (faults.TooDeep at)) is e = ap beginning_of (fault_stays any_value_rows any_value_row false 262144 text more (faults.TooDeep at) (λ s. cc) is) ∙ e
    go (Err (faults.TooLong at)) is e = ap beginning_of (fault_stays any_value_rows any_value_row false 262144 text more (faults.TooLong at) (λ s. cc) is) ∙ e
    go (Err faults.NoMemory) is e = absurd cc

pub nothing_first : first_at [] ≡ Short
unfolding first_at IsShort
nothing_first = ap beginning_of nothing_short

-- ---- what is read is part of what came

opened_start : (scope : Scope) (place : ℕ) (rest : List ℕ) (o : Opened) (s : Spot) → identifier_at scope place rest ≡ Ok (o, s) → o.start.rest ≡ rest
unfolding identifier_at high_at
opened_start scope place [] o s e = absurd cc
opened_start scope place (first ∷ rest) o s e =
    let u = unless_ok (nat_eq scope.levels 0) (faults.TooDeep place) _ (o, s) e in
    let b = bind_ok (within scope place (place + 1)) _ (o, s) u.1 in
    elim (chosen_ok (nat_eq (first % 32) 31) _ _ (o, s) b.2) [
      | inl t ↦
          let d = bind_ok (digits_at scope place 0 (place + 1) rest) _ (o, s) t.1 in
          let l = unless_ok (is_lax rest d.0.0) (faults.NotSpelled place Tag) _ (o, s) d.2 in
          ap (λ (x : Opened × Spot). x.0.start.rest) (sym (ok_is {A = Opened × Spot} (opened_at place (first ∷ rest) first d.0.0, d.0.1) (o, s) l.1))
      | inr t ↦ ap (λ (x : Opened × Spot). x.0.start.rest) (sym (ok_is {A = Opened × Spot} (opened_at place (first ∷ rest) first (first % 32), record { place = place + 1; rest = rest }) (o, s) t.1))
    ]

record IsTaken (text : List ℕ) (v : Value) : Type 0 where
  count : ℕ
  is_its : v ≡ any (take count text)

taken_of : (text : List ℕ) (v : Value) (used : ℕ) → read_any text ≡ done (v, used) → IsTaken text v
unfolding read_at value_at reads any_at
taken_of text v used e =
    let scope : Scope = outermost 262144 false in
    let a = bind_ok (value_at any_value_rows any_value_row scope 0 text) (λ x. Ok (x.0, x.1.place)) (v, used) e in
    let b = bind_ok (identifier_at scope 0 text) (λ x. any_at scope x.0 x.1) a.0 a.1 in
    let o : Opened = b.0.0 in
    let c = bind_ok (whole_at 32 tt scope o b.0.1) (λ w. Ok (any (take (length o.start.rest - length w.1.rest) o.start.rest), w.1)) a.0 b.2 in
    let count : ℕ = length o.start.rest - length c.0.1.rest in
    let same = ok_is {A = Value × Spot} (any (take count o.start.rest), c.0.1) a.0 c.2 in
    let value = ok_is {A = Value × ℕ} (a.0.0, a.0.1.place) (v, used) a.2 in
    record {
      count = count;
      is_its = sym (ap (λ (x : Value × ℕ). x.0) value) ∙ sym (ap (λ (x : Value × Spot). x.0) same)
          ∙ ap (λ (l : List ℕ). any (take count l)) (opened_start scope 0 text o b.0.1 b.1);
    }

same_any : (a b : List ℕ) → any a ≡ any b → a ≡ b
same_any a b e = cc

same_done : (v w : Value) (m n : ℕ) → done (v, m) ≡ done (w, n) → (v ≡ w) × (m ≡ n)
same_done v w m n e =
    let k = ok_is {A = Value × ℕ} (v, m) (w, n) e in (ap (λ (x : Value × ℕ). x.0) k, ap (λ (x : Value × ℕ). x.1) k)

take-few : (n : ℕ) (l : List ℕ) → length (take n l) ≤ length l
take-few zero l = omega arith
take-few (suc n) [] = omega arith
take-few (suc n) (x ∷ l) = let ih = take-few n l in omega arith

-- Where a whole message stands first in what came and is to come, and a whole value in what came: that is the message.
pub record IsAll (text whole : List ℕ) (used : ℕ) : Type 0 where
  pub used_is : used ≡ length whole
  pub came : length whole ≤ length text

pub whole_came : (text more whole rest : List ℕ) (used : ℕ) → text ++ more ≡ whole ++ rest → IsWhole whole → first_at text ≡ Whole used → IsAll text whole used
whole_came text more whole rest used e w first =
    let r = read_of text used first in
    let stays : read_any (text ++ more) ≡ done (r.value, used) = read_stays any_value_rows any_value_row false 262144 text more r.value used r.read in
    let both = same_done r.value (any whole) used (length whole) (sym stays ∙ ap read_any e ∙ whole_read whole rest w) in
    let t = taken_of text r.value used r.read in
    let same : take t.count text ≡ whole = same_any (take t.count text) whole (sym t.is_its ∙ both.0) in
    record { used_is = both.1; came = subst (λ (l : List ℕ). length l ≤ length text) same (take-few t.count text) }

-- and nothing in it is faulty
pub whole_faultless : (text more whole rest : List ℕ) (place : ℕ) → text ++ more ≡ whole ++ rest → IsWhole whole → first_at text ≡ Faulty place → ⊥
unfolding first_at
whole_faultless text more whole rest place e w f =
    no (ap beginning_of (sym (whole_read whole rest w)) ∙ ap first_at (sym e) ∙ faulty_stays text more place f)
  where
    no : Whole (length whole) ≡ Faulty place → ⊥
    no k = cc
