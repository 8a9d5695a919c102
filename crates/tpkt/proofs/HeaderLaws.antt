-- A header that is read begins a packet of its unit, and the header of a packet is read.
use Rattle.std.proofs.Common.{◌≡◌, ℕ, suc, ◌+◌, ◌-◌, ◌*◌, ◌/◌, ◌%◌, ◌<◌, ◌≤◌, ◌==◌, Bool, true, false, cond, ltb, List, [], ◌∷◌, ◌++◌, length, get_or, take, drop, Option, Some, None, Result, Ok, Err, refl, sym, ap, subst, ◌∙◌, inl, inr, arith}
use Rattle.std.specs.Prelude.{◌&&◌, ◌||◌, nat_le}
use Rattle.std.specs.List.{flat_map}
use Rattle.std.proofs.lemmas.Bool.{lt-leb, ltb-false, le-ltb, leb-true, leb-false, le-leb, and_parts, or_parts}
use Rattle.std.proofs.lemmas.List.{take-append-drop, length-append, length-take}
use Rattle.osi_base.specs.declared.layer_words.Kind.TheVariants as kinds
use Rattle.osi_base.specs.Limits.{tsdu_limit}
use Rattle.osi_base.specs.Octets.{AreOctets}
use Rattle.osi_base.proofs.OctetLaws.{octets_right}
use Rattle.tpkt.specs.declared.packet.ConnectionFields.{ConnectionFields}
use Rattle.tpkt.specs.declared.packet.Packet.{Packet}
use Rattle.tpkt.specs.declared.packet.Packet.TheVariants.{Connect, Confirm, Disconnect, Problem, Tsdu}
use Rattle.tpkt.specs.declared.header.Header.{Header}
use Rattle.tpkt.specs.declared.header.Header.TheVariants.{Control, Data}
use Rattle.tpkt.specs.declared.parameters.Seen.{Seen}
use Rattle.tpkt.specs.declared.header_stops.Stop.{Stop}
use Rattle.tpkt.specs.declared.header_stops.Stop.TheVariants.{Short, At}
use Rattle.tpkt.specs.Wire.{two, packet, header, mark, parameter, values, Whole, Spells, IsConnection, IsDisconnect, IsProblem, IsUnit, IsSize, IsSelector}
use Rattle.tpkt.specs.Header.{◌>>=◌, nothing_seen, or_empty, parameters_at, ends_at, passed_at, mark_at, data_at, fills, code_at, indicator_at, length_at, header_at}
use Rattle.tpkt.proofs.Results.{ok_is, refused, passed, chosen, bound}
use Rattle.tpkt.proofs.ParameterLaws.{Adds, sizes, selectors, eq_is, all_found, all_again}

-- ---- the fixed part of a header

-- the fields up to the code, and what the code's unit is read as
pub record Opens (begun : ℕ) (xs : List ℕ) (h : Header) : Type 0 where
  pub high : ℕ
  pub low : ℕ
  pub li : ℕ
  pub code : ℕ
  pub rest : List ℕ
  pub octets : xs ≡ 3 ∷ 0 ∷ high ∷ low ∷ li ∷ code ∷ rest
  pub at_least : 7 ≤ 256 * high + low
  pub some : 0 < li
  pub short : li ≤ 254
  pub within : li ≤ 256 * high + low - 5
  pub reads : code_at begun (256 * high + low - 5) li (code ∷ rest) ≡ Ok h

code_there : (begun room li : ℕ) (xs : List ℕ) (h : Header) → code_at begun room li xs ≡ Ok h → (code : ℕ) × (rest : List ℕ) × (xs ≡ code ∷ rest)
unfolding code_at
code_there begun room li [] h e = absurd cc
code_there begun room li (code ∷ rest) h e = (code, rest, refl)

indicator_found : (begun room : ℕ) (xs : List ℕ) (h : Header) → indicator_at begun room xs ≡ Ok h
    → (li code : ℕ) × (rest : List ℕ) × (xs ≡ li ∷ code ∷ rest) × (0 < li) × (li ≤ 254) × (li ≤ room) × (code_at begun room li (code ∷ rest) ≡ Ok h)
unfolding indicator_at
indicator_found begun room [] h e = absurd cc
indicator_found begun room (li ∷ rest) h e =
    let a = refused (li == 0 || nat_le 255 li || ltb room li) (At 4 kinds.Length) (code_at begun room li rest) h e in
    let b = or_parts (li == 0 || nat_le 255 li) (ltb room li) a.0 in
    let c = or_parts (li == 0) (nat_le 255 li) b.0 in
    let t = code_there begun room li rest h a.1 in
    (li, t.0, t.1, ap (λ (r : List ℕ). li ∷ r) t.2, (let z : (li == 0) ≡ false = c.0 in grind arith), omega (arith, leb-false 255 li c.1), ltb-false _ _ b.1, ap (code_at begun room li) (sym t.2) ∙ a.1)

length_found : (begun : ℕ) (xs : List ℕ) (h : Header) → length_at begun xs ≡ Ok h → Opens begun (3 ∷ 0 ∷ xs) h
unfolding length_at
length_found begun [] h e = absurd cc
length_found begun (high ∷ []) h e = absurd cc
length_found begun (high ∷ low ∷ rest) h e =
    let a = refused (ltb (256 * high + low) 7) (At 2 kinds.Length) (indicator_at begun (256 * high + low - 5) rest) h e in
    let b = indicator_found begun (256 * high + low - 5) rest h a.1 in
    record { high = high; low = low; li = b.0; code = b.1; rest = b.2; octets = ap (λ (r : List ℕ). 3 ∷ 0 ∷ high ∷ low ∷ r) b.3; at_least = ltb-false _ _ a.0; some = b.4; short = b.5; within = b.6; reads = b.7 }

pub opens : (begun : ℕ) (xs : List ℕ) (h : Header) → header_at begun xs ≡ Ok h → Opens begun xs h
unfolding header_at
opens begun [] h e = absurd cc
opens begun (v ∷ []) h e = absurd cc
opens begun (v ∷ r ∷ rest) h e =
    let a = passed (v == 3 && r == 0) (At 0 kinds.Tag) (length_at begun rest) h e in
    let b = and_parts (v == 3) (r == 0) a.0 in
    rw (eq_is v 3 b.0, eq_is r 0 b.1) (length_found begun rest h a.1)

pub opens_again : (begun high low li code : ℕ) (rest : List ℕ) → 7 ≤ 256 * high + low → 0 < li → li ≤ 254 → li ≤ 256 * high + low - 5
    → header_at begun (3 ∷ 0 ∷ high ∷ low ∷ li ∷ code ∷ rest) ≡ code_at begun (256 * high + low - 5) li (code ∷ rest)
unfolding header_at length_at indicator_at
opens_again begun high low li code rest at_least some short within =
    let long : ltb (256 * high + low) 7 ≡ false = le-ltb _ _ at_least in
    let there : (li == 0) ≡ false = grind arith in
    let room : ltb (256 * high + low - 5) li ≡ false = le-ltb _ _ within in
    let all : nat_le 255 li ≡ false = lt-leb 255 li (omega arith) in
    rw (long, there, all, room) refl

-- ---- which unit it is

pub data Case (begun room li code : ℕ) (rest : List ℕ) (h : Header) : Type 0 where
  IsPart : code ≡ 240 → li ≡ 2 → data_at begun (room - 2) rest ≡ Ok h → Case begun room li code rest h
  IsRequest : code ≡ 224 → li ≡ room → 6 ≤ li → (ends : ConnectionFields) → ends_at li rest ≡ Ok ends → Control (Connect ends) ≡ h → Case begun room li code rest h
  IsAnswer : code ≡ 208 → li ≡ room → 6 ≤ li → (ends : ConnectionFields) → ends_at li rest ≡ Ok ends → Control (Confirm ends) ≡ h → Case begun room li code rest h
  IsEnd : code ≡ 128 → li ≡ room → 6 ≤ li → passed_at (li - 1) Disconnect rest ≡ Ok h → Case begun room li code rest h
  IsError : code ≡ 112 → li ≡ room → passed_at (li - 1) Problem rest ≡ Ok h → Case begun room li code rest h

filled : (room li least : ℕ) → fills room li least ≡ true → (li ≡ room) × (least ≤ li)
filled room li least e =
    let p = and_parts (li == room) (nat_le least li) e in
    (eq_is li room p.0, leb-true least li p.1)

wrong_length : Result Header Stop
wrong_length = Err (At 4 kinds.Length)

pub code_found : (begun room li code : ℕ) (rest : List ℕ) (h : Header) → code_at begun room li (code ∷ rest) ≡ Ok h → Case begun room li code rest h
unfolding code_at
code_found begun room li code rest h e =
    elim (chosen (code == 240) _ _ (Ok h) e) [
      | inl p ↦ (let q = passed (li == 2) (At 4 kinds.Length) (data_at begun (room - 2) rest) h p.1 in IsPart (eq_is code 240 p.0) (eq_is li 2 q.0) q.1)
      | inr p ↦ elim (chosen (code == 224) _ _ (Ok h) p.1) [
        | inl q ↦ (
            let r = passed (fills room li 6) (At 4 kinds.Length) (ends_at li rest >>= λ ends. Ok (Control (Connect ends))) h q.1 in
            let f = filled room li 6 r.0 in
            let b = bound (ends_at li rest) (λ ends. Ok (Control (Connect ends))) h r.1 in
            IsRequest (eq_is code 224 q.0) f.0 f.1 b.0 b.1 (ok_is (Control (Connect b.0)) h b.2))
        | inr q ↦ elim (chosen (code == 208) _ _ (Ok h) q.1) [
          | inl r ↦ (
              let s = passed (fills room li 6) (At 4 kinds.Length) (ends_at li rest >>= λ ends. Ok (Control (Confirm ends))) h r.1 in
              let f = filled room li 6 s.0 in
              let b = bound (ends_at li rest) (λ ends. Ok (Control (Confirm ends))) h s.1 in
              IsAnswer (eq_is code 208 r.0) f.0 f.1 b.0 b.1 (ok_is (Control (Confirm b.0)) h b.2))
          | inr r ↦ elim (chosen (code == 128) _ _ (Ok h) r.1) [
            | inl s ↦ (
                let t = passed (fills room li 6) (At 4 kinds.Length) (passed_at (li - 1) Disconnect rest) h s.1 in
                let f = filled room li 6 t.0 in
                IsEnd (eq_is code 128 s.0) f.0 f.1 t.1)
            | inr s ↦ (
                let t = passed (code == 112) (At 5 kinds.Tag) _ h s.1 in
                let u = passed (fills room li 1) (At 4 kinds.Length) (passed_at (li - 1) Problem rest) h t.1 in
                IsError (eq_is code 112 t.0) (filled room li 1 u.0).0 u.1)
          ]
        ]
      ]
    ]

-- ---- a DT

mark_found : (left : ℕ) (xs : List ℕ) (h : Header) → mark_at left xs ≡ Ok h → (last : Bool) × (more : List ℕ) × (xs ≡ mark last ∷ more) × (Data left last ≡ h)
mark_found left [] h e = absurd cc
mark_found left (m ∷ xs) h e =
    elim (chosen (m == 0) (Ok (Data left false)) (cond (m == 128) (Ok (Data left true)) (Err (At 6 kinds.Content))) (Ok h) e) [
      | inl p ↦ (false, xs, ap (λ n. n ∷ xs) (eq_is m 0 p.0), ok_is (Data left false) h p.1)
      | inr p ↦ (let q = passed (m == 128) (At 6 kinds.Content) (Ok (Data left true)) h p.1 in (true, xs, ap (λ n. n ∷ xs) (eq_is m 128 q.0), ok_is (Data left true) h q.1))
    ]

data_found : (begun left : ℕ) (xs : List ℕ) (h : Header) → data_at begun left xs ≡ Ok h
    → (begun + left ≤ tsdu_limit) × ((last : Bool) × (more : List ℕ) × (xs ≡ mark last ∷ more) × (Data left last ≡ h))
unfolding data_at
data_found begun left xs h e =
    let a = refused (ltb tsdu_limit (begun + left)) (At 5 kinds.Length) (mark_at left xs) h e in
    (ltb-false _ _ a.0, mark_found left xs h a.1)

same_data : (m n : ℕ) (a b : Bool) → Data m a ≡ Data n b → (m ≡ n) × (a ≡ b)
same_data m n a b e = (cc, cc)

-- the two octets of a number that was read
pub two_is : (high low : ℕ) → low < 256 → two (256 * high + low) ≡ high ∷ low ∷ []
two_is high low lt =
    let h : (256 * high + low) / 256 ≡ high = omega arith in
    let l : (256 * high + low) % 256 ≡ low = omega arith in
    rw (h, l) refl

pub two_again : (n : ℕ) → 256 * (n / 256) + n % 256 ≡ n
two_again n = omega arith

passed_found : (count : ℕ) (p : Packet) (xs : List ℕ) (h : Header) → passed_at count p xs ≡ Ok h → (count ≤ length xs) × (Control p ≡ h)
passed_found count p xs h e =
    let a = refused (ltb (length xs) count) Short (Ok (Control p)) h e in
    (ltb-false _ _ a.0, ok_is (Control p) h a.1)

not_data : (count : ℕ) (p : Packet) (xs : List ℕ) (left : ℕ) (last : Bool) → passed_at count p xs ≡ Ok (Data left last) → ⊥
not_data count p xs left last e = (let a = (passed_found count p xs (Data left last) e).1 in cc)

-- what begins a DT
abbrev pub front : ℕ → Bool → List ℕ
front left last = 3 ∷ 0 ∷ two (left + 7) ++ 2 ∷ 240 ∷ mark last ∷ []

pub record DataFound (begun : ℕ) (xs : List ℕ) (left : ℕ) (last : Bool) : Type 0 where
  pub more : List ℕ
  pub octets : xs ≡ front left last ++ more
  pub within : begun + left ≤ tsdu_limit
  pub size : left + 7 < 65536

part_is : (li code : ℕ) (rest more : List ℕ) (a last : Bool) → li ≡ 2 → code ≡ 240 → rest ≡ mark a ∷ more → a ≡ last → li ∷ code ∷ rest ≡ 2 ∷ 240 ∷ mark last ∷ more
part_is li code rest more a last e f g h = cc

part_found : (begun : ℕ) (xs : List ℕ) (left : ℕ) (last : Bool) → AreOctets xs → (o : Opens begun xs (Data left last))
    → Case begun (256 * o.high + o.low - 5) o.li o.code o.rest (Data left last) → DataFound begun xs left last
part_found begun xs left last fits o (IsPart code li reads) =
    let d = data_found begun (256 * o.high + o.low - 5 - 2) o.rest (Data left last) reads in
    let s = same_data (256 * o.high + o.low - 5 - 2) left d.1.0 last d.1.3 in
    let at_least = o.at_least in
    let low : o.low < 256 = (let f : get_or xs 3 0 < 256 = fits.each 3 in let w = subst AreOctets o.octets fits in omega (arith, w.each 3)) in
    let n : 256 * o.high + o.low ≡ left + 7 = omega (arith, s.0) in
    let t : o.high ∷ o.low ∷ [] ≡ two (left + 7) = sym (two_is o.high o.low low) ∙ ap two n in
    record {
      more = d.1.1;
      octets = o.octets ∙ ap (λ (f : List ℕ). 3 ∷ 0 ∷ f ++ o.li ∷ o.code ∷ o.rest) t ∙ ap (λ (f : List ℕ). 3 ∷ 0 ∷ two (left + 7) ++ f) (part_is o.li o.code o.rest d.1.1 d.1.0 last li code d.1.2 s.1);
      within = omega (arith, d.0, s.0);
      size = (let w = subst AreOctets o.octets fits in omega (arith, n, low, w.each 2));
    }
part_found begun xs left last fits o (IsRequest code li six ends reads e) = absurd cc
part_found begun xs left last fits o (IsAnswer code li six ends reads e) = absurd cc
part_found begun xs left last fits o (IsEnd code li six reads) = absurd (not_data _ _ _ _ _ reads)
part_found begun xs left last fits o (IsError code li reads) = absurd (not_data _ _ _ _ _ reads)

pub found_data : (begun : ℕ) (xs : List ℕ) (left : ℕ) (last : Bool) → AreOctets xs → header_at begun xs ≡ Ok (Data left last) → DataFound begun xs left last
found_data begun xs left last fits e =
    let o = opens begun xs (Data left last) e in
    part_found begun xs left last fits o (code_found begun (256 * o.high + o.low - 5) o.li o.code o.rest (Data left last) o.reads)

mark_again : (left : ℕ) (last : Bool) (more : List ℕ) → mark_at left (mark last ∷ more) ≡ Ok (Data left last)
mark_again left true more = refl
mark_again left false more = refl

part_again : (begun room left : ℕ) (last : Bool) (more : List ℕ) → room - 2 ≡ left → begun + left ≤ tsdu_limit → code_at begun room 2 (240 ∷ mark last ∷ more) ≡ Ok (Data left last)
unfolding code_at data_at
part_again begun room left last more e within =
    let w : ltb tsdu_limit (begun + left) ≡ false = le-ltb _ _ within in
    rw (e, w) (mark_again left last more)

pub again_data : (begun left : ℕ) (last : Bool) (more : List ℕ) → begun + left ≤ tsdu_limit → header_at begun (front left last ++ more) ≡ Ok (Data left last)
again_data begun left last more within =
    let n = two_again (left + 7) in
    opens_again begun ((left + 7) / 256) ((left + 7) % 256) 2 240 (mark last ∷ more) (omega (arith, n)) (omega arith) (omega arith) (omega (arith, n))
    ∙ part_again begun (256 * ((left + 7) / 256) + (left + 7) % 256 - 5) left last more (omega (arith, n)) within

-- ---- a connection request or confirm

is_size : (o : Option ℕ) (vs : List (List ℕ)) → vs ≡ sizes o → IsSize o vs
is_size None vs e = e
is_size (Some n) vs e = e

is_selector : (o : Option (List ℕ)) (vs : List (List ℕ)) → vs ≡ selectors o → IsSelector (or_empty o) vs
is_selector None vs e = subst (IsSelector []) (sym e) refl
is_selector (Some v) vs e = subst (IsSelector v) (sym e) refl

pub record EndsFound (code li : ℕ) (ends : ConnectionFields) (rest : List ℕ) : Type 0 where
  pub fields : List ℕ
  pub more : List ℕ
  pub parts : rest ≡ fields ++ more
  pub len : length fields + 1 ≡ li
  pub whole : IsConnection code ends (li ∷ code ∷ fields)

abbrev ends_of : ℕ → ℕ → ℕ → ℕ → Seen → ConnectionFields
ends_of a b c d seen = record {
  destination = 256 * a + b;
  source = 256 * c + d;
  size = seen.size;
  calling = or_empty seen.calling;
  called = or_empty seen.called;
}

same_fields : (a b c d class value : ℕ) (flat : List ℕ) (x y : List ℕ) → x ≡ a ∷ b ∷ [] → y ≡ c ∷ d ∷ [] → class ≡ value → a ∷ b ∷ c ∷ d ∷ class ∷ flat ≡ x ++ y ++ value ∷ flat
same_fields a b c d class value flat x y e f g = rw (e, f, g) refl

found_as : (code li a b c d class : ℕ) (seen : Seen) (rest : List ℕ) (ps : List (ℕ × List ℕ)) (more : List ℕ) → 6 ≤ li → AreOctets (a ∷ b ∷ c ∷ d ∷ class ∷ rest) → class ≡ 0
    → rest ≡ flat_map parameter ps ++ more → length (flat_map parameter ps) ≡ li - 6 → Adds nothing_seen ps seen
    → EndsFound code li (ends_of a b c d seen) (a ∷ b ∷ c ∷ d ∷ class ∷ rest)
found_as code li a b c d class seen rest ps more six fits zero_class parts len adds =
    let to = two_is a b (fits.each 1) in
    let from = two_is c d (fits.each 3) in
    let fields = a ∷ b ∷ c ∷ d ∷ class ∷ flat_map parameter ps in
    let same : fields ≡ two (256 * a + b) ++ two (256 * c + d) ++ 0 ∷ flat_map parameter ps = same_fields a b c d class 0 (flat_map parameter ps) (two (256 * a + b)) (two (256 * c + d)) to from zero_class in
    let n : li ≡ length (code ∷ fields) = omega arith in
    record {
      fields = fields;
      more = more;
      parts = ap (λ (r : List ℕ). a ∷ b ∷ c ∷ d ∷ class ∷ r) parts;
      len = omega arith;
      whole = record {
        destination = omega (arith, fits.each 0, fits.each 1);
        source = omega (arith, fits.each 2, fits.each 3);
        parameters = ps;
        whole = ap (λ k. k ∷ code ∷ fields) n ∙ ap (λ (f : List ℕ). header (code ∷ f)) same;
        size = is_size seen.size (values 192 ps) adds.size;
        calling = is_selector seen.calling (values 193 ps) adds.calling;
        called = is_selector seen.called (values 194 ps) adds.called;
      };
    }

ends_found : (code li : ℕ) (ends : ConnectionFields) (rest : List ℕ) → 6 ≤ li → AreOctets rest → ends_at li rest ≡ Ok ends → EndsFound code li ends rest
unfolding ends_at
ends_found code li ends [] six fits e = absurd cc
ends_found code li ends (a ∷ []) six fits e = absurd cc
ends_found code li ends (a ∷ b ∷ []) six fits e = absurd cc
ends_found code li ends (a ∷ b ∷ c ∷ []) six fits e = absurd cc
ends_found code li ends (a ∷ b ∷ c ∷ d ∷ []) six fits e = absurd cc
ends_found code li ends (a ∷ b ∷ c ∷ d ∷ class ∷ rest) six fits e =
    let p = passed (class == 0) (At 10 kinds.Content) _ ends e in
    let q = bound (parameters_at (li - 6) (li - 6) 11 nothing_seen rest) (λ seen. Ok (ends_of a b c d seen)) ends p.1 in
    let f = all_found (li - 6) (li - 6) 11 nothing_seen q.0 rest (omega arith) q.1 in
    subst (λ (n : ConnectionFields). EndsFound code li n (a ∷ b ∷ c ∷ d ∷ class ∷ rest)) (ok_is (ends_of a b c d q.0) ends q.2)
    (found_as code li a b c d class q.0 rest f.0 f.1 six fits (eq_is class 0 p.0) f.2 f.3 f.4)

-- ---- units other than a DT

pub record ControlFound (xs : List ℕ) (p : Packet) : Type 0 where
  pub unit : List ℕ
  pub more : List ℕ
  pub octets : xs ≡ packet unit ++ more
  pub is : (tsdu : List ℕ) → IsUnit tsdu (Whole p) unit

control_is : (begun : ℕ) (xs : List ℕ) (p : Packet) (h : Header) (o : Opens begun xs h) (fields more : List ℕ) → AreOctets xs → o.rest ≡ fields ++ more → length fields + 1 ≡ o.li
    → o.li ≡ 256 * o.high + o.low - 5 → (length (o.li ∷ o.code ∷ fields) ≤ 255 → Spells (Whole p) (o.li ∷ o.code ∷ fields)) → ControlFound xs p
control_is begun xs p h o fields more fits parts len full spells =
    let w = subst AreOctets o.octets fits in
    let at_least = o.at_least in
    let short : o.li ≤ 254 = o.short in
    let n : 256 * o.high + o.low ≡ length (o.li ∷ o.code ∷ fields) + 4 = omega arith in
    let t : o.high ∷ o.low ∷ [] ≡ two (length (o.li ∷ o.code ∷ fields) + 4) = sym (two_is o.high o.low (w.each 3)) ∙ ap two n in
    record {
      unit = o.li ∷ o.code ∷ fields;
      more = more;
      octets = o.octets ∙ ap (λ (r : List ℕ). 3 ∷ 0 ∷ o.high ∷ o.low ∷ o.li ∷ o.code ∷ r) parts ∙ ap (λ (f : List ℕ). 3 ∷ 0 ∷ f ++ o.li ∷ o.code ∷ fields ++ more) t;
      is = λ tsdu. record { spells = spells (omega (arith, w.each 4)); at_least = omega arith; at_most = omega (arith, w.each 2, w.each 3); within = tt };
    }

disconnect_is : (li : ℕ) (rest : List ℕ) → AreOctets rest → 6 ≤ li → li - 1 ≤ length rest → IsDisconnect (li ∷ 128 ∷ take (li - 1) rest)
disconnect_is li [] fits six there = absurd (omega arith)
disconnect_is li (a ∷ []) fits six there = absurd (omega arith)
disconnect_is li (a ∷ b ∷ []) fits six there = absurd (omega arith)
disconnect_is li (a ∷ b ∷ c ∷ []) fits six there = absurd (omega arith)
disconnect_is li (a ∷ b ∷ c ∷ d ∷ []) fits six there = absurd (omega arith)
disconnect_is li (a ∷ b ∷ c ∷ d ∷ reason ∷ rest) fits six there =
    let to = two_is a b (fits.each 1) in
    let from = two_is c d (fits.each 3) in
    let five : li - 1 ≡ suc (suc (suc (suc (suc (li - 6))))) = omega arith in
    let cut : take (li - 1) (a ∷ b ∷ c ∷ d ∷ reason ∷ rest) ≡ a ∷ b ∷ c ∷ d ∷ reason ∷ take (li - 6) rest = rw five refl in
    let same : a ∷ b ∷ c ∷ d ∷ reason ∷ take (li - 6) rest ≡ two (256 * a + b) ++ two (256 * c + d) ++ reason ∷ take (li - 6) rest = same_fields a b c d reason reason (take (li - 6) rest) (two (256 * a + b)) (two (256 * c + d)) to from refl in
    let n : li ≡ length (128 ∷ a ∷ b ∷ c ∷ d ∷ reason ∷ take (li - 6) rest) = omega (arith, length-take (li - 6) rest) in
    record {
      destination = 256 * a + b;
      source = 256 * c + d;
      reason = reason;
      parameters = take (li - 6) rest;
      to = omega (arith, fits.each 0, fits.each 1);
      by_source = omega (arith, fits.each 2, fits.each 3);
      whole = ap (λ (f : List ℕ). li ∷ 128 ∷ f) cut ∙ ap (λ k. k ∷ 128 ∷ a ∷ b ∷ c ∷ d ∷ reason ∷ take (li - 6) rest) n ∙ ap (λ (f : List ℕ). header (128 ∷ f)) same;
    }

problem_is : (li : ℕ) (rest : List ℕ) → 0 < li → li - 1 ≤ length rest → IsProblem (li ∷ 112 ∷ take (li - 1) rest)
problem_is li rest some there =
    let n : li ≡ length (112 ∷ take (li - 1) rest) = omega (arith, length-take (li - 1) rest) in
    record { fields = take (li - 1) rest; whole = ap (λ k. k ∷ 112 ∷ take (li - 1) rest) n }

same_packet : (p q : Packet) → Control p ≡ Control q → p ≡ q
same_packet p q e = cc

rest_octets : (begun : ℕ) (xs : List ℕ) (h : Header) (o : Opens begun xs h) → AreOctets xs → AreOctets o.rest
rest_octets begun xs h o fits = octets_right (3 ∷ 0 ∷ o.high ∷ o.low ∷ o.li ∷ o.code ∷ []) o.rest (subst AreOctets o.octets fits)

case_found : (begun : ℕ) (xs : List ℕ) (p : Packet) → AreOctets xs → (o : Opens begun xs (Control p)) → Case begun (256 * o.high + o.low - 5) o.li o.code o.rest (Control p) → ControlFound xs p
case_found begun xs p fits o (IsPart code li reads) =
    absurd (let d = data_found begun (256 * o.high + o.low - 5 - 2) o.rest (Control p) reads in let e = d.1.3 in cc)
case_found begun xs p fits o (IsRequest code li six ends reads e) =
    let f = ends_found o.code o.li ends o.rest six (rest_octets begun xs (Control p) o fits) reads in
    let q : Connect ends ≡ p = same_packet (Connect ends) p e in
    control_is begun xs p (Control p) o f.fields f.more fits f.parts f.len li (λ short. subst (λ (r : Packet). Spells (Whole r) (o.li ∷ o.code ∷ f.fields)) q (subst (λ (c : ℕ). IsConnection c ends (o.li ∷ o.code ∷ f.fields)) code f.whole, short))
case_found begun xs p fits o (IsAnswer code li six ends reads e) =
    let f = ends_found o.code o.li ends o.rest six (rest_octets begun xs (Control p) o fits) reads in
    let q : Confirm ends ≡ p = same_packet (Confirm ends) p e in
    control_is begun xs p (Control p) o f.fields f.more fits f.parts f.len li (λ short. subst (λ (r : Packet). Spells (Whole r) (o.li ∷ o.code ∷ f.fields)) q (subst (λ (c : ℕ). IsConnection c ends (o.li ∷ o.code ∷ f.fields)) code f.whole, short))
case_found begun xs p fits o (IsEnd code li six reads) =
    let f = passed_found (o.li - 1) Disconnect o.rest (Control p) reads in
    let q : Disconnect ≡ p = same_packet Disconnect p f.1 in
    let whole = disconnect_is o.li o.rest (rest_octets begun xs (Control p) o fits) six f.0 in
    control_is begun xs p (Control p) o (take (o.li - 1) o.rest) (drop (o.li - 1) o.rest) fits (sym (take-append-drop (o.li - 1) o.rest)) (omega (arith, f.0, length-take (o.li - 1) o.rest)) li
    (λ short. subst (λ (r : Packet). Spells (Whole r) (o.li ∷ o.code ∷ take (o.li - 1) o.rest)) q (subst (λ (c : ℕ). IsDisconnect (o.li ∷ c ∷ take (o.li - 1) o.rest)) (sym code) whole, short))
case_found begun xs p fits o (IsError code li reads) =
    let f = passed_found (o.li - 1) Problem o.rest (Control p) reads in
    let q : Problem ≡ p = same_packet Problem p f.1 in
    let some : 0 < o.li = o.some in
    let whole = problem_is o.li o.rest o.some f.0 in
    control_is begun xs p (Control p) o (take (o.li - 1) o.rest) (drop (o.li - 1) o.rest) fits (sym (take-append-drop (o.li - 1) o.rest)) (omega (arith, f.0, length-take (o.li - 1) o.rest)) li
    (λ short. subst (λ (r : Packet). Spells (Whole r) (o.li ∷ o.code ∷ take (o.li - 1) o.rest)) q (subst (λ (c : ℕ). IsProblem (o.li ∷ c ∷ take (o.li - 1) o.rest)) (sym code) whole, short))

pub found_control : (begun : ℕ) (xs : List ℕ) (p : Packet) → AreOctets xs → header_at begun xs ≡ Ok (Control p) → ControlFound xs p
found_control begun xs p fits e =
    let o = opens begun xs (Control p) e in
    case_found begun xs p fits o (code_found begun (256 * o.high + o.low - 5) o.li o.code o.rest (Control p) o.reads)

-- ---- the header of a packet is read

control_again : (begun li code : ℕ) (fields more : List ℕ) (p : Packet) → li ≡ length (code ∷ fields) → 2 ≤ li → li ≤ 254
    → code_at begun li li (code ∷ fields ++ more) ≡ Ok (Control p) → header_at begun (packet (li ∷ code ∷ fields) ++ more) ≡ Ok (Control p)
control_again begun li code fields more p len two_at_least short reads =
    let k = length (li ∷ code ∷ fields) + 4 in
    let n = two_again k in
    let room : 256 * (k / 256) + k % 256 - 5 ≡ li = omega (arith, n) in
    opens_again begun (k / 256) (k % 256) li code (fields ++ more) (omega (arith, n)) (omega arith) short (omega (arith, n))
    ∙ ap (λ r. code_at begun r li (code ∷ fields ++ more)) room ∙ reads

same : (a : ℕ) → (a == a) ≡ true
same a = grind arith

fills_again : (li least : ℕ) → least ≤ li → fills li li least ≡ true
fills_again li least le = rw (same li, le-leb least li le) refl

-- what was seen, from what stands there
selector_of : (selector : List ℕ) (vs : List (List ℕ)) → IsSelector selector vs → (o : Option (List ℕ)) × (vs ≡ selectors o) × (or_empty o ≡ selector)
selector_of selector [] e = (None, refl, sym e)
selector_of selector (v ∷ []) e = (Some v, refl, sym e)
selector_of selector (v ∷ w ∷ vs) e = absurd e

size_of : (o : Option ℕ) (vs : List (List ℕ)) → IsSize o vs → vs ≡ sizes o
size_of None vs e = e
size_of (Some n) vs e = e

abbrev fine : ConnectionFields → Result ConnectionFields Stop
fine e = Ok e

abbrev made : ℕ → ℕ → Option ℕ → List ℕ → List ℕ → ConnectionFields
made destination source size calling called = record { destination = destination; source = source; size = size; calling = calling; called = called }

ends_again : (code li : ℕ) (ends : ConnectionFields) (unit more : List ℕ) → (c : IsConnection code ends unit) → li ≡ length (code ∷ two ends.destination ++ two ends.source ++ 0 ∷ flat_map parameter c.parameters)
    → ends_at li ((two ends.destination ++ two ends.source ++ 0 ∷ flat_map parameter c.parameters) ++ more) ≡ Ok ends
unfolding ends_at
ends_again code li ends unit more c len =
    let calling = selector_of ends.calling (values 193 c.parameters) c.calling in
    let called = selector_of ends.called (values 194 c.parameters) c.called in
    let seen : Seen = record { size = ends.size; calling = calling.0; called = called.0 } in
    let adds : Adds nothing_seen c.parameters seen = record { size = size_of ends.size (values 192 c.parameters) c.size; calling = calling.1; called = called.1 } in
    let read = all_again (li - 6) (li - 6) 11 nothing_seen seen c.parameters more (omega arith) (omega arith) adds in
    let whole : made (256 * (ends.destination / 256) + ends.destination % 256) (256 * (ends.source / 256) + ends.source % 256) ends.size (or_empty calling.0) (or_empty called.0) ≡ ends =
    ap (λ n. made n (256 * (ends.source / 256) + ends.source % 256) ends.size (or_empty calling.0) (or_empty called.0)) (two_again ends.destination)
    ∙ ap (λ n. made ends.destination n ends.size (or_empty calling.0) (or_empty called.0)) (two_again ends.source)
    ∙ ap (λ v. made ends.destination ends.source ends.size v (or_empty called.0)) calling.2
    ∙ ap (λ v. made ends.destination ends.source ends.size ends.calling v) called.2 in
    rw read (ap fine whole)

request_again : (begun : ℕ) (ends : ConnectionFields) (unit more : List ℕ) → IsConnection 224 ends unit → 3 ≤ length unit → length unit ≤ 255 → header_at begun (packet unit ++ more) ≡ Ok (Control (Connect ends))
unfolding code_at
request_again begun ends unit more c long short =
    let fields = two ends.destination ++ two ends.source ++ 0 ∷ flat_map parameter c.parameters in
    let li = length (224 ∷ fields) in
    let n : length unit ≡ suc li = ap length c.whole in
    let six : 6 ≤ li = omega arith in
    ap (λ (u : List ℕ). header_at begun (packet u ++ more)) c.whole
    ∙ control_again begun li 224 fields more (Connect ends) refl (omega arith) (omega arith) (rw (fills_again li 6 six, ends_again 224 li ends unit more c refl) refl)

answer_again : (begun : ℕ) (ends : ConnectionFields) (unit more : List ℕ) → IsConnection 208 ends unit → 3 ≤ length unit → length unit ≤ 255 → header_at begun (packet unit ++ more) ≡ Ok (Control (Confirm ends))
unfolding code_at
answer_again begun ends unit more c long short =
    let fields = two ends.destination ++ two ends.source ++ 0 ∷ flat_map parameter c.parameters in
    let li = length (208 ∷ fields) in
    let n : length unit ≡ suc li = ap length c.whole in
    let six : 6 ≤ li = omega arith in
    ap (λ (u : List ℕ). header_at begun (packet u ++ more)) c.whole
    ∙ control_again begun li 208 fields more (Confirm ends) refl (omega arith) (omega arith) (rw (fills_again li 6 six, ends_again 208 li ends unit more c refl) refl)

there_again : (count : ℕ) (p : Packet) (fields more : List ℕ) → count ≡ length fields → passed_at count p (fields ++ more) ≡ Ok (Control p)
there_again count p fields more e =
    let there : ltb (length (fields ++ more)) count ≡ false = le-ltb _ _ (omega (arith, length-append fields more)) in
    rw there refl

end_again : (begun : ℕ) (unit more : List ℕ) → IsDisconnect unit → 3 ≤ length unit → length unit ≤ 255 → header_at begun (packet unit ++ more) ≡ Ok (Control Disconnect)
unfolding code_at
end_again begun unit more c long short =
    let fields = two c.destination ++ two c.source ++ c.reason ∷ c.parameters in
    let li = length (128 ∷ fields) in
    let n : length unit ≡ suc li = ap length c.whole in
    let six : 6 ≤ li = omega arith in
    ap (λ (u : List ℕ). header_at begun (packet u ++ more)) c.whole
    ∙ control_again begun li 128 fields more Disconnect refl (omega arith) (omega arith) (rw (fills_again li 6 six) (there_again (li - 1) Disconnect fields more (omega arith)))

error_again : (begun : ℕ) (unit more : List ℕ) → IsProblem unit → 3 ≤ length unit → length unit ≤ 255 → header_at begun (packet unit ++ more) ≡ Ok (Control Problem)
unfolding code_at
error_again begun unit more c long short =
    let fields = c.fields in
    let li = length (112 ∷ fields) in
    let n : length unit ≡ suc li = ap length c.whole in
    let one : 1 ≤ li = omega arith in
    ap (λ (u : List ℕ). header_at begun (packet u ++ more)) c.whole
    ∙ control_again begun li 112 fields more Problem refl (omega arith) (omega arith) (rw (fills_again li 1 one) (there_again (li - 1) Problem fields more (omega arith)))

pub again_control : (begun : ℕ) (tsdu : List ℕ) (p : Packet) (unit more : List ℕ) → IsUnit tsdu (Whole p) unit → header_at begun (packet unit ++ more) ≡ Ok (Control p)
again_control begun tsdu (Connect ends) unit more u = request_again begun ends unit more u.spells.0 u.at_least u.spells.1
again_control begun tsdu (Confirm ends) unit more u = answer_again begun ends unit more u.spells.0 u.at_least u.spells.1
again_control begun tsdu Disconnect unit more u = end_again begun unit more u.spells.0 u.at_least u.spells.1
again_control begun tsdu Problem unit more u = error_again begun unit more u.spells.0 u.at_least u.spells.1
again_control begun tsdu (Tsdu octets) unit more u = absurd u.spells

case_within : (begun room li code : ℕ) (rest : List ℕ) (left : ℕ) (last : Bool) → Case begun room li code rest (Data left last) → begun + left ≤ tsdu_limit
case_within begun room li code rest left last (IsPart c l reads) =
    let d = data_found begun (room - 2) rest (Data left last) reads in
    omega (arith, d.0, (same_data (room - 2) left d.1.0 last d.1.3).0)
case_within begun room li code rest left last (IsRequest c l six ends reads e) = absurd cc
case_within begun room li code rest left last (IsAnswer c l six ends reads e) = absurd cc
case_within begun room li code rest left last (IsEnd c l six reads) = absurd (not_data _ _ _ _ _ reads)
case_within begun room li code rest left last (IsError c l reads) = absurd (not_data _ _ _ _ _ reads)

-- a DT's data stay within the TSDU's limit
pub data_within : (begun : ℕ) (xs : List ℕ) (left : ℕ) (last : Bool) → header_at begun xs ≡ Ok (Data left last) → begun + left ≤ tsdu_limit
data_within begun xs left last e =
    let o = opens begun xs (Data left last) e in
    case_within begun (256 * o.high + o.low - 5) o.li o.code o.rest left last (code_found begun (256 * o.high + o.low - 5) o.li o.code o.rest (Data left last) o.reads)
