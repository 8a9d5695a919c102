-- What a reader makes of a stream is what the stream's units say.
use Rattle.std.proofs.Common.{◌≡◌, ℕ, zero, suc, ◌+◌, ◌-◌, ◌<◌, ◌≤◌, ◌==◌, Bool, true, false, cond, List, [], ◌∷◌, ◌++◌, length, Option, Some, None, Result, Ok, Err, refl, sym, ap, subst, ◌∙◌, append_assoc, zero-add, inl, inr, arith}
use Rattle.std.specs.Prelude.{◌⊎◌}
use Rattle.std.proofs.lemmas.List.{append-nil, length-append}
use Rattle.tpkt.specs.declared.packet.Packet.{Packet}
use Rattle.tpkt.specs.declared.packet.Packet.TheVariants.{Tsdu}
use Rattle.tpkt.specs.declared.packet.TFault.{TFault}
use Rattle.tpkt.specs.declared.reader_state.Coming.{Coming}
use Rattle.tpkt.specs.declared.reader_state.ReaderState.{ReaderState}
use Rattle.tpkt.specs.declared.header.Header.{Header}
use Rattle.tpkt.specs.declared.header.Header.TheVariants.{Control, Data}
use Rattle.tpkt.specs.declared.header_stops.Stop.{Stop}
use Rattle.tpkt.specs.declared.header_stops.Stop.TheVariants.{Short, At}
use Rattle.tpkt.specs.Wire.{packet, Tpdu, Whole, Part, IsUnit, Splits, begun_after, begun_by, handed_for, handed}
use Rattle.tpkt.specs.Header.{header_at}
use Rattle.tpkt.specs.Reader.{ReaderProgress, on, between, closed, opened, judged, taken, after, reading, nothing}
use Rattle.tpkt.specs.Stream.{unit_at, IsInFront, OneHolds, IsStop, ReadsAsPackets, HasRead}
use Rattle.tpkt.proofs.HeaderLaws.{front, found_data, found_control, again_data, again_control}
use Rattle.tpkt.proofs.UnitLaws.{part_packet, part_unit, unit_found, unit_again, unit_stays, faulty, short_yet, data_yet}
use Rattle.tpkt.proofs.ReaderLaws.{short_empty, still_open, after-append, after_fault}
use Rattle.tpkt.proofs.Results.{ok_is}
use Rattle.osi_base.specs.declared.layer_words.Kind.{Kind}
use Rattle.osi_base.specs.Limits.{tsdu_limit}
use Rattle.osi_base.proofs.OctetLaws.{octets_right, octets_left, octets_join}
use Rattle.osi_base.specs.Octets.{AreOctets}

abbrev pub fed : List Packet → ReaderState → ReaderProgress
fed packets held = record { packets = packets; held = held }

abbrev reads : Tpdu × List ℕ → Result (Tpdu × List ℕ) Stop
reads p = Ok p

-- ---- units at the end of others

Splits-snoc : (begun stream : List ℕ) (us : List Tpdu) (rest : List ℕ) (u : Tpdu) (unit more : List ℕ) → Splits begun stream us rest → IsUnit (begun_by begun us) u unit → rest ≡ packet unit ++ more
    → Splits begun stream (us ++ u ∷ []) more
Splits-snoc begun stream [] rest u unit more s is e = (unit, more, is, s ∙ e, refl)
Splits-snoc begun stream (v ∷ us) rest u unit more s is e = (s.0, s.1, s.2, s.3, Splits-snoc (begun_after begun v) s.1 us rest u unit more s.4 is e)

Splits-more : (begun stream : List ℕ) (us : List Tpdu) (rest ys : List ℕ) → Splits begun stream us rest → Splits begun (stream ++ ys) us (rest ++ ys)
Splits-more begun stream [] rest ys s = ap (λ (t : List ℕ). t ++ ys) s
Splits-more begun stream (v ∷ us) rest ys s =
    (s.0, s.1 ++ ys, s.2, ap (λ (t : List ℕ). t ++ ys) s.3 ∙ append_assoc (packet s.0) s.1 ys, Splits-more (begun_after begun v) s.1 us rest ys s.4)

handed-snoc : (begun : List ℕ) (us : List Tpdu) (u : Tpdu) → handed begun (us ++ u ∷ []) ≡ handed begun us ++ handed_for (begun_by begun us) u
handed-snoc begun [] u = append-nil (handed_for begun u)
handed-snoc begun (v ∷ us) u = ap (λ (ps : List Packet). handed_for begun v ++ ps) (handed-snoc (begun_after begun v) us u) ∙ sym (append_assoc (handed_for begun v) (handed (begun_after begun v) us) (handed_for (begun_by (begun_after begun v) us) u))

begun-snoc : (begun : List ℕ) (us : List Tpdu) (u : Tpdu) → begun_by begun (us ++ u ∷ []) ≡ begun_after (begun_by begun us) u
begun-snoc begun [] u = refl
begun-snoc begun (v ∷ us) u = begun-snoc (begun_after begun v) us u

-- ---- the last octet of a header

snoc_cases : (xs : List ℕ) → (xs ≡ []) ⊎ ((ys : List ℕ) × (y : ℕ) × (xs ≡ ys ++ y ∷ []))
snoc_cases [] = inl refl
snoc_cases (x ∷ xs) =
    elim (snoc_cases xs) [
      | inl e ↦ inr ([], x, ap (λ (t : List ℕ). x ∷ t) e)
      | inr p ↦ inr (x ∷ p.0, p.1, ap (λ (t : List ℕ). x ∷ t) p.2)
    ]

snoc_fronts : (xs ys : List ℕ) (x y : ℕ) → xs ++ x ∷ [] ≡ ys ++ y ∷ [] → xs ≡ ys
snoc_fronts [] [] x y e = refl
snoc_fronts [] (b ∷ []) x y e = absurd cc
snoc_fronts [] (b ∷ c ∷ ys) x y e = absurd cc
snoc_fronts (a ∷ []) [] x y e = absurd cc
snoc_fronts (a ∷ c ∷ xs) [] x y e = absurd cc
snoc_fronts (a ∷ xs) (b ∷ ys) x y e =
    let heads : a ≡ b = cc in
    let tails : xs ++ x ∷ [] ≡ ys ++ y ∷ [] = cc in
    ap (λ n. n ∷ xs) heads ∙ ap (λ (t : List ℕ). b ∷ t) (snoc_fronts xs ys x y tails)

-- a header that became whole with its last octet has nothing behind it
ends_now : (begun : ℕ) (rest whole more : List ℕ) (x : ℕ) (h : Header) → header_at begun rest ≡ Err Short → rest ++ x ∷ [] ≡ whole ++ more → ((ys : List ℕ) → header_at begun (whole ++ ys) ≡ Ok h) → more ≡ []
ends_now begun rest whole more x h short e reads =
    elim (snoc_cases more) [
      | inl none ↦ none
      | inr p ↦ (
          let fronts : rest ≡ whole ++ p.0 = snoc_fronts rest (whole ++ p.0) x p.1 (e ∙ ap (λ (t : List ℕ). whole ++ t) p.2 ∙ sym (append_assoc whole p.0 (p.1 ∷ []))) in
          let again : header_at begun rest ≡ Ok h = ap (header_at begun) fronts ∙ reads p.0 in
          absurd cc)
    ]

-- ---- what is held stands for the octets of a unit that isn't whole

-- the reader idles, or the data of a DT are coming, or there is a fault
pub data IsState (begun rest : List ℕ) (start : ℕ) : ReaderState → Type 0 where
  Idle : (place : ℕ) → header_at (length begun) rest ≡ Err Short → place ≡ on 0 start
      → IsState begun rest start (record { unread = rest; tsdu = begun; coming = None; place = place; fault = None })
  Comes : (left place : ℕ) (last : Bool) (octets : List ℕ) → 0 < left → length begun + (length octets + left) ≤ tsdu_limit → length octets + left + 7 < 65536
      → rest ≡ front (length octets + left) last ++ octets → place ≡ on 0 (start + length rest)
      → IsState begun rest start (record { unread = []; tsdu = begun ++ octets; coming = Some (record { left = left; last = last }); place = place; fault = None })
  Bad : (unread tsdu : List ℕ) (coming : Option Coming) (place : ℕ) (fault : TFault) (o : ℕ) → unit_at begun rest ≡ Err (At o fault.kind) → fault.place ≡ on start o
      → IsState begun rest start (record { unread = unread; tsdu = tsdu; coming = coming; place = place; fault = Some fault })

pub record Stands (stream : List ℕ) (f : ReaderProgress) : Type 0 where
  pub units : List Tpdu
  pub start : ℕ
  pub rest : List ℕ
  pub splits : Splits [] stream units rest
  pub starts : start + length rest ≡ length stream
  pub packets : f.packets ≡ handed [] units
  pub state : IsState (begun_by [] units) rest start f.held

on-on : (p a b : ℕ) → on (on p a) b ≡ on p (a + b)
on-on p a b = omega arith

-- a unit has ended with the last octet
pub ended : (stream : List ℕ) (units : List Tpdu) (rest : List ℕ) (u : Tpdu) (unit : List ℕ) (packets : List Packet) (tsdu : List ℕ) (place : ℕ)
    → Splits [] stream units rest → IsUnit (begun_by [] units) u unit → rest ≡ packet unit ++ [] → packets ≡ handed [] units ++ handed_for (begun_by [] units) u
    → tsdu ≡ begun_after (begun_by [] units) u → place ≡ on 0 (length stream) → Stands stream (record { packets = packets; held = between tsdu place })
ended stream units rest u unit packets tsdu place splits is whole handed_up begun at =
    let b : tsdu ≡ begun_by [] (units ++ u ∷ []) = begun ∙ sym (begun-snoc [] units u) in
    record {
      units = units ++ u ∷ [];
      start = length stream;
      rest = [];
      splits = Splits-snoc [] stream units rest u unit [] splits is whole;
      starts = omega arith;
      packets = handed_up ∙ sym (handed-snoc [] units u);
      state = subst (λ (t : List ℕ). IsState (begun_by [] (units ++ u ∷ [])) [] (length stream) (between t place)) (sym b) (Idle place (short_empty (length (begun_by [] (units ++ u ∷ [])))) at);
    }

-- a DT has some data, and lacks others or none
pub opened_stands : (stream : List ℕ) (units : List Tpdu) (start : ℕ) (rest : List ℕ) (left : ℕ) (last : Bool) (octets : List ℕ) (packets : List Packet) (tsdu : List ℕ) (place : ℕ)
    → Splits [] stream units rest → start + length rest ≡ length stream → packets ≡ handed [] units → rest ≡ front (length octets + left) last ++ octets
    → length (begun_by [] units) + (length octets + left) ≤ tsdu_limit → length octets + left + 7 < 65536 → tsdu ≡ begun_by [] units ++ octets → place ≡ on 0 (length stream)
    → Stands stream (opened left last packets tsdu place)
opened_stands stream units start rest zero true octets packets tsdu place splits starts handed_up whole within size begun at =
    ended stream units rest (Part true octets) (2 ∷ 240 ∷ 128 ∷ octets) (packets ++ Tsdu tsdu ∷ []) [] place splits
    (part_unit (begun_by [] units) (length octets + 0) true octets (omega arith) within size)
    (whole ∙ ap (λ (t : List ℕ). front (length octets + 0) true ++ t) (sym (append-nil octets)) ∙ part_packet (length octets + 0) true octets [] (omega arith))
    (ap (λ (ps : List Packet). ps ++ Tsdu tsdu ∷ []) handed_up ∙ ap (λ (t : List ℕ). handed [] units ++ Tsdu t ∷ []) begun) refl at
opened_stands stream units start rest zero false octets packets tsdu place splits starts handed_up whole within size begun at =
    ended stream units rest (Part false octets) (2 ∷ 240 ∷ 0 ∷ octets) packets tsdu place splits
    (part_unit (begun_by [] units) (length octets + 0) false octets (omega arith) within size)
    (whole ∙ ap (λ (t : List ℕ). front (length octets + 0) false ++ t) (sym (append-nil octets)) ∙ part_packet (length octets + 0) false octets [] (omega arith))
    (handed_up ∙ sym (append-nil (handed [] units))) begun at
opened_stands stream units start rest (suc left) last octets packets tsdu place splits starts handed_up whole within size begun at =
    let n : place ≡ on 0 (start + length rest) = at ∙ ap (on 0) (sym starts) in
    let state : IsState (begun_by [] units) rest start (record { unread = []; tsdu = begun_by [] units ++ octets; coming = Some (record { left = suc left; last = last }); place = place; fault = None }) =
    Comes (suc left) place last octets (omega arith) within size whole n in
    rw (still_open (suc left) last packets tsdu place (omega arith)) (record {
      units = units;
      start = start;
      rest = rest;
      splits = splits;
      starts = starts;
      packets = handed_up;
      state = subst (λ (t : List ℕ). IsState (begun_by [] units) rest start (record { unread = []; tsdu = t; coming = Some (record { left = suc left; last = last }); place = place; fault = None })) (sym begun) state;
    })

-- ---- one more octet

judged_stands : (stream : List ℕ) (units : List Tpdu) (start : ℕ) (rest : List ℕ) (x : ℕ) (packets : List Packet) (place : ℕ) (read : Result Header Stop)
    → AreOctets (rest ++ x ∷ []) → Splits [] stream units (rest ++ x ∷ []) → start + length (rest ++ x ∷ []) ≡ length stream → packets ≡ handed [] units
    → header_at (length (begun_by [] units)) rest ≡ Err Short → header_at (length (begun_by [] units)) (rest ++ x ∷ []) ≡ read → place ≡ on 0 start
    → Stands stream (judged read packets (begun_by [] units) place (rest ++ x ∷ []))
judged_stands stream units start rest x packets place (Err Short) fits splits starts handed_up short e at =
    record { units = units; start = start; rest = rest ++ x ∷ []; splits = splits; starts = starts; packets = handed_up; state = Idle place e at }
judged_stands stream units start rest x packets place (Err (At o k)) fits splits starts handed_up short e at =
    record {
      units = units;
      start = start;
      rest = rest ++ x ∷ [];
      splits = splits;
      starts = starts;
      packets = handed_up;
      state = Bad [] [] None place (record { place = on place o; kind = k }) o (faulty (begun_by [] units) (rest ++ x ∷ []) o k e) (omega (arith, at));
    }
judged_stands stream units start rest x packets place (Ok (Control p)) fits splits starts handed_up short e at =
    let c = found_control (length (begun_by [] units)) (rest ++ x ∷ []) p fits e in
    let none = ends_now (length (begun_by [] units)) rest (packet c.unit) c.more x (Control p) short c.octets (λ ys. again_control (length (begun_by [] units)) (begun_by [] units) p c.unit ys (c.is (begun_by [] units))) in
    ended stream units (rest ++ x ∷ []) (Whole p) c.unit (packets ++ p ∷ []) (begun_by [] units) (on place (length (rest ++ x ∷ []))) splits (c.is (begun_by [] units))
    (c.octets ∙ ap (λ (t : List ℕ). packet c.unit ++ t) none) (ap (λ (ps : List Packet). ps ++ p ∷ []) handed_up) refl (omega (arith, at, starts))
judged_stands stream units start rest x packets place (Ok (Data left last)) fits splits starts handed_up short e at =
    let d = found_data (length (begun_by [] units)) (rest ++ x ∷ []) left last fits e in
    let none = ends_now (length (begun_by [] units)) rest (front left last) d.more x (Data left last) short d.octets (λ ys. again_data (length (begun_by [] units)) left last ys d.within) in
    opened_stands stream units start (rest ++ x ∷ []) left last [] packets (begun_by [] units) (on place (length (rest ++ x ∷ []))) splits starts handed_up
    (d.octets ∙ ap (λ (t : List ℕ). front left last ++ t) none ∙ ap (λ n. front n last ++ []) (sym (zero-add left))) (omega (arith, d.within)) (omega (arith, d.size)) (sym (append-nil (begun_by [] units))) (omega (arith, at, starts))

next_stands : (stream : List ℕ) (units : List Tpdu) (start : ℕ) (rest : List ℕ) (packets : List Packet) (held : ReaderState) (x : ℕ)
    → AreOctets (rest ++ x ∷ []) → Splits [] stream units rest → start + length rest ≡ length stream → packets ≡ handed [] units → IsState (begun_by [] units) rest start held
    → Stands (stream ++ x ∷ []) (taken held.fault held.coming (record { packets = packets; held = held }) x)
next_stands stream units start rest packets held x fits splits starts handed_up (Idle place short at) =
    judged_stands (stream ++ x ∷ []) units start rest x packets place _ fits (Splits-more [] stream units rest (x ∷ []) splits) (omega (arith, starts, length-append rest (x ∷ []), length-append stream (x ∷ []))) handed_up short refl at
next_stands stream units start rest packets held x fits splits starts handed_up (Comes left place last octets some within size whole at) =
    let n : length (octets ++ x ∷ []) + (left - 1) ≡ length octets + left = omega (arith, length-append octets (x ∷ [])) in
    opened_stands (stream ++ x ∷ []) units start (rest ++ x ∷ []) (left - 1) last (octets ++ x ∷ []) packets ((begun_by [] units ++ octets) ++ x ∷ []) (on place 1)
    (Splits-more [] stream units rest (x ∷ []) splits) (omega (arith, starts, length-append rest (x ∷ []), length-append stream (x ∷ []))) handed_up
    (ap (λ (t : List ℕ). t ++ x ∷ []) whole ∙ append_assoc (front (length octets + left) last) octets (x ∷ []) ∙ ap (λ k. front k last ++ (octets ++ x ∷ [])) (sym n))
    (omega (arith, n)) (omega (arith, n)) (append_assoc (begun_by [] units) octets (x ∷ [])) (omega (arith, at, starts, length-append stream (x ∷ [])))
next_stands stream units start rest packets held x fits splits starts handed_up (Bad unread tsdu coming place fault o e at) =
    record {
      units = units;
      start = start;
      rest = rest ++ x ∷ [];
      splits = Splits-more [] stream units rest (x ∷ []) splits;
      starts = omega (arith, starts, length-append rest (x ∷ []), length-append stream (x ∷ []));
      packets = handed_up;
      state = Bad unread tsdu coming place fault o (unit_stays (begun_by [] units) rest (x ∷ []) o fault.kind e) at;
    }

-- ---- a whole stream

octets-left : (begun stream : List ℕ) (us : List Tpdu) (rest : List ℕ) → Splits begun stream us rest → AreOctets stream → AreOctets rest
octets-left begun stream [] rest s fits = subst AreOctets s fits
octets-left begun stream (u ∷ us) rest s fits = octets-left (begun_after begun u) s.1 us rest s.4 (octets_right (packet s.0) s.1 (subst AreOctets s.3 fits))

after_stands : (stream xs : List ℕ) (f : ReaderProgress) → AreOctets (stream ++ xs) → Stands stream f → Stands (stream ++ xs) (after f xs)
unfolding after
after_stands stream [] f fits s = subst (λ (t : List ℕ). Stands t f) (sym (append-nil stream)) s
after_stands stream (x ∷ xs) f fits s =
    let joined : (stream ++ x ∷ []) ++ xs ≡ stream ++ x ∷ xs = append_assoc stream (x ∷ []) xs in
    let all : AreOctets ((stream ++ x ∷ []) ++ xs) = subst AreOctets (sym joined) fits in
    let here = octets-left [] (stream ++ x ∷ []) s.units (s.rest ++ x ∷ []) (Splits-more [] stream s.units s.rest (x ∷ []) s.splits) (octets_left (stream ++ x ∷ []) xs all) in
    subst (λ (t : List ℕ). Stands t (after (taken f.held.fault f.held.coming f x) xs)) joined
    (after_stands (stream ++ x ∷ []) xs (taken f.held.fault f.held.coming f x) all
    (next_stands stream s.units s.start s.rest f.packets f.held x here s.splits s.starts s.packets s.state))

stops : (begun rest : List ℕ) (start : ℕ) (held : ReaderState) → IsState begun rest start held → IsStop (unit_at begun rest) start held.fault
stops begun rest start held (Idle place short at) = subst (λ r. IsStop r start None) (sym (short_yet begun rest short)) tt
stops begun rest start held (Comes left place last octets some within size whole at) =
    let short : unit_at begun rest ≡ Err Short = ap (unit_at begun) whole ∙ data_yet begun (length octets + left) last octets (omega arith) within in
    subst (λ r. IsStop r start None) (sym short) tt
stops begun rest start held (Bad unread tsdu coming place fault o e at) = subst (λ r. IsStop r start (Some fault)) (sym e) (at, refl)

-- what a new reader makes of a stream
pub stream_read : (stream : List ℕ) → AreOctets stream → ReadsAsPackets stream (reading nothing stream).packets (reading nothing stream).held.fault
stream_read stream fits =
    let new : Stands [] (record { packets = []; held = nothing }) = record {
      units = [];
      start = 0;
      rest = [];
      splits = refl;
      starts = refl;
      packets = refl;
      state = Idle 0 (short_empty 0) refl;
    } in
    let s = after_stands [] stream (record { packets = []; held = nothing }) fits new in
    record { units = s.units; start = s.start; rest = s.rest; splits = s.splits; starts = s.starts; hands = s.packets; stop = stops (begun_by [] s.units) s.rest s.start (reading nothing stream).held s.state }

-- ---- a stream is split in one way

pub one_split : (begun stream : List ℕ) (us vs : List Tpdu) (rest more : List ℕ) (s t : Stop) → Splits begun stream us rest → unit_at (begun_by begun us) rest ≡ Err s
    → Splits begun stream vs more → unit_at (begun_by begun vs) more ≡ Err t → (us ≡ vs) × (rest ≡ more)
one_split begun stream [] [] rest more s t a e b f = (refl, sym a ∙ b)
one_split begun stream [] (v ∷ vs) rest more s t a e b f =
    absurd (let g = ap (unit_at begun) (sym a ∙ b.3) ∙ unit_again begun v b.0 b.1 b.2 in cc)
one_split begun stream (u ∷ us) [] rest more s t a e b f =
    absurd (let g = ap (unit_at begun) (sym b ∙ a.3) ∙ unit_again begun u a.0 a.1 a.2 in cc)
one_split begun stream (u ∷ us) (v ∷ vs) rest more s t a e b f =
    let g : reads (u, a.1) ≡ reads (v, b.1) = sym (unit_again begun u a.0 a.1 a.2) ∙ ap (unit_at begun) (sym a.3 ∙ b.3) ∙ unit_again begun v b.0 b.1 b.2 in
    let p : (u, a.1) ≡ (v, b.1) = ok_is (u, a.1) (v, b.1) g in
    let same_unit : u ≡ v = ap (λ (q : Tpdu × List ℕ). q.0) p in
    let same_rest : a.1 ≡ b.1 = ap (λ (q : Tpdu × List ℕ). q.1) p in
    let w : Splits (begun_after begun v) b.1 us rest = subst (λ (q : Tpdu × List ℕ). Splits (begun_after begun q.0) q.1 us rest) p a.4 in
    let x : unit_at (begun_by (begun_after begun v) us) rest ≡ Err s = subst (λ (q : Tpdu). unit_at (begun_by (begun_after begun q) us) rest ≡ Err s) same_unit e in
    let rest_same = one_split (begun_after begun v) b.1 us vs rest more s t w x b.4 f in
    (ap (λ q. q ∷ us) same_unit ∙ ap (λ (qs : List Tpdu). v ∷ qs) rest_same.0, rest_same.1)

-- what is faulty begins no packet
pub no_packet : (begun xs ys more : List ℕ) (o : ℕ) (k : Kind) (u : Tpdu) (unit : List ℕ) → unit_at begun xs ≡ Err (At o k) → IsUnit begun u unit → xs ++ ys ≡ packet unit ++ more → ⊥
no_packet begun xs ys more o k u unit e is whole =
    let a = unit_stays begun xs ys o k e in
    let b = ap (unit_at begun) whole ∙ unit_again begun u unit more is in
    cc

-- ---- one of three

abbrev front_read : Tpdu × List ℕ → Result (Tpdu × List ℕ) Stop
front_read p = Ok p

abbrev front_stopped : Stop → Result (Tpdu × List ℕ) Stop
front_stopped s = Err s

in_front_is_read : (begun xs : List ℕ) (s : Stop) → IsInFront begun xs → unit_at begun xs ≡ Err s → ⊥
in_front_is_read begun xs s f e = (let h : front_read (f.0, f.1.1) ≡ front_stopped s = sym (ap (unit_at begun) f.1.3 ∙ unit_again begun f.0 f.1.0 f.1.1 f.1.2) ∙ e in cc)

pub one_of_three : (begun xs : List ℕ) → AreOctets xs → OneHolds begun xs
one_of_three begun xs fits = go (unit_at begun xs) refl
  where
    go : (r : Result (Tpdu × List ℕ) Stop) → unit_at begun xs ≡ r → OneHolds begun xs
    go (Ok p) e = (let f = unit_found begun xs p.0 p.1 fits e in let there : IsInFront begun xs = (p.0, (f.0, p.1, f.1, f.2)) in inl (there, λ s h. in_front_is_read begun xs s there h))
    go (Err (At o k)) e = inr (inl ((λ f. in_front_is_read begun xs (At o k) f e), (o, (k, e))))
    go (Err Short) e = inr (inr ((λ f. in_front_is_read begun xs Short f e), e))

-- ---- any cutting

abbrev comes : ℕ → Bool → List ℕ → ℕ → ReaderState
comes left last tsdu place = record { unread = []; tsdu = tsdu; coming = Some (record { left = left; last = last }); place = place; fault = None }

-- packets handed up before
abbrev before : List Packet → ReaderProgress → ReaderProgress
before ps f = record { packets = ps ++ f.packets; held = f.held }

closed_before : (last : Bool) (ps qs : List Packet) (tsdu : List ℕ) (place : ℕ) → closed last (ps ++ qs) tsdu place ≡ before ps (closed last qs tsdu place)
closed_before true ps qs tsdu place = ap (λ (rs : List Packet). fed rs (between [] place)) (append_assoc ps qs (Tsdu tsdu ∷ []))
closed_before false ps qs tsdu place = refl

opened_before : (left : ℕ) (last : Bool) (ps qs : List Packet) (tsdu : List ℕ) (place : ℕ) → opened left last (ps ++ qs) tsdu place ≡ before ps (opened left last qs tsdu place)
opened_before left last ps qs tsdu place = by_test (left == 0)
  where
    by_test : (b : Bool) → cond b (closed last (ps ++ qs) tsdu place) (fed (ps ++ qs) (comes left last tsdu place)) ≡ before ps (cond b (closed last qs tsdu place) (fed qs (comes left last tsdu place)))
    by_test true = closed_before last ps qs tsdu place
    by_test false = refl

judged_before : (read : Result Header Stop) (ps qs : List Packet) (tsdu : List ℕ) (place : ℕ) (unread : List ℕ) → judged read (ps ++ qs) tsdu place unread ≡ before ps (judged read qs tsdu place unread)
judged_before (Err Short) ps qs tsdu place unread = refl
judged_before (Err (At o k)) ps qs tsdu place unread = refl
judged_before (Ok (Control p)) ps qs tsdu place unread = ap (λ (rs : List Packet). fed rs (between tsdu (on place (length unread)))) (append_assoc ps qs (p ∷ []))
judged_before (Ok (Data left last)) ps qs tsdu place unread = opened_before left last ps qs tsdu (on place (length unread))

taken_before : (fault : Option TFault) (coming : Option Coming) (ps : List Packet) (f : ReaderProgress) (x : ℕ) → taken fault coming (before ps f) x ≡ before ps (taken fault coming f x)
taken_before (Some g) coming ps f x = refl
taken_before None (Some c) ps f x = opened_before (c.left - 1) c.last ps f.packets (f.held.tsdu ++ x ∷ []) (on f.held.place 1)
taken_before None None ps f x = judged_before (header_at (length f.held.tsdu) (f.held.unread ++ x ∷ [])) ps f.packets f.held.tsdu f.held.place (f.held.unread ++ x ∷ [])

after_before : (ps : List Packet) (f : ReaderProgress) (xs : List ℕ) → after (before ps f) xs ≡ before ps (after f xs)
unfolding after
after_before ps f [] = refl
after_before ps f (x ∷ xs) = ap (λ g. after g xs) (taken_before f.held.fault f.held.coming ps f x) ∙ after_before ps (taken f.held.fault f.held.coming f x) xs

pub any_cut : (held : ReaderState) (xs ys : List ℕ) → reading held (xs ++ ys) ≡ fed ((reading held xs).packets ++ (reading (reading held xs).held ys).packets) (reading (reading held xs).held ys).held
any_cut held xs ys =
    let f = reading held xs in
    let whole : before f.packets (fed [] f.held) ≡ f = ap (λ (ps : List Packet). fed ps f.held) (append-nil f.packets) in
    after-append (fed [] held) xs ys ∙ ap (λ g. after g ys) (sym whole) ∙ after_before f.packets (fed [] f.held) ys

-- a reader to which nothing came
pub nothing_read : reading nothing [] ≡ fed [] nothing
unfolding after
nothing_read = refl

-- what a reader makes of a stream and then of more octets
pub goes_on : (stream more : List ℕ) (given packets : List Packet) (old new : ReaderState) → reading nothing stream ≡ fed given old → reading old more ≡ fed packets new
    → reading nothing (stream ++ more) ≡ fed (given ++ packets) new
goes_on stream more given packets old new a b =
    any_cut nothing stream more
    ∙ ap (λ (f : ReaderProgress). fed (f.packets ++ (reading f.held more).packets) (reading f.held more).held) a
    ∙ ap (λ (f : ReaderProgress). fed (given ++ f.packets) f.held) b

-- ---- one feed

-- all feeds together give the packets of the stream, and its fault
pub feed_goes_on : (came bytes : List ℕ) (given packets : List Packet) (old : Option ReaderState) (held new : ReaderState) → old ≡ Some held → reading held bytes ≡ fed packets new → HasRead came given old
    → reading nothing (came ++ bytes) ≡ fed (given ++ packets) new
feed_goes_on came bytes given packets old held new is now came_so = goes_on came bytes given packets held new (subst (HasRead came given) is came_so) now

pub feed_all : (came bytes : List ℕ) (given packets : List Packet) (old : Option ReaderState) (held new : ReaderState) → AreOctets came → AreOctets bytes → old ≡ Some held → reading held bytes ≡ fed packets new
    → HasRead came given old → ReadsAsPackets (came ++ bytes) (given ++ packets) new.fault
feed_all came bytes given packets old held new fits more is now came_so =
    subst (λ (f : ReaderProgress). ReadsAsPackets (came ++ bytes) f.packets f.held.fault) (feed_goes_on came bytes given packets old held new is now came_so)
    (stream_read (came ++ bytes) (octets_join came bytes fits more))

some_is : (a b : ReaderState) (o : Option ReaderState) → o ≡ Some a → o ≡ Some b → a ≡ b
some_is a b o e f = (let g : Some a ≡ Some b = sym e ∙ f in cc)

-- after a fault nothing changes
pub feed_again : (bytes : List ℕ) (packets : List Packet) (old : Option ReaderState) (held new was : ReaderState) (fault : TFault) → old ≡ Some held → reading held bytes ≡ fed packets new
    → old ≡ Some was → was.fault ≡ Some fault → (packets ≡ []) × (new.fault ≡ Some fault) × (Some new ≡ old)
feed_again bytes packets old held new was fault is now e bad =
    let same : held ≡ was = some_is held was old is e in
    let right : held.fault ≡ Some fault = ap (λ (h : ReaderState). h.fault) same ∙ bad in
    let f : fed packets new ≡ fed [] held = sym now ∙ after_fault (fed [] held) fault bytes right in
    let next : new ≡ held = ap (λ (f : ReaderProgress). f.held) f in
    (ap (λ (f : ReaderProgress). f.packets) f, ap (λ (h : ReaderState). h.fault) next ∙ right, ap (λ (h : ReaderState). Some h) next ∙ sym is)

stopped : (r : Result (Tpdu × List ℕ) Stop) (start : ℕ) (fault : Option TFault) → IsStop r start fault → (s : Stop) × (r ≡ Err s)
stopped (Ok p) start fault e = absurd e
stopped (Err s) start fault e = (s, refl)

quiet : (r : Result (Tpdu × List ℕ) Stop) (start : ℕ) (fault : Option TFault) → r ≡ Err Short → IsStop r start fault → fault ≡ None
quiet (Ok p) start fault e s = absurd s
quiet (Err Short) start None e s = refl
quiet (Err Short) start (Some f) e s = absurd s
quiet (Err (At o k)) start fault e s = absurd cc

-- a stream that is split, with less than a unit left, is read so
pub split_read : (stream : List ℕ) (us : List Tpdu) (rest : List ℕ) → AreOctets stream → Splits [] stream us rest → unit_at (begun_by [] us) rest ≡ Err Short
    → ((reading nothing stream).packets ≡ handed [] us) × ((reading nothing stream).held.fault ≡ None)
split_read stream us rest fits s short =
    let r = stream_read stream fits in
    let e = stopped (unit_at (begun_by [] r.units) r.rest) r.start (reading nothing stream).held.fault r.stop in
    let one = one_split [] stream us r.units rest r.rest Short e.0 s short r.splits e.1 in
    let here : unit_at (begun_by [] r.units) r.rest ≡ Err Short = subst (λ (q : List Tpdu × List ℕ). unit_at (begun_by [] q.0) q.1 ≡ Err Short) (ap (λ vs. (vs, rest)) one.0 ∙ ap (λ (t : List ℕ). (r.units, t)) one.1) short in
    (r.hands ∙ ap (handed []) (sym one.0), quiet (unit_at (begun_by [] r.units) r.rest) r.start (reading nothing stream).held.fault here r.stop)

-- ---- a packet is whole with its last octet, and not before

rest_of : Result (Tpdu × List ℕ) Stop → List ℕ
rest_of (Ok p) = p.1
rest_of (Err s) = []

nothing_left : (u v : Tpdu) (more : List ℕ) → reads (u, []) ≡ reads (v, more) → length more ≡ 0
unfolding rest_of
nothing_left u v more e = ap (λ r. length (rest_of r)) (sym e)

-- a beginning of a packet is less than one
pub less_than_a_packet : (begun : List ℕ) (u : Tpdu) (unit xs ys : List ℕ) → AreOctets xs → IsUnit begun u unit → packet unit ≡ xs ++ ys → 0 < length ys → unit_at begun xs ≡ Err Short
less_than_a_packet begun u unit xs ys fits is whole some = go (unit_at begun xs) refl
  where
    go : (r : Result (Tpdu × List ℕ) Stop) → unit_at begun xs ≡ r → unit_at begun xs ≡ Err Short
    go (Err Short) e = e
    go (Err (At o k)) e = absurd (no_packet begun xs ys [] o k u unit e is (sym whole ∙ sym (append-nil (packet unit))))
    go (Ok p) e =
        let f = unit_found begun xs p.0 p.1 fits e in
        let one : unit_at begun (packet unit) ≡ Ok (u, []) = ap (unit_at begun) (sym (append-nil (packet unit))) ∙ unit_again begun u unit [] is in
        let other : unit_at begun (packet unit) ≡ Ok (p.0, p.1 ++ ys) = ap (unit_at begun) (whole ∙ ap (λ (t : List ℕ). t ++ ys) f.2 ∙ append_assoc (packet f.0) p.1 ys) ∙ unit_again begun p.0 f.0 (p.1 ++ ys) f.1 in
        let none : length (p.1 ++ ys) ≡ 0 = nothing_left u p.0 (p.1 ++ ys) (sym one ∙ other) in
        absurd (omega (arith, none, length-append p.1 ys, some))

pub up_with_its_last_octet : (came bytes : List ℕ) (us : List Tpdu) (rest : List ℕ) (u : Tpdu) (unit : List ℕ) → AreOctets (came ++ bytes) → Splits [] came us rest → IsUnit (begun_by [] us) u unit
    → packet unit ≡ rest ++ bytes → 0 < length bytes
    → ((reading nothing came).packets ≡ handed [] us) × ((reading nothing (came ++ bytes)).packets ≡ handed [] us ++ handed_for (begun_by [] us) u)
up_with_its_last_octet came bytes us rest u unit fits s is whole some =
    let here = octets_left came bytes fits in
    let yet = less_than_a_packet (begun_by [] us) u unit rest bytes (octets-left [] came us rest s here) is whole some in
    let more : Splits [] (came ++ bytes) (us ++ u ∷ []) [] = Splits-snoc [] (came ++ bytes) us (rest ++ bytes) u unit [] (Splits-more [] came us rest bytes s) is (sym whole ∙ sym (append-nil (packet unit))) in
    let all = split_read (came ++ bytes) (us ++ u ∷ []) [] fits more (short_yet (begun_by [] (us ++ u ∷ [])) [] (short_empty _)) in
    ((split_read came us rest here s yet).0, all.0 ∙ handed-snoc [] us u)

-- ---- streams one after the other

pub splits_join : (begun xs ys : List ℕ) (us vs : List Tpdu) (rest : List ℕ) → Splits begun xs us [] → Splits (begun_by begun us) ys vs rest → Splits begun (xs ++ ys) (us ++ vs) rest
splits_join begun xs ys [] vs rest a b = subst (λ (t : List ℕ). Splits begun (t ++ ys) vs rest) (sym a) b
splits_join begun xs ys (u ∷ us) vs rest a b =
    (a.0, a.1 ++ ys, a.2, ap (λ (t : List ℕ). t ++ ys) a.3 ∙ append_assoc (packet a.0) a.1 ys, splits_join (begun_after begun u) a.1 ys us vs rest a.4 b)

pub handed_join : (begun : List ℕ) (us vs : List Tpdu) → handed begun (us ++ vs) ≡ handed begun us ++ handed (begun_by begun us) vs
handed_join begun [] vs = refl
handed_join begun (u ∷ us) vs = ap (λ (ps : List Packet). handed_for begun u ++ ps) (handed_join (begun_after begun u) us vs) ∙ sym (append_assoc (handed_for begun u) (handed (begun_after begun u) us) (handed (begun_by (begun_after begun u) us) vs))
