-- APDUs of reliable transfer and their octets stand for each other.
use Rattle.std.proofs.Common.{◌≡◌, ℕ, ◌^◌, ◌≤◌, ◌<◌, Bool, true, false, ◌&&◌, cond, List, Result, Ok, Err, refl, ap, ◌∙◌, arith}
use Rattle.std.specs.Prelude.{pos, nat_lt, slice_index, nat_eq, ◌||◌}
use Rattle.std.proofs.lemmas.Bool.{and_parts, ltb-true, leb-true, lt-ltb}
use Rattle.osi_base.specs.declared.rtse_word.ConnectionData.TheVariants as connection
use Rattle.osi_base.specs.declared.rtse_word.Rtse as apdus
use Rattle.osi_base.specs.declared.rtse_word.Rtse.TheVariants as apdu
use Rattle.asn1_types.specs.Fits.{has_form, is_number}
use Rattle.asn1_types.specs.Value.{Value}
use Rattle.asn1_types.specs.Whole.{is_whole}
use Rattle.ber_spelling.proofs.Wholes.{whole_is}
use Rattle.ber_spelling.proofs.Written.{written_spelled}
use Rattle.fixed_tables.specs.declared.pdu.PduFault as units
use Rattle.fixed_tables.specs.Values.{natural_in}
use Rattle.fixed_tables.specs.Whole.{whole_at}
use Rattle.fixed_tables.proofs.Numbers.{natural_fits, number_fits}
use Rattle.fixed_tables.proofs.WholeLaws.{whole_is_spelled, spelled_is_whole}
use Rattle.rtse_apdus.specs.Rows.{rtse_row, rtse_rows}
use Rattle.rtse_apdus.specs.Words.{apdu_in, value_of}
use Rattle.rtse_apdus.specs.Reading.{SpellsRtse, limit_of, of_value}
use Rattle.rtse_apdus.specs.Written.{are_octets, can_write, written_rtse}
use Rattle.rtse_apdus.specs.Laws.{RtseIsSpelled, SpelledRtseIsRead, WrittenRtseIsRead}
use Rattle.rtse_apdus.proofs.Added.{rtse_sound}

pub rtse_is_spelled : RtseIsSpelled
rtse_is_spelled apdu octets are e = by_read (whole_at rtse_rows rtse_row (limit_of octets) octets) refl e
  where
    by_read : (r : Result Value units.PduFault) → whole_at rtse_rows rtse_row (limit_of octets) octets ≡ r → of_value r ≡ Ok apdu → SpellsRtse apdu octets
    by_read (Ok v) h e = record {
      value = v;
      spelled = whole_is_spelled rtse_rows rtse_row (limit_of octets) octets v are h;
      says = cc;
    }
    by_read (Err f) h e = absurd cc

pub spelled_rtse_is_read : SpelledRtseIsRead
spelled_rtse_is_read apdu octets p =
    ap of_value (spelled_is_whole rtse_rows rtse_row (limit_of octets) octets p.value rtse_sound p.spelled) ∙ ap (λ (x : apdus.Rtse). Ok x) p.says

-- ---- what may be written fits

small_fits : (n : ℕ) → nat_lt n 256 ≡ true → n ≤ 255
small_fits n h = let lt = ltb-true n 256 h in omega arith

pub writable_fits : (a : apdus.Rtse) → can_write a ≡ true → has_form rtse_rows rtse_row (value_of a) ≡ true
unfolding has_form
writable_fits (apdu.OpenRequest checkpoint window mode (connection.Open value)) h =
    let p = and_parts (nat_lt checkpoint 256 && nat_lt window 256 && is_number mode) (is_whole value) h in
    let q = and_parts (nat_lt checkpoint 256 && nat_lt window 256) (is_number mode) p.0 in
    let r = and_parts (nat_lt checkpoint 256) (nat_lt window 256) q.0 in
    rw (natural_fits 255 checkpoint (small_fits checkpoint r.0) (omega arith), natural_fits 255 window (small_fits window r.1) (omega arith), number_fits mode q.1, p.1) refl
writable_fits (apdu.OpenRequest checkpoint window mode (connection.Recover reference common)) h =
    let p = and_parts (nat_lt checkpoint 256 && nat_lt window 256 && is_number mode) (are_octets reference && are_octets common) h in
    let q = and_parts (nat_lt checkpoint 256 && nat_lt window 256) (is_number mode) p.0 in
    let r = and_parts (nat_lt checkpoint 256) (nat_lt window 256) q.0 in
    let o = and_parts (are_octets reference) (are_octets common) p.1 in
    rw (natural_fits 255 checkpoint (small_fits checkpoint r.0) (omega arith), natural_fits 255 window (small_fits window r.1) (omega arith), number_fits mode q.1, o.0, o.1) refl
writable_fits (apdu.OpenAccept checkpoint window (connection.Open value)) h =
    let p = and_parts (nat_lt checkpoint 256 && nat_lt window 256) (is_whole value) h in
    let r = and_parts (nat_lt checkpoint 256) (nat_lt window 256) p.0 in
    rw (natural_fits 255 checkpoint (small_fits checkpoint r.0) (omega arith), natural_fits 255 window (small_fits window r.1) (omega arith), p.1) refl
writable_fits (apdu.OpenAccept checkpoint window (connection.Recover reference common)) h =
    let p = and_parts (nat_lt checkpoint 256 && nat_lt window 256) (are_octets reference && are_octets common) h in
    let r = and_parts (nat_lt checkpoint 256) (nat_lt window 256) p.0 in
    let o = and_parts (are_octets reference) (are_octets common) p.1 in
    rw (natural_fits 255 checkpoint (small_fits checkpoint r.0) (omega arith), natural_fits 255 window (small_fits window r.1) (omega arith), o.0, o.1) refl
writable_fits (apdu.OpenReject reason) h = rw (number_fits reason h) refl
writable_fits (apdu.Abort reason) h = rw (number_fits reason h) refl
writable_fits (apdu.TurnPlease priority) h =
    let lt = leb-true priority 4294967295 h in
    natural_fits 4294967295 priority (omega arith) (omega arith)
writable_fits (apdu.Transfer os) h = h

-- ---- what is written says the APDU

natural_is : (n : ℕ) → n < 2 ^ 32 → natural_in (pos n) ≡ n
natural_is n lt = rw (lt-ltb n (2 ^ 32) lt) refl

small_is : (n : ℕ) → nat_lt n 256 ≡ true → natural_in (pos n) ≡ n
small_is n h = let lt = ltb-true n 256 h in natural_is n (omega arith)

pub writable_says : (a : apdus.Rtse) → can_write a ≡ true → apdu_in (value_of a) ≡ a
writable_says (apdu.OpenRequest checkpoint window mode (connection.Open value)) h =
    let p = and_parts (nat_lt checkpoint 256 && nat_lt window 256 && is_number mode) (is_whole value) h in
    let q = and_parts (nat_lt checkpoint 256 && nat_lt window 256) (is_number mode) p.0 in
    let r = and_parts (nat_lt checkpoint 256) (nat_lt window 256) q.0 in
    rw (small_is checkpoint r.0, small_is window r.1) refl
writable_says (apdu.OpenRequest checkpoint window mode (connection.Recover reference common)) h =
    let p = and_parts (nat_lt checkpoint 256 && nat_lt window 256 && is_number mode) (are_octets reference && are_octets common) h in
    let q = and_parts (nat_lt checkpoint 256 && nat_lt window 256) (is_number mode) p.0 in
    let r = and_parts (nat_lt checkpoint 256) (nat_lt window 256) q.0 in
    rw (small_is checkpoint r.0, small_is window r.1) refl
writable_says (apdu.OpenAccept checkpoint window (connection.Open value)) h =
    let p = and_parts (nat_lt checkpoint 256 && nat_lt window 256) (is_whole value) h in
    let r = and_parts (nat_lt checkpoint 256) (nat_lt window 256) p.0 in
    rw (small_is checkpoint r.0, small_is window r.1) refl
writable_says (apdu.OpenAccept checkpoint window (connection.Recover reference common)) h =
    let p = and_parts (nat_lt checkpoint 256 && nat_lt window 256) (are_octets reference && are_octets common) h in
    let r = and_parts (nat_lt checkpoint 256) (nat_lt window 256) p.0 in
    rw (small_is checkpoint r.0, small_is window r.1) refl
writable_says (apdu.OpenReject reason) h = refl
writable_says (apdu.Abort reason) h = refl
writable_says (apdu.TurnPlease priority) h =
    let lt = leb-true priority 4294967295 h in
    rw (natural_is priority (omega arith)) refl
writable_says (apdu.Transfer os) h = refl

limit_small : (octets : List ℕ) → limit_of octets < 2 ^ 64
limit_small octets = by_test (nat_eq (slice_index octets 0) 4 || nat_eq (slice_index octets 0) 36)
  where
    by_test : (b : Bool) → cond b 1048576 262144 < 2 ^ 64
    by_test true = omega arith
    by_test false = omega arith

pub written_rtse_is_read : WrittenRtseIsRead
written_rtse_is_read a w =
    let octets : List ℕ = written_rtse a in
    let spells : SpellsRtse a octets = record {
      value = value_of a;
      spelled = written_spelled whole_is rtse_rows rtse_sound rtse_row (value_of a) (writable_fits a w.can) false (limit_of octets) (limit_small octets) w.within;
      says = writable_says a w.can;
    } in
    (spells, spelled_rtse_is_read a octets spells)
