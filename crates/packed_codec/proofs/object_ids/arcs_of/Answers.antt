use Rattle.std.proofs.Common.{◌≡◌, ◌≤◌, ◌<◌, false, get_or, sym, ◌∙◌, arith}
use Rattle.std.specs.Prelude.{nat_eq, not, ◌&&◌}
use Rattle.std.proofs.lemmas.Bool.{le-leb, lt-leb}
use Rattle.ber_spelling.specs.Primitives.{arcs_of}
use Rattle.packed_codec.proofs.Arcs.{reads_last, reads_none, reads_more, reads_end, not_true, not_false}
use Rattle.packed_codec.proofs.object_ids.arcs_of.Goals as goal
use Rattle.packed_codec.proofs.object_ids.arcs_of.Goals.{then-not-begun+in_ok-push_arcs+else-not-branch, else-not-begun}

pub returns-then-not-branch : goal.returns-then-not-branch
returns-then-not-branch c =
    let i = c.loop-digit.digit-index in
    let low : get_or c.args.octets.now i 0 < 128 = c.if-not-begun.true in
    reads_none c.args.octets.now i c.loop-digit.number c.min-number.result c.loop-digit.begun c.in_ok-push_arcs.field-0 c.loop-digit.arcs.items c.push_arcs.new.arcs.items (arcs_of c.args.octets.now)
    c.loop-digit-test.true low c.min-number.ensures (not_false c.in_ok-push_arcs.field-0 c.if-not-branch.true) c.in_ok-push_arcs.ensures c.loop-digit.invariant.so_far

pub loop-digit-preserved : goal.loop-digit-preserved
loop-digit-preserved c =
    let i = c.loop-digit.digit-index in
    let os = c.args.octets.now in
    let byte : get_or os i 0 < 256 = omega (arith, c.type_inv.octets i) in
    elim c.if-not-begun.branch [
      | then-not-begun+in_ok-push_arcs+else-not-branch w ↦
          let low : get_or os i 0 < 128 = w.if-not-begun.true in
          record {
            small = omega arith;
            so_far = rw (w.arcs-is, w.number-is, lt-leb 128 (get_or os i 0) low)
                (reads_last os i c.loop-digit.number c.min-number.result c.loop-digit.begun w.in_ok-push_arcs.field-0 c.loop-digit.arcs.items w.push_arcs.new.arcs.items (arcs_of os) c.loop-digit-test.true low c.min-number.ensures (not_true w.in_ok-push_arcs.field-0 w.if-not-branch.false) w.in_ok-push_arcs.ensures c.loop-digit.invariant.so_far);
          }
      | else-not-begun w ↦
          let high : 128 ≤ get_or os i 0 = w.if-not-begun.false in
          let free : (nat_eq (get_or os i 0) 128 && not c.loop-digit.begun) ≡ false = sym c.is_leading_zero.ensures ∙ c.if-is_leading_zero.false in
          record {
            small = omega arith;
            so_far = rw (w.arcs-is, w.number-is, le-leb 128 (get_or os i 0) high)
                (reads_more os i c.loop-digit.number c.min-number.result c.loop-digit.begun c.loop-digit.arcs.items (arcs_of os) c.loop-digit-test.true byte high c.min-number.ensures free c.loop-digit.invariant.so_far);
          }
    ]

pub returns : goal.returns
returns c =
    reads_end c.args.octets.now c.loop-digit.digit-index c.loop-digit.number c.loop-digit.arcs.items c.oid_of.result (arcs_of c.args.octets.now) (omega arith) c.oid_of.ensures (rw (← c.if-begun.false) c.loop-digit.invariant.so_far)
