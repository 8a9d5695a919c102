use Rattle.std.proofs.Common.{true}
use Rattle.trace_text.proofs.SaidLaws.{put_first, put_over, put_end}
use Rattle.trace_text.proofs.direction.put_all.Goals as goal

pub returns-then-branch : goal.returns-then-branch
returns-then-branch c =
    c.loop-packet.invariant true c.put_packet.new.text
    (put_over c.args.viewer.now.tables.now c.args.from c.loop-packet.rest.now c.in-Some.more.now c.in-Some.packet.now c.args.stop c.in_ok-put_packet.field-0 c.loop-packet.text c.put_packet.new.text
    c.in-Some.ensures c.if-branch.true c.in_ok-put_packet.ensures)

pub loop-packet-preserved : goal.loop-packet-preserved
loop-packet-preserved c =
    λ over after p. c.loop-packet.invariant over after
    (put_first c.args.viewer.now.tables.now c.args.from c.loop-packet.rest.now c.in-Some.more.now c.in-Some.packet.now c.args.stop over c.in_ok-put_packet.field-0 c.loop-packet.text
    c.put_packet.new.text after c.in-Some.ensures c.if-branch.false c.in_ok-put_packet.ensures p)

pub returns : goal.returns
returns c =
    c.loop-packet.invariant c.in_ok-over.over c.put_stop.new.text
    (put_end c.args.viewer.now.tables.now c.args.from c.loop-packet.rest.now c.args.stop c.in_ok-over.over c.loop-packet.text c.put_stop.new.text c.in_default.ensures c.in_ok-over.ensures)
