use Rattle.std.proofs.Common.{List, subst}
use Rattle.tpkt.specs.declared.packet.Packet.{Packet}
use Rattle.trace_text.specs.ShownSoFar.{AllPut}
use Rattle.trace_text.proofs.ShownLaws.{over_shown, fed_shown}
use Rattle.trace_text.proofs.direction.Direction.show.Goals as goal

pub returns-then-self : goal.returns-then-self
returns-then-self c = λ sent s. over_shown c.args.viewer.now.tables.now c.args.from sent c.args.octets.now c.args.text.now c.args.self.now c.if-self.true s

pub returns : goal.returns
returns c =
    λ sent s. fed_shown c.args.viewer.now.tables.now c.args.from sent c.args.octets.now c.args.self.now c.feed.new.self c.in_ok-fed.fed c.in_ok-self.field-0 c.args.text.now c.put_all.new.text
    c.if-self.false s c.in_ok-fed.ensures.ok (λ given. c.in_ok-fed.ensures.goes_on sent given)
    (subst (λ (l : List Packet). AllPut c.args.viewer.now.tables.now c.args.from l c.in_ok-fed.fed.fault c.in_ok-self.field-0 c.args.text.now c.put_all.new.text) c.as_slice.ensures c.in_ok-self.ensures)
