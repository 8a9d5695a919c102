use Rattle.trace_text.proofs.ShownLaws.{a_shown_if, b_shown_if}
use Rattle.trace_text.proofs.direction.Directions.show.Goals as goal

pub returns-in-A : goal.returns-in-A
returns-in-A c =
    λ sent s. a_shown_if c.show.result c.args.viewer.now.tables.now c.args.recorded.now.from c.args.recorded.now.octets c.as_slice-octets.result.now sent c.show.new.self c.args.self.now c.args.text.now
    c.show.new.text c.in-A.is c.as_slice-octets.ensures s (c.show.ensures sent.a s.0)

pub returns-in-B : goal.returns-in-B
returns-in-B c =
    λ sent s. b_shown_if c.show-in-B.result c.args.viewer.now.tables.now c.args.recorded.now.from c.args.recorded.now.octets c.as_slice-octets.result.now sent c.show-in-B.new.self c.args.self.now
    c.args.text.now c.show-in-B.new.text c.in-B.is c.as_slice-octets.ensures s (c.show-in-B.ensures sent.b s.1)
