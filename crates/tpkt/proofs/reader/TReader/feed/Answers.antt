use Rattle.std.proofs.Common.{◌≡◌, Some, arith, rules}
use Rattle.tpkt.specs.Reader.{reading}
use Rattle.tpkt.proofs.ReaderLaws.{kept}
use Rattle.tpkt.proofs.StreamLaws.{fed, feed_all, feed_goes_on, feed_again}
use Rattle.tpkt.proofs.reader.TReader.feed.Goals as goal

pub returns-clause-all : goal.returns-clause-all
returns-clause-all c = λ came given fits came_so.
    let is : c.args.self.now ≡ Some c.in-Some.held = search rules in
    let now : reading c.in-Some.held c.args.bytes.now ≡ fed c.all_taken.new.packets c.in_ok-held.held = search rules in
    feed_all came c.args.bytes.now given c.all_taken.new.packets c.args.self.now c.in-Some.held c.in_ok-held.held fits (record { each = λ i. omega (arith, c.type_inv.bytes i) }) is now came_so

pub returns-clause-goes_on : goal.returns-clause-goes_on
returns-clause-goes_on c = λ came given came_so.
    let is : c.args.self.now ≡ Some c.in-Some.held = search rules in
    let now : reading c.in-Some.held c.args.bytes.now ≡ fed c.all_taken.new.packets c.in_ok-held.held = search rules in
    feed_goes_on came c.args.bytes.now given c.all_taken.new.packets c.args.self.now c.in-Some.held c.in_ok-held.held is now came_so

pub returns-clause-again : goal.returns-clause-again
returns-clause-again c = λ was fault e bad.
    let is : c.args.self.now ≡ Some c.in-Some.held = search rules in
    let now : reading c.in-Some.held c.args.bytes.now ≡ fed c.all_taken.new.packets c.in_ok-held.held = search rules in
    feed_again c.args.bytes.now c.all_taken.new.packets c.args.self.now c.in-Some.held c.in_ok-held.held was fault is now e bad

pub returns-clause-kept : goal.returns-clause-kept
returns-clause-kept c = kept c.in_ok-held.held c.in_ok-held.ensures.sound
