use Rattle.std.proofs.Common.{◌≡◌, false, true, arith, ◌<◌, length}
use Rattle.ber_spelling.specs.Rules.{stands}
use Rattle.ber_reading.proofs.Slots.{filled_step, filled_none}
use Rattle.ber_reading.proofs.parts.is_filled.Goals as goal

pub returns-then-not-stands : goal.returns-then-not-stands
returns-then-not-stands c =
    let s : stands c.index-parts-index.result c.index-found-index.result ≡ false = cc in
    let e = c.requires in
    let lt : c.loop-index.index < length c.args.found.now = omega arith in
    filled_step c.args.parts.now c.args.found.now c.loop-index.index c.index-parts-index.result c.index-found-index.result false _ c.loop-index-test.true lt c.index-parts-index.is c.index-found-index.is s c.loop-index.invariant

pub loop-index-preserved : goal.loop-index-preserved
loop-index-preserved c =
    let s : stands c.index-parts-index.result c.index-found-index.result ≡ true = cc in
    let e = c.requires in
    let lt : c.loop-index.index < length c.args.found.now = omega arith in
    filled_step c.args.parts.now c.args.found.now c.loop-index.index c.index-parts-index.result c.index-found-index.result true _ c.loop-index-test.true lt c.index-parts-index.is c.index-found-index.is s c.loop-index.invariant

pub returns : goal.returns
returns c = filled_none c.args.parts.now c.args.found.now c.loop-index.index _ (omega arith) c.loop-index.invariant
