use Rattle.std.proofs.Common.{◌≡◌, ◌+◌, ◌==◌, ℕ, [], length, drop, sym, subst, arith, rules, tests}
use Rattle.std.proofs.lemmas.List.{length_push}
use Rattle.std.proofs.lemmas.Iterator.Consumers.{YieldsList-at, YieldsList-turn, YieldsList-end}
use Rattle.std.proofs.lemmas.Iterator.Splits.{YieldsList-from_slice_split}
use Rattle.std.proofs.lemmas.Result.{err_from_is_err_and}
use Rattle.trace_file.specs.Lines.{lines_of}
use Rattle.trace_file.specs.Reading.{lines_at, put_behind}
use Rattle.trace_file.proofs.Steps.{line_on, line_stops, lines_end}
use Rattle.trace_file.proofs.reading.read_lines.Goals as goal

pub returns-in_err-read_line : goal.returns-in_err-read_line
returns-in_err-read_line c =
    let t = YieldsList-turn (YieldsList-at c.into_iter-line-iterator.ensures.into_iter_gives (YieldsList-from_slice_split _ (λ octet. octet == 10) c.args.text.now c.split-line-items.ensures.rest c.split-line-items.ensures.done c.split-line-items.ensures.closure (λ x b q k. search (rules, tests)))) c.loop-line.yielded _ c.loop-line.yielded_by _ _ c.in-Some.line c.in-Some.is c.next.ensures.steps in
    let p = err_from_is_err_and c.from_residual.result c.from_residual.ensures.1 in
    rw (p.1, p.2) (line_stops c.loop-line.number c.loop-line.told c.in_err-read_line.field-0.0 (lines_of c.args.text.now) (length c.loop-line.yielded) c.in-Some.line.now _ t c.in_err-read_line.ensures c.loop-line.invariant.reads)

pub loop-line-preserved : goal.loop-line-preserved
loop-line-preserved c =
    let t = YieldsList-turn (YieldsList-at c.into_iter-line-iterator.ensures.into_iter_gives (YieldsList-from_slice_split _ (λ octet. octet == 10) c.args.text.now c.split-line-items.ensures.rest c.split-line-items.ensures.done c.split-line-items.ensures.closure (λ x b q k. search (rules, tests)))) c.loop-line.yielded _ c.loop-line.yielded_by _ _ c.in-Some.line c.in-Some.is c.next.ensures.steps in
    let all = lines_of c.args.text.now in
    let whole = lines_at 1 [] all in
    let n = length_push c.loop-line.yielded c.in-Some.line in
    let count = c.loop-line.invariant.counted in
    let next : lines_at (c.loop-line.number + 1) (put_behind c.in_ok-read_line.field-0 c.loop-line.told) (drop (length c.loop-line.yielded + 1) all) ≡ whole =
    line_on c.loop-line.number c.loop-line.told c.in_ok-read_line.field-0 all (length c.loop-line.yielded) c.in-Some.line.now whole t c.in_ok-read_line.ensures c.loop-line.invariant.reads in
    record {
      counted = omega arith;
      reads =
          subst (λ (m : ℕ). lines_at (c.loop-line.number + 1) c.keep.new.told (drop m all) ≡ whole) (sym n)
          (subst (λ told. lines_at (c.loop-line.number + 1) told (drop (length c.loop-line.yielded + 1) all) ≡ whole) (sym c.in_ok-keep.ensures) next);
    }

pub returns : goal.returns
returns c =
    let t = YieldsList-end (YieldsList-at c.into_iter-line-iterator.ensures.into_iter_gives (YieldsList-from_slice_split _ (λ octet. octet == 10) c.args.text.now c.split-line-items.ensures.rest c.split-line-items.ensures.done c.split-line-items.ensures.closure (λ x b q k. search (rules, tests)))) c.loop-line.yielded _ c.loop-line.yielded_by _ _ c.in-None.is c.next.ensures.steps in
    lines_end c.loop-line.number c.loop-line.told (lines_of c.args.text.now) (length c.loop-line.yielded) _ t.1 c.loop-line.invariant.reads
