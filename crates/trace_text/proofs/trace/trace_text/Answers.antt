use Rattle.std.proofs.Common.{ℕ, List, sym, subst}
use Rattle.stub_tables.specs.declared.tables.Tables.{Tables}
use Rattle.trace_text.specs.Trace.{nothing_sent, TraceTextOf}
use Rattle.trace_text.proofs.ShownLaws.{first_records, next_record, no_more_records}
use Rattle.trace_text.proofs.trace.trace_text.Goals as goal

pub loop-recorded-init : goal.loop-recorded-init
loop-recorded-init c = (
  nothing_sent,
  c.new-directions.ensures c.in_ok-viewer.viewer.tables.now,
  first_records c.in_ok-viewer.viewer.tables.now c.args.recording.now c.as_slice-rest.result.now c.new-text.result c.as_slice-rest.ensures c.new-text.ensures,
)

pub loop-recorded-preserved : goal.loop-recorded-preserved
loop-recorded-preserved c =
    next_record c.in_ok-viewer.viewer.tables.now c.args.recording.now c.loop-recorded.rest.now c.in-Some.more.now c.in-Some.recorded.now c.loop-recorded.directions c.show.new.self c.loop-recorded.text
    c.show.new.text c.in-Some.ensures c.in_ok-show.ensures c.loop-recorded.invariant

pub returns : goal.returns
returns c =
    let shown =
    no_more_records c.in_ok-viewer.viewer.tables.now c.args.recording.now c.loop-recorded.rest.now c.loop-recorded.directions c.loop-recorded.text c.in_default.ensures c.loop-recorded.invariant in
    subst (λ (x : List ℕ). TraceTextOf c.args.tables.now c.args.recording.now x) (sym c.into_octets.ensures)
    (subst (λ (t : Tables). TraceTextOf t c.args.recording.now c.loop-recorded.text) c.in_ok-viewer.ensures shown)
