use Rattle.std.proofs.Common.{ℕ, List, sym, ap, ◌∙◌}
use Rattle.presentation_pdus.specs.Units.{ppdu_at}
use Rattle.trace_units.proofs.SaidLaws.{put_ok}
use Rattle.trace_units.proofs.said_units.Viewer.put_octets.Goals as goal

pub returns-in_ok-put_unit-in-Ok : goal.returns-in_ok-put_unit-in-Ok
returns-in_ok-put_unit-in-Ok c =
    put_ok c.args.self.now.tables.now c.args.start (ppdu_at c.args.carrier c.args.octets.now) c.in-Ok.unit c.args.text.now c.put_unit.new.text
    (ap (λ (l : List ℕ). ppdu_at c.args.carrier l) (sym c.as_slice.ensures) ∙ c.in-Ok.ensures) c.in_ok-put_unit-in-Ok.ensures
