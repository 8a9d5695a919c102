use Rattle.std.proofs.Common.{◌-◌, ◌∙◌, reverse, ap, arith}
use Rattle.std.proofs.lemmas.List.{reverse-append}
use Rattle.osi_base.specs.Lines.{shut_after}
use Rattle.osi_base.proofs.Shuts.{written_out}
use Rattle.osi_base.proofs.call_log.write_shuts.Goals as goal

pub loop-shuts-preserved : goal.loop-shuts-preserved
loop-shuts-preserved c = let left = c.loop-shuts.shuts - 1 in
    ap (λ calls. shut_after left (reverse calls)) c.in_ok-push.ensures.items
    ∙ (ap (λ log. shut_after left log) (reverse-append c.loop-shuts.calls.items _)
    ∙ (written_out c.loop-shuts.shuts (reverse c.loop-shuts.calls.items) (omega (arith, c.loop-shuts-test.true)) ∙ c.loop-shuts.invariant))
