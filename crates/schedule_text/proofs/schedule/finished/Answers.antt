use Rattle.schedule_text.proofs.Settled.{settled_meet}
use Rattle.schedule_text.proofs.schedule.finished.Goals as goal

pub invariant_of-result : goal.invariant_of-result
invariant_of-result c = record { meet = ∣ settled_meet c.args.modes c.args.tables.now c.args.draft.setting c.in_ok-a.a c.in_ok-a.b c.in_ok-a.ensures ∣₁ }
