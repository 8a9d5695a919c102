use Rattle.std.proofs.lemmas.Result.{IfOk-weaker}
use Rattle.replays.proofs.associated.run_ends.Goals as goal

pub returns : goal.returns
returns c =
    IfOk-weaker c.run_world-told.result _ _
    (λ transcript runs. record { a_after = c.run_world-told.new.a; b_after = c.run_world-told.new.b; runs = runs })
    c.run_world-told.ensures
