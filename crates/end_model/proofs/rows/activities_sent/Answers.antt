use Rattle.std.proofs.Common.{refl}
use Rattle.end_model.proofs.rows.activities_sent.Goals as goal

pub returns : goal.returns
returns c = record {
  rows =
      record { interrupt = λ free base body. refl; release = λ mode transport values free base body. refl };
}
