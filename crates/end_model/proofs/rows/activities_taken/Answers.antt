use Rattle.std.proofs.Common.{refl}
use Rattle.end_model.proofs.rows.activities_taken.Goals as goal

pub returns : goal.returns
returns c = record {
  rows =
      record {
        start = λ activity free base body. refl;
        end_ack = λ number free base body. refl;
        interrupt = λ reason free base body. refl;
        discard = λ reason free base body. refl;
      };
}
