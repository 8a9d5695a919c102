use Rattle.std.proofs.Common.{refl}
use Rattle.end_model.proofs.rows.association_taken.Goals as goal

pub returns : goal.returns
returns c = record {
  rows =
      record {
        refuse = λ mode transport reason presentation values free base body. refl;
        finish = λ mode transport values free base body. refl;
        abort = λ mode transport user free base body. refl;
        disconnect = λ mode values free base body. refl;
      };
}
