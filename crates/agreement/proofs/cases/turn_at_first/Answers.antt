use Rattle.std.proofs.Common.{refl}
use Rattle.agreement.proofs.cases.turn_at_first.Goals as goal

pub returns : goal.returns
returns c =
    record {
      bare = λ faithful. (refl, refl);
      direct = λ faithful. (refl, refl);
      reliable = λ faithful. (refl, refl);
    }
