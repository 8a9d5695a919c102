use Rattle.std.proofs.Common.{refl}
use Rattle.end_model.proofs.Restarts.{connects-seen, recovers-seen}
use Rattle.end_model.proofs.rows.connections.Goals as goal

pub returns : goal.returns
returns c =
    record {
      rows = record {
        connects = λ mode destination size free base body h. connects-seen mode base body h;
        recovers = λ mode destination size free base body h. recovers-seen mode base body h;
        fails = λ mode destination free base body. refl;
        aborts = λ mode free base body. refl;
        withdraws = λ mode free base body. refl;
      };
    }
