use Rattle.std.proofs.Common.{refl}
use Rattle.end_model.proofs.Marks.{mark-sent}
use Rattle.end_model.proofs.rows.marks_sent.Goals as goal

pub returns : goal.returns
returns c = record {
  rows =
      record {
        mark = mark-sent;
        give = λ free base body. refl;
        give_all = λ free base body. refl;
        please = λ mode tokens values priority free base body. refl;
        restart = λ number list free base body. refl;
      };
}
