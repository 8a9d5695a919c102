use Rattle.std.proofs.Common.{refl}
use Rattle.end_model.proofs.rows.marks_taken.Goals as goal

pub returns : goal.returns
returns c = record {
  rows =
      record {
        mark = λ number free base body. refl;
        mark_in_activity = λ number free base body. refl;
        give_all = λ free base body. refl;
        give_ack = λ free base body. refl;
        please = λ mode tokens values priority free base body. refl;
      };
}
