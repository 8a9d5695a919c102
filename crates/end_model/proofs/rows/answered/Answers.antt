use Rattle.std.proofs.Common.{refl}
use Rattle.end_model.proofs.rows.answered.Goals as goal

pub returns : goal.returns
returns c =
    record {
      rows = record {
        mark = λ number free base body. refl;
        mark_in_activity = λ number free base body. refl;
        give = λ tokens free base body. refl;
        give_all = λ free base body. refl;
        give_ack = λ free base body. refl;
        please = λ mode tokens values priority free base body. refl;
        mark_ack = λ mode number free base body. refl;
        start = λ activity free base body. refl;
        resume = λ activity mark free base body. refl;
        end = λ number free base body. refl;
        end_ack = λ number free base body. refl;
        interrupt = λ reason free base body. refl;
        interrupt_ack = λ free base body. refl;
        discard = λ reason free base body. refl;
        discard_ack = λ free base body. refl;
        finish = λ mode transport values free base body. refl;
      };
    }
