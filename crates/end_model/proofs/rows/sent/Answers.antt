use Rattle.std.proofs.Common.{suc, refl, ap, [], ◌∷◌}
use Rattle.std.specs.Prelude.{Some}
use Rattle.dialogue.specs.declared.config.Mode.TheVariants.{Reliable}
use Rattle.agreement.specs.Messages.Message.{Mark, Restart, End, Resume}
use Rattle.end_model.specs.Rows.{at}
use Rattle.end_model.proofs.Marks.{next-seen}
use Rattle.end_model.proofs.Sendings.{restored-seen, highest-of, confirmed-of}
use Rattle.end_model.proofs.rows.sent.Goals as goal

pub returns : goal.returns
returns c =
    record {
      rows = record {
        mark = λ free base body. ap (λ n. Some (Mark n) ∷ []) (next-seen body.saved);
        mark_in_activity = λ free base body. ap (λ n. Some (Mark (suc n)) ∷ []) (highest-of (at Reliable base) body.sending.current);
        give = λ mode tokens free base body. refl;
        give_all = λ free base body. refl;
        restart = λ number free base body. ap (λ l. Some (Restart number l) ∷ []) (restored-seen number body.saved);
        start = λ free base body. refl;
        end = λ free base body. ap (λ n. Some (End (suc n)) ∷ []) (highest-of (at Reliable base) body.sending.current);
        interrupt = λ reason free base body. refl;
        discard = λ reason free base body. refl;
        resume = λ free base body. ap (λ n. Some (Resume body.sending.started n) ∷ []) (confirmed-of (at Reliable base) body.sending.current);
        release = λ mode transport values free base body. refl;
      };
    }
