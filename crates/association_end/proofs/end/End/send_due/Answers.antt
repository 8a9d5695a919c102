use Rattle.std.proofs.Common.{Option, sym, subst, ◌≡◌}
use Rattle.std.specs.Prelude.{OnOk, option_map}
use Rattle.association_words.specs.declared.words.Message.{Message}
use Rattle.association_words.specs.Seen.{seen_message}
use Rattle.association_reacting.specs.association_sends.Due.{listed}
use Rattle.association_end.specs.OneMessage.{AllMayStand, sending}
use Rattle.association_end.proofs.Sent.{sent_nothing}
use Rattle.association_end.proofs.end.End.send_due.Goals as goal

pub returns-in-None-clause-ok : goal.returns-in-None-clause-ok
returns-in-None-clause-ok c =
    subst (λ (m : Option Message). c.args.self.now ≡ sending (listed (option_map seen_message m)) c.args.self.now) (sym c.in-None.is) (sent_nothing c.args.self.now)

pub write-requires : goal.write-requires
write-requires c = (subst (λ (m : Option Message). AllMayStand (listed (option_map seen_message m))) c.in-Some.is c.requires).0

pub returns-in-Some-clause-ok : goal.returns-in-Some-clause-ok
returns-in-Some-clause-ok c =
    subst (λ (m : Option Message). OnOk c.write.result (c.write.new.self ≡ sending (listed (option_map seen_message m)) c.args.self.now)) (sym c.in-Some.is) c.write.ensures.ok
