use Rattle.end_model.proofs.PurgedWords as words
use Rattle.end_model.proofs.rows.purged_others.Goals as goal

pub returns : goal.returns
returns c =
    record {
      rows = record {
        part = λ values octets initiator awaited. words.chunk octets initiator awaited;
        alter_ack = λ answers results initiator awaited. words.alter_ack results initiator awaited;
        mark_ack = words.mark_ack;
        give = words.give;
        give_all = words.give_all;
        give_ack = words.give_ack;
        please = λ tokens values priority initiator awaited. words.please tokens priority initiator awaited;
        start = words.start;
        resume = words.resume;
        end = words.end;
        end_ack = words.end_ack;
        interrupt = words.interrupt;
        discard = words.discard;
        connect = λ session presentation values initiator awaited. words.connect session initiator awaited;
        recover = λ session presentation values initiator awaited. words.recover session initiator awaited;
        accept = λ session presentation values set initiator awaited. words.accept session set initiator awaited;
        refuse = λ transport reason presentation values initiator awaited. words.refuse transport reason initiator awaited;
      };
    }
