use Rattle.end_model.proofs.PurgedWords as words
use Rattle.end_model.proofs.rows.purged.Goals as goal

pub returns : goal.returns
returns c =
    record {
      rows = record {
        values = λ values value initiator awaited. words.values value initiator awaited;
        alter = λ add delete items initiator awaited. words.alter items initiator awaited;
        mark = λ number initiator awaited. words.mark number initiator awaited;
        restart = λ number list listed initiator awaited. words.restart number listed initiator awaited;
        restart_ack = λ number list listed initiator awaited. words.restart_ack number listed initiator awaited;
        finish = λ transport values initiator awaited. words.finish transport initiator awaited;
        disconnect = λ values initiator awaited. words.disconnect initiator awaited;
        abort = λ transport user initiator awaited. words.abort transport initiator awaited;
        interrupt_ack = words.interrupt_ack;
        discard_ack = words.discard_ack;
      };
    }
