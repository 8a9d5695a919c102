use Rattle.std.proofs.Common.{List, ℕ, Some, ap}
use Rattle.association_pieces.specs.Sending.{seen_transfer}
use Rattle.association_reacting.specs.association_state.Seen.{seen}
use Rattle.association_end.proofs.own_acts.encoded_under.Goals as goal

pub returns-in-Ok : goal.returns-in-Ok
returns-in-Ok c =
    let body = seen c.args.body.now in
    ap
    (λ (octets : List ℕ).
    record (seen_transfer c.args.transfer) {
      encoded = Some (record {
        item = record { id = c.args.id; pair = c.args.pair; apdu = c.args.transfer.item.apdu };
        octets = octets;
        checkpoint = body.link.checkpoint;
        window = body.link.window;
      });
    })
    c.in-Ok.ensures
