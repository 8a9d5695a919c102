use Rattle.std.proofs.Common.{◌≡◌, ℕ, suc, refl, sym, ap, map, ◌∙◌, arith, option_map}
use Rattle.end_rules.specs.State.{Sending}
use Rattle.association_pieces.specs.Sending.{seen_queued, seen_transfer, seen_sending}
use Rattle.association_requests.proofs.sent.begin_next.Goals as goal

pub returns : goal.returns
returns c =
    let e : c.in-Some.started ≡ suc c.args.sending.now.started = omega arith in
    let with_number : ℕ → Sending = λ (n : ℕ). record { started = n; current = option_map seen_transfer c.next_transfer.result; queue = map seen_queued c.next_transfer.new.queue.items } in
    ap with_number e ∙ sym (c.next_transfer.ensures (seen_sending c.args.sending.now) refl)
