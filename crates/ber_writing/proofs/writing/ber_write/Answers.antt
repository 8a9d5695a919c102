use Rattle.std.proofs.Common.{◌≡◌, ℕ, sym, ap, ◌∙◌, arith, drop}
use Rattle.asn1_types.specs.Writing.{written}
use Rattle.ber_writing.proofs.writing.ber_write.Goals as goal

pub put_value-requires-clause-room : goal.put_value-requires-clause-room
unfolding written
put_value-requires-clause-room c = omega arith

pub returns-clause-spelling : goal.returns-clause-spelling
unfolding written
returns-clause-spelling c =
    let start : c.put_value.result ≡ 0 = omega arith in
    ap (λ (k : ℕ). drop k c.put_value.new.room) (sym start) ∙ c.put_value.ensures.put
