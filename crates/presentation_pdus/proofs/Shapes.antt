-- The rows of the fields are in the table.
use Rattle.std.proofs.Common.{◌≡◌, List, length, arith}
use Rattle.asn1_types.specs.declared.row.TypeRow.{TypeRow}
use Rattle.passed_fields.specs.Known.{HaveRows}
use Rattle.presentation_pdus.specs.Fields.{connect_fields, accept_fields, reject_fields, alter_fields, alter_ack_fields, restart_fields, user_abort_fields, provider_abort_fields}

pub connect_rows : (rows : List TypeRow) → length rows ≡ 64 → HaveRows rows connect_fields
connect_rows rows e = (omega (arith, e), (omega (arith, e), (omega (arith, e), (omega (arith, e), (tt, (omega (arith, e), (omega (arith, e), (omega (arith, e), tt))))))))

pub accept_rows : (rows : List TypeRow) → length rows ≡ 64 → HaveRows rows accept_fields
accept_rows rows e = (omega (arith, e), (omega (arith, e), (omega (arith, e), (omega (arith, e), (omega (arith, e), (omega (arith, e), tt))))))

pub reject_rows : (rows : List TypeRow) → length rows ≡ 64 → HaveRows rows reject_fields
reject_rows rows e = (omega (arith, e), (omega (arith, e), (omega (arith, e), (omega (arith, e), (omega (arith, e), (omega (arith, e), tt))))))

pub alter_rows : (rows : List TypeRow) → length rows ≡ 64 → HaveRows rows alter_fields
alter_rows rows e = (omega (arith, e), (omega (arith, e), (tt, tt)))

pub alter_ack_rows : (rows : List TypeRow) → length rows ≡ 64 → HaveRows rows alter_ack_fields
alter_ack_rows rows e = (omega (arith, e), (omega (arith, e), (tt, tt)))

pub restart_rows : (rows : List TypeRow) → length rows ≡ 64 → HaveRows rows restart_fields
restart_rows rows e = (omega (arith, e), (tt, tt))

pub user_abort_rows : (rows : List TypeRow) → length rows ≡ 64 → HaveRows rows user_abort_fields
user_abort_rows rows e = (omega (arith, e), (omega (arith, e), tt))

pub provider_abort_rows : (rows : List TypeRow) → length rows ≡ 64 → HaveRows rows provider_abort_fields
provider_abort_rows rows e = (omega (arith, e), (omega (arith, e), tt))
