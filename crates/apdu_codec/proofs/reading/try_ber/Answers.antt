use Rattle.std.proofs.Common.{◌∙◌, sym, true, false}
use Rattle.apdu_codec.proofs.Tries.{longer, other, told, found_ber}
use Rattle.apdu_codec.proofs.reading.try_ber.Goals as goal

pub returns-then-read-bytes : goal.returns-then-read-bytes
returns-then-read-bytes c = longer c.args.rows.now c.requires c.args.bytes.now false c.in-Ok.read.value c.in-Ok.read.used c.in-Ok.ensures.exact c.if-read-bytes.true

pub returns-in-Some : goal.returns-in-Some
returns-in-Some c = found_ber c.args.rows.now c.requires c.args.bytes.now c.in-Ok.read.value c.in-Some.head c.in-Ok.read.used (sym c.in-Some.is ∙ c.in_ok-head-in-Ok.ensures) c.if-read-bytes.false c.in-Ok.ensures.found

pub returns-in-Ok : goal.returns-in-Ok
returns-in-Ok c = other c.args.rows.now c.requires c.args.bytes.now false c.in-Ok.read.value c.in-Ok.read.used c.in-Ok.ensures.exact (sym c.in-None.is ∙ c.in_ok-head-in-Ok.ensures)

pub returns-in-Some-ber_told : goal.returns-in-Some-ber_told
returns-in-Some-ber_told c = told c.args.rows.now c.requires c.args.bytes.now false c.in-Err.fault c.in-Err.ensures.exact c.in-Some-ber_told.number c.in-Some-ber_told.ensures
