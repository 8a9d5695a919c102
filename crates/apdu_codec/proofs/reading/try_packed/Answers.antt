use Rattle.std.proofs.Common.{◌∙◌, sym, subst}
use Rattle.std.proofs.lemmas.List.{take_rest}
use Rattle.apdu_codec.proofs.Tries.{other_packed, told_packed, found_packed}
use Rattle.osi_base.specs.declared.syntax.Syntax.TheVariants as syntax
use Rattle.apdu_spelling.specs.declared.head.ApduHead.{ApduHead}
use Rattle.apdu_codec.specs.HeadsRead.{HasFields}
use Rattle.apdu_codec.proofs.reading.try_packed.Goals as goal

pub returns-in-Some : goal.returns-in-Some
returns-in-Some c =
    subst (λ (f : ApduHead). HasFields syntax.Packed c.args.bytes.now f) (sym c.behind.ensures)
    (found_packed c.args.rows.now c.requires c.args.bytes.now c.in-Ok.read.value c.in-Some.head c.in-Ok.read.used _ (take_rest c.args.bytes.now c.in-Ok.read.used) (sym c.in-Some.is ∙ c.in_ok-head-in-Ok.ensures) c.in-Ok.ensures.found)

pub returns-in-Ok : goal.returns-in-Ok
returns-in-Ok c = other_packed c.args.rows.now c.requires c.args.bytes.now c.in-Ok.read.value c.in-Ok.read.used _ (take_rest c.args.bytes.now c.in-Ok.read.used) c.in-Ok.ensures.exact (sym c.in-None.is ∙ c.in_ok-head-in-Ok.ensures)

pub returns-in-Some-packed_told : goal.returns-in-Some-packed_told
returns-in-Some-packed_told c = told_packed c.args.rows.now c.requires c.args.bytes.now c.in-Err.fault c.in-Err.ensures.exact c.in-Some-packed_told.number c.in-Some-packed_told.ensures
