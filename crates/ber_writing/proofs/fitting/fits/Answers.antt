use Rattle.std.proofs.Common.{ap, sym, ◌∙◌, arith}
use Rattle.std.specs.Prelude.{Bool, ◌&&◌}
use Rattle.ber_writing.specs.Short.{has_short_form}
use Rattle.ber_writing.proofs.ShortForms.{fits_so, fits_past}
use Rattle.ber_writing.proofs.fitting.fits.Goals as goal

pub returns-then-len-of : goal.returns-then-len-of
returns-then-len-of c = fits_past c.args.table.now c.args.of.0 c.args.value.now (omega arith)

pub returns-then-are_short : goal.returns-then-are_short
returns-then-are_short c =
    let all = fits_so c.args.table.now c.len.ensures.sound c.args.of.0 c.args.value.now c.are_short.result c.are_short.ensures in
    c.has_form.ensures ∙ ap (λ (x : Bool). x && has_short_form c.args.table.now c.args.of.0 c.args.value.now) (sym c.if-are_short.true) ∙ all

pub returns-else-are_short : goal.returns-else-are_short
returns-else-are_short c =
    let all = fits_so c.args.table.now c.len.ensures.sound c.args.of.0 c.args.value.now c.are_short.result c.are_short.ensures in
    c.if-are_short.false ∙ ap (λ (x : Bool). x && has_short_form c.args.table.now c.args.of.0 c.args.value.now) (sym c.if-are_short.false) ∙ all
