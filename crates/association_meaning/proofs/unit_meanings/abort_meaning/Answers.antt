use Rattle.presentation_pdus.specs.declared.place.PpduPlace.TheVariants as place
use Rattle.presentation_pdus.specs.Units.{ppdu_at}
use Rattle.association_words.specs.Seen.{seen_word}
use Rattle.association_meaning.specs.Grounds.{association_base}
use Rattle.association_meaning.specs.Words.{abort_in, aborted}
use Rattle.association_meaning.proofs.Fails.{halts, with_abort_fails}
use Rattle.association_meaning.proofs.unit_meanings.abort_meaning.Goals as goal

pub returns-in_err-user : goal.returns-in_err-user
returns-in_err-user c =
    halts seen_word c.from_residual.result (aborted (association_base c.args.basis.now.tables.now c.args.basis.now.config.now) c.args.accepted.now c.args.transport c.args.start c.args.user.now) c.in_err-user.field-0.0 c.from_residual.ensures.1 (with_abort_fails c.in_err-user.field-0.0 c.args.transport (abort_in (association_base c.args.basis.now.tables.now c.args.basis.now.config.now) c.args.accepted.now c.args.start c.args.user.now place.Ab (ppdu_at place.Ab c.args.user.now)) c.in_err-user.ensures)
