use Rattle.transcript_text.specs.Indications.{deleted_field}
use Rattle.transcript_text.proofs.Answered.{zip_push}
use Rattle.transcript_text.proofs.indication.put_deleted.Goals as goal

pub loop-place-preserved : goal.loop-place-preserved
loop-place-preserved c =
    zip_push deleted_field c.args.text.now c.loop-place.text c.put_deleted_field.new.text c.args.ids.now c.args.answers.now c.loop-place.place
    c.loop-place-test.true c.loop-place.invariant c.in_ok-put_deleted_field.ensures
