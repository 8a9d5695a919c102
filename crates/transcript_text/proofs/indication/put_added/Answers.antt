use Rattle.transcript_text.specs.Indications.{added_field}
use Rattle.transcript_text.proofs.Answered.{zip_push}
use Rattle.transcript_text.proofs.indication.put_added.Goals as goal

pub loop-place-preserved : goal.loop-place-preserved
loop-place-preserved c =
    zip_push added_field c.args.text.now c.loop-place.text c.put_added_field.new.text c.args.ids.now c.args.answers.now c.loop-place.place
    c.loop-place-test.true c.loop-place.invariant c.in_ok-put_added_field.ensures
