use Rattle.std.proofs.lemmas.Result.{IfOk-weaker}
use Rattle.association_words.specs.Seen.{seen_value}
use Rattle.association_answers.specs.association_state.Seen.{base_in, seen}
use Rattle.end_rules.specs.Hearing.{head_of}
use Rattle.association_hearing.proofs.Taking.{took_so}
use Rattle.association_hearing.proofs.values.take_value.Goals as goal

pub returns : goal.returns
returns c =
    IfOk-weaker c.take_heard.result _ _
    (λ came h. took_so (base_in c.args.basis.now) (seen c.args.body.now) c.hear_value.new.calls c.args.value.id (head_of (base_in c.args.basis.now) (seen_value c.args.value)) c.in_ok-taken.taken (seen c.take_heard.new.body) came c.in_ok-taken.ensures h)
    c.take_heard.ensures
