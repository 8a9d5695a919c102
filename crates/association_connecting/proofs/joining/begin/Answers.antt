use Rattle.std.proofs.Common.{ap, ◌∙◌}
use Rattle.end_rules.specs.State as rules
use Rattle.association_answers.specs.association_state.declared.body.Body.{Body}
use Rattle.association_answers.specs.association_state.Seen.{base_in, seen}
use Rattle.association_connecting.proofs.joining.begin.Goals as goal

pub returns : goal.returns
returns c =
    let fresh : rules.Body = rules.new_body (base_in c.args.basis.now) in
    let named : rules.Body → rules.Body = λ (b : rules.Body). record b { link = record b.link { reference = c.in_ok-reference.reference; common = c.in_ok-common.common } } in
    ap (λ (b : Body). named (seen b)) c.replace.ensures.after ∙ ap named c.in_ok-begun.ensures
    ∙ (λ i. record fresh { link = record fresh.link { reference = c.in_ok-reference.ensures i; common = c.in_ok-common.ensures i } })
