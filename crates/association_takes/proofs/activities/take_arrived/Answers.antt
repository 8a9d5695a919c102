use Rattle.std.proofs.Common.{IfOk, Option, map, sym, subst}
use Rattle.std.proofs.lemmas.Result.{IfOk-weaker}
use Rattle.end_rules.specs.Hearing.{take_values}
use Rattle.association_words.specs.declared.values.Value.{Value}
use Rattle.association_words.specs.Seen.{seen_value}
use Rattle.association_hearing.specs.association_sends.Due.{listed}
use Rattle.association_hearing.specs.association_state.Seen.{base_in, seen}
use Rattle.association_hearing.specs.ValuesTaken.{TookAs}
use Rattle.association_hearing.proofs.Taking.{took_one}
use Rattle.association_takes.proofs.activities.take_arrived.Goals as goal

pub returns-in-Some : goal.returns-in-Some
returns-in-Some c =
    subst (λ (o : Option Value). IfOk c.take_value.result (TookAs (take_values (base_in c.args.basis.now) (seen c.args.body.now) (map seen_value (listed o))) (seen c.take_value.new.body))) (sym c.in-Some.is)
    (IfOk-weaker c.take_value.result _ _ (λ came h. took_one (base_in c.args.basis.now) (seen c.args.body.now) (seen c.take_value.new.body) (seen_value c.in-Some.value) came h) c.take_value.ensures)
