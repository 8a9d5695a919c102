use Rattle.std.proofs.Common.{◌≡◌, ◌++◌, List, Option, length, take, drop, sym, ap, subst, ◌∙◌}
use Rattle.module_faults.specs.declared.type_facts.Facts.{Facts as FactsGiven}
use Rattle.module_faults.specs.Known.{AreLearned, AreSettled}
use Rattle.module_faults.proofs.Loops.{written_back}
use Rattle.module_faults.proofs.AllLearned.{unlearned, none_learned, all_settled}
use Rattle.module_faults.proofs.learning.learn_all.Goals as goal

pub learn_rest-requires : goal.learn_rest-requires
learn_rest-requires c =
    let none : AreLearned c.args.names.now c.args.standings.now c.in_ok-known.known.items = none_learned c.args.names.now c.args.standings.now c.in_ok-known.known.items (c.in_ok-known.ensures ∙ ap (λ z. unlearned (length z)) c.assignments.ensures) in
    let some : AreLearned c.args.names.now c.args.standings.now c.learn_in_order.new.known = c.in_ok-learn_in_order.ensures (subst (λ (z : List (Option FactsGiven)). AreLearned c.args.names.now c.args.standings.now z) (sym c.deref_mut.ensures.value) none) in
    let back = written_back c.in_ok-known.known.items c.learn_in_order.new.known c.in_ok-known.known.len (sym c.deref_mut.ensures.len ∙ ap length c.deref_mut.ensures.value) (some.long ∙ sym none.long) in
    subst (λ (z : List (Option FactsGiven)). AreLearned c.args.names.now c.args.standings.now z) (sym (c.deref_mut-2.ensures.value ∙ back)) some

pub returns-clause-settled : goal.returns-clause-settled
returns-clause-settled c =
    let settled : AreSettled c.args.names.now c.args.standings.now c.learn_rest.new.known = all_settled c.args.names.now c.args.standings.now c.learn_rest.new.known c.requires c.in_ok-learn_rest.ensures.all in
    let none : AreLearned c.args.names.now c.args.standings.now c.in_ok-known.known.items = none_learned c.args.names.now c.args.standings.now c.in_ok-known.known.items (c.in_ok-known.ensures ∙ ap (λ z. unlearned (length z)) c.assignments.ensures) in
    let some : AreLearned c.args.names.now c.args.standings.now c.learn_in_order.new.known = c.in_ok-learn_in_order.ensures (subst (λ (z : List (Option FactsGiven)). AreLearned c.args.names.now c.args.standings.now z) (sym c.deref_mut.ensures.value) none) in
    let long : c.in_ok-known.known.len ≡ length c.in_ok-known.known.items = sym c.deref_mut.ensures.len ∙ ap length c.deref_mut.ensures.value in
    let before : List (Option FactsGiven) = take c.in_ok-known.known.len (c.learn_in_order.new.known ++ drop (length c.learn_in_order.new.known) c.in_ok-known.known.items) in
    let first : before ≡ c.learn_in_order.new.known = written_back c.in_ok-known.known.items c.learn_in_order.new.known c.in_ok-known.known.len long (some.long ∙ sym none.long) in
    let all_long : length before ≡ length c.args.names.now = ap length first ∙ some.long in
    let back = written_back before c.learn_rest.new.known c.in_ok-known.known.len (long ∙ none.long ∙ sym all_long) (c.in_ok-learn_rest.ensures.are.long ∙ sym all_long) in
    subst (λ (z : List (Option FactsGiven)). AreSettled c.args.names.now c.args.standings.now z) (sym back) settled
