use Rattle.std.proofs.Common.{Option, Some, sym, ap, subst, ◌≡◌, ◌∙◌}
use Rattle.std.specs.Prelude.{IfOk, option_map}
use Rattle.end_rules.specs.Base as base
use Rattle.association_words.specs.declared.faults.Fault.{Fault}
use Rattle.association_words.specs.Seen.{seen_fault, seen_word}
use Rattle.association_place.specs.association_state.Seen.{base_in, seen}
use Rattle.association_reacting.proofs.Reactions.{misplaced, in_place}
use Rattle.association_reacting.proofs.faults.word_fault.Goals as goal

pub returns-then-not-is_in_place : goal.returns-then-not-is_in_place
returns-then-not-is_in_place c =
    ap (λ (f : base.Fault). Some f) c.at.ensures
    ∙ sym (misplaced (base_in c.args.basis.now) (seen c.args.body.now) (seen_word c.args.word.now) (sym c.is_in_place.ensures ∙ c.if-not-is_in_place.true))

pub returns : goal.returns
returns c =
    subst (λ (x : Option base.Fault). IfOk c.fault_above.result (λ (fault : Option Fault). option_map seen_fault fault ≡ x))
    (sym (in_place (base_in c.args.basis.now) (seen c.args.body.now) (seen_word c.args.word.now) (sym c.is_in_place.ensures ∙ c.if-not-is_in_place.false)))
    c.fault_above.ensures
