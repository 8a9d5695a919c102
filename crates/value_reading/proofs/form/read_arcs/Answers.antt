use Rattle.std.proofs.Common.{◌≡◌, ◌==◌, false, length, get_or, None, sym, ◌∙◌, arith}
use Rattle.std.proofs.lemmas.Bool.Decides.{nat_tests}
use Rattle.value_text.specs.Numbers.{number_of}
use Rattle.value_reading.specs.Words.{word}
use Rattle.value_reading.proofs.Turns.{arcs_not}
use Rattle.value_reading.proofs.form.read_arcs.Goals as goal

pub returns-in_default : goal.returns-in_default
returns-in_default c =
    let f1 : (get_or c.loop-turn.rest.now 0 0 == 32) ≡ false = grind (arith, nat_tests, c.if-rest-eq32.false) in
    let f2 : (get_or c.loop-turn.rest.now 0 0 == 125) ≡ false = grind (arith, nat_tests, c.if-rest-eq125.false) in
    let none : number_of (word c.loop-turn.rest.now) ≡ None = cc in
    sym (c.loop-turn.invariant ∙ arcs_not (length c.args.text.now) c.loop-turn._turn c.loop-turn.arcs.items c.loop-turn.rest.now (omega arith) (omega arith) f1 f2 none)
