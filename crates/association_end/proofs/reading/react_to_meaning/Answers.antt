use Rattle.end_rules.specs.Messages.{Session}
use Rattle.end_rules.specs.Reacting.{fails, react}
use Rattle.association_line.specs.association_reading.Meaning.{meaning}
use Rattle.association_line.specs.association_reading.Reacting.{contexts_of_unit, on_meaning}
use Rattle.association_words.specs.Seen.{seen_word, seen_fault}
use Rattle.association_reacting.specs.association_state.Seen.{base_in, seen}
use Rattle.association_reacting.proofs.Reactions.{result_by}
use Rattle.association_end.proofs.Units.{read_so, unread_so, halted_so}
use Rattle.association_end.proofs.reading.react_to_meaning.Goals as goal

pub returns-in-Ok : goal.returns-in-Ok
returns-in-Ok c =
    let b = base_in c.args.basis.now in
    let old = seen c.args.body.now in
    result_by (on_meaning b old c.args.unit.now (meaning b old c.args.unit.now c.args.start)) (react b old (Session (seen_word c.in-Ok.word))) old (seen c.react_to_word.new.body) c.react_to_word.result
    (read_so b old c.args.unit.now c.args.start (seen_word c.in-Ok.word) c.in-Ok.ensures) c.react_to_word.ensures

pub returns-in_ok-fault-in-Err : goal.returns-in_ok-fault-in-Err
returns-in_ok-fault-in-Err c =
    let b = base_in c.args.basis.now in
    let old = seen c.args.body.now in
    result_by (on_meaning b old c.args.unit.now (meaning b old c.args.unit.now c.args.start)) (fails old (contexts_of_unit b old c.args.unit.now) (seen_fault c.in_ok-fault-in-Err.fault)) old (seen c.fail_unit.new.body) c.fail_unit.result
    (unread_so b old c.args.unit.now c.args.start (seen_fault c.in_ok-fault-in-Err.fault) (halted_so c.in-Err.halt c.in_ok-fault-in-Err.fault (meaning b old c.args.unit.now c.args.start) c.in_ok-fault-in-Err.ensures c.in-Err.ensures))
    c.fail_unit.ensures
