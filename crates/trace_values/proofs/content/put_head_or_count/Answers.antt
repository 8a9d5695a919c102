use Rattle.trace_values.specs.Heads.{head_told}
use Rattle.trace_values.proofs.ValueLaws.{told_is, not_told}
use Rattle.trace_values.proofs.content.put_head_or_count.Goals as goal

pub returns-then-branch : goal.returns-then-branch
returns-then-branch c =
    told_is c.in_ok-put_head.field-0 (head_told c.args.tables.now c.args.head.now) c.args.text.now c.put_head.new.text c.args.octets.now c.if-branch.true c.in_ok-put_head.ensures

pub returns : goal.returns
returns c =
    not_told c.in_ok-put_head.field-0 (head_told c.args.tables.now c.args.head.now) c.args.text.now c.put_head.new.text c.put_count.new.text c.args.octets.now c.if-branch.false c.in_ok-put_head.ensures c.in_ok-put_count.ensures
