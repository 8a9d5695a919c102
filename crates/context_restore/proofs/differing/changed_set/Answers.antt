use Rattle.std.proofs.Common.{◌∙◌, sym}
use Rattle.context_restore.proofs.Changes.{unchanged}
use Rattle.context_restore.proofs.differing.changed_set.Goals as goal

pub returns-then-leads_nowhere : goal.returns-then-leads_nowhere
returns-then-leads_nowhere c =
    unchanged c.args.newest.now c.args.set.now.set c.args.node.now.added c.args.node.now.lost c.requires.newest_rises c.requires.rises c.requires.added c.requires.lost
    (sym c.leads_nowhere.ensures ∙ c.if-leads_nowhere.true)
