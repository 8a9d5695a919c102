use Rattle.rose_roles.proofs.Outcomes.{is_invoke}
use Rattle.rose_roles.proofs.performer.Performer.take.Goals as goal

pub take_invocation-requires-clause-kind : goal.take_invocation-requires-clause-kind
take_invocation-requires-clause-kind c = is_invoke c.args.head.kind c.requires.kind
