use Rattle.std.proofs.Common.{is_some, sym, ap, subst}
use Rattle.end_rules.specs.State.{passes_over}
use Rattle.association_reacting.specs.association_state.Seen.{seen}
use Rattle.association_end.specs.Sound.{HasMessages}
use Rattle.association_end.proofs.Sounds.{listens_some}
use Rattle.association_end.proofs.end.End.with.Goals as goal

pub invariant_of-result : goal.invariant_of-result
invariant_of-result c =
    record {
      associated = c.requires.associated;
      accepted = c.requires.accepted;
      sized = c.first_size-size.ensures.sized;
      messages = subst HasMessages (sym c.new-5.ensures) tt;
      listens = listens_some (passes_over (seen c.in_ok-body.body).link.phase) c.new-5.result (ap is_some c.new-5.ensures);
    }

pub returns : goal.returns
returns c = λ i. record {
  tables = c.args.tables.now;
  config = c.args.config;
  end = record {
    body = c.in_ok-body.ensures i;
    line = record { waiting = c.new-4.ensures i; came = c.new-5.ensures i; size = c.first_size-size.ensures.is i };
  };
}
