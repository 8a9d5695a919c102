use Rattle.std.proofs.Common.{[], ◌∷◌, is_some, sym, ap, subst}
use Rattle.end_rules.specs.History.{broke}
use Rattle.association_reacting.specs.association_state.Seen.{seen}
use Rattle.association_end.specs.Sound.{HasMessages}
use Rattle.association_end.proofs.Inside.{view_in}
use Rattle.association_end.proofs.Histories.{stands_on}
use Rattle.association_end.proofs.Sounds.{sound_line}
use Rattle.association_end.proofs.Broken.{broke_so}
use Rattle.association_end.proofs.end.End.broke.Goals as goal

pub invariant_of-self : goal.invariant_of-self
invariant_of-self c =
    sound_line (view_in c.self.inside) (seen c.connection_broke.new.body) (record { waiting = c.clear.new.self; came = c.new.result; size = c.first_size-self-inside.result }) c.self.invariant c.first_size-self-inside.ensures.sized
    (subst HasMessages (sym c.new.ensures) tt) (ap is_some c.new.ensures)

pub returns-clause-steps : goal.returns-clause-steps
returns-clause-steps c =
    broke_so (view_in c.self.inside) c.args.self.now (seen c.connection_broke.new.body) (record { waiting = c.clear.new.self; came = c.new.result; size = c.first_size-self-inside.result }) c.self.view_is c.connection_broke.ensures c.clear.ensures c.new.ensures c.first_size-self-inside.ensures.is

pub returns-clause-history : goal.returns-clause-history
returns-clause-history c = λ h stood.
    stands_on c.args.self.now _ (broke ∷ [])
    (broke_so (view_in c.self.inside) c.args.self.now (seen c.connection_broke.new.body) (record { waiting = c.clear.new.self; came = c.new.result; size = c.first_size-self-inside.result }) c.self.view_is c.connection_broke.ensures c.clear.ensures c.new.ensures c.first_size-self-inside.ensures.is)
    h stood
