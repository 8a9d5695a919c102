use Rattle.std.proofs.Common.{subst}
use Rattle.association_words.specs.Seen.{seen_word}
use Rattle.association_meaning.specs.Grounds.{association_base, GivesAs}
use Rattle.association_meaning.proofs.Meant.{same_meaning}
use Rattle.association_meaning.proofs.units.meaning_of_unit.Goals as goal

pub returns : goal.returns
returns c =
    λ body ea eh.
    subst (GivesAs seen_word c.unit_meaning.result) (same_meaning (association_base c.args.basis.now.tables.now c.args.basis.now.config.now) body c.args.accepted.now c.args.held.now c.args.unit.now c.args.start ea eh) c.unit_meaning.ensures
