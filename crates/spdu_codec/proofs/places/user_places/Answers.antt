use Rattle.std.proofs.Common.{subst, sym}
use Rattle.spdu_codec.specs.Places.{ArePlaced, HoldUser}
use Rattle.spdu_codec.proofs.PlaceLaws.{all_placed}
use Rattle.spdu_codec.proofs.HoldLaws.{all_hold}
use Rattle.spdu_codec.proofs.places.user_places.Goals as goal

pub returns-clause-placed : goal.returns-clause-placed
returns-clause-placed c = λ words a. subst (ArePlaced words c.args.tsdu.now) (sym c.places_of.ensures) (all_placed c.args.tsdu.now words a)

pub returns-clause-holds : goal.returns-clause-holds
returns-clause-holds c = λ words a. subst (HoldUser words c.args.tsdu.now) (sym c.places_of.ensures) (all_hold c.args.tsdu.now words a)
