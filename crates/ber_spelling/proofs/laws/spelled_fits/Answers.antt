use Rattle.ber_spelling.proofs.Fitting.{spelled_fits}
use Rattle.ber_spelling.proofs.laws.spelled_fits.Goals as goal

pub returns : goal.returns
returns c = spelled_fits
