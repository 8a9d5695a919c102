use Rattle.end_model.proofs.Machine.{acts-kept, takes-kept, passes-kept, breaks-kept, unseen-kept, units-kept}
use Rattle.end_model.proofs.both_ends.steps_keep_the_run.Goals as goal

pub returns : goal.returns
returns c =
    record { acts = acts-kept; takes = takes-kept; passes = passes-kept; breaks = breaks-kept; unseen = unseen-kept; units = units-kept }
