use Rattle.bare_duo.proofs.LawsKept.{every_run_keeps_laws}
use Rattle.bare_duo.proofs.laws.every_run_keeps_laws.Goals as goal

pub returns : goal.returns
returns c =
    every_run_keeps_laws c.bare_ends_are_modelled.ensures.codec c.bare_ends_are_modelled.ensures.modelled c.written_is_first.ensures c.one_content.ensures c.content_says.ensures
    c.written_apdu_is_spelled.ensures
