use Rattle.presentation_pdus.proofs.Joined.{joined}
use Rattle.presentation_pdus.proofs.table.rows.Goals as goal

pub returns : goal.returns
returns c =
    joined _ _ _ _ _ _ _ _ _ _ _ c.in_ok-values.ensures c.in_ok-definitions.ensures c.in_ok-until_mode.ensures c.in_ok-fields.ensures c.in_ok-until_fields.ensures c.in_ok-connections.ensures c.in_ok-until_connections.ensures c.in_ok-alterations.ensures
    c.in_ok-until_alterations.ensures c.in_ok-restarts.ensures c.in_ok-all.ensures
