use Rattle.std.proofs.Common.{◌≡◌, true, List, [], sym, subst}
use Rattle.asn1_types.specs.declared.row.TypeRow.{TypeRow}
use Rattle.fixed_tables.specs.Rows.{all_added}
use Rattle.presentation_pdus.proofs.Added.{ppdu_rows_added}
use Rattle.presentation_pdus.proofs.table.PpduTable.new.Goals as goal

pub table_of-requires : goal.table_of-requires
table_of-requires c = subst (λ (rows : List TypeRow). all_added [] rows ≡ true) (sym c.in_ok-rows.ensures) ppdu_rows_added
