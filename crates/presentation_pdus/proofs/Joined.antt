-- The groups of rows, one behind the other, are all rows.
use Rattle.std.proofs.Common.{◌≡◌, List, [], ◌++◌, refl}
use Rattle.asn1_types.specs.declared.row.TypeRow.{TypeRow}
use Rattle.presentation_pdus.specs.Rows.{rows_of_values, rows_of_definitions, rows_of_fields, rows_of_connections, rows_of_alterations, rows_of_restarts, ppdu_rows}

groups_are_rows : ((((rows_of_values [] ++ rows_of_definitions []) ++ rows_of_fields []) ++ rows_of_connections []) ++ rows_of_alterations []) ++ rows_of_restarts [] ≡ ppdu_rows
groups_are_rows = refl

pub joined : (a b c d e f ab abc abcd abcde all : List TypeRow) → a ≡ rows_of_values [] → b ≡ rows_of_definitions [] → ab ≡ a ++ b → c ≡ rows_of_fields [] → abc ≡ ab ++ c → d ≡ rows_of_connections [] → abcd ≡ abc ++ d
    → e ≡ rows_of_alterations [] → abcde ≡ abcd ++ e → f ≡ rows_of_restarts [] → all ≡ abcde ++ f → all ≡ ppdu_rows
joined a b c d e f ab abc abcd abcde all pa pb qb pc qc pd qd pe qe pf qf = rw (qf, qe, qd, qc, qb, pa, pb, pc, pd, pe, pf) groups_are_rows
