-- The fixed table can be made: each row may stand behind those before it.
use Rattle.std.proofs.Common.{◌≡◌, true, [], refl}
use Rattle.asn1_types.specs.Table.{refusal}
use Rattle.asn1_types.specs.Rows.{nesting, openings}
use Rattle.fixed_tables.specs.Rows.{all_added}
use Rattle.apdu_spelling.specs.Rows.{head_rows}

pub head_rows_added : all_added [] head_rows ≡ true
unfolding refusal nesting openings
head_rows_added = refl
