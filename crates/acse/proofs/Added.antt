-- The fixed table can be made: each row may stand behind those before it.
use Rattle.std.proofs.Common.{◌≡◌, true, [], refl}
use Rattle.asn1_types.specs.Table.{refusal, AreSoundRows}
use Rattle.asn1_types.specs.Rows.{nesting, openings}
use Rattle.fixed_tables.specs.Rows.{all_added}
use Rattle.fixed_tables.proofs.Sound.{sound_of}
use Rattle.acse.specs.Rows.{acse_rows}

pub acse_rows_added : all_added [] acse_rows ≡ true
unfolding refusal nesting openings
acse_rows_added = refl

pub acse_sound : AreSoundRows acse_rows
acse_sound = sound_of acse_rows acse_rows_added refl
