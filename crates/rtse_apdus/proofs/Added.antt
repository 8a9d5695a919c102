-- The fixed table can be made: each row may stand behind those before it.
use Rattle.std.proofs.Common.{◌≡◌, true, [], refl}
use Rattle.asn1_types.specs.Table.{refusal, AreSoundRows}
use Rattle.asn1_types.specs.Rows.{nesting, openings}
use Rattle.fixed_tables.specs.Rows.{all_added}
use Rattle.fixed_tables.proofs.Sound.{sound_of}
use Rattle.rtse_apdus.specs.Rows.{rtse_rows}

pub rtse_rows_added : all_added [] rtse_rows ≡ true
unfolding refusal nesting openings
rtse_rows_added = refl

pub rtse_sound : AreSoundRows rtse_rows
rtse_sound = sound_of rtse_rows rtse_rows_added refl
