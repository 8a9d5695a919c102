-- The fixed table can be made: each row may stand behind those before it.
use Rattle.std.proofs.Common.{◌≡◌, true, [], refl}
use Rattle.asn1_types.specs.Table.{refusal, AreSoundRows}
use Rattle.asn1_types.specs.Rows.{nesting, openings}
use Rattle.fixed_tables.specs.Rows.{all_added}
use Rattle.fixed_tables.proofs.Sound.{sound_of}
use Rattle.presentation_pdus.specs.Rows.{ppdu_rows}

pub ppdu_rows_added : all_added [] ppdu_rows ≡ true
unfolding refusal nesting openings
ppdu_rows_added = refl

pub ppdu_sound : AreSoundRows ppdu_rows
ppdu_sound = sound_of ppdu_rows ppdu_rows_added refl
