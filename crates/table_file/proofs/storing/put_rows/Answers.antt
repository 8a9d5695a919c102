use Rattle.std.proofs.Common.{length, arith}
use Rattle.byteorder.specs.Endian.{big_bytes}
use Rattle.table_file.specs.Files.{row_file}
use Rattle.table_file.specs.declared.row_parts.Version.TheVariants as versions
use Rattle.table_file.proofs.RowsPut.{put_more}
use Rattle.table_file.proofs.storing.put_rows.Goals as goal

pub loop-number-preserved : goal.loop-number-preserved
loop-number-preserved c =
    put_more (row_file versions.Two) c.args.types.now c.loop-number.number c.in-Ok.row c.row.result.now (big_bytes 4 (length c.args.types.now)) c.args.out.now c.loop-number.out c.put_row.new.out
    (omega (arith, c.in-Ok.ensures)) c.row.ensures.value c.loop-number.invariant c.in_ok-put_row.ensures
