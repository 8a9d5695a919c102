use Rattle.std.proofs.Common.{length}
use Rattle.asn1_types.specs.Rows.{names_of}
use Rattle.asn1_types.proofs.Adding.{kept_names}
use Rattle.asn1_types.proofs.table.TypeTable.refusal_by_rows.Goals as goal

pub nesting-requires : goal.nesting-requires
nesting-requires c = kept_names (length c.args.self.now) (names_of c.args.row.now) c.requires

pub has_clash-requires : goal.has_clash-requires
has_clash-requires c = kept_names (length c.args.self.now) (names_of c.args.row.now) c.requires

pub has_bad_default-requires : goal.has_bad_default-requires
has_bad_default-requires c = kept_names (length c.args.self.now) (names_of c.args.row.now) c.requires
