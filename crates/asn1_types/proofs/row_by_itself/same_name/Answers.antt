use Rattle.asn1_types.proofs.Names.{same_name_is}
use Rattle.asn1_types.proofs.row_by_itself.same_name.Goals as goal

pub returns : goal.returns
returns c = same_name_is c.args.a.now c.args.b.now c.is.result c.is.ensures
