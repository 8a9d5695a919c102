use Rattle.std.proofs.Common.{rules, append_assoc, ◌≡◌, ◌≢◌, true, false}
use Rattle.transcript_text.proofs.Arcs.{other_abstract}
use Rattle.transcript_text.proofs.call.put_abstract.Goals as goal

pub returns : goal.returns
returns c =
    let differ : c.args.name.now ≢ c.args.tables.now.name_oid = λ same. let h : false ≡ true = rw c.if-is.false at (c.is.ensures.1 same) in cc in
    rw (other_abstract c.args.tables.now c.args.name.now differ) (search (rules, append_assoc))
