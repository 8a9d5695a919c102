use Rattle.std.proofs.Common.{take, sym, subst, ◌∙◌}
use Rattle.stub_tables.specs.Readable.{IsReadable}
use Rattle.bare_end.specs.View.{EndView}
use Rattle.bare_end.proofs.Messages.{fields_carry, fields_mean}
use Rattle.bare_end.proofs.Heard.{heard_so, refused_heard, refused_means}
use Rattle.bare_end.proofs.end.End.hear.Goals as goal

pub hear_head-requires : goal.hear_head-requires
hear_head-requires c =
    let e = c.args.self.now in
    let readable = subst (λ (v : EndView). IsReadable v.tables) c.self.view_is c.hold_readable.ensures in
    fields_carry e.tables readable (take c.args.used e.rest) c.in-Ok.head c.in-Ok.ensures.read c.hold_some_octets.ensures

pub returns-in_ok-taken-in-Ok-clause-heard : goal.returns-in_ok-taken-in-Ok-clause-heard
returns-in_ok-taken-in-Ok-clause-heard c =
    let e = c.args.self.now in
    let readable = subst (λ (v : EndView). IsReadable v.tables) c.self.view_is c.hold_readable.ensures in
    heard_so e c.hear_head.new.self c.in-Ok.head (take c.args.used e.rest) c.in_ok-taken-in-Ok.taken readable c.in-Ok.ensures.read c.hold_some_octets.ensures c.in_ok-taken-in-Ok.ensures.heard

pub returns-in_ok-taken-in-Ok-clause-means : goal.returns-in_ok-taken-in-Ok-clause-means
returns-in_ok-taken-in-Ok-clause-means c =
    let e = c.args.self.now in
    let readable = subst (λ (v : EndView). IsReadable v.tables) c.self.view_is c.hold_readable.ensures in
    fields_mean e.tables readable (take c.args.used e.rest) c.in-Ok.head c.in-Ok.ensures.read c.hold_some_octets.ensures

pub returns-in_ok-taken-in-Err-clause-heard : goal.returns-in_ok-taken-in-Err-clause-heard
returns-in_ok-taken-in-Err-clause-heard c =
    let e = c.args.self.now in
    let readable = subst (λ (v : EndView). IsReadable v.tables) c.self.view_is c.hold_readable.ensures in
    refused_heard e c.as_taken.result c.in_ok-taken-in-Err.taken c.as_taken.ensures (take c.args.used e.rest) c.in-Err.fault readable c.in-Err.ensures.octets c.in-Err.ensures.read (sym c.refused_head.ensures ∙ c.in_ok-taken-in-Err.was)

pub returns-in_ok-taken-in-Err-clause-means : goal.returns-in_ok-taken-in-Err-clause-means
returns-in_ok-taken-in-Err-clause-means c =
    let e = c.args.self.now in
    let readable = subst (λ (v : EndView). IsReadable v.tables) c.self.view_is c.hold_readable.ensures in
    refused_means e c.as_taken.result c.in_ok-taken-in-Err.taken c.as_taken.ensures (take c.args.used e.rest) c.in-Err.fault readable c.in-Err.ensures.octets c.in-Err.ensures.read (sym c.refused_head.ensures ∙ c.in_ok-taken-in-Err.was)
