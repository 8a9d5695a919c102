use Rattle.std.proofs.Common.{◌≡◌, IfOk, Option, subst, option_map}
use Rattle.stub_tables.specs.declared.apdu.Apdu.{Apdu}
use Rattle.module_contents.specs.Said.{apdu_in}
use Rattle.module_contents.proofs.Saying.{head_says, general_says, bad_says}
use Rattle.module_contents.proofs.contents.spelled.Goals as goal

pub returns-in-Ok : goal.returns-in-Ok
returns-in-Ok c =
    subst (λ (o : Option Apdu). IfOk c.said.result (λ found. option_map apdu_in found ≡ o)) (head_says c.args.tables.now c.args.syntax c.args.octets.now c.in-Ok.head c.in-Ok.ensures) c.said.ensures

pub returns-in-Err-General : goal.returns-in-Err-General
returns-in-Err-General c =
    general_says c.args.tables.now c.args.syntax c.args.octets.now c.in-Err-General.field-0 _ c.in-Err-General.field-0-is c.requires c.in-Err-General.ensures

pub returns-in-Err-BadReject : goal.returns-in-Err-BadReject
returns-in-Err-BadReject c =
    bad_says c.args.tables.now c.args.syntax c.args.octets.now c.in-Err-BadReject.field-0 c.in-Err-BadReject.field-0-is c.requires c.in-Err-BadReject.ensures
