use Rattle.std.proofs.Common.{◌≡◌, Some, sym, ap, ◌∙◌}
use Rattle.std.specs.Prelude.{slice_get}
use Rattle.std.proofs.lemmas.Bool.{ltb-true}
use Rattle.module_compiler.proofs.Slots.{slot_of}
use Rattle.module_compiler.specs.declared.scope.Followed.TheVariants.{Known}
use Rattle.module_compiler.proofs.Aliases.{behind_plain}
use Rattle.module_compiler.proofs.scope.known_at.Goals as goal

pub returns-in-Some-NotYet : goal.returns-in-Some-NotYet
returns-in-Some-NotYet c = behind_plain c.args.assignments.now c.args.place (sym c.is_type.ensures ∙ c.if-is_type.true)

pub returns-in-Some-Known : goal.returns-in-Some-Known
returns-in-Some-Known c =
    let slot : slice_get c.args.followed.now c.args.place ≡ Some (Known c.in-Some-Known.found) = slot_of c.args.followed.now c.args.place c.in-Some-Known.field-0.now (ltb-true _ _ (sym c.in-Some-Known.ensures.lookup.0)) c.in-Some-Known.ensures.lookup.1 ∙ ap Some c.in-Some-Known.field-0-is in
    c.requires c.args.place (Known c.in-Some-Known.found) slot
