use Rattle.std.proofs.Common.{◌≡◌, None, refl, ap, sym, ◌∙◌}
use Rattle.std.specs.Prelude.{is_some, List, ◌++◌, ◌∷◌, []}
use Rattle.linked_ops.specs.Entries.{Entry, is_open, is_open_or_none}
use Rattle.linked_ops.specs.Numbers.{number_in}
use Rattle.linked_ops.proofs.Forests.{open_numbered, none_numbered, above_open, opened_entries, opened_kept}
use Rattle.linked_ops.proofs.forest.Forest.open.Goals as goal

pub returns-then-is_some : goal.returns-then-is_some
returns-then-is_some c = (
  sym (ap (is_open c.args.key) c.self.view_is) ∙ open_numbered c.self.inside.openings.entries c.self.inside.nodes c.self.inside.numbers c.self.inside.made c.self.invariant c.args.key ∙ ap is_some (sym c.get.ensures) ∙ sym c.is_some.ensures ∙ c.if-is_some.true,
  refl,
  refl,
)

pub returns-in-Err : goal.returns-in-Err
returns-in-Err c = (
  sym (ap (is_open c.args.key) c.self.view_is) ∙ open_numbered c.self.inside.openings.entries c.self.inside.nodes c.self.inside.numbers c.self.inside.made c.self.invariant c.args.key ∙ ap is_some (sym c.get.ensures) ∙ sym c.is_some.ensures ∙ c.if-is_some.false,
  c.in-Err.ensures.0,
  sym (ap (is_open c.in-Err.parent) c.self.view_is) ∙ open_numbered c.self.inside.openings.entries c.self.inside.nodes c.self.inside.numbers c.self.inside.made c.self.invariant c.in-Err.parent ∙ ap is_some c.in-Err.ensures.1,
  refl,
)

pub invariant_of-self-2 : goal.invariant_of-self-2
invariant_of-self-2 c =
    opened_kept c.self.inside.openings.entries c.self.inside.nodes c.self.inside.numbers c.self.inside.made c.self.invariant c.args.key c.args.parent c.in-Ok.under c.in-Ok.ensures
    (none_numbered (number_in c.args.key c.self.inside.numbers) (ap is_some (sym c.get.ensures) ∙ sym c.is_some.ensures ∙ c.if-is_some.false))
    c.enter.new.openings.entries c.enter.new.nodes c.enter.new.numbers c.in_ok-enter.ensures.ok

pub returns : goal.returns
returns c =
    let n : number_in c.args.key c.self.inside.numbers ≡ None =
    none_numbered (number_in c.args.key c.self.inside.numbers) (ap is_some (sym c.get.ensures) ∙ sym c.is_some.ensures ∙ c.if-is_some.false) in (
      sym (ap (is_open c.args.key) c.self.view_is) ∙ open_numbered c.self.inside.openings.entries c.self.inside.nodes c.self.inside.numbers c.self.inside.made c.self.invariant c.args.key ∙ ap is_some n,
      sym (ap (is_open_or_none c.args.parent) c.self.view_is) ∙ above_open c.self.inside.openings.entries c.self.inside.nodes c.self.inside.numbers c.self.inside.made c.self.invariant c.args.parent c.in-Ok.under c.in-Ok.ensures,
      opened_entries c.self.inside.openings.entries c.self.inside.nodes c.self.inside.numbers c.self.inside.made c.self.invariant c.args.key c.args.parent c.in-Ok.under c.in-Ok.ensures n c.enter.new.openings.entries c.enter.new.nodes c.enter.new.numbers c.in_ok-enter.ensures.ok
          ∙ ap (λ (es : List Entry). es ++ (c.args.key, c.args.parent) ∷ []) c.self.view_is,
    )
