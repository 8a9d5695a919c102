use Rattle.std.proofs.Common.{◌<◌, length, ◌∙◌, sym, ap, subst, ℕ, ◌≡◌}
use Rattle.std.specs.Prelude.{slice_index, List}
use Rattle.std.specs.List.{AllByRecursion}
use Rattle.asn1_types.specs.declared.row.TypeRow.{TypeRow}
use Rattle.asn1_types.specs.Rows.{names_of, nesting_by, nesting}
use Rattle.asn1_types.proofs.Adding.{kept_nesting}
use Rattle.asn1_types.proofs.table.TypeTable.nesting.Goals as goal

pub nesting_of-requires : goal.nesting_of-requires
nesting_of-requires c =
    let same : length c.args.self.now ≡ length c.deref.result.now = ap length (sym c.self.view_is) ∙ sym c.self.invariant.len ∙ ap length (sym c.deref.ensures.value) in
    subst (λ (n : ℕ). AllByRecursion (λ m. m < n) (names_of c.args.row.now)) same c.requires

pub returns : goal.returns
returns c =
    let rows = c.self.inside.rows.items in
    let below : AllByRecursion (λ m. m < length rows) (names_of c.args.row.now) = subst (λ (n : ℕ). AllByRecursion (λ m. m < n) (names_of c.args.row.now)) (ap length (sym c.self.view_is)) c.requires in
    c.nesting_of.ensures
    ∙ ap (λ (xs : List ℕ). nesting_by (λ n. slice_index xs n) c.args.row.now) c.deref.ensures.value
    ∙ kept_nesting rows c.self.inside.nestings.items c.self.invariant c.args.row.now below
    ∙ ap (λ (rs : List TypeRow). nesting_by (nesting rs) c.args.row.now) c.self.view_is
