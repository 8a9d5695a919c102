-- One more part of a type.
use Rattle.std.proofs.Common.{◌≡◌, ℕ, ◌≤◌, Bool, List, ◌∷◌, ◌++◌, length, get_or, Option, sym, ap, ◌∙◌}
use Rattle.std.specs.Prelude.{max}
use Rattle.operation_notation.specs.Tree.{TypeTree}
use Rattle.operation_notation.specs.TreeView.{parts_of as trees}
use Rattle.operation_notation.specs.declared.module.PartText.{PartText}
use Rattle.module_faults.specs.declared.kind.TableKind.TheVariants as kinds
use Rattle.module_faults.specs.declared.least.Found.{Found}
use Rattle.module_faults.specs.declared.tags.Tag.{Tag}
use Rattle.module_faults.specs.Least.{at_name, if_so, least_from}
use Rattle.module_faults.specs.Facts.{Facts, with_tags, clash, tags_behind, default_faults, parts_nesting, parts_tags, parts_show}
use Rattle.module_faults.proofs.LeastLaws.{least_two}
use Rattle.module_faults.proofs.Loops.{rest_of, cons_of, loop_step}

pub record Parted (facts : TypeTree → Facts) (shows : TypeTree → List Found) (runs : Bool) (ps : List PartText) (n : ℕ) (before : List Tag) (s : Option Found) (wn : ℕ) (wt : List Tag) (w : Option Found) : Type 0 where
  pub nesting : parts_nesting facts n (trees ps) ≡ wn
  pub tags : parts_tags facts runs before (trees ps) ≡ wt
  pub shown : least_from s (parts_show facts shows runs before (trees ps)) ≡ w

module _ (facts : TypeTree → Facts) (shows : TypeTree → List Found) (runs : Bool) (xs : List PartText) (x : PartText) (n next : ℕ) (before added after : List Tag) (f : Facts) (s m o l : Option Found) (wn : ℕ) (wt : List Tag) (w : Option Found) where
  pub parts_step : 1 ≤ length xs → x ≡ get_or xs 0 x → f ≡ facts x.of → m ≡ least_from s (shows x.of) → o ≡ least_from m (if_so (clash before f.tags) (at_name x.name kinds.TagsNotDistinct))
      → l ≡ least_from o (default_faults f.base x.dflt) → next ≡ max n f.nesting → added ≡ with_tags before f.tags → after ≡ tags_behind runs x.optional x.dflt added
      → Parted facts shows runs xs n before s wn wt w → Parted facts shows runs (rest_of xs) next after l wn wt w
  parts_step lt is ef em eo el en ea eb p =
      let cons : xs ≡ x ∷ rest_of xs = cons_of xs x lt is in
      let a : List Found = shows x.of in
      let b : List Found = if_so (clash before (facts x.of).tags) (at_name x.name kinds.TagsNotDistinct) in
      let d : List Found = default_faults (facts x.of).base x.dflt in
      let behind : after ≡ tags_behind runs x.optional x.dflt (with_tags before (facts x.of).tags) =
      eb ∙ ap (λ (z : List Tag). tags_behind runs x.optional x.dflt z) (ea ∙ ap (λ (z : Facts). with_tags before z.tags) ef) in
      let second : o ≡ least_from m b = eo ∙ ap (λ (z : Facts). least_from m (if_so (clash before z.tags) (at_name x.name kinds.TagsNotDistinct))) ef in
      let third : l ≡ least_from o d = el ∙ ap (λ (z : Facts). least_from o (default_faults z.base x.dflt)) ef in
      record {
        nesting = ap (λ (z : ℕ). parts_nesting facts z (trees (rest_of xs))) (en ∙ ap (λ (z : Facts). max n z.nesting) ef) ∙ ap (λ (z : List PartText). parts_nesting facts n (trees z)) (sym cons) ∙ p.nesting;
        tags = ap (λ (z : List Tag). parts_tags facts runs z (trees (rest_of xs))) behind ∙ ap (λ (z : List PartText). parts_tags facts runs before (trees z)) (sym cons) ∙ p.tags;
        shown = loop_step (λ (ps : List PartText). parts_show facts shows runs before (trees ps)) xs x (a ++ (b ++ d)) (parts_show facts shows runs after (trees (rest_of xs))) s l w lt is
            (ap (λ (z : List Tag). (a ++ (b ++ d)) ++ parts_show facts shows runs z (trees (rest_of xs))) (sym behind))
            (least_two s m l a (b ++ d) em (least_two m o l b d second third)) p.shown;
      }
