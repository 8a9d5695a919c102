use Rattle.std.proofs.Common.{◌≡◌, ◌-◌, suc, refl, ap, ◌∙◌, arith}
use Rattle.std.proofs.lemmas.Bool.Decides.{nat_tests}
use Rattle.operation_notation.specs.TreeView.{plain_of, parts_of as trees}
use Rattle.module_faults.specs.declared.kind.TableKind.TheVariants as kinds
use Rattle.module_faults.specs.Least.{at_name, if_so, least_from}
use Rattle.module_faults.specs.Facts.{clash, with_tags, parts_show, tagged, type_facts, type_shows}
use Rattle.module_faults.specs.Known.{facts_of, env_by}
use Rattle.module_faults.proofs.Steps.{always, if_ok, shows_none, facts_step}
use Rattle.module_faults.proofs.Loops.{loop_end}
use Rattle.module_faults.proofs.PartLoops.{parts_step}
use Rattle.module_faults.proofs.type_facts.Facing.+facing.Goals as goal

pub of_type-returns-then-levels-eq0-clause-shows :
    goal.of_type-returns-then-levels-eq0-clause-shows
of_type-returns-then-levels-eq0-clause-shows t c = always c.simple.result (shows_none (env_by c.args.self.now) c.args.levels c.args.of.now c.args.least.now.found c.if-levels-eq0.true)

pub of_type-returns-clause-facts : goal.of_type-returns-clause-facts
of_type-returns-clause-facts t c =
    let some : c.args.levels ≡ suc (c.args.levels - 1) = grind (arith, nat_tests, c.if-levels-eq0.false) in
    if_ok (λ f. facts_of f ≡ tagged c.of.inside.tag (facts_of c.in_ok-inner.inner)) (λ f. facts_of f ≡ type_facts (env_by c.args.self.now) c.args.levels c.args.of.now) c.tagged.result
    (λ f h. facts_step (env_by c.args.self.now) c.args.levels (c.args.levels - 1) c.args.of.now c.of.inside.line c.of.inside.column c.of.inside.tag (plain_of c.of.inside.plain) (facts_of c.in_ok-inner.inner) (facts_of f) some c.of.view_is c.in_ok-inner.ensures.facts h) c.tagged.ensures

pub parts-loop-rest-preserved : goal.parts-loop-rest-preserved
parts-loop-rest-preserved t c =
    let p = parts_step (type_facts (env_by c.args.self.now) c.args.levels) (type_shows (env_by c.args.self.now) c.args.levels) c.args.runs c.loop-rest.rest.now c.part-item.result c.loop-rest.nesting c.max-nesting.result c.loop-rest.before.keys c.add_tags.new.before.keys c.tags_behind-before.result.keys (facts_of c.in_ok-facts.facts) c.loop-rest.least.found c.of_type.new.least.found c.note_if.new.self.found c.default_fault.new.least.found _ _ _
    c.in-len1-up.len_at_least c.part-item.is c.in_ok-facts.ensures.facts c.in_ok-facts.ensures.shows
    (c.note_if.ensures ∙ ap (λ b. least_from c.of_type.new.least.found (if_so b (at_name c.part-item.result.name kinds.TagsNotDistinct))) (c.clashes-clash.ensures ∙ ap (clash c.loop-rest.before.keys) c.deref.ensures.value))
    c.default_fault.ensures c.max-nesting.ensures (c.in_ok-add_tags.ensures ∙ ap (with_tags c.loop-rest.before.keys) c.deref-in-len1-up.ensures.value) c.tags_behind-before.ensures
    (record { nesting = c.loop-rest.invariant.nesting; tags = c.loop-rest.invariant.tags; shown = c.loop-rest.invariant.shows }) in
    record { nesting = p.nesting; tags = p.tags; shows = p.shown }

pub parts-returns-clause-shows : goal.parts-returns-clause-shows
parts-returns-clause-shows t c =
    loop_end (λ ps. parts_show (type_facts (env_by c.args.self.now) c.args.levels) (type_shows (env_by c.args.self.now) c.args.levels) c.args.runs c.loop-rest.before.keys (trees ps)) c.loop-rest.rest.now c.loop-rest.least.found _ c.in_default.len_below refl c.loop-rest.invariant.shows
