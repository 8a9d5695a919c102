use Rattle.std.proofs.Common.{refl, sym, ap, ◌∙◌}
use Rattle.end_rules.specs.Base.{Fault}
use Rattle.end_rules.specs.Reacting.{fails}
use Rattle.association_line.specs.association_reading.Meaning.{meaning}
use Rattle.association_line.specs.association_reading.Reacting.{on_meaning, react_to_unit}
use Rattle.association_words.specs.Seen.{seen_fault}
use Rattle.association_reacting.specs.association_state.Seen.{base_in, seen}
use Rattle.association_reacting.proofs.Reactions.{result_by}
use Rattle.association_end.proofs.Units.{unconnected, purged, misplaced, meant_so}
use Rattle.association_end.proofs.reading.react_to_unit.Goals as goal

pub returns-then-not-has_connection : goal.returns-then-not-has_connection
returns-then-not-has_connection c =
    let b = base_in c.args.basis.now in
    let old = seen c.args.body.now in
    result_by (react_to_unit b old c.args.unit.now c.args.start) (fails old old.link.accepted (seen_fault c.at.result)) old (seen c.fails_on_accepted.new.body) c.fails_on_accepted.result
    (unconnected b old c.args.unit.now c.args.start (sym c.has_connection.ensures ∙ c.if-not-has_connection.true) ∙ ap (λ (f : Fault). fails old old.link.accepted f) (sym c.at.ensures))
    c.fails_on_accepted.ensures

pub returns-then-is_unit_purged : goal.returns-then-is_unit_purged
returns-then-is_unit_purged c = record {
  is = purged (base_in c.args.basis.now) (seen c.args.body.now) c.args.unit.now c.args.start (sym c.has_connection.ensures ∙ c.if-not-has_connection.false) (sym c.is_unit_purged.ensures ∙ c.if-is_unit_purged.true);
  body = refl;
}

pub returns-then-not-is_unit_in_place : goal.returns-then-not-is_unit_in_place
returns-then-not-is_unit_in_place c =
    let b = base_in c.args.basis.now in
    let old = seen c.args.body.now in
    result_by (react_to_unit b old c.args.unit.now c.args.start) (fails old old.link.accepted (seen_fault c.at-then-not-is_unit_in_place.result)) old (seen c.fails_on_accepted-then-not-is_unit_in_place.new.body) c.fails_on_accepted-then-not-is_unit_in_place.result
    (misplaced b old c.args.unit.now c.args.start (sym c.has_connection.ensures ∙ c.if-not-has_connection.false) (sym c.is_unit_purged.ensures ∙ c.if-is_unit_purged.false) (sym c.is_unit_in_place.ensures ∙ c.if-not-is_unit_in_place.true)
    ∙ ap (λ (f : Fault). fails old old.link.accepted f) (sym c.at-then-not-is_unit_in_place.ensures))
    c.fails_on_accepted-then-not-is_unit_in_place.ensures

pub returns : goal.returns
returns c =
    let b = base_in c.args.basis.now in
    let old = seen c.args.body.now in
    result_by (react_to_unit b old c.args.unit.now c.args.start) (on_meaning b old c.args.unit.now (meaning b old c.args.unit.now c.args.start)) old (seen c.react_to_meaning.new.body) c.react_to_meaning.result
    (meant_so b old c.args.unit.now c.args.start (sym c.has_connection.ensures ∙ c.if-not-has_connection.false) (sym c.is_unit_purged.ensures ∙ c.if-is_unit_purged.false) (sym c.is_unit_in_place.ensures ∙ c.if-not-is_unit_in_place.false))
    c.react_to_meaning.ensures
