use Rattle.std.proofs.Common.{◌≡◌, ◌==◌, ℕ, length, drop, sym, ap, subst, ◌∙◌, rules, tests}
use Rattle.std.proofs.lemmas.List.{length_push}
use Rattle.std.proofs.lemmas.Iterator.Consumers.{YieldsList-at, YieldsList-turn, YieldsList-end}
use Rattle.std.proofs.lemmas.Iterator.Splits.{YieldsList-from_slice_split}
use Rattle.trace_file.specs.Lines.{pieces_of}
use Rattle.trace_file.specs.Reading.{line_at, line_of, line_result, added, more_octets, read_told}
use Rattle.trace_file.proofs.Steps.{empty_on, no_word, word_on, field_on, bad_field, line_ends, is_none_left, is_left, none_of}
use Rattle.trace_file.proofs.reading.read_line.Goals as goal

pub loop-field-preserved-then-is_empty : goal.loop-field-preserved-then-is_empty
loop-field-preserved-then-is_empty c =
    let t = YieldsList-turn (YieldsList-at c.into_iter-field-iterator.ensures.into_iter_gives (YieldsList-from_slice_split _ (λ octet. octet == 32) c.args.line.now c.split-field-items.ensures.rest c.split-field-items.ensures.done c.split-field-items.ensures.closure (λ x b q k. search (rules, tests)))) c.loop-field.yielded _ c.loop-field.yielded_by _ _ c.in-Some.field c.in-Some.is c.next.ensures.steps in
    subst (λ (n : ℕ). line_at c.loop-field.from c.loop-field.octets (drop n (pieces_of c.args.line.now)) ≡ line_of c.args.line.now) (sym (length_push c.loop-field.yielded c.in-Some.field))
    (empty_on c.loop-field.from c.loop-field.octets (pieces_of c.args.line.now) (length c.loop-field.yielded) c.in-Some.field.now (line_of c.args.line.now) t (is_none_left c.in-Some.field.now (sym c.if-is_empty.ensures)) c.loop-field.invariant)

pub returns-then-is_none-2 : goal.returns-then-is_none-2
returns-then-is_none-2 c =
    let t = YieldsList-turn (YieldsList-at c.into_iter-field-iterator.ensures.into_iter_gives (YieldsList-from_slice_split _ (λ octet. octet == 32) c.args.line.now c.split-field-items.ensures.rest c.split-field-items.ensures.done c.split-field-items.ensures.closure (λ x b q k. search (rules, tests)))) c.loop-field.yielded _ c.loop-field.yielded_by _ _ c.in-Some.field c.in-Some.is c.next.ensures.steps in
    let none = c.if-is_none-2.ensures in
    ap (line_result c.args.number) (no_word c.loop-field.from c.loop-field.octets (pieces_of c.args.line.now) (length c.loop-field.yielded) c.in-Some.field.now (line_of c.args.line.now) t (is_left c.in-Some.field.now (sym c.if-is_empty.ensures)) c.if-is_none.ensures (none_of c.sender_of-from.result _ c.sender_of-from.ensures none) c.loop-field.invariant)

pub loop-field-preserved-else-is_none-2 : goal.loop-field-preserved-else-is_none-2
loop-field-preserved-else-is_none-2 c =
    let t = YieldsList-turn (YieldsList-at c.into_iter-field-iterator.ensures.into_iter_gives (YieldsList-from_slice_split _ (λ octet. octet == 32) c.args.line.now c.split-field-items.ensures.rest c.split-field-items.ensures.done c.split-field-items.ensures.closure (λ x b q k. search (rules, tests)))) c.loop-field.yielded _ c.loop-field.yielded_by _ _ c.in-Some.field c.in-Some.is c.next.ensures.steps in
    subst (λ (n : ℕ). line_at c.sender_of-from.result c.loop-field.octets (drop n (pieces_of c.args.line.now)) ≡ line_of c.args.line.now) (sym (length_push c.loop-field.yielded c.in-Some.field))
    (word_on c.loop-field.from c.sender_of-from.result c.loop-field.octets (pieces_of c.args.line.now) (length c.loop-field.yielded) c.in-Some.field.now (line_of c.args.line.now) t (is_left c.in-Some.field.now (sym c.if-is_empty.ensures)) c.if-is_none.ensures c.sender_of-from.ensures c.if-is_none-2.ensures c.loop-field.invariant)

pub returns-then-not-branch : goal.returns-then-not-branch
returns-then-not-branch c =
    let t = YieldsList-turn (YieldsList-at c.into_iter-field-iterator.ensures.into_iter_gives (YieldsList-from_slice_split _ (λ octet. octet == 32) c.args.line.now c.split-field-items.ensures.rest c.split-field-items.ensures.done c.split-field-items.ensures.closure (λ x b q k. search (rules, tests)))) c.loop-field.yielded _ c.loop-field.yielded_by _ _ c.in-Some.field c.in-Some.is c.next.ensures.steps in
    let whole : added c.in_ok-push_field.field-0 c.push_field.new.octets ≡ more_octets c.loop-field.octets c.in-Some.field.now = c.in_ok-push_field.ensures in
    let e = subst (λ b. added b c.push_field.new.octets ≡ more_octets c.loop-field.octets c.in-Some.field.now) c.if-not-branch.true whole in
    ap (line_result c.args.number) (bad_field c.loop-field.from c.loop-field.octets c.push_field.new.octets (pieces_of c.args.line.now) (length c.loop-field.yielded) c.in-Some.field.now (line_of c.args.line.now) t (is_left c.in-Some.field.now (sym c.if-is_empty.ensures)) c.if-is_none.ensures e c.loop-field.invariant)

pub loop-field-preserved : goal.loop-field-preserved
loop-field-preserved c =
    let whole : added c.in_ok-push_field.field-0 c.push_field.new.octets ≡ more_octets c.loop-field.octets c.in-Some.field.now = c.in_ok-push_field.ensures in
    let e = subst (λ b. added b c.push_field.new.octets ≡ more_octets c.loop-field.octets c.in-Some.field.now) c.if-not-branch.false whole in
    let t = YieldsList-turn (YieldsList-at c.into_iter-field-iterator.ensures.into_iter_gives (YieldsList-from_slice_split _ (λ octet. octet == 32) c.args.line.now c.split-field-items.ensures.rest c.split-field-items.ensures.done c.split-field-items.ensures.closure (λ x b q k. search (rules, tests)))) c.loop-field.yielded _ c.loop-field.yielded_by _ _ c.in-Some.field c.in-Some.is c.next.ensures.steps in
    subst (λ (n : ℕ). line_at c.loop-field.from c.push_field.new.octets (drop n (pieces_of c.args.line.now)) ≡ line_of c.args.line.now) (sym (length_push c.loop-field.yielded c.in-Some.field))
    (field_on c.loop-field.from c.loop-field.octets c.push_field.new.octets (pieces_of c.args.line.now) (length c.loop-field.yielded) c.in-Some.field.now (line_of c.args.line.now) t (is_left c.in-Some.field.now (sym c.if-is_empty.ensures)) c.if-is_none.ensures e c.loop-field.invariant)

pub returns-in-None-from : goal.returns-in-None-from
returns-in-None-from c =
    let t = YieldsList-end (YieldsList-at c.into_iter-field-iterator.ensures.into_iter_gives (YieldsList-from_slice_split _ (λ octet. octet == 32) c.args.line.now c.split-field-items.ensures.rest c.split-field-items.ensures.done c.split-field-items.ensures.closure (λ x b q k. search (rules, tests)))) c.loop-field.yielded _ c.loop-field.yielded_by _ _ c.in-None.is c.next.ensures.steps in
    let all = pieces_of c.args.line.now in
    ap (line_result c.args.number) (line_ends c.loop-field.from c.loop-field.octets all (length c.loop-field.yielded) (line_of c.args.line.now) t.1 c.loop-field.invariant ∙ ap (λ from. read_told from c.loop-field.octets) c.in-None-from.is)

pub returns-in-Some-from : goal.returns-in-Some-from
returns-in-Some-from c =
    let t = YieldsList-end (YieldsList-at c.into_iter-field-iterator.ensures.into_iter_gives (YieldsList-from_slice_split _ (λ octet. octet == 32) c.args.line.now c.split-field-items.ensures.rest c.split-field-items.ensures.done c.split-field-items.ensures.closure (λ x b q k. search (rules, tests)))) c.loop-field.yielded _ c.loop-field.yielded_by _ _ c.in-None.is c.next.ensures.steps in
    let all = pieces_of c.args.line.now in
    ap (line_result c.args.number) (line_ends c.loop-field.from c.loop-field.octets all (length c.loop-field.yielded) (line_of c.args.line.now) t.1 c.loop-field.invariant ∙ ap (λ from. read_told from c.loop-field.octets) c.in-Some-from.is)
