use Rattle.std.proofs.Common.{◌≡◌, Some, Ok, refl, sym, ap, ◌∙◌, subst}
use Rattle.ber_spelling.specs.declared.spot.StringKind.{StringKind}
use Rattle.ber_spelling.specs.declared.spot.Gathered.{Gathered}
use Rattle.ber_spelling.specs.Reading.{spot_of, opened_of, ◌>>=◌}
use Rattle.ber_spelling.specs.Rules.{nothing, segment_at, all_items_at, kind_of, whole_by, some_or_refuse}
use Rattle.ber_spelling.proofs.Steps.{FailsWith-same}
use Rattle.ber_spelling.proofs.Turns.{segmented_gives}
use Rattle.ber_spelling.proofs.strings.segmented.Goals as goal

pub returns-in-Some-clause-gives : goal.returns-in-Some-clause-gives
returns-in-Some-clause-gives c =
    let read = subst (λ (k : StringKind). all_items_at (segment_at k 32) (λ g. Some g) nothing c.in_ok-inside.inside (spot_of c.in_ok-inside.spot) ≡ Ok (c.in_ok-gathered.gathered, spot_of c.in_ok-gathered.after)) c.kind_of.ensures
    (subst (λ (n : Gathered). all_items_at (segment_at c.kind_of.result 32) (λ g. Some g) n c.in_ok-inside.inside (spot_of c.in_ok-inside.spot) ≡ Ok (c.in_ok-gathered.gathered, spot_of c.in_ok-gathered.after)) c.nothing.ensures c.in_ok-gathered.ensures.gives) in
    let ruled = sym c.whole.ensures ∙ c.in-Some.is in
    sym (segmented_gives (kind_of c.args.rule) (whole_by c.args.rule) c.args.tag c.args.scope.now _ (opened_of c.args.opened.now) (spot_of c.args.spot) _ _ _ _ c.in_ok-expect_tag.ensures.gives c.if-scope.false c.in_ok-inside.ensures.gives read)
    ∙ ap (λ o. some_or_refuse c.args.opened.now.start.place (λ v. v) o >>= λ v. Ok (v, spot_of c.in_ok-gathered.after)) ruled

pub returns-in-None-clause-gives : goal.returns-in-None-clause-gives
returns-in-None-clause-gives c =
    let read = subst (λ (k : StringKind). all_items_at (segment_at k 32) (λ g. Some g) nothing c.in_ok-inside.inside (spot_of c.in_ok-inside.spot) ≡ Ok (c.in_ok-gathered.gathered, spot_of c.in_ok-gathered.after)) c.kind_of.ensures
    (subst (λ (n : Gathered). all_items_at (segment_at c.kind_of.result 32) (λ g. Some g) n c.in_ok-inside.inside (spot_of c.in_ok-inside.spot) ≡ Ok (c.in_ok-gathered.gathered, spot_of c.in_ok-gathered.after)) c.nothing.ensures c.in_ok-gathered.ensures.gives) in
    let ruled = sym c.whole.ensures ∙ c.in-None.is in
    FailsWith-same c.refusal-in-None.result _ _
    (sym (ap (λ o. some_or_refuse c.args.opened.now.start.place (λ v. v) o >>= λ v. Ok (v, spot_of c.in_ok-gathered.after)) ruled)
    ∙ segmented_gives (kind_of c.args.rule) (whole_by c.args.rule) c.args.tag c.args.scope.now _ (opened_of c.args.opened.now) (spot_of c.args.spot) _ _ _ _ c.in_ok-expect_tag.ensures.gives c.if-scope.false c.in_ok-inside.ensures.gives read)
    (rw c.refusal-in-None.ensures refl)
