use Rattle.std.proofs.Common.{◌≡◌, List, Some, Result, Ok, sym, ap, ◌∙◌}
use Rattle.std.specs.Prelude.{slice_get}
use Rattle.std.specs.Option.{option_copied}
use Rattle.end_rules.specs.Base.{Fault}
use Rattle.end_rules.specs.Messages as meant
use Rattle.association_intake.specs.association_reading.Values.{first_informed}
use Rattle.association_words.specs.declared.values.Information.{Information}
use Rattle.association_meaning.specs.Informing.{seen_items, with_first}
use Rattle.association_meaning.proofs.FirstItems.{first_read, first_fails}
use Rattle.association_meaning.proofs.Fails.{halts}
use Rattle.association_meaning.proofs.user_information.first_informed.Goals as goal

pub returns-in_err-read : goal.returns-in_err-read
returns-in_err-read c =
    let there : slice_get c.args.user 0 ≡ Some c.in-Some.item.now
    = ap (λ (xs : List Information). slice_get xs 0) (sym (c.deref.ensures.value ∙ c.into_vec-items.ensures)) ∙ sym c.first.ensures.value ∙ ap option_copied c.in-Some.is in
    halts seen_items c.from_residual.result (first_informed c.args.accepted.now (seen_items c.args.user)) c.in_err-read.field-0.0 c.from_residual.ensures.1 (first_fails c.in_err-read.field-0.0 c.args.accepted.now c.args.user c.in-Some.item.now there c.in_err-read.ensures)

pub returns : goal.returns
returns c =
    let there : slice_get c.args.user 0 ≡ Some c.in-Some.item.now
    = ap (λ (xs : List Information). slice_get xs 0) (sym (c.deref.ensures.value ∙ c.into_vec-items.ensures)) ∙ sym c.first.ensures.value ∙ ap option_copied c.in-Some.is in
    let items : c.from_vec-2.result ≡ with_first c.args.user c.in_ok-read.read
    = c.from_vec-2.ensures ∙ c.with_first.ensures ∙ ap (λ (xs : List Information). with_first xs c.in_ok-read.read) c.into_vec-items.ensures in
    first_read c.args.accepted.now c.args.user c.in-Some.item.now c.in_ok-read.read there c.in_ok-read.ensures
    ∙ ap (λ (xs : List Information). let r : Result (List meant.Information) Fault = Ok (seen_items xs) in r) (sym items)
