-- What is read of all octets is spelled by them, and the other way round.
use Rattle.std.proofs.Common.{◌≡◌, ℕ, Bool, true, false, cond, List, [], length, Result, Ok, Err, refl, sym, ap, ◌∙◌, subst, arith}
use Rattle.std.specs.Prelude.{nat_eq}
use Rattle.std.proofs.lemmas.Bool.{eqb-true}
use Rattle.std.proofs.Math.Seq.{take-length}
use Rattle.std.proofs.lemmas.List.{append-nil}
use Rattle.asn1_types.specs.Value.{Value}
use Rattle.osi_base.specs.declared.layer_words.Kind.TheVariants.{Extra}
use Rattle.ber_spelling.specs.Reading.{Reading}
use Rattle.ber_spelling.specs.Rules.{read_at}
use Rattle.ber_spelling.specs.Spelling.{Spells}
use Rattle.ber_spelling.proofs.WholeValues.{read_is_spelled, spelled_is_read}
use Rattle.fixed_tables.specs.declared.pdu.PduFault as units
use Rattle.fixed_tables.specs.declared.pdu.PduFault.TheVariants as unit
use Rattle.fixed_tables.specs.Whole.{of_whole}
use Rattle.fixed_tables.specs.Laws.{WholeIsSpelled, SpelledIsWhole}

-- what was read used all octets
whole_is : (end : ℕ) (r : Reading (Value × ℕ)) (v : Value) → of_whole end r ≡ Ok v → r ≡ Ok (v, end)
whole_is end (Ok x) v e = by_test (nat_eq x.1 end) refl e
  where
    by_test : (b : Bool) → nat_eq x.1 end ≡ b → cond {A = Result Value units.PduFault} b (Ok x.0) (Err (unit.At x.1 Extra)) ≡ Ok v → ◌≡◌ {A = Reading (Value × ℕ)} (Ok x) (Ok (v, end))
    by_test true t e = let used : x.1 ≡ end = eqb-true x.1 end t in let same : x.0 ≡ v = cc in ap (λ (w : Value). Ok (w, x.1)) same ∙ ap (λ (n : ℕ). Ok (v, n)) used
    by_test false t e = absurd cc
whole_is end (Err f) v e = absurd cc

pub whole_is_spelled : WholeIsSpelled
whole_is_spelled rows n limit bytes v are e =
    let read = whole_is (length bytes) (read_at rows n false limit bytes) v e in
    let found = read_is_spelled rows n false limit bytes v (length bytes) are read in
    subst (λ (x : List ℕ). Spells rows n false limit v x) (take-length bytes) found.1

pub spelled_is_whole : SpelledIsWhole
spelled_is_whole rows n limit bytes v sound p =
    let read = spelled_is_read rows n false limit v bytes [] sound p in
    let same : read_at rows n false limit bytes ≡ Ok (v, length bytes) = ap (read_at rows n false limit) (sym (append-nil bytes)) ∙ read in
    ap (of_whole (length bytes)) same ∙ by_test (nat_eq (length bytes) (length bytes)) (itself (length bytes))
  where
    itself : (n : ℕ) → nat_eq n n ≡ true
    itself n = grind arith

    by_test : (b : Bool) → b ≡ true → cond {A = Result Value units.PduFault} b (Ok v) (Err (unit.At (length bytes) Extra)) ≡ Ok v
    by_test true t = refl
    by_test false t = absurd cc
