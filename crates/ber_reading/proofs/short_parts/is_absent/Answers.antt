use Rattle.std.proofs.Common.{◌≡◌, ◌%◌, Bool, true, false, not, ◌∙◌, sym, ap, refl, arith}
use Rattle.std.specs.Prelude.{slice_index_or}
use Rattle.std.proofs.lemmas.Bool.{ne_eqb}
use Rattle.asn1_types.specs.Rows.{begins}
use Rattle.ber_spelling.specs.Reading.{spot_of}
use Rattle.ber_reading.proofs.ShortParts.{looks, absent_is}
use Rattle.ber_reading.proofs.short_parts.is_absent.Goals as goal

falls : (b : Bool) → not b ≡ true → b ≡ false
falls true e = absurd cc
falls false e = refl

pub returns-in-len1-up : goal.returns-in-len1-up
returns-in-len1-up c = λ other.
    let other' = falls c.row_begins.result other in
    absent_is c.args.table.now c.args.part.now c.args.scope.now (spot_of c.args.spot) _ _ (looks c.args.scope.now _ c.args.reach c.requires.reach c.args.spot.place c.args.spot.rest.now (omega arith) c.in-len1-up.len_at_least (ne_eqb (slice_index_or c.args.spot.rest.now 0 0 % 32) 31 c.if-first-ne31.true)) (sym c.may_be_absent.ensures ∙ c.if-may_be_absent.true)
    (ap (λ class. begins c.args.table.now c.args.part.now.inner.0 class (slice_index_or c.args.spot.rest.now 0 0 % 32)) (sym c.class_of.ensures) ∙ sym c.row_begins.ensures ∙ other')
