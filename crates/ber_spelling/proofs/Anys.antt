-- Any one value: what is read is spelled so, and what is spelled so is read.
use Rattle.std.proofs.Common.{◌≡◌, ℕ, ◌+◌, ◌-◌, ◌<◌, List, [], ◌∷◌, ◌++◌, ◌%◌, inl, inr, length, take, Ok, refl, sym, ap, ◌∙◌, subst, arith, length-append}
use Rattle.std.specs.Prelude.{nat_eq}
use Rattle.std.proofs.lemmas.List.{take_at}
use Rattle.osi_base.specs.declared.layer_words.Kind.TheVariants.{Tag}
use Rattle.asn1_types.specs.Value.{Value, boolean, integer, null, octets, bits, object_id, text, parts, list, chosen, any}
use Rattle.ber_spelling.specs.declared.fault.ReadFault.TheVariants as faults
use Rattle.ber_spelling.specs.declared.spot.Scope.{Scope}
use Rattle.ber_spelling.specs.Reading.{Spot, Opened, within}
use Rattle.ber_spelling.specs.Fields.{identifier_at, high_at, digits_at, is_lax, opened_at}
use Rattle.ber_spelling.specs.Rules.{whole_at, any_at}
use Rattle.ber_spelling.specs.Spelling.{IsWhole, AnyIs}
use Rattle.ber_spelling.proofs.Identifiers.{IsIn, bind_ok, chosen_ok, unless_ok, ok_is, identifier_found}
use Rattle.ber_spelling.proofs.WholeReads.{IsTagged, whole_found, whole_only}
use Rattle.ber_spelling.proofs.Steady.{ReadAs, Found, ReadBack, Only}

pub any_found : Found any_at (λ strict. AnyIs)
unfolding any_at
any_found = record {
  found = λ scope place rest o s v to are opens e.
      let i = identifier_found scope place rest o s are opens in
      let b = bind_ok (whole_at 32 tt scope o s) (λ w. Ok (any (take (length o.start.rest - length w.1.rest) o.start.rest), w.1)) (v, to) e in
      let after : Spot = b.0.1 in
      let r = (whole_found 32 tt).found scope place rest o s b.0.0 after are opens b.1 in
      let kept : take (length o.start.rest - length after.rest) o.start.rest ≡ r.text =
      ap (λ (x : Spot). take (length x.rest - length after.rest) x.rest) i.start ∙ ap (λ (x : List ℕ). take (length x - length after.rest) x) r.taken.parts ∙ take_at r.text after.rest (length (r.text ++ after.rest) - length after.rest) (omega (arith, length-append r.text after.rest)) in
      let same = ok_is {A = Value × Spot} (any (take (length o.start.rest - length after.rest) o.start.rest), after) (v, to) b.2 in
      let v-is : any r.text ≡ v = ap any (sym kept) ∙ ap (λ (x : Value × Spot). x.0) same in
      let to-is : after ≡ to = ap (λ (x : Value × Spot). x.1) same in
      subst (λ (y : Value). ReadAs (λ strict. AnyIs) scope place rest y to) v-is (subst (λ (y : Spot). ReadAs (λ strict. AnyIs) scope place rest (any r.text) y) to-is (record {
        text = r.text;
        taken = r.taken;
        spelled = (r.spelled.0, refl, r.spelled.1);
        is_in = r.is_in;
      }));
}

-- an identifier that was read begins where reading began
opened_start : (scope : Scope) (place : ℕ) (rest : List ℕ) (o : Opened) (s : Spot) → identifier_at scope place rest ≡ Ok (o, s) → o.start.rest ≡ rest
unfolding identifier_at high_at
opened_start scope place [] o s e = absurd cc
opened_start scope place (first ∷ rest) o s e =
    let u = unless_ok (nat_eq scope.levels 0) (faults.TooDeep place) _ (o, s) e in
    let b = bind_ok (within scope place (place + 1)) _ (o, s) u.1 in
    elim (chosen_ok (nat_eq (first % 32) 31) _ _ (o, s) b.2) [
      | inl t ↦
          let d = bind_ok (digits_at scope place 0 (place + 1) rest) _ (o, s) t.1 in
          let l = unless_ok (is_lax rest d.0.0) (faults.NotSpelled place Tag) _ (o, s) d.2 in
          ap (λ (x : Opened × Spot). x.0.start.rest) (sym (ok_is {A = Opened × Spot} (opened_at place (first ∷ rest) first d.0.0, d.0.1) (o, s) l.1))
      | inr t ↦ ap (λ (x : Opened × Spot). x.0.start.rest) (sym (ok_is {A = Opened × Spot} (opened_at place (first ∷ rest) first (first % 32), record { place = place + 1; rest = rest }) (o, s) t.1))
    ]

any_only_by : (scope : Scope) (place : ℕ) (spelled rest : List ℕ) → 0 < scope.levels → IsWhole 32 spelled → IsIn scope (place + length spelled)
    → ReadBack IsTagged any_at scope place spelled rest (any spelled)
unfolding any_at
any_only_by scope place spelled rest level w here =
    let r = (whole_only 32 tt).only scope place tt spelled rest (level, w) here in
    let begun : r.opened.start.rest ≡ spelled ++ rest = opened_start scope place (spelled ++ rest) r.opened r.spot r.opens in
    let kept : take (length r.opened.start.rest - length rest) r.opened.start.rest ≡ spelled =
    ap (λ (x : List ℕ). take (length x - length rest) x) begun ∙ take_at spelled rest (length (spelled ++ rest) - length rest) (omega (arith, length-append spelled rest)) in
    record {
      opened = r.opened;
      spot = r.spot;
      first = r.first;
      others = r.others;
      begins = r.begins;
      some = r.some;
      opens = r.opens;
      allowed = r.allowed;
      reads = rw r.reads (ap (λ (x : List ℕ). Ok (any x, record { place = place + length spelled; rest = rest })) kept);
    }

pub any_only : Only IsTagged any_at (λ strict. AnyIs)
any_only = record { only = λ scope place v spelled rest p here. by_value scope place v spelled rest p here }
  where
    by_value : (scope : Scope) (place : ℕ) (v : Value) (spelled rest : List ℕ) → AnyIs scope.levels v spelled → IsIn scope (place + length spelled) → ReadBack IsTagged any_at scope place spelled rest v
    by_value scope place (any os) spelled rest p here =
        subst (λ (x : List ℕ). ReadBack IsTagged any_at scope place spelled rest (any x)) p.1 (any_only_by scope place spelled rest p.0 (subst (IsWhole 32) (sym p.1) p.2) here)
    by_value scope place (boolean x) spelled rest p here = absurd p
    by_value scope place (integer x) spelled rest p here = absurd p
    by_value scope place null spelled rest p here = absurd p
    by_value scope place (octets x) spelled rest p here = absurd p
    by_value scope place (bits x n) spelled rest p here = absurd p
    by_value scope place (object_id x) spelled rest p here = absurd p
    by_value scope place (text x) spelled rest p here = absurd p
    by_value scope place (parts x) spelled rest p here = absurd p
    by_value scope place (list x) spelled rest p here = absurd p
    by_value scope place (chosen n x) spelled rest p here = absurd p
