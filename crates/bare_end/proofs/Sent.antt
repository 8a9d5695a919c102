-- What is sent in bare mode is written in BER.
use Rattle.std.proofs.Common.{◌≡◌, ℕ, zero, suc, ℤ, Bool, true, false, not, cond, ◌&&◌, if◌then◌else◌, is_some, List, [], ◌∷◌, ◌++◌, map, Option, Some, None, Ok, refl, sym, ap, ◌∙◌, arith}
use Rattle.std.specs.Prelude.{nat_eq}
use Rattle.std.proofs.lemmas.List.{append-nil}
use Rattle.std.proofs.lemmas.Bool.{eqb-true}
use Rattle.rose_roles.proofs.Keys.{bool_cases}
use Rattle.asn1_types.specs.declared.value.Val.{Val}
use Rattle.osi_base.specs.declared.syntax.Syntax.{Syntax}
use Rattle.osi_base.specs.declared.syntax.Syntax.TheVariants.{Ber}
use Rattle.stub_tables.specs.declared.tables.Tables.{Tables}
use Rattle.stub_tables.specs.declared.operation.Operation.{Operation}
use Rattle.stub_tables.specs.declared.operation.ErrorRow.{ErrorRow}
use Rattle.stub_tables.specs.declared.apdu.Apdu.{Apdu}
use Rattle.stub_tables.specs.Lookup.{operation_at, error_at}
use Rattle.apdu_spelling.specs.Writing.{written_apdu}
use Rattle.dialogue.specs.declared.call.Call.TheVariants as the_calls
use Rattle.osi_base.specs.declared.syntax.Pair.{Pair}
use Rattle.ber_spelling.proofs.Steady.{eqb_itself}
use Rattle.end_rules.specs.Messages.{Message}
use Rattle.end_rules.specs.Sets.{same_name, has_abstract, lowest_with}
use Rattle.osi_base.specs.SetPlaces.{pair_of}
use Rattle.end_rules.specs.State.{OpenCall, bare_set, opened_with, close}
use Rattle.end_rules.specs.Hearing.{data_on, syntax_of, with_opened}
use Rattle.end_rules.specs.Invoking.{invoke_apdu, result_apdu, error_apdu, carrier_in}
use Rattle.end_rules.specs.Requesting.{due_of, due_invoke, due_outcome, after_invoke, after_outcome, result_for, error_for, sent_at_once, operation_opened}
use Rattle.end_rules.specs.History.{called, sent}
use Rattle.end_wire.specs.Line.{End, after_all}
use Rattle.end_wire.specs.Bare.{written}
use Rattle.bare_end.specs.View.{EndView, base, body, seen, Stepped, with_calls, with_waiting}

bare_ber : (t : Tables) (context : ℕ) → syntax_of (pair_of (bare_set t) context) ≡ Ber
bare_ber t context = elim (nat_eq 0 context) as (λ b. syntax_of (cond b (Some (record { abstract_name = t.name_oid; transfer = Ber })) None) ≡ Ber) [ true ↦ refl | false ↦ refl ]

pub written_on : (e : EndView) (context : ℕ) (apdu : Apdu) → written e.tables (data_on (body e) context apdu) ≡ written_apdu e.tables Ber apdu
written_on e context apdu =
    append-nil (written_apdu e.tables (syntax_of (pair_of (bare_set e.tables) context)) apdu)
    ∙ ap (λ (s : Syntax). written_apdu e.tables s apdu) (bare_ber e.tables context)

-- an end with octets more that wait
waits_more : (e : End) (text more : List ℕ) → text ≡ more → record e { line = record e.line { waiting = e.line.waiting ++ text } } ≡ record e { line = record e.line { waiting = e.line.waiting ++ more } }
waits_more e text more h = ap (λ (x : List ℕ). record e { line = record e.line { waiting = e.line.waiting ++ x } }) h

module _ (e : EndView) (context place : ℕ) (id : ℤ) (linked : Option ℤ) (operation : Operation) (argument : Option Val) (there : operation_at e.tables place ≡ Some operation) where
  abbrev called_so : OpenCall
  called_so = record { own = true; id = id; operation = place; context = context; parent = linked }

  abbrev begun : EndView
  begun = with_calls (with_opened (base e) called_so (record e.calls { made = suc e.calls.made })) e

  abbrev text : List ℕ
  text = written_apdu e.tables Ber (invoke_apdu operation id linked argument)

  -- an invocation that was accepted
  pub invoked : (new : EndView) → new ≡ with_waiting text begun
      → Stepped e new (called (the_calls.Invoke context place argument linked) (Ok (Some id)) ∷ map sent (due_of (base e) (body e) (the_calls.Invoke context place argument linked) (Ok (Some id))))
  invoked new is = record {
    tables = ap (λ (x : EndView). x.tables) is;
    config = ap (λ (x : EndView). x.config) is;
    end = ap seen is
        ∙ waits_more (seen begun) text (written e.tables (data_on (body e) context (invoke_apdu operation id linked argument))) (sym (written_on e context (invoke_apdu operation id linked argument)))
        ∙ ap (λ (o : Option Operation). after_all (base e)
        (record { body = after_invoke (base e) (body e) context place id linked o argument; line = (seen e).line })
        (map sent (due_invoke (base e) (body e) context id linked o argument))) (sym there);
  }

-- ---- outcomes

and_then : (b c : Bool) → b ≡ true → c ≡ true → b && c ≡ true
and_then true c e f = f
and_then false c e f = absurd cc

same_name_itself : (xs : List ℕ) → same_name xs xs ≡ true
same_name_itself [] = refl
same_name_itself (x ∷ xs) = and_then (nat_eq x x) (same_name xs xs) (eqb_itself x) (same_name_itself xs)

-- context 0 has the module's abstract syntax, and no other is there
not_eq : (a b : ℕ) → (a ≡ b → ⊥) → nat_eq a b ≡ false
not_eq a b n = bool_cases (nat_eq a b) (λ t. absurd (n (eqb-true a b t))) (λ f. f)

abbrev pair_in : Tables → Bool → Option Pair
pair_in t b = if b then Some (record { abstract_name = t.name_oid; transfer = Ber }) else None

pub on_module : (t : Tables) (context : ℕ) → nat_eq context 0 ≡ has_abstract t.name_oid (pair_of (bare_set t) context)
on_module t zero = sym (same_name_itself t.name_oid)
on_module t (suc n) =
    not_eq (suc n) 0 (λ e. omega arith) ∙ sym (ap (λ (b : Bool). has_abstract t.name_oid (pair_in t b)) (not_eq 0 (suc n) (λ e. omega arith)))

pub lowest_is : (t : Tables) → Some 0 ≡ lowest_with t.name_oid [] (bare_set t)
lowest_is t = sym (ap (λ (b : Bool). if b && not false then Some 0 else None) (same_name_itself t.name_oid))

pub pair_here : (t : Tables) (context : ℕ) (p : Pair) → context ≡ 0 → p ≡ record { abstract_name = t.name_oid; transfer = Ber } → Some p ≡ pair_of (bare_set t) context
pair_here t context p e f = ap Some f ∙ ap (pair_of (bare_set t)) (sym e)

pub pair_not : (t : Tables) (context : ℕ) → (context ≡ 0 → ⊥) → None ≡ pair_of (bare_set t) context
pair_not t zero n = absurd (n refl)
pair_not t (suc k) n = sym (ap (pair_in t) (not_eq 0 (suc k) (λ e. omega arith)))

-- some context carries an outcome
abbrev pair_if : List ℕ → Bool → Option Pair
pair_if name b = if b then Some (record { abstract_name = name; transfer = Ber }) else None

abbrev carried_on : List ℕ → ℕ → Bool → Bool → Option ℕ
carried_on name context b same = if is_some (pair_if name b) && not false then Some context else (if same && not false then Some 0 else None)

carried : (e : EndView) (context : ℕ) → (on : ℕ) × (carrier_in (base e) (body e) context ≡ Some on)
carried e context = by (nat_eq 0 context) refl
  where
    by : (b : Bool) → nat_eq 0 context ≡ b → (on : ℕ) × (carrier_in (base e) (body e) context ≡ Some on)
    by true h = (context, ap (λ (b : Bool). carried_on e.tables.name_oid context b (same_name e.tables.name_oid e.tables.name_oid)) h)
    by false h = (
      0,
      ap (λ (b : Bool). carried_on e.tables.name_oid context b (same_name e.tables.name_oid e.tables.name_oid)) h
          ∙ ap (λ (same : Bool). carried_on e.tables.name_oid context false same) (same_name_itself e.tables.name_oid),
    )

module _ (e new : EndView) (id : ℤ) (o : OpenCall) (apdu : Apdu) (is : new ≡ with_waiting (written_apdu e.tables Ber apdu) (with_calls (close false id e.calls) e)) where
  abbrev closing : End
  closing = record { body = after_outcome (base e) (body e) id (Some o) (Some apdu); line = (seen e).line }

  abbrev sends : Option ℕ → List Message
  sends on = sent_at_once (base e).mode (body e) on apdu

  outcome_end : seen new ≡ after_all (base e) closing (map sent (due_outcome (base e) (body e) (Some o) (Some apdu)))
  outcome_end =
      let c = carried e o.context in
      ap seen is
      ∙ waits_more (seen (with_calls (close false id e.calls) e)) (written_apdu e.tables Ber apdu) (written e.tables (data_on (body e) c.0 apdu)) (sym (written_on e c.0 apdu))
      ∙ ap (λ (on : Option ℕ). after_all (base e) closing (map sent (sends on))) (sym c.1)

pub answered : (e new : EndView) (id : ℤ) (value : Option Val) (o : OpenCall) (operation : Operation) → opened_with false id e.calls.opens ≡ Some o → operation_at e.tables o.operation ≡ Some operation
    → new ≡ with_waiting (written_apdu e.tables Ber (result_apdu operation id value)) (with_calls (close false id e.calls) e)
    → Stepped e new (called (the_calls.Answer id value) (Ok None) ∷ map sent (due_of (base e) (body e) (the_calls.Answer id value) (Ok None)))
answered e new id value o operation found there is = record {
  tables = ap (λ (x : EndView). x.tables) is;
  config = ap (λ (x : EndView). x.config) is;
  end = outcome_end e new id o (result_apdu operation id value) is
      ∙ ap (λ (q : Option Operation). after_all (base e) (record { body = after_outcome (base e) (body e) id (Some o) (result_for id value q); line = (seen e).line })
      (map sent (due_outcome (base e) (body e) (Some o) (result_for id value q)))) (sym there)
      ∙ ap (λ (q : Option OpenCall). after_all (base e) (record { body = after_outcome (base e) (body e) id q (result_for id value (operation_opened (base e) q)); line = (seen e).line })
      (map sent (due_outcome (base e) (body e) q (result_for id value (operation_opened (base e) q))))) (sym found);
}

pub refused : (e new : EndView) (id : ℤ) (place : ℕ) (parameter : Option Val) (o : OpenCall) (error : ErrorRow) → opened_with false id e.calls.opens ≡ Some o → error_at e.tables place ≡ Some error
    → new ≡ with_waiting (written_apdu e.tables Ber (error_apdu error id parameter)) (with_calls (close false id e.calls) e)
    → Stepped e new (called (the_calls.Refuse id place parameter) (Ok None) ∷ map sent (due_of (base e) (body e) (the_calls.Refuse id place parameter) (Ok None)))
refused e new id place parameter o error found there is = record {
  tables = ap (λ (x : EndView). x.tables) is;
  config = ap (λ (x : EndView). x.config) is;
  end = outcome_end e new id o (error_apdu error id parameter) is
      ∙ ap (λ (q : Option ErrorRow). after_all (base e) (record { body = after_outcome (base e) (body e) id (Some o) (error_for id parameter q); line = (seen e).line })
      (map sent (due_outcome (base e) (body e) (Some o) (error_for id parameter q)))) (sym there)
      ∙ ap (λ (q : Option OpenCall). after_all (base e) (record { body = after_outcome (base e) (body e) id q (error_for id parameter (error_at e.tables place)); line = (seen e).line })
      (map sent (due_outcome (base e) (body e) q (error_for id parameter (error_at e.tables place))))) (sym found);
}
