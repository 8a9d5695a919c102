-- What an end hears in a head, over what each end keeps.
use Rattle.std.proofs.Common.{◌≡◌, ℕ, ℤ, Bool, true, false, not, ◌&&◌, nat_le, cond, List, [], ◌∷◌, ◌++◌, length, Option, Some, None, is_some, refl, sym, ap, subst, ◌∙◌}
use Rattle.std.specs.Option.{option_map}
use Rattle.osi_base.specs.declared.layer_words.ProblemKind.TheVariants as problems
use Rattle.stub_tables.specs.declared.tables.Tables.{Tables}
use Rattle.stub_tables.specs.declared.operation.Code.{Code}
use Rattle.stub_tables.specs.declared.operation.Use.{Use}
use Rattle.stub_tables.specs.declared.operation.Operation.{Operation}
use Rattle.stub_tables.specs.Lookup.{operation_at, operation_with}
use Rattle.stub_tables.specs.Apdus.{placed}
use Rattle.linked_ops.specs.Entries.{Entry, is_open, is_open_or_none}
use Rattle.end_wire.specs.end_rules.Base.{Base, Carried, Absent, Spelled, Unspelled, InvokeHead}
use Rattle.end_wire.specs.end_rules.State as ends
use Rattle.end_wire.specs.end_rules.Invoking.{is_linked_to, operation_of}
use Rattle.end_wire.specs.end_rules.Hearing as rules
use Rattle.rose_roles.specs.declared.invoked_with.InvokedWith.{InvokedWith}
use Rattle.rose_roles.specs.declared.apdu_problems.ValueOrProblem as values_or_problems
use Rattle.rose_roles.specs.declared.apdu_problems.ValueOrProblem.TheVariants as value_or_problem
use Rattle.rose_roles.specs.declared.apdu_taken.RoseTaken.TheVariants as taken
use Rattle.rose_roles.specs.Calls.{Kept, Invoking, called, key_of, side, operation_or_none, AreOpen, open_calls_in, calls_of}
use Rattle.rose_roles.specs.ApduProblems as of_apdus
use Rattle.rose_roles.specs.Hearing.{heard_with}
use Rattle.rose_roles.proofs.Keys.{AreApart}
use Rattle.rose_roles.proofs.Opens.{found, not_found}
use Rattle.rose_roles.proofs.Counts.{Once, counts}

-- ---- an open invocation is the one that is kept

abbrev pub Matches : Option ends.OpenCall → Option InvokedWith → Type 0
Matches None None = Unit {0}
Matches (Some o) (Some c) = o.operation ≡ c.operation
Matches None (Some c) = ⊥
Matches (Some o) None = ⊥

matching_by : (b : Bool) (id : ℤ) (es : List Entry) (i p : Kept) (c : Option InvokedWith) → c ≡ called id (side b i p) → is_open (key_of b id) es ≡ is_some c → Matches (ends.opened_with b id (open_calls_in es i p)) c
matching_by b id es i p None is e = subst (λ (x : Option ends.OpenCall). Matches x None) (sym (not_found i p b id es e)) tt
matching_by b id es i p (Some c) is e =
    let f = found i p b id es e in
    subst (λ (x : Option ends.OpenCall). Matches x (Some c)) (sym f.1) (f.2 ∙ ap operation_or_none (sym is))

pub matching : (b : Bool) (id : ℤ) (es : List Entry) (i p : Kept) → AreOpen b es (side b i p) → Matches (ends.opened_with b id (open_calls_in es i p)) (called id (side b i p))
matching b id es i p h = matching_by b id es i p (called id (side b i p)) refl (h.each id)

there_both : (o : Option ends.OpenCall) (c : Option InvokedWith) → Matches o c → is_some o ≡ is_some c
there_both None None m = refl
there_both (Some o) (Some c) m = refl
there_both None (Some c) m = absurd m
there_both (Some o) None m = absurd m

operation_both : (base : Base) (o : Option ends.OpenCall) (c : Option InvokedWith) → Matches o c → operation_of base o ≡ of_apdus.operation_called base.tables c
operation_both base None None m = refl
operation_both base (Some o) (Some c) m = ap (operation_at base.tables) m
operation_both base None (Some c) m = absurd m
operation_both base (Some o) None m = absurd m

-- ---- problems

pub right_is : (base : Base) (used : Use) (carried : Carried) → rules.is_right base used carried ≡ of_apdus.is_right base.tables.types used carried
right_is base used Absent = refl
right_is base used (Spelled v) = refl
right_is base used Unspelled = refl

silent_by : (base : Base) (place : ℕ) (o : Option Operation) → operation_at base.tables place ≡ o → rules.is_silent_at base (Some place) ≡ of_apdus.silent (operation_at base.tables place)
silent_by base place None e = rw e refl
silent_by base place (Some o) e = rw e refl

pub silent_is : (base : Base) (place : Option ℕ) → rules.is_silent_at base place ≡ of_apdus.silent (placed (operation_at base.tables) place)
silent_is base None = refl
silent_is base (Some place) = silent_by base place (operation_at base.tables place) refl

argument_is : (base : Base) (o : Option Operation) (carried : Carried) → rules.argument_problem base o carried ≡ of_apdus.operation_argument_problem base.tables o carried
argument_is base None carried = refl
argument_is base (Some o) carried = ap (λ (b : Bool). rules.problem_if (not b) 2) (right_is base o.argument carried)

assoc : (a b c d : Option ℕ) → rules.first_problem a (rules.first_problem b (rules.first_problem c d)) ≡ rules.first_problem (rules.first_problem a (rules.first_problem b c)) d
assoc None None c d = refl
assoc None (Some n) c d = refl
assoc (Some n) b c d = refl

module _ (base : Base) (es : List Entry) (own : Invoking) (performed : Kept) (mine : AreOpen true es own.kept) where
  abbrev calls : ends.Calls
  calls = calls_of es own performed

  link_is : (place : ℕ) (linked : Option ℤ) → rules.link_problem base calls place linked ≡ of_apdus.linking_problem base.tables own.kept linked place
  link_is place None = refl
  link_is place (Some l) =
      let m = matching true l es own.kept performed mine in
      let x = there_both _ _ m in
      let y = operation_both base _ _ m in
      λ k. rules.first_problem (rules.problem_if (not (x k)) 5) (rules.first_problem (rules.problem_if (not (rules.has_links (y k))) 6) (rules.problem_if (not (is_linked_to (y k) place)) 7))

  operation_is : (place : Option ℕ) (linked : Option ℤ) (carried : Carried)
      → rules.operation_problem base calls place linked carried ≡ rules.first_problem (of_apdus.known_problem base.tables own.kept linked place) (of_apdus.argument_problem base.tables place carried)
  operation_is None linked carried = refl
  operation_is (Some place) linked carried =
      let x = link_is place linked in
      let y = argument_is base (operation_at base.tables place) carried in
      λ k. rules.first_problem (x k) (y k)

  module _ (theirs : AreOpen false es performed) (apart : AreApart es) (once : Once performed) where
    pub invoke_is : (id : ℤ) (linked : Option ℤ) (place : Option ℕ) (carried : Carried)
        → rules.invoke_problem base calls id linked place carried ≡ of_apdus.invoke_problem base.tables own.kept performed id linked place carried
    invoke_is id linked place carried =
        let x = there_both _ _ (matching false id es own.kept performed theirs) in
        let n = counts false own.kept performed es performed apart once theirs in
        let s = silent_is base place in
        let w = operation_is place linked carried in
        (λ k. rules.first_problem (rules.problem_if (x k) 0) (rules.first_problem (rules.problem_if (nat_le 4096 (n k) && not (s k)) 3) (w k)))
        ∙ assoc (rules.problem_if (is_some (called id performed)) 0) (rules.problem_if (nat_le 4096 (length performed) && not (of_apdus.silent (placed (operation_at base.tables) place))) 3) (of_apdus.known_problem base.tables own.kept linked place) (of_apdus.argument_problem base.tables place carried)

    pub wrong_invoke : (context : ℕ) (id : ℤ) (linked : Option ℤ) (code : Code) (carried : Carried) (number : ℕ)
        → of_apdus.invoke_problem base.tables own.kept performed id linked (operation_with base.tables code) carried ≡ Some number
        → heard_with calls (taken.Reject (Some id) (rules.problem_with problems.Invoke number)) ≡ rules.hear base calls context (InvokeHead id linked code carried)
    wrong_invoke context id linked code carried number e =
        sym (ap (λ (p : Option ℕ). rules.unless_problem p (rules.rejected calls (Some id) problems.Invoke) (rules.invoked base calls context id linked (operation_with base.tables code) carried)) (invoke_is id linked (operation_with base.tables code) carried ∙ e))

    pub right_invoke : (context : ℕ) (id : ℤ) (linked : Option ℤ) (code : Code) (carried : Carried)
        → of_apdus.invoke_problem base.tables own.kept performed id linked (operation_with base.tables code) carried ≡ None
        → rules.invoked base calls context id linked (operation_with base.tables code) carried ≡ rules.hear base calls context (InvokeHead id linked code carried)
    right_invoke context id linked code carried e =
        sym (ap (λ (p : Option ℕ). rules.unless_problem p (rules.rejected calls (Some id) problems.Invoke) (rules.invoked base calls context id linked (operation_with base.tables code) carried)) (invoke_is id linked (operation_with base.tables code) carried ∙ e))

-- ---- without a problem the identifier is free and the link is open

none_of : (a b : Option ℕ) → rules.first_problem a b ≡ None → (a ≡ None) × (b ≡ None)
none_of None b e = (refl, e)
none_of (Some n) b e = absurd cc

not_if : (b : Bool) (n : ℕ) → rules.problem_if b n ≡ None → b ≡ false
not_if true n e = absurd cc
not_if false n e = refl

no_some : (c : Option InvokedWith) → is_some c ≡ false → c ≡ None
no_some None e = refl
no_some (Some c) e = absurd cc

pub is_free : (t : Tables) (i p : Kept) (id : ℤ) (linked : Option ℤ) (place : Option ℕ) → of_apdus.early_problem t i p id linked place ≡ None → called id p ≡ None
is_free t i p id linked place e = no_some _ (not_if _ 0 (none_of _ _ e).0)

not_not : (b : Bool) → not b ≡ false → b ≡ true
not_not true e = refl
not_not false e = absurd cc

one_none : rules.first_problem (Some 1) None ≡ None → ⊥
one_none e = cc

pub link_open : (t : Tables) (es : List Entry) (i p : Kept) (id : ℤ) (linked : Option ℤ) (place : Option ℕ) → AreOpen true es i
    → of_apdus.early_problem t i p id linked place ≡ None → is_open_or_none (option_map (key_of true) linked) es ≡ true
link_open t es i p id None place mine e = refl
link_open t es i p id (Some l) None mine e =
    let x = (none_of _ _ (none_of _ _ e).1).1 in absurd (one_none x)
link_open t es i p id (Some l) (Some place) mine e =
    let x = (none_of _ _ (none_of _ _ e).1).1 in mine.each l ∙ not_not _ (not_if _ 5 (none_of _ _ x).0)

-- ---- as the calls say it

pub later : (C : Carried → Type 0) (early : Option ℕ) (p : Carried → Option ℕ) (j : values_or_problems.ValueOrProblem) → early ≡ None
    → ((c : Carried) → C c → of_apdus.IsValueOrProblem (p c) (rules.value_in c) j) → (c : Carried) → C c → of_apdus.IsValueOrProblem (rules.first_problem early (p c)) (rules.value_in c) j
later C early p j e h c k = subst (λ (x : Option ℕ). of_apdus.IsValueOrProblem (rules.first_problem x (p c)) (rules.value_in c) j) (sym e) (h c k)

free_of : (early : Option ℕ) (j : values_or_problems.ValueOrProblem) → early ≡ None → of_apdus.IsFree early j
free_of early (value_or_problem.Right v) e = e
free_of early (value_or_problem.Wrong n) e = tt

pub is_free_of : (early : Option ℕ) (j : values_or_problems.ValueOrProblem) → early ≡ None → of_apdus.IsFree early j
is_free_of early j e = free_of early j e

module _ (base : Base) (t : Tables) (same : base.tables ≡ t) (o : ends.OpenCall) (calls : ends.Calls) where
  silent_same : (b : Bool) → of_apdus.silent (placed (operation_at t) (Some o.operation)) ≡ b → rules.is_silent_at base (Some o.operation) ≡ b
  silent_same b e = silent_is base (Some o.operation) ∙ ap (λ (x : Tables). of_apdus.silent (placed (operation_at x) (Some o.operation))) same ∙ e

  pub not_admitted : of_apdus.silent (placed (operation_at t) (Some o.operation)) ≡ true → calls ≡ rules.with_opened base o calls
  not_admitted e = sym (ap (λ (b : Bool). cond b calls (record calls { opens = calls.opens ++ o ∷ [] })) (silent_same true e))

  pub admitted : of_apdus.silent (placed (operation_at t) (Some o.operation)) ≡ false → record calls { opens = calls.opens ++ o ∷ [] } ≡ rules.with_opened base o calls
  admitted e = sym (ap (λ (b : Bool). cond b calls (record calls { opens = calls.opens ++ o ∷ [] })) (silent_same false e))

module _ (base : Base) (t : Tables) (same : base.tables ≡ t) (es : List Entry) (own : Invoking) (performed : Kept) (mine : AreOpen true es own.kept) (theirs : AreOpen false es performed) (apart : AreApart es) (once : Once performed)
    (context : ℕ) (id : ℤ) (linked : Option ℤ) (code : Code) (place : Option ℕ) (is : place ≡ operation_with t code) (carried : Carried) where
  at_base : (p : Option ℕ) → of_apdus.invoke_problem t own.kept performed id linked place carried ≡ p → of_apdus.invoke_problem base.tables own.kept performed id linked (operation_with base.tables code) carried ≡ p
  at_base p e = (λ k. of_apdus.invoke_problem (same k) own.kept performed id linked (operation_with (same k) code) carried) ∙ ap (λ (x : Option ℕ). of_apdus.invoke_problem t own.kept performed id linked x carried) (sym is) ∙ e

  pub heard_wrong : (number : ℕ) → of_apdus.invoke_problem t own.kept performed id linked place carried ≡ Some number
      → heard_with (calls_of es own performed) (taken.Reject (Some id) (rules.problem_with problems.Invoke number)) ≡ rules.hear base (calls_of es own performed) context (InvokeHead id linked code carried)
  heard_wrong number e = wrong_invoke base es own performed mine theirs apart once context id linked code carried number (at_base (Some number) e)

  pub heard_right : of_apdus.invoke_problem t own.kept performed id linked place carried ≡ None
      → rules.invoked base (calls_of es own performed) context id linked place carried ≡ rules.hear base (calls_of es own performed) context (InvokeHead id linked code carried)
  heard_right e =
      ap (λ (x : Option ℕ). rules.invoked base (calls_of es own performed) context id linked x carried) (is ∙ ap (λ (x : Tables). operation_with x code) (sym same))
      ∙ right_invoke base es own performed mine theirs apart once context id linked code carried (at_base None e)
