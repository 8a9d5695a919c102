-- What is kept of invocations as they are opened, closed and taken.
use Rattle.std.proofs.Common.{◌≡◌, ℕ, ◌+◌, ◌<◌, ◌≤◌, ℤ, pos, Bool, true, false, not, ◌&&◌, cond, List, [], ◌∷◌, ◌++◌, map, filter, Option, Some, None, Result, Ok, Err, is_some, refl, sym, ap, subst, ◌∙◌, arith}
use Rattle.std.specs.Option.{option_map}
use Rattle.std.specs.Prelude.{IfOk, OnOk, OnErr}
use Rattle.osi_base.specs.declared.fault.NoMemory.{NoMemory}
use Rattle.std.specs.Ordering.{int_eq}
use Rattle.osi_base.specs.declared.syntax.Syntax.{Syntax}
use Rattle.osi_base.specs.declared.layer_words.Problem.{Problem}
use Rattle.stub_tables.specs.declared.tables.Tables.{Tables}
use Rattle.stub_tables.specs.declared.operation.Code.{Code}
use Rattle.dialogue.specs.declared.config.Mode.TheVariants.{Bare}
use Rattle.dialogue.specs.declared.config.Config.{Config}
use Rattle.dialogue.specs.declared.indication.Indication.TheVariants as indications
use Rattle.rose_roles.specs.apdu_spelling.declared.head.ApduHead.{ApduHead}
use Rattle.linked_ops.specs.declared.key.Key.{Key}
use Rattle.linked_ops.specs.Keys.{same_bool, same_key}
use Rattle.linked_ops.specs.Entries.{Entry, is_open, is_open_or_none}
use Rattle.rose_roles.specs.end_rules.Base.{Base, Carried, HeardHead, General, BadReject, InvokeHead, ResultHead, ErrorHead, RejectHead}
use Rattle.rose_roles.specs.end_rules.State as ends
use Rattle.rose_roles.specs.end_rules.State.{Calls, OpenCall, opened_with}
use Rattle.rose_roles.specs.end_rules.Hearing as rules
use Rattle.rose_roles.specs.end_wire.Bare.{bare_base}
use Rattle.rose_roles.specs.declared.invoked_with.InvokedWith.{InvokedWith}
use Rattle.rose_roles.specs.declared.apdu_taken.RoseTaken as takens
use Rattle.rose_roles.specs.declared.apdu_taken.RoseTaken.TheVariants as taken
use Rattle.rose_roles.specs.Calls.{Kept, Invoking, Performing, called, side, key_of, operation_or_none, context_or_none, open_call, AreOpen, open_calls_in, calls_of}
use Rattle.rose_roles.specs.Heads.{said_by}
use Rattle.rose_roles.specs.Hearing.{Hears, heard_with}
use Rattle.rose_roles.proofs.Keys.{bool_cases, ids_are, keys_are, or_rest}
use Rattle.rose_roles.proofs.Opens.{found, not_found}
use Rattle.rose_roles.proofs.Hearings.{Matches, matching}
use Rattle.open_invocations.specs.Invocations.{AreKept, is_link, is_link_back, called_in, operation_in, SomeCarried}

-- ---- a key is open exactly where its invocation is

pub some_matches : (o : Option OpenCall) (c : Option InvokedWith) → Matches o c → is_some c ≡ is_some o
some_matches None None m = refl
some_matches (Some o) (Some c) m = refl
some_matches None (Some c) m = absurd m
some_matches (Some o) None m = absurd m

pub operation_matches : (o : Option OpenCall) (c : Option InvokedWith) → Matches o c → option_map (λ (x : InvokedWith). x.operation) c ≡ operation_in o
operation_matches None None m = refl
operation_matches (Some o) (Some c) m = ap Some (sym m)
operation_matches None (Some c) m = absurd m
operation_matches (Some o) None m = absurd m

none_is : {X : Type 0} (o : Option X) → o ≡ None → is_some o ≡ false
none_is o e = ap is_some e

pub not_open : (own : Bool) (id : ℤ) (es : List Entry) (i p : Kept) → opened_with own id (open_calls_in es i p) ≡ None → is_open (key_of own id) es ≡ false
not_open own id es i p e =
    bool_cases (is_open (key_of own id) es)
    (λ t. let f = found i p own id es t in let x : Some f.0 ≡ None = sym f.1 ∙ e in absurd cc)
    (λ f. f)

pub link_is : (linked : Option ℤ) (es : List Entry) (i p : Kept) → AreOpen false es p → is_link linked (open_calls_in es i p) ≡ true → is_open_or_none (option_map (key_of false) linked) es ≡ true
link_is None es i p h e = refl
link_is (Some id) es i p h e =
    h.each id ∙ some_matches (opened_with false id (open_calls_in es i p)) (called id p) (matching false id es i p h) ∙ e

-- the operation that is called is that of the open invocation
pub operation_called : (own : Bool) (id : ℤ) (es : List Entry) (i : Invoking) (p : Kept) → AreKept es i p → option_map (λ (x : InvokedWith). x.operation) (called id (side own i.kept p)) ≡ operation_in (opened_with own id (open_calls_in es i.kept p))
operation_called true id es i p h = operation_matches (opened_with true id (open_calls_in es i.kept p)) (called id i.kept) (matching true id es i.kept p h.own)
operation_called false id es i p h = operation_matches (opened_with false id (open_calls_in es i.kept p)) (called id p) (matching false id es i.kept p h.peer)

pub some_in : (o : Option OpenCall) (r : Option ℕ) → r ≡ operation_in o → is_some r ≡ is_some o
some_in None r e = ap is_some e
some_in (Some o) r e = ap is_some e

-- ---- what an open invocation called

whose : (b o : Bool) → cond b o (not o) ≡ same_bool o b
whose true true = refl
whose true false = refl
whose false true = refl
whose false false = refl

module _ (i p : Kept) (b : Bool) (id : ℤ) where
  key_test : (e : Entry) → ends.is_key b id (open_call i p e) ≡ same_key e.0 (key_of b id)
  key_test e = ap (λ (x : Bool). x && int_eq e.0.id id) (whose b e.0.own)

  abbrev CalledSo : Option OpenCall → Option InvokedWith → Type 0
  CalledSo o (Some c) = called_in o ≡ Some c
  CalledSo o None = Unit {0}

  first_called : (e : Entry) (c : Option InvokedWith) → called e.0.id (side e.0.own i p) ≡ c → CalledSo (Some (open_call i p e)) c
  first_called e None h = tt
  first_called e (Some c) h = ap (λ (x : Option InvokedWith). Some (record { operation = operation_or_none x; context = context_or_none x })) h

  called_there : (es : List Entry) → is_open (key_of b id) es ≡ true → (c : Option InvokedWith) → called id (side b i p) ≡ c → CalledSo (opened_with b id (open_calls_in es i p)) c
  called_there [] h c is = absurd cc
  called_there (e ∷ es) h c is =
      bool_cases (same_key e.0 (key_of b id))
      (λ t.
      let same : called e.0.id (side e.0.own i p) ≡ c = ap (λ (z : Key). called z.id (side z.own i p)) (keys_are e.0 (key_of b id) t) ∙ is in
      subst (λ (o : Option OpenCall). CalledSo o c) (sym (ap (λ (x : Bool). cond x (Some (open_call i p e)) (opened_with b id (open_calls_in es i p))) (key_test e ∙ t))) (first_called e c same))
      (λ f.
      subst (λ (o : Option OpenCall). CalledSo o c) (sym (ap (λ (x : Bool). cond x (Some (open_call i p e)) (opened_with b id (open_calls_in es i p))) (key_test e ∙ f)))
      (called_there es (sym (or_rest (same_key e.0 (key_of b id)) _ f) ∙ h) c is))

pub called_so : (own : Bool) (id : ℤ) (es : List Entry) (i : Invoking) (p : Kept) → AreKept es i p → called id (side own i.kept p) ≡ called_in (opened_with own id (open_calls_in es i.kept p))
called_so own id es i p h = by own (opened_with own id (open_calls_in es i.kept p)) (called id (side own i.kept p)) refl refl (each own)
  where
    each : (b : Bool) → is_open (key_of b id) es ≡ is_some (called id (side b i.kept p))
    each true = h.own.each id
    each false = h.peer.each id

    by : (b : Bool) (o : Option OpenCall) (c : Option InvokedWith) → opened_with b id (open_calls_in es i.kept p) ≡ o → called id (side b i.kept p) ≡ c → is_open (key_of b id) es ≡ is_some (called id (side b i.kept p)) → c ≡ called_in o
    by b o (Some c) f g e = sym (subst (λ (x : Option OpenCall). CalledSo i.kept p b id x (Some c)) f (called_there i.kept p b id es (e ∙ ap is_some g) (Some c) g))
    by b None None f g e = refl
    by b (Some o) None f g e = let n = not_found i.kept p b id es (e ∙ ap is_some g) in let x : Some o ≡ None = sym f ∙ n in absurd cc

-- an identifier of the peer that isn't open isn't called
pub shut_is : (id : ℤ) (es : List Entry) (i : Invoking) (p : Kept) → AreKept es i p → opened_with false id (open_calls_in es i.kept p) ≡ None → called id p ≡ None
shut_is id es i p h e = called_so false id es i p h ∙ ap called_in e

pub link_back_is : (linked : Option ℤ) (es : List Entry) (i p : Kept) → AreOpen true es i → is_link_back linked (open_calls_in es i p) ≡ true → is_open_or_none (option_map (key_of true) linked) es ≡ true
link_back_is None es i p h e = refl
link_back_is (Some id) es i p h e =
    h.each id ∙ some_matches (opened_with true id (open_calls_in es i p)) (called id i) (matching true id es i p h) ∙ e

-- ---- an identifier that isn't open stays so

module _ (own : Bool) (id : ℤ) where
  abbrev Shut : List OpenCall → Type 0
  Shut os = opened_with own id os ≡ None

  first_shut : (o : OpenCall) (os : List OpenCall) → Shut (o ∷ os) → (ends.is_key own id o ≡ false) × Shut os
  first_shut o os s =
      bool_cases (ends.is_key own id o)
      (λ t. let x : Some o ≡ None = sym (ap (λ (b : Bool). cond b (Some o) (opened_with own id os)) t) ∙ s in absurd cc)
      (λ f. (f, sym (ap (λ (b : Bool). cond b (Some o) (opened_with own id os)) f) ∙ s))

  with_first : (o : OpenCall) (os : List OpenCall) → ends.is_key own id o ≡ false → Shut os → Shut (o ∷ os)
  with_first o os f s = ap (λ (b : Bool). cond b (Some o) (opened_with own id os)) f ∙ s

  pub shut_last : (os : List OpenCall) (o : OpenCall) → Shut os → ends.is_key own id o ≡ false → Shut (os ++ o ∷ [])
  shut_last [] o s f = with_first o [] f refl
  shut_last (x ∷ os) o s f = let t = first_shut x os s in with_first x (os ++ o ∷ []) t.0 (shut_last os o t.1 f)

  module _ (b : Bool) (k : ℤ) where
    key_stays : (o : OpenCall) (t : Bool) → ends.is_key own id (cond t (record o { parent = None }) o) ≡ ends.is_key own id o
    key_stays o true = refl
    key_stays o false = refl

    orphan_key : (o : OpenCall) (p : Option ℤ) → ends.is_key own id (ends.orphaned b k (record o { parent = p })) ≡ ends.is_key own id (record o { parent = p })
    orphan_key o None = refl
    orphan_key o (Some parent) = key_stays (record o { parent = Some parent }) (int_eq parent k && not (ends.is_whose b o))

    orphans : (os : List OpenCall) → Shut os → Shut (map (ends.orphaned b k) os)
    orphans [] s = refl
    orphans (o ∷ os) s =
        let t = first_shut o os s in
        with_first (ends.orphaned b k o) (map (ends.orphaned b k) os) (orphan_key o o.parent ∙ t.0) (orphans os t.1)

    others : (os : List OpenCall) → Shut os → Shut (filter (λ o. not (ends.is_key b k o)) os)
    others [] s = refl
    others (o ∷ os) s =
        let t = first_shut o os s in
        bool_cases (ends.is_key b k o)
        (λ y. subst Shut (sym (ap (λ (x : Bool). cond (not x) (o ∷ filter (λ o. not (ends.is_key b k o)) os) (filter (λ o. not (ends.is_key b k o)) os)) y)) (others os t.1))
        (λ n. subst Shut (sym (ap (λ (x : Bool). cond (not x) (o ∷ filter (λ o. not (ends.is_key b k o)) os) (filter (λ o. not (ends.is_key b k o)) os)) n)) (with_first o (filter (λ o. not (ends.is_key b k o)) os) t.0 (others os t.1)))

    pub shut_closed : (os : List OpenCall) → Shut os → Shut (ends.closed b k os)
    shut_closed os s = orphans (filter (λ o. not (ends.is_key b k o)) os) (others os s)

-- ---- what is heard opens nothing of this end

-- from these calls, no own invocation was opened, and none counted
pub record Quiet (old new : Calls) : Type 0 where
  pub made : new.made ≡ old.made
  pub shut : (id : ℤ) → opened_with true id old.opens ≡ None → opened_with true id new.opens ≡ None

quiet : (c : Calls) → Quiet c c
quiet c = record { made = refl; shut = λ id s. s }

pub quiet_closed : (b : Bool) (k : ℤ) (c : Calls) → Quiet c (ends.close b k c)
quiet_closed b k c = record { made = refl; shut = λ id s. shut_closed true id b k c.opens s }

module _ (base : Base) (c : Calls) (at : ℕ) where
  abbrev Q : rules.Heard → Type 0
  Q h = Quiet c h.calls

  unless : (problem : Option ℕ) (refused : ℕ → rules.Heard) (heard : rules.Heard) → ((n : ℕ) → Q (refused n)) → Q heard → Q (rules.unless_problem problem refused heard)
  unless None refused heard f g = g
  unless (Some number) refused heard f g = f number

  opened : (id : ℤ) (place context : ℕ) (linked : Option ℤ) (silent : Bool)
      → Quiet c (cond silent c (record c { opens = c.opens ++ record { own = false; id = id; operation = place; context = context; parent = linked } ∷ [] }))
  opened id place context linked true = quiet c
  opened id place context linked false = record { made = refl; shut = λ k s. shut_last true k c.opens (record { own = false; id = id; operation = place; context = context; parent = linked }) s refl }

  of_invoke : (id : ℤ) (linked : Option ℤ) (place : Option ℕ) (argument : Carried) → Q (rules.invoked base c at id linked place argument)
  of_invoke id linked None argument = quiet c
  of_invoke id linked (Some place) argument = opened id place at linked (rules.is_silent_at base (Some place))

  of_result : (id : ℤ) (o : Option OpenCall) (code : Option Code) (value : Carried) → Q (rules.hear_result_of base c id o code value)
  of_result id None code value = quiet c
  of_result id (Some o) code value = unless _ _ _ (λ n. quiet_closed true id c) (quiet_closed true id c)

  error_told : (id : ℤ) (place : Option ℕ) (parameter : Carried) → Q (rules.showing_error (ends.close true id c) id place parameter)
  error_told id None parameter = quiet_closed true id c
  error_told id (Some place) parameter = quiet_closed true id c

  of_error : (id : ℤ) (o : Option OpenCall) (place : Option ℕ) (parameter : Carried) → Q (rules.hear_error_of base c id o place parameter)
  of_error id None place parameter = quiet c
  of_error id (Some o) place parameter = unless _ _ _ (λ n. quiet_closed true id c) (error_told id place parameter)

  of_reject : (id : Option ℤ) (problem : Problem) → Q (rules.hear_reject c id problem)
  of_reject None problem = quiet c
  of_reject (Some id) problem = by (rules.is_of_invocation problem.kind && is_some (opened_with true id c.opens))
    where
      by : (b : Bool) → Q (cond b (rules.showing (ends.close true id c) (indications.Rejected id problem)) (rules.showing c (indications.RejectTaken (Some id) problem)))
      by true = quiet_closed true id c
      by false = quiet c

  pub hearing_is_quiet : (h : HeardHead) → Q (rules.hear base c at h)
  hearing_is_quiet (General number) = quiet c
  hearing_is_quiet BadReject = quiet c
  hearing_is_quiet (InvokeHead id linked code argument) = unless _ _ _ (λ n. quiet c) (of_invoke id linked _ argument)
  hearing_is_quiet (ResultHead id code value) = of_result id _ code value
  hearing_is_quiet (ErrorHead id code parameter) = of_error id _ _ parameter
  hearing_is_quiet (RejectHead id problem) = of_reject id problem

-- ---- what a taking leaves

pub calls_heard : (c : Calls) (t : takens.RoseTaken) → (heard_with c t).calls ≡ c
calls_heard c (taken.Invoked id operation linked argument) = refl
calls_heard c (taken.Result id value) = refl
calls_heard c (taken.Error id error parameter) = refl
calls_heard c (taken.Rejected id problem) = refl
calls_heard c (taken.RejectTaken id problem) = refl
calls_heard c taken.BadReject = refl
calls_heard c (taken.Reject id problem) = refl

-- an invocation of the peer was admitted
pub admitted_quiet : (base : Base) (c new : Calls) (id : ℤ) (place at : ℕ) (linked : Option ℤ) → new ≡ rules.with_opened base (record { own = false; id = id; operation = place; context = at; parent = linked }) c → Quiet c new
admitted_quiet base c new id place at linked e = subst (Quiet c) (sym e) (opened base c at id place at linked (rules.is_silent_at base (Some place)))

-- some base with these tables
some_config : Config
some_config = record { initiator = true; mode = Bare; contexts = []; accepts = []; calling = []; called = []; reference = []; common = []; checkpoint = 0; window = 1 }

pub taking_is_quiet : (syntax : Syntax) (at : ℕ) (tables : Tables) (head : ApduHead) (old new : Calls) (t : takens.RoseTaken) → SomeCarried tables syntax head → Hears tables syntax at head old new t → Quiet old new
taking_is_quiet syntax at tables head old new t s h =
    let base : Base = bare_base tables some_config in
    let e : new ≡ (rules.hear base old at (said_by head s.carried)).calls
    = sym (calls_heard new t) ∙ ap (λ (x : rules.Heard). x.calls) (h base s.carried refl s.carries) in
    subst (Quiet old) (sym e) (hearing_is_quiet base old at (said_by head s.carried))

-- ---- what is kept

pub apart_numbers : (a b : ℕ) → a < b → int_eq (pos a) (pos b) ≡ false
apart_numbers a b less =
    bool_cases (int_eq (pos a) (pos b))
    (λ t. let e : pos a ≡ pos b = ids_are (pos a) (pos b) t in let n : a ≡ b = cc in absurd (omega arith))
    (λ f. f)

pub quiet_kept : (es fs : List Entry) (i j : Invoking) (p q : Kept) → AreKept es i p → AreOpen true fs j.kept → AreOpen false fs q → Quiet (calls_of es i p) (calls_of fs j q) → AreKept fs j q
quiet_kept es fs i j p q h own peer s = record {
  own = own;
  peer = peer;
  fresh = λ n less. s.shut (pos n) (h.fresh n (subst (λ (m : ℕ). m < n) s.made less));
  most = subst (λ (m : ℕ). m ≤ 2147483647) (sym s.made) h.most;
}

-- the next own invocation was opened
pub opened_kept : (es fs : List Entry) (i j : Invoking) (p : Kept) (operation context : ℕ) (linked : Option ℤ) → AreKept es i p → i.made < 2147483647 → AreOpen true fs j.kept → AreOpen false fs p
    → calls_of fs j p ≡ record { opens = open_calls_in es i.kept p ++ record { own = true; id = pos (i.made + 1); operation = operation; context = context; parent = linked } ∷ []; made = i.made + 1 } → AreKept fs j p
opened_kept es fs i j p operation context linked h few own peer e =
    let made : j.made ≡ i.made + 1 = ap (λ (c : Calls). c.made) e in
    record {
      own = own;
      peer = peer;
      fresh = λ n less.
          let more : i.made + 1 < n = subst (λ (m : ℕ). m < n) made less in
          let old : opened_with true (pos n) (open_calls_in es i.kept p) ≡ None = h.fresh n (omega arith) in
          let other : int_eq (pos (i.made + 1)) (pos n) ≡ false = apart_numbers (i.made + 1) n more in
          ap (λ (c : Calls). opened_with true (pos n) c.opens) e
          ∙ shut_last true (pos n) (open_calls_in es i.kept p) (record { own = true; id = pos (i.made + 1); operation = operation; context = context; parent = linked }) old other;
      most = let m = h.most in omega (arith, made);
    }

module _ (es fs : List Entry) (i j : Invoking) (p : Kept) (operation context : ℕ) (linked : Option ℤ) (h : AreKept es i p) (few : i.made < 2147483647) (own : AreOpen true fs j.kept) (peer : AreOpen false fs p) where
  pub opened_or_kept : (r : Result ℤ NoMemory)
      → OnOk r ((performed : Kept) → calls_of fs j performed ≡ record { opens = (calls_of es i performed).opens ++ record { own = true; id = pos (i.made + 1); operation = operation; context = context; parent = linked } ∷ []; made = i.made + 1 })
      → OnErr r ((j ≡ i) × (fs ≡ es)) → AreKept fs j p
  opened_or_kept (Ok id) opened none = opened_kept es fs i j p operation context linked h few own peer (opened p)
  opened_or_kept (Err e) opened none = subst (λ (x : List Entry). AreKept x j p) (sym none.1) (subst (λ (x : Invoking). AreKept es x p) (sym none.0) h)

-- ---- an invocation of the peer that is admitted

module _ (tables : Tables) (es fs : List Entry) (i : Invoking) (p q : Performing) (id : ℤ) (place at : ℕ) (linked : Option ℤ) where
  pub admitted_kept : AreKept es i p.kept → AreOpen true fs i.kept → AreOpen false fs q.kept → (r : Result (Unit {0}) NoMemory)
      → OnOk r ((base : Base) (own : Invoking) → base.tables ≡ tables → calls_of fs own q.kept ≡ rules.with_opened base (record { own = false; id = id; operation = place; context = at; parent = linked }) (calls_of es own p.kept))
      → OnErr r ((q ≡ p) × (fs ≡ es)) → AreKept fs i q.kept
  admitted_kept h own peer (Ok u) opened_so none =
      quiet_kept es fs i i p.kept q.kept h own peer
      (admitted_quiet (bare_base tables some_config) (calls_of es i p.kept) (calls_of fs i q.kept) id place at linked (opened_so (bare_base tables some_config) i refl))
  admitted_kept h own peer (Err e) opened_so none = subst (λ (x : List Entry). AreKept x i q.kept) (sym none.1) (subst (λ (x : Performing). AreKept es i x.kept) (sym none.0) h)

-- what holds where a call is answered Ok
pub on_ok : {P Q : Type 0} (r : Result (Unit {0}) NoMemory) → OnOk r P → (P → Q) → OnOk r Q
on_ok (Ok u) p f = f p
on_ok (Err e) p f = tt

-- ---- a taking

module _ (syntax : Syntax) (at : ℕ) (tables : Tables) (head : ApduHead) (s : SomeCarried tables syntax head) (es fs : List Entry) where
  pub taken_by_performer : (i : Invoking) (p q : Performing) → AreKept es i p.kept → AreOpen true fs i.kept → AreOpen false fs q.kept → (r : Result takens.RoseTaken NoMemory)
      → IfOk r (λ t. Hears tables syntax at head (calls_of es i p.kept) (calls_of fs i q.kept) t) → OnErr r ((q ≡ p) × (fs ≡ es)) → AreKept fs i q.kept
  taken_by_performer i p q h own peer (Ok t) heard none = quiet_kept es fs i i p.kept q.kept h own peer (taking_is_quiet syntax at tables head (calls_of es i p.kept) (calls_of fs i q.kept) t s heard)
  taken_by_performer i p q h own peer (Err e) heard none = subst (λ (x : List Entry). AreKept x i q.kept) (sym none.1) (subst (λ (x : Performing). AreKept es i x.kept) (sym none.0) h)

  pub taken_by_invoker : (i j : Invoking) (p : Kept) → AreKept es i p → AreOpen true fs j.kept → AreOpen false fs p → (r : Result takens.RoseTaken NoMemory)
      → IfOk r (λ t. (performed : Kept) (context : ℕ) → Hears tables syntax context head (calls_of es i performed) (calls_of fs j performed) t) → OnErr r ((j ≡ i) × (fs ≡ es)) → AreKept fs j p
  taken_by_invoker i j p h own peer (Ok t) heard none = quiet_kept es fs i j p p h own peer (taking_is_quiet syntax at tables head (calls_of es i p) (calls_of fs j p) t s (heard p at))
  taken_by_invoker i j p h own peer (Err e) heard none = subst (λ (x : List Entry). AreKept x j p) (sym none.1) (subst (λ (x : Invoking). AreKept es x p) (sym none.0) h)

-- what is heard on this context, from calls that are these
pub heard_at : (syntax : Syntax) (at : ℕ) (tables : Tables) (head : ApduHead) (context : ℕ) (old before after : Calls) (r : Result takens.RoseTaken NoMemory) → context ≡ at → old ≡ before
    → IfOk r (λ t. Hears tables syntax context head old after t) → IfOk r (λ t. Hears tables syntax at head before after t)
heard_at syntax at tables head context old before after r e f h =
    subst (λ (k : Calls). IfOk r (λ t. Hears tables syntax at head k after t)) f (subst (λ (n : ℕ). IfOk r (λ t. Hears tables syntax n head old after t)) e h)

-- by the invoker, on any context
pub heard_by_invoker : (syntax : Syntax) (at : ℕ) (tables : Tables) (head : ApduHead) (es fs : List Entry) (i j : Invoking) (p : Kept) (before : Calls) (r : Result takens.RoseTaken NoMemory) → calls_of es i p ≡ before
    → IfOk r (λ t. (performed : Kept) (context : ℕ) → Hears tables syntax context head (calls_of es i performed) (calls_of fs j performed) t) → IfOk r (λ t. Hears tables syntax at head before (calls_of fs j p) t)
heard_by_invoker syntax at tables head es fs i j p before (Ok t) f h = subst (λ (k : Calls). Hears tables syntax at head k (calls_of fs j p) t) f (h p at)
heard_by_invoker syntax at tables head es fs i j p before (Err e) f h = tt
