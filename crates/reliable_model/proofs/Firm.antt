-- The contexts of the association stay in each set of an end of reliable mode, and nothing is handed in on them.
use Rattle.std.proofs.Common.{◌≡◌, refl, true, false, ◌∙◌, sym, ap, subst, arith, ℕ, zero, suc, ◌≤◌, List, [], ◌∷◌, ◌++◌, map}
use Rattle.std.specs.Prelude.{ℤ, Bool, not, ◌&&◌, Option, Some, None, is_some, Ok, Err, Result, filter, nat_eq, if◌then◌else◌}
use Rattle.std.proofs.lemmas.Bool.Decides.{nat_tests}
use Rattle.osi_base.specs.declared.syntax.Pair.{Pair}
use Rattle.osi_base.specs.declared.layer_words.SetItem.{SetItem}
use Rattle.osi_base.specs.declared.layer_words.Problem.{Problem}
use Rattle.stub_tables.specs.declared.operation.Code.{Code}
use Rattle.stub_tables.specs.Lookup.{operation_at, operation_with, error_with}
use Rattle.end_model.specs.dialogue.declared.config.Mode.TheVariants.{Reliable}
use Rattle.end_model.specs.end_rules.Base.{Base, Fault, Arrived, Whole, Raw, Carried, HeardHead, General, BadReject, InvokeHead, ResultHead, ErrorHead, RejectHead}
use Rattle.end_model.specs.end_rules.Sets.{Alteration, same_name, is_among, named_ids, has_abstract, is_fixed}
use Rattle.osi_base.specs.SetPlaces.{pair_of}
use Rattle.end_model.specs.end_rules.State.{Body, OpenCall, Calls, Queued, Piece, Octets, Marked, Transfer}
use Rattle.end_model.specs.end_rules.State.{is_key, opened_with, orphaned, closed, close, from_mark, up_to, newest_set, highest, pieces_of, confirmed_of}
use Rattle.end_model.specs.end_rules.State.{resumed_set, on_transfer, on_current}
use Rattle.end_model.specs.end_rules.Invoking.{is_on_module}
use Rattle.end_model.specs.end_rules.Hearing.{is_silent_at, with_opened, Heard, showing, Rejecting, unless_problem, invoked, invoke_problem}
use Rattle.end_model.specs.end_rules.Hearing.{result_problem, hear_result_of, error_problem, showing_error, hear_error_of, is_of_invocation, hear_reject, hear}
use Rattle.end_model.specs.end_rules.Hearing.{with_reject, take_head, take_values}
use Rattle.end_model.specs.end_rules.Requesting.{begun, resumed}
use Rattle.end_model.specs.end_rules.TakesActivities.{values_arrived}
use Rattle.end_model.specs.dialogue.declared.indication.Indication.TheVariants as indications
use Rattle.end_model.specs.Rows.{at}
use Rattle.end_model.proofs.Handing.{has-pair}
use Rattle.end_model.proofs.Fitting.{one-name, same-itself}
use Rattle.reliable_model.proofs.Fixed.{is_others}

-- ---- what holds of an end, where these contexts were accepted at the opening

-- each fixed context of them has its pair in the set
abbrev pub Keeps : List SetItem → List SetItem → Type 0
Keeps first set = (k : ℕ) → is_fixed (pair_of first k) ≡ true → pair_of set k ≡ pair_of first k

-- the identifier is of no context that is of association control or of reliable transfer alone
abbrev pub IsLoose : List ℕ → List SetItem → ℕ → Type 0
IsLoose name first k = is_others name (pair_of first k) ≡ false

-- marks are numbered from 1
abbrev pub PiecesKeep : List SetItem → List Piece → Type 0
PiecesKeep first [] = Unit {0}
PiecesKeep first (Octets octets ∷ pieces) = PiecesKeep first pieces
PiecesKeep first (Marked number set ∷ pieces) = Keeps first set × (number ≡ suc (highest pieces)) × PiecesKeep first pieces

abbrev pub OwnSpares : List SetItem → List Alteration → Type 0
OwnSpares first [] = Unit {0}
OwnSpares first (a ∷ own) = ((k : ℕ) → is_fixed (pair_of first k) ≡ true → is_among k (named_ids a) ≡ false) × OwnSpares first own

abbrev pub OpensLoose : List ℕ → List SetItem → List OpenCall → Type 0
OpensLoose name first [] = Unit {0}
OpensLoose name first (o ∷ os) = IsLoose name first o.context × OpensLoose name first os

abbrev pub QueueLoose : List ℕ → List SetItem → List Queued → Type 0
QueueLoose name first [] = Unit {0}
QueueLoose name first (item ∷ items) = IsLoose name first item.context × QueueLoose name first items

pub record TransferKeeps (name : List ℕ) (first : List SetItem) (t : Transfer) : Type 0 where
  pub loose : IsLoose name first t.item.context
  pub pieces : PiecesKeep first t.pieces
  pub confirmed : t.confirmed ≤ highest t.pieces

abbrev pub CurrentKeeps : List ℕ → List SetItem → Option Transfer → Type 0
CurrentKeeps name first None = Unit {0}
CurrentKeeps name first (Some t) = TransferKeeps name first t

pub record Firm (name : List ℕ) (first : List SetItem) (body : Body) : Type 0 where
  pub held : Keeps first body.sets.held
  pub inter : Keeps first body.sets.inter
  pub own : OwnSpares first body.sets.own
  pub opens : OpensLoose name first body.calls.opens
  pub queue : QueueLoose name first body.sending.queue
  pub current : CurrentKeeps name first body.sending.current
  pub came : PiecesKeep first body.receiving.pieces

-- ---- the identifiers of contexts of the module are loose

and-false : (b : Bool) → (b && false) ≡ false
and-false true = refl
and-false false = refl

pub module-loose : (name : List ℕ) (first held : List SetItem) (k : ℕ) (pair : Pair) → Keeps first held → pair_of held k ≡ Some pair → pair.abstract_name ≡ name → IsLoose name first k
module-loose name first held k pair keeps there named = go (is_fixed (pair_of first k)) refl
  where
    has : has_abstract name (Some pair) ≡ true
    has = ap (λ n. same_name n name) named ∙ same-itself name

    go : (b : Bool) → is_fixed (pair_of first k) ≡ b → is_others name (pair_of first k) ≡ false
    go false e = ap (λ b. b && not (has_abstract name (pair_of first k))) e
    go true e =
        let same : pair_of first k ≡ Some pair = sym (keeps k e) ∙ there in
        ap (is_others name) same ∙ ap (λ b. is_fixed (Some pair) && not b) has ∙ and-false (is_fixed (Some pair))

pub on-module_loose : (base : Base) (first : List SetItem) (body : Body) (context : ℕ) → Keeps first body.sets.held → is_on_module base body context ≡ true → IsLoose base.tables.name_oid first context
on-module_loose base first body context keeps h =
    let p = has-pair base.tables.name_oid body.sets.held context h in
    module-loose base.tables.name_oid first body.sets.held context p.0 keeps p.1
    (one-name p.0.abstract_name base.tables.name_oid (ap (has_abstract base.tables.name_oid) (sym p.1) ∙ h))

-- ---- open invocations and the queue

opens-append : (name : List ℕ) (first : List SetItem) (os ps : List OpenCall) → OpensLoose name first os → OpensLoose name first ps → OpensLoose name first (os ++ ps)
opens-append name first [] ps h i = i
opens-append name first (o ∷ os) ps h i = (h.0, opens-append name first os ps h.1 i)

pub queue-append : (name : List ℕ) (first : List SetItem) (xs ys : List Queued) → QueueLoose name first xs → QueueLoose name first ys → QueueLoose name first (xs ++ ys)
queue-append name first [] ys h i = i
queue-append name first (x ∷ xs) ys h i = (h.0, queue-append name first xs ys h.1 i)

pub opened-loose : (name : List ℕ) (first : List SetItem) (base : Base) (o : OpenCall) (calls : Calls) → OpensLoose name first calls.opens → IsLoose name first o.context → OpensLoose name first (with_opened base o calls).opens
opened-loose name first base o calls h l = go (is_silent_at base (Some o.operation))
  where
    go : (b : Bool) → OpensLoose name first (if b then calls else record calls { opens = calls.opens ++ o ∷ [] }).opens
    go true = h
    go false = opens-append name first calls.opens (o ∷ []) h (l, tt)

same-context : (own : Bool) (id : ℤ) (o : OpenCall) → (orphaned own id o).context ≡ o.context
same-context own id o = go _
  where
    go : (b : Bool) → (if b then record o { parent = None } else o).context ≡ o.context
    go true = refl
    go false = refl

pub closed-loose : (name : List ℕ) (first : List SetItem) (own : Bool) (id : ℤ) (os : List OpenCall) → OpensLoose name first os → OpensLoose name first (closed own id os)
closed-loose name first own id [] h = tt
closed-loose name first own id (o ∷ os) h = go (closed-loose name first own id os h.1) (not (is_key own id o))
  where
    go : OpensLoose name first (closed own id os) → (b : Bool) → OpensLoose name first (map (orphaned own id) (if b then o ∷ filter (λ o. not (is_key own id o)) os else filter (λ o. not (is_key own id o)) os))
    go later true = (subst (IsLoose name first) (sym (same-context own id o)) h.0, later)
    go later false = later

pub found-loose : (name : List ℕ) (first : List SetItem) (own : Bool) (id : ℤ) (os : List OpenCall) (o : OpenCall) → OpensLoose name first os → opened_with own id os ≡ Some o → IsLoose name first o.context
found-loose name first own id [] o h e = cc
found-loose name first own id (x ∷ os) o h e = go (found-loose name first own id os o h.1) (is_key own id x) e
  where
    go : (opened_with own id os ≡ Some o → IsLoose name first o.context) → (b : Bool) → (if b then Some x else opened_with own id os) ≡ Some o → IsLoose name first o.context
    go later true e = let s : x ≡ o = cc in subst (λ (y : OpenCall). IsLoose name first y.context) s h.0
    go later false e = later e

-- ---- what is heard

abbrev HeardLoose : List ℕ → List SetItem → Heard → Type 0
HeardLoose name first heard = OpensLoose name first heard.calls.opens

module _ (name : List ℕ) (first : List SetItem) (base : Base) (calls : Calls) (loose : OpensLoose name first calls.opens) where
  unless-loose : (p : Option ℕ) (refused : ℕ → Heard) (heard : Heard) → ((n : ℕ) → HeardLoose name first (refused n)) → HeardLoose name first heard → HeardLoose name first (unless_problem p refused heard)
  unless-loose None refused heard f h = h
  unless-loose (Some n) refused heard f h = f n

  close-loose : (own : Bool) (id : ℤ) → OpensLoose name first (close own id calls).opens
  close-loose own id = closed-loose name first own id calls.opens loose

  invoked-loose : (context : ℕ) (id : ℤ) (linked : Option ℤ) (place : Option ℕ) (argument : Carried) → IsLoose name first context → HeardLoose name first (invoked base calls context id linked place argument)
  invoked-loose context id linked None argument l = loose
  invoked-loose context id linked (Some place) argument l = opened-loose name first base _ calls loose l

  result-loose : (id : ℤ) (o : Option OpenCall) (code : Option Code) (value : Carried) → HeardLoose name first (hear_result_of base calls id o code value)
  result-loose id None code value = loose
  result-loose id (Some o) code value = unless-loose (result_problem base o.operation (operation_at base.tables o.operation) code value) _ _ (λ n. close-loose true id) (close-loose true id)

  told-loose : (id : ℤ) (place : Option ℕ) (parameter : Carried) → HeardLoose name first (showing_error (close true id calls) id place parameter)
  told-loose id None parameter = close-loose true id
  told-loose id (Some place) parameter = close-loose true id

  error-loose : (id : ℤ) (o : Option OpenCall) (place : Option ℕ) (parameter : Carried) → HeardLoose name first (hear_error_of base calls id o place parameter)
  error-loose id None place parameter = loose
  error-loose id (Some o) place parameter = unless-loose (error_problem base (operation_at base.tables o.operation) place parameter) _ _ (λ n. close-loose true id) (told-loose id place parameter)

  reject-loose : (id : Option ℤ) (problem : Problem) → HeardLoose name first (hear_reject calls id problem)
  reject-loose None problem = loose
  reject-loose (Some id) problem = go (is_of_invocation problem.kind && is_some (opened_with true id calls.opens))
    where
      go : (b : Bool) → HeardLoose name first (if b then showing (close true id calls) (indications.Rejected id problem) else showing calls (indications.RejectTaken (Some id) problem))
      go true = close-loose true id
      go false = loose

  heard-loose : (context : ℕ) (head : HeardHead) → IsLoose name first context → HeardLoose name first (hear base calls context head)
  heard-loose context (General number) l = loose
  heard-loose context BadReject l = loose
  heard-loose context (InvokeHead id linked code argument) l =
      unless-loose (invoke_problem base calls id linked (operation_with base.tables code) argument) _ _ (λ n. loose) (invoked-loose context id linked (operation_with base.tables code) argument l)
  heard-loose context (ResultHead id code value) l = result-loose id (opened_with true id calls.opens) code value
  heard-loose context (ErrorHead id code parameter) l = error-loose id (opened_with true id calls.opens) (error_with base.tables code) parameter
  heard-loose context (RejectHead id problem) l = reject-loose id problem

-- ---- changes of a body

-- the context of what arrives
abbrev pub context_of : Arrived → ℕ
context_of (Whole item) = item.id
context_of (Raw id pair octets) = id

module _ (first : List SetItem) where
  -- the marks back to one of them
  from-keeps : (n : ℕ) (pieces : List Piece) → PiecesKeep first pieces → PiecesKeep first (from_mark n pieces)
  from-keeps n [] h = tt
  from-keeps n (Octets octets ∷ pieces) h = from-keeps n pieces h
  from-keeps n (Marked m set ∷ pieces) h = go (from-keeps n pieces h.2) (nat_eq m n)
    where
      go : PiecesKeep first (from_mark n pieces) → (b : Bool) → PiecesKeep first (if b then Marked m set ∷ pieces else from_mark n pieces)
      go later true = h
      go later false = later

  pub back-keeps : (n : ℕ) (pieces : List Piece) → PiecesKeep first pieces → PiecesKeep first (up_to n pieces)
  back-keeps zero pieces h = tt
  back-keeps (suc n) pieces h = from-keeps (suc n) pieces h

  record FoundMark (n : ℕ) (pieces : List Piece) : Type 0 where
    keeps : Keeps first (newest_set (from_mark n pieces))
    number : highest (from_mark n pieces) ≡ n

  found-mark : (n : ℕ) (pieces : List Piece) → PiecesKeep first pieces → 1 ≤ n → n ≤ highest pieces → FoundMark n pieces
  found-mark n [] h low high = absurd (omega arith)
  found-mark n (Octets octets ∷ pieces) h low high = let f = found-mark n pieces h low high in record { keeps = f.keeps; number = f.number }
  found-mark n (Marked m set ∷ pieces) h low high = go (found-mark n pieces h.2 low) (nat_eq m n) refl
    where
      less : (m n top : ℕ) → nat_eq m n ≡ false → n ≤ m → m ≡ suc top → n ≤ top
      less m n top e high is = grind (arith, nat_tests)

      same : (m n : ℕ) → nat_eq m n ≡ true → m ≡ n
      same m n e = grind (arith, nat_tests)

      go : (n ≤ highest pieces → FoundMark n pieces) → (b : Bool) → nat_eq m n ≡ b → FoundMark n (Marked m set ∷ pieces)
      go later true e =
          record {
            keeps = subst (λ b. Keeps first (newest_set (if b then Marked m set ∷ pieces else from_mark n pieces))) (sym e) h.0;
            number = ap (λ b. highest (if b then Marked m set ∷ pieces else from_mark n pieces)) e ∙ same m n e;
          }
      go later false e =
          let f = later (less m n (highest pieces) e high h.1) in
          record {
            keeps = subst (λ b. Keeps first (newest_set (if b then Marked m set ∷ pieces else from_mark n pieces))) (sym e) f.keeps;
            number = ap (λ b. highest (if b then Marked m set ∷ pieces else from_mark n pieces)) e ∙ f.number;
          }

  pub back-set : (mark : ℕ) (pieces : List Piece) (held : List SetItem) → PiecesKeep first pieces → mark ≤ highest pieces → Keeps first held → Keeps first (resumed_set mark pieces held)
  back-set zero pieces held h high k = k
  back-set (suc n) pieces held h high k = (found-mark (suc n) pieces h (omega arith) high).keeps

  back-number : (mark : ℕ) (pieces : List Piece) → PiecesKeep first pieces → mark ≤ highest pieces → mark ≤ highest (up_to mark pieces)
  back-number zero pieces h high = omega arith
  back-number (suc n) pieces h high = subst (λ (m : ℕ). suc n ≤ m) (sym (found-mark (suc n) pieces h (omega arith) high).number) (omega arith)

module _ (name : List ℕ) (first : List SetItem) where
  -- a change of the current transfer
  pub changed-firm : (change : Transfer → Transfer) (body : Body) → ((t : Transfer) → body.sending.current ≡ Some t → TransferKeeps name first t → TransferKeeps name first (change t)) → Firm name first body → Firm name first (on_transfer change body)
  changed-firm change body f h =
      record { held = h.held; inter = h.inter; own = h.own; opens = h.opens; queue = h.queue; current = go body.sending.current refl h.current; came = h.came }
    where
      go : (c : Option Transfer) → body.sending.current ≡ c → CurrentKeeps name first c → CurrentKeeps name first (on_current change (record body.sending { current = c })).current
      go None e k = tt
      go (Some t) e k = f t e k

  pub resumed-keeps : (t : Transfer) → TransferKeeps name first t → TransferKeeps name first (resumed t)
  resumed-keeps t h =
      record { loose = h.loose; pieces = back-keeps first t.confirmed t.pieces h.pieces; confirmed = back-number first t.confirmed t.pieces h.pieces h.confirmed }

  pub current-pieces : (c : Option Transfer) → CurrentKeeps name first c → PiecesKeep first (pieces_of c) × (confirmed_of c ≤ highest (pieces_of c))
  current-pieces None h = (tt, omega arith)
  current-pieces (Some t) h = (h.pieces, h.confirmed)

  pub begun-current : (queue : List Queued) (started : ℕ) (current : Option Transfer) → QueueLoose name first queue → QueueLoose name first (begun (record { started = started; current = current; queue = queue })).queue × CurrentKeeps name first (begun (record { started = started; current = current; queue = queue })).current
  begun-current [] started current h = (tt, tt)
  begun-current (item ∷ items) started current h = (h.1, record { loose = h.0; pieces = tt; confirmed = omega arith })

  -- ---- an APDU that is taken

  pub head-firm : (base : Base) (body : Body) (context : ℕ) (head : HeardHead) → IsLoose name first context → Firm name first body → Firm name first (take_head (at Reliable base) body context head).body
  head-firm base body context head l h = go (hear (at Reliable base) body.calls context head).reject
    where
      opens : OpensLoose name first (hear (at Reliable base) body.calls context head).calls.opens
      opens = heard-loose name first (at Reliable base) body.calls h.opens context head l

      go : (r : Option Rejecting) → Firm name first (with_reject (at Reliable base) (record body { calls = (hear (at Reliable base) body.calls context head).calls }) context r).body
      go None = record { held = h.held; inter = h.inter; own = h.own; opens = opens; queue = h.queue; current = h.current; came = h.came }
      go (Some r) =
          record { held = h.held; inter = h.inter; own = h.own; opens = opens; queue = queue-append name first body.sending.queue (_ ∷ []) h.queue (l, tt); current = h.current; came = h.came }

  pub arrived-firm : (base : Base) (body : Body) (r : Result Arrived Fault) → ((arrived : Arrived) → r ≡ Ok arrived → IsLoose name first (context_of arrived)) → Firm name first body → Firm name first (take_values (at Reliable base) body (values_arrived r)).body
  arrived-firm base body (Ok (Whole item)) f h = head-firm base body item.id _ (f (Whole item) refl) h
  arrived-firm base body (Ok (Raw id pair octets)) f h = head-firm base body id _ (f (Raw id pair octets) refl) h
  arrived-firm base body (Err fault) f h = h
