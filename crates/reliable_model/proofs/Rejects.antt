-- A reject that an APDU brings has a problem of X.880; what an end transfers stays transferable.
use Rattle.std.proofs.Common.{◌≡◌, refl, true, false, ◌∙◌, sym, ap, subst, arith, ℕ, ◌≤◌, List, [], ◌∷◌}
use Rattle.std.specs.Prelude.{Bool, not, ◌&&◌, Option, Some, None, length, nat_le, if◌then◌else◌}
use Rattle.osi_base.specs.declared.layer_words.ProblemKind.{ProblemKind}
use Rattle.osi_base.specs.declared.layer_words.ProblemKind.TheVariants as problems
use Rattle.osi_base.specs.declared.syntax.Syntax.TheVariants.{Der}
use Rattle.osi_base.specs.Limits.{most_open}
use Rattle.end_model.specs.dialogue.declared.config.Mode.{Mode}
use Rattle.end_model.specs.dialogue.declared.config.Mode.TheVariants.{Reliable}
use Rattle.end_model.specs.dialogue.declared.indication.Indication.{Indication}
use Rattle.stub_tables.specs.declared.apdu.Apdu.{Apdu}
use Rattle.stub_tables.specs.declared.apdu.Apdu.TheVariants as apdus
use Rattle.stub_tables.specs.Lookup.{operation_at}
use Rattle.end_model.specs.end_rules.Base.{Base, HeardHead, General, BadReject, InvokeHead, ResultHead, ErrorHead, RejectHead}
use Rattle.end_model.specs.end_rules.State.{Body, Calls, Transfer}
use Rattle.end_model.specs.end_rules.Hearing.{Heard, Rejecting, is_silent_at, has_links, on_heard}
use Rattle.agreement.specs.Messages as model
use Rattle.agreement.specs.Messages.Apdu.{Invoke, Outcome, Reject}
use Rattle.agreement.specs.Messages.Problem.{General as of_general, OfInvocation as of_invocation, OfResult as of_result, OfError as of_error}
use Rattle.agreement.specs.State.{Handed}
use Rattle.agreement.specs.Calls.{is_open, is_accepted, reject_of, rejects_of}
use Rattle.end_model.specs.Seen.{Free, number_seen, problem_in, problem_seen, apdu_seen, calls_seen, setup_seen, outcome_due}
use Rattle.end_model.specs.Seen.{link_due, on_open}
use Rattle.end_model.specs.Rows.{at}
use Rattle.end_model.specs.OpenInvocations.{IsReadBack}
use Rattle.end_model.specs.Acting.{ReadsBack}
use Rattle.end_model.specs.Takings.{IsProperCurrent}
use Rattle.end_model.proofs.Hears.{Hears, IsProperReject, rejects_seen}
use Rattle.reliable_model.specs.Codecs.{last_problem, IsTransferable}
use Rattle.reliable_model.specs.Transferring.{OnCurrent, IsSending}
use Rattle.reliable_model.proofs.Transferring.{queue-append}

-- ---- numbers of problems

code-of : model.Problem → ℕ
code-of (of_general code) = code
code-of (of_invocation code) = code
code-of (of_result code) = code
code-of (of_error code) = code

code-seen : (kind : ProblemKind) (code : ℕ) → code-of (problem_in kind code) ≡ code
unfolding code-of
code-seen problems.General code = refl
code-seen problems.Invoke code = refl
code-seen problems.Result code = refl
code-seen problems.Error code = refl

-- of the first reject of these
code-in : model.Apdu → ℕ
code-in (Reject number problem) = code-of problem
code-in (Invoke number operation link argument) = 0
code-in (Outcome number content) = 0

first-code : List Handed → ℕ
first-code [] = 0
first-code (item ∷ items) = code-in item.apdu

outcome-small : (head : HeardHead) → code-of (outcome_due head) ≤ last_problem
unfolding code-of
outcome-small (General n) = omega arith
outcome-small BadReject = omega arith
outcome-small (InvokeHead id linked code argument) = omega arith
outcome-small (ResultHead id code value) = omega arith
outcome-small (ErrorHead id code parameter) = omega arith
outcome-small (RejectHead id problem) = omega arith

link-small : (base : Base) (opens : List model.Invocation) (link : Option ℕ) → link_due base opens link ≤ last_problem
link-small base opens None = omega arith
link-small base opens (Some parent) = go (is_open parent opens) (on_open (λ place. has_links (operation_at base.tables place)) parent opens)
  where
    go : (a b : Bool) → (if not a then 5 else (if b then 7 else 6)) ≤ last_problem
    go false b = omega arith
    go true true = omega arith
    go true false = omega arith

due-small : (free : Free) (mode : Mode) (base : Base) (calls : model.Calls) (context : ℕ) (apdu : model.Apdu) → first-code (reject_of (setup_seen free mode base) calls context apdu) ≤ last_problem
unfolding first-code code-in code-of
due-small free mode base calls context (Invoke number operation link argument) = go (is_open number calls.peer_open) (nat_le most_open (length calls.peer_open) && not (is_silent_at base (Some operation)))
  where
    go : (a b : Bool) → code-of (if a then of_invocation 0 else (if b then of_invocation 3 else of_invocation (link_due base calls.own_open link))) ≤ last_problem
    go true b = omega arith
    go false true = omega arith
    go false false = link-small base calls.own_open link
due-small free mode base calls context (Outcome number content) = outcome-small (base.spellings.head Der content)
due-small free mode base calls context (Reject number problem) = omega arith

rejects-small : (free : Free) (mode : Mode) (base : Base) (calls : model.Calls) (context : ℕ) (apdu : model.Apdu) → first-code (rejects_of (setup_seen free mode base) calls context apdu) ≤ last_problem
unfolding first-code
rejects-small free mode base calls context apdu = go (is_accepted (setup_seen free mode base) calls apdu)
  where
    go : (b : Bool) → first-code (if b then [] else reject_of (setup_seen free mode base) calls context apdu) ≤ last_problem
    go true = omega arith
    go false = due-small free mode base calls context apdu

abbrev pub SmallReject : Option Rejecting → Type 0
SmallReject None = Unit {0}
SmallReject (Some r) = number_seen r.problem.number ≤ last_problem

-- what is heard of an APDU
pub heard-small : (free : Free) (mode : Mode) (base : Base) (calls : Calls) (context : ℕ) (apdu : Apdu) (h : Heard) → Hears free mode base calls context apdu h → SmallReject h.reject
unfolding first-code code-in
heard-small free mode base calls context apdu h is = go h.reject is.rejects_are
  where
    go : (r : Option Rejecting) → rejects_seen (at mode base) context r ≡ rejects_of (setup_seen free mode base) (calls_seen calls) context (apdu_seen (at mode base) apdu) → SmallReject r
    go None e = tt
    go (Some r) e =
        let same : code-of (problem_seen r.problem) ≡ first-code (rejects_of (setup_seen free mode base) (calls_seen calls) context (apdu_seen (at mode base) apdu)) = ap first-code e in
        subst (λ n. n ≤ last_problem) (sym (sym (code-seen r.problem.kind (number_seen r.problem.number)) ∙ same))
        (rejects-small free mode base (calls_seen calls) context (apdu_seen (at mode base) apdu))

-- ---- what is heard at the end of a transfer leaves the connection, and its reject joins what waits

pub heard-link : (base : Base) (body : Body) (context : ℕ) (calls : Calls) (shown : List Indication) (r : Option Rejecting) → (on_heard (at Reliable base) body context (record { calls = calls; shown = shown; reject = r })).body.link ≡ body.link
heard-link base body context calls shown None = refl
heard-link base body context calls shown (Some r) = refl

pub heard-calls : (base : Base) (body : Body) (context : ℕ) (calls : Calls) (shown : List Indication) (r : Option Rejecting) → (on_heard (at Reliable base) body context (record { calls = calls; shown = shown; reject = r })).body.calls ≡ calls
heard-calls base body context calls shown None = refl
heard-calls base body context calls shown (Some r) = refl

pub heard-sending : (base : Base) (body : Body) (context : ℕ) (calls : Calls) (shown : List Indication) (r : Option Rejecting) → IsProperReject (at Reliable base) r → SmallReject r → IsSending (at Reliable base) body.sending → IsSending (at Reliable base) (on_heard (at Reliable base) body context (record { calls = calls; shown = shown; reject = r })).body.sending
heard-sending base body context calls shown None proper small h = h
heard-sending base body context calls shown (Some r) proper small h =
    record { queue = queue-append (at Reliable base) body.sending.queue _ h.queue (record { proper = proper; short = small }, tt); current = h.current }

-- ---- what is transferable is read back

pub read-back : (base : Base) (apdu : Apdu) → ReadsBack base → IsTransferable base apdu → IsReadBack base apdu
read-back base (apdus.Invoke id linked code argument) back h = tt
read-back base (apdus.Result id returned) back h = back.reads (apdus.Result id returned) h.proper h.short
read-back base (apdus.Error id code parameter) back h = back.reads (apdus.Error id code parameter) h.proper h.short
read-back base (apdus.Reject id problem) back h = tt

pub proper-current : (base : Base) (current : Option Transfer) → OnCurrent base current → IsProperCurrent base current
proper-current base None h = tt
proper-current base (Some t) h = h.item.proper
