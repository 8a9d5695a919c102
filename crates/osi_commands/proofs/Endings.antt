-- What the end of a run says of its answer and of the sink.
use Rattle.std.proofs.Common.{ℕ, ◌≡◌, ◌⊎◌, List, Option, Bool, true, false, Result, Ok, Err, IfOk, OnErr, MatchResult, refl, sym, ap, subst, inl, inr, ◌∙◌}
use Rattle.osi_base.specs.Outside.{FaultsRose, grown, GrewPart}
use Rattle.osi_base.specs.declared.layer_words.Status.{Status}
use Rattle.osi_base.specs.declared.layer_words.Status.TheVariants.{Done, Usage, ReadFault, WriteFault, LineFault, ModuleRefused, ScriptRefused, Ended, Spent, NoMemory}
use Rattle.osi_commands.specs.declared.answers.Answer.{Answer}
use Rattle.osi_commands.specs.Answers.{is_read_fault, KeepsCount, EndedWith, whole, failed, no_memory, Closes, answered, no_room, IsBegun, CountsFiles, CountsWrites, IsUnless}

-- the statuses of a write that isn't whole
abbrev pub is_writes : Status → Bool
is_writes WriteFault = true
is_writes NoMemory = true
is_writes _ = false

-- Any other status is the answer's, and its text is written whole.
whole_if : (old new : ℕ) (before after : Option (List ℕ)) (answer : Answer) (status : Status) → EndedWith old new before after answer status
    → (wanted : Status) → status ≡ wanted → is_writes wanted ≡ false → (answer.status ≡ wanted) × (after ≡ grown before answer.text)
whole_if old new before after answer _ (whole same written) wanted h plain = (h, written)
whole_if old new before after answer _ (failed rose part) wanted h plain = let e : true ≡ false = ap is_writes h ∙ plain in cc
whole_if old new before after answer _ (no_memory same part) wanted h plain = let e : true ≡ false = ap is_writes h ∙ plain in cc

-- A fault of writing that isn't the answer's comes only where the sink's count rose, and a beginning was written.
part_if_failed : (old new : ℕ) (before after : Option (List ℕ)) (answer : Answer) (status : Status) → EndedWith old new before after answer status
    → status ≡ WriteFault → (answer.status ≡ WriteFault → ⊥) → FaultsRose old new × GrewPart before after answer.text
part_if_failed old new before after answer _ (whole same written) is other = absurd (other is)
part_if_failed old new before after answer _ (failed rose part) is other = (rose, part)
part_if_failed old new before after answer _ (no_memory same part) is other = cc

part_if_no_memory : (old new : ℕ) (before after : Option (List ℕ)) (answer : Answer) (status : Status) → EndedWith old new before after answer status
    → status ≡ NoMemory → (answer.status ≡ NoMemory → ⊥) → GrewPart before after answer.text
part_if_no_memory old new before after answer _ (whole same written) is other = absurd (other is)
part_if_no_memory old new before after answer _ (failed rose part) is other = cc
part_if_no_memory old new before after answer _ (no_memory same part) is other = part

-- The sink's count is as it was, unless the status is that of the sink.
counts_writes : (old new : ℕ) (before after : Option (List ℕ)) (answer : Answer) (status : Status) → EndedWith old new before after answer status
    → CountsWrites old new status
counts_writes old new before after answer _ (whole same written) = inr same
counts_writes old new before after answer _ (failed rose part) = inl refl
counts_writes old new before after answer _ (no_memory same part) = inr same

-- The files' count is as it was, unless the answer is that a file isn't read.
same_or_unread : (old new : ℕ) (answer : Answer) (status : Status) → answer.status ≡ status → KeepsCount old new answer → (new ≡ old) ⊎ (answer.status ≡ ReadFault)
same_or_unread old new answer ReadFault is counts = inr is
same_or_unread old new answer WriteFault is counts = inl (counts (ap is_read_fault is))
same_or_unread old new answer NoMemory is counts = inl (counts (ap is_read_fault is))
same_or_unread old new answer Done is counts = inl (counts (ap is_read_fault is))
same_or_unread old new answer Usage is counts = inl (counts (ap is_read_fault is))
same_or_unread old new answer LineFault is counts = inl (counts (ap is_read_fault is))
same_or_unread old new answer ModuleRefused is counts = inl (counts (ap is_read_fault is))
same_or_unread old new answer ScriptRefused is counts = inl (counts (ap is_read_fault is))
same_or_unread old new answer Ended is counts = inl (counts (ap is_read_fault is))
same_or_unread old new answer Spent is counts = inl (counts (ap is_read_fault is))

-- The status is the answer's, unless writing failed or memory was refused.
pub unless : (old new : ℕ) (before after : Option (List ℕ)) (answer : Answer) (status : Status) → EndedWith old new before after answer status
    → (wanted : Status) → answer.status ≡ wanted → IsUnless old new wanted status
unless old new before after answer _ (whole same written) wanted h = inl h
unless old new before after answer _ (failed rose part) wanted h = inr (inl (refl, rose))
unless old new before after answer _ (no_memory same part) wanted h = inr (inr refl)

-- the statuses of answers
abbrev pub is_answers : Status → Bool
is_answers WriteFault = false
is_answers LineFault = false
is_answers Ended = false
is_answers Spent = false
is_answers NoMemory = false
is_answers _ = true

-- an answer of this status, and its text was written whole
pub record Whole (Is : Answer → Type 0) (before after : Option (List ℕ)) (wanted : Status) : Type 0 where
  pub answer : Answer
  pub is : Is answer
  pub status_is : answer.status ≡ wanted
  pub written : after ≡ grown before answer.text

module _ (Is : Answer → Type 0) (old new sink_old sink_new : ℕ) (before after : Option (List ℕ)) where
  abbrev Closed : Status → Type 0
  Closed status = Closes Is old new sink_old sink_new before after status

  -- the end of the call, once the answer was made, or memory was refused for it
  pub closed : {E : Type 0} (status : Status) (r : Result Answer E) → IfOk r (λ answer. Is answer) → IfOk r (λ answer. KeepsCount old new answer)
      → OnErr r (new ≡ old) → MatchResult r (λ made. EndedWith sink_old sink_new before after made status) (λ _. (status ≡ NoMemory) × (sink_new ≡ sink_old) × (after ≡ before))
      → Closes Is old new sink_old sink_new before after status
  closed status (Ok answer) is counts kept ends = answered answer status is counts ends
  closed status (Err fault) is counts kept ends =
      let C : Status → Type 0 = λ s. Closes Is old new sink_old sink_new before after s in subst C (sym ends.0) (no_room kept ends.1 ends.2)

  -- a status that isn't one of writing is the answer's
  pub whole_of : (status wanted : Status) → Closes Is old new sink_old sink_new before after status → status ≡ wanted → is_writes wanted ≡ false
      → Whole Is before after wanted
  whole_of status wanted (answered answer _ is counts ends) h plain =
      let w = whole_if sink_old sink_new before after answer status ends wanted h plain in record { answer = answer; is = is; status_is = w.0; written = w.1 }
  whole_of _ wanted (no_room kept calm same) h plain = let e : true ≡ false = ap is_writes h ∙ plain in cc

  -- the status is that of all answers there can be
  pub unless_of : (status wanted : Status) → Closes Is old new sink_old sink_new before after status → ((answer : Answer) → Is answer → answer.status ≡ wanted)
      → IsUnless sink_old sink_new wanted status
  unless_of status wanted (answered answer _ is counts ends) due = unless sink_old sink_new before after answer status ends wanted (due answer is)
  unless_of _ wanted (no_room kept calm same) due = inr (inr refl)

  -- the same of two statuses
  pub unless_one_of : (status first second : Status) → Closes Is old new sink_old sink_new before after status
      → ((answer : Answer) → Is answer → (answer.status ≡ first) ⊎ (answer.status ≡ second)) → IsUnless sink_old sink_new first status ⊎ IsUnless sink_old sink_new second status
  unless_one_of status first second (answered answer _ is counts ends) due = by_either (due answer is)
    where
      by_either : (answer.status ≡ first) ⊎ (answer.status ≡ second) → IsUnless sink_old sink_new first status ⊎ IsUnless sink_old sink_new second status
      by_either (inl h) = inl (unless sink_old sink_new before after answer status ends first h)
      by_either (inr h) = inr (unless sink_old sink_new before after answer status ends second h)
  unless_one_of _ first second (no_room kept calm same) due = inl (inr (inr refl))

  -- the same end of the answers that these are
  pub closes_as : (As : Answer → Type 0) (status : Status) → ((answer : Answer) → Is answer → As answer) → Closes Is old new sink_old sink_new before after status
      → Closes As old new sink_old sink_new before after status
  closes_as As status turned (answered answer _ is counts ends) = answered answer status (turned answer is) counts ends
  closes_as As _ turned (no_room kept calm same) = no_room kept calm same

  -- ---- what the counts say

  pub sink_count_of : (status : Status) → Closes Is old new sink_old sink_new before after status → CountsWrites sink_old sink_new status
  sink_count_of status (answered answer _ is counts ends) = counts_writes sink_old sink_new before after answer status ends
  sink_count_of _ (no_room kept calm same) = inr calm

  if_whole : (answer : Answer) → (new ≡ old) ⊎ (answer.status ≡ ReadFault) → CountsFiles Is old new before after answer.status
  if_whole answer (inl same) = inl same
  if_whole answer (inr unread) = inr (inl unread)

  if_begun : (answer : Answer) → Is answer → KeepsCount old new answer → (status : Status) → (status ≡ WriteFault) ⊎ (status ≡ NoMemory) → GrewPart before after answer.text
      → (new ≡ old) ⊎ (answer.status ≡ ReadFault) → CountsFiles Is old new before after status
  if_begun answer is counts status cause part (inl same) = inl same
  if_begun answer is counts status cause part (inr unread) =
      inr (inr (cause, record { begun = record { answer = answer; is = is; counts = counts; part = part }; unread = unread }))

  counts_answer : (answer : Answer) → Is answer → KeepsCount old new answer → (status : Status) → EndedWith sink_old sink_new before after answer status
      → CountsFiles Is old new before after status
  counts_answer answer is counts _ (whole same written) = if_whole answer (same_or_unread old new answer answer.status refl counts)
  counts_answer answer is counts _ (failed rose part) = if_begun answer is counts WriteFault (inl refl) part (same_or_unread old new answer answer.status refl counts)
  counts_answer answer is counts _ (no_memory same part) = if_begun answer is counts NoMemory (inr refl) part (same_or_unread old new answer answer.status refl counts)

  pub files_count_of : (status : Status) → Closes Is old new sink_old sink_new before after status → CountsFiles Is old new before after status
  files_count_of status (answered answer _ is counts ends) = counts_answer answer is counts status ends
  files_count_of _ (no_room kept calm same) = inl kept

  -- ---- statuses that no answer has

  module _ (own : (answer : Answer) → Is answer → is_answers answer.status ≡ true) where
    foreign : (answer : Answer) → Is answer → (wanted : Status) → is_answers wanted ≡ false → answer.status ≡ wanted → ⊥
    foreign answer is wanted alien h = let e : true ≡ false = sym (own answer is) ∙ ap is_answers h ∙ alien in cc

    pub write_fault_of : (status : Status) → Closes Is old new sink_old sink_new before after status → status ≡ WriteFault
        → FaultsRose sink_old sink_new × IsBegun Is old new before after
    write_fault_of status (answered answer _ is counts ends) h =
        let w = part_if_failed sink_old sink_new before after answer status ends h (foreign answer is WriteFault refl) in
        (w.0, record { answer = answer; is = is; counts = counts; part = w.1 })
    write_fault_of _ (no_room kept calm same) h = cc

    pub no_memory_of : (status : Status) → Closes Is old new sink_old sink_new before after status → status ≡ NoMemory
        → (after ≡ before) ⊎ IsBegun Is old new before after
    no_memory_of status (answered answer _ is counts ends) h = inr (record {
      answer = answer;
      is = is;
      counts = counts;
      part = part_if_no_memory sink_old sink_new before after answer status ends h (foreign answer is NoMemory refl);
    })
    no_memory_of _ (no_room kept calm same) h = inl same

    pub no_other_of : (status : Status) → Closes Is old new sink_old sink_new before after status
        → (status ≡ LineFault → ⊥) × (status ≡ Ended → ⊥) × (status ≡ Spent → ⊥)
    no_other_of status (answered answer _ is counts ends) = (
      (λ h. foreign answer is LineFault refl (whole_if sink_old sink_new before after answer status ends LineFault h refl).0),
      (λ h. foreign answer is Ended refl (whole_if sink_old sink_new before after answer status ends Ended h refl).0),
      (λ h. foreign answer is Spent refl (whole_if sink_old sink_new before after answer status ends Spent h refl).0),
    )
    no_other_of _ (no_room kept calm same) = ((λ h. cc), (λ h. cc), (λ h. cc))
