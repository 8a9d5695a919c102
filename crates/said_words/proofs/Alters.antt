-- An accepted Alter asks for no more than an end may, of contexts that it holds and of new ones, in each mode.
use Rattle.std.proofs.Common.{◌≡◌, refl, true, false, arith, ℕ, ◌+◌, ◌≤◌, List, [], ◌∷◌, ◌++◌, length}
use Rattle.std.specs.Prelude.{ℤ, Bool, not, ◌||◌, Option, Some, None, Ok, is_some, nat_eq, nat_le, nat_lt, if◌then◌else◌}
use Rattle.std.specs.List.{list_any}
use Rattle.std.proofs.lemmas.Bool.Decides.{nat_tests}
use Rattle.osi_base.specs.declared.layer_words.Proposal.{Proposal}
use Rattle.osi_base.specs.Limits.{most_contexts, most_alterations}
use Rattle.dialogue.specs.declared.config.Mode.TheVariants.{Direct}
use Rattle.dialogue.specs.declared.call.CallRefusal.{CallRefusal}
use Rattle.dialogue.specs.declared.call.CallRefusal.TheVariants as refusals
use Rattle.end_model.specs.end_rules.Base.{Base}
use Rattle.end_model.specs.end_rules.Sets.{Alteration, is_among, named_ids, proposed_ids, is_fixed, is_named_in, count_added}
use Rattle.osi_base.specs.SetPlaces.{pair_of}
use Rattle.osi_base.specs.Proposals.{has_bad_transfers}
use Rattle.end_model.specs.end_rules.State.{Body, is_empty, is_free, is_current, is_ending}
use Rattle.end_model.specs.end_rules.Altering.{used, has_double, is_no_context, is_bad, additions_refusal, deletion_refusal, deletions_refusal, or_else, is_set_full, alteration_refusal, can_alter}
use Rattle.end_model.specs.Rows.{at}
use Rattle.end_model.proofs.Ladder.{passed, unrefused}
use Rattle.reliable_model.proofs.Fixed.{AreIdentifiers, good-identifiers}
use Rattle.said_words.specs.Calls.{AreNamed}
use Rattle.said_words.specs.Fields.{IsContext, AreContexts, AreFew, IsAlteration}
use Rattle.said_words.proofs.Lists.{AllThere, there-few, double-behind}

or-left : (a b : Bool) → (a || b) ≡ false → a ≡ false
or-left true b h = cc
or-left false b h = refl

or-right : (a b : Bool) → (a || b) ≡ false → b ≡ false
or-right true b h = cc
or-right false b h = h

none-first : (x y : Option CallRefusal) → or_else x y ≡ None → x ≡ None
none-first None y h = refl
none-first (Some refusal) y h = cc

none-second : (x y : Option CallRefusal) → or_else x y ≡ None → y ≡ None
none-second None y h = h
none-second (Some refusal) y h = cc

not-full : (b : Bool) (refusal : CallRefusal) → (if b then Some refusal else None) ≡ None → b ≡ false
not-full true refusal h = cc
not-full false refusal h = refl

few-transfers : (ps : List Proposal) → AreIdentifiers ps → list_any has_bad_transfers ps ≡ false → AreFew ps
few-transfers [] i h = tt
few-transfers (p ∷ ps) i h =
    ((i.0.low, i.0.high), few (length p.transfers) (or-right (nat_eq (length p.transfers) 0) (nat_lt 8 (length p.transfers)) (or-left (has_bad_transfers p) (list_any has_bad_transfers ps) h)), few-transfers ps i.1 (or-right (has_bad_transfers p) (list_any has_bad_transfers ps) h))
  where
    few : (n : ℕ) → nat_lt 8 n ≡ false → n ≤ 8
    few n h = grind (arith, nat_tests)

deleted-there : (body : Body) (j : ℕ) → deletion_refusal body j ≡ None → is_some (pair_of body.sets.held j) ≡ true
deleted-there body j h = go (is_named_in body.sets.own j) (is_some (pair_of body.sets.held j)) (is_fixed (pair_of body.sets.held j)) (is_among j (used body)) h
  where
    go : (a b c d : Bool) → (if a then Some (refusals.Named j) else (if not b then Some (refusals.Absent j) else (if c then Some (refusals.Fixed j) else (if d then Some (refusals.InUse j) else None)))) ≡ None → b ≡ true
    go true b c d h = cc
    go false true c d h = refl
    go false false c d h = cc

all-there : (body : Body) (js : List ℕ) → deletions_refusal body js ≡ None → AllThere js body.sets.held
all-there body [] h = tt
all-there body (j ∷ js) h =
    (deleted-there body j (none-first (deletion_refusal body j) (deletions_refusal body js) h), all-there body js (none-second (deletion_refusal body j) (deletions_refusal body js) h))

-- what it names are identifiers of contexts
context-so : (k : ℕ) → is_no_context k ≡ false → IsContext k
context-so k h = (low k (or-left (nat_eq k 0) (nat_lt 32767 k) h), high k (or-right (nat_eq k 0) (nat_lt 32767 k) h))
  where
    low : (k : ℕ) → nat_eq k 0 ≡ false → 1 ≤ k
    low k h = grind (arith, nat_tests)

    high : (k : ℕ) → nat_lt 32767 k ≡ false → k ≤ 32767
    high k h = grind (arith, nat_tests)

all-contexts : (ks : List ℕ) → list_any is_no_context ks ≡ false → AreContexts ks
all-contexts [] h = tt
all-contexts (k ∷ ks) h = (context-so k (or-left (is_no_context k) (list_any is_no_context ks) h), all-contexts ks (or-right (is_no_context k) (list_any is_no_context ks) h))

contexts-behind : (xs ys : List ℕ) → list_any is_no_context (xs ++ ys) ≡ false → AreContexts ys
contexts-behind [] ys h = all-contexts ys h
contexts-behind (x ∷ xs) ys h = contexts-behind xs ys (or-right (is_no_context x) (list_any is_no_context (xs ++ ys)) h)

pub record Alterable (body : Body) (a : Alteration) : Type 0 where
  pub is : IsAlteration a.add a.delete
  pub added : AreIdentifiers a.add
  pub room : length body.sets.held + count_added body.sets.own + length a.add ≤ 64

pub alterable-so : (base : Base) (body : Body) (a : Alteration) → AreNamed a.add → is_bad a ≡ false → alteration_refusal base body a ≡ None → Alterable body a
alterable-so base body a named good none =
    let more = or_else (deletions_refusal body a.delete) (if is_set_full body a then Some refusals.SetFull else None) in
    let behind = none-second (additions_refusal base body a.add) more none in
    let deletes = none-first (deletions_refusal body a.delete) (if is_set_full body a then Some refusals.SetFull else None) behind in
    let full = not-full (is_set_full body a) refusals.SetFull (none-second (deletions_refusal body a.delete) (if is_set_full body a then Some refusals.SetFull else None) behind) in
    let bad = or-left (is_empty (named_ids a) || has_double (named_ids a) || list_any is_no_context (named_ids a)) (list_any has_bad_transfers a.add) good in
    let transfers = or-right (is_empty (named_ids a) || has_double (named_ids a) || list_any is_no_context (named_ids a)) (list_any has_bad_transfers a.add) good in
    let contexts = or-right (is_empty (named_ids a) || has_double (named_ids a)) (list_any is_no_context (named_ids a)) bad in
    let double = or-right (is_empty (named_ids a)) (has_double (named_ids a)) (or-left (is_empty (named_ids a) || has_double (named_ids a)) (list_any is_no_context (named_ids a)) bad) in
    let added = good-identifiers a good in
    let room = within (length body.sets.held + count_added body.sets.own + length a.add) full in
    let fewer = there-few a.delete body.sets.held (double-behind (proposed_ids a.add) a.delete double) (all-there body a.delete deletes) in
    record {
      is = record { named = named; added = few-transfers a.add added transfers; count = omega arith; deleted = contexts-behind (proposed_ids a.add) a.delete contexts; deletions = omega arith };
      added = added;
      room = room;
    }
  where
    within : (n : ℕ) → nat_lt most_contexts n ≡ false → n ≤ 64
    within n h = grind (arith, nat_tests)

pub alterable : (base : Base) (body : Body) (a : Alteration) (answer : Option ℤ) → AreNamed a.add → can_alter (at Direct base) body a ≡ Ok answer → Alterable body a
alterable base body a answer named h =
    let x = passed (not body.link.manages) refusals.NotNegotiated _ answer h in
    let y = passed (not (is_free body.link.awaits)) refusals.Waiting _ answer x.later in
    let u = passed (is_current is_ending body.sending.current) (refusals.Ending body.sending.started) _ answer y.later in
    let v = passed (nat_le most_alterations (length body.sets.own)) refusals.AlterPending _ answer u.later in
    let w = passed (is_bad a) refusals.BadProposal _ answer v.later in
    alterable-so (at Direct base) body a named w.holds (unrefused (alteration_refusal (at Direct base) body a) (Ok None) answer w.later).holds
