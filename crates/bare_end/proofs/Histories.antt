-- An end stands for its history with the steps that it made.
use Rattle.std.proofs.Common.{◌≡◌, Bool, true, false, List, [], ◌∷◌, ◌++◌, map, refl, sym, ap, subst, ◌∙◌}
use Rattle.std.specs.Prelude.{MatchBool}
use Rattle.std.specs.Bool.{OnFalse}
use Rattle.dialogue.specs.declared.call.Call.{Call}
use Rattle.end_rules.specs.Base.{Base}
use Rattle.end_rules.specs.Invoking.{Reply, is_memory}
use Rattle.end_rules.specs.Calling.{can_call}
use Rattle.end_rules.specs.Requesting.{due_of}
use Rattle.end_rules.specs.History.{Step, History, called, sent, call_steps}
use Rattle.end_wire.specs.Bare.{bare_base}
use Rattle.end_wire.specs.Line.{End, after, after_all, end_of, going_on}
use Rattle.bare_end.specs.View.{EndView, base, body, seen, Stepped, StandsFor, Died, Answered}

going : (b : Base) (h : History) (steps : List Step) → after_all b (end_of b h) steps ≡ end_of b (going_on h steps)
going b h [] = refl
going b h (x ∷ xs) = going b (x ∷ h) xs

pub after_all-append : (b : Base) (e : End) (xs ys : List Step) → after_all b e (xs ++ ys) ≡ after_all b (after_all b e xs) ys
after_all-append b e [] ys = refl
after_all-append b e (x ∷ xs) ys = after_all-append b (after b e x) xs ys

-- the base of an end stays
pub same_base : (old new : EndView) (steps : List Step) → Stepped old new steps → base new ≡ base old
same_base old new steps s = λ i. bare_base (s.tables i) (s.config i)

pub stands_on : (old new : EndView) (steps : List Step) → Stepped old new steps → (h : History) → StandsFor old h → StandsFor new (going_on h steps)
stands_on old new steps s h stood =
    s.end ∙ ap (λ (e : End). after_all (base old) e steps) stood ∙ going (base old) h steps
    ∙ ap (λ (b : Base). end_of b (going_on h steps)) (sym (same_base old new steps s))

pub stepped_on : (old now next : EndView) (xs ys : List Step) → Stepped old now xs → Stepped now next ys → Stepped old next (xs ++ ys)
stepped_on old now next xs ys s t = record {
  tables = t.tables ∙ s.tables;
  config = t.config ∙ s.config;
  end = t.end ∙ ap (λ (b : Base). after_all b (seen now) ys) (same_base old now xs s)
      ∙ ap (λ (e : End). after_all (base old) e ys) s.end ∙ sym (after_all-append (base old) (seen old) xs ys);
}

-- the steps of a call whose answer is the one that can be given
steps_are : (old : EndView) (call : Call) (reply : Reply) (h : History) → reply ≡ can_call (base old) (body old) call → StandsFor old h
    → called call reply ∷ map sent (due_of (base old) (body old) call reply) ≡ call_steps (base old) (end_of (base old) h).body call
steps_are old call reply h e s =
    ap (λ (r : Reply). called call r ∷ map sent (due_of (base old) (body old) call r)) e
    ∙ ap (λ (at : End). call_steps (base old) at.body call) s

pub answered_on : (old new : EndView) (call : Call) (reply : Reply) → MatchBool (is_memory reply) (Died old new) (Answered (can_call (base old) (body old) call) old new call reply)
    → (h : History) → StandsFor old h → OnFalse (is_memory reply) (StandsFor new (going_on h (call_steps (base old) (end_of (base old) h).body call)))
answered_on old new call reply a h s = go (is_memory reply) a
  where
    go : (b : Bool) → MatchBool b (Died old new) (Answered (can_call (base old) (body old) call) old new call reply)
        → OnFalse b (StandsFor new (going_on h (call_steps (base old) (end_of (base old) h).body call)))
    go true g = tt
    go false g = subst (λ (xs : List Step). StandsFor new (going_on h xs)) (steps_are old call reply h g.reply_is s)
        (stands_on old new (called call reply ∷ map sent (due_of (base old) (body old) call reply)) g.steps h s)
