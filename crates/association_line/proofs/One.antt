-- What an end does with octets, at a call and by itself is one thing.
use Rattle.std.proofs.Common.{◌≡◌, refl, true, false, ◌∙◌, sym, ap, List, ◌∷◌, ◌++◌, None, Ok, Err}
use Rattle.std.specs.Prelude.{Some}
use Rattle.dialogue.specs.declared.indication.Indication.{Indication}
use Rattle.association_reading.specs.end_rules.Base.{Base, Fault}
use Rattle.association_reading.specs.end_rules.Messages.{Message}
use Rattle.association_reading.specs.end_rules.State.{Body, passes_over}
use Rattle.association_reading.specs.end_rules.Invoking.{Reply}
use Rattle.association_reading.specs.end_rules.Calling.{can_call}
use Rattle.association_reading.specs.end_rules.ByItself.{OwnAct, next_own}
use Rattle.association_reading.specs.end_rules.Reacting.{Reaction, Passes, Takes, Fails}
use Rattle.association_reading.specs.end_rules.History.{Step, fed, passed, feed_end, after_step, step_of, ByItself, rests, goes, call_steps}
use Rattle.association_reading.specs.Front.{Short, Intake, first_in}
use Rattle.association_reading.specs.Reacting.{react_to}
use Rattle.association_line.specs.Line.{End, after, after_all}
use Rattle.association_line.specs.Feeding.{message_in, taking, failing, Reads, is_over, waits, passes, takes, fails, OwnAfter}
use Rattle.association_line.specs.OneFeed.{OneFeed, OneCall}

some-same : {X : Type 0} (x y : X) → Some x ≡ Some y → x ≡ y
some-same x y e = cc

record SameTaking (body body' : Body) (answers answers' : List Message) (told told' : List Indication) : Type 0 where
  answers_are : answers ≡ answers'
  told_are : told ≡ told'

same-taking : (b c : Body) (xs ys : List Message) (us vs : List Indication) → Takes b xs us ≡ Takes c ys vs → SameTaking b c xs ys us vs
same-taking b c xs ys us vs e =
    let q : xs ≡ ys = cc in
    let r : us ≡ vs = cc in record { answers_are = q; told_are = r }

record SameFault (f g : Fault) (aborts aborts' : List Message) (told told' : List Indication) : Type 0 where
  fault_is : f ≡ g
  aborts_are : aborts ≡ aborts'
  told_are : told ≡ told'

same-fault : (f g : Fault) (b c : Body) (xs ys : List Message) (us vs : List Indication) → Fails f b xs us ≡ Fails g c ys vs → SameFault f g xs ys us vs
same-fault f g b c xs ys us vs e =
    let p : f ≡ g = cc in
    let q : xs ≡ ys = cc in
    let r : us ≡ vs = cc in record { fault_is = p; aborts_are = q; told_are = r }

record SameReads (steps steps' : List Step) (shown shown' : List Indication) : Type 0 where
  steps_are : steps ≡ steps'
  shown_are : shown ≡ shown'

module _ (base : Base) where
  -- ---- by itself

  own-not : (body body' : Body) (act : OwnAct) → body ≡ body' → next_own base body ≡ None → next_own base body' ≡ Some act → ⊥
  own-not body body' act is e f = let k : None ≡ Some act = sym e ∙ ap (next_own base) is ∙ f in cc

  one-own : (body body' : Body) (first second : List Step) → body ≡ body' → ByItself base body first → ByItself base body' second → first ≡ second
  one-own body body' first second is (rests e) (rests f) = refl
  one-own body body' first second is (rests e) (goes act f next) = absurd (own-not body body' act is e f)
  one-own body body' first second is (goes act e next) (rests f) = absurd (own-not body' body act (sym is) f e)
  one-own body body' first second is (goes {steps = more} act e next) (goes {steps = later} act' f next') =
      let a : act ≡ act' = some-same act act' (sym e ∙ ap (next_own base) is ∙ f) in
      let r : more ≡ later = one-own (after_step base body (step_of act)) (after_step base body' (step_of act')) more later (λ i. after_step base (is i) (step_of (a i))) next next' in
      λ i. step_of (a i) ∷ r i

  -- ---- reading

  over-not : (e f : End) → e ≡ f → passes_over e.body.link.phase ≡ true → passes_over f.body.link.phase ≡ false → ⊥
  over-not e f is o u = let k : true ≡ false = sym o ∙ ap (λ (x : End). passes_over x.body.link.phase) is ∙ u in cc

  same-intake : (e f : End) (i j : Intake) → e ≡ f → e.line.came ≡ Some i → f.line.came ≡ Some j → i ≡ j
  same-intake e f i j is p q = some-same i j (sym p ∙ ap (λ (x : End). x.line.came) is ∙ q)

  same-reaction : (e f : End) (i j : Intake) (r s : Reaction) → e ≡ f → e.line.came ≡ Some i → f.line.came ≡ Some j → react_to base e.body (first_in i) ≡ Some r → react_to base f.body (first_in j) ≡ Some s → r ≡ s
  same-reaction e f i j r s is p q h k =
      let n = same-intake e f i j is p q in some-same r s (sym h ∙ (λ t. react_to base (is t).body (first_in (n t))) ∙ k)

  short-not : (e f : End) (i j : Intake) (r : Reaction) → e ≡ f → e.line.came ≡ Some i → f.line.came ≡ Some j → first_in i ≡ Short → react_to base f.body (first_in j) ≡ Some r → ⊥
  short-not e f i j r is p q short h =
      let n = same-intake e f i j is p q in
      let k : None ≡ Some r = ap (react_to base e.body) (sym short) ∙ (λ t. react_to base (is t).body (first_in (n t))) ∙ h in cc

  one-read : (e f : End) (steps steps' : List Step) (shown shown' : List Indication) → e ≡ f → Reads base e steps shown → Reads base f steps' shown' → SameReads steps steps' shown shown'
  one-read e f steps steps' shown shown' is (is_over o) (is_over p) = record { steps_are = refl; shown_are = refl }
  one-read e f steps steps' shown shown' is (is_over o) (waits j u q s) = absurd (over-not e f is o u)
  one-read e f steps steps' shown shown' is (is_over o) (passes j u q h next) = absurd (over-not e f is o u)
  one-read e f steps steps' shown shown' is (is_over o) (takes j m b xs us u q k h next) = absurd (over-not e f is o u)
  one-read e f steps steps' shown shown' is (is_over o) (fails j g b xs us u q h) = absurd (over-not e f is o u)
  one-read e f steps steps' shown shown' is (waits i u p s) (is_over o) = absurd (over-not f e (sym is) o u)
  one-read e f steps steps' shown shown' is (waits i u p s) (waits j v q t) = record { steps_are = refl; shown_are = refl }
  one-read e f steps steps' shown shown' is (waits i u p s) (passes j v q h next) = absurd (short-not e f i j _ is p q s h)
  one-read e f steps steps' shown shown' is (waits i u p s) (takes j m b xs us v q k h next) = absurd (short-not e f i j _ is p q s h)
  one-read e f steps steps' shown shown' is (waits i u p s) (fails j g b xs us v q h) = absurd (short-not e f i j _ is p q s h)
  one-read e f steps steps' shown shown' is (passes i u p h next) (is_over o) = absurd (over-not f e (sym is) o u)
  one-read e f steps steps' shown shown' is (passes i u p h next) (waits j v q s) = absurd (short-not f e j i _ (sym is) q p s h)
  one-read e f steps steps' shown shown' is (passes {steps = more} {shown = later} i u p h next) (passes {steps = more'} {shown = later'} j v q h' next') =
      let r = one-read (after base e passed) (after base f passed) more more' later later' (ap (λ (x : End). after base x passed) is) next next' in
      record { steps_are = ap (λ (l : List Step). passed ∷ l) r.steps_are; shown_are = r.shown_are }
  one-read e f steps steps' shown shown' is (passes i u p h next) (takes j m b xs us v q k h' next') =
      let n : Passes ≡ Takes b xs us = same-reaction e f i j Passes (Takes b xs us) is p q h h' in cc
  one-read e f steps steps' shown shown' is (passes i u p h next) (fails j g b xs us v q h') =
      let n : Passes ≡ Fails g b xs us = same-reaction e f i j Passes (Fails g b xs us) is p q h h' in cc
  one-read e f steps steps' shown shown' is (takes i m b xs us u p k h next) (is_over o) = absurd (over-not f e (sym is) o u)
  one-read e f steps steps' shown shown' is (takes i m b xs us u p k h next) (waits j v q s) = absurd (short-not f e j i _ (sym is) q p s h)
  one-read e f steps steps' shown shown' is (takes i m b xs us u p k h next) (passes j v q h' next') =
      let n : Takes b xs us ≡ Passes = same-reaction e f i j (Takes b xs us) Passes is p q h h' in cc
  one-read e f steps steps' shown shown' is (takes {steps = more} {shown = later} i m b xs us u p k h next) (takes {steps = more'} {shown = later'} j m' b' ys vs v q k' h' next') =
      let t = same-taking b b' xs ys us vs (same-reaction e f i j (Takes b xs us) (Takes b' ys vs) is p q h h') in
      let n = same-intake e f i j is p q in
      let a : m ≡ m' = some-same m m' (sym k ∙ (λ s. message_in base (is s).body (first_in (n s))) ∙ k') in
      let there : after_all base e (taking m xs) ≡ after_all base f (taking m' ys) = λ s. after_all base (is s) (taking (a s) (t.answers_are s)) in
      let r = one-read (after_all base e (taking m xs)) (after_all base f (taking m' ys)) more more' later later' there next next' in
      record { steps_are = λ s. taking (a s) (t.answers_are s) ++ r.steps_are s; shown_are = λ s. t.told_are s ++ r.shown_are s }
  one-read e f steps steps' shown shown' is (takes i m b xs us u p k h next) (fails j g b' ys vs v q h') =
      let n : Takes b xs us ≡ Fails g b' ys vs = same-reaction e f i j (Takes b xs us) (Fails g b' ys vs) is p q h h' in cc
  one-read e f steps steps' shown shown' is (fails i g b xs us u p h) (is_over o) = absurd (over-not f e (sym is) o u)
  one-read e f steps steps' shown shown' is (fails i g b xs us u p h) (waits j v q s) = absurd (short-not f e j i _ (sym is) q p s h)
  one-read e f steps steps' shown shown' is (fails i g b xs us u p h) (passes j v q h' next') =
      let n : Fails g b xs us ≡ Passes = same-reaction e f i j (Fails g b xs us) Passes is p q h h' in cc
  one-read e f steps steps' shown shown' is (fails i g b xs us u p h) (takes j m b' ys vs v q k h' next') =
      let n : Fails g b xs us ≡ Takes b' ys vs = same-reaction e f i j (Fails g b xs us) (Takes b' ys vs) is p q h h' in cc
  one-read e f steps steps' shown shown' is (fails i g b xs us u p h) (fails j g' b' ys vs v q h') =
      let t = same-fault g g' b b' xs ys us vs (same-reaction e f i j (Fails g b xs us) (Fails g' b' ys vs) is p q h h') in
      record { steps_are = λ s. failing (t.fault_is s) (t.aborts_are s); shown_are = t.told_are }

pub one-feed : OneFeed
one-feed base end octets first second told later x y =
    let r = one-read base (after base end (fed octets)) (after base end (fed octets)) x.reading y.reading told later refl x.reads y.reads in
    let o = one-own base (after_all base (after base end (fed octets)) x.reading).body (after_all base (after base end (fed octets)) y.reading).body x.own y.own
    (ap (λ (l : List Step). (after_all base (after base end (fed octets)) l).body) r.steps_are) x.by_itself y.by_itself in
    (x.all ∙ (λ i. fed octets ∷ (r.steps_are i ++ feed_end ∷ o i)) ∙ sym y.all, r.shown_are)

after-reply : (base : Base) (reply : Reply) (body : Body) (own own' : List Step) → OwnAfter base reply body own → OwnAfter base reply body own' → own ≡ own'
after-reply base (Ok answer) body own own' h k = one-own base body body own own' refl h k
after-reply base (Err refusal) body own own' h k = h ∙ sym k

pub one-call : OneCall
one-call base end call first second x y =
    let o = after-reply base (can_call base end.body call) (after_all base end (call_steps base end.body call)).body x.own y.own x.by_itself y.by_itself in
    x.all ∙ ap (λ (l : List Step). call_steps base end.body call ++ l) o ∙ sym y.all
