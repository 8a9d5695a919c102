-- An end stands for its history with the steps that it made.
use Rattle.std.proofs.Common.{◌≡◌, List, [], ◌∷◌, ◌++◌, refl, sym, ap, ◌∙◌}
use Rattle.end_rules.specs.Base.{Base, base_of}
use Rattle.end_rules.specs.History.{Step, History, after_steps}
use Rattle.association_line.specs.association_reading.Transfers.{association_spellings}
use Rattle.association_line.specs.Line.{End, after, after_all, end_of, going_on}
use Rattle.association_end.specs.View.{EndView, base, Stepped, StandsFor}

going : (b : Base) (h : History) (steps : List Step) → after_all b (end_of b h) steps ≡ end_of b (going_on h steps)
going b h [] = refl
going b h (x ∷ xs) = going b (x ∷ h) xs

pub after_all-append : (b : Base) (e : End) (xs ys : List Step) → after_all b e (xs ++ ys) ≡ after_all b (after_all b e xs) ys
after_all-append b e [] ys = refl
after_all-append b e (x ∷ xs) ys = after_all-append b (after b e x) xs ys

-- the body after steps
pub body_after : (b : Base) (e : End) (steps : List Step) → (after_all b e steps).body ≡ after_steps b e.body steps
body_after b e [] = refl
body_after b e (x ∷ xs) = body_after b (after b e x) xs

-- what an end stands on stays
pub same_base : (old new : EndView) (steps : List Step) → Stepped old new steps → base new ≡ base old
same_base old new steps s = λ i. base_of (s.tables i) (s.config i) (association_spellings (s.tables i))

pub stands_on : (old new : EndView) (steps : List Step) → Stepped old new steps → (h : History) → StandsFor old h → StandsFor new (going_on h steps)
stands_on old new steps s h stood =
    s.end ∙ ap (λ (e : End). after_all (base old) e steps) stood ∙ going (base old) h steps
    ∙ ap (λ (b : Base). end_of b (going_on h steps)) (sym (same_base old new steps s))

pub stepped_on : (old now next : EndView) (xs ys : List Step) → Stepped old now xs → Stepped now next ys → Stepped old next (xs ++ ys)
stepped_on old now next xs ys s t = record {
  tables = t.tables ∙ s.tables;
  config = t.config ∙ s.config;
  end = t.end ∙ ap (λ (b : Base). after_all b now.end ys) (same_base old now xs s)
      ∙ ap (λ (e : End). after_all (base old) e ys) s.end ∙ sym (after_all-append (base old) old.end xs ys);
}
