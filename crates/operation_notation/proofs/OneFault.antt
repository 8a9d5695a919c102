-- A text reads as a module or has one first fault, and never both.
use Rattle.std.proofs.Common.{◌≡◌, ℕ, Bool, true, false, List, [], ◌∷◌, ◌++◌, length, Option, Some, None, Result, Ok, Err, refl, sym, ap, subst, ◌∙◌, append_assoc, arith, inl, inr}
use Rattle.std.specs.Prelude.{◌⊎◌, nat_lt, if◌then◌else◌}
use Rattle.osi_base.specs.Limits.{most_module_octets}
use Rattle.notation_tokens.specs.Lexeme.{Lexeme, lexemes}
use Rattle.notation_tokens.specs.Lexing.{lexed_of}
use Rattle.notation_tokens.specs.Texts.{unless_stopped, too_long}
use Rattle.notation_tokens.specs.declared.token_cutting.Lexed.{Lexed}
use Rattle.notation_tokens.specs.declared.token.Place.{Place}
use Rattle.operation_notation.specs.Reading.{Read}
use Rattle.operation_notation.specs.GrammarTypes.{narrow, marked}
use Rattle.operation_notation.specs.GrammarModules.{Module}
use Rattle.operation_notation.specs.ReadingModules.{whole_at}
use Rattle.operation_notation.specs.Modules.{ReadsAsModule, module_of, verdict, refused}
use Rattle.operation_notation.specs.Faults.{Begins, IsKind, TokenFault, IsFirstFault, Faulty}
use Rattle.notation_tokens.specs.declared.faults.NotationFault.{NotationFault}
use Rattle.notation_tokens.specs.declared.faults.NotationFault.TheVariants as faults
use Rattle.notation_tokens.specs.declared.faults.NotationKind.{NotationKind}
use Rattle.operation_notation.specs.declared.module.ModuleText.{ModuleText}
use Rattle.operation_notation.proofs.ModuleLaws.{whole_found, whole_only, reads_found}
use Rattle.operation_notation.proofs.Wider.{mark_reads}
use Rattle.operation_notation.proofs.FirstFaults.{fault_first}

-- ---- two places in one list

-- x and s end in front of t
record Before (x : List Lexeme) (s : Lexeme) (u y : List Lexeme) (t : Lexeme) (v : List Lexeme) : Type 0 where
  between : List Lexeme
  is : y ≡ x ++ s ∷ between
  rest : u ≡ between ++ t ∷ v

record Here (x : List Lexeme) (s : Lexeme) (u y : List Lexeme) (t : Lexeme) (v : List Lexeme) : Type 0 where
  front : x ≡ y
  token : s ≡ t
  behind : u ≡ v

abbrev Order : List Lexeme → Lexeme → List Lexeme → List Lexeme → Lexeme → List Lexeme → Type 0
Order x s u y t v = Here x s u y t v ⊎ (Before x s u y t v ⊎ Before y t v x s u)

heads : (s t : Lexeme) (u v : List Lexeme) → s ∷ u ≡ t ∷ v → s ≡ t
heads s t u v e = cc

tails : (s t : Lexeme) (u v : List Lexeme) → s ∷ u ≡ t ∷ v → u ≡ v
tails s t u v e = cc

order_more : (b c : Lexeme) (x : List Lexeme) (s : Lexeme) (u y : List Lexeme) (t : Lexeme) (v : List Lexeme) → b ≡ c → Order x s u y t v → Order (b ∷ x) s u (c ∷ y) t v
order_more b c x s u y t v e (inl h) = inl (record { front = ap (λ (z : Lexeme). z ∷ x) e ∙ ap (λ (z : List Lexeme). c ∷ z) h.front; token = h.token; behind = h.behind })
order_more b c x s u y t v e (inr (inl h)) = inr (inl (record { between = h.between; is = ap (λ (z : Lexeme). z ∷ y) (sym e) ∙ ap (λ (z : List Lexeme). b ∷ z) h.is; rest = h.rest }))
order_more b c x s u y t v e (inr (inr h)) = inr (inr (record { between = h.between; is = ap (λ (z : Lexeme). z ∷ x) e ∙ ap (λ (z : List Lexeme). c ∷ z) h.is; rest = h.rest }))

order : (x : List Lexeme) (s : Lexeme) (u y : List Lexeme) (t : Lexeme) (v : List Lexeme) → x ++ s ∷ u ≡ y ++ t ∷ v → Order x s u y t v
order [] s u [] t v e = inl (record { front = refl; token = heads s t u v e; behind = tails s t u v e })
order [] s u (c ∷ y) t v e = inr (inl (record { between = y; is = ap (λ (z : Lexeme). z ∷ y) (sym (heads s c u (y ++ t ∷ v) e)); rest = tails s c u (y ++ t ∷ v) e }))
order (b ∷ x) s u [] t v e = inr (inr (record { between = x; is = ap (λ (z : Lexeme). z ∷ x) (heads b t (x ++ s ∷ u) v e); rest = sym (tails b t (x ++ s ∷ u) v e) }))
order (b ∷ x) s u (c ∷ y) t v e = order_more b c x s u y t v (heads b c (x ++ s ∷ u) (y ++ t ∷ v) e) (order x s u y t v (tails b c (x ++ s ∷ u) (y ++ t ∷ v) e))

-- ---- no two faults

-- no module begins with these tokens
abbrev Past : List Lexeme → Lexeme → Type 0
Past x s = (others : List Lexeme) (m : ModuleText) → Module marked (x ++ s ∷ others) m → ⊥

not_before : (x : List Lexeme) (s : Lexeme) (u y : List Lexeme) (t : Lexeme) (v : List Lexeme) → Past x s → Begins marked y → Before x s u y t v → ⊥
not_before x s u y t v past start b = past (b.between ++ start.back) start.whole
    (subst (λ (z : List Lexeme). Module marked z start.whole) (ap (λ (z : List Lexeme). z ++ start.back) b.is ∙ append_assoc x (s ∷ b.between) start.back) start.spelled)

not_past : (ts x : List Lexeme) (s : Lexeme) (u : List Lexeme) → ts ≡ x ++ s ∷ u → Past x s → Begins marked ts → ⊥
not_past ts x s u whole past start = past (u ++ start.back) start.whole
    (subst (λ (z : List Lexeme). Module marked z start.whole) (ap (λ (z : List Lexeme). z ++ start.back) whole ∙ append_assoc x (s ∷ u) start.back) start.spelled)

one_kind : (x : List Lexeme) (s : Lexeme) (u : List Lexeme) (k j : NotationKind) → IsKind x s u k → IsKind x s u j → k ≡ j
one_kind x s u k j (inl p) (inl q) = p.0 ∙ sym q.0
one_kind x s u k j (inl p) (inr q) = absurd (q.1 p.1)
one_kind x s u k j (inr p) (inl q) = absurd (p.1 q.1)
one_kind x s u k j (inr p) (inr q) = p.0 ∙ sym q.0

-- line, column and kind are the same
record Same (l c : ℕ) (k : NotationKind) (m d : ℕ) (j : NotationKind) : Type 0 where
  line : l ≡ m
  column : c ≡ d
  kind : k ≡ j

module _ (text : List ℕ) (l c : ℕ) (k : NotationKind) (m d : ℕ) (j : NotationKind) where
  two_tokens : (f : TokenFault text l c k) (g : TokenFault text m d j) → Order f.front f.token f.behind g.front g.token g.behind → Same l c k m d j
  two_tokens f g (inl h) =
      let moved : IsKind g.front g.token g.behind k =
      subst (λ (z : List Lexeme). IsKind g.front g.token z k) h.behind (subst (λ (z : Lexeme). IsKind g.front z f.behind k) h.token (subst (λ (z : List Lexeme). IsKind z f.token f.behind k) h.front f.is)) in
      record {
        line = sym f.at_line ∙ ap (λ (z : Lexeme). z.line) h.token ∙ g.at_line;
        column = sym f.at_column ∙ ap (λ (z : Lexeme). z.column) h.token ∙ g.at_column;
        kind = one_kind g.front g.token g.behind k j moved g.is;
      }
  two_tokens f g (inr (inl b)) = absurd (not_before f.front f.token f.behind g.front g.token g.behind f.past g.start b)
  two_tokens f g (inr (inr b)) = absurd (not_before g.front g.token g.behind f.front f.token f.behind g.past f.start b)

  two_faults : IsFirstFault text (faults.At l c k) → IsFirstFault text (faults.At m d j) → Same l c k m d j
  two_faults (inl f) (inl g) = record { line = f.at_line ∙ sym g.at_line; column = f.at_column ∙ sym g.at_column; kind = f.is ∙ sym g.is }
  two_faults (inl f) (inr (inl g)) = let a = f.long in let b = g.fits in absurd (omega (arith, a, b))
  two_faults (inl f) (inr (inr g)) = let a = f.long in let b = g.fits in absurd (omega (arith, a, b))
  two_faults (inr (inl f)) (inl g) = let a = g.long in let b = f.fits in absurd (omega (arith, a, b))
  two_faults (inr (inr f)) (inl g) = let a = g.long in let b = f.fits in absurd (omega (arith, a, b))
  two_faults (inr (inl f)) (inr (inl g)) = two_tokens f g (order f.front f.token f.behind g.front g.token g.behind (sym f.whole ∙ g.whole))
  two_faults (inr (inl f)) (inr (inr g)) = absurd (not_past (lexemes text (lexed_of text).tokens) f.front f.token f.behind f.whole f.past g.start)
  two_faults (inr (inr f)) (inr (inl g)) = absurd (not_past (lexemes text (lexed_of text).tokens) g.front g.token g.behind g.whole g.past f.start)
  two_faults (inr (inr f)) (inr (inr g)) = record { line = sym f.at_line ∙ g.at_line; column = sym f.at_column ∙ g.at_column; kind = f.is ∙ sym g.is }

pub one_fault : (text : List ℕ) (f g : Faulty text) → faults.At f.line f.column f.kind ≡ faults.At g.line g.column g.kind
one_fault text f g = let same_as = two_faults text f.line f.column f.kind g.line g.column g.kind f.first g.first in rw (same_as.line, same_as.column, same_as.kind) refl

-- ---- a module or a fault

not_token : (text : List ℕ) (a : ModuleText) (l c : ℕ) (k : NotationKind) → ReadsAsModule text a → TokenFault text l c k → ⊥
not_token text a l c k r f =
    let spelled = whole_found marked (lexemes text (lexed_of text).tokens) a [] (mark_reads (lexemes text (lexed_of text).tokens) a [] (whole_only narrow (lexemes text (lexed_of text).tokens) a r.spelled)) in
    let there : Module marked (f.front ++ f.token ∷ f.behind) a = subst (λ (z : List Lexeme). Module marked z a) f.whole spelled in
    f.past f.behind a there

not_fault : (text : List ℕ) (a : ModuleText) (l c : ℕ) (k : NotationKind) → ReadsAsModule text a → IsFirstFault text (faults.At l c k) → ⊥
not_fault text a l c k r (inl f) = let p = f.long in let q = r.fits in absurd (omega (arith, p, q))
not_fault text a l c k r (inr (inl f)) = not_token text a l c k r f
not_fault text a l c k r (inr (inr f)) = f.unread a r

pub not_both : (text : List ℕ) (a : ModuleText) → ReadsAsModule text a → Faulty text → ⊥
not_both text a r f = not_fault text a f.line f.column f.kind r f.first

abbrev Answer : Type 0
Answer = Result ModuleText NotationFault

no_memory_refused : (l : Lexed) (rest : List Lexeme) (kind : NotationKind) → refused l rest kind ≡ Err faults.NoMemory → ⊥
no_memory_refused l [] kind e = absurd cc
no_memory_refused l (t ∷ ts) kind e = absurd cc

no_memory_stopped : (o : Option NotationKind) (p : Place) (a : ModuleText) → unless_stopped o p a ≡ Err faults.NoMemory → ⊥
no_memory_stopped None p a e = absurd cc
no_memory_stopped (Some kind) p a e = absurd cc

no_memory_verdict : (l : Lexed) (r : Read ModuleText) → verdict l r ≡ Err faults.NoMemory → ⊥
no_memory_verdict l (Ok x) e = no_memory_stopped l.stop l.place x.0 e
no_memory_verdict l (Err d) e = no_memory_refused l d.rest d.kind e

no_memory : (text : List ℕ) → module_of text ≡ Err faults.NoMemory → ⊥
unfolding module_of
no_memory text e = go (nat_lt most_module_octets (length text)) e
  where
    go : (b : Bool) → (if b then too_long else verdict (lexed_of text) (whole_at narrow (lexemes text (lexed_of text).tokens))) ≡ Err faults.NoMemory → ⊥
    go true h = absurd cc
    go false h = no_memory_verdict (lexed_of text) (whole_at narrow (lexemes text (lexed_of text).tokens)) h

answered : (text : List ℕ) (r : Answer) → module_of text ≡ r → ((m : ModuleText) × ReadsAsModule text m) ⊎ Faulty text
answered text (Ok m) e = inl (m, reads_found text m e)
answered text (Err faults.NoMemory) e = absurd (no_memory text e)
answered text (Err (faults.At l c k)) e = inr (record { line = l; column = c; kind = k; first = fault_first text l c k e })

pub module_or_fault : (text : List ℕ) → ((m : ModuleText) × ReadsAsModule text m) ⊎ Faulty text
module_or_fault text = answered text (module_of text) refl
