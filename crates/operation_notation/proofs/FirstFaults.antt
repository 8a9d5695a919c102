-- What is refused is the text's first fault.
use Rattle.std.proofs.Common.{◌≡◌, ℕ, ◌<◌, ◌≤◌, Bool, true, false, List, [], ◌∷◌, ◌++◌, length, Option, Some, None, Result, Ok, Err, refl, sym, ap, subst, ◌∙◌, append_assoc, append-nil, inl, inr}
use Rattle.std.specs.Prelude.{IfErr, IsTrue, ◌⊎◌, nat_lt, unwrap_or, if◌then◌else◌}
use Rattle.std.specs.List.{AllByRecursion}
use Rattle.std.proofs.lemmas.Bool.{ltb-true, ltb-false}
use Rattle.std.proofs.lemmas.List.{append_cancel_right}
use Rattle.osi_base.specs.Limits.{most_module_octets}
use Rattle.notation_tokens.specs.Stops.{IsTextTooLong}
use Rattle.notation_tokens.specs.Lexeme.{Lexeme, lexemes}
use Rattle.notation_tokens.specs.Words.{is_unsupported}
use Rattle.notation_tokens.specs.Forms.{has_form}
use Rattle.notation_tokens.specs.declared.token.TokenKind.{TokenKind}
use Rattle.notation_tokens.specs.declared.token.TokenKind.TheVariants.{Word, Number, Sign}
use Rattle.notation_tokens.specs.Lexing.{lexed_of}
use Rattle.operation_notation.specs.Reading.{Read, kind_at}
use Rattle.operation_notation.specs.ReadingModules.{module_at, ended_at, whole_at}
use Rattle.operation_notation.specs.GrammarTypes.{narrow, marked, wide, is_empty}
use Rattle.operation_notation.specs.GrammarModules.{Module}
use Rattle.notation_tokens.specs.Texts.{Answers, unless_stopped, too_long}
use Rattle.operation_notation.specs.Modules.{ReadsAsModule, module_of, verdict, refused}
use Rattle.operation_notation.specs.Faults.{IsFormed, Begins, IsUnsupported, IsKind, TokenFault, EndFault, IsFirstFault}
use Rattle.notation_tokens.specs.declared.faults.NotationFault.{NotationFault}
use Rattle.notation_tokens.specs.declared.faults.NotationFault.TheVariants as faults
use Rattle.notation_tokens.specs.declared.faults.NotationKind.{NotationKind}
use Rattle.notation_tokens.specs.declared.faults.NotationKind.TheVariants.{TextTooLong, UnexpectedToken, Unsupported}
use Rattle.operation_notation.specs.declared.module.ModuleText.{ModuleText}
use Rattle.operation_notation.proofs.Means.{ok_is, after_ok}
use Rattle.operation_notation.proofs.Local.{fault, failed}
use Rattle.operation_notation.proofs.LocalRules.{none_goes_on}
use Rattle.operation_notation.proofs.ModuleLaws.{reads_only}
use Rattle.operation_notation.proofs.Well.{Fine, fine_back, fine_lexemes}
use Rattle.notation_tokens.proofs.Spans.{lexed_spans}
use Rattle.operation_notation.proofs.Begun.{AreFillers, Goes, KindOf, Halts}
use Rattle.operation_notation.proofs.TooDeep.{marked_module, wide_module}
use Rattle.operation_notation.proofs.Wider.{wide_stops, mark_stops}

formed : (ts : List Lexeme) → AreFillers ts → AllByRecursion IsFormed ts
formed [] a = tt
formed (t ∷ ts) a = (a.0.form, formed ts a.1)

start_of : (ts rest : List Lexeme) (k : NotationKind) (x : Halts false (Module marked) ts rest k) → Begins marked x.front
start_of ts rest k x = record { back = x.back; whole = x.value; formed = formed x.back x.filler; spelled = x.spelled }

-- ---- what stands where

abbrev answered : NotationFault → Result ModuleText NotationFault
answered e = Err e

record SameAt (l c : ℕ) (k : NotationKind) (m d : ℕ) (j : NotationKind) : Type 0 where
  line : l ≡ m
  column : c ≡ d
  kind : k ≡ j

same_at : (l c : ℕ) (k : NotationKind) (m d : ℕ) (j : NotationKind) → answered (faults.At l c k) ≡ answered (faults.At m d j) → SameAt l c k m d j
same_at l c k m d j e = record { line = cc; column = cc; kind = cc }

-- ---- a module is read to the last token

ended_all : (m : ModuleText) (ts : List Lexeme) (a : ModuleText) (rest : List Lexeme) → ended_at m ts ≡ Ok (a, rest) → rest ≡ []
ended_all m [] a rest e = sym (ap (λ (z : ModuleText × List Lexeme). z.1) (ok_is (m, []) (a, rest) e))
ended_all m (t ∷ ts) a rest e = absurd cc

whole_all : (ts : List Lexeme) (a : ModuleText) (rest : List Lexeme) → whole_at narrow ts ≡ Ok (a, rest) → rest ≡ []
unfolding whole_at
whole_all ts a rest e = let p = after_ok (module_at narrow ts) ended_at a rest e in ended_all p.value p.mid a rest p.behind

whole_begins : (ts : List Lexeme) (a : ModuleText) (rest : List Lexeme) → whole_at narrow ts ≡ Ok (a, rest) → Begins marked ts
whole_begins ts a rest e =
    let x = marked_module.found ts a rest e in
    let all : ts ≡ x.text = x.parts ∙ ap (λ (z : List Lexeme). x.text ++ z) (whole_all ts a rest e) ∙ append-nil x.text in
    record { back = []; whole = a; formed = tt; spelled = subst (λ (z : List Lexeme). Module marked z a) (sym all ∙ sym (append-nil ts)) x.spelled }

-- ---- faults

abbrev tokens : List ℕ → List Lexeme
tokens text = lexemes text (lexed_of text).tokens

abbrev Unread : List ℕ → Type 0
Unread text = (m : ModuleText) → ReadsAsModule text m → ⊥

stopped_fault : (text : List ℕ) → length text ≤ most_module_octets → Unread text → Begins marked (tokens text) → (m : ModuleText) (o : Option NotationKind) → (lexed_of text).stop ≡ o → (l c : ℕ) (k : NotationKind)
    → unless_stopped o (lexed_of text).place m ≡ answered (faults.At l c k) → EndFault text l c k
stopped_fault text fits unread start m None is l c k e = absurd cc
stopped_fault text fits unread start m (Some kind) is l c k e =
    let q = same_at (lexed_of text).place.line (lexed_of text).place.column kind l c k e in
    record { fits = fits; start = start; unread = unread; at_line = q.line; at_column = q.column; is = sym q.kind ∙ sym (ap (λ (o : Option NotationKind). unwrap_or o UnexpectedToken) is) }

end_fault : (text : List ℕ) → length text ≤ most_module_octets → Unread text → (kind : NotationKind) → Halts false (Module marked) (tokens text) [] kind → (l c : ℕ) (k : NotationKind)
    → refused (lexed_of text) [] kind ≡ answered (faults.At l c k) → EndFault text l c k
end_fault text fits unread kind x l c k e =
    let q = same_at (lexed_of text).place.line (lexed_of text).place.column (unwrap_or (lexed_of text).stop kind) l c k e in
    let all : x.front ≡ tokens text = sym (x.whole ∙ append-nil x.front) in
    record {
      fits = fits;
      start = subst (λ (z : List Lexeme). Begins marked z) all (start_of (tokens text) [] kind x);
      unread = unread;
      at_line = q.line;
      at_column = q.column;
      is = sym q.kind ∙ ap (λ (j : NotationKind). unwrap_or (lexed_of text).stop j) x.kind;
    }

-- ---- the kind of a fault at a token, by the wide grammar

unsupported_is : (front : List Lexeme) (t : Lexeme) (u : List Lexeme) → Goes (Module wide) front t → Begins wide (front ++ t ∷ [])
unsupported_is front t u g = record { back = g.back; whole = g.value; formed = formed g.back g.filler; spelled = subst (λ (z : List Lexeme). Module wide z g.value) (sym (append_assoc front (t ∷ []) g.back)) g.spelled }

unexpected_is : (front : List Lexeme) (t : Lexeme) (u : List Lexeme) → whole_at narrow (front ++ t ∷ u) ≡ Err (fault (t ∷ u) UnexpectedToken) → kind_at (t ∷ u) ≡ UnexpectedToken → IsUnsupported front t u → ⊥
unexpected_is front t u stops plain (inl e) = let clash : UnexpectedToken ≡ Unsupported = sym plain ∙ e in absurd cc
unexpected_is front t u stops plain (inr b) =
    none_goes_on wide front t u b.back UnexpectedToken b.whole (wide_stops front t u stops) (subst (λ (z : List Lexeme). Module wide z b.whole) (append_assoc front (t ∷ []) b.back) b.spelled)

either_kind : (t : Lexeme) (u : List Lexeme) → (kind_at (t ∷ u) ≡ Unsupported) ⊎ (kind_at (t ∷ u) ≡ UnexpectedToken)
unfolding kind_at
either_kind t u = go (is_unsupported t.text)
  where
    go : (b : Bool) → ((if b then Unsupported else UnexpectedToken) ≡ Unsupported) ⊎ ((if b then Unsupported else UnexpectedToken) ≡ UnexpectedToken)
    go true = inl refl
    go false = inr refl

plain_kind : (front : List Lexeme) (t : Lexeme) (u : List Lexeme) (k : NotationKind) → whole_at narrow (front ++ t ∷ u) ≡ Err (fault (t ∷ u) k) → k ≡ kind_at (t ∷ u) → (kind_at (t ∷ u) ≡ Unsupported) ⊎ (kind_at (t ∷ u) ≡ UnexpectedToken) → IsKind front t u k
plain_kind front t u k stops is (inl e) = inl (is ∙ e, inl e)
plain_kind front t u k stops is (inr e) = inr (is ∙ e, unexpected_is front t u (stops ∙ ap (λ (j : NotationKind). failed (fault (t ∷ u) j)) (is ∙ e)) e)

kind_here : (front : List Lexeme) (t : Lexeme) (u : List Lexeme) (k : NotationKind) → whole_at narrow (front ++ t ∷ u) ≡ Err (fault (t ∷ u) k) → KindOf true (Module wide) front (t ∷ u) k → IsKind front t u k
kind_here front t u k stops (inl e) = plain_kind front t u k stops e (either_kind t u)
kind_here front t u k stops (inr p) = inl (p.0, inr (unsupported_is front t u (p.1 refl)))

kind_of : (ts : List Lexeme) (t : Lexeme) (u : List Lexeme) (k : NotationKind) (front : List Lexeme) → ts ≡ front ++ t ∷ u → whole_at narrow ts ≡ Err (fault (t ∷ u) k) → IsKind front t u k
kind_of ts t u k front whole stops =
    let x = wide_module.halts ts (t ∷ u) k stops in
    let one : x.front ≡ front = append_cancel_right x.front front (t ∷ u) (sym x.whole ∙ whole) in
    kind_here front t u k (ap (whole_at narrow) (sym whole) ∙ stops) (subst (λ (z : List Lexeme). KindOf true (Module wide) z (t ∷ u) k) one x.kind)

form_text : (kind : TokenKind) (text : List ℕ) → IsTrue (has_form kind text) → is_empty text ≡ false
form_text Word [] h = absurd cc
form_text Number [] h = absurd cc
form_text Sign [] h = absurd cc
form_text kind (c ∷ text) h = refl

-- no token of a text is a mark
not_empty : (text : List ℕ) (t : Lexeme) (u front : List Lexeme) → tokens text ≡ front ++ t ∷ u → is_empty t.text ≡ false
not_empty text t u front whole =
    let fine = fine_back front (t ∷ u) (subst Fine whole (fine_lexemes text (length text) (lexed_of text).tokens (lexed_spans text))) in
    form_text t.kind t.text fine.0

token_fault : (text : List ℕ) → length text ≤ most_module_octets → (t : Lexeme) (u : List Lexeme) (kind : NotationKind) → whole_at narrow (tokens text) ≡ Err (fault (t ∷ u) kind) → Halts false (Module marked) (tokens text) (t ∷ u) kind
    → (l c : ℕ) (k : NotationKind) → refused (lexed_of text) (t ∷ u) kind ≡ answered (faults.At l c k) → TokenFault text l c k
token_fault text fits t u kind stops x l c k e =
    let q = same_at t.line t.column kind l c k e in
    record {
      fits = fits;
      front = x.front;
      token = t;
      behind = u;
      whole = x.whole;
      start = start_of (tokens text) (t ∷ u) kind x;
      past = λ others m d. none_goes_on marked x.front t u others kind m (mark_stops (x.front ++ t ∷ u) t u kind (not_empty text t u x.front x.whole) (ap (whole_at narrow) (sym x.whole) ∙ stops)) d;
      at_line = q.line;
      at_column = q.column;
      is = subst (λ (j : NotationKind). IsKind x.front t u j) q.kind (kind_of (tokens text) t u kind x.front x.whole stops);
    }

refused_fault : (text : List ℕ) → length text ≤ most_module_octets → Unread text → (rest : List Lexeme) (kind : NotationKind) → whole_at narrow (tokens text) ≡ Err (fault rest kind) → (l c : ℕ) (k : NotationKind)
    → refused (lexed_of text) rest kind ≡ answered (faults.At l c k) → TokenFault text l c k ⊎ EndFault text l c k
refused_fault text fits unread [] kind stops l c k e = inr (end_fault text fits unread kind (marked_module.halts (tokens text) [] kind stops) l c k e)
refused_fault text fits unread (t ∷ u) kind stops l c k e = inl (token_fault text fits t u kind stops (marked_module.halts (tokens text) (t ∷ u) kind stops) l c k e)

verdict_fault : (text : List ℕ) → length text ≤ most_module_octets → Unread text → (r : Read ModuleText) → whole_at narrow (tokens text) ≡ r → (l c : ℕ) (k : NotationKind)
    → verdict (lexed_of text) r ≡ answered (faults.At l c k) → TokenFault text l c k ⊎ EndFault text l c k
verdict_fault text fits unread (Ok x) is l c k e = inr (stopped_fault text fits unread (whole_begins (tokens text) x.0 x.1 is) x.0 (lexed_of text).stop refl l c k e)
verdict_fault text fits unread (Err d) is l c k e = refused_fault text fits unread d.rest d.kind is l c k e

long_fault : (text : List ℕ) → most_module_octets < length text → (l c : ℕ) (k : NotationKind) → answered (faults.At 1 1 TextTooLong) ≡ answered (faults.At l c k) → IsTextTooLong text l c k
long_fault text long l c k e = let q = same_at 1 1 TextTooLong l c k e in record { long = long; at_line = sym q.line; at_column = sym q.column; is = sym q.kind }

not_read : (text : List ℕ) (m : ModuleText) (l c : ℕ) (k : NotationKind) → module_of text ≡ answered (faults.At l c k) → ReadsAsModule text m → ⊥
not_read text m l c k e d = let clash : Ok m ≡ answered (faults.At l c k) = sym (reads_only text m d) ∙ e in absurd cc

pub fault_first : (text : List ℕ) (l c : ℕ) (k : NotationKind) → module_of text ≡ answered (faults.At l c k) → IsFirstFault text (faults.At l c k)
unfolding module_of
fault_first text l c k e = go (nat_lt most_module_octets (length text)) refl e
  where
    go : (b : Bool) → nat_lt most_module_octets (length text) ≡ b → (if b then too_long else verdict (lexed_of text) (whole_at narrow (tokens text))) ≡ answered (faults.At l c k) → IsFirstFault text (faults.At l c k)
    go true is h = inl (long_fault text (ltb-true _ _ is) l c k h)
    go false is h = inr (verdict_fault text (ltb-false _ _ is) (λ m d. not_read text m l c k e d) (whole_at narrow (tokens text)) refl l c k h)

pub answer_first : (text : List ℕ) (r : Result ModuleText NotationFault) → Answers r (module_of text) → IfErr r (λ e. IsFirstFault text e)
answer_first text (Ok m) h = tt
answer_first text (Err faults.NoMemory) h = tt
answer_first text (Err (faults.At l c k)) h = fault_first text l c k h
