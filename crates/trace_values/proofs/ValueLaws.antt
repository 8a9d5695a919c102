-- What is said of values, put behind a text.
use Rattle.std.proofs.Common.{◌≡◌, ℕ, Bool, true, false, List, [], ◌∷◌, ◌++◌, Option, Some, None, refl, sym, ap, subst, ◌∙◌, append_assoc}
use Rattle.std.proofs.lemmas.List.{append-nil}
use Rattle.osi_base.specs.declared.presentation_word.Pdv.{Pdv}
use Rattle.osi_base.specs.declared.presentation_word.PdvContent.TheVariants as contents
use Rattle.apdu_spelling.specs.declared.head.ApduHead.{ApduHead}
use Rattle.stub_tables.specs.declared.tables.Tables.{Tables}
use Rattle.trace_values.specs.Heads.{head_told, WasTold}
use Rattle.trace_values.specs.Values.{counted, words_or, HeadOf, IsContentText, IsPdvText, ArePdvsText, Puts}

-- ---- a head is told, or its octets are counted

told_true : (o : Option (List ℕ)) (before after octets : List ℕ) → WasTold true before after o → after ≡ before ++ words_or octets o
told_true None before after octets h = absurd h
told_true (Some words) before after octets h = h

told_false : (o : Option (List ℕ)) (before mid after octets : List ℕ) → WasTold false before mid o → after ≡ mid ++ counted octets → after ≡ before ++ words_or octets o
told_false None before mid after octets h e = e ∙ ap (λ (l : List ℕ). l ++ counted octets) h
told_false (Some words) before mid after octets h e = absurd h

pub told_is : (b : Bool) (o : Option (List ℕ)) (before after octets : List ℕ) → b ≡ true → WasTold b before after o → after ≡ before ++ words_or octets o
told_is true o before after octets e h = told_true o before after octets h
told_is false o before after octets e h = absurd cc

pub not_told : (b : Bool) (o : Option (List ℕ)) (before mid after octets : List ℕ) → b ≡ false → WasTold b before mid o → after ≡ mid ++ counted octets → after ≡ before ++ words_or octets o
not_told true o before mid after octets e h f = absurd cc
not_told false o before mid after octets e h f = told_false o before mid after octets h f

pub puts_none : (tables : Tables) (octets before after : List ℕ) → HeadOf octets None → after ≡ before ++ counted octets → Puts (IsContentText tables (contents.SingleAsn1Type octets)) before after
puts_none tables octets before after h e = (counted octets, (None, h, refl), e)

pub puts_some : (tables : Tables) (octets before after : List ℕ) (head : ApduHead) → HeadOf octets (Some head) → after ≡ before ++ words_or octets (head_told tables head)
    → Puts (IsContentText tables (contents.SingleAsn1Type octets)) before after
puts_some tables octets before after head h e = (words_or octets (head_told tables head), (Some head, h, refl), e)

-- ---- values in their order

pub puts_first : (tables : Tables) (pdvs : List Pdv) (pdv : Pdv) (more : List Pdv) (before mid after : List ℕ) → pdvs ≡ pdv ∷ more → Puts (IsPdvText tables pdv) before mid → Puts (ArePdvsText tables more) mid after
    → Puts (ArePdvsText tables pdvs) before after
puts_first tables pdvs pdv more before mid after e p q =
    subst (λ (l : List Pdv). Puts (ArePdvsText tables l) before after) (sym e)
    (p.0 ++ q.0, (p.0, q.0, p.1, q.1, refl), q.2 ∙ ap (λ (l : List ℕ). l ++ q.0) p.2 ∙ append_assoc before p.0 q.0)

pub puts_no_more : (tables : Tables) (pdvs : List Pdv) (text : List ℕ) → pdvs ≡ [] → Puts (ArePdvsText tables pdvs) text text
puts_no_more tables pdvs text e = subst (λ (l : List Pdv). Puts (ArePdvsText tables l) text text) (sym e) ([], refl, sym (append-nil text))
