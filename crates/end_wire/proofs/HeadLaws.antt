-- The head that is read is the one that octets spell.
use Rattle.std.proofs.Common.{◌≡◌, ℕ, Bool, true, false, nat_eq, if◌then◌else◌, List, [], ◌++◌, length, take, drop, Option, Some, None, Result, Ok, Err, refl, sym, ap, subst, ◌∙◌, arith}
use Rattle.std.proofs.lemmas.List.{append-nil, take-append-drop}
use Rattle.std.proofs.lemmas.Bool.{eqb-true}
use Rattle.std.proofs.Math.Seq.{take-length, drop-append_seam}
use Rattle.osi_base.specs.declared.syntax.Syntax.{Syntax}
use Rattle.osi_base.specs.declared.syntax.Syntax.TheVariants.{Ber, Der, Packed}
use Rattle.asn1_types.specs.Value.{Value}
use Rattle.ber_spelling.specs.declared.fault.ReadFault.{ReadFault}
use Rattle.osi_base.specs.Octets.{AreOctets}
use Rattle.ber_spelling.specs.Rules as ber
use Rattle.ber_spelling.specs.Spelling as spelling
use Rattle.ber_spelling.proofs.WholeValues as ber_laws
use Rattle.ber_spelling.proofs.Steady.{eqb_itself as same_number}
use Rattle.packed_codec.specs.declared.fault.PackedFault.{PackedFault}
use Rattle.packed_codec.specs.Rules as packed
use Rattle.packed_codec.specs.Laws as packings
use Rattle.packed_codec.proofs.WholeValues as packed_laws
use Rattle.apdu_spelling.specs.Heads as heads
use Rattle.apdu_spelling.specs.Rows.{head_rows, apdu_row, packed_apdu_row}
use Rattle.apdu_spelling.specs.Values.{ber_value, packed_value}
use Rattle.apdu_spelling.specs.Spellings.{SpellsHead, PacksHead}
use Rattle.apdu_spelling.proofs.HeadsSound.{heads_sound}
use Rattle.apdu_codec.specs.Pieces.{ber_head, packed_head}
use Rattle.apdu_codec.proofs.Forth.{ber_forth, packed_forth}
use Rattle.apdu_codec.proofs.Back.{ber_back, packed_back}
use Rattle.end_wire.specs.Heads.{whole_head, front_head, spelled_head}

abbrev Found : Type 0
Found = Option heads.Head

some_head : (a b : heads.Head) → Some a ≡ Some b → a ≡ b
some_head a b e = cc

abbrev ber_done : Value × ℕ → Result (Value × ℕ) ReadFault
ber_done x = Ok x

abbrev packed_done : Value × ℕ → Result (Value × ℕ) PackedFault
packed_done x = Ok x

-- ---- what is spelled is read

module _ (text : List ℕ) (h : heads.Head) where
  in_ber : (strict : Bool) → spelling.Spells head_rows apdu_row strict 262144 (ber_value h) text → whole_head (length text) (ber.read_at head_rows apdu_row strict 262144 text) ≡ Some h
  in_ber strict p =
      let e : ber.read_at head_rows apdu_row strict 262144 text ≡ ber_done (ber_value h, length text)
      = ap (ber.read_at head_rows apdu_row strict 262144) (sym (append-nil text)) ∙ ber_laws.spelled_is_read head_rows apdu_row strict 262144 (ber_value h) text [] heads_sound p in
      ap (whole_head (length text)) e ∙ ap (λ (b : Bool). if b then ber_head (ber_value h) else None) (same_number (length text)) ∙ ber_forth h

  in_packed : PacksHead h text → front_head text (packed.read_at head_rows packed_apdu_row 262144 text) ≡ Some h
  in_packed p =
      let e : packed.read_at head_rows packed_apdu_row 262144 text ≡ packed_done (packed_value h, length p.front)
      = ap (packed.read_at head_rows packed_apdu_row 262144) p.are ∙ packed_laws.spelled_is_read head_rows packed_apdu_row 262144 (packed_value h) p.front (heads.carried h) (omega arith) p.packs in
      let rest : drop (length p.front) text ≡ heads.carried h = ap (drop (length p.front)) p.are ∙ drop-append_seam p.front (heads.carried h) in
      ap (front_head text) e ∙ ap (packed_head (packed_value h)) rest ∙ packed_forth h

pub head_read : (syntax : Syntax) (text : List ℕ) (h : heads.Head) → SpellsHead syntax h text → spelled_head syntax text ≡ Some h
unfolding spelled_head
head_read Ber text h p = in_ber text h false p
head_read Der text h p = in_ber text h true p
head_read Packed text h p = in_packed text h p

-- ---- what is read is spelled

module _ (text : List ℕ) (are : AreOctets text) (h : heads.Head) where
  tested : (v : Value) (b : Bool) → (if b then ber_head v else None) ≡ Some h → (b ≡ true) × (ber_head v ≡ Some h)
  tested v true e = (refl, e)
  tested v false e = absurd cc

  of_ber : (strict : Bool) (r : Result (Value × ℕ) ReadFault) → ber.read_at head_rows apdu_row strict 262144 text ≡ r → whole_head (length text) r ≡ Some h → spelling.Spells head_rows apdu_row strict 262144 (ber_value h) text
  of_ber strict (Ok x) e found =
      let t = tested x.0 (nat_eq x.1 (length text)) found in
      let used : x.1 ≡ length text = eqb-true x.1 (length text) t.0 in
      let whole : take x.1 text ≡ text = ap (λ (k : ℕ). take k text) used ∙ take-length text in
      let p = (ber_laws.read_is_spelled head_rows apdu_row strict 262144 text x.0 x.1 are e).1 in
      subst (λ (v : Value). spelling.Spells head_rows apdu_row strict 262144 v text) (ber_back x.0 h t.1)
      (subst (λ (t : List ℕ). spelling.Spells head_rows apdu_row strict 262144 x.0 t) whole p)
  of_ber strict (Err f) e found = absurd cc

  of_packed : (r : Result (Value × ℕ) PackedFault) → packed.read_at head_rows packed_apdu_row 262144 text ≡ r → front_head text r ≡ Some h → PacksHead h text
  of_packed (Ok x) e found =
      let b = packed_back x.0 (drop x.1 text) h found in
      let p = (packed_laws.read_is_spelled head_rows packed_apdu_row 262144 text x.0 x.1 are e).1 in
      record {
        front = take x.1 text;
        packs = subst (λ (v : Value). packings.Packed head_rows packed_apdu_row 262144 v (take x.1 text)) b.0 p;
        are = sym (take-append-drop x.1 text) ∙ ap (λ (y : List ℕ). take x.1 text ++ y) b.1;
      }
  of_packed (Err f) e found = absurd cc

pub head_spelled : (syntax : Syntax) (text : List ℕ) (h : heads.Head) → AreOctets text → spelled_head syntax text ≡ Some h → SpellsHead syntax h text
unfolding spelled_head
head_spelled Ber text h are e = of_ber text are h false (ber.read_at head_rows apdu_row false 262144 text) refl e
head_spelled Der text h are e = of_ber text are h true (ber.read_at head_rows apdu_row true 262144 text) refl e
head_spelled Packed text h are e = of_packed text are h (packed.read_at head_rows packed_apdu_row 262144 text) refl e

-- octets that spell no head
none_in : (syntax : Syntax) (text : List ℕ) → AreOctets text → ((h : heads.Head) → SpellsHead syntax h text → ⊥) → (o : Found) → spelled_head syntax text ≡ o → spelled_head syntax text ≡ None
none_in syntax text are none None e = e
none_in syntax text are none (Some h) e = absurd (none h (head_spelled syntax text h are e))

pub no_head : (syntax : Syntax) (text : List ℕ) → AreOctets text → ((h : heads.Head) → SpellsHead syntax h text → ⊥) → spelled_head syntax text ≡ None
no_head syntax text are none = none_in syntax text are none (spelled_head syntax text) refl
