-- What stands around the contents of a spelling: other contents of the same length may stand there.
use Rattle.std.proofs.Common.{◌≡◌, ℕ, Bool, true, false, List, [], ◌∷◌, ◌++◌, length, refl, sym, ap, ◌∙◌, subst, append_assoc, length-append, ◌⊎◌, inl, inr}
use Rattle.std.proofs.lemmas.List.{append-nil}
use Rattle.asn1_types.specs.declared.row.Tag as tags
use Rattle.osi_base.specs.Octets.{AreOctets}
use Rattle.osi_base.proofs.OctetLaws.{octets_left, octets_right}
use Rattle.ber_spelling.specs.Spelling.{IsLength, IsDefinite, IsIndefinite, IsPrimitive, IsConstructed}

-- ---- primitive values

pub record Before (tag : tags.Tag) (strict : Bool) (levels : ℕ) (P : List ℕ → Type 0) (spelled : List ℕ) : Type 1 where
  pub before : List ℕ
  pub contents : List ℕ
  pub holds : P contents
  pub are : spelled ≡ before ++ contents
  pub again : (Q : List ℕ → Type 0) (c : List ℕ) → length c ≡ length contents → Q c → IsPrimitive tag strict levels Q (before ++ c)

pub before_of : (tag : tags.Tag) (strict : Bool) (levels : ℕ) (P : List ℕ → Type 0) (s : List ℕ) → IsPrimitive tag strict levels P s → Before tag strict levels P s
before_of tag strict levels P s p = record {
  before = p.form.head ++ p.form.size;
  contents = p.form.contents;
  holds = p.form.holds;
  are = p.form.are ∙ sym (append_assoc p.form.head p.form.size p.form.contents);
  again = λ Q c len q. record {
    level = p.level;
    small = p.small;
    form = record {
      head = p.form.head;
      size = p.form.size;
      contents = c;
      is_identifier = p.form.is_identifier;
      is_length = subst (IsLength strict p.form.size) (sym len) p.form.is_length;
      holds = q;
      are = append_assoc p.form.head p.form.size c;
    };
  };
}

-- what follows of octets and their contents
pub in_primitive : {B : Type 0} (tag : tags.Tag) (strict : Bool) (levels : ℕ) (P : List ℕ → Type 0) (s : List ℕ) → AreOctets s → IsPrimitive tag strict levels P s → ((c : List ℕ) → AreOctets c → P c → B) → B
in_primitive tag strict levels P s are p f =
    let d = p.form in
    f d.contents (octets_right d.size d.contents (octets_right d.head (d.size ++ d.contents) (subst AreOctets d.are are))) d.holds

pub primitive_as : (tag : tags.Tag) (strict : Bool) (levels : ℕ) (P Q : List ℕ → Type 0) (s : List ℕ) → IsPrimitive tag strict levels P s → ((c : List ℕ) → P c → Q c) → IsPrimitive tag strict levels Q s
primitive_as tag strict levels P Q s p f =
    let b = before_of tag strict levels P s p in
    subst (IsPrimitive tag strict levels Q) (sym b.are) (b.again Q b.contents refl (f b.contents b.holds))

-- ---- constructed values

pub record Around (tag : tags.Tag) (strict : Bool) (levels : ℕ) (P : ℕ → List ℕ → Type 0) (spelled : List ℕ) : Type 1 where
  pub inner : ℕ
  pub before : List ℕ
  pub contents : List ℕ
  pub behind : List ℕ
  pub holds : P inner contents
  pub are : spelled ≡ before ++ (contents ++ behind)
  pub again : (Q : ℕ → List ℕ → Type 0) (c : List ℕ) → length c ≡ length contents → Q inner c → IsConstructed tag strict levels Q (before ++ (c ++ behind))

definite_are : (head size c : List ℕ) → (head ++ size) ++ (c ++ []) ≡ head ++ (size ++ c)
definite_are head size c = append_assoc head size (c ++ []) ∙ ap (λ (x : List ℕ). head ++ (size ++ x)) (append-nil c)

pub around : (tag : tags.Tag) (strict : Bool) (levels : ℕ) (P : ℕ → List ℕ → Type 0) (s : List ℕ) → IsConstructed tag strict levels P s → Around tag strict levels P s
around tag strict levels P s p = by_form p.form
  where
    by_form : IsDefinite strict true tag (P p.inner) s ⊎ ((strict ≡ false) × IsIndefinite tag (P p.inner) s) → Around tag strict levels P s
    by_form (inl d) = record {
      inner = p.inner;
      before = d.head ++ d.size;
      contents = d.contents;
      behind = [];
      holds = d.holds;
      are = d.are ∙ sym (definite_are d.head d.size d.contents);
      again = λ Q c len q. record {
        inner = p.inner;
        level = p.level;
        small = p.small;
        form = inl (record {
          head = d.head;
          size = d.size;
          contents = c;
          is_identifier = d.is_identifier;
          is_length = subst (IsLength strict d.size) (sym len) d.is_length;
          holds = q;
          are = definite_are d.head d.size c;
        });
      };
    }
    by_form (inr i) = record {
      inner = p.inner;
      before = i.1.head ++ (128 ∷ []);
      contents = i.1.contents;
      behind = 0 ∷ 0 ∷ [];
      holds = i.1.holds;
      are = i.1.are ∙ sym (append_assoc i.1.head (128 ∷ []) (i.1.contents ++ (0 ∷ 0 ∷ [])));
      again = λ Q c len q. record {
        inner = p.inner;
        level = p.level;
        small = p.small;
        form = inr (
          i.0,
          record {
            head = i.1.head;
            contents = c;
            is_identifier = i.1.is_identifier;
            holds = q;
            are = append_assoc i.1.head (128 ∷ []) (c ++ (0 ∷ 0 ∷ []));
          },
        );
      };
    }

pub in_constructed : {B : Type 0} (tag : tags.Tag) (strict : Bool) (levels : ℕ) (P : ℕ → List ℕ → Type 0) (s : List ℕ) → AreOctets s → IsConstructed tag strict levels P s → ((l : ℕ) (c : List ℕ) → AreOctets c → P l c → B) → B
in_constructed tag strict levels P s are p f =
    let a = around tag strict levels P s p in
    f a.inner a.contents (octets_left a.contents a.behind (octets_right a.before (a.contents ++ a.behind) (subst AreOctets a.are are))) a.holds

pub constructed_as : (tag : tags.Tag) (strict : Bool) (levels : ℕ) (P Q : ℕ → List ℕ → Type 0) (s : List ℕ) → IsConstructed tag strict levels P s → ((l : ℕ) (c : List ℕ) → P l c → Q l c) → IsConstructed tag strict levels Q s
constructed_as tag strict levels P Q s p f =
    let a = around tag strict levels P s p in
    subst (IsConstructed tag strict levels Q) (sym a.are) (a.again Q a.contents refl (f a.inner a.contents a.holds))

-- ---- one octet of the contents

pub one_other : (front back : List ℕ) (x y : ℕ) → length (front ++ (y ∷ back)) ≡ length (front ++ (x ∷ back))
one_other front back x y = length-append front (y ∷ back) ∙ sym (length-append front (x ∷ back))

pub one_around : (before front back behind : List ℕ) (y : ℕ) → before ++ ((front ++ (y ∷ back)) ++ behind) ≡ (before ++ front) ++ (y ∷ (back ++ behind))
one_around before front back behind y =
    ap (λ (x : List ℕ). before ++ x) (append_assoc front (y ∷ back) behind) ∙ sym (append_assoc before front (y ∷ (back ++ behind)))

-- Contents with another octet in one place stand in what was spelled, with that octet in one place.
pub around_one : (tag : tags.Tag) (strict : Bool) (levels : ℕ) (P : ℕ → List ℕ → Type 0) (s : List ℕ) (a : Around tag strict levels P s) (front back : List ℕ) (x y : ℕ) (Q : ℕ → List ℕ → Type 0)
    → a.contents ≡ front ++ (x ∷ back) → Q a.inner (front ++ (y ∷ back)) → IsConstructed tag strict levels Q ((a.before ++ front) ++ (y ∷ (back ++ a.behind)))
around_one tag strict levels P s a front back x y Q is q =
    subst (IsConstructed tag strict levels Q) (one_around a.before front back a.behind y) (a.again Q (front ++ (y ∷ back)) (one_other front back x y ∙ sym (ap length is)) q)

pub around_are : (tag : tags.Tag) (strict : Bool) (levels : ℕ) (P : ℕ → List ℕ → Type 0) (s : List ℕ) (a : Around tag strict levels P s) (front back : List ℕ) (x : ℕ)
    → a.contents ≡ front ++ (x ∷ back) → s ≡ (a.before ++ front) ++ (x ∷ (back ++ a.behind))
around_are tag strict levels P s a front back x is = a.are ∙ ap (λ (c : List ℕ). a.before ++ (c ++ a.behind)) is ∙ one_around a.before front back a.behind x
