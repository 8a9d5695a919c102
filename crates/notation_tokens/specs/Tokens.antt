-- What is said of each token of a text, of their order, and of what lies between them.
use Rattle.std.specs.Prelude.{◌≡◌, ◌<◌, ◌≤◌, ◌+◌, ◌==◌, ℕ, Bool, true, false, if◌then◌else◌, List, [], ◌∷◌, length, take, drop, slice_range, IsTrue}
use Rattle.notation_tokens.specs.Forms.{has_form, is_blank}
use Rattle.notation_tokens.specs.Lexing.{behind_octets, first_place}
use Rattle.notation_tokens.specs.declared.token.Token.{Token}

-- A token of a text: its slice has the form of its kind, no longer slice from its first octet has it, and its place is the one
-- behind the octets before it: lines end at line feeds, and columns count octets, both from 1.
pub record IsToken (text : List ℕ) (t : Token) : Type 0 where
  pub some : t.from < t.to
  pub within : t.to ≤ length text
  pub form : IsTrue (has_form t.kind (slice_range text t.from t.to))
  pub longest : (n : ℕ) → t.from + n ≤ length text → IsTrue (has_form t.kind (slice_range text t.from (t.from + n))) → t.from + n ≤ t.to
  pub place : record { line = t.line; column = t.column } ≡ behind_octets first_place (take t.from text)

-- where one stands between tokens: outside of comments, behind the first hyphen of one, inside one, inside one behind a hyphen;
-- or neither in white space nor in a comment
pub data Gap : Type 0 where
  outside : Gap
  opening : Gap
  inside : Gap
  closing : Gap
  elsewhere : Gap

-- behind one more octet: two hyphens begin a comment, and two hyphens or the line's end end it
abbrev pub behind_one : Gap → ℕ → Gap
behind_one outside c = if is_blank c then outside else if c == 45 then opening else elsewhere
behind_one opening c = if c == 45 then inside else elsewhere
behind_one inside c = if c == 10 then outside else if c == 45 then closing else inside
behind_one closing c = if c == 10 then outside else if c == 45 then outside else inside
behind_one elsewhere c = elsewhere

abbrev pub behind_all : Gap → List ℕ → Gap
behind_all g [] = g
behind_all g (c ∷ cs) = behind_all (behind_one g c) cs

-- white space and whole comments
abbrev pub IsGap : List ℕ → Type 0
IsGap cs = behind_all outside cs ≡ outside

-- white space and comments, of which the last may end with the text
abbrev pub may_end : Gap → Bool
may_end outside = true
may_end opening = false
may_end inside = true
may_end closing = true
may_end elsewhere = false

-- Each token in its order, from an offset on. In front of each lie white space and comments alone, and behind the last too.
abbrev pub AreTokens : List ℕ → ℕ → List Token → Type 0
AreTokens text from [] = may_end (behind_all outside (drop from text)) ≡ true
AreTokens text from (t ∷ ts) = IsToken text t × (from ≤ t.from) × IsGap (slice_range text from t.from) × AreTokens text t.to ts
