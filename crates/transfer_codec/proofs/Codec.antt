-- The codec: it writes values that are items which are transferred, and reads what the taker's own reading gives.
use Rattle.std.proofs.Common.{◌≡◌, refl, true, false, ◌∙◌, sym, ap, subst, arith, ℕ, zero, suc, ◌≤◌, List, [], ◌∷◌}
use Rattle.std.specs.Prelude.{Bool, not, ◌&&◌, ℤ, pos, negsuc, Option, Some, None, is_some, Result, Ok, Err, nat_eq, nat_le, if◌then◌else◌}
use Rattle.std.proofs.lemmas.Bool.{le-leb}
use Rattle.std.proofs.lemmas.Bool.Decides.{nat_tests}
use Rattle.osi_base.specs.Syntax.{name_of, syntax_named}
use Rattle.osi_base.specs.declared.syntax.Pair.{Pair}
use Rattle.osi_base.specs.declared.syntax.Syntax.{Syntax}
use Rattle.osi_base.specs.declared.syntax.Syntax.TheVariants.{Ber, Der, Packed}
use Rattle.osi_base.specs.declared.layer_words.SetItem.{SetItem}
use Rattle.osi_base.specs.declared.layer_words.Problem.{Problem}
use Rattle.osi_base.specs.declared.layer_words.ProblemKind.{ProblemKind}
use Rattle.osi_base.specs.declared.layer_words.ProblemKind.TheVariants as problems
use Rattle.stub_tables.specs.declared.tables.Tables.{Tables}
use Rattle.stub_tables.specs.declared.apdu.Apdu.{Apdu}
use Rattle.stub_tables.specs.declared.apdu.Apdu.TheVariants as apdus
use Rattle.stub_tables.specs.declared.apdu.Returned.{Returned}
use Rattle.stub_tables.specs.Lookup.{operation_with, error_with}
use Rattle.apdu_spelling.specs.Writing.{written_apdu, IsWritable}
use Rattle.apdu_spelling.proofs.Written.{written_spelled}
use Rattle.dialogue.specs.declared.config.Config.{Config}
use Rattle.dialogue.specs.declared.config.Mode.{Mode}
use Rattle.end_rules.specs.Base.{Base, Item, Fault, Arrived, Whole, Raw}
use Rattle.end_rules.specs.Sets.{same_name}
use Rattle.osi_base.specs.SetPlaces.{pair_of}
use Rattle.end_rules.specs.Invoking.{is_too_long}
use Rattle.end_wire.specs.Heads.{head_at, apdu_of}
use Rattle.end_wire.proofs.ContentLaws.{said_is, spelled_said}
use Rattle.agreement.specs.Sets as sets
use Rattle.agreement.specs.Messages as model
use Rattle.agreement.specs.Messages.Apdu.{Invoke as model_invoke, Outcome as model_outcome, Reject as model_reject}
use Rattle.agreement.specs.Messages.Problem.{General as of_general, OfInvocation as of_invocation, OfResult as of_result, OfError as of_error}
use Rattle.end_model.specs.Seen.{number_seen, pair_seen, set_seen, problem_in, rejected_seen, apdu_seen, item_seen}
use Rattle.end_model.specs.OpenInvocations.{IsNumber, IsNamed, IsProblem, IsProper, FitsReturned, fits_argument, fits_result, fits_parameter, operation_of_code, error_of_code}
use Rattle.end_model.proofs.Fitting.{one-name, same-itself}
use Rattle.transfer_spelling.specs.reliable_model.Codecs.{IsShort, IsTransferable, IsPlaced, SpellsTransfers, IsTransferOf, Carries}
use Rattle.transfer_spelling.specs.Laws.{IsModule}
use Rattle.transfer_spelling.proofs.Writable.{transferables-writable}
use Rattle.transfer_codec.specs.Laws.{base_with, TransfersHaveACodec}
use Rattle.transfer_codec.proofs.Same.{left, right, both, same_value, value-so, value-itself}

le-so : (a b : ℕ) → nat_le a b ≡ true → a ≤ b
le-so a b h = grind (arith, nat_tests)

-- ---- which items are transferred, as a test

abbrev is_number : ℤ → Bool
is_number (pos n) = nat_le 1 n && nat_le n 2147483647
is_number (negsuc n) = false

abbrev is_named : Option ℤ → Bool
is_named None = true
is_named (Some id) = is_number id

abbrev is_problem : Option ℤ → ProblemKind → ℤ → Bool
is_problem id kind (negsuc n) = false
is_problem None problems.General (pos n) = true
is_problem None problems.Invoke (pos n) = false
is_problem None problems.Result (pos n) = false
is_problem None problems.Error (pos n) = false
is_problem (Some id) kind (pos n) = true

number-so : (id : ℤ) → is_number id ≡ true → IsNumber id
number-so (pos n) h = (le-so 1 n (left (nat_le 1 n) (nat_le n 2147483647) h), le-so n 2147483647 (right (nat_le 1 n) (nat_le n 2147483647) h))
number-so (negsuc n) h = cc

so-number : (id : ℤ) → IsNumber id → is_number id ≡ true
so-number (pos n) h = both (nat_le 1 n) (nat_le n 2147483647) (le-leb 1 n h.0) (le-leb n 2147483647 h.1)
so-number (negsuc n) h = absurd h

named-so : (id : Option ℤ) → is_named id ≡ true → IsNamed id
named-so None h = tt
named-so (Some id) h = number-so id h

so-named : (id : Option ℤ) → IsNamed id → is_named id ≡ true
so-named None h = refl
so-named (Some id) h = so-number id h

problem-so : (id : Option ℤ) (kind : ProblemKind) (z : ℤ) → is_problem id kind z ≡ true → IsProblem id kind z
problem-so id kind (negsuc n) h = cc
problem-so None problems.General (pos n) h = tt
problem-so None problems.Invoke (pos n) h = cc
problem-so None problems.Result (pos n) h = cc
problem-so None problems.Error (pos n) h = cc
problem-so (Some id) kind (pos n) h = tt

so-problem : (id : Option ℤ) (kind : ProblemKind) (z : ℤ) → IsProblem id kind z → is_problem id kind z ≡ true
so-problem id kind (negsuc n) h = absurd h
so-problem None problems.General (pos n) h = refl
so-problem None problems.Invoke (pos n) h = absurd h
so-problem None problems.Result (pos n) h = absurd h
so-problem None problems.Error (pos n) h = absurd h
so-problem (Some id) kind (pos n) h = refl

module _ (base : Base) where
  abbrev fits_returned : Option Returned → Bool
  fits_returned None = true
  fits_returned (Some r) = fits_result base (operation_of_code base (operation_with base.tables r.code)) (Some r.value)

  abbrev is_proper : Apdu → Bool
  is_proper (apdus.Invoke id linked code argument) = is_number id && is_named linked && fits_argument base (operation_of_code base (operation_with base.tables code)) argument
  is_proper (apdus.Result id returned) = is_number id && fits_returned returned
  is_proper (apdus.Error id code parameter) = is_number id && fits_parameter base (error_of_code base (error_with base.tables code)) parameter
  is_proper (apdus.Reject id problem) = is_named id && is_problem id problem.kind problem.number

  abbrev is_short : Apdu → Bool
  is_short (apdus.Invoke id linked code argument) = not (is_too_long base (apdus.Invoke id linked code argument))
  is_short (apdus.Result id returned) = not (is_too_long base (apdus.Result id returned))
  is_short (apdus.Error id code parameter) = not (is_too_long base (apdus.Error id code parameter))
  is_short (apdus.Reject id problem) = nat_le (number_seen problem.number) 7

  abbrev pub is_good : Item → Bool
  is_good item = (is_proper item.apdu && is_short item.apdu) && (nat_le 1 item.id && nat_le item.id 32767 && same_name item.pair.abstract_name base.tables.name_oid)

  not-so : (b : Bool) → not b ≡ true → b ≡ false
  not-so true h = cc
  not-so false h = refl

  so-not : (b : Bool) → b ≡ false → not b ≡ true
  so-not true h = cc
  so-not false h = refl

  returned-so : (r : Option Returned) → fits_returned r ≡ true → FitsReturned base r
  returned-so None h = tt
  returned-so (Some r) h = h

  so-returned : (r : Option Returned) → FitsReturned base r → fits_returned r ≡ true
  so-returned None h = refl
  so-returned (Some r) h = h

  proper-so : (a : Apdu) → is_proper a ≡ true → IsProper base a
  proper-so (apdus.Invoke id linked code argument) h =
      let x = left (is_number id && is_named linked) (fits_argument base (operation_of_code base (operation_with base.tables code)) argument) h in (
        number-so id (left (is_number id) (is_named linked) x),
        named-so linked (right (is_number id) (is_named linked) x),
        right (is_number id && is_named linked) (fits_argument base (operation_of_code base (operation_with base.tables code)) argument) h,
      )
  proper-so (apdus.Result id returned) h = (number-so id (left (is_number id) (fits_returned returned) h), returned-so returned (right (is_number id) (fits_returned returned) h))
  proper-so (apdus.Error id code parameter) h =
      (number-so id (left (is_number id) (fits_parameter base (error_of_code base (error_with base.tables code)) parameter) h), right (is_number id) (fits_parameter base (error_of_code base (error_with base.tables code)) parameter) h)
  proper-so (apdus.Reject id problem) h =
      (named-so id (left (is_named id) (is_problem id problem.kind problem.number) h), problem-so id problem.kind problem.number (right (is_named id) (is_problem id problem.kind problem.number) h))

  so-proper : (a : Apdu) → IsProper base a → is_proper a ≡ true
  so-proper (apdus.Invoke id linked code argument) h =
      both (is_number id && is_named linked) (fits_argument base (operation_of_code base (operation_with base.tables code)) argument) (both (is_number id) (is_named linked) (so-number id h.0) (so-named linked h.1)) h.2
  so-proper (apdus.Result id returned) h = both (is_number id) (fits_returned returned) (so-number id h.0) (so-returned returned h.1)
  so-proper (apdus.Error id code parameter) h = both (is_number id) (fits_parameter base (error_of_code base (error_with base.tables code)) parameter) (so-number id h.0) h.1
  so-proper (apdus.Reject id problem) h = both (is_named id) (is_problem id problem.kind problem.number) (so-named id h.0) (so-problem id problem.kind problem.number h.1)

  short-so : (a : Apdu) → is_short a ≡ true → IsShort base a
  short-so (apdus.Invoke id linked code argument) h = not-so (is_too_long base (apdus.Invoke id linked code argument)) h
  short-so (apdus.Result id returned) h = not-so (is_too_long base (apdus.Result id returned)) h
  short-so (apdus.Error id code parameter) h = not-so (is_too_long base (apdus.Error id code parameter)) h
  short-so (apdus.Reject id problem) h = le-so (number_seen problem.number) 7 h

  so-short : (a : Apdu) → IsShort base a → is_short a ≡ true
  so-short (apdus.Invoke id linked code argument) h = so-not (is_too_long base (apdus.Invoke id linked code argument)) h
  so-short (apdus.Result id returned) h = so-not (is_too_long base (apdus.Result id returned)) h
  so-short (apdus.Error id code parameter) h = so-not (is_too_long base (apdus.Error id code parameter)) h
  so-short (apdus.Reject id problem) h = le-leb (number_seen problem.number) 7 h

  pub good-transferable : (item : Item) → is_good item ≡ true → IsTransferable base item.apdu
  good-transferable item h =
      let x = left (is_proper item.apdu && is_short item.apdu) _ h in
      record { proper = proper-so item.apdu (left (is_proper item.apdu) (is_short item.apdu) x); short = short-so item.apdu (right (is_proper item.apdu) (is_short item.apdu) x) }

  pub good-placed : (item : Item) → is_good item ≡ true → IsPlaced base item
  good-placed item h =
      let x = right (is_proper item.apdu && is_short item.apdu) (nat_le 1 item.id && nat_le item.id 32767 && same_name item.pair.abstract_name base.tables.name_oid) h in
      let y = left (nat_le 1 item.id && nat_le item.id 32767) (same_name item.pair.abstract_name base.tables.name_oid) x in
      record {
        low = le-so 1 item.id (left (nat_le 1 item.id) (nat_le item.id 32767) y);
        high = le-so item.id 32767 (right (nat_le 1 item.id) (nat_le item.id 32767) y);
        named = one-name item.pair.abstract_name base.tables.name_oid (right (nat_le 1 item.id && nat_le item.id 32767) (same_name item.pair.abstract_name base.tables.name_oid) x);
      }

  pub is-good_so : (item : Item) → IsTransferable base item.apdu → IsPlaced base item → is_good item ≡ true
  is-good_so item t p =
      both (is_proper item.apdu && is_short item.apdu) (nat_le 1 item.id && nat_le item.id 32767 && same_name item.pair.abstract_name base.tables.name_oid)
      (both (is_proper item.apdu) (is_short item.apdu) (so-proper item.apdu t.proper) (so-short item.apdu t.short))
      (both (nat_le 1 item.id && nat_le item.id 32767) (same_name item.pair.abstract_name base.tables.name_oid) (both (nat_le 1 item.id) (nat_le item.id 32767) (le-leb 1 item.id p.low) (le-leb item.id 32767 p.high))
      (subst (λ n. same_name n base.tables.name_oid ≡ true) (sym p.named) (same-itself base.tables.name_oid)))

-- ---- the item that a value of the model is

abbrev rejected_in : ℕ → Option ℤ
rejected_in zero = None
rejected_in (suc n) = Some (pos (suc n))

abbrev problem_said : model.Problem → Problem
problem_said (of_general code) = record { kind = problems.General; number = pos code }
problem_said (of_invocation code) = record { kind = problems.Invoke; number = pos code }
problem_said (of_result code) = record { kind = problems.Result; number = pos code }
problem_said (of_error code) = record { kind = problems.Error; number = pos code }

abbrev apdu_in : Tables → model.Apdu → Option Apdu
apdu_in tables (model_invoke number operation link argument) = apdu_of tables (head_at tables Der argument)
apdu_in tables (model_outcome number content) = apdu_of tables (head_at tables Der content)
apdu_in tables (model_reject number problem) = Some (apdus.Reject (rejected_in number) (problem_said problem))

abbrev pair_with : List ℕ → Option Syntax → Option Pair
pair_with name None = None
pair_with name (Some syntax) = Some (record { abstract_name = name; transfer = syntax })

abbrev pair_in : sets.Pair → Option Pair
pair_in p = pair_with p.abstract_syntax (syntax_named p.transfer_syntax)

abbrev item_of : ℕ → Option Pair → Option Apdu → Option Item
item_of id None apdu = None
item_of id (Some pair) None = None
item_of id (Some pair) (Some apdu) = Some (record { id = id; pair = pair; apdu = apdu })

abbrev item_in : Tables → model.Value → Option Item
item_in tables value = item_of value.identifier (pair_in value.pair) (apdu_in tables value.apdu)

-- the set that the contexts with syntaxes of this product make
abbrev with_known : ℕ → Option Pair → List SetItem → List SetItem
with_known id None set = set
with_known id (Some pair) set = record { id = id; pair = pair } ∷ set

abbrev set_in : sets.ContextSet → List SetItem
set_in [] = []
set_in (c ∷ cs) = with_known c.identifier (pair_in c.pair) (set_in cs)

syntax-back : (s : Syntax) → syntax_named (name_of s) ≡ Some s
syntax-back Ber = refl
syntax-back Der = refl
syntax-back Packed = refl

pair-back : (p : Pair) → pair_in (pair_seen p) ≡ Some p
pair-back p = ap (pair_with p.abstract_name) (syntax-back p.transfer)

some-pair : (x y : sets.Pair) → Some x ≡ Some y → x ≡ y
some-pair x y h = cc

-- what such a set gives is what the set gives
found-in : (set : sets.ContextSet) (k : ℕ) (p : Pair) → sets.lookup set k ≡ Some (pair_seen p) → pair_of (set_in set) k ≡ Some p
found-in [] k p h = cc
found-in (c ∷ cs) k p h = go (found-in cs k p) (nat_eq c.identifier k) refl h
  where
    here : (o : Option Pair) → o ≡ Some p → nat_eq c.identifier k ≡ true → pair_of (with_known c.identifier o (set_in cs)) k ≡ Some p
    here o e is = ap (λ (x : Option Pair). pair_of (with_known c.identifier x (set_in cs)) k) e ∙ ap (λ b. if b then Some p else pair_of (set_in cs) k) is

    later-so : pair_of (set_in cs) k ≡ Some p → (o : Option Pair) → nat_eq c.identifier k ≡ false → pair_of (with_known c.identifier o (set_in cs)) k ≡ Some p
    later-so h None is = h
    later-so h (Some q) is = ap (λ b. if b then Some q else pair_of (set_in cs) k) is ∙ h

    go : (sets.lookup cs k ≡ Some (pair_seen p) → pair_of (set_in cs) k ≡ Some p) → (b : Bool) → nat_eq c.identifier k ≡ b → (if b then Some c.pair else sets.lookup cs k) ≡ Some (pair_seen p) → pair_of (with_known c.identifier (pair_in c.pair) (set_in cs)) k ≡ Some p
    go later true is h = here (pair_in c.pair) (ap pair_in (some-pair c.pair (pair_seen p) h) ∙ pair-back p) is
    go later false is h = later-so (later h) (pair_in c.pair) is

-- ---- the codec

module _ (tables : Tables) (config : Config) (initiator : Bool) (mode : Mode) (transfer : Item → List ℕ) (arrived : List SetItem → List ℕ → Result Arrived Fault)
    (module_s : IsModule tables) (spells : SpellsTransfers (base_with tables config initiator mode transfer arrived)) where
  abbrev base : Base
  base = base_with tables config initiator mode transfer arrived

  -- the item, where it is one that is transferred, and the value is its
  abbrev kept_if : Option Item → model.Value → Option Item
  kept_if None value = None
  kept_if (Some item) value = if is_good base item && same_value (item_seen base item) value then Some item else None

  abbrev encoded_in : model.Value → Option Item
  encoded_in value = kept_if (item_in tables value) value

  abbrev octets_of : Option Item → List ℕ
  octets_of None = []
  octets_of (Some item) = transfer item

  abbrev value_of : List ℕ → Result Arrived Fault → Option model.Value
  value_of octets (Ok (Whole item)) = if is_good base item && same_name octets (transfer item) then Some (item_seen base item) else None
  value_of octets (Ok (Raw id pair rest)) = None
  value_of octets (Err fault) = None

  record Kept (value : model.Value) : Type 0 where
    item : Item
    good : is_good base item ≡ true
    same : item_seen base item ≡ value
    is_it : encoded_in value ≡ Some item

  kept : (value : model.Value) → is_some (encoded_in value) ≡ true → Kept value
  kept value h = go (item_in tables value) refl h
    where
      go : (o : Option Item) → item_in tables value ≡ o → is_some (kept_if o value) ≡ true → Kept value
      go None e h = cc
      go (Some item) e h = by (is_good base item && same_value (item_seen base item) value) refl h
        where
          by : (b : Bool) → (is_good base item && same_value (item_seen base item) value) ≡ b → is_some (if b then Some item else None) ≡ true → Kept value
          by false f h = cc
          by true f h =
              record {
                item = item;
                good = left (is_good base item) (same_value (item_seen base item) value) f;
                same = value-so (item_seen base item) value (right (is_good base item) (same_value (item_seen base item) value) f);
                is_it = ap (λ o. kept_if o value) e ∙ ap (λ c. if c then Some item else None) f;
              }

  faithful-so : (set : sets.ContextSet) (value : model.Value) → is_some (encoded_in value) ≡ true → sets.lookup set value.identifier ≡ Some value.pair → value_of (octets_of (encoded_in value)) (arrived (set_in set) (octets_of (encoded_in value))) ≡ Some value
  faithful-so set value h there =
      let k = kept value h in
      let found : sets.lookup set k.item.id ≡ Some (pair_seen k.item.pair) = subst (λ (v : model.Value). sets.lookup set v.identifier ≡ Some v.pair) (sym k.same) there in
      let read : arrived (set_in set) (transfer k.item) ≡ Ok (Whole k.item) = spells.reads (set_in set) k.item (good-transferable base k.item k.good) (good-placed base k.item k.good) (found-in set k.item.id k.item.pair found) in
      let fine : (is_good base k.item && same_name (transfer k.item) (transfer k.item)) ≡ true = both (is_good base k.item) _ k.good (same-itself (transfer k.item)) in
      ap (λ (o : Option Item). value_of (octets_of o) (arrived (set_in set) (octets_of o))) k.is_it ∙
      ap (value_of (transfer k.item)) read ∙
      ap (λ b. if b then Some (item_seen base k.item) else None) fine ∙
      ap (λ (v : model.Value). Some v) k.same

  abbrev the_codec : model.Codec
  the_codec =
      record {
        written = λ value. octets_of (encoded_in value);
        read = λ set octets. value_of octets (arrived (set_in set) octets);
        may_write = λ value. is_some (encoded_in value);
        faithful = faithful-so;
      }

  -- ---- each item that is transferred is the item of its value

  der-back : (apdu : Apdu) → IsTransferable base apdu → apdu_of tables (head_at tables Der (written_apdu tables Der apdu)) ≡ Some apdu
  der-back apdu t =
      let w : IsWritable tables Der apdu = transferables-writable base Der apdu refl module_s t in
      let s = written_spelled tables module_s.readable Der apdu w in
      ap (apdu_of tables) (spelled_said tables Der module_s.readable apdu (written_apdu tables Der apdu) s) ∙ said_is tables Der module_s.readable apdu s.head s.says

  reject-back : (id : Option ℤ) (kind : ProblemKind) (z : ℤ) → IsNamed id → IsProblem id kind z → Some (apdus.Reject (rejected_in (rejected_seen id)) (problem_said (problem_in kind (number_seen z)))) ≡ Some (apdus.Reject id (record { kind = kind; number = z }))
  reject-back id kind (negsuc n) named p = absurd p
  reject-back None problems.General (pos n) named p = refl
  reject-back None problems.Invoke (pos n) named p = absurd p
  reject-back None problems.Result (pos n) named p = absurd p
  reject-back None problems.Error (pos n) named p = absurd p
  reject-back (Some (negsuc k)) kind (pos n) named p = absurd named
  reject-back (Some (pos zero)) kind (pos n) named p = absurd (none named.0)
    where
      none : 1 ≤ 0 → ⊥
      none h = omega arith
  reject-back (Some (pos (suc k))) problems.General (pos n) named p = refl
  reject-back (Some (pos (suc k))) problems.Invoke (pos n) named p = refl
  reject-back (Some (pos (suc k))) problems.Result (pos n) named p = refl
  reject-back (Some (pos (suc k))) problems.Error (pos n) named p = refl

  apdu-back : (apdu : Apdu) → IsTransferable base apdu → apdu_in tables (apdu_seen base apdu) ≡ Some apdu
  apdu-back (apdus.Invoke id linked code argument) t = der-back (apdus.Invoke id linked code argument) t
  apdu-back (apdus.Result id returned) t = der-back (apdus.Result id returned) t
  apdu-back (apdus.Error id code parameter) t = der-back (apdus.Error id code parameter) t
  apdu-back (apdus.Reject id problem) t = reject-back id problem.kind problem.number t.proper.0 t.proper.1

  encoded-so : (item : Item) → IsTransferable base item.apdu → IsPlaced base item → encoded_in (item_seen base item) ≡ Some item
  encoded-so item t p =
      let is : item_in tables (item_seen base item) ≡ Some item = ap (λ (q : Option Pair). item_of item.id q (apdu_in tables (apdu_seen base item.apdu))) (pair-back item.pair) ∙ ap (item_of item.id (Some item.pair)) (apdu-back item.apdu t) in
      let fine : (is_good base item && same_value (item_seen base item) (item_seen base item)) ≡ true = both (is_good base item) _ (is-good_so base item t p) (value-itself (item_seen base item)) in
      ap (λ o. kept_if o (item_seen base item)) is ∙ ap (λ b. if b then Some item else None) fine

  read-so : (set : List SetItem) (octets : List ℕ) (value : model.Value) (r : Result Arrived Fault) → value_of octets r ≡ Some value → IsTransferOf base octets value
  read-so set octets value (Ok (Whole item)) h = go (is_good base item && same_name octets (transfer item)) refl h
    where
      one : (x y : model.Value) → Some x ≡ Some y → y ≡ x
      one x y h = cc

      go : (b : Bool) → (is_good base item && same_name octets (transfer item)) ≡ b → (if b then Some (item_seen base item) else None) ≡ Some value → IsTransferOf base octets value
      go false e h = cc
      go true e h =
          let good = left (is_good base item) (same_name octets (transfer item)) e in
          record {
            item = item;
            transferable = good-transferable base item good;
            placed = good-placed base item good;
            spelled = one-name octets (transfer item) (right (is_good base item) (same_name octets (transfer item)) e);
            is_its = one (item_seen base item) value h;
          }
  read-so set octets value (Ok (Raw id pair rest)) h = cc
  read-so set octets value (Err fault) h = cc

  carries-so : Carries (record { codec = the_codec }) base
  carries-so =
      record {
        writes = λ item t p. ap (λ (o : Option Item). is_some o) (encoded-so item t p);
        written = λ item t p. ap octets_of (encoded-so item t p);
        reads = λ set octets value h. read-so set octets value (arrived (set_in (set_seen set)) octets) h;
      }

pub has-codec : TransfersHaveACodec
has-codec tables config initiator mode transfer arrived module_s spells =
    (record { codec = the_codec tables config initiator mode transfer arrived module_s spells }, carries-so tables config initiator mode transfer arrived module_s spells)
