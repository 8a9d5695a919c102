-- Decimal numbers that are read back.
use Rattle.std.proofs.Common.{◌≡◌, ◌==◌, ℕ, suc, ◌+◌, ◌-◌, ◌*◌, ◌/◌, ◌%◌, ◌^◌, ◌<◌, ◌≤◌, ℤ, pos, negsuc, Bool, true, false, not, List, [], ◌∷◌, ◌++◌, None, Some, refl, ap, ◌∙◌, arith, nat_lt, decimal}
use Rattle.std.specs.Prelude.{option_map}
use Rattle.std.specs.Fmt.{signed_decimal}
use Rattle.std.specs.List.{list_all}
use Rattle.std.proofs.lemmas.Bool.Decides.{nat_tests}
use Rattle.std.proofs.lemmas.Fmt.{decimal_by_steps}
use Rattle.asn1_types.specs.Fits.{is_number}
use Rattle.value_text.specs.Numbers.{is_digit, leads_well, digits_after, natural_of, kept_below, number_of, identifier_of, integer_of}
use Rattle.value_reading.specs.Words.{is_sign}
use Rattle.text_laws.proofs.Tests.{both_true, all-append, all_so}
use Rattle.text_laws.proofs.Words.{is_plain}

-- digits that write n: the first isn't 0 unless it is the only one
pub record Writes (n : ℕ) (ds : List ℕ) : Type 0 where
  pub first : ℕ
  pub more : List ℕ
  pub some : ds ≡ first ∷ more
  pub leads : leads_well ds ≡ true
  pub high : 0 < n → (first == 48) ≡ false
  pub digits : list_all is_digit ds ≡ true
  pub value : digits_after 0 ds ≡ Some n

one_digit : (n : ℕ) → n < 10 → is_digit (48 + n) ≡ true
one_digit n h = grind (arith, nat_tests)

no_zero : (n : ℕ) → 0 < n → ((48 + n) == 48) ≡ false
no_zero n h = grind (arith, nat_tests)

after_one : (m d : ℕ) → is_digit d ≡ true → digits_after m (d ∷ []) ≡ Some (m * 10 + (d - 48))
after_one m d h = rw h refl

after_step : (m k d c : ℕ) (cs : List ℕ) (b : Bool) → is_digit c ≡ b → digits_after m (c ∷ cs) ≡ Some k
    → (digits_after (m * 10 + (c - 48)) cs ≡ Some k → digits_after (m * 10 + (c - 48)) (cs ++ d ∷ []) ≡ Some (k * 10 + (d - 48)))
    → digits_after m ((c ∷ cs) ++ d ∷ []) ≡ Some (k * 10 + (d - 48))
after_step m k d c cs true t e more = rw t (more (rw t at e))
after_step m k d c cs false t e more = absurd (let bad : None ≡ Some k = rw t at e in let no : ⊥ = cc in no)

after_more : (m k d : ℕ) (ds : List ℕ) → digits_after m ds ≡ Some k → is_digit d ≡ true → digits_after m (ds ++ d ∷ []) ≡ Some (k * 10 + (d - 48))
after_more m k d [] e h = let same : m ≡ k = cc in rw same (after_one k d h)
after_more m k d (c ∷ cs) e h = after_step m k d c cs (is_digit c) refl e (λ f. after_more (m * 10 + (c - 48)) k d cs f h)

writes_one : (n : ℕ) → n < 10 → Writes n ((48 + n) ∷ [])
writes_one n h = record {
  first = 48 + n;
  more = [];
  some = refl;
  leads = refl;
  high = no_zero n;
  digits = rw (one_digit n h) refl;
  value = let same : 0 * 10 + ((48 + n) - 48) ≡ n = omega arith in after_one 0 (48 + n) (one_digit n h) ∙ ap (λ k. Some k) same;
}

leads_more : (first : ℕ) (more : List ℕ) (d : ℕ) → (first == 48) ≡ false → leads_well ((first ∷ more) ++ d ∷ []) ≡ true
leads_more first [] d h = rw h refl
leads_more first (c ∷ cs) d h = rw h refl

writes_more : (n : ℕ) (ds : List ℕ) → 10 ≤ n → Writes (n / 10) ds → Writes n (ds ++ (48 + n % 10) ∷ [])
writes_more n ds h w =
    let some : 0 < n / 10 = omega arith in
    let low : n % 10 < 10 = omega arith in
    let d : is_digit (48 + n % 10) ≡ true = one_digit (n % 10) low in
    let same : (n / 10) * 10 + ((48 + n % 10) - 48) ≡ n = omega arith in
    record {
      first = w.first;
      more = w.more ++ (48 + n % 10) ∷ [];
      some = rw w.some refl;
      leads = rw w.some (leads_more w.first w.more (48 + n % 10) (w.high some));
      high = λ _. w.high some;
      digits = all-append is_digit ds ((48 + n % 10) ∷ []) w.digits (rw d refl);
      value = after_more 0 (n / 10) (48 + n % 10) ds w.value d ∙ ap (λ k. Some k) same;
    }

pub writes : (n : ℕ) → n < 2 ^ 64 → Writes n (decimal n)
writes n h = decimal_by_steps Writes writes_one writes_more n h

pub natural_back : (n : ℕ) → n < 2 ^ 64 → natural_of (decimal n) ≡ Some n
natural_back n h = let w = writes n h in rw (w.leads) w.value

no_sign : (c : ℕ) → is_digit c ≡ true → not (is_sign c) ≡ true
no_sign c h = grind (arith, nat_tests)

pub digits_plain : (ds : List ℕ) → list_all is_digit ds ≡ true → is_plain ds ≡ true
digits_plain ds h = all_so is_digit (λ c. not (is_sign c)) no_sign ds h

kept_so : (limit n : ℕ) → n < limit → kept_below limit n ≡ Some n
kept_so limit n h = let e : nat_lt n limit ≡ true = grind (arith, nat_tests) in rw e refl

pub number_back : (n : ℕ) → n < 2 ^ 32 → number_of (decimal n) ≡ Some n
number_back n h = let small : n < 2 ^ 64 = omega arith in rw (natural_back n small) (kept_so (2 ^ 32) n h)

pub identifier_back : (n : ℕ) → n < 2 ^ 63 → identifier_of (decimal n) ≡ Some (pos n)
identifier_back n h = let small : n < 2 ^ 64 = omega arith in rw (natural_back n small) (ap (option_map pos) (kept_so (2 ^ 63) n h))

not_minus : (c : ℕ) → is_digit c ≡ true → (c == 45) ≡ false
not_minus c h = grind (arith, nat_tests)

unsigned_back : (ds : List ℕ) (c : ℕ) (cs : List ℕ) → ds ≡ c ∷ cs → list_all is_digit ds ≡ true → integer_of ds ≡ identifier_of ds
unsigned_back ds c cs e h =
    let d : is_digit c ≡ true = (both_true (is_digit c) (list_all is_digit cs) (rw e at h)).0 in
    rw (e, not_minus c d) refl

below_number : (n : ℕ) → nat_lt n (2 ^ 63) ≡ true → n < 2 ^ 63
below_number n h = grind (arith, nat_tests)

pub integer_back : (z : ℤ) → is_number z ≡ true → integer_of (signed_decimal z) ≡ Some z
integer_back (pos n) h =
    let small : n < 2 ^ 63 = below_number n h in
    let wide : n < 2 ^ 64 = omega arith in
    let w = writes n wide in
    unsigned_back (decimal n) w.first w.more w.some w.digits ∙ identifier_back n small
integer_back (negsuc n) h =
    let small : n < 2 ^ 63 = below_number n h in
    let wide : suc n < 2 ^ 64 = omega arith in
    rw (natural_back (suc n) wide) (ap (option_map negsuc) (kept_so (2 ^ 63) n small))

pub signed_plain : (z : ℤ) → is_number z ≡ true → is_plain (signed_decimal z) ≡ true
signed_plain (pos n) h =
    let small : n < 2 ^ 63 = below_number n h in
    let wide : n < 2 ^ 64 = omega arith in
    digits_plain (decimal n) (writes n wide).digits
signed_plain (negsuc n) h =
    let small : n < 2 ^ 63 = below_number n h in
    let wide : suc n < 2 ^ 64 = omega arith in
    digits_plain (decimal (suc n)) (writes (suc n) wide).digits
