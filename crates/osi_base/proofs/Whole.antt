-- The contents of a file that was read to its end, or as far as is handed up.
use Rattle.std.proofs.Common.{◌≡◌, ◌≤◌, ◌<◌, ℕ, List, [], ◌++◌, length, take, Option, None, Some, IfSome, Result, Ok, refl, sym, ap, subst, ◌∙◌, append-nil, inl, inr, ◌-◌, min, length-take, arith}
use Rattle.std.proofs.lemmas.Bool.{cases_lt}
use Rattle.std.proofs.lemmas.List.{take_all, take-append-le}
use Rattle.std.specs.Io.KnownBytes.{Consumes, IsAtEnd, ReadConsumes}

-- what a read says that gave nothing
none_given : {E : Type 0} (now later : Option (List ℕ)) (room : List ℕ) (r : Result ℕ E) → r ≡ Ok 0 → ReadConsumes now later r room
    → Consumes now later [] × (0 < length room → IsAtEnd later)
none_given {E = E} now later room r is said =
    let P : Result ℕ E → Type 0 = λ x. ReadConsumes now later x room in
    let given : ReadConsumes {E = E} now later (Ok 0) room = subst P is said in
    (given.0, given.1 refl)

module _ (most : ℕ) where
  -- all of a short file was read
  all_read : (all contents rest : List ℕ) → length contents ≤ most → all ≡ contents ++ rest → rest ≡ [] → contents ≡ take most all
  all_read all contents rest within is none =
      let e : all ≡ contents = is ∙ ap (λ more. contents ++ more) none ∙ append-nil contents in
      sym (ap (take most) e ∙ take_all most contents within)

  -- as much was read as is handed up
  cut_off : (all contents rest : List ℕ) → length contents ≡ most → all ≡ contents ++ rest → contents ≡ take most all
  cut_off all contents rest full is =
      let within : most ≤ length contents = omega arith in
      sym (ap (take most) is ∙ take-append-le most contents rest within ∙ take_all most contents (omega arith))

  nothing_left : (first now later : Option (List ℕ)) (contents room : List ℕ) → length contents ≤ most
      → Consumes first now contents → Consumes now later [] → (0 < length room → IsAtEnd later)
      → (length contents < most → 0 < length room)
      → IfSome first (λ all. contents ≡ take most all)
  nothing_left None now later contents room within consumed given end some = tt
  nothing_left (Some all) None later contents room within consumed given end some = absurd consumed
  nothing_left (Some all) (Some rest) None contents room within consumed given end some = absurd given
  nothing_left (Some all) (Some rest) (Some left) contents room within consumed given end some =
      elim (cases_lt (length contents) most) [
        | inl less ↦ all_read all contents rest within consumed (given ∙ end (some less))
        | inr full ↦ cut_off all contents rest (omega arith) consumed
      ]

  -- a read that gave nothing: there was no room, or nothing is left
  pub ended : {E : Type 0} (first now later : Option (List ℕ)) (contents room : List ℕ) (r : Result ℕ E) → r ≡ Ok 0
      → length contents ≤ most → Consumes first now contents → ReadConsumes now later r room
      → (block : List ℕ) → length block ≡ 4096 → (count : ℕ) → count ≡ min 4096 (most - length contents) → length room ≡ length (take count block) → IfSome first (λ all. contents ≡ take most all)
  ended first now later contents room r is within consumed said block whole count counted as_long =
      let given = none_given now later room r is said in
      nothing_left first now later contents room within consumed given.0 given.1 (λ less. omega (arith, length-take count block))
