-- What an end sends of itself, answers and aborts with waits behind what waited.
use Rattle.std.proofs.Common.{◌≡◌, refl, ◌∙◌, sym, ℕ, ◌≤◌, List, [], ◌∷◌, ◌++◌, map, append_assoc, arith, true, false, None}
use Rattle.std.specs.Prelude.{Bool, ◌&&◌, nat_le, ◌^◌, Option, Some, if◌then◌else◌}
use Rattle.std.proofs.Math.Pow.{pow_mono}
use Rattle.std.proofs.lemmas.Bool.Decides.{nat_tests}
use Rattle.std.proofs.lemmas.List.{append-nil}
use Rattle.end_model.specs.end_rules.Base.{Base}
use Rattle.end_model.specs.end_rules.Messages.{Message, Transport, Session, ConnectionRequest, ConnectionConfirm, DisconnectRequest, TransportError, TransportUnit}
use Rattle.end_model.specs.end_rules.State.{Body}
use Rattle.end_model.specs.end_rules.History.{sent, answered}
use Rattle.end_model.specs.Requests.{sent_all}
use Rattle.association_line.specs.association_wire.Written.{written}
use Rattle.association_line.specs.Line.{Line, End, after, after_all, first_size, size_named, size_of_unit, size_after}
use Rattle.association_worlds.specs.Lines.{written_all}
use Rattle.osi_base.specs.Limits.{IsUnitSize}

-- ---- what is written

abbrev pub writing : Base → List Message → Line → Line
writing base messages line = record line { waiting = line.waiting ++ written_all base.tables line.size messages }

abbrev of : Body → Line → End
of body line = record { body = body; line = line }

nothing-more : (base : Base) (e : End) → e ≡ record { body = e.body; line = writing base [] e.line }
nothing-more base e = λ i. record { body = e.body; line = record e.line { waiting = sym (append-nil e.line.waiting) i } }

more-written : (base : Base) (body : Body) (line : Line) (m : Message) (ms : List Message) → of body (writing base ms (record line { waiting = line.waiting ++ written base.tables line.size m })) ≡ of body (writing base (m ∷ ms) line)
more-written base body line m ms = λ i. of body (record line { waiting = append_assoc line.waiting (written base.tables line.size m) (written_all base.tables line.size ms) i })

pub all-sent : (base : Base) (e : End) (ms : List Message) → after_all base e (map sent ms) ≡ record { body = sent_all base.mode e.body ms; line = writing base ms e.line }
all-sent base e [] = nothing-more base e
all-sent base e (m ∷ ms) = all-sent base (after base e (sent m)) ms ∙ more-written base (sent_all base.mode e.body (m ∷ ms)) e.line m ms

pub all-answered : (base : Base) (e : End) (to : Message) (ms : List Message) → after_all base e (map (answered to) ms) ≡ record { body = e.body; line = writing base ms e.line }
all-answered base e to [] = nothing-more base e
all-answered base e to (m ∷ ms) = all-answered base (after base e (answered to m)) to ms ∙ more-written base e.body e.line m ms

-- ---- sizes

pub first-fits : (initiator : Bool) → IsUnitSize (first_size initiator)
first-fits true = record { least = omega arith; most = omega arith }
first-fits false = record { least = omega arith; most = omega arith }

and-left : (a b : Bool) → (a && b) ≡ true → a ≡ true
and-left true b h = refl
and-left false b h = cc

and-right : (a b : Bool) → (a && b) ≡ true → b ≡ true
and-right true b h = h
and-right false b h = cc

at-most : (m n : ℕ) → nat_le m n ≡ true → m ≤ n
at-most m n h = grind (arith, nat_tests)

powers-fit : (code : ℕ) → 7 ≤ code → code ≤ 13 → IsUnitSize (2 ^ code)
powers-fit code low high =
    let least : 128 ≤ 2 ^ code = pow_mono low in
    let most : 2 ^ code ≤ 8192 = pow_mono high in record { least = least; most = omega (arith, most) }

named-fits : (first before : ℕ) (size : Option ℕ) → IsUnitSize first → IsUnitSize before → IsUnitSize (size_named first before size)
named-fits first before None f h = f
named-fits first before (Some code) f h = go (nat_le 7 code && nat_le code 13) refl
  where
    go : (b : Bool) → (nat_le 7 code && nat_le code 13) ≡ b → IsUnitSize (if b then 2 ^ code else before)
    go false e = h
    go true e = powers-fit code (at-most 7 code (and-left (nat_le 7 code) (nat_le code 13) e)) (at-most code 13 (and-right (nat_le 7 code) (nat_le code 13) e))

unit-fits : (first before : ℕ) (unit : TransportUnit) → IsUnitSize first → IsUnitSize before → IsUnitSize (size_of_unit first before unit)
unit-fits first before (ConnectionRequest source size calling called) f h = named-fits first before size f h
unit-fits first before (ConnectionConfirm destination size) f h = named-fits first before size f h
unit-fits first before (DisconnectRequest destination) f h = h
unit-fits first before TransportError f h = h

pub size-fits : (base : Base) (before : ℕ) (message : Message) → IsUnitSize before → IsUnitSize (size_after base before message)
size-fits base before (Transport unit) h = unit-fits (first_size base.initiator) before unit (first-fits base.initiator) h
size-fits base before (Session word) h = h
