-- A break of the connection is a step of a history.
use Rattle.std.proofs.Common.{◌≡◌, [], ◌∷◌, Some, refl, subst}
use Rattle.end_rules.specs.State.{Body}
use Rattle.end_rules.specs.History.{broke, after_broke}
use Rattle.association_line.specs.association_reading.Front.{nothing_came}
use Rattle.association_line.specs.Line.{Line, first_size}
use Rattle.association_end.specs.View.{EndView, base, Stepped}
use Rattle.association_end.specs.OneMessage.{with_body, with_line}

pub broke_so : (e old : EndView) (body : Body) (line : Line) → e ≡ old → body ≡ after_broke (base e) e.end.body → line.waiting ≡ [] → line.came ≡ Some nothing_came → line.size ≡ first_size e.config.initiator
    → Stepped old (with_line line (with_body body e)) (broke ∷ [])
broke_so e old body line v b w c s =
    subst (λ (o : EndView). Stepped o (with_line line (with_body body e)) (broke ∷ [])) v
    (record {
      tables = refl;
      config = refl;
      end = λ i. record { body = b i; line = record { waiting = w i; came = c i; size = s i } };
    })
