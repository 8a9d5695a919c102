use Rattle.std.proofs.Common.{◌≡◌, ℕ, List, subst, rules, append_assoc}
use Rattle.value_text.specs.Values.{oid_text}
use Rattle.transcript_text.specs.Calls.{syntax_text}
use Rattle.transcript_text.proofs.Arcs.{other_syntax}
use Rattle.transcript_text.proofs.call.put_syntax.Goals as goal

pub returns-in-None : goal.returns-in-None
returns-in-None c =
    rw (subst (λ (arcs : List ℕ). syntax_text arcs ≡ oid_text arcs) c.arcs.ensures.value (other_syntax c.arcs.result.now c.in-None.ensures.none))
    (search (rules, append_assoc))
