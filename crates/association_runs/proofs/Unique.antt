-- Events have one run.
use Rattle.std.proofs.Common.{◌≡◌, refl, sym, ap, subst, List, [], ◌∷◌, length}
use Rattle.osi_base.specs.declared.layer_words.Side.TheVariants.{A, B}
use Rattle.dialogue.specs.Sides.{other}
use Rattle.dialogue.specs.Carries.{first_octets}
use Rattle.dialogue.specs.declared.event.Event.{Event}
use Rattle.dialogue.specs.declared.event.Entry.{Entry}
use Rattle.dialogue.specs.declared.event.Entry.TheVariants as entries
use Rattle.end_model.specs.end_rules.Calling.{can_call}
use Rattle.end_model.specs.end_rules.History.{Step, gave, broke}
use Rattle.end_model.specs.end_rules.World.{World, Ends, base_at}
use Rattle.association_line.specs.OneFeed.{OneFeed, OneCall}
use Rattle.association_runs.specs.Worlds.{end_at, stepping, Runs, rests, calls, carries, breaks}
use Rattle.association_runs.specs.Laws.{OneRun}

module _ (one_feed : OneFeed) (one_call : OneCall) (ends : Ends) where
  same-runs : (w v x : World) (all : List Event) (told later : List Entry) → Runs ends w all told v → Runs ends w all later x → (told ≡ later) × (v ≡ x)
  same-runs w v x all told later rests rests = (refl, refl)
  same-runs w v x all told later (calls {more = more} {told = rest} side call steps makes next) (calls {told = rest'} _ _ steps' makes' next') =
      let e = one_call (base_at ends side) (end_at ends side w) call steps steps' makes makes' in
      let here : Runs ends (stepping side w steps) more rest' x = subst (λ (l : List Step). Runs ends (stepping side w l) more rest' x) (sym e) next' in
      let r = same-runs (stepping side w steps) v x more rest rest' next here in
      (ap (λ (l : List Entry). entries.Call side call (can_call (base_at ends side) (end_at ends side w).body call) ∷ l) r.0, r.1)
  same-runs w v x all told later (carries {more = more} {told = rest} side most steps shown fd next) (carries {told = rest'} _ _ steps' shown' fd' next') =
      let octets = first_octets most (end_at ends side w).line.waiting in
      let u = stepping side w (gave (length octets) ∷ []) in
      let e = one_feed (base_at ends (other side)) (end_at ends (other side) w) octets steps steps' shown shown' fd fd' in
      let here : Runs ends (stepping (other side) u steps) more rest' x = subst (λ (l : List Step). Runs ends (stepping (other side) u l) more rest' x) (sym e.0) next' in
      let r = same-runs (stepping (other side) u steps) v x more rest rest' next here in
      ((λ i. entries.Carry side most (record { octets = octets; shown = e.1 i }) ∷ r.0 i), r.1)
  same-runs w v x all told later (breaks {more = more} {told = rest} next) (breaks {told = rest'} next') =
      let r = same-runs (stepping B (stepping A w (broke ∷ [])) (broke ∷ [])) v x more rest rest' next next' in
      (ap (λ (l : List Entry). entries.Break ∷ l) r.0, r.1)

pub one-run : OneFeed → OneCall → OneRun
one-run one_feed one_call ends w v x all told later f g = same-runs one_feed one_call ends w v x all told later f g
