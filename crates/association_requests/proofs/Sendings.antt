-- What the sending of requests changes in transfers.
use Rattle.std.proofs.Common.{◌≡◌, ℕ, zero, suc, List, [], ◌∷◌, Some, None, refl, sym, ap, ◌∙◌}
use Rattle.end_rules.specs.State.{Transfer, Queued, Sending, Running, up_to}
use Rattle.end_rules.specs.Requesting.{begun, resumed}

-- ---- a resumption

pub resumed_at_first : (t : Transfer) → t.confirmed ≡ 0 → record t { encoded = None; pieces = []; progress = Running } ≡ resumed t
resumed_at_first t h =
    ap (λ (n : ℕ). record t { encoded = None; pieces = []; confirmed = n; progress = Running }) h ∙ ap (λ (n : ℕ). resumed (record t { confirmed = n })) (sym h)

module _ (t : Transfer) where
  abbrev back_to : ℕ → Transfer
  back_to n = record t { pieces = up_to n t.pieces; confirmed = n; progress = Running }

  later_at : (n : ℕ) → t.confirmed ≡ n → (t.confirmed ≡ 0 → ⊥) → back_to t.confirmed ≡ resumed t
  later_at zero e h = absurd (h e)
  later_at (suc n) e h = ap back_to e ∙ sym (ap (λ (m : ℕ). resumed (record t { confirmed = m })) e)

pub resumed_later : (t : Transfer) → (t.confirmed ≡ 0 → ⊥) → record t { pieces = up_to t.confirmed t.pieces; progress = Running } ≡ resumed t
resumed_later t h = later_at t t.confirmed refl h

-- ---- a start

module _ (s : Sending) where
  abbrev with_queue : List Queued → Sending
  with_queue queue = begun (record s { queue = queue })

  pub begun_none : (queue left : List Queued) → s.queue ≡ queue → queue ≡ [] → left ≡ [] → begun s ≡ record { started = suc s.started; current = None; queue = left }
  begun_none queue left e q l = ap with_queue (e ∙ q) ∙ ap (λ (x : List Queued). record { started = suc s.started; current = None; queue = x }) (sym l)

  pub begun_one : (queue : List Queued) (item : Queued) (left : List Queued) (t : Transfer) → s.queue ≡ queue → queue ≡ item ∷ left
      → t ≡ record { item = item; encoded = None; pieces = []; confirmed = 0; progress = Running } → begun s ≡ record { started = suc s.started; current = Some t; queue = left }
  begun_one queue item left t e q i = ap with_queue (e ∙ q) ∙ ap (λ (x : Transfer). record { started = suc s.started; current = Some x; queue = left }) (sym i)
