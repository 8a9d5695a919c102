-- The worked cases are runs.
use Rattle.std.proofs.Common.{◌≡◌, ℕ, ◌<◌, ◌≤◌, false, List, [], ◌∷◌, ◌++◌, refl, sym, ap, ◌∙◌, arith, true≢false}
use Rattle.std.specs.Prelude.{Some, None, Contains}
use Rattle.agreement.specs.Sets.{Pair}
use Rattle.agreement.specs.Messages.{Apdu}
use Rattle.agreement.specs.Messages.Problem.{General, OfInvocation, OfResult, OfError}
use Rattle.agreement.specs.Messages.Apdu.{Invoke, Outcome, Reject}
use Rattle.agreement.specs.Messages.Mode.{Direct, Reliable}
use Rattle.agreement.specs.State.{Phase, Handed}
use Rattle.agreement.specs.State.Phase.{Up, Broken, Recovering, Over}
use Rattle.agreement.specs.State.Progress.{Running, Ending, Suspended}
use Rattle.agreement.specs.Cases.{IsFaithful, written_plainly, value_of_parts, apdu_of, is_over, Happens, marked_once, begun, collision, use_rejected, addition_dropped, lower_wins, tie_won, read_by_mark, interrupted, discarded, resumed_from_mark, resumed_from_nothing, completed_resumed, giving_lost, giving_taken, recovery_broken, unconfirmed, cut_but_arrived, late_result, late_error, answered_once, wide_opening, accepted_known, two_answered, four_lost, withdrawn, refused_transport}

apdu-read : (a : Apdu) → apdu_of (written_plainly a) ≡ Some a
apdu-read (Invoke number operation None argument) = refl
apdu-read (Invoke number operation (Some link) argument) = refl
apdu-read (Outcome number content) = refl
apdu-read (Reject number (General code)) = refl
apdu-read (Reject number (OfInvocation code)) = refl
apdu-read (Reject number (OfResult code)) = refl
apdu-read (Reject number (OfError code)) = refl

pub faithful : IsFaithful
faithful set value w e =
    ap (λ p. value_of_parts value.identifier p (apdu_of (written_plainly value.apdu))) e ∙ ap (value_of_parts value.identifier (Some value.pair)) (apdu-read value.apdu)

-- what is told apart, for the search
not-over : (p : Phase) → is_over p ≡ false → p ≡ Over → ⊥
not-over p h e = true≢false (sym (ap is_over e) ∙ h)

up-alive : Up ≡ Over → ⊥
up-alive e = cc

broken-alive : Broken ≡ Over → ⊥
broken-alive e = cc

recovering-alive : Recovering ≡ Over → ⊥
recovering-alive e = cc

not-reliable : Direct ≡ Reliable → ⊥
not-reliable e = cc

not-none : (p : Pair) → Some p ≡ None → ⊥
not-none p e = cc

not-nil : (x : Handed) (xs : List Handed) → x ∷ xs ≡ [] → ⊥
not-nil x xs e = cc

running-ending : Running ≡ Ending → ⊥
running-ending e = cc

running-suspended : Running ≡ Suspended → ⊥
running-suspended e = cc

ending-suspended : Ending ≡ Suspended → ⊥
ending-suspended e = cc

first-offer : (p : Pair) → Contains (p ∷ []) p
first-offer p = (0, omega arith, refl)

-- within the limits
two_marks : 2 ≤ 65536
two_marks = omega arith

five_octets : 5 ≤ 262400
five_octets = omega arith

six_octets : 6 ≤ 262400
six_octets = omega arith

-- four alterations are no fewer than four
pub five : 4 < 4 → ⊥
five h = omega arith

-- what is left of the octets: nothing, the third part, or the second and the third
rest-none : (x y : List ℕ) → x ++ [] ≡ y → (rest : List ℕ) × (x ++ rest ≡ y)
rest-none x y e = ([], e)

rest-third : (x y : List ℕ) → x ++ (5 ∷ []) ≡ y → (rest : List ℕ) × (x ++ rest ≡ y)
rest-third x y e = (5 ∷ [], e)

rest-second : (x y : List ℕ) → x ++ (1 ∷ 0 ∷ 5 ∷ []) ≡ y → (rest : List ℕ) × (x ++ rest ≡ y)
rest-second x y e = (1 ∷ 0 ∷ 5 ∷ [], e)

ruleset told = (refl, tt, arith, not-over, not-reliable, not-none, not-nil, running-ending, running-suspended, ending-suspended, first-offer, rest-none, rest-third, rest-second)

run-marked_once : Happens Direct marked_once
run-marked_once f = search told

run-begun : Happens Reliable begun
run-begun f = search told

pub run-collision : Happens Direct collision
run-collision f = search told

pub run-use_rejected : Happens Direct use_rejected
run-use_rejected f = search told

pub run-addition_dropped : Happens Direct addition_dropped
run-addition_dropped f = search told

pub run-lower_wins : Happens Direct lower_wins
run-lower_wins f = search told

pub run-tie_won : Happens Direct tie_won
run-tie_won f = search told

pub run-read_by_mark : Happens Direct read_by_mark
run-read_by_mark f = (search told, (search told, (search told, (search told, (search told, (search told, (search told, (search told, (search told, (search told, (search told, run-marked_once f)))))))))))

pub run-interrupted : Happens Reliable interrupted
run-interrupted f = search told

pub run-discarded : Happens Reliable discarded
run-discarded f = search told

pub run-giving_lost : Happens Reliable giving_lost
run-giving_lost f = search told

pub run-giving_taken : Happens Reliable giving_taken
run-giving_taken f = search told

pub run-recovery_broken : Happens Reliable recovery_broken
run-recovery_broken f = search told

pub run-resumed_from_mark : Happens Reliable resumed_from_mark
run-resumed_from_mark f = (
  record { comes = refl; is_alive = up-alive; is_kept = refl; is_choice = tt },
  (
    record { comes = refl; is_alive = up-alive; is_kept = refl; is_choice = tt },
    (
      record { comes = refl; is_alive = up-alive; is_kept = refl; is_choice = tt },
      (
        record { comes = refl; is_alive = up-alive; is_kept = refl; is_choice = tt },
        (
          record { comes = refl; is_alive = up-alive; is_kept = refl; is_choice = tt },
          (
            record { comes = refl; is_alive = up-alive; is_kept = refl; is_choice = tt },
            (
              record { comes = refl; is_alive = up-alive; is_kept = refl; is_choice = tt },
              (
                record { by_transfers = refl; leads = record { is_free = record { is_up = refl; is_calm = refl }; has_turn = refl; is_settled = refl }; is_whole = (refl, refl) },
                (
                  record { by_transfers = refl; leads = record { is_free = record { is_up = refl; is_calm = refl }; has_turn = refl; is_settled = refl }; is_next = (refl, ([], refl)); is_within = six_octets },
                  (
                    record { leads = record { is_free = record { is_up = refl; is_calm = refl }; has_turn = refl; is_settled = refl }; in_mode = ((refl, tt), two_marks) },
                    (
                      record { by_transfers = refl; leads = record { is_free = record { is_up = refl; is_calm = refl }; has_turn = refl; is_settled = refl }; is_next = (refl, (5 ∷ [], refl)); is_within = five_octets },
                      (
                        record { by_transfers = refl; leads = record { is_free = record { is_up = refl; is_calm = refl }; has_turn = refl; is_settled = refl }; rests = refl },
                        (
                          record { comes = refl; is_alive = recovering-alive; is_kept = refl; is_choice = tt },
                          (
                            record { comes = refl; is_alive = broken-alive; is_kept = refl; is_choice = record { has_it = refl; is_set = search told; is_known = search told } },
                            (
                              record { initiates = refl; is_broken = refl },
                              (
                                tt,
                                (
                                  record { by_transfers = refl; leads = record { is_free = record { is_up = refl; is_calm = refl }; has_turn = refl; is_settled = refl }; is_whole = (refl, refl) },
                                  (
                                    record { by_transfers = refl; leads = record { is_free = record { is_up = refl; is_calm = refl }; has_turn = refl; is_settled = refl }; is_next = (refl, ([], refl)); is_within = six_octets },
                                    (
                                      record { leads = record { is_free = record { is_up = refl; is_calm = refl }; has_turn = refl; is_settled = refl }; in_mode = ((refl, tt), two_marks) },
                                      (
                                        record { by_transfers = refl; leads = record { is_free = record { is_up = refl; is_calm = refl }; has_turn = refl; is_settled = refl }; is_next = (refl, (5 ∷ [], refl)); is_within = five_octets },
                                        (
                                          record { comes = refl; is_alive = up-alive; is_kept = refl; is_choice = tt },
                                          run-begun f,
                                        ),
                                      ),
                                    ),
                                  ),
                                ),
                              ),
                            ),
                          ),
                        ),
                      ),
                    ),
                  ),
                ),
              ),
            ),
          ),
        ),
      ),
    ),
  ),
)

pub run-resumed_from_nothing : Happens Reliable resumed_from_nothing
run-resumed_from_nothing f = (
  record { comes = refl; is_alive = up-alive; is_kept = refl; is_choice = tt },
  (
    record { comes = refl; is_alive = up-alive; is_kept = refl; is_choice = tt },
    (
      record { comes = refl; is_alive = up-alive; is_kept = refl; is_choice = tt },
      (
        record { comes = refl; is_alive = up-alive; is_kept = refl; is_choice = tt },
        (
          record { by_transfers = refl; leads = record { is_free = record { is_up = refl; is_calm = refl }; has_turn = refl; is_settled = refl }; is_whole = (refl, refl) },
          (
            record { by_transfers = refl; leads = record { is_free = record { is_up = refl; is_calm = refl }; has_turn = refl; is_settled = refl }; is_next = (refl, ([], refl)); is_within = six_octets },
            (
              record { by_transfers = refl; leads = record { is_free = record { is_up = refl; is_calm = refl }; has_turn = refl; is_settled = refl }; is_due = (refl, refl); is_writable = refl },
              (
                record { by_transfers = refl; leads = record { is_free = record { is_up = refl; is_calm = refl }; has_turn = refl; is_settled = refl }; rests = refl },
                (
                  record { comes = refl; is_alive = recovering-alive; is_kept = refl; is_choice = tt },
                  (
                    record { comes = refl; is_alive = broken-alive; is_kept = refl; is_choice = record { has_it = refl; is_set = search told; is_known = search told } },
                    (
                      record { initiates = refl; is_broken = refl },
                      (
                        tt,
                        run-begun f,
                      ),
                    ),
                  ),
                ),
              ),
            ),
          ),
        ),
      ),
    ),
  ),
)

run-unconfirmed : Happens Reliable unconfirmed
run-unconfirmed f = (record { by_transfers = refl; leads = record { is_free = record { is_up = refl; is_calm = refl }; has_turn = refl; is_settled = refl }; rests = refl }, (record { comes = refl; is_alive = recovering-alive; is_kept = refl; is_choice = tt }, (record { comes = refl; is_alive = broken-alive; is_kept = refl; is_choice = record { has_it = refl; is_set = search told; is_known = search told } }, (record { initiates = refl; is_broken = refl }, (tt, (record { comes = refl; is_alive = up-alive; is_kept = refl; is_choice = tt }, (record { comes = refl; is_alive = up-alive; is_kept = refl; is_choice = tt }, (record { comes = refl; is_alive = up-alive; is_kept = refl; is_choice = tt }, (record { by_transfers = refl; leads = record { is_free = record { is_up = refl; is_calm = refl }; has_turn = refl; is_settled = refl }; is_whole = (refl, refl) }, (record { by_transfers = refl; leads = record { is_free = record { is_up = refl; is_calm = refl }; has_turn = refl; is_settled = refl }; is_next = (refl, ([], refl)); is_within = six_octets }, (record { by_transfers = refl; leads = record { is_free = record { is_up = refl; is_calm = refl }; has_turn = refl; is_settled = refl }; is_next = (refl, (5 ∷ [], refl)); is_within = five_octets }, (record { comes = refl; is_alive = up-alive; is_kept = refl; is_choice = tt }, run-begun f))))))))))))

pub run-completed_resumed : Happens Reliable completed_resumed
run-completed_resumed f = (record { comes = refl; is_alive = up-alive; is_kept = refl; is_choice = tt }, (record { comes = refl; is_alive = up-alive; is_kept = refl; is_choice = tt }, (record { comes = refl; is_alive = up-alive; is_kept = refl; is_choice = tt }, (record { comes = refl; is_alive = up-alive; is_kept = refl; is_choice = tt }, (record { by_transfers = refl; leads = record { is_free = record { is_up = refl; is_calm = refl }; has_turn = refl; is_settled = refl }; is_whole = (refl, refl) }, (record { by_transfers = refl; leads = record { is_free = record { is_up = refl; is_calm = refl }; has_turn = refl; is_settled = refl }; is_next = (refl, ([], refl)); is_within = six_octets }, run-unconfirmed f))))))

pub run-cut_but_arrived : Happens Reliable cut_but_arrived
run-cut_but_arrived f = (record { comes = refl; is_alive = up-alive; is_kept = refl; is_choice = tt }, (record { comes = refl; is_alive = up-alive; is_kept = refl; is_choice = tt }, (record { leads = record { is_free = record { is_up = refl; is_calm = refl }; has_turn = refl; is_settled = refl }; in_mode = tt }, (record { comes = refl; is_alive = up-alive; is_kept = refl; is_choice = tt }, (record { comes = refl; is_alive = up-alive; is_kept = refl; is_choice = tt }, (record { by_transfers = refl; is_free = record { is_up = refl; is_calm = refl }; runs = refl }, (record { comes = refl; is_alive = up-alive; is_kept = refl; is_choice = tt }, run-unconfirmed f)))))))

pub run-late_result : Happens Reliable late_result
run-late_result f = (record { comes = refl; is_alive = up-alive; is_kept = refl; is_choice = tt }, (record { comes = refl; is_alive = up-alive; is_kept = refl; is_choice = tt }, (record { comes = refl; is_alive = up-alive; is_kept = refl; is_choice = tt }, (record { by_transfers = refl; leads = record { is_free = record { is_up = refl; is_calm = refl }; has_turn = refl; is_settled = refl }; is_whole = (refl, refl) }, (record { by_transfers = refl; leads = record { is_free = record { is_up = refl; is_calm = refl }; has_turn = refl; is_settled = refl }; is_next = (refl, ([], refl)); is_within = five_octets }, (record { by_transfers = refl; leads = record { is_free = record { is_up = refl; is_calm = refl }; has_turn = refl; is_settled = refl }; is_due = (refl, refl); is_writable = refl }, (record { by_transfers = refl; leads = record { is_free = record { is_up = refl; is_calm = refl }; has_turn = refl; is_settled = refl }; is_first = refl; has_item = not-nil _ _ }, (record { by_transfers = refl; is_up = refl; may_hand_in = refl }, run-cut_but_arrived f))))))))

pub run-late_error : Happens Reliable late_error
run-late_error f = (record { comes = refl; is_alive = up-alive; is_kept = refl; is_choice = tt }, (record { comes = refl; is_alive = up-alive; is_kept = refl; is_choice = tt }, (record { comes = refl; is_alive = up-alive; is_kept = refl; is_choice = tt }, (record { by_transfers = refl; leads = record { is_free = record { is_up = refl; is_calm = refl }; has_turn = refl; is_settled = refl }; is_whole = (refl, refl) }, (record { by_transfers = refl; leads = record { is_free = record { is_up = refl; is_calm = refl }; has_turn = refl; is_settled = refl }; is_next = (refl, ([], refl)); is_within = five_octets }, (record { by_transfers = refl; leads = record { is_free = record { is_up = refl; is_calm = refl }; has_turn = refl; is_settled = refl }; is_due = (refl, refl); is_writable = refl }, (record { by_transfers = refl; leads = record { is_free = record { is_up = refl; is_calm = refl }; has_turn = refl; is_settled = refl }; is_first = refl; has_item = not-nil _ _ }, (record { by_transfers = refl; is_up = refl; may_hand_in = refl }, run-cut_but_arrived f))))))))

pub run-answered_once : Happens Direct answered_once
run-answered_once f = search told

pub run-wide_opening : Happens Direct wide_opening
run-wide_opening f = search told

pub run-accepted_known : Happens Direct accepted_known
run-accepted_known f = search told

pub run-two_answered : Happens Direct two_answered
run-two_answered f = search told

pub run-four_lost : Happens Direct four_lost
run-four_lost f = (search told, (search told, (search told, (search told, (search told, (search told, (search told, (search told, (search told, (search told, (search told, run-marked_once f)))))))))))

pub run-withdrawn : Happens Reliable withdrawn
run-withdrawn f = (search told, (search told, run-begun f))

pub run-refused_transport : Happens Reliable refused_transport
run-refused_transport f = (search told, (search told, run-begun f))
