use Rattle.end_model.proofs.Requests.{mark-acts, give-acts, give_all-acts, please-acts, please_with-acts, restart-acts, interrupt-acts, discard-acts, resume-acts, release-acts, release_in_turn-acts}
use Rattle.end_model.proofs.acting.calls_act.Goals as goal

pub returns : goal.returns
returns c =
    record {
      rows = record {
        mark = mark-acts;
        give = give-acts;
        give_all = give_all-acts;
        please = please-acts;
        please_with = please_with-acts;
        restart = restart-acts;
        interrupt = interrupt-acts;
        discard = discard-acts;
        resume = resume-acts;
        release = release-acts;
        release_in_turn = release_in_turn-acts;
      };
    }
