use Rattle.said_worlds.proofs.Transfers.{reliable-is_said}
use Rattle.said_worlds.proofs.laws.reliable_ends_are_said.Goals as goal

pub returns : goal.returns
returns c =
    record {
      law =
          reliable-is_said
          (record {
            alterations = c.alterations_are_read_back.ensures;
            data_words = c.data_are_read_back.ensures;
            remote = c.remote_is_read_back.ensures;
            association = c.layers_are_read_back.ensures.association;
            associations = c.associations_are_read_back.ensures;
            transfers = c.layers_are_read_back.ensures.transfers;
          });
    }
