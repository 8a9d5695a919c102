use Rattle.rtse_apdus.proofs.TransferLaws.{transfer_is_spelled, spelled_transfer_is_read, written_transfer_is_read}
use Rattle.rtse_apdus.proofs.laws.transfers.Goals as goal

pub returns : goal.returns
returns c = record { spelled = transfer_is_spelled; read = spelled_transfer_is_read; written = written_transfer_is_read }
