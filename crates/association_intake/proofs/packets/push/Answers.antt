use Rattle.std.proofs.Common.{rules}
use Rattle.association_intake.proofs.Placed.{put_behind}
use Rattle.association_intake.proofs.packets.push.Goals as goal

pub returns : goal.returns
returns c = record { put = put_behind c.args.fronts.now.items c.push_back.new.self.items c.args.front c.requires.fronts c.requires.front (search rules) }
