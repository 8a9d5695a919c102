-- All that one end holds, as the rules of one end see it; and what these rules stand on.
use Rattle.association_reading.specs.end_rules.Base.{Base, base_of}
use Rattle.association_reading.specs.end_rules.State as rules
use Rattle.association_reading.specs.Transfers.{association_spellings}
use Rattle.association_pieces.specs.Link.{seen_link}
use Rattle.association_pieces.specs.Sending.{seen_sending}
use Rattle.association_pieces.specs.Seen.{seen_sets, seen_receiving}
use Rattle.association_state.specs.declared.basis.Basis.{Basis}
use Rattle.association_state.specs.declared.body.Body.{Body}

abbrev pub base_in : Basis → Base
base_in basis = base_of basis.tables.now basis.config (association_spellings basis.tables.now)

abbrev pub seen : Body → rules.Body
seen body =
    record {
      link = seen_link body.link;
      sets = seen_sets body.sets;
      saved = body.saved;
      calls = body.calls;
      sending = seen_sending body.sending;
      receiving = seen_receiving body.receiving;
    }
