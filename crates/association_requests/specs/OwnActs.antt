-- What an end does by itself, as the rules have it.
use Rattle.end_rules.specs.ByItself as rules
use Rattle.association_words.specs.Seen.{seen_message}
use Rattle.association_requests.specs.declared.own_messages.OwnAct.{OwnAct}
use Rattle.association_requests.specs.declared.own_messages.OwnAct.TheVariants.{Sends, Encodes}

abbrev pub seen_act : OwnAct → rules.OwnAct
seen_act (Sends message) = rules.SendsNow (seen_message message)
seen_act (Encodes context) = rules.EncodesOn context
