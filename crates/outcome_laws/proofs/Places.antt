-- What two ends reach with their exchanges is what they reach, and what was sent is met in its place or on its way.
use Rattle.std.proofs.Common.{◌≡◌, refl, ◌∙◌, sym, ap, List, [], ◌∷◌, ◌++◌}
use Rattle.std.proofs.lemmas.List.{append-nil, append_assoc}
use Rattle.end_model.specs.end_rules.Messages.{Message}
use Rattle.agreement.specs.Sets.{Role}
use Rattle.agreement.specs.Sets.Role.{Initiator, Responder}
use Rattle.end_model.specs.BothEnds.{Common, Two, coming_to}
use Rattle.reliable_model.specs.Ledgers.{Ledger, ReachedWithLedger, begins as reached_begin, calls as reached_call, acts as reached_act, takes as reached_take}
use Rattle.reliable_model.specs.Ledgers.{passes as reached_pass, fails as reached_fail, breaks as reached_break}
use Rattle.outcome_laws.specs.Exchanges.{Exchanges, exchange_of, ReachedWithExchanges, begins, calls, acts, takes, passes, fails, breaks, ExchangesAreReached, HasExchanges, AllHaveExchanges}
use Rattle.outcome_laws.specs.Exchanges.{EachMetOrComing}

pub exchanges-reached : ExchangesAreReached
exchanges-reached common two ledger exchanges begins = reached_begin
exchanges-reached common two ledger exchanges (calls x l d role call answer reached h) = reached_call x l role call answer (exchanges-reached common x l d reached) h
exchanges-reached common two ledger exchanges (acts x l d role own reached h) = reached_act x l role own (exchanges-reached common x l d reached) h
exchanges-reached common two ledger exchanges (takes x l d role message left body answers shown reached comes h) = reached_take x l role message left body answers shown (exchanges-reached common x l d reached) comes h
exchanges-reached common two ledger exchanges (passes x l d role message left reached comes h) = reached_pass x l role message left (exchanges-reached common x l d reached) comes h
exchanges-reached common two ledger exchanges (fails x l d role message left fault body aborts shown reached comes h) = reached_fail x l role message left fault body aborts shown (exchanges-reached common x l d reached) comes h
exchanges-reached common two ledger exchanges (breaks x l d reached) = reached_break x l (exchanges-reached common x l d reached)

-- whatever two ends reach has exchanges
all-exchange : (common : Common) (two : Two) (ledger : Ledger) → ReachedWithLedger common two ledger → HasExchanges common two ledger
all-exchange common two ledger reached_begin = record { exchanges = _; reached_exchanges = begins }
all-exchange common two ledger (reached_call x l role call answer reached h) = let d = all-exchange common x l reached in record { exchanges = _; reached_exchanges = calls x l d.exchanges role call answer d.reached_exchanges h }
all-exchange common two ledger (reached_act x l role own reached h) = let d = all-exchange common x l reached in record { exchanges = _; reached_exchanges = acts x l d.exchanges role own d.reached_exchanges h }
all-exchange common two ledger (reached_take x l role message left body answers shown reached comes h) = let d = all-exchange common x l reached in record { exchanges = _; reached_exchanges = takes x l d.exchanges role message left body answers shown d.reached_exchanges comes h }
all-exchange common two ledger (reached_pass x l role message left reached comes h) = let d = all-exchange common x l reached in record { exchanges = _; reached_exchanges = passes x l d.exchanges role message left d.reached_exchanges comes h }
all-exchange common two ledger (reached_fail x l role message left fault body aborts shown reached comes h) = let d = all-exchange common x l reached in record { exchanges = _; reached_exchanges = fails x l d.exchanges role message left fault body aborts shown d.reached_exchanges comes h }
all-exchange common two ledger (reached_break x l reached) = let d = all-exchange common x l reached in record { exchanges = _; reached_exchanges = breaks x l d.exchanges d.reached_exchanges }

pub each-exchange : AllHaveExchanges
each-exchange common two ledger reached = all-exchange common two ledger reached

-- more comes
more : (mail met coming sent : List Message) → mail ≡ met ++ coming → mail ++ sent ≡ met ++ (coming ++ sent)
more mail met coming sent e = ap (λ xs. xs ++ sent) e ∙ append_assoc met coming sent

-- the first is met
met-first : (mail met left coming : List Message) (message : Message) → coming ≡ message ∷ left → mail ≡ met ++ coming → mail ≡ (met ++ message ∷ []) ++ left
met-first mail met left coming message c e = e ∙ ap (λ xs. met ++ xs) c ∙ sym (append_assoc met (message ∷ []) left)

-- nothing more comes
still : (mail met coming : List Message) → mail ≡ met ++ coming → mail ≡ met ++ (coming ++ [])
still mail met coming e = e ∙ ap (λ xs. met ++ xs) (sym (append-nil coming))

each : (common : Common) (two : Two) (ledger : Ledger) (exchanges : Exchanges) → ReachedWithExchanges common two ledger exchanges → (role : Role) → (exchange_of role exchanges).mail ≡ (exchange_of role exchanges).met ++ coming_to role two
each common two ledger exchanges begins Initiator = refl
each common two ledger exchanges begins Responder = refl
each common two ledger exchanges (calls x l d Initiator call answer reached h) Initiator = each common x l d reached Initiator
each common two ledger exchanges (calls x l d Initiator call answer reached h) Responder = more d.b.mail d.b.met x.to_b _ (each common x l d reached Responder)
each common two ledger exchanges (calls x l d Responder call answer reached h) Responder = each common x l d reached Responder
each common two ledger exchanges (calls x l d Responder call answer reached h) Initiator = more d.a.mail d.a.met x.to_a _ (each common x l d reached Initiator)
each common two ledger exchanges (acts x l d Initiator own reached h) Initiator = each common x l d reached Initiator
each common two ledger exchanges (acts x l d Initiator own reached h) Responder = more d.b.mail d.b.met x.to_b _ (each common x l d reached Responder)
each common two ledger exchanges (acts x l d Responder own reached h) Responder = each common x l d reached Responder
each common two ledger exchanges (acts x l d Responder own reached h) Initiator = more d.a.mail d.a.met x.to_a _ (each common x l d reached Initiator)
each common two ledger exchanges (takes x l d Initiator message left body answers shown reached comes h) Initiator = met-first d.a.mail d.a.met left x.to_a message comes (each common x l d reached Initiator)
each common two ledger exchanges (takes x l d Initiator message left body answers shown reached comes h) Responder = more d.b.mail d.b.met x.to_b answers (each common x l d reached Responder)
each common two ledger exchanges (takes x l d Responder message left body answers shown reached comes h) Responder = met-first d.b.mail d.b.met left x.to_b message comes (each common x l d reached Responder)
each common two ledger exchanges (takes x l d Responder message left body answers shown reached comes h) Initiator = more d.a.mail d.a.met x.to_a answers (each common x l d reached Initiator)
each common two ledger exchanges (passes x l d Initiator message left reached comes h) Initiator = met-first d.a.mail d.a.met left x.to_a message comes (each common x l d reached Initiator)
each common two ledger exchanges (passes x l d Initiator message left reached comes h) Responder = still d.b.mail d.b.met x.to_b (each common x l d reached Responder)
each common two ledger exchanges (passes x l d Responder message left reached comes h) Responder = met-first d.b.mail d.b.met left x.to_b message comes (each common x l d reached Responder)
each common two ledger exchanges (passes x l d Responder message left reached comes h) Initiator = still d.a.mail d.a.met x.to_a (each common x l d reached Initiator)
each common two ledger exchanges (fails x l d Initiator message left fault body aborts shown reached comes h) Initiator = met-first d.a.mail d.a.met left x.to_a message comes (each common x l d reached Initiator)
each common two ledger exchanges (fails x l d Initiator message left fault body aborts shown reached comes h) Responder = more d.b.mail d.b.met x.to_b aborts (each common x l d reached Responder)
each common two ledger exchanges (fails x l d Responder message left fault body aborts shown reached comes h) Responder = met-first d.b.mail d.b.met left x.to_b message comes (each common x l d reached Responder)
each common two ledger exchanges (fails x l d Responder message left fault body aborts shown reached comes h) Initiator = more d.a.mail d.a.met x.to_a aborts (each common x l d reached Initiator)
each common two ledger exchanges (breaks x l d reached) Initiator = refl
each common two ledger exchanges (breaks x l d reached) Responder = refl

pub each-met : EachMetOrComing
each-met common two ledger exchanges reached role = each common two ledger exchanges reached role
