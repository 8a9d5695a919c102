use Rattle.std.proofs.Common.{pos, ◌+◌, ◌∷◌, ◌++◌, [], Some, cond, not, true, refl, sym, ap, subst, ◌∙◌}
use Rattle.std.specs.Option.{option_map}
use Rattle.std.specs.Ordering.{int_eq}
use Rattle.linked_ops.specs.declared.key.Key.{Key}
use Rattle.linked_ops.specs.Entries.{is_open, is_open_or_none}
use Rattle.rose_roles.specs.Calls.{Invoking, called, key_of, AreOpen, open_calls_in}
use Rattle.rose_roles.proofs.Changes.{shut_by, opens_own, own_after, peer_after}
use Rattle.rose_roles.proofs.invoker.Invoker.open.Goals as goal

pub enter-requires-clause-shut : goal.enter-requires-clause-shut
enter-requires-clause-shut c =
    let e = c.own_key-key.ensures ∙ ap (λ (i : Invoking). key_of true (pos (i.made + 1))) c.self.view_is in
    let x = shut_by true (pos (c.args.self.now.made + 1)) c.args.forest.now c.self.inside.kept.entries (subst (λ (i : Invoking). AreOpen true c.args.forest.now i.kept) (sym c.self.view_is) c.requires.own) c.requires.fresh in
    ap (λ (k : Key). called k.id c.self.inside.kept.entries) e ∙ x

pub enter-requires-clause-fresh : goal.enter-requires-clause-fresh
enter-requires-clause-fresh c =
    let e = c.own_key-key.ensures ∙ ap (λ (i : Invoking). key_of true (pos (i.made + 1))) c.self.view_is in
    ap (λ (k : Key). is_open k c.args.forest.now) e ∙ c.requires.fresh

pub enter-requires-clause-placed : goal.enter-requires-clause-placed
enter-requires-clause-placed c =
    ap (λ (k : Key). is_open_or_none (option_map (key_of (not k.own)) c.args.linked) c.args.forest.now) c.own_key-key.ensures ∙ c.requires.linked

pub returns-clause-opened : goal.returns-clause-opened
returns-clause-opened c = λ performed.
    let e = c.own_key-key.ensures ∙ ap (λ (i : Invoking). key_of true (pos (i.made + 1))) c.self.view_is in
    let x = opens_own (pos (c.args.self.now.made + 1)) c.args.called c.args.linked c.self.inside.kept.entries c.enter.new.kept.entries
    (λ q. c.in_ok-enter.ensures.updated q ∙ ap (λ (k : Key). cond (int_eq k.id q) (Some c.args.called) (called q c.self.inside.kept.entries)) e) c.args.forest.now c.enter.new.forest
    (c.in_ok-enter.ensures.forest ∙ ap (λ (k : Key). c.args.forest.now ++ (k, option_map (key_of (not k.own)) c.args.linked) ∷ []) e) performed _ refl c.requires.fresh
    ∙ ap
    (λ (i : Invoking). open_calls_in c.args.forest.now i.kept performed ++ record { own = true; id = pos (c.args.self.now.made + 1); operation = c.args.called.operation; context = c.args.called.context; parent = c.args.linked } ∷ [])
    c.self.view_is in
    let y = ap (λ (i : Invoking). i.made + 1) c.self.view_is in λ k. record { opens = x k; made = y k }

pub returns-clause-keeps : goal.returns-clause-keeps
returns-clause-keeps c =
    let e = c.own_key-key.ensures ∙ ap (λ (i : Invoking). key_of true (pos (i.made + 1))) c.self.view_is in
    record {
      keys =
          record {
            these =
                own_after (pos (c.args.self.now.made + 1)) c.args.called c.args.linked c.self.inside.kept.entries c.enter.new.kept.entries
                (λ q. c.in_ok-enter.ensures.updated q ∙ ap (λ (k : Key). cond (int_eq k.id q) (Some c.args.called) (called q c.self.inside.kept.entries)) e) c.args.forest.now c.enter.new.forest
                (c.in_ok-enter.ensures.forest ∙ ap (λ (k : Key). c.args.forest.now ++ (k, option_map (key_of (not k.own)) c.args.linked) ∷ []) e)
                (subst (λ (i : Invoking). AreOpen true c.args.forest.now i.kept) (sym c.self.view_is) c.requires.own);
            others = λ performed h.
                peer_after (pos (c.args.self.now.made + 1)) c.args.called c.args.linked c.self.inside.kept.entries c.enter.new.kept.entries
                (λ q. c.in_ok-enter.ensures.updated q ∙ ap (λ (k : Key). cond (int_eq k.id q) (Some c.args.called) (called q c.self.inside.kept.entries)) e) c.args.forest.now c.enter.new.forest
                (c.in_ok-enter.ensures.forest ∙ ap (λ (k : Key). c.args.forest.now ++ (k, option_map (key_of (not k.own)) c.args.linked) ∷ []) e) performed h;
          };
      err = tt;
    }
