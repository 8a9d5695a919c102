use Rattle.std.proofs.Common.{false, sym, ap, subst, ◌∙◌, ◌∷◌, ◌++◌, [], Some, cond, not}
use Rattle.std.specs.Prelude.{ℤ}
use Rattle.std.specs.Option.{option_map}
use Rattle.std.specs.Ordering.{int_eq}
use Rattle.linked_ops.specs.declared.key.Key.{Key}
use Rattle.linked_ops.specs.Entries.{is_open, is_open_or_none}
use Rattle.rose_roles.specs.declared.invoked_with.InvokedWith.{InvokedWith}
use Rattle.rose_roles.specs.Calls.{Performing, key_of, called, AreOpen, open_calls_in, calls_of}
use Rattle.rose_roles.proofs.Hearings.{not_admitted, admitted}
use Rattle.rose_roles.proofs.Changes.{not_open, opens_peer, their_after, ours_after}
use Rattle.rose_roles.proofs.performer.Performer.admit.Goals as goal

pub returns-then-is_silent_at-clause-admitted : goal.returns-then-is_silent_at-clause-admitted
returns-then-is_silent_at-clause-admitted c = λ base own same.
    not_admitted base c.args.tables.now same (record { own = false; id = c.args.id.now; operation = c.args.place; context = c.args.self.now.context; parent = c.args.linked })
    (calls_of c.args.forest.now own c.args.self.now.kept) (sym c.is_silent_at.ensures ∙ c.if-is_silent_at.true)

pub enter-requires-clause-shut : goal.enter-requires-clause-shut
enter-requires-clause-shut c =
    ap (λ (k : Key). called k.id c.self.inside.kept.entries) c.key_of-key.ensures ∙ ap (λ (p : Performing). called c.args.id.now p.kept) c.self.view_is ∙ c.requires.shut

pub enter-requires-clause-fresh : goal.enter-requires-clause-fresh
enter-requires-clause-fresh c =
    ap (λ (k : Key). is_open k c.args.forest.now) c.key_of-key.ensures ∙ not_open false c.args.id.now c.args.forest.now c.args.self.now.kept c.requires.peer c.requires.shut

pub enter-requires-clause-placed : goal.enter-requires-clause-placed
enter-requires-clause-placed c = ap (λ (k : Key). is_open_or_none (option_map (key_of (not k.own)) c.args.linked) c.args.forest.now) c.key_of-key.ensures ∙ c.requires.linked

pub returns-clause-admitted : goal.returns-clause-admitted
returns-clause-admitted c = λ base own same.
    let fresh = not_open false c.args.id.now c.args.forest.now c.args.self.now.kept c.requires.peer c.requires.shut in
    let x = opens_peer c.args.id.now (record { operation = c.args.place; context = c.self.inside.context }) c.args.linked c.self.inside.kept.entries c.enter.new.kept.entries (λ q. c.in_ok-enter.ensures.updated q ∙ ap (λ (k : Key). cond (int_eq k.id q) (Some (record { operation = c.args.place; context = c.self.inside.context })) (called q c.self.inside.kept.entries)) c.key_of-key.ensures) c.args.forest.now c.enter.new.forest
    (c.in_ok-enter.ensures.forest ∙ ap (λ (k : Key). c.args.forest.now ++ (k, option_map (key_of (not k.own)) c.args.linked) ∷ []) c.key_of-key.ensures) own.kept fresh
    ∙ ap
    (λ (p : Performing). open_calls_in c.args.forest.now own.kept p.kept ++ record { own = false; id = c.args.id.now; operation = c.args.place; context = p.context; parent = c.args.linked } ∷ [])
    c.self.view_is in
    (λ k. record { opens = x k; made = own.made })
    ∙ admitted base c.args.tables.now same (record { own = false; id = c.args.id.now; operation = c.args.place; context = c.args.self.now.context; parent = c.args.linked })
    (calls_of c.args.forest.now own c.args.self.now.kept) (sym c.is_silent_at.ensures ∙ c.if-is_silent_at.false)

pub returns-clause-keeps : goal.returns-clause-keeps
returns-clause-keeps c =
    let call : InvokedWith = record { operation = c.args.place; context = c.self.inside.context } in
    let updated = λ (q : ℤ). c.in_ok-enter.ensures.updated q ∙ ap (λ (k : Key). cond (int_eq k.id q) (Some call) (called q c.self.inside.kept.entries)) c.key_of-key.ensures in
    let opened = c.in_ok-enter.ensures.forest ∙ ap (λ (k : Key). c.args.forest.now ++ (k, option_map (key_of (not k.own)) c.args.linked) ∷ []) c.key_of-key.ensures in
    record {
      context = ap (λ (p : Performing). p.context) c.self.view_is;
      keys =
          record {
            these =
                their_after c.args.id.now call c.args.linked c.self.inside.kept.entries c.enter.new.kept.entries updated c.args.forest.now c.enter.new.forest opened
                (subst (λ (p : Performing). AreOpen false c.args.forest.now p.kept) (sym c.self.view_is) c.requires.peer);
            others = λ own h. ours_after c.args.id.now call c.args.linked c.self.inside.kept.entries c.enter.new.kept.entries updated c.args.forest.now c.enter.new.forest opened own h;
          };
    }
