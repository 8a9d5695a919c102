-- What a sound chain shows.
use Rattle.std.proofs.Common.{◌≡◌, count_by, is_some, zero, suc, slice_index_or, length-drop, nat_eq, ℕ, ◌+◌, ◌-◌, ◌<◌, ◌≤◌, Bool, true, false, List, [], ◌∷◌, length, drop, Option, Some, None, refl, sym, ap, ap₂, ◌∙◌, subst, arith, ◌⊎◌, inl, inr, eqb-true}
use Rattle.std.proofs.lemmas.Bool.{eqb-false}
use Rattle.slab.specs.Slab.{get, slab_len, Updates}
use Rattle.context_sets.specs.Sets.{ContextSet, IsRising}
use Rattle.context_restore.specs.declared.node.VersionNode.{VersionNode}
use Rattle.context_restore.specs.Versions.{Version, root, version, applied, missing, ids, set_of, below}
use Rattle.context_restore.specs.SavedSets.{marks_of}
use Rattle.context_restore.specs.Chain.{Nodes, parent_of, version_of, back_of, set_back, keys_from, versions_at, version_at, versions, root_node, IsLinked, AreSame, LeadsBack, IsCut, IsSoundChain}
use Rattle.context_restore.proofs.Changes.{applied-version, applied-root, rising-set_of}
use Rattle.context_restore.proofs.Links.{linked_keys, vacant_apart, linked_more, versions_more, length-versions_at, below-versions_at, linked_same, versions_same, same_still, same_versions, same_all, same_back, back-drop}

pub keys-of_linked : (nodes : Nodes) (head : Option ℕ) (keys : List ℕ) → IsLinked nodes head keys → length keys ≡ slab_len nodes → keys_from nodes (slab_len nodes) head ≡ keys
keys-of_linked nodes head keys l e = subst (λ n. keys_from nodes n head ≡ keys) e (linked_keys nodes head keys l)

pub versions-of_linked : (nodes : Nodes) (head : Option ℕ) (keys : List ℕ) → IsLinked nodes head keys → length keys ≡ slab_len nodes → versions nodes head ≡ versions_at nodes keys
versions-of_linked nodes head keys l e = ap (versions_at nodes) (keys-of_linked nodes head keys l e)

pub length-versions : (nodes : Nodes) (head : Option ℕ) (newest : ContextSet) (active : Bool) → IsSoundChain nodes head newest active → length (versions nodes head) ≡ slab_len nodes
length-versions nodes head newest active s =
    ap length (versions-of_linked nodes head s.keys s.linked s.all) ∙ length-versions_at nodes s.keys ∙ s.all

pub newest_set : (nodes : Nodes) (head : Option ℕ) (newest : ContextSet) (active : Bool) → IsSoundChain nodes head newest active → newest ≡ set_of (versions nodes head)
newest_set nodes head newest active s = s.is_newest ∙ ap set_of (sym (versions-of_linked nodes head s.keys s.linked s.all))

-- a version that leads to a set saves it under the next number
pub marks_more : (nodes : List Version) (set : ContextSet) → IsRising set → marks_of (version (set_of nodes) set ∷ nodes) ≡ record { number = length nodes; set = set } ∷ marks_of nodes
marks_more nodes set r =
    ap (λ (x : ContextSet). record { number = length nodes; set = x } ∷ marks_of nodes) (applied-version (set_of nodes) set (rising-set_of nodes) r)

-- what a node made of two sets leads to, and back
made : (newest before set : ContextSet) (node : VersionNode) → newest ≡ before → node.added ≡ missing newest set → node.lost ≡ missing set newest
    → version_of node ≡ version before set
made newest before set node is a b =
    λ i. record { added = (a ∙ ap (λ (x : ContextSet). missing x set) is) i; removed = (ap ids b ∙ ap (λ (x : ContextSet). ids (missing set x)) is) i }

back : (newest before set after : ContextSet) (node : VersionNode) → newest ≡ before → set ≡ after → node.added ≡ missing newest set → node.lost ≡ missing set newest
    → back_of (Some node) ≡ version after before
back newest before set after node is now a b =
    (λ i. record { added = b i; removed = ap ids a i }) ∙ ap₂ version now is

back-more : (old new : Nodes) (newest : ContextSet) (key : ℕ) (node : VersionNode) (set : ContextSet) (keys : List ℕ) → AreSame old new keys → LeadsBack old keys
    → get new key ≡ Some node → newest ≡ set_of (versions_at old keys) → set ≡ set_of (versions_at new (key ∷ keys))
    → node.added ≡ missing newest set → node.lost ≡ missing set newest → LeadsBack new (key ∷ keys)
back-more old new newest key node set [] same leads there is now a b = tt
back-more old new newest key node set (next ∷ keys) same leads there is now a b = (
  ap back_of there
      ∙ back newest (set_of (versions_at new (next ∷ keys))) set (set_of (versions_at new (key ∷ next ∷ keys))) node
      (is ∙ ap set_of (sym (same_versions old new (next ∷ keys) same))) now a b,
  same_back old new (next ∷ keys) same leads,
)

-- a chain with one node more
pub sound_more : (old new : Nodes) (newest : ContextSet) (active : Bool) (key : ℕ) (node : VersionNode) (set : ContextSet) → (s : IsSoundChain old node.parent newest active) → slab_len old ≤ 65536 → get old key ≡ None → Updates old new key (Some node) → slab_len new ≡ slab_len old + 1 → node.added ≡ missing newest set → node.lost ≡ missing set newest → IsRising set → IsSoundChain new (Some key) set active
sound_more old new newest active key node set s few v u len a b r =
    let apart = vacant_apart old key v node.parent s.keys s.linked in
    let newest_now =
    sym (applied-version (set_of (versions_at old s.keys)) set (rising-set_of (versions_at old s.keys)) r)
    ∙ ap set_of (sym (versions_more old new key node s.keys s.linked v u ∙ ap (λ (x : Version). x ∷ versions_at old s.keys) (made newest _ set node s.is_newest a b)))
    in
    record {
      keys = key ∷ s.keys;
      linked = linked_more old new key node s.keys s.linked v u;
      all = (let e = s.all in omega arith);
      few = (let e = s.all in omega arith);
      is_newest = newest_now;
      leads_back = back-more old new newest key node set s.keys (same_still old new key (Some node) u s.keys apart) s.leads_back u.changed s.is_newest newest_now a b;
      rooted = λ _. omega arith;
    }

pub versions-more : (old new : Nodes) (newest : ContextSet) (active : Bool) (key : ℕ) (node : VersionNode) (set : ContextSet) → (s : IsSoundChain old node.parent newest active) → get old key ≡ None → Updates old new key (Some node) → slab_len new ≡ slab_len old + 1 → node.added ≡ missing newest set → node.lost ≡ missing set newest → versions new (Some key) ≡ version (set_of (versions old node.parent)) set ∷ versions old node.parent
versions-more old new newest active key node set s v u len a b =
    versions-of_linked new (Some key) (key ∷ s.keys) (linked_more old new key node s.keys s.linked v u) (let e = s.all in omega arith)
    ∙ versions_more old new key node s.keys s.linked v u
    ∙ subst (λ (vs : List Version). version_of node ∷ vs ≡ version (set_of (versions old node.parent)) set ∷ versions old node.parent) (versions-of_linked old node.parent s.keys s.linked s.all)
    (ap (λ (x : Version). x ∷ versions old node.parent) (made newest _ set node (newest_set old node.parent newest active s) a b))

-- the newest set rises
pub rising_newest : (nodes : Nodes) (head : Option ℕ) (newest : ContextSet) (active : Bool) → IsSoundChain nodes head newest active → IsRising newest
rising_newest nodes head newest active s = subst IsRising (sym s.is_newest) (rising-set_of (versions_at nodes s.keys))

pub sound_same : (old new : Nodes) (head : Option ℕ) (newest : ContextSet) (active : Bool) → new.slots ≡ old.slots → IsSoundChain old head newest active → IsSoundChain new head newest active
sound_same old new head newest active e s =
    let at : (key : ℕ) → get new key ≡ get old key = λ key. ap (λ (x : List (Option VersionNode)). slice_index_or x key None) e in
    let len : slab_len new ≡ slab_len old = ap (λ (x : List (Option VersionNode)). count_by is_some x) e in
    record {
      keys = s.keys;
      linked = linked_same old new at head s.keys s.linked;
      all = s.all ∙ sym len;
      few = s.few;
      is_newest = s.is_newest ∙ ap set_of (sym (versions_same old new at s.keys));
      leads_back = same_back old new s.keys (same_all old new at s.keys) s.leads_back;
      rooted = s.rooted;
    }

pub sound_root : (nodes : Nodes) (added set : ContextSet) (active : Bool) → slab_len nodes ≡ 1 → get nodes 0 ≡ Some (root_node added) → added ≡ set → IsRising set → IsSoundChain nodes (Some 0) set active
sound_root nodes added set active len h e r =
    record {
      keys = 0 ∷ [];
      linked = record { is_first = refl; node = root_node added; is_there = h; is_new = refl; others = refl };
      all = sym len;
      few = omega arith;
      is_newest = sym (ap (λ (o : Option VersionNode). set_of (version_at o ∷ [])) h ∙ ap (λ (x : ContextSet). set_of (root x ∷ [])) e ∙ applied-root set r);
      leads_back = tt;
      rooted = λ _. omega arith;
    }

-- links lead back from a set to that of the node behind them
back_to : (nodes : Nodes) (count : ℕ) (at : Option ℕ) (keys : List ℕ) (set : ContextSet) → IsLinked nodes at keys → LeadsBack nodes keys
    → (count ≡ 0) ⊎ (count < length keys) → set ≡ set_of (versions_at nodes keys) → set_back nodes count at set ≡ set_of (versions_at nodes (drop count keys))
back_to nodes zero at keys set l b h is = is
back_to nodes (suc count) at keys set l b (inl none) is = absurd (omega (arith, none))
back_to nodes (suc count) at [] set l b (inr h) is = absurd (omega (arith, h))
back_to nodes (suc count) at (key ∷ []) set l b (inr h) is = absurd (omega (arith, h))
back_to nodes (suc count) at (key ∷ next ∷ keys) set l b (inr h) is =
    ap (λ (x : Option ℕ). set_back nodes (suc count) x set) l.is_first
    ∙ back_to nodes count (parent_of (get nodes key)) (next ∷ keys) (applied (back_of (get nodes key)) set)
    (subst (λ (x : Option ℕ). IsLinked nodes x (next ∷ keys)) (sym (ap parent_of l.is_there)) l.others)
    b.1 (inr (omega (arith, h)))
    (ap₂ applied b.0 is
    ∙ applied-version (set_of (versions_at nodes (key ∷ next ∷ keys))) (set_of (versions_at nodes (next ∷ keys)))
    (rising-set_of (versions_at nodes (key ∷ next ∷ keys))) (rising-set_of (versions_at nodes (next ∷ keys))))

-- the oldest versions are under the last keys
below-versions : (nodes : Nodes) (head : Option ℕ) (newest : ContextSet) (active : Bool) (count dropped : ℕ) → (s : IsSoundChain nodes head newest active)
    → dropped ≡ slab_len nodes - count → below count (versions nodes head) ≡ versions_at nodes (drop dropped s.keys)
below-versions nodes head newest active count dropped s f =
    ap (below count) (versions-of_linked nodes head s.keys s.linked s.all) ∙ below-versions_at nodes count s.keys
    ∙ ap (λ n. versions_at nodes (drop n s.keys)) (ap (λ n. n - count) s.all ∙ sym f)

fewer : (n keys count dropped : ℕ) → keys ≡ n → dropped ≡ n - count → 0 < count → (dropped ≡ 0 → ⊥) → dropped < keys
fewer n keys count zero all f pos some = absurd (some refl)
fewer n keys count (suc dropped) all f pos some = omega (arith, all, f, pos)

-- the set to which the oldest versions lead
pub set-below : (nodes : Nodes) (head : Option ℕ) (newest : ContextSet) (active : Bool) (count dropped : ℕ) → IsSoundChain nodes head newest active
    → dropped ≡ slab_len nodes - count → 0 < count → set_back nodes dropped head newest ≡ set_of (below count (versions nodes head))
set-below nodes head newest active count dropped s f pos =
    back_to nodes dropped head s.keys newest s.linked s.leads_back (few_dropped (nat_eq dropped 0) refl) s.is_newest
    ∙ ap set_of (sym (below-versions nodes head newest active count dropped s f))
  where
    few_dropped : (b : Bool) → nat_eq dropped 0 ≡ b → (dropped ≡ 0) ⊎ (dropped < length s.keys)
    few_dropped true e = inl (eqb-true dropped 0 e)
    few_dropped false e = inr (fewer (slab_len nodes) (length s.keys) count dropped s.all f pos (eqb-false dropped 0 e))

-- what a cut leaves, and that it is a chain again
module _ (old new : Nodes) (head head' : Option ℕ) (newest newest' : ContextSet) (active : Bool) (count dropped : ℕ) (s : IsSoundChain old head newest active)
    (f : dropped ≡ slab_len old - count) (pos : 0 < count)
    (cut : (keys : List ℕ) → IsLinked old head keys → dropped ≤ length keys → IsCut old new head' (drop dropped keys) dropped) where
  its_cut : IsCut old new head' (drop dropped s.keys) dropped
  its_cut = let all = s.all in cut s.keys s.linked (omega (arith, all, f))

  pub versions-cut : versions new head' ≡ below count (versions old head)
  versions-cut =
      let all = s.all in
      let left : length (drop dropped s.keys) ≡ length s.keys - dropped = length-drop dropped s.keys in
      let len = its_cut.len in
      versions-of_linked new head' (drop dropped s.keys) its_cut.linked (omega (arith, all, left, len))
      ∙ same_versions old new (drop dropped s.keys) its_cut.same ∙ sym (below-versions old head newest active count dropped s f)

  pub sound_cut : newest' ≡ set_of (below count (versions old head)) → IsSoundChain new head' newest' active
  sound_cut is =
      let all = s.all in
      let few = s.few in
      let left : length (drop dropped s.keys) ≡ length s.keys - dropped = length-drop dropped s.keys in
      let len = its_cut.len in
      record {
        keys = drop dropped s.keys;
        linked = its_cut.linked;
        all = omega (arith, all, left, len);
        few = omega (arith, few, left);
        is_newest = is ∙ ap set_of (below-versions old head newest active count dropped s f ∙ sym (same_versions old new (drop dropped s.keys) its_cut.same));
        leads_back = same_back old new (drop dropped s.keys) its_cut.same (back-drop old dropped s.keys s.leads_back);
        rooted = λ a. let r = s.rooted a in omega (arith, r, left, all, f, pos);
      }

pub sound_active : (nodes : Nodes) (head : Option ℕ) (newest : ContextSet) (active : Bool) → IsSoundChain nodes head newest active → 0 < length (versions nodes head) → IsSoundChain nodes head newest true
sound_active nodes head newest active s h =
    let len = length-versions nodes head newest active s in
    let all = s.all in
    record { keys = s.keys; linked = s.linked; all = s.all; few = s.few; is_newest = s.is_newest; leads_back = s.leads_back; rooted = λ _. omega arith }
