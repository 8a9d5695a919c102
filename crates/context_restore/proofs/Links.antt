-- Chains of linked nodes: what an insertion and a removal leave.
use Rattle.std.proofs.Common.{◌≡◌, ap₂, add-one, length-drop, ℕ, zero, suc, ◌+◌, ◌-◌, ◌<◌, ◌≤◌, Bool, true, false, nat_eq, nat_lt, if◌then◌else◌, List, [], ◌∷◌, length, drop, Option, Some, None, refl, sym, ap, ◌∙◌, subst, arith, eqb-true}
use Rattle.std.proofs.lemmas.Bool.{eqb-false}
use Rattle.std.specs.Prelude.{OnSome}
use Rattle.std.proofs.lemmas.Bool.Decides.{nat_tests}
use Rattle.slab.specs.Slab.{get, slab_len, Updates}
use Rattle.context_sets.specs.Sets.{ContextSet}
use Rattle.context_sets.specs.Alterations.{is_among}
use Rattle.context_restore.specs.declared.node.VersionNode.{VersionNode}
use Rattle.context_restore.specs.Versions.{Version, version, applied, set_of, below}
use Rattle.context_restore.specs.Chain.{Nodes, parent_of, version_of, version_at, back_of, set_back, keys_from, versions_at, IsLinked, AreSame, LeadsBack, IsCut}

-- the links lead through the keys of the chain
pub linked_keys : (nodes : Nodes) (at : Option ℕ) (keys : List ℕ) → IsLinked nodes at keys → keys_from nodes (length keys) at ≡ keys
linked_keys nodes at [] l = refl
linked_keys nodes at (key ∷ keys) l =
    rw (l.is_first, l.is_there) (ap (λ (ks : List ℕ). key ∷ ks) (linked_keys nodes l.node.parent keys l.others))

among_apart : (key other : ℕ) (keys : List ℕ) → is_among key (other ∷ keys) ≡ false → (other ≡ key → ⊥) × (is_among key keys ≡ false)
among_apart key other keys e = go (nat_eq other key) refl
  where
    go : (b : Bool) → nat_eq other key ≡ b → (other ≡ key → ⊥) × (is_among key keys ≡ false)
    go true f = let g : true ≡ false = rw f at e in cc
    go false f = (eqb-false other key f, rw f at e)

-- a change under another key leaves a chain as it is
pub linked_still : (old new : Nodes) (key : ℕ) (slot : Option VersionNode) → Updates old new key slot → (at : Option ℕ) (keys : List ℕ) → is_among key keys ≡ false → IsLinked old at keys → IsLinked new at keys
linked_still old new key slot u at [] a l = l
linked_still old new key slot u at (k ∷ keys) a l =
    let apart = among_apart key k keys a in
    record {
      is_first = l.is_first;
      node = l.node;
      is_there = u.others k apart.0 ∙ l.is_there;
      is_new = l.is_new;
      others = linked_still old new key slot u l.node.parent keys apart.1 l.others;
    }

pub versions_still : (old new : Nodes) (key : ℕ) (slot : Option VersionNode) → Updates old new key slot → (keys : List ℕ) → is_among key keys ≡ false → versions_at new keys ≡ versions_at old keys
versions_still old new key slot u [] a = refl
versions_still old new key slot u (k ∷ keys) a =
    let apart = among_apart key k keys a in
    rw (u.others k apart.0) (ap (λ (vs : List Version). version_at (get old k) ∷ vs) (versions_still old new key slot u keys apart.1))

-- a key without a node isn't in a chain
pub vacant_apart : (nodes : Nodes) (key : ℕ) → get nodes key ≡ None → (at : Option ℕ) (keys : List ℕ) → IsLinked nodes at keys → is_among key keys ≡ false
vacant_apart nodes key v at [] l = refl
vacant_apart nodes key v at (k ∷ keys) l = go (vacant_apart nodes key v l.node.parent keys l.others) (nat_eq k key) refl
  where
    go : is_among key keys ≡ false → (b : Bool) → nat_eq k key ≡ b → is_among key (k ∷ keys) ≡ false
    go ih true e =
        let here : k ≡ key = eqb-true k key e in
        let some : get nodes key ≡ Some l.node = subst (λ i. get nodes i ≡ Some l.node) here l.is_there in
        cc
    go ih false e = rw e ih

-- the same of the nodes themselves
pub same_still : (old new : Nodes) (key : ℕ) (slot : Option VersionNode) → Updates old new key slot → (keys : List ℕ) → is_among key keys ≡ false → AreSame old new keys
same_still old new key slot u [] a = tt
same_still old new key slot u (k ∷ keys) a =
    let apart = among_apart key k keys a in (u.others k apart.0, same_still old new key slot u keys apart.1)

pub same_before : (first old new : Nodes) (keys : List ℕ) → AreSame first old keys → AreSame old new keys → AreSame first new keys
same_before first old new [] a b = tt
same_before first old new (key ∷ keys) a b = (b.0 ∙ a.0, same_before first old new keys a.1 b.1)

pub same_versions : (old new : Nodes) (keys : List ℕ) → AreSame old new keys → versions_at new keys ≡ versions_at old keys
same_versions old new [] s = refl
same_versions old new (key ∷ keys) s =
    ap₂ (λ (o : Option VersionNode) (vs : List Version). version_at o ∷ vs) s.0 (same_versions old new keys s.1)

pub same_all : (old new : Nodes) → ((key : ℕ) → get new key ≡ get old key) → (keys : List ℕ) → AreSame old new keys
same_all old new h [] = tt
same_all old new h (key ∷ keys) = (h key, same_all old new h keys)

-- the same nodes lead back as before
pub same_back : (old new : Nodes) (keys : List ℕ) → AreSame old new keys → LeadsBack old keys → LeadsBack new keys
same_back old new [] s b = tt
same_back old new (key ∷ []) s b = tt
same_back old new (key ∷ next ∷ keys) s b = (
  ap back_of s.0 ∙ b.0
      ∙ ap₂ version (ap set_of (sym (same_versions old new (key ∷ next ∷ keys) s))) (ap set_of (sym (same_versions old new (next ∷ keys) s.1))),
  same_back old new (next ∷ keys) s.1 b.1,
)

pub back-drop : (nodes : Nodes) (count : ℕ) (keys : List ℕ) → LeadsBack nodes keys → LeadsBack nodes (drop count keys)
back-drop nodes zero keys b = b
back-drop nodes (suc count) [] b = tt
back-drop nodes (suc count) (key ∷ []) b = none_left count
  where
    none_left : (count : ℕ) → LeadsBack nodes (drop count [])
    none_left zero = tt
    none_left (suc count) = tt
back-drop nodes (suc count) (key ∷ next ∷ keys) b = back-drop nodes count (next ∷ keys) b.1

-- one node more, whose parent was the newest
pub linked_more : (old new : Nodes) (key : ℕ) (node : VersionNode) (keys : List ℕ) → IsLinked old node.parent keys → get old key ≡ None → Updates old new key (Some node) → IsLinked new (Some key) (key ∷ keys)
linked_more old new key node keys l v u =
    let apart = vacant_apart old key v node.parent keys l in
    record {
      is_first = refl;
      node = node;
      is_there = u.changed;
      is_new = apart;
      others = linked_still old new key (Some node) u node.parent keys apart l;
    }

pub versions_more : (old new : Nodes) (key : ℕ) (node : VersionNode) (keys : List ℕ) → IsLinked old node.parent keys → get old key ≡ None → Updates old new key (Some node) → versions_at new (key ∷ keys) ≡ version_of node ∷ versions_at old keys
versions_more old new key node keys l v u =
    rw u.changed (ap (λ (vs : List Version). version_of node ∷ vs) (versions_still old new key (Some node) u keys (vacant_apart old key v node.parent keys l)))

pub length-versions_at : (nodes : Nodes) (keys : List ℕ) → length (versions_at nodes keys) ≡ length keys
length-versions_at nodes [] = refl
length-versions_at nodes (key ∷ keys) = ap (λ n. suc n) (length-versions_at nodes keys)

-- the versions below a number are those of the last keys
pub below-versions_at : (nodes : Nodes) (n : ℕ) (keys : List ℕ) → below n (versions_at nodes keys) ≡ versions_at nodes (drop (length keys - n) keys)
below-versions_at nodes n [] = drop_none (0 - n)
  where
    drop_none : (count : ℕ) → [] ≡ versions_at nodes (drop count [])
    drop_none zero = refl
    drop_none (suc count) = refl
below-versions_at nodes n (key ∷ keys) = go (below-versions_at nodes n keys) (nat_lt (length (versions_at nodes keys)) n) refl
  where
    len : length (versions_at nodes keys) ≡ length keys
    len = length-versions_at nodes keys

    go : below n (versions_at nodes keys) ≡ versions_at nodes (drop (length keys - n) keys) → (b : Bool) → nat_lt (length (versions_at nodes keys)) n ≡ b → below n (versions_at nodes (key ∷ keys)) ≡ versions_at nodes (drop (length (key ∷ keys) - n) (key ∷ keys))
    go ih true e =
        let l = len in
        let zero_left : length (key ∷ keys) - n ≡ 0 = grind (arith, nat_tests) in
        rw (e, zero_left) refl
    go ih false e =
        let l = len in
        let one_more : length (key ∷ keys) - n ≡ suc (length keys - n) = grind (arith, nat_tests) in
        rw (e, one_more) ih

-- the newest of the keys that are left goes
less : (first old new : Nodes) (at at' : Option ℕ) (key count : ℕ) (rest : List ℕ) → IsCut first old at rest count → at ≡ Some key
    → at' ≡ parent_of (get old key) → Updates old new key None → OnSome (get old key) (slab_len new + 1 ≡ slab_len old)
    → 0 < length rest → IsCut first new at' (drop 1 rest) (count + 1)
less first old new at at' key count [] cut is parent u len some = absurd (omega (arith, some))
less first old new at at' key count (k ∷ rest) cut is parent u len some =
    let l = cut.linked in
    let here : k ≡ key = (let e : Some k ≡ Some key = sym l.is_first ∙ is in cc) in
    let there : get old key ≡ Some l.node = subst (λ i. get old i ≡ Some l.node) here l.is_there in
    let new_one : is_among key rest ≡ false = subst (λ i. is_among i rest ≡ false) here l.is_new in
    let one : slab_len new + 1 ≡ slab_len old = subst (λ (o : Option VersionNode). OnSome o (slab_len new + 1 ≡ slab_len old)) there len in
    let before = cut.len in
    record {
      linked = subst (λ (x : Option ℕ). IsLinked new x rest) (sym (parent ∙ ap parent_of there)) (linked_still old new key None u l.node.parent rest new_one l.others);
      same = same_before first old new rest cut.same.1 (same_still old new key None u rest new_one);
      len = omega (arith, one, before);
    }

-- one key more of those that are dropped
pub drop-next : (place : ℕ) (keys : List ℕ) → drop 1 (drop place keys) ≡ drop (place + 1) keys
drop-next place keys = rw (add-one) (go place keys)
  where
    go : (place : ℕ) (keys : List ℕ) → drop 1 (drop place keys) ≡ drop (suc place) keys
    go zero keys = refl
    go (suc place) [] = refl
    go (suc place) (key ∷ keys) = go place keys

pub drop_step : (first old new : Nodes) (at at' : Option ℕ) (key place count : ℕ) (keys : List ℕ) → IsCut first old at (drop place keys) place → at ≡ Some key
    → at' ≡ parent_of (get old key) → Updates old new key None → OnSome (get old key) (slab_len new + 1 ≡ slab_len old)
    → place < count → count ≤ length keys → IsCut first new at' (drop (place + 1) keys) (place + 1)
drop_step first old new at at' key place count keys cut is parent u len h k =
    let left : length (drop place keys) ≡ length keys - place = length-drop place keys in
    subst (λ (ks : List ℕ). IsCut first new at' ks (place + 1)) (drop-next place keys)
    (less first old new at at' key place (drop place keys) cut is parent u len (omega (arith, h, k, left)))

-- where no link is left no key is
pub none_left : (first old : Nodes) (at : Option ℕ) (place count : ℕ) (keys : List ℕ) → IsCut first old at (drop place keys) place → at ≡ None
    → place < count → count ≤ length keys → ⊥
none_left first old at place count keys cut none h k =
    let left : length (drop place keys) ≡ length keys - place = length-drop place keys in
    go (drop place keys) cut.linked (omega (arith, h, k, left))
  where
    go : (rest : List ℕ) → IsLinked old at rest → 0 < length rest → ⊥
    go [] l some = omega (arith, some)
    go (key ∷ rest) l some = let e : Some key ≡ None = sym l.is_first ∙ none in cc

-- nothing was dropped yet
pub no_cut : (nodes : Nodes) (at : Option ℕ) (keys : List ℕ) → IsLinked nodes at keys → IsCut nodes nodes at keys 0
no_cut nodes at keys l = record { linked = l; same = same_all nodes nodes (λ key. refl) keys; len = omega arith }

-- one link more was followed back
pub back_step : (nodes : Nodes) (total step key : ℕ) (at at' : Option ℕ) (set set' all : ContextSet) → step < total → at ≡ Some key
    → at' ≡ parent_of (get nodes key) → set' ≡ applied (back_of (get nodes key)) set → set_back nodes (total - step) at set ≡ all
    → set_back nodes (total - (step + 1)) at' set' ≡ all
back_step nodes total step key at at' set set' all h is parent back so =
    let left : total - step ≡ suc (total - (step + 1)) = omega (arith, h) in
    ap₂ (λ (a : Option ℕ) (s : ContextSet). set_back nodes (total - (step + 1)) a s) parent back
    ∙ sym (ap₂ (λ (n : ℕ) (a : Option ℕ). set_back nodes n a set) left is)
    ∙ so

-- no link is left to follow
pub back_end : (nodes : Nodes) (count : ℕ) (at : Option ℕ) (set all : ContextSet) → at ≡ None → set_back nodes count at set ≡ all → set ≡ all
back_end nodes count at set all none so = here count ∙ ap (λ (a : Option ℕ). set_back nodes count a set) (sym none) ∙ so
  where
    here : (count : ℕ) → set ≡ set_back nodes count None set
    here zero = refl
    here (suc count) = refl

-- the same nodes under the same keys
pub linked_same : (old new : Nodes) → ((key : ℕ) → get new key ≡ get old key) → (at : Option ℕ) (keys : List ℕ) → IsLinked old at keys → IsLinked new at keys
linked_same old new h at [] l = l
linked_same old new h at (k ∷ keys) l =
    record { is_first = l.is_first; node = l.node; is_there = h k ∙ l.is_there; is_new = l.is_new; others = linked_same old new h l.node.parent keys l.others }

pub versions_same : (old new : Nodes) → ((key : ℕ) → get new key ≡ get old key) → (keys : List ℕ) → versions_at new keys ≡ versions_at old keys
versions_same old new h [] = refl
versions_same old new h (k ∷ keys) = ap₂ (λ (o : Option VersionNode) (vs : List Version). version_at o ∷ vs) (h k) (versions_same old new h keys)

length_step : (n : ℕ) (version : Version) (versions : List Version) → n ≤ length (version ∷ versions) → (n ≤ length versions → length (below n versions) ≡ n) → (b : Bool) → nat_lt (length versions) n ≡ b → length (if b then version ∷ versions else below n versions) ≡ n
length_step n version versions h ih true e = grind (arith, nat_tests)
length_step n version versions h ih false e = ih (grind (arith, nat_tests))

pub length-below : (n : ℕ) (versions : List Version) → n ≤ length versions → length (below n versions) ≡ n
length-below n [] h = omega arith
length-below n (version ∷ versions) h = length_step n version versions h (length-below n versions) (nat_lt (length versions) n) refl
