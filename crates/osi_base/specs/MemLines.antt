-- A line that is held in memory.
use Rattle.std.specs.Prelude.{ℕ, ◌≡◌, ◌+◌, ◌≤◌, List, [], ◌∷◌, min, take, drop}
use Rattle.osi_base.specs.Failing.{CallPasses, CallFails}
use Rattle.osi_base.specs.declared.mem_line.MemLine.{MemLine}

-- what is read next into so much room: what the present peer says from the octets on that were read
abbrev pub due_in : MemLine → ℕ → List ℕ
due_in line room = take (min line.most room) (drop line.octets_read line.peer_octets)

-- what the first of these peers says; where there is none, nothing
abbrev pub next_peer_octets : List (List ℕ) → List ℕ
next_peer_octets [] = []
next_peer_octets (peer_octets ∷ peers) = peer_octets

-- a call was made, whatever it came to: no fault was taken back, and a call reads or writes as many
-- octets at most as before
pub record IsAfterCall (old new : MemLine) : Type 0 where
  pub count : old.failing.faults ≤ new.failing.faults
  pub most : new.most ≡ old.most

-- a call that wasn't to fail began a connection to the next peer
pub record Begins (old new : MemLine) : Type 0 where
  pub passes : CallPasses old.failing new.failing
  pub peer_octets : new.peer_octets ≡ next_peer_octets old.peers.items
  pub others : new.peers.items ≡ drop 1 old.peers.items
  pub none_read : new.octets_read ≡ 0

-- a call that was to fail ended the connection: no peer says anything, and the peers to come are
-- as they were
pub record EndsFailed (old new : MemLine) : Type 0 where
  pub fails : CallFails old.failing new.failing
  pub same_peers : new.peers.items ≡ old.peers.items
  pub no_peer_octets : new.peer_octets ≡ []
  pub none_read : new.octets_read ≡ 0

-- a call that wasn't to fail read so many octets of the present peer
pub record ReadsOn (old new : MemLine) (filled : ℕ) : Type 0 where
  pub passes : CallPasses old.failing new.failing
  pub same_peer_octets : new.peer_octets ≡ old.peer_octets
  pub same_peers : new.peers.items ≡ old.peers.items
  pub read : new.octets_read ≡ old.octets_read + filled

-- a call that was to fail left the connection as it was
pub record KeepsFailed (old new : MemLine) : Type 0 where
  pub fails : CallFails old.failing new.failing
  pub same_peer_octets : new.peer_octets ≡ old.peer_octets
  pub same_peers : new.peers.items ≡ old.peers.items
  pub same_read : new.octets_read ≡ old.octets_read

-- want of memory left all as it was
pub record StaysAsItWas (old new : MemLine) : Type 0 where
  pub same_calls : new.failing ≡ old.failing
  pub same_peer_octets : new.peer_octets ≡ old.peer_octets
  pub same_peers : new.peers.items ≡ old.peers.items
  pub same_read : new.octets_read ≡ old.octets_read
  pub same_log : new.log ≡ old.log
