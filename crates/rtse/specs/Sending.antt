-- What an end gives of a transfer (X.228 7.3, 8.2): chunks, each but the last with a mark behind it, and the end.
use Rattle.std.specs.Prelude.{◌≡◌, ℕ, ◌+◌, ◌-◌, ◌*◌, ◌<◌, ◌≤◌, ◌==◌, ◌||◌, nat_le, Bool, true, false, List, length, take, drop, if◌then◌else◌, IsTrue, ◌≢◌}
use Rattle.osi_base.specs.Limits.{most_transferred, last_serial, most_checkpoint, most_window, checkpoint_unit}
use Rattle.rtse.specs.declared.outgoing.Step.{Step}
use Rattle.rtse.specs.declared.outgoing.Step.TheVariants.{Chunk, Mark, End, Wait}

-- a transfer as its sender has it: how many chunks were given, whether what stands behind the last of them is still due, and the highest mark that is confirmed
pub record Sending : Type 0 where
  pub number : ℕ
  pub octets : List ℕ
  pub checkpoint : ℕ
  pub window : ℕ
  pub chunks : ℕ
  pub due : Bool
  pub confirmed : ℕ

-- how many octets a chunk has: the checkpoint in units of 1,024 octets, or all where the checkpoint is 0
abbrev pub size_of : Sending → ℕ
size_of s = if s.checkpoint == 0 then length s.octets else s.checkpoint * checkpoint_unit

-- Is this chunk, counted from 1, the last?
abbrev pub is_last : Sending → ℕ → Bool
is_last s n = nat_le (length s.octets) (n * size_of s)

-- the mark behind this chunk, or the end behind the last
abbrev pub behind : Sending → ℕ → Step
behind s n = if is_last s n then End n else Mark n

-- the chunk behind so many
abbrev pub chunk_behind : Sending → ℕ → Step
chunk_behind s n = Chunk (take (size_of s) (drop (n * size_of s) s.octets))

-- how many chunks have their mark or their end behind them
abbrev pub closed : Sending → ℕ
closed s = if s.due then s.chunks - 1 else s.chunks

-- the end was given
abbrev pub is_ended : Sending → Bool
is_ended s = is_last s (closed s)

-- the highest mark that was given, 0 if none was
abbrev pub marks_given : Sending → ℕ
marks_given s = if is_ended s then closed s - 1 else closed s

-- nothing may be given: as many marks as the window are unconfirmed, or the end was given
abbrev pub waits : Sending → Bool
waits s = is_ended s || nat_le (s.confirmed + s.window) (marks_given s)

-- what is given next
abbrev pub step_of : Sending → Step
step_of s = if waits s then Wait else if s.due then behind s s.chunks else chunk_behind s s.chunks

-- the transfer after that
abbrev pub stepped : Sending → Sending
stepped s =
    if waits s then s else
    if s.due then record s { due = false } else record s { chunks = s.chunks + 1; due = true }

-- the transfer from its first octet on
abbrev pub started : ℕ → List ℕ → ℕ → ℕ → Sending
started number octets checkpoint window =
    record { number = number; octets = octets; checkpoint = checkpoint; window = window; chunks = 0; due = false; confirmed = 0 }

-- the transfer from its highest confirmed mark on
abbrev pub resumed : Sending → Sending
resumed s = record s { chunks = s.confirmed; due = false }

-- a mark may be confirmed: it is the lowest that was given and isn't confirmed yet
abbrev pub IsNext : Sending → ℕ → Type 0
IsNext s n = (n ≡ s.confirmed + 1) × (n ≤ marks_given s)

-- what may be sent as a transfer
pub record MayStart (number : ℕ) (octets : List ℕ) (checkpoint window : ℕ) : Type 0 where
  pub numbered : (1 ≤ number) × (number ≤ last_serial)
  pub some : 1 ≤ length octets
  pub within : length octets ≤ most_transferred
  pub checkpoint_within : checkpoint ≤ most_checkpoint
  pub window_within : (1 ≤ window) × (window ≤ most_window)

-- what is true of every transfer that is sent
pub record IsSoundSending (s : Sending) : Type 0 where
  pub may : MayStart s.number s.octets s.checkpoint s.window
  pub before_end : s.chunks ≢ 0 → (s.chunks - 1) * size_of s < length s.octets
  pub few : s.chunks ≤ most_transferred
  pub some_due : IsTrue s.due → 1 ≤ s.chunks
  pub given : s.confirmed ≤ marks_given s
