-- What an end keeps of the other end's transfers (X.228 7.3, 8.2).
use Rattle.std.specs.Prelude.{◌≡◌, ℕ, ◌+◌, ◌-◌, ◌<◌, ◌≤◌, ◌==◌, ◌&&◌, nat_lt, nat_le, Bool, true, false, List, [], ◌∷◌, ◌++◌, length, take, if◌then◌else◌, Result, Ok, Err, slice_index, ◌⊎◌, ◌^◌}
use Rattle.osi_base.specs.Limits.{most_transferred}
use Rattle.rtse.specs.declared.fault.RtseFault.{RtseFault}
use Rattle.rtse.specs.declared.fault.RtseFault.TheVariants.{WrongNumber, TooLong, NoMemory}
use Rattle.rtse.specs.declared.incoming.Ended.{Ended}
use Rattle.rtse.specs.declared.incoming.Ended.TheVariants.{Whole, Again}

-- The record of the other end's last activity: its number (0 where there was none), the octets that came, how many there were at each mark, the oldest first, and whether the transfer was handed up.
pub record Receiving : Type 0 where
  pub number : ℕ
  pub octets : List ℕ
  pub marks : List ℕ
  pub handed_up : Bool

-- before any activity
abbrev pub nothing : Receiving
nothing = record { number = 0; octets = []; marks = []; handed_up = false }

-- an activity of this number at its start
abbrev pub fresh : ℕ → Receiving
fresh number = record { number = number; octets = []; marks = []; handed_up = false }

-- the highest mark, 0 where there is none
abbrev pub highest : Receiving → ℕ
highest r = length r.marks

-- how many octets there were at this mark, none at 0
abbrev pub octets_at : Receiving → ℕ → ℕ
octets_at r n = if n == 0 then 0 else slice_index r.marks (n - 1)

-- the record cut back to this mark
abbrev pub back_to : ℕ → Receiving → Receiving
back_to n r = record r { octets = take (octets_at r n) r.octets; marks = take n r.marks }

-- An activity starts with the number behind the last one's.
abbrev pub start_taken : ℕ → Receiving → Result Receiving RtseFault
start_taken number r =
    if number == r.number + 1 then Ok (fresh number) else Err (WrongNumber r.number number)

-- The next octets come.
abbrev pub chunked : List ℕ → Receiving → Result Receiving RtseFault
chunked bytes r =
    if nat_le (length r.octets + length bytes) most_transferred
    then Ok (record r { octets = r.octets ++ bytes })
    else Err TooLong

-- A mark comes, which is the next.
abbrev pub marked : ℕ → Receiving → Result Receiving RtseFault
marked n r =
    if n == highest r + 1 then Ok (record r { marks = r.marks ++ length r.octets ∷ [] }) else
    Err (WrongNumber (highest r) n)

-- The last activity is resumed at one of its marks or from nothing, or the next one is resumed from nothing, of which no start came.
abbrev pub resumption_taken : ℕ → ℕ → Receiving → Result Receiving RtseFault
resumption_taken number n r =
    if (number == r.number) && nat_lt 0 number
    then (if nat_le n (highest r) then Ok (back_to n r) else Err (WrongNumber (highest r) n))
    else if (number == r.number + 1) && (n == 0) then Ok (fresh number) else
    Err (WrongNumber r.number number)

-- The end comes, with the number behind the last mark: what is handed up, and the record afterwards.
abbrev pub ended : ℕ → Receiving → Result (Ended × Receiving) RtseFault
ended n r =
    if n == highest r + 1
    then Ok (if r.handed_up then (Again, r) else (Whole r.octets, record r { handed_up = true }))
    else Err (WrongNumber (highest r) n)

-- A call that was refused so: for want of memory, or by this answer.
abbrev pub IsRefused : {A : Type 0} → Result A RtseFault → RtseFault → Type 0
IsRefused answer fault = (fault ≡ NoMemory) ⊎ (answer ≡ Err fault)

-- The activity was discarded: its number stays, and whether it was handed up.
abbrev pub dropped : Receiving → Receiving
dropped r = record r { octets = []; marks = [] }

-- what is true of every record
pub record IsSoundReceiving (r : Receiving) : Type 0 where
  pub within : length r.octets ≤ most_transferred
  pub few : highest r < 2 ^ 32
