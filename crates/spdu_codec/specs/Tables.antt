-- Which units stand where, and which parameters are looked at in each (X.225 8.3).
use Rattle.std.specs.Prelude.{ℕ, ◌==◌, List, [], ◌∷◌, Option, Some, None, if◌then◌else◌}
use Rattle.spdu_codec.specs.declared.kind.SpduKind.{SpduKind}
use Rattle.spdu_codec.specs.declared.kind.SpduKind.TheVariants.{Connect, Accept, Refuse, Finish, Disconnect, Abort, AbortAccept, GiveTokens, PleaseTokens, GiveTokensConfirm, GiveTokensAck, TypedData, Data, Mark, MarkAck, Resynchronize, ResynchronizeAck, ActivityStart, ActivityResume, ActivityInterrupt, ActivityInterruptAck, ActivityDiscard, ActivityDiscardAck, ActivityEnd, ActivityEndAck}
use Rattle.spdu_codec.specs.declared.parameters.Slot.{Slot}
use Rattle.spdu_codec.specs.declared.parameters.Slot.TheVariants.{Identifier, ConnectItem, AcceptItem, Linking, CallingReference, CommonReference, Options, Version, Initial, TokenSetting, Requirements, CallingSelector, CalledSelector, ConnectData, ExtendedData, UserData, Transport, RefuseReason, ActivityReason, Tokens, ResyncType, Number, Activity, OldActivity, OldMark}

-- what a table has in the row of a code
abbrev pub row_of : {X : Type 0} → ℕ → List (ℕ × X) → Option X
row_of code [] = None
row_of code (row ∷ rows) = if row.0 == code then Some row.1 else row_of code rows

-- the units that stand alone or first
abbrev pub first_units : List (ℕ × SpduKind)
first_units =
    (13, Connect) ∷ (14, Accept) ∷ (12, Refuse) ∷ (9, Finish) ∷ (10, Disconnect) ∷ (25, Abort) ∷ (26, AbortAccept)
    ∷ (1, GiveTokens) ∷ (2, PleaseTokens) ∷ (21, GiveTokensConfirm) ∷ (22, GiveTokensAck) ∷ (33, TypedData) ∷ []

-- the units that stand second, behind GT or PT
abbrev pub second_units : List (ℕ × SpduKind)
second_units =
    (33, TypedData) ∷ (1, Data) ∷ (49, Mark) ∷ (50, MarkAck) ∷ (53, Resynchronize) ∷ (34, ResynchronizeAck) ∷ (45, ActivityStart) ∷ (29, ActivityResume)
    ∷ (25, ActivityInterrupt) ∷ (26, ActivityInterruptAck) ∷ (57, ActivityDiscard) ∷ (58, ActivityDiscardAck) ∷ (41, ActivityEnd) ∷ (42, ActivityEndAck) ∷ []

-- the parameters that are looked at in a unit; others are passed over
abbrev pub parameters_of : SpduKind → List (ℕ × Slot)
parameters_of Connect = (1, Identifier) ∷ (5, ConnectItem) ∷ (20, Requirements) ∷ (51, CallingSelector) ∷ (52, CalledSelector) ∷ (193, ConnectData) ∷ (194, ExtendedData) ∷ []
parameters_of Accept = (5, AcceptItem) ∷ (20, Requirements) ∷ (193, UserData) ∷ []
parameters_of Refuse = (17, Transport) ∷ (50, RefuseReason) ∷ []
parameters_of Finish = (17, Transport) ∷ (193, UserData) ∷ []
parameters_of Disconnect = (193, UserData) ∷ []
parameters_of Abort = (17, Transport) ∷ (193, UserData) ∷ []
parameters_of AbortAccept = []
parameters_of GiveTokens = (16, Tokens) ∷ []
parameters_of PleaseTokens = (16, Tokens) ∷ (193, UserData) ∷ []
parameters_of GiveTokensConfirm = []
parameters_of GiveTokensAck = []
parameters_of TypedData = []
parameters_of Data = []
parameters_of Mark = (42, Number) ∷ []
parameters_of MarkAck = (42, Number) ∷ []
parameters_of Resynchronize = (27, ResyncType) ∷ (42, Number) ∷ (193, UserData) ∷ []
parameters_of ResynchronizeAck = (42, Number) ∷ (193, UserData) ∷ []
parameters_of ActivityStart = (41, Activity) ∷ []
parameters_of ActivityResume = (33, Linking) ∷ (41, Activity) ∷ []
parameters_of ActivityInterrupt = (50, ActivityReason) ∷ []
parameters_of ActivityInterruptAck = []
parameters_of ActivityDiscard = (50, ActivityReason) ∷ []
parameters_of ActivityDiscardAck = []
parameters_of ActivityEnd = (42, Number) ∷ []
parameters_of ActivityEndAck = (42, Number) ∷ []

-- the parameters that are looked at inside a group
abbrev pub items_of : Slot → Option (List (ℕ × Slot))
items_of Identifier = Some ((10, CallingReference) ∷ (11, CommonReference) ∷ [])
items_of ConnectItem = Some ((19, Options) ∷ (22, Version) ∷ (23, Initial) ∷ (26, TokenSetting) ∷ [])
items_of AcceptItem = Some ((19, Options) ∷ (22, Version) ∷ (23, Initial) ∷ [])
items_of Linking = Some ((41, OldActivity) ∷ (42, OldMark) ∷ [])
items_of _ = None
