-- What steps of one end make of both histories.
use Rattle.std.proofs.Common.{◌≡◌, refl, ◌∙◌, sym, ap, List, [], ◌∷◌, ◌++◌}
use Rattle.osi_base.specs.declared.layer_words.Side.{Side}
use Rattle.osi_base.specs.declared.layer_words.Side.TheVariants.{A, B}
use Rattle.end_model.specs.end_rules.Base.{Base}
use Rattle.end_model.specs.end_rules.State.{Body}
use Rattle.end_model.specs.end_rules.History.{Step, History, body_of, after_step}
use Rattle.end_model.specs.end_rules.World.{World, base_at, body_at, history_of, Shared, shared_after, shared_at}
use Rattle.dialogue.specs.Sides.{other as other_side}
use Rattle.agreement.specs.Sets.{Role, other}
use Rattle.agreement.specs.Sets.Role.{Initiator, Responder}
use Rattle.end_model.specs.BothEnds as both_ends
use Rattle.end_model.specs.BothEnds.{Common}
use Rattle.end_model.specs.Sharing.{side_of}
use Rattle.association_line.specs.Line.{End, after, after_all, end_of, going_on}
use Rattle.association_runs.specs.Worlds.{stepping}
use Rattle.association_runs.specs.Sides.{ends_for}

-- ---- histories

pub own-history : (role : Role) (w : World) (xs : List Step) → history_of (side_of role) (stepping (side_of role) w xs) ≡ going_on (history_of (side_of role) w) xs
own-history role w [] = refl
own-history Initiator w (x ∷ xs) = own-history Initiator (record { side = A; step = x } ∷ w) xs
own-history Responder w (x ∷ xs) = own-history Responder (record { side = B; step = x } ∷ w) xs

pub peer-history : (role : Role) (w : World) (xs : List Step) → history_of (side_of (other role)) (stepping (side_of role) w xs) ≡ history_of (side_of (other role)) w
peer-history role w [] = refl
peer-history Initiator w (x ∷ xs) = peer-history Initiator (record { side = A; step = x } ∷ w) xs
peer-history Responder w (x ∷ xs) = peer-history Responder (record { side = B; step = x } ∷ w) xs

pub end-going : (base : Base) (h : History) (xs : List Step) → end_of base (going_on h xs) ≡ after_all base (end_of base h) xs
end-going base h [] = refl
end-going base h (x ∷ xs) = end-going base (x ∷ h) xs

pub all-append : (base : Base) (e : End) (xs ys : List Step) → after_all base e (xs ++ ys) ≡ after_all base (after_all base e xs) ys
all-append base e [] ys = refl
all-append base e (x ∷ xs) ys = all-append base (after base e x) xs ys

pub stepping-append : (side : Side) (w : World) (xs ys : List Step) → stepping side w (xs ++ ys) ≡ stepping side (stepping side w xs) ys
stepping-append side w [] ys = refl
stepping-append side w (x ∷ xs) ys = stepping-append side (record { side = side; step = x } ∷ w) xs ys

-- ---- two ends of these roles

-- what the moments say of the end of this role
abbrev pub end_for : Common → Role → World → End
end_for common role w = end_of (both_ends.base_at role common) (history_of (side_of role) w)

pub base-for : (common : Common) (role : Role) → base_at (ends_for common) (side_of role) ≡ both_ends.base_at role common
base-for common Initiator = refl
base-for common Responder = refl

pub other-side : (role : Role) → side_of (other role) ≡ other_side (side_of role)
other-side Initiator = refl
other-side Responder = refl

pub other-other : (role : Role) → other (other role) ≡ role
other-other Initiator = refl
other-other Responder = refl

pub own-end : (common : Common) (role : Role) (w : World) (xs : List Step) → end_for common role (stepping (side_of role) w xs) ≡ after_all (both_ends.base_at role common) (end_for common role w) xs
own-end common role w xs =
    ap (end_of (both_ends.base_at role common)) (own-history role w xs) ∙ end-going (both_ends.base_at role common) (history_of (side_of role) w) xs

pub peer-end : (common : Common) (role : Role) (w : World) (xs : List Step) → end_for common (other role) (stepping (side_of role) w xs) ≡ end_for common (other role) w
peer-end common role w xs = ap (end_of (both_ends.base_at (other role) common)) (peer-history role w xs)

pub body-is : (base : Base) (h : History) → (end_of base h).body ≡ body_of base h
body-is base [] = refl
body-is base (x ∷ h) = ap (λ (b : Body). after_step base b x) (body-is base h)

pub body-for : (common : Common) (role : Role) (w : World) → body_at (ends_for common) (side_of role) w ≡ (end_for common role w).body
body-for common Initiator w = sym (body-is (both_ends.base_at Initiator common) (history_of A w))
body-for common Responder w = sym (body-is (both_ends.base_at Responder common) (history_of B w))

-- ---- the shared set

abbrev pub shared_on : Base → Side → Shared → List Step → Shared
shared_on base side shared [] = shared
shared_on base side shared (x ∷ xs) = shared_on base side (shared_after base side x shared) xs

pub shared-stepping : (common : Common) (role : Role) (w : World) (xs : List Step) → shared_at (ends_for common) (stepping (side_of role) w xs) ≡ shared_on (both_ends.base_at role common) (side_of role) (shared_at (ends_for common) w) xs
shared-stepping common role w [] = refl
shared-stepping common Initiator w (x ∷ xs) = shared-stepping common Initiator (record { side = A; step = x } ∷ w) xs
shared-stepping common Responder w (x ∷ xs) = shared-stepping common Responder (record { side = B; step = x } ∷ w) xs
