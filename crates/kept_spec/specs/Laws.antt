-- The laws of certificates. Each is the contract of a function of this crate.
use Rattle.std.specs.Prelude.{◌≡◌, ◌↔◌, ◌++◌, [], ◌∷◌, ℕ, true, false, List}
use Rattle.asking_spec.specs.Askings.{outcome}
use Rattle.asking_spec.specs.Evaluation.{ends, stopped, evaluated}
use Rattle.asking_spec.specs.Laws.{AgreesOn}
use Rattle.tree_spec.specs.LookAskings.{Sights, LookAsking, look_at_each, footprint}
use Rattle.tree_spec.specs.LookLimits.{LookLimits, Trail, begun, limited}
use Rattle.tree_spec.specs.declared.LimitName.{LimitName}
use Rattle.kept_spec.specs.Certificates.{LookSeen, paths_of, looks_seen, AreSeen, IsShown, IsCertified}
use Rattle.kept_spec.specs.Freshness.{see_same, HasChanged}
use Rattle.kept_spec.specs.Replays.{replayed, IsFront}

-- whatever stands where: the looks of the footprint certify what the asking comes to
abbrev pub OutcomeIsCertified : Type 0 → Type 0
OutcomeIsCertified X =
    (sights : Sights) (asking : LookAsking X)
    → IsCertified asking (outcome sights asking) (looks_seen sights (footprint sights asking))

-- an answer that was given within limits is certified by the looks at the paths of its question
abbrev pub EndIsCertified : Type 0 → Type 0
EndIsCertified X =
    (limits : LookLimits) (sights : Sights) (before : Trail) (asking : LookAsking X) (value : X) (after : Trail)
    (looks : List LookSeen) → evaluated (limited limits sights) (begun before) asking ≡ ends value after
    → paths_of looks ≡ after.question → AreSeen sights looks → IsCertified asking value looks

-- where what was seen stands, the asking goes as looks at these paths do, which come to the value: it ends with the
-- value, or the same limit stops it at the same look, and the trail behind it is the same
abbrev pub CertifiedIsAsked : Type 0 → Type 0
CertifiedIsAsked X =
    (limits : LookLimits) (sights : Sights) (trail : Trail) (asking : LookAsking X) (value : X) (looks : List LookSeen)
    → IsCertified asking value looks → AreSeen sights looks
    → evaluated (limited limits sights) (begun trail) asking
    ≡ evaluated (limited limits sights) (begun trail) (replayed (paths_of looks) value)

-- where something shows these looks, they certify one value
abbrev pub OneCertified : Type 0 → Type 0
OneCertified X =
    (sights : Sights) (asking : LookAsking X) (one other : X) (looks : List LookSeen) → AreSeen sights looks
    → IsCertified asking one looks → IsCertified asking other looks → one ≡ other

-- what was seen before a change is seen behind it exactly where nothing changed at these paths
abbrev pub SeenIfAgreed : Type 0
SeenIfAgreed =
    (before after : Sights) (paths : List (List ℕ))
    → AreSeen after (looks_seen before paths) ↔ AgreesOn before after paths

-- ---- what is fresh behind a change

abbrev pub SameIsSeen : Type 0
SameIsSeen = (sights : Sights) (looks : List LookSeen) → (see_same sights looks ≡ true) ↔ AreSeen sights looks

-- a certified answer whose looks saw what stood there before is the answer afterwards too, or something changed at the
-- asking's footprint
abbrev pub OtherIsChanged : Type 0 → Type 0
OtherIsChanged X =
    (before after : Sights) (asking : LookAsking X) (value : X) (looks : List LookSeen)
    → IsCertified asking value looks → AreSeen before looks → see_same after looks ≡ false
    → HasChanged before after asking

-- and where nothing changed there, they see the same
abbrev pub UnchangedIsSame : Type 0 → Type 0
UnchangedIsSame X =
    (before after : Sights) (asking : LookAsking X) (value : X) (looks : List LookSeen)
    → IsCertified asking value looks → AreSeen before looks → (HasChanged before after asking → ⊥)
    → see_same after looks ≡ true

-- ---- looks at a part of the paths

-- where the first of the looks see the same, the asking looks at their paths and then at the next one's
abbrev pub FrontIsLooked : Type 0 → Type 0
FrontIsLooked X =
    (sights : Sights) (asking : LookAsking X) (value : X) (looks same rest : List LookSeen) (next : LookSeen)
    → IsCertified asking value looks → IsShown looks → looks ≡ same ++ next ∷ rest → AreSeen sights same
    → IsFront (paths_of same ++ next.path ∷ []) (footprint sights asking)

-- an asking ends as it does where its first looks went before it
abbrev pub FrontGoesBefore : Type 0 → Type 0
FrontGoesBefore X =
    (limits : LookLimits) (sights : Sights) (trail after : Trail) (asking : LookAsking X) (front : List (List ℕ))
    → IsFront front (footprint sights asking)
    → evaluated (limited limits sights) (begun trail) (look_at_each front) ≡ ends tt after
    → evaluated (limited limits sights) (begun after) asking ≡ evaluated (limited limits sights) (begun trail) asking

-- a limit that its first looks pass stops it
abbrev pub FrontStops : Type 0 → Type 0
FrontStops X =
    (limits : LookLimits) (sights : Sights) (trail after : Trail) (asking : LookAsking X) (front : List (List ℕ))
    (name : LimitName) → IsFront front (footprint sights asking)
    → evaluated (limited limits sights) (begun trail) (look_at_each front) ≡ stopped name after
    → evaluated (limited limits sights) (begun trail) asking ≡ stopped name after

-- looks at the paths of a question leave the trail behind it
abbrev pub QuestionIsCounted : Type 0 → Type 0
QuestionIsCounted X =
    (limits : LookLimits) (sights : Sights) (before after : Trail) (asking : LookAsking X) (value : X)
    → evaluated (limited limits sights) (begun before) asking ≡ ends value after
    → evaluated (limited limits sights) after (look_at_each after.question) ≡ ends tt after
