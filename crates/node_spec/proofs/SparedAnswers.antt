-- Answers to bare specifiers behind which a resolution may go on to a module.
--     NamesFile sights paths url            a file stands at the path that the URL names, which is one of these
--     IsFine sights paths found             a URL that names a file, or a target that isn't well formed, which a list
--                                           passes over
--     Passes sights asking                  where it comes to a fine answer, it spares what is left out
--     IsFineOut, PassesTarget               the same of a target
use Rattle.std.specs.Prelude.{◌≡◌, ℕ, List, Option, Some, None, Ok, Err, Contains}
use Rattle.asking_spec.specs.Askings.{outcome}
use Rattle.tree_spec.specs.LookAskings.{Sights, LookAsking}
use Rattle.tree_spec.specs.declared.Entry.TheVariants.{Stored}
use Rattle.node_spec.specs.NodeAnswers.{Url, Resolving}
use Rattle.node_spec.specs.PackageTargetResolve.{Found, Came, judge_bare}
use Rattle.node_spec.specs.RelativeResolution.{named_path}
use Rattle.node_spec.specs.declared.BareAnswer.TheVariants as bare_answer
use Rattle.node_spec.specs.declared.Outcome.{Outcome}
use Rattle.node_spec.specs.declared.Outcome.TheVariants.{Undefined, Null, Place, Bare, Stopped, InvalidTarget}
use Rattle.node_spec.specs.declared.Outcome.TheVariants.{InvalidSpecifier, InvalidConfig}
use Rattle.tree_spec.specs.LeftOutFolders.{Spares}

pub record NamesFile (sights : Sights) (paths : List (List ℕ)) (url : Url) : Type 0 where
  pub path : List ℕ
  pub named : named_path url ≡ Some path
  pub is_looked_at : Contains paths path
  pub bytes : List ℕ
  pub stored : sights path ≡ Some (Stored bytes)

abbrev pub IsFine : Sights → List (List ℕ) → Found → Type 0
IsFine sights paths (Ok url) = NamesFile sights paths url
IsFine sights paths (Err refusal) = judge_bare (Err refusal) ≡ bare_answer.InvalidTarget

abbrev pub Passes : Sights → Resolving Url → Type 0
Passes sights asking =
    (later : List (List ℕ)) → IsFine sights later (outcome sights asking) → Spares sights later asking

abbrev pub IsFineLast : Sights → List (List ℕ) → Option Found → Type 0
IsFineLast sights paths None = Unit {0}
IsFineLast sights paths (Some found) = IsFine sights paths found

abbrev pub IsFineOut : Sights → List (List ℕ) → Outcome → Option Found → Type 0
IsFineOut sights paths Undefined last = Unit {0}
IsFineOut sights paths Null last = Unit {0}
IsFineOut sights paths (Place text) last = Unit {0}
IsFineOut sights paths Bare last = IsFineLast sights paths last
IsFineOut sights paths Stopped last = IsFineLast sights paths last
IsFineOut sights paths InvalidTarget last = Unit {0}
IsFineOut sights paths InvalidSpecifier last = Unit {0}
IsFineOut sights paths InvalidConfig last = Unit {0}

abbrev pub PassesTarget : Sights → LookAsking (Came Found) → Type 0
PassesTarget sights asking =
    (later : List (List ℕ)) → IsFineOut sights later (outcome sights asking).out (outcome sights asking).last
    → Spares sights later asking
