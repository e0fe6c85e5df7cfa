-- A target that is judged with an object that answers bare texts.
--     Asks gives Is old new out      the object was asked, one text after another, and with these calls the outcome
--                                    is out
--     Begins gives fails Is old new      memory was wanted on the way: the object was asked for the first of such texts
--     Comes gives fails Is old new result      the one or the other
--     Chooses gives rules target old new out      the calls and the outcome of a whole target
use Rattle.std.specs.Prelude.{◌≡◌, ◌++◌, ℕ, Bool, true, false, List, [], ◌∷◌, Option, Result, Ok, Err, option_map, ◌⊎◌}
use Rattle.node_spec.specs.declared.BareAnswer.{BareAnswer}
use Rattle.node_spec.specs.declared.Outcome.{Outcome}
use Rattle.node_spec.specs.declared.Outcome.TheVariants.{Undefined}
use Rattle.json_spec.specs.Value.{Json}
use Rattle.node_spec.specs.PackageTargets as targets
use Rattle.node_spec.specs.PackageTargets.{Call, Answers, Agrees, bare_outcome, is_tried, ResolvesTarget, ResolvesUnder}
use Rattle.node_spec.specs.Laws.{BeginsWithDotSlash}
use Rattle.node_spec.specs.TargetCalls.{Calls}
use Rattle.condition_match.specs.declared.choice.Rules.{Rules}

pub record Asks {B : Type 0} (gives : B → List ℕ → BareAnswer → B → Type 0) (Is : List Call → Outcome → Type 0)
    (old new : B) (out : Outcome) : Type 0 where
  pub asked : List Call
  pub calls : Calls gives old asked new
  pub is : Is asked out

-- the object as the calls before the next of these left it, or as that next one did, which found no memory
abbrev pub IsLeft : {B : Type 0} → (B → List ℕ → B → Type 0) → B → List Call → B → Type 0
IsLeft fails middle [] new = new ≡ middle
IsLeft fails middle (call ∷ more) new = (new ≡ middle) ⊎ fails middle call.0 new

-- the calls that were made are the first of those by which there is an outcome; `left` says what became of the object
pub record Begins {B : Type 0} (gives : B → List ℕ → BareAnswer → B → Type 0) (fails : B → List ℕ → B → Type 0)
    (Is : List Call → Outcome → Type 0) (old new : B) : Type 0 where
  pub asked : List Call
  pub middle : B
  pub calls : Calls gives old asked middle
  pub more : List Call
  pub out : Outcome
  pub is : Is (asked ++ more) out
  pub left : IsLeft fails middle more new

abbrev pub Comes : {B E : Type 0} → (B → List ℕ → BareAnswer → B → Type 0) → (B → List ℕ → B → Type 0)
    → (List Call → Outcome → Type 0) → B → B → Result Outcome E → Type 0
Comes gives fails Is old new (Ok out) = Asks gives Is old new out
Comes gives fails Is old new (Err fault) = Begins gives fails Is old new

-- one call for this text, unless memory was wanted before it
abbrev pub AsksOne : {B E : Type 0} → (B → List ℕ → BareAnswer → B → Type 0) → (B → List ℕ → B → Type 0) → List ℕ → B
    → B → Result Outcome E → Type 0
AsksOne gives fails text old new (Ok out) =
    (answer : BareAnswer) × gives old text answer new × (out ≡ bare_outcome answer)
AsksOne gives fails text old new (Err fault) = (new ≡ old) ⊎ fails old text new

-- what a target comes to, by the calls that were made: it is its outcome under every map that agrees with them
pub record Chooses {B : Type 0} (gives : B → List ℕ → BareAnswer → B → Type 0) (rules : targets.Rules) (target : Json)
    (old new : B) (out : Outcome) : Type 0 where
  pub asked : List Call
  pub calls : Calls gives old asked new
  pub resolves : ResolvesTarget rules target asked out
  pub under : (answers : Answers) → Agrees answers asked → ResolvesUnder answers rules target out
  pub place : BeginsWithDotSlash out

abbrev pub judged_by : List (List ℕ) → Option (List ℕ) → Bool → targets.Rules
judged_by conditions star imports = record { conditions = conditions; pattern_match = star; is_imports = imports }

abbrev pub rules_of : Rules → targets.Rules
rules_of rules = judged_by rules.conditions.now (option_map (λ text. text.now) rules.star) rules.imports

-- a member of an object: undefined where its key isn't tried
abbrev pub Tries : targets.Rules → List ℕ → Json → List Call → Outcome → Type 0
Tries rules key value asked out =
    ((is_tried rules.conditions key ≡ false) × (asked ≡ []) × (out ≡ Undefined))
    ⊎ ((is_tried rules.conditions key ≡ true) × ResolvesTarget rules value asked out)
