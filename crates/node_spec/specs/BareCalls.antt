-- The bare texts that a target asks for, in their order, each with its answer.
--     Alike calls others      both have the same answers for as long as they ask for the same texts
--     IsSame calls others out other      the calls and the outcomes are the same
--     answers_of calls      the answers
--     Tells answer calls      each call has the answer that a function gives its text
--     TellsBehind answer before calls      each call has the answer that is given behind the calls before it
--     IsDecided calls out      only the last call may have decided the outcome
use Rattle.std.specs.Prelude.{◌≡◌, ◌≢◌, ℕ, List, [], ◌∷◌, ◌++◌, map, All, ⊤}
use Rattle.node_spec.specs.PackageTargets.{Call}
use Rattle.node_spec.specs.declared.BareAnswer.{BareAnswer}
use Rattle.node_spec.specs.declared.BareAnswer.TheVariants as bare_answer
use Rattle.node_spec.specs.declared.Outcome.{Outcome}
use Rattle.node_spec.specs.declared.Outcome.TheVariants.{Bare, Stopped}

-- two lists of calls with the same answers, for as long as they ask for the same texts
abbrev pub Alike : List Call → List Call → Type 0
Alike [] b = ⊤
Alike (x ∷ a) [] = ⊤
Alike (x ∷ a) (y ∷ b) = x.0 ≡ y.0 → (x.1 ≡ y.1) × Alike a b

-- own: the calls and the outcomes are the same
pub record IsSame (a b : List Call) (x y : Outcome) : Type 0 where
  pub calls : a ≡ b
  pub outcome : x ≡ y

abbrev pub answers_of : List Call → List BareAnswer
answers_of asked = map (λ (call : Call). call.1) asked

-- each call has the answer that the function gives its text
abbrev pub Tells : (List ℕ → BareAnswer) → List Call → Type 0
Tells answer [] = ⊤
Tells answer (call ∷ more) = (call.1 ≡ answer call.0) × Tells answer more

-- an answer for each text, behind the calls so far
abbrev pub AnswersBehind : Type 0
AnswersBehind = List Call → List ℕ → BareAnswer

abbrev pub TellsBehind : AnswersBehind → List Call → List Call → Type 0
TellsBehind answer before [] = ⊤
TellsBehind answer before (call ∷ more) =
    (call.1 ≡ answer before call.0) × TellsBehind answer (before ++ call ∷ []) more

-- own: a call that names a target that isn't well formed, so that a list goes on behind it
abbrev pub WasInvalid : Call → Type 0
WasInvalid call = call.1 ≡ bare_answer.InvalidTarget

-- own: the calls before the last one were all answered so. The last one has the URL, or the refusal, or the outcome is
-- the target's own
pub data IsDecided : List Call → Outcome → Type 0 where
  by_found :
      (before : List Call) (text : List ℕ) → All WasInvalid before
      → IsDecided (before ++ (text, bare_answer.Found) ∷ []) Bare
  by_stop :
      (before : List Call) (text : List ℕ) → All WasInvalid before
      → IsDecided (before ++ (text, bare_answer.Stop) ∷ []) Stopped
  by_target :
      (asked : List Call) (out : Outcome) → All WasInvalid asked → out ≢ Bare → out ≢ Stopped → IsDecided asked out
