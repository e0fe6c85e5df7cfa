-- What a generation looks at.
use Rattle.std.specs.Prelude.{◌≡◌, ◌+◌, ◌++◌, ℕ, Bool, true, false, List, [], ◌∷◌, Option, Result, Ok, Err}
use Rattle.std.specs.Prelude.{if◌then◌else◌}
use Rattle.std.proofs.Common.{refl, sym, ap, ◌∙◌, subst, arith}
use Rattle.asking_spec.specs.Askings.{Asking, answered, ask, questions, through}
use Rattle.asking_spec.specs.Evaluation.{ends, stopped, then_ended, evaluated}
use Rattle.asking_spec.proofs.AskingLemmas.{questions_then}
use Rattle.asking_spec.proofs.EvaluationLemmas.{evaluated_then}
use Rattle.tree_spec.specs.declared.Entry.{Entry}
use Rattle.tree_spec.specs.declared.LimitName.{LimitName}
use Rattle.tree_spec.specs.declared.LimitName.TheVariants.{File, Looks, Bytes}
use Rattle.tree_spec.specs.LookAskings.{Sights, LookAsking, looks, with_seen}
use Rattle.tree_spec.specs.LookLimits.{Trail, no_trail, begun, look_limits, size_at, told, limited, new_size}
use Rattle.tree_spec.proofs.FootprintSets.{trail_of}
use Rattle.tree_spec.proofs.LimitedLooks.{LookEnd, ends_counted, first_limit_stops, same_limited_law}
use Rattle.trace_spec.specs.declared.TraceFault.{TraceFault}
use Rattle.trace_spec.specs.Modules.{Config}
use Rattle.trace_spec.specs.Questions.{Question, Answer, put, answers, always}
use Rattle.trace_spec.specs.Checks.{Gathered}
use Rattle.trace_spec.specs.Traces.{trace, result_of, traced, generation}
use Rattle.trace_spec.specs.Laws.{without_question, looks_of, CountsGeneration, StopsGeneration}
use Rattle.trace_spec.specs.Laws.{LooksAreOfQuestions}
use Rattle.trace_spec.proofs.LookedPaths.{looked_within, looked_up_to, looked_before}

-- ends that differ in the paths of the last question alone
abbrev pub Alike : {X : Type 0} → LookEnd X → LookEnd X → Type 0
Alike one other = without_question one ≡ without_question other

from_zero : (n : ℕ) → 0 + n ≡ n
from_zero n = omega arith

-- ---- trails that differ in the paths of the last question alone

respelled : (one other : Trail) → begun one ≡ begun other → other ≡ trail_of one.paths one.size other.question
respelled one other same =
    λ i. trail_of ((sym same i).paths) ((sym same i).size) other.question

-- two ends, and then the same behind trails that are alike
then_alike : {X Y : Type 0} (one other : LookEnd X) (next last : X → Trail → LookEnd Y) → Alike one other
    → ((value : X) (t u : Trail) → begun t ≡ begun u → Alike (next value t) (last value u))
    → Alike (then_ended one next) (then_ended other last)
then_alike (ends value t) (ends found u) next last e alike =
    let same : value ≡ found = cc in
    let trails : begun t ≡ begun u = cc in
    subst (λ v. Alike (next value t) (last v u)) same (alike value t u trails)
then_alike (ends value t) (stopped limit u) next last e alike = absurd (cc)
then_alike (stopped limit t) (ends found u) next last e alike = absurd (cc)
then_alike (stopped limit t) (stopped name u) next last e alike =
    let limits : limit ≡ name = cc in
    let trails : begun t ≡ begun u = cc in
    (λ i. stopped (limits i) (trails i))

-- ---- looks

module _ (sights : Sights) where
  -- one look behind two trails that differ so
  look_alike : {X : Type 0} (seen large room heavy : Bool) (path : List ℕ) (found : Option Entry)
      (paths : List (List ℕ)) (size : ℕ) (question other : List (List ℕ)) (next : Option Entry → Trail → LookEnd X)
      → ((p : List (List ℕ)) (s : ℕ) (q r : List (List ℕ))
      → Alike (next found (trail_of p s q)) (next found (trail_of p s r)))
      → Alike
      (then_ended (told found (trail_of paths size question)
      (if seen then (if large then Err File else Ok (trail_of paths size (with_seen question path)))
      else if room then Err Looks
      else if large then Err File
      else if heavy then Err Bytes
      else Ok (trail_of (paths ++ path ∷ []) (size + size_at found) (with_seen question path)))) next)
      (then_ended (told found (trail_of paths size other)
      (if seen then (if large then Err File else Ok (trail_of paths size (with_seen other path)))
      else if room then Err Looks
      else if large then Err File
      else if heavy then Err Bytes
      else Ok (trail_of (paths ++ path ∷ []) (size + size_at found) (with_seen other path)))) next)
  look_alike true true room heavy path found paths size question other next alike = refl
  look_alike true false room heavy path found paths size question other next alike =
      alike paths size (with_seen question path) (with_seen other path)
  look_alike false large true heavy path found paths size question other next alike = refl
  look_alike false true false heavy path found paths size question other next alike = refl
  look_alike false false false true path found paths size question other next alike = refl
  look_alike false false false false path found paths size question other next alike =
      alike (paths ++ path ∷ []) (size + size_at found) (with_seen question path) (with_seen other path)

  looks_alike : {X : Type 0} (paths : List (List ℕ)) (size : ℕ) (question other : List (List ℕ))
      (asking : LookAsking X)
      → Alike (evaluated (limited look_limits sights) (trail_of paths size question) asking)
      (evaluated (limited look_limits sights) (trail_of paths size other) asking)
  looks_alike paths size question other (answered value) = refl
  looks_alike paths size question other (ask path next) =
      look_alike _ _ _ _ path (sights path) paths size question other
      (λ found after. evaluated (limited look_limits sights) after (next found))
      (λ p s q r. looks_alike p s q r (next (sights path)))

  pub looks_behind : {X : Type 0} (one other : Trail) (asking : LookAsking X) → begun one ≡ begun other
      → Alike (evaluated (limited look_limits sights) one asking) (evaluated (limited look_limits sights) other asking)
  looks_behind one other asking same =
      looks_alike one.paths one.size one.question other.question asking
      ∙ ap (λ t. without_question (evaluated (limited look_limits sights) t asking)) (sym (respelled one other same))

  -- ---- questions

  walk_alike : {X : Type 0} (one other : Trail) (asking : Asking Question Answer X) → begun one ≡ begun other
      → Alike (evaluated (answers sights) one asking)
      (evaluated (limited look_limits sights) other (through put asking))
  walk_alike one other (answered value) same = ap (λ t. ends value t) same
  walk_alike {X} one other (ask question next) same =
      then_alike (evaluated (limited look_limits sights) (begun one) (put question))
      (evaluated (limited look_limits sights) other (put question))
      (λ answer after. evaluated (answers sights) after (next answer))
      (λ answer after. evaluated (limited look_limits sights) after (through put (next answer)))
      (looks_behind (begun one) other (put question) same)
      (λ answer t u trails. walk_alike t u (next answer) trails)
      ∙ ap without_question
      (sym (evaluated_then (limited look_limits sights) other (put question) (λ answer. through put (next answer))))

  looks_are : {X : Type 0} (asking : Asking Question Answer X)
      → looks sights (through put asking) ≡ looks_of sights (questions (always sights) asking)
  looks_are (answered value) = refl
  looks_are (ask question next) =
      questions_then sights (put question) (λ answer. through put (next answer))
      ∙ ap (λ more. looks sights (put question) ++ more) (looks_are (next (always sights question)))

  -- ---- the whole generation

  module _ (config : Config) where
    same_end : Alike (evaluated (answers sights) no_trail (trace config))
        (evaluated (limited look_limits sights) no_trail (generation config))
    same_end = walk_alike no_trail no_trail (trace config) refl

    counts : (result : Result Gathered TraceFault) (trail : Trail) (end : LookEnd (Result Gathered TraceFault))
        → evaluated (limited look_limits sights) no_trail (generation config) ≡ end
        → Alike (ends result trail) end → CountsGeneration sights config trail
    counts result trail (stopped limit after) is same = absurd (cc)
    counts result trail (ends other after) is same =
        let counted = (ends_counted look_limits sights no_trail (generation config) other after is).counts in
        let trails : begun trail ≡ begun after = cc in
        record {
          paths = ap (λ t. t.paths) trails ∙ counted.all;
          size = ap (λ t. t.size) trails ∙ (counted.size ∙ from_zero (new_size sights [] (looks sights (generation config))));
        }

    stops : (name : LimitName) (trail : Trail) (end : LookEnd (Result Gathered TraceFault))
        → evaluated (limited look_limits sights) no_trail (generation config) ≡ end
        → Alike (stopped name trail) end → StopsGeneration sights config name trail
    stops name trail (ends other after) is same = absurd (cc)
    stops name trail (stopped limit after) is same =
        let limits : limit ≡ name = cc in
        let trails : begun after ≡ begun trail = cc in
        let first = (first_limit_stops look_limits sights no_trail (generation config) name after).0
        (is ∙ ap (λ l. stopped l after) limits) in
        record {
          before = after;
          first = first;
          same = trails;
          up_to = looked_up_to sights config name after first;
          before_looks = λ many path is. looked_before sights config name after first path is many;
        }

  result_without : (end : LookEnd (Result Gathered TraceFault)) → result_of (without_question end) ≡ result_of end
  result_without (ends result trail) = refl
  result_without (stopped limit trail) = refl

  pub result_is : (config : Config) → traced sights config
      ≡ result_of (evaluated (limited look_limits sights) no_trail (generation config))
  result_is config =
      sym (result_without (evaluated (answers sights) no_trail (trace config)))
      ∙ (ap result_of (same_end config)
      ∙ result_without (evaluated (limited look_limits sights) no_trail (generation config)))

pub looks_are_of_questions : LooksAreOfQuestions
looks_are_of_questions sights config = record {
  looks = looks_are sights (trace config);
  same_end = same_end sights config;
  counted = λ result trail e.
      counts sights config result trail (evaluated (limited look_limits sights) no_trail (generation config)) refl
      (ap without_question (sym e) ∙ same_end sights config);
  limits = λ name trail e.
      stops sights config name trail (evaluated (limited look_limits sights) no_trail (generation config)) refl
      (ap without_question (sym e) ∙ same_end sights config);
  decided = λ other agrees.
      result_is sights config
      ∙ (ap result_of (same_limited_law look_limits sights other no_trail (generation config) agrees)
      ∙ sym (result_is other config));
  within = looked_within sights config;
}
