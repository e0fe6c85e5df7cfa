-- The answers to a walk's questions by looks at a folder.
--     result_by response            what a question comes to, as the result of a call
--     Freshness                     which questions are fresh, by what stands at each path
--     all_fresh                     each question is
--     Keeping                       of which questions an answer is kept, by what stands at each path
--     all_kept                      none needs to be
--     looked_to_end sights trail asking      the paths at which an asking looks until it ends or a limit stops it; not
--                                            the one that is a path too many
--     told_by is_fresh sights       the answers by what stands at each path, the looks of each question until it ends or
--                                   a limit stops it, and which are fresh
--     ToldBy is_fresh folder known told      these are the answers so, as far as looks tell
--     TakesStep is_fresh before question taken spent      no step, or one if the question is fresh, by all that looks
--                                                         tell
--     KeepsOn keeping later before  what is kept stays so, by all that looks tell
--     KeepsAnswer later before question result      and an answer to the question is kept, where one is given
--     Stays                         the references, and names that stay
--     references_of lookup steps    where the answers write
--     stays_of lookup steps         the same, where no names stay
--     answers_of is_fresh keeping stays steps looks      what answers, in this state, behind so many steps
use Rattle.std.specs.Prelude.{◌≡◌, ◌≤◌, ◌+◌, ℕ, Bool, true, List, [], ◌∷◌, length, filter, Some, Result, Ok, Err}
use Rattle.std.specs.Prelude.{⊤, IfOk, IfSome, if◌then◌else◌}
use Rattle.asking_spec.specs.Askings.{answered, ask}
use Rattle.tree_spec.specs.LookAskings.{Sights, LookAsking}
use Rattle.tree_spec.specs.LookLimits.{Trail, begun, look_limits, limited}
use Rattle.tree_spec.specs.States.{FolderState}
use Rattle.tree_spec.specs.Trees.{Tree}
use Rattle.trace_spec.specs.declared.TraceFault.{TraceFault}
use Rattle.trace_spec.specs.declared.TraceFault.TheVariants.{Limit, ReadFault, Memory}
use Rattle.trace_spec.specs.Questions.{Question, Answer, put, answers}
use Rattle.package_lookup.specs.declared.known.Known.{Known}
use Rattle.package_lookup.specs.Looked.{Sees}
use Rattle.package_lookup.specs.declared.lookup.Lookup.{Lookup}
use Rattle.package_lookup.specs.Answered.{State}
use Rattle.package_lookup.specs.Trails.{has_room}
use Rattle.package_lookup.specs.Responses.{Response, given, fails, passes, not_read, no_memory, never}
use Rattle.trace_walk.specs.Meeting.{Told, asked_then, AnswererState}

-- no call comes to `never`
abbrev pub result_by : {X : Type 0} → Response X → Result X TraceFault
result_by (given value) = Ok value
result_by (fails (passes which)) = Err (Limit which)
result_by (fails not_read) = Err ReadFault
result_by (fails no_memory) = Err Memory
result_by (fails never) = Err Memory

abbrev pub Freshness : Type 0
Freshness = Sights → Question → Bool

abbrev pub all_fresh : Freshness
all_fresh sights question = true

abbrev pub Keeping : Type 1
Keeping = Sights → Question → Type 0

abbrev pub all_kept : Keeping
all_kept sights question = ⊤

abbrev pub looked_to_end : {X : Type 0} → Sights → Trail → LookAsking X → List (List ℕ)
looked_to_end sights trail (answered value) = []
looked_to_end sights trail (ask path next) =
    if has_room trail path
    then path
    ∷ asked_then (limited look_limits sights trail path) (λ found after. looked_to_end sights after (next found))
    else []

abbrev pub told_by : Freshness → Sights → Told Trail Question Answer
told_by is_fresh sights =
    record {
      answers = answers sights;
      looks = λ trail question. looked_to_end sights (begun trail) (put question);
      fresh = is_fresh sights;
      stands = sights;
    }

pub record ToldBy (is_fresh : Freshness) (folder : FolderState) (known : Known)
    (told : Told Trail Question Answer) : Type 0 where
  pub tree : Tree
  pub sights : Sights
  pub holds : folder.holds ≡ Some tree
  pub sees : Sees tree known sights
  pub are : told ≡ told_by is_fresh sights

abbrev pub TakesStep : Freshness → State → Question → ℕ → ℕ → Type 0
TakesStep is_fresh before question taken spent =
    IfSome before.folder.holds
    (λ tree. (sights : Sights) → Sees tree before.known sights
    → spent ≤ taken + length (filter (is_fresh sights) (question ∷ [])))

abbrev pub KeepsOn : Keeping → Keeping → State → Type 0
KeepsOn keeping later before =
    IfSome before.folder.holds
    (λ tree. (sights : Sights) → Sees tree before.known sights → (question : Question) → keeping sights question
    → later sights question)

abbrev pub KeepsAnswer : {X : Type 0} → Keeping → State → Question → Result X TraceFault → Type 0
KeepsAnswer later before question result =
    IfSome before.folder.holds
    (λ tree. (sights : Sights) → Sees tree before.known sights → IfOk result (λ answer. later sights question))

-- own: what an answerer leaves as it is
pub record Stays : Type 0 where
  pub references : List ℕ
  pub names : List (List ℕ)

abbrev pub references_of : {F : Type 0} → Lookup F → ℕ → List ℕ
references_of lookup steps =
    lookup.folder.ghost_name ∷ lookup.known.ghost_name ∷ steps ∷ lookup.trail.ghost_name ∷ []

abbrev pub stays_of : {F : Type 0} → Lookup F → ℕ → Stays
stays_of lookup steps = record { references = references_of lookup steps; names = [] }

abbrev pub answers_of : Freshness → Keeping → Stays → ℕ → State → AnswererState
answers_of is_fresh keeping stays steps looks =
    record {
      told = ToldBy is_fresh looks.folder looks.known;
      state = looks.trail;
      faults = looks.folder.look_faults;
      steps = steps;
      keeps = record {
        references = stays.references;
        names = stays.names;
        holds = looks.folder.holds;
        writes = looks.folder.write_faults;
      };
      looks = looks;
      is_kept = keeping;
    }
