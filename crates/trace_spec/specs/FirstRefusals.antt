-- The first refusal of a walk: everything before it passes, and it doesn't.
--     Failure R S          a refusal, or a stop of an evaluation
--     failed why state     the end of an evaluation that fails so
--     Passed before state count      the visits of the page and of the first modules, as many as this, pass
--     Comes before state referrer    the visit of this referrer comes next
--     AllPassed all state            all visits pass
--     FailsIn before state referrer why after      this visit fails, by its opening or by the first request that
--                                                  doesn't pass
--     FirstFailure why after         the visits before one pass, and that one fails
use Rattle.std.specs.Prelude.{◌≡◌, ℕ, suc, List, ◌∷◌, ◌++◌, slice_get, Some, None, Result, Ok, Err}
use Rattle.asking_spec.specs.Evaluation.{Ended, ends, stopped, Answers, evaluated}
use Rattle.trace_spec.specs.Walking.{Referrer, the_page, a_module, Opened, Rules, followed, visited}

pub data Failure (R S : Type 0) : Type 0 where
  refused : R → Failure R S
  halted : S → Failure R S

abbrev pub failed : {X R S T : Type 0} → Failure R S → T → Ended (Result X R) T S
failed (refused refusal) state = ends (Err refusal) state
failed (halted stop) state = stopped stop state

module _ {M B R Q T S : Type 0} {A : Q → Type 0} (answers : Answers T S Q A) (rules : Rules M B R Q A)
    (begun : T) where
  pub data Passed : B → T → ℕ → Type 0 where
    page_passes : {after : B} {state : T}
        → evaluated answers begun (visited rules rules.start the_page) ≡ ends (Ok after) state → Passed after state 0
    next_passes : {before after : B} {state later : T} {count : ℕ} {found : M} → Passed before state count
        → slice_get (rules.modules before) count ≡ Some found
        → evaluated answers state (visited rules before (a_module found)) ≡ ends (Ok after) later
        → Passed after later (suc count)

  pub data Comes : B → T → Referrer M → Type 0 where
    page_first : Comes rules.start begun the_page
    module_next : {before : B} {state : T} {count : ℕ} {found : M} → Passed before state count
        → slice_get (rules.modules before) count ≡ Some found → Comes before state (a_module found)

  pub record AllPassed (all : B) (state : T) : Type 0 where
    pub count : ℕ
    pub passed : Passed all state count
    pub none_left : slice_get (rules.modules all) count ≡ None

  pub data FailsIn (before : B) (state : T) (referrer : Referrer M) (why : Failure R S) (after : T) : Type 0 where
    by_opening : evaluated answers state (rules.opens before referrer) ≡ failed why after
        → FailsIn before state referrer why after
    by_request : (opened : Opened B) (middle : T) (front : List (List ℕ)) (specifier : List ℕ) (behind : List (List ℕ))
        (tables : B) (later : T) → evaluated answers state (rules.opens before referrer) ≡ ends (Ok opened) middle
        → opened.specifiers ≡ front ++ specifier ∷ behind
        → evaluated answers middle (followed rules opened.after referrer front) ≡ ends (Ok tables) later
        → evaluated answers later (rules.follows tables referrer specifier) ≡ failed why after
        → FailsIn before state referrer why after

  pub record FirstFailure (why : Failure R S) (after : T) : Type 0 where
    pub before : B
    pub state : T
    pub referrer : Referrer M
    pub comes : Comes before state referrer
    pub fails : FailsIn before state referrer why after
