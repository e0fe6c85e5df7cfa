-- Questions that are answered by what is kept, which is right or isn't.
--     met_if               where what is kept is right the call is met, and whatever is kept, so it is of a folder that
--                          tells no tree
--     met_so               where what is kept is right
--     traced_untold        and whatever is kept
--     right_after          what is kept for the next trace is right then
--     traces_if            a trace by what is kept
--     traces_told, traced_named      the same, told otherwise
--     looked_untold        of each path of its trail a look is known, whatever is kept
use Rattle.std.proofs.Common.{◌≡◌, ◌++◌, ℕ, List, Option, Some, IfSome, Result, Ok, Err, refl, sym, ap, ◌∙◌, subst}
use Rattle.std.specs.Prelude.{All, Contains, IfErr, IfOk}
use Rattle.std.proofs.lemmas.List.{append_cancel_left}
use Rattle.std.proofs.lemmas.List.Elements.{All-contains}
use Rattle.asking_spec.specs.Askings.{Asking}
use Rattle.tree_spec.proofs.Contained.{all_contained, contains_none}
use Rattle.tree_spec.specs.LookLimits.{Trail, no_trail}
use Rattle.tree_spec.specs.States.{FolderState}
use Rattle.trace_spec.specs.Checks.{Gathered}
use Rattle.trace_spec.specs.Modules.{Config}
use Rattle.trace_spec.specs.Questions.{Question, Answer}
use Rattle.trace_spec.specs.Traces.{trace}
use Rattle.trace_spec.specs.declared.TraceFault.{TraceFault}
use Rattle.trace_spec.specs.declared.TraceFault.TheVariants.{Memory}
use Rattle.package_lookup.specs.Answered.{State, AsksOnce}
use Rattle.package_lookup.specs.Learning.{IsSameIn}
use Rattle.package_lookup.specs.Looked.{SomeSights}
use Rattle.package_lookup.specs.declared.known.Known.{Known}
use Rattle.package_lookup.proofs.Learnings.{learns_as}
use Rattle.trace_walk.specs.Kinds.{IsOfWalk}
use Rattle.trace_walk.specs.Meeting.{AnswererState, IsAskedBy, Kept, Met}
use Rattle.trace_walk.specs.Shown.{traced_of, before_of}
use Rattle.trace_walk.specs.declared.tables.Tables.{Tables}
use Rattle.request_trace.specs.Footprints.{IsFootprint}
use Rattle.request_trace.specs.Answering.{Freshness, Keeping, Stays, told_by, answers_of}
use Rattle.request_trace.specs.Tracing.{known_of, IsOfFootprint, Traces}
use Rattle.kept_answers.specs.RightAnswers.{untold, untold_state}
use Rattle.kept_trace.specs.Keeping.{answers_if}
use Rattle.kept_trace.specs.Tracing.{TracesIf}
use Rattle.kept_trace.proofs.Telling.{told_so, with_told}

-- the paths that were asked for are told once
same_more : (asked : Option (List (List ℕ))) (old one other : List (List ℕ)) → asked ≡ Some (old ++ one)
    → asked ≡ Some (old ++ other) → one ≡ other
same_more asked old one other first last =
    append_cancel_left old one other (let both : Some (old ++ one) ≡ Some (old ++ other) = sym first ∙ last in cc)

module _ (right later : Type 0) (is_fresh later_fresh : Freshness) (keeping later_keeping : Keeping)
    (stays others : Stays) (taken spent : ℕ) (before after : State) {X : Type 0}
    (asking : Asking Question Answer (Result X TraceFault)) (result : Result X TraceFault) where
  abbrev first_of : State → AnswererState
  first_of at = answers_of is_fresh keeping stays taken at

  abbrev last_of : State → AnswererState
  last_of at = answers_of later_fresh later_keeping others spent at

  abbrev IsMet : Type 0
  IsMet = Met (first_of before) asking result (last_of after)

  module _ (met : right → IsMet) (always : Met (first_of (untold_state before)) asking result (last_of (untold_state after))) where
    asks_if : (old : List (List ℕ)) → before.folder.asked ≡ Some old
        → AsksOnce old before after (result ≡ Err Memory) (IsAskedBy (answers_if right (first_of before)) asking)
    asks_if old tells =
        let mine = told_so
        (λ o. AsksOnce o (untold_state before) (untold_state after) (result ≡ Err Memory)
        (IsAskedBy (first_of (untold_state before)) asking)) before.folder.asked old tells always.learns.asked in
        record {
          more = mine.more;
          asked = mine.asked;
          once = mine.once;
          new = mine.new;
          held = mine.held;
          front = mine.front;
          among = all_contained (IsAskedBy (answers_if right (first_of before)) asking) mine.more
              (λ path held told by.
              let theirs = told_so
              (λ o. AsksOnce o before after (result ≡ Err Memory) (IsAskedBy (first_of before) asking))
              before.folder.asked old tells (met by.1).learns.asked in
              All-contains (IsAskedBy (first_of before) asking) mine.more path
              (subst (All (IsAskedBy (first_of before) asking))
              (same_more after.folder.asked old theirs.more mine.more theirs.asked mine.asked) theirs.among) held told
              by.0);
        }

    pub met_if : after.folder.holds ≡ before.folder.holds
        → IfSome before.folder.holds (λ tree. IsSameIn tree before after)
        → IfSome before.folder.holds (λ tree. right → later)
        → Met (answers_if right (first_of before)) asking result (answers_if later (last_of after))
    met_if tree same stays_right = record {
      comes = λ told by is_told. (met by.1).comes told by.0 is_told;
      told = λ told by. (
        (met by.1).told told by.0,
        told_so (λ tree. right → later) before.folder.holds by.0.tree by.0.holds stays_right by.1,
      );
      keeps = (λ i. record {
        references = (always.keeps i).references;
        names = (always.keeps i).names;
        holds = tree i;
        writes = (always.keeps i).writes;
      });
      later = always.later;
      cause = always.cause;
      quiet = always.quiet;
      steps = λ told by. (met by.1).steps told by.0;
      learns = record {
        tree = tree;
        same = same;
        known = always.learns.known;
        asked = with_told before.folder.asked asks_if;
      };
      covered = always.covered;
      still_kept = λ told by question kept. (met by.1).still_kept told by.0 question kept;
      asked_kept = λ told by value is. (met by.1).asked_kept told by.0 value is;
    }

  module _ (met : Met (answers_if right (first_of before)) asking result (answers_if later (last_of after))) where
    pub met_so : right → IsMet
    met_so holds = record {
      comes = λ told by is_told. met.comes told (by, holds) is_told;
      told = λ told by. (met.told told (by, holds)).0;
      keeps = met.keeps;
      later = met.later;
      cause = met.cause;
      quiet = met.quiet;
      steps = λ told by. met.steps told (by, holds);
      learns = learns_as before after (result ≡ Err Memory) (result ≡ Err Memory)
          (IsAskedBy (answers_if right (first_of before)) asking) (IsAskedBy (first_of before) asking) (λ e. e)
          (λ path is told by. is told (by, holds)) met.learns;
      covered = met.covered;
      still_kept = λ told by question kept. met.still_kept told (by, holds) question kept;
      asked_kept = λ told by value is. met.asked_kept told (by, holds) value is;
    }

    pub right_after : SomeSights → IfSome before.folder.holds (λ tree. right → later)
    right_after some =
        with_told before.folder.holds
        (λ tree holds is.
        let standing = some tree before.known in
        (met.told (told_by is_fresh standing.0)
        (record { tree = tree; sights = standing.0; holds = holds; sees = standing.1; are = refl }, is)).1)

-- ---- a trace

module _ (right later : Type 0) (is_fresh later_fresh : Freshness) (keeping later_keeping : Keeping)
    (stays others : Stays) (taken spent : ℕ) (config : Config) (before after : State)
    (result : Result Gathered TraceFault)
    (met : Met (answers_if right (answers_of is_fresh keeping stays taken before)) (trace config) result
    (answers_if later (answers_of later_fresh later_keeping others spent after))) where
  asked_untold : (old : List (List ℕ)) → before.folder.asked ≡ Some old
      → AsksOnce old (known_of (untold before.folder) before.known) (known_of (untold after.folder) after.known)
      (result ≡ Err Memory) (IsOfFootprint config (untold before.folder) before.known)
  asked_untold old tells =
      let asks = told_so
      (λ o. AsksOnce o before after (result ≡ Err Memory)
      (IsAskedBy (answers_if right (answers_of is_fresh keeping stays taken before)) (trace config)))
      before.folder.asked old tells met.learns.asked in
      record {
        more = asks.more;
        asked = asks.asked;
        once = asks.once;
        new = asks.new;
        held = asks.held;
        front = asks.front;
        among = all_contained (IsOfFootprint config (untold before.folder) before.known) asks.more (λ path held. tt);
      }

  pub traced_untold : IfErr result (IsOfWalk config)
      → Traces config (untold before.folder) before.known result (untold after.folder) after.known
  traced_untold kind = record {
    is = tt;
    learns = record {
      tree = refl;
      same = tt;
      known = met.learns.known;
      asked = with_told before.folder.asked asked_untold;
    };
    looks = record {
      tree = refl;
      writes = ap (λ (keeps : Kept). keeps.writes) met.keeps;
      later = met.later;
      cause = met.cause;
      quiet = met.quiet;
    };
    kind = kind;
  }

  pub traces_if : IfErr result (IsOfWalk config)
      → (right → Traces config before.folder before.known result after.folder after.known)
      → TracesIf right config before.folder before.known result after.folder after.known
  traces_if kind is = record {
    is = is;
    always = traced_untold kind;
    tree = met.learns.tree;
    same = met.learns.same;
  }

-- told otherwise, and where what is kept is right because something else is
pub traces_told : (right wider : Type 0) (config : Config) (before after : FolderState) (known later : Known)
    (one other : Result Gathered TraceFault) → (wider → right)
    → ((from to : FolderState) → Traces config from known one to later → Traces config from known other to later)
    → TracesIf right config before known one after later → TracesIf wider config before known other after later
traces_told right wider config before after known later one other so told traces = record {
  is = λ holds. told before after (traces.is (so holds));
  always = told (untold before) (untold after) traces.always;
  tree = traces.tree;
  same = traces.same;
}

-- beside other names for the state
pub traced_named : (right : Type 0) (config : Config) (before : State) (result : Result Gathered TraceFault)
    (one other : FolderState) (some later : Known) → one ≡ other → some ≡ later
    → TracesIf right config before.folder before.known result one some
    → TracesIf right config before.folder before.known result other later
traced_named right config before result one other some later here there traces =
    subst (λ k. TracesIf right config before.folder before.known result other k) there
    (subst (λ f. TracesIf right config before.folder before.known result f some) here traces)

looked_so : (right later : Type 0) (is_fresh later_fresh : Freshness) (keeping later_keeping : Keeping)
    (stays others : Stays) (taken spent : ℕ) (config : Config) (before after : State) (all : Gathered)
    → before.trail ≡ no_trail
    → Met (answers_if right (answers_of is_fresh keeping stays taken before)) (trace config) (Ok all)
    (answers_if later (answers_of later_fresh later_keeping others spent after))
    → IsFootprint config (untold before.folder) before.known after.known after.trail.paths
looked_so right later is_fresh later_fresh keeping later_keeping stays others taken spent config before after all first met =
    record {
      is = tt;
      kept = met.covered (λ e. cc)
          (λ path held. absurd (contains_none path (subst (λ (t : Trail). Contains t.paths path) first held)));
    }

pub looked_untold : (right later : Type 0) (is_fresh later_fresh : Freshness) (keeping later_keeping : Keeping)
    (stays others : Stays) (taken spent : ℕ) (config : Config) (before after : State) (known : Known)
    (paths : List (List ℕ)) (result : Result Tables TraceFault) → before.trail ≡ no_trail
    → Met (answers_if right (answers_of is_fresh keeping stays taken before)) (trace config) (traced_of result)
    (answers_if later (answers_of later_fresh later_keeping others spent after))
    → after.known ≡ known → after.trail.paths ≡ paths
    → IfOk result (λ tables. IsFootprint config (untold before.folder) before.known known paths)
looked_untold right later is_fresh later_fresh keeping later_keeping stays others taken spent config before after known paths (Err fault) first met same alike = tt
looked_untold right later is_fresh later_fresh keeping later_keeping stays others taken spent config before after known paths (Ok tables) first met same alike =
    subst (λ k. IsFootprint config (untold before.folder) before.known k paths) same
    (subst (λ ps. IsFootprint config (untold before.folder) before.known after.known ps) alike
    (looked_so right later is_fresh later_fresh keeping later_keeping stays others taken spent config before after
    (before_of tables) first met))
