-- One write after another.
use Rattle.std.proofs.Common.{◌≡◌, ◌≢◌, ◌≤◌, ◌+◌, ◌++◌, [], ◌∷◌, ℕ, List, true, zero, suc, length, take, drop, map, Option, Some, None, Result, Ok, Err, IfSome, refl, sym, ap, ◌∙◌, subst, arith}
use Rattle.std.specs.Prelude.{All, is_some, slice_get, OnOk}
use Rattle.package_lookup.specs.declared.known.Known.{Known}
use Rattle.tree_spec.specs.Counts.{Rose}
use Rattle.tree_spec.specs.States.{FolderState, IsWritten}
use Rattle.tree_spec.specs.Trees.{Tree, Places}
use Rattle.tree_spec.specs.declared.Entry.TheVariants.{Stored}
use Rattle.vendor_spec.specs.Vendored.{Pair, Written, nothing, one_more}
use Rattle.tree_vendor.specs.Copying.{Step, Leaves, StopsAt, CopiesOut, bytes_at, copies}
use Rattle.tree_vendor.proofs.Elements.{taken_more}

written_more : (tree middle after : Tree) (files : List Pair) (file : Pair) → Written tree files middle
    → Places middle file.0 (Stored file.1) after → Written tree (files ++ file ∷ []) after
written_more _ _ after _ file (nothing tree) placed = one_more tree after after file [] placed (nothing after)
written_more _ _ after _ file (one_more tree next middle first more here later) placed =
    one_more tree next after first (more ++ file ∷ []) here (written_more next middle after more file later placed)

nothing_told : (told : Option Tree)
    → IfSome told (λ tree. (later : Tree) × (told ≡ Some later) × Written tree [] later)
nothing_told None = tt
nothing_told (Some tree) = (tree, refl, nothing tree)

pub leaves_nothing : (before : FolderState) → Leaves [] before before
leaves_nothing before = record {
  written = nothing_told before.holds;
  untold = λ none. none;
  asked = refl;
  looks = refl;
}

told_more : (told middle last : Option Tree) (files : List Pair) (file : Pair)
    → IfSome told (λ tree. (later : Tree) × (middle ≡ Some later) × Written tree files later)
    → IfSome middle (λ tree. (later : Tree) × (last ≡ Some later) × Places tree file.0 (Stored file.1) later)
    → IfSome told (λ tree. (later : Tree) × (last ≡ Some later) × Written tree (files ++ file ∷ []) later)
told_more None middle last files file were written = tt
told_more (Some tree) middle last files file were written =
    let next : (later : Tree) × (last ≡ Some later) × Places were.0 file.0 (Stored file.1) later =
    subst (λ m. IfSome m (λ tree. (later : Tree) × (last ≡ Some later) × Places tree file.0 (Stored file.1) later))
    were.1 written in
    (next.0, next.1, written_more tree were.0 next.0 files file were.2 next.2)

leaves_more : {E : Type 0} (before middle after : FolderState) (files : List Pair) (file : Pair)
    (result : Result (Unit {0}) E) → result ≡ Ok tt → Leaves files before middle
    → IsWritten middle file.0 file.1 result after → Leaves (files ++ file ∷ []) before after
leaves_more before middle after files file (Err fault) fine were written = absurd (cc)
leaves_more before middle after files file (Ok done) fine were written = record {
  written = told_more before.holds middle.holds after.holds files file were.written written.written;
  untold = λ none. written.untold (were.untold none);
  asked = written.asked ∙ were.asked;
  looks = written.looks ∙ were.looks;
}

copies_more : (known : Known) (done : List Step) (step : Step)
    → copies known (done ++ step ∷ []) ≡ copies known done ++ (step.1, bytes_at known step.0) ∷ []
copies_more known [] step = refl
copies_more known (first ∷ done) step = ap (λ ps. (first.1, bytes_at known first.0) ∷ ps) (copies_more known done step)

copies_split : (known : Known) (steps : List Step) (place : ℕ) (step : Step) → slice_get steps place ≡ Some step
    → copies known steps ≡ copies known (take place steps) ++ (step.1, bytes_at known step.0) ∷ copies known (drop (suc place) steps)
copies_split known [] place step at = absurd (cc)
copies_split known (first ∷ steps) zero step at =
    (let same : first ≡ step = cc in ap (λ (s : Step). (s.1, bytes_at known s.0) ∷ copies known steps) same)
copies_split known (first ∷ steps) (suc place) step at =
    ap (λ ps. (first.1, bytes_at known first.0) ∷ ps) (copies_split known steps place step at)

-- ---- so many copies were written

pub record AreWritten (known : Known) (steps : List Step) (before after : FolderState) : Type 0 where
  pub leaves : Leaves (copies known steps) before after
  pub quiet : after.write_faults ≡ before.write_faults

pub none_written : (known : Known) (before : FolderState) → AreWritten known [] before before
none_written known before = record { leaves = leaves_nothing before; quiet = refl }

module _ {E : Type 0} (known : Known) (steps : List Step) (place : ℕ) (step : Step) (before middle after : FolderState)
    (result : Result (Unit {0}) E) (at : slice_get steps place ≡ Some step)
    (were : AreWritten known (take place steps) before middle)
    (written : IsWritten middle step.1 (bytes_at known step.0) result after) where
  pub one_written : result ≡ Ok tt → AreWritten known (take (place + 1) steps) before after
  one_written fine = record {
    leaves = subst (λ files. Leaves files before after)
        (sym (ap (copies known) (taken_more steps place step at) ∙ copies_more known (take place steps) step))
        (leaves_more before middle after (copies known (take place steps)) (step.1, bytes_at known step.0) result fine
        were.leaves written);
    quiet = quiet_by result fine written.quiet ∙ were.quiet;
  }
    where
      quiet_by : (r : Result (Unit {0}) E) → r ≡ Ok tt → OnOk r (after.write_faults ≡ middle.write_faults)
          → after.write_faults ≡ middle.write_faults
      quiet_by (Ok done) fine quiet = quiet
      quiet_by (Err fault) fine quiet = absurd (cc)

  pub write_failed : (fault : E) → result ≡ Err fault → CopiesOut {E = E} known steps before (Err fault) after
  write_failed fault failed = stopped_by result failed written
    where
      stopped_by : (r : Result (Unit {0}) E) → r ≡ Err fault → IsWritten middle step.1 (bytes_at known step.0) r after
          → CopiesOut {E = E} known steps before (Err fault) after
      stopped_by (Ok done) e w = absurd (cc)
      stopped_by (Err other) e w = record {
        all = tt;
        stopped = record {
          done = copies known (take place steps);
          file = (step.1, bytes_at known step.0);
          rest = copies known (drop (suc place) steps);
          split = copies_split known steps place step at;
          leaves = record {
            written = subst (λ holds. IfSome before.holds
                (λ tree. (later : Tree) × (holds ≡ Some later) × Written tree (copies known (take place steps)) later))
                (sym w.tree) were.leaves.written;
            untold = λ none. w.untold (were.leaves.untold none);
            asked = w.asked ∙ were.leaves.asked;
            looks = w.looks ∙ were.leaves.looks;
          };
        };
        failed = subst (λ n. Rose n after.write_faults) were.quiet w.failed;
        quiet = tt;
        later = (let same = were.quiet in let later = w.later in omega arith);
      }

pub all_written : {E : Type 0} (known : Known) (steps : List Step) (before after : FolderState)
    → AreWritten known steps before after → CopiesOut {E = E} known steps before (Ok tt) after
all_written known steps before after were = record {
  all = were.leaves;
  stopped = tt;
  failed = tt;
  quiet = were.quiet;
  later = (let same = were.quiet in omega arith);
}
