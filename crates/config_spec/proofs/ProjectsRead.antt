-- What stands at the path of the project's file holds one thing.
use Rattle.std.proofs.Common.{◌≡◌, ◌≤◌, ◌<◌, ℕ, List, Option, Some, None, refl, ap, subst, inl, inr, length, arith}
use Rattle.std.specs.FinMap.{get}
use Rattle.std.specs.Prelude.{Result, Ok, Err}
use Rattle.std.proofs.lemmas.Bool.{cases_lt}
use Rattle.tree_spec.specs.Limits.{limit_number}
use Rattle.tree_spec.specs.Trees.{Tree}
use Rattle.tree_spec.specs.declared.Entry.{Entry}
use Rattle.tree_spec.specs.declared.Entry.TheVariants.{Stored, Directory}
use Rattle.tree_spec.specs.declared.LimitName.TheVariants.{File}
use Rattle.tree_spec.proofs.OneLook.{same_stored}
use Rattle.trace_spec.specs.Modules.{Config}
use Rattle.project_spec.proofs.OneProject.{one_project}
use Rattle.project_spec.proofs.SomeProject.{some_project}
use Rattle.project_spec.specs.ProjectFiles.{ReadsProject}
use Rattle.config_spec.specs.Laws.{ProjectsAreRead}
use Rattle.config_spec.specs.Projects.{HoldsProject, project_path, read_outcome}
use Rattle.config_spec.specs.Projects.HoldsProject.{absent, folder, reads, too_large}
use Rattle.config_spec.specs.declared.ProjectFault.{ProjectFault}
use Rattle.config_spec.specs.declared.ProjectFault.TheVariants.{TooLarge}

abbrev pub Found : Type 0
Found = Result (Option Config) ProjectFault

-- a file that is read isn't too large
not_large :
    {found : Option Entry} (some other : List ℕ) → found ≡ Some (Stored some) → found ≡ Some (Stored other)
    → length some ≤ limit_number File → limit_number File < length other → ⊥
not_large some other is is_too few many =
    let count : length some ≡ length other = ap length (same_stored is is_too) in absurd (omega (arith, few, many, count))

pub one_held : (tree : Tree) (some other : Found) → HoldsProject tree some → HoldsProject tree other → some ≡ other
one_held tree some other (absent is) (absent is_too) = refl
one_held tree some other (absent is) (folder is_too) = refl
one_held tree some other (absent is) (too_large bytes is_too many) = absurd (cc)
one_held tree some other (absent is) (reads bytes outcome is_too few r) = absurd (cc)
one_held tree some other (folder is) (absent is_too) = refl
one_held tree some other (folder is) (folder is_too) = refl
one_held tree some other (folder is) (too_large bytes is_too many) = absurd (cc)
one_held tree some other (folder is) (reads bytes outcome is_too few r) = absurd (cc)
one_held tree some other (too_large bytes is many) (absent is_too) = absurd (cc)
one_held tree some other (too_large bytes is many) (folder is_too) = absurd (cc)
one_held tree some other (too_large bytes is many) (too_large bytes_too is_too many_too) = refl
one_held tree some other (too_large bytes is many) (reads bytes_too outcome is_too few r) =
    absurd (not_large bytes_too bytes is_too is few many)
one_held tree some other (reads bytes outcome is few r) (absent is_too) = absurd (cc)
one_held tree some other (reads bytes outcome is few r) (folder is_too) = absurd (cc)
one_held tree some other (reads bytes_too outcome is_too few r) (too_large bytes is many) =
    absurd (not_large bytes_too bytes is_too is few many)
one_held tree some other (reads bytes outcome is few r) (reads bytes_too outcome_too is_too few_too r_too) =
    let same : bytes_too ≡ bytes = same_stored is_too is in
    ap read_outcome (one_project bytes outcome outcome_too r (subst (λ b. ReadsProject b outcome_too) same r_too))

file_holds :
    (tree : Tree) (bytes : List ℕ) → get tree project_path ≡ Some (Stored bytes)
    → (found : Found) × HoldsProject tree found
file_holds tree bytes is = elim (cases_lt (limit_number File) (length bytes)) [
  | inl many ↦ (Err TooLarge, too_large bytes is many)
  | inr few ↦ (let read = some_project bytes in (read_outcome read.0, reads bytes read.0 is few read.1))
]

entry_holds :
    (tree : Tree) (entry : Option Entry) → get tree project_path ≡ entry → (found : Found) × HoldsProject tree found
entry_holds tree None is = (Ok None, absent is)
entry_holds tree (Some Directory) is = (Ok None, folder is)
entry_holds tree (Some (Stored bytes)) is = file_holds tree bytes is

pub some_held : (tree : Tree) → (found : Found) × HoldsProject tree found
some_held tree = entry_holds tree (get tree project_path) refl

pub projects_are_read : ProjectsAreRead
projects_are_read tree = record { one = one_held tree; some = some_held tree }
