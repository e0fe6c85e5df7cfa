-- Something can stand at each path as looks tell it.
use Rattle.std.proofs.Common.{◌≡◌, ◌+◌, ℕ, nat_lt, true, List, length, Option, Some, None, refl, ap, ◌∙◌, arith}
use Rattle.std.specs.Prelude.{replicate}
use Rattle.std.proofs.lemmas.List.{length-replicate}
use Rattle.std.specs.FinMap.{get}
use Rattle.std.proofs.lemmas.Bool.{cond-true, cond-false, cond_both, lt-ltb}
use Rattle.tree_spec.specs.LookLimits.{look_limits}
use Rattle.tree_spec.specs.declared.Entry.{Entry}
use Rattle.tree_spec.specs.declared.Entry.TheVariants.{Stored, Directory}
use Rattle.tree_spec.specs.declared.Look.{Look}
use Rattle.tree_spec.specs.declared.Look.TheVariants.{Absent, Folder, File, TooLarge}
use Rattle.package_lookup.specs.SeenLooks.{within_limit, seen_as}
use Rattle.package_lookup.specs.Looked.{known_at, look_or, look_in, SomeSights}

-- there are longer lists than any number says
longer_than : (n : ℕ) → (bytes : List ℕ) × (nat_lt n (length bytes) ≡ true)
longer_than n = (
  replicate (n + 1) 0,
  ap (nat_lt n) (length-replicate (n + 1) 0) ∙ lt-ltb n (n + 1) (omega arith),
)

-- a file that is too large
large_file : List ℕ
large_file = (longer_than look_limits.file).0

-- what may stand where a look answers this
abbrev entry_by : Look → Option Entry
entry_by Absent = None
entry_by Folder = Some Directory
entry_by (File bytes) = Some (Stored bytes)
entry_by TooLarge = Some (Stored large_file)

large_file_is_large : nat_lt look_limits.file (length large_file) ≡ true
unfolding large_file
large_file_is_large = (longer_than look_limits.file).1

within_twice : (look : Look) → within_limit (within_limit look) ≡ within_limit look
within_twice Absent = refl
within_twice Folder = refl
within_twice TooLarge = refl
within_twice (File bytes) =
    cond_both (nat_lt look_limits.file (length bytes)) TooLarge (File bytes) (λ look. within_limit look ≡ look)
    (λ large. refl) (λ small. cond-false _ _ _ small)

seen_within : (found : Option Entry) → within_limit (seen_as found) ≡ seen_as found
seen_within None = refl
seen_within (Some Directory) = refl
seen_within (Some (Stored bytes)) = within_twice (File bytes)

told_within : (known : Option Look) (found : Option Entry) → within_limit (look_or known found) ≡ look_or known found
told_within None found = seen_within found
told_within (Some look) found = within_twice look

stands_as : (look : Look) → within_limit look ≡ look → seen_as (entry_by look) ≡ look
stands_as Absent e = refl
stands_as Folder e = refl
stands_as (File bytes) e = e
stands_as TooLarge e = cond-true _ _ _ large_file_is_large

pub some_sights : SomeSights
some_sights tree known = (
  (λ path. entry_by (look_in tree known path)),
  record { each = λ path. stands_as (look_in tree known path) (told_within (known_at known path) (get tree path)) },
)
