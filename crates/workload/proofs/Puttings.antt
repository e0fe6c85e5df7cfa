-- Files that are put one after another.
use Rattle.std.proofs.Common.{◌≡◌, ◌<◌, ◌+◌, ◌-◌, ◌==◌, ◌++◌, ℕ, suc, Bool, true, false, List, [], ◌∷◌, refl, sym, ap, ◌∙◌, subst, arith}
use Rattle.std.proofs.lemmas.Bool.{eqb-true, eqb-false}
use Rattle.std.specs.Prelude.{Some, Result, Ok, Err, OnOk, ◌%◌, if◌then◌else◌}
use Rattle.tree_spec.specs.declared.Entry.TheVariants.{Stored}
use Rattle.tree_spec.specs.States.{IsWritten}
use Rattle.tree_spec.specs.Paths.{IsPath}
use Rattle.tree_spec.specs.Trees.{Tree, Places, bare_tree}
use Rattle.tree_model.specs.Entries.{tree_of as tree_in}
use Rattle.tree_model.specs.Folders.{IsEmptyFolder, IsWriteOf}
use Rattle.tree_model.specs.declared.mem_folder.MemFolder.{MemFolder}
use Rattle.workload_spec.specs.Packages.{File, file_of, files, first_files, own_shared, packages, package_files, shared_in, with_file, with_files, tree_of}
use Rattle.workload_spec.proofs.PutFiles.{placed_is_put}
use Rattle.workload.specs.Putting.{ArePut, IsPut, fresh, rest_of}
use Rattle.workload.specs.Sure.{sure_state}

-- a file that was written
pub is_put : {F : Type 0} (before after : MemFolder) (path bytes : List ℕ) (result : Result (Unit {0}) F) (done : Unit {0}) → result ≡ Ok done → IsPath path → OnOk result (Places (tree_in before.entries) path (Stored bytes) (tree_in after.entries)) → OnOk result (after.write_faults ≡ before.write_faults) → after.asked ≡ before.asked
    → after.looks ≡ before.looks → after.look_faults ≡ before.look_faults → after.failing_looks ≡ before.failing_looks → after.failing_writes ≡ before.failing_writes → IsPut before path bytes after
is_put before after path bytes (Err fault) done same is placed quiet asked looks look_faults failing_looks failing_writes = absurd (cc)
is_put before after path bytes (Ok other) done same is placed quiet asked looks look_faults failing_looks failing_writes = record {
  tree = placed_is_put (tree_in before.entries) (tree_in after.entries) path bytes is placed;
  rest = λ i. record {
    asked = asked i;
    looks = looks i;
    look_faults = look_faults i;
    write_faults = quiet i;
    failing_looks = failing_looks i;
    failing_writes = failing_writes i;
  };
}

-- what comes of a result that is Ok
pub on_ok : {F P Q : Type 0} (result : Result (Unit {0}) F) → (P → Q) → OnOk result P → OnOk result Q
on_ok (Ok done) next is = next is
on_ok (Err fault) next is = tt

pub put_as : {F : Type 0} (result : Result (Unit {0}) F) (before after : MemFolder) (p path t text : List ℕ) → p ≡ path → t ≡ text → OnOk result (IsPut before p t after) → OnOk result (IsPut before path text after)
put_as result before after p path t text e f is =
    subst (λ x. OnOk result (IsPut before x text after)) e (subst (λ x. OnOk result (IsPut before p x after)) f is)

-- a write of a folder of which no look fails
pub sure_write : {F : Type 0} (before after : MemFolder) (path bytes : List ℕ) (result : Result (Unit {0}) F) → IsWriteOf before path bytes result after → IsWritten (sure_state before) path bytes result (sure_state after)
sure_write before after path bytes (Ok done) wrote = record {
  written = (tree_in after.entries, refl, wrote.written);
  tree = tt;
  untold = λ none. absurd (cc);
  asked = ap Some wrote.asked;
  failed = tt;
  quiet = wrote.quiet;
  later = wrote.later;
  looks = refl;
}
sure_write before after path bytes (Err fault) wrote = record {
  written = tt;
  tree = ap Some wrote.tree;
  untold = λ none. absurd (cc);
  asked = ap Some wrote.asked;
  failed = (let e = wrote.failed in omega (arith, e));
  quiet = tt;
  later = wrote.later;
  looks = refl;
}

with_files-append : (tree : Tree) (some more : List File) → with_files (with_files tree some) more ≡ with_files tree (some ++ more)
with_files-append tree [] more = refl
with_files-append tree (file ∷ some) more = with_files-append (with_file tree file.path file.bytes) some more

pub none_put : (folder : MemFolder) → ArePut folder [] folder
none_put folder = record { tree = refl; rest = refl }

pub put_then : (before middle after : MemFolder) (path bytes : List ℕ) (files : List File) → IsPut before path bytes middle → ArePut middle files after → ArePut before (file_of path bytes ∷ files) after
put_then before middle after path bytes files is more = record {
  tree = more.tree ∙ ap (λ tree. with_files tree files) is.tree;
  rest = more.rest ∙ is.rest;
}

pub two_put : (a b c : MemFolder) (first first_bytes second second_bytes : List ℕ) → IsPut a first first_bytes b → IsPut b second second_bytes c → ArePut a (file_of first first_bytes ∷ file_of second second_bytes ∷ []) c
two_put a b c first first_bytes second second_bytes p q =
    put_then a b c first first_bytes (file_of second second_bytes ∷ []) p (put_then b c c second second_bytes [] q (none_put c))

pub three_put : (a b c d : MemFolder) (first first_bytes second second_bytes third third_bytes : List ℕ) → IsPut a first first_bytes b → IsPut b second second_bytes c → IsPut c third third_bytes d
    → ArePut a (file_of first first_bytes ∷ file_of second second_bytes ∷ file_of third third_bytes ∷ []) d
three_put a b c d first first_bytes second second_bytes third third_bytes p q r =
    put_then a b d first first_bytes (file_of second second_bytes ∷ file_of third third_bytes ∷ []) p (two_put b c d second second_bytes third third_bytes q r)

test_true : (a b : ℕ) → a ≡ b → (a == b) ≡ true
test_true a b same = by (a == b) refl
  where
    by : (one : Bool) → (a == b) ≡ one → one ≡ true
    by true e = refl
    by false e = absurd (eqb-false a b e same)

pub shared_put : (number : ℕ) (a b c : MemFolder) (first first_bytes second second_bytes : List ℕ) → number % 10 ≡ 3 → own_shared number ≡ file_of first first_bytes ∷ file_of second second_bytes ∷ [] → IsPut a first first_bytes b → IsPut b second second_bytes c → ArePut a (shared_in number) c
shared_put number a b c first first_bytes second second_bytes is same p q =
    subst (λ files. ArePut a files c)
    (sym (ap (λ test. if test then own_shared number else []) (test_true (number % 10) 3 is) ∙ same))
    (two_put a b c first first_bytes second second_bytes p q)

-- ---- the packages, one after another

test_same : (a b c d : ℕ) → (a ≡ b → c ≡ d) → (c ≡ d → a ≡ b) → (a == b) ≡ (c == d)
test_same a b c d to from = by (a == b) (c == d) refl refl
  where
    by : (one other : Bool) → (a == b) ≡ one → (c == d) ≡ other → one ≡ other
    by true true e f = refl
    by false false e f = refl
    by true false e f = absurd (eqb-false c d f (to (eqb-true a b e)))
    by false true e f = absurd (eqb-false a b e (from (eqb-true c d f)))

-- what is left begins with the next package
pub next_package :
    (before after whole : Tree) (number count : ℕ) (is_last : Bool) → number < count → is_last ≡ (number + 1 == count)
    → with_files before (packages number (count - number)) ≡ whole → after ≡ with_files before (package_files number is_last)
    → with_files after (packages (number + 1) (count - (number + 1))) ≡ whole
next_package before after whole number count is_last below last left put =
    let k : ℕ = count - (number + 1) in
    let more : count - number ≡ suc k = omega (arith, below) in
    let same : is_last ≡ (k == 0) = last ∙ test_same (number + 1) count k 0 (λ e. omega (arith, e)) (λ e. omega (arith, e, below)) in
    ap (λ tree. with_files tree (packages (number + 1) k)) (put ∙ ap (λ b. with_files before (package_files number b)) same)
    ∙ (with_files-append before (package_files number (k == 0)) (packages (number + 1) k)
    ∙ (sym (ap (λ n. with_files before (packages number n)) more) ∙ left))

pub no_package : (tree whole : Tree) (number count : ℕ) → count - number ≡ 0 → with_files tree (packages number (count - number)) ≡ whole → tree ≡ whole
no_package tree whole number count none left = sym (ap (λ n. with_files tree (packages number n)) none) ∙ left

pub from_first : (bare tree : Tree) (count : ℕ) → bare ≡ bare_tree → tree ≡ with_files bare first_files → with_files tree (packages 0 (count - 0)) ≡ tree_of count
from_first bare tree count is put =
    ap (λ t. with_files t (packages 0 (count - 0))) (put ∙ ap (λ t. with_files t first_files) is)
    ∙ (with_files-append bare_tree first_files (packages 0 (count - 0)) ∙ ap (λ n. with_files bare_tree (first_files ++ packages 0 n)) same)
  where
    same : count - 0 ≡ count
    same = omega arith

pub empty_is_fresh : (folder : MemFolder) → IsEmptyFolder folder [] [] → rest_of folder ≡ fresh
empty_is_fresh folder is = λ i. record {
  asked = is.asked i;
  looks = is.looks i;
  look_faults = is.look_faults i;
  write_faults = is.write_faults i;
  failing_looks = is.failing_looks i;
  failing_writes = is.failing_writes i;
}
