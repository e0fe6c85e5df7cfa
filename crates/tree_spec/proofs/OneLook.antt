-- A look has one answer.
use Rattle.std.proofs.Common.{ap, arith, sym, ◌∙◌}
use Rattle.std.specs.Prelude.{◌≡◌, ◌≤◌, ◌<◌, ℕ, List, length, Some, None, refl, Option}
use Rattle.tree_spec.specs.Looks.{IsLook}
use Rattle.tree_spec.specs.Trees.{Tree}
use Rattle.tree_spec.specs.declared.Entry.TheVariants.{Stored, Directory}
use Rattle.tree_spec.specs.declared.Look.{Look}
use Rattle.tree_spec.specs.declared.Look.TheVariants.{Absent, Folder, File, TooLarge}
use Rattle.tree_spec.specs.declared.Entry.{Entry}

-- what is stored has one content
pub same_stored : {found : Option Entry} {bytes more : List ℕ} → found ≡ Some (Stored bytes) → found ≡ Some (Stored more) → bytes ≡ more
same_stored e f = cc

short_and_long : (bytes more : List ℕ) (limit : ℕ) → Some (Stored bytes) ≡ Some (Stored more) → length bytes ≤ limit → limit < length more → ⊥
short_and_long bytes more limit e short long =
    let same : bytes ≡ more = cc in
    let lengths : length bytes ≡ length more = ap length same in
    omega arith

pub one_look : (tree : Tree) (path : List ℕ) (limit : ℕ) (look other : Look) → IsLook tree path limit look → IsLook tree path limit other → look ≡ other
one_look tree path limit Absent Absent a b = refl
one_look tree path limit Absent Folder a b = let wrong : None ≡ Some Directory = sym a ∙ b in cc
one_look tree path limit Absent (File bytes) a b = let wrong : None ≡ Some (Stored bytes) = sym a ∙ b.0 in cc
one_look tree path limit Absent TooLarge a b = let wrong : None ≡ Some (Stored b.0) = sym a ∙ b.1 in cc
one_look tree path limit Folder Absent a b = let wrong : None ≡ Some Directory = sym b ∙ a in cc
one_look tree path limit Folder Folder a b = refl
one_look tree path limit Folder (File bytes) a b = let wrong : Some Directory ≡ Some (Stored bytes) = sym a ∙ b.0 in cc
one_look tree path limit Folder TooLarge a b = let wrong : Some Directory ≡ Some (Stored b.0) = sym a ∙ b.1 in cc
one_look tree path limit (File bytes) Absent a b = let wrong : None ≡ Some (Stored bytes) = sym b ∙ a.0 in cc
one_look tree path limit (File bytes) Folder a b = let wrong : Some Directory ≡ Some (Stored bytes) = sym b ∙ a.0 in cc
one_look tree path limit (File bytes) (File more) a b = let same : Some (Stored bytes) ≡ Some (Stored more) = sym a.0 ∙ b.0 in cc
one_look tree path limit (File bytes) TooLarge a b = absurd (short_and_long bytes b.0 limit (sym a.0 ∙ b.1) a.1 b.2)
one_look tree path limit TooLarge Absent a b = let wrong : None ≡ Some (Stored a.0) = sym b ∙ a.1 in cc
one_look tree path limit TooLarge Folder a b = let wrong : Some Directory ≡ Some (Stored a.0) = sym b ∙ a.1 in cc
one_look tree path limit TooLarge (File bytes) a b = absurd (short_and_long bytes a.0 limit (sym b.0 ∙ a.1) b.1 a.2)
one_look tree path limit TooLarge TooLarge a b = refl
