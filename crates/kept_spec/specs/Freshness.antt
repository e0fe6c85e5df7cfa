-- What has to be asked anew behind a change.
--     is_found one other                   the same stands there, or nothing both times
--     see_same sights looks                what was seen stands at each of these paths
--     HasChanged before after asking       at a path of the asking's footprint something else stands than before
--     IsFresh was_asked before after asking      it wasn't asked before, or something changed at its footprint
use Rattle.std.specs.Prelude.{◌≢◌, ◌⊎◌, ℕ, Bool, true, false, List, bytes_eq, Contains, Option, Some, None}
use Rattle.std.specs.List.{list_all}
use Rattle.tree_spec.specs.LookAskings.{Sights, LookAsking, footprint}
use Rattle.tree_spec.specs.declared.Entry.{Entry}
use Rattle.tree_spec.specs.declared.Entry.TheVariants.{Stored, Directory}
use Rattle.kept_spec.specs.Certificates.{LookSeen}

abbrev pub is_found : Option Entry → Option Entry → Bool
is_found None None = true
is_found None (Some entry) = false
is_found (Some Directory) None = false
is_found (Some Directory) (Some Directory) = true
is_found (Some Directory) (Some (Stored bytes)) = false
is_found (Some (Stored bytes)) None = false
is_found (Some (Stored bytes)) (Some Directory) = false
is_found (Some (Stored bytes)) (Some (Stored others)) = bytes_eq bytes others

abbrev pub see_same : Sights → List LookSeen → Bool
see_same sights looks = list_all (λ look. is_found (sights look.path) look.found) looks

pub record HasChanged {X : Type 0} (before after : Sights) (asking : LookAsking X) : Type 0 where
  pub path : List ℕ
  pub among : Contains (footprint before asking) path
  pub other : before path ≢ after path

-- own: of a question that is put as this asking; a module's file is in the footprint of its source, so that other bytes
-- are a change
abbrev pub IsFresh : {X : Type 0} → Type 0 → Sights → Sights → LookAsking X → Type 0
IsFresh was_asked before after asking = (was_asked → ⊥) ⊎ HasChanged before after asking
