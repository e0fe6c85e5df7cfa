-- What is known to stand there, as looks saw it.
--     as_seen              a look that was seen sees what stands there
--     seen_here, all_seen  what is known stands there, whatever looks tell
--     within_small, never_large      the limit of a file
use Rattle.std.proofs.Common.{◌≡◌, ℕ, nat_lt, List, length, Option, Some, None, refl, ap, ◌∙◌}
use Rattle.std.specs.Prelude.{All}
use Rattle.std.specs.FinMap.{get}
use Rattle.std.proofs.lemmas.Bool.{cond_both, cond-false}
use Rattle.std.proofs.lemmas.List.Elements.{All-weaker}
use Rattle.tree_spec.specs.LookAskings.{Sights}
use Rattle.tree_spec.specs.LookLimits.{look_limits}
use Rattle.tree_spec.specs.Trees.{Tree}
use Rattle.tree_spec.specs.declared.Entry.{Entry}
use Rattle.tree_spec.specs.declared.Entry.TheVariants.{Stored, Directory}
use Rattle.tree_spec.specs.declared.Look.TheVariants.{File, TooLarge}
use Rattle.package_lookup.specs.declared.held.Seen.{Seen}
use Rattle.package_lookup.specs.declared.held.Seen.TheVariants as seen
use Rattle.package_lookup.specs.declared.known.Known.{Known}
use Rattle.package_lookup.specs.LaidTrees.{look_for}
use Rattle.package_lookup.specs.Looked.{look_or, Sees, Grows}
use Rattle.package_lookup.specs.SeenLooks.{entry_of, look_seen, within_limit, seen_as}
use Rattle.package_lookup.proofs.Questions.{known_grows}
use Rattle.kept_spec.specs.Certificates.{LookSeen, AreSeen}
use Rattle.kept_answers.specs.KnownLooks.{IsSmall, IsAsKnown}

pub as_seen : (one : Seen) → look_seen one ≡ look_for (entry_of one)
as_seen seen.Absent = refl
as_seen seen.Folder = refl
as_seen (seen.File bytes) = refl

-- ---- what is known stands there

pub within_small : (found : Option Entry) → IsSmall found → within_limit (look_for found) ≡ look_for found
within_small None small = refl
within_small (Some Directory) small = refl
within_small (Some (Stored bytes)) small = cond-false _ _ _ small

pub never_large : (found : Option Entry) → TooLarge ≡ look_for found → ⊥
never_large None e = absurd (cc)
never_large (Some Directory) e = absurd (cc)
never_large (Some (Stored bytes)) e = absurd (cc)

file_by : (bytes : List ℕ) (found : Option Entry) → File bytes ≡ look_for found → Some (Stored bytes) ≡ found
file_by bytes None e = absurd (cc)
file_by bytes (Some Directory) e = absurd (cc)
file_by bytes (Some (Stored others)) e = (let same : bytes ≡ others = cc in ap (λ b. Some (Stored b)) same)

stands_by : (there found : Option Entry) → seen_as there ≡ look_for found → there ≡ found
stands_by None None e = refl
stands_by None (Some Directory) e = absurd (cc)
stands_by None (Some (Stored bytes)) e = absurd (cc)
stands_by (Some Directory) None e = absurd (cc)
stands_by (Some Directory) (Some Directory) e = refl
stands_by (Some Directory) (Some (Stored bytes)) e = absurd (cc)
stands_by (Some (Stored bytes)) found e =
    cond_both (nat_lt look_limits.file (length bytes)) TooLarge (File bytes)
    (λ look. look ≡ look_for found → Some (Stored bytes) ≡ found) (λ large f. absurd (never_large found f))
    (λ small f. file_by bytes found f) e

pub seen_here : (tree : Tree) (known : Known) (sights : Sights) (look : LookSeen) → Sees tree known sights
    → IsAsKnown known look → sights look.path ≡ look.found
seen_here tree known sights look sees is =
    stands_by (sights look.path) look.found
    (sees.each look.path
    ∙ (ap (λ l. look_or l (get tree look.path)) is.known_so ∙ within_small look.found is.small))

-- ---- what is known stays so

still_known : (before after : Known) → Grows before after → (look : LookSeen) → IsAsKnown before look
    → IsAsKnown after look
still_known before after grows look is = record {
  known_so = known_grows before after grows look.path (look_for look.found) is.known_so;
  small = is.small;
}

pub all_still : (before after : Known) → Grows before after → (looks : List LookSeen)
    → All (IsAsKnown before) looks → All (IsAsKnown after) looks
all_still before after grows looks all =
    All-weaker (IsAsKnown before) (IsAsKnown after) (still_known before after grows) looks all

pub all_seen : (tree : Tree) (known : Known) (sights : Sights) (looks : List LookSeen) → Sees tree known sights
    → All (IsAsKnown known) looks → AreSeen sights looks
all_seen tree known sights looks sees each =
    All-weaker (IsAsKnown known) (λ look. sights look.path ≡ look.found)
    (λ look is. seen_here tree known sights look sees is) looks each
