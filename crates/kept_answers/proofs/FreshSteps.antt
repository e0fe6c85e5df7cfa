-- A step for a fresh question alone.
--     none_taken           no step is taken
--     anew_taken           nothing is kept
--     again_taken          what is kept, under another name
--     other_taken          one of the kept looks sees something else
--     other_again          looks of which one sees otherwise, under another name
use Rattle.std.proofs.Common.{◌≡◌, ◌≤◌, ◌+◌, ℕ, nat_lt, Bool, true, false, List, [], ◌∷◌, ◌++◌, length, Option, Some, None, Ok, IfSome, refl, sym, ap, ◌∙◌, subst, arith}
use Rattle.std.specs.Prelude.{not, All}
use Rattle.std.specs.FinMap.{get}
use Rattle.std.proofs.lemmas.Bool.{cond_both}
use Rattle.std.proofs.lemmas.List.Elements.{All-contains, Contains-append_right}
use Rattle.tree_spec.proofs.ToldStates.{if_all, if_some}
use Rattle.tree_spec.specs.LookAskings.{Sights, look_at_each}
use Rattle.tree_spec.specs.LookLimits.{look_limits}
use Rattle.tree_spec.specs.States.{FolderState}
use Rattle.tree_spec.specs.Trees.{Tree}
use Rattle.tree_spec.specs.declared.Entry.{Entry}
use Rattle.tree_spec.specs.declared.Entry.TheVariants.{Stored, Directory}
use Rattle.tree_spec.specs.declared.Look.{Look}
use Rattle.tree_spec.specs.declared.Look.TheVariants.{Absent, Folder, File, TooLarge}
use Rattle.package_lookup.specs.Answered.{State, Tells}
use Rattle.package_lookup.specs.LaidTrees.{look_for}
use Rattle.package_lookup.specs.Looked.{look_or, Sees}
use Rattle.package_lookup.specs.Responses.{given}
use Rattle.package_lookup.specs.SeenLooks.{within_limit, seen_as}
use Rattle.package_lookup.specs.declared.known.Known.{Known}
use Rattle.package_lookup.proofs.Questions.{sees_still}
use Rattle.kept_spec.specs.Certificates.{LookSeen, paths_of}
use Rattle.kept_spec.specs.Freshness.{see_same}
use Rattle.kept_spec.proofs.Certifying.{Shows}
use Rattle.kept_spec.proofs.Freshening.{same_is_seen}
use Rattle.kept_answers.specs.Freshness.{is_fresh, step_if, TakesStepIfFresh}
use Rattle.kept_answers.specs.KnownLooks.{IsSmall, afresh, LooksTo, IsOther, LooksAgain}
use Rattle.kept_answers.proofs.KnownLemmas.{within_small, never_large}

pub none_taken : (folder : FolderState) (known : Known) (looks : Option (List LookSeen)) (taken spent : ℕ)
    → spent ≡ taken → TakesStepIfFresh folder known looks taken spent
none_taken folder known looks taken spent same =
    if_all folder.holds (λ tree sights sees. omega (arith, same))

pub anew_taken : (folder : FolderState) (known : Known) (looks : Option (List LookSeen)) (taken spent : ℕ)
    → looks ≡ None → spent ≤ taken + 1 → TakesStepIfFresh folder known looks taken spent
anew_taken folder known looks taken spent none few =
    if_all folder.holds
    (λ tree sights sees. subst (λ ls. spent ≤ taken + step_if (is_fresh sights ls)) (sym none) few)

pub again_taken : (folder : FolderState) (known : Known) (looks shown : Option (List LookSeen)) (taken spent : ℕ)
    → looks ≡ shown → TakesStepIfFresh folder known shown taken spent → TakesStepIfFresh folder known looks taken spent
again_taken folder known looks shown taken spent same takes =
    subst (λ ls. TakesStepIfFresh folder known ls taken spent) (sym same) takes

-- ---- a look that sees something else

seen_small : (found : Option Entry) → IsSmall found → seen_as found ≡ look_for found
seen_small None small = refl
seen_small (Some Directory) small = refl
seen_small (Some (Stored bytes)) small = within_small (Some (Stored bytes)) small

unlimited : (seen : Look) (found : Option Entry) → within_limit seen ≡ look_for found → seen ≡ look_for found
unlimited Absent found e = e
unlimited Folder found e = e
unlimited (File bytes) found e =
    cond_both (nat_lt look_limits.file (length bytes)) TooLarge (File bytes)
    (λ look. look ≡ look_for found → File bytes ≡ look_for found) (λ large f. absurd (never_large found f))
    (λ small f. f) e
unlimited TooLarge found e = e

not_here : (tree : Tree) (known : Known) (sights : Sights) (look : LookSeen) → Sees tree known sights
    → IsOther known look → sights look.path ≡ look.found → ⊥
not_here tree known sights look sees is same =
    is.other
    (unlimited is.seen look.found
    (sym (ap (λ l. look_or l (get tree look.path)) is.known_so)
    ∙ (sym (sees.each look.path) ∙ (ap seen_as same ∙ seen_small look.found is.small))))

false_by : (test : Bool) → (test ≡ true → ⊥) → test ≡ false
false_by true never = absurd (never refl)
false_by false never = refl

other_unseen : (before after : State) (looks : List LookSeen)
    → (both : (to : LooksTo before looks (given tt) after) × IsOther after.known to.next)
    → IfSome before.folder.holds
    (λ tree. (sights : Sights) → Sees tree before.known sights → see_same sights looks ≡ false)
other_unseen before after looks both =
    let to = both.0 in
    if_some {P = λ tree. Tells tree (afresh before) (look_at_each (paths_of to.same ++ to.next.path ∷ [])) (given tt) after}
    {Q = λ tree. (sights : Sights) → Sees tree before.known sights → see_same sights looks ≡ false}
    before.folder.holds
    (λ tree tells sights sees.
    false_by (see_same sights looks)
    (λ e. not_here tree after.known sights to.next
    (sees_still tree before.known after.known sights tells.same sees) both.1
    (All-contains (Shows sights) (to.same ++ to.next ∷ to.rest) to.next
    (subst (All (Shows sights)) to.split ((same_is_seen sights looks).0 e))
    (Contains-append_right to.same (to.next ∷ to.rest) to.next (0, omega arith, refl)))))
    to.answered.tells

pub other_again : (before after : State) (looks : List LookSeen) (same : Bool) → same ≡ false
    → LooksAgain before looks (Ok same) after
    → (to : LooksTo before looks (given tt) after) × IsOther after.known to.next
other_again before after looks same is again = subst (λ s. LooksAgain before looks (Ok s) after) is again

pub other_taken : (before after : State) (looks shown : List LookSeen) (taken spent : ℕ) → shown ≡ looks
    → (to : LooksTo before shown (given tt) after) × IsOther after.known to.next → spent ≤ taken + 1
    → TakesStepIfFresh before.folder before.known (Some looks) taken spent
other_taken before after looks shown taken spent same both few =
    subst (λ ls. TakesStepIfFresh before.folder before.known (Some ls) taken spent) same
    (if_some {P = λ tree. (sights : Sights) → Sees tree before.known sights → see_same sights shown ≡ false}
    {Q = λ tree. (sights : Sights) → Sees tree before.known sights
    → spent ≤ taken + step_if (is_fresh sights (Some shown))} before.folder.holds
    (λ tree unseen sights sees. subst (λ b. spent ≤ taken + step_if (not b)) (sym (unseen sights sees)) few)
    (other_unseen before after shown both))
