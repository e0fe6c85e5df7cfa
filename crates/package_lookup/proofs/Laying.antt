-- Looks that are laid over a tree, and a tree that stands behind them.
use Rattle.std.proofs.Common.{◌≡◌, ℕ, Bool, true, false, List, Option, Some, None, refl, sym, ap, ◌∙◌, subst}
use Rattle.std.specs.Prelude.{bytes_eq, cond, if◌then◌else◌}
use Rattle.std.specs.FinMap.{get, insert, remove, get-remove}
use Rattle.std.specs.Cmp.Lexicographic.{nat_list_cmp_total}
use Rattle.std.specs.Option.{option_or}
use Rattle.std.proofs.lemmas.Map.Text.{is_eq-slice_cmp}
use Rattle.std.proofs.lemmas.Cmp.{nat_list_eq_equiv}
use Rattle.tree_spec.specs.Trees.{Tree}
use Rattle.tree_spec.proofs.Insertion.{get_inserted, same_tree}
use Rattle.tree_spec.specs.declared.Entry.{Entry}
use Rattle.tree_spec.specs.declared.Entry.TheVariants.{Stored, Directory}
use Rattle.tree_spec.specs.declared.Look.{Look}
use Rattle.tree_spec.specs.declared.Look.TheVariants.{Absent, Folder, File, TooLarge}
use Rattle.package_lookup.specs.declared.known.Known.{Known}
use Rattle.package_lookup.specs.declared.over.Over.{Over}
use Rattle.package_lookup.specs.Looked.{over_at, laid_at, kept_at, look_or, look_in, Sees, Puts, Grows}
use Rattle.package_lookup.specs.SeenLooks.{within_limit, seen_as}
use Rattle.package_lookup.specs.LaidTrees.{StandsBehind, look_for, IsThere, IsLaid}
use Rattle.package_lookup.specs.Laws.{LaidIsSeen, OneLaid, SettingLays, DroppingLays, NothingLaid, LaidAlike}
use Rattle.package_lookup.specs.Laws.{NothingKept, LooksKeepBehind}

seen_for : (found : Option Entry) → seen_as found ≡ within_limit (look_for found)
seen_for None = refl
seen_for (Some Directory) = refl
seen_for (Some (Stored bytes)) = refl

see_by : (laid kept : Option Look) (behind after : Option Entry)
    → ((look : Look) → kept ≡ Some look → within_limit look ≡ seen_as behind) → IsThere laid behind after
    → seen_as after ≡ look_or (option_or laid kept) behind
see_by None None behind after kept_so e = ap seen_as e
see_by None (Some look) behind after kept_so e = ap seen_as e ∙ sym (kept_so look refl)
see_by (Some look) kept behind after kept_so e = seen_for after ∙ ap within_limit (sym e)

pub laid_is_seen : LaidIsSeen
laid_is_seen tree after known stands laid = record {
  each = λ path. see_by (laid_at known path) (kept_at known path) (get tree path) (get after path) (stands.kept path)
      (laid.each path);
}

look_by : (some other : Option Entry) → look_for some ≡ look_for other → some ≡ other
look_by None None e = refl
look_by None (Some Directory) e = absurd (cc)
look_by None (Some (Stored bytes)) e = absurd (cc)
look_by (Some Directory) None e = absurd (cc)
look_by (Some Directory) (Some Directory) e = refl
look_by (Some Directory) (Some (Stored bytes)) e = absurd (cc)
look_by (Some (Stored bytes)) None e = absurd (cc)
look_by (Some (Stored bytes)) (Some Directory) e = absurd (cc)
look_by (Some (Stored bytes)) (Some (Stored others)) e = (let same : bytes ≡ others = cc in ap (λ b. Some (Stored b)) same)

one_by : (laid : Option Look) (behind some other : Option Entry) → IsThere laid behind some → IsThere laid behind other
    → some ≡ other
one_by None behind some other a b = a ∙ sym b
one_by (Some look) behind some other a b = look_by some other (sym a ∙ b)

pub one_laid : OneLaid
one_laid tree some other over a b =
    same_tree some other (λ path. one_by (over_at over path) (get tree path) (get some path) (get other path) (a.each path) (b.each path))

set_by : (same : Bool) (look : Look) (laid : Option Look) (behind there after : Option Entry) → look ≡ look_for after
    → IsThere laid behind there → IsThere (if same then Some look else laid) behind (cond same after there)
set_by true look laid behind there after here e = here
set_by false look laid behind there after here e = e

there_as : (one other : Option Look) (behind some after : Option Entry) → other ≡ one → after ≡ some → IsThere one behind some
    → IsThere other behind after
there_as one other behind some after e f is = subst (λ l. IsThere l behind after) (sym e) (subst (λ x. IsThere one behind x) (sym f) is)

turned : (path other : List ℕ) → bytes_eq other path ≡ bytes_eq path other
turned path other = nat_list_eq_equiv.symm other path

pub setting_lays : SettingLays
setting_lays tree after old new path entry laid puts = record {
  each = λ other.
      there_as (if bytes_eq path other then Some (look_for (Some entry)) else over_at old other) (over_at new other)
      (get tree other) (cond (bytes_eq path other) (Some entry) (get after other)) (get (insert after path entry) other)
      (puts other)
      (get_inserted after path entry other ∙ ap (λ b. cond b (Some entry) (get after other)) (turned path other))
      (set_by (bytes_eq path other) (look_for (Some entry)) (over_at old other) (get tree other) (get after other)
      (Some entry) refl (laid.each other));
}

get_removed : (tree : Tree) (path other : List ℕ) → get (remove tree path) other ≡ cond (bytes_eq other path) None (get tree other)
get_removed tree path other =
    get-remove nat_list_cmp_total tree path other ∙ ap (λ b. cond b None (get tree other)) (is_eq-slice_cmp other path)

pub dropping_lays : DroppingLays
dropping_lays tree after old new path laid puts = record {
  each = λ other.
      there_as (if bytes_eq path other then Some Absent else over_at old other) (over_at new other) (get tree other)
      (cond (bytes_eq path other) None (get after other)) (get (remove after path) other) (puts other)
      (get_removed after path other ∙ ap (λ b. cond b None (get after other)) (turned path other))
      (set_by (bytes_eq path other) Absent (over_at old other) (get tree other) (get after other) None refl
      (laid.each other));
}

pub nothing_laid : NothingLaid
nothing_laid tree over none = record { each = λ path. subst (λ l. IsThere l (get tree path) (get tree path)) (sym (none path)) refl }

pub laid_alike : LaidAlike
laid_alike tree after over other same laid =
    record { each = λ path. subst (λ l. IsThere l (get tree path) (get after path)) (sym (same path)) (laid.each path) }

-- ---- the tree behind

pub nothing_kept : NothingKept
nothing_kept tree known none = record { kept = λ path look e. (let f = none path in absurd (cc)) }

-- a look at a path over which nothing is laid tells what the tree holds there
tells_tree : (kept : Option Look) (behind : Option Entry)
    → ((look : Look) → kept ≡ Some look → within_limit look ≡ seen_as behind) → look_or kept behind ≡ seen_as behind
tells_tree None behind is = refl
tells_tree (Some look) behind is = is look refl

kept_behind : (laid after_laid before after : Option Look) (behind : Option Entry) (look : Look) → after_laid ≡ laid
    → ((found : Look) → laid ≡ Some found → after ≡ before)
    → look_or (option_or after_laid after) behind ≡ look_or (option_or laid before) behind
    → ((found : Look) → before ≡ Some found → within_limit found ≡ seen_as behind) → after ≡ Some look
    → within_limit look ≡ seen_as behind
kept_behind (Some found) after_laid before after behind look laid under same is e =
    is look (sym (under found refl) ∙ e)
kept_behind None after_laid before after behind look laid under same is e =
    ap (λ l. look_or l behind) (sym e)
    ∙ (ap (λ l. look_or (option_or l after) behind) (sym laid) ∙ (same ∙ tells_tree before behind is))

pub looks_keep_behind : LooksKeepBehind
looks_keep_behind tree before after grows same stands = record {
  kept = λ path look e.
      kept_behind (laid_at before path) (laid_at after path) (kept_at before path) (kept_at after path) (get tree path)
      look (grows.laid path) (grows.under path) (same path) (stands.kept path) e;
}
