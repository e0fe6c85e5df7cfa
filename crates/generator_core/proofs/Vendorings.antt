-- How the files that a map needs come to be copied, step by step.
use Rattle.std.proofs.Common.{◌≡◌, ◌≢◌, ◌≤◌, ◌<◌, ◌⊎◌, ◌+◌, ◌++◌, [], ◌∷◌, ℕ, List, length, map, take, Option, Some, None, Result, Ok, Err, IfSome, refl, sym, ap, ◌∙◌, subst, inl, inr, arith}
use Rattle.std.specs.FinMap.{get}
use Rattle.std.specs.Prelude.{codes, option_map, Contains, true, false}
use Rattle.tree_spec.proofs.ToldStates.{if_all, if_some, if_two, looks_as, looks_then}
use Rattle.tree_spec.specs.Counts.{Rose}
use Rattle.tree_spec.specs.LookAskings.{Sights, footprint as paths_of}
use Rattle.tree_spec.specs.declared.Entry.TheVariants.{Directory, Stored}
use Rattle.tree_spec.specs.declared.Look.{Look}
use Rattle.tree_spec.specs.declared.Look.TheVariants as look
use Rattle.tree_spec.specs.declared.LookFault.TheVariants as look_fault
use Rattle.tree_spec.specs.States.{FolderState, IsLooked, OnlyLooks}
use Rattle.tree_spec.specs.Trees.{Tree, IsTree}
use Rattle.trace_spec.specs.Modules.{Config}
use Rattle.trace_spec.specs.Traces.{generation}
use Rattle.package_lookup.specs.Looked.{Sees, look_in}
use Rattle.package_lookup.specs.declared.known.Known.{Known}
use Rattle.request_trace.specs.Footprints.{IsFootprint}
use Rattle.vendor_spec.specs.Vendored.{Pair, IsPlan, Written, goals, nothing, one_more}
use Rattle.tree_vendor.proofs.PlannedFiles.{below, faults_are_of_tree, planned_are_kept, planned_is_plan, same_copies}
use Rattle.tree_vendor.specs.Copying.{AreKept, Leaves, Step, StopsAt}
use Rattle.tree_vendor.specs.Laws.{KeepsFootprint, pairs}
use Rattle.tree_vendor.specs.Planning.{ArePlanned, Plans}
use Rattle.tree_vendor.specs.declared.planning.VendorFault.{VendorFault}
use Rattle.tree_vendor.specs.declared.planning.VendorFault.TheVariants as fault
use Rattle.config_spec.specs.declared.Command.TheVariants.{Vendor}
use Rattle.generation.proofs.Generatings.{IsFresh, generated_fresh, sees_all}
use Rattle.generation.specs.Generating.{Generating, GeneratingOver, IsMapOfTree}
use Rattle.generation.specs.declared.generated.Generated.{Generated}
use Rattle.generation.specs.declared.stop.Stop.{Stop}
use Rattle.generation.specs.declared.stop.Stop.TheVariants.{Refused, ReadFault, Memory}
use Rattle.generator_spec.specs.Asked.{AsksFew, HasMap}
use Rattle.generator_spec.specs.Commands.{new_file, Opens as opens}
use Rattle.generator_spec.specs.CopiedMaps.{generation_paths}
use Rattle.generator_spec.specs.Generation.{Generates}
use Rattle.generator_spec.specs.Outcome.{FilesPlaced}
use Rattle.generator_spec.specs.Vendoring.{copied_files, IsCopyRefusal as kinds, RefusesCopies as refuses}
use Rattle.generator_spec.specs.declared.Refusal.{Refusal}
use Rattle.generator_spec.specs.declared.Refusal.TheVariants.{Occupied, PathTooLong, TooManySegments}
use Rattle.generator_core.specs.declared.vendoring.Copies.{Copies}
use Rattle.generator_core.specs.Vendoring.{as_new, new_files, AsksCopies, AsksCopies as asks, EndsCopies, IsFree}
use Rattle.generator_core.specs.Vendoring.{IsReadyTo, PreparesCopies, RefusesHere, RefusesHere as here, StandsAt, StopsCopies, StopsCopies as stops, StopsPlan}
use Rattle.generator_core.specs.Writing.{WritesFiles, WritesFiles as writes_files}
use Rattle.generator_core.proofs.Preparings.{asks_few}

-- ---- lists of files

new_goals : (to : List ℕ) (files : List Pair) → map as_new (goals to files) ≡ copied_files to files
new_goals to [] = refl
new_goals to (file ∷ more) = ap (λ rest. new_file (to ++ file.0) file.1 ∷ rest) (new_goals to more)

pub same_files : (footprint : List (List ℕ)) (known : Known) (to : List ℕ) (steps : List Step) → to ≢ codes "/"
    → ArePlanned footprint known to steps → new_files known steps ≡ copied_files to (pairs known steps)
same_files footprint known to steps deep planned =
    ap (map as_new) (same_copies known to steps (below footprint known to steps planned deep))
    ∙ new_goals to (pairs known steps)

placed_all : (files : List Pair) (tree after : Tree) → Written tree files after → FilesPlaced tree (map as_new files) after
placed_all _ _ _ (nothing tree) = refl
placed_all _ _ _ (one_more tree middle after file more placed later) = (middle, placed, placed_all more middle after later)

-- ---- a generation

generates_of : (tree : Tree) (config : Config) (found : Generated) → IsMapOfTree tree config found → Generates tree config found.map.items
generates_of tree config found is = record {
  all = is.all;
  is_traced = is.is_traced;
  few = is.is_map.few;
  layout = is.is_map.layout;
  is_fewest = is.is_map.is_fewest;
  text = is.is_map.map;
  within = is.is_map.within;
}

module _ (to : List ℕ) (config : Config) (before middle : FolderState) (known later : Known) (fresh : IsFresh known) where
  few : (result : Result Generated Stop) → Generating config before result middle → IfSome before.asked (λ old. AsksFew Vendor config before.holds old middle)
  few result is = asks_few Vendor config before.holds before.asked middle (if_all before.holds (λ tree. opens.nothing_first)) is.asked is.footprint

  stopped_by : (stop : Stop) → Generating config before (Err stop) middle → EndsCopies to config before middle stop
  stopped_by (Refused why) is = record {
    refused = if_some before.holds (λ tree each. here.command (each Vendor tt opens.nothing_first)) is.refused;
    kind = inl (is.kind Vendor tt);
    looks = looks_as before middle (λ e. absurd (cc)) (λ e. absurd (cc)) is.looks;
  }
  stopped_by ReadFault is = record { refused = tt; kind = tt; looks = looks_as before middle (λ e. refl) (λ e. refl) is.looks }
  stopped_by Memory is = record { refused = tt; kind = tt; looks = looks_as before middle (λ e. absurd (cc)) (λ e. absurd (cc)) is.looks }

  -- nothing is generated
  pub not_generated : (stop : Stop) → GeneratingOver config before known (Err stop) middle later → PreparesCopies to config before (Err stop) middle
  not_generated stop over =
      let is = generated_fresh config before middle known later fresh (Err stop) over in
      record { ready = tt; asked = if_some before.asked (λ old is. asks.early is) (few (Err stop) is); stopped = stopped_by stop is }

  module _ (found : Generated) (over : GeneratingOver config before known (Ok found) middle later) where
    is_generated : Generating config before (Ok found) middle
    is_generated = generated_fresh config before middle known later fresh (Ok found) over

    fine : OnlyLooks before middle ⊥
    fine = looks_as before middle (λ e. absurd e) (λ e. absurd (cc)) is_generated.looks

    maps : IfSome before.holds (λ tree. Generates tree config found.map.items)
    maps = if_some before.holds (λ tree is. generates_of tree config found is) is_generated.generated

    has_map : HasMap config before.holds
    has_map = if_some before.holds (λ tree is. (found.map.items, is)) maps

    -- the folder of the copies is asked for last
    asks_last : (after : FolderState) → (after.asked ≡ middle.asked) ⊎ (after.asked ≡ option_map (λ paths. paths ++ to ∷ []) middle.asked)
        → IfSome before.asked (λ old. AsksCopies to config before old after)
    asks_last after asked =
        if_some before.asked
        (λ old few. elim asked [
          | inl same ↦ asks.early (record {
            first = few.first;
            is_own = few.is_own;
            more = few.more;
            asked = same ∙ few.asked;
            once = few.once;
            of_footprint = few.of_footprint;
            opened = few.opened;
          })
          | inr last ↦ asks.late has_map middle few last
        ])
        (few (Ok found) is_generated)

    module _ (after : FolderState) where
      occupied_so : (why : Refusal) → why ≡ Occupied to → IfSome middle.holds (λ tree. StandsAt tree to)
          → IfSome before.holds (λ tree. RefusesHere to config tree why)
      occupied_so why same stands =
          if_two before.holds
          (λ tree generates at. here.copies found.map.items generates
          (subst (refuses tree to (generation_paths tree config)) (sym same) (refuses.occupied at.entry at.stands)))
          maps (subst (λ held. IfSome held (λ tree. StandsAt tree to)) fine.tree stands)

      not_free_by : (stop : Stop) → IsFree to middle (Err stop) after → EndsCopies to config before after stop
      not_free_by (Refused why) is = record {
        refused = occupied_so why is.refused.0 is.refused.1;
        kind = inr (subst (kinds to) (sym is.refused.0) kinds.occupied);
        looks = looks_as before after (λ e. absurd (cc)) (λ e. absurd (cc)) (looks_then before middle after (λ e. e) fine is.looks);
      }
      not_free_by ReadFault is = record {
        refused = tt;
        kind = tt;
        looks = looks_as before after (λ e. refl) (λ e. refl) (looks_then before middle after (λ e. e) fine is.looks);
      }
      not_free_by Memory is = record {
        refused = tt;
        kind = tt;
        looks = looks_as before after (λ e. absurd (cc)) (λ e. absurd (cc)) (looks_then before middle after (λ e. e) fine is.looks);
      }

      -- something stands there
      pub not_free : (stop : Stop) → IsFree to middle (Err stop) after → PreparesCopies to config before (Err stop) after
      not_free stop is = record { ready = tt; asked = asks_last after is.asked; stopped = not_free_by stop is }

      module _ (deep : to ≢ codes "/") (footprint : List (List ℕ)) (told : IfSome before.holds IsTree)
          (of : IsFootprint config before known later footprint) (free : IsFree to middle (Ok tt) after) where
        quiet : OnlyLooks before after ⊥
        quiet = looks_as before after (λ e. absurd e) (λ e. absurd (cc)) (looks_then before middle after (λ e. e) fine free.looks)

        -- what is kept is what looks at a told tree see
        record IsOfTree (tree : Tree) : Type 0 where
          is_tree : IsTree tree
          keeps : KeepsFootprint tree later footprint
          same : footprint ≡ generation_paths tree config
          generates : Generates tree config found.map.items
          nothing_there : get tree to ≡ None

        fresh_sees : (tree : Tree) → Sees tree known (get tree)
        fresh_sees tree = sees_all tree known fresh

        abbrev IsOfGeneration : Tree → Type 0
        IsOfGeneration tree = (sights : Sights) → Sees tree known sights → footprint ≡ paths_of sights (generation config)

        abbrev StaysSame : Tree → Type 0
        StaysSame tree = (path : List ℕ) → look_in tree later path ≡ look_in tree known path

        of_tree : IfSome before.holds IsOfTree
        of_tree = by before.holds told maps (subst (λ held. IfSome held (λ tree. get tree to ≡ None)) fine.tree free.free) of.is over.learns.same
          where
            by :
                (held : Option Tree) → IfSome held IsTree → IfSome held (λ tree. Generates tree config found.map.items)
                → IfSome held (λ tree. get tree to ≡ None) → IfSome held IsOfGeneration → IfSome held StaysSame
                → IfSome held IsOfTree
            by None is generates none of_sights same = tt
            by (Some tree) is generates none of_sights same = record {
              is_tree = is;
              keeps =
                  record {
                    none_laid = λ path. over.learns.known.laid path ∙ fresh.laid path;
                    sees = record { each = λ path. (fresh_sees tree).each path ∙ sym (same path) };
                    covered = of.kept;
                  };
              same = of_sights (get tree) (fresh_sees tree);
              generates = generates;
              nothing_there = none;
            }

        abbrev refused_tree : Refusal → Type 0
        refused_tree why = IfSome before.holds (λ tree. RefusesHere to config tree why)

        copies_refused : (why : Refusal) → ((tree : Tree) → IsOfTree tree → refuses tree to footprint why) → refused_tree why
        copies_refused why each =
            if_some before.holds
            (λ tree is. here.copies found.map.items is.generates
            (subst (λ paths. refuses tree to paths why) is.same (each tree is))) of_tree

        no_plan_by : (fault : VendorFault) (stop : Stop) → Plans footprint later to (Err fault) → StopsPlan fault stop → EndsCopies to config before after stop
        no_plan_by fault.PathTooLong stop has same =
            subst (EndsCopies to config before after) (sym same) (record {
              refused = copies_refused PathTooLong (λ tree is. refuses.long is.nothing_there
                  ((faults_are_of_tree tree to footprint later is.is_tree deep is.keeps).long.0 has));
              kind = inr kinds.long;
              looks = looks_as before after (λ e. absurd (cc)) (λ e. absurd e) quiet;
            })
        no_plan_by fault.TooManySegments stop has same =
            subst (EndsCopies to config before after) (sym same) (record {
              refused = copies_refused TooManySegments (λ tree is.
                  let agree = faults_are_of_tree tree to footprint later is.is_tree deep is.keeps in
                  refuses.deep is.nothing_there (λ long. has.0 (agree.long.1 long)) (agree.deep.0 has.1));
              kind = inr kinds.deep;
              looks = looks_as before after (λ e. absurd (cc)) (λ e. absurd e) quiet;
            })
        no_plan_by fault.Memory stop has same =
            subst (EndsCopies to config before after) (sym same)
            (record { refused = tt; kind = tt; looks = looks_as before after (λ e. absurd (cc)) (λ e. absurd e) quiet })

        -- a copy's path has too much
        pub no_plan : (fault : VendorFault) (stop : Stop) → Plans footprint later to (Err fault) → StopsPlan fault stop → PreparesCopies to config before (Err stop) after
        no_plan fault stop has same = record { ready = tt; asked = asks_last after free.asked; stopped = no_plan_by fault stop has same }

        -- the copies can be written
        pub prepared : (copies : Copies) → copies.known ≡ later → ArePlanned footprint later to copies.plan → PreparesCopies to config before (Ok copies) after
        prepared copies same planned = record {
          ready = record {
            told = if_some before.holds
                (λ tree is. subst (λ k. IsReadyTo to config tree k copies.plan) (sym same) (record {
                  is_tree = is.is_tree;
                  map = found.map.items;
                  generates = is.generates;
                  bytes = record { small = λ path held. planned.bytes path (subst (λ paths. Contains paths path) (sym is.same) held) };
                  free = is.nothing_there;
                  is_plan = subst (λ paths. IsPlan tree to paths (pairs later copies.plan)) is.same
                      (planned_is_plan tree to footprint later copies.plan is.is_tree deep is.keeps planned).is_plan;
                })) of_tree;
            files = subst (λ k. new_files k copies.plan ≡ copied_files to (pairs k copies.plan)) (sym same)
                (same_files footprint later to copies.plan deep planned);
            kept = subst (λ k. AreKept k copies.plan) (sym same) (planned_are_kept footprint later to copies.plan planned);
            looks = quiet;
          };
          asked = asks_last after free.asked;
          stopped = tt;
        }

-- ---- a look at the folder of the copies

module _ (to : List ℕ) (limit : ℕ) (before after : FolderState) where
  abbrev IsSeen : Look → Type 0
  IsSeen found = IsLooked before to limit (Ok found) after

  seen : {P : Type 0} (found : Look) → (P → ⊥) → IsSeen found → OnlyLooks before after P
  seen found not is = record {
    tree = is.tree;
    writes = is.writes;
    later = is.later;
    cause = λ e. absurd (not e);
    quiet = λ none. is.quiet (λ same. cc);
  }

  pub free_there : (found : Look) → found ≡ look.Absent → IsSeen found → IsFree to before (Ok tt) after
  free_there found same is = by (subst IsSeen same is)
    where
      by : IsSeen look.Absent → IsFree to before (Ok tt) after
      by there = record { free = there.entry; refused = tt; looks = seen look.Absent (λ e. absurd (cc)) there; asked = inr there.asked }

  not_free_there : (found : Look) (stop : Stop) → IfSome before.holds (λ tree. StandsAt tree to) → StopsCopies to stop → IsSeen found → IsFree to before (Err stop) after
  not_free_there found stop stands (stops.occupied same) is =
      subst (λ (s : Stop). IsFree to before (Err s) after) (sym same)
      (record { free = tt; refused = (refl, stands); looks = seen found (λ e. absurd (cc)) is; asked = inr is.asked })
  not_free_there found stop stands (stops.memory same) is =
      subst (λ (s : Stop). IsFree to before (Err s) after) (sym same)
      (record { free = tt; refused = tt; looks = seen found (λ e. absurd (cc)) is; asked = inr is.asked })

  pub folder_there : (found : Look) (stop : Stop) → found ≡ look.Folder → StopsCopies to stop → IsSeen found → IsFree to before (Err stop) after
  folder_there found stop same stops is =
      let there : IsSeen look.Folder = subst IsSeen same is in
      not_free_there look.Folder stop (if_some before.holds (λ tree e. record { entry = Directory; stands = e }) there.entry) stops there

  pub file_there : (found : Look) (bytes : List ℕ) (stop : Stop) → found ≡ look.File bytes → StopsCopies to stop → IsSeen found → IsFree to before (Err stop) after
  file_there found bytes stop same stops is =
      let there : IsSeen (look.File bytes) = subst IsSeen same is in
      not_free_there (look.File bytes) stop (if_some before.holds (λ tree e. record { entry = Stored bytes; stands = e.0 }) there.entry) stops there

  pub large_there : (found : Look) (stop : Stop) → found ≡ look.TooLarge → StopsCopies to stop → IsSeen found → IsFree to before (Err stop) after
  large_there found stop same stops is =
      let there : IsSeen look.TooLarge = subst IsSeen same is in
      not_free_there look.TooLarge stop (if_some before.holds (λ tree e. record { entry = Stored e.0; stands = e.1 }) there.entry) stops there

  pub look_failed : IsLooked before to limit (Err look_fault.Failed) after → IsFree to before (Err ReadFault) after
  look_failed is = record {
    free = tt;
    refused = tt;
    looks = record { tree = is.tree; writes = is.writes; later = is.later; cause = λ e. is.failed refl; quiet = λ none. absurd (none refl) };
    asked = inl is.asked;
  }

  pub look_lacks : IsLooked before to limit (Err look_fault.Memory) after → IsFree to before (Err Memory) after
  look_lacks is = record {
    free = tt;
    refused = tt;
    looks = record { tree = is.tree; writes = is.writes; later = is.later; cause = λ e. absurd (cc); quiet = λ none. is.quiet (λ same. cc) };
    asked = inl is.asked;
  }

-- ---- the writes

module _ (before after : FolderState) (files : List Pair) where
  pub wrote_all : Leaves files before after → after.write_faults ≡ before.write_faults → WritesFiles (map as_new files) before true after
  wrote_all is quiet =
      writes_files.all refl
      (if_some before.holds (λ tree w. record { after = w.0; is_told = w.1; placed = placed_all files tree w.0 w.2 }) is.written) quiet
      (record { untold = is.untold; asked = is.asked; looks = is.looks; later = omega (arith, quiet) })

  taken_front : (done : List Pair) (file : Pair) (rest : List Pair) → files ≡ done ++ file ∷ rest
      → take (length done) (map as_new files) ≡ map as_new done
  taken_front done file rest split =
      ap (λ all. take (length done) (map as_new all)) split ∙ by done
    where
      by : (front : List Pair) → take (length front) (map as_new (front ++ file ∷ rest)) ≡ map as_new front
      by [] = refl
      by (first ∷ more) = ap (λ all. as_new first ∷ all) (by more)

  fewer : (done : List Pair) (file : Pair) (rest : List Pair) → files ≡ done ++ file ∷ rest → length done < length (map as_new files)
  fewer done file rest split = subst (λ all. length done < length (map as_new all)) (sym split) (by done)
    where
      by : (front : List Pair) → length front < length (map as_new (front ++ file ∷ rest))
      by [] = omega arith
      by (first ∷ more) = let n = by more in omega (arith, n)

  pub wrote_some : StopsAt files before after → Rose before.write_faults after.write_faults → before.write_faults ≤ after.write_faults
      → WritesFiles (map as_new files) before false after
  wrote_some is rose later =
      writes_files.some refl
      (if_some before.holds
      (λ tree w. record {
        count = length is.done;
        fewer = fewer is.done is.file is.rest is.split;
        written =
            record {
              after = w.0;
              is_told = w.1;
              placed = subst (λ some. FilesPlaced tree some w.0) (sym (taken_front is.done is.file is.rest is.split)) (placed_all is.done tree w.0 w.2);
            };
      }) is.leaves.written) rose
      (record { untold = is.leaves.untold; asked = is.leaves.asked; looks = is.leaves.looks; later = later })
