-- How it comes to be told of copies.
use Rattle.std.proofs.Common.{◌≡◌, ◌≤◌, ◌<◌, ◌⊎◌, ◌++◌, ℕ, List, [], ◌∷◌, length, Option, Some, None, Ok, Err, IfSome, refl, sym, ap, ◌∙◌, subst, inl, inr, arith}
use Rattle.std.specs.Prelude.{true, false}
use Rattle.std.proofs.lemmas.List.{length-map}
use Rattle.tree_spec.proofs.ToldStates.{if_some, if_two, looks_as}
use Rattle.tree_spec.specs.Counts.{Rose}
use Rattle.tree_spec.specs.States.{FolderState, SinkState}
use Rattle.tree_spec.specs.Trees.{Tree}
use Rattle.trace_spec.specs.Modules.{Config}
use Rattle.words_spec.proofs.PlainIsRead.{one_asked}
use Rattle.words_spec.specs.PlainWords.{vendoring}
use Rattle.config_spec.proofs.WordsJudged.{path_vendored}
use Rattle.config_spec.specs.declared.Command.TheVariants.{Refresh, Vendor}
use Rattle.config_spec.specs.Projects.{project_path, IsConfigOf}
use Rattle.config_spec.specs.Words.{command_of, IsCommandOf, VendorsTo}
use Rattle.command_words.specs.Orders.{VendorsAt}
use Rattle.project_spec.specs.ProjectFiles.{IsPagePath}
use Rattle.session_spec.specs.Openings.{refresh_words}
use Rattle.generation.specs.declared.stop.Stop.{Stop}
use Rattle.generation.specs.declared.stop.Stop.TheVariants.{Refused, ReadFault, Memory}
use Rattle.generator_spec.specs.declared.Refusal.{Refusal}
use Rattle.generator_spec.proofs.CopiedMaps.{vendored_generates}
use Rattle.generator_spec.proofs.Configs.{command_for}
use Rattle.generator_spec.proofs.Vendorings.{written_files}
use Rattle.generator_spec.specs.Asked.{AsksInOrder, AsksFew, AsksInOrder as in_order, AsksOwn, HasMap, IsConfigAt}
use Rattle.generator_spec.specs.Commands.{IsRefusalOf, NewFile}
use Rattle.generator_spec.specs.Ending.{AreWritten, CanRefuse, CanRefuse as can_refuse, Ends, EndsAs, IsDone, IsDone as done, Says, Says as says}
use Rattle.generator_spec.specs.Ending.{Shaped as shaped, StopsCopying}
use Rattle.generator_spec.specs.Lines.{memory_line, vendored_line, write_fault_line}
use Rattle.generator_spec.specs.Outcome.{ComesTo as comes, Outcome, RefusesRun, RefusesRun as refuses_run}
use Rattle.generator_spec.specs.Vendoring.{CanCopy, copied_files, IsCopyRefusal, Vendors}
use Rattle.tree_vendor.specs.Laws.{pairs}
use Rattle.generator_core.specs.declared.vendoring.Copies.{Copies}
use Rattle.generator_core.specs.Configuring.{FindsConfig}
use Rattle.generator_core.specs.Vendoring.{AreReady, AsksCopies, AsksCopies as asks, EndsCopies, EndsFiles, IsReadyTo, new_files}
use Rattle.generator_core.specs.Vendoring.{RefusesHere, RefusesHere as here}
use Rattle.generator_core.specs.Writing.{AreSome, IsWriting, SaysWrite, SaysWrite as writes, TellsStop, WritesFiles, WritesFiles as writes_files}
use Rattle.generator_core.proofs.Endings.{ends_by_line, memory_ends, read_fault_ends, refusal_ends}
use Rattle.generator_core.proofs.Refreshed.{asks_command, takes_no_project, takes_project, vendor_takes}

-- ---- the project as it stands

module _ (words : List (List ℕ)) (path : List ℕ) (is : VendorsAt words path) where
  pub vendor_command : IsCommandOf words Vendor
  vendor_command = asks_command words (vendoring path) Vendor is.asks (vendor_takes path is.is_path)

  module _ (before after : FolderState) where
    pub vendors_project : (config : Config) → FindsConfig refresh_words Refresh before (Ok config) after → FindsConfig words Vendor before (Ok config) after
    vendors_project config at = takes_project words (vendoring path) Vendor is.asks (vendor_takes path is.is_path) before after config at

    pub vendors_no_project : (stop : Stop) → FindsConfig refresh_words Refresh before (Err stop) after → FindsConfig words Vendor before (Err stop) after
    vendors_no_project stop at = takes_no_project words (vendoring path) Vendor is.asks (vendor_takes path is.is_path) before after stop at

-- ---- what is asked for

pub copies_ask :
    (words : List (List ℕ)) (to : List ℕ) (config : Config) (before middle after : FolderState) (told : Option (List (List ℕ))) → VendorsTo words to
    → IsConfigAt words Vendor config before → middle.holds ≡ before.holds → IfSome told (λ old. AsksOwn (project_path ∷ []) old middle)
    → IfSome middle.asked (λ old. AsksCopies to config middle old after) → IfSome told (λ old. AsksInOrder words before old after)
copies_ask words to config before middle after None asks_to is same own later = tt
copies_ask words to config before middle after (Some old) asks_to is same own later =
    by (subst (λ told. IfSome told (λ paths. AsksCopies to config middle paths after)) own.asked later)
  where
    by : AsksCopies to config middle (old ++ own.first) after → AsksInOrder words before old after
    by (asks.early few) =
        in_order.then own.first own.is_own Vendor config is
        (subst (λ held. AsksFew Vendor config held (old ++ own.first) after) same few)
    by (asks.late has between few last) =
        in_order.behind own.first own.is_own to config asks_to is (subst (HasMap config) same has) between
        (subst (λ held. AsksFew Vendor config held (old ++ own.first) between) same few) last

-- writes ask for nothing
pub still_asked : (to : List ℕ) (config : Config) (before middle after : FolderState) → after.asked ≡ middle.asked
    → IfSome before.asked (λ old. AsksCopies to config before old middle) → IfSome before.asked (λ old. AsksCopies to config before old after)
still_asked to config before middle after same asked = if_some before.asked (λ old is. by old is) asked
  where
    by : (old : List (List ℕ)) → AsksCopies to config before old middle → AsksCopies to config before old after
    by old (asks.early few) = asks.early (record {
      first = few.first;
      is_own = few.is_own;
      more = few.more;
      asked = same ∙ few.asked;
      once = few.once;
      of_footprint = few.of_footprint;
      opened = few.opened;
    })
    by old (asks.late has between few last) = asks.late has between few (same ∙ last)

-- ---- what is said of the writes

module _ (files : List NewFile) (done : List ℕ) (before after : FolderState) (out out_after : SinkState) (result : ℕ) (more : out.faults ≤ out_after.faults) where
  finishes : (status : ℕ) (text : List ℕ) → SaysWrite before after files done status text → Ends status text out out_after result → IsWriting before after → EndsFiles files done before after out out_after result
  finishes status text says_so ends others = record {
    status = status;
    text = text;
    says = says_so;
    ends = ends;
    untold = others.untold;
    asked = others.asked;
    looks = others.looks;
    writes = others.later;
    output = more;
  }

  pub copied_finishes : (text : List ℕ) → text ≡ done → WritesFiles files before true after → Ends 0 text out out_after result → EndsFiles files done before after out out_after result
  copied_finishes text same (writes_files.all is told quiet others) ends = finishes 0 text (writes.written refl same told quiet) ends others
  copied_finishes text same (writes_files.some is told rose others) ends = absurd (cc)

  pub broken_finishes : (text : List ℕ) → text ≡ write_fault_line → WritesFiles files before false after → Ends 5 text out out_after result → EndsFiles files done before after out out_after result
  broken_finishes text same (writes_files.all is told quiet others) ends = absurd (cc)
  broken_finishes text same (writes_files.some is told rose others) ends = finishes 5 text (writes.write_fault refl same told rose) ends others

pub lacking_finishes : (files : List NewFile) (done : List ℕ) (state : FolderState) (out out_after : SinkState) (result : ℕ) (text : List ℕ) → out.faults ≤ out_after.faults → text ≡ memory_line → Ends 8 text out out_after result → EndsFiles files done state state out out_after result
lacking_finishes files done state out out_after result text more same ends = record {
  status = 8;
  text = text;
  says = writes.memory refl same refl refl;
  ends = ends;
  untold = λ none. none;
  asked = refl;
  looks = refl;
  writes = omega arith;
  output = more;
}

-- ---- the end

module _ (words : List (List ℕ)) (to : List ℕ) (config : Config) (before middle after : FolderState) (out out_after : SinkState) (result : ℕ) (asks_to : VendorsTo words to) (is_config : IsConfigAt words Vendor config before) where
  can_copy : CanCopy words
  can_copy = record { to = to; asks = asks_to; config = config; is_config = is_config.can }

  -- the folder's path is one, and not the root's
  page_path : IsPagePath to
  page_path =
      let found = is_config.can in
      path_vendored to Vendor (subst (λ a. command_of a ≡ Some Vendor) (one_asked words found.asked (vendoring to) found.asks asks_to) found.is)

  refuses_by : (tree : Tree) (why : Refusal) → IsConfigOf words tree Vendor config → RefusesHere to config tree why → RefusesRun words tree why
  refuses_by tree why of (here.command refuses) = refuses_run.by_tree Vendor config why of refuses
  refuses_by tree why of (here.copies map generates refuses) = refuses_run.by_copies to config map why asks_to of generates refuses

  can_be : (why : Refusal) → IsRefusalOf config Vendor why ⊎ IsCopyRefusal to why → CanRefuse words why
  unfolding can_copy
  can_be why kind = elim kind [
    | inl of_command ↦ can_refuse.by_tree Vendor config why is_config.can of_command
    | inr of_copies ↦ can_refuse.by_copies can_copy why of_copies
  ]

  pub copies_stop : (stop : Stop) → EndsCopies to config before after stop → TellsStop stop out out_after result → out.faults ≤ out_after.faults → EndsAs words before after out out_after result
  copies_stop (Refused why) is told more =
      refusal_ends words before after out out_after result why
      (if_two before.holds (λ tree of refuses. refuses_by tree why of refuses) is_config.told is.refused) (can_be why is.kind)
      (looks_as before after (λ e. absurd e) (λ e. absurd (cc)) is.looks) told more
  copies_stop ReadFault is told more =
      read_fault_ends words Vendor (command_for words Vendor config is_config.can) before after out out_after result is.looks.tree (is.looks.cause refl) is.looks.later is.looks.writes told more
  copies_stop Memory is told more =
      memory_ends words before after out out_after result is.looks.tree (is.looks.quiet (λ e. cc)) is.looks.writes told more

  module _ (copies : Copies) (is : AreReady to config before middle copies) (wrote : EndsFiles (new_files copies.known copies.plan) (vendored_line (length copies.plan)) middle after out out_after result) where
    abbrev these : List NewFile
    these = new_files copies.known copies.plan

    abbrev line : List ℕ
    line = vendored_line (length copies.plan)

    same_count : length copies.plan ≡ length (pairs copies.known copies.plan)
    same_count = sym (length-map copies.plan _)

    quiet : middle.look_faults ≡ before.look_faults
    quiet = is.looks.quiet (λ e. e)

    looks : after.look_faults ≡ before.look_faults
    looks = wrote.looks ∙ quiet

    vendors : (tree : Tree) → IsConfigOf words tree Vendor config → IsReadyTo to config tree copies.known copies.plan → Vendors words tree to (pairs copies.known copies.plan)
    vendors tree of ready = record {
      asks = asks_to;
      config = config;
      is_config = of;
      map = ready.map;
      generates = ready.generates;
      free = ready.free;
      is_plan = ready.is_plan;
    }

    as_copies : (tree : Tree) (told : Option Tree) → AreWritten tree these told → AreWritten tree (copied_files to (pairs copies.known copies.plan)) told
    as_copies tree told written = subst (λ files. AreWritten tree files told) is.files written

    outcome_told : (held told : Option Tree) → IfSome held (λ tree. IsConfigOf words tree Vendor config) → IfSome held (λ tree. IsReadyTo to config tree copies.known copies.plan) → IfSome held (λ tree. AreWritten tree these told)
        → IfSome held (λ tree. (later : Tree) × Outcome words tree 0 (line ∷ []) later × (told ≡ Some later))
    outcome_told None told of ready written = tt
    outcome_told (Some tree) told of ready written =
        let own = as_copies tree told written in (
          own.after,
          record {
            files = copied_files to (pairs copies.known copies.plan);
            comes = comes.vendored to (pairs copies.known copies.plan) (vendors tree of ready) refl (ap (λ n. vendored_line n ∷ []) same_count) refl;
            placed = own.placed;
          },
          own.is_told,
        )

    done_told : (held told : Option Tree) → IfSome held (λ tree. IsConfigOf words tree Vendor config) → IfSome held (λ tree. IsReadyTo to config tree copies.known copies.plan) → IfSome held (λ tree. AreWritten tree these told) → IfSome held (λ tree. IsDone words tree told)
    unfolding vendors
    done_told None told of ready written = tt
    done_told (Some tree) told of ready written =
        let own = as_copies tree told written in
        done.vendored (record {
          to = to;
          pairs = pairs copies.known copies.plan;
          vendors = vendors tree of ready;
          written = own;
          vendored = λ below is_below.
              vendored_generates tree own.after below config to (pairs copies.known copies.plan) ready.map ready.is_tree ready.bytes page_path.is_path page_path.no_root ready.free ready.is_plan
              (written_files to (pairs copies.known copies.plan) tree own.after own.placed) is_below ready.generates;
        })

    stops_told : (held told : Option Tree) → IfSome held (λ tree. IsConfigOf words tree Vendor config) → IfSome held (λ tree. IsReadyTo to config tree copies.known copies.plan) → IfSome held (λ tree. AreSome these tree told) → IfSome held (λ tree. StopsCopying words tree told)
    stops_told None told of ready some = tt
    stops_told (Some tree) told of ready some =
        let own = subst (λ files. AreSome files tree told) is.files some in
        record {
          to = to;
          pairs = pairs copies.known copies.plan;
          vendors = vendors tree of ready;
          count = own.count;
          fewer = subst (λ n. own.count < n) (length-map (pairs copies.known copies.plan) _) own.fewer;
          written = own.written;
        }

    at_start : (P : Tree → Type 0) → IfSome middle.holds P → IfSome before.holds P
    at_start P there = subst (λ holds. IfSome holds P) is.looks.tree there

    module _ (status : ℕ) (text : List ℕ) where
      write_says : SaysWrite middle after these line status text → Says words before after status (text ∷ [])
      write_says (writes.written s l placed w) =
          subst (λ n. Says words before after n (text ∷ [])) (sym s) (subst (λ t. Says words before after 0 (t ∷ [])) (sym l)
          (says.outcome (shaped.vendored (record { can = can_copy; count = length copies.plan; ends = refl; says = refl }))
          (outcome_told before.holds after.holds is_config.told is.told (at_start (λ tree. AreWritten tree these after.holds) placed)) looks (w ∙ is.looks.writes)))
      write_says (writes.write_fault s l some rose) =
          says.copy_fault can_copy (stops_told before.holds after.holds is_config.told is.told (at_start (λ tree. AreSome these tree after.holds) some)) s (ap (λ t. t ∷ []) l) looks (subst (λ n. Rose n after.write_faults) is.looks.writes rose)
      write_says (writes.memory s l h w) = says.memory s (ap (λ t. t ∷ []) l) (h ∙ is.looks.tree) looks (w ∙ is.looks.writes)

      write_done : SaysWrite middle after these line status text → status ≡ 0 → IfSome before.holds (λ tree. IsDone words tree after.holds)
      write_done (writes.written s l placed w) zero = done_told before.holds after.holds is_config.told is.told (at_start (λ tree. AreWritten tree these after.holds) placed)
      write_done (writes.write_fault s l some rose) zero = let e = sym s ∙ zero in absurd (omega (arith, e))
      write_done (writes.memory s l h w) zero = let e = sym s ∙ zero in absurd (omega (arith, e))

    pub copies_end : EndsAs words before after out out_after result
    copies_end =
        ends_by_line words before after out out_after result wrote.status wrote.text (λ none. wrote.untold (is.looks.tree ∙ none)) (write_done wrote.status wrote.text wrote.says) (write_says wrote.status wrote.text wrote.says) wrote.ends
        (omega (arith, looks)) (subst (λ n. n ≤ after.write_faults) is.looks.writes wrote.writes) wrote.output
