-- What the status of an end says of the folder and of the faults.
use Rattle.std.proofs.Common.{◌≡◌, ◌≢◌, ◌⊎◌, ◌++◌, ℕ, List, [], ◌∷◌, Option, Some, None, IfSome, inl, inr, ⊎_elim, refl, sym, ap, ◌∙◌, subst, arith}
use Rattle.std.specs.List.{concat}
use Rattle.std.proofs.lemmas.List.{append-nil}
use Rattle.tree_spec.specs.Counts.{Rose}
use Rattle.tree_spec.specs.States.{FolderState, SinkState}
use Rattle.tree_spec.specs.Trees.{Tree}
use Rattle.page_spec.specs.declared.kinds.InjectFault.TheVariants.{PageUnclear, TwoMaps, NoPlace}
use Rattle.page_spec.specs.declared.kinds.InjectFault.TheVariants as page
use Rattle.trace_spec.specs.declared.TraceFault.{TraceFault}
use Rattle.trace_spec.specs.declared.TraceFault.TheVariants as fault
use Rattle.trace_spec.specs.Kinds.{IsOfTrace}
use Rattle.trace_spec.specs.Modules.{Config}
use Rattle.generator_spec.specs.declared.Refusal.{Refusal}
use Rattle.generator_spec.specs.declared.Refusal.TheVariants.{Config as Configured}
use Rattle.words_spec.specs.PlainWords.{Asked, LinkOptions, vendoring}
use Rattle.config_spec.proofs.WordsJudged.{words_are_judged}
use Rattle.config_spec.specs.declared.ConfigFault.{ConfigFault}
use Rattle.config_spec.specs.Words.{IsPlain, options_of, RefusesOptions, RefusesWords}
use Rattle.config_spec.specs.Words.RefusesOptions.{bad_base, bad_path, bad_conditions}
use Rattle.config_spec.specs.Words.RefusesWords.{bad_option, bad_file, bad_folder}
use Rattle.config_spec.specs.Projects.{RefusesAsked, measure_config}
use Rattle.config_spec.specs.Projects.IsReadFault.{too_large, not_project, above}
use Rattle.config_spec.specs.Projects.RefusesAsked.{bad_project, no_project, no_base, too_many_entries, not_linked}
use Rattle.config_spec.specs.declared.Command.{Command}
use Rattle.config_spec.specs.declared.Command.TheVariants.{Refresh, Vendor, Why, List as Lists}
use Rattle.generator_spec.specs.declared.MapFileFault.{MapFileFault}
use Rattle.generator_spec.specs.declared.MapFileFault.TheVariants as map_file
use Rattle.generator_spec.specs.declared.PageFault.{PageFault}
use Rattle.generator_spec.specs.declared.PageFault.TheVariants.{Absent, TooLarge, KeepsMapsOut}
use Rattle.generator_spec.specs.Commands.{IsOfPage, IsRefusalOf, IsRefusalOf as kind, NewFile}
use Rattle.generator_spec.specs.Checking.{check_status}
use Rattle.generator_spec.specs.Lines.{config_status, config_line, page_status, map_file_status, trace_status, status_of, line_of, memory_line}
use Rattle.generator_spec.specs.Statuses.{LeavesTree}
use Rattle.generator_spec.specs.Outcome.{ComesTo, ComesTo as comes, FilesPlaced, Outcome}
use Rattle.generator_spec.specs.Vendoring.{IsCopyRefusal, IsCopyRefusal as copying}
use Rattle.generator_spec.specs.Ending.{CanRefuse, CanRefuse as can, IsDone, StopsCopying, StopsWriting, Shaped, Says, Ends}
use Rattle.generator_spec.specs.Ending.{Shaped as shaped, Says as says, Ends as ends}
use Rattle.generator_spec.specs.Ending.{TellsChain, TellsChain as chain}
use Rattle.generator_spec.specs.Promises.{AreWrong, HasStopped, HasStopped as stopped, Untouched, Shows}
use Rattle.generator_spec.proofs.Configs.{command_for, command_is_plain, measured_is_plain, refused_is_plain, refused_or_command}

-- ---- statuses

-- own: the statuses of a refusal, of differences, and of a file that isn't reached
data IsRefusing (status : ℕ) : Type 0 where
  one : status ≡ 1 → IsRefusing status
  two : status ≡ 2 → IsRefusing status
  three : status ≡ 3 → IsRefusing status
  six : status ≡ 6 → IsRefusing status
  seven : status ≡ 7 → IsRefusing status
  ten : status ≡ 10 → IsRefusing status

options_refusing : (options : LinkOptions) (fault : ConfigFault) → RefusesOptions options fault → IsRefusing (config_status fault)
options_refusing options fault (bad_base text given none) = two refl
options_refusing options fault (bad_path base text sets given none) = two refl
options_refusing options fault (bad_conditions base page text sets sets_page given none) = two refl

words_refusing : (words : List (List ℕ)) (fault : ConfigFault) → RefusesWords words fault → IsRefusing (config_status fault)
words_refusing words fault (bad_option asked command why asks is refuses) = options_refusing (options_of asked) fault refuses
words_refusing words fault (bad_file path asks none) = two refl
words_refusing words fault (bad_folder path asks none) = two refl

asked_refusing : (asked : Asked) (fault : ConfigFault) → RefusesAsked asked fault → IsRefusing (config_status fault)
asked_refusing asked fault (bad_project _ _ too_large) = three refl
asked_refusing asked fault (bad_project _ _ (not_project at)) = seven refl
asked_refusing asked fault (bad_project _ _ (above which is)) = three refl
asked_refusing asked fault (no_project _ other) = seven refl
asked_refusing asked fault (no_base options entries none) = two refl
asked_refusing asked fault (too_many_entries options entries) = three refl
asked_refusing asked fault (not_linked entries front entry rest parts distinct) = one refl

trace_refusing : (config : Config) (why : TraceFault) → IsOfTrace config why → IsRefusing (trace_status why)
trace_refusing config (fault.Unservable path url) kind = one refl
trace_refusing config (fault.Refused referrer specifier cause) kind = one refl
trace_refusing config (fault.Clash referrer first first_to second second_to) kind = one refl
trace_refusing config (fault.NotModule path reason) kind = one refl
trace_refusing config (fault.Limit which) kind = three refl
trace_refusing config fault.ReadFault kind = absurd kind
trace_refusing config fault.Memory kind = absurd kind

page_refusing : (why : PageFault) → IsOfPage why → IsRefusing (page_status why)
page_refusing Absent is = seven refl
page_refusing TooLarge is = three refl
page_refusing (KeepsMapsOut (PageUnclear at)) is = one refl
page_refusing (KeepsMapsOut (TwoMaps at)) is = one refl
page_refusing (KeepsMapsOut NoPlace) is = one refl
page_refusing (KeepsMapsOut page.Memory) is = absurd is

map_file_refusing : (why : MapFileFault) → IsRefusing (map_file_status why)
map_file_refusing map_file.Absent = seven refl
map_file_refusing map_file.TooLarge = three refl
map_file_refusing (map_file.NotJson at) = seven refl
map_file_refusing map_file.TooDeep = three refl
map_file_refusing (map_file.NotObject which) = seven refl

refusing : (config : Config) (command : Command) (why : Refusal) → IsRefusalOf config command why → IsRefusing (status_of why)
refusing config command why (kind.page fault is) = page_refusing fault is
refusing config command why (kind.trace same fault is) = trace_refusing config fault is
refusing config command why (kind.map_file same fault checks) = map_file_refusing fault
refusing config command why kind.nested = three refl
refusing config command why (kind.many_choices same generating) = three refl
refusing config command why (kind.large_map same generating) = three refl

copies_refusing : (to : List ℕ) (why : Refusal) → IsCopyRefusal to why → IsRefusing (status_of why)
copies_refusing to why copying.occupied = one refl
copies_refusing to why copying.long = three refl
copies_refusing to why copying.deep = three refl

can_refusing : (words : List (List ℕ)) (why : Refusal) → CanRefuse words why → IsRefusing (status_of why)
can_refusing words why (can.by_words fault is) = words_refusing words fault is
can_refusing words why (can.by_project fault is) = asked_refusing is.asked fault is.refuses
can_refusing words why (can.by_tree command config reason is of) = refusing config command reason of
can_refusing words why (can.by_copies able reason of) = copies_refusing able.to reason of
can_refusing words why (can.by_measure number reason asks of) = refusing measure_config Refresh reason of

check_refusing : (differing : List (List ℕ)) → (check_status differing ≡ 0) ⊎ IsRefusing (check_status differing)
check_refusing [] = inl refl
check_refusing (line ∷ more) = inr (six refl)

chain_status :
    (config : Config) (path : List ℕ) (status : ℕ) (lines : List (List ℕ)) → TellsChain config path status lines
    → (status ≡ 0) ⊎ (status ≡ 10)
chain_status config path status lines (chain.own_page same s l) = inl s
chain_status config path status lines (chain.reached requests other begins stops s l) = inl s
chain_status config path status lines (chain.not_reached other s l) = inr s

shaped_status :
    (words : List (List ℕ)) (status : ℕ) (lines : List (List ℕ)) → Shaped words status lines
    → (status ≡ 0) ⊎ IsRefusing status
shaped_status words status lines (shaped.not_plain text none s l) = inr (two s)
shaped_status words status lines (shaped.refused why is s l) = inr (subst IsRefusing (sym s) (can_refusing words why is))
shaped_status words status lines (shaped.done line s l counted) = inl s
shaped_status words status lines (shaped.checked is) =
    subst (λ n. (n ≡ 0) ⊎ IsRefusing n) (sym is.ends) (check_refusing (is.differing ++ is.strict))
shaped_status words status lines (shaped.listed is) = inl is.ends
shaped_status words status lines (shaped.explained is) =
    ⊎_elim inl (λ e. inr (ten e)) (chain_status is.config is.path status lines is.tells)
shaped_status words status lines (shaped.vendored is) = inl is.ends
shaped_status words status lines (shaped.measured is) = inl is.ends

refusal_status : (status : ℕ) → IsRefusing status → LeavesTree status
refusal_status status (one e) = inl e
refusal_status status (two e) = inr (inl e)
refusal_status status (three e) = inr (inr (inl e))
refusal_status status (six e) = inr (inr (inr (inr (inl e))))
refusal_status status (seven e) = inr (inr (inr (inr (inr (inl e)))))
refusal_status status (ten e) = inr (inr (inr (inr (inr (inr (inr e))))))

no_refusing : (status : ℕ) → IsRefusing status → (status ≢ 0) × (status ≢ 4) × (status ≢ 5)
no_refusing status (one e) = (λ f. omega arith, λ f. omega arith, λ f. omega arith)
no_refusing status (two e) = (λ f. omega arith, λ f. omega arith, λ f. omega arith)
no_refusing status (three e) = (λ f. omega arith, λ f. omega arith, λ f. omega arith)
no_refusing status (six e) = (λ f. omega arith, λ f. omega arith, λ f. omega arith)
no_refusing status (seven e) = (λ f. omega arith, λ f. omega arith, λ f. omega arith)
no_refusing status (ten e) = (λ f. omega arith, λ f. omega arith, λ f. omega arith)

check_not_two : (differing : List (List ℕ)) → check_status differing ≢ 2
check_not_two [] e = omega (arith, e)
check_not_two (line ∷ more) e = omega (arith, e)

abbrev IsStatus : ℕ → Type 0
IsStatus status = (status ≡ 0) ⊎ (status ≡ 5) ⊎ LeavesTree status

shaped_is_status : (status : ℕ) → (status ≡ 0) ⊎ IsRefusing status → IsStatus status
shaped_is_status status (inl e) = inl e
shaped_is_status status (inr refusing) = inr (inr (refusal_status status refusing))

no_refusal_status : (status : ℕ) → (status ≡ 0) ⊎ (status ≡ 5) → LeavesTree status → ⊥
no_refusal_status status is refused = grind (arith, is, refused)

-- ---- the outcome's tree

abbrev pub HasOutcomeIn : List (List ℕ) → ℕ → List (List ℕ) → Option Tree → Tree → Type 0
HasOutcomeIn words status lines told tree = (later : Tree) × Outcome words tree status lines later × (told ≡ Some later)

nothing_placed : (files : List NewFile) (tree later : Tree) → files ≡ [] → FilesPlaced tree files later → later ≡ tree
nothing_placed files tree later none placed = subst (λ some. FilesPlaced tree some later) none placed

-- a refusal leaves the tree as it was, and so do differences
unmoved :
    (words : List (List ℕ)) (tree : Tree) (status : ℕ) (lines : List (List ℕ)) (files : List NewFile) (later : Tree)
    → ComesTo words tree status lines files → FilesPlaced tree files later → status ≢ 0 → later ≡ tree
unmoved words tree status lines files later (comes.not_plain text none s l f) placed other = nothing_placed files tree later f placed
unmoved words tree status lines files later (comes.refused why is s l f) placed other = nothing_placed files tree later f placed
unmoved words tree status lines files later (comes.written command config map is generates wrote s l) placed other = absurd (other s)
unmoved words tree status lines files later (comes.checked command config map all strict is holds traces says_so s l f) placed other = nothing_placed files tree later f placed
unmoved words tree status lines files later (comes.listed config all is traces s l f) placed other = nothing_placed files tree later f placed
unmoved words tree status lines files later (comes.explained path config all asks is traces tells f) placed other = nothing_placed files tree later f placed
unmoved words tree status lines files later (comes.vendored to pairs v s l f) placed other = absurd (other s)
unmoved words tree status lines files later (comes.measured number map asks generates s l f) placed other = nothing_placed files tree later f placed

kept_where_refused :
    (words : List (List ℕ)) (status : ℕ) (lines : List (List ℕ)) (held told : Option Tree) → (held ≡ None → told ≡ None)
    → status ≢ 0 → IfSome held (HasOutcomeIn words status lines told) → told ≡ held
kept_where_refused words status lines None told untold other here = untold refl
kept_where_refused words status lines (Some tree) told untold other here =
    here.2 ∙ ap Some (unmoved words tree status lines here.1.files here.0 here.1.comes here.1.placed other)

-- ---- a write that failed

if_stopped : (words : List (List ℕ)) (held told : Option Tree) (line : List ℕ) → IfSome held (λ tree. StopsWriting words tree line told) → IfSome held (λ tree. HasStopped words tree told)
if_stopped words None told line stops = tt
if_stopped words (Some tree) told line stops = stopped.writing line stops

if_copied : (words : List (List ℕ)) (held told : Option Tree) → IfSome held (λ tree. StopsCopying words tree told) → IfSome held (λ tree. HasStopped words tree told)
if_copied words None told stops = tt
if_copied words (Some tree) told stops = stopped.copying stops

-- ---- one line

pub one_line_text : (line : List ℕ) → concat (line ∷ []) ≡ line
one_line_text line = append-nil line

-- ---- what the status says

module _ (words : List (List ℕ)) (before after : FolderState) (status : ℕ) (lines : List (List ℕ)) where
  said_status : Says words before after status lines → IsStatus status
  said_status (says.outcome shape o l w) = shaped_is_status status (shaped_status words status lines shape)
  said_status (says.memory s t k l w) = inr (inr (inr (inr (inr (inr (inr (inr (inl s))))))))
  said_status (says.read_fault command is_command s t k rose w) = inr (inr (inr (inr (inr (inl s)))))
  said_status (says.write_fault line counted stops s t l rose) = inr (inl s)
  said_status (says.copy_fault able stops s t l rose) = inr (inl s)

  said_kept :
      (before.holds ≡ None → after.holds ≡ None) → Says words before after status lines → LeavesTree status
      → after.holds ≡ before.holds
  said_kept untold (says.outcome shape o l w) refused =
      kept_where_refused words status lines before.holds after.holds untold
      (λ zero. no_refusal_status status (inl zero) refused) o
  said_kept untold (says.memory s t k l w) refused = k
  said_kept untold (says.read_fault command is_command s t k rose w) refused = k
  said_kept untold (says.write_fault line counted stops s t l rose) refused = absurd (no_refusal_status status (inr s) refused)
  said_kept untold (says.copy_fault able stops s t l rose) refused = absurd (no_refusal_status status (inr s) refused)

  outcome_not : (n : ℕ) → (n ≡ 4) ⊎ (n ≡ 5) → (status ≡ 0) ⊎ IsRefusing status → status ≢ n
  outcome_not n fault (inl none) e = grind (arith, fault, none, e)
  outcome_not n (inl four) (inr some) e = (no_refusing status some).1 (e ∙ four)
  outcome_not n (inr five) (inr some) e = (no_refusing status some).2 (e ∙ five)

  said_read : Says words before after status lines → status ≡ 4 → Rose before.look_faults after.look_faults
  said_read (says.outcome shape o l w) four =
      absurd (outcome_not 4 (inl refl) (shaped_status words status lines shape) four)
  said_read (says.memory s t k l w) four = absurd (omega arith)
  said_read (says.read_fault command is_command s t k rose w) four = rose
  said_read (says.write_fault line counted stops s t l rose) four = absurd (omega arith)
  said_read (says.copy_fault able stops s t l rose) four = absurd (omega arith)

  said_write : Says words before after status lines → status ≡ 5 → Rose before.write_faults after.write_faults
  said_write (says.outcome shape o l w) five =
      absurd (outcome_not 5 (inr refl) (shaped_status words status lines shape) five)
  said_write (says.memory s t k l w) five = absurd (omega arith)
  said_write (says.read_fault command is_command s t k rose w) five = absurd (omega arith)
  said_write (says.write_fault line counted stops s t l rose) five = rose
  said_write (says.copy_fault able stops s t l rose) five = rose

  -- ---- wrong words

  shaped_two : Shaped words status lines → status ≡ 2 → AreWrong words
  shaped_two (shaped.not_plain text none s l) is_two = inl none
  shaped_two (shaped.refused why is s l) is_two = inr (why, is, sym s ∙ is_two)
  shaped_two (shaped.done line s l counted) is_two = absurd (omega arith)
  shaped_two (shaped.checked is) is_two = absurd (check_not_two (is.differing ++ is.strict) (sym is.ends ∙ is_two))
  shaped_two (shaped.listed is) is_two = let zero = is.ends in absurd (omega (arith, zero, is_two))
  shaped_two (shaped.explained is) is_two =
      absurd (⊎_elim (λ e. omega (arith, e, is_two)) (λ e. omega (arith, e, is_two)) (chain_status is.config is.path status lines is.tells))
  shaped_two (shaped.vendored is) is_two = let zero = is.ends in absurd (omega (arith, zero, is_two))
  shaped_two (shaped.measured is) is_two = let zero = is.ends in absurd (omega (arith, zero, is_two))

  said_two : Says words before after status lines → status ≡ 2 → AreWrong words
  said_two (says.outcome shape o l w) is_two = shaped_two shape is_two
  said_two (says.memory s t k l w) is_two = absurd (omega arith)
  said_two (says.read_fault command is_command s t k rose w) is_two = absurd (omega arith)
  said_two (says.write_fault line counted stops s t l rose) is_two = absurd (omega arith)
  said_two (says.copy_fault able stops s t l rose) is_two = absurd (omega arith)

  -- the tree is as it was, or the command was done, or it stopped between its writes
  kept_or_done :
      (before.holds ≡ None → after.holds ≡ None) → Says words before after status lines
      → (after.holds ≡ before.holds) ⊎ ((status ≡ 0) ⊎ IfSome before.holds (λ tree. HasStopped words tree after.holds))
  kept_or_done untold (says.outcome shape o l w) =
      let kept = λ (other : status ≢ 0). kept_where_refused words status lines before.holds after.holds untold other o in
      ⊎_elim (λ zero. inr (inl zero)) (λ refusing. inl (kept (no_refusing status refusing).0)) (shaped_status words status lines shape)
  kept_or_done untold (says.memory s t k l w) = inl k
  kept_or_done untold (says.read_fault command is_command s t k rose w) = inl k
  kept_or_done untold (says.write_fault line counted stops s t l rose) = inr (inr (if_stopped words before.holds after.holds line stops))
  kept_or_done untold (says.copy_fault able stops s t l rose) = inr (inr (if_copied words before.holds after.holds stops))

  -- ---- words that are refused

  can_be : (fault : ConfigFault) → RefusesWords words fault → (why : Refusal) → CanRefuse words why → why ≡ Configured fault
  can_be fault refuses why (can.by_words other is) = ap Configured ((words_are_judged words).one_fault other fault is refuses)
  can_be fault refuses why (can.by_project other is) = absurd (refused_or_command words fault is.command refuses (record { asked = is.asked; asks = is.asks; is = is.is; settings = is.settings; sets = is.sets }))
  can_be fault refuses why (can.by_tree command config reason is of) = absurd (refused_or_command words fault command refuses (command_for words command config is))
  can_be fault refuses why (can.by_copies able reason of) = absurd (refused_or_command words fault Vendor refuses (command_for words Vendor able.config able.is_config))
  can_be fault refuses why (can.by_measure number reason asks of) = absurd ((words_are_judged words).no_fault number fault asks refuses)

  refused_shape :
      (fault : ConfigFault) → RefusesWords words fault → Shaped words status lines
      → (status ≡ config_status fault) × (lines ≡ config_line fault ∷ [])
  refused_shape fault refuses (shaped.not_plain text none s l) = absurd (none (refused_is_plain words fault refuses))
  refused_shape fault refuses (shaped.refused why is s l) =
      let same = can_be fault refuses why is in
      (s ∙ ap status_of same, l ∙ ap (λ r. line_of r ∷ []) same)
  refused_shape fault refuses (shaped.done line s l counted) =
      absurd (refused_or_command words fault counted.command refuses (command_for words counted.command counted.config counted.is_config))
  refused_shape fault refuses (shaped.checked is) =
      absurd (refused_or_command words fault is.command refuses (command_for words is.command is.config is.is_config))
  refused_shape fault refuses (shaped.listed is) =
      absurd (refused_or_command words fault Lists refuses (command_for words Lists is.config is.is_config))
  refused_shape fault refuses (shaped.explained is) =
      absurd (refused_or_command words fault Why refuses (command_for words Why is.config is.is_config))
  refused_shape fault refuses (shaped.vendored is) =
      absurd (refused_or_command words fault Vendor refuses (command_for words Vendor is.can.config is.can.is_config))
  refused_shape fault refuses (shaped.measured is) = absurd ((words_are_judged words).no_fault is.number fault is.measures refuses)

  refused_says :
      (untold : before.holds ≡ None → after.holds ≡ None) (fault : ConfigFault) → RefusesWords words fault
      → Says words before after status lines
      → Untouched before after
      × (((status ≡ config_status fault) × (lines ≡ config_line fault ∷ [])) ⊎ ((status ≡ 8) × (lines ≡ memory_line ∷ [])))
  refused_says untold fault refuses (says.outcome shape o l w) =
      let same = refused_shape fault refuses shape in
      let not_zero =
      λ (zero : status ≡ 0). (no_refusing _ (words_refusing words fault refuses)).0 (sym same.0 ∙ zero) in
      let kept = kept_where_refused words status lines before.holds after.holds untold not_zero o in
      (record { told = kept; looks = l; writes = w }, inl same)
  refused_says untold fault refuses (says.memory s t k l w) = (record { told = k; looks = l; writes = w }, inr (s, t))
  refused_says untold fault refuses (says.read_fault command is_command s t k rose w) =
      absurd (refused_or_command words fault command refuses is_command)
  refused_says untold fault refuses (says.write_fault line counted stops s t l rose) =
      absurd (refused_or_command words fault counted.command refuses (command_for words counted.command counted.config counted.is_config))
  refused_says untold fault refuses (says.copy_fault able stops s t l rose) =
      absurd (refused_or_command words fault Vendor refuses (command_for words Vendor able.config able.is_config))

  -- ---- words without a meaning

  can_is_plain : (why : Refusal) → CanRefuse words why → IsPlain words
  can_is_plain why (can.by_words fault is) = refused_is_plain words fault is
  can_is_plain why (can.by_project fault is) = record { asked = is.asked; asks = is.asks }
  can_is_plain why (can.by_tree command config reason is of) = record { asked = is.asked; asks = is.asks }
  can_is_plain why (can.by_copies able reason of) = record { asked = vendoring able.to; asks = able.asks }
  can_is_plain why (can.by_measure number reason asks of) = measured_is_plain words number asks

  no_meaning_shape : (IsPlain words → ⊥) → Shaped words status lines → status ≡ 2
  no_meaning_shape none (shaped.not_plain text too s l) = s
  no_meaning_shape none (shaped.refused why is s l) = absurd (none (can_is_plain why is))
  no_meaning_shape none (shaped.done line s l counted) = absurd (none (command_is_plain words counted.command (command_for words counted.command counted.config counted.is_config)))
  no_meaning_shape none (shaped.checked is) = absurd (none (command_is_plain words is.command (command_for words is.command is.config is.is_config)))
  no_meaning_shape none (shaped.listed is) = absurd (none (command_is_plain words Lists (command_for words Lists is.config is.is_config)))
  no_meaning_shape none (shaped.explained is) = absurd (none (command_is_plain words Why (command_for words Why is.config is.is_config)))
  no_meaning_shape none (shaped.vendored is) = absurd (none (record { asked = vendoring is.can.to; asks = is.can.asks }))
  no_meaning_shape none (shaped.measured is) = absurd (none (measured_is_plain words is.number is.measures))

  no_meaning_says :
      (untold : before.holds ≡ None → after.holds ≡ None) → (IsPlain words → ⊥) → Says words before after status lines
      → Untouched before after × ((status ≡ 2) ⊎ (status ≡ 8))
  no_meaning_says untold none (says.outcome shape o l w) =
      let two = no_meaning_shape none shape in
      let kept = kept_where_refused words status lines before.holds after.holds untold (λ zero. omega (arith, two, zero)) o in
      (record { told = kept; looks = l; writes = w }, inl two)
  no_meaning_says untold none (says.memory s t k l w) = (record { told = k; looks = l; writes = w }, inr s)
  no_meaning_says untold none (says.read_fault command is_command s t k rose w) = absurd (none (command_is_plain words command is_command))
  no_meaning_says untold none (says.write_fault line counted stops s t l rose) = absurd (none (command_is_plain words counted.command (command_for words counted.command counted.config counted.is_config)))
  no_meaning_says untold none (says.copy_fault able stops s t l rose) = absurd (none (record { asked = vendoring able.to; asks = able.asks }))

  -- ---- counts

  said_looks : Says words before after status lines → after.look_faults ≢ before.look_faults → status ≡ 4
  said_looks (says.outcome shape o l w) changed = absurd (changed l)
  said_looks (says.memory s t k l w) changed = absurd (changed l)
  said_looks (says.read_fault command is_command s t k rose w) changed = s
  said_looks (says.write_fault line counted stops s t l rose) changed = absurd (changed l)
  said_looks (says.copy_fault able stops s t l rose) changed = absurd (changed l)

  said_writes : Says words before after status lines → after.write_faults ≢ before.write_faults → status ≡ 5
  said_writes (says.outcome shape o l w) changed = absurd (changed w)
  said_writes (says.memory s t k l w) changed = absurd (changed w)
  said_writes (says.read_fault command is_command s t k rose w) changed = absurd (changed w)
  said_writes (says.write_fault line counted stops s t l rose) changed = s
  said_writes (says.copy_fault able stops s t l rose) changed = s

  writes_unless : Says words before after status lines → status ≢ 5 → after.write_faults ≡ before.write_faults
  writes_unless (says.outcome shape o l w) other = w
  writes_unless (says.memory s t k l w) other = w
  writes_unless (says.read_fault command is_command s t k rose w) other = w
  writes_unless (says.write_fault line counted stops s t l rose) other = absurd (other s)
  writes_unless (says.copy_fault able stops s t l rose) other = absurd (other s)

-- ---- what the answer says

module _ (words : List (List ℕ)) (before after : FolderState) (out out_after : SinkState) (result status : ℕ)
    (lines : List (List ℕ)) (s : Says words before after status lines) where
  pub end_statuses : Ends status (concat lines) out out_after result → IsStatus result
  end_statuses (ends.said is given quiet) = subst IsStatus (sym is) (said_status words before after status lines s)
  end_statuses (ends.output_fault is gives rose) = inr (inl is)

  pub end_kept :
      (before.holds ≡ None → after.holds ≡ None) → Ends status (concat lines) out out_after result → LeavesTree result
      → after.holds ≡ before.holds
  end_kept untold (ends.said is given quiet) refused =
      said_kept words before after status lines untold s (subst LeavesTree is refused)
  end_kept untold (ends.output_fault is gives rose) refused = absurd (no_refusal_status result (inr is) refused)

  pub end_read : Ends status (concat lines) out out_after result → result ≡ 4 → Rose before.look_faults after.look_faults
  end_read (ends.said is given quiet) four = said_read words before after status lines s (sym is ∙ four)
  end_read (ends.output_fault is gives rose) four = absurd (omega arith)

  pub end_write :
      Ends status (concat lines) out out_after result → result ≡ 5
      → Rose before.write_faults after.write_faults ⊎ Rose out.faults out_after.faults
  end_write (ends.said is given quiet) five = inl (said_write words before after status lines s (sym is ∙ five))
  end_write (ends.output_fault is gives rose) five = inr rose

  pub end_two : Ends status (concat lines) out out_after result → result ≡ 2 → AreWrong words
  end_two (ends.said is given quiet) is_two = said_two words before after status lines s (sym is ∙ is_two)
  end_two (ends.output_fault is gives rose) is_two = absurd (omega arith)

  pub end_kept_or_done :
      (before.holds ≡ None → after.holds ≡ None)
      → (status ≡ 0 → IfSome before.holds (λ tree. IsDone words tree after.holds))
      → (after.holds ≡ before.holds)
      ⊎ (IfSome before.holds (λ tree. IsDone words tree after.holds)
      ⊎ IfSome before.holds (λ tree. HasStopped words tree after.holds))
  end_kept_or_done untold done =
      ⊎_elim inl (λ more. inr (⊎_elim (λ zero. inl (done zero)) inr more)) (kept_or_done words before after status lines untold s)

  moved :
      (other : ℕ) (text : List ℕ) → (status ≡ other) × (lines ≡ text ∷ []) → Ends status (concat lines) out out_after result
      → Ends other text out out_after result
  moved other text same e =
      subst (λ n. Ends n text out out_after result) same.0
      (subst (λ t. Ends status t out out_after result) (ap concat same.1 ∙ one_line_text text) e)

  pub end_refused_words :
      (before.holds ≡ None → after.holds ≡ None) → Ends status (concat lines) out out_after result → (fault : ConfigFault)
      → RefusesWords words fault
      → Untouched before after
      × (Ends (config_status fault) (config_line fault) out out_after result ⊎ Ends 8 memory_line out out_after result)
  end_refused_words untold e fault refuses =
      let found = refused_says words before after status lines untold fault refuses s in
      let ended =
      ⊎_elim (λ same. inl (moved (config_status fault) (config_line fault) same e)) (λ same. inr (moved 8 memory_line same e))
      found.1 in
      (found.0, ended)

  pub end_not_plain :
      (before.holds ≡ None → after.holds ≡ None) → Ends status (concat lines) out out_after result → (IsPlain words → ⊥)
      → Untouched before after × ((result ≡ 2) ⊎ ((result ≡ 8) ⊎ (result ≡ 5)))
  end_not_plain untold (ends.said is given quiet) none =
      let found = no_meaning_says words before after status lines untold none s in
      (found.0, ⊎_elim (λ two. inl (is ∙ two)) (λ eight. inr (inl (is ∙ eight))) found.1)
  end_not_plain untold (ends.output_fault is gives rose) none =
      ((no_meaning_says words before after status lines untold none s).0, inr (inr is))

  looks_show :
      Ends status (concat lines) out out_after result → after.look_faults ≢ before.look_faults → (result ≡ 4) ⊎ (result ≡ 5)
  looks_show (ends.said is given quiet) changed = inl (is ∙ said_looks words before after status lines s changed)
  looks_show (ends.output_fault is gives rose) changed = inr is

  looks_alone :
      Ends status (concat lines) out out_after result → after.look_faults ≢ before.look_faults
      → (Rose out.faults out_after.faults → ⊥) → result ≡ 4
  looks_alone (ends.said is given quiet) changed none = is ∙ said_looks words before after status lines s changed
  looks_alone (ends.output_fault is gives rose) changed none = absurd (none rose)

  writes_show : Ends status (concat lines) out out_after result → after.write_faults ≢ before.write_faults → result ≡ 5
  writes_show (ends.said is given quiet) changed = is ∙ said_writes words before after status lines s changed
  writes_show (ends.output_fault is gives rose) changed = is

  output_shows : Ends status (concat lines) out out_after result → out_after.faults ≢ out.faults → result ≡ 5
  output_shows (ends.said is given quiet) changed = absurd (changed quiet)
  output_shows (ends.output_fault is gives rose) changed = is

  read_alone :
      Ends status (concat lines) out out_after result → result ≡ 4
      → (after.write_faults ≡ before.write_faults) × (out_after.faults ≡ out.faults)
  read_alone (ends.said is given quiet) four =
      (writes_unless words before after status lines s (λ five. omega arith), quiet)
  read_alone (ends.output_fault is gives rose) four = absurd (omega arith)

  pub end_shows : Ends status (concat lines) out out_after result → Shows before after out out_after result
  end_shows e = record {
    looks = looks_show e;
    writes = writes_show e;
    output = output_shows e;
    looks_alone = looks_alone e;
    read_alone = read_alone e;
  }
