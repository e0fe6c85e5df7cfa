-- What is copied into a folder is one list of files, which are written or refused in one way.
use Rattle.std.proofs.Common.{◌≡◌, ◌++◌, ℕ, List, [], ◌∷◌, Option, Some, None, refl, sym, subst}
use Rattle.std.specs.FinMap.{get}
use Rattle.std.specs.Prelude.{All, Bool, Contains, IfSome, if◌then◌else◌, true, false}
use Rattle.std.proofs.lemmas.List.Elements.{All-nil, All-cons}
use Rattle.tree_spec.proofs.Contained.{contains_here, contains_there}
use Rattle.tree_spec.specs.Paths.{IsPath}
use Rattle.tree_spec.specs.Trees.{Tree}
use Rattle.trace_spec.specs.Modules.{Config}
use Rattle.words_spec.proofs.PlainIsRead.{one_asked}
use Rattle.words_spec.specs.PlainWords.{vendoring, measuring}
use Rattle.config_spec.specs.declared.Command.{Command}
use Rattle.config_spec.specs.declared.Command.TheVariants.{Vendor, List as Lists, Why}
use Rattle.config_spec.specs.Projects.{IsConfigOf}
use Rattle.config_spec.specs.Words.{VendorsTo, command_of, is_page_path}
use Rattle.vendor_spec.proofs.Plans.{plan_fits}
use Rattle.vendor_spec.proofs.Writes.{goals_behind, placed_at}
use Rattle.vendor_spec.specs.Vendored.{Pair, IsPlan, Written, goals, nothing, one_more}
use Rattle.generator_spec.specs.declared.Refusal.{Refusal}
use Rattle.generator_spec.specs.Commands.{NewFile, new_file}
use Rattle.generator_spec.specs.Strictness.{ModulesAgree}
use Rattle.generator_spec.specs.Ending.{HasCopied, IsCarried, IsDone, IsDone as done}
use Rattle.generator_spec.specs.Outcome.{FilesPlaced}
use Rattle.generator_spec.specs.Vendoring.{copied_files, RefusesCopies, RefusesCopies as copies}

pub one_folder : (words : List (List ℕ)) (to other : List ℕ) → VendorsTo words to → VendorsTo words other → to ≡ other
one_folder words to other asks asks_other =
    let same : vendoring to ≡ vendoring other = one_asked words (vendoring to) (vendoring other) asks asks_other in cc

-- ---- refusals

stands_or_not : (tree : Tree) (to : List ℕ) {A : Type 0} (entry : A) → (found : Option A) → found ≡ Some entry → found ≡ None → ⊥
stands_or_not tree to entry None e none = absurd (cc)
stands_or_not tree to entry (Some other) e none = absurd (cc)

pub one_copy_refusal : (tree : Tree) (to : List ℕ) (paths : List (List ℕ)) (why because : Refusal)
    → RefusesCopies tree to paths why → RefusesCopies tree to paths because → why ≡ because
one_copy_refusal tree to paths why because (copies.occupied entry e) (copies.occupied other f) = refl
one_copy_refusal tree to paths why because (copies.occupied entry e) (copies.long none has) =
    absurd (stands_or_not tree to entry (get tree to) e none)
one_copy_refusal tree to paths why because (copies.occupied entry e) (copies.deep none short has) =
    absurd (stands_or_not tree to entry (get tree to) e none)
one_copy_refusal tree to paths why because (copies.long none has) (copies.occupied entry e) =
    absurd (stands_or_not tree to entry (get tree to) e none)
one_copy_refusal tree to paths why because (copies.long none has) (copies.long none_too has_too) = refl
one_copy_refusal tree to paths why because (copies.long none has) (copies.deep none_too short has_too) = absurd (short has)
one_copy_refusal tree to paths why because (copies.deep none short has) (copies.occupied entry e) =
    absurd (stands_or_not tree to entry (get tree to) e none)
one_copy_refusal tree to paths why because (copies.deep none short has) (copies.long none_too has_too) = absurd (short has_too)
one_copy_refusal tree to paths why because (copies.deep none short has) (copies.deep none_too short_too has_too) = refl

-- what is refused isn't copied
pub refused_or_copied : (tree : Tree) (to : List ℕ) (paths : List (List ℕ)) (pairs : List Pair) (why : Refusal)
    → RefusesCopies tree to paths why → get tree to ≡ None → IsPlan tree to paths pairs → ⊥
refused_or_copied tree to paths pairs why (copies.occupied entry e) free plan = stands_or_not tree to entry (get tree to) e free
refused_or_copied tree to paths pairs why (copies.long none has) free plan = (plan_fits tree to paths pairs plan).0 has
refused_or_copied tree to paths pairs why (copies.deep none short has) free plan = (plan_fits tree to paths pairs plan).1 has

-- ---- files

abbrev is_at : NewFile → Type 0
is_at file = IsPath file.path

pub copied_paths : (to : List ℕ) (pairs : List Pair) → ((pair : Pair) → Contains pairs pair → IsPath (to ++ pair.0))
    → All is_at (copied_files to pairs)
copied_paths to [] each = All-nil is_at
copied_paths to (pair ∷ pairs) each =
    All-cons is_at (new_file (to ++ pair.0) pair.1) (copied_files to pairs) (each pair (contains_here pair pairs))
    (copied_paths to pairs (λ other held. each other (contains_there other pair pairs held)))

placed_by : (to : List ℕ) (pairs files : List Pair) (tree after : Tree) → Written tree files after → files ≡ goals to pairs
    → FilesPlaced tree (copied_files to pairs) after
placed_by to [] _ _ _ (nothing tree) e = refl
placed_by to (pair ∷ pairs) _ _ _ (nothing tree) e = absurd (cc)
placed_by to [] _ _ _ (one_more tree middle after file more placed later) e = absurd (cc)
placed_by to (pair ∷ pairs) _ _ _ (one_more tree middle after file more placed later) e = (
  middle,
  placed_at to tree middle file pair more pairs e placed,
  placed_by to pairs more middle after later (goals_behind to file pair more pairs e),
)

-- copies that are written are files that are placed
pub files_placed : (to : List ℕ) (pairs : List Pair) (tree after : Tree) → Written tree (goals to pairs) after
    → FilesPlaced tree (copied_files to pairs) after
files_placed to pairs tree after written = placed_by to pairs (goals to pairs) tree after written refl

-- and the other way round
pub written_files : (to : List ℕ) (pairs : List Pair) (tree after : Tree) → FilesPlaced tree (copied_files to pairs) after
    → Written tree (goals to pairs) after
written_files to [] tree after same = subst (λ t. Written tree [] t) (sym same) (nothing tree)
written_files to (pair ∷ pairs) tree after placed =
    one_more tree placed.0 after (to ++ pair.0, pair.1) (goals to pairs) placed.1 (written_files to pairs placed.0 after placed.2)

-- ---- what is done

only_command : (test : Bool) (some other : Command) → (if test then Some some else None) ≡ Some other → some ≡ other
only_command true some other e = cc
only_command false some other e = absurd (cc)

-- words that ask for copies ask for no other command
copies_alone : (words : List (List ℕ)) (tree : Tree) (to : List ℕ) (command : Command) (config : Config)
    → VendorsTo words to → IsConfigOf words tree command config → Vendor ≡ command
copies_alone words tree to command config asks is =
    only_command (is_page_path to) Vendor command
    (subst (λ a. command_of a ≡ Some command) (one_asked words is.asked (vendoring to) is.asks asks) is.is)

no_check : (tree : Tree) (config : Config) → ModulesAgree tree config Vendor → ⊥
no_check tree config agree = elim agree [ ]

copied_where_done : (words : List (List ℕ)) (tree : Tree) (told : Option Tree) (to : List ℕ) → VendorsTo words to
    → IsDone words tree told → HasCopied words tree told
copied_where_done words tree told to asks (done.linked l) =
    absurd (subst (λ c. IsCarried c l.map l.carrier)
    (sym (copies_alone words tree to l.generated.command l.generated.config asks l.generated.is_config)) l.carried)
copied_where_done words tree told to asks (done.served s e) =
    absurd (no_check tree s.config (subst (ModulesAgree tree s.config)
    (sym (copies_alone words tree to s.command s.config asks s.is_config)) s.agree))
copied_where_done words tree told to asks (done.listed s e) =
    absurd (let same : Vendor ≡ Lists = copies_alone words tree to Lists s.config asks s.is_config in cc)
copied_where_done words tree told to asks (done.explained s e) =
    absurd (let same : Vendor ≡ Why = copies_alone words tree to Why s.config asks s.is_config in cc)
copied_where_done words tree told to asks (done.vendored h) = h
copied_where_done words tree told to asks (done.measured m e) =
    absurd (let same : measuring m.number ≡ vendoring to =
    one_asked words (measuring m.number) (vendoring to) m.measures asks in cc)

pub if_vendored : (words : List (List ℕ)) (held told : Option Tree) (to : List ℕ) → VendorsTo words to
    → IfSome held (λ tree. IsDone words tree told) → IfSome held (λ tree. HasCopied words tree told)
if_vendored words None told to asks d = tt
if_vendored words (Some tree) told to asks d = copied_where_done words tree told to asks d
