-- How a run goes by its words.
use Rattle.std.proofs.Common.{◌≡◌, ◌≢◌, ◌≤◌, ℕ, suc, List, [], ◌∷◌, ◌++◌, Bool, true, false, Option, Some, None, Err, IfSome, refl, sym, ap, ◌∙◌, subst, inl, arith}
use Rattle.std.proofs.lemmas.List.{append-nil}
use Rattle.tree_spec.specs.declared.Entry.TheVariants.{Stored}
use Rattle.tree_spec.specs.Counts.{Rose}
use Rattle.tree_spec.specs.States.{FolderState, SinkState, IsWritten}
use Rattle.tree_spec.specs.Trees.{Tree, Places}
use Rattle.tree_spec.proofs.ToldStates.{if_some}
use Rattle.trace_spec.specs.Modules.{Config}
use Rattle.config_spec.specs.declared.Command.{Command}
use Rattle.config_spec.specs.declared.Command.TheVariants.{Why, Vendor}
use Rattle.config_spec.specs.Projects.{project_path, IsConfigOf}
use Rattle.config_spec.specs.Words.{IsCommandOf}
use Rattle.command_words.specs.declared.fault.WordsFault.{WordsFault}
use Rattle.command_words.specs.declared.fault.WordsFault.TheVariants as words_fault
use Rattle.command_words.specs.declared.order.Order.{Order}
use Rattle.command_words.specs.declared.order.Order.TheVariants as orders
use Rattle.command_words.specs.Orders.{IsOrder, command_ordered, settings_ordered}
use Rattle.generator_spec.specs.declared.Refusal.TheVariants as refusal
use Rattle.generator_spec.specs.Commands.{NewFile}
use Rattle.generator_spec.specs.Ending.{AreWritten, Ends}
use Rattle.generator_spec.specs.Lines.{counts_line, memory_line, write_fault_line}
use Rattle.generator_spec.specs.Asked.{AsksInOrder, AsksInOrder as asks_in_order, IsConfigAt}
use Rattle.generator_core.specs.declared.prepared.Prepared.{Prepared}
use Rattle.generator_spec.specs.Asked.{AsksOwn, AsksFew}
use Rattle.generator_core.specs.Preparing.{shown_files}
use Rattle.generator_core.specs.Writing.{AreSome, EndsWriting, IsWriting, SaysWrite, SaysWrite as says_write, TellsNoMeaning, TellsNoMeaning as tells_text, TellsWords, WritesFiles, WritesFiles as writes_files}
use Rattle.generator_core.proofs.Endings.{status_done, refusal_not_done, some_same}

-- ---- words

pub command_is : (words : List (List ℕ)) (order : Order) → IsOrder words order → IsCommandOf words (command_ordered order)
command_is words order is = record { asked = is.asked; asks = is.asks; is = is.is_order.is; settings = settings_ordered order; sets = is.is_order.sets }

-- no order asks why a file is loaded
pub not_why : (order : Order) → command_ordered order ≢ Why
not_why (orders.Link settings entries) e = absurd (cc)
not_why (orders.Unlink entries) e = absurd (cc)
not_why orders.Refresh e = absurd (cc)
not_why orders.Check e = absurd (cc)
not_why orders.CheckStrictly e = absurd (cc)
not_why orders.List e = absurd (cc)
not_why orders.Inject e = absurd (cc)

-- nor for copies
pub not_vendor : (order : Order) → command_ordered order ≢ Vendor
not_vendor (orders.Link settings entries) e = absurd (cc)
not_vendor (orders.Unlink entries) e = absurd (cc)
not_vendor orders.Refresh e = absurd (cc)
not_vendor orders.Check e = absurd (cc)
not_vendor orders.CheckStrictly e = absurd (cc)
not_vendor orders.List e = absurd (cc)
not_vendor orders.Inject e = absurd (cc)

text_not_done : (out out_after : SinkState) (result : ℕ) → TellsNoMeaning out out_after result → result ≢ 0
text_not_done out out_after result (tells_text.text text told) zero = let e = status_done 2 text out out_after result told zero in absurd (omega (arith, e))

-- refused words aren't answered by 0
pub words_not_done : (fault : WordsFault) (out out_after : SinkState) (result : ℕ) → TellsWords fault out out_after result → result ≢ 0
words_not_done (words_fault.Told text) out out_after result told zero = text_not_done out out_after result told zero
words_not_done words_fault.NotPlain out out_after result told zero = text_not_done out out_after result told zero
words_not_done (words_fault.Refused fault) out out_after result told zero = refusal_not_done (refusal.Config fault) out out_after result told zero
words_not_done words_fault.Memory out out_after result told zero = let e = status_done 8 memory_line out out_after result told zero in absurd (omega (arith, e))

-- ---- what is asked of the folder

pub asks_nothing_in_order : (words : List (List ℕ)) (state : FolderState) → IfSome state.asked (λ old. AsksInOrder words state old state)
asks_nothing_in_order words state = some_same state.asked _ (λ old is. asks_in_order.own (record { first = []; is_own = inl refl; asked = is ∙ ap Some (sym (append-nil old)) }))

pub project_asks : (words : List (List ℕ)) (before after : FolderState) (told : Option (List (List ℕ))) → IfSome told (λ old. AsksOwn (project_path ∷ []) old after) → IfSome told (λ old. AsksInOrder words before old after)
project_asks words before after told asks = if_some told (λ old is. asks_in_order.own is) asks

pub config_asks :
    (words : List (List ℕ)) (command : Command) (config : Config) (before middle after : FolderState) (told : Option (List (List ℕ))) → IsConfigAt words command config before → middle.holds ≡ before.holds → IfSome told (λ old. AsksOwn (project_path ∷ []) old middle)
    → IfSome middle.asked (λ old. AsksFew command config middle.holds old after) → IfSome told (λ old. AsksInOrder words before old after)
config_asks words command config before middle after None is same asks later = tt
config_asks words command config before middle after (Some old) is same asks later =
    asks_in_order.then asks.first asks.is_own command config is
    (subst (λ held. AsksFew command config held (old ++ asks.first) after) same
    (subst (λ told. IfSome told (λ before. AsksFew command config middle.holds before after)) asks.asked later))

-- what each words give stands for all of them
pub for_all_words : {W : Type 0} {Is : W → Type 0} (P : W → List (List ℕ) → Type 0) (told : Option (List (List ℕ))) → ((words : W) → Is words → IfSome told (P words)) → IfSome told (λ old. (words : W) → Is words → P words old)
for_all_words P None each = tt
for_all_words P (Some old) each = each

-- a config of a folder is one of the folder behind a look
pub config_still : (words : List (List ℕ)) (command : Command) (config : Config) (before middle : FolderState) → middle.holds ≡ before.holds → IsConfigAt words command config before → IsConfigAt words command config middle
config_still words command config before middle same is = record {
  told = subst (λ held. IfSome held (λ tree. IsConfigOf words tree command config)) (sym same) is.told;
  can = is.can;
}

-- ---- writes

not_written : (tree : Tree) (told : Option Tree) → told ≡ Some tree → AreWritten tree [] told
not_written tree told is = record { after = tree; is_told = is; placed = refl }

pub none_written : (state : FolderState) → WritesFiles [] state true state
none_written state =
    writes_files.all refl (some_same state.holds _ (λ tree is. not_written tree state.holds is)) refl
    (record { untold = λ none. none; asked = refl; looks = refl; later = omega arith })

module _ {E : Type 0} (file : NewFile) (files : List NewFile) (before after : FolderState) where
  pub first_fails : (why : E) → IsWritten before file.path file.bytes (Err why) after → WritesFiles (file ∷ files) before false after
  first_fails why is =
      writes_files.some refl
      (some_same before.holds _ (λ tree held. record { count = 0; fewer = omega arith; written = not_written tree after.holds (is.tree ∙ held) })) is.failed
      (record { untold = is.untold; asked = is.asked; looks = is.looks; later = is.later })

module _ (file : NewFile) (files : List NewFile) (before middle after : FolderState) (asked : middle.asked ≡ before.asked) (looked : middle.look_faults ≡ before.look_faults) (quiet : middle.write_faults ≡ before.write_faults) (untold : before.holds ≡ None → middle.holds ≡ None) where
  placed_then : (tree later : Tree) → Places tree file.path (Stored file.bytes) later → AreWritten later files after.holds → AreWritten tree (file ∷ files) after.holds
  placed_then tree later places is = record { after = is.after; is_told = is.is_told; placed = (later, places, is.placed) }

  some_then : (tree later : Tree) → Places tree file.path (Stored file.bytes) later → AreSome files later after.holds → AreSome (file ∷ files) tree after.holds
  some_then tree later places is =
      let n = is.fewer in
      record {
        count = suc is.count;
        fewer = omega (arith, n);
        written = record { after = is.written.after; is_told = is.written.is_told; placed = (later, places, is.written.placed) };
      }

  abbrev IsPlaced : Tree → Type 0
  IsPlaced tree = (later : Tree) × (middle.holds ≡ Some later) × Places tree file.path (Stored file.bytes) later

  behind : {P Q : Tree → Type 0} (held : Option Tree) → IfSome held IsPlaced → IfSome middle.holds P → ((tree later : Tree) → Places tree file.path (Stored file.bytes) later → P later → Q tree) → IfSome held Q
  behind None placed there next = tt
  behind {P} (Some tree) placed there next = next tree placed.0 placed.2 (subst (λ held. IfSome held P) placed.1 there)

  writing : IsWriting middle after → IsWriting before after
  writing is =
      let later = is.later in
      record { untold = λ none. is.untold (untold none); asked = is.asked ∙ asked; looks = is.looks ∙ looked; later = omega (arith, later, quiet) }

  pub then_written : (done : Bool) → IfSome before.holds IsPlaced → WritesFiles files middle done after → WritesFiles (file ∷ files) before done after
  then_written done placed (writes_files.all is told same others) = writes_files.all is (behind before.holds placed told placed_then) (same ∙ quiet) (writing others)
  then_written done placed (writes_files.some is told rose others) = writes_files.some is (behind before.holds placed told some_then) (subst (λ n. Rose n after.write_faults) quiet rose) (writing others)

-- ---- what is said of the writes

module _ (prepared : Prepared) (before after : FolderState) (out out_after : SinkState) (result : ℕ) (more : out.faults ≤ out_after.faults) where
  finishes : (status : ℕ) (line : List ℕ) → SaysWrite before after (shown_files prepared) (counts_line prepared.modules prepared.requests prepared.mappings) status line → Ends status line out out_after result → IsWriting before after → EndsWriting prepared before after out out_after result
  finishes status line says ends others = record { status = status; line = line; says = says; ends = ends; untold = others.untold; asked = others.asked; looks = others.looks; writes = others.later; output = more }

  pub done_finishes : (line : List ℕ) → line ≡ counts_line prepared.modules prepared.requests prepared.mappings → (files : List NewFile) → files ≡ shown_files prepared → WritesFiles files before true after → Ends 0 line out out_after result → EndsWriting prepared before after out out_after result
  done_finishes line same files are (writes_files.all is told quiet others) ends = finishes 0 line (says_write.written refl same (subst (λ fs. IfSome before.holds (λ tree. AreWritten tree fs after.holds)) are told) quiet) ends others
  done_finishes line same files are (writes_files.some is told rose others) ends = absurd (cc)

  pub failed_finishes : (line : List ℕ) → line ≡ write_fault_line → (files : List NewFile) → files ≡ shown_files prepared → WritesFiles files before false after → Ends 5 line out out_after result → EndsWriting prepared before after out out_after result
  failed_finishes line same files are (writes_files.all is told quiet others) ends = absurd (cc)
  failed_finishes line same files are (writes_files.some is told rose others) ends = finishes 5 line (says_write.write_fault refl same (subst (λ fs. IfSome before.holds (λ tree. AreSome fs tree after.holds)) are told) rose) ends others

pub memory_finishes : (prepared : Prepared) (state : FolderState) (out out_after : SinkState) (result : ℕ) (line : List ℕ) → out.faults ≤ out_after.faults → line ≡ memory_line → Ends 8 line out out_after result → EndsWriting prepared state state out out_after result
memory_finishes prepared state out out_after result line more same ends = record {
  status = 8;
  line = line;
  says = says_write.memory refl same refl refl;
  ends = ends;
  untold = λ none. none;
  asked = refl;
  looks = refl;
  writes = omega arith;
  output = more;
}
