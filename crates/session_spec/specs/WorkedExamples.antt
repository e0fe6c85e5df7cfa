-- Worked examples: lines, changes of a small site, what a line does at each place, and whole inputs.
--     LineExamples                    how lines are read
--     site, draft_in files entries    a small site, and a site as a draft
--     put_of count                    the line of a put of so many bytes
--     put_at path bytes, drop_at path, link_to entry, unlink_of entry     changes
--     ShownBy sights seen             this is seen at these paths
--     Leaves files edit seen          the edit is made, and this stands at these paths behind it
--     RefusesEdit files edit fault    the edit is refused
--     EditExamples, EntryExamples     changes of files, of entries
--     TurnExamples                    each place of `begin`, `commit`, `map` and `end`
--     AnswerExamples                  what is replied to whole inputs
--     FrugalExamples                  what an edit asks anew, and how many steps lines take
use Rattle.std.specs.FinMap.{get}
use Rattle.std.specs.List.{list_any}
use Rattle.std.specs.Fmt.{decimal}
use Rattle.std.specs.Prelude.{◌≡◌, ◌+◌, ◌++◌, ◌∷◌, [], ⊤, ℕ, true, false, List, length, bytes_eq, codes, Contains}
use Rattle.std.specs.Prelude.{Option, Some, None, Ok, Err}
use Prim.Native.String.{String}
use Rattle.asking_spec.specs.Askings.{questions}
use Rattle.tree_spec.specs.Limits.{limit_number}
use Rattle.tree_spec.specs.LookAskings.{Sights}
use Rattle.tree_spec.specs.Trees.{Tree}
use Rattle.tree_spec.specs.declared.LimitName.TheVariants.{File}
use Rattle.tree_spec.specs.declared.Entry.{Entry}
use Rattle.tree_spec.specs.declared.Entry.TheVariants.{Stored, Directory}
use Rattle.import_map_spec.specs.WrittenMaps.{map_of}
use Rattle.layout_spec.specs.WorkedExamples.{lines}
use Rattle.node_spec.specs.BuiltinNames.{texts}
use Rattle.node_spec.specs.NodeExamples.{Files, file, folder}
use Rattle.trace_spec.specs.Modules.{Config}
use Rattle.trace_spec.specs.Questions.{Question, of_module, always}
use Rattle.trace_spec.specs.Traces.{trace}
use Rattle.session_spec.specs.declared.Change.{Change}
use Rattle.session_spec.specs.declared.Change.TheVariants.{Link, Unlink, Put, Drop}
use Rattle.session_spec.specs.declared.EditFault.{EditFault}
use Rattle.session_spec.specs.declared.EditFault.TheVariants.{NotLinked, TooManyEntries, BadEdit}
use Rattle.session_spec.specs.Conversations.{makes, holds, shows, ends, refuses, stops, turn_at, Conversation, Answers}
use Rattle.session_spec.specs.Conversations.{map_reply}
use Rattle.session_spec.specs.Edits.{Draft, changed, edited}
use Rattle.session_spec.specs.Frugality.{IsFreshFor, IsFrugal}
use Rattle.session_spec.specs.SessionDoings.{Done, EditsDo}
use Rattle.session_spec.specs.SessionLines.{changes, begins, commits, shows_map, ends_session, Rest}
use Rattle.session_spec.specs.SessionLines.{reads, malformed, unfinished, read_line}
use Rattle.session_spec.specs.SessionStates.{Counts, SessionState}

abbrev pub put_of : ℕ → List ℕ
put_of count = codes "put /lib " ++ (decimal count ++ (10 ∷ []))

abbrev pub put_at : String → List ℕ → Change
put_at path bytes = Put (codes path) bytes

abbrev pub drop_at : String → Change
drop_at path = Drop (codes path)

abbrev pub link_to : String → Change
link_to entry = Link (codes entry)

abbrev pub unlink_of : String → Change
unlink_of entry = Unlink (codes entry)

-- ---- lines

abbrev pub rest_of : ℕ → List ℕ → Rest
rest_of taken behind = record { lines = taken; behind = behind }

pub record LineExamples : Type 0 where
  pub put :
      read_line (lines ("put /lib 2" ∷ "{}" ∷ "end" ∷ []))
      ≡ reads (changes (put_at "/lib" (codes "{}"))) (rest_of 2 (lines ("end" ∷ [])))
  -- a space in the path, and bytes that are a line end
  pub put_line_end :
      read_line (lines ("put /a b 1" ∷ "" ∷ "" ∷ [])) ≡ reads (changes (put_at "/a b" (10 ∷ []))) (rest_of 3 [])
  pub put_nul :
      read_line (lines ("put /a 1" ∷ []) ++ 0 ∷ 10 ∷ []) ≡ reads (changes (put_at "/a" (0 ∷ []))) (rest_of 2 [])
  pub put_nothing : read_line (lines ("put /a 0" ∷ "" ∷ [])) ≡ reads (changes (put_at "/a" [])) (rest_of 2 [])
  pub cut_short : read_line (lines ("put /lib 3" ∷ []) ++ codes "{}") ≡ unfinished
  pub no_line_end : read_line (lines ("put /lib 2" ∷ []) ++ codes "{}") ≡ unfinished
  pub not_followed : read_line (lines ("put /lib 1" ∷ "{}" ∷ [])) ≡ malformed
  pub leading_zero : read_line (lines ("put /lib 02" ∷ "{}" ∷ [])) ≡ malformed
  pub most_bytes : read_line (put_of (limit_number File)) ≡ unfinished
  pub too_many_bytes : read_line (put_of (limit_number File + 1)) ≡ malformed
  pub no_number : read_line (lines ("put /lib " ∷ "" ∷ [])) ≡ malformed
  pub no_space : read_line (lines ("put /lib" ∷ "" ∷ [])) ≡ malformed
  pub no_path : read_line (lines ("put lib 0" ∷ "" ∷ [])) ≡ malformed
  pub link :
      read_line (lines ("link ./a b" ∷ [])) ≡ reads (changes (link_to "./a b")) (rest_of 1 [])
  -- CR is of the entry
  pub link_return :
      read_line (codes "link a" ++ 13 ∷ 10 ∷ []) ≡ reads (changes (Link (codes "a" ++ 13 ∷ []))) (rest_of 1 [])
  pub link_nothing : read_line (lines ("link " ∷ [])) ≡ malformed
  pub link_no_text : read_line (codes "link " ++ 255 ∷ 10 ∷ []) ≡ malformed
  pub unlink : read_line (lines ("unlink q" ∷ [])) ≡ reads (changes (unlink_of "q")) (rest_of 1 [])
  pub unlink_nothing : read_line (lines ("unlink " ∷ [])) ≡ malformed
  pub drop : read_line (lines ("drop /a b" ∷ [])) ≡ reads (changes (drop_at "/a b")) (rest_of 1 [])
  pub drop_no_path : read_line (lines ("drop /a/" ∷ [])) ≡ malformed
  pub begin : read_line (lines ("begin" ∷ [])) ≡ reads begins (rest_of 1 [])
  pub commit : read_line (lines ("commit" ∷ [])) ≡ reads commits (rest_of 1 [])
  pub map : read_line (lines ("map" ∷ [])) ≡ reads shows_map (rest_of 1 [])
  pub ends : read_line (lines ("end" ∷ []) ++ codes "x") ≡ reads ends_session (rest_of 1 (codes "x"))
  pub open_end : read_line (codes "end") ≡ unfinished
  pub space_behind : read_line (lines ("end " ∷ [])) ≡ malformed
  pub other_word : read_line (lines ("stop" ∷ [])) ≡ malformed
  pub no_word : read_line (lines ("" ∷ [])) ≡ malformed

-- ---- files

abbrev pub site : Files
site = folder "/" ∷ folder "/lib" ∷ file "/lib/m.mjs" (codes "import \"c\";") ∷ []

abbrev pub draft_in : Files → List String → Draft
draft_in files entries = record { tree = map_of files; entries = texts entries }

abbrev pub ShownBy : Sights → List (String × Option Entry) → Type 0
ShownBy sights [] = ⊤
ShownBy sights (seen ∷ more) = (sights (codes seen.0) ≡ seen.1) × ShownBy sights more

pub record Leaves (files : Files) (edit : List Change) (seen : List (String × Option Entry)) : Type 0 where
  pub after : Draft
  pub made : edited (draft_in files []) edit ≡ Ok after
  pub shown : ShownBy (get after.tree) seen

abbrev pub RefusesEdit : Files → List Change → EditFault → Type 0
RefusesEdit files edit fault = edited (draft_in files []) edit ≡ Err fault

pub record EditExamples : Type 0 where
  pub makes_folders :
      Leaves site (put_at "/lib/node_modules/c/d.mjs" [] ∷ [])
      (("/lib/node_modules", Some Directory)
      ∷ ("/lib/node_modules/c", Some Directory)
      ∷ ("/lib/node_modules/c/d.mjs", Some (Stored []))
      ∷ ("/lib/m.mjs", Some (Stored (codes "import \"c\";")))
      ∷ ("/node_modules", None)
      ∷ [])
  pub new_bytes :
      Leaves site (put_at "/lib/m.mjs" (codes "x") ∷ [])
      (("/lib/m.mjs", Some (Stored (codes "x"))) ∷ ("/lib", Some Directory) ∷ [])
  pub folder_stays :
      Leaves site (drop_at "/lib/m.mjs" ∷ []) (("/lib/m.mjs", None) ∷ ("/lib", Some Directory) ∷ [])
  -- what is put and dropped again leaves its folders
  pub folders_stay :
      Leaves site (put_at "/lib/node_modules/c/d.mjs" [] ∷ drop_at "/lib/node_modules/c/d.mjs" ∷ [])
      (("/lib/node_modules/c/d.mjs", None)
      ∷ ("/lib/node_modules/c", Some Directory)
      ∷ ("/lib/node_modules", Some Directory)
      ∷ [])
  pub nothing : Leaves site [] (("/lib", Some Directory) ∷ ("/app.mjs", None) ∷ [])
  pub at_folder : RefusesEdit site (put_at "/lib" [] ∷ []) (BadEdit (codes "/lib"))
  pub at_root : RefusesEdit site (put_at "/" [] ∷ []) (BadEdit (codes "/"))
  pub below_file : RefusesEdit site (put_at "/lib/m.mjs/a/b" [] ∷ []) (BadEdit (codes "/lib/m.mjs/a/b"))
  pub no_file : RefusesEdit site (drop_at "/q" ∷ []) (BadEdit (codes "/q"))
  pub no_file_but_folder : RefusesEdit site (drop_at "/lib" ∷ []) (BadEdit (codes "/lib"))
  -- a change sees those before it, and the first that is refused tells why
  pub below_put :
      RefusesEdit site (put_at "/a" [] ∷ put_at "/a/b" [] ∷ drop_at "/q" ∷ []) (BadEdit (codes "/a/b"))

-- ---- entries

pub record EntryExamples : Type 0 where
  pub in_order :
      (tree : Tree) → edited (record { tree = tree; entries = [] }) (link_to "a" ∷ link_to "b" ∷ unlink_of "a" ∷ [])
      ≡ Ok (record { tree = tree; entries = texts ("b" ∷ []) })
  pub there_already :
      (tree : Tree) → edited (record { tree = tree; entries = texts ("a" ∷ "b" ∷ []) }) (link_to "a" ∷ [])
      ≡ Ok (record { tree = tree; entries = texts ("a" ∷ "b" ∷ []) })
  pub not_there :
      (tree : Tree) → edited (record { tree = tree; entries = texts ("a" ∷ []) }) (unlink_of "q" ∷ [])
      ≡ Err (NotLinked (codes "q"))
  pub not_twice :
      (tree : Tree)
      → edited (record { tree = tree; entries = texts ("a" ∷ []) }) (unlink_of "a" ∷ unlink_of "a" ∷ [])
      ≡ Err (NotLinked (codes "a"))
  pub last_one :
      (draft : Draft) (entry : List ℕ) → list_any (bytes_eq entry) draft.entries ≡ false
      → length draft.entries ≡ 1023
      → changed draft (Link entry) ≡ Ok (record { tree = draft.tree; entries = draft.entries ++ entry ∷ [] })
  pub one_more :
      (draft : Draft) (entry : List ℕ) → list_any (bytes_eq entry) draft.entries ≡ false
      → length draft.entries ≡ 1024 → changed draft (Link entry) ≡ Err TooManyEntries
  pub full_and_there :
      (draft : Draft) (entry : List ℕ) → list_any (bytes_eq entry) draft.entries ≡ true
      → length draft.entries ≡ 1024 → changed draft (Link entry) ≡ Ok draft

-- ---- places

pub record TurnExamples : Type 0 where
  pub change : turn_at None (lines ("unlink q" ∷ [])) ≡ makes (unlink_of "q" ∷ []) (rest_of 1 [])
  pub held :
      turn_at (Some (link_to "a" ∷ [])) (lines ("unlink q" ∷ []))
      ≡ holds (link_to "a" ∷ unlink_of "q" ∷ []) (rest_of 1 [])
  pub begin : turn_at None (lines ("begin" ∷ [])) ≡ holds [] (rest_of 1 [])
  pub begin_again : turn_at (Some []) (lines ("begin" ∷ [])) ≡ refuses
  pub commit_of_none : turn_at None (lines ("commit" ∷ [])) ≡ refuses
  pub commit_of_nothing : turn_at (Some []) (lines ("commit" ∷ [])) ≡ makes [] (rest_of 1 [])
  pub commit :
      turn_at (Some (link_to "a" ∷ [])) (lines ("commit" ∷ [])) ≡ makes (link_to "a" ∷ []) (rest_of 1 [])
  pub map : turn_at None (lines ("map" ∷ [])) ≡ shows (rest_of 1 [])
  pub map_between : turn_at (Some []) (lines ("map" ∷ [])) ≡ refuses
  pub end : turn_at None (lines ("end" ∷ [])) ≡ ends
  pub end_between : turn_at (Some []) (lines ("end" ∷ [])) ≡ refuses
  pub cut_short : turn_at None (codes "commit") ≡ stops

-- ---- inputs

abbrev pub state_of : Tree → Config → List ℕ → Counts → SessionState
state_of tree config map counts = record { tree = tree; config = config; map = map; counts = counts }

pub record AnswerExamples : Type 0 where
  pub nothing : (state : SessionState) → Answers state [] (lines ("bad file: session line 1" ∷ [])) 7
  pub commit :
      (state : SessionState) → Answers state (lines ("commit" ∷ [])) (lines ("bad file: session line 1" ∷ [])) 7
  pub open_end : (state : SessionState) → Answers state (codes "end") (lines ("bad file: session line 1" ∷ [])) 7
  pub end_between :
      (state : SessionState) → Answers state (lines ("begin" ∷ "end" ∷ [])) (lines ("bad file: session line 2" ∷ [])) 7
  -- the lines of a file count
  pub counted :
      (state : SessionState)
      → Answers state (lines ("begin" ∷ "put /a 3" ∷ "a" ∷ "b" ∷ "begin" ∷ []))
      (lines ("bad file: session line 5" ∷ [])) 7
  pub map :
      (tree : Tree) (config : Config) (counts : Counts)
      → Answers (state_of tree config (lines ("{" ∷ "  \"imports\": {}" ∷ "}" ∷ [])) counts)
      (lines ("map" ∷ "end" ∷ [])) (lines ("map 20" ∷ "{" ∷ "  \"imports\": {}" ∷ "}" ∷ "end" ∷ [])) 0
  -- a file that is cut short is refused with the number of its own line
  pub cut_short :
      (tree : Tree) (config : Config) (counts : Counts)
      → Answers (state_of tree config [] counts) (lines ("map" ∷ "put /a 9" ∷ "abc" ∷ []))
      (lines ("map 0" ∷ "bad file: session line 2" ∷ [])) 7
  -- refused edits leave the state
  pub refused :
      (state : SessionState) → state.config.entries ≡ texts ("./app.mjs" ∷ []) → get state.tree (codes "/q") ≡ None
      → Answers state (lines ("unlink q" ∷ "drop /q" ∷ "end" ∷ "x" ∷ []))
      (lines ("refused: NotLinked \"q\"" ∷ "refused: BadEdit \"/q\"" ∷ "end" ∷ [])) 0
  -- the limit ends a session where more comes than it allows
  pub too_long :
      (state : SessionState) (input : List ℕ) → turn_at None input ≡ stops
      → Conversation true state 1 (turn_at None input) (lines ("limit: session above 268435456" ∷ [])) 3

-- ---- steps

pub record FrugalExamples : Type 0 where
  -- of what was asked already, nothing is fresh on the same tree
  pub same_tree :
      (tree : Tree) (config : Config) (question : Question)
      → Contains (questions (always (get tree)) (trace config)) question → IsFreshFor tree config tree question → ⊥
  -- a module of which other bytes stand there is
  pub other_bytes :
      (tree later : Tree) (config : Config) → get tree (codes "/m.mjs") ≡ Some (Stored [])
      → get later (codes "/m.mjs") ≡ Some (Stored (codes "1"))
      → IsFreshFor tree config later (of_module (codes "/m.mjs"))
  -- what can't be unlinked takes no step
  pub refused :
      (state : SessionState) (from to : ℕ) → state.config.entries ≡ texts ("./app.mjs" ∷ [])
      → IsFrugal state (unlink_of "q" ∷ []) from to → to ≡ from
  -- nor do other lines, which show nothing either
  pub no_edit :
      (state : SessionState) (opened : Done)
      → EditsDo state (lines ("map" ∷ "begin" ∷ "map" ∷ [])) opened (map_reply state.map) opened.spent opened.showings
