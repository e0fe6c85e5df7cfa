-- The worked examples, by computation.
use Rattle.std.proofs.Common.{◌≡◌, ◌++◌, ◌∷◌, [], ℕ, List, length, Bool, true, false, Option, None, Ok, Err, Result, refl, sym, ap, ◌∙◌, subst}
use Rattle.std.proofs.lemmas.Map.Text.{is_eq-slice_cmp}
use Rattle.std.specs.Cmp.Lexicographic.{nat_list_cmp_total}
use Rattle.std.specs.FinMap.{get, remove, get-remove}
use Rattle.std.specs.Fmt.{digits}
use Rattle.std.specs.List.{list_any}
use Rattle.std.specs.Prelude.{codes, bytes_eq, nat_lt, cond, if◌then◌else◌}
use Rattle.std.specs.Str.{is_utf8, chars}
use Prim.Native.String.{String}
use mathlib.Core.Path.{fun_ext}
use Rattle.tree_spec.specs.FoldersAbove.{folders_from}
use Rattle.tree_spec.specs.Limits.{limit_number}
use Rattle.tree_spec.specs.LookAskings.{Sights}
use Rattle.tree_spec.specs.Trees.{Tree}
use Rattle.tree_spec.specs.declared.Entry.{Entry}
use Rattle.tree_spec.specs.declared.LimitName.TheVariants.{Entries}
use Rattle.import_map_spec.specs.WrittenMaps.{map_of}
use Rattle.import_map_spec.proofs.examples.WrittenMaps.{looked, get_map_of}
use Rattle.layout_spec.specs.WorkedExamples.{lines}
use Rattle.node_spec.specs.BuiltinNames.{texts}
use Rattle.node_spec.specs.NodeExamples.{Files, file, folder}
use Rattle.trace_spec.specs.Modules.{Config}
use Rattle.session_spec.specs.declared.Change.{Change}
use Rattle.session_spec.specs.declared.Change.TheVariants.{Link, Put, Drop}
use Rattle.session_spec.specs.declared.EditFault.{EditFault}
use Rattle.session_spec.specs.declared.EditFault.TheVariants.{NotLinked, TooManyEntries, BadEdit}
use Rattle.session_spec.specs.Edits.{Draft, can_put, put_file, is_file, changed, edited, then_edited}
use Rattle.session_spec.specs.Conversations.{Turn, bad_line, end_reply, Conversation, edits, collects, shows_it, ended, bad, stopped}
use Rattle.session_spec.specs.Replies.{IsRefused, by_change, refused, Replies, fault_line}
use Rattle.session_spec.specs.SessionStates.{Counts, SessionState, draft_of}
use Rattle.session_spec.specs.WorkedExamples.{LineExamples, TurnExamples, EntryExamples, EditExamples, AnswerExamples, draft_in, site, ShownBy, Leaves}
use Rattle.session_spec.specs.WorkedExamples.{put_at, drop_at, unlink_of, rest_of, state_of}

pub line_examples : LineExamples
unfolding is_utf8 chars lib.Utf8.encode digits
line_examples = record {
  put = refl;
  put_line_end = refl;
  put_nul = refl;
  put_nothing = refl;
  cut_short = refl;
  no_line_end = refl;
  not_followed = refl;
  leading_zero = refl;
  most_bytes = refl;
  too_many_bytes = refl;
  no_number = refl;
  no_space = refl;
  no_path = refl;
  link = refl;
  link_return = refl;
  link_nothing = refl;
  link_no_text = refl;
  unlink = refl;
  unlink_nothing = refl;
  drop = refl;
  drop_no_path = refl;
  begin = refl;
  commit = refl;
  map = refl;
  ends = refl;
  open_end = refl;
  space_behind = refl;
  other_word = refl;
  no_word = refl;
}

pub turn_examples : TurnExamples
unfolding is_utf8 chars lib.Utf8.encode
turn_examples = record {
  change = refl;
  held = refl;
  begin = refl;
  begin_again = refl;
  commit_of_none = refl;
  commit_of_nothing = refl;
  commit = refl;
  map = refl;
  map_between = refl;
  end = refl;
  end_between = refl;
  cut_short = refl;
}

-- ---- entries

by_tests : (draft : Draft) (entry : List ℕ) (known few : Bool) → list_any (bytes_eq entry) draft.entries ≡ known → nat_lt (length draft.entries) (limit_number Entries) ≡ few
    → changed draft (Link entry) ≡ (if known then Ok draft else if few then Ok (record { tree = draft.tree; entries = draft.entries ++ entry ∷ [] }) else Err TooManyEntries)
by_tests draft entry known few e f =
    (λ i. if e i then Ok draft else if f i then Ok (record { tree = draft.tree; entries = draft.entries ++ entry ∷ [] }) else Err TooManyEntries)

pub entry_examples : EntryExamples
entry_examples = record {
  in_order = λ tree. refl;
  there_already = λ tree. refl;
  not_there = λ tree. refl;
  not_twice = λ tree. refl;
  last_one = λ draft entry new count. by_tests draft entry false true new (ap (λ n. nat_lt n 1024) count);
  one_more = λ draft entry new count. by_tests draft entry false false new (ap (λ n. nat_lt n 1024) count);
  full_and_there = λ draft entry known count. by_tests draft entry true false known (ap (λ n. nat_lt n 1024) count);
}

-- ---- files

abbrev put_by : Sights → Draft → List ℕ → List ℕ → Result Draft EditFault
put_by sights draft path bytes =
    if can_put sights path
    then Ok (record { tree = put_file draft.tree path bytes; entries = draft.entries })
    else Err (BadEdit path)

put_listed : (files : Files) (path bytes : List ℕ) → changed (draft_in files []) (Put path bytes) ≡ put_by (looked files) (draft_in files []) path bytes
put_listed files path bytes = ap (λ (sights : Sights). put_by sights (draft_in files []) path bytes) (get_map_of files)

abbrev drop_by : Sights → Draft → List ℕ → Result Draft EditFault
drop_by sights draft path =
    if is_file (sights path)
    then Ok (record { tree = remove draft.tree path; entries = draft.entries })
    else Err (BadEdit path)

drop_listed : (files : Files) (path : List ℕ) → changed (draft_in files []) (Drop path) ≡ drop_by (looked files) (draft_in files []) path
drop_listed files path = ap (λ (sights : Sights). drop_by sights (draft_in files []) path) (get_map_of files)

abbrev but : Sights → List ℕ → Sights
but sights path other = cond (bytes_eq other path) None (sights other)

get_dropped : (files : Files) (path : List ℕ) → get (remove (map_of files) path) ≡ but (looked files) path
get_dropped files path =
    fun_ext (λ other. get-remove nat_list_cmp_total (map_of files) path other ∙ ap (λ b. cond b None (get (map_of files) other)) (is_eq-slice_cmp other path))
    ∙ ap (λ (sights : Sights). but sights path) (get_map_of files)

first_then : (draft after : Draft) (change : Change) (more : List Change) → changed draft change ≡ Ok after → edited draft (change ∷ more) ≡ edited after more
first_then draft after change more e = ap (λ made. then_edited made (λ a. edited a more)) e

first_refused : (draft : Draft) (change : Change) (more : List Change) (fault : EditFault) → changed draft change ≡ Err fault → edited draft (change ∷ more) ≡ Err fault
first_refused draft change more fault e = ap (λ made. then_edited made (λ a. edited a more)) e

leaves_listed : (edit : List Change) (files after : Files) (seen : List (String × Option Entry)) → edited (draft_in files []) edit ≡ Ok (draft_in after []) → ShownBy (looked after) seen → Leaves files edit seen
leaves_listed edit files after seen e shown =
    record { after = draft_in after []; made = e; shown = subst (λ (sights : Sights). ShownBy sights seen) (sym (get_map_of after)) shown }

leaves_dropped : (edit : List Change) (files before : Files) (path : List ℕ) (seen : List (String × Option Entry))
    → edited (draft_in files []) edit ≡ Ok (record { tree = remove (map_of before) path; entries = [] }) → ShownBy (but (looked before) path) seen → Leaves files edit seen
leaves_dropped edit files before path seen e shown =
    record { after = record { tree = remove (map_of before) path; entries = [] }; made = e; shown = subst (λ (sights : Sights). ShownBy sights seen) (sym (get_dropped before path)) shown }

-- what stands behind the edits
with_c : Files
with_c =
    site ++ folder "/" ∷ folder "/lib" ∷ folder "/lib/node_modules" ∷ folder "/lib/node_modules/c" ∷ file "/lib/node_modules/c/d.mjs" [] ∷ []

abbrev c_path : List ℕ
c_path = codes "/lib/node_modules/c/d.mjs"

abbrev m_path : List ℕ
m_path = codes "/lib/m.mjs"

abbrev with_x : Files
with_x = site ++ folder "/" ∷ folder "/lib" ∷ file "/lib/m.mjs" (codes "x") ∷ []

abbrev with_a : Files
with_a = site ++ folder "/" ∷ file "/a" [] ∷ []

abbrev draft_without : Files → List ℕ → Draft
draft_without files path = record { tree = remove (map_of files) path; entries = [] }

c_put : changed (draft_in site []) (Put c_path []) ≡ Ok (draft_in with_c [])
unfolding folders_from with_c
c_put = put_listed site c_path []

pub edit_examples : EditExamples
unfolding folders_from with_c
edit_examples = record {
  makes_folders =
      leaves_listed (Put c_path [] ∷ []) site with_c _ (first_then (draft_in site []) (draft_in with_c []) (Put c_path []) [] c_put)
      (refl, (refl, (refl, (refl, (refl, tt)))));
  new_bytes =
      leaves_listed (Put m_path (codes "x") ∷ []) site with_x _
      (first_then (draft_in site []) (draft_in with_x []) (Put m_path (codes "x")) [] (put_listed site m_path (codes "x"))) (refl, (refl, tt));
  folder_stays =
      leaves_dropped (Drop m_path ∷ []) site site m_path _
      (first_then (draft_in site []) (draft_without site m_path) (Drop m_path) [] (drop_listed site m_path)) (refl, (refl, tt));
  folders_stay =
      leaves_dropped (Put c_path [] ∷ Drop c_path ∷ []) site with_c c_path _
      (first_then (draft_in site []) (draft_in with_c []) (Put c_path []) (Drop c_path ∷ []) c_put
      ∙ first_then (draft_in with_c []) (draft_without with_c c_path) (Drop c_path) [] (drop_listed with_c c_path))
      (refl, (refl, (refl, tt)));
  nothing = leaves_listed [] site site _ refl (refl, (refl, tt));
  at_folder = first_refused (draft_in site []) (Put (codes "/lib") []) [] (BadEdit (codes "/lib")) (put_listed site (codes "/lib") []);
  at_root = first_refused (draft_in site []) (Put (codes "/") []) [] (BadEdit (codes "/")) (put_listed site (codes "/") []);
  below_file =
      first_refused (draft_in site []) (Put (codes "/lib/m.mjs/a/b") []) [] (BadEdit (codes "/lib/m.mjs/a/b"))
      (put_listed site (codes "/lib/m.mjs/a/b") []);
  no_file = first_refused (draft_in site []) (Drop (codes "/q")) [] (BadEdit (codes "/q")) (drop_listed site (codes "/q"));
  no_file_but_folder = first_refused (draft_in site []) (Drop (codes "/lib")) [] (BadEdit (codes "/lib")) (drop_listed site (codes "/lib"));
  below_put =
      first_then (draft_in site []) (draft_in with_a []) (Put (codes "/a") []) (Put (codes "/a/b") [] ∷ Drop (codes "/q") ∷ []) (put_listed site (codes "/a") [])
      ∙ first_refused (draft_in with_a []) (Put (codes "/a/b") []) (Drop (codes "/q") ∷ []) (BadEdit (codes "/a/b")) (put_listed with_a (codes "/a/b") []);
}

-- ---- inputs

refused_reply : (state : SessionState) (edit : List Change) (fault : EditFault) → edited (draft_of state) edit ≡ Err fault → Replies state edit state (fault_line fault)
refused_reply state edit fault e =
    refused (edited (draft_of state) edit) (fault_line fault) (subst (λ (made : Result Draft EditFault). IsRefused state made (fault_line fault)) (sym e) (by_change fault))

pub q_not_linked : (state : SessionState) → state.config.entries ≡ texts ("./app.mjs" ∷ []) → edited (draft_of state) (unlink_of "q" ∷ []) ≡ Err (NotLinked (codes "q"))
q_not_linked state e = ap (λ (entries : List (List ℕ)). edited (record { tree = state.tree; entries = entries }) (unlink_of "q" ∷ [])) e

q_no_file : (state : SessionState) → get state.tree (codes "/q") ≡ None → edited (draft_of state) (drop_at "/q" ∷ []) ≡ Err (BadEdit (codes "/q"))
q_no_file state none =
    ap (λ (seen : Option Entry). then_edited (if is_file seen then Ok (record { tree = remove state.tree (codes "/q"); entries = state.config.entries }) else Err (BadEdit (codes "/q"))) (λ after. edited after []))
    none

abbrev shown_state : Tree → Config → Counts → SessionState
shown_state tree config counts = state_of tree config (lines ("{" ∷ "  \"imports\": {}" ∷ "}" ∷ [])) counts

abbrev empty_state : Tree → Config → Counts → SessionState
empty_state tree config counts = state_of tree config [] counts

pub answer_examples : AnswerExamples
unfolding is_utf8 chars lib.Utf8.encode digits
answer_examples = record {
  nothing = λ state. stopped state 1;
  commit = λ state. bad state 1;
  open_end = λ state. stopped state 1;
  end_between = λ state. collects state 1 7 [] (rest_of 1 (lines ("end" ∷ []))) (bad_line 2) (bad state 2);
  counted =
      λ state. collects state 1 7 [] (rest_of 1 (lines ("put /a 3" ∷ "a" ∷ "b" ∷ "begin" ∷ []))) (bad_line 5)
      (collects state 2 7 (put_at "/a" (97 ∷ 10 ∷ 98 ∷ []) ∷ []) (rest_of 3 (lines ("begin" ∷ []))) (bad_line 5) (bad state 5));
  map =
      λ tree config counts. shows_it (shown_state tree config counts) 1 0 (rest_of 1 (lines ("end" ∷ []))) end_reply (ended (shown_state tree config counts) 2);
  cut_short =
      λ tree config counts. shows_it (empty_state tree config counts) 1 7 (rest_of 1 (lines ("put /a 9" ∷ "abc" ∷ []))) (bad_line 2) (stopped (empty_state tree config counts) 2);
  refused =
      λ state entries none.
      edits state state 1 0 (unlink_of "q" ∷ []) (rest_of 1 (lines ("drop /q" ∷ "end" ∷ "x" ∷ []))) (fault_line (NotLinked (codes "q")))
      (fault_line (BadEdit (codes "/q")) ++ end_reply) (refused_reply state (unlink_of "q" ∷ []) (NotLinked (codes "q")) (q_not_linked state entries))
      (edits state state 2 0 (drop_at "/q" ∷ []) (rest_of 1 (lines ("end" ∷ "x" ∷ []))) (fault_line (BadEdit (codes "/q"))) end_reply
      (refused_reply state (drop_at "/q" ∷ []) (BadEdit (codes "/q")) (q_no_file state none)) (ended state 3));
  too_long = λ state input e. subst (λ (at : Turn). Conversation true state 1 at (lines ("limit: session above 268435456" ∷ [])) 3) (sym e) (stopped state 1);
}
