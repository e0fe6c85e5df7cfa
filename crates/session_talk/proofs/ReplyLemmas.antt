-- Replies that are given in one piece and in two.
use Rattle.std.proofs.Common.{◌≡◌, ◌++◌, [], ℕ, List, length, Option, Some, None, refl, sym, ap, ◌∙◌, subst, arith}
use Rattle.std.proofs.lemmas.List.{append_assoc, take-append-le, take_min}
use Rattle.std.specs.Fmt.{decimal}
use Rattle.std.specs.Prelude.{codes, take, min, option_map, IfSome}
use Rattle.tree_spec.specs.Counts.{Rose}
use Rattle.tree_spec.specs.States.{SinkState}
use Rattle.generator_spec.specs.Ending.{Ends, Gives}
use Rattle.generator_spec.specs.Lines.{end_of_line, memory_line, read_fault_line}
use Rattle.generator_spec.specs.Statuses.{memory_status, read_fault_status}
use Rattle.session_spec.specs.declared.Change.{Change}
use Rattle.tree_spec.proofs.ToldStates.{if_all}
use Rattle.session_spec.specs.Conversations.{map_reply}
use Rattle.session_spec.specs.SessionDoings.{SeesMore, MayShow, nothing}
use Rattle.session_spec.specs.Showings.{Shown}
use Rattle.session_talk.specs.Editors.{EditorState, Seen, EditsTold, EditsLook, EditSpends, Shows}
use Rattle.session_talk.specs.Talking.{Gave, CutOff, GivesReply, Makes, replied, fails, wants, ShowsMap, shown, lost}
use Rattle.session_talk.proofs.TalkLemmas.{give_then, gives_then}

-- ---- states

pub seen_by : {Is P Q : EditorState → Type 0} → Seen Is P → ((at : EditorState) → P at → Q at) → Seen Is Q
seen_by seen f = record { at = seen.at; is = seen.is; holds = f seen.at seen.holds }

pub seen_at : {Is P : EditorState → Type 0} (at : EditorState) → Is at → P at → Seen Is P
seen_at at is holds = record { at = at; is = is; holds = holds }

pub said_line : {status result : ℕ} {out gone : SinkState} {said line : List ℕ} → said ≡ line → Ends status said out gone result → Ends status line out gone result
said_line {status} {result} {out} {gone} e is = subst (λ (l : List ℕ). Ends status l out gone result) e is

-- ---- edits

module _ (before : EditorState) (edit : List Change) (out : SinkState) (after : EditorState) (out_after : SinkState) (showings : List (List Shown)) (sees : SeesMore before.seen showings after.seen) where
  pub makes_replied : (line : List ℕ) (result : Option ℕ) → EditsTold before edit line showings after → EditsLook before edit after → EditSpends before edit after → GivesReply line out out_after result → Makes before edit out after out_after result
  makes_replied line result edits looks steps gives = replied line showings sees edits looks steps gives

  pub makes_fault : (status : ℕ) → Rose before.faults after.faults × (showings ≡ []) → EditsLook before edit after → EditSpends before edit after → Ends read_fault_status read_fault_line out out_after status → Makes before edit out after out_after (Some status)
  makes_fault status failed looks steps is =
      fails status showings sees (if_all before.told (λ state. subst (λ (more : List (List Shown)). MayShow state edit before.display more) (sym failed.1) nothing)) refl failed.0 looks steps is

  pub makes_nothing : (status : ℕ) → (after.faults ≡ before.faults) × IfSome before.told (λ state. MayShow state edit before.display showings) → EditsLook before edit after → EditSpends before edit after
      → Ends memory_status memory_line out out_after status → Makes before edit out after out_after (Some status)
  makes_nothing status lacks looks steps is = wants status showings sees lacks.1 refl lacks.0 looks steps is

pub ruleset making = (makes_replied, makes_fault, makes_nothing)

-- ---- the map

whole_reply : (map line : List ℕ) → line ≡ codes "map " ++ (decimal (length map) ++ end_of_line) → line ++ map ≡ map_reply map
whole_reply map line e =
    ap (λ (l : List ℕ). l ++ map) e ∙ append_assoc (codes "map ") (decimal (length map) ++ end_of_line) map
    ∙ ap (λ (l : List ℕ). codes "map " ++ l) (append_assoc (decimal (length map)) end_of_line map)

first_gives : (out after : Option (List ℕ)) (line map : List ℕ) → Gives out after line → Gives out after (line ++ map)
first_gives out after line map gives =
    let few = min gives.count (length line) in
    let same : take gives.count line ≡ take few (line ++ map) =
    sym (take_min gives.count line) ∙ sym (take-append-le few line map (omega arith)) in
    record { count = few; given = gives.given ∙ ap (λ (t : List ℕ). option_map (λ front. front ++ t) out) same }

first_cut : (out after : SinkState) (line map : List ℕ) (status : ℕ) → CutOff line out after status → CutOff (line ++ map) out after status
first_cut out after line map status cut = record { is_status = cut.is_status; gives = first_gives out.got after.got line map cut.gives; rose = cut.rose }

both_given : (out middle after : SinkState) (line map : List ℕ) (result : Option ℕ) → Gave line out middle → GivesReply map middle after result → GivesReply (line ++ map) out after result
both_given out middle after line map None first second =
    record { got = give_then out.got middle.got after.got line map first.got second.got; quiet = second.quiet ∙ first.quiet }
both_given out middle after line map (Some status) first cut = record {
  is_status = cut.is_status;
  gives = gives_then out.got middle.got after.got line map first.got cut.gives;
  rose = subst (λ (n : ℕ). Rose n after.faults) first.quiet cut.rose;
}

module _ (editor : EditorState) (out middle after : SinkState) (map line : List ℕ) (shows : Shows editor map) (is : line ≡ codes "map " ++ (decimal (length map) ++ end_of_line)) where
  pub shows_both : (result : Option ℕ) → Gave line out middle → GivesReply map middle after result → ShowsMap editor out after result
  shows_both result first second =
      shown map shows (subst (λ (reply : List ℕ). GivesReply reply out after result) (whole_reply map line is) (both_given out middle after line map result first second))

  pub shows_part : (status : ℕ) → CutOff line out after status → ShowsMap editor out after (Some status)
  shows_part status cut =
      shown map shows (subst (λ (reply : List ℕ). CutOff reply out after status) (whole_reply map line is) (first_cut out after line map status cut))

pub shows_nothing : (editor : EditorState) (out after : SinkState) (status : ℕ) → Ends memory_status memory_line out after status → ShowsMap editor out after (Some status)
shows_nothing editor out after status is = lost status refl is

pub ruleset showing = (shows_both, shows_part, shows_nothing)
