-- A session that ends as it must keeps its promises.
use Rattle.std.proofs.Common.{◌≡◌, ◌≢◌, ◌≤◌, ◌⊎◌, ◌++◌, [], ◌∷◌, ℕ, List, Option, Some, None, refl, sym, ◌∙◌, subst, inl, inr, arith}
use Rattle.std.specs.List.{concat}
use Rattle.std.specs.Prelude.{IfSome}
use Rattle.tree_spec.specs.Counts.{Rose}
use Rattle.tree_spec.specs.States.{FolderState, SourceState, SinkState}
use Rattle.tree_spec.specs.Trees.{Tree}
use Rattle.generator_spec.specs.declared.Refusal.{Refusal}
use Rattle.generator_spec.specs.Ending.{CanRefuse, Ends, Gives}
use Rattle.generator_spec.specs.Ending as ending
use Rattle.generator_spec.specs.Ending.{Shaped as shaped, Says as says}
use Rattle.generator_spec.specs.Lines.{status_of, line_of, memory_line}
use Rattle.generator_spec.specs.Statuses.{LeavesTree}
use Rattle.generator_spec.proofs.Endings.{end_statuses, end_read, end_write}
use Rattle.session_spec.specs.Laws.{SessionsKeepPromises}
use Rattle.session_spec.specs.Openings.{refresh_words}
use Rattle.session_spec.specs.SessionPromises.{AreQuiet, Gave, Answered, ShowsFaults}
use Rattle.session_spec.specs.SessionRuns as runs
use Rattle.session_spec.specs.SessionRuns.{SessionComesTo, RepliesTo, NoFault, IsAnswerShaped, IsRefusalShaped, IsSessionShaped, SessionSays, SessionStops, SessionEnds}
use Rattle.session_spec.specs.TakenInput.{IsFront, Takes}
use Rattle.session_spec.proofs.FreshMaps.{replies_are_front, replies_on}
use Rattle.session_spec.proofs.RefusalStatuses.{refusal_is_other}
use Rattle.session_spec.proofs.WholeSessions.{one_session}

-- ---- statuses

abbrev IsStatus : ℕ → Type 0
IsStatus status = (status ≡ 0) ⊎ (status ≡ 5) ⊎ LeavesTree status

-- a folder and an output that tell nothing
abbrev untold : FolderState
untold = record { holds = None; asked = None; look_faults = 0; write_faults = 0 }

abbrev mute : SinkState
mute = record { got = None; faults = 0 }

none_rose : Rose 0 0 → ⊥
none_rose rose = (let one : 1 ≤ 0 = rose in omega (arith, one))

module _ (why : Refusal) (can : CanRefuse refresh_words why) where
  refusal_says : ending.Says refresh_words untold untold (status_of why) (line_of why ∷ [])
  refusal_says = says.outcome (shaped.refused why can refl refl) tt refl refl

  refusal_ends : Ends (status_of why) (concat (line_of why ∷ [])) mute mute (status_of why)
  refusal_ends = ending.said refl refl refl

  refusal_status : IsStatus (status_of why)
  refusal_status = end_statuses refresh_words untold untold mute mute (status_of why) (status_of why) (line_of why ∷ []) refusal_says refusal_ends

  not_read : status_of why ≢ 4
  not_read four = (let rose = end_read refresh_words untold untold mute mute (status_of why) (status_of why) (line_of why ∷ []) refusal_says refusal_ends four in none_rose rose)

  not_written : status_of why ≢ 5
  not_written five = none (end_write refresh_words untold untold mute mute (status_of why) (status_of why) (line_of why ∷ []) refusal_says refusal_ends five)
    where
      none : Rose 0 0 ⊎ Rose 0 0 → ⊥
      none (inl rose) = none_rose rose
      none (inr rose) = none_rose rose

record IsOwnStatus (status : ℕ) : Type 0 where
  pub is : IsStatus status
  pub not_read : status ≢ 4
  pub not_written : status ≢ 5
  pub other : status ≢ 10

answer_status : (replied : List ℕ) (status : ℕ) (text : List ℕ) → IsAnswerShaped replied status text → IsOwnStatus status
answer_status replied status text (runs.ended opens e whole) = record { is = inl e; not_read = λ f. omega (arith, e, f); not_written = λ f. omega (arith, e, f); other = λ f. omega (arith, e, f) }
answer_status replied status text (runs.refused_line number opens e whole) =
    record { is = inr (inr (inr (inr (inr (inr (inr (inl e))))))); not_read = λ f. omega (arith, e, f); not_written = λ f. omega (arith, e, f); other = λ f. omega (arith, e, f) }
answer_status replied status text (runs.too_long opens e whole) =
    record { is = inr (inr (inr (inr (inl e)))); not_read = λ f. omega (arith, e, f); not_written = λ f. omega (arith, e, f); other = λ f. omega (arith, e, f) }

shaped_refusal_status : (status : ℕ) (text : List ℕ) → IsRefusalShaped status text → IsOwnStatus status
shaped_refusal_status status text refusal = record {
  is = subst IsStatus (sym refusal.ends) (refusal_status refusal.why refusal.can);
  not_read = λ f. not_read refusal.why refusal.can (sym refusal.ends ∙ f);
  not_written = λ f. not_written refusal.why refusal.can (sym refusal.ends ∙ f);
  other = λ f. refusal_is_other refusal.why (sym refusal.ends ∙ f);
}

own_status : (source later : SourceState) (taken replied : List ℕ) (status : ℕ) (text : List ℕ) → IsSessionShaped source taken later replied status text → IsOwnStatus status
own_status source later taken replied status text (inl answer) = answer_status replied status text answer
own_status source later taken replied status text (inr refusal) = shaped_refusal_status status text refusal.1

-- ---- a session

module _ (before after : FolderState) (source later : SourceState) (taken replied : List ℕ) where
  abbrev SaysSo : ℕ → List ℕ → Type 0
  SaysSo status text = SessionSays before after source later taken replied status text

  says_status : (status : ℕ) (text : List ℕ) → SaysSo status text → IsStatus status
  says_status status text (runs.outcome shape none here whole) = (own_status source later taken replied status text shape).is
  says_status status text (runs.memory shaped none told e is) = inr (inr (inr (inr (inr (inr (inr (inr (inl e))))))))
  says_status status text (runs.look_fault shaped rose same told e is) = inr (inr (inr (inr (inr (inl e)))))
  says_status status text (runs.take_fault shaped waits same rose told e is) = inr (inr (inr (inr (inr (inl e)))))

  says_read : (status : ℕ) (text : List ℕ) → SaysSo status text → status ≡ 4 → Rose before.look_faults after.look_faults ⊎ Rose source.faults later.faults
  says_read status text (runs.outcome shape none here whole) four = absurd ((own_status source later taken replied status text shape).not_read four)
  says_read status text (runs.memory shaped none told e is) four = absurd (omega (arith, e, four))
  says_read status text (runs.look_fault shaped rose same told e is) four = inl rose
  says_read status text (runs.take_fault shaped waits same rose told e is) four = inr rose

  says_write : (status : ℕ) (text : List ℕ) → SaysSo status text → status ≡ 5 → ⊥
  says_write status text (runs.outcome shape none here whole) five = (own_status source later taken replied status text shape).not_written five
  says_write status text (runs.memory shaped none told e is) five = omega (arith, e, five)
  says_write status text (runs.look_fault shaped rose same told e is) five = omega (arith, e, five)
  says_write status text (runs.take_fault shaped waits same rose told e is) five = omega (arith, e, five)

  says_other : (status : ℕ) (text : List ℕ) → SaysSo status text → status ≢ 10
  says_other status text (runs.outcome shape none here whole) ten = (own_status source later taken replied status text shape).other ten
  says_other status text (runs.memory shaped none told e is) ten = omega (arith, e, ten)
  says_other status text (runs.look_fault shaped rose same told e is) ten = omega (arith, e, ten)
  says_other status text (runs.take_fault shaped waits same rose told e is) ten = omega (arith, e, ten)

  says_looks : (status : ℕ) (text : List ℕ) → SaysSo status text → after.look_faults ≢ before.look_faults → status ≡ 4
  says_looks status text (runs.outcome shape none here whole) other = absurd (other none.0)
  says_looks status text (runs.memory shaped none told e is) other = absurd (other none.0)
  says_looks status text (runs.look_fault shaped rose same told e is) other = e
  says_looks status text (runs.take_fault shaped waits same rose told e is) other = e

  says_input : (status : ℕ) (text : List ℕ) → SaysSo status text → later.faults ≢ source.faults → status ≡ 4
  says_input status text (runs.outcome shape none here whole) other = absurd (other none.1)
  says_input status text (runs.memory shaped none told e is) other = absurd (other none.1)
  says_input status text (runs.look_fault shaped rose same told e is) other = e
  says_input status text (runs.take_fault shaped waits same rose told e is) other = e

  module _ (out out_after : SinkState) (result : ℕ) where
    abbrev StopsSo : Type 0
    StopsSo = SessionStops before after source later taken replied out out_after result

    stops_status : StopsSo → IsStatus result
    stops_status (runs.said status text s (ending.said e got same)) = subst IsStatus (sym e) (says_status status text s)
    stops_status (runs.said status text s (ending.output_fault e gives rose)) = inr (inl e)
    stops_status (runs.cut_off shaped none told e gives rose) = inr (inl e)

    stops_read : StopsSo → result ≡ 4 → Rose before.look_faults after.look_faults ⊎ Rose source.faults later.faults
    stops_read (runs.said status text s (ending.said e got same)) four = says_read status text s (sym e ∙ four)
    stops_read (runs.said status text s (ending.output_fault e gives rose)) four = absurd (omega (arith, e, four))
    stops_read (runs.cut_off shaped none told e gives rose) four = absurd (omega (arith, e, four))

    stops_write : StopsSo → result ≡ 5 → Rose out.faults out_after.faults
    stops_write (runs.said status text s (ending.said e got same)) five = absurd (says_write status text s (sym e ∙ five))
    stops_write (runs.said status text s (ending.output_fault e gives rose)) five = rose
    stops_write (runs.cut_off shaped none told e gives rose) five = rose

    stops_other : StopsSo → result ≢ 10
    stops_other (runs.said status text s (ending.said e got same)) ten = says_other status text s (sym e ∙ ten)
    stops_other (runs.said status text s (ending.output_fault e gives rose)) ten = omega (arith, e, ten)
    stops_other (runs.cut_off shaped none told e gives rose) ten = omega (arith, e, ten)

    stops_shows : StopsSo → ShowsFaults before after source later out out_after result
    stops_shows (runs.said status text s (ending.said e got same)) = record {
      looks = λ other. inl (e ∙ says_looks status text s other);
      input = λ other. inl (e ∙ says_input status text s other);
      output = λ other. absurd (other same);
    }
    stops_shows (runs.said status text s (ending.output_fault e gives rose)) = record { looks = λ other. inr e; input = λ other. inr e; output = λ other. e }
    stops_shows (runs.cut_off shaped none told e gives rose) = record { looks = λ other. inr e; input = λ other. inr e; output = λ other. e }

    -- ---- where no fault was counted

    module _ (quiet : AreQuiet before after source later out out_after) where
      abbrev AnsweredTo : Tree → List ℕ → Type 0
      AnsweredTo tree input = Answered tree input out out_after result

      answered_whole : (tree : Tree) (input : List ℕ) (status : ℕ) (text : List ℕ) → SessionComesTo tree input status text → result ≡ status → Gave text out out_after → AnsweredTo tree input
      answered_whole tree input status text comes e gave wanted said comes_too =
          let same = one_session tree input text said status wanted comes comes_too in
          inl (e ∙ same.one_status, subst (λ (t : List ℕ). Gave t out out_after) same.one_text gave)

      answered_memory : (tree : Tree) (input front : List ℕ) → IsFront taken input later.left → RepliesTo tree taken front → result ≡ 8 → Gave (front ++ memory_line) out out_after → AnsweredTo tree input
      answered_memory tree input front came told e gave status text comes =
          let all = subst (λ (bytes : List ℕ). SessionComesTo tree bytes status text) came.whole comes in
          let begins = replies_are_front tree taken came.rest front text status told all in
          let replied_all = subst (λ (bytes : List ℕ). RepliesTo tree bytes front) (sym came.whole) (replies_on tree taken came.rest front told) in
          inr (record { front = front; rest = begins.rest; is_front = begins.whole; replied = replied_all; answered = e; gave = gave })

      each_input : (tree : Tree) (left : Option (List ℕ)) (P Q : List ℕ → Type 0) → ((input : List ℕ) → P input → Q input) → IfSome left P → IfSome left Q
      each_input tree None P Q f is = tt
      each_input tree (Some input) P Q f is = f input is

      each_tree : (told : Option Tree) (P Q : Tree → Type 0) → ((tree : Tree) → P tree → Q tree) → IfSome told P → IfSome told Q
      each_tree None P Q f is = tt
      each_tree (Some tree) P Q f is = f tree is

      stops_answers : Takes source taken later → StopsSo → IfSome before.holds (λ tree. IfSome source.left (λ input. AnsweredTo tree input))
      stops_answers takes (runs.said status text (runs.outcome shape none here whole) (ending.said e got same)) =
          each_tree before.holds (λ tree. IfSome source.left (λ input. SessionComesTo tree input status text)) (λ tree. IfSome source.left (λ input. AnsweredTo tree input))
          (λ tree. each_input tree source.left (λ input. SessionComesTo tree input status text) (AnsweredTo tree) (λ input comes. answered_whole tree input status text comes e got)) whole
      stops_answers takes (runs.said status text (runs.memory shaped none told s is) (ending.said e got same)) =
          each_tree before.holds (λ tree. RepliesTo tree taken replied) (λ tree. IfSome source.left (λ input. AnsweredTo tree input))
          (λ tree replies. each_input tree source.left (λ input. IsFront taken input later.left) (AnsweredTo tree)
          (λ input came. answered_memory tree input replied came replies (e ∙ s) (subst (λ (t : List ℕ). Gave t out out_after) is got)) takes.came) told
      stops_answers takes (runs.said status text (runs.look_fault shaped rose same told s is) (ending.said e got still)) = absurd (quiet.looks rose)
      stops_answers takes (runs.said status text (runs.take_fault shaped waits same rose told s is) (ending.said e got still)) = absurd (quiet.input rose)
      stops_answers takes (runs.said status text s (ending.output_fault e gives rose)) = absurd (quiet.output rose)
      stops_answers takes (runs.cut_off shaped none told e gives rose) = absurd (quiet.output rose)

pub sessions_keep_promises : SessionsKeepPromises
sessions_keep_promises before after source later out out_after seen seen_after result spent spent_after is = record {
  statuses = stops_status before after source later is.taken is.replied out out_after result is.stops;
  other = stops_other before after source later is.taken is.replied out out_after result is.stops;
  kept = (is.tree, is.writes);
  read = stops_read before after source later is.taken is.replied out out_after result is.stops;
  write = stops_write before after source later is.taken is.replied out out_after result is.stops;
  shows = stops_shows before after source later is.taken is.replied out out_after result is.stops;
  answers = λ quiet. stops_answers before after source later is.taken is.replied out out_after result quiet is.takes is.stops;
}
