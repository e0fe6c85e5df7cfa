-- The paths at which the edits of a talk look.
use Rattle.std.proofs.Common.{◌≡◌, ◌≤◌, ◌++◌, [], ℕ, List, length, Option, Some, None, refl, sym, ap, ◌∙◌, subst}
use Rattle.std.proofs.lemmas.List.{append-nil, append_assoc}
use Rattle.std.proofs.lemmas.List.Elements.{All-nil, All-append, All-weaker}
use Rattle.std.specs.Prelude.{take, IfSome}
use Rattle.tree_spec.specs.Limits.{limit_number}
use Rattle.tree_spec.specs.declared.LimitName.TheVariants.{Session}
use Rattle.tree_spec.proofs.ToldStates.{if_some}
use Rattle.session_spec.specs.declared.Change.{Change}
use Rattle.session_spec.specs.Conversations.{makes}
use Rattle.session_spec.specs.EditLooks.{IsEditLook}
use Rattle.session_spec.specs.SessionDoings.{Done}
use Rattle.session_spec.specs.Showings.{Shown}
use Rattle.session_spec.specs.SessionLines.{Order}
use Rattle.session_spec.specs.SessionLooks.{IsTriedLook}
use Rattle.session_spec.specs.SessionStates.{SessionState}
use Rattle.session_spec.specs.Talks.{turn_of}
use Rattle.session_spec.proofs.SessionLooking.{looks_on, looks_allowed}
use Rattle.session_talk.specs.Editors.{EditorState, AsksFor, EditsLook}
use Rattle.session_talk.specs.Talking.{Now, OrderedAt, Looks}

-- ---- further paths

pub for_weaker : (P Q : List ℕ → Type 0) → ((path : List ℕ) → P path → Q path) → (old : List (List ℕ)) (asked : Option (List (List ℕ))) → AsksFor P old asked → AsksFor Q old asked
for_weaker P Q f old asked is = record { more = is.more; is = is.is; among = All-weaker P Q f is.more is.among }

for_then : (P Q : List ℕ → Type 0) → ((path : List ℕ) → Q path → P path) → (old : List (List ℕ)) (asked after : Option (List (List ℕ))) → AsksFor P old asked → IfSome asked (λ list. AsksFor Q list after)
    → AsksFor P old after
for_then P Q f old asked after one two =
    let last = subst (λ (t : Option (List (List ℕ))). IfSome t (λ list. AsksFor Q list after)) one.is two in
    record {
      more = one.more ++ last.more;
      is = last.is ∙ ap Some (append_assoc old one.more last.more);
      among = All-append P one.more last.more one.among (All-weaker Q P f last.more last.among);
    }

pub nothing_for : (P : List ℕ → Type 0) (asked told : Option (List (List ℕ))) → asked ≡ told → IfSome told (λ old. AsksFor P old asked)
nothing_for P asked None is = tt
nothing_for P asked (Some old) is = record { more = []; is = is ∙ ap Some (sym (append-nil old)); among = All-nil P }

told_weaker : (told : Option SessionState) (first asked : Option (List (List ℕ))) (P Q : SessionState → List ℕ → Type 0) → ((state : SessionState) (path : List ℕ) → P state path → Q state path)
    → IfSome told (λ state. IfSome first (λ old. AsksFor (P state) old asked)) → IfSome told (λ state. IfSome first (λ old. AsksFor (Q state) old asked))
told_weaker None first asked P Q f is = tt
told_weaker (Some state) first asked P Q f is = if_some first (λ old one. for_weaker (P state) (Q state) (f state) old asked one) is

-- ---- more input

module _ (first : Now) (taken : List ℕ) (asked : Option (List (List ℕ))) where
  pub looks_with : (more : List ℕ) → Looks first taken asked → Looks first (taken ++ more) asked
  looks_with more is =
      told_weaker first.editor.told first.editor.asked asked (λ state. IsTriedLook state taken) (λ state. IsTriedLook state (taken ++ more)) (λ state path. looks_on state taken more path) is

  pub looks_within : (more : List ℕ) → length taken ≤ limit_number Session → Looks first taken asked → Looks first (take (limit_number Session) (taken ++ more)) asked
  looks_within more few is =
      told_weaker first.editor.told first.editor.asked asked (λ state. IsTriedLook state taken) (λ state. IsTriedLook state (take (limit_number Session) (taken ++ more)))
      (λ state path. looks_allowed state taken more path few) is

  pub looks_here : length taken ≤ limit_number Session → Looks first taken asked → Looks first (take (limit_number Session) taken) asked
  looks_here few is = subst (λ (bytes : List ℕ). Looks first (take (limit_number Session) bytes) asked) (append-nil taken) (looks_within [] few is)

-- ---- an edit

module _ (opened : Done) (state : SessionState) (taken text : List ℕ) (showings : List (List Shown)) (number : ℕ) (order : Order) (now : Now) (is : OrderedAt opened number order state taken text showings now) (edit : List Change) (does : turn_of is.at ≡ makes edit is.rest) where
  tried_here : (path : List ℕ) → IsEditLook is.at.state edit path → IsTriedLook state taken path
  tried_here path looks = record {
    state = is.at.state;
    edit = edit;
    tried = record { out = text; at = is.at; talks = is.talks; state_is = refl; rest = is.rest; turn = does };
    looks = looks;
  }

  pub looks_then : (first : Option (List (List ℕ))) (editor : EditorState) → EditsLook now.editor edit editor → IfSome first (λ old. AsksFor (IsTriedLook state taken) old now.editor.asked)
      → IfSome first (λ old. AsksFor (IsTriedLook state taken) old editor.asked)
  looks_then first editor edits looks =
      let here = subst (λ (t : Option SessionState). IfSome t (λ s. IfSome now.editor.asked (λ old. AsksFor (IsEditLook s edit) old editor.asked))) is.told edits in
      if_some first (λ old one. for_then (IsTriedLook state taken) (IsEditLook is.at.state edit) tried_here old now.editor.asked editor.asked one here) looks
