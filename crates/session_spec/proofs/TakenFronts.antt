-- Before the last take a session was open, and so it was before each take.
use Rattle.std.proofs.Common.{◌≡◌, ◌≤◌, ◌⊎◌, ◌++◌, ◌∷◌, [], ℕ, List, length, Option, Some, None, refl, sym, ap, ◌∙◌, subst, inl, inr, arith}
use Rattle.std.proofs.lemmas.Bool.{cases_lt}
use Rattle.std.proofs.lemmas.List.{append-nil, append_assoc, length-append, take_at}
use Rattle.std.proofs.Math.Seq.{take-append-add}
use Rattle.std.specs.Prelude.{◌+◌, ◌-◌, take, option_map}
use Rattle.tree_spec.specs.States.{SourceState}
use Rattle.session_spec.specs.declared.Change.{Change}
use Rattle.session_spec.specs.Conversations.{Turn, makes, holds, shows, ends, refuses, stops, turn_at}
use Rattle.session_spec.specs.Laws.{NoTakeBehindEnd}
use Rattle.session_spec.specs.SessionLines.{Rest}
use Rattle.session_spec.specs.SessionSteps.{MakesEdits, generations}
use Rattle.session_spec.specs.SessionSteps as spending
use Rattle.session_spec.specs.TakenInput.{LastBrought, NoTake, TakesWhile, LeavesOpen}
use Rattle.session_spec.proofs.Conversing.{turn_on}
use Rattle.session_spec.proofs.LinesWhole.{turn_in}

-- ---- takes one after another

pub no_take : (source : SourceState) → NoTake source [] source
no_take source = record { nothing = refl; same = refl }

pub untaken : (Held : List ℕ → Type 0) (source : SourceState) → TakesWhile Held source [] source
untaken Held source = inl (no_take source)

brought_then : (source middle later : SourceState) (some more : ℕ) → LastBrought source some middle → LastBrought middle more later → LastBrought source more later
brought_then source middle later some more a b = b ∙ ap (option_map (λ (earlier : ℕ). more)) a ∙ twice source.latest
  where
    twice : (told : Option ℕ) → option_map (λ (earlier : ℕ). more) (option_map (λ (earlier : ℕ). some) told) ≡ option_map (λ (earlier : ℕ). more) told
    twice None = refl
    twice (Some earlier) = refl

module _ (Held After : List ℕ → Type 0) (source middle later : SourceState) (some : List ℕ) where
  brought_behind : (more : ℕ) → TakesWhile Held source some middle → LastBrought middle more later → LastBrought source more later
  brought_behind more (inl none) b = subst (λ (s : SourceState). LastBrought s more later) none.same b
  brought_behind more (inr last) b = brought_then source middle later (length last.last) more last.latest b

  pub takes_behind : (more : List ℕ) → ((front : List ℕ) → After front → Held (some ++ front)) → TakesWhile Held source some middle → TakesWhile After middle more later → TakesWhile Held source (some ++ more) later
  takes_behind more on first (inl none) =
      subst (λ (taken : List ℕ). TakesWhile Held source taken later) (sym (ap (λ (m : List ℕ). some ++ m) none.nothing ∙ append-nil some))
      (subst (λ (s : SourceState). TakesWhile Held source some s) (sym none.same) first)
  takes_behind more on first (inr last) = inr (record {
    front = some ++ last.front;
    last = last.last;
    whole = ap (λ (m : List ℕ). some ++ m) last.whole ∙ sym (append_assoc some last.front last.last);
    short = last.short;
    latest = brought_behind (length last.last) first last.latest;
    held = on last.front last.held;
  })

-- ---- the front of bytes that leave a session open

is_stops : (turn : Turn) → (turn ≡ stops) ⊎ (turn ≡ stops → ⊥)
is_stops (makes edit rest) = inr (λ e. absurd (cc))
is_stops (holds held rest) = inr (λ e. absurd (cc))
is_stops (shows rest) = inr (λ e. absurd (cc))
is_stops ends = inr (λ e. absurd (cc))
is_stops refuses = inr (λ e. absurd (cc))
is_stops stops = inl refl

abbrev behind_of : Turn → List ℕ
behind_of (makes edit rest) = rest.behind
behind_of (holds held rest) = rest.behind
behind_of (shows rest) = rest.behind
behind_of ends = []
behind_of refuses = []
behind_of stops = []

abbrev changes_of : Turn → List Change
changes_of (makes edit rest) = edit
changes_of (holds held rest) = held
changes_of (shows rest) = []
changes_of ends = []
changes_of refuses = []
changes_of stops = []

module _ (front more : List ℕ) where
  -- a turn at a line that is whole before what comes behind it
  record IsCut (does : Rest → Turn) (turn : Turn) (rest : Rest) : Type 0 where
    cut : Rest
    is : turn ≡ does cut
    whole : rest.behind ≡ cut.behind ++ more

  made_cut : (turn : Turn) (edit : List Change) (rest : Rest) → turn_on more turn ≡ makes edit rest → IsCut (makes edit) turn rest
  made_cut (makes other cut) edit rest e = record { cut = cut; is = ap (λ (changes : List Change). makes changes cut) (ap changes_of e); whole = sym (ap behind_of e) }
  made_cut (holds held cut) edit rest e = absurd (cc)
  made_cut (shows cut) edit rest e = absurd (cc)
  made_cut ends edit rest e = absurd (cc)
  made_cut refuses edit rest e = absurd (cc)
  made_cut stops edit rest e = absurd (cc)

  held_cut : (turn : Turn) (held : List Change) (rest : Rest) → turn_on more turn ≡ holds held rest → IsCut (holds held) turn rest
  held_cut (holds other cut) held rest e = record { cut = cut; is = ap (λ (changes : List Change). holds changes cut) (ap changes_of e); whole = sym (ap behind_of e) }
  held_cut (makes edit cut) held rest e = absurd (cc)
  held_cut (shows cut) held rest e = absurd (cc)
  held_cut ends held rest e = absurd (cc)
  held_cut refuses held rest e = absurd (cc)
  held_cut stops held rest e = absurd (cc)

  shown_cut : (turn : Turn) (rest : Rest) → turn_on more turn ≡ shows rest → IsCut shows turn rest
  shown_cut (shows cut) rest e = record { cut = cut; is = refl; whole = sym (ap behind_of e) }
  shown_cut (makes edit cut) rest e = absurd (cc)
  shown_cut (holds held cut) rest e = absurd (cc)
  shown_cut ends rest e = absurd (cc)
  shown_cut refuses rest e = absurd (cc)
  shown_cut stops rest e = absurd (cc)

  stops_cut : (turn : Turn) → turn_on more turn ≡ stops → turn ≡ stops
  stops_cut (makes edit cut) e = absurd (cc)
  stops_cut (holds held cut) e = absurd (cc)
  stops_cut (shows cut) e = absurd (cc)
  stops_cut ends e = absurd (cc)
  stops_cut refuses e = absurd (cc)
  stops_cut stops e = refl

  -- the lines of the front end within it, or one of the whole ends behind it
  record Waits : Type 0 where
    count : ℕ
    held : Option (List Change)
    behind : List ℕ
    made : MakesEdits front count held behind
    waits : turn_at held behind ≡ stops

  record GoesOn (count : ℕ) (held : Option (List Change)) (behind : List ℕ) : Type 0 where
    at : List ℕ
    made : MakesEdits front count held at
    whole : behind ≡ at ++ more

  turned : (count : ℕ) (held : Option (List Change)) (from : List ℕ) (wanted : Turn) (on : GoesOn count held from) → turn_at held from ≡ wanted → Waits ⊎ (turn_on more (turn_at held on.at) ≡ wanted)
  turned count held from wanted on is =
      elim (is_stops (turn_at held on.at)) [
        | inl waits ↦ inl (record { count = count; held = held; behind = on.at; made = on.made; waits = waits })
        | inr goes ↦ inr (sym (turn_in more held on.at goes) ∙ ap (turn_at held) (sym on.whole) ∙ is)
      ]

  made_on : (count : ℕ) (held : Option (List Change)) (from : List ℕ) (edit : List Change) (rest : Rest) → turn_at held from ≡ makes edit rest → Waits ⊎ GoesOn count held from → Waits ⊎ GoesOn (count + generations edit) None rest.behind
  made_on count held from edit rest is (inl waits) = inl waits
  made_on count held from edit rest is (inr on) =
      elim (turned count held from (makes edit rest) on is) [
        | inl waits ↦ inl waits
        | inr e ↦ let found = made_cut (turn_at held on.at) edit rest e in
            inr (record { at = found.cut.behind; made = spending.edits count held on.at edit found.cut on.made found.is; whole = found.whole })
      ]

  held_on : (count : ℕ) (held : Option (List Change)) (from : List ℕ) (changes : List Change) (rest : Rest) → turn_at held from ≡ holds changes rest → Waits ⊎ GoesOn count held from → Waits ⊎ GoesOn count (Some changes) rest.behind
  held_on count held from changes rest is (inl waits) = inl waits
  held_on count held from changes rest is (inr on) =
      elim (turned count held from (holds changes rest) on is) [
        | inl waits ↦ inl waits
        | inr e ↦ let found = held_cut (turn_at held on.at) changes rest e in
            inr (record { at = found.cut.behind; made = spending.collects count held on.at changes found.cut on.made found.is; whole = found.whole })
      ]

  shown_on : (count : ℕ) (held : Option (List Change)) (from : List ℕ) (rest : Rest) → turn_at held from ≡ shows rest → Waits ⊎ GoesOn count held from → Waits ⊎ GoesOn count None rest.behind
  shown_on count held from rest is (inl waits) = inl waits
  shown_on count held from rest is (inr on) =
      elim (turned count held from (shows rest) on is) [
        | inl waits ↦ inl waits
        | inr e ↦ let found = shown_cut (turn_at held on.at) rest e in
            inr (record { at = found.cut.behind; made = spending.shows_it count held on.at found.cut on.made found.is; whole = found.whole })
      ]

  reached : (count : ℕ) (held : Option (List Change)) (behind : List ℕ) → MakesEdits (front ++ more) count held behind → Waits ⊎ GoesOn count held behind
  reached _ _ _ spending.begun = inr (record { at = front; made = spending.begun; whole = refl })
  reached _ _ _ (spending.edits count held from edit rest made is) = made_on count held from edit rest is (reached count held from made)
  reached _ _ _ (spending.collects count held from changes rest made is) = held_on count held from changes rest is (reached count held from made)
  reached _ _ _ (spending.shows_it count held from rest made is) = shown_on count held from rest is (reached count held from made)

  last_waits : (count : ℕ) (held : Option (List Change)) (behind : List ℕ) → turn_at held behind ≡ stops → Waits ⊎ GoesOn count held behind → Waits
  last_waits count held behind waits (inl is) = is
  last_waits count held behind waits (inr on) =
      elim (turned count held behind stops on waits) [
        | inl is ↦ is
        | inr e ↦ record { count = count; held = held; behind = on.at; made = on.made; waits = stops_cut (turn_at held on.at) e }
      ]

  front_open : LeavesOpen (front ++ more) → LeavesOpen front
  front_open is =
      let at = last_waits is.edits is.held is.behind is.waits (reached is.edits is.held is.behind is.made) in
      let long = length-append front more in
      let few = is.few in
      record { few = omega (arith, long, few); edits = at.count; held = at.held; behind = at.behind; made = at.made; waits = at.waits }

-- ---- no take behind the end

open_none : LeavesOpen []
open_none = record { few = omega arith; edits = 0; held = None; behind = []; made = spending.begun; waits = refl }

nothing_in : (front more : List ℕ) → front ++ more ≡ [] → front ≡ []
nothing_in [] more e = refl
nothing_in (b ∷ front) more e = absurd (cc)

brought_is : (before after : Option ℕ) (some count : ℕ) → after ≡ option_map (λ (earlier : ℕ). some) before → after ≡ Some count → some ≡ count
brought_is None after some count e told = absurd (cc)
brought_is (Some earlier) after some count e told = cc

-- the last take brought no byte of the first
module _ (taken more front last : List ℕ) (whole : taken ++ more ≡ front ++ last) (few : length last ≤ length more) where
  abbrev gap : ℕ
  gap = length more - length last

  longer : length front ≡ length taken + gap
  longer =
      let both = ap length whole in
      let one = length-append taken more in
      let other = length-append front last in
      omega (arith, both, one, other, few)

  front_is : front ≡ taken ++ take gap more
  front_is =
      sym (take_at front last (length front) refl) ∙ ap (take (length front)) (sym whole) ∙ ap (λ (n : ℕ). take n (taken ++ more)) longer ∙ take-append-add taken more gap

pub no_take_behind_end : NoTakeBehindEnd
no_take_behind_end source later taken more count (inl none) shut told = absurd (shut (subst LeavesOpen (sym (nothing_in taken more none.nothing)) open_none))
no_take_behind_end source later taken more count (inr last) shut told =
    let same = brought_is source.latest later.latest (length last.last) count last.latest told in
    elim (cases_lt (length more) count) [
      | inl less ↦ less
      | inr few ↦ absurd (shut (front_open taken (take (length more - length last.last) more)
          (subst LeavesOpen (front_is taken more last.front last.last last.whole (omega (arith, same, few))) last.held)))
    ]
