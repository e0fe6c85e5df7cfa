use Rattle.std.proofs.Common.{◌≡◌, refl, subst}
use Rattle.std.specs.Prelude.{IfOk}
use Rattle.session_spec.specs.Replies.{accepted_line}
use Rattle.edit_session.specs.SessionTrees.{shown_counts}
use Rattle.session_run.specs.Editing.{unshown, shown}
use Rattle.session_run.proofs.EditLemmas.{watch_live, watch_shown}
use Rattle.session_run.proofs.edits.accept.Goals as goal

pub returns-in-Ok-clause-says : goal.returns-in-Ok-clause-says
returns-in-Ok-clause-says g c =
    shown (watch_shown c.commit.new.self c.slots.result.now c.slots.ensures.slots _ c.view.ensures.graph _ _ c.in-Ok.ensures.sees)
    (c.said.ensures (accepted_line (shown_counts c.commit.new.self))
    (subst (λ counts. IfOk c.done_line.result (λ line. line.items ≡ accepted_line counts)) c.counts-counts.ensures c.done_line.ensures))

pub returns-in-Err-clause-says : goal.returns-in-Err-clause-says
returns-in-Err-clause-says g c = unshown c.in-Err.ensures.stays refl

pub shown-requires : goal.shown-requires
shown-requires g c = record { live = watch_live c.commit.new.self c.slots.result.now c.slots.ensures.slots _ c.view.ensures.graph c.slots.ensures.live }
