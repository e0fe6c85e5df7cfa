use Rattle.std.proofs.Common.{refl}
use Rattle.need_table.proofs.Found.{fresh, is_known, not_new, known_alike, clash_by, not_lost, no_memory}
use Rattle.need_table.proofs.needs.Needs.add.Goals as goal

pub returns-in-Some : goal.returns-in-Some
returns-in-Some c = record {
  new = λ e. absurd (not_new c.judge.result _ c.judge.ensures.known e);
  known = λ e. rw (← c.self.view_is, ← c.new-row.ensures)
      (is_known c.self.inside.rows.keys c.new-row.result c.in-Some.other.now c.in-Some.first c.len-apart.ensures.unique c.in-Some.ensures.0 c.in-Some.ensures.1 (rw c.need.ensures at (known_alike c.judge.result _ c.judge.ensures.known e)));
  clash = rw (← c.self.view_is, ← c.new-row.ensures) (clash_by c.self.inside.rows.keys c.new-row.result c.in-Some.other.now c.in-Some.first c.judge.result c.len-apart.ensures.unique c.in-Some.ensures.0 c.in-Some.ensures.1 (rw c.need.ensures at c.judge.ensures.clash));
  lost = λ e. absurd (not_lost c.judge.result c.in-Some.first _ c.judge.ensures.clash e);
  same = λ _. refl;
}

pub returns-in_ok-put_row-in-None : goal.returns-in_ok-put_row-in-None
returns-in_ok-put_row-in-None c = record {
  new = λ e. rw (← c.self.view_is, ← c.new-row.ensures) (fresh c.self.inside.rows.keys c.put_row.new.rows.keys c.new-row.result c.in-None.ensures c.in_ok-put_row-in-None.ensures.put);
  known = λ e. absurd (cc);
  clash = tt;
  lost = λ e. absurd (cc);
  same = λ apart. absurd (apart refl);
}

pub returns-in_err-put_row-in-None : goal.returns-in_err-put_row-in-None
returns-in_err-put_row-in-None c = rw (← c.self.view_is)
    (no_memory c.self.inside.rows.keys c.put_row.new.rows.keys _ c.from_residual.result (rw c.new-row.ensures at c.in-None.ensures) c.from_residual.ensures.1 c.in_err-put_row-in-None.ensures.same)
