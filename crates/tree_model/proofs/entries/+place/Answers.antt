use Rattle.std.proofs.Common.{◌≡◌, ◌<◌, sym, ap, ◌∙◌, Some, Ok, true, false, length, arith, refl}
use Rattle.std.specs.FinMap.{get}
use Rattle.tree_spec.specs.declared.Entry.TheVariants.{Directory}
use Rattle.tree_spec.specs.Paths.{IsParent, parent_of}
use Rattle.tree_spec.proofs.PathsAbove.{parent_shorter}
use Rattle.tree_model.specs.Entries.{tree_of}
use Rattle.tree_model.proofs.Placings.{placed_in_folder, settled_up, absent_up, placed_up, below_file_up, taken_back}
use Rattle.tree_model.proofs.entries.+place.Goals as goal

pub returns-in-Some-Stored-clause-placed : goal.returns-in-Some-Stored-clause-placed
returns-in-Some-Stored-clause-placed t c = record {
  placed = λ done. absurd (cc);
  barred = λ refused. record {
    file = c.in-Some.parent;
    bytes = c.in-Some-Stored.field-0-0;
    above = parent_of c.in-Some.parent c.args.path.now (rw c.in-Some.is at c.in_ok-parent.ensures.parent);
    stored = sym c.in-Some-Stored.ensures ∙ ap (λ e. Some e) c.in-Some-Stored.field-0-is;
  };
  same = λ other. refl;
}

pub returns-in-Some-Directory-clause-placed : goal.returns-in-Some-Directory-clause-placed
returns-in-Some-Directory-clause-placed t c =
    let found : get (tree_of c.args.entries.now) c.in-Some.parent ≡ Some Directory = sym c.in-Some-Directory.ensures ∙ ap (λ e. Some e) c.in-Some-Directory.field-0-is in
    record {
      placed = λ done. placed_in_folder _ _ c.args.path.now c.in-Some.parent _ c.requires.settled (rw c.in-Some.is at c.in_ok-parent.ensures.parent) found c.in_ok-put_at-in-Some-Directory.ensures.put;
      barred = λ refused. absurd (cc);
      same = λ other. absurd (other refl);
    }

pub place-requires : goal.place-requires
place-requires t c =
    let parent : IsParent c.in-Some.parent c.args.path.now = rw c.in-Some.is at c.in_ok-parent.ensures.parent in
    let shorter : length c.in-Some.parent < length c.args.path.now = parent_shorter _ _ parent in (
      omega arith,
      (
        absent_up (tree_of c.args.entries.now) _ c.args.path.now c.in-Some.parent c.args.entry parent (sym c.in-None.ensures) c.in_ok-put_at-in-None.ensures.put,
        settled_up (tree_of c.args.entries.now) _ c.args.path.now c.in-Some.parent c.args.entry c.requires.settled parent c.in_ok-put_at-in-None.ensures.put,
      ),
    )

pub returns-in-Ok-true-clause-placed : goal.returns-in-Ok-true-clause-placed
returns-in-Ok-true-clause-placed t c =
    let ok : c.place.result ≡ Ok true = c.in-Ok-true.is ∙ ap (λ b. Ok b) c.in-Ok-true.field-0-test in
    record {
      placed = λ done.
          placed_up (tree_of c.args.entries.now) (tree_of c.put_at-in-None.new.entries) _ c.args.path.now c.in-Some.parent c.args.entry (rw c.in-Some.is at c.in_ok-parent.ensures.parent) (sym c.in-None.ensures)
          c.in_ok-put_at-in-None.ensures.put (c.place.ensures.placed.placed ok);
      barred = λ refused. absurd (cc);
      same = λ other. absurd (other refl);
    }

pub returns-in-Ok-false-clause-placed : goal.returns-in-Ok-false-clause-placed
returns-in-Ok-false-clause-placed t c =
    let no : c.place.result ≡ Ok false = c.in-Ok-false.is ∙ ap (λ b. Ok b) c.in-Ok-false.field-0-test in
    record {
      placed = λ done. absurd (cc);
      barred = λ refused.
          below_file_up (tree_of c.args.entries.now) (tree_of c.put_at-in-None.new.entries) c.args.path.now c.in-Some.parent c.args.entry (rw c.in-Some.is at c.in_ok-parent.ensures.parent)
          c.in_ok-put_at-in-None.ensures.put (c.place.ensures.placed.barred no);
      same = λ other.
          taken_back (tree_of c.args.entries.now) (tree_of c.put_at-in-None.new.entries) (tree_of c.place.new.entries) (tree_of c.take_away.new.entries) c.args.path.now c.args.entry c.requires.absent
          c.in_ok-put_at-in-None.ensures.put (c.place.ensures.placed.same (λ ok. let wrong : Ok false ≡ Ok true = sym no ∙ ok in cc)) c.take_away.ensures;
    }

pub returns-clause-placed : goal.returns-clause-placed
returns-clause-placed t c = record {
  placed = λ done. absurd (cc);
  barred = λ refused. absurd (cc);
  same = λ other.
      taken_back (tree_of c.args.entries.now) (tree_of c.put_at-in-None.new.entries) (tree_of c.place.new.entries) (tree_of c.take_away-in-Err.new.entries) c.args.path.now c.args.entry c.requires.absent
      c.in_ok-put_at-in-None.ensures.put (c.place.ensures.placed.same (λ ok. cc)) c.take_away-in-Err.ensures;
}
