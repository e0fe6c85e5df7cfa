use Rattle.std.proofs.Common.{◌≡◌, sym, ap, ◌∙◌, Some, refl}
use Rattle.std.specs.FinMap.{get, insert}
use Rattle.tree_spec.specs.declared.Entry.TheVariants.{Stored}
use Rattle.tree_model.specs.Entries.{tree_of}
use Rattle.tree_model.proofs.Placings.{placed_over, over_tree, over_free, kept_tree}
use Rattle.tree_model.proofs.entries.put_file.Goals as goal

pub returns-in_ok-put_at-in-Some-Stored-clause-put : goal.returns-in_ok-put_at-in-Some-Stored-clause-put
returns-in_ok-put_at-in-Some-Stored-clause-put c =
    let found : get (tree_of c.args.entries.now) c.args.path.now ≡ Some (Stored c.in-Some-Stored.field-0-0) = sym c.in-Some-Stored.ensures ∙ ap (λ e. Some e) c.in-Some-Stored.field-0-is in
    let put = c.in_ok-put_at-in-Some-Stored.ensures.put ∙ ap (λ bytes. insert (tree_of c.args.entries.now) c.args.path.now (Stored bytes)) c.in_ok-of-in-Some-Stored.ensures in
    record {
      placed = λ made. placed_over (tree_of c.args.entries.now) (tree_of c.put_at.new.entries) c.args.path.now c.in-Some-Stored.field-0-0 (Stored c.args.bytes.now) c.requires found put;
      free = λ made. over_free _ _ _ _ c.requires c.in-Some-Stored.ensures c.in-Some-Stored.field-0-is;
      barred = λ wrong. cc;
      same = λ other. absurd (other refl);
    }

pub returns-in_ok-put_at-in-Some-Stored-clause-tree : goal.returns-in_ok-put_at-in-Some-Stored-clause-tree
returns-in_ok-put_at-in-Some-Stored-clause-tree c =
    over_tree (tree_of c.args.entries.now) (tree_of c.put_at.new.entries) c.args.path.now c.in-Some-Stored.field-0-0 c.in-Some-Stored.field-0.now _ c.requires
    c.in_ok-put_at-in-Some-Stored.ensures.is_path c.in-Some-Stored.ensures c.in-Some-Stored.field-0-is c.in_ok-put_at-in-Some-Stored.ensures.put

pub returns-in_ok-of-in-None-clause-tree : goal.returns-in_ok-of-in-None-clause-tree
returns-in_ok-of-in-None-clause-tree c =
    kept_tree c.place.result (tree_of c.args.entries.now) (tree_of c.place.new.entries) c.args.path.now (Stored c.in_ok-of-in-None.field-0) c.requires c.place.ensures.is_path c.in-None.ensures c.place.ensures.placed
