use Rattle.std.proofs.Common.{◌≡◌, length, refl, subst}
use Rattle.std.specs.Prelude.{Some, slice_get}
use Rattle.std.proofs.lemmas.Option.{slice_get_read}
use Rattle.package_record.proofs.LeftLemmas.{as_it_is, target_left}
use Rattle.package_record.proofs.subpaths.left_at.Goals as goal

pub returns-in-None : goal.returns-in-None
returns-in-None c = λ imports value key is stands. as_it_is _ _ _

pub returns-in-Some : goal.returns-in-Some
returns-in-Some c = λ imports value key is stands.
    let found = c.in-Some.ensures.lookup.3 in
    let there = slice_get_read c.as_slice.result.now (length c.as_slice.result.now) c.args.place c.in-Some.made.now refl found.0 (found.1 c.in-Some.made.now) in
    target_left imports value c.args.left.now c.args.place key c.args.target.now c.in-Some.made.now is stands
    (subst (λ xs. slice_get xs c.args.place ≡ Some c.in-Some.made.now) c.as_slice.ensures.value there)
