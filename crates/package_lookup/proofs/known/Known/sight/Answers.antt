use Rattle.std.proofs.Common.{Ok, sym, ap, ◌∙◌, subst}
use Rattle.tree_spec.specs.LookAskings.{look_at}
use Rattle.package_lookup.specs.Fetching.{Fetches}
use Rattle.package_lookup.specs.SeenLooks.{entry_of, look_of}
use Rattle.package_lookup.proofs.Questions.{looked_err}
use Rattle.package_lookup.proofs.SightAnswers.{sight_many, sight_failed, sight_large, sight_fault, sight_given}
use Rattle.package_lookup.proofs.known.Known.sight.Goals as goal

pub returns-then-not-has_room-clause-answered : goal.returns-then-not-has_room-clause-answered
returns-then-not-has_room-clause-answered g c =
    rw c.limit.ensures
    (sight_many (g.F.Folder.state c.args.folder.now) c.args.self.now c.args.trail.now c.args.path.now
    (let a = c.has_room.ensures in let b = c.if-not-has_room.true in cc))

pub returns-in_err-held-clause-answered : goal.returns-in_err-held-clause-answered
returns-in_err-held-clause-answered g c =
    looked_err (λ sight. entry_of sight.0) _ _ (look_at c.args.path.now) c.from_residual.result
    c.in_err-held.field-0.0 c.from_residual.ensures.1
    (sight_failed (g.F.Folder.state c.args.folder.now) (g.F.Folder.state c.hold.new.folder) c.args.self.now
    c.hold.new.self c.args.trail.now c.args.path.now
    (let a = c.has_room.ensures in let b = c.if-not-has_room.false in cc)
    c.in_err-held.field-0.0 c.in_err-held.ensures)

pub returns-in_err-count-in-Some-clause-answered : goal.returns-in_err-count-in-Some-clause-answered
returns-in_err-count-in-Some-clause-answered g c =
    looked_err (λ sight. entry_of sight.0) _ _ (look_at c.args.path.now) c.from_residual-in_err-count-in-Some.result
    c.in_err-count-in-Some.field-0.0 c.from_residual-in_err-count-in-Some.ensures.1
    (sight_fault (g.F.Folder.state c.args.folder.now) (g.F.Folder.state c.hold.new.folder) c.args.self.now
    c.hold.new.self c.args.trail.now c.args.path.now
    (let a = c.has_room.ensures in let b = c.if-not-has_room.false in cc)
    c.count.new.self c.in-Some.seen c.in_err-count-in-Some.field-0.0
    (subst (λ look. Fetches (g.F.Folder.state c.args.folder.now) c.args.self.now c.args.path.now (Ok look)
    (g.F.Folder.state c.hold.new.folder) c.hold.new.self)
    (sym c.into_parts-seen.ensures.look ∙ ap look_of c.in-Some.is) c.in_ok-held.ensures)
    (c.in_err-count-in-Some.ensures.counts (entry_of c.in-Some.seen) (sym c.size.ensures)) c.count.ensures.grows)

pub returns-in-None-clause-answered : goal.returns-in-None-clause-answered
returns-in-None-clause-answered g c =
    rw c.limit-in-None.ensures
    (sight_large (g.F.Folder.state c.args.folder.now) (g.F.Folder.state c.hold.new.folder) c.args.self.now
    c.hold.new.self c.args.trail.now c.args.path.now
    (let a = c.has_room.ensures in let b = c.if-not-has_room.false in cc)
    (subst (λ look. Fetches (g.F.Folder.state c.args.folder.now) c.args.self.now c.args.path.now (Ok look)
    (g.F.Folder.state c.hold.new.folder) c.hold.new.self)
    (sym c.into_parts-seen.ensures.look ∙ ap look_of c.in-None.is) c.in_ok-held.ensures))

pub returns-in_ok-count-in-Some-clause-answered : goal.returns-in_ok-count-in-Some-clause-answered
returns-in_ok-count-in-Some-clause-answered g c =
    sight_given (g.F.Folder.state c.args.folder.now) (g.F.Folder.state c.hold.new.folder) c.args.self.now
    c.hold.new.self c.args.trail.now c.args.path.now
    (let a = c.has_room.ensures in let b = c.if-not-has_room.false in cc)
    c.count.new.self c.in-Some.seen
    (subst (λ look. Fetches (g.F.Folder.state c.args.folder.now) c.args.self.now c.args.path.now (Ok look)
    (g.F.Folder.state c.hold.new.folder) c.hold.new.self)
    (sym c.into_parts-seen.ensures.look ∙ ap look_of c.in-Some.is) c.in_ok-held.ensures)
    (c.in_ok-count-in-Some.ensures.counts (entry_of c.in-Some.seen) (sym c.size.ensures)) c.count.ensures.grows
