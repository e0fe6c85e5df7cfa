use Rattle.std.proofs.Common.{rules, ◌≡◌, ap}
use Rattle.node_resolve.specs.BareTexts.{chosen_shown}
use Rattle.node_resolve.proofs.BareLemmas.{answered_as, moved}
use Rattle.node_resolve.proofs.bare_texts.chosen.Goals as goal

pub returns-clause-answered : goal.returns-clause-answered
returns-clause-answered g c = λ given comes.
    let lookup_named : c.chosen_by.new.bares.lookup.ghost_name ≡ _ = c.chosen_by.ensures.names.lookup in
    let last_named : c.chosen_by.new.bares.last.ghost_name ≡ _ = c.chosen_by.ensures.names.last in
    moved _ _ _ (g.F.Folder.state c.chosen_by.new.bares.lookup.now.folder.now) _ c.chosen_by.new.bares.lookup.now.known.now _
    c.chosen_by.new.bares.lookup.now.trail.now _ (ap g.F.Folder.state (search rules)) (search rules) (search rules)
    (answered_as _ _ _ (chosen_shown c.chosen_by.result c.chosen_by.new.bares.last.now) _ (ap (chosen_shown c.chosen_by.result) (search rules)) (c.chosen_by.ensures.answered given comes))

pub returns-clause-same : goal.returns-clause-same
returns-clause-same g c =
    let lookup_named : c.chosen_by.new.bares.lookup.ghost_name ≡ _ = c.chosen_by.ensures.names.lookup in
    let known_named : c.chosen_by.new.bares.lookup.now.known.ghost_name ≡ c.args.lookup.now.known.ghost_name = c.chosen_by.ensures.names.same.known in
    let folder_named : c.chosen_by.new.bares.lookup.now.folder.ghost_name ≡ c.args.lookup.now.folder.ghost_name = c.chosen_by.ensures.names.same.folder in
    let trail_named : c.chosen_by.new.bares.lookup.now.trail.ghost_name ≡ c.args.lookup.now.trail.ghost_name = c.chosen_by.ensures.names.same.trail in
    record { known = search rules; folder = search rules; trail = search rules }
