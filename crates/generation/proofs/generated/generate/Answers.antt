use Rattle.generation.proofs.Generatings.{generated_fresh, steps_fresh}
use Rattle.generation.proofs.generated.generate.Goals as goal

pub returns-clause-generates : goal.returns-clause-generates
returns-clause-generates g c =
    generated_fresh c.args.config.now (g.F.Folder.state c.args.folder.now) (g.F.Folder.state c.generate_over.new.folder) c.new-known.result c.generate_over.new.known
    (record { kept = c.new-known.ensures.kept; laid = c.new-known.ensures.laid }) c.generate_over.result c.generate_over.ensures.generates

pub returns-clause-to_end : goal.returns-clause-to_end
returns-clause-to_end g c =
    steps_fresh c.args.config.now (g.F.Folder.state c.args.folder.now) (g.F.Folder.state c.generate_over.new.folder) c.new-known.result c.generate_over.new.known
    (record { kept = c.new-known.ensures.kept; laid = c.new-known.ensures.laid }) _ _ c.generate_over.ensures.to_end
