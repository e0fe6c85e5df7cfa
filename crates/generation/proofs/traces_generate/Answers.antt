use Rattle.generation.proofs.Generatings.{mapped, refused_so}
use Rattle.generation.proofs.traces_generate.Goals as goal

pub returns : goal.returns
returns c = record {
  mapped = λ config before after known later all result. mapped config before after known later all result;
  stopped = λ config before after known later stop. refused_so config before after known later stop;
}
