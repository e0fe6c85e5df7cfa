use Rattle.project_file.proofs.PrintLemmas.{text_read_back, whole_text}
use Rattle.project_file.proofs.printing.print_project.Goals as goal

pub returns-clause-text : goal.returns-clause-text
returns-clause-text c = whole_text c.args.config.now c.new-out.ensures.items c.in_ok-push_project.ensures.text

pub returns-clause-read_back : goal.returns-clause-read_back
returns-clause-read_back c =
    text_read_back c.args.config.now c.push_project.new.out.items (whole_text c.args.config.now c.new-out.ensures.items c.in_ok-push_project.ensures.text) c.in_ok-push_project.ensures.can_be_read
