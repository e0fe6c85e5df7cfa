-- The program's commands and arguments, as a parse by `clap` reads them. All of it is this project's own.
--     program      the program with its commands
--     top          the program without them
--     link_command, unlink_command, measure_command      the commands that take words
--     path_command name      a command that takes a path
--     check_command      the command that takes a flag
--     option_rule name, entries_rule, path_rule, number_rule, strict_rule     their arguments
--     plain_command name      a command that takes nothing
use Rattle.clap.specs.Simple.{on_top}
use Rattle.clap.specs.Words.{App, Rule, Text, new_app, new_rule, with_rule, with_subcommand}
use Rattle.clap.specs.declared.builder.action.ArgAction.TheVariants.{Append, SetTrue}
use Rattle.std.specs.Prelude.{codes, Some, true}

abbrev pub option_rule : Text → Rule
option_rule name = record (new_rule name) { long = Some name; value_names = 1 }

abbrev pub entries_rule : Rule
entries_rule = record (new_rule (codes "entries")) { action = Some Append; value_names = 1 }

abbrev pub path_rule : Rule
path_rule = record (new_rule (codes "path")) { value_names = 1; required = true }

abbrev pub number_rule : Rule
number_rule = record (new_rule (codes "number")) { value_names = 1; required = true }

abbrev pub strict_rule : Rule
strict_rule = record (new_rule (codes "strict")) { long = Some (codes "strict"); action = Some SetTrue }

abbrev pub link_command : App
link_command =
    with_rule (with_rule (with_rule (with_rule (new_app (codes "link"))
    (option_rule (codes "base"))) (option_rule (codes "page"))) (option_rule (codes "conditions"))) entries_rule

abbrev pub unlink_command : App
unlink_command = with_rule (new_app (codes "unlink")) (record entries_rule { required = true })

abbrev pub path_command : Text → App
path_command name = with_rule (new_app name) path_rule

abbrev pub check_command : App
check_command = with_rule (new_app (codes "check")) strict_rule

abbrev pub measure_command : App
measure_command = with_rule (new_app (codes "measure")) number_rule

-- own: the words begin behind the program's name, and without any there is help
abbrev pub top : App
top = on_top
    (λ shape. record shape { no_binary_name = true; subcommand_required = true; arg_required_else_help = true })
    (new_app (codes "salimgub"))

abbrev pub plain_command : Text → App
plain_command name = new_app name

-- own: in the order of the help's text
abbrev pub program : App
program =
    with_subcommand (with_subcommand (with_subcommand (with_subcommand (with_subcommand (with_subcommand
    (with_subcommand (with_subcommand (with_subcommand (with_subcommand top
    link_command.top) unlink_command.top) (plain_command (codes "refresh")).top) (plain_command (codes "inject")).top)
    check_command.top) (plain_command (codes "list")).top) (path_command (codes "why")).top)
    (path_command (codes "vendor")).top) (plain_command (codes "session")).top) measure_command.top
