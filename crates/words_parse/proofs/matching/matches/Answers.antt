use Rattle.std.proofs.Common.{ap, map, sym, subst, ◌∙◌}
use Rattle.std.specs.Prelude.{string_bytes}
use Rattle.std.proofs.lemmas.Result.{IfErr-weaker, IfOk-weaker, MatchResult-from_both}
use Rattle.clap.specs.Words.{FailsBy, fault_of, is_simple, is_simple_and_free, subcommand_of, takes}
use Rattle.words_clap_spec.specs.Holding.{Holds}
use Rattle.words_clap_spec.proofs.PlainWords.{plain_words_are_held, plain_words_pass, program_is_simple}
use Rattle.words_parse.proofs.matching.matches.Goals as goal

pub returns-clause-plain : goal.returns-clause-plain
returns-clause-plain c = λ asked plain.
    let words = map string_bytes c.args.words.now in
    MatchResult-from_both c.try_get_matches_from.result _ _
    (IfOk-weaker c.try_get_matches_from.result _ _ (λ found has.
    subst (Holds asked)
    (sym ((has (ap is_simple c.in_ok-command.ensures ∙ program_is_simple.0)).1 ∙ ap (λ app. subcommand_of app words) c.in_ok-command.ensures))
    (plain_words_are_held words asked plain))
    c.try_get_matches_from.ensures.matches)
    (IfErr-weaker c.try_get_matches_from.result _ _ (λ error passes.
    passes (ap (λ app. takes app words) c.in_ok-command.ensures ∙ plain_words_pass words asked plain))
    c.try_get_matches_from.ensures.passes)

pub returns-clause-kinds : goal.returns-clause-kinds
returns-clause-kinds c =
    let words = map string_bytes c.args.words.now in
    subst (λ kinds. FailsBy kinds c.try_get_matches_from.result) (ap (λ app. fault_of app words) c.in_ok-command.ensures)
    (c.try_get_matches_from.ensures.kinds (ap is_simple_and_free c.in_ok-command.ensures ∙ program_is_simple.1))
