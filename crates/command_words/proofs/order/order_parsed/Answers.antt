use Rattle.std.proofs.Common.{ap, refl}
use Rattle.words_parse.specs.Shown.{shown}
use Rattle.command_words.proofs.Orders.{same_asked}
use Rattle.config_spec.proofs.Options.{no_settings_set}
use Rattle.command_words.proofs.order.order_parsed.Goals as goal

pub returns-in-Unlink : goal.returns-in-Unlink
returns-in-Unlink c =
    same_asked _ _ _ (ap shown c.in-Unlink.is) (record { same = refl; is = refl; sets = no_settings_set })

pub returns-in-Refresh : goal.returns-in-Refresh
returns-in-Refresh c =
    same_asked _ _ _ (ap shown c.in-Refresh.is) (record { same = refl; is = refl; sets = no_settings_set })

pub returns-in-Check : goal.returns-in-Check
returns-in-Check c =
    same_asked _ _ _ (ap shown c.in-Check.is) (record { same = refl; is = refl; sets = no_settings_set })

pub returns-in-CheckStrictly : goal.returns-in-CheckStrictly
returns-in-CheckStrictly c =
    same_asked _ _ _ (ap shown c.in-CheckStrictly.is) (record { same = refl; is = refl; sets = no_settings_set })

pub returns-in-Inject : goal.returns-in-Inject
returns-in-Inject c =
    same_asked _ _ _ (ap shown c.in-Inject.is) (record { same = refl; is = refl; sets = no_settings_set })

pub returns-in-List : goal.returns-in-List
returns-in-List c =
    same_asked _ _ _ (ap shown c.in-List.is) (record { same = refl; is = refl; sets = no_settings_set })

pub returns-in-Session : goal.returns-in-Session
returns-in-Session c = ap shown c.in-Session.is

pub returns-in-Measure : goal.returns-in-Measure
returns-in-Measure c = ap shown c.in-Measure.is
