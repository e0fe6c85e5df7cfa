use Rattle.generator_core.proofs.Preparings.{absent_end, folder_end, too_large_end}
use Rattle.generator_core.proofs.prepared.page_of.Goals as goal

pub returns-in-Ok-Absent : goal.returns-in-Ok-Absent
returns-in-Ok-Absent g c =
    absent_end c.args.config.now _ c.page.ensures.page _ _ c.in-Ok-Absent.field-0 c.without_page.result c.in-Ok-Absent.field-0-is c.without_page.ensures c.in-Ok-Absent.ensures.looked

pub returns-in-Ok-Folder : goal.returns-in-Ok-Folder
returns-in-Ok-Folder g c =
    folder_end c.args.config.now _ c.page.ensures.page _ _ c.in-Ok-Folder.field-0 c.without_page-in-Ok-Folder.result c.in-Ok-Folder.field-0-is c.without_page-in-Ok-Folder.ensures c.in-Ok-Folder.ensures.looked

pub returns-in-Ok-TooLarge : goal.returns-in-Ok-TooLarge
returns-in-Ok-TooLarge g c =
    too_large_end c.args.config.now _ c.page.ensures.page _ _ c.in-Ok-TooLarge.field-0 c.without_page-in-Ok-TooLarge.result c.in-Ok-TooLarge.field-0-is c.without_page-in-Ok-TooLarge.ensures c.in-Ok-TooLarge.ensures.looked
