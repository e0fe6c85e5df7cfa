use Rattle.generator_core.proofs.Checkings.{absent_ends, folder_ends, too_large_ends}
use Rattle.generator_core.proofs.checking.text_at.Goals as goal

pub returns-in-Ok-Absent : goal.returns-in-Ok-Absent
returns-in-Ok-Absent g c = λ is_path. absent_ends c.args.path.now is_path _ _ c.in-Ok-Absent.field-0 c.without_map.result c.in-Ok-Absent.field-0-is c.without_map.ensures c.in-Ok-Absent.ensures.looked

pub returns-in-Ok-Folder : goal.returns-in-Ok-Folder
returns-in-Ok-Folder g c = λ is_path. folder_ends c.args.path.now is_path _ _ c.in-Ok-Folder.field-0 c.without_map-in-Ok-Folder.result c.in-Ok-Folder.field-0-is c.without_map-in-Ok-Folder.ensures c.in-Ok-Folder.ensures.looked

pub returns-in-Ok-TooLarge : goal.returns-in-Ok-TooLarge
returns-in-Ok-TooLarge g c = λ is_path. too_large_ends c.args.path.now is_path _ _ c.in-Ok-TooLarge.field-0 c.without_map-in-Ok-TooLarge.result c.in-Ok-TooLarge.field-0-is c.without_map-in-Ok-TooLarge.ensures c.in-Ok-TooLarge.ensures.looked
