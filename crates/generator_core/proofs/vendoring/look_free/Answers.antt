use Rattle.generator_core.proofs.Vendorings.{folder_there, free_there, large_there}
use Rattle.generator_core.proofs.vendoring.look_free.Goals as goal

pub returns-in-Ok-Absent : goal.returns-in-Ok-Absent
returns-in-Ok-Absent g c =
    free_there c.args.to.now _ _ _ c.in-Ok-Absent.field-0 c.in-Ok-Absent.field-0-is c.in-Ok-Absent.ensures.looked

pub returns-in-Ok-Folder : goal.returns-in-Ok-Folder
returns-in-Ok-Folder g c =
    folder_there c.args.to.now _ _ _ c.in-Ok-Folder.field-0 c.occupied.result c.in-Ok-Folder.field-0-is
    c.occupied.ensures c.in-Ok-Folder.ensures.looked

pub returns-in-Ok-TooLarge : goal.returns-in-Ok-TooLarge
returns-in-Ok-TooLarge g c =
    large_there c.args.to.now _ _ _ c.in-Ok-TooLarge.field-0 c.occupied-in-Ok-TooLarge.result
    c.in-Ok-TooLarge.field-0-is c.occupied-in-Ok-TooLarge.ensures c.in-Ok-TooLarge.ensures.looked
