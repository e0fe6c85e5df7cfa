use Rattle.std.specs.Prelude.{length}
use Rattle.disk_devices.proofs.disk_folder.Disk.+make_folder.Given as goal

abbrev pub decreases-make_folder : goal.decreases-make_folder
decreases-make_folder g l = length l.name.now
