use Rattle.std.proofs.Common.{refl}
use Rattle.aes_cmac.proofs.Pieces.{Holds-none}
use Rattle.aes_cmac.proofs.running.Running.new.Goals as goal

pub returns : goal.returns
returns c = Holds-none _ refl refl
