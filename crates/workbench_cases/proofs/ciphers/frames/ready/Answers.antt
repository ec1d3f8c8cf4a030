use Rattle.lan_base.specs.declared.association_number.AssociationNumber.TheVariants.{An0}
use Rattle.std.proofs.Common.{ℕ, List, [], ◌∷◌, subst}
use Rattle.aes_block.specs.declared.secret.Secret.TheVariants.{S128}
use Rattle.rx_slots.specs.Histories.{installed}
use Rattle.rx_slots.specs.Standing.{StandsFor}
use Rattle.workbench_cases.specs.Frames.{receiver}
use Rattle.workbench_cases.proofs.ciphers.frames.ready.Goals as goal

pub returns : goal.returns
returns c = subst (λ (k : List ℕ). StandsFor receiver 2 c.install.new.self (installed An0 (S128 k) ∷ [])) c.stepped.ensures
    (c.install.ensures receiver 2 [] c.new-slots.ensures)
