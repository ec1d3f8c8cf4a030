use Rattle.std.proofs.Common.{◌≡◌, take, ap}
use Rattle.aes_cmac.specs.Cmac.{cmac}
use Rattle.aes_cmac.specs.Progress.{Progress}
use Rattle.aes_cmac.proofs.running.Running.finish.Goals as goal

pub returns : goal.returns
unfolding cmac
returns c = λ key message h.
    let was = c.self.inside in
    let key_is : was.key.now ≡ c.args.self.key = ap (λ (p : Progress). p.key) c.self.view_is in
    let chain_is : was.chain ≡ c.args.self.chain = ap (λ (p : Progress). p.chain) c.self.view_is in
    let rest_is : take was.filled was.next ≡ c.args.self.rest = ap (λ (p : Progress). p.rest) c.self.view_is in
    cc
