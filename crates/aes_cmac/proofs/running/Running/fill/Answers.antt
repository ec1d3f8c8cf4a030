use Rattle.std.proofs.Common.{◌≡◌, ◌++◌, length, take, ap, ◌∙◌, arith}
use Rattle.std.proofs.lemmas.Slice.{take-put_mid}
use Rattle.aes_cmac.specs.Progress.{Progress}
use Rattle.aes_cmac.proofs.Pieces.{Holds-part}
use Rattle.aes_cmac.proofs.running.Running.fill.Goals as goal

pub returns-clause-holds : goal.returns-clause-holds
returns-clause-holds c = λ key message h.
    let was = c.self.inside in
    let part = c.args.part.now in
    let key_is : was.key.now ≡ c.args.self.now.key = ap (λ (p : Progress). p.key) c.self.view_is in
    let chain_is : was.chain ≡ c.args.self.now.chain = ap (λ (p : Progress). p.chain) c.self.view_is in
    let rest_is : take was.filled was.next ≡ c.args.self.now.rest = ap (λ (p : Progress). p.rest) c.self.view_is in
    let part_is : c.copy_from_slice.new.self ≡ part = c.copy_from_slice.ensures.after in
    Holds-part c.args.self.now _ key message part h c.requires
    key_is
    chain_is
    (take-put_mid was.filled _ was.next c.copy_from_slice.new.self _ (omega (arith, ap length part_is)) (omega arith)
    ∙ (λ i. rest_is i ++ part_is i))
