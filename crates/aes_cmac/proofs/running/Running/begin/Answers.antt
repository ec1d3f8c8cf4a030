use Rattle.std.proofs.Common.{◌≡◌, ◌++◌, length, take, ap, sym, ◌∙◌, arith}
use Rattle.std.proofs.Math.Seq.{take-append_seam}
use Rattle.std.proofs.lemmas.List.{take_all, length-take-le}
use borrow.Rule.Slice.PartMut.{post_of}
use Rattle.aes_cmac.specs.Progress.{Progress}
use Rattle.aes_cmac.proofs.Pieces.{Holds-whole}
use Rattle.aes_cmac.proofs.running.Running.begin.Goals as goal

pub returns : goal.returns
returns c = λ key message h.
    let was = c.self.inside in
    let part = c.args.part.now in
    let key_is : was.key.now ≡ c.args.self.now.key = ap (λ (p : Progress). p.key) c.self.view_is in
    let chain_is : was.chain ≡ c.args.self.now.chain = ap (λ (p : Progress). p.chain) c.self.view_is in
    let rest_is : take was.filled was.next ≡ c.args.self.now.rest = ap (λ (p : Progress). p.rest) c.self.view_is in
    let within : length (take was.filled was.next) ≡ was.filled = length-take-le was.filled was.next (omega arith) in
    let full : was.filled ≡ 16 = omega (arith, c.requires.whole, ap length rest_is) in
    let all : take was.filled was.next ≡ was.next = take_all was.filled was.next (omega (arith, full)) in
    let next_is : was.next ≡ c.args.self.now.rest = sym all ∙ rest_is in
    Holds-whole c.args.self.now _ key message part h c.requires.whole c.requires.some c.requires.room
    key_is
    (cc)
    (ap (λ f. take (length part) (f ++ post_of 0 (length part) was.next)) c.copy_from_slice.ensures.after ∙ take-append_seam part _)
