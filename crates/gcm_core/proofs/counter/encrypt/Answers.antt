use Rattle.std.proofs.Common.{◌≡◌, ◌+◌, ◌*◌, ◌/◌, ◌≤◌, ℕ, length, min, subst, refl, ap, ◌∙◌, arith, rules}
use Rattle.aes_block.specs.Aes.{aes}
use Rattle.gcm_core.specs.Gcm.{counter_block, gctr}
use Rattle.gcm_core.proofs.KeyStream.{IsEnciphered, enciphered_none, enciphered_block, enciphered_all, increment-count}
use Rattle.gcm_core.proofs.counter.encrypt.Goals as goal

pub loop-i-init : goal.loop-i-init
loop-i-init c =
    let key = c.args.key.now in
    let first = counter_block c.args.iv.now c.args.first in
    let octets = c.args.octets.now in
    let none : 0 ≡ min (length octets) 0 = omega arith in
    subst (λ (n : ℕ). IsEnciphered key first octets n (gctr key first octets)) none (enciphered_none key first octets)

pub loop-i-preserved : goal.loop-i-preserved
loop-i-preserved c =
    let octets = c.loop-i.octets in
    let i = c.loop-i.i in
    let whole : 16 * i + 16 ≤ length octets = omega arith in
    let stream = c.encrypt-stream.ensures.ciphertext ∙ ap (aes c.args.key.now) c.counter_block.ensures in
    let next = increment-count c.args.iv.now c.loop-i.count c.told-iv (omega arith) in
    rw next at
    (enciphered_block c.args.key.now (counter_block c.args.iv.now c.loop-i.count) octets _ c.encrypt-stream.result c.mask_block.new.octets _ i (16 * i + 16)
    (omega arith) (omega arith) stream (search rules) c.mask_block.ensures refl (search rules) c.loop-i.invariant)

pub returns-then-whole-octets : goal.returns-then-whole-octets
returns-then-whole-octets c =
    let key = c.args.key.now in
    let octets = c.loop-i.octets in
    let counter = counter_block c.args.iv.now c.loop-i.count in
    let total = gctr key (counter_block c.args.iv.now c.args.first) c.args.octets.now in
    let i = length c.args.octets.now / 16 in
    let all : c.loop-i.i ≡ i = omega arith in
    let was = subst (λ (n : ℕ). IsEnciphered key counter octets (min (length octets) (16 * n)) total) all c.loop-i.invariant in
    let stream = c.encrypt-stream-then-whole-octets.ensures.ciphertext ∙ ap (aes key) c.counter_block-then-whole-octets.ensures in
    let last = enciphered_block key counter octets total c.encrypt-stream-then-whole-octets.result c.mask.new.octets _ i (length octets)
    (omega arith) (omega arith) stream (search rules) c.mask.ensures refl (search rules) was in
    enciphered_all key _ _ total (i + 1) (search rules) last

pub returns-else-whole-octets : goal.returns-else-whole-octets
returns-else-whole-octets c =
    enciphered_all c.args.key.now (counter_block c.args.iv.now c.loop-i.count) c.loop-i.octets _ c.loop-i.i (omega arith) c.loop-i.invariant
