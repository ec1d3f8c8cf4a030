use Rattle.std.proofs.Common.{◌≡◌, ◌+◌, ◌*◌, ◌/◌, [], ◌++◌, length, take, drop, get_or, ap, sym, subst, ◌∙◌, arith}
use Rattle.std.proofs.Math.Seq.{take-add}
use Rattle.std.proofs.lemmas.List.{take-append-drop, append_assoc}
use Rattle.aes_cmac.specs.Cmac.{block}
use Rattle.aes_cmac.specs.Progress.{Holds}
use Rattle.aes_cmac.proofs.Chain.{get_or-first_chunks}
use Rattle.aes_cmac.proofs.running.Running.update.Goals as goal

pub loop-block-preserved : goal.loop-block-preserved
loop-block-preserved c = λ key message h.
    let piece = c.args.piece.now in
    let i = c.loop-block.block-index in
    let the_block : get_or c.as_chunks.result.0.now i [] ≡ block piece i =
    ap (λ l. get_or l i []) c.as_chunks.ensures.front
    ∙ get_or-first_chunks (length piece / 16) piece i (omega (arith, c.loop-block-test.true, c.as_chunks.ensures.front_len)) in
    let more : take (16 * (i + 1)) piece ≡ take (16 * i) piece ++ block piece i =
    ap (λ n. take n piece) (omega arith) ∙ take-add (16 * i) 16 piece in
    let whole : (message ++ take (16 * i) piece) ++ get_or c.as_chunks.result.0.now i [] ≡ message ++ take (16 * (i + 1)) piece =
    ap (λ b. (message ++ take (16 * i) piece) ++ b) the_block ∙ append_assoc message (take (16 * i) piece) (block piece i)
    ∙ ap (λ l. message ++ l) (sym more) in
    subst (Holds c.push.new.self key) whole (c.push.ensures key (message ++ take (16 * i) piece) (c.loop-block.invariant key message h))

pub returns : goal.returns
returns c = λ key message h.
    let piece = c.args.piece.now in
    let i = c.loop-block.block-index in
    let rest = c.as_chunks.result.1.now in
    let end : i ≡ length piece / 16 = omega (arith, c.loop-block-test.false, c.as_chunks.ensures.front_len, c.loop-block.auto.block-index-end) in
    let behind : rest ≡ drop (16 * i) piece = c.as_chunks.ensures.back ∙ ap (λ n. drop n piece) (omega (arith, end)) in
    let whole : (message ++ take (16 * i) piece) ++ rest ≡ message ++ piece =
    append_assoc message (take (16 * i) piece) rest ∙ ap (λ l. message ++ (take (16 * i) piece ++ l)) behind
    ∙ ap (λ l. message ++ l) (take-append-drop (16 * i) piece) in
    subst (Holds c.push-2.new.self key) whole (c.push-2.ensures key (message ++ take (16 * i) piece) (c.loop-block.invariant key message h))
