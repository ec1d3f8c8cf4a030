use Rattle.std.proofs.Common.{List, ℕ, ◌<◌, ap, ◌∙◌, arith, take}
use Rattle.std.proofs.lemmas.List.{length-take-le}
use Rattle.std.proofs.lemmas.List.Elements.{All-take}
use Rattle.aes_block.specs.Aes.{aes, IsBlock}
use Rattle.key_wrap.specs.Wrap.{numbered}
use Rattle.key_wrap.proofs.Steps.{Undoes, undone, only_before}
use Rattle.key_wrap.proofs.state.undo_step.Goals as goal

undoes : (c : goal.After-slice_known-3-1) → Undoes c.args.kek.now c.args.state.now c.turn_back.new.state c.numbered.result c.decrypt-block.result c.put_first_block.new.state c.args.number
undoes c = record {
  room = c.requires;
  turns = c.turn_back.ensures;
  numbers = c.numbered.ensures ∙ ap (λ b. numbered b c.args.number) c.first_block.ensures;
  whole = omega arith;
  puts = c.put_first_block.ensures;
}

cipher_of : (c : goal.After-slice_known-3-1) → (text : List ℕ) → IsBlock text → IsBlock (aes c.args.kek.now text)
cipher_of c text h = c.law_ciphertexts_are_blocks.ensures c.args.kek.now text c.decrypt-block.ensures.key h

pub returns-clause-blocks : goal.returns-clause-blocks
returns-clause-blocks c = cipher_of c

pub returns-clause-undone : goal.returns-clause-undone
returns-clause-undone c = undone _ _ _ _ _ _ _ (undoes c) c.decrypt-block.ensures.undone

pub returns-clause-only : goal.returns-clause-only
returns-clause-only c = λ before octets e.
    let state = c.args.state.now in
    let text : IsBlock (take 16 before) = record {
      count = length-take-le 16 before (omega (arith, octets.count));
      octets = All-take (λ octet. octet < 256) 16 before octets.octets;
    } in
    let cipher = cipher_of c (take 16 before) text in
    only_before _ _ _ _ _ _ before _ (undoes c) octets.count cipher.count e (λ h. c.decrypt-block.ensures.only (take 16 before) text h)
