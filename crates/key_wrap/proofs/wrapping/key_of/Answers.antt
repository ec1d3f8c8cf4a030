use Rattle.std.proofs.Common.{ℕ, ◌<◌, ◌∙◌, arith}
use Rattle.std.proofs.lemmas.List.{length-replicate}
use Rattle.std.proofs.lemmas.List.Elements.{All-same, All-from_get_or}
use Rattle.key_wrap.proofs.wrapping.key_of.Goals as goal

pub returns-clause-octets : goal.returns-clause-octets
returns-clause-octets g c =
    let IsOctet : ℕ → Type 0 = λ octet. octet < 256 in
    record {
      count = c.copy_from_slice.ensures.len ∙ length-replicate g.row.N 0;
      octets = All-same IsOctet c.copy_from_slice.new.self c.args.registers.now c.copy_from_slice.ensures.after
          (All-from_get_or IsOctet c.args.registers.now 0 (λ i h. omega (arith, c.type_inv.registers i)));
    }
