use Rattle.std.proofs.Common.{◌≡◌, length, sym, ap, subst, ◌∙◌, arith, inl, inr}
use Rattle.std.specs.Fmt.{HasWritten}
use Rattle.aes_block.proofs.Held.{key_text-short, key_text-long}
use Rattle.aes_block.proofs.key.KeyDebug.fmt.Goals as goal

pub returns-then-self-eq10 : goal.returns-then-self-eq10
returns-then-self-eq10 g c =
    let k = c.self.invariant in
    let short : length c.self.inside.expanded ≡ 16 = elim k.two [
      | inl a ↦ a
      | inr a ↦ absurd (omega (arith, k.count, a, c.if-self-eq10.true))
    ] in
    let is = sym (key_text-short c.args.self.now (ap length (sym c.self.view_is) ∙ short)) in
    record { writes = λ plain ok. subst (λ t. HasWritten g.W.Write.write_str_gives c.args.f.now t c.write_str.new.self) is (c.write_str.ensures.writes plain ok) }

pub returns-else-self-eq10 : goal.returns-else-self-eq10
returns-else-self-eq10 g c =
    let k = c.self.invariant in
    let long : length c.self.inside.expanded ≡ 32 = elim k.two [
      | inl a ↦ absurd (omega (arith, k.count, a, c.if-self-eq10.false))
      | inr a ↦ a
    ] in
    let is = sym (key_text-long c.args.self.now (ap length (sym c.self.view_is) ∙ long)) in
    record { writes = λ plain ok. subst (λ t. HasWritten g.W.Write.write_str_gives c.args.f.now t c.write_str-else-self-eq10.new.self) is (c.write_str-else-self-eq10.ensures.writes plain ok) }
