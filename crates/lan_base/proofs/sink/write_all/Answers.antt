use Rattle.std.proofs.Common.{◌≡◌, ◌≤◌, length, take, drop, arith, ap, ◌∙◌, length-drop}
use Rattle.std.proofs.lemmas.List.{take_rest}
use Rattle.lan_base.specs.Told.{after}
use Rattle.lan_base.proofs.Moves.{after-fronts}
use Rattle.lan_base.proofs.sink.write_all.Goals as goal

pub loop-written-preserved : goal.loop-written-preserved
loop-written-preserved g c =
    let octets = c.args.octets.now in
    let written = c.loop-written.written in
    let count = c.in_ok-written.field-0 in
    let held = g.K.Sink.held in
    let fits : count ≤ length (drop written octets) = rw take_rest at c.in_ok-written.ensures.fits in
    let moved : held c.write.new.self ≡ after (held c.loop-written.sink) (take count (drop written octets)) = rw take_rest at c.in_ok-written.ensures.appended in
    record {
      within = omega (arith, fits, length-drop written octets);
      appended = moved
          ∙ ap (λ h. after h (take count (drop written octets))) c.loop-written.invariant.appended
          ∙ after-fronts (held c.args.sink.now) written count octets;
      counts = omega (arith, c.in_ok-written.ensures.counts);
    }
