use Rattle.std.proofs.Common.{arith, refl, subst}
use Rattle.std.specs.Prelude.{OnOk, set}
use Rattle.std.proofs.lemmas.Option.{slice_get_read}
use Rattle.key_spans.specs.Sends.{Track}
use Rattle.key_spans.specs.inside.Sending.{IsAddedAt}
use Rattle.key_spans.proofs.Claiming.{added-here}
use Rattle.key_spans.proofs.track.Track.put.Goals as goal

pub returns : goal.returns
returns c =
    let xs = c.self.inside.rows.items in
    let less = c.in-Some.ensures.variant.0 refl in
    let found = slice_get_read xs _ c.args.station c.in-Some.row.now refl (omega (arith, less)) c.in-Some.ensures.value in
    subst (λ (k : Track). OnOk c.add.result (IsAddedAt c.args.station c.args.attempt k (set xs c.args.station c.add.new.self))) c.self.view_is
    (added-here c.args.station c.args.attempt xs c.in-Some.row.now c.add.new.self c.add.result found c.add.ensures.added)
