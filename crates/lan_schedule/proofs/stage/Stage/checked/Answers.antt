use Rattle.std.proofs.Common.{ℕ, List, ◌∙◌, sym}
use Rattle.std.specs.Prelude.{map}
use Rattle.std.specs.Borrow.{Bor}
use Rattle.std.proofs.lemmas.Simd.{map-map}
use Rattle.rx_slots.specs.Answers.{checked}
use Rattle.rx_slots.specs.Histories.{standing_key}
use Rattle.lan_schedule.proofs.Batching.{answers-are}
use Rattle.lan_schedule.proofs.stage.Stage.checked.Goals as goal

pub returns : goal.returns
returns g c settings users r stands =
    let frames = c.in_ok-frames.frames.items in
    let now = λ (frame : Bor (List ℕ)). frame.now in
    rw (c.of.ensures, c.into_answers.ensures) (answers-are settings r c.args.first c.args.station _ (map now frames) _
    (rw c.in-Some.is at c.slots.ensures settings users r stands)
    (λ own window h slots_stand. (rw c.deref.ensures.value at c.in_ok-batch.ensures own window h slots_stand)
    ∙ sym (map-map (λ (octets : List ℕ). checked own (standing_key h) octets) now frames))
    (c.in_ok-frames.ensures.frames settings users r stands))
