use Rattle.std.proofs.Common.{◌≡◌, ◌∙◌, List, subst}
use Rattle.std.specs.Prelude.{ℕ, IfOk}
use Rattle.std.specs.Borrow.{Bor}
use Rattle.std.specs.List.{AllZip}
use Rattle.std.specs.declared.alloc.AllocError.{AllocError}
use Rattle.std.proofs.Crossing.{crosses, frees}
use Rattle.std.proofs.MapsCrossing.{crosses as maps}
use denote.Param.Send.{sendable}
use Rattle.rayon.proofs.ListFacts.{AllZip-weaken}
use Rattle.rayon.proofs.ToStd.{slice-AllZip}
use Rattle.rx_slots.specs.Answers.{checked}
use Rattle.rx_slots.specs.Histories.{standing_key}
use Rattle.rx_workers.proofs.Answered.{answered}
use Rattle.rx_workers.proofs.batch.check_batch.Goals as goal

-- what crosses to the threads, the allocator, and then what the closure asks of each frame
pub collect-requires : goal.collect-requires
collect-requires g c κs = (
  search (sendable, crosses, maps) depth 60 fits 50000,
  (
    search (sendable, crosses, maps) depth 60 fits 50000,
    (
      search (sendable, crosses, maps) depth 60 fits 50000,
      (
        search (sendable, crosses, maps) depth 60 fits 50000,
        (
          search (sendable, crosses, maps) depth 60 fits 50000,
          (
            frees,
            rw (c.map.ensures.base, c.with_min_len.ensures.base, c.par_iter.ensures)
                (λ k d lt x is. (rw is (c.requires k d lt), λ y p. tt)),
          ),
        ),
      ),
    ),
  ),
)

pub returns-in-Ok : goal.returns-in-Ok
returns-in-Ok g c own window h stands =
    let frames = c.args.frames.now in
    let answer = λ (frame : Bor (List ℕ)). checked own (standing_key h) frame.now in
    let told = c.in_ok-collected.ensures in
    let chain = rw (c.map.ensures.base, c.map.ensures.f, c.with_min_len.ensures.base) at told.1 in
    let each = slice-AllZip chain.0 frames (chain.1 ∙ c.par_iter.ensures) (λ frame r. IfOk r (λ found. found ≡ answer frame)) told.0
    (AllZip-weaken _ _ (λ z r p. p own window h stands) chain.0 told.0 chain.2) in
    let kept = rw c.in-Ok.is at told.2 in
    kept.2 ∙ answered AllocError answer frames kept.0 (subst (λ rs. AllZip (λ frame r. IfOk r (λ found. found ≡ answer frame)) frames rs) kept.1 each)
