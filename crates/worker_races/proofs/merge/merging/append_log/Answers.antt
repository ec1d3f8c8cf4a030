use Rattle.std.proofs.Common.{arith, sym, ◌≡◌, ◌≤◌, ◌++◌, [], ◌∷◌, ap, ◌∙◌, append_assoc, subst, take, get_or}
use Rattle.data_workers.specs.declared.entry.Entry.{Entry}
use Rattle.worker_races.specs.merge.Places.{place}
use Rattle.worker_races.specs.merge.Marks.{Claim}
use Rattle.worker_races.specs.merge.Merged.{rank, rank_at}
use Rattle.worker_races.specs.merge.Steps.{attempt_of, moves_of, claim_ranks}
use Rattle.worker_races.proofs.weaving.Sweep.{place-log, claims_more, same_default}
use Rattle.worker_races.proofs.merge.merging.append_log.Goals as goal

pub loop-entry-preserved : goal.loop-entry-preserved
loop-entry-preserved c up =
    let ms = moves_of c.args.steps.now in
    let n = c.args.number in
    let i = c.loop-entry.entry-index in
    let log = c.args.log.now in
    let old = c.args.ranks.now.items in
    let t : Entry = c.entry-item.result in
    let is : t ≡ get_or log i t = c.entry-item.is in
    let before = c.loop-entry.invariant up in
    let more = claims_more ms n log i t c.loop-entry-test.true in
    let low : c.loop-entry.at ≤ place (attempt_of 0 t) ms =
    subst (λ e. c.loop-entry.at ≤ place (attempt_of 0 e) ms) (sym is) (before.1 i t (omega arith) c.loop-entry-test.true) in
    let here = c.advance-at.ensures low in
    let at : c.advance-at.result ≡ place (attempt_of n t) ms = here ∙ sym (place-log n t ms) in
    let r : c.rank_of_claim.result ≡ rank ms (Claim (attempt_of n (get_or log i t))) =
    c.rank_of_claim.ensures ∙ (ap (λ p. rank_at p (attempt_of n t)) at ∙ ap (λ e. rank ms (Claim (attempt_of n e))) is) in (
      c.in_ok-push.ensures.items
          ∙ (ap (λ l. l ++ c.rank_of_claim.result ∷ []) before.0
          ∙ (append_assoc old (claim_ranks ms n (take i log)) (c.rank_of_claim.result ∷ [])
          ∙ ap (λ l. old ++ l) (ap (λ w. claim_ranks ms n (take i log) ++ w ∷ []) r ∙ sym more))),
      λ k e lo hi. (let a = up i k e (omega arith) hi in
          let s = ap (λ u. place (attempt_of 0 u) ms) (is ∙ same_default log i t e c.loop-entry-test.true) in
          omega (arith, a, here, s)),
    )
