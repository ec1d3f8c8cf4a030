use Rattle.std.proofs.Common.{sym, ◌≡◌, ◌+◌, ◌<◌, ◌^◌, ◌++◌, ap, ◌∙◌, append_assoc, take, take_all, map, subst, Result, Ok, Err, IfOk, length, All, get_or, List, ℕ, Some}
use Rattle.std.specs.List.Sorted.{IsNonDecreasingBy}
use Rattle.lan_core.specs.declared.event.Event.{Event}
use Rattle.data_workers.specs.declared.entry.Entry.{Entry}
use Rattle.worker_races.specs.declared.merge.rank.Rank.{Rank}
use Rattle.worker_races.specs.declared.merge.step.Step.{Step}
use Rattle.worker_races.specs.merge.Places.{place}
use Rattle.worker_races.specs.merge.Ranks.{in_order, is_sooner}
use Rattle.worker_races.specs.merge.Merged.{merged, entries_of}
use Rattle.worker_races.specs.merge.Steps.{attempt_of, moves_of, control_ranks, ranks_of, claim_ranks, logs_of, event_at, event_of_rank, IsRankOf, AreRising}
use Rattle.worker_races.proofs.weaving.Sweep.{ranks_more, sorted-ranks, events-ranked, ranks-are}
use Rattle.worker_races.proofs.weaving.Recount.{part-is, part-woven, part-legal, part-thrifty, rising}
use Rattle.worker_races.proofs.merge.merging.merge.Goals as goal

pub loop-number-preserved : goal.loop-number-preserved
loop-number-preserved c up =
    let ms = moves_of c.args.control.now in
    let logs = c.args.logs.now in
    let n = c.loop-number.number in
    let r : List Entry = c.index-logs-number.result in
    let now : List Entry = c.as_slice.result.now in
    let log : now ≡ get_or logs n r = c.as_slice.ensures ∙ c.index-logs-number.is in
    let rises = subst (IsNonDecreasingBy (λ e. place (attempt_of 0 e) ms)) (sym log) (up n r c.loop-number-test.true) in
    let more = ranks_more ms logs n r c.loop-number-test.true in
    c.in_ok-append_log.ensures rises
    ∙ (ap (λ l. l ++ claim_ranks ms n now) (c.loop-number.invariant up)
    ∙ (append_assoc (control_ranks 0 c.args.control.now) (ranks_of ms 0 (take n logs)) (claim_ranks ms n now)
    ∙ ap (λ l. control_ranks 0 c.args.control.now ++ l) (ap (λ l. ranks_of ms 0 (take n logs) ++ claim_ranks ms n l) log ∙ sym more)))

-- the ranks when they are sorted
sorted : (steps : List Step) (logs : List (List Entry)) (n : ℕ) (old new : List Rank)
    → new ≡ in_order is_sooner old → old ≡ control_ranks 0 steps ++ ranks_of (moves_of steps) 0 (take n logs)
    → take n logs ≡ logs → new ≡ in_order is_sooner (control_ranks 0 steps ++ ranks_of (moves_of steps) 0 logs)
sorted steps logs n old new order built all =
    order ∙ ap (in_order is_sooner) (built ∙ ap (λ ls. control_ranks 0 steps ++ ranks_of (moves_of steps) 0 ls) all)

ok-more : {A B : Type 0} (r : Result A B) (P Q : A → Type 0) → ((a : A) → P a → Q a) → IfOk r P → IfOk r Q
ok-more (Ok a) P Q f h = f a h
ok-more (Err e) P Q f h = tt

-- the events of sorted ranks
exact : (steps : List Step) (logs : List (List Entry)) (ranks : List Rank) (events : List Event)
    → ranks ≡ in_order is_sooner (control_ranks 0 steps ++ ranks_of (moves_of steps) 0 logs)
    → map Some events ≡ map (event_of_rank steps) ranks
    → map Some events ≡ map (event_at steps) (merged (moves_of steps) (entries_of (logs_of 0 logs)))
exact steps logs ranks events built is =
    is ∙ (ap (map (event_of_rank steps)) (built ∙ sorted-ranks steps logs)
    ∙ events-ranked steps (moves_of steps) (merged (moves_of steps) (entries_of (logs_of 0 logs))))

pub returns : goal.returns
returns c =
    let steps = c.args.control.now in
    let logs = c.args.logs.now in
    let all = take_all c.loop-number.number logs c.loop-number-test.false in
    let built = λ (up : AreRising (moves_of steps) logs).
    c.as_slice-2.ensures.value ∙ sorted steps logs c.loop-number.number c.loop-number.ranks.items c.sort.new.ranks.items c.in_ok-sort.ensures (c.loop-number.invariant up) all in
    let told = λ (few : length logs + 1 < 2 ^ 32) (up : AreRising (moves_of steps) logs).
    c.events_of.ensures (subst (All (IsRankOf steps)) (sym (built up)) (ranks-are steps logs few)) in
    record {
      exact = λ few up. ok-more c.events_of.result _ _ (λ v h. exact steps logs c.as_slice-2.result.now v.items (built up) h) (told few up);
      legal = λ settings users base ans pointed r moves few are race.
          let up = rising settings users base ans pointed r steps moves logs are race in
          ok-more c.events_of.result _ _
          (λ v h. (
            part-is settings users base ans pointed r steps moves logs are race v.items
                (exact steps logs c.as_slice-2.result.now v.items (built up) h),
            part-woven settings users base ans pointed r steps moves logs are race,
            part-legal settings users base ans pointed r steps moves logs are race,
            part-thrifty settings users base ans pointed r steps moves logs are race,
          ))
          (told few up);
    }
