-- What a loop over events takes.
use Rattle.std.proofs.Common.{◌≡◌, ◌<◌, ◌≤◌, ◌+◌, None, set, ℕ, zero, suc, List, [], ◌∷◌, ◌++◌, drop, length, get_or, refl, sym, ap, ◌∙◌, arith, append_assoc, append-nil}
use Rattle.std.proofs.Common.{add-one, drop-cons}
use Rattle.lan_base.specs.declared.frame.Protected.{Protected}
use Rattle.lan_core.specs.declared.event.Event.{Event}
use Rattle.data_workers.specs.declared.entry.Entry.{Entry}
use Rattle.worker_races.specs.merge.Taking.{first_of, rest_of, next_entry, without_next}
use Rattle.worker_races.specs.merge.Taking.{frames_of, left_by, taken_by}

pub frames-next : (events : List Event) (i : ℕ) (d : Event) (logs : List (List Entry)) → i < length events
    → frames_of (drop i events) logs
    ≡ taken_by (get_or events i d) logs ++ frames_of (drop (i + 1) events) (left_by (get_or events i d) logs)
unfolding frames_of
frames-next events i d logs less = rw (add-one, drop-cons events i d less) refl

pub frames-more : (events : List Event) (i : ℕ) (d : Event) (logs rests : List (List Entry))
    (frames more : List Protected) → i < length events
    → frames ++ frames_of (drop i events) rests ≡ frames_of events logs
    → more ≡ frames ++ taken_by (get_or events i d) rests
    → more ++ frames_of (drop (i + 1) events) (left_by (get_or events i d) rests) ≡ frames_of events logs
frames-more events i d logs rests frames more less before is =
    ap (λ fs. fs ++ frames_of (drop (i + 1) events) (left_by (get_or events i d) rests)) is
    ∙ (append_assoc frames (taken_by (get_or events i d) rests) (frames_of (drop (i + 1) events) (left_by (get_or events i d) rests))
    ∙ (ap (λ fs. frames ++ fs) (sym (frames-next events i d rests less)) ∙ before))

-- ---- the next entry of a log

pub next-at : (place : ℕ) (logs : List (List Entry)) (d : List Entry) → place < length logs
    → next_entry place logs ≡ first_of (get_or logs place d)
next-at place [] d less = absurd (omega arith)
next-at zero (log ∷ logs) d less = refl
next-at (suc n) (log ∷ logs) d less = next-at n logs d (omega arith)

pub without-at : (place : ℕ) (logs : List (List Entry)) (d : List Entry) → place < length logs
    → without_next place logs ≡ set logs place (rest_of (get_or logs place d))
without-at place [] d less = absurd (omega arith)
without-at zero (log ∷ logs) d less = refl
without-at (suc n) (log ∷ logs) d less = ap (λ ls. log ∷ ls) (without-at n logs d (omega arith))

pub next-past : (place : ℕ) (logs : List (List Entry)) → length logs ≤ place → next_entry place logs ≡ None
next-past place [] more = refl
next-past zero (log ∷ logs) more = absurd (omega arith)
next-past (suc n) (log ∷ logs) more = next-past n logs (omega arith)

pub without-past : (place : ℕ) (logs : List (List Entry)) → length logs ≤ place → without_next place logs ≡ logs
without-past zero [] more = refl
without-past (suc n) [] more = refl
without-past zero (log ∷ logs) more = absurd (omega arith)
without-past (suc n) (log ∷ logs) more = ap (λ ls. log ∷ ls) (without-past n logs (omega arith))

pub ruleset next_steps = (next-at, without-at, next-past, without-past)

-- ---- the end

dropped : (events : List Event) (i : ℕ) → length events ≤ i → drop i events ≡ []
dropped [] zero past = refl
dropped [] (suc i) past = refl
dropped (e ∷ events) zero past = absurd (omega arith)
dropped (e ∷ events) (suc i) past = dropped events i (omega arith)

pub frames-end : (events : List Event) (i : ℕ) (rests first logs : List (List Entry)) (frames : List Protected) → length events ≤ i
    → frames ++ frames_of (drop i events) rests ≡ frames_of events first → first ≡ logs
    → frames ≡ frames_of events logs
unfolding frames_of
frames-end events i rests first logs frames past is same =
    sym (append-nil frames)
    ∙ (ap (λ es. frames ++ frames_of es rests) (sym (dropped events i past))
    ∙ (is ∙ ap (λ ls. frames_of events ls) same))
