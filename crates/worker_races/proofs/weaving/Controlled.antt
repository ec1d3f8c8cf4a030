-- What control did by itself is in order by the places, and all that a race asks of it follows.
use Rattle.std.proofs.Common.{◌<◌, ◌≤◌, ℕ, suc, Bool, true, false, cond, eqb, List, [], ◌∷◌, ◌++◌, map, arith}
use Rattle.lan_base.specs.declared.association_number.AssociationNumber.{AssociationNumber}
use Rattle.std.specs.List.{AllByRecursion}
use Rattle.std.proofs.lemmas.Bool.{cases_eq}
use Rattle.std.proofs.Common.{inl, inr}
use Rattle.lan_base.specs.declared.frame.UserFrame.{UserFrame}
use Rattle.lan_core.specs.declared.settings.Settings.{Settings}
use Rattle.lan_core.specs.Run.{Run}
use Rattle.lan_core.specs.Legal.{IsLegal}
use Rattle.lan_core.proofs.Public.{stays-excused}
use Rattle.std.specs.List.Sorted.{IsNonDecreasingBy}
use Rattle.worker_races.specs.merge.Places.{Move, Attempt, place}
use Rattle.worker_races.specs.merge.Marks.{Mark, Control, Claim}
use Rattle.worker_races.specs.merge.Merged.{Before, IsFit, AllPairs, InLog, numbered, merged, sooner, entries_of}
use Rattle.worker_races.specs.merge.inside.Ordered.{AreInOrder, IsControl, next as next_in, settled as settled_in}
use Rattle.worker_races.specs.merge.Raced.{AreMoves, before_of, IsAttempt, IsRaced, woven}
use Rattle.worker_races.proofs.weaving.Stable.{each-append, each-in_order}
use Rattle.worker_races.proofs.weaving.FromLegal.{next_keeps, grow_from, keeps_from, later_from}
use Rattle.worker_races.proofs.weaving.Woven.{woven_control}
use Rattle.worker_races.proofs.weaving.Legal as places
use Rattle.worker_races.proofs.weaving.Stepped.{Agrees, agrees-nil, agrees-control, in-order-control, settled-low}
use Rattle.worker_races.proofs.weaving.Lawful.{EachClaim, IsGood, ahead_of, woven-legal}

settled_keeps : (s e r d : ℕ) → d ≤ r → (past : List Mark) → d ≤ settled_in s e r d past
unfolding settled_in
settled_keeps s e r d low [] = omega arith
settled_keeps s e r d low (Claim x ∷ past) = settled_keeps s e r d low past
settled_keeps s e r d low (Control n m ∷ past) = go (eqb m.station s) (settled_keeps s e r d low past) (next_keeps s e r (Control n m ∷ past))
  where
    go : (b : Bool) → d ≤ settled_in s e r d past → r ≤ next_in s e r (Control n m ∷ past)
        → d ≤ cond b (next_in s e r (Control n m ∷ past)) (settled_in s e r d past)
    go true before above = omega (arith, low, above)
    go false before above = before

first_from : (R : Before) → ((s e : ℕ) → R.settled_of s e ≤ R.next_of s e) → (n : ℕ) (ms : List Move) (past : List Mark)
    → AreInOrder R past (numbered n ms) → AllByRecursion (λ m. 0 < m.shown → R.settled_of m.station m.before ≤ m.shown) ms
unfolding numbered
first_from R low n [] past order = tt
first_from R low n (m ∷ ms) past order = (here, first_from R low (suc n) ms (Control n m ∷ past) order.1)
  where
    here : 0 < m.shown → R.settled_of m.station m.before ≤ m.shown
    here some = elim (cases_eq m.after m.before) [
      | inl same ↦ (let a = order.0.1 some same in
          let b = next_keeps m.station m.before (R.next_of m.station m.before) past in
          let c = low m.station m.before in omega (arith, a, b, c))
      | inr other ↦ (let a = order.0.2 some other in
          let b = settled_keeps m.station m.before (R.next_of m.station m.before) (R.settled_of m.station m.before) (low m.station m.before) past in
          omega (arith, a, b))
    ]

module _ (settings : Settings) (users : List UserFrame) (base : ℕ) (ans : ℕ → ℕ → AssociationNumber) (pointed : ℕ → ℕ) (r : Run) where
  in-order-alone : (k : ℕ) (ms : List Move) (past : List Mark) (c : Run) → AreMoves settings users ans c ms
      → Agrees settings r past c c → AreInOrder (before_of settings pointed r) past (numbered k ms)
  unfolding numbered
  in-order-alone k [] past c moves a = tt
  in-order-alone k (m ∷ ms) past c moves a = (
    in-order-control settings users base ans r pointed past (numbered (suc k) ms) c k m a moves.0,
    in-order-alone (suc k) ms (Control k m ∷ past) (m.x ∷ c) moves.2
        (agrees-control settings users base ans r past c c k m a moves.0),
  )

  pub control-of : (ms : List Move) (logs : List (List Attempt)) → IsRaced settings users base ans pointed r ms logs
      → IsControl (before_of settings pointed r) ms
  control-of ms logs race =
      let order = in-order-alone 0 ms [] r race.moves (agrees-nil settings r) in
      let R = before_of settings pointed r in
      record {
        follows = race.follows;
        pointed = race.low;
        grow = grow_from R 0 ms [] order;
        keeps = keeps_from R 0 ms [] order;
        first = first_from R (λ s e. settled-low settings s e r) 0 ms [] order;
        later = later_from R 0 ms [] order;
      }

  -- ---- the claims of all logs

  pub each-entry : (P : Attempt → Type 0) (logs : List (List Attempt)) → AllByRecursion (AllByRecursion P) logs → AllByRecursion P (entries_of logs)
  unfolding entries_of
  each-entry P [] h = tt
  each-entry P (log ∷ logs) h = each-append P log (entries_of logs) h.0 (each-entry P logs h.1)

  each-good : (ms : List Move) (es : List Attempt) → AllByRecursion (IsAttempt users base ans r) es
      → AllByRecursion (IsFit (before_of settings pointed r) ms) es
      → AllByRecursion (EachClaim (IsGood settings users base ans pointed r)) (map Claim es)
  each-good ms [] claims fit = tt
  each-good ms (x ∷ es) claims fit = ((claims.0, λ taken. (fit.0.lives taken).0), each-good ms es claims.1 fit.1)

  each-numbered : (n : ℕ) (ms : List Move) (zs : List Mark)
      → AllByRecursion (EachClaim (IsGood settings users base ans pointed r)) zs
      → AllByRecursion (EachClaim (IsGood settings users base ans pointed r)) (numbered n ms ++ zs)
  unfolding numbered
  each-numbered n [] zs h = h
  each-numbered n (m ∷ ms) zs h = (tt, each-numbered (suc n) ms zs h)

  pub all-good : (ms : List Move) (logs : List (List Attempt)) → IsRaced settings users base ans pointed r ms logs
      → AllByRecursion (EachClaim (IsGood settings users base ans pointed r)) (merged ms (entries_of logs))
  all-good ms logs race =
      each-in_order (sooner ms) (EachClaim (IsGood settings users base ans pointed r)) _
      (each-numbered 0 ms (map Claim (entries_of logs))
      (each-good ms (entries_of logs) (each-entry _ logs race.claims) (each-entry _ logs race.fit)))

  -- The run with the merged list of a race behind it is legal.
  pub race-legal : (ms : List Move) (logs : List (List Attempt)) → IsRaced settings users base ans pointed r ms logs
      → IsLegal settings users (woven settings base (merged ms (entries_of logs)) r)
  race-legal ms logs race =
      let R = before_of settings pointed r in
      let control = control-of ms logs race in
      let es = entries_of logs in
      woven-legal settings users base ans pointed r (merged ms es) [] r r 0 ms
      (woven_control R ms control es) race.moves race.shows (agrees-nil settings r) race.setting race.within
      race.legal.stepped (stays-excused settings (ahead_of (merged ms es)) r race.legal.excused) (all-good ms logs race)
      (places.legal R ms control es (each-entry _ logs race.fit) race.differ)

  rises-each : (ms : List Move) (control : IsControl (before_of settings pointed r) ms) (logs : List (List Attempt))
      → AllByRecursion (AllByRecursion (IsFit (before_of settings pointed r) ms)) logs → AllByRecursion (AllPairs InLog) logs
      → AllByRecursion (IsNonDecreasingBy (λ x. place x ms)) logs
  rises-each ms control [] fit up = tt
  rises-each ms control (log ∷ logs) fit up =
      (places.log_rises (before_of settings pointed r) ms control log fit.0 up.0, rises-each ms control logs fit.1 up.1)

  -- Along each log of a race the places never fall.
  pub race-rises : (ms : List Move) (logs : List (List Attempt)) → IsRaced settings users base ans pointed r ms logs
      → AllByRecursion (IsNonDecreasingBy (λ x. place x ms)) logs
  race-rises ms logs race = rises-each ms (control-of ms logs race) logs race.fit race.in_log
