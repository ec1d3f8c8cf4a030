-- The logs of workers fit a race, by what their seats did and what control knows once they were
-- told.
use Rattle.std.proofs.Common.{◌≡◌, ◌<◌, ◌≤◌, ◌+◌, ◌^◌, ◌==◌, ◌&&◌, ℕ, suc, false, cond, List, [], ◌∷◌, ◌++◌, map, refl, sym, ◌∙◌, subst, arith, inl, inr}
use Rattle.std.specs.List.{AllByRecursion}
use Rattle.std.proofs.lemmas.Bool.{eq-eqb, eqb-true, cases_Bool, cases_eq, cases_lt}
use Rattle.lan_base.specs.declared.association_number.AssociationNumber.{AssociationNumber}
use Rattle.lan_base.specs.declared.frame.Protected.{Protected}
use Rattle.lan_base.specs.declared.frame.UserFrame.{UserFrame}
use Rattle.association_slots.specs.declared.view.ControlView.{ControlView}
use Rattle.association_slots.specs.declared.view.Current.{Current}
use Rattle.association_slots.specs.declared.view.SeatView.{SeatView}
use Rattle.association_slots.specs.Views.{In, WasAbsent, one, present_at}
use Rattle.packet_claims.specs.declared.answers.NoClaim.TheVariants.{NoKey, Exhausted}
use Rattle.data_workers.specs.declared.entry.Entry.{Entry}
use Rattle.data_workers.specs.declared.entry.Entry.TheVariants.{Taken, Refused}
use Rattle.data_workers.specs.declared.sender.Sender.{Sender}
use Rattle.data_workers.specs.Logs.{IsEntry, IsProtectedBy, InOrder, Precedes}
use Rattle.data_workers.specs.Told.{IsToldEntry, IsToldFrame, times_taken}
use Rattle.lan_core.specs.declared.settings.Settings.{Settings}
use Rattle.lan_core.specs.Run.{Run}
use Rattle.lan_core.specs.Claims.{next, user_at}
use Rattle.lan_core.specs.Order.{Exists, IsSendable}
use Rattle.worker_races.specs.merge.Places.{Move, Attempt, Lives, Noted}
use Rattle.worker_races.specs.merge.Merged.{AllPairs, Differ, InLog, IsFit, entries_of}
use Rattle.worker_races.specs.merge.Raced.{IsAttempt, before_of, standing_at}
use Rattle.worker_races.specs.merge.Steps.{attempt_of, logs_of}
use Rattle.worker_races.specs.merge.Words.{told_in}
use Rattle.worker_races.specs.merge.Worked.{AreAns, BeganAfter, NoneExhausted, times_in, times_in_all}
use Rattle.worker_races.proofs.weaving.Words.{lives, noted}

-- ---- order in one log

none-tail : (x : Entry) (log : List Entry) → NoneExhausted (x ∷ log) → NoneExhausted log
none-tail (Taken p) log none = none
none-tail (Refused s (NoKey after)) log none = none
none-tail (Refused s (Exhausted epoch)) log none = absurd none

-- the station of an entry
abbrev IsAtStation : ℕ → Entry → Type 0
IsAtStation s (Taken p) = p.station ≡ s
IsAtStation s (Refused station why) = station ≡ s

at-station : (w : SeatView) (sender : Sender) (x : Entry) → IsEntry w sender x → IsAtStation sender.station x
at-station w sender (Taken p) is = is.of_station
at-station w sender (Refused s why) is = is.0

one-before : (u s : ℕ) (x y : Entry) → NoneExhausted (x ∷ []) → NoneExhausted (y ∷ []) → IsAtStation s x → IsAtStation s y → Precedes x y
    → InLog (attempt_of u x) (attempt_of u y)
one-before u s (Taken p) (Taken q) nx ny sx sy (low, up) = record {
  station = sy ∙ sym sx;
  log = refl;
  taken_taken = λ a b. elim (cases_eq q.epoch p.epoch) [
    | inl same ↦ inr (sym same, up same)
    | inr other ↦ inl (less p.epoch q.epoch low other)
  ];
  taken_refused = λ a b. absurd (cc b);
  refused_taken = λ a b. absurd (cc a);
  refused_refused = λ a b. absurd (cc a);
}
  where
    less : (m n : ℕ) → m ≤ n → (n ≡ m → ⊥) → m < n
    less m n low other = elim (cases_lt m n) [ inl l ↦ l | inr h ↦ absurd (other (omega (arith, low, h))) ]
one-before u s (Taken p) (Refused t why) nx ny sx sy (low, up) = record {
  station = sy ∙ sym sx;
  log = refl;
  taken_taken = λ a b. absurd (cc b);
  taken_refused = λ a b. low;
  refused_taken = λ a b. absurd (cc a);
  refused_refused = λ a b. absurd (cc a);
}
one-before u s (Refused t (NoKey after)) (Taken q) nx ny sx sy (low, up) = record {
  station = sy ∙ sym sx;
  log = refl;
  taken_taken = λ a b. absurd (cc a);
  taken_refused = λ a b. absurd (cc a);
  refused_taken = λ a b. up;
  refused_refused = λ a b. absurd (cc b);
}
one-before u s (Refused t (Exhausted epoch)) y nx ny sx sy before = absurd nx
one-before u s (Refused t (NoKey after)) (Refused v why) nx ny sx sy (low, up) = record {
  station = sy ∙ sym sx;
  log = refl;
  taken_taken = λ a b. absurd (cc a);
  taken_refused = λ a b. absurd (cc a);
  refused_taken = λ a b. absurd (cc b);
  refused_refused = λ a b. (low, refl);
}

none-head : (x : Entry) (log : List Entry) → NoneExhausted (x ∷ log) → NoneExhausted (x ∷ [])
none-head (Taken p) log none = tt
none-head (Refused s (NoKey after)) log none = tt
none-head (Refused s (Exhausted epoch)) log none = absurd none

all-before : (u : ℕ) (w : SeatView) (sender : Sender) (x : Entry) (log : List Entry) → NoneExhausted (x ∷ []) → NoneExhausted log
    → IsEntry w sender x → AllByRecursion (IsEntry w sender) log → AllByRecursion (Precedes x) log
    → AllByRecursion (InLog (attempt_of u x)) (map (attempt_of u) log)
all-before u w sender x [] nx none is are before = tt
all-before u w sender x (y ∷ log) nx none is are before = (
  one-before u sender.station x y nx (none-head y log none) (at-station w sender x is) (at-station w sender y are.0) before.0,
  all-before u w sender x log nx (none-tail y log none) is are.1 before.1,
)

pub log-in-order : (u : ℕ) (w : SeatView) (sender : Sender) (log : List Entry) → NoneExhausted log
    → AllByRecursion (IsEntry w sender) log → InOrder log → AllPairs InLog (map (attempt_of u) log)
log-in-order u w sender [] none are up = tt
log-in-order u w sender (x ∷ log) none are up =
    (all-before u w sender x log (none-head x log none) (none-tail x log none) are.0 are.1 up.0, log-in-order u w sender log (none-tail x log none) are.1 up.1)

-- ---- each attempt

module _ (users : List UserFrame) (base : ℕ) (ans : ℕ → ℕ → AssociationNumber) (r : Run) (u : ℕ) (w : SeatView) (sender : Sender) (c : ControlView)
    (there : Exists sender.station r) (place : sender.station < 2 ^ 8) (number : base + u + 1 < 2 ^ 32)
    (sendable : IsSendable (user_at users (base + u + 1))) (are : AreAns (ans sender.station) c.points) where
  one-attempt : (x : Entry) → IsEntry w sender x → IsToldEntry c sender x → IsAttempt users base ans r (attempt_of u x)
  one-attempt (Taken p) is told = record {
    there = subst (λ s. Exists s r) (sym is.of_station) there;
    place = subst (λ s. s < 2 ^ 8) (sym is.of_station) place;
    user = number;
    sendable = sendable;
    taken = λ taken. (
      is.range.0,
      (let high = is.range.1 in omega (arith, high)),
      subst (λ s. p.an ≡ ans s p.epoch) (sym is.of_station) (are p.an p.epoch told.pointed),
    );
    none = λ none. absurd (cc none);
  }
  one-attempt (Refused s why) is told = record {
    there = subst (λ s. Exists s r) (sym is.0) there;
    place = subst (λ s. s < 2 ^ 8) (sym is.0) place;
    user = number;
    sendable = sendable;
    taken = λ taken. absurd (cc taken);
    none = λ none. refl;
  }

  pub are-attempts : (log : List Entry) → AllByRecursion (IsEntry w sender) log → AllByRecursion (IsToldEntry c sender) log
      → AllByRecursion (IsAttempt users base ans r) (map (attempt_of u) log)
  are-attempts [] is told = tt
  are-attempts (x ∷ log) is told = (one-attempt x is.0 told.0, are-attempts log is.1 told.1)

-- ---- and where it can stand

module _ (settings : Settings) (ans : ℕ → AssociationNumber) (pointed : ℕ → ℕ) (r : Run) (ms : List Move) (old : List Current) (u : ℕ)
    (w : SeatView) (sender : Sender) (c : ControlView) (begins : BeganAfter settings ans sender.station (pointed sender.station) r old w.start)
    (words : c.points ≡ told_in ans sender.station (pointed sender.station) ms ++ old) (are : AreAns ans c.points) where
  taken-fits : (p : Protected) → p.station ≡ sender.station → IsProtectedBy w sender p → IsToldFrame c sender p → IsFit (before_of settings pointed r) ms (attempt_of u (Taken p))
  taken-fits p station is told = record {
    lives = λ taken. (
      is.loaded.0,
      subst (λ s. Lives s (standing_at settings s (pointed s) r) p.epoch ms) (sym station)
          (lives ans sender.station p.an p.epoch ms (standing_at settings sender.station (pointed sender.station) r) old
          begins.sends (begins.points_low p.an p.epoch) (subst (λ n. n ≤ p.epoch) begins.last is.start.0)
          (λ none. subst (λ n. n < p.epoch) begins.last (is.start.1 (begins.absent none)))
          (subst (In (present_at p.an p.epoch)) words told.pointed)),
    );
    above = λ taken. subst (λ s. next settings s p.epoch r ≤ p.pn) (sym station)
        (elim (begins.nexts p.epoch (subst (λ n. n ≤ p.epoch) begins.last is.start.0)
        (λ absent. subst (λ n. n < p.epoch) begins.last (is.start.1 absent))) [
          | inl first ↦ (let one = is.range.0 in omega (arith, first, one))
          | inr given ↦ (let f = given.0 in
              let not_below = (is.given f given.1).1 (given.2 ∙ sym (are p.an p.epoch told.pointed)) given.3 in
              let more = given.4 in omega (arith, not_below, more))
        ]);
    noted = λ refused. absurd (cc refused);
  }

  refused-fits : (s : ℕ) (after : ℕ) → s ≡ sender.station → w.start.last ≤ after → WasAbsent c.points after
      → IsFit (before_of settings pointed r) ms (attempt_of u (Refused s (NoKey after)))
  refused-fits s after station high absent = record {
    lives = λ taken. absurd (cc taken);
    above = λ taken. absurd (cc taken);
    noted = λ refused. subst (λ s. (pointed s ≤ after) × Noted s (standing_at settings s (pointed s) r) after ms) (sym station) (
      subst (λ n. n ≤ after) begins.last high,
      noted ans sender.station after ms (standing_at settings sender.station (pointed sender.station) r) old
          (begins.absent_low after) (subst (λ n. n ≤ after) begins.last high) (subst (λ ps. WasAbsent ps after) words absent),
    );
  }

  pub are-fit : (log : List Entry) → NoneExhausted log → AllByRecursion (IsEntry w sender) log → AllByRecursion (IsToldEntry c sender) log
      → AllByRecursion (IsFit (before_of settings pointed r) ms) (map (attempt_of u) log)
  are-fit [] none is told = tt
  are-fit (Taken p ∷ log) none is told = (taken-fits p is.0.of_station is.0 told.0, are-fit log none is.1 told.1)
  are-fit (Refused s (NoKey after) ∷ log) none is told = (refused-fits s after is.0.0 is.0.1.1 told.0.1, are-fit log none is.1 told.1)
  are-fit (Refused s (Exhausted epoch) ∷ log) none is told = absurd none

-- ---- no two are the same

-- how many attempts took this number of this epoch of a station
count_taken : ℕ → ℕ → ℕ → List Attempt → ℕ
count_taken s epoch pn [] = 0
count_taken s epoch pn (x ∷ xs) =
    cond x.refused 0 (one ((x.station == s) && ((x.epoch == epoch) && (x.number == pn)))) + count_taken s epoch pn xs

count-both : (s epoch pn : ℕ) (xs ys : List Attempt) → count_taken s epoch pn (xs ++ ys) ≡ count_taken s epoch pn xs + count_taken s epoch pn ys
unfolding count_taken
count-both s epoch pn [] ys = omega arith
count-both s epoch pn (x ∷ xs) ys = let rest = count-both s epoch pn xs ys in omega (arith, rest)

count-log : (s epoch pn u : ℕ) (log : List Entry) → count_taken s epoch pn (map (attempt_of u) log) ≡ times_in s epoch pn log
unfolding count_taken
count-log s epoch pn u [] = refl
count-log s epoch pn u (Taken p ∷ log) = let rest = count-log s epoch pn u log in omega (arith, rest)
count-log s epoch pn u (Refused t why ∷ log) = let rest = count-log s epoch pn u log in omega (arith, rest)

count-logs : (s epoch pn u : ℕ) (logs : List (List Entry)) → count_taken s epoch pn (entries_of (logs_of u logs)) ≡ times_in_all s epoch pn logs
unfolding entries_of count_taken
count-logs s epoch pn u [] = refl
count-logs s epoch pn u (log ∷ logs) =
    let both = count-both s epoch pn (map (attempt_of u) log) (entries_of (logs_of (suc u) logs)) in
    let here = count-log s epoch pn u log in
    let later = count-logs s epoch pn (suc u) logs in
    omega (arith, both, here, later)

counts : (x : Attempt) (s epoch pn : ℕ) → x.refused ≡ false → x.station ≡ s → x.epoch ≡ epoch → x.number ≡ pn
    → cond x.refused 0 (one ((x.station == s) && ((x.epoch == epoch) && (x.number == pn)))) ≡ 1
counts x s epoch pn taken a b c = rw (taken, eq-eqb x.station s a, eq-eqb x.epoch epoch b, eq-eqb x.number pn c) refl

one-differs : (x : Attempt) (xs : List Attempt) → ((s epoch pn : ℕ) → count_taken s epoch pn (x ∷ xs) ≤ 1) → AllByRecursion (Differ x) xs
unfolding count_taken
one-differs x [] few = tt
one-differs x (y ∷ xs) few = (
  λ a b s e n.
      let first = counts x x.station x.epoch x.number a refl refl refl in
      let second = counts y x.station x.epoch x.number b (sym s) (sym e) (sym n) in
      let most = few x.station x.epoch x.number in
      omega (arith, first, second, most),
  one-differs x xs (λ s epoch pn. let most = few s epoch pn in omega (arith, most)),
)

differ-all : (xs : List Attempt) → ((s epoch pn : ℕ) → count_taken s epoch pn xs ≤ 1) → AllPairs Differ xs
unfolding count_taken
differ-all [] few = tt
differ-all (x ∷ xs) few = (one-differs x xs few, differ-all xs (λ s epoch pn. let most = few s epoch pn in omega (arith, most)))

pub logs-differ : (logs : List (List Entry)) → ((s epoch pn : ℕ) → times_in_all s epoch pn logs ≤ 1)
    → AllPairs Differ (entries_of (logs_of 0 logs))
logs-differ logs few = differ-all (entries_of (logs_of 0 logs)) (λ s epoch pn. let is = count-logs s epoch pn 0 logs in let most = few s epoch pn in omega (arith, is, most))

-- what a log counts at its station, and at others
pub times-own : (w : SeatView) (sender : Sender) (epoch pn : ℕ) (log : List Entry) → AllByRecursion (IsEntry w sender) log
    → times_in sender.station epoch pn log ≡ times_taken epoch pn log
times-own w sender epoch pn [] are = refl
times-own w sender epoch pn (Taken p ∷ log) are =
    let here = eq-eqb p.station sender.station are.0.of_station in
    let rest = times-own w sender epoch pn log are.1 in
    rw (here, rest) refl
times-own w sender epoch pn (Refused s why ∷ log) are = times-own w sender epoch pn log are.1

pub times-other : (w : SeatView) (sender : Sender) (s epoch pn : ℕ) (log : List Entry) → (sender.station ≡ s → ⊥) → AllByRecursion (IsEntry w sender) log
    → times_in s epoch pn log ≡ 0
times-other w sender s epoch pn [] other are = refl
times-other w sender s epoch pn (Taken p ∷ log) other are =
    let rest = times-other w sender s epoch pn log other are.1 in
    elim (cases_Bool (p.station == s)) [
      | inl same ↦ absurd (other (sym are.0.of_station ∙ eqb-true p.station s same))
      | inr differs ↦ rw (differs, rest) refl
    ]
times-other w sender s epoch pn (Refused t why ∷ log) other are = times-other w sender s epoch pn log other are.1
