-- A race that meets the premises of the laws, and is thrifty. Two stations have a key, and the first one transmits
-- under it. In the race the second one begins it too. A worker of the first claims two numbers; one
-- of the second is refused before the key begins there, and then gets a number.
use Rattle.std.proofs.Common.{◌≡◌, ◌⊎◌, ◌<◌, ◌≤◌, ◌+◌, ℕ, zero, suc, true, List, [], ◌∷◌, ◌++◌, length}
use Rattle.std.proofs.Common.{refl, sym, ap, ◌∙◌, subst, arith, inl, inr, Option, Some, None}
use Rattle.std.proofs.Common.{◌-◌, ◌==◌, Bool, false, cond, filter, if◌then◌else◌, map}
use Rattle.std.specs.List.{AllByRecursion, range_with_len}
use Rattle.lan_base.specs.declared.association_number.AssociationNumber.{AssociationNumber}
use Rattle.lan_base.specs.declared.association_number.AssociationNumber.TheVariants.{An0}
use Rattle.lan_base.specs.declared.frame.UserFrame.{UserFrame}
use Rattle.sak_exchange.specs.declared.held_key.Key.{Key}
use Rattle.sak_exchange.specs.Histories.{has_begun}
use Rattle.packet_claims.specs.declared.answers.NoClaim.TheVariants.{NoKey}
use Rattle.data_workers.specs.declared.entry.Entry.{Entry}
use Rattle.data_workers.specs.declared.entry.Entry.TheVariants.{Taken, Refused}
use Rattle.lan_core.specs.declared.event.Event.TheVariants as events
use Rattle.lan_core.specs.declared.fact.Fact.TheVariants as facts
use Rattle.lan_core.specs.Run.{Run, Happening, happened, stations}
use Rattle.lan_core.specs.Lives.{keys_in, transmitting_at}
use Rattle.lan_core.specs.Claims.{next, user_at}
use Rattle.lan_core.specs.Expected.{lack, number_fact}
use Rattle.lan_core.specs.Order.{Exists, IsSendable}
use Rattle.lan_core.specs.Legal.{IsLegal, IsStepped, IsThrifty, is_unused, none_ahead, unused}
use Rattle.lan_core.proofs.Public.{legal-more}
use Rattle.group_safety.proofs.Public.{opens, transmitting-last}
use Rattle.group_safety.proofs.Public.{settings, users, first_key, r11, r12, l11, l12, both, a-user}
use Rattle.group_safety.proofs.Public.{most_next, next-most, v11, v12}
use Rattle.worker_races.specs.merge.Places.{Move, Attempt, Lives}
use Rattle.worker_races.specs.merge.Marks.{Mark, Control, Claim}
use Rattle.worker_races.specs.merge.Merged.{AllPairs, Differ, InLog, IsFit, entries_of, merged, numbered, sooner}
use Rattle.worker_races.specs.merge.Raced.{epoch_at, epoch_of, standing_at, before_of, IsAttempt, IsRaced}
use Rattle.worker_races.specs.merge.Raced.{claim_after, user_of, woven}
use Rattle.worker_races.specs.merge.Steps.{attempt_of, logs_of}
use Rattle.worker_races.specs.merge.Given.{AreGiven, ArePerformed, AreUnder, IsPast}
use Rattle.worker_races.specs.merge.Table.{Controls, moves_at}
use Rattle.worker_races.proofs.weaving.FromRun.{in-life, positive}
use Rattle.worker_races.proofs.weaving.NoStation.{none-there}
use Rattle.worker_races.proofs.weaving.KeysMove.{last-began}
use Rattle.worker_races.proofs.weaving.GivenMoves.{moves-given, follows-all}
use Rattle.worker_races.proofs.weaving.Performed.{all-given}
use Rattle.worker_races.proofs.weaving.Stable.{each-in_order}

-- ---- the race

abbrev pub newest : Run → Happening
newest [] = happened events.Emit []
newest (x ∷ r) = x

-- each log has a user frame
abbrev pub twice : List UserFrame
twice = users ++ users

-- the second station begins the key
abbrev pub performed : Controls
performed = (1, newest r12) ∷ []

abbrev pub ans : ℕ → ℕ → AssociationNumber
ans s epoch = An0

abbrev pub pointed : ℕ → ℕ
pointed s = epoch_at settings s r11

abbrev pub moves : List Move
moves = moves_at settings pointed r11 performed

abbrev pub frame : ℕ → ℕ → Entry
frame s pn = Taken (record { station = s; an = An0; epoch = 1; pn = pn; octets = [] })

abbrev pub logs : List (List Entry)
logs = (frame 0 1 ∷ frame 0 2 ∷ []) ∷ (Refused 1 (NoKey 0) ∷ frame 1 1 ∷ []) ∷ []

-- ---- what transmits

alice-sends : transmitting_at settings 0 r11 ≡ Some first_key
unfolding opens
alice-sends = in-life settings 0 r11 (l11 0) (v11.living 0 (omega arith))

pub bob-waits : transmitting_at settings 1 r11 ≡ None
unfolding opens
bob-waits = in-life settings 1 r11 (l11 1) (v11.living 1 (omega arith))

alice-goes-on : transmitting_at settings 0 r12 ≡ Some first_key
unfolding opens
alice-goes-on = in-life settings 0 r12 (l12 0) (v12.living 0 (omega arith))

pub bob-sends : transmitting_at settings 1 r12 ≡ Some first_key
unfolding opens
bob-sends = in-life settings 1 r12 (l12 1) (v12.living 1 (omega arith))

nobody-else : (n : ℕ) (r : Run) → IsStepped settings users r → stations r ≡ both
    → transmitting_at settings (suc (suc n)) r ≡ None
nobody-else n r stepped there =
    rw (none-there settings users (suc (suc n)) r stepped
    (subst (λ ps. length ps ≤ suc (suc n)) (sym there) (omega arith))) refl

an-of-first : (k : Key) → Some first_key ≡ Some k → k.an ≡ An0
an-of-first k is = let same : first_key ≡ k = cc is in ap (λ (w : Key). w.an) (sym same)

under-before : AreUnder settings ans r11
under-before zero k is = an-of-first k (sym alice-sends ∙ is)
under-before (suc zero) k is = absurd (cc (sym bob-waits ∙ is))
under-before (suc (suc n)) k is = absurd (cc (sym (nobody-else n r11 v11.stepped v11.there) ∙ is))

under-after : AreUnder settings ans r12
under-after zero k is = an-of-first k (sym alice-goes-on ∙ is)
under-after (suc zero) k is = an-of-first k (sym bob-sends ∙ is)
under-after (suc (suc n)) k is = absurd (cc (sym (nobody-else n r12 v12.stepped v12.there) ∙ is))

-- what transmits is of the last epoch that began
past-now : (s : ℕ) (r : Run) → IsPast settings s r (epoch_at settings s r)
past-now s r l living = go (transmitting_at settings s r) refl
  where
    go : (o : Option Key) → transmitting_at settings s r ≡ o
        → (epoch_of o ≤ l.member.base) ⊎ (has_begun (keys_in l) (epoch_of o) ≡ true)
    go None is = inl (omega arith)
    go (Some k) is = inr (last-began (keys_in l) k.epoch
        (transmitting-last (keys_in l) k (sym (in-life settings s r l living) ∙ is)).0)

-- ---- control

pub legal-before : IsLegal settings twice r11
legal-before = legal-more settings users users r11 (record { stepped = v11.stepped; excused = v11.excused none_ahead })

pub legal-after : IsLegal settings twice r12
legal-after = legal-more settings users users r12 (record { stepped = v12.stepped; excused = v12.excused none_ahead })

are-performed : ArePerformed settings twice ans r11 performed
are-performed = (legal-after.stepped.0, refl, under-after, tt)

given : AreGiven settings twice ans r11 moves
given = all-given settings twice ans pointed r11 performed legal-before.stepped are-performed

-- ---- logs

there-before : (s : ℕ) → s < 2 → Exists s r11
there-before s less = subst (λ ps. s < length ps) (sym v11.there) less

attempt-taken : (s pn log : ℕ) → s < 2 → log < 2 → 1 ≤ pn → pn ≤ 2 → IsSendable (user_at twice (0 + log + 1))
    → IsAttempt twice 0 ans r11 (attempt_of log (frame s pn))
attempt-taken s pn log there few low high sendable = record {
  there = there-before s there;
  place = omega (arith, there);
  user = omega (arith, few);
  sendable = sendable;
  taken = λ t. (low, omega (arith, high), refl);
  none = λ t. absurd (cc t);
}

attempt-refused : IsAttempt twice 0 ans r11 (attempt_of 1 (Refused 1 (NoKey 0)))
attempt-refused = record {
  there = there-before 1 (omega arith);
  place = omega arith;
  user = omega arith;
  sendable = a-user;
  taken = λ t. absurd (cc t);
  none = λ t. refl;
}

fit-taken : (s pn log : ℕ) → Lives s (standing_at settings s (pointed s) r11) 1 moves → 1 ≤ pn
    → IsFit (before_of settings pointed r11) moves (attempt_of log (frame s pn))
fit-taken s pn log lives low = record {
  lives = λ t. (omega arith, lives);
  above = λ t. (let most : next settings s 1 r11 ≤ most_next r11 = next-most s 1 r11 in
      let one : most_next r11 ≡ 1 = refl in omega (arith, most, one, low));
  noted = λ t. absurd (cc t);
}

fit-refused : IsFit (before_of settings pointed r11) moves (attempt_of 1 (Refused 1 (NoKey 0)))
fit-refused = record {
  lives = λ t. absurd (cc t);
  above = λ t. absurd (cc t);
  noted = λ t. (let none : epoch_at settings 1 r11 ≡ 0 = ap epoch_of bob-waits in
      (omega (arith, none), inl (none, none)));
}

alice-lives : Lives 0 (standing_at settings 0 (pointed 0) r11) 1 moves
alice-lives = inl (ap epoch_of alice-sends)

bob-lives : Lives 1 (standing_at settings 1 (pointed 1) r11) 1 moves
bob-lives = inr (inl (refl, ap epoch_of bob-sends))

alice-in-log : InLog (attempt_of 0 (frame 0 1)) (attempt_of 0 (frame 0 2))
alice-in-log = record {
  station = refl;
  log = refl;
  taken_taken = λ a b. inr (refl, omega arith);
  taken_refused = λ a b. absurd (cc b);
  refused_taken = λ a b. absurd (cc a);
  refused_refused = λ a b. absurd (cc a);
}

bob-in-log : InLog (attempt_of 1 (Refused 1 (NoKey 0))) (attempt_of 1 (frame 1 1))
bob-in-log = record {
  station = refl;
  log = refl;
  taken_taken = λ a b. absurd (cc a);
  taken_refused = λ a b. absurd (cc a);
  refused_taken = λ a b. omega arith;
  refused_refused = λ a b. absurd (cc b);
}

all-differ : AllPairs Differ (entries_of (logs_of 0 logs))
unfolding entries_of
all-differ = (
  (
    (λ a b st ep pn. omega (arith, pn)),
    ((λ a b st ep pn. omega (arith, st)), ((λ a b st ep pn. omega (arith, st)), tt)),
  ),
  (
    ((λ a b st ep pn. omega (arith, st)), ((λ a b st ep pn. omega (arith, st)), tt)),
    (((λ a b st ep pn. absurd (cc a)), tt), (tt, tt)),
  ),
)

-- ---- all premises

pub raced : IsRaced settings twice 0 ans pointed r11 moves (logs_of 0 logs)
raced = record {
  setting = v11.stepped.0.setting;
  within = v11.stepped.0.within;
  legal = legal-before;
  shows = λ s k is. (positive settings twice s r11 k legal-before.stepped is, under-before s k is);
  moves = moves-given settings twice ans r11 moves legal-before.stepped given;
  follows = λ s. follows-all settings twice ans s (pointed s) r11 moves legal-before.stepped given
      (past-now s r11) (omega arith);
  low = λ s. omega arith;
  claims = (
    (
      attempt-taken 0 1 0 (omega arith) (omega arith) (omega arith) (omega arith) a-user,
      (attempt-taken 0 2 0 (omega arith) (omega arith) (omega arith) (omega arith) a-user, tt),
    ),
    (
      (
        attempt-refused,
        (attempt-taken 1 1 1 (omega arith) (omega arith) (omega arith) (omega arith) a-user, tt),
      ),
      tt,
    ),
  );
  fit = (
    (fit-taken 0 1 0 alice-lives (omega arith), (fit-taken 0 2 0 alice-lives (omega arith), tt)),
    ((fit-refused, (fit-taken 1 1 1 bob-lives (omega arith), tt)), tt),
  );
  in_log = (((alice-in-log, tt), (tt, tt)), (((bob-in-log, tt), (tt, tt)), tt));
  logged = ((refl, (refl, tt)), ((refl, (refl, tt)), tt));
  differ = all-differ;
}

-- ---- it is thrifty

few-pass : (test : ℕ → Bool) (from count : ℕ) → length (filter test (range_with_len from count)) ≤ count
few-pass test from zero = omega arith
few-pass test from (suc count) = go (test from) (few-pass test (from + 1) count)
  where
    others : List ℕ
    others = filter test (range_with_len (from + 1) count)

    go : (b : Bool) → length others ≤ count → length (cond b (from ∷ others) others) ≤ suc count
    go true less = omega (arith, less)
    go false less = omega (arith, less)

few-unused : (s epoch : ℕ) (r : Run) → most_next r ≤ 17 → unused settings s epoch r ≤ 16
few-unused s epoch r low =
    let most = next-most s epoch r in
    let few = few-pass (is_unused s epoch r) 1 (next settings s epoch r - 1) in
    omega (arith, most, low, few)

thrifty-low : (r : Run) → most_next r ≤ 17 → IsThrifty settings r
thrifty-low [] low = tt
thrifty-low (x ∷ r) low = ((λ s epoch. few-unused s epoch (x ∷ r) low), thrifty-low r (omega (arith, low)))

-- an event of control, or a claim, after which no next number is above 17
abbrev IsLow : Mark → Type 0
IsLow (Control n m) = most_next (m.x ∷ []) ≤ 17
IsLow (Claim x) = x.number ≤ 16

claim-low : (x : Attempt) (r : Run) → x.number ≤ 16 → most_next r ≤ 17 → most_next (claim_after settings 0 x r ∷ r) ≤ 17
claim-low x r few low = go (x.number == 0) (transmitting_at settings x.station r)
  where
    go : (b : Bool) (o : Option Key)
        → most_next (happened (events.Claim x.station (user_of 0 x) x.number)
        ((if b then facts.Unclaimed x.station (lack settings x.station r o) else number_fact x.station x.number o) ∷ []) ∷ r) ≤ 17
    go true o = omega (arith, low)
    go false None = omega (arith, low)
    go false (Some k) = omega (arith, low, few)

woven-low : (zs : List Mark) (r : Run) → AllByRecursion IsLow zs → most_next r ≤ 17 → most_next (woven settings 0 zs r) ≤ 17
woven-low [] r lows low = low
woven-low (Control n m ∷ zs) r lows low = woven-low zs (m.x ∷ r) lows.1 (let one = lows.0 in omega (arith, low, one))
woven-low (Claim x ∷ zs) r lows low =
    woven-low zs (claim_after settings 0 x r ∷ r) lows.1 (claim-low x r lows.0 low)

marks-low : AllByRecursion IsLow (numbered 0 moves ++ map Claim (entries_of (logs_of 0 logs)))
unfolding numbered entries_of
marks-low = (omega arith, (omega arith, (omega arith, (omega arith, (omega arith, tt)))))

pub starts_thrifty : IsThrifty settings r11
starts_thrifty = thrifty-low r11 (let one : most_next r11 ≡ 1 = refl in omega (arith, one))

pub ends_thrifty : (s epoch : ℕ)
    → unused settings s epoch (woven settings 0 (merged moves (entries_of (logs_of 0 logs))) r11) ≤ 16
ends_thrifty s epoch = few-unused s epoch _ (woven-low (merged moves (entries_of (logs_of 0 logs))) r11
    (each-in_order (sooner moves) IsLow _ marks-low) (let one : most_next r11 ≡ 1 = refl in omega (arith, one)))
