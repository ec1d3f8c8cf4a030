-- What control performed beside workers, and their logs, are a race.
use Rattle.std.proofs.Common.{false, ◌≡◌, ◌<◌, ◌≤◌, ◌+◌, ◌-◌, ◌^◌, ◌==◌, ◌&&◌, ℕ, zero, suc, Bool, true, not, cond, List, [], ◌∷◌, ◌++◌, length, map}
use Rattle.std.proofs.Common.{Some, None, refl, sym, ap, ◌∙◌, subst, arith, inl, inr, append-nil}
use Rattle.std.proofs.lemmas.Bool.{cases_Bool, cases_lt, eqb-true, eqb-false, ne_eqb}
use Rattle.std.proofs.lemmas.List.Elements.{recursion_from_All}
use Rattle.std.proofs.lemmas.Option.{slice_get_within}
use Rattle.std.specs.List.{AllByRecursion}
use Rattle.std.specs.Prelude.{slice_get, max, option_and_then, slice_index_or}
use Rattle.lan_base.specs.declared.association_number.AssociationNumber.{AssociationNumber}
use Rattle.lan_base.specs.declared.frame.UserFrame.{UserFrame}
use Rattle.sak_exchange.specs.Held.{transmitting}
use Rattle.association_slots.specs.Learned.{Learned}
use Rattle.association_slots.specs.Steps.{above_claims, least_next, start_of, told}
use Rattle.association_slots.specs.Views.{AllIn, ControlAt, In, count, claimed, current, lost, newest, present_at, slot, was_pointed}
use Rattle.association_slots.specs.declared.view.Addition.{Addition}
use Rattle.association_slots.specs.declared.view.ControlView.{ControlView}
use Rattle.association_slots.specs.declared.view.Current.{Current}
use Rattle.association_slots.specs.declared.view.Mark.{Mark}
use Rattle.association_slots.specs.declared.view.SeatView.{SeatView}
use Rattle.association_slots.proofs.Public.{in_left, in_right}
use Rattle.packet_claims.proofs.Public.{given_at, newest_pointed}
use Rattle.packet_claims.specs.declared.answers.NoClaim.TheVariants.{NoKey, Exhausted}
use Rattle.data_workers.specs.declared.entry.Entry.{Entry}
use Rattle.data_workers.specs.declared.entry.Entry.TheVariants.{Taken, Refused}
use Rattle.data_workers.specs.declared.sender.Sender.{Sender}
use Rattle.data_workers.specs.Told.{IsToldEntry}
use Rattle.data_workers.specs.Workers.{WorkerAt}
use Rattle.data_workers.proofs.Public.{log_counts, told_log}
use Rattle.lan_core.specs.declared.event.Event.{Event}
use Rattle.lan_core.specs.declared.event.Event.TheVariants as events
use Rattle.lan_core.specs.declared.settings.Settings.{Settings}
use Rattle.lan_core.specs.Run.{Run, stations}
use Rattle.lan_core.specs.Ledgers.{claims}
use Rattle.lan_core.specs.Lives.{keys_in, transmitting_at}
use Rattle.lan_core.specs.Claims.{user_at}
use Rattle.lan_core.specs.Legal.{IsStepped}
use Rattle.lan_core.specs.Order.{Exists, IsSendable}
use Rattle.group_safety.specs.Accounts.{account_at, numbers_at, onward}
use Rattle.group_safety.specs.Transmitting.{Carried, CarriesAt}
use Rattle.worker_races.specs.merge.Given.{AreGiven, AreUnder, IsPast}
use Rattle.worker_races.specs.merge.Given.{ArePerformed as AreGivenFor}
use Rattle.worker_races.specs.merge.Merged.{AllPairs, AreLogged, InLog, IsFit}
use Rattle.worker_races.specs.merge.Places.{Attempt, Follows, Move}
use Rattle.worker_races.specs.merge.Raced.{IsAttempt, IsRaced, before_of, epoch_at, epoch_of, standing_at}
use Rattle.worker_races.specs.merge.Steps.{AreRising, AreSteps, attempt_of, logs_of, moves_of}
use Rattle.worker_races.specs.merge.Table.{words_in}
use Rattle.worker_races.specs.merge.Worked.{AreAns, BeganAfter, IsGivenNext, NoneExhausted, times_in, times_in_all}
use Rattle.worker_races.proofs.weaving.Performed.{all-given, all-told}
use Rattle.worker_races.proofs.weaving.LogsFit.{are-attempts, are-fit, log-in-order}
use Rattle.worker_races.proofs.weaving.GivenMoves.{follows-all}
use Rattle.worker_races.proofs.weaving.LogsFit.{logs-differ, times-other, times-own}
use Rattle.worker_races.proofs.weaving.GivenMoves.{moves-given}
use Rattle.worker_races.proofs.weaving.NoStation.{none-there}
use Rattle.worker_races.proofs.weaving.FromRun.{positive}
use Rattle.worker_races.proofs.weaving.Recount.{rising}
use Rattle.station_words.specs.Seats.{AreAllIn}
use Rattle.station_words.specs.Telling.{CatchUp, KeepUp, OfSeats, least_under, of_seats}
use Rattle.station_words.specs.Ties.{HaveKeptUp, KeepAhead}
use Rattle.worker_races.specs.Beside.{Race, WereBeside, ans_in, attempts_in, logs_in, moves_in, pointed_in}
use Rattle.worker_races.specs.Performed.{happenings, run_after}
use Rattle.worker_races.specs.Reading.{view_in, view_at}
use Rattle.worker_races.specs.Senders.{IsNew}
use Rattle.station_words.specs.Seats.{is_out}
use Rattle.worker_races.proofs.BackIn.{out-joined, out-seated, same-number}
use Rattle.worker_races.proofs.Gone.{gone-at, some-at}
use Rattle.worker_races.proofs.Seating.{Shares, added, ahead-joined, all-came, all-took, grown-all, joined-all, kept-joined, seated-many, shares-all, told-counts, told_all}
use Rattle.worker_races.proofs.Hands.{AreHands, Hand, are-hands, entries-are}
use Rattle.worker_races.proofs.Pointing.{are-ans, epoch-low, epoch-none, epoch-shown, is-past, key-pointed}
use Rattle.worker_races.proofs.Spent.{added-few, none-over, numbers-few, told-few, took}
use Rattle.worker_races.proofs.Words.{given-for, moves-happen, performed-places, performed-stepped, performed-steps}

logged-one : (u : ℕ) (log : List Entry) → AllByRecursion (λ (x : Attempt). x.log ≡ u) (map (attempt_of u) log)
logged-one u [] = tt
logged-one u (Taken p ∷ log) = (refl, logged-one u log)
logged-one u (Refused s why ∷ log) = (refl, logged-one u log)

logged-all : (u : ℕ) (logs : List (List Entry)) → AreLogged u (logs_of u logs)
logged-all u [] = tt
logged-all u (log ∷ logs) = (logged-one u log, logged-all (suc u) logs)

module _ (race : Race) (is : WereBeside race) where
  abbrev settings : Settings
  settings = race.settings

  abbrev r : Run
  r = race.run

  abbrev on : Run
  on = run_after race.performed race.run

  abbrev ended : List WorkerAt
  ended = race.ended

  -- what control knew of a station before, and knows in the end
  abbrev old : ℕ → ControlView
  old s = view_at race.before s

  abbrev new : ℕ → ControlView
  new s = view_at race.after s

  pub stepped : IsStepped settings race.users r
  stepped = is.legal.stepped

  pub stepped-on : IsStepped settings race.users on
  stepped-on = performed-stepped settings race.users r race.performed race.steps stepped is.performed

  pub same-stations : stations on ≡ stations r
  same-stations = performed-places settings race.users r race.performed race.steps is.performed

  -- ---- the words

  -- of a station, before
  pub record Before (s : ℕ) : Type 0 where
    pub carried : Carried
    pub carries : CarriesAt settings s r carried
    pub up : CatchUp (account_at settings s r carried) (old s)

  pub before-at : (s : ℕ) → s < length (stations r) → Before s
  before-at s there =
      let some = some-at race.before s (let many = is.caught_up.many in omega (arith, there, many)) in
      let tie = is.caught_up.each s some.0 some.1 in
      record {
        carried = tie.0;
        carries = tie.1;
        up = subst (CatchUp (account_at settings s r tie.0)) (sym (ap view_in some.1)) tie.2;
      }

  pub up-after : race.looked ≡ race.moved → HaveKeptUp settings on race.after
  up-after same = kept-joined settings on ended race.looked race.after is.joined (subst (HaveKeptUp settings on) (sym same) is.keep_up)

  -- the tick with which the words were looked at last, if they were
  pub shown-last : (s : ℕ) × (n : ℕ) × KeepAhead settings on (events.Tick s n) race.looked
  shown-last = is.looked.shown settings on is.keep_up

  abbrev last : Event
  last = events.Tick shown-last.0 shown-last.1

  pub ahead-after : KeepAhead settings on (events.Tick shown-last.0 shown-last.1) race.after
  ahead-after = ahead-joined settings on on (events.Tick shown-last.0 shown-last.1) ended race.looked race.after is.joined shown-last.2

  pub many-after : length race.after ≡ length (stations r)
  many-after = ahead-after.many ∙ (ap length (append-nil (stations on)) ∙ ap length same-stations)

  -- and in the end
  pub record After (s : ℕ) : Type 0 where
    pub carried : Carried
    pub carries : CarriesAt settings s on carried
    pub up : KeepUp (onward s last (account_at settings s on carried)) (new s)

  pub after-at : (s : ℕ) → s < length (stations r) → After s
  after-at s there =
      let some = some-at race.after s (let many = many-after in omega (arith, there, many)) in
      let tie = ahead-after.each s some.0 some.1 in
      let view = sym (ap view_in some.1) in
      record {
        carried = tie.0;
        carries = tie.1;
        up = subst (KeepUp (onward s last (account_at settings s on tie.0))) view tie.2;
      }

  -- the last look told no word anything
  record Looked (s : ℕ) : Type 0 where
    pub points : (view_at race.looked s).points ≡ (view_at race.moved s).points
    pub seats : of_seats (view_at race.looked s) ≡ of_seats (view_at race.moved s)

  looked-at : (s : ℕ) → s < length (stations r) → Looked s
  looked-at s there =
      let some = some-at race.looked s (let many = is.looked.many in let up = is.keep_up.many in let same = ap length same-stations in omega (arith, there, many, up, same)) in
      let look = is.looked.each s some.0 some.1 in
      record {
        points = ap (λ o. (view_in o).points) some.1 ∙ (look.2 ∙ sym (ap (λ o. (view_in o).points) look.1));
        seats = ap (λ o. of_seats (view_in o)) some.1 ∙ (look.3 ∙ sym (ap (λ o. of_seats (view_in o)) look.1));
      }

  -- what the words were told, and what control was told of additions
  pub record Between (s : ℕ) : Type 0 where
    pub points : (new s).points ≡ words_in settings s (pointed_in race s) r race.performed ++ (old s).points
    pub counts : (p : Addition → Bool) → count p (new s).told ≡ added p s ended + count p (old s).told
    pub all_in : AllIn (new s)

  pub between-at : (s : ℕ) → s < length (stations r) → Between s
  between-at s there =
      let before = before-at s there in
      let keep = before.up.keep_up in
      let shares : Shares (old s) (view_at race.shared s) = shares-all race.began race.before race.shared is.seated s in
      let top : (current (view_at race.shared s)).epoch ≡ pointed_in race s = ap (λ (v : ControlView). (current v).epoch) shares in
      let gone = gone-at settings race.users s r race.performed race.steps race.shared race.moved there
      (seated-many race.began race.before race.shared is.seated ∙ is.caught_up.many) stepped is.performed
      (subst (IsPast settings s r) (sym top) (is-past settings s r before.carried (old s) before.carries keep))
      (subst (λ n. epoch_at settings s r ≤ n) (sym top) (epoch-low settings s r before.carried (old s) before.carries keep)) is.gone in
      let look = looked-at s there in
      let seats : of_seats (view_at race.looked s) ≡ of_seats (view_at race.shared s) = look.seats ∙ gone.seats in
      let joined : new s ≡ told_all s ended (view_at race.looked s) = joined-all settings on ended race.looked race.after is.joined s in
      let grown = grown-all s ended (view_at race.looked s) in
      record {
        points = ap (λ (v : ControlView). v.points) joined ∙ (grown.points ∙ (look.points ∙ (gone.points
            ∙ (λ i. words_in settings s (current (shares i)).epoch r race.performed ++ (shares i).points))));
        counts = λ p. ap (λ (v : ControlView). count p v.told) joined ∙ (told-counts p s ended (view_at race.looked s)
            ∙ ap (λ (xs : List Addition). added p s ended + count p xs)
            (ap (λ (o : OfSeats). o.told) seats ∙ ap (λ (v : ControlView). v.told) shares));
        all_in = λ i. elim (cases_Bool (is_out (new s) i)) [
          | inr back ↦ back
          | inl out ↦ absurd (let back = out-joined s i ended (view_at race.looked s) (sym (ap (λ (v : ControlView). is_out v i) joined) ∙ out) in
              let then = sym (ap (λ (o : OfSeats). slice_index_or o.out i false) seats) ∙ back.1 in
              elim (out-seated s i race.began race.before race.shared is.seated then) [
                | inl has ↦ back.0 (same-number s i race.began ended is.done (recursion_from_All IsNew race.began is.new) has)
                | inr was ↦ cc (sym was ∙ before.up.all_in i)
              ])
        ];
      }

  pub all-back : AreAllIn race.after
  all-back s c at =
      let there : s < length (stations r) =
      (let less = slice_get_within race.after s c at in let many = many-after in omega (arith, less, many)) in
      subst AllIn (ap view_in at) (between-at s there).all_in

  -- ---- the workers

  pub hands : AreHands race.users r race.before race.after (race.base + 1) ended
  hands = are-hands race.users r race.before race.after (race.base + 1) race.began ended is.done
      (recursion_from_All IsNew race.began is.new)
      (all-took race.before race.began race.before race.shared (λ t. refl) is.seated) is.senders
      (all-came settings on ended race.looked race.after is.joined)

  pub hand-there : (number : ℕ) (d : WorkerAt) → Hand race.users r race.before race.after number d → Exists d.sender.station r
  hand-there number d hand = slice_get_within (stations r) d.sender.station hand.sender.profile hand.sender.placed

  -- how many entries took a number
  times-one : (number s e pn : ℕ) (d : WorkerAt) → Hand race.users r race.before race.after number d
      → times_in s e pn d.log ≡ cond (d.sender.station == s) (count (claimed e pn) d.seat.view.additions) 0
  times-one number s e pn d hand = elim (cases_Bool (d.sender.station == s)) [
    | inl same ↦ (let counts = log_counts hand.began.seat.view d.seat.view d.sender d.log hand.log e pn in
        let none = ap (λ (v : SeatView). count (claimed e pn) v.additions) hand.took.is in
        let own = times-own d.seat.view d.sender e pn d.log hand.log.entries in
        let at : times_in s e pn d.log ≡ times_in d.sender.station e pn d.log = ap (λ n. times_in n e pn d.log) (sym (eqb-true d.sender.station s same)) in
        rw same (omega (arith, counts, none, own, at)))
    | inr other ↦ rw other (times-other d.seat.view d.sender s e pn d.log (eqb-false d.sender.station s other) hand.log.entries)
  ]

  pub times-all : (number s e pn : ℕ) (ds : List WorkerAt) → AreHands race.users r race.before race.after number ds
      → times_in_all s e pn (map (λ (w : WorkerAt). w.log) ds) ≡ added (claimed e pn) s ds
  unfolding added
  times-all number s e pn [] are = refl
  times-all number s e pn (d ∷ ds) are =
      let one = times-one number s e pn d are.0 in
      let rest = times-all (suc number) s e pn ds are.1 in
      omega (arith, one, rest)

  added-none : (p : Addition → Bool) (number s : ℕ) (ds : List WorkerAt) → length (stations r) ≤ s
      → AreHands race.users r race.before race.after number ds → added p s ds ≡ 0
  unfolding added
  added-none p number s [] past are = refl
  added-none p number s (d ∷ ds) past are =
      let rest = added-none p (suc number) s ds past are.1 in
      let other = ne_eqb d.sender.station s (λ same. let there = hand-there number d are.0 in omega (arith, there, past, same)) in
      rw other (omega (arith, rest))

  times-few : (s e pn : ℕ) → times_in_all s e pn (logs_in race) ≤ 1
  times-few s e pn = let all = times-all (race.base + 1) s e pn ended hands in elim (cases_lt s (length (stations r))) [
    | inl there ↦ (let counts = (between-at s there).counts (claimed e pn) in
        let once = (after-at s there).up.learned.differ e pn in omega (arith, all, counts, once))
    | inr past ↦ (let none = added-none (claimed e pn) (race.base + 1) s ended past hands in omega (arith, all, none))
  ]

  -- ---- no entry says that an epoch has no number left

  module _ (lost_few : (c : ControlView) → Learned c → (an : AssociationNumber) (epoch : ℕ) → count (lost an epoch) c.told ≤ 16) where
    no-mark : (s : ℕ) (m : Mark) → s < length (stations r) → In m (new s).told_over → ⊥
    no-mark s m there told =
        let after = after-at s there in
        let before = before-at s there in
        let counts = (between-at s there).counts (took m.epoch) in
        let logs = added-few race.users r race.before race.after m.epoch s (race.base + 1) ended hands in
        let jobs = entries-are race.began ended is.done (recursion_from_All IsNew race.began is.new) in
        let few = told-few m.epoch (old s).told (numbers_at s (claims r))
        (λ q. let same = before.up.claims m.epoch q in omega (arith, same)) in
        let numbers = numbers-few s m.epoch (claims r) in
        let all = is.claims_few in
        none-over (new s) m after.up.learned (between-at s there).all_in after.up.first
        (lost_few (new s) after.up.learned m.an m.epoch)
        (omega (arith, counts, logs, jobs, few, numbers, all)) told

    none-in : (c : ControlView) (sender : Sender) (log : List Entry) → AllByRecursion (IsToldEntry c sender) log
        → ((m : Mark) → In m c.told_over → ⊥) → NoneExhausted log
    none-in c sender [] told none = tt
    none-in c sender (Taken p ∷ log) told none = none-in c sender log told.1 none
    none-in c sender (Refused s (NoKey after) ∷ log) told none = none-in c sender log told.1 none
    none-in c sender (Refused s (Exhausted epoch) ∷ log) told none = none told.0.1.0 told.0.1.1

    pub none-exhausted : (number : ℕ) (d : WorkerAt) → Hand race.users r race.before race.after number d → NoneExhausted d.log
    none-exhausted number d hand =
        none-in (told hand.came.view d.seat.view) d.sender d.log
        (told_log d.sender d.seat.view hand.came.view hand.came.learned hand.began.seat.view d.log hand.log)
        (λ m i. no-mark d.sender.station m (hand-there number d hand) (hand.came.grown.over m i))

    logs-none : (number : ℕ) (ds : List WorkerAt) → AreHands race.users r race.before race.after number ds
        → AllByRecursion NoneExhausted (map (λ (w : WorkerAt). w.log) ds)
    logs-none number [] are = tt
    logs-none number (d ∷ ds) are = (none-exhausted number d are.0, logs-none (suc number) ds are.1)

    pub none-of-race : AllByRecursion NoneExhausted (logs_in race)
    none-of-race = logs-none (race.base + 1) ended hands

  -- ---- control

  abbrev ans : ℕ → ℕ → AssociationNumber
  ans = ans_in race

  abbrev moves : List Move
  moves = moves_in race

  pub are-ans-at : (s : ℕ) → s < length (stations r) → AreAns (ans s) (new s).points
  are-ans-at s there = are-ans (new s) (after-at s there).up.learned.settled

  no-key : (s : ℕ) → length (stations r) ≤ s → transmitting_at settings s r ≡ None
  no-key s past = ap (option_and_then (λ l. transmitting (keys_in l))) (none-there settings race.users s r stepped past)

  under-before : AreUnder settings ans r
  under-before s k sends = elim (cases_lt s (length (stations r))) [
    | inr past ↦ absurd (cc (sym sends ∙ no-key s past))
    | inl there ↦ (let before = before-at s there in
        are-ans-at s there k.an k.epoch (subst (In (present_at k.an k.epoch)) (sym (between-at s there).points)
        (in_right (present_at k.an k.epoch) (words_in settings s (pointed_in race s) r race.performed) (old s).points
        (key-pointed settings s r before.carried (old s) before.carries before.up.keep_up k sends))))
  ]

  given-for-all : AreGivenFor settings race.users ans r race.performed
  given-for-all = given-for settings race.users ans (λ s. (new s).points) (length (stations r)) are-ans-at (pointed_in race) r
      race.performed race.steps refl stepped is.performed
      (λ s there p i. subst (In p) (sym (between-at s there).points) (in_left p _ (old s).points i)) under-before

  given : AreGiven settings race.users ans r moves
  given = all-given settings race.users ans (pointed_in race) r race.performed stepped given-for-all

  -- a place without a station
  view-out : (cs : List ControlAt) (s : ℕ) → length cs ≤ s → (current (view_at cs s)).epoch ≡ 0
  view-out [] s past = refl
  view-out (c ∷ cs) zero past = absurd (omega (arith, past))
  view-out (c ∷ cs) (suc s) past = view-out cs s (omega (arith, past))

  nothing-pointed : (s : ℕ) → length (stations r) ≤ s → pointed_in race s ≡ 0
  nothing-pointed s past = view-out race.before s (let many = is.caught_up.many in omega (arith, past, many))

  past-all : (s : ℕ) → IsPast settings s r (pointed_in race s)
  past-all s = elim (cases_lt s (length (stations r))) [
    | inl there ↦ (let before = before-at s there in is-past settings s r before.carried (old s) before.carries before.up.keep_up)
    | inr past ↦ subst (IsPast settings s r) (sym (nothing-pointed s past)) (λ l living. inl (omega arith))
  ]

  low-all : (s : ℕ) → epoch_at settings s r ≤ pointed_in race s
  low-all s = elim (cases_lt s (length (stations r))) [
    | inl there ↦ (let before = before-at s there in epoch-low settings s r before.carried (old s) before.carries before.up.keep_up)
    | inr past ↦ (let none = ap epoch_of (no-key s past) in omega (arith, none))
  ]

  goes : (s : ℕ) → Follows s (standing_at settings s (pointed_in race s) r) moves
  goes s = follows-all settings race.users ans s (pointed_in race s) r moves stepped given (past-all s) (low-all s)

  -- ---- what a seat was given

  was-given : (s : ℕ) → s < length (stations r) → (current (old s)).present ≡ true
      → IsGivenNext settings (ans s) s r (start_of (old s)) (current (old s)).epoch
  was-given s there present =
      let before = before-at s there in
      let up = before.up.keep_up in
      let c = old s in
      let an = (current c).an in
      let opened = up.open_now present in
      let pointed : was_pointed an (slot c an).epoch c.points ≡ true =
      subst (λ n. was_pointed an n c.points ≡ true) (sym opened.1) (newest_pointed c.points present) in
      let both : (not (slot c an).shut && was_pointed an (slot c an).epoch c.points) ≡ true =
      ap (λ b. not b && was_pointed an (slot c an).epoch c.points) opened.0 ∙ pointed in
      let least = (up.least present).1 in
      let above : least_under c (current c) ≤ (least_next c an).next =
      subst (λ n. max (slot c an).seen (above_claims n c.told) ≤ (least_next c an).next) opened.1 (omega arith) in
      inr (
        least_next c an,
        given_at c an both,
        are-ans-at s there an (current c).epoch (subst (In (present_at an (current c).epoch)) (sym (between-at s there).points)
            (in_right (present_at an (current c).epoch) (words_in settings s (pointed_in race s) r race.performed) c.points (newest-in c.points present))),
        opened.1,
        omega (arith, least, above),
      )
    where
      newest-in : (ps : List Current) → (newest ps).present ≡ true → In (present_at (newest ps).an (newest ps).epoch) ps
      newest-in [] some = absurd (cc some)
      newest-in (p ∷ ps) some = inl (λ i. record { epoch = p.epoch; present = some i; an = p.an })

  began-after : (s : ℕ) → s < length (stations r)
      → BeganAfter settings (ans s) s (pointed_in race s) r (old s).points (start_of (old s))
  began-after s there =
      let before = before-at s there in
      let up = before.up.keep_up in
      let settled = up.learned.settled in
      record {
        last = refl;
        absent = epoch-none settings s r before.carried (old s) before.carries up
            (λ key sends. positive settings race.users s r key stepped sends);
        sends = λ some. (epoch-shown settings s r before.carried (old s) before.carries up some).1;
        points_low = λ an e i. (settled.points_low (present_at an e) i).0;
        absent_low = λ e was. (
          (settled.absent_low e was).0,
          λ some. (settled.absent_low e was).1 (epoch-shown settings s r before.carried (old s) before.carries up some).0,
        );
        nexts = λ e high above. elim (cases_lt (current (old s)).epoch e) [
          | inl later ↦ inl (let first = up.later e later in omega (arith, first))
          | inr not ↦ (let same : (current (old s)).epoch ≡ e = omega (arith, high, not) in
              subst (IsGivenNext settings (ans s) s r (start_of (old s))) same (elim (cases_Bool (current (old s)).present) [
                | inl present ↦ was-given s there present
                | inr absent ↦ absurd (let less = above absent in omega (arith, less, not))
              ]))
        ];
      }

  -- ---- the logs

  user-low : (n : ℕ) (u : UserFrame) → user_at race.users n ≡ Some u → n ≤ length race.users
  user-low n u is = elim (cases_Bool (n == 0)) [
    | inl zero_is ↦ (let none = eqb-true n 0 zero_is in omega (arith, none))
    | inr some ↦ (let there : slice_get race.users (n - 1) ≡ Some u = rw some at is in
        let less = slice_get_within race.users (n - 1) u there in omega (arith, less))
  ]

  same-start : (number : ℕ) (d : WorkerAt) (hand : Hand race.users r race.before race.after number d)
      → d.seat.view.start ≡ start_of (old d.sender.station)
  same-start number d hand =
      hand.log.start ∙ (ap (λ (v : SeatView). v.start) hand.took.is ∙ (ap start_of hand.took.shares
      ∙ ap (λ (s : Sender). start_of (old s.station)) (sym hand.same)))

  module _ (none : (number : ℕ) (d : WorkerAt) → Hand race.users r race.before race.after number d → NoneExhausted d.log) where
    module _ (number u : ℕ) (d : WorkerAt) (hand : Hand race.users r race.before race.after number d) (at : number ≡ race.base + u + 1) where
      abbrev s : ℕ
      s = d.sender.station

      abbrev c : ControlView
      c = told hand.came.view d.seat.view

      there : s < length (stations r)
      there = hand-there number d hand

      known : AllByRecursion (IsToldEntry c d.sender) d.log
      known = told_log d.sender d.seat.view hand.came.view hand.came.learned hand.began.seat.view d.log hand.log

      same-points : c.points ≡ (new s).points
      same-points = sym hand.came.grown.points

      log-attempts : AllByRecursion (IsAttempt race.users race.base ans r) (map (attempt_of u) d.log)
      log-attempts = are-attempts race.users race.base ans r u d.seat.view d.sender c there
          (let few : length (stations r) ≤ 16 = is.within.stations in let less = there in omega (arith, few, less))
          (let low = user-low number d.sender.user hand.sender.user in let few = is.users_few in omega (arith, low, few, at))
          (subst (λ n. IsSendable (user_at race.users n)) at (subst IsSendable (sym hand.sender.user) hand.sender.sendable))
          (subst (AreAns (ans s)) (sym same-points) (are-ans-at s there)) d.log hand.log.entries known

      log-fits : AllByRecursion (IsFit (before_of settings (pointed_in race) r) moves) (map (attempt_of u) d.log)
      log-fits = are-fit settings (ans s) (pointed_in race) r moves (old s).points u d.seat.view d.sender c
          (subst (BeganAfter settings (ans s) s (pointed_in race s) r (old s).points) (sym (same-start number d hand)) (began-after s there))
          (same-points ∙ ((between-at s there).points ∙ ap (λ ws. ws ++ (old s).points)
          (sym (all-told settings race.users ans s (pointed_in race) r race.performed stepped given-for-all))))
          (subst (AreAns (ans s)) (sym same-points) (are-ans-at s there)) d.log (none number d hand) hand.log.entries known

      log-in-log : AllPairs InLog (map (attempt_of u) d.log)
      log-in-log = log-in-order u d.seat.view d.sender d.log (none number d hand) hand.log.entries hand.log.in_order

    at-next : (number u : ℕ) → number ≡ race.base + u + 1 → suc number ≡ race.base + suc u + 1
    at-next number u at = omega (arith, at)

    attempts-all : (number u : ℕ) (ds : List WorkerAt) → AreHands race.users r race.before race.after number ds
        → number ≡ race.base + u + 1
        → AllByRecursion (AllByRecursion (IsAttempt race.users race.base ans r)) (logs_of u (map (λ (w : WorkerAt). w.log) ds))
    attempts-all number u [] are at = tt
    attempts-all number u (d ∷ ds) are at =
        (log-attempts number u d are.0 at, attempts-all (suc number) (suc u) ds are.1 (at-next number u at))

    fits-all : (number u : ℕ) (ds : List WorkerAt) → AreHands race.users r race.before race.after number ds
        → number ≡ race.base + u + 1
        → AllByRecursion (AllByRecursion (IsFit (before_of settings (pointed_in race) r) moves)) (logs_of u (map (λ (w : WorkerAt). w.log) ds))
    fits-all number u [] are at = tt
    fits-all number u (d ∷ ds) are at =
        (log-fits number u d are.0 at, fits-all (suc number) (suc u) ds are.1 (at-next number u at))

    in-log-all : (number u : ℕ) (ds : List WorkerAt) → AreHands race.users r race.before race.after number ds
        → number ≡ race.base + u + 1
        → AllByRecursion (AllPairs InLog) (logs_of u (map (λ (w : WorkerAt). w.log) ds))
    in-log-all number u [] are at = tt
    in-log-all number u (d ∷ ds) are at =
        (log-in-log number u d are.0 at, in-log-all (suc number) (suc u) ds are.1 (at-next number u at))

    pub is-race : IsRaced settings race.users race.base ans (pointed_in race) r moves (attempts_in race)
    is-race = record {
      setting = is.setting;
      within = is.within;
      legal = is.legal;
      shows = λ s k sends. (positive settings race.users s r k stepped sends, under-before s k sends);
      moves = moves-given settings race.users ans r moves stepped given;
      follows = goes;
      low = low-all;
      claims = attempts-all (race.base + 1) 0 ended hands (omega arith);
      fit = fits-all (race.base + 1) 0 ended hands (omega arith);
      in_log = in-log-all (race.base + 1) 0 ended hands (omega arith);
      logged = logged-all 0 (logs_in race);
      differ = logs-differ (logs_in race) times-few;
    }

  -- ---- all that a merged list asks

  pub race-is : ((c : ControlView) → Learned c → (an : AssociationNumber) (epoch : ℕ) → count (lost an epoch) c.told ≤ 16)
      → IsRaced settings race.users race.base ans (pointed_in race) r moves (attempts_in race)
  race-is lost_few = is-race (none-exhausted lost_few)

  pub race-steps : AreSteps race.steps moves
  race-steps = performed-steps settings race.users (pointed_in race) r race.performed race.steps is.performed

  pub race-rises : ((c : ControlView) → Learned c → (an : AssociationNumber) (epoch : ℕ) → count (lost an epoch) c.told ≤ 16)
      → AreRising (moves_of race.steps) (logs_in race)
  race-rises lost_few = rising settings race.users race.base ans (pointed_in race) r race.steps moves (logs_in race) race-steps (race-is lost_few)

  length-logs : (ds : List WorkerAt) → length (map (λ (w : WorkerAt). w.log) ds) ≡ length ds
  length-logs [] = refl
  length-logs (d ∷ ds) = ap suc (length-logs ds)

  -- the last worker's user frame is there
  users-last : (number : ℕ) (ds : List WorkerAt) → 1 ≤ number → number ≤ length race.users + 1
      → AreHands race.users r race.before race.after number ds → number + length ds ≤ length race.users + 1
  users-last number [] some low hands = omega (arith, low)
  users-last number (d ∷ ds) some low hands =
      let here = user-low number d.sender.user hands.0.sender.user in
      let rest = users-last (suc number) ds (omega arith) (omega (arith, here)) hands.1 in
      omega (arith, rest)

  pub race-few : length (logs_in race) + 1 < 2 ^ 32
  race-few = go ended hands (length-logs ended)
    where
      go : (ds : List WorkerAt) → AreHands race.users r race.before race.after (race.base + 1) ds
          → length (logs_in race) ≡ length ds → length (logs_in race) + 1 < 2 ^ 32
      go [] are many = omega (arith, many)
      go (d ∷ ds) are many =
          let here = user-low (race.base + 1) d.sender.user are.0.sender.user in
          let last = users-last (race.base + 1) (d ∷ ds) (omega arith) (omega (arith, here)) are in
          let few = is.users_few in omega (arith, many, last, few)

pub race-control : (race : Race) → map (λ m. m.x) (moves_in race) ≡ happenings race.performed
race-control race = moves-happen race.settings (pointed_in race) race.run race.performed
