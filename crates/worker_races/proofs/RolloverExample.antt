-- A race with two workers over a rollover, that meets the premises of the laws, by computing. Alice transmits under the
-- first key, of which she claimed one number long ago, and holds the second one, which bob has reported and not begun.
-- A worker of alice claims a number; control lets her begin the second key; and the worker claims another, under that.
-- One of bob is refused a number. And a part of that race in which the two claims of alice's log changed places, which is not
-- woven so.
use Rattle.std.proofs.Common.{◌≡◌, inl, inr, ◌<◌, ◌≤◌, ◌+◌, ◌==◌, ℕ, Bool, true, false, cond, List, [], ◌∷◌, ◌++◌, length, map, Some, None, refl, sym, ap, ◌∙◌, arith}
use Rattle.std.proofs.lemmas.Bool.{cases_Bool, eqb-true}
use Rattle.std.specs.Prelude.{max, not}
use Rattle.atomic_table.specs.Seated.{TableId}
use Rattle.lan_base.specs.declared.association_number.AssociationNumber.{AssociationNumber}
use Rattle.lan_base.specs.declared.association_number.AssociationNumber.TheVariants.{An0, An1}
use Rattle.lan_base.specs.declared.frame.Protected.{Protected}
use Rattle.lan_base.specs.declared.frame.UserFrame.{UserFrame}
use Rattle.association_slots.specs.Cards.{card_words}
use Rattle.association_slots.specs.Learned.{Learned}
use Rattle.association_slots.specs.Steps.{new_seat}
use Rattle.association_slots.specs.Views.{ControlAt, count, lost, present_at, slot}
use Rattle.association_slots.specs.declared.card.Card.{Card}
use Rattle.association_slots.specs.declared.view.Addition.{Addition}
use Rattle.association_slots.specs.declared.view.ControlView.{ControlView}
use Rattle.association_slots.specs.declared.view.NextSeen.{NextSeen}
use Rattle.association_slots.specs.declared.view.SeatView.{SeatView}
use Rattle.packet_claims.specs.declared.answers.NoClaim.TheVariants.{NoKey}
use Rattle.data_workers.specs.Entries.{frame_under}
use Rattle.data_workers.specs.Logs.{IsProtectedBy, claim_of}
use Rattle.data_workers.specs.Workers.{IsDone, WorkerAt}
use Rattle.data_workers.specs.declared.entry.Entry.{Entry}
use Rattle.data_workers.specs.declared.entry.Entry.TheVariants.{Taken, Refused}
use Rattle.lan_core.specs.declared.event.Event.TheVariants as events
use Rattle.lan_core.specs.declared.fact.Fact.TheVariants as facts
use Rattle.lan_core.specs.declared.fact.Lack.TheVariants as lacks
use Rattle.lan_core.specs.Claims.{is_epoch, next, shown_by}
use Rattle.lan_core.specs.Ledgers.{claims}
use Rattle.lan_core.specs.Legal.{IsLegal, none_ahead}
use Rattle.lan_core.specs.Lives.{transmitting_at}
use Rattle.lan_core.specs.Run.{Happening, Run, happened}
use Rattle.lan_core.proofs.Public.{legal-more}
use Rattle.group_safety.specs.Accounts.{account_at, numbers_at, shows_at}
use Rattle.group_safety.specs.Transmitting.{Carried, CarriesAt, names, now, sends as sending}
use Rattle.group_safety.proofs.Public.{opens, settings, users, alice, bob, first_key, second_key, r11, r14, r16, r17, r18, r19, r20, r21, l20, l21, v16, v20, v21, most_next, next-most}
use Rattle.worker_races.specs.merge.Merged.{entries_of, merged, numbered}
use Rattle.worker_races.specs.merge.Places.{Move, ends, place}
use Rattle.worker_races.specs.merge.Raced.{epoch_at, epoch_of}
use Rattle.worker_races.specs.merge.Ranks.{in_order}
use Rattle.worker_races.specs.merge.Weaving.{IsWoven, part_of}
use Rattle.worker_races.proofs.weaving.FromRun.{in-life}
use Rattle.worker_races.proofs.weaving.RaceExample.{newest}
use Rattle.worker_races.proofs.weaving.WovenRun.{race-woven}
use Rattle.station_words.specs.Counting.{greatest_seen, past_claims, times_in}
use Rattle.station_words.specs.Telling.{CatchUp, KeepUp}
use Rattle.station_words.specs.Ties.{HaveCaughtUp, HaveKeptUp}
use Rattle.station_words.proofs.Public.{looked-none}
use Rattle.worker_races.specs.Beside.{Race, WereBeside, ans_in, attempts_in, moves_in, part_in, pointed_in}
use Rattle.worker_races.specs.Performed.{happenings}
use Rattle.worker_races.proofs.Races.{race-is}
use Rattle.worker_races.proofs.Cases.{all-false, by-an, only}
use Rattle.worker_races.proofs.TwoStations.{both-done, both-new, both-tied, both-told, carries-in, event_of, is-sender, next-some, sender, worker}
use Rattle.worker_races.proofs.FirstKey.{claim, none_out, one_out}
use Rattle.worker_races.proofs.RolloverWords.{first-learned, first-words, first_card, joined, moved, of_all, of_old, once-back, reads, second-learned, second-words, second_card, seen, sends_first, sends_second, under_second, waits, waits-learned, while-out, words}

-- ---- what transmits

alice-was : transmitting_at settings 0 r16 ≡ Some first_key
unfolding opens
alice-was = in-life settings 0 r16 _ (v16.living 0 (omega arith))

alice-sends : transmitting_at settings 0 r20 ≡ Some first_key
unfolding opens
alice-sends = in-life settings 0 r20 (l20 0) (v20.living 0 (omega arith))

bob-waits : transmitting_at settings 1 r20 ≡ None
unfolding opens
bob-waits = in-life settings 1 r20 (l20 1) (v20.living 1 (omega arith))

alice-goes-on : transmitting_at settings 0 r21 ≡ Some second_key
unfolding opens
alice-goes-on = in-life settings 0 r21 (l21 0) (v21.living 0 (omega arith))

-- ---- the accounts of the stations

abbrev carries_first : Carried
carries_first = record { points = sending An0 1 ∷ []; installs = 2 }

abbrev carries_second : Carried
carries_second = record { points = sending An1 2 ∷ sending An0 1 ∷ []; installs = 2 }

abbrev carries_none : Carried
carries_none = record { points = []; installs = 2 }

alice-carries : CarriesAt settings 0 r20 carries_first
unfolding opens
alice-carries = carries-in 0 r20 (l20 0) carries_first (v20.living 0 (omega arith))
    (record { installs = refl; shows = refl; last = inr refl })

bob-carries : CarriesAt settings 1 r20 carries_none
unfolding opens
bob-carries = carries-in 1 r20 (l20 1) carries_none (v20.living 1 (omega arith))
    (record { installs = refl; shows = refl; last = inl (omega arith) })

alice-now : CarriesAt settings 0 r21 carries_second
unfolding opens
alice-now = carries-in 0 r21 (l21 0) carries_second (v21.living 0 (omega arith))
    (record { installs = refl; shows = refl; last = inr refl })

bob-still : CarriesAt settings 1 r21 carries_none
unfolding opens
bob-still = carries-in 1 r21 (l21 1) carries_none (v21.living 1 (omega arith))
    (record { installs = refl; shows = refl; last = inl (omega arith) })

-- ---- the next numbers

-- one event more leaves a next number that is not above what it shows, and not below what was
event-most : (s e n : ℕ) (x : Happening) (r : Run) → shown_by settings s e r x.facts x.event ≤ n
    → next settings s e r ≤ n → next settings s e (x ∷ r) ≤ n
unfolding next
event-most s e n x r here before = omega (arith, here, before)

event-least : (s e n : ℕ) (x : Happening) (r : Run) → n ≤ next settings s e r → n ≤ next settings s e (x ∷ r)
unfolding next
event-least s e n x r before = omega (arith, before)

cond-none : (b : Bool) → cond b 0 0 ≤ 1
cond-none true = omega arith
cond-none false = omega arith

-- up to the first beginning nothing was claimed and nothing shown
at-first : (s e : ℕ) → next settings s e r11 ≤ 1
at-first s e = let most : next settings s e r11 ≤ most_next r11 = next-most s e r11 in
    let one : most_next r11 ≡ 1 = refl in omega (arith, most, one)

-- alice claimed number 1 of the first epoch, and showed number 2
claimed-least : (e : ℕ) → (1 == e) ≡ true → 2 ≤ next settings 0 e r20
unfolding next
claimed-least e is =
    event-least 0 e 2 (newest r20) r19 (event-least 0 e 2 (newest r19) r18 (event-least 0 e 2 (newest r18) r17
    (event-least 0 e 2 (newest r17) r16 at-16)))
  where
    at-16 : 2 ≤ next settings 0 e r16
    at-16 = rw is (omega arith)

other-most : (e : ℕ) → (1 == e) ≡ false → next settings 0 e r20 ≤ 1
unfolding next
other-most e none = let before = at-first 0 e in rw (alice-was, none) (omega (arith, before))

alice-nexts : (e : ℕ) → next settings 0 e r20 ≡ cond (1 == e) 2 1
alice-nexts e = elim (cases_Bool (1 == e)) [
  | inl is ↦ (let low = claimed-least e is in
      let high : next settings 0 e r20 ≤ most_next r20 = next-most 0 e r20 in
      let most : most_next r20 ≡ 2 = refl in rw is (omega (arith, low, high, most)))
  | inr none ↦ (let high = other-most e none in let low = next-some 0 e r20 in rw none (omega (arith, low, high)))
]

-- and as the second key begins it shows number 2 again
shown-again : (b : Bool) → max (cond b 2 0) (cond b 2 1) ≡ cond b 2 1
shown-again true = refl
shown-again false = refl

next-is : (s e : ℕ) (x : Happening) (r : Run)
    → next settings s e (x ∷ r) ≡ max (shown_by settings s e r x.facts x.event) (next settings s e r)
unfolding next
next-is s e x r = refl

alice-later : (e : ℕ) → next settings 0 e r21 ≡ cond (1 == e) 2 1
alice-later e = next-is 0 e (newest r21) r20 ∙ rw (alice-sends, alice-nexts e) (shown-again (1 == e))

bob-most : (e : ℕ) → next settings 1 e r20 ≤ 1
unfolding next
bob-most e =
    let before = at-first 1 e in
    let first = cond-none (is_epoch e (transmitting_at settings 1 r14)) in
    let second = cond-none (is_epoch e (transmitting_at settings 1 r18)) in
    omega (arith, before, first, second)

bob-nexts : (e : ℕ) → next settings 1 e r20 ≡ 1
bob-nexts e = let high = bob-most e in let low = next-some 1 e r20 in omega (arith, high, low)

bob-later : (e : ℕ) → next settings 1 e r21 ≡ 1
unfolding next
bob-later e = let before = bob-nexts e in omega (arith, before)

-- what stands in the accounts beside them
alice-claims : numbers_at 0 (claims r20) ≡ (1, 1) ∷ []
unfolding claims
alice-claims = refl

alice-claimed : numbers_at 0 (claims r21) ≡ (1, 1) ∷ []
unfolding claims
alice-claimed = refl

bob-claims : numbers_at 1 (claims r20) ≡ []
unfolding claims
bob-claims = refl

bob-claimed : numbers_at 1 (claims r21) ≡ []
unfolding claims
bob-claimed = refl

-- ---- the words keep up with them

later-none : (n e : ℕ) → 1 ≤ n → n < e → ◌≡◌ {A = ℕ} (cond (1 == e) 2 1) 1
later-none n e some less = elim (cases_Bool (1 == e)) [
  | inl is ↦ (let same = eqb-true 1 e is in absurd (omega (arith, some, less, same)))
  | inr none ↦ rw none refl
]

once-seen : (b : Bool) → cond b 2 1 ≡ max 1 (max (max (cond b 2 0) 0) (max (cond b 2 0) 0))
once-seen true = refl
once-seen false = refl

twice-seen : (b : Bool) → cond b 2 1 ≡ max 1 (max (max (cond b 2 0) 0) (max (cond b 2 0) (max (cond b 2 0) 0)))
twice-seen true = refl
twice-seen false = refl

first-up : (out : List Bool) → length out ≡ 8 → KeepUp (account_at settings 0 r20 carries_first) (sends_first out)
first-up out eight = record {
  learned = first-learned out eight;
  first = refl;
  points = refl;
  slots = by-an (λ an. (slot (sends_first out) an).shut ≡ not (names (now carries_first) an)) refl refl refl refl;
  open_now = λ here. (refl, refl);
  least = λ here. (let n = alice-nexts 1 in (omega (arith, n), omega (arith, n)));
  later = λ e above. alice-nexts e ∙ later-none 1 e (omega arith) above;
  cards = refl;
  shows = refl;
  seen = λ e. alice-nexts e ∙ once-seen (1 == e)
      ∙ ap (λ (ns : List (ℕ × ℕ)). max 1 (max (past_claims e ns) (greatest_seen e (seen 2 ∷ [])))) (sym alice-claims);
}

second-up : (out : List Bool) (told : List Addition) (read : List (ℕ × ℕ)) → Learned (sends_second out told read)
    → KeepUp (account_at settings 0 r21 carries_second) (sends_second out told read)
second-up out told read learned = record {
  learned = learned;
  first = refl;
  points = refl;
  slots = by-an (λ an. (slot (sends_second out told read) an).shut ≡ not (names (now carries_second) an))
      refl refl refl refl;
  open_now = λ here. (refl, refl);
  least = λ here. (let n = alice-later 2 in (omega (arith, n), omega (arith, n)));
  later = λ e above. alice-later e ∙ later-none 2 e (omega arith) above;
  cards = refl;
  shows = refl;
  seen = λ e. alice-later e ∙ twice-seen (1 == e)
      ∙ ap (λ (ns : List (ℕ × ℕ)). max 1 (max (past_claims e ns) (greatest_seen e (seen 2 ∷ seen 2 ∷ [])))) (sym alice-claimed);
}

waits-up : (r : Run) (out : List Bool) (notes : List ℕ) → Learned (waits out notes)
    → ((e : ℕ) → next settings 1 e r ≡ 1) → numbers_at 1 (claims r) ≡ [] → shows_at 1 r ≡ []
    → KeepUp (account_at settings 1 r carries_none) (waits out notes)
waits-up r out notes learned nexts none shown = record {
  learned = learned;
  first = refl;
  points = refl;
  slots = by-an (λ an. (slot (waits out notes) an).shut ≡ not (names (now carries_none) an)) refl refl refl refl;
  open_now = λ bad. absurd (cc bad);
  least = λ bad. absurd (cc bad);
  later = λ e above. nexts e;
  cards = refl;
  shows = sym shown;
  seen = λ e. nexts e ∙ ap (λ (ns : List (ℕ × ℕ)). max 1 (max (past_claims e ns) 0)) (sym none);
}

-- ---- the logs

-- ciphers stay closed
unfoldable pub octets : Card → AssociationNumber → ℕ → List ℕ
octets card an pn = frame_under (sender 0) card an pn

octets-are : (card : Card) (an : AssociationNumber) (pn : ℕ) → octets card an pn ≡ frame_under (sender 0) card an pn
unfolding octets
octets-are card an pn = refl

-- under the first key, and under the second
abbrev old_frame : Protected
old_frame = record { station = 0; an = An0; epoch = 1; pn = 2; octets = octets first_card An0 2 }

abbrev new_frame : Protected
new_frame = record { station = 0; an = An1; epoch = 2; pn = 1; octets = octets second_card An1 1 }

abbrev alices : List Entry
alices = Taken old_frame ∷ Taken new_frame ∷ []

abbrev bobs : List Entry
bobs = Refused 1 (NoKey 0) ∷ []

-- the cards are those of the keys
its-cards : card_words (record { sak = first_key.sak; conf = first_key.conf })
    ++ card_words (record { sak = second_key.sak; conf = second_key.conf }) ≡ words
its-cards = refl

-- ---- the workers

abbrev alice_seat : SeatView
alice_seat = new_seat (sends_first none_out)

abbrev bob_seat : SeatView
bob_seat = new_seat (waits none_out [])

-- What the seats did: alice's loaded the current word for each job, and read both cards; bob's found nothing present.
abbrev alice_did : SeatView
alice_did = record alice_seat {
  loads = 2;
  shown = present_at An1 2;
  added = true;
  additions = under_second 1 ∷ claim 2 ∷ [];
  loaded = present_at An1 2 ∷ present_at An0 1 ∷ [];
  reads = reads;
}

abbrev bob_did : SeatView
bob_did = record bob_seat { loads = 1; notes = 0 ∷ [] }

took-old : IsProtectedBy alice_did (sender 0) old_frame
took-old = record {
  of_station = refl;
  claim = inr (inl refl);
  range = (omega arith, omega arith);
  loaded = (omega arith, inr (inl refl));
  card = first_card;
  knows = first-words;
  octets = octets-are first_card An0 2;
  start = (omega arith, λ bad. absurd (cc bad));
  given = only (λ (f : NextSeen). (f.epoch ≤ 1) × (f.an ≡ An0 → f.epoch ≡ 1 → f.next ≤ 2))
      (seen 2) (omega arith, λ an e. omega arith);
}

took-new : IsProtectedBy alice_did (sender 0) new_frame
took-new = record {
  of_station = refl;
  claim = inl refl;
  range = (omega arith, omega arith);
  loaded = (omega arith, inl refl);
  card = second_card;
  knows = second-words;
  octets = octets-are second_card An1 1;
  start = (omega arith, λ bad. absurd (cc bad));
  given = only (λ (f : NextSeen). (f.epoch ≤ 2) × (f.an ≡ An1 → f.epoch ≡ 2 → f.next ≤ 1))
      (seen 2) (omega arith, λ an e. absurd (cc an));
}

-- alice's user frame came before; one of each worker comes now
abbrev thrice : List UserFrame
thrice = users ++ (users ++ users)

legal-before : IsLegal settings thrice r20
legal-before = legal-more settings users (users ++ users) r20 (record { stepped = v20.stepped; excused = v20.excused none_ahead })

legal-after : IsLegal settings thrice r21
legal-after = legal-more settings users (users ++ users) r21 (record { stepped = v21.stepped; excused = v21.excused none_ahead })

module _ (a_table b_table : TableId) where
  abbrev begun : List WorkerAt
  begun = worker 0 a_table alice_seat 2 [] ∷ worker 1 b_table bob_seat 1 [] ∷ []

  abbrev ended : List WorkerAt
  ended = worker 0 a_table alice_did 0 alices ∷ worker 1 b_table bob_did 0 bobs ∷ []

  alice-done : IsDone (worker 0 a_table alice_seat 2 []) (worker 0 a_table alice_did 0 alices)
  alice-done = record {
    same = record { sender = refl; table = refl };
    none = refl;
    each = refl;
    logged = λ v w. record {
      number = w.number;
      start = w.start;
      loads = (let few = w.loads in omega (arith, few));
      claims_are = ap (λ (number : ℕ). claim_of number new_frame ∷ claim_of number old_frame ∷ []) w.number
          ∙ ap (λ (xs : List Addition). claim_of v.number new_frame ∷ claim_of v.number old_frame ∷ xs) w.claims_are;
      notes_are = w.notes_are;
      entries = (took-old, (took-new, tt));
      in_order = (((omega arith, λ e. absurd (omega (arith, e))), tt), (tt, tt));
    };
  }

  bob-done : IsDone (worker 1 b_table bob_seat 1 []) (worker 1 b_table bob_did 0 bobs)
  bob-done = record {
    same = record { sender = refl; table = refl };
    none = refl;
    each = refl;
    logged = λ v w. record {
      number = w.number;
      start = w.start;
      loads = (let few = w.loads in omega (arith, few));
      claims_are = w.claims_are;
      notes_are = ap (λ (ns : List ℕ). 0 ∷ ns) w.notes_are;
      entries = ((refl, (inl refl, omega arith)), tt);
      in_order = (tt, tt);
    };
  }

  -- ---- the words

  abbrev words_at : ControlView → ControlView → List ControlAt
  words_at a b = record { table = a_table; view = a } ∷ record { table = b_table; view = b } ∷ []

  -- no seat is out; both are; alice's word was told that the key began; her worker's seat is back; and bob's
  abbrev before : List ControlAt
  before = words_at (sends_first none_out) (waits none_out [])

  abbrev shared : List ControlAt
  shared = words_at (sends_first one_out) (waits one_out [])

  abbrev gone : List ControlAt
  gone = words_at moved (waits one_out [])

  abbrev half : List ControlAt
  half = words_at joined (waits one_out [])

  abbrev after : List ControlAt
  after = words_at joined (waits none_out (0 ∷ []))

  bob-learned : (out : List Bool) → length out ≡ 8 → Learned (waits out [])
  bob-learned out eight = waits-learned out [] eight (λ e i. absurd i)

  bob-back : Learned (waits none_out (0 ∷ []))
  bob-back = waits-learned none_out (0 ∷ []) refl (only (λ e. 0 ≡ e) 0 refl)

  alice-out : Learned moved
  alice-out = second-learned one_out of_old [] refl while-out

  alice-back : Learned joined
  alice-back = second-learned none_out of_all reads refl once-back

  caught : HaveCaughtUp settings r20 before
  caught = both-tied CatchUp r20 carries_first carries_none _ _ v20.there
      alice-carries
      (record {
        all_in = all-false 8;
        keep_up = first-up none_out refl;
        claims = λ e pn. ap (λ (ns : List (ℕ × ℕ)). times_in e pn ns) (sym alice-claims);
      })
      bob-carries
      (record {
        all_in = all-false 8;
        keep_up = waits-up r20 none_out [] (bob-learned none_out refl) bob-nexts bob-claims refl;
        claims = λ e pn. ap (λ (ns : List (ℕ × ℕ)). times_in e pn ns) (sym bob-claims);
      })

  kept : (out b_out : List Bool) (told : List Addition) (notes : List ℕ) (read : List (ℕ × ℕ))
      → Learned (sends_second out told read) → Learned (waits b_out notes)
      → HaveKeptUp settings r21 (words_at (sends_second out told read) (waits b_out notes))
  kept out b_out told notes read a b =
      both-tied KeepUp r21 carries_second carries_none _ _ v21.there
      alice-now (second-up out told read a)
      bob-still (waits-up r21 b_out notes b bob-later bob-claimed refl)

  -- ---- the race

  abbrev pub race : Race
  race = record {
    settings = settings;
    users = thrice;
    base = 1;
    run = r20;
    performed = (0, newest r21) ∷ [];
    steps = record { event = (newest r21).event; before = Some 1; after = Some 2 } ∷ [];
    began = begun;
    ended = ended;
    before = before;
    shared = shared;
    moved = gone;
    looked = gone;
    after = after;
  }

  pub were-beside : WereBeside race
  unfolding claims
  were-beside = record {
    setting = v20.stepped.0.setting;
    within = v20.stepped.0.within;
    legal = legal-before;
    caught_up = caught;
    seated = (
      words_at (sends_first one_out) (waits none_out []),
      record { control = _; there = refl; seat_is = refl; new_is = refl },
      (shared, record { control = _; there = refl; seat_is = refl; new_is = refl }, refl),
    );
    senders = (
      is-sender thrice r20 2 0 alice v20.there refl refl refl,
      (is-sender thrice r20 3 1 bob v20.there refl refl refl, tt),
    );
    new = both-new _ _ refl refl;
    done = both-done _ _ _ _ alice-done bob-done;
    performed = (
      record {
        step = legal-after.stepped.0;
        own = refl;
        event = refl;
        before = sym (ap epoch_of alice-sends);
        after = sym (ap epoch_of alice-goes-on);
      },
      tt,
    );
    gone = (
      gone,
      both-told r20 0 (newest r21) _ _ _ _ (record { points = refl; seats = refl }) (record { points = refl; seats = refl }),
      refl,
    );
    keep_up = kept one_out one_out of_old [] [] alice-out (bob-learned one_out refl);
    looked = looked-none gone;
    joined = (
      half,
      record { control = _; there = refl; new_is = refl; learned = alice-back },
      (λ up. kept none_out one_out of_all [] reads alice-back (bob-learned one_out refl)),
      (
        after,
        record { control = _; there = refl; new_is = refl; learned = bob-back },
        (λ up. kept none_out none_out of_all (0 ∷ []) reads alice-back bob-back),
        refl,
      ),
    );
    users_few = omega arith;
    claims_few = omega arith;
  }

  -- ---- its part

  -- alice begins the second key
  abbrev begins : ℕ → ℕ → Move
  begins before after = record {
    x = newest r21;
    station = 0;
    before = before;
    after = after;
    shown = 2;
    gap = false;
  }

  one-move : moves_in race ≡ begins 1 2 ∷ []
  one-move = ap (λ (n : ℕ). begins n (epoch_at settings 0 r21) ∷ []) (ap epoch_of alice-sends)
      ∙ ap (λ (n : ℕ). begins 1 n ∷ []) (ap epoch_of alice-goes-on)

  -- alice's claim under the first key, the beginning, her claim under the second key, and bob's refusal
  in-this-order : map event_of (part_of settings 1 (merged (begins 1 2 ∷ []) (entries_of (attempts_in race))) r20)
      ≡ events.Claim 0 2 2 ∷ (newest r21).event ∷ events.Claim 0 2 1 ∷ events.Claim 1 3 0 ∷ []
  unfolding entries_of numbered in_order place ends
  in-this-order = refl

  these-events : map event_of (part_in race)
      ≡ events.Claim 0 2 2 ∷ (newest r21).event ∷ events.Claim 0 2 1 ∷ events.Claim 1 3 0 ∷ []
  these-events =
      ap (λ (ms : List Move). map event_of (part_of settings 1 (merged ms (entries_of (attempts_in race))) r20)) one-move
      ∙ in-this-order

  -- with what holds of the words of every station, that few additions to them are lost
  module _ (few : (c : ControlView) → Learned c → (an : AssociationNumber) (epoch : ℕ)
      → count (lost an epoch) c.told ≤ 16) where
    is-woven : IsWoven race.base (part_in race) (happenings race.performed) (attempts_in race)
    is-woven = race-woven settings thrice 1 (ans_in race) (pointed_in race) r20 (moves_in race)
        (attempts_in race) (race-is race were-beside few)

  -- the two claims of alice's log changed places
  abbrev turned : List Happening
  turned =
      happened (events.Claim 0 2 1) (facts.Claimed 0 An1 2 1 ∷ []) ∷ newest r21
      ∷ happened (events.Claim 0 2 2) (facts.Claimed 0 An0 1 2 ∷ [])
      ∷ happened (events.Claim 1 3 0) (facts.Unclaimed 1 lacks.NoKey ∷ []) ∷ []

  not-turned : IsWoven race.base turned (happenings race.performed) (attempts_in race) → ⊥
  not-turned is =
      let first : events.Claim 0 2 1 ≡ events.Claim 0 2 2 = (is.claims 0).0.event in
      let same : ◌≡◌ {A = ℕ} 1 2 = cc first in omega (arith, same)
