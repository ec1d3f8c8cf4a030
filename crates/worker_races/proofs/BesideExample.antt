-- A race with two workers that meets the premises of the laws, by computing. Alice and bob have a key
-- under which alice transmits. A worker of alice claims two packet numbers; one of bob is refused,
-- control lets bob begin the key, and then it claims one. And a part of that race in which two claims of
-- one log changed places, which is not woven so.
use Rattle.std.proofs.Common.{◌≡◌, inl, inr, ◌<◌, ◌≤◌, ℕ, zero, suc, Bool, true}
use Rattle.std.proofs.Common.{List, [], ◌∷◌, length, map, Some, None, refl, sym, ap, ◌∙◌, arith}
use Rattle.std.specs.Prelude.{max, not}
use Rattle.atomic_table.specs.Seated.{TableId}
use Rattle.lan_base.specs.declared.association_number.AssociationNumber.{AssociationNumber}
use Rattle.lan_base.specs.declared.association_number.AssociationNumber.TheVariants.{An0}
use Rattle.lan_base.specs.declared.frame.Protected.{Protected}
use Rattle.association_slots.specs.Cards.{card_words}
use Rattle.association_slots.specs.Steps.{new_seat}
use Rattle.association_slots.specs.Learned.{Learned}
use Rattle.association_slots.specs.Views.{AllIn, ControlAt, In, claimed, count, lost, present_at, slot}
use Rattle.association_slots.specs.declared.view.NextSeen.{NextSeen}
use Rattle.association_slots.specs.declared.view.Addition.{Addition}
use Rattle.association_slots.specs.declared.view.ControlView.{ControlView}
use Rattle.packet_claims.specs.declared.answers.NoClaim.TheVariants.{NoKey}
use Rattle.data_workers.specs.Entries.{frame_under}
use Rattle.data_workers.specs.Logs.{IsProtectedBy, claim_of}
use Rattle.data_workers.specs.Workers.{IsDone, WorkerAt}
use Rattle.data_workers.specs.declared.entry.Entry.{Entry}
use Rattle.data_workers.specs.declared.entry.Entry.TheVariants.{Taken, Refused}
use Rattle.association_slots.specs.declared.view.SeatView.{SeatView}
use Rattle.lan_core.specs.declared.event.Event.TheVariants as events
use Rattle.lan_core.specs.Claims.{next}
use Rattle.lan_core.specs.Ledgers.{claims}
use Rattle.lan_core.specs.Run.{Run}
use Rattle.group_safety.specs.Accounts.{account_at, numbers_at, shows_at}
use Rattle.group_safety.specs.Transmitting.{Carried, CarriesAt, names, now, sends as sending}
use Rattle.group_safety.proofs.Public.{opens, settings, alice, bob, first_key, r11, r12, l11, l12, v11, v12}
use Rattle.group_safety.proofs.Public.{most_next, next-most}
use Rattle.worker_races.specs.merge.Merged.{entries_of, merged}
use Rattle.worker_races.specs.merge.Marks.{Mark}
use Rattle.worker_races.specs.merge.Places.{Move}
use Rattle.worker_races.specs.merge.Raced.{epoch_at, epoch_of}
use Rattle.worker_races.specs.merge.Weaving.{IsWoven, part_of}
use Rattle.worker_races.proofs.weaving.RaceExample.{newest, twice, performed, bob-waits, bob-sends, legal-before, legal-after}
use Rattle.worker_races.proofs.weaving.WovenExample.{begins_key, in-this-order, turned, turned-is-not-woven}
use Rattle.worker_races.proofs.weaving.WovenRun.{race-woven}
use Rattle.station_words.specs.Counting.{past_claims, times_in}
use Rattle.station_words.specs.Telling.{CatchUp, KeepUp}
use Rattle.station_words.specs.Ties.{HaveCaughtUp, HaveKeptUp}
use Rattle.station_words.proofs.Public.{looked-none}
use Rattle.worker_races.specs.Beside.{Race, WereBeside, ans_in, attempts_in, moves_in, part_in, pointed_in}
use Rattle.worker_races.specs.Performed.{happenings}
use Rattle.worker_races.proofs.Races.{race-is}
use Rattle.worker_races.proofs.Cases.{all-false, by-an, only}
use Rattle.worker_races.proofs.TwoStations.{both-done, both-new, both-tied, both-told, carries-in, event_of, is-sender, next-some, sender, worker}
use Rattle.worker_races.proofs.FirstKey.{claim, none-told, none_out, one-told, one_out, two-told}
use Rattle.worker_races.proofs.WordsExample.{its-words, its_card, reads, sends, sends-learned, waits, waits-learned, words}

-- ---- the accounts of the stations

-- the key is installed, and transmits or not
abbrev carries_none : Carried
carries_none = record { points = []; installs = 1 }

abbrev carries_one : Carried
carries_one = record { points = sending An0 1 ∷ []; installs = 1 }

alice-carries : CarriesAt settings 0 r11 carries_one
unfolding opens
alice-carries = carries-in 0 r11 (l11 0) carries_one (v11.living 0 (omega arith))
    (record { installs = refl; shows = refl; last = inr refl })

bob-carries : CarriesAt settings 1 r11 carries_none
unfolding opens
bob-carries = carries-in 1 r11 (l11 1) carries_none (v11.living 1 (omega arith))
    (record { installs = refl; shows = refl; last = inl (omega arith) })

alice-still : CarriesAt settings 0 r12 carries_one
unfolding opens
alice-still = carries-in 0 r12 (l12 0) carries_one (v12.living 0 (omega arith))
    (record { installs = refl; shows = refl; last = inr refl })

bob-now : CarriesAt settings 1 r12 carries_one
unfolding opens
bob-now = carries-in 1 r12 (l12 1) carries_one (v12.living 1 (omega arith))
    (record { installs = refl; shows = refl; last = inr refl })

-- nobody claimed a number, and no tick showed one
record IsFresh (r : Run) : Type 0 where
  pub nexts : (s e : ℕ) → next settings s e r ≡ 1
  pub none : (s : ℕ) → numbers_at s (claims r) ≡ []
  pub shown : (s : ℕ) → s < 2 → shows_at s r ≡ []

nexts-one : (r : Run) → most_next r ≡ 1 → (s e : ℕ) → next settings s e r ≡ 1
nexts-one r most s e =
    let below = next-most s e r in let above = next-some s e r in omega (arith, most, below, above)

shown-none : (r : Run) → shows_at 0 r ≡ [] → shows_at 1 r ≡ [] → (s : ℕ) → s < 2 → shows_at s r ≡ []
shown-none r a b zero less = a
shown-none r a b (suc zero) less = b
shown-none r a b (suc (suc s)) less = absurd (omega (arith, less))

fresh-before : IsFresh r11
unfolding claims
fresh-before = record {
  nexts = nexts-one r11 refl;
  none = λ s. refl;
  shown = shown-none r11 refl refl;
}

fresh-after : IsFresh r12
unfolding claims
fresh-after = record {
  nexts = nexts-one r12 refl;
  none = λ s. refl;
  shown = shown-none r12 refl refl;
}

-- ---- the words keep up with them

waits-up : (s : ℕ) (r : Run) (out : List Bool) → length out ≡ 8 → IsFresh r → s < 2
    → KeepUp (account_at settings s r carries_none) (waits out)
waits-up s r out eight is there = record {
  learned = waits-learned out eight;
  first = refl;
  points = refl;
  slots = by-an (λ an. (slot (waits out) an).shut ≡ not (names (now carries_none) an)) refl refl refl refl;
  open_now = λ bad. absurd (cc bad);
  least = λ bad. absurd (cc bad);
  later = λ epoch above. is.nexts s epoch;
  cards = refl;
  shows = sym (is.shown s there);
  seen = λ epoch. is.nexts s epoch
      ∙ ap (λ (ns : List (ℕ × ℕ)). max 1 (max (past_claims epoch ns) 0)) (sym (is.none s));
}

sends-up : (s : ℕ) (r : Run) (out : List Bool) (told : List Addition) (notes : List ℕ) (read : List (ℕ × ℕ))
    → IsFresh r → s < 2 → Learned (sends out told notes read)
    → KeepUp (account_at settings s r carries_one) (sends out told notes read)
sends-up s r out told notes read is there learned = record {
  learned = learned;
  first = refl;
  points = refl;
  slots = by-an (λ an. (slot (sends out told notes read) an).shut ≡ not (names (now carries_one) an))
      refl refl refl refl;
  open_now = λ here. (refl, refl);
  least = λ here. (let n = is.nexts s 1 in (omega (arith, n), omega (arith, n)));
  later = λ epoch above. is.nexts s epoch;
  cards = refl;
  shows = sym (is.shown s there);
  seen = λ epoch. is.nexts s epoch
      ∙ ap (λ (ns : List (ℕ × ℕ)). max 1 (max (past_claims epoch ns) 0)) (sym (is.none s));
}

-- no seat is out, and none told a claim
caught-up : (s : ℕ) (r : Run) (k : Carried) (c : ControlView) → IsFresh r → c.told ≡ [] → AllIn c
    → KeepUp (account_at settings s r k) c → CatchUp (account_at settings s r k) c
caught-up s r k c is none all up = record {
  all_in = all;
  keep_up = up;
  claims = λ epoch pn.
      ap (λ (xs : List Addition). count (claimed epoch pn) xs) none
      ∙ ap (λ (ns : List (ℕ × ℕ)). times_in epoch pn ns) (sym (is.none s));
}

-- ---- the logs

-- ciphers stay closed
unfoldable pub octets : ℕ → ℕ → List ℕ
octets s pn = frame_under (sender s) its_card An0 pn

octets-are : (s pn : ℕ) → octets s pn ≡ frame_under (sender s) its_card An0 pn
unfolding octets
octets-are s pn = refl

abbrev frame : ℕ → ℕ → Protected
frame s pn = record { station = s; an = An0; epoch = 1; pn = pn; octets = octets s pn }

abbrev alices : List Entry
alices = Taken (frame 0 1) ∷ Taken (frame 0 2) ∷ []

abbrev bobs : List Entry
bobs = Refused 1 (NoKey 0) ∷ Taken (frame 1 1) ∷ []

-- the card is that of the key
its-card : card_words (record { sak = first_key.sak; conf = first_key.conf }) ≡ words
its-card = refl

-- ---- the workers

abbrev alice_seat : SeatView
alice_seat = new_seat (sends none_out [] [] [])

abbrev bob_seat : SeatView
bob_seat = new_seat (waits none_out)

-- what the seats did: each loaded the current word for each job, and read the card
abbrev alice_did : SeatView
alice_did = record alice_seat {
  loads = 2;
  shown = present_at An0 1;
  added = true;
  additions = claim 2 ∷ claim 1 ∷ [];
  loaded = present_at An0 1 ∷ present_at An0 1 ∷ [];
  reads = reads;
}

abbrev bob_did : SeatView
bob_did = record bob_seat {
  loads = 2;
  shown = present_at An0 1;
  added = true;
  additions = claim 1 ∷ [];
  loaded = present_at An0 1 ∷ [];
  notes = 0 ∷ [];
  reads = reads;
}

alice-took : (pn : ℕ) → In (claim pn) (claim 2 ∷ claim 1 ∷ []) → 1 ≤ pn → pn ≤ 2 → IsProtectedBy alice_did (sender 0) (frame 0 pn)
alice-took pn there low high = record {
  of_station = refl;
  claim = there;
  range = (low, omega (arith, high));
  loaded = (omega arith, inl refl);
  card = its_card;
  knows = its-words;
  octets = octets-are 0 pn;
  start = (omega arith, λ bad. absurd (cc bad));
  given = only (λ (f : NextSeen). (f.epoch ≤ 1) × (f.an ≡ An0 → f.epoch ≡ 1 → f.next ≤ pn))
      (record { an = An0; epoch = 1; next = 1 }) (omega arith, λ an e. low);
}

bob-took : IsProtectedBy bob_did (sender 1) (frame 1 1)
bob-took = record {
  of_station = refl;
  claim = inl refl;
  range = (omega arith, omega arith);
  loaded = (omega arith, inl refl);
  card = its_card;
  knows = its-words;
  octets = octets-are 1 1;
  start = (omega arith, λ is. omega arith);
  given = λ f i. absurd i;
}

module _ (a_table b_table : TableId) where
  abbrev begun : List WorkerAt
  begun = worker 0 a_table alice_seat 2 [] ∷ worker 1 b_table bob_seat 2 [] ∷ []

  abbrev ended : List WorkerAt
  ended = worker 0 a_table alice_did 0 alices ∷ worker 1 b_table bob_did 0 bobs ∷ []

  alice-done : IsDone (worker 0 a_table alice_seat 2 []) (worker 0 a_table alice_did 0 alices)
  alice-done = record {
    same = record { sender = refl; table = refl };
    none = refl;
    each = refl;
    logged = λ v w. record {
      number = w.number;
      start = w.start;
      loads = (let few = w.loads in omega (arith, few));
      claims_are = ap (λ (number : ℕ). claim_of number (frame 0 2) ∷ claim_of number (frame 0 1) ∷ []) w.number
          ∙ ap (λ (xs : List Addition). claim_of v.number (frame 0 2) ∷ claim_of v.number (frame 0 1) ∷ xs) w.claims_are;
      notes_are = w.notes_are;
      entries = (
        alice-took 1 (inr (inl refl)) (omega arith) (omega arith),
        (alice-took 2 (inl refl) (omega arith) (omega arith), tt),
      );
      in_order = (((omega arith, λ e. omega arith), tt), (tt, tt));
    };
  }

  bob-done : IsDone (worker 1 b_table bob_seat 2 []) (worker 1 b_table bob_did 0 bobs)
  bob-done = record {
    same = record { sender = refl; table = refl };
    none = refl;
    each = refl;
    logged = λ v w. record {
      number = w.number;
      start = w.start;
      loads = (let few = w.loads in omega (arith, few));
      claims_are = ap (λ (number : ℕ). claim_of number (frame 1 1) ∷ []) w.number
          ∙ ap (λ (xs : List Addition). claim_of v.number (frame 1 1) ∷ xs) w.claims_are;
      notes_are = ap (λ (ns : List ℕ). 0 ∷ ns) w.notes_are;
      entries = ((refl, (inl refl, omega arith)), (bob-took, tt));
      in_order = (((omega arith, omega arith), tt), (tt, tt));
    };
  }

  -- ---- the words

  abbrev words_at : ControlView → ControlView → List ControlAt
  words_at a b = record { table = a_table; view = a } ∷ record { table = b_table; view = b } ∷ []

  -- no seat is out; both are; bob's word was told that the key began; alice's seat is back; and bob's
  abbrev before : List ControlAt
  before = words_at (sends none_out [] [] []) (waits none_out)

  abbrev shared : List ControlAt
  shared = words_at (sends one_out [] [] []) (waits one_out)

  abbrev moved : List ControlAt
  moved = words_at (sends one_out [] [] []) (sends one_out [] [] [])

  abbrev half : List ControlAt
  half = words_at (sends none_out (claim 2 ∷ claim 1 ∷ []) [] reads) (sends one_out [] [] [])

  abbrev after : List ControlAt
  after = words_at (sends none_out (claim 2 ∷ claim 1 ∷ []) [] reads)
      (sends none_out (claim 1 ∷ []) (0 ∷ []) reads)

  alice-out : Learned (sends one_out [] [] [])
  alice-out = sends-learned one_out [] [] [] refl none-told (λ e i. absurd i) (λ r i. absurd i)

  alice-in : Learned (sends none_out [] [] [])
  alice-in = sends-learned none_out [] [] [] refl none-told (λ e i. absurd i) (λ r i. absurd i)

  alice-back : Learned (sends none_out (claim 2 ∷ claim 1 ∷ []) [] reads)
  alice-back = sends-learned none_out (claim 2 ∷ claim 1 ∷ []) [] reads refl two-told (λ e i. absurd i) (λ r i. i)

  bob-back : Learned (sends none_out (claim 1 ∷ []) (0 ∷ []) reads)
  bob-back = sends-learned none_out (claim 1 ∷ []) (0 ∷ []) reads refl one-told (only (λ e. 0 ≡ e) 0 refl) (λ r i. i)

  caught : HaveCaughtUp settings r11 before
  caught = both-tied CatchUp r11 carries_one carries_none _ _ v11.there
      alice-carries
      (caught-up 0 r11 carries_one (sends none_out [] [] []) fresh-before refl (all-false 8)
      (sends-up 0 r11 none_out [] [] [] fresh-before (omega arith) alice-in))
      bob-carries
      (caught-up 1 r11 carries_none (waits none_out) fresh-before refl (all-false 8)
      (waits-up 1 r11 none_out refl fresh-before (omega arith)))

  kept : (a_out b_out : List Bool) (a_told b_told : List Addition) (a_notes b_notes : List ℕ) (a_read b_read : List (ℕ × ℕ))
      → Learned (sends a_out a_told a_notes a_read) → Learned (sends b_out b_told b_notes b_read)
      → HaveKeptUp settings r12 (words_at (sends a_out a_told a_notes a_read) (sends b_out b_told b_notes b_read))
  kept a_out b_out a_told b_told a_notes b_notes a_read b_read a b =
      both-tied KeepUp r12 carries_one carries_one _ _ v12.there
      alice-still (sends-up 0 r12 a_out a_told a_notes a_read fresh-after (omega arith) a)
      bob-now (sends-up 1 r12 b_out b_told b_notes b_read fresh-after (omega arith) b)

  -- ---- the race

  abbrev pub race : Race
  race = record {
    settings = settings;
    users = twice;
    base = 0;
    run = r11;
    performed = performed;
    steps = record { event = (newest r12).event; before = None; after = Some 1 } ∷ [];
    began = begun;
    ended = ended;
    before = before;
    shared = shared;
    moved = moved;
    looked = moved;
    after = after;
  }

  pub were-beside : WereBeside race
  unfolding claims
  were-beside = record {
    setting = v11.stepped.0.setting;
    within = v11.stepped.0.within;
    legal = legal-before;
    caught_up = caught;
    seated = (
      words_at (sends one_out [] [] []) (waits none_out),
      record { control = _; there = refl; seat_is = refl; new_is = refl },
      (shared, record { control = _; there = refl; seat_is = refl; new_is = refl }, refl),
    );
    senders = (
      is-sender twice r11 1 0 alice v11.there refl refl refl,
      (is-sender twice r11 2 1 bob v11.there refl refl refl, tt),
    );
    new = both-new _ _ refl refl;
    done = both-done _ _ _ _ alice-done bob-done;
    performed = (
      record {
        step = legal-after.stepped.0;
        own = refl;
        event = refl;
        before = sym (ap epoch_of bob-waits);
        after = sym (ap epoch_of bob-sends);
      },
      tt,
    );
    gone = (
      moved,
      both-told r11 1 (newest r12) _ _ _ _ (record { points = refl; seats = refl }) (record { points = refl; seats = refl }),
      refl,
    );
    keep_up = kept one_out one_out [] [] [] [] [] [] alice-out alice-out;
    looked = looked-none moved;
    joined = (
      half,
      record { control = _; there = refl; new_is = refl; learned = alice-back },
      (λ up. kept none_out one_out (claim 2 ∷ claim 1 ∷ []) [] [] [] reads [] alice-back alice-out),
      (
        after,
        record { control = _; there = refl; new_is = refl; learned = bob-back },
        (λ up. kept none_out none_out (claim 2 ∷ claim 1 ∷ []) (claim 1 ∷ []) [] (0 ∷ []) reads reads alice-back bob-back),
        refl,
      ),
    );
    users_few = omega arith;
    claims_few = omega arith;
  }

  -- ---- its part

  one-move : moves_in race ≡ begins_key 0 1 ∷ []
  one-move = ap (λ (n : ℕ). begins_key n (epoch_at settings 1 r12) ∷ []) (ap epoch_of bob-waits)
      ∙ ap (λ (n : ℕ). begins_key 0 n ∷ []) (ap epoch_of bob-sends)

  -- the refusal, control, and all else behind it: alice's claims first
  these-events : map event_of (part_in race)
      ≡ events.Claim 1 2 0 ∷ (newest r12).event ∷ events.Claim 0 1 1 ∷ events.Claim 0 1 2
      ∷ events.Claim 1 2 1 ∷ []
  these-events =
      ap (λ (ms : List Move). map event_of (part_of settings 0 (merged ms (entries_of (attempts_in race))) r11)) one-move
      ∙ ap (λ (zs : List Mark). map event_of (part_of settings 0 zs r11)) in-this-order

  -- with what holds of the words of every station, that few additions to them are lost
  module _ (few : (c : ControlView) → Learned c → (an : AssociationNumber) (epoch : ℕ)
      → count (lost an epoch) c.told ≤ 16) where
    is-woven : IsWoven race.base (part_in race) (happenings race.performed) (attempts_in race)
    is-woven = race-woven settings twice 0 (ans_in race) (pointed_in race) r11 (moves_in race)
        (attempts_in race) (race-is race were-beside few)

  -- two claims of alice's log changed places
  not-turned : IsWoven race.base turned (happenings race.performed) (attempts_in race) → ⊥
  not-turned is = turned-is-not-woven is
