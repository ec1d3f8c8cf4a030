-- The definitions on worked values, by computing: alice transmits epoch 1 under AN 0, and bob begins
-- it while a worker of alice is out. And a race that meets its premises: of nobody, while control
-- performs nothing.
use Rattle.std.proofs.Common.{◌≡◌, ◌<◌, ◌+◌, ◌^◌, ◌∷◌, [], List, length, refl, arith}
use Rattle.std.proofs.lemmas.List.Elements.{All-nil}
use Rattle.atomic_table.specs.Seated.{TableId}
use Rattle.lan_base.specs.declared.association_number.AssociationNumber.TheVariants.{An0}
use Rattle.lan_base.specs.declared.frame.UserFrame.{UserFrame}
use Rattle.association_slots.specs.Steps.{at_first, new_seat, pointed, raised, seated}
use Rattle.association_slots.specs.Views.{ControlAt, present_at}
use Rattle.data_workers.specs.Workers.{WorkerAt}
use Rattle.data_workers.specs.declared.sender.Sender.{Sender}
use Rattle.lan_core.specs.Ledgers.{claims}
use Rattle.lan_core.specs.Legal.{IsLegal}
use Rattle.lan_core.specs.Order.{IsWithin}
use Rattle.lan_core.specs.Run.{Run, Happening, happened}
use Rattle.lan_core.specs.Types.{IsSetting}
use Rattle.lan_core.specs.declared.event.Event.TheVariants as events
use Rattle.lan_core.specs.declared.settings.Settings.{Settings}
use Rattle.group_safety.proofs.Public.{settings, r11, r12}
use Rattle.station_words.specs.Ties.{HaveCaughtUp}
use Rattle.station_words.proofs.Public.{looked-none}
use Rattle.worker_races.specs.Beside.{Race, WereBeside}
use Rattle.worker_races.specs.Going.{WereSeated, words_by}
use Rattle.worker_races.specs.Performed.{run_after}
use Rattle.worker_races.specs.Reading.{an_pointed, last_pointed, view_at}
use Rattle.worker_races.specs.Senders.{jobs_of}

abbrev newest : Run → Happening
newest [] = happened events.Emit []
newest (x ∷ r) = x

module _ (table : TableId) (sender : Sender) (of_alice : sender.station ≡ 0) where
  -- ---- the words of two stations

  abbrev alice : ControlAt
  alice = record { table = table; view = pointed (raised (at_first 1 4096) An0 1) (present_at An0 1) }

  abbrev bob : ControlAt
  bob = record { table = table; view = at_first 1 4096 }

  abbrev before : List ControlAt
  before = alice ∷ bob ∷ []

  -- what they say of epochs; where no station is, nothing happened
  last : (last_pointed before 0 ≡ 1) × (last_pointed before 1 ≡ 0) × (last_pointed before 2 ≡ 0)
  last = (refl, refl, refl)

  under : an_pointed before 0 1 ≡ An0
  under = refl

  none : view_at before 2 ≡ at_first 1 0
  none = refl

  -- ---- a worker of alice takes a seat

  abbrev worker : WorkerAt
  worker = record {
    sender = sender;
    seat = record { table = table; view = new_seat alice.view };
    jobs = 2;
    log = [];
  }

  abbrev shared : List ControlAt
  shared = record alice { view = seated alice.view } ∷ bob ∷ []

  goes_out : WereSeated (worker ∷ []) before shared
  goes_out = (
    shared,
    record { control = alice; there = rw of_alice refl; seat_is = refl; new_is = rw of_alice refl },
    refl,
  )

  two_jobs : jobs_of (worker ∷ []) ≡ 2
  two_jobs = refl

  -- ---- bob begins the key, and his word is told so

  begins : words_by settings r11 1 (newest r12) 1 bob.view ≡ present_at An0 1 ∷ []
  begins = refl

  stays : words_by settings r11 1 (newest r12) 0 alice.view ≡ []
  stays = refl

  runs_on : run_after ((1, newest r12) ∷ []) r11 ≡ r12
  runs_on = refl

-- ---- a race of nobody

abbrev nobody : Settings → List UserFrame → Run → List ControlAt → Race
nobody s users r cs = record {
  settings = s;
  users = users;
  base = length users;
  run = r;
  performed = [];
  steps = [];
  began = [];
  ended = [];
  before = cs;
  shared = cs;
  moved = cs;
  looked = cs;
  after = cs;
}

pub of-nobody : (s : Settings) (users : List UserFrame) (r : Run) (cs : List ControlAt) → IsSetting s → IsWithin r
    → IsLegal s users r → HaveCaughtUp s r cs → length users + 1 < 2 ^ 32 → length (claims r) + 16 < 2 ^ 32
    → WereBeside (nobody s users r cs)
of-nobody s users r cs setting within legal caught few_users few_claims = record {
  setting = setting;
  within = within;
  legal = legal;
  caught_up = caught;
  seated = refl;
  senders = tt;
  new = All-nil _;
  done = record { count = refl; each = λ i d less. absurd (omega (arith, less)) };
  performed = tt;
  gone = refl;
  keep_up = record {
    many = caught.many;
    each = λ t c at. (let tie = caught.each t c at in (tie.0, tie.1, tie.2.keep_up));
  };
  looked = looked-none cs;
  joined = refl;
  users_few = few_users;
  claims_few = omega (arith, few_claims);
}
