-- What the races that are worked by hand share: the stations are alice and bob, with a worker each.
use Rattle.std.proofs.Common.{◌≡◌, ◌<◌, ◌≤◌, ◌==◌, ℕ, zero, suc, List, [], ◌∷◌, length, Some, refl, sym, ap, ◌∙◌, subst, arith}
use Rattle.std.specs.Prelude.{All, if◌then◌else◌, replicate, slice_get, slice_index_or}
use Rattle.std.proofs.lemmas.List.Elements.{All-nil, All-cons}
use Rattle.atomic_table.specs.Seated.{TableId}
use Rattle.lan_base.specs.declared.frame.UserFrame.{UserFrame}
use Rattle.association_slots.specs.Views.{ControlAt}
use Rattle.association_slots.specs.declared.view.ControlView.{ControlView}
use Rattle.association_slots.specs.declared.view.SeatView.{SeatView}
use Rattle.data_workers.specs.Workers.{AreDone, IsDone, WorkerAt}
use Rattle.data_workers.specs.declared.entry.Entry.{Entry}
use Rattle.data_workers.specs.declared.sender.Sender.{Sender}
use Rattle.lan_core.specs.declared.event.Event.{Event}
use Rattle.lan_core.specs.Claims.{next, user_at}
use Rattle.lan_core.specs.Lives.{Life, keys_in, life}
use Rattle.lan_core.specs.Run.{Happening, Profile, Run, stations}
use Rattle.group_safety.specs.Accounts.{Account, account_at}
use Rattle.group_safety.specs.Transmitting.{Carried, Carries, CarriesAt, CarriesIn}
use Rattle.group_safety.proofs.Public.{settings, alice, bob, both, a-user}
use Rattle.station_words.specs.Ties.{AreTiedBy, IsTiedBy}
use Rattle.worker_races.specs.Going.{WasTold, WereTold, words_by}
use Rattle.worker_races.specs.Senders.{IsNew, IsSender}

pub carries-in : (s : ℕ) (r : Run) (l : Life) (k : Carried) → life settings s r ≡ Some l
    → Carries l.member.base (keys_in l) k → CarriesAt settings s r k
carries-in s r l k living carries = subst (λ o. CarriesIn o k) (sym living) carries

pub next-some : (s e : ℕ) (r : Run) → 1 ≤ next settings s e r
unfolding next
next-some s e [] = omega arith
next-some s e (x ∷ r) = let h = next-some s e r in omega (arith, h)

-- ---- their words

-- they say it where each says it
pub both-tied : (Says : Account → ControlView → Type 0) (r : Run) (j k : Carried) (c d : ControlAt)
    → stations r ≡ both → CarriesAt settings 0 r j → Says (account_at settings 0 r j) c.view
    → CarriesAt settings 1 r k → Says (account_at settings 1 r k) d.view
    → AreTiedBy Says settings r (c ∷ d ∷ [])
both-tied Says r j k c d there first says second tells = record {
  many = sym (ap length there);
  each = each;
}
  where
    each : (s : ℕ) (x : ControlAt) → slice_get (c ∷ d ∷ []) s ≡ Some x → IsTiedBy Says settings s r x
    each zero x at = let same : c ≡ x = cc at in subst (λ (v : ControlAt). IsTiedBy Says settings 0 r v) same (j, first, says)
    each (suc zero) x at = let same : d ≡ x = cc at in subst (λ (v : ControlAt). IsTiedBy Says settings 1 r v) same (k, second, tells)
    each (suc (suc s)) x at = absurd (cc at)

-- an event of a station told them, where it told each
pub both-told : (r : Run) (t : ℕ) (x : Happening) (a b c d : ControlAt)
    → WasTold (words_by settings r t x 0 a.view) a.view c.view → WasTold (words_by settings r t x 1 b.view) b.view d.view
    → WereTold settings r t x (a ∷ b ∷ []) (c ∷ d ∷ [])
both-told r t x a b c d first second = record { many = refl; each = each }
  where
    each : (s : ℕ) (y : ControlAt) → slice_get (c ∷ d ∷ []) s ≡ Some y → (z : ControlAt)
        × (slice_get (a ∷ b ∷ []) s ≡ Some z) × WasTold (words_by settings r t x s z.view) z.view y.view
    each zero y at = let same : c ≡ y = cc at in (a, refl, subst (λ (v : ControlAt). WasTold (words_by settings r t x 0 a.view) a.view v.view) same first)
    each (suc zero) y at = let same : d ≡ y = cc at in (b, refl, subst (λ (v : ControlAt). WasTold (words_by settings r t x 1 b.view) b.view v.view) same second)
    each (suc (suc s)) y at = absurd (cc at)

-- ---- their workers

abbrev pub user : UserFrame
user = record { destination = record { 0 = replicate 6 1 }; body = 8 ∷ 0 ∷ 1 ∷ [] }

abbrev pub sender : ℕ → Sender
sender s = record { station = s; sci = if s == 0 then alice.sci else bob.sci; user = user }

pub is-sender : (users : List UserFrame) (r : Run) (number s : ℕ) (profile : Profile) → stations r ≡ both → slice_get both s ≡ Some profile
    → profile.sci ≡ (sender s).sci → user_at users number ≡ Some user → IsSender users r number (sender s)
is-sender users r number s profile are there sci named = record {
  profile = profile;
  placed = ap (λ ps. slice_get ps s) are ∙ there;
  sci = sci;
  user = named;
  sendable = a-user;
}

-- a worker of a station, with so many jobs and such a log
abbrev pub worker : ℕ → TableId → SeatView → ℕ → List Entry → WorkerAt
worker s table seat jobs log = record { sender = sender s; seat = record { table = table; view = seat }; jobs = jobs; log = log }

pub is-new : (w : WorkerAt) → w.log ≡ [] → IsNew w
is-new w none = record {
  empty = none;
  logged = rw none (record {
    number = refl;
    start = refl;
    loads = omega arith;
    claims_are = refl;
    notes_are = refl;
    entries = tt;
    in_order = tt;
  });
}

pub both-new : (a b : WorkerAt) → a.log ≡ [] → b.log ≡ [] → All IsNew (a ∷ b ∷ [])
both-new a b first second = All-cons IsNew a (b ∷ []) (is-new a first) (All-cons IsNew b [] (is-new b second) (All-nil IsNew))

pub both-done : (a b c d : WorkerAt) → IsDone a c → IsDone b d → AreDone (a ∷ b ∷ []) (c ∷ d ∷ [])
both-done a b c d first second = record { count = refl; each = each }
  where
    each : (i : ℕ) (x : WorkerAt) → i < 2 → IsDone (slice_index_or (a ∷ b ∷ []) i x) (slice_index_or (c ∷ d ∷ []) i x)
    each zero x less = first
    each (suc zero) x less = second
    each (suc (suc i)) x less = absurd (omega (arith, less))

-- ---- the events of a part

abbrev pub event_of : Happening → Event
event_of h = h.event
