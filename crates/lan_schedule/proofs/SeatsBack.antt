-- The seats of workers go out as they are hired, and come back as they are dismissed.
use Rattle.std.proofs.Common.{◌≡◌, ◌+◌, ℕ, List, [], ◌∷◌, ◌++◌, refl, sym, ap, ◌∙◌, subst, inl, inr}
use Rattle.std.specs.Prelude.{IfNone, Option, Some, None}
use Rattle.std.specs.List.{AllByRecursion}
use Rattle.association_slots.specs.Views.{ControlAt, SeatAt}
use Rattle.data_workers.specs.Workers.{AreDone, WorkerAt}
use Rattle.data_workers.specs.declared.sender.Sender.{Sender}
use Rattle.station_words.specs.Seats.{HasJoined, IsOut, NoMoreOut, WasSeated}
use Rattle.station_words.proofs.Public.{out-joined, out-seated}
use Rattle.worker_races.specs.Senders.{IsNew}
use Rattle.worker_races.proofs.Public.{first-done, others-done}
use Rattle.lan_schedule.specs.declared.stage.Stage.{Stage}
use Rattle.worker_races.specs.Going.{HaveJoined}
use Rattle.lan_schedule.specs.World.{beginning, settings}
use Rattle.lan_schedule.specs.Shown.{words_in}
use Rattle.lan_schedule.specs.inside.Beside.{HasSeat, OutFor, WereJoined}

-- ---- of a group at work

pub no-words : (old : List ControlAt) → NoMoreOut old []
no-words old s i out = absurd (let at = out.1 in cc at)

pub staged-out : (old new : Option Stage) (stage later : Stage) → old ≡ Some stage → new ≡ Some later
    → NoMoreOut stage.words later.words → NoMoreOut (words_in old) (words_in new)
staged-out old new stage later is_old is_new out =
    subst (λ (o : Option Stage). NoMoreOut (words_in o) (words_in new)) (sym is_old)
    (subst (λ (o : Option Stage). NoMoreOut stage.words (words_in o)) (sym is_new) out)

pub opened-out : (old new : Option Stage) (stage later : Stage) → old ≡ None → stage.words ≡ []
    → new ≡ Some later → NoMoreOut stage.words later.words → NoMoreOut (words_in old) (words_in new)
opened-out old new stage later is_old empty is_new out =
    subst (λ (o : Option Stage). NoMoreOut (words_in o) (words_in new)) (sym is_old)
    (subst (λ (o : Option Stage). NoMoreOut [] (words_in o)) (sym is_new)
    (subst (λ (cs : List ControlAt). NoMoreOut cs later.words) empty out))

pub same-out : (a b c : List ControlAt) → b ≡ a → NoMoreOut b c → NoMoreOut a c
same-out a b c same out = subst (λ (cs : List ControlAt). NoMoreOut cs c) same out

pub still-out : (a b : List ControlAt) → b ≡ a → NoMoreOut a b
still-out a b same s i out = subst (λ (cs : List ControlAt). IsOut s i cs) same out

pub gone-out : (old new : Option Stage) → new ≡ None → NoMoreOut (words_in old) (words_in new)
gone-out old new is = subst (λ (o : Option Stage). NoMoreOut (words_in old) (words_in o)) (sym is)
    (no-words (words_in old))

pub none-holds : {A : Type 0} (o : Option A) (P : Type 0) → ((x : A) → o ≡ Some x → ⊥) → IfNone o P
    → P
none-holds None P other is = is
none-holds (Some x) P other is = absurd (other x refl)

-- ---- who has a seat

in-left : (s i : ℕ) (xs ys : List WorkerAt) → HasSeat s i xs → HasSeat s i (xs ++ ys)
in-left s i [] ys has = absurd has
in-left s i (x ∷ xs) ys (inl here) = inl here
in-left s i (x ∷ xs) ys (inr later) = inr (in-left s i xs ys later)

in-last : (s i : ℕ) (xs : List WorkerAt) (w : WorkerAt)
    → (w.sender.station ≡ s) × (w.seat.view.number ≡ i + 1) → HasSeat s i (xs ++ w ∷ [])
in-last s i [] w here = inl here
in-last s i (x ∷ xs) w here = inr (in-last s i xs w here)

-- ---- they go out

-- no seat is out for nobody that was not out before
pub for-nobody : (old new : List ControlAt) → OutFor [] old new → NoMoreOut old new
for-nobody old new for_them s i out = elim (for_them s i out) [ inl has ↦ absurd has | inr was ↦ was ]

pub out-more : (crew : List WorkerAt) (w : WorkerAt) (a b c : List ControlAt) → OutFor crew a b
    → WasSeated w.sender.station b c w.seat → OutFor (crew ++ w ∷ []) a c
out-more crew w a b c before was s i out = elim (out-seated w.sender.station b c w.seat was s i out) [
  | inl here ↦ inl (in-last s i crew w here)
  | inr mid ↦ elim (before s i mid) [ inl has ↦ inl (in-left s i crew (w ∷ []) has) | inr first ↦ inr first ]
]

pub out-still : (crew : List WorkerAt) (a b c : List ControlAt) → OutFor crew a b → NoMoreOut b c
    → OutFor crew a c
out-still crew a b c before still s i out = before s i (still s i out)

-- ---- they do their jobs, and keep their seats

pub same-seats : (s i : ℕ) (ws ds : List WorkerAt) → AreDone ws ds → AllByRecursion IsNew ws
    → HasSeat s i ws → HasSeat s i ds
same-seats s i [] ds done new has = absurd has
same-seats s i (w ∷ ws) [] done new has = absurd (let all = done.count in cc all)
same-seats s i (w ∷ ws) (d ∷ ds) done new (inl here) =
    let first = first-done w d ws ds done in
    let log = first.logged w.seat.view new.0.logged in
    inl (ap (λ (sender : Sender). sender.station) first.same.sender ∙ here.0, log.number ∙ here.1)
same-seats s i (w ∷ ws) (d ∷ ds) done new (inr later) =
    inr (same-seats s i ws ds (others-done w d ws ds done) new.1 later)

pub done-out : (ws ds : List WorkerAt) (old new : List ControlAt) → AreDone ws ds
    → AllByRecursion IsNew ws → OutFor ws old new → OutFor ds old new
done-out ws ds old new done fresh before s i out = elim (before s i out) [
  | inl has ↦ inl (same-seats s i ws ds done fresh has)
  | inr was ↦ inr was
]

-- ---- they come back

pub out-less : (w : WorkerAt) (ws : List WorkerAt) (first a b : List ControlAt)
    → OutFor (w ∷ ws) first a → HasJoined w.sender.station w.seat a b → OutFor ws first b
out-less w ws first a b before joined s i out =
    let left = out-joined w.sender.station w.seat a b joined s i out in
    elim (before s i left.1) [
      | inl has ↦ elim has [ inl here ↦ absurd (left.0 here) | inr later ↦ inl later ]
      | inr was ↦ inr was
    ]

-- one came back at once
pub out-returned : (t : ℕ) (a b c : List ControlAt) (seat : SeatAt) → WasSeated t a b seat
    → HasJoined t seat b c → NoMoreOut a c
out-returned t a b c seat was joined s i out =
    let left = out-joined t seat b c joined s i out in
    elim (out-seated t a b seat was s i left.1) [
      | inl here ↦ absurd (left.0 here)
      | inr before ↦ before
    ]

-- all came back, whatever run the words keep up with
came-back : (ws : List WorkerAt) (first a b : List ControlAt) → OutFor ws first a
    → HaveJoined (settings (beginning [])) [] ws a b → NoMoreOut first b
came-back [] first a b before joined =
    subst (λ (cs : List ControlAt). NoMoreOut first cs) (sym joined) (for-nobody first a before)
came-back (w ∷ ws) first a b before joined =
    came-back ws first joined.0 b (out-less w ws first a joined.0 before joined.1) joined.3

pub all-back-in : (ws : List WorkerAt) (first a b : List ControlAt) → OutFor ws first a
    → WereJoined ws a b → NoMoreOut first b
all-back-in ws first a b before joined =
    came-back ws first a b before (joined (settings (beginning [])) [])
